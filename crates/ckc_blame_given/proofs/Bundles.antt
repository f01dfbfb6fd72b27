-- The assignments of a bundle go together: their targets are locals, or members of one structure.
use Rattle.std.proofs.Common.{◌≡◌, inl, inr, refl, sym, ap, subst, ◌∙◌, ℕ, Bool, true, false, List, [], ◌∷◌, ◌++◌}
use Rattle.std.specs.Prelude.{◌==◌, ◌&&◌, ◌||◌, not, nat_le, if◌then◌else◌, length, slice_index, Option, None, Some, IsSome}
use Rattle.std.specs.Option.{option_map}
use Rattle.std.specs.List.{Contains, list_any, filter_map, cons_option}
use Rattle.std.proofs.lemmas.Bool.{and_parts, eqb-true, eq-eqb, ne_eqb}
use Rattle.std.proofs.lemmas.List.Elements.{filter_map-append, Contains-append_left, Contains-append_right}
use Rattle.ckc_base.specs.declared.places.Pos.{Pos}
use Rattle.ckc_types.specs.declared.types.CType.{CType-F, out-CType}
use Rattle.ckc_syntax.specs.declared.tree.Name.{Name}
use Rattle.ckc_syntax.specs.declared.tree.Name.TheVariants as name
use Rattle.ckc_syntax.specs.declared.tree.Act.{Act-F, out-Act}
use Rattle.ckc_syntax.specs.declared.tree.Node.{Node-F, out-Node}
use Rattle.ckc_syntax.specs.declared.tree.Expr.{every_here-Expr}
use Rattle.ckc_typed.specs.declared.environment.Globals.{Globals}
use Rattle.ckc_typed.specs.declared.typed.Note.{Note}
use Rattle.ckc_typed.specs.Trees.{NotedAct, NotedExpr, NotedLayer, NotedStmt}
use Rattle.ckc_typed.specs.Operands as operands
use Rattle.ckc_typed.specs.Types.{element_of}
use Rattle.ckc_typed_welltyped.specs.Expressions.{AnyLimits, AnyNode}
use Rattle.ckc_blame_sound.specs.ckc_bounds_points.specs.Flow.{State}
use Rattle.ckc_blame_sound.specs.ckc_bounds_ranges.specs.Bundles.{Mention, name_of_node, target_of_node, local_target, through_target, of_target, mention, is_call, is_in_the_way, may_follow, names_earlier, target_behind, target_in, and_rest, all_follow, is_bundle}
use Rattle.ckc_blame_sound.specs.ckc_bounds_ranges.specs.Members.{is_target}
use Rattle.ckc_blame_sound.specs.ckc_bounds_views.specs.declared.variables.Member.{Member}
use Rattle.ckc_blame_sound.specs.ckc_bounds_views.specs.Fresh.{member_in, member_of_node}
use Rattle.ckc_blame_sound.specs.ckc_bounds_views.specs.Parts.{View, capped, fresh_behind}
use Rattle.ckc_blame_sound.specs.ckc_bounds_views.specs.Views.{view}
use Rattle.ckc_blame_sound.specs.ckc_bounds_stores.specs.Stores.{Store, with_store, stores_of, numbered, members_assigned}
use Rattle.ckc_blame_sound.specs.ckc_bounds_stores.specs.Targets.{local_in, local_of}
use Rattle.ckc_build_values.specs.Names.{address_of}
use Rattle.ckc_blame_sound.specs.Settings.{Setting}
use Rattle.ckc_blame_sound.specs.Typed.{IsRow, HasRow, IsTyped}
use Rattle.ckc_blame_sound.proofs.Ranges.{contains_at}
use Rattle.ckc_blame_sound.proofs.Shapes.{contained_stands}
use Rattle.ckc_blame_sound.proofs.Tests.{right_of}
use Rattle.ckc_blame_given.specs.Targets.{pointed_by, placed_by, begin_in, begin_of}
use Rattle.ckc_blame_given.proofs.Places.{member_struct}
use Rattle.ckc_blame_given.specs.Together.{AreMembersAt, AreLocals, AreTogether}
use Rattle.ckc_blame_given.proofs.Layers.{viewed, view_is, mentioned, mention_is}
use Rattle.ckc_blame_given.proofs.Pointers.{viewed_type}

-- ---- options

pub option_by : {T : Type 0} (P : Option T → Type 0) → P None → ((t : T) → P (Some t)) → (o : Option T) → P o
option_by P none some None = none
option_by P none some (Some t) = some t

pub bool_by : (P : Bool → Type 0) → P true → P false → (b : Bool) → P b
bool_by P a b true = a
bool_by P a b false = b

clash : true ≡ false → ⊥
clash e = absurd cc

-- ---- targets

-- the target that an expression is: a local, or a member of what a local points to or of a static object
pub data Aim : Type 0 where
  AtLocal : ℕ → Aim
  Through : ℕ → ℕ → Aim
  Of : ℕ → ℕ → Aim

abbrev local_aim : Name → Option Aim
local_aim (name.Local k) = Some (AtLocal k)
local_aim n = None

abbrev through_aim : NotedLayer → Name → Option Aim
through_aim (Node-F.Name (name.Local k)) (name.Member m) = Some (Through k m)
through_aim x n = None

abbrev of_aim : NotedLayer → Name → Option Aim
of_aim (Node-F.Name (name.Static k)) (name.Member m) = Some (Of k m)
of_aim x n = None

abbrev aim_in : NotedLayer → Option Aim
aim_in (Node-F.Name n) = local_aim n
aim_in (Node-F.Arrow e n at) = through_aim (out-Node Name Note e.node) n
aim_in (Node-F.Dot e n at) = of_aim (out-Node Name Note e.node) n
aim_in x = None

abbrev aim_of : NotedExpr → Option Aim
aim_of e = aim_in (out-Node Name Note e.node)

-- what is said of such a target
abbrev said : Option Aim → Mention
said None = record { name = None; target = None; names = λ t. false }
said (Some (AtLocal k)) = record { name = None; target = local_target (name.Local k); names = λ t. false }
said (Some (Through k m)) = record { name = None; target = through_target (Some (name.Local k)) (name.Member m); names = λ t. false }
said (Some (Of k m)) = record { name = None; target = of_target (Some (name.Static k)) (name.Member m); names = λ t. false }

local_said : (n : Name) → (said (local_aim n)).target ≡ local_target n
local_said (name.Local k) = refl
local_said n = refl

through_said : (x : NotedLayer) (n : Name) → (said (through_aim x n)).target ≡ through_target (name_of_node (mentioned x)) n
through_said (Node-F.Name (name.Local k)) (name.Member m) = refl
through_said (Node-F.Name (name.Local k)) n = refl
through_said (Node-F.Name q) n = refl
through_said x n = refl

of_said : (x : NotedLayer) (n : Name) → (said (of_aim x n)).target ≡ of_target (name_of_node (mentioned x)) n
of_said (Node-F.Name (name.Static k)) (name.Member m) = refl
of_said (Node-F.Name (name.Static k)) n = refl
of_said (Node-F.Name q) n = refl
of_said x n = refl

named_by : (e : NotedExpr) → (mention e).name ≡ name_of_node (mentioned (out-Node Name Note e.node))
named_by e = ap (λ (m : Mention). m.name) (mention_is e)

layer_said : (x : NotedLayer) → (said (aim_in x)).target ≡ target_of_node (mentioned x)
layer_said (Node-F.Name n) = local_said n
layer_said (Node-F.Arrow e n at) = through_said (out-Node Name Note e.node) n ∙ ap (λ q. through_target q n) (sym (named_by e))
layer_said (Node-F.Dot e n at) = of_said (out-Node Name Note e.node) n ∙ ap (λ q. of_target q n) (sym (named_by e))
layer_said x = refl

target_said : (e : NotedExpr) → (mention e).target ≡ (said (aim_of e)).target
target_said e = ap (λ (m : Mention). m.target) (mention_is e) ∙ sym (layer_said (out-Node Name Note e.node))

-- ---- which targets stand after which

-- the later of two targets may stand after the earlier one
abbrev MayFollow : Option Aim → Option Aim → Type 0
MayFollow (Some (AtLocal j)) (Some (AtLocal k)) = Unit {0}
MayFollow (Some (Through j m)) (Some (Through k n)) = (j ≡ k) × (m ≡ n → ⊥)
MayFollow (Some (Of j m)) (Some (Of k n)) = (j ≡ k) × (m ≡ n → ⊥)
MayFollow a b = ⊥

same_apart : (j k m n : ℕ) → (((j == k) && (m == n)) || not (j == k)) ≡ false → (j ≡ k) × (m ≡ n → ⊥)
same_apart j k m n e = by (j == k) (m == n) refl refl e
  where
    by : (a b : Bool) → (j == k) ≡ a → (m == n) ≡ b → ((a && b) || not a) ≡ false → (j ≡ k) × (m ≡ n → ⊥)
    by true false f g e = (eqb-true j k f, λ same. (let no : (m == n) ≡ true = eq-eqb m n same in absurd cc))
    by true true f g e = absurd cc
    by false b f g e = absurd (by_or b e)
      where
        by_or : (b : Bool) → ((false && b) || not false) ≡ false → ⊥
        by_or true e = absurd cc
        by_or false e = absurd cc

not_in_the_way : {T : Type 0} (f : NotedExpr → Option T) (w : T → Bool) (es : List NotedExpr) (h : NotedExpr) → Contains es h → not (list_any w (filter_map f es)) ≡ true → (s : T) → f h ≡ Some s → w s ≡ false
not_in_the_way {T} f w es h c e s is = by (w s) refl
  where
    any_front : (xs : List T) (ys : List T) → w s ≡ true → list_any w (xs ++ s ∷ ys) ≡ true
    any_front [] ys t = ap (λ b. b || list_any w ys) t
    any_front (x ∷ xs) ys t = right_of (w x) (list_any w (xs ++ s ∷ ys)) (any_front xs ys t)

    there : w s ≡ true → list_any w (filter_map f es) ≡ true
    there t =
        let d = contained_stands es h c in
        let split : filter_map f es ≡ filter_map f d.0 ++ s ∷ filter_map f d.1 =
        ap (filter_map f) d.2 ∙ filter_map-append f d.0 (h ∷ d.1) ∙ ap (λ o. filter_map f d.0 ++ cons_option o (filter_map f d.1)) is in
        subst (λ xs. list_any w xs ≡ true) (sym split) (any_front (filter_map f d.0) (filter_map f d.1) t)

    by : (b : Bool) → w s ≡ b → w s ≡ false
    by false t = t
    by true t = absurd (both (list_any w (filter_map f es)) e (there t))
      where
        both : (a : Bool) → not a ≡ true → a ≡ true → ⊥
        both true x y = absurd cc
        both false x y = absurd cc

-- an assignment to e may stand after those to some expressions
abbrev MayBeNext : List NotedExpr → NotedExpr → Type 0
MayBeNext es e = and_rest (mention e).target (may_follow (filter_map (λ e. (mention e).target) es)) ≡ true

next_follows : (es : List NotedExpr) (e h : NotedExpr) → MayBeNext es e → Contains es h → IsSome (aim_of h) → MayFollow (aim_of h) (aim_of e)
next_follows es e h next c some =
    by (aim_of h) (aim_of e) refl some (subst (λ o. and_rest o (may_follow (filter_map (λ e. (mention e).target) es)) ≡ true) (target_said e) next)
  where
    by : (a b : Option Aim) → aim_of h ≡ a → IsSome a → and_rest (said b).target (may_follow (filter_map (λ e. (mention e).target) es)) ≡ true → MayFollow a b
    by None b is some n = absurd (cc)
    by (Some a) None is some n = absurd (cc)
    by (Some (AtLocal j)) (Some (AtLocal k)) is some n = tt
    by (Some (AtLocal j)) (Some (Through k m)) is some n = absurd (clash (not_in_the_way (λ e. (mention e).target) (is_in_the_way _) es h c n _ (target_said h ∙ ap (λ o. (said o).target) is)))
    by (Some (AtLocal j)) (Some (Of k m)) is some n = absurd (clash (not_in_the_way (λ e. (mention e).target) (is_in_the_way _) es h c n _ (target_said h ∙ ap (λ o. (said o).target) is)))
    by (Some (Through j l)) (Some (AtLocal k)) is some n = absurd (clash (not_in_the_way (λ e. (mention e).target) (is_in_the_way _) es h c n _ (target_said h ∙ ap (λ o. (said o).target) is)))
    by (Some (Through j l)) (Some (Through k m)) is some n = same_apart j k l m (not_in_the_way (λ e. (mention e).target) (is_in_the_way _) es h c n _ (target_said h ∙ ap (λ o. (said o).target) is))
    by (Some (Through j l)) (Some (Of k m)) is some n = absurd (clash (not_in_the_way (λ e. (mention e).target) (is_in_the_way _) es h c n _ (target_said h ∙ ap (λ o. (said o).target) is)))
    by (Some (Of j l)) (Some (AtLocal k)) is some n = absurd (clash (not_in_the_way (λ e. (mention e).target) (is_in_the_way _) es h c n _ (target_said h ∙ ap (λ o. (said o).target) is)))
    by (Some (Of j l)) (Some (Through k m)) is some n = absurd (clash (not_in_the_way (λ e. (mention e).target) (is_in_the_way _) es h c n _ (target_said h ∙ ap (λ o. (said o).target) is)))
    by (Some (Of j l)) (Some (Of k m)) is some n = same_apart j k l m (not_in_the_way (λ e. (mention e).target) (is_in_the_way _) es h c n _ (target_said h ∙ ap (λ o. (said o).target) is))

next_some : (es : List NotedExpr) (e : NotedExpr) → MayBeNext es e → IsSome (aim_of e)
next_some es e next = by (aim_of e) (subst (λ o. and_rest o (may_follow (filter_map (λ e. (mention e).target) es)) ≡ true) (target_said e) next)
  where
    by : (b : Option Aim) → and_rest (said b).target (may_follow (filter_map (λ e. (mention e).target) es)) ≡ true → IsSome b
    by None n = absurd (cc)
    by (Some a) n = refl

-- each may stand after those before it
unfoldable AreNext : List NotedExpr → List Store → Type 0
AreNext es [] = Unit {0}
AreNext es (q ∷ rest) = MayBeNext es q.target × AreNext (es ++ q.target ∷ []) rest

-- an assignment that may stand there, and the targets before the rest
behind_is : (es : List NotedExpr) (e f : NotedExpr) (rest : List NotedStmt)
    → and_rest (target_behind (filter_map (λ e. (mention e).target) es) (mention e).target f) (λ t. all_follow rest (filter_map (λ e. (mention e).target) es ++ t ∷ [])) ≡ true
    → MayBeNext es e × (all_follow rest (filter_map (λ e. (mention e).target) (es ++ e ∷ [])) ≡ true)
behind_is es e f rest h =
    let r = option_by
    (λ o. and_rest (target_behind (filter_map (λ e. (mention e).target) es) o f) (λ t. all_follow rest (filter_map (λ e. (mention e).target) es ++ t ∷ [])) ≡ true
    → (and_rest o (may_follow (filter_map (λ e. (mention e).target) es)) ≡ true) × (all_follow rest (filter_map (λ e. (mention e).target) es ++ cons_option o []) ≡ true))
    (λ h. absurd (cc))
    (λ t h.
    let c = bool_by
    (λ c. and_rest (if c then Some t else None) (λ t. all_follow rest (filter_map (λ e. (mention e).target) es ++ t ∷ [])) ≡ true
    → (c ≡ true) × (all_follow rest (filter_map (λ e. (mention e).target) es ++ t ∷ []) ≡ true))
    (λ h. (refl, h))
    (λ h. absurd (cc))
    (may_follow (filter_map (λ e. (mention e).target) es) t && (not (is_call f) && not (names_earlier (filter_map (λ e. (mention e).target) es) f))) h in
    ((and_parts (may_follow (filter_map (λ e. (mention e).target) es) t) (not (is_call f) && not (names_earlier (filter_map (λ e. (mention e).target) es) f)) c.0).0, c.1))
    (mention e).target h in
    (r.0, subst (λ ts. all_follow rest ts ≡ true) (sym (filter_map-append (λ e. (mention e).target) es (e ∷ []))) r.1)

follows : (ss : List NotedStmt) (es : List NotedExpr) → all_follow ss (filter_map (λ e. (mention e).target) es) ≡ true → AreNext es (stores_of ss)
unfolding AreNext
follows [] es h = tt
follows (st ∷ rest) es h = by (λ es h. follows rest es h) (out-Act Name Note st.body) h
  where
    by : ((es : List NotedExpr) → all_follow rest (filter_map (λ e. (mention e).target) es) ≡ true → AreNext es (stores_of rest)) → (a : Act-F Name Note NotedAct NotedStmt)
        → and_rest (target_in (filter_map (λ e. (mention e).target) es) a) (λ t. all_follow rest (filter_map (λ e. (mention e).target) es ++ t ∷ [])) ≡ true → AreNext es (with_store a st.pos (stores_of rest))
    by later (Act-F.Assign e f) h = let r = behind_is es e f rest h in (r.0, later (es ++ e ∷ []) r.1)
    by later a h = absurd (cc)

-- a number is none of some
unfoldable IsNew : ℕ → List ℕ → Type 0
IsNew m [] = Unit {0}
IsNew m (n ∷ ns) = (m ≡ n → ⊥) × IsNew m ns

-- ---- pairs of targets

unfoldable Follows : Option Aim → List Store → Type 0
Follows a [] = Unit {0}
Follows a (q ∷ rest) = MayFollow a (aim_of q.target) × Follows a rest

unfoldable Pairs : List Store → Type 0
Pairs [] = Unit {0}
Pairs (q ∷ rest) = IsSome (aim_of q.target) × Follows (aim_of q.target) rest × Pairs rest

head_follows : (es : List NotedExpr) (h : NotedExpr) → Contains es h → IsSome (aim_of h) → (ss : List Store) → AreNext es ss → Follows (aim_of h) ss
unfolding AreNext Follows
head_follows es h c some [] are = tt
head_follows es h c some (q ∷ rest) are =
    (next_follows es q.target h are.0 c some, head_follows (es ++ q.target ∷ []) h (Contains-append_left es (q.target ∷ []) h c) some rest are.1)

pairs : (es : List NotedExpr) (ss : List Store) → AreNext es ss → Pairs ss
unfolding AreNext Pairs
pairs es [] are = tt
pairs es (q ∷ rest) are =
    let some = next_some es q.target are.0 in
    (some, head_follows (es ++ q.target ∷ []) q.target (Contains-append_right es (q.target ∷ []) q.target (contains_at (q.target ∷ []) 0 q.target refl)) some rest are.1, pairs (es ++ q.target ∷ []) rest are.1)

-- ---- where a target lies

through_parts : (y : NotedLayer) (n : Name) (k m : ℕ) → through_aim y n ≡ Some (Through k m) → (y ≡ Node-F.Name (name.Local k)) × (n ≡ name.Member m)
through_parts (Node-F.Name (name.Local j)) (name.Member l) k m e =
    let one : j ≡ k = cc in
    let two : l ≡ m = cc in
    (ap (λ i. Node-F.Name (name.Local i)) one, ap name.Member two)
through_parts (Node-F.Name (name.Local j)) n k m e = absurd (cc)
through_parts y n k m e = absurd (cc)

of_parts : (y : NotedLayer) (n : Name) (k m : ℕ) → of_aim y n ≡ Some (Of k m) → (y ≡ Node-F.Name (name.Static k)) × (n ≡ name.Member m)
of_parts (Node-F.Name (name.Static j)) (name.Member l) k m e =
    let one : j ≡ k = cc in
    let two : l ≡ m = cc in
    (ap (λ i. Node-F.Name (name.Static i)) one, ap name.Member two)
of_parts (Node-F.Name (name.Static j)) n k m e = absurd (cc)
of_parts y n k m e = absurd (cc)

not_of : (y : NotedLayer) (n : Name) (k m : ℕ) → through_aim y n ≡ Some (Of k m) → ⊥
not_of (Node-F.Name (name.Local j)) (name.Member l) k m e = absurd (cc)
not_of (Node-F.Name (name.Local j)) n k m e = absurd (cc)
not_of y n k m e = absurd (cc)

not_through : (y : NotedLayer) (n : Name) (k m : ℕ) → of_aim y n ≡ Some (Through k m) → ⊥
not_through (Node-F.Name (name.Static j)) (name.Member l) k m e = absurd (cc)
not_through (Node-F.Name (name.Static j)) n k m e = absurd (cc)
not_through y n k m e = absurd (cc)

not_local : (y : NotedLayer) (n : Name) (k : ℕ) → through_aim y n ≡ Some (AtLocal k) → ⊥
not_local (Node-F.Name (name.Local j)) (name.Member l) k e = absurd (cc)
not_local (Node-F.Name (name.Local j)) n k e = absurd (cc)
not_local y n k e = absurd (cc)

nor_local : (y : NotedLayer) (n : Name) (k : ℕ) → of_aim y n ≡ Some (AtLocal k) → ⊥
nor_local (Node-F.Name (name.Static j)) (name.Member l) k e = absurd (cc)
nor_local (Node-F.Name (name.Static j)) n k e = absurd (cc)
nor_local y n k e = absurd (cc)

-- a target that is a local
at_local : (e : NotedExpr) (k : ℕ) → aim_of e ≡ Some (AtLocal k) → IsSome (local_of e)
at_local e k is = by (out-Node Name Note e.node) is
  where
    by_name : (n : Name) → local_aim n ≡ Some (AtLocal k) → IsSome (local_in (Node-F.Name n))
    by_name (name.Local j) is = refl
    by_name n is = absurd (cc)

    by : (x : NotedLayer) → aim_in x ≡ Some (AtLocal k) → IsSome (local_in x)
    by (Node-F.Name n) is = by_name n is
    by (Node-F.Arrow f n at) is = absurd (not_local (out-Node Name Note f.node) n k is)
    by (Node-F.Dot f n at) is = absurd (nor_local (out-Node Name Note f.node) n k is)
    by x is = absurd (cc)

module _ (globals : Globals) (s : Setting) (locals : List ℕ) where
  -- the member m of the structure that begins at an address
  record IsAt (e : NotedExpr) (begin m : ℕ) : Type 0 where
    pub member : Member
    pub is : (view s.frame e).member ≡ Some member
    pub number : member.number ≡ m
    pub begins : begin_of s.text locals e ≡ Some begin

  row_of : (e : NotedExpr) → IsTyped globals s e → (x : NotedLayer) → out-Node Name Note e.node ≡ x → IsRow globals s x e.note
  row_of e typed x out = subst (λ x. IsRow globals s x e.note) out (every_here-Expr Name Note AnyLimits AnyNode (HasRow globals s) e typed)

  viewed_member : (e : NotedExpr) (x : NotedLayer) → out-Node Name Note e.node ≡ x → (view s.frame e).member ≡ member_of_node (viewed s.frame x)
  viewed_member e x out = ap (λ (v : View). v.member) (view_is s.frame e) ∙ ap (λ x. member_of_node (viewed s.frame x)) out

  arrow_at : (e : NotedExpr) → IsTyped globals s e → (f : NotedExpr) (n : Name) (at : Pos) → out-Node Name Note e.node ≡ Node-F.Arrow f n at → (k m : ℕ)
      → (out-Node Name Note f.node ≡ Node-F.Name (name.Local k)) × (n ≡ name.Member m) → IsAt e (slice_index locals k) m
  arrow_at e typed f n at out k m parts =
      let row = row_of e typed (Node-F.Arrow f n at) out in
      let struct = member_struct globals.structs (element_of f.note.ctype) m e.note.ctype (subst (λ n. operands.dot_type globals.structs (element_of f.note.ctype) n ≡ Some e.note.ctype) parts.1 row.row) in
      record {
        member = record { tag = struct.0; number = m };
        is = viewed_member e (Node-F.Arrow f n at) out ∙ ap (λ u. member_in n (out-CType (element_of u))) (viewed_type s f) ∙ ap (member_in n) struct.1 ∙ ap (λ n. member_in n (CType-F.Struct struct.0)) parts.1;
        number = refl;
        begins = ap (begin_in s.text locals) out ∙ ap (pointed_by locals) parts.0;
      }

  dot_at : (e : NotedExpr) → IsTyped globals s e → (f : NotedExpr) (n : Name) (at : Pos) → out-Node Name Note e.node ≡ Node-F.Dot f n at → (k m : ℕ)
      → (out-Node Name Note f.node ≡ Node-F.Name (name.Static k)) × (n ≡ name.Member m) → IsAt e (address_of s.text k) m
  dot_at e typed f n at out k m parts =
      let row = row_of e typed (Node-F.Dot f n at) out in
      let struct = member_struct globals.structs f.note.ctype m e.note.ctype (subst (λ n. operands.dot_type globals.structs f.note.ctype n ≡ Some e.note.ctype) parts.1 row.row) in
      record {
        member = record { tag = struct.0; number = m };
        is = viewed_member e (Node-F.Dot f n at) out ∙ ap (λ u. member_in n (out-CType u)) (viewed_type s f) ∙ ap (member_in n) struct.1 ∙ ap (λ n. member_in n (CType-F.Struct struct.0)) parts.1;
        number = refl;
        begins = ap (begin_in s.text locals) out ∙ ap (placed_by s.text) parts.0;
      }

  local_no : (n : Name) (k m : ℕ) → local_aim n ≡ Some (Through k m) → ⊥
  local_no (name.Local j) k m e = absurd (cc)
  local_no n k m e = absurd (cc)

  local_not : (n : Name) (k m : ℕ) → local_aim n ≡ Some (Of k m) → ⊥
  local_not (name.Local j) k m e = absurd (cc)
  local_not n k m e = absurd (cc)

  at_through : (e : NotedExpr) → IsTyped globals s e → (k m : ℕ) → aim_of e ≡ Some (Through k m) → IsAt e (slice_index locals k) m
  at_through e typed k m is = by (out-Node Name Note e.node) refl is
    where
      by : (x : NotedLayer) → out-Node Name Note e.node ≡ x → aim_in x ≡ Some (Through k m) → IsAt e (slice_index locals k) m
      by (Node-F.Name n) out is = absurd (local_no n k m is)
      by (Node-F.Arrow f n at) out is = arrow_at e typed f n at out k m (through_parts (out-Node Name Note f.node) n k m is)
      by (Node-F.Dot f n at) out is = absurd (not_through (out-Node Name Note f.node) n k m is)
      by x out is = absurd (cc)

  at_of : (e : NotedExpr) → IsTyped globals s e → (k m : ℕ) → aim_of e ≡ Some (Of k m) → IsAt e (address_of s.text k) m
  at_of e typed k m is = by (out-Node Name Note e.node) refl is
    where
      by : (x : NotedLayer) → out-Node Name Note e.node ≡ x → aim_in x ≡ Some (Of k m) → IsAt e (address_of s.text k) m
      by (Node-F.Name n) out is = absurd (local_not n k m is)
      by (Node-F.Arrow f n at) out is = absurd (not_of (out-Node Name Note f.node) n k m is)
      by (Node-F.Dot f n at) out is = dot_at e typed f n at out k m (of_parts (out-Node Name Note f.node) n k m is)
      by x out is = absurd (cc)

  -- ---- all of them

  -- each target is a member of the structure, and no two are one
  unfoldable AreAt : ℕ → List Store → List ℕ → Type 0
  AreAt begin [] [] = Unit {0}
  AreAt begin (q ∷ rest) (m ∷ ms) = IsAt q.target begin m × IsNew m ms × AreAt begin rest ms
  AreAt begin _ _ = ⊥

  -- the numbers from which the assignments after one number their values and fresh variables
  abbrev value_on : Store → ℕ → ℕ
  value_on q value = capped value (view s.frame q.right).values

  abbrev fresh_on : State → Store → ℕ → ℕ
  fresh_on at q fresh = fresh_behind (view s.frame q.right) (fresh_behind (view s.frame q.target) fresh at) at

  new_target : (at : State) (begin m : ℕ) (ss : List Store) (ms : List ℕ) → AreAt begin ss ms → IsNew m ms → (value fresh : ℕ) → is_target (members_assigned s.frame (numbered s.frame at value fresh ss)) m ≡ false
  unfolding AreAt IsNew
  new_target at begin m [] [] are new value fresh = refl
  new_target at begin m [] (n ∷ ms) are new value fresh = absurd are
  new_target at begin m (q ∷ ss) [] are new value fresh = absurd are
  new_target at begin m (q ∷ ss) (n ∷ ms) are new value fresh =
      subst (λ o. is_target (cons_option (option_map (λ (m : Member). m.number) o) (members_assigned s.frame (numbered s.frame at (value_on q value) (fresh_on at q fresh) ss))) m ≡ false) (sym are.0.is)
      (neither (are.0.member.number == m) (is_target (members_assigned s.frame (numbered s.frame at (value_on q value) (fresh_on at q fresh) ss)) m)
      (ne_eqb are.0.member.number m (λ e. new.0 (sym e ∙ are.0.number))) (new_target at begin m ss ms are.2 new.1 (value_on q value) (fresh_on at q fresh)))
    where
      neither : (a b : Bool) → a ≡ false → b ≡ false → (a || b) ≡ false
      neither true b e f = absurd (cc)
      neither false b e f = f

  members_at : (at : State) (begin : ℕ) (ss : List Store) (ms : List ℕ) → AreAt begin ss ms → (value fresh : ℕ) → AreMembersAt s locals begin (numbered s.frame at value fresh ss)
  unfolding AreAt AreMembersAt
  members_at at begin [] [] are value fresh = tt
  members_at at begin [] (n ∷ ms) are value fresh = absurd are
  members_at at begin (q ∷ ss) [] are value fresh = absurd are
  members_at at begin (q ∷ ss) (n ∷ ms) are value fresh = (
    record {
      member = are.0.member;
      is = are.0.is;
      begins = are.0.begins;
      new = subst (λ k. is_target (members_assigned s.frame (numbered s.frame at (value_on q value) (fresh_on at q fresh) ss)) k ≡ false) (sym are.0.number)
          (new_target at begin n ss ms are.2 are.1 (value_on q value) (fresh_on at q fresh));
    },
    members_at at begin ss ms are.2 (value_on q value) (fresh_on at q fresh),
  )

  locals_all : (at : State) (k : ℕ) (ss : List Store) → Follows (Some (AtLocal k)) ss → (value fresh : ℕ) → AreLocals (numbered s.frame at value fresh ss)
  unfolding Follows AreLocals
  locals_all at k [] f value fresh = tt
  locals_all at k (q ∷ ss) f value fresh = (by (aim_of q.target) refl f.0, locals_all at k ss f.1 (value_on q value) (fresh_on at q fresh))
    where
      by : (o : Option Aim) → aim_of q.target ≡ o → MayFollow (Some (AtLocal k)) o → IsSome (local_of q.target)
      by (Some (AtLocal j)) is m = at_local q.target j is
      by (Some (Through j n)) is m = absurd m
      by (Some (Of j n)) is m = absurd m
      by None is m = absurd m

  -- the number of the member that a target is
  number_in : Option Aim → ℕ
  number_in (Some (Through j n)) = n
  number_in (Some (Of j n)) = n
  number_in o = 0

  numbers : List Store → List ℕ
  numbers [] = []
  numbers (q ∷ ss) = number_in (aim_of q.target) ∷ numbers ss

  AllTyped : List Store → Type 0
  AllTyped ss = (q : Store) → Contains ss q → IsTyped globals s q.target

  first_typed : (q : Store) (ss : List Store) → AllTyped (q ∷ ss) → IsTyped globals s q.target
  unfolding AllTyped
  first_typed q ss typed = typed q (contains_at (q ∷ ss) 0 q refl)

  rest_typed : (q : Store) (ss : List Store) → AllTyped (q ∷ ss) → AllTyped ss
  unfolding AllTyped
  rest_typed q ss typed r c = typed r (Contains-append_right (q ∷ []) ss r c)

  through_new : (k m : ℕ) (ss : List Store) → Follows (Some (Through k m)) ss → IsNew m (numbers ss)
  unfolding Follows IsNew numbers number_in
  through_new k m [] f = tt
  through_new k m (q ∷ ss) f = (by (aim_of q.target) f.0, through_new k m ss f.1)
    where
      by : (o : Option Aim) → MayFollow (Some (Through k m)) o → m ≡ number_in o → ⊥
      by (Some (Through j n)) h = h.1
      by (Some (AtLocal j)) h = absurd h
      by (Some (Of j n)) h = absurd h
      by None h = absurd h

  of_new : (k m : ℕ) (ss : List Store) → Follows (Some (Of k m)) ss → IsNew m (numbers ss)
  unfolding Follows IsNew numbers number_in
  of_new k m [] f = tt
  of_new k m (q ∷ ss) f = (by (aim_of q.target) f.0, of_new k m ss f.1)
    where
      by : (o : Option Aim) → MayFollow (Some (Of k m)) o → m ≡ number_in o → ⊥
      by (Some (Of j n)) h = h.1
      by (Some (AtLocal j)) h = absurd h
      by (Some (Through j n)) h = absurd h
      by None h = absurd h

  through_all : (k m : ℕ) (ss : List Store) → Follows (Some (Through k m)) ss → Pairs ss → AllTyped ss → AreAt (slice_index locals k) ss (numbers ss)
  unfolding Follows Pairs AreAt numbers number_in
  through_all k m [] f p typed = tt
  through_all k m (q ∷ ss) f p typed =
      let n = by (aim_of q.target) refl f.0 in
      (one n.0 n.1, new n.0 n.1, through_all k m ss f.1 p.2 (rest_typed q ss typed))
    where
      by : (o : Option Aim) → aim_of q.target ≡ o → MayFollow (Some (Through k m)) o → (n : ℕ) × (aim_of q.target ≡ Some (Through k n))
      by (Some (Through j n)) is h = (n, is ∙ ap (λ i. Some (Through i n)) (sym h.0))
      by (Some (AtLocal j)) is h = absurd h
      by (Some (Of j n)) is h = absurd h
      by None is h = absurd h

      one : (n : ℕ) → aim_of q.target ≡ Some (Through k n) → IsAt q.target (slice_index locals k) (number_in (aim_of q.target))
      one n is = subst (λ o. IsAt q.target (slice_index locals k) (number_in o)) (sym is) (at_through q.target (first_typed q ss typed) k n is)

      new : (n : ℕ) → aim_of q.target ≡ Some (Through k n) → IsNew (number_in (aim_of q.target)) (numbers ss)
      new n is = subst (λ o. IsNew (number_in o) (numbers ss)) (sym is) (through_new k n ss (subst (λ o. Follows o ss) is p.1))

  of_all : (k m : ℕ) (ss : List Store) → Follows (Some (Of k m)) ss → Pairs ss → AllTyped ss → AreAt (address_of s.text k) ss (numbers ss)
  unfolding Follows Pairs AreAt numbers number_in
  of_all k m [] f p typed = tt
  of_all k m (q ∷ ss) f p typed =
      let n = by (aim_of q.target) refl f.0 in
      (one n.0 n.1, new n.0 n.1, of_all k m ss f.1 p.2 (rest_typed q ss typed))
    where
      by : (o : Option Aim) → aim_of q.target ≡ o → MayFollow (Some (Of k m)) o → (n : ℕ) × (aim_of q.target ≡ Some (Of k n))
      by (Some (Of j n)) is h = (n, is ∙ ap (λ i. Some (Of i n)) (sym h.0))
      by (Some (AtLocal j)) is h = absurd h
      by (Some (Through j n)) is h = absurd h
      by None is h = absurd h

      one : (n : ℕ) → aim_of q.target ≡ Some (Of k n) → IsAt q.target (address_of s.text k) (number_in (aim_of q.target))
      one n is = subst (λ o. IsAt q.target (address_of s.text k) (number_in o)) (sym is) (at_of q.target (first_typed q ss typed) k n is)

      new : (n : ℕ) → aim_of q.target ≡ Some (Of k n) → IsNew (number_in (aim_of q.target)) (numbers ss)
      new n is = subst (λ o. IsNew (number_in o) (numbers ss)) (sym is) (of_new k n ss (subst (λ o. Follows o ss) is p.1))

  -- pairs that may follow each other go together
  pairs_together : (at : State) (value fresh : ℕ) (ss : List Store) → Pairs ss → AllTyped ss → AreTogether s locals (numbered s.frame at value fresh ss)
  unfolding Pairs AreLocals AreAt AreMembersAt numbers number_in
  pairs_together at value fresh [] p typed = inr (inl tt)
  pairs_together at value fresh (q ∷ ss) p typed = by (aim_of q.target) refl p.0 p.1
    where
      by : (o : Option Aim) → aim_of q.target ≡ o → IsSome o → Follows o ss → AreTogether s locals (numbered s.frame at value fresh (q ∷ ss))
      by None is some f = absurd (cc)
      by (Some (AtLocal k)) is some f = inr (inl (at_local q.target k is, locals_all at k ss f (value_on q value) (fresh_on at q fresh)))
      by (Some (Through k m)) is some f =
          inr (inr (
            slice_index locals k,
            members_at at (slice_index locals k) (q ∷ ss) (m ∷ numbers ss)
                (at_through q.target (first_typed q ss typed) k m is, through_new k m ss f, through_all k m ss f p.2 (rest_typed q ss typed)) value fresh,
          ))
      by (Some (Of k m)) is some f =
          inr (inr (
            address_of s.text k,
            members_at at (address_of s.text k) (q ∷ ss) (m ∷ numbers ss)
                (at_of q.target (first_typed q ss typed) k m is, of_new k m ss f, of_all k m ss f p.2 (rest_typed q ss typed)) value fresh,
          ))

  pub bundle_together : (ss : List NotedStmt) (at : State) (value fresh : ℕ) → is_bundle ss ≡ true → ((q : Store) → Contains (stores_of ss) q → IsTyped globals s q.target)
      → AreTogether s locals (numbered s.frame at value fresh (stores_of ss))
  unfolding AllTyped
  bundle_together ss at value fresh e typed =
      let all = (and_parts (nat_le (length ss) 8) (all_follow ss []) (and_parts (nat_le 2 (length ss)) (nat_le (length ss) 8 && all_follow ss []) e).1).1 in
      pairs_together at value fresh (stores_of ss) (pairs [] (stores_of ss) (follows ss [] all)) typed
