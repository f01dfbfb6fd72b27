-- What `*`, `[` and `->` reach.
use Rattle.std.proofs.Common.{◌≡◌, refl, sym, ap, subst, ◌∙◌, ℕ, Bool, true, false, List}
use Rattle.std.specs.Prelude.{◌++◌, ◌+◌, ◌<◌, ◌^◌, ◌&&◌, not, if◌then◌else◌, length, Option, None, Some, Ok}
use Rattle.ckc_base.specs.declared.arithmetic.Mode.{Mode}
use Rattle.ckc_base.specs.declared.arithmetic.Width.{Width}
use Rattle.ckc_base.specs.declared.places.Pos.{Pos}
use Rattle.ckc_types.specs.declared.types.CType.{CType}
use Rattle.ckc_syntax.specs.declared.tree.Name.{Name}
use Rattle.ckc_syntax.specs.declared.tree.TreeOp.TheVariants as op
use Rattle.ckc_syntax.specs.declared.tree.Node.{Node-F, out-Node, roll-Node}
use Rattle.ckc_syntax.specs.declared.tree.Expr.{every_here-Expr}
use Rattle.ckc_typed.specs.declared.environment.Globals.{Globals}
use Rattle.ckc_typed.specs.declared.typed.Note.{Note}
use Rattle.ckc_typed.specs.Operands.{is_moved}
use Rattle.ckc_typed.specs.Statics.{strings_of_expr}
use Rattle.ckc_typed.specs.Trees.{NotedExpr, NotedLayer}
use Rattle.ckc_typed.specs.Types.{is_integer, is_pointer, is_void, kind_of, element_of}
use Rattle.ckc_typed_welltyped.specs.Expressions.{AnyLimits, AnyNode}
use Rattle.ckc_typed_welltyped.proofs.Nodes.{node_of, node_rolled}
use Rattle.ckc_blame_sound.specs.ckc_bounds_views.specs.Fresh.{own_fresh}
use Rattle.ckc_blame_sound.specs.ckc_bounds_views.specs.Parts.{View, fresh_behind}
use Rattle.ckc_blame_sound.specs.ckc_bounds_views.specs.Judged.{is_counted_kind, access_fault}
use Rattle.ckc_blame_sound.specs.ckc_bounds_views.specs.Views.{node_view, view}
use Rattle.ckc_blame_sound.specs.ckc_bounds_statements.specs.Paths.{Here}
use Rattle.ckc_source.specs.declared.expr.Access.{Access}
use Rattle.ckc_source.specs.declared.expr.Integer.TheVariants.{Int}
use Rattle.ckc_source.specs.declared.outcome.Place.{Place}
use Rattle.ckc_source.specs.declared.outcome.Value.{Value}
use Rattle.ckc_source.specs.Code.{Expr, Number, Memory}
use Rattle.ckc_source.specs.Eval.{Store, evaluated}
use Rattle.ckc_source.specs.Steps.{aimed, aims_at}
use Rattle.ckc_build_values.specs.Kinds.{integer_of, size_behind}
use Rattle.ckc_build_values.specs.Places.{target_place, element_place}
use Rattle.ckc_build_values.specs.Expressions.{Part, part_of}
use Rattle.ckc_blame_sound.specs.Bodies.{AreFresh}
use Rattle.ckc_blame_sound.specs.Points.{HoldsAt}
use Rattle.ckc_blame_sound.specs.Settings.{Setting, AreStrings}
use Rattle.ckc_blame_sound.specs.Typed.{IsRow, HasRow, IsTyped, Agrees}
use Rattle.ckc_blame_pointers.specs.Covered.{DeclareLocals, IsSoundStore, IsCoveredExpr, IsCovered}
use Rattle.ckc_blame_pointers.specs.Owed.{Comes}
use Rattle.ckc_blame_pointers.proofs.Binary.{ExprClaims}
use Rattle.ckc_blame_pointers.proofs.Elements.{IsRanged, ranged_pointer}
use Rattle.ckc_blame_pointers.proofs.Induction.{expr_claims}
use Rattle.ckc_blame_pointers.proofs.Inside.{IsJudged, judged_is, one_part, two_parts, parts_every, node_every, PartsEvery}
use Rattle.ckc_blame_pointers.proofs.Numbers.{nothing_behind, same_number}
use Rattle.ckc_blame_pointers.proofs.Runs.{comes_meant}
use Rattle.ckc_blame_sound.proofs.Claims.{plain_is}
use Rattle.ckc_source.specs.Words.{exact, elements_behind}
use Rattle.ckc_blame_pointers.proofs.Strings.{first_strings, later_strings}
use Rattle.ckc_blame_pointers.proofs.Sums.{fresh_on}
use Rattle.ckc_blame_pointers.proofs.Later.{next_more, left_room, right_room, parts_room}
use Rattle.ckc_blame_given.specs.Targets.{IsThrough}
use Rattle.ckc_blame_given.proofs.Hits.{IsHit, counted_aims, through_aims}
use Rattle.ckc_blame_given.proofs.Layers.{node_whole, viewed, view_by, view_is, part_is, part_by}

pub viewed_type : (s : Setting) (e : NotedExpr) → (view s.frame e).ctype ≡ e.note.ctype
viewed_type s e = ap (λ (v : View). v.ctype) (view_is s.frame e)

pub parted_type : (e : NotedExpr) → (part_of e).ctype ≡ e.note.ctype
parted_type e = ap (λ (q : Part). q.ctype) (part_is e)

some_if : (b : Bool) (t r : CType) → ◌≡◌ {A = Option CType} (if b then Some t else None) (Some r) → t ≡ r
some_if true t r e = cc
some_if false t r e = absurd (cc)

pub node_is : (e : NotedExpr) (x : NotedLayer) → out-Node Name Note e.node ≡ x → e.node ≡ node_of x
node_is e x out = sym (node_whole e.node) ∙ ap (roll-Node Name Note) out ∙ node_rolled x

module _ (globals : Globals) (s : Setting) (agrees : Agrees globals s) (declares : DeclareLocals s) (store : Store) (entry : List ℕ) (next : ℕ) (ready : IsSoundStore s store next) (here : Here) (h : HoldsAt s store entry here)
    (fresh : ℕ) (are : AreFresh s.frame fresh) where
  -- There is room for the fresh variables of an expression.
  abbrev pub HasRoom : NotedExpr → Type 0
  HasRoom e = fresh + length ((view s.frame e).fresh here.at) < 2 ^ 32

  -- and for those of its parts
  pub node_room : (e : NotedExpr) → HasRoom e → (x : NotedLayer) → out-Node Name Note e.node ≡ x → fresh + length ((node_view s.frame (viewed s.frame x)).fresh here.at) < 2 ^ 32
  node_room e room x out =
      parts_room fresh ((node_view s.frame (viewed s.frame x)).fresh here.at) (own_fresh e.note.ctype (node_view s.frame (viewed s.frame x)) here.at.facts)
      (subst (λ (v : View). fresh + length (v.fresh here.at) < 2 ^ 32) (subst (λ y. view s.frame e ≡ view_by s.frame e y) out (view_is s.frame e)) room)

  -- what a judged expression says of its node
  pub node_judged_at : (e : NotedExpr) → (view s.frame e).judged fresh here.at ≡ Ok e → (x : NotedLayer) → out-Node Name Note e.node ≡ x
      → IsJudged (node_view s.frame (viewed s.frame x)) e.pos e.note e.node fresh here.at
  node_judged_at e judged x out =
      subst (λ x. IsJudged (node_view s.frame (viewed s.frame x)) e.pos e.note e.node fresh here.at) out
      (judged_is (node_view s.frame (viewed s.frame (out-Node Name Note e.node))) e.pos e.note e.node fresh here.at (subst (λ (v : View). v.judged fresh here.at ≡ Ok e) (view_is s.frame e) judged))

  pub row_at : (e : NotedExpr) → IsTyped globals s e → (x : NotedLayer) → out-Node Name Note e.node ≡ x → IsRow globals s x e.note
  row_at e typed x out = subst (λ x. IsRow globals s x e.note) out (every_here-Expr Name Note AnyLimits AnyNode (HasRow globals s) e typed)

  pub parts_at : (e : NotedExpr) → IsTyped globals s e → (x : NotedLayer) → out-Node Name Note e.node ≡ x → PartsEvery (HasRow globals s) x
  parts_at e typed x out = subst (PartsEvery (HasRow globals s)) out (parts_every (HasRow globals s) e.node (node_every (HasRow globals s) e typed))

  pub few : (mode : Mode) (f : NotedExpr) → IsCovered mode s store here.seen f → (view s.frame f).values + 1 < 2 ^ 32
  few mode f c = (every_here-Expr Name Note AnyLimits AnyNode (IsCoveredExpr mode s store here.seen) f c.0).few

  pub claims : (mode : Mode) (f : NotedExpr) → IsTyped globals s f → IsCovered mode s store here.seen f → HasRoom f → (view s.frame f).judged fresh here.at ≡ Ok f → (k : ℕ)
      → AreStrings s k (strings_of_expr f) → Comes mode (ExprClaims s store entry here f) (evaluated store ((part_of f).value s.text s.variables k))
  claims mode f typed covered room judged k strings =
      comes_meant mode (ExprClaims s store entry here f) (evaluated store ((part_of f).value s.text s.variables k)) (expr_claims mode globals s agrees declares store entry next ready f typed here covered h fresh room are judged k strings)

  ranged_at : (mode : Mode) (f : NotedExpr) (covered : IsCovered mode s store here.seen f) (room : HasRoom f) (place : Pos) → access_fault (view s.frame f) place fresh here.at ≡ None → is_counted_kind (kind_of f.note.ctype) ≡ true
      → (x : Value) → ExprClaims s store entry here f x → IsRanged s store entry next ready here h f fresh (few mode f covered) room are x
  ranged_at mode f covered room place fault counted =
      ranged_pointer s store entry next ready here h f fresh (few mode f covered) room are place (ap is_counted_kind (ap kind_of (viewed_type s f)) ∙ counted) fault

  module _ (mode : Mode) (Q : Place → Type 0) (width : Width) (offset k : ℕ) where
    -- ---- the pointer before `*` and `->`

    pub behind_aims : (f : NotedExpr) → IsTyped globals s f → (covered : IsCovered mode s store here.seen f) → AreStrings s k (strings_of_expr f) → IsThrough s f → HasRoom f → (view s.frame f).judged fresh here.at ≡ Ok f → (place : Pos) → access_fault (view s.frame f) place fresh here.at ≡ None
        → ((x : Value) → evaluated store ((part_of f).value s.text s.variables k) ≡ Ok x → (a : ℕ) → a ≡ x.number
        → (access : Access) → access.offset ≡ offset → IsHit s store f.note.ctype access x a → Comes mode Q (aims_at store width access x.range a))
        → Comes mode Q (aimed store (Memory width (record (target_place s.text.layout f.note.ctype place ((part_of f).value s.text s.variables k)).access { offset = offset }) ((part_of f).value s.text s.variables k) (Number 0)))
    behind_aims f typed covered strings through room judged place fault goes =
        through_aims mode s store entry next ready here h f place ((part_of f).value s.text s.variables k) (claims mode f typed covered room judged k strings) offset Q width through fresh (few mode f covered) room are
        (ranged_at mode f covered room place fault)
        (λ x j is there a exactly hit.
        let none : j.number ≡ 0 = plain_is 0 j there in
        goes x is a
        (same_number a x.number (exactly ∙ ap (λ n. elements_behind x.number (size_behind s.text.layout f.note.ctype) (exact Int n)) none ∙ nothing_behind x.number (size_behind s.text.layout f.note.ctype))) _ refl hit)

    module _ (e : NotedExpr) (typed : IsTyped globals s e) (room : HasRoom e) (judged : (view s.frame e).judged fresh here.at ≡ Ok e)
        (goes : (t : CType) → element_of t ≡ e.note.ctype → (access : Access) → access.offset ≡ offset → (x : Value) (a : ℕ) → IsHit s store t access x a → Comes mode Q (aims_at store width access x.range a)) where
      -- what is aimed at by a layer
      abbrev pub Aims : NotedLayer → Type 0
      Aims x =
          Comes mode Q (aimed store (Memory width (record ((part_by e x).place s.text s.variables k).access { offset = offset }) ((part_by e x).place s.text s.variables k).pointer ((part_by e x).place s.text s.variables k).index))

      pub deref_aims : (f : NotedExpr) → out-Node Name Note e.node ≡ Node-F.Un op.Deref f → IsCovered mode s store here.seen f → AreStrings s k (strings_of_expr f) → IsThrough s f → Aims (Node-F.Un op.Deref f)
      deref_aims f out covered strings through =
          let j = node_judged_at e judged (Node-F.Un op.Deref f) out in
          let row = row_at e typed (Node-F.Un op.Deref f) out in
          subst (λ u. Comes mode Q (aimed store (Memory width (record (target_place s.text.layout u e.pos v).access { offset = offset }) v (Number 0)))) (sym (parted_type f))
          (behind_aims f (parts_at e typed (Node-F.Un op.Deref f) out) covered strings through (node_room e room (Node-F.Un op.Deref f) out)
          (one_part (λ a. Node-F.Un op.Deref a) (λ a b e. cc) _ f (j.node ∙ ap Ok (node_is e (Node-F.Un op.Deref f) out))) e.pos j.fault
          (λ x is a exactly access at hit. goes f.note.ctype (some_if (is_pointer f.note.ctype && not (is_void (element_of f.note.ctype))) (element_of f.note.ctype) e.note.ctype row.row) access at x a hit))
        where
          v : Expr
          v = (part_of f).value s.text s.variables k

      pub index_aims : (f g : NotedExpr) → out-Node Name Note e.node ≡ Node-F.Index f g → IsCovered mode s store here.seen f → IsCovered mode s store here.seen g → AreStrings s k (strings_of_expr f ++ strings_of_expr g)
          → is_counted_kind (kind_of f.note.ctype) ≡ true → Aims (Node-F.Index f g)
      index_aims f g out covered too strings counted =
          let j = node_judged_at e judged (Node-F.Index f g) out in
          let row = row_at e typed (Node-F.Index f g) out in
          let typed_parts : IsTyped globals s f × IsTyped globals s g = parts_at e typed (Node-F.Index f g) out in
          let left : HasRoom f = left_room fresh ((view s.frame f).fresh here.at) ((view s.frame g).fresh here.at) (node_room e room (Node-F.Index f g) out) in
          let parts = two_parts (λ a b. Node-F.Index a b) (λ a b c d e. (cc, cc)) _ _ f g (j.node ∙ ap Ok (node_is e (Node-F.Index f g) out)) in
          subst (λ u. Of u (part_of g).ctype) (sym (parted_type f)) (subst (λ u. Of f.note.ctype u) (sym (parted_type g))
          (counted_aims mode s store entry next ready here h f e.pos v (claims mode f typed_parts.0 covered left parts.0 k (first_strings s f (strings_of_expr g) k strings)) offset Q width fresh (few mode f covered) left are (integer_of g.note.ctype) w (ExprClaims s store entry here g)
          (comes_meant mode (ExprClaims s store entry here g) (evaluated store w) (expr_claims mode globals s agrees declares store entry next ready g typed_parts.1 here too h (fresh_behind (view s.frame f) fresh here.at) (right_room fresh ((view s.frame f).fresh here.at) ((view s.frame g).fresh here.at) (node_room e room (Node-F.Index f g) out))
          (fresh_on s store entry here h fresh (fresh_behind (view s.frame f) fresh here.at) (next_more fresh ((view s.frame f).fresh here.at) left) are) parts.1 (k + (part_of f).literals) (later_strings s f (strings_of_expr g) k strings)))
          counted (ranged_at mode f covered left e.pos j.fault counted)
          (λ x i is there a exactly hit. goes f.note.ctype (some_if (is_moved f.note.ctype && is_integer g.note.ctype) (element_of f.note.ctype) e.note.ctype row.row) _ refl x a hit)))
        where
          v : Expr
          v = (part_of f).value s.text s.variables k

          w : Expr
          w = (part_of g).value s.text s.variables (k + (part_of f).literals)

          Of : CType → CType → Type 0
          Of t u = Comes mode Q (aimed store (Memory width (record (element_place s.text.layout t e.pos (integer_of u) v w).access { offset = offset }) v w))
