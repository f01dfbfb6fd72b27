-- What the grammar derives, the parser's table derives with the same value: lists to their end, and what the table cuts apart.
use Prim.Native.String.{String}
use Rattle.std.proofs.Common.{◌≡◌, ℕ, List, [], ◌∷◌, ◌++◌, Bool, true, false, ◌⊎◌, inl, inr, refl, sym, ap, subst, ◌∙◌, append_assoc, append-nil, if◌then◌else◌}
use Rattle.std.specs.Prelude.{Option, None, Some, codes}
use Rattle.ckc_base.specs.declared.places.Pos.{Pos}
use Rattle.ckc_base.specs.declared.arithmetic.Mode.{Mode}
use Rattle.ckc_syntax.specs.Spelled.{Spelled}
use Rattle.ckc_syntax.specs.declared.tree.TypeTree.TheVariants as ctype
use Rattle.ckc_syntax.specs.declared.tree.Length.{Length}
use Rattle.ckc_syntax.specs.declared.tree.Init.TheVariants as inits
use Rattle.ckc_syntax.specs.declared.tree.Limits.TheVariants as bounds
use Rattle.ckc_syntax.specs.declared.tree.Node.TheVariants as node
use Rattle.ckc_syntax.specs.declared.tree.Act.TheVariants as act
use Rattle.ckc_parser_grammar.specs.declared.parts.Setting.{Setting}
use Rattle.ckc_parser_grammar.specs.declared.kind.Kind.{Kind}
use Rattle.ckc_parser_grammar.specs.declared.kind.Kind.TheVariants as k
use Rattle.ckc_parser_grammar.specs.code.Kinds.{kind_of_name, kind_of_keyword, kind_of_mark, kind_of_token, is_sign, is_increment, sign_op}
use Rattle.ckc_parser_grammar.specs.code.Grammar.{is_name, is_greater, not_else}
use Rattle.ckc_parser_grammar.specs.code.Grammar as g
use Rattle.ckc_parser_grammar.specs.code.Signs.{glued}
use Rattle.ckc_parser_grammar.specs.code.Derives as D
use Rattle.ckc_parser_grammar.specs.code.Trees as T
use Rattle.ckc_parser_grammar.specs.code.Values as v
use Rattle.ckc_parser_grammar.specs.code.Values.{Value, made, whole, as_items, as_items_of_base, as_item_of_head, as_decls, as_decls_of_base, as_length, as_size, as_init, as_type, as_stars, as_limits, as_declared_limits, as_value, as_expr, as_exprs, as_steps, as_arms, as_posts, as_call, as_increment, as_setting, as_stmt, as_stmts, as_part, as_expr_of_name, as_stmt_of_name}
use Rattle.ckc_grammar.specs.Trees as L
use Rattle.ckc_grammar.specs.Trees.{Item, Decl, Init, Limits, TypeTree, Expr, Stmt, starred, expr_at}
use Rattle.ckc_grammar.specs.Makers.{flat, given, applied, mode_of, length_of, init_of, initial_of, head_of, declared}
use Rattle.ckc_grammar.specs.Productions as l
use Rattle.ckc_grammar.specs.Productions.{keyword, either, mark, word}
use Rattle.ckc_grammar.specs.Derivation.{Word, fits, before_else, Choice, value}
use Rattle.ckc_parser_grammar.proofs.Tokens.{sign_of, keyword_kind, either_kind, mark_kind, word_kind}
use Rattle.ckc_parser_grammar.proofs.Pieces.{comma, is_else, cut}
use Rattle.ckc_parser_grammar.proofs.Back.{At, All, Gives, t_end, t_tok, t_part_at, t_part, t_last, t_by, t_moved, joint, Each, none, more, PostForm, CallRest, no_call, with_call, no_increment, one_increment, Postfix, by_name, by_primary, by_round, Unary, ends, steps, owes, Begun, begun_name, begun_first, begun, call_of, name_rest_of, RestForm, going, setting_form, ExprForm, form, rest_of, expr_of, unary_of, posts_of, calloc_or, unknown_or, BaseForm, tag, scalar, base_of, absent, present, AfterForm, after_form, comma_form, CallForm, of_name, of_type, of_calloc, BinaryForm, binary_form, AssignForm, named_assign, unnamed_assign, TypeForm, type_form, ItemForm, Declares, From, end, token, worth}

pub kw : (s : String) (w : Word) → fits (keyword (codes s)) w ≡ true → (sign_of w).kind ≡ glued w.glued (kind_of_keyword (codes s))
kw s w h = keyword_kind (codes s) w h

pub mk : (s : String) (w : Word) → fits (mark (codes s)) w ≡ true → (sign_of w).kind ≡ glued w.glued (kind_of_mark (codes s))
mk s w h = mark_kind (codes s) w h

pub wd : (s : String) (w : Word) → fits (word (codes s)) w ≡ true → (sign_of w).kind ≡ glued w.glued (kind_of_name (codes s))
wd s w h = word_kind (codes s) w h

pub ei : (s r : String) (c : Kind) (w : Word) → fits (either (codes s) (codes r)) w ≡ true → glued w.glued (kind_of_keyword (codes s)) ≡ c → glued w.glued (kind_of_keyword (codes r)) ≡ c → (sign_of w).kind ≡ c
ei s r c w h i j = either_kind (codes s) (codes r) c w h i j

pub cons_eq : {A : Type 0} {a b : A} {xs ys : List A} → a ≡ b → xs ≡ ys → a ∷ xs ≡ b ∷ ys
cons_eq h k = λ i. h i ∷ k i

pub type_of : {ws : List Word} {b : TypeTree} → TypeForm ws b → Gives g.type_name ws as_type b
type_of (type_form {ps = ps} b d h i) =
    let B = base_of b in
    (_, (λ e. t_by g.TypeName (λ z. refl) (t_part B.1 (t_last d) h)), (λ j. starred (B.2 j) (as_stars ps)) ∙ i)

pub range_of : {ws : List Word} {e : Bool} {o : Option Limits} → From l.range ws e o → Gives g.declared_limits ws as_declared_limits o
range_of (absent h i) = (_, t_moved h (λ z. t_by g.NoLimits (λ z. refl) t_end), i)
range_of (present (after_form {w} y d h) i) = (_, t_moved h (λ z. t_by g.DeclaredLimits (λ z. refl) (t_tok (mk ":" w y) (t_last d.1))), (λ j. Some (d.2 j)) ∙ i)

pub array_of : {ws : List Word} {e : Bool} {o : Option Length} → From (l.opt l.array) ws e o → Gives g.array ws as_length (length_of o)
array_of (absent h i) = (_, t_moved h (λ z. t_by g.NoArray (λ z. refl) t_end), ap length_of i)
array_of (present d i) = (d.0, d.1, d.2 ∙ ap length_of i)

pub first_of_object : {ws : List Word} {e : Bool} {o : Option Init} → From (l.opt (l.after (mark (codes "=")) l.initial)) ws e o → Gives g.initial ws as_init (initial_of o)
first_of_object (absent h i) = (_, t_moved h (λ z. t_by g.NoInitial (λ z. refl) t_end), ap initial_of i)
first_of_object (present (after_form {w} y d h) i) = (_, t_moved h (λ z. t_by g.Initial (λ z. refl) (t_tok (mk "=" w y) (t_last d.1))), d.2 ∙ ap initial_of i)

pub first_of_local : {ws : List Word} {e : Bool} {o : Option Expr} → From (l.opt (l.after (mark (codes "=")) l.right)) ws e o → Gives g.local_initial ws as_init (init_of o)
first_of_local (absent h i) = (_, t_moved h (λ z. t_by g.NoLocalInitial (λ z. refl) t_end), ap init_of i)
first_of_local (present (after_form {w} y d h) i) = (_, t_moved h (λ z. t_by g.LocalInitial (λ z. refl) (t_tok (mk "=" w y) (t_last d.1))), (λ j. inits.One (d.2 j)) ∙ ap init_of i)

pub size_of : {ws : List Word} {e : Bool} {o : Option ℕ} → From (l.opt l.size) ws e o → Gives g.size ws as_size o
size_of (absent h i) = (_, t_moved h (λ z. t_by g.NoSize (λ z. refl) t_end), i)
size_of (present d i) = (_, t_moved d.1 (λ z. t_by g.Size (λ z. refl) (t_tok d.2 t_end)), (λ j. Some (d.3 j)) ∙ i)

pub cast_limits_of : {ws : List Word} {e : Bool} {o : Option Limits} (c : Word) → From (l.opt (l.after comma l.limits)) ws e o → (sign_of c).kind ≡ k.RoundClose → Gives g.cast_limits (ws ++ (c ∷ [])) as_declared_limits o
cast_limits_of c (absent h i) f = (_, t_moved (ap (λ z. z ++ (c ∷ [])) h) (λ z. t_by g.NoCastLimits (λ z. refl) (t_tok f t_end)), i)
cast_limits_of c (present (after_form {w} y d h) i) f = (_, t_moved (ap (λ z. z ++ (c ∷ [])) h) (λ z. t_by g.CastLimits (λ z. refl) (t_tok (mk "," w y) (t_part d.1 (t_tok f t_end) refl))), (λ j. Some (d.2 j)) ∙ i)

pub condition_of : {ws : List Word} {e : Bool} {o : Option Expr} (c : Word) → From (l.opt l.expr) ws e o → (sign_of c).kind ≡ k.Semicolon → Gives g.condition (ws ++ (c ∷ [])) as_value o
condition_of c (absent h i) f = (_, t_moved (ap (λ z. z ++ (c ∷ [])) h) (λ z. t_by g.NoCondition (λ z. refl) (t_tok f t_end)), i)
condition_of c (present d i) f = let X = expr_of d in (_, (λ z. t_by g.Condition (λ z. refl) (t_part X.1 (t_tok f t_end) refl)), (λ j. Some (X.2 j)) ∙ i)

pub start_of : {ws : List Word} {e : Bool} {o : Option Stmt} (c : Word) → From (l.opt l.start) ws e o → (sign_of c).kind ≡ k.Semicolon → Gives g.for_start (ws ++ (c ∷ [])) as_part o
start_of c (absent h i) f = (_, t_moved (ap (λ z. z ++ (c ∷ [])) h) (λ z. t_by g.NoStart (λ z. refl) (t_tok f t_end)), i)
start_of c (present d i) f = let X = d c f in (X.0, X.1, X.2 ∙ i)

pub assign_of : {ws : List Word} {s : Stmt} → AssignForm ws s → Gives g.assign ws as_stmt s
assign_of (named_assign {w} {y = y} f c ps d h i) =
    let C = call_of c in
    let P = posts_of ps in (
      _,
      t_moved h (λ z. t_by g.NamedAssign (λ z. refl) (t_tok f (t_part C.1 (t_part P.1 (t_last d) refl) refl))),
      (λ j. T.changed (T.posted (v.called_or_named w.token (C.2 j)) (as_posts P.0)) (as_increment y) (as_setting y)) ∙ ap (λ z. T.changed z (as_increment y) (as_setting y)) (P.2 _) ∙ i,
    )
assign_of (unnamed_assign d h) = (_, (λ z. t_by g.UnnamedAssign (λ z. refl) (t_last d)), h)

pub step_part_of : {ws : List Word} {e : Bool} {o : Option Stmt} (c : Word) → From (l.opt l.assign) ws e o → (sign_of c).kind ≡ k.RoundClose → Gives g.for_step (ws ++ (c ∷ [])) as_part o
step_part_of c (absent h i) f = (_, t_moved (ap (λ z. z ++ (c ∷ [])) h) (λ z. t_by g.NoStep (λ z. refl) (t_tok f t_end)), i)
step_part_of c (present d i) f = let X = assign_of d in (_, (λ z. t_by g.AssignStep (λ z. refl) (t_part X.1 (t_tok f t_end) refl)), (λ j. Some (X.2 j)) ∙ i)

-- a target with what stands after it
pub post_assign : {us vs ws : List Word} {x : Expr} {s : Stmt} {y : Value} → Postfix us x → All (g.n g.change ∷ []) vs (y ∷ []) → us ++ vs ≡ ws → T.changed x (as_increment y) (as_setting y) ≡ s → AssignForm ws s
post_assign {vs = vs} {y = y} (by_name {w} {cs} {us} f c ps h j) d l q = named_assign f c ps d (joint (w ∷ cs) us vs h l) (ap (λ z. T.changed z (as_increment y) (as_setting y)) j ∙ q)
post_assign {vs = vs} {y = y} (by_primary {us = xs} {vs = ys} {x = u} e ps h j) d l q =
    let P = posts_of ps in
    unnamed_assign (λ z. t_by g.PostfixAssign (λ z. refl) (t_part e (t_part P.1 (t_last d) refl) (joint xs ys vs h l))) (ap (λ z. T.changed z (as_increment y) (as_setting y)) (P.2 _ ∙ j) ∙ q)
post_assign {vs = vs} {y = y} (by_round {a} c {us = xs} {vs = ys} {x = u} f e f2 ps h j) d l q =
    let P = posts_of ps in
    unnamed_assign (t_moved (joint (a ∷ xs) (c ∷ ys) vs h l) (λ z. t_by g.RoundAssign (λ z. refl) (t_tok f (t_last (λ z. t_by g.ParenAssign (λ z. refl) (t_part e (t_tok f2 (t_part P.1 (t_last d) refl)) refl)))))) (ap (λ z. T.changed z (as_increment y) (as_setting y)) (P.2 _ ∙ j) ∙ q)

pub set_assign : {us vs ws : List Word} {x : Expr} {y : Value} {s : Setting} {r : Stmt} → Unary us x → All (g.n g.setting ∷ []) vs (y ∷ []) → as_setting y ≡ Some s → us ++ vs ≡ ws → T.assigned x s ≡ r → AssignForm ws r
set_assign {vs = vs} {s = s} (ends {us = xs} {x = p} post no_increment l q) d e h r =
    post_assign post (λ z. t_by g.SettingChange (λ z. refl) (t_last d)) (ap (λ z. z ++ vs) (cut l) ∙ h) (ap (λ z. T.changed p None z) e ∙ ap (λ z. T.assigned z s) q ∙ r)
set_assign {vs = vs} {s = s} (ends {us = xs} {x = p} post (one_increment a f) l q) d e h r =
    post_assign post (λ z. t_by g.IncrementChange (λ z. refl) (t_tok f (t_last (λ z. t_by g.LaterSetting (λ z. refl) (t_last d))))) (joint xs (a ∷ []) vs l h)
    (ap (λ z. T.changed p (Some (v.increment_at (v.token a.token))) z) e ∙ ap (λ z. T.assigned z s) q ∙ r)
set_assign {vs = vs} {s = s} (steps {a} {us = xs} {y = u} f d0 l q) d e h r =
    unnamed_assign (t_moved (ap (λ z. z ++ vs) l ∙ h) (λ z. t_by g.IncrementAssign (λ z. refl) (t_tok f (t_part d0 (t_last (λ z. t_by g.LaterSetting (λ z. refl) (t_last d))) refl))))
    (ap (λ z. T.stepped (as_expr u) (v.increment_at (v.token a.token)) z) e ∙ ap (λ z. T.assigned z s) q ∙ r)
set_assign {vs = vs} {y = y} {s = s} (owes {y = u} d0 i t) d e h r =
    let G = t vs y d in
    unnamed_assign (t_moved h G.1) (G.2 ∙ ap (λ z. T.changed (as_expr u) None z) e ∙ ap (λ z. T.assigned z s) i ∙ r)

pub step_assign : {a : Word} {us ws : List Word} {x : Expr} {r : Stmt} → is_increment (sign_of a).kind ≡ true → Unary us x → a ∷ us ≡ ws → T.assigned x (T.by_one (v.increment_at (v.token a.token))) ≡ r → AssignForm ws r
step_assign {a} {us} f u h r =
    let U = unary_of u in
    unnamed_assign (t_moved h (λ z. t_by g.IncrementAssign (λ z. refl) (t_tok f (t_part U.1 (t_last (λ z. t_by g.NoSetting (λ z. refl) t_end)) (append-nil us))))) (ap (λ z. T.assigned z (T.by_one (v.increment_at (v.token a.token)))) U.2 ∙ r)

pub post_step : (a : Word) {us ws : List Word} {x : Expr} {r : Stmt} → is_increment (sign_of a).kind ≡ true → Postfix us x → us ++ (a ∷ []) ≡ ws → T.assigned x (T.by_one (v.increment_at (v.token a.token))) ≡ r → AssignForm ws r
post_step a f p h r = post_assign p (λ z. t_by g.IncrementChange (λ z. refl) (t_tok f (t_last (λ z. t_by g.NoSetting (λ z. refl) t_end)))) h r

-- a statement that begins with a name: the table tells apart whether that is `calloc`
named_line : {w : Word} {xs us ws : List Word} {y : Value} (c : Word) → is_name (sign_of w).kind ≡ true → All (g.n g.named_stmt ∷ []) xs (y ∷ []) → (sign_of c).kind ≡ k.Semicolon → w ∷ xs ≡ us → us ++ (c ∷ []) ≡ ws → Gives g.stmt ws as_stmt (as_stmt_of_name y w.token)
named_line {w} {xs} {ws = ws} {y = y} c n d q h h2 = with_name (calloc_or (sign_of w).kind n)
  where
    words : w ∷ (xs ++ (c ∷ [])) ≡ ws
    words = ap (λ z. z ++ (c ∷ [])) h ∙ h2

    with_name : ((sign_of w).kind ≡ k.Calloc) ⊎ (g.is_name_but_calloc (sign_of w).kind ≡ true) → Gives g.stmt ws as_stmt (as_stmt_of_name y w.token)
    with_name (inl m) = (_, t_moved words (λ z. t_by g.CallocStmt (λ z. refl) (t_tok m (t_part (λ z. t_by g.CallocNameStmt (λ z. refl) (t_last d)) (t_tok q t_end) refl))), refl)
    with_name (inr m) = (_, t_moved words (λ z. t_by g.NamedStmt (λ z. refl) (t_tok m (t_part d (t_tok q t_end) refl))), refl)

gives_as : {X : Type 0} {p : g.Part} {ws : List Word} {f : Value → X} {m r : X} → Gives p ws f m → m ≡ r → Gives p ws f r
gives_as d h = (d.0, d.1, d.2 ∙ h)

-- an assignment as a statement
pub assign_stmt : {ws us : List Word} {s : Stmt} (c : Word) → AssignForm us s → (sign_of c).kind ≡ k.Semicolon → us ++ (c ∷ []) ≡ ws → Gives g.stmt ws as_stmt s
assign_stmt c (unnamed_assign {y} d h) q h2 = (y, (λ z. t_by g.AssignStmt (λ z. refl) (t_part d (t_tok q t_end) h2)), h)
assign_stmt c (named_assign {w} {y = y} f no_call ps d h i) q h2 =
    let P = posts_of ps in
    gives_as (named_line c f (λ z. t_by g.ChangeStmt (λ z. refl) (t_part P.1 (t_last d) refl)) q h h2) (ap (λ z. T.changed z (as_increment y) (as_setting y)) (P.2 _) ∙ i)
assign_stmt c (named_assign {w} {y = y} f (with_call fa da) ps d h i) q h2 =
    let P = posts_of ps in
    gives_as (named_line c f (λ z. t_by g.CallStmt (λ z. refl) (t_tok fa (t_part da (t_last (λ z. t_by g.CalledChange (λ z. refl) (t_part P.1 (t_last d) refl))) refl))) q h h2) (ap (λ z. T.changed z (as_increment y) (as_setting y)) (P.2 _) ∙ i)

pub call_stmt : {ws us : List Word} {m : Expr} (c : Word) → CallForm us m → (sign_of c).kind ≡ k.Semicolon → us ++ (c ∷ []) ≡ ws → Gives g.stmt ws as_stmt (L.stmt_at (act.Call m) m.pos)
call_stmt c (of_name {us = us} f i d h j) q h2 =
    gives_as (named_line c f (λ z. t_by g.CallStmt (λ z. refl) (t_tok i (t_part d (t_last (λ z. t_by g.CalledStmt (λ z. refl) t_end)) (append-nil us)))) q h h2) (λ n. L.stmt_at (act.Call (j n)) (j n).pos)
call_stmt {ws} {m = m} c (of_calloc (of_type {w} {a} {us} {y} f i d p h j) l) q h2 = (
  _,
  t_moved (ap (λ z. z ++ (c ∷ [])) (h ∙ l) ∙ h2) (λ z. t_by g.CallocStmt (λ z. refl) (t_tok f (t_part {us = a ∷ us} (λ z. t_by g.CallocTypeStmt (λ z. refl) (t_tok i (t_last d))) (t_tok q t_end) refl))),
  ap (λ z. L.stmt_at (act.Call (as_expr_of_name y w.token)) z) (sym p) ∙ (λ n. L.stmt_at (act.Call (j n)) (j n).pos),
)

-- lists to their end
pub stars_of : {ws : List Word} {e : Bool} {ps : List Pos} → Each (From l.star) ws e ps → Gives g.stars ws as_stars ps
stars_of none = (_, (λ z. t_by g.NoStars (λ z. refl) t_end), refl)
stars_of (more {ys = ys} us d rest h) = let r = stars_of rest in (_, t_moved (ap (λ z. z ++ ys) d.1 ∙ h) (λ z. t_by g.MoreStars (λ z. refl) (t_tok d.2 (t_last r.1))), cons_eq d.3 r.2)

pub items_of : {ws : List Word} {e : Bool} {iss : List (List Item)} → Each (From l.item) ws e iss → Gives g.items ws as_items (flat iss)
items_of none = (_, (λ z. t_by g.NoItems (λ z. refl) t_end), refl)
items_of (more {m = m} us d rest h) = let r = items_of rest in let q = d _ r.0 r.1 in (q.0, t_moved h q.1, q.2 ∙ ap (λ z. m ++ z) r.2)

pub text_of : {us ws : List Word} {e : Bool} {iss : List (List Item)} → Each (From l.item) us e iss → us ++ [] ≡ ws → All (g.n g.text ∷ []) ws (v.tree (record { items = flat iss }) ∷ [])
text_of {ws = ws} is h = let r = items_of is in subst (λ z. All (g.n g.text ∷ []) ws (v.tree (record { items = z }) ∷ [])) r.2 (t_moved (cut h) (λ e. t_by g.Text (λ z. refl) (t_last r.1)))

pub members_of : {ws : List Word} {e : Bool} {ms : List (List Decl)} → Each (From l.member) ws e ms → Gives g.members ws as_decls (flat ms)
members_of none = (_, (λ z. t_by g.NoMembers (λ z. refl) t_end), refl)
members_of (more us d rest h) = let r = members_of rest in (_, (λ z. t_by g.MoreMembers (λ z. refl) (t_part d.1 (t_last r.1) h)), λ j. d.2 j ++ r.2 j)

pub slots_of : (c : Word) {ws : List Word} {e : Bool} {ds : List (TypeTree → Decl)} → Each (AfterForm (From l.slot) comma) ws e ds → (sign_of c).kind ≡ k.Semicolon →
    (x : Value) × All (g.n g.slots ∷ []) (ws ++ (c ∷ [])) (x ∷ []) × ((b : TypeTree) → as_decls_of_base x b ≡ given b ds)
slots_of c none f = (_, (λ z. t_by g.NoSlots (λ z. refl) (t_tok f t_end)), λ b. refl)
slots_of c (more {ys = ys} us (after_form {w} {us = vs} y d q) rest h) f =
    let r = slots_of c rest f in
    (_, t_moved (joint (w ∷ vs) ys (c ∷ []) (ap (λ z. z ++ ys) q ∙ h) refl) (λ z. t_by g.MoreSlots (λ z. refl) (t_tok (mk "," w y) (t_part d.1 (t_last r.1) refl))), λ b j. (d.2 j) b ∷ r.2 b j)

pub locals_of : (c : Word) {ws : List Word} {e : Bool} {ds : List (TypeTree → Decl)} → Each (AfterForm (From l.local_name) comma) ws e ds → (sign_of c).kind ≡ k.Semicolon →
    (x : Value) × All (g.n g.more_locals ∷ []) (ws ++ (c ∷ [])) (x ∷ []) × ((b : TypeTree) → as_decls_of_base x b ≡ given b ds)
locals_of c none f = (_, (λ z. t_by g.NoLocals (λ z. refl) (t_tok f t_end)), λ b. refl)
locals_of c (more {ys = ys} us (after_form {w} {us = vs} y d q) rest h) f =
    let r = locals_of c rest f in
    (_, t_moved (joint (w ∷ vs) ys (c ∷ []) (ap (λ z. z ++ ys) q ∙ h) refl) (λ z. t_by g.MoreLocals (λ z. refl) (t_tok (mk "," w y) (t_part d.1 (t_last r.1) refl))), λ b j. (d.2 j) b ∷ r.2 b j)

pub objects_of : (c : Word) {ws : List Word} {e : Bool} {ds : List (TypeTree → Decl)} → Each (AfterForm (From l.object) comma) ws e ds → (sign_of c).kind ≡ k.Semicolon →
    (x : Value) × All (g.n g.objects ∷ []) (ws ++ (c ∷ [])) (x ∷ []) × ((b : TypeTree) → as_decls_of_base x b ≡ given b ds)
objects_of c none f = (_, (λ z. t_by g.NoObjects (λ z. refl) (t_tok f t_end)), λ b. refl)
objects_of c (more {ys = ys} us (after_form {w} {us = vs} y o q) rest h) f =
    let r = objects_of c rest f in
    (_, t_moved (joint (w ∷ vs) ys (c ∷ []) (ap (λ z. z ++ ys) q ∙ h) refl) (λ z. t_by g.MoreObjects (λ z. refl) (t_tok (mk "," w y) (t_part (λ e. t_by g.Object (λ z. refl) (t_part o.5 (t_tok o.6 (t_last o.7)) o.8)) (t_last r.1) refl))), λ b j. (o.9 j) b ∷ r.2 b j)

pub params_of : (c : Word) {ws : List Word} {e : Bool} {ds : List Decl} → Each (AfterForm (From l.param) comma) ws e ds → (sign_of c).kind ≡ k.RoundClose → Gives g.more_params (ws ++ (c ∷ [])) as_decls ds
params_of c none f = (_, (λ z. t_by g.EndParams (λ z. refl) (t_tok f t_end)), refl)
params_of c (more {ys = ys} us (after_form {w} {us = vs} y d q) rest h) f =
    let r = params_of c rest f in
    (_, t_moved (joint (w ∷ vs) ys (c ∷ []) (ap (λ z. z ++ ys) q ∙ h) refl) (λ z. t_by g.MoreParams (λ z. refl) (t_tok (mk "," w y) (t_part d.1 (t_last r.1) refl))), cons_eq d.2 r.2)

pub arguments_of : (c : Word) {ws : List Word} {e : Bool} {es : List Expr} → Each (AfterForm (From l.expr) comma) ws e es → (sign_of c).kind ≡ k.RoundClose → Gives g.more_arguments (ws ++ (c ∷ [])) as_exprs es
arguments_of c none f = (_, (λ z. t_by g.EndArguments (λ z. refl) (t_tok f t_end)), refl)
arguments_of c (more {ys = ys} us (after_form {w} {us = vs} y d q) rest h) f =
    let X = expr_of d in
    let r = arguments_of c rest f in
    (_, t_moved (joint (w ∷ vs) ys (c ∷ []) (ap (λ z. z ++ ys) q ∙ h) refl) (λ z. t_by g.MoreArguments (λ z. refl) (t_tok (mk "," w y) (t_part X.1 (t_last r.1) refl))), cons_eq X.2 r.2)

pub list_of : (tail : List Word) {ws : List Word} {e : Bool} {es : List Expr} → Each (AfterForm (From l.expr) comma) ws e es → Gives g.list_rest tail as_exprs [] → Gives g.list_rest (ws ++ tail) as_exprs es
list_of tail none b = b
list_of tail (more {ys = ys} us (after_form {w} {us = vs} y d q) rest h) b =
    let X = expr_of d in
    let r = list_of tail rest b in
    (_, t_moved (joint (w ∷ vs) ys tail (ap (λ z. z ++ ys) q ∙ h) refl) (λ z. t_by g.ListComma (λ z. refl) (t_tok (mk "," w y) (t_last (λ z. t_by g.ListNext (λ z. refl) (t_part X.1 (t_last r.1) refl))))), cons_eq X.2 r.2)

pub before_same : (ys : List Word) (c : Word) (d z : Bool) → d ≡ is_else c → before_else ys d ≡ before_else (ys ++ (c ∷ [])) z
before_same [] c d z h = h
before_same (y ∷ ys) c d z h = refl

pub at_cut : {us : List Word} (ys : List Word) (c : Word) (d z : Bool) {x : Value} → d ≡ is_else c → At (g.n g.stmt ∷ []) us (before_else ys d) (x ∷ []) → At (g.n g.stmt ∷ []) us (before_else (ys ++ (c ∷ [])) z) (x ∷ [])
at_cut {us} ys c d z {x} h a = subst (λ q. At (g.n g.stmt ∷ []) us q (x ∷ [])) (before_same ys c d z h) a

pub lines_of : (c : Word) {ws : List Word} {d : Bool} {ls : List (List Stmt)} → Each (From l.line) ws d ls → d ≡ is_else c → (sign_of c).kind ≡ k.CurlyClose → Gives g.block_items (ws ++ (c ∷ [])) as_stmts (flat ls)
lines_of c none i f = (_, (λ z. t_by g.EndBlock (λ z. refl) (t_tok f t_end)), refl)
lines_of c (more {ys = ys} us (inl a) rest h) i f =
    let r = lines_of c rest i f in (_, (λ z. t_by g.Locals (λ z. refl) (t_part a.1 (t_last r.1) (joint us ys (c ∷ []) h refl))), λ j. a.2 j ++ r.2 j)
lines_of c {d = d} (more {ys = ys} us (inr a) rest h) i f =
    let r = lines_of c rest i f in
    (_, (λ z. t_by g.Stmts (λ z. refl) (t_part_at (at_cut ys c d z i a.1) (t_last r.1) (joint us ys (c ∷ []) h refl))), λ j. a.2 j ++ r.2 j)

pub changes_of : (c : Word) {ws : List Word} {e : Bool} {ss : List Stmt} → Each (From l.change) ws e ss → (sign_of c).kind ≡ k.CurlyClose → Gives g.assigns (ws ++ (c ∷ [])) as_stmts ss
changes_of c none f = (_, (λ z. t_by g.EndAssigns (λ z. refl) (t_tok f t_end)), refl)
changes_of c (more {ys = ys} us d rest h) f =
    let A = assign_of d.2 in
    let r = changes_of c rest f in
    (_, t_moved (joint (d.0 ++ (d.1 ∷ [])) ys (c ∷ []) (ap (λ z. z ++ ys) d.4 ∙ h) refl) (λ z. t_by g.Assigns (λ z. refl) (t_part A.1 (t_tok d.3 (t_last r.1)) (sym (append_assoc d.0 (d.1 ∷ []) (ys ++ (c ∷ [])))))), cons_eq A.2 r.2)

pub member_of : (c : Word) {us vs ys ws : List Word} {e : Bool} {b : TypeTree} {ds : List (TypeTree → Decl)} → BaseForm us b → From (l.commas l.slot) vs e ds → (sign_of c).kind ≡ k.Semicolon → vs ++ (c ∷ []) ≡ ys → us ++ ys ≡ ws → Gives g.member ws as_decls (given b ds)
member_of c {b = b} t (comma_form {us = xs} {ys = rest} {m = m} s more1 q i) f h2 h1 =
    let B = base_of t in
    let S = slots_of c more1 f in
    (_, (λ z. t_by g.Member (λ z. refl) (t_part B.1 (t_part s.1 (t_last S.1) (joint xs rest (c ∷ []) q h2)) h1)), (λ j. (s.2 j) (B.2 j) ∷ as_decls_of_base S.0 (B.2 j)) ∙ ap (λ z. m b ∷ z) (S.2 b) ∙ ap (λ z. given b z) i)

pub local_of_form : (c : Word) {us vs ys ws : List Word} {e : Bool} {b : TypeTree} {ds : List (TypeTree → Decl)} → BaseForm us b → From (l.commas l.local_name) vs e ds → (sign_of c).kind ≡ k.Semicolon → vs ++ (c ∷ []) ≡ ys → us ++ ys ≡ ws →
    Gives g.locals ws (λ x. T.locals (as_decls x)) (L.locals (given b ds))
local_of_form c {b = b} t (comma_form {us = xs} {ys = rest} {m = m} s more1 q i) f h2 h1 =
    let B = base_of t in
    let S = locals_of c more1 f in (
      _,
      (λ z. t_by g.Local (λ z. refl) (t_part B.1 (t_part s.1 (t_last S.1) (joint xs rest (c ∷ []) q h2)) h1)),
      ap (λ z. L.locals z) ((λ j. (s.2 j) (B.2 j) ∷ as_decls_of_base S.0 (B.2 j)) ∙ ap (λ z. m b ∷ z) (S.2 b) ∙ ap (λ z. given b z) i),
    )

-- what is declared with a base
pub declares_moved : {us ws : List Word} {is : List Item} → us ≡ ws → Declares us is → Declares ws is
declares_moved {is = is} h d = subst (λ z. Declares z is) h d

pub declares_named : {ws : List Word} {is js : List Item} → is ≡ js → Declares ws is → Declares ws js
declares_named {ws} h d = subst (λ z. Declares ws z) h d

pub with_base : {us ys ws : List Word} {b : TypeTree} {y : Value} {is : List Item} → BaseForm us b → All (g.n g.declarators ∷ []) ys (y ∷ []) → as_items_of_base y b ≡ is → us ++ ys ≡ ws → Declares ws is
with_base {ys = ys} {y = y} (tag {a} {s} f i h j) d e k2 = inr (a, s, ys, y, f, i, d, ap (λ z. z ++ ys) h ∙ k2, ap (λ z. as_items_of_base y z) j ∙ e)
with_base {y = y} (scalar {x} d h) r e k2 = inl (_, (λ z. t_by g.Based (λ z. refl) (t_part d (t_last r) k2)), ap (λ z. as_items_of_base y z) h ∙ e)

pub objects_form : (c : Word) {us vs ys ws : List Word} {e : Bool} {b : TypeTree} {ds : List (TypeTree → Decl)} → BaseForm us b → From (l.commas l.object) vs e ds → (sign_of c).kind ≡ k.Semicolon → vs ++ (c ∷ []) ≡ ys → us ++ ys ≡ ws →
    Declares ws (L.statics (given b ds))
objects_form c {b = b} t (comma_form {us = xs} {ys = rest} {m = m} o more1 q i) f h2 h1 =
    let S = objects_of c more1 f in
    with_base t (λ z. t_by g.Declarators (λ z. refl) (t_part o.5 (t_tok o.6 (t_last (λ z. t_by g.Objects (λ z. refl) (t_part o.7 (t_last S.1) refl)))) (joint o.0 (o.2 ∷ o.3) (rest ++ (c ∷ [])) o.8 (joint xs rest (c ∷ []) q h2))))
    ((λ j. L.statics ((o.9 j) b ∷ S.2 b j)) ∙ ap (λ z. L.statics (given b z)) i) h1

pub item_declares : {ss us zs ws : List Word} {e : Bool} {o : Option (Unit {0})} {is : List Item} → From (l.opt l.static) ss e o → Declares us is → us ++ [] ≡ zs → ss ++ zs ≡ ws → ItemForm ws is
item_declares {zs = zs} (absent q i) (inl d) h2 h1 vs y dy = (_, t_moved (ap (λ z. z ++ vs) (cut h2 ∙ ap (λ z. z ++ zs) q ∙ h1)) (λ z. t_by g.Declaration (λ z. refl) (t_part d.1 (t_last dy) refl)), ap (λ z. z ++ as_items y) d.2)
item_declares {zs = zs} (absent q i) (inr d) h2 h1 vs y dy =
    (_, t_moved (ap (λ z. z ++ vs) (d.7 ∙ cut h2 ∙ ap (λ z. z ++ zs) q ∙ h1)) (λ z. t_by g.Structure (λ z. refl) (t_tok d.4 (t_tok d.5 (t_part (λ z. t_by g.Structured (λ z. refl) (t_last d.6)) (t_last dy) refl)))), ap (λ z. z ++ as_items y) d.8)
item_declares {zs = zs} (present st i) (inl d) h2 h1 vs y dy =
    (_, t_moved (ap (λ z. z ++ vs) (ap (λ z. st.0 ∷ z) (cut h2) ∙ ap (λ z. z ++ zs) st.1 ∙ h1)) (λ z. t_by g.Static (λ z. refl) (t_tok st.2 (t_part (λ z. t_by g.StaticOther (λ z. refl) (t_last d.1)) (t_last dy) refl))), ap (λ z. z ++ as_items y) d.2)
item_declares {zs = zs} (present st i) (inr d) h2 h1 vs y dy =
    (_, t_moved (ap (λ z. z ++ vs) (ap (λ z. st.0 ∷ z) (d.7 ∙ cut h2) ∙ ap (λ z. z ++ zs) st.1 ∙ h1)) (λ z. t_by g.Static (λ z. refl) (t_tok st.2 (t_part (λ z. t_by g.StaticStruct (λ z. refl) (t_tok d.4 (t_tok d.5 (t_last d.6)))) (t_last dy) refl))), ap (λ z. z ++ as_items y) d.8)

-- the head of a function after its name
pub head_tail : (b c : Word) (vs : List Word) {xs zs ws ys : List Word} {e : Bool} {ps : List Decl} {r : Option Limits} {y : Value} → (sign_of b).kind ≡ k.RoundOpen → From l.params vs false ps → (sign_of c).kind ≡ k.RoundClose → From l.range xs e r → xs ++ [] ≡ zs → vs ++ (c ∷ zs) ≡ ws →
    All (g.n g.body ∷ []) ys (y ∷ []) → (h : Value) × All (g.n g.head ∷ []) (b ∷ (ws ++ ys)) (h ∷ []) × ((m : Option Mode) (p : TypeTree) (x : Spelled) → as_item_of_head h m p x ≡ T.function_of (head_of m p x ps r) (as_part y))
head_tail b c vs {xs = xs} {ys = ys} {y = y} f ps q r h4 h3 dy =
    let P = ps c q in
    let R = range_of r in (
      _,
      (λ z. t_by g.Head (λ z. refl) (t_tok f (t_part P.1 (t_part R.1 (t_last dy) refl) (append_assoc vs (c ∷ []) (xs ++ ys) ∙ sym (append_assoc vs (c ∷ xs) ys) ∙ ap (λ z. z ++ ys) (ap (λ z. vs ++ (c ∷ z)) (cut h4) ∙ h3))))),
      λ m p x j. T.function_of (head_of m p x (P.2 j) (R.2 j)) (as_part y),
    )

pub void_head : (a w b c : Word) (vs : List Word) {us xs zs ts ws : List Word} {d e : Bool} {mo : Option (Mode × Pos)} {ps : List Decl} {r : Option Limits} → From (l.opt l.mode) us d mo → (sign_of a).kind ≡ k.Void → is_name (sign_of w).kind ≡ true → (sign_of b).kind ≡ k.RoundOpen →
    From l.params vs false ps → (sign_of c).kind ≡ k.RoundClose → From l.range xs e r → xs ++ [] ≡ zs → vs ++ (c ∷ zs) ≡ ts → us ++ (a ∷ w ∷ b ∷ ts) ≡ ws → From l.head ws e (head_of (mode_of mo) ctype.Void w.token ps r)
void_head a w b c vs {ts = ts} {ps = ps} {r = r} (absent q i) ka kw2 kb p kc l2 h4 h3 h1 ys y dy =
    let H = head_tail b c vs kb p kc l2 h4 h3 dy in
    inl (
      _,
      t_moved (ap (λ z. z ++ ys) (ap (λ z. z ++ (a ∷ w ∷ b ∷ ts)) q ∙ h1)) (λ z. t_by g.Voided (λ z. refl) (t_tok ka (t_tok kw2 (t_last H.1)))),
      ap (λ z. z ∷ []) (H.2 None ctype.Void w.token) ∙ (λ j. T.function_of (head_of (mode_of (i j)) ctype.Void w.token ps r) (as_part y) ∷ []),
    )
void_head a w b c vs {us = us} {ts = ts} {ps = ps} {r = r} (present d i) ka kw2 kb p kc l2 h4 h3 h1 ys y dy =
    let H = head_tail b c vs kb p kc l2 h4 h3 dy in
    inl (
      _,
      (λ z. t_by g.Moded (λ z. refl) (t_part d.1 (t_part {us = a ∷ []} (λ z. t_by g.VoidResult (λ z. refl) (t_tok ka t_end)) (t_tok kw2 (t_last H.1)) refl) (sym (append_assoc us (a ∷ w ∷ b ∷ ts) ys) ∙ ap (λ z. z ++ ys) h1))),
      ap (λ z. z ∷ []) (H.2 _ ctype.Void w.token) ∙ (λ j. T.function_of (head_of (Some (d.2 j).0) ctype.Void w.token ps r) (as_part y) ∷ []) ∙ (λ j. T.function_of (head_of (mode_of (i j)) ctype.Void w.token ps r) (as_part y) ∷ []),
    )

pub type_head : (w b c : Word) (vs : List Word) {us bs xs zs ts rs ws : List Word} {d e : Bool} {mo : Option (Mode × Pos)} {t1 : TypeTree} {ps : List Decl} {r : Option Limits} → From (l.opt l.mode) us d mo → TypeForm bs t1 → is_name (sign_of w).kind ≡ true → (sign_of b).kind ≡ k.RoundOpen →
    From l.params vs false ps → (sign_of c).kind ≡ k.RoundClose → From l.range xs e r → xs ++ [] ≡ zs → vs ++ (c ∷ zs) ≡ ts → bs ++ (w ∷ b ∷ ts) ≡ rs → us ++ rs ≡ ws → From l.head ws e (head_of (mode_of mo) t1 w.token ps r)
type_head w b c vs {ts = ts} {rs = rs} {t1 = t1} {ps = ps} {r = r} (absent q i) (type_form {us = us} {vs = ws1} {c = base} {ps = st} u v1 x h) kw2 kb p kc l2 h4 h3 h2 h1 ys y dy =
    let H = head_tail b c vs kb p kc l2 h4 h3 dy in
    declares_named (ap (λ z. z ∷ []) (H.2 None (starred base (as_stars st)) w.token) ∙ (λ j. T.function_of (head_of (mode_of (i j)) (h j) w.token ps r) (as_part y) ∷ []))
    (with_base u (λ z. t_by g.Declarators (λ z. refl) (t_part v1 (t_tok kw2 (t_last (λ z. t_by g.Headed (λ z. refl) (t_last H.1)))) refl)) refl
    (sym (append_assoc us ws1 (w ∷ b ∷ (ts ++ ys))) ∙ ap (λ z. z ++ (w ∷ b ∷ (ts ++ ys))) x ∙ sym (append_assoc _ (w ∷ b ∷ ts) ys) ∙ ap (λ z. z ++ ys) (h2 ∙ ap (λ z. z ++ rs) q ∙ h1)))
type_head w b c vs {us = us} {bs = bs} {ts = ts} {rs = rs} {t1 = t1} {ps = ps} {r = r} (present d i) ty kw2 kb p kc l2 h4 h3 h2 h1 ys y dy =
    let H = head_tail b c vs kb p kc l2 h4 h3 dy in
    let B = type_of ty in
    inl (
      _,
      (λ z. t_by g.Moded (λ z. refl) (t_part d.1 (t_part (λ z. t_by g.OtherResult (λ z. refl) (t_last B.1)) (t_tok kw2 (t_last H.1)) (sym (append_assoc bs (w ∷ b ∷ ts) ys) ∙ ap (λ z. z ++ ys) h2)) (sym (append_assoc us rs ys) ∙ ap (λ z. z ++ ys) h1))),
      ap (λ z. z ∷ []) (H.2 _ _ w.token) ∙ (λ j. T.function_of (head_of (Some (d.2 j).0) (B.2 j) w.token ps r) (as_part y) ∷ []) ∙ (λ j. T.function_of (head_of (mode_of (i j)) t1 w.token ps r) (as_part y) ∷ []),
    )

-- a postfix that begins with no name
pub first_by : {ws us : List Word} {d : Bool} {x : Expr} {fs : List (Expr → Expr)} → Gives g.primary ws as_expr x → Each PostForm us d fs → Postfix (ws ++ us) (applied x fs)
first_by {fs = fs} p ps = by_primary p.1 ps refl (ap (λ z. applied z fs) p.2)

pub constant_by : {ws : List Word} {x : Expr} {y : Value} → All (g.n g.constant ∷ []) ws (y ∷ []) → as_expr y ≡ x → Gives g.primary ws as_expr x
constant_by d h = (_, (λ z. t_by g.Constant (λ z. refl) (t_last d)), h)

pub round_by : (a c : Word) {us ws vs : List Word} {d : Bool} {x : Expr} {fs : List (Expr → Expr)} → (sign_of a).kind ≡ k.RoundOpen → ExprForm us x → (sign_of c).kind ≡ k.RoundClose → us ++ (c ∷ []) ≡ ws → Each PostForm vs d fs → Postfix ((a ∷ ws) ++ vs) (applied x fs)
round_by a c {us = us} {vs = vs} {fs = fs} f e q h ps =
    let X = expr_of e in
    by_round c f X.1 q ps (ap (λ z. a ∷ z) (sym (append_assoc us (c ∷ []) vs) ∙ ap (λ z. z ++ vs) h)) (ap (λ z. applied z fs) X.2)

-- operands that owe a setting if they are targets
pub signed_by : (a : Word) {us ws : List Word} {x : Expr} → is_sign (sign_of a).kind ≡ true → Unary us x → us ++ [] ≡ ws → Unary (a ∷ ws) (expr_at (node.Un (sign_op (kind_of_token a.token)) x) a.token.pos)
signed_by a f u h =
    let X = unary_of u in
    owes (λ z. t_by g.Signed (λ z. refl) (t_tok f (t_part X.1 t_end h))) (λ j. expr_at (node.Un (sign_op (kind_of_token a.token)) (X.2 j)) a.token.pos)
    (λ vs s d. (_, (λ z. t_by g.SignedAssign (λ z. refl) (t_tok f (t_part X.1 (t_last d) (ap (λ z. z ++ vs) (cut h))))), refl))

pub cast_by : (a c : Word) {us vs xs ws : List Word} {t : TypeTree} {x : Expr} → (sign_of a).kind ≡ k.RoundOpen → TypeForm us t → (sign_of c).kind ≡ k.RoundClose → Unary vs x → vs ++ [] ≡ xs → us ++ (c ∷ xs) ≡ ws → Unary (a ∷ ws) (expr_at (node.Cast t x) a.token.pos)
cast_by a c {us = us} {vs = vs} f ty f2 u h2 h1 =
    let B = type_of ty in
    let X = unary_of u in
    owes (λ z. t_by g.Round (λ z. refl) (t_tok f (t_last (λ z. t_by g.Cast (λ z. refl) (t_part B.1 (t_tok f2 (t_part X.1 t_end h2)) h1))))) (λ j. expr_at (node.Cast (B.2 j) (X.2 j)) a.token.pos)
    (λ ys s d. (_, (λ z. t_by g.RoundAssign (λ z. refl) (t_tok f (t_last (λ z. t_by g.CastAssign (λ z. refl) (t_part B.1 (t_tok f2 (t_part X.1 (t_last d) refl)) (joint us (c ∷ vs) ys (ap (λ z. us ++ (c ∷ z)) (cut h2) ∙ h1) refl)))))), refl))

pub sized_by : (a b c : Word) {us ws : List Word} {t : TypeTree} → (sign_of a).kind ≡ k.Sizeof → (sign_of b).kind ≡ k.RoundOpen → TypeForm us t → (sign_of c).kind ≡ k.RoundClose → us ++ (c ∷ []) ≡ ws → Unary (a ∷ b ∷ ws) (expr_at (node.Size t) a.token.pos)
sized_by a b c {us = us} f f2 ty f3 h =
    let B = type_of ty in
    owes (λ z. t_by g.Sizeof (λ z. refl) (t_tok f (t_tok f2 (t_part B.1 (t_tok f3 t_end) h)))) (λ j. expr_at (node.Size (B.2 j)) a.token.pos)
    (λ ys s d. (_, (λ z. t_by g.SizeofAssign (λ z. refl) (t_tok f (t_tok f2 (t_part B.1 (t_tok f3 (t_last d)) (joint us (c ∷ []) ys h refl))))), refl))

pub cast_of : (a b c e2 : Word) {ts xs ls zs ys ws : List Word} {e : Bool} {p : TypeTree} {x : Expr} {o : Option Limits} → (sign_of a).kind ≡ k.Less → TypeForm ts p → is_greater (sign_of b).kind ≡ true → (sign_of c).kind ≡ k.RoundOpen → ExprForm xs x → From (l.opt (l.after comma l.limits)) ls e o → (sign_of e2).kind ≡ k.RoundClose →
    ls ++ (e2 ∷ []) ≡ zs → xs ++ zs ≡ ys → ts ++ (b ∷ c ∷ ys) ≡ ws → (y : Value) × All (g.n g.bounds_cast ∷ []) (a ∷ ws) (y ∷ []) × (v.type_of y ≡ p) × (v.operand_of y ≡ x) × (v.limits_of y ≡ o)
cast_of a b c e2 f ty f2 f3 x o f4 h3 h2 h1 =
    let B = type_of ty in
    let X = expr_of x in
    let O = cast_limits_of e2 o f4 in
    (_, (λ z. t_by g.BoundsCast (λ z. refl) (t_tok f (t_part B.1 (t_tok f2 (t_tok f3 (t_part X.1 (t_part O.1 t_end (append-nil _ ∙ h3)) h2))) h1))), B.2, X.2, O.2)

-- `bounds(e, f)`: the table tells apart how e begins
between_by : (a b c d : Word) {xs rs us ys zs ws : List Word} {x0 x y : Expr} {f : Expr → Expr} → (sign_of a).kind ≡ k.Bounds → (sign_of b).kind ≡ k.RoundOpen → Begun xs x0 → RestForm rs f → xs ++ rs ≡ us → f x0 ≡ x → (sign_of c).kind ≡ k.Comma → ExprForm ys y → (sign_of d).kind ≡ k.RoundClose →
    ys ++ (d ∷ []) ≡ zs → us ++ (c ∷ zs) ≡ ws → Gives g.limits (a ∷ b ∷ ws) as_limits (bounds.Between x y a.token.pos)
between_by a b c d {xs} {rs} {zs = zs} fa fb (begun_first du iu) r h j fc y fd h2 h1 =
    let Y = expr_of y in
    let R = rest_of r in (
      _,
      (λ z. t_by g.BoundsOf (λ z. refl) (t_tok fa (t_tok fb (t_last (λ z. t_by g.Between (λ z. refl) (t_part du (t_part R.1 (t_tok fc (t_part Y.1 (t_tok fd t_end) h2)) refl) (joint xs rs (c ∷ zs) h h1))))))),
      λ q. bounds.Between ((ap (λ z. v.ended z R.0) iu ∙ R.2 _ ∙ j) q) (Y.2 q) a.token.pos,
    )
between_by a b c d {xs} {rs} {ys = yw} {zs = zs} {ws = ws} {x = x} {y = y1} {f = f} fa fb (begun_name {w} {cs} {us} {vs} {c = call} {fs = fs} {i = last} n co ps i h0 q0) r h j fc y fd h2 h1 = with_name (unknown_or (sign_of w).kind n)
  where
    Y : Gives g.expr yw as_expr y1
    Y = expr_of y

    R : (p : Value) × All (g.n g.expr_rest ∷ []) rs (p ∷ []) × ((z : Expr) → v.ended z p ≡ f z)
    R = rest_of r

    N : (p : Value) × All (g.n g.name_rest ∷ []) (cs ++ (us ++ vs)) (p ∷ []) × ((t : Spelled) → as_expr_of_name p t ≡ T.with_increment (applied (v.called_or_named t call) fs) last)
    N = name_rest_of co ps i

    words : w ∷ ((cs ++ (us ++ vs)) ++ (rs ++ (c ∷ zs))) ≡ ws
    words = ap (λ z. z ++ (rs ++ (c ∷ zs))) h0 ∙ joint xs rs (c ∷ zs) h h1

    worth : v.ended (as_expr_of_name N.0 w.token) R.0 ≡ x
    worth = ap (λ z. v.ended z R.0) (N.2 w.token ∙ q0) ∙ R.2 _ ∙ j

    with_name : ((sign_of w).kind ≡ k.Unknown) ⊎ (g.is_name_but_unknown (sign_of w).kind ≡ true) → Gives g.limits (a ∷ b ∷ ws) as_limits (bounds.Between x y1 a.token.pos)
    with_name (inl m) = (
      _,
      t_moved (ap (λ z. a ∷ b ∷ z) words) (λ z. t_by g.BoundsOf (λ z. refl) (t_tok fa (t_tok fb (t_last (λ z. t_by g.Unknown (λ z. refl) (t_tok m (t_last (λ z. t_by g.UnknownName (λ z. refl) (t_part N.1 (t_part R.1 (t_tok fc (t_part Y.1 (t_tok fd t_end) h2)) refl) refl))))))))),
      λ q. bounds.Between (worth q) (Y.2 q) a.token.pos,
    )
    with_name (inr m) = (
      _,
      t_moved (ap (λ z. a ∷ b ∷ z) words) (λ z. t_by g.BoundsOf (λ z. refl) (t_tok fa (t_tok fb (t_last (λ z. t_by g.BetweenNamed (λ z. refl) (t_tok m (t_part N.1 (t_part R.1 (t_tok fc (t_part Y.1 (t_tok fd t_end) h2)) refl) refl))))))),
      λ q. bounds.Between (worth q) (Y.2 q) a.token.pos,
    )

pub between_of : (a b c d : Word) {us ys zs ws : List Word} {x y : Expr} → (sign_of a).kind ≡ k.Bounds → (sign_of b).kind ≡ k.RoundOpen → ExprForm us x → (sign_of c).kind ≡ k.Comma → ExprForm ys y → (sign_of d).kind ≡ k.RoundClose → ys ++ (d ∷ []) ≡ zs → us ++ (c ∷ zs) ≡ ws →
    Gives g.limits (a ∷ b ∷ ws) as_limits (bounds.Between x y a.token.pos)
between_of a b c d fa fb (form u r h j) fc y fd h2 h1 = between_by a b c d fa fb (begun u) r h j fc y fd h2 h1

-- an expression, if no choice stands after it
pub no_choice : {us ws : List Word} {x : Expr} → BinaryForm us x → us ++ [] ≡ ws → ExprForm ws x
no_choice (binary_form {us = us} {xs = xs} {ss = ss} u s h j) q =
    let r : RestForm xs (λ z. L.joined z ss) = going s (λ z. t_by g.NoChoice (λ z. refl) t_end) (append-nil xs) (λ z. refl) in
    form u r (h ∙ cut q) j

pub with_choice : (a c : Word) {us ys vs ws zs rs : List Word} {x y1 y2 : Expr} → BinaryForm us x → (sign_of a).kind ≡ k.Question → ExprForm ys y1 → (sign_of c).kind ≡ k.Colon → ExprForm vs y2 → vs ++ [] ≡ zs → ys ++ (c ∷ zs) ≡ rs → us ++ (a ∷ rs) ≡ ws →
    ExprForm ws (expr_at (node.Pick x y1 y2) a.token.pos)
with_choice a c {rs = rs} (binary_form {us = us} {xs = xs} {ss = ss} u s h j) f y1 q y2 h3 h2 h1 =
    let X = expr_of y1 in
    let Y = expr_of y2 in
    let r : RestForm (xs ++ (a ∷ rs)) (λ z. expr_at (node.Pick (L.joined z ss) (as_expr X.0) (as_expr Y.0)) a.token.pos) =
    going s (λ z. t_by g.Choice (λ z. refl) (t_tok f (t_part X.1 (t_tok q (t_part Y.1 t_end h3)) h2))) refl (λ z. refl) in
    form u r (joint us xs (a ∷ rs) h h1) (λ m. expr_at (node.Pick (j m) (X.2 m) (Y.2 m)) a.token.pos)

-- a target in an expression
pub set_expr : {us vs ws : List Word} {x m : Expr} {y : Value} {s : Setting} → Unary us x → All (g.n g.setting ∷ []) vs (y ∷ []) → as_setting y ≡ Some s → us ++ vs ≡ ws → T.set x s ≡ m → ExprForm ws m
set_expr {vs = vs} {s = s} u d e h j = let r : RestForm vs (λ z. T.set z s) = setting_form d e (λ z. refl) in form u r h j

-- moving forms along equal lists
pub at_moved : {ss : List g.Symbol} {us ws : List Word} {e : Bool} {vs : List Value} → us ≡ ws → At ss us e vs → At ss ws e vs
at_moved {ss} {e = e} {vs = vs} h d = subst (λ z. At ss z e vs) h d

pub postfix_moved : {us ws : List Word} {m : Expr} → us ≡ ws → Postfix us m → Postfix ws m
postfix_moved {m = m} h d = subst (λ z. Postfix z m) h d

pub unary_named : {ws : List Word} {m r : Expr} → m ≡ r → Unary ws m → Unary ws r
unary_named {ws} h d = subst (λ z. Unary ws z) h d

pub from_moved : (p : l.Part) (e : Bool) (m : l.Meaning p) {us ws : List Word} → us ≡ ws → From p us e m → From p ws e m
from_moved p e m h d = subst (λ z. From p z e m) h d

pub each_moved : {M : Type 0} {F : List Word → Bool → M → Type 0} {us ws : List Word} {e : Bool} {ms : List M} → us ≡ ws → Each F us e ms → Each F ws e ms
each_moved {F = F} {e = e} {ms = ms} h d = subst (λ z. Each F z e ms) h d

pub stmt_any : {ws : List Word} {s : Stmt} → Gives g.stmt ws as_stmt s → (e : Bool) → From l.stmt ws e s
stmt_any d e = (d.0, d.1 e, d.2)

pub not_at : (b : Bool) → (if b then false else true) ≡ false → b ≡ true
not_at true h = refl
not_at false h = absurd (cc)

pub no_else_by : {e : Bool} → e ≡ false → At (g.n g.otherwise ∷ []) [] e (v.part None ∷ [])
no_else_by h = record { derived = λ c i. D.by g.NoElse [] [] [] refl D.nil (not_at (not_else c) (i ∙ h)) refl D.nil refl }

pub with_end : (us : List Word) (c : Word) (zs : List Word) {ws : List Word} → us ++ (c ∷ zs) ≡ ws → (us ++ (c ∷ [])) ++ zs ≡ ws
with_end us c zs h = append_assoc us (c ∷ []) zs ∙ h

-- each alternative
