-- What the grammar derives, the parser's table derives with the same value: tokens, and expressions.
use Rattle.std.proofs.Common.{◌≡◌, List, [], ◌∷◌, ◌++◌, Bool, true, false, ◌⊎◌, inl, inr, refl, sym, ap, subst, ◌∙◌, append_assoc, append-nil, map}
use Rattle.std.specs.Prelude.{Option, None, Some}
use Rattle.ckc_base.specs.declared.places.Pos.{Pos}
use Rattle.ckc_syntax.specs.declared.tree.Act.TheVariants as act
use Rattle.ckc_syntax.specs.declared.tree.TreeOp.{TreeOp}
use Rattle.ckc_syntax.specs.declared.tree.TreeOp.TheVariants as op
use Rattle.ckc_parser_grammar.specs.declared.kind.Kind.{Kind}
use Rattle.ckc_parser_grammar.specs.declared.kind.Kind.TheVariants as k
use Rattle.ckc_syntax.specs.Spelled.{Spelled}
use Rattle.ckc_parser_grammar.specs.declared.parts.Operation.{Operation}
use Rattle.ckc_parser_grammar.specs.declared.parts.Setting.{Setting}
use Rattle.ckc_parser_grammar.specs.declared.parts.Post.{Post}
use Rattle.ckc_parser_grammar.specs.code.Kinds.{kind_of_token, is_increment, is_compound, increment_op, compound_op}
use Rattle.ckc_parser_grammar.specs.code.Grammar.{Rule, Fits, left, right, allowed, is_name}
use Rattle.ckc_parser_grammar.specs.code.Grammar as g
use Rattle.ckc_parser_grammar.specs.code.Derives.{Sign, before, Derives}
use Rattle.ckc_parser_grammar.specs.code.Derives as D
use Rattle.ckc_parser_grammar.specs.code.Trees as T
use Rattle.ckc_parser_grammar.specs.code.Values as v
use Rattle.ckc_parser_grammar.specs.code.Values.{Value, made, whole, as_items, as_items_of_name, as_items_of_base, as_decl, as_decls, as_decl_of_base, as_decl_of_name, as_length, as_init, as_mode, as_type, as_stars, as_limits, as_expr, as_exprs, as_steps, as_arms, as_call, as_increment, as_setting, as_post, as_posts, as_op, as_stmt, as_stmts, as_part, place, as_expr_of_name}
use Rattle.ckc_grammar.specs.Trees as L
use Rattle.ckc_grammar.specs.Trees.{Item, TypeTree, Expr, Stmt, starred}
use Rattle.ckc_grammar.specs.declared.chain.Step.{Step}
use Rattle.ckc_grammar.specs.Makers.{applied, number_of}
use Rattle.ckc_grammar.specs.Productions as l
use Rattle.ckc_grammar.specs.Productions.{Terminal, Use, Symbol, t, n, no_else, Makes}
use Rattle.ckc_grammar.specs.Derivation.{Word, fits, before_else, used}
use Rattle.ckc_parser_grammar.proofs.Tokens.{sign_of}
use Rattle.ckc_parser_grammar.proofs.Pieces.{comma}
use Rattle.ckc_parser_grammar.proofs.Meanings.{join_none}
use Rattle.ckc_parser_grammar.proofs.Onto.{else_at, else_same}

-- words derive symbols of the table with these values, before what may be `else`; and whatever stands after them
pub record At (ss : List g.Symbol) (ws : List Word) (e : Bool) (vs : List Value) : Type 0 where
  pub derived : (c : Kind) → else_at c ≡ e → Derives ss (map sign_of ws) c vs

abbrev pub All : List g.Symbol → List Word → List Value → Type 0
All ss ws vs = (e : Bool) → At ss ws e vs

-- words derive a part of the table with a value that is worth this
abbrev pub Gives : {X : Type 0} → g.Part → List Word → (Value → X) → X → Type 0
Gives p ws f m = (x : Value) × All (g.n p ∷ []) ws (x ∷ []) × (f x ≡ m)

pub t_end : {e : Bool} → At [] [] e []
t_end = record { derived = λ c h. D.nil }

pub t_tok : {c : g.Terminal} {ss : List g.Symbol} {w : Word} {ws : List Word} {e : Bool} {vs : List Value} → Fits c (sign_of w).kind → At ss ws e vs → At (g.t c ∷ ss) (w ∷ ws) e (v.token w.token ∷ vs)
t_tok f d = record { derived = λ c h. D.read f (d.derived c h) }

map_both : (us ys : List Word) → map sign_of us ++ map sign_of ys ≡ map sign_of (us ++ ys)
map_both [] ys = refl
map_both (u ∷ us) ys = ap (λ z. sign_of u ∷ z) (map_both us ys)

in_front : {p : g.Part} {ss : List g.Symbol} {xs ys zs : List Sign} {c : Kind} {x : Value} {vs : List Value} →
    Derives (g.n p ∷ []) xs (before ys c) (x ∷ []) → Derives ss ys c vs → xs ++ ys ≡ zs → Derives (g.n p ∷ ss) zs c (x ∷ vs)
in_front {ys = ys} (D.by r xs [] ws l d al mk D.nil split) e h = D.by r xs ys ws l d al mk e (ap (λ z. z ++ ys) (sym (append-nil xs) ∙ split) ∙ h)
in_front (D.by r xs (y ∷ ys) ws l d al mk d2 split) e h = elim d2 [ ]

pub t_part_at : {p : g.Part} {ss : List g.Symbol} {us ys zs : List Word} {e : Bool} {x : Value} {vs : List Value} →
    At (g.n p ∷ []) us (before_else ys e) (x ∷ []) → At ss ys e vs → us ++ ys ≡ zs → At (g.n p ∷ ss) zs e (x ∷ vs)
t_part_at {us = us} {ys = ys} d r h = record {
  derived = λ c i.
      in_front (d.derived (before (map sign_of ys) c) (else_same ys (map sign_of ys) c refl ∙ ap (λ z. before_else ys z) i)) (r.derived c i) (map_both us ys ∙ ap (λ z. map sign_of z) h);
}

pub t_part : {p : g.Part} {ss : List g.Symbol} {us ys zs : List Word} {e : Bool} {x : Value} {vs : List Value} →
    All (g.n p ∷ []) us (x ∷ []) → At ss ys e vs → us ++ ys ≡ zs → At (g.n p ∷ ss) zs e (x ∷ vs)
t_part {ys = ys} {e = e} d r h = t_part_at (d (before_else ys e)) r h

pub t_last : {p : g.Part} {us : List Word} {e : Bool} {x : Value} → All (g.n p ∷ []) us (x ∷ []) → At (g.n p ∷ []) us e (x ∷ [])
t_last {e = e} d = d e

pub t_by : {ws : List Word} {e : Bool} {vs : List Value} (r : Rule) → ((c : Kind) → allowed r c ≡ true) → At (right r) ws e vs → At (g.n (left r) ∷ []) ws e (made r vs ∷ [])
t_by {ws} {vs = vs} r al d = record { derived = λ c h. D.by r (map sign_of ws) [] vs refl (d.derived c h) (al c) refl D.nil (append-nil (map sign_of ws)) }

pub t_moved : {ss : List g.Symbol} {us ws : List Word} {vs : List Value} → us ≡ ws → All ss us vs → All ss ws vs
t_moved {ss} {vs = vs} h d = subst (λ z. All ss z vs) h d

-- a list of forms, of which one may stand before `else`
pub data Each {M : Type 0} (F : List Word → Bool → M → Type 0) : List Word → Bool → List M → Type 0 where
  none : {e : Bool} → Each F [] e []
  more : {ys zs : List Word} {e : Bool} {m : M} {ms : List M} → (us : List Word) → F us (before_else ys e) m → Each F ys e ms → us ++ ys ≡ zs → Each F zs e (m ∷ ms)

-- `[e]`, `.m` or `->m`
abbrev pub PostForm : List Word → Bool → (Expr → Expr) → Type 0
PostForm ws e f = (y : Value) × All (g.n g.post ∷ []) ws (y ∷ []) × ((x : Expr) (ps : List Post) → T.posted x (as_post y ∷ ps) ≡ T.posted (f x) ps)

-- arguments after a name, or none
pub data CallRest : List Word → Option (List Expr) → Type 0 where
  no_call : CallRest [] None
  with_call : {a : Word} {us : List Word} {y : Value} → (sign_of a).kind ≡ k.RoundOpen → All (g.n g.arguments ∷ []) us (y ∷ []) → CallRest (a ∷ us) (Some (as_exprs y))

-- a `++` or `--` behind an operand, or none
pub data Increments : List Word → Option Operation → Type 0 where
  no_increment : Increments [] None
  one_increment : (a : Word) → is_increment (sign_of a).kind ≡ true → Increments (a ∷ []) (Some (v.increment_at (v.token a.token)))

-- a postfix: it begins with a name, with another primary or with a `(`
pub data Postfix (ws : List Word) (m : Expr) : Type 0 where
  by_name : {w : Word} {cs us : List Word} {c : Option (List Expr)} {e : Bool} {fs : List (Expr → Expr)} → is_name (sign_of w).kind ≡ true → CallRest cs c → Each PostForm us e fs → w ∷ (cs ++ us) ≡ ws → applied (v.called_or_named w.token c) fs ≡ m → Postfix ws m
  by_primary : {us vs : List Word} {x : Value} {e : Bool} {fs : List (Expr → Expr)} → All (g.n g.primary ∷ []) us (x ∷ []) → Each PostForm vs e fs → us ++ vs ≡ ws → applied (as_expr x) fs ≡ m → Postfix ws m
  by_round : {a : Word} (c : Word) {us vs : List Word} {x : Value} {e : Bool} {fs : List (Expr → Expr)} → (sign_of a).kind ≡ k.RoundOpen → All (g.n g.expr ∷ []) us (x ∷ []) → (sign_of c).kind ≡ k.RoundClose → Each PostForm vs e fs → a ∷ (us ++ (c ∷ vs)) ≡ ws →
      applied (as_expr x) fs ≡ m → Postfix ws m

-- an operand: a postfix, `++` or `--` before an operand, or what owes a setting if it is a target
pub data Unary (ws : List Word) (m : Expr) : Type 0 where
  ends : {us vs : List Word} {x : Expr} {i : Option Operation} → Postfix us x → Increments vs i → us ++ vs ≡ ws → T.with_increment x i ≡ m → Unary ws m
  steps : {a : Word} {us : List Word} {y : Value} → is_increment (sign_of a).kind ≡ true → All (g.n g.unary ∷ []) us (y ∷ []) → a ∷ us ≡ ws → T.set (as_expr y) (T.by_one (v.increment_at (v.token a.token))) ≡ m → Unary ws m
  owes : {y : Value} → All (g.n g.first ∷ []) ws (y ∷ []) → as_expr y ≡ m → ((vs : List Word) (s : Value) → All (g.n g.setting ∷ []) vs (s ∷ []) → Gives g.unnamed (ws ++ vs) as_stmt (T.changed (as_expr y) None (as_setting s))) → Unary ws m

-- how an operand begins: with a name, or not
pub data Begun (ws : List Word) (m : Expr) : Type 0 where
  begun_name : {w : Word} {cs us vs : List Word} {c : Option (List Expr)} {e : Bool} {fs : List (Expr → Expr)} {i : Option Operation} → is_name (sign_of w).kind ≡ true → CallRest cs c → Each PostForm us e fs → Increments vs i → w ∷ (cs ++ (us ++ vs)) ≡ ws →
      T.with_increment (applied (v.called_or_named w.token c) fs) i ≡ m → Begun ws m
  begun_first : {y : Value} → All (g.n g.first ∷ []) ws (y ∷ []) → as_expr y ≡ m → Begun ws m

-- an operator
pub data Operator (ws : List Word) (o : TreeOp × Pos) : Type 0 where
  less : {w : Word} → (sign_of w).kind ≡ k.Less → w ∷ [] ≡ ws → (op.Lt, w.token.pos) ≡ o → Operator ws o
  other : {y : Value} → All (g.n g.operation_but_less ∷ []) ws (y ∷ []) → (as_op y, place y) ≡ o → Operator ws o

-- an operator with its right operand
pub data StepForm (ws : List Word) (e : Bool) (s : Step) : Type 0 where
  step : {us xs : List Word} {o : TreeOp × Pos} {x : Expr} → Operator us o → Unary xs x → us ++ xs ≡ ws → record { op = o.0; pos = o.1; operand = x } ≡ s → StepForm ws e s

-- what goes on with an operand in an expression
pub data RestForm (ws : List Word) (f : Expr → Expr) : Type 0 where
  going : {xs ys : List Word} {d : Bool} {ss : List Step} {c : Value} → Each StepForm xs d ss → All (g.n g.choice ∷ []) ys (c ∷ []) → xs ++ ys ≡ ws → ((x : Expr) → T.picked (L.joined x ss) (as_arms c) ≡ f x) → RestForm ws f
  setting_form : {y : Value} {s : Setting} → All (g.n g.setting ∷ []) ws (y ∷ []) → as_setting y ≡ Some s → ((x : Expr) → T.set x s ≡ f x) → RestForm ws f

-- an expression
pub data ExprForm (ws : List Word) (m : Expr) : Type 0 where
  form : {us vs : List Word} {x : Expr} {f : Expr → Expr} → Unary us x → RestForm vs f → us ++ vs ≡ ws → f x ≡ m → ExprForm ws m

-- a list with one more part, and what stands after it
pub joint : (xs rest tail : List Word) {us zs : List Word} → xs ++ rest ≡ us → us ++ tail ≡ zs → xs ++ (rest ++ tail) ≡ zs
joint xs rest tail q h = sym (append_assoc xs rest tail) ∙ ap (λ z. z ++ tail) q ∙ h

pub posts_of : {ws : List Word} {e : Bool} {fs : List (Expr → Expr)} → Each PostForm ws e fs → (y : Value) × All (g.n g.posts ∷ []) ws (y ∷ []) × ((x : Expr) → T.posted x (as_posts y) ≡ applied x fs)
posts_of none = (v.posts [], (λ e. t_by g.NoPosts (λ c. refl) t_end), λ x. refl)
posts_of (more us p ps h) =
    let r = posts_of ps in
    (v.posts (as_post p.0 ∷ as_posts r.0), (λ e. t_by g.Posts (λ c. refl) (t_part p.1 (t_last r.1) h)), λ x. p.2 x (as_posts r.0) ∙ r.2 _)

pub call_of : {ws : List Word} {c : Option (List Expr)} → CallRest ws c → Gives g.call_rest ws as_call c
call_of no_call = (v.call None, (λ e. t_by g.NoCall (λ c. refl) t_end), refl)
call_of (with_call {y = y} f d) = (v.call (Some (as_exprs y)), (λ e. t_by g.CallRest (λ c. refl) (t_tok f (t_last d))), refl)

pub increment_of : {ws : List Word} {i : Option Operation} → Increments ws i → Gives g.increment ws as_increment i
increment_of no_increment = (v.increment None, (λ e. t_by g.NoIncrement (λ c. refl) t_end), refl)
increment_of (one_increment a f) = (v.increment (Some (v.increment_at (v.token a.token))), (λ e. t_by g.Increment (λ c. refl) (t_tok f t_end)), refl)

-- what stands behind an operand is the same
behind : {us vs : List Word} {e : Bool} {fs : List (Expr → Expr)} {i : Option Operation} (ps : Each PostForm us e fs) (o : Increments vs i) (x : Expr) →
    T.with_increment (T.posted x (as_posts (posts_of ps).0)) (as_increment (increment_of o).0) ≡ T.with_increment (applied x fs) i
behind {i = i} ps o x = (λ j. T.with_increment (T.posted x (as_posts (posts_of ps).0)) ((increment_of o).2 j)) ∙ ap (λ z. T.with_increment z i) ((posts_of ps).2 x)

pub name_rest_of : {cs us vs : List Word} {c : Option (List Expr)} {e : Bool} {fs : List (Expr → Expr)} {i : Option Operation} → CallRest cs c → Each PostForm us e fs → Increments vs i →
    (y : Value) × All (g.n g.name_rest ∷ []) (cs ++ (us ++ vs)) (y ∷ []) × ((t : Spelled) → as_expr_of_name y t ≡ T.with_increment (applied (v.called_or_named t c) fs) i)
name_rest_of c ps i =
    let C = call_of c in
    let P = posts_of ps in
    let I = increment_of i in (
      v.expr_of_name (λ t. T.with_increment (T.posted (v.called_or_named t (as_call C.0)) (as_posts P.0)) (as_increment I.0)),
      (λ e. t_by g.NameRest (λ z. refl) (t_part C.1 (t_part P.1 (t_last I.1) refl) refl)),
      λ t. (λ j. T.with_increment (T.posted (v.called_or_named t (C.2 j)) (as_posts P.0)) (as_increment I.0)) ∙ behind ps i _,
    )

pub begun : {ws : List Word} {m : Expr} → Unary ws m → Begun ws m
begun (ends {vs = vs} {i = o} (by_name {w} {cs} {us} f c ps h j) i l q) = begun_name f c ps i (joint (w ∷ cs) us vs h l) (ap (λ z. T.with_increment z o) j ∙ q)
begun (ends {vs = vs} {i = o} (by_primary {us = xs} {vs = ys} {x = x} d ps h j) i l q) =
    let P = posts_of ps in
    let I = increment_of i in
    begun_first (λ e. t_by g.Postfix (λ z. refl) (t_part d (t_part P.1 (t_last I.1) refl) (joint xs ys vs h l))) (behind ps i (as_expr x) ∙ ap (λ z. T.with_increment z o) j ∙ q)
begun (ends {vs = vs} {i = o} (by_round {a} c {us = xs} {vs = ys} {x = x} f d f2 ps h j) i l q) =
    let P = posts_of ps in
    let I = increment_of i in
    begun_first (t_moved (joint (a ∷ xs) (c ∷ ys) vs h l) (λ e. t_by g.Round (λ z. refl) (t_tok f (t_last (λ e. t_by g.Paren (λ z. refl) (t_part d (t_tok f2 (t_part P.1 (t_last I.1) refl)) refl)))))) (behind ps i (as_expr x) ∙ ap (λ z. T.with_increment z o) j ∙ q)
begun (steps f d h q) = begun_first (t_moved h (λ e. t_by g.Incremented (λ z. refl) (t_tok f (t_last d)))) q
begun (owes d h owed) = begun_first d h

unary_by : {ws : List Word} {m : Expr} → Begun ws m → Gives g.unary ws as_expr m
unary_by (begun_name {w} f c ps i h q) = let R = name_rest_of c ps i in (v.expr (as_expr_of_name R.0 w.token), t_moved h (λ e. t_by g.Named (λ z. refl) (t_tok f (t_last R.1))), R.2 w.token ∙ q)
unary_by (begun_first {y} d h) = (y, (λ e. t_by g.Unnamed (λ c. refl) (t_last d)), h)

pub unary_of : {ws : List Word} {m : Expr} → Unary ws m → Gives g.unary ws as_expr m
unary_of u = unary_by (begun u)

operation_of : {ws : List Word} {o : TreeOp × Pos} → Operator ws o → Gives g.operation ws (λ y. (as_op y, place y)) o
operation_of (less {w} f h i) = (v.operator op.Lt w.token.pos, t_moved h (λ e. t_by g.LessOperation (λ c. refl) (t_tok f t_end)), i)
operation_of (other {y} d h) = (y, (λ e. t_by g.OtherOperation (λ c. refl) (t_last d)), h)

join_one : (o : Value) (x : Expr) (q : Value) → as_expr q ≡ x → (ss rest : List Step) → ss ≡ rest → v.step o q ∷ ss ≡ record { op = as_op o; pos = place o; operand = x } ∷ rest
join_one o x q h ss rest i = ap (λ z. record { op = as_op o; pos = place o; operand = z } ∷ ss) h ∙ ap (λ z. record { op = as_op o; pos = place o; operand = x } ∷ z) i

pair_step : {o p : TreeOp × Pos} {x : Expr} {s : Step} → o ≡ p → record { op = p.0; pos = p.1; operand = x } ≡ s → record { op = o.0; pos = o.1; operand = x } ≡ s
pair_step {x = x} h i = ap (λ (z : TreeOp × Pos). record { op = z.0; pos = z.1; operand = x }) h ∙ i

tail_of : {ws : List Word} {e : Bool} {ss : List Step} → Each StepForm ws e ss → (y : Value) × All (g.n g.tail ∷ []) ws (y ∷ []) × (as_steps y ≡ ss)
tail_of none = (v.steps [], (λ e. t_by g.NoTail (λ c. refl) t_end), refl)
tail_of (more {ys = ys} {ms = ss} vs (step {us = us} {xs = xs} {x = x2} o x h i) rest j) =
    let p = operation_of o in
    let q = unary_of x in
    let r = tail_of rest in (
      v.steps (v.step p.0 q.0 ∷ as_steps r.0),
      (λ e. t_by g.Step (λ c. refl) (t_part p.1 (t_part q.1 (t_last r.1) refl) (sym (append_assoc us xs ys) ∙ ap (λ z. z ++ ys) h ∙ j))),
      join_one p.0 x2 q.0 q.2 (as_steps r.0) ss r.2 ∙ ap (λ z. z ∷ ss) (pair_step p.2 i),
    )

-- operators with their operands, and arms
pub chain_of : {xs ys : List Word} {e : Bool} {ss : List Step} {c : Value} → Each StepForm xs e ss → All (g.n g.choice ∷ []) ys (c ∷ []) →
    (r : Value) × All (g.n g.chain ∷ []) (xs ++ ys) (r ∷ []) × ((x : Expr) → whole x (as_steps r) (as_arms r) ≡ T.picked (L.joined x ss) (as_arms c)) × (as_setting r ≡ None)
chain_of {c = c} s d =
    let t = tail_of s in (
      v.rest (as_steps t.0) (as_arms c) None,
      (λ e. t_by g.Chain (λ q. refl) (t_part t.1 (t_last d) refl)),
      (λ x. ap (λ z. T.picked z (as_arms c)) (ap (λ z. L.joined x z) t.2)),
      refl,
    )

-- what goes on with an expression after its first operand
pub rest_of : {ws : List Word} {f : Expr → Expr} → RestForm ws f → (r : Value) × All (g.n g.expr_rest ∷ []) ws (r ∷ []) × ((x : Expr) → v.ended x r ≡ f x)
rest_of (going s d h q) =
    let t = chain_of s d in (t.0, t_moved h (λ e. t_by g.ExprRest (λ z. refl) (t_last t.1)), λ x. ap (λ z. v.finished x (as_steps t.0) (as_arms t.0) z) t.3 ∙ t.2 x ∙ q x)
rest_of (setting_form {y} d h q) = (v.rest [] None (as_setting y), (λ e. t_by g.ExprSetting (λ z. refl) (t_last d)), λ x. ap (λ z. v.finished x [] None z) h ∙ q x)

pub expr_of : {ws : List Word} {m : Expr} → ExprForm ws m → Gives g.expr ws as_expr m
expr_of (form u r h i) =
    let p = unary_of u in
    let R = rest_of r in
    (v.expr (v.ended (as_expr p.0) R.0), (λ e. t_by g.Expr (λ c. refl) (t_part p.1 (t_last R.1) h)), ap (λ z. v.ended z R.0) p.2 ∙ R.2 _ ∙ i)

-- a name is `calloc` or another
pub calloc_or : (c : Kind) → is_name c ≡ true → (c ≡ k.Calloc) ⊎ (g.is_name_but_calloc c ≡ true)
calloc_or k.Calloc h = inl refl
calloc_or _ h = inr h

pub unknown_or : (c : Kind) → is_name c ≡ true → (c ≡ k.Unknown) ⊎ (g.is_name_but_unknown c ≡ true)
unknown_or k.Unknown h = inl refl
unknown_or _ h = inr h

step_words : (us xs vs ys : List Word) {ss zs : List Word} → us ++ xs ≡ ss → ss ++ vs ≡ zs → us ++ (xs ++ (vs ++ ys)) ≡ zs ++ ys
step_words us xs vs ys h m = sym (append_assoc us xs (vs ++ ys)) ∙ ap (λ z. z ++ (vs ++ ys)) h ∙ sym (append_assoc _ vs ys) ∙ ap (λ z. z ++ ys) m

-- an expression as a right side: the table tells apart how it begins
calloc_rest : (w : Word) {cs us vs rs : List Word} {d : Bool} {c : Option (List Expr)} {fs : List (Expr → Expr)} {i : Option Operation} {f : Expr → Expr} → CallRest cs c → Each PostForm us d fs → Increments vs i → RestForm rs f →
    (x : Value) × All (g.n g.calloc_value ∷ []) (cs ++ (us ++ (vs ++ rs))) (x ∷ []) × (as_expr_of_name x w.token ≡ f (T.with_increment (applied (v.called_or_named w.token c) fs) i))
unfolding chain_of posts_of
calloc_rest w (with_call {y = y} f d) ps i r =
    let P = posts_of ps in
    let I = increment_of i in
    let R = rest_of r in (
      v.expr_of_name (λ t. v.ended (T.with_increment (T.posted (v.called t (as_exprs y)) (as_posts P.0)) (as_increment I.0)) R.0),
      (λ e. t_by g.CallocCall (λ z. refl) (t_tok f (t_part d (t_part P.1 (t_part I.1 (t_last R.1) refl) refl) refl))),
      ap (λ z. v.ended z R.0) (behind ps i (v.called w.token (as_exprs y))) ∙ R.2 _,
    )
calloc_rest w {vs = vs} {rs = rs} no_call (more {ys = ys} us p ps h) i r =
    let P = posts_of ps in
    let I = increment_of i in
    let R = rest_of r in (
      v.expr_of_name (λ t. v.ended (T.with_increment (T.posted (v.named t) (as_post p.0 ∷ as_posts P.0)) (as_increment I.0)) R.0),
      (λ e. t_by g.CallocPost (λ z. refl) (t_part p.1 (t_part P.1 (t_part I.1 (t_last R.1) refl) refl) (joint us ys (vs ++ rs) h refl))),
      ap (λ z. v.ended z R.0) (behind (more us p ps h) i (v.named w.token)) ∙ R.2 _,
    )
calloc_rest w no_call none (one_increment a f) r =
    let R = rest_of r in (
      v.expr_of_name (λ t. v.ended (T.with_increment (v.named t) (Some (v.increment_at (v.token a.token)))) R.0),
      (λ e. t_by g.CallocIncrement (λ z. refl) (t_tok f (t_last R.1))),
      R.2 _,
    )
calloc_rest w no_call none no_increment (setting_form {y} d h q) =
    (v.expr_of_name (λ t. v.finished (v.named t) [] None (as_setting y)), (λ e. t_by g.CallocSetting (λ z. refl) (t_last d)), ap (λ z. v.finished (v.named w.token) [] None z) h ∙ q _)
calloc_rest w no_call none no_increment (going {c = c} none d h q) =
    (v.expr_of_name (λ t. T.picked (v.named t) (as_arms c)), t_moved h (λ e. t_by g.CallocName (λ z. refl) (t_last d)), ap (λ z. T.picked z (as_arms c)) (sym (join_none (v.named w.token))) ∙ q _)
calloc_rest w no_call none no_increment (going {ys = ys} {c = c} (more {ys = vs} {m = a} {ms = ss} qs (step {us = us} {xs = xs} {x = x2} (other {y = o} i j) x h q) rest m) d l last) =
    let p = unary_of x in
    let C = chain_of rest d in
    let y = tail_of rest in (
      v.expr_of_name (λ t. whole (v.named t) (v.step o p.0 ∷ as_steps y.0) (as_arms c)),
      t_moved l (λ e. t_by g.CallocStep (λ z. refl) (t_part i (t_part p.1 (t_last C.1) refl) (step_words us xs vs ys h m))),
      ap (λ z. T.picked z (as_arms c)) (ap (λ z. L.joined (v.named w.token) z) (join_one o x2 p.0 p.2 (as_steps y.0) ss y.2 ∙ ap (λ z. z ∷ ss) (pair_step j q))) ∙ last _,
    )
calloc_rest w no_call none no_increment (going {ys = ys} {c = c} (more {ys = vs} {m = a} {ms = ss} qs (step {us = us} {xs = xs} {x = x2} (less {w = b} f i j) x h q) rest m) d l last) =
    let p = unary_of x in
    let C = chain_of rest d in
    let y = tail_of rest in (
      v.expr_of_name (λ t. whole (v.named t) (record { op = op.Lt; pos = b.token.pos; operand = as_expr p.0 } ∷ as_steps y.0) (as_arms c)),
      t_moved (ap (λ z. z ++ (xs ++ (vs ++ ys))) i ∙ step_words us xs vs ys h m ∙ l)
          (λ e. t_by g.CallocLess (λ z. refl) (t_tok f (t_last (λ e. t_by g.LessOperand (λ z. refl) (t_part p.1 (t_last C.1) refl))))),
      ap (λ z. T.picked z (as_arms c)) (ap (λ z. L.joined (v.named w.token) z) (ap (λ z. record { op = op.Lt; pos = b.token.pos; operand = z } ∷ as_steps y.0) p.2 ∙ ap (λ z. record { op = op.Lt; pos = b.token.pos; operand = x2 } ∷ z) y.2 ∙ ap (λ z. z ∷ ss) (pair_step j q))) ∙ last _,
    )

right_by : {us rs ws : List Word} {x m : Expr} {f : Expr → Expr} → Begun us x → RestForm rs f → us ++ rs ≡ ws → f x ≡ m → Gives g.value ws as_expr m
right_by (begun_first {y} d i) r h j =
    let R = rest_of r in (v.expr (v.ended (as_expr y) R.0), (λ e. t_by g.Value (λ c. refl) (t_part d (t_last R.1) h)), ap (λ z. v.ended z R.0) i ∙ R.2 _ ∙ j)
right_by {rs = rs} {ws = ws} {m = m} {f = f} (begun_name {w} {cs} {us} {vs} is c ps i h0 q) r h j = with_name (calloc_or (sign_of w).kind is)
  where
    words : w ∷ (cs ++ (us ++ (vs ++ rs))) ≡ ws
    words = ap (λ z. w ∷ (cs ++ z)) (sym (append_assoc us vs rs)) ∙ joint (w ∷ cs) (us ++ vs) rs h0 h

    with_name : ((sign_of w).kind ≡ k.Calloc) ⊎ (g.is_name_but_calloc (sign_of w).kind ≡ true) → Gives g.value ws as_expr m
    with_name (inl o) =
        let R = calloc_rest w c ps i r in
        (v.expr (as_expr_of_name R.0 w.token), t_moved words (λ e. t_by g.CallocValue (λ z. refl) (t_tok o (t_last R.1))), R.2 ∙ ap f q ∙ j)
    with_name (inr o) =
        let N = name_rest_of c ps i in
        let R = rest_of r in (
          v.expr (v.ended (as_expr_of_name N.0 w.token) R.0),
          t_moved (ap (λ z. z ++ rs) h0 ∙ h) (λ e. t_by g.NamedValue (λ z. refl) (t_tok o (t_part N.1 (t_last R.1) refl))),
          ap (λ z. v.ended z R.0) (N.2 w.token ∙ q) ∙ R.2 _ ∙ j,
        )

pub right_of : {ws : List Word} {m : Expr} → ExprForm ws m → Gives g.value ws as_expr m
right_of (form u r h j) = right_by (begun u) r h j

-- what the words of each part of the grammar are in the table

-- a base: of a structure, or another
pub data BaseForm (ws : List Word) (b : TypeTree) : Type 0 where
  tag : {a s : Word} → (sign_of a).kind ≡ k.Struct → is_name (sign_of s).kind ≡ true → a ∷ s ∷ [] ≡ ws → v.struct_type s.token ≡ b → BaseForm ws b
  scalar : {x : Value} → All (g.n g.scalar ∷ []) ws (x ∷ []) → as_type x ≡ b → BaseForm ws b

pub base_of : {ws : List Word} {b : TypeTree} → BaseForm ws b → Gives g.base ws as_type b
base_of (tag f i h j) = (_, t_moved h (λ e. t_by g.StructBase (λ c. refl) (t_tok f (t_tok i t_end))), j)
base_of (scalar {x} d h) = (x, (λ e. t_by g.Scalar (λ c. refl) (t_last d)), h)

-- [ p ], p { "," p }, and p after a token
pub data OptForm {M : Type 0} (F : List Word → Bool → M → Type 0) (ws : List Word) (e : Bool) (o : Option M) : Type 0 where
  absent : [] ≡ ws → None ≡ o → OptForm F ws e o
  present : {m : M} → F ws e m → Some m ≡ o → OptForm F ws e o

pub data AfterForm {M : Type 0} (F : List Word → Bool → M → Type 0) (c : Terminal) (ws : List Word) (e : Bool) (m : M) : Type 0 where
  after_form : {w : Word} {us : List Word} → fits c w ≡ true → F us e m → w ∷ us ≡ ws → AfterForm F c ws e m

pub data CommaForm {M : Type 0} (F : List Word → Bool → M → Type 0) (ws : List Word) (e : Bool) (ms : List M) : Type 0 where
  comma_form : {us ys : List Word} {m : M} {rest : List M} → F us (before_else ys e) m → Each (AfterForm F comma) ys e rest → us ++ ys ≡ ws → m ∷ rest ≡ ms → CommaForm F ws e ms

-- a call of `calloc` with a type; a call
pub data CallocForm (ws : List Word) (m : Expr) : Type 0 where
  of_type : {w a : Word} {us : List Word} {y : Value} → (sign_of w).kind ≡ k.Calloc → (sign_of a).kind ≡ k.Less → All (g.n g.allocation ∷ []) us (y ∷ []) → (as_expr_of_name y w.token).pos ≡ w.token.pos → w ∷ a ∷ us ≡ ws → as_expr_of_name y w.token ≡ m → CallocForm ws m

pub data CallForm (ws : List Word) (m : Expr) : Type 0 where
  of_name : {w a : Word} {us : List Word} {y : Value} → is_name (sign_of w).kind ≡ true → (sign_of a).kind ≡ k.RoundOpen → All (g.n g.arguments ∷ []) us (y ∷ []) → w ∷ a ∷ us ≡ ws → v.called w.token (as_exprs y) ≡ m → CallForm ws m
  of_calloc : {us : List Word} → CallocForm us m → us ≡ ws → CallForm ws m

pub calloc_right : {ws : List Word} {m : Expr} → CallocForm ws m → Gives g.value ws as_expr m
calloc_right (of_type f i d p h j) =
    (_, t_moved h (λ e. t_by g.CallocValue (λ c. refl) (t_tok f (t_last (λ e. t_by g.CallocLess (λ c. refl) (t_tok i (t_last (λ e. t_by g.LessType (λ c. refl) (t_last d)))))))), j)

-- a block after its `{`, an assignment as a statement, and so on: the next clauses of this file

-- an operand with operators and operands; an assignment
pub data BinaryForm (ws : List Word) (m : Expr) : Type 0 where
  binary_form : {us xs : List Word} {x : Expr} {d : Bool} {ss : List Step} → Unary us x → Each StepForm xs d ss → us ++ xs ≡ ws → L.joined x ss ≡ m → BinaryForm ws m

pub data AssignForm (ws : List Word) (s : Stmt) : Type 0 where
  named_assign : {w : Word} {cs us vs : List Word} {c : Option (List Expr)} {e : Bool} {fs : List (Expr → Expr)} {y : Value} → is_name (sign_of w).kind ≡ true → CallRest cs c → Each PostForm us e fs → All (g.n g.change ∷ []) vs (y ∷ []) → w ∷ (cs ++ (us ++ vs)) ≡ ws →
      T.changed (applied (v.called_or_named w.token c) fs) (as_increment y) (as_setting y) ≡ s → AssignForm ws s
  unnamed_assign : {y : Value} → All (g.n g.unnamed ∷ []) ws (y ∷ []) → as_stmt y ≡ s → AssignForm ws s

-- a type; an item before more items
pub data TypeForm (ws : List Word) (b : TypeTree) : Type 0 where
  type_form : {us vs : List Word} {c : TypeTree} {ps : Value} → BaseForm us c → All (g.n g.stars ∷ []) vs (ps ∷ []) → us ++ vs ≡ ws → starred c (as_stars ps) ≡ b → TypeForm ws b

abbrev pub ItemForm : List Word → List Item → Type 0
ItemForm ws is = (us : List Word) (x : Value) → All (g.n g.items ∷ []) us (x ∷ []) → Gives g.items (ws ++ us) as_items (is ++ as_items x)

-- what an item declares, before what may be `static`: the table reads a structure as a base apart
abbrev pub Declares : List Word → List Item → Type 0
Declares ws is =
    ((x : Value) × All (g.n g.declared ∷ []) ws (x ∷ []) × (as_items x ≡ is))
    ⊎ ((a : Word) × (s : Word) × (us : List Word) × (x : Value) × ((sign_of a).kind ≡ k.Struct) × (is_name (sign_of s).kind ≡ true) × All (g.n g.declarators ∷ []) us (x ∷ []) × (a ∷ s ∷ us ≡ ws)
    × (as_items_of_base x (v.struct_type s.token) ≡ is))

-- what the words of each part of the grammar are in the table
abbrev pub From : (p : l.Part) → List Word → Bool → l.Meaning p → Type 0
From l.text ws e m = All (g.n g.text ∷ []) ws (v.tree m ∷ [])
From l.item ws e m = ItemForm ws m
From l.static ws e m = (a : Word) × (a ∷ [] ≡ ws) × ((sign_of a).kind ≡ k.Static)
From l.structure ws e m = (a : Word) × (s : Word) × (us : List Word) × (x : Value) × ((sign_of a).kind ≡ k.Struct) × (is_name (sign_of s).kind ≡ true) × All (g.n g.structure ∷ []) us (x ∷ []) × (a ∷ s ∷ us ≡ ws) × (as_items_of_name x s.token ≡ m ∷ [])
From l.member ws e m = Gives g.member ws as_decls m
From l.slot ws e m = Gives g.slot ws as_decl_of_base m
From l.objects ws e m = Declares ws m
From l.object ws e m = (pls : List Word) × (ps : Value) × (a : Word) × (us : List Word) × (x : Value) × All (g.n g.stars ∷ []) pls (ps ∷ []) × (is_name (sign_of a).kind ≡ true) × All (g.n g.object_rest ∷ []) us (x ∷ [])
    × (pls ++ (a ∷ us) ≡ ws) × ((λ b. as_decl_of_name x (starred b (as_stars ps)) a.token) ≡ m)
From l.initial ws e m = Gives g.initializer ws as_init m
From l.array ws e m = Gives g.array ws as_length m
From l.size ws e m = (a : Word) × (a ∷ [] ≡ ws) × ((sign_of a).kind ≡ k.Number) × (number_of a.token.kind ≡ m)
From l.proto ws e m = Declares ws (m ∷ [])
From l.func ws e m = Declares ws (m ∷ [])
From l.head ws e m = (us : List Word) (x : Value) → All (g.n g.body ∷ []) us (x ∷ []) → Declares (ws ++ us) (T.function_of m (as_part x) ∷ [])
From l.params ws e m = (w : Word) → (sign_of w).kind ≡ k.RoundClose → Gives g.params (ws ++ (w ∷ [])) as_decls m
From l.param ws e m = Gives g.param ws as_decl m
From l.mode ws e m = Gives g.mode ws (λ x. (as_mode x, place x)) m
From l.base ws e m = BaseForm ws m
From l.type_name ws e m = TypeForm ws m
From l.stars ws e m = Gives g.stars ws as_stars m
From l.star ws e m = (a : Word) × (a ∷ [] ≡ ws) × ((sign_of a).kind ≡ k.Star) × (a.token.pos ≡ m)
From l.limits ws e m = Gives g.limits ws as_limits m
From l.block ws e m = (a : Word) × (us : List Word) × (x : Value) × ((sign_of a).kind ≡ k.CurlyOpen) × All (g.n g.block_items ∷ []) us (x ∷ []) × (a ∷ us ≡ ws) × ((a.token.pos, as_stmts x) ≡ m)
From l.line ws e m = Gives g.locals ws (λ x. T.locals (as_decls x)) m ⊎ ((x : Value) × At (g.n g.stmt ∷ []) ws e (x ∷ []) × (as_stmt x ∷ [] ≡ m))
From l.local ws e m = (w : Word) → (sign_of w).kind ≡ k.Semicolon → Gives g.locals (ws ++ (w ∷ [])) (λ x. T.locals (as_decls x)) m
From l.local_name ws e m = Gives g.local ws as_decl_of_base m
From l.right ws e m = Gives g.value ws as_expr m
From l.calloc ws e m = CallocForm ws m
From l.assign ws e m = AssignForm ws m
From l.op ws e m = (a : Word) × (a ∷ [] ≡ ws) × (is_compound (sign_of a).kind ≡ true) × ((compound_op (kind_of_token a.token), a.token.pos) ≡ m)
From l.increment ws e m = (a : Word) × (a ∷ [] ≡ ws) × (is_increment (sign_of a).kind ≡ true) × ((increment_op (kind_of_token a.token), a.token.pos) ≡ m)
From l.change ws e m = (us : List Word) × (w : Word) × AssignForm us m × ((sign_of w).kind ≡ k.Semicolon) × (us ++ (w ∷ []) ≡ ws)
From l.stmt ws e m = (x : Value) × At (g.n g.stmt ∷ []) ws e (x ∷ []) × (as_stmt x ≡ m)
From l.start ws e m = (w : Word) → (sign_of w).kind ≡ k.Semicolon → Gives g.for_start (ws ++ (w ∷ [])) as_part (Some m)
From l.call ws e m = CallForm ws m
From l.expr ws e m = ExprForm ws m
From l.binary ws e m = BinaryForm ws m
From l.step ws e m = StepForm ws e m
From l.operator ws e m = Operator ws m
From l.unary ws e m = Unary ws m
From l.postfix ws e m = Postfix ws m
From l.post ws e m = PostForm ws e m
From l.primary ws e m = (us : List Word) (d : Bool) (fs : List (Expr → Expr)) → Each PostForm us d fs → Postfix (ws ++ us) (applied m fs)
From (l.opt p) ws e m = OptForm (From p) ws e m
From (l.many p) ws e m = Each (From p) ws e m
From (l.commas p) ws e m = CommaForm (From p) ws e m
From (l.after c p) ws e m = AfterForm (From p) c ws e m

-- what an alternative is made of, with what its parts are
pub data Got : (ss : List Symbol) → List Word → Bool → (X : Type 0) → Makes ss X → Type 1 where
  end : {e : Bool} {X : Type 0} {f : X} → Got [] [] e X f
  token : {c : Terminal} {u : Use} {ss : List Symbol} {w : Word} {ws : List Word} {e : Bool} {X : Type 0} {f : Makes (t c u ∷ ss) X} →
      fits c w ≡ true → Got ss ws e X (used u w.token f) → Got (t c u ∷ ss) (w ∷ ws) e X f
  piece : {p : l.Part} {ss : List Symbol} {ys zs : List Word} {e : Bool} {X : Type 0} {f : Makes (n p ∷ ss) X} → (us : List Word) (m : l.Meaning p) →
      From p us (before_else ys e) m → Got ss ys e X (f m) → us ++ ys ≡ zs → Got (n p ∷ ss) zs e X f
  sole : {ss : List Symbol} {ws : List Word} {e : Bool} {X : Type 0} {f : Makes ss X} → before_else ws e ≡ false → Got ss ws e X f → Got (no_else ∷ ss) ws e X f

-- what is made of them
abbrev pub worth : {ss : List Symbol} {ws : List Word} {e : Bool} {X : Type 0} {f : Makes ss X} → Got ss ws e X f → X
worth (end {f = f}) = f
worth (token h q) = worth q
worth (piece us m d q h) = worth q
worth (sole h q) = worth q
