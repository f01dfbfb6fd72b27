-- Levels of trees without effects: what has no calls, what may be pending, and both together.
use Rattle.std.proofs.Common.{◌≡◌, ◌≢◌, ◌∙◌, sym, ap, refl, Bool, true, false, ◌&&◌, ◌||◌, ℕ, List, [], ◌∷◌, ◌++◌, map, rules}
use Rattle.std.specs.Prelude.{Option, Some, None, not, is_none, if◌then◌else◌}
use Rattle.std.specs.List.{list_all}
use Rattle.std.proofs.lemmas.List.Folds.{list_all-append}
use Rattle.ckc_base.specs.declared.places.Pos.{Pos}
use Rattle.ckc_syntax.specs.Inside.{all_have, one_has, inside_each}
use Rattle.ckc_syntax.specs.declared.tree.Name.{Name}
use Rattle.ckc_syntax.specs.declared.tree.Name.TheVariants as name
use Rattle.ckc_syntax.specs.declared.tree.TreeOp.{TreeOp}
use Rattle.ckc_syntax.specs.declared.tree.TreeOp.TheVariants as op
use Rattle.ckc_syntax.specs.declared.tree.Node.{Node-F, map-Node, out-Node, roll-Node, fold-Node, fold-roll-Node, the_lemmas}
use Rattle.ckc_syntax.specs.declared.tree.Node.TheVariants as node
use Rattle.ckc_syntax.specs.declared.tree.Expr.{fold-roll-Expr}
use Rattle.ckc_syntax.specs.declared.tree.Act.{Act-F, map-Act, roll-Act, fold-Act, fold-roll-Act}
use Rattle.ckc_syntax.specs.declared.tree.Act.TheVariants as act
use Rattle.ckc_syntax.specs.declared.tree.Stmt.{fold-roll-Stmt}
use Rattle.ckc_syntax.specs.Trees.{NamedLimits, NamedNode, NamedExpr, NamedStmt, NamedAct}
use Rattle.ckc_plain.specs.ckc_plain_barred.specs.declared.integers.Integer.{Integer}
use Rattle.ckc_plain.specs.ckc_plain_bodies.specs.declared.pending.Pending.{Pending}
use Rattle.ckc_plain.specs.ckc_plain_barred.specs.declared.forms.Work.{Work}
use Rattle.ckc_plain.specs.ckc_plain_barred.specs.declared.forms.Work.TheVariants as work
use Rattle.ckc_plain.specs.ckc_plain_barred.specs.Forms.{work_of}
use Rattle.ckc_plain.specs.ckc_plain_bodies.specs.Taken.{expr_at, stmt_at, local_at, number_at, block_at, assign_at, declare_at}
use Rattle.ckc_typed_welltyped.specs.Productions.{limits_callless, node_callless, expr_callless, callless_limits, callless_expr, call_form, is_call, is_right, Form, limits_formed, is_set, node_formed, expr_formed, limits_form, expr_form, Given, given_act, given_in, given_stmt}

abbrev pub Layer : Type 0
Layer = Node-F Name (Unit {0}) NamedLimits NamedNode NamedExpr

abbrev pub ActLayer : Type 0
ActLayer = Act-F Name (Unit {0}) NamedAct NamedStmt

abbrev pub callless_node : NamedNode → Bool
callless_node = fold-Node Name (Unit {0}) Bool Bool Bool limits_callless node_callless expr_callless

abbrev pub form_of_node : NamedNode → Form
form_of_node = fold-Node Name (Unit {0}) Bool Form Form limits_formed node_formed expr_formed

abbrev pub callless_inside : Layer → Node-F Name (Unit {0}) Bool Bool Bool
callless_inside = map-Node Name (Unit {0}) NamedLimits NamedNode NamedExpr Bool Bool Bool callless_limits callless_node callless_expr

abbrev pub forms_inside : Layer → Node-F Name (Unit {0}) Bool Form Form
forms_inside = map-Node Name (Unit {0}) NamedLimits NamedNode NamedExpr Bool Form Form limits_form form_of_node expr_form

abbrev pub given_of : NamedAct → Given
given_of = fold-Act Name (Unit {0}) Given Given given_act given_in

abbrev pub given_inside : ActLayer → Act-F Name (Unit {0}) Given Given
given_inside = map-Act Name (Unit {0}) NamedAct NamedStmt Given Given given_of given_stmt

abbrev pub Callless : NamedExpr → Type 0
Callless e = callless_expr e ≡ true

abbrev pub IsCall : NamedExpr → Type 0
IsCall e = is_call e ≡ true

abbrev pub IsRight : NamedExpr → Type 0
IsRight e = is_right e ≡ true

-- what may be pending
abbrev pub is_good : Given → Bool
is_good g = g.fine && (g.nested && not g.jumps)

abbrev pub AllGood : List NamedStmt → Type 0
AllGood ss = list_all (λ (s : NamedStmt). is_good (given_stmt s)) ss ≡ true

pub both : (a b : Bool) → a ≡ true → b ≡ true → (a && b) ≡ true
both a b e f = ap (λ c. c && b) e ∙ f

pub parts_of : (a b : Bool) → (a && b) ≡ true → (a ≡ true) × (b ≡ true)
parts_of true b e = (refl, e)
parts_of false b e = absurd cc

-- two lists that are empty together
pub empty_parts : {X : Type 0} (xs ys : List X) → (xs ++ ys) ≡ [] → (xs ≡ []) × (ys ≡ [])
empty_parts [] ys e = (refl, e)
empty_parts (x ∷ xs) ys e = absurd cc

-- ---- one level

pub node_is : (x : Layer) → callless_node (roll-Node Name (Unit {0}) x) ≡ node_callless (callless_inside x)
node_is x = fold-roll-Node Name (Unit {0}) Bool Bool Bool limits_callless node_callless expr_callless x

pub expr_is : (e : NamedExpr) → callless_expr e ≡ callless_node e.node
expr_is e = fold-roll-Expr Name (Unit {0}) Bool Bool Bool limits_callless node_callless expr_callless (record { node = e.node; pos = e.pos; note = tt })

pub without : (x : Layer) (n : NamedNode) (pos : Pos) → roll-Node Name (Unit {0}) x ≡ n → node_callless (callless_inside x) ≡ true → Callless (expr_at n pos)
without x n pos is h = expr_is (expr_at n pos) ∙ ap callless_node (sym is) ∙ node_is x ∙ h

pub node_out : (x : Layer) → out-Node Name (Unit {0}) (roll-Node Name (Unit {0}) x) ≡ x
node_out x = search (rules, the_lemmas)

pub layer_of : (x : Layer) (n : NamedNode) → roll-Node Name (Unit {0}) x ≡ n → out-Node Name (Unit {0}) n ≡ x
layer_of x n is = ap (out-Node Name (Unit {0})) (sym is) ∙ node_out x

pub called : (x : Layer) (n : NamedNode) (pos : Pos) → roll-Node Name (Unit {0}) x ≡ n → call_form x ≡ true → IsCall (expr_at n pos)
called x n pos is h = ap call_form (layer_of x n is) ∙ h

pub given_at : (x : ActLayer) (a : NamedAct) (pos : Pos) → roll-Act Name (Unit {0}) x ≡ a → given_stmt (stmt_at a pos) ≡ given_act (given_inside x)
given_at x a pos is =
    fold-roll-Stmt Name (Unit {0}) Given Given given_act given_in (record { body = a; pos = pos; note = tt })
    ∙ ap given_of (sym is) ∙ fold-roll-Act Name (Unit {0}) Given Given given_act given_in x

pub good_at : (x : ActLayer) (a : NamedAct) (pos : Pos) → roll-Act Name (Unit {0}) x ≡ a → is_good (given_act (given_inside x)) ≡ true → is_good (given_stmt (stmt_at a pos)) ≡ true
good_at x a pos is h = ap is_good (given_at x a pos is) ∙ h

pub local_without : (k : ℕ) (pos : Pos) → Callless (local_at k pos)
local_without k pos = without (Node-F.Name (name.Local k)) _ pos (node.rolls-Name (name.Local k)) refl

pub number_without : (n : ℕ) (pos : Pos) → Callless (number_at n pos)
number_without n pos = without (Node-F.Number n false) _ pos (node.rolls-Number n false) refl

pub right_callless : (e : NamedExpr) → Callless e → IsRight e
right_callless e h = by (is_call e) (callless_expr e) h
  where
    by : (a b : Bool) → b ≡ true → (a || b) ≡ true
    by true b h = refl
    by false b h = h

pub right_call : (e : NamedExpr) → IsCall e → IsRight e
right_call e h = ap (λ b. b || callless_expr e) h

pub assign_good : (x e : NamedExpr) (pos : Pos) → Callless x → IsRight e → is_good (given_stmt (assign_at x e pos)) ≡ true
assign_good x e pos h g = good_at (Act-F.Assign x e) _ pos (act.rolls-Assign x e) (both _ _ (both _ _ h g) refl)

pub declare_good : (t : Integer) (k : ℕ) (e : NamedExpr) (pos : Pos) → IsRight e → is_good (given_stmt (declare_at t k e pos)) ≡ true
declare_good t k e pos h = good_at (Act-F.Local _) _ pos (act.rolls-Local _) (both _ _ h refl)

pub added : (ss ts : List NamedStmt) → AllGood ss → AllGood ts → AllGood (ss ++ ts)
added ss ts h g = list_all-append (λ (s : NamedStmt). is_good (given_stmt s)) ss ts ∙ both _ _ h g

pub one_more : (ss : List NamedStmt) (s : NamedStmt) → AllGood ss → is_good (given_stmt s) ≡ true → AllGood (ss ++ s ∷ [])
one_more ss s h g = added ss (s ∷ []) h (both _ _ g refl)

-- the facts of good statements, one by one
pub record AllAre (gs : List Given) : Type 0 where
  pub fine : inside_each all_have (λ (g : Given). g.fine) gs ≡ true
  pub nested : inside_each all_have (λ (g : Given). g.nested) gs ≡ true
  pub stay : inside_each one_has (λ (g : Given). g.jumps) gs ≡ false

pub is_not : (b : Bool) → not b ≡ true → b ≡ false
is_not true e = absurd cc
is_not false e = refl

pub neither : (a b : Bool) → a ≡ false → b ≡ false → (a || b) ≡ false
neither a b e f = ap (λ c. c || b) e ∙ f

pub all_are : (ss : List NamedStmt) → AllGood ss → AllAre (map given_stmt ss)
all_are [] h = record { fine = refl; nested = refl; stay = refl }
all_are (s ∷ ss) h =
    let p = parts_of (is_good (given_stmt s)) (list_all (λ (x : NamedStmt). is_good (given_stmt x)) ss) h in
    let q = parts_of (given_stmt s).fine ((given_stmt s).nested && not (given_stmt s).jumps) p.0 in
    let r = parts_of (given_stmt s).nested (not (given_stmt s).jumps) q.1 in
    let more = all_are ss p.1 in
    record {
      fine = both _ _ q.0 more.fine;
      nested = both _ _ r.0 more.nested;
      stay = neither _ _ (is_not _ r.1) more.stay;
    }

pub good_of : (f n j : Bool) → f ≡ true → n ≡ true → j ≡ false → (f && (n && not j)) ≡ true
good_of f n j h g k = both _ _ h (both _ _ g (ap not k))

pub block_good : (ss : List NamedStmt) (pos : Pos) → AllGood ss → is_good (given_stmt (block_at ss pos)) ≡ true
block_good ss pos h = let a = all_are ss h in good_at (Act-F.Block None ss) _ pos (act.rolls-Block None ss) (good_of _ _ _ a.fine a.nested a.stay)

-- ---- an expression and what is pending

pub record Made (P : NamedExpr → Type 0) (r : NamedExpr × Pending) : Type 0 where
  pub is : P r.0
  pub pending : AllGood r.1.stmts

pub weaker : (P Q : NamedExpr → Type 0) (r : NamedExpr × Pending) → (P r.0 → Q r.0) → Made P r → Made Q r
weaker P Q r f m = record { is = f m.is; pending = m.pending }

pub set_of : (o : TreeOp) → work_of o ≡ work.Sets → is_set o ≡ true
set_of op.Set e = refl
set_of _ e = absurd cc

pub not_set : (o : TreeOp) (w : Work) → work_of o ≡ w → w ≢ work.Sets → is_set o ≡ false
not_set op.Set w is differs = absurd (differs (sym is))
not_set _ w is differs = refl

pub none_there : {X : Type 0} (o : Option X) → o ≡ None → is_none o ≡ true
none_there None e = refl
none_there (Some x) e = absurd cc

-- if a place is told exactly when something is refused, and none is, it is not refused
pub not_told : (b : Bool) (pos : Pos) → (if b then pos ∷ [] else []) ≡ [] → b ≡ false
not_told true pos e = absurd cc
not_told false pos e = refl

pub split_or : (a b : Bool) → (a || b) ≡ false → (a ≡ false) × (b ≡ false)
split_or true b e = absurd cc
split_or false b e = (refl, e)
