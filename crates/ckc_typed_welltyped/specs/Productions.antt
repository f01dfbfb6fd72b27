-- What the productions of the grammar give beside the types of trees (ISO C11, 6.5 to 6.9, with the choices of this
-- language), and what is left of that once calls and assignments have been taken out of expressions: where calls stand,
-- what a call statement is, what a bundle holds, what begins and steps a `for`, and that a structure has a member.
use Rattle.std.specs.Prelude.{Bool, true, false, not, ◌&&◌, ◌||◌, if◌then◌else◌, nat_le, length, Option, None, Some}
use Rattle.std.specs.List.{list_all}
use Rattle.ckc_syntax.specs.Inside.{all_have, inside_if, inside_each, inside_limits, inside_node, inside_init, inside_act, inside_item}
use Rattle.ckc_typed_welltyped.specs.Jumps.{jumps_out}
use Rattle.ckc_syntax.specs.declared.tree.Tree.{Tree}
use Rattle.ckc_syntax.specs.declared.tree.Item.{Item}
use Rattle.ckc_syntax.specs.declared.tree.Item.TheVariants as item
use Rattle.ckc_syntax.specs.declared.tree.Head.{Head}
use Rattle.ckc_syntax.specs.declared.tree.Decl.{Decl}
use Rattle.ckc_syntax.specs.declared.tree.Init.{Init}
use Rattle.ckc_syntax.specs.declared.tree.Init.TheVariants as init
use Rattle.ckc_syntax.specs.declared.tree.Limits.{Limits, Limits-F, fold-Limits}
use Rattle.ckc_syntax.specs.declared.tree.Node.{Node, Node-F, out-Node}
use Rattle.ckc_syntax.specs.declared.tree.Expr.{Expr, Expr-F, fold-Expr}
use Rattle.ckc_syntax.specs.declared.tree.TreeOp.{TreeOp}
use Rattle.ckc_syntax.specs.declared.tree.TreeOp.TheVariants as op
use Rattle.ckc_syntax.specs.declared.tree.Act.{Act-F}
use Rattle.ckc_syntax.specs.declared.tree.Stmt.{Stmt, Stmt-F, fold-Stmt}

-- ---- calls apart from other expressions

-- no call, anywhere in it
abbrev pub limits_callless : {N A : Type 0} → Limits-F N A Bool Bool Bool → Bool
limits_callless = inside_limits all_have (λ e. e)

abbrev pub node_callless : {N A : Type 0} → Node-F N A Bool Bool Bool → Bool
node_callless (Node-F.Call n es) = false
node_callless (Node-F.Calloc t e u) = false
node_callless n = inside_node all_have (λ l. l) (λ e. e) n

abbrev pub expr_callless : {N A : Type 0} → Expr-F N A Bool Bool Bool → Bool
expr_callless e = e.node

abbrev pub callless_limits : {N A : Type 0} → Limits N A → Bool
callless_limits {N} {A} = fold-Limits N A Bool Bool Bool limits_callless node_callless expr_callless

abbrev pub callless_expr : {N A : Type 0} → Expr N A → Bool
callless_expr {N} {A} = fold-Expr N A Bool Bool Bool limits_callless node_callless expr_callless

abbrev pub callless_bounds : {N A : Type 0} → Option (Limits N A) → Bool
callless_bounds = inside_if all_have callless_limits

abbrev pub callless_value : {N A : Type 0} → Option (Expr N A) → Bool
callless_value = inside_if all_have callless_expr

-- a call, with no call in its arguments
abbrev pub call_form : {N A : Type 0} → Node-F N A (Limits N A) (Node N A) (Expr N A) → Bool
call_form (Node-F.Call n es) = list_all callless_expr es
call_form (Node-F.Calloc t e u) = callless_expr e
call_form _ = false

abbrev pub is_call : {N A : Type 0} → Expr N A → Bool
is_call {N} {A} e = call_form (out-Node N A e.node)

-- A right side is an expression without calls, or is one call as a whole.
abbrev pub is_right : {N A : Type 0} → Expr N A → Bool
is_right e = is_call e || callless_expr e

-- ---- calls and assignments within expressions

-- Whether an expression may stand within an expression, as a right side, and as a call statement: a `calloc` stands
-- alone on a right side, or is a statement.
pub record Form : Type 0 where
  pub inner : Bool
  pub right : Bool
  pub call : Bool

-- an expression that is no call
abbrev pub no_call : Bool → Form
no_call fine = record { inner = fine; right = fine; call = false }

abbrev pub limits_formed : {N A : Type 0} → Limits-F N A Bool Form Form → Bool
limits_formed = inside_limits all_have (λ (e : Form). e.inner)

abbrev pub is_set : TreeOp → Bool
is_set op.Set = true
is_set _ = false

abbrev pub node_formed : {N A : Type 0} → Node-F N A Bool Form Form → Form
node_formed (Node-F.Call n es) = record {
  inner = inside_each all_have (λ (e : Form). e.inner) es;
  right = inside_each all_have (λ (e : Form). e.inner) es;
  call = inside_each all_have (λ (e : Form). e.inner) es;
}
node_formed (Node-F.Calloc t e u) = record { inner = false; right = e.inner; call = e.inner }
node_formed (Node-F.Bin o e f) = no_call (e.inner && (if is_set o then f.right else f.inner))
node_formed n = no_call (inside_node all_have (λ l. l) (λ (e : Form). e.inner) n)

abbrev pub expr_formed : {N A : Type 0} → Expr-F N A Bool Form Form → Form
expr_formed e = e.node

abbrev pub limits_form : {N A : Type 0} → Limits N A → Bool
limits_form {N} {A} = fold-Limits N A Bool Form Form limits_formed node_formed expr_formed

abbrev pub expr_form : {N A : Type 0} → Expr N A → Form
expr_form {N} {A} = fold-Expr N A Bool Form Form limits_formed node_formed expr_formed

-- ---- declarations, statements and items

-- What expressions may stand in each place: in bounds, within an expression, as a right side, and as a call statement.
pub record Places (N A : Type 0) : Type 0 where
  pub limits : Limits N A → Bool
  pub inner : Expr N A → Bool
  pub right : Expr N A → Bool
  pub call : Expr N A → Bool

abbrev pub placed_bounds : {N A : Type 0} → Places N A → Option (Limits N A) → Bool
placed_bounds p = inside_if all_have p.limits

abbrev pub placed_value : {N A : Type 0} → Places N A → Option (Expr N A) → Bool
placed_value p = inside_if all_have p.inner

abbrev pub placed_init : {N A : Type 0} → Places N A → Init N A → Bool
placed_init p = inside_init all_have p.inner

abbrev pub placed_start : {N A : Type 0} → Places N A → Init N A → Bool
placed_start p init.Nothing = true
placed_start p (init.One e) = p.right e
placed_start p (init.Many es) = false

-- an object of file scope, a parameter or a member
abbrev pub placed_decl : {N A : Type 0} → Places N A → Decl N A → Bool
placed_decl p d = placed_bounds p d.bounds && placed_init p d.init

-- a local, which may begin as a call
abbrev pub placed_local : {N A : Type 0} → Places N A → Decl N A → Bool
placed_local p d = placed_bounds p d.bounds && placed_start p d.init

-- Of a statement: whether its expressions and the statements in it are as they may be; whether each statement in it stands
-- where it may, no branch and no body being a declaration; whether it is an assignment; whether it is a declaration; and
-- whether a `break` or a `continue` leaves it.
pub record Given : Type 0 where
  pub fine : Bool
  pub nested : Bool
  pub assigns : Bool
  pub declares : Bool
  pub jumps : Bool

-- a branch, a body or a step
abbrev pub is_branch : Given → Bool
is_branch s = s.nested && not s.declares

-- A `for` begins with one declaration or an assignment, or with nothing; no `break` and no `continue` leaves its step.
abbrev pub begins : Option Given → Bool
begins None = true
begins (Some s) = s.fine && (s.declares || s.assigns)

abbrev pub steps : Option Given → Bool
steps None = true
steps (Some s) = s.fine && not s.jumps

-- A call statement is a call, and a bundle has 2 or more assignments.
abbrev pub placed_in : {N A : Type 0} → Places N A → Act-F N A Given Given → Bool
placed_in p (Act-F.Local d) = placed_local p d
placed_in p (Act-F.Assign e f) = p.inner e && p.right f
placed_in p (Act-F.Call e) = p.call e
placed_in p (Act-F.For s e t body) = begins s && (placed_value p e && (steps t && body.fine))
placed_in p (Act-F.Bundle ss) = nat_le 2 (length ss) && list_all (λ (s : Given). s.fine && s.assigns) ss
placed_in p a = inside_act all_have p.inner (placed_local p) (λ (s : Given). s.fine) a

abbrev pub is_assignment : {N A : Type 0} → Act-F N A Given Given → Bool
is_assignment (Act-F.Assign e f) = true
is_assignment _ = false

abbrev pub is_declaration : {N A : Type 0} → Act-F N A Given Given → Bool
is_declaration (Act-F.Local d) = true
is_declaration _ = false

abbrev pub nested_in : {N A : Type 0} → Act-F N A Given Given → Bool
nested_in (Act-F.Block m ss) = inside_each all_have (λ (s : Given). s.nested) ss
nested_in (Act-F.If e s t) = is_branch s && inside_if all_have is_branch t
nested_in (Act-F.While e s) = is_branch s
nested_in (Act-F.For s e t body) = inside_if all_have (λ (s : Given). s.nested) s && (inside_if all_have is_branch t && is_branch body)
nested_in (Act-F.Bundle ss) = inside_each all_have is_branch ss
nested_in _ = true

abbrev pub placed_act : {N A : Type 0} → Places N A → Act-F N A Given Given → Given
placed_act p a = record {
  fine = placed_in p a;
  nested = nested_in a;
  assigns = is_assignment a;
  declares = is_declaration a;
  jumps = jumps_out (λ (s : Given). s.jumps) a;
}

abbrev pub given_in : {N A : Type 0} → Stmt-F N A Given Given → Given
given_in s = s.body

abbrev pub placed_stmt : {N A : Type 0} → Places N A → Stmt N A → Given
placed_stmt {N} {A} p = fold-Stmt N A Given Given (placed_act p) given_in

-- the body of a function
abbrev pub placed_body : {N A : Type 0} → Places N A → Stmt N A → Bool
placed_body p s = (placed_stmt p s).fine && (placed_stmt p s).nested

abbrev pub placed_head : {N A : Type 0} → Places N A → Head N A → Bool
placed_head p h = list_all (placed_decl p) h.params && placed_bounds p h.bounds

abbrev pub placed_item : {N A : Type 0} → Places N A → Item N A → Bool
placed_item p (item.Struct n members at) = nat_le 1 (length members) && list_all (placed_decl p) members
placed_item p i = inside_item all_have (placed_decl p) (placed_head p) (placed_body p) i

abbrev pub placed_tree : {N A : Type 0} → Places N A → Tree N A → Bool
placed_tree p t = list_all (placed_item p) t.items

-- ---- trees

-- what the grammar gives in each place
abbrev pub with_calls : {N A : Type 0} → Places N A
with_calls = record { limits = limits_form; inner = λ e. (expr_form e).inner; right = λ e. (expr_form e).right; call = λ e. (expr_form e).call }

-- whether the grammar gives such a tree
abbrev pub spoken_tree : {N A : Type 0} → Tree N A → Bool
spoken_tree = placed_tree with_calls

-- what stands in each place once calls and assignments have been taken out of expressions
abbrev pub without_calls : {N A : Type 0} → Places N A
without_calls = record { limits = callless_limits; inner = callless_expr; right = is_right; call = is_call }

abbrev pub callless_init : {N A : Type 0} → Init N A → Bool
callless_init = placed_init without_calls

abbrev pub right_init : {N A : Type 0} → Init N A → Bool
right_init = placed_start without_calls

abbrev pub given_decl : {N A : Type 0} → Decl N A → Bool
given_decl = placed_decl without_calls

abbrev pub given_local : {N A : Type 0} → Decl N A → Bool
given_local = placed_local without_calls

abbrev pub given_act : {N A : Type 0} → Act-F N A Given Given → Given
given_act = placed_act without_calls

abbrev pub given_stmt : {N A : Type 0} → Stmt N A → Given
given_stmt = placed_stmt without_calls

abbrev pub given_head : {N A : Type 0} → Head N A → Bool
given_head = placed_head without_calls

abbrev pub given_item : {N A : Type 0} → Item N A → Bool
given_item = placed_item without_calls

-- whether a tree has no calls in other places
abbrev pub given_tree : {N A : Type 0} → Tree N A → Bool
given_tree = placed_tree without_calls
