-- The names in a tree whose names are resolved, each put to a test where it stands.
use Rattle.std.specs.Prelude.{Bool, true, ◌&&◌, List, [], ◌∷◌, ◌++◌, map, Option, None, Some}
use Rattle.std.specs.List.{list_all, flat_map}
use Rattle.ckc_syntax.specs.Inside.{listed, all_have, inside_if, inside_limits, inside_node, inside_init, inside_item}
use Rattle.ckc_syntax.specs.declared.tree.Name.{Name}
use Rattle.ckc_syntax.specs.declared.tree.TypeTree.{TypeTree-F, fold-TypeTree}
use Rattle.ckc_syntax.specs.declared.tree.Init.TheVariants as init
use Rattle.ckc_syntax.specs.declared.tree.Item.TheVariants as item
use Rattle.ckc_syntax.specs.declared.tree.Limits.{Limits-F, fold-Limits}
use Rattle.ckc_syntax.specs.declared.tree.Node.{Node-F, fold-Node}
use Rattle.ckc_syntax.specs.declared.tree.Expr.{Expr-F, fold-Expr}
use Rattle.ckc_syntax.specs.declared.tree.Act.{Act-F, fold-Act}
use Rattle.ckc_syntax.specs.declared.tree.Stmt.{Stmt-F, fold-Stmt}
use Rattle.ckc_resolve.specs.Trees.{NamedType, NamedDecl, NamedInit, NamedLimits, NamedNode, NamedExpr, NamedHead, NamedAct, NamedStmt, NamedItem}

-- What is asked of a name in an expression, if the names of file scope and some others are visible; of a member after
-- `.` or `->`; and of the tag in a type.
pub record Tests : Type 0 where
  pub name : List Name → Name → Bool
  pub member : Name → Bool
  pub tag : Name → Bool

abbrev pub type_parts : Tests → TypeTree-F Name Bool → Bool
type_parts tests (TypeTree-F.Struct n pos) = tests.tag n
type_parts tests (TypeTree-F.Raw t pos) = t
type_parts tests (TypeTree-F.One t) = t
type_parts tests (TypeTree-F.Arr t) = t
type_parts tests (TypeTree-F.Nt t) = t
type_parts tests _ = true

abbrev pub type_passes : Tests → NamedType → Bool
type_passes tests = fold-TypeTree Name Bool (type_parts tests)

abbrev pub limits_parts : Limits-F Name (Unit {0}) Bool Bool Bool → Bool
limits_parts = inside_limits all_have (λ e. e)

abbrev pub node_parts : Tests → List Name → Node-F Name (Unit {0}) Bool Bool Bool → Bool
node_parts tests visible (Node-F.Name n) = tests.name visible n
node_parts tests visible (Node-F.Dot e n pos) = e && tests.member n
node_parts tests visible (Node-F.Arrow e n pos) = e && tests.member n
node_parts tests visible (Node-F.Cast t e) = type_passes tests t && e
node_parts tests visible (Node-F.Size t) = type_passes tests t
node_parts tests visible (Node-F.Trusted t e l) = type_passes tests t && (e && inside_if all_have (λ b. b) l)
node_parts tests visible (Node-F.Tested t e l) = type_passes tests t && (e && inside_if all_have (λ b. b) l)
node_parts tests visible (Node-F.Call n es) = list_all (λ e. e) es && tests.name visible n
node_parts tests visible (Node-F.Calloc t e u) = type_passes tests t && (e && type_passes tests u)
node_parts tests visible n = inside_node all_have (λ l. l) (λ e. e) n

abbrev pub expr_parts : Expr-F Name (Unit {0}) Bool Bool Bool → Bool
expr_parts e = e.node

abbrev pub limits_pass : Tests → List Name → NamedLimits → Bool
limits_pass tests visible = fold-Limits Name (Unit {0}) Bool Bool Bool limits_parts (node_parts tests visible) expr_parts

abbrev pub node_passes : Tests → List Name → NamedNode → Bool
node_passes tests visible = fold-Node Name (Unit {0}) Bool Bool Bool limits_parts (node_parts tests visible) expr_parts

abbrev pub expr_passes : Tests → List Name → NamedExpr → Bool
expr_passes tests visible = fold-Expr Name (Unit {0}) Bool Bool Bool limits_parts (node_parts tests visible) expr_parts

abbrev pub bounds_pass : Tests → List Name → Option NamedLimits → Bool
bounds_pass tests visible = inside_if all_have (limits_pass tests visible)

abbrev pub value_passes : Tests → List Name → Option NamedExpr → Bool
value_passes tests visible = inside_if all_have (expr_passes tests visible)

abbrev pub init_passes : Tests → List Name → NamedInit → Bool
init_passes tests visible = inside_init all_have (expr_passes tests visible)

-- A declaration: its bounds see the first names, its initialiser the second.
abbrev pub decl_passes : Tests → List Name → List Name → NamedDecl → Bool
decl_passes tests within outside d = type_passes tests d.ctype && (bounds_pass tests within d.bounds && init_passes tests outside d.init)

-- ---- statements

-- the names that a statement leaves visible after it, and whether its own names pass if some are visible before it
pub record Walked : Type 0 where
  pub leaves : List Name
  pub passes : List Name → Bool

abbrev pub left_by : List Walked → List Name
left_by ss = flat_map (λ (s : Walked). s.leaves) ss

-- each statement sees what the ones before it declare
abbrev pub pass_in_turn : List Walked → List Name → Bool
pass_in_turn [] visible = true
pass_in_turn (s ∷ ss) visible = s.passes visible && pass_in_turn ss (visible ++ s.leaves)

abbrev pub left_by_part : Option Walked → List Name
left_by_part = inside_if listed (λ (s : Walked). s.leaves)

abbrev pub part_passes : Option Walked → List Name → Bool
part_passes None visible = true
part_passes (Some s) visible = s.passes visible

-- A local is visible in its own bounds and after its declaration, to the end of its block; not in its own initialiser.
-- A `for` is a block of its own, whose step stands after its body.
abbrev pub act_walked : Tests → Act-F Name (Unit {0}) Walked Walked → Walked
act_walked tests (Act-F.Block mode ss) = record { leaves = []; passes = pass_in_turn ss }
act_walked tests Act-F.Empty = record { leaves = []; passes = λ visible. true }
act_walked tests (Act-F.Local d) = record { leaves = d.name ∷ []; passes = λ visible. decl_passes tests (visible ++ d.name ∷ []) visible d }
act_walked tests (Act-F.Assign e f) = record { leaves = []; passes = λ visible. expr_passes tests visible e && expr_passes tests visible f }
act_walked tests (Act-F.Call e) = record { leaves = []; passes = λ visible. expr_passes tests visible e }
act_walked tests (Act-F.If e s t) = record {
  leaves = s.leaves ++ left_by_part t;
  passes = λ visible. expr_passes tests visible e && (s.passes visible && part_passes t (visible ++ s.leaves));
}
act_walked tests (Act-F.While e s) = record { leaves = s.leaves; passes = λ visible. expr_passes tests visible e && s.passes visible }
act_walked tests (Act-F.For first e step body) = record {
  leaves = [];
  passes = λ visible. part_passes first visible && (value_passes tests (visible ++ left_by_part first) e
      && (body.passes (visible ++ left_by_part first) && part_passes step ((visible ++ left_by_part first) ++ body.leaves)));
}
act_walked tests (Act-F.Return e) = record { leaves = []; passes = λ visible. value_passes tests visible e }
act_walked tests Act-F.Break = record { leaves = []; passes = λ visible. true }
act_walked tests Act-F.Continue = record { leaves = []; passes = λ visible. true }
act_walked tests (Act-F.Check e) = record { leaves = []; passes = λ visible. expr_passes tests visible e }
act_walked tests (Act-F.Bundle ss) = record { leaves = left_by ss; passes = pass_in_turn ss }

abbrev pub stmt_walked : Stmt-F Name (Unit {0}) Walked Walked → Walked
stmt_walked s = s.body

abbrev pub walked_act : Tests → NamedAct → Walked
walked_act tests = fold-Act Name (Unit {0}) Walked Walked (act_walked tests) stmt_walked

abbrev pub walked : Tests → NamedStmt → Walked
walked tests = fold-Stmt Name (Unit {0}) Walked Walked (act_walked tests) stmt_walked

-- ---- items

abbrev pub names_declared : List NamedDecl → List Name
names_declared ds = map (λ (d : NamedDecl). d.name) ds

-- members, or parameters: each sees all of them
abbrev pub decls_pass : Tests → List NamedDecl → Bool
decls_pass tests ds = list_all (decl_passes tests (names_declared ds) (names_declared ds)) ds

-- The result and its bounds see all parameters.
abbrev pub head_passes : Tests → NamedHead → Bool
head_passes tests h = type_passes tests h.result && (decls_pass tests h.params && bounds_pass tests (names_declared h.params) h.bounds)

-- The body of a function sees its parameters.
abbrev pub item_passes : Tests → NamedItem → Bool
item_passes tests (item.Struct n members pos) = decls_pass tests members
item_passes tests (item.Function h body) = head_passes tests h && (walked tests body).passes (names_declared h.params)
item_passes tests i = inside_item all_have (decl_passes tests [] []) (head_passes tests) (λ s. true) i

-- whether each name in a tree passes
abbrev pub items_pass : Tests → List NamedItem → Bool
items_pass tests items = list_all (item_passes tests) items
