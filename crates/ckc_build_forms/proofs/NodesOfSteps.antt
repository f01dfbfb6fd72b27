-- What assignments, calls and declarations become has at most six nodes for each node of the text.
use Rattle.std.proofs.Common.{◌≡◌, ℕ, ◌+◌, ◌*◌, ◌≤◌, List, [], ◌∷◌, map, ap, ◌∙◌, arith}
use Rattle.std.specs.Prelude.{Bool, false, Option, Some, None}
use Rattle.ckc_base.specs.Lists.{concatenation}
use Rattle.ckc_base.specs.declared.places.Pos.{Pos}
use Rattle.ckc_types.specs.declared.types.CType.{CType}
use Rattle.ckc_syntax.specs.declared.tree.Name.{Name}
use Rattle.ckc_syntax.specs.declared.tree.Name.TheVariants as name
use Rattle.ckc_syntax.specs.declared.tree.Init.TheVariants as init
use Rattle.ckc_syntax.specs.declared.tree.Node.{Node-F, out-Node, fold_out-Node}
use Rattle.ckc_syntax.specs.declared.tree.Expr.{fold_out-Expr}
use Rattle.ckc_syntax.specs.Inside.{listed, inside_limits}
use Rattle.ckc_syntax_limits.specs.Marks.{node, node_marks, expr_marks, marks_of_expr, marks_of_bounds, marks_of_init, marks_of_decl, marks_of_value}
use Rattle.ckc_typed.specs.declared.environment.Variable.{Variable}
use Rattle.ckc_typed.specs.declared.typed.Note.{Note}
use Rattle.ckc_typed.specs.declared.typed.Typed.{Typed}
use Rattle.ckc_typed.specs.Trees.{NotedExpr, NotedDecl, NotedInit, NotedLayer}
use Rattle.ckc_typed.specs.Types.{type_written}
use Rattle.ckc_source.specs.declared.stmt.Spot.{Spot}
use Rattle.ckc_source.specs.Code.{Code}
use Rattle.ckc_source.specs.declared.expr.Through.{Through}
use Rattle.ckc_source.specs.declared.expr.Through.TheVariants.{Named, Raw, One, Array as Arrays, Terminated}
use Rattle.ckc_checks_operands.specs.Compilable.{guard_nodes, expr_nodes, target_nodes, right_nodes, exprs_nodes, code_nodes}
use Rattle.ckc_build_values.specs.Expressions.{expr_elaborated, place_elaborated, literals_of}
use Rattle.ckc_build_values.specs.Places.{Place}
use Rattle.ckc_build_elaborate.specs.Literals.{literals_of_bounds}
use Rattle.ckc_build_elaborate.specs.Names.{params_of}
use Rattle.ckc_build_elaborate.specs.Steps.{Destination, target_form, target_of, local_target, destination_for, right_form, right_of, argument, arguments, first_of, called, assigned_form, assigned, started, declared, returned, condition}
use Rattle.ckc_build_sizes.proofs.Marked.{marked, marked-append}
use Rattle.ckc_build_forms.proofs.NodesOfParts.{place_nodes, converted_most}
use Rattle.ckc_build_forms.proofs.NodesOfValues.{Marks, held_node, value_small, place_small}

-- ---- an expression is a node in front of those in it

layer_is : (e : NotedExpr) → marks_of_expr e ≡ node ∷ node_marks (held_node (out-Node Name Note e.node))
layer_is e =
    fold_out-Expr Name Note Marks Marks Marks (inside_limits listed (λ e. e)) node_marks expr_marks e
    ∙ ap (λ ms. node ∷ ms) (fold_out-Node Name Note Marks Marks Marks (inside_limits listed (λ e. e)) node_marks expr_marks e.node)

abbrev Holds : NotedExpr → NotedLayer → Type 0
Holds e x = marked (marks_of_expr e) ≡ 1 + marked (node_marks (held_node x))

holds : (e : NotedExpr) → Holds e (out-Node Name Note e.node)
holds e = ap marked (layer_is e)

-- ---- targets

guard_most : (through : Through) → guard_nodes through ≤ 3
guard_most Terminated = omega arith
guard_most Named = omega arith
guard_most Raw = omega arith
guard_most One = omega arith
guard_most Arrays = omega arith

target_most : (t : CType) (q : Place) (x : NotedLayer) → target_nodes (target_form t q x) ≤ 3 + place_nodes q
target_most t q (Node-F.Name (name.Local x)) = omega arith
target_most t q (Node-F.Name n) = omega (arith, guard_most q.access.through)
target_most t q x = omega (arith, guard_most q.access.through)

pub target_small : (p : Typed) (locals : List Variable) (k : ℕ) (e : NotedExpr) → target_nodes (target_of p locals k e) + 1 ≤ 6 * marked (marks_of_expr e)
target_small p locals k e =
    omega (arith, target_most e.note.ctype (place_elaborated p locals k e) (out-Node Name Note e.node), place_small p locals k e)

local_target_none : (t : CType) (n : Name) → target_nodes (local_target t n) ≤ 0
local_target_none t (name.Local x) = omega arith
local_target_none t n = omega arith

-- ---- what is assigned

right_by : (p : Typed) (locals : List Variable) (k : ℕ) (terminated : Bool) (e : NotedExpr) (x : NotedLayer) → Holds e x
    → right_nodes (right_form p locals k terminated e x) + 3 ≤ 6 * marked (marks_of_expr e)
right_by p locals k terminated e (Node-F.Calloc w n x) h = omega (arith, value_small p locals k n false, h)
right_by p locals k terminated e x h = omega (arith, value_small p locals k e false)

pub right_small : (p : Typed) (locals : List Variable) (k : ℕ) (terminated : Bool) (e : NotedExpr) → right_nodes (right_of p locals k terminated e) + 3 ≤ 6 * marked (marks_of_expr e)
right_small p locals k terminated e = right_by p locals k terminated e (out-Node Name Note e.node) (holds e)

-- ---- calls

argument_most : (p : Typed) (locals : List Variable) (k : ℕ) (d : Option NotedDecl) (e : NotedExpr) → 1 + expr_nodes (argument p locals k d e) ≤ 6 * marked (marks_of_expr e)
argument_most p locals k (Some d) e =
    omega (arith, converted_most (type_written d.ctype) (expr_elaborated p locals k e) (6 * marked (marks_of_expr e)) (value_small p locals k e) false)
argument_most p locals k None e = omega (arith, value_small p locals k e false)

arguments_most : (p : Typed) (locals : List Variable) (k : ℕ) (ds : List NotedDecl) (es : List NotedExpr)
    → exprs_nodes (arguments p locals k ds es) ≤ 6 * marked (concatenation (map marks_of_expr es))
arguments_most p locals k ds [] = omega arith
arguments_most p locals k [] (e ∷ es) =
    omega (arith, argument_most p locals k None e, arguments_most p locals (k + literals_of e) [] es, marked-append (marks_of_expr e) (concatenation (map marks_of_expr es)))
arguments_most p locals k (d ∷ ds) (e ∷ es) =
    omega (arith, argument_most p locals k (Some d) e, arguments_most p locals (k + literals_of e) ds es, marked-append (marks_of_expr e) (concatenation (map marks_of_expr es)))

first_most : (p : Typed) (locals : List Variable) (k : ℕ) (es : List NotedExpr) → expr_nodes (first_of p locals k es) ≤ 1 + 6 * marked (concatenation (map marks_of_expr es))
first_most p locals k [] = omega arith
first_most p locals k (e ∷ es) = omega (arith, value_small p locals k e false, marked-append (marks_of_expr e) (concatenation (map marks_of_expr es)))

module _ (p : Typed) (locals : List Variable) (s : Spot) (to : Destination) (k : ℕ) (rest : Code) where
  called_most : (n : Name) (es : List NotedExpr) (at : Pos)
      → code_nodes (called p locals s to k n es at rest) ≤ 2 + target_nodes to.target + 6 * marked (concatenation (map marks_of_expr es)) + code_nodes rest
  called_most (name.Function f) es at = omega (arith, arguments_most p locals k (params_of (name.Function f) p.tree.items) es)
  called_most name.Getchar es at = omega arith
  called_most name.Putchar es at = omega (arith, first_most p locals k es)
  called_most n es at = omega arith

  assigned_by : (e : NotedExpr) (x : NotedLayer) → Holds e x
      → code_nodes (assigned_form p locals s to k e x rest) ≤ 1 + target_nodes to.target + 6 * marked (marks_of_expr e) + code_nodes rest
  assigned_by e (Node-F.Call n es) h = omega (arith, called_most n es e.pos, h)
  assigned_by e x h = omega (arith, right_small p locals k to.terminated e)

  pub assigned_most : (e : NotedExpr) → code_nodes (assigned p locals s to k e rest) ≤ 1 + target_nodes to.target + 6 * marked (marks_of_expr e) + code_nodes rest
  assigned_most e = assigned_by e (out-Node Name Note e.node) (holds e)

  started_most : (i : NotedInit) → code_nodes (started p locals s to k i rest) ≤ 2 + target_nodes to.target + 6 * marked (marks_of_init i) + code_nodes rest
  started_most init.Nothing = omega arith
  started_most (init.One e) = omega (arith, assigned_most e)
  started_most (init.Many es) = omega arith

pub declared_most : (p : Typed) (locals : List Variable) (s : Spot) (k : ℕ) (d : NotedDecl) (rest : Code)
    → code_nodes (declared p locals s k d rest) ≤ 6 * marked (marks_of_decl d) + code_nodes rest
declared_most p locals s k d rest =
    let to = destination_for p (type_written d.ctype) d.name in
    omega (
      arith,
      started_most p locals s to (k + literals_of_bounds d.bounds) rest d.init,
      local_target_none (type_written d.ctype) d.name,
      marked-append (marks_of_bounds d.bounds) (marks_of_init d.init),
    )

-- ---- values in statements

pub returned_most : (p : Typed) (locals : List Variable) (result : CType) (k : ℕ) (e : Option NotedExpr) → expr_nodes (returned p locals result k e) ≤ 1 + 6 * marked (marks_of_value e)
returned_most p locals result k None = omega arith
returned_most p locals result k (Some e) =
    omega (arith, converted_most result (expr_elaborated p locals k e) (6 * marked (marks_of_expr e)) (value_small p locals k e) false)

pub condition_most : (p : Typed) (locals : List Variable) (k : ℕ) (e : Option NotedExpr) → expr_nodes (condition p locals k e) ≤ 1 + 6 * marked (marks_of_value e)
condition_most p locals k None = omega arith
condition_most p locals k (Some e) = omega (arith, value_small p locals k e false)
