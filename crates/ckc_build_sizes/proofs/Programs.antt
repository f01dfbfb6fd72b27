-- The program of a text weighs at most 240 for each node of the text.
use Rattle.std.proofs.Common.{ℕ, ◌+◌, ◌*◌, ◌≤◌, List, [], ◌∷◌, length, length-append, arith}
use Rattle.std.specs.Prelude.{sum_by}
use Rattle.std.specs.List.{flat_map}
use Rattle.std.proofs.lemmas.List.{length-map}
use Rattle.std.proofs.lemmas.List.Sums.{sum_by-cons, sum_by-append}
use Rattle.ckc_syntax.specs.declared.tree.Item.TheVariants as item
use Rattle.ckc_syntax_limits.specs.Marks.{marks_of_bounds, marks_of_stmt, marks_of_param, marks_of_head, marks_of_item, marks_of}
use Rattle.ckc_typed.specs.declared.typed.Typed.{Typed}
use Rattle.ckc_typed.specs.Trees.{NotedDecl, NotedHead, NotedStmt, NotedItem}
use Rattle.ckc_typed.specs.Types.{type_written}
use Rattle.ckc_typed.specs.Environment.{variable_declared, locals_of, params_of, variables_of}
use Rattle.ckc_typed.specs.Interfaces.{seen, seen_params}
use Rattle.ckc_checks_operands.specs.Weights.{function_weight, program_weight}
use Rattle.ckc_build_elaborate.specs.Lists.{numbered}
use Rattle.ckc_build_elaborate.specs.Objects.{count_declared}
use Rattle.ckc_build_elaborate.specs.Functions.{literals_of_head, literals_of_item, function_elaborated, functions_in}
use Rattle.ckc_build_elaborate.specs.Elaborated.{elaborated}
use Rattle.ckc_build_sizes.specs.Nodes.{text_nodes}
use Rattle.ckc_build_sizes.proofs.Marked.{marked, is_marked, marked-append}
use Rattle.ckc_build_sizes.proofs.Statements.{stmt_small}

params_count : (ds : List NotedDecl) → length ds ≤ marked (flat_map marks_of_param ds)
params_count [] = omega arith
params_count (d ∷ ds) = omega (arith, params_count ds, marked-append (marks_of_param d) (flat_map marks_of_param ds))

function_most : (p : Typed) (k : ℕ) (h : NotedHead) (body : NotedStmt) → function_weight (function_elaborated p k h body) ≤ 240 * marked (marks_of_item (item.Function h body))
function_most p k h body =
    omega (
      arith,
      stmt_small p (variables_of body.note.mode h body) (type_written h.result) (k + literals_of_head h) body,
      length-append (params_of body.note.mode h) (locals_of body),
      length-map (seen_params body.note.mode h) variable_declared,
      length-map h.params (seen body.note.mode),
      params_count h.params,
      marked-append (marks_of_head h) (marks_of_stmt body),
      marked-append (flat_map marks_of_param h.params) (marks_of_bounds h.bounds),
    )

item_most : (p : Typed) (k : ℕ) (i : NotedItem) → sum_by function_weight (functions_in p k i) ≤ 240 * marked (marks_of_item i)
item_most p k (item.Function h body) = omega (arith, sum_by-cons function_weight (function_elaborated p k h body) [], function_most p k h body)
item_most p k i = omega arith

items_most : (p : Typed) (k : ℕ) (items : List NotedItem) → sum_by function_weight (numbered (functions_in p) literals_of_item k items) ≤ 240 * marked (flat_map marks_of_item items)
items_most p k [] = omega arith
items_most p k (i ∷ rest) =
    omega (
      arith,
      item_most p k i,
      items_most p (k + literals_of_item i) rest,
      sum_by-append function_weight (functions_in p k i) (numbered (functions_in p) literals_of_item (k + literals_of_item i) rest),
      marked-append (marks_of_item i) (flat_map marks_of_item rest),
    )

pub weight_small : (p : Typed) → program_weight (elaborated p) ≤ 240 * text_nodes p
weight_small p = omega (arith, items_most p (count_declared p.tree.items) p.tree.items, is_marked (marks_of p.tree))
