-- What nodes become, by their parts.
use Rattle.std.proofs.Common.{◌≡◌, ℕ, Bool, List, Ok, rules}
use Rattle.ckc_base.specs.declared.places.Pos.{Pos}
use Rattle.ckc_base.specs.declared.arithmetic.Mode.{Mode}
use Rattle.ckc_syntax.specs.declared.tree.Node.{the_lemmas}
use Rattle.ckc_syntax.specs.declared.tree.Node.TheVariants as node
use Rattle.ckc_typed.specs.declared.environment.Globals.{Globals}
use Rattle.ckc_typed.specs.declared.environment.Variable.{Variable}
use Rattle.ckc_base.specs.Outcomes.{Outcome, bind}
use Rattle.ckc_typed.specs.Trees.{TypeTree, Expr, NotedExpr}
use Rattle.ckc_typed.specs.Types.{type_written}
use Rattle.ckc_typed.specs.Expressions.{noted, number_type, node_typed, expr_typed, allocation_typed}

module _ (globals : Globals) (variables : List Variable) (mode : Mode) (pos : Pos) where
  pub number_is : (n : ℕ) (unsigned : Bool) → node_typed globals variables mode (node.Number n unsigned) pos ≡ Ok (noted mode pos (node.Number n unsigned) (number_type unsigned))
  number_is n unsigned = search (rules, the_lemmas)

  abbrev pub allocated : TypeTree → TypeTree → NotedExpr → Outcome NotedExpr
  allocated w x a = bind (allocation_typed (type_written w) a (type_written x) pos) (λ t. Ok (noted mode pos (node.Calloc w a x) t))

  pub calloc_is : (w : TypeTree) (e : Expr) (x : TypeTree) → node_typed globals variables mode (node.Calloc w e x) pos ≡ bind (expr_typed globals variables mode e) (allocated w x)
  calloc_is w e x = search (rules, the_lemmas)
