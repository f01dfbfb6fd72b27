-- The parts of a block are taken one after another.
use Rattle.std.proofs.Common.{◌≡◌, ℕ, List, rules}
use Rattle.std.specs.Prelude.{Option}
use Rattle.ckc_base.specs.declared.arithmetic.Mode.{Mode}
use Rattle.ckc_base.specs.declared.places.Pos.{Pos}
use Rattle.ckc_types.specs.declared.types.CType.{CType}
use Rattle.ckc_syntax.specs.declared.tree.Act.{the_lemmas}
use Rattle.ckc_syntax.specs.declared.tree.Act.TheVariants as act
use Rattle.ckc_typed.specs.declared.environment.Variable.{Variable}
use Rattle.ckc_typed.specs.declared.typed.Typed.{Typed}
use Rattle.ckc_typed.specs.Trees.{NotedStmt}
use Rattle.ckc_build_elaborate.specs.Statements.{part_of_act}
use Rattle.ckc_build_elaborate.specs.code.Statements.{stmts_elaborated}

module _ (p : Typed) (locals : List Variable) (gives : CType) (m : Option Mode) (ss : List NotedStmt) (at : Pos) (mode : Mode) (k : ℕ) where
  pub block_is : (part_of_act (act.Block m ss)).code at mode p locals gives k ≡ stmts_elaborated p locals gives k ss
  block_is = search (rules, the_lemmas)
