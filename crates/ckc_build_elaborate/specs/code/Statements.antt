-- Several statements in turn, and how many string literals they have.
use Rattle.std.specs.Prelude.{ℕ, List, map}
use Rattle.ckc_syntax.specs.Inside.{summed, inside_each}
use Rattle.ckc_types.specs.declared.types.CType.{CType}
use Rattle.ckc_typed.specs.declared.environment.Variable.{Variable}
use Rattle.ckc_typed.specs.declared.typed.Typed.{Typed}
use Rattle.ckc_typed.specs.Trees.{NotedStmt}
use Rattle.ckc_build_elaborate.specs.Steps.{Statements}
use Rattle.ckc_build_elaborate.specs.Statements.{Part, all_code, part_of}

abbrev pub stmts_elaborated : Typed → List Variable → CType → ℕ → List NotedStmt → Statements
stmts_elaborated p locals result k ss = all_code (map part_of ss) p locals result k

abbrev pub all_literals : List Part → ℕ
all_literals = inside_each summed (λ (s : Part). s.literals)
