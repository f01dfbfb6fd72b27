-- The locals that parts of a statement declare.
use Rattle.std.specs.Prelude.{List, Option}
use Rattle.ckc_syntax.specs.Inside.{listed, inside_if, inside_each}
use Rattle.ckc_syntax.specs.Trees.{NamedDecl, NamedStmt}
use Rattle.ckc_plain_barred.specs.Integers.{locals_of_stmt}

-- the locals that a statement declares which may be left out
abbrev pub locals_of_part : Option NamedStmt → List NamedDecl
locals_of_part = inside_if listed locals_of_stmt

-- the locals that statements declare
abbrev pub locals_of_each : List NamedStmt → List NamedDecl
locals_of_each = inside_each listed locals_of_stmt
