-- What a typed text means: a program.
use Rattle.ckc_syntax.specs.declared.tree.Name.TheVariants as name
use Rattle.ckc_typed.specs.declared.typed.Typed.{Typed}
use Rattle.ckc_source.specs.Code.{Program}
use Rattle.ckc_build_elaborate.specs.Names.{number_of}
use Rattle.ckc_build_elaborate.specs.Functions.{functions_elaborated}
use Rattle.ckc_build_elaborate.specs.Objects.{objects_elaborated}
use Rattle.ckc_build_elaborate.specs.Shapes.{shapes_elaborated}

-- the program of a typed text
abbrev pub elaborated : Typed → Program
elaborated p = record {
  objects = objects_elaborated p;
  shapes = shapes_elaborated p.layout;
  functions = functions_elaborated p;
  main = number_of (name.Function p.main) p.tree.items;
}
