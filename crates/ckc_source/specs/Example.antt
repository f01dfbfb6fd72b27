-- Two programs with what they show, as examples of the meaning.
use Rattle.std.specs.Prelude.{ℕ, pos, List, [], ◌∷◌, Option, None, false, true}
use Rattle.ckc_types.specs.declared.types.CType.TheVariants as ctype
use Rattle.ckc_base.specs.declared.arithmetic.Width.TheVariants.{Word}
use Rattle.ckc_base.specs.declared.arithmetic.Mode.TheVariants.{Unchecked}
use Rattle.ckc_base.specs.declared.places.Pos.{Pos}
use Rattle.ckc_base.specs.Traces.{Event, Put as Puts, Standing, Showing}
use Rattle.ckc_source.specs.declared.expr.Access.{Access}
use Rattle.ckc_source.specs.declared.expr.Base.TheVariants.{Own}
use Rattle.ckc_source.specs.declared.expr.End as ends
use Rattle.ckc_source.specs.declared.expr.Integer.TheVariants.{Int}
use Rattle.ckc_source.specs.declared.expr.Limits.{Limits}
use Rattle.ckc_source.specs.declared.expr.Operation.TheVariants.{Add, Mul}
use Rattle.ckc_source.specs.declared.expr.Pointee.{Pointee}
use Rattle.ckc_source.specs.declared.expr.Through.{Through}
use Rattle.ckc_source.specs.declared.expr.Through.TheVariants as through
use Rattle.ckc_source.specs.declared.expr.Variable as variables
use Rattle.ckc_source.specs.declared.program.Object.{Object}
use Rattle.ckc_source.specs.declared.stmt.Spot.{Spot}
use Rattle.ckc_source.specs.Code.{Number, Local, Limited, Load, Binary, Code, End, Assign, Bundle, Put, Return, Nothing, Variable, Value, Program}

-- pointers to `int`
abbrev pub to_int : Pointee
to_int = record { element = ctype.Int; size = 4; terminated = false }

abbrev pub line_one : ℕ → Pos
line_one column = record { line = 1; col = column }

abbrev pub at_column : ℕ → Spot
at_column column = record { at = line_one column; mode = Unchecked }

abbrev pub element_at : Through → ℕ → Access
element_at kind column = record { through = kind; at = line_one column; size = 4; index = Int; offset = 0 }

abbrev pub behind_own : Option variables.Variable → ℕ → ends.End
behind_own x add = record { base = Own; variable = x; add = pos add }

abbrev pub program_of_main : List Object → ℕ → Code → Program
program_of_main objects locals body = record {
  objects = objects;
  shapes = [];
  functions = record { end = at_column 5; params = 0; locals = locals; body = body; result = None; interfaces = [] } ∷ [];
  main = 0;
}

-- ---- int main(void){ _Ptr<int> p = NULL; putchar(65); return *p; }

abbrev pub one_int : Limits
one_int = record { to = to_int; lower = behind_own None 0; upper = behind_own None 1 }

abbrev pub null_example : Program
null_example = program_of_main [] 1
    (Assign (at_column 32) (Variable 0 Word) (Value (Number 0))
    (Put (at_column 42) Nothing (Number 65)
    (Return (at_column 50) (Load Word (element_at through.One 57) (Limited 0 one_int) (Number 0)) End)))

abbrev pub null_place : Pos
null_place = line_one 57

abbrev pub null_shows : Standing → Showing Event
null_shows standing = record { trace = Puts 65 ∷ []; standing = standing }

-- ---- int main(void){ int n = 1; int m = 2; _Bundled { n = m; m = n; } return n * 10 + m; }
-- The rules of bounds refuse this bundle, since a right side names an earlier target; it shows what a bundle does.

abbrev pub swap_example : Program
swap_example = program_of_main [] 2
    (Assign (at_column 20) (Variable 0 Word) (Value (Number 1))
    (Assign (at_column 31) (Variable 1 Word) (Value (Number 2))
    (Bundle (at_column 38) ((Variable 0 Word, Value (Local 1)) ∷ (Variable 1 Word, Value (Local 0)) ∷ [])
    (Return (at_column 65) (Binary Add true (line_one 79) (Binary Mul true (line_one 74) (Local 0) (Number 10)) (Local 1)) End))))

abbrev pub swap_shows : Standing → Showing Event
swap_shows standing = record { trace = []; standing = standing }
