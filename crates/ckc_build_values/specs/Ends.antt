-- The limits of local pointers as a program has them: forms over the locals (Checked C specification 0.9, section 3.1).
use Rattle.std.specs.Prelude.{ℕ, ◌-◌, ◌==◌, ℤ, if◌then◌else◌, List, Option, None, Some}
use Rattle.ckc_linear.specs.declared.forms.Base as bases
use Rattle.ckc_linear.specs.declared.forms.Base.TheVariants as at
use Rattle.ckc_linear.specs.declared.forms.Form.{Form}
use Rattle.ckc_types.specs.declared.types.CType.{CType}
use Rattle.ckc_types.specs.declared.types.Structs.{Structs}
use Rattle.ckc_syntax.specs.declared.tree.Name.TheVariants as name
use Rattle.ckc_typed.specs.declared.environment.Variable as variables
use Rattle.ckc_typed.specs.declared.typed.Typed.{Typed}
use Rattle.ckc_typed.specs.Environment.{variable_named}
use Rattle.ckc_source.specs.declared.expr.Integer.{Integer}
use Rattle.ckc_source.specs.declared.expr.Integer.TheVariants.{Int}
use Rattle.ckc_source.specs.declared.expr.Variable.{Variable}
use Rattle.ckc_source.specs.declared.expr.Base.{Base}
use Rattle.ckc_source.specs.declared.expr.Base.TheVariants.{Own, Local, Fixed}
use Rattle.ckc_source.specs.declared.expr.End.{End}
use Rattle.ckc_source.specs.declared.expr.Limits.{Limits}
use Rattle.ckc_build_values.specs.Kinds.{integer_of, pointee_of}
use Rattle.ckc_build_values.specs.Names.{address_of}

-- the type of a local integer, and `int` if there is no such local
abbrev pub integer_in_variable : Option variables.Variable → Integer
integer_in_variable (Some v) = integer_of v.ctype
integer_in_variable None = Int

-- a local with the type that it is declared with
abbrev pub local_variable : List variables.Variable → ℕ → Variable
local_variable locals k = record { local = k; form = integer_in_variable (variable_named locals (name.Local k)) }

-- an end of limits, as far after its base as a variable and a number say
abbrev pub end_behind : Base → Option Variable → ℤ → End
end_behind base x c = record { base = base; variable = x; add = c }

-- the limits of a pointer of this type, from one end to the other
abbrev pub limits_between : Structs → CType → End → End → Limits
limits_between structs t lower upper = record { to = pointee_of structs t; lower = lower; upper = upper }

-- what a form of the range of local own lies at: at that local it is the pointer itself
abbrev pub base_at : Typed → ℕ → Option bases.Base → Base
base_at p own (Some (at.Local k)) = if k == own then Own else Local k
base_at p own (Some (at.Array k)) = Fixed (address_of p k)
base_at p own (Some (at.Value k)) = Own
base_at p own None = Own

-- Variable 0 is the number zero, and variable k + 1 is local k.
abbrev pub variable_at : List variables.Variable → ℕ → Option Variable
variable_at locals x = if x == 0 then None else Some (local_variable locals (x - 1))

-- an end of the range of a local pointer, by its form
abbrev pub end_at : Typed → List variables.Variable → ℕ → Form → End
end_at p locals own f = end_behind (base_at p own f.base) (variable_at locals f.var) f.add

-- the range of a local pointer of a type, from a form up to another
abbrev pub limits_at : Typed → List variables.Variable → CType → ℕ → Form → Form → Limits
limits_at p locals t own l u = limits_between p.layout t (end_at p locals own l) (end_at p locals own u)
