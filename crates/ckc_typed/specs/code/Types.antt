-- Questions on kinds of pointers.
use Rattle.std.specs.Prelude.{Bool, Option, None, Some}
use Rattle.ckc_types.specs.declared.types.Kind.{Kind}
use Rattle.ckc_types.specs.declared.types.Kind.TheVariants as kind
use Rattle.ckc_typed.specs.Types.{pointer_parts}

-- what is known of a type in a pointer, if there is one
abbrev pub within : Option Kind → Option Bool → Option Bool
within None integer = integer
within (Some k) integer = pointer_parts k integer
