-- An operator with its operands is no local.
use Rattle.std.proofs.Common.{◌≡◌, refl}
use Rattle.std.specs.Prelude.{None}
use Rattle.ckc_plain_barred.specs.declared.integers.Integers.{Integers}
use Rattle.ckc_plain_barred.specs.declared.forms.Work.{Work}
use Rattle.ckc_plain_barred.specs.declared.forms.Work.TheVariants as work
use Rattle.ckc_plain_barred.specs.Forms.{binary_form, unary_form}
use Rattle.ckc_plain_barred.specs.Effects.{integer_local}

pub no_binary : (known : Integers) (w : Work) → integer_local known (binary_form w) ≡ None
no_binary known work.Sets = refl
no_binary known (work.Steps by) = refl
no_binary known work.IfTrue = refl
no_binary known work.IfFalse = refl
no_binary known work.Computes = refl

pub no_unary : (known : Integers) (w : Work) → integer_local known (unary_form w) ≡ None
no_unary known work.Sets = refl
no_unary known (work.Steps by) = refl
no_unary known work.IfTrue = refl
no_unary known work.IfFalse = refl
no_unary known work.Computes = refl
