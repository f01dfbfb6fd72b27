-- The locals of a function, as facts and forms number them.
use Rattle.std.specs.Prelude.{ℕ, ◌+◌, pos, if◌then◌else◌, Option, None, Some, slice_get}
use Rattle.ckc_linear.specs.declared.forms.Form.{Form}
use Rattle.ckc_syntax.specs.declared.tree.Name.{Name}
use Rattle.ckc_syntax.specs.declared.tree.Name.TheVariants as name
use Rattle.ckc_typed.specs.Types.{is_integer}
use Rattle.ckc_bounds_points.specs.declared.frame.Local.{Local}
use Rattle.ckc_bounds_points.specs.declared.frame.Frame.{Frame}

-- the local with the number k
abbrev pub local_at : Frame → ℕ → Option Local
local_at frame k = slice_get frame.locals k

-- the form of the local k, if it is an integer
abbrev pub variable_of : ℕ → Option Local → Option Form
variable_of k (Some l) = if is_integer l.ctype then Some (record { base = None; var = k + 1; add = pos 0 }) else None
variable_of k None = None

-- the form of an integer local that is named: itself
abbrev pub variable : Frame → Name → Option Form
variable frame (name.Local k) = variable_of k (local_at frame k)
variable frame _ = None
