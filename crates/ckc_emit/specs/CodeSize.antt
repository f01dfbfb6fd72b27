-- How many instructions the code of a program may have.
use Rattle.std.specs.Prelude.{ℕ, ◌+◌}
use Rattle.ckc_frame.specs.declared.code.Placed.{Placed}
use Rattle.ckc_frame.specs.WellFormed.{program_size}

-- the start: the first frame, the call of `main` and the end
abbrev pub start_size : ℕ
start_size = 5

abbrev pub code_size : Placed → ℕ
code_size p = program_size p + start_size
