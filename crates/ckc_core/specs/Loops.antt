-- Loops that do nothing.
use Rattle.std.specs.Prelude.{ℕ, ◌+◌, Bool, true, false, if◌then◌else◌, sum_by}
use Rattle.ckc_core.specs.Code.{Code, End, Set, Store, Check, Call, Get, Put, Alloc, If, Loop, Break, Continue, Return, Function, Program}

-- whether the code does something before it ends, or leaves or repeats the loop around it
abbrev pub does_something : Code → Bool
does_something End = false
does_something (Break rest) = false
does_something (Continue rest) = false
does_something code = true

-- How many loops have a body that does nothing. What stands after a Break, a Continue or a Return never runs.
abbrev pub idle_in : Code → ℕ
idle_in End = 0
idle_in (Set x e rest) = idle_in rest
idle_in (Store width a e rest) = idle_in rest
idle_in (Check check at e rest) = idle_in rest
idle_in (Call target callee es at rest) = idle_in rest
idle_in (Get x rest) = idle_in rest
idle_in (Put e rest) = idle_in rest
idle_in (Alloc x e size rest) = idle_in rest
idle_in (If e one two rest) = idle_in one + idle_in two + idle_in rest
idle_in (Loop body step rest) = (if does_something body then 0 else 1) + idle_in body + idle_in step + idle_in rest
idle_in (Break rest) = 0
idle_in (Continue rest) = 0
idle_in (Return e rest) = 0

abbrev pub idle_loops : Program → ℕ
idle_loops p = sum_by (λ (f : Function). idle_in f.body) p.functions
