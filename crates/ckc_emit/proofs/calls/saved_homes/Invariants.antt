use Rattle.std.proofs.Common.{◌≡◌, ℕ, ◌<◌, ◌||◌, false, drop, slice_index_or}
use Rattle.ckc_emit.specs.code.CallLines.{is_argument_home}
use Rattle.ckc_emit.proofs.calls.saved_homes.Given as goal

-- the marks so far, and those of the rest, are all
abbrev pub invariant-loop-r : goal.invariant-loop-r
invariant-loop-r l =
    (k : ℕ) → k < 16 → (slice_index_or l.found k false || is_argument_home k l.homes (drop l.r-index l.args)) ≡ (slice_index_or l.kept k false || is_argument_home k l.homes l.args)
