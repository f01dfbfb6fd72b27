use Rattle.std.proofs.Common.{◌≡◌, ℕ, ◌<◌, ◌||◌, false, length, drop, slice_index_or}
use Rattle.ckc_frame.specs.Places.{is_kept_home}
use Rattle.ckc_emit.proofs.calls.kept_homes.Given as goal

-- the marks so far, and those of the rest, are all
abbrev pub invariant-loop-place : goal.invariant-loop-place
invariant-loop-place l =
    (k : ℕ) → k < 16 → (slice_index_or l.found k false || is_kept_home k (drop (length l.yielded) l.homes) (drop (length l.yielded) l.row)) ≡ is_kept_home k l.homes l.row
