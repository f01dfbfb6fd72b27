use Rattle.std.proofs.Common.{◌≡◌, ◌+◌, vec_len}
use Rattle.ckc_outside.proofs.real.store.read_file.Given as goal

-- the bytes so far and those that may still come are as many as the limit
abbrev pub invariant-loop : goal.invariant-loop
invariant-loop g l = vec_len l.bytes + l.more ≡ l.limit
