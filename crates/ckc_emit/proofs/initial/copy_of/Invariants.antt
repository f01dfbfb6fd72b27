use Rattle.std.proofs.Common.{◌≡◌, ◌<◌, take}
use Rattle.std.specs.Prelude.{All}
use Rattle.ckc_emit.proofs.initial.copy_of.Given as goal

-- the bytes so far, each below 256
abbrev pub invariant-loop-b : goal.invariant-loop-b
invariant-loop-b l = record {
  same : l.copy.items ≡ take l.b-index l.bytes;
  small : All (λ b. b < 256) l.copy.items;
}
