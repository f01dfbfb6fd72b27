use Rattle.std.proofs.Common.{◌≡◌, drop}
use Rattle.ckc_plain_bodies.specs.Statements.{block_plain}
use Rattle.ckc_plain_bodies.proofs.Turns.{behind}
use Rattle.ckc_plain_bodies.proofs.statements.+plain.Given as goal

-- what is left gives what the whole gives
abbrev pub invariant-plain_block-loop-s : goal.invariant-plain_block-loop-s
invariant-plain_block-loop-s l = block_plain l.known l.ss l.fn.next ≡ behind l.all (block_plain l.known (drop l.s-index l.ss) l.next)
