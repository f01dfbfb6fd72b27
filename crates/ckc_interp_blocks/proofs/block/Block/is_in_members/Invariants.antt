use Rattle.std.proofs.Common.{◌≡◌, drop}
use Rattle.std.specs.List.{list_any}
use Rattle.ckc_source.specs.Runs.{is_in_member}
use Rattle.ckc_interp_blocks.specs.Held.{view}
use Rattle.ckc_interp_blocks.proofs.block.Block.is_in_members.Given as goal

-- what was passed has it not, so that it is as in what is left
abbrev pub invariant-loop-m : goal.invariant-loop-m
invariant-loop-m l =
    let test = is_in_member l.to l.s.number l.s.low l.s.high (view l.self) in
    list_any test (drop l.m-index l.members) ≡ list_any test l.members
