use Rattle.std.proofs.Common.{arith}
use Rattle.ckc_types.proofs.Aligns.{struct_align_at_most, struct_align_positive}
use Rattle.ckc_types.proofs.layout.struct_align.Goals as goal

pub loop-m-init : goal.loop-m-init
loop-m-init c = let least = struct_align_positive c.args.members.now in (omega arith, omega arith)

pub returns-clause-small : goal.returns-clause-small
returns-clause-small c =
    let all = c.loop-m.invariant.0 in
    let most = struct_align_at_most c.args.members.now in
    omega arith
