use Rattle.std.proofs.Common.{ap, arith}
use Rattle.std.specs.Prelude.{sum_by}
use Rattle.ckc_frame.specs.Meaning.{is_call}
use Rattle.ckc_emit.proofs.Plain.{test_plain, no_calls}
use Rattle.ckc_emit.proofs.blocks.put_copied.Goals as goal

pub put_ops-requires-clause-counted : goal.put_ops-requires-clause-counted
put_ops-requires-clause-counted c =
    omega (arith, ap (sum_by is_call) c.as_slice.ensures, no_calls c.args.block.now.ops (test_plain c.args.block.now.ops c.args.block.now.end c.requires.test))
