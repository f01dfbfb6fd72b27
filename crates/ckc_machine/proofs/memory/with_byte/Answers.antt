use Rattle.ckc_machine.proofs.Held.{merged_byte}
use Rattle.ckc_machine.proofs.memory.with_byte.Goals as goal

pub returns : goal.returns
returns c = merged_byte c.args.word c.args.place c.args.value c.ranges.word.fits c.requires
