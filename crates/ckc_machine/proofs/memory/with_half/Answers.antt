use Rattle.ckc_machine.proofs.Held.{merged_half}
use Rattle.ckc_machine.proofs.memory.with_half.Goals as goal

pub returns : goal.returns
returns c = merged_half c.args.word c.args.place c.args.value c.ranges.word.fits c.requires.even c.requires.within
