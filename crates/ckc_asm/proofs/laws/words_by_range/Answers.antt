use Rattle.ckc_asm.proofs.Ranges as ranges
use Rattle.ckc_asm.proofs.laws.words_by_range.Goals as goal

pub returns : goal.returns
returns c = ranges.words_by_range
