use Rattle.std.proofs.Common.{◌∙◌, sym}
use Rattle.ckc_asm.proofs.Cutting.{front_mark, front_row}
use Rattle.ckc_asm.proofs.spots.word_len.Goals as goal

pub returns-then-is_mark-clause-word : goal.returns-then-is_mark-clause-word
returns-then-is_mark-clause-word c = front_mark _ c.requires.some c.requires.no_hash c.requires.no_blank (sym c.is_mark.ensures ∙ c.if-is_mark.true)

pub returns-else-is_mark-clause-word : goal.returns-else-is_mark-clause-word
returns-else-is_mark-clause-word c = (front_row _ _ c.requires.some c.requires.no_hash c.requires.no_blank (sym c.is_mark.ensures ∙ c.if-is_mark.false) c.run_len.ensures.run).1

pub returns-else-is_mark-clause-some : goal.returns-else-is_mark-clause-some
returns-else-is_mark-clause-some c = (front_row _ _ c.requires.some c.requires.no_hash c.requires.no_blank (sym c.is_mark.ensures ∙ c.if-is_mark.false) c.run_len.ensures.run).0
