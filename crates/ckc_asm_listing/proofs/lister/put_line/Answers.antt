use Rattle.std.proofs.Common.{◌∙◌}
use Rattle.ckc_asm_listing.proofs.Pieces.{put_one}
use Rattle.ckc_asm_listing.proofs.lister.put_line.Goals as goal

pub returns : goal.returns
returns g c = λ text e. put_one text _ _ _ _ (c.as_bytes.ensures ∙ e) c.put.ensures.faults c.put.ensures.told c.put.ensures.once
