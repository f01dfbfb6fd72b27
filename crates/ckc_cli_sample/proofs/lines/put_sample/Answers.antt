use Rattle.ckc_asm_listing.proofs.Pieces.{puts_faults, puts_told, puts_pieces}
use Rattle.ckc_cli_sample.proofs.lines.put_sample.Goals as goal

pub returns : goal.returns
returns g c =
    let h = c.put_lines.ensures in
    record { faults = puts_faults _ _ _ _ h; told = puts_told _ _ _ _ h; pieces = puts_pieces _ _ _ _ h }
