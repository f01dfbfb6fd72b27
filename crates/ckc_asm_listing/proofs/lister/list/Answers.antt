-- What the lines of a listing leave, clause by clause.
use Rattle.ckc_asm_listing.proofs.Pieces.{puts_faults, puts_told, puts_pieces}
use Rattle.ckc_asm_listing.proofs.Listed.{listing_reads}
use Rattle.ckc_asm_listing.proofs.lister.list.Goals as goal

pub returns : goal.returns
returns g c =
    let h = c.put_listing.ensures in
    record { faults = puts_faults _ _ _ _ h; told = puts_told _ _ _ _ h; pieces = puts_pieces _ _ _ _ h; reads_back = listing_reads c.args.entry _ _ c.ranges.entry.fits (λ k. (c.type_inv.code k).fits) (λ k. (c.type_inv.initial k).fits) c.requires }
