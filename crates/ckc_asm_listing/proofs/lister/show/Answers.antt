-- The line of the format and the lines of a listing.
use Rattle.std.proofs.Common.{[], ◌∷◌}
use Rattle.std.proofs.lemmas.Result.{err_from_is_err_and}
use Rattle.ckc_asm_listing.specs.Listing.{format_text, listing_lines}
use Rattle.ckc_asm_listing.proofs.Pieces.{puts_more, puts_faults, puts_told, puts_pieces, fail_first}
use Rattle.ckc_asm_listing.proofs.Listed.{shown_reads}
use Rattle.ckc_asm_listing.proofs.lister.show.Goals as goal

pub returns-in_err-put_line : goal.returns-in_err-put_line
returns-in_err-put_line g c =
    let p = err_from_is_err_and c.from_residual.result c.from_residual.ensures.1 in
    let note = format_text c.args.format in
    let h = fail_first (note ∷ []) (listing_lines c.args.entry c.args.code.now c.args.initial.now) _ _ (c.in_err-put_line.ensures note c.format_line.ensures) in
    rw p.1 (record { faults = h.faults; told = h.told; pieces = h.pieces; reads_back = shown_reads c.args.entry _ _ c.ranges.entry.fits (λ k. (c.type_inv.code k).fits) (λ k. (c.type_inv.initial k).fits) c.requires c.args.format })

pub returns : goal.returns
returns g c =
    let note = format_text c.args.format in
    let h = puts_more (note ∷ []) (listing_lines c.args.entry c.args.code.now c.args.initial.now) c.put_listing.result _ _ _ (c.in_ok-put_line.ensures note c.format_line.ensures) c.put_listing.ensures in
    record { faults = puts_faults _ _ _ _ h; told = puts_told _ _ _ _ h; pieces = puts_pieces _ _ _ _ h; reads_back = shown_reads c.args.entry _ _ c.ranges.entry.fits (λ k. (c.type_inv.code k).fits) (λ k. (c.type_inv.initial k).fits) c.requires c.args.format }
