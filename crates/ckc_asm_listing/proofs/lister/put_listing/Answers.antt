-- The lines of the entry, of the code and of the initial bytes, one after another.
use Rattle.std.proofs.Common.{[], ◌∷◌, ◌++◌}
use Rattle.std.proofs.lemmas.Result.{err_from_is_err_and}
use Rattle.ckc_asm_listing.specs.Listing.{entry_text, word_lines, data_lines}
use Rattle.ckc_asm_listing.proofs.Pieces.{put_more, puts_more, fail_more, fail_first}
use Rattle.ckc_asm_listing.proofs.lister.put_listing.Goals as goal

pub returns-in_err-put_line : goal.returns-in_err-put_line
returns-in_err-put_line g c =
    let p = err_from_is_err_and c.from_residual.result c.from_residual.ensures.1 in
    let start = entry_text c.args.entry in
    rw p.1 (fail_first (start ∷ []) (word_lines c.args.code.now ++ data_lines c.args.initial.now) _ _ (c.in_err-put_line.ensures start c.entry_line.ensures))

pub returns-in_err-put_code : goal.returns-in_err-put_code
returns-in_err-put_code g c =
    let p = err_from_is_err_and c.from_residual-in_err-put_code.result c.from_residual-in_err-put_code.ensures.1 in
    let start = entry_text c.args.entry in
    let words = word_lines c.args.code.now in
    rw p.1 (fail_first (start ∷ words) (data_lines c.args.initial.now) _ _ (fail_more (start ∷ []) words _ _ _ (c.in_ok-put_line.ensures start c.entry_line.ensures) c.in_err-put_code.ensures))

pub returns : goal.returns
returns g c =
    let start = entry_text c.args.entry in
    let words = word_lines c.args.code.now in
    puts_more (start ∷ words) (data_lines c.args.initial.now) _ _ _ _ (put_more (start ∷ []) words _ _ _ (c.in_ok-put_line.ensures start c.entry_line.ensures) c.in_ok-put_code.ensures) c.put_data.ensures
