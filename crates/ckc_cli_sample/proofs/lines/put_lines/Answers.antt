-- Three lines, one after another.
use Rattle.std.proofs.Common.{List, ℕ, [], ◌∷◌, ◌++◌, codes}
use Rattle.std.specs.Fmt.{decimal}
use Rattle.std.proofs.lemmas.Result.{err_from_is_err_and}
use Rattle.ckc_asm_listing.proofs.Pieces.{put_more, puts_more, fail_more, fail_first}
use Rattle.ckc_cli_sample.proofs.lines.put_lines.Goals as goal

pub returns-in_err-put_number : goal.returns-in_err-put_number
returns-in_err-put_number g c =
    let p = err_from_is_err_and c.from_residual.result c.from_residual.ensures.1 in
    let size : List ℕ = codes "functions " ++ decimal c.args.size in
    let count : List ℕ = codes "output " ++ decimal c.args.count in
    let value : List ℕ = codes "ended " ++ decimal c.args.value in
    rw p.1 (fail_first (size ∷ []) (count ∷ value ∷ []) _ _ c.in_err-put_number.ensures)

pub returns-in_err-put_number-2 : goal.returns-in_err-put_number-2
returns-in_err-put_number-2 g c =
    let p = err_from_is_err_and c.from_residual-in_err-put_number-2.result c.from_residual-in_err-put_number-2.ensures.1 in
    let size : List ℕ = codes "functions " ++ decimal c.args.size in
    let count : List ℕ = codes "output " ++ decimal c.args.count in
    let value : List ℕ = codes "ended " ++ decimal c.args.value in
    rw p.1 (fail_first (size ∷ count ∷ []) (value ∷ []) _ _ (fail_more (size ∷ []) (count ∷ []) _ _ _ c.in_ok-put_number.ensures c.in_err-put_number-2.ensures))

pub returns : goal.returns
returns g c =
    let size : List ℕ = codes "functions " ++ decimal c.args.size in
    let count : List ℕ = codes "output " ++ decimal c.args.count in
    let value : List ℕ = codes "ended " ++ decimal c.args.value in
    puts_more (size ∷ count ∷ []) (value ∷ []) _ _ _ _ (put_more (size ∷ []) (count ∷ []) _ _ _ c.in_ok-put_number.ensures c.in_ok-put_number-2.ensures) c.put_number-3.ensures
