use Rattle.std.proofs.Common.{[], ◌∷◌, ◌++◌, ap, ◌∙◌}
use Rattle.std.specs.Fmt.{decimal}
use Rattle.ckc_asm_listing.proofs.Pieces.{put_one}
use Rattle.ckc_cli_sample.proofs.lines.put_number.Goals as goal

pub returns : goal.returns
returns g c =
    let words = c.args.words.now in
    let begun = c.push_text.ensures ∙ ap (λ l. l ++ words) c.new-line.ensures in
    let numbered = c.push_number.ensures.text ∙ ap (λ l. l ++ decimal c.args.n) begun in
    put_one (words ++ decimal c.args.n) _ _ _ _ (c.as_bytes.ensures ∙ c.push.ensures ∙ ap (λ l. l ++ 10 ∷ []) numbered) c.put.ensures.faults c.put.ensures.told c.put.ensures.once
