-- The parts agree one after another exactly when the equation of version 1 holds.
use Rattle.std.proofs.Common.{◌≡◌, ◌+◌, ◌-◌, take, drop, sym, ap, ◌∙◌, rules, arith}
use Rattle.ckc_image.specs.Image.{word_at}
use Rattle.ckc_image.proofs.First.{first_from_parts}
use Rattle.ckc_image.proofs.ByFormat.{after_code}
use Rattle.ckc_image.proofs.view.first_view.Goals as goal

pub returns : goal.returns
returns c =
    let bytes = c.args.bytes.now in
    let code : 20 + c.word-code.result - 20 ≡ word_at bytes 12 = omega (arith, c.word-code.ensures) in
    first_from_parts bytes c.word-entry.result _ _ (λ k. (c.type_inv.bytes k).fits)
    (search rules) (search rules) (search rules) (search rules) (search rules) (sym c.word-entry.ensures)
    (ap (λ n. take n (drop 20 bytes)) code)
    (after_code bytes 20 c.word-code.result ∙ ap (λ n. drop n (drop 20 bytes)) c.word-code.ensures)
