-- The parts agree one after another exactly when the equation of an ELF image holds.
use Rattle.std.proofs.Common.{◌≡◌, ◌+◌, ◌-◌, take, drop, refl, sym, ap, ◌∙◌, inl, inr, rules, arith}
use Rattle.ckc_image.specs.declared.format.Format.TheVariants.{Elf}
use Rattle.ckc_image.specs.Image.{word_at, HasRest}
use Rattle.ckc_image.proofs.Elf.{elf_from_parts, compared}
use Rattle.ckc_image.proofs.ByFormat.{after_code}
use Rattle.ckc_image.proofs.view.elf_view.Goals as goal

pub returns : goal.returns
returns c =
    let bytes = c.args.bytes.now in
    let code : 116 + c.word-code.result - 116 ≡ word_at bytes 68 = omega (arith, c.word-code.ensures) in
    elf_from_parts bytes c.word-entry.result _ _ (search rules) (search rules) (search rules) (search rules) (sym c.word-entry.ensures)
    (ap (λ n. take n (drop 116 bytes)) code)
    (after_code bytes 116 c.word-code.result ∙ ap (λ n. drop n (drop 116 bytes)) c.word-code.ensures)

pub returns-then-not-has_header : goal.returns-then-not-has_header
returns-then-not-has_header c =
    let bytes = c.args.bytes.now in
    let wrong : ¬ HasRest Elf bytes =
    (λ h. (let same = compared bytes c.word-entry.result c.word-code.result c.word-initial.result c.word-entry.ensures c.word-code.ensures c.word-initial.ensures h in search rules)) in
    inl (search rules, inr (inr (inr (inr (inr (refl, search rules, search rules, search rules, search rules, search rules, wrong))))))
