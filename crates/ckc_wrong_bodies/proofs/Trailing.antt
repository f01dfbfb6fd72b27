-- Bytes after an image, and machines after the time that they have.
use Rattle.std.proofs.Common.{◌≡◌, ◌≢◌, inl, inr, ℕ, ◌+◌, ◌*◌, ◌≤◌, ◌<◌, ◌^◌, List, [], ◌∷◌, ◌++◌, length, refl, sym, ap, subst, ◌∙◌, arith, append_assoc, length-append}
use Rattle.std.specs.Int.{w32, from_le_bytes}
use Rattle.ckc_base.specs.Follows.{IsOver}
use Rattle.ckc_base.specs.Lists.{AreBytes}
use Rattle.ckc_base.specs.Traces.{Event, Standing, Going, Stuck, Showing}
use Rattle.ckc_base.proofs.Runs.{shown-later}
use Rattle.ckc_cli.specs.ckc_build.specs.Built.{Built, most_for_a_step}
use Rattle.ckc_image.specs.declared.format.Format.TheVariants.{First, Elf}
use Rattle.ckc_image.specs.declared.format.Format.{Format}
use Rattle.ckc_image.specs.Image.{header, word_bytes, word_at, FirstBad, ImageOf}
use Rattle.ckc_image.proofs.Agreement.{one_magic}
use Rattle.ckc_rv.specs.Machine.{Parts, machine, machine_system, first_state}
use Rattle.ckc_source.specs.Source.{source}

-- ---- bytes after an image

word_back : (n : ℕ) → n < 2 ^ 32 → from_le_bytes w32 (word_bytes n) ≡ n
word_back n h = omega arith

some_length : (more : List ℕ) → more ≢ [] → 1 ≤ length more
some_length [] h = absurd (h refl)
some_length (b ∷ more) h = omega arith

-- a length that the header does not say
too_long : (h n c d m c' d' : ℕ) → n ≡ h + (c + (d + m)) → c' ≡ c → d' ≡ d → 1 ≤ m → (h ≤ n) × (n ≡ h + c' + d') → ⊥
too_long h n c d m c' d' e p q some has = let is = has.1 in omega (arith, e, p, q, some, is)

module _ (code initial more : List ℕ) (entry : ℕ) (some : more ≢ []) (small : length code < 2 ^ 32) (few : length initial < 2 ^ 32) where
  -- the bytes of an image and those after it, without the header
  abbrev behind : List ℕ
  behind = code ++ (initial ++ more)

  behind_length : length behind ≡ length code + (length initial + length more)
  behind_length = length-append code (initial ++ more) ∙ ap (λ n. length code + n) (length-append initial more)

  first_bad : FirstBad (header First entry (length code) (length initial) ++ behind) 3
  first_bad =
      let bytes = header First entry (length code) (length initial) ++ behind in
      let code_is : word_at bytes 12 ≡ length code = word_back (length code) small in
      let initial_is : word_at bytes 16 ≡ length initial = word_back (length initial) few in
      let whole : length bytes ≡ 20 + (length code + (length initial + length more)) =
      length-append (header First entry (length code) (length initial)) behind ∙ ap (λ n. 20 + n) behind_length in
      inr (
        one_magic bytes refl,
        inr (inr (inl (
          refl,
          refl,
          refl,
          too_long 20 (length bytes) (length code) (length initial) (length more) (word_at bytes 12) (word_at bytes 16) whole code_is initial_is (some_length more some),
        ))),
      )

  elf_bad : FirstBad (header Elf entry (length code) (length initial) ++ behind) 3
  elf_bad =
      let bytes = header Elf entry (length code) (length initial) ++ behind in
      let code_is : word_at bytes 68 ≡ length code = word_back (length code) small in
      let initial_is : word_at bytes 100 ≡ length initial = word_back (length initial) few in
      let whole : length bytes ≡ 116 + (length code + (length initial + length more)) =
      length-append (header Elf entry (length code) (length initial)) behind ∙ ap (λ n. 116 + n) behind_length in
      inl (
        refl,
        inr (inr (inl (
          refl,
          refl,
          refl,
          too_long 116 (length bytes) (length code) (length initial) (length more) (word_at bytes 68) (word_at bytes 100) whole code_is initial_is (some_length more some),
        ))),
      )

  -- what comes after the header of an image comes after it, with more behind
  longer : (h bytes : List ℕ) → bytes ≡ h ++ code ++ initial → bytes ++ more ≡ h ++ behind
  longer h bytes e =
      ap (λ (l : List ℕ). l ++ more) e ∙ append_assoc (h ++ code) initial more ∙ append_assoc h code (initial ++ more)

pub trailing_bad : (format : Format) (bytes code initial more : List ℕ) (entry : ℕ) → ImageOf format bytes entry code initial → more ≢ [] → FirstBad (bytes ++ more) 3
trailing_bad First bytes code initial more entry (proper, e) some =
    let small : length code < 2 ^ 32 = omega arith in
    let few : length initial < 2 ^ 32 = omega arith in
    subst (λ (b : List ℕ). FirstBad b 3) (sym (longer code initial more entry some small few (header First entry (length code) (length initial)) bytes e)) (first_bad code initial more entry some small few)
trailing_bad Elf bytes code initial more entry (proper, e) some =
    let small : length code < 2 ^ 32 = omega arith in
    let few : length initial < 2 ^ 32 = omega arith in
    subst (λ (b : List ℕ). FirstBad b 3) (sym (longer code initial more entry some small few (header Elf entry (length code) (length initial)) bytes e)) (elf_bad code initial more entry some small few)

-- ---- machines after the time that they have

over_goes_not : (s : Standing) → IsOver s → s ≢ Going
over_goes_not s o e = subst IsOver e o

over_is_not_stuck : (s : Standing) → IsOver s → s ≢ Stuck
over_is_not_stuck s o e = subst IsOver e o

pub in_time : (text : List ℕ) (parts : Parts) (built : Built text parts) (input : List ℕ) (n k : ℕ) → AreBytes input → IsOver (source built.program input n).standing
    → most_for_a_step * (n + 1) ≤ k → machine parts input k ≡ source built.program input n
in_time text parts built input n k bytes over late =
    let shown = source built.program input n in
    let there = (built.follows input bytes).forward n (over_is_not_stuck shown.standing over) in
    let halted : (machine parts input there.0).standing ≢ Going =
    subst (λ (a : Showing Event). a.standing ≢ Going) (sym there.2) (over_goes_not shown.standing over) in
    let early : there.0 ≤ k = omega (arith, there.1, late) in
    (shown-later (machine_system parts) there.0 k 0 [] (first_state parts input) early).stays halted ∙ there.2
