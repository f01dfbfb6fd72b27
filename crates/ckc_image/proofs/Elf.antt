-- An ELF image: its equation against the parts that a reader judges one after another.
use Rattle.std.proofs.Common.{◌≡◌, ℕ, ◌+◌, List, ◌++◌, length, take, drop, refl, sym, ap, ◌∙◌, subst, arith, length-append}
use Rattle.std.proofs.lemmas.List.{take-append-drop}
use Rattle.std.proofs.Math.Seq.{drop-append_seam, take-append_seam}
use Rattle.ckc_image.specs.declared.format.Format.TheVariants.{Elf}
use Rattle.ckc_image.specs.Elf.{elf_header}
use Rattle.ckc_image.specs.Image.{image_bytes, ImageOf, word_at, HasLength, HasLengths, HasEntry, HasRest}
use Rattle.ckc_image.proofs.Words.{word_back}
use Rattle.ckc_image.proofs.ByFormat.{Agrees, lends, has_length, lengths_as, entry_as}

-- the header of the numbers that it says, with the numbers of the parts
said : (e e' c c' d d' : ℕ) → e ≡ e' → c' ≡ c → d' ≡ d → elf_header e c d ≡ elf_header e' c' d'
said e e' c c' d d' p q r = λ k. elf_header (p k) ((sym q) k) ((sym r) k)

-- what is compared with the headers, if each other byte of the headers is right
pub compared : (bytes : List ℕ) (e c d : ℕ) → e ≡ word_at bytes 24 → c ≡ word_at bytes 68 → d ≡ word_at bytes 100 → HasRest Elf bytes → take 116 bytes ≡ elf_header e c d
compared bytes e c d p q r h = h ∙ said (word_at bytes 24) e (word_at bytes 68) c (word_at bytes 100) d (sym p) q r

pub elf_agrees : (bytes : List ℕ) (entry : ℕ) (code initial : List ℕ) → ImageOf Elf bytes entry code initial → Agrees Elf bytes entry code initial
elf_agrees bytes entry code initial (proper, e) =
    let image = image_bytes Elf entry code initial in
    let entry_is : word_at image 24 ≡ entry = word_back entry (omega arith) in
    let code_is : word_at image 68 ≡ length code = word_back (length code) (omega arith) in
    let initial_is : word_at image 100 ≡ length initial = word_back (length initial) (omega arith) in
    let whole : length image ≡ 116 + (length code + length initial) =
    length-append (elf_header entry (length code) (length initial)) (code ++ initial) ∙ ap (λ n. 116 + n) (length-append code initial) in
    subst (λ (b : List ℕ). Agrees Elf b entry code initial) (sym e) (record {
      magic_is = refl;
      version_is = refl;
      length_is = has_length 116 (length image) (length code) (word_at image 68) (length initial) (word_at image 100) whole code_is initial_is;
      lengths_fit = lengths_as (length code) (word_at image 68) (length initial) (word_at image 100) code_is initial_is proper.0;
      entry_fits = entry_as entry (word_at image 24) (length code) (word_at image 68) entry_is code_is proper.1;
      rest_is = said entry (word_at image 24) (length code) (word_at image 68) (length initial) (word_at image 100) (sym entry_is) code_is initial_is;
      entry_is = entry_is;
      code_length_is = code_is;
      initial_length_is = initial_is;
      code_is = take-append_seam code initial;
      initial_is = drop-append_seam code initial;
    })

pub elf_from_parts : (bytes : List ℕ) (entry : ℕ) (code initial : List ℕ)
    → HasLength Elf bytes → HasLengths Elf bytes → HasEntry Elf bytes → HasRest Elf bytes
    → word_at bytes 24 ≡ entry → code ≡ take (word_at bytes 68) (drop 116 bytes) → initial ≡ drop (word_at bytes 68) (drop 116 bytes)
    → ImageOf Elf bytes entry code initial
elf_from_parts bytes entry code initial length_is lengths_fit entry_fits rest_is entry_is code_is initial_is =
    let l = lends 116 (word_at bytes 68) (word_at bytes 100) bytes code initial length_is.1 code_is initial_is in
    let front : take 116 bytes ≡ elf_header entry (length code) (length initial) =
    rest_is ∙ said (word_at bytes 24) entry (word_at bytes 68) (length code) (word_at bytes 100) (length initial) entry_is l.code_length l.initial_length in (
      (
        lengths_as (word_at bytes 68) (length code) (word_at bytes 100) (length initial) l.code_length l.initial_length lengths_fit,
        entry_as (word_at bytes 24) entry (word_at bytes 68) (length code) (sym entry_is) l.code_length entry_fits,
      ),
      sym (take-append-drop 116 bytes) ∙ (ap (λ h. h ++ drop 116 bytes) front ∙ ap (λ r. elf_header entry (length code) (length initial) ++ r) l.rest),
    )
