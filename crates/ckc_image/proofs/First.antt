-- An image of version 1: its equation against the parts that a reader judges one after another.
use Rattle.std.proofs.Common.{◌≡◌, ℕ, ◌+◌, List, ◌++◌, length, take, drop, refl, sym, ap, ◌∙◌, subst, arith, length-append}
use Rattle.std.proofs.Math.Seq.{drop-append_seam, take-append_seam}
use Rattle.ckc_image.specs.declared.format.Format.TheVariants.{First}
use Rattle.ckc_image.specs.Image.{word_bytes, header, image_bytes, ImageOf, four_at, word_at, HasMagic, HasVersion, HasLength, HasLengths, HasEntry}
use Rattle.ckc_image.proofs.Words.{AreBytes, word_back, bytes_back, piece}
use Rattle.ckc_image.proofs.ByFormat.{Agrees, lends, has_length, lengths_as, entry_as}

pub first_agrees : (bytes : List ℕ) (entry : ℕ) (code initial : List ℕ) → ImageOf First bytes entry code initial → Agrees First bytes entry code initial
first_agrees bytes entry code initial (proper, e) =
    let image = image_bytes First entry code initial in
    let entry_is : word_at image 8 ≡ entry = word_back entry (omega arith) in
    let code_is : word_at image 12 ≡ length code = word_back (length code) (omega arith) in
    let initial_is : word_at image 16 ≡ length initial = word_back (length initial) (omega arith) in
    let whole : length image ≡ 20 + (length code + length initial) =
    length-append (header First entry (length code) (length initial)) (code ++ initial) ∙ ap (λ n. 20 + n) (length-append code initial) in
    subst (λ (b : List ℕ). Agrees First b entry code initial) (sym e) (record {
      magic_is = refl;
      version_is = refl;
      length_is = has_length 20 (length image) (length code) (word_at image 12) (length initial) (word_at image 16) whole code_is initial_is;
      lengths_fit = lengths_as (length code) (word_at image 12) (length initial) (word_at image 16) code_is initial_is proper.0;
      entry_fits = entry_as entry (word_at image 8) (length code) (word_at image 12) entry_is code_is proper.1;
      rest_is = tt;
      entry_is = entry_is;
      code_length_is = code_is;
      initial_length_is = initial_is;
      code_is = take-append_seam code initial;
      initial_is = drop-append_seam code initial;
    })

pieces : (bytes : List ℕ) → bytes ≡ four_at bytes 0 ++ (four_at bytes 4 ++ (four_at bytes 8 ++ (four_at bytes 12 ++ (four_at bytes 16 ++ drop 20 bytes))))
pieces bytes = piece bytes 0 4 refl ∙ ap (λ r. four_at bytes 0 ++ r)
    (piece bytes 4 8 refl ∙ ap (λ r. four_at bytes 4 ++ r)
    (piece bytes 8 12 refl ∙ ap (λ r. four_at bytes 8 ++ r)
    (piece bytes 12 16 refl ∙ ap (λ r. four_at bytes 12 ++ r)
    (piece bytes 16 20 refl))))

pub first_from_parts : (bytes : List ℕ) (entry : ℕ) (code initial : List ℕ) → AreBytes bytes
    → HasMagic First bytes → HasVersion First bytes → HasLength First bytes → HasLengths First bytes → HasEntry First bytes
    → word_at bytes 8 ≡ entry → code ≡ take (word_at bytes 12) (drop 20 bytes) → initial ≡ drop (word_at bytes 12) (drop 20 bytes)
    → ImageOf First bytes entry code initial
first_from_parts bytes entry code initial small magic_is version_is length_is lengths_fit entry_fits entry_is code_is initial_is =
    let l = lends 20 (word_at bytes 12) (word_at bytes 16) bytes code initial length_is.1 code_is initial_is in
    let e8 : four_at bytes 8 ≡ word_bytes entry = rw (← entry_is) (sym (bytes_back bytes 8 small (omega arith))) in
    let e12 : four_at bytes 12 ≡ word_bytes (length code) = rw l.code_length (sym (bytes_back bytes 12 small (omega arith))) in
    let e16 : four_at bytes 16 ≡ word_bytes (length initial) = rw l.initial_length (sym (bytes_back bytes 16 small (omega arith))) in (
      (
        lengths_as (word_at bytes 12) (length code) (word_at bytes 16) (length initial) l.code_length l.initial_length lengths_fit,
        entry_as (word_at bytes 8) entry (word_at bytes 12) (length code) (sym entry_is) l.code_length entry_fits,
      ),
      pieces bytes ∙ rw (magic_is, version_is, e8, e12, e16, l.rest) refl,
    )
