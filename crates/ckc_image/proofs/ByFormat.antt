-- What the parts that a reader judges are in an image, in either format.
use Rattle.std.proofs.Common.{◌≡◌, ℕ, ◌+◌, ◌-◌, ◌≤◌, List, ◌++◌, length, take, drop, sym, ap, ◌∙◌, subst, inl, inr, arith, rules}
use Rattle.std.proofs.lemmas.List.{take-append-drop, drop-drop, length-drop, length-take-le}
use Rattle.std.proofs.Math.Seq.{take-length}
use Rattle.ckc_image.specs.Image.{Format, places, word_at, HasMagic, HasVersion, HasLength, HasLengths, HasEntry, HasRest, FirstBadOf, LengthsFit, EntryFits}

-- all six parts agree, and where they stand
pub record Agrees (format : Format) (bytes : List ℕ) (entry : ℕ) (code initial : List ℕ) : Type 0 where
  pub magic_is : HasMagic format bytes
  pub version_is : HasVersion format bytes
  pub length_is : HasLength format bytes
  pub lengths_fit : HasLengths format bytes
  pub entry_fits : HasEntry format bytes
  pub rest_is : HasRest format bytes
  pub entry_is : word_at bytes (places format).entry ≡ entry
  pub code_length_is : word_at bytes (places format).code ≡ length code
  pub initial_length_is : word_at bytes (places format).initial ≡ length initial
  pub code_is : take (length code) (drop (places format).size bytes) ≡ code
  pub initial_is : drop (length code) (drop (places format).size bytes) ≡ initial

-- the length of bytes that are a header of h bytes, c and d bytes
pub has_length : (h n c c' d d' : ℕ) → n ≡ h + (c + d) → c' ≡ c → d' ≡ d → (h ≤ n) × (n ≡ h + c' + d')
has_length h n c c' d d' is p q = (omega (arith, is), omega (arith, is, p, q))

-- what fits, said of the same numbers
pub lengths_as : (c c' d d' : ℕ) → c' ≡ c → d' ≡ d → LengthsFit c d → LengthsFit c' d'
lengths_as c c' d d' p q h = subst (λ (x : ℕ). LengthsFit x d') (sym p) (subst (λ (y : ℕ). LengthsFit c y) (sym q) h)

pub entry_as : (e e' c c' : ℕ) → e' ≡ e → c' ≡ c → EntryFits e c → EntryFits e' c'
entry_as e e' c c' p q h = subst (λ (x : ℕ). EntryFits x c') (sym p) (subst (λ (y : ℕ). EntryFits e y) (sym q) h)

module _ (format : Format) (bytes : List ℕ) where
  pub one_bad_of : (k j : ℕ) → FirstBadOf format bytes k → FirstBadOf format bytes j → k ≡ j
  one_bad_of k j p q = search rules

  pub never_bad_of : (entry : ℕ) (code initial : List ℕ) → Agrees format bytes entry code initial → (k : ℕ) → ¬ FirstBadOf format bytes k
  never_bad_of entry code initial a k bad =
      elim bad [
        | inl b ↦ b.1 a.magic_is
        | inr c ↦
            elim c [
              | inl b ↦ b.2 a.version_is
              | inr c ↦
                  elim c [
                    | inl b ↦ b.3 a.length_is
                    | inr c ↦
                        elim c [
                          | inl b ↦ b.4 a.lengths_fit
                          | inr c ↦ elim c [ inl b ↦ b.5 a.entry_fits | inr b ↦ b.6 a.rest_is ]
                        ]
                  ]
            ]
      ]

  pub same_of : (entry entry' : ℕ) (code code' initial initial' : List ℕ) → Agrees format bytes entry code initial → Agrees format bytes entry' code' initial'
      → (entry ≡ entry') × (code ≡ code') × (initial ≡ initial')
  same_of entry entry' code code' initial initial' a b =
      let start = (places format).size in
      let size : length code ≡ length code' = sym a.code_length_is ∙ b.code_length_is in (
        sym a.entry_is ∙ b.entry_is,
        sym a.code_is ∙ (ap (λ n. take n (drop start bytes)) size ∙ b.code_is),
        sym a.initial_is ∙ (ap (λ n. drop n (drop start bytes)) size ∙ b.initial_is),
      )

-- what a reader lends after a header
pub record Lends (start c d : ℕ) (bytes code initial : List ℕ) : Type 0 where
  pub code_length : length code ≡ c
  pub initial_length : length initial ≡ d
  pub rest : drop start bytes ≡ code ++ initial

pub lends : (start c d : ℕ) (bytes code initial : List ℕ) → length bytes ≡ start + c + d → code ≡ take c (drop start bytes) → initial ≡ drop c (drop start bytes)
    → Lends start c d bytes code initial
lends start c d bytes code initial is code_is initial_is = record {
  code_length = rw code_is (length-take-le _ _ (rw length-drop (omega arith)));
  initial_length = rw (initial_is, length-drop, length-drop) (omega arith);
  rest = rw (code_is, initial_is, take-append-drop);
}

-- what a reader lends as the initial bytes is all that follows the code
pub after_code : (bytes : List ℕ) (start code : ℕ) → take (length bytes - (start + code)) (drop (start + code) bytes) ≡ drop code (drop start bytes)
after_code bytes start code = rw (← length-drop (start + code) bytes, take-length) (sym (drop-drop code start bytes))
