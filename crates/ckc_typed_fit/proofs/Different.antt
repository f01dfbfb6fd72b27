-- Spellings that are different have different numbers.
use Rattle.std.proofs.Common.{◌≡◌, ◌≢◌, inl, inr, ◌∙◌, ℕ, sym, ap, subst, true, false, List, [], ◌∷◌}
use Rattle.std.specs.Prelude.{All}
use Rattle.std.proofs.lemmas.List.Elements.{All-nil, All-cons}
use Rattle.ckc_resolve.specs.Spellings.{Spelling, is_among, with_spelling, number_of}
use Rattle.ckc_typed_fit.specs.Members.{AreDifferent}
use Rattle.ckc_typed_fit.proofs.Spelt.{spelling_more, among_more, among_with, noted_one, same_number}

module _ (all : List Spelling) where
  abbrev number : Spelling → ℕ
  number s = number_of all s

  abbrev IsKnown : Spelling → Type 0
  IsKnown s = is_among all s ≡ true

  -- the numbers are different, and none is that of a spelling before
  pub record Fresh (before : List Spelling) (ns : List ℕ) : Type 0 where
    pub differ : AreDifferent ns
    pub new : (s : Spelling) → is_among before s ≡ true → All (λ m. m ≢ number s) ns

  pub fresh_none : (before : List Spelling) → Fresh before []
  fresh_none before = record { differ = tt; new = λ s h. All-nil (λ m. m ≢ number s) }

  -- one more, of a spelling that none before has
  pub fresh_more : (before : List Spelling) (x : Spelling) (ns : List ℕ) → is_among before x ≡ false → ((s : Spelling) → is_among before s ≡ true → IsKnown s) → IsKnown x
      → Fresh (with_spelling before x) ns → Fresh before (number x ∷ ns)
  fresh_more before x ns new known there f = record {
    differ = (f.new x (among_with x before), f.differ);
    new = λ s h. All-cons (λ m. m ≢ number s) (number x) ns
        (λ equal. let same = same_number all x s there (known s h) equal in
        let wrong : false ≡ true = sym new ∙ ap (is_among before) same ∙ h in cc)
        (f.new s (among_more s before (with_spelling before x) (spelling_more before x) h));
  }

  -- each spelling before is known, and so is one more
  pub known_more : (before : List Spelling) (x : Spelling) → ((s : Spelling) → is_among before s ≡ true → IsKnown s) → IsKnown x → (s : Spelling) → is_among (with_spelling before x) s ≡ true → IsKnown s
  known_more before x known there s h = elim (noted_one before s x h) [
    | inl e ↦ known s e
    | inr e ↦ subst IsKnown (sym e) there
  ]
