-- Spellings in a list, and their numbers.
use Rattle.std.proofs.Common.{◌≡◌, inl, inr, ◌∙◌, ◌+◌, ◌<◌, sym, ap, refl, cond, Bool, true, false, not, ◌||◌, List, [], ◌∷◌, ◌++◌, length, append_assoc, append-nil, arith}
use Rattle.std.specs.Prelude.{◌⊎◌}
use Rattle.std.specs.List.{prefix_len}
use Rattle.std.specs.Str.{bytes_eq}
use Rattle.std.proofs.lemmas.Slice.Eq.{bytes_eq-Decides}
use Rattle.std.proofs.lemmas.List.Folds.{list_any-append}
use Rattle.ckc_resolve.specs.Spellings.{Spelling, is_among, with_spelling, number_of}

-- ---- tests

pub either_false : (a b : Bool) → (a || b) ≡ false → (a ≡ false) × (b ≡ false)
either_false true b h = absurd cc
either_false false b h = (refl, h)

pub or_left : (a b : Bool) → a ≡ true → (a || b) ≡ true
or_left a b e = ap (λ x. x || b) e

pub or_right : (a b : Bool) → b ≡ true → (a || b) ≡ true
or_right true b e = refl
or_right false b e = e

pub either_true : (a b : Bool) → (a || b) ≡ true → (a ≡ true) ⊎ (b ≡ true)
either_true true b e = inl refl
either_true false b e = inr e

-- ---- lists that grow

pub same_bytes : (s : Spelling) → bytes_eq s s ≡ true
same_bytes s = (bytes_eq-Decides s s).1 refl

pub spelling_more : (ss : List Spelling) (s : Spelling) → (more : List Spelling) × (with_spelling ss s ≡ ss ++ more)
spelling_more ss s = by (is_among ss s)
  where
    by : (b : Bool) → (more : List Spelling) × (cond b ss (ss ++ s ∷ []) ≡ ss ++ more)
    by true = ([], sym (append-nil ss))
    by false = (s ∷ [], refl)

abbrev pub Grows : List Spelling → List Spelling → Type 0
Grows ss ts = (more : List Spelling) × (ts ≡ ss ++ more)

pub grows_trans : (ss ts us : List Spelling) → Grows ss ts → Grows ts us → Grows ss us
grows_trans ss ts us p q = (p.0 ++ q.0, q.1 ∙ ap (λ l. l ++ q.0) p.1 ∙ append_assoc ss p.0 q.0)

pub grows_none : (ss : List Spelling) → Grows ss ss
grows_none ss = ([], sym (append-nil ss))

pub among_more : (s : Spelling) (ss ts : List Spelling) → Grows ss ts → is_among ss s ≡ true → is_among ts s ≡ true
among_more s ss ts g h =
    ap (λ l. is_among l s) g.1 ∙ list_any-append (bytes_eq s) ss g.0 ∙ or_left (is_among ss s) (is_among g.0 s) h

among_last : (s : Spelling) (ss : List Spelling) → is_among (ss ++ s ∷ []) s ≡ true
among_last s ss =
    list_any-append (bytes_eq s) ss (s ∷ []) ∙ or_right (is_among ss s) (is_among (s ∷ []) s) (or_left (bytes_eq s s) false (same_bytes s))

pub among_with : (s : Spelling) (ss : List Spelling) → is_among (with_spelling ss s) s ≡ true
among_with s ss = by (is_among ss s) refl
  where
    by : (b : Bool) → is_among ss s ≡ b → is_among (cond b ss (ss ++ s ∷ [])) s ≡ true
    by true e = e
    by false e = among_last s ss

-- a spelling that is there if one more is noted
pub noted_one : (ss : List Spelling) (s x : Spelling) → is_among (with_spelling ss x) s ≡ true → (is_among ss s ≡ true) ⊎ (s ≡ x)
noted_one ss s x = by (is_among ss x)
  where
    by : (b : Bool) → is_among (cond b ss (ss ++ x ∷ [])) s ≡ true → (is_among ss s ≡ true) ⊎ (s ≡ x)
    by true h = inl h
    by false h = elim (either_true (is_among ss s) (is_among (x ∷ []) s) (sym (list_any-append (bytes_eq s) ss (x ∷ [])) ∙ h)) [
      | inl e ↦ inl e
      | inr e ↦ elim (either_true (bytes_eq s x) false e) [ inl f ↦ inr ((bytes_eq-Decides s x).0 f) | inr f ↦ absurd cc ]
    ]

-- ---- numbers

pub number_new : (s : Spelling) (ss more : List Spelling) → is_among ss s ≡ false → number_of (ss ++ s ∷ more) s ≡ length ss
number_new s [] more h = ap (λ b. cond (not b) (1 + prefix_len (λ x. not (bytes_eq s x)) more) 0) (same_bytes s)
number_new s (x ∷ xs) more h =
    let p = either_false (bytes_eq s x) (is_among xs s) h in
    let e : prefix_len (λ y. not (bytes_eq s y)) (xs ++ s ∷ more) ≡ length xs = number_new s xs more p.1 in
    let f : 1 + prefix_len (λ y. not (bytes_eq s y)) (xs ++ s ∷ more) ≡ length (x ∷ xs) = omega (arith, e) in
    ap (λ b. cond (not b) (1 + prefix_len (λ x. not (bytes_eq s x)) (xs ++ s ∷ more)) 0) p.0 ∙ f

pub number_old : (s : Spelling) (ss more : List Spelling) → is_among ss s ≡ true → number_of (ss ++ more) s < length ss
number_old s [] more h = absurd cc
number_old s (x ∷ xs) more h = by (bytes_eq s x) h (number_old s xs more)
  where
    by : (b : Bool) → (b || is_among xs s) ≡ true → (is_among xs s ≡ true → number_of (xs ++ more) s < length xs)
        → cond (not b) (1 + prefix_len (λ y. not (bytes_eq s y)) (xs ++ more)) 0 < length (x ∷ xs)
    by true e rest = omega arith
    by false e rest = let less : prefix_len (λ y. not (bytes_eq s y)) (xs ++ more) < length xs = rest e in omega arith

-- two spellings of one number are the same
pub same_number : (l : List Spelling) (s t : Spelling) → is_among l s ≡ true → is_among l t ≡ true → number_of l s ≡ number_of l t → s ≡ t
same_number [] s t p q e = absurd cc
same_number (x ∷ xs) s t p q e = by (bytes_eq s x) (bytes_eq t x) refl refl p q e (same_number xs s t)
  where
    by : (a b : Bool) → bytes_eq s x ≡ a → bytes_eq t x ≡ b → (a || is_among xs s) ≡ true → (b || is_among xs t) ≡ true
        → cond (not a) (1 + number_of xs s) 0 ≡ cond (not b) (1 + number_of xs t) 0
        → (is_among xs s ≡ true → is_among xs t ≡ true → number_of xs s ≡ number_of xs t → s ≡ t) → s ≡ t
    by true true f g p q e rest = (bytes_eq-Decides s x).0 f ∙ sym ((bytes_eq-Decides t x).0 g)
    by true false f g p q e rest = absurd (omega arith)
    by false true f g p q e rest = absurd (omega arith)
    by false false f g p q e rest = rest p q (omega arith)
