-- Whether something has a property, and which is the longest front of a text that is spelled, can be worked out.
use Rattle.std.proofs.Common.{◌≡◌, ◌⊎◌, inl, inr, ⊎_elim, ℕ, zero, suc, ◌<◌, ◌≤◌, Bool, true, Option, Some, None, is_none, List, length, take, get_or, refl, sym, ap, subst, arith}
use Rattle.std.proofs.lemmas.Bool.{false≢true, cases_lt}
use Rattle.ckc_base.proofs.Told.{Told, SomeTold, is_true, each_below}
use Rattle.ckc_syntax.specs.Bytes.{AllBytes}
use Rattle.ckc_syntax.specs.Longest.{Longest, NoFront}

-- if only one thing can have it, whether that one has it says whether something has
pub only_one : {A : Type 0} (P : A → Type 0) (a : A) → ((x : A) → P x → x ≡ a) → Told (P a) → SomeTold P
only_one P a same (inl p) = inl (a, p)
only_one P a same (inr wrong) = inr (λ x p. wrong (subst P (same x p) p))

-- something is a
pub the_one : {A : Type 0} (a : A) → SomeTold (λ (x : A). x ≡ a)
the_one a = inl (a, refl)

-- a fact, and a thing that has it
pub with_fact : {A : Type 0} (F : Type 0) (P : A → Type 0) → Told F → SomeTold P → SomeTold (λ a. F × P a)
with_fact F P (inl f) (inl x) = inl (x.0, (f, x.1))
with_fact F P (inl f) (inr none) = inr (λ a h. none a h.1)
with_fact F P (inr wrong) p = inr (λ a h. wrong h.0)

-- something has one of two properties
pub one_of : {A : Type 0} (P Q : A → Type 0) → SomeTold P → SomeTold Q → SomeTold (λ a. P a ⊎ Q a)
one_of P Q (inl x) q = inl (x.0, inl x.1)
one_of P Q (inr none) (inl x) = inl (x.0, inr x.1)
one_of P Q (inr none) (inr never) = inr (λ a h. ⊎_elim (none a) (never a) h)

-- two properties that say the same
pub said_so : {A : Type 0} (P Q : A → Type 0) → ((a : A) → P a → Q a) → ((a : A) → Q a → P a) → SomeTold P → SomeTold Q
said_so P Q there back (inl x) = inl (x.0, there x.0 x.1)
said_so P Q there back (inr none) = inr (λ a q. none a (back a q))

-- that something has it is a fact
pub exists : {A : Type 0} (P : A → Type 0) → SomeTold P → Told ((a : A) × P a)
exists P (inl x) = inl x
exists P (inr none) = inr (λ x. none x.0 x.1)

-- what an answer holds
pub held : {A : Type 0} (o : Option A) → SomeTold (λ a. o ≡ Some a)
held (Some a) = inl (a, refl)
held None = inr (λ a e. false≢true (sym (ap is_none e)))

-- each byte passes the test
pub bytes_told : (test : ℕ → Bool) (w : List ℕ) → Told (AllBytes test w)
bytes_told test w = each_below (λ k. test (get_or w k 0) ≡ true) (λ k. is_true (test (get_or w k 0))) (length w)

-- a front of the text has a longest one that is spelled, or none is
abbrev pub FrontTold : {A : Type 0} → (List ℕ → A → Type 0) → List ℕ → Type 0
FrontTold {A} P text = ((n : ℕ) × (a : A) × Longest P text n a) ⊎ NoFront P text

module _ {A : Type 0} (P : List ℕ → A → Type 0) (told : (w : List ℕ) → SomeTold (P w)) (text : List ℕ) where
  -- no front of more than k bytes is spelled
  abbrev NoneAbove : ℕ → Type 0
  NoneAbove k = (m : ℕ) (a : A) → k < m → m ≤ length text → P (take m text) a → ⊥

  -- if the front of k + 1 bytes is not spelled either, none of more than k is
  none_from : (k : ℕ) → NoneAbove (suc k) → ((a : A) → ¬ P (take (suc k) text) a) → NoneAbove k
  none_from k above none m a lt le p = ⊎_elim
      (λ (more : suc k < m). above m a more le p)
      (λ (upto : m ≤ suc k). let e : m ≡ suc k = omega (arith, lt, upto) in none a (subst (λ i. P (take i text) a) e p))
      (cases_lt (suc k) m)

  -- the front of k + 1 bytes is the longest, or the search goes on below
  search_step : (k : ℕ) → suc k ≤ length text → NoneAbove (suc k) → SomeTold (P (take (suc k) text)) → (NoneAbove k → FrontTold P text) → FrontTold P text
  search_step k le above (inl x) below = inl (
    suc k,
    x.0,
    record {
      some = omega arith;
      within = le;
      spelled = x.1;
      longest = above;
    },
  )
  search_step k le above (inr none) below = below (none_from k above none)

  -- the longest front is searched for downwards
  search : (k : ℕ) → k ≤ length text → NoneAbove k → FrontTold P text
  search zero le above = inr above
  search (suc k) le above = search_step k le above (told (take (suc k) text)) (λ more. search k (omega (arith, le)) more)

  -- whether a front of the text is spelled, and which one is the longest
  pub longest_told : FrontTold P text
  longest_told = search (length text) (omega arith) (λ m a lt le p. omega (arith, lt, le))
