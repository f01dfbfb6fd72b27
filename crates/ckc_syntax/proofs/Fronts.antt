-- The longest front of a text that is spelled in some way.
use Rattle.std.proofs.Common.{◌≡◌, ℕ, ◌≤◌, List, length, take, sym, subst, ⊎_elim, arith, length-take-le}
use Rattle.std.proofs.lemmas.List.{take-take}
use Rattle.std.proofs.lemmas.Bool.{cases_order}
use Rattle.ckc_syntax.specs.Longest.{Longest}

-- it is still the longest in a front of the text that has it
pub longest_take : {A : Type 0} {P : List ℕ → A → Type 0} {text : List ℕ} {n : ℕ} {a : A} (k : ℕ) → Longest P text n a → n ≤ k → k ≤ length text → Longest P (take k text) n a
longest_take {A} {P} {text} {n} {a} k l h i = record {
  some = l.some;
  within = let e = length-take-le k text i in omega arith;
  spelled = subst (λ w. P w a) (sym (take-take n k text h)) l.spelled;
  longest = λ m other lt le s. let e = length-take-le k text i in l.longest m other lt (omega arith) (subst (λ w. P w other) (take-take m k text (omega arith)) s);
}

-- there is one longest front
pub longest_once : {A : Type 0} {P : List ℕ → A → Type 0} {text : List ℕ} {n m : ℕ} {a b : A} → ((w : List ℕ) (x y : A) → P w x → P w y → x ≡ y) → Longest P text n a → Longest P text m b → (n ≡ m) × (a ≡ b)
longest_once {A} {P} {text} {n} {m} {a} {b} f l k =
    ⊎_elim
    (λ e. (e, f (take m text) a b (subst (λ i. P (take i text) a) e l.spelled) k.spelled))
    (λ o. absurd (⊎_elim (λ lt. l.longest m b lt k.within k.spelled) (λ gt. k.longest n a gt l.within l.spelled) o))
    (cases_order n m)
