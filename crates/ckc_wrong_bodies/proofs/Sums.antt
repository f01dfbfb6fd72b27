-- The chain over both facts, and numbers that keep the facts and no chain that sums to 1.
use Rattle.std.proofs.Common.{◌≡◌, ℕ, ◌-◌, Bool, true, false, IsTrue, [], ◌∷◌, ℤ, pos, ◌+ℤ◌, ◌≤ℤ◌, refl, arith}
use Rattle.std.specs.Prelude.{◌↔◌}
use Rattle.std.specs.List.{All}
use Rattle.std.proofs.lemmas.Int.{ints}
use Rattle.std.proofs.lemmas.List.Elements.{All-nil, All-cons}
use Rattle.ckc_linear.specs.declared.facts.Fact.{Fact}
use Rattle.ckc_linear.specs.Facts.{Satisfies}
use Rattle.ckc_linear.specs.Chains.{Chain, total}
use Rattle.ckc_linear.proofs.Values.{walk_holds}
use Rattle.ckc_wrong_bodies.specs.Examples.{two_facts}

abbrev first : Fact
first = record { x = 0; y = 1; c = pos 1 }

abbrev second : Fact
second = record { x = 1; y = 2; c = pos 1 }

chain : Chain 3 two_facts 0 2 (pos 2)
chain = record {
  walk = first ∷ second ∷ [];
  leads = ((0, omega arith, refl), refl, ((1, omega arith, refl), refl, refl));
  short = omega arith;
  sum = omega (arith, ints);
}

-- x is 2, y is 1 and z is 0
abbrev value : ℕ → ℤ
value n = pos (2 - n)

facts_hold : All (Satisfies value) two_facts
facts_hold =
    let x : pos 2 ≤ℤ (pos 1 +ℤ pos 1) = omega (arith, ints) in
    let y : pos 1 ≤ℤ (pos 0 +ℤ pos 1) = omega (arith, ints) in
    All-cons (Satisfies value) first (second ∷ []) x (All-cons (Satisfies value) second [] y (All-nil (Satisfies value)))

no_chain : Chain 3 two_facts 0 2 (pos 1) → ⊥
no_chain c =
    let holds : pos 2 ≤ℤ (pos 0 +ℤ total c.walk) = walk_holds two_facts value facts_hold 0 2 c.walk c.leads in
    let sum = c.sum in
    omega (arith, ints)

pub longer : (answer : Bool) → (IsTrue answer ↔ Chain 3 two_facts 0 2 (pos 2)) → answer ≡ true
longer answer h = h.1 chain

pub exact : (answer : Bool) → (IsTrue answer ↔ Chain 3 two_facts 0 2 (pos 1)) → answer ≡ false
exact false h = refl
exact true h = absurd (no_chain (h.0 refl))
