-- What a row of sums says of walks, from round to round.
use Rattle.std.proofs.Common.{◌≡◌, ⊎_elim, ap, subst, ◌∙◌, ℕ, ◌+◌, ◌*◌, ◌^◌, ◌<◌, ◌≤◌, List, [], ◌∷◌, length, get_or, ℤ, pos, ◌+ℤ◌, ◌≤ℤ◌, ◌<ℤ◌, arith}
use Rattle.std.specs.List.{All, Contains}
use Rattle.std.proofs.lemmas.Int.{ints}
use Rattle.std.proofs.lemmas.List.{get_or_default}
use Rattle.std.proofs.lemmas.List.Elements.{All-contains}
use Rattle.ckc_linear.specs.declared.facts.Fact.{Fact}
use Rattle.ckc_linear.specs.Facts.{IsInRange, IsWithin}
use Rattle.ckc_linear.specs.Chains.{Leads, total}
use Rattle.ckc_linear.specs.code.Rows.{IsRow, IsRound, IsSmall, none, sum_at}

module _ (vars : ℕ) (facts : List Fact) (in_range : All (IsInRange vars) facts) where
  fact_in_range : (f : Fact) → Contains facts f → IsInRange vars f
  fact_in_range f h = All-contains (IsInRange vars) facts f in_range h

  -- the sum of a walk is no greater than its length allows
  total_within : (x y : ℕ) (walk : List Fact) → Leads facts x y walk → IsWithin (length walk * 2 ^ 50) (total walk)
  total_within x y [] h = record { low = omega (arith, ints); high = omega (arith, ints) }
  total_within x y (f ∷ walk) h =
      let here = (fact_in_range f h.0).number in
      let rest = total_within f.y y walk h.2 in
      record { low = omega (arith, ints); high = omega (arith, ints) }

  pub row_small : (y most : ℕ) (row : List ℤ) → most ≤ 1024 → IsRow facts y most row → All IsSmall row
  row_small y most row few is k d h less =
      let e : get_or row k d ≡ sum_at row k = get_or_default row k d (pos 0) h in
      let (walk, leads, short, sum) = is.reached k h (omega (arith, ints)) in
      let within = total_within k y walk leads in
      record { low = omega (arith, ints); high = omega (arith, ints) }

  -- from a sum at the right variable of a fact to one at its left
  behind : (y : ℕ) (old new : List ℤ) (f : Fact) (walk : List Fact) → length old ≡ vars → All IsSmall old → IsRound facts old new →
      Contains facts f → (sum_at old f.y <ℤ none) × (sum_at old f.y ≤ℤ total walk) → (sum_at new f.x <ℤ none) × (sum_at new f.x ≤ℤ total (f ∷ walk))
  behind y old new f walk long small round h rest =
      let fact = fact_in_range f h in
      let within : IsWithin (2 ^ 60) (sum_at old f.y) = small f.y (pos 0) (omega (arith, fact.right)) rest.0 in
      let least = round.least f h rest.0 in
      let number = fact.number in
      (omega (arith, ints), omega (arith, ints))

  least_more : (y most : ℕ) (old new : List ℤ) → length old ≡ vars → All IsSmall old → IsRow facts y most old → IsRound facts old new →
      (v : ℕ) (walk : List Fact) → v < vars → Leads facts v y walk → length walk ≤ most + 1 → (sum_at new v <ℤ none) × (sum_at new v ≤ℤ total walk)
  least_more y most old new long small is round v [] within leads short =
      let here = is.least v [] (omega arith) leads (omega arith) in
      let falls = round.falls v in
      (omega (arith, ints), omega (arith, ints))
  least_more y most old new long small is round v (f ∷ walk) within leads short =
      let rest = is.least f.y walk (omega (arith, (fact_in_range f leads.0).right)) leads.2 (omega arith) in
      subst (λ u. (sum_at new u <ℤ none) × (sum_at new u ≤ℤ total (f ∷ walk))) leads.1 (behind y old new f walk long small round leads.0 rest)

  reached_more : (y most : ℕ) (old new : List ℤ) → length old ≡ vars → IsRow facts y most old → IsRound facts old new →
      (v : ℕ) → v < vars → sum_at new v <ℤ none → (walk : List Fact) × Leads facts v y walk × (length walk ≤ most + 1) × (sum_at new v ≡ total walk)
  reached_more y most old new long is round v within less = ⊎_elim
      (λ e. let (walk, leads, short, sum) = is.reached v (omega arith) (subst (λ s. s <ℤ none) e less) in (walk, leads, omega arith, e ∙ sum))
      (λ (f, h, x, through, sum).
      let (walk, leads, short, rest) = is.reached f.y (omega (arith, (fact_in_range f h).right)) through in
      (f ∷ walk, (h, x, leads), omega arith, sum ∙ ap (λ s. f.c +ℤ s) rest))
      (round.reached v)

  pub row_round : (y most : ℕ) (old new : List ℤ) → length old ≡ vars → length new ≡ vars → All IsSmall old →
      IsRow facts y most old → IsRound facts old new → IsRow facts y (most + 1) new
  row_round y most old new long long' small is round = record {
    least = λ v walk within leads short. least_more y most old new long small is round v walk (omega arith) leads short;
    reached = λ v within less. reached_more y most old new long is round v (omega arith) less;
  }

  least_always : (y most : ℕ) (row : List ℤ) → length row ≡ vars → All IsSmall row → IsRow facts y most row → IsRound facts row row →
      (v : ℕ) (walk : List Fact) → v < vars → Leads facts v y walk → (sum_at row v <ℤ none) × (sum_at row v ≤ℤ total walk)
  least_always y most row long small is round v [] within leads = is.least v [] (omega arith) leads (omega arith)
  least_always y most row long small is round v (f ∷ walk) within leads =
      let rest = least_always y most row long small is round f.y walk (fact_in_range f leads.0).right leads.2 in
      subst (λ u. (sum_at row u <ℤ none) × (sum_at row u ≤ℤ total (f ∷ walk))) leads.1 (behind y row row f walk long small round leads.0 rest)

  -- if a round changes nothing, no later one does
  pub row_settled : (y most later : ℕ) (row : List ℤ) → length row ≡ vars → All IsSmall row → most ≤ later →
      IsRow facts y most row → IsRound facts row row → IsRow facts y later row
  row_settled y most later row long small le is round = record {
    least = λ v walk within leads short. least_always y most row long small is round v walk (omega arith) leads;
    reached = λ v within less. let (walk, leads, short, sum) = is.reached v within less in (walk, leads, omega arith, sum);
  }
