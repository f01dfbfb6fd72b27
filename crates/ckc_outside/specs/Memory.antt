use Rattle.std.specs.Prelude.{ℕ, List, Bool, cond, ◌==◌}
use Rattle.std.specs.List.{list_any}
use Rattle.ckc_outside.specs.Outside.{one_more}

-- whether the call after so many calls is listed
abbrev pub is_listed : List ℕ → ℕ → Bool
is_listed listed calls = list_any (λ n. n == one_more calls) listed

-- a count of faults after a call that was a fault or not
abbrev pub counted : ℕ → Bool → ℕ
counted faults failed = cond failed (one_more faults) faults

-- which calls of an object in memory fail, and how many calls and faults there were
pub record Failing : Type 0 where
  pub listed : List ℕ
  pub calls : ℕ
  pub faults : ℕ

-- the same after a call that was a fault or not
abbrev pub after_call : Failing → Bool → Failing
after_call plan failed = record {
  listed = plan.listed;
  calls = one_more plan.calls;
  faults = counted plan.faults failed;
}
