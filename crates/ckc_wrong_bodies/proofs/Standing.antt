-- What stands at a number of instructions.
use Rattle.std.proofs.Common.{◌≡◌, ◌==◌, if◌then◌else◌, ℕ, suc, ◌-◌, ◌^◌, List, [], ◌∷◌, Option, None, refl, sym, ap, ◌∙◌}
use Rattle.ckc_base.specs.Traces.{Got, Standing}
use Rattle.ckc_base.specs.Traces as standings
use Rattle.ckc_base.specs.Steps.{Goes}
use Rattle.ckc_rv.specs.Machine.{Parts, State, machine, machine_step, register, calls, gets, next_with}
use Rattle.ckc_machine.specs.declared.machine.Machine.{Machine}
use Rattle.ckc_machine.specs.declared.observed.FaultKind.{FaultKind}
use Rattle.ckc_machine.specs.declared.observed.FaultKind.TheVariants.{Fetch, Word, Align, Load, Store, Break, Call}
use Rattle.ckc_machine.specs.declared.observed.Observed.{Observed}
use Rattle.ckc_machine.specs.declared.observed.Observed.TheVariants.{Ended, Stopped, Going, Fault, ReadFault, WriteFault}
use Rattle.ckc_machine.specs.Points.{state_at}
use Rattle.ckc_machine.specs.Runs.{kind_number, Says, IsAt, AsksFor, answer_of, state_of}
use Rattle.ckc_machine.proofs.Points.{next_goes}
use Rattle.ckc_machine.proofs.Turning.{asks_step}

calls_get : (s : State) → register s 17 ≡ 2 → calls s ≡ gets s s.input
calls_get s e = rw e refl

module _ (parts : Parts) (input : List ℕ) (k : ℕ) where
  at_end : AsksFor parts (state_at parts input k) 2 → (state_at parts input k).input ≡ []
      → machine_step parts (state_at parts input k) ≡ Goes (Got None ∷ []) (next_with (state_at parts input k) 10 (2 ^ 32 - 1))
  at_end asks none =
      asks_step parts (state_at parts input k) 2 asks ∙ calls_get (state_at parts input k) asks.number ∙ ap (gets (state_at parts input k)) none

  pub minus_one : (m : Machine) (left : Option (List ℕ)) → AsksFor parts (state_at parts input k) 2 → (state_at parts input k).input ≡ []
      → IsAt parts input (suc k) m left → state_of m [] ≡ next_with (state_at parts input k) 10 (2 ^ 32 - 1)
  minus_one m left asks none is =
      let next = next_goes parts input k (Got None ∷ []) (next_with (state_at parts input k) 10 (2 ^ 32 - 1)) (at_end asks none) in
      let rest : (state_at parts input (suc k)).input ≡ [] = ap (λ (s : State). s.input) next ∙ none in
      ap (state_of m) (sym rest) ∙ is.state ∙ next

  -- the state of a machine there, whatever input it is given
  with_rest : (m : Machine) (left : Option (List ℕ)) → IsAt parts input k m left → (rest : List ℕ) → state_of m rest ≡ record (state_at parts input k) { input = rest }
  with_rest m left is rest = ap (λ (s : State). record s { input = rest }) is.state

  pub same_state : (m other : Machine) (left left' : Option (List ℕ)) → IsAt parts input k m left → IsAt parts input k other left' → (rest : List ℕ) → state_of m rest ≡ state_of other rest
  same_state m other left left' a b rest = with_rest m left a rest ∙ sym (with_rest other left' b rest)

  -- ---- the answer

  abbrev kind_with : ℕ → FaultKind
  kind_with n =
      if n == 0 then Fetch else if n == 1 then Word else if n == 2 then Align else if n == 3 then Load
      else if n == 4 then Store else if n == 5 then Break else Call

  kind_back : (kind : FaultKind) → kind_with (kind_number kind) ≡ kind
  kind_back Fetch = refl
  kind_back Word = refl
  kind_back Align = refl
  kind_back Load = refl
  kind_back Store = refl
  kind_back Break = refl
  kind_back Call = refl

  -- the answer that says how a machine stands
  abbrev said : Standing → Observed
  said standings.Going = Going
  said (standings.Ended value) = Ended value
  said (standings.Stopped check at) = Stopped check at
  said standings.Stuck = Going
  said (standings.Fault kind pc) = Fault (kind_with kind) pc

  told : (answer : Observed) (standing : Standing) → Says answer standing → answer ≡ said standing
  told (Ended value) standing e = sym (ap said e)
  told (Stopped check at) standing e = sym (ap said e)
  told Going standing e = sym (ap said e)
  told (Fault kind pc) standing e = sym (ap said e ∙ ap (λ (f : FaultKind). Fault f pc) (kind_back kind))
  told ReadFault standing e = absurd e
  told WriteFault standing e = absurd e

  pub same_answer : (m other : Machine) (left left' : Option (List ℕ)) → IsAt parts input k m left → IsAt parts input k other left' → answer_of m ≡ answer_of other
  same_answer m other left left' a b =
      told (answer_of m) (machine parts input k).standing a.answer ∙ sym (told (answer_of other) (machine parts input k).standing b.answer)
