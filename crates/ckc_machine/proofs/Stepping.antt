-- One instruction that asks nothing of the outside.
use Rattle.std.proofs.Common.{◌≡◌, ℕ, List, [], Option, refl, sym, subst, ◌∙◌}
use Rattle.ckc_base.specs.Traces.{Standing}
use Rattle.ckc_rv_operations.specs.declared.operations.StoreOp.{StoreOp}
use Rattle.ckc_rv.specs.Effects.{store_bytes}
use Rattle.ckc_rv.specs.Machine.{Parts, State, with_register, next_with, stored}
use Rattle.ckc_machine.specs.declared.observed.Observed.{Observed}
use Rattle.ckc_machine.specs.declared.observed.Observed.TheVariants.{Ended, Stopped, Going, Fault, ReadFault, WriteFault}
use Rattle.ckc_machine.specs.declared.machine.Machine.{Machine}
use Rattle.ckc_machine.specs.declared.machine.Turn.TheVariants as turn
use Rattle.ckc_machine.specs.Points.{state_at}
use Rattle.ckc_machine.specs.Runs.{IsAt, Runs, Says, AsksFor, answer_of, state_of, read_faults, write_faults}
use Rattle.ckc_machine.specs.code.Turns.{Turns}
use Rattle.ckc_outside.proofs.Giving.{called_none}
use Rattle.ckc_machine.proofs.Arrivals.{arrives_going, arrives_halting, printed_none, runs_arriving, runs_going}

-- the instruction that asks is the one that comes next
pub asks_here : (parts : Parts) (given : List ℕ) (k call : ℕ) (m : Machine) (left : Option (List ℕ)) → IsAt parts given k m left → AsksFor parts (state_of m (state_at parts given k).input) call → AsksFor parts (state_at parts given k) call
asks_here parts given k call m left is asks = subst (λ (s : State). AsksFor parts s call) is.state asks

-- an answer that says how the machine stands is no fault of an object
pub no_read_fails : (answer : Observed) (standing : Standing) (n : ℕ) → Says answer standing → n ≡ read_faults answer n
no_read_fails (Ended value) standing n says = refl
no_read_fails (Stopped check at) standing n says = refl
no_read_fails Going standing n says = refl
no_read_fails (Fault kind pc) standing n says = refl
no_read_fails ReadFault standing n says = absurd says
no_read_fails WriteFault standing n says = absurd says

pub no_write_fails : (answer : Observed) (standing : Standing) (n : ℕ) → Says answer standing → n ≡ write_faults answer n
no_write_fails (Ended value) standing n says = refl
no_write_fails (Stopped check at) standing n says = refl
no_write_fails Going standing n says = refl
no_write_fails (Fault kind pc) standing n says = refl
no_write_fails ReadFault standing n says = absurd says
no_write_fails WriteFault standing n says = absurd says

module _ (parts : Parts) (given : List ℕ) (k : ℕ) (m m' : Machine) (left left' written : Option (List ℕ)) (asks puts : ℕ)
    (going : answer_of m ≡ Going) (code : m'.memory.code.now ≡ m.memory.code.now) (same : left' ≡ left) (is : IsAt parts given k m left) where
  abbrev rest : List ℕ
  rest = (state_at parts given k).input

  abbrev runs_to : Observed → Type 0
  runs_to answer = Runs parts given k 1 m' left left' written written asks asks puts puts answer

  pub next_runs : (rd value pc : ℕ) → Turns parts (state_of m rest) (turn.Next rd value pc)
      → ((input : List ℕ) → let s = state_of m input in state_of m' input ≡ record s { x = with_register s.x rd value; pc = pc })
      → answer_of m' ≡ answer_of m → runs_to (answer_of m')
  next_runs rd value pc turns state answer_is =
      let answer = answer_is ∙ going in
      let next = record (state_of m rest) { x = with_register m.regs.x rd value; pc = pc } in
      runs_going parts given k m' left left' written written asks asks puts puts answer
      (arrives_going parts given k m m' left left' written written asks asks puts puts [] next is going turns.1 code (state rest) answer (same ∙ is.rest) (printed_none written) (called_none asks asks puts puts refl refl))

  pub store_runs : (op : StoreOp) (a value : ℕ) → Turns parts (state_of m rest) (turn.Store op a value)
      → ((input : List ℕ) → let s = state_of m input in state_of m' input ≡ record (next_with s 0 0) { memory = stored s.memory (store_bytes op) a value })
      → answer_of m' ≡ answer_of m → runs_to (answer_of m')
  store_runs op a value turns state answer_is =
      let answer = answer_is ∙ going in
      let next = record (next_with (state_of m rest) 0 0) { memory = stored (state_of m rest).memory (store_bytes op) a value } in
      runs_going parts given k m' left left' written written asks asks puts puts answer
      (arrives_going parts given k m m' left left' written written asks asks puts puts [] next is going turns.3 code (state rest) answer (same ∙ is.rest) (printed_none written) (called_none asks asks puts puts refl refl))

  pub halt_runs : (answer : Observed) → Turns parts (state_of m rest) (turn.Halt answer)
      → ((input : List ℕ) → state_of m' input ≡ state_of m input) → answer_of m' ≡ answer → runs_to (answer_of m')
  halt_runs answer turns state answer_is =
      subst runs_to (sym answer_is)
      (runs_arriving parts given k 1 m' left left' written written asks asks puts puts answer turns.0 turns.1
      (arrives_halting parts given k m m' left left' written written asks asks puts puts answer turns.0 is going turns.2 turns.1 code (state rest) answer_is same refl refl refl))
