-- An instruction shows one event at most, so a machine puts no more bytes than it executes instructions.
use Rattle.std.proofs.Common.{◌≡◌, ℕ, zero, suc, ◌+◌, ◌%◌, ◌^◌, ◌==◌, ◌<◌, ◌≤◌, Bool, true, false, cond, not, List, [], ◌∷◌, ◌++◌, length, Option, Some, None, option_and_then, refl, ap, ◌∙◌, arith, length-append}
use Rattle.std.specs.List.{flat_map}
use Rattle.ckc_base.specs.declared.runtime_checks.Check.{Check}
use Rattle.ckc_base.specs.Checks.{check_with}
use Rattle.ckc_base.specs.Traces.{Event, Got, Put, Ended, output}
use Rattle.ckc_base.specs.Steps.{Move, Goes, Halts, after, shown}
use Rattle.ckc_outside.specs.Outside.{one_more}
use Rattle.ckc_outside.specs.Given.{after_each}
use Rattle.ckc_rv_operations.specs.declared.operations.LoadOp.{LoadOp}
use Rattle.ckc_rv.specs.declared.instructions.Instr.{Instr}
use Rattle.ckc_rv.specs.declared.registers.Outcome.{Outcome}
use Rattle.ckc_rv.specs.declared.registers.Outcome.TheVariants.{Next, Load, Store, Call, Break, BadTarget}
use Rattle.ckc_rv.specs.Effects.{effect_of, load_bytes, store_bytes}
use Rattle.ckc_rv.specs.code.Decoded.{decoded}
use Rattle.ckc_rv.specs.Machine.{Parts, State, register, next_with, loaded, stored, is_code, is_writable, faults, machine_step, machine_system, machine, first_state, executes, by_outcome, loads, calls, stops, gets}

-- ---- events of an instruction

abbrev pub IsShort : Move Event State → Type 0
IsShort (Goes events next) = length events ≤ 1
IsShort (Halts events standing) = length events ≤ 1

either : (b : Bool) (p q : Move Event State) → IsShort p → IsShort q → IsShort (cond b p q)
either true p q a b = a
either false p q a b = b

no_event : length {A = Event} [] ≤ 1
no_event = omega arith

one_event : (e : Event) → length (e ∷ []) ≤ 1
one_event e = omega arith

gets_short : (s : State) (input : List ℕ) → IsShort (gets s input)
gets_short s [] = one_event (Got None)
gets_short s (byte ∷ rest) = one_event (Got (Some byte))

stops_short : (s : State) (check : Option Check) → IsShort (stops s check)
stops_short s (Some check) = no_event
stops_short s None = no_event

loads_short : (s : State) (op : LoadOp) (rd : ℕ) (value : Option ℕ) → IsShort (loads s op rd value)
loads_short s op rd (Some n) = no_event
loads_short s op rd None = no_event

calls_short : (s : State) → IsShort (calls s)
calls_short s =
    let stop : Move Event State = cond (register s 17 == 3) (stops s (check_with (register s 10))) (faults 6 s) in
    let get : Move Event State = cond (register s 17 == 2) (gets s s.input) stop in
    let put : Move Event State = Goes (Put (register s 10 % 256) ∷ []) (next_with s 0 0) in
    either (register s 17 == 0) (Halts [] (Ended (register s 10))) (cond (register s 17 == 1) put get) no_event
    (either (register s 17 == 1) put get (one_event (Put (register s 10 % 256)))
    (either (register s 17 == 2) (gets s s.input) stop (gets_short s s.input)
    (either (register s 17 == 3) (stops s (check_with (register s 10))) (faults 6 s) (stops_short s (check_with (register s 10))) no_event)))

outcome_short : (s : State) (o : Outcome) → IsShort (by_outcome s o)
outcome_short s (Next rd value pc) = no_event
outcome_short s (Load op rd a) =
    let value : Option ℕ = loaded s.memory (load_bytes op) a in
    either (a % load_bytes op == 0) (loads s op rd value) (faults 2 s) (loads_short s op rd value) no_event
outcome_short s (Store op a value) =
    let store : Move Event State = Goes [] (record (next_with s 0 0) { memory = stored s.memory (store_bytes op) a value }) in
    either (not (a % store_bytes op == 0)) (faults 2 s) (cond (is_writable a) store (faults 4 s)) no_event (either (is_writable a) store (faults 4 s) no_event no_event)
outcome_short s Call = calls_short s
outcome_short s Break = no_event
outcome_short s BadTarget = no_event

executes_short : (s : State) (i : Option Instr) → IsShort (executes s i)
executes_short s (Some i) = outcome_short s (effect_of i s.pc s.x)
executes_short s None = no_event

step_short : (parts : Parts) (s : State) → IsShort (machine_step parts s)
unfolding machine_step
step_short parts s =
    let i : Option Instr = option_and_then decoded (loaded s.memory 4 s.pc) in
    either (is_code parts s.pc) (executes s i) (faults 0 s) (executes_short s i) no_event

-- ---- events of a run

move_within : (parts : Parts) (k : ℕ) (trace : List Event) (m : Move Event State) → IsShort m
    → ((t : List Event) (u : State) → length (shown (machine_system parts) k 0 t u).trace ≤ length t + k)
    → length (after (λ events next. shown (machine_system parts) k 0 events next) trace m).trace ≤ length trace + suc k
move_within parts k trace (Goes events next) short h =
    let later = h (trace ++ events) next in
    omega (arith, later, length-append trace events, short)
move_within parts k trace (Halts events standing) short h = omega (arith, length-append trace events, short)

trace_within : (parts : Parts) (k wait : ℕ) (trace : List Event) (s : State) → length (shown (machine_system parts) k wait trace s).trace ≤ length trace + k
unfolding shown
trace_within parts zero wait trace s = omega arith
trace_within parts (suc k) zero trace s = move_within parts k trace (machine_step parts s) (step_short parts s) (λ t u. trace_within parts k 0 t u)
trace_within parts (suc k) (suc wait) trace s = let later = trace_within parts k wait trace s in omega (arith, later)

output_within : (trace : List Event) → length (output trace) ≤ length trace
output_within [] = omega arith
output_within (Got byte ∷ trace) = let later = output_within trace in omega (arith, later)
output_within (Put byte ∷ trace) = let later = output_within trace in omega (arith, later)

pub puts_within : (parts : Parts) (input : List ℕ) (k : ℕ) → length (output (machine parts input k).trace) ≤ k
puts_within parts input k =
    let puts = output_within (machine parts input k).trace in
    let trace = trace_within parts k 0 [] (first_state parts input) in
    omega (arith, puts, trace)

-- ---- counts

-- a count that does not come to its last value is exact
pub counted : {A : Type 0} (n : ℕ) (l : List A) → n + length l < 2 ^ 64 → after_each n l ≡ n + length l
unfolding after_each
counted n [] h = omega arith
counted n (a ∷ more) h =
    let one : one_more n ≡ n + 1 = omega (arith, h) in
    let later = counted (n + 1) more (omega (arith, h)) in
    ap (λ k. after_each k more) one ∙ later ∙ omega arith
