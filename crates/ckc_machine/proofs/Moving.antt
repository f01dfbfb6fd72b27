-- What each move of the machine keeps to.
use Rattle.std.proofs.Common.{◌≡◌, ◌≢◌, ℕ, ◌-◌, ◌^◌, Bool, true, false, cond, List, [], ◌∷◌, ◌++◌, Option, None, Some, option_and_then, refl, ◌%◌}
use Rattle.ckc_base.specs.declared.runtime_checks.Check.{Check}
use Rattle.ckc_base.specs.Checks.{check_with}
use Rattle.ckc_base.specs.Traces.{Event, Got, Put, Standing, Going, Ended, Stopped, Fault}
use Rattle.ckc_base.specs.Steps.{Move, Goes, Halts}
use Rattle.ckc_rv_operations.specs.declared.operations.LoadOp.{LoadOp}
use Rattle.ckc_rv.specs.declared.instructions.Instr.{Instr}
use Rattle.ckc_rv.specs.declared.registers.Outcome.{Outcome}
use Rattle.ckc_rv.specs.declared.registers.Outcome.TheVariants as outcome
use Rattle.ckc_rv.specs.Effects.{effect_of, load_bytes, load_value, store_bytes}
use Rattle.ckc_rv.specs.code.Decoded.{decoded}
use Rattle.ckc_rv.specs.Machine.{Parts, State, loaded, machine_step, executes, faults, by_outcome, loads, calls, stops, gets, register, with_register, next_with, stored}
use Rattle.ckc_machine.specs.Points.{taken}

-- A move that goes on takes from the input what its events say; a halt has no event, and is no going on.
unfoldable pub Proper : State → Move Event State → Type 0
Proper s (Goes events next) = s.input ≡ taken events ++ next.input
Proper s (Halts events standing) = (standing ≢ Going) × (events ≡ [])

pub proper_goes : (s : State) (events : List Event) (next : State) → Proper s (Goes events next) → s.input ≡ taken events ++ next.input
unfolding Proper
proper_goes s events next p = p

pub proper_halts : (s : State) (events : List Event) (standing : Standing) → Proper s (Halts events standing) → (standing ≢ Going) × (events ≡ [])
unfolding Proper
proper_halts s events standing p = p

going : (s : State) (events : List Event) (next : State) → s.input ≡ taken events ++ next.input → Proper s (Goes events next)
unfolding Proper
going s events next e = e

halting : (s : State) (standing : Standing) → standing ≢ Going → Proper s (Halts [] standing)
unfolding Proper
halting s standing h = (h, refl)

if_proper : (s : State) (b : Bool) (x y : Move Event State) → Proper s x → Proper s y → Proper s (cond b x y)
if_proper s true x y h k = h
if_proper s false x y h k = k

faults_proper : (kind : ℕ) (s : State) → Proper s (faults kind s)
faults_proper kind s = halting s (Fault kind s.pc) (λ e. cc)

gets_proper : (s : State) (input : List ℕ) → s.input ≡ input → Proper s (gets s input)
gets_proper s [] e = going s (Got None ∷ []) (next_with s 10 (2 ^ 32 - 1)) refl
gets_proper s (byte ∷ rest) e = going s (Got (Some byte) ∷ []) (record (next_with s 10 byte) { input = rest }) e

stops_proper : (s : State) (check : Option Check) → Proper s (stops s check)
stops_proper s (Some check) = halting s (Stopped check (record { line = register s 11; col = register s 12 })) (λ e. cc)
stops_proper s None = faults_proper 6 s

calls_proper : (s : State) → Proper s (calls s)
calls_proper s =
    if_proper s _ _ _ (halting s (Ended (register s 10)) (λ e. cc))
    (if_proper s _ _ _ (going s (Put (register s 10 % 256) ∷ []) (next_with s 0 0) refl)
    (if_proper s _ _ _ (gets_proper s s.input refl)
    (if_proper s _ _ _ (stops_proper s (check_with (register s 10))) (faults_proper 6 s))))

loads_proper : (s : State) (op : LoadOp) (rd : ℕ) (n : Option ℕ) → Proper s (loads s op rd n)
loads_proper s op rd (Some n) = going s [] (next_with s rd (load_value op n)) refl
loads_proper s op rd None = faults_proper 3 s

outcome_proper : (s : State) (out : Outcome) → Proper s (by_outcome s out)
outcome_proper s (outcome.Next rd value pc) = going s [] (record s { x = with_register s.x rd value; pc = pc }) refl
outcome_proper s (outcome.Load op rd a) = if_proper s _ _ _ (loads_proper s op rd (loaded s.memory (load_bytes op) a)) (faults_proper 2 s)
outcome_proper s (outcome.Store op a value) =
    if_proper s _ _ _ (faults_proper 2 s)
    (if_proper s _ _ _ (going s [] (record (next_with s 0 0) { memory = stored s.memory (store_bytes op) a value }) refl) (faults_proper 4 s))
outcome_proper s outcome.Call = calls_proper s
outcome_proper s outcome.Break = faults_proper 5 s
outcome_proper s outcome.BadTarget = faults_proper 2 s

executes_proper : (s : State) (i : Option Instr) → Proper s (executes s i)
executes_proper s (Some i) = outcome_proper s (effect_of i s.pc s.x)
executes_proper s None = faults_proper 1 s

pub step_proper : (parts : Parts) (s : State) → Proper s (machine_step parts s)
unfolding machine_step
step_proper parts s = if_proper s _ _ _ (executes_proper s (option_and_then decoded (loaded s.memory 4 s.pc))) (faults_proper 0 s)
