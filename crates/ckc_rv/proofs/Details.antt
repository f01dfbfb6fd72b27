-- Without its stores the detailed machine shows what the machine shows.
use Rattle.std.proofs.Common.{◌≡◌, ℕ, zero, suc, List, [], ◌∷◌, ◌++◌, map, append-nil, refl, ◌∙◌, ap}
use Rattle.std.specs.List.{flat_map}
use Rattle.std.proofs.lemmas.Grind.{flat_map-append}
use Rattle.ckc_base.specs.Traces.{Event, Showing, narrowed}
use Rattle.ckc_base.specs.Steps.{Move, Goes, Halts, after, shown}
use Rattle.ckc_rv.specs.declared.registers.Outcome.{Outcome}
use Rattle.ckc_rv.specs.declared.registers.Outcome.TheVariants.{Next, Load, Store, Call, Break, BadTarget}
use Rattle.ckc_rv.specs.declared.instructions.Instr.{Instr}
use Rattle.ckc_rv.specs.Effects.{effect_of}
use Rattle.ckc_rv.specs.Machine.{Parts, State, machine_step, machine_system, first_state, machine}
use Rattle.ckc_rv.specs.Detailed.{MachineEvent, Outside, outside_events, writes_of, writes_by, writes_at, with_writes, detailed_step, detailed_system, detailed_machine}
use Rattle.std.proofs.Common.{Option, Some, None}

seen_outside : (events : List Event) → flat_map outside_events (map (λ e. Outside e) events) ≡ events
seen_outside [] = refl
seen_outside (e ∷ events) = ap (λ l. e ∷ l) (seen_outside events)

writes_unseen : (out : Outcome) → flat_map outside_events (writes_of out) ≡ []
writes_unseen (Store op a value) = refl
writes_unseen (Next rd value pc) = refl
writes_unseen (Load op rd a) = refl
writes_unseen Call = refl
writes_unseen Break = refl
writes_unseen BadTarget = refl

by_unseen : (s : State) (i : Option Instr) → flat_map outside_events (writes_by s i) ≡ []
by_unseen s (Some i) = writes_unseen (effect_of i s.pc s.x)
by_unseen s None = refl

seen_with : (trace : List MachineEvent) (events : List Event) (writes : List MachineEvent) → flat_map outside_events writes ≡ []
    → flat_map outside_events (trace ++ (map (λ e. Outside e) events ++ writes)) ≡ flat_map outside_events trace ++ events
seen_with trace events writes e =
    flat_map-append outside_events trace (map (λ e. Outside e) events ++ writes)
    ∙ ap (λ l. flat_map outside_events trace ++ l)
    (flat_map-append outside_events (map (λ e. Outside e) events) writes
    ∙ ap (λ l. flat_map outside_events (map (λ e. Outside e) events) ++ l) e
    ∙ append-nil (flat_map outside_events (map (λ e. Outside e) events)) ∙ seen_outside events)

-- what a move leads to, if what is shown from the next state on is the same
after_narrowed : (go : List MachineEvent → State → Showing MachineEvent) (on : List Event → State → Showing Event) (trace : List MachineEvent) (writes : List MachineEvent) (move : Move Event State)
    → flat_map outside_events writes ≡ [] → ((t : List MachineEvent) (u : State) → narrowed outside_events (go t u) ≡ on (flat_map outside_events t) u)
    → narrowed outside_events (after go trace (with_writes writes move)) ≡ after on (flat_map outside_events trace) move
after_narrowed go on trace writes (Goes events next) e h =
    h (trace ++ (map (λ e. Outside e) events ++ writes)) next ∙ ap (λ t. on t next) (seen_with trace events writes e)
after_narrowed go on trace writes (Halts events standing) e h =
    ap (λ t. record { trace = t; standing = standing })
    (flat_map-append outside_events trace (map (λ e. Outside e) events) ∙ ap (λ l. flat_map outside_events trace ++ l) (seen_outside events))

shown_narrowed : (parts : Parts) (n : ℕ) (trace : List MachineEvent) (s : State)
    → narrowed outside_events (shown (detailed_system parts) n 0 trace s) ≡ shown (machine_system parts) n 0 (flat_map outside_events trace) s
unfolding shown detailed_step
shown_narrowed parts zero trace s = refl
shown_narrowed parts (suc n) trace s =
    after_narrowed (λ t u. shown (detailed_system parts) n 0 t u) (λ t u. shown (machine_system parts) n 0 t u) trace (writes_at s) (machine_step parts s)
    (by_unseen s _) (λ t u. shown_narrowed parts n t u)

pub machine_narrowed : (parts : Parts) (input : List ℕ) (k : ℕ) → narrowed outside_events (detailed_machine parts input k) ≡ machine parts input k
machine_narrowed parts input k = shown_narrowed parts k [] (first_state parts input)
