-- What the simulation of placed code by the machine is made of: allowed stores, callers that go on waiting, and moves to
-- the next related state.
use Rattle.std.proofs.Common.{◌≡◌, ◌⊎◌, inl, inr, ℕ, ◌+◌, ◌*◌, ◌^◌, ◌≤◌, ◌<◌, ◌==◌, nat_lt, ◌&&◌, ◌||◌, if◌then◌else◌, Bool, true, false, List, [], ◌∷◌, length, refl, sym, subst, ◌∙◌, arith}
use Rattle.std.specs.Prelude.{flat_map, nat_le, All, IsTrue}
use Rattle.std.specs.List.{slice_get}
use Rattle.std.proofs.lemmas.List.Elements.{All-nil, All-cons}
use Rattle.std.proofs.lemmas.Bool.Decides.{nat_tests}
use Rattle.ckc_base.specs.Traces.{Standing}
use Rattle.ckc_base.specs.Follows.{IsOver}
use Rattle.ckc_base.specs.LongEvents.{LongEvent, data_events}
use Rattle.ckc_base.specs.Memory.{is_data}
use Rattle.ckc_base.specs.Steps.{Move, Goes, Halts}
use Rattle.ckc_base.specs.Matching.{Closes}
use Rattle.ckc_base.specs.States.{Travels}
use Rattle.ckc_base.specs.Simulation.{SimulatedBy}
use Rattle.ckc_base.proofs.Travelling.{no_travel}
use Rattle.ckc_rv.specs.Machine as machine
use Rattle.ckc_rv.specs.Detailed.{MachineEvent, Outside, Wrote, detailed_system}
use Rattle.ckc_tac.specs.Meaning.{extra_steps}
use Rattle.ckc_frame.specs.declared.code.PlacedFunc.{PlacedFunc}
use Rattle.ckc_frame.specs.Meaning.{Caller, State, active}
use Rattle.ckc_frame.specs.Places.{marks_of}
use Rattle.ckc_emit.specs.code.Lines.{offset_of, ask_lines}
use Rattle.ckc_emit.specs.code.CallLines.{back_lines}
use Rattle.ckc_emit.specs.code.ProgramLines.{is_passing_block}
use Rattle.ckc_emit.specs.Stores.{seen_events, frame_start, is_in_frame, may_do}
use Rattle.ckc_emit.proofs.Local.{Local, state_of}
use Rattle.ckc_emit.proofs.Paths.{Code, LinesAt}
use Rattle.ckc_emit.proofs.Homes.{AreFrameStores}
use Rattle.ckc_emit.proofs.Relation.{IsAllowed, AreAllowed}
use Rattle.ckc_emit.proofs.Frames.{IsWaiting, AreWaiting, IsRelated, Relates, lines_of}
use Rattle.ckc_emit.proofs.Tests.{lt_is, le_is, and_true}

-- ---- allowed stores

any_first : (a b d : Bool) → a ≡ true → (a || b || d) ≡ true
any_first true b d e = refl
any_first false b d e = absurd (let z : false ≡ true = e in cc)

any_second : (a b d : Bool) → b ≡ true → (a || b || d) ≡ true
any_second true b d e = refl
any_second false true d e = refl
any_second false false d e = absurd (let z : false ≡ true = e in cc)

any_third : (a b d : Bool) → d ≡ true → (a || b || d) ≡ true
any_third true b d e = refl
any_third false true d e = refl
any_third false false d e = e

one_or_four : (n : ℕ) → (n ≡ 1) ⊎ (n ≡ 4) → (n == 1 || n == 4) ≡ true
one_or_four n (inl e) = grind (arith, nat_tests)
one_or_four n (inr e) = grind (arith, nat_tests)

in_frame : (d base a count : ℕ) → frame_start d ≡ base → base ≤ a → a + count ≤ base + 16384 → is_in_frame d a count ≡ true
in_frame d base a count e h k =
    and_true (nat_le (frame_start d) a) (nat_le (a + count) (frame_start d + 16384)) (le_is (frame_start d) a (omega arith)) (le_is (a + count) (frame_start d + 16384) (omega arith))

abbrev pub May : State → MachineEvent → Type 0
May s event = IsTrue (may_do s event)

module _ (s : State) (base : ℕ) (depth : base + 16384 * (length s.callers + 1) ≡ 0x04000000) where
  starts : frame_start (active s) ≡ base
  starts = omega arith

  one_may : (event : MachineEvent) → IsAllowed base event → May s event
  one_may (Outside event) h = refl
  one_may (Wrote a count v) (inl inside) =
      any_second (is_data a && (count == 1 || count == 4)) (is_in_frame (active s) a count) (nat_lt (active s) 1024 && is_in_frame (active s + 1) a count)
      (in_frame (active s) base a count starts inside.0 inside.1)
  one_may (Wrote a count v) (inr seen) =
      any_first (is_data a && (count == 1 || count == 4)) (is_in_frame (active s) a count) (nat_lt (active s) 1024 && is_in_frame (active s + 1) a count)
      (and_true (is_data a) (count == 1 || count == 4) seen.0 (one_or_four count seen.1))

  pub all_may : (events : List MachineEvent) → AreAllowed base events → All (May s) events
  all_may [] h = All-nil (May s)
  all_may (event ∷ events) h = All-cons (May s) event events (one_may event h.0) (all_may events h.1)

  pub frame_may : (events : List MachineEvent) → AreFrameStores base events → All (May s) events
  frame_may [] h = All-nil (May s)
  frame_may (Outside event ∷ events) h = absurd h.0
  frame_may (Wrote a count v ∷ events) h = All-cons (May s) (Wrote a count v) events (one_may (Wrote a count v) (inl h.0)) (frame_may events h.1)

  -- stores into the frame of the next call
  pub below_may : (below : ℕ) (events : List MachineEvent) → below + 16384 ≡ base → active s < 1024 → AreFrameStores below events → All (May s) events
  below_may below [] e few h = All-nil (May s)
  below_may below (Outside event ∷ events) e few h = absurd h.0
  below_may below (Wrote a count v ∷ events) e few h =
      let next : frame_start (active s + 1) ≡ below = omega arith in
      All-cons (May s) (Wrote a count v) events
      (any_third (is_data a && (count == 1 || count == 4)) (is_in_frame (active s) a count) (nat_lt (active s) 1024 && is_in_frame (active s + 1) a count)
      (and_true (nat_lt (active s) 1024) (is_in_frame (active s + 1) a count) (lt_is (active s) 1024 few) (in_frame (active s + 1) below a count next h.0.0 h.0.1)))
      (below_may below events e few h.1)

-- ---- the measures

-- a step without an instruction leads to a state of a smaller measure
abbrev pub measure : State → ℕ
measure s = if is_passing_block s.frame.ops s.frame.end then 1 else 0

-- how many instructions a step may take, beside those before its own
abbrev pub most : State → ℕ
most s = 59 + 80 * extra_steps s.frame.ops

abbrev pub near : ℕ
near = 21

abbrev pub Beside : State → machine.State → Type 0
Beside s t = Unit {0}

module _ (functions : List PlacedFunc) (c : Code) where
  -- ---- callers go on waiting

  waiting_kept : (words now : ℕ → ℕ) (base : ℕ) (caller : Caller) → ((a : ℕ) → (a ≡ base) ⊎ (base + 16384 ≤ a) → now a ≡ words a)
      → IsWaiting functions c words base caller → IsWaiting functions c now base caller
  waiting_kept words now base caller k w = record {
    at = w.at;
    call = w.call;
    counted = w.counted;
    target_over = w.target_over;
    back = subst (λ q. LinesAt c q (back_lines caller.frame.function.homes (marks_of (slice_get caller.frame.function.kept w.call)) caller.target (lines_of functions c caller.frame w.at))) (sym (k base (inl refl))) w.back;
    short = subst (λ q. q < 2 ^ 32) (sym (k base (inl refl))) w.short;
    saved = λ q v i e. k (base + 16384 + offset_of q) (inr (omega arith)) ∙ w.saved q v i e;
    word = w.word;
    kept = w.kept;
  }

  pub are_waiting_kept : (words now : ℕ → ℕ) (base : ℕ) (callers : List Caller) → ((a : ℕ) → (a ≡ base) ⊎ (base + 16384 ≤ a) → now a ≡ words a)
      → AreWaiting functions c words base callers → AreWaiting functions c now base callers
  are_waiting_kept words now base [] k w = record {
    rest = w.rest;
    back = subst (λ q. LinesAt c q (ask_lines 0 w.rest)) (sym (k base (inl refl))) w.back;
    short = subst (λ q. q < 2 ^ 32) (sym (k base (inl refl))) w.short;
  }
  are_waiting_kept words now base (caller ∷ callers) k w = (
    waiting_kept words now base caller k w.0,
    are_waiting_kept words now (base + 16384) callers (λ a o. k a (inr (elim o as (λ _. base + 16384 ≤ a) [ inl e ↦ omega arith | inr h ↦ omega arith ]))) w.1,
  )

  -- ---- moves

  abbrev pub Simulated : State → machine.State → Move LongEvent State → Type 0
  Simulated s t move = SimulatedBy (detailed_system c.parts) data_events seen_events May Beside (Relates functions c) measure near (most s) s t move

  -- The machine comes from a state to one that is related to the next.
  pub record Reaches (s : State) (l : Local) (pc : ℕ) (events : List LongEvent) (next : State) : Type 0 where
    pub to : Local
    pub there : ℕ
    pub count : ℕ
    pub lower : List MachineEvent
    pub few : count ≤ most s
    pub goes_on : (1 ≤ count) ⊎ (measure next < measure s)
    pub travels : Travels (detailed_system c.parts) count lower (state_of c.parts l pc) (state_of c.parts to there)
    pub seen : flat_map seen_events lower ≡ flat_map data_events events
    pub allowed : All (May s) lower
    pub related : IsRelated functions c next to there

  pub reaches_simulates : (s : State) (l : Local) (pc : ℕ) (events : List LongEvent) (next : State) → Reaches s l pc events next
      → Simulated s (state_of c.parts l pc) (Goes events next)
  reaches_simulates s l pc events next r = record {
    count = r.count;
    lower = r.lower;
    via = state_of c.parts r.to r.there;
    to = state_of c.parts r.to r.there;
    few = r.few;
    goes_on = r.goes_on;
    travels = r.travels;
    seen = r.seen;
    keeps = record { allowed = r.allowed; beside = λ j h. tt };
    nears = record {
      count = 0;
      events = [];
      few = omega arith;
      travels = no_travel (detailed_system c.parts) (state_of c.parts r.to r.there);
      unseen = refl;
      keeps = record { allowed = All-nil (May next); beside = λ j h. tt };
    };
    related = (r.to, r.there, refl, r.related);
  }

  pub halts_simulates : (s : State) (l : Local) (pc count : ℕ) (standing : Standing) → count ≤ most s → IsOver standing
      → Closes (detailed_system c.parts) count [] (state_of c.parts l pc) standing → Simulated s (state_of c.parts l pc) (Halts [] standing)
  halts_simulates s l pc count standing few over closes = inr (record {
    count = count;
    lower = [];
    few = few;
    over = over;
    closes = closes;
    seen = refl;
    allowed = All-nil (May s);
    beside = λ j. tt;
  })
