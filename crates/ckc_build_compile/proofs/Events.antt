-- Core code, placed code and the machine show at most one event a step, and the first two count their active calls.
use Rattle.std.proofs.Common.{◌≡◌, ℕ, ◌+◌, ◌%◌, ◌==◌, List, [], ◌∷◌, length, refl, ap, arith}
use Rattle.std.specs.Prelude.{Bool, true, false, not, if◌then◌else◌, slice_get, Option, Some, None, option_and_then}
use Rattle.ckc_base.specs.declared.places.Pos.{Pos}
use Rattle.ckc_base.specs.declared.runtime_checks.Check.TheVariants.{Depth}
use Rattle.ckc_base.specs.declared.runtime_checks.Check.{Check as CheckName}
use Rattle.ckc_base.specs.declared.arithmetic.Width.TheVariants.{Word}
use Rattle.ckc_base.specs.Checks.{check_with}
use Rattle.ckc_base.specs.Traces.{Put, Stopped, Ended}
use Rattle.ckc_base.specs.LongEvents.{LongEvent, Plain, Stored, Entered, Returned}
use Rattle.ckc_base.specs.Memory.{Memory, value_at, memory_with, kept_part, data_start, heap_has_room, next_place}
use Rattle.ckc_base.specs.Actions.{World, Outcome, Gives, Done, Stops, Lost, with_value, stores, stores_in, checks, gets, gets_from, puts, allocates, allocates_at, allocates_in}
use Rattle.ckc_base.specs.Activations.{has_room}
use Rattle.ckc_base.specs.Steps.{Move, Goes, Halts}
use Rattle.ckc_core.specs.Code as core
use Rattle.ckc_core.specs.Meaning as C
use Rattle.ckc_tac.specs.declared.code.TacBlock.{TacBlock}
use Rattle.ckc_tac.specs.declared.code.TacOp.{TacOp}
use Rattle.ckc_tac.specs.declared.code.TacOp.TheVariants as op
use Rattle.ckc_tac.specs.declared.code.TacEnd.{TacEnd}
use Rattle.ckc_tac.specs.declared.code.TacEnd.TheVariants as ends
use Rattle.ckc_tac.specs.Operations.{at_offset, outcome_of, value_in, values_in, compared}
use Rattle.ckc_frame.specs.declared.code.PlacedFunc.{PlacedFunc}
use Rattle.ckc_frame.specs.Meaning as F
use Rattle.ckc_rv.specs.declared.instructions.Instr.{Instr}
use Rattle.ckc_rv.specs.declared.registers.Outcome as rv
use Rattle.ckc_rv.specs.declared.registers.Outcome.TheVariants as effect
use Rattle.ckc_rv.specs.code.Decoded.{decoded}
use Rattle.ckc_rv.specs.Effects.{effect_of, load_bytes, store_bytes}
use Rattle.ckc_rv.specs.Machine as M
use Rattle.ckc_rv.specs.Detailed.{with_writes, writes_of, writes_by, writes_at, detailed_step}
use Rattle.ckc_base.proofs.Counting.{IsShort, Counts}

-- ---- actions

-- at most one event, and it is no call and no return
abbrev IsData : List LongEvent → Type 0
IsData [] = Unit {0}
IsData (Plain event ∷ []) = Unit {0}
IsData (Stored at width value ∷ []) = Unit {0}
IsData _ = ⊥

abbrev IsAction : Outcome → Type 0
IsAction (Gives events target value world) = IsData events
IsAction (Done events world) = IsData events
IsAction (Stops check at) = Unit {0}
IsAction Lost = Unit {0}

valued : (o : Option ℕ) (f : ℕ → Outcome) → ((x : ℕ) → IsAction (f x)) → IsAction (with_value o f)
valued (Some x) f h = h x
valued None f h = tt

stores_act : (world : World) (at : ℕ) → (o : Option Memory) → (e : LongEvent) → IsData (e ∷ []) → IsAction (stores_in world e o)
stores_act world at (Some memory) e h = h
stores_act world at None e h = tt

checks_act : (world : World) (check : CheckName) (at : Pos) (zero : Bool) → IsAction (if zero then Stops check at else Done [] world)
checks_act world check at true = tt
checks_act world check at false = tt

gets_act : (memory : Memory) (target : ℕ) (input : List ℕ) → IsAction (gets_from memory target input)
gets_act memory target [] = tt
gets_act memory target (b ∷ input) = tt

allocates_act : (world : World) (target count size place : ℕ) (room : Bool) (o : Option Memory)
    → IsAction (if room then allocates_in world target place (next_place place count size) o else Gives [] target 0 world)
allocates_act world target count size place true (Some memory) = tt
allocates_act world target count size place true None = tt
allocates_act world target count size place false o = tt

alloc_act : (world : World) (target size : ℕ) (n : ℕ) → IsAction (allocates world target n size)
alloc_act world target size n =
    valued (value_at Word world.memory data_start) (allocates_at world target n size)
    (λ place. allocates_act world target n size place (heap_has_room place n size) (memory_with Word world.memory data_start (next_place place n size)))

abbrev pub IsFine : {S : Type 0} → (S → ℕ) → S → Move LongEvent S → Type 0
IsFine active s move = IsShort move × Counts active s move

-- a move with such events to a state with as many active calls
given_fine : {S : Type 0} (active : S → ℕ) (s : S) (events : List LongEvent) (next : S) → IsData events → active next ≡ active s → IsFine active s (Goes events next)
given_fine active s [] next h same = (tt, ap (λ n. n + 0) same)
given_fine active s (Plain event ∷ []) next h same = (tt, ap (λ n. n + 0) same)
given_fine active s (Stored at width value ∷ []) next h same = (tt, ap (λ n. n + 0) same)
given_fine active s (Plain event ∷ e ∷ events) next h same = absurd h
given_fine active s (Stored at width value ∷ e ∷ events) next h same = absurd h
given_fine active s (Entered ∷ events) next h same = absurd h
given_fine active s (Returned ∷ events) next h same = absurd h

-- ---- core code

module _ (functions : List core.Function) (s : C.State) where
  abbrev Fine : Move LongEvent C.State → Type 0
  Fine move = IsFine C.active s move

  returns_fine : (callers : List C.Caller) (n : ℕ) → s.callers ≡ callers → Fine (C.returns s callers n)
  returns_fine [] n e = (tt, (refl, refl))
  returns_fine (c ∷ callers) n e = let count = ap length e in (tt, omega (arith, count))

  returned_fine : (o : Option ℕ) → Fine (C.returns_value s o)
  returned_fine (Some n) = returns_fine s.callers n refl
  returned_fine None = (tt, (refl, refl))

  ends_fine : (rest : C.Rest) → Fine (C.ends s rest)
  ends_fine C.Stop = returns_fine s.callers 0 refl
  ends_fine (C.Next code after) = (tt, refl)
  ends_fine (C.Body body step code after) = (tt, refl)
  ends_fine (C.Step body step code after) = (tt, refl)

  breaks_fine : (rest : C.Rest) → Fine (C.breaks s rest)
  breaks_fine C.Stop = (tt, (refl, refl))
  breaks_fine (C.Next code after) = breaks_fine after
  breaks_fine (C.Body body step code after) = (tt, refl)
  breaks_fine (C.Step body step code after) = (tt, (refl, refl))

  continues_fine : (rest : C.Rest) → Fine (C.continues s rest)
  continues_fine C.Stop = (tt, (refl, refl))
  continues_fine (C.Next code after) = continues_fine after
  continues_fine (C.Body body step code after) = (tt, refl)
  continues_fine (C.Step body step code after) = (tt, (refl, refl))

  acts_fine : (code : core.Code) (o : Outcome) → IsAction o → Fine (C.goes_by s code o)
  acts_fine code (Gives events x value world) h = given_fine C.active s events _ h refl
  acts_fine code (Done events world) h = given_fine C.active s events _ h refl
  acts_fine code (Stops check at) h = (tt, (refl, refl))
  acts_fine code Lost h = (tt, (refl, refl))

  branches_fine : (one two rest : core.Code) (o : Option ℕ) → Fine (C.branches s one two rest o)
  branches_fine one two rest None = (tt, (refl, refl))
  branches_fine one two rest (Some n) = by (n == 0)
    where
      by : (zero : Bool) → Fine (if zero then C.goes_to s two (C.Next rest s.frame.rest) else C.goes_to s one (C.Next rest s.frame.rest))
      by true = (tt, refl)
      by false = (tt, refl)

  enters_fine : (code : core.Code) (target : Option ℕ) (values : List ℕ) (o : Option core.Function) → Fine (C.enters s code target values o)
  enters_fine code target values None = (tt, (refl, refl))
  enters_fine code target values (Some f) = (tt, omega arith)

  calls_fine : (code : core.Code) (target : Option ℕ) (callee : ℕ) (at : Pos) (o : Option (List ℕ)) → Fine (C.calls functions s code target callee at o)
  calls_fine code target callee at None = (tt, (refl, refl))
  calls_fine code target callee at (Some values) = by (has_room (C.active s))
    where
      by : (room : Bool) → Fine (if room then C.enters s code target values (slice_get functions callee) else Halts [] (Stopped Depth at))
      by true = enters_fine code target values (slice_get functions callee)
      by false = (tt, (refl, refl))

  runs_fine : (code : core.Code) → Fine (C.runs functions s code)
  runs_fine core.End = ends_fine s.frame.rest
  runs_fine (core.Set x e rest) =
      acts_fine rest (with_value (C.value_of s.frame.locals s.world.memory e) (λ v. Gives [] x v s.world))
      (valued (C.value_of s.frame.locals s.world.memory e) (λ v. Gives [] x v s.world) (λ v. tt))
  runs_fine (core.Store width a e rest) =
      let value = C.value_of s.frame.locals s.world.memory e in
      acts_fine rest (with_value (C.value_of s.frame.locals s.world.memory a) (λ p. with_value value (stores s.world width p)))
      (valued (C.value_of s.frame.locals s.world.memory a) (λ p. with_value value (stores s.world width p))
      (λ p. valued value (stores s.world width p)
      (λ v. stores_act s.world p (memory_with width s.world.memory p v) (Stored p width (kept_part width v)) tt)))
  runs_fine (core.Check check at e rest) =
      acts_fine rest (with_value (C.value_of s.frame.locals s.world.memory e) (checks s.world check at))
      (valued (C.value_of s.frame.locals s.world.memory e) (checks s.world check at) (λ v. checks_act s.world check at (v == 0)))
  runs_fine (core.Call target callee es at rest) = calls_fine rest target callee at (C.values_of s.frame.locals s.world.memory es)
  runs_fine (core.Get x rest) = acts_fine rest (gets s.world x) (gets_act s.world.memory x s.world.input)
  runs_fine (core.Put e rest) =
      acts_fine rest (with_value (C.value_of s.frame.locals s.world.memory e) (puts s.world))
      (valued (C.value_of s.frame.locals s.world.memory e) (puts s.world) (λ v. tt))
  runs_fine (core.Alloc x e size rest) =
      acts_fine rest (with_value (C.value_of s.frame.locals s.world.memory e) (λ n. allocates s.world x n size))
      (valued (C.value_of s.frame.locals s.world.memory e) (λ n. allocates s.world x n size) (alloc_act s.world x size))
  runs_fine (core.If e one two rest) = branches_fine one two rest (C.value_of s.frame.locals s.world.memory e)
  runs_fine (core.Loop body step rest) = (tt, refl)
  runs_fine (core.Break rest) = breaks_fine s.frame.rest
  runs_fine (core.Continue rest) = continues_fine s.frame.rest
  runs_fine (core.Return e rest) = returned_fine (C.value_of s.frame.locals s.world.memory e)

  pub core_fine : Fine (C.core_step functions s)
  unfolding C.core_step
  core_fine = runs_fine s.frame.code

-- ---- placed code

module _ (functions : List PlacedFunc) (s : F.State) where
  abbrev FineHere : Move LongEvent F.State → Type 0
  FineHere move = IsFine F.active s move

  places_returned : (callers : List F.Caller) (o : Option ℕ) → s.callers ≡ callers → FineHere (F.returns s callers o)
  places_returned [] (Some n) e = (tt, (refl, refl))
  places_returned [] None e = (tt, (refl, refl))
  places_returned (c ∷ callers) (Some n) e = let count = ap length e in (tt, omega (arith, count))
  places_returned (c ∷ callers) None e = (tt, (refl, refl))

  places_act : (ops : List TacOp) (o : Outcome) → IsAction o → FineHere (F.goes_by s ops o)
  places_act ops (Gives events x value world) h = given_fine F.active s events _ h refl
  places_act ops (Done events world) h = given_fine F.active s events _ h refl
  places_act ops (Stops check at) h = (tt, (refl, refl))
  places_act ops Lost h = (tt, (refl, refl))

  places_to : (b : ℕ) (o : Option TacBlock) → FineHere (F.goes_to s b o)
  places_to b (Some block) = (tt, refl)
  places_to b None = (tt, (refl, refl))

  places_branch : (one two : ℕ) (o : Option ℕ) → FineHere (F.branches s one two o)
  places_branch one two None = (tt, (refl, refl))
  places_branch one two (Some n) = by (n == 0)
    where
      by : (zero : Bool) → FineHere (if zero then F.goes_to s two (slice_get s.frame.function.code.blocks two) else F.goes_to s one (slice_get s.frame.function.code.blocks one))
      by true = places_to two (slice_get s.frame.function.code.blocks two)
      by false = places_to one (slice_get s.frame.function.code.blocks one)

  places_end : (end : TacEnd) → FineHere (F.ends s end)
  places_end (ends.Jump to) = places_to to (slice_get s.frame.function.code.blocks to)
  places_end (ends.Branch comparison a b one two) = places_branch one two (compared comparison (value_in (F.registers_of s.frame) a) (value_in (F.registers_of s.frame) b))
  places_end (ends.Return a) = places_returned s.callers (value_in (F.registers_of s.frame) a) refl

  places_enter : (ops : List TacOp) (target : Option ℕ) (values : List ℕ) (f : PlacedFunc) (o : Option TacBlock) → FineHere (F.enters_block s ops target values f o)
  places_enter ops target values f None = (tt, (refl, refl))
  places_enter ops target values f (Some block) = (tt, omega arith)

  places_found : (ops : List TacOp) (target : Option ℕ) (values : List ℕ) (o : Option PlacedFunc) → FineHere (F.enters s ops target values o)
  places_found ops target values None = (tt, (refl, refl))
  places_found ops target values (Some f) = places_enter ops target values f (slice_get f.code.blocks 0)

  places_call : (ops : List TacOp) (target : Option ℕ) (callee : ℕ) (at : Pos) (o : Option (List ℕ)) → FineHere (F.calls functions s ops target callee at o)
  places_call ops target callee at None = (tt, (refl, refl))
  places_call ops target callee at (Some values) = by (has_room (F.active s))
    where
      by : (room : Bool) → FineHere (if room then F.enters s ops target values (slice_get functions callee) else Halts [] (Stopped Depth at))
      by true = places_found ops target values (slice_get functions callee)
      by false = (tt, (refl, refl))

  places_run : (ops : List TacOp) → FineHere (F.runs functions s ops)
  places_run [] = places_end s.frame.end
  places_run (op.Const t n ∷ ops) = (tt, refl)
  places_run (op.Copy t a ∷ ops) =
      let f : ℕ → Outcome = λ x. Gives [] t x s.world in
      places_act ops (with_value (F.registers_of s.frame a) f) (valued (F.registers_of s.frame a) f (λ x. tt))
  places_run (op.Bin o t a b ∷ ops) = places_act ops (outcome_of (F.registers_of s.frame) s.world (op.Bin o t a b))
      (valued (value_in (F.registers_of s.frame) a) _ (λ x. valued (value_in (F.registers_of s.frame) b) _ (λ y. tt)))
  places_run (op.High g t a b ∷ ops) = places_act ops (outcome_of (F.registers_of s.frame) s.world (op.High g t a b))
      (valued (value_in (F.registers_of s.frame) a) _ (λ x. valued (value_in (F.registers_of s.frame) b) _ (λ y. tt)))
  places_run (op.Load width t a n ∷ ops) = places_act ops (outcome_of (F.registers_of s.frame) s.world (op.Load width t a n))
      (valued (value_in (F.registers_of s.frame) a) _ (λ p. valued (value_at width s.world.memory (at_offset p n)) _ (λ y. tt)))
  places_run (op.Store width a n b ∷ ops) = places_act ops (outcome_of (F.registers_of s.frame) s.world (op.Store width a n b))
      (valued (value_in (F.registers_of s.frame) a) _ (λ p. valued (value_in (F.registers_of s.frame) b) (stores s.world width (at_offset p n))
      (λ v. stores_act s.world (at_offset p n) (memory_with width s.world.memory (at_offset p n) v) (Stored (at_offset p n) width (kept_part width v)) tt)))
  places_run (op.Check check at comparison a b ∷ ops) = places_act ops (outcome_of (F.registers_of s.frame) s.world (op.Check check at comparison a b))
      (valued (compared comparison (value_in (F.registers_of s.frame) a) (value_in (F.registers_of s.frame) b)) (checks s.world check at)
      (λ v. checks_act s.world check at (v == 0)))
  places_run (op.Call target callee arguments at ∷ ops) = places_call ops target callee at (values_in (F.registers_of s.frame) arguments)
  places_run (op.Get t ∷ ops) = places_act ops (gets s.world t) (gets_act s.world.memory t s.world.input)
  places_run (op.Put a ∷ ops) = places_act ops (outcome_of (F.registers_of s.frame) s.world (op.Put a)) (valued (value_in (F.registers_of s.frame) a) (puts s.world) (λ v. tt))
  places_run (op.Alloc t a size ∷ ops) = places_act ops (outcome_of (F.registers_of s.frame) s.world (op.Alloc t a size))
      (valued (value_in (F.registers_of s.frame) a) (λ n. allocates s.world t n size) (alloc_act s.world t size))

  pub placed_fine : FineHere (F.placed_step functions s)
  unfolding F.placed_step
  placed_fine = places_run s.frame.ops

-- ---- the machine

module _ (s : M.State) where
  -- a move without events and with these stores is short, and so is one with an event and no store
  gets_short : (input : List ℕ) → IsShort (with_writes [] (M.gets s input))
  gets_short [] = tt
  gets_short (b ∷ input) = tt

  stops_short : (o : Option CheckName) → IsShort (with_writes [] (M.stops s o))
  stops_short (Some check) = tt
  stops_short None = tt

  calls_short : (zero one two three : Bool) (value : ℕ) (check : Option CheckName)
      → IsShort (with_writes [] (if zero then Halts [] (Ended value) else if one then Goes (Put (value % 256) ∷ []) (M.next_with s 0 0)
      else if two then M.gets s s.input else if three then M.stops s check else M.faults 6 s))
  calls_short true one two three value check = tt
  calls_short false true two three value check = tt
  calls_short false false true three value check = gets_short s.input
  calls_short false false false true value check = stops_short check
  calls_short false false false false value check = tt

  outcome_short : (o : rv.Outcome) → IsShort (with_writes (writes_of o) (M.by_outcome s o))
  outcome_short (effect.Next rd value pc) = tt
  outcome_short (effect.Load op rd a) = by (a % load_bytes op == 0) (M.loaded s.memory (load_bytes op) a)
    where
      by : (even : Bool) (o : Option ℕ) → IsShort (with_writes [] (if even then M.loads s op rd o else M.faults 2 s))
      by true (Some n) = tt
      by true None = tt
      by false o = tt
  outcome_short (effect.Store op a value) = by (a % store_bytes op == 0) (M.is_writable a)
    where
      by : (even there : Bool) → IsShort (with_writes (writes_of (effect.Store op a value)) (if not even then M.faults 2 s
          else if there then Goes [] (record (M.next_with s 0 0) { memory = M.stored s.memory (store_bytes op) a value }) else M.faults 4 s))
      by true true = tt
      by true false = tt
      by false there = tt
  outcome_short effect.Call =
      calls_short (M.register s 17 == 0) (M.register s 17 == 1) (M.register s 17 == 2) (M.register s 17 == 3) (M.register s 10) (check_with (M.register s 10))
  outcome_short effect.Break = tt
  outcome_short effect.BadTarget = tt

  executes_short : (o : Option Instr) → IsShort (with_writes (writes_by s o) (M.executes s o))
  executes_short (Some i) = outcome_short (effect_of i s.pc s.x)
  executes_short None = tt

  pub machine_short : (parts : M.Parts) → IsShort (detailed_step parts s)
  unfolding detailed_step M.machine_step
  machine_short parts = by (M.is_code parts s.pc)
    where
      by : (there : Bool) → IsShort (with_writes (writes_at s) (if there then M.executes s (option_and_then decoded (M.loaded s.memory 4 s.pc)) else M.faults 0 s))
      by true = executes_short (option_and_then decoded (M.loaded s.memory 4 s.pc))
      by false = tt
