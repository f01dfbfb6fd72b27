-- In each state of a run of a well formed program, a step that is stuck is stuck for a cause.
use Rattle.std.proofs.Common.{◌≡◌, ◌⊎◌, inl, inr, refl, sym, subst, ℕ, zero, suc, ◌^◌, Bool, true, false, List, [], ◌∷◌, ◌++◌, map}
use Rattle.std.specs.Prelude.{All, ◌==◌, ◌%◌, ◌-◌, if◌then◌else◌, Option, Some, None, Result, Ok, Err, slice_get}
use Rattle.std.proofs.lemmas.List.Elements.{All-head, All-tail}
use Rattle.ckc_base.specs.declared.places.Pos.{Pos}
use Rattle.ckc_base.specs.declared.runtime_checks.Check.TheVariants as check
use Rattle.ckc_base.specs.Activations.{has_room}
use Rattle.ckc_base.specs.States.{moved_on, state_after, state_at}
use Rattle.ckc_base.specs.Steps.{Move, Goes, Halts, after, shown}
use Rattle.ckc_base.specs.Traces.{Event, Got, Put as Puts, Going}
use Rattle.ckc_base.specs.Traces as standing
use Rattle.ckc_source.specs.declared.outcome.Halt.{Halt}
use Rattle.ckc_source.specs.declared.outcome.Halt.TheVariants as halt
use Rattle.ckc_source.specs.declared.outcome.Place.{Place}
use Rattle.ckc_source.specs.declared.outcome.Value.{Value}
use Rattle.ckc_source.specs.declared.stmt.Kept.{Kept}
use Rattle.ckc_source.specs.Blocks.{block_of}
use Rattle.ckc_source.specs.Code.{Expr, Target, Right, Code, End, Assign, Bundle, Get, Put, Call, If, Loop, Break, Continue, Return, Check, Function, Program}
use Rattle.ckc_source.specs.Eval.{Store, evaluated, all_evaluated}
use Rattle.ckc_source.specs.Source.{first_state, function_at, source, source_system}
use Rattle.ckc_source.specs.States.{Caller, State, Work, Rest, Turn, active, entered, settled}
use Rattle.ckc_source.specs.Steps.{store_of, aimed, bundled, comes_to, and_moves, at_work, writes_allowed, gets, puts, in_call, reads_interfaces, enters, calls, hands, returns, acts, works, source_step}
use Rattle.ckc_source_causes.specs.Layouts.{Layout}
use Rattle.ckc_source_causes.specs.WellFormed.{AreWellFormedAssigns, HasParams, HasStepsInBody, HasWellFormedBody, IsWellFormed, IsWellFormedExpr, IsWellFormedKept}
use Rattle.ckc_source_causes.specs.Causes.{Then, HasCause, OneHasCause, TargetHasCause, AssignHasCause, InterfaceHasCause, EntryHasCause, HandingHasCause, ReturnHasCause, StatementHasCause, WorkHasCause, IsStuckForCause}
use Rattle.ckc_source_causes.proofs.Fates.{Any, HoldsProgram, Fate, fate_map, IsLater, IsPlaced, aimed_fate, arguments_fate, bundled_fate, evaluated_fate, hands_fate, holds_later, interfaces_fate, writes_allowed_fate}
use Rattle.ckc_source_causes.proofs.First.{first_inside}
use Rattle.ckc_source_causes.proofs.Later.{kept_itself}
use Rattle.ckc_source_causes.proofs.Settled.{AreFormed, AreReady, IsActing, IsFormed, settled_ready}

all_get : {X : Type 0} (P : X → Type 0) (xs : List X) (k : ℕ) (x : X) → All P xs → slice_get xs k ≡ Some x → P x
all_get P [] k x h e = absurd cc
all_get P (y ∷ ys) zero x h e = subst P (let f : y ≡ x = cc in f) (All-head P y ys h)
all_get P (y ∷ ys) (suc k) x h e = all_get P ys k x (All-tail P y ys h) e

module _ (p : Program) (formed : IsWellFormed p) where
  abbrev l : Layout
  l = formed.layout

  -- ---- states

  abbrev AreWaiting : List Caller → Type 0
  AreWaiting [] = Unit {0}
  AreWaiting (caller ∷ callers) = AreFormed p l caller.frame.work × IsWellFormedKept p caller.target × AreWaiting callers

  -- what holds of each state of a run
  record IsRunning (s : State) : Type 0 where
    pub work : AreFormed p l s.frame.work
    pub callers : AreWaiting s.callers
    pub blocks : HoldsProgram p l s.blocks s.next

  -- the same of what a step leads to, which is stuck for this cause if it is stuck
  abbrev Moved : Type 0 → Move Event State → Type 0
  Moved C (Goes events u) = IsRunning u
  Moved C (Halts events standing.Stuck) = C
  Moved C (Halts events standing) = Unit {0}

  moved_map : (C D : Type 0) (m : Move Event State) → Moved C m → (C → D) → Moved D m
  moved_map C D (Goes events u) h f = h
  moved_map C D (Halts events standing.Stuck) h f = f h
  moved_map C D (Halts events standing.Going) h f = tt
  moved_map C D (Halts events (standing.Ended n)) h f = tt
  moved_map C D (Halts events (standing.Stopped why at)) h f = tt
  moved_map C D (Halts events (standing.Fault kind pc)) h f = tt

  comes_moved : (C : Type 0) (events : List Event) (r : Result State Halt) → Fate C IsRunning r → Moved C (comes_to events r)
  comes_moved C events (Ok u) h = h
  comes_moved C events (Err (halt.Stopped why at)) h = tt
  comes_moved C events (Err halt.Stuck) h = h

  then_moved : {A : Type 0} (C : Type 0) (P D : A → Type 0) (r : Result A Halt) (f : A → Move Event State) → Fate C P r → ((v : A) → r ≡ Ok v → P v → Moved (D v) (f v))
      → Moved (C ⊎ Then r D) (and_moves r f)
  then_moved C P D (Ok v) f h next = moved_map (D v) (C ⊎ Then (Ok v) D) (f v) (next v refl h) (λ d. inr (v, refl, d))
  then_moved C P D (Err (halt.Stopped why at)) f h next = tt
  then_moved C P D (Err halt.Stuck) f h next = inl h

  -- the rest is not stuck
  first_moved : {A : Type 0} (C : Type 0) (P : A → Type 0) (r : Result A Halt) (f : A → Move Event State) → Fate C P r → ((v : A) → P v → Moved ⊥ (f v)) → Moved C (and_moves r f)
  first_moved C P (Ok v) f h next = moved_map ⊥ C (f v) (next v h) (λ d. absurd d)
  first_moved C P (Err (halt.Stopped why at)) f h next = tt
  first_moved C P (Err halt.Stuck) f h next = h

  later_running : (s u : State) → IsRunning s → IsLater l s u → IsRunning u
  later_running s u h k = record {
    work = subst (AreFormed p l) (sym k.work) h.work;
    callers = subst AreWaiting (sym k.callers) h.callers;
    blocks = holds_later p l s u h.blocks k;
  }

  at_running : (s : State) (work : List Work) → IsRunning s → AreFormed p l work → IsRunning (at_work s work)
  at_running s work h w = record { work = w; callers = h.callers; blocks = h.blocks }

  -- ---- calls

  enters_moved : (s : State) (target : Option Kept) (callee : ℕ) (values : List ℕ) (count : ℕ) (o : Option Function) → slice_get p.functions callee ≡ o → HasParams count o → IsWellFormedKept p target → IsRunning s
      → Moved (EntryHasCause p s target callee values) (enters p.shapes s target values o)
  enters_moved s target callee values count None is there kept h = absurd there
  enters_moved s target callee values count (Some f) is there kept h =
      let st : Store = store_of p.shapes (in_call s target values f) in
      moved_map (InterfaceHasCause st f.interfaces) (EntryHasCause p s target callee values) (enters p.shapes s target values (Some f))
      (first_moved (InterfaceHasCause st f.interfaces) Any (reads_interfaces st f.interfaces) (λ u. Goes [] (in_call s target values f)) (interfaces_fate st f.interfaces) (λ u k. record {
        work = ((all_get (HasWellFormedBody p l) p.functions callee f formed.bodies is, all_get HasStepsInBody p.functions callee f formed.steps is), tt);
        callers = (h.work, kept, h.callers);
        blocks = h.blocks;
      })) (λ c. (f, is, c))

  calls_moved : (s : State) (target : Option Kept) (callee : ℕ) (at : Pos) (values : List ℕ) (count : ℕ) → HasParams count (slice_get p.functions callee) → IsWellFormedKept p target → IsRunning s
      → Moved (EntryHasCause p s target callee values) (calls p s target callee at values)
  calls_moved s target callee at values count there kept h = by (has_room (active s))
    where
      by : (room : Bool) → Moved (EntryHasCause p s target callee values) (if room then enters p.shapes s target values (slice_get p.functions callee) else Halts [] (standing.Stopped check.Depth at))
      by true = enters_moved s target callee values count (slice_get p.functions callee) refl there kept h
      by false = tt

  returns_moved : (s : State) (callers : List Caller) (n : ℕ) → HoldsProgram p l s.blocks s.next → AreWaiting callers → Moved (ReturnHasCause p.shapes s callers n) (returns p.shapes s callers n)
  returns_moved s [] n o h = tt
  returns_moved s (caller ∷ callers) n o h =
      let u : State = record s { frame = caller.frame; callers = callers } in
      let C : Type 0 = HandingHasCause (record { shapes = p.shapes; blocks = s.blocks; locals = s.frame.entry }) s.frame.function.result caller.target n in
      comes_moved C [] (hands p.shapes u s.frame.function.result s.frame.entry caller.target n)
      (fate_map C C (IsLater l u) IsRunning (hands p.shapes u s.frame.function.result s.frame.entry caller.target n) (hands_fate p l p.shapes u s.frame.function.result s.frame.entry caller.target n o.there h.1) (λ c. c)
      (λ v k. later_running u v (record { work = h.0; callers = h.2; blocks = o }) k))

  -- ---- steps

  written_moved : (events : List Event) (to : Place) (n : ℕ) (s : State) → IsPlaced s.blocks to → IsRunning s → Moved ⊥ (comes_to events (writes_allowed to n s))
  written_moved events to n s placed h =
      comes_moved ⊥ events (writes_allowed to n s) (fate_map ⊥ ⊥ (IsLater l s) IsRunning (writes_allowed to n s) (writes_allowed_fate l to n s placed) (λ c. c) (λ u k. later_running s u h k))

  gets_moved : (s : State) (to : Place) (input : List ℕ) → IsPlaced s.blocks to → IsRunning s → Moved ⊥ (gets s to input)
  gets_moved s to [] placed h = written_moved (Got None ∷ []) to (2 ^ 32 - 1) s placed h
  gets_moved s to (b ∷ rest) placed h = written_moved (Got (Some b) ∷ []) to b (record s { input = rest }) placed (record { work = h.work; callers = h.callers; blocks = h.blocks })

  assigns_moved : (s : State) (assigns : List (Target × Right)) → AreWellFormedAssigns p l assigns → IsRunning s → Moved (AssignHasCause p.shapes s assigns) (comes_to [] (bundled p.shapes s assigns))
  assigns_moved s assigns w h =
      let C : Type 0 = AssignHasCause p.shapes s assigns in
      comes_moved C [] (bundled p.shapes s assigns) (fate_map C C (IsLater l s) IsRunning (bundled p.shapes s assigns) (bundled_fate p l formed.types s assigns h.blocks w) (λ c. c) (λ u k. later_running s u h k))

  -- a condition, or another value on which it depends how the run goes on
  value_moved : (s : State) (e : Expr) (f : Value → Move Event State) → HoldsProgram p l s.blocks s.next → IsWellFormedExpr p l e → ((v : Value) → Moved ⊥ (f v)) → Moved (HasCause (store_of p.shapes s) e) (and_moves (evaluated (store_of p.shapes s) e) f)
  value_moved s e f o w next = first_moved (HasCause (store_of p.shapes s) e) Any (evaluated (store_of p.shapes s) e) f (evaluated_fate p l formed.types s e o w) (λ v u. next v)

  if_moved : (b : Bool) (one two : Move Event State) → Moved ⊥ one → Moved ⊥ two → Moved ⊥ (if b then one else two)
  if_moved true one two h k = h
  if_moved false one two h k = k

  chosen_formed : (b : Bool) (one two : Code) → IsFormed p l one → IsFormed p l two → IsFormed p l (if b then two else one)
  chosen_formed true one two h k = k
  chosen_formed false one two h k = h

  looped_formed : (b : Bool) (one two : List Work) → AreFormed p l one → AreFormed p l two → AreFormed p l (if b then one else two)
  looped_formed true one two h k = h
  looped_formed false one two h k = k

  acts_moved : (s : State) (work : List Work) (c : Code) → IsRunning s → IsActing c → IsFormed p l c → AreFormed p l work → Moved (StatementHasCause p s work c) (acts p s work c)
  acts_moved s work (Assign spot target right rest) h a f w =
      assigns_moved (at_work s (Rest rest ∷ work)) ((target, right) ∷ []) (f.0.0, f.0.1, tt) (at_running s (Rest rest ∷ work) h ((f.0.2, f.1), w))
  acts_moved s work (Bundle spot assigns rest) h a f w = assigns_moved (at_work s (Rest rest ∷ work)) assigns f.0.0 (at_running s (Rest rest ∷ work) h ((f.0.1, f.1), w))
  acts_moved s work (Get spot target rest) h a f w =
      first_moved (TargetHasCause (store_of p.shapes s) target) (IsPlaced s.blocks) (aimed (store_of p.shapes s) target) (λ to. gets (at_work s (Rest rest ∷ work)) to s.input) (aimed_fate p l formed.types s target h.blocks f.0.0)
      (λ to placed. gets_moved (at_work s (Rest rest ∷ work)) to s.input placed (at_running s (Rest rest ∷ work) h ((f.0.1, f.1), w)))
  acts_moved s work (Put spot target e rest) h a f w =
      then_moved (TargetHasCause (store_of p.shapes s) target) (IsPlaced s.blocks) (λ to. HasCause (store_of p.shapes s) e) (aimed (store_of p.shapes s) target)
      (λ to. and_moves (evaluated (store_of p.shapes s) e) (λ v. puts (at_work s (Rest rest ∷ work)) to v.number)) (aimed_fate p l formed.types s target h.blocks f.0.0) (λ to is placed.
      value_moved s e (λ v. puts (at_work s (Rest rest ∷ work)) to v.number) h.blocks f.0.1
      (λ v. written_moved (Puts (v.number % 256) ∷ []) to (v.number % 256) (at_work s (Rest rest ∷ work)) placed (at_running s (Rest rest ∷ work) h ((f.0.2, f.1), w))))
  acts_moved s work (Call spot target callee es rest) h a f w =
      then_moved (OneHasCause (store_of p.shapes s) es) Any (EntryHasCause p (at_work s (Rest rest ∷ work)) target callee) (all_evaluated (store_of p.shapes s) es)
      (calls p (at_work s (Rest rest ∷ work)) target callee spot.at) (arguments_fate p l formed.types s es h.blocks f.0.2)
      (λ values is u. calls_moved (at_work s (Rest rest ∷ work)) target callee spot.at values _ f.0.1 f.0.0 (at_running s (Rest rest ∷ work) h ((f.0.3, f.1), w)))
  acts_moved s work (If spot e one two rest) h a f w =
      value_moved s e (λ v. Goes [] (at_work s (Rest (if v.number == 0 then two else one) ∷ Rest rest ∷ work))) h.blocks f.0.0
      (λ v. at_running s (Rest (if v.number == 0 then two else one) ∷ Rest rest ∷ work) h (chosen_formed (v.number == 0) one two (f.0.1, f.1.0) (f.0.2, f.1.1), ((f.0.3, f.1.2), w)))
  acts_moved s work (Loop spot e body step rest) h a f w =
      value_moved s e (λ v. Goes [] (at_work s (if v.number == 0 then Rest rest ∷ work else Rest body ∷ Turn (Loop spot e body step rest) ∷ work))) h.blocks f.0.0
      (λ v. at_running s (if v.number == 0 then Rest rest ∷ work else Rest body ∷ Turn (Loop spot e body step rest) ∷ work) h
      (looped_formed (v.number == 0) (Rest rest ∷ work) (Rest body ∷ Turn (Loop spot e body step rest) ∷ work) ((f.0.3, f.1.3), w) ((f.0.1, f.1.1), (tt, f, w))))
  acts_moved s work (Return spot e rest) h a f w =
      then_moved (HasCause (store_of p.shapes s) e) Any (λ v. ReturnHasCause p.shapes s s.callers v.number) (evaluated (store_of p.shapes s) e) (λ v. returns p.shapes s s.callers v.number)
      (evaluated_fate p l formed.types s e h.blocks f.0.0) (λ v is u. returns_moved s s.callers v.number h.blocks h.callers)
  acts_moved s work (Check spot e rest) h a f w =
      value_moved s e (λ v. if v.number == 0 then Halts [] (standing.Stopped check.Dynamic spot.at) else Goes [] (at_work s (Rest rest ∷ work))) h.blocks f.0.0
      (λ v. if_moved (v.number == 0) (Halts [] (standing.Stopped check.Dynamic spot.at)) (Goes [] (at_work s (Rest rest ∷ work))) tt (at_running s (Rest rest ∷ work) h ((f.0.1, f.1), w)))
  acts_moved s work End h a f w = absurd a
  acts_moved s work (Break rest) h a f w = absurd a
  acts_moved s work (Continue rest) h a f w = absurd a

  works_moved : (s : State) (work : List Work) → IsRunning s → AreReady p l work → Moved (WorkHasCause p s work) (works p s work)
  works_moved s [] h r = returns_moved s s.callers 0 h.blocks h.callers
  works_moved s (Rest c ∷ work) h r = acts_moved s work c h r.0 r.1 r.2
  works_moved s (Turn c ∷ work) h r = absurd r

  step_moved : (s : State) → IsRunning s → Moved (IsStuckForCause p s) (source_step p s)
  unfolding source_step
  step_moved s h = works_moved s (settled s.frame.work) h (settled_ready p l s.frame.work h.work)

  -- ---- runs

  run : (n : ℕ) (trace : List Event) (s : State) → IsRunning s → (shown (source_system p) n 0 trace s).standing ≡ standing.Stuck → IsStuckForCause p (state_after (source_system p) n 0 s)
  unfolding shown state_after
  run zero trace s h is = absurd cc
  run (suc n) trace s h is = by (source_step p s) (step_moved s h) (λ events u k. run n (trace ++ events) u k) is
    where
      by : (m : Move Event State) → Moved (IsStuckForCause p s) m
          → ((events : List Event) (u : State) → IsRunning u → (shown (source_system p) n 0 (trace ++ events) u).standing ≡ standing.Stuck → IsStuckForCause p (state_after (source_system p) n 0 u))
          → (after (λ events next. shown (source_system p) n 0 events next) trace m).standing ≡ standing.Stuck → IsStuckForCause p (moved_on (λ next. state_after (source_system p) n 0 next) s m)
      by (Goes events u) k more e = more events u k e
      by (Halts events standing.Stuck) k more e = k
      by (Halts events standing.Going) k more e = absurd cc
      by (Halts events (standing.Ended v)) k more e = absurd cc
      by (Halts events (standing.Stopped why at)) k more e = absurd cc
      by (Halts events (standing.Fault kind pc)) k more e = absurd cc

  first_running : (input : List ℕ) → IsRunning (first_state p input)
  first_running input = by (slice_get p.functions p.main) refl formed.main
    where
      by : (o : Option Function) → slice_get p.functions p.main ≡ o → HasParams 0 o → IsRunning (record (first_state p input) { frame = entered (function_at o) [] })
      by (Some f) is there = record {
        work = ((all_get (HasWellFormedBody p l) p.functions p.main f formed.bodies is, all_get HasStepsInBody p.functions p.main f formed.steps is), tt);
        callers = tt;
        blocks = record { there = kept_itself (map block_of p.objects); inside = first_inside p l formed.types formed.objects };
      }
      by None is there = absurd there

  pub stuck_for_cause : (input : List ℕ) (n : ℕ) → (source p input n).standing ≡ standing.Stuck → IsStuckForCause p (state_at (source_system p) (first_state p input) n)
  stuck_for_cause input n is = run n [] (first_state p input) (first_running input) is
