-- Conditions keep a state sound: `if`, loops and dynamic checks.
use Rattle.std.proofs.Common.{◌≡◌, ℕ, List, [], ◌∷◌}
use Rattle.std.specs.Prelude.{◌==◌, Bool, true, false, if◌then◌else◌, Result, Ok, Err}
use Rattle.ckc_base.specs.declared.arithmetic.Mode.{Mode}
use Rattle.ckc_base.specs.Steps.{Move, Goes, Halts}
use Rattle.ckc_base.specs.Traces.{Event, Stopped}
use Rattle.ckc_base.specs.declared.runtime_checks.Check.TheVariants as check
use Rattle.ckc_typed.specs.declared.typed.Typed.{Typed}
use Rattle.ckc_blame_sound.specs.ckc_bounds_statements.specs.Paths.{Here}
use Rattle.ckc_source.specs.declared.outcome.Halt.{Halt}
use Rattle.ckc_source.specs.declared.outcome.Halt.TheVariants as halt
use Rattle.ckc_source.specs.declared.outcome.Value.{Value}
use Rattle.ckc_source.specs.declared.stmt.Spot.{Spot}
use Rattle.ckc_source.specs.Code.{Code, Expr, If, Loop, Check}
use Rattle.ckc_source.specs.Eval.{Store, evaluated}
use Rattle.ckc_source.specs.States.{Work, Rest, Turn, State, settled}
use Rattle.ckc_source.specs.Steps.{and_moves, at_work, source_step}
use Rattle.ckc_build_elaborate.specs.Elaborated.{elaborated}
use Rattle.ckc_blame_sound.specs.Settings.{Setting}
use Rattle.ckc_blame_sound.specs.Points.{HoldsAt, GoesTo}
use Rattle.ckc_blame_sound.specs.Judged.{Exits, ending, Branches, Turns, IsLoop, Judged, JudgedWork}
use Rattle.ckc_blame_sound.specs.Calls.{store_in}
use Rattle.ckc_blame_sound.specs.Sound.{Sound}
use Rattle.ckc_blame_sound.proofs.Kept.{point_kept}
use Rattle.ckc_blame_sound.specs.Moves.{IsSoundMove}
use Rattle.ckc_blame_control.specs.Ready.{IsReady, Begins, Faces}
use Rattle.ckc_blame_control.specs.Decided.{LeadsTo, IsDecided}
use Rattle.ckc_blame_control.proofs.Settled.{stays, ready_begins}
use Rattle.ckc_blame_control.proofs.Checks.{Tests, check_tests}
use Rattle.ckc_blame_control.proofs.Faced.{faces_check}
use Rattle.ckc_blame_control.proofs.Moved.{stopped, stands_ready, sound_at, move_by}

module _ (s : Setting) (store : Store) (entry : List ℕ) where
  abbrev Holds : Here → Type 0
  Holds here = HoldsAt s store entry here

  -- a move of a value leads to a sound state if it does on each side that holds
  decided_moves : (p : Typed) (one other : Here) (r : Result Value Halt) (f : Value → Move Event State) → LeadsTo s store entry one other r
      → ((v : Value) → Holds (if v.number == 0 then other else one) → IsSoundMove p (f v)) → IsSoundMove p (and_moves r f)
  decided_moves p one other (Ok v) f h go = go v h
  decided_moves p one other (Err (halt.Stopped why at)) f h go = stopped why at
  decided_moves p one other (Err halt.Stuck) f h go = absurd h

  -- ---- `if`

  -- a branch comes next, and then what comes after both
  branch_ready : (code rest : Code) (next : List Work) (exits : Exits) (here behind : Here) → Judged s code (ending exits behind) here → Judged s rest exits behind → JudgedWork s next exits
      → Holds here → IsReady s store entry (Rest code ∷ Rest rest ∷ next)
  unfolding JudgedWork
  branch_ready code rest next exits here behind j k w h = record { exits = ending exits here; work = (behind, j, (exits.ends, k, w)); holds = h }

  if_ready : (one two rest : Code) (next : List Work) (exits : Exits) → JudgedWork s next exits
      → (b : Branches) → Judged s one (ending exits b.behind) b.yes → GoesTo s.frame b.no b.other → Judged s two (ending exits b.behind) b.other → Judged s rest exits b.behind
      → (zero : Bool) → Holds (if zero then b.no else b.yes) → IsReady s store entry (Rest (if zero then two else one) ∷ Rest rest ∷ next)
  if_ready one two rest next exits w b j goes k r true h = branch_ready two rest next exits b.other b.behind k r w (point_kept s store entry b.no b.other goes h)
  if_ready one two rest next exits w b j goes k r false h = branch_ready one rest next exits b.yes b.behind j r w h

  -- ---- loops

  -- the body comes next and then a turn of the loop, or what comes after the loop
  loop_ready : (spot : Spot) (e : Expr) (body step rest : Code) (next : List Work) (exits : Exits) (l : Turns) → IsLoop s spot.mode e l (Judged s body) (Judged s step)
      → Judged s rest exits l.behind → JudgedWork s next exits → (zero : Bool) → Holds (if zero then l.no else l.yes)
      → IsReady s store entry (if zero then Rest rest ∷ next else Rest body ∷ Turn (Loop spot e body step rest) ∷ next)
  unfolding JudgedWork
  loop_ready spot e body step rest next exits l parts r w true h =
      record { exits = ending exits l.behind; work = (exits.ends, r, w); holds = point_kept s store entry l.no l.behind parts.1 h }
  loop_ready spot e body step rest next exits l parts r w false h = record {
    exits = record { ends = l.yes; breaks = l.behind; continues = l.step };
    work = (l.step, parts.2, (l, exits, (parts, stays s l.step, stays s l.step, stays s l.behind, r), w));
    holds = h;
  }

module _ (p : Typed) (s : State) (h : Sound p s) where
  abbrev store : Store
  store = store_in p s.blocks s.frame

  abbrev ReadyAt : List Work → Type 0
  ReadyAt next = IsReady h.setting store s.frame.entry next

  abbrev IsDecidedHere : Mode → Expr → Type 0
  IsDecidedHere mode e = IsDecided h.setting mode store s.frame.entry e

  front : (next : List Work) (code : Code) → settled s.frame.work ≡ Rest code ∷ next → Begins h.setting store s.frame.entry code next
  front next code is = (ready_begins h.setting store s.frame.entry s.frame.work next code (stands_ready p s h) is).1

  pub if_sound : (spot : Spot) (e : Expr) (one two rest : Code) (next : List Work) → settled s.frame.work ≡ Rest (If spot e one two rest) ∷ next → IsDecidedHere spot.mode e
      → IsSoundMove p (source_step (elaborated p) s)
  unfolding Judged
  if_sound spot e one two rest next is d =
      let b : Begins h.setting store s.frame.entry (If spot e one two rest) next = front next (If spot e one two rest) is in
      move_by p s (Rest (If spot e one two rest) ∷ next) is
      (decided_moves h.setting store s.frame.entry p b.judged.0.yes b.judged.0.no (evaluated store e)
      (λ v. Goes [] (at_work s (Rest (if v.number == 0 then two else one) ∷ Rest rest ∷ next)))
      (d b.here b.judged.0.yes b.judged.0.no b.judged.1 b.holds)
      (λ v g.
      sound_at p s h (Rest (if v.number == 0 then two else one) ∷ Rest rest ∷ next)
      (if_ready h.setting store s.frame.entry one two rest next b.exits b.work b.judged.0 b.judged.2 b.judged.3 b.judged.4 b.judged.5 (v.number == 0) g)))

  pub loop_sound : (spot : Spot) (e : Expr) (body step rest : Code) (next : List Work) → settled s.frame.work ≡ Rest (Loop spot e body step rest) ∷ next → IsDecidedHere spot.mode e
      → IsSoundMove p (source_step (elaborated p) s)
  unfolding Judged
  loop_sound spot e body step rest next is d =
      let loop : Code = Loop spot e body step rest in
      let b : Begins h.setting store s.frame.entry loop next = front next loop is in
      move_by p s (Rest loop ∷ next) is
      (decided_moves h.setting store s.frame.entry p b.judged.0.yes b.judged.0.no (evaluated store e)
      (λ v. Goes [] (at_work s (if v.number == 0 then Rest rest ∷ next else Rest body ∷ Turn loop ∷ next)))
      (d b.judged.0.head b.judged.0.yes b.judged.0.no b.judged.2.0 (point_kept h.setting store s.frame.entry b.here b.judged.0.head b.judged.1 b.holds))
      (λ v g.
      sound_at p s h (if v.number == 0 then Rest rest ∷ next else Rest body ∷ Turn loop ∷ next)
      (loop_ready h.setting store s.frame.entry spot e body step rest next b.exits b.judged.0 b.judged.2 b.judged.3 b.work (v.number == 0) g)))

  pub check_sound : (spot : Spot) (e : Expr) (rest : Code) (next : List Work) → settled s.frame.work ≡ Rest (Check spot e rest) ∷ next → IsDecidedHere spot.mode e
      → IsSoundMove p (source_step (elaborated p) s)
  check_sound spot e rest next is d =
      let f : Faces h.setting store s.frame.entry (Check spot e) (Rest rest ∷ next) = faces_check h.setting store s.frame.entry s.frame.work next (stands_ready p s h) spot e rest is in
      let t : Tests h.setting spot.mode f.here e f.exits.ends = check_tests h.setting f.here f.exits.ends spot e f.judged in
      let go : HoldsAt h.setting store s.frame.entry t.one → Sound p (at_work s (Rest rest ∷ next)) =
      λ g. sound_at p s h (Rest rest ∷ next) (record { exits = f.exits; work = f.work; holds = point_kept h.setting store s.frame.entry t.one f.exits.ends t.goes g }) in
      move_by p s (Rest (Check spot e rest) ∷ next) is
      (decided_moves h.setting store s.frame.entry p t.one t.other (evaluated store e)
      (λ v. if v.number == 0 then Halts [] (Stopped check.Dynamic spot.at) else Goes [] (at_work s (Rest rest ∷ next)))
      (d f.here t.one t.other t.is f.holds)
      (λ v g. by (v.number == 0) t go g))
    where
      by : (zero : Bool) {mode : Mode} {here there : Here} (t : Tests h.setting mode here e there) → (HoldsAt h.setting store s.frame.entry t.one → Sound p (at_work s (Rest rest ∷ next)))
          → HoldsAt h.setting store s.frame.entry (if zero then t.other else t.one)
          → IsSoundMove p (if zero then Halts [] (Stopped check.Dynamic spot.at) else Goes [] (at_work s (Rest rest ∷ next)))
      by true t go g = stopped check.Dynamic spot.at
      by false t go g = go g
