-- Bytes that are assigned keep states sound.
use Rattle.std.proofs.Common.{◌≡◌, inl, refl, sym, ap, subst, ◌∙◌, ℕ, ◌+◌, List, [], ◌∷◌, arith}
use Rattle.std.specs.Prelude.{◌<◌, ◌≤◌, ◌^◌, length, Result, Ok, Err}
use Rattle.std.specs.List.{All}
use Rattle.ckc_base.specs.declared.arithmetic.Mode.{Mode}
use Rattle.ckc_syntax.specs.declared.tree.Name.{Name}
use Rattle.ckc_syntax.specs.declared.tree.Node.{out-Node}
use Rattle.ckc_syntax.specs.declared.tree.Act.{Act-F, out-Act}
use Rattle.ckc_typed.specs.declared.typed.Note.{Note}
use Rattle.ckc_typed.specs.declared.typed.Typed.{Typed}
use Rattle.ckc_typed.specs.Trees.{NotedExpr, NotedStmt}
use Rattle.ckc_typed.specs.Types.{is_scalar}
use Rattle.ckc_blame_sound.specs.ckc_bounds_views.specs.Parts.{View, capped, fresh_behind}
use Rattle.ckc_blame_sound.specs.ckc_bounds_views.specs.Views.{view}
use Rattle.ckc_blame_sound.specs.ckc_bounds_stores.specs.declared.values.Numbered.{Numbered}
use Rattle.ckc_blame_sound.specs.ckc_bounds_stores.specs.Stores.{Placed, with_store, stores_of, numbered}
use Rattle.ckc_source.specs.declared.outcome.Halt.{Halt}
use Rattle.ckc_source.specs.declared.outcome.Halt.TheVariants as halt
use Rattle.ckc_source.specs.declared.outcome.Place.{Place}
use Rattle.ckc_source.specs.declared.program.Shape.{Shape}
use Rattle.ckc_source.specs.declared.stmt.Spot.{Spot}
use Rattle.ckc_source.specs.Code.{Target, Code, End}
use Rattle.ckc_source.specs.Eval.{given}
use Rattle.ckc_source.specs.States.{Work, State}
use Rattle.ckc_source.specs.Steps.{Write, Planned, store_of, aimed, allowed, writes, all_written, comes_to, writes_allowed, spot_in}
use Rattle.ckc_build_values.specs.Expressions.{literals_of}
use Rattle.ckc_build_elaborate.specs.Shapes.{shapes_elaborated}
use Rattle.ckc_build_elaborate.specs.Steps.{Destination, spot, destination_of, target_of, assigned}
use Rattle.ckc_build_elaborate.specs.Statements.{act_code}
use Rattle.ckc_blame_sound.specs.Calls.{store_in}
use Rattle.ckc_blame_sound.specs.Settings.{Setting, IsFunction}
use Rattle.ckc_blame_sound.specs.Sound.{Sound}
use Rattle.ckc_blame_sound.specs.Valuations.{Valuation}
use Rattle.ckc_blame_sound.proofs.Judging.{judged_typed}
use Rattle.ckc_blame_sound.proofs.Stepping.{parted, code_is, first_step}
use Rattle.ckc_blame_sound.specs.JudgedTexts.{globals_in}
use Rattle.ckc_blame_sound.proofs.Frames.{frames_agree}
use Rattle.ckc_blame_sound.proofs.SameViews.{same_view}
use Rattle.ckc_blame_control.specs.Ready.{Faces}
use Rattle.ckc_blame_given.specs.ckc_blame_pointers.specs.Owed.{Comes}
use Rattle.ckc_blame_given.proofs.Comes.{comes_as}
use Rattle.ckc_blame_given.specs.Planned.{IsPlanned, ArePlanned}
use Rattle.ckc_blame_given.specs.Written.{IsFitting, IsReceived}
use Rattle.ckc_blame_given.specs.Stored.{IsAssignJudged, AreAssignsJudged, AreStored}
use Rattle.ckc_blame_given.proofs.Calls.{call_received}
use Rattle.ckc_blame_given.proofs.Fitting.{step_fits, same_type}
use Rattle.ckc_blame_given.proofs.Stored.{assignment_stored}
use Rattle.ckc_blame_given.specs.Targets.{GoesThere, IsCoveredTarget}
use Rattle.ckc_blame_given.specs.Together.{AreTogether, AreIn}
use Rattle.ckc_blame_given.proofs.Aims.{judged_aims}
use Rattle.ckc_blame_steps.specs.Granted.{IsGranted, IsCoveredRight, IsCoveredAct, HaveRoomSides, HasRoomAct}
use Rattle.ckc_blame_steps.specs.Plans.{IsAt, IsSoundPlan}
use Rattle.ckc_blame_steps.specs.Unchecked.{StoresSafely, MovesSoundly}
use Rattle.ckc_blame_steps.proofs.Bytes.{IsByteStep, IsByteCall, byte_call, own_bare, zeros, zeros_are, zeros_numbers}
use Rattle.ckc_blame_steps.proofs.Comes.{allowed_comes, stops_soundly, same_state}
use Rattle.ckc_blame_steps.proofs.Strings.{sides_strings}
use Rattle.ckc_blame_steps.proofs.Plans.{AreFit}
use Rattle.ckc_blame_steps.proofs.Landings.{Lands}
use Rattle.ckc_blame_steps.proofs.Steps.{covered_there, known, free, row_of, side_fits, typed_act, typed_sides}
use Rattle.ckc_blame_steps.proofs.Stores.{planning, is_at, written_sound}

-- one write is all of them
one_written : (m : Mode) (p : Typed) (w : Write) (b : State) → MovesSoundly m p (comes_to [] (all_written (w ∷ []) b)) → MovesSoundly m p (comes_to [] (writes w.0 w.1 b))
one_written m p w b = by (writes w.0 w.1 b)
  where
    by : (r : Result State Halt) → MovesSoundly m p (comes_to [] (given r (all_written []))) → MovesSoundly m p (comes_to [] r)
    by (Ok s) h = h
    by (Err (halt.Stopped why at)) h = h
    by (Err halt.Stuck) h = h

further : (n m : ℕ) → n < 2 ^ 32 → n ≤ capped n m
further n m h = omega arith

module _ (p : Typed) (g : IsGranted p) (st : State) (h : Sound p st) (step : Code → Code) (next : List Work) (f : Faces h.setting (store_in p st.blocks st.frame) st.frame.entry step next)
    (m : Mode) (end : Spot) (mode : (spot_in end (step End)).mode ≡ m) (safe : StoresSafely m (step End)) (e x : NotedExpr) (is : out-Act Name Note f.judged.before.body ≡ Act-F.Assign e x) where
  abbrev s : Setting
  s = h.setting

  abbrev function : IsFunction p s st.frame.function
  function = h.stands.function

  abbrev shapes : List Shape
  shapes = shapes_elaborated p.layout

  abbrev b : State
  b = planning p g st h step next f

  at_b : IsAt s shapes st.frame.entry f.here b
  at_b = is_at p g st h step next f

  abbrev afters : List NotedStmt
  afters = f.judged.after ∷ []

  made : AreAssignsJudged s f.here.at f.here.next (f.judged.before ∷ []) afters × AreStored s f.here afters f.judged.behind
  made = assignment_stored s f.here f.judged.behind f.judged.before f.judged.after e x f.judged.counting is f.judged.judged

  pub one : IsAssignJudged s f.here.at f.here.next f.judged.before f.judged.after
  unfolding AreAssignsJudged
  one = made.0.0

  abbrev place : NotedExpr
  place = one.place

  abbrev value : NotedExpr
  value = one.value

  pub covered : IsCoveredTarget m s (store_of shapes b) f.here.seen place (out-Node Name Note place.node) × IsCoveredRight m s (store_of shapes b) f.here.seen place.note.ctype value (out-Node Name Note value.node)
  covered = subst (IsCoveredAct m s (store_of shapes b) f.here.seen) one.becomes (covered_there p g st h step next f m end mode safe b at_b)

  pub fit : AreFit (globals_in p) s (Act-F.Assign one.target one.right)
  fit =
      subst (AreFit (globals_in p) s) one.is
      (side_fits p g st h step next f f.judged.inside.mode f.judged.inside.looped (out-Act Name Note f.judged.before.body) e x is
      (typed_sides p g st h step next f (out-Act Name Note f.judged.before.body) e x is (typed_act p g st h step next f))
      (row_of p g st h step next f f.judged.before f.judged.inside.mode f.judged.inside.looped f.judged.inside.typed))

  pub room : HaveRoomSides s.frame f.here.at 0 f.here.next place value
  room = subst (HasRoomAct s.frame f.here.at f.here.next) one.becomes (g.room s st.frame.function f.here f.exits.ends step function f.judged)

  fitting : All (IsFitting s) (numbered s.frame f.here.at 0 f.here.next (stores_of afters))
  fitting =
      step_fits p s st.frame.function g.judged function f.judged.before f.judged.inside (f.judged.before ∷ []) afters f.here.at f.here.next (inl refl) made.0 f.here.at 0 f.here.next

  together : (locals : List ℕ) → AreTogether s locals (numbered s.frame f.here.at 0 f.here.next (stores_of afters))
  together locals = inl (subst (λ y. length (numbered s.frame f.here.at 0 f.here.next (with_store y f.judged.after.pos [])) ≡ 1) (sym one.becomes) refl)

  abbrev from : Numbered
  from = record { value = 0; fresh = fresh_behind (view s.frame place) f.here.next f.here.at }

  abbrev placed : Placed
  placed = record { target = place; right = value; pos = f.judged.after.pos; from = from }

  abbrev zero : Valuation
  zero = zeros s b.frame.locals f.here.next (known p g st h step next f).fresh

  abbrev to : Destination
  to = destination_of s.text s.variables f.judged.literals place

  -- what the step is
  pub code_there : assigned s.text s.variables (spot f.judged.after.pos f.judged.after.note.mode) to (f.judged.literals + literals_of place) value End ≡ step End
  code_there =
      let code : act_code (parted (Act-F.Assign place value)) f.judged.after.pos f.judged.after.note.mode s.text s.variables s.result f.judged.literals ≡ step ∷ [] =
      ap (λ y. act_code (parted y) f.judged.after.pos f.judged.after.note.mode s.text s.variables s.result f.judged.literals) (sym one.becomes)
      ∙ sym (code_is s f.judged.literals f.judged.after) ∙ f.judged.becomes in
      first_step (assigned s.text s.variables (spot f.judged.after.pos f.judged.after.note.mode) to (f.judged.literals + literals_of place) value) step code

  pub fresh_is : from.fresh ≡ fresh_behind (view s.frame one.target) f.here.next f.here.at
  fresh_is = ap (λ (v : View). fresh_behind v f.here.next f.here.at) (same_view s.frame one.target place f.here.next f.here.at one.target_judged s.frame)

  module _ (target : Target) (byte : IsByteStep (step End) target) where
    call : IsByteCall s (spot f.judged.after.pos f.judged.after.note.mode) to (f.judged.literals + literals_of place) target value
    call =
        byte_call s (spot f.judged.after.pos f.judged.after.note.mode) to (f.judged.literals + literals_of place) target value
        (subst (λ (y : Code). IsByteStep y target) (sym code_there) byte)

    received : (n : ℕ) → n < 2 ^ 32 → IsReceived s (store_of shapes b) zero f.here.at place.note.ctype value from n
    received n small =
        let typed = judged_typed (globals_in p) s one.right value (fresh_behind (view s.frame one.target) f.here.next f.here.at) f.here.at fit.1 one.right_judged in
        call_received s (store_of shapes b) zero f.here.at place.note.ctype value from n call.callee call.args call.is small
        (own_bare p s value call.callee call.args typed.0 call.is call.own)
        (λ d. zeros_numbers s b.frame.locals f.here.next (known p g st h step next f).fresh from.fresh ((view s.frame value).fresh f.here.at)
        (further f.here.next (length ((view s.frame place).fresh f.here.at)) (known p g st h step next f).word) room.right.variables)

    module _ (n : ℕ) (small : n < 2 ^ 32) (w : Place) (goes : GoesThere s (store_of shapes b) placed n w) where
      abbrev plan : Planned
      plan = record { writes = (w, n) ∷ []; state = b }

      front : IsPlanned s (store_of shapes b) (store_of shapes b) zero f.here.at placed (w, n)
      front =
          let r = received n small in
          record { target = goes.target; written = goes.written; word = small; from = r.gives; form = r.form }

      planned_one : IsSoundPlan s shapes st.frame.entry f.here b (placed ∷ []) 0 f.here.next zero plan
      unfolding ArePlanned AreIn
      planned_one = record {
        grown = same_state b;
        at = at_b;
        after = zero;
        values = zeros_are s b.frame.locals f.here.next (known p g st h step next f).fresh;
        continues = record { address = λ m k. refl; number = λ m k. refl };
        planned = (front, tt);
        lies = (goes.lies, tt);
      }

      is_plan : IsSoundPlan s shapes st.frame.entry f.here b (numbered s.frame f.here.at 0 f.here.next (stores_of afters)) 0 f.here.next zero plan
      is_plan =
          subst (λ y. IsSoundPlan s shapes st.frame.entry f.here b (numbered s.frame f.here.at 0 f.here.next (with_store y f.judged.after.pos [])) 0 f.here.next zero plan) (sym one.becomes)
          planned_one

      write_sound : MovesSoundly m p (comes_to [] (writes w n b))
      write_sound =
          one_written m p (w, n) b (written_sound p g st h step next f afters 0 f.here.next made.1 plan zero is_plan fitting (together b.frame.locals) m)

    -- what may be written is written
    allowed_sound : (to : Place) → ((n : ℕ) (w : Place) → n < 2 ^ 32 → allowed to n ≡ Ok w → GoesThere s (store_of shapes b) placed n w) → (n : ℕ) → n < 2 ^ 32
        → MovesSoundly m p (comes_to [] (writes_allowed to n b))
    allowed_sound to goes n small = by (allowed to n) (allowed_comes m to n) (λ w is. goes n w small is)
      where
        by : (r : Result Place Halt) → Comes m (λ w. allowed to n ≡ Ok w) r → ((w : Place) → allowed to n ≡ Ok w → GoesThere s (store_of shapes b) placed n w)
            → MovesSoundly m p (comes_to [] (given r (λ w. writes w n b)))
        by (Ok w) c goes = write_sound n small w (goes w c)
        by (Err (halt.Stopped why at)) c goes = stops_soundly m why at
        by (Err halt.Stuck) c goes = λ e. c

    abbrev AllGo : Place → Type 0
    AllGo to = (n : ℕ) (w : Place) → n < 2 ^ 32 → allowed to n ≡ Ok w → GoesThere s (store_of shapes b) placed n w

    aims : Comes m AllGo (aimed (store_of shapes b) (target_of s.text s.variables f.judged.literals place))
    aims =
        judged_aims m (globals_in p) s (frames_agree p s st.frame.function g.judged function) (g.declares s st.frame.function function) (store_of shapes b) st.frame.entry b.next at_b.ready f.here
        (free p g st h step next f) one.target placed f.here.next f.judged.literals
        (subst (λ (v : View). f.here.next + length (v.fresh f.here.at) < 2 ^ 32) (same_view s.frame one.target place f.here.next f.here.at one.target_judged s.frame) room.left.variables)
        (known p g st h step next f).fresh fit.0 one.target_judged (ap is_scalar (same_type s.frame one.target place f.here.next f.here.at one.target_judged) ∙ fit.3) covered.0
        (sides_strings s f.judged.literals f.judged.after f.judged.strings place value one.becomes).0 at_b.holds

    pub assign_lands : Lands m p b (aimed (store_of shapes b) target)
    assign_lands =
        subst (λ (t : Target). Lands m p b (aimed (store_of shapes b) t)) (sym call.target_is)
        (comes_as m AllGo (λ to. (n : ℕ) → n < 2 ^ 32 → MovesSoundly m p (comes_to [] (writes_allowed to n b)))
        (aimed (store_of shapes b) (target_of s.text s.variables f.judged.literals place)) aims (λ to there. allowed_sound to))
