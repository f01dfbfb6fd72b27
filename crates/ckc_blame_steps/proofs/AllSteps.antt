-- Each step of a known text that stores through no unchecked pointer keeps a state sound.
use Rattle.std.proofs.Common.{◌≡◌, List, [], ◌∷◌, refl, sym, ap, subst, ◌∙◌}
use Rattle.std.specs.Prelude.{◌≢◌, ◌==◌, true, false, if◌then◌else◌, Option, Some, Result, Ok, Err}
use Rattle.ckc_base.specs.declared.arithmetic.Mode.{Mode}
use Rattle.ckc_base.specs.declared.arithmetic.Mode.TheVariants.{Checked, Unchecked}
use Rattle.ckc_base.specs.declared.runtime_checks.Check.TheVariants as check
use Rattle.ckc_base.specs.Steps.{Move, Goes, Halts}
use Rattle.ckc_base.specs.Traces.{Event, Stopped, Stuck}
use Rattle.ckc_typed.specs.declared.typed.Typed.{Typed}
use Rattle.ckc_source.specs.declared.outcome.Halt.{Halt}
use Rattle.ckc_source.specs.declared.outcome.Halt.TheVariants as halt
use Rattle.ckc_source.specs.declared.outcome.Value.{Value}
use Rattle.ckc_source.specs.Code.{Expr, Code, End, Assign, Bundle, Get, Put, Call, If, Loop, Break, Continue, Return, Check, Program}
use Rattle.ckc_source.specs.Eval.{evaluated}
use Rattle.ckc_source.specs.States.{Work, Rest, Turn, State, settled}
use Rattle.ckc_source.specs.Steps.{and_moves, at_work, acts, store_of, source_step, spot_in, spot_at, spot_of}
use Rattle.ckc_build_elaborate.specs.Elaborated.{elaborated}
use Rattle.ckc_blame_sound.specs.Sound.{Sound}
use Rattle.ckc_blame_sound.specs.Calls.{store_in}
use Rattle.ckc_blame_sound.specs.Moves.{IsSoundMove}
use Rattle.ckc_blame_control.specs.Ready.{is_step}
use Rattle.ckc_blame_control.specs.Whole.{condition_of}
use Rattle.ckc_blame_control.specs.Decided.{IsDecided}
use Rattle.ckc_blame_control.proofs.Settled.{ready_begins, ready_turns}
use Rattle.ckc_blame_control.proofs.Moved.{stands_ready}
use Rattle.ckc_blame_control.proofs.Conditions.{if_sound, loop_sound, check_sound}
use Rattle.ckc_blame_given.specs.ckc_blame_pointers.specs.Owed.{Owed, Runs}
use Rattle.ckc_blame_steps.specs.Known.{IsKnown}
use Rattle.ckc_blame_steps.specs.Unchecked.{stores_raw, stores_next, stores_unchecked, StoresSafely, MovesSoundly}
use Rattle.ckc_blame_steps.proofs.KeptSound.{test_decided, act_keeps, fall_keeps}
use Rattle.ckc_blame_steps.proofs.SoundMoves.{soundly, sound_unless_stuck, moves_by}

stores_safely : (m : Mode) (code : Code) → (m ≡ Unchecked → stores_raw code ≡ false) → StoresSafely m code
stores_safely Checked code h = tt
stores_safely Unchecked code h = h refl

-- a step is stuck if its condition is
stuck_condition : (q : Program) (s : State) (code : Code) (next : List Work) (e : Expr) → condition_of code ≡ Some e → evaluated (store_of q.shapes s) e ≡ Err halt.Stuck
    → acts q s next code ≡ Halts [] Stuck
stuck_condition q s code next e there value = by code there
  where
    stuck : (x : Expr) (f : Value → Move Event State) → ◌≡◌ {A = Option Expr} (Some x) (Some e) → and_moves (evaluated (store_of q.shapes s) x) f ≡ Halts [] Stuck
    stuck x f same = let is : x ≡ e = cc in ap (λ r. and_moves r f) (ap (evaluated (store_of q.shapes s)) is ∙ value)

    by : (code : Code) → condition_of code ≡ Some e → acts q s next code ≡ Halts [] Stuck
    by (If spot x one two rest) same = stuck x (λ v. Goes [] (at_work s (Rest (if v.number == 0 then two else one) ∷ Rest rest ∷ next))) same
    by (Loop spot x body step rest) same = stuck x (λ v. Goes [] (at_work s (if v.number == 0 then Rest rest ∷ next else Rest body ∷ Turn (Loop spot x body step rest) ∷ next))) same
    by (Check spot x rest) same = stuck x (λ v. if v.number == 0 then Halts [] (Stopped check.Dynamic spot.at) else Goes [] (at_work s (Rest rest ∷ next))) same
    by code same = absurd cc

module _ (p : Typed) (k : IsKnown p) (s : State) (h : Sound p s) (m : Mode) (mode : (spot_of s).mode ≡ m) (safe : m ≡ Unchecked → stores_unchecked s ≡ false) where
  abbrev Kept : Type 0
  Kept = MovesSoundly m p (source_step (elaborated p) s)

  module _ (code : Code) (next : List Work) (is : settled s.frame.work ≡ Rest code ∷ next) where
    mode_is : (spot_in s.frame.function.end code).mode ≡ m
    mode_is = ap (λ (w : List Work). (spot_at s.frame.function.end w).mode) (sym is) ∙ mode

    safe_here : StoresSafely m code
    safe_here = stores_safely m code (λ u. ap stores_next (sym is) ∙ safe u)

    -- a condition leads on, or its step is stuck
    decided : (e : Expr) → condition_of code ≡ Some e
        → (IsDecided h.setting (spot_in s.frame.function.end code).mode (store_in p s.blocks s.frame) s.frame.entry e → IsSoundMove p (source_step (elaborated p) s)) → Kept
    decided e there go = by m refl (evaluated (store_in p s.blocks s.frame) e) refl
      where
        goes : (n : Mode) → m ≡ n → Runs n (evaluated (store_in p s.blocks s.frame) e) → Kept
        goes n same runs =
            soundly m p (source_step (elaborated p) s)
            (go (subst (λ k. IsDecided h.setting k (store_in p s.blocks s.frame) s.frame.entry e) (sym (mode_is ∙ same)) (test_decided p k s h n e runs)))

        by : (n : Mode) → m ≡ n → (r : Result Value Halt) → evaluated (store_in p s.blocks s.frame) e ≡ r → Kept
        by Checked same r value = goes Checked same tt
        by Unchecked same (Ok v) value = goes Unchecked same (λ stuck. absurd cc)
        by Unchecked same (Err (halt.Stopped why at)) value = goes Unchecked same (λ stuck. absurd cc)
        by Unchecked same (Err halt.Stuck) value =
            moves_by m p s (Rest code ∷ next) is
            (subst (MovesSoundly m p) (sym (stuck_condition (elaborated p) s code next e there value)) (λ stuck. subst Owed (sym same) tt))

  by_code : (code : Code) (next : List Work) → settled s.frame.work ≡ Rest code ∷ next → is_step code ≡ true → Kept
  by_code End next is step = absurd (cc)
  by_code (Break rest) next is step = absurd (cc)
  by_code (Continue rest) next is step = absurd (cc)
  by_code (Assign spot target right rest) next is step = act_keeps p k s h m (Assign spot target right rest) next is mode (safe_here (Assign spot target right rest) next is) refl
  by_code (Bundle spot assigns rest) next is step = act_keeps p k s h m (Bundle spot assigns rest) next is mode (safe_here (Bundle spot assigns rest) next is) refl
  by_code (Get spot target rest) next is step = act_keeps p k s h m (Get spot target rest) next is mode (safe_here (Get spot target rest) next is) refl
  by_code (Put spot target e rest) next is step = act_keeps p k s h m (Put spot target e rest) next is mode (safe_here (Put spot target e rest) next is) refl
  by_code (Call spot target callee es rest) next is step = act_keeps p k s h m (Call spot target callee es rest) next is mode (safe_here (Call spot target callee es rest) next is) refl
  by_code (Return spot e rest) next is step = act_keeps p k s h m (Return spot e rest) next is mode (safe_here (Return spot e rest) next is) refl
  by_code (If spot e one two rest) next is step = decided (If spot e one two rest) next is e refl (λ d. if_sound p s h spot e one two rest next is d)
  by_code (Loop spot e body step rest) next is ok = decided (Loop spot e body step rest) next is e refl (λ d. loop_sound p s h spot e body step rest next is d)
  by_code (Check spot e rest) next is step = decided (Check spot e rest) next is e refl (λ d. check_sound p s h spot e rest next is d)

  by_work : (work : List Work) → settled s.frame.work ≡ work → Kept
  by_work [] is = soundly m p (source_step (elaborated p) s) (fall_keeps p k s h is)
  by_work (Rest code ∷ next) is =
      by_code code next is (ready_begins h.setting (store_in p s.blocks s.frame) s.frame.entry s.frame.work next code (stands_ready p s h) is).0
  by_work (Turn code ∷ next) is = absurd (ready_turns h.setting (store_in p s.blocks s.frame) s.frame.entry s.frame.work next code (stands_ready p s h) is)

  pub step_keeps : Kept
  step_keeps = by_work (settled s.frame.work) refl

-- a step of either mode that is not stuck
pub every_step : (p : Typed) → IsKnown p → (s : State) → Sound p s → stores_unchecked s ≡ false → ((events : List Event) → source_step (elaborated p) s ≢ Halts events Stuck)
    → IsSoundMove p (source_step (elaborated p) s)
every_step p k s h safe runs = sound_unless_stuck (spot_of s).mode p (source_step (elaborated p) s) (step_keeps p k s h (spot_of s).mode refl (λ unchecked. safe)) runs
