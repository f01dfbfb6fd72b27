-- Each checked step keeps a state sound if the single ones do.
use Rattle.std.proofs.Common.{◌≡◌, List, [], ◌∷◌, refl, sym, ap, subst, ◌∙◌}
use Rattle.std.specs.Prelude.{true, Option, Some}
use Rattle.ckc_base.specs.declared.arithmetic.Mode.TheVariants.{Checked}
use Rattle.ckc_typed.specs.declared.typed.Typed.{Typed}
use Rattle.ckc_source.specs.Code.{Expr, Code, End, Assign, Bundle, Get, Put, Call, If, Loop, Break, Continue, Return, Check}
use Rattle.ckc_source.specs.States.{Work, Rest, Turn, Caller, State, settled}
use Rattle.ckc_source.specs.Steps.{source_step, spot_in, spot_at, spot_of}
use Rattle.ckc_build_elaborate.specs.Elaborated.{elaborated}
use Rattle.ckc_blame_sound.specs.Sound.{Sound}
use Rattle.ckc_blame_sound.specs.Calls.{store_in}
use Rattle.ckc_blame_sound.specs.Moves.{IsSoundMove, StaysSound}
use Rattle.ckc_blame_control.specs.Ready.{is_step}
use Rattle.ckc_blame_control.specs.Whole.{condition_of, KeepSound}
use Rattle.ckc_blame_control.specs.Decided.{IsDecided}
use Rattle.ckc_blame_control.proofs.Settled.{ready_begins, ready_turns}
use Rattle.ckc_blame_control.proofs.Moved.{ended, stands_ready, first_ends}
use Rattle.ckc_blame_control.proofs.Conditions.{if_sound, loop_sound, check_sound}

module _ (p : Typed) (keep : KeepSound p) (s : State) (h : Sound p s) (checked : (spot_of s).mode ≡ Checked) where
  abbrev IsSoundStep : Type 0
  IsSoundStep = IsSoundMove p (source_step (elaborated p) s)

  mode_is : (code : Code) (next : List Work) → settled s.frame.work ≡ Rest code ∷ next → (spot_in s.frame.function.end code).mode ≡ Checked
  mode_is code next is = ap (λ (w : List Work). (spot_at s.frame.function.end w).mode) (sym is) ∙ checked

  decided : (code : Code) (next : List Work) (e : Expr) → settled s.frame.work ≡ Rest code ∷ next → condition_of code ≡ Some e
      → IsDecided h.setting (spot_in s.frame.function.end code).mode (store_in p s.blocks s.frame) s.frame.entry e
  decided code next e is there =
      subst (λ m. IsDecided h.setting m (store_in p s.blocks s.frame) s.frame.entry e) (sym (mode_is code next is)) (keep.conditions s h code next e is checked there)

  by_code : (code : Code) (next : List Work) → settled s.frame.work ≡ Rest code ∷ next → is_step code ≡ true → IsSoundStep
  by_code End next is step = absurd (cc)
  by_code (Break rest) next is step = absurd (cc)
  by_code (Continue rest) next is step = absurd (cc)
  by_code (Assign spot target right rest) next is step = keep.steps s h (Assign spot target right rest) next is checked refl
  by_code (Bundle spot assigns rest) next is step = keep.steps s h (Bundle spot assigns rest) next is checked refl
  by_code (Get spot target rest) next is step = keep.steps s h (Get spot target rest) next is checked refl
  by_code (Put spot target e rest) next is step = keep.steps s h (Put spot target e rest) next is checked refl
  by_code (Call spot target callee es rest) next is step = keep.steps s h (Call spot target callee es rest) next is checked refl
  by_code (Return spot e rest) next is step = keep.steps s h (Return spot e rest) next is checked refl
  by_code (If spot e one two rest) next is step = if_sound p s h spot e one two rest next is (decided (If spot e one two rest) next e is refl)
  by_code (Loop spot e body step rest) next is ok = loop_sound p s h spot e body step rest next is (decided (Loop spot e body step rest) next e is refl)
  by_code (Check spot e rest) next is step = check_sound p s h spot e rest next is (decided (Check spot e rest) next e is refl)

  by_callers : (callers : List Caller) → s.callers ≡ callers → settled s.frame.work ≡ [] → IsSoundStep
  by_callers [] none is = subst (IsSoundMove p) (sym (first_ends p s is none)) (ended 0)
  by_callers (caller ∷ callers) some is = keep.falls s h caller callers is some checked

  by_work : (work : List Work) → settled s.frame.work ≡ work → IsSoundStep
  by_work [] is = by_callers s.callers refl is
  by_work (Rest code ∷ next) is =
      by_code code next is (ready_begins h.setting (store_in p s.blocks s.frame) s.frame.entry s.frame.work next code (stands_ready p s h) is).0
  by_work (Turn code ∷ next) is = absurd (ready_turns h.setting (store_in p s.blocks s.frame) s.frame.entry s.frame.work next code (stands_ready p s h) is)

  step_sound : IsSoundStep
  step_sound = by_work (settled s.frame.work) refl

pub steps_sound : (p : Typed) → KeepSound p → StaysSound p
steps_sound p keep s h checked = step_sound p keep s h checked
