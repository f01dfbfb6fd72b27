-- Each step of a known text that assigns, calls or returns keeps a state sound.
use Rattle.std.proofs.Common.{◌≡◌, ℕ, List, [], ◌∷◌, subst, arith}
use Rattle.std.specs.Prelude.{◌<◌, ◌^◌, length, true, Option}
use Rattle.ckc_base.specs.declared.arithmetic.Mode.{Mode}
use Rattle.ckc_base.specs.declared.arithmetic.Mode.TheVariants.{Checked}
use Rattle.ckc_typed.specs.declared.typed.Typed.{Typed}
use Rattle.ckc_source.specs.declared.stmt.Kept.{Kept}
use Rattle.ckc_source.specs.declared.stmt.Spot.{Spot}
use Rattle.ckc_source.specs.Code.{Expr, Code, Assign, Bundle, Get, Put, Call, Return}
use Rattle.ckc_source.specs.Eval.{evaluated}
use Rattle.ckc_source.specs.States.{Work, Rest, State, settled}
use Rattle.ckc_source.specs.Steps.{source_step, spot_at, spot_of}
use Rattle.ckc_build_elaborate.specs.Elaborated.{elaborated}
use Rattle.ckc_blame_sound.specs.Calls.{store_in}
use Rattle.ckc_blame_sound.specs.Sound.{Sound}
use Rattle.ckc_blame_sound.specs.Moves.{IsSoundMove}
use Rattle.ckc_blame_control.specs.Decided.{IsDecided}
use Rattle.ckc_blame_control.specs.Whole.{KeepSound, assigns_or_calls}
use Rattle.ckc_blame_control.proofs.Faced.{faces_call, faces_return}
use Rattle.ckc_blame_control.proofs.Moved.{stands_ready}
use Rattle.ckc_blame_given.specs.ckc_blame_pointers.specs.Owed.{Runs}
use Rattle.ckc_blame_steps.proofs.Decided.{decided}
use Rattle.ckc_blame_steps.proofs.Known.{results_known}
use Rattle.ckc_blame_steps.proofs.Entering.{call_keeps}
use Rattle.ckc_blame_steps.proofs.Returned.{return_keeps, end_keeps}
use Rattle.ckc_blame_steps.proofs.Whole.{every_assignment}
use Rattle.ckc_blame_steps.proofs.Bundles.{every_bundle}
use Rattle.ckc_blame_steps.proofs.Allocations.{allocate_soundly}
use Rattle.ckc_blame_steps.proofs.ByteSteps.{every_get}
use Rattle.ckc_blame_steps.proofs.PutSteps.{every_put}
use Rattle.ckc_blame_steps.proofs.Callees.{callees_known}
use Rattle.ckc_blame_steps.proofs.ResultPoints.{results_lead_on, objects_keep_results}
use Rattle.ckc_blame_steps.proofs.SoundMoves.{soundly_checked}
use Rattle.ckc_blame_steps.specs.Known.{IsKnown}
use Rattle.ckc_blame_steps.specs.Unchecked.{StoresSafely, MovesSoundly}

module _ (p : Typed) (k : IsKnown p) (s : State) (h : Sound p s) where
  few : length h.setting.variables < 2 ^ 32
  few = let m = k.granted.few h.setting s.frame.function h.stands.function in omega (arith, m)

  -- a condition of checked code, and one of unchecked code that is not stuck, leads to a side that holds
  pub test_decided : (m : Mode) (e : Expr) → Runs m (evaluated (store_in p s.blocks s.frame) e) → IsDecided h.setting m (store_in p s.blocks s.frame) s.frame.entry e
  test_decided m e runs here one other c holds =
      decided p s h k.granted.judged k.granted.words few (k.granted.declares h.setting s.frame.function h.stands.function)
      (k.tests h.setting s.frame.function h.stands.function) m here one other e runs c holds

  mode_of_spot : (m : Mode) (code : Code) (next : List Work) → settled s.frame.work ≡ Rest code ∷ next → (spot_of s).mode ≡ m → (spot_at s.frame.function.end (Rest code ∷ next)).mode ≡ m
  mode_of_spot m code next is mode = subst (λ w. (spot_at s.frame.function.end w).mode ≡ m) is mode

  call_sound : (m : Mode) (spot : Spot) (target : Option Kept) (number : ℕ) (es : List Expr) (rest : Code) (next : List Work) → settled s.frame.work ≡ Rest (Call spot target number es rest) ∷ next
      → (spot_of s).mode ≡ m → MovesSoundly m p (source_step (elaborated p) s)
  call_sound m spot target number es rest next is mode =
      let f = faces_call h.setting (store_in p s.blocks s.frame) s.frame.entry s.frame.work next (stands_ready p s h) spot target number es rest is in
      let there : spot.mode ≡ m = mode_of_spot m (Call spot target number es rest) next is mode in
      call_keeps p s h k.granted.judged k.nested k.granted.few spot target number es rest next m there f f.judged.named (callees_known p k.granted.judged)
      (k.arguments m s h spot target number es (Rest rest ∷ next) f there) is

  return_sound : (m : Mode) (spot : Spot) (e : Expr) (rest : Code) (next : List Work) → settled s.frame.work ≡ Rest (Return spot e rest) ∷ next → (spot_of s).mode ≡ m
      → MovesSoundly m p (source_step (elaborated p) s)
  return_sound m spot e rest next is mode =
      let f = faces_return h.setting (store_in p s.blocks s.frame) s.frame.entry s.frame.work next (stands_ready p s h) spot e rest is in
      let there : spot.mode ≡ m = mode_of_spot m (Return spot e rest) next is mode in
      return_keeps p s h k.granted.judged k.granted.few (callees_known p k.granted.judged) (results_known p k.granted.judged) (results_lead_on p k.granted.judged k.granted.few k.spares) (objects_keep_results p k.granted.judged k.granted.few) spot e rest next m there f f.judged.named
      (k.returned m s h spot e (Rest rest ∷ next) f there) is

  -- the next step, if it assigns, calls or returns
  pub act_keeps : (m : Mode) (code : Code) (next : List Work) → settled s.frame.work ≡ Rest code ∷ next → (spot_of s).mode ≡ m → StoresSafely m code → assigns_or_calls code ≡ true
      → MovesSoundly m p (source_step (elaborated p) s)
  act_keeps m (Assign spot target right rest) next is mode safe there = every_assignment p s h spot target right rest next k.granted (allocate_soundly p k.granted.judged k.granted.parts k.granted.declares) is m mode safe
  act_keeps m (Bundle spot assigns rest) next is mode safe there = every_bundle p s h spot assigns rest next k.granted (allocate_soundly p k.granted.judged k.granted.parts k.granted.declares) is m mode safe
  act_keeps m (Get spot target rest) next is mode safe there = every_get p s h spot target rest next k.granted is m mode safe
  act_keeps m (Put spot target e rest) next is mode safe there = every_put p s h spot target e rest next k.granted is m mode safe
  act_keeps m (Call spot target number es rest) next is mode safe there = call_sound m spot target number es rest next is mode
  act_keeps m (Return spot e rest) next is mode safe there = return_sound m spot e rest next is mode
  act_keeps m code next is mode safe there = absurd (cc)

  -- a function that falls off its end
  pub fall_keeps : settled s.frame.work ≡ [] → IsSoundMove p (source_step (elaborated p) s)
  fall_keeps is =
      end_keeps p s h k.granted.judged k.granted.few (callees_known p k.granted.judged) (results_known p k.granted.judged) (results_lead_on p k.granted.judged k.granted.few k.spares) (objects_keep_results p k.granted.judged k.granted.few) is

pub known_keeps : (p : Typed) → IsKnown p → KeepSound p
known_keeps p k = record {
  conditions = λ s h code next e is mode there. test_decided p k s h Checked e tt;
  steps = λ s h code next is mode there. soundly_checked p (source_step (elaborated p) s) (act_keeps p k s h Checked code next is mode tt there);
  falls = λ s h caller callers is some mode. fall_keeps p k s h is;
}
