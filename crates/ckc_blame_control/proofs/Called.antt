-- A call waits for the one that it enters, and stands again after that.
use Rattle.std.proofs.Common.{◌≡◌, ℕ, ◌+◌, List, [], ◌∷◌, sym, subst, arith}
use Rattle.std.specs.Prelude.{◌≤◌, length, map, true, slice_get, Option, Some}
use Rattle.std.proofs.lemmas.Bool.Decides.{nat_tests}
use Rattle.ckc_base.specs.Activations.{has_room}
use Rattle.ckc_base.specs.Lists.{AreBytes}
use Rattle.ckc_typed.specs.declared.typed.Typed.{Typed}
use Rattle.ckc_blame_sound.specs.ckc_bounds_views.specs.Views.{view}
use Rattle.ckc_source.specs.declared.stmt.Kept.{Kept}
use Rattle.ckc_source.specs.declared.stmt.Spot.{Spot}
use Rattle.ckc_source.specs.Blocks.{Block}
use Rattle.ckc_source.specs.Code.{Expr, Function, Call}
use Rattle.ckc_source.specs.States as states
use Rattle.ckc_source.specs.States.{Work, Rest, Caller, State, active, entered}
use Rattle.ckc_build_elaborate.specs.Functions.{functions_elaborated}
use Rattle.ckc_build_elaborate.specs.Shapes.{shapes_elaborated}
use Rattle.ckc_blame_sound.specs.Settings.{Setting, IsFunction}
use Rattle.ckc_blame_sound.specs.Points.{HoldsAt}
use Rattle.ckc_blame_sound.specs.Judged.{JudgedWork}
use Rattle.ckc_blame_sound.specs.Calls.{store_in, arguments_of, head_of, ArePassed, Waits, AreWaiting}
use Rattle.ckc_blame_sound.specs.Slots.{AreFilled}
use Rattle.ckc_blame_sound.specs.Sound.{Sound}
use Rattle.ckc_blame_sound.specs.Cells.{AreSound}
use Rattle.ckc_blame_control.specs.Ready.{IsReady, Faces}
use Rattle.ckc_blame_control.specs.Kept.{KeepRanges, IsBack, inside}
use Rattle.ckc_blame_control.proofs.Kept.{waiting_kept}

pub call_waits : (p : Typed) (blocks : List Block) (s called : Setting) (frame : states.Frame) (spot : Spot) (target : Option Kept) (number : ℕ) (es : List Expr) (next : List Work) (callee : Function)
    (entry : List ℕ) (f : Faces s (store_in p blocks frame) frame.entry (Call spot target number es) next) → IsFunction p s frame.function → slice_get (functions_elaborated p) number ≡ Some callee
    → head_of s.frame f.judged.before ≡ Some called.head → ((n : ℕ) → ArePassed s called f.here frame.locals entry (map (view s.frame) (arguments_of f.judged.before)) n)
    → Waits p blocks (record { frame = record frame { work = next }; target = target }) s called callee entry
call_waits p blocks s called frame spot target number es next callee entry f function calls head passed = record {
  function = function;
  spot = spot;
  number = number;
  arguments = es;
  at = f.here;
  exits = f.exits;
  call = f.judged;
  calls = calls;
  work = f.work;
  holds = f.holds;
  head = head;
  passed = passed;
}

room_left : (n : ℕ) → has_room (n + 1) ≡ true → n + 1 ≤ 1023
room_left n h = grind (arith, nat_tests)

pub entered_sound : (p : Typed) (s : State) (h : Sound p s) (called : Setting) (spot : Spot) (target : Option Kept) (number : ℕ) (es : List Expr) (next : List Work) (callee : Function)
    (values : List ℕ) (f : Faces h.setting (store_in p s.blocks s.frame) s.frame.entry (Call spot target number es) next) → has_room (active s) ≡ true
    → slice_get (functions_elaborated p) number ≡ Some callee → IsFunction p called callee
    → head_of h.setting.frame f.judged.before ≡ Some called.head → ((n : ℕ) → ArePassed h.setting called f.here s.frame.locals values (map (view h.setting.frame) (arguments_of f.judged.before)) n)
    → IsReady called (store_in p s.blocks (entered callee values)) values (Rest callee.body ∷ []) → Sound p (inside s next target callee values)
unfolding AreWaiting
entered_sound p s h called spot target number es next callee values f room calls function head passed ready = record {
  orderly = record { apart = h.orderly.apart; bytes = h.orderly.bytes; few = few };
  memory = h.memory;
  filled = h.filled;
  input = h.input;
  setting = called;
  stands = record { function = function; exits = ready.exits; work = ready.work; holds = ready.holds };
  waiting = (h.setting, call_waits p s.blocks h.setting called s.frame spot target number es next callee values f h.stands.function calls head passed, h.waiting);
}
  where
    few : length (inside s next target callee values).callers ≤ 1023
    few = let n : length (inside s next target callee values).callers ≡ length s.callers + 1 = omega arith in subst (λ k. k ≤ 1023) (sym n) (room_left (length s.callers) room)

-- the call in front of those that wait, and how the others do
pub front_waits : (p : Typed) (s : State) (h : Sound p s) (caller : Caller) (callers : List Caller) → s.callers ≡ caller ∷ callers
    → (w : Setting) × Waits p s.blocks caller w h.setting s.frame.function s.frame.entry × AreWaiting p s.blocks callers w caller.frame.function caller.frame.entry
unfolding AreWaiting
front_waits p s h caller callers is = subst (λ cs. AreWaiting p s.blocks cs h.setting s.frame.function s.frame.entry) is h.waiting

module _ (p : Typed) (s t : State) (h : Sound p s) (caller : Caller) (callers : List Caller) (is : s.callers ≡ caller ∷ callers) (called w : Setting) (callee : Function) (entry : List ℕ)
    (waits : Waits p s.blocks caller w called callee entry) (others : AreWaiting p s.blocks callers w caller.frame.function caller.frame.entry) where
  few_left : length s.callers ≤ 1023 → length callers ≤ 1023
  few_left few = let n : length (caller ∷ callers) ≤ 1023 = subst (λ cs. length cs ≤ 1023) is few in omega (arith, n)

  pub back_sound : IsBack caller callers t
      → KeepRanges (shapes_elaborated p.layout) s.blocks t.blocks → AreSound p t.blocks t.next → AreFilled p (store_in p t.blocks t.frame) → AreBytes t.input
      → HoldsAt w (store_in p t.blocks t.frame) t.frame.entry waits.exits.ends → Sound p t
  back_sound back keep blocks filled input holds = record {
    orderly = record { apart = blocks.apart; bytes = blocks.bytes; few = subst (λ cs. length cs ≤ 1023) (sym back.others) (few_left h.orderly.few) };
    memory = blocks.memory;
    filled = filled;
    input = input;
    setting = w;
    stands = record {
      function = subst (IsFunction p w) (sym back.function) waits.function;
      exits = waits.exits;
      work = subst (λ next. JudgedWork w next waits.exits) (sym back.work) waits.work;
      holds = holds;
    };
    waiting =
        subst (λ cs. AreWaiting p t.blocks cs w t.frame.function t.frame.entry) (sym back.others)
        (subst (λ f. AreWaiting p t.blocks callers w f t.frame.entry) (sym back.function)
        (subst (λ e. AreWaiting p t.blocks callers w caller.frame.function e) (sym back.entry)
        (waiting_kept p s.blocks t.blocks keep callers w caller.frame.function caller.frame.entry others)));
  }
