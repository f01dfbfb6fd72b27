-- Points that hold and calls that wait stay so if each range that was true is true.
use Rattle.std.proofs.Common.{◌≡◌, ℕ, List, [], ◌∷◌, refl, sym, subst, ◌∙◌, ◌++◌}
use Rattle.std.specs.Prelude.{Ok, ◌≤◌, length, Bool, true, false, ◌==◌, if◌then◌else◌, ℤ, pos, negsuc, Option, None, Some, Err, IsOk}
use Rattle.ckc_base.specs.Lists.{AreBytes}
use Rattle.ckc_types.specs.declared.types.CType.{CType}
use Rattle.ckc_typed.specs.declared.typed.Typed.{Typed}
use Rattle.ckc_typed.specs.declared.typed.Range.{Range}
use Rattle.ckc_typed.specs.declared.typed.Range.TheVariants as range
use Rattle.ckc_blame_sound.specs.ckc_bounds_points.specs.declared.frame.Local.{Local}
use Rattle.ckc_blame_sound.specs.ckc_bounds_points.specs.Frames.{local_at}
use Rattle.ckc_blame_sound.specs.ckc_bounds_ranges.specs.Rows.{range_of_local}
use Rattle.ckc_blame_sound.specs.ckc_bounds_statements.specs.Paths.{Here}
use Rattle.ckc_source.specs.declared.expr.Pointee.{Pointee}
use Rattle.ckc_source.specs.declared.outcome.Halt.TheVariants.{Stuck}
use Rattle.ckc_source.specs.declared.program.Shape.{Shape}
use Rattle.ckc_source.specs.Blocks.{Block}
use Rattle.ckc_source.specs.Code.{Code, Function}
use Rattle.ckc_source.specs.Eval.{Store, plain, ranged, reads_within, reads}
use Rattle.ckc_source.specs.Runs.{is_true}
use Rattle.ckc_source.specs.States.{Work, Caller, State}
use Rattle.ckc_build_elaborate.specs.Shapes.{shapes_elaborated}
use Rattle.ckc_blame_sound.specs.Settings.{Setting, IsFunction}
use Rattle.ckc_blame_sound.specs.Points.{IsReadable, IsBounded, HoldsAt}
use Rattle.ckc_blame_sound.specs.Judged.{JudgedWork}
use Rattle.ckc_blame_sound.specs.Calls.{store_in, Waits, AreWaiting}
use Rattle.ckc_blame_sound.specs.Slots.{AreFilled}
use Rattle.ckc_blame_sound.specs.Sound.{Sound}
use Rattle.ckc_blame_sound.specs.Cells.{AreSound}
use Rattle.ckc_blame_sound.specs.Limited.{store_with}
use Rattle.ckc_blame_sound.specs.Writes.{AreCellWrites}
use Rattle.ckc_blame_sound.proofs.Written.{all_keep}
use Rattle.ckc_blame_sound.proofs.Fresh.{true_before}
use Rattle.ckc_source.specs.Steps.{Write, all_written}
use Rattle.ckc_blame_control.specs.Ready.{IsReady, Faces}
use Rattle.ckc_blame_control.specs.Kept.{KeepRanges, IsSameCall}

module _ (shapes : List Shape) (before after : List Block) (keep : KeepRanges shapes before after) where
  within_kept : (to : Pointee) (n : ℕ) (low high : ℤ) → IsOk (reads_within shapes before to n low high) → IsOk (reads_within shapes after to n low high)
  within_kept to n (pos low) (pos high) h = by (is_true shapes before to n low high) refl h
    where
      by : (b : Bool) → is_true shapes before to n low high ≡ b → IsOk (if b then ranged n low high else Err Stuck)
          → IsOk (if is_true shapes after to n low high then ranged n low high else Err Stuck)
      by true e h = subst (λ b. IsOk (if b then ranged n low high else Err Stuck)) (sym (keep to n low high e)) h
      by false e h = absurd cc
  within_kept to n (pos low) (negsuc high) h = h
  within_kept to n (negsuc low) high h = h

  reads_kept : (to : Pointee) (n : ℕ) (low high : ℤ) → IsOk (reads shapes before to n low high) → IsOk (reads shapes after to n low high)
  reads_kept to n low high h = by (n == 0) h
    where
      by : (b : Bool) → IsOk (if b then plain 0 else reads_within shapes before to n low high) → IsOk (if b then plain 0 else reads_within shapes after to n low high)
      by true h = h
      by false h = within_kept to n low high h

  module _ (s : Setting) (locals entry : List ℕ) where
    abbrev old : Store
    old = store_with shapes before locals

    abbrev new : Store
    new = store_with shapes after locals

    readable_kept : (k : ℕ) (t : CType) (r : Range) → IsReadable s old k t r → IsReadable s new k t r
    readable_kept k t (range.Known low high) h = reads_kept _ _ _ _ h
    readable_kept k t range.Any h = tt
    readable_kept k t range.Missing h = tt

    bounded_kept : (widened : List ℕ) (k : ℕ) (o : Option Local) → IsBounded s old widened k o → IsBounded s new widened k o
    bounded_kept widened k (Some l) h = readable_kept k l.ctype (range_of_local s.frame k widened) h
    bounded_kept widened k None h = tt

    pub holds_kept : (here : Here) → HoldsAt s old entry here → HoldsAt s new entry here
    holds_kept here h = record {
      reached = h.reached;
      counted = h.counted;
      words = h.words;
      facts = h.facts;
      bounded = λ k c. bounded_kept [] k (local_at s.frame k) (h.bounded k c);
      widened = λ k c. bounded_kept here.at.widened k (local_at s.frame k) (h.widened k c);
      entered = h.entered;
      kept = h.kept;
    }

module _ (p : Typed) (before after : List Block) (keep : KeepRanges (shapes_elaborated p.layout) before after) where
  waits_kept : (caller : Caller) (s called : Setting) (callee : Function) (entry : List ℕ) → Waits p before caller s called callee entry → Waits p after caller s called callee entry
  waits_kept caller s called callee entry w = record {
    function = w.function;
    spot = w.spot;
    number = w.number;
    arguments = w.arguments;
    at = w.at;
    exits = w.exits;
    call = w.call;
    calls = w.calls;
    work = w.work;
    holds = holds_kept (shapes_elaborated p.layout) before after keep s caller.frame.locals caller.frame.entry w.at w.holds;
    head = w.head;
    passed = w.passed;
  }

  pub waiting_kept : (callers : List Caller) (called : Setting) (callee : Function) (entry : List ℕ) → AreWaiting p before callers called callee entry → AreWaiting p after callers called callee entry
  unfolding AreWaiting
  waiting_kept [] called callee entry w = tt
  waiting_kept (caller ∷ callers) called callee entry w =
      (w.0, waits_kept caller w.0 called callee entry w.1, waiting_kept callers w.0 caller.frame.function caller.frame.entry w.2)

-- ---- blocks that keep ranges

pub writes_keep_ranges : (p : Typed) (next : ℕ) (ws : List Write) (s t : State) (shapes : List Shape) → AreSound p s.blocks next → AreCellWrites p.layout s.blocks ws → all_written ws s ≡ Ok t
    → KeepRanges shapes s.blocks t.blocks
writes_keep_ranges p next ws s t shapes sound cells is to n low high e = (all_keep p next ws s t sound cells is).truths shapes to n low high ∙ e

pub blocks_keep_ranges : (shapes : List Shape) (before more : List Block) → KeepRanges shapes before (before ++ more)
blocks_keep_ranges shapes before more to n low high e = true_before shapes before more to n low high e

-- ---- states

module _ (p : Typed) (s t : State) (h : Sound p s) (same : IsSameCall s t) (keep : KeepRanges (shapes_elaborated p.layout) s.blocks t.blocks) (blocks : AreSound p t.blocks t.next)
    (filled : AreFilled p (store_in p t.blocks t.frame)) (input : AreBytes t.input) where
  abbrev after : Store
  after = store_in p t.blocks t.frame

  waiting_same : AreWaiting p t.blocks t.callers h.setting t.frame.function t.frame.entry
  waiting_same =
      subst (λ cs. AreWaiting p t.blocks cs h.setting t.frame.function t.frame.entry) (sym same.callers)
      (subst (λ f. AreWaiting p t.blocks s.callers h.setting f t.frame.entry) (sym same.function)
      (subst (λ e. AreWaiting p t.blocks s.callers h.setting s.frame.function e) (sym same.entry)
      (waiting_kept p s.blocks t.blocks keep s.callers h.setting s.frame.function s.frame.entry h.waiting)))

  pub ready_sound : IsReady h.setting after t.frame.entry t.frame.work → Sound p t
  ready_sound r = record {
    orderly = record { apart = blocks.apart; bytes = blocks.bytes; few = subst (λ cs. length cs ≤ 1023) (sym same.callers) h.orderly.few };
    memory = blocks.memory;
    filled = filled;
    input = input;
    setting = h.setting;
    stands = record { function = subst (IsFunction p h.setting) (sym same.function) h.stands.function; exits = r.exits; work = r.work; holds = r.holds };
    waiting = waiting_same;
  }

  -- the step in front leads to a point that holds
  pub faced_sound : (step : Code → Code) (next : List Work) (f : Faces h.setting (store_in p s.blocks s.frame) s.frame.entry step next) → t.frame.work ≡ next
      → HoldsAt h.setting after t.frame.entry f.exits.ends → Sound p t
  faced_sound step next f is g = ready_sound (record { exits = f.exits; work = subst (λ w. JudgedWork h.setting w f.exits) (sym is) f.work; holds = g })
