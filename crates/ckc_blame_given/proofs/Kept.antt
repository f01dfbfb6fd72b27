-- What is known of a new value is known where the same ranges are true.
use Rattle.std.proofs.Common.{◌≡◌, sym, subst, ℕ, List}
use Rattle.std.specs.Prelude.{[], Result, IsOk}
use Rattle.ckc_types.specs.declared.types.CType.{CType}
use Rattle.ckc_typed.specs.declared.typed.Range.{Range}
use Rattle.ckc_typed.specs.declared.typed.Range.TheVariants as range
use Rattle.ckc_typed.specs.Trees.{NotedExpr}
use Rattle.ckc_blame_sound.specs.ckc_bounds_points.specs.declared.frame.Frame.{Frame}
use Rattle.ckc_blame_sound.specs.ckc_bounds_points.specs.Flow.{State}
use Rattle.ckc_blame_sound.specs.ckc_bounds_stores.specs.declared.values.Numbered.{Numbered}
use Rattle.ckc_source.specs.declared.expr.Pointee.{Pointee}
use Rattle.ckc_source.specs.declared.outcome.Halt.{Halt}
use Rattle.ckc_source.specs.declared.outcome.Value.{Value}
use Rattle.ckc_source.specs.declared.program.Shape.{Shape}
use Rattle.ckc_source.specs.Blocks.{Block}
use Rattle.ckc_source.specs.Runs.{is_true}
use Rattle.ckc_blame_sound.proofs.Filled.{same_reads}
use Rattle.ckc_blame_sound.specs.Valuations.{Valuation, form_address}
use Rattle.ckc_blame_sound.specs.Containment.{Memory, IsReadWithin}
use Rattle.ckc_blame_sound.specs.GivenValues.{IsFrom}

module _ (shapes : List Shape) (bs cs : List Block) (truths : (to : Pointee) (i low high : ℕ) → is_true shapes cs to i low high ≡ is_true shapes bs to i low high)
    (frame : Frame) (to : Pointee) (v : Valuation) (n : ℕ) where
  abbrev old : Memory
  old = record { shapes = shapes; blocks = bs; to = to }

  abbrev new : Memory
  new = record { shapes = shapes; blocks = cs; to = to }

  within : (r : Range) → IsReadWithin old v n r → IsReadWithin new v n r
  within (range.Known low high) h =
      subst (λ (r : Result Value Halt). IsOk r) (sym (same_reads shapes bs cs [] [] truths to n (form_address v to.size low) (form_address v to.size high))) h
  within range.Missing h = tt
  within range.Any h = tt

  pub from_kept : (t : CType) (e : NotedExpr) (from : Numbered) (at : State) → IsFrom frame old v t e from at n → IsFrom frame new v t e from at n
  from_kept t e from at h = record {
    place = h.place;
    value = record {
      null = h.value.null;
      ranged = record { wide = within _ h.value.ranged.wide; narrow = within _ h.value.ranged.narrow; narrowed = h.value.ranged.narrowed; element = h.value.ranged.element };
      fresh = h.value.fresh;
    };
  }
