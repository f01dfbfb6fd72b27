-- What is known of a new value, and of a pointer that keeps its value, is enough for the judgement of containment.
use Rattle.std.proofs.Common.{◌≡◌, ℕ, ◌==◌, refl, ap, List, [], ◌∷◌, ◌+ℤ◌}
use Rattle.std.specs.Prelude.{Bool, true, false, pos, ◌&&◌, if◌then◌else◌, Option, None, Some}
use Rattle.std.specs.List.{All, list_any}
use Rattle.ckc_types.specs.declared.types.CType.{CType}
use Rattle.ckc_linear.specs.declared.forms.Form.{Form}
use Rattle.ckc_typed.specs.declared.typed.Range.TheVariants as range
use Rattle.ckc_typed.specs.declared.typed.Typed.{Typed}
use Rattle.ckc_typed.specs.Trees.{NotedExpr}
use Rattle.ckc_bounds.specs.ckc_bounds_points.specs.declared.frame.Bounds.{Bounds}
use Rattle.ckc_bounds.specs.ckc_bounds_points.specs.declared.frame.Bounds.TheVariants as bounds
use Rattle.ckc_bounds.specs.ckc_bounds_points.specs.declared.frame.Local.{Local}
use Rattle.ckc_bounds.specs.ckc_bounds_points.specs.declared.frame.Frame.{Frame}
use Rattle.ckc_bounds.specs.ckc_bounds_points.specs.Shown.{Known}
use Rattle.ckc_bounds.specs.ckc_bounds_points.specs.Frames.{local_at}
use Rattle.ckc_bounds.specs.ckc_bounds_points.specs.Flow.{State, range_of, with_range}
use Rattle.ckc_bounds.specs.ckc_bounds_points.specs.Forms.{moved_form, is_small}
use Rattle.ckc_bounds.specs.ckc_bounds_ranges.specs.Rows.{range_moved, range_widened, range_of_bounds, range_by, range_of_local}
use Rattle.ckc_bounds.specs.ckc_bounds_views.specs.Parts.{capped}
use Rattle.ckc_bounds.specs.ckc_bounds_views.specs.Fresh.{with_types}
use Rattle.ckc_bounds.specs.ckc_bounds_views.specs.Views.{view}
use Rattle.ckc_bounds.specs.ckc_bounds_stores.specs.declared.values.Numbered.{Numbered}
use Rattle.ckc_bounds.specs.ckc_bounds_stores.specs.Values.{narrow, has_element, range_received, new_value, same_value}
use Rattle.ckc_blame_sound.specs.Sound.{IsPlaced}
use Rattle.ckc_blame_sound.specs.Valuations.{Valuation, AreFacts, AreNumbersOf}
use Rattle.ckc_blame_sound.proofs.Facts.{range_added}
use Rattle.ckc_blame_sound.specs.Containment.{Memory, IsReadWithin, IsJudged, IsNarrowed}
use Rattle.ckc_blame_sound.specs.GivenValues.{IsNew}
use Rattle.ckc_blame_sound.proofs.Contained.{more_known}

pub types_added : (v : Valuation) → v.number 0 ≡ pos 0 → (x : ℕ) (ts : List CType) (facts : Known) → AreNumbersOf v x ts → AreFacts v facts → AreFacts v (with_types x ts facts)
types_added v zero_is x [] facts are all = all
types_added v zero_is x (t ∷ ts) facts are all =
    types_added v zero_is (capped x 1) ts (with_range x (range_of t) facts) are.1 (range_added v.number x (range_of t) facts zero_is are.0 all)

module _ (p : Typed) (m : Memory) (v : Valuation) (n : ℕ) (placed : All (IsPlaced p) m.blocks) (zero_is : v.number 0 ≡ pos 0) where
  pub new_judged : (frame : Frame) (t : CType) (e : NotedExpr) (from : Numbered) (at : State) → AreFacts v at.facts → IsNew frame m v t e from at n
      → IsJudged m v n (new_value frame t e from at)
  unfolding new_value
  new_judged frame t e from at all new = record {
    null = new.null;
    range = new.ranged.wide;
    facts = λ some. more_known p m v n placed some (range_received frame t e from at) (range_received frame t e from (narrow at))
        (has_element t (view frame e).allocates) (with_types (capped from.fresh 1) ((view frame e).fresh at) at.facts) new.ranged
        (types_added v zero_is (capped from.fresh 1) ((view frame e).fresh at) at.facts (new.fresh some) all);
  }

  -- a widened range ends at the same base as the declared one
  widened_narrowed : (o : Option Form) (low high : Form) → moved_form (Some high) (pos 1) ≡ o → IsNarrowed (range_moved low o) (range.Known low high)
  widened_narrowed None low high e = tt
  widened_narrowed (Some f) low high e = (refl, by (is_small high.add && is_small (pos 1)) e)
    where
      by : (b : Bool) → (if b then Some (record high { add = high.add +ℤ pos 1 }) else None) ≡ Some f → high.base ≡ f.base
      by true e = let same : record high { add = high.add +ℤ pos 1 } ≡ f = cc in ap (λ (f : Form). f.base) same
      by false e = absurd cc

  bounds_narrowed : (b : Bounds) (wide : Bool) → IsNarrowed (if wide then range_widened b else range_of_bounds b) (range_of_bounds b)
  bounds_narrowed bounds.Unknown true = tt
  bounds_narrowed bounds.Unknown false = tt
  bounds_narrowed (bounds.Known low high) true = widened_narrowed (moved_form (Some high) (pos 1)) low high refl
  bounds_narrowed (bounds.Known low high) false = (refl, refl)

  local_narrowed : (o : Option Local) (wide : Bool) → IsNarrowed (range_by o wide) (range_by o false)
  local_narrowed None wide = tt
  local_narrowed (Some l) wide = bounds_narrowed l.bounds wide

  pub same_judged : (frame : Frame) (k : ℕ) (at : State) → AreFacts v at.facts → IsReadWithin m v n (range_of_local frame k at.widened) → IsReadWithin m v n (range_of_local frame k [])
      → IsJudged m v n (same_value frame k at)
  unfolding same_value
  same_judged frame k at all wide declared = record {
    null = λ e. absurd (cc);
    range = wide;
    facts = λ some. more_known p m v n placed some (range_of_local frame k at.widened) (range_of_local frame k []) false at.facts
        (record { wide = wide; narrow = declared; narrowed = local_narrowed (local_at frame k) (list_any (λ p. p == k) at.widened); element = λ e. absurd cc }) all;
  }
