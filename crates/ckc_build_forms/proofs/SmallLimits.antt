-- The numbers in the ranges that are noted at the names of locals fit in their words.
use Rattle.std.proofs.Common.{◌≡◌, inl, inr, refl, sym, subst, ℕ, Bool, true, false, List}
use Rattle.std.specs.Prelude.{◌&&◌, if◌then◌else◌, pos, ◌+ℤ◌, Option, None, Some, Ok, Err, slice_get}
use Rattle.std.specs.List.{Contains}
use Rattle.ckc_base.specs.Outcomes.{Outcome}
use Rattle.ckc_linear.specs.declared.forms.Form.{Form}
use Rattle.ckc_syntax.specs.declared.tree.Item.TheVariants as item
use Rattle.ckc_typed.specs.declared.typed.Range.{Range}
use Rattle.ckc_typed.specs.declared.typed.Range.TheVariants as range
use Rattle.ckc_typed.specs.declared.typed.Typed.{Typed}
use Rattle.ckc_typed.specs.Trees.{NotedDecl, NotedHead, NotedStmt}
use Rattle.ckc_typed.specs.Types.{type_written}
use Rattle.ckc_blame_steps.specs.ckc_bounds.specs.Declarations.{all_made, known_or_not}
use Rattle.ckc_blame_steps.specs.ckc_bounds.specs.Frames.{all_of, function_frame, types_frame}
use Rattle.ckc_blame_steps.specs.ckc_bounds.specs.ckc_bounds_declared.specs.declared.limits.Holder.{Holder}
use Rattle.ckc_blame_steps.specs.ckc_bounds.specs.ckc_bounds_declared.specs.declared.limits.Holder.TheVariants as holder
use Rattle.ckc_blame_steps.specs.ckc_bounds_points.specs.declared.frame.Bounds.{Bounds}
use Rattle.ckc_blame_steps.specs.ckc_bounds_points.specs.declared.frame.Bounds.TheVariants as bounds
use Rattle.ckc_blame_steps.specs.ckc_bounds_points.specs.declared.frame.Frame.{Frame}
use Rattle.ckc_blame_steps.specs.ckc_bounds_points.specs.declared.frame.Local.{Local}
use Rattle.ckc_blame_steps.specs.ckc_bounds_points.specs.Forms.{is_small, moved_form}
use Rattle.ckc_blame_steps.specs.ckc_bounds_points.specs.Frames.{local_at}
use Rattle.ckc_blame_steps.specs.ckc_bounds_ranges.specs.Rows.{range_moved, range_of_bounds, range_widened, range_by}
use Rattle.ckc_blame_steps.specs.ckc_bounds_statements.specs.DeclBounds.{decl_bounds}
use Rattle.ckc_source.specs.Code.{Function}
use Rattle.ckc_checks_operands.specs.Compilable.{IsSmall}
use Rattle.ckc_blame_steps.specs.ckc_blame_sound.specs.JudgedTexts.{IsJudged}
use Rattle.ckc_blame_steps.specs.ckc_blame_sound.specs.Numbered.{AreAllLocals}
use Rattle.ckc_blame_steps.specs.ckc_blame_sound.specs.Settings.{Setting, IsFunction, frame_of_text, setting_of}
use Rattle.ckc_blame_steps.specs.ckc_blame_sound.proofs.ByNumber.{declaration_at}
use Rattle.ckc_blame_steps.specs.ckc_blame_sound.proofs.Functions.{numbered}
use Rattle.ckc_blame_steps.specs.ckc_blame_sound.proofs.Locals.{names_declared}
use Rattle.ckc_blame_steps.specs.ckc_blame_declared.proofs.Locals.{local_is}
use Rattle.ckc_build_forms.proofs.RangesNoted.{IsRangeOf}
use Rattle.ckc_build_forms.proofs.SmallBounds.{IsClose, AreClose, declared_close, small_of_close, next_small}

-- ---- the bounds of locals

-- the bounds of a declaration, or unknown ones
known_close : (frame : Frame) (h : Holder) (d : NotedDecl) → AreClose (known_or_not (decl_bounds frame h d))
known_close frame h d = by (decl_bounds frame h d) refl
  where
    by : (o : Outcome Bounds) → decl_bounds frame h d ≡ o → AreClose (known_or_not o)
    by (Ok b) e = declared_close frame h (type_written d.ctype) d.length d.bounds b e
    by (Err r) e = tt

-- a local that is declared
made_close : (types : Frame) (ds : List NotedDecl) (k : ℕ) (l : Local) → AreAllLocals (names_declared ds) → slice_get (all_made types true ds) k ≡ Some l → AreClose l.bounds
made_close types ds k l numbers e =
    let made = declaration_at types true ds k l numbers e in
    subst (λ (x : Local). AreClose x.bounds) (sym made.3) (known_close types (holder.Local k) made.0)

-- a local of the frame of a function: declared, or fresh with unknown bounds
frame_close : (p : Typed) (h : NotedHead) (body : NotedStmt) (k : ℕ) (l : Local) → IsJudged p → Contains p.tree.items (item.Function h body)
    → local_at (function_frame (frame_of_text p) h body) k ≡ Some l → AreClose l.bounds
frame_close p h body k l j there at = elim (local_is (frame_of_text p) h body k l at) [
  | inl e ↦ made_close (types_frame (frame_of_text p) h body) (all_of h body) k l (numbered p h body j there) e
  | inr e ↦ subst (λ (x : Local). AreClose x.bounds) (sym e) tt
]

local_close : (p : Typed) (s : Setting) (f : Function) (k : ℕ) (l : Local) → IsJudged p → IsFunction p s f → local_at s.frame k ≡ Some l → AreClose l.bounds
unfolding setting_of
local_close p s f k l j is e =
    let P : Setting → Type 0 = λ z. local_at z.frame k ≡ Some l → AreClose l.bounds in
    subst P (sym is.judged) (frame_close p is.head is.body k l j is.there) e

-- ---- ranges

abbrev RangeSmall : Range → Type 0
RangeSmall (range.Known low high) = IsSmall low.add × IsSmall high.add
RangeSmall r = Unit {0}

plain_small : (b : Bounds) → AreClose b → RangeSmall (range_of_bounds b)
plain_small bounds.Unknown h = tt
plain_small (bounds.Known low high) h = (small_of_close low.add h.0, small_of_close high.add h.1)

moved_small : (low high : Form) → IsClose low.add → IsClose high.add → RangeSmall (range_moved low (moved_form (Some high) (pos 1)))
moved_small low high h g = by (is_small high.add && is_small (pos 1))
  where
    by : (b : Bool) → RangeSmall (range_moved low (if b then Some (record high { add = high.add +ℤ pos 1 }) else None))
    by true = (small_of_close low.add h, next_small high.add g)
    by false = tt

widened_small : (b : Bounds) → AreClose b → RangeSmall (range_widened b)
widened_small bounds.Unknown h = tt
widened_small (bounds.Known low high) h = moved_small low high h.0 h.1

-- the range of a local, widened or as declared
range_small : (o : Option Local) → ((l : Local) → o ≡ Some l → AreClose l.bounds) → (wide : Bool) → RangeSmall (range_by o wide)
range_small None h wide = tt
range_small (Some l) h true = widened_small l.bounds (h l refl)
range_small (Some l) h false = plain_small l.bounds (h l refl)

module _ (p : Typed) (s : Setting) (f : Function) (j : IsJudged p) (is : IsFunction p s f) where
  noted_small : (k : ℕ) (r : Range) → IsRangeOf s.frame k r → RangeSmall r
  noted_small k r (inl e) = subst RangeSmall (sym e) tt
  noted_small k r (inr e) = subst RangeSmall (sym e.1) (range_small (local_at s.frame k) (λ l at. local_close p s f k l j is at) _)

  -- the numbers of the limits of a local that is read within its range
  pub limits_small : (k : ℕ) (low high : Form) → IsRangeOf s.frame k (range.Known low high) → IsSmall low.add × IsSmall high.add
  limits_small k low high h = noted_small k (range.Known low high) h
