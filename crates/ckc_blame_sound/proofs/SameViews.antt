-- What is said of an expression stays when it is judged.
use Rattle.std.proofs.Common.{◌≡◌, ◌∙◌, sym, ap, refl, ℕ, Bool, true, false}
use Rattle.std.specs.Prelude.{if◌then◌else◌, Ok}
use Rattle.ckc_base.specs.declared.places.Pos.{Pos}
use Rattle.ckc_base.specs.Outcomes.{bind}
use Rattle.ckc_typed.specs.declared.typed.Note.{Note}
use Rattle.ckc_typed.specs.declared.typed.Range.{Range}
use Rattle.ckc_typed.specs.Trees.{NotedExpr}
use Rattle.ckc_typed.specs.Types.{is_pointer}
use Rattle.ckc_bounds.specs.ckc_bounds_points.specs.declared.frame.Frame.{Frame}
use Rattle.ckc_bounds.specs.ckc_bounds_points.specs.Flow.{State}
use Rattle.ckc_bounds.specs.ckc_bounds_views.specs.Parts.{LimitsView, View, NodeView}
use Rattle.ckc_bounds.specs.ckc_bounds_views.specs.Judged.{by_fault, noted_range}
use Rattle.ckc_bounds.specs.ckc_bounds_views.specs.Ranges.{pointer_range}
use Rattle.ckc_bounds.specs.ckc_bounds_views.specs.Views.{limits_view, node_view, expr_view, view}
use Rattle.ckc_blame_sound.proofs.KeptTrees.{same_fold}

-- the note that a range is noted in has a range perhaps
ranged_again : (note : Note) (r : Range) → is_pointer note.ctype ≡ true → (q : Range) → noted_range (record note { range = r }) q ≡ noted_range note q
ranged_again note r is q =
    ap (λ b. if b then record note { range = q } else record note { range = r }) is ∙ sym (ap (λ b. if b then record note { range = q } else note) is)

-- what is said of an expression, if its range is noted so
abbrev view_with : NodeView → Pos → Note → (Range → Note) → View
view_with n pos note ranged = record (expr_view (record { node = n; pos = pos; note = note })) {
  judged = λ fresh at. bind (n.judged note.ctype fresh at) (λ m.
      by_fault (n.fault pos fresh at) (Ok (record { node = m; pos = pos; note = ranged (pointer_range note.ctype n 0 fresh at) })));
  operand = λ fresh at. bind (n.judged note.ctype fresh at) (λ m.
      by_fault (n.operand_fault pos fresh at) (Ok (record { node = m; pos = pos; note = ranged (pointer_range note.ctype n 0 fresh at) })));
}

view_blind : (n : NodeView) (pos : Pos) (note : Note) (r : Range)
    → expr_view (record { node = n; pos = pos; note = noted_range note r }) ≡ expr_view (record { node = n; pos = pos; note = note })
view_blind n pos note r = by (is_pointer note.ctype) refl
  where
    by : (b : Bool) → is_pointer note.ctype ≡ b
        → expr_view (record { node = n; pos = pos; note = if b then record note { range = r } else note }) ≡ expr_view (record { node = n; pos = pos; note = note })
    by true is = ap (view_with n pos note) (λ j q. ranged_again note r is q j)
    by false is = refl

pub same_view : (frame : Frame) (e f : NotedExpr) (fresh : ℕ) (at : State) → (view frame e).judged fresh at ≡ Ok f → (other : Frame) → view other f ≡ view other e
same_view frame e f fresh at is other = same_fold frame LimitsView NodeView View limits_view (node_view other) expr_view view_blind e f fresh at is
