-- What is said of nodes, by their parts.
use Rattle.std.proofs.Common.{◌≡◌, ℕ, List, map, rules}
use Rattle.ckc_types.specs.declared.types.CType.{CType}
use Rattle.ckc_syntax.specs.declared.tree.Name.{Name}
use Rattle.ckc_syntax.specs.declared.tree.Expr.{Expr}
use Rattle.ckc_syntax.specs.declared.tree.Node.{the_lemmas}
use Rattle.ckc_syntax.specs.declared.tree.Node.TheVariants as node
use Rattle.ckc_typed.specs.declared.typed.Note.{Note}
use Rattle.ckc_bounds_views.specs.ckc_bounds_points.specs.declared.frame.Frame.{Frame}
use Rattle.ckc_bounds_views.specs.ckc_bounds_points.specs.Flow.{State}
use Rattle.ckc_bounds_views.specs.declared.variables.Own.{Own}
use Rattle.ckc_bounds_views.specs.Ranges.{range_of_call}
use Rattle.ckc_bounds_views.specs.Views.{view, view_of_node}

pub call_is : (frame : Frame) (n : Name) (es : List (Expr Name Note)) (t : CType) (own : Own) (first fresh : ℕ) (at : State) →
    (view_of_node frame (node.Call n es)).range t own first fresh at ≡ range_of_call frame n (map (view frame) es) own.value first at.facts
call_is frame n es t own first fresh at = search (rules, the_lemmas)
