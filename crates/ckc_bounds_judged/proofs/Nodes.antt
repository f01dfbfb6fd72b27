-- What nodes are judged to be, by their parts.
use Rattle.std.proofs.Common.{◌≡◌, ℕ, List, map, rules}
use Rattle.std.specs.Prelude.{Ok}
use Rattle.ckc_base.specs.Outcomes.{bind}
use Rattle.ckc_types.specs.declared.types.CType.{CType}
use Rattle.ckc_syntax.specs.declared.tree.Name.{Name}
use Rattle.ckc_syntax.specs.declared.tree.Expr.{Expr}
use Rattle.ckc_syntax.specs.declared.tree.Node.{the_lemmas}
use Rattle.ckc_syntax.specs.declared.tree.Node.TheVariants as node
use Rattle.ckc_typed.specs.declared.typed.Note.{Note}
use Rattle.ckc_bounds_extents.specs.ckc_bounds_points.specs.declared.frame.Frame.{Frame}
use Rattle.ckc_bounds_extents.specs.ckc_bounds_points.specs.Flow.{State}
use Rattle.ckc_bounds_extents.specs.ckc_bounds_views.specs.Judged.{all_judged}
use Rattle.ckc_bounds_extents.specs.ckc_bounds_views.specs.Views.{view, view_of_node}

pub call_is : (frame : Frame) (n : Name) (es : List (Expr Name Note)) (t : CType) (fresh : ℕ) (at : State) →
    (view_of_node frame (node.Call n es)).judged t fresh at
    ≡ bind (all_judged (map (view frame) es) fresh at) (λ args. Ok (node.Call n args))
call_is frame n es t fresh at = search (rules, the_lemmas)
