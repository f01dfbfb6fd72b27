-- What is granted of the conditions of a function.
use Rattle.std.specs.Prelude.{◌+◌, ◌<◌, ◌^◌, ℕ, length, IfSome}
use Rattle.ckc_base.specs.declared.arithmetic.Mode.{Mode}
use Rattle.ckc_blame_sound.specs.ckc_bounds_views.specs.Views.{view}
use Rattle.ckc_blame_sound.specs.ckc_bounds_statements.specs.Paths.{Here}
use Rattle.ckc_source.specs.Code.{Expr}
use Rattle.ckc_source.specs.Eval.{Store}
use Rattle.ckc_blame_sound.specs.Settings.{Setting}
use Rattle.ckc_blame_sound.specs.Slots.{AreFilled}
use Rattle.ckc_blame_sound.specs.Steps.{IsCondition}
use Rattle.ckc_blame_given.specs.ckc_blame_pointers.specs.Covered.{IsSoundStore, IsCovered}

-- Each condition of a statement is covered after it is judged, in each store whose blocks are sound and
-- whose pointers may be read, and there is room for the numbers of its fresh variables.
pub record AreTestsCovered (s : Setting) : Type 0 where
  pub covered : (m : Mode) (here yes no : Here) (e : Expr) (store : Store) (next : ℕ) (c : IsCondition s m here e yes no)
      → IsSoundStore s store next → AreFilled s.text store → IfSome c.after (IsCovered m s store here.seen)
  pub room : (m : Mode) (here yes no : Here) (e : Expr) (c : IsCondition s m here e yes no)
      → IfSome c.before (λ f. here.next + length ((view s.frame f).fresh here.at) < 2 ^ 32)
