-- What is asked of expressions that are to give words.
use Rattle.std.specs.Prelude.{◌≡◌, ◌+◌, ◌<◌, ◌^◌, false, List, [], ◌∷◌, length, Ok}
use Rattle.ckc_base.specs.declared.arithmetic.Mode.{Mode}
use Rattle.ckc_typed.specs.declared.environment.Globals.{Globals}
use Rattle.ckc_typed.specs.Conversions.{is_allocation}
use Rattle.ckc_typed.specs.Trees.{NotedExpr}
use Rattle.ckc_blame_sound.specs.ckc_bounds_views.specs.Views.{view}
use Rattle.ckc_blame_sound.specs.ckc_bounds_stores.specs.declared.values.Numbered.{Numbered}
use Rattle.ckc_blame_sound.specs.ckc_bounds_statements.specs.Paths.{Here}
use Rattle.ckc_source.specs.Eval.{Store}
use Rattle.ckc_blame_sound.specs.Bodies.{AreFresh}
use Rattle.ckc_blame_sound.specs.Settings.{Setting}
use Rattle.ckc_blame_sound.specs.Typed.{IsTyped}
use Rattle.ckc_blame_given.specs.ckc_blame_pointers.specs.Covered.{IsCovered}
use Rattle.ckc_blame_steps.specs.Arguments.{numbers_behind}

-- A typed expression, which is no `calloc`, is judged at a point from a fresh variable on; what it is judged to be is
-- covered; and there is room for the numbers of its values and its fresh variables.
pub record IsGivable (m : Mode) (globals : Globals) (s : Setting) (store : Store) (here : Here) (e f : NotedExpr) (from : Numbered)
    : Type 0 where
  pub typed : IsTyped globals s e
  pub whole : is_allocation e ≡ false
  pub judged : (view s.frame e).judged from.fresh here.at ≡ Ok f
  pub covered : IsCovered m s store here.seen f
  pub values : from.value + (view s.frame e).values + 1 < 2 ^ 32
  pub variables : from.fresh + length ((view s.frame e).fresh here.at) < 2 ^ 32
  pub fresh : AreFresh s.frame from.fresh

-- this of each expression of a list, with its values and its fresh variables numbered after those in front of it
unfoldable pub AreGivable : Mode → Globals → Setting → Store → Here → List NotedExpr → List NotedExpr → Numbered → Type 0
AreGivable m globals s store here [] [] from = Unit {0}
AreGivable m globals s store here (e ∷ es) (f ∷ fs) from =
    IsGivable m globals s store here e f from × AreGivable m globals s store here es fs (numbers_behind s here.at e from)
AreGivable m globals s store here _ _ from = ⊥
