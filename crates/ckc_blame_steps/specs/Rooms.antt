-- Room for the numbers of expressions that are passed or returned.
use Rattle.std.specs.Prelude.{List, [], ◌∷◌}
use Rattle.ckc_typed.specs.Trees.{NotedExpr}
use Rattle.ckc_blame_sound.specs.ckc_bounds_stores.specs.declared.values.Numbered.{Numbered}
use Rattle.ckc_blame_sound.specs.ckc_bounds_statements.specs.Paths.{Here}
use Rattle.ckc_blame_sound.specs.Bodies.{AreFresh}
use Rattle.ckc_blame_sound.specs.Settings.{Setting}
use Rattle.ckc_blame_steps.specs.Arguments.{numbers_behind}
use Rattle.ckc_blame_steps.specs.Granted.{HasRoom}

-- There is room for the numbers of the values and the fresh variables of an expression from these on, and the locals
-- from there on are no integers.
pub record HasRoomFrom (s : Setting) (here : Here) (from : Numbered) (e : NotedExpr) : Type 0 where
  pub room : HasRoom s.frame here.at from.value from.fresh e
  pub fresh : AreFresh s.frame from.fresh

-- this of each expression of a list, with its values and its fresh variables numbered after those in front of it
unfoldable pub HaveRoomEach : Setting → Here → Numbered → List NotedExpr → Type 0
HaveRoomEach s here from [] = Unit {0}
HaveRoomEach s here from (e ∷ es) =
    HasRoomFrom s here from e × HaveRoomEach s here (numbers_behind s here.at e from) es
