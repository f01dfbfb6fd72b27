-- Room for the values and the fresh variables of expressions at a point.
use Rattle.std.specs.Prelude.{ℕ, ◌+◌, ◌<◌, ◌^◌, List, [], ◌∷◌, length}
use Rattle.ckc_typed.specs.Trees.{NotedExpr}
use Rattle.ckc_blame_sound.specs.ckc_bounds_points.specs.declared.frame.Frame.{Frame}
use Rattle.ckc_blame_sound.specs.ckc_bounds_points.specs.Flow.{State}
use Rattle.ckc_blame_sound.specs.ckc_bounds_views.specs.Parts.{fresh_behind}
use Rattle.ckc_blame_sound.specs.ckc_bounds_views.specs.Views.{view}
use Rattle.ckc_blame_sound.specs.ckc_bounds_stores.specs.Stores.{Store}
use Rattle.ckc_blame_steps.specs.Values.{HaveFewValues}

-- An expression, and each in it, has so few values that words number them, and the fresh variables that it needs at a
-- point have words as numbers, from a number on.
pub record HasPlaces (frame : Frame) (at : State) (first : ℕ) (e : NotedExpr) : Type 0 where
  pub values : HaveFewValues frame e
  pub fresh : first + length ((view frame e).fresh at) < 2 ^ 32

-- this of expressions of which the fresh variables are numbered one after another
abbrev pub HavePlaces : Frame → State → ℕ → List NotedExpr → Type 0
HavePlaces frame at first [] = Unit {0}
HavePlaces frame at first (e ∷ es) =
    HasPlaces frame at first e × HavePlaces frame at (fresh_behind (view frame e) first at) es

-- this of the two sides of assignments, of which the fresh variables are numbered one after another
abbrev pub HaveSides : Frame → State → ℕ → List Store → Type 0
HaveSides frame at first [] = Unit {0}
HaveSides frame at first (q ∷ qs) =
    HasPlaces frame at first q.target × HasPlaces frame at (fresh_behind (view frame q.target) first at) q.right
    × HaveSides frame at (fresh_behind (view frame q.right) (fresh_behind (view frame q.target) first at) at) qs
