-- What an expression gives at a point, whatever is known of the values before.
use Rattle.std.specs.Prelude.{ℕ, ◌+◌, ◌<◌, ◌^◌, length}
use Rattle.ckc_typed.specs.Trees.{NotedExpr}
use Rattle.ckc_blame_sound.specs.ckc_bounds_points.specs.Flow.{State}
use Rattle.ckc_blame_sound.specs.ckc_bounds_views.specs.Views.{view}
use Rattle.ckc_blame_sound.specs.ckc_bounds_stores.specs.declared.values.Numbered.{Numbered}
use Rattle.ckc_source.specs.Eval.{Store}
use Rattle.ckc_blame_sound.specs.Settings.{Setting}
use Rattle.ckc_blame_sound.specs.Bodies.{AreFresh}
use Rattle.ckc_blame_sound.specs.Valuations.{Valuation, IsValuationOf}
use Rattle.ckc_blame_given.specs.Gives.{GivesOn}

-- An expression gives a word at a point, whatever numbers its values and its fresh variables begin with, if there is
-- room for them, and whatever is known of those before.
abbrev pub GivesAt : Setting → Store → State → NotedExpr → ℕ → Type 0
GivesAt s store at e n =
    (from : Numbered) (before : Valuation) → from.value + (view s.frame e).values + 1 < 2 ^ 32
    → from.fresh + length ((view s.frame e).fresh at) < 2 ^ 32 → AreFresh s.frame from.fresh
    → IsValuationOf s store.locals before → GivesOn s store before at e from n
