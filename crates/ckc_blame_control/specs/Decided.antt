-- Conditions lead to points that hold.
use Rattle.std.specs.Prelude.{◌≡◌, ℕ, Bool, not, ◌==◌, if◌then◌else◌, List, Result, Ok, Err}
use Rattle.ckc_typed.specs.Trees.{NotedExpr}
use Rattle.ckc_blame_sound.specs.ckc_bounds_views.specs.Views.{view}
use Rattle.ckc_base.specs.declared.arithmetic.Mode.{Mode}
use Rattle.ckc_blame_sound.specs.ckc_bounds_statements.specs.Paths.{Here}
use Rattle.ckc_source.specs.declared.outcome.Halt.{Halt}
use Rattle.ckc_source.specs.declared.outcome.Halt.TheVariants as halt
use Rattle.ckc_source.specs.declared.outcome.Value.{Value}
use Rattle.ckc_source.specs.Code.{Expr}
use Rattle.ckc_source.specs.Eval.{Store, evaluated}
use Rattle.ckc_blame_sound.specs.Settings.{Setting}
use Rattle.ckc_blame_sound.specs.Points.{HoldsAt}
use Rattle.ckc_blame_sound.specs.Steps.{IsCondition}

-- A condition that comes to a value leads to a side of it that holds, and else stops at a named check. It is not stuck.
abbrev pub LeadsTo : Setting → Store → List ℕ → (one other : Here) → Result Value Halt → Type 0
LeadsTo s store entry one other (Ok v) = HoldsAt s store entry (if v.number == 0 then other else one)
LeadsTo s store entry one other (Err (halt.Stopped why at)) = Unit {0}
LeadsTo s store entry one other (Err halt.Stuck) = ⊥

-- An expression does so wherever it is a condition of a statement of this mode, at a point that holds.
abbrev pub IsDecided : Setting → Mode → Store → List ℕ → Expr → Type 0
IsDecided s mode store entry e =
    (here one other : Here) → IsCondition s mode here e one other → HoldsAt s store entry here
    → LeadsTo s store entry one other (evaluated store e)

-- The point on the side of an expression that it comes to holds, or the expression stops at a named check. It is not
-- stuck.
abbrev pub HasSides : Setting → Store → List ℕ → Here → NotedExpr → Result Value Halt → Type 0
HasSides s store entry here e (Ok v) =
    (side : Bool) → (v.number == 0) ≡ not side
    → HoldsAt s store entry (record here { at = (view s.frame e).side side here.at })
HasSides s store entry here e (Err (halt.Stopped why at)) = Unit {0}
HasSides s store entry here e (Err halt.Stuck) = ⊥
