-- What is asked of the statement of a step before it is judged, and what is said of the arguments of a call and
-- of what is returned once they are.
use Rattle.std.specs.Prelude.{◌≡◌, ℕ, true, false, List, [], ◌∷◌, Option, None, Some, Ok}
use Rattle.ckc_base.specs.declared.arithmetic.Mode.{Mode}
use Rattle.ckc_typed.specs.declared.typed.Typed.{Typed}
use Rattle.ckc_typed.specs.Conversions.{is_allocation}
use Rattle.ckc_typed.specs.Trees.{NotedExpr, NotedStmt}
use Rattle.ckc_typed_welltyped.specs.Productions.{callless_expr, given_stmt}
use Rattle.ckc_blame_sound.specs.ckc_bounds_views.specs.Parts.{fresh_behind}
use Rattle.ckc_blame_sound.specs.ckc_bounds_views.specs.Views.{view}
use Rattle.ckc_blame_sound.specs.ckc_bounds_statements.specs.Paths.{Here}
use Rattle.ckc_source.specs.Eval.{Store}
use Rattle.ckc_blame_sound.specs.Settings.{Setting}
use Rattle.ckc_blame_sound.specs.Sized.{HasOnlySized}
use Rattle.ckc_blame_sound.specs.Typed.{IsTyped}
use Rattle.ckc_blame_given.specs.ckc_blame_pointers.specs.Covered.{IsCovered}
use Rattle.ckc_blame_sound.specs.JudgedTexts.{globals_in}
use Rattle.ckc_blame_steps.specs.Checked.{IsOfMode}
use Rattle.ckc_blame_steps.specs.Told.{IsTold, IsSpoken}

-- ---- before

-- Of each typed expression of code of a mode without calls it is said what it comes to, as it is judged at a point.
abbrev pub AreSpoken : Mode → Typed → Setting → Here → Type 0
AreSpoken m p s here =
    (before after : NotedExpr) (fresh : ℕ) → IsTyped (globals_in p) s before → IsOfMode m before
    → callless_expr before ≡ true → (view s.frame before).judged fresh here.at ≡ Ok after → IsSpoken m s after

-- What is asked of a statement at a point: what is told of the names there, and what is said of expressions without
-- calls; the grammar gives the statement, and what it allocates has a size.
pub record Premises (m : Mode) (p : Typed) (s : Setting) (store : Store) (here : Here) (st : NotedStmt) : Type 0 where
  pub told : IsTold (globals_in p) s store here.seen
  pub spoken : AreSpoken m p s here
  pub given : (given_stmt st).fine ≡ true
  pub sized : HasOnlySized s.text.layout st

-- ---- after

-- A typed expression, which is no `calloc`, is judged at a point from a fresh variable on; what it is judged to be is
-- covered.
pub record IsCoveredThere (m : Mode) (p : Typed) (s : Setting) (store : Store) (here : Here) (e f : NotedExpr) (fresh : ℕ)
    : Type 0 where
  pub typed : IsTyped (globals_in p) s e
  pub whole : is_allocation e ≡ false
  pub judged : (view s.frame e).judged fresh here.at ≡ Ok f
  pub covered : IsCovered m s store here.seen f

-- this of each expression of a list, with the fresh variables of each after those in front of it
abbrev pub AreCoveredThere : Mode → Typed → Setting → Store → Here → List NotedExpr → List NotedExpr → ℕ → Type 0
AreCoveredThere m p s store here [] [] fresh = Unit {0}
AreCoveredThere m p s store here (e ∷ es) (f ∷ fs) fresh =
    IsCoveredThere m p s store here e f fresh
    × AreCoveredThere m p s store here es fs (fresh_behind (view s.frame e) fresh here.at)
AreCoveredThere m p s store here _ _ fresh = ⊥

-- this of an expression that there may be
abbrev pub IsCoveredIf : Mode → Typed → Setting → Store → Here → Option NotedExpr → Option NotedExpr → ℕ → Type 0
IsCoveredIf m p s store here None None fresh = Unit {0}
IsCoveredIf m p s store here (Some e) (Some f) fresh = IsCoveredThere m p s store here e f fresh
IsCoveredIf m p s store here _ _ fresh = ⊥
