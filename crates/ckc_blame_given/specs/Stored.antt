-- Statements that assign, and what they become as they are judged.
use Rattle.std.specs.Prelude.{◌≡◌, ℕ, List, [], ◌∷◌, Ok}
use Rattle.ckc_syntax.specs.declared.tree.Name.{Name}
use Rattle.ckc_syntax.specs.declared.tree.Act.{Act-F, out-Act}
use Rattle.ckc_typed.specs.declared.typed.Note.{Note}
use Rattle.ckc_typed.specs.Trees.{NotedExpr, NotedStmt}
use Rattle.ckc_blame_sound.specs.ckc_bounds_points.specs.Flow.{State}
use Rattle.ckc_blame_sound.specs.ckc_bounds_views.specs.Parts.{fresh_behind}
use Rattle.ckc_blame_sound.specs.ckc_bounds_views.specs.Views.{view}
use Rattle.ckc_blame_sound.specs.ckc_bounds_stores.specs.Stores.{stores_of, stored}
use Rattle.ckc_blame_sound.specs.ckc_bounds_statements.specs.Paths.{Here}
use Rattle.ckc_blame_sound.specs.Settings.{Setting}
use Rattle.ckc_blame_given.specs.Written.{AreOne}

-- An assignment is judged at a point, from a first fresh variable on: its two sides are, one after the other.
pub record IsAssignJudged (s : Setting) (at : State) (fresh : ℕ) (before after : NotedStmt) : Type 0 where
  pub target : NotedExpr
  pub right : NotedExpr
  pub place : NotedExpr
  pub value : NotedExpr
  pub is : out-Act Name Note before.body ≡ Act-F.Assign target right
  pub becomes : out-Act Name Note after.body ≡ Act-F.Assign place value
  pub target_judged : (view s.frame target).judged fresh at ≡ Ok place
  pub right_judged : (view s.frame right).judged (fresh_behind (view s.frame target) fresh at) at ≡ Ok value

-- the number of the next fresh variable after both sides
abbrev pub next_fresh : (s : Setting) (at : State) (fresh : ℕ) (before after : NotedStmt)
    → IsAssignJudged s at fresh before after → ℕ
next_fresh s at fresh before after a =
    fresh_behind (view s.frame a.right) (fresh_behind (view s.frame a.target) fresh at) at

-- this of the assignments of a bundle, one after another
unfoldable pub AreAssignsJudged : Setting → State → ℕ → (befores afters : List NotedStmt) → Type 0
AreAssignsJudged s at fresh [] [] = Unit {0}
AreAssignsJudged s at fresh (before ∷ befores) (after ∷ afters) =
    (a : IsAssignJudged s at fresh before after)
    × AreAssignsJudged s at (next_fresh s at fresh before after a) befores afters
AreAssignsJudged s at fresh _ _ = ⊥

-- Assignments that are judged as one lead from a point to another one.
pub record AreStored (s : Setting) (here : Here) (ss : List NotedStmt) (there : Here) : Type 0 where
  pub one : AreOne ss
  pub leads : stored s.frame s.head.bounds here.seen (stores_of ss) here.next here.at ≡ Ok there.at
  pub seen : there.seen ≡ here.seen
