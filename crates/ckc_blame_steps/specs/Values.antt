-- Expressions of which the values are numbered in words.
use Rattle.std.specs.Prelude.{◌+◌, ◌<◌, ◌^◌}
use Rattle.ckc_syntax.specs.declared.tree.Name.{Name}
use Rattle.ckc_syntax.specs.declared.tree.Expr.{Expr-F, every-Expr}
use Rattle.ckc_typed.specs.declared.typed.Note.{Note}
use Rattle.ckc_typed.specs.Trees.{NotedLimits, NotedNode, NotedExpr}
use Rattle.ckc_typed_welltyped.specs.Expressions.{AnyLimits, AnyNode}
use Rattle.ckc_blame_sound.specs.ckc_bounds_points.specs.declared.frame.Frame.{Frame}
use Rattle.ckc_blame_sound.specs.ckc_bounds_views.specs.Views.{view}

-- an expression has so few values, with one more, that a word numbers them
abbrev pub HasFewValues : Frame → Expr-F Name Note NotedLimits NotedNode NotedExpr → Type 0
HasFewValues frame e = (view frame (record { node = e.node; pos = e.pos; note = e.note })).values + 1 < 2 ^ 32

-- an expression and each expression in it, however deep
abbrev pub HaveFewValues : Frame → NotedExpr → Type 0
HaveFewValues frame = every-Expr Name Note AnyLimits AnyNode (HasFewValues frame)
