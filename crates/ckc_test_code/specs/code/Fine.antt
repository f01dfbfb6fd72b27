-- What is read of a text names only what is there, and keeps the limits of core code.
use Rattle.std.specs.Prelude.{◌≡◌, ℕ, ◌≤◌, ◌<◌, ◌^◌, Bool, false, List, map, slice_get, Some}
use Rattle.ckc_core.specs.declared.code.CoreExpr.{CoreExpr}
use Rattle.ckc_core.specs.declared.code.CoreStmt.{CoreStmt}
use Rattle.ckc_core.specs.declared.code.CoreFunc.{CoreFunc}
use Rattle.ckc_core.specs.Code.{Expr, Code, Function, expr_of, chained, stmt_of}
use Rattle.ckc_core.specs.WellFormed.{IsExprOver, IsCodeOver}
use Rattle.ckc_core.specs.Limits.{depth, KeepsLimits}
use Rattle.ckc_test_code.specs.declared.exprs.Head.{Head}
use Rattle.ckc_test_code.specs.declared.exprs.Head.TheVariants.{Number, Local, Load, High, Bin}

-- the local is one of so many
abbrev pub IsHeadOver : ℕ → Head → Type 0
IsHeadOver locals (Number n) = n < 2 ^ 32
IsHeadOver locals (Local x) = x < locals
IsHeadOver locals (Load width) = Unit {0}
IsHeadOver locals (High is_signed) = Unit {0}
IsHeadOver locals (Bin op) = Unit {0}

-- an expression over so many locals, at most so deep
abbrev pub IsExpr : (locals deep : ℕ) → CoreExpr → Type 0
IsExpr locals deep e = IsExprOver locals (expr_of e) × (depth (expr_of e) ≤ deep)

-- What is put in front of code keeps it well formed over all functions with these numbers of parameters, and within
-- the limits.
pub record IsFine (params : List ℕ) (locals : ℕ) (looped : Bool) (puts : Code → Code) : Type 0 where
  pub over : (functions : List Function) → map (λ (f : Function). f.params) functions ≡ params
      → (rest : Code) → IsCodeOver functions locals looped rest
      → IsCodeOver functions locals looped (puts rest)
  pub limits : (rest : Code) → KeepsLimits rest → KeepsLimits (puts rest)

abbrev pub IsStmt : List ℕ → ℕ → Bool → CoreStmt → Type 0
IsStmt params locals looped s = IsFine params locals looped (stmt_of s)

abbrev pub IsBody : List ℕ → ℕ → Bool → List CoreStmt → Type 0
IsBody params locals looped stmts = IsFine params locals looped (chained (map stmt_of stmts))

-- the function is there, with so many parameters, at most 255
pub record IsFitting (params : List ℕ) (callee count : ℕ) : Type 0 where
  pub is : slice_get params callee ≡ Some count
  pub few : count ≤ 255

-- a function with few locals, and a body over them
pub record IsFunction (params : List ℕ) (f : CoreFunc) : Type 0 where
  pub enough : f.params ≤ f.locals
  pub few : f.locals ≤ 2000
  pub body : IsBody params f.locals false f.body
