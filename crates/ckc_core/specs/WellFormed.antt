-- Which core code names only what is there.
use Rattle.std.specs.Prelude.{◌≡◌, ℕ, ◌≤◌, ◌<◌, ◌^◌, Bool, true, false, IsTrue, List, length, slice_get, Option, Some, None, All, IfSome}
use Rattle.ckc_base.specs.declared.places.Pos.{Pos}
use Rattle.ckc_core.specs.Code.{Expr, Const, Local, Load, Bin, High, Code, End, Set, Store, Check, Call, Get, Put, Alloc, If, Loop, Break, Continue, Return, Function, Program}

-- every local is one of so many, and every number is a word
abbrev pub IsExprOver : ℕ → Expr → Type 0
IsExprOver locals (Const n) = n < 2 ^ 32
IsExprOver locals (Local x) = x < locals
IsExprOver locals (Load width a) = IsExprOver locals a
IsExprOver locals (Bin op a b) = IsExprOver locals a × IsExprOver locals b
IsExprOver locals (High is_signed a b) = IsExprOver locals a × IsExprOver locals b

-- the function is there and has so many parameters
abbrev pub HasParams : ℕ → Option Function → Type 0
HasParams count (Some f) = f.params ≡ count
HasParams count None = ⊥

abbrev pub IsPlace : Pos → Type 0
IsPlace at = (at.line < 2 ^ 32) × (at.col < 2 ^ 32)

-- The statements name locals and functions that are there, calls have as many arguments as the function has
-- parameters, and Break and Continue stand only if the flag says that this is the body of a loop.
abbrev pub IsCodeOver : List Function → ℕ → Bool → Code → Type 0
IsCodeOver functions locals looped End = Unit {0}
IsCodeOver functions locals looped (Set x e rest) =
    (x < locals) × IsExprOver locals e × IsCodeOver functions locals looped rest
IsCodeOver functions locals looped (Store width a e rest) =
    IsExprOver locals a × IsExprOver locals e × IsCodeOver functions locals looped rest
IsCodeOver functions locals looped (Check check at e rest) =
    IsPlace at × IsExprOver locals e × IsCodeOver functions locals looped rest
IsCodeOver functions locals looped (Call target callee es at rest) =
    IfSome target (λ x. x < locals) × HasParams (length es) (slice_get functions callee) × All (IsExprOver locals) es
    × IsPlace at × IsCodeOver functions locals looped rest
IsCodeOver functions locals looped (Get x rest) = (x < locals) × IsCodeOver functions locals looped rest
IsCodeOver functions locals looped (Put e rest) = IsExprOver locals e × IsCodeOver functions locals looped rest
IsCodeOver functions locals looped (Alloc x e size rest) =
    (x < locals) × IsExprOver locals e × (size < 2 ^ 32) × IsCodeOver functions locals looped rest
IsCodeOver functions locals looped (If e one two rest) =
    IsExprOver locals e × IsCodeOver functions locals looped one × IsCodeOver functions locals looped two
    × IsCodeOver functions locals looped rest
IsCodeOver functions locals looped (Loop body step rest) =
    IsCodeOver functions locals true body × IsCodeOver functions locals false step × IsCodeOver functions locals looped rest
IsCodeOver functions locals looped (Break rest) = IsTrue looped × IsCodeOver functions locals looped rest
IsCodeOver functions locals looped (Continue rest) = IsTrue looped × IsCodeOver functions locals looped rest
IsCodeOver functions locals looped (Return e rest) = IsExprOver locals e × IsCodeOver functions locals looped rest

abbrev pub IsFunctionOver : List Function → Function → Type 0
IsFunctionOver functions f = (f.params ≤ f.locals) × IsCodeOver functions f.locals false f.body

-- every local and function that is named exists, calls have the right number of arguments, and `main` is there and
-- has no parameters
pub record IsWellFormed (p : Program) : Type 0 where
  pub functions : All (IsFunctionOver p.functions) p.functions
  pub main : HasParams 0 (slice_get p.functions p.main)
