-- The limits of core code that can be lowered: 2,000 locals in a function, 255 arguments of a call, expressions 1,000
-- deep.
use Rattle.std.specs.Prelude.{ℕ, ◌+◌, ◌≤◌, max, length, All}
use Rattle.ckc_core.specs.Code.{Expr, Const, Local, Load, Bin, High, Code, End, Set, Store, Check, Call, Get, Put, Alloc, If, Loop, Break, Continue, Return, Function, Program}

-- how many nodes the longest path down an expression has
abbrev pub depth : Expr → ℕ
depth (Const n) = 1
depth (Local x) = 1
depth (Load width a) = 1 + depth a
depth (Bin op a b) = 1 + max (depth a) (depth b)
depth (High is_signed a b) = 1 + max (depth a) (depth b)

abbrev pub IsShallow : Expr → Type 0
IsShallow e = depth e ≤ 1000

abbrev pub KeepsLimits : Code → Type 0
KeepsLimits End = Unit {0}
KeepsLimits (Set x e rest) = IsShallow e × KeepsLimits rest
KeepsLimits (Store width a e rest) = IsShallow a × IsShallow e × KeepsLimits rest
KeepsLimits (Check check at e rest) = IsShallow e × KeepsLimits rest
KeepsLimits (Call target callee es at rest) = (length es ≤ 255) × All IsShallow es × KeepsLimits rest
KeepsLimits (Get x rest) = KeepsLimits rest
KeepsLimits (Put e rest) = IsShallow e × KeepsLimits rest
KeepsLimits (Alloc x e size rest) = IsShallow e × KeepsLimits rest
KeepsLimits (If e one two rest) = IsShallow e × KeepsLimits one × KeepsLimits two × KeepsLimits rest
KeepsLimits (Loop body step rest) = KeepsLimits body × KeepsLimits step × KeepsLimits rest
KeepsLimits (Break rest) = KeepsLimits rest
KeepsLimits (Continue rest) = KeepsLimits rest
KeepsLimits (Return e rest) = IsShallow e × KeepsLimits rest

abbrev pub IsSmallFunction : Function → Type 0
IsSmallFunction f = (f.locals ≤ 2000) × KeepsLimits f.body

abbrev pub IsWithinLimits : Program → Type 0
IsWithinLimits p = All IsSmallFunction p.functions
