-- The numbers in a program fit in 32 bits: those that stand for words are words, and those that are added to a place are
-- small. The places in the text are left to Places.
use Rattle.std.specs.Prelude.{◌<◌, ◌^◌, List, [], ◌∷◌, Option, Some, None, All, IfSome}
use Rattle.ckc_source.specs.declared.expr.Access.{Access}
use Rattle.ckc_source.specs.declared.expr.Base.{Base}
use Rattle.ckc_source.specs.declared.expr.Base.TheVariants as bases
use Rattle.ckc_source.specs.declared.expr.End.{End as LimitsEnd}
use Rattle.ckc_source.specs.declared.expr.Limits.{Limits}
use Rattle.ckc_source.specs.declared.expr.Shift.{Shift}
use Rattle.ckc_source.specs.declared.program.Interface.{Interface}
use Rattle.ckc_source.specs.declared.program.Object.{Object}
use Rattle.ckc_source.specs.declared.stmt.Kept.{Kept}
use Rattle.ckc_source.specs.declared.stmt.Kept.TheVariants as kept
use Rattle.ckc_source.specs.Code.{Expr, Number, Local, Limited, Array, Load, Member, Address, Moved, Added, Binary, And, Or, Choice, Narrow, Bare, Tested, Trusted, Target, Nothing, Variable, Memory, Right, Value, Fresh, Code, End, Assign, Bundle, Get, Put, Call, If, Loop, Break, Continue, Return, Check, Function, Program}
use Rattle.ckc_checks_operands.specs.Compilable.{IsCount, IsSmall}

-- ---- expressions

abbrev pub BaseFits : Base → Type 0
BaseFits bases.Own = Unit {0}
BaseFits (bases.Local x) = Unit {0}
BaseFits (bases.Fixed a) = a < 2 ^ 32

abbrev pub EndFits : LimitsEnd → Type 0
EndFits e = BaseFits e.base × IsSmall e.add

-- the limits of a local pointer
abbrev pub LimitsFit : Limits → Type 0
LimitsFit limits = (limits.to.size < 2 ^ 32) × EndFits limits.lower × EndFits limits.upper

abbrev pub AccessFits : Access → Type 0
AccessFits access = (access.size < 2 ^ 32) × (access.offset < 2 ^ 32)

abbrev pub ShiftFits : Shift → Type 0
ShiftFits shift = shift.size < 2 ^ 32

-- the numbers in an expression, however deep
abbrev pub ExprFits : Expr → Type 0
ExprFits (Number n) = n < 2 ^ 32
ExprFits (Local x) = Unit {0}
ExprFits (Limited x limits) = LimitsFit limits
ExprFits (Array at bytes) = (at < 2 ^ 32) × (bytes < 2 ^ 32)
ExprFits (Load width access p i) = AccessFits access × ExprFits p × ExprFits i
ExprFits (Member to count access p i) = (to.size < 2 ^ 32) × IsCount count × AccessFits access × ExprFits p × ExprFits i
ExprFits (Address bytes access p i) = (bytes < 2 ^ 32) × AccessFits access × ExprFits p × ExprFits i
ExprFits (Moved shift p i) = ShiftFits shift × ExprFits p × ExprFits i
ExprFits (Added shift i p) = ShiftFits shift × ExprFits i × ExprFits p
ExprFits (Binary operation is_signed at a b) = ExprFits a × ExprFits b
ExprFits (And a b) = ExprFits a × ExprFits b
ExprFits (Or a b) = ExprFits a × ExprFits b
ExprFits (Choice c a b) = ExprFits c × ExprFits a × ExprFits b
ExprFits (Narrow e) = ExprFits e
ExprFits (Bare p) = ExprFits p
ExprFits (Tested size form at p k) = (size < 2 ^ 32) × ExprFits p × ExprFits k
ExprFits (Trusted to form p k) = (to.size < 2 ^ 32) × ExprFits p × ExprFits k

-- this of each of some
abbrev pub ExprsFit : List Expr → Type 0
ExprsFit [] = Unit {0}
ExprsFit (e ∷ es) = ExprFits e × ExprsFit es

-- ---- statements

abbrev pub TargetFits : Target → Type 0
TargetFits Nothing = Unit {0}
TargetFits (Variable x width) = Unit {0}
TargetFits (Memory width access p i) = AccessFits access × ExprFits p × ExprFits i

abbrev pub RightFits : Right → Type 0
RightFits (Value e) = ExprFits e
RightFits (Fresh to e) = (to.size < 2 ^ 32) × ExprFits e

-- the assignments of a bundle
abbrev pub AssignsFit : List (Target × Right) → Type 0
AssignsFit [] = Unit {0}
AssignsFit (a ∷ rest) = TargetFits a.0 × RightFits a.1 × AssignsFit rest

-- what keeps the result of a call
abbrev pub KeptFits : Option Kept → Type 0
KeptFits None = Unit {0}
KeptFits (Some (kept.Local x width)) = Unit {0}
KeptFits (Some (kept.Static a width)) = a < 2 ^ 32

-- the numbers in statements and in those after them
abbrev pub CodeFits : Code → Type 0
CodeFits End = Unit {0}
CodeFits (Assign spot target right rest) = TargetFits target × RightFits right × CodeFits rest
CodeFits (Bundle spot assigns rest) = AssignsFit assigns × CodeFits rest
CodeFits (Get spot target rest) = TargetFits target × CodeFits rest
CodeFits (Put spot target e rest) = TargetFits target × ExprFits e × CodeFits rest
CodeFits (Call spot target callee es rest) = KeptFits target × ExprsFit es × CodeFits rest
CodeFits (If spot e one two rest) = ExprFits e × CodeFits one × CodeFits two × CodeFits rest
CodeFits (Loop spot e body step rest) = ExprFits e × CodeFits body × CodeFits step × CodeFits rest
CodeFits (Break rest) = CodeFits rest
CodeFits (Continue rest) = CodeFits rest
CodeFits (Return spot e rest) = ExprFits e × CodeFits rest
CodeFits (Check spot e rest) = ExprFits e × CodeFits rest

-- ---- programs

-- the numbers in a function: in its body, in the limits of its result, and in those of its interfaces
pub record FunctionFits (f : Function) : Type 0 where
  pub body : CodeFits f.body
  pub result : IfSome f.result LimitsFit
  pub interfaces : All (λ (i : Interface). LimitsFit i.limits) f.interfaces

-- the address of an object and the size of an element
abbrev pub ObjectFits : Object → Type 0
ObjectFits o = (o.at < 2 ^ 32) × (o.size < 2 ^ 32)

-- the numbers in a program
pub record NumbersFit (p : Program) : Type 0 where
  pub objects : All ObjectFits p.objects
  pub functions : All FunctionFits p.functions
