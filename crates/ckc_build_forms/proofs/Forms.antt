-- The form that a program of a text has, but for the places in the text that it names: numbers fit in 32 bits, locals are
-- there, elements have sizes, ranges that are computed lie below the end of memory, expressions are at most 200 deep,
-- bundles have one to eight assignments, and calls have as many arguments as there are parameters.
use Rattle.std.specs.Prelude.{ℕ, ◌+◌, ◌≤◌, ◌<◌, ◌^◌, Bool, true, false, IsTrue, List, [], ◌∷◌, length, slice_get, Option, Some, None}
use Rattle.ckc_source.specs.declared.expr.Access.{Access}
use Rattle.ckc_source.specs.declared.expr.Base.{Base}
use Rattle.ckc_source.specs.declared.expr.Base.TheVariants as bases
use Rattle.ckc_source.specs.declared.expr.End.{End as LimitsEnd}
use Rattle.ckc_source.specs.declared.expr.Limits.{Limits}
use Rattle.ckc_source.specs.declared.expr.Through.{Through}
use Rattle.ckc_source.specs.declared.expr.Through.TheVariants.{Named, Raw, One, Array as Arrays, Terminated}
use Rattle.ckc_source.specs.declared.stmt.Kept.{Kept}
use Rattle.ckc_source.specs.declared.stmt.Kept.TheVariants as kept
use Rattle.ckc_checks_operands.specs.Cases.{casts_one, is_ranged}
use Rattle.ckc_checks_operands.specs.Compilable.{depth, IsZero, IsVariable, IsSmall, IsCount, EndsLow, IsTestedSize, HasParams}
use Rattle.ckc_source.specs.Code.{Expr, Number, Local, Limited, Array, Load, Member, Address, Moved, Added, Binary, And, Or, Choice, Narrow, Bare, Tested, Trusted, Target, Nothing, Variable, Memory, Right, Value, Fresh, Code, End, Assign, Bundle, Get, Put, Call, If, Loop, Break, Continue, Return, Check, Function}

-- ---- ranges

abbrev pub BaseForm : ℕ → Base → Type 0
BaseForm locals bases.Own = Unit {0}
BaseForm locals (bases.Local x) = x < locals
BaseForm locals (bases.Fixed a) = a < 2 ^ 32

abbrev pub EndForm : ℕ → LimitsEnd → Type 0
EndForm locals e = BaseForm locals e.base × IsVariable locals e.variable × IsSmall e.add

abbrev pub LimitsForm : ℕ → Limits → Type 0
LimitsForm locals limits = (limits.to.size < 2 ^ 32) × EndForm locals limits.lower × EndForm locals limits.upper

-- a range that is computed where it is tested
abbrev pub RangedForm : ℕ → Expr → Type 0
RangedForm locals (Limited x limits) = LimitsForm locals limits
RangedForm locals (Array at bytes) = at + bytes < 2 ^ 32
RangedForm locals (Member to count access p i) = (to.size < 2 ^ 32) × IsCount count
RangedForm locals (Address bytes access p i) = EndsLow access bytes p
RangedForm locals (Moved shift p i) = RangedForm locals p
RangedForm locals (Added shift i p) = RangedForm locals p
RangedForm locals _ = ⊥

-- a range that is a value
abbrev pub RangeForm : ℕ → Expr → Type 0
RangeForm locals (Limited x limits) = LimitsForm locals limits
RangeForm locals (Array at bytes) = bytes < 2 ^ 32
RangeForm locals (Member to count access p i) = (to.size < 2 ^ 32) × IsCount count
RangeForm locals (Address bytes access p i) = bytes < 2 ^ 32
RangeForm locals (Moved shift p i) = RangeForm locals p
RangeForm locals (Added shift i p) = RangeForm locals p
RangeForm locals (Choice c a b) = RangeForm locals a × RangeForm locals b
RangeForm locals (Tested size form at p k) = IsTestedSize size × RangeForm locals p
RangeForm locals (Trusted to form p k) = to.size < 2 ^ 32
RangeForm locals _ = Unit {0}

abbrev pub BoundedForm : ℕ → Bool → Expr → Type 0
BoundedForm locals true p = RangedForm locals p
BoundedForm locals false p = RangeForm locals p

-- ---- expressions

-- the ways to judge an access
abbrev pub JudgedForm : ℕ → Through → ℕ → Expr → Expr → Type 0
JudgedForm locals Named size p i = Unit {0}
JudgedForm locals Raw size p i = Unit {0}
JudgedForm locals One size p i = IsZero i
JudgedForm locals Arrays size p i = IsTestedSize size × BoundedForm locals (is_ranged p) p
JudgedForm locals Terminated size p i = IsTestedSize size × BoundedForm locals (is_ranged p) p

abbrev pub AccessForm : ℕ → Access → Expr → Expr → Type 0
AccessForm locals access p i =
    (access.size < 2 ^ 32) × (access.offset < 2 ^ 32) × JudgedForm locals access.through access.size p i

abbrev pub ShiftForm : Bool → ℕ → Type 0
ShiftForm false size = Unit {0}
ShiftForm true size = IsTestedSize size

abbrev pub CastForm : ℕ → Bool → ℕ → Expr → Type 0
CastForm locals true size p = Unit {0}
CastForm locals false size p = IsTestedSize size × RangeForm locals p

abbrev pub ExprForm : ℕ → Expr → Type 0
ExprForm locals (Number n) = n < 2 ^ 32
ExprForm locals (Local x) = x < locals
ExprForm locals (Limited x limits) = (x < locals) × LimitsForm locals limits
ExprForm locals (Array at bytes) = (at < 2 ^ 32) × (bytes < 2 ^ 32)
ExprForm locals (Load width access p i) = AccessForm locals access p i × ExprForm locals p × ExprForm locals i
ExprForm locals (Member to count access p i) =
    (to.size < 2 ^ 32) × IsCount count × AccessForm locals access p i × ExprForm locals p × ExprForm locals i
ExprForm locals (Address bytes access p i) = (bytes < 2 ^ 32) × AccessForm locals access p i × ExprForm locals p × ExprForm locals i
ExprForm locals (Moved shift p i) = (shift.size < 2 ^ 32) × ShiftForm shift.checked shift.size × ExprForm locals p × ExprForm locals i
ExprForm locals (Added shift i p) = (shift.size < 2 ^ 32) × ShiftForm shift.checked shift.size × ExprForm locals i × ExprForm locals p
ExprForm locals (Binary operation is_signed at a b) = ExprForm locals a × ExprForm locals b
ExprForm locals (And a b) = ExprForm locals a × ExprForm locals b
ExprForm locals (Or a b) = ExprForm locals a × ExprForm locals b
ExprForm locals (Choice c a b) = ExprForm locals c × ExprForm locals a × ExprForm locals b
ExprForm locals (Narrow e) = ExprForm locals e
ExprForm locals (Bare p) = ExprForm locals p
ExprForm locals (Tested size form at p k) = (size < 2 ^ 32) × CastForm locals (casts_one size p k) size p × ExprForm locals p × ExprForm locals k
ExprForm locals (Trusted to form p k) = (to.size < 2 ^ 32) × ExprForm locals p × ExprForm locals k

-- an expression in a statement
abbrev pub PartForm : ℕ → Expr → Type 0
PartForm locals e = ExprForm locals e × (depth e ≤ 200)

-- ---- statements

abbrev pub TargetForm : ℕ → Target → Type 0
TargetForm locals Nothing = Unit {0}
TargetForm locals (Variable x width) = x < locals
TargetForm locals (Memory width access p i) = AccessForm locals access p i × PartForm locals p × PartForm locals i

abbrev pub RightForm : ℕ → Right → Type 0
RightForm locals (Value e) = PartForm locals e
RightForm locals (Fresh to e) = (to.size < 2 ^ 32) × PartForm locals e

abbrev pub AssignsForm : ℕ → List (Target × Right) → Type 0
AssignsForm locals [] = Unit {0}
AssignsForm locals (a ∷ rest) = TargetForm locals a.0 × RightForm locals a.1 × AssignsForm locals rest

abbrev pub PartsForm : ℕ → List Expr → Type 0
PartsForm locals [] = Unit {0}
PartsForm locals (e ∷ es) = PartForm locals e × PartsForm locals es

abbrev pub KeptForm : ℕ → Option Kept → Type 0
KeptForm locals None = Unit {0}
KeptForm locals (Some (kept.Local x width)) = x < locals
KeptForm locals (Some (kept.Static a width)) = a < 2 ^ 32

abbrev pub CodeForm : List Function → ℕ → Bool → Code → Type 0
CodeForm functions locals looped End = Unit {0}
CodeForm functions locals looped (Assign spot target right rest) = TargetForm locals target × RightForm locals right × CodeForm functions locals looped rest
CodeForm functions locals looped (Bundle spot assigns rest) =
    (1 ≤ length assigns) × (length assigns ≤ 8) × AssignsForm locals assigns × CodeForm functions locals looped rest
CodeForm functions locals looped (Get spot target rest) = TargetForm locals target × CodeForm functions locals looped rest
CodeForm functions locals looped (Put spot target e rest) = TargetForm locals target × PartForm locals e × CodeForm functions locals looped rest
CodeForm functions locals looped (Call spot target callee es rest) =
    KeptForm locals target × HasParams (length es) (slice_get functions callee) × PartsForm locals es × CodeForm functions locals looped rest
CodeForm functions locals looped (If spot e one two rest) =
    PartForm locals e × CodeForm functions locals looped one × CodeForm functions locals looped two × CodeForm functions locals looped rest
CodeForm functions locals looped (Loop spot e body step rest) =
    PartForm locals e × CodeForm functions locals true body × CodeForm functions locals false step × CodeForm functions locals looped rest
CodeForm functions locals looped (Break rest) = IsTrue looped × CodeForm functions locals looped rest
CodeForm functions locals looped (Continue rest) = IsTrue looped × CodeForm functions locals looped rest
CodeForm functions locals looped (Return spot e rest) = PartForm locals e × CodeForm functions locals looped rest
CodeForm functions locals looped (Check spot e rest) = PartForm locals e × CodeForm functions locals looped rest
