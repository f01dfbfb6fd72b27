-- Programs that can be compiled: names exist, numbers fit, functions and expressions are small.
use Rattle.std.specs.Prelude.{◌≡◌, ℤ, pos, neg_ℤ, ◌≤ℤ◌, ◌<ℤ◌, ℕ, ◌+◌, ◌≤◌, ◌<◌, ◌^◌, ◌==◌, if◌then◌else◌, max, Bool, true, false, not, ◌&&◌, IsTrue, List, [], ◌∷◌, length, slice_get, sum_by, Option, Some, None, All, IfSome}
use Rattle.ckc_base.specs.MemoryMap.{statics_end}
use Rattle.ckc_core.specs.WellFormed.{IsPlace}
use Rattle.ckc_source.specs.Eval.{place_in}
use Rattle.ckc_base.specs.declared.places.Pos.{Pos}
use Rattle.ckc_source.specs.declared.expr.Access.{Access}
use Rattle.ckc_source.specs.declared.expr.Base.{Base}
use Rattle.ckc_source.specs.declared.expr.Base.TheVariants as bases
use Rattle.ckc_source.specs.declared.expr.Count.{Count}
use Rattle.ckc_source.specs.declared.expr.Count.TheVariants as counts
use Rattle.ckc_source.specs.declared.expr.End.{End as LimitsEnd}
use Rattle.ckc_source.specs.declared.expr.Limits.{Limits}
use Rattle.ckc_source.specs.declared.expr.Shift.{Shift}
use Rattle.ckc_source.specs.declared.expr.Variable.{Variable as IntegerLocal}
use Rattle.ckc_source.specs.declared.expr.Through.{Through}
use Rattle.ckc_source.specs.declared.expr.Through.TheVariants.{Named, Raw, One, Array as Arrays, Terminated}
use Rattle.ckc_source.specs.declared.program.Object.{Object}
use Rattle.ckc_source.specs.declared.stmt.Kept.{Kept}
use Rattle.ckc_source.specs.declared.stmt.Kept.TheVariants as kept
use Rattle.ckc_checks_operands.specs.Cases.{casts_one, is_ranged, takes_range}
use Rattle.ckc_source.specs.Code.{Expr, Number, Local, Limited, Array, Load, Member, Address, Moved, Added, Binary, And, Or, Choice, Narrow, Bare, Tested, Trusted, Target, Nothing, Variable, Memory, Right, Value, Fresh, Code, End, Assign, Bundle, Get, Put, Call, If, Loop, Break, Continue, Return, Check, Function, Program}

-- ---- measures

-- how many nodes the longest path down an expression has
abbrev pub depth : Expr → ℕ
depth (Load width access p i) = 1 + max (depth p) (depth i)
depth (Member to count access p i) = 1 + max (depth p) (depth i)
depth (Address bytes access p i) = 1 + max (depth p) (depth i)
depth (Moved shift p i) = 1 + max (depth p) (depth i)
depth (Added shift i p) = 1 + max (depth i) (depth p)
depth (Binary operation is_signed at a b) = 1 + max (depth a) (depth b)
depth (And a b) = 1 + max (depth a) (depth b)
depth (Or a b) = 1 + max (depth a) (depth b)
depth (Choice c a b) = 1 + max (depth c) (max (depth a) (depth b))
depth (Narrow e) = 1 + depth e
depth (Bare p) = 1 + depth p
depth (Tested size form at p k) = 1 + max (depth p) (depth k)
depth (Trusted to form p k) = 1 + max (depth p) (depth k)
depth _ = 1

-- How many nodes an access counts for that is judged by the range of its pointer, by whether the range is a value: the
-- first element needs no arithmetic.
abbrev pub element_nodes : Bool → Expr → ℕ
element_nodes false (Number n) = if n == 0 then 4 else 6
element_nodes false _ = 6
element_nodes true (Number n) = if n == 0 then 3 else 5
element_nodes true _ = 5

-- how many nodes an access through a pointer at an index counts for, beside these
abbrev pub access_nodes : Through → (p i : Expr) → ℕ
access_nodes Named p i = 1
access_nodes Raw p i = 2
access_nodes One p i = 2
access_nodes Arrays p i = element_nodes (not (is_ranged p)) i
access_nodes Terminated p i = element_nodes (not (is_ranged p)) i

-- how many nodes pointer arithmetic counts for, by whether it is checked
abbrev pub shift_nodes : Bool → ℕ
shift_nodes true = 3
shift_nodes false = 1

-- an index counts for nothing if it is a number
abbrev pub index_nodes : Expr → ℕ → ℕ
index_nodes (Number n) count = 0
index_nodes i count = count

-- a range that is a value counts for one more
abbrev pub range_nodes : Bool → ℕ
range_nodes true = 1
range_nodes false = 0

-- how many nodes an expression has, by whether its range is a value
abbrev pub value_nodes : Bool → Expr → ℕ
value_nodes ranged (Load width access p i) =
    range_nodes ranged + access_nodes access.through p i + value_nodes (takes_range access.through p) p
    + index_nodes i (value_nodes false i)
value_nodes ranged (Member to count access p i) =
    range_nodes ranged + access_nodes access.through p i + value_nodes (takes_range access.through p) p
    + index_nodes i (value_nodes false i)
value_nodes ranged (Address bytes access p i) =
    range_nodes ranged + access_nodes access.through p i + value_nodes (takes_range access.through p) p
    + index_nodes i (value_nodes false i)
value_nodes ranged (Moved shift p i) = shift_nodes shift.checked + value_nodes ranged p + value_nodes false i
value_nodes ranged (Added shift i p) =
    range_nodes ranged + shift_nodes shift.checked + value_nodes false i + value_nodes ranged p
value_nodes ranged (Binary operation is_signed at a b) = range_nodes ranged + 1 + value_nodes false a + value_nodes false b
value_nodes ranged (And a b) = range_nodes ranged + 1 + value_nodes false a + value_nodes false b
value_nodes ranged (Or a b) = range_nodes ranged + 1 + value_nodes false a + value_nodes false b
value_nodes ranged (Choice c a b) = 1 + value_nodes false c + value_nodes ranged a + value_nodes ranged b
value_nodes ranged (Narrow e) = range_nodes ranged + 1 + value_nodes false e
value_nodes ranged (Bare p) = range_nodes ranged + 1 + value_nodes false p
value_nodes ranged (Tested size form at p k) =
    if not ranged && casts_one size p k then 1 + value_nodes false p + value_nodes false k
    else 5 + value_nodes true p + index_nodes k (value_nodes false k)
value_nodes ranged (Trusted to form p k) = range_nodes ranged + 1 + value_nodes false p + value_nodes false k
value_nodes ranged _ = range_nodes ranged + 1

abbrev pub expr_nodes : Expr → ℕ
expr_nodes = value_nodes false

abbrev pub exprs_nodes : List Expr → ℕ
exprs_nodes [] = 0
exprs_nodes (e ∷ es) = expr_nodes e + exprs_nodes es

-- where zero alone may be written
abbrev pub guard_nodes : Through → ℕ
guard_nodes Terminated = 3
guard_nodes _ = 0

abbrev pub target_nodes : Target → ℕ
target_nodes (Memory width access p i) =
    guard_nodes access.through + access_nodes access.through p i + value_nodes (takes_range access.through p) p + index_nodes i (expr_nodes i)
target_nodes _ = 0

abbrev pub right_nodes : Right → ℕ
right_nodes (Value e) = expr_nodes e
right_nodes (Fresh to e) = expr_nodes e

-- each assignment of a bundle is a node too
abbrev pub assigns_nodes : List (Target × Right) → ℕ
assigns_nodes [] = 0
assigns_nodes (a ∷ assigns) = 1 + target_nodes a.0 + right_nodes a.1 + assigns_nodes assigns

-- a statement is a node, and a call counts one more
abbrev pub code_nodes : Code → ℕ
code_nodes End = 0
code_nodes (Assign spot target right rest) = 1 + target_nodes target + right_nodes right + code_nodes rest
code_nodes (Bundle spot assigns rest) = 1 + assigns_nodes assigns + code_nodes rest
code_nodes (Get spot target rest) = 1 + target_nodes target + code_nodes rest
code_nodes (Put spot target e rest) = 1 + target_nodes target + expr_nodes e + code_nodes rest
code_nodes (Call spot target callee es rest) = 2 + exprs_nodes es + code_nodes rest
code_nodes (If spot e one two rest) = 1 + expr_nodes e + code_nodes one + code_nodes two + code_nodes rest
code_nodes (Loop spot e body step rest) = 1 + expr_nodes e + code_nodes body + code_nodes step + code_nodes rest
code_nodes (Break rest) = 1 + code_nodes rest
code_nodes (Continue rest) = 1 + code_nodes rest
code_nodes (Return spot e rest) = 1 + expr_nodes e + code_nodes rest
code_nodes (Check spot e rest) = 1 + expr_nodes e + code_nodes rest

-- a function and each of its locals are nodes too
abbrev pub function_nodes : Function → ℕ
function_nodes f = 1 + f.locals + code_nodes f.body

abbrev pub program_nodes : Program → ℕ
program_nodes p = sum_by function_nodes p.functions

-- ---- expressions

abbrev pub IsZero : Expr → Type 0
IsZero (Number n) = n ≡ 0
IsZero _ = ⊥

-- an end of limits over so many locals; its number is one of 32 bits
abbrev pub IsBase : ℕ → Base → Type 0
IsBase locals bases.Own = Unit {0}
IsBase locals (bases.Local x) = x < locals
IsBase locals (bases.Fixed a) = a < 2 ^ 32

abbrev pub IsVariable : ℕ → Option IntegerLocal → Type 0
IsVariable locals None = Unit {0}
IsVariable locals (Some x) = x.local < locals

abbrev pub IsSmall : ℤ → Type 0
IsSmall n = (neg_ℤ (pos (2 ^ 31)) ≤ℤ n) × (n <ℤ pos (2 ^ 31))

abbrev pub IsEnd : ℕ → LimitsEnd → Type 0
IsEnd locals e = IsBase locals e.base × IsVariable locals e.variable × IsSmall e.add

abbrev pub AreEnds : ℕ → Limits → Type 0
AreEnds locals limits = (limits.to.size < 2 ^ 32) × IsEnd locals limits.lower × IsEnd locals limits.upper

-- so many bytes from there on end at an address
abbrev pub EndsLow : Access → ℕ → Expr → Type 0
EndsLow access bytes (Number a) = place_in a access.offset + bytes < 2 ^ 32
EndsLow access bytes _ = ⊥

-- the numbers of a count
abbrev pub IsCount : Count → Type 0
IsCount (counts.Fixed n) = IsSmall n
IsCount (counts.Member offset form add) = (offset < 2 ^ 32) × IsSmall add

-- the numbers of a range that is computed where it is tested
abbrev pub IsRanged : ℕ → Expr → Type 0
IsRanged locals (Limited x limits) = AreEnds locals limits
IsRanged locals (Array at bytes) = at + bytes < 2 ^ 32
IsRanged locals (Member to count access p i) = (to.size < 2 ^ 32) × IsCount count
IsRanged locals (Address bytes access p i) = EndsLow access bytes p
IsRanged locals (Moved shift p i) = IsRanged locals p
IsRanged locals (Added shift i p) = IsRanged locals p
IsRanged locals _ = ⊥

abbrev pub IsTestedSize : ℕ → Type 0
IsTestedSize size = (1 ≤ size) × (size < 2 ^ 31)

-- the numbers of a range that is a value
abbrev pub HasRange : ℕ → Expr → Type 0
HasRange locals (Limited x limits) = AreEnds locals limits
HasRange locals (Array at bytes) = bytes < 2 ^ 32
HasRange locals (Member to count access p i) = (to.size < 2 ^ 32) × IsCount count
HasRange locals (Address bytes access p i) = bytes < 2 ^ 32
HasRange locals (Moved shift p i) = HasRange locals p
HasRange locals (Added shift i p) = HasRange locals p
HasRange locals (Choice c a b) = HasRange locals a × HasRange locals b
HasRange locals (Tested size form at p k) = IsPlace at × IsTestedSize size × HasRange locals p
HasRange locals (Trusted to form p k) = to.size < 2 ^ 32
HasRange locals _ = Unit {0}

-- a pointer of which the range is tested
abbrev pub IsBounded : ℕ → Bool → Expr → Type 0
IsBounded locals true p = IsRanged locals p
IsBounded locals false p = HasRange locals p

-- the ways to judge an access to elements of a size, through a pointer at an index; `_Ptr` has one element
abbrev pub IsJudged : ℕ → Through → ℕ → Expr → Expr → Type 0
IsJudged locals Named size p i = Unit {0}
IsJudged locals Raw size p i = Unit {0}
IsJudged locals One size p i = IsZero i
IsJudged locals Arrays size p i = (1 ≤ size) × (size < 2 ^ 31) × IsBounded locals (is_ranged p) p
IsJudged locals Terminated size p i = (1 ≤ size) × (size < 2 ^ 31) × IsBounded locals (is_ranged p) p

-- an access through a pointer at an index
abbrev pub IsAccess : ℕ → Access → Expr → Expr → Type 0
IsAccess locals access p i =
    IsPlace access.at × (access.size < 2 ^ 32) × (access.offset < 2 ^ 32) × IsJudged locals access.through access.size p i

abbrev pub IsChecked : Bool → Shift → Type 0
IsChecked false shift = Unit {0}
IsChecked true shift = IsPlace shift.at × (1 ≤ shift.size) × (shift.size < 2 ^ 31)

abbrev pub IsShift : Shift → Type 0
IsShift shift = (shift.size < 2 ^ 32) × IsChecked shift.checked shift

-- a bounds cast that is tested, if the flag does not say that it needs no test
abbrev pub IsCast : ℕ → Bool → ℕ → Pos → Expr → Type 0
IsCast locals true size at p = Unit {0}
IsCast locals false size at p = IsPlace at × IsTestedSize size × HasRange locals p

-- an expression over so many locals
abbrev pub IsCompilableExpr : ℕ → Expr → Type 0
IsCompilableExpr locals (Number n) = n < 2 ^ 32
IsCompilableExpr locals (Local x) = x < locals
IsCompilableExpr locals (Limited x limits) = x < locals
IsCompilableExpr locals (Array at bytes) = at < 2 ^ 32
IsCompilableExpr locals (Load width access p i) =
    IsAccess locals access p i × IsCompilableExpr locals p × IsCompilableExpr locals i
IsCompilableExpr locals (Member to count access p i) =
    IsAccess locals access p i × IsCompilableExpr locals p × IsCompilableExpr locals i
IsCompilableExpr locals (Address bytes access p i) =
    IsAccess locals access p i × IsCompilableExpr locals p × IsCompilableExpr locals i
IsCompilableExpr locals (Moved shift p i) = IsShift shift × IsCompilableExpr locals p × IsCompilableExpr locals i
IsCompilableExpr locals (Added shift i p) = IsShift shift × IsCompilableExpr locals i × IsCompilableExpr locals p
IsCompilableExpr locals (Binary operation is_signed at a b) =
    IsPlace at × IsCompilableExpr locals a × IsCompilableExpr locals b
IsCompilableExpr locals (And a b) = IsCompilableExpr locals a × IsCompilableExpr locals b
IsCompilableExpr locals (Or a b) = IsCompilableExpr locals a × IsCompilableExpr locals b
IsCompilableExpr locals (Choice c a b) =
    IsCompilableExpr locals c × IsCompilableExpr locals a × IsCompilableExpr locals b
IsCompilableExpr locals (Narrow e) = IsCompilableExpr locals e
IsCompilableExpr locals (Bare p) = IsCompilableExpr locals p
IsCompilableExpr locals (Tested size form at p k) =
    IsCast locals (casts_one size p k) size at p × IsCompilableExpr locals p × IsCompilableExpr locals k
IsCompilableExpr locals (Trusted to form p k) = IsCompilableExpr locals p × IsCompilableExpr locals k

-- an expression in a statement, which is at most 200 deep
abbrev pub IsCompilablePart : ℕ → Expr → Type 0
IsCompilablePart locals e = IsCompilableExpr locals e × (depth e ≤ 200)

abbrev pub IsCompilableTarget : ℕ → Target → Type 0
IsCompilableTarget locals Nothing = Unit {0}
IsCompilableTarget locals (Variable x width) = x < locals
IsCompilableTarget locals (Memory width access p i) =
    IsAccess locals access p i × IsCompilablePart locals p × IsCompilablePart locals i

abbrev pub IsCompilableRight : ℕ → Right → Type 0
IsCompilableRight locals (Value e) = IsCompilablePart locals e
IsCompilableRight locals (Fresh to e) = IsCompilablePart locals e × (to.size < 2 ^ 32)

-- an assignment of a bundle
abbrev pub IsCompilableAssign : ℕ → Target × Right → Type 0
IsCompilableAssign locals a = IsCompilableTarget locals a.0 × IsCompilableRight locals a.1

-- a bundle has at least one and at most eight
abbrev pub IsCompilableBundle : ℕ → List (Target × Right) → Type 0
IsCompilableBundle locals assigns =
    (1 ≤ length assigns) × (length assigns ≤ 8) × All (IsCompilableAssign locals) assigns

abbrev pub IsCompilableKept : ℕ → Kept → Type 0
IsCompilableKept locals (kept.Local x width) = x < locals
IsCompilableKept locals (kept.Static a width) = a < 2 ^ 32

-- ---- statements

-- the function is there and has so many parameters
abbrev pub HasParams : ℕ → Option Function → Type 0
HasParams count (Some f) = f.params ≡ count
HasParams count None = ⊥

-- Calls have as many arguments as the function has parameters, and `break` and `continue` stand only if the flag says
-- that it is the body of a loop.
abbrev pub IsCompilableCode : List Function → ℕ → Bool → Code → Type 0
IsCompilableCode functions locals looped End = Unit {0}
IsCompilableCode functions locals looped (Assign spot target right rest) =
    IsCompilableTarget locals target × IsCompilableRight locals right × IsCompilableCode functions locals looped rest
IsCompilableCode functions locals looped (Bundle spot assigns rest) =
    IsCompilableBundle locals assigns × IsCompilableCode functions locals looped rest
IsCompilableCode functions locals looped (Get spot target rest) =
    IsCompilableTarget locals target × IsCompilableCode functions locals looped rest
IsCompilableCode functions locals looped (Put spot target e rest) =
    IsCompilableTarget locals target × IsCompilablePart locals e × IsCompilableCode functions locals looped rest
IsCompilableCode functions locals looped (Call spot target callee es rest) =
    IfSome target (IsCompilableKept locals) × HasParams (length es) (slice_get functions callee)
    × All (IsCompilablePart locals) es × IsPlace spot.at × IsCompilableCode functions locals looped rest
IsCompilableCode functions locals looped (If spot e one two rest) =
    IsCompilablePart locals e × IsCompilableCode functions locals looped one × IsCompilableCode functions locals looped two
    × IsCompilableCode functions locals looped rest
IsCompilableCode functions locals looped (Loop spot e body step rest) =
    IsCompilablePart locals e × IsCompilableCode functions locals true body × IsCompilableCode functions locals false step
    × IsCompilableCode functions locals looped rest
IsCompilableCode functions locals looped (Break rest) = IsTrue looped × IsCompilableCode functions locals looped rest
IsCompilableCode functions locals looped (Continue rest) = IsTrue looped × IsCompilableCode functions locals looped rest
IsCompilableCode functions locals looped (Return spot e rest) =
    IsCompilablePart locals e × IsCompilableCode functions locals looped rest
IsCompilableCode functions locals looped (Check spot e rest) =
    IsPlace spot.at × IsCompilablePart locals e × IsCompilableCode functions locals looped rest

-- ---- functions and programs

-- a function of at most 255 locals and 6,000 nodes
pub record IsCompilableFunction (functions : List Function) (f : Function) : Type 0 where
  pub params : f.params ≤ f.locals
  pub locals : f.locals ≤ 255
  pub nodes : code_nodes f.body ≤ 6000
  pub body : IsCompilableCode functions f.locals false f.body

-- the first bytes of an object end within the first 4 MiB of the data region
abbrev pub BeginsLow : Object → Type 0
BeginsLow o = o.at + length o.initial ≤ statics_end

-- A program that can be compiled: at most 512 functions, and `main` is there and has no parameters.
pub record IsCompilable (p : Program) : Type 0 where
  pub objects : All BeginsLow p.objects
  pub functions : All (IsCompilableFunction p.functions) p.functions
  pub few : length p.functions ≤ 512
  pub main : HasParams 0 (slice_get p.functions p.main)
