-- A program weighs at most 64 for each of its nodes, so the core code has at most 64 instructions for each.
use Rattle.std.proofs.Common.{ℕ, ◌+◌, ◌*◌, ◌≤◌, List, [], ◌∷◌, arith}
use Rattle.std.specs.Prelude.{Bool, true, false, not, ◌&&◌, ◌==◌, if◌then◌else◌, sum_by}
use Rattle.std.proofs.lemmas.List.Sums.{sum_by-cons}
use Rattle.ckc_source.specs.declared.expr.Through.{Through}
use Rattle.ckc_source.specs.declared.expr.Through.TheVariants.{Named, Raw, One, Array as Arrays, Terminated}
use Rattle.ckc_source.specs.Code.{Expr, Number, Local, Limited, Array, Load, Member, Address, Moved, Added, Binary, And, Or, Choice, Narrow, Bare, Tested, Trusted, Target, Nothing, Variable, Memory, Right, Value, Fresh, Code, End, Assign, Bundle, Get, Put, Call, If, Loop, Break, Continue, Return, Check, Function, Program}
use Rattle.ckc_core.specs.Sizes.{program_size}
use Rattle.ckc_checks_operands.specs.Cases.{casts_one, is_ranged, takes_range}
use Rattle.ckc_checks_follow.specs.code.Inserted.{inserted}
use Rattle.ckc_checks_operands.specs.Compilable.{element_nodes, access_nodes, shift_nodes, index_nodes, range_nodes, value_nodes, expr_nodes, exprs_nodes, target_nodes, right_nodes, assigns_nodes, code_nodes, function_nodes, program_nodes}
use Rattle.ckc_checks_operands.specs.Weights.{value_weight, expr_weight, arguments_weight, target_weight, right_weight, assigns_weight, code_weight, function_weight, program_weight}
use Rattle.ckc_checks.proofs.SizedCode.{inserted_weighed}

-- ---- expressions

index_few : (i : Expr) (weight nodes : ℕ) → weight ≤ 60 * nodes → index_nodes i weight ≤ 60 * index_nodes i nodes
index_few (Number n) weight nodes h = omega arith
index_few i weight nodes h = h

limits_few : (r : Bool) → 10 + 110 * range_nodes r ≤ 60 * (range_nodes r + 1)
limits_few true = omega arith
limits_few false = omega arith

cast_few : (one : Bool) (p k : Expr) → value_weight false p ≤ 60 * value_nodes false p → value_weight true p ≤ 60 * value_nodes true p → value_weight false k ≤ 60 * value_nodes false k
    → (if one then 60 + value_weight false p + value_weight false k else 225 + value_weight true p + index_nodes k (value_weight false k))
    ≤ 60 * (if one then 1 + value_nodes false p + value_nodes false k else 5 + value_nodes true p + index_nodes k (value_nodes false k))
cast_few true p k plain ranged count = omega (arith, plain, count)
cast_few false p k plain ranged count = omega (arith, ranged, index_few k (value_weight false k) (value_nodes false k) count)

-- each node weighs at most 60
value_few : (r : Bool) (e : Expr) → value_weight r e ≤ 60 * value_nodes r e
value_few r (Number n) = omega arith
value_few r (Local x) = omega arith
value_few r (Limited x limits) = limits_few r
value_few r (Array at bytes) = omega arith
value_few r (Load width access p i) =
    omega (arith, value_few (takes_range access.through p) p, index_few i (value_weight false i) (value_nodes false i) (value_few false i))
value_few r (Member to count access p i) =
    omega (arith, value_few (takes_range access.through p) p, index_few i (value_weight false i) (value_nodes false i) (value_few false i))
value_few r (Address bytes access p i) =
    omega (arith, value_few (takes_range access.through p) p, index_few i (value_weight false i) (value_nodes false i) (value_few false i))
value_few r (Moved shift p i) = omega (arith, value_few r p, value_few false i)
value_few r (Added shift i p) = omega (arith, value_few r p, value_few false i)
value_few r (Binary operation is_signed at a b) = omega (arith, value_few false a, value_few false b)
value_few r (And a b) = omega (arith, value_few false a, value_few false b)
value_few r (Or a b) = omega (arith, value_few false a, value_few false b)
value_few r (Choice c a b) = omega (arith, value_few false c, value_few r a, value_few r b)
value_few r (Narrow e) = omega (arith, value_few false e)
value_few r (Bare p) = omega (arith, value_few false p)
value_few r (Tested size how at p k) = cast_few (not r && casts_one size p k) p k (value_few false p) (value_few true p) (value_few false k)
value_few r (Trusted to how p k) = omega (arith, value_few false p, value_few false k)

expr_few : (e : Expr) → expr_weight e ≤ 60 * expr_nodes e
expr_few e = value_few false e

-- ---- arguments: what has one node weighs so little that its passing is in it

element_some : (zero : Bool) (n m : ℕ) → n ≤ m → n ≤ (if zero then n else m)
element_some true n m h = omega arith
element_some false n m h = h

elements_some : (far : Bool) (i : Expr) → 3 ≤ element_nodes far i
elements_some false (Number n) = omega (arith, element_some (n == 0) 4 6 (omega arith))
elements_some true (Number n) = element_some (n == 0) 3 5 (omega arith)
elements_some false i = omega arith
elements_some true i = omega arith

access_some : (through : Through) (p i : Expr) → 1 ≤ access_nodes through p i
access_some Named p i = omega arith
access_some Raw p i = omega arith
access_some One p i = omega arith
access_some Arrays p i = omega (arith, elements_some (not (is_ranged p)) i)
access_some Terminated p i = omega (arith, elements_some (not (is_ranged p)) i)

shift_some : (checked : Bool) → 1 ≤ shift_nodes checked
shift_some true = omega arith
shift_some false = omega arith

cast_some : (one : Bool) (p k : Expr) → 1 ≤ value_nodes false p → 2 ≤ (if one then 1 + value_nodes false p + value_nodes false k else 5 + value_nodes true p + index_nodes k (value_nodes false k))
cast_some true p k h = omega (arith, h)
cast_some false p k h = omega arith

-- an expression has a node
value_some : (r : Bool) (e : Expr) → 1 ≤ value_nodes r e
value_some r (Load w access p i) = omega (arith, access_some access.through p i)
value_some r (Member to count access p i) = omega (arith, access_some access.through p i)
value_some r (Address bytes access p i) = omega (arith, access_some access.through p i)
value_some r (Moved shift p i) = omega (arith, shift_some shift.checked)
value_some r (Added shift i p) = omega (arith, shift_some shift.checked)
value_some r (Tested size how at p k) = omega (arith, cast_some (not r && casts_one size p k) p k (value_some false p))
value_some r e = omega arith

argument_few : (e : Expr) → 8 + expr_weight e ≤ 64 * expr_nodes e
argument_few (Number n) = omega arith
argument_few (Local x) = omega arith
argument_few (Limited x limits) = omega arith
argument_few (Array at bytes) = omega arith
argument_few (Load w access p i) = omega (arith, expr_few (Load w access p i), access_some access.through p i, value_some (takes_range access.through p) p)
argument_few (Member to count access p i) =
    omega (arith, expr_few (Member to count access p i), access_some access.through p i, value_some (takes_range access.through p) p)
argument_few (Address bytes access p i) =
    omega (arith, expr_few (Address bytes access p i), access_some access.through p i, value_some (takes_range access.through p) p)
argument_few (Moved shift p i) = omega (arith, expr_few (Moved shift p i), shift_some shift.checked, value_some false p)
argument_few (Added shift i p) = omega (arith, expr_few (Added shift i p), shift_some shift.checked, value_some false p)
argument_few (Binary o s at a b) = omega (arith, expr_few (Binary o s at a b), value_some false a)
argument_few (And a b) = omega (arith, expr_few (And a b), value_some false a)
argument_few (Or a b) = omega (arith, expr_few (Or a b), value_some false a)
argument_few (Choice c a b) = omega (arith, expr_few (Choice c a b), value_some false c)
argument_few (Narrow e) = omega (arith, expr_few (Narrow e), value_some false e)
argument_few (Bare p) = omega (arith, expr_few (Bare p), value_some false p)
argument_few (Tested size how at p k) = omega (arith, expr_few (Tested size how at p k), cast_some (casts_one size p k) p k (value_some false p))
argument_few (Trusted to how p k) = omega (arith, expr_few (Trusted to how p k), value_some false p)

arguments_few : (es : List Expr) → arguments_weight es ≤ 64 * exprs_nodes es
arguments_few [] = omega arith
arguments_few (e ∷ es) = omega (arith, argument_few e, arguments_few es)

-- ---- statements

target_few : (target : Target) → target_weight target ≤ 60 * target_nodes target
target_few Nothing = omega arith
target_few (Variable x width) = omega arith
target_few (Memory width access p i) =
    omega (arith, value_few (takes_range access.through p) p, index_few i (value_weight false i) (value_nodes false i) (value_few false i))

right_few : (right : Right) → right_weight right ≤ 60 * right_nodes right
right_few (Value e) = expr_few e
right_few (Fresh to e) = expr_few e

assigns_few : (assigns : List (Target × Right)) → assigns_weight assigns ≤ 64 * assigns_nodes assigns
assigns_few [] = omega arith
assigns_few (a ∷ assigns) = omega (arith, target_few a.0, right_few a.1, assigns_few assigns)

code_few : (code : Code) → code_weight code ≤ 64 * code_nodes code
code_few End = omega arith
code_few (Assign spot target right rest) = omega (arith, target_few target, right_few right, code_few rest)
code_few (Bundle spot assigns rest) = omega (arith, assigns_few assigns, code_few rest)
code_few (Get spot target rest) = omega (arith, target_few target, code_few rest)
code_few (Put spot target e rest) = omega (arith, target_few target, expr_few e, code_few rest)
code_few (Call spot target callee es rest) = omega (arith, arguments_few es, code_few rest)
code_few (If spot e one two rest) = omega (arith, expr_few e, code_few one, code_few two, code_few rest)
code_few (Loop spot e body step rest) = omega (arith, expr_few e, code_few body, code_few step, code_few rest)
code_few (Break rest) = omega (arith, code_few rest)
code_few (Continue rest) = omega (arith, code_few rest)
code_few (Return spot e rest) = omega (arith, expr_few e, code_few rest)
code_few (Check spot e rest) = omega (arith, expr_few e, code_few rest)

functions_few : (fs : List Function) → sum_by function_weight fs ≤ 64 * sum_by function_nodes fs
functions_few [] = omega arith
functions_few (f ∷ fs) =
    omega (arith, code_few f.body, functions_few fs, sum_by-cons function_weight f fs, sum_by-cons function_nodes f fs)

pub program_few : (p : Program) → program_weight p ≤ 64 * program_nodes p
program_few p = functions_few p.functions

-- the core code has at most 64 instructions for each node
pub inserted_sized : (p : Program) → program_size (inserted p) ≤ 64 * program_nodes p
inserted_sized p = omega (arith, inserted_weighed p, program_few p)
