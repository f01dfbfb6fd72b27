-- How many instructions programs may become. A function, each of its locals and each statement weigh 64, a call twice as
-- much. Each node of an expression weighs 60, but for two: what stands for itself weighs 10, without its range, and a
-- bounds cast that is tested 225, beside its pointer and its count. Each argument of a call weighs 8 more.
use Rattle.std.specs.Prelude.{ℕ, ◌+◌, ◌*◌, Bool, true, false, not, ◌&&◌, if◌then◌else◌, List, [], ◌∷◌, sum_by}
use Rattle.ckc_source.specs.declared.expr.Access.{Access}
use Rattle.ckc_source.specs.Code.{Expr, Number, Local, Limited, Array, Load, Member, Address, Moved, Added, Binary, And, Or, Choice, Narrow, Bare, Tested, Trusted, Target, Memory, Right, Value, Fresh, Code, End, Assign, Bundle, Get, Put, Call, If, Loop, Break, Continue, Return, Check, Function, Program}
use Rattle.ckc_checks_operands.specs.Cases.{casts_one, takes_range}
use Rattle.ckc_checks_operands.specs.Compilable.{access_nodes, shift_nodes, index_nodes, range_nodes, guard_nodes}

-- what an expression weighs, by whether its range is a value
abbrev pub value_weight : Bool → Expr → ℕ
value_weight ranged (Number n) = 10 + 60 * range_nodes ranged
value_weight ranged (Local x) = 10 + 60 * range_nodes ranged
value_weight ranged (Limited x limits) = 10 + 110 * range_nodes ranged
value_weight ranged (Array at bytes) = 10 + 60 * range_nodes ranged
value_weight ranged (Load width access p i) =
    60 * (range_nodes ranged + access_nodes access.through p i) + value_weight (takes_range access.through p) p
    + index_nodes i (value_weight false i)
value_weight ranged (Member to count access p i) =
    60 * (range_nodes ranged + access_nodes access.through p i) + value_weight (takes_range access.through p) p
    + index_nodes i (value_weight false i)
value_weight ranged (Address bytes access p i) =
    60 * (range_nodes ranged + access_nodes access.through p i) + value_weight (takes_range access.through p) p
    + index_nodes i (value_weight false i)
value_weight ranged (Moved shift p i) = 60 * shift_nodes shift.checked + value_weight ranged p + value_weight false i
value_weight ranged (Added shift i p) =
    60 * (range_nodes ranged + shift_nodes shift.checked) + value_weight false i + value_weight ranged p
value_weight ranged (Binary operation is_signed at a b) =
    60 * (range_nodes ranged + 1) + value_weight false a + value_weight false b
value_weight ranged (And a b) = 60 * (range_nodes ranged + 1) + value_weight false a + value_weight false b
value_weight ranged (Or a b) = 60 * (range_nodes ranged + 1) + value_weight false a + value_weight false b
value_weight ranged (Choice c a b) = 60 + value_weight false c + value_weight ranged a + value_weight ranged b
value_weight ranged (Narrow e) = 60 * (range_nodes ranged + 1) + value_weight false e
value_weight ranged (Bare p) = 60 * (range_nodes ranged + 1) + value_weight false p
value_weight ranged (Tested size form at p k) =
    if not ranged && casts_one size p k then 60 + value_weight false p + value_weight false k
    else 225 + value_weight true p + index_nodes k (value_weight false k)
value_weight ranged (Trusted to form p k) = 60 * (range_nodes ranged + 1) + value_weight false p + value_weight false k

-- what an expression weighs if its range is not needed
abbrev pub expr_weight : Expr → ℕ
expr_weight = value_weight false

-- an access through a pointer at an index, with both
abbrev pub access_weight : Access → (p i : Expr) → ℕ
access_weight access p i =
    60 * access_nodes access.through p i + value_weight (takes_range access.through p) p + index_nodes i (expr_weight i)

-- what the target of an assignment weighs: something in memory, or nothing
abbrev pub target_weight : Target → ℕ
target_weight (Memory width access p i) = 60 * guard_nodes access.through + access_weight access p i
target_weight _ = 0

-- what the right side of an assignment weighs
abbrev pub right_weight : Right → ℕ
right_weight (Value e) = expr_weight e
right_weight (Fresh to e) = expr_weight e

-- each assignment of a bundle is a statement
abbrev pub assigns_weight : List (Target × Right) → ℕ
assigns_weight [] = 0
assigns_weight (a ∷ assigns) = 64 + target_weight a.0 + right_weight a.1 + assigns_weight assigns

-- what the arguments of a call weigh
abbrev pub arguments_weight : List Expr → ℕ
arguments_weight [] = 0
arguments_weight (e ∷ es) = 8 + expr_weight e + arguments_weight es

-- what a statement weighs, together with those after it
abbrev pub code_weight : Code → ℕ
code_weight End = 0
code_weight (Assign spot target right rest) = 64 + target_weight target + right_weight right + code_weight rest
code_weight (Bundle spot assigns rest) = 64 + assigns_weight assigns + code_weight rest
code_weight (Get spot target rest) = 64 + target_weight target + code_weight rest
code_weight (Put spot target e rest) = 64 + target_weight target + expr_weight e + code_weight rest
code_weight (Call spot target callee es rest) = 128 + arguments_weight es + code_weight rest
code_weight (If spot e one two rest) = 64 + expr_weight e + code_weight one + code_weight two + code_weight rest
code_weight (Loop spot e body step rest) = 64 + expr_weight e + code_weight body + code_weight step + code_weight rest
code_weight (Break rest) = 64 + code_weight rest
code_weight (Continue rest) = 64 + code_weight rest
code_weight (Return spot e rest) = 64 + expr_weight e + code_weight rest
code_weight (Check spot e rest) = 64 + expr_weight e + code_weight rest

-- what a function weighs, with its locals
abbrev pub function_weight : Function → ℕ
function_weight f = 64 + 64 * f.locals + code_weight f.body

-- what all functions of a program weigh
abbrev pub program_weight : Program → ℕ
program_weight p = sum_by function_weight p.functions

-- how much a program may weigh: the longest code has room for as many instructions and for the five of the start
abbrev pub most_weight : ℕ
most_weight = 4193275
