-- The size of the core code of expressions is at most what they weigh.
use Rattle.std.proofs.Common.{◌≡◌, refl, ℕ, ◌+◌, ◌-◌, ◌*◌, ◌≤◌, List, [], ◌∷◌, length, arith}
use Rattle.std.specs.Prelude.{ℤ, Bool, true, false, not, ◌&&◌, ◌||◌, ◌==◌, if◌then◌else◌, Option, Some, None}
use Rattle.std.proofs.lemmas.List.Sums.{sum_by-cons}
use Rattle.ckc_base.specs.declared.arithmetic.Width.TheVariants as width
use Rattle.ckc_base.specs.declared.arithmetic.BinOp.TheVariants as binary
use Rattle.ckc_base.specs.declared.places.Pos.{Pos}
use Rattle.ckc_source.specs.declared.expr.Access.{Access}
use Rattle.ckc_source.specs.declared.expr.Count.{Count}
use Rattle.ckc_source.specs.declared.expr.Count.TheVariants as counts
use Rattle.ckc_source.specs.declared.expr.Base.{Base}
use Rattle.ckc_source.specs.declared.expr.Base.TheVariants as bases
use Rattle.ckc_source.specs.declared.expr.End.{End as LimitsEnd}
use Rattle.ckc_source.specs.declared.expr.Shift.{Shift}
use Rattle.ckc_source.specs.declared.expr.Variable.{Variable}
use Rattle.ckc_source.specs.declared.expr.Through.{Through}
use Rattle.ckc_source.specs.declared.expr.Through.TheVariants.{Named, Raw, One, Array, Terminated}
use Rattle.ckc_base.specs.declared.runtime_checks.Check.TheVariants as check
use Rattle.ckc_source.specs.declared.expr.Operation.{Operation}
use Rattle.ckc_source.specs.declared.expr.Operation.TheVariants.{Le}
use Rattle.ckc_source.specs.Code as source
use Rattle.ckc_base.specs.Words.{word_of}
use Rattle.ckc_source.specs.Words.{divides, width_of}
use Rattle.ckc_core.specs.Code.{Expr, Const, Local, Load, Bin, Code, End, Set, Check}
use Rattle.ckc_core.specs.Sizes.{expr_size, exprs_size, set_size, code_size}
use Rattle.ckc_checks_operands.specs.Compilable.{element_nodes, access_nodes, shift_nodes, index_nodes, range_nodes}
use Rattle.ckc_checks_operands.specs.Weights.{value_weight, expr_weight, access_weight, arguments_weight}
use Rattle.ckc_checks_operands.specs.Cases.{casts_one, is_bounded, is_ranged, takes_range}
use Rattle.ckc_checks_operands.specs.code.Operands.{is_direct, operated, low_byte, as_truth, is_zero, scaled, shifted, at_offset, element_of, place_at, held, keeps_index, direct, operand}
use Rattle.ckc_checks_operands.specs.code.Pointers.{reads_signed, exact_test, base_at, amount_at, end_at, static_place, counted_end, range_end, range_test, index_far, index_in, held_test, bounds_test, length_at, below_or_at, bytes_left, bytes_fit, elements_fit, is_counted, count_of, is_array}
use Rattle.ckc_checks_follow.specs.code.Inserted.{put_if, exact_code, moved_code, element_code, outside_code, count_code, first_code, own_pointer, own_index, counted_code, unless_array, bounded_code, judged, reached_place, operation_code, expr_code, operand_code, operands_code, operands, reached_element, access_code, value_code, with_range, no_range, pointer_code, tested_code, trusted_range, moved_range}
use Rattle.ckc_source.specs.declared.expr.Integer.{Integer}
use Rattle.ckc_source.specs.declared.expr.Integer.TheVariants as integer
use Rattle.ckc_source.specs.declared.expr.Limits.{Limits}

element_some : (zero : Bool) (n m : ℕ) → n ≤ m → n ≤ (if zero then n else m)
element_some true n m h = omega arith
element_some false n m h = h

elements_some : (far : Bool) (i : source.Expr) → 3 ≤ element_nodes far i
elements_some false (source.Number n) = omega (arith, element_some (n == 0) 4 6 (omega arith))
elements_some true (source.Number n) = element_some (n == 0) 3 5 (omega arith)
elements_some false i = omega arith
elements_some true i = omega arith

shift_some : (checked : Bool) → 1 ≤ shift_nodes checked
shift_some true = omega arith
shift_some false = omega arith

pub set_sized : (e : Expr) → set_size e ≤ 6 + expr_size e
set_sized (Local x) = omega arith
set_sized e = omega arith

operated_sized : (o : Operation) (s : Bool) (a b : Expr) → expr_size (operated o s a b) ≤ 27 + expr_size a + expr_size b
operated_sized Le s a b = omega arith
operated_sized o s a b = omega arith

scaled_sized : (size : ℕ) (e : Expr) → expr_size (scaled size e) ≤ 16 + expr_size e
scaled_sized size (Const n) = omega arith
scaled_sized size e = by (size == 1)
  where
    by : (one : Bool) → expr_size (if one then e else Bin binary.Mul (Const size) e) ≤ 16 + expr_size e
    by true = omega arith
    by false = omega arith

shifted_sized : (back : Bool) (size : ℕ) (a i : Expr) → expr_size (shifted back size a i) ≤ 27 + expr_size a + expr_size i
shifted_sized back size a i = by (is_zero i)
  where
    by : (zero : Bool) → expr_size (if zero then a else Bin (if back then binary.Sub else binary.Add) a (scaled size i)) ≤ 27 + expr_size a + expr_size i
    by true = omega arith
    by false = omega (arith, scaled_sized size i)

at_offset_sized : (offset : ℕ) (e : Expr) → expr_size (at_offset offset e) ≤ 16 + expr_size e
at_offset_sized offset (Const n) = omega arith
at_offset_sized offset e = by (offset == 0)
  where
    by : (none : Bool) → expr_size (if none then e else Bin binary.Add e (Const offset)) ≤ 16 + expr_size e
    by true = omega arith
    by false = omega arith

element_sized : (through : Through) (p k : source.Expr) (size : ℕ) (a i : Expr) → 2 * expr_size (element_of through size a i) + 46 ≤ 60 * access_nodes through p k + 2 * expr_size a + 2 * expr_size i
element_sized Named p k size a i = omega arith
element_sized Raw p k size a i = omega (arith, shifted_sized false size a i)
element_sized One p k size a i = omega arith
element_sized Array p k size a i = omega (arith, elements_some (not (is_ranged p)) k)
element_sized Terminated p k size a i = omega (arith, elements_some (not (is_ranged p)) k)

const_element_sized : (through : Through) (p k : source.Expr) (size : ℕ) (a : Expr) (n : ℕ) → 2 * expr_size (element_of through size a (Const n)) + 46 ≤ 60 * access_nodes through p k + 2 * expr_size a
const_element_sized Named p k size a n = omega arith
const_element_sized Raw p k size a n = by (n == 0)
  where
    by : (zero : Bool) → 2 * expr_size (if zero then a else Bin binary.Add a (scaled size (Const n))) + 46 ≤ 120 + 2 * expr_size a
    by true = omega arith
    by false = omega arith
const_element_sized One p k size a n = omega arith
const_element_sized Array p k size a n = omega (arith, elements_some (not (is_ranged p)) k)
const_element_sized Terminated p k size a n = omega (arith, elements_some (not (is_ranged p)) k)

place_sized : (access : Access) (p k : source.Expr) (a i : Expr) → 2 * expr_size (place_at access a i) + 14 ≤ 60 * access_nodes access.through p k + 2 * expr_size a + 2 * expr_size i
place_sized access p k a i =
    omega (arith, at_offset_sized access.offset (element_of access.through access.size a i), element_sized access.through p k access.size a i)

-- the same at a number
const_place_sized : (access : Access) (p k : source.Expr) (a : Expr) (n : ℕ) → 2 * expr_size (place_at access a (Const n)) + 14 ≤ 60 * access_nodes access.through p k + 2 * expr_size a
const_place_sized access p k a n =
    omega (arith, at_offset_sized access.offset (element_of access.through access.size a (Const n)), const_element_sized access.through p k access.size a n)

direct_place_sized : (access : Access) (p : source.Expr) (a : Expr) (i : source.Expr) → 2 * expr_size (direct i) ≤ expr_weight i
    → 2 * expr_size (place_at access a (direct i)) + 14 ≤ 60 * access_nodes access.through p i + 2 * expr_size a + index_nodes i (expr_weight i)
direct_place_sized access p a (source.Number n) h = omega (arith, const_place_sized access p (source.Number n) a n)
direct_place_sized access p a i h = omega (arith, place_sized access p i a (direct i), h)

cast_direct : (one : Bool) (p k : source.Expr) → 2 * expr_size (direct p) ≤ value_weight false p → 2 * expr_size (direct p) ≤ value_weight true p
    → 2 * expr_size (direct p) ≤ (if one then 60 + value_weight false p + value_weight false k else 225 + value_weight true p + index_nodes k (value_weight false k))
cast_direct true p k plain ranged = omega (arith, plain)
cast_direct false p k plain ranged = omega (arith, ranged)

-- twice an expression that is direct
direct_sized : (r : Bool) (e : source.Expr) → 2 * expr_size (direct e) ≤ value_weight r e
direct_sized r (source.Binary o s at a b) = omega (arith, operated_sized o s (direct a) (direct b), direct_sized false a, direct_sized false b)
direct_sized r (source.Load w access p i) =
    omega (arith, direct_place_sized access p (direct p) i (direct_sized false i), direct_sized (takes_range access.through p) p)
direct_sized r (source.Member to count access p i) =
    omega (arith, direct_place_sized access p (direct p) i (direct_sized false i), direct_sized (takes_range access.through p) p)
direct_sized r (source.Address bytes access p i) =
    omega (arith, direct_place_sized access p (direct p) i (direct_sized false i), direct_sized (takes_range access.through p) p)
direct_sized r (source.Moved shift p i) =
    omega (arith, shift_some shift.checked, shifted_sized shift.back shift.size (direct p) (direct i), direct_sized r p, direct_sized false i)
direct_sized r (source.Added shift i p) =
    omega (arith, shift_some shift.checked, shifted_sized shift.back shift.size (direct p) (direct i), direct_sized r p, direct_sized false i)
direct_sized r (source.Narrow e) = omega (arith, direct_sized false e)
direct_sized r (source.Bare p) = omega (arith, direct_sized false p)
direct_sized r (source.Tested size how at p k) = cast_direct (not r && casts_one size p k) p k (direct_sized false p) (direct_sized true p)
direct_sized r (source.Trusted to how p k) = omega (arith, direct_sized false p)
direct_sized r e = omega arith

-- the code in front of an operand and twice the operand
by_two : (is_one : Bool) (x y : Code) (d : Expr) (t n : ℕ) → code_size x ≤ n + code_size y → 2 * expr_size d ≤ n
    → code_size (if is_one then y else x) + 2 * expr_size (if is_one then d else Local t) ≤ n + code_size y
by_two true x y d t n h k = omega arith
by_two false x y d t n h k = omega arith

operand_step : (e : source.Expr) (t : ℕ) (rest : Code) → code_size (expr_code e t rest) ≤ expr_weight e + code_size rest
    → code_size (operand_code e t rest) + 2 * expr_size (operand e t) ≤ expr_weight e + code_size rest
operand_step e t rest h = by_two (is_direct e) (expr_code e t rest) rest (direct e) t (expr_weight e) h (direct_sized false e)

-- the code in front of an index
index_step : (i : source.Expr) (t : ℕ) (rest : Code) → code_size (operand_code i t rest) + 2 * expr_size (operand i t) ≤ expr_weight i + code_size rest
    → code_size (operand_code i t rest) + 2 * index_nodes i (expr_size (operand i t)) ≤ index_nodes i (expr_weight i) + code_size rest
index_step (source.Number n) t rest h = omega arith
index_step i t rest h = h

check_by : (is_one : Bool) (at : Pos) (b : Expr) (rest : Code) → code_size (if is_one then Check check.Divide at b rest else rest) ≤ 14 + expr_size b + code_size rest
check_by true at b rest = omega arith
check_by false at b rest = omega arith

operation_sized : (o : Operation) (s : Bool) (at : Pos) (a b : Expr) (t : ℕ) (rest : Code)
    → code_size (operation_code o s at a b t rest) ≤ 47 + expr_size a + 2 * expr_size b + code_size rest
operation_sized o s at a b t rest =
    let value = operated o s a b in
    omega (arith, check_by (divides o) at b (Set t value rest), set_sized value, operated_sized o s a b)

-- ---- accesses and pointer arithmetic

base_sized : (x : ℕ) (b : Base) → expr_size (base_at x b) ≤ 5
base_sized x bases.Own = omega arith
base_sized x (bases.Local y) = omega arith
base_sized x (bases.Fixed a) = omega arith

amount_sized : (v : Option Variable) (add : ℤ) → expr_size (amount_at v add) ≤ 16
amount_sized None add = omega arith
amount_sized (Some v) add = omega (arith, at_offset_sized (word_of add) (Local v.local))

end_sized : (x size : ℕ) (e : LimitsEnd) → expr_size (end_at x size e) ≤ 48
end_sized x size e =
    omega (arith, shifted_sized false size (base_at x e.base) (amount_at e.variable e.add), base_sized x e.base, amount_sized e.variable e.add)

counted_sized : (upper : Bool) (size : ℕ) (count : Count) (a : ℕ) → expr_size (counted_end upper size count (Load width.Word (Const a))) ≤ 48
counted_sized true size (counts.Fixed n) a = omega (arith, shifted_sized false size (Load width.Word (Const a)) (Const (word_of n)))
counted_sized false size (counts.Fixed n) a = omega arith
counted_sized upper size (counts.Member offset form add) a = omega arith

pub range_end_sized : (upper : Bool) (p : source.Expr) → expr_size (range_end upper p) ≤ 48
range_end_sized upper (source.Limited x limits) = end_sized x limits.to.size (if upper then limits.upper else limits.lower)
range_end_sized upper (source.Member to count access p i) = counted_sized upper to.size count (static_place access p)
range_end_sized upper (source.Moved shift p i) = range_end_sized upper p
range_end_sized upper (source.Added shift i p) = range_end_sized upper p
range_end_sized upper p = omega arith

range_sized : (last : Bool) (p : source.Expr) (t : ℕ) → expr_size (range_test last p (Local t)) ≤ 161
range_sized true p t = omega (arith, range_end_sized false p, range_end_sized true p)
range_sized false p t = omega (arith, range_end_sized false p, range_end_sized true p)

held_test_sized : (last : Bool) (t : ℕ) → expr_size (held_test last t) ≤ 76
held_test_sized true t = omega arith
held_test_sized false t = omega arith

-- how much the test of a range may take, by whether the range is a value
abbrev test_size : Bool → ℕ
test_size true = 76
test_size false = 161

bounds_sized : (last b : Bool) (p : source.Expr) (t : ℕ) → expr_size (if b then range_test last p (Local t) else held_test last t) ≤ test_size (not b)
bounds_sized last true p t = range_sized last p t
bounds_sized last false p t = held_test_sized last t

exact_sized : (back signs : Bool) (size : ℕ) (a i : Expr) → expr_size (exact_test back signs size a i) ≤ 81 + 2 * expr_size a + 2 * expr_size i
exact_sized true signs size a i = omega (arith, shifted_sized true size a i)
exact_sized false signs size a i = omega (arith, shifted_sized false size a i)

-- an operand, whether it goes to a temporary in any case or not
put_sized : (r always : Bool) (e : source.Expr) (t : ℕ) (rest : Code) → code_size (value_code r e t rest) ≤ value_weight r e + code_size rest
    → code_size (put_if always e (value_code r e t) rest) + 2 * expr_size (held always e t) ≤ value_weight r e + code_size rest
put_sized r true e t rest h = omega (arith, h)
put_sized r false e t rest h = by_two (is_direct e) (value_code r e t rest) rest (direct e) t (value_weight r e) h (direct_sized r e)

-- the index of a checked access or move
index_sized : (i : source.Expr) (t : ℕ) (rest : Code) → code_size (expr_code i t rest) ≤ expr_weight i + code_size rest
    → code_size (put_if (keeps_index true i) i (expr_code i t) rest) ≤ index_nodes i (expr_weight i) + code_size rest
index_sized (source.Number n) t rest h = omega arith
index_sized i t rest h = h

index_small : (i : source.Expr) (t : ℕ) → expr_size (held (keeps_index true i) i t) ≤ 5
index_small (source.Number n) t = omega arith
index_small i t = omega arith

set_shifted : (size t : ℕ) (i : Expr) → is_zero i ≡ false → set_size (shifted false size (Local t) i) ≤ 27 + expr_size i
set_shifted size t i e = by (is_zero i) e
  where
    by : (zero : Bool) → zero ≡ false → set_size (if zero then Local t else Bin binary.Add (Local t) (scaled size i)) ≤ 27 + expr_size i
    by true e = absurd cc
    by false e = omega (arith, scaled_sized size i)

step_by : (zero : Bool) (access : Access) (i : Expr) (t : ℕ) (rest : Code) → is_zero i ≡ zero → expr_size i ≤ 5
    → code_size (if zero then rest else Check check.Arith access.at (exact_test false (reads_signed access.index) access.size (Local t) i) (Set t (shifted false access.size (Local t) i) rest))
    ≤ (if zero then 0 else 137) + code_size rest
step_by true access i t rest e h = omega arith
step_by false access i t rest e h =
    omega (arith, exact_sized false (reads_signed access.index) access.size (Local t) i, set_shifted access.size t i e, h)

step_few : (far zero : Bool) → (if zero then 0 else 137) + 62 + test_size far ≤ 60 * (if far then (if zero then 3 else 5) else (if zero then 4 else 6))
step_few true true = omega arith
step_few true false = omega arith
step_few false true = omega arith
step_few false false = omega arith

number_nodes : (far : Bool) (n : ℕ) → element_nodes far (source.Number n) ≡ (if far then (if n == 0 then 3 else 5) else (if n == 0 then 4 else 6))
number_nodes true n = refl
number_nodes false n = refl

step_sized : (far : Bool) (access : Access) (i : source.Expr) (u t : ℕ) (rest : Code)
    → code_size (element_code access (held (keeps_index true i) i u) t rest) + 62 + test_size far ≤ 60 * element_nodes far i + code_size rest
step_sized far access (source.Number n) u t rest =
    omega (arith, step_by (n == 0) access (Const n) t rest refl (omega arith), step_few far (n == 0), number_nodes far n)
step_sized true access i u t rest = omega (arith, step_by false access (Local u) t rest refl (omega arith))
step_sized false access i u t rest = omega (arith, step_by false access (Local u) t rest refl (omega arith))

-- ---- accesses through a pointer that has a count

count_sized : (size : ℕ) (p : source.Expr) → expr_size (count_of size p) ≤ 16
count_sized size (source.Limited x limits) = amount_sized limits.upper.variable limits.upper.add
count_sized size (source.Array at bytes) = omega arith
count_sized size p = omega arith

outside_sized : (access : Access) (i : Expr) (t : ℕ) → expr_size i ≤ 5 → code_size (outside_code access i t) ≤ 126
outside_sized access i t h = omega (arith, exact_sized false (reads_signed access.index) access.size (Local t) i)

branch_sized : (last : Bool) (i count : Expr) (outside rest : Code) → expr_size i ≤ 5 → expr_size count ≤ 16 → code_size outside ≤ 126 → code_size (count_code last i count outside rest) ≤ 168 + code_size rest
branch_sized true i count outside rest h k few = omega arith
branch_sized false i count outside rest h k few = omega arith

first_sized : (last : Bool) (at : Pos) (count : Expr) (rest : Code) → expr_size count ≤ 16 → code_size (first_code last at count rest) ≤ 30 + code_size rest
first_sized true at count rest h = omega arith
first_sized false at count rest h = omega arith

counted_by : (zero last : Bool) (access : Access) (i count : Expr) (a t : ℕ) (rest : Code) → is_zero i ≡ zero → expr_size i ≤ 5 → expr_size count ≤ 16
    → code_size (if zero then first_code last access.at count rest else count_code last i count (outside_code access i a) (Set t (shifted false access.size (Local a) i) rest))
    ≤ (if zero then 30 else 200) + code_size rest
counted_by true last access i count a t rest e h k = omega (arith, first_sized last access.at count rest k)
counted_by false last access i count a t rest e h k =
    let there = Set t (shifted false access.size (Local a) i) rest in
    omega (arith, branch_sized last i count (outside_code access i a) there h k (outside_sized access i a h), set_shifted access.size a i e)

counted_few : (far zero : Bool) → (if zero then 30 else 200) + 62 ≤ 60 * (if far then (if zero then 3 else 5) else (if zero then 4 else 6))
counted_few true true = omega arith
counted_few true false = omega arith
counted_few false true = omega arith
counted_few false false = omega arith

-- what an index behind a count takes
index_counted : (far last : Bool) (access : Access) (i : source.Expr) (count : Expr) (u a t : ℕ) (rest : Code) → expr_size count ≤ 16
    → code_size (counted_code last access (own_index i (held (keeps_index true i) i u)) count a t rest) + 62 ≤ 60 * element_nodes far i + code_size rest
index_counted far last access (source.Number n) count u a t rest k =
    omega (arith, counted_by (n == 0) last access (Const n) count a t rest refl (omega arith) k, counted_few far (n == 0), number_nodes far n)
index_counted true last access (source.Local x) count u a t rest k = omega (arith, counted_by false last access (Local x) count a t rest refl (omega arith) k)
index_counted false last access (source.Local x) count u a t rest k = omega (arith, counted_by false last access (Local x) count a t rest refl (omega arith) k)
index_counted true last access i count u a t rest k = omega (arith, counted_by false last access (Local u) count a t rest refl (omega arith) k)
index_counted false last access i count u a t rest k = omega (arith, counted_by false last access (Local u) count a t rest refl (omega arith) k)

null_sized : (array : Bool) (at : Pos) (t : ℕ) (rest : Code) → code_size (if array then rest else Check check.Null at (Local t) rest) ≤ 14 + code_size rest
null_sized true at t rest = omega arith
null_sized false at t rest = omega arith

judge_by : (counted last : Bool) (access : Access) (p i : source.Expr) (t u : ℕ) (inner : Code)
    → code_size (if counted
    then unless_array p access.at (own_pointer p t) (counted_code last access (own_index i (held (keeps_index true i) i u)) (count_of access.size p) (own_pointer p t) t inner)
    else Check check.Null access.at (Local t) (element_code access (held (keeps_index true i) i u) t (Check check.Bounds access.at (bounds_test last p t) inner)))
    + 34 ≤ 60 * element_nodes (not (is_ranged p)) i + code_size inner
judge_by true last access p i t u inner =
    let a = own_pointer p t in
    let code = counted_code last access (own_index i (held (keeps_index true i) i u)) (count_of access.size p) a t inner in
    omega (arith, null_sized (is_array p) access.at a code, index_counted (not (is_ranged p)) last access i (count_of access.size p) u a t inner (count_sized access.size p))
judge_by false last access p i t u inner =
    let within = Check check.Bounds access.at (bounds_test last p t) inner in
    omega (arith, step_sized (not (is_ranged p)) access i u t within, bounds_sized last (is_ranged p) p t)

bounded_sized : (last : Bool) (access : Access) (p i : source.Expr) (t u : ℕ) (inner : Code)
    → ((rest : Code) → code_size (value_code (not (is_ranged p)) p t rest) ≤ value_weight (not (is_ranged p)) p + code_size rest)
    → ((rest : Code) → code_size (value_code false i u rest) ≤ value_weight false i + code_size rest)
    → code_size (value_code (not (is_ranged p)) p t (put_if (keeps_index true i) i (value_code false i u) (bounded_code last access p i (held (keeps_index true i) i u) t inner)))
    + 34 ≤ 60 * element_nodes (not (is_ranged p)) i + value_weight (not (is_ranged p)) p + index_nodes i (expr_weight i) + code_size inner
bounded_sized last access p i t u inner on_p on_i =
    let judge = bounded_code last access p i (held (keeps_index true i) i u) t inner in
    let second = put_if (keeps_index true i) i (value_code false i u) judge in
    omega (arith, on_p second, index_sized i u judge (on_i judge), judge_by (is_counted access.size p) last access p i t u inner)

raw_sized : (size : ℕ) (a : Expr) (i : source.Expr) (t : ℕ) → expr_size (shifted false size a (operand i t)) ≤ 27 + expr_size a + index_nodes i (expr_size (operand i t))
raw_sized size a (source.Number n) t = by (n == 0)
  where
    by : (zero : Bool) → expr_size (if zero then a else Bin binary.Add a (scaled size (Const n))) ≤ 27 + expr_size a + 0
    by true = omega arith
    by false = omega arith
raw_sized size a i t = shifted_sized false size a (operand i t)

-- what finds an access, and its place
reached_sized : (through : Through) (access : Access) (p i : source.Expr) (t u : ℕ) (inner : Code)
    → ((rest : Code) → code_size (value_code (takes_range through p) p t rest) ≤ value_weight (takes_range through p) p + code_size rest)
    → ((rest : Code) → code_size (value_code false i u rest) ≤ value_weight false i + code_size rest)
    → code_size (put_if (is_bounded through) p (value_code (takes_range through p) p t) (put_if (keeps_index (is_bounded through) i) i (value_code false i u)
    (judged through access p i (held (is_bounded through) p t) (held (keeps_index (is_bounded through) i) i u) t inner)))
    + expr_size (element_of through access.size (held (is_bounded through) p t) (held (keeps_index (is_bounded through) i) i u)) + 34
    ≤ 60 * access_nodes through p i + value_weight (takes_range through p) p + index_nodes i (expr_weight i) + code_size inner
reached_sized Named access p i t u inner on_p on_i =
    let second = operand_code i u inner in
    omega (
      arith,
      operand_step p t second (on_p second),
      index_step i u inner (operand_step i u inner (on_i inner)),
    )
reached_sized Raw access p i t u inner on_p on_i =
    let second = operand_code i u inner in
    omega (
      arith,
      raw_sized access.size (operand p t) i u,
      operand_step p t second (on_p second),
      index_step i u inner (operand_step i u inner (on_i inner)),
    )
reached_sized One access p i t u inner on_p on_i =
    let judge = Check check.Null access.at (operand p t) inner in
    let second = operand_code i u judge in
    omega (
      arith,
      operand_step p t second (on_p second),
      index_step i u judge (operand_step i u judge (on_i judge)),
    )
reached_sized Array access p i t u inner on_p on_i = omega (arith, bounded_sized false access p i t u inner on_p on_i)
reached_sized Terminated access p i t u inner on_p on_i = omega (arith, bounded_sized true access p i t u inner on_p on_i)

-- ---- ranges that are values

with_range_sized : (r : Bool) (t n : ℕ) (low length : Expr) (rest : Code) → set_size low + set_size length ≤ n → n ≤ 60 → code_size (with_range r t low length rest) ≤ n * range_nodes r + code_size rest
with_range_sized true t n low length rest h k = omega arith
with_range_sized false t n low length rest h k = omega arith

no_range_sized : (r : Bool) (t : ℕ) (rest : Code) → code_size (no_range r t rest) ≤ 60 * range_nodes r + code_size rest
no_range_sized true t rest = omega arith
no_range_sized false t rest = omega arith

set_scaled : (size : ℕ) (e : Expr) → set_size (scaled size e) ≤ 16 + expr_size e
set_scaled size (Const n) = omega arith
set_scaled size e = by (size == 1)
  where
    by : (one : Bool) → set_size (if one then e else Bin binary.Mul (Const size) e) ≤ 16 + expr_size e
    by true = omega (arith, set_sized e)
    by false = omega arith

length_sized : (size : ℕ) (count : Count) (u : ℕ) → set_size (length_at size count u) ≤ 55
length_sized size (counts.Fixed n) u = omega arith
length_sized size (counts.Member offset how add) u =
    let place = at_offset offset (Local u) in
    let member = Load (width_of how) place in
    omega (arith, set_scaled size (at_offset (word_of add) member), at_offset_sized (word_of add) member, at_offset_sized offset (Local u))

pointer_sized : (r : Bool) (size : ℕ) (count : Count) (offset : ℕ) (element : Expr) (t : ℕ) (rest : Code)
    → code_size (pointer_code r size count offset element (at_offset offset element) t rest) ≤ 60 * range_nodes r + 34 + expr_size element + code_size rest
pointer_sized true size count offset element t rest =
    omega (arith, set_sized element, length_sized size count (t + 1), at_offset_sized offset (Local (t + 1)))
pointer_sized false size count offset element t rest = omega (arith, at_offset_sized offset element)

number_fits : (one : Bool) (size : ℕ) (how : Integer) (n t : ℕ)
    → expr_size (if one then bytes_fit how (Const n) t else below_or_at (Const n) (Bin binary.DivU (bytes_left t) (Const size))) ≤ 86
number_fits true size integer.Int n t = omega arith
number_fits true size integer.Unsigned n t = omega arith
number_fits true size integer.Char n t = omega arith
number_fits false size how n t = omega arith

local_fits : (one : Bool) (size : ℕ) (how : Integer) (u t : ℕ)
    → expr_size (if one then bytes_fit how (Local u) t else below_or_at (Local u) (Bin binary.DivU (bytes_left t) (Const size)))
    + set_size (if one then Local u else Bin binary.Mul (Const size) (Local u)) ≤ 91
local_fits true size integer.Int u t = omega arith
local_fits true size integer.Unsigned u t = omega arith
local_fits true size integer.Char u t = omega arith
local_fits false size how u t = omega arith

-- how many instructions the test of a count has that is a number or in a temporary, with the scaled count
fits_sized : (size : ℕ) (how : Integer) (k : source.Expr) (u t : ℕ)
    → expr_size (elements_fit size how (held (keeps_index true k) k u) t) + set_size (scaled size (held (keeps_index true k) k u)) ≤ 91
fits_sized size how (source.Number n) u t = omega (arith, number_fits (size == 1) size how n t)
fits_sized size how k u t = local_fits (size == 1) size how u t

tested_sized : (size : ℕ) (how : Integer) (at : Pos) (k : source.Expr) (u t : ℕ) (rest : Code)
    → code_size (tested_code size how at (held (keeps_index true k) k u) t rest) ≤ 225 + code_size rest
tested_sized size how at k u t rest = omega (arith, fits_sized size how k u t)

trusted_sized : (r : Bool) (size : ℕ) (k : Expr) (t : ℕ) (rest : Code) → code_size (trusted_range r size k t rest) ≤ 60 * range_nodes r + expr_size k + code_size rest
trusted_sized true size k t rest = omega (arith, scaled_sized size k, set_sized (scaled size k))
trusted_sized false size k t rest = omega arith

-- what moves a pointer that is an operand, by an index that is another one
moved_by : (zero : Bool) (shift : Shift) (a i : Expr) (t : ℕ) (rest : Code) → expr_size a ≡ 0 → expr_size i ≤ 5
    → code_size (Check check.Arith shift.at a (if zero then Set t (shifted shift.back shift.size a i) rest
    else Check check.Arith shift.at (exact_test shift.back (reads_signed shift.index) shift.size a i) (Set t (shifted shift.back shift.size a i) rest))) ≤ 157 + code_size rest
moved_by true shift a i t rest none h =
    omega (arith, shifted_sized shift.back shift.size a i, set_sized (shifted shift.back shift.size a i), h)
moved_by false shift a i t rest none h =
    omega (arith, exact_sized shift.back (reads_signed shift.index) shift.size a i, shifted_sized shift.back shift.size a i, set_sized (shifted shift.back shift.size a i), h)

-- pointer arithmetic, its pointer in front of its index or after it
moved_sized : (shift : Shift) (checked : Bool) (a : Expr) (i : source.Expr) (v t : ℕ) (rest : Code) → (checked ≡ true → expr_size a ≡ 0)
    → code_size (let there = Set t (shifted shift.back shift.size a (held (keeps_index checked i) i v)) rest in
    if checked then exact_code shift a (held (keeps_index checked i) i v) there else there)
    ≤ 60 * shift_nodes checked - 20 + expr_size a + expr_size (held (keeps_index checked i) i v) + code_size rest
moved_sized shift true a i v t rest none =
    omega (arith, moved_by (is_zero (held (keeps_index true i) i v)) shift a (held (keeps_index true i) i v) t rest (none refl) (index_small i v))
moved_sized shift false a i v t rest none =
    let value = shifted shift.back shift.size a (operand i v) in
    omega (arith, shifted_sized shift.back shift.size a (operand i v), set_sized value)

held_none : (r checked : Bool) (p : source.Expr) (u : ℕ) → checked ≡ true → expr_size (held (r || checked) p u) ≡ 0
held_none true checked p u e = refl
held_none false true p u e = refl
held_none false false p u e = absurd cc

moved_range_sized : (r : Bool) (t : ℕ) (rest : Code) → code_size (moved_range r t rest) ≤ 60 * range_nodes r + code_size rest
moved_range_sized true t rest = omega arith
moved_range_sized false t rest = omega arith

limits_sized : (r : Bool) (x : ℕ) (limits : Limits) (t : ℕ) (rest : Code)
    → code_size (with_range r t (end_at x limits.to.size limits.lower) (Bin binary.Sub (end_at x limits.to.size limits.upper) (Local (t + 1))) rest) ≤ 4 + 110 * range_nodes r + code_size rest
limits_sized true x limits t rest =
    omega (arith, end_sized x limits.to.size limits.lower, end_sized x limits.to.size limits.upper, set_sized (end_at x limits.to.size limits.lower))
limits_sized false x limits t rest = omega arith

bytes_sized : (r : Bool) (t bytes : ℕ) (low : Expr) (rest : Code) → set_size low ≤ 6 → code_size (with_range r t low (Const bytes) rest) ≤ 60 * range_nodes r + code_size rest
bytes_sized true t bytes low rest h = omega arith
bytes_sized false t bytes low rest h = omega arith

cast_sized : (one : Bool) (size : ℕ) (how : Integer) (at : Pos) (p k : source.Expr) (t : ℕ) (rest : Code)
    → ((rest : Code) → code_size (value_code false p t rest) ≤ value_weight false p + code_size rest)
    → ((rest : Code) → code_size (value_code true p t rest) ≤ value_weight true p + code_size rest)
    → ((rest : Code) → code_size (value_code false k (t + 3) rest) ≤ value_weight false k + code_size rest)
    → code_size (if one then value_code false p t rest
    else value_code true p t (put_if (keeps_index true k) k (value_code false k (t + 3)) (tested_code size how at (held (keeps_index true k) k (t + 3)) t rest)))
    ≤ (if one then 60 + value_weight false p + value_weight false k else 225 + value_weight true p + index_nodes k (value_weight false k)) + code_size rest
cast_sized true size how at p k t rest plain on_p on_k = omega (arith, plain rest)
cast_sized false size how at p k t rest plain on_p on_k =
    let u = t + 3 in
    let last = tested_code size how at (held (keeps_index true k) k u) t rest in
    let second = put_if (keeps_index true k) k (value_code false k u) last in
    omega (arith, tested_sized size how at k u t rest, index_sized k u last (on_k last), on_p second)

value_sized : (r : Bool) (e : source.Expr) (t : ℕ) (rest : Code) → code_size (value_code r e t rest) ≤ value_weight r e + code_size rest
value_sized r (source.Binary o s at a b) t rest =
    let last = no_range r t rest in
    let after = operation_code o s at (operand a t) (operand b (t + 1)) t last in
    let second = operand_code b (t + 1) after in
    omega (
      arith,
      no_range_sized r t rest,
      operation_sized o s at (operand a t) (operand b (t + 1)) t last,
      operand_step b (t + 1) after (value_sized false b (t + 1) after),
      operand_step a t second (value_sized false a t second),
    )
value_sized r (source.And a b) t rest =
    let set = Set t (as_truth (operand b t)) End in
    let after = Code.If (operand a t) (operand_code b t set) (Set t (Const 0) End) (no_range r t rest) in
    omega (arith, no_range_sized r t rest, operand_step b t set (value_sized false b t set), operand_step a t after (value_sized false a t after))
value_sized r (source.Or a b) t rest =
    let set = Set t (as_truth (operand b t)) End in
    let after = Code.If (operand a t) (Set t (Const 1) End) (operand_code b t set) (no_range r t rest) in
    omega (arith, no_range_sized r t rest, operand_step b t set (value_sized false b t set), operand_step a t after (value_sized false a t after))
value_sized r (source.Choice c a b) t rest =
    let after = Code.If (operand c t) (value_code r a t End) (value_code r b t End) rest in
    omega (arith, value_sized r a t End, value_sized r b t End, operand_step c t after (value_sized false c t after))
value_sized r (source.Narrow e) t rest =
    let after = Set t (low_byte (operand e t)) (no_range r t rest) in
    omega (arith, no_range_sized r t rest, operand_step e t after (value_sized false e t after))
value_sized r (source.Load w access p i) t rest =
    let u = index_in access p t in
    let element = reached_element access p i t in
    let inner = Set t (Load w (reached_place access p i t)) (no_range r t rest) in
    omega (
      arith,
      no_range_sized r t rest,
      at_offset_sized access.offset element,
      reached_sized access.through access p i t u inner (λ rest. value_sized (takes_range access.through p) p t rest) (λ rest. value_sized false i u rest),
    )
value_sized r (source.Member to count access p i) t rest =
    let u = index_in access p t in
    let element = reached_element access p i t in
    let inner = pointer_code r to.size count access.offset element (reached_place access p i t) t rest in
    omega (
      arith,
      pointer_sized r to.size count access.offset element t rest,
      reached_sized access.through access p i t u inner (λ rest. value_sized (takes_range access.through p) p t rest) (λ rest. value_sized false i u rest),
    )
value_sized r (source.Address bytes access p i) t rest =
    let u = index_in access p t in
    let element = reached_element access p i t in
    let place = reached_place access p i t in
    let inner = Set t place (with_range r t (Local t) (Const bytes) rest) in
    omega (
      arith,
      set_sized place,
      at_offset_sized access.offset element,
      bytes_sized r t bytes (Local t) rest (omega arith),
      reached_sized access.through access p i t u inner (λ rest. value_sized (takes_range access.through p) p t rest) (λ rest. value_sized false i u rest),
    )
value_sized r (source.Moved shift p i) t rest =
    let b = shift.checked in
    let holds = r || b in
    let k = keeps_index b i in
    let u = t + index_far r in
    let a = held holds p t in
    let after = moved_code shift a (held k i u) t rest in
    let second = put_if k i (value_code false i u) after in
    omega (
      arith,
      shift_some b,
      moved_sized shift b a i u t rest (held_none r b p t),
      put_sized false k i u after (value_sized false i u after),
      put_sized r holds p t second (value_sized r p t second),
    )
value_sized r (source.Added shift i p) t rest =
    let b = shift.checked in
    let holds = r || b in
    let k = keeps_index b i in
    let a = held holds p (t + 1) in
    let last = moved_range r t rest in
    let after = moved_code shift a (held k i t) t last in
    let second = put_if holds p (value_code r p (t + 1)) after in
    omega (
      arith,
      shift_some b,
      moved_range_sized r t rest,
      moved_sized shift b a i t t last (held_none r b p (t + 1)),
      put_sized r holds p (t + 1) after (value_sized r p (t + 1) after),
      put_sized false k i t second (value_sized false i t second),
    )
value_sized r (source.Bare p) t rest = omega (arith, no_range_sized r t rest, value_sized false p t (no_range r t rest))
value_sized r (source.Tested size how at p k) t rest =
    cast_sized (not r && casts_one size p k) size how at p k t rest (λ rest. value_sized false p t rest) (λ rest. value_sized true p t rest) (λ rest. value_sized false k (t + 3) rest)
value_sized r (source.Trusted to how p k) t rest =
    let last = trusted_range r to.size (operand k (t + 1)) t rest in
    let second = operand_code k (t + 1) last in
    omega (
      arith,
      trusted_sized r to.size (operand k (t + 1)) t rest,
      operand_step k (t + 1) last (value_sized false k (t + 1) last),
      value_sized false p t second,
    )
value_sized r (source.Number n) t rest = omega (arith, no_range_sized r t rest)
value_sized r (source.Local x) t rest = omega (arith, no_range_sized r t rest)
value_sized r (source.Limited x limits) t rest = omega (arith, limits_sized r x limits t rest)
value_sized r (source.Array at bytes) t rest = omega (arith, bytes_sized r t bytes (Const at) rest (omega arith))

pub expr_sized : (e : source.Expr) (t : ℕ) (rest : Code) → code_size (expr_code e t rest) ≤ expr_weight e + code_size rest
expr_sized e t rest = value_sized false e t rest

-- what finds the place of an access, and the place
pub access_sized : (access : Access) (p i : source.Expr) (t : ℕ) (inner : Code)
    → code_size (access_code access p i t inner) + expr_size (reached_place access p i t) + 7
    ≤ access_weight access p i + code_size inner
access_sized access p i t inner =
    let u = index_in access p t in
    omega (
      arith,
      at_offset_sized access.offset (reached_element access p i t),
      reached_sized access.through access p i t u inner (λ rest. value_sized (takes_range access.through p) p t rest) (λ rest. value_sized false i u rest),
    )

pub operand_sized : (e : source.Expr) (t : ℕ) (rest : Code) → code_size (operand_code e t rest) + 2 * expr_size (operand e t) ≤ expr_weight e + code_size rest
operand_sized e t rest = operand_step e t rest (expr_sized e t rest)

pub arguments_sized : (es : List source.Expr) (t : ℕ) (rest : Code)
    → code_size (operands_code es t rest) + exprs_size (operands es t) + 8 * length (operands es t) ≤ arguments_weight es + code_size rest
arguments_sized [] t rest = omega arith
arguments_sized (e ∷ es) t rest =
    let after = operands_code es (t + 1) rest in
    omega (arith, operand_sized e t after, arguments_sized es (t + 1) rest, sum_by-cons expr_size (operand e t) (operands es (t + 1)))
