-- What is inserted keeps the limits of core code.
use Rattle.std.proofs.Common.{ℕ, zero, suc, ◌+◌, ◌-◌, ◌*◌, ◌≤◌, List, [], ◌∷◌, length, arith}
use Rattle.std.specs.Prelude.{ℤ, Bool, true, false, not, ◌&&◌, ◌||◌, ◌==◌, if◌then◌else◌, max, Option, Some, None, slice_get, All}
use Rattle.std.proofs.lemmas.List.Elements.{All-nil, All-cons, All-head, All-tail, All-map, All-weaker}
use Rattle.ckc_base.specs.declared.arithmetic.Width.{Width}
use Rattle.ckc_base.specs.declared.arithmetic.Width.TheVariants as width
use Rattle.ckc_base.specs.declared.places.Pos.{Pos}
use Rattle.ckc_base.specs.declared.arithmetic.BinOp.TheVariants as binary
use Rattle.ckc_source.specs.declared.expr.Access.{Access}
use Rattle.ckc_source.specs.declared.expr.Count.{Count}
use Rattle.ckc_source.specs.declared.expr.Count.TheVariants as counts
use Rattle.ckc_source.specs.declared.expr.Base.{Base}
use Rattle.ckc_source.specs.declared.expr.Base.TheVariants as bases
use Rattle.ckc_source.specs.declared.expr.End.{End as LimitsEnd}
use Rattle.ckc_source.specs.declared.expr.Shift.{Shift}
use Rattle.ckc_source.specs.declared.expr.Variable.{Variable}
use Rattle.ckc_source.specs.declared.expr.Through.{Through}
use Rattle.ckc_source.specs.declared.expr.Through.TheVariants.{Named, Raw, One, Array, Terminated}
use Rattle.ckc_base.specs.declared.runtime_checks.Check.TheVariants as check
use Rattle.ckc_source.specs.declared.expr.Operation.{Operation}
use Rattle.ckc_source.specs.declared.expr.Operation.TheVariants.{Le}
use Rattle.ckc_source.specs.declared.stmt.Kept.{Kept}
use Rattle.ckc_source.specs.declared.stmt.Kept.TheVariants as kept
use Rattle.ckc_source.specs.Code as source
use Rattle.ckc_base.specs.Words.{word_of}
use Rattle.ckc_source.specs.Words.{divides, width_of}
use Rattle.ckc_core.specs.Code.{Expr, Const, Local, Load, Bin, Code, End, Set, Store, Check}
use Rattle.ckc_core.specs.Limits.{depth, IsShallow, KeepsLimits, IsSmallFunction, IsWithinLimits}
use Rattle.ckc_checks_operands.specs.Compilable as form
use Rattle.ckc_checks_operands.specs.Compilable.{IsCompilablePart, IsCompilableTarget, IsCompilableRight, IsCompilableAssign, IsCompilableCode, IsCompilableFunction, IsCompilable}
use Rattle.ckc_checks_operands.specs.Cases.{casts_one, is_bounded, is_ranged, takes_range}
use Rattle.ckc_checks_operands.specs.code.Operands.{is_direct, operated, low_byte, as_truth, is_zero, scaled, shifted, at_offset, element_of, place_at, held, keeps_index, direct, operand}
use Rattle.ckc_checks_operands.specs.code.Pointers.{reads_signed, exact_test, base_at, amount_at, end_at, static_place, counted_end, range_end, range_test, index_far, index_in, held_test, bounds_test, length_at, below_or_at, bytes_left, bytes_fit, elements_fit, cast_test, is_counted, count_of, is_array}
use Rattle.ckc_checks_follow.specs.code.Inserted.{put_if, room_if, exact_code, outside_code, count_code, first_code, own_pointer, own_index, counted_code, bounded_code, judged, pointer_at, index_at, reached_place, operation_code, expr_code, operand_code, operands_code, operands, operand_room, operands_room, is_narrow, marked, aim_code, target_count, guarded, stored_code, written, fixed, allowed_code, written_there, right_assigned, valued, behind_planned, plans_code, writes_code, aimed_room, assigned_room, valued_room, bundle_room, result_kept, statements, room, zeroed, function_code, inserted, reached_element, access_code, access_room, value_room, range_room, value_code, with_range, no_range, pointer_code, tested_code, trusted_range, moved_range}
use Rattle.ckc_source.specs.declared.expr.Integer.{Integer}
use Rattle.ckc_source.specs.declared.expr.Integer.TheVariants as integer
use Rattle.ckc_source.specs.declared.expr.Limits.{Limits}
use Rattle.ckc_checks.proofs.Formed.{length-operands}

-- ---- expressions

operated_depth : (o : Operation) (s : Bool) (a b : Expr) → depth (operated o s a b) ≤ 2 + max (depth a) (depth b)
operated_depth Le s a b = omega arith
operated_depth o s a b = omega arith

scaled_depth : (size : ℕ) (e : Expr) → depth (scaled size e) ≤ 1 + max 1 (depth e)
scaled_depth size (Const n) = omega arith
scaled_depth size e = by (size == 1)
  where
    by : (one : Bool) → depth (if one then e else Bin binary.Mul (Const size) e) ≤ 1 + max 1 (depth e)
    by true = omega arith
    by false = omega arith

shifted_depth : (back : Bool) (size : ℕ) (a i : Expr) → depth (shifted back size a i) ≤ 2 + max (depth a) (max 1 (depth i))
shifted_depth back size a i = by (is_zero i)
  where
    by : (zero : Bool) → depth (if zero then a else Bin (if back then binary.Sub else binary.Add) a (scaled size i)) ≤ 2 + max (depth a) (max 1 (depth i))
    by true = omega arith
    by false = omega (arith, scaled_depth size i)

at_offset_depth : (offset : ℕ) (e : Expr) → depth (at_offset offset e) ≤ 1 + max 1 (depth e)
at_offset_depth offset (Const n) = omega arith
at_offset_depth offset e = by (offset == 0)
  where
    by : (none : Bool) → depth (if none then e else Bin binary.Add e (Const offset)) ≤ 1 + max 1 (depth e)
    by true = omega arith
    by false = omega arith

element_depth : (through : Through) (size : ℕ) (a i : Expr) → depth (element_of through size a i) ≤ 2 + max (depth a) (max 1 (depth i))
element_depth Named size a i = omega arith
element_depth Raw size a i = shifted_depth false size a i
element_depth One size a i = omega arith
element_depth Array size a i = omega arith
element_depth Terminated size a i = omega arith

place_depth : (access : Access) (a i : Expr) → depth (place_at access a i) ≤ 3 + max (depth a) (max 1 (depth i))
place_depth access a i =
    omega (arith, at_offset_depth access.offset (element_of access.through access.size a i), element_depth access.through access.size a i)

base_depth : (x : ℕ) (b : Base) → depth (base_at x b) ≤ 1
base_depth x bases.Own = omega arith
base_depth x (bases.Local y) = omega arith
base_depth x (bases.Fixed a) = omega arith

amount_depth : (v : Option Variable) (add : ℤ) → depth (amount_at v add) ≤ 2
amount_depth None add = omega arith
amount_depth (Some v) add = omega (arith, at_offset_depth (word_of add) (Local v.local))

end_depth : (x size : ℕ) (e : LimitsEnd) → depth (end_at x size e) ≤ 4
end_depth x size e =
    omega (arith, shifted_depth false size (base_at x e.base) (amount_at e.variable e.add), base_depth x e.base, amount_depth e.variable e.add)

counted_depth : (upper : Bool) (size : ℕ) (count : Count) (a : ℕ) → depth (counted_end upper size count (Load width.Word (Const a))) ≤ 4
counted_depth true size (counts.Fixed n) a = omega (arith, shifted_depth false size (Load width.Word (Const a)) (Const (word_of n)))
counted_depth false size (counts.Fixed n) a = omega arith
counted_depth upper size (counts.Member offset form add) a = omega arith

range_end_depth : (upper : Bool) (p : source.Expr) → depth (range_end upper p) ≤ 4
range_end_depth upper (source.Limited x limits) = end_depth x limits.to.size (if upper then limits.upper else limits.lower)
range_end_depth upper (source.Member to count access p i) = counted_depth upper to.size count (static_place access p)
range_end_depth upper (source.Moved shift p i) = range_end_depth upper p
range_end_depth upper (source.Added shift i p) = range_end_depth upper p
range_end_depth upper p = omega arith

exact_depth : (back signs : Bool) (size : ℕ) (a i : Expr) → depth (exact_test back signs size a i) ≤ 5 + max (depth a) (max 1 (depth i))
exact_depth true signs size a i = omega (arith, shifted_depth true size a i)
exact_depth false signs size a i = omega (arith, shifted_depth false size a i)

range_depth : (last : Bool) (p : source.Expr) (t : ℕ) → depth (range_test last p (Local t)) ≤ 1000
range_depth true p t = omega (arith, range_end_depth false p, range_end_depth true p)
range_depth false p t = omega (arith, range_end_depth false p, range_end_depth true p)

held_test_depth : (last : Bool) (t : ℕ) → depth (held_test last t) ≤ 1000
held_test_depth true t = omega arith
held_test_depth false t = omega arith

bounds_depth : (last b : Bool) (p : source.Expr) (t : ℕ) → depth (if b then range_test last p (Local t) else held_test last t) ≤ 1000
bounds_depth last true p t = range_depth last p t
bounds_depth last false p t = held_test_depth last t

length_depth : (size : ℕ) (count : Count) (u : ℕ) → depth (length_at size count u) ≤ 1000
length_depth size (counts.Fixed n) u = omega arith
length_depth size (counts.Member offset how add) u =
    let place = at_offset offset (Local u) in
    let member = Load (width_of how) place in
    omega (arith, scaled_depth size (at_offset (word_of add) member), at_offset_depth (word_of add) member, at_offset_depth offset (Local u))

bytes_depth : (how : Integer) (k : Expr) (t : ℕ) → depth (bytes_fit how k t) ≤ 5 + max 1 (depth k)
bytes_depth integer.Int k t = omega arith
bytes_depth integer.Unsigned k t = omega arith
bytes_depth integer.Char k t = omega arith

fit_depth : (size : ℕ) (how : Integer) (k : Expr) (t : ℕ) → depth (elements_fit size how k t) ≤ 5 + max 1 (depth k)
fit_depth size how k t = by (size == 1)
  where
    by : (one : Bool) → depth (if one then bytes_fit how k t else below_or_at k (Bin binary.DivU (bytes_left t) (Const size))) ≤ 5 + max 1 (depth k)
    by true = bytes_depth how k t
    by false = omega arith

cast_depth : (size : ℕ) (how : Integer) (k : Expr) (t : ℕ) → depth k ≤ 800 → depth (Bin binary.Or (Bin binary.Eq (Local t) (Const 0)) (cast_test size how k t)) ≤ 1000
cast_depth size how k t h = omega (arith, fit_depth size how k t)

some_depth : (e : source.Expr) → 1 ≤ form.depth e
some_depth (source.Number n) = omega arith
some_depth e = omega arith

direct_depth : (e : source.Expr) → depth (direct e) ≤ 4 * form.depth e
direct_depth (source.Load w access p i) = omega (arith, place_depth access (direct p) (direct i), direct_depth p, direct_depth i, some_depth p)
direct_depth (source.Member to count access p i) = omega (arith, place_depth access (direct p) (direct i), direct_depth p, direct_depth i, some_depth p)
direct_depth (source.Address bytes access p i) = omega (arith, place_depth access (direct p) (direct i), direct_depth p, direct_depth i, some_depth p)
direct_depth (source.Moved shift p i) = omega (arith, shifted_depth shift.back shift.size (direct p) (direct i), direct_depth p, direct_depth i, some_depth p)
direct_depth (source.Added shift i p) = omega (arith, shifted_depth shift.back shift.size (direct p) (direct i), direct_depth p, direct_depth i, some_depth p)
direct_depth (source.Binary o s at a b) = omega (arith, operated_depth o s (direct a) (direct b), direct_depth a, direct_depth b)
direct_depth (source.Narrow e) = omega (arith, direct_depth e)
direct_depth (source.Bare p) = omega (arith, direct_depth p)
direct_depth (source.Tested size how at p k) = omega (arith, direct_depth p)
direct_depth (source.Trusted to how p k) = omega (arith, direct_depth p)
direct_depth e = omega arith

by_depth : (is_one : Bool) (d : Expr) (t : ℕ) → depth d ≤ 800 → depth (if is_one then d else Local t) ≤ 800
by_depth true d t h = h
by_depth false d t h = omega arith

operand_depth : (e : source.Expr) (t : ℕ) → form.depth e ≤ 200 → depth (operand e t) ≤ 800
operand_depth e t h = by_depth (is_direct e) (direct e) t (omega (arith, direct_depth e))

held_depth : (always : Bool) (e : source.Expr) (t : ℕ) → form.depth e ≤ 200 → depth (held always e t) ≤ 800
held_depth true e t h = omega arith
held_depth false e t h = operand_depth e t h

by_few : (is_one : Bool) (r n : ℕ) → r ≤ n → (if is_one then 0 else r) ≤ n
by_few true r n h = omega arith
by_few false r n h = h

unless_small : (is_one : Bool) (x y : Code) → KeepsLimits x → KeepsLimits y → KeepsLimits (if is_one then y else x)
unless_small true x y h k = k
unless_small false x y h k = h

operand_step : (e : source.Expr) (t : ℕ) (rest : Code) → KeepsLimits (expr_code e t rest) → KeepsLimits rest → KeepsLimits (operand_code e t rest)
operand_step e t rest h k = unless_small (is_direct e) (expr_code e t rest) rest h k

operation_small : (o : Operation) (s : Bool) (at : Pos) (a b : Expr) (t : ℕ) (rest : Code) → depth a ≤ 800 → depth b ≤ 800 → KeepsLimits rest → KeepsLimits (operation_code o s at a b t rest)
operation_small o s at a b t rest x y k =
    let value = operated o s a b in
    let value_small : depth value ≤ 1000 = omega (arith, operated_depth o s a b) in
    let divisor : depth b ≤ 1000 = omega arith in
    unless_small (divides o) (Set t value rest) (Check check.Divide at b (Set t value rest)) (value_small, k) (divisor, (value_small, k))

put_small : (r always : Bool) (e : source.Expr) (t : ℕ) (rest : Code) → ((rest : Code) → KeepsLimits rest → KeepsLimits (value_code r e t rest)) → KeepsLimits rest
    → KeepsLimits (put_if always e (value_code r e t) rest)
put_small r true e t rest h k = h rest k
put_small r false e t rest h k = unless_small (is_direct e) (value_code r e t rest) rest (h rest k) k

count_depth : (size : ℕ) (p : source.Expr) → depth (count_of size p) ≤ 2
count_depth size (source.Limited x limits) = amount_depth limits.upper.variable limits.upper.add
count_depth size (source.Array at bytes) = omega arith
count_depth size p = omega arith

outside_small : (access : Access) (i : Expr) (t : ℕ) → depth i ≤ 800 → KeepsLimits (outside_code access i t)
outside_small access i t h =
    let exact : depth (exact_test false (reads_signed access.index) access.size (Local t) i) ≤ 1000 =
    omega (arith, exact_depth false (reads_signed access.index) access.size (Local t) i) in
    (exact, (omega arith, tt))

branch_small : (last : Bool) (i count : Expr) (outside rest : Code) → depth i ≤ 800 → depth count ≤ 2 → KeepsLimits outside → KeepsLimits rest → KeepsLimits (count_code last i count outside rest)
branch_small true i count outside rest h k out small = (omega arith, out, tt, small)
branch_small false i count outside rest h k out small = (omega arith, tt, out, small)

first_small : (last : Bool) (at : Pos) (count : Expr) (rest : Code) → depth count ≤ 2 → KeepsLimits rest → KeepsLimits (first_code last at count rest)
first_small true at count rest h k = k
first_small false at count rest h k = (omega arith, k)

own_depth : (index : source.Expr) (i : Expr) → depth i ≤ 800 → depth (own_index index i) ≤ 800
own_depth (source.Local x) i h = omega arith
own_depth index i h = h

counted_small : (last : Bool) (access : Access) (i count : Expr) (a t : ℕ) (rest : Code) → depth i ≤ 800 → depth count ≤ 2 → KeepsLimits rest → KeepsLimits (counted_code last access i count a t rest)
counted_small last access i count a t rest h few k =
    let step : depth (shifted false access.size (Local a) i) ≤ 1000 = omega (arith, shifted_depth false access.size (Local a) i) in
    unless_small (is_zero i) _ _
    (branch_small last i count (outside_code access i a) (Set t (shifted false access.size (Local a) i) rest) h few (outside_small access i a h) (step, k))
    (first_small last access.at count rest few k)

null_small : (array : Bool) (at : Pos) (t : ℕ) (rest : Code) → KeepsLimits rest → KeepsLimits (if array then rest else Check check.Null at (Local t) rest)
null_small true at t rest k = k
null_small false at t rest k = (omega arith, k)

bounded_small : (last : Bool) (access : Access) (p index : source.Expr) (i : Expr) (t : ℕ) (rest : Code) → depth i ≤ 800 → KeepsLimits rest → KeepsLimits (bounded_code last access p index i t rest)
bounded_small last access p index i t rest h k =
    let within : KeepsLimits (Check check.Bounds access.at (bounds_test last p t) rest) = (bounds_depth last (is_ranged p) p t, k) in
    let step : depth (shifted false access.size (Local t) i) ≤ 1000 = omega (arith, shifted_depth false access.size (Local t) i) in
    let exact : depth (exact_test false (reads_signed access.index) access.size (Local t) i) ≤ 1000 =
    omega (arith, exact_depth false (reads_signed access.index) access.size (Local t) i) in
    unless_small (is_counted access.size p) _ _ (omega arith, unless_small (is_zero i) _ _ (exact, (step, within)) within)
    (null_small (is_array p) access.at (own_pointer p t) _
    (counted_small last access (own_index index i) (count_of access.size p) (own_pointer p t) t rest (own_depth index i h) (count_depth access.size p) k))

judged_small : (through : Through) (access : Access) (p index : source.Expr) (a i : Expr) (t : ℕ) (rest : Code) → depth a ≤ 800 → depth i ≤ 800 → KeepsLimits rest
    → KeepsLimits (judged through access p index a i t rest)
judged_small Named access p index a i t rest x y k = k
judged_small Raw access p index a i t rest x y k = k
judged_small One access p index a i t rest x y k = (omega arith, k)
judged_small Array access p index a i t rest x y k = bounded_small false access p index i t rest y k
judged_small Terminated access p index a i t rest x y k = bounded_small true access p index i t rest y k

-- what finds an access, and then the rest
reached_small : (p i : source.Expr) (t : ℕ) (access : Access) (rest : Code) → form.depth p ≤ 200 → form.depth i ≤ 200 → KeepsLimits rest
    → ((rest : Code) → KeepsLimits rest → KeepsLimits (value_code (takes_range access.through p) p t rest))
    → ((rest : Code) → KeepsLimits rest → KeepsLimits (value_code false i (index_in access p t) rest))
    → KeepsLimits (access_code access p i t rest)
reached_small p i t access rest pointer index k on_p on_i =
    let checked = is_bounded access.through in
    let u = index_in access p t in
    put_small (takes_range access.through p) checked p t _ on_p (put_small false (keeps_index checked i) i u _ on_i
    (judged_small access.through access p i (pointer_at access p t) (index_at access i u) t rest (held_depth checked p t pointer) (held_depth (keeps_index checked i) i u index) k))

element_reached : (access : Access) (p i : source.Expr) (t : ℕ) → form.depth p ≤ 200 → form.depth i ≤ 200 → depth (reached_element access p i t) ≤ 850
element_reached access p i t pointer index =
    let checked = is_bounded access.through in
    let u = index_in access p t in
    omega (arith, element_depth access.through access.size (pointer_at access p t) (index_at access i u), held_depth checked p t pointer, held_depth (keeps_index checked i) i u index)

reached_depth : (access : Access) (p i : source.Expr) (t : ℕ) → form.depth p ≤ 200 → form.depth i ≤ 200 → depth (reached_place access p i t) ≤ 900
reached_depth access p i t pointer index =
    omega (arith, at_offset_depth access.offset (reached_element access p i t), element_reached access p i t pointer index)

with_range_small : (r : Bool) (t : ℕ) (low length : Expr) (rest : Code) → depth low ≤ 1000 → depth length ≤ 1000 → KeepsLimits rest → KeepsLimits (with_range r t low length rest)
with_range_small true t low size rest x y k = (x, (y, k))
with_range_small false t low size rest x y k = k

no_range_small : (r : Bool) (t : ℕ) (rest : Code) → KeepsLimits rest → KeepsLimits (no_range r t rest)
no_range_small r t rest k = with_range_small r t (Const 0) (Const 0) rest (omega arith) (omega arith) k

pointer_small : (r : Bool) (size : ℕ) (count : Count) (offset : ℕ) (element place : Expr) (t : ℕ) (rest : Code) → depth element ≤ 850 → depth place ≤ 900 → KeepsLimits rest
    → KeepsLimits (pointer_code r size count offset element place t rest)
pointer_small true size count offset element place t rest x y k =
    (omega arith, (omega (arith, at_offset_depth offset (Local (t + 1))), (length_depth size count (t + 1), (omega arith, k))))
pointer_small false size count offset element place t rest x y k = (omega arith, k)

trusted_small : (r : Bool) (size : ℕ) (c : Expr) (t : ℕ) (rest : Code) → depth c ≤ 800 → KeepsLimits rest → KeepsLimits (trusted_range r size c t rest)
trusted_small true size c t rest h k = (omega (arith, scaled_depth size c), (omega arith, k))
trusted_small false size c t rest h k = k

tested_small : (size : ℕ) (how : Integer) (at : Pos) (c : Expr) (t : ℕ) (rest : Code) → depth c ≤ 800 → KeepsLimits rest → KeepsLimits (tested_code size how at c t rest)
tested_small size how at c t rest h k = (cast_depth size how c t h, (omega (arith, scaled_depth size c), (omega arith, k)))

moved_small : (shift : Shift) (checked : Bool) (a i : Expr) (t : ℕ) (rest : Code) → depth a ≤ 800 → depth i ≤ 800 → KeepsLimits rest
    → KeepsLimits (let there = Set t (shifted shift.back shift.size a i) rest in if checked then exact_code shift a i there else there)
moved_small shift true a i t rest x y k =
    let step : depth (shifted shift.back shift.size a i) ≤ 1000 = omega (arith, shifted_depth shift.back shift.size a i) in
    let exact : depth (exact_test shift.back (reads_signed shift.index) shift.size a i) ≤ 1000 =
    omega (arith, exact_depth shift.back (reads_signed shift.index) shift.size a i) in
    (omega arith, unless_small (is_zero i) _ _ (exact, (step, k)) (step, k))
moved_small shift false a i t rest x y k = (omega (arith, shifted_depth shift.back shift.size a i), k)

limits_small : (r : Bool) (x : ℕ) (limits : Limits) (t : ℕ) (rest : Code) → KeepsLimits rest
    → KeepsLimits (with_range r t (end_at x limits.to.size limits.lower) (Bin binary.Sub (end_at x limits.to.size limits.upper) (Local (t + 1))) rest)
limits_small r x limits t rest k =
    with_range_small r t (end_at x limits.to.size limits.lower) (Bin binary.Sub (end_at x limits.to.size limits.upper) (Local (t + 1))) rest
    (omega (arith, end_depth x limits.to.size limits.lower)) (omega (arith, end_depth x limits.to.size limits.upper)) k

cast_small : (one : Bool) (size : ℕ) (how : Integer) (at : Pos) (p c : source.Expr) (t : ℕ) (rest : Code) → form.depth c ≤ 200
    → ((rest : Code) → KeepsLimits rest → KeepsLimits (value_code false p t rest)) → ((rest : Code) → KeepsLimits rest → KeepsLimits (value_code true p t rest))
    → ((rest : Code) → KeepsLimits rest → KeepsLimits (value_code false c (t + 3) rest)) → KeepsLimits rest
    → KeepsLimits (if one then value_code false p t rest
    else value_code true p t (put_if (keeps_index true c) c (value_code false c (t + 3)) (tested_code size how at (held (keeps_index true c) c (t + 3)) t rest)))
cast_small true size how at p c t rest count plain on_p on_c k = plain rest k
cast_small false size how at p c t rest count plain on_p on_c k =
    let keeps = keeps_index true c in
    on_p _ (put_small false keeps c (t + 3) _ on_c (tested_small size how at (held keeps c (t + 3)) t rest (held_depth keeps c (t + 3) count) k))

value_small : (r : Bool) (e : source.Expr) (t : ℕ) (rest : Code) → form.depth e ≤ 200 → KeepsLimits rest → KeepsLimits (value_code r e t rest)
value_small r (source.Binary o s at a b) t rest h k =
    let left : form.depth a ≤ 200 = omega arith in
    let right : form.depth b ≤ 200 = omega arith in
    let last = no_range r t rest in
    let after = operation_code o s at (operand a t) (operand b (t + 1)) t last in
    let after_small = operation_small o s at (operand a t) (operand b (t + 1)) t last (operand_depth a t left) (operand_depth b (t + 1) right) (no_range_small r t rest k) in
    let second = operand_code b (t + 1) after in
    let second_small = operand_step b (t + 1) after (value_small false b (t + 1) after right after_small) after_small in
    operand_step a t second (value_small false a t second left second_small) second_small
value_small r (source.And a b) t rest h k =
    let left : form.depth a ≤ 200 = omega arith in
    let right : form.depth b ≤ 200 = omega arith in
    let set = Set t (as_truth (operand b t)) End in
    let set_small : KeepsLimits set = (omega (arith, operand_depth b t right), tt) in
    let after = Code.If (operand a t) (operand_code b t set) (Set t (Const 0) End) (no_range r t rest) in
    let after_small : KeepsLimits after =
    (omega (arith, operand_depth a t left), operand_step b t set (value_small false b t set right set_small) set_small, (omega arith, tt), no_range_small r t rest k) in
    operand_step a t after (value_small false a t after left after_small) after_small
value_small r (source.Or a b) t rest h k =
    let left : form.depth a ≤ 200 = omega arith in
    let right : form.depth b ≤ 200 = omega arith in
    let set = Set t (as_truth (operand b t)) End in
    let set_small : KeepsLimits set = (omega (arith, operand_depth b t right), tt) in
    let after = Code.If (operand a t) (Set t (Const 1) End) (operand_code b t set) (no_range r t rest) in
    let after_small : KeepsLimits after =
    (omega (arith, operand_depth a t left), (omega arith, tt), operand_step b t set (value_small false b t set right set_small) set_small, no_range_small r t rest k) in
    operand_step a t after (value_small false a t after left after_small) after_small
value_small r (source.Choice c a b) t rest h k =
    let first : form.depth c ≤ 200 = omega arith in
    let second : form.depth a ≤ 200 = omega arith in
    let third : form.depth b ≤ 200 = omega arith in
    let after = Code.If (operand c t) (value_code r a t End) (value_code r b t End) rest in
    let after_small : KeepsLimits after = (omega (arith, operand_depth c t first), value_small r a t End second tt, value_small r b t End third tt, k) in
    operand_step c t after (value_small false c t after first after_small) after_small
value_small r (source.Narrow e) t rest h k =
    let inner : form.depth e ≤ 200 = omega arith in
    let after = Set t (low_byte (operand e t)) (no_range r t rest) in
    let after_small : KeepsLimits after = (omega (arith, operand_depth e t inner), no_range_small r t rest k) in
    operand_step e t after (value_small false e t after inner after_small) after_small
value_small r (source.Load w access p i) t rest h k =
    let pointer : form.depth p ≤ 200 = omega arith in
    let index : form.depth i ≤ 200 = omega arith in
    reached_small p i t access (Set t (Load w (reached_place access p i t)) (no_range r t rest)) pointer index
    (omega (arith, reached_depth access p i t pointer index), no_range_small r t rest k)
    (λ rest k. value_small (takes_range access.through p) p t rest pointer k) (λ rest k. value_small false i (index_in access p t) rest index k)
value_small r (source.Member to count access p i) t rest h k =
    let pointer : form.depth p ≤ 200 = omega arith in
    let index : form.depth i ≤ 200 = omega arith in
    let element = reached_element access p i t in
    let place = reached_place access p i t in
    reached_small p i t access (pointer_code r to.size count access.offset element place t rest) pointer index
    (pointer_small r to.size count access.offset element place t rest (element_reached access p i t pointer index) (reached_depth access p i t pointer index) k)
    (λ rest k. value_small (takes_range access.through p) p t rest pointer k) (λ rest k. value_small false i (index_in access p t) rest index k)
value_small r (source.Address bytes access p i) t rest h k =
    let pointer : form.depth p ≤ 200 = omega arith in
    let index : form.depth i ≤ 200 = omega arith in
    reached_small p i t access (Set t (reached_place access p i t) (with_range r t (Local t) (Const bytes) rest)) pointer index
    (omega (arith, reached_depth access p i t pointer index), with_range_small r t (Local t) (Const bytes) rest (omega arith) (omega arith) k)
    (λ rest k. value_small (takes_range access.through p) p t rest pointer k) (λ rest k. value_small false i (index_in access p t) rest index k)
value_small r (source.Moved shift p i) t rest h k =
    let pointer : form.depth p ≤ 200 = omega arith in
    let index : form.depth i ≤ 200 = omega arith in
    let holds = r || shift.checked in
    let keeps = keeps_index shift.checked i in
    let u = t + index_far r in
    put_small r holds p t _ (λ rest k. value_small r p t rest pointer k) (put_small false keeps i u _ (λ rest k. value_small false i u rest index k)
    (moved_small shift shift.checked (held holds p t) (held keeps i u) t rest (held_depth holds p t pointer) (held_depth keeps i u index) k))
value_small r (source.Added shift i p) t rest h k =
    let pointer : form.depth p ≤ 200 = omega arith in
    let index : form.depth i ≤ 200 = omega arith in
    let holds = r || shift.checked in
    let keeps = keeps_index shift.checked i in
    put_small false keeps i t _ (λ rest k. value_small false i t rest index k) (put_small r holds p (t + 1) _ (λ rest k. value_small r p (t + 1) rest pointer k)
    (moved_small shift shift.checked (held holds p (t + 1)) (held keeps i t) t (moved_range r t rest) (held_depth holds p (t + 1) pointer) (held_depth keeps i t index)
    (with_range_small r t (Local (t + 2)) (Local (t + 3)) rest (omega arith) (omega arith) k)))
value_small r (source.Bare p) t rest h k = value_small false p t (no_range r t rest) (omega arith) (no_range_small r t rest k)
value_small r (source.Tested size how at p c) t rest h small =
    let pointer : form.depth p ≤ 200 = omega arith in
    let count : form.depth c ≤ 200 = omega arith in
    cast_small (not r && casts_one size p c) size how at p c t rest count (λ rest k. value_small false p t rest pointer k) (λ rest k. value_small true p t rest pointer k)
    (λ rest k. value_small false c (t + 3) rest count k) small
value_small r (source.Trusted to how p c) t rest h small =
    let count : form.depth c ≤ 200 = omega arith in
    let last = trusted_range r to.size (operand c (t + 1)) t rest in
    let last_small = trusted_small r to.size (operand c (t + 1)) t rest (operand_depth c (t + 1) count) small in
    let second = operand_code c (t + 1) last in
    value_small false p t second (omega arith) (operand_step c (t + 1) last (value_small false c (t + 1) last count last_small) last_small)
value_small r (source.Number n) t rest h k = (omega arith, no_range_small r t rest k)
value_small r (source.Local x) t rest h k = (omega arith, no_range_small r t rest k)
value_small r (source.Limited x limits) t rest h k = (omega arith, limits_small r x limits t rest k)
value_small r (source.Array at bytes) t rest h k = (omega arith, with_range_small r t (Const at) (Const bytes) rest (omega arith) (omega arith) k)

expr_small : (e : source.Expr) (t : ℕ) (rest : Code) → form.depth e ≤ 200 → KeepsLimits rest → KeepsLimits (expr_code e t rest)
expr_small e t rest h k = value_small false e t rest h k

operand_small : (e : source.Expr) (t : ℕ) (rest : Code) → form.depth e ≤ 200 → KeepsLimits rest → KeepsLimits (operand_code e t rest)
operand_small e t rest h k = operand_step e t rest (expr_small e t rest h k) k

if_few : (always : Bool) (e : source.Expr) (room n : ℕ) → room ≤ n → room_if always e room ≤ n
if_few true e room n h = h
if_few false e room n h = by_few (is_direct e) room n h

far_few : (r : Bool) → index_far r ≤ 3
far_few true = omega arith
far_few false = omega arith

range_few : (r : Bool) (n m : ℕ) → n ≤ 3 * m → 1 ≤ m → range_room r n ≤ 3 * m
range_few true n m h some = omega arith
range_few false n m h some = h

access_few : (access : Access) (p i : source.Expr) → value_room (takes_range access.through p) p ≤ 3 * form.depth p → value_room false i ≤ 3 * form.depth i
    → access_room access p i ≤ 3 * (1 + max (form.depth p) (form.depth i))
access_few access p i on_p on_i =
    let checked = is_bounded access.through in
    let far = takes_range access.through p in
    omega (arith, far_few far, if_few checked p (value_room far p) (3 * form.depth p) on_p, if_few (keeps_index checked i) i (value_room false i) (3 * form.depth i) on_i)

cast_few : (one : Bool) (p k : source.Expr) → value_room false p ≤ 3 * form.depth p → value_room true p ≤ 3 * form.depth p → value_room false k ≤ 3 * form.depth k
    → (if one then value_room false p else max (value_room true p) (3 + room_if (keeps_index true k) k (value_room false k))) ≤ 3 * (1 + max (form.depth p) (form.depth k))
cast_few true p k plain ranged count = omega (arith, plain)
cast_few false p k plain ranged count = omega (arith, ranged, if_few (keeps_index true k) k (value_room false k) (3 * form.depth k) count)

value_room_few : (r : Bool) (e : source.Expr) → value_room r e ≤ 3 * form.depth e
value_room_few r (source.Binary o s at a b) =
    range_few r _ (form.depth (source.Binary o s at a b))
    (omega (arith, by_few (is_direct a) (value_room false a) (3 * form.depth a) (value_room_few false a), by_few (is_direct b) (value_room false b) (3 * form.depth b) (value_room_few false b))) (omega arith)
value_room_few r (source.And a b) =
    range_few r _ (form.depth (source.And a b))
    (omega (arith, by_few (is_direct a) (value_room false a) (3 * form.depth a) (value_room_few false a), by_few (is_direct b) (value_room false b) (3 * form.depth b) (value_room_few false b))) (omega arith)
value_room_few r (source.Or a b) =
    range_few r _ (form.depth (source.Or a b))
    (omega (arith, by_few (is_direct a) (value_room false a) (3 * form.depth a) (value_room_few false a), by_few (is_direct b) (value_room false b) (3 * form.depth b) (value_room_few false b))) (omega arith)
value_room_few r (source.Choice c a b) =
    omega (arith, by_few (is_direct c) (value_room false c) (3 * form.depth c) (value_room_few false c), value_room_few r a, value_room_few r b)
value_room_few r (source.Load w access p i) = range_few r (access_room access p i) (1 + max (form.depth p) (form.depth i)) (access_few access p i (value_room_few (takes_range access.through p) p) (value_room_few false i)) (omega arith)
value_room_few r (source.Member to count access p i) = range_few r (access_room access p i) (1 + max (form.depth p) (form.depth i)) (access_few access p i (value_room_few (takes_range access.through p) p) (value_room_few false i)) (omega arith)
value_room_few r (source.Address bytes access p i) = range_few r (access_room access p i) (1 + max (form.depth p) (form.depth i)) (access_few access p i (value_room_few (takes_range access.through p) p) (value_room_few false i)) (omega arith)
value_room_few r (source.Moved shift p i) =
    let holds = r || shift.checked in
    let keeps = keeps_index shift.checked i in
    omega (arith, far_few r, if_few holds p (value_room r p) (3 * form.depth p) (value_room_few r p), if_few keeps i (value_room false i) (3 * form.depth i) (value_room_few false i))
value_room_few r (source.Added shift i p) =
    let holds = r || shift.checked in
    let keeps = keeps_index shift.checked i in
    omega (arith, if_few holds p (value_room r p) (3 * form.depth p) (value_room_few r p), if_few keeps i (value_room false i) (3 * form.depth i) (value_room_few false i))
value_room_few r (source.Bare p) = range_few r (value_room false p) (1 + form.depth p) (omega (arith, value_room_few false p)) (omega arith)
value_room_few r (source.Tested size how at p k) =
    cast_few (not r && casts_one size p k) p k (value_room_few false p) (value_room_few true p) (value_room_few false k)
value_room_few r (source.Trusted to how p k) =
    range_few r _ (1 + max (form.depth p) (form.depth k))
    (omega (arith, value_room_few false p, by_few (is_direct k) (value_room false k) (3 * form.depth k) (value_room_few false k))) (omega arith)
value_room_few r (source.Narrow e) = range_few r _ (1 + form.depth e) (omega (arith, by_few (is_direct e) (value_room false e) (3 * form.depth e) (value_room_few false e))) (omega arith)
value_room_few r (source.Number n) = range_few r 1 1 (omega arith) (omega arith)
value_room_few r (source.Local x) = range_few r 1 1 (omega arith) (omega arith)
value_room_few r (source.Limited x limits) = range_few r 1 1 (omega arith) (omega arith)
value_room_few r (source.Array at bytes) = range_few r 1 1 (omega arith) (omega arith)

operand_room_few : (e : source.Expr) → form.depth e ≤ 200 → operand_room e ≤ 600
operand_room_few e h = let least = by_few (is_direct e) (value_room false e) (3 * form.depth e) (value_room_few false e) in omega arith

module _ (few : ℕ) where
  operands_code_small : (es : List source.Expr) (t : ℕ) (rest : Code) → All (IsCompilablePart few) es → KeepsLimits rest → KeepsLimits (operands_code es t rest)
  operands_code_small [] t rest h k = k
  operands_code_small (e ∷ es) t rest h k =
      operand_small e t (operands_code es (t + 1) rest) (All-head (IsCompilablePart few) e es h).1
      (operands_code_small es (t + 1) rest (All-tail (IsCompilablePart few) e es h) k)

  operands_small : (es : List source.Expr) (t : ℕ) → All (IsCompilablePart few) es → All IsShallow (operands es t)
  operands_small [] t h = All-nil IsShallow
  operands_small (e ∷ es) t h =
      All-cons IsShallow (operand e t) (operands es (t + 1)) (omega (arith, operand_depth e t (All-head (IsCompilablePart few) e es h).1))
      (operands_small es (t + 1) (All-tail (IsCompilablePart few) e es h))

  operands_room_few : (es : List source.Expr) → All (IsCompilablePart few) es → operands_room es ≤ length es + 600
  operands_room_few [] h = omega arith
  operands_room_few (e ∷ es) h =
      omega (arith, operand_room_few e (All-head (IsCompilablePart few) e es h).1, operands_room_few es (All-tail (IsCompilablePart few) e es h))

-- ---- statements

below_end_depth : (b : Bool) (p : source.Expr) (t : ℕ)
    → depth (if b then Bin binary.Ne (Local t) (range_end true p) else Bin binary.Ne (Bin binary.Sub (Local t) (Local (t + 1))) (Local (t + 2))) ≤ 1000
below_end_depth true p t = omega (arith, range_end_depth true p)
below_end_depth false p t = omega arith

marked_small : (through : Through) (p : source.Expr) (t : ℕ) (rest : Code) → KeepsLimits rest → KeepsLimits (marked through p t rest)
marked_small Named p t rest k = k
marked_small Raw p t rest k = k
marked_small One p t rest k = k
marked_small Array p t rest k = k
marked_small Terminated p t rest k = (below_end_depth (is_ranged p) p t, k)

-- the place of a target is found, and then a value is written
aim_small : (few t : ℕ) (target : source.Target) (rest : Code) → IsCompilableTarget few target → KeepsLimits rest → KeepsLimits (aim_code target t rest)
aim_small few t source.Nothing rest h k = k
aim_small few t (source.Variable x w) rest h k = k
aim_small few t (source.Memory w access p i) rest h k =
    let pointer = h.1 in
    let index = h.2 in
    reached_small p i t access _ pointer.1 index.1 (marked_small access.through p t rest k) (λ rest k. value_small (takes_range access.through p) p t rest pointer.1 k)
    (λ rest k. value_small false i (index_in access p t) rest index.1 k)

guarded_small : (through : Through) (at : Pos) (w : Width) (is_byte : Bool) (t u : ℕ) (rest : Code) → KeepsLimits rest → KeepsLimits (guarded through at w is_byte t u rest)
guarded_small Named at w is_byte t u rest k = k
guarded_small Raw at w is_byte t u rest k = k
guarded_small One at w is_byte t u rest k = k
guarded_small Array at w is_byte t u rest k = k
guarded_small Terminated at width.Word is_byte t u rest k = (omega arith, k)
guarded_small Terminated at width.Byte true t u rest k = (omega arith, k)
guarded_small Terminated at width.Byte false t u rest k = (omega arith, k)

stored_small : (through : Through) (at : Pos) (w : Width) (is_byte : Bool) (t u : ℕ) (to e : Expr) (rest : Code) → depth to ≤ 1000 → depth e ≤ 1000 → KeepsLimits rest → KeepsLimits (stored_code through at w is_byte t u to e rest)
stored_small Named at w is_byte t u to e rest x y k = (x, y, k)
stored_small Raw at w is_byte t u to e rest x y k = (x, y, k)
stored_small One at w is_byte t u to e rest x y k = (x, y, k)
stored_small Array at w is_byte t u to e rest x y k = (x, y, k)
stored_small Terminated at w is_byte t u to e rest x y k = (y, guarded_small Terminated at w is_byte t u (Store w to (Local u) rest) (x, omega arith, k))

allowed_small : (t : ℕ) (target : source.Target) (rest : Code) → KeepsLimits rest → KeepsLimits (allowed_code target t rest)
allowed_small t source.Nothing rest k = k
allowed_small t (source.Variable x w) rest k = k
allowed_small t (source.Memory w access p i) rest k = guarded_small access.through access.at w false t (t + target_count (source.Memory w access p i)) rest k

written_small : (few t : ℕ) (target : source.Target) (is_byte : Bool) (e : Expr) (rest : Code) → IsCompilableTarget few target → depth e ≤ 900 → KeepsLimits rest → KeepsLimits (written target t is_byte e rest)
written_small few t source.Nothing is_byte e rest s h k = k
written_small few t (source.Variable x width.Word) is_byte e rest s h k = (omega arith, k)
written_small few t (source.Variable x width.Byte) true e rest s h k = (omega arith, k)
written_small few t (source.Variable x width.Byte) false e rest s h k = (omega arith, k)
written_small few t (source.Memory w access p i) is_byte e rest s h k =
    let pointer = s.1 in
    let index = s.2 in
    stored_small access.through access.at w is_byte t (t + target_count (source.Memory w access p i)) _ e rest (omega (arith, reached_depth access p i t pointer.1 index.1)) (omega arith) k

fixed_small : (few t : ℕ) (target : source.Target) (rest : Code) → IsCompilableTarget few target → KeepsLimits rest → KeepsLimits (fixed target t rest)
fixed_small few t source.Nothing rest s k = k
fixed_small few t (source.Variable x w) rest s k = k
fixed_small few t (source.Memory w access p i) rest s k =
    let pointer = s.1 in
    let index = s.2 in
    (omega (arith, reached_depth access p i t pointer.1 index.1), k)

there_small : (few t : ℕ) (target : source.Target) (e : Expr) (rest : Code) → depth e ≤ 900 → KeepsLimits rest → KeepsLimits (written_there target t e rest)
there_small few t source.Nothing e rest h k = k
there_small few t (source.Variable x width.Word) e rest h k = (omega arith, k)
there_small few t (source.Variable x width.Byte) e rest h k = (omega arith, k)
there_small few t (source.Memory w access p i) e rest h k = (omega arith, omega arith, k)

assigned_small : (few t : ℕ) (target : source.Target) (e : source.Expr) (rest : Code) → IsCompilableTarget few target → form.depth e ≤ 200 → KeepsLimits rest
    → KeepsLimits (aim_code target t (operand_code e (t + target_count target) (written target t (is_narrow e) (operand e (t + target_count target)) rest)))
assigned_small few t target e rest s h k =
    let u = t + target_count target in
    aim_small few t target _ s
    (operand_small e u _ h (written_small few t target (is_narrow e) (operand e u) rest s (omega (arith, operand_depth e u h)) k))

right_small : (few t : ℕ) (target : source.Target) (right : source.Right) (rest : Code) → IsCompilableTarget few target → IsCompilableRight few right → KeepsLimits rest → KeepsLimits (right_assigned target right t rest)
right_small few t source.Nothing (source.Value e) rest s h k = expr_small e t rest h.1 k
right_small few t (source.Variable x w) (source.Value e) rest s h k = assigned_small few t (source.Variable x w) e rest s h.1 k
right_small few t (source.Memory w access p i) (source.Value e) rest s h k = assigned_small few t (source.Memory w access p i) e rest s h.1 k
right_small few t target (source.Fresh to e) rest s h k =
    let u = t + target_count target in
    let part = h.0 in
    let last = there_small few t target (Local u) rest (omega arith) k in
    aim_small few t target _ s (fixed_small few t target _ s (operand_small e u _ part.1 (omega (arith, operand_depth e u part.1), allowed_small t target _ last)))

valued_small : (few u : ℕ) (right : source.Right) (rest : Code) → IsCompilableRight few right → KeepsLimits rest → KeepsLimits (valued right u rest)
valued_small few u (source.Value e) rest h k = expr_small e u rest h.1 k
valued_small few u (source.Fresh to e) rest h k =
    let part = h.0 in
    operand_small e u _ part.1 (omega (arith, operand_depth e u part.1), k)

plans_small : (few t : ℕ) (assigns : List (source.Target × source.Right)) (rest : Code) → All (IsCompilableAssign few) assigns → KeepsLimits rest → KeepsLimits (plans_code assigns t rest)
plans_small few t [] rest h k = k
plans_small few t (a ∷ assigns) rest h k =
    let one = All-head (IsCompilableAssign few) a assigns h in
    aim_small few t a.0 _ one.0 (fixed_small few t a.0 _ one.0 (valued_small few (t + target_count a.0) a.1 _ one.1 (allowed_small t a.0 _
    (plans_small few (behind_planned a.0 t) assigns rest (All-tail (IsCompilableAssign few) a assigns h) k))))

writes_small : (few t : ℕ) (assigns : List (source.Target × source.Right)) (rest : Code) → KeepsLimits rest → KeepsLimits (writes_code assigns t rest)
writes_small few t [] rest k = k
writes_small few t (a ∷ assigns) rest k =
    there_small few t a.0 (Local (t + target_count a.0)) _ (omega arith) (writes_small few (behind_planned a.0 t) assigns rest k)

result_small : (target : Option Kept) (t : ℕ) (rest : Code) → KeepsLimits rest → KeepsLimits (result_kept target t rest)
result_small None t rest k = k
result_small (Some (kept.Local x width.Byte)) t rest k = (omega arith, k)
result_small (Some (kept.Local x width.Word)) t rest k = k
result_small (Some (kept.Static a w)) t rest k = (omega arith, omega arith, k)

aimed_room_few : (few r : ℕ) (target : source.Target) → IsCompilableTarget few target → r ≤ 600 → aimed_room target r ≤ 603
aimed_room_few few r source.Nothing h k = omega arith
aimed_room_few few r (source.Variable x w) h k = omega arith
aimed_room_few few r (source.Memory w access p i) h k =
    let pointer = h.1 in
    let index = h.2 in
    omega (arith, access_few access p i (value_room_few (takes_range access.through p) p) (value_room_few false i), pointer.1, index.1)

right_room_few : (few : ℕ) (target : source.Target) (right : source.Right) → IsCompilableTarget few target → IsCompilableRight few right → assigned_room target right ≤ 603
right_room_few few source.Nothing (source.Value e) s h = omega (arith, value_room_few false e, h.1)
right_room_few few (source.Variable x w) (source.Value e) s h = aimed_room_few few (operand_room e) (source.Variable x w) s (operand_room_few e h.1)
right_room_few few (source.Memory w access p i) (source.Value e) s h = aimed_room_few few (operand_room e) (source.Memory w access p i) s (operand_room_few e h.1)
right_room_few few target (source.Fresh to e) s h =
    let part = h.0 in
    aimed_room_few few (max 1 (operand_room e)) target s (omega (arith, operand_room_few e part.1))

valued_few : (few : ℕ) (right : source.Right) → IsCompilableRight few right → valued_room right ≤ 600
valued_few few (source.Value e) h = omega (arith, value_room_few false e, h.1)
valued_few few (source.Fresh to e) h =
    let part = h.0 in
    omega (arith, operand_room_few e part.1)

count_few : (target : source.Target) → target_count target ≤ 4
count_few source.Nothing = omega arith
count_few (source.Variable x w) = omega arith
count_few (source.Memory w access p i) = omega arith

bundle_few : (few : ℕ) (assigns : List (source.Target × source.Right)) → All (IsCompilableAssign few) assigns → bundle_room assigns ≤ 603 + 5 * length assigns
bundle_few few [] h = omega arith
bundle_few few (a ∷ assigns) h =
    let one = All-head (IsCompilableAssign few) a assigns h in
    omega (
      arith,
      aimed_room_few few (valued_room a.1) a.0 one.0 (valued_few few a.1 one.1),
      count_few a.0,
      bundle_few few assigns (All-tail (IsCompilableAssign few) a assigns h),
    )

module _ (functions : List source.Function) (few : ℕ) (call_few : (n i : ℕ) → form.HasParams n (slice_get functions i) → n ≤ 255) where
  statements_small : (code : source.Code) (looped : Bool) → IsCompilableCode functions few looped code → KeepsLimits (statements few code)
  statements_small source.End looped h = tt
  statements_small (source.Assign spot target right rest) looped h = right_small few few target right (statements few rest) h.0 h.1 (statements_small rest looped h.2)
  statements_small (source.Bundle spot assigns rest) looped h =
      let all = h.0 in
      plans_small few few assigns (writes_code assigns few (statements few rest)) all.2 (writes_small few few assigns (statements few rest) (statements_small rest looped h.1))
  statements_small (source.Get spot target rest) looped h =
      aim_small few few target _ h.0 (written_small few few target false (Local (few + target_count target)) (statements few rest) h.0 (omega arith) (statements_small rest looped h.1))
  statements_small (source.Put spot target e rest) looped h =
      let part = h.1 in
      let u = few + target_count target in
      let shallow = operand_depth e u part.1 in
      aim_small few few target _ h.0
      (operand_small e u _ part.1
      (omega (arith, shallow), written_small few few target true (low_byte (operand e u)) (statements few rest) h.0 (omega (arith, shallow)) (statements_small rest looped h.2)))
  statements_small (source.Call spot target callee es rest) looped h =
      let count : length es ≤ 255 = call_few (length es) callee h.1 in
      operands_code_small few es few _ h.2
      (omega (arith, length-operands es few), operands_small few es few h.2, result_small target few (statements few rest) (statements_small rest looped h.4))
  statements_small (source.If spot e one two rest) looped h =
      operand_small e few _ h.0.1
      (omega (arith, operand_depth e few h.0.1), statements_small one looped h.1, statements_small two looped h.2, statements_small rest looped h.3)
  statements_small (source.Loop spot e body step rest) looped h = (
    operand_small e few _ h.0.1 (omega (arith, operand_depth e few h.0.1), tt, tt, statements_small body true h.1),
    statements_small step false h.2,
    statements_small rest looped h.3,
  )
  statements_small (source.Break rest) looped h = statements_small rest looped h.1
  statements_small (source.Continue rest) looped h = statements_small rest looped h.1
  statements_small (source.Return spot e rest) looped h =
      operand_small e few _ h.0.1 (omega (arith, operand_depth e few h.0.1), statements_small rest looped h.1)
  statements_small (source.Check spot e rest) looped h =
      operand_small e few _ h.1.1 (omega (arith, operand_depth e few h.1.1), statements_small rest looped h.2)

  room_few : (code : source.Code) (looped : Bool) → IsCompilableCode functions few looped code → room code ≤ 855
  room_few source.End looped h = omega arith
  room_few (source.Assign spot target right rest) looped h = omega (arith, right_room_few few target right h.0 h.1, room_few rest looped h.2)
  room_few (source.Bundle spot assigns rest) looped h =
      let all = h.0 in
      omega (arith, bundle_few few assigns all.2, all.1, room_few rest looped h.1)
  room_few (source.Get spot target rest) looped h = omega (arith, aimed_room_few few 1 target h.0 (omega arith), room_few rest looped h.1)
  room_few (source.Put spot target e rest) looped h =
      omega (arith, aimed_room_few few (operand_room e) target h.0 (operand_room_few e h.1.1), room_few rest looped h.2)
  room_few (source.Call spot target callee es rest) looped h =
      omega (arith, call_few (length es) callee h.1, operands_room_few few es h.2, room_few rest looped h.4)
  room_few (source.If spot e one two rest) looped h =
      omega (arith, operand_room_few e h.0.1, room_few one looped h.1, room_few two looped h.2, room_few rest looped h.3)
  room_few (source.Loop spot e body step rest) looped h =
      omega (arith, operand_room_few e h.0.1, room_few body true h.1, room_few step false h.2, room_few rest looped h.3)
  room_few (source.Break rest) looped h = room_few rest looped h.1
  room_few (source.Continue rest) looped h = room_few rest looped h.1
  room_few (source.Return spot e rest) looped h = omega (arith, operand_room_few e h.0.1, room_few rest looped h.1)
  room_few (source.Check spot e rest) looped h = omega (arith, operand_room_few e h.1.1, room_few rest looped h.2)

-- ---- functions and programs

-- a call has at most 255 arguments
few_params : (all functions : List source.Function) → All (IsCompilableFunction all) functions → (n i : ℕ) → form.HasParams n (slice_get functions i) → n ≤ 255
few_params all [] w n i h = absurd h
few_params all (f ∷ functions) w n zero h =
    let one = All-head (IsCompilableFunction all) f functions w in omega (arith, one.params, one.locals, h)
few_params all (f ∷ functions) w n (suc i) h = few_params all functions (All-tail (IsCompilableFunction all) f functions w) n i h

zeroed_small : (x count : ℕ) (rest : Code) → KeepsLimits rest → KeepsLimits (zeroed x count rest)
zeroed_small x zero rest k = k
zeroed_small x (suc count) rest k = (omega arith, zeroed_small (x + 1) count rest k)

function_small : (functions : List source.Function) (f : source.Function) → ((n i : ℕ) → form.HasParams n (slice_get functions i) → n ≤ 255)
    → IsCompilableFunction functions f → IsSmallFunction (function_code f)
function_small functions f few w = (
  omega (arith, w.locals, room_few functions f.locals few f.body false w.body),
  zeroed_small f.params (f.locals - f.params) (statements f.locals f.body) (statements_small functions f.locals few f.body false w.body),
)

-- the core code of a program of integers keeps the limits
pub inserted_small : (p : source.Program) → IsCompilable p → IsWithinLimits (inserted p)
inserted_small p w =
    let few = few_params p.functions p.functions w.functions in
    All-map IsSmallFunction function_code p.functions
    (All-weaker (IsCompilableFunction p.functions) (λ f. IsSmallFunction (function_code f)) (λ f h. function_small p.functions f few h) p.functions w.functions)
