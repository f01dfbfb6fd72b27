-- The core code of a source program. It mirrors what `insert` makes and need not be believed: the
-- contract of `insert` says how core code follows the program.
use Rattle.std.specs.Prelude.{ℕ, zero, suc, ◌+◌, ◌-◌, ◌/◌, ◌%◌, max, Bool, true, false, not, ◌&&◌, ◌||◌, if◌then◌else◌, List, [], ◌∷◌, ◌++◌, map, length, replicate, Option, Some, None}
use Rattle.ckc_base.specs.declared.arithmetic.BinOp.TheVariants as binary
use Rattle.ckc_base.specs.declared.arithmetic.Width.{Width}
use Rattle.ckc_base.specs.declared.arithmetic.Width.TheVariants as width
use Rattle.ckc_base.specs.declared.places.Pos.{Pos}
use Rattle.ckc_base.specs.declared.runtime_checks.Check.TheVariants as check
use Rattle.ckc_base.specs.Memory.{data_start}
use Rattle.ckc_source.specs.declared.expr.Access.{Access}
use Rattle.ckc_source.specs.declared.expr.Through.{Through}
use Rattle.ckc_source.specs.declared.expr.Through.TheVariants.{Named, Raw, One, Array, Terminated}
use Rattle.ckc_source.specs.declared.expr.Count.{Count}
use Rattle.ckc_source.specs.declared.expr.Integer.{Integer}
use Rattle.ckc_source.specs.declared.expr.Shift.{Shift}
use Rattle.ckc_source.specs.declared.expr.Operation.{Operation}
use Rattle.ckc_source.specs.declared.program.Object.{Object}
use Rattle.ckc_source.specs.declared.stmt.Kept.{Kept}
use Rattle.ckc_source.specs.declared.stmt.Kept.TheVariants as kept
use Rattle.ckc_source.specs.Code as source
use Rattle.ckc_source.specs.Blocks.{block_of, place_behind, first_place}
use Rattle.ckc_source.specs.Words.{divides}
use Rattle.ckc_core.specs.Code.{Expr, Const, Local, Load, Bin, Code, End, Set, Store, Check, Call, Get, Put, Alloc, If, Loop, Break, Continue, Return, Function, Program}
use Rattle.ckc_checks_operands.specs.Cases.{casts_one, is_bounded, takes_range}
use Rattle.ckc_checks_operands.specs.code.Operands.{is_direct, operated, low_byte, kept_in, as_truth, is_zero, scaled, shifted, at_offset, element_of, direct, operand, held, keeps_index}
use Rattle.ckc_checks_operands.specs.code.Pointers.{index_far, index_in, reads_signed, exact_test, end_at, bounds_test, is_counted, count_of, is_array, below_end, length_at, cast_test, may_write}

-- ---- expressions

-- what puts the value of an expression into a temporary stands in front only if it is not direct
abbrev pub unless_direct : source.Expr → (Code → Code) → Code → Code
unless_direct e code rest = if is_direct e then rest else code rest

abbrev pub put_if : Bool → source.Expr → (Code → Code) → Code → Code
put_if always e code rest = if always then code rest else unless_direct e code rest

-- a division or remainder stops at a divisor of zero
abbrev pub divide_check : Operation → Pos → Expr → Code → Code
divide_check operation at b rest = if divides operation then Check check.Divide at b rest else rest

-- an operation on two operands, into the local t
abbrev pub operation_code : Operation → Bool → Pos → Expr → Expr → ℕ → Code → Code
operation_code operation is_signed at a b t rest = divide_check operation at b (Set t (operated operation is_signed a b) rest)

-- ---- checked pointers to arrays

-- a test that an index needs unless it is the number 0
abbrev pub unless_zero : Expr → (Code → Code) → Code → Code
unless_zero i code rest = if is_zero i then rest else code rest

-- The checks of pointer arithmetic: null stops, and an address that is none.
abbrev pub exact_code : Shift → Expr → Expr → Code → Code
exact_code shift a i rest =
    Check check.Arith shift.at a (unless_zero i
    (Check check.Arith shift.at (exact_test shift.back (reads_signed shift.index) shift.size a i)) rest)

-- where pointer arithmetic leads, in the temporary t
abbrev pub moved_code : Shift → Expr → Expr → ℕ → Code → Code
moved_code shift a i t rest =
    let there = Set t (shifted shift.back shift.size a i) rest in
    if shift.checked then exact_code shift a i there else there

-- The element at an index goes to the temporary t, which has the pointer. An address that is none stops.
abbrev pub element_code : Access → Expr → ℕ → Code → Code
element_code access i t rest =
    unless_zero i (λ rest. Check check.Arith access.at (exact_test false (reads_signed access.index) access.size (Local t) i)
    (Set t (shifted false access.size (Local t) i) rest)) rest

-- A pointer and an index that are locals are read where they are, if the pointer has a count. Others are in the temporary
-- t and in i.
abbrev pub own_pointer : source.Expr → ℕ → ℕ
own_pointer (source.Limited x limits) t = x
own_pointer p t = t

abbrev pub own_index : source.Expr → Expr → Expr
own_index (source.Local x) i = Local x
own_index index i = i

-- where a count does not say that there is an element: its address is none, or lies outside the bounds
abbrev pub outside_code : Access → Expr → ℕ → Code
outside_code access i a =
    Check check.Arith access.at (exact_test false (reads_signed access.index) access.size (Local a) i)
    (Check check.Bounds access.at (Const 0) End)

-- A branch on whether an index is below a count, or at it if the flag says so.
abbrev pub count_code : Bool → (i count : Expr) → (outside rest : Code) → Code
count_code true i count outside rest = If (Bin binary.LtU count i) outside End rest
count_code false i count outside rest = If (Bin binary.LtU i count) End outside rest

-- the first element is there unless the count is 0
abbrev pub first_code : Bool → Pos → Expr → Code → Code
first_code true at count rest = rest
first_code false at count rest = Check check.Bounds at count rest

-- An element behind a pointer in the local a, which is not null and has a count of elements, goes to the temporary t. The
-- pointer is there too.
abbrev pub counted_code : Bool → Access → (i count : Expr) → (a t : ℕ) → Code → Code
counted_code last access i count a t rest =
    if is_zero i then first_code last access.at count rest
    else count_code last i count (outside_code access i a) (Set t (shifted false access.size (Local a) i) rest)

-- null stops, but a named array is not null
abbrev pub unless_array : source.Expr → Pos → ℕ → Code → Code
unless_array p at a rest = if is_array p then rest else Check check.Null at (Local a) rest

-- an access through a checked pointer, which is in the temporary t, to an element of an array
abbrev pub bounded_code : Bool → Access → (p index : source.Expr) → Expr → ℕ → Code → Code
bounded_code last access p index i t rest =
    if is_counted access.size p then unless_array p access.at (own_pointer p t)
    (counted_code last access (own_index index i) (count_of access.size p) (own_pointer p t) t rest)
    else Check check.Null access.at (Local t) (element_code access i t
    (Check check.Bounds access.at (bounds_test last p t) rest))

-- The checks of an access. After those of an access to an element of an array the temporary t has the element.
abbrev pub judged : Through → Access → (p index : source.Expr) → (a i : Expr) → ℕ → Code → Code
judged Named access p index a i t rest = rest
judged Raw access p index a i t rest = rest
judged One access p index a i t rest = Check check.Null access.at a rest
judged Array access p index a i t rest = bounded_code false access p index i t rest
judged Terminated access p index a i t rest = bounded_code true access p index i t rest

-- the pointer and the index of an access
abbrev pub pointer_at : Access → source.Expr → ℕ → Expr
pointer_at access p t = held (is_bounded access.through) p t

abbrev pub index_at : Access → source.Expr → ℕ → Expr
index_at access i u = held (keeps_index (is_bounded access.through) i) i u

-- what finds the pointer and the index of an access, and its checks
abbrev pub reached_code : Access → (p i : source.Expr) → (on_p on_i : Code → Code) → ℕ → Code → Code
reached_code access p i on_p on_i t rest =
    put_if (is_bounded access.through) p on_p (put_if (keeps_index (is_bounded access.through) i) i on_i
    (judged access.through access p i (pointer_at access p t) (index_at access i (index_in access p t)) t rest))

-- the element of an access, after that, and its place
abbrev pub reached_element : Access → (p i : source.Expr) → ℕ → Expr
reached_element access p i t =
    element_of access.through access.size (pointer_at access p t) (index_at access i (index_in access p t))

abbrev pub reached_place : Access → (p i : source.Expr) → ℕ → Expr
reached_place access p i t = at_offset access.offset (reached_element access p i t)

-- ---- ranges that are values

-- a range goes to the two temporaries after t, if the flag says so
abbrev pub with_range : Bool → ℕ → Expr → Expr → Code → Code
with_range true t low length rest = Set (t + 1) low (Set (t + 2) length rest)
with_range false t low length rest = rest

-- a value without a range, which nothing is accessed through
abbrev pub no_range : Bool → ℕ → Code → Code
no_range ranged t rest = with_range ranged t (Const 0) (Const 0) rest

-- A pointer in memory goes to t. Its range begins there, and its structure at the element.
abbrev pub pointer_code : Bool → ℕ → Count → ℕ → (element place : Expr) → ℕ → Code → Code
pointer_code true size count offset element place t rest =
    Set (t + 1) element (Set t (Load width.Word (at_offset offset (Local (t + 1))))
    (Set (t + 2) (length_at size count (t + 1)) (Set (t + 1) (Local t) rest)))
pointer_code false size count offset element place t rest = Set t (Load width.Word place) rest

-- A bounds cast that is tested, to so many elements: null stays null.
abbrev pub tested_code : ℕ → Integer → Pos → Expr → ℕ → Code → Code
tested_code size form at k t rest =
    Check check.Cast at (Bin binary.Or (Bin binary.Eq (Local t) (Const 0)) (cast_test size form k t))
    (Set (t + 2) (scaled size k) (Set (t + 1) (Local t) rest))

-- The range of a bounds cast that is trusted, to so many elements.
abbrev pub trusted_range : Bool → ℕ → Expr → ℕ → Code → Code
trusted_range true size k t rest = Set (t + 2) (scaled size k) (Set (t + 1) (Local t) rest)
trusted_range false size k t rest = rest

-- A pointer that was added to an index is in t, and its range is one temporary further on.
abbrev pub moved_range : Bool → ℕ → Code → Code
moved_range ranged t rest = with_range ranged t (Local (t + 2)) (Local (t + 3)) rest

-- The value of an expression goes to the local t, and if the flag says so its range after it; then comes the rest. Of
-- the locals only those from t on are written. The code of the operands is made of `expr_code e t` after
-- `unless_direct e`.
abbrev pub value_code : Bool → source.Expr → ℕ → Code → Code
value_code ranged (source.Limited x limits) t rest =
    Set t (Local x) (with_range ranged t (end_at x limits.to.size limits.lower)
    (Bin binary.Sub (end_at x limits.to.size limits.upper) (Local (t + 1))) rest)
value_code ranged (source.Array at bytes) t rest = Set t (Const at) (with_range ranged t (Const at) (Const bytes) rest)
value_code ranged (source.Load width access p i) t rest =
    reached_code access p i (value_code (takes_range access.through p) p t) (value_code false i (index_in access p t)) t
    (Set t (Load width (reached_place access p i t)) (no_range ranged t rest))
value_code ranged (source.Member to count access p i) t rest =
    reached_code access p i (value_code (takes_range access.through p) p t) (value_code false i (index_in access p t)) t
    (pointer_code ranged to.size count access.offset (reached_element access p i t) (reached_place access p i t) t rest)
value_code ranged (source.Address bytes access p i) t rest =
    reached_code access p i (value_code (takes_range access.through p) p t) (value_code false i (index_in access p t)) t
    (Set t (reached_place access p i t) (with_range ranged t (Local t) (Const bytes) rest))
value_code ranged (source.Moved shift p i) t rest =
    put_if (ranged || shift.checked) p (value_code ranged p t)
    (put_if (keeps_index shift.checked i) i (value_code false i (t + index_far ranged))
    (moved_code shift (held (ranged || shift.checked) p t) (held (keeps_index shift.checked i) i (t + index_far ranged)) t rest))
value_code ranged (source.Added shift i p) t rest =
    put_if (keeps_index shift.checked i) i (value_code false i t)
    (put_if (ranged || shift.checked) p (value_code ranged p (t + 1))
    (moved_code shift (held (ranged || shift.checked) p (t + 1)) (held (keeps_index shift.checked i) i t) t
    (moved_range ranged t rest)))
value_code ranged (source.Binary operation is_signed at a b) t rest =
    unless_direct a (value_code false a t) (unless_direct b (value_code false b (t + 1))
    (operation_code operation is_signed at (operand a t) (operand b (t + 1)) t (no_range ranged t rest)))
value_code ranged (source.And a b) t rest =
    unless_direct a (value_code false a t) (If (operand a t)
    (unless_direct b (value_code false b t) (Set t (as_truth (operand b t)) End)) (Set t (Const 0) End) (no_range ranged t rest))
value_code ranged (source.Or a b) t rest =
    unless_direct a (value_code false a t) (If (operand a t)
    (Set t (Const 1) End) (unless_direct b (value_code false b t) (Set t (as_truth (operand b t)) End)) (no_range ranged t rest))
value_code ranged (source.Choice c a b) t rest =
    unless_direct c (value_code false c t) (If (operand c t) (value_code ranged a t End) (value_code ranged b t End) rest)
value_code ranged (source.Narrow e) t rest =
    unless_direct e (value_code false e t) (Set t (low_byte (operand e t)) (no_range ranged t rest))
value_code ranged (source.Bare p) t rest = value_code false p t (no_range ranged t rest)
value_code ranged (source.Tested size form at p k) t rest =
    if not ranged && casts_one size p k then value_code false p t rest
    else value_code true p t (put_if (keeps_index true k) k (value_code false k (t + 3))
    (tested_code size form at (held (keeps_index true k) k (t + 3)) t rest))
value_code ranged (source.Trusted to form p k) t rest =
    value_code false p t (unless_direct k (value_code false k (t + 1))
    (trusted_range ranged to.size (operand k (t + 1)) t rest))
value_code ranged e t rest = Set t (direct e) (no_range ranged t rest)

abbrev pub expr_code : source.Expr → ℕ → Code → Code
expr_code = value_code false

-- what finds the place of an access
abbrev pub access_code : Access → (p i : source.Expr) → ℕ → Code → Code
access_code access p i t rest =
    reached_code access p i (value_code (takes_range access.through p) p t) (expr_code i (index_in access p t)) t rest

-- what an operand needs in front of it
abbrev pub operand_code : source.Expr → ℕ → Code → Code
operand_code e t rest = unless_direct e (expr_code e t) rest

-- the operands of a call, each with a temporary of its own
abbrev pub operands_code : List source.Expr → ℕ → Code → Code
operands_code [] t rest = rest
operands_code (e ∷ es) t rest = operand_code e t (operands_code es (t + 1) rest)

abbrev pub operands : List source.Expr → ℕ → List Expr
operands [] t = []
operands (e ∷ es) t = operand e t ∷ operands es (t + 1)

-- how many locals from t on `operand_code` may write, if its expression alone would write so many
abbrev pub unless_direct_room : source.Expr → ℕ → ℕ
unless_direct_room e room = if is_direct e then 0 else room

-- the same, but it writes them in any case if the flag says so
abbrev pub room_if : Bool → source.Expr → ℕ → ℕ
room_if always e room = if always then room else unless_direct_room e room

abbrev pub reached_room : (far : ℕ) → Bool → (p i : source.Expr) → (on_p on_i : ℕ) → ℕ
reached_room far checked p i on_p on_i = max (room_if checked p on_p) (far + room_if (keeps_index checked i) i on_i)

-- a value with its range needs three
abbrev pub range_room : Bool → ℕ → ℕ
range_room true room = max 3 room
range_room false room = room

-- how many locals from t on `value_code` may write
abbrev pub value_room : Bool → source.Expr → ℕ
value_room ranged (source.Load width access p i) =
    range_room ranged (reached_room (index_far (takes_range access.through p)) (is_bounded access.through) p i
    (value_room (takes_range access.through p) p) (value_room false i))
value_room ranged (source.Member to count access p i) =
    range_room ranged (reached_room (index_far (takes_range access.through p)) (is_bounded access.through) p i
    (value_room (takes_range access.through p) p) (value_room false i))
value_room ranged (source.Address bytes access p i) =
    range_room ranged (reached_room (index_far (takes_range access.through p)) (is_bounded access.through) p i
    (value_room (takes_range access.through p) p) (value_room false i))
value_room ranged (source.Moved shift p i) =
    max (room_if (ranged || shift.checked) p (value_room ranged p))
    (index_far ranged + room_if (keeps_index shift.checked i) i (value_room false i))
value_room ranged (source.Added shift i p) =
    max (room_if (keeps_index shift.checked i) i (value_room false i))
    (1 + room_if (ranged || shift.checked) p (value_room ranged p))
value_room ranged (source.Binary operation is_signed at a b) =
    range_room ranged (max (unless_direct_room a (value_room false a)) (1 + unless_direct_room b (value_room false b)))
value_room ranged (source.And a b) =
    range_room ranged (max 1 (max (unless_direct_room a (value_room false a)) (unless_direct_room b (value_room false b))))
value_room ranged (source.Or a b) =
    range_room ranged (max 1 (max (unless_direct_room a (value_room false a)) (unless_direct_room b (value_room false b))))
value_room ranged (source.Choice c a b) =
    max (unless_direct_room c (value_room false c)) (max (value_room ranged a) (value_room ranged b))
value_room ranged (source.Narrow e) = range_room ranged (max 1 (unless_direct_room e (value_room false e)))
value_room ranged (source.Bare p) = range_room ranged (value_room false p)
value_room ranged (source.Tested size form at p k) =
    if not ranged && casts_one size p k then value_room false p
    else max (value_room true p) (3 + room_if (keeps_index true k) k (value_room false k))
value_room ranged (source.Trusted to form p k) =
    range_room ranged (max (value_room false p) (1 + unless_direct_room k (value_room false k)))
value_room ranged _ = range_room ranged 1

abbrev pub expr_room : source.Expr → ℕ
expr_room = value_room false

-- how many locals from t on finding the place of an access may write
abbrev pub access_room : Access → (p i : source.Expr) → ℕ
access_room access p i =
    reached_room (index_far (takes_range access.through p)) (is_bounded access.through) p i
    (value_room (takes_range access.through p) p) (expr_room i)

abbrev pub operand_room : source.Expr → ℕ
operand_room e = unless_direct_room e (expr_room e)

abbrev pub operands_room : List source.Expr → ℕ
operands_room [] = 0
operands_room (e ∷ es) = max (operand_room e) (1 + operands_room es)

-- ---- statements

abbrev pub is_narrow : source.Expr → Bool
is_narrow (source.Narrow e) = true
is_narrow _ = false

-- Through a pointer to a null-terminated array zero alone may be written at the upper bound. Whether an element is below
-- it goes to t + 1, where nothing is read any more that found the element.
abbrev pub marked : Through → source.Expr → ℕ → Code → Code
marked Terminated p t rest = Set (t + 1) (below_end p t) rest
marked _ p t rest = rest

-- what finds the place of a target in memory
abbrev pub aim_code : source.Target → ℕ → Code → Code
aim_code (source.Memory width access p i) t rest = access_code access p i t (marked access.through p t rest)
aim_code _ t rest = rest

-- how many temporaries keep the place of a target
abbrev pub target_count : source.Target → ℕ
target_count (source.Memory width access p i) = 3
target_count _ = 0

-- the check of the value in the temporary u, by whether it is a byte already
abbrev pub guarded : Through → Pos → Width → Bool → (t u : ℕ) → Code → Code
guarded Terminated at width is_byte t u rest =
    Check check.Terminator at (may_write width is_byte t u) rest
guarded _ at width is_byte t u rest = rest

-- A value is stored at a place, after its check.
abbrev pub stored_code : Through → Pos → Width → Bool → (t u : ℕ) → (to e : Expr) → Code → Code
stored_code Terminated at width is_byte t u to e rest =
    Set u e (guarded Terminated at width is_byte t u (Store width to (Local u) rest))
stored_code _ at width is_byte t u to e rest = Store width to e rest

-- A value that a target keeps whose place is found in the temporaries from t on, by whether it is a byte already.
abbrev pub written : source.Target → ℕ → Bool → Expr → Code → Code
written source.Nothing t is_byte e rest = rest
written (source.Variable x width) t is_byte e rest = Set x (kept_in width is_byte e) rest
written (source.Memory width access p i) t is_byte e rest =
    stored_code access.through access.at width is_byte t (t + target_count (source.Memory width access p i)) (reached_place access p i t) e rest

-- an operand in front of what uses it, in a temporary
abbrev pub operand_used : source.Expr → ℕ → (Expr → Code) → Code
operand_used e t go = operand_code e t (go (operand e t))

-- A value is assigned. If nothing is assigned, it goes to the temporary t.
abbrev pub assigned : source.Target → source.Expr → ℕ → Code → Code
assigned source.Nothing e t rest = expr_code e t rest
assigned target e t rest =
    aim_code target t (operand_used e (t + target_count target) (λ value. written target t (is_narrow e) value rest))

-- a fresh block is taken, whose address goes to the local u
abbrev pub taken : source.Expr → ℕ → ℕ → Code → Code
taken e size u rest = operand_used e u (λ count. Alloc u count size rest)

-- the place of a target in memory goes to the temporary t
abbrev pub fixed : source.Target → ℕ → Code → Code
fixed (source.Memory width access p i) t rest = Set t (reached_place access p i t) rest
fixed _ t rest = rest

-- the check of the value after the temporaries of a target
abbrev pub allowed_code : source.Target → ℕ → Code → Code
allowed_code (source.Memory width access p i) t rest =
    guarded access.through access.at width false t (t + target_count (source.Memory width access p i)) rest
allowed_code _ t rest = rest

-- a value that a target keeps whose place is in the temporary t
abbrev pub written_there : source.Target → ℕ → Expr → Code → Code
written_there source.Nothing t e rest = rest
written_there (source.Variable x width) t e rest = Set x (kept_in width false e) rest
written_there (source.Memory width access p i) t e rest = Store width (Local t) e rest

-- A fresh block changes memory, so the place of a target is found before.
abbrev pub right_assigned : source.Target → source.Right → ℕ → Code → Code
right_assigned target (source.Value e) t rest = assigned target e t rest
right_assigned target (source.Fresh to e) t rest =
    aim_code target t (fixed target t (taken e to.size (t + target_count target)
    (allowed_code target t (written_there target t (Local (t + target_count target)) rest))))

-- ---- bundles

-- The value of a right side goes to the local u.
abbrev pub valued : source.Right → ℕ → Code → Code
valued (source.Value e) u rest = expr_code e u rest
valued (source.Fresh to e) u rest = taken e to.size u rest

-- The place of a target and the value that goes there are found, and both are kept in temporaries from t on.
abbrev pub planned_code : source.Target → source.Right → ℕ → Code → Code
planned_code target right t rest =
    aim_code target t (fixed target t (valued right (t + target_count target) (allowed_code target t rest)))

-- the temporaries after those
abbrev pub behind_planned : source.Target → ℕ → ℕ
behind_planned target t = t + target_count target + 1

abbrev pub plans_code : List (source.Target × source.Right) → ℕ → Code → Code
plans_code [] t rest = rest
plans_code (a ∷ assigns) t rest = planned_code a.0 a.1 t (plans_code assigns (behind_planned a.0 t) rest)

abbrev pub writes_code : List (source.Target × source.Right) → ℕ → Code → Code
writes_code [] t rest = rest
writes_code (a ∷ assigns) t rest =
    written_there a.0 t (Local (t + target_count a.0)) (writes_code assigns (behind_planned a.0 t) rest)

-- All places and values are found before the first of them is written.
abbrev pub bundle_code : List (source.Target × source.Right) → ℕ → Code → Code
bundle_code assigns t rest = plans_code assigns t (writes_code assigns t rest)

-- ---- calls

-- where a call puts its result
abbrev pub result_in : Option Kept → ℕ → Option ℕ
result_in None t = None
result_in (Some (kept.Local x width)) t = Some x
result_in (Some (kept.Static a width)) t = Some t

-- what is done with the result then
abbrev pub result_kept : Option Kept → ℕ → Code → Code
result_kept None t rest = rest
result_kept (Some (kept.Local x width.Byte)) t rest = Set x (low_byte (Local x)) rest
result_kept (Some (kept.Local x width.Word)) t rest = rest
result_kept (Some (kept.Static a width)) t rest = Store width (Const a) (Local t) rest

-- ---- lists of statements

-- Statements, where t is the first temporary.
abbrev pub statements : ℕ → source.Code → Code
statements t source.End = End
statements t (source.Assign spot target right rest) = right_assigned target right t (statements t rest)
statements t (source.Bundle spot assigns rest) = bundle_code assigns t (statements t rest)
statements t (source.Get spot target rest) =
    aim_code target t (Get (t + target_count target)
    (written target t false (Local (t + target_count target)) (statements t rest)))
statements t (source.Put spot target e rest) =
    aim_code target t (operand_used e (t + target_count target) (λ value.
    Put value (written target t true (low_byte value) (statements t rest))))
statements t (source.Call spot target callee es rest) =
    operands_code es t (Call (result_in target t) callee (operands es t) spot.at (result_kept target t (statements t rest)))
statements t (source.If spot e one two rest) =
    operand_code e t (If (operand e t) (statements t one) (statements t two) (statements t rest))
statements t (source.Loop spot e body step rest) =
    Loop (operand_code e t (If (operand e t) End (Break End) (statements t body))) (statements t step) (statements t rest)
statements t (source.Break rest) = Break (statements t rest)
statements t (source.Continue rest) = Continue (statements t rest)
statements t (source.Return spot e rest) = operand_code e t (Return (operand e t) (statements t rest))
statements t (source.Check spot e rest) =
    operand_code e t (Check check.Dynamic spot.at (operand e t) (statements t rest))

-- how many temporaries finding the place of a target needs
abbrev pub target_room : source.Target → ℕ
target_room (source.Memory width access p i) = access_room access p i
target_room _ = 0

-- a value that is stored may go to a temporary first
abbrev pub guard_room : source.Target → ℕ
guard_room (source.Memory width access p i) = 1
guard_room _ = 0

-- how many temporaries a target and so many for its value need
abbrev pub aimed_room : source.Target → ℕ → ℕ
aimed_room target room = max (target_room target) (target_count target + max (guard_room target) room)

abbrev pub assigned_room : source.Target → source.Right → ℕ
assigned_room source.Nothing (source.Value e) = expr_room e
assigned_room target (source.Value e) = aimed_room target (operand_room e)
assigned_room target (source.Fresh to e) = aimed_room target (max 1 (operand_room e))

abbrev pub valued_room : source.Right → ℕ
valued_room (source.Value e) = expr_room e
valued_room (source.Fresh to e) = max 1 (operand_room e)

-- how many temporaries the assignments of a bundle need
abbrev pub bundle_room : List (source.Target × source.Right) → ℕ
bundle_room [] = 0
bundle_room (a ∷ assigns) = max (aimed_room a.0 (valued_room a.1)) (behind_planned a.0 (bundle_room assigns))

-- how many temporaries statements need
abbrev pub room : source.Code → ℕ
room source.End = 0
room (source.Assign spot target right rest) = max (assigned_room target right) (room rest)
room (source.Bundle spot assigns rest) = max (bundle_room assigns) (room rest)
room (source.Get spot target rest) = max (aimed_room target 1) (room rest)
room (source.Put spot target e rest) = max (aimed_room target (operand_room e)) (room rest)
room (source.Call spot target callee es rest) = max (max 1 (operands_room es)) (room rest)
room (source.If spot e one two rest) = max (operand_room e) (max (room one) (max (room two) (room rest)))
room (source.Loop spot e body step rest) = max (operand_room e) (max (room body) (max (room step) (room rest)))
room (source.Break rest) = room rest
room (source.Continue rest) = room rest
room (source.Return spot e rest) = max (operand_room e) (room rest)
room (source.Check spot e rest) = max (operand_room e) (room rest)

-- ---- functions and programs

-- so many locals from x on are set to zero
abbrev pub zeroed : (x count : ℕ) → Code → Code
zeroed x zero rest = rest
zeroed x (suc count) rest = Set x (Const 0) (zeroed (x + 1) count rest)

-- The temporaries stand after the locals, which begin at zero but for the parameters.
abbrev pub function_code : source.Function → Function
function_code f = record {
  params = f.params;
  locals = f.locals + room f.body;
  body = zeroed f.params (f.locals - f.params) (statements f.locals f.body);
}

-- the bytes from an address on, with the first bytes of objects at their places
abbrev pub image : ℕ → List Object → List ℕ
image a [] = []
image a (o ∷ objects) = replicate (o.at - a) 0 ++ o.initial ++ image (o.at + length o.initial) objects

-- a word in memory, the lowest byte first
abbrev pub word_bytes : ℕ → List ℕ
word_bytes n = n % 256 ∷ n / 256 % 256 ∷ n / 65536 % 256 ∷ n / 16777216 % 256 ∷ []

-- The data region begins with the heap word, which is the place after the objects.
abbrev pub first_bytes : List Object → List ℕ
first_bytes objects = word_bytes (place_behind first_place (map block_of objects)) ++ image (data_start + 4) objects

abbrev pub inserted : source.Program → Program
inserted p = record { initial = first_bytes p.objects; functions = map function_code p.functions; main = p.main }
