-- How many nodes core code has for expressions of the source, and in how many steps it comes to its end.
use Rattle.std.proofs.Common.{◌≡◌, ℕ, ◌+◌, ◌-◌, ◌*◌, ◌≤◌, ◌<◌, ◌==◌, List, [], ◌∷◌, refl, ap, arith}
use Rattle.std.specs.Prelude.{ℤ, length, Bool, true, false, not, ◌&&◌, if◌then◌else◌, Option, Some, None}
use Rattle.ckc_base.specs.declared.arithmetic.BinOp.TheVariants as binary
use Rattle.ckc_base.specs.Words.{word_of}
use Rattle.ckc_base.specs.Activations.{Values, with_written}
use Rattle.ckc_source.specs.declared.expr.Access.{Access}
use Rattle.ckc_base.specs.declared.arithmetic.Width.TheVariants.{Word}
use Rattle.ckc_source.specs.declared.expr.Count.{Count}
use Rattle.ckc_source.specs.declared.expr.Count.TheVariants as counts
use Rattle.ckc_source.specs.declared.expr.Base.{Base}
use Rattle.ckc_source.specs.declared.expr.Base.TheVariants as bases
use Rattle.ckc_source.specs.declared.expr.End.{End as LimitsEnd}
use Rattle.ckc_source.specs.declared.expr.Variable.{Variable}
use Rattle.ckc_source.specs.declared.expr.Through.{Through}
use Rattle.ckc_source.specs.declared.expr.Through.TheVariants.{Named, Raw, One, Array, Terminated}
use Rattle.ckc_source.specs.declared.expr.Operation.{Operation}
use Rattle.ckc_source.specs.declared.expr.Operation.TheVariants.{Le, Gt, Ge}
use Rattle.ckc_source.specs.declared.expr.Integer.{Integer}
use Rattle.ckc_source.specs.declared.expr.Integer.TheVariants as integer
use Rattle.ckc_source.specs.Words.{width_of}
use Rattle.ckc_source.specs.Code as source
use Rattle.ckc_core.specs.Code.{Expr, Const, Local, Load, Bin}
use Rattle.ckc_core.specs.Meaning.{nodes, all_nodes}
use Rattle.ckc_checks_operands.specs.Compilable.{element_nodes, access_nodes, shift_nodes, index_nodes, value_nodes, expr_nodes, exprs_nodes}
use Rattle.ckc_checks_operands.specs.Cases.{casts_one, is_bounded, is_ranged, takes_range}
use Rattle.ckc_checks_operands.specs.code.Operands.{is_direct, operated, is_zero, scaled, shifted, at_offset, element_of, place_at, direct, operand, held, keeps_index}
use Rattle.ckc_checks_operands.specs.code.Pointers.{exact_test, base_at, amount_at, end_at, static_place, counted_end, range_end, range_test, index_in, held_test, length_at, below_or_at, bytes_left, bytes_fit, elements_fit, cast_test}
use Rattle.ckc_checks_follow.specs.code.Inserted.{operands, pointer_at, index_at, reached_element, reached_place}

-- ---- values that are written

pub written_same : (values : Values) (r v : ℕ) → with_written values r v r ≡ Some v
unfolding with_written
written_same values r v =
    let t : (r == r) ≡ true = grind arith in
    ap (λ b. if b then Some v else values r) t

pub written_below : (values : Values) (r v q : ℕ) → q < r → with_written values r v q ≡ values q
unfolding with_written
written_below values r v q h =
    let t : (q == r) ≡ false = grind arith in
    ap (λ b. if b then Some v else values q) t

pub written_only : (values : Values) (r v q : ℕ) → (q == r) ≡ false → with_written values r v q ≡ values q
unfolding with_written
written_only values r v q e = ap (λ b. if b then Some v else values q) e

-- ---- sizes

pub operated_nodes : (operation : Operation) (is_signed : Bool) (a b : Expr) → nodes (operated operation is_signed a b) ≤ 3 + nodes a + nodes b
operated_nodes Le is_signed a b = omega arith
operated_nodes Gt is_signed a b = omega arith
operated_nodes Ge is_signed a b = omega arith
operated_nodes operation is_signed a b = omega arith

pub scaled_nodes : (size : ℕ) (e : Expr) → nodes (scaled size e) ≤ 2 + nodes e
scaled_nodes size (Const n) = omega arith
scaled_nodes size e = by (size == 1)
  where
    by : (one : Bool) → nodes (if one then e else Bin binary.Mul (Const size) e) ≤ 2 + nodes e
    by true = omega arith
    by false = omega arith

pub shifted_nodes : (back : Bool) (size : ℕ) (a i : Expr) → nodes (shifted back size a i) ≤ 3 + nodes a + nodes i
shifted_nodes back size a i = by (is_zero i)
  where
    by : (none : Bool) → nodes (if none then a else Bin (if back then binary.Sub else binary.Add) a (scaled size i)) ≤ 3 + nodes a + nodes i
    by true = omega arith
    by false = omega (arith, scaled_nodes size i)

pub at_offset_nodes : (offset : ℕ) (e : Expr) → nodes (at_offset offset e) ≤ 2 + nodes e
at_offset_nodes offset (Const n) = omega arith
at_offset_nodes offset e = by (offset == 0)
  where
    by : (none : Bool) → nodes (if none then e else Bin binary.Add e (Const offset)) ≤ 2 + nodes e
    by true = omega arith
    by false = omega arith

place_of_nodes : (through : Through) (size : ℕ) (a i : Expr) → nodes (element_of through size a i) ≤ 3 + nodes a + nodes i
place_of_nodes Named size a i = omega arith
place_of_nodes Raw size a i = shifted_nodes false size a i
place_of_nodes One size a i = omega arith
place_of_nodes Array size a i = omega arith
place_of_nodes Terminated size a i = omega arith

pub place_nodes : (access : Access) (a i : Expr) → nodes (place_at access a i) ≤ 5 + nodes a + nodes i
place_nodes access a i =
    omega (arith, at_offset_nodes access.offset (element_of access.through access.size a i), place_of_nodes access.through access.size a i)

const_element_nodes : (through : Through) (size : ℕ) (a : Expr) (n : ℕ) → nodes (element_of through size a (Const n)) ≤ 2 + nodes a
const_element_nodes Named size a n = omega arith
const_element_nodes Raw size a n = by (n == 0)
  where
    by : (none : Bool) → nodes (if none then a else Bin binary.Add a (scaled size (Const n))) ≤ 2 + nodes a
    by true = omega arith
    by false = omega arith
const_element_nodes One size a n = omega arith
const_element_nodes Array size a n = omega arith
const_element_nodes Terminated size a n = omega arith

direct_place_nodes : (access : Access) (a : Expr) (i : source.Expr) → nodes (direct i) ≤ 6 * expr_nodes i
    → nodes (place_at access a (direct i)) ≤ 5 + nodes a + 6 * index_nodes i (expr_nodes i)
direct_place_nodes access a (source.Number n) h =
    omega (arith, at_offset_nodes access.offset (element_of access.through access.size a (Const n)), const_element_nodes access.through access.size a n)
direct_place_nodes access a i h = omega (arith, place_nodes access a (direct i), h)

element_some : (zero : Bool) (n m : ℕ) → n ≤ m → n ≤ (if zero then n else m)
element_some true n m h = omega arith
element_some false n m h = h

pub elements_some : (far : Bool) (i : source.Expr) → 3 ≤ element_nodes far i
elements_some false (source.Number n) = omega (arith, element_some (n == 0) 4 6 (omega arith))
elements_some true (source.Number n) = element_some (n == 0) 3 5 (omega arith)
elements_some false i = omega arith
elements_some true i = omega arith

pub elements_near : (i : source.Expr) → 4 ≤ element_nodes false i
elements_near (source.Number n) = element_some (n == 0) 4 6 (omega arith)
elements_near i = omega arith

pub some_access : (through : Through) (p i : source.Expr) → 1 ≤ access_nodes through p i
some_access Named p i = omega arith
some_access Raw p i = omega arith
some_access One p i = omega arith
some_access Array p i = omega (arith, elements_some (not (is_ranged p)) i)
some_access Terminated p i = omega (arith, elements_some (not (is_ranged p)) i)

pub some_shift : (checked : Bool) → 1 ≤ shift_nodes checked
some_shift true = omega arith
some_shift false = omega arith

pub some_cast : (one : Bool) (p k : source.Expr) → 1 ≤ (if one then 1 + value_nodes false p + value_nodes false k else 5 + value_nodes true p + index_nodes k (value_nodes false k))
some_cast true p k = omega arith
some_cast false p k = omega arith

pub some_nodes : (r : Bool) (e : source.Expr) → 1 ≤ value_nodes r e
some_nodes r (source.Load w access p i) = omega (arith, some_access access.through p i)
some_nodes r (source.Member to count access p i) = omega (arith, some_access access.through p i)
some_nodes r (source.Address bytes access p i) = omega (arith, some_access access.through p i)
some_nodes r (source.Moved shift p i) = omega (arith, some_shift shift.checked)
some_nodes r (source.Added shift i p) = omega (arith, some_shift shift.checked)
some_nodes r (source.Tested size how place p k) = some_cast (not r && casts_one size p k) p k
some_nodes r e = omega arith

pub some_node : (e : source.Expr) → 1 ≤ expr_nodes e
some_node e = some_nodes false e

pub core_some : (e : Expr) → 1 ≤ nodes e
core_some (Const n) = omega arith
core_some e = omega arith

cast_nodes : (one : Bool) (p k : source.Expr) → nodes (direct p) ≤ 6 * value_nodes false p → nodes (direct p) ≤ 6 * value_nodes true p
    → nodes (direct p) ≤ 6 * (if one then 1 + value_nodes false p + value_nodes false k else 5 + value_nodes true p + index_nodes k (value_nodes false k))
cast_nodes true p k plain ranged = omega (arith, plain)
cast_nodes false p k plain ranged = omega (arith, ranged)

direct_value_nodes : (r : Bool) (e : source.Expr) → nodes (direct e) ≤ 6 * value_nodes r e
direct_value_nodes r (source.Load w access p i) =
    omega (arith, direct_place_nodes access (direct p) i (direct_value_nodes false i), some_access access.through p i, direct_value_nodes (takes_range access.through p) p)
direct_value_nodes r (source.Member to count access p i) =
    omega (arith, direct_place_nodes access (direct p) i (direct_value_nodes false i), some_access access.through p i, direct_value_nodes (takes_range access.through p) p)
direct_value_nodes r (source.Address bytes access p i) =
    omega (arith, direct_place_nodes access (direct p) i (direct_value_nodes false i), some_access access.through p i, direct_value_nodes (takes_range access.through p) p)
direct_value_nodes r (source.Moved shift p i) =
    omega (arith, some_shift shift.checked, shifted_nodes shift.back shift.size (direct p) (direct i), direct_value_nodes r p, direct_value_nodes false i)
direct_value_nodes r (source.Added shift i p) =
    omega (arith, some_shift shift.checked, shifted_nodes shift.back shift.size (direct p) (direct i), direct_value_nodes r p, direct_value_nodes false i)
direct_value_nodes r (source.Binary operation is_signed place a b) =
    omega (arith, operated_nodes operation is_signed (direct a) (direct b), direct_value_nodes false a, direct_value_nodes false b)
direct_value_nodes r (source.Narrow e) = omega (arith, direct_value_nodes false e)
direct_value_nodes r (source.Bare p) = omega (arith, direct_value_nodes false p)
direct_value_nodes r (source.Tested size how place p k) = cast_nodes (not r && casts_one size p k) p k (direct_value_nodes false p) (direct_value_nodes true p)
direct_value_nodes r (source.Trusted to how p k) = omega (arith, direct_value_nodes false p)
direct_value_nodes r e = omega arith

pub direct_nodes : (e : source.Expr) → nodes (direct e) ≤ 6 * expr_nodes e
direct_nodes e = direct_value_nodes false e

held_nodes_by : (r : Bool) (e : source.Expr) (t : ℕ) (d : Bool) → nodes (if d then direct e else Local t) ≤ 6 * value_nodes r e
held_nodes_by r e t true = direct_value_nodes r e
held_nodes_by r e t false = omega (arith, some_nodes r e)

pub operand_nodes : (e : source.Expr) (t : ℕ) → nodes (operand e t) ≤ 6 * expr_nodes e
operand_nodes e t = held_nodes_by false e t (is_direct e)

pub operands_nodes : (es : List source.Expr) (t : ℕ) → all_nodes (operands es t) ≤ 6 * exprs_nodes es
operands_nodes [] t = omega arith
operands_nodes (e ∷ es) t = omega (arith, operand_nodes e t, operands_nodes es (t + 1))

-- each operand is a node
pub operands_count : (es : List source.Expr) (t : ℕ) → length (operands es t) ≤ all_nodes (operands es t)
operands_count [] t = omega arith
operands_count (e ∷ es) t = omega (arith, core_some (operand e t), operands_count es (t + 1))

-- in how many steps the code of an expression comes to its end
abbrev pub value_steps : Bool → source.Expr → ℕ
value_steps r e = 14 * value_nodes r e - 2

abbrev pub expr_steps : source.Expr → ℕ
expr_steps e = value_steps false e

abbrev pub held_steps : Bool → source.Expr → ℕ → ℕ
held_steps always e t = 14 * expr_nodes e - 2 * nodes (held always e t)

abbrev pub operand_steps : source.Expr → ℕ → ℕ
operand_steps e t = held_steps false e t

-- an index that is a number takes none
abbrev pub index_steps : Bool → source.Expr → ℕ → ℕ
index_steps always i t = index_nodes i (held_steps always i t)

abbrev pub operands_steps : List source.Expr → ℕ → ℕ
operands_steps es t = 14 * exprs_nodes es - 2 * all_nodes (operands es t)

pub value_held_nodes : (r always : Bool) (e : source.Expr) (t : ℕ) → nodes (held always e t) ≤ 6 * value_nodes r e
value_held_nodes r true e t = omega (arith, some_nodes r e)
value_held_nodes r false e t = held_nodes_by r e t (is_direct e)

pub held_nodes : (always : Bool) (e : source.Expr) (t : ℕ) → nodes (held always e t) ≤ 6 * expr_nodes e
held_nodes always e t = value_held_nodes false always e t

pub index_few : (always : Bool) (i : source.Expr) (t : ℕ)
    → index_steps always i t + 2 * index_nodes i (nodes (held always i t)) ≤ 14 * index_nodes i (expr_nodes i)
index_few always (source.Number n) t = omega arith
index_few always i t = omega (arith, held_nodes always i t)

-- the element of an access at an index
pub index_element_nodes : (checked : Bool) (access : Access) (a : Expr) (i : source.Expr) (t : ℕ)
    → nodes (element_of access.through access.size a (held (keeps_index checked i) i t)) ≤ 3 + nodes a + index_nodes i (nodes (held (keeps_index checked i) i t))
index_element_nodes true access a (source.Number n) t = omega (arith, const_element_nodes access.through access.size a n)
index_element_nodes false access a (source.Number n) t = omega (arith, const_element_nodes access.through access.size a n)
index_element_nodes checked access a i t = place_of_nodes access.through access.size a (held (keeps_index checked i) i t)

pub element_nodes_few : (access : Access) (p i : source.Expr) (t : ℕ)
    → nodes (reached_element access p i t) ≤ 3 + nodes (pointer_at access p t) + index_nodes i (nodes (index_at access i (index_in access p t)))
element_nodes_few access p i t = index_element_nodes (is_bounded access.through) access (pointer_at access p t) i (index_in access p t)

pub reached_nodes : (access : Access) (p i : source.Expr) (t : ℕ)
    → nodes (reached_place access p i t) ≤ 5 + nodes (pointer_at access p t) + index_nodes i (nodes (index_at access i (index_in access p t)))
reached_nodes access p i t = omega (arith, at_offset_nodes access.offset (reached_element access p i t), element_nodes_few access p i t)

-- in how many steps an access is judged
abbrev pub judged_steps : Through → source.Expr → source.Expr → ℕ → ℕ
judged_steps Named p i t = 0
judged_steps Raw p i t = 0
judged_steps One p i t = nodes (operand p t) + 1
judged_steps Array p i t = 14 * element_nodes (not (is_ranged p)) i - 20
judged_steps Terminated p i t = 14 * element_nodes (not (is_ranged p)) i - 20

pub judged_few : (through : Through) (p i : source.Expr) (t : ℕ)
    → judged_steps through p i t + 13 ≤ nodes (held (is_bounded through) p t) + 14 * access_nodes through p i
judged_few Named p i t = omega (arith, core_some (operand p t))
judged_few Raw p i t = omega (arith, core_some (operand p t))
judged_few One p i t = omega arith
judged_few Array p i t = omega (arith, elements_some (not (is_ranged p)) i)
judged_few Terminated p i t = omega (arith, elements_some (not (is_ranged p)) i)

-- in how many steps an access is found
abbrev pub found_steps : Access → source.Expr → source.Expr → ℕ → ℕ
found_steps access p i t =
    (14 * value_nodes (takes_range access.through p) p - 2 * nodes (pointer_at access p t))
    + (index_steps (keeps_index (is_bounded access.through) i) i (index_in access p t) + judged_steps access.through p i t)

abbrev pub place_nodes_of : Access → source.Expr → source.Expr → ℕ
place_nodes_of access p i = access_nodes access.through p i + value_nodes (takes_range access.through p) p + index_nodes i (expr_nodes i)

-- and then in a few more, in which the place is read
pub found_few : (access : Access) (p i : source.Expr) (t : ℕ) → found_steps access p i t + nodes (reached_place access p i t) + 8 ≤ 14 * place_nodes_of access p i
found_few access p i t =
    let checked = is_bounded access.through in
    omega (
      arith,
      value_held_nodes (takes_range access.through p) checked p t,
      index_few (keeps_index checked i) i (index_in access p t),
      judged_few access.through p i t,
      reached_nodes access p i t,
    )

pub element_few : (access : Access) (p i : source.Expr) (t : ℕ) → found_steps access p i t + nodes (reached_element access p i t) + 10 ≤ 14 * place_nodes_of access p i
element_few access p i t =
    let checked = is_bounded access.through in
    omega (
      arith,
      value_held_nodes (takes_range access.through p) checked p t,
      index_few (keeps_index checked i) i (index_in access p t),
      judged_few access.through p i t,
      element_nodes_few access p i t,
    )

-- an index of a checked access or move stands alone
pub index_alone : (i : source.Expr) (t : ℕ) → nodes (held (keeps_index true i) i t) ≡ 1
index_alone (source.Number n) t = refl
index_alone i t = refl

-- ---- ends of ranges

base_nodes : (x : ℕ) (b : Base) → nodes (base_at x b) ≤ 1
base_nodes x bases.Own = omega arith
base_nodes x (bases.Local y) = omega arith
base_nodes x (bases.Fixed a) = omega arith

pub amount_nodes : (v : Option Variable) (add : ℤ) → nodes (amount_at v add) ≤ 3
amount_nodes None add = omega arith
amount_nodes (Some v) add = omega (arith, at_offset_nodes (word_of add) (Local v.local))

pub end_nodes : (x size : ℕ) (e : LimitsEnd) → nodes (end_at x size e) ≤ 7
end_nodes x size e =
    omega (arith, shifted_nodes false size (base_at x e.base) (amount_at e.variable e.add), base_nodes x e.base, amount_nodes e.variable e.add)

counted_nodes : (upper : Bool) (size : ℕ) (count : Count) (a : ℕ) → nodes (counted_end upper size count (Load Word (Const a))) ≤ 7
counted_nodes true size (counts.Fixed n) a = omega (arith, shifted_nodes false size (Load Word (Const a)) (Const (word_of n)))
counted_nodes false size (counts.Fixed n) a = omega arith
counted_nodes upper size (counts.Member offset form add) a = omega arith

pub range_end_nodes : (upper : Bool) (p : source.Expr) → nodes (range_end upper p) ≤ 7
range_end_nodes upper (source.Limited x limits) = end_nodes x limits.to.size (if upper then limits.upper else limits.lower)
range_end_nodes upper (source.Member to count access p i) = counted_nodes upper to.size count (static_place access p)
range_end_nodes upper (source.Moved shift p i) = range_end_nodes upper p
range_end_nodes upper (source.Added shift i p) = range_end_nodes upper p
range_end_nodes upper p = omega arith

pub range_nodes : (last : Bool) (p : source.Expr) (t : ℕ) → nodes (range_test last p (Local t)) ≤ 23
range_nodes true p t = omega (arith, range_end_nodes false p, range_end_nodes true p)
range_nodes false p t = omega (arith, range_end_nodes false p, range_end_nodes true p)

pub held_test_nodes : (last : Bool) (t : ℕ) → nodes (held_test last t) ≤ 13
held_test_nodes true t = omega arith
held_test_nodes false t = omega arith

-- in how many steps a range is tested, by whether it is a value
abbrev pub test_steps : Bool → ℕ
test_steps true = 14
test_steps false = 24

pub test_few : (last b : Bool) (p : source.Expr) (t : ℕ) → nodes (if b then range_test last p (Local t) else held_test last t) + 1 ≤ test_steps (not b)
test_few last true p t = omega (arith, range_nodes last p t)
test_few last false p t = omega (arith, held_test_nodes last t)

pub test_within : (far : Bool) (i : source.Expr) → 2 + (14 * element_nodes far i - 46) + test_steps far ≤ 14 * element_nodes far i - 20
test_within true i = omega (arith, elements_some true i)
test_within false i = omega (arith, elements_near i)

pub length_nodes : (size : ℕ) (count : Count) (u : ℕ) → nodes (length_at size count u) ≤ 8
length_nodes size (counts.Fixed n) u = omega arith
length_nodes size (counts.Member offset how add) u =
    let place = at_offset offset (Local u) in
    let member = Load (width_of how) place in
    omega (arith, scaled_nodes size (at_offset (word_of add) member), at_offset_nodes (word_of add) member, at_offset_nodes offset (Local u))

bytes_nodes : (how : Integer) (k : Expr) (t : ℕ) → nodes (bytes_fit how k t) ≤ 11 + 2 * nodes k
bytes_nodes integer.Int k t = omega arith
bytes_nodes integer.Unsigned k t = omega arith
bytes_nodes integer.Char k t = omega arith

fit_nodes : (size : ℕ) (how : Integer) (k : Expr) (t : ℕ) → nodes (elements_fit size how k t) ≤ 11 + 2 * nodes k
fit_nodes size how k t = by (size == 1)
  where
    by : (one : Bool) → nodes (if one then bytes_fit how k t else below_or_at k (Bin binary.DivU (bytes_left t) (Const size))) ≤ 11 + 2 * nodes k
    by true = bytes_nodes how k t
    by false = omega arith

pub cast_test_nodes : (size : ℕ) (how : Integer) (k : Expr) (t : ℕ) → nodes k ≡ 1 → nodes (Bin binary.Or (Bin binary.Eq (Local t) (Const 0)) (cast_test size how k t)) ≤ 33
cast_test_nodes size how k t one = omega (arith, fit_nodes size how k t)

pub exact_nodes : (back signs : Bool) (size u : ℕ) (i : Expr) → nodes i ≡ 1 → nodes (exact_test back signs size (Local u) i) ≤ 13
exact_nodes true signs size u i one = omega (arith, shifted_nodes true size (Local u) i)
exact_nodes false signs size u i one = omega (arith, shifted_nodes false size (Local u) i)
