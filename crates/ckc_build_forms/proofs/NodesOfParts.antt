-- What is made of parts has few nodes more than the parts.
use Rattle.std.proofs.Common.{◌≡◌, ℕ, ◌+◌, ◌≤◌, Bool, true, false, List, refl, arith}
use Rattle.std.specs.Prelude.{◌==◌, not, ◌&&◌, if◌then◌else◌, Option, Some, None}
use Rattle.ckc_base.specs.declared.places.Pos.{Pos}
use Rattle.ckc_types.specs.declared.types.Kind.{Kind}
use Rattle.ckc_types.specs.declared.types.Kind.TheVariants as kind
use Rattle.ckc_types.specs.declared.types.CType.{CType}
use Rattle.ckc_types.specs.declared.types.Structs.{Structs}
use Rattle.ckc_syntax.specs.declared.tree.Name.{Name}
use Rattle.ckc_syntax.specs.declared.tree.Name.TheVariants as name
use Rattle.ckc_syntax.specs.declared.tree.TreeOp.{TreeOp}
use Rattle.ckc_syntax.specs.declared.tree.TreeOp.TheVariants as op
use Rattle.ckc_typed.specs.declared.environment.Variable.{Variable}
use Rattle.ckc_typed.specs.declared.typed.Note.{Note}
use Rattle.ckc_typed.specs.declared.typed.Range.{Range}
use Rattle.ckc_typed.specs.declared.typed.Range.TheVariants as range
use Rattle.ckc_typed.specs.declared.typed.Typed.{Typed}
use Rattle.ckc_typed.specs.Types.{is_char, is_pointer, kind_of}
use Rattle.ckc_typed.specs.Declarations.{is_checked_kind}
use Rattle.ckc_typed.specs.Operands.{same_element}
use Rattle.ckc_source.specs.declared.expr.Count.{Count}
use Rattle.ckc_source.specs.declared.expr.Pointee.{Pointee}
use Rattle.ckc_source.specs.declared.expr.Integer.{Integer}
use Rattle.ckc_source.specs.declared.expr.Operation.TheVariants as operation
use Rattle.ckc_source.specs.declared.expr.Through.{Through}
use Rattle.ckc_source.specs.declared.expr.Through.TheVariants.{Named, Raw, One, Array as Arrays, Terminated}
use Rattle.ckc_source.specs.Code.{Expr, Number, Local, Limited, Array, Load, Member, Address, Moved, Added, Binary, And, Or, Choice, Narrow, Bare, Tested, Trusted}
use Rattle.ckc_checks_operands.specs.Cases.{casts_one, is_ranged, takes_range}
use Rattle.ckc_checks_operands.specs.Compilable.{element_nodes, access_nodes, shift_nodes, index_nodes, range_nodes, value_nodes, expr_nodes}
use Rattle.ckc_build_values.specs.Kinds.{through_kind, is_signed}
use Rattle.ckc_build_values.specs.Names.{array_of, count_of_static}
use Rattle.ckc_build_values.specs.Operators.{converted, cast, unary, binary, is_signed_at, shift, distance, of_operands, elements_in}
use Rattle.ckc_build_values.specs.Places.{Place, object_place, element_place, target_place, member_place, name_place, read_at, address_at}
use Rattle.ckc_build_values.specs.Expressions.{local_in, static_in, named}

-- how many nodes an access at a place has, with its pointer and its index
abbrev pub place_nodes : Place → ℕ
place_nodes q =
    access_nodes q.access.through q.pointer q.index + value_nodes (takes_range q.access.through q.pointer) q.pointer
    + index_nodes q.index (expr_nodes q.index)

-- An expression has fewer nodes than so many by 3, or by 2 if its range is a value.
abbrev pub HasFew : ℕ → Expr → Type 0
HasFew m e = (r : Bool) → value_nodes r e + 3 ≤ m + range_nodes r

pub range_most : (r : Bool) → range_nodes r ≤ 1
range_most true = omega arith
range_most false = omega arith

-- ---- accesses

element_by : (zero : Bool) (n m : ℕ) → n ≤ m → (if zero then n else m) ≤ m
element_by true n m h = h
element_by false n m h = omega arith

held_most : (i : Expr) → element_nodes true i ≤ 5
held_most (Number n) = element_by (n == 0) 3 5 (omega arith)
held_most i = omega arith

tested_most : (i : Expr) → element_nodes false i ≤ 6
tested_most (Number n) = element_by (n == 0) 4 6 (omega arith)
tested_most i = omega arith

and_right : (a b : Bool) → (a && b) ≡ true → b ≡ true
and_right true b h = h
and_right false b h = absurd cc

-- a range that is computed where it is tested would have more nodes as a value
ranged_more : (e : Expr) → is_ranged e ≡ true → value_nodes false e + 1 ≤ value_nodes true e
ranged_more (Limited x limits) h = omega arith
ranged_more (Array at bytes) h = omega arith
ranged_more (Member to count access p i) h = omega arith
ranged_more (Address bytes access p i) h = omega arith
ranged_more (Moved shift p i) h = omega (arith, ranged_more p (and_right shift.checked (is_ranged p) h))
ranged_more (Added shift i p) h = omega (arith, ranged_more p (and_right shift.checked (is_ranged p) h))
ranged_more (Number n) h = omega arith
ranged_more (Local x) h = omega arith
ranged_more (Load width access p i) h = omega arith
ranged_more (Binary operation is_signed at a b) h = omega arith
ranged_more (And a b) h = omega arith
ranged_more (Or a b) h = omega arith
ranged_more (Choice c a b) h = absurd cc
ranged_more (Narrow e) h = omega arith
ranged_more (Bare e) h = omega arith
ranged_more (Tested size how at p k) h = absurd cc
ranged_more (Trusted to how p k) h = omega arith

array_most : (b : Bool) (p i : Expr) (m : ℕ) → is_ranged p ≡ b → HasFew m p → element_nodes (not b) i + value_nodes (not b) p + 2 ≤ 5 + m
array_most true p i m e h = omega (arith, tested_most i, ranged_more p e, h true)
array_most false p i m e h = omega (arith, held_most i, h true)

access_most : (through : Through) (p i : Expr) (m : ℕ) → HasFew m p → access_nodes through p i + value_nodes (takes_range through p) p + 2 ≤ 5 + m
access_most Named p i m h = omega (arith, h false)
access_most Raw p i m h = omega (arith, h false)
access_most One p i m h = omega (arith, h false)
access_most Arrays p i m h = array_most (is_ranged p) p i m refl h
access_most Terminated p i m h = array_most (is_ranged p) p i m refl h

-- the first element
first_by : (b : Bool) (p : Expr) (m : ℕ) → is_ranged p ≡ b → HasFew m p → element_nodes (not b) (Number 0) + value_nodes (not b) p + 2 ≤ 3 + m
first_by true p m e h = omega (arith, ranged_more p e, h true)
first_by false p m e h = omega (arith, h true)

access_first : (through : Through) (p : Expr) (m : ℕ) → HasFew m p → access_nodes through p (Number 0) + value_nodes (takes_range through p) p + 2 ≤ 3 + m
access_first Named p m h = omega (arith, h false)
access_first Raw p m h = omega (arith, h false)
access_first One p m h = omega (arith, h false)
access_first Arrays p m h = first_by (is_ranged p) p m refl h
access_first Terminated p m h = first_by (is_ranged p) p m refl h

pub index_most : (i : Expr) → index_nodes i (expr_nodes i) ≤ expr_nodes i
index_most (Number n) = omega arith
index_most i = omega arith

shift_most : (checked : Bool) → shift_nodes checked ≤ 3
shift_most true = omega arith
shift_most false = omega arith

pub element_place_most : (structs : Structs) (t : CType) (at : Pos) (index : Integer) (e f : Expr) (m n : ℕ) → HasFew m e → HasFew n f
    → place_nodes (element_place structs t at index e f) ≤ 2 + m + n
element_place_most structs t at index e f m n h k = omega (arith, access_most (through_kind (kind_of t)) e f m h, index_most f, k false)

pub target_place_most : (structs : Structs) (t : CType) (at : Pos) (e : Expr) (m : ℕ) → HasFew m e → place_nodes (target_place structs t at e) ≤ 2 + m
target_place_most structs t at e m h = omega (arith, access_first (through_kind (kind_of t)) e m h)

pub member_place_most : (structs : Structs) (tag : ℕ) (n : Name) (q : Place) → place_nodes (member_place structs tag n q) ≤ place_nodes q
member_place_most structs tag n q = omega arith

pub name_place_most : (p : Typed) (t : CType) (at : Pos) (n : Name) → place_nodes (name_place p t at n) ≤ 2
name_place_most p t at (name.Static k) = omega arith
name_place_most p t at n = omega arith

pub read_most : (structs : Structs) (t : CType) (n : Option Count) (q : Place) (r : Bool) → value_nodes r (read_at structs t n q) ≤ range_nodes r + place_nodes q
read_most structs t (Some n) q r = omega arith
read_most structs t None q r = omega arith

pub address_most : (structs : Structs) (t : CType) (q : Place) (r : Bool) → value_nodes r (address_at structs t q) ≤ range_nodes r + place_nodes q
address_most structs t q r = omega arith

-- ---- names

local_most : (p : Typed) (locals : List Variable) (t : CType) (k : ℕ) (l : Range) (r : Bool) → value_nodes r (local_in p locals t k l) ≤ 2 + range_nodes r
local_most p locals t k (range.Known l u) r = omega (arith, range_most r)
local_most p locals t k range.Missing r = omega (arith, range_most r)
local_most p locals t k range.Any r = omega (arith, range_most r)

static_most : (p : Typed) (t : CType) (at : Pos) (k : ℕ) (array : Option Kind) (r : Bool) → value_nodes r (static_in p t at k array) ≤ 2 + range_nodes r
static_most p t at k None r = omega (arith, range_most r, read_most p.layout t (count_of_static p t (name.Static k)) (object_place p t at k) r)
static_most p t at k (Some kind.Raw) r = omega (arith, range_most r)
static_most p t at k (Some kind.One) r = omega (arith, range_most r)
static_most p t at k (Some kind.Arr) r = omega (arith, range_most r)
static_most p t at k (Some kind.Nt) r = omega (arith, range_most r)

pub named_most : (p : Typed) (locals : List Variable) (a : Note) (at : Pos) (n : Name) (r : Bool) → value_nodes r (named p locals a at n) ≤ 2 + range_nodes r
named_most p locals a at (name.Local k) r = local_most p locals a.ctype k a.range r
named_most p locals a at (name.Static k) r = static_most p a.ctype at k (array_of p k) r
named_most p locals a at n r = omega (arith, range_most r)

-- ---- operators

narrow_by : (is_narrow : Bool) (e : Expr) (m : ℕ) → HasFew m e → (r : Bool) → value_nodes r (if is_narrow then Narrow e else e) + 2 ≤ m + range_nodes r
narrow_by true e m h r = omega (arith, h false)
narrow_by false e m h r = omega (arith, h r)

pub converted_most : (t : CType) (e : Expr) (m : ℕ) → HasFew m e → (r : Bool) → value_nodes r (converted t e) + 2 ≤ m + range_nodes r
converted_most t e m h r = narrow_by (is_char t) e m h r

cast_by : (is_bare : Bool) (t : CType) (e : Expr) (m : ℕ) → HasFew m e → (r : Bool) → value_nodes r (if is_bare then Bare e else converted t e) ≤ m
cast_by true t e m h r = omega (arith, h false, range_most r)
cast_by false t e m h r = omega (arith, converted_most t e m h r, range_most r)

pub cast_most : (t u : CType) (e : Expr) (m : ℕ) → HasFew m e → (r : Bool) → value_nodes r (cast t u e) ≤ m
cast_most t u e m h r = cast_by (is_pointer t && not (same_element t u)) t e m h r

pub unary_most : (o : TreeOp) (at : Pos) (e : Expr) (m : ℕ) → HasFew m e → (r : Bool) → value_nodes r (unary o at e) ≤ 2 + m
unary_most op.Minus at e m h r = omega (arith, h false, range_most r)
unary_most op.Plus at e m h r = omega (arith, h r, range_most r)
unary_most op.Not at e m h r = omega (arith, h false, range_most r)
unary_most op.Flip at e m h r = omega (arith, h false, range_most r)
unary_most o at e m h r = omega (arith, range_most r)

binary_most : (o : TreeOp) (s : Bool) (at : Pos) (e f : Expr) (r : Bool) → value_nodes r (binary o s at e f) ≤ 2 + expr_nodes e + expr_nodes f
binary_most op.OrElse s at e f r = omega (arith, range_most r)
binary_most op.AndThen s at e f r = omega (arith, range_most r)
binary_most op.Or s at e f r = omega (arith, range_most r)
binary_most op.Xor s at e f r = omega (arith, range_most r)
binary_most op.And s at e f r = omega (arith, range_most r)
binary_most op.Eq s at e f r = omega (arith, range_most r)
binary_most op.Ne s at e f r = omega (arith, range_most r)
binary_most op.Lt s at e f r = omega (arith, range_most r)
binary_most op.Le s at e f r = omega (arith, range_most r)
binary_most op.Gt s at e f r = omega (arith, range_most r)
binary_most op.Ge s at e f r = omega (arith, range_most r)
binary_most op.Shl s at e f r = omega (arith, range_most r)
binary_most op.Shr s at e f r = omega (arith, range_most r)
binary_most op.Add s at e f r = omega (arith, range_most r)
binary_most op.Sub s at e f r = omega (arith, range_most r)
binary_most op.Mul s at e f r = omega (arith, range_most r)
binary_most op.Div s at e f r = omega (arith, range_most r)
binary_most op.Rem s at e f r = omega (arith, range_most r)
binary_most o s at e f r = omega (arith, range_most r)

add_by : (left right : Bool) (structs : Structs) (t u : CType) (at : Pos) (e f : Expr) (m n : ℕ) → HasFew m e → HasFew n f → (r : Bool)
    → value_nodes r (if left then Moved (shift structs t u at false) e f
    else (if right then Added (shift structs u t at false) e f else binary op.Add (is_signed_at op.Add t u) at e f)) ≤ m + n + range_nodes r
add_by true right structs t u at e f m n h k r = omega (arith, shift_most (is_checked_kind (kind_of t)), h r, k false)
add_by false true structs t u at e f m n h k r = omega (arith, shift_most (is_checked_kind (kind_of u)), range_most r, h false, k r)
add_by false false structs t u at e f m n h k r = omega (arith, binary_most op.Add (is_signed_at op.Add t u) at e f r, h false, k false)

sub_by : (left right : Bool) (structs : Structs) (t u : CType) (at : Pos) (e f : Expr) (m n : ℕ) → HasFew m e → HasFew n f → (r : Bool)
    → value_nodes r (if left then (if right then distance structs t at e f else Moved (shift structs t u at true) e f)
    else binary op.Sub (is_signed_at op.Sub t u) at e f) ≤ m + n + range_nodes r
sub_by true true structs t u at e f m n h k r = omega (arith, range_most r, h false, k false)
sub_by true false structs t u at e f m n h k r = omega (arith, shift_most (is_checked_kind (kind_of t)), h r, k false)
sub_by false right structs t u at e f m n h k r = omega (arith, binary_most op.Sub (is_signed_at op.Sub t u) at e f r, h false, k false)

pub operands_most : (structs : Structs) (o : TreeOp) (t u : CType) (at : Pos) (e f : Expr) (m n : ℕ) → HasFew m e → HasFew n f → (r : Bool)
    → value_nodes r (of_operands structs o t u at e f) ≤ m + n + range_nodes r
operands_most structs op.Add t u at e f m n h k r = add_by (is_pointer t) (is_pointer u) structs t u at e f m n h k r
operands_most structs op.Sub t u at e f m n h k r = sub_by (is_pointer t) (is_pointer u) structs t u at e f m n h k r
operands_most structs o t u at e f m n h k r = omega (arith, binary_most o (is_signed_at o t u) at e f r, h false, k false)

elements_by : (is_one : Bool) (s : Bool) (at : Pos) (e : Expr) (size : ℕ) → expr_nodes (if is_one then e else Binary operation.Div s at e (Number size)) ≤ 2 + expr_nodes e
elements_by true s at e size = omega arith
elements_by false s at e size = omega arith

pub elements_in_most : (size : ℕ) (t : CType) (at : Pos) (e : Expr) → expr_nodes (elements_in size t at e) ≤ 2 + expr_nodes e
elements_in_most size t at e = elements_by (size == 1) (is_signed t) at e size

-- ---- bounds casts, to so many elements

cast_has : (one : Bool) (p k : Expr) (m n : ℕ) → HasFew m p → index_nodes k (expr_nodes k) ≤ n → expr_nodes k ≤ 1 + n
    → (if one then 1 + value_nodes false p + value_nodes false k else 5 + value_nodes true p + index_nodes k (value_nodes false k)) + 2 ≤ 5 + m + n
cast_has true p k m n h i j = omega (arith, h false, j)
cast_has false p k m n h i j = omega (arith, h true, i)

pub checked_most : (size : ℕ) (how : Integer) (at : Pos) (p k : Expr) (m n : ℕ) → HasFew m p → index_nodes k (expr_nodes k) ≤ n → expr_nodes k ≤ 1 + n
    → (r : Bool) → value_nodes r (Tested size how at p k) ≤ 3 + m + n
checked_most size how at p k m n h i j r = omega (arith, cast_has (not r && casts_one size p k) p k m n h i j)

pub trusted_most : (to : Pointee) (how : Integer) (p k : Expr) (m n : ℕ) → HasFew m p → expr_nodes k ≤ 1 + n
    → (r : Bool) → value_nodes r (Trusted to how p k) ≤ 3 + m + n
trusted_most to how p k m n h j r = omega (arith, h false, range_most r, j)

pub choice_most : (c a b : Expr) (l m n : ℕ) → HasFew l c → HasFew m a → HasFew n b → (r : Bool) → value_nodes r (Choice c a b) ≤ l + m + n
choice_most c a b l m n h i j r = omega (arith, h false, i r, j r, range_most r)
