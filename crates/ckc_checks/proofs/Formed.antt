-- What is inserted names only what is there.
use Rattle.std.proofs.Common.{◌≡◌, ℕ, zero, suc, ◌+◌, ◌-◌, ◌≤◌, ◌<◌, List, [], ◌∷◌, length, refl, sym, ◌∙◌, ap, subst, arith, lit<}
use Rattle.std.specs.Prelude.{ℤ, pos, negsuc, ◌^◌, ◌/◌, ◌==◌, Bool, true, false, not, ◌||◌, max, if◌then◌else◌, Option, Some, None, slice_get, map, All, IfSome}
use Rattle.std.specs.Option.{option_map}
use Rattle.std.proofs.lemmas.Option.{slice_get-map}
use Rattle.std.proofs.lemmas.List.Elements.{All-nil, All-cons, All-head, All-tail, All-map, All-weaker}
use Rattle.ckc_base.specs.declared.arithmetic.Width.{Width}
use Rattle.ckc_base.specs.declared.arithmetic.Width.TheVariants as width
use Rattle.ckc_base.specs.declared.places.Pos.{Pos}
use Rattle.ckc_base.specs.declared.runtime_checks.Check.TheVariants as check
use Rattle.ckc_base.specs.declared.arithmetic.BinOp.TheVariants as binary
use Rattle.ckc_source.specs.declared.expr.Access.{Access}
use Rattle.ckc_source.specs.declared.expr.Count.{Count}
use Rattle.ckc_source.specs.declared.expr.Count.TheVariants as counts
use Rattle.ckc_source.specs.declared.expr.Base.{Base}
use Rattle.ckc_source.specs.declared.expr.Base.TheVariants as bases
use Rattle.ckc_source.specs.declared.expr.End.{End as LimitsEnd}
use Rattle.ckc_source.specs.declared.expr.Shift.{Shift}
use Rattle.ckc_source.specs.declared.expr.Variable.{Variable}
use Rattle.ckc_source.specs.declared.expr.Through.{Through}
use Rattle.ckc_source.specs.declared.expr.Through.TheVariants.{Named, Raw, One, Array, Terminated}
use Rattle.ckc_source.specs.declared.expr.Operation.{Operation}
use Rattle.ckc_source.specs.declared.expr.Operation.TheVariants.{Le, Gt, Ge}
use Rattle.ckc_source.specs.declared.stmt.Kept.{Kept}
use Rattle.ckc_source.specs.declared.stmt.Kept.TheVariants as kept
use Rattle.ckc_source.specs.Code as source
use Rattle.std.proofs.lemmas.Int.{ints}
use Rattle.std.proofs.Math.Nat.{div-le_self}
use Rattle.ckc_base.specs.Words.{word_of}
use Rattle.ckc_source.specs.Words.{divides, width_of}
use Rattle.ckc_core.specs.Code.{Expr, Const, Local, Load, Bin, Code, End, Set, Store, Check, Function}
use Rattle.ckc_source.specs.declared.expr.Integer.{Integer}
use Rattle.ckc_source.specs.declared.expr.Integer.TheVariants as integer
use Rattle.ckc_source.specs.declared.expr.Limits.{Limits}
use Rattle.ckc_source.specs.declared.expr.Pointee.{Pointee}
use Rattle.ckc_core.specs.WellFormed.{IsExprOver, IsCodeOver, IsFunctionOver, IsWellFormed, HasParams, IsPlace}
use Rattle.ckc_checks.proofs.Needs.{far_one, range_more, range_far, value_room_some, Has, judged_has, moved_has, added_has, choice_has}
use Rattle.ckc_checks_operands.specs.Compilable as form
use Rattle.ckc_checks_operands.specs.Compilable.{IsBase, IsVariable, IsSmall, IsEnd, IsJudged, IsRanged, IsAccess, IsChecked, IsCompilableExpr, IsCompilablePart, IsCompilableTarget, IsCompilableRight, IsCompilableAssign, IsCompilableKept, IsCompilableCode, IsCompilableFunction, IsCompilable, IsCount, IsBounded, HasRange, IsCast}
use Rattle.ckc_checks_operands.specs.Cases.{casts_one, is_bounded, is_ranged, takes_range}
use Rattle.ckc_checks_operands.specs.code.Operands.{is_direct, operated, low_byte, kept_in, as_truth, is_zero, scaled, shifted, at_offset, element_of, place_at, held, keeps_index, direct, operand}
use Rattle.ckc_checks_operands.specs.code.Pointers.{reads_signed, exact_test, base_at, amount_at, end_at, counted_end, range_end, upper_test, range_test, static_place, index_far, index_in, held_test, bounds_test, length_at, below_or_at, bytes_left, bytes_fit, cast_test, is_counted, count_of, is_array}
use Rattle.ckc_checks_follow.specs.code.Inserted.{put_if, room_if, exact_code, outside_code, count_code, first_code, own_pointer, own_index, counted_code, bounded_code, judged, pointer_at, index_at, reached_place, operation_code, expr_code, operand_code, operands_code, operands, expr_room, operand_room, operands_room, is_narrow, marked, aim_code, target_count, guarded, stored_code, written, fixed, allowed_code, written_there, right_assigned, valued, behind_planned, plans_code, writes_code, bundle_code, target_room, guard_room, aimed_room, assigned_room, valued_room, bundle_room, result_in, result_kept, statements, room, zeroed, function_code, inserted, reached_element, access_room, value_room, with_range, no_range, pointer_code, tested_code, trusted_range, moved_range, value_code, access_code}

-- an expression needs a temporary for its value
pub expr_room_some : (e : source.Expr) → 1 ≤ expr_room e
expr_room_some e = value_room_some false e

-- checked arithmetic has a place
checked_place : (shift : Shift) (checked : Bool) → IsChecked checked shift → checked ≡ true → IsPlace shift.at
checked_place shift true h e = h.0
checked_place shift false h e = absurd cc

pub length-operands : (es : List source.Expr) (t : ℕ) → length (operands es t) ≡ length es
length-operands [] t = refl
length-operands (e ∷ es) t = ap suc (length-operands es (t + 1))

small_word : (add : ℤ) → IsSmall add → word_of add < 2 ^ 32
small_word (pos n) h = let less : n < 2 ^ 31 = grind (arith, ints) in omega (arith, ints)
small_word (negsuc n) h = omega (arith, ints)

module _ (few locals : ℕ) (more : few ≤ locals) where
  operated_over : (o : Operation) (s : Bool) (a b : Expr) → IsExprOver locals a → IsExprOver locals b → IsExprOver locals (operated o s a b)
  operated_over Le s a b x y = ((y, x), lit< tt)
  operated_over Gt s a b x y = (y, x)
  operated_over Ge s a b x y = ((x, y), lit< tt)
  operated_over o s a b x y = (x, y)

  scaled_over : (size : ℕ) (e : Expr) → size < 2 ^ 32 → IsExprOver locals e → IsExprOver locals (scaled size e)
  scaled_over size (Const n) h x = omega arith
  scaled_over size e h x = by (size == 1)
    where
      by : (one : Bool) → IsExprOver locals (if one then e else Bin binary.Mul (Const size) e)
      by true = x
      by false = (h, x)

  shifted_over : (back : Bool) (size : ℕ) (a i : Expr) → size < 2 ^ 32 → IsExprOver locals a → IsExprOver locals i → IsExprOver locals (shifted back size a i)
  shifted_over back size a i h x y = by (is_zero i)
    where
      by : (none : Bool) → IsExprOver locals (if none then a else Bin (if back then binary.Sub else binary.Add) a (scaled size i))
      by true = x
      by false = (x, scaled_over size i h y)

  at_offset_over : (offset : ℕ) (e : Expr) → offset < 2 ^ 32 → IsExprOver locals e → IsExprOver locals (at_offset offset e)
  at_offset_over offset (Const n) h x = omega arith
  at_offset_over offset e h x = by (offset == 0)
    where
      by : (none : Bool) → IsExprOver locals (if none then e else Bin binary.Add e (Const offset))
      by true = x
      by false = (x, h)

  element_over : (through : Through) (size : ℕ) (a i : Expr) → size < 2 ^ 32 → IsExprOver locals a → IsExprOver locals i → IsExprOver locals (element_of through size a i)
  element_over Named size a i h x y = x
  element_over Raw size a i h x y = shifted_over false size a i h x y
  element_over One size a i h x y = x
  element_over Array size a i h x y = x
  element_over Terminated size a i h x y = x

  place_over : (access : Access) (pointer index : source.Expr) (a i : Expr) → IsAccess few access pointer index → IsExprOver locals a → IsExprOver locals i → IsExprOver locals (place_at access a i)
  place_over access pointer index a i h x y =
      at_offset_over access.offset (element_of access.through access.size a i) h.2 (element_over access.through access.size a i h.1 x y)

  direct_over : (e : source.Expr) → IsCompilableExpr few e → IsExprOver locals (direct e)
  direct_over (source.Number n) h = h
  direct_over (source.Local x) h = omega arith
  direct_over (source.Limited x limits) h = omega arith
  direct_over (source.Array at bytes) h = h
  direct_over (source.Load w access p i) h = place_over access p i (direct p) (direct i) h.0 (direct_over p h.1) (direct_over i h.2)
  direct_over (source.Member to count access p i) h = place_over access p i (direct p) (direct i) h.0 (direct_over p h.1) (direct_over i h.2)
  direct_over (source.Address bytes access p i) h = place_over access p i (direct p) (direct i) h.0 (direct_over p h.1) (direct_over i h.2)
  direct_over (source.Moved shift p i) h = let s = h.0 in shifted_over shift.back shift.size (direct p) (direct i) s.0 (direct_over p h.1) (direct_over i h.2)
  direct_over (source.Added shift i p) h = let s = h.0 in shifted_over shift.back shift.size (direct p) (direct i) s.0 (direct_over p h.2) (direct_over i h.1)
  direct_over (source.Bare p) h = direct_over p h
  direct_over (source.Trusted to how p k) h = direct_over p h.0
  direct_over (source.Binary o s at a b) h = operated_over o s (direct a) (direct b) (direct_over a h.1) (direct_over b h.2)
  direct_over (source.Narrow e) h = (direct_over e h, lit< tt)
  direct_over (source.And a b) h = lit< tt
  direct_over (source.Or a b) h = lit< tt
  direct_over (source.Choice c a b) h = lit< tt
  direct_over (source.Tested size how at p k) h = direct_over p h.1

  by_room : (is_one : Bool) (d : Expr) (r t : ℕ) → IsExprOver locals d → 1 ≤ r → t + (if is_one then 0 else r) ≤ locals → IsExprOver locals (if is_one then d else Local t)
  by_room true d r t h some fits = h
  by_room false d r t h some fits = omega arith

  operand_over : (e : source.Expr) (t : ℕ) → IsCompilableExpr few e → t + operand_room e ≤ locals → IsExprOver locals (operand e t)
  operand_over e t h fits = by_room (is_direct e) (direct e) (expr_room e) t (direct_over e h) (expr_room_some e) fits

  held_over : (r always : Bool) (e : source.Expr) (t : ℕ) → IsCompilableExpr few e → t + room_if always e (value_room r e) ≤ locals → IsExprOver locals (held always e t)
  held_over r true e t h fits = omega (arith, value_room_some r e, far_one r)
  held_over r false e t h fits = by_room (is_direct e) (direct e) (value_room r e) t (direct_over e h) (omega (arith, value_room_some r e, far_one r)) fits

  reached_element_over : (access : Access) (p i : source.Expr) (t : ℕ) → IsAccess few access p i → IsCompilableExpr few p → IsCompilableExpr few i
      → t + access_room access p i ≤ locals → IsExprOver locals (reached_element access p i t)
  reached_element_over access p i t h hp hi fits =
      let checked = is_bounded access.through in
      element_over access.through access.size (pointer_at access p t) (index_at access i (index_in access p t)) h.1
      (held_over (takes_range access.through p) checked p t hp (omega arith)) (held_over false (keeps_index checked i) i (index_in access p t) hi (omega arith))

  reached_place_over : (access : Access) (p i : source.Expr) (t : ℕ) → IsAccess few access p i → IsCompilableExpr few p → IsCompilableExpr few i
      → t + access_room access p i ≤ locals → IsExprOver locals (reached_place access p i t)
  reached_place_over access p i t h hp hi fits =
      at_offset_over access.offset (reached_element access p i t) h.2 (reached_element_over access p i t h hp hi fits)

  -- ---- ranges

  exact_over : (back signs : Bool) (size : ℕ) (a i : Expr) → size < 2 ^ 32 → IsExprOver locals a → IsExprOver locals i → IsExprOver locals (exact_test back signs size a i)
  exact_over true signs size a i h x y = (((h, y), (x, shifted_over true size a i h x y)), lit< tt)
  exact_over false signs size a i h x y = (((h, y), (shifted_over false size a i h x y, x)), lit< tt)

  base_over : (x : ℕ) (b : Base) → x < few → IsBase few b → IsExprOver locals (base_at x b)
  base_over x bases.Own h k = omega arith
  base_over x (bases.Local y) h k = omega (arith, k)
  base_over x (bases.Fixed a) h k = k

  amount_over : (variable : Option Variable) (add : ℤ) → IsVariable few variable → IsSmall add → IsExprOver locals (amount_at variable add)
  amount_over None add h small = small_word add small
  amount_over (Some v) add h small = at_offset_over (word_of add) (Local v.local) (small_word add small) (omega (arith, h))

  end_over : (x size : ℕ) (e : LimitsEnd) → x < few → size < 2 ^ 32 → IsEnd few e → IsExprOver locals (end_at x size e)
  end_over x size e h k is = shifted_over false size (base_at x e.base) (amount_at e.variable e.add) k (base_over x e.base h is.0) (amount_over e.variable e.add is.1 is.2)

  counted_over : (upper : Bool) (size : ℕ) (count : Count) (e : Expr) → size < 2 ^ 32 → IsExprOver locals e → IsCount count → IsExprOver locals (counted_end upper size count e)
  counted_over true size (counts.Fixed n) e h x small = shifted_over false size e (Const (word_of n)) h x (small_word n small)
  counted_over false size (counts.Fixed n) e h x small = x
  counted_over upper size (counts.Member offset form add) e h x small = lit< tt

  static_word : (access : Access) (p : source.Expr) → static_place access p < 2 ^ 32
  static_word access (source.Number a) = omega arith
  static_word access p = lit< tt

  range_end_over : (upper : Bool) (p : source.Expr) → IsRanged few p → IsCompilableExpr few p → IsExprOver locals (range_end upper p)
  range_end_over true (source.Limited x limits) h k = end_over x limits.to.size limits.upper k h.0 h.2
  range_end_over false (source.Limited x limits) h k = end_over x limits.to.size limits.lower k h.0 h.1
  range_end_over upper (source.Member to count access p i) h k =
      counted_over upper to.size count (Load width.Word (Const (static_place access p))) h.0 (static_word access p) h.1
  range_end_over true (source.Address bytes access (source.Number a) i) h k = h
  range_end_over false (source.Address bytes access p i) h k = static_word access p
  range_end_over true (source.Address bytes access p i) h k = absurd h
  range_end_over true (source.Array at bytes) h k = h
  range_end_over false (source.Array at bytes) h k = k
  range_end_over upper (source.Moved shift p i) h k = range_end_over upper p h k.1
  range_end_over upper (source.Added shift i p) h k = range_end_over upper p h k.2
  range_end_over upper p h k = absurd h

  upper_over : (last : Bool) (a high : Expr) → IsExprOver locals a → IsExprOver locals high → IsExprOver locals (upper_test last a high)
  upper_over true a high x y = ((y, x), lit< tt)
  upper_over false a high x y = (x, y)

  range_over : (last : Bool) (p : source.Expr) (a : Expr) → IsRanged few p → IsCompilableExpr few p → IsExprOver locals a → IsExprOver locals (range_test last p a)
  range_over last p a h k x =
      (((x, range_end_over false p h k), lit< tt), upper_over last a (range_end true p) x (range_end_over true p h k))

  held_test_over : (last : Bool) (t : ℕ) → t + 3 ≤ locals → IsExprOver locals (held_test last t)
  held_test_over last t fits =
      (((omega arith, omega arith), lit< tt), upper_over last (Bin binary.Sub (Local t) (Local (t + 1))) (Local (t + 2)) (omega arith, omega arith) (omega arith))

  bounds_over : (last b : Bool) (p : source.Expr) (t : ℕ) → IsBounded few b p → IsCompilableExpr few p → t + index_far (not b) ≤ locals
      → IsExprOver locals (if b then range_test last p (Local t) else held_test last t)
  bounds_over last true p t h k fits = range_over last p (Local t) h k (omega arith)
  bounds_over last false p t h k fits = held_test_over last t fits

  count_over : (size : ℕ) (p : source.Expr) → IsBounded few (is_ranged p) p → IsCompilableExpr few p → IsExprOver locals (count_of size p)
  count_over size (source.Limited x limits) h k = let is = h.2 in amount_over limits.upper.variable limits.upper.add is.1 is.2
  count_over size (source.Array at bytes) h k = by (size == 0)
    where
      by : (zero : Bool) → (if zero then 0 else bytes / size) < 2 ^ 32
      by true = lit< tt
      by false = omega (arith, div-le_self bytes size, h)
  count_over size p h k = lit< tt

  length_over : (size : ℕ) (count : Count) (u : ℕ) → size < 2 ^ 32 → u < locals → IsCount count → IsExprOver locals (length_at size count u)
  length_over size (counts.Fixed n) u h below is = omega arith
  length_over size (counts.Member offset form add) u h below is =
      let member = Load (width_of form) (at_offset offset (Local u)) in
      scaled_over size (at_offset (word_of add) member) h (at_offset_over (word_of add) member (small_word add is.1) (at_offset_over offset (Local u) is.0 below))

  left_over : (t : ℕ) → t + 3 ≤ locals → IsExprOver locals (bytes_left t)
  left_over t fits = (omega arith, (omega arith, omega arith))

  bytes_fit_over : (form : Integer) (k : Expr) (t : ℕ) → IsExprOver locals k → t + 3 ≤ locals → IsExprOver locals (bytes_fit form k t)
  bytes_fit_over integer.Int k t h fits = ((h, lit< tt), ((left_over t fits, h), lit< tt))
  bytes_fit_over integer.Unsigned k t h fits = ((left_over t fits, h), lit< tt)
  bytes_fit_over integer.Char k t h fits = ((left_over t fits, h), lit< tt)

  fit_over : (one : Bool) (size : ℕ) (form : Integer) (k : Expr) (t : ℕ) → size < 2 ^ 31 → IsExprOver locals k → t + 3 ≤ locals
      → IsExprOver locals (if one then bytes_fit form k t else below_or_at k (Bin binary.DivU (bytes_left t) (Const size)))
  fit_over true size form k t small h fits = bytes_fit_over form k t h fits
  fit_over false size form k t small h fits = (((left_over t fits, omega arith), h), lit< tt)

  cast_over : (size : ℕ) (form : Integer) (k : Expr) (t : ℕ) → size < 2 ^ 31 → IsExprOver locals k → t + 3 ≤ locals → IsExprOver locals (cast_test size form k t)
  cast_over size form k t small h fits = (held_test_over true t fits, fit_over (size == 1) size form k t small h fits)

  operands_over : (es : List source.Expr) (t : ℕ) → All (IsCompilablePart few) es → t + operands_room es ≤ locals → All (IsExprOver locals) (operands es t)
  operands_over [] t h fits = All-nil (IsExprOver locals)
  operands_over (e ∷ es) t h fits =
      All-cons (IsExprOver locals) (operand e t) (operands es (t + 1))
      (operand_over e t (All-head (IsCompilablePart few) e es h).0 (omega arith))
      (operands_over es (t + 1) (All-tail (IsCompilablePart few) e es h) (omega arith))

  kept_over : (w : Width) (is_byte : Bool) (e : Expr) → IsExprOver locals e → IsExprOver locals (kept_in w is_byte e)
  kept_over width.Byte true e h = h
  kept_over width.Byte false e h = (h, lit< tt)
  kept_over width.Word is_byte e h = h

  module _ (functions : List Function) (looped : Bool) where
    abbrev Over : Code → Type 0
    Over code = IsCodeOver functions locals looped code

    unless_over : (is_one : Bool) (r t : ℕ) (with without : Code) → (t + r ≤ locals → Over with) → Over without → t + (if is_one then 0 else r) ≤ locals → Over (if is_one then without else with)
    unless_over true r t with without h over fits = over
    unless_over false r t with without h over fits = h fits

    operand_step : (e : source.Expr) (t : ℕ) (rest : Code) → (t + expr_room e ≤ locals → Over (expr_code e t rest)) → t + operand_room e ≤ locals → Over rest → Over (operand_code e t rest)
    operand_step e t rest h fits over = unless_over (is_direct e) (expr_room e) t (expr_code e t rest) rest h over fits

    check_by : (is_one : Bool) (at : Pos) (b : Expr) (rest : Code) → IsPlace at → IsExprOver locals b → Over rest → Over (if is_one then Check check.Divide at b rest else rest)
    check_by true at b rest place h over = (place, h, over)
    check_by false at b rest place h over = over

    operation_over : (o : Operation) (s : Bool) (at : Pos) (a b : Expr) (t : ℕ) (rest : Code) → IsPlace at → IsExprOver locals a → IsExprOver locals b → t < locals → Over rest → Over (operation_code o s at a b t rest)
    operation_over o s at a b t rest place x y below over =
        check_by (divides o) at b (Set t (operated o s a b) rest) place y (below, operated_over o s a b x y, over)

    truth_over : (e : source.Expr) (t : ℕ) → IsCompilableExpr few e → t < locals → t + operand_room e ≤ locals → Over (Set t (as_truth (operand e t)) End)
    truth_over e t h below fits = (below, (operand_over e t h fits, lit< tt), tt)

    put_over : (r always : Bool) (e : source.Expr) (t : ℕ) (rest : Code) → ((rest : Code) → t + value_room r e ≤ locals → Over rest → Over (value_code r e t rest))
        → t + room_if always e (value_room r e) ≤ locals → Over rest → Over (put_if always e (value_code r e t) rest)
    put_over r true e t rest h fits over = h rest fits over
    put_over r false e t rest h fits over = unless_over (is_direct e) (value_room r e) t (value_code r e t rest) rest (λ fits. h rest fits over) over fits

    by_zero : (zero : Bool) (x y : Code) → Over x → Over y → Over (if zero then x else y)
    by_zero true x y h k = h
    by_zero false x y h k = k

    outside_over : (access : Access) (i : Expr) (t : ℕ) → IsPlace access.at → access.size < 2 ^ 32 → t < locals → IsExprOver locals i → Over (outside_code access i t)
    outside_over access i t at size below y = (at, exact_over false (reads_signed access.index) access.size (Local t) i size below y, (at, lit< tt, tt))

    branch_over : (last : Bool) (i count : Expr) (outside rest : Code) → IsExprOver locals i → IsExprOver locals count → Over outside → Over rest → Over (count_code last i count outside rest)
    branch_over true i count outside rest x y out over = ((y, x), out, tt, over)
    branch_over false i count outside rest x y out over = ((x, y), tt, out, over)

    first_over : (last : Bool) (at : Pos) (count : Expr) (rest : Code) → IsPlace at → IsExprOver locals count → Over rest → Over (first_code last at count rest)
    first_over true at count rest place y over = over
    first_over false at count rest place y over = (place, y, over)

    counted_code_over : (last : Bool) (access : Access) (i count : Expr) (a t : ℕ) (rest : Code) → IsPlace access.at → access.size < 2 ^ 32 → a < locals → t < locals → IsExprOver locals i
        → IsExprOver locals count → Over rest → Over (counted_code last access i count a t rest)
    counted_code_over last access i count a t rest at size own below x y over =
        by_zero (is_zero i) _ _ (first_over last access.at count rest at y over)
        (branch_over last i count (outside_code access i a) (Set t (shifted false access.size (Local a) i) rest) x y (outside_over access i a at size own x)
        (below, shifted_over false access.size (Local a) i size own x, over))

    own_pointer_over : (p : source.Expr) (t : ℕ) → IsCompilableExpr few p → t < locals → own_pointer p t < locals
    own_pointer_over (source.Limited x limits) t h below = omega arith
    own_pointer_over p t h below = below

    own_index_over : (index : source.Expr) (i : Expr) → IsCompilableExpr few index → IsExprOver locals i → IsExprOver locals (own_index index i)
    own_index_over (source.Local x) i h y = omega arith
    own_index_over index i h y = y

    bounded_over : (last : Bool) (access : Access) (p index : source.Expr) (i : Expr) (t : ℕ) (rest : Code) → IsPlace access.at → access.size < 2 ^ 32 → IsBounded few (is_ranged p) p → IsCompilableExpr few p → IsCompilableExpr few index
        → t + index_far (not (is_ranged p)) ≤ locals → IsExprOver locals i → Over rest → Over (bounded_code last access p index i t rest)
    bounded_over last access p index i t rest at size bounded h hi fits y over =
        let below : t < locals = omega (arith, far_one (not (is_ranged p))) in
        let within : Over (Check check.Bounds access.at (bounds_test last p t) rest) = (at, bounds_over last (is_ranged p) p t bounded h fits, over) in
        let there : Over (Set t (shifted false access.size (Local t) i) (Check check.Bounds access.at (bounds_test last p t) rest)) =
        (below, shifted_over false access.size (Local t) i size below y, within) in
        let own = own_pointer_over p t h below in
        let counted : Over (counted_code last access (own_index index i) (count_of access.size p) (own_pointer p t) t rest) =
        counted_code_over last access (own_index index i) (count_of access.size p) (own_pointer p t) t rest at size own below (own_index_over index i hi y) (count_over access.size p bounded h) over in
        by_zero (is_counted access.size p) _ _ (by_zero (is_array p) _ _ counted (at, own, counted))
        (at, below, by_zero (is_zero i) _ _ within (at, exact_over false (reads_signed access.index) access.size (Local t) i size below y, there))

    judged_over : (through : Through) (access : Access) (p index : source.Expr) (a i : Expr) (t : ℕ) (rest : Code) → IsPlace access.at → access.size < 2 ^ 32 → IsJudged few through access.size p index
        → IsCompilableExpr few p → IsCompilableExpr few index → t + index_far (takes_range through p) ≤ locals → IsExprOver locals a → IsExprOver locals i → Over rest → Over (judged through access p index a i t rest)
    judged_over Named access p index a i t rest at size h k hi fits x y over = over
    judged_over Raw access p index a i t rest at size h k hi fits x y over = over
    judged_over One access p index a i t rest at size h k hi fits x y over = (at, x, over)
    judged_over Array access p index a i t rest at size h k hi fits x y over = bounded_over false access p index i t rest at size h.2 k hi fits y over
    judged_over Terminated access p index a i t rest at size h k hi fits x y over = bounded_over true access p index i t rest at size h.2 k hi fits y over

    reached_over : (access : Access) (p i : source.Expr) (t : ℕ) (rest : Code) → IsAccess few access p i → IsCompilableExpr few p → IsCompilableExpr few i
        → ((rest : Code) → t + value_room (takes_range access.through p) p ≤ locals → Over rest → Over (value_code (takes_range access.through p) p t rest))
        → ((rest : Code) → index_in access p t + value_room false i ≤ locals → Over rest → Over (value_code false i (index_in access p t) rest))
        → t + access_room access p i ≤ locals → Over rest → Over (access_code access p i t rest)
    reached_over access p i t rest h hp hi on_p on_i fits over =
        let checked = is_bounded access.through in
        let far = takes_range access.through p in
        let u = index_in access p t in
        let left : t + room_if checked p (value_room far p) ≤ locals = omega arith in
        let right : u + room_if (keeps_index checked i) i (value_room false i) ≤ locals = omega arith in
        put_over far checked p t _ on_p left (put_over false (keeps_index checked i) i u _ on_i right
        (judged_over access.through access p i (pointer_at access p t) (index_at access i u) t rest h.0 h.1 h.3 hp hi (omega arith)
        (held_over far checked p t hp left) (held_over false (keeps_index checked i) i u hi right) over))

    with_range_over : (r : Bool) (t : ℕ) (low length : Expr) (rest : Code) → t + index_far r ≤ locals → IsExprOver locals low → IsExprOver locals length → Over rest → Over (with_range r t low length rest)
    with_range_over true t low size rest fits x y over = (omega arith, x, (omega arith, y, over))
    with_range_over false t low size rest fits x y over = over

    no_range_over : (r : Bool) (t : ℕ) (rest : Code) → t + index_far r ≤ locals → Over rest → Over (no_range r t rest)
    no_range_over r t rest fits over = with_range_over r t (Const 0) (Const 0) rest fits (lit< tt) (lit< tt) over

    pointer_over : (r : Bool) (size : ℕ) (count : Count) (offset : ℕ) (element place : Expr) (t : ℕ) (rest : Code) → t + index_far r ≤ locals → offset < 2 ^ 32
        → (r ≡ true → (size < 2 ^ 32) × IsCount count) → IsExprOver locals element → IsExprOver locals place → Over rest → Over (pointer_code r size count offset element place t rest)
    pointer_over true size count offset element place t rest fits small is x y over =
        let has = is refl in
        let last : Over (Set (t + 1) (Local t) rest) = (omega arith, omega arith, over) in
        let length : Over (Set (t + 2) (length_at size count (t + 1)) (Set (t + 1) (Local t) rest)) =
        (omega arith, length_over size count (t + 1) has.0 (omega arith) has.1, last) in
        (omega arith, x, (omega arith, at_offset_over offset (Local (t + 1)) small (omega arith), length))
    pointer_over false size count offset element place t rest fits small is x y over = (omega arith, y, over)

    tested_over : (size : ℕ) (form : Integer) (at : Pos) (k : Expr) (t : ℕ) (rest : Code) → IsPlace at → size < 2 ^ 31 → IsExprOver locals k → t + 3 ≤ locals → Over rest → Over (tested_code size form at k t rest)
    tested_over size form at k t rest place small h fits over =
        let test : IsExprOver locals (Bin binary.Or (Bin binary.Eq (Local t) (Const 0)) (cast_test size form k t)) = ((omega arith, lit< tt), cast_over size form k t small h fits) in
        (place, test, (omega arith, scaled_over size k (omega arith) h, (omega arith, omega arith, over)))

    trusted_over : (r : Bool) (size : ℕ) (k : Expr) (t : ℕ) (rest : Code) → t + index_far r ≤ locals → (r ≡ true → size < 2 ^ 32) → IsExprOver locals k → Over rest → Over (trusted_range r size k t rest)
    trusted_over true size k t rest fits small h over = (omega arith, scaled_over size k (small refl) h, (omega arith, omega arith, over))
    trusted_over false size k t rest fits small h over = over

    moved_over : (shift : Shift) (checked : Bool) (a i : Expr) (t : ℕ) (rest : Code) → shift.size < 2 ^ 32 → (checked ≡ true → IsPlace shift.at) → t < locals → IsExprOver locals a → IsExprOver locals i
        → Over rest → Over (let there = Set t (shifted shift.back shift.size a i) rest in if checked then exact_code shift a i there else there)
    moved_over shift true a i t rest size at below x y over =
        let there : Over (Set t (shifted shift.back shift.size a i) rest) = (below, shifted_over shift.back shift.size a i size x y, over) in
        (at refl, x, by_zero (is_zero i) _ _ there (at refl, exact_over shift.back (reads_signed shift.index) shift.size a i size x y, there))
    moved_over shift false a i t rest size at below x y over = (below, shifted_over shift.back shift.size a i size x y, over)

    moved_range_over : (r checked : Bool) (p : source.Expr) (t : ℕ) (rest : Code) → t + 1 + room_if (r || checked) p (value_room r p) ≤ locals → Over rest → Over (moved_range r t rest)
    moved_range_over true checked p t rest fits over =
        let three = value_room_some true p in
        (omega arith, omega arith, (omega arith, omega arith, over))
    moved_range_over false checked p t rest fits over = over

    -- a bounds cast that is tested
    cast_value_over : (size : ℕ) (how : Integer) (at : Pos) (p k : source.Expr) (t : ℕ) (rest : Code) → IsPlace at → size < 2 ^ 31 → IsCompilableExpr few k
        → ((rest : Code) → t + value_room true p ≤ locals → Over rest → Over (value_code true p t rest))
        → ((rest : Code) → t + 3 + value_room false k ≤ locals → Over rest → Over (value_code false k (t + 3) rest))
        → t + max (value_room true p) (3 + room_if (keeps_index true k) k (value_room false k)) ≤ locals → Over rest
        → Over (value_code true p t (put_if (keeps_index true k) k (value_code false k (t + 3)) (tested_code size how at (held (keeps_index true k) k (t + 3)) t rest)))
    cast_value_over size how at p k t rest place small hk on_p on_k fits over =
        let keeps = keeps_index true k in
        let right : t + 3 + room_if keeps k (value_room false k) ≤ locals = omega arith in
        on_p _ (omega arith) (put_over false keeps k (t + 3) _ on_k right
        (tested_over size how at (held keeps k (t + 3)) t rest place small (held_over false keeps k (t + 3) hk right) (omega (arith, value_room_some true p)) over))

    limited_over : (r : Bool) (x : ℕ) (limits : Limits) (t : ℕ) (rest : Code) → x < few → Has few r (source.Limited x limits) → t + index_far r ≤ locals → Over rest
        → Over (with_range r t (end_at x limits.to.size limits.lower) (Bin binary.Sub (end_at x limits.to.size limits.upper) (Local (t + 1))) rest)
    limited_over true x limits t rest below h fits over =
        (omega arith, end_over x limits.to.size limits.lower below h.0 h.1, (omega arith, (end_over x limits.to.size limits.upper below h.0 h.2, omega arith), over))
    limited_over false x limits t rest below h fits over = over

    bytes_over : (r : Bool) (t at bytes : ℕ) (low : Expr) (rest : Code) → IsExprOver locals low → (r ≡ true → bytes < 2 ^ 32) → t + index_far r ≤ locals → Over rest → Over (with_range r t low (Const bytes) rest)
    bytes_over true t at bytes low rest x h fits over = (omega arith, x, (omega arith, h refl, over))
    bytes_over false t at bytes low rest x h fits over = over

    array_bytes : (r : Bool) (at bytes : ℕ) → Has few r (source.Array at bytes) → r ≡ true → bytes < 2 ^ 32
    array_bytes true at bytes h e = h
    array_bytes false at bytes h e = absurd cc

    address_bytes : (r : Bool) (bytes : ℕ) (access : Access) (p i : source.Expr) → Has few r (source.Address bytes access p i) → r ≡ true → bytes < 2 ^ 32
    address_bytes true bytes access p i h e = h
    address_bytes false bytes access p i h e = absurd cc

    member_numbers : (r : Bool) (to : Pointee) (count : Count) (access : Access) (p i : source.Expr) → Has few r (source.Member to count access p i) → r ≡ true → (to.size < 2 ^ 32) × IsCount count
    member_numbers true to count access p i h e = h
    member_numbers false to count access p i h e = absurd cc

    trusted_size : (r : Bool) (to : Pointee) (how : Integer) (p k : source.Expr) → Has few r (source.Trusted to how p k) → r ≡ true → to.size < 2 ^ 32
    trusted_size true to how p k h e = h
    trusted_size false to how p k h e = absurd cc

    cast_by_over : (one : Bool) (size : ℕ) (how : Integer) (at : Pos) (p k : source.Expr) (t : ℕ) (rest : Code) → IsCast few one size at p → IsCompilableExpr few k
        → ((rest : Code) → t + value_room false p ≤ locals → Over rest → Over (value_code false p t rest))
        → (HasRange few p → (rest : Code) → t + value_room true p ≤ locals → Over rest → Over (value_code true p t rest))
        → ((rest : Code) → t + 3 + value_room false k ≤ locals → Over rest → Over (value_code false k (t + 3) rest))
        → t + (if one then value_room false p else max (value_room true p) (3 + room_if (keeps_index true k) k (value_room false k))) ≤ locals → Over rest
        → Over (if one then value_code false p t rest
        else value_code true p t (put_if (keeps_index true k) k (value_code false k (t + 3)) (tested_code size how at (held (keeps_index true k) k (t + 3)) t rest)))
    cast_by_over true size how at p k t rest c hk plain on_p on_k fits over = plain rest fits over
    cast_by_over false size how at p k t rest c hk plain on_p on_k fits over = cast_value_over size how at p k t rest c.0 c.1.1 hk (on_p c.2) on_k fits over

    -- the code of a value, with its range if the flag says so
    value_over : (r : Bool) (e : source.Expr) (t : ℕ) (rest : Code) → IsCompilableExpr few e → Has few r e → t + value_room r e ≤ locals → Over rest → Over (value_code r e t rest)
    value_over r (source.Binary o s at a b) t rest h has fits over =
        let least = range_more r (max (operand_room a) (1 + operand_room b)) in
        let last = no_range_over r t rest (omega (arith, value_room_some r (source.Binary o s at a b))) over in
        let after = operation_code o s at (operand a t) (operand b (t + 1)) t (no_range r t rest) in
        let second = operand_code b (t + 1) after in
        let left : t + operand_room a ≤ locals = omega arith in
        let right : t + 1 + operand_room b ≤ locals = omega arith in
        let below : t < locals = omega arith in
        let after_over = operation_over o s at (operand a t) (operand b (t + 1)) t (no_range r t rest) h.0 (operand_over a t h.1 left) (operand_over b (t + 1) h.2 right) below last in
        operand_step a t second (λ fits. value_over false a t second h.1 tt fits (operand_step b (t + 1) after (λ fits. value_over false b (t + 1) after h.2 tt fits after_over) right after_over)) left
        (operand_step b (t + 1) after (λ fits. value_over false b (t + 1) after h.2 tt fits after_over) right after_over)
    value_over r (source.And a b) t rest h has fits over =
        let least = range_more r (max 1 (max (operand_room a) (operand_room b))) in
        let last = no_range_over r t rest (omega (arith, value_room_some r (source.And a b))) over in
        let set = Set t (as_truth (operand b t)) End in
        let left : t + operand_room a ≤ locals = omega arith in
        let right : t + operand_room b ≤ locals = omega arith in
        let below : t < locals = omega arith in
        let set_over = truth_over b t h.1 below right in
        let one = operand_step b t set (λ fits. value_over false b t set h.1 tt fits set_over) right set_over in
        let zero_over : Over (Set t (Const 0) End) = (below, lit< tt, tt) in
        let after = Code.If (operand a t) (operand_code b t set) (Set t (Const 0) End) (no_range r t rest) in
        let after_over : Over after = (operand_over a t h.0 left, one, zero_over, last) in
        operand_step a t after (λ fits. value_over false a t after h.0 tt fits after_over) left after_over
    value_over r (source.Or a b) t rest h has fits over =
        let least = range_more r (max 1 (max (operand_room a) (operand_room b))) in
        let last = no_range_over r t rest (omega (arith, value_room_some r (source.Or a b))) over in
        let set = Set t (as_truth (operand b t)) End in
        let left : t + operand_room a ≤ locals = omega arith in
        let right : t + operand_room b ≤ locals = omega arith in
        let below : t < locals = omega arith in
        let set_over = truth_over b t h.1 below right in
        let two = operand_step b t set (λ fits. value_over false b t set h.1 tt fits set_over) right set_over in
        let one_over : Over (Set t (Const 1) End) = (below, lit< tt, tt) in
        let after = Code.If (operand a t) (Set t (Const 1) End) (operand_code b t set) (no_range r t rest) in
        let after_over : Over after = (operand_over a t h.0 left, one_over, two, last) in
        operand_step a t after (λ fits. value_over false a t after h.0 tt fits after_over) left after_over
    value_over r (source.Choice c a b) t rest h has fits over =
        let parts = choice_has few r c a b has in
        let first : t + operand_room c ≤ locals = omega arith in
        let second : t + value_room r a ≤ locals = omega arith in
        let third : t + value_room r b ≤ locals = omega arith in
        let after = Code.If (operand c t) (value_code r a t End) (value_code r b t End) rest in
        let after_over : Over after = (operand_over c t h.0 first, value_over r a t End h.1 parts.0 second tt, value_over r b t End h.2 parts.1 third tt, over) in
        operand_step c t after (λ fits. value_over false c t after h.0 tt fits after_over) first after_over
    value_over r (source.Narrow e) t rest h has fits over =
        let least = range_more r (max 1 (operand_room e)) in
        let last = no_range_over r t rest (omega (arith, value_room_some r (source.Narrow e))) over in
        let inner : t + operand_room e ≤ locals = omega arith in
        let below : t < locals = omega arith in
        let after = Set t (low_byte (operand e t)) (no_range r t rest) in
        let after_over : Over after = (below, (operand_over e t h inner, lit< tt), last) in
        operand_step e t after (λ fits. value_over false e t after h tt fits after_over) inner after_over
    value_over r (source.Number n) t rest h has fits over =
        let far = range_far r 1 (omega arith) in
        (omega (arith, far_one r), h, no_range_over r t rest (omega arith) over)
    value_over r (source.Local x) t rest h has fits over =
        let far = range_far r 1 (omega arith) in
        (omega (arith, far_one r), omega arith, no_range_over r t rest (omega arith) over)
    value_over r (source.Limited x limits) t rest h has fits over =
        let far = range_far r 1 (omega arith) in
        (omega (arith, far_one r), omega arith, limited_over r x limits t rest h has (omega arith) over)
    value_over r (source.Array at bytes) t rest h has fits over =
        let far = range_far r 1 (omega arith) in
        (omega (arith, far_one r), h, bytes_over r t at bytes (Const at) rest h (array_bytes r at bytes has) (omega arith) over)
    value_over r (source.Load w access p i) t rest h has fits over =
        let least = range_more r (access_room access p i) in
        let far : t + index_far r ≤ locals = omega (arith, value_room_some r (source.Load w access p i)) in
        let inner : t + access_room access p i ≤ locals = omega arith in
        reached_over access p i t (Set t (Load w (reached_place access p i t)) (no_range r t rest)) h.0 h.1 h.2
        (λ rest fits over. value_over (takes_range access.through p) p t rest h.1 (judged_has few access.through access.size p i h.0.3) fits over)
        (λ rest fits over. value_over false i (index_in access p t) rest h.2 tt fits over) inner
        (omega (arith, far_one r), reached_place_over access p i t h.0 h.1 h.2 inner, no_range_over r t rest far over)
    value_over r (source.Member to count access p i) t rest h has fits over =
        let least = range_more r (access_room access p i) in
        let far : t + index_far r ≤ locals = omega (arith, value_room_some r (source.Member to count access p i)) in
        let inner : t + access_room access p i ≤ locals = omega arith in
        let offset : access.offset < 2 ^ 32 = h.0.2 in
        reached_over access p i t (pointer_code r to.size count access.offset (reached_element access p i t) (reached_place access p i t) t rest) h.0 h.1 h.2
        (λ rest fits over. value_over (takes_range access.through p) p t rest h.1 (judged_has few access.through access.size p i h.0.3) fits over)
        (λ rest fits over. value_over false i (index_in access p t) rest h.2 tt fits over) inner
        (pointer_over r to.size count access.offset (reached_element access p i t) (reached_place access p i t) t rest far offset (member_numbers r to count access p i has)
        (reached_element_over access p i t h.0 h.1 h.2 inner) (reached_place_over access p i t h.0 h.1 h.2 inner) over)
    value_over r (source.Address bytes access p i) t rest h has fits over =
        let least = range_more r (access_room access p i) in
        let far : t + index_far r ≤ locals = omega (arith, value_room_some r (source.Address bytes access p i)) in
        let inner : t + access_room access p i ≤ locals = omega arith in
        reached_over access p i t (Set t (reached_place access p i t) (with_range r t (Local t) (Const bytes) rest)) h.0 h.1 h.2
        (λ rest fits over. value_over (takes_range access.through p) p t rest h.1 (judged_has few access.through access.size p i h.0.3) fits over)
        (λ rest fits over. value_over false i (index_in access p t) rest h.2 tt fits over) inner (
          omega (arith, far_one r),
          reached_place_over access p i t h.0 h.1 h.2 inner,
          bytes_over r t 0 bytes (Local t) rest (omega (arith, far_one r)) (address_bytes r bytes access p i has) far over,
        )
    value_over r (source.Moved shift p i) t rest h has fits over =
        let s = h.0 in
        let holds = r || shift.checked in
        let keeps = keeps_index shift.checked i in
        let u = t + index_far r in
        let left : t + room_if holds p (value_room r p) ≤ locals = omega arith in
        let right : u + room_if keeps i (value_room false i) ≤ locals = omega arith in
        put_over r holds p t _ (λ rest fits over. value_over r p t rest h.1 (moved_has few r shift p i has) fits over) left
        (put_over false keeps i u _ (λ rest fits over. value_over false i u rest h.2 tt fits over) right
        (moved_over shift shift.checked (held holds p t) (held keeps i u) t rest s.0 (checked_place shift shift.checked s.1) (omega (arith, far_one r))
        (held_over r holds p t h.1 left) (held_over false keeps i u h.2 right) over))
    value_over r (source.Added shift i p) t rest h has fits over =
        let s = h.0 in
        let holds = r || shift.checked in
        let keeps = keeps_index shift.checked i in
        let far : t + index_far r ≤ locals = omega (arith, value_room_some r (source.Added shift i p)) in
        let left : t + room_if keeps i (value_room false i) ≤ locals = omega arith in
        let right : t + 1 + room_if holds p (value_room r p) ≤ locals = omega arith in
        let last = moved_range_over r shift.checked p t rest right over in
        put_over false keeps i t _ (λ rest fits over. value_over false i t rest h.1 tt fits over) left
        (put_over r holds p (t + 1) _ (λ rest fits over. value_over r p (t + 1) rest h.2 (added_has few r shift i p has) fits over) right
        (moved_over shift shift.checked (held holds p (t + 1)) (held keeps i t) t (moved_range r t rest) s.0 (checked_place shift shift.checked s.1) (omega (arith, far_one r))
        (held_over r holds p (t + 1) h.2 right) (held_over false keeps i t h.1 left) last))
    value_over r (source.Bare p) t rest h has fits over =
        let least = range_more r (value_room false p) in
        let far : t + index_far r ≤ locals = omega (arith, value_room_some r (source.Bare p)) in
        value_over false p t (no_range r t rest) h tt (omega arith) (no_range_over r t rest far over)
    value_over r (source.Trusted to how p k) t rest h has fits over =
        let least = range_more r (max (value_room false p) (1 + operand_room k)) in
        let far : t + index_far r ≤ locals = omega (arith, value_room_some r (source.Trusted to how p k)) in
        let left : t + value_room false p ≤ locals = omega arith in
        let right : t + 1 + operand_room k ≤ locals = omega arith in
        let last = trusted_over r to.size (operand k (t + 1)) t rest far (trusted_size r to how p k has) (operand_over k (t + 1) h.1 right) over in
        let second = trusted_range r to.size (operand k (t + 1)) t rest in
        value_over false p t (operand_code k (t + 1) second) h.0 tt left (operand_step k (t + 1) second (λ fits. value_over false k (t + 1) second h.1 tt fits last) right last)
    value_over true (source.Tested size how at p k) t rest h has fits over =
        cast_value_over size how at p k t rest has.0 has.1.1 h.2 (λ rest fits over. value_over true p t rest h.1 has.2 fits over)
        (λ rest fits over. value_over false k (t + 3) rest h.2 tt fits over) fits over
    value_over false (source.Tested size how at p k) t rest h has fits over =
        cast_by_over (casts_one size p k) size how at p k t rest h.0 h.2 (λ rest fits over. value_over false p t rest h.1 tt fits over)
        (λ has rest fits over. value_over true p t rest h.1 has fits over) (λ rest fits over. value_over false k (t + 3) rest h.2 tt fits over) fits over

    expr_over : (e : source.Expr) (t : ℕ) (rest : Code) → IsCompilableExpr few e → t + expr_room e ≤ locals → Over rest → Over (expr_code e t rest)
    expr_over e t rest h fits over = value_over false e t rest h tt fits over

    -- what finds the place of an access
    access_over : (access : Access) (p i : source.Expr) (t : ℕ) (rest : Code) → IsAccess few access p i → IsCompilableExpr few p → IsCompilableExpr few i
        → t + access_room access p i ≤ locals → Over rest → Over (access_code access p i t rest)
    access_over access p i t rest h hp hi fits over =
        reached_over access p i t rest h hp hi (λ rest fits over. value_over (takes_range access.through p) p t rest hp (judged_has few access.through access.size p i h.3) fits over)
        (λ rest fits over. value_over false i (index_in access p t) rest hi tt fits over) fits over

    operand_code_over : (e : source.Expr) (t : ℕ) (rest : Code) → IsCompilableExpr few e → t + operand_room e ≤ locals → Over rest → Over (operand_code e t rest)
    operand_code_over e t rest h fits over = operand_step e t rest (λ fits. expr_over e t rest h fits over) fits over

    operands_code_over : (es : List source.Expr) (t : ℕ) (rest : Code) → All (IsCompilablePart few) es → t + operands_room es ≤ locals → Over rest → Over (operands_code es t rest)
    operands_code_over [] t rest h fits over = over
    operands_code_over (e ∷ es) t rest h fits over =
        operand_code_over e t (operands_code es (t + 1) rest) (All-head (IsCompilablePart few) e es h).0 (omega arith)
        (operands_code_over es (t + 1) rest (All-tail (IsCompilablePart few) e es h) (omega arith) over)

    below_end_over : (b : Bool) (p : source.Expr) (t : ℕ) → IsBounded few b p → IsCompilableExpr few p → t + 2 < locals
        → IsExprOver locals (if b then Bin binary.Ne (Local t) (range_end true p) else Bin binary.Ne (Bin binary.Sub (Local t) (Local (t + 1))) (Local (t + 2)))
    below_end_over true p t h x below = (omega arith, range_end_over true p h x)
    below_end_over false p t h x below = ((omega arith, omega arith), below)

    marked_over : (through : Through) (size : ℕ) (p i : source.Expr) (t : ℕ) (rest : Code) → IsJudged few through size p i → IsCompilableExpr few p → t + 2 < locals → Over rest → Over (marked through p t rest)
    marked_over Named size p i t rest h x below over = over
    marked_over Raw size p i t rest h x below over = over
    marked_over One size p i t rest h x below over = over
    marked_over Array size p i t rest h x below over = over
    marked_over Terminated size p i t rest h x below over = (omega arith, below_end_over (is_ranged p) p t h.2 x below, over)

    aim_over : (target : source.Target) (t : ℕ) (rest : Code) → IsCompilableTarget few target → t + target_room target ≤ locals → t + target_count target ≤ locals → Over rest → Over (aim_code target t rest)
    aim_over source.Nothing t rest h fits keeps over = over
    aim_over (source.Variable y w) t rest h fits keeps over = over
    aim_over (source.Memory w access p i) t rest h fits keeps over =
        let pointer = h.1 in
        let index = h.2 in
        let way = h.0 in
        access_over access p i t _ h.0 pointer.0 index.0 fits
        (marked_over access.through access.size p i t rest way.3 pointer.0 (omega arith) over)

    guarded_over : (through : Through) (at : Pos) (w : Width) (is_byte : Bool) (t u : ℕ) (rest : Code) → IsPlace at → t + 1 < locals → u < locals → Over rest → Over (guarded through at w is_byte t u rest)
    guarded_over Named at w is_byte t u rest place below value over = over
    guarded_over Raw at w is_byte t u rest place below value over = over
    guarded_over One at w is_byte t u rest place below value over = over
    guarded_over Array at w is_byte t u rest place below value over = over
    guarded_over Terminated at w is_byte t u rest place below value over = (place, (below, (kept_over w is_byte (Local u) value, lit< tt)), over)

    stored_over : (through : Through) (at : Pos) (w : Width) (is_byte : Bool) (t u : ℕ) (to e : Expr) (rest : Code) → IsPlace at → t + 1 < locals → u < locals → IsExprOver locals to → IsExprOver locals e → Over rest
        → Over (stored_code through at w is_byte t u to e rest)
    stored_over Named at w is_byte t u to e rest place below value x y over = (x, y, over)
    stored_over Raw at w is_byte t u to e rest place below value x y over = (x, y, over)
    stored_over One at w is_byte t u to e rest place below value x y over = (x, y, over)
    stored_over Array at w is_byte t u to e rest place below value x y over = (x, y, over)
    stored_over Terminated at w is_byte t u to e rest place below value x y over =
        (value, y, guarded_over Terminated at w is_byte t u (Store w to (Local u) rest) place below value (x, value, over))

    written_over : (target : source.Target) (is_byte : Bool) (e : Expr) (rest : Code) → IsCompilableTarget few target → few + target_room target ≤ locals → few + (target_count target + guard_room target) ≤ locals
        → IsExprOver locals e → Over rest → Over (written target few is_byte e rest)
    written_over source.Nothing is_byte e rest h fits keeps x over = over
    written_over (source.Variable y w) is_byte e rest h fits keeps x over = (omega arith, kept_over w is_byte e x, over)
    written_over (source.Memory w access p i) is_byte e rest h fits keeps x over =
        let pointer = h.1 in
        let index = h.2 in
        let way = h.0 in
        stored_over access.through access.at w is_byte few (few + target_count (source.Memory w access p i)) _ e rest way.0 (omega arith) (omega arith)
        (reached_place_over access p i few h.0 pointer.0 index.0 fits) x over

    allowed_over : (target : source.Target) (t : ℕ) (rest : Code) → IsCompilableTarget few target → t + (target_count target + guard_room target) ≤ locals → Over rest → Over (allowed_code target t rest)
    allowed_over source.Nothing t rest h keeps over = over
    allowed_over (source.Variable y w) t rest h keeps over = over
    allowed_over (source.Memory w access p i) t rest h keeps over =
        let way = h.0 in
        guarded_over access.through access.at w false t (t + target_count (source.Memory w access p i)) rest way.0 (omega arith) (omega arith) over

    fixed_over : (target : source.Target) (t : ℕ) (rest : Code) → IsCompilableTarget few target → t + target_room target ≤ locals → Over rest → Over (fixed target t rest)
    fixed_over source.Nothing t rest h fits over = over
    fixed_over (source.Variable y w) t rest h fits over = over
    fixed_over (source.Memory w access p i) t rest h fits over =
        let pointer = h.1 in
        let index = h.2 in
        (omega (arith, far_one (takes_range access.through p)), reached_place_over access p i t h.0 pointer.0 index.0 fits, over)

    there_over : (target : source.Target) (t : ℕ) (e : Expr) (rest : Code) → IsCompilableTarget few target → t + target_room target ≤ locals → IsExprOver locals e → Over rest → Over (written_there target t e rest)
    there_over source.Nothing t e rest h fits x over = over
    there_over (source.Variable y w) t e rest h fits x over = (omega arith, kept_over w false e x, over)
    there_over (source.Memory w access p i) t e rest h fits x over = (omega (arith, far_one (takes_range access.through p)), x, over)

    assigned_over : (target : source.Target) (e : source.Expr) (rest : Code) → IsCompilableTarget few target → IsCompilableExpr few e → few + aimed_room target (operand_room e) ≤ locals → Over rest
        → Over (aim_code target few (operand_code e (few + target_count target) (written target few (is_narrow e) (operand e (few + target_count target)) rest)))
    assigned_over target e rest h x fits over =
        let u = few + target_count target in
        let aims : few + target_room target ≤ locals = omega arith in
        let keeps : few + (target_count target + guard_room target) ≤ locals = omega arith in
        let inner : u + operand_room e ≤ locals = omega arith in
        aim_over target few _ h aims (omega arith)
        (operand_code_over e u _ x inner (written_over target (is_narrow e) (operand e u) rest h aims keeps (operand_over e u x inner) over))

    right_over : (target : source.Target) (right : source.Right) (rest : Code) → IsCompilableTarget few target → IsCompilableRight few right → few + assigned_room target right ≤ locals → Over rest → Over (right_assigned target right few rest)
    right_over source.Nothing (source.Value e) rest h x fits over = expr_over e few rest x.0 fits over
    right_over (source.Variable y w) (source.Value e) rest h x fits over = assigned_over (source.Variable y w) e rest h x.0 fits over
    right_over (source.Memory w access p i) (source.Value e) rest h x fits over = assigned_over (source.Memory w access p i) e rest h x.0 fits over
    right_over target (source.Fresh to e) rest h x fits over =
        let part = x.0 in
        let u = few + target_count target in
        let aims : few + target_room target ≤ locals = omega arith in
        let inner : u + operand_room e ≤ locals = omega arith in
        let below : u < locals = omega arith in
        let keeps : few + (target_count target + guard_room target) ≤ locals = omega arith in
        aim_over target few _ h aims (omega arith) (fixed_over target few _ h aims
        (operand_code_over e u _ part.0 inner (below, operand_over e u part.0 inner, x.1, allowed_over target few _ h keeps (there_over target few (Local u) rest h aims below over))))

    valued_over : (right : source.Right) (u : ℕ) (rest : Code) → IsCompilableRight few right → u + valued_room right ≤ locals → Over rest → Over (valued right u rest)
    valued_over (source.Value e) u rest x fits over = expr_over e u rest x.0 fits over
    valued_over (source.Fresh to e) u rest x fits over =
        let part = x.0 in
        let inner : u + operand_room e ≤ locals = omega arith in
        operand_code_over e u _ part.0 inner (omega arith, operand_over e u part.0 inner, x.1, over)

    plans_over : (assigns : List (source.Target × source.Right)) (t : ℕ) (rest : Code) → All (IsCompilableAssign few) assigns → t + bundle_room assigns ≤ locals → Over rest → Over (plans_code assigns t rest)
    plans_over [] t rest h fits over = over
    plans_over (a ∷ assigns) t rest h fits over =
        let one = All-head (IsCompilableAssign few) a assigns h in
        let aims : t + target_room a.0 ≤ locals = omega arith in
        let inner : t + target_count a.0 + valued_room a.1 ≤ locals = omega arith in
        let keeps : t + (target_count a.0 + guard_room a.0) ≤ locals = omega arith in
        aim_over a.0 t _ one.0 aims (omega arith) (fixed_over a.0 t _ one.0 aims (valued_over a.1 (t + target_count a.0) _ one.1 inner (allowed_over a.0 t _ one.0 keeps
        (plans_over assigns (behind_planned a.0 t) rest (All-tail (IsCompilableAssign few) a assigns h) (omega arith) over))))

    writes_over : (assigns : List (source.Target × source.Right)) (t : ℕ) (rest : Code) → All (IsCompilableAssign few) assigns → t + bundle_room assigns ≤ locals → Over rest → Over (writes_code assigns t rest)
    writes_over [] t rest h fits over = over
    writes_over (a ∷ assigns) t rest h fits over =
        let one = All-head (IsCompilableAssign few) a assigns h in
        let aims : t + target_room a.0 ≤ locals = omega arith in
        there_over a.0 t (Local (t + target_count a.0)) _ one.0 aims (omega arith)
        (writes_over assigns (behind_planned a.0 t) rest (All-tail (IsCompilableAssign few) a assigns h) (omega arith) over)

    bundle_over : (assigns : List (source.Target × source.Right)) (t : ℕ) (rest : Code) → All (IsCompilableAssign few) assigns → t + bundle_room assigns ≤ locals → Over rest → Over (bundle_code assigns t rest)
    bundle_over assigns t rest h fits over = plans_over assigns t (writes_code assigns t rest) h fits (writes_over assigns t rest h fits over)

    result_below : (target : Option Kept) → IfSome target (IsCompilableKept few) → few < locals → IfSome (result_in target few) (λ x. x < locals)
    result_below None h below = tt
    result_below (Some (kept.Local x w)) h below = omega (arith, h)
    result_below (Some (kept.Static a w)) h below = below

    result_over : (target : Option Kept) (rest : Code) → IfSome target (IsCompilableKept few) → few < locals → Over rest → Over (result_kept target few rest)
    result_over None rest h below over = over
    result_over (Some (kept.Local x width.Byte)) rest h below over = (omega (arith, h), (omega (arith, h), lit< tt), over)
    result_over (Some (kept.Local x width.Word)) rest h below over = over
    result_over (Some (kept.Static a w)) rest h below over = (h, below, over)

    zeroed_over : (x count : ℕ) (rest : Code) → x + count ≤ locals → Over rest → Over (zeroed x count rest)
    zeroed_over x zero rest fits over = over
    zeroed_over x (suc count) rest fits over = (omega arith, lit< tt, zeroed_over (x + 1) count rest (omega arith) over)

params_same : (count same : ℕ) (found : Option source.Function) → same ≡ count → form.HasParams count found → HasParams same (option_map function_code found)
params_same count same (Some f) e h = h ∙ sym e
params_same count same None e h = h

module _ (functions : List source.Function) (few locals : ℕ) (more : few ≤ locals) where
  abbrev all_code : List Function
  all_code = map function_code functions

  statements_over : (code : source.Code) (looped : Bool) → IsCompilableCode functions few looped code → few + room code ≤ locals → IsCodeOver all_code locals looped (statements few code)
  statements_over source.End looped h fits = tt
  statements_over (source.Assign spot target right rest) looped h fits =
      right_over few locals more all_code looped target right (statements few rest) h.0 h.1 (omega arith) (statements_over rest looped h.2 (omega arith))
  statements_over (source.Bundle spot assigns rest) looped h fits =
      let all = h.0 in
      bundle_over few locals more all_code looped assigns few (statements few rest) all.2 (omega arith) (statements_over rest looped h.1 (omega arith))
  statements_over (source.Get spot target rest) looped h fits =
      let u = few + target_count target in
      let aims : few + target_room target ≤ locals = omega arith in
      let below : u < locals = omega arith in
      let keeps : few + (target_count target + guard_room target) ≤ locals = omega arith in
      aim_over few locals more all_code looped target few _ h.0 aims (omega arith)
      (below, written_over few locals more all_code looped target false (Local u) (statements few rest) h.0 aims keeps below (statements_over rest looped h.1 (omega arith)))
  statements_over (source.Put spot target e rest) looped h fits =
      let u = few + target_count target in
      let aims : few + target_room target ≤ locals = omega arith in
      let inner : u + operand_room e ≤ locals = omega arith in
      let x = operand_over few locals more e u h.1.0 inner in
      let keeps : few + (target_count target + guard_room target) ≤ locals = omega arith in
      aim_over few locals more all_code looped target few _ h.0 aims (omega arith)
      (operand_code_over few locals more all_code looped e u _ h.1.0 inner
      (x, written_over few locals more all_code looped target true (low_byte (operand e u)) (statements few rest) h.0 aims keeps (x, lit< tt) (statements_over rest looped h.2 (omega arith))))
  statements_over (source.Call spot target callee es rest) looped h fits =
      let inner : few + operands_room es ≤ locals = omega arith in
      let below : few < locals = omega arith in
      let params : HasParams (length (operands es few)) (slice_get all_code callee) =
      subst (HasParams (length (operands es few))) (sym (slice_get-map function_code functions callee))
      (params_same (length es) (length (operands es few)) (slice_get functions callee) (length-operands es few) h.1) in
      let call = Code.Call (result_in target few) callee (operands es few) spot.at (result_kept target few (statements few rest)) in
      operands_code_over few locals more all_code looped es few call h.2 inner (
        result_below few locals more all_code looped target h.0 below,
        params,
        operands_over few locals more es few h.2 inner,
        h.3,
        result_over few locals more all_code looped target (statements few rest) h.0 below (statements_over rest looped h.4 (omega arith)),
      )
  statements_over (source.If spot e one two rest) looped h fits =
      let inner : few + operand_room e ≤ locals = omega arith in
      let fork = Code.If (operand e few) (statements few one) (statements few two) (statements few rest) in
      operand_code_over few locals more all_code looped e few fork h.0.0 inner
      (operand_over few locals more e few h.0.0 inner, statements_over one looped h.1 (omega arith), statements_over two looped h.2 (omega arith), statements_over rest looped h.3 (omega arith))
  statements_over (source.Loop spot e body step rest) looped h fits =
      let inner : few + operand_room e ≤ locals = omega arith in (
        operand_code_over few locals more all_code true e few _ h.0.0 inner
            (operand_over few locals more e few h.0.0 inner, tt, (refl, tt), statements_over body true h.1 (omega arith)),
        statements_over step false h.2 (omega arith),
        statements_over rest looped h.3 (omega arith),
      )
  statements_over (source.Break rest) looped h fits = (h.0, statements_over rest looped h.1 fits)
  statements_over (source.Continue rest) looped h fits = (h.0, statements_over rest looped h.1 fits)
  statements_over (source.Return spot e rest) looped h fits =
      let inner : few + operand_room e ≤ locals = omega arith in
      operand_code_over few locals more all_code looped e few _ h.0.0 inner (operand_over few locals more e few h.0.0 inner, statements_over rest looped h.1 (omega arith))
  statements_over (source.Check spot e rest) looped h fits =
      let inner : few + operand_room e ≤ locals = omega arith in
      operand_code_over few locals more all_code looped e few _ h.1.0 inner (h.0, operand_over few locals more e few h.1.0 inner, statements_over rest looped h.2 (omega arith))

function_over : (functions : List source.Function) (f : source.Function) → IsCompilableFunction functions f → IsFunctionOver (map function_code functions) (function_code f)
function_over functions f w =
    let locals = f.locals + room f.body in
    let fits : f.params + (f.locals - f.params) ≤ locals = omega (arith, w.params) in
    let below : f.params ≤ locals = omega (arith, w.params) in (
      below,
      zeroed_over f.locals locals (omega arith) (map function_code functions) false f.params (f.locals - f.params) (statements f.locals f.body) fits
          (statements_over functions f.locals locals (omega arith) f.body false w.body (omega arith)),
    )

-- the core code of a program is well-formed
pub inserted_formed : (p : source.Program) → IsCompilable p → IsWellFormed (inserted p)
inserted_formed p w = record {
  functions = All-map (IsFunctionOver (map function_code p.functions)) function_code p.functions
      (All-weaker (IsCompilableFunction p.functions) (λ f. IsFunctionOver (map function_code p.functions) (function_code f)) (λ f h. function_over p.functions f h) p.functions w.functions);
  main = subst (HasParams 0) (sym (slice_get-map function_code p.functions p.main)) (params_same 0 0 (slice_get p.functions p.main) refl w.main);
}
