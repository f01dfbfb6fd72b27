-- What the range of a value needs: temporaries, and numbers that fit.
use Rattle.std.proofs.Common.{ℕ, ◌+◌, ◌≤◌, arith}
use Rattle.std.specs.Prelude.{Bool, true, false, not, if◌then◌else◌, max}
use Rattle.ckc_source.specs.declared.expr.Through.{Through}
use Rattle.ckc_source.specs.declared.expr.Through.TheVariants.{Named, Raw, One, Array, Terminated}
use Rattle.ckc_source.specs.declared.expr.Shift.{Shift}
use Rattle.ckc_source.specs.Code as source
use Rattle.ckc_checks_operands.specs.Compilable.{IsBounded, HasRange, IsJudged}
use Rattle.ckc_checks_operands.specs.Cases.{casts_one, is_ranged, takes_range}
use Rattle.ckc_checks_operands.specs.code.Operands.{keeps_index}
use Rattle.ckc_checks_operands.specs.code.Pointers.{index_far}
use Rattle.ckc_checks_follow.specs.code.Inserted.{range_room, room_if, access_room, value_room}

pub far_one : (r : Bool) → 1 ≤ index_far r
far_one true = omega arith
far_one false = omega arith

pub range_more : (r : Bool) (n : ℕ) → n ≤ range_room r n
range_more true n = omega arith
range_more false n = omega arith

pub range_far : (r : Bool) (n : ℕ) → 1 ≤ n → index_far r ≤ range_room r n
range_far true n h = omega arith
range_far false n h = h

cast_room : (one : Bool) (a b : ℕ) → 1 ≤ a → 1 ≤ b → 1 ≤ (if one then a else b)
cast_room true a b h k = h
cast_room false a b h k = k

-- a value needs a temporary, and its range two more
pub value_room_some : (r : Bool) (e : source.Expr) → index_far r ≤ value_room r e
value_room_some r (source.Load w access p i) = range_far r (access_room access p i) (omega (arith, far_one (takes_range access.through p)))
value_room_some r (source.Member to count access p i) = range_far r (access_room access p i) (omega (arith, far_one (takes_range access.through p)))
value_room_some r (source.Address bytes access p i) = range_far r (access_room access p i) (omega (arith, far_one (takes_range access.through p)))
value_room_some r (source.Moved shift p i) = omega arith
value_room_some true (source.Added shift i p) = omega (arith, value_room_some true p)
value_room_some false (source.Added shift i p) = omega arith
value_room_some r (source.Choice c a b) = omega (arith, value_room_some r a)
value_room_some r (source.Bare p) = range_far r (value_room false p) (value_room_some false p)
value_room_some true (source.Tested size how at p k) = omega (arith, value_room_some true p)
value_room_some false (source.Tested size how at p k) =
    cast_room (casts_one size p k) (value_room false p) (max (value_room true p) (3 + room_if (keeps_index true k) k (value_room false k))) (value_room_some false p) (omega arith)
value_room_some r (source.Trusted to how p k) = range_far r _ (omega (arith, value_room_some false p))
value_room_some r (source.Binary o s at a b) = range_far r _ (omega arith)
value_room_some r (source.And a b) = range_far r _ (omega arith)
value_room_some r (source.Or a b) = range_far r _ (omega arith)
value_room_some r (source.Narrow e) = range_far r _ (omega arith)
value_room_some r (source.Number n) = range_far r 1 (omega arith)
value_room_some r (source.Local x) = range_far r 1 (omega arith)
value_room_some r (source.Limited x limits) = range_far r 1 (omega arith)
value_room_some r (source.Array at bytes) = range_far r 1 (omega arith)

-- the numbers of a range, if it is one that is needed
abbrev pub Has : ℕ → Bool → source.Expr → Type 0
Has locals true e = HasRange locals e
Has locals false e = Unit {0}

bounded_has : (locals : ℕ) (b : Bool) (p : source.Expr) → IsBounded locals b p → Has locals (not b) p
bounded_has locals true p h = tt
bounded_has locals false p h = h

pub judged_has : (locals : ℕ) (through : Through) (size : ℕ) (p i : source.Expr) → IsJudged locals through size p i → Has locals (takes_range through p) p
judged_has locals Named size p i h = tt
judged_has locals Raw size p i h = tt
judged_has locals One size p i h = tt
judged_has locals Array size p i h = bounded_has locals (is_ranged p) p h.2
judged_has locals Terminated size p i h = bounded_has locals (is_ranged p) p h.2

pub moved_has : (locals : ℕ) (r : Bool) (shift : Shift) (p i : source.Expr) → Has locals r (source.Moved shift p i) → Has locals r p
moved_has locals true shift p i h = h
moved_has locals false shift p i h = tt

pub added_has : (locals : ℕ) (r : Bool) (shift : Shift) (i p : source.Expr) → Has locals r (source.Added shift i p) → Has locals r p
added_has locals true shift i p h = h
added_has locals false shift i p h = tt

pub choice_has : (locals : ℕ) (r : Bool) (c a b : source.Expr) → Has locals r (source.Choice c a b) → Has locals r a × Has locals r b
choice_has locals true c a b h = h
choice_has locals false c a b h = (tt, tt)
