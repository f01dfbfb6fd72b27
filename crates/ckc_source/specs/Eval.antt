-- Evaluation of expressions (ISO C11, 6.5; Checked C specification 0.9, section 3), from left to right.
use Rattle.std.specs.Prelude.{ℕ, ◌+◌, ◌%◌, ◌==◌, nat_lt, nat_le, Bool, true, false, ◌&&◌, if◌then◌else◌, ℤ, pos, negsuc, ◌+ℤ◌, ◌-ℤ◌, ◌*ℤ◌, List, [], ◌∷◌, slice_index, Option, Some, None, Result, Ok, Err}
use Rattle.ckc_base.specs.declared.arithmetic.Width.{Width}
use Rattle.ckc_base.specs.declared.arithmetic.Width.TheVariants.{Word}
use Rattle.ckc_base.specs.declared.arithmetic.BinOp.TheVariants as binary
use Rattle.ckc_base.specs.declared.places.Pos.{Pos}
use Rattle.ckc_base.specs.declared.runtime_checks.Check.{Check}
use Rattle.ckc_base.specs.declared.runtime_checks.Check.TheVariants as check
use Rattle.ckc_base.specs.Words.{applied}
use Rattle.ckc_source.specs.declared.expr.Integer.{Integer}
use Rattle.ckc_source.specs.declared.expr.Operation.{Operation}
use Rattle.ckc_source.specs.declared.expr.Through.{Through}
use Rattle.ckc_source.specs.declared.expr.Through.TheVariants as through
use Rattle.ckc_source.specs.declared.expr.Access.{Access}
use Rattle.ckc_source.specs.declared.expr.Shift.{Shift}
use Rattle.ckc_source.specs.declared.expr.Pointee.{Pointee}
use Rattle.ckc_source.specs.declared.expr.Variable.{Variable}
use Rattle.ckc_source.specs.declared.expr.Base.{Base}
use Rattle.ckc_source.specs.declared.expr.Base.TheVariants as base
use Rattle.ckc_source.specs.declared.expr.End.{End}
use Rattle.ckc_source.specs.declared.expr.Limits.{Limits}
use Rattle.ckc_source.specs.declared.expr.Count.{Count}
use Rattle.ckc_source.specs.declared.expr.Count.TheVariants as count
use Rattle.ckc_source.specs.declared.program.Shape.{Shape}
use Rattle.ckc_source.specs.declared.outcome.Range.{Range}
use Rattle.ckc_source.specs.declared.outcome.Range.TheVariants.{Without, Within}
use Rattle.ckc_source.specs.declared.outcome.Value.{Value}
use Rattle.ckc_source.specs.declared.outcome.Halt.{Halt}
use Rattle.ckc_source.specs.declared.outcome.Halt.TheVariants.{Stopped, Stuck}
use Rattle.ckc_source.specs.Code.{Expr, Number, Local, Limited, Array, Load, Member, Address, Moved, Added, Binary, And, Or, Choice, Narrow, Bare, Tested, Trusted}
use Rattle.ckc_source.specs.Blocks.{Block, loaded}
use Rattle.ckc_source.specs.Runs.{is_true}
use Rattle.ckc_source.specs.Words.{exact, width_of, as_address, elements_behind, truth, computed, divides}

-- what expressions read: the structures, the blocks and the locals
pub record Store : Type 0 where
  pub shapes : List Shape
  pub blocks : List Block
  pub locals : List ℕ

-- evaluation goes on with a value, unless it has halted
abbrev pub given : {A B : Type 0} → Result A Halt → (A → Result B Halt) → Result B Halt
given (Ok v) f = f v
given (Err h) f = Err h

-- the same, with two values, the first before the second
abbrev pub given_both : {A B C : Type 0} → Result A Halt → Result B Halt → (A → B → Result C Halt) → Result C Halt
given_both x y f = given x (λ v. given y (f v))

-- evaluation goes on with what memory has, and is stuck if there is nothing
abbrev pub given_some : {A B : Type 0} → Option A → (A → Result B Halt) → Result B Halt
given_some (Some v) f = f v
given_some None f = Err Stuck

-- Evaluation stops at this check, at this place.
abbrev pub stops : {A : Type 0} → Check → Pos → Result A Halt
stops why at = Err (Stopped why at)

-- a value without a range
abbrev pub plain : ℕ → Result Value Halt
plain n = Ok (record { number = n; range = Without })

-- a pointer whose range goes from the address `low` up to `high`
abbrev pub ranged : ℕ → ℕ → ℕ → Result Value Halt
ranged n low high = Ok (record { number = n; range = Within low high })

-- the address of so many bytes, with their range
abbrev pub spanned : ℕ → ℕ → Result Value Halt
spanned a bytes = ranged a a (a + bytes)

-- ---- reading a checked pointer

-- A checked pointer that is not null is read with its range, and is stuck if the range is not true.
abbrev pub reads_within : List Shape → List Block → Pointee → ℕ → ℤ → ℤ → Result Value Halt
reads_within shapes blocks to n (pos low) (pos high) =
    if is_true shapes blocks to n low high then ranged n low high else Err Stuck
reads_within shapes blocks to n _ _ = Err Stuck

-- A checked pointer with known limits is read: null has no range, and otherwise the range must be true.
abbrev pub reads : List Shape → List Block → Pointee → ℕ → ℤ → ℤ → Result Value Halt
reads shapes blocks to n low high = if n == 0 then plain 0 else reads_within shapes blocks to n low high

-- an amount of limits, exactly
abbrev pub amount : List ℕ → Option Variable → ℤ → ℤ
amount locals None add = add
amount locals (Some x) add = exact x.form (slice_index locals x.local) +ℤ add

-- the address from which an end of limits is counted
abbrev pub base_address : List ℕ → ℕ → Base → ℕ
base_address locals own base.Own = own
base_address locals own (base.Local x) = slice_index locals x
base_address locals own (base.Fixed a) = a

-- the address of an end of the limits of a pointer
abbrev pub end_address : List ℕ → ℕ → ℕ → End → ℤ
end_address locals size own e = elements_behind (base_address locals own e.base) size (amount locals e.variable e.add)

-- a pointer n with limits is read
abbrev pub reads_limited : Store → Limits → ℕ → Result Value Halt
reads_limited s limits n =
    reads s.shapes s.blocks limits.to n (end_address s.locals limits.to.size n limits.lower) (end_address s.locals limits.to.size n limits.upper)

-- ---- accesses

-- the address, or a stop at the check `arith` if there is none
abbrev pub at_address : Option ℕ → Pos → Result ℕ Halt
at_address (Some a) at = Ok a
at_address None at = stops check.Arith at

-- the exact address of an element, from a pointer that is not null
abbrev pub exact_element : Access → Value → ℕ → Result ℕ Halt
exact_element access p i =
    if p.number == 0 then stops check.Null access.at
    else at_address (as_address (elements_behind p.number access.size (exact access.index i))) access.at

-- an address in a range, of which the upper bound counts too if the flag says so
abbrev pub in_range : Bool → Range → Pos → ℕ → Result ℕ Halt
in_range last (Within low high) at a =
    if nat_le low a && (if last then nat_le a high else nat_lt a high) then Ok a else stops check.Bounds at
in_range last Without at a = Err Stuck

-- The address of the element that an access goes to: through a checked pointer, null stops first, then an address
-- that is none, and then one outside the bounds. Through an unchecked pointer it wraps.
abbrev pub element_through : Through → Access → Value → ℕ → Result ℕ Halt
element_through through.Named access p i = Ok p.number
element_through through.Raw access p i = Ok (applied binary.Add p.number (applied binary.Mul access.size i))
element_through through.One access p i = exact_element access p i
element_through through.Array access p i = given (exact_element access p i) (in_range false p.range access.at)
element_through through.Terminated access p i = given (exact_element access p i) (in_range true p.range access.at)

-- the same, by the kind of pointer that the access itself goes through
abbrev pub element : Access → Value → ℕ → Result ℕ Halt
element access p i = element_through access.through access p i

-- the place that an access goes to, in the element
abbrev pub place_in : ℕ → ℕ → ℕ
place_in a offset = applied binary.Add a offset

-- the value that a load gives, which is stuck if no block has it
abbrev pub loads : Store → Width → ℕ → Result Value Halt
loads s width a = given_some (loaded width a s.blocks) plain

-- how many elements a pointer has that lies in the structure which begins at an address
abbrev pub counted : Store → ℕ → Count → Result ℤ Halt
counted s begin (count.Fixed n) = Ok n
counted s begin (count.Member offset form add) =
    given_some (loaded (width_of form) (place_in begin offset) s.blocks) (λ m. Ok (exact form m +ℤ add))

-- A pointer in memory is read; the member that its limits name is read too, also if it is null.
abbrev pub loads_pointer : Store → Pointee → Count → ℕ → ℕ → Result Value Halt
loads_pointer s to count begin a =
    given_some (loaded Word a s.blocks) (λ n.
    given (counted s begin count) (λ m. reads s.shapes s.blocks to n (pos n) (elements_behind n to.size m)))

-- ---- operations

-- the address so many elements after or before a pointer, as an exact number that may be no address
abbrev pub moved_exactly : Shift → ℕ → ℤ → ℤ
moved_exactly shift n i = if shift.back then pos n -ℤ (pos shift.size *ℤ i) else elements_behind n shift.size i

-- arithmetic on a checked pointer, which stops at `arith` from null and if the result is no address
abbrev pub moves_checked : Shift → Value → ℕ → Result Value Halt
moves_checked shift p i =
    if p.number == 0 then stops check.Arith shift.at
    else given (at_address (as_address (moved_exactly shift p.number (exact shift.index i))) shift.at)
    (λ a. Ok (record { number = a; range = p.range }))

-- pointer arithmetic: from a checked pointer it is exact and keeps the range, and stops from null
abbrev pub moves : Shift → Value → ℕ → Result Value Halt
moves shift p i =
    if shift.checked then moves_checked shift p i
    else plain (applied (if shift.back then binary.Sub else binary.Add) p.number (applied binary.Mul shift.size i))

-- a binary operation on integers, which stops at `divide` for a division by zero
abbrev pub operates : Operation → Bool → Pos → ℕ → ℕ → Result Value Halt
operates operation is_signed at a b =
    if divides operation && (b == 0) then stops check.Divide at else plain (computed operation is_signed a b)

-- a pointer with the new bounds up to `upper`, or a stop at `cast` if they do not lie in its range
abbrev pub tests_within : Range → Pos → ℕ → ℤ → Result Value Halt
tests_within (Within low high) at n (pos upper) =
    if nat_le low n && nat_le n upper && nat_le upper high then ranged n n upper else stops check.Cast at
tests_within (Within low high) at n (negsuc upper) = stops check.Cast at
tests_within Without at n upper = Err Stuck

-- `_Dynamic_bounds_cast`: the new bounds lie in the old ones; null is null
abbrev pub tests : ℕ → Integer → Pos → Value → ℕ → Result Value Halt
tests size form at p k =
    if p.number == 0 then plain 0 else tests_within p.range at p.number (elements_behind p.number size (exact form k))

-- `_Assume_bounds_cast`
abbrev pub trusts : Store → Pointee → Integer → ℕ → ℕ → Result Value Halt
trusts s to form n k = reads s.shapes s.blocks to n (pos n) (elements_behind n to.size (exact form k))

-- ---- expressions

-- what is at the element that an access goes to, through a pointer at an index
abbrev pub accessed : Access → Result Value Halt → Result Value Halt → (ℕ → Result Value Halt) → Result Value Halt
accessed access p i go = given_both p i (λ v k. given (element access v k.number) go)

-- the value of an expression, or why there is none
abbrev pub evaluated : Store → Expr → Result Value Halt
evaluated s (Number n) = plain n
evaluated s (Local x) = plain (slice_index s.locals x)
evaluated s (Limited x limits) = reads_limited s limits (slice_index s.locals x)
evaluated s (Array at bytes) = spanned at bytes
evaluated s (Load width access p i) =
    accessed access (evaluated s p) (evaluated s i) (λ a. loads s width (place_in a access.offset))
evaluated s (Member to count access p i) =
    accessed access (evaluated s p) (evaluated s i) (λ a. loads_pointer s to count a (place_in a access.offset))
evaluated s (Address bytes access p i) =
    accessed access (evaluated s p) (evaluated s i) (λ a. spanned (place_in a access.offset) bytes)
evaluated s (Moved shift p i) = given_both (evaluated s p) (evaluated s i) (λ v k. moves shift v k.number)
evaluated s (Added shift i p) = given_both (evaluated s i) (evaluated s p) (λ k v. moves shift v k.number)
evaluated s (Binary operation is_signed at a b) =
    given_both (evaluated s a) (evaluated s b) (λ x y. operates operation is_signed at x.number y.number)
evaluated s (And a b) =
    given (evaluated s a) (λ x. if x.number == 0 then plain 0 else given (evaluated s b) (λ y. plain (truth y.number)))
evaluated s (Or a b) =
    given (evaluated s a) (λ x. if x.number == 0 then given (evaluated s b) (λ y. plain (truth y.number)) else plain 1)
evaluated s (Choice c a b) =
    given (evaluated s c) (λ x. if x.number == 0 then evaluated s b else evaluated s a)
evaluated s (Narrow e) = given (evaluated s e) (λ v. plain (v.number % 256))
evaluated s (Bare p) = given (evaluated s p) (λ v. plain v.number)
evaluated s (Tested size form at p k) =
    given_both (evaluated s p) (evaluated s k) (λ v c. tests size form at v c.number)
evaluated s (Trusted to form p k) =
    given_both (evaluated s p) (evaluated s k) (λ v c. trusts s to form v.number c.number)

-- the numbers of expressions, from left to right
abbrev pub all_evaluated : Store → List Expr → Result (List ℕ) Halt
all_evaluated s [] = Ok []
all_evaluated s (e ∷ es) =
    given (evaluated s e) (λ v. given (all_evaluated s es) (λ ns. Ok (v.number ∷ ns)))
