-- Which expressions give a pointer that is null or has a range of elements of a type, by their form.
use Rattle.std.specs.Prelude.{◌≡◌, ◌⊎◌, ◌+◌, ℕ, pos, Bool, true, false, None, IsTrue}
use Rattle.ckc_types.specs.declared.types.CType.{CType}
use Rattle.ckc_source.specs.declared.expr.Base.TheVariants as base
use Rattle.ckc_source.specs.declared.expr.Count.TheVariants as count
use Rattle.ckc_source.specs.declared.expr.Limits.{Limits}
use Rattle.ckc_source.specs.declared.expr.Through.{Through}
use Rattle.ckc_source.specs.declared.expr.Through.TheVariants as through
use Rattle.ckc_source.specs.declared.outcome.Range.TheVariants.{Within}
use Rattle.ckc_source.specs.declared.outcome.Value.{Value}
use Rattle.ckc_source.specs.Code.{Expr, Number, Limited, Array, Member, Address, Moved, Added, Choice, Tested, Trusted, Program}
use Rattle.ckc_source_causes.specs.Layouts.{Layout, IsInElement, PointsTo, HasElementsAt, NamesElements}

-- a value that is null or has a range
abbrev pub IsNullOrRanged : Value → Type 0
IsNullOrRanged v = (v.number ≡ 0) ⊎ ((low : ℕ) × (high : ℕ) × (v.range ≡ Within low high))

-- limits that hold one element: from the pointer itself up to the next element at least
pub record AreOfOne (limits : Limits) : Type 0 where
  pub lower_base : limits.lower.base ≡ base.Own
  pub lower_variable : limits.lower.variable ≡ None
  pub lower_add : limits.lower.add ≡ pos 0
  pub upper_base : limits.upper.base ≡ base.Own
  pub upper_variable : limits.upper.variable ≡ None
  pub upper_add : (more : ℕ) × (limits.upper.add ≡ pos (1 + more))

-- The range of the value, if it has one, holds the one element to which it points.
abbrev pub GivesOne : Expr → Type 0
GivesOne (Number n) = n ≡ 0
GivesOne (Limited x limits) = AreOfOne limits
GivesOne (Member to many access p i) = many ≡ count.Fixed (pos 1)
GivesOne (Address bytes access p i) = Unit {0}
GivesOne (Choice c a b) = GivesOne a × GivesOne b
GivesOne (Tested size form at p k) = k ≡ Number 1
GivesOne (Trusted to form p k) = k ≡ Number 1
GivesOne _ = ⊥

-- the pointer of an access is the address of an object of the type
abbrev pub IsObject : Program → CType → Expr → Type 0
IsObject p t (Number a) = HasElementsAt p t false a 1
IsObject p t _ = ⊥

-- By how an access is judged: by name it goes to an object, through a `_Ptr` to the element of a range of one, without an index,
-- and through another checked pointer into its range. Of an access through a `T *` nothing is known.
abbrev pub ByKind : Through → (object : Type 0) → (ranged : Bool → Type 0) → (single : Type 0) → Type 0
ByKind through.Named object ranged single = object
ByKind through.Raw object ranged single = ⊥
ByKind through.One object ranged single = ranged false × single
ByKind through.Array object ranged single = ranged false
ByKind through.Terminated object ranged single = ranged true

-- The value of the expression, if it has one, is null or has a range of elements of the type, of a null-terminated array where that
-- is wanted: it is null, a pointer that is read with its bounds, an address, a bounds cast, or one of these moved as a checked
-- pointer is.
abbrev pub GivesRange : Program → Layout → CType → Bool → Expr → Type 0
GivesRange p l t terminated (Number n) = n ≡ 0
GivesRange p l t terminated (Limited x limits) = PointsTo l t terminated limits.to
GivesRange p l t terminated (Array at bytes) = NamesElements p l t terminated at bytes
GivesRange p l t terminated (Member to many access e i) = PointsTo l t terminated to
GivesRange p l t terminated (Address bytes access e i) =
    (terminated ≡ false) × (bytes ≡ l.size t) × ((u : CType) × (access.size ≡ l.size u)
    × IsInElement l u access.offset bytes (l.is_wide t)
    × ByKind access.through (IsObject p u e) (λ ends. GivesRange p l u ends e) (GivesOne e × (i ≡ Number 0)))
GivesRange p l t terminated (Moved shift e i) =
    IsTrue shift.checked × (shift.size ≡ l.size t) × GivesRange p l t terminated e
GivesRange p l t terminated (Added shift i e) =
    IsTrue shift.checked × (shift.size ≡ l.size t) × GivesRange p l t terminated e
GivesRange p l t terminated (Choice c a b) = GivesRange p l t terminated a × GivesRange p l t terminated b
GivesRange p l t terminated (Tested size form at e k) = (size ≡ l.size t) × GivesRange p l t terminated e
GivesRange p l t terminated (Trusted to form e k) = PointsTo l t terminated to
GivesRange p l t terminated _ = ⊥

-- The pointer and the index of an access lead to elements of the type.
abbrev pub LeadsTo : Program → Layout → Through → CType → Expr → Expr → Type 0
LeadsTo p l how t e i = ByKind how (IsObject p t e) (λ ends. GivesRange p l t ends e) (GivesOne e × (i ≡ Number 0))
