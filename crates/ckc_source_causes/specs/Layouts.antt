-- How the elements of a program lie (ISO C11, 6.2.8: alignment of objects): how large those of a type are, and which of them lie at
-- multiples of 4, as each does that has a word in it.
use Rattle.std.specs.Prelude.{◌≡◌, ℕ, ◌+◌, ◌*◌, ◌%◌, ◌≤◌, Bool, true, false, if◌then◌else◌, All}
use Rattle.std.specs.List.{Contains}
use Rattle.ckc_types.specs.declared.types.CType.{CType, out-CType}
use Rattle.ckc_base.specs.declared.arithmetic.Width.{Width}
use Rattle.ckc_base.specs.declared.arithmetic.Width.TheVariants.{Byte, Word}
use Rattle.ckc_base.specs.Memory.{width_bytes}
use Rattle.ckc_source.specs.declared.expr.Count.{Count}
use Rattle.ckc_source.specs.declared.expr.Count.TheVariants as count
use Rattle.ckc_source.specs.declared.expr.Pointee.{Pointee}
use Rattle.ckc_source.specs.declared.program.MemberRun.{MemberRun}
use Rattle.ckc_source.specs.declared.program.Object.{Object}
use Rattle.ckc_source.specs.Code.{Program}
use Rattle.ckc_source.specs.Runs.{runs_in}
use Rattle.ckc_source.specs.Words.{width_of}

-- the sizes of types, and whether an object of a type lies at a multiple of 4
pub record Layout : Type 0 where
  pub size : CType → ℕ
  pub is_wide : CType → Bool

-- whether an access is one of a word, which lies at a multiple of 4
abbrev pub is_word : Width → Bool
is_word Byte = false
is_word Word = true

-- ---- parts of elements

-- So many bytes lie in an element of the type, so many after its begin, and at a multiple of 4 where that is wanted.
pub record IsInElement (l : Layout) (t : CType) (offset bytes : ℕ) (wide : Bool) : Type 0 where
  pub inside : offset + bytes ≤ l.size t
  pub aligned : wide ≡ true → (l.is_wide t ≡ true) × (offset % 4 ≡ 0)

-- so does what an access of a width reads or writes
abbrev pub IsCellOf : Layout → CType → ℕ → Width → Type 0
IsCellOf l t offset width = IsInElement l t offset (width_bytes width) (is_word width)

-- so does the member that keeps the number of elements of a pointer
abbrev pub IsCountOf : Layout → CType → Count → Type 0
IsCountOf l t (count.Fixed n) = Unit {0}
IsCountOf l t (count.Member offset form add) = IsCellOf l t offset (width_of form)

-- what a checked pointer with limits points to: elements of the type, of a null-terminated array where that is wanted
pub record PointsTo (l : Layout) (t : CType) (terminated : Bool) (to : Pointee) : Type 0 where
  pub element : to.element ≡ t
  pub size : to.size ≡ l.size t
  pub ends : terminated ≡ true → to.terminated ≡ true

-- ---- objects

-- An object of the program lies at an address and has elements of the type: as many, and one more if a terminator comes after.
pub record HasElementsAt (p : Program) (t : CType) (terminated : Bool) (a elements : ℕ) : Type 0 where
  pub object : Object
  pub there : Contains p.objects object
  pub at : object.at ≡ a
  pub element : object.element ≡ t
  pub room : (if terminated then elements + 1 else elements) ≤ object.count

-- a named array or a string literal: its address, and how many bytes its upper bound lies after it
abbrev pub NamesElements : Program → Layout → CType → Bool → ℕ → ℕ → Type 0
NamesElements p l t terminated a bytes = (elements : ℕ) × (bytes ≡ l.size t * elements) × HasElementsAt p t terminated a elements

-- ---- programs

-- An object lies at a multiple of 4, and its elements have the size of their type.
pub record LiesByType (l : Layout) (o : Object) : Type 0 where
  pub at : o.at % 4 ≡ 0
  pub size : o.size ≡ l.size o.element

-- A program is laid out by types: so is each object; the size of a type whose objects lie at multiples of 4 is one; and so is the
-- offset of a member of such a type to which pointers may point, whose structure lies so too.
pub record IsLaidOutBy (p : Program) (l : Layout) : Type 0 where
  pub sizes : (t : CType) → l.is_wide t ≡ true → l.size t % 4 ≡ 0
  pub objects : All (LiesByType l) p.objects
  pub members : (t : CType) (m : MemberRun) → Contains (runs_in p.shapes (out-CType t)) m → l.is_wide m.ctype ≡ true
      → (l.is_wide t ≡ true) × (m.offset % 4 ≡ 0)
