-- What forms over values and fresh variables stand for: a valuation says it.
use Rattle.std.specs.Prelude.{◌≡◌, ◌⊎◌, ℕ, ◌<◌, ◌≤◌, false, true, List, [], ◌∷◌, slice_index, ℤ, pos, Option, None, Some, IfSome}
use Rattle.ckc_types.specs.declared.types.CType.{CType}
use Rattle.ckc_linear.specs.declared.forms.Base.{Base}
use Rattle.ckc_linear.specs.declared.forms.Base.TheVariants as base
use Rattle.ckc_linear.specs.declared.forms.Form.{Form}
use Rattle.ckc_typed.specs.declared.typed.Range as noted
use Rattle.ckc_typed.specs.declared.typed.Range.TheVariants as range
use Rattle.ckc_typed.specs.Operands.{is_raw_kind}
use Rattle.ckc_typed.specs.Types.{kind_of}
use Rattle.ckc_blame_sound.specs.ckc_bounds_points.specs.declared.frame.Frame.{Frame}
use Rattle.ckc_blame_sound.specs.ckc_bounds_points.specs.Shown.{Known}
use Rattle.ckc_blame_sound.specs.ckc_bounds_views.specs.Parts.{capped}
use Rattle.ckc_source.specs.declared.outcome.Range.TheVariants.{Within}
use Rattle.ckc_source.specs.declared.outcome.Value.{Value}
use Rattle.ckc_source.specs.Eval.{Store}
use Rattle.ckc_source.specs.Runs.{is_true}
use Rattle.ckc_source.specs.Words.{elements_behind}
use Rattle.ckc_build_values.specs.Kinds.{pointee_of, size_behind}
use Rattle.ckc_build_values.specs.Names.{address_of}
use Rattle.ckc_blame_sound.specs.Settings.{Setting}
use Rattle.ckc_blame_sound.specs.Values.{number_of, IsNumberOf}
use Rattle.ckc_blame_sound.specs.Variables.{HaveValues, AreTrueBy}

-- the numbers that the variables of forms stand for, and the addresses that pointers stand for which are their own base
pub record Valuation : Type 0 where
  pub numbers : ℕ → ℤ
  pub addresses : ℕ → ℕ

-- A valuation gives the variable 0 and those of integer locals their own numbers. Of fresh variables it may say anything.
abbrev pub Fits : Frame → List ℕ → Valuation → Type 0
Fits frame locals v = HaveValues frame locals v.numbers

-- A valuation says the same as another one of what is numbered below: of values below the first of some, and of
-- variables up to that of the local in front of the first fresh one.
pub record Extends (first fresh : ℕ) (before after : Valuation) : Type 0 where
  pub addresses : (n : ℕ) → n < first → after.addresses n ≡ before.addresses n
  pub numbers : (x : ℕ) → x ≤ fresh → after.numbers x ≡ before.numbers x

-- Facts are true of the numbers of a valuation.
abbrev pub AreTrueIn : Valuation → Known → Type 0
AreTrueIn v facts = AreTrueBy v.numbers facts

-- Variables, of which the first is variable x, stand for numbers of their types.
abbrev pub AreNumbers : (ℕ → ℤ) → ℕ → List CType → Type 0
AreNumbers numbers x [] = Unit {0}
AreNumbers numbers x (t ∷ ts) = IsNumberOf t (numbers x) × AreNumbers numbers (capped x 1) ts

-- the address of the base of a form
abbrev pub address_in : Setting → List ℕ → Valuation → Option Base → ℕ
address_in s locals v (Some (base.Local k)) = slice_index locals k
address_in s locals v (Some (base.Array k)) = address_of s.text k
address_in s locals v (Some (base.Value n)) = v.addresses n
address_in s locals v None = 0

-- the address that a form with a base stands for, where the elements of a pointer have this size: an exact number, that
-- may be no address
abbrev pub address_by : Setting → List ℕ → Valuation → ℕ → Form → ℤ
address_by s locals v size f = elements_behind (address_in s locals v f.base) size (number_of v.numbers f)

-- A pointer of a type has the address that its place stands for, if it has a place.
abbrev pub IsAtPlace : Setting → List ℕ → Valuation → CType → Option Form → ℕ → Type 0
IsAtPlace s locals v t place n =
    IfSome place (λ f. pos n ≡ address_by s locals v (size_behind s.text.layout t) f)

-- A pointer of a type has its range: it is between the addresses that the two ends stand for, and it is true. A value
-- that is an unchecked pointer need not carry its range.
pub record HasEnds (s : Setting) (store : Store) (v : Valuation) (t : CType) (low high : Form) (p : Value)
    : Type 0 where
  pub from : ℕ
  pub to : ℕ
  pub range : is_raw_kind (kind_of t) ≡ false → p.range ≡ Within from to
  pub low_is : pos from ≡ address_by s store.locals v (size_behind s.text.layout t) low
  pub high_is : pos to ≡ address_by s store.locals v (size_behind s.text.layout t) high
  pub true_there : is_true store.shapes store.blocks (pointee_of s.text.layout t) p.number from to ≡ true

-- A pointer that is not null has its range, if that is known. One that may be used for any range is null.
abbrev pub IsInRange : Setting → Store → Valuation → CType → noted.Range → Value → Type 0
IsInRange s store v t (range.Known low high) p = (p.number ≡ 0) ⊎ HasEnds s store v t low high p
IsInRange s store v t range.Any p = p.number ≡ 0
IsInRange s store v t range.Missing p = Unit {0}

-- A range of a pointer n of a type is true: it is between the addresses that the two ends stand for.
pub record IsTrueBetween (s : Setting) (store : Store) (v : Valuation) (t : CType) (low high : Form) (n : ℕ)
    : Type 0 where
  pub from : ℕ
  pub to : ℕ
  pub low_is : pos from ≡ address_by s store.locals v (size_behind s.text.layout t) low
  pub high_is : pos to ≡ address_by s store.locals v (size_behind s.text.layout t) high
  pub true_there : is_true store.shapes store.blocks (pointee_of s.text.layout t) n from to ≡ true

-- A pointer n may be read within a range: it is null, or the range is true, if that is known. One that may be used for
-- any range is null.
abbrev pub IsReadIn : Setting → Store → Valuation → CType → noted.Range → ℕ → Type 0
IsReadIn s store v t (range.Known low high) n = (n ≡ 0) ⊎ IsTrueBetween s store v t low high n
IsReadIn s store v t range.Any n = n ≡ 0
IsReadIn s store v t range.Missing n = Unit {0}

-- ---- the numbers of values

-- a base that is a local, a static array, or a value with a number from one on and below another one
abbrev pub BaseBetween : (first limit : ℕ) → Option Base → Type 0
BaseBetween first limit (Some (base.Value n)) = (first ≤ n) × (n < limit)
BaseBetween first limit (Some (base.Local k)) = Unit {0}
BaseBetween first limit (Some (base.Array k)) = Unit {0}
BaseBetween first limit None = ⊥

-- the same of both ends of a range
abbrev pub RangeBetween : (first limit : ℕ) → noted.Range → Type 0
RangeBetween first limit (range.Known low high) = BaseBetween first limit low.base × BaseBetween first limit high.base
RangeBetween first limit _ = Unit {0}
