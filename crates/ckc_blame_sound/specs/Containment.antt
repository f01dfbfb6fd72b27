-- What is known of a pointer whose containment in its bounds is judged.
use Rattle.std.specs.Prelude.{◌≡◌, ◌≢◌, ℕ, Bool, true, ◌≤ℤ◌, pos, ◌+ℤ◌, List, IsOk}
use Rattle.ckc_linear.specs.declared.forms.Form.{Form}
use Rattle.ckc_typed.specs.declared.typed.Range.{Range}
use Rattle.ckc_typed.specs.declared.typed.Range.TheVariants as range
use Rattle.ckc_source.specs.declared.expr.Pointee.{Pointee}
use Rattle.ckc_source.specs.declared.program.Shape.{Shape}
use Rattle.ckc_source.specs.Blocks.{Block}
use Rattle.ckc_source.specs.Eval.{reads}
use Rattle.ckc_bounds.specs.ckc_bounds_stores.specs.Values.{Value}
use Rattle.ckc_blame_sound.specs.Values.{number_of}
use Rattle.ckc_blame_sound.specs.Valuations.{Valuation, form_address, AreFacts}

-- what memory has, and what a pointer points to there
pub record Memory : Type 0 where
  pub shapes : List Shape
  pub blocks : List Block
  pub to : Pointee

-- A pointer n may be read from a form up to another one: it is null, or that range is true.
abbrev pub IsReadBetween : Memory → Valuation → ℕ → Form → Form → Type 0
IsReadBetween m v n low high =
    IsOk (reads m.shapes m.blocks m.to n (form_address v m.to.size low) (form_address v m.to.size high))

-- the same of a range, if it is known
abbrev pub IsReadWithin : Memory → Valuation → ℕ → Range → Type 0
IsReadWithin m v n (range.Known low high) = IsReadBetween m v n low high
IsReadWithin m v n _ = Unit {0}

-- What is known of a pointer n and the value that a containment is judged by: if the value is null, n is; n may be read
-- within the range, and if it is not null the facts are true.
pub record IsJudged (m : Memory) (v : Valuation) (n : ℕ) (value : Value) : Type 0 where
  pub null : value.null ≡ true → n ≡ 0
  pub range : IsReadWithin m v n value.range
  pub facts : n ≢ 0 → AreFacts v value.facts

-- A range without its widening begins as it does, and ends at the same base.
abbrev pub IsNarrowed : Range → Range → Type 0
IsNarrowed (range.Known low high) (range.Known begin before) = (begin ≡ low) × (before.base ≡ high.base)
IsNarrowed _ _ = Unit {0}

-- A range has at least one element.
abbrev pub HasElement : Valuation → Range → Type 0
HasElement v (range.Known low high) = (number_of v.number low +ℤ pos 1) ≤ℤ number_of v.number high
HasElement v _ = Unit {0}

-- What is known of a pointer n, its range, and that range without its widening: n may be read within both, and one that
-- was allocated and is not null has an element.
pub record IsRanged (m : Memory) (v : Valuation) (n : ℕ) (r before : Range) (allocated : Bool) : Type 0 where
  pub wide : IsReadWithin m v n r
  pub narrow : IsReadWithin m v n before
  pub narrowed : IsNarrowed r before
  pub element : allocated ≡ true → n ≢ 0 → HasElement v r
