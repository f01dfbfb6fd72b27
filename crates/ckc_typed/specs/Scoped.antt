-- The rules of checked scopes (Checked C specification 0.9, section 3, on checked scopes): no declared type,
-- expression or called function has an unchecked pointer or array type, and no `_Assume_bounds_cast` stands there.
use Rattle.std.specs.Prelude.{◌≡◌, ℕ, ◌==◌, List, [], ◌∷◌, ◌++◌, Option, None, Some, Bool, true, false, ◌&&◌, if◌then◌else◌}
use Rattle.std.specs.List.{All, list_any}
use Rattle.ckc_base.specs.declared.places.Pos.{Pos}
use Rattle.ckc_base.specs.declared.arithmetic.Mode.{Mode}
use Rattle.ckc_base.specs.declared.arithmetic.Mode.TheVariants.{Checked, Unchecked}
use Rattle.ckc_syntax.specs.declared.tree.Name.{Name}
use Rattle.ckc_syntax.specs.declared.tree.Name.TheVariants as name
use Rattle.ckc_syntax.specs.declared.tree.Item.{Item}
use Rattle.ckc_syntax.specs.declared.tree.Item.TheVariants as item
use Rattle.ckc_syntax.specs.declared.tree.Head.{Head}
use Rattle.ckc_typed.specs.declared.typed.Note.{Note}
use Rattle.ckc_typed.specs.declared.typed.Typed.{Typed}
use Rattle.ckc_typed.specs.Raw.{has_raw, raws_of_head}
use Rattle.ckc_typed.specs.Walk.{Matter, written, value, called, assumed, Spot, walk}

-- whether a name means the function with the number k
abbrev pub names_function : ℕ → Name → Bool
names_function k (name.Function j) = j == k
names_function k _ = false

-- whether a list of places is not empty
abbrev pub is_some_place : List Pos → Bool
is_some_place [] = false
is_some_place (at ∷ rest) = true

-- whether a head is that of the function with the number, and has an unchecked pointer or array in a type of its
abbrev pub is_raw_head : ℕ → Head Name Note → Bool
is_raw_head k h = names_function k h.name && is_some_place (raws_of_head h)

-- the same of the head of an item, if it has one
abbrev pub is_raw_item : ℕ → Item Name Note → Bool
is_raw_item k (item.Proto h) = is_raw_head k h
is_raw_item k (item.Function h body) = is_raw_head k h
is_raw_item k _ = false

-- whether a function of the text has such a type in its head
abbrev pub is_raw_function : List (Item Name Note) → ℕ → Bool
is_raw_function items k = list_any (is_raw_item k) items

-- E501: a pointer that is not checked, in a checked scope
abbrev pub unchecked_pointer : ℕ
unchecked_pointer = 501

-- E502: a cast that assumes its bounds, in a checked scope
abbrev pub assumed_cast : ℕ
assumed_cast = 502

-- E501, if a condition holds
abbrev pub fault_where : Bool → Option ℕ
fault_where b = if b then Some unchecked_pointer else None

-- what refuses a matter in a checked scope
abbrev pub fault_of_matter : List (Item Name Note) → Matter → Option ℕ
fault_of_matter items written = Some unchecked_pointer
fault_of_matter items (value ctype) = fault_where (has_raw ctype)
fault_of_matter items (called k) = fault_where (is_raw_function items k)
fault_of_matter items assumed = Some assumed_cast

-- an error code, in a checked scope alone
abbrev pub fault_in : Mode → Option ℕ → Option ℕ
fault_in Checked fault = fault
fault_in Unchecked fault = None

-- The number of the refusal for a spot, if it is at fault. In an unchecked scope nothing is.
abbrev pub fault_at : List (Item Name Note) → Spot → Option ℕ
fault_at items s = fault_in s.mode (fault_of_matter items s.matter)

-- A spot of a typed source file has no error.
abbrev pub IsFine : Typed → Spot → Type 0
IsFine p s = fault_at p.tree.items s ≡ None

-- A typed text is scoped if no spot is at fault.
abbrev pub Scoped : Typed → Type 0
Scoped p = All (IsFine p) (walk p)

-- The first spot in walk order that is at fault has this place, and is refused with this number.
pub record IsFirstScopeFault (p : Typed) (code : ℕ) (at : Pos) : Type 0 where
  pub before : List Spot
  pub found : Spot
  pub rest : List Spot
  pub walked : walk p ≡ before ++ found ∷ rest
  pub fine : All (IsFine p) before
  pub fault : fault_at p.tree.items found ≡ Some code
  pub place : found.at ≡ at
