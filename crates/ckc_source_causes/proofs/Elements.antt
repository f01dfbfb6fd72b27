-- Addresses at which whole elements of a type lie: what an access to a part of one reads or writes lies in a block.
use Rattle.std.proofs.Common.{◌≡◌, ℕ, ◌+◌, ◌%◌, ◌^◌, ◌≤◌, ◌<◌, List, [], ◌∷◌, refl, sym, ◌∙◌, ap, subst, arith}
use Rattle.std.specs.Prelude.{Bool, true, false, ◌||◌, nat_le, All}
use Rattle.std.specs.List.{list_any, Contains}
use Rattle.std.proofs.lemmas.Bool.{and_parts, leb-true, le-leb, eq-eqb}
use Rattle.std.proofs.lemmas.List.Elements.{All-head, All-tail}
use Rattle.std.proofs.lemmas.List.Folds.{list_any_at}
use Rattle.std.proofs.Math.Nat.{mod-eq_of_lt, add-mod_right}
use Rattle.ckc_base.specs.declared.arithmetic.Width.{Width}
use Rattle.ckc_base.specs.declared.arithmetic.Width.TheVariants.{Byte, Word}
use Rattle.ckc_base.specs.Memory.{data_end, width_bytes}
use Rattle.ckc_types.specs.declared.types.CType.{CType}
use Rattle.ckc_source.specs.Blocks.{Block, end_of, has, is_aligned, lies_in}
use Rattle.ckc_source.specs.Eval.{place_in}
use Rattle.ckc_source_causes.specs.Layouts.{Layout, IsCellOf, IsInElement, is_word}
use Rattle.ckc_source_causes.specs.Causes.{LiesInData}
use Rattle.ckc_source_causes.proofs.Numbers.{place_again, whole_before}

-- ---- the notion

-- an element of the type begins at the address: each part of it lies in a block
abbrev pub IsElement : Layout → List Block → CType → ℕ → Type 0
IsElement l blocks t a = (offset : ℕ) (width : Width) → IsCellOf l t offset width → lies_in width (place_in a offset) blocks ≡ true

-- an address is below the upper bound of a range, or at it where the last element counts
abbrev pub IsBefore : Bool → ℕ → ℕ → Type 0
IsBefore true a high = a ≤ high
IsBefore false a high = a < high

-- Elements of the type begin at all addresses of a range that are so many elements away from a pointer.
abbrev pub HasElements : Layout → List Block → CType → Bool → (n low high : ℕ) → Type 0
HasElements l blocks t last n low high = (a : ℕ) → a % l.size t ≡ n % l.size t → low ≤ a → IsBefore last a high → IsElement l blocks t a

-- ---- blocks that lie in the data region

below_itself : (width : Width) (a : ℕ) (b : Block) → has width a b ≡ true → end_of b ≤ data_end → a + width_bytes width ≤ data_end
below_itself width a b e below =
    let top = leb-true (a + width_bytes width) (end_of b) (and_parts (nat_le b.base a) (nat_le (a + width_bytes width) (end_of b)) e).1 in
    omega arith

below_all : (l : Layout) (width : Width) (a : ℕ) (bs : List Block) → All (LiesInData l) bs → list_any (has width a) bs ≡ true → a + width_bytes width ≤ data_end
below_all l width a [] all e = absurd cc
below_all l width a (b ∷ bs) all e = by (has width a b) refl (below_all l width a bs (All-tail (LiesInData l) b bs all)) e
  where
    by : (h : Bool) → has width a b ≡ h → (list_any (has width a) bs ≡ true → a + width_bytes width ≤ data_end) → (h || list_any (has width a) bs) ≡ true → a + width_bytes width ≤ data_end
    by true is more f = below_itself width a b is (All-head (LiesInData l) b bs all).below
    by false is more f = more f

pub width_some : (width : Width) → 0 < width_bytes width
width_some Byte = omega arith
width_some Word = omega arith

-- no access that lies in a block wraps
pub in_place : (l : Layout) (width : Width) (a offset : ℕ) (bs : List Block) → All (LiesInData l) bs → lies_in width (a + offset) bs ≡ true → lies_in width (place_in a offset) bs ≡ true
in_place l width a offset bs all e =
    let below = below_all l width (a + offset) bs all (and_parts (is_aligned width (a + offset)) (list_any (has width (a + offset)) bs) e).1 in
    subst (λ (x : ℕ). lies_in width x bs ≡ true) (sym (mod-eq_of_lt (small below))) e
  where
    small : a + offset + width_bytes width ≤ data_end → a + offset < 2 ^ 32
    small h = let some = width_some width in omega arith

-- ---- elements in blocks

aligned_part : (width : Width) (a offset : ℕ) → (is_word width ≡ true → (a % 4 ≡ 0) × (offset % 4 ≡ 0)) → is_aligned width (a + offset) ≡ true
aligned_part Byte a offset h = eq-eqb ((a + offset) % 1) 0 (omega arith)
aligned_part Word a offset h = let even = h refl in let one = even.0 in let two = even.1 in eq-eqb ((a + offset) % 4) 0 (omega arith)

-- an element that lies in a block, at a multiple of 4 if those of the type do
pub part_lies : (l : Layout) (bs : List Block) (b : Block) (t : CType) (a offset : ℕ) (width : Width) → Contains bs b → b.base ≤ a → a + l.size t ≤ end_of b → (l.is_wide t ≡ true → a % 4 ≡ 0)
    → IsCellOf l t offset width → lies_in width (a + offset) bs ≡ true
part_lies l bs b t a offset width there above below even cell =
    let inside = cell.inside in
    let one = aligned_part width a offset (λ w. let c = cell.aligned w in (even c.0, c.1)) in
    let low = le-leb b.base (a + offset) (omega arith) in
    let high = le-leb (a + offset + width_bytes width) (end_of b) (omega arith) in
    let in_it : has width (a + offset) b ≡ true = rw (low, high) refl in
    let two : list_any (has width (a + offset)) bs ≡ true = list_any_at (has width (a + offset)) bs there.0 b there.1 (ap (has width (a + offset)) there.2 ∙ in_it) in
    rw (one, two) refl

pub block_element : (l : Layout) (bs : List Block) (b : Block) (t : CType) (a : ℕ) → All (LiesInData l) bs → Contains bs b → b.base ≤ a → a + l.size t ≤ end_of b → (l.is_wide t ≡ true → a % 4 ≡ 0)
    → IsElement l bs t a
block_element l bs b t a all there above below even offset width cell = in_place l width a offset bs all (part_lies l bs b t a offset width there above below even cell)

-- ---- parts of elements

-- A part of an element of one type that is one of another type.
pub part_element : (l : Layout) (bs : List Block) (u t : CType) (a offset : ℕ) → IsElement l bs u a → IsInElement l u offset (l.size t) (l.is_wide t) → IsElement l bs t (place_in a offset)
part_element l bs u t a offset element part at width cell =
    let room = part.inside in
    let inside = cell.inside in
    subst (λ (x : ℕ). lies_in width x bs ≡ true) (sym (place_again a offset at)) (element (offset + at) width (record {
      inside = omega arith;
      aligned = λ w. let c = cell.aligned w in let d = part.aligned c.0 in (d.0, sum_even offset at d.1 c.1);
    }))
  where
    sum_even : (x y : ℕ) → x % 4 ≡ 0 → y % 4 ≡ 0 → (x + y) % 4 ≡ 0
    sum_even x y e f = omega arith

-- The range of one element has that element alone.
pub one_element : (l : Layout) (bs : List Block) (t : CType) (x : ℕ) → IsElement l bs t x → HasElements l bs t false x x (x + l.size t)
one_element l bs t x element a same low high offset width cell =
    let at : a ≡ x = first (whole_before (l.size t) x a (x + l.size t) low (omega arith) same (add-mod_right x (l.size t)) high) in
    subst (λ (y : ℕ). lies_in width (place_in y offset) bs ≡ true) (sym at) (element offset width cell)
  where
    first : a + l.size t ≤ x + l.size t → a ≡ x
    first h = omega arith
