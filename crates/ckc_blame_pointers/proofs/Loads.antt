-- An element that is read through a checked pointer within its range.
use Rattle.std.proofs.Common.{◌≡◌, ◌⊎◌, inl, inr, refl, sym, ap, subst, ◌∙◌, ℕ, zero, suc, Bool, true, false, List, [], ◌∷◌, arith}
use Rattle.std.specs.Prelude.{◌+◌, ◌-◌, ◌==◌, ◌<◌, ◌^◌, ◌&&◌, if◌then◌else◌, nat_lt, nat_le, slice_index, ℤ, pos, negsuc, Option, None, Some, Result, Ok, Err}
use Rattle.ckc_base.specs.declared.arithmetic.Width.{Width}
use Rattle.ckc_base.specs.declared.arithmetic.Width.TheVariants.{Byte, Word}
use Rattle.ckc_base.specs.declared.runtime_checks.Check.TheVariants as check
use Rattle.ckc_base.specs.Lists.{AreBytes}
use Rattle.ckc_types.specs.declared.types.Kind.{Kind}
use Rattle.ckc_types.specs.declared.types.Kind.TheVariants as kind
use Rattle.ckc_types.specs.declared.types.CType.{CType, CType-F, out-CType}
use Rattle.ckc_types.specs.declared.types.Structs.{Structs}
use Rattle.ckc_typed.specs.Types.{is_integer, is_integer_form, is_char, kind_of, kind_in, element_of}
use Rattle.ckc_typed.specs.Conversions.{is_terminated_kind}
use Rattle.ckc_blame_sound.specs.ckc_bounds_views.specs.Judged.{is_counted_kind}
use Rattle.ckc_source.specs.declared.expr.Access.{Access}
use Rattle.ckc_source.specs.declared.expr.Pointee.{Pointee}
use Rattle.ckc_source.specs.declared.expr.Through.{Through}
use Rattle.ckc_source.specs.declared.expr.Through.TheVariants as through
use Rattle.ckc_source.specs.declared.outcome.Halt.{Halt}
use Rattle.ckc_source.specs.declared.outcome.Halt.TheVariants as halt
use Rattle.ckc_source.specs.declared.outcome.Range as ranges
use Rattle.ckc_source.specs.declared.outcome.Range.TheVariants.{Within, Without}
use Rattle.ckc_source.specs.declared.outcome.Value.{Value}
use Rattle.ckc_source.specs.Blocks.{Block, has, number_at, is_aligned, found, loaded}
use Rattle.ckc_source.specs.LaidOut.{HoldBytes}
use Rattle.ckc_source.specs.Runs.{is_true}
use Rattle.ckc_source.specs.Eval.{Store, given, stops, at_address, exact_element, in_range, element, element_through, place_in, given_some, loads, plain}
use Rattle.ckc_source.specs.Words.{exact, as_address, elements_behind}
use Rattle.ckc_build_values.specs.Kinds.{width_of, through_kind, pointee_of, size_behind, count_of_kind}
use Rattle.ckc_build_elaborate.specs.Shapes.{shapes_elaborated}
use Rattle.ckc_blame_sound.specs.Settings.{Setting}
use Rattle.ckc_blame_sound.specs.Values.{IsWordOf}
use Rattle.ckc_blame_sound.specs.Cells.{IsPart, IsPartIn, IsCell, HaveOwnNames, IsReached, AreSound}
use Rattle.ckc_blame_sound.proofs.Apart.{cell_there, cell_address}
use Rattle.ckc_blame_sound.proofs.Objects.{are_members}
use Rattle.ckc_blame_sound.proofs.Ranges.{true_cell}
use Rattle.ckc_blame_sound.proofs.Reached.{array_reached, terminated_reached, place_is}
use Rattle.ckc_blame_sound.proofs.Stores.{load_goes}
use Rattle.ckc_blame_pointers.specs.Meant.{IsNotStuck}
use Rattle.ckc_blame_pointers.specs.Owed.{IfGives}
use Rattle.ckc_blame_pointers.proofs.Given.{some_gives}

-- ---- the words that memory holds

byte_in : (bytes : List ℕ) → AreBytes bytes → (i : ℕ) → slice_index bytes i < 256
byte_in [] h i = omega arith
byte_in (b ∷ bytes) h zero = h.0
byte_in (b ∷ bytes) h (suc i) = byte_in bytes h.1 i

-- as many bytes as an access moves
abbrev pub FitsWidth : Width → ℕ → Type 0
FitsWidth Byte n = n < 256
FitsWidth Word n = n < 2 ^ 32

number_in : (width : Width) (bytes : List ℕ) → AreBytes bytes → (i : ℕ) → FitsWidth width (number_at width bytes i)
number_in Byte bytes h i = byte_in bytes h i
number_in Word bytes h i =
    let a = byte_in bytes h i in
    let b = byte_in bytes h (i + 1) in
    let c = byte_in bytes h (i + 2) in
    let d = byte_in bytes h (i + 3) in
    omega arith

found_in : (width : Width) (a : ℕ) (blocks : List Block) → HoldBytes blocks → (n : ℕ) → found width a blocks ≡ Some n → FitsWidth width n
unfolding found
found_in width a [] h n e = absurd (cc)
found_in width a (b ∷ blocks) h n e = by (λ e. found_in width a blocks h.1 n e) (has width a b) e
  where
    by : (found width a blocks ≡ Some n → FitsWidth width n) → (c : Bool) → (if c then Some (number_at width b.bytes (a - b.base)) else found width a blocks) ≡ Some n → FitsWidth width n
    by later true e = let same : number_at width b.bytes (a - b.base) ≡ n = cc in subst (FitsWidth width) same (number_in width b.bytes h.0 (a - b.base))
    by later false e = later e

pub loaded_in : (width : Width) (a : ℕ) (blocks : List Block) → HoldBytes blocks → (n : ℕ) → loaded width a blocks ≡ Some n → FitsWidth width n
loaded_in width a blocks h n e = by (is_aligned width a) e
  where
    by : (c : Bool) → (if c then found width a blocks else None) ≡ Some n → FitsWidth width n
    by true e = found_in width a blocks h n e
    by false e = absurd (cc)

-- ---- the types of elements

integer_part_in : (structs : Structs) (t : CType) (f : CType-F CType) → is_integer_form f ≡ true → IsPartIn structs t f 0 (width_of t)
integer_part_in structs t CType-F.Int i = (refl, refl)
integer_part_in structs t CType-F.Unsigned i = (refl, refl)
integer_part_in structs t CType-F.Char i = (refl, refl)
integer_part_in structs t CType-F.Void i = absurd (cc)
integer_part_in structs t (CType-F.Struct tag) i = absurd (cc)
integer_part_in structs t (CType-F.Pointer k u) i = absurd (cc)

pub integer_part : (structs : Structs) (t : CType) → is_integer t ≡ true → IsPart structs t 0 (width_of t)
integer_part structs t i = integer_part_in structs t (out-CType t) i

no_kind_in : (f : CType-F CType) → is_integer_form f ≡ true → kind_in f ≡ None
no_kind_in CType-F.Int i = refl
no_kind_in CType-F.Unsigned i = refl
no_kind_in CType-F.Char i = refl
no_kind_in CType-F.Void i = refl
no_kind_in (CType-F.Struct tag) i = refl
no_kind_in (CType-F.Pointer k u) i = absurd (cc)

-- no number of elements is known of an integer
pub no_count : (t : CType) → is_integer t ≡ true → count_of_kind (kind_of t) ≡ None
no_count t i = ap count_of_kind (no_kind_in (out-CType t) i)

-- the word of an integer that is loaded
pub word_loaded : (t : CType) (n : ℕ) → FitsWidth (width_of t) n → IsWordOf t n
word_loaded t n h = by (is_char t) h
  where
    by : (b : Bool) → FitsWidth (if b then Byte else Word) n → n < (if b then 256 else 2 ^ 32)
    by true h = h
    by false h = h

-- the integer or the pointer that is loaded at an address, if there is one
pub word_gives : (store : Store) → HoldBytes store.blocks → (Q : Value → Type 0) (t : CType) (a : ℕ) → ((m : ℕ) → IsWordOf t m → Q (record { number = m; range = Without })) → IfGives Q (loads store (width_of t) a)
word_gives store bytes Q t a out =
    some_gives Q (loaded (width_of t) a store.blocks) plain (λ m there. out m (word_loaded t m (loaded_in (width_of t) a store.blocks bytes m there)))

-- ---- an element

-- through a pointer with bounds that are tested
pub record IsTested (kind_there : Through) (to : Pointee) : Type 0 where
  pub tested : (kind_there ≡ through.Array) ⊎ ((kind_there ≡ through.Terminated) × (to.terminated ≡ true))

module _ (access : Access) (v : Value) (i : ℕ) where
  address_stuck : (z : ℤ) → at_address (as_address z) access.at ≡ Err halt.Stuck → ⊥
  address_stuck (pos n) e = by (nat_lt n (2 ^ 32)) e
    where
      by : (b : Bool) → at_address (if b then Some n else None) access.at ≡ Err halt.Stuck → ⊥
      by true e = absurd (cc)
      by false e = absurd (cc)
  address_stuck (negsuc n) e = absurd (cc)

  exact_stuck : exact_element access v i ≡ Err halt.Stuck → ⊥
  exact_stuck e = by (v.number == 0) e
    where
      by : (b : Bool) → (if b then stops check.Null access.at else at_address (as_address (elements_behind v.number access.size (exact access.index i))) access.at) ≡ Err halt.Stuck → ⊥
      by true e = absurd (cc)
      by false e = address_stuck (elements_behind v.number access.size (exact access.index i)) e

  range_stuck : (last : Bool) (low high a : ℕ) → in_range last (Within low high) access.at a ≡ Err halt.Stuck → ⊥
  range_stuck last low high a e = by (nat_le low a && (if last then nat_le a high else nat_lt a high)) e
    where
      by : (b : Bool) → (if b then Ok a else stops check.Bounds access.at) ≡ Err halt.Stuck → ⊥
      by true e = absurd (cc)
      by false e = absurd (cc)

  null_stops : v.number ≡ 0 → exact_element access v i ≡ stops check.Null access.at
  null_stops z = ap (λ (b : Bool). if b then stops check.Null access.at else at_address (as_address (elements_behind v.number access.size (exact access.index i))) access.at) (ap (λ n. n == 0) z)

  -- what a tested access to an element goes to, if that is not stuck
  tested_goes : (Q : Value → Type 0) (g : ℕ → Result Value Halt) (last : Bool) → ((v.number ≡ 0) ⊎ ((low : ℕ) × (high : ℕ) × (v.range ≡ Within low high)))
      → ((a : ℕ) → (v.number ≡ 0 → ⊥) → given (exact_element access v i) (in_range last v.range access.at) ≡ Ok a → IsNotStuck Q (g a))
      → IsNotStuck Q (given (given (exact_element access v i) (in_range last v.range access.at)) g)
  tested_goes Q g last (inl z) next =
      subst (λ (x : Result ℕ Halt). IsNotStuck Q (given (given x (in_range last v.range access.at)) g)) (sym (null_stops z)) tt
  tested_goes Q g last (inr (low, high, range)) next = by (exact_element access v i) refl
    where
      by_range : (a : ℕ) → exact_element access v i ≡ Ok a → (q : Result ℕ Halt) → in_range last v.range access.at a ≡ q → IsNotStuck Q (given q g)
      by_range a there (Ok b) e = next b not_null (ap (λ x. given x (in_range last v.range access.at)) there ∙ e)
        where
          not_null : v.number ≡ 0 → ⊥
          not_null z = let stop = null_stops z in absurd (cc)
      by_range a there (Err (halt.Stopped why at)) e = tt
      by_range a there (Err halt.Stuck) e = range_stuck last low high a (ap (λ r. in_range last r access.at a) (sym range) ∙ e)

      by : (x : Result ℕ Halt) → exact_element access v i ≡ x → IsNotStuck Q (given (given x (in_range last v.range access.at)) g)
      by (Ok a) e = by_range a e (in_range last v.range access.at a) refl
      by (Err (halt.Stopped why at)) e = tt
      by (Err halt.Stuck) e = exact_stuck e

  -- what an access to an exact element goes to
  pub exact_goes : (Q : Value → Type 0) (g : ℕ → Result Value Halt) → ((a : ℕ) → (v.number ≡ 0 → ⊥) → exact_element access v i ≡ Ok a → IsNotStuck Q (g a))
      → IsNotStuck Q (given (exact_element access v i) g)
  exact_goes Q g next = by (exact_element access v i) refl
    where
      by : (x : Result ℕ Halt) → exact_element access v i ≡ x → IsNotStuck Q (given x g)
      by (Ok a) e = next a (λ z. let stop = null_stops z in absurd (cc)) e
      by (Err (halt.Stopped why at)) e = tt
      by (Err halt.Stuck) e = exact_stuck e

  pub element_goes : (Q : Value → Type 0) (g : ℕ → Result Value Halt) (to : Pointee) → IsTested access.through to → ((v.number ≡ 0) ⊎ ((low : ℕ) × (high : ℕ) × (v.range ≡ Within low high)))
      → ((a : ℕ) → (v.number ≡ 0 → ⊥) → element access v i ≡ Ok a → IsNotStuck Q (g a)) → IsNotStuck Q (given (element access v i) g)
  element_goes Q g to tested ranged next = by tested.tested
    where
      by : (access.through ≡ through.Array) ⊎ ((access.through ≡ through.Terminated) × (to.terminated ≡ true)) → IsNotStuck Q (given (element access v i) g)
      by (inl t) =
          let is : element access v i ≡ given (exact_element access v i) (in_range false v.range access.at) = ap (λ x. element_through x access v i) t in
          subst (λ (x : Result ℕ Halt). IsNotStuck Q (given x g)) (sym is) (tested_goes Q g false ranged (λ a some e. next a some (is ∙ e)))
      by (inr (t, k)) =
          let is : element access v i ≡ given (exact_element access v i) (in_range true v.range access.at) = ap (λ x. element_through x access v i) t in
          subst (λ (x : Result ℕ Halt). IsNotStuck Q (given x g)) (sym is) (tested_goes Q g true ranged (λ a some e. next a some (is ∙ e)))

  -- the element that it goes to is one that the range reaches
  pub reached_by : (to : Pointee) (low high a : ℕ) → IsTested access.through to → access.size ≡ to.size → v.range ≡ Within low high → element access v i ≡ Ok a → IsReached to v.number low high a
  reached_by to low high a tested size range e = by tested.tested
    where
      by : (access.through ≡ through.Array) ⊎ ((access.through ≡ through.Terminated) × (to.terminated ≡ true)) → IsReached to v.number low high a
      by (inl t) = array_reached to access v i low high a range size t e
      by (inr (t, k)) = terminated_reached to access v i low high a range size t k e

module _ (access : Access) (v : Value) (i a : ℕ) where
  address_is : (z : ℤ) → at_address (as_address z) access.at ≡ Ok a → z ≡ pos a
  address_is (pos n) e = by (nat_lt n (2 ^ 32)) e
    where
      by : (b : Bool) → at_address (if b then Some n else None) access.at ≡ Ok a → pos n ≡ pos a
      by true e = let same : n ≡ a = cc in ap pos same
      by false e = absurd (cc)
  address_is (negsuc n) e = absurd (cc)

  pub exact_is : exact_element access v i ≡ Ok a → elements_behind v.number access.size (exact access.index i) ≡ pos a
  exact_is e = by (v.number == 0) e
    where
      by : (b : Bool) → (if b then stops check.Null access.at else at_address (as_address (elements_behind v.number access.size (exact access.index i))) access.at) ≡ Ok a
          → elements_behind v.number access.size (exact access.index i) ≡ pos a
      by true e = absurd (cc)
      by false e = address_is (elements_behind v.number access.size (exact access.index i)) e

  range_is : (last : Bool) (r : ranges.Range) (c : ℕ) → in_range last r access.at c ≡ Ok a → c ≡ a
  range_is last (Within low high) c e = by (nat_le low c && (if last then nat_le c high else nat_lt c high)) e
    where
      by : (b : Bool) → (if b then Ok c else stops check.Bounds access.at) ≡ Ok a → c ≡ a
      by true e = cc
      by false e = absurd (cc)
  range_is last Without c e = absurd (cc)

  both_is : (last : Bool) (x : Result ℕ Halt) → given x (in_range last v.range access.at) ≡ Ok a → x ≡ Ok a
  both_is last (Ok c) e = ap Ok (range_is last v.range c e)
  both_is last (Err why) e = absurd (cc)

  -- the address that a tested access goes to is exact
  pub element_is : (to : Pointee) → IsTested access.through to → element access v i ≡ Ok a → pos a ≡ elements_behind v.number access.size (exact access.index i)
  element_is to tested e = by tested.tested
    where
      by : (access.through ≡ through.Array) ⊎ ((access.through ≡ through.Terminated) × (to.terminated ≡ true)) → pos a ≡ elements_behind v.number access.size (exact access.index i)
      by (inl t) = sym (exact_is (both_is false (exact_element access v i) (sym (ap (λ x. element_through x access v i) t) ∙ e)))
      by (inr (t, k)) = sym (exact_is (both_is true (exact_element access v i) (sym (ap (λ x. element_through x access v i) t) ∙ e)))

-- a checked pointer that is no `_Ptr` is tested
tested_in : (f : CType-F CType) (element : CType) (size : ℕ) → is_counted_kind (kind_in f) ≡ true
    → IsTested (through_kind (kind_in f)) (record { element = element; size = size; terminated = is_terminated_kind (kind_in f) })
tested_in (CType-F.Pointer k t) element size e = by k e
  where
    by : (k : Kind) → is_counted_kind (Some k) ≡ true → IsTested (through_kind (Some k)) (record { element = element; size = size; terminated = is_terminated_kind (Some k) })
    by kind.Raw e = absurd (cc)
    by kind.One e = absurd (cc)
    by kind.Arr e = record { tested = inl refl }
    by kind.Nt e = record { tested = inr (refl, refl) }
tested_in CType-F.Int element size e = absurd (cc)
tested_in CType-F.Unsigned element size e = absurd (cc)
tested_in CType-F.Char element size e = absurd (cc)
tested_in CType-F.Void element size e = absurd (cc)
tested_in (CType-F.Struct tag) element size e = absurd (cc)

pub tested_pointer : (structs : Structs) (t : CType) → is_counted_kind (kind_of t) ≡ true → IsTested (through_kind (kind_of t)) (pointee_of structs t)
tested_pointer structs t e = tested_in (out-CType t) (element_of t) (size_behind structs t) e

-- ---- a load

module _ (s : Setting) (store : Store) (next : ℕ) (sound : AreSound s.text store.blocks next) (own : HaveOwnNames s.text.layout) (shapes : store.shapes ≡ shapes_elaborated s.text.layout) where
  -- the integer or the pointer at an element that is reached, or at a member of it
  pub part_loads : (Q : Value → Type 0) (t : CType) (n low high a offset : ℕ) (u : CType) → IsPart s.text.layout (element_of t) offset (width_of u)
      → is_true store.shapes store.blocks (pointee_of s.text.layout t) n low high ≡ true → IsReached (pointee_of s.text.layout t) n low high a
      → ((m : ℕ) → loaded (width_of u) (a + offset) store.blocks ≡ Some m → IsWordOf u m → Q (record { number = m; range = Without }))
      → IsNotStuck Q (loads store (width_of u) (place_in a offset))
  part_loads Q t n low high a offset u part true_there reached out =
      subst (λ x. IsNotStuck Q (loads store width x)) (sym (place_is a offset width (cell_address s.text store.blocks sound.memory.placed (a + offset) width (a == high) cell).1)) (by (loaded width (a + offset) store.blocks) refl)
    where
      width : Width
      width = width_of u

      cell : IsCell s.text.layout store.blocks (a + offset) width (a == high)
      cell = true_cell s.text (shapes_elaborated s.text.layout) store.blocks (pointee_of s.text.layout t) n low high a offset width sound.memory.placed (are_members s.text.layout own) refl
          (subst (λ sh. is_true sh store.blocks (pointee_of s.text.layout t) n low high ≡ true) shapes true_there) reached part

      there : (m : ℕ) × (loaded width (a + offset) store.blocks ≡ Some m)
      there = load_goes width (a + offset) store.blocks (cell_there s.text store.blocks sound.memory.placed (a + offset) width (a == high) cell)

      by : (o : Option ℕ) → loaded width (a + offset) store.blocks ≡ o → IsNotStuck Q (given_some o plain)
      by (Some m) e = out m e (word_loaded u m (loaded_in width (a + offset) store.blocks sound.bytes m e))
      by None e = let got : loaded width (a + offset) store.blocks ≡ Some there.0 = there.1 in absurd (cc)
