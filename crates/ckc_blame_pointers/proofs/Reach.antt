-- Which element the place of an expression is in, and what is read there.
use Rattle.std.proofs.Common.{◌≡◌, inr, refl, sym, ap, subst, ◌∙◌, ℕ, ◌+◌, true, List, arith}
use Rattle.std.specs.Prelude.{Option, None, Some, Result, Ok, Err}
use Rattle.ckc_types.specs.declared.types.CType.{CType}
use Rattle.ckc_types.specs.declared.types.Structs.{Structs}
use Rattle.ckc_syntax.specs.declared.tree.Name.{Name}
use Rattle.ckc_typed.specs.Constants.{size_of}
use Rattle.ckc_typed.specs.Layouts.{member_number}
use Rattle.ckc_source.specs.declared.expr.Access.{Access}
use Rattle.ckc_source.specs.declared.expr.Count.{Count}
use Rattle.ckc_source.specs.declared.expr.Through.{Through}
use Rattle.ckc_source.specs.declared.expr.Through.TheVariants as through
use Rattle.ckc_source.specs.declared.outcome.Halt.{Halt}
use Rattle.ckc_source.specs.declared.outcome.Halt.TheVariants as halt
use Rattle.ckc_source.specs.declared.outcome.Value.{Value}
use Rattle.ckc_source.specs.declared.outcome.Range.TheVariants.{Without}
use Rattle.ckc_source.specs.Blocks.{Block, loaded}
use Rattle.ckc_source.specs.Eval.{Store, given, given_both, given_some, plain, spanned, element, element_through, place_in, loads, loads_pointer, accessed, evaluated}
use Rattle.ckc_build_values.specs.Kinds.{width_of, pointee_of}
use Rattle.ckc_build_values.specs.Members.{offset_of}
use Rattle.ckc_build_values.specs.Places.{Place, member_place, read_at, address_at}
use Rattle.ckc_typed.specs.declared.typed.Typed.{Typed}
use Rattle.ckc_blame_sound.specs.Values.{IsWordOf}
use Rattle.ckc_blame_sound.specs.Cells.{IsPart, IsCell, AreSound}
use Rattle.ckc_blame_sound.proofs.Apart.{cell_there, cell_address}
use Rattle.ckc_blame_sound.proofs.Reached.{place_is}
use Rattle.ckc_blame_sound.proofs.Stores.{load_goes}
use Rattle.ckc_blame_pointers.specs.Meant.{IsNotStuck}
use Rattle.ckc_blame_pointers.proofs.Loads.{loaded_in, word_loaded}
use Rattle.ckc_blame_pointers.proofs.Structures.{IsWholeElement, IsStructureAt}

-- ---- addresses

-- An access goes to an address of which this holds, or stops at a named check. It is not stuck.
abbrev pub ComesTo : (ℕ → Type 0) → Result ℕ Halt → Type 0
ComesTo P (Ok a) = P a
ComesTo P (Err (halt.Stopped why at)) = Unit {0}
ComesTo P (Err halt.Stuck) = ⊥

pub comes_on : (P : ℕ → Type 0) (Q : Value → Type 0) (x : Result ℕ Halt) (go : ℕ → Result Value Halt) → ComesTo P x → ((a : ℕ) → P a → IsNotStuck Q (go a)) → IsNotStuck Q (given x go)
comes_on P Q (Ok a) go h next = next a h
comes_on P Q (Err (halt.Stopped why at)) go h next = tt
comes_on P Q (Err halt.Stuck) go h next = h

-- an address as a value
pub comes_by : (P : ℕ → Type 0) (x : Result ℕ Halt) → IsNotStuck (λ v. P v.number) (given x plain) → ComesTo P x
comes_by P (Ok a) h = h
comes_by P (Err (halt.Stopped why at)) h = tt
comes_by P (Err halt.Stuck) h = h

pub comes_both : (P Q : Value → Type 0) (R : ℕ → Type 0) (x y : Result Value Halt) (f : Value → Value → Result ℕ Halt) → IsNotStuck P x → IsNotStuck Q y → ((v w : Value) → P v → Q w → ComesTo R (f v w))
    → ComesTo R (given_both x y f)
comes_both P Q R (Ok v) (Ok w) f h k next = next v w h k
comes_both P Q R (Ok v) (Err (halt.Stopped why at)) f h k next = tt
comes_both P Q R (Ok v) (Err halt.Stuck) f h k next = k
comes_both P Q R (Err (halt.Stopped why at)) y f h k next = tt
comes_both P Q R (Err halt.Stuck) y f h k next = h

-- ---- what an element holds

-- an integer or a pointer that is an element or a member of it
pub element_loads : (p : Typed) (blocks : List Block) (next : ℕ) → AreSound p blocks next → (Q : Value → Type 0) (u t : CType) (offset : ℕ) → IsPart p.layout u offset (width_of t) → (a : ℕ) → IsWholeElement blocks u a
    → ((m : ℕ) → IsWordOf t m → Q (record { number = m; range = Without })) → IsNotStuck Q (given_some (loaded (width_of t) (place_in a offset) blocks) plain)
element_loads p blocks next sound Q u t offset part a w out =
    subst (λ x. IsNotStuck Q (given_some (loaded (width_of t) x blocks) plain))
    (sym (place_is a offset (width_of t) (cell_address p blocks sound.memory.placed (a + offset) (width_of t) true cell).1)) (by (loaded (width_of t) (a + offset) blocks) refl)
  where
    cell : IsCell p.layout blocks (a + offset) (width_of t) true
    cell = record {
      number = w.number;
      block = w.block;
      there = w.there;
      index = w.index;
      below = w.below;
      offset = offset;
      part = subst (λ u. IsPart p.layout u offset (width_of t)) (sym w.element) part;
      address = ap (λ a. a + offset) w.address;
      ends = λ e. inr refl;
    }

    there : (m : ℕ) × (loaded (width_of t) (a + offset) blocks ≡ Some m)
    there = load_goes (width_of t) (a + offset) blocks (cell_there p blocks sound.memory.placed (a + offset) (width_of t) true cell)

    by : (o : Option ℕ) → loaded (width_of t) (a + offset) blocks ≡ o → IsNotStuck Q (given_some o plain)
    by (Some m) e = out m (word_loaded t m (loaded_in (width_of t) (a + offset) blocks sound.bytes m e))
    by None e = let got : loaded (width_of t) (a + offset) blocks ≡ Some there.0 = there.1 in absurd (cc)

-- ---- elements

-- the element that a place is in
abbrev pub element_at : Store → Place → Result ℕ Halt
element_at store q = given_both (evaluated store q.pointer) (evaluated store q.index) (λ v k. element q.access v k.number)

-- How far on an access is in its element says nothing of which element it is.
pub element_same : (access : Access) (offset : ℕ) (p : Value) (i : ℕ) → element (record access { offset = offset }) p i ≡ element access p i
element_same access offset p i = by access.through
  where
    by : (t : Through) → element_through t (record access { offset = offset }) p i ≡ element_through t access p i
    by through.Named = refl
    by through.Raw = refl
    by through.One = refl
    by through.Array = refl
    by through.Terminated = refl

accessed_is : (access : Access) (offset : ℕ) (x y : Result Value Halt) (go : ℕ → Result Value Halt)
    → accessed (record access { offset = offset }) x y go ≡ given (given_both x y (λ v k. element access v k.number)) go
accessed_is access offset (Ok v) (Ok k) go = ap (λ (r : Result ℕ Halt). given r go) (element_same access offset v k.number)
accessed_is access offset (Ok v) (Err h) go = refl
accessed_is access offset (Err h) y go = refl

-- A structure of a type is an element of a block, and a place is at its begin, unless that stops.
pub record IsStructurePlace (store : Store) (u : CType) (q : Place) : Type 0 where
  pub begins : q.access.offset ≡ 0
  pub there : ComesTo (IsStructureAt store.blocks u) (element_at store q)

-- what is read so many bytes after the begin of an element
abbrev pub got : Store → Structs → CType → ℕ → Option Count → ℕ → Result Value Halt
got store structs t offset (Some n) a = loads_pointer store (pointee_of structs t) n a (place_in a offset)
got store structs t offset None a = loads store (width_of t) (place_in a offset)

-- what is read at a place
pub place_reads : (store : Store) (structs : Structs) (t : CType) (q : Place) (o : Option Count) → evaluated store (read_at structs t o q) ≡ given (element_at store q) (got store structs t q.access.offset o)
place_reads store structs t q (Some m) =
    accessed_is q.access q.access.offset (evaluated store q.pointer) (evaluated store q.index) (λ a. loads_pointer store (pointee_of structs t) m a (place_in a q.access.offset))
place_reads store structs t q None = accessed_is q.access q.access.offset (evaluated store q.pointer) (evaluated store q.index) (λ a. loads store (width_of t) (place_in a q.access.offset))

module _ (store : Store) (structs : Structs) (u : CType) (q : Place) (place : IsStructurePlace store u q) (tag : ℕ) (n : Name) where
  abbrev offset_there : ℕ
  offset_there = offset_of structs tag (member_number n)

  moved : q.access.offset + offset_there ≡ offset_there
  moved = ap (λ o. o + offset_there) place.begins ∙ none offset_there
    where
      none : (o : ℕ) → 0 + o ≡ o
      none o = omega arith

  -- A member that is read is read in an element.
  pub member_reads : (Q : Value → Type 0) (t : CType) (o : Option Count) → ((a : ℕ) → IsWholeElement store.blocks u a → IsNotStuck Q (got store structs t offset_there o a))
      → IsNotStuck Q (evaluated store (read_at structs t o (member_place structs tag n q)))
  member_reads Q t o next = subst (IsNotStuck Q) (sym (is o)) (comes_on (IsStructureAt store.blocks u) Q (element_at store q) (got store structs t offset_there o) place.there (λ a w. next a w.0))
    where
      is : (o : Option Count) → evaluated store (read_at structs t o (member_place structs tag n q)) ≡ given (element_at store q) (got store structs t offset_there o)
      is (Some m) =
          accessed_is q.access (q.access.offset + offset_there) (evaluated store q.pointer) (evaluated store q.index) (λ a. loads_pointer store (pointee_of structs t) m a (place_in a (q.access.offset + offset_there)))
          ∙ ap (λ d. given (element_at store q) (λ a. loads_pointer store (pointee_of structs t) m a (place_in a d))) moved
      is None =
          accessed_is q.access (q.access.offset + offset_there) (evaluated store q.pointer) (evaluated store q.index) (λ a. loads store (width_of t) (place_in a (q.access.offset + offset_there)))
          ∙ ap (λ d. given (element_at store q) (λ a. loads store (width_of t) (place_in a d))) moved

  -- And the address of one is in an element.
  pub member_address : (Q : Value → Type 0) (t : CType) → ((a : ℕ) → IsStructureAt store.blocks u a → IsNotStuck Q (spanned (place_in a offset_there) (size_of structs t)))
      → IsNotStuck Q (evaluated store (address_at structs t (member_place structs tag n q)))
  member_address Q t next = subst (IsNotStuck Q) (sym is) (comes_on (IsStructureAt store.blocks u) Q (element_at store q) (λ a. spanned (place_in a offset_there) (size_of structs t)) place.there next)
    where
      is : evaluated store (address_at structs t (member_place structs tag n q)) ≡ given (element_at store q) (λ a. spanned (place_in a offset_there) (size_of structs t))
      is =
          accessed_is q.access (q.access.offset + offset_there) (evaluated store q.pointer) (evaluated store q.index) (λ a. spanned (place_in a (q.access.offset + offset_there)) (size_of structs t))
          ∙ ap (λ d. given (element_at store q) (λ a. spanned (place_in a d) (size_of structs t))) moved
