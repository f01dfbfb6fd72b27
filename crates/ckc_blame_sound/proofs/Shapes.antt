-- The slots of a structure, and the members that their bounds name.
use Rattle.std.proofs.Common.{◌≡◌, ◌≢◌, ℕ, ◌==◌, refl, sym, ◌∙◌, ap, subst, List, [], ◌∷◌, ◌++◌, append_assoc, ℤ}
use Rattle.std.specs.Prelude.{Bool, true, false, pos, ◌&&◌, ◌||◌, if◌then◌else◌, find, Option, None, Some}
use Rattle.std.specs.List.{All, Contains, flat_map, list_any}
use Rattle.std.proofs.lemmas.Bool.{and_parts, eq-eqb, eqb-true, ne_eqb}
use Rattle.std.proofs.lemmas.List.Elements.{All-nil, All-cons, All-append, All-contains, All-weaker, All-head, All-tail, Contains-append_left, Contains-append_right, All-contains_itself}
use Rattle.ckc_base.specs.declared.arithmetic.Width.TheVariants.{Byte, Word}
use Rattle.ckc_types.specs.declared.types.CType.{CType, CType-F, out-CType}
use Rattle.ckc_types.specs.declared.types.Kind.{Kind}
use Rattle.ckc_types.specs.declared.types.Kind.TheVariants as kind
use Rattle.ckc_types.specs.declared.types.MemberBounds.{MemberBounds}
use Rattle.ckc_types.specs.declared.types.MemberBounds.TheVariants as written
use Rattle.ckc_types.specs.declared.types.MemberShape.{MemberShape}
use Rattle.ckc_types.specs.declared.types.Structs.{Structs}
use Rattle.ckc_types.specs.Layout.{members_of}
use Rattle.ckc_types.specs.Places.{Stands}
use Rattle.ckc_linear.specs.declared.forms.Base.TheVariants as base
use Rattle.ckc_linear.specs.declared.forms.Form.{Form}
use Rattle.ckc_syntax.specs.declared.tree.Name.TheVariants as name
use Rattle.ckc_typed.specs.Types.{kind_of, is_integer, is_char_form}
use Rattle.ckc_bounds.specs.ckc_bounds_points.specs.declared.frame.Bounds.{Bounds}
use Rattle.ckc_bounds.specs.ckc_bounds_points.specs.declared.frame.Bounds.TheVariants as bounds
use Rattle.ckc_bounds.specs.ckc_bounds_points.specs.Forms.{base_form}
use Rattle.ckc_bounds.specs.ckc_bounds_declared.specs.Written.{bounds_of_kind, is_integer_member}
use Rattle.ckc_bounds.specs.ckc_bounds_stores.specs.Targets.{member_variable, bounds_by_member}
use Rattle.ckc_source.specs.declared.expr.Count.{Count}
use Rattle.ckc_source.specs.Words as words
use Rattle.ckc_build_values.specs.Kinds.{integer_of, integer_in, width_of, count_of_kind, pointee_of}
use Rattle.ckc_build_values.specs.Members.{count_by, offset_of, member_named}
use Rattle.ckc_blame_sound.specs.Slots.{Slot, slot_by, slot_of_member}
use Rattle.ckc_blame_sound.specs.Cells.{HaveOwnNames}
use Rattle.ckc_blame_sound.specs.Memory.{AreOwn}

-- ---- members by name

-- what is so of some element is so of one that stands in the list
any_stands : {X : Type 0} (p : X → Bool) (xs : List X) → list_any p xs ≡ true → (front : List X) × (x : X) × (back : List X) × (xs ≡ front ++ x ∷ back) × (p x ≡ true)
any_stands p [] e = absurd cc
any_stands {X} p (x ∷ xs) e = by (p x) refl e (any_stands p xs)
  where
    by : (b : Bool) → p x ≡ b → (b || list_any p xs) ≡ true
        → (list_any p xs ≡ true → (front : List X) × (y : X) × (back : List X) × (xs ≡ front ++ y ∷ back) × (p y ≡ true))
        → (front : List X) × (y : X) × (back : List X) × (x ∷ xs ≡ front ++ y ∷ back) × (p y ≡ true)
    by true is e rest = ([], x, xs, refl, is)
    by false is e rest = let r = rest e in (x ∷ r.0, r.1, r.2, ap (λ ys. x ∷ ys) r.3, r.4)

-- an element has others in front of it, and others after it
pub contained_stands : {X : Type 0} (xs : List X) (x : X) → Contains xs x → (front : List X) × (back : List X) × (xs ≡ front ++ x ∷ back)
contained_stands {X} xs x c = All-contains (λ y. (front : List X) × (back : List X) × (xs ≡ front ++ y ∷ back)) xs x (standing [] xs) c
  where
    standing : (before ys : List X) → All (λ y. (front : List X) × (back : List X) × (before ++ ys ≡ front ++ y ∷ back)) ys
    standing before [] = All-nil (λ y. (front : List X) × (back : List X) × (before ++ [] ≡ front ++ y ∷ back))
    standing before (y ∷ ys) =
        All-cons (λ z. (front : List X) × (back : List X) × (before ++ y ∷ ys ≡ front ++ z ∷ back)) y ys (before, ys, refl)
        (subst (λ zs. All (λ z. (front : List X) × (back : List X) × (zs ≡ front ++ z ∷ back)) ys) (append_assoc before (y ∷ []) ys) (standing (before ++ y ∷ []) ys))

find_first : {X : Type 0} (p : X → Bool) (front : List X) (x : X) (back : List X) → All (λ y. p y ≡ false) front → p x ≡ true → find p (front ++ x ∷ back) ≡ Some x
find_first p [] x back new e = ap (λ b. if b then Some x else find p back) e
find_first p (y ∷ front) x back new e =
    ap (λ b. if b then Some y else find p (front ++ x ∷ back)) (All-head (λ y. p y ≡ false) y front new)
    ∙ find_first p front x back (All-tail (λ y. p y ≡ false) y front new) e

-- a member with a name, and those around it
pub record HasMember (structs : Structs) (tag j : ℕ) : Type 0 where
  pub shape : MemberShape
  pub front : List MemberShape
  pub stands : Stands structs tag front shape
  pub named : shape.name ≡ j

module _ (structs : Structs) (tag : ℕ) (front : List MemberShape) (m : MemberShape) (s : Stands structs tag front m) (j : ℕ) (e : m.name ≡ j) where
  pub found_shape : find (λ n. n.name == j) (members_of structs tag) ≡ Some m
  found_shape =
      ap (find (λ n. n.name == j)) s.split
      ∙ find_first (λ n. n.name == j) front m s.back
      (All-weaker (λ n. n.name ≢ m.name) (λ n. (n.name == j) ≡ false) (λ n new. ne_eqb n.name j (λ same. new (same ∙ sym e))) front s.new) (eq-eqb m.name j e)

  pub found_member : member_named structs tag (name.Member j) ≡ Some m
  found_member =
      ap (find (λ n. j == n.name)) s.split
      ∙ find_first (λ n. j == n.name) front m s.back
      (All-weaker (λ n. n.name ≢ m.name) (λ n. (j == n.name) ≡ false) (λ n new. ne_eqb j n.name (λ same. new (sym same ∙ sym e))) front s.new) (eq-eqb j m.name (sym e))

module _ (structs : Structs) (own : HaveOwnNames structs) (tag : ℕ) where
  abbrev pub member_there : (shape : MemberShape) → Contains (members_of structs tag) shape → HasMember structs tag shape.name
  member_there shape c =
      let h = contained_stands (members_of structs tag) shape c in
      record { shape = shape; front = h.0; stands = record { back = h.1; split = h.2; new = own tag h.0 h.1 shape h.2 }; named = refl }

  pub named_there : (j : ℕ) → is_integer_member structs tag j ≡ true → HasMember structs tag j
  named_there j e =
      let h = any_stands (λ s. (s.name == j) && is_integer s.ctype) (members_of structs tag) e in
      record {
        shape = h.1;
        front = h.0;
        stands = record { back = h.2; split = h.3; new = own tag h.0 h.2 h.1 h.3 };
        named = eqb-true h.1.name j (and_parts (h.1.name == j) (is_integer h.1.ctype) h.4).0;
      }

  -- members with one name are one
  pub same_member : (front front2 : List MemberShape) (m n : MemberShape) → Stands structs tag front m → Stands structs tag front2 n → m.name ≡ n.name → m ≡ n
  same_member front front2 m n s t e =
      let same : Some m ≡ Some n = sym (found_shape structs tag front m s n.name e) ∙ found_shape structs tag front2 n t n.name refl in
      cc

-- ---- slots

-- a slot is a member of which it is known how many elements it points to
pub record IsSlotOf (structs : Structs) (tag : ℕ) (ms : List MemberShape) (slot : Slot) : Type 0 where
  pub shape : MemberShape
  pub there : Contains ms shape
  pub many : Count
  pub counts : count_by structs tag shape.ctype shape.bounds ≡ Some many
  pub is : slot ≡ record { offset = offset_of structs tag shape.name; to = pointee_of structs shape.ctype; count = many }

module _ (structs : Structs) (tag : ℕ) where
  member_slot : (m : MemberShape) (ms : List MemberShape) → All (IsSlotOf structs tag (m ∷ ms)) (slot_of_member structs tag m)
  member_slot m ms = by (count_by structs tag m.ctype m.bounds) refl
    where
      by : (o : Option Count) → count_by structs tag m.ctype m.bounds ≡ o → All (IsSlotOf structs tag (m ∷ ms)) (slot_by structs (offset_of structs tag m.name) m.ctype o)
      by None e = All-nil (IsSlotOf structs tag (m ∷ ms))
      by (Some n) e =
          All-cons (IsSlotOf structs tag (m ∷ ms)) (record { offset = offset_of structs tag m.name; to = pointee_of structs m.ctype; count = n }) []
          (record { shape = m; there = Contains-append_left (m ∷ []) ms m (All-head (Contains (m ∷ [])) m [] (All-contains_itself (m ∷ []))); many = n; counts = e; is = refl })
          (All-nil (IsSlotOf structs tag (m ∷ ms)))

  more_slots : (m : MemberShape) (ms : List MemberShape) (slot : Slot) → IsSlotOf structs tag ms slot → IsSlotOf structs tag (m ∷ ms) slot
  more_slots m ms slot h = record { shape = h.shape; there = Contains-append_right (m ∷ []) ms h.shape h.there; many = h.many; counts = h.counts; is = h.is }

  pub member_slots : (ms : List MemberShape) → All (IsSlotOf structs tag ms) (flat_map (slot_of_member structs tag) ms)
  member_slots [] = All-nil (IsSlotOf structs tag [])
  member_slots (m ∷ ms) =
      All-append (IsSlotOf structs tag (m ∷ ms)) (slot_of_member structs tag m) (flat_map (slot_of_member structs tag) ms) (member_slot m ms)
      (All-weaker (IsSlotOf structs tag ms) (IsSlotOf structs tag (m ∷ ms)) (more_slots m ms) (flat_map (slot_of_member structs tag) ms) (member_slots ms))

-- ---- bounds

-- the bounds of a member of which it is known how many elements it points to
pub record HasOwnBounds (b : Bounds) : Type 0 where
  pub low : Form
  pub high : Form
  pub known : b ≡ bounds.Known low high
  pub own : AreOwn low high

own_bounds : (x : ℕ) (c : ℤ) → HasOwnBounds (bounds.Known (base_form (base.Value 0)) (record { base = Some (base.Value 0); var = x; add = c }))
own_bounds x c = record {
  low = base_form (base.Value 0);
  high = record { base = Some (base.Value 0); var = x; add = c };
  known = refl;
  own = record { begins = refl; ends = refl };
}

kind_bounds : (k : Option Kind) (n : Count) → count_of_kind k ≡ Some n → HasOwnBounds (bounds_of_kind (base.Value 0) k)
kind_bounds (Some kind.One) n e = own_bounds 0 (pos 1)
kind_bounds (Some kind.Nt) n e = own_bounds 0 (pos 0)
kind_bounds (Some kind.Arr) n e = absurd cc
kind_bounds (Some kind.Raw) n e = absurd cc
kind_bounds None n e = absurd cc

pub counted_bounds : (structs : Structs) (tag : ℕ) (t : CType) (b : MemberBounds) (n : Count) → count_by structs tag t b ≡ Some n → HasOwnBounds (bounds_by_member t b)
counted_bounds structs tag t written.Nothing n e = kind_bounds (kind_of t) n e
counted_bounds structs tag t written.Unknown n e = absurd cc
counted_bounds structs tag t written.NoForm n e = absurd cc
counted_bounds structs tag t (written.Fixed c) n e = own_bounds 0 c
counted_bounds structs tag t (written.Named k c) n e = own_bounds (member_variable k) c

-- ---- widths

-- an integer that is read has the width of its type
pub integer_width : (t : CType) → words.width_of (integer_of t) ≡ width_of t
integer_width t = by (out-CType t)
  where
    by : (f : CType-F CType) → words.width_of (integer_in f) ≡ (if is_char_form f then Byte else Word)
    by CType-F.Int = refl
    by CType-F.Unsigned = refl
    by CType-F.Char = refl
    by CType-F.Void = refl
    by (CType-F.Struct tag) = refl
    by (CType-F.Pointer k u) = refl
