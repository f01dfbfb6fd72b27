-- The member that the count of a slot names is one of the structure.
use Rattle.std.proofs.Common.{◌≡◌, sym, ap, subst, refl, ℕ, ℤ, List, [], ◌∷◌, ◌++◌, rules}
use Rattle.std.specs.Prelude.{if◌then◌else◌, Option, Some, None, IsSome}
use Rattle.std.specs.List.{All, Contains, flat_map}
use Rattle.std.specs.Option.{option_map}
use Rattle.std.proofs.lemmas.List.Elements.{All-nil, All-cons, All-head, All-tail, All-contains, All-contains_itself}
use Rattle.ckc_base.specs.declared.arithmetic.Width.TheVariants.{Byte, Word}
use Rattle.ckc_types.specs.declared.types.CType.{CType, CType-F, out-CType, the_lemmas}
use Rattle.ckc_types.specs.declared.types.CType.TheVariants as ctype
use Rattle.ckc_types.specs.declared.types.Kind.{Kind}
use Rattle.ckc_types.specs.declared.types.Kind.TheVariants as kind
use Rattle.ckc_types.specs.declared.types.MemberBounds.{MemberBounds}
use Rattle.ckc_types.specs.declared.types.MemberBounds.TheVariants as bounds
use Rattle.ckc_types.specs.declared.types.MemberShape.{MemberShape}
use Rattle.ckc_types.specs.declared.types.Structs.{Structs}
use Rattle.ckc_types.specs.Layout.{members_of}
use Rattle.ckc_syntax.specs.declared.tree.Name.{Name}
use Rattle.ckc_syntax.specs.declared.tree.Name.TheVariants as name
use Rattle.ckc_typed.specs.declared.environment.Amount.{Amount}
use Rattle.ckc_typed.specs.declared.typed.Typed.{Typed}
use Rattle.ckc_typed.specs.Amounts.{amount_of_limits}
use Rattle.ckc_typed.specs.Trees.{NotedLimits}
use Rattle.ckc_typed.specs.Types.{kind_of, is_char_form}
use Rattle.ckc_source.specs.declared.expr.Count.{Count}
use Rattle.ckc_source.specs.declared.expr.Count.TheVariants as count
use Rattle.ckc_source.specs.Words as words
use Rattle.ckc_build_values.specs.Kinds.{width_of, integer_in, integer_of, count_of_kind, pointee_of, size_behind}
use Rattle.ckc_build_values.specs.Members.{offset_of, member_named, integer_in_member, count_by}
use Rattle.ckc_build_values.specs.Names.{fixed_by, fixed_count, count_declared, limits_declared, count_of_static}
use Rattle.ckc_blame_sound.specs.Slots.{Slot, slot_by, slot_of_member, slots_in, slots_of}
use Rattle.ckc_blame_sound.specs.Cells.{IsPartIn}
use Rattle.ckc_blame_sound.specs.Limited.{IsCountPart, AreSlotParts}
use Rattle.ckc_blame_sound.specs.JudgedTexts.{IsJudged}
use Rattle.ckc_blame_sound.proofs.Accesses.{member_part}
use Rattle.ckc_blame_sound.proofs.Slots.{slots_are_pointers}
use Rattle.ckc_blame_walk.specs.Ready.{NameMembers}

-- the member that a count names is a part of a type, by the form of the type
abbrev CountsIn : Structs → CType → CType-F CType → Count → Type 0
CountsIn structs t f (count.Fixed n) = Unit {0}
CountsIn structs t f (count.Member offset form add) = IsPartIn structs t f offset (words.width_of form)

as_part : (structs : Structs) (t : CType) (c : Count) → CountsIn structs t (out-CType t) c → IsCountPart structs t c
as_part structs t (count.Fixed n) h = tt
as_part structs t (count.Member offset form add) h = h

-- ---- counts that are numbers

module _ (Q : Count → Type 0) (fixed : (n : ℤ) → Q (count.Fixed n)) where
  given : (n : ℤ) (c : Count) → Some (count.Fixed n) ≡ Some c → Q c
  given n c e = let same : count.Fixed n ≡ c = cc in subst Q same (fixed n)

  kind_fixed : (o : Option Kind) (c : Count) → count_of_kind o ≡ Some c → Q c
  kind_fixed (Some kind.One) c e = given _ c e
  kind_fixed (Some kind.Nt) c e = given _ c e
  kind_fixed (Some kind.Raw) c e = absurd cc
  kind_fixed (Some kind.Arr) c e = absurd cc
  kind_fixed None c e = absurd cc

  name_fixed : (n : Option Name) (number : ℤ) (c : Count) → fixed_by n number ≡ Some c → Q c
  name_fixed None number c e = given number c e
  name_fixed (Some n) number c e = absurd cc

  amount_fixed : (a : Option Amount) (c : Count) → fixed_count a ≡ Some c → Q c
  amount_fixed (Some a) c e = name_fixed a.variable a.number c e
  amount_fixed None c e = absurd cc

  static_fixed : (structs : Structs) (t : CType) (l : Option NotedLimits) (c : Count) → count_declared structs t l ≡ Some c → Q c
  static_fixed structs t None c e = kind_fixed (kind_of t) c e
  static_fixed structs t (Some l) c e = amount_fixed (amount_of_limits structs (size_behind structs t) l) c e

-- ---- counts that name members

wide : (t : CType) → words.width_of (integer_of t) ≡ width_of t
wide t = by (out-CType t)
  where
    by : (f : CType-F CType) → words.width_of (integer_in f) ≡ (if is_char_form f then Byte else Word)
    by CType-F.Int = refl
    by CType-F.Unsigned = refl
    by CType-F.Char = refl
    by CType-F.Void = refl
    by (CType-F.Struct tag) = refl
    by (CType-F.Pointer k t) = refl

struct_form : (tag : ℕ) → out-CType (ctype.Struct tag) ≡ CType-F.Struct tag
struct_form tag = search (rules, the_lemmas)

module _ (structs : Structs) (tag : ℕ) (t : CType) where
  abbrev Counts : Count → Type 0
  Counts = CountsIn structs t (CType-F.Struct tag)

  named_part : (k : ℕ) (c : ℤ) (o : Option MemberShape) → member_named structs tag (name.Member k) ≡ o → IsSome o → Counts (count.Member (offset_of structs tag k) (integer_in_member o) c)
  named_part k c None e h = absurd cc
  named_part k c (Some m) e h =
      let part = member_part structs tag k m.ctype (ap (λ o. option_map (λ (x : MemberShape). x.ctype) o) e) in
      subst (λ w. IsPartIn structs t (CType-F.Struct tag) (offset_of structs tag k) w) (sym (wide m.ctype))
      (subst (λ f. IsPartIn structs (ctype.Struct tag) f (offset_of structs tag k) (width_of m.ctype)) (struct_form tag) part)

  -- what is asked of the bounds of a member
  abbrev NamesMember : MemberShape → Type 0
  NamesMember m = (k : ℕ) (c : ℤ) → m.bounds ≡ bounds.Named k c → IsSome (member_named structs tag (name.Member k))

  member_counts : (m : MemberShape) (c : Count) → NamesMember m → count_by structs tag m.ctype m.bounds ≡ Some c → Counts c
  member_counts m c names e = by m.bounds refl e
    where
      by : (b : MemberBounds) → m.bounds ≡ b → count_by structs tag m.ctype b ≡ Some c → Counts c
      by bounds.Nothing f g = kind_fixed Counts (λ n. tt) (kind_of m.ctype) c g
      by bounds.Unknown f g = absurd cc
      by (bounds.Fixed n) f g = given Counts (λ n. tt) n c g
      by (bounds.Named k n) f g =
          let same : count.Member (offset_of structs tag k) (integer_in_member (member_named structs tag (name.Member k))) n ≡ c = cc in
          subst Counts same (named_part k n (member_named structs tag (name.Member k)) refl (names k n f))
      by bounds.NoForm f g = absurd cc

  abbrev SlotCounts : Slot → Type 0
  SlotCounts slot = Counts slot.count

  members_count : (ms : List MemberShape) → All NamesMember ms → All SlotCounts (flat_map (slot_of_member structs tag) ms)
  members_count [] h = All-nil SlotCounts
  members_count (m ∷ ms) h = by (count_by structs tag m.ctype m.bounds) refl (members_count ms (All-tail NamesMember m ms h))
    where
      by : (o : Option Count) → count_by structs tag m.ctype m.bounds ≡ o → All SlotCounts (flat_map (slot_of_member structs tag) ms)
          → All SlotCounts (slot_by structs (offset_of structs tag m.name) m.ctype o ++ flat_map (slot_of_member structs tag) ms)
      by None e rest = rest
      by (Some c) e rest =
          All-cons SlotCounts (record { offset = offset_of structs tag m.name; to = pointee_of structs m.ctype; count = c }) (flat_map (slot_of_member structs tag) ms)
          (member_counts m c (All-head NamesMember m ms h) e) rest

-- ---- slots

all_of : {X : Type 0} (P Q : X → Type 0) (xs : List X) → ((x : X) → P x → Q x) → All P xs → All Q xs
all_of P Q [] f h = All-nil Q
all_of P Q (x ∷ xs) f h = All-cons Q x xs (f x (All-head P x xs h)) (all_of P Q xs f (All-tail P x xs h))

module _ (p : Typed) (names : NameMembers p.layout) (n : ℕ) (t : CType) where
  scalar_counts : (f : CType-F CType) → All (λ (slot : Slot). CountsIn p.layout t f slot.count) (slot_by p.layout 0 t (count_of_static p t (name.Static n)))
  scalar_counts f = by (count_of_static p t (name.Static n)) refl
    where
      by : (o : Option Count) → count_of_static p t (name.Static n) ≡ o → All (λ (slot : Slot). CountsIn p.layout t f slot.count) (slot_by p.layout 0 t o)
      by None e = All-nil (λ (slot : Slot). CountsIn p.layout t f slot.count)
      by (Some c) e =
          All-cons (λ (slot : Slot). CountsIn p.layout t f slot.count) (record { offset = 0; to = pointee_of p.layout t; count = c }) []
          (static_fixed (CountsIn p.layout t f) (λ n. tt) p.layout t (limits_declared p (name.Static n)) c e)
          (All-nil (λ (slot : Slot). CountsIn p.layout t f slot.count))

  form_counts : (f : CType-F CType) → All (λ (slot : Slot). CountsIn p.layout t f slot.count) (slots_in p n t f)
  form_counts (CType-F.Struct tag) =
      members_count p.layout tag t (members_of p.layout tag)
      (all_of (Contains (members_of p.layout tag)) (NamesMember p.layout tag t) (members_of p.layout tag) (λ m c k add e. names tag k add m c e)
      (All-contains_itself (members_of p.layout tag)))
  form_counts CType-F.Int = scalar_counts CType-F.Int
  form_counts CType-F.Unsigned = scalar_counts CType-F.Unsigned
  form_counts CType-F.Char = scalar_counts CType-F.Char
  form_counts CType-F.Void = scalar_counts CType-F.Void
  form_counts (CType-F.Pointer k u) = scalar_counts (CType-F.Pointer k u)

  slot_counts : (slot : Slot) → Contains (slots_of p n t) slot → IsCountPart p.layout t slot.count
  slot_counts slot c =
      as_part p.layout t slot.count
      (All-contains (λ (slot : Slot). CountsIn p.layout t (out-CType t) slot.count) (slots_of p n t) slot (form_counts (out-CType t)) c)

pub slot_parts : (p : Typed) → IsJudged p → NameMembers p.layout → AreSlotParts p
slot_parts p j names n t slot there c = record {
  pointer = slots_are_pointers p n t slot j there c;
  counted = slot_counts p names n t slot c;
}
