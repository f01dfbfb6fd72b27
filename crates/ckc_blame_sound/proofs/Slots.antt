-- Slots are pointers of the elements that they are in.
use Rattle.std.proofs.Common.{◌≡◌, ◌∙◌, sym, ap, subst, refl, ℕ, ◌+◌, List, [], ◌∷◌, ◌++◌, map, length, length-append, append_assoc}
use Rattle.std.specs.Prelude.{All, Bool, true, false, if◌then◌else◌, Option, Some, None, IfSome, find, slice_get, is_some}
use Rattle.std.specs.List.{Contains, flat_map}
use Rattle.std.specs.Option.{option_map}
use Rattle.std.proofs.lemmas.List.{map-append}
use Rattle.std.proofs.lemmas.List.Elements.{All-nil, All-cons, All-head, All-tail, All-contains}
use Rattle.std.proofs.lemmas.Option.{slice_get-map}
use Rattle.std.proofs.lemmas.Bool.{eqb-true}
use Rattle.ckc_base.specs.declared.arithmetic.Width.TheVariants.{Byte, Word}
use Rattle.ckc_types.specs.declared.types.CType.{CType, CType-F, out-CType}
use Rattle.ckc_types.specs.declared.types.Kind.{Kind}
use Rattle.ckc_types.specs.declared.types.MemberShape.{MemberShape}
use Rattle.ckc_types.specs.declared.types.Structs.{Structs}
use Rattle.ckc_types.specs.Layout.{members_of}
use Rattle.ckc_syntax.specs.declared.tree.Name.{Name}
use Rattle.ckc_syntax.specs.declared.tree.Name.TheVariants as name
use Rattle.ckc_syntax.specs.declared.tree.Item.{Item}
use Rattle.ckc_syntax.specs.declared.tree.Item.TheVariants as item
use Rattle.ckc_syntax.specs.declared.tree.Limits.{Limits}
use Rattle.ckc_syntax.specs.declared.tree.NamedText.{NamedText}
use Rattle.ckc_resolve.specs.declared.names.Names.{Names}
use Rattle.ckc_resolve.specs.Scoping.{no_names, names_of}
use Rattle.ckc_resolve.specs.Trees as trees
use Rattle.ckc_typed.specs.declared.typed.StaticObject.{StaticObject}
use Rattle.ckc_typed.specs.declared.typed.Typed.{Typed}
use Rattle.ckc_base.specs.MemoryMap.{data_start}
use Rattle.ckc_typed.specs.Trees.{Decl, Tree, NotedDecl, NotedItem, NotedLimits}
use Rattle.ckc_typed.specs.Types.{type_written, kind_of, is_char}
use Rattle.ckc_typed.specs.Environment.{same_name}
use Rattle.ckc_typed.specs.Layouts.{bare_structs, bounds_of, bounded_member, members_declared, structs_of}
use Rattle.ckc_typed.specs.Statics.{objects_of_item, object_of_string, strings_of_item, blocks, end_of_block, placed}
use Rattle.ckc_typed_welltyped.specs.Noteless.{bare_item, without_notes}
use Rattle.ckc_typed_fit.specs.Numbers.{CountsFrom, static_in, static_numbers}
use Rattle.ckc_typed_fit.proofs.Numbered.{statics_count}
use Rattle.ckc_typed_fit.proofs.NamedItems as items
use Rattle.ckc_typed_fit.proofs.NamedItems.{ItemsNamed, text_is}
use Rattle.ckc_typed_plain.specs.Resolved.{IsResolved}
use Rattle.ckc_typed_plain.proofs.Items.{resolved_of}
use Rattle.ckc_plain.specs.ckc_plain_barred.specs.declared.integers.Integers.{Integers}
use Rattle.ckc_plain.specs.ckc_plain_barred.specs.Integers.{known_of}
use Rattle.ckc_plain.specs.ckc_plain_bodies.specs.Statements.{item_plain}
use Rattle.ckc_bounds.specs.ckc_bounds_declared.specs.Written.{takes_bounds}
use Rattle.ckc_source.specs.declared.expr.Count.{Count}
use Rattle.ckc_build_values.specs.Kinds.{width_of, count_of_kind, pointee_of}
use Rattle.ckc_build_values.specs.Members.{offset_of, count_by}
use Rattle.ckc_build_values.specs.Names.{declares, limits_in, count_declared, count_of_static}
use Rattle.ckc_blame_sound.specs.Slots.{Slot, slot_by, slot_of_member, slots_in, slots_of}
use Rattle.ckc_blame_sound.specs.Cells.{IsPart, IsPartIn, IsOfMember, HaveOwnNames}
use Rattle.ckc_blame_sound.specs.Limited.{IsElementAt}
use Rattle.ckc_blame_sound.specs.JudgedTexts.{IsJudged}
use Rattle.ckc_blame_sound.proofs.Bounded.{is_bounded}
use Rattle.ckc_blame_sound.proofs.Bounds.{IsBoundable, AreBoundable, text_boundable, items_bare, members_boundable, pointer_no_char, boundable_no_char}
use Rattle.ckc_blame_sound.proofs.Functions.{tree_named}
use Rattle.ckc_blame_sound.proofs.Lists.{found, seam, more_at}
use Rattle.ckc_blame_sound.proofs.Members.{members_are, have_own_names}

word_wide : (t : CType) → is_char t ≡ false → Word ≡ width_of t
word_wide t e = sym (ap (λ b. if b then Byte else Word) e)

kind_counts : (t : CType) (c : Count) → count_of_kind (kind_of t) ≡ Some c → is_char t ≡ false
kind_counts t c e = by (kind_of t) refl e
  where
    by : (o : Option Kind) → kind_of t ≡ o → count_of_kind o ≡ Some c → is_char t ≡ false
    by (Some k) is f = pointer_no_char t k is
    by None is f = absurd cc

-- ---- members

-- a member of which the number of elements is known is a pointer
abbrev IsPointing : Structs → ℕ → MemberShape → Type 0
IsPointing structs tag m = (c : Count) → count_by structs tag m.ctype m.bounds ≡ Some c → is_char m.ctype ≡ false

member_points : (bare structs : Structs) (tag : ℕ) (d : Decl) → IsBoundable d → IsPointing structs tag (bounded_member bare d)
member_points bare structs tag d h c e = by d.bounds h e
  where
    by : (l : Option (Limits Name (Unit {0}))) → (is_some l ≡ true → takes_bounds (type_written d.ctype) d.length ≡ true) → count_by structs tag (type_written d.ctype) (bounds_of bare (type_written d.ctype) l) ≡ Some c → is_char (type_written d.ctype) ≡ false
    by None g f = kind_counts (type_written d.ctype) c f
    by (Some l) g f = boundable_no_char (type_written d.ctype) d.length (g refl)

members_point : (bare structs : Structs) (tag : ℕ) (ds : List Decl) → All IsBoundable ds → All (IsPointing structs tag) (map (bounded_member bare) ds)
members_point bare structs tag [] h = All-nil (IsPointing structs tag)
members_point bare structs tag (d ∷ ds) h =
    All-cons (IsPointing structs tag) (bounded_member bare d) (map (bounded_member bare) ds) (member_points bare structs tag d (All-head IsBoundable d ds h)) (members_point bare structs tag ds (All-tail IsBoundable d ds h))

abbrev IsPointerOf : Structs → ℕ → Slot → Type 0
IsPointerOf structs tag slot = IsOfMember structs tag slot.offset Word

member_slots : (structs : Structs) (tag : ℕ) (own : HaveOwnNames structs) (front ms : List MemberShape) → members_of structs tag ≡ front ++ ms → All (IsPointing structs tag) ms
    → All (IsPointerOf structs tag) (flat_map (slot_of_member structs tag) ms)
member_slots structs tag own front [] split h = All-nil (IsPointerOf structs tag)
member_slots structs tag own front (m ∷ ms) split h =
    by (count_by structs tag m.ctype m.bounds) refl
    (member_slots structs tag own (front ++ m ∷ []) ms (split ∙ sym (append_assoc front (m ∷ []) ms)) (All-tail (IsPointing structs tag) m ms h))
  where
    by : (o : Option Count) → count_by structs tag m.ctype m.bounds ≡ o → All (IsPointerOf structs tag) (flat_map (slot_of_member structs tag) ms)
        → All (IsPointerOf structs tag) (slot_by structs (offset_of structs tag m.name) m.ctype o ++ flat_map (slot_of_member structs tag) ms)
    by None is rest = rest
    by (Some c) is rest =
        All-cons (IsPointerOf structs tag) (record { offset = offset_of structs tag m.name; to = pointee_of structs m.ctype; count = c }) (flat_map (slot_of_member structs tag) ms)
        (record {
          front = front;
          member = m;
          stands = record { back = ms; split = split; new = own tag front ms m split };
          there = refl;
          wide = word_wide m.ctype (All-head (IsPointing structs tag) m ms h c is);
        }) rest

layout_is : (p : Typed) (j : IsJudged p) → p.layout ≡ structs_of (without_notes p.tree).items
layout_is p j =
    (is_bounded j.typed p j.has_bounds).layout ∙ j.has_types.typed.layout
    ∙ ap (λ (t : Tree). structs_of t.items) (j.has_types.tree ∙ sym (tree_named p j))

all_pointing : (p : Typed) → IsJudged p → (tag : ℕ) → All (IsPointing p.layout tag) (members_of p.layout tag)
all_pointing p j tag =
    let js = (without_notes p.tree).items in
    subst (λ (structs : Structs). All (IsPointing p.layout tag) (members_of structs tag)) (sym (layout_is p j))
    (members_are js tag (λ ms. All (IsPointing p.layout tag) ms) (All-nil (IsPointing p.layout tag))
    (members_point (bare_structs js) p.layout tag (members_declared js (name.Tag tag)) (members_boundable js (name.Tag tag) (items_bare p.tree.items (text_boundable p j)))))

-- ---- static objects

abbrev StaticAt : {A : Type 0} → Item Name A → ℕ → (ℕ → Type 0) → Type 0
StaticAt (item.Static d) k rest = (d.name ≡ name.Static k) × rest (k + 1)
StaticAt i k rest = rest k

-- the objects of file scope have the names that their numbers give
abbrev pub StaticsFrom : {A : Type 0} → ℕ → List (Item Name A) → Type 0
StaticsFrom k [] = Unit {0}
StaticsFrom k (i ∷ is) = StaticAt i k (λ n. StaticsFrom n is)

statics_from : (names : Names) (all : List trees.Item) (before : Names) (k : ℕ) (is : List trees.Item) (js : List trees.NamedItem) → ItemsNamed names all before is js → CountsFrom k (static_numbers js) → StaticsFrom k js
statics_from names all before k is js items.none h = tt
statics_from names all before k is js (items.more {js = rest} (items.directive d) hs) h = statics_from names all _ k _ rest hs h
statics_from names all before k is js (items.more {js = rest} (items.tag s pos) hs) h = statics_from names all _ k _ rest hs h
statics_from names all before k is js (items.more {js = rest} (items.struct s pos m) hs) h = statics_from names all _ k _ rest hs h
statics_from names all before k is js (items.more {js = rest} (items.static {e = e} g new) hs) h =
    let c = subst (λ n. CountsFrom k (static_in n ++ static_numbers rest)) g.named h in
    (g.named ∙ ap name.Static c.0, statics_from names all _ (k + 1) _ rest hs c.1)
statics_from names all before k is js (items.more {js = rest} (items.proto g there) hs) h = statics_from names all _ k _ rest hs h
statics_from names all before k is js (items.more {js = rest} (items.function g new made) hs) h = statics_from names all _ k _ rest hs h

-- the bodies of functions declare none
statics_plain : (known : Integers) (k : ℕ) (is : List trees.NamedItem) → StaticsFrom k is → StaticsFrom k (map (item_plain known) is)
statics_plain known k [] h = tt
statics_plain known k (item.Static d ∷ is) h = (h.0, statics_plain known (k + 1) is h.1)
statics_plain known k (item.Directive d ∷ is) h = statics_plain known k is h
statics_plain known k (item.Tag n at ∷ is) h = statics_plain known k is h
statics_plain known k (item.Struct n ms at ∷ is) h = statics_plain known k is h
statics_plain known k (item.Proto g ∷ is) h = statics_plain known k is h
statics_plain known k (item.Function g body ∷ is) h = statics_plain known k is h

statics_resolved : (t : trees.Tree) (n : NamedText) → IsResolved t n → StaticsFrom 0 n.tree.items
statics_resolved t n r =
    let js = r.resolved.tree.items in
    subst (λ (x : trees.NamedTree). StaticsFrom 0 x.items) (sym r.tree)
    (statics_plain (known_of r.resolved.tree) 0 js
    (statics_from (names_of t) t.items no_names 0 t.items js (text_is t r.resolved r.has_names).items (statics_count t r.resolved r.has_names)))

from_bare : (k : ℕ) (is : List NotedItem) → StaticsFrom k (map bare_item is) → StaticsFrom k is
from_bare k [] h = tt
from_bare k (item.Static d ∷ is) h = (h.0, from_bare (k + 1) is h.1)
from_bare k (item.Directive d ∷ is) h = from_bare k is h
from_bare k (item.Tag n at ∷ is) h = from_bare k is h
from_bare k (item.Struct n ms at ∷ is) h = from_bare k is h
from_bare k (item.Proto g ∷ is) h = from_bare k is h
from_bare k (item.Function g body ∷ is) h = from_bare k is h

abbrev pub static_type : {A : Type 0} → Item Name A → List CType
static_type (item.Static d) = type_written d.ctype ∷ []
static_type i = []

abbrev pub static_types : {A : Type 0} → List (Item Name A) → List CType
static_types is = flat_map static_type is

pub types_bare : (is : List NotedItem) → static_types (map bare_item is) ≡ static_types is
types_bare [] = refl
types_bare (item.Static d ∷ is) = ap (λ ts. type_written d.ctype ∷ ts) (types_bare is)
types_bare (item.Directive d ∷ is) = types_bare is
types_bare (item.Tag n at ∷ is) = types_bare is
types_bare (item.Struct n ms at ∷ is) = types_bare is
types_bare (item.Proto g ∷ is) = types_bare is
types_bare (item.Function g body ∷ is) = types_bare is

-- the object that is found by a name has the type at its number
type_found : (front : List CType) (is : List NotedItem) (n : ℕ) (d : NotedDecl) → StaticsFrom (length front) is → find (declares (name.Static n)) is ≡ Some (item.Static d)
    → slice_get (front ++ static_types is) n ≡ Some (type_written d.ctype)
type_found front [] n d h e = absurd cc
type_found front (item.Directive c ∷ is) n d h e = type_found front is n d h e
type_found front (item.Tag m at ∷ is) n d h e = type_found front is n d h e
type_found front (item.Struct m ms at ∷ is) n d h e = type_found front is n d h e
type_found front (item.Proto g ∷ is) n d h e = type_found front is n d h e
type_found front (item.Function g body ∷ is) n d h e = type_found front is n d h e
type_found front (item.Static c ∷ is) n d h e =
    by (same_name c.name (name.Static n)) refl e
    (λ f. subst (λ ts. slice_get ts n ≡ Some (type_written d.ctype)) (append_assoc front (type_written c.ctype ∷ []) (static_types is))
    (type_found (front ++ type_written c.ctype ∷ []) is n d (subst (λ k. StaticsFrom k is) (sym (length-append front (type_written c.ctype ∷ []))) h.1) f))
  where
    by : (b : Bool) → same_name c.name (name.Static n) ≡ b → (if b then Some (item.Static c) else find (declares (name.Static n)) is) ≡ Some (item.Static d)
        → (find (declares (name.Static n)) is ≡ Some (item.Static d) → slice_get (front ++ type_written c.ctype ∷ static_types is) n ≡ Some (type_written d.ctype))
        → slice_get (front ++ type_written c.ctype ∷ static_types is) n ≡ Some (type_written d.ctype)
    by true is_same f later =
        let same : c ≡ d = cc in
        let number : length front ≡ n = eqb-true (length front) n (subst (λ m. same_name m (name.Static n) ≡ true) h.0 is_same) in
        subst (λ k. slice_get (front ++ type_written c.ctype ∷ static_types is) k ≡ Some (type_written d.ctype)) number
        (seam front (type_written c.ctype) (static_types is) ∙ ap (λ (x : NotedDecl). Some (type_written x.ctype)) same)
    by false is_same f later = later f

-- ---- the elements of static objects

abbrev elements : List StaticObject → List CType
elements os = map (λ (o : StaticObject). o.element) os

placed_elements : (structs : Structs) (end : ℕ) (os : List StaticObject) → elements (placed structs end os) ≡ elements os
placed_elements structs end [] = refl
placed_elements structs end (o ∷ os) = ap (λ ts. o.element ∷ ts) (placed_elements structs (end_of_block structs end o) os)

declared_elements : (structs : Structs) (is : List NotedItem) → elements (flat_map (objects_of_item structs) is) ≡ static_types is
declared_elements structs [] = refl
declared_elements structs (item.Static d ∷ is) = ap (λ ts. type_written d.ctype ∷ ts) (declared_elements structs is)
declared_elements structs (item.Directive d ∷ is) = declared_elements structs is
declared_elements structs (item.Tag n at ∷ is) = declared_elements structs is
declared_elements structs (item.Struct n ms at ∷ is) = declared_elements structs is
declared_elements structs (item.Proto g ∷ is) = declared_elements structs is
declared_elements structs (item.Function g body ∷ is) = declared_elements structs is

statics_are : (p : Typed) (j : IsJudged p) → (more : List CType) × (elements p.statics ≡ static_types p.tree.items ++ more)
statics_are p j =
    let q = j.typed in
    let types : static_types q.tree.items ≡ static_types p.tree.items =
    sym (types_bare q.tree.items) ∙ ap (λ (t : Tree). static_types t.items) (j.has_types.tree ∙ sym (tree_named p j)) ∙ types_bare p.tree.items in (
      elements (map object_of_string (flat_map strings_of_item q.tree.items)),
      ap elements ((is_bounded q p j.has_bounds).statics ∙ j.has_types.typed.statics) ∙ placed_elements q.layout data_start (blocks q.layout q.tree.items)
          ∙ map-append (λ (o : StaticObject). o.element) (flat_map (objects_of_item q.layout) q.tree.items) (map object_of_string (flat_map strings_of_item q.tree.items))
          ∙ ap (λ ts. ts ++ elements (map object_of_string (flat_map strings_of_item q.tree.items))) (declared_elements q.layout q.tree.items ∙ types),
    )

-- the object that a declaration declares has its type
pub static_declared : (p : Typed) (j : IsJudged p) (n : ℕ) (d : NotedDecl) → find (declares (name.Static n)) p.tree.items ≡ Some (item.Static d)
    → option_map (λ (o : StaticObject). o.element) (slice_get p.statics n) ≡ Some (type_written d.ctype)
static_declared p j n d e =
    let from : StaticsFrom 0 p.tree.items =
    from_bare 0 p.tree.items (subst (λ (t : Tree). StaticsFrom 0 t.items) (sym (tree_named p j))
    (statics_resolved j.spelled j.named (resolved_of j.spelled j.named j.has_names))) in
    let is = statics_are p j in
    sym (slice_get-map (λ (o : StaticObject). o.element) p.statics n) ∙ ap (λ ts. slice_get ts n) is.1
    ∙ more_at (static_types p.tree.items) is.0 n (type_written d.ctype) (type_found [] p.tree.items n d from e)

static_counts : (p : Typed) (j : IsJudged p) (n : ℕ) (t : CType) (c : Count) → IsElementAt p n t → count_of_static p t (name.Static n) ≡ Some c → is_char t ≡ false
static_counts p j n t c there e = by (find (declares (name.Static n)) p.tree.items) refl e
  where
    at : (o : Option StaticObject) (u : CType) → IfSome o (λ x. x.element ≡ t) → option_map (λ (x : StaticObject). x.element) o ≡ Some u → u ≡ t
    at None u h f = absurd cc
    at (Some o) u h f = cc

    one : (d : NotedDecl) → find (declares (name.Static n)) p.tree.items ≡ Some (item.Static d) → (l : Option NotedLimits) → d.bounds ≡ l → count_declared p.layout t l ≡ Some c → is_char t ≡ false
    one d is None g f = kind_counts t c f
    one d is (Some l) g f =
        let boundable : IsBoundable d = (found AreBoundable (declares (name.Static n)) p.tree.items (item.Static d) (text_boundable p j) is).0 in
        let same : type_written d.ctype ≡ t = at (slice_get p.statics n) (type_written d.ctype) there (static_declared p j n d is) in
        subst (λ u. is_char u ≡ false) same (boundable_no_char (type_written d.ctype) d.length (boundable (ap is_some g)))

    by : (i : Option NotedItem) → find (declares (name.Static n)) p.tree.items ≡ i → count_declared p.layout t (limits_in i) ≡ Some c → is_char t ≡ false
    by None is f = kind_counts t c f
    by (Some (item.Static d)) is f = one d is d.bounds refl f
    by (Some (item.Directive d)) is f = kind_counts t c f
    by (Some (item.Tag m pos)) is f = kind_counts t c f
    by (Some (item.Struct m ms pos)) is f = kind_counts t c f
    by (Some (item.Proto g)) is f = kind_counts t c f
    by (Some (item.Function g body)) is f = kind_counts t c f

-- ---- slots

abbrev IsPointerIn : Structs → CType → CType-F CType → Slot → Type 0
IsPointerIn structs t f slot = IsPartIn structs t f slot.offset Word

scalar_slots : (p : Typed) (j : IsJudged p) (n : ℕ) (t : CType) (Q : Slot → Type 0) → IsElementAt p n t
    → ((s : Slot) → s.offset ≡ 0 → Word ≡ width_of t → Q s) → All Q (slot_by p.layout 0 t (count_of_static p t (name.Static n)))
scalar_slots p j n t Q there f = by (count_of_static p t (name.Static n)) refl
  where
    by : (o : Option Count) → count_of_static p t (name.Static n) ≡ o → All Q (slot_by p.layout 0 t o)
    by None is = All-nil Q
    by (Some c) is =
        All-cons Q (record { offset = 0; to = pointee_of p.layout t; count = c }) []
        (f (record { offset = 0; to = pointee_of p.layout t; count = c }) refl (word_wide t (static_counts p j n t c there is))) (All-nil Q)

form_slots : (p : Typed) (j : IsJudged p) (n : ℕ) (t : CType) (f : CType-F CType) → IsElementAt p n t → All (IsPointerIn p.layout t f) (slots_in p n t f)
form_slots p j n t (CType-F.Struct tag) there = member_slots p.layout tag (have_own_names p j) [] (members_of p.layout tag) refl (all_pointing p j tag)
form_slots p j n t CType-F.Int there = scalar_slots p j n t (IsPointerIn p.layout t CType-F.Int) there (λ s a b. (a, b))
form_slots p j n t CType-F.Unsigned there = scalar_slots p j n t (IsPointerIn p.layout t CType-F.Unsigned) there (λ s a b. (a, b))
form_slots p j n t CType-F.Char there = scalar_slots p j n t (IsPointerIn p.layout t CType-F.Char) there (λ s a b. (a, b))
form_slots p j n t CType-F.Void there = scalar_slots p j n t (IsPointerIn p.layout t CType-F.Void) there (λ s a b. (a, b))
form_slots p j n t (CType-F.Pointer kind to) there = scalar_slots p j n t (IsPointerIn p.layout t (CType-F.Pointer kind to)) there (λ s a b. (a, b))

pub slots_are_pointers : (p : Typed) (number : ℕ) (t : CType) (slot : Slot) → IsJudged p → IsElementAt p number t → Contains (slots_of p number t) slot → IsPart p.layout t slot.offset Word
slots_are_pointers p number t slot j there is = All-contains (IsPointerIn p.layout t (out-CType t)) (slots_of p number t) slot (form_slots p j number t (out-CType t) there) is
