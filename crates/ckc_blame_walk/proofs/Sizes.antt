-- The elements of the static objects of a judged text have sizes, since each structure that a type names has a body.
use Rattle.std.proofs.Common.{◌≡◌, ◌⊎◌, ⊎_elim, inl, inr, ℕ, zero, suc, ◌+◌, ◌<◌, ◌≤◌, ◌==◌, max, Bool, true, false, List, [], ◌∷◌, ◌++◌, length, length-append, map, Option, None, Some, refl, sym, ◌∙◌, ap, subst, arith}
use Rattle.std.specs.Prelude.{◌&&◌, ◌||◌, if◌then◌else◌, cond, fold, nat_lt, nat_le, is_some, slice_get, unwrap_or}
use Rattle.std.specs.List.{All, list_all, flat_map}
use Rattle.std.proofs.lemmas.Bool.{and_parts, lt-ltb, le-leb, leb-true, eqb-true, eq-eqb}
use Rattle.std.proofs.lemmas.List.Elements.{All-nil, All-cons, All-head, All-tail}
use Rattle.std.proofs.lemmas.List.Sums.{sum_by-append}
use Rattle.ckc_base.specs.declared.arithmetic.Mode.{Mode}
use Rattle.ckc_types.specs.declared.types.CType.{CType, CType-F, out-CType}
use Rattle.ckc_types.specs.declared.types.MemberShape.{MemberShape}
use Rattle.ckc_types.specs.declared.types.StructShape.{StructShape}
use Rattle.ckc_types.specs.declared.types.Structs.{Structs}
use Rattle.ckc_types.specs.Scalars.{size_of_form, align_of_form, scalar_size, scalar_align}
use Rattle.ckc_types.specs.Layout.{members_in, members_of, start, end_of, struct_align, struct_size, size_by_form}
use Rattle.ckc_types.proofs.Aligns.{struct_align_positive}
use Rattle.ckc_types.proofs.Multiples.{next_is_least}
use Rattle.ckc_syntax.specs.Inside.{listed, inside_each}
use Rattle.ckc_syntax.specs.declared.tree.Name.{Name}
use Rattle.ckc_syntax.specs.declared.tree.Name.TheVariants as name
use Rattle.ckc_syntax.specs.declared.tree.Item.TheVariants as item
use Rattle.ckc_syntax_limits.specs.Marks.{Mark, node, marks_of_bounds, marks_of_init, marks_of_decl, marks_of_item, is_node}
use Rattle.ckc_syntax_limits.specs.Small.{how_many}
use Rattle.ckc_typed.specs.declared.environment.Globals.{Globals}
use Rattle.ckc_typed.specs.Trees.{Decl, Item, NotedDecl, NotedItem}
use Rattle.ckc_typed.specs.Types.{type_written, is_integer_form, is_pointer_form, is_scalar, is_object_type}
use Rattle.ckc_typed.specs.Environment.{same_name}
use Rattle.ckc_typed.specs.Constants.{is_laid_out_form}
use Rattle.ckc_typed.specs.Layouts.{bare_structs, bounded_member, members_declared, tags_to, tag_count, shape_of, shapes_below, structs_of}
use Rattle.ckc_typed.specs.Walk.{pragma_after}
use Rattle.ckc_typed_fit.specs.Numbers.{tag_in}
use Rattle.ckc_typed_fit.specs.Visible.{is_one_of, struct_of}
use Rattle.ckc_typed_welltyped.specs.Noteless.{bare_decl, bare_item}
use Rattle.ckc_typed_welltyped.specs.Declarations.{WellTypedBare}
use Rattle.ckc_typed_welltyped.specs.Productions.{given_item}
use Rattle.ckc_typed_welltyped.specs.Texts.{WellTypedItem, WellTypedItems, members_seen}
use Rattle.ckc_blame_sound.proofs.Lists.{seam, more_at}
use Rattle.std.specs.List.{AllByRecursion}

-- ---- the members of structures

-- the members are some, not too many, and integers and pointers
pub record MayBeMembers (ds : List Decl) : Type 0 where
  pub some : 1 ≤ length ds
  pub few : length ds ≤ 16384
  pub scalars : list_all (λ (d : Decl). is_scalar (type_written d.ctype)) ds ≡ true

abbrev pub HasMembers : Item → Type 0
HasMembers (item.Struct n ms at) = MayBeMembers ms
HasMembers i = Unit {0}

count_both : (xs ys : List Mark) → how_many is_node (xs ++ ys) ≡ how_many is_node xs + how_many is_node ys
count_both xs ys = sum_by-append (λ x. cond (is_node x) 1 0) xs ys

first_counted : (xs : List Mark) → 1 ≤ how_many is_node (node ∷ xs)
first_counted xs =
    let both : how_many is_node (node ∷ xs) ≡ how_many is_node (node ∷ []) + how_many is_node xs = count_both (node ∷ []) xs in
    let one : how_many is_node (node ∷ []) ≡ 1 = refl in
    omega arith

members_counted : (ds : List Decl) → length ds ≤ how_many is_node (inside_each listed marks_of_decl ds)
members_counted [] = omega arith
members_counted (d ∷ ds) =
    let rest = members_counted ds in
    let both : how_many is_node (inside_each listed marks_of_decl (d ∷ ds)) ≡ how_many is_node (marks_of_decl d) + how_many is_node (inside_each listed marks_of_decl ds) =
    count_both (marks_of_decl d) (inside_each listed marks_of_decl ds) in
    let one : 1 ≤ how_many is_node (marks_of_decl d) = first_counted (marks_of_bounds d.bounds ++ marks_of_init d.init) in
    omega arith

scalar_members : (globals : Globals) (pragma : Mode) (seen : List NotedDecl) (ds : List NotedDecl) → AllByRecursion (WellTypedBare globals (members_seen seen) pragma) ds
    → list_all (λ (d : Decl). is_scalar (type_written d.ctype)) (map bare_decl ds) ≡ true
scalar_members globals pragma seen [] w = refl
scalar_members globals pragma seen (d ∷ ds) w =
    let one = (and_parts (is_scalar (type_written d.ctype)) (is_object_type (type_written d.ctype)) w.0.scalar).0 in
    ap (λ b. b && list_all (λ (d : Decl). is_scalar (type_written d.ctype)) (map bare_decl ds)) one ∙ scalar_members globals pragma seen ds w.1

item_members : (globals : Globals) (pragma : Mode) (i : NotedItem) → WellTypedItem globals pragma i → given_item (bare_item i) ≡ true
    → how_many is_node (marks_of_item (bare_item i)) ≤ 16384 → HasMembers (bare_item i)
item_members globals pragma (item.Struct n ms at) w g few =
    let some = (and_parts (nat_le 1 (length (map bare_decl ms))) _ g).0 in
    let many = members_counted (map bare_decl ms) in
    record {
      some = leb-true 1 (length (map bare_decl ms)) some;
      few = omega arith;
      scalars = scalar_members globals pragma ms ms w;
    }
item_members globals pragma (item.Directive d) w g few = tt
item_members globals pragma (item.Tag n at) w g few = tt
item_members globals pragma (item.Static d) w g few = tt
item_members globals pragma (item.Proto h) w g few = tt
item_members globals pragma (item.Function h body) w g few = tt

pub all_members : (globals : Globals) (pragma : Mode) (items : List NotedItem) → WellTypedItems globals pragma items → list_all given_item (map bare_item items) ≡ true
    → how_many is_node (flat_map marks_of_item (map bare_item items)) ≤ 16384 → All HasMembers (map bare_item items)
all_members globals pragma [] w g few = All-nil HasMembers
all_members globals pragma (i ∷ items) w g few =
    let both = count_both (marks_of_item (bare_item i)) (flat_map marks_of_item (map bare_item items)) in
    let parts = and_parts (given_item (bare_item i)) (list_all given_item (map bare_item items)) g in
    All-cons HasMembers (bare_item i) (map bare_item items)
    (item_members globals pragma i w.0 parts.0 (omega arith))
    (all_members globals (pragma_after pragma (bare_item i)) items w.1 parts.1 (omega arith))

-- ---- the structure with a tag

either : (a b : Bool) → (a || b) ≡ true → (a ≡ true) ⊎ (b ≡ true)
either true b e = inl refl
either false b e = inr e

-- the tag of the structure is the number k, or a later structure has it
tag_is : (n : Name) (k : ℕ) (rest : List ℕ) → is_one_of (tag_in n ++ rest) k ≡ true → (n ≡ name.Tag k) ⊎ (is_one_of rest k ≡ true)
tag_is (name.Tag m) k rest e = ⊎_elim (λ h. inl (ap name.Tag (sym (eqb-true k m h)))) (λ h. inr h) (either (k == m) (is_one_of rest k) e)
tag_is n k rest e = inr e

same_tag : (n : Name) (k : ℕ) → same_name n (name.Tag k) ≡ true → n ≡ name.Tag k
same_tag (name.Tag m) k e = ap name.Tag (eqb-true m k e)
same_tag n k e = absurd cc

not_same : (k : ℕ) → same_name (name.Tag k) (name.Tag k) ≡ false → ⊥
not_same k e = different (sym (eq-eqb k k refl) ∙ e)
  where
    different : true ≡ false → ⊥
    different e = cc

pub tag_members : (js : List Item) (k : ℕ) → All HasMembers js → is_one_of (flat_map struct_of js) k ≡ true → MayBeMembers (members_declared js (name.Tag k))
tag_members [] k h e = absurd cc
tag_members (item.Struct n ms at ∷ js) k h e = by (same_name n (name.Tag k)) refl (tag_is n k (flat_map struct_of js) e)
    (λ more. tag_members js k (All-tail HasMembers (item.Struct n ms at) js h) more)
  where
    by : (b : Bool) → same_name n (name.Tag k) ≡ b → (n ≡ name.Tag k) ⊎ (is_one_of (flat_map struct_of js) k ≡ true)
        → (is_one_of (flat_map struct_of js) k ≡ true → MayBeMembers (members_declared js (name.Tag k)))
        → MayBeMembers (unwrap_or (if b then Some ms else None) (members_declared js (name.Tag k)))
    by true f d go = All-head HasMembers (item.Struct n ms at) js h
    by false f d go = ⊎_elim (λ is. absurd (not_same k (subst (λ m. same_name m (name.Tag k) ≡ false) is f))) go d
tag_members (item.Directive d ∷ js) k h e = tag_members js k (All-tail HasMembers (item.Directive d) js h) e
tag_members (item.Tag n at ∷ js) k h e = tag_members js k (All-tail HasMembers (item.Tag n at) js h) e
tag_members (item.Static d ∷ js) k h e = tag_members js k (All-tail HasMembers (item.Static d) js h) e
tag_members (item.Proto g ∷ js) k h e = tag_members js k (All-tail HasMembers (item.Proto g) js h) e
tag_members (item.Function g body ∷ js) k h e = tag_members js k (All-tail HasMembers (item.Function g body) js h) e

abbrev greatest : ℕ → Item → ℕ
greatest n i = max n (tags_to i)

at_least : (js : List Item) (n : ℕ) → n ≤ fold greatest n js
at_least [] n = omega arith
at_least (i ∷ js) n = let rest = at_least js (max n (tags_to i)) in omega arith

tag_below : (js : List Item) (n k : ℕ) → is_one_of (flat_map struct_of js) k ≡ true → k < fold greatest n js
tag_below [] n k e = absurd cc
tag_below (item.Struct m ms at ∷ js) n k e =
    ⊎_elim
    (λ is. let first : tags_to (item.Struct m ms at) ≡ k + 1 = ap (λ (x : Name). tags_to (item.Struct x ms at)) is in
    let more = at_least js (max n (tags_to (item.Struct m ms at))) in
    omega arith)
    (λ more. tag_below js (max n (tags_to (item.Struct m ms at))) k more)
    (tag_is m k (flat_map struct_of js) e)
tag_below (item.Directive d ∷ js) n k e = tag_below js _ k e
tag_below (item.Tag m at ∷ js) n k e = tag_below js _ k e
tag_below (item.Static d ∷ js) n k e = tag_below js _ k e
tag_below (item.Proto g ∷ js) n k e = tag_below js _ k e
tag_below (item.Function g body ∷ js) n k e = tag_below js _ k e

shapes_many : (shape : ℕ → StructShape) (n : ℕ) → length (shapes_below shape n) ≡ n
shapes_many shape zero = refl
shapes_many shape (suc n) =
    let rest = shapes_many shape n in
    let both = length-append (shapes_below shape n) (shape n ∷ []) in
    omega arith

below_or_last : (k n : ℕ) → k < suc n → (k < n) ⊎ (n ≡ k)
below_or_last zero zero h = inr refl
below_or_last zero (suc n) h = inl (omega arith)
below_or_last (suc k) zero h = absurd (omega arith)
below_or_last (suc k) (suc n) h = ⊎_elim (λ l. inl (omega arith)) (λ e. inr (ap suc e)) (below_or_last k n (omega arith))

shape_there : (shape : ℕ → StructShape) (n k : ℕ) → k < n → slice_get (shapes_below shape n) k ≡ Some (shape k)
shape_there shape zero k h = absurd (omega arith)
shape_there shape (suc n) k h =
    ⊎_elim
    (λ l. more_at (shapes_below shape n) (shape n ∷ []) k (shape k) (shape_there shape n k l))
    (λ e. subst (λ m. slice_get (shapes_below shape n ++ shape n ∷ []) m ≡ Some (shape k)) (shapes_many shape n ∙ e)
    (seam (shapes_below shape n) (shape n) [] ∙ ap (λ m. Some (shape m)) e))
    (below_or_last k n h)

-- ---- the size of a structure

module _ (structs : Structs) where
  map_many : (ds : List Decl) → length (map (bounded_member structs) ds) ≡ length ds
  map_many [] = refl
  map_many (d ∷ ds) = ap suc (map_many ds)

  map_scalars : (ds : List Decl) → list_all (λ (m : MemberShape). is_scalar m.ctype) (map (bounded_member structs) ds) ≡ list_all (λ (d : Decl). is_scalar (type_written d.ctype)) ds
  map_scalars [] = refl
  map_scalars (d ∷ ds) = ap (λ b. is_scalar (type_written d.ctype) && b) (map_scalars ds)

ends_behind : (at : ℕ) (ms : List MemberShape) → at ≤ end_of at ms
ends_behind at [] = omega arith
ends_behind at (m ∷ ms) =
    let rest = ends_behind (start at m + scalar_size m.ctype) ms in
    let first = (next_is_least at (scalar_align m.ctype) (aligned (out-CType m.ctype))).reaches in
    omega arith
  where
    aligned : (f : CType-F CType) → 0 < align_of_form f
    aligned CType-F.Int = omega arith
    aligned CType-F.Unsigned = omega arith
    aligned CType-F.Char = omega arith
    aligned CType-F.Void = omega arith
    aligned (CType-F.Struct tag) = omega arith
    aligned (CType-F.Pointer k t) = omega arith

scalar_some : (f : CType-F CType) → (is_integer_form f || is_pointer_form f) ≡ true → 1 ≤ size_of_form f
scalar_some CType-F.Int h = omega arith
scalar_some CType-F.Unsigned h = omega arith
scalar_some CType-F.Char h = omega arith
scalar_some CType-F.Void h = absurd cc
scalar_some (CType-F.Struct tag) h = absurd cc
scalar_some (CType-F.Pointer k t) h = omega arith

struct_some : (ms : List MemberShape) → 1 ≤ length ms → list_all (λ (m : MemberShape). is_scalar m.ctype) ms ≡ true → 0 < struct_size ms
struct_some [] h s = absurd (omega arith)
struct_some (m ∷ ms) h s =
    let one = scalar_some (out-CType m.ctype) (and_parts (is_scalar m.ctype) _ s).0 in
    let rest = ends_behind (start 0 m + scalar_size m.ctype) ms in
    let reach = (next_is_least (end_of 0 (m ∷ ms)) (struct_align (m ∷ ms)) (struct_align_positive (m ∷ ms))).reaches in
    omega arith

abbrev pub sized : Structs → CType-F CType → ℕ
sized structs f = if is_laid_out_form structs f then size_by_form structs f else 0

-- a structure with a body has a size
pub tag_sized : (js : List Item) (k : ℕ) → All HasMembers js → is_one_of (flat_map struct_of js) k ≡ true → 0 < sized (structs_of js) (CType-F.Struct k)
tag_sized js k h e =
    let structs = structs_of js in
    let good = tag_members js k h e in
    let there = shape_there (shape_of (bounded_member (bare_structs js)) js) (tag_count js) k (tag_below js 0 k e) in
    let ds = members_declared js (name.Tag k) in
    let are : members_of structs k ≡ map (bounded_member (bare_structs js)) ds = ap members_in there in
    let many : length (members_of structs k) ≡ length ds = ap (λ ms. length ms) are ∙ map_many (bare_structs js) ds in
    let some = good.some in
    let few = good.few in
    let scalars : list_all (λ (m : MemberShape). is_scalar m.ctype) (members_of structs k) ≡ true =
    ap (λ ms. list_all (λ (m : MemberShape). is_scalar m.ctype) ms) are ∙ map_scalars (bare_structs js) ds ∙ good.scalars in
    let a : is_some (slice_get structs.shapes k) ≡ true = ap (λ (o : Option StructShape). is_some o) there in
    let b : nat_lt 0 (length (members_of structs k)) ≡ true = lt-ltb 0 (length (members_of structs k)) (omega arith) in
    let c : nat_le (length (members_of structs k)) 16384 ≡ true = le-leb (length (members_of structs k)) 16384 (omega arith) in
    let laid : is_laid_out_form structs (CType-F.Struct k) ≡ true = all_true a b c scalars in
    let size : 0 < struct_size (members_of structs k) = struct_some (members_of structs k) (omega arith) scalars in
    subst (λ t. 0 < (if t then size_by_form structs (CType-F.Struct k) else 0)) (sym laid) size
  where
    all_true : {x y z w : Bool} → x ≡ true → y ≡ true → z ≡ true → w ≡ true → (x && (y && (z && w))) ≡ true
    all_true {x} {y} {z} {w} a b c d = rw (a, b, c, d) refl
