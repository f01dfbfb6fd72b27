-- The type of each static object of a judged text has a size.
use Rattle.std.proofs.Common.{◌≡◌, ◌⊎◌, inl, inr, ℕ, ◌<◌, Bool, true, false, List, [], ◌∷◌, map, refl, sym, ◌∙◌, ap, subst, arith, rules}
use Rattle.std.specs.Prelude.{Option, is_some}
use Rattle.std.specs.List.{All, list_all, flat_map}
use Rattle.std.proofs.lemmas.Bool.{and_parts}
use Rattle.std.proofs.lemmas.List.Elements.{All-nil, All-cons, All-append, All-head, All-tail}
use Rattle.ckc_base.specs.declared.arithmetic.Mode.{Mode}
use Rattle.ckc_base.specs.declared.arithmetic.Mode.TheVariants.{Unchecked}
use Rattle.ckc_base.specs.MemoryMap.{data_start}
use Rattle.ckc_types.specs.declared.types.CType.{CType, CType-F, out-CType, map-CType, fold_out-CType, the_lemmas}
use Rattle.ckc_types.specs.declared.types.CType.TheVariants as ctype
use Rattle.ckc_types.specs.declared.types.Kind.{Kind}
use Rattle.ckc_types.specs.declared.types.Kind.TheVariants as kind
use Rattle.ckc_types.specs.declared.types.Structs.{Structs}
use Rattle.ckc_syntax.specs.declared.tree.Name.{Name}
use Rattle.ckc_syntax.specs.declared.tree.Name.TheVariants as name
use Rattle.ckc_syntax.specs.declared.tree.Item.TheVariants as item
use Rattle.ckc_syntax.specs.declared.tree.Length.{Length}
use Rattle.ckc_syntax.specs.declared.tree.Length.TheVariants as lengths
use Rattle.ckc_syntax.specs.declared.tree.TypeTree.{TypeTree-F, map-TypeTree, out-TypeTree, fold_out-TypeTree}
use Rattle.ckc_syntax_limits.specs.Marks.{marks_of_item, is_node}
use Rattle.ckc_syntax_limits.specs.Small.{Small, how_many}
use Rattle.ckc_typed.specs.declared.environment.Globals.{Globals}
use Rattle.ckc_typed.specs.declared.typed.StaticObject.{StaticObject}
use Rattle.ckc_typed.specs.declared.typed.Typed.{Typed}
use Rattle.ckc_typed.specs.Trees.{Item, Tree, TypeTree, NotedItem}
use Rattle.ckc_typed.specs.Types.{type_written, written_parts, is_integer_form, is_integer, integer_object, object_parts, is_object_type}
use Rattle.ckc_typed.specs.Constants.{size_of}
use Rattle.ckc_typed.specs.Declarations.{is_element_for}
use Rattle.ckc_typed.specs.Layouts.{structs_of}
use Rattle.ckc_typed.specs.Statics.{object_of, objects_of_item, object_of_string, strings_of_item, blocks, end_of_block, begin_behind, placed}
use Rattle.ckc_typed.specs.Texts.{globals_of}
use Rattle.ckc_typed.specs.Walk.{pragma_after}
use Rattle.ckc_typed_fit.specs.Tests.{Tests, type_parts, type_passes, item_passes, items_pass}
use Rattle.ckc_typed_fit.specs.Visible.{is_one_of, struct_of, has_body}
use Rattle.ckc_typed_plain.proofs.Found.{tags_have_bodies}
use Rattle.ckc_typed_welltyped.specs.Noteless.{bare_item, without_notes}
use Rattle.ckc_typed_welltyped.specs.Productions.{given_item, given_tree}
use Rattle.ckc_typed_welltyped.specs.Texts.{WellTypedItem, WellTypedItems}
use Rattle.ckc_blame_sound.specs.JudgedTexts.{IsJudged}
use Rattle.ckc_blame_walk.specs.Ready.{HaveSizes}
use Rattle.ckc_blame_walk.proofs.Starts.{char_size}
use Rattle.ckc_blame_sound.proofs.Bounded.{is_bounded}
use Rattle.ckc_blame_walk.proofs.Sizes.{HasMembers, all_members, sized, tag_sized}

-- each tag has a body
abbrev pub tag_tests : List Item → Tests
tag_tests js = record { name = λ visible n. true; member = λ n. true; tag = has_body js }

void_form : out-CType ctype.Void ≡ CType-F.Void
void_form = search (rules, the_lemmas)

int_form : out-CType ctype.Int ≡ CType-F.Int
int_form = search (rules, the_lemmas)

unsigned_form : out-CType ctype.Unsigned ≡ CType-F.Unsigned
unsigned_form = search (rules, the_lemmas)

char_form : out-CType ctype.Char ≡ CType-F.Char
char_form = search (rules, the_lemmas)

struct_form : (tag : ℕ) → out-CType (ctype.Struct tag) ≡ CType-F.Struct tag
struct_form tag = search (rules, the_lemmas)

pointer_form : (k : Kind) (t : CType) → out-CType (ctype.Pointer k t) ≡ CType-F.Pointer k t
pointer_form k t = search (rules, the_lemmas)

no_struct : (k : ℕ) (c : CType) (f : CType-F CType) → out-CType c ≡ f → (f ≡ CType-F.Struct k → ⊥) → out-CType c ≡ CType-F.Struct k → ⊥
no_struct k c f e other is = other (sym e ∙ is)

module _ (js : List Item) where
  abbrev written_in : TypeTree-F Name TypeTree → TypeTree-F Name CType
  written_in = map-TypeTree Name TypeTree CType type_written

  abbrev passes_in : TypeTree-F Name TypeTree → TypeTree-F Name Bool
  passes_in = map-TypeTree Name TypeTree Bool (type_passes (tag_tests js))

  tag_there : (x : TypeTree-F Name TypeTree) (k : ℕ) → out-CType (written_parts (written_in x)) ≡ CType-F.Struct k → type_parts (tag_tests js) (passes_in x) ≡ true
      → is_one_of (flat_map struct_of js) k ≡ true
  tag_there (TypeTree-F.Struct (name.Tag m) pos) k e h =
      let same : m ≡ k = let f : CType-F.Struct m ≡ CType-F.Struct k = sym (struct_form m) ∙ e in cc in
      subst (λ n. is_one_of (flat_map struct_of js) n ≡ true) same h
  tag_there (TypeTree-F.Struct n pos) k e h = absurd (no_struct k ctype.Void CType-F.Void void_form (λ f. cc) e)
  tag_there TypeTree-F.Int k e h = absurd (no_struct k ctype.Int CType-F.Int int_form (λ f. cc) e)
  tag_there TypeTree-F.Unsigned k e h = absurd (no_struct k ctype.Unsigned CType-F.Unsigned unsigned_form (λ f. cc) e)
  tag_there TypeTree-F.Char k e h = absurd (no_struct k ctype.Char CType-F.Char char_form (λ f. cc) e)
  tag_there TypeTree-F.Void k e h = absurd (no_struct k ctype.Void CType-F.Void void_form (λ f. cc) e)
  tag_there (TypeTree-F.Raw t pos) k e h = absurd (no_struct k (ctype.Pointer kind.Raw (type_written t)) (CType-F.Pointer kind.Raw (type_written t)) (pointer_form kind.Raw (type_written t)) (λ f. cc) e)
  tag_there (TypeTree-F.One t) k e h = absurd (no_struct k (ctype.Pointer kind.One (type_written t)) (CType-F.Pointer kind.One (type_written t)) (pointer_form kind.One (type_written t)) (λ f. cc) e)
  tag_there (TypeTree-F.Arr t) k e h = absurd (no_struct k (ctype.Pointer kind.Arr (type_written t)) (CType-F.Pointer kind.Arr (type_written t)) (pointer_form kind.Arr (type_written t)) (λ f. cc) e)
  tag_there (TypeTree-F.Nt t) k e h = absurd (no_struct k (ctype.Pointer kind.Nt (type_written t)) (CType-F.Pointer kind.Nt (type_written t)) (pointer_form kind.Nt (type_written t)) (λ f. cc) e)

  type_tag : (t : TypeTree) (k : ℕ) → out-CType (type_written t) ≡ CType-F.Struct k → type_passes (tag_tests js) t ≡ true → is_one_of (flat_map struct_of js) k ≡ true
  type_tag t k e h =
      tag_there (out-TypeTree Name t) k
      (ap out-CType (sym (fold_out-TypeTree Name CType written_parts t)) ∙ e)
      (sym (fold_out-TypeTree Name Bool (type_parts (tag_tests js)) t) ∙ h)

  -- an object of the type may be declared
  abbrev pub IsElement : CType → Type 0
  IsElement t = (is_integer t ≡ true) ⊎ (is_object_type t ≡ true)

  no_void : (t : CType) → out-CType t ≡ CType-F.Void → IsElement t → ⊥
  no_void t e (inl h) = let f : is_integer_form {X = CType} CType-F.Void ≡ true = sym (ap is_integer_form e) ∙ h in different f
    where
      different : false ≡ true → ⊥
      different e = cc
  no_void t e (inr h) =
      let object : integer_object t ≡ object_parts CType-F.Void =
      fold_out-CType (Option Bool) object_parts t ∙ ap (λ x. object_parts (map-CType CType (Option Bool) integer_object x)) e in
      different (sym (ap (λ (o : Option Bool). is_some o) object) ∙ h)
    where
      different : false ≡ true → ⊥
      different e = cc

  pub type_sized : (members : All HasMembers js) (t : TypeTree) → IsElement (type_written t) → type_passes (tag_tests js) t ≡ true → 0 < size_of (structs_of js) (type_written t)
  type_sized members t element passes = by (out-CType (type_written t)) refl
    where
      by : (f : CType-F CType) → out-CType (type_written t) ≡ f → 0 < sized (structs_of js) f
      by CType-F.Int e = omega arith
      by CType-F.Unsigned e = omega arith
      by CType-F.Char e = omega arith
      by CType-F.Void e = absurd (no_void (type_written t) e element)
      by (CType-F.Struct k) e = tag_sized js k members (type_tag t k e passes)
      by (CType-F.Pointer k u) e = omega arith

-- ---- the static objects of a text

abbrev HasSize : Structs → StaticObject → Type 0
HasSize structs o = 0 < size_of structs o.element

element_is : (l : Length) (t : CType) → is_element_for l t ≡ true → (is_integer t ≡ true) ⊎ (is_object_type t ≡ true)
element_is (lengths.Nt n) t e = inl e
element_is lengths.Plain t e = inr e
element_is (lengths.Raw n pos) t e = inr e
element_is (lengths.Checked n) t e = inr e

module _ (js : List Item) (members : All HasMembers js) where
  item_sized : (globals : Globals) (pragma : Mode) (i : NotedItem) → WellTypedItem globals pragma i → item_passes (tag_tests js) (bare_item i) ≡ true
      → All (HasSize (structs_of js)) (objects_of_item (structs_of js) i)
  item_sized globals pragma (item.Static d) w h =
      All-cons (HasSize (structs_of js)) (object_of (structs_of js) d) []
      (type_sized js members d.ctype (element_is d.length (type_written d.ctype) w.element) (and_parts (type_passes (tag_tests js) d.ctype) _ h).0)
      (All-nil (HasSize (structs_of js)))
  item_sized globals pragma (item.Directive d) w h = All-nil (HasSize (structs_of js))
  item_sized globals pragma (item.Tag n at) w h = All-nil (HasSize (structs_of js))
  item_sized globals pragma (item.Struct n ms at) w h = All-nil (HasSize (structs_of js))
  item_sized globals pragma (item.Proto g) w h = All-nil (HasSize (structs_of js))
  item_sized globals pragma (item.Function g body) w h = All-nil (HasSize (structs_of js))

  items_sized : (globals : Globals) (pragma : Mode) (items : List NotedItem) → WellTypedItems globals pragma items → list_all (item_passes (tag_tests js)) (map bare_item items) ≡ true
      → All (HasSize (structs_of js)) (flat_map (objects_of_item (structs_of js)) items)
  items_sized globals pragma [] w h = All-nil (HasSize (structs_of js))
  items_sized globals pragma (i ∷ items) w h =
      let parts = and_parts (item_passes (tag_tests js) (bare_item i)) (list_all (item_passes (tag_tests js)) (map bare_item items)) h in
      All-append (HasSize (structs_of js)) (objects_of_item (structs_of js) i) _
      (item_sized globals pragma i w.0 parts.0) (items_sized globals (pragma_after pragma (bare_item i)) items w.1 parts.1)

strings_sized : (structs : Structs) (ss : List (List ℕ)) → All (HasSize structs) (map object_of_string ss)
strings_sized structs [] = All-nil (HasSize structs)
strings_sized structs (s ∷ ss) =
    let one = (char_size structs (out-CType ctype.Char) (simp (the_lemmas) refl)).0 in
    All-cons (HasSize structs) (object_of_string s) (map object_of_string ss) (omega arith) (strings_sized structs ss)

placed_sized : (structs : Structs) (os : List StaticObject) (end : ℕ) → All (HasSize structs) os → All (HasSize structs) (placed structs end os)
placed_sized structs [] end h = All-nil (HasSize structs)
placed_sized structs (o ∷ os) end h =
    All-cons (HasSize structs) (record o { at = begin_behind end }) (placed structs (end_of_block structs end o) os)
    (All-head (HasSize structs) o os h) (placed_sized structs os (end_of_block structs end o) (All-tail (HasSize structs) o os h))

pub objects_sized : (p : Typed) (j : IsJudged p) → given_tree j.named.tree ≡ true → Small j.named.tree → HaveSizes p
objects_sized p j given small =
    let q = j.typed in
    let w = j.has_types.typed in
    let js = map bare_item q.tree.items in
    let same : js ≡ j.named.tree.items = ap (λ (t : Tree). t.items) j.has_types.tree in
    let all_given : list_all given_item js ≡ true = ap (λ (is : List Item). list_all given_item is) same ∙ given in
    let few = subst (λ (is : List Item). how_many is_node (flat_map marks_of_item is) < 16385) (sym same) (let n = small.nodes in omega arith) in
    let passes : items_pass (tag_tests js) js ≡ true = subst (λ (is : List Item). items_pass (tag_tests is) is ≡ true) (sym same) (tags_have_bodies j.spelled j.named j.has_form j.has_names) in
    let globals = globals_of (without_notes q.tree).items in
    let members = all_members globals Unchecked q.tree.items w.items all_given (omega arith) in
    let first : All (HasSize (structs_of js)) (blocks (structs_of js) q.tree.items) =
    All-append (HasSize (structs_of js)) (flat_map (objects_of_item (structs_of js)) q.tree.items) (map object_of_string (flat_map strings_of_item q.tree.items))
    (items_sized js members globals Unchecked q.tree.items w.items passes) (strings_sized (structs_of js) (flat_map strings_of_item q.tree.items)) in
    let typed : All (HasSize q.layout) (blocks q.layout q.tree.items) = subst (λ s. All (HasSize s) (blocks s q.tree.items)) (sym w.layout) first in
    let laid : All (HasSize q.layout) q.statics = subst (λ os. All (HasSize q.layout) os) (sym w.statics) (placed_sized q.layout (blocks q.layout q.tree.items) data_start typed) in
    let kept = is_bounded q p j.has_bounds in
    subst (λ s. All (HasSize s) p.statics) (sym kept.layout) (subst (λ os. All (HasSize q.layout) os) (sym kept.statics) laid)
