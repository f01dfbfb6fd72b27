-- The members of a structure have names of their own.
use Rattle.std.proofs.Common.{◌≡◌, ◌≢◌, ◌∙◌, sym, ap, subst, refl, ℕ, zero, suc, List, [], ◌∷◌, ◌++◌, map, length, length-append, inl, inr, arith}
use Rattle.std.specs.Prelude.{◌⊎◌, All, Bool, true, false, if◌then◌else◌, Option, Some, None, Ok, unwrap_or, slice_get}
use Rattle.std.specs.List.{flat_map}
use Rattle.std.proofs.lemmas.List.Elements.{All-nil, All-cons, All-head, All-tail}
use Rattle.ckc_types.specs.declared.types.MemberShape.{MemberShape}
use Rattle.ckc_types.specs.declared.types.StructShape.{StructShape}
use Rattle.ckc_types.specs.declared.types.Structs.{Structs}
use Rattle.ckc_types.specs.Layout.{members_in, members_of}
use Rattle.ckc_syntax.specs.declared.tree.Name.{Name}
use Rattle.ckc_syntax.specs.declared.tree.Name.TheVariants as name
use Rattle.ckc_syntax.specs.declared.tree.Item.TheVariants as item
use Rattle.ckc_syntax.specs.declared.tree.NamedText.{NamedText}
use Rattle.ckc_resolve.specs.declared.names.Names.{Names}
use Rattle.ckc_resolve.specs.declared.scopes.Scopes.{Scopes}
use Rattle.ckc_resolve.specs.Spellings.{Spelling, number_of}
use Rattle.ckc_resolve.specs.Scoping.{no_names, names_of}
use Rattle.ckc_resolve.specs.Phase.{text_named}
use Rattle.ckc_resolve.specs.Trees.{Tree, Item, Decl, NamedTree, NamedDecl, NamedItem}
use Rattle.ckc_typed.specs.declared.typed.Typed.{Typed}
use Rattle.ckc_typed.specs.Environment.{same_name}
use Rattle.ckc_typed.specs.Layouts.{member_number, members_in_item, members_declared, shape_of, shapes_below, tag_count, bare_structs, bounded_member, structs_of}
use Rattle.ckc_typed_fit.specs.Members.{AreDifferent, decl_member, member_in, item_members}
use Rattle.ckc_plain.specs.Phase.{resolving}
use Rattle.ckc_typed_fit.proofs.MembersDiffer.{members_differ}
use Rattle.ckc_typed_fit.proofs.NamedItems as items
use Rattle.ckc_typed_fit.proofs.NamedItems.{MembersNamed, ItemNamed, ItemsNamed, text_is}
use Rattle.ckc_typed_plain.proofs.Items.{resolved_of, all_items}
use Rattle.ckc_blame_sound.specs.Cells.{HaveOwnNames}
use Rattle.ckc_blame_sound.specs.JudgedTexts.{IsJudged}
use Rattle.ckc_blame_sound.proofs.Bounded.{layout_kept}

abbrev pub numbers_of : List NamedDecl → List ℕ
numbers_of ds = map (λ (d : NamedDecl). member_number d.name) ds

-- ---- what is named

members_numbered : (names : Names) (scope : Scopes) (before : List Spelling) (ds : List Decl) (es : List NamedDecl) → MembersNamed names scope before ds es
    → flat_map decl_member es ≡ numbers_of es
members_numbered names scope before ds es items.no_members = refl
members_numbered names scope before ds es (items.member {d = d} {e = e} {es = rest} h new hs) =
    ap (λ n. member_in n ++ flat_map decl_member rest) h.named ∙ ap (λ ns. number_of names.members d.name ∷ ns) (members_numbered names scope _ _ rest hs)
    ∙ ap (λ n. member_number n ∷ numbers_of rest) (sym h.named)

-- the members of a structure have different numbers
abbrev pub HasOwn : NamedItem → Type 0
HasOwn (item.Struct n members at) = AreDifferent (numbers_of members)
HasOwn i = Unit {0}

item_own : (names : Names) (all : List Item) (before : Names) (i : Item) (j : NamedItem) → ItemNamed names all before i j → AreDifferent (item_members j) → HasOwn j
item_own names all before i j (items.directive d) h = tt
item_own names all before i j (items.tag s pos) h = tt
item_own names all before i j (items.struct {ds = ds} {es = es} s pos hs) h = subst AreDifferent (members_numbered names _ [] ds es hs) h
item_own names all before i j (items.static g new) h = tt
item_own names all before i j (items.proto is there) h = tt
item_own names all before i j (items.function is new made) h = tt

abbrev Differ : NamedItem → Type 0
Differ i = AreDifferent (item_members i)

items_own : (names : Names) (all : List Item) (before : Names) (is : List Item) (js : List NamedItem) → ItemsNamed names all before is js → All Differ js → All HasOwn js
items_own names all before is js items.none h = All-nil HasOwn
items_own names all before is js (items.more {i = i} {j = j} {is = others} {js = rest} k ks) h =
    All-cons HasOwn j rest (item_own names all before i j k (All-head Differ j rest h)) (items_own names all _ others rest ks (All-tail Differ j rest h))

-- ---- what is declared for a tag

members_own : (js : List NamedItem) (tag : Name) → All HasOwn js → AreDifferent (numbers_of (members_declared js tag))
members_own [] tag h = tt
members_own (j ∷ js) tag h = by (members_in_item tag j) refl (members_own js tag (All-tail HasOwn j js h))
  where
    first : (i : NamedItem) (ds : List NamedDecl) → HasOwn i → members_in_item tag i ≡ Some ds → AreDifferent (numbers_of ds)
    first (item.Struct n members at) ds own e = one (same_name n tag) e
      where
        one : (b : Bool) → (if b then Some members else None) ≡ Some ds → AreDifferent (numbers_of ds)
        one true f = let same : members ≡ ds = cc in subst (λ (es : List NamedDecl). AreDifferent (numbers_of es)) same own
        one false f = absurd cc
    first (item.Directive d) ds own e = absurd cc
    first (item.Tag n at) ds own e = absurd cc
    first (item.Static d) ds own e = absurd cc
    first (item.Proto g) ds own e = absurd cc
    first (item.Function g body) ds own e = absurd cc

    by : (o : Option (List NamedDecl)) → members_in_item tag j ≡ o → AreDifferent (numbers_of (members_declared js tag))
        → AreDifferent (numbers_of (unwrap_or o (members_declared js tag)))
    by None e rest = rest
    by (Some ds) e rest = first j ds (All-head HasOwn j js h) e

-- ---- shapes

-- what stands at a place of a list with one more at its end
at_end : {A : Type 0} (xs : List A) (y : A) (k : ℕ) (s : A) → slice_get (xs ++ y ∷ []) k ≡ Some s → (slice_get xs k ≡ Some s) ⊎ ((k ≡ length xs) × (s ≡ y))
at_end [] y zero s e = let same : y ≡ s = cc in inr (refl, sym same)
at_end [] y (suc k) s e = absurd cc
at_end (x ∷ xs) y zero s e = inl e
at_end {A} (x ∷ xs) y (suc k) s e = elim (at_end xs y k s e) [ inl f ↦ inl f | inr f ↦ inr (ap suc f.0, f.1) ]

length_below : (shape : ℕ → StructShape) (n : ℕ) → length (shapes_below shape n) ≡ n
length_below shape zero = refl
length_below shape (suc n) = let h = length_below shape n in length-append (shapes_below shape n) (shape n ∷ []) ∙ omega (arith, h)

-- the shape with a number is the one that is made for it
shape_below : (shape : ℕ → StructShape) (n k : ℕ) (s : StructShape) → slice_get (shapes_below shape n) k ≡ Some s → s ≡ shape k
shape_below shape zero k s e = absurd cc
shape_below shape (suc n) k s e = elim (at_end (shapes_below shape n) (shape n) k s e) [
  | inl f ↦ shape_below shape n k s f
  | inr f ↦ f.1 ∙ ap shape (sym (f.0 ∙ length_below shape n))
]

pub members_are : (js : List NamedItem) (tag : ℕ) (P : List MemberShape → Type 0) → P [] → P (map (bounded_member (bare_structs js)) (members_declared js (name.Tag tag))) → P (members_of (structs_of js) tag)
members_are js tag P none some = by (slice_get (structs_of js).shapes tag) refl
  where
    by : (o : Option StructShape) → slice_get (structs_of js).shapes tag ≡ o → P (members_in o)
    by None e = none
    by (Some s) e = let is : s ≡ shape_of (bounded_member (bare_structs js)) js tag = shape_below (shape_of (bounded_member (bare_structs js)) js) (tag_count js) tag s e in
        subst (λ (x : StructShape). P x.members) (sym is) some

-- ---- names of their own

shape_numbers : (structs : Structs) (ds : List NamedDecl) → map (λ (m : MemberShape). m.name) (map (bounded_member structs) ds) ≡ numbers_of ds
shape_numbers structs [] = refl
shape_numbers structs (d ∷ ds) = ap (λ ns. member_number d.name ∷ ns) (shape_numbers structs ds)

abbrev NamesIn : List MemberShape → List ℕ
NamesIn ms = map (λ (m : MemberShape). m.name) ms

-- what is so of all is so of one after some others
later : (n : ℕ) (front back : List MemberShape) (m : MemberShape) → All (λ k. k ≢ n) (NamesIn (front ++ m ∷ back)) → m.name ≢ n
later n [] back m h = All-head (λ k. k ≢ n) m.name (NamesIn back) h
later n (f ∷ fs) back m h = later n fs back m (All-tail (λ k. k ≢ n) f.name (NamesIn (fs ++ m ∷ back)) h)

own_names : (front back : List MemberShape) (m : MemberShape) → AreDifferent (NamesIn (front ++ m ∷ back)) → All (λ (n : MemberShape). n.name ≢ m.name) front
own_names [] back m h = All-nil (λ (n : MemberShape). n.name ≢ m.name)
own_names (f ∷ fs) back m h = All-cons (λ (n : MemberShape). n.name ≢ m.name) f fs (λ e. later f.name fs back m h.0 (sym e)) (own_names fs back m h.1)

named_own : (tree : Tree) (n : NamedText) → text_named tree ≡ Ok n → All HasOwn n.tree.items
named_own tree n e = items_own (names_of tree) tree.items no_names tree.items n.tree.items (text_is tree n e).items (members_differ tree n e)

plain_own : (tree : Tree) (n : NamedText) → resolving.Makes tree n → All HasOwn n.tree.items
plain_own tree n m = let r = resolved_of tree n m in all_items tree n r HasOwn (λ h b c own. own) (named_own tree r.resolved r.has_names)

structs_own : (js : List NamedItem) → All HasOwn js → HaveOwnNames (structs_of js)
structs_own js own tag front back m split =
    own_names front back m
    (subst (λ (ms : List MemberShape). AreDifferent (NamesIn ms)) split
    (members_are js tag (λ ms. AreDifferent (NamesIn ms)) tt
    (subst AreDifferent (sym (shape_numbers (bare_structs js) (members_declared js (name.Tag tag)))) (members_own js (name.Tag tag) own))))

pub have_own_names : (p : Typed) → IsJudged p → HaveOwnNames p.layout
have_own_names p j =
    let same : p.layout ≡ structs_of j.named.tree.items =
    layout_kept j.typed p j.has_bounds ∙ j.has_types.typed.layout ∙ ap (λ (t : NamedTree). structs_of t.items) j.has_types.tree in
    subst HaveOwnNames (sym same) (structs_own j.named.tree.items (plain_own j.spelled j.named j.has_names))
