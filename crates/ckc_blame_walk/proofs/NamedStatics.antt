-- The bounds of a member name a member of the same structure.
use Rattle.std.proofs.Common.{◌≡◌, ◌∙◌, sym, ap, subst, refl, ℕ, ℤ, ◌==◌, Bool, true, false, List, [], ◌∷◌, map}
use Rattle.std.specs.Prelude.{if◌then◌else◌, find, unwrap_or, Option, Some, None, IsSome}
use Rattle.std.specs.List.{All, AllByRecursion}
use Rattle.std.proofs.lemmas.Bool.{eqb-true, eq-eqb}
use Rattle.std.proofs.lemmas.List.Elements.{All-nil, All-cons, All-head, All-tail, All-contains}
use Rattle.ckc_base.specs.declared.arithmetic.Mode.{Mode}
use Rattle.ckc_base.specs.declared.arithmetic.Mode.TheVariants.{Unchecked}
use Rattle.ckc_types.specs.declared.types.MemberBounds.TheVariants as bounds
use Rattle.ckc_types.specs.declared.types.MemberShape.{MemberShape}
use Rattle.ckc_types.specs.declared.types.Structs.{Structs}
use Rattle.ckc_syntax.specs.declared.tree.Name.{Name}
use Rattle.ckc_syntax.specs.declared.tree.Name.TheVariants as name
use Rattle.ckc_syntax.specs.declared.tree.Item.TheVariants as item
use Rattle.ckc_resolve.specs.declared.names.Names.{Names}
use Rattle.ckc_resolve.specs.Scoping.{no_names, names_of}
use Rattle.ckc_resolve.specs.Trees as trees
use Rattle.ckc_typed.specs.declared.environment.Globals.{Globals}
use Rattle.ckc_typed.specs.declared.environment.Object.{Object}
use Rattle.ckc_typed.specs.declared.environment.Variable.{Variable}
use Rattle.ckc_typed.specs.declared.typed.Typed.{Typed}
use Rattle.ckc_typed.specs.Trees.{Decl, Item, Tree, NotedDecl, NotedItem}
use Rattle.ckc_typed.specs.Types.{type_written}
use Rattle.ckc_typed.specs.Environment.{same_name, variable_declared, object_declared, objects_of, variable_named, object_named, is_member_named, or_variable, type_of_name}
use Rattle.ckc_typed.specs.Layouts.{member_number, bounds_of, bare_structs, bounded_member, members_declared, structs_of}
use Rattle.ckc_typed.specs.Texts.{globals_of}
use Rattle.ckc_typed.specs.Walk.{pragma_after}
use Rattle.ckc_typed_fit.proofs.NamedItems as items
use Rattle.ckc_typed_fit.proofs.NamedItems.{ItemNamed, ItemsNamed, text_is}
use Rattle.ckc_typed_plain.proofs.Items.{resolved_of, all_items}
use Rattle.ckc_typed_welltyped.specs.Noteless.{bare_decl, bare_item, without_notes}
use Rattle.ckc_typed_welltyped.specs.Declarations.{WellTypedBare}
use Rattle.ckc_typed_welltyped.specs.Texts.{WellTypedItem, WellTypedItems, members_seen}
use Rattle.ckc_blame_sound.specs.JudgedTexts.{IsJudged}
use Rattle.ckc_blame_sound.proofs.Bounded.{layout_kept}
use Rattle.ckc_blame_sound.proofs.Members.{members_are}
use Rattle.ckc_blame_walk.specs.Ready.{NameMembers}
use Rattle.ckc_blame_walk.proofs.MemberBounds.{bounds_typed}

-- ---- names of objects

-- an object has the name of an object
abbrev pub HasStatic : Item → Type 0
HasStatic (item.Static d) = (n : ℕ) × (d.name ≡ name.Static n)
HasStatic i = Unit {0}

item_static : (names : Names) (all : List trees.Item) (before : Names) (i : trees.Item) (j : Item) → ItemNamed names all before i j → HasStatic j
item_static names all before i j (items.directive d) = tt
item_static names all before i j (items.tag s pos) = tt
item_static names all before i j (items.struct s pos hs) = tt
item_static names all before i j (items.static g new) = (_, g.named)
item_static names all before i j (items.proto q there) = tt
item_static names all before i j (items.function q new made) = tt

pub items_static : (names : Names) (all : List trees.Item) (before : Names) (is : List trees.Item) (js : List Item) → ItemsNamed names all before is js → All HasStatic js
items_static names all before is js items.none = All-nil HasStatic
items_static names all before is js (items.more {i = i} {j = j} {is = others} {js = rest} k ks) =
    All-cons HasStatic j rest (item_static names all before i j k) (items_static names all _ others rest ks)

no_object : (js : List Item) (k : ℕ) → All HasStatic js → find (λ (o : Object). same_name o.name (name.Member k)) (objects_of js) ≡ None
no_object [] k h = refl
no_object (item.Static d ∷ js) k h =
    let is = All-head HasStatic (item.Static d) js h in
    let not : same_name d.name (name.Member k) ≡ false = ap (λ n. same_name n (name.Member k)) is.1 in
    ap (λ b. if b then Some (object_declared d) else find (λ (o : Object). same_name o.name (name.Member k)) (objects_of js)) not ∙ no_object js k (All-tail HasStatic (item.Static d) js h)
no_object (item.Directive d ∷ js) k h = no_object js k (All-tail HasStatic (item.Directive d) js h)
no_object (item.Tag n at ∷ js) k h = no_object js k (All-tail HasStatic (item.Tag n at) js h)
no_object (item.Struct n ms at ∷ js) k h = no_object js k (All-tail HasStatic (item.Struct n ms at) js h)
no_object (item.Proto g ∷ js) k h = no_object js k (All-tail HasStatic (item.Proto g) js h)
no_object (item.Function g body ∷ js) k h = no_object js k (All-tail HasStatic (item.Function g body) js h)

-- ---- members by their names

abbrev member_in : List MemberShape → ℕ → Option MemberShape
member_in ms k = find (λ (m : MemberShape). is_member_named (name.Member k) m.name) ms

is_number : (n : Name) (k : ℕ) → same_name n (name.Member k) ≡ true → member_number n ≡ k
is_number (name.Member m) k e = eqb-true m k e
is_number n k e = absurd cc

member_found : (structs : Structs) (ds : List Decl) (k : ℕ) (v : Variable) → find (λ (v : Variable). same_name v.name (name.Member k)) (map variable_declared ds) ≡ Some v
    → IsSome (member_in (map (bounded_member structs) ds) k)
member_found structs [] k v e = absurd cc
member_found structs (d ∷ ds) k v e = by (same_name d.name (name.Member k)) refl e (λ f. member_found structs ds k v f)
  where
    or_later : (b : Bool) → IsSome (member_in (map (bounded_member structs) ds) k)
        → IsSome (if b then Some (bounded_member structs d) else member_in (map (bounded_member structs) ds) k)
    or_later true h = refl
    or_later false h = h

    by : (b : Bool) → same_name d.name (name.Member k) ≡ b → (if b then Some (variable_declared d) else find (λ (v : Variable). same_name v.name (name.Member k)) (map variable_declared ds)) ≡ Some v
        → (find (λ (v : Variable). same_name v.name (name.Member k)) (map variable_declared ds) ≡ Some v → IsSome (member_in (map (bounded_member structs) ds) k))
        → IsSome (member_in (map (bounded_member structs) (d ∷ ds)) k)
    by true f g later =
        let here : (k == member_number d.name) ≡ true = eq-eqb k (member_number d.name) (sym (is_number d.name k f)) in
        subst (λ b. IsSome (if b then Some (bounded_member structs d) else member_in (map (bounded_member structs) ds) k)) (sym here) refl
    by false f g later = or_later (k == member_number d.name) (later g)

-- ---- members whose bounds name members

module _ (js : List Item) (statics : All HasStatic js) where
  abbrev globals : Globals
  globals = globals_of js

  abbrev structs : Structs
  structs = bare_structs js

  abbrev NamesOwn : List Decl → Decl → Type 0
  NamesOwn ds d = (k : ℕ) (c : ℤ) → bounds_of structs (type_written d.ctype) d.bounds ≡ bounds.Named k c → IsSome (type_of_name globals (map variable_declared ds) (name.Member k))

  abbrev OwnNames : Item → Type 0
  OwnNames (item.Struct n ds at) = All (NamesOwn ds) ds
  OwnNames i = Unit {0}

  members_own : (mode : Mode) (all ms : List NotedDecl) → AllByRecursion (WellTypedBare globals (members_seen all) mode) ms → All (NamesOwn (map bare_decl all)) (map bare_decl ms)
  members_own mode all [] w = All-nil (NamesOwn (map bare_decl all))
  members_own mode all (d ∷ ms) w =
      All-cons (NamesOwn (map bare_decl all)) (bare_decl d) (map bare_decl ms)
      (λ k c e. bounds_typed globals (members_seen all) mode structs (type_written d.ctype) d.bounds k c w.0.parts.bounds e)
      (members_own mode all ms w.1)

  item_own : (mode : Mode) (i : NotedItem) → WellTypedItem globals mode i → OwnNames (bare_item i)
  item_own mode (item.Struct n ms at) w = members_own mode ms ms w
  item_own mode (item.Directive d) w = tt
  item_own mode (item.Tag n at) w = tt
  item_own mode (item.Static d) w = tt
  item_own mode (item.Proto h) w = tt
  item_own mode (item.Function h body) w = tt

  items_own : (mode : Mode) (is : List NotedItem) → WellTypedItems globals mode is → All OwnNames (map bare_item is)
  items_own mode [] w = All-nil OwnNames
  items_own mode (i ∷ is) w = All-cons OwnNames (bare_item i) (map bare_item is) (item_own mode i w.0) (items_own (pragma_after mode (bare_item i)) is w.1)

  abbrev Own : List Decl → Type 0
  Own ds = All (NamesOwn ds) ds

  declared_own : (is : List Item) (tag : Name) → All OwnNames is → Own (members_declared is tag)
  declared_own [] tag h = All-nil (NamesOwn [])
  declared_own (item.Struct n ds at ∷ is) tag h =
      by (same_name n tag) (All-head OwnNames (item.Struct n ds at) is h) (declared_own is tag (All-tail OwnNames (item.Struct n ds at) is h))
    where
      by : (b : Bool) → Own ds → Own (members_declared is tag) → Own (unwrap_or (if b then Some ds else None) (members_declared is tag))
      by true own rest = own
      by false own rest = rest
  declared_own (item.Directive d ∷ is) tag h = declared_own is tag (All-tail OwnNames (item.Directive d) is h)
  declared_own (item.Tag n at ∷ is) tag h = declared_own is tag (All-tail OwnNames (item.Tag n at) is h)
  declared_own (item.Static d ∷ is) tag h = declared_own is tag (All-tail OwnNames (item.Static d) is h)
  declared_own (item.Proto g ∷ is) tag h = declared_own is tag (All-tail OwnNames (item.Proto g) is h)
  declared_own (item.Function g body ∷ is) tag h = declared_own is tag (All-tail OwnNames (item.Function g body) is h)

  found_own : (ds : List Decl) (k : ℕ) → IsSome (type_of_name globals (map variable_declared ds) (name.Member k)) → IsSome (member_in (map (bounded_member structs) ds) k)
  found_own ds k h = by (variable_named (map variable_declared ds) (name.Member k)) refl h
    where
      by : (o : Option Variable) → variable_named (map variable_declared ds) (name.Member k) ≡ o → IsSome (or_variable o (object_named globals (name.Member k)))
          → IsSome (member_in (map (bounded_member structs) ds) k)
      by (Some v) e g = member_found structs ds k v e
      by None e g = let none = subst (λ (o : Option Object). IsSome (or_variable None o)) (no_object js k statics) g in absurd cc

  abbrev IsNaming : List MemberShape → MemberShape → Type 0
  IsNaming ms m = (k : ℕ) (c : ℤ) → m.bounds ≡ bounds.Named k c → IsSome (member_in ms k)

  shapes_named : (all ds : List Decl) → All (NamesOwn all) ds → All (IsNaming (map (bounded_member structs) all)) (map (bounded_member structs) ds)
  shapes_named all [] h = All-nil (IsNaming (map (bounded_member structs) all))
  shapes_named all (d ∷ ds) h =
      All-cons (IsNaming (map (bounded_member structs) all)) (bounded_member structs d) (map (bounded_member structs) ds)
      (λ k c e. found_own all k (All-head (NamesOwn all) d ds h k c e)) (shapes_named all ds (All-tail (NamesOwn all) d ds h))

  all_named : All OwnNames js → NameMembers (structs_of js)
  all_named own tag k c m there e =
      let named = members_are js tag (λ ms. All (IsNaming ms) ms) (All-nil (IsNaming []))
      (shapes_named (members_declared js (name.Tag tag)) (members_declared js (name.Tag tag)) (declared_own js (name.Tag tag) own)) in
      All-contains (IsNaming _) _ m named there k c e

pub members_named : (p : Typed) → IsJudged p → NameMembers p.layout
members_named p j =
    let q = j.typed in
    let w = j.has_types.typed in
    let js = (without_notes q.tree).items in
    let same : js ≡ j.named.tree.items = ap (λ (t : Tree). t.items) j.has_types.tree in
    let statics : All HasStatic js = subst (λ (is : List Item). All HasStatic is) (sym same)
    (let r = resolved_of j.spelled j.named j.has_names in
    all_items j.spelled j.named r HasStatic (λ h b c k. k) (items_static (names_of j.spelled) j.spelled.items no_names j.spelled.items r.resolved.tree.items (text_is j.spelled r.resolved r.has_names).items)) in
    let named : NameMembers (structs_of js) = all_named js statics (items_own js statics Unchecked q.tree.items w.items) in
    subst NameMembers (sym (layout_kept q p j.has_bounds ∙ w.layout)) named
