-- The members of a structure have different numbers.
use Rattle.std.proofs.Common.{◌≡◌, ◌∙◌, sym, ap, refl, subst, true, List, [], ◌∷◌, ◌++◌}
use Rattle.std.specs.Prelude.{Ok, All, fold}
use Rattle.std.specs.List.{flat_map}
use Rattle.std.proofs.lemmas.List.Elements.{All-nil, All-cons, All-head, All-tail}
use Rattle.ckc_syntax.specs.declared.tree.Item.TheVariants as item
use Rattle.ckc_syntax.specs.declared.tree.NamedText.{NamedText}
use Rattle.ckc_resolve.specs.declared.names.Names.{Names}
use Rattle.ckc_resolve.specs.declared.scopes.Scopes.{Scopes}
use Rattle.ckc_resolve.specs.Spellings.{Spelling, is_among, with_spelling}
use Rattle.ckc_resolve.specs.Trees.{Tree, Item, Decl, NamedDecl, NamedItem}
use Rattle.ckc_resolve.specs.Scoping.{noted, no_names, names_of, with_member}
use Rattle.ckc_resolve.specs.Phase.{text_named}
use Rattle.ckc_typed_fit.specs.Members.{AreDifferent, member_in, decl_member, item_members}
use Rattle.ckc_typed_fit.proofs.Spelt.{Grows, grows_none, grows_trans, spelling_more, among_more, among_with}
use Rattle.ckc_typed_fit.proofs.Different.{Fresh, fresh_none, fresh_more, known_more}
use Rattle.ckc_typed_fit.proofs.NamedItems as items
use Rattle.ckc_typed_fit.proofs.NamedItems.{MembersNamed, ItemNamed, ItemsNamed, text_is}
use Rattle.ckc_typed_fit.proofs.Numbered.{all_grow}

-- ---- the members of one structure

members_fresh : (names : Names) (scope : Scopes) (before : List Spelling) (ds : List Decl) (es : List NamedDecl) → MembersNamed names scope before ds es
    → ((s : Spelling) → is_among before s ≡ true → is_among names.members s ≡ true) → All (λ (d : Decl). is_among names.members d.name ≡ true) ds
    → Fresh names.members before (flat_map decl_member es)
members_fresh names scope before ds es items.no_members known there = fresh_none names.members before
members_fresh names scope before ds es (items.member {d = d} {e = e} {ds = more} {es = rest} h new hs) known there =
    let here : is_among names.members d.name ≡ true = All-head (λ (d : Decl). is_among names.members d.name ≡ true) d more there in
    subst (λ ns. Fresh names.members before (ns ++ flat_map decl_member rest)) (sym (ap member_in h.named))
    (fresh_more names.members before d.name (flat_map decl_member rest) new known here
    (members_fresh names scope (with_spelling before d.name) more rest hs (known_more names.members before d.name known here) (All-tail (λ (d : Decl). is_among names.members d.name ≡ true) d more there)))

-- ---- the members of all structures

members_grow : (ds : List Decl) (ms : List Spelling) → Grows ms (fold with_member ms ds)
members_grow [] ms = grows_none ms
members_grow (d ∷ ds) ms =
    grows_trans ms (with_member ms d) (fold with_member (with_member ms d) ds) (spelling_more ms d.name) (members_grow ds (with_member ms d))

members_there : (ds : List Decl) (ms all : List Spelling) → Grows (fold with_member ms ds) all → All (λ (d : Decl). is_among all d.name ≡ true) ds
members_there [] ms all more = All-nil (λ (d : Decl). is_among all d.name ≡ true)
members_there (d ∷ ds) ms all more =
    All-cons (λ (e : Decl). is_among all e.name ≡ true) d ds
    (among_more d.name (with_member ms d) all (grows_trans (with_member ms d) (fold with_member (with_member ms d) ds) all (members_grow ds (with_member ms d)) more) (among_with d.name ms))
    (members_there ds (with_member ms d) all more)

noted_more : (before : Names) (i : Item) → Grows before.members (noted before i).members
noted_more before (item.Directive d) = grows_none before.members
noted_more before (item.Tag s pos) = grows_none before.members
noted_more before (item.Struct s members pos) = members_grow members before.members
noted_more before (item.Static d) = grows_none before.members
noted_more before (item.Proto h) = grows_none before.members
noted_more before (item.Function h body) = grows_none before.members

module _ (names : Names) (all : List Item) where
  abbrev Differ : NamedItem → Type 0
  Differ i = AreDifferent (item_members i)

  item_differs : (before : Names) (i : Item) (j : NamedItem) → ItemNamed names all before i j → Grows (noted before i).members names.members → Differ j
  item_differs before i j (items.directive d) more = tt
  item_differs before i j (items.tag s pos) more = tt
  item_differs before i j (items.struct {ds = ds} {es = es} s pos hs) more =
      (members_fresh names _ [] ds es hs (λ s h. absurd cc) (members_there ds before.members names.members more)).differ
  item_differs before i j (items.static h new) more = tt
  item_differs before i j (items.proto is there) more = tt
  item_differs before i j (items.function is new made) more = tt

  items_differ : (before : Names) (is : List Item) (js : List NamedItem) → ItemsNamed names all before is js → (fold noted before is).members ≡ names.members → All Differ js
  items_differ before is js items.none e = All-nil Differ
  items_differ before is js (items.more {i = i} {j = j} {is = others} {js = rest} k ks) e =
      let m = all_grow (λ (n : Names). n.members) noted_more others (noted before i) in
      All-cons Differ j rest (item_differs before i j k (m.0, sym e ∙ m.1)) (items_differ (noted before i) others rest ks e)

-- the members of each structure have different numbers
pub members_differ : (tree : Tree) (n : NamedText) → text_named tree ≡ Ok n → All (λ i. AreDifferent (item_members i)) n.tree.items
members_differ tree n e = items_differ (names_of tree) tree.items no_names tree.items n.tree.items (text_is tree n e).items refl
