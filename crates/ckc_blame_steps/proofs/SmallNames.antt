-- Members are numbered in the order of a text, so a small text has small numbers.
use Rattle.std.proofs.Common.{◌≡◌, ◌∙◌, sym, ap, subst, arith, refl, not, cond, ℕ, ◌+◌, ◌<◌, ◌≤◌, ◌^◌, Bool, true, false, List, [], ◌∷◌, ◌++◌, map, length, length-append}
use Rattle.std.specs.Prelude.{All, Option, Some, None, if◌then◌else◌, fold, unwrap_or}
use Rattle.std.specs.List.{flat_map, prefix_len}
use Rattle.std.specs.Str.{bytes_eq}
use Rattle.std.proofs.lemmas.List.Elements.{All-nil, All-cons, All-head, All-tail, All-contains}
use Rattle.ckc_types.specs.declared.types.MemberShape.{MemberShape}
use Rattle.ckc_types.specs.declared.types.Structs.{Structs}
use Rattle.ckc_types.specs.Layout.{members_of}
use Rattle.ckc_syntax.specs.declared.tree.Name.{Name}
use Rattle.ckc_syntax.specs.declared.tree.Name.TheVariants as name
use Rattle.ckc_syntax.specs.declared.tree.Item.TheVariants as item
use Rattle.ckc_syntax.specs.Inside.{listed, inside_each}
use Rattle.ckc_syntax_limits.specs.Marks.{Mark, is_node, marks_of_decl, marks_of_item, marks_of}
use Rattle.ckc_syntax_limits.specs.Small.{Small}
use Rattle.ckc_resolve.specs.declared.names.Names.{Names}
use Rattle.ckc_resolve.specs.declared.scopes.Scopes.{Scopes}
use Rattle.ckc_resolve.specs.Spellings.{Spelling, is_among, with_spelling, number_of}
use Rattle.ckc_resolve.specs.Scoping.{noted, no_names, names_of, with_member}
use Rattle.ckc_resolve.specs.Trees.{Item, Decl, NamedTree, NamedDecl, NamedItem}
use Rattle.ckc_typed.specs.declared.typed.Typed.{Typed}
use Rattle.ckc_typed.specs.Environment.{same_name}
use Rattle.ckc_typed.specs.Layouts.{member_number, members_in_item, members_declared, bare_structs, bounded_member, structs_of}
use Rattle.ckc_typed_fit.proofs.NamedItems as items
use Rattle.ckc_typed_fit.proofs.NamedItems.{MembersNamed, ItemNamed, ItemsNamed, text_is}
use Rattle.ckc_typed_plain.proofs.Items.{resolved_of, all_items}
use Rattle.ckc_plain.specs.ckc_plain_barred.specs.declared.integers.Integers.{Integers}
use Rattle.ckc_plain.specs.ckc_plain_barred.specs.Integers.{known_of}
use Rattle.ckc_plain.specs.ckc_plain_bodies.specs.Statements.{item_plain}
use Rattle.ckc_blame_sound.specs.JudgedTexts.{IsJudged}
use Rattle.ckc_blame_sound.proofs.Bounded.{layout_kept}
use Rattle.ckc_blame_sound.proofs.Members.{members_are}
use Rattle.ckc_blame_sound.proofs.Tallies.{tally, is_tally, tally-append}
use Rattle.ckc_blame_given.specs.Together.{HaveSmallNames}

-- ---- spellings are numbered by their places

number_small : (s : Spelling) (ss : List Spelling) → number_of ss s ≤ length ss
number_small s [] = omega arith
number_small s (x ∷ xs) = by (bytes_eq s x) (number_small s xs)
  where
    by : (b : Bool) → number_of xs s ≤ length xs → cond (not b) (1 + prefix_len (λ y. not (bytes_eq s y)) xs) 0 ≤ length (x ∷ xs)
    by true h = omega arith
    by false h = let less : prefix_len (λ y. not (bytes_eq s y)) xs ≤ length xs = h in omega (arith, less)

spelling_longer : (ss : List Spelling) (s : Spelling) → length (with_spelling ss s) ≤ length ss + 1
spelling_longer ss s = by (is_among ss s)
  where
    by : (b : Bool) → length (cond b ss (ss ++ s ∷ [])) ≤ length ss + 1
    by true = omega arith
    by false = omega (arith, length-append ss (s ∷ []))

-- ---- there are no more of them than declarations of members

abbrev nodes : List Mark → ℕ
nodes ms = tally is_node ms

abbrev marks_of_members : List NamedDecl → List Mark
marks_of_members es = inside_each listed (λ (d : NamedDecl). marks_of_decl d) es

members_few : (names : Names) (scope : Scopes) (before : List Spelling) (ds : List Decl) (es : List NamedDecl) (ms : List Spelling) → MembersNamed names scope before ds es
    → length (fold with_member ms ds) ≤ length ms + nodes (marks_of_members es)
members_few names scope before ds es ms items.no_members = omega arith
members_few names scope before ds es ms (items.member {d = d} {e = e} {ds = more} {es = rest} h new hs) =
    let later = members_few names scope _ more rest (with_member ms d) hs in
    let one = spelling_longer ms d.name in
    let parts = tally-append is_node (marks_of_decl e) (marks_of_members rest) in
    omega (arith, later, one, parts)

module _ (names : Names) (all : List Item) where
  -- the bodies of functions declare none, whatever they become
  item_few : (known : Integers) (before : Names) (i : Item) (j : NamedItem) → ItemNamed names all before i j → length (noted before i).members ≤ length before.members + nodes (marks_of_item (item_plain known j))
  item_few known before i j (items.directive d) = omega arith
  item_few known before i j (items.tag s pos) = omega arith
  item_few known before i j (items.struct {ds = ds} {es = es} s pos hs) = members_few names _ [] ds es before.members hs
  item_few known before i j (items.static h new) = omega arith
  item_few known before i j (items.proto is there) = omega arith
  item_few known before i j (items.function is new made) = omega arith

  items_few : (known : Integers) (before : Names) (is : List Item) (js : List NamedItem) → ItemsNamed names all before is js
      → length (fold noted before is).members ≤ length before.members + nodes (flat_map (λ (j : NamedItem). marks_of_item j) (map (item_plain known) js))
  items_few known before is js items.none = omega arith
  items_few known before is js (items.more {i = i} {j = j} {is = others} {js = rest} k ks) =
      let one = item_few known before i j k in
      let later = items_few known (noted before i) others rest ks in
      omega (arith, one, later, tally-append is_node (marks_of_item (item_plain known j)) (flat_map (λ (j : NamedItem). marks_of_item j) (map (item_plain known) rest)))

  -- ---- the numbers of members

  abbrev IsSmall : NamedDecl → Type 0
  IsSmall d = member_number d.name ≤ length names.members

  abbrev HasSmall : NamedItem → Type 0
  HasSmall (item.Struct n members at) = All IsSmall members
  HasSmall i = Unit {0}

  members_small : (scope : Scopes) (before : List Spelling) (ds : List Decl) (es : List NamedDecl) → MembersNamed names scope before ds es → All IsSmall es
  members_small scope before ds es items.no_members = All-nil IsSmall
  members_small scope before ds es (items.member {d = d} {e = e} {ds = more} {es = rest} h new hs) =
      All-cons IsSmall e rest (subst (λ n. member_number n ≤ length names.members) (sym h.named) (number_small d.name names.members)) (members_small scope _ more rest hs)

  item_small : (before : Names) (i : Item) (j : NamedItem) → ItemNamed names all before i j → HasSmall j
  item_small before i j (items.directive d) = tt
  item_small before i j (items.tag s pos) = tt
  item_small before i j (items.struct {ds = ds} {es = es} s pos hs) = members_small _ [] ds es hs
  item_small before i j (items.static h new) = tt
  item_small before i j (items.proto is there) = tt
  item_small before i j (items.function is new made) = tt

  items_small : (before : Names) (is : List Item) (js : List NamedItem) → ItemsNamed names all before is js → All HasSmall js
  items_small before is js items.none = All-nil HasSmall
  items_small before is js (items.more {i = i} {j = j} {is = others} {js = rest} k ks) = All-cons HasSmall j rest (item_small before i j k) (items_small (noted before i) others rest ks)

-- ---- what is so of each member that is declared is so of those of a tag

pub members_have : (P : NamedDecl → Type 0) (Q : NamedItem → Type 0) → ((n : Name) (ds : List NamedDecl) (i : NamedItem) → Q i → members_in_item n i ≡ Some ds → All P ds)
    → (js : List NamedItem) (tag : Name) → All Q js → All P (members_declared js tag)
members_have P Q one [] tag h = All-nil P
members_have P Q one (j ∷ js) tag h = by (members_in_item tag j) refl (members_have P Q one js tag (All-tail Q j js h))
  where
    by : (o : Option (List NamedDecl)) → members_in_item tag j ≡ o → All P (members_declared js tag) → All P (unwrap_or o (members_declared js tag))
    by None e rest = rest
    by (Some ds) e rest = one tag ds j (All-head Q j js h) e

pub members_of_item : (P : NamedDecl → Type 0) (n t : Name) (members ds : List NamedDecl) → All P members → (if same_name n t then Some members else None) ≡ Some ds → All P ds
members_of_item P n t members ds h = by (same_name n t)
  where
    by : (b : Bool) → (if b then Some members else None) ≡ Some ds → All P ds
    by true e = let same : members ≡ ds = cc in subst (All P) same h
    by false e = absurd cc

pub shapes_have : (structs : Structs) (P : NamedDecl → Type 0) (R : MemberShape → Type 0) → ((d : NamedDecl) → P d → R (bounded_member structs d)) → (ds : List NamedDecl) → All P ds → All R (map (bounded_member structs) ds)
shapes_have structs P R one [] h = All-nil R
shapes_have structs P R one (d ∷ ds) h = All-cons R (bounded_member structs d) (map (bounded_member structs) ds) (one d (All-head P d ds h)) (shapes_have structs P R one ds (All-tail P d ds h))

small_in_item : (names : Names) (all : List Item) (n : Name) (ds : List NamedDecl) (i : NamedItem) → HasSmall names all i → members_in_item n i ≡ Some ds → All (IsSmall names all) ds
small_in_item names all n ds (item.Struct m members at) h e = members_of_item (IsSmall names all) m n members ds h e
small_in_item names all n ds (item.Directive d) h e = absurd cc
small_in_item names all n ds (item.Tag m at) h e = absurd cc
small_in_item names all n ds (item.Static d) h e = absurd cc
small_in_item names all n ds (item.Proto g) h e = absurd cc
small_in_item names all n ds (item.Function g body) h e = absurd cc

structs_small : (names : Names) (all : List Item) (js : List NamedItem) → length names.members ≤ 16384 → All (HasSmall names all) js → HaveSmallNames (structs_of js)
structs_small names all js few h tag m there =
    let each : All (λ (s : MemberShape). s.name ≤ length names.members) (members_of (structs_of js) tag) =
    members_are js tag (λ ms. All (λ (s : MemberShape). s.name ≤ length names.members) ms) (All-nil (λ (s : MemberShape). s.name ≤ length names.members))
    (shapes_have (bare_structs js) (IsSmall names all) (λ (s : MemberShape). s.name ≤ length names.members) (λ d k. k) (members_declared js (name.Tag tag))
    (members_have (IsSmall names all) (HasSmall names all) (small_in_item names all) js (name.Tag tag) h)) in
    let less = All-contains (λ (s : MemberShape). s.name ≤ length names.members) (members_of (structs_of js) tag) m each there in
    below m.name (length names.members) less few
  where
    below : (k n : ℕ) → k ≤ n → n ≤ 16384 → k + 1 < 2 ^ 32
    below k n h g = omega (arith, h, g)

pub names_small : (p : Typed) (j : IsJudged p) → Small j.named.tree → HaveSmallNames p.layout
names_small p j small =
    let same : p.layout ≡ structs_of j.named.tree.items =
    layout_kept j.typed p j.has_bounds ∙ j.has_types.typed.layout ∙ ap (λ (t : NamedTree). structs_of t.items) j.has_types.tree in
    let r = resolved_of j.spelled j.named j.has_names in
    let js = r.resolved.tree.items in
    let named = (text_is j.spelled r.resolved r.has_names).items in
    let names : Names = names_of j.spelled in
    let counted : length names.members ≤ 0 + nodes (marks_of j.named.tree) =
    subst (λ (t : NamedTree). length names.members ≤ 0 + nodes (marks_of t)) (sym r.tree) (items_few names j.spelled.items (known_of r.resolved.tree) no_names j.spelled.items js named) in
    let limit = small.nodes in
    let marks = is_tally is_node (marks_of j.named.tree) in
    subst HaveSmallNames (sym same)
    (structs_small names j.spelled.items j.named.tree.items (omega (arith, counted, limit, marks))
    (all_items j.spelled j.named r (HasSmall names j.spelled.items) (λ h b c k. k) (items_small names j.spelled.items no_names j.spelled.items js named)))
