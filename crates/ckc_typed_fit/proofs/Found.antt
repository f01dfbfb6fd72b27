-- What a name means is declared by some item of the text, or is visible.
use Rattle.std.proofs.Common.{◌≡◌, inl, inr, ◌∙◌, ℕ, ◌+◌, ◌<◌, ◌==◌, nat_lt, sym, ap, refl, subst, cond, Bool, true, false, not, ◌||◌, List, [], ◌∷◌, length, map, arith}
use Rattle.std.specs.Prelude.{◌⊎◌, Ok, Option, Some, None, fold, codes}
use Rattle.std.specs.Option.{option_map, option_or}
use Rattle.std.specs.List.{list_any, prefix_len, flat_map}
use Rattle.std.specs.Str.{bytes_eq}
use Rattle.std.specs.Cmp.{unsigned_Decides}
use Rattle.std.proofs.lemmas.Bool.Decides.{nat_tests}
use Rattle.std.proofs.lemmas.List.Folds.{list_any-append}
use Rattle.ckc_syntax.specs.declared.tree.Name.{Name}
use Rattle.ckc_syntax.specs.declared.tree.Name.TheVariants as name
use Rattle.ckc_syntax.specs.declared.tree.NamedText.{NamedText}
use Rattle.ckc_typed.specs.Environment.{same_name}
use Rattle.ckc_resolve.specs.declared.names.Names.{Names}
use Rattle.ckc_resolve.specs.declared.scopes.Scopes.{Scopes}
use Rattle.ckc_resolve.specs.declared.visible.Entry.{Entry}
use Rattle.ckc_resolve.specs.Spellings.{Spelling, is_among, with_spelling, number_of, place_of}
use Rattle.ckc_resolve.specs.Trees.{Tree, Item, Decl, NamedDecl, NamedItem}
use Rattle.ckc_resolve.specs.Scoping.{noted, no_names, names_of, with_member, found}
use Rattle.ckc_resolve.specs.Meanings.{static_of, function_of, built_in, of_file, meaning_of, member_of, tag_of}
use Rattle.ckc_resolve.specs.Phase.{text_named}
use Rattle.ckc_typed_fit.specs.Numbers.{static_in, function_in, tag_in, static_numbers, function_numbers}
use Rattle.ckc_typed_fit.specs.Numbers as numbers
use Rattle.ckc_typed_fit.specs.Members.{member_in, decl_member, item_members}
use Rattle.ckc_typed_fit.specs.Visible.{is_one_of, is_of_file, is_visible, is_declared_member, struct_of, has_body, NamesAreVisible, TagsHaveBodies}
use Rattle.ckc_typed_fit.proofs.Spelt.{or_left, or_right, noted_one}
use Rattle.ckc_typed_fit.proofs.NamedItems as items
use Rattle.ckc_typed_fit.proofs.NamedItems.{MembersNamed, ItemNamed, ItemsNamed, text_is}
use Rattle.ckc_typed_fit.proofs.TestsPass.{names_in, items_seen}

-- ---- numbers and spellings

one_of_one : (n : ℕ) → is_one_of (n ∷ []) n ≡ true
one_of_one n = ap (λ b. b || false) ((unsigned_Decides n n).1 refl)

-- if a spelling has a place, this is its number, and it is there
placed_below : (s : Spelling) (ss : List Spelling) → number_of ss s < length ss → is_among ss s ≡ true
placed_below s [] h = absurd (omega (arith, h))
placed_below s (x ∷ xs) h = by (bytes_eq s x) h (placed_below s xs)
  where
    by : (b : Bool) → cond (not b) (1 + prefix_len (λ y. not (bytes_eq s y)) xs) 0 < length (x ∷ xs)
        → (prefix_len (λ y. not (bytes_eq s y)) xs < length xs → is_among xs s ≡ true) → (b || is_among xs s) ≡ true
    by true h rest = refl
    by false h rest = rest (omega (arith, h))

pub record Placed (ss : List Spelling) (s : Spelling) (k : ℕ) : Type 0 where
  pub there : is_among ss s ≡ true
  pub number : k ≡ number_of ss s

placed : (ss : List Spelling) (s : Spelling) (k : ℕ) → place_of ss s ≡ Some k → Placed ss s k
placed ss s k e = by (nat_lt (number_of ss s) (length ss)) refl e
  where
    by : (b : Bool) → nat_lt (number_of ss s) (length ss) ≡ b → cond b (Some (number_of ss s)) None ≡ Some k → Placed ss s k
    by true less e = let lt : number_of ss s < length ss = grind (arith, nat_tests, less) in record { there = placed_below s ss lt; number = cc }
    by false less e = absurd cc

-- a number that is made of a place
made_of : (f : ℕ → Name) (ss : List Spelling) (s : Spelling) (n : Name) → option_map f (place_of ss s) ≡ Some n → (k : ℕ) × (n ≡ f k) × Placed ss s k
made_of f ss s n e = by (place_of ss s) refl e
  where
    by : (o : Option ℕ) → place_of ss s ≡ o → option_map f o ≡ Some n → (k : ℕ) × (n ≡ f k) × Placed ss s k
    by (Some k) is e = (k, cc, placed ss s k is)
    by None is e = absurd cc

-- ---- what the items declare

module _ (names : Names) (all : List Item) where
  module _ (get : Names → List Spelling) (number : Spelling → ℕ) (numbered : NamedItem → List ℕ) where
    abbrev There : List NamedItem → Spelling → Type 0
    There js s = is_one_of (flat_map numbered js) (number s) ≡ true

    abbrev Each : Type 0
    Each = (before : Names) (i : Item) (j : NamedItem) → ItemNamed names all before i j → (s : Spelling) → is_among (get (noted before i)) s ≡ true
        → (is_among (get before) s ≡ true) ⊎ (is_one_of (numbered j) (number s) ≡ true)

    declared : Each → (before : Names) (is : List Item) (js : List NamedItem) → ItemsNamed names all before is js → (s : Spelling) → is_among (get (fold noted before is)) s ≡ true
        → (is_among (get before) s ≡ true) ⊎ There js s
    declared each before is js items.none s h = inl h
    declared each before is js (items.more {i = i} {j = j} {js = rest} k ks) s h =
        elim (declared each (noted before i) _ rest ks s h) [
          | inl e ↦ elim (each before i j k s e) [
            | inl f ↦ inl f
            | inr f ↦ inr (list_any-append (λ m. number s == m) (numbered j) (flat_map numbered rest) ∙ or_left (is_one_of (numbered j) (number s)) _ f)
          ]
          | inr e ↦ inr (list_any-append (λ m. number s == m) (numbered j) (flat_map numbered rest) ∙ or_right (is_one_of (numbered j) (number s)) _ e)
        ]

  -- one name with the number of its spelling
  named_one : (numbered : Name → List ℕ) (make : ℕ → Name) (number : Spelling → ℕ) → ((k : ℕ) → numbered (make k) ≡ k ∷ []) → (n : Name) (ss : List Spelling) (s x : Spelling)
      → n ≡ make (number x) → is_among (with_spelling ss x) s ≡ true → (is_among ss s ≡ true) ⊎ (is_one_of (numbered n) (number s) ≡ true)
  named_one numbered make number ones n ss s x is h = elim (noted_one ss s x h) [
    | inl e ↦ inl e
    | inr e ↦ inr (subst (λ ns. is_one_of ns (number s) ≡ true) (ap (λ z. number z ∷ []) e ∙ sym (ap numbered is ∙ ones (number x))) (one_of_one (number s)))
  ]

  statics_each : Each (λ (n : Names). n.statics) (number_of names.statics) numbers.static_of
  statics_each before i j (items.directive d) s h = inl h
  statics_each before i j (items.tag x pos) s h = inl h
  statics_each before i j (items.struct x pos hs) s h = inl h
  statics_each before i j (items.static {d = d} {e = e} g new) s h = named_one static_in name.Static (number_of names.statics) (λ k. refl) e.name before.statics s d.name g.named h
  statics_each before i j (items.proto g there) s h = inl h
  statics_each before i j (items.function g new made) s h = inl h

  functions_each : Each (λ (n : Names). n.functions) (number_of names.functions) numbers.function_of
  functions_each before i j (items.directive d) s h = inl h
  functions_each before i j (items.tag x pos) s h = inl h
  functions_each before i j (items.struct x pos hs) s h = inl h
  functions_each before i j (items.static g new) s h = inl h
  functions_each before i j (items.proto {h = x} {g = g} is there) s h = named_one function_in name.Function (number_of names.functions) (λ k. refl) g.name before.functions s x.name is.named h
  functions_each before i j (items.function {h = x} {g = g} is new made) s h = named_one function_in name.Function (number_of names.functions) (λ k. refl) g.name before.functions s x.name is.named h

  structs_each : Each (λ (n : Names). n.structs) (number_of names.tags) struct_of
  structs_each before i j (items.directive d) s h = inl h
  structs_each before i j (items.tag x pos) s h = inl h
  structs_each before i j (items.struct x pos hs) s h = named_one tag_in name.Tag (number_of names.tags) (λ k. refl) (name.Tag (number_of names.tags x)) before.structs s x refl h
  structs_each before i j (items.static g new) s h = inl h
  structs_each before i j (items.proto g there) s h = inl h
  structs_each before i j (items.function g new made) s h = inl h

  members_there : (scope : Scopes) (seen ms : List Spelling) (ds : List Decl) (es : List NamedDecl) → MembersNamed names scope seen ds es → (s : Spelling) → is_among (fold with_member ms ds) s ≡ true
      → (is_among ms s ≡ true) ⊎ (is_one_of (flat_map decl_member es) (number_of names.members s) ≡ true)
  members_there scope seen ms ds es items.no_members s h = inl h
  members_there scope seen ms ds es (items.member {d = d} {e = e} {es = rest} g new gs) s h =
      let number : ℕ = number_of names.members s in
      elim (members_there scope _ (with_member ms d) _ rest gs s h) [
        | inl f ↦ elim (named_one member_in name.Member (number_of names.members) (λ k. refl) e.name ms s d.name g.named f) [
          | inl k ↦ inl k
          | inr k ↦ inr (list_any-append (λ m. number == m) (decl_member e) (flat_map decl_member rest) ∙ or_left (is_one_of (decl_member e) number) _ k)
        ]
        | inr f ↦ inr (list_any-append (λ m. number == m) (decl_member e) (flat_map decl_member rest) ∙ or_right (is_one_of (decl_member e) number) _ f)
      ]

  members_each : Each (λ (n : Names). n.members) (number_of names.members) item_members
  members_each before i j (items.directive d) s h = inl h
  members_each before i j (items.tag x pos) s h = inl h
  members_each before i j (items.struct x pos hs) s h = members_there _ _ before.members _ _ hs s h
  members_each before i j (items.static g new) s h = inl h
  members_each before i j (items.proto g there) s h = inl h
  members_each before i j (items.function g new made) s h = inl h

-- ---- what a name means

same_itself : (n : Name) → same_name n n ≡ true
same_itself (name.Local k) = (unsigned_Decides k k).1 refl
same_itself (name.Static k) = (unsigned_Decides k k).1 refl
same_itself (name.Function k) = (unsigned_Decides k k).1 refl
same_itself (name.Tag k) = (unsigned_Decides k k).1 refl
same_itself (name.Member k) = (unsigned_Decides k k).1 refl
same_itself name.Getchar = refl
same_itself name.Putchar = refl

-- the last declaration of a spelling is one of the declarations
found_among : (s : Spelling) (es : List Entry) (before : Option Name) (n : Name) → fold (λ o (e : Entry). cond (bytes_eq s e.spelling) (Some e.name) o) before es ≡ Some n
    → (before ≡ Some n) ⊎ (list_any (same_name n) (map (λ (e : Entry). e.name) es) ≡ true)
found_among s [] before n is = inl is
found_among s (e ∷ es) before n is =
    elim (found_among s es (cond (bytes_eq s e.spelling) (Some e.name) before) n is) [
      | inl h ↦ here (bytes_eq s e.spelling) h
      | inr h ↦ inr (or_right (same_name n e.name) _ h)
    ]
  where
    here : (b : Bool) → cond b (Some e.name) before ≡ Some n → (before ≡ Some n) ⊎ (list_any (same_name n) (map (λ (e : Entry). e.name) (e ∷ es)) ≡ true)
    here true h = let same : e.name ≡ n = cc in inr (or_left (same_name n e.name) _ (subst (λ m. same_name n m ≡ true) (sym same) (same_itself n)))
    here false h = inl h

module _ (tree : Tree) (n : NamedText) (e : text_named tree ≡ Ok n) where
  abbrev names : Names
  names = names_of tree

  abbrev made : List NamedItem
  made = n.tree.items

  are : ItemsNamed names tree.items no_names tree.items made
  are = (text_is tree n e).items

  -- nothing is declared before the text
  none_before : {P : Type 0} (s : Spelling) → (is_among [] s ≡ true) ⊎ P → P
  none_before s (inl h) = absurd cc
  none_before s (inr p) = p

  static_there : (s : Spelling) → is_among names.statics s ≡ true → is_one_of (static_numbers made) (number_of names.statics s) ≡ true
  static_there s h = none_before s (declared names tree.items (λ (m : Names). m.statics) (number_of names.statics) numbers.static_of (statics_each names tree.items) no_names tree.items made are s h)

  function_there : (s : Spelling) → is_among names.functions s ≡ true → is_one_of (function_numbers made) (number_of names.functions s) ≡ true
  function_there s h = none_before s (declared names tree.items (λ (m : Names). m.functions) (number_of names.functions) numbers.function_of (functions_each names tree.items) no_names tree.items made are s h)

  struct_there : (s : Spelling) → is_among names.structs s ≡ true → is_one_of (flat_map struct_of made) (number_of names.tags s) ≡ true
  struct_there s h = none_before s (declared names tree.items (λ (m : Names). m.structs) (number_of names.tags) struct_of (structs_each names tree.items) no_names tree.items made are s h)

  member_there : (s : Spelling) → is_among names.members s ≡ true → is_one_of (flat_map item_members made) (number_of names.members s) ≡ true
  member_there s h = none_before s (declared names tree.items (λ (m : Names). m.members) (number_of names.members) item_members (members_each names tree.items) no_names tree.items made are s h)

  or_else_is : (o p : Option Name) (m : Name) → option_or o p ≡ Some m → (o ≡ Some m) ⊎ (p ≡ Some m)
  or_else_is (Some k) p m h = inl h
  or_else_is None p m h = inr h

  built_in_passes : (s : Spelling) (m : Name) → built_in s ≡ Some m → is_of_file made m ≡ true
  built_in_passes s m = by (bytes_eq s (codes "getchar")) (bytes_eq s (codes "putchar"))
    where
      by : (a b : Bool) → cond a (Some name.Getchar) (cond b (Some name.Putchar) None) ≡ Some m → is_of_file made m ≡ true
      by true b h = let same : name.Getchar ≡ m = cc in subst (λ k. is_of_file made k ≡ true) same refl
      by false true h = let same : name.Putchar ≡ m = cc in subst (λ k. is_of_file made k ≡ true) same refl
      by false false h = absurd cc

  static_passes : (s : Spelling) (m : Name) → static_of names s ≡ Some m → is_of_file made m ≡ true
  static_passes s m h =
      let p = made_of (λ k. name.Static k) names.statics s m h in
      subst (λ k. is_of_file made k ≡ true) (sym p.1) (subst (λ k. is_one_of (static_numbers made) k ≡ true) (sym p.2.number) (static_there s p.2.there))

  function_passes : (s : Spelling) (m : Name) → function_of names s ≡ Some m → is_of_file made m ≡ true
  function_passes s m h =
      let p = made_of (λ k. name.Function k) names.functions s m h in
      subst (λ k. is_of_file made k ≡ true) (sym p.1) (subst (λ k. is_one_of (function_numbers made) k ≡ true) (sym p.2.number) (function_there s p.2.there))

  file_passes : (s : Spelling) (m : Name) → of_file names s ≡ Some m → is_of_file made m ≡ true
  file_passes s m = by (bytes_eq s (codes "calloc"))
    where
      by : (b : Bool) → cond b None (option_or (static_of names s) (option_or (function_of names s) (built_in s))) ≡ Some m → is_of_file made m ≡ true
      by true h = absurd cc
      by false h = elim (or_else_is (static_of names s) (option_or (function_of names s) (built_in s)) m h) [
        | inl e ↦ static_passes s m e
        | inr e ↦ elim (or_else_is (function_of names s) (built_in s) m e) [ inl f ↦ function_passes s m f | inr f ↦ built_in_passes s m f ]
      ]

  name_passes : (scopes : Scopes) (s : Spelling) (m : Name) → meaning_of names scopes s ≡ Some m → is_visible made (names_in scopes) m ≡ true
  name_passes scopes s m h = elim (or_else_is (found scopes.visible s) (of_file names s) m h) [
    | inl e ↦ elim (found_among s scopes.visible None m e) [ inl f ↦ absurd cc | inr f ↦ or_left (list_any (same_name m) (names_in scopes)) _ f ]
    | inr e ↦ or_right (list_any (same_name m) (names_in scopes)) _ (file_passes s m e)
  ]

  member_passes : (s : Spelling) (m : Name) → member_of names s ≡ Some m → is_declared_member made m ≡ true
  member_passes s m h =
      let p = made_of (λ k. name.Member k) names.members s m h in
      subst (λ k. is_declared_member made k ≡ true) (sym p.1) (subst (λ k. is_one_of (flat_map item_members made) k ≡ true) (sym p.2.number) (member_there s p.2.there))

  tag_passes : (s : Spelling) (m : Name) → tag_of names s ≡ Some m → has_body made m ≡ true
  tag_passes s m = by (is_among names.structs s) refl
    where
      by : (b : Bool) → is_among names.structs s ≡ b → cond b (option_map (λ k. name.Tag k) (place_of names.tags s)) None ≡ Some m → has_body made m ≡ true
      by true there h =
          let p = made_of (λ k. name.Tag k) names.tags s m h in
          subst (λ k. has_body made k ≡ true) (sym p.1) (subst (λ k. is_one_of (flat_map struct_of made) k ≡ true) (sym p.2.number) (struct_there s there))
      by false there h = absurd cc

  pub names_visible : NamesAreVisible made
  names_visible = items_seen names (record { name = is_visible made; member = is_declared_member made; tag = λ m. true }) name_passes member_passes (λ s m h. refl) tree.items no_names tree.items made are

  pub tags_have_bodies : TagsHaveBodies made
  tags_have_bodies = items_seen names (record { name = λ visible m. true; member = λ m. true; tag = has_body made }) (λ scopes s m h. refl) (λ s m h. refl) tag_passes tree.items no_names tree.items made are
