-- Each function has one body, with the head of its prototypes, and `main` is `int main(void)`.
use Rattle.std.proofs.Common.{◌≡◌, ◌∙◌, ℕ, suc, sym, ap, refl, subst, Bool, true, false, ◌&&◌, ◌||◌, List, [], ◌∷◌, ◌++◌, arith, rules}
use Rattle.std.specs.Prelude.{Ok, Option, Some, None, All, Any, fold, is_none}
use Rattle.std.specs.List.{list_any, flat_map}
use Rattle.std.specs.Str.{bytes_eq}
use Rattle.std.proofs.lemmas.Slice.Eq.{bytes_eq-Decides}
use Rattle.std.proofs.lemmas.List.Elements.{All-nil, All-cons}
use Rattle.ckc_base.specs.Outcomes.{Outcome}
use Rattle.ckc_syntax.specs.declared.tree.Name.TheVariants as name
use Rattle.ckc_syntax.specs.declared.tree.TypeTree.{TypeTree-F, out-TypeTree, roll-TypeTree, fold-roll-TypeTree, the_lemmas}
use Rattle.ckc_syntax.specs.declared.tree.TypeTree.TheVariants as ctype
use Rattle.ckc_syntax.specs.declared.tree.NamedText.{NamedText}
use Rattle.ckc_resolve.specs.Same.{equal_heads}
use Rattle.ckc_resolve.specs.declared.names.Names.{Names}
use Rattle.ckc_resolve.specs.declared.scopes.Scopes.{Scopes}
use Rattle.ckc_resolve.specs.Spellings.{Spelling, is_among, with_spelling, number_of}
use Rattle.ckc_resolve.specs.Trees.{Tree, TypeTree, Item, Head, Decl, Limits, NamedType, NamedLimits, NamedDecl, NamedHead, NamedItem}
use Rattle.ckc_resolve.specs.Scoping.{noted, no_names, names_of, no_scope}
use Rattle.ckc_resolve.specs.Heads.{param_scope}
use Rattle.ckc_resolve.specs.Types.{type_parts, type_named}
use Rattle.ckc_resolve.specs.Expressions.{bounds_named}
use Rattle.ckc_resolve.specs.Main.{is_int_form, is_int, is_empty, is_main_head, is_main, name_of_main}
use Rattle.ckc_resolve.specs.Phase.{text_named}
use Rattle.ckc_typed_fit.specs.Numbers.{function_in}
use Rattle.ckc_typed_fit.specs.Bodies.{body_of, Defines, IsDefined, FunctionsHaveBodies, IsMain, DefinesMain, HasMain}
use Rattle.ckc_typed_fit.proofs.Spelt.{Grows, among_with, among_more}
use Rattle.ckc_typed_fit.proofs.Different.{Fresh, fresh_none, fresh_more, known_more}
use Rattle.ckc_typed_fit.proofs.Numbered.{all_grow, functions_grow}
use Rattle.ckc_typed_fit.proofs.Defined.{defines}
use Rattle.ckc_typed_fit.proofs.NamedItems as items
use Rattle.ckc_typed_fit.proofs.NamedItems.{HeadNamed, ParamsNamed, ItemNamed, ItemsNamed, TextNamed, text_is}
use Rattle.ckc_typed_fit.proofs.HeadsKept.{heads_alike}

-- ---- one of a list

any_here : {X : Type 0} (P : X → Type 0) (x : X) (xs : List X) → P x → Any P (x ∷ xs)
any_here P x xs p = (0, x, omega arith, refl, p)

any_there : {X : Type 0} (P : X → Type 0) (x : X) (xs : List X) → Any P xs → Any P (x ∷ xs)
any_there P x xs a = (suc a.0, a.1, omega (arith, a.2), a.3, a.4)

both_are : (a b : Bool) → (a && b) ≡ true → (a ≡ true) × (b ≡ true)
both_are true b e = (refl, e)
both_are false b e = absurd cc

module _ (names : Names) (all : List Item) where
  -- if an item passes a test, one that it becomes is as the test says
  one_of : (test : Item → Bool) (P : NamedItem → Type 0) → ((before : Names) (i : Item) (j : NamedItem) → ItemNamed names all before i j → test i ≡ true → P j)
      → (before : Names) (is : List Item) (js : List NamedItem) → ItemsNamed names all before is js → list_any test is ≡ true → Any P js
  one_of test P each before is js items.none e = absurd cc
  one_of test P each before is js (items.more {i = i} {j = j} {is = more} {js = rest} k ks) e = by (test i) refl e (one_of test P each (noted before i) more rest ks)
    where
      by : (b : Bool) → test i ≡ b → (b || list_any test more) ≡ true → (list_any test more ≡ true → Any P rest) → Any P (j ∷ rest)
      by true is e behind = any_here P j rest (each before i j k is)
      by false is e behind = any_there P j rest (behind e)

  -- ---- prototypes

  defines_each : (h : Head) (g : NamedHead) (s : Scopes) → HeadNamed names h g s → (before : Names) (i : Item) (j : NamedItem) → ItemNamed names all before i j → defines h i ≡ true → Defines g j
  defines_each h g s p before i j (items.directive d) e = absurd cc
  defines_each h g s p before i j (items.tag x pos) e = absurd cc
  defines_each h g s p before i j (items.struct x pos hs) e = absurd cc
  defines_each h g s p before i j (items.static q new) e = absurd cc
  defines_each h g s p before i j (items.proto q there) e = absurd cc
  defines_each h g s p before i j (items.function {h = k} {g = l} {after = u} q new made) e = heads_alike names h k g l s u p q ((equal_heads h k).1.0 e)

  is_defined : (whole : List NamedItem) → ItemsNamed names all no_names all whole → (before : Names) (i : Item) (j : NamedItem) → ItemNamed names all before i j → IsDefined whole j
  is_defined whole are before i j (items.directive d) = tt
  is_defined whole are before i j (items.tag x pos) = tt
  is_defined whole are before i j (items.struct x pos hs) = tt
  is_defined whole are before i j (items.static q new) = tt
  is_defined whole are before i j (items.proto {h = h} {g = g} {after = s} q there) = one_of (defines h) (Defines g) (defines_each h g s q) no_names all whole are there
  is_defined whole are before i j (items.function q new made) = tt

  all_defined : (whole : List NamedItem) → ItemsNamed names all no_names all whole → (before : Names) (is : List Item) (js : List NamedItem) → ItemsNamed names all before is js → All (IsDefined whole) js
  all_defined whole are before is js items.none = All-nil (IsDefined whole)
  all_defined whole are before is js (items.more {i = i} {j = j} {is = more} {js = rest} k ks) = All-cons (IsDefined whole) j rest (is_defined whole are before i j k) (all_defined whole are (noted before i) more rest ks)

  -- ---- one body each

  abbrev number : Spelling → ℕ
  number s = number_of names.functions s

  abbrev IsKnown : Spelling → Type 0
  IsKnown s = is_among names.functions s ≡ true

  -- the bodies are of different functions, and of none that has a body before
  abbrev FreshBodies : Names → List NamedItem → Type 0
  FreshBodies before js = Fresh names.functions before.defined (flat_map body_of js)

  fresh_one : (before : Names) (i : Item) (j : NamedItem) (rest : List NamedItem) → ItemNamed names all before i j → Grows (noted before i).functions names.functions
      → ((x : Spelling) → is_among before.defined x ≡ true → IsKnown x) → (((x : Spelling) → is_among (noted before i).defined x ≡ true → IsKnown x) → FreshBodies (noted before i) rest) → FreshBodies before (j ∷ rest)
  fresh_one before i j rest (items.directive d) more known f = f known
  fresh_one before i j rest (items.tag x pos) more known f = f known
  fresh_one before i j rest (items.struct x pos hs) more known f = f known
  fresh_one before i j rest (items.static q new) more known f = f known
  fresh_one before i j rest (items.proto q there) more known f = f known
  fresh_one before i j rest (items.function {h = h} {g = g} {s = s} {t = t} q new made) more known f =
      let there : IsKnown h.name = among_more h.name (with_spelling before.functions h.name) names.functions more (among_with h.name before.functions) in
      subst (λ ns. Fresh names.functions before.defined (ns ++ flat_map body_of rest)) (sym (ap function_in q.named))
      (fresh_more names.functions before.defined h.name (flat_map body_of rest) new known there (f (known_more names.functions before.defined h.name known there)))

  all_fresh : (before : Names) (is : List Item) (js : List NamedItem) → ItemsNamed names all before is js → (fold noted before is).functions ≡ names.functions
      → ((x : Spelling) → is_among before.defined x ≡ true → IsKnown x) → FreshBodies before js
  all_fresh before is js items.none e known = fresh_none names.functions before.defined
  all_fresh before is js (items.more {i = i} {j = j} {is = others} {js = rest} k ks) e known =
      let m = all_grow (λ (n : Names). n.functions) functions_grow others (noted before i) in
      fresh_one before i j rest k (m.0, sym e ∙ m.1) known (all_fresh (noted before i) others rest ks e)

  -- ---- main

  int_is : (x : TypeTree-F Spelling TypeTree) → is_int_form x ≡ true → x ≡ TypeTree-F.Int
  int_is TypeTree-F.Int e = refl
  int_is TypeTree-F.Unsigned e = absurd cc
  int_is TypeTree-F.Char e = absurd cc
  int_is TypeTree-F.Void e = absurd cc
  int_is (TypeTree-F.Struct s pos) e = absurd cc
  int_is (TypeTree-F.Raw t pos) e = absurd cc
  int_is (TypeTree-F.One t) e = absurd cc
  int_is (TypeTree-F.Arr t) e = absurd cc
  int_is (TypeTree-F.Nt t) e = absurd cc

  type_back : (t : TypeTree) → roll-TypeTree Spelling (out-TypeTree Spelling t) ≡ t
  type_back t = search (rules, the_lemmas)

  int_becomes : (t : TypeTree) (u : NamedType) → is_int t ≡ true → type_named names t ≡ Ok u → u ≡ ctype.Int
  int_becomes t u e is =
      let int : t ≡ roll-TypeTree Spelling TypeTree-F.Int = sym (type_back t) ∙ ap (λ x. roll-TypeTree Spelling x) (int_is (out-TypeTree Spelling t) e) in
      let given : type_named names t ≡ Ok ctype.Int = ap (λ (x : TypeTree). type_named names x) int ∙ fold-roll-TypeTree Spelling (Outcome NamedType) (type_parts names) TypeTree-F.Int in
      let same : Ok u ≡ Ok ctype.Int = sym is ∙ given in cc

  none_become : (scopes before : Scopes) (ds : List Decl) (es : List NamedDecl) (behind : Scopes) → ParamsNamed names scopes before ds es behind → is_empty ds ≡ true → es ≡ []
  none_become scopes before ds es behind items.no_params e = refl
  none_become scopes before ds es behind (items.param h new hs) e = absurd cc

  no_bounds : (scopes : Scopes) (l : Option Limits) (k : Option NamedLimits) → is_none l ≡ true → bounds_named names scopes l ≡ Ok k → k ≡ None
  no_bounds scopes None k e is = cc
  no_bounds scopes (Some l) k e is = absurd cc

  head_of_main : (h : Head) (g : NamedHead) (s : Scopes) → HeadNamed names h g s → is_main_head h ≡ true → IsMain (number name_of_main) g
  head_of_main h g s p e =
      let a = both_are (bytes_eq h.name name_of_main) (is_int h.result && (is_empty h.params && is_none h.bounds)) e in
      let b = both_are (is_int h.result) (is_empty h.params && is_none h.bounds) a.1 in
      let c = both_are (is_empty h.params) (is_none h.bounds) b.1 in
      record {
        named = p.named ∙ ap (λ x. name.Function (number x)) ((bytes_eq-Decides h.name name_of_main).0 a.0);
        result = int_becomes h.result g.result b.0 p.result;
        params = none_become (param_scope h.params) no_scope h.params g.params s p.params c.0;
        bounds = no_bounds (param_scope h.params) h.bounds g.bounds c.1 p.bounds;
      }

  main_each : (before : Names) (i : Item) (j : NamedItem) → ItemNamed names all before i j → is_main i ≡ true → DefinesMain (number name_of_main) j
  main_each before i j (items.directive d) e = absurd cc
  main_each before i j (items.tag x pos) e = absurd cc
  main_each before i j (items.struct x pos hs) e = absurd cc
  main_each before i j (items.static q new) e = absurd cc
  main_each before i j (items.proto q there) e = absurd cc
  main_each before i j (items.function {h = h} {g = g} {after = s} q new made) e = head_of_main h g s q e

pub bodies_kept : (tree : Tree) (n : NamedText) → text_named tree ≡ Ok n → FunctionsHaveBodies n.tree.items
bodies_kept tree n e =
    let names = names_of tree in
    let are = (text_is tree n e).items in
    record {
      differ = (all_fresh names tree.items no_names tree.items n.tree.items are refl (λ x h. absurd cc)).differ;
      defined = all_defined names tree.items n.tree.items are no_names tree.items n.tree.items are;
    }

pub main_kept : (tree : Tree) (n : NamedText) → text_named tree ≡ Ok n → HasMain n
main_kept tree n e =
    let names = names_of tree in
    let is = text_is tree n e in
    subst (λ m. Any (DefinesMain m) n.tree.items) (sym is.main)
    (one_of names tree.items is_main (DefinesMain (number_of names.functions name_of_main)) (main_each names tree.items) no_names tree.items n.tree.items is.items is.declared)
