-- Objects, functions and tags are numbered in the order of their first declarations.
use Rattle.std.proofs.Common.{◌≡◌, inl, inr, ◌∙◌, ℕ, ◌+◌, ◌<◌, sym, ap, refl, subst, cond, Bool, true, false, List, [], ◌∷◌, ◌++◌, length, length-append, append_assoc}
use Rattle.std.specs.Prelude.{Ok, fold}
use Rattle.std.specs.List.{flat_map}
use Rattle.ckc_syntax.specs.declared.tree.Name.{Name}
use Rattle.ckc_syntax.specs.declared.tree.Name.TheVariants as name
use Rattle.ckc_syntax.specs.declared.tree.Item.TheVariants as item
use Rattle.ckc_syntax.specs.declared.tree.NamedText.{NamedText}
use Rattle.ckc_resolve.specs.declared.names.Names.{Names}
use Rattle.ckc_resolve.specs.Spellings.{Spelling, is_among, with_spelling, number_of}
use Rattle.ckc_resolve.specs.Trees.{Tree, Item, NamedItem}
use Rattle.ckc_resolve.specs.Scoping.{noted, no_names, names_of}
use Rattle.ckc_resolve.specs.Phase.{text_named}
use Rattle.ckc_typed_fit.specs.Numbers.{static_in, static_of, static_numbers, CountsFrom, function_in, function_of, function_numbers, tag_of, tag_numbers, CountsUp}
use Rattle.ckc_typed_fit.proofs.Spelt.{Grows, grows_none, grows_trans, spelling_more, number_new, number_old}
use Rattle.ckc_typed_fit.proofs.NamedItems as items
use Rattle.ckc_typed_fit.proofs.NamedItems.{ItemNamed, ItemsNamed, text_is}

-- one declaration more
up : (s : Spelling) (ss all : List Spelling) (ns : List ℕ) → Grows (with_spelling ss s) all → CountsUp (length (with_spelling ss s)) ns → CountsUp (length ss) (number_of all s ∷ ns)
up s ss all ns = by (is_among ss s) refl
  where
    by : (b : Bool) → is_among ss s ≡ b → Grows (cond b ss (ss ++ s ∷ [])) all → CountsUp (length (cond b ss (ss ++ s ∷ []))) ns → CountsUp (length ss) (number_of all s ∷ ns)
    by true is more counts =
        let less : number_of all s < length ss = subst (λ l. number_of l s < length ss) (sym more.1) (number_old s ss more.0 is) in
        inl (less, counts)
    by false is more counts =
        let whole : all ≡ ss ++ s ∷ more.0 = more.1 ∙ append_assoc ss (s ∷ []) more.0 in
        let number : number_of all s ≡ length ss = ap (λ l. number_of l s) whole ∙ number_new s ss more.0 is in
        inr (number, subst (λ n. CountsUp n ns) (length-append ss (s ∷ [])) counts)

-- one declaration more of a name that none before has
next : (s : Spelling) (ss all : List Spelling) (ns : List ℕ) → is_among ss s ≡ false → Grows (with_spelling ss s) all → CountsFrom (length (with_spelling ss s)) ns → CountsFrom (length ss) (number_of all s ∷ ns)
next s ss all ns new more counts =
    let grown : with_spelling ss s ≡ ss ++ s ∷ [] = ap (λ b. cond b ss (ss ++ s ∷ [])) new in
    let whole : all ≡ ss ++ s ∷ more.0 = more.1 ∙ ap (λ l. l ++ more.0) grown ∙ append_assoc ss (s ∷ []) more.0 in
    let number : number_of all s ≡ length ss = ap (λ l. number_of l s) whole ∙ number_new s ss more.0 new in
    let count : length (with_spelling ss s) ≡ length ss + 1 = ap length grown ∙ length-append ss (s ∷ []) in
    (number, subst (λ n. CountsFrom n ns) count counts)

-- ---- all items, for one kind of names and one way to count

module _ (get : Names → List Spelling) (grows : (before : Names) (i : Item) → Grows (get before) (get (noted before i))) where
  pub all_grow : (is : List Item) (before : Names) → Grows (get before) (get (fold noted before is))
  all_grow [] before = grows_none (get before)
  all_grow (i ∷ is) before =
      grows_trans (get before) (get (noted before i)) (get (fold noted (noted before i) is)) (grows before i) (all_grow is (noted before i))

  module _ (names : Names) (all : List Item) (numbers : NamedItem → List ℕ) (Counts : ℕ → List ℕ → Type 0)
      (each : (before : Names) (i : Item) (j : NamedItem) → ItemNamed names all before i j → Grows (get (noted before i)) (get names) → (ns : List ℕ) → Counts (length (get (noted before i))) ns
      → Counts (length (get before)) (numbers j ++ ns))
      (nothing : (k : ℕ) → Counts k []) where
    items_count : (before : Names) (is : List Item) (js : List NamedItem) → ItemsNamed names all before is js → get (fold noted before is) ≡ get names → Counts (length (get before)) (flat_map numbers js)
    items_count before is js items.none e = nothing (length (get before))
    items_count before is js (items.more {i = i} {j = j} {is = others} {js = rest} k ks) e =
        let more : Grows (get (noted before i)) (get names) = (let m = all_grow others (noted before i) in (m.0, sym e ∙ m.1)) in
        each before i j k more (flat_map numbers rest) (items_count (noted before i) others rest ks e)

-- ---- objects

statics_grow : (before : Names) (i : Item) → Grows before.statics (noted before i).statics
statics_grow before (item.Directive d) = grows_none before.statics
statics_grow before (item.Tag s pos) = grows_none before.statics
statics_grow before (item.Struct s members pos) = grows_none before.statics
statics_grow before (item.Static d) = spelling_more before.statics d.name
statics_grow before (item.Proto h) = grows_none before.statics
statics_grow before (item.Function h body) = grows_none before.statics

pub functions_grow : (before : Names) (i : Item) → Grows before.functions (noted before i).functions
functions_grow before (item.Directive d) = grows_none before.functions
functions_grow before (item.Tag s pos) = grows_none before.functions
functions_grow before (item.Struct s members pos) = grows_none before.functions
functions_grow before (item.Static d) = grows_none before.functions
functions_grow before (item.Proto h) = spelling_more before.functions h.name
functions_grow before (item.Function h body) = spelling_more before.functions h.name

tags_grow : (before : Names) (i : Item) → Grows before.tags (noted before i).tags
tags_grow before (item.Directive d) = grows_none before.tags
tags_grow before (item.Tag s pos) = spelling_more before.tags s
tags_grow before (item.Struct s members pos) = spelling_more before.tags s
tags_grow before (item.Static d) = grows_none before.tags
tags_grow before (item.Proto h) = grows_none before.tags
tags_grow before (item.Function h body) = grows_none before.tags

module _ (names : Names) (all : List Item) where
  statics_each : (before : Names) (i : Item) (j : NamedItem) → ItemNamed names all before i j → Grows (noted before i).statics names.statics → (ns : List ℕ) → CountsFrom (length (noted before i).statics) ns
      → CountsFrom (length before.statics) (static_of j ++ ns)
  statics_each before i j (items.directive d) more ns c = c
  statics_each before i j (items.tag s pos) more ns c = c
  statics_each before i j (items.struct s pos hs) more ns c = c
  statics_each before i j (items.static {d = d} {e = e} h new) more ns c =
      subst (λ n. CountsFrom (length before.statics) (static_in n ++ ns)) (sym h.named) (next d.name before.statics names.statics ns new more c)
  statics_each before i j (items.proto is there) more ns c = c
  statics_each before i j (items.function is new made) more ns c = c

  called_up : (before : Names) (s : Spelling) (n : Name) → n ≡ name.Function (number_of names.functions s) → Grows (with_spelling before.functions s) names.functions
      → (ns : List ℕ) → CountsUp (length (with_spelling before.functions s)) ns → CountsUp (length before.functions) (function_in n ++ ns)
  called_up before s n is more ns counts =
      subst (λ m. CountsUp (length before.functions) (function_in m ++ ns)) (sym is) (up s before.functions names.functions ns more counts)

  functions_each : (before : Names) (i : Item) (j : NamedItem) → ItemNamed names all before i j → Grows (noted before i).functions names.functions → (ns : List ℕ) → CountsUp (length (noted before i).functions) ns
      → CountsUp (length before.functions) (function_of j ++ ns)
  functions_each before i j (items.directive d) more ns c = c
  functions_each before i j (items.tag s pos) more ns c = c
  functions_each before i j (items.struct s pos hs) more ns c = c
  functions_each before i j (items.static h new) more ns c = c
  functions_each before i j (items.proto {h = h} {g = g} is there) more ns c = called_up before h.name g.name is.named more ns c
  functions_each before i j (items.function {h = h} {g = g} is new made) more ns c = called_up before h.name g.name is.named more ns c

  tags_each : (before : Names) (i : Item) (j : NamedItem) → ItemNamed names all before i j → Grows (noted before i).tags names.tags → (ns : List ℕ) → CountsUp (length (noted before i).tags) ns
      → CountsUp (length before.tags) (tag_of j ++ ns)
  tags_each before i j (items.directive d) more ns c = c
  tags_each before i j (items.tag s pos) more ns c = up s before.tags names.tags ns more c
  tags_each before i j (items.struct s pos hs) more ns c = up s before.tags names.tags ns more c
  tags_each before i j (items.static h new) more ns c = c
  tags_each before i j (items.proto is there) more ns c = c
  tags_each before i j (items.function is new made) more ns c = c

-- ---- texts

-- the objects of file scope have the numbers from 0 on, in the order of the text
pub statics_count : (tree : Tree) (n : NamedText) → text_named tree ≡ Ok n → CountsFrom 0 (static_numbers n.tree.items)
statics_count tree n e =
    items_count (λ (m : Names). m.statics) statics_grow (names_of tree) tree.items static_of CountsFrom (statics_each (names_of tree) tree.items) (λ k. tt) no_names tree.items n.tree.items (text_is tree n e).items refl

pub functions_count : (tree : Tree) (n : NamedText) → text_named tree ≡ Ok n → CountsUp 0 (function_numbers n.tree.items)
functions_count tree n e =
    items_count (λ (m : Names). m.functions) functions_grow (names_of tree) tree.items function_of CountsUp (functions_each (names_of tree) tree.items) (λ k. tt) no_names tree.items n.tree.items (text_is tree n e).items refl

pub tags_count : (tree : Tree) (n : NamedText) → text_named tree ≡ Ok n → CountsUp 0 (tag_numbers n.tree.items)
tags_count tree n e =
    items_count (λ (m : Names). m.tags) tags_grow (names_of tree) tree.items tag_of CountsUp (tags_each (names_of tree) tree.items) (λ k. tt) no_names tree.items n.tree.items (text_is tree n e).items refl
