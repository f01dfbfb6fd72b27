-- A tree whose names are right has a function main.
use Rattle.std.proofs.Common.{◌≡◌, ◌<◌, ℕ, ◌+◌, Bool, true, false, not, ◌||◌, ◌&&◌, List, [], ◌∷◌, ◌++◌, length, Ok, Err, Some, None, cond, nat_lt, refl, sym, ap, subst, ◌∙◌, arith, fold}
use Rattle.std.specs.Option.{is_none}
use Rattle.std.specs.List.{list_any, prefix_len}
use Rattle.std.specs.Str.{bytes_eq}
use Rattle.std.proofs.lemmas.Slice.Eq.{bytes_eq-Decides}
use Rattle.std.proofs.lemmas.List.Folds.{list_any-append}
use Rattle.std.proofs.lemmas.Bool.Decides.{nat_tests}
use Rattle.ckc_syntax.specs.declared.tree.Item.TheVariants as item
use Rattle.ckc_resolve.specs.declared.names.Names.{Names}
use Rattle.ckc_base.specs.Outcomes.{Outcome, bind, refused}
use Rattle.ckc_base.specs.Places.{start}
use Rattle.ckc_syntax.specs.declared.tree.NamedText.{NamedText}
use Rattle.ckc_resolve.specs.Codes.{no_main}
use Rattle.ckc_resolve.specs.Spellings.{Spelling, is_among, with_spelling, place_of, number_of}
use Rattle.ckc_resolve.specs.Trees.{Tree, Item, Head, NamedItem}
use Rattle.ckc_resolve.specs.Scoping.{noted, no_names, names_of}
use Rattle.ckc_resolve.specs.Items.{all_named}
use Rattle.ckc_resolve.specs.Main.{is_main, is_main_head, is_int, is_empty, name_of_main}
use Rattle.ckc_resolve.specs.Phase.{naming}

abbrev has : List Spelling → Type 0
has ss = is_among ss name_of_main ≡ true

-- a test that one element passes has a first place
prefix_below : {X : Type 0} (p : X → Bool) (xs : List X) → list_any p xs ≡ true → prefix_len (λ x. not (p x)) xs < length xs
prefix_below p [] h = cc
prefix_below p (x ∷ xs) h = by (p x) refl (λ t. prefix_below p xs t)
  where
    by : (b : Bool) → p x ≡ b → (list_any p xs ≡ true → prefix_len (λ y. not (p y)) xs < length xs) → cond (not b) (1 + prefix_len (λ y. not (p y)) xs) 0 < length (x ∷ xs)
    by true e rest = omega arith
    by false e rest = omega (arith, rest (sym (ap (λ b. b || list_any p xs) e) ∙ h))

some_below : (a b : ℕ) → a < b → cond (nat_lt a b) (Some a) None ≡ Some a
some_below a b h = let e : nat_lt a b ≡ true = grind (arith, nat_tests) in ap (λ t. cond t (Some a) None) e

place_there : (ss : List Spelling) → has ss → place_of ss name_of_main ≡ Some (number_of ss name_of_main)
place_there ss h = some_below _ _ (prefix_below (bytes_eq name_of_main) ss h)

or_left : (a b : Bool) → a ≡ true → (a || b) ≡ true
or_left a b e = ap (λ x. x || b) e

or_right : (a b : Bool) → b ≡ true → (a || b) ≡ true
or_right true b e = refl
or_right false b e = e

-- a spelling that is there stays
kept : (ss : List Spelling) (s : Spelling) → has ss → has (with_spelling ss s)
kept ss s h = by (is_among ss s)
  where
    by : (b : Bool) → has (cond b ss (ss ++ s ∷ []))
    by true = h
    by false = list_any-append (bytes_eq name_of_main) ss (s ∷ []) ∙ or_left _ _ h

-- a spelling that is noted is there
there : (ss : List Spelling) (s : Spelling) → s ≡ name_of_main → has (with_spelling ss s)
there ss s e = by (is_among ss s) refl
  where
    by : (b : Bool) → is_among ss s ≡ b → has (cond b ss (ss ++ s ∷ []))
    by true h = subst (λ t. is_among ss t ≡ true) e h
    by false h = list_any-append (bytes_eq name_of_main) ss (s ∷ []) ∙ or_right _ _ (or_left _ _ ((bytes_eq-Decides name_of_main s).1 (sym e)))

and_left : (a b : Bool) → (a && b) ≡ true → a ≡ true
and_left true b e = refl
and_left false b e = cc

named_main : (h : Head) → is_main_head h ≡ true → h.name ≡ name_of_main
named_main h e = (bytes_eq-Decides h.name name_of_main).0 (and_left (bytes_eq h.name name_of_main) (is_int h.result && (is_empty h.params && is_none h.bounds)) e)

noted_keeps : (names : Names) (i : Item) → has names.functions → has (noted names i).functions
noted_keeps names (item.Directive d) h = h
noted_keeps names (item.Tag n pos) h = h
noted_keeps names (item.Struct n members pos) h = h
noted_keeps names (item.Static d) h = h
noted_keeps names (item.Proto g) h = kept names.functions g.name h
noted_keeps names (item.Function g body) h = kept names.functions g.name h

noted_main : (names : Names) (i : Item) → is_main i ≡ true → has (noted names i).functions
noted_main names (item.Directive d) h = cc
noted_main names (item.Tag n pos) h = cc
noted_main names (item.Struct n members pos) h = cc
noted_main names (item.Static d) h = cc
noted_main names (item.Proto g) h = cc
noted_main names (item.Function g body) h = there names.functions g.name (named_main g h)

all_keep : (names : Names) (is : List Item) → has names.functions → has (fold noted names is).functions
all_keep names [] h = h
all_keep names (i ∷ is) h = all_keep (noted names i) is (noted_keeps names i h)

all_note : (names : Names) (is : List Item) → list_any is_main is ≡ true → has (fold noted names is).functions
all_note names [] h = cc
all_note names (i ∷ is) h = by (is_main i) refl (λ t. all_note (noted names i) is t)
  where
    by : (b : Bool) → is_main i ≡ b → (list_any is_main is ≡ true → has (fold noted (noted names i) is).functions) → has (fold noted (noted names i) is).functions
    by true e rest = all_keep (noted names i) is (noted_main names i e)
    by false e rest = rest (sym (ap (λ b. b || list_any is_main is) e) ∙ h)

unwrapped : (a b : NamedText) → ◌≡◌ {A = Outcome NamedText} (Ok a) (Ok b) → a ≡ b
unwrapped a b e = cc

-- if no want of a main is told, there is one
told : (b : Bool) (o : Outcome (List NamedItem)) (n : ℕ) (text : NamedText)
    → bind o (λ items. bind (cond b (Ok n) (refused no_main start)) (λ main. Ok (record { tree = record { items = items }; main = main }))) ≡ Ok text → (b ≡ true) × (n ≡ text.main)
told true (Ok items) n text h = (refl, ap (λ t. t.main) (unwrapped _ text h))
told false (Ok items) n text h = cc
told b (Err r) n text h = cc

pub main_declared : (tree : Tree) (text : NamedText) → naming.Makes tree text → place_of (names_of tree).functions name_of_main ≡ Some text.main
main_declared tree text h =
    let functions = (names_of tree).functions in
    let t = told (list_any is_main tree.items) (all_named (names_of tree) tree.items) (number_of functions name_of_main) text h in
    place_there functions (all_note no_names tree.items t.0) ∙ ap (λ n. Some n) t.1
