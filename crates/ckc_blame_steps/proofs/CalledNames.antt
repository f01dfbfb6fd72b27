-- What a well typed call names: a function of the text, `getchar` or `putchar`.
use Rattle.std.proofs.Common.{◌≡◌, sym, subst, refl, ℕ, Bool, true, false, List, [], ◌∷◌}
use Rattle.std.specs.Prelude.{if◌then◌else◌, Option, Some}
use Rattle.std.specs.List.{All, find, flat_map}
use Rattle.std.proofs.lemmas.List.Elements.{All-nil, All-cons, All-head, All-tail}
use Rattle.ckc_syntax.specs.declared.tree.Name.{Name}
use Rattle.ckc_syntax.specs.declared.tree.Name.TheVariants as name
use Rattle.ckc_syntax.specs.declared.tree.Item.TheVariants as item
use Rattle.ckc_resolve.specs.declared.names.Names.{Names}
use Rattle.ckc_resolve.specs.Scoping.{no_names, names_of}
use Rattle.ckc_resolve.specs.Trees as trees
use Rattle.ckc_typed.specs.declared.environment.Signature.{Signature}
use Rattle.ckc_typed.specs.declared.typed.Typed.{Typed}
use Rattle.ckc_typed.specs.Environment.{same_name, getchar, putchar, signature_declared, signatures_of_item, signature_named}
use Rattle.ckc_typed.specs.Trees.{Item}
use Rattle.ckc_typed_fit.proofs.NamedItems as items
use Rattle.ckc_typed_fit.proofs.NamedItems.{ItemNamed, ItemsNamed, text_is}
use Rattle.ckc_typed_plain.proofs.Items.{resolved_of, all_items}
use Rattle.ckc_typed_welltyped.specs.Noteless.{without_notes}
use Rattle.ckc_blame_sound.specs.JudgedTexts.{IsJudged, globals_in}
use Rattle.ckc_blame_sound.proofs.Functions.{tree_named}

-- a function has the name of a function
abbrev HasFunction : Item → Type 0
HasFunction (item.Function h body) = (n : ℕ) × (h.name ≡ name.Function n)
HasFunction i = Unit {0}

item_function : (names : Names) (all : List trees.Item) (before : Names) (i : trees.Item) (j : Item) → ItemNamed names all before i j → HasFunction j
item_function names all before i j (items.directive d) = tt
item_function names all before i j (items.tag s pos) = tt
item_function names all before i j (items.struct s pos hs) = tt
item_function names all before i j (items.static g new) = tt
item_function names all before i j (items.proto q there) = tt
item_function names all before i j (items.function q new made) = (_, q.named)

items_function : (names : Names) (all : List trees.Item) (before : Names) (is : List trees.Item) (js : List Item) → ItemsNamed names all before is js → All HasFunction js
items_function names all before is js items.none = All-nil HasFunction
items_function names all before is js (items.more {i = i} {j = j} {is = others} {js = rest} k ks) =
    All-cons HasFunction j rest (item_function names all before i j k) (items_function names all _ others rest ks)

-- the names that may be called
abbrev pub IsCallable : Name → Type 0
IsCallable (name.Function k) = Unit {0}
IsCallable name.Getchar = Unit {0}
IsCallable name.Putchar = Unit {0}
IsCallable n = ⊥

by_number : (n : Name) (k : ℕ) → same_name (name.Function k) n ≡ true → IsCallable n
by_number (name.Function m) k e = tt
by_number n k e = absurd cc

by_getchar : (n : Name) → same_name name.Getchar n ≡ true → IsCallable n
by_getchar name.Getchar e = tt
by_getchar n e = absurd cc

by_putchar : (n : Name) → same_name name.Putchar n ≡ true → IsCallable n
by_putchar name.Putchar e = tt
by_putchar n e = absurd cc

-- a found one is the first or a later one
first_or : {A : Type 0} (P : Type 0) (b : Bool) (a r : A) (o : Option A) → (b ≡ true → P) → (o ≡ Some r → P) → ◌≡◌ {A = Option A} (if b then Some a else o) (Some r) → P
first_or P true a r o one later e = one refl
first_or P false a r o one later e = later e

abbrev found_in : Name → List Item → Option Signature
found_in n js = find (λ (s : Signature). same_name s.name n) (flat_map signatures_of_item js)

found_callable : (n : Name) (t : Signature) (js : List Item) → All HasFunction js → found_in n js ≡ Some t → IsCallable n
found_callable n t [] h e = absurd cc
found_callable n t (item.Function g body ∷ js) h e =
    let is = All-head HasFunction (item.Function g body) js h in
    first_or (IsCallable n) (same_name g.name n) (signature_declared g) t (found_in n js)
    (λ s. by_number n is.0 (subst (λ m. same_name m n ≡ true) is.1 s))
    (found_callable n t js (All-tail HasFunction (item.Function g body) js h)) e
found_callable n t (item.Directive d ∷ js) h e = found_callable n t js (All-tail HasFunction (item.Directive d) js h) e
found_callable n t (item.Tag m at ∷ js) h e = found_callable n t js (All-tail HasFunction (item.Tag m at) js h) e
found_callable n t (item.Struct m ms at ∷ js) h e = found_callable n t js (All-tail HasFunction (item.Struct m ms at) js h) e
found_callable n t (item.Static d ∷ js) h e = found_callable n t js (All-tail HasFunction (item.Static d) js h) e
found_callable n t (item.Proto g ∷ js) h e = found_callable n t js (All-tail HasFunction (item.Proto g) js h) e

pub called_callable : (p : Typed) → IsJudged p → (n : Name) (t : Signature) → signature_named (globals_in p) n ≡ Some t → IsCallable n
called_callable p j n t e =
    let js = (without_notes p.tree).items in
    let functions : All HasFunction js =
    subst (λ (tree : _). All HasFunction tree.items) (sym (tree_named p j))
    (let r = resolved_of j.spelled j.named j.has_names in
    all_items j.spelled j.named r HasFunction (λ h b c k. k) (items_function (names_of j.spelled) j.spelled.items no_names j.spelled.items r.resolved.tree.items (text_is j.spelled r.resolved r.has_names).items)) in
    first_or (IsCallable n) (same_name name.Getchar n) getchar t (find (λ (s : Signature). same_name s.name n) (putchar ∷ flat_map signatures_of_item js))
    (by_getchar n)
    (first_or (IsCallable n) (same_name name.Putchar n) putchar t (found_in n js) (by_putchar n) (found_callable n t js functions)) e
