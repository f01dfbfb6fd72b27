-- The functions of a judged text.
use Rattle.std.proofs.Common.{◌≡◌, ◌∙◌, sym, ap, subst, refl, ℕ, ◌+◌, List, [], ◌∷◌, ◌++◌, map}
use Rattle.std.specs.Prelude.{All}
use Rattle.std.specs.List.{Contains, flat_map}
use Rattle.std.proofs.lemmas.List.{map-append}
use Rattle.std.proofs.lemmas.List.Elements.{All-nil, All-cons, All-head, All-tail, All-contains}
use Rattle.std.proofs.lemmas.List.Sorted.{IsPermutation-refl}
use Rattle.ckc_base.specs.declared.arithmetic.Mode.{Mode}
use Rattle.ckc_base.specs.declared.arithmetic.Mode.TheVariants.{Checked}
use Rattle.ckc_syntax.specs.declared.tree.Name.{Name}
use Rattle.ckc_syntax.specs.declared.tree.Name.TheVariants as name
use Rattle.ckc_syntax.specs.declared.tree.Item.TheVariants as item
use Rattle.ckc_typed_fit.specs.Numbers.{CountsFrom}
use Rattle.ckc_typed.specs.declared.typed.Typed.{Typed}
use Rattle.ckc_typed.specs.Trees.{NotedDecl, NotedHead, NotedStmt, NotedItem, Tree, Item}
use Rattle.ckc_typed.specs.Interfaces.{seen_params}
use Rattle.ckc_typed.proofs.Seen.{names_seen}
use Rattle.ckc_typed_welltyped.specs.Noteless.{bare_decl, bare_item, without_notes}
use Rattle.ckc_bounds.specs.Frames.{all_of}
use Rattle.ckc_bounds.specs.ckc_bounds_statements.specs.Paths.{path}
use Rattle.ckc_blame_sound.specs.JudgedTexts.{IsJudged}
use Rattle.ckc_blame_sound.specs.Numbered.{AreLocals, AreAllLocals}
use Rattle.ckc_blame_sound.proofs.Bares.{same_tree}
use Rattle.ckc_blame_sound.proofs.KeptTrees.{two}
use Rattle.ckc_blame_sound.proofs.Locals.{names_declared, stmt_declares}
use Rattle.ckc_blame_sound.proofs.Numbers.{decl_name, item_names, names_declared_in}
use Rattle.ckc_typed_plain.proofs.OwnLocals.{NamedFrom, declared_in}
use Rattle.ckc_typed_plain.proofs.PlainLocals.{AllNamed, params_in, params_named, locals_named}

-- the tree without notes is that of the names
pub tree_named : (p : Typed) (j : IsJudged p) → without_notes p.tree ≡ j.named.tree
tree_named p j = same_tree j.typed p j.has_bounds ∙ j.has_types.tree

params_same : (ds : List NotedDecl) → flat_map decl_name (map bare_decl ds) ≡ names_declared ds
params_same [] = refl
params_same (d ∷ ds) = ap (λ ns. d.name ∷ ns) (params_same ds)

-- the names of the locals of a function
function_names : (h : NotedHead) (body : NotedStmt) → item_names (bare_item (item.Function h body)) ≡ names_declared (all_of h body)
function_names h body =
    two (λ xs ys. xs ++ ys) (params_same h.params ∙ sym (names_seen body.note.mode h)) (sym (stmt_declares body).is.names)
    ∙ sym (map-append (λ (d : NotedDecl). d.name) (seen_params body.note.mode h) (path body).declared)

-- what is so of all that is made from some is so of each, made
pub all_made : {A B : Type 0} (P : B → Type 0) (f : A → B) (xs : List A) → All P (map f xs) → All (λ x. P (f x)) xs
all_made P f [] h = All-nil (λ x. P (f x))
all_made P f (x ∷ xs) h = All-cons (λ y. P (f y)) x xs (All-head P (f x) (map f xs) h) (all_made P f xs (All-tail P (f x) (map f xs) h))

-- what is so of each item of the tree of names is so of each item without its notes
pub item_is : (p : Typed) (j : IsJudged p) (P : Item → Type 0) → All P j.named.tree.items → (i : NotedItem) → Contains p.tree.items i → P (bare_item i)
item_is p j P h i there =
    All-contains (λ k. P (bare_item k)) p.tree.items i (all_made P bare_item p.tree.items (subst (λ (t : Tree). All P t.items) (sym (tree_named p j)) h)) there

-- names that count are those of the locals with these numbers
counting_numbers : (k : ℕ) (ns : List Name) → AreLocals k ns → (ks : List ℕ) × (ns ≡ map name.Local ks) × CountsFrom k ks
counting_numbers k [] h = ([], refl, tt)
counting_numbers k (n ∷ ns) h = let r = counting_numbers (k + 1) ns h.1 in (k ∷ r.0, two (λ m ms. m ∷ ms) h.0 r.1, (refl, r.2))

params_counted : (k : ℕ) (ds : List NotedDecl) → NamedFrom k (map bare_decl ds) → AreLocals k (names_declared ds)
params_counted k [] h = tt
params_counted k (d ∷ ds) h = (h.0, params_counted (k + 1) ds h.1)

-- parameters have the first numbers
pub params_numbered : (p : Typed) (h : NotedHead) (body : NotedStmt) → IsJudged p → Contains p.tree.items (item.Function h body) → AreLocals 0 (names_declared h.params)
params_numbered p h body j there =
    params_counted 0 h.params (item_is p j (λ i. NamedFrom 0 (params_in i)) (params_named j.spelled j.named j.has_names) (item.Function h body) there)

all_locals : (ns : List Name) → AreLocals 0 ns → AreAllLocals ns
all_locals ns h = let r = counting_numbers 0 ns h in (r.0, r.1, (r.0, r.2, IsPermutation-refl r.0))

-- what code of a mode sees of parameters has their numbers
pub params_own : (p : Typed) (h : NotedHead) (body : NotedStmt) → IsJudged p → Contains p.tree.items (item.Function h body) → (mode : Mode) → AreAllLocals (names_declared (seen_params mode h))
params_own p h body j there mode =
    all_locals (names_declared (seen_params mode h)) (subst (AreLocals 0) (sym (names_seen mode h)) (params_numbered p h body j there))

-- each local has a number of its own
pub numbered : (p : Typed) (h : NotedHead) (body : NotedStmt) → IsJudged p → Contains p.tree.items (item.Function h body) → AreAllLocals (names_declared (all_of h body))
numbered p h body j there =
    let bare = bare_item (item.Function h body) in
    let r : AllNamed (declared_in bare) = item_is p j (λ i. AllNamed (declared_in i)) (locals_named j.spelled j.named j.has_names) (item.Function h body) there in
    (r.0, sym (function_names h body) ∙ names_declared_in bare ∙ r.1, r.2)

-- the same of the locals whose types bounds are judged by
pub types_numbered_so : (p : Typed) (h : NotedHead) (body : NotedStmt) → IsJudged p → Contains p.tree.items (item.Function h body) → AreAllLocals (names_declared (seen_params Checked h ++ (path body).declared))
types_numbered_so p h body j there =
    let names : (mode : Mode) → names_declared (seen_params mode h ++ (path body).declared) ≡ names_declared h.params ++ names_declared (path body).declared =
    λ mode. map-append (λ (d : NotedDecl). d.name) (seen_params mode h) (path body).declared ∙ ap (λ ns. ns ++ names_declared (path body).declared) (names_seen mode h) in
    subst AreAllLocals (names body.note.mode ∙ sym (names Checked)) (numbered p h body j there)
