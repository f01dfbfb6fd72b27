-- The locals of each function of a plain text have the numbers from 0 on: its parameters, those that it had before, and
-- then the fresh ones.
use Rattle.std.proofs.Common.{◌≡◌, ◌∙◌, sym, ap, refl, subst, ℕ, zero, suc, ◌+◌, List, [], ◌∷◌, ◌++◌, map, length, arith}
use Rattle.std.specs.Prelude.{All}
use Rattle.std.specs.List.{flat_map}
use Rattle.std.proofs.lemmas.List.{length-map}
use Rattle.std.proofs.lemmas.List.Elements.{All-nil, All-cons, All-head, All-tail}
use Rattle.ckc_syntax.specs.declared.tree.Name.{Name}
use Rattle.ckc_syntax.specs.declared.tree.Name.TheVariants as name
use Rattle.ckc_syntax.specs.declared.tree.Item.TheVariants as item
use Rattle.ckc_syntax.specs.declared.tree.NamedText.{NamedText}
use Rattle.ckc_syntax.specs.Trees.{Tree, NamedTree, NamedItem, NamedHead, NamedDecl, NamedStmt}
use Rattle.ckc_plain.specs.ckc_plain_barred.specs.declared.integers.Integers.{Integers}
use Rattle.ckc_plain.specs.ckc_plain_barred.specs.Integers.{declared_integer, locals_of_stmt, known_of, known_in}
use Rattle.ckc_plain.specs.ckc_plain_bodies.specs.Statements.{alone, stmt_plain, item_plain}
use Rattle.ckc_plain.specs.Phase.{resolving}
use Rattle.ckc_typed_fit.specs.Numbers.{CountsFrom, AreNumbered}
use Rattle.ckc_typed_fit.specs.Locals.{local_in, decl_local, item_locals, item_params}
use Rattle.ckc_typed_fit.proofs.LocalsCounted.{locals_count, params_first}
use Rattle.ckc_typed_plain.specs.Resolved.{IsResolved}
use Rattle.ckc_typed_plain.proofs.Items.{resolved_of, all_items}
use Rattle.ckc_typed_plain.proofs.Fresh.{one, times, from_zero, hits, hits_append, counts_append, as_often}
use Rattle.ckc_typed_plain.proofs.FreshExprs.{code, occurs, occurs_append}
use Rattle.ckc_typed_plain.proofs.FreshStmts.{function_adds}
use Rattle.ckc_typed_plain.proofs.OwnLocals.{NamedFrom, declared_in, own_named}
use Rattle.ckc_typed_plain.proofs.Gathered.{flat_append, gathered}

-- the names are those of the locals with the numbers from 0 on, each once, in some order
abbrev pub AllNamed : List NamedDecl → Type 0
AllNamed ds = (ks : List ℕ) × (map (λ (d : NamedDecl). d.name) ds ≡ map name.Local ks) × AreNumbered ks

-- ---- names and numbers

hits_cons : (i k : ℕ) (ns : List ℕ) → hits i (k ∷ ns) ≡ one i (suc k) + hits i ns
hits_cons zero k ns = refl
hits_cons (suc i) k ns = refl

hits_nil : (i : ℕ) → 0 ≡ hits i []
hits_nil zero = refl
hits_nil (suc i) = refl

record Numbers (k : ℕ) (ds : List NamedDecl) : Type 0 where
  are : List ℕ
  count : CountsFrom k are
  long : length are ≡ length ds
  often : (i : ℕ) → occurs i ds ≡ hits i are

numbers_of : (k : ℕ) (ds : List NamedDecl) → NamedFrom k ds → Numbers k ds
numbers_of k [] h = record { are = []; count = tt; long = refl; often = hits_nil }
numbers_of k (d ∷ ds) h =
    let r = numbers_of (k + 1) ds h.1 in
    record {
      are = k ∷ r.are;
      count = (refl, r.count);
      long = ap (λ n. suc n) r.long;
      often = λ i. ap (λ (n : Name). one i (code n) + occurs i ds) h.0 ∙ ap (λ c. one i (suc k) + c) (r.often i) ∙ sym (hits_cons i k r.are);
    }

-- if no declaration has another name
all_locals : (ds : List NamedDecl) → occurs 0 ds ≡ 0 → map (λ (d : NamedDecl). d.name) ds ≡ map name.Local (flat_map decl_local ds)
all_locals [] h = refl
all_locals (d ∷ ds) h = by d.name h (all_locals ds)
  where
    none : (c : ℕ) → 1 + c ≡ 0 → ⊥
    none c e = omega (arith, e)

    by : (n : Name) → one 0 (code n) + occurs 0 ds ≡ 0 → (occurs 0 ds ≡ 0 → map (λ (d : NamedDecl). d.name) ds ≡ map name.Local (flat_map decl_local ds))
        → n ∷ map (λ (d : NamedDecl). d.name) ds ≡ map name.Local (local_in n ++ flat_map decl_local ds)
    by (name.Local k) e rest = ap (λ l. name.Local k ∷ l) (rest (from_zero (occurs 0 ds) ∙ e))
    by (name.Static k) e rest = absurd (none (occurs 0 ds) e)
    by (name.Function k) e rest = absurd (none (occurs 0 ds) e)
    by (name.Tag k) e rest = absurd (none (occurs 0 ds) e)
    by (name.Member k) e rest = absurd (none (occurs 0 ds) e)
    by name.Getchar e rest = absurd (none (occurs 0 ds) e)
    by name.Putchar e rest = absurd (none (occurs 0 ds) e)

as_numbers : (n : ℕ) (ds : List NamedDecl) → times n (flat_map decl_local ds) ≡ occurs (suc n) ds
as_numbers n [] = refl
as_numbers n (d ∷ ds) = by d.name (as_numbers n ds)
  where
    by : (x : Name) → times n (flat_map decl_local ds) ≡ occurs (suc n) ds → times n (local_in x ++ flat_map decl_local ds) ≡ one (suc n) (code x) + occurs (suc n) ds
    by (name.Local k) rest = ap (λ c. one n k + c) rest
    by (name.Static k) rest = rest ∙ from_zero (occurs (suc n) ds)
    by (name.Function k) rest = rest ∙ from_zero (occurs (suc n) ds)
    by (name.Tag k) rest = rest ∙ from_zero (occurs (suc n) ds)
    by (name.Member k) rest = rest ∙ from_zero (occurs (suc n) ds)
    by name.Getchar rest = rest ∙ from_zero (occurs (suc n) ds)
    by name.Putchar rest = rest ∙ from_zero (occurs (suc n) ds)

-- declarations of which there are as many of each local as there are in some numbers
all_named : (ks : List ℕ) (ds : List NamedDecl) → CountsFrom 0 ks → ((i : ℕ) → occurs i ds ≡ hits i ks) → AllNamed ds
all_named ks ds h often =
    (flat_map decl_local ds, all_locals ds (often 0), (ks, h, as_often ks (flat_map decl_local ds) (λ n. sym (as_numbers n ds ∙ often (suc n)))))

-- ---- functions

module _ (known : Integers) where
  function_named : (h : NamedHead) (body : NamedStmt) → NamedFrom 0 (h.params ++ locals_of_stmt body) → AllNamed (declared_in (item_plain known (item.Function h body)))
  function_named h body named =
      let inside = known_in known h body in
      let m = length inside.locals in
      let r = alone (stmt_plain inside body) m in
      let own = numbers_of 0 (h.params ++ locals_of_stmt body) named in
      let a = function_adds inside body m in
      let long : m ≡ 0 + length own.are = length-map (h.params ++ locals_of_stmt body) declared_integer ∙ sym own.long ∙ from_zero (length own.are) in
      all_named (own.are ++ a.new) (h.params ++ locals_of_stmt r.0) (counts_append 0 own.are a.new own.count (subst (λ n. CountsFrom n a.new) long a.counted.counts))
      (λ i. put (occurs i h.params) (occurs i (locals_of_stmt body)) (occurs i (locals_of_stmt r.0)) (occurs i (h.params ++ locals_of_stmt body)) (occurs i (h.params ++ locals_of_stmt r.0)) (hits i own.are) (hits i a.new) (hits i (own.are ++ a.new))
      (occurs_append i h.params (locals_of_stmt body)) (occurs_append i h.params (locals_of_stmt r.0)) (own.often i) (a.is i) (hits_append i own.are a.new))
    where
      put : (p b c own all mine new both : ℕ) → own ≡ p + b → all ≡ p + c → own ≡ mine → c ≡ b + new → both ≡ mine + new → all ≡ both
      put p b c own all mine new both e f g h i = omega (arith, e, f, g, h, i)

  same_named : (i : NamedItem) → NamedFrom 0 (declared_in i) → AllNamed (declared_in i)
  same_named i h = let own = numbers_of 0 (declared_in i) h in all_named own.are (declared_in i) own.count own.often

  item_named : (i : NamedItem) → NamedFrom 0 (declared_in i) → AllNamed (declared_in (item_plain known i))
  item_named (item.Directive d) h = same_named (item.Directive d) h
  item_named (item.Tag n at) h = same_named (item.Tag n at) h
  item_named (item.Struct n members at) h = same_named (item.Struct n members at) h
  item_named (item.Static d) h = same_named (item.Static d) h
  item_named (item.Proto g) h = same_named (item.Proto g) h
  item_named (item.Function g body) h = function_named g body h

  items_named : (is : List NamedItem) → All (λ i. NamedFrom 0 (declared_in i)) is → All (λ i. AllNamed (declared_in i)) (map (item_plain known) is)
  items_named [] h = All-nil (λ i. AllNamed (declared_in i))
  items_named (i ∷ is) h =
      All-cons (λ i. AllNamed (declared_in i)) (item_plain known i) (map (item_plain known) is) (item_named i (All-head (λ i. NamedFrom 0 (declared_in i)) i is h)) (items_named is (All-tail (λ i. NamedFrom 0 (declared_in i)) i is h))

-- ---- the numbers alone

numbers_same : (ds : List NamedDecl) (ks : List ℕ) → map (λ (d : NamedDecl). d.name) ds ≡ map name.Local ks → flat_map decl_local ds ≡ ks
numbers_same ds ks is = flat_names ds ∙ ap (flat_map local_in) is ∙ back ks
  where
    flat_names : (ds : List NamedDecl) → flat_map decl_local ds ≡ flat_map local_in (map (λ (d : NamedDecl). d.name) ds)
    flat_names [] = refl
    flat_names (d ∷ ds) = ap (λ l. local_in d.name ++ l) (flat_names ds)

    back : (ks : List ℕ) → flat_map local_in (map name.Local ks) ≡ ks
    back [] = refl
    back (k ∷ ks) = ap (λ l. k ∷ l) (back ks)

locals_declared : (i : NamedItem) → item_locals i ≡ flat_map decl_local (declared_in i)
locals_declared (item.Directive d) = refl
locals_declared (item.Tag n at) = refl
locals_declared (item.Struct n members at) = refl
locals_declared (item.Static d) = refl
locals_declared (item.Proto g) = refl
locals_declared (item.Function g body) = ap (λ l. flat_map decl_local g.params ++ l) (gathered decl_local body) ∙ sym (flat_append decl_local g.params (locals_of_stmt body))

item_numbered : (i : NamedItem) → AllNamed (declared_in i) → AreNumbered (item_locals i)
item_numbered i h = subst AreNumbered (sym (locals_declared i ∙ numbers_same (declared_in i) h.0 h.1)) h.2

all_numbered : (is : List NamedItem) → All (λ i. AllNamed (declared_in i)) is → All (λ i. AreNumbered (item_locals i)) is
all_numbered [] h = All-nil (λ i. AreNumbered (item_locals i))
all_numbered (i ∷ is) h = All-cons (λ i. AreNumbered (item_locals i)) i is (item_numbered i (All-head (λ i. AllNamed (declared_in i)) i is h)) (all_numbered is (All-tail (λ i. AllNamed (declared_in i)) i is h))

-- ---- texts

abbrev pub params_in : NamedItem → List NamedDecl
params_in (item.Proto h) = h.params
params_in (item.Function h body) = h.params
params_in i = []

front_named : (k : ℕ) (ds es : List NamedDecl) → NamedFrom k (ds ++ es) → NamedFrom k ds
front_named k [] es h = tt
front_named k (d ∷ ds) es h = (h.0, front_named (k + 1) ds es h.1)

params_first_named : (i : NamedItem) → NamedFrom 0 (declared_in i) → NamedFrom 0 (params_in i)
params_first_named (item.Directive d) h = h
params_first_named (item.Tag n at) h = h
params_first_named (item.Struct n members at) h = h
params_first_named (item.Static d) h = h
params_first_named (item.Proto g) h = h
params_first_named (item.Function g body) h = front_named 0 g.params (locals_of_stmt body) h

all_params : (is : List NamedItem) → All (λ i. NamedFrom 0 (declared_in i)) is → All (λ i. NamedFrom 0 (params_in i)) is
all_params [] h = All-nil (λ i. NamedFrom 0 (params_in i))
all_params (i ∷ is) h =
    All-cons (λ i. NamedFrom 0 (params_in i)) i is (params_first_named i (All-head (λ i. NamedFrom 0 (declared_in i)) i is h)) (all_params is (All-tail (λ i. NamedFrom 0 (declared_in i)) i is h))

module _ (t : Tree) (n : NamedText) (m : resolving.Makes t n) where
  r : IsResolved t n
  r = resolved_of t n m

  pub params_numbered : All (λ i. CountsFrom 0 (item_params i)) n.tree.items
  params_numbered = all_items t n r (λ i. CountsFrom 0 (item_params i)) (λ h b c p. p) (params_first r.resolved.tree.items (locals_count t r.resolved r.has_names))

  -- the parameters of each function have the names of the numbers 0, 1, 2 and so on
  pub params_named : All (λ i. NamedFrom 0 (params_in i)) n.tree.items
  params_named = all_items t n r (λ i. NamedFrom 0 (params_in i)) (λ h b c p. p) (all_params r.resolved.tree.items (own_named t r.resolved r.has_names))

  -- the locals of each function have the names of the numbers from 0 on
  pub locals_named : All (λ i. AllNamed (declared_in i)) n.tree.items
  locals_named = subst (λ (z : NamedTree). All (λ i. AllNamed (declared_in i)) z.items) (sym r.tree) (items_named (known_of r.resolved.tree) r.resolved.tree.items (own_named t r.resolved r.has_names))

  pub locals_numbered : All (λ i. AreNumbered (item_locals i)) n.tree.items
  locals_numbered = all_numbered n.tree.items locals_named
