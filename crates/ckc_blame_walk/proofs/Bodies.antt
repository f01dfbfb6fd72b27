-- The body of each function stands in the scope of its parameters.
use Rattle.std.proofs.Common.{slice_get, ◌≡◌, ⊎_elim, refl, sym, ap, subst, ◌∙◌, ℕ, suc, ◌+◌, Bool, true, false, List, [], ◌∷◌, ◌++◌, map, length, length-append, append-nil, append_assoc, eqb, arith}
use Rattle.std.specs.Prelude.{◌<◌, ◌≤◌, ◌&&◌, ◌||◌, All, Option, None, Some}
use Rattle.std.specs.List.{list_all, list_any, flat_map, Contains, IsDistinct}
use Rattle.std.specs.Option.{option_map}
use Rattle.std.proofs.lemmas.Bool.{eqb-true}
use Rattle.std.proofs.lemmas.List.Elements.{All-nil, All-cons, All-head, All-tail, All-contains, Contains-append_cases, Contains-append_left, Contains-append_right}
use Rattle.std.proofs.lemmas.List.{length-map}
use Rattle.ckc_base.specs.declared.arithmetic.Mode.{Mode}
use Rattle.ckc_base.specs.declared.arithmetic.Mode.TheVariants.{Checked, Unchecked}
use Rattle.ckc_syntax.specs.Trees.{NamedTypeTree}
use Rattle.ckc_syntax.specs.declared.tree.Name.{Name}
use Rattle.ckc_syntax.specs.declared.tree.Name.TheVariants as name
use Rattle.ckc_syntax.specs.declared.tree.Item.TheVariants as item
use Rattle.ckc_typed.specs.declared.typed.Typed.{Typed}
use Rattle.ckc_typed.specs.Environment.{same_name}
use Rattle.ckc_typed.specs.Interfaces.{interface_to, seen_as, seen, seen_params}
use Rattle.ckc_typed.specs.Trees.{NotedDecl, NotedHead, NotedItem, NotedStmt}
use Rattle.ckc_typed.proofs.Seen.{name_seen as same_named}
use Rattle.ckc_typed_welltyped.specs.Noteless.{bare_limits, bare_init, bare_decl, bare_head, bare_item}
use Rattle.ckc_typed_fit.specs.Tests as tests
use Rattle.ckc_typed_fit.specs.Tests.{Tests, type_passes, bounds_pass, init_passes, decl_passes, decls_pass, head_passes, item_passes, items_pass}
use Rattle.ckc_typed_fit.proofs.EachOnce.{once, all_below}
use Rattle.ckc_typed_plain.proofs.Found.{names_visible}
use Rattle.ckc_blame_sound.specs.ckc_bounds_known.proofs.Reaching.{and_cases}
use Rattle.ckc_blame_sound.specs.ckc_bounds_points.specs.declared.frame.Frame.{Frame}
use Rattle.ckc_blame_sound.specs.ckc_bounds_points.specs.declared.frame.Local.{Local}
use Rattle.ckc_blame_sound.specs.ckc_bounds_points.specs.Frames.{local_at}
use Rattle.ckc_blame_sound.specs.ckc_bounds_points.specs.Flow.{in_bounds, in_bounds_of}
use Rattle.ckc_blame_sound.specs.ckc_bounds_statements.specs.Paths.{local_in, path}
use Rattle.ckc_blame_sound.specs.ckc_bounds.specs.Declarations.{local_made, all_made as locals_made}
use Rattle.ckc_blame_sound.specs.ckc_bounds.specs.Frames.{all_of, name_seen, first_fresh, nameless, types_frame, function_frame}
use Rattle.ckc_blame_sound.specs.Settings.{Setting}
use Rattle.ckc_blame_sound.specs.JudgedTexts.{IsJudged}
use Rattle.ckc_blame_sound.specs.Numbered.{AreLocals, AreAllLocals}
use Rattle.ckc_blame_sound.proofs.Functions.{tree_named, all_made}
use Rattle.ckc_blame_sound.proofs.Locals.{names_declared}
use Rattle.ckc_blame_sound.proofs.ByNumber.{all_at, unlike_all}
use Rattle.ckc_blame_declared.proofs.Locals.{local_is}
use Rattle.ckc_blame_walk.specs.Scopes.{tests_of, items_of, scope_of, HasLocal, IsScope, HasOwnBounds, AreNew, AreNext, IsScoped, with_declared}
use Rattle.ckc_blame_walk.proofs.Bounds.{declared_over}
use Rattle.ckc_blame_walk.proofs.Flow.{mapped_in}
use Rattle.ckc_blame_walk.proofs.Elements.{no_element, one_element, local_number, number_same}
use Rattle.ckc_blame_walk.proofs.Standing.{next_back}

-- ---- lists

all_true : {A : Type 0} (p : A → Bool) (xs : List A) → list_all p xs ≡ true → All (λ x. p x ≡ true) xs
all_true p [] h = All-nil (λ x. p x ≡ true)
all_true p (x ∷ xs) h = let b = and_cases (p x) (list_all p xs) h in All-cons (λ x. p x ≡ true) x xs b.0 (all_true p xs b.1)

-- ---- what is declared is new

new_by : (count : ℕ) (ks : List ℕ) (past : List ℕ) (ds : List NotedDecl) → names_declared ds ≡ map name.Local ks → IsDistinct eqb ks → All (λ k. k < count) ks
    → ((k : ℕ) → Contains ks k → Contains past k → ⊥) → AreNew count past ds
unfolding IsDistinct
new_by count ks past [] is h below apart = tt
new_by count [] past (d ∷ ds) is h below apart = absurd cc
new_by count (k ∷ ks) past (d ∷ ds) is h below apart =
    let first : d.name ≡ name.Local k = cc in
    let rest : names_declared ds ≡ map name.Local ks = cc in (
      (k, first, All-head (λ k. k < count) k ks below, apart k (0, omega arith, refl)),
      new_by count ks (past ++ name_seen d) ds rest h.1 (All-tail (λ k. k < count) k ks below)
          (λ j c b. ⊎_elim (λ e. apart j (Contains-append_right (k ∷ []) ks j c) e)
          (λ e. unlike_all ks k h.0 (subst (Contains ks) (sym (one_element k j (subst (λ n. Contains (local_in n) j) first e))) c))
          (Contains-append_cases past (name_seen d) j b)),
    )

all_new : (ds : List NotedDecl) → AreAllLocals (names_declared ds) → AreNew (length ds) [] ds
all_new ds numbers =
    let long : length numbers.0 ≡ length ds = sym (length-map numbers.0 name.Local) ∙ ap length (sym numbers.1) ∙ length-map ds (λ (d : NotedDecl). d.name) in
    new_by (length ds) numbers.0 [] ds numbers.1 (once numbers.0 numbers.2) (subst (λ n. All (λ k. k < n) numbers.0) long (all_below numbers.0 numbers.2)) (λ k c b. no_element k b)

-- ---- the bounds of locals

module _ (s : Setting) (frame : Frame) (h : NotedHead) (body : NotedStmt) (same : s.frame ≡ function_frame frame h body) (numbers : AreAllLocals (names_declared (all_of h body))) where
  abbrev ds : List NotedDecl
  ds = all_of h body

  abbrev types : Frame
  types = types_frame frame h body

  own_bounds : (d : NotedDecl) → Contains ds d → HasOwnBounds s d
  own_bounds d c k j visible named there passes inside =
      by (local_at (function_frame frame h body) k) refl (subst (λ f. in_bounds_of j (local_at f k) ≡ true) same inside)
    where
      declared : (l : Local) → slice_get (locals_made types true ds) k ≡ Some l → in_bounds j l.bounds ≡ true → HasLocal visible j
      declared l e g =
          let made : slice_get (locals_made types true ds) k ≡ Some (local_made types true k d) = all_at types true ds k d numbers c named in
          let is : l ≡ local_made types true k d = same_local l (local_made types true k d) (sym e ∙ made) in
          declared_over (items_of s) visible types k there _ d.length d.bounds passes j (subst (λ (x : Local). in_bounds j x.bounds ≡ true) is g)
        where
          same_local : (a b : Local) → ◌≡◌ {A = Option Local} (Some a) (Some b) → a ≡ b
          same_local a b e = cc

      fresh : (l : Local) → l ≡ nameless → in_bounds j l.bounds ≡ true → HasLocal visible j
      fresh l e g = let f : in_bounds j nameless.bounds ≡ true = subst (λ (x : Local). in_bounds j x.bounds ≡ true) e g in absurd cc

      by : (o : Option Local) → local_at (function_frame frame h body) k ≡ o → in_bounds_of j (local_at (function_frame frame h body) k) ≡ true → HasLocal visible j
      by None e g = let f : in_bounds_of j None ≡ true = subst (λ o. in_bounds_of j o ≡ true) e g in absurd cc
      by (Some l) e g =
          let f : in_bounds j l.bounds ≡ true = subst (λ o. in_bounds_of j o ≡ true) e g in
          ⊎_elim (λ a. declared l a f) (λ b. fresh l b f) (local_is frame h body k l e)

-- ---- parameters

sees_names : (ds : List NotedDecl) (k : ℕ) → HasLocal (names_declared ds) k → Contains (flat_map name_seen ds) k
sees_names [] k h = absurd cc
sees_names (d ∷ ds) k h = by (same_name (name.Local k) d.name) refl h (λ g. sees_names ds k g)
  where
    first : (n : Name) → same_name (name.Local k) n ≡ true → Contains (local_in n) k
    first (name.Local j) e = subst (Contains (j ∷ [])) (sym (eqb-true k j e)) (0, omega arith, refl)
    first (name.Static j) e = absurd cc
    first (name.Function j) e = absurd cc
    first (name.Tag j) e = absurd cc
    first (name.Member j) e = absurd cc
    first name.Getchar e = absurd cc
    first name.Putchar e = absurd cc

    by : (b : Bool) → same_name (name.Local k) d.name ≡ b → (b || list_any (same_name (name.Local k)) (names_declared ds)) ≡ true → (HasLocal (names_declared ds) k → Contains (flat_map name_seen ds) k)
        → Contains (name_seen d ++ flat_map name_seen ds) k
    by true e h later = Contains-append_left (name_seen d) (flat_map name_seen ds) k (first d.name e)
    by false e h later = Contains-append_right (name_seen d) (flat_map name_seen ds) k (later h)

below_all : (ds : List NotedDecl) (n : ℕ) → AreLocals n (names_declared ds) → (k : ℕ) → Contains (flat_map name_seen ds) k → k < n + length ds
below_all [] n h k c = absurd (no_element k c)
below_all (d ∷ ds) n h k c =
    ⊎_elim (λ a. first (one_element n k (subst (λ m. Contains (local_in m) k) h.0 a)))
    (λ b. let r = below_all ds (n + 1) h.1 k b in omega (arith, r))
    (Contains-append_cases (name_seen d) (flat_map name_seen ds) k c)
  where
    first : n ≡ k → k < n + suc (length ds)
    first e = omega (arith, e)

-- the numbers that are declared are those that are seen
declared_seen : (past : List ℕ) (ds : List NotedDecl) → with_declared past ds ≡ past ++ flat_map name_seen ds
declared_seen past [] = sym (append-nil past)
declared_seen past (d ∷ ds) = declared_seen (past ++ name_seen d) ds ∙ append_assoc past (name_seen d) (flat_map name_seen ds)

-- what declares a local that is in scope
record Declares (ds : List NotedDecl) (k : ℕ) : Type 0 where
  pub decl : NotedDecl
  pub there : Contains ds decl
  pub named : decl.name ≡ name.Local k

declares : (ds : List NotedDecl) (n : ℕ) → AreLocals n (names_declared ds) → (k : ℕ) → Contains (flat_map name_seen ds) k → Declares ds k
declares [] n h k c = absurd (no_element k c)
declares (d ∷ ds) n h k c =
    ⊎_elim (λ a. record { decl = d; there = (0, omega arith, refl); named = h.0 ∙ ap name.Local (one_element n k (subst (λ m. Contains (local_in m) k) h.0 a)) })
    (λ b. let r : Declares ds k = declares ds (n + 1) h.1 k b in record { decl = r.decl; there = Contains-append_right (d ∷ []) ds r.decl r.there; named = r.named })
    (Contains-append_cases (name_seen d) (flat_map name_seen ds) k c)

any_named : (ns : List Name) (n : Name) (k : ℕ) → Contains ns n → n ≡ name.Local k → HasLocal ns k
any_named [] n k c e = absurd (no_element n c)
any_named (m ∷ ns) n k c e =
    ⊎_elim (λ a. first (one_element m n a ∙ e)) (λ b. later (same_name (name.Local k) m) (any_named ns n k b e)) (Contains-append_cases (m ∷ []) ns n c)
  where
    later : (b : Bool) → list_any (same_name (name.Local k)) ns ≡ true → (b || list_any (same_name (name.Local k)) ns) ≡ true
    later true h = refl
    later false h = h

    first : m ≡ name.Local k → (same_name (name.Local k) m || list_any (same_name (name.Local k)) ns) ≡ true
    first f = subst (λ (x : Name). (same_name (name.Local k) x || list_any (same_name (name.Local k)) ns) ≡ true) (sym f) (by (same_name (name.Local k) (name.Local k)) (number_same k))
      where
        by : (b : Bool) → b ≡ true → (b || list_any (same_name (name.Local k)) ns) ≡ true
        by true e = refl
        by false e = absurd cc

contains_name : (ds : List NotedDecl) (d : NotedDecl) → Contains ds d → Contains (names_declared ds) d.name
contains_name [] d c = absurd (no_element d c)
contains_name (e ∷ ds) d c =
    ⊎_elim (λ a. subst (λ (x : NotedDecl). Contains (e.name ∷ names_declared ds) x.name) (one_element e d a) (0, omega arith, refl))
    (λ b. Contains-append_right (e.name ∷ []) (names_declared ds) d.name (contains_name ds d b))
    (Contains-append_cases (e ∷ []) ds d c)

names_bare : (ds : List NotedDecl) → tests.names_declared (map bare_decl ds) ≡ names_declared ds
names_bare [] = refl
names_bare (d ∷ ds) = ap (λ ns. d.name ∷ ns) (names_bare ds)

-- what a body sees of parameters has the same numbers
seen_numbers : (mode : Mode) (ds : List NotedDecl) → flat_map name_seen (map (seen mode) ds) ≡ flat_map name_seen ds
seen_numbers mode [] = refl
seen_numbers mode (d ∷ ds) =
    ap (λ n. local_in n ++ flat_map name_seen (map (seen mode) ds)) (same_named mode d) ∙ ap (λ ks. name_seen d ++ ks) (seen_numbers mode ds)

-- and its bounds name what those of the parameter do
seen_pass : (test : Tests) (visible : List Name) (mode : Mode) (d : NotedDecl) → bounds_pass test visible (option_map bare_limits d.bounds) ≡ true
    → bounds_pass test visible (option_map bare_limits (seen mode d).bounds) ≡ true
seen_pass test visible mode d h = by mode (interface_to d)
  where
    by : (mode : Mode) (t : Option NamedTypeTree) → bounds_pass test visible (option_map bare_limits (seen_as mode d t).bounds) ≡ true
    by mode None = h
    by Checked (Some t) = h
    by Unchecked (Some t) = refl

-- ---- a function

module _ (p : Typed) (j : IsJudged p) (s : Setting) (frame : Frame) (h : NotedHead) (body : NotedStmt) (there : Contains j.typed.tree.items (item.Function h body)) (text : s.text ≡ p)
    (same : s.frame ≡ function_frame frame h body) (many : length s.variables ≡ first_fresh h body) (params : AreLocals 0 (names_declared h.params)) (numbers : AreAllLocals (names_declared (all_of h body))) where
  abbrev t : Tests
  t = tests_of (items_of s)

  items_are : items_of s ≡ j.named.tree.items
  items_are = ap (λ (q : Typed). items_of (record s { text = q })) text ∙ ap (λ (x : _). x.items) (tree_named p j)

  passed : item_passes t (bare_item (item.Function h body)) ≡ true
  passed =
      let all : list_all (item_passes t) j.named.tree.items ≡ true = subst (λ is. items_pass (tests_of is) j.named.tree.items ≡ true) (sym items_are) (names_visible j.spelled j.named j.has_form j.has_names) in
      let each : All (λ i. item_passes t i ≡ true) (map bare_item j.typed.tree.items) =
      subst (λ (x : _). All (λ i. item_passes t i ≡ true) x.items) (sym j.has_types.tree) (all_true (item_passes t) j.named.tree.items all) in
      All-contains (λ (i : NotedItem). item_passes t (bare_item i) ≡ true) j.typed.tree.items (item.Function h body) (all_made (λ i. item_passes t i ≡ true) bare_item j.typed.tree.items each) there

  abbrev visible : List Name
  visible = names_declared h.params

  parts : (head_passes t (bare_head h) ≡ true) × ((scope_of (items_of s) body).passes (tests.names_declared (map bare_decl h.params)) ≡ true)
  parts = and_cases (head_passes t (bare_head h)) ((scope_of (items_of s) body).passes (tests.names_declared (map bare_decl h.params))) passed

  body_passes : (scope_of (items_of s) body).passes visible ≡ true
  body_passes = subst (λ ns. (scope_of (items_of s) body).passes ns ≡ true) (names_bare h.params) parts.1

  params_pass : All (λ (d : NotedDecl). decl_passes t (tests.names_declared (map bare_decl h.params)) (tests.names_declared (map bare_decl h.params)) (bare_decl d) ≡ true) h.params
  params_pass =
      let ns = tests.names_declared (map bare_decl h.params) in
      let a = and_cases (type_passes t h.result) (decls_pass t (map bare_decl h.params) && bounds_pass t ns (option_map bare_limits h.bounds)) parts.0 in
      let b = and_cases (decls_pass t (map bare_decl h.params)) (bounds_pass t ns (option_map bare_limits h.bounds)) a.1 in
      all_made (λ d. decl_passes t ns ns d ≡ true) bare_decl h.params (all_true (decl_passes t ns ns) (map bare_decl h.params) b.0)

  param_bounds : (d : NotedDecl) → Contains h.params d → bounds_pass t visible (option_map bare_limits d.bounds) ≡ true
  param_bounds d c =
      let ns = tests.names_declared (map bare_decl h.params) in
      let all = All-contains (λ (d : NotedDecl). decl_passes t ns ns (bare_decl d) ≡ true) h.params d params_pass c in
      let b = bounds_pass t ns (option_map bare_limits d.bounds) in
      let i = init_passes t ns (bare_init d.init) in
      subst (λ ms. bounds_pass t ms (option_map bare_limits d.bounds) ≡ true) (names_bare h.params) ((and_cases b i (and_cases (type_passes t d.ctype) (b && i) all).1).0)

  zero_first : (n : ℕ) → 0 + n ≡ n
  zero_first n = omega arith

  below_params : (k : ℕ) → Contains (flat_map name_seen h.params) k → k < length h.params
  below_params k c = subst (λ n. k < n) (zero_first (length h.params)) (below_all h.params 0 params k c)

  abbrev params_here : List NotedDecl
  params_here = seen_params body.note.mode h

  params_few : length h.params ≤ length s.variables
  params_few =
      let k : length params_here ≡ length h.params = length-map h.params (seen body.note.mode) in
      let l : length (all_of h body) ≡ length params_here + length (path body).declared = length-append params_here (path body).declared in
      let m : length s.variables ≡ length (all_of h body) = many in
      omega (arith, k, l, m)

  past_is : with_declared [] params_here ≡ flat_map name_seen h.params
  past_is = declared_seen [] params_here ∙ seen_numbers body.note.mode h.params

  params_scope : IsScope s visible (with_declared [] params_here) (flat_map name_seen h.params)
  params_scope = record {
    sees = sees_names h.params;
    few = λ k c. (let l = below_params k c in let m = params_few in omega (arith, l, m));
    declared = λ k c. subst (λ ks. Contains ks k) (sym past_is) c;
    bounds = λ i k c l. by i k c (λ b. l (subst (λ ks. Contains ks k) (sym past_is) b)) (in_bounds_of k (local_at s.frame i)) refl;
  }
    where
      by : (i k : ℕ) → Contains (flat_map name_seen h.params) i → (Contains (flat_map name_seen h.params) k → ⊥) → (b : Bool) → in_bounds_of k (local_at s.frame i) ≡ b → in_bounds_of k (local_at s.frame i) ≡ false
      by i k c l false e = e
      by i k c l true e =
          let d : Declares h.params i = declares h.params 0 params i c in
          let found : HasLocal visible k =
          own_bounds s frame h body same numbers (seen body.note.mode d.decl)
          (Contains-append_left params_here (path body).declared (seen body.note.mode d.decl) (mapped_in (seen body.note.mode) h.params d.decl d.there)) i k visible
          (same_named body.note.mode d.decl ∙ d.named) (any_named visible d.decl.name i (contains_name h.params d.decl d.there) d.named)
          (seen_pass t visible body.note.mode d.decl (param_bounds d.decl d.there)) e in
          absurd (l (sees_names h.params k found))

  all_next : AreNext s [] (all_of h body)
  all_next = record {
    numbers = subst (λ n. AreNew n [] (all_of h body)) (sym many) (all_new (all_of h body) numbers);
    own = own_bounds s frame h body same numbers;
  }

  -- The body stands in the scope of the parameters.
  pub body_scoped : IsScoped s body (flat_map name_seen h.params)
  body_scoped = record {
    visible = visible;
    past = with_declared [] params_here;
    scope = params_scope;
    passes = body_passes;
    declares = next_back s params_here (path body).declared [] all_next;
  }
