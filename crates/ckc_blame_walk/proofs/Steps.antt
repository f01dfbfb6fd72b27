-- Statements that are a step by themselves, and conditions, name only what is in scope, and what they declare is new.
use Rattle.std.proofs.Common.{◌≡◌, ⊎_elim, inl, inr, refl, sym, ap, subst, ◌∙◌, ℕ, ◌+◌, Bool, true, false, List, [], ◌∷◌, ◌++◌, map, length, arith}
use Rattle.std.specs.Prelude.{◌⊎◌, ◌<◌, ◌≤◌, ◌&&◌, Option, None, Some, IfSome}
use Rattle.std.specs.List.{AllByRecursion, Contains}
use Rattle.std.specs.Option.{option_map}
use Rattle.std.proofs.lemmas.List.Elements.{Contains-append_cases, Contains-append_left, Contains-append_right}
use Rattle.ckc_syntax.specs.Inside.{listed, all_have, inside_each, inside_if, inside_init}
use Rattle.ckc_syntax.specs.declared.tree.Name.{Name}
use Rattle.ckc_syntax.specs.declared.tree.Name.TheVariants as name
use Rattle.ckc_syntax.specs.declared.tree.Init.TheVariants as init
use Rattle.ckc_syntax.specs.declared.tree.Act.{Act-F, out-Act}
use Rattle.ckc_typed.specs.declared.typed.Note.{Note}
use Rattle.ckc_typed.specs.Environment.{same_name}
use Rattle.ckc_typed.specs.Trees.{NotedDecl, NotedExpr, NotedInit, NotedStmt}
use Rattle.ckc_typed_welltyped.specs.Noteless.{bare_limits, bare_expr, bare_init}
use Rattle.ckc_resolve.specs.Trees.{NamedItem}
use Rattle.ckc_typed_fit.specs.Tests.{Walked, type_passes, bounds_pass, expr_passes, value_passes, init_passes, pass_in_turn, left_by}
use Rattle.ckc_blame_sound.specs.ckc_bounds_known.proofs.Reaching.{and_cases}
use Rattle.ckc_blame_sound.specs.ckc_bounds_points.specs.Frames.{local_at}
use Rattle.ckc_blame_sound.specs.ckc_bounds_points.specs.Flow.{in_bounds_of}
use Rattle.ckc_blame_sound.specs.ckc_bounds_statements.specs.Paths.{Path, local_in, act_declared, path}
use Rattle.ckc_blame_sound.specs.Settings.{Setting}
use Rattle.ckc_blame_sound.specs.Steps.{is_simple}
use Rattle.ckc_blame_sound.specs.Scopes.{NamesOnly, IsNewLocal, StandsInScope, IsTestInScope}
use Rattle.ckc_blame_sound.specs.Words.{exprs_in, exprs_of_act}
use Rattle.ckc_blame_sound.proofs.Words.{exprs_inside, exprs_are}
use Rattle.ckc_blame_sound.proofs.Bares.{Layer}
use Rattle.ckc_blame_walk.specs.Scopes.{tests_of, items_of, scope_of, HasLocal, IsScope, AreNext}
use Rattle.ckc_blame_walk.proofs.Elements.{no_element, one_element, itself, any_last, last_any, local_number, same_number, number_same}
use Rattle.ckc_blame_walk.proofs.Exprs.{expr_sees}
use Rattle.ckc_blame_walk.proofs.Layers.{act_paths, act_scope, declared_are, scope_are}
use Rattle.ckc_blame_walk.proofs.Standing.{Scope, Stands, Leads}

-- ---- bundles

-- a statement that is an assignment
abbrev pub IsAssignment : NotedStmt → Type 0
IsAssignment st = (e : NotedExpr) × (f : NotedExpr) × (out-Act Name Note st.body ≡ Act-F.Assign e f)

-- What is in a bundle is assignments.
abbrev pub HasAssignments : Layer → Type 0
HasAssignments (Act-F.Bundle ss) = AllByRecursion IsAssignment ss
HasAssignments x = Unit {0}

module _ (s : Setting) where
  abbrev items : List NamedItem
  items = items_of s

  abbrev pub own_of_act : Layer → Scope
  own_of_act x = record { walked = act_scope items x; declared = act_declared (act_paths x) }

  abbrev Sees : List Name → List ℕ → Type 0
  Sees visible seen = (k : ℕ) → HasLocal visible k → Contains seen k

  abbrev Named : List ℕ → List NotedExpr → Type 0
  Named seen es = (e : NotedExpr) → Contains es e → NamesOnly seen e

  module _ (visible : List Name) (seen : List ℕ) (sees : Sees visible seen) where
    one_named : (e : NotedExpr) → expr_passes (tests_of items) visible (bare_expr e) ≡ true → Named seen (e ∷ [])
    one_named e h f c = subst (NamesOnly seen) (one_element e f c) (λ g same. expr_sees items visible seen sees g (ap (expr_passes (tests_of items) visible) same ∙ h))

    both_named : (es fs : List NotedExpr) → Named seen es → Named seen fs → Named seen (es ++ fs)
    both_named es fs h g e c = ⊎_elim (λ a. h e a) (λ b. g e b) (Contains-append_cases es fs e c)

    none_named : Named seen []
    none_named e c = absurd (no_element e c)

    each_named : (es : List NotedExpr) → inside_each all_have (expr_passes (tests_of items) visible) (map bare_expr es) ≡ true → Named seen (inside_each listed (λ (e : NotedExpr). e ∷ []) es)
    each_named [] h = none_named
    each_named (e ∷ es) h = let p = and_cases _ _ h in both_named (e ∷ []) (inside_each listed (λ (e : NotedExpr). e ∷ []) es) (one_named e p.0) (each_named es p.1)

    init_named : (i : NotedInit) → init_passes (tests_of items) visible (bare_init i) ≡ true → Named seen (inside_init listed (λ (e : NotedExpr). e ∷ []) i)
    init_named init.Nothing h = none_named
    init_named (init.One e) h = one_named e h
    init_named (init.Many es) h = each_named es h

    maybe_named : (e : Option NotedExpr) → value_passes (tests_of items) visible (option_map bare_expr e) ≡ true → Named seen (inside_if listed (λ (e : NotedExpr). e ∷ []) e)
    maybe_named None h = none_named
    maybe_named (Some e) h = one_named e h

    sides_named : (e f : NotedExpr) → (expr_passes (tests_of items) visible (bare_expr e) && expr_passes (tests_of items) visible (bare_expr f)) ≡ true → Named seen (e ∷ f ∷ [])
    sides_named e f h = let p = and_cases _ _ h in both_named (e ∷ []) (f ∷ []) (one_named e p.0) (one_named f p.1)

  -- ---- the assignments of a bundle

  assignment_named : (st : NotedStmt) → IsAssignment st → (visible : List Name) (seen : List ℕ) → Sees visible seen → (scope_of items st).passes visible ≡ true → Named seen (exprs_in st)
  assignment_named st a visible seen sees h =
      let e : NotedExpr = a.0 in
      let f : NotedExpr = a.1 in
      let exprs : exprs_in st ≡ e ∷ f ∷ [] = exprs_are st ∙ ap (λ x. exprs_of_act (exprs_inside x)) a.2 in
      let passes : (act_scope items (Act-F.Assign e f)).passes visible ≡ true = sym (ap (λ (w : Walked). w.passes visible) (scope_are items st (Act-F.Assign e f) a.2)) ∙ h in
      subst (Named seen) (sym exprs) (sides_named visible seen sees e f passes)

  pub assignment_leaves : (st : NotedStmt) → IsAssignment st → (scope_of items st).leaves ≡ []
  assignment_leaves st a = ap (λ (w : Walked). w.leaves) (scope_are items st (Act-F.Assign a.0 a.1) a.2)

  assignment_declares : (st : NotedStmt) → IsAssignment st → (path st).declared ≡ []
  assignment_declares st a = declared_are st (Act-F.Assign a.0 a.1) a.2

  bundle_named : (ss : List NotedStmt) → AllByRecursion IsAssignment ss → (visible : List Name) (seen : List ℕ) → Sees visible seen → pass_in_turn (map (scope_of items) ss) visible ≡ true
      → Named seen (inside_each listed (λ (es : List NotedExpr). es) (map exprs_in ss))
  bundle_named [] a visible seen sees h = none_named visible seen sees
  bundle_named (st ∷ ss) a visible seen sees h =
      let p = and_cases ((scope_of items st).passes visible) (pass_in_turn (map (scope_of items) ss) (visible ++ (scope_of items st).leaves)) h in
      let same : visible ++ (scope_of items st).leaves ≡ visible = ap (λ l. visible ++ l) (assignment_leaves st a.0) ∙ empty visible in
      both_named visible seen sees (exprs_in st) (inside_each listed (λ (es : List NotedExpr). es) (map exprs_in ss))
      (assignment_named st a.0 visible seen sees p.0)
      (bundle_named ss a.1 visible seen sees (subst (λ v. pass_in_turn (map (scope_of items) ss) v ≡ true) same p.1))
    where
      empty : (ns : List Name) → ns ++ [] ≡ ns
      empty [] = refl
      empty (n ∷ ns) = ap (λ ms. n ∷ ms) (empty ns)

  bundle_leaves : (ss : List NotedStmt) → AllByRecursion IsAssignment ss → left_by (map (scope_of items) ss) ≡ []
  bundle_leaves [] a = refl
  bundle_leaves (st ∷ ss) a = ap (λ l. l ++ left_by (map (scope_of items) ss)) (assignment_leaves st a.0) ∙ bundle_leaves ss a.1

  bundle_declares : (ss : List NotedStmt) → AllByRecursion IsAssignment ss → inside_each listed (λ (v : Path). v.declared) (map path ss) ≡ []
  bundle_declares [] a = refl
  bundle_declares (st ∷ ss) a =
      ap (λ l. l ++ inside_each listed (λ (v : Path). v.declared) (map path ss)) (assignment_declares st a.0) ∙ bundle_declares ss a.1

  -- ---- what a step names

  layer_named : (x : Layer) → is_simple x ≡ true → HasAssignments x → (visible : List Name) (seen : List ℕ) → Sees visible seen → (act_scope items x).passes visible ≡ true
      → Named seen (exprs_of_act (exprs_inside x))
  layer_named (Act-F.Local d) is a visible seen sees h =
      let p = and_cases _ _ h in
      let q = and_cases _ _ p.1 in
      init_named visible seen sees d.init q.1
  layer_named (Act-F.Assign e f) is a visible seen sees h = sides_named visible seen sees e f h
  layer_named (Act-F.Call e) is a visible seen sees h = one_named visible seen sees e h
  layer_named (Act-F.Return e) is a visible seen sees h = maybe_named visible seen sees e h
  layer_named (Act-F.Check e) is a visible seen sees h = one_named visible seen sees e h
  layer_named (Act-F.Bundle ss) is a visible seen sees h = bundle_named ss a visible seen sees h
  layer_named (Act-F.Block m ss) is a visible seen sees h = absurd cc
  layer_named Act-F.Empty is a visible seen sees h = absurd cc
  layer_named (Act-F.If e u t) is a visible seen sees h = absurd cc
  layer_named (Act-F.While e u) is a visible seen sees h = absurd cc
  layer_named (Act-F.For u e t b) is a visible seen sees h = absurd cc
  layer_named Act-F.Break is a visible seen sees h = absurd cc
  layer_named Act-F.Continue is a visible seen sees h = absurd cc

  -- ---- what a step declares

  abbrev News : List ℕ → List NotedDecl → Type 0
  News seen ds = (d : NotedDecl) (k : ℕ) → Contains ds d → d.name ≡ name.Local k → IsNewLocal s seen k

  one_new : (d : NotedDecl) (visible : List Name) (past : List ℕ) (seen : List ℕ) → IsScope s visible past seen → AreNext s past (d ∷ []) → News seen (d ∷ [])
  one_new d visible past seen w h e k c named =
      let own = h.numbers.0 in
      let same : own.0 ≡ k = local_number own.0 k (sym own.1 ∙ ap (λ (x : NotedDecl). x.name) (one_element d e c) ∙ named) in
      subst (IsNewLocal s seen) same (record {
        there = own.2;
        other = λ b. own.3 (w.declared own.0 b);
        unnamed = λ j b. w.bounds j own.0 b own.3;
      })

  nothing_new : (seen : List ℕ) (ds : List NotedDecl) → ds ≡ [] → News seen ds
  nothing_new seen ds none d k c named = absurd (no_element d (subst (λ l. Contains l d) none c))

  none_declared : (e : Option NotedExpr) → inside_if {X = List NotedDecl} listed (λ (f : NotedExpr). []) e ≡ []
  none_declared None = refl
  none_declared (Some e) = refl

  layer_new : (x : Layer) → is_simple x ≡ true → HasAssignments x → (visible : List Name) (past : List ℕ) (seen : List ℕ) → IsScope s visible past seen → AreNext s past (act_declared (act_paths x))
      → News seen (act_declared (act_paths x))
  layer_new (Act-F.Local d) is a visible past seen w h = one_new d visible past seen w h
  layer_new (Act-F.Assign e f) is a visible past seen w h = nothing_new seen [] refl
  layer_new (Act-F.Call e) is a visible past seen w h = nothing_new seen [] refl
  layer_new (Act-F.Return e) is a visible past seen w h = nothing_new seen _ (none_declared e)
  layer_new (Act-F.Check e) is a visible past seen w h = nothing_new seen [] refl
  layer_new (Act-F.Bundle ss) is a visible past seen w h = nothing_new seen _ (bundle_declares ss a)
  layer_new (Act-F.Block m ss) is a visible past seen w h = absurd cc
  layer_new Act-F.Empty is a visible past seen w h = absurd cc
  layer_new (Act-F.If e u t) is a visible past seen w h = absurd cc
  layer_new (Act-F.While e u) is a visible past seen w h = absurd cc
  layer_new (Act-F.For u e t b) is a visible past seen w h = absurd cc
  layer_new Act-F.Break is a visible past seen w h = absurd cc
  layer_new Act-F.Continue is a visible past seen w h = absurd cc

  -- A step stands in the scope of what is seen.
  pub step_stands : (st : NotedStmt) (x : Layer) → out-Act Name Note st.body ≡ x → is_simple x ≡ true → HasAssignments x → (seen : List ℕ) → Stands s (own_of_act x) seen
      → StandsInScope s st seen
  step_stands st x is simple a seen h = record {
    names = subst (Named seen) (sym (exprs_are st ∙ ap (λ y. exprs_of_act (exprs_inside y)) is)) (layer_named x simple a h.visible seen h.scope.sees h.fits.passes);
    known = h.scope.few;
    new = subst (News seen) (sym (declared_are st x is)) (layer_new x simple a h.visible h.past seen h.scope h.fits.declares);
  }

  -- and so does a condition
  pub test_stands : (e : Option NotedExpr) (visible : List Name) (past : List ℕ) (seen : List ℕ) (ds : List NotedDecl) → IsScope s visible past seen → AreNext s past ds
      → value_passes (tests_of items) visible (option_map bare_expr e) ≡ true → IsTestInScope s e seen
  test_stands e visible past seen ds w h passes = record {
    names = by e passes;
    known = w.few;
  }
    where
      by : (e : Option NotedExpr) → value_passes (tests_of items) visible (option_map bare_expr e) ≡ true → IfSome e (NamesOnly seen)
      by None p = tt
      by (Some e) p = λ g same. expr_sees items visible seen w.sees g (ap (expr_passes (tests_of items) visible) same ∙ p)

  -- ---- what a step leaves visible

  -- whether it is a declaration
  abbrev pub is_local : Layer → Bool
  is_local (Act-F.Local d) = true
  is_local x = false

  -- what is a step and no declaration leaves nothing
  pub step_leaves : (x : Layer) → HasAssignments x → is_simple x ≡ true → is_local x ≡ false → (act_scope items x).leaves ≡ []
  step_leaves (Act-F.Local d) a is other = absurd cc
  step_leaves (Act-F.Assign e f) a is other = refl
  step_leaves (Act-F.Call e) a is other = refl
  step_leaves (Act-F.Return e) a is other = refl
  step_leaves (Act-F.Check e) a is other = refl
  step_leaves (Act-F.Bundle ss) a is other = bundle_leaves ss a
  step_leaves (Act-F.Block m ss) a is other = absurd cc
  step_leaves Act-F.Empty a is other = absurd cc
  step_leaves (Act-F.If e u t) a is other = absurd cc
  step_leaves (Act-F.While e u) a is other = absurd cc
  step_leaves (Act-F.For u e t b) a is other = absurd cc
  step_leaves Act-F.Break a is other = absurd cc
  step_leaves Act-F.Continue a is other = absurd cc

  -- After a declaration its local is visible too.
  pub local_leads : (d : NotedDecl) (seen : List ℕ) → Leads s (own_of_act (Act-F.Local d)) seen (seen ++ local_in d.name)
  local_leads d seen visible past fits w =
      subst (λ n. IsScope s (visible ++ n ∷ []) (past ++ local_in n) (seen ++ local_in n)) (sym named) (record {
        sees = λ k h. elim (any_last (same_name (name.Local k)) visible (name.Local new) h) [
          | inl a ↦ Contains-append_left seen (new ∷ []) k (w.sees k a)
          | inr b ↦ subst (Contains (seen ++ new ∷ [])) (sym (same_number k new b)) (Contains-append_right seen (new ∷ []) new (itself new))
        ];
        few = λ j c. elim (Contains-append_cases seen (new ∷ []) j c) [
          | inl a ↦ w.few j a
          | inr b ↦ subst (λ n. n < length s.variables) (one_element new j b) fits.declares.numbers.0.2
        ];
        declared = λ j c. elim (Contains-append_cases seen (new ∷ []) j c) [
          | inl a ↦ Contains-append_left past (new ∷ []) j (w.declared j a)
          | inr b ↦ Contains-append_right past (new ∷ []) j b
        ];
        bounds = λ j k c l. elim (Contains-append_cases seen (new ∷ []) j c) [
          | inl a ↦ w.bounds j k a (λ b. l (Contains-append_left past (new ∷ []) k b))
          | inr b ↦ subst (λ n. in_bounds_of k (local_at s.frame n) ≡ false) (one_element new j b) (unnamed k l)
        ];
      })
    where
      new : ℕ
      new = fits.declares.numbers.0.0

      named : d.name ≡ name.Local new
      named = fits.declares.numbers.0.1

      bounded : bounds_pass (tests_of items) (visible ++ name.Local new ∷ []) (option_map bare_limits d.bounds) ≡ true
      bounded =
          subst (λ n. bounds_pass (tests_of items) (visible ++ n ∷ []) (option_map bare_limits d.bounds) ≡ true) named
          (let b = bounds_pass (tests_of items) (visible ++ d.name ∷ []) (option_map bare_limits d.bounds) in
          let i = init_passes (tests_of items) visible (bare_init d.init) in
          (and_cases b i (and_cases (type_passes (tests_of items) d.ctype) (b && i) fits.passes).1).0)

      unnamed : (k : ℕ) → (Contains (past ++ new ∷ []) k → ⊥) → in_bounds_of k (local_at s.frame new) ≡ false
      unnamed k l = by (in_bounds_of k (local_at s.frame new)) refl
        where
          found : HasLocal (visible ++ name.Local new ∷ []) k → ⊥
          found h = elim (any_last (same_name (name.Local k)) visible (name.Local new) h) [
            | inl a ↦ l (Contains-append_left past (new ∷ []) k (w.declared k (w.sees k a)))
            | inr b ↦ l (subst (Contains (past ++ new ∷ [])) (sym (same_number k new b)) (Contains-append_right past (new ∷ []) new (itself new)))
          ]

          by : (b : Bool) → in_bounds_of k (local_at s.frame new) ≡ b → in_bounds_of k (local_at s.frame new) ≡ false
          by false e = e
          by true e =
              absurd (found (fits.declares.own d (itself d) new k (visible ++ name.Local new ∷ []) named
              (last_any (same_name (name.Local new)) visible (name.Local new) (number_same new)) bounded e))
