-- Each local gets what the assignment to it gives, and the others keep their values.
use Rattle.std.proofs.Common.{◌≡◌, ◌≢◌, refl, sym, ap, subst, ◌∙◌, ℕ, ◌==◌, Bool, true, false, List, [], ◌∷◌, length}
use Rattle.std.specs.Prelude.{cond, ◌<◌, not, slice_index, slice_set, Option, None, Some}
use Rattle.std.specs.List.{All, Contains, find}
use Rattle.std.proofs.lemmas.Bool.{eqb-true, eq-eqb}
use Rattle.std.proofs.lemmas.List.{get_or-set_same, get_or-set_other}
use Rattle.std.proofs.lemmas.List.Elements.{All-head, All-tail, All-weaker, All-contains_itself}
use Rattle.ckc_base.specs.Memory.{kept_part}
use Rattle.ckc_blame_sound.specs.ckc_bounds_points.specs.declared.frame.Bounds.{Bounds}
use Rattle.ckc_blame_sound.specs.ckc_bounds_points.specs.Codes.{lost_bounds}
use Rattle.ckc_blame_sound.specs.ckc_bounds_points.specs.Frames.{local_at}
use Rattle.ckc_blame_sound.specs.ckc_bounds_points.specs.Flow.{State, in_bounds}
use Rattle.ckc_blame_sound.specs.ckc_bounds_stores.specs.Targets.{local_of}
use Rattle.ckc_blame_sound.specs.ckc_bounds_stores.specs.Stores.{Placed, assigns, assigns_local, store_fault, target_fault_of}
use Rattle.ckc_source.specs.declared.outcome.Place.{Place}
use Rattle.ckc_source.specs.Eval.{Store}
use Rattle.ckc_source.specs.Steps.{Write}
use Rattle.ckc_build_values.specs.Kinds.{width_of}
use Rattle.ckc_blame_sound.specs.Settings.{Setting}
use Rattle.ckc_blame_sound.specs.Valuations.{Valuation}
use Rattle.ckc_blame_sound.specs.GivenValues.{IsGiven, IsAssigned, StayTrue}
use Rattle.ckc_blame_sound.proofs.Faults.{Good, unless_none}
use Rattle.ckc_blame_given.specs.Written.{IsLocalWritten, IsWritten, AreWritten}
use Rattle.ckc_blame_given.proofs.Apart.{IsAfter, AreApart}
use Rattle.ckc_blame_given.proofs.Written.{put_in, locals_after, none_put, length_put}
use Rattle.ckc_blame_given.proofs.Given.{given_kept}

-- no later assignment is to the same local
none_later : (p : Placed) (k : ℕ) → local_of p.target ≡ Some k → (ps : List Placed) → All (IsAfter p) ps → find (assigns_local k) ps ≡ None
none_later p k is [] h = refl
none_later p k is (q ∷ ps) h = by (local_of q.target) refl (none_later p k is ps (All-tail (IsAfter p) q ps h)) (All-head (IsAfter p) q ps h)
  where
    by : (o : Option ℕ) → local_of q.target ≡ o → find (assigns_local k) ps ≡ None → IsAfter p q → cond (assigns k o) (Some q) (find (assigns_local k) ps) ≡ None
    by None e rest behind = rest
    by (Some j) e rest behind = one (j == k) refl
      where
        one : (b : Bool) → (j == k) ≡ b → cond b (Some q) (find (assigns_local k) ps) ≡ None
        one true d = absurd (behind.target k is (e ∙ ap (λ i. Some i) (eqb-true j k d)))
        one false d = rest

module _ (s : Setting) (store now : Store) (stay : StayTrue store now) (v : Valuation) (at : State) where
  -- what a local has after, by the first assignment to it
  abbrev Has : Option Placed → ℕ → ℕ → ℕ → Type 0
  Has o k old new = IsAssigned s now v at o (local_at s.frame k) old new

  pub same_kept : (o : Option Placed) → o ≡ None → (k old new : ℕ) → Has o k old new → new ≡ old
  same_kept None e k old new h = h
  same_kept (Some p) e k old new h = absurd (cc)

  differs : (j k : ℕ) → (j == k) ≡ false → k ≢ j
  differs j k d e = let t : (j == k) ≡ true = eq-eqb j k (sym e) in absurd cc

  pub assigned_after : (ps : List Placed) (ws : List Write) → AreWritten s store v at ps ws → AreApart ps → (locals : List ℕ) → length locals ≡ length s.variables → (k : ℕ)
      → Has (find (assigns_local k) ps) k (slice_index locals k) (slice_index (locals_after ws locals) k)
  unfolding AreWritten
  assigned_after [] [] h apart locals long k = refl
  assigned_after [] (w ∷ ws) h apart locals long k = absurd h
  assigned_after (p ∷ ps) [] h apart locals long k = absurd h
  assigned_after (p ∷ ps) (w ∷ ws) h apart locals long k =
      one (local_of p.target) refl h.0 (assigned_after ps ws h.1 apart.1 (put_in w.0 w.1 locals) (length_put w.0 w.1 locals ∙ long) k)
    where
      -- the first assignment to the local
      first : (j : ℕ) → local_of p.target ≡ Some j → (g : IsLocalWritten s store v at p j w) → j ≡ k
          → Has (find (assigns_local k) ps) k (slice_index (put_in w.0 w.1 locals) k) (slice_index (locals_after ws (put_in w.0 w.1 locals)) k)
          → Has (Some p) k (slice_index locals k) (slice_index (locals_after ws (put_in w.0 w.1 locals)) k)
      first j is g same rest =
          let none = none_later p k (is ∙ ap (λ i. Some i) same) ps apart.0 in
          let there : local_at s.frame k ≡ Some g.local = ap (local_at s.frame) (sym same) ∙ g.there in
          let below : j < length locals = subst (λ m. j < m) (sym long) g.below in
          let put : slice_index (put_in w.0 w.1 locals) k ≡ kept_part (width_of g.local.ctype) w.1 =
          ap (λ (to : Place). slice_index (put_in to w.1 locals) k) g.goes ∙ ap (slice_index (slice_set locals j (kept_part (width_of g.local.ctype) w.1))) (sym same)
          ∙ get_or-set_same locals j (kept_part (width_of g.local.ctype) w.1) 0 below in
          let has = same_kept (find (assigns_local k) ps) none k (slice_index (put_in w.0 w.1 locals) k) (slice_index (locals_after ws (put_in w.0 w.1 locals)) k) rest ∙ put in
          subst (λ o. IsAssigned s now v at (Some p) o (slice_index locals k) (slice_index (locals_after ws (put_in w.0 w.1 locals)) k)) (sym there)
          (subst (IsGiven s now v at g.local p) (sym has) (given_kept s store now stay v at p j w g))

      -- an assignment to another one
      other : (j : ℕ) → IsLocalWritten s store v at p j w → (j == k) ≡ false
          → Has (find (assigns_local k) ps) k (slice_index (put_in w.0 w.1 locals) k) (slice_index (locals_after ws (put_in w.0 w.1 locals)) k)
          → Has (find (assigns_local k) ps) k (slice_index locals k) (slice_index (locals_after ws (put_in w.0 w.1 locals)) k)
      other j g d rest =
          subst (λ n. Has (find (assigns_local k) ps) k n (slice_index (locals_after ws (put_in w.0 w.1 locals)) k))
          (ap (λ (to : Place). slice_index (put_in to w.1 locals) k) g.goes ∙ get_or-set_other locals j k (kept_part (width_of g.local.ctype) w.1) 0 (differs j k d)) rest

      one : (o : Option ℕ) → local_of p.target ≡ o → IsWritten s store v at p o w
          → Has (find (assigns_local k) ps) k (slice_index (put_in w.0 w.1 locals) k) (slice_index (locals_after ws (put_in w.0 w.1 locals)) k)
          → Has (cond (assigns k o) (Some p) (find (assigns_local k) ps)) k (slice_index locals k) (slice_index (locals_after ws (put_in w.0 w.1 locals)) k)
      one None is g rest =
          subst (λ xs. Has (find (assigns_local k) ps) k (slice_index xs k) (slice_index (locals_after ws (put_in w.0 w.1 locals)) k)) (none_put w.0 w.1 locals g) rest
      one (Some j) is g rest = by (j == k) refl
        where
          by : (b : Bool) → (j == k) ≡ b → Has (cond b (Some p) (find (assigns_local k) ps)) k (slice_index locals k) (slice_index (locals_after ws (put_in w.0 w.1 locals)) k)
          by true d = first j is g (eqb-true j k d) rest
          by false d = other j g d rest

-- ---- what the bounds of the result name

module _ (s : Setting) (result : Bounds) (scope : List ℕ) (all : List Placed) (at there : State) (good : Good s.frame result scope all at there) (k : ℕ) (named : in_bounds k result ≡ true) where
  not_bound : (b : Bool) → b ≡ true → not b ≡ true → ⊥
  not_bound true e n = absurd (cc)
  not_bound false e n = absurd (cc)

  none_by : (ps : List Placed) → All (λ p. store_fault s.frame result all at p ≡ None) ps → find (assigns_local k) ps ≡ None
  none_by [] h = refl
  none_by (p ∷ ps) h =
      by (local_of p.target) (All-head (λ p. store_fault s.frame result all at p ≡ None) p ps h) (none_by ps (All-tail (λ p. store_fault s.frame result all at p ≡ None) p ps h))
    where
      by : (o : Option ℕ) → target_fault_of s.frame result all at p o ≡ None → find (assigns_local k) ps ≡ None → cond (assigns k o) (Some p) (find (assigns_local k) ps) ≡ None
      by None e rest = rest
      by (Some j) e rest = one (j == k) refl
        where
          one : (b : Bool) → (j == k) ≡ b → cond b (Some p) (find (assigns_local k) ps) ≡ None
          one true d = absurd (not_bound (in_bounds j result) (ap (λ i. in_bounds i result) (eqb-true j k d) ∙ named) (unless_none (not (in_bounds j result)) lost_bounds p.pos e))
          one false d = rest

  -- it is not assigned
  pub none_assigned : find (assigns_local k) all ≡ None
  none_assigned = none_by all (All-weaker (Contains all) (λ p. store_fault s.frame result all at p ≡ None) (λ p c. good.targets p c) all (All-contains_itself all))
