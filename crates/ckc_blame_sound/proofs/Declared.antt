-- A declaration keeps what holds of the pointers in scope, and its own pointer is within its bounds.
use Rattle.std.proofs.Common.{◌≡◌, ◌≢◌, ⊎_elim, ℕ, zero, suc, ◌==◌, refl, sym, ◌∙◌, ap, subst, List, [], ◌∷◌}
use Rattle.std.specs.Prelude.{Bool, true, false, ◌++◌, pos, slice_index, Option, None, Some}
use Rattle.std.specs.List.{All, Contains, list_any}
use Rattle.std.proofs.lemmas.Bool.{eq-eqb, eqb-true}
use Rattle.std.proofs.lemmas.List.Elements.{All-nil, All-cons, All-contains, Contains-append_cases}
use Rattle.ckc_syntax.specs.declared.tree.Init.TheVariants as init
use Rattle.ckc_linear.specs.declared.forms.Base.{Base}
use Rattle.ckc_linear.specs.declared.forms.Base.TheVariants as base
use Rattle.ckc_linear.specs.declared.forms.Form.{Form}
use Rattle.ckc_typed.specs.declared.typed.Range.{Range}
use Rattle.ckc_typed.specs.declared.typed.Range.TheVariants as range
use Rattle.ckc_typed.specs.Trees.{NotedExpr, NotedInit}
use Rattle.ckc_typed.specs.Types.{is_integer}
use Rattle.ckc_bounds.specs.ckc_bounds_points.specs.declared.frame.Bounds.{Bounds}
use Rattle.ckc_bounds.specs.ckc_bounds_points.specs.declared.frame.Bounds.TheVariants as bounds
use Rattle.ckc_bounds.specs.ckc_bounds_points.specs.declared.frame.Local.{Local}
use Rattle.ckc_bounds.specs.ckc_bounds_points.specs.Frames.{local_at}
use Rattle.ckc_bounds.specs.ckc_bounds_points.specs.Forms.{same_base}
use Rattle.ckc_bounds.specs.ckc_bounds_points.specs.Flow.{State, in_bounds, in_bounds_of, widening_names, assigned}
use Rattle.ckc_bounds.specs.ckc_bounds_ranges.specs.Rows.{range_by, range_of_bounds}
use Rattle.ckc_bounds.specs.ckc_bounds_views.specs.Views.{view}
use Rattle.ckc_bounds.specs.ckc_bounds_stores.specs.declared.values.Numbered.{Numbered}
use Rattle.ckc_bounds.specs.ckc_bounds_stores.specs.Values.{new_value}
use Rattle.ckc_bounds.specs.ckc_bounds_stores.specs.Stores.{own_place, holds_from, initialised_local}
use Rattle.ckc_source.specs.Eval.{Store}
use Rattle.ckc_source.specs.Words.{exact}
use Rattle.ckc_build_values.specs.Kinds.{integer_of, size_behind}
use Rattle.ckc_blame_sound.specs.Settings.{Setting}
use Rattle.ckc_blame_sound.specs.Points.{IsReadable, IsBounded, AreBounded}
use Rattle.ckc_blame_sound.specs.Sound.{IsPlaced}
use Rattle.ckc_blame_sound.specs.Valuations.{Valuation, form_address, AreFacts, IsValuationOf}
use Rattle.ckc_blame_sound.specs.Agreeing.{IsReplaced}
use Rattle.ckc_blame_sound.specs.Ends.{IsCounted, IsBase, IsEnd, AreEnds, HaveEnds}
use Rattle.ckc_blame_sound.specs.GivenValues.{memory_of, IsFrom, IsBegun, OthersStay, IsUnnamed, StayTrue}
use Rattle.ckc_blame_sound.proofs.Contained.{null_reads, contained_reads}
use Rattle.ckc_blame_sound.proofs.Ends.{valuation_of, values_are, reads_so}
use Rattle.ckc_blame_sound.proofs.Tests.{left_of}
use Rattle.ckc_blame_sound.proofs.New.{new_judged}
use Rattle.ckc_blame_sound.proofs.Faults.{one_wide}
use Rattle.ckc_blame_sound.proofs.KeptBounds.{local_kept}
use Rattle.ckc_blame_sound.proofs.Assigned.{some_equal}
use Rattle.ckc_blame_sound.proofs.Own.{own_replaced, variable_stays}

different : (j k : ℕ) → (j == k) ≡ false → j ≢ k
different j k e s = let t : (j == k) ≡ true = eq-eqb j k s in absurd cc

-- null may be read whatever its bounds are
null_readable : (s : Setting) (store : Store) (k : ℕ) (l : Local) (r : Range) → slice_index store.locals k ≡ 0 → IsReadable s store k l.ctype r
null_readable s store k l (range.Known low high) e = null_reads (memory_of s store l.ctype) (slice_index store.locals k) _ _ e
null_readable s store k l range.Missing e = tt
null_readable s store k l range.Any e = tt

module _ (s : Setting) (old now : Store) (v : Valuation) (at : State) (ends : HaveEnds s) (are : IsValuationOf s old.locals v) (known : AreFacts v at.facts)
    (placed : All (IsPlaced s.text) now.blocks) (stay : StayTrue old now) (k : ℕ) (l : Local) (is : local_at s.frame k ≡ Some l) (others : OthersStay old.locals now.locals k) where
  abbrev now_values : Valuation
  now_values = valuation_of s now.locals

  will : IsValuationOf s now.locals (valuation_of s now.locals)
  will = values_are s now.locals

  module _ (low high : Form) (b : l.bounds ≡ bounds.Known low high) where
    -- no bounds of a pointer count the pointer
    not_own : (j : ℕ) (m : Local) → local_at s.frame j ≡ Some m → is_integer m.ctype ≡ true → j ≢ k
    not_own j m there i same =
        let one : m ≡ l = some_equal m l (sym there ∙ ap (local_at s.frame) same ∙ is) in
        let none = (ends k l is).integer (ap (λ (h : Local). is_integer h.ctype) (sym one) ∙ i) in
        known_not (sym b ∙ none)
      where
        known_not : bounds.Known low high ≡ bounds.Unknown → ⊥
        known_not e = absurd cc

    variable_same : (x : ℕ) → IsCounted s x → (valuation_of s now.locals).number x ≡ v.number x
    variable_same zero h = will.zero ∙ sym are.zero
    variable_same (suc j) h =
        will.number j h.local h.there h.integer ∙ ap (exact (integer_of h.local.ctype)) (others j (not_own j h.local h.there h.integer)) ∙ sym (are.number j h.local h.there h.integer)

    base_same : (size : ℕ) (c : Option Base) → IsBase s size c → same_base (Some (base.Local k)) c ≡ false → (valuation_of s now.locals).address c ≡ v.address c
    base_same size None h e = absurd h
    base_same size (Some (base.Array j)) h e = will.array j ∙ sym (are.array j)
    base_same size (Some (base.Value j)) h e = absurd h
    base_same size (Some (base.Local j)) h e =
        will.pointer j ∙ ap pos (others j (λ same. different k j e (sym same))) ∙ sym (are.pointer j)

    end_replaced : (size : ℕ) (place : Option Form) → ((g : Form) → place ≡ Some g → form_address v size g ≡ pos (slice_index now.locals k)) → (f : Form) → IsEnd s size f
        → IsReplaced (own_place (base.Local k) place) [] size v (valuation_of s now.locals) f
    end_replaced size place at_own f h =
        own_replaced size v (valuation_of s now.locals) are.zero (base.Local k) place (λ g e. at_own g e ∙ sym (will.pointer k)) [] f
        (base_same size f.base h.base) (λ g e. variable_stays v (valuation_of s now.locals) f.var (variable_same f.var h.variable) g e)

    begun_held : (e : NotedExpr) (fresh : ℕ) → IsFrom s.frame (memory_of s now l.ctype) v l.ctype e (record { value = 0; fresh = fresh }) at (slice_index now.locals k)
        → AreEnds s (size_behind s.text.layout l.ctype) (bounds.Known low high)
        → holds_from s.frame l.ctype (base.Local k) e (record { value = 0; fresh = fresh }) at (bounds.Known low high) ≡ true
        → IsReadable s now k l.ctype (range.Known low high)
    unfolding holds_from
    begun_held e fresh from two h =
        let n : Numbered = record { value = 0; fresh = fresh } in
        let value = new_value s.frame l.ctype e n at in
        let size = size_behind s.text.layout l.ctype in
        let place = (view s.frame e).place 0 value.facts in
        reads_so s now (valuation_of s now.locals) will k l.ctype low high two.0 two.1
        (contained_reads (memory_of s now l.ctype) v (valuation_of s now.locals) (slice_index now.locals k) value (own_place (base.Local k) place) [] low high are.zero
        (λ all. (end_replaced size place (λ g e. from.place value.facts g all e) low two.0, end_replaced size place (λ g e. from.place value.facts g all e) high two.1))
        (new_judged s.text (memory_of s now l.ctype) v (slice_index now.locals k) placed are.zero s.frame l.ctype e n at known from.value) h)

  own_by : (b : Bounds) → l.bounds ≡ b → (e : NotedExpr) (fresh : ℕ) → IsFrom s.frame (memory_of s now l.ctype) v l.ctype e (record { value = 0; fresh = fresh }) at (slice_index now.locals k)
      → AreEnds s (size_behind s.text.layout l.ctype) b → holds_from s.frame l.ctype (base.Local k) e (record { value = 0; fresh = fresh }) at b ≡ true
      → IsReadable s now k l.ctype (range_of_bounds b)
  own_by bounds.Unknown is_b e fresh from two h = tt
  own_by (bounds.Known low high) is_b e fresh from two h = begun_held low high is_b e fresh from two h

  pub own_readable : (i : NotedInit) (fresh : ℕ) → IsBegun s now v at k l i fresh (slice_index now.locals k) → IsReadable s now k l.ctype (range_by (Some l) false)
  own_readable init.Nothing fresh begun = null_readable s now k l (range_by (Some l) false) begun
  own_readable (init.One e) fresh begun =
      own_by l.bounds refl e fresh begun.0 (ends k l is).ends (sym (ap (initialised_local s.frame k e (record { value = 0; fresh = fresh }) at) is) ∙ begun.1)
  own_readable (init.Many es) fresh begun = absurd begun

  -- another local, whose bounds do not name the one that is declared
  other_readable : (j : ℕ) (m : Local) → local_at s.frame j ≡ Some m → j ≢ k → in_bounds k m.bounds ≡ false → (wide : Bool) → IsReadable s old j m.ctype (range_by (Some m) wide)
      → IsReadable s now j m.ctype (range_by (Some m) wide)
  other_readable j m there d unnamed wide h =
      local_kept old now stay s v (valuation_of s now.locals) are will j m.ctype m wide (ends j m there).ends (others j d) (λ i named. others i (not_k i named)) h
    where
      not_k : (i : ℕ) → in_bounds i m.bounds ≡ true → i ≢ k
      not_k i named same = let t : in_bounds k m.bounds ≡ true = ap (λ h. in_bounds h m.bounds) (sym same) ∙ named in absurd cc

  module _ (seen : List ℕ) (reached : at.reached ≡ true) (form : Option Form) (unnamed : IsUnnamed s seen k) (bounded : AreBounded s old [] seen) (widened : AreBounded s old at.widened seen)
      (own : IsReadable s now k l.ctype (range_by (Some l) false)) where
    in_scope : (j : ℕ) → (j == k) ≡ false → Contains (seen ++ k ∷ []) j → Contains seen j
    in_scope j d c = ⊎_elim (λ h. h) (λ h. absurd (different j k d (All-contains (λ i. i ≡ k) (k ∷ []) j (All-cons (λ i. i ≡ k) k [] refl (All-nil (λ i. i ≡ k))) h))) (Contains-append_cases seen (k ∷ []) j c)

    unnamed_at : (j : ℕ) (m : Local) → local_at s.frame j ≡ Some m → Contains seen j → in_bounds k m.bounds ≡ false
    unnamed_at j m there c = sym (ap (in_bounds_of k) there) ∙ unnamed j c

    -- the declared local
    itself : (j : ℕ) (m : Local) → local_at s.frame j ≡ Some m → j ≡ k → IsReadable s now j m.ctype (range_by (Some m) false)
    itself j m there e =
        let same : m ≡ l = some_equal m l (sym there ∙ ap (local_at s.frame) e ∙ is) in
        subst (λ i. IsReadable s now i m.ctype (range_by (Some m) false)) (sym e)
        (subst (λ (h : Local). IsReadable s now k h.ctype (range_by (Some h) false)) (sym same) own)

    -- a local by whether it is widened after, and then before
    one_after : (j : ℕ) (m : Local) → local_at s.frame j ≡ Some m → Contains (seen ++ k ∷ []) j → (wide : Bool) → (wide ≡ true → (j ≢ k) × (list_any (λ p. p == j) at.widened ≡ true))
        → IsReadable s now j m.ctype (range_by (Some m) wide)
    one_after j m there c wide before = by (j == k) refl wide before
      where
        by : (b : Bool) → (j == k) ≡ b → (wide : Bool) → (wide ≡ true → (j ≢ k) × (list_any (λ p. p == j) at.widened ≡ true)) → IsReadable s now j m.ctype (range_by (Some m) wide)
        by true d true before = absurd ((before refl).0 (eqb-true j k d))
        by true d false before = itself j m there (eqb-true j k d)
        by false d true before =
            let h = before refl in
            let seen_j = in_scope j d c in
            other_readable j m there h.0 (unnamed_at j m there seen_j) true
            (subst (λ b. IsReadable s old j m.ctype (range_by (Some m) b)) h.1
            (subst (λ o. IsReadable s old j m.ctype (range_by o (list_any (λ p. p == j) at.widened))) there
            (subst (IsBounded s old at.widened j) there (widened j seen_j))))
        by false d false before =
            let seen_j = in_scope j d c in
            other_readable j m there (different j k d) (unnamed_at j m there seen_j) false
            (subst (λ o. IsReadable s old j m.ctype (range_by o false)) there
            (subst (IsBounded s old [] j) there (bounded j seen_j)))

    pub bounded_after : AreBounded s now [] (seen ++ k ∷ [])
    bounded_after j c = by (local_at s.frame j) refl
      where
        by : (o : Option Local) → local_at s.frame j ≡ o → IsBounded s now [] j o
        by None there = tt
        by (Some m) there = subst (λ o. IsReadable s now j m.ctype (range_by o false)) (sym there) (one_after j m there c false (λ e. absurd cc))

    pub widened_after : AreBounded s now (assigned s.frame k form at).widened (seen ++ k ∷ [])
    widened_after j c = by (local_at s.frame j) refl
      where
        before : list_any (λ p. p == j) (assigned s.frame k form at).widened ≡ true → (j ≢ k) × (list_any (λ p. p == j) at.widened ≡ true)
        before w =
            let h = (one_wide s.frame at.facts j form at reached (Some k)).wide w in (
              λ same. let names : widening_names s.frame k j ≡ true = left_of (j == k) (in_bounds_of k (local_at s.frame j)) (eq-eqb j k same) in
                  let no : (k == k) ≡ false = h.1 k l is names in
                  let yes' : (k == k) ≡ true = eq-eqb k k refl in
                  absurd cc,
              h.0,
            )

        by : (o : Option Local) → local_at s.frame j ≡ o → IsBounded s now (assigned s.frame k form at).widened j o
        by None there = tt
        by (Some m) there =
            subst (λ o. IsReadable s now j m.ctype (range_by o (list_any (λ p. p == j) (assigned s.frame k form at).widened))) (sym there)
            (one_after j m there c (list_any (λ p. p == j) (assigned s.frame k form at).widened) before)
