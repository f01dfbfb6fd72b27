-- Each local pointer may be read within its bounds after assignments to locals that are judged as one.
use Rattle.std.proofs.Common.{◌≡◌, ℕ, zero, suc, ◌==◌, ◌<◌, refl, sym, ◌∙◌, ap, subst, List, [], ◌+ℤ◌, arith}
use Rattle.std.specs.Prelude.{true, false, pos, ◌*ℤ◌, slice_index, Option, None, Some}
use Rattle.std.specs.List.{All, find, list_any}
use Rattle.std.proofs.lemmas.Int.{ints}
use Rattle.std.proofs.lemmas.Option.{slice_get_within}
use Rattle.std.proofs.Math.IntN.{*ℤ-zero}
use Rattle.ckc_linear.specs.declared.forms.Base.{Base}
use Rattle.ckc_linear.specs.declared.forms.Base.TheVariants as base
use Rattle.ckc_linear.specs.declared.forms.Form.{Form}
use Rattle.ckc_typed.specs.declared.typed.Range.TheVariants as range
use Rattle.ckc_bounds.specs.ckc_bounds_points.specs.declared.frame.Bounds.TheVariants as bounds
use Rattle.ckc_bounds.specs.ckc_bounds_points.specs.declared.frame.Local.{Local}
use Rattle.ckc_bounds.specs.ckc_bounds_points.specs.Shown.{Known}
use Rattle.ckc_bounds.specs.ckc_bounds_points.specs.Frames.{local_at}
use Rattle.ckc_bounds.specs.ckc_bounds_points.specs.Flow.{State, in_bounds}
use Rattle.ckc_bounds.specs.ckc_bounds_points.specs.Forms.{base_form}
use Rattle.ckc_bounds.specs.ckc_bounds_points.specs.Codes.{not_contained, lost_bounds}
use Rattle.ckc_bounds.specs.ckc_bounds_ranges.specs.Rows.{range_by, range_of_local}
use Rattle.ckc_bounds.specs.ckc_bounds_ranges.specs.Replaced.{base_replaced, variable_replaced}
use Rattle.ckc_bounds.specs.ckc_bounds_stores.specs.Values.{Value, new_value, same_value}
use Rattle.ckc_bounds.specs.ckc_bounds_stores.specs.Stores.{Placed, bases, variables, assigns_local, touches, holds_by, touched_fault, named_fault}
use Rattle.ckc_source.specs.Eval.{Store}
use Rattle.ckc_source.specs.Words.{exact}
use Rattle.ckc_build_values.specs.Kinds.{integer_of, size_behind}
use Rattle.ckc_blame_sound.specs.Settings.{Setting}
use Rattle.ckc_blame_sound.specs.Points.{IsReadable}
use Rattle.ckc_blame_sound.specs.Sound.{IsPlaced}
use Rattle.ckc_blame_sound.specs.Values.{number_of}
use Rattle.ckc_blame_sound.specs.Valuations.{Valuation, form_address, AreFacts, IsValuationOf}
use Rattle.ckc_blame_sound.specs.Agreeing.{IsReplaced}
use Rattle.ckc_blame_sound.specs.Containment.{IsReadWithin, IsJudged}
use Rattle.ckc_blame_sound.specs.Ends.{IsCounted, IsBase, IsEnd, AreEnds}
use Rattle.ckc_blame_sound.specs.GivenValues.{memory_of, IsGiven, IsAssigned, AreAssigned, StayTrue}
use Rattle.ckc_blame_sound.proofs.Contained.{contained_reads}
use Rattle.ckc_blame_sound.proofs.Ends.{reads_so}
use Rattle.ckc_blame_sound.proofs.Found.{base_found, place_is, array_stays, variable_found, variable_form, form_is, zero_stays}
use Rattle.ckc_blame_sound.proofs.New.{new_judged, same_judged}
use Rattle.ckc_blame_sound.proofs.Faults.{unless_none, untouched}
use Rattle.ckc_blame_sound.proofs.KeptBounds.{range_ends, within_after, local_kept}

pub some_equal : {A : Type 0} (a b : A) → ◌≡◌ {A = Option A} (Some a) (Some b) → a ≡ b
some_equal a b e = cc

-- a local that is not assigned keeps its value
pub not_assigned : (s : Setting) (old now : Store) (v : Valuation) (at : State) (j : ℕ) (o : Option Placed) → o ≡ None → (m : Option Local)
    → IsAssigned s now v at o m (slice_index old.locals j) (slice_index now.locals j) → slice_index now.locals j ≡ slice_index old.locals j
not_assigned s old now v at j None e m a = a
not_assigned s old now v at j (Some p) e m a = absurd cc

-- ---- forms of one variable or one base

pub base_address_is : (v : Valuation) (size : ℕ) (b : Base) → v.number 0 ≡ pos 0 → form_address v size (base_form b) ≡ v.address (Some b)
base_address_is v size b z =
    let none : v.number 0 +ℤ pos 0 ≡ pos 0 = omega (arith, ints) in
    let zero_is = ap (λ n. pos size *ℤ n) none ∙ *ℤ-zero (pos size) in
    omega (arith, ints)

module _ (s : Setting) (old now : Store) (v w : Valuation) (at : State) (ps : List Placed) (are : IsValuationOf s old.locals v) (will : IsValuationOf s now.locals w)
    (assigned : AreAssigned s old now v at ps) where
  module _ (facts : Known) (all : AreFacts v facts) (size : ℕ) where
    base_by : (b : Option Base) → IsBase s size b → (g : Form) → base_replaced (bases s.frame facts ps) b ≡ Some g → form_address v size g ≡ w.address b
    base_by None h g e = absurd h
    base_by (Some (base.Value j)) h g e = absurd h
    base_by (Some (base.Array j)) h g e =
        let same : base_form (base.Array j) ≡ g = some_equal (base_form (base.Array j)) g (sym (array_stays s.frame facts j ps) ∙ e) in
        ap (form_address v size) (sym same) ∙ base_address_is v size (base.Array j) are.zero ∙ are.array j ∙ sym (will.array j)
    base_by (Some (base.Local j)) h g e =
        by (find (assigns_local j) ps) (subst (λ o. IsAssigned s now v at (find (assigns_local j) ps) o (slice_index old.locals j) (slice_index now.locals j)) h.there (assigned j))
        (sym (place_is s.frame facts j ps) ∙ e) ∙ sym (will.pointer j)
      where
        by : (o : Option Placed) → IsAssigned s now v at o (Some h.local) (slice_index old.locals j) (slice_index now.locals j) → base_found s.frame facts j o ≡ Some g
            → form_address v size g ≡ pos (slice_index now.locals j)
        by None a e =
            let same : base_form (base.Local j) ≡ g = some_equal (base_form (base.Local j)) g e in
            ap (form_address v size) (sym same) ∙ base_address_is v size (base.Local j) are.zero ∙ are.pointer j ∙ ap pos (sym a)
        by (Some p) a e = subst (λ z. form_address v z g ≡ pos (slice_index now.locals j)) h.sized (a.place facts g all e)

    variable_by : (x : ℕ) → IsCounted s x → (g : Form) → variable_replaced (variables s.frame facts ps) x ≡ Some g → number_of v.number g ≡ w.number x
    variable_by zero h g e =
        let same : variable_form s.frame facts 0 ≡ g = some_equal (variable_form s.frame facts 0) g (sym (zero_stays s.frame facts ps) ∙ e) in
        let a : number_of v.number g ≡ v.number 0 +ℤ pos 0 = ap (number_of v.number) (sym same) in
        let b = are.zero in
        let c = will.zero in
        omega (arith, ints)
    variable_by (suc j) h g e =
        by (find (assigns_local j) ps) (subst (λ o. IsAssigned s now v at (find (assigns_local j) ps) o (slice_index old.locals j) (slice_index now.locals j)) h.there (assigned j))
        (sym (form_is s.frame facts j few ps) ∙ e) ∙ sym (will.number j h.local h.there h.integer)
      where
        few : j < 1024
        few = let a = slice_get_within s.frame.locals j h.local h.there in let b = s.frame.few in omega arith

        by : (o : Option Placed) → IsAssigned s now v at o (Some h.local) (slice_index old.locals j) (slice_index now.locals j) → variable_found s.frame facts j o ≡ Some g
            → number_of v.number g ≡ exact (integer_of h.local.ctype) (slice_index now.locals j)
        by None a e =
            let same : variable_form s.frame facts (suc j) ≡ g = some_equal (variable_form s.frame facts (suc j)) g e in
            let b : number_of v.number g ≡ v.number (suc j) +ℤ pos 0 = ap (number_of v.number) (sym same) in
            let c = are.number j h.local h.there h.integer ∙ ap (exact (integer_of h.local.ctype)) (sym a) in
            omega (arith, ints)
        by (Some p) a e = a.form facts g all e

    pub assigned_replaced : (f : Form) → IsEnd s size f → IsReplaced (bases s.frame facts ps) (variables s.frame facts ps) size v w f
    assigned_replaced f h = record { base = base_by f.base h.base; variable = variable_by f.var h.variable }

  -- bounds that hold once the locals that they name have their new values
  module _ (placed : All (IsPlaced s.text) now.blocks) (stay : StayTrue old now) (known : AreFacts v at.facts) (k : ℕ) (l : Local) (there : local_at s.frame k ≡ Some l) (low high : Form)
      (ends : AreEnds s (size_behind s.text.layout l.ctype) (bounds.Known low high)) where
    held : (value : Value) → IsJudged (memory_of s now l.ctype) v (slice_index now.locals k) value → holds_by s.frame ps value (bounds.Known low high) ≡ true
        → IsReadable s now k l.ctype (range.Known low high)
    unfolding holds_by
    held value judged e =
        reads_so s now w will k l.ctype low high ends.0 ends.1
        (contained_reads (memory_of s now l.ctype) v w (slice_index now.locals k) value (bases s.frame value.facts ps) (variables s.frame value.facts ps) low high are.zero
        (λ all. (assigned_replaced value.facts all (size_behind s.text.layout l.ctype) low ends.0, assigned_replaced value.facts all (size_behind s.text.layout l.ctype) high ends.1))
        judged e)

    target_held : (p : Placed) → IsGiven s now v at l p (slice_index now.locals k)
        → holds_by s.frame ps (new_value s.frame p.target.note.ctype p.right p.from at) (bounds.Known low high) ≡ true → IsReadable s now k l.ctype (range.Known low high)
    target_held p g e =
        held (new_value s.frame l.ctype p.right p.from at)
        (new_judged s.text (memory_of s now l.ctype) v (slice_index now.locals k) placed are.zero s.frame l.ctype p.right p.from at known g.value)
        (subst (λ t. holds_by s.frame ps (new_value s.frame t p.right p.from at) (bounds.Known low high) ≡ true) g.ctype e)

    named_held : slice_index now.locals k ≡ slice_index old.locals k → IsReadable s old k l.ctype (range_of_local s.frame k at.widened)
        → IsReadable s old k l.ctype (range_of_local s.frame k []) → holds_by s.frame ps (same_value s.frame k at) (bounds.Known low high) ≡ true → l.bounds ≡ bounds.Known low high
        → IsReadable s now k l.ctype (range.Known low high)
    named_held same wide declared e is =
        held (same_value s.frame k at)
        (same_judged s.text (memory_of s now l.ctype) v (slice_index now.locals k) placed are.zero s.frame k at known (inside at.widened wide) (inside [] declared)) e
      where
        inside : (qs : List ℕ) → IsReadable s old k l.ctype (range_of_local s.frame k qs) → IsReadWithin (memory_of s now l.ctype) v (slice_index now.locals k) (range_of_local s.frame k qs)
        inside qs h =
            subst (λ o. IsReadWithin (memory_of s now l.ctype) v (slice_index now.locals k) (range_by o (list_any (λ p. p == k) qs))) (sym there)
            (within_after old now stay s v w are will k l.ctype (range_by (Some l) (list_any (λ p. p == k) qs))
            (range_ends s (size_behind s.text.layout l.ctype) l.bounds (subst (AreEnds s (size_behind s.text.layout l.ctype)) (sym is) ends) (list_any (λ p. p == k) qs)) same
            (subst (λ o. IsReadable s old k l.ctype (range_by o (list_any (λ p. p == k) qs))) there h))

    module _ (is : l.bounds ≡ bounds.Known low high) (wide : IsReadable s old k l.ctype (range_of_local s.frame k at.widened)) (declared : IsReadable s old k l.ctype (range_of_local s.frame k [])) where
      untouched_held : slice_index now.locals k ≡ slice_index old.locals k → find (touches (bounds.Known low high)) ps ≡ None → IsReadable s now k l.ctype (range.Known low high)
      untouched_held same none =
          subst (λ b. IsReadable s now k l.ctype (range_by (Some (record { ctype = l.ctype; bounds = b })) false)) is
          (local_kept old now stay s v w are will k l.ctype l false (subst (AreEnds s (size_behind s.text.layout l.ctype)) (sym is) ends) same
          (λ j named. kept j (ap (in_bounds j) (sym is) ∙ named))
          (subst (λ o. IsReadable s old k l.ctype (range_by o false)) there declared))
        where
          kept : (j : ℕ) → in_bounds j (bounds.Known low high) ≡ true → slice_index now.locals j ≡ slice_index old.locals j
          kept j named = not_assigned s old now v at j (find (assigns_local j) ps) (untouched (bounds.Known low high) j named ps none) (local_at s.frame j) (assigned j)

      pub by_find : (o : Option Placed) → IsAssigned s now v at o (Some l) (slice_index old.locals k) (slice_index now.locals k)
          → touched_fault s.frame ps at k (bounds.Known low high) o ≡ None → IsReadable s now k l.ctype (range.Known low high)
      by_find (Some p) a e = target_held p a (unless_none (holds_by s.frame ps (new_value s.frame p.target.note.ctype p.right p.from at) (bounds.Known low high)) not_contained p.pos e)
      by_find None a e = by (find (touches (bounds.Known low high)) ps) refl e
        where
          by : (o : Option Placed) → find (touches (bounds.Known low high)) ps ≡ o → named_fault s.frame ps at k (bounds.Known low high) o ≡ None → IsReadable s now k l.ctype (range.Known low high)
          by None none e = untouched_held a none
          by (Some p) some e = named_held a wide declared (unless_none (holds_by s.frame ps (same_value s.frame k at) (bounds.Known low high)) lost_bounds p.pos e) is
