-- A pointer may be read as before if it and what its bounds name keep their values.
use Rattle.std.proofs.Common.{◌≡◌, ⊎_elim, ℕ, zero, suc, ◌+◌, ◌==◌, refl, sym, ◌∙◌, ap, subst, List, ℤ, ◌+ℤ◌, arith}
use Rattle.std.specs.Prelude.{Bool, true, false, ◌||◌, ◌&&◌, pos, ◌*ℤ◌, if◌then◌else◌, slice_index, Option, None, Some, IsOk}
use Rattle.std.proofs.lemmas.Bool.{eq-eqb, eqb-true}
use Rattle.ckc_types.specs.declared.types.CType.{CType}
use Rattle.ckc_linear.specs.declared.forms.Base.{Base}
use Rattle.ckc_linear.specs.declared.forms.Base.TheVariants as base
use Rattle.ckc_linear.specs.declared.forms.Form.{Form}
use Rattle.ckc_typed.specs.declared.typed.Range.{Range}
use Rattle.ckc_typed.specs.declared.typed.Range.TheVariants as range
use Rattle.ckc_bounds.specs.ckc_bounds_points.specs.declared.frame.Bounds.{Bounds}
use Rattle.ckc_bounds.specs.ckc_bounds_points.specs.declared.frame.Bounds.TheVariants as bounds
use Rattle.ckc_bounds.specs.ckc_bounds_points.specs.declared.frame.Local.{Local}
use Rattle.ckc_bounds.specs.ckc_bounds_points.specs.Frames.{local_at}
use Rattle.ckc_bounds.specs.ckc_bounds_points.specs.Flow.{names_local, in_form, in_bounds}
use Rattle.ckc_bounds.specs.ckc_bounds_points.specs.Forms.{moved_form, is_small}
use Rattle.ckc_bounds.specs.ckc_bounds_ranges.specs.Rows.{range_moved, range_widened, range_of_bounds, range_by}
use Rattle.ckc_source.specs.declared.expr.Pointee.{Pointee}
use Rattle.ckc_source.specs.Words.{exact}
use Rattle.ckc_source.specs.Eval.{Store, reads}
use Rattle.ckc_build_values.specs.Kinds.{integer_of, size_behind, pointee_of}
use Rattle.ckc_blame_sound.specs.Settings.{Setting}
use Rattle.ckc_blame_sound.specs.Points.{IsReadable}
use Rattle.ckc_blame_sound.specs.Values.{number_of}
use Rattle.ckc_blame_sound.specs.Valuations.{Valuation, form_address, IsValuationOf}
use Rattle.ckc_blame_sound.proofs.Facts.{one_of}
use Rattle.ckc_blame_sound.proofs.Tests.{left_of, right_of}
use Rattle.ckc_blame_sound.specs.Containment.{Memory, IsReadWithin}
use Rattle.ckc_blame_sound.specs.Ends.{IsCounted, IsBase, IsEnd, AreEnds}
use Rattle.ckc_blame_sound.specs.GivenValues.{memory_of, StayTrue}
use Rattle.ckc_blame_sound.proofs.Contained.{null_reads, true_reads, true_at, null_or}
use Rattle.ckc_blame_sound.proofs.Ends.{read_as, reads_so}

-- ---- ranges of bounds

-- both ends of a range that is known
abbrev pub AreRangeEnds : Setting → ℕ → Range → Type 0
AreRangeEnds s size (range.Known low high) = IsEnd s size low × IsEnd s size high
AreRangeEnds s size _ = Unit {0}

-- whether a range names a local
abbrev pub in_range : ℕ → Range → Bool
in_range j (range.Known low high) = in_form j low || in_form j high
in_range j _ = false

moved_ends : (s : Setting) (size : ℕ) (low high : Form) → IsEnd s size low → IsEnd s size high → (o : Option Form) → moved_form (Some high) (pos 1) ≡ o → AreRangeEnds s size (range_moved low o)
moved_ends s size low high a b None e = tt
moved_ends s size low high a b (Some f) e = by (is_small high.add && is_small (pos 1)) e
  where
    by : (c : Bool) → (if c then Some (record high { add = high.add +ℤ pos 1 }) else None) ≡ Some f → IsEnd s size low × IsEnd s size f
    by true e = let same : record high { add = high.add +ℤ pos 1 } ≡ f = cc in (a, subst (IsEnd s size) same (record { base = b.base; variable = b.variable }))
    by false e = absurd cc

pub range_ends : (s : Setting) (size : ℕ) (b : Bounds) → AreEnds s size b → (wide : Bool) → AreRangeEnds s size (if wide then range_widened b else range_of_bounds b)
range_ends s size bounds.Unknown are true = tt
range_ends s size bounds.Unknown are false = tt
range_ends s size (bounds.Known low high) are true = moved_ends s size low high are.0 are.1 (moved_form (Some high) (pos 1)) refl
range_ends s size (bounds.Known low high) are false = are

moved_names : (j : ℕ) (low high : Form) (o : Option Form) → moved_form (Some high) (pos 1) ≡ o → in_range j (range_moved low o) ≡ true → (in_form j low || in_form j high) ≡ true
moved_names j low high None e n = absurd cc
moved_names j low high (Some f) e n = by (is_small high.add && is_small (pos 1)) e
  where
    by : (c : Bool) → (if c then Some (record high { add = high.add +ℤ pos 1 }) else None) ≡ Some f → (in_form j low || in_form j high) ≡ true
    by true e = let same : f ≡ record high { add = high.add +ℤ pos 1 } = cc in sym (ap (λ g. in_form j low || in_form j g) same) ∙ n
    by false e = absurd cc

pub range_names : (j : ℕ) (b : Bounds) (wide : Bool) → in_range j (if wide then range_widened b else range_of_bounds b) ≡ true → in_bounds j b ≡ true
range_names j bounds.Unknown true e = e
range_names j bounds.Unknown false e = e
range_names j (bounds.Known low high) true e = moved_names j low high (moved_form (Some high) (pos 1)) refl e
range_names j (bounds.Known low high) false e = e

-- ---- what is kept

-- a valuation of the same values for what a form names
module _ (s : Setting) (old now : List ℕ) (v w : Valuation) (are : IsValuationOf s old v) (will : IsValuationOf s now w) where
  abbrev Same : ℕ → Type 0
  Same j = slice_index now j ≡ slice_index old j

  base_kept : (size : ℕ) (b : Option Base) → IsBase s size b → ((j : ℕ) → names_local j b ≡ true → Same j) → w.address b ≡ v.address b
  base_kept size None h same = absurd h
  base_kept size (Some (base.Local j)) h same = will.pointer j ∙ ap pos (same j (eq-eqb j j refl)) ∙ sym (are.pointer j)
  base_kept size (Some (base.Array j)) h same = will.array j ∙ sym (are.array j)
  base_kept size (Some (base.Value j)) h same = absurd h

  variable_kept : (x : ℕ) → IsCounted s x → ((j : ℕ) → (x == j + 1) ≡ true → Same j) → w.number x ≡ v.number x
  variable_kept zero h same = will.zero ∙ sym are.zero
  variable_kept (suc j) h same =
      will.number j h.local h.there h.integer
      ∙ ap (exact (integer_of h.local.ctype)) (same j (eq-eqb (suc j) (j + 1) (omega arith)))
      ∙ sym (are.number j h.local h.there h.integer)

  pub end_kept : (size : ℕ) (f : Form) → IsEnd s size f → ((j : ℕ) → in_form j f ≡ true → Same j) → form_address w size f ≡ form_address v size f
  end_kept size f h same =
      ap (λ z. z +ℤ (pos size *ℤ number_of w.number f)) (base_kept size f.base h.base (λ j e. same j (left_of (names_local j f.base) (f.var == j + 1) e)))
      ∙ ap (λ z. v.address f.base +ℤ (pos size *ℤ (z +ℤ f.add))) (variable_kept f.var h.variable (λ j e. same j (right_of (names_local j f.base) (f.var == j + 1) e)))

module _ (before after : Store) (stay : StayTrue before after) where
  pub reads_stay : (to : Pointee) (n : ℕ) (x y : ℤ) → IsOk (reads before.shapes before.blocks to n x y) → IsOk (reads after.shapes after.blocks to n x y)
  reads_stay to n x y h =
      let old : Memory = record { shapes = before.shapes; blocks = before.blocks; to = to } in
      let now : Memory = record { shapes = after.shapes; blocks = after.blocks; to = to } in
      null_or (IsOk (reads after.shapes after.blocks to n x y)) n (λ z. null_reads now n x y z)
      (λ d. let t = true_at old n x y d h in
      true_reads now n x y (record { low = t.low; high = t.high; begins = t.begins; ends = t.ends; holds = stay to n t.low t.high t.holds }))

  module _ (s : Setting) (v w : Valuation) (are : IsValuationOf s before.locals v) (will : IsValuationOf s after.locals w) (k : ℕ) (t : CType) where
    abbrev Keeps : ℕ → Type 0
    Keeps j = slice_index after.locals j ≡ slice_index before.locals j

    -- what a range of a local before is after
    pub within_after : (r : Range) → AreRangeEnds s (size_behind s.text.layout t) r → Keeps k → IsReadable s before k t r
        → IsReadWithin (memory_of s after t) v (slice_index after.locals k) r
    within_after (range.Known low high) ends same h =
        let size = size_behind s.text.layout t in
        let x = form_address v size low in
        let y = form_address v size high in
        reads_stay (pointee_of s.text.layout t) (slice_index after.locals k) x y
        (subst (λ n. IsOk (reads before.shapes before.blocks (pointee_of s.text.layout t) n x y)) (sym same) (read_as s before v are k t low high ends.0 ends.1 h))
    within_after range.Missing ends same h = tt
    within_after range.Any ends same h = tt

    pub readable_kept : (r : Range) → AreRangeEnds s (size_behind s.text.layout t) r → Keeps k → ((j : ℕ) → in_range j r ≡ true → Keeps j) → IsReadable s before k t r → IsReadable s after k t r
    readable_kept (range.Known low high) ends same named h =
        let size = size_behind s.text.layout t in
        let r = within_after (range.Known low high) ends same h in
        let low_same = end_kept s before.locals after.locals v w are will size low ends.0 (λ j e. named j (left_of (in_form j low) (in_form j high) e)) in
        let high_same = end_kept s before.locals after.locals v w are will size high ends.1 (λ j e. named j (right_of (in_form j low) (in_form j high) e)) in
        reads_so s after w will k t low high ends.0 ends.1
        (subst (λ y. IsOk (reads after.shapes after.blocks (pointee_of s.text.layout t) (slice_index after.locals k) (form_address w size low) y)) (sym high_same)
        (subst (λ x. IsOk (reads after.shapes after.blocks (pointee_of s.text.layout t) (slice_index after.locals k) x (form_address v size high))) (sym low_same) r))
    readable_kept range.Missing ends same named h = tt
    readable_kept range.Any ends same named h = tt

    pub local_kept : (l : Local) (wide : Bool) → AreEnds s (size_behind s.text.layout t) l.bounds → Keeps k → ((j : ℕ) → in_bounds j l.bounds ≡ true → Keeps j)
        → IsReadable s before k t (range_by (Some l) wide) → IsReadable s after k t (range_by (Some l) wide)
    local_kept l wide ends same named h =
        readable_kept (range_by (Some l) wide) (range_ends s (size_behind s.text.layout t) l.bounds ends wide) same (λ j e. named j (range_names j l.bounds wide e)) h

-- ---- what bounds name is a local

module _ (s : Setting) (size : ℕ) where
  base_named : (b : Option Base) → IsBase s size b → (j : ℕ) → names_local j b ≡ true → (m : Local) × (local_at s.frame j ≡ Some m)
  base_named None h j e = absurd h
  base_named (Some (base.Local i)) h j e = (h.local, ap (local_at s.frame) (sym (eqb-true i j e)) ∙ h.there)
  base_named (Some (base.Array i)) h j e = absurd cc
  base_named (Some (base.Value i)) h j e = absurd h

  variable_named : (x : ℕ) → IsCounted s x → (j : ℕ) → (x == j + 1) ≡ true → (m : Local) × (local_at s.frame j ≡ Some m)
  variable_named zero h j e = let z = eqb-true 0 (j + 1) e in absurd (omega arith)
  variable_named (suc i) h j e =
      let z = eqb-true (suc i) (j + 1) e in
      let same : i ≡ j = omega arith in
      (h.local, ap (local_at s.frame) (sym same) ∙ h.there)

  end_named : (f : Form) → IsEnd s size f → (j : ℕ) → in_form j f ≡ true → (m : Local) × (local_at s.frame j ≡ Some m)
  end_named f h j e = ⊎_elim (base_named f.base h.base j) (variable_named f.var h.variable j) (one_of (names_local j f.base) (f.var == j + 1) e)

  pub bounds_named : (b : Bounds) → AreEnds s size b → (j : ℕ) → in_bounds j b ≡ true → (m : Local) × (local_at s.frame j ≡ Some m)
  bounds_named bounds.Unknown h j e = absurd cc
  bounds_named (bounds.Known low high) h j e = ⊎_elim (end_named low h.0 j) (end_named high h.1 j) (one_of (in_form j low) (in_form j high) e)
