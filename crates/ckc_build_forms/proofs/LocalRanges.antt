-- The ranges that are noted at the names of locals name locals that are there, and have small numbers.
use Rattle.std.proofs.Common.{◌≡◌, ◌⊎◌, ⊎_elim, inl, inr, refl, sym, ap, subst, ◌∙◌, arith, ℕ, zero, suc, ◌-◌, ◌<◌, ◌≤◌, Bool, true, false, List, [], ◌∷◌, ◌++◌, length, replicate}
use Rattle.std.specs.Prelude.{◌^◌, ◌==◌, ◌&&◌, ◌+ℤ◌, if◌then◌else◌, pos, Option, None, Some, slice_get}
use Rattle.std.proofs.lemmas.Bool.Decides.{nat_tests}
use Rattle.ckc_types.specs.declared.types.CType.{CType}
use Rattle.ckc_types.specs.declared.types.CType.TheVariants as ctype
use Rattle.ckc_linear.specs.declared.forms.Base.{Base}
use Rattle.ckc_linear.specs.declared.forms.Base.TheVariants as base
use Rattle.ckc_linear.specs.declared.forms.Form.{Form}
use Rattle.ckc_typed.specs.declared.typed.Range.{Range}
use Rattle.ckc_typed.specs.declared.typed.Range.TheVariants as range
use Rattle.ckc_typed.specs.declared.typed.Typed.{Typed}
use Rattle.ckc_typed.specs.Environment.{variables_of}
use Rattle.ckc_typed.specs.Trees.{NotedHead, NotedStmt}
use Rattle.ckc_typed.specs.Types.{element_of, is_integer, is_integer_form, is_pointer, is_pointer_form}
use Rattle.ckc_blame_steps.specs.ckc_bounds.specs.Declarations.{few_of, first_of, head_bounds}
use Rattle.ckc_blame_steps.specs.ckc_bounds.specs.Frames.{first_fresh, fresh_needed, nameless, locals_frame, function_frame}
use Rattle.ckc_blame_steps.specs.ckc_bounds_points.specs.declared.frame.Bounds.{Bounds}
use Rattle.ckc_blame_steps.specs.ckc_bounds_points.specs.declared.frame.Bounds.TheVariants as bounds
use Rattle.ckc_blame_steps.specs.ckc_bounds_points.specs.declared.frame.Frame.{Frame}
use Rattle.ckc_blame_steps.specs.ckc_bounds_points.specs.declared.frame.Local.{Local}
use Rattle.ckc_blame_steps.specs.ckc_bounds_points.specs.Forms.{is_small, moved_form}
use Rattle.ckc_blame_steps.specs.ckc_bounds_points.specs.Frames.{local_at}
use Rattle.ckc_blame_steps.specs.ckc_bounds_ranges.specs.Rows.{range_moved, range_of_bounds, range_widened, range_by}
use Rattle.ckc_source.specs.Code.{Function}
use Rattle.ckc_checks_operands.specs.Compilable.{IsVariable, IsSmall}
use Rattle.ckc_build_values.specs.Names.{address_of}
use Rattle.ckc_build_values.specs.Ends.{base_at, variable_at, local_variable, end_at, limits_at}
use Rattle.ckc_blame_steps.specs.ckc_blame_sound.specs.Ends.{IsBase, IsCounted, IsEnd, AreEnds}
use Rattle.ckc_blame_steps.specs.ckc_blame_sound.specs.JudgedTexts.{IsJudged}
use Rattle.ckc_blame_steps.specs.ckc_blame_sound.specs.Settings.{Setting, IsFunction, frame_of_text, setting_of}
use Rattle.ckc_blame_steps.specs.ckc_blame_sound.proofs.Frames.{first_at, locals_made, locals_counted}
use Rattle.ckc_blame_steps.specs.ckc_blame_declared.proofs.HaveEnds.{locals_have_ends}
use Rattle.ckc_source.specs.declared.expr.Base.TheVariants as ends
use Rattle.ckc_build_forms.proofs.Forms.{BaseForm, EndForm, LimitsForm}
use Rattle.ckc_build_forms.proofs.FormsOfParts.{size_fits}
use Rattle.ckc_build_forms.proofs.ObjectsLow.{addresses_low}
use Rattle.ckc_build_forms.proofs.RangesNoted.{IsRangeOf}
use Rattle.ckc_build_forms.proofs.SmallLimits.{limits_small}
use Rattle.ckc_build_forms.proofs.SoundTypes.{void_out}

-- ---- the locals of a frame that are declared

first_short : (m : ℕ) (ls : List Local) → length (first_of m ls) ≤ length ls
first_short zero ls = omega arith
first_short (suc m) [] = omega arith
first_short (suc m) (l ∷ ls) = let h = first_short m ls in omega (arith, h)

replicated : (n : ℕ) (x l : Local) (i : ℕ) → slice_get (replicate n x) i ≡ Some l → x ≡ l
replicated zero x l i e = absurd cc
replicated (suc n) x l zero e = one e
  where
    one : Some x ≡ Some l → x ≡ l
    one f = cc
replicated (suc n) x l (suc i) e = replicated n x l i e

behind : (xs : List Local) (n : ℕ) (x l : Local) (k : ℕ) → slice_get (xs ++ replicate n x) k ≡ Some l → (k < length xs) ⊎ (x ≡ l)
behind [] n x l k e = inr (replicated n x l k e)
behind (y ∷ xs) n x l zero e = inl (omega arith)
behind (y ∷ xs) n x l (suc k) e = ⊎_elim (λ h. inl (omega (arith, h))) (λ h. inr h) (behind xs n x l k e)

declared_or_void : (frame : Frame) (h : NotedHead) (body : NotedStmt) (k : ℕ) (l : Local) → local_at (function_frame frame h body) k ≡ Some l
    → (k < length (variables_of body.note.mode h body)) ⊎ (l.ctype ≡ ctype.Void)
unfolding few_of
declared_or_void frame h body k l e =
    let D = locals_made frame h body in
    let n = fresh_needed (locals_frame frame h body) (head_bounds frame h) h body (first_fresh h body) in
    let one = first_at 1023 (first_of 1023 D ++ replicate n nameless) k l e in
    let long : length D ≡ length (variables_of body.note.mode h body) = locals_counted frame h body in
    let short = first_short 1023 D in
    ⊎_elim (λ f. inl (omega (arith, f, short, long))) (λ f. inr (sym (ap (λ (x : Local). x.ctype) f))) (behind (first_of 1023 D) n nameless l k one.1)

there_or_void : (p : Typed) (s : Setting) (f : Function) (k : ℕ) (l : Local) → IsFunction p s f → local_at s.frame k ≡ Some l → (k < length s.variables) ⊎ (l.ctype ≡ ctype.Void)
unfolding setting_of
there_or_void p s f k l is e =
    let P : Setting → Type 0 = λ z. local_at z.frame k ≡ Some l → (k < length z.variables) ⊎ (l.ctype ≡ ctype.Void) in
    subst P (sym is.judged) (declared_or_void (frame_of_text p) is.head is.body k l) e

void_no_integer : (t : CType) → t ≡ ctype.Void → is_integer t ≡ true → ⊥
void_no_integer t e h = different (sym (ap is_integer e ∙ ap is_integer_form void_out) ∙ h)
  where
    different : false ≡ true → ⊥
    different f = cc

void_no_pointer : (t : CType) → t ≡ ctype.Void → is_pointer t ≡ true → ⊥
void_no_pointer t e h = different (sym (ap is_pointer e ∙ ap is_pointer_form void_out) ∙ h)
  where
    different : false ≡ true → ⊥
    different f = cc

-- ---- forms over the locals

abbrev BaseThere : ℕ → Option Base → Type 0
BaseThere n (Some (base.Local k)) = k < n
BaseThere n b = Unit {0}

pub record FormThere (n : ℕ) (f : Form) : Type 0 where
  pub base : BaseThere n f.base
  pub variable : f.var ≤ n

abbrev BoundsThere : ℕ → Bounds → Type 0
BoundsThere n bounds.Unknown = Unit {0}
BoundsThere n (bounds.Known low high) = FormThere n low × FormThere n high

abbrev pub RangeThere : ℕ → Range → Type 0
RangeThere n (range.Known low high) = FormThere n low × FormThere n high
RangeThere n r = Unit {0}

module _ (p : Typed) (s : Setting) (f : Function) (j : IsJudged p) (is : IsFunction p s f) where
  abbrev n : ℕ
  n = length s.variables

  base_there : (size : ℕ) (b : Option Base) → IsBase s size b → BaseThere n b
  base_there size (Some (base.Local k)) h = ⊎_elim (λ e. e) (λ e. absurd (void_no_pointer h.local.ctype e h.pointer)) (there_or_void p s f k h.local is h.there)
  base_there size (Some (base.Array k)) h = tt
  base_there size (Some (base.Value k)) h = tt
  base_there size None h = tt

  variable_there : (x : ℕ) → IsCounted s x → x ≤ n
  variable_there zero h = omega arith
  variable_there (suc k) h = ⊎_elim (λ e. omega (arith, e)) (λ e. absurd (void_no_integer h.local.ctype e h.integer)) (there_or_void p s f k h.local is h.there)

  form_there : (size : ℕ) (g : Form) → IsEnd s size g → FormThere n g
  form_there size g h = record { base = base_there size g.base h.base; variable = variable_there g.var h.variable }

  bounds_there : (size : ℕ) (b : Bounds) → AreEnds s size b → BoundsThere n b
  bounds_there size bounds.Unknown h = tt
  bounds_there size (bounds.Known low high) h = (form_there size low h.0, form_there size high h.1)

  moved_there : (low high : Form) → FormThere n low → FormThere n high → RangeThere n (range_moved low (moved_form (Some high) (pos 1)))
  moved_there low high h g = by (is_small high.add && is_small (pos 1))
    where
      by : (b : Bool) → RangeThere n (range_moved low (if b then Some (record high { add = high.add +ℤ pos 1 }) else None))
      by true = (h, record { base = g.base; variable = g.variable })
      by false = tt

  widened_there : (b : Bounds) → BoundsThere n b → RangeThere n (range_widened b)
  widened_there bounds.Unknown h = tt
  widened_there (bounds.Known low high) h = moved_there low high h.0 h.1

  plain_there : (b : Bounds) → BoundsThere n b → RangeThere n (range_of_bounds b)
  plain_there bounds.Unknown h = tt
  plain_there (bounds.Known low high) h = h

  by_there : (k : ℕ) (o : Option Local) → local_at s.frame k ≡ o → (wide : Bool) → RangeThere n (range_by o wide)
  by_there k None e wide = tt
  by_there k (Some l) e true = widened_there l.bounds (bounds_there _ l.bounds (locals_have_ends p s f j is k l e).ends)
  by_there k (Some l) e false = plain_there l.bounds (bounds_there _ l.bounds (locals_have_ends p s f j is k l e).ends)

  range_there : (k : ℕ) (r : Range) → IsRangeOf s.frame k r → RangeThere n r
  range_there k r (inl e) = subst (RangeThere n) (sym e) tt
  range_there k r (inr e) = subst (RangeThere n) (sym e.1) (by_there k (local_at s.frame k) refl _)

  -- ---- ends as a program has them

  address_fits : (k : ℕ) → address_of p k < 2 ^ 32
  address_fits k = let h = addresses_low p j k in omega (arith, h)

  base_form : (own : ℕ) (b : Option Base) → BaseThere n b → BaseForm n (base_at p own b)
  base_form own (Some (base.Local k)) h = by (k == own)
    where
      by : (b : Bool) → BaseForm n (if b then ends.Own else ends.Local k)
      by true = tt
      by false = h
  base_form own (Some (base.Array k)) h = address_fits k
  base_form own (Some (base.Value k)) h = tt
  base_form own None h = tt

  variable_form : (x : ℕ) → x ≤ n → IsVariable n (variable_at s.variables x)
  variable_form zero h = tt
  variable_form (suc k) h = subst (λ b. IsVariable n (if b then None else Some (local_variable s.variables (suc k - 1)))) (sym not_zero) (omega (arith, h))
    where
      not_zero : (suc k == 0) ≡ false
      not_zero = grind (arith, nat_tests)

  end_form : (own : ℕ) (g : Form) → FormThere n g → IsSmall g.add → EndForm n (end_at p s.variables own g)
  end_form own g h small = (base_form own g.base h.base, variable_form g.var h.variable, small)

  -- the limits of a local that is read within its range
  pub limits_form : (t : CType) (k : ℕ) (low high : Form) → IsRangeOf s.frame k (range.Known low high) → LimitsForm n (limits_at p s.variables t k low high)
  limits_form t k low high h =
      let there = range_there k (range.Known low high) h in
      let small = limits_small p s f j is k low high h in
      (size_fits p.layout (element_of t), end_form k low there.0 small.0, end_form k high there.1 small.1)
