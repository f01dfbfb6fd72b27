-- What replaces a parameter in bounds at a call is what its argument stands for.
use Rattle.std.proofs.Common.{◌≡◌, inl, inr, ℕ, zero, suc, ◌+◌, ◌==◌, ◌<◌, ◌≤◌, refl, sym, ◌∙◌, ap, subst, List, [], ◌∷◌, ◌++◌, length, arith}
use Rattle.std.specs.Prelude.{◌⊎◌, Bool, true, false, ◌||◌, pos, if◌then◌else◌, slice_get, slice_index, Option, None, Some}
use Rattle.std.proofs.lemmas.Bool.{eq-eqb, eqb-true}
use Rattle.std.proofs.lemmas.Bool.Decides.{nat_tests}
use Rattle.ckc_base.specs.declared.places.Refusal.{Refusal}
use Rattle.ckc_types.specs.declared.types.CType.{CType}
use Rattle.ckc_types.specs.declared.types.Structs.{Structs}
use Rattle.ckc_linear.specs.declared.forms.Base.{Base}
use Rattle.ckc_linear.specs.declared.forms.Base.TheVariants as base
use Rattle.ckc_linear.specs.declared.forms.Form.{Form}
use Rattle.ckc_typed.specs.Constants.{size_of}
use Rattle.ckc_typed.specs.Types.{is_integer, is_pointer}
use Rattle.ckc_bounds.specs.ckc_bounds_points.specs.declared.frame.HeadBounds.{HeadBounds}
use Rattle.ckc_bounds.specs.ckc_bounds_points.specs.declared.frame.Local.{Local}
use Rattle.ckc_bounds.specs.ckc_bounds_points.specs.Shown.{Known}
use Rattle.ckc_bounds.specs.ckc_bounds_points.specs.Flow.{State}
use Rattle.ckc_bounds.specs.ckc_bounds_points.specs.Forms.{in_type, same_base}
use Rattle.ckc_bounds.specs.ckc_bounds_points.specs.Codes.{not_contained}
use Rattle.ckc_bounds.specs.ckc_bounds_ranges.specs.declared.replacements.BaseBy.{BaseBy}
use Rattle.ckc_bounds.specs.ckc_bounds_ranges.specs.declared.replacements.VariableBy.{VariableBy}
use Rattle.ckc_bounds.specs.ckc_bounds_ranges.specs.Replaced.{place_for, variable_replaced}
use Rattle.ckc_bounds.specs.ckc_bounds_views.specs.Parts.{View, capped, fresh_behind, with_first}
use Rattle.ckc_bounds.specs.ckc_bounds_views.specs.Arguments.{base_by, bases_by, variable_by, variables_by}
use Rattle.ckc_bounds.specs.ckc_bounds_views.specs.Judged.{facts_for, contained_in, is_owed, is_argument, arguments_fault}
use Rattle.ckc_source.specs.Eval.{Store}
use Rattle.ckc_source.specs.Words.{exact}
use Rattle.ckc_build_values.specs.Kinds.{integer_of, size_behind}
use Rattle.ckc_blame_sound.specs.Settings.{Setting}
use Rattle.ckc_blame_sound.specs.Values.{number_of}
use Rattle.ckc_blame_sound.specs.Valuations.{Valuation, form_address}
use Rattle.ckc_blame_sound.specs.Arguments.{IsArgumentIf, AreArguments}
use Rattle.ckc_blame_sound.specs.GivenValues.{memory_of}
use Rattle.ckc_blame_sound.specs.Passed.{IsNewArgument, IsNewArgumentIf, AreNewArguments, IsUnjudged}
use Rattle.ckc_blame_sound.proofs.Tests.{either}
use Rattle.ckc_blame_sound.proofs.Types.{no_pointer}

-- ---- a parameter as the body has it

module _ (structs : Structs) (p l : Local) (either_so : (l ≡ p) ⊎ IsUnjudged p l) where
  pub pointer_passed : is_pointer l.ctype ≡ true → (is_pointer p.ctype ≡ true) × (size_behind structs p.ctype ≡ size_behind structs l.ctype)
  pointer_passed e = elim either_so [
    | inl is ↦ (ap (λ (x : Local). is_pointer x.ctype) (sym is) ∙ e, ap (λ (x : Local). size_behind structs x.ctype) (sym is))
    | inr u ↦ (u.passed, ap (size_of structs) (sym u.element))
  ]

  no_integer : (t : CType) → is_integer t ≡ true → is_pointer t ≡ true → ⊥
  no_integer t i e = let f = no_pointer t i in cc

  -- what is an integer in the body is the parameter, and the other way round
  pub integer_in_body : is_integer l.ctype ≡ true → l ≡ p
  integer_in_body i = elim either_so [ inl is ↦ is | inr u ↦ absurd (no_integer l.ctype i u.seen) ]

  pub integer_in_head : is_integer p.ctype ≡ true → l ≡ p
  integer_in_head i = elim either_so [ inl is ↦ is | inr u ↦ absurd (no_integer p.ctype i u.passed) ]

-- ---- lists of arguments

next_is : (k : ℕ) → k < 1024 → capped k 1 ≡ k + 1
next_is k h = omega arith

next_same : (k j : ℕ) → k < 1024 → (capped k 1 == suc j) ≡ (k == j)
next_same k j h = grind (arith, nat_tests)

next_some : (k : ℕ) → (capped k 1 == 0) ≡ false
next_some k = grind (arith, nat_tests)

apart : (k j : ℕ) → (k ≡ j → ⊥) → (k == j) ≡ false
apart k j d = by (k == j) refl
  where
    by : (b : Bool) → (k == j) ≡ b → b ≡ false
    by true e = absurd (d (eqb-true k j e))
    by false e = refl

-- ---- bases

-- a parameter that is passed over
base_skipped : (o : Option Local) (k : ℕ) (f : Option Form) (rest tail : List BaseBy) (b : Base) → same_base (Some (base.Local k)) (Some b) ≡ false
    → place_for (with_first (base_by o k f) rest ++ tail) b ≡ place_for (rest ++ tail) b
base_skipped None k f rest tail b d = refl
base_skipped (Some p) k f rest tail b d = by (is_pointer p.ctype)
  where
    by : (c : Bool) → place_for (with_first (if c then Some (record { base = base.Local k; by = f }) else None) rest ++ tail) b ≡ place_for (rest ++ tail) b
    by true = ap (λ t. if t then f else place_for (rest ++ tail) b) d
    by false = refl

base_taken : (o : Option Local) (p : Local) (k : ℕ) (f : Option Form) (rest tail : List BaseBy) → o ≡ Some p → is_pointer p.ctype ≡ true
    → place_for (with_first (base_by o k f) rest ++ tail) (base.Local k) ≡ f
base_taken o p k f rest tail e i =
    ap (λ o. place_for (with_first (base_by o k f) rest ++ tail) (base.Local k)) e
    ∙ ap (λ c. place_for (with_first (if c then Some (record { base = base.Local k; by = f }) else None) rest ++ tail) (base.Local k)) i
    ∙ ap (λ t. if t then f else place_for (rest ++ tail) (base.Local k)) (eq-eqb k k refl)

variable_skipped : (facts : Known) (o : Option Local) (k : ℕ) (f : Option Form) (rest : List VariableBy) (x : ℕ) → (capped k 1 == x) ≡ false
    → variable_replaced (with_first (variable_by facts o k f) rest) x ≡ variable_replaced rest x
variable_skipped facts None k f rest x d = refl
variable_skipped facts (Some p) k f rest x d = by (is_pointer p.ctype)
  where
    by : (c : Bool) → variable_replaced (with_first (if c then None else Some (record { var = capped k 1; by = in_type facts p.ctype f })) rest) x ≡ variable_replaced rest x
    by true = refl
    by false = ap (λ t. if t then in_type facts p.ctype f else variable_replaced rest x) d

variable_taken : (facts : Known) (o : Option Local) (p : Local) (k : ℕ) (f : Option Form) (rest : List VariableBy) (x : ℕ) → (capped k 1 == x) ≡ true → o ≡ Some p → is_pointer p.ctype ≡ false
    → variable_replaced (with_first (variable_by facts o k f) rest) x ≡ in_type facts p.ctype f
variable_taken facts o p k f rest x s e i =
    ap (λ o. variable_replaced (with_first (variable_by facts o k f) rest) x) e
    ∙ ap (λ c. variable_replaced (with_first (if c then None else Some (record { var = capped k 1; by = in_type facts p.ctype f })) rest) x) i
    ∙ ap (λ t. if t then in_type facts p.ctype f else variable_replaced rest x) s

module _ (structs : Structs) (v : Valuation) (facts : Known) (params : List Local) (entry : List ℕ) (tail : List BaseBy) where
  -- what is said of a parameter
  meant : (o : Option Local) (p : Local) (at form : Option Form) (n : ℕ) → o ≡ Some p → IsArgumentIf structs v facts o at form n → IsArgumentIf structs v facts (Some p) at form n
  meant o p at form n e a = subst (λ o. IsArgumentIf structs v facts o at form n) e a

  pub base_passed : (es : List View) (k first i j : ℕ) → k + length es ≤ 1024 → AreArguments structs v facts params entry k first es → j ≡ k + i → i < length es
      → (p : Local) → slice_get params j ≡ Some p → is_pointer p.ctype ≡ true → (g : Form) → place_for (bases_by params k first facts es ++ tail) (base.Local j) ≡ Some g
      → form_address v (size_behind structs p.ctype) g ≡ pos (slice_index entry j)
  base_passed [] k first i j few are is within p there pointer g e = absurd (omega arith)
  base_passed (a ∷ es) k first zero j few are is within p there pointer g e =
      let same : k ≡ j = omega arith in
      let at_k : slice_get params k ≡ Some p = ap (slice_get params) same ∙ there in
      let rest = bases_by params (capped k 1) (capped first a.values) facts es in
      let h = meant (slice_get params k) p (a.place first facts) (a.form facts) (slice_index entry k) at_k are.0 in
      h.address g pointer (sym (base_taken (slice_get params k) p k (a.place first facts) rest tail at_k pointer) ∙ ap (λ j. place_for (with_first (base_by (slice_get params k) k (a.place first facts)) rest ++ tail) (base.Local j)) same ∙ e)
      ∙ ap (λ j. pos (slice_index entry j)) same
  base_passed (a ∷ es) k first (suc i) j few are is within p there pointer g e =
      let next : capped k 1 ≡ k + 1 = next_is k (omega arith) in
      let rest = bases_by params (capped k 1) (capped first a.values) facts es in
      base_passed es (capped k 1) (capped first a.values) i j (omega arith) are.1 (omega arith) (omega arith) p there pointer g
      (sym (base_skipped (slice_get params k) k (a.place first facts) rest tail (base.Local j) (apart k j (λ s. absurd (omega arith)))) ∙ e)

  -- a base that is no local
  pub base_over : (es : List View) (k first : ℕ) (b : Base) → ((j : ℕ) → same_base (Some (base.Local j)) (Some b) ≡ false)
      → place_for (bases_by params k first facts es ++ tail) b ≡ place_for tail b
  base_over [] k first b none = refl
  base_over (a ∷ es) k first b none =
      base_skipped (slice_get params k) k (a.place first facts) (bases_by params (capped k 1) (capped first a.values) facts es) tail b (none k)
      ∙ base_over es (capped k 1) (capped first a.values) b none

  pub number_passed : (es : List View) (k first i j : ℕ) → k + length es ≤ 1024 → AreArguments structs v facts params entry k first es → j ≡ k + i → i < length es
      → (p : Local) → slice_get params j ≡ Some p → is_integer p.ctype ≡ true → (g : Form) → variable_replaced (variables_by params k facts es) (suc j) ≡ Some g
      → number_of v.number g ≡ exact (integer_of p.ctype) (slice_index entry j)
  number_passed [] k first i j few are is within p there integer g e = absurd (omega arith)
  number_passed (a ∷ es) k first zero j few are is within p there integer g e =
      let same : k ≡ j = omega arith in
      let at_k : slice_get params k ≡ Some p = ap (slice_get params) same ∙ there in
      let rest = variables_by params (capped k 1) facts es in
      let h = meant (slice_get params k) p (a.place first facts) (a.form facts) (slice_index entry k) at_k are.0 in
      h.number g (sym (variable_taken facts (slice_get params k) p k (a.form facts) rest (suc j) (next_same k j (omega arith) ∙ eq-eqb k j same) at_k (no_pointer p.ctype integer)) ∙ e)
      ∙ ap (λ j. exact (integer_of p.ctype) (slice_index entry j)) same
  number_passed (a ∷ es) k first (suc i) j few are is within p there integer g e =
      let next : capped k 1 ≡ k + 1 = next_is k (omega arith) in
      let rest = variables_by params (capped k 1) facts es in
      number_passed es (capped k 1) (capped first a.values) i j (omega arith) are.1 (omega arith) (omega arith) p there integer g
      (sym (variable_skipped facts (slice_get params k) k (a.form facts) rest (suc j) (next_same k j (omega arith) ∙ apart k j (λ s. absurd (omega arith)))) ∙ e)

  pub zero_over : (es : List View) (k : ℕ) → variable_replaced (variables_by params k facts es) 0 ≡ Some (record { base = None; var = 0; add = pos 0 })
  zero_over [] k = refl
  zero_over (a ∷ es) k = variable_skipped facts (slice_get params k) k (a.form facts) (variables_by params (capped k 1) facts es) 0 (next_some k) ∙ zero_over es (capped k 1)

-- ---- the judgement of one argument

-- The argument at one place goes to the parameter at another one as the unchecked pointer that it is.
pub record IsOwed (h : HeadBounds) (es : List View) (i j : ℕ) : Type 0 where
  pub argument : View
  pub there : slice_get es i ≡ Some argument
  pub owed : is_owed (slice_get h.interfaces j) argument ≡ true

owed_later : (h : HeadBounds) (a : View) (es : List View) (i j : ℕ) → IsOwed h es i j → IsOwed h (a ∷ es) (suc i) j
owed_later h a es i j o = record { argument = o.argument; there = o.there; owed = o.owed }

module _ (s : Setting) (store : Store) (v : Valuation) (h : HeadBounds) (entry : List ℕ) (at : State) (bases : Known → List BaseBy) (variables : Known → List VariableBy) where
  -- the argument of a parameter: it is contained, and what is known of it
  pub record IsContained (j : ℕ) (p : Local) : Type 0 where
    pub argument : View
    pub first : ℕ
    pub fresh : ℕ
    pub contained : contained_in p.bounds argument.null (argument.range first fresh at) (facts_for argument first fresh false at) bases variables ≡ true
    pub new : IsNewArgument (memory_of s store p.ctype) v argument first fresh at (slice_index entry j)

  -- the first has no fault, and the rest has none
  no_fault : (b : Bool) (rest : Option Refusal) (r : Refusal) → (if b then rest else Some r) ≡ None → (b ≡ true) × (rest ≡ None)
  no_fault true rest r e = (refl, e)
  no_fault false rest r e = absurd cc

  -- what the first argument is judged by, and what those behind it are
  abbrev Passes : ℕ → View → ℕ → ℕ → Bool
  Passes k a first fresh = is_owed (slice_get h.interfaces k) a || is_argument (slice_get h.params k) a first fresh at bases variables

  abbrev Behind : ℕ → View → List View → ℕ → ℕ → Option Refusal
  Behind k a es first fresh = arguments_fault bases variables h (capped k 1) es (capped first a.values) (fresh_behind a fresh at) at

  -- an argument that is judged is contained
  pub argument_contained : (es : List View) (k first fresh i j : ℕ) → k + length es ≤ 1024 → AreNewArguments s store v h.params entry at k first fresh es → j ≡ k + i → i < length es
      → (p : Local) → slice_get h.params j ≡ Some p → arguments_fault bases variables h k es first fresh at ≡ None → IsOwed h es i j ⊎ IsContained j p
  argument_contained [] k first fresh i j few are is within p there e = absurd (omega arith)
  argument_contained (a ∷ es) k first fresh zero j few are is within p there e =
      let same : k ≡ j = omega arith in
      let at_k : slice_get h.params k ≡ Some p = ap (slice_get h.params) same ∙ there in
      let f = no_fault (Passes k a first fresh) (Behind k a es first fresh) (record { code = not_contained; pos = a.pos }) e in
      elim (either (is_owed (slice_get h.interfaces k) a) (is_argument (slice_get h.params k) a first fresh at bases variables) f.0) [
        | inl o ↦ inl (record { argument = a; there = refl; owed = ap (λ j. is_owed (slice_get h.interfaces j) a) (sym same) ∙ o })
        | inr c ↦ inr (record {
          argument = a;
          first = first;
          fresh = fresh;
          contained = sym (ap (λ o. is_argument o a first fresh at bases variables) at_k) ∙ c;
          new = subst (λ j. IsNewArgument (memory_of s store p.ctype) v a first fresh at (slice_index entry j)) same
              (subst (λ o. IsNewArgumentIf s store v o a first fresh at (slice_index entry k)) at_k are.0);
        })
      ]
  argument_contained (a ∷ es) k first fresh (suc i) j few are is within p there e =
      let next : capped k 1 ≡ k + 1 = next_is k (omega arith) in
      let f = no_fault (Passes k a first fresh) (Behind k a es first fresh) (record { code = not_contained; pos = a.pos }) e in
      elim (argument_contained es (capped k 1) (capped first a.values) (fresh_behind a fresh at) i j (omega arith) are.1 (omega arith) (omega arith) p there f.1) [
        | inl o ↦ inl (owed_later h a es i j o)
        | inr c ↦ inr c
      ]
