-- Each parameter may be read within its bounds at the begin of a call whose arguments are contained in them.
use Rattle.std.proofs.Common.{◌≡◌, inl, inr, ⊎_elim, ℕ, zero, suc, ◌+◌, ◌==◌, ◌<◌, ◌≤◌, refl, sym, ◌∙◌, ap, subst, List, [], ◌∷◌, ◌++◌, length, ◌+ℤ◌, arith}
use Rattle.std.specs.Prelude.{true, false, pos, slice_get, slice_index, Option, None, Some}
use Rattle.std.specs.List.{All}
use Rattle.std.proofs.lemmas.Int.{ints}
use Rattle.std.proofs.lemmas.Bool.{eq-eqb}
use Rattle.std.proofs.lemmas.List.{append-nil}
use Rattle.std.proofs.lemmas.Option.{slice_get_within, slice_get_cases, slice_get-get_or}
use Rattle.ckc_linear.specs.declared.forms.Base.{Base}
use Rattle.ckc_linear.specs.declared.forms.Base.TheVariants as base
use Rattle.ckc_linear.specs.declared.forms.Form.{Form}
use Rattle.ckc_typed.specs.declared.typed.Range.TheVariants as range
use Rattle.ckc_typed.specs.Types.{is_integer, is_pointer}
use Rattle.ckc_bounds.specs.ckc_bounds_points.specs.declared.frame.Bounds.{Bounds}
use Rattle.ckc_bounds.specs.ckc_bounds_points.specs.declared.frame.Bounds.TheVariants as bounds
use Rattle.ckc_bounds.specs.ckc_bounds_points.specs.declared.frame.HeadBounds.{HeadBounds}
use Rattle.ckc_bounds.specs.ckc_bounds_points.specs.declared.frame.Local.{Local}
use Rattle.ckc_bounds.specs.ckc_bounds_points.specs.Shown.{Known}
use Rattle.ckc_bounds.specs.ckc_bounds_points.specs.Frames.{local_at}
use Rattle.ckc_bounds.specs.ckc_bounds_points.specs.Flow.{State, names_local, in_form, in_bounds}
use Rattle.ckc_bounds.specs.ckc_bounds_points.specs.Forms.{base_form}
use Rattle.ckc_bounds.specs.ckc_bounds_ranges.specs.declared.replacements.BaseBy.{BaseBy}
use Rattle.ckc_bounds.specs.ckc_bounds_ranges.specs.Replaced.{place_for, base_replaced, variable_replaced, replaced_bounds}
use Rattle.ckc_bounds.specs.ckc_bounds_ranges.specs.Contained.{is_contained}
use Rattle.ckc_bounds.specs.ckc_bounds_ranges.specs.Rows.{range_by, range_of_bounds}
use Rattle.ckc_bounds.specs.ckc_bounds_views.specs.Parts.{View, capped}
use Rattle.ckc_bounds.specs.ckc_bounds_views.specs.Arguments.{bases_by, variables_by}
use Rattle.ckc_bounds.specs.ckc_bounds_views.specs.Fresh.{with_types}
use Rattle.ckc_bounds.specs.ckc_bounds_views.specs.Judged.{facts_for, is_owed, arguments_fault}
use Rattle.ckc_bounds.specs.ckc_bounds_stores.specs.Values.{Value, holds}
use Rattle.ckc_source.specs.Eval.{Store}
use Rattle.ckc_source.specs.Words.{exact}
use Rattle.ckc_build_values.specs.Kinds.{integer_of, size_behind}
use Rattle.ckc_build_values.specs.Names.{address_of}
use Rattle.ckc_blame_sound.specs.Settings.{Setting}
use Rattle.ckc_blame_sound.specs.Points.{IsReadable, IsBounded}
use Rattle.ckc_blame_sound.specs.Sound.{IsPlaced}
use Rattle.ckc_blame_sound.specs.Values.{number_of}
use Rattle.ckc_blame_sound.specs.Valuations.{Valuation, form_address, AreFacts, IsValuationOf}
use Rattle.ckc_blame_sound.specs.Arguments.{AreArguments}
use Rattle.ckc_blame_sound.specs.Agreeing.{IsReplaced}
use Rattle.ckc_blame_sound.specs.Containment.{IsReadWithin}
use Rattle.ckc_blame_sound.specs.Ends.{IsCounted, IsBase, IsEnd, AreEnds, HaveEnds}
use Rattle.ckc_blame_sound.specs.GivenValues.{memory_of}
use Rattle.ckc_blame_sound.specs.Passed.{AreNewArguments, AreParameters}
use Rattle.ckc_blame_sound.proofs.Tests.{left_of, right_of}
use Rattle.ckc_blame_sound.proofs.Contained.{contained_reads, more_known}
use Rattle.ckc_blame_sound.proofs.Ends.{valuation_of, values_are, reads_so}
use Rattle.ckc_blame_sound.proofs.New.{types_added}
use Rattle.ckc_blame_sound.proofs.Assigned.{base_address_is, some_equal}
use Rattle.ckc_blame_sound.proofs.Passed.{pointer_passed, integer_in_body, integer_in_head, base_passed, base_over, number_passed, zero_over, IsContained, argument_contained}

-- ---- parameters

pub parameter_at : (params : List Local) (j : ℕ) → j < length params → (p : Local) × (slice_get params j ≡ Some p)
parameter_at params j h = ⊎_elim (λ a. (a.0, a.2)) (λ b. absurd (omega (arith, b.0))) (slice_get_cases params j).1

pub few_parameters : (c : Setting) (params : List Local) → AreParameters c params → length params ≤ 1024
few_parameters c [] are = omega arith
few_parameters c (p ∷ ps) are =
    let last = slice_get-get_or (p ∷ ps) (length ps) p (omega arith) in
    let there = are.there (length ps) _ last in
    let within = slice_get_within c.frame.locals (length ps) there.0 there.1 in
    let few = c.frame.few in
    omega arith

module _ (c : Setting) (v w : Valuation) (facts : Known) (params : List Local) (entry : List ℕ) (tail : List BaseBy) (es : List View) (first : ℕ) (parameters : AreParameters c params)
    (counts : length es ≡ length params) (arguments : AreArguments c.text.layout v facts params entry 0 first es) (zero_is : v.number 0 ≡ pos 0) (zero_too : w.number 0 ≡ pos 0)
    (array : (k : ℕ) → w.address (Some (base.Array k)) ≡ v.address (Some (base.Array k))) (arrays_stay : (k : ℕ) → place_for tail (base.Array k) ≡ Some (base_form (base.Array k)))
    (pointer : (j : ℕ) → j < length params → w.address (Some (base.Local j)) ≡ pos (slice_index entry j))
    (number : (j : ℕ) (p : Local) → slice_get params j ≡ Some p → is_integer p.ctype ≡ true → w.number (suc j) ≡ exact (integer_of p.ctype) (slice_index entry j)) where
  few : 0 + length es ≤ 1024
  few = let a = few_parameters c params parameters in omega arith

  pub base_by : (size : ℕ) (b : Option Base) → IsBase c size b → ((j : ℕ) → names_local j b ≡ true → j < length params) → (g : Form)
      → base_replaced (bases_by params 0 first facts es ++ tail) b ≡ Some g → form_address v size g ≡ w.address b
  base_by size None h named g e = absurd h
  base_by size (Some (base.Value k)) h named g e = absurd h
  base_by size (Some (base.Array k)) h named g e =
      let stays = base_over c.text.layout v facts params entry tail es 0 first (base.Array k) (λ j. refl) ∙ arrays_stay k in
      let same : base_form (base.Array k) ≡ g = some_equal (base_form (base.Array k)) g (sym stays ∙ e) in
      ap (form_address v size) (sym same) ∙ base_address_is v size (base.Array k) zero_is ∙ sym (array k)
  base_by size (Some (base.Local j)) h named g e =
      let within = named j (eq-eqb j j refl) in
      let p = parameter_at params j within in
      let l = parameters.there j p.0 p.1 in
      let same : l.0 ≡ h.local = some_equal l.0 h.local (sym l.1 ∙ h.there) in
      let both = pointer_passed c.text.layout p.0 l.0 l.2 (ap (λ (x : Local). is_pointer x.ctype) same ∙ h.pointer) in
      let sized : size_behind c.text.layout p.0.ctype ≡ size = both.1 ∙ ap (λ (x : Local). size_behind c.text.layout x.ctype) same ∙ h.sized in
      let passed = base_passed c.text.layout v facts params entry tail es 0 first j j few arguments (omega arith) (omega arith) p.0 p.1 both.0 g e in
      subst (λ z. form_address v z g ≡ pos (slice_index entry j)) sized passed ∙ sym (pointer j within)

  pub variable_by : (x : ℕ) → IsCounted c x → ((j : ℕ) → (x == j + 1) ≡ true → j < length params) → (g : Form) → variable_replaced (variables_by params 0 facts es) x ≡ Some g
      → number_of v.number g ≡ w.number x
  variable_by zero h named g e =
      let form : Form = record { base = None; var = 0; add = pos 0 } in
      let same : form ≡ g = some_equal form g (sym (zero_over c.text.layout v facts params entry tail es 0) ∙ e) in
      let a : number_of v.number g ≡ v.number 0 +ℤ pos 0 = ap (number_of v.number) (sym same) in
      omega (arith, ints)
  variable_by (suc j) h named g e =
      let within = named j (eq-eqb (suc j) (j + 1) (omega arith)) in
      let p = parameter_at params j within in
      let l = parameters.there j p.0 p.1 in
      let same : l.0 ≡ h.local = some_equal l.0 h.local (sym l.1 ∙ h.there) in
      let is = integer_in_body c.text.layout p.0 l.0 l.2 (ap (λ (x : Local). is_integer x.ctype) same ∙ h.integer) in
      let there : slice_get params j ≡ Some h.local = p.1 ∙ ap (λ (x : Local). Some x) (sym is ∙ same) in
      number_passed c.text.layout v facts params entry tail es 0 first j j few arguments (omega arith) (omega arith) h.local there h.integer g e ∙ sym (number j h.local there h.integer)

-- the number of an integer parameter is that of the local with its number
pub number_in : (c : Setting) (params : List Local) → AreParameters c params → (locals : List ℕ) (w : Valuation) → IsValuationOf c locals w → (j : ℕ) (p : Local) → slice_get params j ≡ Some p
    → is_integer p.ctype ≡ true → w.number (suc j) ≡ exact (integer_of p.ctype) (slice_index locals j)
number_in c params parameters locals w will j p there i =
    let l = parameters.there j p there in
    will.number j p (l.1 ∙ ap (λ (x : Local). Some x) (integer_in_head c.text.layout p l.0 l.2 i)) i

-- ---- the begin of a call

module _ (s c : Setting) (store : Store) (v : Valuation) (at : State) (es : List View) (fresh : ℕ) (h : HeadBounds) (entry locals : List ℕ)
    (text : c.text ≡ s.text) (ends : HaveEnds c) (parameters : AreParameters c h.params) (counts : length es ≡ length h.params) (are : IsValuationOf s store.locals v) (known : AreFacts v at.facts)
    (placed : All (IsPlaced c.text) store.blocks) (arguments : (facts : Known) → AreFacts v facts → AreArguments c.text.layout v facts h.params entry 0 0 es)
    (new : AreNewArguments c store v h.params entry at 0 0 fresh es) (begins : (k : ℕ) → k < length h.params → slice_index locals k ≡ slice_index entry k)
    (owed : (k : ℕ) (e : View) → slice_get es k ≡ Some e → is_owed (slice_get h.interfaces k) e ≡ true → IsBounded c (record store { locals = locals }) [] k (local_at c.frame k))
    (judged : arguments_fault (λ facts. bases_by h.params 0 0 facts es) (λ facts. variables_by h.params 0 facts es) h 0 es 0 fresh at ≡ None) where
  abbrev begun : Store
  begun = record { shapes = store.shapes; blocks = store.blocks; locals = locals }

  will : IsValuationOf c locals (valuation_of c locals)
  will = values_are c locals

  end_passed : (facts : Known) → AreFacts v facts → (size : ℕ) (f : Form) → IsEnd c size f → ((j : ℕ) → in_form j f ≡ true → j < length h.params)
      → IsReplaced (bases_by h.params 0 0 facts es) (variables_by h.params 0 facts es) size v (valuation_of c locals) f
  end_passed facts all size f is_end named =
      let w = valuation_of c locals in
      let array : (k : ℕ) → w.address (Some (base.Array k)) ≡ v.address (Some (base.Array k)) = λ k. will.array k ∙ ap (λ t. pos (address_of t k)) text ∙ sym (are.array k) in
      let pointer : (j : ℕ) → j < length h.params → w.address (Some (base.Local j)) ≡ pos (slice_index entry j) = λ j less. will.pointer j ∙ ap pos (begins j less) in
      let number : (j : ℕ) (p : Local) → slice_get h.params j ≡ Some p → is_integer p.ctype ≡ true → w.number (suc j) ≡ exact (integer_of p.ctype) (slice_index entry j) =
      λ j p there i. number_in c h.params parameters locals w will j p there i ∙ ap (exact (integer_of p.ctype)) (begins j (slice_get_within h.params j p there)) in
      record {
        base = λ g e. base_by c v w facts h.params entry [] es 0 parameters counts (arguments facts all) are.zero will.zero array (λ k. refl) pointer number size f.base is_end.base
            (λ j e. named j (left_of (names_local j f.base) (f.var == j + 1) e)) g (ap (λ bs. base_replaced bs f.base) (append-nil (bases_by h.params 0 0 facts es)) ∙ e);
        variable = variable_by c v w facts h.params entry [] es 0 parameters counts (arguments facts all) are.zero will.zero array (λ k. refl) pointer number f.var is_end.variable
            (λ j e. named j (right_of (names_local j f.base) (f.var == j + 1) e));
      }

  -- the parameter k of known bounds, whose argument is judged
  parameter_read : (k : ℕ) (p : Local) → slice_get h.params k ≡ Some p → local_at c.frame k ≡ Some p
      → IsContained c store v h entry at (λ facts. bases_by h.params 0 0 facts es) (λ facts. variables_by h.params 0 facts es) k p
      → (low high : Form) → p.bounds ≡ bounds.Known low high → IsReadable c begun k p.ctype (range.Known low high)
  unfolding holds
  parameter_read k p there at_p one low high b =
      let w = valuation_of c locals in
      let size = size_behind c.text.layout p.ctype in
      let within = slice_get_within h.params k p there in
      let value : Value = record {
        null = one.argument.null;
        range = one.argument.range one.first one.fresh at;
        facts = facts_for one.argument one.first one.fresh false at;
      } in
      let two : AreEnds c size (bounds.Known low high) = subst (AreEnds c size) b (ends k p at_p).ends in
      let named : (j : ℕ) → in_bounds j (bounds.Known low high) ≡ true → j < length h.params = λ j e. parameters.named k p there j (ap (in_bounds j) b ∙ e) in
      let contained : is_contained value.facts (bounds.Known low high) value.null value.range (replaced_bounds (bases_by h.params 0 0 value.facts es) (variables_by h.params 0 value.facts es) (bounds.Known low high)) ≡ true =
      subst (λ l. is_contained value.facts l value.null value.range (replaced_bounds (bases_by h.params 0 0 value.facts es) (variables_by h.params 0 value.facts es) l) ≡ true) b one.contained in
      let is : slice_index locals k ≡ slice_index entry k = begins k within in
      reads_so c begun w will k p.ctype low high two.0 two.1
      (contained_reads (memory_of c begun p.ctype) v w (slice_index locals k) value (bases_by h.params 0 0 value.facts es) (variables_by h.params 0 value.facts es) low high are.zero
      (λ all. (end_passed value.facts all size low two.0 (λ j e. named j (left_of (in_form j low) (in_form j high) e)), end_passed value.facts all size high two.1 (λ j e. named j (right_of (in_form j low) (in_form j high) e))))
      (record {
        null = λ e. is ∙ one.new.null e;
        range = subst (λ n. IsReadWithin (memory_of c store p.ctype) v n value.range) (sym is) one.new.ranged.wide;
        facts = λ some. more_known c.text (memory_of c store p.ctype) v (slice_index entry k) placed (λ z. some (is ∙ z)) (one.argument.range one.first one.fresh at)
            (one.argument.range one.first one.fresh (record at { widened = [] })) false (with_types (capped one.fresh 1) (one.argument.fresh at) at.facts) one.new.ranged
            (types_added v are.zero (capped one.fresh 1) (one.argument.fresh at) at.facts (one.new.numbers (λ z. some (is ∙ z))) known);
      })
      contained)

  -- a local may be read within its bounds if it may where they are known
  local_read : (k : ℕ) (l : Local) → local_at c.frame k ≡ Some l → ((low high : Form) → l.bounds ≡ bounds.Known low high → IsReadable c begun k l.ctype (range.Known low high))
      → IsBounded c begun [] k (local_at c.frame k)
  local_read k l there known_so =
      subst (IsBounded c begun [] k) (sym there) (subst (λ o. IsReadable c begun k l.ctype (range_by o false)) (sym there) (by l.bounds refl))
    where
      by : (b : Bounds) → l.bounds ≡ b → IsReadable c begun k l.ctype (range_by (Some l) false)
      by bounds.Unknown b = subst (λ r. IsReadable c begun k l.ctype (range_of_bounds r)) (sym b) tt
      by (bounds.Known low high) b = subst (λ r. IsReadable c begun k l.ctype (range_of_bounds r)) (sym b) (known_so low high b)

  pub parameters_bounded : (k : ℕ) → k < length h.params → IsBounded c begun [] k (local_at c.frame k)
  parameters_bounded k less =
      let p = parameter_at h.params k less in
      let l = parameters.there k p.0 p.1 in
      let few = few_parameters c h.params parameters in
      elim (argument_contained c store v h entry at (λ facts. bases_by h.params 0 0 facts es) (λ facts. variables_by h.params 0 facts es) es 0 0 fresh k k (omega arith) new (omega arith) (omega arith) p.0 p.1 judged) [
        | inl o ↦ owed k o.argument o.there o.owed
        | inr one ↦ elim l.2 [
          | inl is ↦ (let there : local_at c.frame k ≡ Some p.0 = l.1 ∙ ap (λ (x : Local). Some x) is in local_read k p.0 there (parameter_read k p.0 p.1 there one))
          | inr u ↦ local_read k l.0 l.1 (λ low high b. absurd (unknown low high (sym u.bounds ∙ b)))
        ]
      ]
    where
      unknown : (low high : Form) → bounds.Unknown ≡ bounds.Known low high → ⊥
      unknown low high e = cc
