-- A pointer in memory may be read within its bounds after an assignment that is contained in them.
use Rattle.std.proofs.Common.{◌≡◌, ℕ, ◌==◌, refl, sym, ◌∙◌, ap, subst, List, [], ◌∷◌, ◌++◌, ℤ, ◌+ℤ◌, arith}
use Rattle.std.specs.Prelude.{Bool, true, false, pos, ◌*ℤ◌, if◌then◌else◌, Option, None, Some, IsOk}
use Rattle.std.specs.List.{All, filter_map, cons_option}
use Rattle.std.specs.Option.{option_map, option_or}
use Rattle.std.proofs.lemmas.Int.{ints}
use Rattle.std.proofs.lemmas.Bool.{eq-eqb, eqb-true}
use Rattle.ckc_base.specs.declared.places.Refusal.{Refusal}
use Rattle.ckc_types.specs.declared.types.CType.{CType}
use Rattle.ckc_types.specs.declared.types.Kind.{Kind}
use Rattle.ckc_types.specs.declared.types.Kind.TheVariants as kind
use Rattle.ckc_types.specs.declared.types.MemberBounds.{MemberBounds}
use Rattle.ckc_types.specs.declared.types.MemberBounds.TheVariants as written
use Rattle.ckc_types.specs.declared.types.Structs.{Structs}
use Rattle.ckc_linear.specs.declared.forms.Base.{Base}
use Rattle.ckc_linear.specs.declared.forms.Base.TheVariants as base
use Rattle.ckc_linear.specs.declared.forms.Form.{Form}
use Rattle.ckc_syntax.specs.declared.tree.Name.TheVariants as name
use Rattle.ckc_typed.specs.Types.{kind_of}
use Rattle.ckc_bounds.specs.ckc_bounds_points.specs.declared.frame.Bounds.{Bounds}
use Rattle.ckc_bounds.specs.ckc_bounds_points.specs.declared.frame.Bounds.TheVariants as bounds
use Rattle.ckc_bounds.specs.ckc_bounds_points.specs.Codes.{not_contained}
use Rattle.ckc_bounds.specs.ckc_bounds_points.specs.Shown.{Known}
use Rattle.ckc_bounds.specs.ckc_bounds_points.specs.Flow.{State}
use Rattle.ckc_bounds.specs.ckc_bounds_points.specs.Forms.{same_base, base_form}
use Rattle.ckc_bounds.specs.ckc_bounds_ranges.specs.declared.replacements.VariableBy.{VariableBy}
use Rattle.ckc_bounds.specs.ckc_bounds_ranges.specs.Replaced.{variable_replaced}
use Rattle.ckc_bounds.specs.ckc_bounds_declared.specs.Written.{bounds_of_kind}
use Rattle.ckc_bounds.specs.ckc_bounds_views.specs.declared.variables.Member.{Member}
use Rattle.ckc_bounds.specs.ckc_bounds_views.specs.Views.{view}
use Rattle.ckc_bounds.specs.ckc_bounds_stores.specs.Targets.{local_of, member_variable, memory_bounds, bounds_by_member}
use Rattle.ckc_bounds.specs.ckc_bounds_stores.specs.Values.{new_value}
use Rattle.ckc_bounds.specs.ckc_bounds_stores.specs.Stores.{Placed, received, place_of, member_by, unassigned, members, own_place, holds_in_memory, memory_fault_by, member_fault, memory_fault, target_fault_of, store_fault}
use Rattle.ckc_source.specs.declared.expr.Count.{Count}
use Rattle.ckc_source.specs.declared.expr.Count.TheVariants as count
use Rattle.ckc_source.specs.Eval.{Store, reads}
use Rattle.ckc_source.specs.Words.{elements_behind}
use Rattle.ckc_build_values.specs.Kinds.{size_behind, count_of_kind}
use Rattle.ckc_build_values.specs.Members.{count_by, offset_of, integer_in_member, member_named}
use Rattle.ckc_blame_sound.specs.Settings.{Setting}
use Rattle.ckc_blame_sound.specs.Sound.{IsPlaced}
use Rattle.ckc_blame_sound.specs.Values.{number_of}
use Rattle.ckc_blame_sound.specs.Valuations.{Valuation, AreFacts}
use Rattle.ckc_blame_sound.specs.Containment.{Memory, IsReadBetween}
use Rattle.ckc_blame_sound.specs.GivenValues.{memory_of, IsFrom}
use Rattle.ckc_blame_sound.specs.Memory.{AreOwn, IsMemberGiven, AreMembersGiven, IsCountedBy}
use Rattle.ckc_blame_sound.proofs.Contained.{contained_reads}
use Rattle.ckc_blame_sound.proofs.New.{new_judged}
use Rattle.ckc_blame_sound.proofs.Faults.{unless_none}
use Rattle.ckc_blame_sound.proofs.Assigned.{base_address_is}
use Rattle.ckc_blame_sound.proofs.Own.{own_replaced, variable_stays}

-- ---- members

module _ (s : Setting) (v w : Valuation) (facts : Known) (all : AreFacts v facts) where
  -- what replaces a member stands for what it is after
  member_number : (ps : List Placed) → AreMembersGiven s v w ps → (tail : List VariableBy) (x : ℕ)
      → ((g : Form) → variable_replaced tail x ≡ Some g → number_of v.number g ≡ w.number x)
      → (g : Form) → variable_replaced (filter_map (member_by s.frame facts) ps ++ tail) x ≡ Some g → number_of v.number g ≡ w.number x
  member_number [] are tail x rest g e = rest g e
  member_number (p ∷ ps) are tail x rest g e = by (view s.frame p.target).member are.0 (member_number ps are.1 tail x rest g) e
    where
      one : (m : Member) → IsMemberGiven s v w p (Some m) → (variable_replaced (filter_map (member_by s.frame facts) ps ++ tail) x ≡ Some g → number_of v.number g ≡ w.number x)
          → (b : Bool) → (member_variable m.number == x) ≡ b
          → (if b then received s.frame facts p else variable_replaced (filter_map (member_by s.frame facts) ps ++ tail) x) ≡ Some g → number_of v.number g ≡ w.number x
      one m given others true d e = given facts g all e ∙ ap w.number (eqb-true (member_variable m.number) x d)
      one m given others false d e = others e

      by : (o : Option Member) → IsMemberGiven s v w p o → (variable_replaced (filter_map (member_by s.frame facts) ps ++ tail) x ≡ Some g → number_of v.number g ≡ w.number x)
          → variable_replaced (cons_option (option_map (λ m. record { var = member_variable m.number; by = received s.frame facts p }) o) (filter_map (member_by s.frame facts) ps) ++ tail) x ≡ Some g
          → number_of v.number g ≡ w.number x
      by None given others e = others e
      by (Some m) given others e = one m given others (member_variable m.number == x) refl e

  module _ (zero_is : v.number 0 ≡ pos 0) (zero_too : w.number 0 ≡ pos 0) (low high : Form) where
    -- the number zero, which nothing replaces
    zero_left : (g : Form) → variable_replaced (unassigned (bounds.Known low high)) 0 ≡ Some g → number_of v.number g ≡ w.number 0
    zero_left g e = by (high.var == 0) refl e
      where
        by : (b : Bool) → (high.var == 0) ≡ b → variable_replaced (if b then [] else record { var = high.var; by = None } ∷ []) 0 ≡ Some g → number_of v.number g ≡ w.number 0
        by true d e = variable_stays v w 0 (zero_too ∙ sym zero_is) g e
        by false d e =
            variable_stays v w 0 (zero_too ∙ sym zero_is) g
            (sym (ap (λ (b : Bool). if b then None else variable_replaced [] 0) d) ∙ e)

    -- the variable of the upper end
    high_left : (g : Form) → variable_replaced (unassigned (bounds.Known low high)) high.var ≡ Some g → number_of v.number g ≡ w.number high.var
    high_left g e = by (high.var == 0) refl e
      where
        by : (b : Bool) → (high.var == 0) ≡ b → variable_replaced (if b then [] else record { var = high.var; by = None } ∷ []) high.var ≡ Some g → number_of v.number g ≡ w.number high.var
        by true d e =
            let none = eqb-true high.var 0 d in
            variable_stays v w high.var (ap w.number none ∙ zero_too ∙ sym (ap v.number none ∙ zero_is)) g e
        by false d e =
            let no : None ≡ Some g = sym (ap (λ (b : Bool). if b then None else variable_replaced [] high.var) (eq-eqb high.var high.var refl)) ∙ e in
            absurd cc

-- ---- a pointer that is assigned

no_second : (o p : Option Refusal) → option_or o p ≡ None → o ≡ None
no_second None p e = refl
no_second (Some r) p e = absurd cc

module _ (s : Setting) (store : Store) (v w : Valuation) (at : State) (ps : List Placed) (p : Placed) (n : ℕ) (low high : Form) (zero_is : v.number 0 ≡ pos 0) (zero_too : w.number 0 ≡ pos 0)
    (own : w.address (Some (base.Value 0)) ≡ pos n) (known : AreFacts v at.facts) (placed : All (IsPlaced s.text) store.blocks)
    (from : IsFrom s.frame (memory_of s store p.target.note.ctype) v p.target.note.ctype p.right p.from at n) (given : AreMembersGiven s v w ps) (ends : AreOwn low high) where
  at_own : (b : Option Base) → b ≡ Some (base.Value 0) → same_base (Some (base.Value 0)) b ≡ false → w.address b ≡ v.address b
  at_own b e d = let t : same_base (Some (base.Value 0)) b ≡ true = ap (same_base (Some (base.Value 0))) e in absurd cc

  held : holds_in_memory s.frame ps p (new_value s.frame p.target.note.ctype p.right p.from at) (bounds.Known low high) ≡ true
      → IsReadBetween (memory_of s store p.target.note.ctype) w n low high
  unfolding holds_in_memory
  held e =
      let t = p.target.note.ctype in
      let size = size_behind s.text.layout t in
      let value = new_value s.frame t p.right p.from at in
      let place = place_of s.frame value.facts p in
      let vs = members s.frame value.facts ps (bounds.Known low high) in
      let low_zero : low.var ≡ 0 = ap (λ (f : Form). f.var) ends.begins in
      contained_reads (memory_of s store t) v w n value (own_place (base.Value 0) place) vs low high zero_is
      (λ all. (
        own_replaced size v w zero_is (base.Value 0) place (λ g e. from.place value.facts g all e ∙ sym own) vs low
            (at_own low.base (ap (λ (f : Form). f.base) ends.begins))
            (subst (λ x. (g : Form) → variable_replaced vs x ≡ Some g → number_of v.number g ≡ w.number x) (sym low_zero)
            (member_number s v w value.facts all ps given (unassigned (bounds.Known low high)) 0 (zero_left s v w value.facts all zero_is zero_too low high))),
        own_replaced size v w zero_is (base.Value 0) place (λ g e. from.place value.facts g all e ∙ sym own) vs high (at_own high.base ends.ends)
            (member_number s v w value.facts all ps given (unassigned (bounds.Known low high)) high.var (high_left s v w value.facts all zero_is zero_too low high)),
      ))
      (new_judged s.text (memory_of s store t) v n placed zero_is s.frame t p.right p.from at known from.value) e

  pub memory_read : (result : Bounds) → local_of p.target ≡ None → memory_bounds s.frame p.target ≡ bounds.Known low high → store_fault s.frame result ps at p ≡ None
      → IsReadBetween (memory_of s store p.target.note.ctype) w n low high
  memory_read result none is e =
      let f : memory_fault s.frame ps at p ≡ None = sym (ap (target_fault_of s.frame result ps at p) none) ∙ e in
      let by : memory_fault_by s.frame ps at p (memory_bounds s.frame p.target) ≡ None = no_second (memory_fault_by s.frame ps at p (memory_bounds s.frame p.target)) (member_fault s.frame ps p (view s.frame p.target).member) f in
      held (unless_none (holds_in_memory s.frame ps p (new_value s.frame p.target.note.ctype p.right p.from at) (bounds.Known low high)) not_contained p.pos
      (sym (ap (memory_fault_by s.frame ps at p) is) ∙ by))

-- ---- the bounds of a member as memory has them

module _ (structs : Structs) (tag : ℕ) (t : CType) (m : Memory) (w : Valuation) (n : ℕ) (zero_too : w.number 0 ≡ pos 0) (own : w.address (Some (base.Value 0)) ≡ pos n) where
  abbrev Reads : ℤ → Type 0
  Reads z = IsOk (reads m.shapes m.blocks m.to n (pos n) (elements_behind n m.to.size z))

  counted_at : (x : ℕ) (c z : ℤ) → z ≡ w.number x +ℤ c → IsReadBetween m w n (base_form (base.Value 0)) (record { base = Some (base.Value 0); var = x; add = c }) → Reads z
  counted_at x c z e h =
      let low = base_address_is w m.to.size (base.Value 0) zero_too ∙ own in
      let high : w.address (Some (base.Value 0)) +ℤ (pos m.to.size *ℤ (w.number x +ℤ c)) ≡ elements_behind n m.to.size z =
      ap (λ a. a +ℤ (pos m.to.size *ℤ (w.number x +ℤ c))) own ∙ ap (λ y. pos n +ℤ (pos m.to.size *ℤ y)) (sym e) in
      subst (λ y. IsOk (reads m.shapes m.blocks m.to n (pos n) y)) high
      (subst (λ x'. IsOk (reads m.shapes m.blocks m.to n x' (w.address (Some (base.Value 0)) +ℤ (pos m.to.size *ℤ (w.number x +ℤ c))))) low h)

  constant_at : (c z : ℤ) → z ≡ c → IsReadBetween m w n (base_form (base.Value 0)) (record { base = Some (base.Value 0); var = 0; add = c }) → Reads z
  constant_at c z e h = let zero = zero_too in counted_at 0 c z (omega (arith, ints)) h

  known_ends : (a b low high : Form) → bounds.Known a b ≡ bounds.Known low high → (a ≡ low) × (b ≡ high)
  known_ends a b low high e = (cc, cc)

  read_as : (a b low high : Form) → bounds.Known a b ≡ bounds.Known low high → IsReadBetween m w n low high → IsReadBetween m w n a b
  read_as a b low high e h =
      let same = known_ends a b low high e in
      subst (λ f. IsReadBetween m w n f b) (sym same.0) (subst (λ f. IsReadBetween m w n low f) (sym same.1) h)

  some_count : (a b : Count) → ◌≡◌ {A = Option Count} (Some a) (Some b) → a ≡ b
  some_count a b e = cc

  fixed_at : (b : MemberBounds) (c : ℤ) (many : Count) (z : ℤ) → Some (count.Fixed c) ≡ Some many → IsCountedBy w b many z → z ≡ c
  fixed_at b c many z e h = subst (λ k. IsCountedBy w b k z) (sym (some_count (count.Fixed c) many e)) h

  by_kind : (k : Option Kind) (many : Count) (z : ℤ) (low high : Form) → bounds_of_kind (base.Value 0) k ≡ bounds.Known low high → count_of_kind k ≡ Some many
      → IsCountedBy w written.Nothing many z → IsReadBetween m w n low high → Reads z
  by_kind (Some kind.One) many z low high b e c h =
      constant_at (pos 1) z (fixed_at written.Nothing (pos 1) many z e c)
      (read_as (base_form (base.Value 0)) (record { base = Some (base.Value 0); var = 0; add = pos 1 }) low high b h)
  by_kind (Some kind.Nt) many z low high b e c h =
      constant_at (pos 0) z (fixed_at written.Nothing (pos 0) many z e c) (read_as (base_form (base.Value 0)) (base_form (base.Value 0)) low high b h)
  by_kind (Some kind.Arr) many z low high b e c h = absurd cc
  by_kind (Some kind.Raw) many z low high b e c h = absurd cc
  by_kind None many z low high b e c h = absurd cc

  pub member_counted : (b : MemberBounds) (many : Count) (z : ℤ) (low high : Form) → bounds_by_member t b ≡ bounds.Known low high → count_by structs tag t b ≡ Some many
      → IsCountedBy w b many z → IsReadBetween m w n low high → Reads z
  member_counted written.Nothing many z low high b e c h = by_kind (kind_of t) many z low high b e c h
  member_counted written.Unknown many z low high b e c h = absurd cc
  member_counted written.NoForm many z low high b e c h = absurd cc
  member_counted (written.Fixed a) many z low high b e c h =
      constant_at a z (fixed_at (written.Fixed a) a many z e c) (read_as (base_form (base.Value 0)) (record { base = Some (base.Value 0); var = 0; add = a }) low high b h)
  member_counted (written.Named k a) many z low high b e c h =
      let other : Count = count.Member (offset_of structs tag k) (integer_in_member (member_named structs tag (name.Member k))) a in
      let is : z ≡ w.number (member_variable k) +ℤ a = subst (λ j. IsCountedBy w (written.Named k a) j z) (sym (some_count other many e)) c in
      counted_at (member_variable k) a z is
      (read_as (base_form (base.Value 0)) (record { base = Some (base.Value 0); var = member_variable k; add = a }) low high b h)
