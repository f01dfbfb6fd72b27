-- A valuation in which a `calloc` stands for an address, and its fresh variable for what it counts.
use Rattle.std.proofs.Common.{◌≡◌, ⊎_elim, refl, sym, ap, subst, ◌∙◌, ℕ, suc, Bool, true, false, List, [], ◌∷◌, ◌++◌, length, length-append, arith}
use Rattle.std.specs.Prelude.{◌==◌, ◌+◌, ◌<◌, ◌≤◌, ◌^◌, if◌then◌else◌, is_some, ℤ, pos, ◌+ℤ◌, Option, None, Some}
use Rattle.std.proofs.lemmas.Bool.Decides.{nat_tests}
use Rattle.std.proofs.lemmas.Int.{ints}
use Rattle.ckc_types.specs.declared.types.CType.{CType}
use Rattle.ckc_types.specs.declared.types.CType.TheVariants as ctype
use Rattle.ckc_linear.specs.declared.forms.Base.{Base}
use Rattle.ckc_linear.specs.declared.forms.Base.TheVariants as base
use Rattle.ckc_linear.specs.declared.forms.Form.{Form}
use Rattle.ckc_typed.specs.Types.{is_integer}
use Rattle.ckc_blame_sound.specs.ckc_bounds_points.specs.declared.frame.Local.{Local}
use Rattle.ckc_blame_sound.specs.ckc_bounds_points.specs.Frames.{local_at}
use Rattle.ckc_blame_sound.specs.ckc_bounds_points.specs.Flow.{State}
use Rattle.ckc_blame_sound.specs.ckc_bounds_points.specs.Forms.{in_type}
use Rattle.ckc_blame_sound.specs.ckc_bounds_views.specs.Parts.{View, capped, next_behind, fresh_behind, with_last}
use Rattle.ckc_blame_sound.specs.ckc_bounds_views.specs.Ranges.{form_or_fresh}
use Rattle.ckc_blame_sound.specs.ckc_bounds_stores.specs.declared.values.Numbered.{Numbered}
use Rattle.ckc_blame_sound.specs.Bodies.{AreFresh}
use Rattle.ckc_blame_sound.specs.Settings.{Setting}
use Rattle.ckc_blame_sound.specs.Values.{number_of, IsNumberOf}
use Rattle.ckc_blame_sound.specs.Valuations.{Valuation, IsValuationOf, AreNumbersOf}
use Rattle.ckc_blame_sound.proofs.Apart.{three}
use Rattle.ckc_blame_given.specs.ckc_blame_pointers.proofs.Later.{parts_room, next_more}
use Rattle.ckc_blame_given.specs.Gives.{Continues}
use Rattle.ckc_blame_steps.proofs.Callocs.{IsCalloc, count_type}

-- ---- numbers

differs : (x y : ℕ) → x < y → (x == y) ≡ false
differs x y h = grind (arith, nat_tests)

itself : (x : ℕ) → (x == x) ≡ true
itself x = grind (arith, nat_tests)

own_below : (first count : ℕ) → first + capped count 1 + 1 < 2 ^ 32 → capped first count < capped first (capped count 1)
own_below first count h = omega arith

parts_below : (fresh : ℕ) (ts : List CType) (o : Option CType) → fresh + length (with_last ts o) < 2 ^ 32 → next_behind fresh ts ≤ next_behind fresh (with_last ts o)
parts_below fresh ts None h = omega arith
parts_below fresh ts (Some t) h = omega (arith, length-append ts (t ∷ []))

own_next : (fresh : ℕ) (ts : List CType) (t : CType) → fresh + length (ts ++ t ∷ []) < 2 ^ 32 → capped (next_behind fresh ts) 1 ≡ next_behind fresh ts + 1
own_next fresh ts t h = omega (arith, length-append ts (t ∷ []))

own_last : (fresh : ℕ) (ts : List CType) (t : CType) → fresh + length (ts ++ t ∷ []) < 2 ^ 32 → capped (next_behind fresh ts) 1 ≤ next_behind fresh (ts ++ t ∷ [])
own_last fresh ts t h = omega (arith, length-append ts (t ∷ []))

capped_small : (m n : ℕ) → capped m n < 2 ^ 32
capped_small m n = omega arith

-- the numbers of fresh variables, with one more
numbers_last : (v : Valuation) (x : ℕ) (ts : List CType) (t : CType) → x < 2 ^ 32 → AreNumbersOf v x ts → IsNumberOf t (v.number (capped x (length ts))) → AreNumbersOf v x (ts ++ t ∷ [])
numbers_last v x [] t small a h = (subst (λ y. IsNumberOf t (v.number y)) none h, tt)
  where
    none : capped x 0 ≡ x
    none = omega arith
numbers_last v x (u ∷ ts) t small a h = (a.0, numbers_last v (capped x 1) ts t (capped_small x 1) a.1 (subst (λ y. IsNumberOf t (v.number y)) on h))
  where
    on : capped x (length (u ∷ ts)) ≡ capped (capped x 1) (length ts)
    on = omega arith

turned : (fresh n : ℕ) → capped (capped fresh n) 1 ≡ capped (capped fresh 1) n
turned fresh n = omega arith

-- ---- the valuation

module _ (s : Setting) (locals : List ℕ) (at : State) (v c : View) (is : IsCalloc v c) (from : Numbered) (values_room : from.value + v.values + 1 < 2 ^ 32) (fresh_room : from.fresh + length (v.fresh at) < 2 ^ 32)
    (are : AreFresh s.frame from.fresh) (before : Valuation) (values : IsValuationOf s locals before) (n : ℕ) (z : ℤ) where
  abbrev pub own : ℕ
  own = capped from.value c.values

  abbrev pub last : ℕ
  last = next_behind from.fresh (c.fresh at)

  abbrev address_with : Option Base → ℤ
  address_with (Some (base.Value j)) = if j == own then pos n else before.address (Some (base.Value j))
  address_with b = before.address b

  abbrev pub after : Valuation
  after = record { number = λ y. if y == last + 1 then z else before.number y; address = address_with }

  room : from.fresh + length (with_last (c.fresh at) (count_type c at.facts)) < 2 ^ 32
  room = subst (λ (ts : List CType). from.fresh + length ts < 2 ^ 32) (is.fresh at) fresh_room

  past : own < capped from.value v.values
  past = subst (λ k. own < capped from.value k) (sym is.values) (own_below from.value c.values (subst (λ k. from.value + k + 1 < 2 ^ 32) is.values values_room))

  reached : last ≤ fresh_behind v from.fresh at
  reached = subst (λ (ts : List CType). last ≤ next_behind from.fresh ts) (sym (is.fresh at)) (parts_below from.fresh (c.fresh at) (count_type c at.facts) room)

  least : from.fresh ≤ last
  least = next_more from.fresh (c.fresh at) (parts_room from.fresh (c.fresh at) (count_type c at.facts) room)

  pub continues_own : Continues own last before after
  continues_own = record {
    address = λ j less. ap (λ (b : Bool). if b then pos n else before.address (Some (base.Value j))) (differs j own less);
    number = λ x less. ap (λ (b : Bool). if b then z else before.number x) (differs x (last + 1) (omega arith));
  }

  local_below : (k : ℕ) (l : Local) → local_at s.frame k ≡ Some l → is_integer l.ctype ≡ true → k < from.fresh
  local_below k l there integer =
      ⊎_elim (λ h. h) (λ h. ⊎_elim (λ e. absurd (none (omega arith))) (λ h. absurd (none (omega arith))) h) (three k from.fresh)
    where
      none : from.fresh ≤ k → ⊥
      none h = let no : is_integer l.ctype ≡ false = are k l h there in absurd cc

  pub values_after : IsValuationOf s locals after
  values_after = record {
    zero = ap (λ (b : Bool). if b then z else before.number 0) (differs 0 (last + 1) (omega arith)) ∙ values.zero;
    number = λ k l there integer.
        let below : k < from.fresh = local_below k l there integer in
        let more = least in
        ap (λ (b : Bool). if b then z else before.number (suc k)) (differs (suc k) (last + 1) (omega arith)) ∙ values.number k l there integer;
    pointer = values.pointer;
    array = values.array;
  }

  pub continues_before : (first : Valuation) → Continues from.value from.fresh first before → Continues from.value from.fresh first after
  continues_before first goes = record {
    address = λ j less. continues_own.address j (up j less) ∙ goes.address j less;
    number = λ x less. let more = least in continues_own.number x (omega arith) ∙ goes.number x less;
  }
    where
      under : (m k j : ℕ) → m + k + 1 < 2 ^ 32 → j < m → j < capped m k
      under m k j h less = omega arith

      more_room : (m k : ℕ) → m + capped k 1 + 1 < 2 ^ 32 → m + k + 1 < 2 ^ 32
      more_room m k h = omega arith

      up : (j : ℕ) → j < from.value → j < own
      up j less = under from.value c.values j (more_room from.value c.values (subst (λ k. from.value + k + 1 < 2 ^ 32) is.values values_room)) less

  module _ (later : Valuation) (goes : Continues (capped from.value v.values) (fresh_behind v from.fresh at) after later) where
    pub later_own : Continues own last before later
    later_own = record {
      address = λ j less. let more = past in goes.address j (omega arith) ∙ continues_own.address j less;
      number = λ x less. let more = reached in goes.number x (omega arith) ∙ continues_own.number x less;
    }

    pub later_address : later.address (Some (base.Value own)) ≡ pos n
    later_address = goes.address own past ∙ ap (λ (b : Bool). if b then pos n else before.address (Some (base.Value own))) (itself own)

    later_count : (t : CType) → count_type c at.facts ≡ Some t → later.number (capped last 1) ≡ z
    later_count t e =
        goes.number (capped last 1) (subst (λ (ts : List CType). capped last 1 ≤ next_behind from.fresh ts) (sym (is.fresh at ∙ ap (with_last (c.fresh at)) e)) (own_last from.fresh (c.fresh at) t more))
        ∙ ap (λ x. if x == last + 1 then z else before.number x) (own_next from.fresh (c.fresh at) t more)
        ∙ ap (λ (b : Bool). if b then z else before.number (last + 1)) (itself (last + 1))
      where
        more : from.fresh + length (c.fresh at ++ t ∷ []) < 2 ^ 32
        more = subst (λ o. from.fresh + length (with_last (c.fresh at) o) < 2 ^ 32) e room

    pub later_numbers : ((t : CType) → count_type c at.facts ≡ Some t → IsNumberOf t z) → AreNumbersOf later (capped from.fresh 1) (c.fresh at) → AreNumbersOf later (capped from.fresh 1) (v.fresh at)
    later_numbers typed parts = subst (AreNumbersOf later (capped from.fresh 1)) (sym (is.fresh at)) (by (count_type c at.facts) refl)
      where
        by : (o : Option CType) → count_type c at.facts ≡ o → AreNumbersOf later (capped from.fresh 1) (with_last (c.fresh at) o)
        by None e = parts
        by (Some t) e =
            numbers_last later (capped from.fresh 1) (c.fresh at) t (capped_small from.fresh 1) parts
            (subst (λ x. IsNumberOf t (later.number x)) (turned from.fresh (length (c.fresh at))) (subst (IsNumberOf t) (sym (later_count t e)) (typed t e)))

    -- what the count stands for
    pub later_counts : ((f : Form) → in_type at.facts ctype.Int (c.form at.facts) ≡ Some f → number_of later.number f ≡ z)
        → number_of later.number (form_or_fresh (in_type at.facts ctype.Int (c.form at.facts)) last) ≡ z
    later_counts formed = by (in_type at.facts ctype.Int (c.form at.facts)) refl
      where
        by : (o : Option Form) → in_type at.facts ctype.Int (c.form at.facts) ≡ o → number_of later.number (form_or_fresh o last) ≡ z
        by (Some f) e = formed f e
        by None e = no_more (later.number (capped last 1)) ∙ later_count ctype.Int (ap (λ (o : Option Form). if is_some o then None else Some ctype.Int) e)
          where
            no_more : (y : ℤ) → y +ℤ pos 0 ≡ y
            no_more y = omega (arith, ints)
