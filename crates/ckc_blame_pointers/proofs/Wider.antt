-- What is read at the upper bound of a null-terminated local widens it where that is not zero.
use Rattle.std.proofs.Common.{◌≡◌, refl, sym, ap, subst, ◌∙◌, ℕ, Bool, true, false, List, [], ◌∷◌, ◌++◌, arith}
use Rattle.std.specs.Prelude.{◌+◌, ◌*◌, ◌==◌, ◌&&◌, ◌||◌, if◌then◌else◌, slice_index, ℤ, pos, negsuc, ◌+ℤ◌, ◌*ℤ◌, Option, None, Some, Err, IsOk}
use Rattle.std.specs.List.{Contains, list_any}
use Rattle.std.specs.Ordering.{int_eq}
use Rattle.std.proofs.Math.IntN.{pos-*ℤ-pos}
use Rattle.std.proofs.lemmas.Bool.{and_parts, eqb-true}
use Rattle.std.proofs.lemmas.Bool.Decides.{Decides-int_eq}
use Rattle.std.proofs.lemmas.Int.{ints}
use Rattle.std.proofs.lemmas.List.Folds.{list_any-append}
use Rattle.ckc_types.specs.declared.types.CType.{CType}
use Rattle.ckc_linear.specs.declared.forms.Base.{Base}
use Rattle.ckc_linear.specs.declared.forms.Base.TheVariants as base
use Rattle.ckc_linear.specs.declared.forms.Form.{Form}
use Rattle.ckc_typed.specs.declared.environment.Globals.{Globals}
use Rattle.ckc_typed.specs.declared.typed.Range.TheVariants as range
use Rattle.ckc_typed.specs.Conversions.{is_terminated_kind}
use Rattle.ckc_typed.specs.Constants.{size_of}
use Rattle.ckc_typed.specs.Types.{is_integer, kind_of, element_of}
use Rattle.ckc_blame_sound.specs.ckc_bounds_points.specs.declared.frame.Bounds.{Bounds}
use Rattle.ckc_blame_sound.specs.ckc_bounds_points.specs.declared.frame.Bounds.TheVariants as bounds
use Rattle.ckc_blame_sound.specs.ckc_bounds_points.specs.declared.frame.Local.{Local}
use Rattle.ckc_blame_sound.specs.ckc_bounds_points.specs.Frames.{local_at}
use Rattle.ckc_blame_sound.specs.ckc_bounds_points.specs.Forms.{is_small, same_base}
use Rattle.ckc_blame_sound.specs.ckc_bounds_ranges.specs.Rows.{range_moved, range_of_bounds, range_widened, range_by, range_of_local}
use Rattle.ckc_blame_sound.specs.ckc_bounds_views.specs.Conditions.{is_upper_of, is_upper, upper_local, wider}
use Rattle.ckc_blame_sound.specs.ckc_bounds_statements.specs.Paths.{Here}
use Rattle.ckc_source.specs.declared.expr.Pointee.{Pointee}
use Rattle.ckc_source.specs.declared.program.Shape.{Shape}
use Rattle.ckc_source.specs.declared.outcome.Halt.TheVariants as halt
use Rattle.ckc_source.specs.Blocks.{Block, loaded}
use Rattle.ckc_source.specs.Eval.{Store, plain, ranged, reads_within, reads, end_address}
use Rattle.ckc_source.specs.Runs.{is_true}
use Rattle.ckc_source.specs.Words.{elements_behind}
use Rattle.ckc_build_values.specs.Kinds.{width_of, pointee_of, size_behind}
use Rattle.ckc_build_values.specs.Ends.{end_at}
use Rattle.ckc_blame_sound.specs.Settings.{Setting}
use Rattle.ckc_blame_sound.specs.Values.{number_of}
use Rattle.ckc_blame_sound.specs.Points.{IsReadable, IsBounded, AreBounded, HoldsAt}
use Rattle.ckc_blame_sound.specs.Typed.{Agrees}
use Rattle.ckc_blame_pointers.specs.Valuations.{Valuation, Fits, address_in, address_by}
use Rattle.ckc_blame_pointers.specs.Covered.{IsLocalForm, DeclareLocals, IsSoundStore}
use Rattle.ckc_blame_pointers.proofs.Numbers.{elements_twice}
use Rattle.ckc_blame_pointers.proofs.Reading.{end_is, range_local}
use Rattle.ckc_blame_pointers.proofs.Widening.{range_grows}

-- a longer range is read as a range is
longer_reads : (shapes : List Shape) (blocks : List Block) (to : Pointee) (n : ℕ) (low high more : ℤ) → IsOk (reads shapes blocks to n low high)
    → ((from upto : ℕ) → low ≡ pos from → high ≡ pos upto → is_true shapes blocks to n from upto ≡ true → (c : ℕ) × (more ≡ pos c) × (is_true shapes blocks to n from c ≡ true))
    → IsOk (reads shapes blocks to n low more)
longer_reads shapes blocks to n low high more ok next = by (n == 0) ok
  where
    test : (from upto : ℕ) → low ≡ pos from → high ≡ pos upto → (b : Bool) → is_true shapes blocks to n from upto ≡ b → IsOk (if b then ranged n from upto else Err halt.Stuck) → IsOk (reads_within shapes blocks to n low more)
    test from upto l h true e ok =
        let c = next from upto l h e in
        subst (λ x. IsOk (reads_within shapes blocks to n x more)) (sym l) (subst (λ y. IsOk (reads_within shapes blocks to n (pos from) y)) (sym c.1)
        (subst (λ b. IsOk (if b then ranged n from c.0 else Err halt.Stuck)) (sym c.2) refl))
    test from upto l h false e ok = absurd (cc)

    within : (x y : ℤ) → low ≡ x → high ≡ y → IsOk (reads_within shapes blocks to n x y) → IsOk (reads_within shapes blocks to n low more)
    within (pos from) (pos upto) l h ok = test from upto l h (is_true shapes blocks to n from upto) refl ok
    within (pos from) (negsuc upto) l h ok = absurd (cc)
    within (negsuc from) y l h ok = absurd (cc)

    by : (b : Bool) → IsOk (if b then plain 0 else reads_within shapes blocks to n low high) → IsOk (if b then plain 0 else reads_within shapes blocks to n low more)
    by true ok = ok
    by false ok = within low high refl refl ok

module _ (globals : Globals) (s : Setting) (agrees : Agrees globals s) (declares : DeclareLocals s) (store : Store) (entry : List ℕ) (next : ℕ) (ready : IsSoundStore s store next)
    (here : Here) (h : HoldsAt s store entry here) (v : Valuation) (fits : Fits s.frame store.locals v) where
  module _ (k : ℕ) (l : Local) (there : local_at s.frame k ≡ Some l) (seen : Contains here.seen k) (low high : Form) (known : l.bounds ≡ bounds.Known low high)
      (terminated : is_terminated_kind (kind_of l.ctype) ≡ true) (integer : is_integer (element_of l.ctype) ≡ true)
      (a m : ℕ) (at_high : pos a ≡ address_by s store.locals v (size_behind s.text.layout l.ctype) high) (got : loaded (width_of (element_of l.ctype)) a store.blocks ≡ Some m) (some : (m == 0) ≡ false) where
    abbrev size : ℕ
    size = size_behind s.text.layout l.ctype

    declared : range_of_local s.frame k [] ≡ range.Known low high
    declared = ap (λ o. range_by o false) there ∙ ap range_of_bounds known

    forms : IsLocalForm s low × IsLocalForm s high
    forms = range_local s declares k l there [] low high declared

    grows : (more : Form) → record high { add = high.add +ℤ pos 1 } ≡ more → IsReadable s store k l.ctype (range.Known low more)
    grows more is =
        longer_reads store.shapes store.blocks (pointee_of s.text.layout l.ctype) (slice_index store.locals k) _ (end_of high) (end_of more) before
        (λ from upto l_is h_is true_there. (a + size, end_more, further from upto h_is true_there))
      where
        end_of : Form → ℤ
        end_of f = end_address store.locals size (slice_index store.locals k) (end_at s.text s.variables k f)

        before : IsReadable s store k l.ctype (range.Known low high)
        before = subst (IsReadable s store k l.ctype) declared (subst (IsBounded s store [] k) there (h.bounded k seen))

        end_high : end_of high ≡ pos a
        end_high = end_is globals s agrees store.locals v fits k size high forms.1 ∙ sym at_high

        more_local : IsLocalForm s more
        more_local = subst (IsLocalForm s) is (record { based = forms.1.based; variable = forms.1.variable })

        end_more : end_of more ≡ pos (a + size)
        end_more =
            end_is globals s agrees store.locals v fits k size more more_local ∙ ap (address_by s store.locals v size) (sym is)
            ∙ ap (elements_behind (address_in s store.locals v high.base) size) (again (v.numbers high.var))
            ∙ sym (elements_twice (address_in s store.locals v high.base) size (number_of v.numbers high) (pos 1) a at_high) ∙ one
          where
            again : (x : ℤ) → x +ℤ (high.add +ℤ pos 1) ≡ (x +ℤ high.add) +ℤ pos 1
            again x = omega (arith, ints)

            one : elements_behind a size (pos 1) ≡ pos (a + size)
            one =
                let product : pos size *ℤ pos 1 ≡ pos (size * 1) = pos-*ℤ-pos size 1 in
                let same : size * 1 ≡ size = omega arith in
                let product_is : pos size *ℤ pos 1 ≡ pos size = product ∙ ap pos same in
                omega (arith, ints)

        further : (from upto : ℕ) → end_of high ≡ pos upto → is_true store.shapes store.blocks (pointee_of s.text.layout l.ctype) (slice_index store.locals k) from upto ≡ true
            → is_true store.shapes store.blocks (pointee_of s.text.layout l.ctype) (slice_index store.locals k) from (a + size) ≡ true
        further from upto e true_there =
            range_grows s.text store.shapes store.blocks next ready.sound (pointee_of s.text.layout l.ctype) (slice_index store.locals k) from a m terminated integer refl
            (subst (λ c. is_true store.shapes store.blocks (pointee_of s.text.layout l.ctype) (slice_index store.locals k) from c ≡ true) (same upto (sym e ∙ end_high)) true_there) got some
          where
            same : (c : ℕ) → pos c ≡ pos a → c ≡ a
            same c e = omega (arith, ints)

    grown : IsReadable s store k l.ctype (range_by (Some l) true)
    grown = subst (λ b. IsReadable s store k l.ctype (range_widened b)) (sym known) (by (is_small high.add && is_small (pos 1)))
      where
        by : (b : Bool) → IsReadable s store k l.ctype (range_moved low (if b then Some (record high { add = high.add +ℤ pos 1 }) else None))
        by true = grows (record high { add = high.add +ℤ pos 1 }) refl
        by false = tt

  -- one more local is widened
  widened_more : (k : ℕ) → ((l : Local) → local_at s.frame k ≡ Some l → Contains here.seen k → IsReadable s store k l.ctype (range_by (Some l) true)) → AreBounded s store (here.at.widened ++ k ∷ []) here.seen
  widened_more k grown j seen = by_local (local_at s.frame j) refl
    where
      by_local : (o : Option Local) → local_at s.frame j ≡ o → IsBounded s store (here.at.widened ++ k ∷ []) j o
      by_local None there = tt
      by_local (Some l) there =
          subst (λ o. IsReadable s store j l.ctype (range_by o (list_any (λ p. p == j) (here.at.widened ++ k ∷ [])))) (sym there)
          (subst (λ b. IsReadable s store j l.ctype (range_by (Some l) b)) (sym (list_any-append (λ p. p == j) here.at.widened (k ∷ [])))
          (by (k == j) refl (list_any (λ p. p == j) here.at.widened) refl))
        where
          was : IsReadable s store j l.ctype (range_by (Some l) (list_any (λ p. p == j) here.at.widened))
          was = subst (λ o. IsReadable s store j l.ctype (range_by o (list_any (λ p. p == j) here.at.widened))) there (subst (IsBounded s store here.at.widened j) there (h.widened j seen))

          now : k ≡ j → IsReadable s store j l.ctype (range_by (Some l) true)
          now e = subst (λ i. IsReadable s store i l.ctype (range_by (Some l) true)) e (grown l (ap (local_at s.frame) e ∙ there) (subst (Contains here.seen) (sym e) seen))

          by : (b : Bool) → (k == j) ≡ b → (c : Bool) → list_any (λ p. p == j) here.at.widened ≡ c → IsReadable s store j l.ctype (range_by (Some l) (c || (b || false)))
          by b e true w = subst (λ c. IsReadable s store j l.ctype (range_by (Some l) c)) w was
          by true e false w = now (eqb-true k j e)
          by false e false w = subst (λ c. IsReadable s store j l.ctype (range_by (Some l) c)) w was

  -- the form of an upper bound
  upper_is : (f : Form) (k : ℕ) → f.base ≡ Some (base.Local k) → (l : Local) → is_upper f (Some l) ≡ true
      → (is_terminated_kind (kind_of l.ctype) ≡ true) × ((low : Form) × (high : Form) × (l.bounds ≡ bounds.Known low high) × ((size : ℕ) → address_by s store.locals v size f ≡ address_by s store.locals v size high))
  upper_is f k based l e =
      let q = and_parts (is_terminated_kind (kind_of l.ctype)) (is_upper_of l.bounds f) e in
      (q.0, by l.bounds refl q.1)
    where
      by : (b : Bounds) → l.bounds ≡ b → is_upper_of b f ≡ true
          → (low : Form) × (high : Form) × (l.bounds ≡ bounds.Known low high) × ((size : ℕ) → address_by s store.locals v size f ≡ address_by s store.locals v size high)
      by bounds.Unknown is e = absurd (cc)
      by (bounds.Known low high) is e =
          let q = and_parts (same_base high.base f.base) ((high.var == f.var) && int_eq high.add f.add) e in
          let r = and_parts (high.var == f.var) (int_eq high.add f.add) q.1 in
          let base_is = same high.base (subst (λ b. same_base high.base b ≡ true) based q.0) in (
            low,
            high,
            is,
            λ size.
                ap (λ b. elements_behind (address_in s store.locals v b) size (number_of v.numbers f)) (based ∙ sym base_is)
                ∙ ap (λ x. elements_behind (address_in s store.locals v high.base) size (v.numbers x +ℤ f.add)) (sym (eqb-true high.var f.var r.0))
                ∙ ap (λ c. elements_behind (address_in s store.locals v high.base) size (v.numbers high.var +ℤ c)) (sym ((Decides-int_eq high.add f.add).0 r.1)),
          )
        where
          same : (b : Option Base) → same_base b (Some (base.Local k)) ≡ true → b ≡ Some (base.Local k)
          same (Some (base.Local j)) e = ap (λ i. Some (base.Local i)) (eqb-true j k e)
          same (Some (base.Array j)) e = absurd (cc)
          same (Some (base.Value j)) e = absurd (cc)
          same None e = absurd (cc)

  -- What is read at a place, where that is the upper bound of a local, widens it.
  pub place_widens : (f : Form) (a m : ℕ) (t : CType) → pos a ≡ address_by s store.locals v (size_behind s.text.layout t) f → loaded (width_of (element_of t)) a store.blocks ≡ Some m → (m == 0) ≡ false → is_integer (element_of t) ≡ true
      → ((k : ℕ) (l : Local) → f.base ≡ Some (base.Local k) → local_at s.frame k ≡ Some l → element_of l.ctype ≡ element_of t)
      → AreBounded s store (wider (upper_local s.frame f f.base) here.at).widened here.seen
  place_widens f a m t at_place got some integer of_local = by_base f.base refl
    where
      by_base : (b : Option Base) → f.base ≡ b → AreBounded s store (wider (upper_local s.frame f b) here.at).widened here.seen
      by_base (Some (base.Array k)) based = h.widened
      by_base (Some (base.Value k)) based = h.widened
      by_base None based = h.widened
      by_base (Some (base.Local k)) based = by (is_upper f (local_at s.frame k)) refl
        where
          grown_by : is_upper f (local_at s.frame k) ≡ true → (l : Local) → local_at s.frame k ≡ Some l → Contains here.seen k → IsReadable s store k l.ctype (range_by (Some l) true)
          grown_by upper l there seen =
              let u = upper_is f k based l (subst (λ o. is_upper f o ≡ true) there upper) in
              let same : element_of l.ctype ≡ element_of t = of_local k l based there in
              grown k l there seen u.1.0 u.1.1 u.1.2 u.0 (subst (λ x. is_integer x ≡ true) (sym same) integer) a m
              (subst (λ x. pos a ≡ address_by s store.locals v (size_of s.text.layout x) f) (sym same) at_place ∙ u.1.3 (size_behind s.text.layout l.ctype))
              (subst (λ x. loaded (width_of x) a store.blocks ≡ Some m) (sym same) got) some

          reached : (b : Bool) → is_upper f (local_at s.frame k) ≡ true → AreBounded s store (if b then record here.at { widened = here.at.widened ++ k ∷ [] } else here.at).widened here.seen
          reached true upper = widened_more k (grown_by upper)
          reached false upper = h.widened

          by : (b : Bool) → is_upper f (local_at s.frame k) ≡ b → AreBounded s store (wider (if b then Some k else None) here.at).widened here.seen
          by true upper = reached here.at.reached upper
          by false upper = h.widened
