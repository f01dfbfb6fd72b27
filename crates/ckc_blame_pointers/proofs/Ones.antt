-- A local that is a `_Ptr` points to one element.
use Rattle.std.proofs.Common.{◌≡◌, ◌⊎◌, inl, inr, refl, ap, subst, ◌∙◌, ℕ, ◌+◌, true, false, List, [], arith}
use Rattle.std.specs.Prelude.{◌*◌, slice_index, ℤ, pos, ◌+ℤ◌, ◌*ℤ◌, Some}
use Rattle.std.specs.List.{Contains}
use Rattle.std.proofs.Math.IntN.{pos-*ℤ-pos}
use Rattle.std.proofs.lemmas.Int.{ints}
use Rattle.ckc_types.specs.declared.types.Kind.TheVariants as kind
use Rattle.ckc_linear.specs.declared.forms.Base.TheVariants as base
use Rattle.ckc_linear.specs.declared.forms.Form.{Form}
use Rattle.ckc_typed.specs.declared.environment.Globals.{Globals}
use Rattle.ckc_typed.specs.declared.typed.Range.TheVariants as range
use Rattle.ckc_typed.specs.Types.{kind_of}
use Rattle.ckc_blame_sound.specs.ckc_bounds_points.specs.declared.frame.Local.{Local}
use Rattle.ckc_blame_sound.specs.ckc_bounds_points.specs.Frames.{local_at}
use Rattle.ckc_blame_sound.specs.ckc_bounds_points.specs.Forms.{base_form}
use Rattle.ckc_blame_sound.specs.ckc_bounds_ranges.specs.Rows.{range_of_bounds, range_by, range_of_local}
use Rattle.ckc_blame_sound.specs.ckc_bounds_statements.specs.Paths.{Here}
use Rattle.ckc_source.specs.declared.outcome.Value.{Value}
use Rattle.ckc_source.specs.Eval.{Store, end_address}
use Rattle.ckc_source.specs.Runs.{is_true}
use Rattle.ckc_source.specs.Words.{elements_behind}
use Rattle.ckc_build_values.specs.Ends.{end_at}
use Rattle.ckc_build_values.specs.Kinds.{pointee_of, size_behind}
use Rattle.ckc_blame_sound.specs.Settings.{Setting}
use Rattle.ckc_blame_sound.specs.Values.{value}
use Rattle.ckc_blame_sound.specs.Points.{IsReadable, IsBounded, HoldsAt}
use Rattle.ckc_blame_sound.specs.Typed.{Agrees}
use Rattle.ckc_blame_pointers.specs.Valuations.{Valuation}
use Rattle.ckc_blame_pointers.specs.Covered.{IsLocalForm, DeclareLocals, DeclareOnes}
use Rattle.ckc_blame_pointers.proofs.Reading.{Ranged, Reads, reads_gives, ok_gives, end_is, range_local}
use Rattle.ckc_blame_pointers.proofs.Numbers.{same_number}

no_elements : (n size : ℕ) → elements_behind n size (pos 0 +ℤ pos 0) ≡ pos n
no_elements n size =
    let product : pos size *ℤ pos 0 ≡ pos (size * 0) = pos-*ℤ-pos size 0 in
    let none : size * 0 ≡ 0 = omega arith in
    let product_is : pos size *ℤ pos 0 ≡ pos 0 = product ∙ ap pos none in
    omega (arith, ints)

one_element : (n size : ℕ) → elements_behind n size (pos 0 +ℤ pos 1) ≡ pos (n + size)
one_element n size =
    let product : pos size *ℤ pos 1 ≡ pos (size * 1) = pos-*ℤ-pos size 1 in
    let same : size * 1 ≡ size = omega arith in
    let product_is : pos size *ℤ pos 1 ≡ pos size = product ∙ ap pos same in
    omega (arith, ints)

pub local_one : (globals : Globals) (s : Setting) → Agrees globals s → DeclareLocals s → DeclareOnes s → (store : Store) (entry : List ℕ) (here : Here) → HoldsAt s store entry here
    → (k : ℕ) (l : Local) → local_at s.frame k ≡ Some l → Contains here.seen k → kind_of l.ctype ≡ Some kind.One
    → (slice_index store.locals k ≡ 0) ⊎ (is_true store.shapes store.blocks (pointee_of s.text.layout l.ctype) (slice_index store.locals k) (slice_index store.locals k) (slice_index store.locals k + size_behind s.text.layout l.ctype) ≡ true)
local_one globals s agrees declares ones store entry here h k l there seen one = by read.1.ranged_there
  where
    low : Form
    low = base_form (base.Local k)

    high : Form
    high = record { base = Some (base.Local k); var = 0; add = pos 1 }

    size : ℕ
    size = size_behind s.text.layout l.ctype

    n : ℕ
    n = slice_index store.locals k

    range_is : range_of_local s.frame k [] ≡ range.Known low high
    range_is = ap (λ o. range_by o false) there ∙ ap range_of_bounds (ones k l there one)

    forms : IsLocalForm s low × IsLocalForm s high
    forms = range_local s declares k l there [] low high range_is

    readable : IsReadable s store k l.ctype (range.Known low high)
    readable = subst (IsReadable s store k l.ctype) range_is (subst (IsBounded s store [] k) there (h.bounded k seen))

    end_of : Form → ℤ
    end_of f = end_address store.locals size n (end_at s.text s.variables k f)

    read : (v : Value) × Reads store.shapes store.blocks (pointee_of s.text.layout l.ctype) n (end_of low) (end_of high) v
    read = ok_gives (Reads store.shapes store.blocks (pointee_of s.text.layout l.ctype) n (end_of low) (end_of high)) _ readable
        (reads_gives store.shapes store.blocks (pointee_of s.text.layout l.ctype) n (end_of low) (end_of high) readable)

    v : Valuation
    v = record { numbers = value s.frame store.locals; addresses = λ n. 0 }

    low_is : end_of low ≡ pos n
    low_is = end_is globals s agrees store.locals v (λ x known. refl) k size low forms.0 ∙ no_elements n size

    high_is : end_of high ≡ pos (n + size)
    high_is = end_is globals s agrees store.locals v (λ x known. refl) k size high forms.1 ∙ one_element n size

    by : (n ≡ 0) ⊎ Ranged store.shapes store.blocks (pointee_of s.text.layout l.ctype) n (end_of low) (end_of high) read.0
        → (n ≡ 0) ⊎ (is_true store.shapes store.blocks (pointee_of s.text.layout l.ctype) n n (n + size) ≡ true)
    by (inl z) = inl z
    by (inr g) =
        let from : g.from ≡ n = same_number g.from n (g.low_is ∙ low_is) in
        let upto : g.upto ≡ n + size = same_number g.upto (n + size) (g.high_is ∙ high_is) in
        inr (subst (λ a. is_true store.shapes store.blocks (pointee_of s.text.layout l.ctype) n a (n + size) ≡ true) from
        (subst (λ b. is_true store.shapes store.blocks (pointee_of s.text.layout l.ctype) n g.from b ≡ true) upto g.true_there))
