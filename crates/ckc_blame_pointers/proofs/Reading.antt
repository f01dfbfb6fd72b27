-- A local pointer is read within its bounds, between the addresses that these stand for.
use Rattle.std.proofs.Common.{◌≡◌, ◌⊎◌, inl, inr, refl, sym, ap, subst, ◌∙◌, ℕ, ◌+◌, ◌-◌, Bool, true, false, List, arith}
use Rattle.std.specs.Prelude.{◌==◌, ◌&&◌, if◌then◌else◌, slice_index, ℤ, pos, negsuc, ◌+ℤ◌, Option, None, Some, Result, Ok, Err, IsOk}
use Rattle.std.specs.List.{Contains, list_any}
use Rattle.std.proofs.lemmas.Bool.{eqb-true}
use Rattle.std.proofs.lemmas.Bool.Decides.{nat_tests}
use Rattle.std.proofs.lemmas.Int.{ints}
use Rattle.ckc_linear.specs.declared.forms.Base.{Base}
use Rattle.ckc_linear.specs.declared.forms.Base.TheVariants as base
use Rattle.ckc_linear.specs.declared.forms.Form.{Form}
use Rattle.ckc_syntax.specs.declared.tree.Name.TheVariants as name
use Rattle.ckc_typed.specs.declared.environment.Globals.{Globals}
use Rattle.ckc_typed.specs.declared.typed.Range.TheVariants as range
use Rattle.ckc_typed.specs.Environment.{object_named, or_variable}
use Rattle.ckc_blame_sound.specs.ckc_bounds_points.specs.declared.frame.Bounds.{Bounds}
use Rattle.ckc_blame_sound.specs.ckc_bounds_points.specs.declared.frame.Bounds.TheVariants as bounds
use Rattle.ckc_blame_sound.specs.ckc_bounds_points.specs.declared.frame.Local.{Local}
use Rattle.ckc_blame_sound.specs.ckc_bounds_points.specs.Frames.{local_at}
use Rattle.ckc_blame_sound.specs.ckc_bounds_points.specs.Forms.{is_small}
use Rattle.ckc_blame_sound.specs.ckc_bounds_ranges.specs.Rows.{range_moved, range_of_bounds, range_widened, range_by, range_of_local}
use Rattle.ckc_blame_sound.specs.ckc_bounds_statements.specs.Paths.{Here}
use Rattle.ckc_source.specs.declared.expr.Base.TheVariants.{Own, Local as OtherLocal}
use Rattle.ckc_source.specs.declared.expr.Pointee.{Pointee}
use Rattle.ckc_source.specs.declared.program.Shape.{Shape}
use Rattle.ckc_source.specs.declared.outcome.Halt.{Halt}
use Rattle.ckc_source.specs.declared.outcome.Halt.TheVariants as halt
use Rattle.ckc_source.specs.declared.outcome.Range.TheVariants.{Within}
use Rattle.ckc_source.specs.declared.outcome.Value.{Value}
use Rattle.ckc_source.specs.Blocks.{Block}
use Rattle.ckc_source.specs.Code.{Limited}
use Rattle.ckc_source.specs.Eval.{Store, plain, ranged, reads_within, reads, amount, base_address, end_address, evaluated}
use Rattle.ckc_source.specs.Runs.{is_true}
use Rattle.ckc_source.specs.Words.{exact, elements_behind}
use Rattle.ckc_build_values.specs.Kinds.{integer_of, pointee_of, size_behind}
use Rattle.ckc_build_values.specs.Ends.{integer_in_variable, local_variable, base_at, variable_at, end_at, limits_at}
use Rattle.ckc_blame_sound.specs.Settings.{Setting}
use Rattle.ckc_blame_sound.specs.Values.{value, number_of}
use Rattle.ckc_blame_sound.specs.Points.{IsReadable, IsBounded, HoldsAt}
use Rattle.ckc_blame_sound.proofs.Flow.{variable_value, integer_value}
use Rattle.ckc_blame_sound.specs.Typed.{Agrees}
use Rattle.ckc_blame_pointers.specs.Valuations.{Valuation, Fits, address_in, address_by}
use Rattle.ckc_blame_pointers.specs.Covered.{IsIntegerLocal, IsLocalVariable, IsLocalBase, IsLocalForm, AreLocalBounds, DeclareLocals}
use Rattle.ckc_blame_pointers.specs.Meant.{IsNotStuck}
use Rattle.ckc_blame_pointers.specs.Owed.{IfGives}
use Rattle.ckc_blame_pointers.proofs.Given.{ok_comes}

-- ---- what a read gives

module _ (shapes : List Shape) (blocks : List Block) (to : Pointee) (n : ℕ) where
  pub record Ranged (low high : ℤ) (v : Value) : Type 0 where
    pub from : ℕ
    pub upto : ℕ
    pub range : v.range ≡ Within from upto
    pub low_is : pos from ≡ low
    pub high_is : pos upto ≡ high
    pub true_there : is_true shapes blocks to n from upto ≡ true

  pub record Reads (low high : ℤ) (v : Value) : Type 0 where
    pub number : v.number ≡ n
    pub ranged_there : (n ≡ 0) ⊎ Ranged low high v

  within_gives : (low high : ℤ) → IfGives (Reads low high) (reads_within shapes blocks to n low high)
  within_gives (pos l) (pos h) = test (is_true shapes blocks to n l h) refl
    where
      test : (b : Bool) → is_true shapes blocks to n l h ≡ b → IfGives (Reads (pos l) (pos h)) (if b then ranged n l h else Err halt.Stuck)
      test true e = record { number = refl; ranged_there = inr (record { from = l; upto = h; range = refl; low_is = refl; high_is = refl; true_there = e }) }
      test false e = tt
  within_gives (pos l) (negsuc h) = tt
  within_gives (negsuc l) high = tt

  -- what it gives, if it is not stuck
  pub read_gives : (low high : ℤ) → IfGives (Reads low high) (reads shapes blocks to n low high)
  read_gives low high = by (n == 0) refl
    where
      by : (b : Bool) → (n == 0) ≡ b → IfGives (Reads low high) (if b then plain 0 else reads_within shapes blocks to n low high)
      by true e = record { number = sym (eqb-true n 0 e); ranged_there = inl (eqb-true n 0 e) }
      by false e = within_gives low high

  pub reads_gives : (low high : ℤ) → IsOk (reads shapes blocks to n low high) → IsNotStuck (Reads low high) (reads shapes blocks to n low high)
  reads_gives low high ok = ok_comes (Reads low high) (reads shapes blocks to n low high) ok (read_gives low high)

pub ok_gives : (P : Value → Type 0) (x : Result Value Halt) → IsOk x → IsNotStuck P x → (v : Value) × P v
ok_gives P (Ok v) ok h = (v, h)
ok_gives P (Err e) ok h = absurd (cc)

-- ---- the ends of bounds

module _ (globals : Globals) (s : Setting) (agrees : Agrees globals s) (locals : List ℕ) (v : Valuation) (fits : Fits s.frame locals v) where
  base_is : (k : ℕ) (b : Option Base) → IsLocalBase b → base_address locals (slice_index locals k) (base_at s.text k b) ≡ address_in s locals v b
  base_is k (Some (base.Local j)) h = by (j == k) refl
    where
      by : (own : Bool) → (j == k) ≡ own → base_address locals (slice_index locals k) (if own then Own else OtherLocal j) ≡ slice_index locals j
      by true e = ap (slice_index locals) (sym (eqb-true j k e))
      by false e = refl
  base_is k (Some (base.Array j)) h = refl
  base_is k (Some (base.Value j)) h = absurd h
  base_is k None h = absurd h

  named_is : (j : ℕ) (il : IsIntegerLocal s j) → amount locals (variable_at s.variables (j + 1)) (pos 0) ≡ value s.frame locals (j + 1)
  named_is j il =
      ap (λ o. amount locals o (pos 0)) there ∙ zero_more _ ∙ ap (λ o. exact (integer_in_variable o) (slice_index locals j)) il.named
      ∙ ap (λ t. exact (integer_of t) (slice_index locals j)) (sym same) ∙ sym (variable_value s.frame locals j il.local il.there ∙ integer_value il.local (slice_index locals j) il.integer)
    where
      different : ((j + 1) == 0) ≡ false
      different = grind (arith, nat_tests)

      back : j + 1 - 1 ≡ j
      back = omega arith

      there : variable_at s.variables (j + 1) ≡ Some (local_variable s.variables j)
      there = ap (λ b. if b then None else Some (local_variable s.variables (j + 1 - 1))) different ∙ ap (λ i. Some (local_variable s.variables i)) back

      same : il.local.ctype ≡ il.variable.ctype
      same = agrees.locals j il.local il.variable.ctype il.there (ap (λ o. or_variable o (object_named globals (name.Local j))) il.named)

      zero_more : (z : ℤ) → z +ℤ pos 0 ≡ z
      zero_more z = omega (arith, ints)

  amount_is : (f : Form) → IsLocalVariable s f.var → amount locals (variable_at s.variables f.var) f.add ≡ number_of v.numbers f
  amount_is f (inl e) =
      ap (λ x. amount locals (variable_at s.variables x) f.add) e ∙ zero (fits 0 (inl refl)) ∙ ap (λ x. v.numbers x +ℤ f.add) (sym e)
    where
      zero : v.numbers 0 ≡ pos 0 → f.add ≡ v.numbers 0 +ℤ f.add
      zero e = omega (arith, ints)
  amount_is f (inr (j, e, il)) =
      ap (λ x. amount locals (variable_at s.variables x) f.add) e ∙ split (variable_at s.variables (j + 1)) ∙ ap (λ z. z +ℤ f.add) (named_is j il ∙ sym (fits (j + 1) (inr (j, il.local, refl, il.there, il.integer))))
      ∙ ap (λ x. v.numbers x +ℤ f.add) (sym e)
    where
      split : (o : Option _) → amount locals o f.add ≡ amount locals o (pos 0) +ℤ f.add
      split None = omega (arith, ints)
      split (Some x) = more (exact x.form (slice_index locals x.local))
        where
          more : (z : ℤ) → z +ℤ f.add ≡ (z +ℤ pos 0) +ℤ f.add
          more z = omega (arith, ints)

  pub end_is : (k size : ℕ) (f : Form) → IsLocalForm s f
      → end_address locals size (slice_index locals k) (end_at s.text s.variables k f) ≡ address_by s locals v size f
  end_is k size f h =
      ap (λ a. elements_behind a size (amount locals (variable_at s.variables f.var) f.add)) (base_is k f.base h.based)
      ∙ ap (λ z. elements_behind (address_in s locals v f.base) size z) (amount_is f h.variable)

-- ---- the bounds of a local

module _ (s : Setting) (declares : DeclareLocals s) where
  one_wider : (b : Bounds) → AreLocalBounds s b → (low high : Form) → range_widened b ≡ range.Known low high → IsLocalForm s low × IsLocalForm s high
  one_wider bounds.Unknown h low high e = absurd (cc)
  one_wider (bounds.Known l u) h low high e = by (is_small u.add && is_small (pos 1)) e
    where
      by : (b : Bool) → range_moved l (if b then Some (record u { add = u.add +ℤ pos 1 }) else None) ≡ range.Known low high → IsLocalForm s low × IsLocalForm s high
      by true e =
          let p : l ≡ low = cc in
          let q : record u { add = u.add +ℤ pos 1 } ≡ high = cc in
          (subst (IsLocalForm s) p h.0, subst (IsLocalForm s) q (record { based = h.1.based; variable = h.1.variable }))
      by false e = absurd (cc)

  as_declared : (b : Bounds) → AreLocalBounds s b → (low high : Form) → range_of_bounds b ≡ range.Known low high → IsLocalForm s low × IsLocalForm s high
  as_declared bounds.Unknown h low high e = absurd (cc)
  as_declared (bounds.Known l u) h low high e =
      let p : l ≡ low = cc in
      let q : u ≡ high = cc in
      (subst (IsLocalForm s) p h.0, subst (IsLocalForm s) q h.1)

  pub range_local : (k : ℕ) (l : Local) → local_at s.frame k ≡ Some l → (widened : List ℕ) (low high : Form) → range_of_local s.frame k widened ≡ range.Known low high
      → IsLocalForm s low × IsLocalForm s high
  range_local k l there widened low high e = by (list_any (λ p. p == k) widened) (sym (ap (λ o. range_by o (list_any (λ p. p == k) widened)) there) ∙ e)
    where
      by : (b : Bool) → range_by (Some l) b ≡ range.Known low high → IsLocalForm s low × IsLocalForm s high
      by true e = one_wider l.bounds (declares k l there) low high e
      by false e = as_declared l.bounds (declares k l there) low high e

-- a local pointer in scope is read
pub local_reads : (s : Setting) (store : Store) (entry : List ℕ) (here : Here) → HoldsAt s store entry here → (k : ℕ) (l : Local) → local_at s.frame k ≡ Some l
    → Contains here.seen k → (low high : Form) → range_of_local s.frame k here.at.widened ≡ range.Known low high
    → IsNotStuck (Reads store.shapes store.blocks (pointee_of s.text.layout l.ctype) (slice_index store.locals k)
    (end_address store.locals (size_behind s.text.layout l.ctype) (slice_index store.locals k) (end_at s.text s.variables k low))
    (end_address store.locals (size_behind s.text.layout l.ctype) (slice_index store.locals k) (end_at s.text s.variables k high)))
    (evaluated store (Limited k (limits_at s.text s.variables l.ctype k low high)))
local_reads s store entry here h k l there seen low high e =
    reads_gives store.shapes store.blocks (pointee_of s.text.layout l.ctype) (slice_index store.locals k) _ _ readable
  where
    readable : IsReadable s store k l.ctype (range.Known low high)
    readable = subst (IsReadable s store k l.ctype) e (subst (IsBounded s store here.at.widened k) there (h.widened k seen))
