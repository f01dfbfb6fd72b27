-- The operand of a bounds cast that is tested.
use Rattle.std.proofs.Common.{◌≡◌, ◌⊎◌, ⊎_elim, inl, inr, refl, sym, ap, ◌∙◌, ℕ, true, false, List}
use Rattle.std.specs.Prelude.{◌+◌, ◌<◌, ◌^◌, ◌&&◌, ◌||◌, length, Option, None, Some, Ok}
use Rattle.std.proofs.lemmas.Bool.{and_parts}
use Rattle.ckc_base.specs.declared.arithmetic.Mode.{Mode}
use Rattle.ckc_base.specs.declared.arithmetic.Mode.TheVariants.{Checked, Unchecked}
use Rattle.ckc_base.specs.declared.places.Pos.{Pos}
use Rattle.ckc_types.specs.declared.types.Kind.{Kind}
use Rattle.ckc_types.specs.declared.types.Kind.TheVariants as kind
use Rattle.ckc_types.specs.declared.types.CType.{CType}
use Rattle.ckc_syntax.specs.declared.tree.Name.{Name}
use Rattle.ckc_syntax.specs.declared.tree.Node.{Node-F, out-Node}
use Rattle.ckc_syntax.specs.declared.tree.Expr.{every_here-Expr}
use Rattle.ckc_typed.specs.declared.environment.Globals.{Globals}
use Rattle.ckc_typed.specs.declared.typed.Note.{Note}
use Rattle.ckc_typed.specs.Conversions.{is_null, is_string, is_allocation, is_allocation_form, is_terminated_kind, takes_string, takes_allocation, takes_pointer, pointer_takes, kinds_allow, kind_is_tested, is_tested}
use Rattle.ckc_typed.specs.Expressions.{string_type}
use Rattle.ckc_typed.specs.Operands.{same_element}
use Rattle.ckc_typed.specs.Statics.{strings_of_expr}
use Rattle.ckc_typed.specs.Trees.{NotedExpr, NotedLayer}
use Rattle.ckc_typed.specs.Types.{is_char, is_pointer, is_scalar, kind_of, element_of}
use Rattle.ckc_typed_welltyped.specs.Expressions.{AnyLimits, AnyNode}
use Rattle.ckc_blame_sound.specs.ckc_bounds_points.specs.Codes.{unknown_bounds}
use Rattle.ckc_blame_sound.specs.ckc_bounds_views.specs.Judged.{is_counted_kind, is_missing, fault_if, access_fault}
use Rattle.ckc_blame_sound.specs.ckc_bounds_views.specs.Views.{view}
use Rattle.ckc_blame_sound.specs.ckc_bounds_statements.specs.Paths.{Here}
use Rattle.ckc_source.specs.declared.outcome.Value.{Value}
use Rattle.ckc_source.specs.Eval.{Store, evaluated}
use Rattle.ckc_build_values.specs.Expressions.{part_of}
use Rattle.ckc_blame_sound.specs.Settings.{Setting, AreStrings}
use Rattle.ckc_blame_sound.specs.Bodies.{AreFresh}
use Rattle.ckc_blame_sound.specs.Points.{HoldsAt}
use Rattle.ckc_blame_sound.specs.Typed.{IsRow, HasRow, IsTyped, Agrees}
use Rattle.ckc_blame_pointers.specs.Covered.{DeclareOnes, IsSoundStore, IsCoveredNode, IsUncheckedNode, IsCoveredExpr, AreCovered}
use Rattle.ckc_blame_pointers.proofs.Binary.{ExprClaims}
use Rattle.ckc_blame_pointers.proofs.Casts.{IsTestable, tested_looser, null_testable, known_testable}
use Rattle.ckc_blame_pointers.proofs.Elements.{no_fault}
use Rattle.ckc_blame_pointers.proofs.Inside.{null_range}
use Rattle.ckc_blame_pointers.proofs.OneRanges.{one_known}
use Rattle.ckc_blame_pointers.proofs.Scalars.{pointer_scalar, null_scalar, same_scalar}
use Rattle.ckc_blame_pointers.proofs.Strings.{string_row, checked_string, raw_string}
use Rattle.ckc_blame_pointers.proofs.Trusted.{string_operand}
use Rattle.ckc_blame_pointers.proofs.Truths.{either}

pub tested_pointer : (t : CType) (e : NotedExpr) → is_tested t e ≡ true → is_pointer t ≡ true
tested_pointer t e tested = (and_parts (is_pointer t) (pointer_takes kind_is_tested t e) tested).0

module _ (m : Mode) (globals : Globals) (s : Setting) (store : Store) (here : Here) (t : CType) (e : NotedExpr) (typed : IsTyped globals s e) (covered : AreCovered m s store here.seen e) (tested : is_tested t e ≡ true) where
  no_allocation : (x : NotedLayer) (t : CType) → IsCoveredNode s store here.seen t x ⊎ ((m ≡ Unchecked) × IsUncheckedNode s store t x) → is_allocation_form x ≡ false
  no_allocation (Node-F.Calloc w e u) t (inl c) = absurd c
  no_allocation (Node-F.Calloc w e u) t (inr c) = absurd c.1
  no_allocation x t c = refl

  covered_here : IsCoveredExpr m s store here.seen (record { node = e.node; pos = e.pos; note = e.note })
  covered_here = every_here-Expr Name Note AnyLimits AnyNode (IsCoveredExpr m s store here.seen) e covered

  -- A string literal has the type of literals in a mode.
  string_scalar : takes_string t e ≡ true → is_scalar e.note.ctype ≡ true
  string_scalar h =
      let p = (and_parts (is_string e) (is_terminated_kind (kind_of t) && is_char (element_of t)) h).0 in
      let row : IsRow globals s (out-Node Name Note e.node) e.note = every_here-Expr Name Note AnyLimits AnyNode (HasRow globals s) e typed in
      by row.mode (string_row globals s.variables row.mode (out-Node Name Note e.node) e.note.ctype p row.row)
    where
      by : (mode : Mode) → e.note.ctype ≡ string_type mode → is_scalar e.note.ctype ≡ true
      by Checked is = pointer_scalar e.note.ctype (ap is_pointer is ∙ checked_string.pointer)
      by Unchecked is = pointer_scalar e.note.ctype (raw_string e.note.ctype is).pointer

  not_new : takes_allocation t e ≡ true → ⊥
  not_new h =
      let p = (and_parts (is_allocation e) (same_element t e.note.ctype) h).0 in
      let other = no_allocation (out-Node Name Note e.node) e.note.ctype covered_here.node in absurd (cc)

  -- It is null, a string literal, or a pointer to the same type.
  operand_takes : (is_null e ≡ true) ⊎ ((takes_string t e ≡ true) ⊎ (takes_pointer kind_is_tested t e ≡ true))
  operand_takes =
      ⊎_elim (λ null. inl null) (λ rest. inr (⊎_elim (λ string. inl string) (λ rest. ⊎_elim (λ new. absurd (not_new new)) (λ p. inr p) (either (takes_allocation t e) (takes_pointer kind_is_tested t e) rest))
      (either (takes_string t e) (takes_allocation t e || takes_pointer kind_is_tested t e) rest)))
      (either (is_null e) (takes_string t e || (takes_allocation t e || takes_pointer kind_is_tested t e)) (and_parts (is_pointer t) (pointer_takes kind_is_tested t e) tested).1)

  takes_both : takes_pointer kind_is_tested t e ≡ true → (same_element t e.note.ctype ≡ true) × (kinds_allow kind_is_tested (kind_of e.note.ctype) (kind_of t) ≡ true)
  takes_both p = and_parts (same_element t e.note.ctype) (kinds_allow kind_is_tested (kind_of e.note.ctype) (kind_of t)) p

  pub operand_scalar : is_scalar e.note.ctype ≡ true
  operand_scalar = ⊎_elim (λ null. null_scalar globals s e typed null) (⊎_elim string_scalar (λ p. (same_scalar t e.note.ctype (takes_both p).0).1)) operand_takes

  -- It is null, or its range is known.
  operand_known : (agrees : Agrees globals s) → (kind_of e.note.ctype ≡ Some kind.One → DeclareOnes s) → (place : Pos) (fresh : ℕ) → ((e : NotedExpr) → (view s.frame e).ctype ≡ e.note.ctype)
      → access_fault (view s.frame e) place fresh here.at ≡ None → takes_pointer kind_is_tested t e ≡ true → (is_null e ≡ true) ⊎ (is_missing ((view s.frame e).range 0 fresh here.at) ≡ false)
  operand_known agrees ones place fresh viewed fault p = by (kind_of e.note.ctype) (kind_of t) refl (takes_both p).1
    where
      Known : Type 0
      Known = (is_null e ≡ true) ⊎ (is_missing ((view s.frame e).range 0 fresh here.at) ≡ false)

      several : is_counted_kind (kind_of e.note.ctype) ≡ true → Known
      several counted =
          inr (no_fault (is_missing ((view s.frame e).range 0 fresh here.at)) place (sym (ap (λ b. fault_if (b && is_missing ((view s.frame e).range 0 fresh here.at)) unknown_bounds place) (ap is_counted_kind (ap kind_of (viewed e)) ∙ counted)) ∙ fault))

      by : (j k : Option Kind) → kind_of e.note.ctype ≡ j → kinds_allow kind_is_tested j k ≡ true → Known
      by (Some kind.One) k is allowed = one_known m globals s agrees (ones is) store here 0 fresh viewed e typed covered is
      by (Some kind.Arr) k is allowed = several (ap is_counted_kind is)
      by (Some kind.Nt) k is allowed = several (ap is_counted_kind is)
      by (Some kind.Raw) (Some k) is allowed = absurd (cc)
      by (Some kind.Raw) None is allowed = absurd (cc)
      by None k is allowed = absurd (cc)

  pub operand_testable : (agrees : Agrees globals s) (entry : List ℕ) (next : ℕ) (ready : IsSoundStore s store next) (h : HoldsAt s store entry here) → (kind_of e.note.ctype ≡ Some kind.One → DeclareOnes s) → (place : Pos) (fresh : ℕ)
      (little : fresh + length ((view s.frame e).fresh here.at) < 2 ^ 32) (are : AreFresh s.frame fresh) → ((e : NotedExpr) → (view s.frame e).ctype ≡ e.note.ctype) → access_fault (view s.frame e) place fresh here.at ≡ None
      → (k : ℕ) → AreStrings s k (strings_of_expr e) → (x : Value) → evaluated store ((part_of e).value s.text s.variables k) ≡ Ok x → ExprClaims s store entry here e x → IsTestable s store t x
  operand_testable agrees entry next ready h ones place fresh little are viewed fault k strings x is c =
      ⊎_elim (λ null. is_null_there null)
      (⊎_elim (λ string. string_operand s store entry next ready here h t e (tested_pointer t e tested) k x string strings is)
      (λ p. ⊎_elim (λ null. is_null_there null)
      (λ known. known_testable s store entry next ready here h e fresh covered_here.few little are t x c (tested_looser e.note.ctype t (takes_both p).0 (takes_both p).1) known)
      (operand_known agrees ones place fresh viewed fault p))) operand_takes
    where
      is_null_there : is_null e ≡ true → IsTestable s store t x
      is_null_there null = null_testable s store entry next ready here h e fresh covered_here.few little are t x c (null_range s.frame e 0 fresh here.at null)
