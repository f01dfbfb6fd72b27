-- Forms are exact, conditions tell, and so the facts of the next point are true.
use Rattle.std.proofs.Common.{◌≡◌, inl, refl, sym, ap, subst, ◌∙◌, ℕ, Bool, true, false, ℤ, arith}
use Rattle.std.specs.Prelude.{◌==◌, ◌<◌, ◌^◌, ◌%◌, not, if◌then◌else◌, length, slice_set, Option, None, Some, IfSome, Ok}
use Rattle.ckc_base.specs.declared.arithmetic.Width.TheVariants.{Byte, Word}
use Rattle.ckc_base.specs.Memory.{kept_part}
use Rattle.ckc_types.specs.declared.types.CType.{CType}
use Rattle.ckc_linear.specs.declared.forms.Form.{Form}
use Rattle.ckc_typed.specs.declared.environment.Globals.{Globals}
use Rattle.ckc_typed.specs.Trees.{NotedExpr}
use Rattle.ckc_typed.specs.Types.{is_integer, is_char}
use Rattle.ckc_bounds.specs.ckc_bounds_points.specs.declared.frame.Local.{Local}
use Rattle.ckc_bounds.specs.ckc_bounds_points.specs.Shown.{Known}
use Rattle.ckc_bounds.specs.ckc_bounds_points.specs.Frames.{local_at}
use Rattle.ckc_bounds.specs.ckc_bounds_points.specs.Flow.{State, assigned}
use Rattle.ckc_bounds.specs.ckc_bounds_points.specs.Forms.{in_type}
use Rattle.ckc_bounds.specs.ckc_bounds_views.specs.Views.{view}
use Rattle.ckc_bounds.specs.ckc_bounds_statements.specs.Paths.{Here, maybe_side, side_of, value_form}
use Rattle.ckc_source.specs.declared.outcome.Value.{Value}
use Rattle.ckc_source.specs.Code.{Expr}
use Rattle.ckc_source.specs.Eval.{Store, evaluated}
use Rattle.ckc_source.specs.Words.{exact}
use Rattle.ckc_build_elaborate.specs.Steps.{condition}
use Rattle.ckc_build_values.specs.Kinds.{width_of, integer_of}
use Rattle.ckc_build_values.specs.Expressions.{expr_elaborated}
use Rattle.ckc_blame_sound.specs.Settings.{Setting}
use Rattle.ckc_blame_sound.specs.Values.{value, value_in, number_of, AreTrue, HoldWords, IsWordOf, IsNumberOf}
use Rattle.ckc_blame_sound.specs.Variables.{HaveValues, AreTrueBy}
use Rattle.ckc_blame_sound.proofs.Flow.{facts_assigned_hold, integer_value}
use Rattle.ckc_blame_sound.proofs.Typed.{number_in_type}
use Rattle.ckc_blame_sound.specs.Typed.{IsTyped, IsTypedIf, Agrees}
use Rattle.ckc_blame_sound.specs.Exact.{IsExactBy, IsExact}
use Rattle.ckc_blame_sound.proofs.Claims.{Comes, plain_is}
use Rattle.ckc_blame_sound.proofs.Types.{wide_word, byte_word}
use Rattle.ckc_blame_sound.proofs.Sums.{byte_exact, word_exact}
use Rattle.ckc_blame_sound.proofs.Exprs.{expr_holds}

module _ (globals : Globals) (s : Setting) (agrees : Agrees globals s) where
  module _ (e : NotedExpr) (literals : ℕ) (store : Store) (v : Value) (typed : IsTyped globals s e) (words : HoldWords s.frame store.locals)
      (is : evaluated store (expr_elaborated s.text s.variables literals e) ≡ Ok v) where
    -- by numbers of variables that give the locals theirs
    module _ (numbers : ℕ → ℤ) (fits : HaveValues s.frame store.locals numbers) where
      abbrev come : (facts : Known) → AreTrueBy numbers facts → Comes s.frame facts (expr_elaborated s.text s.variables literals e)
      come facts all = record { store = store; words = words; numbers = numbers; fits = fits; facts_hold = all; value = v; is = is }

      pub exact_by : (facts : Known) → AreTrueBy numbers facts → (f : Form) → (view s.frame e).form facts ≡ Some f → IsExactBy numbers e.note.ctype f v.number
      exact_by facts all f there = ((expr_holds globals s agrees e).claims typed).exact facts literals (come facts all) f there

      pub form_exact_in : (facts : Known) → AreTrueBy numbers facts → (f : Form) → (view s.frame e).form facts ≡ Some f → exact (integer_of e.note.ctype) v.number ≡ number_of numbers f
      form_exact_in facts all f there = (exact_by facts all f there).number

      -- what is received in a type is a number of it
      pub received_exact : (facts : Known) → AreTrueBy numbers facts → (t : CType) (f : Form) → in_type facts t ((view s.frame e).form facts) ≡ Some f
          → IsExactBy numbers e.note.ctype f v.number × IsNumberOf t (number_of numbers f)
      received_exact facts all t f there =
          let n = number_in_type numbers (fits 0 (inl refl)) facts all t ((view s.frame e).form facts) f there in
          (exact_by facts all f n.0, n.1)

      pub side_told_by : (at : State) (side : Bool) → AreTrueBy numbers at.facts → (v.number == 0) ≡ not side → AreTrueBy numbers (side_of s.frame side e at).facts
      unfolding side_of
      side_told_by at side all zero_is = ((expr_holds globals s agrees e).claims typed).sides at literals (come at.facts all) side zero_is

    -- the values of the locals are such numbers
    abbrev own : HaveValues s.frame store.locals (value s.frame store.locals)
    own = λ x known. refl

    pub form_exact : (facts : Known) (f : Form) → AreTrue s.frame store.locals facts → (view s.frame e).form facts ≡ Some f → IsExact s.frame store.locals e.note.ctype f v.number
    form_exact facts f all there = exact_by (value s.frame store.locals) own facts all f there

    pub side_told : (at : State) (side : Bool) → AreTrue s.frame store.locals at.facts → (v.number == 0) ≡ not side → AreTrue s.frame store.locals (side_of s.frame side e at).facts
    side_told at side all zero_is = side_told_by (value s.frame store.locals) own at side all zero_is

    -- the word that is kept is what the form of the value in the type of the local stands for
    kept_exact : (l : Local) (facts : Known) → AreTrue s.frame store.locals facts → is_integer l.ctype ≡ true
        → IfSome (value_form s.frame l.ctype e facts) (λ f. value_in (Some l) (kept_part (width_of l.ctype) v.number) ≡ number_of (value s.frame store.locals) f)
    unfolding value_form
    kept_exact l facts all i = by (in_type facts l.ctype ((view s.frame e).form facts)) refl
      where
        kept_by : (f : Form) → IsExact s.frame store.locals e.note.ctype f v.number → IsNumberOf l.ctype (number_of (value s.frame store.locals) f) → (b : Bool) → is_char l.ctype ≡ b
            → IsExact s.frame store.locals l.ctype f (kept_part (if b then Byte else Word) v.number)
        kept_by f x r true c = byte_exact (value s.frame store.locals) l.ctype e.note.ctype f v.number i c x r
        kept_by f x r false c = word_exact (value s.frame store.locals) l.ctype e.note.ctype f v.number i c x r

        by : (o : Option Form) → in_type facts l.ctype ((view s.frame e).form facts) ≡ o
            → IfSome o (λ f. value_in (Some l) (kept_part (width_of l.ctype) v.number) ≡ number_of (value s.frame store.locals) f)
        by None there = tt
        by (Some f) there =
            let n = number_in_type (value s.frame store.locals) refl facts all l.ctype ((view s.frame e).form facts) f there in
            let x : IsExact s.frame store.locals l.ctype f (kept_part (width_of l.ctype) v.number) = kept_by f (form_exact facts f all n.0) n.1 (is_char l.ctype) refl in
            integer_value l (kept_part (width_of l.ctype) v.number) i ∙ x.number

    kept_word : (l : Local) → v.number < 2 ^ 32 → IsWordOf l.ctype (kept_part (width_of l.ctype) v.number)
    kept_word l small = by (is_char l.ctype) refl
      where
        by : (b : Bool) → is_char l.ctype ≡ b → IsWordOf l.ctype (kept_part (if b then Byte else Word) v.number)
        by true c = byte_word l.ctype (v.number % 256) c (omega arith)
        by false c = wide_word l.ctype v.number c small

    pub assignment_holds : (k : ℕ) (l : Local) (at : State) → at.reached ≡ true → AreTrue s.frame store.locals at.facts → local_at s.frame k ≡ Some l → k < length store.locals → v.number < 2 ^ 32
        → AreTrue s.frame (slice_set store.locals k (kept_part (width_of l.ctype) v.number)) (assigned s.frame k (value_form s.frame l.ctype e at.facts) at).facts
    assignment_holds k l at reached all there within small =
        facts_assigned_hold s.frame store.locals k (kept_part (width_of l.ctype) v.number) l (value_form s.frame l.ctype e at.facts) at reached there within (kept_word l small)
        (λ i. kept_exact l at.facts all i) all

  -- ---- conditions

  module _ (yes no behind : Here) (e : Expr) (literals : ℕ) (store : Store) (v : Value) (words : HoldWords s.frame store.locals) (all : AreTrue s.frame store.locals behind.at.facts)
      (is : evaluated store e ≡ Ok v) where
    abbrev Told : Bool → Type 0
    Told b = AreTrue s.frame store.locals (if b then no else yes).at.facts

    -- the side that a condition comes to
    pub side_comes : (after : Option NotedExpr) → IsTypedIf globals s after → e ≡ condition s.text s.variables literals after
        → yes ≡ record behind { at = maybe_side s.frame true after behind.at } → no ≡ record behind { at = maybe_side s.frame false after behind.at }
        → (b : Bool) → (v.number == 0) ≡ b → Told b
    side_comes (Some f) typed made y n true zero_is =
        subst (λ (h : Here). AreTrue s.frame store.locals h.at.facts) (sym n)
        (side_told f literals store v typed words (sym (ap (evaluated store) made) ∙ is) behind.at false all zero_is)
    side_comes (Some f) typed made y n false zero_is =
        subst (λ (h : Here). AreTrue s.frame store.locals h.at.facts) (sym y)
        (side_told f literals store v typed words (sym (ap (evaluated store) made) ∙ is) behind.at true all zero_is)
    side_comes None typed made y n true zero_is =
        let one : v.number ≡ 1 = plain_is 1 v (sym (ap (evaluated store) made) ∙ is) in
        let none : (v.number == 0) ≡ false = ap (λ m. m == 0) one in
        absurd (cc)
    side_comes None typed made y n false zero_is = subst (λ (h : Here). AreTrue s.frame store.locals h.at.facts) (sym y) all
