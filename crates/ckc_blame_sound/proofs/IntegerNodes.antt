-- The claims of an expression follow from those of its parts.
use Rattle.std.proofs.Common.{◌≡◌, refl, sym, ap, subst, ◌∙◌, ℕ, Bool, true, false, ℤ, ◌+ℤ◌, arith}
use Rattle.std.specs.Prelude.{◌+◌, ◌-◌, ◌%◌, ◌^◌, ◌==◌, ◌&&◌, ◌||◌, not, if◌then◌else◌, neg_ℤ, pos, ◌-ℤ◌, Option, None, Some, Ok}
use Rattle.std.proofs.lemmas.Int.{ints}
use Rattle.ckc_base.specs.declared.places.Pos.{Pos}
use Rattle.ckc_base.specs.Words.{flag}
use Rattle.ckc_types.specs.declared.types.CType.{CType}
use Rattle.ckc_types.specs.declared.types.Structs.{Structs}
use Rattle.ckc_linear.specs.declared.forms.Form.{Form}
use Rattle.ckc_syntax.specs.declared.tree.TreeOp.{TreeOp}
use Rattle.ckc_syntax.specs.declared.tree.TreeOp.TheVariants as op
use Rattle.ckc_typed.specs.declared.environment.Constant.{Constant}
use Rattle.ckc_typed.specs.Types.{is_integer, is_pointer, is_unsigned}
use Rattle.ckc_typed.specs.Constants.{value_of}
use Rattle.ckc_typed.specs.Operands.{binary_type, sum_type, difference_type}
use Rattle.ckc_bounds.specs.ckc_bounds_points.specs.declared.frame.Frame.{Frame}
use Rattle.ckc_bounds.specs.ckc_bounds_points.specs.Shown.{Known}
use Rattle.ckc_bounds.specs.ckc_bounds_points.specs.Flow.{State}
use Rattle.ckc_bounds.specs.ckc_bounds_points.specs.Forms.{constant_form, moved_form}
use Rattle.ckc_bounds.specs.ckc_bounds_views.specs.declared.forms.Step.{Step}
use Rattle.ckc_bounds.specs.ckc_bounds_views.specs.Parts.{View}
use Rattle.ckc_bounds.specs.ckc_bounds_views.specs.Integers.{sum_step, difference_step, step_of, form_after, constant_or, integer_form}
use Rattle.ckc_bounds.specs.ckc_bounds_views.specs.Conditions.{operand, compares_unsigned, is_comparison, by_operands, binary_side, and_side, or_side, narrowed}
use Rattle.ckc_source.specs.declared.outcome.Value.{Value}
use Rattle.ckc_source.specs.declared.expr.Operation.TheVariants as operation
use Rattle.ckc_source.specs.Code.{Expr, Binary, And, Or, Moved, Added}
use Rattle.ckc_source.specs.Eval.{Store, given, plain, operates, evaluated}
use Rattle.ckc_source.specs.Words.{truth, computed}
use Rattle.ckc_build_values.specs.Kinds.{is_signed}
use Rattle.ckc_build_values.specs.Operators.{is_signed_at, binary as binary_of, shift, distance, of_operands}
use Rattle.ckc_blame_sound.specs.Settings.{Setting}
use Rattle.ckc_blame_sound.specs.Values.{number_of, HoldWords}
use Rattle.ckc_blame_sound.specs.Variables.{HaveValues, AreTrueBy}
use Rattle.ckc_blame_sound.proofs.Typed.{number_in_type}
use Rattle.ckc_blame_sound.specs.Exact.{IsExactBy}
use Rattle.ckc_blame_sound.proofs.Claims.{IsConstant, IsVariable, Comes, zero_is, Claims, given_is, both_are, plain_is}
use Rattle.ckc_blame_sound.proofs.IntegerWords.{read}
use Rattle.ckc_blame_sound.proofs.Types.{some_is, none_is_some, IsWide, sum_row, difference_row, no_pointer, in_type_integer}
use Rattle.ckc_blame_sound.proofs.Sums.{Spells, moved_is, exact_spells, constant_spells, sum_exact, difference_exact, constant_exact}
use Rattle.ckc_blame_sound.proofs.Sides.{operation_of, constant_word, local_value, local_fits, operand_read, operands_hold}

module _ (frame : Frame) where
  -- nothing is claimed of numbers, and the sides leave the facts
  pub no_claims : (t : CType) (side : Bool → State → State) (value' : ℕ → Expr) → ((b : Bool) (at : State) → (side b at).facts ≡ at.facts)
      → Claims frame t None None (λ facts. None) side value'
  no_claims t side value' same = record {
    constant = λ c e. none_is_some c e;
    local = λ f e. none_is_some f e;
    exact = λ facts k c f e. none_is_some f e;
    sides = λ at k c b e. subst (AreTrueBy c.numbers) (sym (same b at)) c.facts_hold;
  }

  -- a constant
  pub constant_claims : (t : CType) (d : Constant) (side : Bool → State → State) (value' : ℕ → Expr) → IsConstant frame t value' d
      → ((b : Bool) (at : State) → (side b at).facts ≡ at.facts) → Claims frame t (Some d) None (λ facts. None) side value'
  constant_claims t d side value' is same = record {
    constant = λ c e. subst (IsConstant frame t value') (some_is d c e) is;
    local = λ f e. none_is_some f e;
    exact = λ facts k c f e. none_is_some f e;
    sides = λ at k c b e. subst (AreTrueBy c.numbers) (sym (same b at)) c.facts_hold;
  }

  -- an integer local
  pub local_claims : (t : CType) (o : Option Form) (side : Bool → State → State) (value' : ℕ → Expr) → ((f : Form) → o ≡ Some f → IsVariable frame t value' f)
      → ((b : Bool) (at : State) → (side b at).facts ≡ at.facts) → Claims frame t None o (λ facts. o) side value'
  local_claims t o side value' is same = record {
    constant = λ c e. none_is_some c e;
    local = is;
    exact = λ facts k c f e. record {
      word = local_fits frame t value' facts k c f (is f e);
      number = sym (local_value frame t value' facts k c f (is f e));
    };
    sides = λ at k c b e. subst (AreTrueBy c.numbers) (sym (same b at)) c.facts_hold;
  }

  -- what has a form alone
  pub form_claims : (t : CType) (form : Known → Option Form) (side : Bool → State → State) (value' : ℕ → Expr)
      → ((facts : Known) (k : ℕ) (c : Comes frame facts (value' k)) (f : Form) → form facts ≡ Some f → IsExactBy c.numbers t f c.value.number)
      → ((at : State) (k : ℕ) (c : Comes frame at.facts (value' k)) (b : Bool) → (c.value.number == 0) ≡ not b → AreTrueBy c.numbers (side b at).facts)
      → Claims frame t None None form side value'
  form_claims t form side value' is holds = record {
    constant = λ c e. none_is_some c e;
    local = λ f e. none_is_some f e;
    exact = is;
    sides = holds;
  }

  -- An expression has the form of its constant, or of its node.
  pub whole_claims : (t : CType) (number : Option Constant) (variable' : Option Form) (linear : Known → Option Form) (side : Bool → State → State) (value' : ℕ → Expr)
      → Claims frame t number variable' linear side value' → Claims frame t number variable' (λ facts. integer_form t number (linear facts)) side value'
  whole_claims t number variable' linear side value' h = record {
    constant = h.constant;
    local = h.local;
    exact = λ facts k c f e. whole facts k c f number refl (is_integer t) e;
    sides = h.sides;
  }
    where
      whole : (facts : Known) (k : ℕ) (c : Comes frame facts (value' k)) (f : Form) → (o : Option Constant) → number ≡ o → (b : Bool)
          → ◌≡◌ {A = Option Form} (if b then constant_or o (linear facts) else None) (Some f) → IsExactBy c.numbers t f c.value.number
      whole facts k c f (Some d) there true e =
          let is : IsConstant frame t value' d = h.constant d there in
          let wide : IsWide t d.unsigned = record { integer = is.integer; wide = is.wide; unsigned_is = is.unsigned } in
          subst (λ n. IsExactBy c.numbers t f n) (sym (constant_word frame t value' facts k c d is))
          (subst (λ g. IsExactBy c.numbers t g d.word) (some_is (constant_form (value_of d)) f e) (constant_exact c.numbers (zero_is frame facts (value' k) c) t d wide is.word))
      whole facts k c f None there true e = h.exact facts k c f e
      whole facts k c f o there false e = none_is_some f e

-- ---- sums and differences

-- two parts with what is said of them and what they become
module _ (frame : Frame) (t u : CType) (e f : View) (v w : ℕ → Expr) (claims_e : Claims frame t e.number e.variable e.form e.side v)
    (claims_f : Claims frame u f.number f.variable f.form f.side w) where
  -- what the two parts come to if both are evaluated
  pub record Both (facts : Known) (j k : ℕ) (numbers : ℕ → ℤ) (a b : ℕ) : Type 0 where
    pub left : Comes frame facts (v j)
    pub right : Comes frame facts (w k)
    pub left_numbers : left.numbers ≡ numbers
    pub right_numbers : right.numbers ≡ numbers
    pub left_is : left.value.number ≡ a
    pub right_is : right.value.number ≡ b

  module _ (facts : Known) (j k : ℕ) (numbers : ℕ → ℤ) (a b : ℕ) (both : Both facts j k numbers a b) where
    left_exact : (g : Form) → e.form facts ≡ Some g → Spells a (number_of numbers g)
    left_exact g there =
        subst (λ n. Spells n (number_of numbers g)) both.left_is
        (subst (λ ns. Spells both.left.value.number (number_of ns g)) both.left_numbers
        (exact_spells both.left.numbers t g both.left.value.number (claims_e.exact facts j both.left g there)))

    right_exact : (g : Form) → f.form facts ≡ Some g → Spells b (number_of numbers g)
    right_exact g there =
        subst (λ n. Spells n (number_of numbers g)) both.right_is
        (subst (λ ns. Spells both.right.value.number (number_of ns g)) both.right_numbers
        (exact_spells both.right.numbers u g both.right.value.number (claims_f.exact facts k both.right g there)))

    left_constant : (d : Constant) → e.number ≡ Some d → Spells a (value_of d)
    left_constant d there =
        let is : IsConstant frame t v d = claims_e.constant d there in
        let word : d.word ≡ a = sym (constant_word frame t v facts j both.left d is) ∙ both.left_is in
        subst (λ n. Spells n (value_of d)) word (constant_spells d is.word)

    right_constant : (d : Constant) → f.number ≡ Some d → Spells b (value_of d)
    right_constant d there =
        let is : IsConstant frame u w d = claims_f.constant d there in
        let word : d.word ≡ b = sym (constant_word frame u w facts k both.right d is) ∙ both.right_is in
        subst (λ n. Spells n (value_of d)) word (constant_spells d is.word)

    module _ (r : CType) (uns : Bool) (wide : IsWide r uns) (g : Form) (zero : numbers 0 ≡ pos 0) (all : AreTrueBy numbers facts) where
      -- the form of a sum
      pub sum_form : (m n : Option Constant) → e.number ≡ m → f.number ≡ n → form_after facts r (sum_step m n) e f ≡ Some g → IsExactBy numbers r g ((a + b) % 2 ^ 32)
      sum_form m (Some d) at there h =
          let i = number_in_type numbers zero facts all r (moved_form (e.form facts) (value_of d)) g h in
          let l = moved_is numbers (e.form facts) (value_of d) g i.0 in
          sum_exact numbers r uns g a b (number_of numbers l.0) (value_of d) wide (left_exact l.0 l.1) (right_constant d there) l.2 i.1
      sum_form (Some d) None at there h =
          let i = number_in_type numbers zero facts all r (moved_form (f.form facts) (value_of d)) g h in
          let l = moved_is numbers (f.form facts) (value_of d) g i.0 in
          sum_exact numbers r uns g a b (value_of d) (number_of numbers l.0) wide (left_constant d at) (right_exact l.0 l.1) (l.2 ∙ turned (number_of numbers l.0) (value_of d)) i.1
        where
          turned : (x y : ℤ) → x +ℤ y ≡ y +ℤ x
          turned x y = omega (arith, ints)
      sum_form None None at there h = none_is_some g h

      -- the form of a difference
      pub difference_form : (n : Option Constant) → f.number ≡ n → form_after facts r (difference_step n) e f ≡ Some g → IsExactBy numbers r g ((a + (2 ^ 32 - b)) % 2 ^ 32)
      difference_form (Some d) there h =
          let i = number_in_type numbers zero facts all r (moved_form (e.form facts) (neg_ℤ (value_of d))) g h in
          let l = moved_is numbers (e.form facts) (neg_ℤ (value_of d)) g i.0 in
          difference_exact numbers r uns g a b (number_of numbers l.0) (value_of d) wide (left_exact l.0 l.1) (right_constant d there) (l.2 ∙ less (number_of numbers l.0) (value_of d)) i.1
        where
          less : (x y : ℤ) → x +ℤ neg_ℤ y ≡ x -ℤ y
          less x y = omega (arith, ints)
      difference_form None there h = none_is_some g h

-- ---- operators

-- the two operands of an operation, if both are evaluated
module _ (frame : Frame) (t u : CType) (e f : View) (v w : ℕ → Expr) (claims_e : Claims frame t e.number e.variable e.form e.side v)
    (claims_f : Claims frame u f.number f.variable f.form f.side w) (facts : Known) (store : Store) (words : HoldWords frame store.locals)
    (numbers : ℕ → ℤ) (fits : HaveValues frame store.locals numbers) (all : AreTrueBy numbers facts) (j k : ℕ) (a b : Value) (left : evaluated store (v j) ≡ Ok a) (right : evaluated store (w k) ≡ Ok b) where
  pub both_come : Both frame t u e f v w claims_e claims_f facts j k numbers a.number b.number
  both_come = record {
    left = record { store = store; words = words; numbers = numbers; fits = fits; facts_hold = all; value = a; is = left };
    right = record { store = store; words = words; numbers = numbers; fits = fits; facts_hold = all; value = b; is = right };
    left_numbers = refl;
    right_numbers = refl;
    left_is = refl;
    right_is = refl;
  }

-- ---- what operators become

plain_sum : (structs : Structs) (t u : CType) (at : Pos) (x y : Expr) → is_pointer t ≡ false → is_pointer u ≡ false
    → of_operands structs op.Add t u at x y ≡ Binary operation.Add (is_signed_at op.Add t u) at x y
plain_sum structs t u at x y p q = by (is_pointer t) (is_pointer u) p q
  where
    by : (a b : Bool) → a ≡ false → b ≡ false
        → (if a then Moved (shift structs t u at false) x y else (if b then Added (shift structs u t at false) x y else binary_of op.Add (is_signed_at op.Add t u) at x y))
        ≡ Binary operation.Add (is_signed_at op.Add t u) at x y
    by true b p q = absurd (cc)
    by false true p q = absurd (cc)
    by false false p q = refl

plain_difference : (structs : Structs) (t u : CType) (at : Pos) (x y : Expr) → is_pointer t ≡ false
    → of_operands structs op.Sub t u at x y ≡ Binary operation.Sub (is_signed_at op.Sub t u) at x y
plain_difference structs t u at x y p = by (is_pointer t) p
  where
    by : (a : Bool) → a ≡ false
        → (if a then (if is_pointer u then distance structs t at x y else Moved (shift structs t u at true) x y) else binary_of op.Sub (is_signed_at op.Sub t u) at x y)
        ≡ Binary operation.Sub (is_signed_at op.Sub t u) at x y
    by true p = absurd (cc)
    by false p = refl

comparison_made : (structs : Structs) (o : TreeOp) (t u : CType) (at : Pos) (x y : Expr) → is_comparison o ≡ true
    → of_operands structs o t u at x y ≡ Binary (operation_of o) (is_signed t && is_signed u) at x y
comparison_made structs op.Lt t u at x y c = refl
comparison_made structs op.Le t u at x y c = refl
comparison_made structs op.Gt t u at x y c = refl
comparison_made structs op.Ge t u at x y c = refl
comparison_made structs op.Eq t u at x y c = refl
comparison_made structs op.Ne t u at x y c = refl
comparison_made structs o t u at x y c = absurd (cc)

comparison_gives : (o : TreeOp) (s : Bool) (at : Pos) (a b : ℕ) → is_comparison o ≡ true → operates (operation_of o) s at a b ≡ plain (computed (operation_of o) s a b)
comparison_gives op.Lt s at a b c = refl
comparison_gives op.Le s at a b c = refl
comparison_gives op.Gt s at a b c = refl
comparison_gives op.Ge s at a b c = refl
comparison_gives op.Eq s at a b c = refl
comparison_gives op.Ne s at a b c = refl
comparison_gives o s at a b c = absurd (cc)

signs : (i j a b : Bool) → i ≡ true → j ≡ true → ((i && not a) && (j && not b)) ≡ not (a || b)
signs true true true b p q = refl
signs true true false b p q = refl
signs true false a b p q = absurd (cc)
signs false j a b p q = absurd (cc)

truth_false : (b : Bool) → (flag (not b) == 0) ≡ false → b ≡ false
truth_false true e = e
truth_false false e = refl

truth_true : (b : Bool) → (flag (not b) == 0) ≡ true → b ≡ true
truth_true true e = refl
truth_true false e = e

pub not_side : (x b : Bool) → (flag x == 0) ≡ not b → x ≡ not (not b)
not_side true true e = refl
not_side true false e = sym e
not_side false true e = sym e
not_side false false e = refl

or_false : (a b : Bool) → (a || b) ≡ false → (a ≡ false) × (b ≡ false)
or_false true b e = absurd (cc)
or_false false b e = (refl, e)

module _ (s : Setting) (t u r : CType) (e f : View) (v w : ℕ → Expr) (place : Pos) (second : ℕ → ℕ)
    (typed_e : e.ctype ≡ t) (typed_f : f.ctype ≡ u) (claims_e : Claims s.frame t e.number e.variable e.form e.side v)
    (claims_f : Claims s.frame u f.number f.variable f.form f.side w) where
  abbrev made : TreeOp → ℕ → Expr
  made o k = of_operands s.text.layout o t u place (v k) (w (second k))

  sum_value : (facts : Known) (k : ℕ) (c : Comes s.frame facts (made op.Add k)) (g : Form) → sum_type t u ≡ Some r → is_integer r ≡ true
      → form_after facts r (sum_step e.number f.number) e f ≡ Some g → IsExactBy c.numbers r g c.value.number
  sum_value facts k c g row i h =
      let q = sum_row t u r row i in
      let plus = plain_sum s.text.layout t u place (v k) (w (second k)) (no_pointer t q.0) (no_pointer u q.1) in
      let z = both_are (evaluated c.store (v k)) (evaluated c.store (w (second k))) (λ (x y : Value). operates operation.Add (is_signed_at op.Add t u) place x.number y.number) c.value (sym (ap (evaluated c.store) plus) ∙ c.is) in
      let n : c.value.number ≡ (z.0.number + z.1.number) % 2 ^ 32 = plain_is ((z.0.number + z.1.number) % 2 ^ 32) c.value z.4 in
      subst (IsExactBy c.numbers r g) (sym n)
      (sum_form s.frame t u e f v w claims_e claims_f facts k (second k) c.numbers z.0.number z.1.number
      (both_come s.frame t u e f v w claims_e claims_f facts c.store c.words c.numbers c.fits c.facts_hold k (second k) z.0 z.1 z.2 z.3) r (is_unsigned t || is_unsigned u) q.2 g (zero_is s.frame facts (made op.Add k) c) c.facts_hold e.number f.number refl refl h)

  difference_value : (facts : Known) (k : ℕ) (c : Comes s.frame facts (made op.Sub k)) (g : Form) → difference_type t u ≡ Some r → is_integer r ≡ true
      → form_after facts r (difference_step f.number) e f ≡ Some g → IsExactBy c.numbers r g c.value.number
  difference_value facts k c g row i h = by f.number refl h
    where
      by : (n : Option Constant) → f.number ≡ n → form_after facts r (difference_step n) e f ≡ Some g → IsExactBy c.numbers r g c.value.number
      by None there h = none_is_some g h
      by (Some d) there h =
          let q = difference_row t u r row i (claims_f.constant d there).integer in
          let minus = plain_difference s.text.layout t u place (v k) (w (second k)) (no_pointer t q.0) in
          let z = both_are (evaluated c.store (v k)) (evaluated c.store (w (second k))) (λ (x y : Value). operates operation.Sub (is_signed_at op.Sub t u) place x.number y.number) c.value (sym (ap (evaluated c.store) minus) ∙ c.is) in
          let n : c.value.number ≡ (z.0.number + (2 ^ 32 - z.1.number)) % 2 ^ 32 = plain_is ((z.0.number + (2 ^ 32 - z.1.number)) % 2 ^ 32) c.value z.4 in
          subst (IsExactBy c.numbers r g) (sym n)
          (difference_form s.frame t u e f v w claims_e claims_f facts k (second k) c.numbers z.0.number z.1.number
          (both_come s.frame t u e f v w claims_e claims_f facts c.store c.words c.numbers c.fits c.facts_hold k (second k) z.0 z.1 z.2 z.3) r (is_unsigned t || is_unsigned u) q.2 g (zero_is s.frame facts (made op.Sub k) c) c.facts_hold (Some d) there h)

  -- the sides of a comparison
  compared : (o : TreeOp) → is_comparison o ≡ true → (at : State) (k : ℕ) (c : Comes s.frame at.facts (made o k)) (b : Bool) → (c.value.number == 0) ≡ not b
      → AreTrueBy c.numbers (by_operands s.frame o e f b (operand (compares_unsigned e f) e) (operand (compares_unsigned e f) f) at).facts
  compared o is at k c b side =
      let sg = is_signed t && is_signed u in
      let uns = compares_unsigned e f in
      let z = both_are (evaluated c.store (v k)) (evaluated c.store (w (second k))) (λ (x y : Value). operates (operation_of o) sg place x.number y.number) c.value
      (sym (ap (evaluated c.store) (comparison_made s.text.layout o t u place (v k) (w (second k)) is)) ∙ c.is) in
      let n : c.value.number ≡ computed (operation_of o) sg z.0.number z.1.number =
      plain_is (computed (operation_of o) sg z.0.number z.1.number) c.value (sym (comparison_gives o sg place z.0.number z.1.number is) ∙ z.4) in
      let left : Comes s.frame at.facts (v k) = record { store = c.store; words = c.words; numbers = c.numbers; fits = c.fits; facts_hold = c.facts_hold; value = z.0; is = z.2 } in
      let right : Comes s.frame at.facts (w (second k)) = record { store = c.store; words = c.words; numbers = c.numbers; fits = c.fits; facts_hold = c.facts_hold; value = z.1; is = z.3 } in
      operands_hold s.frame c.numbers o e f b sg z.0.number z.1.number at is (ap (λ m. m == 0) (sym n) ∙ side) c.facts_hold (operand uns e) (operand uns f)
      (λ g h p q.
      let x = operand_read s.frame t v at.facts k left e typed_e claims_e uns g (λ no. ap is_unsigned (sym typed_e) ∙ (or_false (is_unsigned e.ctype) (is_unsigned f.ctype) no).0) p in
      let y = operand_read s.frame u w at.facts (second k) right f typed_f claims_f uns h (λ no. ap is_unsigned (sym typed_f) ∙ (or_false (is_unsigned e.ctype) (is_unsigned f.ctype) no).1) q in
      let sign : not uns ≡ sg = sym (signs (is_integer t) (is_integer u) (is_unsigned t) (is_unsigned u) x.0 y.0 ∙ ap (λ a. not (is_unsigned a || is_unsigned u)) (sym typed_e) ∙ ap (λ a. not (is_unsigned e.ctype || is_unsigned a)) (sym typed_f)) in
      (x.1 ∙ ap (λ m. read m z.0.number) sign, y.1 ∙ ap (λ m. read m z.1.number) sign))

  -- the sides of `&&`
  and_holds : (at : State) (k : ℕ) (c : Comes s.frame at.facts (And (v k) (w (second k)))) (b : Bool) → (c.value.number == 0) ≡ not b → AreTrueBy c.numbers (and_side e f b at).facts
  and_holds at k c false side = c.facts_hold
  and_holds at k c true side =
      let z = given_is (evaluated c.store (v k)) (λ x. if x.number == 0 then plain 0 else given (evaluated c.store (w (second k))) (λ y. plain (truth y.number))) c.value c.is in
      by z.0 z.1 (z.0.number == 0) refl z.2
    where
      by : (x : Value) → evaluated c.store (v k) ≡ Ok x → (n : Bool) → (x.number == 0) ≡ n
          → (if n then plain 0 else given (evaluated c.store (w (second k))) (λ y. plain (truth y.number))) ≡ Ok c.value → AreTrueBy c.numbers (f.side true (e.side true at)).facts
      by x is true n h = let none : c.value.number ≡ 0 = plain_is 0 c.value h in let same : (c.value.number == 0) ≡ true = ap (λ m. m == 0) none in absurd (cc)
      by x is false n h =
          let y = given_is (evaluated c.store (w (second k))) (λ y. plain (truth y.number)) c.value h in
          let m : c.value.number ≡ truth y.0.number = plain_is (truth y.0.number) c.value y.2 in
          let left : Comes s.frame at.facts (v k) = record { store = c.store; words = c.words; numbers = c.numbers; fits = c.fits; facts_hold = c.facts_hold; value = x; is = is } in
          let here = claims_e.sides at k left true n in
          let right : Comes s.frame (e.side true at).facts (w (second k)) = record { store = c.store; words = c.words; numbers = c.numbers; fits = c.fits; facts_hold = here; value = y.0; is = y.1 } in
          claims_f.sides (e.side true at) (second k) right true (truth_false (y.0.number == 0) (ap (λ i. i == 0) (sym m) ∙ side))

  -- the sides of `||`
  or_holds : (at : State) (k : ℕ) (c : Comes s.frame at.facts (Or (v k) (w (second k)))) (b : Bool) → (c.value.number == 0) ≡ not b → AreTrueBy c.numbers (or_side e f b at).facts
  or_holds at k c true side = c.facts_hold
  or_holds at k c false side =
      let z = given_is (evaluated c.store (v k)) (λ x. if x.number == 0 then given (evaluated c.store (w (second k))) (λ y. plain (truth y.number)) else plain 1) c.value c.is in
      by z.0 z.1 (z.0.number == 0) refl z.2
    where
      by : (x : Value) → evaluated c.store (v k) ≡ Ok x → (n : Bool) → (x.number == 0) ≡ n
          → (if n then given (evaluated c.store (w (second k))) (λ y. plain (truth y.number)) else plain 1) ≡ Ok c.value
          → AreTrueBy c.numbers (f.side false (narrowed at (e.side false at))).facts
      by x is false n h = let one : c.value.number ≡ 1 = plain_is 1 c.value h in let same : (c.value.number == 0) ≡ false = ap (λ m. m == 0) one in absurd (cc)
      by x is true n h =
          let y = given_is (evaluated c.store (w (second k))) (λ y. plain (truth y.number)) c.value h in
          let m : c.value.number ≡ truth y.0.number = plain_is (truth y.0.number) c.value y.2 in
          let left : Comes s.frame at.facts (v k) = record { store = c.store; words = c.words; numbers = c.numbers; fits = c.fits; facts_hold = c.facts_hold; value = x; is = is } in
          let here = claims_e.sides at k left false n in
          let right : Comes s.frame (e.side false at).facts (w (second k)) = record { store = c.store; words = c.words; numbers = c.numbers; fits = c.fits; facts_hold = here; value = y.0; is = y.1 } in
          claims_f.sides (narrowed at (e.side false at)) (second k) right false (truth_true (y.0.number == 0) (ap (λ i. i == 0) (sym m) ∙ side))

  -- the sides of an operation
  binary_holds : (o : TreeOp) (at : State) (k : ℕ) (c : Comes s.frame at.facts (made o k)) (b : Bool) → (c.value.number == 0) ≡ not b
      → AreTrueBy c.numbers (binary_side s.frame o e f b at).facts
  binary_holds op.AndThen at k c b side = and_holds at k c b side
  binary_holds op.OrElse at k c b side = or_holds at k c b side
  binary_holds op.Lt at k c b side = compared op.Lt refl at k c b side
  binary_holds op.Le at k c b side = compared op.Le refl at k c b side
  binary_holds op.Gt at k c b side = compared op.Gt refl at k c b side
  binary_holds op.Ge at k c b side = compared op.Ge refl at k c b side
  binary_holds op.Eq at k c b side = compared op.Eq refl at k c b side
  binary_holds op.Ne at k c b side = compared op.Ne refl at k c b side
  binary_holds o at k c b side = c.facts_hold

  -- the form of an operation
  binary_exact : (o : TreeOp) (m n : Bool) → binary_type o t m u n ≡ Some r → is_integer r ≡ true → (facts : Known) (k : ℕ) (c : Comes s.frame facts (made o k)) (g : Form)
      → form_after facts r (step_of o e.number f.number) e f ≡ Some g → IsExactBy c.numbers r g c.value.number
  binary_exact op.Add m n row i facts k c g h = sum_value facts k c g row i h
  binary_exact op.Sub m n row i facts k c g h = difference_value facts k c g row i h
  binary_exact o m n row i facts k c g h = none_is_some g h

  pub binary_claims : (o : TreeOp) (m n : Bool) → binary_type o t m u n ≡ Some r
      → Claims s.frame r None None (λ facts. form_after facts r (step_of o e.number f.number) e f) (binary_side s.frame o e f) (made o)
  binary_claims o m n row = form_claims s.frame r (λ facts. form_after facts r (step_of o e.number f.number) e f) (binary_side s.frame o e f) (made o)
      (λ facts k c g h. binary_exact o m n row (whole facts g (step_of o e.number f.number) h) facts k c g h) (λ at k c b side. binary_holds o at k c b side)
    where
      -- what has a form is an integer
      whole : (facts : Known) (g : Form) (o : Option Step) → form_after facts r o e f ≡ Some g → is_integer r ≡ true
      whole facts g None h = none_is_some g h
      whole facts g (Some d) h = in_type_integer facts r (moved_form (if d.left then e.form facts else f.form facts) d.by) g h
