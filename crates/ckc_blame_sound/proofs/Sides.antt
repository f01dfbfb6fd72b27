-- What comparisons say of their operands is true.
use Rattle.std.proofs.Common.{◌≡◌, inr, ⊎_elim, refl, sym, ap, subst, ◌∙◌, ℕ, Bool, true, false, [], ◌∷◌, ℤ, ◌+ℤ◌, ◌≤ℤ◌, arith}
use Rattle.std.specs.Prelude.{◌+◌, ◌<◌, ◌≤◌, ◌^◌, ◌==◌, ◌&&◌, not, int_lt, if◌then◌else◌, ◌++◌, slice_index, pos, ◌-ℤ◌, Option, None, Some}
use Rattle.std.proofs.lemmas.Int.{ints}
use Rattle.ckc_base.specs.Words.{signed}
use Rattle.ckc_types.specs.declared.types.Kind.{Kind}
use Rattle.ckc_types.specs.declared.types.CType.{CType}
use Rattle.ckc_linear.specs.declared.forms.Form.{Form}
use Rattle.ckc_syntax.specs.declared.tree.TreeOp.{TreeOp}
use Rattle.ckc_syntax.specs.declared.tree.TreeOp.TheVariants as op
use Rattle.ckc_typed.specs.declared.environment.Constant.{Constant}
use Rattle.ckc_typed.specs.Types.{is_integer, is_unsigned, is_char}
use Rattle.ckc_typed.specs.Constants.{value_of}
use Rattle.ckc_bounds.specs.ckc_bounds_known.specs.Ranges.{is_small, with_fact}
use Rattle.ckc_bounds.specs.ckc_bounds_points.specs.declared.frame.Frame.{Frame}
use Rattle.ckc_bounds.specs.ckc_bounds_points.specs.Shown.{Known}
use Rattle.ckc_bounds.specs.ckc_bounds_points.specs.Flow.{State}
use Rattle.ckc_bounds.specs.ckc_bounds_points.specs.Forms.{constant_form, at_most, at_less, with_most, with_less}
use Rattle.ckc_bounds.specs.ckc_bounds_views.specs.Parts.{View}
use Rattle.ckc_bounds.specs.ckc_bounds_views.specs.Conditions.{wider, widened_by, read_place, widening_side, said, opposite, holding, is_comparison, constant_operand, operand_of, operand, nonzero_side, by_operands}
use Rattle.ckc_source.specs.declared.expr.Operation.{Operation}
use Rattle.ckc_source.specs.declared.expr.Operation.TheVariants as operation
use Rattle.ckc_source.specs.Code.{Expr}
use Rattle.ckc_source.specs.Eval.{evaluated}
use Rattle.ckc_source.specs.Words.{exact, computed}
use Rattle.ckc_build_values.specs.Kinds.{integer_of}
use Rattle.ckc_blame_sound.specs.Values.{value, number_of, IsWordOf}
use Rattle.ckc_blame_sound.specs.Variables.{AreTrueBy}
use Rattle.ckc_blame_sound.proofs.Facts.{Hold, fact_added}
use Rattle.ckc_blame_sound.proofs.Flow.{variable_value, integer_value}
use Rattle.ckc_blame_sound.proofs.IntegerWords.{read, Says, contrary, compares, said_true, said_false, signed_is}
use Rattle.ckc_blame_sound.proofs.Types.{some_is, none_is_some, unsigned_is, char_is, int_is, word_byte}
use Rattle.ckc_blame_sound.proofs.Claims.{IsConstant, IsVariable, Comes, zero_is, Claims, plain_is}

-- ---- the facts of a comparison

module _ (value' : ℕ → ℤ) (x y : Form) (facts : Known) (all : Hold value' facts.list) where
  most_holds : number_of value' x ≤ℤ number_of value' y → Hold value' (with_most x y facts).list
  most_holds h = by (is_small x.add && is_small y.add)
    where
      by : (b : Bool) → Hold value' (if b then with_fact (at_most x y) facts else facts).list
      by true = fact_added value' (at_most x y) facts (omega (arith, ints)) all
      by false = all

  less_holds : (number_of value' x +ℤ pos 1) ≤ℤ number_of value' y → Hold value' (with_less x y facts).list
  less_holds h = by (is_small x.add && is_small y.add)
    where
      by : (b : Bool) → Hold value' (if b then with_fact (at_less x y) facts else facts).list
      by true = fact_added value' (at_less x y) facts (omega (arith, ints)) all
      by false = all

-- the operation of a comparison
abbrev pub operation_of : TreeOp → Operation
operation_of op.Lt = operation.Lt
operation_of op.Le = operation.Le
operation_of op.Gt = operation.Gt
operation_of op.Ge = operation.Ge
operation_of op.Eq = operation.Eq
operation_of op.Ne = operation.Ne
operation_of _ = operation.Add

said_holds : (value' : ℕ → ℤ) (o : TreeOp) (x y : Form) (facts : Known) → Says (operation_of o) (number_of value' x) (number_of value' y) → Hold value' facts.list
    → Hold value' (said o x y facts).list
said_holds value' op.Lt x y facts h all = less_holds value' x y facts all h
said_holds value' op.Le x y facts h all = most_holds value' x y facts all h
said_holds value' op.Gt x y facts h all = less_holds value' y x facts all h
said_holds value' op.Ge x y facts h all = most_holds value' y x facts all h
said_holds value' op.Eq x y facts h all =
    let low : number_of value' x ≤ℤ number_of value' y = omega (arith, ints) in
    let high : number_of value' y ≤ℤ number_of value' x = omega (arith, ints) in
    most_holds value' y x (with_most x y facts) (most_holds value' x y facts all low) high
said_holds value' o x y facts h all = all

opposite_is : (o : TreeOp) → is_comparison o ≡ true → operation_of (opposite o) ≡ contrary (operation_of o)
opposite_is op.Lt c = refl
opposite_is op.Le c = refl
opposite_is op.Gt c = refl
opposite_is op.Ge c = refl
opposite_is op.Eq c = refl
opposite_is op.Ne c = refl
opposite_is o c = absurd (cc)

compares_is : (o : TreeOp) → is_comparison o ≡ true → compares (operation_of o) ≡ true
compares_is op.Lt c = refl
compares_is op.Le c = refl
compares_is op.Gt c = refl
compares_is op.Ge c = refl
compares_is op.Eq c = refl
compares_is op.Ne c = refl
compares_is o c = absurd (cc)

-- what a comparison says on a side of it
holding_says : (o : TreeOp) (s side : Bool) (a b : ℕ) → is_comparison o ≡ true → (computed (operation_of o) s a b == 0) ≡ not side
    → Says (operation_of (holding o side)) (read s a) (read s b)
holding_says o s true a b c e = said_true (operation_of o) s a b e
holding_says o s false a b c e =
    subst (λ q. Says q (read s a) (read s b)) (sym (opposite_is o c)) (said_false (operation_of o) s a b (compares_is o c) e)

-- ---- the operands

signed_low : (n : ℕ) → n < 256 → signed n ≡ pos n
signed_low n h = ⊎_elim (λ p. p.1) (λ p. let c : 2 ^ 31 ≤ n = p.0 in absurd (omega arith)) (signed_is n (omega arith))

signed_positive : (n : ℕ) → n < 2 ^ 32 → int_lt (signed n) (pos 0) ≡ false → signed n ≡ pos n
signed_positive n h e = ⊎_elim
    (λ p. p.1)
    (λ p. let f : signed n ≡ pos n -ℤ pos (2 ^ 32) = p.1 in let less : int_lt (signed n) (pos 0) ≡ true = grind (arith, ints) in absurd (cc))
    (signed_is n h)

module _ (value' : ℕ → ℤ) (zero : value' 0 ≡ pos 0) where
  form_is : (z : ℤ) (f : Form) → ◌≡◌ {A = Option Form} (Some (constant_form z)) (Some f) → number_of value' f ≡ z
  form_is z f e =
      let g : number_of value' (constant_form z) ≡ number_of value' f = ap (number_of value') (some_is (constant_form z) f e) in
      let n : value' 0 ≡ pos 0 = zero in
      omega (arith, ints)

  -- a constant is read as its value
  constant_read : (w : ℕ) (d uns : Bool) (z : ℤ) (f : Form) → z ≡ (if d then pos w else signed w) → w < 2 ^ 32 → (uns ≡ false → d ≡ false)
      → constant_operand uns z ≡ Some f → number_of value' f ≡ read (not uns) w
  constant_read w d false z f is h only e = form_is z f e ∙ is ∙ ap (λ (b : Bool). if b then pos w else signed w) (only refl)
  constant_read w true true z f is h only e = by (int_lt z (pos 0)) e
    where
      by : (l : Bool) → ◌≡◌ {A = Option Form} (if l then None else Some (constant_form z)) (Some f) → number_of value' f ≡ pos w
      by true e = none_is_some f e
      by false e = form_is z f e ∙ is
  constant_read w false true z f is h only e = by (int_lt z (pos 0)) refl e
    where
      by : (l : Bool) → int_lt z (pos 0) ≡ l → ◌≡◌ {A = Option Form} (if l then None else Some (constant_form z)) (Some f) → number_of value' f ≡ pos w
      by true m e = none_is_some f e
      by false m e = form_is z f e ∙ is ∙ signed_positive w h (subst (λ y. int_lt y (pos 0) ≡ false) is m)

module _ (frame : Frame) (t : CType) (value' : ℕ → Expr) (facts : Known) (k : ℕ) (c : Comes frame facts (value' k)) where
  -- a constant has its word
  pub constant_word : (d : Constant) → IsConstant frame t value' d → c.value.number ≡ d.word
  constant_word d is = plain_is d.word c.value (sym (is.value_is c.store k) ∙ c.is)

  -- and a local its word
  pub local_word : (f : Form) (is : IsVariable frame t value' f) → c.value.number ≡ slice_index c.store.locals is.number
  local_word f is = plain_is (slice_index c.store.locals is.number) c.value (sym (ap (evaluated c.store) (is.value_is k)) ∙ c.is)

  pub local_value : (f : Form) (is : IsVariable frame t value' f) → number_of c.numbers f ≡ exact (integer_of t) c.value.number
  local_value f is =
      let word : c.value.number ≡ slice_index c.store.locals is.number = local_word f is in
      let whole : is_integer is.local.ctype ≡ true = subst (λ u. is_integer u ≡ true) (sym is.same) is.integer in
      let at : value frame c.store.locals (is.number + 1) ≡ exact (integer_of is.local.ctype) (slice_index c.store.locals is.number) =
      variable_value frame c.store.locals is.number is.local is.there ∙ integer_value is.local (slice_index c.store.locals is.number) whole in
      let typed : exact (integer_of is.local.ctype) (slice_index c.store.locals is.number) ≡ exact (integer_of t) c.value.number =
      ap (λ u. exact (integer_of u) (slice_index c.store.locals is.number)) is.same ∙ ap (exact (integer_of t)) (sym word) in
      let own : c.numbers (is.number + 1) ≡ value frame c.store.locals (is.number + 1) = c.fits (is.number + 1) (inr (is.number, is.local, refl, is.there, whole)) in
      ap (number_of c.numbers) is.form ∙ none_more (c.numbers (is.number + 1)) ∙ own ∙ at ∙ typed
    where
      none_more : (z : ℤ) → z +ℤ pos 0 ≡ z
      none_more z = omega (arith, ints)

  pub local_fits : (f : Form) (is : IsVariable frame t value' f) → IsWordOf t c.value.number
  local_fits f is = subst (λ n. IsWordOf t n) (sym (local_word f is)) (subst (λ u. IsWordOf u (slice_index c.store.locals is.number)) is.same (c.words is.number is.local is.there))

  -- a local is read as its value, if it is compared in its type
  local_read : (f : Form) → IsVariable frame t value' f → (uns a b : Bool) → is_unsigned t ≡ a → is_char t ≡ b → (uns ≡ true → a ≡ true) → (uns ≡ false → a ≡ false)
      → number_of c.numbers f ≡ read (not uns) c.value.number
  local_read f is true a b u h up down = local_value f is ∙ ap (λ i. exact i c.value.number) (unsigned_is t is.integer (u ∙ up refl))
  local_read f is false a true u h up down =
      local_value f is ∙ ap (λ i. exact i c.value.number) (char_is t h) ∙ sym (signed_low c.value.number (word_byte t c.value.number h (local_fits f is)))
  local_read f is false a false u h up down = local_value f is ∙ ap (λ i. exact i c.value.number) (int_is t h (u ∙ down refl))

  module _ (e : View) (typed : e.ctype ≡ t) (claims : Claims frame t e.number e.variable e.form e.side value') where
    -- What an operand of a comparison stands for is what the comparison reads, if it reads an unsigned type as unsigned.
    pub operand_read : (uns : Bool) (f : Form) → (uns ≡ false → is_unsigned t ≡ false) → operand uns e ≡ Some f
        → (is_integer t ≡ true) × (number_of c.numbers f ≡ read (not uns) c.value.number)
    operand_read uns f only h = by e.number refl h
      where
        by_local : (b : Bool) → uns ≡ b → (a : Bool) → is_unsigned t ≡ a → ◌≡◌ {A = Option Form} (if b && not a then None else e.variable) (Some f)
            → (is_integer t ≡ true) × (number_of c.numbers f ≡ read (not uns) c.value.number)
        by_local true n false u v = none_is_some f v
        by_local true n true u v =
            let is : IsVariable frame t value' f = claims.local f v in
            (is.integer, local_read f is uns true (is_char t) u refl (λ m. refl) (λ m. absurd (cc)))
        by_local false n a u v =
            let is : IsVariable frame t value' f = claims.local f v in
            (is.integer, local_read f is uns (is_unsigned t) (is_char t) refl refl (λ m. absurd (cc)) only)

        by : (o : Option Constant) → e.number ≡ o → operand_of uns e o ≡ Some f
            → (is_integer t ≡ true) × (number_of c.numbers f ≡ read (not uns) c.value.number)
        by (Some d) there h =
            let is : IsConstant frame t value' d = claims.constant d there in
            let r = constant_read c.numbers (zero_is frame facts (value' k) c) d.word d.unsigned uns (value_of d) f refl is.word (λ n. sym is.unsigned ∙ only n) h in
            (is.integer, r ∙ ap (read (not uns)) (sym (constant_word d is)))
        by None there h =
            by_local uns refl (is_unsigned t) refl (subst (λ u. ◌≡◌ {A = Option Form} (if uns && not (is_unsigned u) then None else e.variable) (Some f)) typed h)

-- ---- widening leaves the facts

wider_same : (o : Option ℕ) (at : State) → (wider o at).facts ≡ at.facts
wider_same None at = refl
wider_same (Some k) at = by at.reached
  where
    by : (b : Bool) → (if b then record at { widened = at.widened ++ k ∷ [] } else at).facts ≡ at.facts
    by true = refl
    by false = refl

pub widening_same : (frame : Frame) (behind : Option Kind) (target : Known → Option Form) (b : Bool) (at : State) → (widening_side frame behind target b at).facts ≡ at.facts
widening_same frame behind target true at = wider_same (widened_by frame (read_place behind (target at.facts))) at
widening_same frame behind target false at = refl

nonzero_same : (frame : Frame) (o : TreeOp) (e f : View) (side : Bool) (at : State) → (nonzero_side frame o e f side at).facts ≡ at.facts
nonzero_same frame op.Ne e f side at = by f.is_zero
  where
    by : (b : Bool) → (if b then widening_side frame e.behind (e.target 0) side at else at).facts ≡ at.facts
    by true = widening_same frame e.behind (e.target 0) side at
    by false = refl
nonzero_same frame o e f side at = refl

-- A side of a comparison has facts that are true, if its operands are read so.
pub operands_hold : (frame : Frame) (numbers : ℕ → ℤ) (o : TreeOp) (e f : View) (side s : Bool) (a b : ℕ) (at : State) → is_comparison o ≡ true
    → (computed (operation_of o) s a b == 0) ≡ not side → AreTrueBy numbers at.facts → (x y : Option Form)
    → ((g h : Form) → x ≡ Some g → y ≡ Some h → (number_of numbers g ≡ read s a) × (number_of numbers h ≡ read s b))
    → AreTrueBy numbers (by_operands frame o e f side x y at).facts
operands_hold frame numbers o e f side s a b at c v all (Some g) (Some h) says = by at.reached
  where
    both : (number_of numbers g ≡ read s a) × (number_of numbers h ≡ read s b)
    both = says g h refl refl

    claim : Says (operation_of (holding o side)) (number_of numbers g) (number_of numbers h)
    claim =
        subst (λ n. Says (operation_of (holding o side)) n (number_of numbers h)) (sym both.0)
        (subst (λ n. Says (operation_of (holding o side)) (read s a) n) (sym both.1) (holding_says o s side a b c v))

    by : (r : Bool) → AreTrueBy numbers (if r then record at { facts = said (holding o side) g h at.facts } else at).facts
    by true = said_holds numbers (holding o side) g h at.facts claim all
    by false = all
operands_hold frame numbers o e f side s a b at c v all (Some g) None says = subst (AreTrueBy numbers) (sym (nonzero_same frame o e f side at)) all
operands_hold frame numbers o e f side s a b at c v all None y says = subst (AreTrueBy numbers) (sym (nonzero_same frame o e f side at)) all
