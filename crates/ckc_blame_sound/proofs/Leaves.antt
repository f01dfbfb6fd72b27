-- The claims of constants, of names, of unary operators and of casts.
use Rattle.std.proofs.Common.{◌≡◌, refl, sym, ap, subst, ◌∙◌, ℕ, Bool, true, false, arith}
use Rattle.std.specs.Prelude.{◌+◌, ◌%◌, ◌<◌, ◌^◌, ◌==◌, not, ◌&&◌, if◌then◌else◌, pos, Option, None, Some, Ok}
use Rattle.ckc_base.specs.declared.arithmetic.BinOp.TheVariants as binary
use Rattle.ckc_base.specs.declared.places.Pos.{Pos}
use Rattle.ckc_base.specs.Words.{applied, flag}
use Rattle.ckc_types.specs.declared.types.CType.{CType}
use Rattle.ckc_linear.specs.declared.forms.Form.{Form}
use Rattle.ckc_syntax.specs.declared.tree.Name.{Name}
use Rattle.ckc_syntax.specs.declared.tree.Name.TheVariants as name
use Rattle.ckc_syntax.specs.declared.tree.TreeOp.TheVariants as op
use Rattle.ckc_typed.specs.declared.environment.Constant.{Constant}
use Rattle.ckc_typed.specs.declared.environment.Globals.{Globals}
use Rattle.ckc_typed.specs.declared.typed.Note.{Note}
use Rattle.ckc_typed.specs.declared.typed.Range.TheVariants as range
use Rattle.ckc_typed.specs.Types.{is_integer, is_char, is_unsigned}
use Rattle.ckc_typed.specs.Constants.{negated}
use Rattle.ckc_typed.specs.Environment.{type_of_name}
use Rattle.ckc_typed.specs.Expressions.{number_type}
use Rattle.ckc_typed.specs.Operands.{sign_type, size_type, same_element}
use Rattle.ckc_bounds.specs.ckc_bounds_points.specs.declared.frame.Local.{Local}
use Rattle.ckc_bounds.specs.ckc_bounds_points.specs.declared.frame.Frame.{Frame}
use Rattle.ckc_bounds.specs.ckc_bounds_points.specs.Shown.{Known}
use Rattle.ckc_bounds.specs.ckc_bounds_points.specs.Frames.{local_at, variable_of, variable}
use Rattle.ckc_bounds.specs.ckc_bounds_points.specs.Flow.{State}
use Rattle.ckc_bounds.specs.ckc_bounds_points.specs.Forms.{in_type}
use Rattle.ckc_source.specs.declared.outcome.Value.{Value}
use Rattle.ckc_source.specs.declared.expr.Operation.TheVariants as operation
use Rattle.ckc_source.specs.Code.{Expr, Number, Binary, Narrow, Bare}
use Rattle.ckc_source.specs.Eval.{given, plain, operates, evaluated}
use Rattle.ckc_build_values.specs.Expressions.{local_in, named}
use Rattle.ckc_build_values.specs.Operators.{converted, cast}
use Rattle.ckc_blame_sound.specs.Settings.{Setting}
use Rattle.ckc_blame_sound.specs.Values.{number_of, IsNumberOf}
use Rattle.ckc_blame_sound.specs.Variables.{AreTrueBy}
use Rattle.ckc_blame_sound.proofs.Typed.{number_in_type}
use Rattle.ckc_blame_sound.specs.Typed.{Agrees}
use Rattle.ckc_blame_sound.specs.Exact.{IsExactBy}
use Rattle.ckc_blame_sound.proofs.Claims.{IsConstant, IsVariable, Comes, zero_is, Claims, given_is, plain_is}
use Rattle.ckc_blame_sound.proofs.Types.{some_is, none_is_some, IsWide, number_wide, size_wide, sign_row, no_pointer, in_type_integer}
use Rattle.ckc_blame_sound.proofs.Sums.{byte_exact, word_exact}
use Rattle.ckc_blame_sound.proofs.IntegerNodes.{no_claims, constant_claims, local_claims, form_claims, not_side}

module _ (frame : Frame) where
  abbrev Same : (Bool → State → State) → Type 0
  Same side = (b : Bool) (at : State) → (side b at).facts ≡ at.facts

  pub literal_claims : (t : CType) (n : ℕ) (uns : Bool) (side : Bool → State → State) → Same side → t ≡ number_type uns → n < 2 ^ 32
      → Claims frame t (Some (record { word = n; unsigned = uns })) None (λ facts. None) side (λ k. Number n)
  literal_claims t n uns side same row small =
      let wide : IsWide t uns = subst (λ u. IsWide u uns) (sym row) (number_wide uns) in
      constant_claims frame t (record { word = n; unsigned = uns }) side (λ k. Number n)
      (record { integer = wide.integer; unsigned = wide.unsigned_is; wide = wide.wide; word = small; value_is = λ store k. refl }) same

  pub size_claims : (t w : CType) (n m : ℕ) (side : Bool → State → State) → Same side → size_type w ≡ Some t → n < 2 ^ 32 → n ≡ m
      → Claims frame t (Some (record { word = n; unsigned = true })) None (λ facts. None) side (λ k. Number m)
  size_claims t w n m side same row small is =
      let wide : IsWide t true = size_wide w t row in
      constant_claims frame t (record { word = n; unsigned = true }) side (λ k. Number m)
      (record { integer = wide.integer; unsigned = wide.unsigned_is; wide = wide.wide; word = small; value_is = λ store k. ap plain (sym is) }) same

  -- `-` before a constant
  pub minus_claims : (t r : CType) (number : Option Constant) (variable' : Option Form) (form : Known → Option Form) (inner side : Bool → State → State) (v : ℕ → Expr) (place : Pos)
      → Claims frame t number variable' form inner v → Same side → sign_type t ≡ Some r
      → Claims frame r (negated op.Minus number) None (λ facts. None) side (λ k. Binary operation.Sub true place (Number 0) (v k))
  minus_claims t r number variable' form inner side v place claims same row = by number refl
    where
      by : (o : Option Constant) → number ≡ o → Claims frame r (negated op.Minus o) None (λ facts. None) side (λ k. Binary operation.Sub true place (Number 0) (v k))
      by None there = no_claims frame r side (λ k. Binary operation.Sub true place (Number 0) (v k)) same
      by (Some d) there =
          let is : IsConstant frame t v d = claims.constant d there in
          let wide : IsWide r (is_unsigned t) = (sign_row t r row).1 in
          constant_claims frame r (record { word = applied binary.Sub 0 d.word; unsigned = d.unsigned }) side (λ k. Binary operation.Sub true place (Number 0) (v k))
          (record {
            integer = wide.integer;
            unsigned = wide.unsigned_is ∙ is.unsigned;
            wide = wide.wide;
            word = omega arith;
            value_is = λ store k. ap (λ x. given x (λ (y : Value). operates operation.Sub true place 0 y.number)) (is.value_is store k);
          }) same

  -- `!` exchanges the sides
  pub not_claims : (t r : CType) (number : Option Constant) (variable' : Option Form) (form : Known → Option Form) (inner : Bool → State → State) (v : ℕ → Expr) (place : Pos)
      → Claims frame t number variable' form inner v
      → Claims frame r None None (λ facts. None) (λ b at. inner (not b) at) (λ k. Binary operation.Eq true place (v k) (Number 0))
  not_claims t r number variable' form inner v place claims =
      form_claims frame r (λ facts. None) (λ b at. inner (not b) at) (λ k. Binary operation.Eq true place (v k) (Number 0))
      (λ facts k c g h. none_is_some g h)
      (λ at k c b side.
      let z = given_is (evaluated c.store (v k)) (λ (x : Value). plain (flag (x.number == 0))) c.value c.is in
      let n : c.value.number ≡ flag (z.0.number == 0) = plain_is (flag (z.0.number == 0)) c.value z.2 in
      let inside : Comes frame at.facts (v k) = record { store = c.store; words = c.words; numbers = c.numbers; fits = c.fits; facts_hold = c.facts_hold; value = z.0; is = z.1 } in
      claims.sides at k inside (not b) (not_side (z.0.number == 0) b (ap (λ m. m == 0) (sym n) ∙ side)))

  -- a conversion to an integer type
  pub cast_claims : (t u r x : CType) (number : Option Constant) (variable' : Option Form) (form : Known → Option Form) (inner side : Bool → State → State) (v : ℕ → Expr)
      → Claims frame u number variable' form inner v → Same side → r ≡ t
      → Claims frame r None None (λ facts. in_type facts r (form facts)) side (λ k. cast t x (v k))
  cast_claims t u r x number variable' form inner side v claims same is =
      form_claims frame r (λ facts. in_type facts r (form facts)) side (λ k. cast t x (v k))
      (λ facts k c g h. exactly facts k c g h) (λ at k c b h. subst (AreTrueBy c.numbers) (sym (same b at)) c.facts_hold)
    where
      -- the value before the conversion
      before : (k : ℕ) → is_integer r ≡ true → cast t x (v k) ≡ converted r (v k)
      before k i = ap (λ y. cast y x (v k)) (sym is) ∙ ap (λ (b : Bool). if b && not (same_element r x) then Bare (v k) else converted r (v k)) (no_pointer r i)

      exactly : (facts : Known) (k : ℕ) (c : Comes frame facts (cast t x (v k))) (g : Form) → in_type facts r (form facts) ≡ Some g → IsExactBy c.numbers r g c.value.number
      exactly facts k c g h =
          let i : is_integer r ≡ true = in_type_integer facts r (form facts) g h in
          let f = number_in_type c.numbers (zero_is frame facts (cast t x (v k)) c) facts c.facts_hold r (form facts) g h in
          by i f.0 f.1 (is_char r) refl (sym (ap (evaluated c.store) (before k i)) ∙ c.is)
        where
          by : is_integer r ≡ true → form facts ≡ Some g → IsNumberOf r (number_of c.numbers g) → (b : Bool) → is_char r ≡ b
              → evaluated c.store (if b then Narrow (v k) else v k) ≡ Ok c.value → IsExactBy c.numbers r g c.value.number
          by i there within true narrow e =
              let z = given_is (evaluated c.store (v k)) (λ (y : Value). plain (y.number % 256)) c.value e in
              let inside : Comes frame facts (v k) = record { store = c.store; words = c.words; numbers = c.numbers; fits = c.fits; facts_hold = c.facts_hold; value = z.0; is = z.1 } in
              subst (IsExactBy c.numbers r g) (sym (plain_is (z.0.number % 256) c.value z.2))
              (byte_exact c.numbers r u g z.0.number i narrow (claims.exact facts k inside g there) within)
          by i there within false narrow e =
              let inside : Comes frame facts (v k) = record { store = c.store; words = c.words; numbers = c.numbers; fits = c.fits; facts_hold = c.facts_hold; value = c.value; is = e } in
              word_exact c.numbers r u g c.value.number i narrow (claims.exact facts k inside g there) within

-- a name
module _ (globals : Globals) (s : Setting) (agrees : Agrees globals s) where
  pub name_claims : (n : Name) (note : Note) (place : Pos) (side : Bool → State → State) → ((b : Bool) (at : State) → (side b at).facts ≡ at.facts)
      → type_of_name globals s.variables n ≡ Some note.ctype → (is_integer note.ctype ≡ true → note.range ≡ range.Missing)
      → Claims s.frame note.ctype None (variable s.frame n) (λ facts. variable s.frame n) side (λ k. named s.text s.variables note place n)
  name_claims n note place side same row bare = local_claims s.frame note.ctype (variable s.frame n) side (λ k. named s.text s.variables note place n) (is n row) same
    where
      local_is : (j : ℕ) (o : Option Local) → local_at s.frame j ≡ o → type_of_name globals s.variables (name.Local j) ≡ Some note.ctype → (f : Form) → variable_of j o ≡ Some f
          → IsVariable s.frame note.ctype (λ k. named s.text s.variables note place (name.Local j)) f
      local_is j None there row f e = none_is_some f e
      local_is j (Some l) there row f e = by (is_integer l.ctype) refl e
        where
          typed : l.ctype ≡ note.ctype
          typed = agrees.locals j l note.ctype there row

          by : (b : Bool) → is_integer l.ctype ≡ b → ◌≡◌ {A = Option Form} (if b then Some (record { base = None; var = j + 1; add = pos 0 }) else None) (Some f)
              → IsVariable s.frame note.ctype (λ k. named s.text s.variables note place (name.Local j)) f
          by true i e = record {
            number = j;
            local = l;
            there = there;
            integer = subst (λ u. is_integer u ≡ true) typed i;
            same = typed;
            form = sym (some_is _ f e);
            value_is = λ k. ap (local_in s.text s.variables note.ctype j) (bare (subst (λ u. is_integer u ≡ true) typed i));
          }
          by false i e = none_is_some f e

      is : (n : Name) → type_of_name globals s.variables n ≡ Some note.ctype → (f : Form) → variable s.frame n ≡ Some f
          → IsVariable s.frame note.ctype (λ k. named s.text s.variables note place n) f
      is (name.Local j) row f e = local_is j (local_at s.frame j) refl row f e
      is n row f e = none_is_some f e
