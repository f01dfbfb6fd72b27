-- What is claimed of an expression, by what is said of it and by what it becomes.
use Rattle.std.proofs.Common.{◌≡◌, inl, refl, sym, ap, ℕ, Bool, true, false, ℤ}
use Rattle.std.specs.Prelude.{◌+◌, ◌==◌, ◌<◌, ◌^◌, not, pos, Option, None, Some, Result, Ok, Err}
use Rattle.ckc_types.specs.declared.types.CType.{CType}
use Rattle.ckc_linear.specs.declared.forms.Form.{Form}
use Rattle.ckc_typed.specs.declared.environment.Constant.{Constant}
use Rattle.ckc_typed.specs.Types.{is_integer, is_unsigned, is_char}
use Rattle.ckc_bounds.specs.ckc_bounds_points.specs.declared.frame.Local.{Local}
use Rattle.ckc_bounds.specs.ckc_bounds_points.specs.declared.frame.Frame.{Frame}
use Rattle.ckc_bounds.specs.ckc_bounds_points.specs.Shown.{Known}
use Rattle.ckc_bounds.specs.ckc_bounds_points.specs.Frames.{local_at}
use Rattle.ckc_bounds.specs.ckc_bounds_points.specs.Flow.{State}
use Rattle.ckc_source.specs.declared.outcome.Value.{Value}
use Rattle.ckc_source.specs.declared.outcome.Halt.{Halt}
use Rattle.ckc_source.specs.Code.{Expr, Local as LocalExpr}
use Rattle.ckc_source.specs.Eval.{Store, given, given_both, plain, evaluated}
use Rattle.ckc_blame_sound.specs.Values.{HoldWords}
use Rattle.ckc_blame_sound.specs.Variables.{HaveValues, AreTrueBy}
use Rattle.ckc_blame_sound.specs.Exact.{IsExactBy}

module _ (frame : Frame) where
  -- the word of a constant is its value in every store
  pub record IsConstant (t : CType) (value : ℕ → Expr) (c : Constant) : Type 0 where
    pub integer : is_integer t ≡ true
    pub unsigned : is_unsigned t ≡ c.unsigned
    pub wide : is_char t ≡ false
    pub word : c.word < 2 ^ 32
    pub value_is : (store : Store) (k : ℕ) → evaluated store (value k) ≡ plain c.word

  -- an integer local by its name
  pub record IsVariable (t : CType) (value : ℕ → Expr) (f : Form) : Type 0 where
    pub number : ℕ
    pub local : Local
    pub there : local_at frame number ≡ Some local
    pub integer : is_integer t ≡ true
    pub same : local.ctype ≡ t
    pub form : f ≡ record { base = None; var = number + 1; add = pos 0 }
    pub value_is : (k : ℕ) → value k ≡ LocalExpr number

  -- a value that an expression has in a store, with numbers of variables of which the facts are true
  pub record Comes (facts : Known) (e : Expr) : Type 0 where
    pub store : Store
    pub words : HoldWords frame store.locals
    pub numbers : ℕ → ℤ
    pub fits : HaveValues frame store.locals numbers
    pub facts_hold : AreTrueBy numbers facts
    pub value : Value
    pub is : evaluated store e ≡ Ok value

  -- the variable 0 has the number zero
  pub zero_is : (facts : Known) (e : Expr) (c : Comes facts e) → c.numbers 0 ≡ pos 0
  zero_is facts e c = c.fits 0 (inl refl)

  pub record Claims (t : CType) (number : Option Constant) (variable : Option Form) (form : Known → Option Form) (side : Bool → State → State) (value : ℕ → Expr) : Type 0 where
    pub constant : (c : Constant) → number ≡ Some c → IsConstant t value c
    pub local : (f : Form) → variable ≡ Some f → IsVariable t value f
    pub exact : (facts : Known) (k : ℕ) (c : Comes facts (value k)) (f : Form) → form facts ≡ Some f → IsExactBy c.numbers t f c.value.number
    pub sides : (at : State) (k : ℕ) (c : Comes at.facts (value k)) (b : Bool) → (c.value.number == 0) ≡ not b → AreTrueBy c.numbers (side b at).facts

-- ---- values that come of values

pub given_is : {A B : Type 0} (x : Result A Halt) (f : A → Result B Halt) (v : B) → given x f ≡ Ok v → (a : A) × (x ≡ Ok a) × (f a ≡ Ok v)
given_is (Ok a) f v e = (a, refl, e)
given_is (Err h) f v e = absurd (cc)

pub both_are : {A B C : Type 0} (x : Result A Halt) (y : Result B Halt) (f : A → B → Result C Halt) (v : C) → given_both x y f ≡ Ok v
    → (a : A) × (b : B) × (x ≡ Ok a) × (y ≡ Ok b) × (f a b ≡ Ok v)
both_are x y f v e =
    let p = given_is x (λ a. given y (f a)) v e in
    let q = given_is y (f p.0) v p.2 in
    (p.0, q.0, p.1, q.1, q.2)

ok_same : {A : Type 0} (a b : A) → ◌≡◌ {A = Result A Halt} (Ok a) (Ok b) → a ≡ b
ok_same a b e = cc

pub plain_is : (n : ℕ) (v : Value) → plain n ≡ Ok v → v.number ≡ n
plain_is n v e = ap (λ (w : Value). w.number) (sym (ok_same _ v e))
