-- Sums, differences and conversions are exactly what their forms stand for.
use Rattle.std.proofs.Common.{◌≡◌, ◌⊎◌, inl, refl, sym, ap, subst, ◌∙◌, ℕ, Bool, true, false, ℤ, ◌+ℤ◌, arith}
use Rattle.std.specs.Prelude.{◌+◌, ◌-◌, ◌%◌, ◌<◌, ◌^◌, ◌&&◌, if◌then◌else◌, pos, ◌-ℤ◌, Option, None, Some}
use Rattle.std.proofs.lemmas.Int.{ints}
use Rattle.ckc_base.specs.Words.{signed}
use Rattle.ckc_types.specs.declared.types.CType.{CType}
use Rattle.ckc_linear.specs.declared.forms.Form.{Form}
use Rattle.ckc_typed.specs.declared.environment.Constant.{Constant}
use Rattle.ckc_typed.specs.Types.{is_integer, is_char, is_unsigned}
use Rattle.ckc_typed.specs.Constants.{value_of}
use Rattle.ckc_bounds.specs.ckc_bounds_known.specs.Ranges.{is_small}
use Rattle.ckc_bounds.specs.ckc_bounds_points.specs.Forms.{constant_form, moved_form}
use Rattle.ckc_source.specs.declared.expr.Integer.TheVariants.{Int, Char}
use Rattle.ckc_source.specs.Words.{exact}
use Rattle.ckc_build_values.specs.Kinds.{integer_of}
use Rattle.ckc_blame_sound.specs.Values.{number_of, IsNumberOf}
use Rattle.ckc_blame_sound.specs.Exact.{IsExactBy}
use Rattle.ckc_blame_sound.proofs.IntegerWords.{InType, exact_is, read_back, sum_is, difference_is, narrowed_is}
use Rattle.ckc_blame_sound.proofs.Types.{IsWide, in_type_of, word_wide, wide_word, byte_word, char_is, int_is, unsigned_is}

-- a word that is an integer, or that more 2^32
pub record Spells (n : ℕ) (z : ℤ) : Type 0 where
  pub word : n < 2 ^ 32
  pub is : (z ≡ pos n) ⊎ (z ≡ pos n -ℤ pos (2 ^ 32))

moved_by : (f g : Form) (c : ℤ) (b : Bool) → ◌≡◌ {A = Option Form} (if b then Some (record f { add = f.add +ℤ c }) else None) (Some g) → record f { add = f.add +ℤ c } ≡ g
moved_by f g c true e = cc
moved_by f g c false e = absurd (cc)

-- a form that is moved stands for so much more
pub moved_is : (value : ℕ → ℤ) (o : Option Form) (c : ℤ) (g : Form) → moved_form o c ≡ Some g → (f : Form) × (o ≡ Some f) × (number_of value g ≡ number_of value f +ℤ c)
moved_is value None c g e = absurd (cc)
moved_is value (Some f) c g e =
    let h = moved_by f g c (is_small f.add && is_small c) e in
    (f, refl, sym (ap (number_of value) h) ∙ again)
  where
    again : value f.var +ℤ (f.add +ℤ c) ≡ (value f.var +ℤ f.add) +ℤ c
    again = omega (arith, ints)

-- the value of a constant
pub constant_spells : (c : Constant) → c.word < 2 ^ 32 → Spells c.word (value_of c)
constant_spells c h = record { word = h; is = by c.unsigned }
  where
    by : (b : Bool) → ((if b then pos c.word else signed c.word) ≡ pos c.word) ⊎ ((if b then pos c.word else signed c.word) ≡ pos c.word -ℤ pos (2 ^ 32))
    by true = inl refl
    by false = exact_is Int c.word h

module _ (numbers : ℕ → ℤ) where
  pub exact_spells : (t : CType) (f : Form) (n : ℕ) → IsExactBy numbers t f n → Spells n (number_of numbers f)
  exact_spells t f n e =
      let w : n < 2 ^ 32 = word_wide t n e.word in
      record { word = w; is = subst (λ z. (z ≡ pos n) ⊎ (z ≡ pos n -ℤ pos (2 ^ 32))) e.number (exact_is (integer_of t) n w) }

  pub sum_exact : (t : CType) (u : Bool) (g : Form) (a b : ℕ) (x y : ℤ) → IsWide t u → Spells a x → Spells b y → number_of numbers g ≡ x +ℤ y
      → IsNumberOf t (number_of numbers g) → IsExactBy numbers t g ((a + b) % 2 ^ 32)
  sum_exact t u g a b x y w p q e r = record {
    word = wide_word t ((a + b) % 2 ^ 32) w.wide (omega arith);
    number = sum_is (integer_of t) a b x y p.word q.word p.is q.is (subst (InType (integer_of t)) e (in_type_of t (number_of numbers g) w.integer r)) ∙ sym e;
  }

  pub difference_exact : (t : CType) (u : Bool) (g : Form) (a b : ℕ) (x y : ℤ) → IsWide t u → Spells a x → Spells b y → number_of numbers g ≡ x -ℤ y
      → IsNumberOf t (number_of numbers g) → IsExactBy numbers t g ((a + (2 ^ 32 - b)) % 2 ^ 32)
  difference_exact t u g a b x y w p q e r = record {
    word = wide_word t ((a + (2 ^ 32 - b)) % 2 ^ 32) w.wide (omega arith);
    number = difference_is (integer_of t) a b x y p.word q.word p.is q.is (subst (InType (integer_of t)) e (in_type_of t (number_of numbers g) w.integer r)) ∙ sym e;
  }

  -- a constant is its value
  pub constant_exact : numbers 0 ≡ pos 0 → (t : CType) (c : Constant) → IsWide t c.unsigned → c.word < 2 ^ 32 → IsExactBy numbers t (constant_form (value_of c)) c.word
  constant_exact zero_is t c w h = record { word = wide_word t c.word w.wide h; number = by c.unsigned w.unsigned_is ∙ zero_more (value_of c) }
    where
      zero_more : (z : ℤ) → z ≡ numbers 0 +ℤ z
      zero_more z = omega (arith, ints)

      by : (b : Bool) → is_unsigned t ≡ b → exact (integer_of t) c.word ≡ (if b then pos c.word else signed c.word)
      by true u = ap (λ i. exact i c.word) (unsigned_is t w.integer u)
      by false u = ap (λ i. exact i c.word) (int_is t w.wide u)

  -- A conversion to an integer type keeps what is a number of it: to `char` by the lowest byte.
  pub byte_exact : (t u : CType) (f : Form) (n : ℕ) → is_integer t ≡ true → is_char t ≡ true → IsExactBy numbers u f n → IsNumberOf t (number_of numbers f)
      → IsExactBy numbers t f (n % 256)
  byte_exact t u f n i c e r =
      let s : Spells n (number_of numbers f) = exact_spells u f n e in
      let is : integer_of t ≡ Char = char_is t c in
      let z : InType Char (number_of numbers f) = subst (λ k. InType k (number_of numbers f)) is (in_type_of t (number_of numbers f) i r) in
      record { word = byte_word t (n % 256) c (omega arith); number = ap (λ k. exact k (n % 256)) is ∙ narrowed_is n (number_of numbers f) s.is s.word z }

  pub word_exact : (t u : CType) (f : Form) (n : ℕ) → is_integer t ≡ true → is_char t ≡ false → IsExactBy numbers u f n → IsNumberOf t (number_of numbers f)
      → IsExactBy numbers t f n
  word_exact t u f n i c e r =
      let s : Spells n (number_of numbers f) = exact_spells u f n e in
      record { word = wide_word t n c s.word; number = read_back (integer_of t) n (number_of numbers f) s.word (in_type_of t (number_of numbers f) i r) s.is }
