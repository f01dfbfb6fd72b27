-- Valuations that say more than others, and the numbers that fresh variables stand for.
use Rattle.std.proofs.Common.{◌≡◌, inl, inr, refl, sym, ap, subst, ◌∙◌, ℕ, Bool, true, false, List, [], ◌∷◌, ◌++◌, length, length-append, arith}
use Rattle.std.specs.Prelude.{◌==◌, ◌+◌, ◌<◌, ◌≤◌, ◌^◌, if◌then◌else◌, nat_lt, nat_le, ℤ, pos, Option, None, Some, IfSome}
use Rattle.std.proofs.lemmas.Bool.{ltb-true}
use Rattle.std.proofs.lemmas.Bool.Decides.{nat_tests}
use Rattle.std.proofs.lemmas.Int.{ints}
use Rattle.ckc_types.specs.declared.types.CType.{CType, CType-F, out-CType}
use Rattle.ckc_linear.specs.declared.forms.Base.{Base}
use Rattle.ckc_linear.specs.declared.forms.Base.TheVariants as base
use Rattle.ckc_typed.specs.declared.typed.Range.{Range}
use Rattle.ckc_typed.specs.declared.typed.Range.TheVariants as range
use Rattle.ckc_blame_sound.specs.ckc_bounds_known.specs.Ranges.{range_in}
use Rattle.ckc_blame_sound.specs.ckc_bounds_views.specs.Parts.{capped, next_behind, with_last}
use Rattle.ckc_blame_sound.specs.Settings.{Setting}
use Rattle.ckc_blame_sound.specs.Values.{value, IsBetween, IsNumberOf}
use Rattle.ckc_blame_sound.specs.Bodies.{AreFresh}
use Rattle.ckc_blame_pointers.specs.Valuations.{Valuation, Fits, Extends, AreNumbers, BaseBetween, RangeBetween}

-- ---- valuations that say more

pub extends_self : (first fresh : ℕ) (v : Valuation) → Extends first fresh v v
extends_self first fresh v = record { addresses = λ n h. refl; numbers = λ x h. refl }

-- what is the same up to some numbers is so up to lesser ones
pub extends_less : (first fresh next more : ℕ) (v w : Valuation) → first ≤ next → fresh ≤ more → Extends next more v w → Extends first fresh v w
extends_less first fresh next more v w a b e = record { addresses = λ n below. e.addresses n (omega arith); numbers = λ x below. e.numbers x (omega arith) }

pub extends_on : (first fresh : ℕ) (u v w : Valuation) → Extends first fresh u v → Extends first fresh v w → Extends first fresh u w
extends_on first fresh u v w a b = record { addresses = λ n h. b.addresses n h ∙ a.addresses n h; numbers = λ x h. b.numbers x h ∙ a.numbers x h }

-- the variables of integers have their own numbers in every valuation that extends one in which they do
pub still_fits : (s : Setting) (locals : List ℕ) (first fresh : ℕ) (before after : Valuation) → AreFresh s.frame fresh → Fits s.frame locals before → Extends first fresh before after
    → Fits s.frame locals after
still_fits s locals first fresh before after are fits more x (inl e) = more.numbers x (subst (λ y. y ≤ fresh) (sym e) (omega arith)) ∙ fits x (inl e)
still_fits s locals first fresh before after are fits more x (inr (k, l, e, there, integer)) = by (nat_lt k fresh) refl
  where
    by : (b : Bool) → nat_lt k fresh ≡ b → after.numbers x ≡ value s.frame locals x
    by true h = let less : k < fresh = ltb-true k fresh h in more.numbers x (omega arith) ∙ fits x (inr (k, l, e, there, integer))
    by false h = let not_less : fresh ≤ k = grind (arith, nat_tests) in let not_integer = are k l not_less there in absurd (cc)

-- ---- how values are numbered

pub base_wider : (first next m n : ℕ) (b : Option Base) → first ≤ next → m ≤ n → BaseBetween next m b → BaseBetween first n b
base_wider first next m n (Some (base.Value k)) a h g = (omega (arith, g.0), omega (arith, g.1))
base_wider first next m n (Some (base.Local k)) a h g = tt
base_wider first next m n (Some (base.Array k)) a h g = tt
base_wider first next m n None a h g = absurd g

pub range_wider : (first next m n : ℕ) (r : Range) → first ≤ next → m ≤ n → RangeBetween next m r → RangeBetween first n r
range_wider first next m n (range.Known low high) a h g = (base_wider first next m n low.base a h g.0, base_wider first next m n high.base a h g.1)
range_wider first next m n range.Missing a h g = tt
range_wider first next m n range.Any a h g = tt

-- ---- how fresh variables are numbered

pub capped_more : (m n : ℕ) → m < 2 ^ 32 → m ≤ capped m n
capped_more m n h = omega arith

pub capped_small : (m n : ℕ) → capped m n < 2 ^ 32
capped_small m n = omega arith

pub next_more : (fresh : ℕ) (ts : List CType) → fresh + length ts < 2 ^ 32 → fresh ≤ next_behind fresh ts
next_more fresh ts h = omega arith

-- Where there is room for the fresh variables of two parts, there is for those of each.
pub left_room : (fresh : ℕ) (ts us : List CType) → fresh + length (ts ++ us) < 2 ^ 32 → fresh + length ts < 2 ^ 32
left_room fresh ts us h = omega (arith, length-append ts us)

pub right_room : (fresh : ℕ) (ts us : List CType) → fresh + length (ts ++ us) < 2 ^ 32 → next_behind fresh ts + length us < 2 ^ 32
right_room fresh ts us h = omega (arith, length-append ts us)

pub parts_room : (fresh : ℕ) (ts : List CType) (o : Option CType) → fresh + length (with_last ts o) < 2 ^ 32 → fresh + length ts < 2 ^ 32
parts_room fresh ts None h = h
parts_room fresh ts (Some t) h = left_room fresh ts (t ∷ []) h

pub next_both : (fresh : ℕ) (ts us : List CType) → fresh + length (ts ++ us) < 2 ^ 32 → next_behind (next_behind fresh ts) us ≡ next_behind fresh (ts ++ us)
next_both fresh ts us h = omega (arith, length-append ts us)

-- ---- the numbers of fresh variables

zero_number : (t : CType) → IsNumberOf t (pos 0)
zero_number t = by (out-CType t)
  where
    by : (f : CType-F CType) → IsBetween (range_in f) (pos 0)
    by CType-F.Int = (omega (arith, ints), omega (arith, ints))
    by CType-F.Unsigned = (omega (arith, ints), omega (arith, ints))
    by CType-F.Char = (omega (arith, ints), omega (arith, ints))
    by CType-F.Void = tt
    by (CType-F.Struct tag) = tt
    by (CType-F.Pointer k u) = tt

-- zero is of the type of the fresh variable that an expression needs itself, if it needs one
pub zero_typed : (o : Option CType) → IfSome o (λ t. IsNumberOf t (pos 0))
zero_typed None = tt
zero_typed (Some t) = zero_number t

-- a valuation in which the variables after a number stand for zero
abbrev pub with_zeros : ℕ → Valuation → Valuation
with_zeros fresh v = record v { numbers = λ x. if nat_le x fresh then v.numbers x else pos 0 }

pub zeros_extend : (first fresh : ℕ) (v : Valuation) → Extends first fresh v (with_zeros fresh v)
zeros_extend first fresh v = record { addresses = λ n h. refl; numbers = λ x h. ap (λ (b : Bool). if b then v.numbers x else pos 0) (there x h) }
  where
    there : (x : ℕ) → x ≤ fresh → nat_le x fresh ≡ true
    there x h = grind (arith, nat_tests)

zeros_from : (fresh : ℕ) (v : Valuation) (ts : List CType) (x : ℕ) → fresh < x → x < 2 ^ 32 → AreNumbers (with_zeros fresh v).numbers x ts
zeros_from fresh v [] x a b = tt
zeros_from fresh v (t ∷ ts) x a b = (subst (IsNumberOf t) (sym (ap (λ (b : Bool). if b then v.numbers x else pos 0) past)) (zero_number t), zeros_from fresh v ts (capped x 1) (omega arith) (omega arith))
  where
    past : nat_le x fresh ≡ false
    past = grind (arith, nat_tests)

pub zeros_numbers : (fresh : ℕ) (v : Valuation) (ts : List CType) → fresh + length ts < 2 ^ 32 → AreNumbers (with_zeros fresh v).numbers (capped fresh 1) ts
zeros_numbers fresh v [] h = tt
zeros_numbers fresh v (t ∷ ts) h = zeros_from fresh v (t ∷ ts) (capped fresh 1) (above fresh (length (t ∷ ts)) (some ts) h) (capped_small fresh 1)
  where
    above : (fresh n : ℕ) → 0 < n → fresh + n < 2 ^ 32 → fresh < capped fresh 1
    above fresh n some h = omega arith

    some : (ts : List CType) → 0 < length (t ∷ ts)
    some ts = omega arith

kept_from : (v w : ℕ → ℤ) (last : ℕ) → ((x : ℕ) → x ≤ last → w x ≡ v x) → (ts : List CType) (x : ℕ) → x + length ts ≤ last + 1 → AreNumbers v x ts → AreNumbers w x ts
kept_from v w last same [] x h a = tt
kept_from v w last same (t ∷ ts) x h a = (subst (IsNumberOf t) (sym (same x (omega arith))) a.0, kept_from v w last same ts (capped x 1) (omega arith) a.1)

-- what the fresh variables of a part stand for stays
pub numbers_kept : (v w : Valuation) (first fresh : ℕ) (ts : List CType) → fresh + length ts < 2 ^ 32 → Extends first (next_behind fresh ts) v w → AreNumbers v.numbers (capped fresh 1) ts
    → AreNumbers w.numbers (capped fresh 1) ts
numbers_kept v w first fresh ts h e a = kept_from v.numbers w.numbers (next_behind fresh ts) e.numbers ts (capped fresh 1) (room fresh (length ts) h) a
  where
    room : (fresh n : ℕ) → fresh + n < 2 ^ 32 → capped fresh 1 + n ≤ capped fresh n + 1
    room fresh n h = omega arith

both_from : (v : ℕ → ℤ) (ts us : List CType) (x y : ℕ) → x < 2 ^ 32 → y ≡ capped x (length ts) → AreNumbers v x ts → AreNumbers v y us → AreNumbers v x (ts ++ us)
both_from v [] us x y small e a b = subst (λ y. AreNumbers v y us) (e ∙ none) b
  where
    none : capped x 0 ≡ x
    none = omega arith
both_from v (t ∷ ts) us x y small e a b = (a.0, both_from v ts us (capped x 1) y (capped_small x 1) (e ∙ on) a.1 b)
  where
    on : capped x (length (t ∷ ts)) ≡ capped (capped x 1) (length ts)
    on = omega arith

pub numbers_both : (v : Valuation) (fresh : ℕ) (ts us : List CType) → AreNumbers v.numbers (capped fresh 1) ts → AreNumbers v.numbers (capped (next_behind fresh ts) 1) us
    → AreNumbers v.numbers (capped fresh 1) (ts ++ us)
numbers_both v fresh ts us a b = both_from v.numbers ts us (capped fresh 1) (capped (next_behind fresh ts) 1) (capped_small fresh 1) (on fresh (length ts)) a b
  where
    on : (m n : ℕ) → capped (capped m n) 1 ≡ capped (capped m 1) n
    on m n = omega arith

-- a valuation in which a variable stands for a number
abbrev pub with_number : ℕ → ℤ → Valuation → Valuation
with_number x z v = record v { numbers = λ y. if y == x then z else v.numbers y }

pub number_added : (x : ℕ) (z : ℤ) (v : Valuation) → (with_number x z v).numbers x ≡ z
number_added x z v = ap (λ (b : Bool). if b then z else v.numbers x) same
  where
    same : (x == x) ≡ true
    same = grind (arith, nat_tests)

pub number_kept : (x : ℕ) (z : ℤ) (v : Valuation) (y : ℕ) → y < x → (with_number x z v).numbers y ≡ v.numbers y
number_kept x z v y h = ap (λ (b : Bool). if b then z else v.numbers y) different
  where
    different : (y == x) ≡ false
    different = grind (arith, nat_tests)

-- the same for the fresh variable that an expression needs itself, if it needs one
abbrev pub with_own_number : Option CType → ℕ → ℤ → Valuation → Valuation
with_own_number None fresh z v = v
with_own_number (Some t) fresh z v = with_number (capped fresh 1) z v

-- ---- what the parts of an expression and its own fresh variable stand for

module _ (fresh : ℕ) (ts : List CType) (z : ℤ) (before : Valuation) where
  abbrev pub numbered : Option CType → Valuation
  numbered o = with_own_number o (next_behind fresh ts) z (with_zeros fresh before)

  -- the variables up to the last of the parts keep their numbers
  parts_extend : (first : ℕ) (o : Option CType) → fresh + length (with_last ts o) < 2 ^ 32 → Extends first (next_behind fresh ts) (with_zeros fresh before) (numbered o)
  parts_extend first None h = extends_self first (next_behind fresh ts) (with_zeros fresh before)
  parts_extend first (Some t) h = record {
    addresses = λ n h. refl;
    numbers = λ x below. number_kept (capped (next_behind fresh ts) 1) z (with_zeros fresh before) x (above (next_behind fresh ts) (right_room fresh ts (t ∷ []) h) x below);
  }
    where
      above : (last : ℕ) → last + 1 < 2 ^ 32 → (x : ℕ) → x ≤ last → x < capped last 1
      above last h x below = omega arith

  pub numbered_extends : (first : ℕ) (o : Option CType) → fresh + length (with_last ts o) < 2 ^ 32 → Extends first fresh before (numbered o)
  numbered_extends first o h =
      extends_on first fresh before (with_zeros fresh before) (numbered o) (zeros_extend first fresh before)
      (extends_less first fresh first (next_behind fresh ts) (with_zeros fresh before) (numbered o) (omega arith) (next_more fresh ts (parts_room fresh ts o h)) (parts_extend first o h))

  pub numbered_numbers : (o : Option CType) → fresh + length (with_last ts o) < 2 ^ 32 → IfSome o (λ t. IsNumberOf t z) → AreNumbers (numbered o).numbers (capped fresh 1) (with_last ts o)
  numbered_numbers None h is = zeros_numbers fresh before ts h
  numbered_numbers (Some t) h is =
      numbers_both (numbered (Some t)) fresh ts (t ∷ [])
      (numbers_kept (with_zeros fresh before) (numbered (Some t)) 0 fresh ts (parts_room fresh ts (Some t) h) (parts_extend 0 (Some t) h) (zeros_numbers fresh before ts (parts_room fresh ts (Some t) h)))
      (subst (IsNumberOf t) (sym (number_added (capped (next_behind fresh ts) 1) z (with_zeros fresh before))) is, tt)

  -- in later valuations too
  pub number_there : (o : Option CType) → fresh + length (with_last ts o) < 2 ^ 32 → (later : Valuation) → ((x : ℕ) → x ≤ next_behind fresh (with_last ts o) → later.numbers x ≡ (numbered o).numbers x)
      → IfSome o (λ t. later.numbers (capped (next_behind fresh ts) 1) ≡ z)
  number_there None h later e = tt
  number_there (Some t) h later e =
      e (capped (next_behind fresh ts) 1) (last fresh (length ts) (length (ts ++ t ∷ [])) (length-append ts (t ∷ []))) ∙ number_added (capped (next_behind fresh ts) 1) z (with_zeros fresh before)
    where
      last : (m n k : ℕ) → k ≡ n + 1 → capped (capped m n) 1 ≤ capped m k
      last m n k e = omega arith
