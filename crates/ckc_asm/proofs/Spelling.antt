-- What is found by a word is what the word spells.
use Rattle.std.proofs.Common.{◌≡◌, ◌↔◌, ℕ, ◌+◌, ◌-◌, ◌/◌, ◌%◌, ◌<◌, ◌≤◌, min, ℤ, pos, neg_ℤ, Bool, true, false, cond, ◌&&◌, ◌==◌, nat_lt, nat_le, List, [], ◌∷◌, ◌++◌, length, drop, bytes_eq, Option, Some, None, refl, sym, ap, subst, ◌∙◌, arith}
use Rattle.std.specs.List.{list_all, find}
use Rattle.std.specs.Option.{option_map}
use Rattle.std.specs.Char.{is_digit, digit_value}
use Rattle.std.specs.Str.Parse.{IsNumeral, AllDigits, digits_value}
use Rattle.std.proofs.lemmas.Bool.{ltb-true}
use Rattle.std.proofs.lemmas.Bool.Decides.{nat_tests, Decides-eqb}
use Rattle.std.proofs.lemmas.Fmt.{decimal_digit, decimal_step}
use Rattle.std.proofs.lemmas.Slice.Eq.{bytes_eq-Decides}
use Rattle.ckc_asm.specs.declared.items.Kind.{Kind}
use Rattle.ckc_asm.specs.declared.items.Kind.TheVariants as kind
use Rattle.ckc_asm.specs.Names.{register}
use Rattle.ckc_asm.specs.code.Numerals.{is_numeral, numeral_of, is_hexadecimal, number_of, short_register, long_number, long_register, register_of, byte_of}
use Rattle.ckc_asm.specs.Spelled.{beyond}
use Rattle.ckc_asm.specs.Items.{kind_name}
use Rattle.ckc_asm.specs.code.Found.{kinds, kind_of}
use Rattle.ckc_asm.specs.Spelled.{Spells, IsNumber, plain, negative, hexadecimal, IsByte, IsKind}
use Rattle.ckc_asm.specs.code.Spelled.{IsRegister}
use Rattle.ckc_asm.proofs.Numbers.{is_numeral_from, first_digit, no_x, register_back}
use Rattle.ckc_asm.proofs.KindNames.{branch_kind, load_kind, store_kind, imm_kind, reg_kind}

-- ---- tests and options

pub both : (a b : Bool) → (a && b) ≡ true → (a ≡ true) × (b ≡ true)
both true b e = (refl, e)
both false b e = absurd cc

when : {A : Type 0} (b : Bool) (x y : A) → cond b (Some x) None ≡ Some y → (b ≡ true) × (x ≡ y)
when true x y e = (refl, cc)
when false x y e = absurd cc

pub mapped : {A B : Type 0} (f : A → B) (o : Option A) (y : B) → option_map f o ≡ Some y → (x : A) × (o ≡ Some x) × (y ≡ f x)
mapped f None y e = absurd cc
mapped f (Some x) y e = (x, refl, cc)

same : (a b : ℕ) → (a == b) ≡ true → a ≡ b
same a b e = (Decides-eqb a b).0 e

-- ---- digits

all_digits : (radix : ℕ) (w : List ℕ) → list_all (λ b. is_digit b radix) w ≡ true → AllDigits radix w
all_digits radix [] e = tt
all_digits radix (b ∷ w) e = let p = both (is_digit b radix) (list_all (λ c. is_digit c radix) w) e in (ltb-true (digit_value b) radix p.0, all_digits radix w p.1)

numeral_is : (radix : ℕ) (w : List ℕ) → is_numeral radix w ≡ true → IsNumeral radix w
numeral_is radix w e = let p = both (nat_lt 0 (length w)) _ e in (ltb-true 0 (length w) p.0, all_digits radix w p.1)

numeral_found : (radix : ℕ) (w : List ℕ) (n : ℕ) → numeral_of radix w ≡ Some n → Spells radix w n
numeral_found radix w n e = let p = when (is_numeral radix w) (min (digits_value radix w) beyond) n e in (numeral_is radix w p.0, sym p.1)

numeral_made : (radix : ℕ) (w : List ℕ) (n : ℕ) → Spells radix w n → numeral_of radix w ≡ Some n
numeral_made radix w n s = rw (is_numeral_from radix w s.0) (ap Some (sym s.1))

-- ---- numbers

sign_found : (w : List ℕ) (z : ℤ) → option_map (λ n. neg_ℤ (pos n)) (numeral_of 10 w) ≡ Some z → IsNumber (45 ∷ w) z
sign_found w z e = let p = mapped (λ n. neg_ℤ (pos n)) (numeral_of 10 w) z e in negative w p.0 refl (numeral_found 10 w p.0 p.1) p.2

hex_found : (w : List ℕ) (z : ℤ) → option_map (λ n. pos n) (numeral_of 16 w) ≡ Some z → IsNumber (48 ∷ 120 ∷ w) z
hex_found w z e = let p = mapped (λ n. pos n) (numeral_of 16 w) z e in hexadecimal w p.0 refl (numeral_found 16 w p.0 p.1) p.2

plain_found : (w : List ℕ) (z : ℤ) → option_map (λ n. pos n) (numeral_of 10 w) ≡ Some z → IsNumber w z
plain_found w z e = let p = mapped (λ n. pos n) (numeral_of 10 w) z e in plain p.0 (numeral_found 10 w p.0 p.1) p.2

hex_words : (a : ℕ) (w : List ℕ) (z : ℤ) → is_hexadecimal (a ∷ w) ≡ true → option_map (λ n. pos n) (numeral_of 16 (drop 2 (a ∷ w))) ≡ Some z → IsNumber (a ∷ w) z
hex_words a [] z h e = let p = both (a == 48) _ h in absurd cc
hex_words a (b ∷ w) z h e =
    let p = both (a == 48) (b == 120) h in
    subst (λ x. IsNumber (x ∷ b ∷ w) z) (sym (same a 48 p.0)) (subst (λ y. IsNumber (48 ∷ y ∷ w) z) (sym (same b 120 p.1)) (hex_found w z e))

unsigned_found : (a : ℕ) (w : List ℕ) (z : ℤ) (hex : Bool) → is_hexadecimal (a ∷ w) ≡ hex
    → cond hex (option_map (λ n. pos n) (numeral_of 16 (drop 2 (a ∷ w)))) (option_map (λ n. pos n) (numeral_of 10 (a ∷ w))) ≡ Some z → IsNumber (a ∷ w) z
unsigned_found a w z true h e = hex_words a w z h e
unsigned_found a w z false h e = plain_found (a ∷ w) z e

signed_found : (a : ℕ) (w : List ℕ) (z : ℤ) (sign : Bool) → (a == 45) ≡ sign
    → cond sign (option_map (λ n. neg_ℤ (pos n)) (numeral_of 10 w))
    (cond (is_hexadecimal (a ∷ w)) (option_map (λ n. pos n) (numeral_of 16 (drop 2 (a ∷ w)))) (option_map (λ n. pos n) (numeral_of 10 (a ∷ w)))) ≡ Some z → IsNumber (a ∷ w) z
signed_found a w z true s e = subst (λ x. IsNumber (x ∷ w) z) (sym (same a 45 s)) (sign_found w z e)
signed_found a w z false s e = unsigned_found a w z (is_hexadecimal (a ∷ w)) refl e

number_found : (w : List ℕ) (z : ℤ) → number_of w ≡ Some z → IsNumber w z
number_found [] z e = absurd cc
number_found (a ∷ w) z e = signed_found a w z (a == 45) refl e

and_no : (a b : Bool) → b ≡ false → (a && b) ≡ false
and_no true b h = h
and_no false b h = refl

number_made : (w : List ℕ) (z : ℤ) → IsNumber w z → number_of w ≡ Some z
number_made w z (plain n s e) =
    let no_hex : is_hexadecimal w ≡ false = and_no _ _ (no_x w s.0.1) in
    rw (first_digit w s.0, no_hex, numeral_made 10 w n s, e) refl
number_made w z (negative digits n is s e) = ap number_of is ∙ ap (option_map (λ m. neg_ℤ (pos m))) (numeral_made 10 digits n s) ∙ ap Some (sym e)
number_made w z (hexadecimal digits n is s e) = ap number_of is ∙ ap (option_map (λ m. pos m)) (numeral_made 16 digits n s) ∙ ap Some (sym e)

pub numbers : (w : List ℕ) (z : ℤ) → (number_of w ≡ Some z) ↔ IsNumber w z
numbers w z = (number_found w z, number_made w z)

-- ---- registers

decimal_range : (b : ℕ) → is_digit b 10 ≡ true → (48 ≤ b) × (b < 58)
decimal_range b e = let h = ltb-true (digit_value b) 10 e in below b h
  where
    below : (b : ℕ) → digit_value b < 10 → (48 ≤ b) × (b < 58)
    below b h = grind (arith, nat_tests)

short_found : (a b n : ℕ) → short_register (a ∷ b ∷ []) ≡ Some n → IsRegister (a ∷ b ∷ []) n
short_found a b n e =
    let p = when (a == 120 && is_digit b 10) (b - 48) n e in
    let q = both (a == 120) (is_digit b 10) p.0 in
    let r = decimal_range b q.1 in
    let small : n < 10 = omega (arith, p.1, r.0, r.1) in
    let digit : 48 + n ≡ b = omega (arith, p.1, r.0, r.1) in
    (omega (arith, small), ap (λ x. x ∷ b ∷ []) (same a 120 q.0) ∙ ap (λ y. 120 ∷ y ∷ []) (sym digit) ∙ ap (λ l. 120 ∷ l) (sym (decimal_digit n small)))

two_digits : (n : ℕ) → 10 ≤ n → n < 32 → register n ≡ 120 ∷ (48 + n / 10) ∷ (48 + n % 10) ∷ []
two_digits n low high =
    ap (λ l. 120 ∷ l) (decimal_step n low (omega arith)) ∙ ap (λ l. 120 ∷ (l ++ (48 + n % 10) ∷ [])) (decimal_digit (n / 10) (omega arith))

long_found : (a b c n : ℕ) → long_register (a ∷ b ∷ c ∷ []) ≡ Some n → IsRegister (a ∷ b ∷ c ∷ []) n
long_found a b c n e =
    let value = long_number (a ∷ b ∷ c ∷ []) in
    let p = when (a == 120 && is_digit b 10 && is_digit c 10 && nat_le 10 value && nat_lt value 32) value n e in
    let q = both _ (nat_lt value 32) p.0 in
    let r = both _ (nat_le 10 value) q.0 in
    let s = both _ (is_digit c 10) r.0 in
    let t = both (a == 120) (is_digit b 10) s.0 in
    let high = decimal_range b t.1 in
    let low = decimal_range c s.1 in
    let below : n < 32 = omega (arith, p.1, ltb-true value 32 q.1) in
    let least : 10 ≤ n = omega (arith, p.1, at_least value r.1) in
    let first : 48 + n / 10 ≡ b = omega (arith, p.1, high.0, high.1, low.0, low.1) in
    let second : 48 + n % 10 ≡ c = omega (arith, p.1, high.0, high.1, low.0, low.1) in
    (below, ap (λ x. x ∷ b ∷ c ∷ []) (same a 120 t.0) ∙ ap (λ y. 120 ∷ y ∷ c ∷ []) (sym first) ∙ ap (λ y. 120 ∷ (48 + n / 10) ∷ y ∷ []) (sym second) ∙ sym (two_digits n least below))
  where
    at_least : (v : ℕ) → nat_le 10 v ≡ true → 10 ≤ v
    at_least v h = grind (arith, nat_tests)

no_length : (k : ℕ) (w : List ℕ) → (length w ≡ k → ⊥) → (length w == k) ≡ false
no_length k w h = grind (arith, nat_tests)

register_found : (w : List ℕ) (n : ℕ) → register_of w ≡ Some n → IsRegister w n
register_found [] n e = absurd cc
register_found (a ∷ []) n e = absurd cc
register_found (a ∷ b ∷ []) n e = short_found a b n e
register_found (a ∷ b ∷ c ∷ []) n e = long_found a b c n e
register_found (a ∷ b ∷ c ∷ d ∷ w) n e =
    let l = a ∷ b ∷ c ∷ d ∷ w in
    let two : (length l == 2) ≡ false = no_length 2 l (λ f. omega (arith, f)) in
    let three : (length l == 3) ≡ false = no_length 3 l (λ f. omega (arith, f)) in
    let none : register_of l ≡ None = rw (two, three) refl in
    absurd (let f : ◌≡◌ {A = Option ℕ} None (Some n) = sym none ∙ e in cc)

pub registers : (w : List ℕ) (n : ℕ) → (register_of w ≡ Some n) ↔ IsRegister w n
registers w n = (register_found w n, λ is. ap register_of is.1 ∙ register_back n is.0)

-- ---- bytes

byte_found : (w : List ℕ) (b : ℕ) → byte_of w ≡ Some b → IsByte w b
byte_found w b e =
    let p = when (length w == 2 && is_numeral 16 w) (digits_value 16 w) b e in
    let q = both (length w == 2) (is_numeral 16 w) p.0 in
    (same (length w) 2 q.0, numeral_is 16 w q.1, sym p.1)

byte_made : (w : List ℕ) (b : ℕ) → IsByte w b → byte_of w ≡ Some b
byte_made w b is =
    let two : (length w == 2) ≡ true = (Decides-eqb (length w) 2).1 is.0 in
    rw (two, is_numeral_from 16 w is.1) (ap Some (sym is.2))

pub bytes : (w : List ℕ) (b : ℕ) → (byte_of w ≡ Some b) ↔ IsByte w b
bytes w b = (byte_found w b, byte_made w b)

-- ---- kinds

passes_at : {X : Type 0} (p : X → Bool) (y x : X) (later : Option X) (b : Bool) → p y ≡ b → cond b (Some y) later ≡ Some x → (later ≡ Some x → p x ≡ true) → p x ≡ true
passes_at {X} p y x later true h f rest = let q : y ≡ x = cc in subst (λ (z : X). p z ≡ true) q h
passes_at {X} p y x later false h f rest = rest f

passes : {X : Type 0} (p : X → Bool) (xs : List X) (x : X) → find p xs ≡ Some x → p x ≡ true
passes p [] x e = absurd cc
passes p (y ∷ xs) x e = passes_at p y x (find p xs) (p y) refl e (passes p xs x)

kind_found : (w : List ℕ) (k : Kind) → kind_of w ≡ Some k → IsKind w k
unfolding kind_of
kind_found w k e = sym ((bytes_eq-Decides (kind_name k) w).0 (passes (λ (j : Kind). bytes_eq (kind_name j) w) kinds k e))

kind_made : (k : Kind) → kind_of (kind_name k) ≡ Some k
unfolding kind_of
kind_made kind.Lui = refl
kind_made kind.Auipc = refl
kind_made kind.Jal = refl
kind_made kind.Jalr = refl
kind_made (kind.Branch op) = (branch_kind op).0
kind_made (kind.Load op) = (load_kind op).0
kind_made (kind.Store op) = (store_kind op).0
kind_made (kind.Imm op) = (imm_kind op).0
kind_made (kind.Reg op) = (reg_kind op).0
kind_made kind.Fence = refl
kind_made kind.Ecall = refl
kind_made kind.Ebreak = refl
kind_made kind.Word = refl
kind_made kind.Entry = refl
kind_made kind.Data = refl

pub named_kinds : (w : List ℕ) (k : Kind) → (kind_of w ≡ Some k) ↔ IsKind w k
named_kinds w k = (kind_found w k, λ is. ap kind_of is ∙ kind_made k)
