-- The quick test of an access: behind a pointer that has a count of elements, an index is in reach exactly if it is
-- below the count as a word.
use Rattle.std.proofs.Common.{◌≡◌, ℕ, suc, ◌+◌, ◌-◌, ◌*◌, ◌/◌, ◌%◌, ◌^◌, ◌≤◌, ◌<◌, ◌==◌, refl, sym, ◌∙◌, ap, subst, arith}
use Rattle.std.specs.Prelude.{ℤ, pos, List, negsuc, neg_ℤ, ◌+ℤ◌, ◌*ℤ◌, slice_index, nat_lt, nat_le, not, ◌&&◌, Bool, true, false, if◌then◌else◌, Option, Some, None, Result, Ok, Err}
use Rattle.std.proofs.lemmas.Int.{ints}
use Rattle.std.proofs.lemmas.Bool.Decides.{nat_tests}
use Rattle.std.proofs.Math.IntN.{pos-*ℤ-pos, pos-*ℤ-negsuc}
use Rattle.std.proofs.Math.Nat.{mul-le-mul_left, div-add-mod}
use Rattle.std.proofs.lemmas.Bool.{eqb-true}
use Rattle.ckc_base.specs.declared.places.Pos.{Pos}
use Rattle.ckc_base.specs.declared.runtime_checks.Check.TheVariants as check
use Rattle.ckc_base.specs.declared.arithmetic.BinOp.TheVariants as binary
use Rattle.ckc_base.specs.Memory.{Memory}
use Rattle.ckc_base.specs.Activations.{Values}
use Rattle.ckc_base.specs.Words.{signed, word_of, applied}
use Rattle.ckc_source.specs.declared.expr.Integer.{Integer}
use Rattle.ckc_source.specs.declared.expr.Integer.TheVariants as integer
use Rattle.ckc_source.specs.declared.expr.Limits.{Limits}
use Rattle.ckc_source.specs.declared.expr.Variable.{Variable}
use Rattle.ckc_source.specs.declared.outcome.Halt.{Halt}
use Rattle.ckc_source.specs.declared.outcome.Value.{Value}
use Rattle.ckc_source.specs.declared.outcome.Range.TheVariants.{Within}
use Rattle.ckc_source.specs.Words.{exact, as_address, elements_behind}
use Rattle.ckc_source.specs.Code as source
use Rattle.ckc_source.specs.Eval.{Store, given, stops, at_address, in_range, amount, end_address, evaluated}
use Rattle.ckc_core.specs.Code as core
use Rattle.ckc_core.specs.Meaning.{value_of, nodes}
use Rattle.ckc_checks_operands.specs.Compilable.{IsSmall, IsVariable, AreEnds, IsRanged, IsCompilableExpr}
use Rattle.ckc_checks_operands.specs.Cases.{is_own, is_fixed_end, is_ranged}
use Rattle.ckc_checks_operands.specs.code.Pointers.{amount_at, are_counted, is_whole, is_counted, count_of, is_array}
use Rattle.ckc_checks_follow.proofs.Exact.{low_signed, product_high}
use Rattle.ckc_checks_follow.proofs.Bounded.{Gives, reads_number}
use Rattle.ckc_checks_follow.proofs.Bytes.{and_true}
use Rattle.ckc_checks_follow.proofs.Single.{none_behind, own_address, fixed_end}
use Rattle.ckc_checks_follow.proofs.Values.{Agree, Sees, at_offset_value}
use Rattle.ckc_checks_follow.proofs.Ends.{IsWord, number_word, member_word}
use Rattle.ckc_checks_follow.proofs.Counts.{amount_nodes}
use Rattle.ckc_checks_follow.proofs.Ranges.{is_under, read_range}

-- ---- products

times : (size a b : ℕ) → size * (a + b) ≡ size * a + size * b
times size a b = grind arith

product_more : (size w k : ℕ) → w < k → size * w + size ≤ size * k
product_more size w k h =
    let more : size * (w + 1) ≤ size * k = mul-le-mul_left size (omega arith) in
    omega (arith, more, times size w 1)

pub product_most : (size k w : ℕ) → k ≤ w → size * k ≤ size * w
product_most size k w h = mul-le-mul_left size h

at_least : (size w : ℕ) → 1 ≤ size → w ≤ size * w
at_least size w h =
    let more : 1 * w ≤ size * w = grind (arith) in
    omega (arith, more)

-- ---- the amount of limits whose range is true

below_zero : (p q e : ℕ) → pos p +ℤ neg_ℤ (pos q) ≡ pos e → p ≡ e + q
below_zero p q e h = omega (arith, ints)

some_product : (size c : ℕ) → 1 ≤ size → 1 ≤ size * (c + 1)
some_product size c h = omega (arith, at_least size (c + 1) h)

-- the word of an amount is the amount, if the end is an address that is not below the begin
pub count_word : (size p w e : ℕ) (z : ℤ) → 1 ≤ size → IsWord z 8589934592 w → pos p +ℤ (pos size *ℤ z) ≡ pos e → p ≤ e → e < 2147483648 → e ≡ p + size * w
count_word size p w e (pos m) some is h order low =
    let t = is.0 in
    let sum : m + 8589934592 ≡ t = let same : pos (m + 8589934592) ≡ pos t = is.1 in cc in
    let word : t % 4294967296 ≡ w = is.2 in
    let ends : pos (p + size * m) ≡ pos e = sym (ap (λ z. pos p +ℤ z) (pos-*ℤ-pos size m)) ∙ h in
    let ended : p + size * m ≡ e = cc in
    let few : m ≤ size * m = at_least size m some in
    let same : w ≡ m = omega arith in
    omega (arith, ended, ap (λ n. size * n) same)
count_word size p w e (negsuc m) some is h order low =
    let ends : pos p +ℤ neg_ℤ (pos (size * suc m)) ≡ pos e = sym (ap (λ z. pos p +ℤ z) (pos-*ℤ-negsuc size m)) ∙ h in
    let ended : p ≡ e + size * suc m = below_zero p (size * suc m) e ends in
    let more : suc m ≤ size * suc m = at_least size (suc m) some in
    absurd (omega arith)

-- ---- the index

exact_small : (form : Integer) (k : ℕ) → k < 2147483648 → exact form k ≡ pos k
exact_small integer.Int k h = low_signed k h
exact_small integer.Unsigned k h = refl
exact_small integer.Char k h = refl

element_small : (form : Integer) (size v k : ℕ) → k < 2147483648 → elements_behind v size (exact form k) ≡ pos (v + size * k)
element_small form size v k h = ap (λ z. pos v +ℤ (pos size *ℤ z)) (exact_small form k h) ∙ ap (λ z. pos v +ℤ z) (pos-*ℤ-pos size k)

pub under_most : (last : Bool) (k w : ℕ) → is_under last k w ≡ true → k ≤ w
under_most true k w e = grind (arith, nat_tests)
under_most false k w e = grind (arith, nat_tests)

under_there : (last : Bool) (size v k w : ℕ) → 1 ≤ size → is_under last k w ≡ true → is_under last (v + size * k) (v + size * w) ≡ true
under_there true size v k w some e =
    let le : k ≤ w = grind (arith, nat_tests) in
    let most : size * k ≤ size * w = product_most size k w le in
    grind (arith, nat_tests)
under_there false size v k w some e =
    let less : k < w = grind (arith, nat_tests) in
    let most : size * k + size ≤ size * w = product_more size k w less in
    grind (arith, nat_tests)

-- an element below the count is there
pub reach_inside : (last : Bool) (form : Integer) (size v k w : ℕ) (place : Pos) → 1 ≤ size → v + size * w < 2147483648 → is_under last k w ≡ true
    → given (at_address (as_address (elements_behind v size (exact form k))) place) (in_range last (Within v (v + size * w)) place) ≡ Ok (v + size * k)
reach_inside last form size v k w place some low e =
    let le : k ≤ w = under_most last k w e in
    let few : w ≤ size * w = at_least size w some in
    let most : size * k ≤ size * w = product_most size k w le in
    let less : nat_lt (v + size * k) (2 ^ 32) ≡ true = grind (arith, nat_tests) in
    let above : nat_le v (v + size * k) ≡ true = grind (arith, nat_tests) in
    ap (λ z. given (at_address (as_address z) place) (in_range last (Within v (v + size * w)) place)) (element_small form size v k (omega arith))
    ∙ ap (λ b. given (at_address (if b then Some (v + size * k) else None) place) (in_range last (Within v (v + size * w)) place)) less
    ∙ ap (λ b. if b && is_under last (v + size * k) (v + size * w) then Ok (v + size * k) else stops check.Bounds place) above
    ∙ ap (λ b. if b then Ok (v + size * k) else stops check.Bounds place) (under_there last size v k w some e)

-- ---- an element that is not below the count

over : (last : Bool) (size v k w : ℕ) → 1 ≤ size → is_under last k w ≡ false → is_under last (v + size * k) (v + size * w) ≡ false
over true size v k w some e =
    let more : w < k = grind (arith, nat_tests) in
    let most : size * w + size ≤ size * k = product_more size w k more in
    grind (arith, nat_tests)
over false size v k w some e =
    let more : w ≤ k = grind (arith, nat_tests) in
    let most : size * w ≤ size * k = product_most size w k more in
    grind (arith, nat_tests)

address_in : (o : Option ℕ) (place : Pos) (q : ℕ) → at_address o place ≡ Ok q → o ≡ Some q
address_in (Some a) place q e = ap (λ (r : Result ℕ Halt). elim r [ Ok n ↦ Some n | Err h ↦ None ]) e
address_in None place q e = absurd cc

found_at : (a q : ℕ) → as_address (pos a) ≡ Some q → a ≡ q
found_at a q e = by (nat_lt a (2 ^ 32)) e
  where
    by : (less : Bool) → (if less then Some a else None) ≡ Some q → a ≡ q
    by true e = cc
    by false e = absurd cc

fallen : (v q a : ℕ) → 1 ≤ q → as_address (pos v +ℤ negsuc (q - 1)) ≡ Some a → a < v
fallen v q a some e = by (nat_lt v q) refl
  where
    by : (more : Bool) → nat_lt v q ≡ more → a < v
    by true m =
        let down : pos v +ℤ negsuc (q - 1) ≡ negsuc (q - v - 1) = let less : v < q = grind (arith, nat_tests) in grind (arith, ints) in
        let none : None ≡ Some a = sym (ap as_address down) ∙ e in
        absurd cc
    by false m =
        let le : q ≤ v = grind (arith, nat_tests) in
        let down : pos v +ℤ negsuc (q - 1) ≡ pos (v - q) = grind (arith, ints) in
        let same : v - q ≡ a = found_at (v - q) a (sym (ap as_address down) ∙ e) in
        omega arith

positive : (size m : ℕ) → 1 ≤ size → 1 ≤ size * suc m
positive size m h = omega (arith, at_least size (suc m) h)

-- an address of such an element is outside the bounds
pub reach_outside : (last : Bool) (form : Integer) (size v k w q : ℕ) (place : Pos) → 1 ≤ size → size < 2 ^ 31 → k < 2 ^ 32 → v + size * w < 2147483648 → is_under last k w ≡ false
    → at_address (as_address (elements_behind v size (exact form k))) place ≡ Ok q → in_range last (Within v (v + size * w)) place q ≡ stops check.Bounds place
reach_outside last form size v k w q place some small few low e there = by form (nat_lt k 2147483648) refl there
  where
    never : (b : Bool) → (if b && false then Ok q else stops {A = ℕ} check.Bounds place) ≡ stops check.Bounds place
    never true = refl
    never false = refl

    above : (z : ℤ) → z ≡ pos (v + size * k) → at_address (as_address z) place ≡ Ok q → in_range last (Within v (v + size * w)) place q ≡ stops check.Bounds place
    above z same there =
        let found : v + size * k ≡ q = found_at (v + size * k) q (sym (ap as_address same) ∙ address_in (as_address z) place q there) in
        let is : is_under last q (v + size * w) ≡ false = ap (λ n. is_under last n (v + size * w)) (sym found) ∙ over last size v k w some e in
        ap (λ b. if nat_le v q && b then Ok q else stops check.Bounds place) is ∙ never (nat_le v q)

    below : q < v → in_range last (Within v (v + size * w)) place q ≡ stops check.Bounds place
    below less =
        let is : nat_le v q ≡ false = grind (arith, nat_tests) in
        ap (λ b. if b && is_under last q (v + size * w) then Ok q else stops check.Bounds place) is

    by : (form : Integer) (small_index : Bool) → nat_lt k 2147483648 ≡ small_index → at_address (as_address (elements_behind v size (exact form k))) place ≡ Ok q
        → in_range last (Within v (v + size * w)) place q ≡ stops check.Bounds place
    by form true i there = above (elements_behind v size (exact form k)) (element_small form size v k (let less : k < 2147483648 = grind (arith, nat_tests) in less)) there
    by integer.Int false i there =
        let more : 2 ^ 31 ≤ k = grind (arith, nat_tests) in
        let moved : elements_behind v size (signed k) ≡ pos v +ℤ negsuc (size * suc (4294967295 - k) - 1) = ap (λ z. pos v +ℤ z) (product_high size k some small more few) in
        below (fallen v (size * suc (4294967295 - k)) q (positive size (4294967295 - k) some) (sym (ap as_address moved) ∙ address_in (as_address (elements_behind v size (signed k))) place q there))
    by integer.Unsigned false i there = above (elements_behind v size (pos k)) (ap (λ z. pos v +ℤ z) (pos-*ℤ-pos size k)) there
    by integer.Char false i there = above (elements_behind v size (pos k)) (ap (λ z. pos v +ℤ z) (pos-*ℤ-pos size k)) there

-- ---- counts

-- the word of an amount
abbrev amount_word : List ℕ → Option Variable → ℤ → ℕ
amount_word locals None add = word_of add
amount_word locals (Some v) add = applied binary.Add (slice_index locals v.local) (word_of add)

amount_is : (n : ℕ) (locals : List ℕ) (l : Values) (memory : Memory) → Agree n locals l → ((x : ℕ) → x < n → slice_index locals x < 2 ^ 32)
    → (variable : Option Variable) (add : ℤ) → IsVariable n variable → value_of l memory (amount_at variable add) ≡ Some (amount_word locals variable add)
amount_is n locals l memory agree small None add h = refl
amount_is n locals l memory agree small (Some v) add h =
    at_offset_value l memory (word_of add) (core.Local v.local) (slice_index locals v.local) (agree v.local h) (small v.local h)

amount_known : (n : ℕ) (locals : List ℕ) → ((x : ℕ) → x < n → slice_index locals x < 2 ^ 32) → (variable : Option Variable) (add : ℤ) → IsVariable n variable → IsSmall add
    → IsWord (amount locals variable add) 8589934592 (amount_word locals variable add)
amount_known n locals small None add h fits = number_word add fits
amount_known n locals small (Some v) add h fits = member_word v.form (slice_index locals v.local) add (small v.local h) fits

-- The range of a value goes from the value itself to so many elements behind it, which ends below 2^31, and the count is
-- their number wherever the locals are those of the source.
abbrev pub HasCount : ℕ → Store → Memory → ℕ → source.Expr → Value → Type 0
HasCount n s memory size p x =
    (w : ℕ) × (x.range ≡ Within x.number (x.number + size * w)) × (x.number + size * w < 2147483648)
    × ((l : Values) → Agree n s.locals l → value_of l memory (count_of size p) ≡ Some w)

limited_count : (n : ℕ) (s : Store) (memory : Memory) → Sees n s memory → (size x : ℕ) (limits : Limits) (v : Value) → x < n → AreEnds n limits → 1 ≤ size → are_counted size limits ≡ true
    → evaluated s (source.Limited x limits) ≡ Ok v → (v.number == 0) ≡ false → HasCount n s memory size (source.Limited x limits) v
limited_count n s memory sees size x limits v less ends some counted e z =
    let m = slice_index s.locals x in
    let upper = limits.upper in
    let is = ends.2 in
    let q = and_true (limits.to.size == size) (is_fixed_end limits.lower (pos 0) && is_own upper.base) counted in
    let k = and_true (is_fixed_end limits.lower (pos 0)) (is_own upper.base) q.1 in
    let same : limits.to.size ≡ size = eqb-true limits.to.size size q.0 in
    let number : v.number ≡ m =
    let gives : Gives m (Ok v) = subst (Gives m) e (reads_number s.shapes s.blocks limits.to m (end_address s.locals limits.to.size m limits.lower) (end_address s.locals limits.to.size m upper)) in gives in
    let r = read_range n s memory sees limits.to m (end_address s.locals limits.to.size m limits.lower) (end_address s.locals limits.to.size m upper) v e z in
    let begin : pos m ≡ pos r.0 = sym (fixed_end s.locals limits.to.size m limits.lower (pos 0) k.0 ∙ none_behind m limits.to.size) ∙ r.3 in
    let low : m ≡ r.0 = cc in
    let w = amount_word s.locals upper.variable upper.add in
    let far : pos m +ℤ (pos limits.to.size *ℤ amount s.locals upper.variable upper.add) ≡ pos r.1 =
    sym (ap (λ a. elements_behind a limits.to.size (amount s.locals upper.variable upper.add)) (own_address s.locals m upper.base k.1)) ∙ r.4 in
    let order : r.0 ≤ r.1 = r.7 in
    let short : r.1 < 2147483648 = r.8 in
    let ended : r.1 ≡ m + limits.to.size * w =
    count_word limits.to.size m w r.1 (amount s.locals upper.variable upper.add) (omega arith) (amount_known n s.locals sees.small upper.variable upper.add is.1 is.2) far (omega arith) short in
    let end : r.1 ≡ v.number + size * w = ended ∙ ap (λ a. a + limits.to.size * w) (sym number) ∙ ap (λ a. v.number + a * w) same in (
      w,
      r.2 ∙ ap (λ a. Within a r.1) (sym low ∙ sym number) ∙ ap (λ a. Within v.number a) end,
      subst (λ a. a < 2147483648) end short,
      (λ l agree. amount_is n s.locals l memory agree sees.small upper.variable upper.add is.1),
    )

-- what is said of a named array of whole elements
whole_known : (size at bytes : ℕ) → is_whole size at bytes ≡ true → ((at == 0) ≡ false) × ((size == 0) ≡ false) × (bytes % size ≡ 0) × (at + bytes < 2147483648)
whole_known size at bytes e =
    let q = and_true (not (at == 0) && not (size == 0)) (bytes % size == 0 && nat_lt (at + bytes) 2147483648) e in
    let a = and_true (not (at == 0)) (not (size == 0)) q.0 in
    let b = and_true (bytes % size == 0) (nat_lt (at + bytes) 2147483648) q.1 in
    (no (at == 0) a.0, no (size == 0) a.1, eqb-true (bytes % size) 0 b.0, grind (arith, nat_tests))
  where
    no : (b : Bool) → not b ≡ true → b ≡ false
    no true e = absurd cc
    no false e = refl

array_count : (n : ℕ) (s : Store) (memory : Memory) (size at bytes : ℕ) (v : Value) → is_whole size at bytes ≡ true → evaluated s (source.Array at bytes) ≡ Ok v
    → HasCount n s memory size (source.Array at bytes) v
array_count n s memory size at bytes v whole e =
    let k = whole_known size at bytes whole in
    let same : record { number = at; range = Within at (at + bytes) } ≡ v = ap (λ (r : Result Value Halt). elim r [ Ok w ↦ w | Err h ↦ record { number = at; range = Within at (at + bytes) } ]) e in
    let parts : size * (bytes / size) ≡ bytes = sym (omega (arith, div-add-mod bytes size)) in
    subst (λ (v : Value). HasCount n s memory size (source.Array at bytes) v) same (
      bytes / size,
      ap (λ b. Within at (at + b)) (sym parts),
      omega (arith, k.3, parts),
      (λ l agree. ap (λ b. Some (if b then 0 else bytes / size)) k.1),
    )

pub count_known : (n : ℕ) (s : Store) (memory : Memory) → Sees n s memory → (size : ℕ) (p : source.Expr) (x : Value) → 1 ≤ size → is_counted size p ≡ true → IsRanged n p → IsCompilableExpr n p
    → evaluated s p ≡ Ok x → (x.number == 0) ≡ false → HasCount n s memory size p x
count_known n s memory sees size (source.Limited y limits) x some counted h c e z = limited_count n s memory sees size y limits x c h some counted e z
count_known n s memory sees size (source.Array at bytes) x some counted h c e z = array_count n s memory size at bytes x counted e
count_known n s memory sees size p x some counted h c e z = absurd cc

-- a named array with a count is not null
pub array_some : (s : Store) (size : ℕ) (p : source.Expr) (x : Value) → is_counted size p ≡ true → is_array p ≡ true → evaluated s p ≡ Ok x → (x.number == 0) ≡ false
array_some s size (source.Array at bytes) x counted array e =
    let k = whole_known size at bytes counted in
    let same : at ≡ x.number = ap (λ (r : Result Value Halt). elim r [ Ok w ↦ w.number | Err h ↦ at ]) e in
    ap (λ n. n == 0) (sym same) ∙ k.0
array_some s size p x counted array e = absurd cc

pub counted_ranged : (size : ℕ) (p : source.Expr) → is_counted size p ≡ true → is_ranged p ≡ true
counted_ranged size (source.Limited y limits) e = refl
counted_ranged size (source.Array at bytes) e = refl
counted_ranged size p e = absurd cc

pub count_nodes : (size : ℕ) (p : source.Expr) → nodes (count_of size p) ≤ 3
count_nodes size (source.Limited y limits) = amount_nodes limits.upper.variable limits.upper.add
count_nodes size (source.Array at bytes) = omega arith
count_nodes size p = omega arith
