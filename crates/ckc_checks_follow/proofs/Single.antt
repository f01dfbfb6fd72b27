-- A pointer to one element has the range of that element, so the test of a bounds cast to one element never stops.
use Rattle.std.proofs.Common.{◌≡◌, ◌⊎◌, inl, inr, ℕ, ◌+◌, ◌*◌, ◌==◌, List, refl, sym, ◌∙◌, ap, subst, arith}
use Rattle.std.specs.Prelude.{Bool, true, false, ◌&&◌, if◌then◌else◌, nat_le, slice_index, Option, Some, None, Result, Ok, Err, ℤ, pos, ◌+ℤ◌}
use Rattle.std.proofs.lemmas.Bool.{eqb-true}
use Rattle.std.proofs.lemmas.Bool.Decides.{nat_tests, Decides-int_eq}
use Rattle.std.specs.Ordering.{int_eq}
use Rattle.std.specs.Bool.{Decides}
use Rattle.std.proofs.Math.IntN.{*ℤ-zero, +ℤ_idr, pos-*ℤ-pos}
use Rattle.ckc_base.specs.declared.arithmetic.Width.TheVariants.{Word}
use Rattle.ckc_base.specs.declared.places.Pos.{Pos}
use Rattle.ckc_base.specs.declared.runtime_checks.Check.TheVariants.{Cast}
use Rattle.ckc_source.specs.declared.expr.Base.{Base}
use Rattle.ckc_source.specs.declared.expr.Base.TheVariants as bases
use Rattle.ckc_source.specs.declared.expr.Count.{Count}
use Rattle.ckc_source.specs.declared.expr.Count.TheVariants as counts
use Rattle.ckc_source.specs.declared.expr.End.{End}
use Rattle.ckc_source.specs.declared.expr.Integer.{Integer}
use Rattle.ckc_source.specs.declared.expr.Integer.TheVariants as integer
use Rattle.ckc_source.specs.declared.expr.Pointee.{Pointee}
use Rattle.ckc_source.specs.declared.expr.Variable.{Variable}
use Rattle.ckc_source.specs.declared.outcome.Range.{Range}
use Rattle.ckc_source.specs.declared.outcome.Range.TheVariants.{Without, Within}
use Rattle.ckc_source.specs.declared.outcome.Value.{Value}
use Rattle.ckc_source.specs.declared.outcome.Halt.{Halt}
use Rattle.ckc_source.specs.declared.outcome.Halt.TheVariants.{Stuck}
use Rattle.ckc_source.specs.declared.program.Shape.{Shape}
use Rattle.ckc_source.specs.Code as source
use Rattle.ckc_source.specs.Blocks.{Block, loaded}
use Rattle.ckc_source.specs.Runs.{is_true}
use Rattle.ckc_source.specs.Words.{exact, elements_behind}
use Rattle.ckc_source.specs.Eval.{Store, given, given_both, given_some, plain, ranged, spanned, stops, reads, reads_within, amount, base_address, end_address, element, place_in, counted, loads_pointer, tests, tests_within, trusts, evaluated}
use Rattle.ckc_checks_operands.specs.Cases.{is_own, is_absent, is_fixed_end, is_one, is_single_count, is_single}
use Rattle.ckc_checks_follow.proofs.Bytes.{and_true}
use Rattle.ckc_checks_follow.proofs.Bounded.{Gives, zero_of}

-- a value is null or has the range of one element of a size
abbrev pub HasOne : ℕ → Result Value Halt → Type 0
HasOne size (Ok v) = (v.number ≡ 0) ⊎ (v.range ≡ Within v.number (v.number + size))
HasOne size (Err h) = Unit {0}

-- ---- places

pub none_behind : (n size : ℕ) → elements_behind n size (pos 0) ≡ pos n
none_behind n size = ap (λ z. pos n +ℤ z) (*ℤ-zero (pos size)) ∙ +ℤ_idr (pos n)

one_behind : (n size : ℕ) → elements_behind n size (pos 1) ≡ pos (n + size)
one_behind n size =
    let same : n + size * 1 ≡ n + size = omega arith in
    ap (λ z. pos n +ℤ z) (pos-*ℤ-pos size 1) ∙ ap pos same

pub exact_one : (form : Integer) → exact form 1 ≡ pos 1
exact_one integer.Int = refl
exact_one integer.Unsigned = refl
exact_one integer.Char = refl

int_same : (x y : ℤ) (b : Bool) → Decides b (x ≡ y) → b ≡ true → x ≡ y
int_same x y b d e = d.0 e

pub own_address : (locals : List ℕ) (n : ℕ) (b : Base) → is_own b ≡ true → base_address locals n b ≡ n
own_address locals n bases.Own h = refl
own_address locals n (bases.Local x) h = absurd cc
own_address locals n (bases.Fixed a) h = absurd cc

no_variable : (locals : List ℕ) (x : Option Variable) (add : ℤ) → is_absent x ≡ true → amount locals x add ≡ add
no_variable locals None add h = refl
no_variable locals (Some x) add h = absurd cc

pub fixed_end : (locals : List ℕ) (size n : ℕ) (e : End) (add : ℤ) → is_fixed_end e add ≡ true → end_address locals size n e ≡ elements_behind n size add
fixed_end locals size n e add h =
    let p = and_true (is_own e.base) (is_absent e.variable && int_eq e.add add) h in
    let q = and_true (is_absent e.variable) (int_eq e.add add) p.1 in
    ap (λ a. elements_behind a size (amount locals e.variable e.add)) (own_address locals n e.base p.0)
    ∙ ap (λ k. elements_behind n size k) (no_variable locals e.variable e.add q.0 ∙ int_same e.add add (int_eq e.add add) (Decides-int_eq e.add add) q.1)

-- ---- reading

single_read : (shapes : List Shape) (blocks : List Block) (to : Pointee) (n size : ℕ) (low high : ℤ) → low ≡ pos n → high ≡ pos (n + size)
    → HasOne size (reads shapes blocks to n low high)
single_read shapes blocks to n size low high l h =
    subst (λ low. HasOne size (reads shapes blocks to n low high)) (sym l)
    (subst (λ high. HasOne size (reads shapes blocks to n (pos n) high)) (sym h) (by (n == 0)))
  where
    inside : (good : Bool) → HasOne size (if good then ranged n n (n + size) else Err Stuck)
    inside true = inr refl
    inside false = tt

    by : (zero : Bool) → HasOne size (if zero then plain 0 else reads_within shapes blocks to n (pos n) (pos (n + size)))
    by true = inl refl
    by false = inside (is_true shapes blocks to n n (n + size))

-- the same, with elements of the size of what the pointer points to
read_one : (shapes : List Shape) (blocks : List Block) (to : Pointee) (n size : ℕ) (k : ℤ) → to.size ≡ size → k ≡ pos 1
    → HasOne size (reads shapes blocks to n (pos n) (elements_behind n to.size k))
read_one shapes blocks to n size k same one =
    single_read shapes blocks to n size (pos n) (elements_behind n to.size k) refl
    (ap (λ z. elements_behind n to.size z) one ∙ ap (λ m. elements_behind n m (pos 1)) same ∙ one_behind n size)

given_one : {A : Type 0} (size : ℕ) (r : Result A Halt) (f : A → Result Value Halt) → ((v : A) → HasOne size (f v)) → HasOne size (given r f)
given_one size (Ok v) f h = h v
given_one size (Err e) f h = tt

some_one : (size : ℕ) (o : Option ℕ) (f : ℕ → Result Value Halt) → ((n : ℕ) → HasOne size (f n)) → HasOne size (given_some o f)
some_one size (Some n) f h = h n
some_one size None f h = tt

-- a value that is tested
tested_within : (size n : ℕ) (at : Pos) → tests_within (Within n (n + size)) at n (pos (n + size)) ≡ ranged n n (n + size)
tested_within size n at =
    let one : nat_le n n ≡ true = grind (arith, nat_tests) in
    let two : nat_le n (n + size) ≡ true = grind (arith, nat_tests) in
    let three : nat_le (n + size) (n + size) ≡ true = grind (arith, nat_tests) in
    let good : (nat_le n n && nat_le n (n + size) && nat_le (n + size) (n + size)) ≡ true =
    ap (λ b. b && nat_le n (n + size) && nat_le (n + size) (n + size)) one ∙ ap (λ b. b && nat_le (n + size) (n + size)) two ∙ three in
    ap (λ b. if b then ranged n n (n + size) else stops Cast at) good

tested_range : (size n k : ℕ) (range : Range) (form : Integer) (at : Pos) → range ≡ Within n (n + size) → k ≡ 1
    → tests_within range at n (elements_behind n size (exact form k)) ≡ ranged n n (n + size)
tested_range size n k range form at e one =
    ap (λ r. tests_within r at n (elements_behind n size (exact form k))) e
    ∙ ap (λ z. tests_within (Within n (n + size)) at n (elements_behind n size (exact form z))) one
    ∙ ap (λ z. tests_within (Within n (n + size)) at n (elements_behind n size z)) (exact_one form)
    ∙ ap (λ z. tests_within (Within n (n + size)) at n z) (one_behind n size)
    ∙ tested_within size n at

-- what a test gives: the number, and the range of one element
abbrev IsTested : ℕ → ℕ → Result Value Halt → Type 0
IsTested size n r = Gives n r × HasOne size r

tested_one : (size k : ℕ) (form : Integer) (at : Pos) (v : Value) → HasOne size (Ok v) → k ≡ 1 → IsTested size v.number (tests size form at v k)
tested_one size k form at v h one = by (v.number == 0) refl
  where
    from : (v.number == 0) ≡ false → (v.number ≡ 0) ⊎ (v.range ≡ Within v.number (v.number + size))
        → IsTested size v.number (tests_within v.range at v.number (elements_behind v.number size (exact form k)))
    from z (inl e) = absurd (let wrong : true ≡ false = sym (ap (λ n. n == 0) e) ∙ z in cc)
    from z (inr e) = subst (IsTested size v.number) (sym (tested_range size v.number k v.range form at e one)) (refl, inr refl)

    by : (zero : Bool) → (v.number == 0) ≡ zero
        → IsTested size v.number (if zero then plain 0 else tests_within v.range at v.number (elements_behind v.number size (exact form k)))
    by true z = (zero_of v.number z, inl refl)
    by false z = from z h

-- ---- expressions

one_is : (s : Store) (k : source.Expr) → is_one k ≡ true → evaluated s k ≡ plain 1
one_is s (source.Number n) h = ap plain (eqb-true n 1 h)
one_is s k h = absurd cc

-- a value after one that is 1
pub behind_one : (s : Store) (k : source.Expr) (r : Result Value Halt) (f : Value → Value → Result Value Halt) → is_one k ≡ true
    → given_both r (evaluated s k) f ≡ given r (λ v. f v (record { number = 1; range = Without }))
behind_one s k r f h = ap (λ q. given_both r q f) (one_is s k h)

accessed_one : (size : ℕ) (r q : Result Value Halt) (f : Value → Value → Result Value Halt) → ((v w : Value) → HasOne size (f v w)) → HasOne size (given_both r q f)
accessed_one size (Ok v) (Ok w) f h = h v w
accessed_one size (Ok v) (Err e) f h = tt
accessed_one size (Err e) q f h = tt

count_one : (s : Store) (to : Pointee) (count : Count) (begin n size : ℕ) → to.size ≡ size → is_single_count count ≡ true
    → HasOne size (given (counted s begin count) (λ m. reads s.shapes s.blocks to n (pos n) (elements_behind n to.size m)))
count_one s to (counts.Fixed k) begin n size same one = read_one s.shapes s.blocks to n size k same (int_same k (pos 1) (int_eq k (pos 1)) (Decides-int_eq k (pos 1)) one)
count_one s to (counts.Member offset form add) begin n size same one = absurd cc

-- what a test of one element gives is one
test_has : (size : ℕ) (form : Integer) (at : Pos) (v : Value) → HasOne size (tests size form at v 1)
test_has size form at v = by (v.number == 0)
  where
    within : (n : ℕ) (range : Range) → HasOne size (tests_within range at n (pos (n + size)))
    within n (Within low high) = good (nat_le low n && nat_le n (n + size) && nat_le (n + size) high)
      where
        good : (good : Bool) → HasOne size (if good then ranged n n (n + size) else stops Cast at)
        good true = inr refl
        good false = tt
    within n Without = tt

    by : (zero : Bool) → HasOne size (if zero then plain 0 else tests_within v.range at v.number (elements_behind v.number size (exact form 1)))
    by true = inl refl
    by false =
        subst (λ z. HasOne size (tests_within v.range at v.number z)) (sym (ap (λ z. elements_behind v.number size z) (exact_one form) ∙ one_behind v.number size)) (within v.number v.range)

tested_has : (size : ℕ) (form : Integer) (at : Pos) (r : Result Value Halt) → HasOne size (given r (λ v. tests size form at v 1))
tested_has size form at (Ok v) = test_has size form at v
tested_has size form at (Err e) = tt

-- a pointer to one element has its range
pub single : (size : ℕ) (s : Store) (e : source.Expr) → is_single size e ≡ true → HasOne size (evaluated s e)
single size s (source.Number m) one = inl (eqb-true m 0 one)
single size s (source.Limited x limits) one =
    let m = slice_index s.locals x in
    let p = and_true (limits.to.size == size) (is_fixed_end limits.lower (pos 0) && is_fixed_end limits.upper (pos 1)) one in
    let q = and_true (is_fixed_end limits.lower (pos 0)) (is_fixed_end limits.upper (pos 1)) p.1 in
    single_read s.shapes s.blocks limits.to m size (end_address s.locals limits.to.size m limits.lower) (end_address s.locals limits.to.size m limits.upper)
    (fixed_end s.locals limits.to.size m limits.lower (pos 0) q.0 ∙ none_behind m limits.to.size)
    (fixed_end s.locals limits.to.size m limits.upper (pos 1) q.1 ∙ ap (λ k. elements_behind m k (pos 1)) (eqb-true limits.to.size size p.0) ∙ one_behind m size)
single size s (source.Member to count access p i) one =
    let q = and_true (to.size == size) (is_single_count count) one in
    accessed_one size (evaluated s p) (evaluated s i) (λ v k. given (element access v k.number) (λ a. loads_pointer s to count a (place_in a access.offset)))
    (λ v k. given_one size (element access v k.number) (λ a. loads_pointer s to count a (place_in a access.offset))
    (λ a. some_one size (loaded Word (place_in a access.offset) s.blocks) (λ m. given (counted s a count) (λ c. reads s.shapes s.blocks to m (pos m) (elements_behind m to.size c)))
    (λ m. count_one s to count a m size (eqb-true to.size size q.0) q.1)))
single size s (source.Address bytes access p i) one =
    accessed_one size (evaluated s p) (evaluated s i) (λ v k. given (element access v k.number) (λ a. spanned (place_in a access.offset) bytes))
    (λ v k. given_one size (element access v k.number) (λ a. spanned (place_in a access.offset) bytes)
    (λ a. inr (ap (λ b. Within (place_in a access.offset) (place_in a access.offset + b)) (eqb-true bytes size one))))
single size s (source.Tested same form at p k) one =
    let q = and_true (same == size) (is_one k) one in
    subst (λ size. HasOne size (evaluated s (source.Tested same form at p k))) (eqb-true same size q.0)
    (subst (HasOne same) (sym (behind_one s k (evaluated s p) (λ v c. tests same form at v c.number) q.1)) (tested_has same form at (evaluated s p)))
single size s (source.Trusted to form p k) one =
    let q = and_true (to.size == size) (is_one k) one in
    subst (HasOne size) (sym (behind_one s k (evaluated s p) (λ v c. trusts s to form v.number c.number) q.1))
    (given_one size (evaluated s p) (λ v. trusts s to form v.number 1) (λ v. read_one s.shapes s.blocks to v.number size (exact form 1) (eqb-true to.size size q.0) (exact_one form)))
single size s e one = absurd cc

-- A test of a pointer to one element gives its number.
pub tested_gives : (size : ℕ) (s : Store) (form : Integer) (at : Pos) (p : source.Expr) (v : Value) → is_single size p ≡ true → evaluated s p ≡ Ok v
    → Gives v.number (tests size form at v 1)
tested_gives size s form at p v one e =
    let has : HasOne size (Ok v) = subst (HasOne size) e (single size s p one) in
    let t = tested_one size 1 form at v has refl in
    t.0
