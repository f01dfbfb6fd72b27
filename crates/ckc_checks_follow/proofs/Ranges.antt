-- The tests of checked pointers to arrays: what they give in core code, and the ranges that they test.
use Rattle.std.proofs.Common.{◌≡◌, ℕ, ◌^◌, ◌+◌, ◌≤◌, ◌<◌, ◌==◌, refl, sym, ◌∙◌, ap, arith}
use Rattle.std.specs.Prelude.{ℤ, pos, negsuc, slice_index, ◌-ℤ◌, ◌*ℤ◌, nat_lt, nat_le, bit_and, not, ◌&&◌, Bool, true, false, if◌then◌else◌, Option, Some, None, Result, Ok, Err}
use Rattle.std.proofs.lemmas.Bool.Decides.{nat_tests}
use Rattle.ckc_base.specs.declared.arithmetic.BinOp.TheVariants as binary
use Rattle.ckc_base.specs.declared.runtime_checks.Check.TheVariants as check
use Rattle.ckc_base.specs.Products.{high_product}
use Rattle.ckc_base.specs.Words.{word_of, flag, applied}
use Rattle.ckc_base.specs.Memory.{Memory, value_at, data_end}
use Rattle.ckc_base.specs.Activations.{Values}
use Rattle.ckc_source.specs.declared.expr.Integer.{Integer}
use Rattle.ckc_source.specs.declared.expr.Shift.{Shift}
use Rattle.ckc_source.specs.declared.outcome.Range.{Range}
use Rattle.ckc_source.specs.declared.outcome.Range.TheVariants.{Without, Within}
use Rattle.ckc_source.specs.declared.outcome.Value.{Value}
use Rattle.ckc_source.specs.declared.outcome.Halt.{Halt}
use Rattle.ckc_source.specs.declared.outcome.Halt.TheVariants.{Stuck}
use Rattle.ckc_source.specs.declared.expr.Access.{Access}
use Rattle.ckc_source.specs.declared.expr.Count.{Count}
use Rattle.ckc_source.specs.declared.expr.Count.TheVariants as counts
use Rattle.ckc_source.specs.declared.expr.Pointee.{Pointee}
use Rattle.ckc_source.specs.declared.expr.Through.{Through}
use Rattle.ckc_source.specs.declared.expr.Through.TheVariants.{Named, Raw, One, Array, Terminated}
use Rattle.ckc_base.specs.declared.arithmetic.Width.TheVariants.{Word}
use Rattle.ckc_source.specs.declared.expr.Limits.{Limits}
use Rattle.ckc_source.specs.Blocks.{first_place, loaded}
use Rattle.ckc_source.specs.Runs.{is_true}
use Rattle.ckc_source.specs.Code as source
use Rattle.ckc_source.specs.Words.{exact, as_address, elements_behind}
use Rattle.ckc_source.specs.Eval.{Store, given, given_both, stops, plain, end_address, ranged, reads, reads_within, given_some, spanned, element, element_through, place_in, loads_pointer, at_address, moves, moves_checked, moved_exactly, evaluated}
use Rattle.ckc_core.specs.Code.{Expr, Const, Local, Load}
use Rattle.ckc_core.specs.Meaning.{value_of, both}
use Rattle.ckc_checks_operands.specs.Compilable.{AreEnds, IsCount, IsRanged, IsCompilableExpr}
use Rattle.ckc_checks_operands.specs.Cases.{is_named, is_fixed, is_ranged}
use Rattle.ckc_checks_operands.specs.code.Operands.{shifted}
use Rattle.ckc_checks_operands.specs.code.Pointers.{reads_signed, exact_test, range_end, range_test, held_test}
use Rattle.ckc_checks_follow.proofs.Exact.{carries, borrows, exact_ahead, exact_back}
use Rattle.ckc_checks_follow.proofs.Values.{Agree, Sees, shifted_value}
use Rattle.ckc_checks_follow.proofs.True.{true_ends}
use Rattle.ckc_checks_follow.proofs.Ends.{number_word, small_word, end_word, end_value}
use Rattle.ckc_checks_follow.proofs.Bytes.{and_true, loaded_there}
use Rattle.ckc_checks_follow.proofs.Flat.{loaded_word}

pub flag_zero : (b : Bool) → (flag b == 0) ≡ not b
flag_zero true = refl
flag_zero false = refl

-- ---- exact places

-- an address that is moved by so many elements, in words and exactly
abbrev pub moved_word : Bool → (size k v : ℕ) → ℕ
moved_word back size k v = applied (if back then binary.Sub else binary.Add) v (applied binary.Mul size k)

abbrev pub moved_place : Bool → ℕ → ℤ → ℕ → ℤ
moved_place back size z v = if back then pos v -ℤ (pos size *ℤ z) else elements_behind v size z

abbrev pub cancels : Bool → Integer → (size k v : ℕ) → Bool
cancels back form size k v =
    if back then borrows (high_product (reads_signed form) size k) v (moved_word true size k v)
    else carries (high_product (reads_signed form) size k) v (moved_word false size k v)

pub exact_place : (back : Bool) (form : Integer) (size k v : ℕ) → 1 ≤ size → size < 2 ^ 31 → k < 2 ^ 32 → v < 2 ^ 32
    → as_address (moved_place back size (exact form k) v) ≡ (if cancels back form size k v then Some (moved_word back size k v) else None)
exact_place true form size k v one small h j = exact_back form size k v one small h j
exact_place false form size k v one small h j = exact_ahead form size k v one small h j

module _ (l : Values) (memory : Memory) where
  abbrev value : Expr → Option ℕ
  value e = value_of l memory e

  pub exact_value : (back : Bool) (form : Integer) (size k v u : ℕ) (i : Expr) → l u ≡ Some v → value i ≡ Some k → v < 2 ^ 32 → k < 2 ^ 32
      → value (exact_test back (reads_signed form) size (Local u) i) ≡ Some (flag (cancels back form size k v))
  exact_value true form size k v u i h j small few =
      let there = value (shifted true size (Local u) i) in
      let high = high_product (reads_signed form) in
      ap (λ o. both (applied binary.Eq) (both (applied binary.Add) (both high (Some size) o) (both (applied binary.LtU) (l u) there)) (Some 0)) j
      ∙ ap (λ o. both (applied binary.Eq) (both (applied binary.Add) (Some (high size k)) (both (applied binary.LtU) o there)) (Some 0)) h
      ∙ ap (λ o. both (applied binary.Eq) (both (applied binary.Add) (Some (high size k)) (both (applied binary.LtU) (Some v) o)) (Some 0))
      (shifted_value l memory true size (Local u) i v k h j small few)
  exact_value false form size k v u i h j small few =
      let there = value (shifted false size (Local u) i) in
      let high = high_product (reads_signed form) in
      ap (λ o. both (applied binary.Eq) (both (applied binary.Add) (both high (Some size) o) (both (applied binary.LtU) there (l u))) (Some 0)) j
      ∙ ap (λ o. both (applied binary.Eq) (both (applied binary.Add) (Some (high size k)) (both (applied binary.LtU) there o)) (Some 0)) h
      ∙ ap (λ o. both (applied binary.Eq) (both (applied binary.Add) (Some (high size k)) (both (applied binary.LtU) o (Some v))) (Some 0))
      (shifted_value l memory false size (Local u) i v k h j small few)

-- ---- ranges

le_is : (a b : ℕ) → nat_le a b ≡ not (nat_lt b a)
le_is a b = by (nat_lt b a) refl
  where
    by : (more : Bool) → nat_lt b a ≡ more → nat_le a b ≡ not more
    by true e = grind (arith, nat_tests)
    by false e = grind (arith, nat_tests)

-- both tests, as words
pub both_tests : (a b : Bool) → (bit_and (flag a) (flag b) == 0) ≡ not (a && b)
both_tests true true = refl
both_tests true false = refl
both_tests false true = refl
both_tests false false = refl

pub at_most_word : (a b : ℕ) → applied binary.Eq (applied binary.LtU b a) 0 ≡ flag (nat_le a b)
at_most_word a b = ap flag (flag_zero (nat_lt b a) ∙ sym (le_is a b))

-- an address is below an upper bound, or at it if that counts too
abbrev pub is_under : Bool → ℕ → ℕ → Bool
is_under last q high = if last then nat_le q high else nat_lt q high

pub range_value : (l : Values) (memory : Memory) (last : Bool) (p : source.Expr) (t q low high : ℕ) → l t ≡ Some q
    → value_of l memory (range_end false p) ≡ Some low → value_of l memory (range_end true p) ≡ Some high
    → value_of l memory (range_test last p (Local t)) ≡ Some (bit_and (flag (nat_le low q)) (flag (is_under last q high)))
range_value l memory false p t q low high h i j =
    let bottom = value_of l memory (range_end false p) in
    let top = value_of l memory (range_end true p) in
    ap (λ o. both (applied binary.And) (both (applied binary.Eq) (both (applied binary.LtU) o bottom) (Some 0)) (both (applied binary.LtU) o top)) h
    ∙ ap (λ o. both (applied binary.And) (both (applied binary.Eq) (both (applied binary.LtU) (Some q) o) (Some 0)) (both (applied binary.LtU) (Some q) top)) i
    ∙ ap (λ o. both (applied binary.And) (Some (applied binary.Eq (applied binary.LtU q low) 0)) (both (applied binary.LtU) (Some q) o)) j
    ∙ ap (λ m. Some (bit_and m (flag (nat_lt q high)))) (at_most_word low q)
range_value l memory true p t q low high h i j =
    let bottom = value_of l memory (range_end false p) in
    let top = value_of l memory (range_end true p) in
    ap (λ o. both (applied binary.And) (both (applied binary.Eq) (both (applied binary.LtU) o bottom) (Some 0)) (both (applied binary.Eq) (both (applied binary.LtU) top o) (Some 0))) h
    ∙ ap (λ o. both (applied binary.And) (both (applied binary.Eq) (both (applied binary.LtU) (Some q) o) (Some 0)) (both (applied binary.Eq) (both (applied binary.LtU) top (Some q)) (Some 0))) i
    ∙ ap (λ o. both (applied binary.And) (Some (applied binary.Eq (applied binary.LtU q low) 0)) (both (applied binary.Eq) (both (applied binary.LtU) o (Some q)) (Some 0))) j
    ∙ ap (λ m. Some (bit_and m (applied binary.Eq (applied binary.LtU high q) 0))) (at_most_word low q)
    ∙ ap (λ m. Some (bit_and (flag (nat_le low q)) m)) (at_most_word q high)

-- an address is as far from the lower bound as the length says
pub under_moved : (last : Bool) (q low length : ℕ) → q < 2 ^ 32 → low < 2 ^ 32 → (nat_le low q && is_under last (applied binary.Sub q low) length) ≡ (nat_le low q && is_under last q (low + length))
under_moved last q low length small few = by (nat_le low q) refl
  where
    below : low ≤ q → nat_lt (applied binary.Sub q low) length ≡ nat_lt q (low + length)
    below h = from (nat_lt q (low + length)) refl
      where
        from : (b : Bool) → nat_lt q (low + length) ≡ b → nat_lt (applied binary.Sub q low) length ≡ b
        from true e = grind (arith, nat_tests)
        from false e = grind (arith, nat_tests)

    up_to : low ≤ q → nat_le (applied binary.Sub q low) length ≡ nat_le q (low + length)
    up_to h = from (nat_le q (low + length)) refl
      where
        from : (b : Bool) → nat_le q (low + length) ≡ b → nat_le (applied binary.Sub q low) length ≡ b
        from true e = grind (arith, nat_tests)
        from false e = grind (arith, nat_tests)

    under : (last : Bool) → low ≤ q → is_under last (applied binary.Sub q low) length ≡ is_under last q (low + length)
    under true h = up_to h
    under false h = below h

    by : (in_order : Bool) → nat_le low q ≡ in_order → (in_order && is_under last (applied binary.Sub q low) length) ≡ (in_order && is_under last q (low + length))
    by true e = under last (let le : low ≤ q = grind (arith, nat_tests) in le)
    by false e = refl

-- the test of a range that is in temporaries
pub held_value_of : (l : Values) (memory : Memory) (last : Bool) (t q low length : ℕ) → l t ≡ Some q → l (t + 1) ≡ Some low → l (t + 2) ≡ Some length
    → value_of l memory (held_test last t) ≡ Some (bit_and (flag (nat_le low q)) (flag (is_under last (applied binary.Sub q low) length)))
held_value_of l memory false t q low length h i j =
    let d = applied binary.Sub q low in
    ap (λ o. both (applied binary.And) (both (applied binary.Eq) (both (applied binary.LtU) o (l (t + 1))) (Some 0)) (both (applied binary.LtU) (both (applied binary.Sub) o (l (t + 1))) (l (t + 2)))) h
    ∙ ap (λ o. both (applied binary.And) (both (applied binary.Eq) (both (applied binary.LtU) (Some q) o) (Some 0)) (both (applied binary.LtU) (both (applied binary.Sub) (Some q) o) (l (t + 2)))) i
    ∙ ap (λ o. both (applied binary.And) (Some (applied binary.Eq (applied binary.LtU q low) 0)) (both (applied binary.LtU) (Some d) o)) j
    ∙ ap (λ m. Some (bit_and m (flag (nat_lt d length)))) (at_most_word low q)
held_value_of l memory true t q low length h i j =
    let d = applied binary.Sub q low in
    ap (λ o. both (applied binary.And) (both (applied binary.Eq) (both (applied binary.LtU) o (l (t + 1))) (Some 0)) (both (applied binary.Eq) (both (applied binary.LtU) (l (t + 2)) (both (applied binary.Sub) o (l (t + 1)))) (Some 0))) h
    ∙ ap (λ o. both (applied binary.And) (both (applied binary.Eq) (both (applied binary.LtU) (Some q) o) (Some 0)) (both (applied binary.Eq) (both (applied binary.LtU) (l (t + 2)) (both (applied binary.Sub) (Some q) o)) (Some 0))) i
    ∙ ap (λ o. both (applied binary.And) (Some (applied binary.Eq (applied binary.LtU q low) 0)) (both (applied binary.Eq) (both (applied binary.LtU) o (Some d)) (Some 0))) j
    ∙ ap (λ m. Some (bit_and m (applied binary.Eq (applied binary.LtU length d) 0))) (at_most_word low q)
    ∙ ap (λ m. Some (bit_and (flag (nat_le low q)) m)) (at_most_word d length)

abbrev pub range_in : Result Value Halt → Range
range_in (Ok v) = v.range
range_in (Err h) = Without

-- what is moved has the range of what it was, which is not null
moved_range : (shift : Shift) (r q : Result Value Halt) (x : Value) → shift.checked ≡ true → given_both r q (λ v k. moves shift v k.number) ≡ Ok x
    → (v : Value) × (r ≡ Ok v) × ((v.number == 0) ≡ false) × (x.range ≡ v.range)
moved_range shift (Ok v) (Ok k) x checked e = let known = from shift.checked checked e in (v, refl, known.0, known.1)
  where
    there : (o : Option ℕ) → given (at_address o shift.at) (λ a. Ok (record { number = a; range = v.range })) ≡ Ok x → x.range ≡ v.range
    there (Some a) e = sym (ap range_in e)
    there None e = absurd cc

    by : (zero : Bool) → (v.number == 0) ≡ zero
        → (if zero then stops check.Arith shift.at
        else given (at_address (as_address (moved_exactly shift v.number (exact shift.index k.number))) shift.at) (λ a. Ok (record { number = a; range = v.range }))) ≡ Ok x
        → ((v.number == 0) ≡ false) × (x.range ≡ v.range)
    by true z e = absurd cc
    by false z e = (z, there (as_address (moved_exactly shift v.number (exact shift.index k.number))) e)

    from : (c : Bool) → c ≡ true
        → (if c then moves_checked shift v k.number else plain (applied (if shift.back then binary.Sub else binary.Add) v.number (applied binary.Mul shift.size k.number))) ≡ Ok x
        → ((v.number == 0) ≡ false) × (x.range ≡ v.range)
    from true c e = by (v.number == 0) refl e
    from false c e = absurd cc
moved_range shift (Ok v) (Err h) x checked e = absurd cc
moved_range shift (Err h) q x checked e = absurd cc

turned : (r q : Result Value Halt) (f : Value → Value → Result Value Halt) (x : Value) → given_both q r (λ k v. f v k) ≡ Ok x → given_both r q f ≡ Ok x
turned (Ok v) (Ok k) f x e = e
turned (Ok v) (Err h) f x e = absurd cc
turned (Err h) (Ok k) f x e = absurd cc
turned (Err h) (Err i) f x e = absurd cc

-- The ends of the range of a value that is not null are these, wherever the locals are those of the source.
abbrev pub HasRange : ℕ → Store → Memory → source.Expr → Value → Type 0
HasRange n s memory p x =
    (low high : ℕ) × (x.range ≡ Within low high) × ((l : Values) → Agree n s.locals l → value_of l memory (range_end false p) ≡ Some low)
    × ((l : Values) → Agree n s.locals l → value_of l memory (range_end true p) ≡ Some high)

-- A pointer with limits that is read, and is not null, has its range, which is one of words and ends below 2^31.
pub read_range : (n : ℕ) (s : Store) (memory : Memory) → Sees n s memory → (to : Pointee) (m : ℕ) (from to_end : ℤ) (v : Value) → reads s.shapes s.blocks to m from to_end ≡ Ok v → (v.number == 0) ≡ false
    → (low high : ℕ) × (v.range ≡ Within low high) × (from ≡ pos low) × (to_end ≡ pos high) × (low < 2 ^ 32) × (high < 2 ^ 32) × (low ≤ high) × (high < 2147483648)
read_range n s memory sees to m from to_end v e z = start (m == 0) from to_end e
  where
    found : (low high : ℕ) (good : Bool) → is_true s.shapes s.blocks to m low high ≡ good → (if good then ranged m low high else Err Stuck) ≡ Ok v
        → (l h : ℕ) × (v.range ≡ Within l h) × (pos low ≡ pos l) × (pos high ≡ pos h) × (l < 2 ^ 32) × (h < 2 ^ 32) × (l ≤ h) × (h < 2147483648)
    found low high true good e =
        let within = true_ends s.shapes to m low high first_place (data_end + 1) s.blocks sees.same.within good in
        (low, high, sym (ap range_in e), refl, refl, omega (arith, within), omega (arith, within), within.0, omega (arith, within))
    found low high false good e = absurd cc

    start : (zero : Bool) (low high : ℤ) → (if zero then plain 0 else reads_within s.shapes s.blocks to m low high) ≡ Ok v
        → (l h : ℕ) × (v.range ≡ Within l h) × (low ≡ pos l) × (high ≡ pos h) × (l < 2 ^ 32) × (h < 2 ^ 32) × (l ≤ h) × (h < 2147483648)
    start true low high e =
        let none : 0 ≡ v.number = ap (λ (r : Result Value Halt). elim r [ Ok w ↦ w.number | Err h ↦ 0 ]) e in
        absurd (let wrong : true ≡ false = ap (λ k. k == 0) none ∙ z in cc)
    start false (pos low) (pos high) e = found low high (is_true s.shapes s.blocks to m low high) refl e
    start false (pos low) (negsuc high) e = absurd cc
    start false (negsuc low) high e = absurd cc

limited_known : (n : ℕ) (s : Store) (memory : Memory) → Sees n s memory → (x : ℕ) (limits : Limits) (v : Value) → x < n → AreEnds n limits → evaluated s (source.Limited x limits) ≡ Ok v
    → (v.number == 0) ≡ false → HasRange n s memory (source.Limited x limits) v
limited_known n s memory sees x limits v less ends e z =
    let m = slice_index s.locals x in
    let r = read_range n s memory sees limits.to m (end_address s.locals limits.to.size m limits.lower) (end_address s.locals limits.to.size m limits.upper) v e z in (
      r.0,
      r.1,
      r.2,
      (λ l agree. end_value n s.locals l memory agree sees.small x limits.to.size limits.lower r.0 less ends.1 r.3 r.5),
      (λ l agree. end_value n s.locals l memory agree sees.small x limits.to.size limits.upper r.1 less ends.2 r.4 r.6),
    )

-- ---- static objects

named_element : (through : Through) → is_named through ≡ true → (access : Access) (v : Value) (k : ℕ) → element_through through access v k ≡ Ok v.number
named_element Named h access v k = refl
named_element Raw h access v k = absurd cc
named_element One h access v k = absurd cc
named_element Array h access v k = absurd cc
named_element Terminated h access v k = absurd cc

-- what is at a static object, whatever the index
named_access : (access : Access) (v : Value) (r : Result Value Halt) (go : ℕ → Result Value Halt) (x : Value) → is_named access.through ≡ true
    → given_both (Ok v) r (λ v k. given (element access v k.number) go) ≡ Ok x → go v.number ≡ Ok x
named_access access v (Ok k) go x h e = sym (ap (λ q. given q go) (named_element access.through h access v k.number)) ∙ e
named_access access v (Err why) go x h e = absurd cc

-- what is read at a place
some_loaded : (o : Option ℕ) (f : ℕ → Result Value Halt) (x : Value) → given_some o f ≡ Ok x → (m : ℕ) × (o ≡ Some m) × (f m ≡ Ok x)
some_loaded (Some m) f x e = (m, refl, e)
some_loaded None f x e = absurd cc

static_known : (n : ℕ) (s : Store) (memory : Memory) → Sees n s memory → (to : Pointee) (count : Count) (access : Access) (a : ℕ) (i : source.Expr) (x : Value) → is_named access.through ≡ true
    → to.size < 2 ^ 32 → IsCount count → is_fixed count ≡ true → evaluated s (source.Member to count access (source.Number a) i) ≡ Ok x → (x.number == 0) ≡ false
    → HasRange n s memory (source.Member to count access (source.Number a) i) x
static_known n s memory sees to (counts.Member offset form add) access a i x named size fits fixed e z = absurd cc
static_known n s memory sees to (counts.Fixed k) access a i x named size fits fixed e z =
    let place = place_in a access.offset in
    let count = counts.Fixed k in
    let read = named_access access (record { number = a; range = Without }) (evaluated s i) (λ a. loads_pointer s to count a (place_in a access.offset)) x named e in
    let got = some_loaded (loaded Word place s.blocks) (λ n. reads s.shapes s.blocks to n (pos n) (elements_behind n to.size k)) x read in
    let m = got.0 in
    let r = read_range n s memory sees to m (pos m) (elements_behind m to.size k) x got.2 z in
    let there : value_at Word memory place ≡ Some m = loaded_there Word place m s.blocks memory sees.same.bytes got.1 in
    let small : m < 2 ^ 32 = loaded_word Word place m sees.next s.blocks memory sees.same got.1 in
    let same : m ≡ r.0 = let e : pos m ≡ pos r.0 = r.3 in cc in (
      r.0,
      r.1,
      r.2,
      (λ l agree. there ∙ ap Some same),
      (λ l agree.
          shifted_value l memory false to.size (Load Word (Const place)) (Const (word_of k)) m (word_of k) there refl small (small_word k fits)
          ∙ ap Some (end_word to.size m (word_of k) r.1 k (number_word k fits) r.4 r.6)),
    )

address_known : (n : ℕ) (s : Store) (memory : Memory) (bytes : ℕ) (access : Access) (a : ℕ) (i : source.Expr) (x : Value) → is_named access.through ≡ true
    → evaluated s (source.Address bytes access (source.Number a) i) ≡ Ok x → HasRange n s memory (source.Address bytes access (source.Number a) i) x
address_known n s memory bytes access a i x named e =
    let place = place_in a access.offset in
    let got = named_access access (record { number = a; range = Without }) (evaluated s i) (λ a. spanned (place_in a access.offset) bytes) x named e in
    (place, place + bytes, sym (ap range_in got), (λ l agree. refl), (λ l agree. refl))

pub range_known : (n : ℕ) (s : Store) (memory : Memory) → Sees n s memory → (p : source.Expr) (x : Value) → is_ranged p ≡ true → IsRanged n p → IsCompilableExpr n p → evaluated s p ≡ Ok x
    → (x.number == 0) ≡ false → HasRange n s memory p x
range_known n s memory sees (source.Limited y limits) x b h c e z = limited_known n s memory sees y limits x c h e z
range_known n s memory sees (source.Member to count access (source.Number a) i) x b h c e z =
    let q = and_true (is_named access.through) (is_fixed count) b in
    static_known n s memory sees to count access a i x q.0 h.0 h.1 q.1 e z
range_known n s memory sees (source.Member to count access p i) x b h c e z = absurd cc
range_known n s memory sees (source.Address bytes access (source.Number a) i) x b h c e z = address_known n s memory bytes access a i x b e
range_known n s memory sees (source.Address bytes access p i) x b h c e z = absurd cc
range_known n s memory sees (source.Array at bytes) x b h c e z = (at, at + bytes, sym (ap range_in e), (λ l agree. refl), (λ l agree. refl))
range_known n s memory sees (source.Moved shift p i) x b h c e z =
    let q = and_true shift.checked (is_ranged p) b in
    let m = moved_range shift (evaluated s p) (evaluated s i) x q.0 e in
    let r = range_known n s memory sees p m.0 q.1 h c.1 m.1 m.2 in
    (r.0, r.1, m.3 ∙ r.2, r.3, r.4)
range_known n s memory sees (source.Added shift i p) x b h c e z =
    let q = and_true shift.checked (is_ranged p) b in
    let m = moved_range shift (evaluated s p) (evaluated s i) x q.0 (turned (evaluated s p) (evaluated s i) (λ v k. moves shift v k.number) x e) in
    let r = range_known n s memory sees p m.0 q.1 h c.2 m.1 m.2 in
    (r.0, r.1, m.3 ∙ r.2, r.3, r.4)
range_known n s memory sees p x b h c e z = absurd cc
