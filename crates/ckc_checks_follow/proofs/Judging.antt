-- Accesses: core code comes to the element that an access goes to, or stops as the access does.
use Rattle.std.proofs.Common.{◌≡◌, ℕ, ◌^◌, ◌+◌, ◌-◌, ◌*◌, ◌%◌, ◌≤◌, ◌<◌, ◌==◌, List, refl, sym, ◌∙◌, ap, subst, arith}
use Rattle.std.specs.Prelude.{slice_index, Bool, true, false, ◌&&◌, if◌then◌else◌, Some, None, Result, Ok, Err, nat_lt, nat_le, bit_and, not, pos, ◌+ℤ◌}
use Rattle.std.proofs.lemmas.Int.{ints}
use Rattle.std.proofs.Math.IntN.{*ℤ-zero}
use Rattle.std.proofs.lemmas.Bool.Decides.{nat_tests}
use Rattle.ckc_base.specs.declared.arithmetic.BinOp.TheVariants as binary
use Rattle.ckc_base.specs.declared.places.Pos.{Pos}
use Rattle.ckc_base.specs.declared.runtime_checks.Check.TheVariants as check
use Rattle.ckc_base.specs.Words.{flag, applied}
use Rattle.ckc_base.specs.Actions.{World}
use Rattle.ckc_base.specs.Activations.{Values, with_written}
use Rattle.ckc_source.specs.declared.expr.Access.{Access}
use Rattle.ckc_source.specs.declared.expr.Integer.{Integer}
use Rattle.ckc_source.specs.declared.expr.Integer.TheVariants as integer
use Rattle.ckc_source.specs.declared.expr.Through.{Through}
use Rattle.ckc_source.specs.declared.expr.Through.TheVariants.{Named, Raw, One, Array, Terminated}
use Rattle.ckc_source.specs.declared.expr.Operation.{Operation}
use Rattle.ckc_source.specs.declared.outcome.Range.{Range}
use Rattle.ckc_source.specs.declared.outcome.Range.TheVariants.{Without, Within}
use Rattle.ckc_source.specs.declared.outcome.Value.{Value}
use Rattle.ckc_source.specs.declared.outcome.Halt.{Halt}
use Rattle.ckc_source.specs.declared.outcome.Halt.TheVariants.{Stopped, Stuck}
use Rattle.ckc_source.specs.Code as source
use Rattle.ckc_source.specs.Words.{exact, as_address, elements_behind, divides}
use Rattle.ckc_source.specs.Eval.{Store, given, given_both, ranged, stops, at_address, element, element_through, place_in, in_range, exact_element, end_address, operates, tests, evaluated}
use Rattle.ckc_core.specs.Code.{Expr, Const, Local, Bin, Code, End, Set, Check, Function}
use Rattle.ckc_core.specs.Meaning.{Rest, Next, State, Caller, value_of, both, nodes}
use Rattle.ckc_checks_operands.specs.Compilable.{IsZero, IsJudged, IsAccess, IsCompilableExpr, IsRanged, IsBounded, HasRange, element_nodes, value_nodes, expr_nodes}
use Rattle.ckc_checks_operands.specs.code.Operands.{operated, is_zero, shifted, element_of, held, keeps_index, operand}
use Rattle.ckc_checks_operands.specs.Cases.{is_bounded, is_ranged, takes_range}
use Rattle.ckc_checks_operands.specs.code.Pointers.{below_end, index_far, held_test, reads_signed, exact_test, range_test, is_counted, count_of, is_array}
use Rattle.ckc_checks_follow.specs.code.Inserted.{put_if, reached_element, value_code, access_code, element_code, outside_code, count_code, first_code, own_pointer, own_index, counted_code, unless_array, judged, reached_place, operation_code, expr_code}
use Rattle.ckc_checks_follow.proofs.Paths.{Quiet, no_quiet}
use Rattle.ckc_checks_follow.proofs.Running.{Runs, first_runs, at, by_set, by_pass, by_fail, by_if, by_end}
use Rattle.ckc_checks_follow.proofs.Bounded.{Gives, GivesWord, reads_number}
use Rattle.ckc_checks_follow.proofs.Values.{IsValue, Agree, Sees, word_seen, at_offset_value, zero_value, shifted_value}
use Rattle.ckc_checks_follow.proofs.Ranges.{flag_zero, moved_word, moved_place, cancels, exact_place, exact_value, both_tests, is_under, range_value, under_moved, held_value_of, range_known}
use Rattle.ckc_checks_follow.proofs.Quick.{HasCount, reach_inside, reach_outside, under_most, product_most, count_known, array_some, counted_ranged, count_nodes}
use Rattle.ckc_checks_follow.proofs.Counts.{written_same, written_only, operated_nodes, shifted_nodes, elements_some, elements_near, value_steps, found_steps, found_few, place_nodes_of, test_steps, test_few, test_within, some_node, operand_nodes, expr_steps, held_steps, operand_steps, index_steps, judged_steps, index_alone, exact_nodes}
use Rattle.ckc_checks_follow.proofs.Ending.{both_some, end_test, IsEnded, reached_known, end_ranged, end_held}
use Rattle.ckc_checks_follow.proofs.Coming.{Below, Only, only_below, only_behind, HasAt, PutRange, RangeClaim, Comes, then_comes, Put, Held, set_value, operation_by, known, Claim, HeldIn, OperandClaim, agree_below, held_from, index_from, weaken, Both, pair_comes}

module _ (functions : List Function) (callers : List Caller) (world : World) where
  module _ (n : ℕ) (s : Store) (sees : Sees n s world.memory) where
    binary_steps : (na nb ea eb o : ℕ) → na ≤ 6 * ea → nb ≤ 6 * eb → 1 ≤ ea → 1 ≤ eb → o ≤ 3 + na + nb
        → (14 * ea - 2 * na) + ((14 * eb - 2 * nb) + ((nb + 1) + (o + 1))) ≤ 14 * (1 + ea + eb) - 2
    binary_steps na nb ea eb o h k i j l = omega arith

    pub binary_comes : (operation : Operation) (is_signed : Bool) (place : Pos) (a b : source.Expr) → OperandClaim functions callers world n s sees a → OperandClaim functions callers world n s sees b → Claim functions callers world n s sees (source.Binary operation is_signed place a b)
    binary_comes operation is_signed place a b claim_a claim_b t more rest l le h agree =
        let p = operand a t in
        let q = operand b (t + 1) in
        let o = operated operation is_signed p q in
        pair_comes functions callers world n s sees false false a b (operand_steps a) (operand_steps b) t 1 ((nodes q + 1) + (nodes o + 1)) (expr_steps (source.Binary operation is_signed place a b))
        (operation_code operation is_signed place p q t more) more rest l (λ x y. operates operation is_signed place x.number y.number) (Put functions callers world t l) claim_a claim_b le h.1 h.2 agree
        (binary_steps (nodes p) (nodes q) (expr_nodes a) (expr_nodes b) (nodes o) (operand_nodes a t) (operand_nodes b (t + 1)) (some_node a) (some_node b) (operated_nodes operation is_signed p q))
        (λ x y l2 b eq_a eq_b.
        operation_by functions callers world operation is_signed place p q t more rest l l2 x.number y.number ((nodes q + 1) + (nodes o + 1)) (divides operation) (y.number == 0) (omega arith)
        b.0 (b.1 l2 (λ z less. refl)) (b.2 l2 (λ z less. refl)) refl)

    -- ---- accesses

    pub exact_zero : (form : Integer) → exact form 0 ≡ pos 0
    exact_zero integer.Int = refl
    exact_zero integer.Unsigned = refl
    exact_zero integer.Char = refl

    none_added : (a : ℕ) → pos a +ℤ pos 0 ≡ pos a
    none_added a = grind (arith, ints)

    pub none_behind : (a size : ℕ) → elements_behind a size (pos 0) ≡ pos a
    none_behind a size = ap (λ z. pos a +ℤ z) (*ℤ-zero (pos size)) ∙ none_added a

    pub word_address : (a : ℕ) → a < 2 ^ 32 → as_address (pos a) ≡ Some a
    word_address a h =
        let less : nat_lt a (2 ^ 32) ≡ true = grind (arith, nat_tests) in
        ap (λ b. if b then Some a else None) less

    -- the first element of a pointer is at its address
    first_element : (access : Access) (a k : ℕ) → k ≡ 0 → a < 2 ^ 32 → at_address (as_address (elements_behind a access.size (exact access.index k))) access.at ≡ Ok a
    first_element access a k z small =
        ap (λ i. at_address (as_address (elements_behind a access.size (exact access.index i))) access.at) z
        ∙ ap (λ i. at_address (as_address (elements_behind a access.size i)) access.at) (exact_zero access.index)
        ∙ ap (λ i. at_address (as_address i) access.at) (none_behind a access.size)
        ∙ ap (λ o. at_address o access.at) (word_address a small)

    pub zero_index : (i : source.Expr) (t y : ℕ) (l : Values) → IsZero i → value_of l world.memory (operand i t) ≡ Some y → y ≡ 0
    zero_index (source.Number m) t y l z e = let same : m ≡ y = cc in sym same ∙ z
    zero_index i t y l z e = absurd z

    -- The element that an access goes to is known, as long as the locals up to t + 1 stay.
    abbrev pub Placed : Access → Through → Expr → Expr → ℕ → Values → ℕ → Values → Type 0
    Placed access through a i t before q l =
        Below t l before × ((later : Values) → Below (t + 2) later l → value_of later world.memory (element_of through access.size a i) ≡ Some q) × (q < 2 ^ 32)

    -- what comes of one evaluation comes in a few steps more
    then_also : {A : Type 0} (m k j : ℕ) (st : State) (r : Result A Halt) (last more : Code) (rest : Rest) (P R : A → Values → Type 0) → m + k ≤ j → Comes functions callers world 0 m st r last rest P
        → ((v : A) (l : Values) → P v l → Comes functions callers world 0 k (at callers world last rest l) (Ok v) more rest R) → Comes functions callers world 0 j st r more rest R
    then_also m k j st (Ok v) last more rest P R few c next =
        let q = c.5 in
        first_runs functions c.0 0 k j st c.1 (Ok v) (λ v u. (l : Values) × (u ≡ at callers world more rest l) × R v l) (omega (arith, c.3)) c.4
        (subst (λ u. Comes functions callers world 0 k u (Ok v) more rest R) (sym q.1) (next v q.0 q.2))
    then_also m k j st (Err Stuck) last more rest P R few c next = tt
    then_also m k j st (Err (Stopped why place)) last more rest P R few c next = (c.0, omega (arith, c.1), c.2)

    -- the test that a moved address is one
    pub exact_comes : (back : Bool) (form : Integer) (size k v u : ℕ) (i : Expr) (place : Pos) (next : Code) (rest : Rest) (l : Values) → 1 ≤ size → size < 2 ^ 31 → k < 2 ^ 32 → v < 2 ^ 32
        → l u ≡ Some v → value_of l world.memory i ≡ Some k → nodes i ≡ 1
        → Comes functions callers world 0 14 (at callers world (Check check.Arith place (exact_test back (reads_signed form) size (Local u) i) next) rest l)
        (at_address (as_address (moved_place back size (exact form k) v)) place) next rest (λ q l'. (l' ≡ l) × (q ≡ moved_word back size k v))
    exact_comes back form size k v u i place next rest l some small few low h j one =
        subst (λ o. Comes functions callers world 0 14 (at callers world (Check check.Arith place (exact_test back (reads_signed form) size (Local u) i) next) rest l) (at_address o place) next rest (λ q l'. (l' ≡ l) × (q ≡ moved_word back size k v)))
        (sym (exact_place back form size k v some small few low)) (by (cancels back form size k v) refl)
      where
        by : (good : Bool) → cancels back form size k v ≡ good
            → Comes functions callers world 0 14 (at callers world (Check check.Arith place (exact_test back (reads_signed form) size (Local u) i) next) rest l) (at_address (if good then Some (moved_word back size k v) else None) place) next rest (λ q l'. (l' ≡ l) × (q ≡ moved_word back size k v))
        by true e = (
          nodes (exact_test back (reads_signed form) size (Local u) i) + 1,
          at callers world next rest l,
          omega arith,
          omega (arith, exact_nodes back (reads_signed form) size u i one),
          by_pass functions callers world check.Arith place (exact_test back (reads_signed form) size (Local u) i) next rest l (flag (cancels back form size k v)) (exact_value l world.memory back form size k v u i h j low few)
              (flag_zero (cancels back form size k v) ∙ ap not e),
          (l, refl, (refl, refl)),
        )
        by false e = (
          nodes (exact_test back (reads_signed form) size (Local u) i) + 1,
          omega (arith, exact_nodes back (reads_signed form) size u i one),
          by_fail functions callers world check.Arith place (exact_test back (reads_signed form) size (Local u) i) next rest l (flag (cancels back form size k v)) (exact_value l world.memory back form size k v u i h j low few)
              (flag_zero (cancels back form size k v) ∙ ap not e),
        )

    -- an element's address is in the temporary t
    abbrev AtElement : ℕ → Values → ℕ → Values → Type 0
    AtElement t before q l = Only t l before × (l t ≡ Some q) × (q < 2 ^ 32)

    -- an address goes to the temporary t
    goes_to : (t q most : ℕ) (e : Expr) (next : Code) (rest : Rest) (l : Values) → nodes e + 1 ≤ most → q < 2 ^ 32 → value_of l world.memory e ≡ Some q
        → Comes functions callers world 0 most (at callers world (Set t e next) rest l) (Ok q) next rest (AtElement t l)
    goes_to t q most e next rest l few small h = (
      nodes e + 1,
      at callers world next rest (with_written l t q),
      omega arith,
      few,
      by_set functions callers world t e next rest l q h,
      (with_written l t q, refl, ((λ x e. written_only l t q x e), written_same l t q, small)),
    )

    nonzero_nodes : (far : Bool) (i : source.Expr) (u : ℕ) → is_zero (held (keeps_index true i) i u) ≡ false → 5 ≤ element_nodes far i
    nonzero_nodes false (source.Number m) u z = subst (λ b. 5 ≤ (if b then 4 else 6)) (sym z) (omega arith)
    nonzero_nodes true (source.Number m) u z = subst (λ b. 5 ≤ (if b then 3 else 5)) (sym z) (omega arith)
    nonzero_nodes false i u z = omega arith
    nonzero_nodes true i u z = omega arith

    pub zero_word : (l : Values) (e : Expr) (k : ℕ) → is_zero e ≡ true → value_of l world.memory e ≡ Some k → k ≡ 0
    zero_word l e k z h = let same : Some 0 ≡ Some k = sym (zero_value l world.memory e z) ∙ h in cc

    -- the step from a pointer in t to an element
    element_comes : (far : Bool) (access : Access) (index : source.Expr) (t w : ℕ) (next : Code) (rest : Rest) (l : Values) (v k : ℕ) → 1 ≤ access.size → access.size < 2 ^ 31 → v < 2 ^ 32 → k < 2 ^ 32
        → l t ≡ Some v → value_of l world.memory (held (keeps_index true index) index w) ≡ Some k
        → Comes functions callers world 0 (14 * element_nodes far index - 46) (at callers world (element_code access (held (keeps_index true index) index w) t next) rest l)
        (at_address (as_address (elements_behind v access.size (exact access.index k))) access.at) next rest (AtElement t l)
    element_comes far access index t w next rest l v k some small low few h j = by (is_zero (held (keeps_index true index) index w)) refl
      where
        by : (zero : Bool) → is_zero (held (keeps_index true index) index w) ≡ zero
            → Comes functions callers world 0 (14 * element_nodes far index - 46)
            (at callers world (if zero then next else Check check.Arith access.at (exact_test false (reads_signed access.index) access.size (Local t) (held (keeps_index true index) index w)) (Set t (shifted false access.size (Local t) (held (keeps_index true index) index w)) next)) rest l)
            (at_address (as_address (elements_behind v access.size (exact access.index k))) access.at) next rest (AtElement t l)
        by true z =
            subst (λ r. Comes functions callers world 0 (14 * element_nodes far index - 46) (at callers world next rest l) r next rest (AtElement t l))
            (sym (first_element access v k (zero_word l (held (keeps_index true index) index w) k z j) low))
            (0, at callers world next rest l, omega arith, omega arith, no_quiet functions (at callers world next rest l), (l, refl, ((λ x e. refl), h, low)))
        by false z =
            then_also 14 6 (14 * element_nodes far index - 46) (at callers world (Check check.Arith access.at (exact_test false (reads_signed access.index) access.size (Local t) (held (keeps_index true index) index w)) (Set t (shifted false access.size (Local t) (held (keeps_index true index) index w)) next)) rest l)
            (at_address (as_address (elements_behind v access.size (exact access.index k))) access.at) (Set t (shifted false access.size (Local t) (held (keeps_index true index) index w)) next) next rest (λ q l'. (l' ≡ l) × (q ≡ moved_word false access.size k v)) (AtElement t l)
            (omega (arith, nonzero_nodes far index w z))
            (exact_comes false access.index access.size k v t (held (keeps_index true index) index w) access.at (Set t (shifted false access.size (Local t) (held (keeps_index true index) index w)) next) rest l some small few low h j (index_alone index w))
            (λ q l' e.
            subst (λ (m : Values). Comes functions callers world 0 6 (at callers world (Set t (shifted false access.size (Local t) (held (keeps_index true index) index w)) next) rest m) (Ok q) next rest (AtElement t l)) (sym e.0)
            (goes_to t q 6 (shifted false access.size (Local t) (held (keeps_index true index) index w)) next rest l (omega (arith, shifted_nodes false access.size (Local t) (held (keeps_index true index) index w), index_alone index w)) (omega (arith, e.1))
            (shifted_value l world.memory false access.size (Local t) (held (keeps_index true index) index w) v k h j low few ∙ ap Some (sym e.1))))

    -- A test says whether an address that is in t lies in a range.
    abbrev pub Tests : Bool → Range → Expr → ℕ → Values → Type 0
    Tests last (Within low high) test t l =
        (q : ℕ) (l1 : Values) → Only t l1 l → l1 t ≡ Some q → q < 2 ^ 32
        → (w : ℕ) × (value_of l1 world.memory test ≡ Some w) × ((w == 0) ≡ not (nat_le low q && is_under last q high))
    Tests last Without test t l = Unit {0}

    -- the test of a range
    within_comes : (last : Bool) (range : Range) (test : Expr) (most t q : ℕ) (place : Pos) (next : Code) (rest : Rest) (l l1 : Values) → nodes test + 1 ≤ most → Tests last range test t l
        → Only t l1 l → l1 t ≡ Some q → q < 2 ^ 32
        → Comes functions callers world 0 most (at callers world (Check check.Bounds place test next) rest l1) (in_range last range place q) next rest (λ a l'. (l' ≡ l1) × (a ≡ q))
    within_comes last Without test most t q place next rest l l1 few tests only h small = tt
    within_comes last (Within low high) test most t q place next rest l l1 few tests only h small =
        by (tests q l1 only h small) (nat_le low q && is_under last q high) refl
      where
        by : (w : ℕ) × (value_of l1 world.memory test ≡ Some w) × ((w == 0) ≡ not (nat_le low q && is_under last q high)) → (good : Bool) → (nat_le low q && is_under last q high) ≡ good
            → Comes functions callers world 0 most (at callers world (Check check.Bounds place test next) rest l1) (if good then Ok q else stops check.Bounds place) next rest (λ a l'. (l' ≡ l1) × (a ≡ q))
        by w true z = (
          nodes test + 1,
          at callers world next rest l1,
          omega arith,
          few,
          by_pass functions callers world check.Bounds place test next rest l1 w.0 w.1 (w.2 ∙ ap not z),
          (l1, refl, (refl, refl)),
        )
        by w false z = (nodes test + 1, few, by_fail functions callers world check.Bounds place test next rest l1 w.0 w.1 (w.2 ∙ ap not z))

    -- the test of the range of a pointer that is computed
    ranged_tests : (last : Bool) (p : source.Expr) (x : Value) (t : ℕ) (l : Values) → n ≤ t → Agree n s.locals l → is_ranged p ≡ true → IsRanged n p → IsCompilableExpr n p → evaluated s p ≡ Ok x
        → (x.number == 0) ≡ false → Tests last x.range (range_test last p (Local t)) t l
    ranged_tests last p x t l le agree b ranged hp eq z =
        let ends = range_known n s world.memory sees p x b ranged hp eq z in
        subst (λ range. Tests last range (range_test last p (Local t)) t l) (sym ends.2)
        (λ q l1 only h small.
        let agree1 = agree_below functions callers world n s sees t l1 l le (only_below t l1 l only) agree in (
          bit_and (flag (nat_le ends.0 q)) (flag (is_under last q ends.1)),
          range_value l1 world.memory last p t q ends.0 ends.1 h (ends.3 l1 agree1) (ends.4 l1 agree1),
          both_tests (nat_le ends.0 q) (is_under last q ends.1),
        ))

    -- the test of a range that is in temporaries
    held_tests : (last : Bool) (range : Range) (t : ℕ) (l : Values) → HasAt range t l → Tests last range (held_test last t) t l
    held_tests last Without t l has = tt
    held_tests last (Within a b) t l has = λ q l1 only h small.
        let low = has.0 in
        let length = has.1 in
        let ends = has.6 in
        let low_is : l1 (t + 1) ≡ Some low = only_behind t 1 l1 l only (omega arith) ∙ has.2 in
        let length_is : l1 (t + 2) ≡ Some length = only_behind t 2 l1 l only (omega arith) ∙ has.3 in (
          bit_and (flag (nat_le low q)) (flag (is_under last (applied binary.Sub q low) length)),
          held_value_of l1 world.memory last t q low length h low_is length_is,
          both_tests (nat_le low q) (is_under last (applied binary.Sub q low) length)
              ∙ ap not (under_moved last q low length small has.4 ∙ ap (λ a. nat_le a q && is_under last q (low + length)) (sym ends.0) ∙ ap (λ b. nat_le a q && is_under last q b) (sym ends.1)),
        )

    -- the checks of an access to an element of an array, by a test of the range
    bounded_comes : (last far : Bool) (test : Expr) (access : Access) (index : source.Expr) (t w : ℕ) (next : Code) (rest : Rest) (l : Values) (x y : Value) → 1 ≤ access.size → access.size < 2 ^ 31
        → x.number < 2 ^ 32 → y.number < 2 ^ 32 → l t ≡ Some x.number → value_of l world.memory (held (keeps_index true index) index w) ≡ Some y.number → nodes test + 1 ≤ test_steps far
        → ((x.number == 0) ≡ false → Tests last x.range test t l)
        → Comes functions callers world 0 (14 * element_nodes far index - 20)
        (at callers world (Check check.Null access.at (Local t) (element_code access (held (keeps_index true index) index w) t (Check check.Bounds access.at test next))) rest l)
        (given (exact_element access x y.number) (in_range last x.range access.at)) next rest (AtElement t l)
    bounded_comes last far test access index t w next rest l x y some small low few h j short tests = by (x.number == 0) refl
      where
        code : Code
        code = element_code access (held (keeps_index true index) index w) t (Check check.Bounds access.at test next)

        by : (none : Bool) → (x.number == 0) ≡ none
            → Comes functions callers world 0 (14 * element_nodes far index - 20) (at callers world (Check check.Null access.at (Local t) code) rest l)
            (given (if none then stops check.Null access.at else (at_address (as_address (elements_behind x.number access.size (exact access.index y.number))) access.at)) (in_range last x.range access.at)) next rest (AtElement t l)
        by true z = (2, omega (arith, elements_some far index), by_fail functions callers world check.Null access.at (Local t) code rest l x.number h z)
        by false z =
            first_runs functions 2 0 ((14 * element_nodes far index - 46) + test_steps far) (14 * element_nodes far index - 20) (at callers world (Check check.Null access.at (Local t) code) rest l) (at callers world code rest l)
            (given (at_address (as_address (elements_behind x.number access.size (exact access.index y.number))) access.at) (in_range last x.range access.at)) (λ v u. (l' : Values) × (u ≡ at callers world next rest l') × AtElement t l v l') (omega (arith, test_within far index))
            (by_pass functions callers world check.Null access.at (Local t) code rest l x.number h z)
            (then_comes functions callers world 0 (14 * element_nodes far index - 46) (test_steps far) ((14 * element_nodes far index - 46) + test_steps far) (at callers world code rest l) (at_address (as_address (elements_behind x.number access.size (exact access.index y.number))) access.at) (in_range last x.range access.at) (Check check.Bounds access.at test next) rest (AtElement t l)
            (λ v u. (l' : Values) × (u ≡ at callers world next rest l') × AtElement t l v l') (omega arith)
            (element_comes far access index t w (Check check.Bounds access.at test next) rest l x.number y.number some small low few h j)
            (λ q l1 g.
            then_also (test_steps far) 0 (test_steps far) (at callers world (Check check.Bounds access.at test next) rest l1) (in_range last x.range access.at q) next next rest (λ a l'. (l' ≡ l1) × (a ≡ q)) (AtElement t l) (omega arith)
            (within_comes last x.range test (test_steps far) t q access.at next rest l l1 short (tests z) g.0 g.1 g.2)
            (λ a l' e.
            subst (λ (m : Values). Comes functions callers world 0 0 (at callers world next rest m) (Ok a) next rest (AtElement t l)) (sym e.0)
            (subst (λ (b : ℕ). Comes functions callers world 0 0 (at callers world next rest l1) (Ok b) next rest (AtElement t l)) (sym e.1)
            (0, at callers world next rest l1, omega arith, omega arith, no_quiet functions (at callers world next rest l1), (l1, refl, g))))))

    -- ---- pointers that have a count of elements

    -- the test of an index against a count
    abbrev count_test : Bool → (i count : Expr) → Expr
    count_test last i count = if last then Bin binary.LtU count i else Bin binary.LtU i count

    -- the branch of an index goes past the stops, or to them
    turns : (last : Bool) (i count : Expr) (outside next : Code) (rest : Rest) (l : Values) (k c : ℕ) (inside : Bool) → value_of l world.memory i ≡ Some k → value_of l world.memory count ≡ Some c → is_under last k c ≡ inside
        → Quiet functions (nodes (count_test last i count) + 1) (at callers world (count_code last i count outside next) rest l) (at callers world (if inside then End else outside) (Next next rest) l)
    turns false i count outside next rest l k c inside h j e =
        subst (λ code. Quiet functions (nodes (Bin binary.LtU i count) + 1) (at callers world (count_code false i count outside next) rest l) (at callers world code (Next next rest) l))
        (by inside e)
        (by_if functions callers world (Bin binary.LtU i count) End outside next rest l (flag (nat_lt k c)) (both_some (applied binary.LtU) (value_of l world.memory i) (value_of l world.memory count) k c h j))
      where
        by : (inside : Bool) → nat_lt k c ≡ inside → (if flag (nat_lt k c) == 0 then outside else End) ≡ (if inside then End else outside)
        by true e = ap (λ b. if flag b == 0 then outside else End) e
        by false e = ap (λ b. if flag b == 0 then outside else End) e
    turns true i count outside next rest l k c inside h j e =
        subst (λ code. Quiet functions (nodes (Bin binary.LtU count i) + 1) (at callers world (count_code true i count outside next) rest l) (at callers world code (Next next rest) l))
        (by inside e)
        (by_if functions callers world (Bin binary.LtU count i) outside End next rest l (flag (nat_lt c k)) (both_some (applied binary.LtU) (value_of l world.memory count) (value_of l world.memory i) c k j h))
      where
        above : (b : Bool) → nat_le k c ≡ b → nat_lt c k ≡ not b
        above true e = grind (arith, nat_tests)
        above false e = grind (arith, nat_tests)

        by : (inside : Bool) → nat_le k c ≡ inside → (if flag (nat_lt c k) == 0 then End else outside) ≡ (if inside then End else outside)
        by true e = ap (λ b. if flag b == 0 then End else outside) (above true e)
        by false e = ap (λ b. if flag b == 0 then End else outside) (above false e)

    test_nodes : (last : Bool) (i count : Expr) → nodes i ≡ 1 → nodes count ≤ 3 → nodes (count_test last i count) ≤ 5
    test_nodes true i count one few = omega arith
    test_nodes false i count one few = omega arith

    -- what is behind a pointer with a count
    abbrev Behind : Bool → Access → (v size c k : ℕ) → Result ℕ Halt
    Behind last access v size c k =
        given (at_address (as_address (elements_behind v size (exact access.index k))) access.at) (in_range last (Within v (v + size * c)) access.at)

    -- an element that the count does not show stops
    outside_comes : (last : Bool) (access : Access) (i : Expr) (a t v k c : ℕ) (after next : Code) (rest : Rest) (l : Values) → 1 ≤ access.size → access.size < 2 ^ 31 → v < 2 ^ 32 → k < 2 ^ 32
        → l a ≡ Some v → value_of l world.memory i ≡ Some k → nodes i ≡ 1 → v + access.size * c < 2147483648 → is_under last k c ≡ false
        → Comes functions callers world 0 16 (at callers world (outside_code access i a) (Next after rest) l) (Behind last access v access.size c k) next rest (AtElement t l)
    outside_comes last access i a t v k c after next rest l some small low few h j one short e =
        let far = Check check.Bounds access.at (Const 0) End in
        let address = at_address (as_address (elements_behind v access.size (exact access.index k))) access.at in
        let begin = at callers world (outside_code access i a) (Next after rest) l in
        then_comes functions callers world 0 14 2 16 begin address (in_range last (Within v (v + access.size * c)) access.at) far (Next after rest)
        (λ q l'. ((l' ≡ l) × (q ≡ moved_word false access.size k v)) × (address ≡ Ok q)) (λ b u. (l' : Values) × (u ≡ at callers world next rest l') × AtElement t l b l') (omega arith)
        (known functions callers world n s sees 0 14 begin address far (Next after rest) (λ q l'. (l' ≡ l) × (q ≡ moved_word false access.size k v))
        (exact_comes false access.index access.size k v a i access.at far (Next after rest) l some small few low h j one))
        (λ q l' got.
        subst (λ r. Runs functions 0 2 (at callers world far (Next after rest) l') r (λ b u. (l' : Values) × (u ≡ at callers world next rest l') × AtElement t l b l'))
        (sym (reach_outside last access.index access.size v k c q access.at some small few short e got.1))
        (2, omega arith, by_fail functions callers world check.Bounds access.at (Const 0) End (Next after rest) l' 0 refl refl))

    -- an element that the count shows is there
    inside_comes : (last : Bool) (access : Access) (i : Expr) (a t v k c : ℕ) (next : Code) (rest : Rest) (l : Values) → 1 ≤ access.size → k < 2 ^ 32
        → l a ≡ Some v → value_of l world.memory i ≡ Some k → nodes i ≡ 1 → v + access.size * c < 2147483648 → is_under last k c ≡ true
        → Comes functions callers world 0 7 (at callers world End (Next (Set t (shifted false access.size (Local a) i) next) rest) l) (Behind last access v access.size c k) next rest (AtElement t l)
    inside_comes last access i a t v k c next rest l some few h j one short e =
        let there = Set t (shifted false access.size (Local a) i) next in
        let most : access.size * k ≤ access.size * c = product_most access.size k c (under_most last k c e) in
        subst (λ r. Comes functions callers world 0 7 (at callers world End (Next there rest) l) r next rest (AtElement t l)) (sym (reach_inside last access.index access.size v k c access.at some short e))
        (first_runs functions 1 0 6 7 (at callers world End (Next there rest) l) (at callers world there rest l) (Ok (v + access.size * k)) (λ b u. (l' : Values) × (u ≡ at callers world next rest l') × AtElement t l b l') (omega arith)
        (by_end functions callers world there rest l)
        (goes_to t (v + access.size * k) 6 (shifted false access.size (Local a) i) next rest l (omega (arith, shifted_nodes false access.size (Local a) i)) (omega (arith, most))
        (shifted_value l world.memory false access.size (Local a) i v k h j (omega arith) few ∙ ap Some (whole v (access.size * k) (omega (arith, most))))))
      where
        whole : (v p : ℕ) → v + p < 2147483648 → (v + p % 2 ^ 32) % 2 ^ 32 ≡ v + p
        whole v p h = omega arith

    -- the first element
    first_comes : (last : Bool) (access : Access) (count : Expr) (t v k c : ℕ) (next : Code) (rest : Rest) (l : Values) → 1 ≤ access.size → access.size < 2 ^ 31 → v < 2 ^ 32 → k ≡ 0
        → l t ≡ Some v → value_of l world.memory count ≡ Some c → nodes count ≤ 3 → v + access.size * c < 2147483648
        → Comes functions callers world 0 4 (at callers world (first_code last access.at count next) rest l) (Behind last access v access.size c k) next rest (AtElement t l)
    first_comes last access count t v k c next rest l some small low zero h j one short = by last (c == 0) refl
      where
        here : v + access.size * k ≡ v
        here = let none : access.size * k ≡ access.size * 0 = ap (λ n. access.size * n) zero in omega (arith, none)

        there : (last : Bool) → is_under last k c ≡ true → Comes functions callers world 0 0 (at callers world next rest l) (Behind last access v access.size c k) next rest (AtElement t l)
        there last e =
            subst (λ r. Comes functions callers world 0 0 (at callers world next rest l) r next rest (AtElement t l)) (sym (reach_inside last access.index access.size v k c access.at some short e))
            (0, at callers world next rest l, omega arith, omega arith, no_quiet functions (at callers world next rest l), (l, refl, ((λ x e. refl), h ∙ ap Some (sym here), omega (arith, here))))

        stop : is_under false k c ≡ false → Behind false access v access.size c k ≡ stops check.Bounds access.at
        stop e =
            let first = first_element access v k zero low in
            ap (λ r. given r (in_range false (Within v (v + access.size * c)) access.at)) first
            ∙ reach_outside false access.index access.size v k c v access.at some small (omega arith) short e first

        by : (last none : Bool) → (c == 0) ≡ none → Comes functions callers world 0 4 (at callers world (first_code last access.at count next) rest l) (Behind last access v access.size c k) next rest (AtElement t l)
        by true none e =
            first_runs functions 0 0 0 4 (at callers world next rest l) (at callers world next rest l) (Behind true access v access.size c k) (λ a u. (l' : Values) × (u ≡ at callers world next rest l') × AtElement t l a l') (omega arith)
            (no_quiet functions (at callers world next rest l)) (there true (let under : nat_le k c ≡ true = grind (arith, nat_tests) in under))
        by false true e =
            let none : nat_lt k c ≡ false = grind (arith, nat_tests) in
            subst (λ r. Comes functions callers world 0 4 (at callers world (Check check.Bounds access.at count next) rest l) r next rest (AtElement t l)) (sym (stop none))
            (nodes count + 1, omega arith, by_fail functions callers world check.Bounds access.at count next rest l c j e)
        by false false e =
            let under : nat_lt k c ≡ true = grind (arith, nat_tests) in
            first_runs functions (nodes count + 1) 0 0 4 (at callers world (Check check.Bounds access.at count next) rest l) (at callers world next rest l) (Behind false access v access.size c k) (λ a u. (l' : Values) × (u ≡ at callers world next rest l') × AtElement t l a l') (omega arith)
            (by_pass functions callers world check.Bounds access.at count next rest l c j e) (there false under)

    -- an element behind a pointer that has a count
    behind_comes : (last : Bool) (access : Access) (index : source.Expr) (i count : Expr) (a t v k c : ℕ) (next : Code) (rest : Rest) (l : Values) → 1 ≤ access.size → access.size < 2 ^ 31 → v < 2 ^ 32 → k < 2 ^ 32
        → l t ≡ Some v → l a ≡ Some v → value_of l world.memory i ≡ Some k → nodes i ≡ 1 → (is_zero i ≡ false → 5 ≤ element_nodes false index) → value_of l world.memory count ≡ Some c → nodes count ≤ 3
        → v + access.size * c < 2147483648
        → Comes functions callers world 0 (14 * element_nodes false index - 22) (at callers world (counted_code last access i count a t next) rest l)
        (Behind last access v access.size c k) next rest (AtElement t l)
    behind_comes last access index i count a t v k c next rest l some small low few h own j one more g thin short = by (is_zero i) refl
      where
        outside : Code
        outside = outside_code access i a

        there : Code
        there = Set t (shifted false access.size (Local a) i) next

        turned : (inside : Bool) → is_under last k c ≡ inside
            → Comes functions callers world 0 16 (at callers world (if inside then End else outside) (Next there rest) l) (Behind last access v access.size c k) next rest (AtElement t l)
        turned true e =
            first_runs functions 0 0 7 16 (at callers world End (Next there rest) l) (at callers world End (Next there rest) l) (Behind last access v access.size c k) (λ b u. (l' : Values) × (u ≡ at callers world next rest l') × AtElement t l b l') (omega arith)
            (no_quiet functions (at callers world End (Next there rest) l)) (inside_comes last access i a t v k c next rest l some few own j one short e)
        turned false e = outside_comes last access i a t v k c there next rest l some small low few own j one short e

        by : (zero : Bool) → is_zero i ≡ zero
            → Comes functions callers world 0 (14 * element_nodes false index - 22)
            (at callers world (if zero then first_code last access.at count next else count_code last i count outside there) rest l)
            (Behind last access v access.size c k) next rest (AtElement t l)
        by true z =
            first_runs functions 0 0 4 (14 * element_nodes false index - 22) (at callers world (first_code last access.at count next) rest l) (at callers world (first_code last access.at count next) rest l)
            (Behind last access v access.size c k) (λ b u. (l' : Values) × (u ≡ at callers world next rest l') × AtElement t l b l') (omega (arith, elements_near index))
            (no_quiet functions (at callers world (first_code last access.at count next) rest l))
            (first_comes last access count t v k c next rest l some small low (zero_word l i k z j) h g thin short)
        by false z =
            first_runs functions (nodes (count_test last i count) + 1) 0 16 (14 * element_nodes false index - 22) (at callers world (count_code last i count outside there) rest l)
            (at callers world (if is_under last k c then End else outside) (Next there rest) l)
            (Behind last access v access.size c k) (λ b u. (l' : Values) × (u ≡ at callers world next rest l') × AtElement t l b l')
            (omega (arith, more z, test_nodes last i count one thin))
            (turns last i count outside there rest l k c (is_under last k c) j g refl) (turned (is_under last k c) refl)

    -- an index that is read where it is
    own_nodes : (index : source.Expr) (w : ℕ) → nodes (own_index index (held (keeps_index true index) index w)) ≡ 1
    own_nodes (source.Local y) w = refl
    own_nodes index w = index_alone index w

    own_nonzero : (index : source.Expr) (w : ℕ) → is_zero (own_index index (held (keeps_index true index) index w)) ≡ false → 5 ≤ element_nodes false index
    own_nonzero (source.Local y) w z = omega arith
    own_nonzero index w z = nonzero_nodes false index w z

    own_value : (index : source.Expr) (w : ℕ) (y : Value) (l : Values) → IsCompilableExpr n index → Agree n s.locals l → evaluated s index ≡ Ok y
        → value_of l world.memory (held (keeps_index true index) index w) ≡ Some y.number → value_of l world.memory (own_index index (held (keeps_index true index) index w)) ≡ Some y.number
    own_value (source.Local z) w y l less agree e h = agree z less ∙ ap Some (number_is z y e)
      where
        number_is : (z : ℕ) (y : Value) → evaluated s (source.Local z) ≡ Ok y → slice_index s.locals z ≡ y.number
        number_is z y e = ap (λ (r : Result Value Halt). elim r [ Ok v ↦ v.number | Err h ↦ slice_index s.locals z ]) e
    own_value index w y l less agree e h = h

    -- a pointer that is read where it is
    own_there : (p : source.Expr) (t : ℕ) (x : Value) (l : Values) → IsCompilableExpr n p → Agree n s.locals l → evaluated s p ≡ Ok x → l t ≡ Some x.number → l (own_pointer p t) ≡ Some x.number
    own_there (source.Limited z limits) t x l less agree e h = agree z less ∙ ap Some (sym number)
      where
        number : x.number ≡ slice_index s.locals z
        number =
            let m = slice_index s.locals z in
            let gives : Gives m (Ok x) = subst (Gives m) e (reads_number s.shapes s.blocks limits.to m (end_address s.locals limits.to.size m limits.lower) (end_address s.locals limits.to.size m limits.upper)) in gives
    own_there p t x l less agree e h = h

    -- the checks of an access through a pointer that has a count
    counted_comes : (last : Bool) (access : Access) (p index : source.Expr) (t w : ℕ) (next : Code) (rest : Rest) (l : Values) (x y : Value) → 1 ≤ access.size → access.size < 2 ^ 31
        → x.number < 2 ^ 32 → y.number < 2 ^ 32 → l t ≡ Some x.number → value_of l world.memory (held (keeps_index true index) index w) ≡ Some y.number → Agree n s.locals l
        → IsCompilableExpr n p → IsCompilableExpr n index → evaluated s p ≡ Ok x → evaluated s index ≡ Ok y
        → (is_array p ≡ true → (x.number == 0) ≡ false) → ((x.number == 0) ≡ false → HasCount n s world.memory access.size p x)
        → Comes functions callers world 0 (14 * element_nodes false index - 20)
        (at callers world (unless_array p access.at (own_pointer p t) (counted_code last access (own_index index (held (keeps_index true index) index w)) (count_of access.size p) (own_pointer p t) t next)) rest l)
        (given (exact_element access x y.number) (in_range last x.range access.at)) next rest (AtElement t l)
    counted_comes last access p index t w next rest l x y some small low few h j agree hp hi eq_p eq_i not_null counts = by (is_array p) refl (x.number == 0) refl
      where
        a : ℕ
        a = own_pointer p t

        i : Expr
        i = own_index index (held (keeps_index true index) index w)

        own : l (own_pointer p t) ≡ Some x.number
        own = own_there p t x l hp agree eq_p h

        code : Code
        code = counted_code last access i (count_of access.size p) a t next

        address : Result ℕ Halt
        address = at_address (as_address (elements_behind x.number access.size (exact access.index y.number))) access.at

        behind : (x.number == 0) ≡ false → Comes functions callers world 0 (14 * element_nodes false index - 22) (at callers world code rest l) (given address (in_range last x.range access.at)) next rest (AtElement t l)
        behind z =
            let c = counts z in
            subst (λ range. Comes functions callers world 0 (14 * element_nodes false index - 22) (at callers world code rest l) (given address (in_range last range access.at)) next rest (AtElement t l)) (sym c.1)
            (behind_comes last access index i (count_of access.size p) a t x.number y.number c.0 next rest l some small low few h own (own_value index w y l hi agree eq_i j) (own_nodes index w) (own_nonzero index w)
            (c.3 l agree) (count_nodes access.size p) c.2)

        by : (array : Bool) → is_array p ≡ array → (none : Bool) → (x.number == 0) ≡ none
            → Comes functions callers world 0 (14 * element_nodes false index - 20) (at callers world (if array then code else Check check.Null access.at (Local a) code) rest l)
            (given (if none then stops check.Null access.at else address) (in_range last x.range access.at)) next rest (AtElement t l)
        by true e true z = absurd (let wrong : true ≡ false = sym z ∙ not_null e in cc)
        by true e false z =
            first_runs functions 0 0 (14 * element_nodes false index - 22) (14 * element_nodes false index - 20) (at callers world code rest l) (at callers world code rest l)
            (given address (in_range last x.range access.at)) (λ b u. (l' : Values) × (u ≡ at callers world next rest l') × AtElement t l b l') (omega arith)
            (no_quiet functions (at callers world code rest l)) (behind z)
        by false e true z = (2, omega (arith, elements_near index), by_fail functions callers world check.Null access.at (Local a) code rest l x.number own z)
        by false e false z =
            first_runs functions 2 0 (14 * element_nodes false index - 22) (14 * element_nodes false index - 20) (at callers world (Check check.Null access.at (Local a) code) rest l) (at callers world code rest l)
            (given address (in_range last x.range access.at)) (λ b u. (l' : Values) × (u ≡ at callers world next rest l') × AtElement t l b l') (omega (arith, elements_near index))
            (by_pass functions callers world check.Null access.at (Local a) code rest l x.number own z) (behind z)

    -- the checks of an access
    judged_comes : (access : Access) (through : Through) (p index : source.Expr) (t : ℕ) (next : Code) (rest : Rest) (before l : Values) (x y : Value) → n ≤ t → Agree n s.locals l
        → is_bounded through ≡ false → IsJudged n through access.size p index → Both functions callers world n s sees (held (is_bounded through) p t) (held (keeps_index (is_bounded through) index) index (t + 1)) t before x y l
        → Comes functions callers world 0 (judged_steps through p index t)
        (at callers world (judged through access p index (held (is_bounded through) p t) (held (keeps_index (is_bounded through) index) index (t + 1)) t next) rest l) (element_through through access x y.number) next rest
        (Placed access through (held (is_bounded through) p t) (held (keeps_index (is_bounded through) index) index (t + 1)) t before)
    judged_comes access Named p index t next rest before l x y le agree un h both = (
      0,
      at callers world next rest l,
      omega arith,
      omega arith,
      no_quiet functions (at callers world next rest l),
      (l, refl, (both.0, (λ later below. both.1 later below), both.3)),
    )
    judged_comes access Raw p index t next rest before l x y le agree un h both = (
      0,
      at callers world next rest l,
      omega arith,
      omega arith,
      no_quiet functions (at callers world next rest l),
      (
        l,
        refl,
        (
          both.0,
          (λ later below.
              shifted_value later world.memory false access.size (operand p t) (operand index (t + 1)) x.number y.number (both.1 later below) (both.2 later below) both.3 both.4),
          omega arith,
        ),
      ),
    )
    judged_comes access One p index t next rest before l x y le agree un h both = by (x.number == 0) refl
      where
        value : value_of l world.memory (operand p t) ≡ Some x.number
        value = both.1 l (λ z less. refl)

        none : y.number ≡ 0
        none = zero_index index (t + 1) y.number l h (both.2 l (λ z less. refl))

        by : (zero : Bool) → (x.number == 0) ≡ zero
            → Comes functions callers world 0 (nodes (operand p t) + 1) (at callers world (Check check.Null access.at (operand p t) next) rest l)
            (if zero then stops check.Null access.at else at_address (as_address (elements_behind x.number access.size (exact access.index y.number))) access.at) next rest
            (Placed access One (operand p t) (operand index (t + 1)) t before)
        by true z = (nodes (operand p t) + 1, omega arith, by_fail functions callers world check.Null access.at (operand p t) next rest l x.number value z)
        by false z =
            subst (λ r. Comes functions callers world 0 (nodes (operand p t) + 1) (at callers world (Check check.Null access.at (operand p t) next) rest l) r next rest (Placed access One (operand p t) (operand index (t + 1)) t before))
            (sym (first_element access x.number y.number none both.3)) (
              nodes (operand p t) + 1,
              at callers world next rest l,
              omega arith,
              omega arith,
              by_pass functions callers world check.Null access.at (operand p t) next rest l x.number value z,
              (l, refl, (both.0, (λ later below. both.1 later below), both.3)),
            )
    judged_comes access Array p index t next rest before l x y le agree un h both = absurd cc
    judged_comes access Terminated p index t next rest before l x y le agree un h both = absurd cc

    -- ---- accesses that are found

    pub known_word : (e : source.Expr) (x : Value) → IsCompilableExpr n e → evaluated s e ≡ Ok x → x.number < 2 ^ 32
    known_word e x h eq = let word : GivesWord (Ok x) = subst GivesWord eq (word_seen n s world.memory sees e h) in word

    pub has_later : (range : Range) (t u : ℕ) (l later : Values) → t + 3 ≤ u → Below u later l → HasAt range t l → HasAt range t later
    has_later range t u l later more below has =
        (has.0, has.1, below (t + 1) (omega arith) ∙ has.2, below (t + 2) (omega arith) ∙ has.3, has.4, has.5, has.6)

    -- A pointer and its range are in temporaries, and after them is another value.
    abbrev pub BothFar : Expr → ℕ → Values → Value → Value → Values → Type 0
    BothFar b t before x y l =
        Below t l before × (l t ≡ Some x.number) × HasAt x.range t l × (value_of l world.memory b ≡ Some y.number) × (x.number < 2 ^ 32) × (y.number < 2 ^ 32)

    pub any_least : {A : Type 0} (most : ℕ) (st : State) (r : Result A Halt) (more : Code) (rest : Rest) (P : A → Values → Type 0) → Comes functions callers world 1 most st r more rest P → Comes functions callers world 0 most st r more rest P
    any_least most st (Ok v) more rest P c = (c.0, c.1, omega arith, c.3, c.4, c.5)
    any_least most st (Err Stuck) more rest P c = tt
    any_least most st (Err (Stopped why place)) more rest P c = c

    pub pair_far_comes : {A : Type 0} (on_b : Bool) (a b : source.Expr) (second_steps : ℕ → ℕ) (t u least m k : ℕ) (last more : Code) (rest : Rest) (l : Values) (f : Value → Value → Result A Halt) (R : A → Values → Type 0)
        → RangeClaim functions callers world n s sees a → HeldIn functions callers world n s sees second_steps on_b b → n ≤ t → t + 3 ≤ u → IsCompilableExpr n a → HasRange n a → IsCompilableExpr n b → Agree n s.locals l
        → value_steps true a + (second_steps u + m) ≤ k
        → ((x y : Value) (l2 : Values) → BothFar (held on_b b u) t l x y l2 → evaluated s a ≡ Ok x → evaluated s b ≡ Ok y → Comes functions callers world least m (at callers world last rest l2) (f x y) more rest R)
        → Comes functions callers world least k (at callers world (value_code true a t (put_if on_b b (expr_code b u) last)) rest l) (given_both (evaluated s a) (evaluated s b) f) more rest R
    pair_far_comes {A} on_b a b second_steps t u least m k last more rest l f R claim_a claim_b le far ha has hb agree few next =
        let q = held on_b b u in
        let second = put_if on_b b (expr_code b u) last in
        let start = at callers world (value_code true a t second) rest l in
        then_comes functions callers world least (value_steps true a) (second_steps u + m) k start (evaluated s a)
        (λ x. given (evaluated s b) (λ y. f x y)) second rest (λ x l1. PutRange functions callers world t l x l1 × (evaluated s a ≡ Ok x))
        (λ v u. (l' : Values) × (u ≡ at callers world more rest l') × R v l') few
        (known functions callers world n s sees 0 (value_steps true a) start (evaluated s a) second rest (PutRange functions callers world t l)
        (any_least (value_steps true a) start (evaluated s a) second rest (PutRange functions callers world t l) (claim_a t second rest l le ha has agree)))
        (λ x l1 got.
        let put = got.0 in
        then_comes functions callers world least (second_steps u) m (second_steps u + m)
        (at callers world second rest l1) (evaluated s b) (λ y. f x y) last rest (λ y l2. Held functions callers world q u l1 y l2 × (evaluated s b ≡ Ok y))
        (λ v u. (l' : Values) × (u ≡ at callers world more rest l') × R v l') (omega arith)
        (known functions callers world n s sees 0 (second_steps u) (at callers world second rest l1) (evaluated s b) last rest (Held functions callers world q u l1)
        (claim_b u last rest l1 (omega arith) hb (agree_below functions callers world n s sees t l1 l le put.0 agree)))
        (λ y l2 got2.
        let held2 = got2.0 in
        next x y l2 (
          (λ z less. held2.0 z (omega arith) ∙ put.0 z less),
          held2.0 t (omega arith) ∙ put.1,
          has_later x.range t u l1 l2 far held2.0 put.2,
          held2.1 l2 (λ z less. refl),
          known_word a x ha got.1,
          held2.2,
        ) got.1 got2.1))

    -- the element of an access is in reach
    abbrev pub Found : Access → (p i : source.Expr) → ℕ → Values → ℕ → Values → Type 0
    Found access p i t before q l =
        Below t l before × ((later : Values) → Below (t + 2) later l → value_of later world.memory (reached_element access p i t) ≡ Some q) × (q < 2 ^ 32)

    -- the same for an access that is not judged by a range
    near_comes : {A : Type 0} (access : Access) (through : Through) (p i : source.Expr) (t least m k : ℕ) (last more : Code) (rest : Rest) (l : Values) (f : Value → ℕ → Result A Halt) (R : A → Values → Type 0)
        → is_bounded through ≡ false → Claim functions callers world n s sees p → Claim functions callers world n s sees i → n ≤ t → IsJudged n through access.size p i → IsCompilableExpr n p → IsCompilableExpr n i → Agree n s.locals l
        → (14 * expr_nodes p - 2 * nodes (held (is_bounded through) p t)) + (index_steps (keeps_index (is_bounded through) i) i (t + 1) + judged_steps through p i t) + m ≤ k
        → ((x : Value) (q : ℕ) (l3 : Values) → Placed access through (held (is_bounded through) p t) (held (keeps_index (is_bounded through) i) i (t + 1)) t l q l3 → evaluated s p ≡ Ok x
        → Comes functions callers world least m (at callers world last rest l3) (f x q) more rest R)
        → Comes functions callers world least k (at callers world (put_if (is_bounded through) p (expr_code p t) (put_if (keeps_index (is_bounded through) i) i (expr_code i (t + 1))
        (judged through access p i (held (is_bounded through) p t) (held (keeps_index (is_bounded through) i) i (t + 1)) t last))) rest l)
        (given_both (evaluated s p) (evaluated s i) (λ v k. given (element_through through access v k.number) (f v))) more rest R
    near_comes {A} access through p i t least m k last more rest l f R un claim_p claim_i le h hp hi agree few next =
        let checked = is_bounded through in
        let keeps = keeps_index checked i in
        let a = held checked p t in
        let b = held keeps i (t + 1) in
        let ju = judged_steps through p i t in
        let judge = judged through access p i a b t last in
        pair_comes functions callers world n s sees checked keeps p i (held_steps checked p) (index_steps keeps i) t least (ju + m) k judge more rest l
        (λ v k. given (element_through through access v k.number) (f v)) R
        (held_from functions callers world n s sees checked p claim_p) (index_from functions callers world n s sees checked i claim_i) le hp hi agree (omega arith)
        (λ x y l2 both eq_p eq_i.
        then_comes functions callers world least ju m (ju + m) (at callers world judge rest l2) (element_through through access x y.number) (f x) last rest
        (Placed access through a b t l) (λ v u. (l' : Values) × (u ≡ at callers world more rest l') × R v l') (omega arith)
        (judged_comes access through p i t last rest l l2 x y le (agree_below functions callers world n s sees t l2 l le both.0 agree) un h both)
        (λ q l3 r. next x q l3 r eq_p))

    -- an access that is judged by a range, computed or in temporaries, or by a count
    abbrev array_code : (last b c : Bool) → Access → (p i : source.Expr) → ℕ → Code → Code
    array_code last b c access p i t next =
        value_code (not b) p t (put_if (keeps_index true i) i (expr_code i (t + index_far (not b)))
        (if c then unless_array p access.at (own_pointer p t) (counted_code last access (own_index i (held (keeps_index true i) i (t + index_far (not b)))) (count_of access.size p) (own_pointer p t) t next)
        else Check check.Null access.at (Local t) (element_code access (held (keeps_index true i) i (t + index_far (not b))) t
        (Check check.Bounds access.at (if b then range_test last p (Local t) else held_test last t) next))))

    array_comes : {A : Type 0} (last b c : Bool) (access : Access) (p i : source.Expr) (t least m k : ℕ) (next more : Code) (rest : Rest) (l : Values) (f : Value → ℕ → Result A Halt) (R : A → Values → Type 0)
        → is_ranged p ≡ b → is_counted access.size p ≡ c → Claim functions callers world n s sees p → RangeClaim functions callers world n s sees p → Claim functions callers world n s sees i → n ≤ t → 1 ≤ access.size → access.size < 2 ^ 31 → IsBounded n b p
        → IsCompilableExpr n p → IsCompilableExpr n i → Agree n s.locals l
        → (14 * value_nodes (not b) p - 2) + (index_steps (keeps_index true i) i (t + index_far (not b)) + (14 * element_nodes (not b) i - 20)) + m ≤ k
        → ((x : Value) (q : ℕ) (l3 : Values) → Below t l3 l × (l3 t ≡ Some q) × (q < 2 ^ 32) → IsEnded l3 world.memory (end_test b p t) x.range q → evaluated s p ≡ Ok x → Comes functions callers world least m (at callers world next rest l3) (f x q) more rest R)
        → Comes functions callers world least k (at callers world (array_code last b c access p i t next) rest l)
        (given_both (evaluated s p) (evaluated s i) (λ v k. given (given (exact_element access v k.number) (in_range last v.range access.at)) (f v))) more rest R
    array_comes {A} last true true access p i t least m k next more rest l f R is counted claim_p range_p claim_i le some small bounded hp hi agree few go =
        let w = t + 1 in
        let js = 14 * element_nodes false i - 20 in
        let judge = unless_array p access.at (own_pointer p t) (counted_code last access (own_index i (held (keeps_index true i) i w)) (count_of access.size p) (own_pointer p t) t next) in
        pair_comes functions callers world n s sees true (keeps_index true i) p i (held_steps true p) (index_steps (keeps_index true i) i) t least (js + m) k judge more rest l
        (λ v k. given (given (exact_element access v k.number) (in_range last v.range access.at)) (f v)) R
        (held_from functions callers world n s sees true p claim_p) (index_from functions callers world n s sees true i claim_i) le hp hi agree (omega arith)
        (λ x y l2 both eq_p eq_i.
        let start = at callers world judge rest l2 in
        let find = given (exact_element access x y.number) (in_range last x.range access.at) in
        then_comes functions callers world least js m (js + m) start find (f x) next rest
        (λ q l3. AtElement t l2 q l3 × (find ≡ Ok q)) (λ v u. (l' : Values) × (u ≡ at callers world more rest l') × R v l') (omega arith)
        (known functions callers world n s sees 0 js start find next rest (AtElement t l2)
        (counted_comes last access p i t w next rest l2 x y some small both.3 both.4 (both.1 l2 (λ z less. refl)) (both.2 l2 (λ z less. refl)) (agree_below functions callers world n s sees t l2 l le both.0 agree) hp hi eq_p eq_i
        (λ array. array_some s access.size p x counted array eq_p)
        (λ z. count_known n s world.memory sees access.size p x some counted bounded hp eq_p z)))
        (λ q l3 got.
        let g = got.0 in
        let reached = reached_known last access x y.number q got.1 in
        let below : Below t l3 l = λ z less. only_below t l3 l2 g.0 z less ∙ both.0 z less in
        go x q l3 (below, g.1, g.2)
        (end_ranged n s world.memory p x t q l3 (range_known n s world.memory sees p x is bounded hp eq_p reached.0) (agree_below functions callers world n s sees t l3 l le below agree) g.1) eq_p))
    array_comes {A} last false true access p i t least m k next more rest l f R is counted claim_p range_p claim_i le some small bounded hp hi agree few go =
        absurd (let wrong : true ≡ false = sym (counted_ranged access.size p counted) ∙ is in cc)
    array_comes {A} last true false access p i t least m k next more rest l f R is uncounted claim_p range_p claim_i le some small bounded hp hi agree few go =
        let w = t + 1 in
        let test = range_test last p (Local t) in
        let js = 14 * element_nodes false i - 20 in
        let judge = Check check.Null access.at (Local t) (element_code access (held (keeps_index true i) i w) t (Check check.Bounds access.at test next)) in
        pair_comes functions callers world n s sees true (keeps_index true i) p i (held_steps true p) (index_steps (keeps_index true i) i) t least (js + m) k judge more rest l
        (λ v k. given (given (exact_element access v k.number) (in_range last v.range access.at)) (f v)) R
        (held_from functions callers world n s sees true p claim_p) (index_from functions callers world n s sees true i claim_i) le hp hi agree (omega arith)
        (λ x y l2 both eq_p eq_i.
        let start = at callers world judge rest l2 in
        let find = given (exact_element access x y.number) (in_range last x.range access.at) in
        then_comes functions callers world least js m (js + m) start find (f x) next rest
        (λ q l3. AtElement t l2 q l3 × (find ≡ Ok q)) (λ v u. (l' : Values) × (u ≡ at callers world more rest l') × R v l') (omega arith)
        (known functions callers world n s sees 0 js start find next rest (AtElement t l2)
        (bounded_comes last false test access i t w next rest l2 x y some small both.3 both.4 (both.1 l2 (λ z less. refl)) (both.2 l2 (λ z less. refl)) (test_few last true p t)
        (λ z. ranged_tests last p x t l2 le (agree_below functions callers world n s sees t l2 l le both.0 agree) is bounded hp eq_p z)))
        (λ q l3 got.
        let g = got.0 in
        let reached = reached_known last access x y.number q got.1 in
        let below : Below t l3 l = λ z less. only_below t l3 l2 g.0 z less ∙ both.0 z less in
        go x q l3 (below, g.1, g.2)
        (end_ranged n s world.memory p x t q l3 (range_known n s world.memory sees p x is bounded hp eq_p reached.0) (agree_below functions callers world n s sees t l3 l le below agree) g.1) eq_p))
    array_comes {A} last false false access p i t least m k next more rest l f R is uncounted claim_p range_p claim_i le some small bounded hp hi agree few go =
        let w = t + 3 in
        let test = held_test last t in
        let js = 14 * element_nodes true i - 20 in
        let judge = Check check.Null access.at (Local t) (element_code access (held (keeps_index true i) i w) t (Check check.Bounds access.at test next)) in
        pair_far_comes (keeps_index true i) p i (index_steps (keeps_index true i) i) t w least (js + m) k judge more rest l
        (λ v k. given (given (exact_element access v k.number) (in_range last v.range access.at)) (f v)) R
        range_p (index_from functions callers world n s sees true i claim_i) le (omega arith) hp bounded hi agree (omega arith)
        (λ x y l2 both eq_p eq_i.
        let start = at callers world judge rest l2 in
        let find = given (exact_element access x y.number) (in_range last x.range access.at) in
        then_comes functions callers world least js m (js + m) start find (f x) next rest
        (λ q l3. AtElement t l2 q l3 × (find ≡ Ok q)) (λ v u. (l' : Values) × (u ≡ at callers world more rest l') × R v l') (omega arith)
        (known functions callers world n s sees 0 js start find next rest (AtElement t l2)
        (bounded_comes last true test access i t w next rest l2 x y some small both.4 both.5 both.1 both.3 (test_few last false p t)
        (λ z. held_tests last x.range t l2 both.2)))
        (λ q l3 got.
        let g = got.0 in
        let has = both.2 in
        let reached = reached_known last access x y.number q got.1 in
        let still : HasAt x.range t l3 =
        (has.0, has.1, only_behind t 1 l3 l2 g.0 (omega arith) ∙ has.2, only_behind t 2 l3 l2 g.0 (omega arith) ∙ has.3, has.4, has.5, has.6) in
        go x q l3 ((λ z less. only_below t l3 l2 g.0 z less ∙ both.0 z less), g.1, g.2)
        (end_held world.memory p x.range t q l3 still reached.1 g.1 g.2) eq_p))

    -- whether an element is at the upper bound of a pointer to a null-terminated array
    abbrev pub Ended : Through → source.Expr → ℕ → Range → ℕ → Values → Type 0
    Ended Terminated p t range q l = IsEnded l world.memory (below_end p t) range q
    Ended Named p t range q l = Unit {0}
    Ended Raw p t range q l = Unit {0}
    Ended One p t range q l = Unit {0}
    Ended Array p t range q l = Unit {0}

    found_by : {A : Type 0} (access : Access) (through : Through) (p i : source.Expr) (t least m k : ℕ) (last more : Code) (rest : Rest) (l : Values) (f : Value → ℕ → Result A Halt) (R : A → Values → Type 0)
        → Claim functions callers world n s sees p → RangeClaim functions callers world n s sees p → Claim functions callers world n s sees i → n ≤ t → IsJudged n through access.size p i → IsCompilableExpr n p → IsCompilableExpr n i → Agree n s.locals l
        → (14 * value_nodes (takes_range through p) p - 2 * nodes (held (is_bounded through) p t))
        + (index_steps (keeps_index (is_bounded through) i) i (t + index_far (takes_range through p)) + judged_steps through p i t) + m ≤ k
        → ((x : Value) (q : ℕ) (l3 : Values)
        → Below t l3 l × ((later : Values) → Below (t + 2) later l3 → value_of later world.memory (element_of through access.size (held (is_bounded through) p t) (held (keeps_index (is_bounded through) i) i (t + index_far (takes_range through p)))) ≡ Some q) × (q < 2 ^ 32)
        → Ended through p t x.range q l3 → evaluated s p ≡ Ok x → Comes functions callers world least m (at callers world last rest l3) (f x q) more rest R)
        → Comes functions callers world least k (at callers world (put_if (is_bounded through) p (value_code (takes_range through p) p t) (put_if (keeps_index (is_bounded through) i) i (expr_code i (t + index_far (takes_range through p)))
        (judged through access p i (held (is_bounded through) p t) (held (keeps_index (is_bounded through) i) i (t + index_far (takes_range through p))) t last))) rest l)
        (given_both (evaluated s p) (evaluated s i) (λ v k. given (element_through through access v k.number) (f v))) more rest R
    found_by {A} access Named p i t least m k last more rest l f R claim_p range_p claim_i le h hp hi agree few next =
        near_comes access Named p i t least m k last more rest l f R refl claim_p claim_i le h hp hi agree few (λ x q l3 r eq. next x q l3 r tt eq)
    found_by {A} access Raw p i t least m k last more rest l f R claim_p range_p claim_i le h hp hi agree few next =
        near_comes access Raw p i t least m k last more rest l f R refl claim_p claim_i le h hp hi agree few (λ x q l3 r eq. next x q l3 r tt eq)
    found_by {A} access One p i t least m k last more rest l f R claim_p range_p claim_i le h hp hi agree few next =
        near_comes access One p i t least m k last more rest l f R refl claim_p claim_i le h hp hi agree few (λ x q l3 r eq. next x q l3 r tt eq)
    found_by {A} access Array p i t least m k last more rest l f R claim_p range_p claim_i le h hp hi agree few next =
        array_comes false (is_ranged p) (is_counted access.size p) access p i t least m k last more rest l f R refl refl claim_p range_p claim_i le h.0 h.1 h.2 hp hi agree few
        (λ x q l3 g end eq. next x q l3 (g.0, (λ later below. below t (omega arith) ∙ g.1), g.2) tt eq)
    found_by {A} access Terminated p i t least m k last more rest l f R claim_p range_p claim_i le h hp hi agree few next =
        array_comes true (is_ranged p) (is_counted access.size p) access p i t least m k last more rest l f R refl refl claim_p range_p claim_i le h.0 h.1 h.2 hp hi agree few
        (λ x q l3 g end eq. next x q l3 (g.0, (λ later below. below t (omega arith) ∙ g.1), g.2) end eq)

    pub found_comes : {A : Type 0} (access : Access) (p i : source.Expr) (t least m k : ℕ) (last more : Code) (rest : Rest) (l : Values) (f : Value → ℕ → Result A Halt) (R : A → Values → Type 0)
        → Claim functions callers world n s sees p → RangeClaim functions callers world n s sees p → Claim functions callers world n s sees i → n ≤ t → IsAccess n access p i → IsCompilableExpr n p → IsCompilableExpr n i → Agree n s.locals l
        → found_steps access p i t + m ≤ k
        → ((x : Value) (q : ℕ) (l3 : Values) → Found access p i t l q l3 → evaluated s p ≡ Ok x → Comes functions callers world least m (at callers world last rest l3) (f x q) more rest R)
        → Comes functions callers world least k (at callers world (access_code access p i t last) rest l)
        (given_both (evaluated s p) (evaluated s i) (λ v k. given (element access v k.number) (f v))) more rest R
    found_comes {A} access p i t least m k last more rest l f R claim_p range_p claim_i le h hp hi agree few next =
        found_by access access.through p i t least m k last more rest l f R claim_p range_p claim_i le h.3 hp hi agree few (λ x q l3 r end eq. next x q l3 r eq)

    -- the same, if it is known whether the element is at the upper bound
    pub found_ended : {A : Type 0} (access : Access) (p i : source.Expr) (t least m k : ℕ) (last more : Code) (rest : Rest) (l : Values) (f : Value → ℕ → Result A Halt) (R : A → Values → Type 0)
        → Claim functions callers world n s sees p → RangeClaim functions callers world n s sees p → Claim functions callers world n s sees i → n ≤ t → IsAccess n access p i → IsCompilableExpr n p → IsCompilableExpr n i → Agree n s.locals l
        → found_steps access p i t + m ≤ k
        → ((x : Value) (q : ℕ) (l3 : Values) → Found access p i t l q l3 → Ended access.through p t x.range q l3 → Comes functions callers world least m (at callers world last rest l3) (f x q) more rest R)
        → Comes functions callers world least k (at callers world (access_code access p i t last) rest l)
        (given_both (evaluated s p) (evaluated s i) (λ v k. given (element access v k.number) (f v))) more rest R
    found_ended {A} access p i t least m k last more rest l f R claim_p range_p claim_i le h hp hi agree few next =
        found_by access access.through p i t least m k last more rest l f R claim_p range_p claim_i le h.3 hp hi agree few (λ x q l3 r end eq. next x q l3 r end)

    -- the place of an access, if its element is in reach
    pub place_value : (access : Access) (p i : source.Expr) (t q : ℕ) (before l later : Values) → Found access p i t before q l → Below (t + 2) later l
        → value_of later world.memory (reached_place access p i t) ≡ Some (place_in q access.offset)
    place_value access p i t q before l later found below =
        at_offset_value later world.memory access.offset (reached_element access p i t) q (found.1 later below) found.2

    -- a value that is got from where an access goes to
    pub access_comes : (access : Access) (p i : source.Expr) (t : ℕ) (value : Expr) (go : ℕ → Result Value Halt) (more : Code) (rest : Rest) (l : Values)
        → Claim functions callers world n s sees p → RangeClaim functions callers world n s sees p → Claim functions callers world n s sees i → n ≤ t → IsAccess n access p i → IsCompilableExpr n p → IsCompilableExpr n i → Agree n s.locals l
        → nodes value ≤ 1 + nodes (reached_place access p i t)
        → ((x : ℕ) (later : Values) → value_of later world.memory (reached_place access p i t) ≡ Some (place_in x access.offset) → IsValue (go x) (value_of later world.memory value))
        → Comes functions callers world 1 (14 * place_nodes_of access p i - 2)
        (at callers world (access_code access p i t (Set t value more)) rest l)
        (given_both (evaluated s p) (evaluated s i) (λ v k. given (element access v k.number) go)) more rest (Put functions callers world t l)
    access_comes access p i t value go more rest l claim_p range_p claim_i le h hp hi agree few next =
        found_comes access p i t 1 (nodes value + 1) (14 * place_nodes_of access p i - 2) (Set t value more) more rest l (λ v. go) (Put functions callers world t l)
        claim_p range_p claim_i le h hp hi agree (omega (arith, found_few access p i t))
        (λ x q l3 r eq.
        weaken functions callers world n s sees (nodes value + 1) t (at callers world (Set t value more) rest l3) (go q) l3 l more rest r.0
        (set_value functions callers world value t more rest l3 (go q) (nodes value + 1) (omega arith) (next q l3 (place_value access p i t q l l3 l3 r (λ z less. refl)))))
