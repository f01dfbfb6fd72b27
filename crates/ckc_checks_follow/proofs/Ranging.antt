-- The code of a pointer puts its range after it.
use Rattle.std.proofs.Common.{◌≡◌, ◌⊎◌, inl, inr, ℕ, ◌^◌, ◌+◌, ◌-◌, ◌*◌, ◌≤◌, ◌<◌, ◌==◌, List, refl, sym, ◌∙◌, ap, subst, arith}
use Rattle.std.specs.Prelude.{length, option_and_then, Bool, true, false, if◌then◌else◌, Some, None, Result, Ok, Err, not, slice_index, Option, ◌||◌, ℤ, pos, ◌+ℤ◌}
use Rattle.ckc_base.specs.declared.arithmetic.BinOp.TheVariants as binary
use Rattle.ckc_base.specs.declared.arithmetic.Width.TheVariants.{Word}
use Rattle.ckc_base.specs.Memory.{value_at}
use Rattle.ckc_base.specs.declared.places.Pos.{Pos}
use Rattle.ckc_base.specs.declared.runtime_checks.Check.TheVariants as check
use Rattle.ckc_base.specs.Words.{word_of, flag, applied}
use Rattle.ckc_base.specs.Actions.{World}
use Rattle.ckc_base.specs.Activations.{Values, with_written}
use Rattle.ckc_source.specs.declared.expr.Count.TheVariants as counts
use Rattle.ckc_source.specs.declared.expr.Access.{Access}
use Rattle.ckc_source.specs.declared.expr.Count.{Count}
use Rattle.ckc_source.specs.declared.expr.Limits.{Limits}
use Rattle.ckc_source.specs.declared.expr.Integer.{Integer}
use Rattle.ckc_source.specs.declared.expr.Pointee.{Pointee}
use Rattle.ckc_source.specs.declared.expr.Shift.{Shift}
use Rattle.ckc_source.specs.declared.outcome.Range.{Range}
use Rattle.ckc_source.specs.declared.outcome.Range.TheVariants.{Without, Within}
use Rattle.ckc_source.specs.declared.outcome.Value.{Value}
use Rattle.ckc_source.specs.declared.outcome.Halt.{Halt}
use Rattle.ckc_source.specs.declared.outcome.Halt.TheVariants.{Stopped, Stuck}
use Rattle.ckc_source.specs.Code as source
use Rattle.ckc_source.specs.Blocks.{loaded}
use Rattle.ckc_source.specs.Words.{exact, width_of, elements_behind}
use Rattle.ckc_source.specs.Eval.{Store, given, given_both, given_some, counted, reads, reads_within, ranged, tests_within, end_address, plain, stops, place_in, loads_pointer, moves, spanned, tests, trusts, evaluated}
use Rattle.ckc_core.specs.Code.{Expr, Const, Local, Load, Bin, Code, Set, Check, Function}
use Rattle.ckc_core.specs.Meaning.{Rest, State, Caller, value_of, both, nodes}
use Rattle.ckc_checks_operands.specs.Compilable.{IsSmall, IsCount, IsCompilableExpr, HasRange, index_nodes, value_nodes, expr_nodes}
use Rattle.ckc_checks_operands.specs.code.Operands.{scaled, at_offset, held, keeps_index, operand}
use Rattle.ckc_checks_operands.specs.code.Pointers.{end_at, length_at, cast_test}
use Rattle.ckc_checks_follow.specs.code.Inserted.{put_if, tested_code, no_range, reached_element, value_code, moved_code, reached_place, expr_code, operand_code}
use Rattle.ckc_checks_follow.proofs.Paths.{then_quiet}
use Rattle.ckc_checks_follow.proofs.Running.{first_runs, later_runs, at, by_set, by_pass, by_fail}
use Rattle.ckc_checks_follow.proofs.Bounded.{Gives, zero_of, reads_number}
use Rattle.ckc_checks_follow.proofs.Values.{Agree, Sees, at_offset_value, scaled_value, direct_value}
use Rattle.ckc_checks_follow.proofs.Bytes.{loaded_there}
use Rattle.ckc_checks_follow.proofs.Flat.{loaded_word}
use Rattle.ckc_checks_follow.proofs.Ends.{IsWord, exact_word, member_word, number_word, end_word, end_value, any_end}
use Rattle.ckc_checks_follow.proofs.Casts.{fits_in, cast_value, cast_decides, fits_short}
use Rattle.ckc_checks_follow.proofs.Ranges.{flag_zero, range_in, read_range}
use Rattle.ckc_checks_follow.proofs.Counts.{written_same, written_below, written_only, scaled_nodes, at_offset_nodes, end_nodes, length_nodes, cast_test_nodes, some_nodes, value_steps, found_few, element_few, some_shift, some_node, operand_nodes, expr_steps, held_steps, operand_steps, index_steps, held_nodes, index_few, index_alone}
use Rattle.ckc_checks_follow.proofs.Coming.{Below, only_below, only_behind, IsRangeOf, HasAt, PutRange, RangeClaim, Comes, then_comes, then_first, Put, Held, set_put, set_value, known, Claim, OperandClaim, agree_below, held_from, index_from, held_value}
use Rattle.ckc_checks_follow.proofs.Judging.{known_word, any_least, pair_far_comes, found_comes, place_value}
use Rattle.ckc_checks_follow.proofs.Moving.{move_steps, Moves, move_comes, mapped}

module _ (functions : List Function) (callers : List Caller) (world : World) where
  module _ (n : ℕ) (s : Store) (sees : Sees n s world.memory) where
    -- ---- ranges that are values

    -- a value has no range
    abbrev pub NoRange : Result Value Halt → Type 0
    NoRange (Ok v) = v.range ≡ Without
    NoRange (Err h) = Unit {0}

    pub both_none : (r q : Result Value Halt) (f : Value → Value → Result Value Halt) → ((v w : Value) → NoRange (f v w)) → NoRange (given_both r q f)
    both_none (Ok v) (Ok w) f h = h v w
    both_none (Ok v) (Err e) f h = tt
    both_none (Err e) q f h = tt

    pub given_none : {A : Type 0} (r : Result A Halt) (f : A → Result Value Halt) → ((v : A) → NoRange (f v)) → NoRange (given r f)
    given_none (Ok v) f h = h v
    given_none (Err e) f h = tt

    pub if_none : (b : Bool) (r q : Result Value Halt) → NoRange r → NoRange q → NoRange (if b then r else q)
    if_none true r q x y = x
    if_none false r q x y = y

    pub loads_none : (o : Option ℕ) → NoRange (given_some o plain)
    loads_none (Some m) = refl
    loads_none None = tt

    -- two words are put after a value that is in t
    two_set : (low length : Expr) (t a b : ℕ) (more : Code) (rest : Rest) (before l : Values) (v : Value) → Below t l before → l t ≡ Some v.number
        → value_of l world.memory low ≡ Some a → value_of (with_written l (t + 1) a) world.memory length ≡ Some b → a < 2 ^ 32 → b < 2 ^ 32 → IsRangeOf v.range a b
        → Comes functions callers world 0 (nodes low + nodes length + 2) (at callers world (Set (t + 1) low (Set (t + 2) length more)) rest l) (Ok v) more rest (PutRange functions callers world t before)
    two_set low length t a b more rest before l v below h i j small few is =
        let l1 = with_written l (t + 1) a in
        let l2 = with_written l1 (t + 2) b in (
          (nodes low + 1) + (nodes length + 1),
          at callers world more rest l2,
          omega arith,
          omega arith,
          then_quiet functions (nodes low + 1) (nodes length + 1) (at callers world (Set (t + 1) low (Set (t + 2) length more)) rest l) (at callers world (Set (t + 2) length more) rest l1) (at callers world more rest l2)
              (by_set functions callers world (t + 1) low (Set (t + 2) length more) rest l a i) (by_set functions callers world (t + 2) length more rest l1 b j),
          (
            l2,
            refl,
            (
              (λ z less. written_below l1 (t + 2) b z (omega arith) ∙ written_below l (t + 1) a z (omega arith) ∙ below z less),
              written_below l1 (t + 2) b t (omega arith) ∙ written_below l (t + 1) a t (omega arith) ∙ h,
              (a, b, written_below l1 (t + 2) b (t + 1) (omega arith) ∙ written_same l (t + 1) a, written_same l1 (t + 2) b, small, few, is),
            ),
          ),
        )

    -- the same, the length first, if the lower bound is the value
    own_set : (length : Expr) (t b : ℕ) (more : Code) (rest : Rest) (before l : Values) (v : Value) → Below t l before → l t ≡ Some v.number
        → value_of l world.memory length ≡ Some b → v.number < 2 ^ 32 → b < 2 ^ 32 → IsRangeOf v.range v.number b
        → Comes functions callers world 0 (nodes length + 3) (at callers world (Set (t + 2) length (Set (t + 1) (Local t) more)) rest l) (Ok v) more rest (PutRange functions callers world t before)
    own_set length t b more rest before l v below h j small few is =
        let a = v.number in
        let l1 = with_written l (t + 2) b in
        let l2 = with_written l1 (t + 1) a in (
          (nodes length + 1) + 2,
          at callers world more rest l2,
          omega arith,
          omega arith,
          then_quiet functions (nodes length + 1) 2 (at callers world (Set (t + 2) length (Set (t + 1) (Local t) more)) rest l) (at callers world (Set (t + 1) (Local t) more) rest l1) (at callers world more rest l2)
              (by_set functions callers world (t + 2) length (Set (t + 1) (Local t) more) rest l b j) (by_set functions callers world (t + 1) (Local t) more rest l1 a (written_below l (t + 2) b t (omega arith) ∙ h)),
          (
            l2,
            refl,
            (
              (λ z less. written_below l1 (t + 1) a z (omega arith) ∙ written_below l (t + 2) b z (omega arith) ∙ below z less),
              written_below l1 (t + 1) a t (omega arith) ∙ written_below l (t + 2) b t (omega arith) ∙ h,
              (a, b, written_same l1 (t + 1) a, written_only l1 (t + 1) a (t + 2) (let e : (t + 2 == t + 1) ≡ false = grind arith in e) ∙ written_same l (t + 2) b, small, few, is),
            ),
          ),
        )

    none_of : (range : Range) → range ≡ Without → IsRangeOf range 0 0
    none_of range e = subst (λ range. IsRangeOf range 0 0) (sym e) tt

    -- a value without a range
    pub none_put : (m k t : ℕ) (st : State) (r : Result Value Halt) (more : Code) (rest : Rest) (l : Values) → m + 4 ≤ k → NoRange r → Comes functions callers world 1 m st r (no_range true t more) rest (Put functions callers world t l)
        → Comes functions callers world 1 k st r more rest (PutRange functions callers world t l)
    none_put m k t st (Ok v) more rest l few none c =
        let q = c.5 in
        let put = q.2 in
        later_runs functions c.0 4 k st c.1 (Ok v) (λ v u. (l' : Values) × (u ≡ at callers world more rest l') × PutRange functions callers world t l v l') (omega (arith, c.3)) c.2 c.4
        (subst (λ u. Comes functions callers world 0 4 u (Ok v) more rest (PutRange functions callers world t l)) (sym q.1)
        (two_set (Const 0) (Const 0) t 0 0 more rest l q.0 v put.0 put.1 refl refl (omega arith) (omega arith) (none_of v.range none)))
    none_put m k t st (Err Stuck) more rest l few none c = tt
    none_put m k t st (Err (Stopped why place)) more rest l few none c = (c.0, omega (arith, c.1), c.2)

    -- a value that is in t and its range, which comes in a few steps more
    range_after : (m k t : ℕ) (st : State) (r : Result Value Halt) (last more : Code) (rest : Rest) (l : Values) (j : ℕ) → m + j ≤ k → Comes functions callers world 1 m st r last rest (Put functions callers world t l)
        → ((v : Value) (l1 : Values) → r ≡ Ok v → Put functions callers world t l v l1 → Comes functions callers world 0 j (at callers world last rest l1) (Ok v) more rest (PutRange functions callers world t l))
        → Comes functions callers world 1 k st r more rest (PutRange functions callers world t l)
    range_after m k t st (Ok v) last more rest l j few c next =
        let q = c.5 in
        later_runs functions c.0 j k st c.1 (Ok v) (λ v u. (l' : Values) × (u ≡ at callers world more rest l') × PutRange functions callers world t l v l') (omega (arith, c.3)) c.2 c.4
        (subst (λ u. Comes functions callers world 0 j u (Ok v) more rest (PutRange functions callers world t l)) (sym q.1) (next v q.0 refl q.2))
    range_after m k t st (Err Stuck) last more rest l j few c next = tt
    range_after m k t st (Err (Stopped why place)) last more rest l j few c next = (c.0, omega (arith, c.1), c.2)

    -- ---- the ranges of forms

    fewer : {A : Type 0} (m k : ℕ) (st : State) (r : Result A Halt) (more : Code) (rest : Rest) (P : A → Values → Type 0) → m ≤ k → Comes functions callers world 0 m st r more rest P → Comes functions callers world 0 k st r more rest P
    fewer m k st (Ok v) more rest P few c = (c.0, c.1, c.2, omega (arith, c.3), c.4, c.5)
    fewer m k st (Err Stuck) more rest P few c = tt
    fewer m k st (Err (Stopped why place)) more rest P few c = (c.0, omega (arith, c.1), c.2)

    abbrev value_in : Value → Result Value Halt → Value
    value_in v (Ok w) = w
    value_in v (Err h) = v

    ok_same : (v w : Value) (r : Result Value Halt) → r ≡ Ok v → r ≡ Ok w → v ≡ w
    ok_same v w r e f = ap (value_in v) (sym e ∙ f)

    same_kind : (one two : Range) (low length : ℕ) → (one ≡ two) ⊎ (one ≡ Without) → IsRangeOf two low length → IsRangeOf one low length
    same_kind one two low length (inl e) is = subst (λ range. IsRangeOf range low length) (sym e) is
    same_kind one two low length (inr e) is = subst (λ range. IsRangeOf range low length) (sym e) tt

    -- one evaluation, and a few steps after it that keep its value
    moved_then : (m k j : ℕ) (st : State) (r : Result Value Halt) (last more : Code) (rest : Rest) (P R : Value → Values → Type 0) → m + k ≤ j → Comes functions callers world 1 m st r last rest P
        → ((v : Value) (l : Values) → P v l → Comes functions callers world 0 k (at callers world last rest l) (Ok v) more rest R) → Comes functions callers world 1 j st r more rest R
    moved_then m k j st (Ok v) last more rest P R few c next =
        let q = c.5 in
        later_runs functions c.0 k j st c.1 (Ok v) (λ v u. (l : Values) × (u ≡ at callers world more rest l) × R v l) (omega (arith, c.3)) c.2 c.4
        (subst (λ u. Comes functions callers world 0 k u (Ok v) more rest R) (sym q.1) (next v q.0 q.2))
    moved_then m k j st (Err Stuck) last more rest P R few c next = tt
    moved_then m k j st (Err (Stopped why place)) last more rest P R few c next = (c.0, omega (arith, c.1), c.2)

    -- a pointer that is read has no range, or is not null
    read_kind : (to : Pointee) (m : ℕ) (from to_end : ℤ) (v : Value) → reads s.shapes s.blocks to m from to_end ≡ Ok v → (v.range ≡ Without) ⊎ ((v.number == 0) ≡ false)
    read_kind to m from to_end v e = by (m == 0) refl
      where
        number_is : v.number ≡ m
        number_is = let gives : Gives m (Ok v) = subst (Gives m) e (reads_number s.shapes s.blocks to m from to_end) in gives

        by : (zero : Bool) → (m == 0) ≡ zero → (v.range ≡ Without) ⊎ ((v.number == 0) ≡ false)
        by true z =
            let null : plain 0 ≡ Ok v = sym (ap (λ b. if b then plain 0 else reads_within s.shapes s.blocks to m from to_end) z) ∙ e in
            inl (sym (ap range_in null))
        by false z = inr (ap (λ k. k == 0) number_is ∙ z)

    -- the range of a pointer that is read, if its ends are these words
    read_words : (to : Pointee) (m : ℕ) (from to_end : ℤ) (v : Value) (low high : ℕ) → reads s.shapes s.blocks to m from to_end ≡ Ok v → low < 2 ^ 32 → high < 2 ^ 32
        → ((a : ℕ) → from ≡ pos a → a < 2 ^ 32 → a ≡ low) → ((b : ℕ) → to_end ≡ pos b → b < 2 ^ 32 → b ≡ high) → IsRangeOf v.range low (applied binary.Sub high low)
    read_words to m from to_end v low high e small few is_low is_high = by (read_kind to m from to_end v e)
      where
        by : (v.range ≡ Without) ⊎ ((v.number == 0) ≡ false) → IsRangeOf v.range low (applied binary.Sub high low)
        by (inl none) = subst (λ range. IsRangeOf range low (applied binary.Sub high low)) (sym none) tt
        by (inr z) =
            let r = read_range n s world.memory sees to m from to_end v e z in
            let one : r.0 ≡ low = is_low r.0 r.3 r.5 in
            let two : r.1 ≡ high = is_high r.1 r.4 r.6 in
            let order : r.0 ≤ r.1 = r.7 in
            subst (λ range. IsRangeOf range low (applied binary.Sub high low)) (sym r.2) (one, omega arith)

    some_same : (a b : ℕ) (o : Option ℕ) → o ≡ Some a → o ≡ Some b → a ≡ b
    some_same a b o e f = let same : Some a ≡ Some b = sym e ∙ f in cc

    pub limited_range : (x : ℕ) (limits : Limits) → RangeClaim functions callers world n s sees (source.Limited x limits)
    limited_range x limits t more rest l le h has agree =
        let size = limits.to.size in
        let low_e = end_at x size limits.lower in
        let high_e = end_at x size limits.upper in
        let e = source.Limited x limits in
        let last = Set (t + 1) low_e (Set (t + 2) (Bin binary.Sub high_e (Local (t + 1))) more) in
        range_after 2 (value_steps true e) t (at callers world (Set t (Local x) last) rest l) (evaluated s e) last more rest l 18 (omega arith)
        (set_value functions callers world (Local x) t last rest l (evaluated s e) 2 (omega arith) (direct_value n s world.memory l e sees agree h refl))
        (λ v l1 eq put.
        let m = slice_index s.locals x in
        let agree1 = agree_below functions callers world n s sees t l1 l le put.0 agree in
        let low = any_end n s.locals l1 world.memory agree1 sees.small x size limits.lower h has.1 in
        let l2 = with_written l1 (t + 1) low.0 in
        let agree2 = agree_below functions callers world n s sees t l2 l1 le (λ z less. written_below l1 (t + 1) low.0 z (omega arith)) agree1 in
        let high = any_end n s.locals l2 world.memory agree2 sees.small x size limits.upper h has.2 in
        let length : value_of l2 world.memory (Bin binary.Sub high_e (Local (t + 1))) ≡ Some (applied binary.Sub high.0 low.0) =
        ap (λ o. both (applied binary.Sub) o (l2 (t + 1))) high.1 ∙ ap (λ o. both (applied binary.Sub) (Some high.0) o) (written_same l1 (t + 1) low.0) in
        let is = read_words limits.to m (end_address s.locals size m limits.lower) (end_address s.locals size m limits.upper) v low.0 high.0 eq low.2 high.2
        (λ a f less. some_same a low.0 (value_of l1 world.memory low_e) (end_value n s.locals l1 world.memory agree1 sees.small x size limits.lower a h has.1 f less) low.1)
        (λ b f less. some_same b high.0 (value_of l2 world.memory high_e) (end_value n s.locals l2 world.memory agree2 sees.small x size limits.upper b h has.2 f less) high.1) in
        fewer (nodes low_e + nodes (Bin binary.Sub high_e (Local (t + 1))) + 2) 18 (at callers world last rest l1) (Ok v) more rest (PutRange functions callers world t l)
        (omega (arith, end_nodes x size limits.lower, end_nodes x size limits.upper))
        (two_set low_e (Bin binary.Sub high_e (Local (t + 1))) t low.0 (applied binary.Sub high.0 low.0) more rest l l1 v put.0 put.1 low.1 length low.2 (omega arith) is))

    pub array_range : (a bytes : ℕ) → RangeClaim functions callers world n s sees (source.Array a bytes)
    array_range a bytes t more rest l le h has agree =
        let last = Set (t + 1) (Const a) (Set (t + 2) (Const bytes) more) in
        let v : Value = record { number = a; range = Within a (a + bytes) } in
        range_after 2 26 t (at callers world (Set t (Const a) last) rest l) (Ok v) last more rest l 4 (omega arith)
        (set_put functions callers world (Const a) t last rest l l v 2 (omega arith) (λ x less. refl) refl)
        (λ w l1 eq put.
        subst (λ (w : Value). Comes functions callers world 0 4 (at callers world last rest l1) (Ok w) more rest (PutRange functions callers world t l)) (ok_same v w (evaluated s (source.Array a bytes)) refl eq)
        (two_set (Const a) (Const bytes) t a bytes more rest l l1 v put.0 (put.1 ∙ ap (λ (w : Value). Some w.number) (sym (ok_same v w (evaluated s (source.Array a bytes)) refl eq))) refl refl h has (refl, refl)))

    -- a pointer that was loaded, and the word of how many bytes it has
    counted_set : (to : Pointee) (z : ℤ) (w m t : ℕ) (length : Expr) (more : Code) (rest : Rest) (before l : Values) → IsWord z 8589934592 w → m < 2 ^ 32 → Below t l before → l t ≡ Some m
        → value_of l world.memory length ≡ Some (applied binary.Mul to.size w) → (r : Result Value Halt) → reads s.shapes s.blocks to m (pos m) (elements_behind m to.size z) ≡ r
        → Comes functions callers world 0 (nodes length + 3) (at callers world (Set (t + 2) length (Set (t + 1) (Local t) more)) rest l) r more rest (PutRange functions callers world t before)
    counted_set to z w m t length more rest before l word small below h value (Ok v) e =
        let bytes = applied binary.Mul to.size w in
        let number : v.number ≡ m = let gives : Gives m (Ok v) = subst (Gives m) e (reads_number s.shapes s.blocks to m (pos m) (elements_behind m to.size z)) in gives in
        own_set length t bytes more rest before l v below (h ∙ ap Some (sym number)) value (omega arith) (omega arith) (by bytes number (read_kind to m (pos m) (elements_behind m to.size z) v e) refl)
      where
        by : (bytes : ℕ) → v.number ≡ m → (v.range ≡ Without) ⊎ ((v.number == 0) ≡ false) → bytes ≡ applied binary.Mul to.size w → IsRangeOf v.range v.number bytes
        by bytes number (inl none) same = subst (λ range. IsRangeOf range v.number bytes) (sym none) tt
        by bytes number (inr nonzero) same =
            let r = read_range n s world.memory sees to m (pos m) (elements_behind m to.size z) v e nonzero in
            let one : m ≡ r.0 = let f : pos m ≡ pos r.0 = r.3 in cc in
            let two = end_word to.size m w r.1 z word r.4 r.6 in
            let order : r.0 ≤ r.1 = r.7 in
            let word_high : r.1 < 2 ^ 32 = r.6 in
            subst (λ range. IsRangeOf range v.number bytes) (sym r.2) (omega arith, omega arith)
    counted_set to z w m t length more rest before l word small below h value (Err Stuck) e = tt
    counted_set to z w m t length more rest before l word small below h value (Err (Stopped why place)) e =
        absurd (let no : Gives m (Err (Stopped why place)) = subst (Gives m) e (reads_number s.shapes s.blocks to m (pos m) (elements_behind m to.size z)) in no)

    -- a pointer with a count is loaded from a place after the address of its structure, which is in t + 1
    member_set : (to : Pointee) (count : Count) (q t : ℕ) (more : Code) (rest : Rest) (before l : Values) (offset : ℕ) → IsCount count → offset < 2 ^ 32 → q < 2 ^ 32 → Below t l before → l (t + 1) ≡ Some q
        → (o : Option ℕ) → loaded Word (place_in q offset) s.blocks ≡ o
        → Comes functions callers world 1 16 (at callers world (Set t (Load Word (at_offset offset (Local (t + 1)))) (Set (t + 2) (length_at to.size count (t + 1)) (Set (t + 1) (Local t) more))) rest l)
        (given_some o (λ m. given (counted s q count) (λ c. reads s.shapes s.blocks to m (pos m) (elements_behind m to.size c)))) more rest (PutRange functions callers world t before)
    member_set to count q t more rest before l offset is small word below h None e = tt
    member_set to count q t more rest before l offset is small word below h (Some m) e = by count is
      where
        place : Expr
        place = at_offset offset (Local (t + 1))

        there : value_of l world.memory (Load Word place) ≡ Some m
        there =
            ap (λ o. option_and_then (value_at Word world.memory) o) (at_offset_value l world.memory offset (Local (t + 1)) q h word)
            ∙ loaded_there Word (place_in q offset) m s.blocks world.memory sees.same.bytes e

        m_word : m < 2 ^ 32
        m_word = loaded_word Word (place_in q offset) m sees.next s.blocks world.memory sees.same e

        l1 : Values
        l1 = with_written l t m

        kept : l1 (t + 1) ≡ Some q
        kept = written_only l t m (t + 1) (let f : (t + 1 == t) ≡ false = grind arith in f) ∙ h

        below1 : Below t l1 before
        below1 = λ x less. written_below l t m x less ∙ below x less

        -- the two that come after
        then_set : (length : Expr) (z : ℤ) (w : ℕ) → nodes length ≤ 8 → IsWord z 8589934592 w → value_of l1 world.memory length ≡ Some (applied binary.Mul to.size w)
            → Comes functions callers world 1 16 (at callers world (Set t (Load Word place) (Set (t + 2) length (Set (t + 1) (Local t) more))) rest l)
            (reads s.shapes s.blocks to m (pos m) (elements_behind m to.size z)) more rest (PutRange functions callers world t before)
        then_set length z w few is_word value =
            let last = Set (t + 2) length (Set (t + 1) (Local t) more) in
            let r = reads s.shapes s.blocks to m (pos m) (elements_behind m to.size z) in
            later_runs functions (nodes (Load Word place) + 1) (nodes length + 3) 16 (at callers world (Set t (Load Word place) last) rest l) (at callers world last rest l1) r
            (λ v u. (l' : Values) × (u ≡ at callers world more rest l') × PutRange functions callers world t before v l') (omega (arith, at_offset_nodes offset (Local (t + 1)))) (omega arith)
            (by_set functions callers world t (Load Word place) last rest l m there)
            (counted_set to z w m t length more rest before l1 is_word m_word below1 (written_same l t m) value r refl)

        member_by : (at_member : ℕ) (form : Integer) (add : ℤ) → at_member < 2 ^ 32 → IsSmall add → (o : Option ℕ) → loaded (width_of form) (place_in q at_member) s.blocks ≡ o
            → Comes functions callers world 1 16 (at callers world (Set t (Load Word place) (Set (t + 2) (length_at to.size (counts.Member at_member form add) (t + 1)) (Set (t + 1) (Local t) more))) rest l)
            (given (given_some o (λ c. Ok (exact form c +ℤ add))) (λ c. reads s.shapes s.blocks to m (pos m) (elements_behind m to.size c))) more rest (PutRange functions callers world t before)
        member_by at_member form add few fits None f = tt
        member_by at_member form add few fits (Some c) f =
            let member = Load (width_of form) (at_offset at_member (Local (t + 1))) in
            let c_word : c < 2 ^ 32 = loaded_word (width_of form) (place_in q at_member) c sees.next s.blocks world.memory sees.same f in
            let value : value_of l1 world.memory member ≡ Some c =
            ap (λ o. option_and_then (value_at (width_of form) world.memory) o) (at_offset_value l1 world.memory at_member (Local (t + 1)) q kept word)
            ∙ loaded_there (width_of form) (place_in q at_member) c s.blocks world.memory sees.same.bytes f in
            let sum = applied binary.Add c (word_of add) in
            let elements : value_of l1 world.memory (at_offset (word_of add) member) ≡ Some sum = at_offset_value l1 world.memory (word_of add) member c value c_word in
            then_set (length_at to.size (counts.Member at_member form add) (t + 1)) (exact form c +ℤ add) sum (length_nodes to.size (counts.Member at_member form add) (t + 1)) (member_word form c add c_word fits)
            (scaled_value l1 world.memory to.size (at_offset (word_of add) member) sum elements (omega arith))

        by : (count : Count) → IsCount count
            → Comes functions callers world 1 16 (at callers world (Set t (Load Word place) (Set (t + 2) (length_at to.size count (t + 1)) (Set (t + 1) (Local t) more))) rest l)
            (given (counted s q count) (λ c. reads s.shapes s.blocks to m (pos m) (elements_behind m to.size c))) more rest (PutRange functions callers world t before)
        by (counts.Fixed k) fits = then_set (Const (applied binary.Mul to.size (word_of k))) k (word_of k) (omega arith) (number_word k fits) refl
        by (counts.Member at_member form add) fits = member_by at_member form add fits.0 fits.1 (loaded (width_of form) (place_in q at_member) s.blocks) refl

    pub member_range : (to : Pointee) (count : Count) (access : Access) (p i : source.Expr) → Claim functions callers world n s sees p → RangeClaim functions callers world n s sees p → Claim functions callers world n s sees i
        → RangeClaim functions callers world n s sees (source.Member to count access p i)
    member_range to count access p i claim_p range_p claim_i t more rest l le h has agree =
        let element = reached_element access p i t in
        let last = Set t (Load Word (at_offset access.offset (Local (t + 1)))) (Set (t + 2) (length_at to.size count (t + 1)) (Set (t + 1) (Local t) more)) in
        let small : access.offset < 2 ^ 32 = h.0.2 in
        found_comes functions callers world n s sees access p i t 1 (nodes element + 17) (value_steps true (source.Member to count access p i)) (Set (t + 1) element last) more rest l
        (λ v a. loads_pointer s to count a (place_in a access.offset)) (PutRange functions callers world t l) claim_p range_p claim_i le h.0 h.1 h.2 agree (omega (arith, element_few access p i t))
        (λ x q l3 r eq.
        let value = r.1 l3 (λ z less. refl) in
        let l4 = with_written l3 (t + 1) q in
        first_runs functions (nodes element + 1) 1 16 (nodes element + 17) (at callers world (Set (t + 1) element last) rest l3) (at callers world last rest l4) (loads_pointer s to count q (place_in q access.offset))
        (λ v u. (l' : Values) × (u ≡ at callers world more rest l') × PutRange functions callers world t l v l') (omega arith)
        (by_set functions callers world (t + 1) element last rest l3 q value)
        (member_set to count q t more rest l l4 access.offset has.1 small r.2 (λ z less. written_below l3 (t + 1) q z (omega arith) ∙ r.0 z less) (written_same l3 (t + 1) q)
        (loaded Word (place_in q access.offset) s.blocks) refl))

    pub address_range : (bytes : ℕ) (access : Access) (p i : source.Expr) → Claim functions callers world n s sees p → RangeClaim functions callers world n s sees p → Claim functions callers world n s sees i
        → RangeClaim functions callers world n s sees (source.Address bytes access p i)
    address_range bytes access p i claim_p range_p claim_i t more rest l le h has agree =
        let place = reached_place access p i t in
        let last = Set (t + 1) (Local t) (Set (t + 2) (Const bytes) more) in
        found_comes functions callers world n s sees access p i t 1 (nodes place + 5) (value_steps true (source.Address bytes access p i)) (Set t place last) more rest l
        (λ v a. spanned (place_in a access.offset) bytes) (PutRange functions callers world t l) claim_p range_p claim_i le h.0 h.1 h.2 agree (omega (arith, found_few access p i t))
        (λ x q l3 r eq.
        let a = place_in q access.offset in
        let l4 = with_written l3 t a in
        let value = place_value functions callers world n s sees access p i t q l l3 l3 r (λ z less. refl) in
        let v : Value = record { number = a; range = Within a (a + bytes) } in
        later_runs functions (nodes place + 1) 4 (nodes place + 5) (at callers world (Set t place last) rest l3) (at callers world last rest l4) (Ok v)
        (λ v u. (l' : Values) × (u ≡ at callers world more rest l') × PutRange functions callers world t l v l') (omega arith) (omega arith)
        (by_set functions callers world t place last rest l3 a value)
        (two_set (Local t) (Const bytes) t a bytes more rest l l4 v (λ z less. written_below l3 t a z less ∙ r.0 z less) (written_same l3 t a) (written_same l3 t a) refl (omega arith) has (refl, refl)))

    -- a pointer that was moved has its range still
    moved_has : (t u : ℕ) (before l : Values) (range : Range) → Below t l before → HasAt range t l → (v : Value) (l' : Values) → Moves functions callers world n s sees t l range v l' → PutRange functions callers world t before v l'
    moved_has t u before l range below has v l' m =
        let one : l' (t + 1) ≡ Some has.0 = only_behind t 1 l' l m.0 (omega arith) ∙ has.2 in
        let two : l' (t + 2) ≡ Some has.1 = only_behind t 2 l' l m.0 (omega arith) ∙ has.3 in
        ((λ z less. only_below t l' l m.0 z less ∙ below z less), m.1, (has.0, has.1, one, two, has.4, has.5, same_kind v.range range has.0 has.1 m.2 has.6))

    pub moved_range_comes : (shift : Shift) (p i : source.Expr) → RangeClaim functions callers world n s sees p → Claim functions callers world n s sees i → RangeClaim functions callers world n s sees (source.Moved shift p i)
    moved_range_comes shift p i range_p claim_i t more rest l le h has agree =
        let checked = shift.checked in
        let keeps = keeps_index checked i in
        let b = held keeps i (t + 3) in
        let judge = h.0 in
        let k = move_steps functions callers world n s sees checked 1 (nodes b) in
        pair_far_comes functions callers world n s sees keeps p i (held_steps keeps i) t (t + 3) 1 k (value_steps true (source.Moved shift p i)) (moved_code shift (Local t) b t more) more rest l (λ v k. moves shift v k.number) (PutRange functions callers world t l)
        range_p (held_from functions callers world n s sees keeps i claim_i) le (omega arith) h.1 has h.2 agree (omega (arith, held_nodes keeps i (t + 3), some_shift checked, some_nodes true p))
        (λ x y l2 both eq_p eq_i.
        mapped functions callers world n s sees 1 k (at callers world (moved_code shift (Local t) b t more) rest l2) (moves shift x y.number) more rest (Moves functions callers world n s sees t l2 x.range) (PutRange functions callers world t l) (moved_has t t l l2 x.range both.0 both.2)
        (move_comes functions callers world n s sees shift true checked p i x y t (t + 3) t more rest l2 judge.1 both.1 both.3 both.4 both.5))

    -- a range goes one temporary down
    down_set : (t : ℕ) (more : Code) (rest : Rest) (before l : Values) (range : Range) (v : Value) (l3 : Values) → Below t l before → HasAt range (t + 1) l → Moves functions callers world n s sees t l range v l3
        → Comes functions callers world 0 4 (at callers world (Set (t + 1) (Local (t + 2)) (Set (t + 2) (Local (t + 3)) more)) rest l3) (Ok v) more rest (PutRange functions callers world t before)
    down_set t more rest before l range v l3 below has m =
        let low : l3 (t + 2) ≡ Some has.0 = only_behind t 2 l3 l m.0 (omega arith) ∙ ap l (let e : t + 2 ≡ t + 1 + 1 = omega arith in e) ∙ has.2 in
        let length : l3 (t + 3) ≡ Some has.1 = only_behind t 3 l3 l m.0 (omega arith) ∙ ap l (let e : t + 3 ≡ t + 1 + 2 = omega arith in e) ∙ has.3 in
        two_set (Local (t + 2)) (Local (t + 3)) t has.0 has.1 more rest before l3 v (λ z less. only_below t l3 l m.0 z less ∙ below z less) m.1 low
        (written_only l3 (t + 1) has.0 (t + 3) (let e : (t + 3 == t + 1) ≡ false = grind arith in e) ∙ length) has.4 has.5 (same_kind v.range range has.0 has.1 m.2 has.6)

    pub added_range_comes : (shift : Shift) (i p : source.Expr) → Claim functions callers world n s sees i → RangeClaim functions callers world n s sees p → RangeClaim functions callers world n s sees (source.Added shift i p)
    added_range_comes shift i p claim_i range_p t more rest l le h has agree =
        let checked = shift.checked in
        let keeps = keeps_index checked i in
        let b = held keeps i t in
        let judge = h.0 in
        let k = move_steps functions callers world n s sees checked 1 (nodes b) in
        let last = Set (t + 1) (Local (t + 2)) (Set (t + 2) (Local (t + 3)) more) in
        let code = moved_code shift (Local (t + 1)) b t last in
        let second = value_code true p (t + 1) code in
        then_comes functions callers world 1 (held_steps keeps i t) (value_steps true p + (k + 4)) (value_steps true (source.Added shift i p)) (at callers world (put_if keeps i (expr_code i t) second) rest l) (evaluated s i)
        (λ y. given (evaluated s p) (λ x. moves shift x y.number)) second rest (Held functions callers world b t l) (λ v u. (l' : Values) × (u ≡ at callers world more rest l') × PutRange functions callers world t l v l')
        (omega (arith, held_nodes keeps i t, some_shift checked, some_nodes true p))
        (held_from functions callers world n s sees keeps i claim_i t second rest l le h.1 agree)
        (λ y l1 held.
        then_comes functions callers world 1 (value_steps true p) (k + 4) (value_steps true p + (k + 4)) (at callers world second rest l1) (evaluated s p) (λ x. moves shift x y.number) code rest
        (λ x l2. PutRange functions callers world (t + 1) l1 x l2 × (evaluated s p ≡ Ok x)) (λ v u. (l' : Values) × (u ≡ at callers world more rest l') × PutRange functions callers world t l v l') (omega arith)
        (known functions callers world n s sees 0 (value_steps true p) (at callers world second rest l1) (evaluated s p) code rest (PutRange functions callers world (t + 1) l1)
        (any_least functions callers world n s sees (value_steps true p) (at callers world second rest l1) (evaluated s p) code rest (PutRange functions callers world (t + 1) l1)
        (range_p (t + 1) code rest l1 (omega arith) h.2 has (agree_below functions callers world n s sees t l1 l le held.0 agree))))
        (λ x l2 got.
        let put = got.0 in
        let below : Below t l2 l = λ z less. put.0 z (omega arith) ∙ held.0 z less in
        moved_then k 4 (k + 4) (at callers world code rest l2) (moves shift x y.number) last more rest (Moves functions callers world n s sees t l2 x.range) (PutRange functions callers world t l) (omega arith)
        (move_comes functions callers world n s sees shift true checked p i x y (t + 1) t t last rest l2 judge.1 put.1 (held.1 l2 put.0) (known_word functions callers world n s sees p x h.2 got.1) held.2)
        (λ v l3 m. down_set t more rest l l2 x.range v l3 below put.2 m)))

    -- ---- bounds casts

    cast_set : (size : ℕ) (form : Integer) (place : Pos) (k : Expr) (t q c : ℕ) (more : Code) (rest : Rest) (before l : Values) (x : Value) → 1 ≤ size → size < 2 ^ 31 → nodes k ≡ 1 → c < 2 ^ 32 → x.number < 2 ^ 32 → Below t l before
        → l t ≡ Some x.number → HasAt x.range t l → value_of l world.memory k ≡ Some c
        → Comes functions callers world 1 40 (at callers world (tested_code size form place k t more) rest l) (tests size form place x c) more rest (PutRange functions callers world t before)
    cast_set size form place k t q c more rest before l x some small one word low below h has value = by (x.number == 0) refl x.range has.6 refl
      where
        test : Expr
        test = Bin binary.Or (Bin binary.Eq (Local t) (Const 0)) (cast_test size form k t)

        last : Code
        last = Set (t + 2) (scaled size k) (Set (t + 1) (Local t) more)

        passes : Bool
        passes = (x.number == 0) || fits_in size form c x.number has.0 has.1

        test_is : value_of l world.memory test ≡ Some (flag passes)
        test_is = cast_value l world.memory size form k t c x.number has.0 has.1 some value h has.2 has.3

        length_is : value_of l world.memory (scaled size k) ≡ Some (applied binary.Mul size c)
        length_is = scaled_value l world.memory size k c value word

        good : (v : Value) → passes ≡ true → v.number ≡ x.number → IsRangeOf v.range v.number (applied binary.Mul size c)
            → Comes functions callers world 1 40 (at callers world (Check check.Cast place test last) rest l) (Ok v) more rest (PutRange functions callers world t before)
        good v pass number is =
            later_runs functions (nodes test + 1) (nodes (scaled size k) + 3) 40 (at callers world (Check check.Cast place test last) rest l) (at callers world last rest l) (Ok v)
            (λ v u. (l' : Values) × (u ≡ at callers world more rest l') × PutRange functions callers world t before v l') (omega (arith, cast_test_nodes size form k t one, scaled_nodes size k)) (omega arith)
            (by_pass functions callers world check.Cast place test last rest l (flag passes) test_is (flag_zero passes ∙ ap not pass))
            (own_set (scaled size k) t (applied binary.Mul size c) more rest before l v below (h ∙ ap Some (sym number)) length_is (omega arith) (omega arith) is)

        bad : passes ≡ false → Comes functions callers world 1 40 (at callers world (Check check.Cast place test last) rest l) (stops check.Cast place) more rest (PutRange functions callers world t before)
        bad fail = (nodes test + 1, omega (arith, cast_test_nodes size form k t one), by_fail functions callers world check.Cast place test last rest l (flag passes) test_is (flag_zero passes ∙ ap not fail))

        fit : (fits : Bool) → fits_in size form c x.number has.0 has.1 ≡ fits → (x.number == 0) ≡ false
            → Comes functions callers world 1 40 (at callers world (Check check.Cast place test last) rest l) (if fits then ranged x.number x.number (x.number + size * c) else stops check.Cast place) more rest (PutRange functions callers world t before)
        fit true f z =
            let short = fits_short size form c x.number has.0 has.1 some low has.4 has.5 f in
            good (record { number = x.number; range = Within x.number (x.number + size * c) }) (ap (λ b. b || fits_in size form c x.number has.0 has.1) z ∙ f) refl (refl, omega arith)
        fit false f z = bad (ap (λ b. b || fits_in size form c x.number has.0 has.1) z ∙ f)

        by : (zero : Bool) → (x.number == 0) ≡ zero → (range : Range) → IsRangeOf range has.0 has.1 → x.range ≡ range
            → Comes functions callers world 1 40 (at callers world (Check check.Cast place test last) rest l)
            (if zero then plain 0 else tests_within range place x.number (elements_behind x.number size (exact form c))) more rest (PutRange functions callers world t before)
        by true z range is same = good (record { number = 0; range = Without }) (ap (λ b. b || fits_in size form c x.number has.0 has.1) z) (zero_of x.number z) tt
        by false z Without is same = tt
        by false z (Within a b) is same =
            subst (λ r. Comes functions callers world 1 40 (at callers world (Check check.Cast place test last) rest l) r more rest (PutRange functions callers world t before))
            (sym (ap (λ a. tests_within (Within a b) place x.number (elements_behind x.number size (exact form c))) is.0
            ∙ ap (λ b. tests_within (Within has.0 b) place x.number (elements_behind x.number size (exact form c))) is.1
            ∙ cast_decides size form c x.number has.0 has.1 place some small word low has.4 has.5))
            (fit (fits_in size form c x.number has.0 has.1) refl z)

    pub cast_range : (size : ℕ) (form : Integer) (place : Pos) (p k : source.Expr) (t : ℕ) (more : Code) (rest : Rest) (l : Values) → RangeClaim functions callers world n s sees p → Claim functions callers world n s sees k
        → 1 ≤ size → size < 2 ^ 31 → n ≤ t → IsCompilableExpr n p → HasRange n p → IsCompilableExpr n k → Agree n s.locals l
        → Comes functions callers world 1 (14 * (5 + value_nodes true p + index_nodes k (expr_nodes k)) - 2)
        (at callers world (value_code true p t (put_if (keeps_index true k) k (expr_code k (t + 3)) (tested_code size form place (held (keeps_index true k) k (t + 3)) t more))) rest l)
        (given_both (evaluated s p) (evaluated s k) (λ v c. tests size form place v c.number)) more rest (PutRange functions callers world t l)
    cast_range size form place p k t more rest l range_p claim_k some small le hp has hk agree =
        let keeps = keeps_index true k in
        let b = held keeps k (t + 3) in
        pair_far_comes functions callers world n s sees keeps p k (index_steps keeps k) t (t + 3) 1 40 (14 * (5 + value_nodes true p + index_nodes k (expr_nodes k)) - 2) (tested_code size form place b t more) more rest l
        (λ v c. tests size form place v c.number) (PutRange functions callers world t l) range_p (index_from functions callers world n s sees true k claim_k) le (omega arith) hp has hk agree
        (omega (arith, index_few keeps k (t + 3), some_nodes true p))
        (λ x y l2 both eq_p eq_k.
        cast_set size form place b t 0 y.number more rest l l2 x some small (index_alone k (t + 3)) both.5 both.4 both.0 both.1 both.2 both.3)

    pub trusted_range_comes : (to : Pointee) (how : Integer) (p k : source.Expr) → Claim functions callers world n s sees p → OperandClaim functions callers world n s sees k → RangeClaim functions callers world n s sees (source.Trusted to how p k)
    trusted_range_comes to how p k claim_p claim_k t more rest l le h has agree =
        let q = operand k (t + 1) in
        let last = Set (t + 2) (scaled to.size q) (Set (t + 1) (Local t) more) in
        let second = operand_code k (t + 1) last in
        then_first functions callers world (expr_steps p) (operand_steps k (t + 1) + (nodes (scaled to.size q) + 3)) (value_steps true (source.Trusted to how p k)) (at callers world (expr_code p t second) rest l) (evaluated s p)
        (λ v. given (evaluated s k) (λ c. trusts s to how v.number c.number)) second more rest (λ v l1. Put functions callers world t l v l1 × (evaluated s p ≡ Ok v)) (PutRange functions callers world t l)
        (omega (arith, some_node p, some_node k, scaled_nodes to.size q, operand_nodes k (t + 1)))
        (known functions callers world n s sees 1 (expr_steps p) (at callers world (expr_code p t second) rest l) (evaluated s p) second rest (Put functions callers world t l) (claim_p t second rest l le h.0 agree))
        (λ v l1 got.
        let put = got.0 in
        then_comes functions callers world 0 (operand_steps k (t + 1)) (nodes (scaled to.size q) + 3) (operand_steps k (t + 1) + (nodes (scaled to.size q) + 3)) (at callers world second rest l1) (evaluated s k) (λ c. trusts s to how v.number c.number) last rest
        (Held functions callers world q (t + 1) l1) (λ w u. (l' : Values) × (u ≡ at callers world more rest l') × PutRange functions callers world t l w l') (omega arith)
        (claim_k (t + 1) last rest l1 (omega arith) h.1 (agree_below functions callers world n s sees t l1 l le put.0 agree))
        (λ c l2 held.
        counted_set to (exact how c.number) c.number v.number t (scaled to.size q) more rest l l2 (exact_word how c.number held.2) (known_word functions callers world n s sees p v h.0 got.1)
        (λ z less. held.0 z (omega arith) ∙ put.0 z less) (held.0 t (omega arith) ∙ put.1)
        (scaled_value l2 world.memory to.size q c.number (held_value functions callers world n s sees q (t + 1) l1 l2 c held) held.2) (trusts s to how v.number c.number) refl))
