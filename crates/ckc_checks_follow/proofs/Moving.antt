-- Pointer arithmetic, branches and loads: core code puts the value into a temporary.
use Rattle.std.proofs.Common.{◌≡◌, ◌⊎◌, inl, inr, ℕ, ◌^◌, ◌+◌, ◌-◌, ◌*◌, ◌%◌, ◌≤◌, ◌<◌, ◌==◌, List, refl, sym, ◌∙◌, ap, subst, arith}
use Rattle.std.specs.Prelude.{option_and_then, Bool, true, false, if◌then◌else◌, Some, None, Result, Ok, Err, ◌||◌, pos, ◌-ℤ◌, ◌*ℤ◌}
use Rattle.std.proofs.lemmas.Int.{ints}
use Rattle.std.proofs.Math.IntN.{*ℤ-zero}
use Rattle.ckc_base.specs.declared.arithmetic.BinOp.TheVariants as binary
use Rattle.ckc_base.specs.declared.arithmetic.Width.TheVariants.{Word}
use Rattle.ckc_base.specs.Memory.{value_at}
use Rattle.ckc_base.specs.declared.places.Pos.{Pos}
use Rattle.ckc_base.specs.declared.runtime_checks.Check.TheVariants as check
use Rattle.ckc_base.specs.Words.{applied}
use Rattle.ckc_base.specs.Actions.{World}
use Rattle.ckc_base.specs.Activations.{Values, with_written}
use Rattle.ckc_base.specs.declared.arithmetic.Width.{Width}
use Rattle.ckc_source.specs.declared.expr.Access.{Access}
use Rattle.ckc_source.specs.declared.expr.Count.{Count}
use Rattle.ckc_source.specs.declared.expr.Integer.{Integer}
use Rattle.ckc_source.specs.declared.expr.Pointee.{Pointee}
use Rattle.ckc_source.specs.declared.expr.Shift.{Shift}
use Rattle.ckc_source.specs.declared.outcome.Range.{Range}
use Rattle.ckc_source.specs.declared.outcome.Range.TheVariants.{Without}
use Rattle.ckc_source.specs.declared.outcome.Value.{Value}
use Rattle.ckc_source.specs.declared.outcome.Halt.{Halt}
use Rattle.ckc_source.specs.declared.outcome.Halt.TheVariants.{Stopped, Stuck}
use Rattle.ckc_source.specs.Code as source
use Rattle.ckc_source.specs.Blocks.{loaded}
use Rattle.ckc_source.specs.Words.{exact, as_address, elements_behind, truth}
use Rattle.ckc_source.specs.Eval.{Store, given, plain, stops, at_address, place_in, loads, loads_pointer, moves, moves_checked, moved_exactly, spanned, trusts, evaluated}
use Rattle.ckc_core.specs.Code.{Expr, Const, Local, Load, Code, End, Set, Check, If, Function}
use Rattle.ckc_core.specs.Meaning.{Rest, Next, State, Caller, value_of, both, nodes}
use Rattle.ckc_checks_operands.specs.Compilable.{IsCompilableExpr, IsChecked, shift_nodes, value_nodes, expr_nodes}
use Rattle.ckc_checks_operands.specs.code.Operands.{low_byte, as_truth, is_zero, shifted, held, keeps_index, operand}
use Rattle.ckc_checks_operands.specs.code.Pointers.{reads_signed, exact_test}
use Rattle.ckc_checks_follow.specs.code.Inserted.{value_code, unless_zero, exact_code, moved_code, reached_place, expr_code, operand_code}
use Rattle.ckc_checks_follow.proofs.Paths.{Quiet, no_quiet, then_quiet}
use Rattle.ckc_checks_follow.proofs.Running.{first_runs, at, by_set, by_pass, by_fail, by_if, by_end}
use Rattle.ckc_checks_follow.proofs.Bounded.{Gives, reads_number}
use Rattle.ckc_checks_follow.proofs.Values.{IsValue, low_value, Agree, Sees, load_value, pointer_value, none_moved, shifted_value}
use Rattle.ckc_checks_follow.proofs.Ranges.{moved_word, moved_place}
use Rattle.ckc_checks_follow.proofs.Counts.{written_same, written_only, shifted_nodes, some_nodes, value_steps, place_nodes_of, some_shift, some_node, operand_nodes, expr_steps, held_steps, operand_steps, held_nodes, index_alone}
use Rattle.ckc_checks_follow.proofs.Coming.{Below, Only, only_below, PutRange, RangeClaim, Comes, then_comes, then_first, Put, Held, set_put, Claim, OperandClaim, agree_below, held_from, held_value, weaken, pair_comes}
use Rattle.ckc_checks_follow.proofs.Judging.{exact_zero, none_behind, word_address, exact_comes, zero_word, access_comes}

module _ (functions : List Function) (callers : List Caller) (world : World) where
  module _ (n : ℕ) (s : Store) (sees : Sees n s world.memory) where
    -- ---- pointer arithmetic

    none_taken : (a size : ℕ) → pos a -ℤ (pos size *ℤ pos 0) ≡ pos a
    none_taken a size = ap (λ z. pos a -ℤ z) (*ℤ-zero (pos size)) ∙ none_off a
      where
        none_off : (a : ℕ) → pos a -ℤ pos 0 ≡ pos a
        none_off a = grind (arith, ints)

    not_moved : (back : Bool) (form : Integer) (size v k : ℕ) (place : Pos) → k ≡ 0 → v < 2 ^ 32 → at_address (as_address (moved_place back size (exact form k) v)) place ≡ Ok v
    not_moved true form size v k place z small =
        ap (λ i. at_address (as_address (pos v -ℤ (pos size *ℤ exact form i))) place) z ∙ ap (λ i. at_address (as_address (pos v -ℤ (pos size *ℤ i))) place) (exact_zero functions callers world n s sees form)
        ∙ ap (λ i. at_address (as_address i) place) (none_taken v size) ∙ ap (λ o. at_address o place) (word_address functions callers world n s sees v small)
    not_moved false form size v k place z small =
        ap (λ i. at_address (as_address (elements_behind v size (exact form i))) place) z ∙ ap (λ i. at_address (as_address (elements_behind v size i)) place) (exact_zero functions callers world n s sees form)
        ∙ ap (λ i. at_address (as_address i) place) (none_behind functions callers world n s sees v size) ∙ ap (λ o. at_address o place) (word_address functions callers world n s sees v small)

    same_word : (back : Bool) (size v k : ℕ) → k ≡ 0 → v < 2 ^ 32 → v ≡ moved_word back size k v
    same_word back size v k z small = sym (none_moved world_locals world.memory back v size small) ∙ ap (λ m. moved_word back size m v) (sym z)
      where
        world_locals : Values
        world_locals = λ x. None

    -- the checks of arithmetic on a pointer that is in the temporary u
    exactly_comes : (shift : Shift) (index : source.Expr) (u w : ℕ) (next : Code) (rest : Rest) (l : Values) (v k : ℕ) → 1 ≤ shift.size → shift.size < 2 ^ 31 → v < 2 ^ 32 → k < 2 ^ 32
        → l u ≡ Some v → value_of l world.memory (held (keeps_index true index) index w) ≡ Some k
        → Comes functions callers world 0 14 (at callers world (unless_zero (held (keeps_index true index) index w)
        (Check check.Arith shift.at (exact_test shift.back (reads_signed shift.index) shift.size (Local u) (held (keeps_index true index) index w))) next) rest l)
        (at_address (as_address (moved_exactly shift v (exact shift.index k))) shift.at) next rest (λ q l'. (l' ≡ l) × (q ≡ moved_word shift.back shift.size k v))
    exactly_comes shift index u w next rest l v k some small low few h j = by (is_zero (held (keeps_index true index) index w)) refl
      where
        by : (zero : Bool) → is_zero (held (keeps_index true index) index w) ≡ zero
            → Comes functions callers world 0 14 (at callers world (if zero then next else Check check.Arith shift.at (exact_test shift.back (reads_signed shift.index) shift.size (Local u) (held (keeps_index true index) index w)) next) rest l)
            (at_address (as_address (moved_exactly shift v (exact shift.index k))) shift.at) next rest (λ q l'. (l' ≡ l) × (q ≡ moved_word shift.back shift.size k v))
        by true z =
            subst (λ r. Comes functions callers world 0 14 (at callers world next rest l) r next rest (λ q l'. (l' ≡ l) × (q ≡ moved_word shift.back shift.size k v))) (sym (not_moved shift.back shift.index shift.size v k shift.at (zero_word functions callers world n s sees l (held (keeps_index true index) index w) k z j) low)) (
              0,
              at callers world next rest l,
              omega arith,
              omega arith,
              no_quiet functions (at callers world next rest l),
              (l, refl, (refl, same_word shift.back shift.size v k (zero_word functions callers world n s sees l (held (keeps_index true index) index w) k z j) low)),
            )
        by false z = exact_comes functions callers world n s sees shift.back shift.index shift.size k v u (held (keeps_index true index) index w) shift.at next rest l some small few low h j (index_alone index w)

    abbrev pub move_steps : Bool → (na ni : ℕ) → ℕ
    move_steps checked na ni = 14 * shift_nodes checked - 10 + na + ni

    -- A pointer that was moved is in t, and nothing else is another one; it has the range of what it was, or none.
    abbrev pub Moves : ℕ → Values → Range → Value → Values → Type 0
    Moves t before range v l = Only t l before × (l t ≡ Some v.number) × ((v.range ≡ range) ⊎ (v.range ≡ Without))

    set_moves : (e : Expr) (t : ℕ) (more : Code) (rest : Rest) (l : Values) (v : Value) (range : Range) (most : ℕ) → nodes e + 1 ≤ most → ((v.range ≡ range) ⊎ (v.range ≡ Without)) → value_of l world.memory e ≡ Some v.number
        → Comes functions callers world 1 most (at callers world (Set t e more) rest l) (Ok v) more rest (Moves t l range)
    set_moves e t more rest l v range most few kind h = (
      nodes e + 1,
      at callers world more rest (with_written l t v.number),
      omega arith,
      few,
      by_set functions callers world t e more rest l v.number h,
      (with_written l t v.number, refl, ((λ x e. written_only l t v.number x e), written_same l t v.number, kind)),
    )

    move_checked : (shift : Shift) (i : source.Expr) (x y : Value) (u w t : ℕ) (more : Code) (rest : Rest) (l : Values) → IsChecked true shift
        → l u ≡ Some x.number → value_of l world.memory (held (keeps_index true i) i w) ≡ Some y.number → x.number < 2 ^ 32 → y.number < 2 ^ 32
        → Comes functions callers world 1 (move_steps true 1 (nodes (held (keeps_index true i) i w)))
        (at callers world (exact_code shift (Local u) (held (keeps_index true i) i w) (Set t (shifted shift.back shift.size (Local u) (held (keeps_index true i) i w)) more)) rest l)
        (moves_checked shift x y.number) more rest (Moves t l x.range)
    move_checked shift i x y u w t more rest l c h j low few = by (x.number == 0) refl
      where
        one : nodes (held (keeps_index true i) i w) ≡ 1
        one = index_alone i w

        set : Code
        set = Set t (shifted shift.back shift.size (Local u) (held (keeps_index true i) i w)) more

        tested : Code
        tested = unless_zero (held (keeps_index true i) i w) (Check check.Arith shift.at (exact_test shift.back (reads_signed shift.index) shift.size (Local u) (held (keeps_index true i) i w))) set

        by : (none : Bool) → (x.number == 0) ≡ none
            → Comes functions callers world 1 (move_steps true 1 (nodes (held (keeps_index true i) i w))) (at callers world (Check check.Arith shift.at (Local u) tested) rest l)
            (if none then stops check.Arith shift.at else given (at_address (as_address (moved_exactly shift x.number (exact shift.index y.number))) shift.at) (λ a. Ok (record { number = a; range = x.range }))) more rest (Moves t l x.range)
        by true z = (2, omega arith, by_fail functions callers world check.Arith shift.at (Local u) tested rest l x.number h z)
        by false z =
            first_runs functions 2 1 20 (move_steps true 1 (nodes (held (keeps_index true i) i w))) (at callers world (Check check.Arith shift.at (Local u) tested) rest l) (at callers world tested rest l)
            (given (at_address (as_address (moved_exactly shift x.number (exact shift.index y.number))) shift.at) (λ a. Ok (record { number = a; range = x.range })))
            (λ v u. (l' : Values) × (u ≡ at callers world more rest l') × Moves t l x.range v l') (omega (arith, one)) (by_pass functions callers world check.Arith shift.at (Local u) tested rest l x.number h z)
            (then_comes functions callers world 1 14 6 20 (at callers world tested rest l) (at_address (as_address (moved_exactly shift x.number (exact shift.index y.number))) shift.at) (λ a. Ok (record { number = a; range = x.range })) set rest (λ q l'. (l' ≡ l) × (q ≡ moved_word shift.back shift.size y.number x.number))
            (λ v u. (l' : Values) × (u ≡ at callers world more rest l') × Moves t l x.range v l') (omega arith)
            (exactly_comes shift i u w set rest l x.number y.number c.1 c.2 low few h j)
            (λ q l1 e.
            subst (λ (m : Values). Comes functions callers world 1 6 (at callers world set rest m) (Ok (record { number = q; range = x.range })) more rest (Moves t l x.range)) (sym e.0)
            (set_moves (shifted shift.back shift.size (Local u) (held (keeps_index true i) i w)) t more rest l (record { number = q; range = x.range }) x.range 6 (omega (arith, shifted_nodes shift.back shift.size (Local u) (held (keeps_index true i) i w), one)) (inl refl)
            (shifted_value l world.memory shift.back shift.size (Local u) (held (keeps_index true i) i w) x.number y.number h j low few ∙ ap Some (sym e.1)))))

    -- a pointer that is held is moved, which goes to a temporary if it is checked
    pub move_comes : (shift : Shift) (r checked : Bool) (p i : source.Expr) (x y : Value) (u w t : ℕ) (more : Code) (rest : Rest) (l : Values) → IsChecked checked shift
        → value_of l world.memory (held (r || checked) p u) ≡ Some x.number → value_of l world.memory (held (keeps_index checked i) i w) ≡ Some y.number → x.number < 2 ^ 32 → y.number < 2 ^ 32
        → Comes functions callers world 1 (move_steps checked (nodes (held (r || checked) p u)) (nodes (held (keeps_index checked i) i w)))
        (at callers world (let there = Set t (shifted shift.back shift.size (held (r || checked) p u) (held (keeps_index checked i) i w)) more in
        if checked then exact_code shift (held (r || checked) p u) (held (keeps_index checked i) i w) there else there) rest l)
        (if checked then moves_checked shift x y.number else plain (applied (if shift.back then binary.Sub else binary.Add) x.number (applied binary.Mul shift.size y.number))) more rest (Moves t l x.range)
    move_comes shift r false p i x y u w t more rest l c h j low few =
        let a = held (r || false) p u in
        let value = shifted shift.back shift.size a (operand i w) in
        set_moves value t more rest l (record { number = applied (if shift.back then binary.Sub else binary.Add) x.number (applied binary.Mul shift.size y.number); range = Without }) x.range
        (move_steps false (nodes a) (nodes (operand i w))) (omega (arith, shifted_nodes shift.back shift.size a (operand i w))) (inr refl)
        (shifted_value l world.memory shift.back shift.size a (operand i w) x.number y.number h j low few)
    move_comes shift true true p i x y u w t more rest l c h j low few = move_checked shift i x y u w t more rest l c h j low few
    move_comes shift false true p i x y u w t more rest l c h j low few = move_checked shift i x y u w t more rest l c h j low few

    -- what comes of an evaluation is less, seen from further in front
    pub mapped : {A : Type 0} (least most : ℕ) (st : State) (r : Result A Halt) (more : Code) (rest : Rest) (P R : A → Values → Type 0) → ((v : A) (l : Values) → P v l → R v l)
        → Comes functions callers world least most st r more rest P → Comes functions callers world least most st r more rest R
    mapped least most st (Ok v) more rest P R f c = let q = c.5 in (c.0, c.1, c.2, c.3, c.4, (q.0, q.1, f v q.0 q.2))
    mapped least most st (Err Stuck) more rest P R f c = tt
    mapped least most st (Err (Stopped why place)) more rest P R f c = c

    moves_put : (t : ℕ) (before l : Values) (range : Range) → Below t l before → (v : Value) (l' : Values) → Moves t l range v l' → Put functions callers world t before v l'
    moves_put t before l range below v l' m = ((λ z less. only_below t l' l m.0 z less ∙ below z less), m.1)

    shift_steps : (np ni ep ei c : ℕ) → np ≤ 6 * ep → ni ≤ 6 * ei → 1 ≤ c
        → (14 * ep - 2 * np) + ((14 * ei - 2 * ni) + (14 * c - 10 + np + ni)) ≤ 14 * (c + ep + ei) - 2
    shift_steps np ni ep ei c h k i = omega arith

    pub moved_comes : (shift : Shift) (p i : source.Expr) → Claim functions callers world n s sees p → Claim functions callers world n s sees i → Claim functions callers world n s sees (source.Moved shift p i)
    moved_comes shift p i claim_p claim_i t more rest l le h agree =
        let checked = shift.checked in
        let keeps = keeps_index checked i in
        let a = held checked p t in
        let b = held keeps i (t + 1) in
        let judge = h.0 in
        let k = move_steps checked (nodes a) (nodes b) in
        pair_comes functions callers world n s sees checked keeps p i (held_steps checked p) (held_steps keeps i) t 1 k (expr_steps (source.Moved shift p i))
        (moved_code shift a b t more) more rest l (λ v k. moves shift v k.number) (Put functions callers world t l) (held_from functions callers world n s sees checked p claim_p) (held_from functions callers world n s sees keeps i claim_i) le h.1 h.2 agree
        (shift_steps (nodes a) (nodes b) (expr_nodes p) (expr_nodes i) (shift_nodes checked) (held_nodes checked p t) (held_nodes keeps i (t + 1)) (some_shift checked))
        (λ x y l2 both eq_p eq_i.
        mapped 1 k (at callers world (moved_code shift a b t more) rest l2) (moves shift x y.number) more rest (Moves t l2 x.range) (Put functions callers world t l) (moves_put t l l2 x.range both.0)
        (move_comes shift false checked p i x y t (t + 1) t more rest l2 judge.1 (both.1 l2 (λ z less. refl)) (both.2 l2 (λ z less. refl)) both.3 both.4))

    pub added_comes : (shift : Shift) (i p : source.Expr) → Claim functions callers world n s sees i → Claim functions callers world n s sees p → Claim functions callers world n s sees (source.Added shift i p)
    added_comes shift i p claim_i claim_p t more rest l le h agree =
        let checked = shift.checked in
        let keeps = keeps_index checked i in
        let a = held checked p (t + 1) in
        let b = held keeps i t in
        let judge = h.0 in
        let k = move_steps checked (nodes a) (nodes b) in
        pair_comes functions callers world n s sees keeps checked i p (held_steps keeps i) (held_steps checked p) t 1 k (expr_steps (source.Added shift i p))
        (moved_code shift a b t more) more rest l (λ k v. moves shift v k.number) (Put functions callers world t l) (held_from functions callers world n s sees keeps i claim_i) (held_from functions callers world n s sees checked p claim_p) le h.1 h.2 agree
        (omega (arith, shift_steps (nodes b) (nodes a) (expr_nodes i) (expr_nodes p) (shift_nodes checked) (held_nodes keeps i t) (held_nodes checked p (t + 1)) (some_shift checked)))
        (λ y x l2 both eq_i eq_p.
        mapped 1 k (at callers world (moved_code shift a b t more) rest l2) (moves shift x y.number) more rest (Moves t l2 x.range) (Put functions callers world t l) (moves_put t l l2 x.range both.0)
        (move_comes shift false checked p i x y (t + 1) t t more rest l2 judge.1 (both.2 l2 (λ z less. refl)) (both.1 l2 (λ z less. refl)) both.4 both.3))

    pub bare_put : (m k : ℕ) (st : State) (r : Result Value Halt) (t : ℕ) (more : Code) (rest : Rest) (l : Values) → m ≤ k → Comes functions callers world 1 m st r more rest (Put functions callers world t l)
        → Comes functions callers world 1 k st (given r (λ v. plain v.number)) more rest (Put functions callers world t l)
    bare_put m k st (Ok v) t more rest l few c = (c.0, c.1, c.2, omega (arith, c.3), c.4, c.5)
    bare_put m k st (Err Stuck) t more rest l few c = tt
    bare_put m k st (Err (Stopped why place)) t more rest l few c = (c.0, omega (arith, c.1), c.2)

    -- what gives the number of the value in the temporary t
    same_put : (m n : ℕ) (st : State) (v : Value) (r : Result Value Halt) (t : ℕ) (more : Code) (rest : Rest) (l : Values) → m ≤ n → Gives v.number r → Comes functions callers world 1 m st (Ok v) more rest (Put functions callers world t l)
        → Comes functions callers world 1 n st r more rest (Put functions callers world t l)
    same_put m n st v (Ok w) t more rest l few g c =
        let q = c.5 in
        (c.0, c.1, c.2, omega (arith, c.3), c.4, (q.0, q.1, (q.2.0, q.2.1 ∙ ap Some (sym g))))
    same_put m n st v (Err Stuck) t more rest l few g c = tt
    same_put m n st v (Err (Stopped why place)) t more rest l few g c = absurd g

    pub tested_put : (m k : ℕ) (st : State) (r : Result Value Halt) (f : Value → Result Value Halt) (t : ℕ) (more : Code) (rest : Rest) (l : Values) → m ≤ k
        → ((v : Value) → r ≡ Ok v → Gives v.number (f v)) → Comes functions callers world 1 m st r more rest (Put functions callers world t l) → Comes functions callers world 1 k st (given r f) more rest (Put functions callers world t l)
    tested_put m k st (Ok v) f t more rest l few g c = same_put m k st v (f v) t more rest l few (g v refl) c
    tested_put m k st (Err Stuck) f t more rest l few g c = tt
    tested_put m k st (Err (Stopped why place)) f t more rest l few g c = (c.0, omega (arith, c.1), c.2)

    -- a number that is in the temporary t already
    kept_number : (m t : ℕ) (more : Code) (rest : Rest) (before l : Values) (r : Result Value Halt) → Gives m r → Below t l before → l t ≡ Some m
        → Comes functions callers world 0 0 (at callers world more rest l) r more rest (Put functions callers world t before)
    kept_number m t more rest before l (Ok v) g below h =
        (0, at callers world more rest l, omega arith, omega arith, no_quiet functions (at callers world more rest l), (l, refl, (below, h ∙ ap Some (sym g))))
    kept_number m t more rest before l (Err Stuck) g below h = tt
    kept_number m t more rest before l (Err (Stopped why place)) g below h = absurd g

    pub trusted_comes : (to : Pointee) (how : Integer) (p k : source.Expr) → Claim functions callers world n s sees p → OperandClaim functions callers world n s sees k → Claim functions callers world n s sees (source.Trusted to how p k)
    trusted_comes to how p k claim_p claim_k t more rest l le h agree =
        let second = operand_code k (t + 1) more in
        then_first functions callers world (expr_steps p) (operand_steps k (t + 1) + 0) (expr_steps (source.Trusted to how p k)) (at callers world (expr_code p t second) rest l) (evaluated s p)
        (λ v. given (evaluated s k) (λ c. trusts s to how v.number c.number)) second more rest (Put functions callers world t l) (Put functions callers world t l) (omega (arith, some_node p, some_node k))
        (claim_p t second rest l le h.0 agree)
        (λ v l1 put.
        then_comes functions callers world 0 (operand_steps k (t + 1)) 0 (operand_steps k (t + 1) + 0) (at callers world second rest l1) (evaluated s k) (λ c. trusts s to how v.number c.number) more rest
        (Held functions callers world (operand k (t + 1)) (t + 1) l1) (λ w u. (l' : Values) × (u ≡ at callers world more rest l') × Put functions callers world t l w l') (omega arith)
        (claim_k (t + 1) more rest l1 (omega arith) h.1 (agree_below functions callers world n s sees t l1 l le put.0 agree))
        (λ c l2 held. kept_number v.number t more rest l l2 (trusts s to how v.number c.number)
        (reads_number s.shapes s.blocks to v.number (pos v.number) (elements_behind v.number to.size (exact how c.number)))
        (λ z less. held.0 z (omega arith) ∙ put.0 z less) (held.0 t (omega arith) ∙ put.1)))

    -- ---- branches

    -- what comes of a branch, in front of the code after it
    ended : (most : ℕ) (st : State) (r : Result Value Halt) (P : Value → Values → Type 0) (more : Code) (rest : Rest)
        → Comes functions callers world 1 most st r End (Next more rest) P → Comes functions callers world 1 (most + 1) st r more rest P
    ended most st (Ok v) P more rest c =
        let q = c.5 in
        let w = at callers world more rest q.0 in
        let path : Quiet functions c.0 st (at callers world End (Next more rest) q.0) = subst (λ u. Quiet functions c.0 st u) q.1 c.4 in (
          c.0 + 1,
          w,
          omega arith,
          omega (arith, c.3),
          then_quiet functions c.0 1 st (at callers world End (Next more rest) q.0) w path (by_end functions callers world more rest q.0),
          (q.0, refl, q.2),
        )
    ended most st (Err Stuck) P more rest c = tt
    ended most st (Err (Stopped why place)) P more rest c = (c.0, omega (arith, c.1), c.2)

    -- a branch on a value
    chosen : (m k x : ℕ) (e : Expr) (one two more : Code) (rest : Rest) (l : Values) (P : Value → Values → Type 0) (r q : Result Value Halt) → (zero : Bool) → (x == 0) ≡ zero
        → nodes e + 1 + (m + 1) ≤ k → value_of l world.memory e ≡ Some x
        → ((x == 0) ≡ true → Comes functions callers world 1 m (at callers world two (Next more rest) l) q End (Next more rest) P)
        → ((x == 0) ≡ false → Comes functions callers world 1 m (at callers world one (Next more rest) l) r End (Next more rest) P)
        → Comes functions callers world 1 k (at callers world (If e one two more) rest l) (if zero then q else r) more rest P
    chosen m k x e one two more rest l P r q true z few h on_zero on_other =
        let path = by_if functions callers world e one two more rest l x h in
        first_runs functions (nodes e + 1) 1 (m + 1) k (at callers world (If e one two more) rest l) (at callers world two (Next more rest) l) q
        (λ v u. (l' : Values) × (u ≡ at callers world more rest l') × P v l') few
        (subst (λ (c : Bool). Quiet functions (nodes e + 1) (at callers world (If e one two more) rest l) (at callers world (if c then two else one) (Next more rest) l)) z path)
        (ended m (at callers world two (Next more rest) l) q P more rest (on_zero z))
    chosen m k x e one two more rest l P r q false z few h on_zero on_other =
        let path = by_if functions callers world e one two more rest l x h in
        first_runs functions (nodes e + 1) 1 (m + 1) k (at callers world (If e one two more) rest l) (at callers world one (Next more rest) l) r
        (λ v u. (l' : Values) × (u ≡ at callers world more rest l') × P v l') few
        (subst (λ (c : Bool). Quiet functions (nodes e + 1) (at callers world (If e one two more) rest l) (at callers world (if c then two else one) (Next more rest) l)) z path)
        (ended m (at callers world one (Next more rest) l) r P more rest (on_other z))

    truth_value : (l : Values) (e : Expr) (x : ℕ) → value_of l world.memory e ≡ Some x → value_of l world.memory (as_truth e) ≡ Some (truth x)
    truth_value l e x h = ap (λ o. both (applied binary.Ne) o (Some 0)) h

    -- the truth of the second operand of && or ||
    truth_comes : (b : source.Expr) → OperandClaim functions callers world n s sees b → (t : ℕ) (rest : Rest) (l before : Values) → n ≤ t → IsCompilableExpr n b → Agree n s.locals l → Below t l before
        → Comes functions callers world 1 (operand_steps b t + (nodes (operand b t) + 3)) (at callers world (operand_code b t (Set t (as_truth (operand b t)) End)) rest l)
        (given (evaluated s b) (λ y. plain (truth y.number))) End rest (Put functions callers world t before)
    truth_comes b claim t rest l before le h agree below =
        let q = operand b t in
        let last = Set t (as_truth q) End in
        then_comes functions callers world 1 (operand_steps b t) (nodes q + 3) (operand_steps b t + (nodes q + 3)) (at callers world (operand_code b t last) rest l) (evaluated s b)
        (λ y. plain (truth y.number)) last rest (Held functions callers world q t l) (λ v u. (l' : Values) × (u ≡ at callers world End rest l') × Put functions callers world t before v l') (omega arith)
        (claim t last rest l le h agree)
        (λ y l2 held. set_put functions callers world (as_truth q) t End rest before l2 (record { number = truth y.number; range = Without }) (nodes q + 3) (omega arith)
        (λ z less. held.0 z less ∙ below z less) (truth_value l2 q y.number (held_value functions callers world n s sees q t l l2 y held)))

    const_comes : (k t most : ℕ) (rest : Rest) (before l : Values) → Below t l before → 2 ≤ most
        → Comes functions callers world 1 most (at callers world (Set t (Const k) End) rest l) (plain k) End rest (Put functions callers world t before)
    const_comes k t most rest before l below few =
        set_put functions callers world (Const k) t End rest before l (record { number = k; range = Without }) most (omega arith) below refl

    both_steps : (na nb ea eb : ℕ) → na ≤ 6 * ea → nb ≤ 6 * eb → 1 ≤ ea → 1 ≤ eb
        → (14 * ea - 2 * na) + (na + 1 + ((14 * eb - 2 * nb) + (nb + 3) + 1)) ≤ 14 * (1 + ea + eb) - 2
    both_steps na nb ea eb h k i j = omega arith

    pub and_comes : (a b : source.Expr) → OperandClaim functions callers world n s sees a → OperandClaim functions callers world n s sees b → Claim functions callers world n s sees (source.And a b)
    and_comes a b claim_a claim_b t more rest l le h agree =
        let p = operand a t in
        let q = operand b t in
        let m = operand_steps b t + (nodes q + 3) in
        let one = operand_code b t (Set t (as_truth q) End) in
        let two = Set t (Const 0) End in
        then_comes functions callers world 1 (operand_steps a t) (nodes p + 1 + (m + 1)) (expr_steps (source.And a b)) (at callers world (operand_code a t (If p one two more)) rest l) (evaluated s a)
        (λ x. if x.number == 0 then plain 0 else given (evaluated s b) (λ y. plain (truth y.number))) (If p one two more) rest (Held functions callers world p t l)
        (λ v u. (l' : Values) × (u ≡ at callers world more rest l') × Put functions callers world t l v l')
        (both_steps (nodes p) (nodes q) (expr_nodes a) (expr_nodes b) (operand_nodes a t) (operand_nodes b t) (some_node a) (some_node b))
        (claim_a t (If p one two more) rest l le h.0 agree)
        (λ x l1 held. chosen m (nodes p + 1 + (m + 1)) x.number p one two more rest l1 (Put functions callers world t l) (given (evaluated s b) (λ y. plain (truth y.number))) (plain 0) (x.number == 0) refl (omega arith)
        (held_value functions callers world n s sees p t l l1 x held)
        (λ z. const_comes 0 t m (Next more rest) l l1 held.0 (omega arith))
        (λ z. truth_comes b claim_b t (Next more rest) l1 l le h.1 (agree_below functions callers world n s sees t l1 l le held.0 agree) held.0))

    pub or_comes : (a b : source.Expr) → OperandClaim functions callers world n s sees a → OperandClaim functions callers world n s sees b → Claim functions callers world n s sees (source.Or a b)
    or_comes a b claim_a claim_b t more rest l le h agree =
        let p = operand a t in
        let q = operand b t in
        let m = operand_steps b t + (nodes q + 3) in
        let two = operand_code b t (Set t (as_truth q) End) in
        let one = Set t (Const 1) End in
        then_comes functions callers world 1 (operand_steps a t) (nodes p + 1 + (m + 1)) (expr_steps (source.Or a b)) (at callers world (operand_code a t (If p one two more)) rest l) (evaluated s a)
        (λ x. if x.number == 0 then given (evaluated s b) (λ y. plain (truth y.number)) else plain 1) (If p one two more) rest (Held functions callers world p t l)
        (λ v u. (l' : Values) × (u ≡ at callers world more rest l') × Put functions callers world t l v l')
        (both_steps (nodes p) (nodes q) (expr_nodes a) (expr_nodes b) (operand_nodes a t) (operand_nodes b t) (some_node a) (some_node b))
        (claim_a t (If p one two more) rest l le h.0 agree)
        (λ x l1 held. chosen m (nodes p + 1 + (m + 1)) x.number p one two more rest l1 (Put functions callers world t l) (plain 1) (given (evaluated s b) (λ y. plain (truth y.number))) (x.number == 0) refl (omega arith)
        (held_value functions callers world n s sees p t l l1 x held)
        (λ z. truth_comes b claim_b t (Next more rest) l1 l le h.1 (agree_below functions callers world n s sees t l1 l le held.0 agree) held.0)
        (λ z. const_comes 1 t m (Next more rest) l l1 held.0 (omega arith)))

    widen : {A : Type 0} (m k : ℕ) (st : State) (r : Result A Halt) (more : Code) (rest : Rest) (P : A → Values → Type 0) → m ≤ k
        → Comes functions callers world 1 m st r more rest P → Comes functions callers world 1 k st r more rest P
    widen m k st (Ok v) more rest P few c = (c.0, c.1, c.2, omega (arith, c.3), c.4, c.5)
    widen m k st (Err Stuck) more rest P few c = tt
    widen m k st (Err (Stopped why place)) more rest P few c = (c.0, omega (arith, c.1), c.2)

    choice_steps : (nc ec ea eb : ℕ) → nc ≤ 6 * ec → 1 ≤ ec → 1 ≤ ea → 1 ≤ eb
        → (14 * ec - 2 * nc) + (nc + 1 + (14 * ea + 14 * eb - 2 + 1)) ≤ 14 * (1 + ec + ea + eb) - 2
    choice_steps nc ec ea eb h i j k = omega arith

    choice_comes : (r : Bool) (P : ℕ → Values → Value → Values → Type 0) (c a b : source.Expr) (t : ℕ) (more : Code) (rest : Rest) (l : Values)
        → OperandClaim functions callers world n s sees c
        → ((l1 : Values) → Below t l1 l → Comes functions callers world 1 (value_steps r a) (at callers world (value_code r a t End) (Next more rest) l1) (evaluated s a) End (Next more rest) (P t l))
        → ((l1 : Values) → Below t l1 l → Comes functions callers world 1 (value_steps r b) (at callers world (value_code r b t End) (Next more rest) l1) (evaluated s b) End (Next more rest) (P t l))
        → n ≤ t → IsCompilableExpr n c → Agree n s.locals l
        → Comes functions callers world 1 (value_steps r (source.Choice c a b)) (at callers world (value_code r (source.Choice c a b) t more) rest l) (evaluated s (source.Choice c a b)) more rest (P t l)
    choice_comes r P c a b t more rest l claim_c claim_a claim_b le h agree =
        let p = operand c t in
        let m = 14 * value_nodes r a + 14 * value_nodes r b - 2 in
        let one = value_code r a t End in
        let two = value_code r b t End in
        then_comes functions callers world 1 (operand_steps c t) (nodes p + 1 + (m + 1)) (value_steps r (source.Choice c a b)) (at callers world (operand_code c t (If p one two more)) rest l) (evaluated s c)
        (λ x. if x.number == 0 then evaluated s b else evaluated s a) (If p one two more) rest (Held functions callers world p t l)
        (λ v u. (l' : Values) × (u ≡ at callers world more rest l') × P t l v l')
        (choice_steps (nodes p) (expr_nodes c) (value_nodes r a) (value_nodes r b) (operand_nodes c t) (some_node c) (some_nodes r a) (some_nodes r b))
        (claim_c t (If p one two more) rest l le h agree)
        (λ x l1 held. chosen m (nodes p + 1 + (m + 1)) x.number p one two more rest l1 (P t l) (evaluated s a) (evaluated s b) (x.number == 0) refl (omega arith)
        (held_value functions callers world n s sees p t l l1 x held)
        (λ z. widen (value_steps r b) m (at callers world two (Next more rest) l1) (evaluated s b) End (Next more rest) (P t l) (omega (arith, some_nodes r a)) (claim_b l1 held.0))
        (λ z. widen (value_steps r a) m (at callers world one (Next more rest) l1) (evaluated s a) End (Next more rest) (P t l) (omega (arith, some_nodes r b)) (claim_a l1 held.0)))

    pub choice_value : (c a b : source.Expr) → OperandClaim functions callers world n s sees c → Claim functions callers world n s sees a → Claim functions callers world n s sees b → Claim functions callers world n s sees (source.Choice c a b)
    choice_value c a b claim_c claim_a claim_b t more rest l le h agree =
        choice_comes false (Put functions callers world) c a b t more rest l claim_c
        (λ l1 below. weaken functions callers world n s sees (expr_steps a) t (at callers world (expr_code a t End) (Next more rest) l1) (evaluated s a) l1 l End (Next more rest) below
        (claim_a t End (Next more rest) l1 le h.1 (agree_below functions callers world n s sees t l1 l le below agree)))
        (λ l1 below. weaken functions callers world n s sees (expr_steps b) t (at callers world (expr_code b t End) (Next more rest) l1) (evaluated s b) l1 l End (Next more rest) below
        (claim_b t End (Next more rest) l1 le h.2 (agree_below functions callers world n s sees t l1 l le below agree)))
        le h.0 agree

    range_below : (t : ℕ) (before l : Values) → Below t l before → (v : Value) (l' : Values) → PutRange functions callers world t l v l' → PutRange functions callers world t before v l'
    range_below t before l below v l' put = ((λ z less. put.0 z less ∙ below z less), put.1, put.2)

    pub choice_range : (c a b : source.Expr) → OperandClaim functions callers world n s sees c → RangeClaim functions callers world n s sees a → RangeClaim functions callers world n s sees b → RangeClaim functions callers world n s sees (source.Choice c a b)
    choice_range c a b claim_c claim_a claim_b t more rest l le h has agree =
        choice_comes true (PutRange functions callers world) c a b t more rest l claim_c
        (λ l1 below. mapped 1 (value_steps true a) (at callers world (value_code true a t End) (Next more rest) l1) (evaluated s a) End (Next more rest) (PutRange functions callers world t l1) (PutRange functions callers world t l) (range_below t l l1 below)
        (claim_a t End (Next more rest) l1 le h.1 has.0 (agree_below functions callers world n s sees t l1 l le below agree)))
        (λ l1 below. mapped 1 (value_steps true b) (at callers world (value_code true b t End) (Next more rest) l1) (evaluated s b) End (Next more rest) (PutRange functions callers world t l1) (PutRange functions callers world t l) (range_below t l l1 below)
        (claim_b t End (Next more rest) l1 le h.2 has.1 (agree_below functions callers world n s sees t l1 l le below agree)))
        le h.0 agree

    narrow_steps : (ne ee : ℕ) → ne ≤ 6 * ee → 1 ≤ ee → (14 * ee - 2 * ne) + (ne + 3) ≤ 14 * (1 + ee) - 2
    narrow_steps ne ee h i = omega arith

    pub narrow_comes : (e : source.Expr) → OperandClaim functions callers world n s sees e → Claim functions callers world n s sees (source.Narrow e)
    narrow_comes e claim t more rest l le h agree =
        let q = operand e t in
        let last = Set t (low_byte q) more in
        then_comes functions callers world 1 (operand_steps e t) (nodes q + 3) (expr_steps (source.Narrow e)) (at callers world (operand_code e t last) rest l) (evaluated s e)
        (λ y. plain (y.number % 256)) last rest (Held functions callers world q t l) (λ v u. (l' : Values) × (u ≡ at callers world more rest l') × Put functions callers world t l v l')
        (narrow_steps (nodes q) (expr_nodes e) (operand_nodes e t) (some_node e))
        (claim t last rest l le h agree)
        (λ y l2 held. set_put functions callers world (low_byte q) t more rest l l2 (record { number = y.number % 256; range = Without }) (nodes q + 3) (omega arith)
        held.0 (low_value l2 world.memory q y.number (held_value functions callers world n s sees q t l l2 y held)))

    pub load_comes : (width : Width) (access : Access) (p i : source.Expr) → Claim functions callers world n s sees p → RangeClaim functions callers world n s sees p → Claim functions callers world n s sees i → Claim functions callers world n s sees (source.Load width access p i)
    load_comes width access p i claim_p range_p claim_i t more rest l le h agree =
        let place = reached_place access p i t in
        let e = source.Load width access p i in
        widen (14 * place_nodes_of access p i - 2) (expr_steps e) (at callers world (expr_code e t more) rest l) (evaluated s e) more rest (Put functions callers world t l) (omega arith)
        (access_comes functions callers world n s sees access p i t (Load width place) (λ a. loads s width (place_in a access.offset)) more rest l claim_p range_p claim_i le h.0 h.1 h.2 agree (omega arith)
        (λ x later e. subst (λ o. IsValue (loads s width (place_in x access.offset)) (option_and_then (value_at width world.memory) o)) (sym e)
        (load_value s world.memory width (place_in x access.offset) sees.same.bytes (loaded width (place_in x access.offset) s.blocks) refl)))

    pub member_comes : (to : Pointee) (count : Count) (access : Access) (p i : source.Expr) → Claim functions callers world n s sees p → RangeClaim functions callers world n s sees p → Claim functions callers world n s sees i
        → Claim functions callers world n s sees (source.Member to count access p i)
    member_comes to count access p i claim_p range_p claim_i t more rest l le h agree =
        let place = reached_place access p i t in
        let e = source.Member to count access p i in
        widen (14 * place_nodes_of access p i - 2) (expr_steps e) (at callers world (expr_code e t more) rest l) (evaluated s e) more rest (Put functions callers world t l) (omega arith)
        (access_comes functions callers world n s sees access p i t (Load Word place) (λ a. loads_pointer s to count a (place_in a access.offset)) more rest l claim_p range_p claim_i le h.0 h.1 h.2 agree (omega arith)
        (λ x later e. subst (λ o. IsValue (loads_pointer s to count x (place_in x access.offset)) (option_and_then (value_at Word world.memory) o)) (sym e)
        (pointer_value s world.memory to count x (place_in x access.offset) sees.same.bytes (loaded Word (place_in x access.offset) s.blocks) refl)))

    pub address_comes : (bytes : ℕ) (access : Access) (p i : source.Expr) → Claim functions callers world n s sees p → RangeClaim functions callers world n s sees p → Claim functions callers world n s sees i
        → Claim functions callers world n s sees (source.Address bytes access p i)
    address_comes bytes access p i claim_p range_p claim_i t more rest l le h agree =
        let e = source.Address bytes access p i in
        widen (14 * place_nodes_of access p i - 2) (expr_steps e) (at callers world (expr_code e t more) rest l) (evaluated s e) more rest (Put functions callers world t l) (omega arith)
        (access_comes functions callers world n s sees access p i t (reached_place access p i t) (λ a. spanned (place_in a access.offset) bytes) more rest l claim_p range_p claim_i le h.0 h.1 h.2 agree (omega arith) (λ x later e. e))
