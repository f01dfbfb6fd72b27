-- Core code comes to where the value of an expression is had: in a temporary, or as an operand.
use Rattle.std.proofs.Common.{◌≡◌, ℕ, ◌^◌, ◌+◌, ◌-◌, ◌*◌, ◌≤◌, ◌<◌, ◌==◌, List, refl, sym, ◌∙◌, subst, arith}
use Rattle.std.specs.Prelude.{Bool, true, false, ◌&&◌, if◌then◌else◌, Some, Result, Ok, Err}
use Rattle.ckc_base.specs.declared.places.Pos.{Pos}
use Rattle.ckc_base.specs.declared.runtime_checks.Check.TheVariants as check
use Rattle.ckc_base.specs.Actions.{World}
use Rattle.ckc_base.specs.Activations.{Values, with_written}
use Rattle.ckc_source.specs.declared.expr.Operation.{Operation}
use Rattle.ckc_source.specs.declared.outcome.Range.{Range}
use Rattle.ckc_source.specs.declared.outcome.Range.TheVariants.{Without, Within}
use Rattle.ckc_source.specs.declared.outcome.Value.{Value}
use Rattle.ckc_source.specs.declared.outcome.Halt.{Halt}
use Rattle.ckc_source.specs.declared.outcome.Halt.TheVariants.{Stopped, Stuck}
use Rattle.ckc_source.specs.Code as source
use Rattle.ckc_source.specs.Words.{computed}
use Rattle.ckc_source.specs.Eval.{Store, given, given_both, plain, stops, evaluated}
use Rattle.ckc_core.specs.Code.{Expr, Local, Code, Set, Check, Function}
use Rattle.ckc_core.specs.Meaning.{Rest, State, Caller, value_of, nodes}
use Rattle.ckc_checks_operands.specs.Compilable.{IsCompilableExpr, HasRange, expr_nodes}
use Rattle.ckc_checks_operands.specs.code.Operands.{is_direct, operated, held, keeps_index, direct}
use Rattle.ckc_checks_follow.specs.code.Inserted.{put_if, value_code, expr_code}
use Rattle.ckc_checks_follow.proofs.Paths.{no_quiet}
use Rattle.ckc_checks_follow.proofs.Running.{Runs, first_runs, later_runs, then_runs, at, by_set, by_pass, by_fail}
use Rattle.ckc_checks_follow.proofs.Bounded.{GivesWord}
use Rattle.ckc_checks_follow.proofs.Values.{IsValue, operated_value, Agree, Sees, word_seen, direct_value}
use Rattle.ckc_checks_follow.proofs.Counts.{written_same, written_below, some_node, direct_nodes, value_steps, expr_steps, held_steps, operand_steps, index_steps}

-- ---- running

-- the locals below t are as they were
abbrev pub Below : ℕ → Values → Values → Type 0
Below t after before = (x : ℕ) → x < t → after x ≡ before x

-- the locals but for t are as they were
abbrev pub Only : ℕ → Values → Values → Type 0
Only t after before = (x : ℕ) → (x == t) ≡ false → after x ≡ before x

pub only_below : (t : ℕ) (after before : Values) → Only t after before → Below t after before
only_below t after before h x less = h x (let e : (x == t) ≡ false = grind arith in e)

pub only_behind : (t k : ℕ) (after before : Values) → Only t after before → 1 ≤ k → after (t + k) ≡ before (t + k)
only_behind t k after before h more = h (t + k) (let e : (t + k == t) ≡ false = grind arith in e)

-- A range as words: its lower bound, and how many bytes it has.
abbrev pub IsRangeOf : Range → (low length : ℕ) → Type 0
IsRangeOf (Within a b) low length = (a ≡ low) × (b ≡ low + length)
IsRangeOf Without low length = Unit {0}

-- a range is in the two temporaries after t
abbrev pub HasAt : Range → ℕ → Values → Type 0
HasAt range t l =
    (low length : ℕ) × (l (t + 1) ≡ Some low) × (l (t + 2) ≡ Some length) × (low < 2 ^ 32) × (length < 2 ^ 32) × IsRangeOf range low length

module _ (functions : List Function) (callers : List Caller) (world : World) where
  -- a stretch to code of the same call, with other locals, or a stop, as the evaluation says
  abbrev pub Comes : {A : Type 0} → (least most : ℕ) → State → Result A Halt → Code → Rest → (A → Values → Type 0) → Type 0
  Comes {A} least most st x more rest P =
      Runs functions least most st x (λ v u. (l : Values) × (u ≡ at callers world more rest l) × P v l)

  pub then_comes : {A B : Type 0} (least m n k : ℕ) (st : State) (x : Result A Halt) (f : A → Result B Halt) (more : Code) (rest : Rest) (P : A → Values → Type 0) (R : B → State → Type 0)
      → m + n ≤ k → Comes 0 m st x more rest P → ((v : A) (l : Values) → P v l → Runs functions least n (at callers world more rest l) (f v) R)
      → Runs functions least k st (given x f) R
  then_comes {A} {B} least m n k st x f more rest P R few c next =
      then_runs functions least m n k st x f (λ v u. (l : Values) × (u ≡ at callers world more rest l) × P v l) R few c
      (λ v u q. subst (λ u. Runs functions least n u (f v) R) (sym q.1) (next v q.0 q.2))

  -- the same, if the first one makes a step
  pub then_first : {A B : Type 0} (m n k : ℕ) (st : State) (x : Result A Halt) (f : A → Result B Halt) (last more : Code) (rest : Rest) (P : A → Values → Type 0) (R : B → Values → Type 0)
      → m + n ≤ k → Comes 1 m st x last rest P → ((v : A) (l : Values) → P v l → Comes 0 n (at callers world last rest l) (f v) more rest R)
      → Comes 1 k st (given x f) more rest R
  then_first {A} {B} m n k st (Ok v) f last more rest P R few c next =
      let q = c.5 in
      later_runs functions c.0 n k st c.1 (f v) (λ v u. (l : Values) × (u ≡ at callers world more rest l) × R v l) (omega (arith, c.3)) c.2 c.4
      (subst (λ u. Comes 0 n u (f v) more rest R) (sym q.1) (next v q.0 q.2))
  then_first m n k st (Err Stuck) f last more rest P R few c next = tt
  then_first m n k st (Err (Stopped why place)) f last more rest P R few c next = (c.0, omega (arith, c.1), c.2)

  -- the value of the expression is in the temporary t
  abbrev pub Put : ℕ → Values → Value → Values → Type 0
  Put t before v l = Below t l before × (l t ≡ Some v.number)

  -- the same, and its range after it
  abbrev pub PutRange : ℕ → Values → Value → Values → Type 0
  PutRange t before v l = Below t l before × (l t ≡ Some v.number) × HasAt v.range t l

  -- The operand has this value, which is a word, as long as the locals up to t stay.
  abbrev pub Held : Expr → ℕ → Values → Value → Values → Type 0
  Held e t before v l =
      Below t l before × ((later : Values) → Below (t + 1) later l → value_of later world.memory e ≡ Some v.number) × (v.number < 2 ^ 32)

  pub set_put : (e : Expr) (t : ℕ) (more : Code) (rest : Rest) (before l : Values) (v : Value) (most : ℕ) → nodes e + 1 ≤ most → Below t l before
      → value_of l world.memory e ≡ Some v.number
      → Comes 1 most (at callers world (Set t e more) rest l) (Ok v) more rest (Put t before)
  set_put e t more rest before l v most few below h = (
    nodes e + 1,
    at callers world more rest (with_written l t v.number),
    omega arith,
    few,
    by_set functions callers world t e more rest l v.number h,
    (
      with_written l t v.number,
      refl,
      ((λ x less. written_below l t v.number x less ∙ below x less), written_same l t v.number),
    ),
  )

  pub set_value : (e : Expr) (t : ℕ) (more : Code) (rest : Rest) (l : Values) (r : Result Value Halt) (most : ℕ) → nodes e + 1 ≤ most
      → IsValue r (value_of l world.memory e)
      → Comes 1 most (at callers world (Set t e more) rest l) r more rest (Put t l)
  set_value e t more rest l (Ok v) most few h = set_put e t more rest l l v most few (λ x less. refl) h
  set_value e t more rest l (Err Stuck) most few h = tt
  set_value e t more rest l (Err (Stopped why place)) most few h = absurd h

  -- an operation on two values that are held
  pub operation_by : (operation : Operation) (is_signed : Bool) (place : Pos) (a b : Expr) (t : ℕ) (more : Code) (rest : Rest) (before l : Values) (x y most : ℕ) (d zero : Bool)
      → (nodes b + 1) + (nodes (operated operation is_signed a b) + 1) ≤ most → Below t l before
      → value_of l world.memory a ≡ Some x → value_of l world.memory b ≡ Some y → (y == 0) ≡ zero
      → Comes 1 most (at callers world (if d then Check check.Divide place b (Set t (operated operation is_signed a b) more) else Set t (operated operation is_signed a b) more) rest l)
      (if d && zero then stops check.Divide place else plain (computed operation is_signed x y)) more rest (Put t before)
  operation_by operation is_signed place a b t more rest before l x y most true true few below h k z =
      (nodes b + 1, omega arith, by_fail functions callers world check.Divide place b (Set t (operated operation is_signed a b) more) rest l y k z)
  operation_by operation is_signed place a b t more rest before l x y most true false few below h k z =
      let o = operated operation is_signed a b in
      let v : Value = record { number = computed operation is_signed x y; range = Without } in
      first_runs functions (nodes b + 1) 1 (nodes o + 1) most (at callers world (Check check.Divide place b (Set t o more)) rest l) (at callers world (Set t o more) rest l)
      (Ok v) (λ v u. (l : Values) × (u ≡ at callers world more rest l) × Put t before v l) few
      (by_pass functions callers world check.Divide place b (Set t o more) rest l y k z)
      (set_put o t more rest before l v (nodes o + 1) (omega arith) below (operated_value l world.memory operation is_signed a b x y h k))
  operation_by operation is_signed place a b t more rest before l x y most false zero few below h k z =
      let o = operated operation is_signed a b in
      set_put o t more rest before l (record { number = computed operation is_signed x y; range = Without }) most (omega arith) below
      (operated_value l world.memory operation is_signed a b x y h k)

  module _ (n : ℕ) (s : Store) (sees : Sees n s world.memory) where
    abbrev pub Claim : source.Expr → Type 0
    Claim e = (t : ℕ) (more : Code) (rest : Rest) (l : Values) → n ≤ t → IsCompilableExpr n e → Agree n s.locals l
        → Comes 1 (expr_steps e) (at callers world (expr_code e t more) rest l) (evaluated s e) more rest (Put t l)

    abbrev pub RangeClaim : source.Expr → Type 0
    RangeClaim e = (t : ℕ) (more : Code) (rest : Rest) (l : Values) → n ≤ t → IsCompilableExpr n e → HasRange n e → Agree n s.locals l
        → Comes 1 (value_steps true e) (at callers world (value_code true e t more) rest l) (evaluated s e) more rest (PutRange t l)

    -- an operand in so many steps, in a temporary in any case if the flag says so
    abbrev pub HeldIn : (ℕ → ℕ) → Bool → source.Expr → Type 0
    HeldIn steps always e = (t : ℕ) (more : Code) (rest : Rest) (l : Values) → n ≤ t → IsCompilableExpr n e → Agree n s.locals l
        → Comes 0 (steps t) (at callers world (put_if always e (expr_code e t) more) rest l) (evaluated s e) more rest (Held (held always e t) t l)

    abbrev pub OperandClaim : source.Expr → Type 0
    OperandClaim e = HeldIn (operand_steps e) false e

    pub agree_below : (t : ℕ) (l before : Values) → n ≤ t → Below t l before → Agree n s.locals before → Agree n s.locals l
    agree_below t l before le below agree x h = below x (omega arith) ∙ agree x h

    pub here : (e : source.Expr) (t most : ℕ) (more : Code) (rest : Rest) (l : Values) (r : Result Value Halt)
        → ((later : Values) → Below (t + 1) later l → IsValue r (value_of later world.memory (direct e))) → GivesWord r
        → Comes 0 most (at callers world more rest l) r more rest (Held (direct e) t l)
    here e t most more rest l (Ok v) h word =
        (0, at callers world more rest l, omega arith, omega arith, no_quiet functions (at callers world more rest l), (l, refl, ((λ x less. refl), h, word)))
    here e t most more rest l (Err Stuck) h word = tt
    here e t most more rest l (Err (Stopped why place)) h word = absurd (h l (λ x less. refl))

    pub put_held : (t most k : ℕ) (more : Code) (rest : Rest) (l : Values) (st : State) (r : Result Value Halt) → most ≤ k → GivesWord r
        → Comes 1 most st r more rest (Put t l) → Comes 0 k st r more rest (Held (Local t) t l)
    put_held t most k more rest l st (Ok v) few word c =
        let q = c.5 in
        (c.0, c.1, omega arith, omega (arith, c.3), c.4, (q.0, q.1, (q.2.0, (λ later same. same t (omega arith) ∙ q.2.1), word)))
    put_held t most k more rest l st (Err Stuck) few word c = tt
    put_held t most k more rest l st (Err (Stopped why place)) few word c = (c.0, omega (arith, c.1), c.2)

    pub operand_by : (e : source.Expr) → Claim e → (t : ℕ) (more : Code) (rest : Rest) (l : Values) → n ≤ t → IsCompilableExpr n e → Agree n s.locals l
        → (d : Bool) → is_direct e ≡ d
        → Comes 0 (14 * expr_nodes e - 2 * nodes (if d then direct e else Local t)) (at callers world (if d then more else expr_code e t more) rest l) (evaluated s e) more rest
        (Held (if d then direct e else Local t) t l)
    operand_by e claim t more rest l le h agree true d =
        here e t (14 * expr_nodes e - 2 * nodes (direct e)) more rest l (evaluated s e)
        (λ later below. direct_value n s world.memory later e sees (agree_below (t + 1) later l (omega arith) below agree) h d)
        (word_seen n s world.memory sees e h)
    operand_by e claim t more rest l le h agree false d =
        put_held t (expr_steps e) (14 * expr_nodes e - 2 * 1) more rest l (at callers world (expr_code e t more) rest l) (evaluated s e) (omega arith)
        (word_seen n s world.memory sees e h) (claim t more rest l le h agree)

    pub operand_from : (e : source.Expr) → Claim e → OperandClaim e
    operand_from e claim t more rest l le h agree = operand_by e claim t more rest l le h agree (is_direct e) refl

    pub held_from : (always : Bool) (e : source.Expr) → Claim e → HeldIn (held_steps always e) always e
    held_from true e claim t more rest l le h agree =
        put_held t (expr_steps e) (14 * expr_nodes e - 2 * 1) more rest l (at callers world (expr_code e t more) rest l) (evaluated s e) (omega arith)
        (word_seen n s world.memory sees e h) (claim t more rest l le h agree)
    held_from false e claim t more rest l le h agree = operand_from e claim t more rest l le h agree

    abbrev pub IndexClaim : Bool → source.Expr → Type 0
    IndexClaim checked i = HeldIn (index_steps (keeps_index checked i) i) (keeps_index checked i) i

    pub index_from : (checked : Bool) (i : source.Expr) → Claim i → IndexClaim checked i
    index_from true (source.Number k) claim t more rest l le h agree = here (source.Number k) t 0 more rest l (plain k) (λ later below. refl) h
    index_from false (source.Number k) claim t more rest l le h agree = here (source.Number k) t 0 more rest l (plain k) (λ later below. refl) h
    index_from checked i claim t more rest l le h agree = held_from (keeps_index checked i) i claim t more rest l le h agree

    pub leaf : (e : source.Expr) (t : ℕ) (more : Code) (rest : Rest) (l : Values) → IsCompilableExpr n e → Agree n s.locals l → is_direct e ≡ true
        → Comes 1 (expr_steps e) (at callers world (Set t (direct e) more) rest l) (evaluated s e) more rest (Put t l)
    leaf e t more rest l h agree d =
        set_value (direct e) t more rest l (evaluated s e) (expr_steps e) (omega (arith, direct_nodes e, some_node e))
        (direct_value n s world.memory l e sees agree h d)

    -- if an operand gave a value, its expression still has it
    pub held_value : (e : Expr) (t : ℕ) (before l : Values) (v : Value) → Held e t before v l → value_of l world.memory e ≡ Some v.number
    held_value e t before l v h = h.1 l (λ x less. refl)

    pub weaken : (most t : ℕ) (st : State) (r : Result Value Halt) (l before : Values) (more : Code) (rest : Rest) → Below t l before
        → Comes 1 most st r more rest (Put t l) → Comes 1 most st r more rest (Put t before)
    weaken most t st (Ok v) l before more rest below c =
        let q = c.5 in
        (c.0, c.1, c.2, c.3, c.4, (q.0, q.1, ((λ x less. q.2.0 x less ∙ below x less), q.2.1)))
    weaken most t st (Err Stuck) l before more rest below c = tt
    weaken most t st (Err (Stopped why place)) l before more rest below c = c

    -- ---- two operands

    -- Both operands have these values, which are words, as long as the locals up to t + 1 stay.
    abbrev pub Both : Expr → Expr → ℕ → Values → Value → Value → Values → Type 0
    Both a b t before x y l =
        Below t l before × ((later : Values) → Below (t + 2) later l → value_of later world.memory a ≡ Some x.number)
        × ((later : Values) → Below (t + 2) later l → value_of later world.memory b ≡ Some y.number) × (x.number < 2 ^ 32) × (y.number < 2 ^ 32)

    -- what an evaluation gives is its value
    pub known : {A : Type 0} (least most : ℕ) (st : State) (r : Result A Halt) (more : Code) (rest : Rest) (P : A → Values → Type 0)
        → Comes least most st r more rest P → Comes least most st r more rest (λ v l. P v l × (r ≡ Ok v))
    known least most st (Ok v) more rest P c = let q = c.5 in (c.0, c.1, c.2, c.3, c.4, (q.0, q.1, (q.2, refl)))
    known least most st (Err Stuck) more rest P c = tt
    known least most st (Err (Stopped why place)) more rest P c = c

    pub pair_comes : {A : Type 0} (on_a on_b : Bool) (a b : source.Expr) (first_steps second_steps : ℕ → ℕ) (t least m k : ℕ) (last more : Code) (rest : Rest) (l : Values)
        (f : Value → Value → Result A Halt) (R : A → Values → Type 0)
        → HeldIn first_steps on_a a → HeldIn second_steps on_b b → n ≤ t → IsCompilableExpr n a → IsCompilableExpr n b → Agree n s.locals l → first_steps t + (second_steps (t + 1) + m) ≤ k
        → ((x y : Value) (l2 : Values) → Both (held on_a a t) (held on_b b (t + 1)) t l x y l2 → evaluated s a ≡ Ok x → evaluated s b ≡ Ok y
        → Comes least m (at callers world last rest l2) (f x y) more rest R)
        → Comes least k (at callers world (put_if on_a a (expr_code a t) (put_if on_b b (expr_code b (t + 1)) last)) rest l) (given_both (evaluated s a) (evaluated s b) f) more rest R
    pair_comes {A} on_a on_b a b first_steps second_steps t least m k last more rest l f R claim_a claim_b le ha hb agree few next =
        let p = held on_a a t in
        let q = held on_b b (t + 1) in
        let second = put_if on_b b (expr_code b (t + 1)) last in
        let start = at callers world (put_if on_a a (expr_code a t) second) rest l in
        then_comes least (first_steps t) (second_steps (t + 1) + m) k start (evaluated s a)
        (λ x. given (evaluated s b) (λ y. f x y)) second rest (λ x l1. Held p t l x l1 × (evaluated s a ≡ Ok x))
        (λ v u. (l' : Values) × (u ≡ at callers world more rest l') × R v l') few
        (known 0 (first_steps t) start (evaluated s a) second rest (Held p t l) (claim_a t second rest l le ha agree))
        (λ x l1 got.
        let held = got.0 in
        then_comes least (second_steps (t + 1)) m (second_steps (t + 1) + m)
        (at callers world second rest l1) (evaluated s b) (λ y. f x y) last rest (λ y l2. Held q (t + 1) l1 y l2 × (evaluated s b ≡ Ok y))
        (λ v u. (l' : Values) × (u ≡ at callers world more rest l') × R v l') (omega arith)
        (known 0 (second_steps (t + 1)) (at callers world second rest l1) (evaluated s b) last rest (Held q (t + 1) l1)
        (claim_b (t + 1) last rest l1 (omega arith) hb (agree_below t l1 l le held.0 agree)))
        (λ y l2 got2.
        let held2 = got2.0 in
        next x y l2 (
          (λ z less. held2.0 z (omega arith) ∙ held.0 z less),
          (λ later below. held.1 later (λ z less. below z (omega arith) ∙ held2.0 z less)),
          (λ later below. held2.1 later (λ z less. below z (omega arith))),
          held.2,
          held2.2,
        ) got.1 got2.1))
