-- Each statement of the source is matched by its core code.
use Rattle.std.proofs.Common.{◌≡◌, inr, ℕ, suc, ◌+◌, ◌-◌, ◌*◌, ◌%◌, ◌^◌, ◌≤◌, ◌<◌, ◌==◌, List, [], ◌∷◌, length, map, refl, sym, ◌∙◌, ap, subst, arith}
use Rattle.std.specs.Prelude.{Bool, true, false, if◌then◌else◌, slice_get, Option, Some, None, IfSome, Result, Ok, Err, All}
use Rattle.std.proofs.lemmas.List.Elements.{All-nil, All-cons}
use Rattle.ckc_base.specs.declared.places.Pos.{Pos}
use Rattle.ckc_base.specs.declared.runtime_checks.Check.TheVariants as check
use Rattle.ckc_base.specs.Traces.{Event, Got, Put as Puts}
use Rattle.ckc_base.specs.Traces as standing
use Rattle.ckc_base.specs.LongEvents.{LongEvent, Plain}
use Rattle.ckc_base.specs.Steps.{Move, Goes, Halts}
use Rattle.ckc_base.specs.Actions.{World, with_value, gets_from}
use Rattle.ckc_base.specs.Actions as actions
use Rattle.ckc_base.specs.Activations.{Values, with_written}
use Rattle.ckc_source.specs.declared.outcome.Value.{Value}
use Rattle.ckc_source.specs.declared.outcome.Halt.{Halt}
use Rattle.ckc_source.specs.declared.outcome.Place.{Place}
use Rattle.ckc_source.specs.declared.outcome.Place.TheVariants as place
use Rattle.ckc_source.specs.declared.program.Shape.{Shape}
use Rattle.ckc_source.specs.declared.stmt.Kept.{Kept}
use Rattle.ckc_source.specs.Code as source
use Rattle.ckc_source.specs.LaidOut.{AreBytes}
use Rattle.ckc_source.specs.Eval.{Store, given, plain, evaluated, all_evaluated}
use Rattle.ckc_source.specs.States.{Work, Rest}
use Rattle.ckc_source.specs.States as S
use Rattle.ckc_source.specs.Steps.{store_of, aimed, allowed, writes, all_written, Planned, and_then_written, Drawn, drawn, bundled, at_work, and_moves, comes_to, writes_allowed, gets, puts, calls, returns}
use Rattle.ckc_core.specs.Code.{Expr, Local, Code, Check, Call, Get, Put, If, Return, Function}
use Rattle.ckc_core.specs.Meaning.{Next, value_of, nodes, all_nodes, core_step, goes_by, returns_value}
use Rattle.ckc_core.specs.Meaning as C
use Rattle.ckc_checks_operands.specs.Compilable.{IsCompilableExpr, IsCompilablePart, IsCompilableTarget, IsCompilableKept, IsCompilableFunction, HasParams, expr_nodes, exprs_nodes, code_nodes}
use Rattle.ckc_checks_operands.specs.code.Operands.{low_byte, operand}
use Rattle.ckc_checks_follow.specs.code.Inserted.{operand_used, operand_code, aim_code, target_count, expr_code, operands_code, operands, is_narrow, written, result_in, result_kept, statements, function_code}
use Rattle.ckc_checks_follow.proofs.Paths.{Quiet, Path, path_by, looser_ends, IsQuiet, no_path}
use Rattle.ckc_checks_follow.proofs.Running.{at, by_pass, by_fail, by_if}
use Rattle.ckc_checks_follow.specs.Stores.{next_byte}
use Rattle.ckc_checks_follow.proofs.Values.{Sees, low_value}
use Rattle.ckc_checks_follow.proofs.Aiming.{IsAt, Aimed, aim_steps, aim_comes, at_later}
use Rattle.ckc_checks_follow.proofs.Counts.{expr_steps, operand_steps, operands_steps, operand_nodes, operands_nodes, operands_count, written_same, written_below}
use Rattle.ckc_checks_follow.proofs.Coming.{Below, Held}
use Rattle.ckc_checks_follow.proofs.Exprs.{AllHeld, expr_comes, operand_comes, operands_comes}
use Rattle.ckc_checks_follow.proofs.Coming as X
use Rattle.ckc_checks_follow.proofs.Relation.{Stands}
use Rattle.ckc_checks_follow.proofs.Writing.{Permits, Ready, same_state, quiet, Matches, Written, lands, then_matched, then_written, then_comes_to, least_of, write_steps, writes_same}
use Rattle.ckc_checks_follow.proofs.Entering.{called, returned}

-- ---- one assignment

all_of_one : (r : Result S.State Halt) → comes_to [] (given r (all_written [])) ≡ comes_to [] r
all_of_one (Ok s) = refl
all_of_one (Err h) = refl

-- an assignment is a bundle of one
pub bundled_moves : (shapes : List Shape) (s : S.State) (target : source.Target) (right : source.Right)
    → comes_to [] (bundled shapes s ((target, right) ∷ []))
    ≡ and_moves (aimed (store_of shapes s) target) (λ to. and_moves (drawn shapes s right) (λ d. comes_to [] (given (allowed to d.number) (λ to. writes to d.number d.state))))
bundled_moves shapes s target right = by (aimed (store_of shapes s) target) (drawn shapes s right)
  where
    inner : (d : Drawn) (a : Result Place Halt)
        → comes_to [] (given (given a (λ to. given {A = Planned} {B = Planned} (Ok (record { writes = []; state = d.state })) (λ p. Ok (and_then_written to d.number p)))) (λ p. all_written p.writes p.state))
        ≡ comes_to [] (given a (λ to. writes to d.number d.state))
    inner d (Ok to) = all_of_one (writes to d.number d.state)
    inner d (Err h) = refl

    by : (r : Result Place Halt) (q : Result Drawn Halt)
        → comes_to [] (given (given r (λ to. given q (λ d. given (allowed to d.number) (λ to. given {A = Planned} {B = Planned} (Ok (record { writes = []; state = d.state })) (λ p. Ok (and_then_written to d.number p)))))) (λ p. all_written p.writes p.state))
        ≡ and_moves r (λ to. and_moves q (λ d. comes_to [] (given (allowed to d.number) (λ to. writes to d.number d.state))))
    by (Ok to) (Ok d) = inner d (allowed to d.number)
    by (Ok to) (Err h) = refl
    by (Err h) q = refl

-- what is drawn from a value
pub drawn_moves : (r : Result Value Halt) (g : Value → Drawn) (f : Drawn → Move Event S.State) → and_moves (given r (λ v. Ok (g v))) f ≡ and_moves r (λ v. f (g v))
drawn_moves (Ok v) g f = refl
drawn_moves (Err h) g f = refl

-- a conversion to a byte gives one
narrow_by : (r : Result Value Halt) (v : Value) → given r (λ w. plain (w.number % 256)) ≡ Ok v → v.number < 256
narrow_by (Ok w) v e =
    let same : w.number % 256 ≡ v.number = ap (λ (r : Result Value Halt). elim r [ Ok x ↦ x.number | Err h ↦ 0 ]) e in
    omega (arith, same)
narrow_by (Err h) v e = absurd cc

pub narrow_small : (s : Store) (e : source.Expr) (v : Value) → evaluated s e ≡ Ok v → is_narrow e ≡ true → v.number < 256
narrow_small s (source.Narrow e) v h n = narrow_by (evaluated s e) v h
narrow_small s e v h n = absurd cc

-- ---- statements

-- the functions of the core code
abbrev pub core_of : source.Program → List Function
core_of p = map function_code p.functions

-- in how many steps a statement is matched
abbrev pub most_of : source.Code → ℕ
most_of code = 14 * code_nodes code + 20

module _ (p : source.Program) (all : All (IsCompilableFunction p.functions) p.functions) (may : LongEvent → Type 0) (heap : (e : LongEvent) → IsQuiet e → may e) where
  abbrev core : List Function
  core = core_of p

  abbrev pub Meets : C.State → ℕ → Move Event S.State → Type 0
  Meets u most move = Matches p.functions core may heap u most move

  abbrev pub IsReady : S.State → List Work → Bool → List C.Caller → World → C.Rest → Values → Type 0
  IsReady s work looped ds world rest l = Ready p.functions core s work looped ds world rest l

  pub ready_below : (s : S.State) (work : List Work) (looped : Bool) (ds : List C.Caller) (world : World) (rest : C.Rest) (l after : Values)
      → IsReady s work looped ds world rest l → Below s.frame.function.locals after l → IsReady s work looped ds world rest after
  ready_below s work looped ds world rest l after r below = record {
    behind = r.behind;
    callers = r.callers;
    outside = r.outside;
    count = r.count;
    agree = λ x h. below x h ∙ r.agree x h;
    small = r.small;
  }

  module _ (s : S.State) (work : List Work) (looped : Bool) (ds : List C.Caller) (world : World) (rest : C.Rest) (l : Values) (r : IsReady s work looped ds world rest l) where
    abbrev t : ℕ
    t = s.frame.function.locals

    abbrev st : Store
    st = store_of p.shapes s

    abbrev here : Code → Values → C.State
    here code after = at ds world code rest after

    abbrev IsGood : source.Code → Type 0
    IsGood code = Stands p.functions t looped (length work) code

    sees : Sees t st world.memory
    sees = record { next = s.next; same = r.outside.memory; small = λ x h. r.small x }

    -- a statement that evaluates an expression into a temporary first
    pub uses_at : (u : ℕ) (e : source.Expr) (more : Code) (n k : ℕ) (f : Value → Move Event S.State) → t ≤ u → IsCompilableExpr t e → operand_steps e u + n ≤ k
        → ((v : Value) (after : Values) → evaluated st e ≡ Ok v → IsReady s work looped ds world rest after → Below u after l → value_of after world.memory (operand e u) ≡ Some v.number → v.number < 2 ^ 32
        → Meets (here more after) n (f v))
        → Meets (here (operand_code e u more) l) k (and_moves (evaluated st e) f)
    uses_at u e more n k f le h few next =
        then_matched p.functions core may heap (operand_steps e u) n k (here (operand_code e u more) l) (evaluated st e) f
        (λ v w. (after : Values) × (w ≡ here more after) × Held core ds world (operand e u) u l v after) few
        (operand_comes core ds world t st sees e u more rest l le h r.agree)
        (λ v w is q. subst (λ w. Meets w n (f v)) (sym q.1)
        (next v q.0 is (ready_below s work looped ds world rest l q.0 r (λ x less. q.2.0 x (omega arith))) q.2.0 (q.2.1 q.0 (λ x less. refl)) q.2.2))

    pub uses : (e : source.Expr) (more : Code) (n k : ℕ) (f : Value → Move Event S.State) → IsCompilableExpr t e → operand_steps e t + n ≤ k
        → ((v : Value) (after : Values) → IsReady s work looped ds world rest after → value_of after world.memory (operand e t) ≡ Some v.number → Meets (here more after) n (f v))
        → Meets (here (operand_code e t more) l) k (and_moves (evaluated st e) f)
    uses e more n k f h few next = uses_at t e more n k f (omega arith) h few (λ v after is ready below value word. next v after ready value)

    -- a statement that finds the place of its target first
    pub aims : (target : source.Target) (more : Code) (n k : ℕ) (f : Place → Move Event S.State) → IsCompilableTarget t target → aim_steps target t + n ≤ k
        → ((to : Place) (after : Values) → aimed st target ≡ Ok to → IsReady s work looped ds world rest after → IsAt core ds world target t after to → Meets (here more after) n (f to))
        → Meets (here (aim_code target t more) l) k (and_moves (aimed st target) f)
    aims target more n k f h few next =
        then_matched p.functions core may heap (aim_steps target t) n k (here (aim_code target t more) l) (aimed st target) f
        (λ to w. (after : Values) × (w ≡ here more after) × Aimed core ds world target t l to after) few
        (aim_comes core ds world t st sees target t more rest l (omega arith) h r.agree)
        (λ to w is q. subst (λ w. Meets w n (f to)) (sym q.1) (next to q.0 is (ready_below s work looped ds world rest l q.0 r q.2.0) q.2.1))

    pub assigns_nothing : (e : source.Expr) (code : source.Code) (k : ℕ) → IsCompilableExpr t e → IsGood code → 14 * expr_nodes e + 4 ≤ k
        → Meets (here (expr_code e t (statements t code)) l) k
        (and_moves (evaluated st e) (λ v. comes_to [] (writes place.Nowhere v.number (at_work s (Rest code ∷ work)))))
    assigns_nothing e code k he good few =
        let more = statements t code in
        then_comes_to p.functions core may heap 1 0 (expr_steps e) 0 k (here (expr_code e t more) l) (evaluated st e)
        (λ v. writes place.Nowhere v.number (at_work s (Rest code ∷ work)))
        (λ v u. (after : Values) × (u ≡ here more after) × X.Put core ds world t l v after)
        (omega arith) (omega arith)
        (expr_comes core ds world t st sees e t more rest l (omega arith) he r.agree)
        (λ v w is q. subst (λ w. Written p.functions core may heap 0 0 w (writes place.Nowhere v.number (at_work s (Rest code ∷ work)))) (sym q.1) (
          0,
          here more q.0,
          omega arith,
          omega arith,
          no_path core may (here more q.0),
          same_state p.functions core s work looped ds world rest q.0 code (ready_below s work looped ds world rest l q.0 r q.2.0) good,
        ))

    -- a value that comes with events is written
    pub event_written : (c : ℕ) (s2 : S.State) (world2 : World) (u : C.State) (events : List Event) (target : source.Target) (to : Place) (code : source.Code) (is_byte : Bool) (e : Expr) (n k : ℕ) (after : Values)
        → (allowed to n ≡ Ok to → Permits may to n) → 1 ≤ c + least_of target → c + (write_steps target t + nodes e) ≤ k → s2.frame.function.locals ≡ t
        → Ready p.functions core s2 work looped ds world2 rest after → Stands p.functions s2.frame.function.locals looped (length work) code → IsCompilableTarget s2.frame.function.locals target
        → IsAt core ds world2 target t after to → value_of after world2.memory e ≡ Some n → n < 2 ^ 32 → (is_byte ≡ true → n < 256)
        → Path core may c events u (at ds world2 (written target t is_byte e (statements s2.frame.function.locals code)) rest after)
        → Meets u k (comes_to events (writes_allowed to n (at_work s2 (Rest code ∷ work))))
    event_written c s2 world2 u events target to code is_byte e n k after permit one few same ready good ht is v small b path =
        let s3 = at_work s2 (Rest code ∷ work) in
        let w = at ds world2 (written target t is_byte e (statements s2.frame.function.locals code)) rest after in
        then_written p.functions core may heap c (least_of target) (write_steps target t + nodes e) k events u w (writes_allowed to n s3) few one path
        (writes_same p.functions core may heap s2 work looped ds world2 rest after code target t to is_byte e n permit ready good (omega arith) ht is v small b)

    -- ---- input and output

    get_step : (x : ℕ) (more : Code) (input : List ℕ) → world.input ≡ input → core_step core (here (Get x more) l) ≡ goes_by (here (Get x more) l) more (gets_from world.memory x input)
    unfolding core_step
    get_step x more input e = ap (λ i. goes_by (here (Get x more) l) more (gets_from world.memory x i)) e

    ready_got : (u v : ℕ) (input : List ℕ) → t ≤ u → AreBytes input
        → Ready p.functions core (record s { input = input }) work looped ds (record { memory = world.memory; input = input }) rest (with_written l u v)
    ready_got u v input le bytes = record {
      behind = r.behind;
      callers = r.callers;
      outside = record { memory = r.outside.memory; input = refl; bytes = bytes };
      count = r.count;
      agree = λ x h. written_below l u v x (omega arith) ∙ r.agree x h;
      small = r.small;
    }

    plain_may : (event : Event) → All may (Plain event ∷ [])
    plain_may event = All-cons may (Plain event) [] (heap (Plain event) tt) (All-nil may)

    pub get_meets : (target : source.Target) (to : Place) (code : source.Code) (k : ℕ) → IsCompilableTarget t target → IsAt core ds world target t l to → IsGood code → 2 + write_steps target t ≤ k
        → (input : List ℕ) → s.input ≡ input → Permits may to (next_byte input)
        → Meets (here (Get (t + target_count target) (written target t false (Local (t + target_count target)) (statements t code))) l) k (gets (at_work s (Rest code ∷ work)) to input)
    get_meets target to code k ht is good few [] e permit =
        let u = t + target_count target in
        let more = written target t false (Local u) (statements t code) in
        let v = 2 ^ 32 - 1 in
        let world2 : World = record { memory = world.memory; input = [] } in
        let path = path_by core may (Plain (Got None) ∷ []) (here (Get u more) l) (at ds world2 more rest (with_written l u v)) (get_step u more [] (sym r.outside.input ∙ e)) (plain_may (Got None)) refl in
        subst (λ (input : List ℕ). Meets (here (Get u more) l) k (comes_to (Got None ∷ []) (writes_allowed to v (record (at_work s (Rest code ∷ work)) { input = input })))) (sym e)
        (event_written 1 (record s { input = [] }) world2 (here (Get u more) l) (Got None ∷ []) target to code false (Local u) v k (with_written l u v) (λ ok. permit) (omega arith) (omega arith) refl
        (ready_got u v [] (omega arith) tt) good ht (at_later core ds world target t l (with_written l u v) to is (λ x less. written_below l u v x less)) (written_same l u v) (omega arith) (λ h. absurd cc) path)
    get_meets target to code k ht is good few (b ∷ input) e permit =
        let u = t + target_count target in
        let more = written target t false (Local u) (statements t code) in
        let world2 : World = record { memory = world.memory; input = input } in
        let bytes : AreBytes (b ∷ input) = subst AreBytes e r.outside.bytes in
        let path = path_by core may (Plain (Got (Some b)) ∷ []) (here (Get u more) l) (at ds world2 more rest (with_written l u b)) (get_step u more (b ∷ input) (sym r.outside.input ∙ e)) (plain_may (Got (Some b))) refl in
        event_written 1 (record s { input = input }) world2 (here (Get u more) l) (Got (Some b) ∷ []) target to code false (Local u) b k (with_written l u b) (λ ok. permit) (omega arith) (omega arith) refl
        (ready_got u b input (omega arith) bytes.1) good ht (at_later core ds world target t l (with_written l u b) to is (λ x less. written_below l u b x less)) (written_same l u b) (omega (arith, bytes.0)) (λ h. absurd cc) path

    put_step : (e : Expr) (more : Code) (after : Values) (v : ℕ) → value_of after world.memory e ≡ Some v
        → core_step core (here (Put e more) after) ≡ Goes (Plain (Puts (v % 256)) ∷ []) (here more after)
    unfolding core_step
    put_step e more after v h = ap (λ o. goes_by (here (Put e more) after) more (with_value o (actions.puts world))) h

    pub put_meets : (target : source.Target) (to : Place) (e : source.Expr) (code : source.Code) (k : ℕ) → IsCompilableTarget t target → IsAt core ds world target t l to → IsCompilableExpr t e → IsGood code
        → 14 * expr_nodes e + 3 + write_steps target t ≤ k → ((v : Value) → evaluated st e ≡ Ok v → Permits may to (v.number % 256))
        → Meets (here (operand_used e (t + target_count target) (λ value. Put value (written target t true (low_byte value) (statements t code)))) l) k
        (and_moves (evaluated st e) (λ v. puts (at_work s (Rest code ∷ work)) to v.number))
    put_meets target to e code k ht is he good few permit =
        let u = t + target_count target in
        let q = operand e u in
        let more = written target t true (low_byte q) (statements t code) in
        uses_at u e (Put q more) (nodes q + 1 + (write_steps target t + (nodes q + 2))) k (λ v. puts (at_work s (Rest code ∷ work)) to v.number) (omega arith) he (omega (arith, operand_nodes e u))
        (λ v after eq ready below value word.
        event_written (nodes q + 1) s world (here (Put q more) after) (Puts (v.number % 256) ∷ []) target to code true (low_byte q) (v.number % 256) (nodes q + 1 + (write_steps target t + (nodes q + 2))) after (λ ok. permit v eq) (omega arith) (omega arith) refl
        ready good ht (at_later core ds world target t l after to is below) (low_value after world.memory q v.number value) (omega arith) (λ h. omega arith)
        (path_by core may (Plain (Puts (v.number % 256)) ∷ []) (here (Put q more) after) (here more after) (put_step q more after v.number value) (plain_may (Puts (v.number % 256))) refl))

    -- ---- branches and loops

    branch : (c most : ℕ) (u : C.State) (one two code : source.Code) (after : Values) → IsReady s work looped ds world rest after → 1 ≤ c → c ≤ most
        → Stands p.functions t looped (suc (length work)) one → Stands p.functions t looped (suc (length work)) two → IsGood code → (z : Bool)
        → Quiet core c u (at ds world (if z then statements t two else statements t one) (Next (statements t code) rest) after)
        → Meets u most (Goes [] (at_work s (Rest (if z then two else one) ∷ Rest code ∷ work)))
    branch c most u one two code after ready some few good_one good_two good z path =
        by z path
      where
        inner : IsReady s (Rest code ∷ work) looped ds world (Next (statements t code) rest) after
        inner = record {
          behind = (refl, good, ready.behind);
          callers = ready.callers;
          outside = ready.outside;
          count = ready.count;
          agree = ready.agree;
          small = ready.small;
        }

        by : (z : Bool) → Quiet core c u (at ds world (if z then statements t two else statements t one) (Next (statements t code) rest) after)
            → Meets u most (Goes [] (at_work s (Rest (if z then two else one) ∷ Rest code ∷ work)))
        by true path = lands p.functions core may heap c most [] u (at ds world (statements t two) (Next (statements t code) rest) after) (at_work s (Rest two ∷ Rest code ∷ work)) some few
            (quiet p.functions core may heap c u (at ds world (statements t two) (Next (statements t code) rest) after) path)
            (same_state p.functions core s (Rest code ∷ work) looped ds world (Next (statements t code) rest) after two inner good_two)
        by false path = lands p.functions core may heap c most [] u (at ds world (statements t one) (Next (statements t code) rest) after) (at_work s (Rest one ∷ Rest code ∷ work)) some few
            (quiet p.functions core may heap c u (at ds world (statements t one) (Next (statements t code) rest) after) path)
            (same_state p.functions core s (Rest code ∷ work) looped ds world (Next (statements t code) rest) after one inner good_one)

    pub if_meets : (e : source.Expr) (one two code : source.Code) (k : ℕ) → IsCompilableExpr t e → Stands p.functions t looped (suc (length work)) one → Stands p.functions t looped (suc (length work)) two → IsGood code
        → 14 * expr_nodes e + 2 ≤ k
        → Meets (here (operand_code e t (If (operand e t) (statements t one) (statements t two) (statements t code))) l) k
        (and_moves (evaluated st e) (λ v. Goes [] (at_work s (Rest (if v.number == 0 then two else one) ∷ Rest code ∷ work))))
    if_meets e one two code k he good_one good_two good few =
        let q = operand e t in
        let more = If q (statements t one) (statements t two) (statements t code) in
        uses e more (nodes q + 1) k (λ v. Goes [] (at_work s (Rest (if v.number == 0 then two else one) ∷ Rest code ∷ work))) he (omega (arith, operand_nodes e t))
        (λ v after ready value. branch (nodes q + 1) (nodes q + 1) (here more after) one two code after ready (omega arith) (omega arith) good_one good_two good (v.number == 0)
        (by_if core ds world q (statements t one) (statements t two) (statements t code) rest after v.number value))

    -- ---- checks

    pub check_meets : (place : Pos) (e : source.Expr) (code : source.Code) (k : ℕ) → IsCompilableExpr t e → IsGood code → 14 * expr_nodes e + 2 ≤ k
        → Meets (here (operand_code e t (Check check.Dynamic place (operand e t) (statements t code))) l) k
        (and_moves (evaluated st e) (λ v. if v.number == 0 then Halts [] (standing.Stopped check.Dynamic place) else Goes [] (at_work s (Rest code ∷ work))))
    check_meets place e code k he good few =
        let q = operand e t in
        uses e (Check check.Dynamic place q (statements t code)) (nodes q + 1) k (λ v. if v.number == 0 then Halts [] (standing.Stopped check.Dynamic place) else Goes [] (at_work s (Rest code ∷ work))) he
        (omega (arith, operand_nodes e t))
        (λ v after ready value. by v.number after ready value (v.number == 0) refl)
      where
        by : (n : ℕ) (after : Values) → IsReady s work looped ds world rest after → value_of after world.memory (operand e t) ≡ Some n → (z : Bool) → (n == 0) ≡ z
            → Meets (here (Check check.Dynamic place (operand e t) (statements t code)) after) (nodes (operand e t) + 1) (if z then Halts [] (standing.Stopped check.Dynamic place) else Goes [] (at_work s (Rest code ∷ work)))
        by n after ready value true z =
            let u = here (Check check.Dynamic place (operand e t) (statements t code)) after in
            let how = standing.Stopped check.Dynamic place in
            inr (nodes (operand e t) + 1, omega arith, tt, looser_ends core IsQuiet may heap (nodes (operand e t) + 1) [] u how (by_fail core ds world check.Dynamic place (operand e t) (statements t code) rest after n value z))
        by n after ready value false z =
            let u = here (Check check.Dynamic place (operand e t) (statements t code)) after in
            let w = here (statements t code) after in
            lands p.functions core may heap (nodes (operand e t) + 1) (nodes (operand e t) + 1) [] u w (at_work s (Rest code ∷ work)) (omega arith) (omega arith)
            (quiet p.functions core may heap (nodes (operand e t) + 1) u w (by_pass core ds world check.Dynamic place (operand e t) (statements t code) rest after n value z))
            (same_state p.functions core s work looped ds world rest after code ready good)

    -- ---- returns and calls

    return_step : (e : Expr) (more : Code) (after : Values) (v : ℕ) → value_of after world.memory e ≡ Some v
        → core_step core (here (Return e more) after) ≡ C.returns (here (Return e more) after) ds v
    unfolding core_step
    return_step e more after v h = ap (returns_value (here (Return e more) after)) h

    pub return_meets : (e : source.Expr) (more : Code) (k : ℕ) → IsCompilableExpr t e → 14 * expr_nodes e + 9 ≤ k
        → Meets (here (operand_code e t (Return (operand e t) more)) l) k (and_moves (evaluated st e) (λ v. returns p.shapes s s.callers v.number))
    return_meets e more k he few =
        let q = operand e t in
        uses_at t e (Return q more) (nodes q + 9) k (λ v. returns p.shapes s s.callers v.number) (omega arith) he (omega (arith, operand_nodes e t))
        (λ v after is ready below value word.
        returned p.functions all may heap p.shapes s (here (Return q more) after) s.callers ds v.number (nodes q + 9) ready.callers ready.outside word
        (return_step q more after v.number value) (omega arith))

    call_step : (target : Option ℕ) (callee : ℕ) (es : List Expr) (place : Pos) (next : Code) (after : Values) (vs : List ℕ) → C.values_of after world.memory es ≡ Some vs
        → core_step core (here (Call target callee es place next) after) ≡ C.calls core (here (Call target callee es place next) after) next target callee place (Some vs)
    unfolding core_step
    call_step target callee es place next after vs h = ap (C.calls core (here (Call target callee es place next) after) next target callee place) h

    pub call_meets : (target : Option Kept) (callee : ℕ) (es : List source.Expr) (place : Pos) (code : source.Code) (k : ℕ) → IfSome target (IsCompilableKept t) → HasParams (length es) (slice_get p.functions callee)
        → All (IsCompilablePart t) es → IsGood code → 14 * exprs_nodes es + 1 ≤ k
        → Meets (here (operands_code es t (Call (result_in target t) callee (operands es t) place (result_kept target t (statements t code)))) l) k
        (and_moves (all_evaluated st es) (calls p (at_work s (Rest code ∷ work)) target callee place))
    call_meets target callee es place code k ht hp he good few =
        let next = result_kept target t (statements t code) in
        let now = Call (result_in target t) callee (operands es t) place next in
        let n = all_nodes (operands es t) + length (operands es t) + 1 in
        let s1 = at_work s (Rest code ∷ work) in
        then_matched p.functions core may heap (operands_steps es t) n k (here (operands_code es t now) l) (all_evaluated st es)
        (calls p s1 target callee place)
        (λ vs u. (after : Values) × (u ≡ here now after) × AllHeld core ds world t st sees es t l vs after)
        (omega (arith, operands_nodes es t, operands_count es t))
        (operands_comes core ds world t st sees es t now rest l (omega arith) he r.agree)
        (λ vs w is q.
        let ready = ready_below s work looped ds world rest l q.0 r q.2.0 in
        subst (λ w. Meets w n (calls p s1 target callee place vs)) (sym q.1)
        (called p.functions all may heap p.shapes s1 ds world now next rest q.0 target vs n (length es) callee place hp q.2.2 q.2.3 ready.callers
        (record { memory = ready.outside.memory; input = ready.outside.input; bytes = ready.outside.bytes })
        (record {
          frame = record {
            code = code;
            work = work;
            looped = looped;
            next = refl;
            stands = good;
            begins = refl;
            behind = ready.behind;
            count = ready.count;
            agree = ready.agree;
            small = ready.small;
          };
          target = refl;
          keeps = ht;
        }) (omega arith)
        (call_step (result_in target t) callee (operands es t) place next q.0 vs (q.2.1 q.0 (λ x less. refl)))))
