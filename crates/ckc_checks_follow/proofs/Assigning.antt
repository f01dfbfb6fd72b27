-- Statements with a target: its place is found, and then the value.
use Rattle.std.proofs.Common.{◌≡◌, ℕ, ◌+◌, ◌*◌, ◌%◌, ◌≤◌, List, [], ◌∷◌, length, refl, sym, ◌∙◌, ap, subst, arith}
use Rattle.std.specs.Prelude.{Bool, true, false, Result, Ok, All}
use Rattle.ckc_base.specs.Traces.{Event}
use Rattle.ckc_base.specs.LongEvents.{LongEvent}
use Rattle.ckc_base.specs.Steps.{Move}
use Rattle.ckc_base.specs.Actions.{World}
use Rattle.ckc_base.specs.Activations.{Values}
use Rattle.ckc_source.specs.declared.outcome.Halt.{Halt}
use Rattle.ckc_source.specs.declared.outcome.Value.{Value}
use Rattle.ckc_source.specs.declared.program.Shape.{Shape}
use Rattle.ckc_source.specs.declared.outcome.Place.{Place}
use Rattle.ckc_source.specs.declared.outcome.Place.TheVariants as place
use Rattle.ckc_source.specs.Code as source
use Rattle.ckc_source.specs.Eval.{Store, given, evaluated}
use Rattle.ckc_source.specs.States.{Work, Rest}
use Rattle.ckc_source.specs.States as S
use Rattle.ckc_source.specs.Steps.{store_of, aimed, allowed, writes, Write, Drawn, drawn, Planned, and_then_written, planned, bundled, at_work, and_moves, comes_to, gets, puts}
use Rattle.ckc_core.specs.Code.{Local, Code, Get, Put, Function}
use Rattle.ckc_core.specs.Meaning.{nodes}
use Rattle.ckc_core.specs.Meaning as C
use Rattle.ckc_checks_operands.specs.Compilable.{target_nodes, expr_nodes, IsCompilableExpr, IsCompilableTarget, IsCompilableFunction}
use Rattle.ckc_checks_operands.specs.code.Operands.{low_byte, operand}
use Rattle.ckc_checks_follow.specs.code.Inserted.{operand_used, operand_code, aim_code, target_count, is_narrow, written, assigned, statements}
use Rattle.ckc_checks_follow.specs.Stores.{next_byte}
use Rattle.ckc_checks_follow.proofs.Paths.{IsQuiet, no_path}
use Rattle.ckc_checks_follow.proofs.Running.{at}
use Rattle.ckc_checks_follow.proofs.Counts.{operand_nodes, found_few}
use Rattle.ckc_checks_follow.proofs.Guarding.{guard_few}
use Rattle.ckc_checks_follow.proofs.Aiming.{IsAt, aim_steps, at_later}
use Rattle.ckc_checks_follow.proofs.Relation.{Stands}
use Rattle.ckc_checks_follow.proofs.Writing.{Permits, PermitsPlan, least_of, write_steps}
use Rattle.ckc_checks_follow.proofs.Acting.{core_of, Meets, IsReady, uses_at, aims, bundled_moves, drawn_moves, narrow_small, assigns_nothing, event_written, get_meets, put_meets}

pub aim_write_steps : (target : source.Target) (t : ℕ) → aim_steps target t + write_steps target t ≤ 14 * target_nodes target + 10
aim_write_steps source.Nothing t = omega arith
aim_write_steps (source.Variable x width) t = omega arith
aim_write_steps (source.Memory width access p i) t = omega (arith, found_few access p i t, guard_few access.through p t)

-- what one assignment plans
one_planned : (shapes : List Shape) (s : S.State) (target : source.Target) (e : source.Expr) (to : Place) (v : Value) → aimed (store_of shapes s) target ≡ Ok to
    → evaluated (store_of shapes s) e ≡ Ok v → allowed to v.number ≡ Ok to
    → given (planned shapes s ((target, source.Value e) ∷ [])) (λ plan. Ok plan.writes) ≡ Ok ((to, v.number) ∷ [])
one_planned shapes s target e to v h g k =
    ap (λ (r : Result Place Halt). given (given r (λ to. given (given (evaluated (store_of shapes s) e) draw) (inner to))) written_in) h
    ∙ ap (λ (r : Result Value Halt). given (given (given r draw) (inner to)) written_in) g
    ∙ ap (λ (r : Result Place Halt). given (given r (λ to. last to v.number s)) written_in) k
  where
    written_in : Planned → Result (List Write) Halt
    written_in plan = Ok plan.writes

    draw : Value → Result Drawn Halt
    draw v = Ok (record { number = v.number; state = s })

    last : Place → ℕ → S.State → Result Planned Halt
    last to n s = Ok (and_then_written to n (record { writes = []; state = s }))

    inner : Place → Drawn → Result Planned Halt
    inner to d = given (allowed to d.number) (λ to. last to d.number d.state)

module _ (p : source.Program) (all : All (IsCompilableFunction p.functions) p.functions) (may : LongEvent → Type 0) (heap : (e : LongEvent) → IsQuiet e → may e)
    (s : S.State) (work : List Work) (looped : Bool) (ds : List C.Caller) (world : World) (rest : C.Rest) where
  abbrev core : List Function
  core = core_of p

  abbrev t : ℕ
  t = s.frame.function.locals

  abbrev st : Store
  st = store_of p.shapes s

  abbrev here : Code → Values → C.State
  here code after = at ds world code rest after

  abbrev IsGood : source.Code → Type 0
  IsGood code = Stands p.functions t looped (length work) code

  abbrev IsReadyAt : Values → Type 0
  IsReadyAt l = IsReady p all may heap s work looped ds world rest l

  abbrev Meeting : C.State → ℕ → Move Event S.State → Type 0
  Meeting u k move = Meets p all may heap u k move

  abbrev after_code : source.Code → S.State
  after_code code = at_work s (Rest code ∷ work)

  -- what comes of a value that is drawn
  abbrev ends_in : Place → Drawn → Move Event S.State
  ends_in to d = comes_to [] (given (allowed to d.number) (λ to. writes to d.number d.state))

  -- what an assignment plans may be stored
  abbrev pub IsPermitted : source.Target → source.Code → source.Right → Type 0
  IsPermitted target code right = PermitsPlan may (given (planned p.shapes (after_code code) ((target, right) ∷ [])) (λ plan. Ok plan.writes))

  -- ---- values

  value_meets : (target : source.Target) (to : Place) (e : source.Expr) (code : source.Code) (k : ℕ) (l : Values) → IsReadyAt l → IsCompilableTarget t target → IsAt core ds world target t l to
      → IsCompilableExpr t e → IsGood code → 1 ≤ least_of target → 14 * expr_nodes e + write_steps target t ≤ k → ((v : Value) → evaluated st e ≡ Ok v → allowed to v.number ≡ Ok to → Permits may to v.number)
      → Meeting (here (operand_code e (t + target_count target) (written target t (is_narrow e) (operand e (t + target_count target)) (statements t code))) l) k
      (and_moves (drawn p.shapes (after_code code) (source.Value e)) (ends_in to))
  value_meets target to e code k l r ht is he good one few permit =
      let u = t + target_count target in
      let q = operand e u in
      let more = written target t (is_narrow e) q (statements t code) in
      let s1 = after_code code in
      subst (Meeting (here (operand_code e u more) l) k) (sym (drawn_moves (evaluated st e) (λ v. record { number = v.number; state = s1 }) (ends_in to)))
      (uses_at p all may heap s work looped ds world rest l r u e more (write_steps target t + nodes q) k (λ v. ends_in to (record { number = v.number; state = s1 })) (omega arith) he (omega (arith, operand_nodes e u))
      (λ v after eq ready below value word.
      event_written p all may heap s work looped ds world rest l r 0 s world (here more after) [] target to code (is_narrow e) q v.number (write_steps target t + nodes q) after (permit v eq) (omega arith) (omega arith) refl
      ready good ht (at_later core ds world target t l after to is below) value word (λ n. narrow_small st e v eq n) (no_path core may (here more after))))

  assigned_meets : (target : source.Target) (e : source.Expr) (code : source.Code) (k : ℕ) (l : Values) → IsReadyAt l → IsCompilableTarget t target
      → IsCompilableExpr t e → IsGood code → 1 ≤ least_of target → 14 * (target_nodes target + expr_nodes e) + 10 ≤ k → IsPermitted target code (source.Value e)
      → Meeting (here (aim_code target t (operand_used e (t + target_count target) (λ value. written target t (is_narrow e) value (statements t code)))) l) k
      (and_moves (aimed st target) (λ to. and_moves (drawn p.shapes (after_code code) (source.Value e)) (ends_in to)))
  assigned_meets target e code k l r ht he good one few permits =
      let u = t + target_count target in
      aims p all may heap s work looped ds world rest l r target (operand_code e u (written target t (is_narrow e) (operand e u) (statements t code))) (14 * expr_nodes e + write_steps target t) k
      (λ to. and_moves (drawn p.shapes (after_code code) (source.Value e)) (ends_in to)) ht (omega (arith, aim_write_steps target t))
      (λ to after found ready is. value_meets target to e code (14 * expr_nodes e + write_steps target t) after ready ht is he good one (omega arith)
      (λ v value ok. let own = subst (PermitsPlan may) (one_planned p.shapes (after_code code) target e to v found value ok) permits in own.0))

  pub assign_meets : (target : source.Target) (e : source.Expr) (code : source.Code) (k : ℕ) (l : Values) → IsReadyAt l → IsCompilableTarget t target → IsCompilableExpr t e → IsGood code
      → 14 * (target_nodes target + expr_nodes e) + 10 ≤ k → IsPermitted target code (source.Value e)
      → Meeting (here (assigned target e t (statements t code)) l) k (comes_to [] (bundled p.shapes (after_code code) ((target, source.Value e) ∷ [])))
  assign_meets source.Nothing e code k l r ht he good few permits =
      let s1 = after_code code in
      subst (Meeting (here (assigned source.Nothing e t (statements t code)) l) k) (sym (bundled_moves p.shapes s1 source.Nothing (source.Value e)))
      (subst (Meeting (here (assigned source.Nothing e t (statements t code)) l) k) (sym (drawn_moves (evaluated st e) (λ v. record { number = v.number; state = s1 }) (ends_in place.Nowhere)))
      (assigns_nothing p all may heap s work looped ds world rest l r e code k he good (omega arith)))
  assign_meets (source.Variable x width) e code k l r ht he good few permits =
      subst (Meeting (here (assigned (source.Variable x width) e t (statements t code)) l) k) (sym (bundled_moves p.shapes (after_code code) (source.Variable x width) (source.Value e)))
      (assigned_meets (source.Variable x width) e code k l r ht he good (omega arith) few permits)
  assign_meets (source.Memory width access a i) e code k l r ht he good few permits =
      subst (Meeting (here (assigned (source.Memory width access a i) e t (statements t code)) l) k) (sym (bundled_moves p.shapes (after_code code) (source.Memory width access a i) (source.Value e)))
      (assigned_meets (source.Memory width access a i) e code k l r ht he good (omega arith) few permits)

  -- ---- input and output

  pub get_target_meets : (target : source.Target) (code : source.Code) (k : ℕ) (l : Values) → IsReadyAt l → IsCompilableTarget t target → IsGood code → 14 * target_nodes target + 20 ≤ k
      → PermitsPlan may (given (aimed st target) (λ to. Ok ((to, next_byte s.input) ∷ [])))
      → Meeting (here (aim_code target t (Get (t + target_count target) (written target t false (Local (t + target_count target)) (statements t code)))) l) k
      (and_moves (aimed st target) (λ to. gets (after_code code) to s.input))
  get_target_meets target code k l r ht good few permits =
      aims p all may heap s work looped ds world rest l r target (Get (t + target_count target) (written target t false (Local (t + target_count target)) (statements t code))) (2 + write_steps target t) k
      (λ to. gets (after_code code) to s.input) ht (omega (arith, aim_write_steps target t))
      (λ to after found ready is. get_meets p all may heap s work looped ds world rest after ready target to code (2 + write_steps target t) ht is good (omega arith) s.input refl
      (let own = subst (λ (r : Result Place Halt). PermitsPlan may (given r (λ to. Ok ((to, next_byte s.input) ∷ [])))) found permits in own.0))

  pub put_target_meets : (target : source.Target) (e : source.Expr) (code : source.Code) (k : ℕ) (l : Values) → IsReadyAt l → IsCompilableTarget t target → IsCompilableExpr t e → IsGood code
      → 14 * (target_nodes target + expr_nodes e) + 20 ≤ k
      → PermitsPlan may (given (aimed st target) (λ to. given (evaluated st e) (λ v. Ok ((to, v.number % 256) ∷ []))))
      → Meeting (here (aim_code target t (operand_used e (t + target_count target) (λ value. Put value (written target t true (low_byte value) (statements t code))))) l) k
      (and_moves (aimed st target) (λ to. and_moves (evaluated st e) (λ v. puts (after_code code) to v.number)))
  put_target_meets target e code k l r ht he good few permits =
      aims p all may heap s work looped ds world rest l r target (operand_used e (t + target_count target) (λ value. Put value (written target t true (low_byte value) (statements t code)))) (14 * expr_nodes e + 3 + write_steps target t) k
      (λ to. and_moves (evaluated st e) (λ v. puts (after_code code) to v.number)) ht (omega (arith, aim_write_steps target t))
      (λ to after found ready is. put_meets p all may heap s work looped ds world rest after ready target to e code (14 * expr_nodes e + 3 + write_steps target t) ht is he good (omega arith)
      (λ v value.
      let place = subst (λ (r : Result Place Halt). PermitsPlan may (given r (λ to. given (evaluated st e) (λ v. Ok ((to, v.number % 256) ∷ []))))) found permits in
      let own = subst (λ (r : Result Value Halt). PermitsPlan may (given r (λ v. Ok ((to, v.number % 256) ∷ [])))) value place in
      own.0))
