-- Each step of the source is matched by its core code.
use Rattle.std.proofs.Common.{◌≡◌, inl, ℕ, ◌+◌, ◌*◌, ◌≤◌, ◌==◌, List, [], ◌∷◌, length, refl, subst, arith}
use Rattle.std.specs.Prelude.{Bool, true, false, if◌then◌else◌, Result, Ok, All}
use Rattle.std.proofs.lemmas.List.Elements.{All-nil, All-cons}
use Rattle.ckc_base.specs.LongEvents.{LongEvent}
use Rattle.ckc_base.specs.Steps.{Goes}
use Rattle.ckc_base.specs.Actions.{World}
use Rattle.ckc_base.specs.Activations.{Values}
use Rattle.ckc_source.specs.declared.outcome.Halt.{Halt}
use Rattle.ckc_source.specs.declared.stmt.Spot.{Spot}
use Rattle.ckc_source.specs.Code as source
use Rattle.ckc_source.specs.Eval.{Store, given, evaluated}
use Rattle.ckc_source.specs.States.{Work, Rest, Turn}
use Rattle.ckc_source.specs.States as S
use Rattle.ckc_source.specs.Steps.{store_of, Planned, planned, at_work, and_moves, acts}
use Rattle.ckc_core.specs.Code.{Code, End, If, Break, Loop}
use Rattle.ckc_core.specs.Meaning.{Next, Body, nodes, core_step}
use Rattle.ckc_core.specs.Meaning as C
use Rattle.ckc_checks_operands.specs.Compilable.{IsCompilableAssign, IsCompilableFunction, expr_nodes}
use Rattle.ckc_checks_operands.specs.code.Operands.{operand}
use Rattle.ckc_checks_follow.specs.code.Inserted.{statements}
use Rattle.ckc_checks_follow.specs.Stores.{plans}
use Rattle.ckc_checks_follow.proofs.Paths.{Quiet, then_quiet, quiet_by, IsQuiet}
use Rattle.ckc_checks_follow.proofs.Running.{at, by_if, by_end, by_loop}
use Rattle.ckc_checks_follow.proofs.Counts.{operand_nodes}
use Rattle.ckc_checks_follow.proofs.Relation.{turn_code, Stands}
use Rattle.ckc_checks_follow.proofs.Writing.{PermitsAll, PermitsPlan, same_state, quiet, lands, first_matched}
use Rattle.ckc_checks_follow.proofs.Acting.{core_of, Meets, IsReady, most_of, uses, call_meets, if_meets, check_meets, return_meets}
use Rattle.ckc_checks_follow.proofs.Bundling.{bundle_meets}
use Rattle.ckc_checks_follow.proofs.Assigning.{assign_meets, get_target_meets, put_target_meets}

-- what a bundle plans may be stored
bundle_permits : (may : LongEvent → Type 0) (r : Result Planned Halt) → PermitsPlan may (given r (λ plan. Ok plan.writes)) → (plan : Planned) → r ≡ Ok plan → PermitsAll may plan.writes
bundle_permits may r h plan e = subst (λ (r : Result Planned Halt). PermitsPlan may (given r (λ plan. Ok plan.writes))) e h

module _ (p : source.Program) (all : All (IsCompilableFunction p.functions) p.functions) (may : LongEvent → Type 0) (heap : (e : LongEvent) → IsQuiet e → may e) where
  module _ (s : S.State) (work : List Work) (looped : Bool) (ds : List C.Caller) (world : World) where
    abbrev t : ℕ
    t = s.frame.function.locals

    abbrev st : Store
    st = store_of p.shapes s

    break_step : (next : Code) (b s' r : Code) (after : C.Rest) (l : Values)
        → Quiet (core_of p) 1 (at ds world (Break End) (Next next (Body b s' r after)) l) (at ds world r after l)
    unfolding core_step
    break_step next b s' r after l =
        quiet_by (core_of p) (at ds world (Break End) (Next next (Body b s' r after)) l) (at ds world r after l) refl refl

    -- a turn of a loop begins, or the loop is left
    pub turn_meets : (spot : Spot) (e : source.Expr) (body step code : source.Code) (after : C.Rest) (l : Values) (k : ℕ)
        → IsReady p all may heap s work looped ds world after l
        → Stands p.functions t looped (length work) (source.Loop spot e body step code) → 14 * expr_nodes e + 3 ≤ k
        → Meets p all may heap (at ds world (turn_code t e body) (Body (turn_code t e body) (statements t step) (statements t code) after) l) k
        (and_moves (evaluated st e) (λ v. Goes [] (at_work s (if v.number == 0 then Rest code ∷ work else Rest body ∷ Turn (source.Loop spot e body step code) ∷ work))))
    turn_meets spot e body step code after l k r stands few =
        let loop = source.Loop spot e body step code in
        let rest = Body (turn_code t e body) (statements t step) (statements t code) after in
        let inner : IsReady p all may heap s (Turn loop ∷ work) true ds world rest l = record {
          behind = (looped, (spot, e, body, step, code, refl, refl, refl, refl), stands, r.behind);
          callers = r.callers;
          outside = r.outside;
          count = r.count;
          agree = r.agree;
          small = r.small;
        } in
        uses p all may heap s (Turn loop ∷ work) true ds world rest l inner e (If (operand e t) End (Break End) (statements t body)) (nodes (operand e t) + 2) k
        (λ v. Goes [] (at_work s (if v.number == 0 then Rest code ∷ work else Rest body ∷ Turn loop ∷ work))) stands.form.0.0
        (omega (arith, operand_nodes e t))
        (λ v after' ready value. by after' ready (v.number == 0) (by_if (core_of p) ds world (operand e t) End (Break End) (statements t body) rest after' v.number value))
      where
        by : (l' : Values)
            → IsReady p all may heap s (Turn (source.Loop spot e body step code) ∷ work) true ds world (Body (turn_code t e body) (statements t step) (statements t code) after) l' → (z : Bool)
            → Quiet (core_of p) (nodes (operand e t) + 1) (at ds world (If (operand e t) End (Break End) (statements t body)) (Body (turn_code t e body) (statements t step) (statements t code) after) l')
            (at ds world (if z then Break End else End) (Next (statements t body) (Body (turn_code t e body) (statements t step) (statements t code) after)) l')
            → Meets p all may heap (at ds world (If (operand e t) End (Break End) (statements t body)) (Body (turn_code t e body) (statements t step) (statements t code) after) l') (nodes (operand e t) + 2)
            (Goes [] (at_work s (if z then Rest code ∷ work else Rest body ∷ Turn (source.Loop spot e body step code) ∷ work)))
        by l' ready true path =
            let rest = Body (turn_code t e body) (statements t step) (statements t code) after in
            let outer : IsReady p all may heap s work looped ds world after l' = record {
              behind = r.behind;
              callers = ready.callers;
              outside = ready.outside;
              count = ready.count;
              agree = ready.agree;
              small = ready.small;
            } in
            let u = at ds world (If (operand e t) End (Break End) (statements t body)) rest l' in
            let v = at ds world (Break End) (Next (statements t body) rest) l' in
            let w = at ds world (statements t code) after l' in
            lands p.functions (core_of p) may heap (nodes (operand e t) + 1 + 1) (nodes (operand e t) + 2) [] u w (at_work s (Rest code ∷ work)) (omega arith) (omega arith)
            (quiet p.functions (core_of p) may heap (nodes (operand e t) + 1 + 1) u w (then_quiet (core_of p) (nodes (operand e t) + 1) 1 u v w path (break_step (statements t body) (turn_code t e body) (statements t step) (statements t code) after l')))
            (same_state p.functions (core_of p) s work looped ds world after l' code outer (record { form = stands.form.3; few = omega (arith, stands.few) }))
        by l' ready false path =
            let rest = Body (turn_code t e body) (statements t step) (statements t code) after in
            let u = at ds world (If (operand e t) End (Break End) (statements t body)) rest l' in
            let v = at ds world End (Next (statements t body) rest) l' in
            let w = at ds world (statements t body) rest l' in
            lands p.functions (core_of p) may heap (nodes (operand e t) + 1 + 1) (nodes (operand e t) + 2) [] u w (at_work s (Rest body ∷ Turn (source.Loop spot e body step code) ∷ work)) (omega arith) (omega arith)
            (quiet p.functions (core_of p) may heap (nodes (operand e t) + 1 + 1) u w (then_quiet (core_of p) (nodes (operand e t) + 1) 1 u v w path (by_end (core_of p) ds world (statements t body) rest l')))
            (same_state p.functions (core_of p) s (Turn (source.Loop spot e body step code) ∷ work) true ds world rest l' body ready (record { form = stands.form.1; few = omega (arith, stands.few) }))

    -- the statement in front
    pub acts_meets : (code : source.Code) (rest : C.Rest) (l : Values) → IsReady p all may heap s work looped ds world rest l → Stands p.functions t looped (length work) code
        → PermitsPlan may (plans p s (Rest code ∷ work))
        → Meets p all may heap (at ds world (statements t code) rest l) (most_of code) (acts p s work code)
    acts_meets source.End rest l r h permits = inl refl
    acts_meets (source.Assign spot target (source.Value e) code) rest l r h permits =
        let part = h.form.1 in
        assign_meets p all may heap s work looped ds world rest target e code (most_of (source.Assign spot target (source.Value e) code)) l r h.form.0 part.0
        (record { form = h.form.2; few = omega (arith, h.few) }) (omega arith) permits
    acts_meets (source.Assign spot target (source.Fresh to e) code) rest l r h permits =
        let right = h.form.1 in
        bundle_meets p all may heap work looped ds rest code ((target, source.Fresh to e) ∷ []) (most_of (source.Assign spot target (source.Fresh to e) code)) s world l r (omega arith)
        (All-cons (IsCompilableAssign t) (target, source.Fresh to e) [] (h.form.0, right) (All-nil (IsCompilableAssign t)))
        (record { form = h.form.2; few = omega (arith, h.few) }) (omega arith)
        (bundle_permits may (planned p.shapes (at_work s (Rest code ∷ work)) ((target, source.Fresh to e) ∷ [])) permits)
    acts_meets (source.Bundle spot assigns code) rest l r h permits =
        let fit = h.form.0 in
        bundle_meets p all may heap work looped ds rest code assigns (most_of (source.Bundle spot assigns code)) s world l r fit.0 fit.2
        (record { form = h.form.1; few = omega (arith, h.few) }) (omega arith) (bundle_permits may (planned p.shapes (at_work s (Rest code ∷ work)) assigns) permits)
    acts_meets (source.Get spot target code) rest l r h permits =
        get_target_meets p all may heap s work looped ds world rest target code (most_of (source.Get spot target code)) l r h.form.0
        (record { form = h.form.1; few = omega (arith, h.few) }) (omega arith) permits
    acts_meets (source.Put spot target e code) rest l r h permits =
        let part = h.form.1 in
        put_target_meets p all may heap s work looped ds world rest target e code (most_of (source.Put spot target e code)) l r h.form.0 part.0
        (record { form = h.form.2; few = omega (arith, h.few) }) (omega arith) permits
    acts_meets (source.Call spot target callee es code) rest l r h permits =
        call_meets p all may heap s work looped ds world rest l r target callee es spot.at code (most_of (source.Call spot target callee es code)) h.form.0 h.form.1 h.form.2
        (record { form = h.form.4; few = omega (arith, h.few) }) (omega arith)
    acts_meets (source.If spot e one two code) rest l r h permits =
        if_meets p all may heap s work looped ds world rest l r e one two code (most_of (source.If spot e one two code)) h.form.0.0
        (record { form = h.form.1; few = omega (arith, h.few) }) (record { form = h.form.2; few = omega (arith, h.few) }) (record { form = h.form.3; few = omega (arith, h.few) }) (omega arith)
    acts_meets (source.Loop spot e body step code) rest l r h permits =
        let b = turn_code t e body in
        let k = most_of (source.Loop spot e body step code) in
        first_matched p.functions (core_of p) may heap 1 (14 * expr_nodes e + 3) k (at ds world (Loop b (statements t step) (statements t code)) rest l)
        (at ds world b (Body b (statements t step) (statements t code) rest) l) (acts p s work (source.Loop spot e body step code)) (omega arith)
        (by_loop (core_of p) ds world b (statements t step) (statements t code) rest l)
        (turn_meets spot e body step code rest l (14 * expr_nodes e + 3) r h (omega arith))
    acts_meets (source.Break code) rest l r h permits = inl refl
    acts_meets (source.Continue code) rest l r h permits = inl refl
    acts_meets (source.Return spot e code) rest l r h permits =
        return_meets p all may heap s work looped ds world rest l r e (statements t code) (most_of (source.Return spot e code)) h.form.0.0 (omega arith)
    acts_meets (source.Check spot e code) rest l r h permits =
        check_meets p all may heap s work looped ds world rest l r spot.at e code (most_of (source.Check spot e code)) h.form.1.0
        (record { form = h.form.2; few = omega (arith, h.few) }) (omega arith)
