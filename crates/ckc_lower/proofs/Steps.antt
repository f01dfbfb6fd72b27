-- Each step of core code is matched by steps of its three-address code.
use Rattle.std.proofs.Common.{◌≡◌, inl, inr, ℕ, ◌+◌, ◌*◌, ◌≤◌, ◌<◌, ◌⊎◌, ◌==◌, List, [], ◌∷◌, ◌++◌, append-nil, length, refl, sym, ◌∙◌, ap, subst, arith}
use Rattle.std.specs.Prelude.{Bool, true, false, if◌then◌else◌, Option, Some, None, slice_get}
use Rattle.ckc_base.specs.declared.places.Pos.{Pos}
use Rattle.ckc_base.specs.declared.arithmetic.Width.{Width}
use Rattle.ckc_base.specs.declared.runtime_checks.Check.{Check as CheckName}
use Rattle.ckc_base.specs.declared.runtime_checks.Check.TheVariants.{Depth}
use Rattle.ckc_base.specs.Traces.{Stopped, Ended}
use Rattle.ckc_base.specs.LongEvents.{LongEvent, Entered, Returned}
use Rattle.ckc_base.specs.Steps.{Move, Halts}
use Rattle.ckc_base.specs.Matching.{Stretch, Closes}
use Rattle.ckc_base.specs.Actions.{Outcome, Gives, Done, Stops, Lost, with_value as by_value, stores, checks, gets, puts, allocates}
use Rattle.ckc_base.specs.Activations.{Values, with_written, with_result, first_values, has_room}
use Rattle.ckc_base.proofs.Runs.{one_step, one_halt, no_step, then_stretch, then_closes}
use Rattle.ckc_core.specs.Code.{Expr, Code, End, Set, Store, Check, Call, Get, Put, Alloc, If, Loop, Break, Continue, Return, Function}
use Rattle.ckc_core.specs.Meaning.{Rest, Stop, Next, Body, Step, value_of, values_of, nodes, all_nodes}
use Rattle.ckc_core.specs.Meaning as C
use Rattle.ckc_core.specs.WellFormed.{IsExprOver}
use Rattle.ckc_tac.specs.declared.code.TacFunc.{TacFunc}
use Rattle.ckc_tac.specs.declared.code.TacBlock.{TacBlock}
use Rattle.ckc_tac.specs.declared.code.Operand.{Operand}
use Rattle.ckc_tac.specs.declared.code.Operand.TheVariants.{Number}
use Rattle.ckc_tac.specs.declared.code.TacOp.{TacOp}
use Rattle.ckc_tac.specs.declared.code.TacOp.TheVariants as op
use Rattle.ckc_tac.specs.declared.code.TacEnd.{TacEnd}
use Rattle.ckc_tac.specs.declared.code.TacEnd.TheVariants as ends
use Rattle.ckc_base.specs.Words.{applied}
use Rattle.ckc_tac.specs.Operations.{at_offset, operation_of, value_in, compared}
use Rattle.ckc_tac.specs.Meaning.{tac_step, tac_system, extra_of}
use Rattle.ckc_tac.specs.Meaning as T
use Rattle.ckc_lower.specs.declared.builder.Targets.{Targets}
use Rattle.ckc_lower.specs.code.Terms.{term_of, base_of, offset_of}
use Rattle.ckc_lower.specs.code.Built.{term_free, term_operand, free_from, operand_of, registers_of, out_of, step_of, picked, test_of, checked_test, branch_of}
use Rattle.ckc_lower.proofs.Terms.{base_over, term_over, base_nodes, term_nodes, address_goes}
use Rattle.ckc_lower.proofs.Values.{term_ops, term_free_more, term_stays, computes_term, value_ops, free_more, operand_stays, written_like, result_like, Agree, at, computes}
use Rattle.ckc_lower.proofs.Appending.{test_ops}
use Rattle.ckc_lower.proofs.Conditions.{within, decides, flipped, checked_within, checked_agrees}
use Rattle.ckc_lower.proofs.Arguments.{length-registers_of, values_ops, computes_all}
use Rattle.ckc_lower.proofs.Falling.{MatchedBelow}
use Rattle.ckc_lower.proofs.Relation.{IsThere, BeginsAt, Leaves, check_op, loop_of, Runs, RunsAt, LeadsTo, PassesTo, Stands, StandsAt, Continues, lead, pend, turns_of, SameFrame, SameCallers, SameState, left_of, SameFunctions}

same_count : (cs : List C.Caller) (ds : List T.Caller) → SameCallers cs ds → length cs ≡ length ds
same_count [] [] h = refl
same_count [] (d ∷ ds) h = absurd h
same_count (c ∷ cs) [] h = absurd h
same_count (c ∷ cs) (d ∷ ds) h = let e : length cs ≡ length ds = same_count cs ds h.2 in omega arith

le_self : (n : ℕ) → n ≤ n
le_self n = omega arith

some_block : (a b : TacBlock) → Some a ≡ Some b → a ≡ b
some_block a b e = cc

-- at most so many steps are made before code is run
turns_few : {A B : Type 0} (code : Code) (rest : Rest) (x : A ⊎ B) → turns_of code rest x ≤ lead code + (1 + pend rest)
turns_few {A} {B} code rest (inl a) = omega arith
turns_few {A} {B} code rest (inr b) = omega arith

module _ (functions : List Function) (lowered : List TacFunc) (s : C.State) (blocks : List TacBlock) (callers : List T.Caller) (t : ℕ) (same : SameCallers s.callers callers) (remaining : ℕ) where
  abbrev values : Values
  values = s.frame.locals

  -- a state of the three-address code, in the same call
  abbrev point : TacEnd → List TacOp → Values → T.State
  point end ops registers = at lowered blocks end callers s.world ops registers

  abbrev Matches : T.State → ℕ → Move LongEvent C.State → Type 0
  Matches u most move = MatchedBelow (tac_system lowered) SameState left_of remaining u most move

  next_frame : (code : Code) (rest : Rest) (locals : Values) (g : T.Frame) (exit : Option ℕ) (loop : Option Targets)
      → Runs g.blocks t code g.ops g.end exit loop → Continues g.blocks t rest exit loop → Agree t g.registers locals
      → SameFrame (record { code = code; rest = rest; locals = locals }) g
  next_frame code rest locals g exit loop r c a =
      record { locals = t; exit = exit; loop_at = loop; stands = inl r; continues = c; agree = a }

  -- an outcome that an operation comes to, after some steps
  by_outcome : (end : TacEnd) (u : T.State) (count most : ℕ) (code : Code) (o : TacOp) (more : List TacOp) (after : Values) (exit : Option ℕ) (loop : Option Targets) (out : Outcome)
      → Stretch (tac_system lowered) count [] u (point end (o ∷ more) after)
      → tac_step lowered (point end (o ∷ more) after) ≡ T.goes_by (point end (o ∷ more) after) more out → extra_of o ≡ 0 → count + 1 ≤ most
      → Runs blocks t code more end exit loop → Continues blocks t s.frame.rest exit loop → Agree t after values
      → Matches u most (C.goes_by s code out)
  by_outcome end u count most code o more after exit loop (Gives events x value world) path e plain few r c agree =
      let one : extra_of o + 1 ≡ 1 = omega arith in
      let v = point end (o ∷ more) after in
      let w : T.State = record { frame = record { blocks = blocks; ops = more; end = end; registers = with_written after x value }; callers = callers; world = world } in
      let last : Stretch (tac_system lowered) 1 events v w = subst (λ n. Stretch (tac_system lowered) n events v w) one (one_step (tac_system lowered) events v w e) in (
        count + 1,
        w,
        record {
          frame = next_frame code s.frame.rest (with_written values x value) w.frame exit loop r c (λ y less. written_like after values x value y (agree y less));
          callers = same;
          world = refl;
        },
        few,
        inl (omega arith),
        then_stretch (tac_system lowered) count 1 [] events u v w path last,
      )
  by_outcome end u count most code o more after exit loop (Done events world) path e plain few r c agree =
      let one : extra_of o + 1 ≡ 1 = omega arith in
      let v = point end (o ∷ more) after in
      let w : T.State = record { frame = record { blocks = blocks; ops = more; end = end; registers = after }; callers = callers; world = world } in
      let last : Stretch (tac_system lowered) 1 events v w = subst (λ n. Stretch (tac_system lowered) n events v w) one (one_step (tac_system lowered) events v w e) in (
        count + 1,
        w,
        record { frame = next_frame code s.frame.rest values w.frame exit loop r c agree; callers = same; world = refl },
        few,
        inl (omega arith),
        then_stretch (tac_system lowered) count 1 [] events u v w path last,
      )
  by_outcome end u count most code o more after exit loop (Stops check place) path e plain few r c agree =
      let one : extra_of o + 1 ≡ 1 = omega arith in
      let v = point end (o ∷ more) after in
      let last : Closes (tac_system lowered) 1 [] v (Stopped check place) = subst (λ n. Closes (tac_system lowered) n [] v (Stopped check place)) one (one_halt (tac_system lowered) [] v (Stopped check place) e) in
      inr (count + 1, few, tt, then_closes (tac_system lowered) count 1 [] [] u v (Stopped check place) path last)
  by_outcome end u count most code o more after exit loop Lost path e plain few r c agree = inl refl

  -- ---- jumps

  -- code that is led to stands where the block begins
  from_own : (to : ℕ) (code : Code) (ops : List TacOp) (end : TacEnd) (exit : Option ℕ) (loop : Option Targets)
      → RunsAt blocks t to code exit loop → BeginsAt blocks to ops end → Runs blocks t code ops end exit loop
  from_own to code ops end exit loop r g =
      let is : r.0 ≡ g.0 = some_block r.0 g.0 (sym r.1 ∙ g.1) in
      let first : Runs blocks t code g.0.ops g.0.end exit loop = subst (λ (b : TacBlock). Runs blocks t code b.ops b.end exit loop) is r.2 in
      subst (λ o. Runs blocks t code o end exit loop) (sym g.2) (subst (λ n. Runs blocks t code g.0.ops n exit loop) (sym g.3) first)

  begun : (to : ℕ) (code : Code) (ops : List TacOp) (end : TacEnd) (exit : Option ℕ) (loop : Option Targets)
      → LeadsTo blocks t to code exit loop → BeginsAt blocks to ops end → Stands blocks t code ops end exit loop
  begun to End ops end (Some e) loop l g = inr (to, l.0, g)
  begun to (Break rest) ops end exit loop l g = inr (to, l.0, g)
  begun to (Continue rest) ops end exit loop l g = inr (to, l.0, g)
  begun to code ops end exit loop l g = inl (from_own to code ops end exit loop l g)

  there_of : (to : ℕ) (code : Code) (exit : Option ℕ) (loop : Option Targets) → LeadsTo blocks t to code exit loop → IsThere blocks to
  there_of to End (Some e) loop l = l.1
  there_of to (Break rest) exit loop l = l.1
  there_of to (Continue rest) exit loop l = l.1
  there_of to code exit loop l = (l.0, l.1)

  arrives : (to : ℕ) (code : Code) (exit : Option ℕ) (loop : Option Targets) → LeadsTo blocks t to code exit loop → StandsAt blocks t to code exit loop
  arrives to code exit loop l =
      let there = there_of to code exit loop l in
      (there.0, there.1, begun to code there.0.ops there.0.end exit loop l (there.0, there.1, refl, refl))

  -- a jump to where the code stands
  by_jump : (end : TacEnd) (u : T.State) (count most to : ℕ) (code : Code) (rest : Rest) (after : Values) (exit : Option ℕ) (loop : Option Targets)
      → Stretch (tac_system lowered) count [] u (point end [] after)
      → tac_step lowered (point end [] after) ≡ T.goes_to (point end [] after) (slice_get blocks to) → count + 1 ≤ most
      → StandsAt blocks t to code exit loop → Continues blocks t rest exit loop → Agree t after values
      → Matches u most (C.goes_to s code rest)
  by_jump end u count most to code rest after exit loop path e few r c agree =
      let v = point end [] after in
      let w : T.State = record { frame = T.begins blocks after r.0; callers = callers; world = s.world } in
      let last = one_step (tac_system lowered) [] v w (e ∙ ap (T.goes_to v) r.1) in (
        count + 1,
        w,
        record {
          frame = record { locals = t; exit = exit; loop_at = loop; stands = r.2; continues = c; agree = agree };
          callers = same;
          world = refl;
        },
        few,
        inl (omega arith),
        then_stretch (tac_system lowered) count 1 [] [] u v w path last,
      )

  -- no step, if the code stands here already
  by_none : (code : Code) (rest : Rest) (end : TacEnd) (ops : List TacOp) (registers : Values) (exit : Option ℕ) (loop : Option Targets) (most : ℕ)
      → (st : Stands blocks t code ops end exit loop) → Continues blocks t rest exit loop → Agree t registers values
      → turns_of code rest st < remaining
      → Matches (point end ops registers) most (C.goes_to s code rest)
  by_none code rest end ops registers exit loop most st c agree falls =
      let u = point end ops registers in (
        0,
        u,
        record {
          frame = record { locals = t; exit = exit; loop_at = loop; stands = st; continues = c; agree = agree };
          callers = same;
          world = refl;
        },
        omega arith,
        inr falls,
        no_step (tac_system lowered) u,
      )

  -- a block that only jumps
  by_block : (to : ℕ) (code : Code) (rest : Rest) (end : TacEnd) (ops : List TacOp) (registers : Values) (exit : Option ℕ) (loop : Option Targets)
      → ops ≡ [] → end ≡ ends.Jump to → StandsAt blocks t to code exit loop → Continues blocks t rest exit loop → Agree t registers values
      → Matches (point end ops registers) (4 * (0 + 1)) (C.goes_to s code rest)
  unfolding tac_step
  by_block to code rest end ops registers exit loop at_ops at_end r c agree =
      let v = point (ends.Jump to) [] registers in
      let matched = by_jump (ends.Jump to) v 0 (4 * (0 + 1)) to code rest registers exit loop (no_step (tac_system lowered) v) refl (omega arith) r c agree in
      subst (λ n. Matches (point n ops registers) (4 * (0 + 1)) (C.goes_to s code rest)) (sym at_end)
      (subst (λ o. Matches (point (ends.Jump to) o registers) (4 * (0 + 1)) (C.goes_to s code rest)) (sym at_ops) matched)

  -- The next block is jumped to, or it begins here and less than so many steps remain.
  abbrev Comes : TacEnd → List TacOp → (to most : ℕ) → Type 0
  Comes end ops to most = ((ops ≡ []) × (end ≡ ends.Jump to)) ⊎ (BeginsAt blocks to ops end × (most ≤ remaining))

  by_come : (to most : ℕ) (code : Code) (rest : Rest) (end : TacEnd) (ops : List TacOp) (registers : Values) (exit : Option ℕ) (loop : Option Targets)
      → Comes end ops to most → LeadsTo blocks t to code exit loop → Continues blocks t rest exit loop → Agree t registers values
      → lead code + (1 + pend rest) < most
      → Matches (point end ops registers) (4 * (0 + 1)) (C.goes_to s code rest)
  by_come to most code rest end ops registers exit loop (inl h) l c agree less =
      by_block to code rest end ops registers exit loop h.0 h.1 (arrives to code exit loop l) c agree
  by_come to most code rest end ops registers exit loop (inr h) l c agree less =
      let st = begun to code ops end exit loop l h.0 in
      by_none code rest end ops registers exit loop (4 * (0 + 1)) st c agree (omega (arith, turns_few code rest st, h.1))

  -- the same to a block of the code's own
  by_come_own : (to most : ℕ) (code : Code) (rest : Rest) (end : TacEnd) (ops : List TacOp) (registers : Values) (exit : Option ℕ) (loop : Option Targets)
      → Comes end ops to most → RunsAt blocks t to code exit loop → Continues blocks t rest exit loop → Agree t registers values
      → lead code < most
      → Matches (point end ops registers) (4 * (0 + 1)) (C.goes_to s code rest)
  by_come_own to most code rest end ops registers exit loop (inl h) r c agree less =
      by_block to code rest end ops registers exit loop h.0 h.1 (r.0, r.1, inl r.2) c agree
  by_come_own to most code rest end ops registers exit loop (inr h) r c agree less =
      by_none code rest end ops registers exit loop (4 * (0 + 1)) (inl (from_own to code ops end exit loop r h.0)) c agree (omega (arith, h.1))

  -- ---- statements

  by_set : (x : ℕ) (e : Expr) (code : Code) (end : TacEnd) (ops : List TacOp) (registers : Values) (exit : Option ℕ) (loop : Option Targets) (v : Option ℕ)
      → Runs blocks t (Set x e code) ops end exit loop → Continues blocks t s.frame.rest exit loop → Agree t registers values
      → value_of values s.world.memory e ≡ v
      → Matches (point end ops registers) (4 * (nodes e + 1)) (C.goes_by s code (by_value v (λ w. Gives [] x w s.world)))
  by_set x e code end ops registers exit loop None r c agree h = inl refl
  by_set x e code end ops registers exit loop (Some w) r c agree h =
      let p = computes lowered blocks end callers s.world t values e (Some x) t w r.0 registers (le_self t) r.2 agree h in
      let u = point end r.0 p.after in (
        p.count,
        u,
        record {
          frame = next_frame code s.frame.rest (with_written values x w) u.frame exit loop r.3 c
              (λ y less. p.same y less ∙ written_like registers values x w y (agree y less));
          callers = same;
          world = refl;
        },
        omega (arith, p.few),
        inl p.some,
        subst (λ o. Stretch (tac_system lowered) p.count [] (point end o registers) u) (sym r.1) p.path,
      )

  -- a statement with one expression, and the operation on its value
  by_use : (e : Expr) (act : ℕ → Outcome) (make : Operand → TacOp) (code : Code) (end : TacEnd) (more ops : List TacOp) (registers : Values) (exit : Option ℕ) (loop : Option Targets) (v : Option ℕ)
      → ((r : Operand) → extra_of (make r) ≡ 0)
      → ((r : Operand) (w : ℕ) (after : Values) → value_in after r ≡ Some w → tac_step lowered (point end (make r ∷ more) after) ≡ T.goes_by (point end (make r ∷ more) after) more (act w))
      → ops ≡ value_ops e None t ++ (make (operand_of e None t) ∷ more) → IsExprOver t e
      → Runs blocks t code more end exit loop → Continues blocks t s.frame.rest exit loop → Agree t registers values
      → value_of values s.world.memory e ≡ v
      → Matches (point end ops registers) (4 * (nodes e + 1)) (C.goes_by s code (by_value v act))
  by_use e act make code end more ops registers exit loop None plain step at_ops over r c agree h = inl refl
  by_use e act make code end more ops registers exit loop (Some w) plain step at_ops over r c agree h =
      let o = make (operand_of e None t) in
      let p = computes lowered blocks end callers s.world t values e None t w (o ∷ more) registers (le_self t) over agree h in
      let agree_after : Agree t p.after values = λ y less. p.same y less ∙ agree y less in
      by_outcome end (point end ops registers) p.count (4 * (nodes e + 1)) code o more p.after exit loop (act w)
      (subst (λ o. Stretch (tac_system lowered) p.count [] (point end o registers) (point end (make (operand_of e None t) ∷ more) p.after)) (sym at_ops) p.path)
      (step (operand_of e None t) w p.after p.value) (plain (operand_of e None t)) (omega (arith, p.few)) r c agree_after

  by_store : (width : Width) (a e : Expr) (code : Code) (end : TacEnd) (ops : List TacOp) (registers : Values) (exit : Option ℕ) (loop : Option Targets) (v w : Option ℕ)
      → Runs blocks t (Store width a e code) ops end exit loop → Continues blocks t s.frame.rest exit loop → Agree t registers values
      → value_of values s.world.memory a ≡ v → value_of values s.world.memory e ≡ w
      → Matches (point end ops registers) (4 * (nodes a + nodes e + 1))
      (C.goes_by s code (by_value v (λ p. by_value w (stores s.world width p))))
  unfolding tac_step
  by_store width a e code end ops registers exit loop None w r c agree h k = inl refl
  by_store width a e code end ops registers exit loop (Some p) None r c agree h k = inl refl
  by_store width a e code end ops registers exit loop (Some p) (Some x) r c agree h k =
      let base = base_of (term_of a) in
      let n = offset_of (term_of a) in
      let b = term_free base t in
      let i = term_operand base None t in
      let j = operand_of e None b in
      let o = op.Store width i n j in
      let found = address_goes values s.world.memory a p h in
      let over = base_over t (term_of a) (term_over t a r.2) in
      let first = computes_term lowered blocks end callers s.world t values base None t found.0 (value_ops e None b ++ (o ∷ r.0)) registers (le_self t) over agree found.1 in
      let agree_first : Agree t first.after values = λ y less. first.same y less ∙ agree y less in
      let second = computes lowered blocks end callers s.world t values e None b x (o ∷ r.0) first.after (term_free_more base t) r.3 agree_first k in
      let agree_second : Agree t second.after values = λ y less. second.same y (omega (arith, term_free_more base t)) ∙ agree_first y less in
      let there : value_in second.after i ≡ Some found.0 = term_stays base t t first.after second.after (le_self t) over second.same ∙ first.value in
      let v = point end (o ∷ r.0) second.after in
      let step : tac_step lowered v ≡ T.goes_by v r.0 (stores s.world width p x) =
      ap (λ z. T.goes_by v r.0 (by_value z (λ p. by_value (value_in second.after j) (stores s.world width (at_offset p n))))) there
      ∙ ap (λ z. T.goes_by v r.0 (by_value z (stores s.world width (at_offset found.0 n)))) second.value
      ∙ ap (λ p. T.goes_by v r.0 (stores s.world width p x)) found.2 in
      let path = then_stretch (tac_system lowered) first.count second.count [] [] (point end (term_ops base None t ++ (value_ops e None b ++ (o ∷ r.0))) registers)
      (point end (value_ops e None b ++ (o ∷ r.0)) first.after) v first.path second.path in
      by_outcome end (point end ops registers) (first.count + second.count) (4 * (nodes a + nodes e + 1)) code o r.0 second.after exit loop (stores s.world width p x)
      (subst (λ o. Stretch (tac_system lowered) (first.count + second.count) [] (point end o registers) v) (sym r.1) path)
      step refl (omega (arith, first.few, second.few, base_nodes (term_of a), term_nodes a)) r.4 c agree_second

  by_check : (check : CheckName) (place : Pos) (e : Expr) (code : Code) (end : TacEnd) (ops : List TacOp) (registers : Values) (exit : Option ℕ) (loop : Option Targets) (v : Option ℕ)
      → Runs blocks t (Check check place e code) ops end exit loop → Continues blocks t s.frame.rest exit loop → Agree t registers values
      → value_of values s.world.memory e ≡ v
      → Matches (point end ops registers) (4 * (nodes e + 1)) (C.goes_by s code (by_value v (checks s.world check place)))
  unfolding tac_step
  by_check check place e code end ops registers exit loop None r c agree h = inl refl
  by_check check place e code end ops registers exit loop (Some w) r c agree h =
      let q = checked_test e in
      let u = free_from q.left t in
      let few = checked_within e in
      let over = few.over t r.2 in
      let d = checked_agrees values s.world.memory e w h in
      let i = operand_of q.left None t in
      let j = operand_of q.right None u in
      let o = check_op check place t q in
      let first = computes lowered blocks end callers s.world t values q.left None t d.x (value_ops q.right None u ++ (o ∷ r.0)) registers (le_self t) over.0 agree d.left in
      let agree_first : Agree t first.after values = λ y less. first.same y less ∙ agree y less in
      let second = computes lowered blocks end callers s.world t values q.right None u d.y (o ∷ r.0) first.after (free_more q.left t) over.1 agree_first d.right in
      let agree_second : Agree t second.after values = λ y less. second.same y (omega (arith, free_more q.left t)) ∙ agree_first y less in
      let there : value_in second.after i ≡ Some d.x = operand_stays q.left t t first.after second.after (le_self t) over.0 second.same ∙ first.value in
      let v = point end (o ∷ r.0) second.after in
      let step : tac_step lowered v ≡ T.goes_by v r.0 (checks s.world check place w) =
      ap (λ z. T.goes_by v r.0 (by_value (compared q.comparison z (value_in second.after j)) (checks s.world check place))) there
      ∙ ap (λ z. T.goes_by v r.0 (by_value (compared q.comparison (Some d.x) z) (checks s.world check place))) second.value
      ∙ ap (λ z. T.goes_by v r.0 (if z then Stops check place else Done [] s.world)) d.fails in
      let path = then_stretch (tac_system lowered) first.count second.count [] [] (point end (value_ops q.left None t ++ (value_ops q.right None u ++ (o ∷ r.0))) registers)
      (point end (value_ops q.right None u ++ (o ∷ r.0)) first.after) v first.path second.path in
      by_outcome end (point end ops registers) (first.count + second.count) (4 * (nodes e + 1)) code o r.0 second.after exit loop (checks s.world check place w)
      (subst (λ o. Stretch (tac_system lowered) (first.count + second.count) [] (point end o registers) v) (sym r.1) path)
      step refl (omega (arith, first.few, second.few, few.nodes_few)) r.3 c agree_second

  by_get : (x : ℕ) (code : Code) (end : TacEnd) (ops : List TacOp) (registers : Values) (exit : Option ℕ) (loop : Option Targets)
      → Runs blocks t (Get x code) ops end exit loop → Continues blocks t s.frame.rest exit loop → Agree t registers values
      → Matches (point end ops registers) (4 * (0 + 1)) (C.goes_by s code (gets s.world x))
  unfolding tac_step
  by_get x code end ops registers exit loop r c agree =
      by_outcome end (point end ops registers) 0 (4 * (0 + 1)) code (op.Get x) r.0 registers exit loop (gets s.world x)
      (subst (λ o. Stretch (tac_system lowered) 0 [] (point end o registers) (point end (op.Get x ∷ r.0) registers)) (sym r.1) (no_step (tac_system lowered) (point end (op.Get x ∷ r.0) registers)))
      refl refl (omega arith) r.2 c agree

  by_choice : (zero : Bool) (one two code : Code) (one_at two_at join : ℕ) (end : TacEnd) (u : T.State) (count most : ℕ) (after : Values) (exit : Option ℕ) (loop : Option Targets)
      → Stretch (tac_system lowered) count [] u (point end [] after)
      → tac_step lowered (point end [] after) ≡ (if zero then T.goes_to (point end [] after) (slice_get blocks two_at) else T.goes_to (point end [] after) (slice_get blocks one_at))
      → count + 1 ≤ most → LeadsTo blocks t one_at one (Some join) loop → LeadsTo blocks t two_at two (Some join) loop
      → LeadsTo blocks t join code exit loop → Continues blocks t s.frame.rest exit loop → Agree t after values
      → Matches u most (if zero then C.goes_to s two (Next code s.frame.rest) else C.goes_to s one (Next code s.frame.rest))
  by_choice true one two code one_at two_at join end u count most after exit loop path e few p q r c agree =
      by_jump end u count most two_at two (Next code s.frame.rest) after (Some join) loop path e few (arrives two_at two (Some join) loop q) (join, exit, refl, r, c) agree
  by_choice false one two code one_at two_at join end u count most after exit loop path e few p q r c agree =
      by_jump end u count most one_at one (Next code s.frame.rest) after (Some join) loop path e few (arrives one_at one (Some join) loop p) (join, exit, refl, r, c) agree

  -- a branch whose targets are exchanged if its test is turned
  goes_picked : (goes : ℕ → Move LongEvent T.State) (turned b : Bool) (one two : ℕ)
      → (if b then goes (picked turned two one) else goes (picked turned one two)) ≡ (if flipped turned b then goes two else goes one)
  goes_picked goes false b one two = refl
  goes_picked goes true true one two = refl
  goes_picked goes true false one two = refl

  by_if : (e : Expr) (one two code : Code) (end : TacEnd) (ops : List TacOp) (registers : Values) (exit : Option ℕ) (loop : Option Targets) (v : Option ℕ)
      → Runs blocks t (If e one two code) ops end exit loop → Continues blocks t s.frame.rest exit loop → Agree t registers values
      → value_of values s.world.memory e ≡ v
      → Matches (point end ops registers) (4 * (nodes e + 1)) (C.branches s one two code v)
  unfolding tac_step
  by_if e one two code end ops registers exit loop None r c agree h = inl refl
  by_if e one two code end ops registers exit loop (Some w) r c agree h =
      let q = test_of e false in
      let u = free_from q.left t in
      let few = within e false in
      let over = few.over t r.5 in
      let d = decides values s.world.memory e false w h in
      let fork = branch_of q t r.0 r.1 in
      let first = computes lowered blocks fork callers s.world t values q.left None t d.x (value_ops q.right None u ++ []) registers (le_self t) over.0 agree d.left in
      let agree_first : Agree t first.after values = λ y less. first.same y less ∙ agree y less in
      let second = computes lowered blocks fork callers s.world t values q.right None u d.y [] first.after (free_more q.left t) over.1 agree_first d.right in
      let agree_second : Agree t second.after values = λ y less. second.same y (omega (arith, free_more q.left t)) ∙ agree_first y less in
      let left : value_in second.after (operand_of q.left None t) ≡ Some d.x = operand_stays q.left t t first.after second.after (le_self t) over.0 second.same ∙ first.value in
      let v = point fork [] second.after in
      let start = point fork (test_ops t q) registers in
      let count = first.count + second.count in
      let both = then_stretch (tac_system lowered) first.count second.count [] [] (point fork (value_ops q.left None t ++ (value_ops q.right None u ++ [])) registers)
      (point fork (value_ops q.right None u ++ []) first.after) v first.path second.path in
      let path : Stretch (tac_system lowered) count [] start v =
      subst (λ o. Stretch (tac_system lowered) count [] (point fork (value_ops q.left None t ++ o) registers) v) (append-nil (value_ops q.right None u)) both in
      let goes : ℕ → Move LongEvent T.State = λ b. T.goes_to v (slice_get blocks b) in
      let step : tac_step lowered v ≡ (if w == 0 then goes r.1 else goes r.0) =
      ap (λ x. T.branches v (picked q.turned r.0 r.1) (picked q.turned r.1 r.0) (compared q.comparison x (value_in second.after (operand_of q.right None u)))) left
      ∙ ap (λ y. T.branches v (picked q.turned r.0 r.1) (picked q.turned r.1 r.0) (compared q.comparison (Some d.x) y)) second.value
      ∙ goes_picked goes q.turned (applied (operation_of q.comparison) d.x d.y == 0) r.0 r.1
      ∙ ap (λ b. if b then goes r.1 else goes r.0) d.fails in
      let matched = by_choice (w == 0) one two code r.0 r.1 r.2 fork start count (4 * (nodes e + 1)) second.after exit loop
      path step (omega (arith, first.few, second.few, few.nodes_few)) r.6 r.7 r.8 c agree_second in
      subst (λ n. Matches (point n ops registers) (4 * (nodes e + 1)) (C.branches s one two code (Some w))) (sym r.4)
      (subst (λ o. Matches (point fork o registers) (4 * (nodes e + 1)) (C.branches s one two code (Some w))) (sym r.3) matched)

  by_loop : (body step code : Code) (end : TacEnd) (ops : List TacOp) (registers : Values) (exit : Option ℕ) (loop : Option Targets)
      → Runs blocks t (Loop body step code) ops end exit loop → lead (Loop body step code) ≤ remaining
      → Continues blocks t s.frame.rest exit loop → Agree t registers values
      → Matches (point end ops registers) (4 * (0 + 1)) (C.goes_to s body (Body body step code s.frame.rest))
  by_loop body step code end ops registers exit loop r few c agree =
      by_come_own r.0 (1 + lead body) body (Body body step code s.frame.rest) end ops registers (Some r.1) (loop_of r.2 r.1) (come r.3) r.4
      (r.0, r.1, r.2, exit, loop, refl, refl, record { body_runs = r.4; step_runs = r.5; behind = r.6 }, c) agree (omega arith)
    where
      come : {A : Type 0} → A ⊎ BeginsAt blocks r.0 ops end → A ⊎ (BeginsAt blocks r.0 ops end × (1 + lead body ≤ remaining))
      come {A} (inl h) = inl h
      come {A} (inr h) = inr (h, few)

  by_break : (rest : Rest) (most : ℕ) (end : TacEnd) (ops : List TacOp) (registers : Values) (exit : Option ℕ) (loop : Option Targets)
      → Comes end ops (out_of loop) most → pend rest < most → Continues blocks t rest exit loop → Agree t registers values
      → Matches (point end ops registers) (4 * (0 + 1)) (C.breaks s rest)
  by_break Stop most end ops registers exit loop h less c agree = inl refl
  by_break (Next code after) most end ops registers exit loop h less c agree =
      by_break after most end ops registers c.1 loop h (omega arith) c.4 agree
  by_break (Body body step code after) most end ops registers exit loop h less c agree =
      by_come c.2 most code after end ops registers c.3 c.4 (subst (λ l. Comes end ops (out_of l) most) c.6 h) c.7.behind c.8 agree (omega arith)
  by_break (Step body step code after) most end ops registers exit loop h less c agree = inl refl

  by_continue : (rest : Rest) (most : ℕ) (end : TacEnd) (ops : List TacOp) (registers : Values) (exit : Option ℕ) (loop : Option Targets)
      → Comes end ops (step_of loop) most → pend rest < most → Continues blocks t rest exit loop → Agree t registers values
      → Matches (point end ops registers) (4 * (0 + 1)) (C.continues s rest)
  by_continue Stop most end ops registers exit loop h less c agree = inl refl
  by_continue (Next code after) most end ops registers exit loop h less c agree =
      by_continue after most end ops registers c.1 loop h (omega arith) c.4 agree
  by_continue (Body body step code after) most end ops registers exit loop h less c agree =
      by_come c.1 most step (Step body step code after) end ops registers (Some c.0) None (subst (λ l. Comes end ops (step_of l) most) c.6 h)
      c.7.step_runs (c.0, c.1, c.2, c.3, c.4, refl, refl, c.7, c.8) agree (omega arith)
  by_continue (Step body step code after) most end ops registers exit loop h less c agree = inl refl

  -- ---- returns

  returned : (outer : List C.Caller) (below : List T.Caller) (u v : T.State) (count most value : ℕ) → SameCallers outer below → v.world ≡ s.world
      → Stretch (tac_system lowered) count [] u v → v.frame.ops ≡ [] → tac_step lowered v ≡ T.returns v below (Some value) → count + 1 ≤ most
      → Matches u most (C.returns s outer value)
  returned [] [] u v count most value h w path nothing e few =
      let one : T.extra_steps v.frame.ops + 1 ≡ 1 = ap (λ o. T.extra_steps o + 1) nothing in
      let last : Closes (tac_system lowered) 1 [] v (Ended value) = subst (λ n. Closes (tac_system lowered) n [] v (Ended value)) one (one_halt (tac_system lowered) [] v (Ended value) e) in
      inr (count + 1, few, tt, then_closes (tac_system lowered) count 1 [] [] u v (Ended value) path last)
  returned [] (d ∷ ds) u v count most value h w path nothing e few = absurd h
  returned (c ∷ cs) [] u v count most value h w path nothing e few = absurd h
  returned (c ∷ cs) (d ∷ ds) u v count most value h w path nothing e few =
      let one : T.extra_steps v.frame.ops + 1 ≡ 1 = ap (λ o. T.extra_steps o + 1) nothing in
      let x : T.State = record v { frame = record d.frame { registers = with_result d.frame.registers d.target value }; callers = ds } in
      let last : Stretch (tac_system lowered) 1 (Returned ∷ []) v x = subst (λ n. Stretch (tac_system lowered) n (Returned ∷ []) v x) one (one_step (tac_system lowered) (Returned ∷ []) v x e) in
      let f = h.0 in (
        count + 1,
        x,
        record {
          frame = record {
            locals = f.locals;
            exit = f.exit;
            loop_at = f.loop_at;
            stands = f.stands;
            continues = f.continues;
            agree = λ y less.
                result_like d.frame.registers c.frame.locals d.target value y (f.agree y less)
                ∙ ap (λ g. with_result c.frame.locals g value y) (sym h.1);
          };
          callers = h.2;
          world = sym w;
        },
        few,
        inl (omega arith),
        then_stretch (tac_system lowered) count 1 [] (Returned ∷ []) u v x path last,
      )

  by_return : (e : Expr) (code : Code) (end : TacEnd) (ops : List TacOp) (registers : Values) (exit : Option ℕ) (loop : Option Targets) (v : Option ℕ)
      → Runs blocks t (Return e code) ops end exit loop → Agree t registers values
      → value_of values s.world.memory e ≡ v
      → Matches (point end ops registers) (4 * (nodes e + 1)) (C.returns_value s v)
  unfolding tac_step
  by_return e code end ops registers exit loop None r agree h = inl refl
  by_return e code end ops registers exit loop (Some w) r agree h =
      let b = operand_of e None t in
      let last : TacEnd = ends.Return b in
      let p = computes lowered blocks last callers s.world t values e None t w [] registers (le_self t) r.2 agree h in
      let v = point last [] p.after in
      let path : Stretch (tac_system lowered) p.count [] (point last (value_ops e None t) registers) v =
      subst (λ o. Stretch (tac_system lowered) p.count [] (point last o registers) v) (append-nil (value_ops e None t)) p.path in
      let matched = returned s.callers callers (point last (value_ops e None t) registers) v p.count (4 * (nodes e + 1)) w same refl path refl
      (ap (T.returns v callers) p.value) (omega (arith, p.few)) in
      subst (λ n. Matches (point n ops registers) (4 * (nodes e + 1)) (C.returns s s.callers w)) (sym r.1)
      (subst (λ o. Matches (point last o registers) (4 * (nodes e + 1)) (C.returns s s.callers w)) (sym r.0) matched)

  -- the end of the function returns 0
  by_fall : (end : TacEnd) (ops : List TacOp) (registers : Values) → ops ≡ [] → end ≡ ends.Return (Number 0)
      → Matches (point end ops registers) (4 * (0 + 1)) (C.returns s s.callers 0)
  unfolding tac_step
  by_fall end ops registers at_ops at_end =
      let last : TacEnd = ends.Return (Number 0) in
      let v = point last [] registers in
      let matched = returned s.callers callers v v 0 (4 * (0 + 1)) 0 same refl (no_step (tac_system lowered) v) refl refl (omega arith) in
      subst (λ n. Matches (point n ops registers) (4 * (0 + 1)) (C.returns s s.callers 0)) (sym at_end)
      (subst (λ o. Matches (point last o registers) (4 * (0 + 1)) (C.returns s s.callers 0)) (sym at_ops) matched)

  -- where the end of a list leads that is left for the exit
  comes_end : (exit : Option ℕ) (to most : ℕ) (end : TacEnd) (ops : List TacOp) (loop : Option Targets) → exit ≡ Some to
      → (st : Stands blocks t End ops end exit loop) → turns_of End s.frame.rest st ≤ remaining → most ≡ 1 + pend s.frame.rest → Comes end ops to most
  comes_end exit to most end ops loop e (inl leave) few is = inl (subst (Leaves ops end) e leave)
  comes_end exit to most end ops loop e (inr p) few is =
      let passes : p.0 ≡ to = subst (λ x. PassesTo End x loop p.0) e p.1 in
      inr (subst (λ i. BeginsAt blocks i ops end) passes p.2, omega arith)

  by_end : (rest : Rest) → rest ≡ s.frame.rest → (end : TacEnd) (ops : List TacOp) (registers : Values) (exit : Option ℕ) (loop : Option Targets)
      → (st : Stands blocks t End ops end exit loop) → turns_of End s.frame.rest st ≤ remaining
      → Continues blocks t rest exit loop → Agree t registers values
      → Matches (point end ops registers) (4 * (0 + 1)) (C.ends s rest)
  by_end Stop is end ops registers exit loop st few c agree =
      stopped (subst (λ x. Stands blocks t End ops end x loop) c.0 st)
    where
      stopped : Stands blocks t End ops end None loop → Matches (point end ops registers) (4 * (0 + 1)) (C.returns s s.callers 0)
      stopped (inl leave) = by_fall end ops registers leave.0 leave.1
      stopped (inr p) = absurd p.1
  by_end (Next code after) is end ops registers exit loop st few c agree =
      by_come c.0 (1 + pend (Next code after)) code after end ops registers c.1 loop
      (comes_end exit c.0 (1 + pend (Next code after)) end ops loop c.2 st few (ap (λ r. 1 + pend r) is)) c.3 c.4 agree (omega arith)
  by_end (Body body step code after) is end ops registers exit loop st few c agree =
      by_come c.1 (1 + pend (Body body step code after)) step (Step body step code after) end ops registers (Some c.0) None
      (comes_end exit c.1 (1 + pend (Body body step code after)) end ops loop c.5 st few (ap (λ r. 1 + pend r) is)) c.7.step_runs
      (c.0, c.1, c.2, c.3, c.4, refl, refl, c.7, c.8) agree (omega arith)
  by_end (Step body step code after) is end ops registers exit loop st few c agree =
      by_come_own c.0 (1 + pend (Step body step code after)) body (Body body step code after) end ops registers (Some c.1) (loop_of c.2 c.1)
      (comes_end exit c.0 (1 + pend (Step body step code after)) end ops loop c.5 st few (ap (λ r. 1 + pend r) is)) c.7.body_runs
      (c.0, c.1, c.2, c.3, c.4, refl, refl, c.7, c.8) agree (omega arith)

  -- ---- calls

  module _ (same_functions : SameFunctions functions lowered) where
    entered : (target : Option ℕ) (place : Pos) (code : Code) (end : TacEnd) (more : List TacOp) (after : Values) (exit : Option ℕ) (loop : Option Targets)
        (o : TacOp) (u : T.State) (count most : ℕ) (vs : List ℕ) (i : ℕ) (callee : Option Function) → slice_get functions i ≡ callee
        → Stretch (tac_system lowered) count [] u (point end (o ∷ more) after)
        → tac_step lowered (point end (o ∷ more) after) ≡ T.enters (point end (o ∷ more) after) more target vs (slice_get lowered i)
        → count + (extra_of o + 1) ≤ most
        → Runs blocks t code more end exit loop → Continues blocks t s.frame.rest exit loop → Agree t after values
        → Matches u most (C.enters s code target vs callee)
    unfolding first_values
    entered target place code end more after exit loop o u count most vs i None is path e few r c agree = inl refl
    entered target place code end more after exit loop o u count most vs i (Some f) is path e few r c agree =
        let found = same_functions i f is in
        let g = found.0 in
        let v = point end (o ∷ more) after in
        let block = found.2.0 in
        let w : T.State = record {
          frame = T.begins g.blocks (first_values vs) block;
          callers = record { frame = record v.frame { ops = more }; target = target } ∷ callers;
          world = s.world;
        } in
        let last = one_step (tac_system lowered) (Entered ∷ []) v w
        (e ∙ ap (T.enters v more target vs) found.1 ∙ ap (T.enters_block v more target vs g.blocks) found.2.1) in (
          count + (extra_of o + 1),
          w,
          record {
            frame = record { locals = f.locals; exit = None; loop_at = None; stands = inl found.2.2; continues = (refl, refl); agree = λ y less. refl };
            callers = (next_frame code s.frame.rest values (record v.frame { ops = more }) exit loop r c agree, refl, same);
            world = refl;
          },
          few,
          inl (omega arith),
          then_stretch (tac_system lowered) count (extra_of o + 1) [] (Entered ∷ []) u v w path last,
        )

    -- the test of the depth
    admitted : (room : Bool) (target : Option ℕ) (place : Pos) (code : Code) (end : TacEnd) (more : List TacOp) (after : Values) (exit : Option ℕ) (loop : Option Targets)
        (o : TacOp) (u : T.State) (count most : ℕ) (vs : List ℕ) (i : ℕ)
        → Stretch (tac_system lowered) count [] u (point end (o ∷ more) after)
        → tac_step lowered (point end (o ∷ more) after) ≡ (if room then T.enters (point end (o ∷ more) after) more target vs (slice_get lowered i) else Halts [] (Stopped Depth place))
        → count + (extra_of o + 1) ≤ most
        → Runs blocks t code more end exit loop → Continues blocks t s.frame.rest exit loop → Agree t after values
        → Matches u most (if room then C.enters s code target vs (slice_get functions i) else Halts [] (Stopped Depth place))
    admitted true target place code end more after exit loop o u count most vs i path e few r c agree =
        entered target place code end more after exit loop o u count most vs i (slice_get functions i) refl path e few r c agree
    admitted false target place code end more after exit loop o u count most vs i path e few r c agree =
        let v = point end (o ∷ more) after in
        inr (
          count + (extra_of o + 1),
          few,
          tt,
          then_closes (tac_system lowered) count (extra_of o + 1) [] [] u v (Stopped Depth place) path
              (one_halt (tac_system lowered) [] v (Stopped Depth place) e),
        )

    by_call : (target : Option ℕ) (i : ℕ) (es : List Expr) (place : Pos) (code : Code) (end : TacEnd) (ops : List TacOp) (registers : Values) (exit : Option ℕ) (loop : Option Targets) (v : Option (List ℕ))
        → Runs blocks t (Call target i es place code) ops end exit loop → Continues blocks t s.frame.rest exit loop → Agree t registers values
        → values_of values s.world.memory es ≡ v
        → Matches (point end ops registers) (4 * (all_nodes es + length es + 1)) (C.calls functions s code target i place v)
    unfolding tac_step
    by_call target i es place code end ops registers exit loop None r c agree h = inl refl
    by_call target i es place code end ops registers exit loop (Some vs) r c agree h =
        let o = op.Call target i (registers_of es t) place in
        let p = computes_all lowered blocks end callers s.world t values es t vs (o ∷ r.0) registers (le_self t) r.2 agree h in
        let agree_after : Agree t p.after values = λ y less. p.same y less ∙ agree y less in
        let v = point end (o ∷ r.0) p.after in
        let count : length (registers_of es t) ≡ length es = length-registers_of es t in
        let depth : has_room (length callers + 1) ≡ has_room (length s.callers + 1) = ap (λ n. has_room (n + 1)) (sym (same_count s.callers callers same)) in
        let read : tac_step lowered v ≡ (if has_room (length s.callers + 1) then T.enters v r.0 target vs (slice_get lowered i) else Halts [] (Stopped Depth place)) =
        ap (T.calls lowered v r.0 target i place) p.values
        ∙ ap (λ room. if room then T.enters v r.0 target vs (slice_get lowered i) else Halts [] (Stopped Depth place)) depth in
        subst (λ o. Matches (point end o registers) (4 * (all_nodes es + length es + 1)) (C.calls functions s code target i place (Some vs))) (sym r.1)
        (admitted (has_room (length s.callers + 1)) target place code end r.0 p.after exit loop o (point end (values_ops es t ++ (o ∷ r.0)) registers)
        p.count (4 * (all_nodes es + length es + 1)) vs i p.path read (omega (arith, p.few, count)) r.3 c agree_after)

    -- ---- all steps

    own_steps : (code : Code) (end : TacEnd) (ops : List TacOp) (registers : Values) (exit : Option ℕ) (loop : Option Targets)
        → Runs blocks t code ops end exit loop → lead code ≤ remaining → Continues blocks t s.frame.rest exit loop → Agree t registers values
        → Matches (point end ops registers) (4 * (C.extra_steps code + 1)) (C.runs functions s code)
    unfolding tac_step
    own_steps End end ops registers exit loop r few c agree = by_end s.frame.rest refl end ops registers exit loop (inl r) few c agree
    own_steps (Set x e code) end ops registers exit loop r few c agree =
        by_set x e code end ops registers exit loop (value_of values s.world.memory e) r c agree refl
    own_steps (Store width a e code) end ops registers exit loop r few c agree =
        by_store width a e code end ops registers exit loop (value_of values s.world.memory a) (value_of values s.world.memory e) r c agree refl refl
    own_steps (Check check place e code) end ops registers exit loop r few c agree =
        by_check check place e code end ops registers exit loop (value_of values s.world.memory e) r c agree refl
    own_steps (Call target i es place code) end ops registers exit loop r few c agree =
        by_call target i es place code end ops registers exit loop (values_of values s.world.memory es) r c agree refl
    own_steps (Get x code) end ops registers exit loop r few c agree = by_get x code end ops registers exit loop r c agree
    own_steps (Put e code) end ops registers exit loop r few c agree =
        by_use e (puts s.world) op.Put code end r.0 ops registers exit loop (value_of values s.world.memory e)
        (λ q. refl) (λ q w after h. ap (λ z. T.goes_by (point end (op.Put q ∷ r.0) after) r.0 (by_value z (puts s.world))) h)
        r.1 r.2 r.3 c agree refl
    own_steps (Alloc x e size code) end ops registers exit loop r few c agree =
        by_use e (λ n. allocates s.world x n size) (λ q. op.Alloc x q size) code end r.0 ops registers exit loop (value_of values s.world.memory e)
        (λ q. refl) (λ q w after h. ap (λ z. T.goes_by (point end (op.Alloc x q size ∷ r.0) after) r.0 (by_value z (λ n. allocates s.world x n size))) h)
        r.1 r.2 r.3 c agree refl
    own_steps (If e one two code) end ops registers exit loop r few c agree =
        by_if e one two code end ops registers exit loop (value_of values s.world.memory e) r c agree refl
    own_steps (Loop body step code) end ops registers exit loop r few c agree = by_loop body step code end ops registers exit loop r few c agree
    own_steps (Break code) end ops registers exit loop r few c agree =
        by_break s.frame.rest (1 + pend s.frame.rest) end ops registers exit loop (inl r) (omega arith) c agree
    own_steps (Continue code) end ops registers exit loop r few c agree =
        by_continue s.frame.rest (1 + pend s.frame.rest) end ops registers exit loop (inl r) (omega arith) c agree
    own_steps (Return e code) end ops registers exit loop r few c agree =
        by_return e code end ops registers exit loop (value_of values s.world.memory e) r agree refl

    -- code that passes to the block that begins here
    passing_steps : (code : Code) (end : TacEnd) (ops : List TacOp) (registers : Values) (exit : Option ℕ) (loop : Option Targets)
        → (p : (to : ℕ) × PassesTo code exit loop to × BeginsAt blocks to ops end) → 1 + pend s.frame.rest ≤ remaining
        → Continues blocks t s.frame.rest exit loop → Agree t registers values
        → Matches (point end ops registers) (4 * (C.extra_steps code + 1)) (C.runs functions s code)
    passing_steps End end ops registers exit loop p few c agree = by_end s.frame.rest refl end ops registers exit loop (inr p) few c agree
    passing_steps (Break code) end ops registers exit loop p few c agree =
        by_break s.frame.rest (1 + pend s.frame.rest) end ops registers exit loop (inr (subst (λ i. BeginsAt blocks i ops end) p.1 p.2, few)) (omega arith) c agree
    passing_steps (Continue code) end ops registers exit loop p few c agree =
        by_continue s.frame.rest (1 + pend s.frame.rest) end ops registers exit loop (inr (subst (λ i. BeginsAt blocks i ops end) p.1 p.2, few)) (omega arith) c agree
    passing_steps code end ops registers exit loop p few c agree = absurd p.1

    pub steps : (code : Code) (end : TacEnd) (ops : List TacOp) (registers : Values) (exit : Option ℕ) (loop : Option Targets)
        → (st : Stands blocks t code ops end exit loop) → turns_of code s.frame.rest st ≤ remaining
        → Continues blocks t s.frame.rest exit loop → Agree t registers values
        → Matches (point end ops registers) (4 * (C.extra_steps code + 1)) (C.runs functions s code)
    steps code end ops registers exit loop (inl r) few c agree = own_steps code end ops registers exit loop r few c agree
    steps code end ops registers exit loop (inr p) few c agree = passing_steps code end ops registers exit loop p few c agree
