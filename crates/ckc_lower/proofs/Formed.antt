-- What is built names only what is there.
use Rattle.std.proofs.Common.{◌≡◌, ℕ, ◌+◌, ◌≤◌, ◌<◌, List, [], ◌∷◌, length, refl, sym, ◌∙◌, ap, subst, arith}
use Rattle.std.specs.Prelude.{Bool, true, false, not, ◌&&◌, if◌then◌else◌, Option, Some, None, slice_get, map, All, IfSome}
use Rattle.std.specs.Option.{option_map}
use Rattle.std.proofs.lemmas.Option.{slice_get-map}
use Rattle.std.proofs.lemmas.List.Elements.{All-nil, All-cons, All-head, All-tail, All-push, All-map, All-weaker}
use Rattle.ckc_base.specs.declared.arithmetic.BinOp.{BinOp}
use Rattle.ckc_core.specs.Code.{Expr, Const, Local, Load, Bin, High, Code, End, Set, Store, Check, Call, Get, Put, Alloc, If, Loop, Break, Continue, Return, Function, Program}
use Rattle.ckc_core.specs.WellFormed.{IsExprOver, IsCodeOver, IsFunctionOver, IsWellFormed, HasParams}
use Rattle.ckc_tac.specs.declared.code.TacFunc.{TacFunc}
use Rattle.ckc_tac.specs.declared.code.Operand.{Operand}
use Rattle.ckc_tac.specs.declared.code.Operand.TheVariants.{Number}
use Rattle.ckc_tac.specs.declared.code.TacOp.{TacOp}
use Rattle.ckc_tac.specs.declared.code.TacOp.TheVariants as op
use Rattle.ckc_tac.specs.declared.code.TacEnd.{TacEnd}
use Rattle.ckc_tac.specs.declared.code.TacEnd.TheVariants as ends
use Rattle.ckc_tac.specs.WellFormed as T
use Rattle.ckc_lower.specs.declared.builder.Builder.{Builder}
use Rattle.ckc_lower.specs.declared.builder.Targets.{Targets}
use Rattle.ckc_lower.specs.code.Terms.{Term, term_of, base_of}
use Rattle.ckc_lower.specs.code.Terms as term
use Rattle.ckc_lower.specs.code.Built.{free_from, term_free, target_of, operand_of, term_operand, with_term, stores_at, registers_of, with_op, with_temporary, with_value, with_values, block_count, body_count, with_end, with_jump, left, passes, goal, stored, used, one_at, two_at, behind_at, forked, join_of, entered, step_at, out_at, targets_of, out_of, step_of, built, bin_of, is_even, is_number, register_of, free_past, with_register, test_of, checked_test, picked, branch_of}
use Rattle.ckc_lower.proofs.Terms.{IsTermOver, term_over, base_over, offset_small}
use Rattle.ckc_lower.proofs.Arguments.{length-registers_of}
use Rattle.ckc_lower.specs.code.Lowered.{empty, whole, lowered_function, lowered}
use Rattle.ckc_lower.proofs.Conditions.{within, checked_within}
use Rattle.ckc_lower.proofs.Appending.{sides-blocks, ended-length, jump-length, built-length, is_some, body_some, IsExitGood, IsLoopGood, out_good, step_good, goal_good}
use Rattle.ckc_lower.proofs.Standing.{function_some}
use Rattle.ckc_lower.proofs.Registers.{term-more, temporary-more, value-more, values-more, built-more}

module _ (functions : List Function) (t blocks regs : ℕ) (room : t ≤ regs) where
  abbrev lowered_all : List TacFunc
  lowered_all = map lowered_function functions

  -- so far what the builder has names only what is there
  record IsGood (b : Builder) : Type 0 where
    blocks_good : All (T.IsBlockOver lowered_all blocks regs) b.blocks
    ops_good : All (T.IsOpOver lowered_all regs) b.ops

  good_op : (b : Builder) (o : TacOp) → IsGood b → T.IsOpOver lowered_all regs o → IsGood (with_op b o)
  good_op b o g h = record {
    blocks_good = g.blocks_good;
    ops_good = All-push (T.IsOpOver lowered_all regs) b.ops o g.ops_good h;
  }

  good_end : (b : Builder) (end : TacEnd) → IsGood b → T.IsEndOver blocks regs end → IsGood (with_end b end)
  good_end b end g h = record {
    blocks_good = All-push (T.IsBlockOver lowered_all blocks regs) b.blocks (record { ops = b.ops; end = end }) g.blocks_good (g.ops_good, h);
    ops_good = All-nil (T.IsOpOver lowered_all regs);
  }

  good_temporary : (want : Option ℕ) (u : ℕ) (b : Builder) → IsGood b → IsGood (with_temporary want u b)
  good_temporary (Some d) u b g = g
  good_temporary None u b g = record { blocks_good = g.blocks_good; ops_good = g.ops_good }

  abbrev IsWanted : Option ℕ → Type 0
  IsWanted want = IfSome want (λ d. d < regs)

  target_good : (want : Option ℕ) (u : ℕ) (b : Builder) → IsWanted want → (with_temporary want u b).regs ≤ regs → target_of want u < regs
  target_good (Some d) u b w few = w
  target_good None u b w few = omega arith

  term_good : (x : Term) (want : Option ℕ) (u : ℕ) (b : Builder) → IsTermOver t x → IsWanted want → (with_term x want u b).regs ≤ regs → T.IsOperandOver regs (term_operand x want u)
  term_good (term.Const n) (Some d) u b over w few = w
  term_good (term.Const n) None u b over w few = over
  term_good (term.Local x) (Some d) u b over w few = w
  term_good (term.Local x) None u b over w few = omega (arith, over)
  term_good (term.Load width a n) want u b over w few = target_good want u (with_term a None u b) w few
  term_good (term.Bin o p q) want u b over w few = target_good want u (with_term q None (term_free p u) (with_term p None u b)) w few
  term_good (term.High s p q) want u b over w few = target_good want u (with_term q None (term_free p u) (with_term p None u b)) w few

  operand_good : (e : Expr) (want : Option ℕ) (u : ℕ) (b : Builder) → IsExprOver t e → IsWanted want → (with_value e want u b).regs ≤ regs → T.IsOperandOver regs (operand_of e want u)
  operand_good e want u b over w few = term_good (term_of e) want u b (term_over t e over) w few

  either_good : (exchanged : Bool) (o : BinOp) (d : ℕ) (a b : Operand) → d < regs → T.IsOperandOver regs a → T.IsOperandOver regs b
      → T.IsOpOver lowered_all regs (if exchanged then op.Bin o d b a else op.Bin o d a b)
  either_good true o d a b h i j = (h, j, i)
  either_good false o d a b h i j = (h, i, j)

  bin_good : (o : BinOp) (d : ℕ) (a b : Operand) → d < regs → T.IsOperandOver regs a → T.IsOperandOver regs b → T.IsOpOver lowered_all regs (bin_of o d a b)
  bin_good o d a b h i j = either_good (is_even o && is_number a) o d a b h i j

  good_term : (x : Term) (want : Option ℕ) (u : ℕ) (b : Builder) → IsTermOver t x → IsWanted want → (with_term x want u b).regs ≤ regs → IsGood b → IsGood (with_term x want u b)
  good_term (term.Const n) (Some d) u b over w few g = good_op b (op.Const d n) g (w, over)
  good_term (term.Const n) None u b over w few g = g
  good_term (term.Local x) (Some d) u b over w few g = good_op b (op.Copy d x) g (w, omega (arith, over))
  good_term (term.Local x) None u b over w few g = g
  good_term (term.Load width a n) want u b over w few g =
      let c = with_term a None u b in
      let here : c.regs ≤ regs = omega (arith, temporary-more want u c) in
      good_op (with_temporary want u c) (op.Load width (target_of want u) (term_operand a None u) n) (good_temporary want u c (good_term a None u b over.0 tt here g))
      (target_good want u c w few, term_good a None u b over.0 tt here, over.1)
  good_term (term.Bin o p q) want u b over w few g =
      let v = term_free p u in
      let c = with_term p None u b in
      let d = with_term q None v c in
      let second : d.regs ≤ regs = omega (arith, temporary-more want u d) in
      let first : c.regs ≤ regs = omega (arith, term-more q None v c) in
      good_op (with_temporary want u d) (bin_of o (target_of want u) (term_operand p None u) (term_operand q None v))
      (good_temporary want u d (good_term q None v c over.1 tt second (good_term p None u b over.0 tt first g)))
      (bin_good o (target_of want u) (term_operand p None u) (term_operand q None v) (target_good want u d w few)
      (term_good p None u b over.0 tt first) (term_good q None v c over.1 tt second))
  good_term (term.High s p q) want u b over w few g =
      let v = term_free p u in
      let c = with_term p None u b in
      let d = with_term q None v c in
      let second : d.regs ≤ regs = omega (arith, temporary-more want u d) in
      let first : c.regs ≤ regs = omega (arith, term-more q None v c) in
      good_op (with_temporary want u d) (op.High s (target_of want u) (term_operand p None u) (term_operand q None v))
      (good_temporary want u d (good_term q None v c over.1 tt second (good_term p None u b over.0 tt first g)))
      (target_good want u d w few, term_good p None u b over.0 tt first, term_good q None v c over.1 tt second)

  good_value : (e : Expr) (want : Option ℕ) (u : ℕ) (b : Builder) → IsExprOver t e → IsWanted want → (with_value e want u b).regs ≤ regs → IsGood b → IsGood (with_value e want u b)
  good_value e want u b over w few g = good_term (term_of e) want u b (term_over t e over) w few g

  register_good : (e : Expr) (u : ℕ) (b : Builder) → IsExprOver t e → (with_register e u b).regs ≤ regs → register_of e u < regs
  register_good (Const n) u b over few = omega arith
  register_good (Local x) u b over few = omega (arith, over)
  register_good (Load width a) u b over few = operand_good (Load width a) None u b over tt few
  register_good (Bin o p q) u b over few = operand_good (Bin o p q) None u b over tt few
  register_good (High s p q) u b over few = operand_good (High s p q) None u b over tt few

  good_register : (e : Expr) (u : ℕ) (b : Builder) → IsExprOver t e → (with_register e u b).regs ≤ regs → IsGood b → IsGood (with_register e u b)
  good_register (Const n) u b over few g = good_op (with_temporary None u b) (op.Const u n) (good_temporary None u b g) (target_good None u b tt few, over)
  good_register (Local x) u b over few g = g
  good_register (Load width a) u b over few g = good_value (Load width a) None u b over tt few g
  good_register (Bin o p q) u b over few g = good_value (Bin o p q) None u b over tt few g
  good_register (High s p q) u b over few g = good_value (High s p q) None u b over tt few g

  good_values : (es : List Expr) (u : ℕ) (b : Builder) → All (IsExprOver t) es → (with_values es u b).regs ≤ regs → IsGood b
      → IsGood (with_values es u b) × All (λ r. r < regs) (registers_of es u)
  good_values [] u b all few g = (g, All-nil (λ (r : ℕ). r < regs))
  good_values (e ∷ es) u b all few g =
      let v = free_past e u in
      let c = with_register e u b in
      let over = All-head (IsExprOver t) e es all in
      let here : c.regs ≤ regs = omega (arith, values-more es v c) in
      let rest = good_values es v c (All-tail (IsExprOver t) e es all) few (good_register e u b over here g) in
      (rest.0, All-cons (λ (r : ℕ). r < regs) (register_of e u) (registers_of es v) (register_good e u b over here) rest.1)

  params_good : (count same : ℕ) (found : Option Function) → same ≡ count → HasParams count found → T.HasParams same (option_map lowered_function found)
  params_good count same (Some f) e h = h ∙ sym e
  params_good count same None e h = h

  good_jump : (fresh : Bool) (to : ℕ) (b : Builder) → IsGood b → to < blocks → IsGood (with_jump fresh to b)
  good_jump true to b g h = g
  good_jump false to b g h = good_end b (ends.Jump to) g h

  good_left : (fresh : Bool) (exit : Option ℕ) (b : Builder) → IsGood b → IsExitGood blocks exit → IsGood (left fresh exit b)
  good_left fresh (Some to) b g x = good_jump fresh to b g x
  good_left fresh None b g x = good_end b (ends.Return (Number 0)) g (omega arith)

  good_used : (e : Expr) (o : Operand → TacOp) (b : Builder) → IsExprOver t e → (with_value e None t b).regs ≤ regs → IsGood b
      → ((r : Operand) → T.IsOperandOver regs r → T.IsOpOver lowered_all regs (o r)) → IsGood (used t e o b)
  good_used e o b over few g h =
      good_op (with_value e None t b) (o (operand_of e None t)) (good_value e None t b over tt few g) (h (operand_of e None t) (operand_good e None t b over tt few))

  picked_good : (turned : Bool) (one two : ℕ) → one < blocks → two < blocks → picked turned one two < blocks
  picked_good false one two h i = h
  picked_good true one two h i = i

  good_built : (code : Code) (looped fresh : Bool) (exit : Option ℕ) (loop : Option Targets) (b : Builder) → IsCodeOver functions t looped code
      → (built t fresh code exit loop b).regs ≤ regs → length (built t fresh code exit loop b).blocks ≤ blocks → IsExitGood blocks exit → IsLoopGood blocks loop → 0 < blocks
      → IsGood b → IsGood (built t fresh code exit loop b)
  good_built End looped fresh exit loop b w few short x l some g = good_left fresh exit b g x
  good_built (Set y e rest) looped fresh exit loop b w few short x l some g =
      let c = with_value e (Some y) t b in
      let wanted : y < regs = omega (arith, w.0) in
      good_built rest looped false exit loop c w.2 few short x l some
      (good_value e (Some y) t b w.1 wanted (omega (arith, built-more t false rest exit loop c)) g)
  good_built (Store width a e rest) looped fresh exit loop b w few short x l some g =
      let y = base_of (term_of a) in
      let over = base_over t (term_of a) (term_over t a w.0) in
      let u = term_free y t in
      let first = with_term y None t b in
      let second = with_value e None u first in
      let c = stored t y (term_of e) (stores_at width a) b in
      let few_second : second.regs ≤ regs = omega (arith, built-more t false rest exit loop c) in
      let few_first : first.regs ≤ regs = omega (arith, value-more e None u first) in
      good_built rest looped false exit loop c w.2 few short x l some
      (good_op second (stores_at width a (term_operand y None t) (operand_of e None u))
      (good_value e None u first w.1 tt few_second (good_term y None t b over tt few_first g))
      (term_good y None t b over tt few_first, offset_small (term_of a), operand_good e None u first w.1 tt few_second))
  good_built (Check check place e rest) looped fresh exit loop b w few short x l some g =
      let s = checked_test e in
      let over = (checked_within e).over t w.1 in
      let u = free_from s.left t in
      let first = with_value s.left None t b in
      let second = with_value s.right None u first in
      let o = op.Check check place s.comparison (operand_of s.left None t) (operand_of s.right None u) in
      let c = with_op second o in
      let few_second : second.regs ≤ regs = omega (arith, built-more t false rest exit loop c) in
      let few_first : first.regs ≤ regs = omega (arith, value-more s.right None u first) in
      good_built rest looped false exit loop c w.2 few short x l some
      (good_op second o (good_value s.right None u first over.1 tt few_second (good_value s.left None t b over.0 tt few_first g))
      (w.0, operand_good s.left None t b over.0 tt few_first, operand_good s.right None u first over.1 tt few_second))
  good_built (Call target i es place rest) looped fresh exit loop b w few short x l some g =
      let o = op.Call target i (registers_of es t) place in
      let v = with_values es t b in
      let c = with_op v o in
      let good = good_values es t b w.2 (omega (arith, built-more t false rest exit loop c)) g in
      let params : T.HasParams (length (registers_of es t)) (slice_get lowered_all i) =
      subst (T.HasParams (length (registers_of es t))) (sym (slice_get-map lowered_function functions i))
      (params_good (length es) (length (registers_of es t)) (slice_get functions i) (length-registers_of es t) w.1) in
      good_built rest looped false exit loop c w.4 few short x l some
      (good_op v o good.0 (target_within target w.0, params, good.1, w.3))
    where
      target_within : (target : Option ℕ) → IfSome target (λ y. y < t) → IfSome target (λ y. y < regs)
      target_within (Some y) h = omega (arith, h)
      target_within None h = tt
  good_built (Get y rest) looped fresh exit loop b w few short x l some g =
      let wanted : y < regs = omega (arith, w.0) in
      good_built rest looped false exit loop (with_op b (op.Get y)) w.1 few short x l some (good_op b (op.Get y) g wanted)
  good_built (Put e rest) looped fresh exit loop b w few short x l some g =
      let c = used t e op.Put b in
      good_built rest looped false exit loop c w.1 few short x l some
      (good_used e op.Put b w.0 (omega (arith, built-more t false rest exit loop c)) g (λ r h. h))
  good_built (Alloc y e size rest) looped fresh exit loop b w few short x l some g =
      let o : Operand → TacOp = λ r. op.Alloc y r size in
      let c = used t e o b in
      let wanted : y < regs = omega (arith, w.0) in
      good_built rest looped false exit loop c w.3 few short x l some
      (good_used e o b w.1 (omega (arith, built-more t false rest exit loop c)) g (λ r h. (wanted, h, w.2)))
  good_built (If e one two rest) looped fresh exit loop b w few short x l some g =
      let first = one_at b in
      let second = two_at one b in
      let third = behind_at one two b in
      let join = join_of one two rest exit loop b in
      let to_one = goal one first (Some join) loop in
      let to_two = goal two second (Some join) loop in
      let s = test_of e false in
      let u = free_from s.left t in
      let over = (within e false).over t w.0 in
      let first_side = with_value s.left None t b in
      let v = with_value s.right None u first_side in
      let fork = branch_of s t to_one to_two in
      let c = forked t e one two join loop b in
      let d = built t true one (Some join) loop c in
      let f = built t true two (Some join) loop d in
      let at_c : length c.blocks ≡ first = ended-length v fork ∙ ap (λ n. length n + 1) (sides-blocks t s b) in
      let at_d : length d.blocks ≡ length c.blocks + block_count true true one = built-length t true one (Some join) loop c in
      let at_f : length f.blocks ≡ length d.blocks + block_count true true two = built-length t true two (Some join) loop d in
      let at_g : length (built t true rest exit loop f).blocks ≡ length f.blocks + block_count true (is_some exit) rest = built-length t true rest exit loop f in
      let few_f : f.regs ≤ regs = omega (arith, built-more t true rest exit loop f) in
      let few_d : d.regs ≤ regs = omega (arith, built-more t true two (Some join) loop d) in
      let few_c : v.regs ≤ regs = omega (arith, built-more t true one (Some join) loop c) in
      let few_left : first_side.regs ≤ regs = omega (arith, value-more s.right None u first_side) in
      let y : join < blocks = goal_good blocks rest third exit loop (omega arith) x l some in
      let good_one : to_one < blocks = goal_good blocks one first (Some join) loop (omega arith) y l some in
      let good_two : to_two < blocks = goal_good blocks two second (Some join) loop (omega arith) y l some in
      good_built rest looped true exit loop f w.3 few short x l some
      (good_built two looped true (Some join) loop d w.2 few_f (omega arith) y l some
      (good_built one looped true (Some join) loop c w.1 few_d (omega arith) y l some
      (good_end v fork (good_value s.right None u first_side over.1 tt few_c (good_value s.left None t b over.0 tt few_left g))
      (operand_good s.left None t b over.0 tt few_left, operand_good s.right None u first_side over.1 tt few_c, picked_good s.turned to_one to_two good_one good_two, picked_good s.turned to_two to_one good_two good_one))))
  good_built (Loop body step rest) looped fresh exit loop b w few short x l some g =
      let c = entered fresh b in
      let head = length c.blocks in
      let second = step_at body head in
      let third = out_at body step head in
      let targets = targets_of body step rest exit loop head in
      let first = not (passes body) in
      let d = built t first body (Some targets.step) (Some targets) c in
      let f = built t true step (Some head) None d in
      let at_c : length c.blocks ≡ length b.blocks + (if fresh then 0 else 1) = jump-length fresh (length b.blocks + 1) b in
      let at_d : length d.blocks ≡ length c.blocks + body_count body = built-length t first body (Some targets.step) (Some targets) c in
      let at_f : length f.blocks ≡ length d.blocks + block_count true true step = built-length t true step (Some head) None d in
      let at_g : length (built t true rest exit loop f).blocks ≡ length f.blocks + block_count true (is_some exit) rest = built-length t true rest exit loop f in
      let one : 1 ≤ body_count body = body_some body in
      let few_f : f.regs ≤ regs = omega (arith, built-more t true rest exit loop f) in
      let few_d : d.regs ≤ regs = omega (arith, built-more t true step (Some head) None d) in
      let y : head < blocks = omega arith in
      let out : targets.out < blocks = goal_good blocks rest third exit loop (omega arith) x l some in
      let next : targets.step < blocks = goal_good blocks step second (Some head) None (omega arith) y tt some in
      good_built rest looped true exit loop f w.2 few short x l some
      (good_built step false true (Some head) None d w.1 few_f (omega arith) y tt some
      (good_built body true first (Some targets.step) (Some targets) c w.0 few_d (omega arith) next (out, next) some
      (entering fresh g y)))
    where
      entering : (fresh : Bool) → IsGood b → length (entered fresh b).blocks < blocks → IsGood (entered fresh b)
      entering true g y = g
      entering false g y =
          let e : length (entered false b).blocks ≡ length b.blocks + 1 = ended-length b (ends.Jump (length b.blocks + 1)) in
          good_end b (ends.Jump (length b.blocks + 1)) g (omega arith)
  good_built (Break rest) looped fresh exit loop b w few short x l some g = good_jump fresh (out_of loop) b g (out_good blocks loop some l)
  good_built (Continue rest) looped fresh exit loop b w few short x l some g = good_jump fresh (step_of loop) b g (step_good blocks loop some l)
  good_built (Return e rest) looped fresh exit loop b w few short x l some g =
      good_end (with_value e None t b) (ends.Return (operand_of e None t)) (good_value e None t b w.0 tt few g) (operand_good e None t b w.0 tt few)

  blocks_of_good : (code : Code) (b : Builder) → IsCodeOver functions t false code → (built t true code None None b).regs ≤ regs
      → length (built t true code None None b).blocks ≤ blocks → 0 < blocks → b.blocks ≡ [] → b.ops ≡ []
      → All (T.IsBlockOver lowered_all blocks regs) (built t true code None None b).blocks
  blocks_of_good code b w few short some no_blocks no_ops =
      (good_built code false true None None b w few short tt tt some (record {
        blocks_good = subst (All (T.IsBlockOver lowered_all blocks regs)) (sym no_blocks) (All-nil (T.IsBlockOver lowered_all blocks regs));
        ops_good = subst (All (T.IsOpOver lowered_all regs)) (sym no_ops) (All-nil (T.IsOpOver lowered_all regs));
      })).blocks_good

function_formed : (functions : List Function) (f : Function) → IsFunctionOver functions f → T.IsFunctionOver (map lowered_function functions) (lowered_function f)
function_formed functions f w =
    let b = whole f in
    let more : f.locals ≤ b.regs = built-more f.locals true f.body None None (empty f.locals) in
    let some : 0 < length b.blocks = function_some functions f w in (
      omega (arith, w.0),
      some,
      blocks_of_good functions f.locals (length b.blocks) b.regs more f.body (empty f.locals) w.1 (omega arith) (omega arith) some refl refl,
    )

-- the three-address code of a well-formed program is well-formed
pub lowered_formed : (p : Program) → IsWellFormed p → T.IsWellFormed (lowered p)
lowered_formed p w = record {
  functions = All-map (T.IsFunctionOver (map lowered_function p.functions)) lowered_function p.functions
      (All-weaker (IsFunctionOver p.functions) (λ f. T.IsFunctionOver (map lowered_function p.functions) (lowered_function f)) (λ f h. function_formed p.functions f h) p.functions w.functions);
  main = subst (T.HasParams 0) (sym (slice_get-map lowered_function p.functions p.main)) (main_formed (slice_get p.functions p.main) w.main);
}
  where
    main_formed : (found : Option Function) → HasParams 0 found → T.HasParams 0 (option_map lowered_function found)
    main_formed (Some f) h = h
    main_formed None h = h
