-- At most as many blocks only jump as loops of the core code do nothing.
use Rattle.std.proofs.Common.{◌≡◌, ℕ, ◌+◌, ◌≤◌, List, [], ◌∷◌, ◌++◌, length, refl, ap, cond, arith}
use Rattle.std.specs.Prelude.{Bool, true, false, not, if◌then◌else◌, Option, Some, None, map, count_by, sum_by}
use Rattle.std.proofs.lemmas.List.Sums.{sum_by-cons}
use Rattle.ckc_core.specs.Code.{Expr, Const, Local, Load, Bin, High, Code, End, Set, Store, Check, Call, Get, Put, Alloc, If, Loop, Break, Continue, Return, Function, Program}
use Rattle.ckc_core.specs.Loops.{does_something, idle_in, idle_loops}
use Rattle.ckc_tac.specs.declared.code.Operand.{Operand}
use Rattle.ckc_tac.specs.declared.code.Operand.TheVariants.{Number}
use Rattle.ckc_tac.specs.declared.code.TacOp.{TacOp}
use Rattle.ckc_tac.specs.declared.code.TacOp.TheVariants as op
use Rattle.ckc_tac.specs.declared.code.TacEnd.TheVariants as ends
use Rattle.ckc_tac.specs.declared.code.TacBlock.{TacBlock}
use Rattle.ckc_lower.specs.declared.builder.Builder.{Builder}
use Rattle.ckc_lower.specs.declared.builder.Targets.{Targets}
use Rattle.ckc_lower.specs.code.Terms.{term_of, base_of}
use Rattle.ckc_lower.specs.code.Built.{term_free, term_operand, with_term, stores_at, free_from, operand_of, registers_of, with_op, with_value, with_values, with_jump, left, passes, goal, one_at, two_at, forked, join_of, entered, targets_of, out_of, step_of, built, test_of, checked_test, branch_of, Test}
use Rattle.ckc_lower.specs.code.Lowered.{empty, whole, lowered_function, lowered}
use Rattle.ckc_lower.specs.Idle.{jumps_alone, only_jumps, idle_blocks_in, idle_blocks}
use Rattle.ckc_lower.proofs.Appending.{value-blocks, values-blocks, stored-blocks, sides-blocks}

-- ---- blocks that only jump, by recursion

abbrev one : Bool → ℕ
one true = 1
one false = 0

abbrev idle : List TacBlock → ℕ
idle [] = 0
idle (k ∷ ks) = one (only_jumps k) + idle ks

counted : (is_one : Bool) → cond is_one 1 0 ≡ one is_one
counted true = refl
counted false = refl

is_idle : (ks : List TacBlock) → count_by only_jumps ks ≡ idle ks
is_idle [] = refl
is_idle (k ∷ ks) = omega (arith, sum_by-cons (λ x. cond (only_jumps x) 1 0) k ks, counted (only_jumps k), is_idle ks)

idle-push : (ks : List TacBlock) (k : TacBlock) → idle (ks ++ k ∷ []) ≡ idle ks + one (only_jumps k)
idle-push [] k = omega arith
idle-push (j ∷ ks) k = omega (arith, idle-push ks k)

-- ---- ends of blocks

-- The open block may come to only jump if it is not fresh and has no operation.
abbrev owed : Bool → List TacOp → ℕ
owed true ops = 0
owed false [] = 1
owed false (o ∷ ops) = 0

pushed : (ops : List TacOp) (o : TacOp) → owed false (ops ++ o ∷ []) ≡ 0
pushed [] o = refl
pushed (p ∷ ops) o = refl

jump_owed : (ops : List TacOp) (to : ℕ) → one (jumps_alone ops (ends.Jump to)) ≤ owed false ops
jump_owed [] to = omega arith
jump_owed (o ∷ ops) to = omega arith

return_idle : (ops : List TacOp) (r : Operand) → one (jumps_alone ops (ends.Return r)) ≡ 0
return_idle [] r = refl
return_idle (o ∷ ops) r = refl

branch_idle : (ops : List TacOp) (s : Test) (t first second : ℕ) → one (jumps_alone ops (branch_of s t first second)) ≡ 0
branch_idle [] s t first second = refl
branch_idle (o ∷ ops) s t first second = refl

jump_most : (fresh : Bool) (to : ℕ) (b : Builder) → idle (with_jump fresh to b).blocks ≤ idle b.blocks + owed fresh b.ops
jump_most true to b = omega arith
jump_most false to b = omega (arith, idle-push b.blocks (record { ops = b.ops; end = ends.Jump to }), jump_owed b.ops to)

left_most : (fresh : Bool) (exit : Option ℕ) (b : Builder) → idle (left fresh exit b).blocks ≤ idle b.blocks + owed fresh b.ops
left_most fresh (Some to) b = jump_most fresh to b
left_most fresh None b = omega (arith, idle-push b.blocks (record { ops = b.ops; end = ends.Return (Number 0) }), return_idle b.ops (Number 0))

set_owed : (e : Expr) (x t : ℕ) (b : Builder) → owed false (with_value e (Some x) t b).ops ≡ 0
set_owed (Const n) x t b = pushed b.ops _
set_owed (Local y) x t b = pushed b.ops _
set_owed (Load width a) x t b = pushed (with_term (base_of (term_of a)) None t b).ops _
set_owed (Bin o p q) x t b = pushed (with_value q None (free_from p t) (with_value p None t b)).ops _
set_owed (High s p q) x t b = pushed (with_value q None (free_from p t) (with_value p None t b)).ops _

owed_once : (ops : List TacOp) → owed false ops ≤ 1
owed_once [] = omega arith
owed_once (o ∷ ops) = omega arith

body_owed : (body : Code) (ops : List TacOp) → owed (not (passes body)) ops ≤ (if does_something body then 0 else 1)
body_owed End ops = owed_once ops
body_owed (Break rest) ops = owed_once ops
body_owed (Continue rest) ops = owed_once ops
body_owed code ops = omega arith

module _ (t : ℕ) where
  built_most : (code : Code) (fresh : Bool) (exit : Option ℕ) (loop : Option Targets) (b : Builder) → idle (built t fresh code exit loop b).blocks ≤ idle b.blocks + owed fresh b.ops + idle_in code
  built_most End fresh exit loop b = omega (arith, left_most fresh exit b)
  built_most (Set x e rest) fresh exit loop b =
      omega (arith, built_most rest false exit loop (with_value e (Some x) t b), set_owed e x t b, ap idle (value-blocks e (Some x) t b))
  built_most (Store width a e rest) fresh exit loop b =
      let x = base_of (term_of a) in
      let c = with_value e None (term_free x t) (with_term x None t b) in
      let o = stores_at width a (term_operand x None t) (operand_of e None (term_free x t)) in
      omega (arith, built_most rest false exit loop (with_op c o), pushed c.ops o, ap idle (stored-blocks t x (term_of e) (stores_at width a) b))
  built_most (Check check at e rest) fresh exit loop b =
      let s = checked_test e in
      let c = with_value s.right None (free_from s.left t) (with_value s.left None t b) in
      let o = op.Check check at s.comparison (operand_of s.left None t) (operand_of s.right None (free_from s.left t)) in
      omega (arith, built_most rest false exit loop (with_op c o), pushed c.ops o, ap idle (sides-blocks t s b))
  built_most (Call target callee es at rest) fresh exit loop b =
      let c = with_values es t b in
      let o = op.Call target callee (registers_of es t) at in
      omega (arith, built_most rest false exit loop (with_op c o), pushed c.ops o, ap idle (values-blocks es t b))
  built_most (Get x rest) fresh exit loop b =
      omega (arith, built_most rest false exit loop (with_op b (op.Get x)), pushed b.ops (op.Get x))
  built_most (Put e rest) fresh exit loop b =
      let c = with_value e None t b in
      let o = op.Put (operand_of e None t) in
      omega (arith, built_most rest false exit loop (with_op c o), pushed c.ops o, ap idle (value-blocks e None t b))
  built_most (Alloc x e size rest) fresh exit loop b =
      let c = with_value e None t b in
      let o = op.Alloc x (operand_of e None t) size in
      omega (arith, built_most rest false exit loop (with_op c o), pushed c.ops o, ap idle (value-blocks e None t b))
  built_most (If e first second rest) fresh exit loop b =
      let join = join_of first second rest exit loop b in
      let s = test_of e false in
      let sides = with_value s.right None (free_from s.left t) (with_value s.left None t b) in
      let to_first = goal first (one_at b) (Some join) loop in
      let to_second = goal second (two_at first b) (Some join) loop in
      let c = forked t e first second join loop b in
      let d = built t true first (Some join) loop c in
      let f = built t true second (Some join) loop d in
      omega (
        arith,
        idle-push sides.blocks (record { ops = sides.ops; end = branch_of s t to_first to_second }),
        branch_idle sides.ops s t to_first to_second,
        ap idle (sides-blocks t s b),
        built_most first true (Some join) loop c,
        built_most second true (Some join) loop d,
        built_most rest true exit loop f,
      )
  built_most (Loop body step rest) fresh exit loop b =
      let c = entered fresh b in
      let head = length c.blocks in
      let here = targets_of body step rest exit loop head in
      let d = built t (not (passes body)) body (Some here.step) (Some here) c in
      let f = built t true step (Some head) None d in
      omega (
        arith,
        jump_most fresh (length b.blocks + 1) b,
        body_owed body c.ops,
        built_most body (not (passes body)) (Some here.step) (Some here) c,
        built_most step true (Some head) None d,
        built_most rest true exit loop f,
      )
  built_most (Break rest) fresh exit loop b = omega (arith, jump_most fresh (out_of loop) b)
  built_most (Continue rest) fresh exit loop b = omega (arith, jump_most fresh (step_of loop) b)
  built_most (Return e rest) fresh exit loop b =
      let c = with_value e None t b in
      let r = operand_of e None t in
      omega (arith, idle-push c.blocks (record { ops = c.ops; end = ends.Return r }), return_idle c.ops r, ap idle (value-blocks e None t b))

function_most : (f : Function) → idle_blocks_in (lowered_function f) ≤ idle_in f.body
function_most f = omega (arith, is_idle (whole f).blocks, built_most f.locals f.body true None None (empty f.locals))

functions_most : (fs : List Function) → sum_by idle_blocks_in (map lowered_function fs) ≤ sum_by (λ (f : Function). idle_in f.body) fs
functions_most [] = omega arith
functions_most (f ∷ fs) =
    omega (
      arith,
      function_most f,
      functions_most fs,
      sum_by-cons idle_blocks_in (lowered_function f) (map lowered_function fs),
      sum_by-cons (λ (g : Function). idle_in g.body) f fs,
    )

-- the three-address code has at most as many blocks that only jump as the core code has loops that do nothing
pub lowered_idle : (p : Program) → idle_blocks (lowered p) ≤ idle_loops p
lowered_idle p = functions_most p.functions
