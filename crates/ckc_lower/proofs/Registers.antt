-- How many registers what is built uses.
use Rattle.std.proofs.Common.{ℕ, ◌+◌, ◌≤◌, List, [], ◌∷◌, length, arith}
use Rattle.std.specs.Prelude.{Bool, true, false, not, Option, Some, None, map, All}
use Rattle.std.proofs.lemmas.List.Elements.{All-nil, All-cons, All-head, All-tail}
use Rattle.ckc_core.specs.Code.{Expr, Const, Local, Load, Bin, High, Code, End, Set, Store, Check, Call, Get, Put, Alloc, If, Loop, Break, Continue, Return, Function, Program}
use Rattle.ckc_core.specs.Limits.{depth, IsShallow, KeepsLimits, IsSmallFunction, IsWithinLimits}
use Rattle.ckc_tac.specs.declared.code.TacFunc.{TacFunc}
use Rattle.ckc_tac.specs.declared.code.Operand.{Operand}
use Rattle.ckc_tac.specs.declared.code.TacOp.{TacOp}
use Rattle.ckc_tac.specs.declared.code.TacOp.TheVariants as op
use Rattle.ckc_tac.specs.WellFormed.{HasFewRegisters}
use Rattle.ckc_lower.specs.declared.builder.Builder.{Builder}
use Rattle.ckc_lower.specs.declared.builder.Targets.{Targets}
use Rattle.ckc_lower.specs.code.Terms.{Term, term_of, base_of}
use Rattle.ckc_lower.specs.code.Terms as term
use Rattle.ckc_lower.specs.code.Built.{free_from, term_free, with_term, stores_at, registers_of, with_op, with_temporary, with_value, with_values, with_jump, left, out_of, step_of, passes, goal, stored, used, compares, checked_test, one_at, two_at, forked, join_of, entered, targets_of, built, free_past, with_register, Test, test_of, tested}
use Rattle.ckc_lower.proofs.Conditions.{within, checked_within}
use Rattle.ckc_lower.proofs.Terms.{base_depth, term_depth}
use Rattle.ckc_lower.proofs.Terms as terms
use Rattle.ckc_lower.specs.code.Lowered.{empty, lowered_function, lowered}

-- ---- no register is given back

pub temporary-more : (want : Option ℕ) (t : ℕ) (b : Builder) → b.regs ≤ (with_temporary want t b).regs
temporary-more (Some d) t b = omega arith
temporary-more None t b = omega arith

pub term-more : (x : Term) (want : Option ℕ) (t : ℕ) (b : Builder) → b.regs ≤ (with_term x want t b).regs
term-more (term.Const n) (Some d) t b = omega arith
term-more (term.Const n) None t b = omega arith
term-more (term.Local x) (Some d) t b = omega arith
term-more (term.Local x) None t b = omega arith
term-more (term.Load width a n) want t b = omega (arith, term-more a None t b, temporary-more want t (with_term a None t b))
term-more (term.Bin o p q) want t b =
    let u = term_free p t in
    let c = with_term p None t b in
    omega (arith, term-more p None t b, term-more q None u c, temporary-more want t (with_term q None u c))
term-more (term.High s p q) want t b =
    let u = term_free p t in
    let c = with_term p None t b in
    omega (arith, term-more p None t b, term-more q None u c, temporary-more want t (with_term q None u c))

pub value-more : (e : Expr) (want : Option ℕ) (t : ℕ) (b : Builder) → b.regs ≤ (with_value e want t b).regs
value-more e want t b = term-more (term_of e) want t b

register-more : (e : Expr) (t : ℕ) (b : Builder) → b.regs ≤ (with_register e t b).regs
register-more (Const n) t b = temporary-more None t b
register-more (Local x) t b = omega arith
register-more (Load width a) t b = value-more (Load width a) None t b
register-more (Bin o p q) t b = value-more (Bin o p q) None t b
register-more (High s p q) t b = value-more (High s p q) None t b

pub values-more : (es : List Expr) (t : ℕ) (b : Builder) → b.regs ≤ (with_values es t b).regs
values-more [] t b = omega arith
values-more (e ∷ es) t b = omega (arith, register-more e t b, values-more es (free_past e t) (with_register e t b))

pub stored-more : (t : ℕ) (x y : Term) (o : Operand → Operand → TacOp) (b : Builder) → b.regs ≤ (stored t x y o b).regs
stored-more t x y o b = omega (arith, term-more x None t b, term-more y None (term_free x t) (with_term x None t b))

pub tested-more : (t : ℕ) (s : Test) (one two : ℕ) (b : Builder) → b.regs ≤ (tested t s one two b).regs
tested-more t s one two b = omega (arith, value-more s.left None t b, value-more s.right None (free_from s.left t) (with_value s.left None t b))

jump-more : (fresh : Bool) (to : ℕ) (b : Builder) → b.regs ≤ (with_jump fresh to b).regs
jump-more true to b = omega arith
jump-more false to b = omega arith

left-more : (fresh : Bool) (exit : Option ℕ) (b : Builder) → b.regs ≤ (left fresh exit b).regs
left-more fresh (Some to) b = jump-more fresh to b
left-more fresh None b = omega arith

pub built-more : (t : ℕ) (fresh : Bool) (code : Code) (exit : Option ℕ) (loop : Option Targets) (b : Builder) → b.regs ≤ (built t fresh code exit loop b).regs
built-more t fresh End exit loop b = left-more fresh exit b
built-more t fresh (Set x e rest) exit loop b = omega (arith, value-more e (Some x) t b, built-more t false rest exit loop (with_value e (Some x) t b))
built-more t fresh (Store width a e rest) exit loop b =
    let c = stored t (base_of (term_of a)) (term_of e) (stores_at width a) b in
    omega (arith, stored-more t (base_of (term_of a)) (term_of e) (stores_at width a) b, built-more t false rest exit loop c)
built-more t fresh (Check check place e rest) exit loop b =
    let s = checked_test e in
    let o = op.Check check place s.comparison in
    omega (arith, stored-more t (term_of s.left) (term_of s.right) o b, built-more t false rest exit loop (stored t (term_of s.left) (term_of s.right) o b))
built-more t fresh (Call target i es place rest) exit loop b =
    omega (arith, values-more es t b, built-more t false rest exit loop (with_op (with_values es t b) (op.Call target i (registers_of es t) place)))
built-more t fresh (Get x rest) exit loop b = built-more t false rest exit loop (with_op b (op.Get x))
built-more t fresh (Put e rest) exit loop b = omega (arith, value-more e None t b, built-more t false rest exit loop (used t e op.Put b))
built-more t fresh (Alloc x e size rest) exit loop b =
    omega (arith, value-more e None t b, built-more t false rest exit loop (used t e (λ r. op.Alloc x r size) b))
built-more t fresh (If e one two rest) exit loop b =
    let join = join_of one two rest exit loop b in
    let c = forked t e one two join loop b in
    let d = built t true one (Some join) loop c in
    let first = tested-more t (test_of e false) (goal one (one_at b) (Some join) loop) (goal two (two_at one b) (Some join) loop) b in
    omega (arith, first, built-more t true one (Some join) loop c, built-more t true two (Some join) loop d, built-more t true rest exit loop (built t true two (Some join) loop d))
built-more t fresh (Loop body step rest) exit loop b =
    let c = entered fresh b in
    let head = length c.blocks in
    let here = targets_of body step rest exit loop head in
    let first = not (passes body) in
    let d = built t first body (Some here.step) (Some here) c in
    omega (arith, jump-more fresh (length b.blocks + 1) b, built-more t first body (Some here.step) (Some here) c, built-more t true step (Some head) None d, built-more t true rest exit loop (built t true step (Some head) None d))
built-more t fresh (Break rest) exit loop b = jump-more fresh (out_of loop) b
built-more t fresh (Continue rest) exit loop b = jump-more fresh (step_of loop) b
built-more t fresh (Return e rest) exit loop b = value-more e None t b

-- ---- there are few registers

pub term_free_at_most : (x : Term) (t : ℕ) → term_free x t ≤ t + 1
term_free_at_most (term.Const n) t = omega arith
term_free_at_most (term.Local x) t = omega arith
term_free_at_most (term.Load width a n) t = omega arith
term_free_at_most (term.Bin o p q) t = omega arith
term_free_at_most (term.High s p q) t = omega arith

pub free_at_most : (e : Expr) (t : ℕ) → free_from e t ≤ t + 1
free_at_most e t = term_free_at_most (term_of e) t

temporary-few : (most : ℕ) (want : Option ℕ) (t : ℕ) (b : Builder) → t + 1 ≤ most → b.regs ≤ most → (with_temporary want t b).regs ≤ most
temporary-few most (Some d) t b h few = few
temporary-few most None t b h few = omega arith

term-few : (most : ℕ) (x : Term) (want : Option ℕ) (t : ℕ) (b : Builder) → t + terms.depth x ≤ most → b.regs ≤ most → (with_term x want t b).regs ≤ most
term-few most (term.Const n) (Some d) t b h few = few
term-few most (term.Const n) None t b h few = few
term-few most (term.Local x) (Some d) t b h few = few
term-few most (term.Local x) None t b h few = few
term-few most (term.Load width a n) want t b h few =
    temporary-few most want t (with_term a None t b) (omega arith) (term-few most a None t b (omega arith) few)
term-few most (term.Bin o p q) want t b h few =
    let u = term_free p t in
    let c = with_term p None t b in
    temporary-few most want t (with_term q None u c) (omega arith)
    (term-few most q None u c (omega (arith, term_free_at_most p t)) (term-few most p None t b (omega arith) few))
term-few most (term.High s p q) want t b h few =
    let u = term_free p t in
    let c = with_term p None t b in
    temporary-few most want t (with_term q None u c) (omega arith)
    (term-few most q None u c (omega (arith, term_free_at_most p t)) (term-few most p None t b (omega arith) few))

value-few : (most : ℕ) (e : Expr) (want : Option ℕ) (t : ℕ) (b : Builder) → t + depth e ≤ most → b.regs ≤ most → (with_value e want t b).regs ≤ most
value-few most e want t b h few = term-few most (term_of e) want t b (omega (arith, term_depth e)) few

past_at_most : (e : Expr) (t : ℕ) → free_past e t ≤ t + 1
past_at_most (Const n) t = omega arith
past_at_most (Local x) t = omega arith
past_at_most (Load width a) t = omega arith
past_at_most (Bin o p q) t = omega arith
past_at_most (High s p q) t = omega arith

register-few : (most : ℕ) (e : Expr) (t : ℕ) (b : Builder) → t + depth e ≤ most → b.regs ≤ most → (with_register e t b).regs ≤ most
register-few most (Const n) t b h few = temporary-few most None t b h few
register-few most (Local x) t b h few = few
register-few most (Load width a) t b h few = value-few most (Load width a) None t b h few
register-few most (Bin o p q) t b h few = value-few most (Bin o p q) None t b h few
register-few most (High s p q) t b h few = value-few most (High s p q) None t b h few

tested-few : (e : Expr) (t one two : ℕ) (b : Builder) → t + depth e + 1 ≤ 4064 → b.regs ≤ 4064 → (tested t (test_of e false) one two b).regs ≤ 4064
tested-few e t one two b h few =
    let s = test_of e false in
    let w = within e false in
    value-few 4064 s.right None (free_from s.left t) (with_value s.left None t b) (omega (arith, w.right_depth, free_at_most s.left t))
    (value-few 4064 s.left None t b (omega (arith, w.left_depth)) few)

checked-few : (e : Expr) (t : ℕ) (b : Builder) → t + depth e + 1 ≤ 4064 → b.regs ≤ 4064
    → (with_value (checked_test e).right None (free_from (checked_test e).left t) (with_value (checked_test e).left None t b)).regs ≤ 4064
checked-few e t b h few =
    let s = checked_test e in
    let w = checked_within e in
    value-few 4064 s.right None (free_from s.left t) (with_value s.left None t b) (omega (arith, w.right_depth, free_at_most s.left t))
    (value-few 4064 s.left None t b (omega (arith, w.left_depth)) few)

values-few : (es : List Expr) (t : ℕ) (b : Builder) → t + length es ≤ 2255 → All IsShallow es → b.regs ≤ 4064 → (with_values es t b).regs ≤ 4064
values-few [] t b h all few = few
values-few (e ∷ es) t b h all few =
    let shallow : depth e ≤ 1000 = All-head IsShallow e es all in
    values-few es (free_past e t) (with_register e t b) (omega (arith, past_at_most e t)) (All-tail IsShallow e es all)
    (register-few 4064 e t b (omega arith) few)

jump-few : (fresh : Bool) (to most : ℕ) (b : Builder) → b.regs ≤ most → (with_jump fresh to b).regs ≤ most
jump-few true to most b few = few
jump-few false to most b few = few

left-few : (fresh : Bool) (exit : Option ℕ) (most : ℕ) (b : Builder) → b.regs ≤ most → (left fresh exit b).regs ≤ most
left-few fresh (Some to) most b few = jump-few fresh to most b few
left-few fresh None most b few = few

built-few : (t : ℕ) → t ≤ 2000 → (fresh : Bool) (code : Code) (exit : Option ℕ) (loop : Option Targets) (b : Builder) → KeepsLimits code → b.regs ≤ 4064
    → (built t fresh code exit loop b).regs ≤ 4064
built-few t l fresh End exit loop b k few = left-few fresh exit 4064 b few
built-few t l fresh (Set x e rest) exit loop b k few =
    built-few t l false rest exit loop (with_value e (Some x) t b) k.1 (value-few 4064 e (Some x) t b (omega (arith, k.0)) few)
built-few t l fresh (Store width a e rest) exit loop b k few =
    let x = base_of (term_of a) in
    built-few t l false rest exit loop (stored t x (term_of e) (stores_at width a) b) k.2
    (value-few 4064 e None (term_free x t) (with_term x None t b) (omega (arith, k.1, term_free_at_most x t))
    (term-few 4064 x None t b (omega (arith, k.0, base_depth (term_of a), term_depth a)) few))
built-few t l fresh (Check check place e rest) exit loop b k few =
    built-few t l false rest exit loop (compares t (checked_test e) (op.Check check place) b) k.1 (checked-few e t b (omega (arith, k.0)) few)
built-few t l fresh (Call target i es place rest) exit loop b k few =
    built-few t l false rest exit loop (with_op (with_values es t b) (op.Call target i (registers_of es t) place)) k.2
    (values-few es t b (omega (arith, k.0)) k.1 few)
built-few t l fresh (Get x rest) exit loop b k few = built-few t l false rest exit loop (with_op b (op.Get x)) k few
built-few t l fresh (Put e rest) exit loop b k few =
    built-few t l false rest exit loop (used t e op.Put b) k.1 (value-few 4064 e None t b (omega (arith, k.0)) few)
built-few t l fresh (Alloc x e size rest) exit loop b k few =
    built-few t l false rest exit loop (used t e (λ r. op.Alloc x r size) b) k.1 (value-few 4064 e None t b (omega (arith, k.0)) few)
built-few t l fresh (If e one two rest) exit loop b k few =
    let join = join_of one two rest exit loop b in
    let c = forked t e one two join loop b in
    let d = built t true one (Some join) loop c in
    built-few t l true rest exit loop (built t true two (Some join) loop d) k.3
    (built-few t l true two (Some join) loop d k.2 (built-few t l true one (Some join) loop c k.1
    (tested-few e t (goal one (one_at b) (Some join) loop) (goal two (two_at one b) (Some join) loop) b (omega (arith, k.0)) few)))
built-few t l fresh (Loop body step rest) exit loop b k few =
    let c = entered fresh b in
    let head = length c.blocks in
    let here = targets_of body step rest exit loop head in
    let first = not (passes body) in
    let d = built t first body (Some here.step) (Some here) c in
    built-few t l true rest exit loop (built t true step (Some head) None d) k.2
    (built-few t l true step (Some head) None d k.1 (built-few t l first body (Some here.step) (Some here) c k.0 (jump-few fresh (length b.blocks + 1) 4064 b few)))
built-few t l fresh (Break rest) exit loop b k few = jump-few fresh (out_of loop) 4064 b few
built-few t l fresh (Continue rest) exit loop b k few = jump-few fresh (step_of loop) 4064 b few
built-few t l fresh (Return e rest) exit loop b k few = value-few 4064 e None t b (omega (arith, k.0)) few

few_each : (fs : List Function) → All IsSmallFunction fs → All (λ (g : TacFunc). g.regs ≤ 4064) (map lowered_function fs)
few_each [] all = All-nil (λ (g : TacFunc). g.regs ≤ 4064)
few_each (f ∷ fs) all =
    let small = All-head IsSmallFunction f fs all in
    All-cons (λ (g : TacFunc). g.regs ≤ 4064) (lowered_function f) (map lowered_function fs)
    (built-few f.locals small.0 true f.body None None (empty f.locals) small.1 (omega (arith, small.0)))
    (few_each fs (All-tail IsSmallFunction f fs all))

-- each function of a program within the limits has few registers
pub lowered_few : (p : Program) → IsWithinLimits p → HasFewRegisters (lowered p)
lowered_few p l = few_each p.functions l
