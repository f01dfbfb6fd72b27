-- The size of what is built is at most that of the code.
use Rattle.std.proofs.Common.{◌≡◌, ℕ, ◌+◌, ◌≤◌, List, [], ◌∷◌, ◌++◌, length, refl, ◌∙◌, ap, arith}
use Rattle.std.specs.Prelude.{Bool, true, false, not, ◌&&◌, if◌then◌else◌, Option, Some, None, sum_by, map}
use Rattle.std.proofs.lemmas.List.Sums.{sum_by-append}
use Rattle.ckc_base.specs.declared.places.Pos.{Pos}
use Rattle.ckc_base.specs.declared.runtime_checks.Check.{Check as CheckName}
use Rattle.ckc_base.specs.declared.arithmetic.Width.{Width}
use Rattle.ckc_base.specs.declared.arithmetic.BinOp.{BinOp}
use Rattle.ckc_base.specs.Sizes.{operation_size, store_size, branch_size, const_size, call_size, jump_size, return_size}
use Rattle.ckc_core.specs.Code.{Expr, Const, Local, Load, Bin, High, Code, End, Set, Store, Check, Call, Get, Put, Alloc, If, Loop, Break, Continue, Return, Function, Program}
use Rattle.ckc_core.specs.Sizes.{expr_size, exprs_size, set_size, code_size, function_size, program_size}
use Rattle.ckc_tac.specs.declared.code.TacBlock.{TacBlock}
use Rattle.ckc_tac.specs.declared.code.Operand.{Operand}
use Rattle.ckc_tac.specs.declared.code.Operand.TheVariants.{Number}
use Rattle.ckc_tac.specs.declared.code.TacOp.{TacOp}
use Rattle.ckc_tac.specs.declared.code.TacOp.TheVariants as op
use Rattle.ckc_tac.specs.declared.code.TacEnd.{TacEnd}
use Rattle.ckc_tac.specs.declared.code.TacEnd.TheVariants as ends
use Rattle.ckc_tac.specs.Sizes as T
use Rattle.ckc_lower.specs.declared.builder.Builder.{Builder}
use Rattle.ckc_lower.specs.declared.builder.Targets.{Targets}
use Rattle.ckc_lower.specs.code.Terms.{Term, term_of, base_of}
use Rattle.ckc_lower.specs.code.Terms as term
use Rattle.ckc_lower.specs.code.Built.{free_from, term_free, target_of, operand_of, term_operand, with_term, stores_at, registers_of, with_op, with_temporary, with_value, with_values, with_end, with_jump, left, passes, goal, stored, used, compares, checked_test, one_at, two_at, forked, join_of, entered, targets_of, out_of, step_of, built, bin_of, is_even, is_number, free_past, with_register, test_of, branch_of, tested}
use Rattle.ckc_lower.proofs.Arguments.{length-registers_of}
use Rattle.ckc_lower.proofs.Terms.{base_size, term_size, term_set_size}
use Rattle.ckc_lower.proofs.Terms as terms
use Rattle.ckc_lower.proofs.Conditions.{side_size, within, checked_within}
use Rattle.ckc_lower.specs.code.Lowered.{empty, whole, lowered_function, lowered}

-- the size of what a builder has
unfoldable pub size : Builder → ℕ
size b = sum_by T.block_size b.blocks + T.ops_size b.ops

pub size-op : (b : Builder) (o : TacOp) → size (with_op b o) ≡ size b + T.op_size o
unfolding size
size-op b o =
    let e : T.ops_size (b.ops ++ o ∷ []) ≡ T.ops_size b.ops + (0 + T.op_size o) = sum_by-append T.op_size b.ops (o ∷ []) in
    omega (arith, e)

pub size-end : (b : Builder) (end : TacEnd) → size (with_end b end) ≡ size b + T.end_size end
unfolding size
size-end b end =
    let block : TacBlock = record { ops = b.ops; end = end } in
    let e : sum_by T.block_size (b.blocks ++ block ∷ []) ≡ sum_by T.block_size b.blocks + (0 + T.block_size block) = sum_by-append T.block_size b.blocks (block ∷ []) in
    omega (arith, e)

pub size-temporary : (want : Option ℕ) (t : ℕ) (b : Builder) → size (with_temporary want t b) ≡ size b
unfolding size
size-temporary (Some d) t b = refl
size-temporary None t b = refl

-- what a term adds if its value is wanted in a register, or anywhere
abbrev wanted_size : Option ℕ → Term → ℕ
wanted_size (Some d) x = terms.set_size x
wanted_size None x = terms.size x

wanted-load : (want : Option ℕ) (width : Width) (a : Term) (n : ℕ) → wanted_size want (term.Load width a n) ≡ terms.size (term.Load width a n)
wanted-load (Some d) width a n = refl
wanted-load None width a n = refl

wanted-bin : (want : Option ℕ) (o : BinOp) (p q : Term) → wanted_size want (term.Bin o p q) ≡ terms.size (term.Bin o p q)
wanted-bin (Some d) o p q = refl
wanted-bin None o p q = refl

wanted-high : (want : Option ℕ) (s : Bool) (p q : Term) → wanted_size want (term.High s p q) ≡ terms.size (term.High s p q)
wanted-high (Some d) s p q = refl
wanted-high None s p q = refl

either-size : (exchanged : Bool) (o : BinOp) (d : ℕ) (a b : Operand) → T.op_size (if exchanged then op.Bin o d b a else op.Bin o d a b) ≡ operation_size
either-size true o d a b = refl
either-size false o d a b = refl

bin-size : (o : BinOp) (d : ℕ) (a b : Operand) → T.op_size (bin_of o d a b) ≡ operation_size
bin-size o d a b = either-size (is_even o && is_number a) o d a b

size-term : (x : Term) (want : Option ℕ) (t : ℕ) (b : Builder) → size (with_term x want t b) ≤ size b + wanted_size want x
size-term (term.Const n) (Some d) t b = let e = size-op b (op.Const d n) in omega (arith, e)
size-term (term.Const n) None t b = omega arith
size-term (term.Local x) (Some d) t b = let e = size-op b (op.Copy d x) in omega (arith, e)
size-term (term.Local x) None t b = omega arith
size-term (term.Load width a n) want t b =
    let c = with_term a None t b in
    let d = with_temporary want t c in
    let first = size-term a None t b in
    let second = size-temporary want t c in
    let third = size-op d (op.Load width (target_of want t) (term_operand a None t) n) in
    let fourth = wanted-load want width a n in
    omega (arith, first, second, third, fourth)
size-term (term.Bin o p q) want t b =
    let u = term_free p t in
    let c = with_term p None t b in
    let d = with_term q None u c in
    let f = with_temporary want t d in
    let first = size-term p None t b in
    let second = size-term q None u c in
    let third = size-temporary want t d in
    let last = bin_of o (target_of want t) (term_operand p None t) (term_operand q None u) in
    let fourth = size-op f last in
    let fifth = wanted-bin want o p q in
    let sixth = bin-size o (target_of want t) (term_operand p None t) (term_operand q None u) in
    omega (arith, first, second, third, fourth, fifth, sixth)
size-term (term.High s p q) want t b =
    let u = term_free p t in
    let c = with_term p None t b in
    let d = with_term q None u c in
    let f = with_temporary want t d in
    let first = size-term p None t b in
    let second = size-term q None u c in
    let third = size-temporary want t d in
    let fourth = size-op f (op.High s (target_of want t) (term_operand p None t) (term_operand q None u)) in
    let fifth = wanted-high want s p q in
    omega (arith, first, second, third, fourth, fifth)

size-value : (e : Expr) (t : ℕ) (b : Builder) → size (with_value e None t b) ≤ size b + expr_size e
size-value e t b = omega (arith, size-term (term_of e) None t b, term_size e)

size-set : (e : Expr) (x t : ℕ) (b : Builder) → size (with_value e (Some x) t b) ≤ size b + set_size e
size-set e x t b = omega (arith, size-term (term_of e) (Some x) t b, term_set_size e)

sum_by-cons : {X : Type 0} (f : X → ℕ) (x : X) (xs : List X) → sum_by f (x ∷ xs) ≡ f x + sum_by f xs
sum_by-cons f x xs =
    let none : 0 + f x ≡ f x = omega arith in
    sum_by-append f (x ∷ []) xs ∙ ap (λ n. n + sum_by f xs) none

size-register : (e : Expr) (t : ℕ) (b : Builder) → size (with_register e t b) ≤ size b + expr_size e
size-register (Const n) t b =
    let first = size-temporary None t b in
    let second = size-op (with_temporary None t b) (op.Const t n) in
    omega (arith, first, second)
size-register (Local x) t b = omega arith
size-register (Load width a) t b = size-value (Load width a) t b
size-register (Bin o p q) t b = size-value (Bin o p q) t b
size-register (High s p q) t b = size-value (High s p q) t b

-- an expression and what reads its value
size-side : (e : Expr) (t : ℕ) (b : Builder) → size (with_value e None t b) + T.operand_size (operand_of e None t) ≤ size b + side_size e
size-side (Const n) t b = omega arith
size-side (Local x) t b = omega arith
size-side (Load width a) t b = omega (arith, size-value (Load width a) t b)
size-side (Bin o p q) t b = omega (arith, size-value (Bin o p q) t b)
size-side (High s p q) t b = omega (arith, size-value (High s p q) t b)

size-tested : (e : Expr) (t one two : ℕ) (b : Builder) → size (tested t (test_of e false) one two b) ≤ size b + expr_size e + branch_size
size-tested e t one two b =
    let s = test_of e false in
    let u = free_from s.left t in
    let c = with_value s.left None t b in
    let first = size-side s.left t b in
    let second = size-side s.right u c in
    let third = size-end (with_value s.right None u c) (branch_of s t one two) in
    let fourth = (within e false).size_few in
    omega (arith, first, second, third, fourth)

size-checked : (e : Expr) (t : ℕ) (check : CheckName) (place : Pos) (b : Builder) → size (compares t (checked_test e) (op.Check check place) b) ≤ size b + expr_size e + 13
size-checked e t check place b =
    let s = checked_test e in
    let u = free_from s.left t in
    let c = with_value s.left None t b in
    let first = size-side s.left t b in
    let second = size-side s.right u c in
    let third = size-op (with_value s.right None u c) (op.Check check place s.comparison (operand_of s.left None t) (operand_of s.right None u)) in
    let fourth = (checked_within e).size_few in
    omega (arith, first, second, third, fourth)

size-values : (es : List Expr) (t : ℕ) (b : Builder) → size (with_values es t b) ≤ size b + exprs_size es
size-values [] t b = omega arith
size-values (e ∷ es) t b =
    let first = size-register e t b in
    let second = size-values es (free_past e t) (with_register e t b) in
    let third = sum_by-cons expr_size e es in
    omega (arith, first, second, third)

size-store : (t : ℕ) (width : Width) (a e : Expr) (b : Builder)
    → size (stored t (base_of (term_of a)) (term_of e) (stores_at width a) b) ≤ size b + expr_size a + expr_size e + store_size
size-store t width a e b =
    let x = base_of (term_of a) in
    let u = term_free x t in
    let c = with_term x None t b in
    let first = size-term x None t b in
    let second = size-value e u c in
    let third = size-op (with_value e None u c) (stores_at width a (term_operand x None t) (operand_of e None u)) in
    omega (arith, first, second, third, base_size (term_of a), term_size a)

size-used : (t : ℕ) (e : Expr) (o : Operand → TacOp) (b : Builder) → size (used t e o b) ≤ size b + expr_size e + T.op_size (o (operand_of e None t))
size-used t e o b =
    let first = size-value e t b in
    let second = size-op (with_value e None t b) (o (operand_of e None t)) in
    omega (arith, first, second)

-- what the end of the function adds to the jump that is counted for the end of a list
abbrev fall_size : Option ℕ → ℕ
fall_size (Some to) = 0
fall_size None = const_size + return_size

size-jump : (fresh : Bool) (to : ℕ) (b : Builder) → size (with_jump fresh to b) ≤ size b + jump_size
size-jump true to b = omega arith
size-jump false to b = omega (arith, size-end b (ends.Jump to))

size-left : (fresh : Bool) (exit : Option ℕ) (b : Builder) → size (left fresh exit b) ≤ size b + jump_size + fall_size exit
size-left fresh (Some to) b = omega (arith, size-jump fresh to b)
size-left fresh None b = omega (arith, size-end b (ends.Return (Number 0)))

size-built : (t : ℕ) (fresh : Bool) (code : Code) (exit : Option ℕ) (loop : Option Targets) (b : Builder) → size (built t fresh code exit loop b) ≤ size b + code_size code + fall_size exit
size-built t fresh End exit loop b = size-left fresh exit b
size-built t fresh (Set x e rest) exit loop b =
    let first = size-set e x t b in
    let second = size-built t false rest exit loop (with_value e (Some x) t b) in
    omega (arith, first, second)
size-built t fresh (Store width a e rest) exit loop b =
    let first = size-store t width a e b in
    let second = size-built t false rest exit loop (stored t (base_of (term_of a)) (term_of e) (stores_at width a) b) in
    omega (arith, first, second)
size-built t fresh (Check check place e rest) exit loop b =
    let first = size-checked e t check place b in
    let second = size-built t false rest exit loop (compares t (checked_test e) (op.Check check place) b) in
    omega (arith, first, second)
size-built t fresh (Call target i es place rest) exit loop b =
    let o = op.Call target i (registers_of es t) place in
    let c = with_values es t b in
    let first = size-values es t b in
    let second = size-op c o in
    let third = size-built t false rest exit loop (with_op c o) in
    let fourth : T.op_size o ≡ call_size (length es) = ap call_size (length-registers_of es t) in
    omega (arith, first, second, third, fourth)
size-built t fresh (Get x rest) exit loop b =
    let first = size-op b (op.Get x) in
    let second = size-built t false rest exit loop (with_op b (op.Get x)) in
    omega (arith, first, second)
size-built t fresh (Put e rest) exit loop b =
    let first = size-used t e op.Put b in
    let second = size-built t false rest exit loop (used t e op.Put b) in
    omega (arith, first, second)
size-built t fresh (Alloc x e size rest) exit loop b =
    let o : Operand → TacOp = λ r. op.Alloc x r size in
    let first = size-used t e o b in
    let second = size-built t false rest exit loop (used t e o b) in
    omega (arith, first, second)
size-built t fresh (If e one two rest) exit loop b =
    let join = join_of one two rest exit loop b in
    let c = forked t e one two join loop b in
    let d = built t true one (Some join) loop c in
    let f = built t true two (Some join) loop d in
    let first = size-tested e t (goal one (one_at b) (Some join) loop) (goal two (two_at one b) (Some join) loop) b in
    let second = size-built t true one (Some join) loop c in
    let third = size-built t true two (Some join) loop d in
    let fourth = size-built t true rest exit loop f in
    omega (arith, first, second, third, fourth)
size-built t fresh (Loop body step rest) exit loop b =
    let c = entered fresh b in
    let head = length c.blocks in
    let here = targets_of body step rest exit loop head in
    let inner = not (passes body) in
    let d = built t inner body (Some here.step) (Some here) c in
    let f = built t true step (Some head) None d in
    let first = size-jump fresh (length b.blocks + 1) b in
    let second = size-built t inner body (Some here.step) (Some here) c in
    let third = size-built t true step (Some head) None d in
    let fourth = size-built t true rest exit loop f in
    omega (arith, first, second, third, fourth)
size-built t fresh (Break rest) exit loop b = omega (arith, size-jump fresh (out_of loop) b)
size-built t fresh (Continue rest) exit loop b = omega (arith, size-jump fresh (step_of loop) b)
size-built t fresh (Return e rest) exit loop b =
    let first = size-value e t b in
    let second = size-end (with_value e None t b) (ends.Return (operand_of e None t)) in
    omega (arith, first, second)

blocks_within : (b : Builder) → sum_by T.block_size b.blocks ≤ size b
unfolding size
blocks_within b = omega arith

size-empty : (locals : ℕ) → size (empty locals) ≡ 0
unfolding size
size-empty locals = refl

lowered_function_size : (f : Function) → T.function_size (lowered_function f) ≤ function_size f
lowered_function_size f =
    let first = size-built f.locals true f.body None None (empty f.locals) in
    let second = blocks_within (whole f) in
    let third = size-empty f.locals in
    omega (arith, first, second, third)

lowered_functions_size : (fs : List Function) → sum_by T.function_size (map lowered_function fs) ≤ sum_by function_size fs
lowered_functions_size [] = omega arith
lowered_functions_size (f ∷ fs) =
    let first = lowered_function_size f in
    let second = lowered_functions_size fs in
    let third = sum_by-cons T.function_size (lowered_function f) (map lowered_function fs) in
    let fourth = sum_by-cons function_size f fs in
    omega (arith, first, second, third, fourth)

pub lowered_size : (p : Program) → T.program_size (lowered p) ≤ program_size p
lowered_size p = lowered_functions_size p.functions
