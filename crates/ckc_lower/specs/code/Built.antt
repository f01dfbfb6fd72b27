-- What the builder of a function is after each part of its code. It mirrors the code and need not be believed.
use Rattle.std.specs.Prelude.{ℕ, ◌+◌, max, ◌==◌, ◌&&◌, if◌then◌else◌, Bool, true, false, not, List, [], ◌∷◌, ◌++◌, length, Option, Some, None}
use Rattle.ckc_base.specs.declared.arithmetic.BinOp.{BinOp}
use Rattle.ckc_base.specs.declared.arithmetic.BinOp.TheVariants as binary
use Rattle.ckc_core.specs.Code.{Expr, Const, Local, Load, Bin, High, Code, End, Set, Store, Check, Call, Get, Put, Alloc, If, Loop, Break, Continue, Return}
use Rattle.ckc_base.specs.declared.arithmetic.Width.{Width}
use Rattle.ckc_tac.specs.declared.code.Comparison.{Comparison}
use Rattle.ckc_tac.specs.declared.code.Comparison.TheVariants.{LtS, LtU, Eq, Ne}
use Rattle.ckc_tac.specs.declared.code.Operand.{Operand}
use Rattle.ckc_tac.specs.declared.code.Operand.TheVariants.{Register, Number}
use Rattle.ckc_tac.specs.declared.code.TacOp.{TacOp}
use Rattle.ckc_tac.specs.declared.code.TacOp.TheVariants as op
use Rattle.ckc_tac.specs.declared.code.TacEnd.{TacEnd}
use Rattle.ckc_tac.specs.declared.code.TacEnd.TheVariants as ends
use Rattle.ckc_lower.specs.code.Terms.{Term, term_of, base_of, offset_of}
use Rattle.ckc_lower.specs.code.Terms as term
use Rattle.ckc_lower.specs.declared.builder.Builder.{Builder}
use Rattle.ckc_lower.specs.declared.builder.Targets.{Targets}

-- ---- expressions

-- the first temporary that is free beside the value of an expression, which was computed from t on
abbrev pub term_free : Term → ℕ → ℕ
term_free (term.Const n) t = t
term_free (term.Local x) t = t
term_free (term.Load width a n) t = t + 1
term_free (term.Bin op a b) t = t + 1
term_free (term.High is_signed a b) t = t + 1

abbrev pub free_from : Expr → ℕ → ℕ
free_from e t = term_free (term_of e) t

-- the register that an operation writes: the one that is wanted, or the temporary t
abbrev pub target_of : Option ℕ → ℕ → ℕ
target_of (Some d) t = d
target_of None t = t

-- where the value of an expression is
abbrev pub term_operand : Term → Option ℕ → ℕ → Operand
term_operand (term.Const n) (Some d) t = Register d
term_operand (term.Const n) None t = Number n
term_operand (term.Local x) (Some d) t = Register d
term_operand (term.Local x) None t = Register x
term_operand (term.Load width a n) want t = Register (target_of want t)
term_operand (term.Bin op a b) want t = Register (target_of want t)
term_operand (term.High is_signed a b) want t = Register (target_of want t)

abbrev pub operand_of : Expr → Option ℕ → ℕ → Operand
operand_of e want t = term_operand (term_of e) want t

-- whether an operation gives the same with its operands exchanged
abbrev pub is_even : BinOp → Bool
is_even binary.Add = true
is_even binary.Mul = true
is_even binary.And = true
is_even binary.Or = true
is_even binary.Xor = true
is_even binary.Eq = true
is_even binary.Ne = true
is_even o = false

abbrev pub is_number : Operand → Bool
is_number (Register r) = false
is_number (Number n) = true

-- an operation on two operands; a number comes second if it may
abbrev pub bin_of : BinOp → ℕ → Operand → Operand → TacOp
bin_of o d a b = if is_even o && is_number a then op.Bin o d b a else op.Bin o d a b

abbrev pub with_op : Builder → TacOp → Builder
with_op b o = record b { ops = b.ops ++ o ∷ [] }

-- the temporary t is used, unless another register is wanted
abbrev pub with_temporary : Option ℕ → ℕ → Builder → Builder
with_temporary (Some d) t b = b
with_temporary None t b = record b { regs = max b.regs (t + 1) }

-- the value of an expression is computed into the wanted register, or to where `operand_of` tells
abbrev pub with_term : Term → Option ℕ → ℕ → Builder → Builder
with_term (term.Const n) (Some d) t b = with_op b (op.Const d n)
with_term (term.Const n) None t b = b
with_term (term.Local x) (Some d) t b = with_op b (op.Copy d x)
with_term (term.Local x) None t b = b
with_term (term.Load width a n) want t b =
    with_op (with_temporary want t (with_term a None t b)) (op.Load width (target_of want t) (term_operand a None t) n)
with_term (term.Bin o p q) want t b =
    with_op (with_temporary want t (with_term q None (term_free p t) (with_term p None t b)))
    (bin_of o (target_of want t) (term_operand p None t) (term_operand q None (term_free p t)))
with_term (term.High is_signed p q) want t b =
    with_op (with_temporary want t (with_term q None (term_free p t) (with_term p None t b)))
    (op.High is_signed (target_of want t) (term_operand p None t) (term_operand q None (term_free p t)))

abbrev pub with_value : Expr → Option ℕ → ℕ → Builder → Builder
with_value e want t b = with_term (term_of e) want t b

-- the register of an argument: that of a local, or the temporary t
abbrev pub register_of : Expr → ℕ → ℕ
register_of (Local x) t = x
register_of e t = t

-- the first temporary that is free beside an argument
abbrev pub free_past : Expr → ℕ → ℕ
free_past (Local x) t = t
free_past e t = t + 1

-- the value of an expression is computed into a register
abbrev pub with_register : Expr → ℕ → Builder → Builder
with_register (Const n) t b = with_op (with_temporary None t b) (op.Const t n)
with_register e t b = with_value e None t b

-- values of several expressions, each in a register of its own
abbrev pub with_values : List Expr → ℕ → Builder → Builder
with_values [] t b = b
with_values (e ∷ es) t b = with_values es (free_past e t) (with_register e t b)

abbrev pub registers_of : List Expr → ℕ → List ℕ
registers_of [] t = []
registers_of (e ∷ es) t = register_of e t ∷ registers_of es (free_past e t)

-- ---- conditions

-- What a condition compares: it holds if the comparison holds, or, if it is turned, if that does not.
pub record Test : Type 0 where
  pub comparison : Comparison
  pub left : Expr
  pub right : Expr
  pub turned : Bool

abbrev pub is_zero : Expr → Bool
is_zero (Const n) = n == 0
is_zero e = false

abbrev pub test : Comparison → Expr → Expr → Bool → Test
test comparison p q turned = record { comparison = comparison; left = p; right = q; turned = turned }

-- the test of an operation, by whether its right side is zero, and the tests of its left side
abbrev pub test_of_bin : BinOp → Expr → Expr → (zero : Bool) → (Bool → Test) → Bool → Test
test_of_bin binary.LtS p q zero left turned = test LtS p q turned
test_of_bin binary.LtU p q zero left turned = test LtU p q turned
test_of_bin binary.Eq p q true left turned = left (not turned)
test_of_bin binary.Eq p q false left turned = test Eq p q turned
test_of_bin binary.Ne p q true left turned = left turned
test_of_bin binary.Ne p q false left turned = test Ne p q turned
test_of_bin o p q zero left turned = test Ne (Bin o p q) (Const 0) turned

-- The test of a condition. A comparison is one itself, and a comparison with zero is the test of the other side; any
-- other value is compared with zero.
abbrev pub test_of : Expr → (turned : Bool) → Test
test_of (Bin o p q) turned = test_of_bin o p q (is_zero q) (test_of p) turned
test_of e turned = test Ne e (Const 0) turned

-- What a check compares: the sides of a comparison, or any other value and zero.
abbrev pub checked_test : Expr → Test
checked_test (Bin o p q) = test_of_bin o p q false (test Ne p (Const 0)) false
checked_test e = test Ne e (Const 0) false

-- one of two, the second if it is turned
abbrev pub picked : Bool → ℕ → ℕ → ℕ
picked false one two = one
picked true one two = two

-- ---- statements

-- whether the code goes on to what comes after it, or out of it, before it does anything
abbrev pub passes : Code → Bool
passes End = true
passes (Break rest) = true
passes (Continue rest) = true
passes code = false

abbrev pub out_of : Option Targets → ℕ
out_of (Some targets) = targets.out
out_of None = 0

abbrev pub step_of : Option Targets → ℕ
step_of (Some targets) = targets.step
step_of None = 0

-- Where control goes that is to run the code: to the block where the code stands, or to where the code goes on at once.
abbrev pub goal : Code → (at : ℕ) → Option ℕ → Option Targets → ℕ
goal End at (Some to) loop = to
goal End at None loop = at
goal (Break rest) at exit loop = out_of loop
goal (Continue rest) at exit loop = step_of loop
goal code at exit loop = at

-- How many blocks the code ends. A fresh one is open, with no operation, and no control comes to it in another way
-- than for this code: code that passes makes no block of it. The flag tells whether a block comes after the code.
abbrev pub block_count : (fresh behind : Bool) → Code → ℕ
block_count true true End = 0
block_count true false End = 1
block_count false behind End = 1
block_count fresh behind (Set x e rest) = block_count false behind rest
block_count fresh behind (Store width a e rest) = block_count false behind rest
block_count fresh behind (Check check at e rest) = block_count false behind rest
block_count fresh behind (Call target callee es at rest) = block_count false behind rest
block_count fresh behind (Get x rest) = block_count false behind rest
block_count fresh behind (Put e rest) = block_count false behind rest
block_count fresh behind (Alloc x e size rest) = block_count false behind rest
block_count fresh behind (If e one two rest) =
    1 + block_count true true one + block_count true true two + block_count true behind rest
block_count fresh behind (Loop body step rest) =
    (if fresh then 0 else 1) + block_count (not (passes body)) true body + block_count true true step + block_count true behind rest
block_count fresh behind (Break rest) = if fresh then 0 else 1
block_count fresh behind (Continue rest) = if fresh then 0 else 1
block_count fresh behind (Return e rest) = 1

-- the open block is done and has this end
abbrev pub with_end : Builder → TacEnd → Builder
with_end b end = record b { blocks = b.blocks ++ record { ops = b.ops; end = end } ∷ []; ops = [] }

-- a jump ends the open block, unless that is fresh
abbrev pub with_jump : (fresh : Bool) → ℕ → Builder → Builder
with_jump true to b = b
with_jump false to b = with_end b (ends.Jump to)

-- the end of a list of statements: a jump, or at the end of the function the return of 0
abbrev pub left : (fresh : Bool) → Option ℕ → Builder → Builder
left fresh (Some to) b = with_jump fresh to b
left fresh None b = with_end b (ends.Return (Number 0))

-- two values are computed, and what reads both comes next
abbrev pub stored : ℕ → (x y : Term) → (Operand → Operand → TacOp) → Builder → Builder
stored t x y o b =
    with_op (with_term y None (term_free x t) (with_term x None t b))
    (o (term_operand x None t) (term_operand y None (term_free x t)))

-- the store of a value at an address
abbrev pub stores_at : Width → Expr → Operand → Operand → TacOp
stores_at width a p v = op.Store width p (offset_of (term_of a)) v

abbrev pub used : ℕ → Expr → (Operand → TacOp) → Builder → Builder
used t e o b = with_op (with_value e None t b) (o (operand_of e None t))

-- both sides of a test are computed, and what compares them comes next
abbrev pub compares : ℕ → Test → (Comparison → Operand → Operand → TacOp) → Builder → Builder
compares t s o b = stored t (term_of s.left) (term_of s.right) (o s.comparison) b

-- the branch of a test to one of two blocks
abbrev pub branch_of : Test → (t one two : ℕ) → TacEnd
branch_of s t one two =
    ends.Branch s.comparison (operand_of s.left None t) (operand_of s.right None (free_from s.left t))
    (picked s.turned one two) (picked s.turned two one)

-- both sides of a test are computed, and the open block ends with its branch
abbrev pub tested : ℕ → Test → (one two : ℕ) → Builder → Builder
tested t s one two b = with_end (with_value s.right None (free_from s.left t) (with_value s.left None t b)) (branch_of s t one two)

-- where the two parts of an If stand, and what comes after it
abbrev pub one_at : Builder → ℕ
one_at b = length b.blocks + 1

abbrev pub two_at : Code → Builder → ℕ
two_at one b = one_at b + block_count true true one

abbrev pub behind_at : (one two : Code) → Builder → ℕ
behind_at one two b = two_at one b + block_count true true two

-- where the parts go on
abbrev pub join_of : (one two rest : Code) → Option ℕ → Option Targets → Builder → ℕ
join_of one two rest exit loop b = goal rest (behind_at one two b) exit loop

abbrev pub forked : ℕ → Expr → (one two : Code) → (join : ℕ) → Option Targets → Builder → Builder
forked t e one two join loop b =
    tested t (test_of e false) (goal one (one_at b) (Some join) loop) (goal two (two_at one b) (Some join) loop) b

-- A loop begins in a block of its own: the open one, if it is fresh, else the next one.
abbrev pub entered : (fresh : Bool) → Builder → Builder
entered fresh b = with_jump fresh (length b.blocks + 1) b

-- the body of a loop has a block of its own in any case
abbrev pub body_count : Code → ℕ
body_count body = block_count (not (passes body)) true body

abbrev pub step_at : Code → (head : ℕ) → ℕ
step_at body head = head + body_count body

abbrev pub out_at : (body step : Code) → (head : ℕ) → ℕ
out_at body step head = step_at body head + block_count true true step

abbrev pub targets_of : (body step rest : Code) → Option ℕ → Option Targets → (head : ℕ) → Targets
targets_of body step rest exit loop head = record {
  out = goal rest (out_at body step head) exit loop;
  step = goal step (step_at body head) (Some head) None;
}

-- The code is built after what stands; fresh tells whether the open block is, t is the first temporary, exit the block
-- after the code, and loop the innermost loop. What stands after a Break, a Continue or a Return is never reached and
-- not built.
abbrev pub built : ℕ → (fresh : Bool) → Code → Option ℕ → Option Targets → Builder → Builder
built t fresh End exit loop b = left fresh exit b
built t fresh (Set x e rest) exit loop b = built t false rest exit loop (with_value e (Some x) t b)
built t fresh (Store width a e rest) exit loop b =
    built t false rest exit loop (stored t (base_of (term_of a)) (term_of e) (stores_at width a) b)
built t fresh (Check check at e rest) exit loop b =
    built t false rest exit loop (compares t (checked_test e) (op.Check check at) b)
built t fresh (Call target callee es at rest) exit loop b =
    built t false rest exit loop (with_op (with_values es t b) (op.Call target callee (registers_of es t) at))
built t fresh (Get x rest) exit loop b = built t false rest exit loop (with_op b (op.Get x))
built t fresh (Put e rest) exit loop b = built t false rest exit loop (used t e op.Put b)
built t fresh (Alloc x e size rest) exit loop b = built t false rest exit loop (used t e (λ r. op.Alloc x r size) b)
built t fresh (If e one two rest) exit loop b =
    let join = join_of one two rest exit loop b in
    built t true rest exit loop (built t true two (Some join) loop
    (built t true one (Some join) loop (forked t e one two join loop b)))
built t fresh (Loop body step rest) exit loop b =
    let head = length (entered fresh b).blocks in
    let here = targets_of body step rest exit loop head in
    built t true rest exit loop (built t true step (Some head) None
    (built t (not (passes body)) body (Some here.step) (Some here) (entered fresh b)))
built t fresh (Break rest) exit loop b = with_jump fresh (out_of loop) b
built t fresh (Continue rest) exit loop b = with_jump fresh (step_of loop) b
built t fresh (Return e rest) exit loop b = with_end (with_value e None t b) (ends.Return (operand_of e None t))
