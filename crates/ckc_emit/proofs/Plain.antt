-- Operations that compute, copy, load or check, and blocks that branch after them.
use Rattle.std.proofs.Common.{◌≡◌, ℕ, ◌+◌, ◌*◌, ◌≤◌, ◌<◌, ◌==◌, nat_lt, if◌then◌else◌, Bool, true, false, List, [], ◌∷◌, length, refl, sym, ap, ◌∙◌, arith}
use Rattle.std.specs.Prelude.{sum_by}
use Rattle.std.proofs.lemmas.List.Sums.{sum_by-cons}
use Rattle.std.proofs.lemmas.Bool.Decides.{nat_tests}
use Rattle.ckc_asm_lines.specs.declared.lines.Line.{Line}
use Rattle.ckc_tac.specs.declared.code.Operand.{Operand}
use Rattle.ckc_tac.specs.declared.code.Operand.TheVariants.{Register, Number}
use Rattle.ckc_tac.specs.declared.code.TacOp.{TacOp}
use Rattle.ckc_tac.specs.declared.code.TacOp.TheVariants.{Const, Copy, Bin, High, Load, Store, Check, Call, Get, Put, Alloc}
use Rattle.ckc_tac.specs.declared.code.TacEnd.{TacEnd}
use Rattle.ckc_tac.specs.declared.code.TacEnd.TheVariants.{Jump, Branch, Return}
use Rattle.ckc_tac.specs.declared.code.TacBlock.{TacBlock}
use Rattle.ckc_tac.specs.Sizes.{operand_size, op_size, end_size, ops_size, block_size}
use Rattle.ckc_frame.specs.declared.code.PlacedFunc.{PlacedFunc}
use Rattle.ckc_frame.specs.Meaning.{is_call}
use Rattle.ckc_emit.specs.code.ProgramLines.{op_lines, ops_lines, is_plain, are_plain, is_test, is_passing_block, capped, op_room, ops_room, room_from}
use Rattle.ckc_emit.proofs.Tests.{lt_of, and_first, and_second}

-- ---- no calls

one_same : (functions : List PlacedFunc) (f : PlacedFunc) (n m : ℕ) (op : TacOp) (rest : List Line) → is_plain op ≡ true → op_lines functions f n op rest ≡ op_lines functions f m op rest
one_same functions f n m (Call target callee arguments at) rest p = absurd cc
one_same functions f n m op rest p = refl

-- the lines of such operations do not depend on the calls before them
pub plain_same : (functions : List PlacedFunc) (f : PlacedFunc) (n m : ℕ) (ops : List TacOp) (rest : List Line) → are_plain ops ≡ true → ops_lines functions f n ops rest ≡ ops_lines functions f m ops rest
plain_same functions f n m [] rest p = refl
plain_same functions f n m (op ∷ ops) rest p =
    one_same functions f n m op (ops_lines functions f (n + is_call op) ops rest) (and_first (is_plain op) (are_plain ops) p)
    ∙ ap (op_lines functions f m op) (plain_same functions f (n + is_call op) (m + is_call op) ops rest (and_second (is_plain op) (are_plain ops) p))

one_call : (op : TacOp) → is_plain op ≡ true → is_call op ≡ 0
one_call (Call target callee arguments at) p = absurd cc
one_call op p = refl

pub no_calls : (ops : List TacOp) → are_plain ops ≡ true → sum_by is_call ops ≡ 0
no_calls [] p = refl
no_calls (op ∷ ops) p =
    omega (arith, sum_by-cons is_call op ops, one_call op (and_first (is_plain op) (are_plain ops) p), no_calls ops (and_second (is_plain op) (are_plain ops) p))

-- ---- blocks that test

pub test_plain : (ops : List TacOp) (end : TacEnd) → is_test ops end ≡ true → are_plain ops ≡ true
test_plain ops (Branch c x y one two) t = and_second (nat_lt (length ops) 6) (are_plain ops) t
test_plain ops (Jump to) t = absurd cc
test_plain ops (Return a) t = absurd cc

pub test_short : (ops : List TacOp) (end : TacEnd) → is_test ops end ≡ true → length ops < 6
test_short ops (Branch c x y one two) t = lt_of (length ops) 6 (and_first (nat_lt (length ops) 6) (are_plain ops) t)
test_short ops (Jump to) t = absurd cc
test_short ops (Return a) t = absurd cc

-- ---- sizes

number_size : (b : Bool) → (if b then 0 else 2) ≤ 3
number_size true = omega arith
number_size false = omega arith

pub operand_few : (o : Operand) → operand_size o ≤ 3
operand_few (Register r) = omega arith
operand_few (Number n) = number_size (n == 0)

op_few : (op : TacOp) → is_plain op ≡ true → op_size op ≤ 16
op_few (Const t v) p = omega arith
op_few (Copy t a) p = omega arith
op_few (Bin op t a b) p = omega arith
op_few (High is_signed t a b) p = omega arith
op_few (Load width t a n) p = omega arith
op_few (Check check at c a b) p = omega (arith, operand_few a, operand_few b)
op_few (Store width a n b) p = absurd cc
op_few (Call target callee arguments at) p = absurd cc
op_few (Get t) p = absurd cc
op_few (Put a) p = absurd cc
op_few (Alloc t a size) p = absurd cc

pub ops_few : (ops : List TacOp) → are_plain ops ≡ true → ops_size ops ≤ 16 * length ops
ops_few [] p = omega arith
ops_few (op ∷ ops) p =
    omega (arith, sum_by-cons op_size op ops, op_few op (and_first (is_plain op) (are_plain ops) p), ops_few ops (and_second (is_plain op) (are_plain ops) p))

-- ---- room

pub capped_few : (n : ℕ) → capped n ≤ n
capped_few n = by_test (nat_lt n 4096) refl
  where
    by_test : (b : Bool) → nat_lt n 4096 ≡ b → (if b then n else 4096) ≤ n
    by_test true e = omega arith
    by_test false e = grind (arith, nat_tests)

pub capped_most : (n : ℕ) → capped n ≤ 4096
capped_most n = by_test (nat_lt n 4096) refl
  where
    by_test : (b : Bool) → nat_lt n 4096 ≡ b → (if b then n else 4096) ≤ 4096
    by_test true e = let low = lt_of n 4096 e in omega (arith, low)
    by_test false e = omega arith

op_has_room : (op : TacOp) → op_room op ≤ 4 * op_size op
op_has_room (Const t v) = omega arith
op_has_room (Copy t a) = omega arith
op_has_room (Bin op t a b) = omega arith
op_has_room (High is_signed t a b) = omega arith
op_has_room (Load width t a n) = omega arith
op_has_room (Check check at c a b) = omega arith
op_has_room (Store width a n b) = omega arith
op_has_room (Call target callee arguments at) = omega arith
op_has_room (Get t) = omega arith
op_has_room (Put a) = omega arith
op_has_room (Alloc t a size) = omega arith

ops_have_room : (room : ℕ) (ops : List TacOp) → ops_room room ops ≤ room + 4 * ops_size ops
ops_have_room room [] = omega arith
ops_have_room room (op ∷ ops) =
    omega (arith, sum_by-cons op_size op ops, op_has_room op, capped_few (room + op_room op), ops_have_room (capped (room + op_room op)) ops)

end_has_room : (end : TacEnd) → 2 ≤ end_size end
end_has_room (Jump b) = omega arith
end_has_room (Branch c a b one two) = omega arith
end_has_room (Return a) = omega arith

-- blocks have as much room as they are said to have
pub blocks_have_room : (room : ℕ) (blocks : List TacBlock) → room_from room blocks ≤ room + 4 * sum_by block_size blocks
blocks_have_room room [] = omega arith
blocks_have_room room (block ∷ blocks) =
    omega (
      arith,
      sum_by-cons block_size block blocks,
      end_has_room block.end,
      ops_have_room room block.ops,
      capped_few (ops_room room block.ops + 8),
      blocks_have_room (capped (ops_room room block.ops + 8)) blocks,
    )

pub room_most : (room : ℕ) (blocks : List TacBlock) → room ≤ 4096 → room_from room blocks ≤ 4096
room_most room [] h = h
room_most room (block ∷ blocks) h = room_most (capped (ops_room room block.ops + 8)) blocks (capped_most (ops_room room block.ops + 8))
