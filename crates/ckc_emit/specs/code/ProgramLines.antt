-- The lines of blocks, functions and programs. Labels are numbers: 0 is the start, then each function has one, and
-- after it one for each of its blocks.
use Rattle.std.specs.Prelude.{ℕ, ◌+◌, ◌==◌, nat_lt, not, ◌&&◌, ◌||◌, if◌then◌else◌, Bool, true, false, List, [], ◌∷◌, ◌++◌, length, slice_get, sum_by, take, Option, Some, None, pos, ◌≡◌, ◌<◌, map, slice_index}
use Rattle.ckc_rv_operations.specs.declared.operations.BranchOp.{BranchOp}
use Rattle.ckc_rv_operations.specs.declared.operations.BranchOp.TheVariants.{Beq, Bne, Bge, Bgeu}
use Rattle.ckc_rv.specs.declared.instructions.Instr.TheVariants.{Jalr, Branch as BranchInstr}
use Rattle.ckc_asm_lines.specs.declared.lines.Labelled.{Labelled}
use Rattle.ckc_asm_lines.specs.declared.lines.Line.{Line}
use Rattle.ckc_asm_lines.specs.declared.lines.Line.TheVariants.{Label, Plain, Far}
use Rattle.ckc_asm_lines.specs.declared.lines.Line.TheVariants as line
use Rattle.ckc_asm_lines.specs.Assembled.{size_of}
use Rattle.ckc_tac.specs.declared.code.TacBlock.{TacBlock}
use Rattle.ckc_tac.specs.declared.code.Comparison.{Comparison}
use Rattle.ckc_tac.specs.declared.code.Comparison.TheVariants.{LtS, LtU, Eq, Ne}
use Rattle.ckc_tac.specs.declared.code.Operand.{Operand}
use Rattle.ckc_tac.specs.declared.code.Operand.TheVariants.{Register, Number}
use Rattle.ckc_tac.specs.declared.code.TacOp.{TacOp}
use Rattle.ckc_tac.specs.declared.code.TacOp.TheVariants.{Const, Copy, Bin, High, Load, Store, Check, Call, Get, Put, Alloc}
use Rattle.ckc_tac.specs.declared.code.TacEnd.{TacEnd}
use Rattle.ckc_tac.specs.declared.code.TacEnd.TheVariants.{Jump, Branch, Return}
use Rattle.ckc_frame.specs.declared.code.Place.{Place}
use Rattle.ckc_frame.specs.declared.code.Placed.{Placed}
use Rattle.ckc_frame.specs.declared.code.PlacedFunc.{PlacedFunc}
use Rattle.ckc_frame.specs.Meaning.{is_call, calls_in}
use Rattle.ckc_frame.specs.Places.{marks_of}
use Rattle.ckc_emit.specs.declared.places.PlacedOperand.{PlacedOperand}
use Rattle.ckc_emit.specs.declared.places.PlacedOperand.TheVariants as placed
pub use Rattle.ckc_emit.specs.code.Lines.{holding}
use Rattle.ckc_emit.specs.code.Lines.{register_with, operand_lines, take_lines, load_lines, store_lines, const_lines, copy_lines, bin_lines, high_lines, data_load_lines, data_store_lines, test_lines, get_lines, put_lines, alloc_lines}
use Rattle.ckc_emit.specs.code.CallLines.{place_at, call_lines, result_lines}
pub use Rattle.ckc_emit_templates.specs.code.Start.{start_lines}
use Rattle.ckc_tac.specs.declared.code.TacFunc.{TacFunc}

-- ---- labels

-- the label of the function with a number
abbrev pub label_of : List PlacedFunc → ℕ → ℕ
label_of functions k = 1 + sum_by (λ (f : PlacedFunc). length f.code.blocks + 1) (take k functions)

-- the homes of the parameters of a called function
abbrev pub homes_of : Option PlacedFunc → List Place
homes_of (Some f) = f.homes
homes_of None = []

-- ---- operations and ends

-- an operand, with the place of its register
abbrev pub operand_at : List Place → Operand → PlacedOperand
operand_at homes (Register r) = placed.At (place_at homes r)
operand_at homes (Number n) = placed.Number n

abbrev pub op_lines : List PlacedFunc → PlacedFunc → (calls_before : ℕ) → TacOp → List Line
    → List Line
op_lines functions f n (Const t v) rest = const_lines (place_at f.homes t) v rest
op_lines functions f n (Copy t a) rest = copy_lines (place_at f.homes t) (place_at f.homes a) rest
op_lines functions f n (Bin op t a b) rest =
    bin_lines op (place_at f.homes t) (operand_at f.homes a) (operand_at f.homes b) rest
op_lines functions f n (High is_signed t a b) rest =
    high_lines is_signed (place_at f.homes t) (operand_at f.homes a) (operand_at f.homes b) rest
op_lines functions f n (Load width t a offset) rest =
    data_load_lines width (place_at f.homes t) (operand_at f.homes a) offset rest
op_lines functions f n (Store width a offset b) rest =
    data_store_lines width (operand_at f.homes a) offset (operand_at f.homes b) rest
op_lines functions f n (Check check at c a b) rest =
    test_lines check at c (operand_at f.homes a) (operand_at f.homes b) rest
op_lines functions f n (Call target callee arguments at) rest =
    call_lines f.homes (marks_of (slice_get f.kept n)) (homes_of (slice_get functions callee))
    (label_of functions callee) arguments at
    (result_lines f.homes target rest)
op_lines functions f n (Get t) rest = get_lines (place_at f.homes t) rest
op_lines functions f n (Put a) rest = put_lines (operand_at f.homes a) rest
op_lines functions f n (Alloc t a size) rest =
    alloc_lines (place_at f.homes t) (operand_at f.homes a) size rest

abbrev pub ops_lines : List PlacedFunc → PlacedFunc → (calls_before : ℕ) → List TacOp → List Line
    → List Line
ops_lines functions f n [] rest = rest
ops_lines functions f n (op ∷ ops) rest =
    op_lines functions f n op (ops_lines functions f (n + is_call op) ops rest)

-- a jump to a label: one instruction if it is near, else two
abbrev pub jump_line : (near : Bool) → (label : ℕ) → Line
jump_line true label = line.Jump 0 label
jump_line false label = Far 0 label

-- to a block; nothing if it comes next
abbrev pub jump_lines : (near : Bool) → (first next b : ℕ) → List Line → List Line
jump_lines near first next b rest =
    if b == next then rest else jump_line near (first + b) ∷ rest

-- a branch over a far jump of two instructions
abbrev pub over_lines : BranchOp → (ra rb label : ℕ) → List Line → List Line
over_lines op ra rb label rest = Plain (BranchInstr op ra rb (pos 12)) ∷ Far 0 label ∷ rest

-- the branch that is taken if a comparison does not hold
abbrev pub failing : Comparison → BranchOp
failing LtS = Bge
failing LtU = Bgeu
failing Eq = Bne
failing Ne = Beq

-- to a label if a branch is taken; a far label is left out by the branch that is taken else
abbrev pub leave_lines : (near : Bool) → (taken other : BranchOp) → (ra rb label : ℕ) → List Line
    → List Line
leave_lines true taken other ra rb label rest = line.Branch taken ra rb label ∷ rest
leave_lines false taken other ra rb label rest = over_lines other ra rb label rest

-- to one of two blocks by a comparison of two registers
abbrev pub choice_lines : (near : Bool) → Comparison → (ra rb first next one two : ℕ) → List Line
    → List Line
choice_lines near c ra rb first next one two rest =
    if one == next then leave_lines near (failing c) (holding c) ra rb (first + two) rest
    else leave_lines near (holding c) (failing c) ra rb (first + one)
    (jump_lines near first next two rest)

abbrev pub branch_lines : (near : Bool) → Comparison → PlacedOperand → PlacedOperand
    → (first next one two : ℕ) → List Line → List Line
branch_lines near c a b first next one two rest =
    operand_lines a 5
    (operand_lines b 6
    (choice_lines near c (register_with a 5) (register_with b 6) first next one two rest))

-- a block without operations that jumps on
abbrev pub is_passing_end : TacEnd → Bool
is_passing_end (Jump b) = true
is_passing_end end = false

abbrev pub is_passing_block : List TacOp → TacEnd → Bool
is_passing_block [] end = is_passing_end end
is_passing_block (op ∷ ops) end = false

abbrev pub is_passing : Option TacBlock → Bool
is_passing (Some block) = is_passing_block block.ops block.end
is_passing None = true

-- A jump to the block that comes next is left out, unless that block only jumps on: of two steps without an
-- instruction, none follows the other.
abbrev pub falls_through : List TacBlock → (next b : ℕ) → Bool
falls_through blocks next b = b == next && not (is_passing (slice_get blocks b))

-- an operation that computes, copies, loads or checks
abbrev pub is_plain : TacOp → Bool
is_plain (Const t v) = true
is_plain (Copy t a) = true
is_plain (Bin op t a b) = true
is_plain (High is_signed t a b) = true
is_plain (Load width t a offset) = true
is_plain (Check check at c a b) = true
is_plain op = false

abbrev pub are_plain : List TacOp → Bool
are_plain [] = true
are_plain (op ∷ ops) = is_plain op && are_plain ops

-- a block that branches after at most five such operations
abbrev pub is_test : List TacOp → TacEnd → Bool
is_test ops (Branch c x y one two) = nat_lt (length ops) 6 && are_plain ops
is_test ops (Jump to) = false
is_test ops (Return a) = false

-- the branch of a block
abbrev pub fork_lines : (near : Bool) → PlacedFunc → (first next : ℕ) → TacEnd → List Line → List Line
fork_lines near f first next (Branch c x y one two) rest =
    branch_lines near c (operand_at f.homes x) (operand_at f.homes y) first next one two rest
fork_lines near f first next (Jump to) rest = rest
fork_lines near f first next (Return a) rest = rest

-- A jump to a block. In a function in which blocks are copied, a copy of a block that tests stands in its place.
abbrev pub lead_lines : (near turned : Bool) → List PlacedFunc → PlacedFunc → (first next b : ℕ)
    → List TacOp → TacEnd → List Line → List Line
lead_lines near turned functions f first next b ops end rest =
    if turned && is_test ops end then ops_lines functions f 0 ops (fork_lines near f first next end rest)
    else jump_line near (first + b) ∷ rest

abbrev pub away_lines : (near turned : Bool) → List PlacedFunc → PlacedFunc → (first next b : ℕ)
    → Option TacBlock → List Line → List Line
away_lines near turned functions f first next b (Some block) rest =
    lead_lines near turned functions f first next b block.ops block.end rest
away_lines near turned functions f first next b None rest = jump_line near (first + b) ∷ rest

abbrev pub pass_lines : (near turned : Bool) → List PlacedFunc → PlacedFunc → (first next b : ℕ)
    → List Line → List Line
pass_lines near turned functions f first next b rest =
    if falls_through f.code.blocks next b then rest
    else away_lines near turned functions f first next b (slice_get f.code.blocks b) rest

-- back to the caller, with a value in x10
abbrev pub return_lines : PlacedOperand → List Line → List Line
return_lines a rest = take_lines 10 a (load_lines 1 2 0 (Plain (Jalr 0 1 (pos 0)) ∷ rest))

abbrev pub end_lines : (near turned : Bool) → List PlacedFunc → PlacedFunc → (first next : ℕ) → TacEnd
    → List Line → List Line
end_lines near turned functions f first next (Jump b) rest =
    pass_lines near turned functions f first next b rest
end_lines near turned functions f first next (Branch c a b one two) rest =
    branch_lines near c (operand_at f.homes a) (operand_at f.homes b) first next one two rest
end_lines near turned functions f first next (Return a) rest = return_lines (operand_at f.homes a) rest

-- ---- blocks, functions, programs

-- a block before which so many calls stand in the function
abbrev pub block_lines : (near turned : Bool) → List PlacedFunc → PlacedFunc
    → (first b calls_before : ℕ) → TacBlock → List Line → List Line
block_lines near turned functions f first b n block rest =
    Label (first + b) ∷ ops_lines functions f n block.ops
    (end_lines near turned functions f first (b + 1) block.end rest)

-- the blocks from one on
abbrev pub blocks_lines : (near turned : Bool) → List PlacedFunc → PlacedFunc
    → (first b calls_before : ℕ) → List TacBlock → List Line → List Line
blocks_lines near turned functions f first b n [] rest = rest
blocks_lines near turned functions f first b n (block ∷ blocks) rest =
    block_lines near turned functions f first b n block
    (blocks_lines near turned functions f first (b + 1) (n + calls_in block) blocks rest)

-- The lines of a function, which stores the return address first. Jumps and branches to its blocks are near or far, and
-- blocks that test may be copied.
abbrev pub body_lines : (near turned : Bool) → List PlacedFunc → PlacedFunc → (label : ℕ) → List Line
body_lines near turned functions f label =
    Label label ∷ store_lines 1 2 0
    (blocks_lines near turned functions f (label + 1) 0 0 f.code.blocks [])

-- lines that take less than 4,096 bytes: a branch leads from each of them to each other
abbrev pub are_near : List Line → Bool
are_near lines = nat_lt (sum_by size_of lines) 4096

-- Bytes that operations and blocks may take in any case, so many beside, but no more than 4,096.
abbrev pub capped : ℕ → ℕ
capped n = if nat_lt n 4096 then n else 4096

abbrev pub op_room : TacOp → ℕ
op_room (Check check at c a b) = 40
op_room (Call target callee arguments at) = 256
op_room (Alloc t a size) = 128
op_room op = 20

abbrev pub ops_room : ℕ → List TacOp → ℕ
ops_room room [] = room
ops_room room (op ∷ ops) = ops_room (capped (room + op_room op)) ops

abbrev pub room_from : ℕ → List TacBlock → ℕ
room_from room [] = room
room_from room (block ∷ blocks) = room_from (capped (ops_room room block.ops + 8)) blocks

-- Blocks are copied if the lines of the function are near with the copies and take no more than it may.
unfoldable pub is_turned : List PlacedFunc → PlacedFunc → (label : ℕ) → Bool
is_turned functions f label =
    nat_lt (sum_by size_of (body_lines true true functions f label)) (room_from 0 f.code.blocks)

-- else its jumps and branches are near if its lines are short with them
unfoldable pub has_near : List PlacedFunc → PlacedFunc → (label : ℕ) → Bool
has_near functions f label = are_near (body_lines true false functions f label)

unfoldable pub is_near : List PlacedFunc → PlacedFunc → (label : ℕ) → Bool
is_near functions f label = is_turned functions f label || has_near functions f label

abbrev pub function_lines : List PlacedFunc → PlacedFunc → (label : ℕ) → List Line → List Line
function_lines functions f label rest =
    body_lines (is_near functions f label) (is_turned functions f label) functions f label ++ rest

abbrev pub functions_lines : List PlacedFunc → (label : ℕ) → List PlacedFunc → List Line → List Line
functions_lines functions label [] rest = rest
functions_lines functions label (f ∷ fs) rest =
    function_lines functions f label
    (functions_lines functions (label + (length f.code.blocks + 1)) fs rest)

abbrev pub program_lines : Placed → List Line
program_lines p = start_lines (label_of p.funcs p.main) (functions_lines p.funcs 1 p.funcs [])

-- the lines start at the label 0, and the initial bytes are those of the program
abbrev pub labelled_program : Placed → Labelled
labelled_program p = record { lines = program_lines p; start = 0; initial = p.initial }

-- each function's label is in its place in a list
pub record AreLabels (functions : List PlacedFunc) (labels : List ℕ) : Type 0 where
  pub each : length labels ≡ length functions
  pub are : (k : ℕ) → k < length functions → slice_index labels k ≡ label_of functions k

-- the code of functions without places
abbrev pub codes_of : List PlacedFunc → List TacFunc
codes_of functions = map (λ (f : PlacedFunc). f.code) functions
