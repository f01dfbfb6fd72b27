-- What operations, blocks, functions and programs add.
use Rattle.std.proofs.Common.{◌≡◌, ℕ, zero, suc, ◌+◌, ◌≤◌, ◌<◌, ◌==◌, Bool, true, false, List, [], ◌∷◌, append-nil, length, get_or, Option, Some, None, refl, sym, ap, subst, ◌∙◌, arith}
use Rattle.std.specs.Prelude.{All, IfSome, sum_by, pos, ◌*◌, ◌&&◌, ◌||◌, if◌then◌else◌}
use Rattle.std.specs.List.{slice_get}
use Rattle.std.proofs.lemmas.List.{take_all}
use Rattle.std.proofs.lemmas.List.Elements.{All-head, All-tail, All-get_or}
use Rattle.std.proofs.lemmas.Option.{slice_get_within, get_or_from_slice_get}
use Rattle.std.proofs.lemmas.List.Sums.{sum_by-cons, sum_by_more_le}
use Rattle.ckc_rv_operations.specs.declared.operations.BranchOp.{BranchOp}
use Rattle.ckc_rv.specs.declared.instructions.Instr.TheVariants as instr
use Rattle.ckc_asm_lines.specs.declared.lines.Line.{Line}
use Rattle.ckc_asm_lines.specs.Assembled.{size_of}
use Rattle.ckc_tac.specs.declared.code.TacFunc.{TacFunc}
use Rattle.ckc_tac.specs.declared.code.TacBlock.{TacBlock}
use Rattle.ckc_tac.specs.declared.code.Comparison.{Comparison}
use Rattle.ckc_tac.specs.declared.code.Operand.{Operand}
use Rattle.ckc_tac.specs.declared.code.Operand.TheVariants.{Register, Number}
use Rattle.ckc_tac.specs.declared.code.TacOp.{TacOp}
use Rattle.ckc_tac.specs.declared.code.TacOp.TheVariants.{Const, Copy, Bin, High, Load, Store, Check, Call, Get, Put, Alloc}
use Rattle.ckc_tac.specs.declared.code.TacEnd.{TacEnd}
use Rattle.ckc_tac.specs.declared.code.TacEnd.TheVariants.{Jump, Branch, Return}
use Rattle.ckc_tac.specs.WellFormed.{HasParams, IsOperandOver, IsOpOver, IsEndOver, IsBlockOver, IsFunctionOver}
use Rattle.ckc_tac.specs.Sizes.{operand_size, op_size, end_size, ops_size, block_size, function_size}
use Rattle.ckc_frame.specs.declared.code.Place.{Place}
use Rattle.ckc_frame.specs.declared.code.Placed.{Placed}
use Rattle.ckc_frame.specs.declared.code.PlacedFunc.{PlacedFunc}
use Rattle.ckc_frame.specs.Meaning.{is_call, calls_in}
use Rattle.ckc_frame.specs.Places.{marks_of}
use Rattle.ckc_frame.specs.WellFormed.{IsPlace, IsPlacedWhole, IsWellFormed}
use Rattle.ckc_emit.specs.CodeSize.{code_size}
use Rattle.ckc_emit.specs.declared.places.PlacedOperand.{PlacedOperand}
use Rattle.ckc_emit.specs.code.Operands.{IsOperand}
use Rattle.ckc_emit.specs.code.Lines.{register_with}
use Rattle.ckc_emit.specs.code.CallLines.{place_at}
use Rattle.ckc_emit.specs.code.ProgramLines.{label_of, homes_of, operand_at, op_lines, ops_lines, over_lines, holding, failing, jump_line, jump_lines, leave_lines, choice_lines, branch_lines, is_test, fork_lines, away_lines, falls_through, return_lines, end_lines, block_lines, blocks_lines, body_lines, room_from, has_near, is_near, is_turned, function_lines, functions_lines, start_lines, program_lines, codes_of}
use Rattle.ckc_emit.proofs.PlaceAt.{place_is}
use Rattle.ckc_emit.proofs.Pieces.{Labels, Adds, nothing, then_adds, more_adds, plain_adds, far_adds, jump_adds, leave_adds, label_adds, either_adds, numbered_adds, front_adds}
use Rattle.ckc_emit.proofs.Close.{Joins, joins, nothing_joins, then_joins, more_joins, numbered_joins}
use Rattle.ckc_emit.proofs.Plain.{test_plain, test_short, operand_few, ops_few, blocks_have_room, room_most}
use Rattle.ckc_emit.proofs.Tests.{lt_of}
use Rattle.ckc_emit.proofs.Added.{near_fits, with_low, reading, operand_adds, take_adds, lui_adds, branch_adds, near_load_adds, near_store_adds, two_ask_adds, const_adds, copy_adds, bin_adds, high_adds, data_load_adds, data_store_adds, test_adds, get_adds, put_adds, alloc_adds}
use Rattle.ckc_emit.proofs.AddedCalls.{call_adds}
use Rattle.ckc_emit.proofs.Turning.{labels_in}

-- ---- functions that are called

-- a function with so many parameters, and its number
pub record IsCallable (functions : List PlacedFunc) (callee count : ℕ) : Type 0 where
  pub f : PlacedFunc
  pub is : slice_get functions callee ≡ Some f
  pub below : callee < length functions
  pub placed : IsPlacedWhole f
  pub enough : count ≤ length f.homes

one_more : (f : PlacedFunc) (functions : List PlacedFunc) (callee count : ℕ) → IsCallable functions callee count → IsCallable (f ∷ functions) (suc callee) count
one_more f functions callee count c = record { f = c.f; is = c.is; below = omega (arith, c.below); placed = c.placed; enough = c.enough }

pub callable : (codes : List TacFunc) (functions : List PlacedFunc) (callee count : ℕ) → All IsPlacedWhole functions → All (IsFunctionOver codes) (codes_of functions)
    → HasParams count (slice_get (codes_of functions) callee) → IsCallable functions callee count
callable codes [] callee count p o h = absurd h
callable codes (f ∷ functions) zero count p o h =
    let placed = All-head IsPlacedWhole f functions p in
    let over = All-head (IsFunctionOver codes) f.code (codes_of functions) o in
    let few = over.0 in
    let homes = placed.homes in
    record { f = f; is = refl; below = omega arith; placed = placed; enough = omega arith }
callable codes (f ∷ functions) (suc callee) count p o h =
    one_more f functions callee count
    (callable codes functions callee count (All-tail IsPlacedWhole f functions p) (All-tail (IsFunctionOver codes) f.code (codes_of functions) o) h)

pub over_at : (codes : List TacFunc) (fs : List PlacedFunc) (i : ℕ) (f : PlacedFunc) → i < length fs → f ≡ get_or fs i f → All (IsFunctionOver codes) (codes_of fs) → IsFunctionOver codes f.code
over_at codes [] i f h e o = absurd (omega arith)
over_at codes (g ∷ gs) zero f h e o = subst (λ (x : PlacedFunc). IsFunctionOver codes x.code) (sym e) (All-head (IsFunctionOver codes) g.code (codes_of gs) o)
over_at codes (g ∷ gs) (suc i) f h e o = over_at codes gs i f (omega arith) e (All-tail (IsFunctionOver codes) g.code (codes_of gs) o)

-- how many labels there are
pub all_labels : (functions : List PlacedFunc) → label_of functions (length functions) ≡ 1 + sum_by labels_in functions
all_labels functions = ap (λ l. 1 + sum_by labels_in l) (take_all (length functions) functions (omega arith))

-- the label of a function that is there is one of a program's
pub label_fits : (functions : List PlacedFunc) (k : ℕ) → k < length functions → label_of functions k < label_of functions (length functions)
label_fits [] k h = absurd (omega arith)
label_fits (g ∷ gs) k h =
    let bound = sum_by_more_le labels_in (g ∷ gs) k g h in
    let all = all_labels (g ∷ gs) in
    omega (arith, bound, all)

-- the labels of a program; near ones are those of a function
abbrev pub labels_for : List PlacedFunc → (near : Bool) → PlacedFunc → (label : ℕ) → Labels
labels_for functions near f label = record { count = label_of functions (length functions); near = near; low = label; high = label + (length f.code.blocks + 1) }

-- lines with copies take no more than they may
turned_short : (functions : List PlacedFunc) (f : PlacedFunc) (label : ℕ) → is_turned functions f label ≡ true → sum_by size_of (body_lines true true functions f label) < room_from 0 f.code.blocks
unfolding is_turned
turned_short functions f label e = lt_of (sum_by size_of (body_lines true true functions f label)) (room_from 0 f.code.blocks) e

near_short : (functions : List PlacedFunc) (f : PlacedFunc) (label : ℕ) → has_near functions f label ≡ true → sum_by size_of (body_lines true false functions f label) < 4096
unfolding has_near
near_short functions f label e = lt_of (sum_by size_of (body_lines true false functions f label)) 4096 e

is_near_with : (functions : List PlacedFunc) (f : PlacedFunc) (label : ℕ) (turned : Bool) → is_turned functions f label ≡ turned → is_near functions f label ≡ (turned || has_near functions f label)
unfolding is_near
is_near_with functions f label turned e = ap (λ b. b || has_near functions f label) e

-- lines with near jumps and branches are short
short_with : (functions : List PlacedFunc) (f : PlacedFunc) (label : ℕ) (near turned : Bool) → is_near functions f label ≡ near → is_turned functions f label ≡ turned → near ≡ true
    → sum_by size_of (body_lines near turned functions f label) < 4096
short_with functions f label true true e t n =
    let low = turned_short functions f label t in
    omega (arith, low, room_most 0 f.code.blocks (omega arith))
short_with functions f label true false e t n = near_short functions f label (sym (is_near_with functions f label false t) ∙ e)
short_with functions f label false turned e t n = absurd cc

-- what copies may add to each end
abbrev pub extra_of : Bool → ℕ
extra_of true = 100
extra_of false = 0

abbrev pub extras_of : Bool → List TacBlock → ℕ
extras_of turned [] = 0
extras_of turned (block ∷ blocks) = extra_of turned + extras_of turned blocks

no_extras : (turned : Bool) (blocks : List TacBlock) → turned ≡ false → extras_of turned blocks ≡ 0
no_extras true blocks e = absurd cc
no_extras false [] e = refl
no_extras false (block ∷ blocks) e = omega (arith, no_extras false blocks e)

module _ (functions : List PlacedFunc) (placed : All IsPlacedWhole functions) (over : All (IsFunctionOver (codes_of functions)) (codes_of functions)) where
  -- how many labels the program has
  abbrev count : ℕ
  count = label_of functions (length functions)

  module _ (near turned : Bool) (f : PlacedFunc) (whole : IsPlacedWhole f) (label : ℕ) (few : label + (length f.code.blocks + 1) ≤ count) where
    abbrev labels : Labels
    labels = labels_for functions near f label

    abbrev first : ℕ
    first = label + 1

    abbrev AreOver : List TacBlock → Type 0
    AreOver = All (IsBlockOver (codes_of functions) (length f.code.blocks) f.code.regs)

    found_over : (blocks : List TacBlock) (b : ℕ) (block : TacBlock) → AreOver blocks → slice_get blocks b ≡ Some block → IsBlockOver (codes_of functions) (length f.code.blocks) f.code.regs block
    found_over blocks b block all e =
        subst (IsBlockOver (codes_of functions) (length f.code.blocks) f.code.regs) (get_or_from_slice_get blocks b block block e)
        (All-get_or (IsBlockOver (codes_of functions) (length f.code.blocks) f.code.regs) blocks b block (slice_get_within blocks b block e) all)

    module _ (k : ℕ) where
      abbrev Adding : ℕ → List Line → List Line → Type 0
      Adding most xs ys = Adds labels k k most xs ys

      within : (r : ℕ) → r < f.code.regs → r < length f.homes
      within r h = subst (λ n. r < n) (sym whole.homes) h

      good : (r : ℕ) → r < f.code.regs → IsPlace (place_at f.homes r)
      good r h = place_is f.homes r (within r h) whole.places

      fine : (o : Operand) → IsOperandOver f.code.regs o → IsOperand (operand_at f.homes o)
      fine (Register r) h = good r h
      fine (Number n) h = h

      reading_is : (o : Operand) → reading labels k (operand_at f.homes o) ≡ operand_size o
      reading_is (Register r) = refl
      reading_is (Number n) = refl

      all_within : (rs : List ℕ) → All (λ r. r < f.code.regs) rs → All (λ r. r < length f.homes) rs
      all_within rs h = λ i d below. within _ (h i d below)

      target_within : (target : Option ℕ) → IfSome target (λ t. t < f.code.regs) → IfSome target (λ t. t < length f.homes)
      target_within None h = h
      target_within (Some t) h = within t h

      pub op_adds : (n : ℕ) (op : TacOp) (ys : List Line) → IsOpOver (codes_of functions) f.code.regs op → Adding (op_size op) (op_lines functions f n op ys) ys
      op_adds n (Const t v) ys o = const_adds labels k (place_at f.homes t) v ys (good t o.0)
      op_adds n (Copy t a) ys o = copy_adds labels k (place_at f.homes t) (place_at f.homes a) ys (good t o.0) (good a o.1)
      op_adds n (Bin b t x y) ys o = bin_adds labels k b (place_at f.homes t) (operand_at f.homes x) (operand_at f.homes y) ys (good t o.0) (fine x o.1) (fine y o.2)
      op_adds n (High s t x y) ys o = high_adds labels k s (place_at f.homes t) (operand_at f.homes x) (operand_at f.homes y) ys (good t o.0) (fine x o.1) (fine y o.2)
      op_adds n (Load width t a offset) ys o = data_load_adds labels k width (place_at f.homes t) (operand_at f.homes a) offset ys (good t o.0) (fine a o.1)
      op_adds n (Store width a offset b) ys o = data_store_adds labels k width (operand_at f.homes a) offset (operand_at f.homes b) ys (fine a o.0) (fine b o.2)
      op_adds n (Check check at c a b) ys o =
          more_adds labels (operand_size a + operand_size b + 10) (omega (arith, reading_is a, reading_is b))
          (test_adds labels k check at c (operand_at f.homes a) (operand_at f.homes b) ys (fine a o.1) (fine b o.2))
      op_adds n (Call target callee arguments at) ys o =
          let c = callable (codes_of functions) functions callee (length arguments) placed over o.1 in
          let params : homes_of (slice_get functions callee) ≡ c.f.homes = ap homes_of c.is in
          let all : All IsPlace (homes_of (slice_get functions callee)) = subst (All IsPlace) (sym params) c.placed.places in
          let enough : length arguments ≤ length (homes_of (slice_get functions callee)) = subst (λ (l : List Place). length arguments ≤ length l) (sym params) c.enough in
          call_adds labels k f.homes (marks_of (slice_get f.kept n)) (homes_of (slice_get functions callee)) (label_of functions callee) arguments at target ys
          whole.places all (all_within arguments o.2) enough (label_fits functions callee c.below) (target_within target o.0)
      op_adds n (Get t) ys o = get_adds labels k (place_at f.homes t) ys (good t o)
      op_adds n (Put a) ys o = put_adds labels k (operand_at f.homes a) ys (fine a o)
      op_adds n (Alloc t a size) ys o = alloc_adds labels k (place_at f.homes t) (operand_at f.homes a) size ys (good t o.0) (fine a o.1)

      pub ops_add : (n : ℕ) (ops : List TacOp) (ys : List Line) → All (IsOpOver (codes_of functions) f.code.regs) ops → Adding (ops_size ops) (ops_lines functions f n ops ys) ys
      ops_add n [] ys o = nothing labels k ys
      ops_add n (op ∷ ops) ys o =
          more_adds labels (ops_size (op ∷ ops)) (omega (arith, sum_by-cons op_size op ops))
          (then_adds labels (op_adds n op _ (All-head (IsOpOver (codes_of functions) f.code.regs) op ops o))
          (ops_add (n + is_call op) ops ys (All-tail (IsOpOver (codes_of functions) f.code.regs) op ops o)))

      over_adds : (o : BranchOp) (ra rb to : ℕ) (ys : List Line) → ra < 27 → rb < 27 → to < count → Adding 3 (over_lines o ra rb to ys) ys
      over_adds o ra rb to ys h i below = then_adds labels (branch_adds labels k o ra rb 3 _ h i (omega arith)) (far_adds labels k 0 to ys (omega arith) below)

      abbrev IsOwn : ℕ → Type 0
      IsOwn b = b < length f.code.blocks

      jump_line_adds : (t : Bool) (b : ℕ) (ys : List Line) → near ≡ t → IsOwn b → Adding 2 (jump_line t (first + b) ∷ ys) ys
      jump_line_adds true b ys e h = more_adds labels 2 (omega arith) (jump_adds labels k 0 (first + b) ys (omega arith) (e, omega arith, omega arith))
      jump_line_adds false b ys e h = far_adds labels k 0 (first + b) ys (omega arith) (omega arith)

      jump_lines_add : (next b : ℕ) (ys : List Line) → IsOwn b → Adding 2 (jump_lines near first next b ys) ys
      jump_lines_add next b ys h =
          either_adds labels (b == next) (λ e. more_adds labels 2 (omega arith) (nothing labels k ys)) (λ e. jump_line_adds near b ys refl h)

      leave_lines_add : (t : Bool) (taken other : BranchOp) (ra rb b : ℕ) (ys : List Line) → near ≡ t → ra < 27 → rb < 27 → IsOwn b
          → Adding 3 (leave_lines t taken other ra rb (first + b) ys) ys
      leave_lines_add true taken other ra rb b ys e h i own =
          more_adds labels 3 (omega arith) (leave_adds labels k taken ra rb (first + b) ys h i (e, omega arith, omega arith))
      leave_lines_add false taken other ra rb b ys e h i own = over_adds other ra rb (first + b) ys h i (omega arith)

      choice_adds : (o : Comparison) (ra rb next one two : ℕ) (ys : List Line) → ra < 27 → rb < 27 → IsOwn one → IsOwn two
          → Adding 5 (choice_lines near o ra rb first next one two ys) ys
      choice_adds o ra rb next one two ys low also h i =
          either_adds labels (one == next)
          (λ e. more_adds labels 5 (omega arith) (leave_lines_add near (failing o) (holding o) ra rb two ys refl low also i))
          (λ e. then_adds labels (leave_lines_add near (holding o) (failing o) ra rb one _ refl low also h) (jump_lines_add next two ys i))

      branch_end_adds : (o : Comparison) (a b : Operand) (next one two : ℕ) (ys : List Line) → IsOperandOver f.code.regs a → IsOperandOver f.code.regs b
          → IsOwn one → IsOwn two
          → Adding (operand_size a + operand_size b + 5) (branch_lines near o (operand_at f.homes a) (operand_at f.homes b) first next one two ys) ys
      branch_end_adds o a b next one two ys p q h i =
          let left = operand_at f.homes a in
          let right = operand_at f.homes b in
          more_adds labels (operand_size a + operand_size b + 5) (omega (arith, reading_is a, reading_is b))
          (then_adds labels (operand_adds labels k left 5 _ (omega arith))
          (then_adds labels (operand_adds labels k right 6 _ (omega arith))
          (choice_adds o (register_with left 5) (register_with right 6) next one two ys (with_low left 5 (fine a p) (omega arith)) (with_low right 6 (fine b q) (omega arith)) h i)))

      return_adds : (a : PlacedOperand) (ys : List Line) → IsOperand a → Adding 8 (return_lines a ys) ys
      return_adds a ys p =
          more_adds labels 8 (omega arith)
          (then_adds labels (take_adds labels k 10 a _ p (omega arith))
          (then_adds labels (near_load_adds labels k 1 2 0 _ (omega arith) (omega arith) (omega arith))
          (plain_adds labels k (instr.Jalr 0 1 (pos 0)) ys (omega arith, omega arith, near_fits 0 (omega arith)) (omega arith, omega arith))))

      -- ---- a copy of a block that tests

      copied_test_adds : (next : ℕ) (ops : List TacOp) (end : TacEnd) (ys : List Line) → is_test ops end ≡ true → All (IsOpOver (codes_of functions) f.code.regs) ops
          → IsEndOver (length f.code.blocks) f.code.regs end → Adding 102 (ops_lines functions f 0 ops (fork_lines near f first next end ys)) ys
      copied_test_adds next ops (Branch o x y one two) ys t all over =
          let short = test_short ops (Branch o x y one two) t in
          more_adds labels 102 (omega (arith, short, ops_few ops (test_plain ops (Branch o x y one two) t), operand_few x, operand_few y))
          (then_adds labels (ops_add 0 ops _ all) (branch_end_adds o x y next one two ys over.0 over.1 over.2 over.3))
      copied_test_adds next ops (Jump to) ys t all over = absurd cc
      copied_test_adds next ops (Return a) ys t all over = absurd cc

      tested_adds : (test : Bool) (next b : ℕ) (ops : List TacOp) (end : TacEnd) (ys : List Line) → is_test ops end ≡ test → IsOwn b → All (IsOpOver (codes_of functions) f.code.regs) ops
          → IsEndOver (length f.code.blocks) f.code.regs end
          → Adding 102 (if test then ops_lines functions f 0 ops (fork_lines near f first next end ys) else jump_line near (first + b) ∷ ys) ys
      tested_adds true next b ops end ys t h all over = copied_test_adds next ops end ys t all over
      tested_adds false next b ops end ys t h all over = more_adds labels 102 (omega arith) (jump_line_adds near b ys refl h)

      copied_adds : (t : Bool) (next b : ℕ) (ops : List TacOp) (end : TacEnd) (ys : List Line) → IsOwn b → All (IsOpOver (codes_of functions) f.code.regs) ops
          → IsEndOver (length f.code.blocks) f.code.regs end
          → Adding (2 + extra_of t) (if t && is_test ops end then ops_lines functions f 0 ops (fork_lines near f first next end ys) else jump_line near (first + b) ∷ ys) ys
      copied_adds true next b ops end ys h all over = tested_adds (is_test ops end) next b ops end ys refl h all over
      copied_adds false next b ops end ys h all over = jump_line_adds near b ys refl h

      away_adds : (next b : ℕ) (o : Option TacBlock) (ys : List Line) → AreOver f.code.blocks → slice_get f.code.blocks b ≡ o → IsOwn b
          → Adding (2 + extra_of turned) (away_lines near turned functions f first next b o ys) ys
      away_adds next b (Some block) ys all e h =
          let over = found_over f.code.blocks b block all e in
          copied_adds turned next b block.ops block.end ys h over.0 over.1
      away_adds next b None ys all e h = more_adds labels (2 + extra_of turned) (omega arith) (jump_line_adds near b ys refl h)

      pub end_adds : (next : ℕ) (end : TacEnd) (ys : List Line) → AreOver f.code.blocks → IsEndOver (length f.code.blocks) f.code.regs end
          → Adding (end_size end + extra_of turned) (end_lines near turned functions f first next end ys) ys
      end_adds next (Jump b) ys all o =
          either_adds labels (falls_through f.code.blocks next b) (λ e. more_adds labels (2 + extra_of turned) (omega arith) (nothing labels k ys)) (λ e. away_adds next b (slice_get f.code.blocks b) ys all refl o)
      end_adds next (Branch c a b one two) ys all o =
          more_adds labels (end_size (Branch c a b one two) + extra_of turned) (omega arith) (branch_end_adds c a b next one two ys o.0 o.1 o.2 o.3)
      end_adds next (Return a) ys all o = more_adds labels (8 + extra_of turned) (omega arith) (return_adds (operand_at f.homes a) ys (fine a o))

    pub block_adds : (b n : ℕ) (block : TacBlock) (ys : List Line) → AreOver f.code.blocks → IsBlockOver (codes_of functions) (length f.code.blocks) f.code.regs block
        → Adds labels (first + b) (first + b + 1) (block_size block + extra_of turned) (block_lines near turned functions f first b n block ys) ys
    block_adds b n block ys all o =
        more_adds labels (block_size block + extra_of turned) (omega arith)
        (then_adds labels (label_adds labels (first + b) _)
        (then_adds labels (ops_add (first + b + 1) n block.ops _ o.0) (end_adds (first + b + 1) (b + 1) block.end ys all o.1)))

    blocks_add : (b n : ℕ) (blocks : List TacBlock) (ys : List Line) → AreOver f.code.blocks → All (IsBlockOver (codes_of functions) (length f.code.blocks) f.code.regs) blocks
        → Adds labels (first + b) (first + b + length blocks) (sum_by block_size blocks + extras_of turned blocks) (blocks_lines near turned functions f first b n blocks ys) ys
    blocks_add b n [] ys all o = numbered_adds labels (omega arith) (omega arith) (nothing labels (first + b) ys)
    blocks_add b n (block ∷ blocks) ys all o =
        more_adds labels (sum_by block_size (block ∷ blocks) + extras_of turned (block ∷ blocks)) (omega (arith, sum_by-cons block_size block blocks))
        (numbered_adds labels refl (omega arith)
        (then_adds labels (block_adds b n block _ all (All-head (IsBlockOver (codes_of functions) (length f.code.blocks) f.code.regs) block blocks o))
        (numbered_adds labels (omega arith) refl
        (blocks_add (b + 1) (n + calls_in block) blocks ys all (All-tail (IsBlockOver (codes_of functions) (length f.code.blocks) f.code.regs) block blocks o)))))

    pub body_adds : IsFunctionOver (codes_of functions) f.code
        → Adds labels label (label + (length f.code.blocks + 1)) (function_size f.code + extras_of turned f.code.blocks) (body_lines near turned functions f label) []
    body_adds o =
        more_adds labels (function_size f.code + extras_of turned f.code.blocks) (omega arith)
        (numbered_adds labels refl (omega arith)
        (then_adds labels (label_adds labels label _)
        (then_adds labels (near_store_adds labels first 1 2 0 _ (omega arith) (omega arith) (omega arith))
        (numbered_adds labels (omega arith) refl (blocks_add 0 0 f.code.blocks [] o.2 o.2)))))

  module _ (f : PlacedFunc) (whole : IsPlacedWhole f) (label : ℕ) (ys : List Line) (o : IsFunctionOver (codes_of functions) f.code) (few : label + (length f.code.blocks + 1) ≤ count) where
    abbrev near : Bool
    near = is_near functions f label

    abbrev turned : Bool
    turned = is_turned functions f label

    abbrev own : Labels
    own = labels_for functions near f label

    abbrev lines : List Line
    lines = body_lines near turned functions f label

    -- with copies the lines are as many as there is room for, and without them no more
    fits : (t : Bool) → turned ≡ t → (p : Adds own label (label + (length f.code.blocks + 1)) (function_size f.code + extras_of turned f.code.blocks) lines [])
        → sum_by size_of p.front ≤ 4 * function_size f.code
    fits true e p =
        let all : lines ≡ p.front = p.is ∙ append-nil p.front in
        let near_too : near ≡ true = is_near_with functions f label true e in
        let same : sum_by size_of p.front ≡ sum_by size_of (body_lines true true functions f label) =
        ap (sum_by size_of) (sym all) ∙ ap (λ b. sum_by size_of (body_lines b turned functions f label)) near_too ∙ ap (λ b. sum_by size_of (body_lines true b functions f label)) e in
        omega (arith, same, turned_short functions f label e, blocks_have_room 0 f.code.blocks)
    fits false e p = omega (arith, p.size, no_extras turned f.code.blocks e)

    unfoldable fitted : Adds own label (label + (length f.code.blocks + 1)) (function_size f.code) lines []
    fitted =
        let p = body_adds near turned f whole label few o in
        record {
          front = p.front;
          is = p.is;
          sound = p.sound;
          ordered = p.ordered;
          once = p.once;
          never = p.never;
          size = fits turned refl p;
        }

    pub function_adds : Adds own label (label + (length f.code.blocks + 1)) (function_size f.code) (function_lines functions f label ys) ys
    function_adds = front_adds own ys fitted

    function_joins : Joins count label (label + (length f.code.blocks + 1)) (function_size f.code) (function_lines functions f label ys) ys
    unfolding function_adds front_adds fitted
    function_joins =
        let body = fitted in
        joins own function_adds few (omega arith) (omega arith)
        (λ t. subst (λ (l : List Line). sum_by size_of l < 4096) (body.is ∙ append-nil body.front) (short_with functions f label near turned refl refl t))

  functions_join : (label : ℕ) (fs : List PlacedFunc) (ys : List Line) → All IsPlacedWhole fs → All (IsFunctionOver (codes_of functions)) (codes_of fs) → label + sum_by labels_in fs ≤ count
      → Joins count label (label + sum_by labels_in fs) (sum_by function_size (codes_of fs)) (functions_lines functions label fs ys) ys
  functions_join label [] ys p o few = numbered_joins count refl (omega arith) (nothing_joins count label ys)
  functions_join label (f ∷ fs) ys p o few =
      let more = sum_by-cons labels_in f fs in
      more_joins count (sum_by function_size (codes_of (f ∷ fs))) (omega (arith, sum_by-cons function_size f.code (codes_of fs)))
      (numbered_joins count refl (omega arith)
      (then_joins count (function_joins f (All-head IsPlacedWhole f fs p) label _ (All-head (IsFunctionOver (codes_of functions)) f.code (codes_of fs) o) (omega arith))
      (functions_join (label + (length f.code.blocks + 1)) fs ys (All-tail IsPlacedWhole f fs p) (All-tail (IsFunctionOver (codes_of functions)) f.code (codes_of fs) o) (omega arith))))

-- nothing near
abbrev pub far_labels : ℕ → Labels
far_labels count = record { count = count; near = false; low = 0; high = 0 }

pub start_adds : (count main : ℕ) (ys : List Line) → main < count → Adds (far_labels count) 0 1 5 (start_lines main ys) ys
start_adds count main ys h =
    let labels = far_labels count in
    more_adds labels 5 (omega arith)
    (then_adds labels (label_adds labels 0 _)
    (then_adds labels (lui_adds labels 1 2 0x3FFC _ (omega arith) (omega arith))
    (then_adds labels (far_adds labels 1 1 main _ (omega arith) h) (two_ask_adds labels 1 0 ys (omega arith)))))

-- the lines of a program have the labels from 0 on, each once, and their size is within that of the program
pub program_joins : (p : Placed) → IsWellFormed p → Joins (label_of p.funcs (length p.funcs)) 0 (label_of p.funcs (length p.funcs)) (code_size p) (program_lines p) []
program_joins p w =
    let main = callable (codes_of p.funcs) p.funcs p.main 0 w.placed w.code.functions w.code.main in
    let all = all_labels p.funcs in
    let count = label_of p.funcs (length p.funcs) in
    more_joins count (code_size p) (omega arith)
    (numbered_joins count refl (sym all)
    (then_joins count
    (joins (far_labels count) (start_adds count (label_of p.funcs p.main) _ (label_fits p.funcs p.main main.below)) (omega arith) (omega arith) (omega arith) (λ e. absurd cc))
    (functions_join p.funcs w.placed w.code.functions 1 p.funcs [] w.placed w.code.functions (omega arith))))

-- ---- labels are few

end_big : (end : TacEnd) → 2 ≤ end_size end
end_big (Jump b) = omega arith
end_big (Branch c a b one two) = omega arith
end_big (Return a) = omega arith

blocks_big : (blocks : List TacBlock) → length blocks ≤ sum_by block_size blocks
blocks_big [] = omega arith
blocks_big (block ∷ blocks) = omega (arith, sum_by-cons block_size block blocks, end_big block.end, blocks_big blocks)

functions_big : (fs : List PlacedFunc) → sum_by labels_in fs ≤ sum_by function_size (codes_of fs)
functions_big [] = omega arith
functions_big (f ∷ fs) = omega (arith, sum_by-cons labels_in f fs, sum_by-cons function_size f.code (codes_of fs), blocks_big f.code.blocks, functions_big fs)

pub labels_few : (p : Placed) → label_of p.funcs (length p.funcs) ≤ code_size p
labels_few p = omega (arith, all_labels p.funcs, functions_big p.funcs)
