-- The ends of blocks that lead to another block are simulated.
use Rattle.std.proofs.Common.{◌≡◌, ◌≢◌, ◌⊎◌, inl, inr, ℕ, ◌+◌, ◌*◌, ◌≤◌, ◌<◌, ◌==◌, not, if◌then◌else◌, Bool, true, false, List, [], ◌∷◌, length, map, Option, Some, None, refl, sym, ap, subst, ◌∙◌, arith}
use Rattle.std.specs.Prelude.{All, ◌&&◌, ℤ, pos, nat_lt, int_lt}
use Rattle.std.specs.List.{slice_get}
use Rattle.std.proofs.lemmas.List.Elements.{All-get_or, All-nil}
use Rattle.std.proofs.lemmas.Option.{slice_get_within, get_or_from_slice_get}
use Rattle.ckc_base.specs.Memory.{data_start}
use Rattle.ckc_base.specs.Steps.{Goes}
use Rattle.ckc_base.specs.States.{Travels}
use Rattle.ckc_base.proofs.Travelling.{one_travel, no_travel, then_travels}
use Rattle.ckc_rv_operations.specs.declared.operations.BranchOp.{BranchOp}
use Rattle.ckc_rv.specs.declared.instructions.Instr.TheVariants.{Branch as BranchInstr}
use Rattle.ckc_rv.specs.Effects.{moved, is_taken}
use Rattle.ckc_rv.specs.Detailed.{detailed_step, detailed_system}
use Rattle.ckc_asm_lines.specs.declared.lines.Line.{Line}
use Rattle.ckc_tac.specs.declared.code.TacBlock.{TacBlock}
use Rattle.ckc_tac.specs.declared.code.TacOp.{TacOp}
use Rattle.ckc_tac.specs.declared.code.TacEnd.{TacEnd}
use Rattle.ckc_tac.specs.declared.code.TacEnd.TheVariants.{Jump, Branch, Return}
use Rattle.ckc_tac.specs.declared.code.Comparison.{Comparison}
use Rattle.ckc_tac.specs.declared.code.Comparison.TheVariants.{LtS, LtU, Eq, Ne}
use Rattle.ckc_tac.specs.declared.code.Operand.{Operand}
use Rattle.ckc_tac.specs.Operations.{value_in, operation_of, compared}
use Rattle.ckc_tac.specs.WellFormed.{IsOperandOver, IsFunctionOver, IsBlockOver}
use Rattle.ckc_frame.specs.declared.code.Place.{Place}
use Rattle.ckc_frame.specs.declared.code.Place.TheVariants as place
use Rattle.ckc_frame.specs.declared.code.PlacedFunc.{PlacedFunc}
use Rattle.ckc_frame.specs.WellFormed.{IsPlace, IsPlacedWhole}
use Rattle.ckc_frame.specs.Meaning.{State, begins, calls_in_front, goes_to, branches, registers_of}
use Rattle.ckc_base.specs.Words.{signed, flag, applied}
use Rattle.ckc_emit.specs.declared.places.PlacedOperand.{PlacedOperand}
use Rattle.ckc_emit.specs.code.Operands.{IsOperand}
use Rattle.ckc_emit.specs.code.Lines.{register_of, register_with}
use Rattle.ckc_emit.specs.code.ProgramLines.{label_of, ops_lines, end_lines, operand_at, holding, failing, jump_line, jump_lines, leave_lines, choice_lines, branch_lines, is_test, fork_lines, away_lines, is_passing, is_passing_end, is_passing_block, falls_through, is_near, is_turned}
use Rattle.ckc_emit.proofs.Local.{Local, state_of}
use Rattle.ckc_emit.proofs.Steps.{At, jal_step, branch_taken, branch_passed}
use Rattle.ckc_emit.proofs.Checking.{holding_is}
use Rattle.ckc_emit.proofs.Paths.{Code, LinesAt, FarAt}
use Rattle.ckc_emit.proofs.Homes.{HasValue, framed_kept, keeps_same, register_is}
use Rattle.ckc_emit.proofs.Asking.{IsSoft, soft_then, places_soft}
use Rattle.ckc_emit.proofs.Operands.{operand_value, operand_has, operand_word, operand_is, operand_found, left_register, right_register}
use Rattle.ckc_emit.proofs.Binary.{two_reads}
use Rattle.ckc_emit.proofs.Relation.{world_kept}
use Rattle.ckc_emit.proofs.Jumping.{far_goes}
use Rattle.ckc_emit.proofs.Frames.{AreWaiting, IsRelated}
use Rattle.ckc_emit.proofs.Standing.{block_label, BeginsWith, Stands}
use Rattle.ckc_emit.proofs.Related.{May, measure, Simulated, Reaches, reaches_simulates, are_waiting_kept}
use Rattle.ckc_emit.proofs.Plain.{plain_same, test_plain}
use Rattle.ckc_emit.proofs.Tests.{eq_of, not_true, and_first, and_second}

-- what holds of all elements holds of each
pub all_at : {X : Type 0} (P : X → Type 0) (xs : List X) (k : ℕ) (x : X) → All P xs → slice_get xs k ≡ Some x → P x
all_at P xs k x h e = subst P (get_or_from_slice_get xs k x x e) (All-get_or P xs k x (slice_get_within xs k x e) h)

flag_not : (b : Bool) → not b ≡ (flag b == 0)
flag_not true = refl
flag_not false = refl

flag_unequal : (b : Bool) → b ≡ (flag (not b) == 0)
flag_unequal true = refl
flag_unequal false = refl

-- the branch that is taken if a comparison does not hold, by its value
failing_is : (o : Comparison) (x y : ℕ) → is_taken (failing o) x y ≡ (applied (operation_of o) x y == 0)
failing_is LtS x y = flag_not (int_lt (signed x) (signed y))
failing_is LtU x y = flag_not (nat_lt x y)
failing_is Eq x y = flag_not (x == y)
failing_is Ne x y = flag_unequal (x == y)

module _ (functions : List PlacedFunc) (c : Code) where
  -- All of a program stands, and its functions are well formed.
  pub record IsWhole (main : ℕ) : Type 0 where
    pub stands : Stands functions c main
    pub over : (index : ℕ) (f : PlacedFunc) → slice_get functions index ≡ Some f → IsFunctionOver (map (λ (f : PlacedFunc). f.code) functions) f.code
    pub placed : (index : ℕ) (f : PlacedFunc) → slice_get functions index ≡ Some f → IsPlacedWhole f

  -- The machine comes to a block in so many instructions, with scratch registers changed alone.
  pub record Comes (least most : ℕ) (l : Local) (pc index b : ℕ) : Type 0 where
    pub to : Local
    pub count : ℕ
    pub many : least ≤ count
    pub few : count ≤ most
    pub travels : Travels (detailed_system c.parts) count [] (state_of c.parts l pc) (state_of c.parts to (c.label (block_label functions index b)))
    pub soft : IsSoft l to
    pub bytes : to.bytes ≡ l.bytes
    pub input : to.input ≡ l.input

  comes_same : (l : Local) (pc index b : ℕ) → c.label (block_label functions index b) ≡ pc → Comes 0 0 l pc index b
  comes_same l pc index b e = record {
    to = l;
    count = 0;
    many = omega arith;
    few = omega arith;
    travels = subst (λ q. Travels (detailed_system c.parts) 0 [] (state_of c.parts l pc) (state_of c.parts l q)) (sym e) (no_travel (detailed_system c.parts) (state_of c.parts l pc));
    soft = record { keeps = keeps_same l; has = λ q w i h. h };
    bytes = refl;
    input = refl;
  }

  -- the block comes next
  comes_next : (l : Local) (pc index : ℕ) (blocks : List TacBlock) (b : ℕ) (block : TacBlock) (behind : List Line) → BeginsWith functions index blocks b behind → slice_get blocks b ≡ Some block
      → LinesAt c pc behind → Comes 0 0 l pc index b
  comes_next l pc index blocks b block behind begin e at =
      let m = begin block e in
      let labelled = subst (LinesAt c pc) m.1 at in
      comes_same l pc index b labelled.0

  far_has : (l m : Local) → ((r : ℕ) → r ≢ 0 → r ≢ 26 → m.x r ≡ l.x r) → m.words ≡ l.words → (q : Place) (w : ℕ) → IsPlace q → HasValue l q w → HasValue m q w
  far_has l m k e (place.Reg j) w p h =
      let i = register_is j p in
      let low = i.low in
      let high = i.high in
      k (register_of j) (omega arith) (omega arith) ∙ h
  far_has l m k e (place.Slot j) w p h =
      ap (λ (f : ℕ → ℕ). f (m.x 2 + (j * 4 + 80))) e ∙ ap (λ b. l.words (b + (j * 4 + 80))) (k 2 (omega arith) (omega arith)) ∙ h

  -- a far jump leads to the block
  comes_far : (l : Local) (pc index b : ℕ) → FarAt c pc 0 (block_label functions index b) → Comes 2 2 l pc index b
  comes_far l pc index b f =
      let g = far_goes c l pc 0 (block_label functions index b) (omega arith) f in
      record {
        to = g.next;
        count = 2;
        many = omega arith;
        few = omega arith;
        travels = g.travels;
        soft = record {
          keeps = record { zero = g.zero; frame = g.other 2 (omega arith) (omega arith); above = λ a o. ap (λ (f : ℕ → ℕ). f a) g.words };
          has = far_has l g.next g.other g.words;
        };
        bytes = g.bytes;
        input = g.input;
      }

  -- one instruction leads to the block
  comes_by : (l : Local) (pc index b : ℕ) → detailed_step c.parts (state_of c.parts l pc) ≡ Goes [] (state_of c.parts l (c.label (block_label functions index b))) → Comes 1 1 l pc index b
  comes_by l pc index b e = record {
    to = l;
    count = 1;
    many = omega arith;
    few = omega arith;
    travels = one_travel (detailed_system c.parts) [] (state_of c.parts l pc) (state_of c.parts l (c.label (block_label functions index b))) e;
    soft = record { keeps = keeps_same l; has = λ q w i h. h };
    bytes = refl;
    input = refl;
  }

  -- in front of it some instructions are run
  then_comes : (first least more : ℕ) (l m : Local) (pc to index b : ℕ) → Travels (detailed_system c.parts) first [] (state_of c.parts l pc) (state_of c.parts m to)
      → IsSoft l m → m.bytes ≡ l.bytes → m.input ≡ l.input → Comes least more m to index b → Comes (first + least) (first + more) l pc index b
  then_comes first least more l m pc to index b t soft e f k = record {
    to = k.to;
    count = first + k.count;
    many = omega (arith, k.many);
    few = omega (arith, k.few);
    travels = then_travels (detailed_system c.parts) first k.count [] [] (state_of c.parts l pc) (state_of c.parts m to) (state_of c.parts k.to (c.label (block_label functions index b))) t k.travels;
    soft = soft_then l m k.to soft k.soft;
    bytes = k.bytes ∙ e;
    input = k.input ∙ f;
  }

  comes_loosened : (a few d many : ℕ) (l : Local) (pc index b : ℕ) → d ≤ a → few ≤ many → Comes a few l pc index b → Comes d many l pc index b
  comes_loosened a few d many l pc index b g h k = record { to = k.to; count = k.count; many = omega (arith, k.many); few = omega (arith, k.few); travels = k.travels; soft = k.soft; bytes = k.bytes; input = k.input }

  -- a near or a far jump leads to the block
  comes_jump : (t : Bool) (l : Local) (pc index b : ℕ) (rest : List Line) → LinesAt c pc (jump_line t (block_label functions index b) ∷ rest) → Comes 1 2 l pc index b
  comes_jump true l pc index b rest at =
      let n = at.0 in
      comes_loosened 1 1 1 2 l pc index b (omega arith) (omega arith)
      (comes_by l pc index b (jal_step c.parts l pc n.offset (c.label (block_label functions index b)) n.here n.leads n.aligned))
  comes_jump false l pc index b rest at = comes_loosened 2 2 1 2 l pc index b (omega arith) (omega arith) (comes_far l pc index b at.0)

  -- ---- the related state at a block

  module _ (main : ℕ) (whole : IsWhole main) (s : State) (l : Local) (pc : ℕ) (r : IsRelated functions c s l pc) where
    abbrev f : PlacedFunc
    f = s.frame.function

    abbrev index : ℕ
    index = r.at.index

    abbrev near : Bool
    near = is_near functions f (label_of functions index)

    abbrev turned : Bool
    turned = is_turned functions f (label_of functions index)

    abbrev at_block : ℕ → TacBlock → State
    at_block b block = record s { frame = begins f b s.frame.places block }

    arrives : (least most b : ℕ) (block : TacBlock) → slice_get f.code.blocks b ≡ Some block → (k : Comes least most l pc index b)
        → IsRelated functions c (at_block b block) k.to (c.label (block_label functions index b))
    arrives least most b block e k =
        let stand = whole.stands.block index f b block r.at.is e in
        let over = whole.over index f r.at.is in
        let good = all_at (IsBlockOver (map (λ (f : PlacedFunc). f.code) functions) (length f.code.blocks) f.code.regs) f.code.blocks b block over.2 e in
        record {
          framed = framed_kept l k.to r.framed k.soft.keeps;
          depth = ap (λ q. q + 16384 * (length s.callers + 1)) k.soft.keeps.frame ∙ r.depth;
          has = places_soft c l k.to s.frame.places k.soft r.has;
          world = world_kept c l k.to s.world k.bytes k.input r.world;
          at = record {
            index = index;
            is = r.at.is;
            placed = r.at.placed;
            ops_over = good.0;
            end_over = good.1;
            next = b + 1;
            behind = stand.behind;
            falls = stand.next;
          };
          here = stand.there;
          callers = subst (λ q. AreWaiting functions c k.to.words q s.callers) (sym k.soft.keeps.frame)
              (are_waiting_kept functions c l.words k.to.words (l.x 2) s.callers k.soft.keeps.above r.callers);
        }

    comes_reach : (least most b : ℕ) (block : TacBlock) → most ≤ 59 → slice_get f.code.blocks b ≡ Some block → (k : Comes least most l pc index b)
        → (1 ≤ k.count) ⊎ (measure (at_block b block) < measure s) → Reaches functions c s l pc [] (at_block b block)
    comes_reach least most b block few e k on = record {
      to = k.to;
      there = c.label (block_label functions index b);
      count = k.count;
      lower = [];
      few = omega (arith, k.few);
      goes_on = on;
      travels = k.travels;
      seen = refl;
      allowed = All-nil (May s);
      related = arrives least most b block e k;
    }

    -- ---- a jump

    passing_is : (blocks : List TacBlock) (b : ℕ) (block : TacBlock) → slice_get blocks b ≡ Some block → is_passing (slice_get blocks b) ≡ is_passing_block block.ops block.end
    passing_is blocks b block e = ap is_passing e

    lower_measure : (b : ℕ) (block : TacBlock) → s.frame.ops ≡ [] → s.frame.end ≡ Jump b → is_passing_block block.ops block.end ≡ false → measure (at_block b block) < measure s
    lower_measure b block none end e =
        let now : measure s ≡ 1 = ap (λ (ops : List TacOp). if is_passing_block ops s.frame.end then 1 else 0) none ∙ ap (λ (end : TacEnd). if is_passing_block [] end then 1 else 0) end in
        let then_ : measure (at_block b block) ≡ 0 = ap (λ q. if q then 1 else 0) e in
        omega arith

    -- a block whose operations and end stand here
    stays : (b : ℕ) (block : TacBlock) (ops : List TacOp) (end : TacEnd) → slice_get f.code.blocks b ≡ Some block → block.ops ≡ ops → block.end ≡ end
        → LinesAt c pc (ops_lines functions f (calls_in_front f.code.blocks b) ops (end_lines near turned functions f (label_of functions index + 1) r.at.next end r.at.behind)) → IsRelated functions c (at_block b block) l pc
    stays b block ops end e same is at =
        let over = whole.over index f r.at.is in
        let good = all_at (IsBlockOver (map (λ (f : PlacedFunc). f.code) functions) (length f.code.blocks) f.code.regs) f.code.blocks b block over.2 e in
        record {
          framed = r.framed;
          depth = r.depth;
          has = r.has;
          world = r.world;
          at = record {
            index = index;
            is = r.at.is;
            placed = r.at.placed;
            ops_over = good.0;
            end_over = good.1;
            next = r.at.next;
            behind = r.at.behind;
            falls = r.at.falls;
          };
          here = subst (λ (ops : List TacOp). LinesAt c pc (ops_lines functions f (calls_in_front f.code.blocks b) ops (end_lines near turned functions f (label_of functions index + 1) r.at.next block.end r.at.behind))) (sym same)
              (subst (λ (end : TacEnd). LinesAt c pc (ops_lines functions f (calls_in_front f.code.blocks b) ops (end_lines near turned functions f (label_of functions index + 1) r.at.next end r.at.behind))) (sym is) at);
          callers = r.callers;
        }

    busy_end : (ops : List TacOp) (end : TacEnd) → is_passing_end end ≡ false → is_passing_block ops end ≡ false
    busy_end [] end h = h
    busy_end (op ∷ ops) end h = refl

    stays_reach : (b : ℕ) (block : TacBlock) (ops : List TacOp) (end : TacEnd) → slice_get f.code.blocks b ≡ Some block → block.ops ≡ ops → block.end ≡ end → is_passing_end end ≡ false
        → s.frame.ops ≡ [] → s.frame.end ≡ Jump b
        → LinesAt c pc (ops_lines functions f (calls_in_front f.code.blocks b) ops (end_lines near turned functions f (label_of functions index + 1) r.at.next end r.at.behind)) → Reaches functions c s l pc [] (at_block b block)
    stays_reach b block ops end e same is busy none jumps at = record {
      to = l;
      there = pc;
      count = 0;
      lower = [];
      few = omega arith;
      goes_on = inr (lower_measure b block none jumps (ap (λ (ops : List TacOp). is_passing_block ops block.end) same ∙ ap (λ (end : TacEnd). is_passing_block ops end) is ∙ busy_end ops end busy));
      travels = no_travel (detailed_system c.parts) (state_of c.parts l pc);
      seen = refl;
      allowed = All-nil (May s);
      related = stays b block ops end e same is at;
    }

    jump_far : (b : ℕ) (block : TacBlock) → slice_get f.code.blocks b ≡ Some block → LinesAt c pc (jump_line near (label_of functions index + 1 + b) ∷ r.at.behind)
        → Reaches functions c s l pc [] (at_block b block)
    jump_far b block e at =
        let k = comes_jump near l pc index b r.at.behind at in
        comes_reach 1 2 b block (omega arith) e k (inl (omega (arith, k.many)))

    copy_by : (end : TacEnd) (b : ℕ) (block : TacBlock) → slice_get f.code.blocks b ≡ Some block → block.end ≡ end → is_test block.ops end ≡ true → s.frame.ops ≡ [] → s.frame.end ≡ Jump b
        → LinesAt c pc (ops_lines functions f 0 block.ops (fork_lines near f (label_of functions index + 1) r.at.next end r.at.behind)) → Reaches functions c s l pc [] (at_block b block)
    copy_by (Branch o x y one two) b block e is t none jumps at =
        let tail : List Line = branch_lines near o (operand_at f.homes x) (operand_at f.homes y) (label_of functions index + 1) r.at.next one two r.at.behind in
        stays_reach b block block.ops (Branch o x y one two) e refl is refl none jumps
        (subst (LinesAt c pc) (plain_same functions f 0 (calls_in_front f.code.blocks b) block.ops tail (test_plain block.ops (Branch o x y one two) t)) at)
    copy_by (Jump to) b block e is t none jumps at = absurd cc
    copy_by (Return a) b block e is t none jumps at = absurd cc

    copied_by : (copied : Bool) (b : ℕ) (block : TacBlock) → slice_get f.code.blocks b ≡ Some block → (turned && is_test block.ops block.end) ≡ copied → s.frame.ops ≡ [] → s.frame.end ≡ Jump b
        → LinesAt c pc (if copied then ops_lines functions f 0 block.ops (fork_lines near f (label_of functions index + 1) r.at.next block.end r.at.behind) else jump_line near (label_of functions index + 1 + b) ∷ r.at.behind)
        → Reaches functions c s l pc [] (at_block b block)
    copied_by true b block e t none jumps at = copy_by block.end b block e refl (and_second turned (is_test block.ops block.end) t) none jumps at
    copied_by false b block e t none jumps at = jump_far b block e at

    jump_by : (falls : Bool) (b : ℕ) (block : TacBlock) → falls_through f.code.blocks r.at.next b ≡ falls → s.frame.ops ≡ [] → s.frame.end ≡ Jump b → slice_get f.code.blocks b ≡ Some block
        → LinesAt c pc (if falls then r.at.behind else away_lines near turned functions f (label_of functions index + 1) r.at.next b (slice_get f.code.blocks b) r.at.behind) → Reaches functions c s l pc [] (at_block b block)
    jump_by true b block falls none end e at =
        let same = eq_of b r.at.next (and_first (b == r.at.next) (not (is_passing (slice_get f.code.blocks b))) falls) in
        let busy = not_true (is_passing (slice_get f.code.blocks b)) (and_second (b == r.at.next) (not (is_passing (slice_get f.code.blocks b))) falls) in
        let begin : BeginsWith functions index f.code.blocks b r.at.behind = subst (λ q. BeginsWith functions index f.code.blocks q r.at.behind) (sym same) r.at.falls in
        let k = comes_next l pc index f.code.blocks b block r.at.behind begin e at in
        comes_reach 0 0 b block (omega arith) e k (inr (lower_measure b block none end (sym (passing_is f.code.blocks b block e) ∙ busy)))
    jump_by false b block falls none end e at =
        copied_by (turned && is_test block.ops block.end) b block e refl none end
        (subst (λ (o : Option TacBlock). LinesAt c pc (away_lines near turned functions f (label_of functions index + 1) r.at.next b o r.at.behind)) e at)

    pub ends_at : (end : TacEnd) → s.frame.ops ≡ [] → s.frame.end ≡ end → LinesAt c pc (end_lines near turned functions f (label_of functions index + 1) r.at.next end r.at.behind)
    ends_at end none e =
        subst (λ (end : TacEnd). LinesAt c pc (end_lines near turned functions f (label_of functions index + 1) r.at.next end r.at.behind)) e
        (subst (λ (ops : List TacOp). LinesAt c pc (ops_lines functions f s.frame.calls_before ops (end_lines near turned functions f (label_of functions index + 1) r.at.next s.frame.end r.at.behind))) none r.here)

    jump_goes : (b : ℕ) (o : Option TacBlock) → slice_get f.code.blocks b ≡ o → s.frame.ops ≡ [] → s.frame.end ≡ Jump b → Simulated functions c s (state_of c.parts l pc) (goes_to s b o)
    jump_goes b (Some block) e none end =
        reaches_simulates functions c s l pc [] (at_block b block)
        (jump_by (falls_through f.code.blocks r.at.next b) b block refl none end e (ends_at (Jump b) none end))
    jump_goes b None e none end = inl refl

    pub jump_simulates : (b : ℕ) → s.frame.ops ≡ [] → s.frame.end ≡ Jump b → Simulated functions c s (state_of c.parts l pc) (goes_to s b (slice_get f.code.blocks b))
    jump_simulates b none end = jump_goes b (slice_get f.code.blocks b) refl none end

    -- ---- a branch

    module _ (m : Local) (o : Comparison) (q ra rb x y : ℕ) (low_left : ra < 32) (low_right : rb < 32) (left : m.x ra ≡ x) (right : m.x rb ≡ y) where
      abbrev v : ℕ
      v = applied (operation_of o) x y

      test_is : (i : BranchOp) (b : Bool) → is_taken i x y ≡ b → is_taken i (m.x ra) (m.x rb) ≡ b
      test_is i b e = ap (λ w. is_taken i w (m.x rb)) left ∙ ap (is_taken i x) right ∙ e

      soft_here : IsSoft m m
      soft_here = record { keeps = keeps_same m; has = λ a w i h. h }

      -- the branch is not taken
      passes_to : (i : BranchOp) (z : ℤ) (b most : ℕ) → At c.parts q (BranchInstr i ra rb z) → is_taken i x y ≡ false
          → Comes 0 most m (q + 4) index b → Comes 1 (1 + most) m q index b
      passes_to i z b most at e k =
          then_comes 1 0 most m m q (q + 4) index b
          (one_travel (detailed_system c.parts) [] (state_of c.parts m q) (state_of c.parts m (q + 4)) (branch_passed c.parts m q i ra rb z at low_left low_right (test_is i false e)))
          soft_here refl refl k

      over_is : q + 4 ≤ data_start → moved q (pos 12) ≡ q + 12
      over_is h = omega arith

      -- the branch over a far jump is taken
      leads_to : (i : BranchOp) (b most : ℕ) → At c.parts q (BranchInstr i ra rb (pos 12)) → is_taken i x y ≡ true
          → Comes 0 most m (q + 12) index b → Comes 1 (1 + most) m q index b
      leads_to i b most at e k =
          let here = at.low in
          let aligned = at.aligned in
          then_comes 1 0 most m m q (q + 12) index b
          (one_travel (detailed_system c.parts) [] (state_of c.parts m q) (state_of c.parts m (q + 12)) (branch_taken c.parts m q i ra rb (pos 12) (q + 12) at low_left low_right (test_is i true e) (over_is here) (omega arith)))
          soft_here refl refl k

      behind_far : (rest : List Line) → LinesAt c (q + 4 + 8) rest → LinesAt c (q + 12) rest
      behind_far rest at = subst (λ p. LinesAt c p rest) (let e : q + 4 + 8 ≡ q + 12 = omega arith in e) at

      abbrev first : ℕ
      first = label_of functions index + 1

      abbrev next : ℕ
      next = r.at.next

      abbrev behind : List Line
      behind = r.at.behind

      -- it is left to a block
      leaves : (t : Bool) (taken other : BranchOp) (b : ℕ) (rest : List Line) → LinesAt c q (leave_lines t taken other ra rb (first + b) rest)
          → is_taken taken x y ≡ true → is_taken other x y ≡ false → Comes 1 3 m q index b
      leaves true taken other b rest at e g =
          let n = at.0 in
          comes_loosened 1 1 1 3 m q index b (omega arith) (omega arith)
          (comes_by m q index b (branch_taken c.parts m q taken ra rb n.offset (c.label (block_label functions index b)) n.here low_left low_right (test_is taken true e) n.leads n.aligned))
      leaves false taken other b rest at e g =
          passes_to other (pos 12) b 2 at.0 g (comes_loosened 2 2 0 2 m (q + 4) index b (omega arith) (omega arith) (comes_far m (q + 4) index b at.1.0))

      -- the lines after it are run
      goes_on : (t : Bool) (taken other : BranchOp) (label b : ℕ) (rest : List Line) → LinesAt c q (leave_lines t taken other ra rb label rest)
          → is_taken taken x y ≡ false → is_taken other x y ≡ true → ((p : ℕ) → LinesAt c p rest → Comes 0 2 m p index b) → Comes 1 3 m q index b
      goes_on true taken other label b rest at e g on = passes_to taken at.0.offset b 2 at.0.here e (on (q + 4) at.1)
      goes_on false taken other label b rest at e g on = leads_to other b 2 at.0 g (on (q + 12) (behind_far rest at.1.1))

      falls_to : (p b : ℕ) (block : TacBlock) → slice_get f.code.blocks b ≡ Some block → b ≡ next → LinesAt c p behind → Comes 0 2 m p index b
      falls_to p b block e same at =
          comes_loosened 0 0 0 2 m p index b (omega arith) (omega arith)
          (comes_next m p index f.code.blocks b block behind (subst (λ k. BeginsWith functions index f.code.blocks k behind) (sym same) r.at.falls) e at)

      jump_to : (t : Bool) (p b : ℕ) (block : TacBlock) → (b == next) ≡ t → slice_get f.code.blocks b ≡ Some block → LinesAt c p (if t then behind else jump_line near (first + b) ∷ behind)
          → Comes 0 2 m p index b
      jump_to true p b block same e at = falls_to p b block e (eq_of b next same) at
      jump_to false p b block same e at = comes_loosened 1 2 0 2 m p index b (omega arith) (omega arith) (comes_jump near m p index b behind at)

      abbrev chosen : Bool → ℕ → ℕ → List Line
      chosen t one two =
          if t then leave_lines near (failing o) (holding o) ra rb (first + two) behind
          else leave_lines near (holding o) (failing o) ra rb (first + one) (jump_lines near first next two behind)

      to_two : (t : Bool) (one two : ℕ) (block : TacBlock) → slice_get f.code.blocks two ≡ Some block → (v == 0) ≡ true → LinesAt c q (chosen t one two) → Comes 1 3 m q index two
      to_two true one two block e none at =
          leaves near (failing o) (holding o) two behind at (failing_is o x y ∙ none) (holding_is o x y ∙ ap not none)
      to_two false one two block e none at =
          goes_on near (holding o) (failing o) (first + one) two (jump_lines near first next two behind) at (holding_is o x y ∙ ap not none) (failing_is o x y ∙ none)
          (λ p there. jump_to (two == next) p two block refl e there)

      to_one : (t : Bool) (one two : ℕ) (block : TacBlock) → (one == next) ≡ t → slice_get f.code.blocks one ≡ Some block → (v == 0) ≡ false → LinesAt c q (chosen t one two) → Comes 1 3 m q index one
      to_one true one two block same e some at =
          goes_on near (failing o) (holding o) (first + two) one behind at (failing_is o x y ∙ some) (holding_is o x y ∙ ap not some)
          (λ p there. falls_to p one block e (eq_of one next same) there)
      to_one false one two block same e some at =
          leaves near (holding o) (failing o) one (jump_lines near first next two behind) at (holding_is o x y ∙ ap not some) (failing_is o x y ∙ some)

    module _ (o : Comparison) (a b : Operand) (one two x y : ℕ) (left_over : IsOperandOver f.code.regs a) (right_over : IsOperandOver f.code.regs b)
        (left_there : value_in (registers_of s.frame) a ≡ Some x) (right_there : value_in (registers_of s.frame) b ≡ Some y)
        (lines : LinesAt c pc (branch_lines near o (operand_at f.homes a) (operand_at f.homes b) (label_of functions index + 1) r.at.next one two r.at.behind)) where
      abbrev p : PlacedOperand
      p = operand_at f.homes a

      abbrev q : PlacedOperand
      q = operand_at f.homes b

      good_left : IsOperand p
      good_left = operand_is f r.at.placed a left_over

      good_right : IsOperand q
      good_right = operand_is f r.at.placed b right_over

      left_is : operand_value s.frame.places p ≡ Some x
      left_is = operand_found f r.at.placed s.frame.places a x left_over left_there

      right_is : operand_value s.frame.places q ≡ Some y
      right_is = operand_found f r.at.placed s.frame.places b y right_over right_there

      abbrev mid : List Line
      mid = choice_lines near o (register_with p 5) (register_with q 6) (label_of functions index + 1) r.at.next one two r.at.behind

      -- the operands are read, and then the branch is tested
      after_read : (t : ℕ) → ((m : Local) (at : ℕ) → m.x (register_with p 5) ≡ x → m.x (register_with q 6) ≡ y → LinesAt c at mid → Comes 1 3 m at index t) → Comes 1 9 l pc index t
      after_read t on =
          let has = r.has in
          let read = two_reads c p q x y mid l r.framed good_left good_right (operand_has l s.frame.places has p x good_left left_is) (operand_has l s.frame.places has q y good_right right_is)
          (operand_word l s.frame.places has p x good_left left_is) (operand_word l s.frame.places has q y good_right right_is) in
          let lead = read.path.leads pc lines in
          let soft : IsSoft l read.next = record { keeps = read.keeps; has = read.has } in
          let k = on read.next lead.to read.left read.right lead.there in
          comes_loosened (lead.count + 1) (lead.count + 3) 1 9 l pc index t (omega arith) (omega (arith, lead.few))
          (then_comes lead.count 1 3 l read.next pc lead.to index t lead.travels soft read.bytes read.input k)

      abbrev value : ℕ
      value = applied (operation_of o) x y

      comes_two : (block : TacBlock) → slice_get f.code.blocks two ≡ Some block → (value == 0) ≡ true → Comes 1 9 l pc index two
      comes_two block e none = after_read two (λ m at left right here.
          to_two m o at (register_with p 5) (register_with q 6) x y (left_register p good_left).0 (right_register q good_right) left right (one == r.at.next) one two block e none here)

      comes_one : (block : TacBlock) → slice_get f.code.blocks one ≡ Some block → (value == 0) ≡ false → Comes 1 9 l pc index one
      comes_one block e some = after_read one (λ m at left right here.
          to_one m o at (register_with p 5) (register_with q 6) x y (left_register p good_left).0 (right_register q good_right) left right (one == r.at.next) one two block refl e some here)

      goes_two : (found : Option TacBlock) → slice_get f.code.blocks two ≡ found → (value == 0) ≡ true → Simulated functions c s (state_of c.parts l pc) (goes_to s two found)
      goes_two (Some block) e none =
          let k = comes_two block e none in
          reaches_simulates functions c s l pc [] (at_block two block) (comes_reach 1 9 two block (omega arith) e k (inl k.many))
      goes_two None e none = inl refl

      goes_one : (found : Option TacBlock) → slice_get f.code.blocks one ≡ found → (value == 0) ≡ false → Simulated functions c s (state_of c.parts l pc) (goes_to s one found)
      goes_one (Some block) e some =
          let k = comes_one block e some in
          reaches_simulates functions c s l pc [] (at_block one block) (comes_reach 1 9 one block (omega arith) e k (inl k.many))
      goes_one None e some = inl refl

      branch_goes : (t : Bool) → (value == 0) ≡ t
          → Simulated functions c s (state_of c.parts l pc) (if t then goes_to s two (slice_get f.code.blocks two) else goes_to s one (slice_get f.code.blocks one))
      branch_goes true e = goes_two (slice_get f.code.blocks two) refl e
      branch_goes false e = goes_one (slice_get f.code.blocks one) refl e

    branch_by : (o : Comparison) (a b : Operand) (one two : ℕ) (x y : Option ℕ) → value_in (registers_of s.frame) a ≡ x → value_in (registers_of s.frame) b ≡ y → s.frame.ops ≡ []
        → s.frame.end ≡ Branch o a b one two → IsOperandOver f.code.regs a → IsOperandOver f.code.regs b
        → Simulated functions c s (state_of c.parts l pc) (branches s one two (compared o x y))
    branch_by o a b one two (Some x) (Some y) e g none end left right =
        branch_goes o a b one two x y left right e g (ends_at (Branch o a b one two) none end) (applied (operation_of o) x y == 0) refl
    branch_by o a b one two (Some x) None e g none end left right = inl refl
    branch_by o a b one two None y e g none end left right = inl refl

    pub branch_simulates : (o : Comparison) (a b : Operand) (one two : ℕ) → s.frame.ops ≡ [] → s.frame.end ≡ Branch o a b one two → IsOperandOver f.code.regs a → IsOperandOver f.code.regs b
        → Simulated functions c s (state_of c.parts l pc) (branches s one two (compared o (value_in (registers_of s.frame) a) (value_in (registers_of s.frame) b)))
    branch_simulates o a b one two none end left right =
        branch_by o a b one two (value_in (registers_of s.frame) a) (value_in (registers_of s.frame) b) refl refl none end left right
