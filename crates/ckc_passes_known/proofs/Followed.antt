-- The result of the pass follows its argument: both go step by step with the same registers, and what is dropped does
-- nothing.
use Rattle.std.proofs.Common.{◌≡◌, ◌≢◌, inl, inr, ℕ, ◌+◌, ◌*◌, ◌<◌, ◌==◌, if◌then◌else◌, Bool, true, false, not, List, [], ◌∷◌, length, Option, None, Some, refl, sym, ap, subst, ◌∙◌, arith}
use Rattle.std.specs.Prelude.{All}
use Rattle.std.specs.List.{slice_get, AllZip}
use Rattle.std.proofs.lemmas.Bool.{both_ways}
use Rattle.std.proofs.lemmas.Slice.Zip.{AllZip-long}
use Rattle.ckc_base.specs.declared.places.Pos.{Pos}
use Rattle.ckc_base.specs.declared.runtime_checks.Check.{Check as CheckKind}
use Rattle.ckc_base.specs.declared.runtime_checks.Check.TheVariants.{Depth}
use Rattle.ckc_base.specs.Traces.{Standing, Ended, Stopped}
use Rattle.ckc_base.specs.Follows.{IsOver, Follows}
use Rattle.ckc_base.specs.Steps.{Move, Goes, Halts, meaning}
use Rattle.ckc_base.specs.LongEvents.{LongEvent, Entered, Returned}
use Rattle.ckc_base.specs.Actions.{World, Outcome, Gives, Done, Stops, Lost, with_value, checks}
use Rattle.ckc_base.specs.Activations.{Values, with_written, with_result, has_room, first_values, none_written}
use Rattle.ckc_base.specs.Memory.{first_memory}
use Rattle.ckc_base.specs.Words.{applied}
use Rattle.ckc_base.proofs.Runs.{Matched, one_step, one_halt, no_step, follows_by_steps}
use Rattle.ckc_tac.specs.declared.code.Tac.{Tac}
use Rattle.ckc_tac.specs.declared.code.TacFunc.{TacFunc}
use Rattle.ckc_tac.specs.declared.code.TacBlock.{TacBlock}
use Rattle.ckc_tac.specs.declared.code.Comparison.{Comparison}
use Rattle.ckc_tac.specs.declared.code.Operand.{Operand}
use Rattle.ckc_tac.specs.declared.code.TacOp.{TacOp}
use Rattle.ckc_tac.specs.declared.code.TacOp.TheVariants.{Const, Copy, Bin, High, Load, Store, Check, Call, Get, Put, Alloc}
use Rattle.ckc_tac.specs.declared.code.TacEnd.{TacEnd}
use Rattle.ckc_tac.specs.declared.code.TacEnd.TheVariants.{Jump, Branch, Return}
use Rattle.ckc_tac.specs.Operations.{outcome_of, value_in, values_in, compared}
use Rattle.ckc_tac.specs.Meaning.{Frame, Caller, State, active, goes_by, begins, goes_to, branches, returns, enters_block, enters, calls, operates, ends, runs, extra_of, extra_steps, tac_step, tac_system, entry_block, entry_of, first_state, tac_detail}
use Rattle.ckc_tac.specs.WellFormed.{IsWellFormed, IsFunctionOver, HasParams}
use Rattle.ckc_passes.specs.Passes.{Becomes, ended, kept, dropped}
use Rattle.ckc_passes.specs.Rewrites.{all_done}
use Rattle.ckc_passes.specs.code.Forward.{GivesTarget}
use Rattle.ckc_passes.proofs.Followed.{zip_get, all_at}
use Rattle.ckc_passes.proofs.Forwarded.{gives_target}
use Rattle.ckc_passes_known.specs.declared.facts.Fact.{Fact}
use Rattle.ckc_passes_known.specs.Known.{fact_of, told, LeadsUntold, IsDecided, IsNeedless, EndBecomes, known_pass, ZipFrom, BlockAfter, FunctionAfter, ProgramAfter}
use Rattle.ckc_passes_known.specs.code.Marks.{adds_one}
use Rattle.ckc_passes_known.proofs.Left.{zip_at}
use Rattle.ckc_passes_known.proofs.Holding.{AllHold, decided_comes, all_written, all_number, all_computed, all_same, all_checked, all_result, all_branched, all_jumped, all_at_entry}

-- A place of a function: in the block with this number, these operations are done, and these and this end come next.
pub record IsPlace (blocks : List TacBlock) (b : ℕ) (done ops : List TacOp) (end : TacEnd) : Type 0 where
  pub block : TacBlock
  pub there : slice_get blocks b ≡ Some block
  pub all : all_done done ops ≡ all_done [] block.ops
  pub ending : block.end ≡ end

pub record FrameBeside (f g : Frame) : Type 0 where
  pub b : ℕ
  pub done : List TacOp
  pub place : IsPlace f.blocks b done f.ops f.end
  pub blocks : ZipFrom (BlockAfter f.blocks) 0 f.blocks g.blocks
  pub rest : Becomes (known_pass b) f.blocks done f.ops f.end g.ops g.end
  pub same : g.registers ≡ f.registers
  pub hold : AllHold f.blocks b done f.registers

-- whatever a call returns, the callers go on beside one another
pub record CallerBeside (c d : Caller) : Type 0 where
  pub b : ℕ
  pub done : List TacOp
  pub place : IsPlace c.frame.blocks b done c.frame.ops c.frame.end
  pub blocks : ZipFrom (BlockAfter c.frame.blocks) 0 c.frame.blocks d.frame.blocks
  pub rest : Becomes (known_pass b) c.frame.blocks done c.frame.ops c.frame.end d.frame.ops d.frame.end
  pub same : d.frame.registers ≡ c.frame.registers
  pub target : d.target ≡ c.target
  pub hold : (v : ℕ) → AllHold c.frame.blocks b done (with_result c.frame.registers c.target v)

pub record Beside (s t : State) : Type 0 where
  pub frame : FrameBeside s.frame t.frame
  pub callers : AllZip CallerBeside s.callers t.callers
  pub world : t.world ≡ s.world

-- the first block of a function and what it becomes, with any values of the parameters
entered : (f g : TacFunc) (block other : TacBlock) (x : Values) → FunctionAfter f g → slice_get f.blocks 0 ≡ Some block → BlockAfter f.blocks 0 block other
    → FrameBeside (begins f.blocks x block) (begins g.blocks x other)
entered f g block other x made e becomes = record {
  b = 0;
  done = [];
  place = record { block = block; there = e; all = refl; ending = refl };
  blocks = made.blocks;
  rest = becomes;
  same = refl;
  hold = all_at_entry f.blocks x;
}

module _ (functions lowers : List TacFunc) (become : AllZip FunctionAfter functions lowers) where
  abbrev left : State → ℕ
  left s = length s.frame.ops

  abbrev Matches : State → State → Move LongEvent State → Type 0
  Matches s t move = Matched (tac_system lowers) Beside left s t (1 * (extra_steps s.frame.ops + 1)) move

  -- ---- one step

  go : (s t next u : State) (events : List LongEvent) → extra_steps t.frame.ops ≡ extra_steps s.frame.ops → tac_step lowers t ≡ Goes events u → Beside next u
      → Matches s t (Goes events next)
  go s t next u events same e b = (
    extra_steps t.frame.ops + 1,
    u,
    omega (arith, same),
    inl (omega arith),
    one_step (tac_system lowers) events t u e,
    b,
  )

  halt : (s t : State) (standing : Standing) → IsOver standing → extra_steps t.frame.ops ≡ extra_steps s.frame.ops → tac_step lowers t ≡ Halts [] standing
      → Matches s t (Halts [] standing)
  halt s t standing over same e = inr (
    extra_steps t.frame.ops + 1,
    omega (arith, same),
    over,
    one_halt (tac_system lowers) [] t standing e,
  )

  -- the lower one waits
  wait : (s t next : State) → left next < left s → Beside next t → Matches s t (Goes [] next)
  wait s t next less b = (0, t, omega arith, inr less, no_step (tac_system lowers) t, b)

  module _ (blocks low_blocks : List TacBlock) (zip : ZipFrom (BlockAfter blocks) 0 blocks low_blocks) (x : Values)
      (callers low_callers : List Caller) (beside : AllZip CallerBeside callers low_callers) (world : World) (b : ℕ) where
    abbrev high : List TacOp → TacEnd → State
    high ops end = record { frame = record { blocks = blocks; ops = ops; end = end; registers = x }; callers = callers; world = world }

    abbrev low : List TacOp → TacEnd → State
    low ops end = record { frame = record { blocks = low_blocks; ops = ops; end = end; registers = x }; callers = low_callers; world = world }

    at_end : (end : TacEnd) → tac_step lowers (low [] end) ≡ ends (low [] end) end
    unfolding tac_step
    at_end end = refl

    at_op : (op : TacOp) (ops : List TacOp) (end : TacEnd) → tac_step lowers (low (op ∷ ops) end) ≡ operates lowers (low (op ∷ ops) end) ops op
    unfolding tac_step
    at_op op ops end = refl

    -- ---- ends of blocks

    jump : (end low_end : TacEnd) (to : ℕ) (o : Option TacBlock) → slice_get blocks to ≡ o → AllHold blocks to [] x
        → tac_step lowers (low [] low_end) ≡ goes_to (low [] low_end) (slice_get low_blocks to) → Matches (high [] end) (low [] low_end) (goes_to (high [] end) o)
    jump end low_end to (Some block) e hold step =
        let (other, there, becomes) = zip_at (BlockAfter blocks) 0 blocks low_blocks to to block zip e (omega arith) in
        let inner : FrameBeside (begins blocks x block) (begins low_blocks x other) = record {
          b = to;
          done = [];
          place = record { block = block; there = e; all = refl; ending = refl };
          blocks = zip;
          rest = becomes;
          same = refl;
          hold = hold;
        } in
        go (high [] end) (low [] low_end) (record { frame = begins blocks x block; callers = callers; world = world })
        (record { frame = begins low_blocks x other; callers = low_callers; world = world }) [] refl
        (step ∙ ap (goes_to (low [] low_end)) there) (record { frame = inner; callers = beside; world = refl })
    jump end low_end to None e hold step = inl refl

    module _ (done : List TacOp) (comparison : Comparison) (p q : Operand) (one two : ℕ) (low_end : TacEnd) (place : IsPlace blocks b done [] (Branch comparison p q one two))
        (hold : AllHold blocks b done x) (v : ℕ) (e : compared comparison (value_in x p) (value_in x q) ≡ Some v) where
      hold_after : (to : ℕ) (h : Bool) → (v == 0) ≡ not h → ((fact : Fact) → fact_of comparison p q h ≢ fact → LeadsUntold fact (Branch comparison p q one two) to)
          → AllHold blocks to [] x
      hold_after to h z leads =
          all_branched blocks b done x hold place.block to comparison p q h place.there place.all
          (λ fact n. subst (λ (end : TacEnd). LeadsUntold fact end to) (sym place.ending) (leads fact n)) (v, e, z)

      as_it_is : low_end ≡ Branch comparison p q one two → tac_step lowers (low [] low_end)
          ≡ (if v == 0 then goes_to (low [] low_end) (slice_get low_blocks two) else goes_to (low [] low_end) (slice_get low_blocks one))
      as_it_is is = at_end low_end ∙ ap (ends (low [] low_end)) is ∙ ap (branches (low [] low_end) one two) e

      step_fails : EndBecomes blocks b done (Branch comparison p q one two) low_end → (v == 0) ≡ true
          → tac_step lowers (low [] low_end) ≡ goes_to (low [] low_end) (slice_get low_blocks two)
      step_fails (inl (decided, is)) z = absurd (both_ways (v == 0) (decided_comes blocks b done x hold comparison p q true decided v e) z)
      step_fails (inr (n, inl (decided, is))) z = at_end low_end ∙ ap (ends (low [] low_end)) is
      step_fails (inr (n, inr (m, is))) z =
          as_it_is is ∙ ap (λ (t : Bool). if t then goes_to (low [] low_end) (slice_get low_blocks two) else goes_to (low [] low_end) (slice_get low_blocks one)) z

      step_holds : EndBecomes blocks b done (Branch comparison p q one two) low_end → (v == 0) ≡ false
          → tac_step lowers (low [] low_end) ≡ goes_to (low [] low_end) (slice_get low_blocks one)
      step_holds (inl (decided, is)) z = at_end low_end ∙ ap (ends (low [] low_end)) is
      step_holds (inr (n, inl (decided, is))) z = absurd (both_ways (v == 0) z (decided_comes blocks b done x hold comparison p q false decided v e))
      step_holds (inr (n, inr (m, is))) z =
          as_it_is is ∙ ap (λ (t : Bool). if t then goes_to (low [] low_end) (slice_get low_blocks two) else goes_to (low [] low_end) (slice_get low_blocks one)) z

      choose : EndBecomes blocks b done (Branch comparison p q one two) low_end → (z : Bool) → (v == 0) ≡ z
          → Matches (high [] (Branch comparison p q one two)) (low [] low_end)
          (if z then goes_to (high [] (Branch comparison p q one two)) (slice_get blocks two) else goes_to (high [] (Branch comparison p q one two)) (slice_get blocks one))
      choose given true z =
          jump (Branch comparison p q one two) low_end two (slice_get blocks two) refl (hold_after two false z (λ fact n. inr (refl, n))) (step_fails given z)
      choose given false z =
          jump (Branch comparison p q one two) low_end one (slice_get blocks one) refl (hold_after one true z (λ fact n. inl (refl, n))) (step_holds given z)

    branch : (done : List TacOp) (comparison : Comparison) (p q : Operand) (one two : ℕ) (low_end : TacEnd) → IsPlace blocks b done [] (Branch comparison p q one two)
        → AllHold blocks b done x → EndBecomes blocks b done (Branch comparison p q one two) low_end → (o : Option ℕ) → compared comparison (value_in x p) (value_in x q) ≡ o
        → Matches (high [] (Branch comparison p q one two)) (low [] low_end) (branches (high [] (Branch comparison p q one two)) one two o)
    branch done comparison p q one two low_end place hold given (Some v) e = choose done comparison p q one two low_end place hold v e given (v == 0) refl
    branch done comparison p q one two low_end place hold given None e = inl refl

    return : (end low_end : TacEnd) (cs ds : List Caller) (o : Option ℕ) → AllZip CallerBeside cs ds
        → tac_step lowers (low [] low_end) ≡ returns (low [] low_end) ds o → Matches (high [] end) (low [] low_end) (returns (high [] end) cs o)
    return end low_end [] [] (Some value) z step = halt (high [] end) (low [] low_end) (Ended value) tt refl step
    return end low_end (c ∷ cs) (d ∷ ds) (Some value) z step =
        let inner : FrameBeside (record c.frame { registers = with_result c.frame.registers c.target value }) (record d.frame { registers = with_result d.frame.registers d.target value }) = record {
          b = z.0.b;
          done = z.0.done;
          place = z.0.place;
          blocks = z.0.blocks;
          rest = z.0.rest;
          same = ap (λ (y : Values). with_result y d.target value) z.0.same ∙ ap (λ (t : Option ℕ). with_result c.frame.registers t value) z.0.target;
          hold = z.0.hold value;
        } in
        go (high [] end) (low [] low_end)
        (record { frame = record c.frame { registers = with_result c.frame.registers c.target value }; callers = cs; world = world })
        (record { frame = record d.frame { registers = with_result d.frame.registers d.target value }; callers = ds; world = world }) (Returned ∷ []) refl
        step (record { frame = inner; callers = z.1; world = refl })
    return end low_end [] (d ∷ ds) o z step = absurd z
    return end low_end (c ∷ cs) [] o z step = absurd z
    return end low_end [] [] None z step = inl refl
    return end low_end (c ∷ cs) (d ∷ ds) None z step = inl refl

    end_by : (done : List TacOp) (end low_end : TacEnd) → EndBecomes blocks b done end low_end → IsPlace blocks b done [] end → AllHold blocks b done x
        → Matches (high [] end) (low [] low_end) (ends (high [] end) end)
    end_by done (Jump to) low_end is place hold =
        jump (Jump to) low_end to (slice_get blocks to) refl
        (all_jumped blocks b done x hold place.block to place.there place.all (λ fact. subst (λ (end : TacEnd). LeadsUntold fact end to) (sym place.ending) refl))
        (at_end low_end ∙ ap (ends (low [] low_end)) is)
    end_by done (Branch comparison p q one two) low_end given place hold =
        branch done comparison p q one two low_end place hold given (compared comparison (value_in x p) (value_in x q)) refl
    end_by done (Return a) low_end is place hold =
        return (Return a) low_end callers low_callers (value_in x a) beside (at_end low_end ∙ ap (ends (low [] low_end)) is)

    -- ---- operations

    module _ (done ops lower : List TacOp) (end low_end : TacEnd) (op : TacOp) (place : IsPlace blocks b done (op ∷ ops) end)
        (rest : Becomes (known_pass b) blocks (op ∷ done) ops end lower low_end) where
      abbrev s : State
      s = high (op ∷ ops) end

      next_place : IsPlace blocks b (op ∷ done) ops end
      next_place = record { block = place.block; there = place.there; all = place.all; ending = place.ending }

      next_beside : (y : Values) (after : World) → AllHold blocks b (op ∷ done) y
          → Beside (record { frame = record { blocks = blocks; ops = ops; end = end; registers = y }; callers = callers; world = after })
          (record { frame = record { blocks = low_blocks; ops = lower; end = low_end; registers = y }; callers = low_callers; world = after })
      next_beside y after hold =
          let inner : FrameBeside (record { blocks = blocks; ops = ops; end = end; registers = y }) (record { blocks = low_blocks; ops = lower; end = low_end; registers = y }) = record {
            b = b;
            done = op ∷ done;
            place = next_place;
            blocks = zip;
            rest = rest;
            same = refl;
            hold = hold;
          } in
          record { frame = inner; callers = beside; world = refl }

      -- an operation after whose outcome the facts hold
      abbrev AllHoldAfter : Outcome → Type 0
      AllHoldAfter (Gives events t value after) = AllHold blocks b (op ∷ done) (with_written x t value)
      AllHoldAfter (Done events after) = AllHold blocks b (op ∷ done) x
      AllHoldAfter (Stops check at) = Unit {0}
      AllHoldAfter Lost = Unit {0}

      act : (out : Outcome) → extra_of op ≡ 0 → AllHoldAfter out
          → tac_step lowers (low (op ∷ lower) low_end) ≡ goes_by (low (op ∷ lower) low_end) lower out → Matches s (low (op ∷ lower) low_end) (goes_by s ops out)
      act (Gives events t value after) same hold step = go s (low (op ∷ lower) low_end) _ _ events refl step (next_beside (with_written x t value) after hold)
      act (Done events after) same hold step = go s (low (op ∷ lower) low_end) _ _ events refl step (next_beside x after hold)
      act (Stops check at) same hold step = halt s (low (op ∷ lower) low_end) (Stopped check at) tt refl step
      act Lost same hold step = inl refl

      -- one that tells nothing and adds no 1
      plain : (out : Outcome) → told op ≡ None → ((r : ℕ) → adds_one op r ≡ false) → AllHold blocks b done x → GivesTarget x op out → AllHoldAfter out
      plain (Gives events t value after) none apart hold to = all_written blocks b done x hold op t value to.0 none apart
      plain (Done events after) none apart hold to = all_same blocks b done x hold op to none
      plain (Stops check at) none apart hold to = tt
      plain Lost none apart hold to = tt

    -- ---- checks

    module _ (done ops lower : List TacOp) (end low_end : TacEnd) (check : CheckKind) (at : Pos) (comparison : Comparison) (p q : Operand)
        (place : IsPlace blocks b done (Check check at comparison p q ∷ ops) end)
        (rest : Becomes (known_pass b) blocks (Check check at comparison p q ∷ done) ops end lower low_end) (hold : AllHold blocks b done x) where
      abbrev checking : State
      checking = high (Check check at comparison p q ∷ ops) end

      passes : (v : ℕ) → compared comparison (value_in x p) (value_in x q) ≡ Some v → (v == 0) ≡ false
          → Beside (record checking { frame = record checking.frame { ops = ops } }) (low lower low_end)
      passes v e z =
          next_beside done ops lower end low_end (Check check at comparison p q) place rest x world
          (all_checked blocks b done x hold (Check check at comparison p q) comparison p q refl (v, e, z))

      -- one that is kept
      check_by : (v : ℕ) → compared comparison (value_in x p) (value_in x q) ≡ Some v → (z : Bool) → (v == 0) ≡ z
          → tac_step lowers (low (Check check at comparison p q ∷ lower) low_end)
          ≡ goes_by (low (Check check at comparison p q ∷ lower) low_end) lower (if z then Stops check at else Done [] world)
          → Matches checking (low (Check check at comparison p q ∷ lower) low_end) (goes_by checking ops (if z then Stops check at else Done [] world))
      check_by v e true z step = halt checking (low (Check check at comparison p q ∷ lower) low_end) (Stopped check at) tt refl step
      check_by v e false z step = go checking (low (Check check at comparison p q ∷ lower) low_end) _ _ [] refl step (passes v e z)

      checked : (o : Option ℕ) → compared comparison (value_in x p) (value_in x q) ≡ o
          → Matches checking (low (Check check at comparison p q ∷ lower) low_end) (goes_by checking ops (with_value o (checks world check at)))
      checked (Some v) e =
          check_by v e (v == 0) refl
          (at_op (Check check at comparison p q) lower low_end
          ∙ ap (λ (o : Option ℕ). goes_by (low (Check check at comparison p q ∷ lower) low_end) lower (with_value o (checks world check at))) e)
      checked None e = inl refl

      -- one that is needless
      pass_by : (v : ℕ) → compared comparison (value_in x p) (value_in x q) ≡ Some v → (z : Bool) → (v == 0) ≡ z → z ≡ false
          → Matches checking (low lower low_end) (goes_by checking ops (if z then Stops check at else Done [] world))
      pass_by v e true z false_is = absurd cc
      pass_by v e false z false_is = wait checking (low lower low_end) _ (omega arith) (passes v e z)

      pass : IsDecided blocks b done comparison p q true → (o : Option ℕ) → compared comparison (value_in x p) (value_in x q) ≡ o
          → Matches checking (low lower low_end) (goes_by checking ops (with_value o (checks world check at)))
      pass decided (Some v) e = pass_by v e (v == 0) refl (decided_comes blocks b done x hold comparison p q true decided v e)
      pass decided None e = inl refl

    -- ---- calls

    module _ (done ops lower : List TacOp) (end low_end : TacEnd) (target : Option ℕ) (callee : ℕ) (arguments : List ℕ) (at : Pos)
        (place : IsPlace blocks b done (Call target callee arguments at ∷ ops) end)
        (rest : Becomes (known_pass b) blocks (Call target callee arguments at ∷ done) ops end lower low_end) (hold : AllHold blocks b done x) where
      abbrev upper : State
      upper = high (Call target callee arguments at ∷ ops) end

      abbrev under : State
      under = low (Call target callee arguments at ∷ lower) low_end

      enter_block : (values : List ℕ) (f g : TacFunc) (o : Option TacBlock) → FunctionAfter f g → slice_get f.blocks 0 ≡ o
          → tac_step lowers under ≡ enters_block under lower target values g.blocks (slice_get g.blocks 0)
          → Matches upper under (enters_block upper ops target values f.blocks o)
      enter_block values f g (Some block) made e step =
          let (other, there, becomes) = zip_at (BlockAfter f.blocks) 0 f.blocks g.blocks 0 0 block made.blocks e (omega arith) in
          let outer : Caller = record { frame = record { blocks = blocks; ops = ops; end = end; registers = x }; target = target } in
          let low_outer : Caller = record { frame = record { blocks = low_blocks; ops = lower; end = low_end; registers = x }; target = target } in
          let waiting : CallerBeside outer low_outer = record {
            b = b;
            done = Call target callee arguments at ∷ done;
            place = next_place done ops lower end low_end (Call target callee arguments at) place rest;
            blocks = zip;
            rest = rest;
            same = refl;
            target = refl;
            hold = λ v. all_result blocks b done x hold (Call target callee arguments at) target v refl refl (λ r. refl);
          } in
          go upper under (record { frame = begins f.blocks (first_values values) block; callers = outer ∷ callers; world = world })
          (record { frame = begins g.blocks (first_values values) other; callers = low_outer ∷ low_callers; world = world }) (Entered ∷ []) refl
          (step ∙ ap (enters_block under lower target values g.blocks) there)
          (record { frame = entered f g block other (first_values values) made e becomes; callers = (waiting, beside); world = refl })
      enter_block values f g None made e step = inl refl

      enter : (values : List ℕ) (o : Option TacFunc) → slice_get functions callee ≡ o
          → tac_step lowers under ≡ enters under lower target values (slice_get lowers callee) → Matches upper under (enters upper ops target values o)
      enter values (Some f) e step =
          let (g, there, made) = zip_get FunctionAfter functions lowers callee f become e in
          enter_block values f g (slice_get f.blocks 0) made refl (step ∙ ap (enters under lower target values) there)
      enter values None e step = inl refl

      room : (values : List ℕ) (t : Bool)
          → tac_step lowers under ≡ (if t then enters under lower target values (slice_get lowers callee) else Halts [] (Stopped Depth at))
          → Matches upper under (if t then enters upper ops target values (slice_get functions callee) else Halts [] (Stopped Depth at))
      room values true step = enter values (slice_get functions callee) refl step
      room values false step = halt upper under (Stopped Depth at) tt refl step

      active_same : active under ≡ active upper
      active_same = ap (λ n. n + 1) (AllZip-long CallerBeside callers low_callers beside)

      call : (o : Option (List ℕ)) → tac_step lowers under ≡ calls lowers under lower target callee at o
          → Matches upper under (calls functions upper ops target callee at o)
      call (Some values) step =
          room values (has_room (active upper))
          (step ∙ ap (λ n. if has_room n then enters under lower target values (slice_get lowers callee) else Halts [] (Stopped Depth at)) active_same)
      call None step = inl refl

    -- ---- every operation

    keep : (done ops lower : List TacOp) (end low_end : TacEnd) (op : TacOp) → IsPlace blocks b done (op ∷ ops) end
        → Becomes (known_pass b) blocks (op ∷ done) ops end lower low_end → AllHold blocks b done x
        → Matches (high (op ∷ ops) end) (low (op ∷ lower) low_end) (operates functions (high (op ∷ ops) end) ops op)
    keep done ops lower end low_end (Call target callee arguments at) place rest hold =
        call done ops lower end low_end target callee arguments at place rest hold (values_in x arguments) (at_op (Call target callee arguments at) lower low_end)
    keep done ops lower end low_end (Check check at comparison p q) place rest hold =
        checked done ops lower end low_end check at comparison p q place rest hold (compared comparison (value_in x p) (value_in x q)) refl
    keep done ops lower end low_end (Const t n) place rest hold =
        act done ops lower end low_end (Const t n) place rest (outcome_of x world (Const t n)) refl (all_number blocks b done x hold t n) (at_op (Const t n) lower low_end)
    keep done ops lower end low_end (Bin op t a c) place rest hold =
        act done ops lower end low_end (Bin op t a c) place rest (outcome_of x world (Bin op t a c)) refl
        (computed (value_in x a) (value_in x c) refl refl) (at_op (Bin op t a c) lower low_end)
      where
        computed : (o p : Option ℕ) → value_in x a ≡ o → value_in x c ≡ p
            → AllHoldAfter done ops lower end low_end (Bin op t a c) place rest (with_value o (λ m. with_value p (λ n. Gives [] t (applied op m n) world)))
        computed (Some m) (Some n) e f = all_computed blocks b done x hold op t a c m n e f
        computed (Some m) None e f = tt
        computed None p e f = tt
    keep done ops lower end low_end (Copy t a) place rest hold =
        act done ops lower end low_end (Copy t a) place rest (outcome_of x world (Copy t a)) refl
        (plain done ops lower end low_end (Copy t a) place rest (outcome_of x world (Copy t a)) refl (λ r. refl) hold (gives_target x world (Copy t a))) (at_op (Copy t a) lower low_end)
    keep done ops lower end low_end (High is_signed t a c) place rest hold =
        act done ops lower end low_end (High is_signed t a c) place rest (outcome_of x world (High is_signed t a c)) refl
        (plain done ops lower end low_end (High is_signed t a c) place rest (outcome_of x world (High is_signed t a c)) refl (λ r. refl) hold (gives_target x world (High is_signed t a c))) (at_op (High is_signed t a c) lower low_end)
    keep done ops lower end low_end (Load width t a n) place rest hold =
        act done ops lower end low_end (Load width t a n) place rest (outcome_of x world (Load width t a n)) refl
        (plain done ops lower end low_end (Load width t a n) place rest (outcome_of x world (Load width t a n)) refl (λ r. refl) hold (gives_target x world (Load width t a n))) (at_op (Load width t a n) lower low_end)
    keep done ops lower end low_end (Store width a n c) place rest hold =
        act done ops lower end low_end (Store width a n c) place rest (outcome_of x world (Store width a n c)) refl
        (plain done ops lower end low_end (Store width a n c) place rest (outcome_of x world (Store width a n c)) refl (λ r. refl) hold (gives_target x world (Store width a n c))) (at_op (Store width a n c) lower low_end)
    keep done ops lower end low_end (Get t) place rest hold =
        act done ops lower end low_end (Get t) place rest (outcome_of x world (Get t)) refl
        (plain done ops lower end low_end (Get t) place rest (outcome_of x world (Get t)) refl (λ r. refl) hold (gives_target x world (Get t))) (at_op (Get t) lower low_end)
    keep done ops lower end low_end (Put a) place rest hold =
        act done ops lower end low_end (Put a) place rest (outcome_of x world (Put a)) refl
        (plain done ops lower end low_end (Put a) place rest (outcome_of x world (Put a)) refl (λ r. refl) hold (gives_target x world (Put a))) (at_op (Put a) lower low_end)
    keep done ops lower end low_end (Alloc t a size) place rest hold =
        act done ops lower end low_end (Alloc t a size) place rest (outcome_of x world (Alloc t a size)) refl
        (plain done ops lower end low_end (Alloc t a size) place rest (outcome_of x world (Alloc t a size)) refl (λ r. refl) hold (gives_target x world (Alloc t a size))) (at_op (Alloc t a size) lower low_end)

    drop_op : (done ops lower : List TacOp) (end low_end : TacEnd) (op : TacOp) → IsPlace blocks b done (op ∷ ops) end
        → Becomes (known_pass b) blocks (op ∷ done) ops end lower low_end → AllHold blocks b done x → IsNeedless blocks b done op
        → Matches (high (op ∷ ops) end) (low lower low_end) (operates functions (high (op ∷ ops) end) ops op)
    drop_op done ops lower end low_end (Check check at comparison p q) place rest hold decided =
        pass done ops lower end low_end check at comparison p q place rest hold decided (compared comparison (value_in x p) (value_in x q)) refl
    drop_op done ops lower end low_end op place rest hold decided = absurd decided

    pub by : {done ops lower : List TacOp} {end low_end : TacEnd} → Becomes (known_pass b) blocks done ops end lower low_end → IsPlace blocks b done ops end → AllHold blocks b done x
        → Matches (high ops end) (low lower low_end) (runs functions (high ops end) ops)
    by (ended {done = d} {end = e} {low_end = f} given) place hold = end_by d e f given place hold
    by (kept {done = d} {ops = os} {lower = ls} {op = o} {low = l} {end = e} {low_end = f} given rest) place hold =
        subst (λ (q : TacOp). Matches (high (o ∷ os) e) (low (q ∷ ls) f) (operates functions (high (o ∷ os) e) os o)) (sym given.0) (keep d os ls e f o place rest hold)
    by (dropped {done = d} {ops = os} {lower = ls} {op = o} {end = e} {low_end = f} given rest) place hold =
        drop_op d os ls e f o place rest hold given

  -- ---- whole runs

  matches : (s t : State) → Beside s t → Matches s t (tac_step functions s)
  unfolding tac_step
  matches s t b =
      let f = b.frame in
      subst (λ (w : World). Matches s (record t { world = w }) (runs functions s s.frame.ops)) (sym b.world)
      (subst (λ (y : Values). Matches s (record { frame = record t.frame { registers = y }; callers = t.callers; world = s.world }) (runs functions s s.frame.ops)) (sym f.same)
      (by s.frame.blocks t.frame.blocks f.blocks s.frame.registers s.callers t.callers b.callers s.world f.b f.rest f.place f.hold))

  pub follows_from : (s t : State) → Beside s t → Follows (meaning (tac_system functions) s) (meaning (tac_system lowers) t) 1
  follows_from s t b = follows_by_steps (tac_system functions) (tac_system lowers) Beside left 1 matches s t b

  -- ---- the start

  first_there : (blocks : List TacBlock) → 0 < length blocks → slice_get blocks 0 ≡ None → ⊥
  first_there [] h e = omega arith
  first_there (block ∷ blocks) h e = cc

  starts_block : (f g : TacFunc) (o : Option TacBlock) → FunctionAfter f g → 0 < length f.blocks → slice_get f.blocks 0 ≡ o
      → FrameBeside (entry_block f.blocks o) (entry_block g.blocks (slice_get g.blocks 0))
  starts_block f g (Some block) made some e =
      let (other, there, becomes) = zip_at (BlockAfter f.blocks) 0 f.blocks g.blocks 0 0 block made.blocks e (omega arith) in
      subst (λ (o : Option TacBlock). FrameBeside (begins f.blocks none_written block) (entry_block g.blocks o)) (sym there)
      (entered f g block other none_written made e becomes)
  starts_block f g None made some e = absurd (first_there f.blocks some e)

  pub starts : (main : ℕ) (o : Option TacFunc) → All (IsFunctionOver functions) functions → HasParams 0 o → slice_get functions main ≡ o
      → FrameBeside (entry_of o) (entry_of (slice_get lowers main))
  starts main (Some f) over h e =
      let (g, there, made) = zip_get FunctionAfter functions lowers main f become e in
      subst (λ (o : Option TacFunc). FrameBeside (entry_block f.blocks (slice_get f.blocks 0)) (entry_of o)) (sym there)
      (starts_block f g (slice_get f.blocks 0) made (all_at (IsFunctionOver functions) functions main f over e).1 refl)
  starts main None over h e = absurd h

-- What the pass makes of a program follows the program, in as many steps or fewer.
pub follows_known : (t low : Tac) → ProgramAfter t low → IsWellFormed t → (input : List ℕ) → Follows (tac_detail t input) (tac_detail low input) 1
follows_known t low made whole input =
    let first : FrameBeside (entry_of (slice_get t.funcs t.main)) (entry_of (slice_get low.funcs t.main)) =
    starts t.funcs low.funcs made.funcs t.main (slice_get t.funcs t.main) whole.functions whole.main refl in
    follows_from t.funcs low.funcs made.funcs (first_state t input) (first_state low input) (record {
      frame = subst (λ (n : ℕ). FrameBeside (entry_of (slice_get t.funcs t.main)) (entry_of (slice_get low.funcs n))) (sym made.main) first;
      callers = tt;
      world = ap (λ (bytes : List ℕ). let w : World = record { memory = first_memory bytes; input = input } in w) made.initial;
    })
