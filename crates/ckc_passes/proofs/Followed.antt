-- The result of a faithful pass follows its argument.
use Rattle.std.proofs.Common.{◌≡◌, inl, inr, ℕ, zero, suc, ◌+◌, ◌*◌, ◌<◌, ◌==◌, if◌then◌else◌, Bool, true, false, List, [], ◌∷◌, length, Option, None, Some, refl, sym, ap, subst, ◌∙◌, arith}
use Rattle.std.specs.Prelude.{All, IfSome}
use Rattle.std.specs.List.{slice_get, AllZip}
use Rattle.std.proofs.lemmas.Bool.{or_left, or_right}
use Rattle.std.proofs.lemmas.Bool.Decides.{nat_tests}
use Rattle.std.proofs.lemmas.List.Elements.{All-head, All-tail}
use Rattle.std.proofs.lemmas.Slice.Zip.{AllZip-long}
use Rattle.ckc_base.specs.declared.places.Pos.{Pos}
use Rattle.ckc_base.specs.declared.runtime_checks.Check.TheVariants.{Depth}
use Rattle.ckc_base.specs.Traces.{Standing, Ended, Stopped}
use Rattle.ckc_base.specs.Follows.{IsOver, Follows}
use Rattle.ckc_base.specs.Steps.{Move, Goes, Halts, meaning}
use Rattle.ckc_base.specs.Matching.{Stretch}
use Rattle.ckc_base.specs.LongEvents.{LongEvent, Entered, Returned}
use Rattle.ckc_base.specs.Actions.{World, Outcome, Gives, Done, Stops, Lost}
use Rattle.ckc_base.specs.Activations.{Values, with_written, with_result, has_room, first_values, none_written}
use Rattle.ckc_base.specs.Memory.{first_memory}
use Rattle.ckc_base.proofs.Runs.{Matched, one_step, one_halt, no_step, follows_by_steps}
use Rattle.ckc_tac.specs.declared.code.Tac.{Tac}
use Rattle.ckc_tac.specs.declared.code.TacFunc.{TacFunc}
use Rattle.ckc_tac.specs.declared.code.TacBlock.{TacBlock}
use Rattle.ckc_tac.specs.declared.code.TacOp.{TacOp}
use Rattle.ckc_tac.specs.declared.code.TacOp.TheVariants.{Call}
use Rattle.ckc_tac.specs.declared.code.TacEnd.{TacEnd}
use Rattle.ckc_tac.specs.declared.code.TacEnd.TheVariants.{Jump, Branch, Return}
use Rattle.ckc_tac.specs.Operations.{outcome_of, value_in, values_in, compared}
use Rattle.ckc_tac.specs.Meaning.{Frame, Caller, State, active, goes_by, begins, goes_to, branches, returns, enters_block, enters, calls, operates, ends, runs, extra_of, extra_steps, tac_step, tac_system, entry_block, entry_of, first_state, tac_detail}
use Rattle.ckc_tac.specs.WellFormed.{IsWellFormed, IsFunctionOver, HasParams}
use Rattle.ckc_flow.specs.Live.{leads_to}
use Rattle.ckc_passes.specs.Passes.{Pass, Becomes, ended, kept, dropped, BlockBecomes, FunctionBecomes, ProgramBecomes}
use Rattle.ckc_passes.specs.code.Faithful.{Acts, StandsFor, Vanishes, IsIdle, EndsBeside, IsFaithful}

-- what stands in the same place of the other list
pub zip_get : {A B : Type 0} (R : A → B → Type 0) (xs : List A) (ys : List B) (k : ℕ) (x : A) → AllZip R xs ys → slice_get xs k ≡ Some x
    → (y : B) × (slice_get ys k ≡ Some y) × R x y
zip_get R [] ys k x z e = absurd cc
zip_get R (a ∷ xs) [] k x z e = absurd z
zip_get {A} {B} R (a ∷ xs) (b ∷ ys) zero x z e = (b, refl, subst (λ (c : A). R c b) (let f : a ≡ x = cc in f) z.0)
zip_get R (a ∷ xs) (b ∷ ys) (suc k) x z e = zip_get R xs ys k x z.1 e

-- what holds of all elements holds of each
pub all_at : {X : Type 0} (P : X → Type 0) (xs : List X) (k : ℕ) (x : X) → All P xs → slice_get xs k ≡ Some x → P x
all_at P [] k x h e = absurd cc
all_at P (y ∷ ys) zero x h e = subst P (let f : y ≡ x = cc in f) (All-head P y ys h)
all_at P (y ∷ ys) (suc k) x h e = all_at P ys k x (All-tail P y ys h) e

pub same_test : (a b : ℕ) → a ≡ b → (a == b) ≡ true
same_test a b e = grind (arith, nat_tests)

module _ (p : Pass) (Alike : (blocks : List TacBlock) (done ops : List TacOp) (end : TacEnd) → Values → Values → Type 0) (faithful : IsFaithful p Alike)
    (functions lowers : List TacFunc) (become : AllZip (FunctionBecomes p) functions lowers) where
  -- ---- states beside one another

  pub record FrameBeside (f g : Frame) : Type 0 where
    pub done : List TacOp
    pub blocks : AllZip (BlockBecomes p f.blocks) f.blocks g.blocks
    pub rest : Becomes p f.blocks done f.ops f.end g.ops g.end
    pub alike : Alike f.blocks done f.ops f.end f.registers g.registers

  -- whatever a call returns, the callers go on beside one another
  pub record CallerBeside (c d : Caller) : Type 0 where
    pub done : List TacOp
    pub blocks : AllZip (BlockBecomes p c.frame.blocks) c.frame.blocks d.frame.blocks
    pub rest : Becomes p c.frame.blocks done c.frame.ops c.frame.end d.frame.ops d.frame.end
    pub alike : (v : ℕ) → Alike c.frame.blocks done c.frame.ops c.frame.end (with_result c.frame.registers c.target v) (with_result d.frame.registers d.target v)

  pub record Beside (s t : State) : Type 0 where
    pub frame : FrameBeside s.frame t.frame
    pub callers : AllZip CallerBeside s.callers t.callers
    pub world : t.world ≡ s.world

  abbrev left : State → ℕ
  left s = length s.frame.ops

  abbrev Matches : State → State → Move LongEvent State → Type 0
  Matches s t move = Matched (tac_system lowers) Beside left s t (1 * (extra_steps s.frame.ops + 1)) move

  -- ---- one step

  go : (s t next u : State) (events : List LongEvent) → extra_steps t.frame.ops ≡ extra_steps s.frame.ops → tac_step lowers t ≡ Goes events u → Beside next u
      → Matches s t (Goes events next)
  go s t next u events same e b = (
    extra_steps t.frame.ops + 1,
    u,
    omega (arith, same),
    inl (omega arith),
    one_step (tac_system lowers) events t u e,
    b,
  )

  halt : (s t : State) (standing : Standing) → IsOver standing → extra_steps t.frame.ops ≡ extra_steps s.frame.ops → tac_step lowers t ≡ Halts [] standing
      → Matches s t (Halts [] standing)
  halt s t standing over same e = inr (
    extra_steps t.frame.ops + 1,
    omega (arith, same),
    over,
    one_halt (tac_system lowers) [] t standing e,
  )

  -- the lower one waits
  wait : (s t next : State) (events : List LongEvent) → events ≡ [] → left next < left s → Beside next t → Matches s t (Goes events next)
  wait s t next events none less b = (
    0,
    t,
    omega arith,
    inr less,
    subst (λ (es : List LongEvent). Stretch (tac_system lowers) 0 es t t) (sym none) (no_step (tac_system lowers) t),
    b,
  )

  module _ (blocks low_blocks : List TacBlock) (zip : AllZip (BlockBecomes p blocks) blocks low_blocks) (x y : Values)
      (callers low_callers : List Caller) (beside : AllZip CallerBeside callers low_callers) (world : World) where
    abbrev high : List TacOp → TacEnd → State
    high ops end = record { frame = record { blocks = blocks; ops = ops; end = end; registers = x }; callers = callers; world = world }

    abbrev low : List TacOp → TacEnd → State
    low ops end = record { frame = record { blocks = low_blocks; ops = ops; end = end; registers = y }; callers = low_callers; world = world }

    at_end : (end : TacEnd) → tac_step lowers (low [] end) ≡ ends (low [] end) end
    unfolding tac_step
    at_end end = refl

    at_op : (op : TacOp) (ops : List TacOp) (end : TacEnd) → tac_step lowers (low (op ∷ ops) end) ≡ operates lowers (low (op ∷ ops) end) ops op
    unfolding tac_step
    at_op op ops end = refl

    -- ---- ends of blocks

    module _ (done : List TacOp) (end low_end : TacEnd) (given : p.Ends blocks done end low_end) (alike : Alike blocks done [] end x y) where
      jump : (b : ℕ) (o : Option TacBlock) → slice_get blocks b ≡ o → leads_to b end ≡ true
          → tac_step lowers (low [] low_end) ≡ goes_to (low [] low_end) (slice_get low_blocks b) → Matches (high [] end) (low [] low_end) (goes_to (high [] end) o)
      jump b (Some block) e leads step =
          let (other, there, becomes) = zip_get (BlockBecomes p blocks) blocks low_blocks b block zip e in
          let inner : FrameBeside (begins blocks x block) (begins low_blocks y other) = record {
            done = [];
            blocks = zip;
            rest = becomes;
            alike = faithful.begins blocks done end low_end b block x y given alike leads e;
          } in
          go (high [] end) (low [] low_end) (record { frame = begins blocks x block; callers = callers; world = world })
          (record { frame = begins low_blocks y other; callers = low_callers; world = world }) [] refl
          (step ∙ ap (goes_to (low [] low_end)) there) (record { frame = inner; callers = beside; world = refl })
      jump b None e leads step = inl refl

      choose : (one two : ℕ) (b : Bool) → leads_to one end ≡ true → leads_to two end ≡ true
          → tac_step lowers (low [] low_end) ≡ (if b then goes_to (low [] low_end) (slice_get low_blocks two) else goes_to (low [] low_end) (slice_get low_blocks one))
          → Matches (high [] end) (low [] low_end) (if b then goes_to (high [] end) (slice_get blocks two) else goes_to (high [] end) (slice_get blocks one))
      choose one two true l1 l2 step = jump two (slice_get blocks two) refl l2 step
      choose one two false l1 l2 step = jump one (slice_get blocks one) refl l1 step

      branch : (one two : ℕ) (o q : Option ℕ) → IfSome o (λ v. q ≡ Some v) → leads_to one end ≡ true → leads_to two end ≡ true
          → tac_step lowers (low [] low_end) ≡ branches (low [] low_end) one two q → Matches (high [] end) (low [] low_end) (branches (high [] end) one two o)
      branch one two (Some value) q e l1 l2 step = choose one two (value == 0) l1 l2 (step ∙ ap (branches (low [] low_end) one two) e)
      branch one two None q e l1 l2 step = inl refl

    return : (end low_end : TacEnd) (cs ds : List Caller) (o q : Option ℕ) → AllZip CallerBeside cs ds → IfSome o (λ v. q ≡ Some v)
        → tac_step lowers (low [] low_end) ≡ returns (low [] low_end) ds q → Matches (high [] end) (low [] low_end) (returns (high [] end) cs o)
    return end low_end [] [] (Some value) q z e step = halt (high [] end) (low [] low_end) (Ended value) tt refl (step ∙ ap (returns (low [] low_end) []) e)
    return end low_end (c ∷ cs) (d ∷ ds) (Some value) q z e step =
        let inner : FrameBeside (record c.frame { registers = with_result c.frame.registers c.target value }) (record d.frame { registers = with_result d.frame.registers d.target value }) = record {
          done = z.0.done;
          blocks = z.0.blocks;
          rest = z.0.rest;
          alike = z.0.alike value;
        } in
        go (high [] end) (low [] low_end)
        (record { frame = record c.frame { registers = with_result c.frame.registers c.target value }; callers = cs; world = world })
        (record { frame = record d.frame { registers = with_result d.frame.registers d.target value }; callers = ds; world = world }) (Returned ∷ []) refl
        (step ∙ ap (returns (low [] low_end) (d ∷ ds)) e) (record { frame = inner; callers = z.1; world = refl })
    return end low_end [] (d ∷ ds) o q z e step = absurd z
    return end low_end (c ∷ cs) [] o q z e step = absurd z
    return end low_end [] [] None q z e step = inl refl
    return end low_end (c ∷ cs) (d ∷ ds) None q z e step = inl refl

    end_by : (done : List TacOp) (end low_end : TacEnd) → p.Ends blocks done end low_end → Alike blocks done [] end x y → EndsBeside x y end low_end
        → Matches (high [] end) (low [] low_end) (ends (high [] end) end)
    end_by done (Jump to) low_end given alike is =
        jump done (Jump to) low_end given alike to (slice_get blocks to) refl (same_test to to refl) (at_end low_end ∙ ap (ends (low [] low_end)) is)
    end_by done (Branch comparison a b one two) low_end given alike (c, d, is, e) =
        branch done (Branch comparison a b one two) low_end given alike one two (compared comparison (value_in x a) (value_in x b)) (compared comparison (value_in y c) (value_in y d)) e
        (or_left (one == one) (two == one) (same_test one one refl)) (or_right (one == two) (two == two) (same_test two two refl))
        (at_end low_end ∙ ap (ends (low [] low_end)) is)
    end_by done (Return a) low_end given alike (c, is, e) =
        return (Return a) low_end callers low_callers (value_in x a) (value_in y c) beside e (at_end low_end ∙ ap (ends (low [] low_end)) is)

    -- ---- operations

    module _ (done ops lower : List TacOp) (end low_end : TacEnd) (op : TacOp) (rest : Becomes p blocks (op ∷ done) ops end lower low_end) where
      abbrev After : Values → Values → Type 0
      After = Alike blocks (op ∷ done) ops end

      abbrev s : State
      s = high (op ∷ ops) end

      next_beside : (v w : Values) (after : World) → After v w → (low_world : World) → low_world ≡ after
          → Beside (record { frame = record { blocks = blocks; ops = ops; end = end; registers = v }; callers = callers; world = after })
          (record { frame = record { blocks = low_blocks; ops = lower; end = low_end; registers = w }; callers = low_callers; world = low_world })
      next_beside v w after alike low_world e =
          let inner : FrameBeside (record { blocks = blocks; ops = ops; end = end; registers = v }) (record { blocks = low_blocks; ops = lower; end = low_end; registers = w }) = record {
            done = op ∷ done;
            blocks = zip;
            rest = rest;
            alike = alike;
          } in
          record { frame = inner; callers = beside; world = e }

      act : (lo : TacOp) (out low_out : Outcome) → extra_of lo ≡ extra_of op → Acts After x y out low_out
          → tac_step lowers (low (lo ∷ lower) low_end) ≡ goes_by (low (lo ∷ lower) low_end) lower low_out → Matches s (low (lo ∷ lower) low_end) (goes_by s ops out)
      act lo (Gives events t value after) low_out same h step =
          go s (low (lo ∷ lower) low_end) _ _ events same (step ∙ ap (goes_by (low (lo ∷ lower) low_end) lower) h.0)
          (next_beside (with_written x t value) (with_written y t value) after h.1 after refl)
      act lo (Done events after) low_out same h step =
          go s (low (lo ∷ lower) low_end) _ _ events same (step ∙ ap (goes_by (low (lo ∷ lower) low_end) lower) h.0)
          (next_beside x y after h.1 after refl)
      act lo (Stops check at) low_out same h step =
          halt s (low (lo ∷ lower) low_end) (Stopped check at) tt same (step ∙ ap (goes_by (low (lo ∷ lower) low_end) lower) h)
      act lo Lost low_out same h step = inl refl

      -- a call stands for no other operation, if that is not lost
      act_lost : (t : State) (out : Outcome) → Acts After x y out Lost → Matches s t (goes_by s ops out)
      act_lost t (Gives events target value after) h = absurd (let e = h.0 in cc)
      act_lost t (Done events after) h = absurd (let e = h.0 in cc)
      act_lost t (Stops check at) h = absurd cc
      act_lost t Lost h = inl refl

      quiet : (lo : TacOp) (out : Outcome) → extra_of op ≡ 0 → Acts After x y out (outcome_of y world lo) → Matches s (low (lo ∷ lower) low_end) (goes_by s ops out)
      quiet (Call target callee arguments at) out none h = act_lost (low (Call target callee arguments at ∷ lower) low_end) out h
      quiet lo out none h = act lo out (outcome_of y world lo) (sym none) h (at_op lo lower low_end)

      -- ---- a dropped operation

      vanish : (out : Outcome) → Vanishes After x y world out → Matches s (low lower low_end) (goes_by s ops out)
      vanish (Gives events t value after) h = wait s (low lower low_end) _ events h.0 (omega arith) (next_beside (with_written x t value) y after h.2 world (sym h.1))
      vanish (Done events after) h = wait s (low lower low_end) _ events h.0 (omega arith) (next_beside x y after h.2 world (sym h.1))
      vanish (Stops check at) h = absurd h
      vanish Lost h = inl refl

    -- ---- calls

    module _ (done ops lower : List TacOp) (end low_end : TacEnd) (target : Option ℕ) (callee : ℕ) (arguments others : List ℕ) (at : Pos)
        (rest : Becomes p blocks (Call target callee arguments at ∷ done) ops end lower low_end) (long : length others ≡ length arguments) where
      abbrev After-call : Values → Values → Type 0
      After-call = Alike blocks (Call target callee arguments at ∷ done) ops end

      abbrev upper : State
      upper = high (Call target callee arguments at ∷ ops) end

      abbrev under : State
      under = low (Call target callee others at ∷ lower) low_end

      abbrev IsBack : Type 0
      IsBack = (v : ℕ) → After-call (with_result x target v) (with_result y target v)

      enter_block : (values : List ℕ) (f g : TacFunc) (o : Option TacBlock) → FunctionBecomes p f g → slice_get f.blocks 0 ≡ o → IsBack
          → tac_step lowers under ≡ enters_block under lower target values g.blocks (slice_get g.blocks 0)
          → Matches upper under (enters_block upper ops target values f.blocks o)
      enter_block values f g (Some block) made e back step =
          let (other, there, becomes) = zip_get (BlockBecomes p f.blocks) f.blocks g.blocks 0 block made.blocks e in
          let inner : FrameBeside (begins f.blocks (first_values values) block) (begins g.blocks (first_values values) other) = record {
            done = [];
            blocks = made.blocks;
            rest = becomes;
            alike = faithful.enters f.blocks block (first_values values) e;
          } in
          let outer : Caller = record { frame = record { blocks = blocks; ops = ops; end = end; registers = x }; target = target } in
          let low_outer : Caller = record { frame = record { blocks = low_blocks; ops = lower; end = low_end; registers = y }; target = target } in
          let waiting : CallerBeside outer low_outer = record {
            done = Call target callee arguments at ∷ done;
            blocks = zip;
            rest = rest;
            alike = back;
          } in
          go upper under (record { frame = begins f.blocks (first_values values) block; callers = outer ∷ callers; world = world })
          (record { frame = begins g.blocks (first_values values) other; callers = low_outer ∷ low_callers; world = world }) (Entered ∷ []) long
          (step ∙ ap (enters_block under lower target values g.blocks) there)
          (record { frame = inner; callers = (waiting, beside); world = refl })
      enter_block values f g None made e back step = inl refl

      enter : (values : List ℕ) (o : Option TacFunc) → slice_get functions callee ≡ o → IsBack
          → tac_step lowers under ≡ enters under lower target values (slice_get lowers callee) → Matches upper under (enters upper ops target values o)
      enter values (Some f) e back step =
          let (g, there, made) = zip_get (FunctionBecomes p) functions lowers callee f become e in
          enter_block values f g (slice_get f.blocks 0) made refl back (step ∙ ap (enters under lower target values) there)
      enter values None e back step = inl refl

      room : (values : List ℕ) (b : Bool) → IsBack
          → tac_step lowers under ≡ (if b then enters under lower target values (slice_get lowers callee) else Halts [] (Stopped Depth at))
          → Matches upper under (if b then enters upper ops target values (slice_get functions callee) else Halts [] (Stopped Depth at))
      room values true back step = enter values (slice_get functions callee) refl back step
      room values false back step = halt upper under (Stopped Depth at) tt long step

      active_same : active under ≡ active upper
      active_same = ap (λ n. n + 1) (AllZip-long CallerBeside callers low_callers beside)

      call : (o q : Option (List ℕ)) → IfSome o (λ vs. q ≡ Some vs) → IfSome o (λ vs. IsBack)
          → tac_step lowers under ≡ calls lowers under lower target callee at q → Matches upper under (calls functions upper ops target callee at o)
      call (Some values) q e back step =
          room values (has_room (active upper)) back
          (step ∙ ap (calls lowers under lower target callee at) e
          ∙ ap (λ n. if has_room n then enters under lower target values (slice_get lowers callee) else Halts [] (Stopped Depth at)) active_same)
      call None q e back step = inl refl

    -- ---- every operation

    keep : (done ops lower : List TacOp) (end low_end : TacEnd) (op lo : TacOp) → Becomes p blocks (op ∷ done) ops end lower low_end
        → StandsFor (Alike blocks (op ∷ done) ops end) x y op lo
        → Matches (high (op ∷ ops) end) (low (lo ∷ lower) low_end) (operates functions (high (op ∷ ops) end) ops op)
    keep done ops lower end low_end (Call target callee arguments at) lo rest h =
        subst (λ (l : TacOp). Matches (high (Call target callee arguments at ∷ ops) end) (low (l ∷ lower) low_end) (operates functions (high (Call target callee arguments at ∷ ops) end) ops (Call target callee arguments at)))
        (sym h.is)
        (call done ops lower end low_end target callee arguments h.others at rest h.long (values_in x arguments) (values_in y h.others) h.values h.after
        (at_op (Call target callee h.others at) lower low_end))
    keep done ops lower end low_end op lo rest h = quiet done ops lower end low_end op rest lo (outcome_of x world op) refl (h world)

    drop_op : (done ops lower : List TacOp) (end low_end : TacEnd) (op : TacOp) → Becomes p blocks (op ∷ done) ops end lower low_end
        → IsIdle (Alike blocks (op ∷ done) ops end) x y op → Matches (high (op ∷ ops) end) (low lower low_end) (operates functions (high (op ∷ ops) end) ops op)
    drop_op done ops lower end low_end (Call target callee arguments at) rest h = absurd h
    drop_op done ops lower end low_end op rest h = vanish done ops lower end low_end op rest (outcome_of x world op) (h world)

    pub by : {done ops lower : List TacOp} {end low_end : TacEnd} → Becomes p blocks done ops end lower low_end → Alike blocks done ops end x y
        → Matches (high ops end) (low lower low_end) (runs functions (high ops end) ops)
    by (ended {done = d} {end = e} {low_end = f} given) alike = end_by d e f given alike (faithful.ends blocks d e f x y given alike)
    by (kept {done = d} {ops = os} {lower = ls} {op = o} {low = l} {end = e} {low_end = f} given rest) alike =
        keep d os ls e f o l rest (faithful.keeps blocks d os e o l x y given alike)
    by (dropped {done = d} {ops = os} {lower = ls} {op = o} {end = e} {low_end = f} given rest) alike =
        drop_op d os ls e f o rest (faithful.drops blocks d os e o x y given alike)

  -- ---- whole runs

  matches : (s t : State) → Beside s t → Matches s t (tac_step functions s)
  unfolding tac_step
  matches s t b = subst (λ (w : World). Matches s (record t { world = w }) (runs functions s s.frame.ops)) (sym b.world)
      (by s.frame.blocks t.frame.blocks b.frame.blocks s.frame.registers t.frame.registers s.callers t.callers b.callers s.world b.frame.rest b.frame.alike)

  pub follows_from : (s t : State) → Beside s t → Follows (meaning (tac_system functions) s) (meaning (tac_system lowers) t) 1
  follows_from s t b = follows_by_steps (tac_system functions) (tac_system lowers) Beside left 1 matches s t b

  -- ---- the start

  first_there : (blocks : List TacBlock) → 0 < length blocks → slice_get blocks 0 ≡ None → ⊥
  first_there [] h e = omega arith
  first_there (block ∷ blocks) h e = cc

  starts_block : (f g : TacFunc) (o : Option TacBlock) → FunctionBecomes p f g → 0 < length f.blocks → slice_get f.blocks 0 ≡ o
      → FrameBeside (entry_block f.blocks o) (entry_block g.blocks (slice_get g.blocks 0))
  starts_block f g (Some block) made some e =
      let (other, there, becomes) = zip_get (BlockBecomes p f.blocks) f.blocks g.blocks 0 block made.blocks e in
      let inner : FrameBeside (begins f.blocks none_written block) (begins g.blocks none_written other) = record {
        done = [];
        blocks = made.blocks;
        rest = becomes;
        alike = faithful.enters f.blocks block none_written e;
      } in
      subst (λ (o : Option TacBlock). FrameBeside (begins f.blocks none_written block) (entry_block g.blocks o)) (sym there) inner
  starts_block f g None made some e = absurd (first_there f.blocks some e)

  pub starts : (main : ℕ) (o : Option TacFunc) → All (IsFunctionOver functions) functions → HasParams 0 o → slice_get functions main ≡ o
      → FrameBeside (entry_of o) (entry_of (slice_get lowers main))
  starts main (Some f) over h e =
      let (g, there, made) = zip_get (FunctionBecomes p) functions lowers main f become e in
      subst (λ (o : Option TacFunc). FrameBeside (entry_block f.blocks (slice_get f.blocks 0)) (entry_of o)) (sym there)
      (starts_block f g (slice_get f.blocks 0) made (all_at (IsFunctionOver functions) functions main f over e).1 refl)
  starts main None over h e = absurd h

-- What a faithful pass makes of a program follows the program, in as many steps or fewer.
pub follows_pass : (p : Pass) (Alike : (blocks : List TacBlock) (done ops : List TacOp) (end : TacEnd) → Values → Values → Type 0) → IsFaithful p Alike
    → (t low : Tac) → ProgramBecomes p t low → IsWellFormed t → (input : List ℕ) → Follows (tac_detail t input) (tac_detail low input) 1
follows_pass p Alike faithful t low made whole input =
    let first : FrameBeside p Alike faithful t.funcs low.funcs made.funcs (entry_of (slice_get t.funcs t.main)) (entry_of (slice_get low.funcs t.main)) =
    starts p Alike faithful t.funcs low.funcs made.funcs t.main (slice_get t.funcs t.main) whole.functions whole.main refl in
    follows_from p Alike faithful t.funcs low.funcs made.funcs (first_state t input) (first_state low input) (record {
      frame = subst (λ (n : ℕ). FrameBeside p Alike faithful t.funcs low.funcs made.funcs (entry_of (slice_get t.funcs t.main)) (entry_of (slice_get low.funcs n))) (sym made.main) first;
      callers = tt;
      world = ap (λ (bytes : List ℕ). let w : World = record { memory = first_memory bytes; input = input } in w) made.initial;
    })
