-- The result of the pass follows its argument.
use Rattle.std.proofs.Common.{◌≡◌, inl, inr, ℕ, ◌+◌, ◌*◌, ◌<◌, ◌==◌, if◌then◌else◌, Bool, true, false, List, [], ◌∷◌, length, Option, None, Some, refl, sym, ap, subst, ◌∙◌, arith}
use Rattle.std.specs.Prelude.{All}
use Rattle.std.specs.List.{slice_get, AllZip}
use Rattle.std.proofs.lemmas.Option.{slice_get_within}
use Rattle.std.proofs.lemmas.Slice.Zip.{AllZip-long}
use Rattle.ckc_base.specs.declared.places.Pos.{Pos}
use Rattle.ckc_base.specs.declared.runtime_checks.Check.TheVariants.{Depth}
use Rattle.ckc_base.specs.Traces.{Standing, Ended, Stopped}
use Rattle.ckc_base.specs.Follows.{IsOver, Follows}
use Rattle.ckc_base.specs.Steps.{Move, Goes, Halts, meaning}
use Rattle.ckc_base.specs.LongEvents.{LongEvent, Entered, Returned}
use Rattle.ckc_base.specs.Actions.{World, Outcome, Gives, Done, Stops, Lost}
use Rattle.ckc_base.specs.Activations.{Values, with_written, with_result, has_room, first_values, none_written}
use Rattle.ckc_base.specs.Memory.{first_memory}
use Rattle.ckc_base.proofs.Runs.{Matched, one_step, one_halt, no_step, follows_by_steps}
use Rattle.ckc_tac.specs.declared.code.Tac.{Tac}
use Rattle.ckc_tac.specs.declared.code.TacFunc.{TacFunc}
use Rattle.ckc_tac.specs.declared.code.TacBlock.{TacBlock}
use Rattle.ckc_tac.specs.declared.code.TacOp.{TacOp}
use Rattle.ckc_tac.specs.declared.code.TacOp.TheVariants.{Call}
use Rattle.ckc_tac.specs.declared.code.TacEnd.{TacEnd}
use Rattle.ckc_tac.specs.declared.code.TacEnd.TheVariants.{Jump, Branch, Return}
use Rattle.ckc_tac.specs.Operations.{outcome_of, value_in, values_in, compared}
use Rattle.ckc_tac.specs.Meaning.{Caller, State, active, goes_by, begins, goes_to, branches, returns, enters_block, enters, calls, operates, ends, runs, extra_steps, tac_step, tac_system, entry_block, entry_of, first_state, tac_detail}
use Rattle.ckc_tac.specs.WellFormed.{IsWellFormed, IsFunctionOver, HasParams}
use Rattle.ckc_passes.proofs.Followed.{zip_get, all_at}
use Rattle.ckc_passes_jumps.specs.Jumps.{passed_on, passes_to, Leads, arrives, passes, IsShort, IsReached, at_entry, along, at_first, IsTarget, EndAfter, BlockAfter, Left, FunctionAfter, ProgramAfter}
use Rattle.ckc_passes_jumps.specs.code.Beside.{Reaches, Near, standing, walking, FrameBeside, CallerBeside, Beside, passings_left}
use Rattle.ckc_passes_jumps.proofs.Walking.{same_there, short_within}
use Rattle.ckc_passes_jumps.proofs.Shrunk.{stands_at, there_is}
use Rattle.ckc_passes_jumps.proofs.Passings.{passed_less}

-- ---- blocks

passing_is : (ops : List TacOp) (end : TacEnd) (to : ℕ) → passed_on ops end ≡ Some to → (ops ≡ []) × (end ≡ Jump to)
passing_is [] (Jump t) to e = (refl, ap Jump (let f : t ≡ to = cc in f))
passing_is [] (Branch comparison x y one two) to e = absurd cc
passing_is [] (Return x) to e = absurd cc
passing_is (op ∷ ops) end to e = absurd cc

module _ (blocks : List TacBlock) where
  reaches : (b : ℕ) (block : TacBlock) → slice_get blocks b ≡ Some block → IsReached blocks b → Reaches blocks block.end
  reaches b block at is c leads = along b block at leads is

  near_same : (c : ℕ) (block other low : TacBlock) → slice_get blocks c ≡ Some block → slice_get blocks c ≡ Some other → IsReached blocks c → BlockAfter blocks other low
      → Near blocks block.ops block.end low.ops low.end
  near_same c block other low at again is made =
      subst (λ (o : TacBlock). Near blocks o.ops o.end low.ops low.end) (same_there blocks c other block again at)
      (standing made.ops made.end (reaches c other again is))

  -- above at the beginning of the block b, and below at that of the block that is led to in its place
  near_by : (b c : ℕ) (block other low : TacBlock) → slice_get blocks b ≡ Some block → slice_get blocks c ≡ Some other → IsShort blocks b c → IsReached blocks c
      → BlockAfter blocks other low → Near blocks block.ops block.end low.ops low.end
  near_by b c block other low at there (inl (arrives first here none)) is made = near_same b block other low at there is made
  near_by b c block other low at there (inl (passes first to here e l)) is made =
      let p = passing_is block.ops block.end to (ap passes_to (same_there blocks b block first at here) ∙ e) in
      walking to c other p.0 p.1 l is there made.ops made.end
  near_by b c block other low at there (inr (n, e)) is made =
      near_same b block other low at (subst (λ q. slice_get blocks q ≡ Some other) e there) (subst (IsReached blocks) e is) made

module _ (functions lowers : List TacFunc) (become : AllZip FunctionAfter functions lowers) where
  abbrev Matches : State → State → Move LongEvent State → Type 0
  Matches s t move = Matched (tac_system lowers) Beside passings_left s t (1 * (extra_steps s.frame.ops + 1)) move

  -- ---- one step

  go : (s t next u : State) (events : List LongEvent) → extra_steps t.frame.ops ≡ extra_steps s.frame.ops → tac_step lowers t ≡ Goes events u → Beside next u
      → Matches s t (Goes events next)
  go s t next u events same e b = (
    extra_steps t.frame.ops + 1,
    u,
    omega (arith, same),
    inl (omega arith),
    one_step (tac_system lowers) events t u e,
    b,
  )

  halt : (s t : State) (last : Standing) → IsOver last → extra_steps t.frame.ops ≡ extra_steps s.frame.ops → tac_step lowers t ≡ Halts [] last
      → Matches s t (Halts [] last)
  halt s t last over same e = inr (
    extra_steps t.frame.ops + 1,
    omega (arith, same),
    over,
    one_halt (tac_system lowers) [] t last e,
  )

  -- the lower one waits
  wait : (s t next : State) → passings_left next < passings_left s → Beside next t → Matches s t (Goes [] next)
  wait s t next less b = (0, t, omega arith, inr less, no_step (tac_system lowers) t, b)

  module _ (blocks low_blocks : List TacBlock) (left : Left blocks 0 blocks low_blocks) (x : Values)
      (callers low_callers : List Caller) (beside : AllZip CallerBeside callers low_callers) (world : World) where
    abbrev high : List TacOp → TacEnd → State
    high ops end = record { frame = record { blocks = blocks; ops = ops; end = end; registers = x }; callers = callers; world = world }

    abbrev low : List TacOp → TacEnd → State
    low ops end = record { frame = record { blocks = low_blocks; ops = ops; end = end; registers = x }; callers = low_callers; world = world }

    at_end : (end : TacEnd) → tac_step lowers (low [] end) ≡ ends (low [] end) end
    unfolding tac_step
    at_end end = refl

    at_op : (op : TacOp) (ops : List TacOp) (end : TacEnd) → tac_step lowers (low (op ∷ ops) end) ≡ operates lowers (low (op ∷ ops) end) ops op
    unfolding tac_step
    at_op op ops end = refl

    -- both in this function, with these registers
    in_both : (v : Values) (ops low_ops : List TacOp) (end low_end : TacEnd) (after : World) → Near blocks ops end low_ops low_end
        → Beside (record { frame = record { blocks = blocks; ops = ops; end = end; registers = v }; callers = callers; world = after })
        (record { frame = record { blocks = low_blocks; ops = low_ops; end = low_end; registers = v }; callers = low_callers; world = after })
    in_both v ops low_ops end low_end after near =
        let inner : FrameBeside (record { blocks = blocks; ops = ops; end = end; registers = v }) (record { blocks = low_blocks; ops = low_ops; end = low_end; registers = v }) =
        record { blocks = left; rest = near; registers = refl } in
        record { frame = inner; callers = beside; world = refl }

    -- ---- ends of blocks

    jump : (end low_end : TacEnd) (b k : ℕ) (o : Option TacBlock) → slice_get blocks b ≡ o → IsTarget blocks b k → ((c : ℕ) → IsShort blocks b c → IsReached blocks c)
        → tac_step lowers (low [] low_end) ≡ goes_to (low [] low_end) (slice_get low_blocks k) → Matches (high [] end) (low [] low_end) (goes_to (high [] end) o)
    jump end low_end b k (Some block) e (c, short, place) reached step =
        let within : b < length blocks = slice_get_within blocks b block e in
        let other = there_is blocks c (short_within blocks b c within short) in
        let s = stands_at blocks low_blocks c k other.0 left other.1 (reached c short) place in
        go (high [] end) (low [] low_end) (record { frame = begins blocks x block; callers = callers; world = world })
        (record { frame = begins low_blocks x s.0; callers = low_callers; world = world }) [] refl
        (step ∙ ap (goes_to (low [] low_end)) s.1)
        (in_both x block.ops s.0.ops block.end s.0.end world (near_by blocks b c block other.0 s.0 e other.1 short (reached c short) s.2))
    jump end low_end b k None e target reached step = inl refl

    module _ (end low_end : TacEnd) (one two k l : ℕ) (first : IsTarget blocks one k) (second : IsTarget blocks two l)
        (r1 : (c : ℕ) → IsShort blocks one c → IsReached blocks c) (r2 : (c : ℕ) → IsShort blocks two c → IsReached blocks c) where
      -- to one block or the other
      choose : (b : Bool) → tac_step lowers (low [] low_end) ≡ (if b then goes_to (low [] low_end) (slice_get low_blocks l) else goes_to (low [] low_end) (slice_get low_blocks k))
          → Matches (high [] end) (low [] low_end) (if b then goes_to (high [] end) (slice_get blocks two) else goes_to (high [] end) (slice_get blocks one))
      choose true step = jump end low_end two l (slice_get blocks two) refl second r2 step
      choose false step = jump end low_end one k (slice_get blocks one) refl first r1 step

      branch : (o : Option ℕ) → tac_step lowers (low [] low_end) ≡ branches (low [] low_end) k l o → Matches (high [] end) (low [] low_end) (branches (high [] end) one two o)
      branch (Some value) step = choose (value == 0) step
      branch None step = inl refl

      either : (b : Bool) (go : Move LongEvent State) → (if b then go else go) ≡ go
      either true go = refl
      either false go = refl

      -- both lead to the same block below
      meet : k ≡ l → (o : Option ℕ) → tac_step lowers (low [] low_end) ≡ goes_to (low [] low_end) (slice_get low_blocks k)
          → Matches (high [] end) (low [] low_end) (branches (high [] end) one two o)
      meet e (Some value) step =
          choose (value == 0)
          (step ∙ sym (either (value == 0) (goes_to (low [] low_end) (slice_get low_blocks k)))
          ∙ ap (λ n. if value == 0 then goes_to (low [] low_end) (slice_get low_blocks n) else goes_to (low [] low_end) (slice_get low_blocks k)) e)
      meet e None step = inl refl

    return : (end low_end : TacEnd) (cs ds : List Caller) (o : Option ℕ) → AllZip CallerBeside cs ds
        → tac_step lowers (low [] low_end) ≡ returns (low [] low_end) ds o → Matches (high [] end) (low [] low_end) (returns (high [] end) cs o)
    return end low_end [] [] (Some value) z step = halt (high [] end) (low [] low_end) (Ended value) tt refl step
    return end low_end (c ∷ cs) (d ∷ ds) (Some value) z step =
        let f = z.0.frame in
        let registers : with_result d.frame.registers d.target value ≡ with_result c.frame.registers c.target value =
        ap (λ (y : Values). with_result y d.target value) f.registers ∙ ap (λ t. with_result c.frame.registers t value) z.0.target in
        let inner : FrameBeside (record c.frame { registers = with_result c.frame.registers c.target value }) (record d.frame { registers = with_result d.frame.registers d.target value }) =
        record { blocks = f.blocks; rest = f.rest; registers = registers } in
        go (high [] end) (low [] low_end)
        (record { frame = record c.frame { registers = with_result c.frame.registers c.target value }; callers = cs; world = world })
        (record { frame = record d.frame { registers = with_result d.frame.registers d.target value }; callers = ds; world = world }) (Returned ∷ []) refl
        step (record { frame = inner; callers = z.1; world = refl })
    return end low_end [] (d ∷ ds) o z step = absurd z
    return end low_end (c ∷ cs) [] o z step = absurd z
    return end low_end [] [] None z step = inl refl
    return end low_end (c ∷ cs) (d ∷ ds) None z step = inl refl

    end_by : (end low_end : TacEnd) → EndAfter blocks end low_end → Reaches blocks end → Matches (high [] end) (low [] low_end) (ends (high [] end) end)
    end_by (Jump to) low_end (k, target, e) r =
        jump (Jump to) low_end to k (slice_get blocks to) refl target r (at_end low_end ∙ ap (ends (low [] low_end)) e)
    end_by (Branch comparison a b one two) low_end (k, l, first, second, inl (same, e)) r =
        meet (Branch comparison a b one two) low_end one two k l first second (λ c v. r c (inl v)) (λ c v. r c (inr v)) same
        (compared comparison (value_in x a) (value_in x b)) (at_end low_end ∙ ap (ends (low [] low_end)) e)
    end_by (Branch comparison a b one two) low_end (k, l, first, second, inr (apart, e)) r =
        branch (Branch comparison a b one two) low_end one two k l first second (λ c v. r c (inl v)) (λ c v. r c (inr v))
        (compared comparison (value_in x a) (value_in x b)) (at_end low_end ∙ ap (ends (low [] low_end)) e)
    end_by (Return a) low_end e r =
        return (Return a) low_end callers low_callers (value_in x a) beside (at_end low_end ∙ ap (ends (low [] low_end)) e)

    -- the lower one waits while a block is passed
    walk : (to c : ℕ) (other : TacBlock) (low_ops : List TacOp) (low_end : TacEnd) → Leads blocks to c → IsReached blocks c → slice_get blocks c ≡ Some other
        → low_ops ≡ other.ops → EndAfter blocks other.end low_end → (o : Option TacBlock) → slice_get blocks to ≡ o
        → Matches (high [] (Jump to)) (low low_ops low_end) (goes_to (high [] (Jump to)) o)
    walk to c other low_ops low_end l is there same made (Some block) e =
        let after : BlockAfter blocks other (record { ops = low_ops; end = low_end }) = record { ops = same; end = made } in
        wait (high [] (Jump to)) (low low_ops low_end) (record { frame = begins blocks x block; callers = callers; world = world })
        (passed_less blocks to c block e l)
        (in_both x block.ops low_ops block.end low_end world
        (near_by blocks to c block other (record { ops = low_ops; end = low_end }) e there (inl l) is after))
    walk to c other low_ops low_end l is there same made None e = inl refl

    -- ---- operations

    module _ (op : TacOp) (ops : List TacOp) (end low_end : TacEnd) (made : EndAfter blocks end low_end) (r : Reaches blocks end) where
      act : (out : Outcome) → tac_step lowers (low (op ∷ ops) low_end) ≡ goes_by (low (op ∷ ops) low_end) ops out
          → Matches (high (op ∷ ops) end) (low (op ∷ ops) low_end) (goes_by (high (op ∷ ops) end) ops out)
      act (Gives events t value after) step =
          go (high (op ∷ ops) end) (low (op ∷ ops) low_end) _ _ events refl step (in_both (with_written x t value) ops ops end low_end after (standing refl made r))
      act (Done events after) step =
          go (high (op ∷ ops) end) (low (op ∷ ops) low_end) _ _ events refl step (in_both x ops ops end low_end after (standing refl made r))
      act (Stops check at) step = halt (high (op ∷ ops) end) (low (op ∷ ops) low_end) (Stopped check at) tt refl step
      act Lost step = inl refl

    module _ (ops : List TacOp) (end low_end : TacEnd) (target : Option ℕ) (callee : ℕ) (arguments : List ℕ) (at : Pos)
        (made : EndAfter blocks end low_end) (r : Reaches blocks end) where
      abbrev upper : State
      upper = high (Call target callee arguments at ∷ ops) end

      abbrev under : State
      under = low (Call target callee arguments at ∷ ops) low_end

      enter_block : (values : List ℕ) (f g : TacFunc) (o : Option TacBlock) → FunctionAfter f g → slice_get f.blocks 0 ≡ o
          → tac_step lowers under ≡ enters_block under ops target values g.blocks (slice_get g.blocks 0)
          → Matches upper under (enters_block upper ops target values f.blocks o)
      enter_block values f g (Some block) m e step =
          let s = stands_at f.blocks g.blocks 0 0 block m.blocks e at_entry at_first in
          let inner : FrameBeside (begins f.blocks (first_values values) block) (begins g.blocks (first_values values) s.0) =
          record { blocks = m.blocks; rest = near_same f.blocks 0 block block s.0 e e at_entry s.2; registers = refl } in
          let outer : Caller = record { frame = record { blocks = blocks; ops = ops; end = end; registers = x }; target = target } in
          let low_outer : Caller = record { frame = record { blocks = low_blocks; ops = ops; end = low_end; registers = x }; target = target } in
          let held : FrameBeside outer.frame low_outer.frame = record { blocks = left; rest = standing refl made r; registers = refl } in
          let waiting : CallerBeside outer low_outer = record { frame = held; target = refl } in
          go upper under (record { frame = begins f.blocks (first_values values) block; callers = outer ∷ callers; world = world })
          (record { frame = begins g.blocks (first_values values) s.0; callers = low_outer ∷ low_callers; world = world }) (Entered ∷ []) refl
          (step ∙ ap (enters_block under ops target values g.blocks) s.1)
          (record { frame = inner; callers = (waiting, beside); world = refl })
      enter_block values f g None m e step = inl refl

      enter : (values : List ℕ) (o : Option TacFunc) → slice_get functions callee ≡ o
          → tac_step lowers under ≡ enters under ops target values (slice_get lowers callee) → Matches upper under (enters upper ops target values o)
      enter values (Some f) e step =
          let (g, there, m) = zip_get FunctionAfter functions lowers callee f become e in
          enter_block values f g (slice_get f.blocks 0) m refl (step ∙ ap (enters under ops target values) there)
      enter values None e step = inl refl

      room : (values : List ℕ) (b : Bool)
          → tac_step lowers under ≡ (if b then enters under ops target values (slice_get lowers callee) else Halts [] (Stopped Depth at))
          → Matches upper under (if b then enters upper ops target values (slice_get functions callee) else Halts [] (Stopped Depth at))
      room values true step = enter values (slice_get functions callee) refl step
      room values false step = halt upper under (Stopped Depth at) tt refl step

      active_same : active under ≡ active upper
      active_same = ap (λ n. n + 1) (AllZip-long CallerBeside callers low_callers beside)

      call : (o : Option (List ℕ)) → tac_step lowers under ≡ calls lowers under ops target callee at o → Matches upper under (calls functions upper ops target callee at o)
      call (Some values) step =
          room values (has_room (active upper))
          (step ∙ ap (λ n. if has_room n then enters under ops target values (slice_get lowers callee) else Halts [] (Stopped Depth at)) active_same)
      call None step = inl refl

    operate : (op : TacOp) (ops : List TacOp) (end low_end : TacEnd) → EndAfter blocks end low_end → Reaches blocks end
        → Matches (high (op ∷ ops) end) (low (op ∷ ops) low_end) (operates functions (high (op ∷ ops) end) ops op)
    operate (Call target callee arguments at) ops end low_end made r =
        call ops end low_end target callee arguments at made r (values_in x arguments) (at_op (Call target callee arguments at) ops low_end)
    operate op ops end low_end made r = act op ops end low_end made r (outcome_of x world op) (at_op op ops low_end)

    stand : (ops : List TacOp) (end low_end : TacEnd) → EndAfter blocks end low_end → Reaches blocks end
        → Matches (high ops end) (low ops low_end) (runs functions (high ops end) ops)
    stand [] end low_end made r = end_by end low_end made r
    stand (op ∷ ops) end low_end made r = operate op ops end low_end made r

    pub by : {ops low_ops : List TacOp} {end low_end : TacEnd} → Near blocks ops end low_ops low_end → Matches (high ops end) (low low_ops low_end) (runs functions (high ops end) ops)
    by (standing {ops = ops} {end = end} {low_end = low_end} same made r) =
        subst (λ (l : List TacOp). Matches (high ops end) (low l low_end) (runs functions (high ops end) ops)) (sym same) (stand ops end low_end made r)
    by (walking {low_ops = low_ops} {end = end} {low_end = low_end} to c block none jumps l is at same made) =
        subst (λ (os : List TacOp). Matches (high os end) (low low_ops low_end) (runs functions (high os end) os)) (sym none)
        (subst (λ (e : TacEnd). Matches (high [] e) (low low_ops low_end) (runs functions (high [] e) [])) (sym jumps)
        (walk to c block low_ops low_end l is at same made (slice_get blocks to) refl))

  -- ---- whole runs

  matches : (s t : State) → Beside s t → Matches s t (tac_step functions s)
  unfolding tac_step
  matches s t b =
      subst (λ (w : World). Matches s (record t { world = w }) (runs functions s s.frame.ops)) (sym b.world)
      (subst (λ (y : Values). Matches s (record t { frame = record t.frame { registers = y }; world = s.world }) (runs functions s s.frame.ops)) (sym b.frame.registers)
      (by s.frame.blocks t.frame.blocks b.frame.blocks s.frame.registers s.callers t.callers b.callers s.world b.frame.rest))

  pub follows_from : (s t : State) → Beside s t → Follows (meaning (tac_system functions) s) (meaning (tac_system lowers) t) 1
  follows_from s t b = follows_by_steps (tac_system functions) (tac_system lowers) Beside passings_left 1 matches s t b

  -- ---- the start

  starts_function : (f g : TacFunc) → FunctionAfter f g → 0 < length f.blocks → FrameBeside (entry_of (Some f)) (entry_of (Some g))
  starts_function f g m some =
      let first = there_is f.blocks 0 some in
      let s = stands_at f.blocks g.blocks 0 0 first.0 m.blocks first.1 at_entry at_first in
      let inner : FrameBeside (begins f.blocks none_written first.0) (begins g.blocks none_written s.0) =
      record { blocks = m.blocks; rest = near_same f.blocks 0 first.0 first.0 s.0 first.1 first.1 at_entry s.2; registers = refl } in
      subst (λ (o : Option TacBlock). FrameBeside (entry_block f.blocks o) (entry_of (Some g))) (sym first.1)
      (subst (λ (o : Option TacBlock). FrameBeside (begins f.blocks none_written first.0) (entry_block g.blocks o)) (sym s.1) inner)

  pub starts : (main : ℕ) (o : Option TacFunc) → All (IsFunctionOver functions) functions → HasParams 0 o → slice_get functions main ≡ o
      → FrameBeside (entry_of o) (entry_of (slice_get lowers main))
  starts main (Some f) over h e =
      let (g, there, m) = zip_get FunctionAfter functions lowers main f become e in
      subst (λ (o : Option TacFunc). FrameBeside (entry_of (Some f)) (entry_of o)) (sym there)
      (starts_function f g m (all_at (IsFunctionOver functions) functions main f over e).1)
  starts main None over h e = absurd h

-- What the pass makes of a program follows the program, in as many steps or fewer.
pub follows_jumps : (t low : Tac) → ProgramAfter t low → IsWellFormed t → (input : List ℕ) → Follows (tac_detail t input) (tac_detail low input) 1
follows_jumps t low made whole input =
    let first : FrameBeside (entry_of (slice_get t.funcs t.main)) (entry_of (slice_get low.funcs t.main)) =
    starts t.funcs low.funcs made.funcs t.main (slice_get t.funcs t.main) whole.functions whole.main refl in
    follows_from t.funcs low.funcs made.funcs (first_state t input) (first_state low input) (record {
      frame = subst (λ (n : ℕ). FrameBeside (entry_of (slice_get t.funcs t.main)) (entry_of (slice_get low.funcs n))) (sym made.main) first;
      callers = tt;
      world = ap (λ (bytes : List ℕ). let w : World = record { memory = first_memory bytes; input = input } in w) made.initial;
    })
