-- Placed code takes the steps of the three-address code, one for one, if registers that are live at once have places
-- of their own and calls keep what is live after them.
use Rattle.std.proofs.Common.{◌≡◌, ◌≢◌, inl, inr, ⊎_elim, ◌⊎◌, ℕ, zero, suc, ◌+◌, ◌*◌, ◌<◌, ◌==◌, if◌then◌else◌, Bool, true, false, List, [], ◌∷◌, ◌++◌, ◌||◌, length, map, get_or, Option, None, Some, refl, sym, ap, subst, ◌∙◌, arith, append_assoc}
use Rattle.std.specs.Prelude.{All, IfSome}
use Rattle.std.specs.List.{slice_get, list_any}
use Rattle.std.specs.Option.{option_map}
use Rattle.std.proofs.lemmas.Bool.{cases_eq, or_cases, or_left, or_right}
use Rattle.std.proofs.lemmas.Bool.Decides.{nat_tests}
use Rattle.std.proofs.lemmas.Option.{slice_get-map, slice_get-get_or}
use Rattle.std.proofs.lemmas.List.{length-map}
use Rattle.std.proofs.lemmas.List.Elements.{All-head, All-tail}
use Rattle.std.proofs.lemmas.List.Sums.{sum_by_push}
use Rattle.ckc_base.specs.declared.places.Pos.{Pos}
use Rattle.ckc_base.specs.declared.runtime_checks.Check.TheVariants.{Depth}
use Rattle.ckc_base.specs.Traces.{Standing, Ended, Stopped}
use Rattle.ckc_base.specs.Follows.{IsOver, Follows}
use Rattle.ckc_base.specs.Steps.{Move, Goes, Halts, meaning}
use Rattle.ckc_base.specs.Matching.{MatchedBy}
use Rattle.ckc_base.specs.LongEvents.{LongEvent, Entered, Returned}
use Rattle.ckc_base.specs.Actions.{World, Outcome, Gives, Done, Stops, Lost}
use Rattle.ckc_base.specs.Activations.{Values, with_written, with_result, has_room, first_values, none_written}
use Rattle.ckc_base.specs.Memory.{first_memory}
use Rattle.ckc_base.proofs.Runs.{one_step, one_halt, follows_by_pairs}
use Rattle.ckc_tac.specs.declared.code.TacFunc.{TacFunc}
use Rattle.ckc_tac.specs.declared.code.TacBlock.{TacBlock}
use Rattle.ckc_tac.specs.declared.code.Operand.{Operand}
use Rattle.ckc_tac.specs.declared.code.Operand.TheVariants.{Register, Number}
use Rattle.ckc_tac.specs.declared.code.TacOp.{TacOp}
use Rattle.ckc_tac.specs.declared.code.TacOp.TheVariants.{Const, Copy, Bin, High, Load, Store, Check, Call, Get, Put, Alloc}
use Rattle.ckc_tac.specs.declared.code.TacEnd.{TacEnd}
use Rattle.ckc_tac.specs.declared.code.TacEnd.TheVariants.{Jump, Branch, Return}
use Rattle.ckc_tac.specs.Operations.{outcome_of, value_in, values_in, compared}
use Rattle.ckc_tac.specs.Meaning as tac
use Rattle.ckc_tac.specs.WellFormed.{IsFunctionOver, IsBlockOver, IsEndOver, IsOpOver, IsOperandOver, HasParams}
use Rattle.ckc_flow.specs.Live.{is_register, IsLive, read_here, read_later, read_at_end, read_in_block, reads, target_of, end_reads, leads_to}
use Rattle.ckc_frame.specs.declared.code.Place.TheVariants.{Slot}
use Rattle.ckc_frame.specs.declared.code.PlacedFunc.{PlacedFunc}
use Rattle.ckc_frame.specs.Meaning as frame
use Rattle.ckc_frame.specs.Places.{home, registers_in, entry_places, places_kept, marks_of}
use Rattle.ckc_assign.specs.Apart.{IsPoint, HasOwnPlaces, KeepsLive, calls_before}
use Rattle.ckc_assign.proofs.Values.{written_same, written_other, entry_at, kept_at}
use Rattle.ckc_assign.proofs.Outcomes.{same_test, GoesTo, goes_to_target, Same, same_of, outcome_same, compared_same, returned_same, values_same, length-values_in}

-- what holds of all elements holds of each
pub all_get : {X : Type 0} (P : X → Type 0) (xs : List X) (k : ℕ) (x : X) → All P xs → slice_get xs k ≡ Some x → P x
all_get P [] k x h e = absurd cc
all_get P (y ∷ ys) zero x h e = subst P (let f : y ≡ x = cc in f) (All-head P y ys h)
all_get P (y ∷ ys) (suc k) x h e = all_get P ys k x (All-tail P y ys h) e

all_behind : {X : Type 0} (P : X → Type 0) (xs ys : List X) → All P (xs ++ ys) → All P ys
all_behind P [] ys h = h
all_behind P (x ∷ xs) ys h = all_behind P xs ys (All-tail P x (xs ++ ys) h)

module _ (placed : List PlacedFunc) where
  abbrev pub functions : List TacFunc
  functions = map (λ (f : PlacedFunc). f.code) placed

  -- a function of the program, placed as it must be
  pub record IsFine (f : PlacedFunc) : Type 0 where
    pub over : IsFunctionOver functions f.code
    pub homes : length f.homes ≡ f.code.regs
    pub apart : HasOwnPlaces f
    pub keeps : KeepsLive f

  module _ (fine_at : (k : ℕ) (f : PlacedFunc) → slice_get placed k ≡ Some f → IsFine f) where
    -- ---- pairs

    -- the registers that are live at a place have their values at their homes, but for one that a result is to come to
    abbrev Agree : PlacedFunc → List TacOp → TacEnd → Option ℕ → Values → Values → Type 0
    Agree f ops end awaits registers places = (r : ℕ) → r < f.code.regs → IsLive f.code.blocks r ops end → awaits ≢ Some r
        → IfSome (registers r) (λ v. places (home f.homes r) ≡ Some v)

    pub record FramePair (awaits : Option ℕ) : Type 0 where
      pub function : PlacedFunc
      pub number : ℕ
      pub block : TacBlock
      pub front : List TacOp
      pub ops : List TacOp
      pub registers : Values
      pub places : Values
      pub fine : IsFine function
      pub at : IsPoint function.code number block front ops
      pub count : ℕ
      pub counted : count ≡ calls_before function.code number front
      pub agree : Agree function ops block.end awaits registers places

    pub record CallerPair : Type 0 where
      pub target : Option ℕ
      pub frame : FramePair target
      pub apart : (t r : ℕ) → target ≡ Some t → r < frame.function.code.regs → t ≢ r → IsLive frame.function.code.blocks r frame.ops frame.block.end
          → home frame.function.homes t ≢ home frame.function.homes r

    pub record Pair : Type 0 where
      pub frame : FramePair None
      pub callers : List CallerPair
      pub world : World

    abbrev upper_frame : (o : Option ℕ) → FramePair o → tac.Frame
    upper_frame o p = record { blocks = p.function.code.blocks; ops = p.ops; end = p.block.end; registers = p.registers }

    abbrev lower_frame : (o : Option ℕ) → FramePair o → frame.Frame
    lower_frame o p = record { function = p.function; ops = p.ops; end = p.block.end; calls_before = p.count; places = p.places }

    abbrev upper_caller : CallerPair → tac.Caller
    upper_caller p = record { frame = upper_frame p.target p.frame; target = p.target }

    abbrev lower_caller : CallerPair → frame.Caller
    lower_caller p = record { frame = lower_frame p.target p.frame; target = p.target }

    abbrev pub upper : Pair → tac.State
    upper p = record { frame = upper_frame None p.frame; callers = map upper_caller p.callers; world = p.world }

    abbrev pub lower : Pair → frame.State
    lower p = record { frame = lower_frame None p.frame; callers = map lower_caller p.callers; world = p.world }

    abbrev Matches : Pair → Move LongEvent tac.State → Type 0
    Matches p move = MatchedBy (frame.placed_system placed) upper lower (λ s. 0) (upper p) (lower p) (1 * (tac.extra_steps p.frame.ops + 1)) move

    -- ---- one step

    goes : (p q : Pair) (events : List LongEvent) (next : tac.State) → frame.placed_step placed (lower p) ≡ Goes events (lower q) → upper q ≡ next → Matches p (Goes events next)
    goes p q events next e f = (
      tac.extra_steps p.frame.ops + 1,
      q,
      omega arith,
      inl (omega arith),
      one_step (frame.placed_system placed) events (lower p) (lower q) e,
      f,
    )

    halts : (p : Pair) (standing : Standing) → IsOver standing → frame.placed_step placed (lower p) ≡ Halts [] standing → Matches p (Halts [] standing)
    halts p standing o e = inr (tac.extra_steps p.frame.ops + 1, omega arith, o, one_halt (frame.placed_system placed) [] (lower p) standing e)

    -- ---- places of the code

    abbrev nothing : Option ℕ
    nothing = None

    none_some : (r : ℕ) → nothing ≢ Some r
    none_some r e = absurd cc

    some_apart : (t r : ℕ) → t ≢ r → Some t ≢ Some r
    some_apart t r apart e = apart (let f : t ≡ r = cc in f)

    at_begin : (f : TacFunc) (b : ℕ) (block : TacBlock) → slice_get f.blocks b ≡ Some block → IsPoint f b block [] block.ops
    at_begin f b block e = record { there = e; split = refl }

    at_next : (f : TacFunc) (b : ℕ) (block : TacBlock) (front ops : List TacOp) (op : TacOp) → IsPoint f b block front (op ∷ ops) → IsPoint f b block (front ++ op ∷ []) ops
    at_next f b block front ops op at = record { there = at.there; split = at.split ∙ sym (append_assoc front (op ∷ []) ops) }

    begin_calls : (f : TacFunc) (b : ℕ) → frame.calls_in_front f.blocks b ≡ calls_before f b []
    begin_calls f b = omega arith

    next_calls : (f : TacFunc) (b : ℕ) (front : List TacOp) (op : TacOp) → calls_before f b (front ++ op ∷ []) ≡ calls_before f b front + frame.is_call op
    next_calls f b front op = let e = sum_by_push frame.is_call front op in omega (arith, e)

    ops_over : (f : PlacedFunc) (b : ℕ) (block : TacBlock) (front ops : List TacOp) → IsFine f → IsPoint f.code b block front ops → All (IsOpOver functions f.code.regs) ops
    ops_over f b block front ops fine at =
        let block_over = all_get (IsBlockOver functions (length f.code.blocks) f.code.regs) f.code.blocks b block fine.over.2 at.there in
        all_behind (IsOpOver functions f.code.regs) front ops (subst (All (IsOpOver functions f.code.regs)) at.split block_over.0)

    target_over : (regs : ℕ) (op : TacOp) (t : ℕ) → IsOpOver functions regs op → target_of op ≡ Some t → t < regs
    target_over regs (Const q n) t h e = subst (λ x. x < regs) (let f : q ≡ t = cc in f) h.0
    target_over regs (Copy q a) t h e = subst (λ x. x < regs) (let f : q ≡ t = cc in f) h.0
    target_over regs (Bin op q a b) t h e = subst (λ x. x < regs) (let f : q ≡ t = cc in f) h.0
    target_over regs (High is_signed q a b) t h e = subst (λ x. x < regs) (let f : q ≡ t = cc in f) h.0
    target_over regs (Load width q a n) t h e = subst (λ x. x < regs) (let f : q ≡ t = cc in f) h.0
    target_over regs (Store width a n b) t h e = absurd cc
    target_over regs (Check check at comparison a b) t h e = absurd cc
    target_over regs (Call (Some q) callee arguments at) t h e = subst (λ x. x < regs) (let f : q ≡ t = cc in f) h.0
    target_over regs (Call None callee arguments at) t h e = absurd cc
    target_over regs (Get q) t h e = subst (λ x. x < regs) (let f : q ≡ t = cc in f) h
    target_over regs (Put a) t h e = absurd cc
    target_over regs (Alloc q a size) t h e = subst (λ x. x < regs) (let f : q ≡ t = cc in f) h.0

    -- ---- what is written

    written_agree : (f : PlacedFunc) (ops : List TacOp) (end : TacEnd) (t v : ℕ) (registers places : Values)
        → ((r : ℕ) → r < f.code.regs → t ≢ r → IsLive f.code.blocks r ops end → home f.homes t ≢ home f.homes r)
        → Agree f ops end (Some t) registers places → Agree f ops end None (with_written registers t v) (with_written places (home f.homes t) v)
    written_agree f ops end t v registers places apart h r k live not = ⊎_elim
        (λ (e : r ≡ t). subst (λ (o : Option ℕ). IfSome o (λ w. with_written places (home f.homes t) v (home f.homes r) ≡ Some w)) (sym (written_same registers t v r e))
        (written_same places (home f.homes t) v (home f.homes r) (ap (home f.homes) e)))
        (λ (e : r ≡ t → ⊥).
        let same = written_other places (home f.homes t) v (home f.homes r) (λ g. apart r k (λ m. e (sym m)) live (sym g)) in
        subst (λ (o : Option ℕ). IfSome o (λ w. with_written places (home f.homes t) v (home f.homes r) ≡ Some w)) (sym (written_other registers t v r e))
        (subst (λ (q : Option ℕ). IfSome (registers r) (λ w. q ≡ Some w)) (sym same) (h r k live (some_apart t r (λ m. e (sym m))))))
        (cases_eq r t)

    result_agree : (f : PlacedFunc) (ops : List TacOp) (end : TacEnd) (target : Option ℕ) (v : ℕ) (registers places : Values)
        → ((t r : ℕ) → target ≡ Some t → r < f.code.regs → t ≢ r → IsLive f.code.blocks r ops end → home f.homes t ≢ home f.homes r)
        → Agree f ops end target registers places → Agree f ops end None (with_result registers target v) (frame.with_result_at f.homes places target v)
    result_agree f ops end (Some t) v registers places apart h = written_agree f ops end t v registers places (λ r. apart t r refl) h
    result_agree f ops end None v registers places apart h = h

    -- ---- ends of blocks

    jumps : (p : Pair) (b : ℕ) (o : Option TacBlock) → leads_to b p.frame.block.end ≡ true → p.frame.ops ≡ [] → slice_get p.frame.function.code.blocks b ≡ o
        → frame.placed_step placed (lower p) ≡ frame.goes_to (lower p) b o → Matches p (tac.goes_to (upper p) o)
    jumps p b (Some block) leads none e step =
        let f = p.frame.function in
        let next : FramePair None = record {
          function = f;
          number = b;
          block = block;
          front = [];
          ops = block.ops;
          registers = p.frame.registers;
          places = p.frame.places;
          fine = p.frame.fine;
          at = at_begin f.code b block e;
          count = frame.calls_in_front f.code.blocks b;
          counted = begin_calls f.code b;
          agree = λ r h live not. p.frame.agree r h
              (subst (λ ops. IsLive f.code.blocks r ops p.frame.block.end) (sym none) (read_in_block b block leads e live)) not;
        } in
        goes p (record { frame = next; callers = p.callers; world = p.world }) [] _ step refl
    jumps p b None leads none e step = inl refl

    chooses : (p : Pair) (one two : ℕ) (b : Bool) → leads_to one p.frame.block.end ≡ true → leads_to two p.frame.block.end ≡ true → p.frame.ops ≡ []
        → frame.placed_step placed (lower p) ≡ (if b then frame.goes_to (lower p) two (slice_get p.frame.function.code.blocks two) else frame.goes_to (lower p) one (slice_get p.frame.function.code.blocks one))
        → Matches p (if b then tac.goes_to (upper p) (slice_get p.frame.function.code.blocks two) else tac.goes_to (upper p) (slice_get p.frame.function.code.blocks one))
    chooses p one two true l1 l2 none step = jumps p two (slice_get p.frame.function.code.blocks two) l2 none refl step
    chooses p one two false l1 l2 none step = jumps p one (slice_get p.frame.function.code.blocks one) l1 none refl step

    branches : (p : Pair) (one two : ℕ) (o q : Option ℕ) → Same o q → leads_to one p.frame.block.end ≡ true → leads_to two p.frame.block.end ≡ true → p.frame.ops ≡ []
        → frame.placed_step placed (lower p) ≡ frame.branches (lower p) one two q → Matches p (tac.branches (upper p) one two o)
    branches p one two (Some value) q (inl e) l1 l2 none step = absurd cc
    branches p one two (Some value) q (inr e) l1 l2 none step = chooses p one two (value == 0) l1 l2 none (step ∙ ap (frame.branches (lower p) one two) (sym e))
    branches p one two None q s l1 l2 none step = inl refl

    abbrev back : CallerPair → ℕ → FramePair None
    back c v = record {
      function = c.frame.function;
      number = c.frame.number;
      block = c.frame.block;
      front = c.frame.front;
      ops = c.frame.ops;
      registers = with_result c.frame.registers c.target v;
      places = frame.with_result_at c.frame.function.homes c.frame.places c.target v;
      fine = c.frame.fine;
      at = c.frame.at;
      count = c.frame.count;
      counted = c.frame.counted;
      agree = result_agree c.frame.function c.frame.ops c.frame.block.end c.target v c.frame.registers c.frame.places c.apart c.frame.agree;
    }

    returns : (p : Pair) (callers : List CallerPair) (o q : Option ℕ) → Same o q
        → frame.placed_step placed (lower p) ≡ frame.returns (lower p) (map lower_caller callers) q → Matches p (tac.returns (upper p) (map upper_caller callers) o)
    returns p callers (Some value) q (inl e) step = absurd cc
    returns p [] (Some value) q (inr e) step = halts p (Ended value) tt (step ∙ ap (frame.returns (lower p) []) (sym e))
    returns p (caller ∷ callers) (Some value) q (inr e) step =
        goes p (record { frame = back caller value; callers = callers; world = p.world }) (Returned ∷ []) _
        (step ∙ ap (frame.returns (lower p) (map lower_caller (caller ∷ callers))) (sym e)) refl
    returns p [] None q s step = inl refl
    returns p (caller ∷ callers) None q s step = inl refl

    -- what an end reads has the same value at its home
    end_read : (p : Pair) (end : TacEnd) → p.frame.ops ≡ [] → p.frame.block.end ≡ end → (r : ℕ) → r < p.frame.function.code.regs → end_reads r end ≡ true
        → Same (p.frame.registers r) (registers_in p.frame.function.homes p.frame.places r)
    unfolding registers_in
    end_read p end none is r h read = same_of (p.frame.registers r) (p.frame.places (home p.frame.function.homes r))
        (p.frame.agree r h (subst (λ ops. IsLive p.frame.function.code.blocks r ops p.frame.block.end) (sym none)
        (read_at_end (subst (λ e. end_reads r e ≡ true) (sym is) read))) (none_some r))

    test_same : (a r : ℕ) → (a == r) ≡ true → a ≡ r
    test_same a r e = grind (arith, nat_tests)

    operand_over : (regs : ℕ) (a : Operand) (r : ℕ) → IsOperandOver regs a → is_register r a ≡ true → r < regs
    operand_over regs (Register q) r h e = subst (λ x. x < regs) (test_same q r e) h
    operand_over regs (Number n) r h e = absurd cc

    two_over : (regs : ℕ) (a b : Operand) (r : ℕ) → IsOperandOver regs a → IsOperandOver regs b → (is_register r a || is_register r b) ≡ true → r < regs
    two_over regs a b r h k e = ⊎_elim (λ m. operand_over regs a r h m) (λ m. operand_over regs b r k m) (or_cases (is_register r a) (is_register r b) e)

    any_over : (regs : ℕ) (rs : List ℕ) (r : ℕ) → All (λ q. q < regs) rs → list_any (λ a. a == r) rs ≡ true → r < regs
    any_over regs [] r h e = absurd cc
    any_over regs (a ∷ rs) r h e = ⊎_elim
        (λ m. subst (λ x. x < regs) (test_same a r m) (All-head (λ q. q < regs) a rs h))
        (λ m. any_over regs rs r (All-tail (λ q. q < regs) a rs h) m) (or_cases (a == r) (list_any (λ q. q == r) rs) e)

    reads_over : (regs : ℕ) (op : TacOp) (r : ℕ) → IsOpOver functions regs op → reads r op ≡ true → r < regs
    reads_over regs (Const q n) r h e = absurd cc
    reads_over regs (Copy q a) r h e = subst (λ x. x < regs) (test_same a r e) h.1
    reads_over regs (Bin op q a b) r h e = two_over regs a b r h.1 h.2 e
    reads_over regs (High is_signed q a b) r h e = two_over regs a b r h.1 h.2 e
    reads_over regs (Load width q a n) r h e = operand_over regs a r h.1 e
    reads_over regs (Store width a n b) r h e = two_over regs a b r h.0 h.2 e
    reads_over regs (Check check at comparison a b) r h e = two_over regs a b r h.1 h.2 e
    reads_over regs (Call target callee arguments at) r h e = any_over regs arguments r h.2 e
    reads_over regs (Get q) r h e = absurd cc
    reads_over regs (Put a) r h e = operand_over regs a r h e
    reads_over regs (Alloc q a size) r h e = operand_over regs a r h.1 e

    ends : (p : Pair) (end : TacEnd) → p.frame.ops ≡ [] → p.frame.block.end ≡ end → IsEndOver (length p.frame.function.code.blocks) p.frame.function.code.regs end
        → frame.placed_step placed (lower p) ≡ frame.ends (lower p) end → Matches p (tac.ends (upper p) end)
    ends p (Jump to) none is over step =
        jumps p to (slice_get p.frame.function.code.blocks to) (subst (λ e. leads_to to e ≡ true) (sym is) (same_test to to refl)) none refl step
    ends p (Branch comparison a b one two) none is over step =
        let regs = p.frame.function.code.regs in
        let registers = registers_in p.frame.function.homes p.frame.places in
        let end = Branch comparison a b one two in
        branches p one two (compared comparison (value_in p.frame.registers a) (value_in p.frame.registers b)) (compared comparison (value_in registers a) (value_in registers b))
        (compared_same p.frame.registers registers comparison a b (λ r e. end_read p end none is r (two_over regs a b r over.0 over.1 e) e))
        (subst (λ e. leads_to one e ≡ true) (sym is) (or_left (one == one) (two == one) (same_test one one refl)))
        (subst (λ e. leads_to two e ≡ true) (sym is) (or_right (one == two) (two == two) (same_test two two refl))) none step
    ends p (Return a) none is over step =
        let registers = registers_in p.frame.function.homes p.frame.places in
        returns p p.callers (value_in p.frame.registers a) (value_in registers a)
        (returned_same p.frame.registers registers a (λ r e. end_read p (Return a) none is r (operand_over p.frame.function.code.regs a r over e) e)) step

    -- ---- operations

    module _ (p : Pair) (op : TacOp) (ops : List TacOp) (is : p.frame.ops ≡ op ∷ ops) where
      abbrev f : PlacedFunc
      f = p.frame.function

      here : IsPoint f.code p.frame.number p.frame.block p.frame.front (op ∷ ops)
      here = subst (λ l. IsPoint f.code p.frame.number p.frame.block p.frame.front l) is p.frame.at

      over : IsOpOver functions f.code.regs op
      over = All-head (IsOpOver functions f.code.regs) op ops (ops_over f p.frame.number p.frame.block p.frame.front (op ∷ ops) p.frame.fine here)

      -- what is live afterwards and not written is live here
      before : (r : ℕ) → r < f.code.regs → IsLive f.code.blocks r ops p.frame.block.end → target_of op ≢ Some r
          → IfSome (p.frame.registers r) (λ v. p.frame.places (home f.homes r) ≡ Some v)
      before r h live not = p.frame.agree r h (subst (λ l. IsLive f.code.blocks r l p.frame.block.end) (sym is) (read_later not live)) (none_some r)

      read_same : (r : ℕ) → reads r op ≡ true → Same (p.frame.registers r) (registers_in f.homes p.frame.places r)
      unfolding registers_in
      read_same r e = same_of (p.frame.registers r) (p.frame.places (home f.homes r))
          (p.frame.agree r (reads_over f.code.regs op r over e) (subst (λ l. IsLive f.code.blocks r l p.frame.block.end) (sym is) (read_here e)) (none_some r))

      quiet_count : frame.is_call op ≡ 0 → p.frame.count ≡ calls_before f.code p.frame.number (p.frame.front ++ op ∷ [])
      quiet_count e = let n = next_calls f.code p.frame.number p.frame.front op in let m = p.frame.counted in omega arith

      acts : (out : Outcome) → frame.is_call op ≡ 0 → GoesTo (target_of op) out
          → frame.placed_step placed (lower p) ≡ frame.goes_by (lower p) ops out → Matches p (tac.goes_by (upper p) ops out)
      acts (Gives events t value world) quiet to step =
          let next : FramePair None = record {
            function = f;
            number = p.frame.number;
            block = p.frame.block;
            front = p.frame.front ++ op ∷ [];
            ops = ops;
            registers = with_written p.frame.registers t value;
            places = with_written p.frame.places (home f.homes t) value;
            fine = p.frame.fine;
            at = at_next f.code p.frame.number p.frame.block p.frame.front ops op here;
            count = p.frame.count;
            counted = quiet_count quiet;
            agree = written_agree f ops p.frame.block.end t value p.frame.registers p.frame.places
                (λ r h apart live. p.frame.fine.apart.written p.frame.number p.frame.block p.frame.front ops op t r here (target_over f.code.regs op t over to) h apart to live)
                (λ r h live not. before r h live (λ e. not (sym to ∙ e)));
          } in
          goes p (record { frame = next; callers = p.callers; world = world }) events _ step refl
      acts (Done events world) quiet to step =
          let next : FramePair None = record {
            function = f;
            number = p.frame.number;
            block = p.frame.block;
            front = p.frame.front ++ op ∷ [];
            ops = ops;
            registers = p.frame.registers;
            places = p.frame.places;
            fine = p.frame.fine;
            at = at_next f.code p.frame.number p.frame.block p.frame.front ops op here;
            count = p.frame.count;
            counted = quiet_count quiet;
            agree = λ r h live not. before r h live (λ e. none_some r (sym to ∙ e));
          } in
          goes p (record { frame = next; callers = p.callers; world = world }) events _ step refl
      acts (Stops check at) quiet to step = halts p (Stopped check at) tt step
      acts Lost quiet to step = inl refl

      acts_as : (out low : Outcome) → (out ≡ Lost) ⊎ (out ≡ low) → frame.is_call op ≡ 0 → GoesTo (target_of op) out
          → frame.placed_step placed (lower p) ≡ frame.goes_by (lower p) ops low → Matches p (tac.goes_by (upper p) ops out)
      acts_as out low (inl e) quiet to step = subst (λ o. Matches p (tac.goes_by (upper p) ops o)) (sym e) (inl refl)
      acts_as out low (inr e) quiet to step = acts out quiet to (step ∙ ap (frame.goes_by (lower p) ops) (sym e))

      pub quiet_op : frame.is_call op ≡ 0
          → frame.placed_step placed (lower p) ≡ frame.goes_by (lower p) ops (outcome_of (registers_in f.homes p.frame.places) p.world op)
          → Matches p (tac.goes_by (upper p) ops (outcome_of p.frame.registers p.world op))
      quiet_op quiet step =
          acts_as (outcome_of p.frame.registers p.world op) (outcome_of (registers_in f.homes p.frame.places) p.world op)
          (outcome_same p.frame.registers (registers_in f.homes p.frame.places) p.world op read_same) quiet (goes_to_target p.frame.registers p.world op) step

    -- ---- calls

    entry_agree : (g : PlacedFunc) (block : TacBlock) (values : List ℕ) → IsFine g → slice_get g.code.blocks 0 ≡ Some block → length values ≡ g.code.params
        → Agree g block.ops block.end None (first_values values) (entry_places g.homes 0 values)
    unfolding first_values
    entry_agree g block values fine e n r h live not = entered (slice_get values r) refl
      where
        entered : (o : Option ℕ) → slice_get values r ≡ o → IfSome o (λ v. entry_places g.homes 0 values (home g.homes r) ≡ Some v)
        entered (Some v) is = entry_at g.homes values 0 r r v (omega arith) is (λ q m apart. let least = fine.over.0 in fine.apart.entered block q r e (omega (arith, n)) (omega (arith, n, least)) h apart live)
        entered None is = tt

    module _ (p : Pair) (ops : List TacOp) (target : Option ℕ) (callee : ℕ) (arguments : List ℕ) (at : Pos)
        (is : p.frame.ops ≡ Call target callee arguments at ∷ ops) where
      abbrev call : TacOp
      call = Call target callee arguments at

      abbrev g : PlacedFunc
      g = p.frame.function

      there : IsPoint g.code p.frame.number p.frame.block p.frame.front (call ∷ ops)
      there = subst (λ l. IsPoint g.code p.frame.number p.frame.block p.frame.front l) is p.frame.at

      abbrev marks : List Bool
      marks = marks_of (slice_get g.kept p.frame.count)

      kept_place : (r : ℕ) → r < g.code.regs → get_or marks r false ≡ true → places_kept g.homes marks p.frame.places (home g.homes r) ≡ p.frame.places (home g.homes r)
      kept_place r h m = kept_at g.homes marks p.frame.places r (get_or g.homes r (Slot 0)) (slice_get-get_or g.homes r (Slot 0) (omega (arith, p.frame.fine.homes))) m

      marked : (r : ℕ) → r < g.code.regs → IsLive g.code.blocks r ops p.frame.block.end → target ≢ Some r → get_or marks r false ≡ true
      marked r h live not = subst (λ n. get_or (marks_of (slice_get g.kept n)) r false ≡ true) (sym p.frame.counted)
          ((p.frame.fine.keeps.keeps p.frame.number p.frame.block p.frame.front ops target callee arguments at r there h).1 (live, not))

      abbrev outer : CallerPair
      outer =
          let behind : FramePair target = record {
            function = g;
            number = p.frame.number;
            block = p.frame.block;
            front = p.frame.front ++ call ∷ [];
            ops = ops;
            registers = p.frame.registers;
            places = places_kept g.homes marks p.frame.places;
            fine = p.frame.fine;
            at = at_next g.code p.frame.number p.frame.block p.frame.front ops call there;
            count = p.frame.count + 1;
            counted = (let n = next_calls g.code p.frame.number p.frame.front call in let m = p.frame.counted in omega arith);
            agree = λ r h live not. subst (λ (q : Option ℕ). IfSome (p.frame.registers r) (λ v. q ≡ Some v)) (sym (kept_place r h (marked r h live not)))
                (before p call ops is r h live not);
          } in
          record {
            target = target;
            frame = behind;
            apart = λ t r e h ne live. p.frame.fine.apart.written p.frame.number p.frame.block p.frame.front ops call t r there
                (target_over g.code.regs call t (over p call ops is) e) h ne e live;
          }

      enters_block : (values : List ℕ) (k : PlacedFunc) (o : Option TacBlock) → IsFine k → length values ≡ k.code.params → slice_get k.code.blocks 0 ≡ o
          → frame.placed_step placed (lower p) ≡ frame.enters_block (lower p) ops target values k o
          → Matches p (tac.enters_block (upper p) ops target values k.code.blocks o)
      enters_block values k (Some block) fine n e step =
          let inner : FramePair None = record {
            function = k;
            number = 0;
            block = block;
            front = [];
            ops = block.ops;
            registers = first_values values;
            places = entry_places k.homes 0 values;
            fine = fine;
            at = at_begin k.code 0 block e;
            count = frame.calls_in_front k.code.blocks 0;
            counted = begin_calls k.code 0;
            agree = entry_agree k block values fine e n;
          } in
          goes p (record { frame = inner; callers = outer ∷ p.callers; world = p.world }) (Entered ∷ []) _ step refl
      enters_block values k None fine n e step = inl refl

      enters : (values : List ℕ) (o : Option PlacedFunc) → HasParams (length values) (option_map (λ (k : PlacedFunc). k.code) o) → slice_get placed callee ≡ o
          → frame.placed_step placed (lower p) ≡ frame.enters (lower p) ops target values o
          → Matches p (tac.enters (upper p) ops target values (option_map (λ (k : PlacedFunc). k.code) o))
      enters values (Some k) params e step = enters_block values k (slice_get k.code.blocks 0) (fine_at callee k e) (sym params) refl step
      enters values None params e step = absurd params

      rooms : (values : List ℕ) (b : Bool) → HasParams (length values) (slice_get functions callee)
          → frame.placed_step placed (lower p) ≡ (if b then frame.enters (lower p) ops target values (slice_get placed callee) else Halts [] (Stopped Depth at))
          → Matches p (if b then tac.enters (upper p) ops target values (slice_get functions callee) else Halts [] (Stopped Depth at))
      rooms values true params step =
          let e = slice_get-map (λ (k : PlacedFunc). k.code) placed callee in
          subst (λ (o : Option TacFunc). Matches p (tac.enters (upper p) ops target values o)) (sym e)
          (enters values (slice_get placed callee) (subst (HasParams (length values)) e params) refl step)
      rooms values false params step = halts p (Stopped Depth at) tt step

      active_same : frame.active (lower p) ≡ tac.active (upper p)
      active_same = ap (λ n. n + 1) (length-map p.callers lower_caller ∙ sym (length-map p.callers upper_caller))

      called : (o q : Option (List ℕ)) → Same o q → values_in p.frame.registers arguments ≡ o
          → frame.placed_step placed (lower p) ≡ frame.calls placed (lower p) ops target callee at q
          → Matches p (tac.calls functions (upper p) ops target callee at o)
      called (Some values) q (inl e) f step = absurd cc
      called (Some values) q (inr e) f step =
          let long = length-values_in p.frame.registers arguments values f in
          rooms values (has_room (tac.active (upper p))) (subst (λ n. HasParams n (slice_get functions callee)) (sym long) (over p call ops is).1)
          (step ∙ ap (frame.calls placed (lower p) ops target callee at) (sym e)
          ∙ ap (λ n. if has_room n then frame.enters (lower p) ops target values (slice_get placed callee) else Halts [] (Stopped Depth at)) active_same)
      called None q s f step = inl refl

      pub call_op : frame.placed_step placed (lower p) ≡ frame.calls placed (lower p) ops target callee at (values_in (registers_in g.homes p.frame.places) arguments)
          → Matches p (tac.calls functions (upper p) ops target callee at (values_in p.frame.registers arguments))
      call_op step =
          called (values_in p.frame.registers arguments) (values_in (registers_in g.homes p.frame.places) arguments)
          (values_same p.frame.registers (registers_in g.homes p.frame.places) arguments (read_same p call ops is)) refl step

    -- ---- every step

    operates : (p : Pair) (ops : List TacOp) (op : TacOp) → p.frame.ops ≡ op ∷ ops
        → frame.placed_step placed (lower p) ≡ frame.operates placed (lower p) ops op → Matches p (tac.operates functions (upper p) ops op)
    operates p ops (Call target callee arguments at) is step = call_op p ops target callee arguments at is step
    operates p ops op is step = quiet_op p op ops is refl step

    runs : (p : Pair) (ops : List TacOp) → p.frame.ops ≡ ops → frame.placed_step placed (lower p) ≡ frame.runs placed (lower p) ops
        → Matches p (tac.runs functions (upper p) ops)
    runs p [] is step =
        let f = p.frame.function in
        ends p p.frame.block.end is refl (all_get (IsBlockOver functions (length f.code.blocks) f.code.regs) f.code.blocks p.frame.number p.frame.block p.frame.fine.over.2 p.frame.at.there).1 step
    runs p (op ∷ ops) is step = operates p ops op is step

    matches : (p : Pair) → Matches p (tac.tac_step functions (upper p))
    unfolding tac.tac_step frame.placed_step
    matches p = runs p p.frame.ops refl refl

    -- from a pair on the placed code follows
    pub follows_from : (p : Pair) → Follows (meaning (tac.tac_system functions) (upper p)) (meaning (frame.placed_system placed) (lower p)) 1
    follows_from p = follows_by_pairs (tac.tac_system functions) (frame.placed_system placed) upper lower (λ s. 0) 1 matches p

    -- ---- the start

    first_there : (blocks : List TacBlock) → 0 < length blocks → slice_get blocks 0 ≡ None → ⊥
    first_there [] h e = omega arith
    first_there (block ∷ blocks) h e = cc

    abbrev upper_start : tac.Frame → List ℕ → List ℕ → tac.State
    upper_start f initial input = record { frame = f; callers = []; world = record { memory = first_memory initial; input = input } }

    abbrev lower_start : frame.Frame → List ℕ → List ℕ → frame.State
    lower_start f initial input = record { frame = f; callers = []; world = record { memory = first_memory initial; input = input } }

    starts_at : (f : PlacedFunc) (o : Option TacBlock) (initial input : List ℕ) → IsFine f → slice_get f.code.blocks 0 ≡ o
        → Follows (meaning (tac.tac_system functions) (upper_start (tac.entry_block f.code.blocks o) initial input))
        (meaning (frame.placed_system placed) (lower_start (frame.entry_block f o) initial input)) 1
    starts_at f (Some block) initial input fine e =
        let first : FramePair None = record {
          function = f;
          number = 0;
          block = block;
          front = [];
          ops = block.ops;
          registers = none_written;
          places = none_written;
          fine = fine;
          at = at_begin f.code 0 block e;
          count = frame.calls_in_front f.code.blocks 0;
          counted = begin_calls f.code 0;
          agree = λ r h live not. tt;
        } in
        follows_from (record { frame = first; callers = []; world = record { memory = first_memory initial; input = input } })
    starts_at f None initial input fine e = absurd (first_there f.code.blocks fine.over.1 e)

    pub starts : (main : ℕ) (o : Option PlacedFunc) (initial input : List ℕ) → HasParams 0 (option_map (λ (k : PlacedFunc). k.code) o) → slice_get placed main ≡ o
        → Follows (meaning (tac.tac_system functions) (upper_start (tac.entry_of (option_map (λ (k : PlacedFunc). k.code) o)) initial input))
        (meaning (frame.placed_system placed) (lower_start (frame.entry_of o) initial input)) 1
    starts main (Some f) initial input h e = starts_at f (slice_get f.code.blocks 0) initial input (fine_at main f e) refl
    starts main None initial input h e = absurd h
