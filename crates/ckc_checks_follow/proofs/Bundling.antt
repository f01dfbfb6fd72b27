-- A bundle finds all its places and values, and then all of them are written.
use Rattle.std.proofs.Common.{◌≡◌, inr, ℕ, ◌^◌, ◌+◌, ◌*◌, ◌≤◌, ◌<◌, List, [], ◌∷◌, ◌++◌, length, refl, sym, ◌∙◌, ap, subst, arith}
use Rattle.std.specs.Prelude.{Bool, true, false, if◌then◌else◌, slice_set, Option, Some, None, Result, Ok, Err, All}
use Rattle.std.proofs.lemmas.List.Elements.{All-nil, All-cons, All-head, All-tail}
use Rattle.ckc_base.specs.declared.places.Pos.{Pos}
use Rattle.ckc_base.specs.declared.arithmetic.Width.TheVariants.{Word}
use Rattle.ckc_base.specs.Traces as standing
use Rattle.ckc_base.specs.LongEvents.{LongEvent, Stored}
use Rattle.ckc_base.specs.Memory.{kept_part, value_at, memory_with, with_bytes, width_bytes, data_start, heap_has_room, next_place}
use Rattle.ckc_base.specs.Actions.{World, Gives, with_value, allocates, allocates_at, allocates_in}
use Rattle.ckc_base.specs.Activations.{Values, with_written}
use Rattle.ckc_source.specs.declared.expr.Pointee.{Pointee}
use Rattle.ckc_source.specs.declared.program.Shape.{Shape}
use Rattle.ckc_source.specs.declared.outcome.Value.{Value}
use Rattle.ckc_source.specs.declared.outcome.Halt.{Halt}
use Rattle.ckc_source.specs.declared.outcome.Halt.TheVariants.{Stopped, Stuck}
use Rattle.ckc_source.specs.declared.outcome.Place.{Place}
use Rattle.ckc_source.specs.declared.outcome.Place.TheVariants as place
use Rattle.ckc_source.specs.Code as source
use Rattle.ckc_source.specs.Blocks.{Block, stored, fresh}
use Rattle.ckc_source.specs.Eval.{Store, given, evaluated}
use Rattle.ckc_source.specs.States.{Work, Rest}
use Rattle.ckc_source.specs.States as S
use Rattle.ckc_source.specs.Steps.{store_of, aimed, allowed, writes, with_blocks, Write, all_written, Drawn, allocated, drawn, Planned, and_then_written, planned, bundled, at_work, and_moves, comes_to}
use Rattle.ckc_core.specs.Code.{Expr, Local, Code, Set, Store as StoreTo, Alloc, Function}
use Rattle.ckc_core.specs.Meaning.{value_of, nodes, core_step, goes_by}
use Rattle.ckc_core.specs.Meaning as C
use Rattle.ckc_checks_operands.specs.Compilable.{target_nodes, right_nodes, assigns_nodes, expr_nodes, IsCompilableExpr, IsCompilableTarget, IsCompilableRight, IsCompilableAssign, IsCompilableFunction}
use Rattle.ckc_checks_operands.specs.code.Operands.{kept_in, operand}
use Rattle.ckc_checks_follow.specs.code.Inserted.{reached_place, expr_code, aim_code, target_count, guarded, fixed, allowed_code, taken, written_there, valued, planned_code, behind_planned, plans_code, writes_code, bundle_code, statements}
use Rattle.ckc_checks_follow.proofs.Paths.{Quiet, no_quiet, then_quiet, then_quiet_ends, quiet_by, Path, path_by, IsQuiet, no_path}
use Rattle.ckc_checks_follow.proofs.Running.{Runs, then_runs, at, by_set}
use Rattle.ckc_checks_follow.proofs.Flat.{allocated_same, stored_same}
use Rattle.ckc_checks_follow.proofs.Values.{Sees, word_seen}
use Rattle.ckc_checks_follow.proofs.Bounded.{GivesWord}
use Rattle.ckc_checks_follow.proofs.Counts.{expr_steps, operand_steps, operand_nodes, found_few, written_same, written_below}
use Rattle.ckc_checks_follow.proofs.Coming.{Below, Held, known}
use Rattle.ckc_checks_follow.proofs.Coming as X
use Rattle.ckc_checks_follow.proofs.Aiming.{IsAt, Aimed, aim_steps, aim_comes}
use Rattle.ckc_checks_follow.proofs.Exprs.{expr_comes, operand_comes}
use Rattle.ckc_checks_follow.proofs.Relation.{Stands}
use Rattle.ckc_checks_follow.proofs.Guarding.{check_steps, guard_few, check_few, IsMarked, marked_later, kept_value, kept_nodes, allows_any, guard_runs}
use Rattle.ckc_checks_follow.proofs.Writing.{Permits, PermitsAll, quiet, Written, same_state, then_comes_to, longer_written, written_other, set_local, store_step, kept_small}
use Rattle.ckc_checks_follow.proofs.Acting.{core_of, Meets, IsReady, ready_below}

-- ---- running on

module _ (functions : List Function) where
  -- what comes of an evaluation goes on for a few steps
  last_runs : {A : Type 0} (a b m n k : ℕ) (s : C.State) (x : Result A Halt) (Q : A → C.State → Type 0) (R : A → C.State → Type 0) → m + n ≤ k → Runs functions a m s x Q
      → ((v : A) (u : C.State) → Q v u → (count : ℕ) × (w : C.State) × (b ≤ count) × (count ≤ n) × Quiet functions count u w × R v w)
      → Runs functions (a + b) k s x R
  last_runs a b m n k s (Ok v) Q R few r next =
      let q = next v r.1 r.5 in
      (r.0 + q.0, q.1, omega (arith, r.2, q.2), omega (arith, r.3, q.3), then_quiet functions r.0 q.0 s r.1 q.1 r.4 q.4, q.5)
  last_runs a b m n k s (Err (Stopped why place)) Q R few r next = (r.0, omega (arith, r.1), r.2)
  last_runs a b m n k s (Err Stuck) Q R few r next = tt

  -- what is made of the value
  made_runs : {A B : Type 0} (least most k : ℕ) (s : C.State) (x : Result A Halt) (g : A → B) (R : B → C.State → Type 0) → most ≤ k → Runs functions least most s x (λ v u. R (g v) u)
      → Runs functions least k s (given x (λ v. Ok (g v))) R
  made_runs least most k s (Ok v) g R few r = (r.0, r.1, r.2, omega (arith, r.3), r.4, r.5)
  made_runs least most k s (Err (Stopped why place)) g R few r = (r.0, omega (arith, r.1), r.2)
  made_runs least most k s (Err Stuck) g R few r = tt

  -- a stretch in front that is as long as is asked
  longer_runs : {A : Type 0} (count least n k : ℕ) (s u : C.State) (x : Result A Halt) (Q : A → C.State → Type 0) → count + n ≤ k → least ≤ count
      → Quiet functions count s u → Runs functions 0 n u x Q → Runs functions least k s x Q
  longer_runs count least n k s u (Ok v) Q few some path r =
      (count + r.0, r.1, omega arith, omega (arith, r.3), then_quiet functions count r.0 s u r.1 path r.4, r.5)
  longer_runs count least n k s u (Err (Stopped why place)) Q few some path r =
      (count + r.0, omega (arith, r.1), then_quiet_ends functions count r.0 s u (standing.Stopped why place) path r.2)
  longer_runs count least n k s u (Err Stuck) Q few some path r = tt

  -- one evaluation that is as long as is asked, and then another
  first_then : {A B : Type 0} (least m n k : ℕ) (s : C.State) (x : Result A Halt) (f : A → Result B Halt) (Q : A → C.State → Type 0) (R : B → C.State → Type 0)
      → m + n ≤ k → Runs functions least m s x Q → ((v : A) (u : C.State) → Q v u → Runs functions 0 n u (f v) R) → Runs functions least k s (given x f) R
  first_then least m n k s (Ok v) f Q R few r next = longer_runs r.0 least n k s r.1 (f v) R (omega (arith, r.3)) r.2 r.4 (next v r.1 r.5)
  first_then least m n k s (Err (Stopped why place)) f Q R few r next = (r.0, omega (arith, r.1), r.2)
  first_then least m n k s (Err Stuck) f Q R few r next = tt

  -- the same, of which nothing is asked
  any_runs : {A : Type 0} (least most : ℕ) (s : C.State) (x : Result A Halt) (Q : A → C.State → Type 0) → Runs functions least most s x Q → Runs functions 0 most s x Q
  any_runs least most s (Ok v) Q r = (r.0, r.1, omega arith, r.3, r.4, r.5)
  any_runs least most s (Err (Stopped why place)) Q r = r
  any_runs least most s (Err Stuck) Q r = tt

-- ---- steps

-- in how many steps a place goes to a temporary
abbrev fixed_steps : source.Target → ℕ → ℕ
fixed_steps (source.Memory width access p i) t = nodes (reached_place access p i t) + 1
fixed_steps target t = 0

abbrev place_steps : source.Target → ℕ → ℕ
place_steps target t = aim_steps target t + fixed_steps target t

abbrev allow_steps : source.Target → ℕ
allow_steps (source.Memory width access p i) = check_steps access.through
allow_steps target = 0

place_few : (target : source.Target) (t : ℕ) → place_steps target t + allow_steps target ≤ 14 * target_nodes target
place_few source.Nothing t = omega arith
place_few (source.Variable x width) t = omega arith
place_few (source.Memory width access p i) t = omega (arith, found_few access p i t, guard_few access.through p t, check_few access.through)

-- in how many steps places and values are found
abbrev plan_steps : List (source.Target × source.Right) → ℕ
plan_steps [] = 0
plan_steps (a ∷ assigns) = 14 * (target_nodes a.0 + right_nodes a.1) + 1 + plan_steps assigns

pub bundle_few : (assigns : List (source.Target × source.Right)) → plan_steps assigns + 5 * length assigns ≤ 14 * assigns_nodes assigns
bundle_few [] = omega arith
bundle_few (a ∷ assigns) = omega (arith, bundle_few assigns)

bundle_moves : (shapes : List Shape) (s : S.State) (assigns : List (source.Target × source.Right))
    → comes_to [] (bundled shapes s assigns) ≡ and_moves (planned shapes s assigns) (λ plan. comes_to [] (all_written plan.writes plan.state))
bundle_moves shapes s assigns = by (planned shapes s assigns)
  where
    by : (r : Result Planned Halt) → comes_to [] (given r (λ plan. all_written plan.writes plan.state)) ≡ and_moves r (λ plan. comes_to [] (all_written plan.writes plan.state))
    by (Ok plan) = refl
    by (Err h) = refl

module _ (p : source.Program) (all : All (IsCompilableFunction p.functions) p.functions) (may : LongEvent → Type 0) (heap : (e : LongEvent) → IsQuiet e → may e) (work : List Work) (looped : Bool) (ds : List C.Caller) (rest : C.Rest) (code : source.Code) where
  abbrev core : List Function
  core = core_of p

  abbrev then_code : S.State → S.State
  then_code s = at_work s (Rest code ∷ work)

  -- a state with other memory
  abbrev in_memory : S.State → List Block → ℕ → S.State
  in_memory s blocks next = record s { blocks = blocks; next = next }

  abbrev IsReadyAt : S.State → World → Values → Type 0
  IsReadyAt s world l = IsReady p all may heap s work looped ds world rest l

  -- The place of a target is in the temporary t. The mark is after it.
  abbrev IsPlaced : source.Target → ℕ → Values → Place → Type 0
  IsPlaced source.Nothing t l to = to ≡ place.Nowhere
  IsPlaced (source.Variable x width) t l to = to ≡ place.Local x width
  IsPlaced (source.Memory width access i j) t l to =
      (a : ℕ) × (zero_alone : Option Pos) × (to ≡ place.Memory a width zero_alone) × IsMarked access.through access.at t l zero_alone × (l t ≡ Some a)

  placed_later : (target : source.Target) (t : ℕ) (before l : Values) (to : Place) → IsPlaced target t before to → l t ≡ before t → l (t + 1) ≡ before (t + 1) → IsPlaced target t l to
  placed_later source.Nothing t before l to is same next = is
  placed_later (source.Variable x width) t before l to is same next = is
  placed_later (source.Memory width access i j) t before l to is same next =
      (is.0, is.1, is.2, marked_later access.through access.at t before l is.1 is.3 next, same ∙ is.4)

  -- the same, if the temporaries of the target stay
  placed_below : (target : source.Target) (t : ℕ) (before l : Values) (to : Place) → IsPlaced target t before to → Below (t + target_count target) l before → IsPlaced target t l to
  placed_below source.Nothing t before l to is below = is
  placed_below (source.Variable x width) t before l to is below = is
  placed_below (source.Memory width access i j) t before l to is below =
      placed_later (source.Memory width access i j) t before l to is (below t (omega arith)) (below (t + 1) (omega arith))

  -- the value after the temporaries of a target is one that may be written there
  allowed_runs : (target : source.Target) (t value : ℕ) (to : Place) (more : Code) (world : World) (l : Values) → IsPlaced target t l to → l (t + target_count target) ≡ Some value
      → Runs core 0 (allow_steps target) (at ds world (allowed_code target t more) rest l) (allowed to value) (λ into w. (into ≡ to) × (w ≡ at ds world more rest l))
  allowed_runs source.Nothing t value to more world l is v = allows_any core ds world rest to value 0 more l (ap (λ to. allowed to value) is ∙ ap Ok (sym is))
  allowed_runs (source.Variable x width) t value to more world l is v = allows_any core ds world rest to value 0 more l (ap (λ to. allowed to value) is ∙ ap Ok (sym is))
  allowed_runs (source.Memory width access i j) t value to more world l is v =
      subst (λ to. Runs core 0 (check_steps access.through) (at ds world (guarded access.through access.at width false t (t + target_count (source.Memory width access i j)) more) rest l) (allowed to value) (λ into w. (into ≡ to) × (w ≡ at ds world more rest l))) (sym is.2)
      (guard_runs core ds world rest access.through access.at width false t (t + target_count (source.Memory width access i j)) is.0 value is.1 more l is.3 v (λ b. absurd cc))

  -- what is to be written is in temporaries from t on
  abbrev AreThere : List (source.Target × source.Right) → ℕ → Values → List Write → Type 0
  AreThere [] t l [] = Unit {0}
  AreThere [] t l (w ∷ ws) = ⊥
  AreThere (a ∷ assigns) t l [] = ⊥
  AreThere (a ∷ assigns) t l (w ∷ ws) =
      IsPlaced a.0 t l w.0 × (l (t + target_count a.0) ≡ Some w.1) × (w.1 < 2 ^ 32) × AreThere assigns (behind_planned a.0 t) l ws

  -- a target is at its place, which is in temporaries from t on
  record Placed (s : S.State) (world : World) (target : source.Target) (t : ℕ) (before : Values) (more : Code) (to : Place) (st : C.State) : Type 0 where
    pub after : Values
    pub is : st ≡ at ds world more rest after
    pub ready : IsReadyAt s world after
    pub there : IsPlaced target t after to
    pub below : Below t after before

  -- a value that is drawn is in the temporary u
  record Draws (s : S.State) (u : ℕ) (before : Values) (more : Code) (d : Drawn) (st : C.State) : Type 0 where
    pub blocks : List Block
    pub next : ℕ
    pub world : World
    pub after : Values
    pub is : st ≡ at ds world more rest after
    pub state : d.state ≡ then_code (in_memory s blocks next)
    pub ready : IsReadyAt (in_memory s blocks next) world after
    pub value : after u ≡ Some d.number
    pub small : d.number < 2 ^ 32
    pub below : Below u after before

  -- all places and values are found
  record Plans (s : S.State) (assigns : List (source.Target × source.Right)) (t : ℕ) (before : Values) (more : Code) (plan : Planned) (st : C.State) : Type 0 where
    pub blocks : List Block
    pub next : ℕ
    pub world : World
    pub after : Values
    pub is : st ≡ at ds world more rest after
    pub state : plan.state ≡ then_code (in_memory s blocks next)
    pub ready : IsReadyAt (in_memory s blocks next) world after
    pub there : AreThere assigns t after plan.writes
    pub below : Below t after before

  module _ (s : S.State) (world : World) (l : Values) (r : IsReadyAt s world l) where
    abbrev n : ℕ
    n = s.frame.function.locals

    abbrev st : Store
    st = store_of p.shapes s

    abbrev here : Code → Values → C.State
    here more after = at ds world more rest after

    sees : Sees n st world.memory
    sees = record { next = s.next; same = r.outside.memory; small = λ x h. r.small x }

    ready_at : (t : ℕ) (after : Values) → n ≤ t → Below t after l → IsReadyAt s world after
    ready_at t after le below = ready_below p all may heap s work looped ds world rest l after r (λ x less. below x (omega arith))

    -- ---- places

    fixes : (target : source.Target) (t : ℕ) (more : Code) (before after : Values) (to : Place) → n ≤ t → IsReadyAt s world after → Below t after before → IsAt core ds world target t after to
        → (count : ℕ) × (w : C.State) × (0 ≤ count) × (count ≤ fixed_steps target t) × Quiet core count (here (fixed target t more) after) w × Placed s world target t before more to w
    fixes source.Nothing t more before after to le ready below is =
        (0, here more after, omega arith, omega arith, no_quiet core (here more after), record { after = after; is = refl; ready = ready; there = is; below = below })
    fixes (source.Variable x width) t more before after to le ready below is =
        (0, here more after, omega arith, omega arith, no_quiet core (here more after), record { after = after; is = refl; ready = ready; there = is; below = below })
    fixes (source.Memory width access a i) t more before after to le ready below is =
        let d = reached_place access a i t in
        let last = with_written after t is.0 in (
          nodes d + 1,
          here more last,
          omega arith,
          omega arith,
          by_set core ds world t d more rest after is.0 (is.5 after (λ z less. refl)),
          record {
            after = last;
            is = refl;
            ready = ready_below p all may heap s work looped ds world rest after last ready (λ x less. written_below after t is.0 x (omega arith));
            there = (
              is.0,
              is.1,
              is.2,
              marked_later access.through access.at t after last is.1 is.4 (written_other after t is.0 (t + 1) (inr (omega arith))),
              written_same after t is.0,
            );
            below = λ x less. written_below after t is.0 x less ∙ below x less;
          },
        )

    places : (target : source.Target) (t : ℕ) (more : Code) → n ≤ t → IsCompilableTarget n target
        → Runs core 0 (place_steps target t) (here (aim_code target t (fixed target t more)) l) (aimed st target) (Placed s world target t l more)
    places target t more le h =
        let start = here (aim_code target t (fixed target t more)) l in
        last_runs core 0 0 (aim_steps target t) (fixed_steps target t) (place_steps target t) start (aimed st target)
        (λ to u. (after : Values) × (u ≡ here (fixed target t more) after) × Aimed core ds world target t l to after) (Placed s world target t l more) (omega arith)
        (aim_comes core ds world n st sees target t (fixed target t more) rest l le h r.agree)
        (λ to u q.
        subst (λ u. (count : ℕ) × (w : C.State) × (0 ≤ count) × (count ≤ fixed_steps target t) × Quiet core count u w × Placed s world target t l more to w) (sym q.1)
        (fixes target t more l q.0 to le (ready_at t q.0 le q.2.0) q.2.0 q.2.1))

    -- ---- values

    value_draws : (e : source.Expr) (u : ℕ) (more : Code) → n ≤ u → IsCompilableExpr n e
        → Runs core 1 (14 * expr_nodes e + 1) (here (expr_code e u more) l) (drawn p.shapes (then_code s) (source.Value e)) (Draws s u l more)
    value_draws e u more le h =
        let start = here (expr_code e u more) l in
        let Q : Value → C.State → Type 0 = λ v w. (after : Values) × (w ≡ here more after) × (X.Put core ds world u l v after × (evaluated st e ≡ Ok v)) in
        made_runs core 1 (expr_steps e) (14 * expr_nodes e + 1) start (evaluated st e) (λ v. record { number = v.number; state = then_code s }) (Draws s u l more) (omega arith)
        (last_runs core 1 0 (expr_steps e) 0 (expr_steps e) start (evaluated st e) Q
        (λ v w. Draws s u l more (record { number = v.number; state = then_code s }) w) (omega arith)
        (known core ds world n st sees 1 (expr_steps e) start (evaluated st e) more rest (X.Put core ds world u l) (expr_comes core ds world n st sees e u more rest l le h r.agree))
        (λ v w q. (
          0,
          w,
          omega arith,
          omega arith,
          no_quiet core w,
          record {
            blocks = s.blocks;
            next = s.next;
            world = world;
            after = q.0;
            is = q.1;
            state = refl;
            ready = ready_at u q.0 le q.2.0.0;
            value = q.2.0.1;
            small = subst GivesWord q.2.1 (word_seen n st world.memory sees e h);
            below = q.2.0.0;
          },
        )))

    alloc_goes : (u n size next : ℕ) (e : Expr) (more : Code) (l : Values) → value_of l world.memory e ≡ Some n → value_at Word world.memory data_start ≡ Some next
        → core_step core (here (Alloc u e size more) l) ≡ goes_by (here (Alloc u e size more) l) more (allocates_at world u n size next)
    unfolding core_step
    alloc_goes u n size next e more l h k =
        ap (λ o. goes_by (here (Alloc u e size more) l) more (with_value o (λ n. allocates world u n size))) h
        ∙ ap (λ o. goes_by (here (Alloc u e size more) l) more (with_value o (allocates_at world u n size))) k

    -- a block is taken in both, or there is no room in both
    alloc_draws : (u number : ℕ) (pointee : Pointee) (e : Expr) (more : Code) (before after : Values) → n ≤ u → IsReadyAt s world after → Below u after before → value_of after world.memory e ≡ Some number
        → (count : ℕ) × (w : C.State) × (1 ≤ count) × (count ≤ nodes e + 1) × Quiet core count (here (Alloc u e pointee.size more) after) w
        × Draws s u before more (allocated (then_code s) pointee number) w
    alloc_draws u number pointee e more before after le ready below value = by (heap_has_room s.next number pointee.size) refl
      where
        by : (room : Bool) → heap_has_room s.next number pointee.size ≡ room
            → (count : ℕ) × (w : C.State) × (1 ≤ count) × (count ≤ nodes e + 1) × Quiet core count (here (Alloc u e pointee.size more) after) w
            × Draws s u before more (if room then record { number = s.next; state = record (then_code s) { blocks = s.blocks ++ fresh pointee s.next number ∷ []; next = next_place s.next number pointee.size } }
            else record { number = 0; state = then_code s }) w
        by true room =
            let now = here (Alloc u e pointee.size more) after in
            let later = next_place s.next number pointee.size in
            let world2 : World = record world { memory = with_bytes world.memory 4 data_start later } in
            let last = with_written after u s.next in
            let goes = alloc_goes u number pointee.size s.next e more after value ready.outside.memory.word in (
              nodes e + 1,
              at ds world2 more rest last,
              omega arith,
              omega arith,
              path_by core IsQuiet (Stored data_start Word later ∷ []) now (at ds world2 more rest last)
                  (goes ∙ ap (λ b. goes_by now more (if b then allocates_in world u s.next later (memory_with Word world.memory data_start later) else Gives [] u 0 world)) room)
                  (All-cons IsQuiet (Stored data_start Word later) [] (refl, refl) (All-nil IsQuiet)) refl,
              record {
                blocks = s.blocks ++ fresh pointee s.next number ∷ [];
                next = later;
                world = world2;
                after = last;
                is = refl;
                state = refl;
                ready = record {
                  behind = ready.behind;
                  callers = ready.callers;
                  outside = record { memory = allocated_same pointee number s.next s.blocks world.memory ready.outside.memory room; input = ready.outside.input; bytes = ready.outside.bytes };
                  count = ready.count;
                  agree = λ x less. written_below after u s.next x (omega arith) ∙ ready.agree x less;
                  small = ready.small;
                };
                value = written_same after u s.next;
                small = omega (arith, ready.outside.memory.low);
                below = λ x less. written_below after u s.next x less ∙ below x less;
              },
            )
        by false room =
            let now = here (Alloc u e pointee.size more) after in
            let later = next_place s.next number pointee.size in
            let last = with_written after u 0 in
            let goes = alloc_goes u number pointee.size s.next e more after value ready.outside.memory.word in (
              nodes e + 1,
              here more last,
              omega arith,
              omega arith,
              quiet_by core now (here more last)
                  (goes ∙ ap (λ b. goes_by now more (if b then allocates_in world u s.next later (memory_with Word world.memory data_start later) else Gives [] u 0 world)) room) refl,
              record {
                blocks = s.blocks;
                next = s.next;
                world = world;
                after = last;
                is = refl;
                state = refl;
                ready = ready_below p all may heap s work looped ds world rest after last ready (λ x less. written_below after u 0 x (omega arith));
                value = written_same after u 0;
                small = omega arith;
                below = λ x less. written_below after u 0 x less ∙ below x less;
              },
            )

    fresh_draws : (pointee : Pointee) (e : source.Expr) (u : ℕ) (more : Code) → n ≤ u → IsCompilableExpr n e
        → Runs core 1 (14 * expr_nodes e + 1) (here (taken e pointee.size u more) l) (drawn p.shapes (then_code s) (source.Fresh pointee e)) (Draws s u l more)
    fresh_draws pointee e u more le h =
        let q = operand e u in
        let last = Alloc u q pointee.size more in
        let start = here (taken e pointee.size u more) l in
        made_runs core 1 (14 * expr_nodes e + 1) (14 * expr_nodes e + 1) start (evaluated st e) (λ v. allocated (then_code s) pointee v.number) (Draws s u l more) (omega arith)
        (last_runs core 0 1 (operand_steps e u) (nodes q + 1) (14 * expr_nodes e + 1) start (evaluated st e)
        (λ v w. (after : Values) × (w ≡ here last after) × Held core ds world q u l v after)
        (λ v w. Draws s u l more (allocated (then_code s) pointee v.number) w) (omega (arith, operand_nodes e u))
        (operand_comes core ds world n st sees e u last rest l le h r.agree)
        (λ v w got.
        subst (λ w. (count : ℕ) × (x : C.State) × (1 ≤ count) × (count ≤ nodes q + 1) × Quiet core count w x × Draws s u l more (allocated (then_code s) pointee v.number) x) (sym got.1)
        (alloc_draws u v.number pointee q more l got.0 le (ready_at u got.0 le got.2.0) got.2.0 (got.2.1 got.0 (λ x less. refl)))))

    draws : (right : source.Right) (u : ℕ) (more : Code) → n ≤ u → IsCompilableRight n right
        → Runs core 1 (14 * right_nodes right + 1) (here (valued right u more) l) (drawn p.shapes (then_code s) right) (Draws s u l more)
    draws (source.Value e) u more le h = value_draws e u more le h.0
    draws (source.Fresh pointee e) u more le h = let part = h.0 in fresh_draws pointee e u more le part.0

  -- ---- places and values

  are_later : (assigns : List (source.Target × source.Right)) (t : ℕ) (before l : Values) (ws : List Write) → AreThere assigns t before ws → ((x : ℕ) → t ≤ x → l x ≡ before x) → AreThere assigns t l ws
  are_later [] t before l [] h same = tt
  are_later [] t before l (w ∷ ws) h same = h
  are_later (a ∷ assigns) t before l [] h same = h
  are_later (a ∷ assigns) t before l (w ∷ ws) h same = (
    placed_later a.0 t before l w.0 h.0 (same t (omega arith)) (same (t + 1) (omega arith)),
    same (t + target_count a.0) (omega arith) ∙ h.1,
    h.2,
    are_later assigns (behind_planned a.0 t) before l ws h.3 (λ x more. same x (omega arith)),
  )

  -- an assignment, if those after it are known to be found
  plan_runs : (a : source.Target × source.Right) (assigns : List (source.Target × source.Right)) (t m k : ℕ) (inner more : Code) (s : S.State) (world : World) (l : Values) → IsReadyAt s world l
      → s.frame.function.locals ≤ t → IsCompilableAssign s.frame.function.locals a → 14 * (target_nodes a.0 + right_nodes a.1) + 1 + m ≤ k
      → ((blocks : List Block) (next : ℕ) (world2 : World) (l2 : Values) → IsReadyAt (in_memory s blocks next) world2 l2
      → Runs core 0 m (at ds world2 inner rest l2) (planned p.shapes (then_code (in_memory s blocks next)) assigns) (Plans (in_memory s blocks next) assigns (behind_planned a.0 t) l2 more))
      → Runs core 1 k (at ds world (planned_code a.0 a.1 t inner) rest l) (planned p.shapes (then_code s) (a ∷ assigns)) (Plans s (a ∷ assigns) t l more)
  plan_runs a assigns t m k inner more s world l r le h few tail =
      let u = t + target_count a.0 in
      let last = allowed_code a.0 t inner in
      let find = valued a.1 u last in
      let n = 14 * right_nodes a.1 + 1 in
      let g = allow_steps a.0 in
      let goal = Plans s (a ∷ assigns) t l more in
      let then_plans : Drawn → Place → Result Planned Halt = λ d to. given (planned p.shapes d.state assigns) (λ plan. Ok (and_then_written to d.number plan)) in
      let behind : Place → Drawn → Result Planned Halt = λ to d. given (allowed to d.number) (then_plans d) in
      then_runs core 1 (place_steps a.0 t) (n + (g + m)) k (at ds world (planned_code a.0 a.1 t inner) rest l) (aimed (store_of p.shapes s) a.0)
      (λ to. given (drawn p.shapes (then_code s) a.1) (behind to)) (Placed s world a.0 t l find) goal (omega (arith, place_few a.0 t))
      (places s world l r a.0 t find le h.0)
      (λ to u1 q.
      subst (λ u1. Runs core 1 (n + (g + m)) u1 (given (drawn p.shapes (then_code s) a.1) (behind to)) goal) (sym q.is)
      (first_then core 1 n (g + m) (n + (g + m)) (at ds world find rest q.after) (drawn p.shapes (then_code s) a.1) (behind to) (Draws s u q.after last) goal (omega arith)
      (draws s world q.after q.ready a.1 u last (omega arith) h.1)
      (λ d u2 drew.
      let there = placed_below a.0 t q.after drew.after to q.there drew.below in
      let s2 = in_memory s drew.blocks drew.next in
      let now = at ds drew.world inner rest drew.after in
      subst (λ u2. Runs core 0 (g + m) u2 (behind to d) goal) (sym drew.is)
      (then_runs core 0 g m (g + m) (at ds drew.world last rest drew.after) (allowed to d.number) (then_plans d) (λ into w. (into ≡ to) × (w ≡ now)) goal (omega arith)
      (allowed_runs a.0 t d.number to inner drew.world drew.after there drew.value)
      (λ into u3 same.
      subst (λ u3. Runs core 0 m u3 (then_plans d into) goal) (sym same.1)
      (subst (λ into. Runs core 0 m now (then_plans d into) goal) (sym same.0)
      (subst (λ (x : S.State). Runs core 0 m now (given (planned p.shapes x assigns) (λ plan. Ok (and_then_written to d.number plan))) goal) (sym drew.state)
      (made_runs core 0 m m now (planned p.shapes (then_code s2) assigns) (and_then_written to d.number) goal (omega arith)
      (last_runs core 0 0 m 0 m now (planned p.shapes (then_code s2) assigns) (Plans s2 assigns (behind_planned a.0 t) drew.after more)
      (λ plan. goal (and_then_written to d.number plan)) (omega arith) (tail drew.blocks drew.next drew.world drew.after drew.ready)
      (λ plan w got. (
        0,
        w,
        omega arith,
        omega arith,
        no_quiet core w,
        record {
          blocks = got.blocks;
          next = got.next;
          world = got.world;
          after = got.after;
          is = got.is;
          state = got.state;
          ready = got.ready;
          there = (
            placed_below a.0 t drew.after got.after to there (λ x less. got.below x (omega arith)),
            got.below u (omega arith) ∙ drew.value,
            drew.small,
            got.there,
          );
          below = λ x less. got.below x (omega arith) ∙ drew.below x (omega arith) ∙ q.below x less;
        },
      )))))))))))

  plans_runs : (assigns : List (source.Target × source.Right)) (t : ℕ) (more : Code) (s : S.State) (world : World) (l : Values) → IsReadyAt s world l → s.frame.function.locals ≤ t
      → All (IsCompilableAssign s.frame.function.locals) assigns
      → Runs core 0 (plan_steps assigns) (at ds world (plans_code assigns t more) rest l) (planned p.shapes (then_code s) assigns) (Plans s assigns t l more)
  plans_runs [] t more s world l r le h = (
    0,
    at ds world more rest l,
    omega arith,
    omega arith,
    no_quiet core (at ds world more rest l),
    record { blocks = s.blocks; next = s.next; world = world; after = l; is = refl; state = refl; ready = ready_below p all may heap s work looped ds world rest l l r (λ x less. refl); there = tt; below = λ x less. refl },
  )
  plans_runs (a ∷ assigns) t more s world l r le h =
      let fit = IsCompilableAssign s.frame.function.locals in
      let next_place = behind_planned a.0 t in
      any_runs core 1 (plan_steps (a ∷ assigns)) (at ds world (plans_code (a ∷ assigns) t more) rest l) (planned p.shapes (then_code s) (a ∷ assigns)) (Plans s (a ∷ assigns) t l more)
      (plan_runs a assigns t (plan_steps assigns) (plan_steps (a ∷ assigns)) (plans_code assigns next_place more) more s world l r le (All-head fit a assigns h) (omega arith)
      (λ blocks next world2 l2 r2. plans_runs assigns next_place more (in_memory s blocks next) world2 l2 r2 (omega arith) (All-tail fit a assigns h)))

  -- ---- writes

  first_written : (c m k : ℕ) (u w : C.State) (x : Result S.State Halt) → c + m ≤ k → Path core may c [] u w → Written p.functions core may heap 0 m w x → Written p.functions core may heap 0 k u x
  first_written c m k u w x few path h = longer_written p.functions core may heap c 0 m k u w x few (omega arith) path h

  -- a state with other locals and other blocks
  abbrev wrote : S.State → List ℕ → List Block → S.State
  wrote s locals blocks = record s { blocks = blocks; frame = record s.frame { locals = locals } }

  -- a value is written to its place in both, and then comes the rest
  written_then : (s : S.State) (world : World) (l : Values) (target : source.Target) (t : ℕ) (to : Place) (value m : ℕ) (more : Code) (f : S.State → Result S.State Halt) → IsReadyAt s world l
      → s.frame.function.locals ≤ t → IsCompilableTarget s.frame.function.locals target → IsPlaced target t l to → l (t + target_count target) ≡ Some value → value < 2 ^ 32 → Permits may to value
      → ((locals : List ℕ) (blocks : List Block) (world2 : World) (l2 : Values) → IsReadyAt (wrote s locals blocks) world2 l2 → ((x : ℕ) → s.frame.function.locals ≤ x → l2 x ≡ l x)
      → Written p.functions core may heap 0 m (at ds world2 more rest l2) (f (then_code (wrote s locals blocks))))
      → Written p.functions core may heap 0 (5 + m) (at ds world (written_there target t (Local (t + target_count target)) more) rest l) (given (writes to value (then_code s)) f)
  written_then s world l source.Nothing t to value m more f r le h is v small permit next =
      let u = at ds world more rest l in
      subst (λ to. Written p.functions core may heap 0 (5 + m) u (given (writes to value (then_code s)) f)) (sym is)
      (first_written 0 m (5 + m) u u (f (then_code s)) (omega arith) (no_path core may u)
      (next s.frame.locals s.blocks world l (record { behind = r.behind; callers = r.callers; outside = record { memory = r.outside.memory; input = r.outside.input; bytes = r.outside.bytes }; count = r.count; agree = r.agree; small = r.small }) (λ x less. refl)))
  written_then s world l (source.Variable x width) t to value m more f r le h is v small permit next =
      let q = Local (t + 0) in
      let k = kept_in width false q in
      let after = with_written l x (kept_part width value) in
      let now = at ds world (Set x k more) rest l in
      let ready = set_local p.functions core s work looped ds world rest l after x (kept_part width value) r h (kept_small width value small) (written_same l x (kept_part width value))
      (λ y other less. written_other l x (kept_part width value) y other) in
      subst (λ to. Written p.functions core may heap 0 (5 + m) now (given (writes to value (then_code s)) f)) (sym is)
      (first_written (nodes k + 1) m (5 + m) now (at ds world more rest after) (f (then_code (wrote s (slice_set s.frame.locals x (kept_part width value)) s.blocks))) (omega (arith, kept_nodes width false q))
      (quiet p.functions core may heap (nodes k + 1) now (at ds world more rest after) (by_set core ds world x k more rest l (kept_part width value) (kept_value l world.memory width false q value v (λ b. absurd cc))))
      (next (slice_set s.frame.locals x (kept_part width value)) s.blocks world after
      (record { behind = ready.behind; callers = ready.callers; outside = record { memory = ready.outside.memory; input = ready.outside.input; bytes = ready.outside.bytes }; count = ready.count; agree = ready.agree; small = ready.small })
      (λ y more. written_other l x (kept_part width value) y (inr (omega (arith, h))))))
  written_then s world l (source.Memory width access i j) t to value m more f r le h is v small permit next =
      let now = at ds world (StoreTo width (Local t) (Local (t + target_count (source.Memory width access i j))) more) rest l in
      subst (λ to. Written p.functions core may heap 0 (5 + m) now (given (writes to value (then_code s)) f)) (sym is.2)
      (by (stored width is.0 value s.blocks) refl)
    where
      by : (o : Option (List Block)) → stored width is.0 value s.blocks ≡ o
          → Written p.functions core may heap 0 (5 + m) (at ds world (StoreTo width (Local t) (Local (t + target_count (source.Memory width access i j))) more) rest l) (given (with_blocks (then_code s) o) f)
      by None found = tt
      by (Some bs) found =
          let q = Local (t + target_count (source.Memory width access i j)) in
          let now = at ds world (StoreTo width (Local t) q more) rest l in
          let memory = with_bytes world.memory (width_bytes width) is.0 value in
          let world2 : World = record world { memory = memory } in
          let same = stored_same width is.0 value s.next s.blocks bs world.memory r.outside.memory found in
          first_written 3 m (5 + m) now (at ds world2 more rest l) (f (then_code (wrote s s.frame.locals bs))) (omega arith)
          (store_step p.functions core may heap ds world width is.0 value (Local t) q more rest l memory (subst (λ to. Permits may to value) is.2 permit) is.4 v same.0)
          (next s.frame.locals bs world2 l
          (record { behind = r.behind; callers = r.callers; outside = record { memory = same.1; input = r.outside.input; bytes = r.outside.bytes }; count = r.count; agree = r.agree; small = r.small })
          (λ x less. refl))

  writes_runs : (assigns : List (source.Target × source.Right)) (t : ℕ) (ws : List Write) (s : S.State) (world : World) (l : Values) → IsReadyAt s world l → s.frame.function.locals ≤ t
      → Stands p.functions s.frame.function.locals looped (length work) code → All (IsCompilableAssign s.frame.function.locals) assigns → AreThere assigns t l ws → PermitsAll may ws
      → Written p.functions core may heap 0 (5 * length assigns) (at ds world (writes_code assigns t (statements s.frame.function.locals code)) rest l) (all_written ws (then_code s))
  writes_runs [] t [] s world l r le good h there permits =
      let u = at ds world (statements s.frame.function.locals code) rest l in
      (0, u, omega arith, omega arith, no_path core may u, same_state p.functions core s work looped ds world rest l code r good)
  writes_runs [] t (w ∷ ws) s world l r le good h there permits = absurd there
  writes_runs (a ∷ assigns) t [] s world l r le good h there permits = absurd there
  writes_runs (a ∷ assigns) t (w ∷ ws) s world l r le good h there permits =
      let fit = IsCompilableAssign s.frame.function.locals in
      let one = All-head fit a assigns h in
      let next_place = behind_planned a.0 t in
      let more = writes_code assigns next_place (statements s.frame.function.locals code) in
      subst (λ (k : ℕ). Written p.functions core may heap 0 k (at ds world (written_there a.0 t (Local (t + target_count a.0)) more) rest l) (all_written (w ∷ ws) (then_code s)))
      (omega arith)
      (written_then s world l a.0 t w.0 w.1 (5 * length assigns) more (all_written ws) r le one.0 there.0 there.1 there.2 permits.0
      (λ locals blocks world2 l2 r2 same. writes_runs assigns next_place ws (wrote s locals blocks) world2 l2 r2 (omega arith) good (All-tail fit a assigns h)
      (are_later assigns next_place l l2 ws there.3 (λ x more. same x (omega arith))) permits.1))

  -- ---- bundles

  pub bundle_meets : (assigns : List (source.Target × source.Right)) (k : ℕ) (s : S.State) (world : World) (l : Values) → IsReadyAt s world l → 1 ≤ length assigns
      → All (IsCompilableAssign s.frame.function.locals) assigns → Stands p.functions s.frame.function.locals looped (length work) code → 14 * assigns_nodes assigns ≤ k
      → ((plan : Planned) → planned p.shapes (then_code s) assigns ≡ Ok plan → PermitsAll may plan.writes)
      → Meets p all may heap (at ds world (bundle_code assigns s.frame.function.locals (statements s.frame.function.locals code)) rest l) k (comes_to [] (bundled p.shapes (then_code s) assigns))
  bundle_meets [] k s world l r some h good few permits = absurd (omega arith)
  bundle_meets (a ∷ assigns) k s world l r some h good few permits =
      let fit = IsCompilableAssign s.frame.function.locals in
      let t = s.frame.function.locals in
      let next_place = behind_planned a.0 t in
      let more = writes_code (a ∷ assigns) t (statements t code) in
      let now = at ds world (plans_code (a ∷ assigns) t more) rest l in
      let writing = 5 * length (a ∷ assigns) in
      subst (Meets p all may heap now k) (sym (bundle_moves p.shapes (then_code s) (a ∷ assigns)))
      (then_comes_to p.functions core may heap 1 0 (plan_steps (a ∷ assigns)) writing k now (planned p.shapes (then_code s) (a ∷ assigns)) (λ plan. all_written plan.writes plan.state) (Plans s (a ∷ assigns) t l more)
      (omega (arith, bundle_few (a ∷ assigns))) (omega arith)
      (plan_runs a assigns t (plan_steps assigns) (plan_steps (a ∷ assigns)) (plans_code assigns next_place more) more s world l r (omega arith) (All-head fit a assigns h) (omega arith)
      (λ blocks next world2 l2 r2. plans_runs assigns next_place more (in_memory s blocks next) world2 l2 r2 (omega arith) (All-tail fit a assigns h)))
      (λ plan w is got.
      subst (λ w. Written p.functions core may heap 0 writing w (all_written plan.writes plan.state)) (sym got.is)
      (subst (λ (x : S.State). Written p.functions core may heap 0 writing (at ds got.world more rest got.after) (all_written plan.writes x)) (sym got.state)
      (writes_runs (a ∷ assigns) t plan.writes (in_memory s got.blocks got.next) got.world got.after got.ready (omega arith) good h got.there (permits plan is)))))
