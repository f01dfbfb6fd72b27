-- What a statement of the source writes, its core code writes.
use Rattle.std.proofs.Common.{◌≡◌, ◌⊎◌, inl, inr, ℕ, zero, suc, ◌^◌, ◌+◌, ◌≤◌, ◌<◌, ◌==◌, List, [], ◌∷◌, ◌++◌, append-nil, length, length-set, refl, sym, ◌∙◌, ap, subst, arith}
use Rattle.std.specs.Prelude.{Bool, true, false, if◌then◌else◌, slice_index, slice_set, Option, Some, None, Result, Ok, Err, flat_map}
use Rattle.std.proofs.lemmas.List.{get_or-set_same, get_or-set_other}
use Rattle.std.proofs.lemmas.List.Elements.{All-nil, All-cons}
use Rattle.std.proofs.lemmas.Grind.{flat_map-append}
use Rattle.ckc_base.specs.declared.arithmetic.Width.{Width}
use Rattle.ckc_base.specs.declared.arithmetic.Width.TheVariants.{Byte, Word}
use Rattle.ckc_base.specs.declared.places.Pos.{Pos}
use Rattle.ckc_base.specs.Traces.{Event, Standing}
use Rattle.ckc_base.specs.Traces as standing
use Rattle.ckc_base.specs.LongEvents.{LongEvent, Stored, plain_events}
use Rattle.ckc_base.specs.Follows.{IsOver}
use Rattle.ckc_base.specs.States.{Travels}
use Rattle.ckc_base.specs.Simulation.{Keeps}
use Rattle.ckc_base.specs.Steps.{Move, Goes, Halts}
use Rattle.ckc_base.specs.Memory.{Memory, kept_part, memory_with, with_bytes, width_bytes}
use Rattle.ckc_base.specs.Actions.{World, with_value, stores, stores_in}
use Rattle.ckc_base.specs.Activations.{Values, with_written}
use Rattle.ckc_base.proofs.Travelling.{below_or_from, then_travels}
use Rattle.ckc_source.specs.declared.expr.Through.{Through}
use Rattle.ckc_source.specs.declared.expr.Through.TheVariants.{Named, Raw, One, Array, Terminated}
use Rattle.ckc_source.specs.declared.outcome.Halt.{Halt}
use Rattle.ckc_source.specs.declared.outcome.Halt.TheVariants.{Stopped, Stuck}
use Rattle.ckc_source.specs.declared.outcome.Place.{Place}
use Rattle.ckc_source.specs.declared.outcome.Place.TheVariants as place
use Rattle.ckc_source.specs.Code as source
use Rattle.ckc_source.specs.Blocks.{Block, stored}
use Rattle.ckc_source.specs.States.{Work, Rest}
use Rattle.ckc_source.specs.States as S
use Rattle.ckc_source.specs.Eval.{given}
use Rattle.ckc_source.specs.Steps.{at_work, allowed, refuses, writes, writes_allowed, with_blocks, Write, and_moves, comes_to}
use Rattle.ckc_core.specs.Code.{Expr, Local, Code, Set, Store, Function}
use Rattle.ckc_core.specs.Meaning.{value_of, nodes, core_step, core_system, goes_by}
use Rattle.ckc_core.specs.Meaning as C
use Rattle.ckc_checks_operands.specs.Compilable.{IsCompilableTarget}
use Rattle.ckc_checks_operands.specs.code.Operands.{kept_in}
use Rattle.ckc_checks_follow.specs.code.Inserted.{reached_place, target_count, guarded, stored_code, written, statements}
use Rattle.ckc_checks_follow.proofs.Paths.{Quiet, QuietEnds, Path, PathEnds, then_path, then_ends, path_by, looser, looser_ends, IsQuiet, no_path, IsLevel, keeps_behind}
use Rattle.ckc_checks_follow.proofs.Running.{Runs, at, by_set}
use Rattle.ckc_checks_follow.proofs.Flat.{stored_same}
use Rattle.ckc_checks_follow.proofs.Values.{Agree}
use Rattle.ckc_checks_follow.proofs.Bounded.{AreSmall}
use Rattle.ckc_checks_follow.proofs.Counts.{written_same, written_below}
use Rattle.ckc_checks_follow.proofs.Coming.{Below}
use Rattle.ckc_checks_follow.proofs.Guarding.{guard_steps, IsMarked, marked_later, kept_value, kept_nodes, guard_runs}
use Rattle.ckc_checks_follow.proofs.Aiming.{IsAt}
use Rattle.ckc_checks_follow.proofs.Relation.{MayLie, Stands, Behind, SameCallers, SameWorld, SameState, Related, same_level}

-- ---- locals

pub written_other : (values : Values) (r v q : ℕ) → (q < r) ⊎ (r < q) → with_written values r v q ≡ values q
unfolding with_written
written_other values r v q (inl h) =
    let t : (q == r) ≡ false = grind arith in
    ap (λ b. if b then Some v else values q) t
written_other values r v q (inr h) =
    let t : (q == r) ≡ false = grind arith in
    ap (λ b. if b then Some v else values q) t

-- a local that is written in both
pub agree_set : (n : ℕ) (locals : List ℕ) (l after : Values) (x v : ℕ) → length locals ≡ n → x < n → Agree n locals l → after x ≡ Some v
    → ((y : ℕ) → (y < x) ⊎ (x < y) → y < n → after y ≡ l y) → Agree n (slice_set locals x v) after
agree_set n locals l after x v count less agree there other y h =
    elim (below_or_from y x) [
      | inl below ↦
          other y (inl below) h ∙ agree y h ∙ ap Some (sym (get_or-set_other locals x y v 0 (λ e. omega arith)))
      | inr p ↦ same p.0 p.1
    ]
  where
    same : (k : ℕ) → y ≡ x + k → after y ≡ Some (slice_index (slice_set locals x v) y)
    same zero e =
        let e' : y ≡ x = omega arith in
        ap after e' ∙ there ∙ ap Some (sym (ap (slice_index (slice_set locals x v)) e' ∙ get_or-set_same locals x v 0 (omega arith)))
    same (suc k) e =
        other y (inr (omega arith)) h ∙ agree y h ∙ ap Some (sym (get_or-set_other locals x y v 0 (λ q. omega arith)))

small_set : (xs : List ℕ) (i v : ℕ) → i < length xs → AreSmall xs → v < 2 ^ 32 → AreSmall (slice_set xs i v)
small_set xs i v less h small y =
    elim (below_or_from y i) [
      | inl below ↦ subst (λ (k : ℕ). k < 2 ^ 32) (sym (get_or-set_other xs i y v 0 (λ e. omega arith))) (h y)
      | inr p ↦ from p.0 p.1
    ]
  where
    from : (k : ℕ) → y ≡ i + k → slice_index (slice_set xs i v) y < 2 ^ 32
    from zero e =
        let e' : y ≡ i = omega arith in
        subst (λ (k : ℕ). k < 2 ^ 32) (sym (ap (slice_index (slice_set xs i v)) e' ∙ get_or-set_same xs i v 0 less)) small
    from (suc k) e = subst (λ (k : ℕ). k < 2 ^ 32) (sym (get_or-set_other xs i y v 0 (λ q. omega arith))) (h y)

pub kept_small : (width : Width) (n : ℕ) → n < 2 ^ 32 → kept_part width n < 2 ^ 32
kept_small Byte n h = omega arith
kept_small Word n h = h

-- the store of a write may be made
abbrev pub Permits : (LongEvent → Type 0) → Place → ℕ → Type 0
Permits may (place.Memory a width zero_alone) n = may (Stored a width (kept_part width n))
Permits may to n = Unit {0}

abbrev pub PermitsAll : (LongEvent → Type 0) → List Write → Type 0
PermitsAll may [] = Unit {0}
PermitsAll may (w ∷ ws) = Permits may w.0 w.1 × PermitsAll may ws

abbrev pub PermitsPlan : (LongEvent → Type 0) → Result (List Write) Halt → Type 0
PermitsPlan may (Ok ws) = PermitsAll may ws
PermitsPlan may (Err h) = Unit {0}

-- in how many steps a value is written
abbrev pub write_steps : source.Target → ℕ → ℕ
write_steps (source.Memory width access p i) t = guard_steps access.through + 1 + nodes (reached_place access p i t)
write_steps target t = 4

-- only a target writes
abbrev pub least_of : source.Target → ℕ
least_of source.Nothing = 0
least_of target = 1

module _ (functions : List source.Function) (core : List Function) where
  -- The parts of a state, with this work after the statements in front, and of the core state that is the same.
  pub record Ready (s : S.State) (work : List Work) (looped : Bool) (ds : List C.Caller) (world : World) (rest : C.Rest) (l : Values) : Type 0 where
    pub behind : Behind functions s.frame.function.locals looped work rest
    pub callers : SameCallers functions s.callers ds
    pub outside : SameWorld functions s world
    pub count : length s.frame.locals ≡ s.frame.function.locals
    pub agree : Agree s.frame.function.locals s.frame.locals l
    pub small : AreSmall s.frame.locals

  abbrev pub Same : S.State → C.State → Type 0
  Same s u = SameState functions s u

  pub same_state : (s : S.State) (work : List Work) (looped : Bool) (ds : List C.Caller) (world : World) (rest : C.Rest) (l : Values) (code : source.Code)
      → Ready s work looped ds world rest l → Stands functions s.frame.function.locals looped (length work) code
      → Same (at_work s (Rest code ∷ work)) (at ds world (statements s.frame.function.locals code) rest l)
  same_state s work looped ds world rest l code r st = record {
    frame = record {
      code = code;
      work = work;
      looped = looped;
      next = refl;
      stands = st;
      begins = refl;
      behind = r.behind;
      count = r.count;
      agree = r.agree;
      small = r.small;
    };
    callers = r.callers;
    world = record { memory = r.outside.memory; input = r.outside.input; bytes = r.outside.bytes };
  }

  pub set_local : (s : S.State) (work : List Work) (looped : Bool) (ds : List C.Caller) (world : World) (rest : C.Rest) (l after : Values) (x v : ℕ)
      → Ready s work looped ds world rest l → x < s.frame.function.locals → v < 2 ^ 32 → after x ≡ Some v
      → ((y : ℕ) → (y < x) ⊎ (x < y) → y < s.frame.function.locals → after y ≡ l y)
      → Ready (record s { frame = record s.frame { locals = slice_set s.frame.locals x v } }) work looped ds world rest after
  set_local s work looped ds world rest l after x v r less small there other = record {
    behind = r.behind;
    callers = r.callers;
    outside = record { memory = r.outside.memory; input = r.outside.input; bytes = r.outside.bytes };
    count = length-set s.frame.locals x v ∙ r.count;
    agree = agree_set s.frame.function.locals s.frame.locals l after x v r.count less r.agree there other;
    small = small_set s.frame.locals x v (omega (arith, r.count)) r.small small;
  }

  -- a state that is the same a few steps later is near
  pub near_by : (s : S.State) (u w : C.State) (c : ℕ) → c ≤ 512 → Path core (MayLie s) c [] u w → Same s w → Related functions core s u
  near_by s u w c few p h = record {
    to = w;
    nears = record {
      count = c;
      events = p.events;
      few = few;
      travels = p.travels;
      unseen = p.shows;
      keeps = record {
        allowed = p.keeps.allowed;
        beside = λ j less. same_level functions s w h.callers ∙ p.level ∙ sym (p.keeps.beside j less);
      };
    };
    related = h;
  }

  pub related : (s : S.State) (u : C.State) → Same s u → Related functions core s u
  related s u h = near_by s u u 0 (omega arith) (no_path core (MayLie s) u) h

  module _ (may : LongEvent → Type 0) (heap : (e : LongEvent) → IsQuiet e → may e) where
    pub quiet : (c : ℕ) (u w : C.State) → Quiet core c u w → Path core may c [] u w
    quiet c u w p = looser core IsQuiet may heap c [] u w p

    quiet_ends : (c : ℕ) (u : C.State) (how : Standing) → QuietEnds core c u how → PathEnds core may c [] u how
    quiet_ends c u how p = looser_ends core IsQuiet may heap c [] u how p

    -- Core code goes, with this to be seen, to where the source goes on in the next state.
    pub record Lands (u : C.State) (most : ℕ) (seen : List Event) (next : S.State) : Type 0 where
      pub count : ℕ
      pub events : List LongEvent
      pub via : C.State
      pub some : 1 ≤ count
      pub few : count ≤ most
      pub travels : Travels (core_system core) count events u via
      pub shows : flat_map plain_events events ≡ seen
      pub keeps : Keeps (core_system core) may (IsLevel u) count events u
      pub near : Related functions core next via

    -- a move of the source is matched from the core state u, unless it is stuck
    abbrev pub Matches : C.State → ℕ → Move Event S.State → Type 0
    Matches u most (Goes events next) = Lands u most events next
    Matches u most (Halts events how) =
        (how ≡ standing.Stuck) ⊎ ((count : ℕ) × (count ≤ most) × IsOver how × PathEnds core may count events u how)

    -- Core code comes, in so many steps and with nothing seen, to what the source has written.
    abbrev pub Written : (least most : ℕ) → C.State → Result S.State Halt → Type 0
    Written least most u (Ok s) =
        (count : ℕ) × (w : C.State) × (least ≤ count) × (count ≤ most) × Path core may count [] u w × Same s w
    Written least most u (Err Stuck) = Unit {0}
    Written least most u (Err (Stopped why at)) = (count : ℕ) × (count ≤ most) × PathEnds core may count [] u (standing.Stopped why at)

    -- ---- composition

    pub lands : (c most : ℕ) (seen : List Event) (u w : C.State) (next : S.State) → 1 ≤ c → c ≤ most → Path core may c seen u w → Same next w
        → Lands u most seen next
    lands c most seen u w next some few p same = record {
      count = c;
      events = p.events;
      via = w;
      some = some;
      few = few;
      travels = p.travels;
      shows = p.shows;
      keeps = p.keeps;
      near = related next w same;
    }

    pub first_matched : (c n k : ℕ) (u w : C.State) (move : Move Event S.State) → c + n ≤ k → Quiet core c u w → Matches w n move → Matches u k move
    first_matched c n k u w (Goes events next) few path m =
        let p = quiet c u w path in
        record {
          count = c + m.count;
          events = p.events ++ m.events;
          via = m.via;
          some = omega (arith, m.some);
          few = omega (arith, m.few);
          travels = then_travels (core_system core) c m.count p.events m.events u w m.via p.travels m.travels;
          shows = flat_map-append plain_events p.events m.events ∙ ap (λ l. l ++ flat_map plain_events m.events) p.shows ∙ m.shows;
          keeps = keeps_behind core may c m.count [] m.events u w p m.keeps;
          near = m.near;
        }
    first_matched c n k u w (Halts events how) few path (inl stuck) = inl stuck
    first_matched c n k u w (Halts events how) few path (inr m) =
        inr (c + m.0, omega (arith, m.1), m.2, then_ends core may c m.0 [] events u w how (quiet c u w path) m.3)

    pub then_matched : {A : Type 0} (m n k : ℕ) (u : C.State) (x : Result A Halt) (f : A → Move Event S.State) (Q : A → C.State → Type 0)
        → m + n ≤ k → Runs core 0 m u x Q → ((v : A) (w : C.State) → x ≡ Ok v → Q v w → Matches w n (f v)) → Matches u k (and_moves x f)
    then_matched m n k u (Ok v) f Q few r next =
        first_matched r.0 n k u r.1 (f v) (omega (arith, r.3)) r.4 (next v r.1 refl r.5)
    then_matched m n k u (Err (Stopped why place)) f Q few r next =
        inr (r.0, omega (arith, r.1), tt, quiet_ends r.0 u (standing.Stopped why place) r.2)
    then_matched m n k u (Err Stuck) f Q few r next = inl refl

    -- what is written after a path with these events
    pub then_written : (c least n k : ℕ) (events : List Event) (u w : C.State) (r : Result S.State Halt) → c + n ≤ k → 1 ≤ c + least
        → Path core may c events u w → Written least n w r → Matches u k (comes_to events r)
    then_written c least n k events u w (Ok t) few some path h =
        lands (c + h.0) k events u h.1 t (omega (arith, h.2)) (omega (arith, h.3))
        (subst (λ es. Path core may (c + h.0) es u h.1) (append-nil events) (then_path core may c h.0 events [] u w h.1 path h.4)) h.5
    then_written c least n k events u w (Err Stuck) few some path h = inl refl
    then_written c least n k events u w (Err (Stopped why at)) few some path h =
        inr (
          c + h.0,
          omega (arith, h.1),
          tt,
          subst (λ es. PathEnds core may (c + h.0) es u (standing.Stopped why at)) (append-nil events) (then_ends core may c h.0 events [] u w (standing.Stopped why at) path h.2),
        )

    -- what is written after an evaluation
    pub then_comes_to : {A : Type 0} (first least m n k : ℕ) (u : C.State) (x : Result A Halt) (g : A → Result S.State Halt) (Q : A → C.State → Type 0)
        → m + n ≤ k → 1 ≤ first + least → Runs core first m u x Q → ((v : A) (w : C.State) → x ≡ Ok v → Q v w → Written least n w (g v))
        → Matches u k (and_moves x (λ v. comes_to [] (g v)))
    then_comes_to first least m n k u (Ok v) g Q few some r next =
        then_written r.0 least n k [] u r.1 (g v) (omega (arith, r.3)) (omega (arith, r.2)) (quiet r.0 u r.1 r.4) (next v r.1 refl r.5)
    then_comes_to first least m n k u (Err (Stopped why place)) g Q few some r next =
        inr (r.0, omega (arith, r.1), tt, quiet_ends r.0 u (standing.Stopped why place) r.2)
    then_comes_to first least m n k u (Err Stuck) g Q few some r next = inl refl

    -- a write to the place may be made, if the value may be written there
    abbrev pub IsAllowed : Place → ℕ → Type 0
    IsAllowed to n = allowed to n ≡ Ok to → Permits may to n

    -- ---- writes

    pub store_step : (ds : List C.Caller) (world : World) (width : Width) (a n : ℕ) (d e : Expr) (next : Code) (rest : C.Rest) (l : Values) (memory : Memory) → may (Stored a width (kept_part width n))
        → value_of l world.memory d ≡ Some a → value_of l world.memory e ≡ Some n → memory_with width world.memory a n ≡ Some memory
        → Path core may (nodes d + nodes e + 1) [] (at ds world (Store width d e next) rest l) (at ds (record world { memory = memory }) next rest l)
    unfolding core_step
    store_step ds world width a n d e next rest l memory good g h k =
        let u = at ds world (Store width d e next) rest l in
        let w = at ds (record world { memory = memory }) next rest l in
        let event = Stored a width (kept_part width n) in
        path_by core may (event ∷ []) u w
        (ap (λ o. goes_by u next (with_value o (λ p. with_value (value_of l world.memory e) (stores world width p)))) g
        ∙ ap (λ o. goes_by u next (with_value o (stores world width a))) h
        ∙ ap (λ m. goes_by u next (stores_in world event m)) k)
        (All-cons may event [] good (All-nil may)) refl

    -- a store in both
    pub stores_same : (s : S.State) (work : List Work) (looped : Bool) (ds : List C.Caller) (world : World) (rest : C.Rest) (l : Values) (code : source.Code)
        (width : Width) (a n : ℕ) (d e : Expr) → may (Stored a width (kept_part width n)) → Ready s work looped ds world rest l → Stands functions s.frame.function.locals looped (length work) code
        → value_of l world.memory d ≡ Some a → value_of l world.memory e ≡ Some n → (o : Option (List Block)) → stored width a n s.blocks ≡ o
        → Written 1 (nodes d + nodes e + 1) (at ds world (Store width d e (statements s.frame.function.locals code)) rest l)
        (with_blocks (at_work s (Rest code ∷ work)) o)
    stores_same s work looped ds world rest l code width a n d e good r st g h None k = tt
    stores_same s work looped ds world rest l code width a n d e good r st g h (Some bs) k =
        let memory = with_bytes world.memory (width_bytes width) a n in
        let p = stored_same width a n s.next s.blocks bs world.memory r.outside.memory k in
        let t = s.frame.function.locals in
        let ready : Ready (record s { blocks = bs }) work looped ds (record world { memory = memory }) rest l = record {
          behind = r.behind;
          callers = r.callers;
          outside = record { memory = p.1; input = r.outside.input; bytes = r.outside.bytes };
          count = r.count;
          agree = r.agree;
          small = r.small;
        } in (
          nodes d + nodes e + 1,
          at ds (record world { memory = memory }) (statements t code) rest l,
          omega arith,
          omega arith,
          store_step ds world width a n d e (statements t code) rest l memory good g h p.0,
          same_state (record s { blocks = bs }) work looped ds (record world { memory = memory }) rest l code ready st,
        )

    -- fewer steps are asked for
    pub more_steps : (least m k : ℕ) (u : C.State) (r : Result S.State Halt) → m ≤ k → Written least m u r → Written least k u r
    more_steps least m k u (Ok s) few w = (w.0, w.1, w.2, omega (arith, w.3), w.4, w.5)
    more_steps least m k u (Err Stuck) few w = tt
    more_steps least m k u (Err (Stopped why at)) few w = (w.0, omega (arith, w.1), w.2)

    -- a stretch in front that is as long as is asked
    pub longer_written : (c least m k : ℕ) (u w : C.State) (x : Result S.State Halt) → c + m ≤ k → least ≤ c → Path core may c [] u w → Written 0 m w x → Written least k u x
    longer_written c least m k u w (Ok s) few some path h =
        (c + h.0, h.1, omega arith, omega (arith, h.3), then_path core may c h.0 [] [] u w h.1 path h.4, h.5)
    longer_written c least m k u w (Err Stuck) few some path h = tt
    longer_written c least m k u w (Err (Stopped why at)) few some path h =
        (c + h.0, omega (arith, h.1), then_ends core may c h.0 [] [] u w (standing.Stopped why at) path h.2)

    -- an evaluation in front
    pub runs_written : {A : Type 0} (m n k : ℕ) (u : C.State) (x : Result A Halt) (f : A → Result S.State Halt) (Q : A → C.State → Type 0) → m + n ≤ k → Runs core 0 m u x Q
        → ((v : A) (w : C.State) → x ≡ Ok v → Q v w → Written 0 n w (f v)) → Written 0 k u (given x f)
    runs_written m n k u (Ok v) f Q few r next = longer_written r.0 0 n k u r.1 (f v) (omega (arith, r.3)) (omega arith) (quiet r.0 u r.1 r.4) (next v r.1 refl r.5)
    runs_written m n k u (Err Stuck) f Q few r next = tt
    runs_written m n k u (Err (Stopped why at)) f Q few r next = (r.0, omega (arith, r.1), quiet_ends r.0 u (standing.Stopped why at) r.2)

    set_same : (s : S.State) (work : List Work) (looped : Bool) (ds : List C.Caller) (world : World) (rest : C.Rest) (l : Values) (code : source.Code) (x : ℕ) (width : Width)
        (is_byte : Bool) (e : Expr) (n : ℕ) → Ready s work looped ds world rest l → Stands functions s.frame.function.locals looped (length work) code
        → x < s.frame.function.locals → value_of l world.memory e ≡ Some n → n < 2 ^ 32 → (is_byte ≡ true → n < 256)
        → Written 1 (4 + nodes e) (at ds world (Set x (kept_in width is_byte e) (statements s.frame.function.locals code)) rest l) (writes (place.Local x width) n (at_work s (Rest code ∷ work)))
    set_same s work looped ds world rest l code x width is_byte e n r st h v small b =
        let t = s.frame.function.locals in
        let k = kept_in width is_byte e in
        let after = with_written l x (kept_part width n) in
        let s2 : S.State = record s { frame = record s.frame { locals = slice_set s.frame.locals x (kept_part width n) } } in
        let good = set_local s work looped ds world rest l after x (kept_part width n) r h (kept_small width n small) (written_same l x (kept_part width n))
        (λ y other less. written_other l x (kept_part width n) y other) in (
          nodes k + 1,
          at ds world (statements t code) rest after,
          omega arith,
          omega (arith, kept_nodes width is_byte e),
          quiet (nodes k + 1) (at ds world (Set x k (statements t code)) rest l) (at ds world (statements t code) rest after)
              (by_set core ds world x k (statements t code) rest l (kept_part width n) (kept_value l world.memory width is_byte e n v b)),
          same_state s2 work looped ds world rest after code good st,
        )

    pub any_written : (least m k : ℕ) (u : C.State) (x : Result S.State Halt) → m ≤ k → Written least m u x → Written 0 k u x
    any_written least m k u (Ok s) few w = (w.0, w.1, omega arith, omega (arith, w.3), w.4, w.5)
    any_written least m k u (Err Stuck) few w = tt
    any_written least m k u (Err (Stopped why at)) few w = (w.0, omega (arith, w.1), w.2)

    -- any value may be stored there
    plain_stored : (s : S.State) (work : List Work) (looped : Bool) (ds : List C.Caller) (world : World) (rest : C.Rest) (l : Values) (code : source.Code) (width : Width) (a n k : ℕ) (zero_alone : Option Pos) (d e : Expr)
        → IsAllowed (place.Memory a width zero_alone) n → Ready s work looped ds world rest l → Stands functions s.frame.function.locals looped (length work) code → zero_alone ≡ None
        → value_of l world.memory d ≡ Some a → value_of l world.memory e ≡ Some n → nodes d + nodes e + 1 ≤ k
        → Written 1 k (at ds world (Store width d e (statements s.frame.function.locals code)) rest l) (writes_allowed (place.Memory a width zero_alone) n (at_work s (Rest code ∷ work)))
    plain_stored s work looped ds world rest l code width a n k zero_alone d e good r st is g h few =
        let u = at ds world (Store width d e (statements s.frame.function.locals code)) rest l in
        let s1 = at_work s (Rest code ∷ work) in
        subst (λ z. Written 1 k u (writes_allowed (place.Memory a width z) n s1)) (sym is)
        (more_steps 1 (nodes d + nodes e + 1) k u (writes (place.Memory a width None) n s1) few
        (stores_same s work looped ds world rest l code width a n d e (good (ap (λ z. refuses z (kept_part width n) (Ok (place.Memory a width zero_alone))) is)) r st g h (stored width a n s.blocks) refl))

    -- a value is stored in both, after its check
    stored_written : (through : Through) (s : S.State) (work : List Work) (looped : Bool) (ds : List C.Caller) (world : World) (rest : C.Rest) (l : Values) (code : source.Code) (spot : Pos) (width : Width) (is_byte : Bool)
        (t u a n : ℕ) (zero_alone : Option Pos) (d e : Expr) → IsAllowed (place.Memory a width zero_alone) n → Ready s work looped ds world rest l → Stands functions s.frame.function.locals looped (length work) code → s.frame.function.locals ≤ t → t + 2 ≤ u
        → IsMarked through spot t l zero_alone → ((later : Values) → Below (t + 2) later l → value_of later world.memory d ≡ Some a) → value_of l world.memory e ≡ Some n → (is_byte ≡ true → n < 256)
        → Written 1 (guard_steps through + (nodes d + nodes e + 1)) (at ds world (stored_code through spot width is_byte t u d e (statements s.frame.function.locals code)) rest l)
        (writes_allowed (place.Memory a width zero_alone) n (at_work s (Rest code ∷ work)))
    stored_written Terminated s work looped ds world rest l code spot width is_byte t u a n zero_alone d e good r st le far is g h small =
        let s1 = at_work s (Rest code ∷ work) in
        let to = place.Memory a width zero_alone in
        let store = Store width d (Local u) (statements s.frame.function.locals code) in
        let check = guarded Terminated spot width is_byte t u store in
        let after = with_written l u n in
        let ready : Ready s work looped ds world rest after = record {
          behind = r.behind;
          callers = r.callers;
          outside = r.outside;
          count = r.count;
          agree = λ x less. written_below l u n x (omega arith) ∙ r.agree x less;
          small = r.small;
        } in
        longer_written (nodes e + 1) 1 (10 + (nodes d + 2)) (12 + (nodes d + nodes e + 1)) (at ds world (Set u e check) rest l) (at ds world check rest after) (writes_allowed to n s1) (omega arith) (omega arith)
        (quiet (nodes e + 1) (at ds world (Set u e check) rest l) (at ds world check rest after) (by_set core ds world u e check rest l n h))
        (runs_written 10 (nodes d + 2) (10 + (nodes d + 2)) (at ds world check rest after) (allowed to n) (λ into. writes into n s1) (λ into w. (into ≡ to) × (w ≡ at ds world store rest after)) (omega arith)
        (guard_runs core ds world rest Terminated spot width is_byte t u a n zero_alone store after (marked_later Terminated spot t l after zero_alone is (written_below l u n (t + 1) (omega arith))) (written_same l u n) small)
        (λ into w may_be q.
        subst (λ w. Written 0 (nodes d + 2) w (writes into n s1)) (sym q.1)
        (subst (λ into. Written 0 (nodes d + 2) (at ds world store rest after) (writes into n s1)) (sym q.0)
        (any_written 1 (nodes d + 1 + 1) (nodes d + 2) (at ds world store rest after) (writes to n s1) (omega arith)
        (stores_same s work looped ds world rest after code width a n d (Local u) (good (may_be ∙ ap Ok q.0)) ready st (g after (λ z less. written_below l u n z (omega arith))) (written_same l u n) (stored width a n s.blocks) refl)))))
    stored_written Named s work looped ds world rest l code spot width is_byte t u a n zero_alone d e good r st le far is g h small =
        plain_stored s work looped ds world rest l code width a n (0 + (nodes d + nodes e + 1)) zero_alone d e good r st is (g l (λ z less. refl)) h (omega arith)
    stored_written Raw s work looped ds world rest l code spot width is_byte t u a n zero_alone d e good r st le far is g h small =
        plain_stored s work looped ds world rest l code width a n (0 + (nodes d + nodes e + 1)) zero_alone d e good r st is (g l (λ z less. refl)) h (omega arith)
    stored_written One s work looped ds world rest l code spot width is_byte t u a n zero_alone d e good r st le far is g h small =
        plain_stored s work looped ds world rest l code width a n (0 + (nodes d + nodes e + 1)) zero_alone d e good r st is (g l (λ z less. refl)) h (omega arith)
    stored_written Array s work looped ds world rest l code spot width is_byte t u a n zero_alone d e good r st le far is g h small =
        plain_stored s work looped ds world rest l code width a n (0 + (nodes d + nodes e + 1)) zero_alone d e good r st is (g l (λ z less. refl)) h (omega arith)

    -- a value is written to a target in both
    pub writes_same : (s : S.State) (work : List Work) (looped : Bool) (ds : List C.Caller) (world : World) (rest : C.Rest) (l : Values) (code : source.Code)
        (target : source.Target) (t : ℕ) (to : Place) (is_byte : Bool) (e : Expr) (n : ℕ) → IsAllowed to n → Ready s work looped ds world rest l → Stands functions s.frame.function.locals looped (length work) code → s.frame.function.locals ≤ t
        → IsCompilableTarget s.frame.function.locals target → IsAt core ds world target t l to → value_of l world.memory e ≡ Some n → n < 2 ^ 32 → (is_byte ≡ true → n < 256)
        → Written (least_of target) (write_steps target t + nodes e) (at ds world (written target t is_byte e (statements s.frame.function.locals code)) rest l)
        (writes_allowed to n (at_work s (Rest code ∷ work)))
    writes_same s work looped ds world rest l code source.Nothing t to is_byte e n good r st le h is v small b =
        let u = at ds world (statements s.frame.function.locals code) rest l in
        subst (λ to. Written 0 (4 + nodes e) u (writes_allowed to n (at_work s (Rest code ∷ work)))) (sym is)
        (0, u, omega arith, omega arith, no_path core may u, same_state s work looped ds world rest l code r st)
    writes_same s work looped ds world rest l code (source.Variable x width) t to is_byte e n good r st le h is v small b =
        subst (λ to. Written 1 (4 + nodes e) (at ds world (Set x (kept_in width is_byte e) (statements s.frame.function.locals code)) rest l) (writes_allowed to n (at_work s (Rest code ∷ work)))) (sym is)
        (set_same s work looped ds world rest l code x width is_byte e n r st h v small b)
    writes_same s work looped ds world rest l code (source.Memory width access p i) t to is_byte e n good r st le h is v small b =
        let d = reached_place access p i t in
        let u = at ds world (written (source.Memory width access p i) t is_byte e (statements s.frame.function.locals code)) rest l in
        subst (λ to. Written 1 (write_steps (source.Memory width access p i) t + nodes e) u (writes_allowed to n (at_work s (Rest code ∷ work)))) (sym is.2)
        (more_steps 1 (guard_steps access.through + (nodes d + nodes e + 1)) (write_steps (source.Memory width access p i) t + nodes e) u
        (writes_allowed (place.Memory is.0 width is.1) n (at_work s (Rest code ∷ work))) (omega arith)
        (stored_written access.through s work looped ds world rest l code access.at width is_byte t (t + target_count (source.Memory width access p i)) is.0 n is.1 d e (subst (λ to. IsAllowed to n) is.2 good) r st le (omega arith) is.4 is.5 v b))
