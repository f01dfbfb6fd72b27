-- Calls and returns in both.
use Rattle.std.proofs.Common.{◌≡◌, inl, inr, ℕ, zero, suc, ◌+◌, ◌-◌, ◌*◌, ◌^◌, ◌%◌, ◌≤◌, ◌<◌, List, [], ◌∷◌, ◌++◌, length, map, replicate, refl, sym, ◌∙◌, ap, subst, arith}
use Rattle.std.specs.Prelude.{Bool, true, false, if◌then◌else◌, slice_get, slice_index, slice_set, Option, Some, None, IfSome, Result, Ok, Err, All}
use Rattle.std.specs.Option.{option_map}
use Rattle.std.proofs.lemmas.Option.{slice_get-map, slice_get-get_or}
use Rattle.std.proofs.lemmas.List.{get_or_append_left, get_or-append_right, get_or-replicate, length-replicate}
use Rattle.std.proofs.lemmas.List.Elements.{All-nil, All-cons, All-head, All-tail}
use Rattle.std.proofs.Common.{length-append}
use Rattle.ckc_base.specs.declared.arithmetic.Width.TheVariants.{Byte, Word}
use Rattle.ckc_base.specs.declared.places.Pos.{Pos}
use Rattle.ckc_base.specs.declared.runtime_checks.Check.TheVariants.{Depth}
use Rattle.ckc_base.specs.Traces as standing
use Rattle.ckc_base.specs.LongEvents.{LongEvent, Plain, Stored, Entered, Returned}
use Rattle.ckc_base.specs.Steps.{Goes, Halts}
use Rattle.ckc_base.specs.Actions.{World}
use Rattle.ckc_base.specs.Activations.{Values, with_written, with_result, first_values, has_room}
use Rattle.ckc_base.proofs.Travelling.{below_or_from, one_travel}
use Rattle.ckc_source.specs.declared.expr.Limits.{Limits}
use Rattle.ckc_source.specs.declared.program.Interface.{Interface}
use Rattle.ckc_source.specs.declared.program.Shape.{Shape}
use Rattle.ckc_source.specs.declared.stmt.Kept.{Kept}
use Rattle.ckc_source.specs.declared.stmt.Kept.TheVariants as kept
use Rattle.ckc_source.specs.declared.outcome.Value.{Value}
use Rattle.ckc_source.specs.Eval.{Store as Reads, given, reads_limited, end_address}
use Rattle.ckc_source.specs.declared.outcome.Halt.{Halt}
use Rattle.ckc_source.specs.declared.outcome.Halt.TheVariants.{Stopped, Stuck}
use Rattle.ckc_source.specs.Code as source
use Rattle.ckc_source.specs.Blocks.{Block, stored}
use Rattle.ckc_source.specs.States.{Work, Rest, entered}
use Rattle.ckc_source.specs.States as S
use Rattle.ckc_source.specs.Steps.{at_work, writes, with_blocks, comes_to, store_of, and_moves, kept_place, hands, returns, in_call, reads_interfaces, enters}
use Rattle.ckc_core.specs.Code.{Const, Local, Code, Set, Store, Function}
use Rattle.ckc_core.specs.Meaning.{Stop, core_step, core_system, extra_steps}
use Rattle.ckc_core.specs.Meaning as C
use Rattle.ckc_checks_operands.specs.Compilable.{HasParams, IsCompilableFunction, IsCompilableKept}
use Rattle.ckc_checks_operands.specs.code.Operands.{low_byte}
use Rattle.ckc_checks_follow.specs.code.Inserted.{statements, result_in, result_kept, zeroed, function_code}
use Rattle.ckc_checks_follow.proofs.Paths.{Quiet, no_quiet, then_quiet, ends_by, looser, IsQuiet, stays}
use Rattle.ckc_checks_follow.proofs.Running.{at, by_set}
use Rattle.ckc_checks_follow.proofs.Flat.{stored_lies}
use Rattle.ckc_checks_follow.proofs.Values.{Agree, low_value}
use Rattle.ckc_checks_follow.proofs.Bounded.{Gives, reads_number, AreSmall}
use Rattle.ckc_checks_follow.proofs.Counts.{written_same}
use Rattle.ckc_checks_follow.proofs.Relation.{MayLie, Stands, SameCaller, SameCallers, SameWorld, Related, same_level}
use Rattle.ckc_checks_follow.proofs.Writing.{written_other, Ready, same_state, set_local, near_by, related, Matches, stores_same}

-- what holds of each element holds of one that stands somewhere
pub all_got : {X : Type 0} (P : X → Type 0) (xs : List X) (i : ℕ) (x : X) → All P xs → slice_get xs i ≡ Some x → P x
all_got P [] i x all e = absurd cc
all_got P (y ∷ xs) zero x all e = let same : y ≡ x = cc in subst P same (All-head P y xs all)
all_got P (y ∷ xs) (suc i) x all e = all_got P xs i x (All-tail P y xs all) e

-- ---- locals that begin at zero

-- so many locals from x on are zero, and the others as they were
pub record Zeroed (x count : ℕ) (l after : Values) : Type 0 where
  pub zeros : (y : ℕ) → x ≤ y → y < x + count → after y ≡ Some 0
  pub below : (y : ℕ) → y < x → after y ≡ l y

module _ (core : List Function) (ds : List C.Caller) (world : World) where
  pub zeroes : (x count : ℕ) (c : Code) (l : Values)
      → (after : Values) × Quiet core (2 * count) (at ds world (zeroed x count c) Stop l) (at ds world c Stop after) × Zeroed x count l after
  zeroes x zero c l = (l, no_quiet core (at ds world c Stop l), record { zeros = λ y h k. absurd (omega arith); below = λ y h. refl })
  zeroes x (suc count) c l =
      let one = with_written l x 0 in
      let p = zeroes (x + 1) count c one in
      let steps : 2 + 2 * count ≡ 2 * suc count = omega arith in (
        p.0,
        subst (λ n. Quiet core n (at ds world (Set x (Const 0) (zeroed (x + 1) count c)) Stop l) (at ds world c Stop p.0)) steps
            (then_quiet core 2 (2 * count) (at ds world (Set x (Const 0) (zeroed (x + 1) count c)) Stop l) (at ds world (zeroed (x + 1) count c) Stop one) (at ds world c Stop p.0)
            (by_set core ds world x (Const 0) (zeroed (x + 1) count c) Stop l 0 refl) p.1),
        record {
          zeros = λ y h k. elim (below_or_from x y) [
            | inl less ↦ p.2.zeros y (omega arith) (omega arith)
            | inr q ↦
                let e : y ≡ x = omega (arith, q.1) in
                ap p.0 e ∙ p.2.below x (omega arith) ∙ written_same l x 0
          ];
          below = λ y h. p.2.below y (omega arith) ∙ written_other l x 0 y (inl h);
        },
      )

-- the locals at the entry of a function
entry_agrees : (params locals : ℕ) (values : List ℕ) (after : Values) → length values ≡ params → params ≤ locals
    → Zeroed params (locals - params) (first_values values) after
    → Agree locals (values ++ replicate (locals - length values) 0) after
unfolding first_values
entry_agrees params locals values after count less z y h =
    elim (below_or_from y params) [
      | inl low ↦
          z.below y low ∙ slice_get-get_or values y 0 (omega arith)
          ∙ ap Some (sym (get_or_append_left values (replicate (locals - length values) 0) 0 y (omega arith)))
      | inr p ↦
          z.zeros y (omega (arith, p.1)) (omega (arith, p.1))
          ∙ ap Some (sym (get_or-append_right values (replicate (locals - length values) 0) params y 0 count (omega (arith, p.1))
          ∙ get_or-replicate (locals - length values) (y - params) 0 0 (omega (arith, p.1))))
    ]

small_append : (xs ys : List ℕ) → AreSmall xs → AreSmall ys → AreSmall (xs ++ ys)
small_append [] ys h k i = k i
small_append (x ∷ xs) ys h k zero = h 0
small_append (x ∷ xs) ys h k (suc i) = small_append xs ys (λ j. h (suc j)) k i

small_zeros : (n : ℕ) → AreSmall (replicate n 0)
small_zeros zero i = omega arith
small_zeros (suc n) zero = omega arith
small_zeros (suc n) (suc i) = small_zeros n i

-- ---- interfaces

-- there is a value, or it is stuck
abbrev NeverStops : {A : Type 0} → Result A Halt → Type 0
NeverStops (Ok v) = Unit {0}
NeverStops (Err Stuck) = Unit {0}
NeverStops (Err (Stopped why at)) = ⊥

read_first : (n : ℕ) (r : Result Value Halt) (next : Result (Unit {0}) Halt) → Gives n r → NeverStops next → NeverStops (given r (λ v. next))
read_first n (Ok v) next e h = h
read_first n (Err Stuck) next e h = tt
read_first n (Err (Stopped why at)) next e h = absurd e

-- no check stops the reading of interfaces
interfaces_never_stop : (s : Reads) (is : List Interface) → NeverStops (reads_interfaces s is)
interfaces_never_stop s [] = tt
interfaces_never_stop s (i ∷ is) =
    let n = slice_index s.locals i.param in
    read_first n (reads_limited s i.limits n) (reads_interfaces s is)
    (reads_number s.shapes s.blocks i.limits.to n (end_address s.locals i.limits.to.size n i.limits.lower) (end_address s.locals i.limits.to.size n i.limits.upper))
    (interfaces_never_stop s is)

module _ (functions : List source.Function) (all : All (IsCompilableFunction functions) functions) where
  abbrev core : List Function
  core = map function_code functions

  quiet_lies : (s : S.State) (e : LongEvent) → IsQuiet e → MayLie s e
  quiet_lies s (Stored at width value) h = inl h
  quiet_lies s (Plain event) h = tt
  quiet_lies s Entered h = tt
  quiet_lies s Returned h = tt

  -- at the entry of a function
  pub entered_related : (s : S.State) (f : source.Function) (values : List ℕ) (cs : List S.Caller) (ds : List C.Caller) (world : World)
      → IsCompilableFunction functions f → length values ≡ f.params → AreSmall values → SameCallers functions cs ds → SameWorld functions s world
      → Related functions core (record s { frame = entered f values; callers = cs }) (at ds world (function_code f).body Stop (first_values values))
  entered_related s f values cs ds world i count small same outside =
      let z = zeroes core ds world f.params (f.locals - f.params) (statements f.locals f.body) (first_values values) in
      let all_length : length (values ++ replicate (f.locals - length values) 0) ≡ f.locals =
      length-append values (replicate (f.locals - length values) 0)
      ∙ ap (λ n. length values + n) (length-replicate (f.locals - length values) 0) ∙ omega (arith, i.params, count) in
      let next : S.State = record s { frame = entered f values; callers = cs } in
      let from = at ds world (function_code f).body Stop (first_values values) in
      let to = at ds world (statements f.locals f.body) Stop z.0 in
      near_by functions core next from to (2 * (f.locals - f.params)) (omega (arith, i.locals))
      (looser core IsQuiet (MayLie next) (quiet_lies next) (2 * (f.locals - f.params)) [] from to z.1)
      (record {
        frame = record {
          code = f.body;
          work = [];
          looped = false;
          next = refl;
          stands = record { form = i.body; few = omega (arith, i.nodes) };
          begins = refl;
          behind = λ h. cc;
          count = all_length;
          agree = entry_agrees f.params f.locals values z.0 count i.params z.2;
          small = small_append values (replicate (f.locals - length values) 0) small (small_zeros (f.locals - length values));
        };
        callers = same;
        world = record { memory = outside.memory; input = outside.input; bytes = outside.bytes };
      })

  -- ---- returns

  -- After a call core code is near to where the source has kept the result.
  abbrev Keeps : C.State → Result S.State Halt → Type 0
  Keeps u (Ok s) = Related functions core s u
  Keeps u (Err Stuck) = Unit {0}
  Keeps u (Err (Stopped why at)) = ⊥

  -- what is done with the result of a call, once it is returned
  kept_same : (s : S.State) (work : List Work) (looped : Bool) (ds : List C.Caller) (world : World) (rest : C.Rest) (l : Values) (code : source.Code) (shapes : List Shape) (entry : List ℕ) (n : ℕ) → n < 2 ^ 32
      → Ready functions core s work looped ds world rest l → Stands functions s.frame.function.locals looped (length work) code
      → (target : Option Kept) → IfSome target (IsCompilableKept s.frame.function.locals)
      → Keeps
      (at ds world (result_kept target s.frame.function.locals (statements s.frame.function.locals code)) rest (with_result l (result_in target s.frame.function.locals) n))
      (hands shapes (at_work s (Rest code ∷ work)) None entry target n)
  kept_same s work looped ds world rest l code shapes entry n word r st None h =
      let s1 = at_work s (Rest code ∷ work) in
      let u = at ds world (statements s.frame.function.locals code) rest l in
      related functions core s1 u (same_state functions core s work looped ds world rest l code r st)
  kept_same s work looped ds world rest l code shapes entry n word r st (Some (kept.Local x Word)) h =
      let after = with_written l x n in
      let u = at ds world (statements s.frame.function.locals code) rest after in
      let s2 : S.State = record s { frame = record s.frame { locals = slice_set s.frame.locals x n } } in
      let good = set_local functions core s work looped ds world rest l after x n r h word (written_same l x n)
      (λ y other less. written_other l x n y other) in
      related functions core (at_work s2 (Rest code ∷ work)) u (same_state functions core s2 work looped ds world rest after code good st)
  kept_same s work looped ds world rest l code shapes entry n word r st (Some (kept.Local x Byte)) h =
      let one = with_written l x n in
      let after = with_written one x (n % 256) in
      let t = s.frame.function.locals in
      let u = at ds world (statements t code) rest after in
      let s2 : S.State = record s { frame = record s.frame { locals = slice_set s.frame.locals x (n % 256) } } in
      let good = set_local functions core s work looped ds world rest l after x (n % 256) r h (omega arith) (written_same one x (n % 256))
      (λ y other less. written_other one x (n % 256) y other ∙ written_other l x n y other) in
      let next = at_work s2 (Rest code ∷ work) in
      let from = at ds world (Set x (low_byte (Local x)) (statements t code)) rest one in
      near_by functions core next from u 4 (omega arith)
      (looser core IsQuiet (MayLie next) (quiet_lies next) 4 [] from u
      (by_set core ds world x (low_byte (Local x)) (statements t code) rest one (n % 256) (low_value one world.memory (Local x) n (written_same l x n))))
      (same_state functions core s2 work looped ds world rest after code good st)
  kept_same s work looped ds world rest l code shapes entry n word r st (Some (kept.Static a width)) h =
      let t = s.frame.function.locals in
      let one = with_written l t n in
      let ready : Ready functions core s work looped ds world rest one = record {
        behind = r.behind;
        callers = r.callers;
        outside = r.outside;
        count = r.count;
        agree = λ y less. written_other l t n y (inl less) ∙ r.agree y less;
        small = r.small;
      } in
      by one ready (written_same l t n) (stored width a n s.blocks) refl
    where
      by : (one : Values) → Ready functions core s work looped ds world rest one → one s.frame.function.locals ≡ Some n → (o : Option (List Block)) → stored width a n s.blocks ≡ o
          → Keeps (at ds world (Store width (Const a) (Local s.frame.function.locals) (statements s.frame.function.locals code)) rest one) (with_blocks (at_work s (Rest code ∷ work)) o)
      by one ready held None e = tt
      by one ready held (Some bs) e =
          let t = s.frame.function.locals in
          let u = at ds world (Store width (Const a) (Local t) (statements t code)) rest one in
          let next : S.State = record (at_work s (Rest code ∷ work)) { blocks = bs } in
          let w = stores_same functions core (MayLie next) (quiet_lies next) s work looped ds world rest one code width a n (Const a) (Local t) (inr (stored_lies width a n s.blocks bs e)) ready st refl held (Some bs) e in
          near_by functions core next u w.1 w.0 (omega (arith, w.3)) w.4 w.5

  -- what has the limits of a result is the result, or nothing is asked
  limits_same : (shapes : List Shape) (s : S.State) (limits : Option Limits) (entry : List ℕ) (target : Option Kept) (n : ℕ) (u : C.State)
      → Keeps u (hands shapes s None entry target n) → Keeps u (hands shapes s limits entry target n)
  limits_same shapes s limits entry None n u w = w
  limits_same shapes s None entry (Some target) n u w = w
  limits_same shapes s (Some limits) entry (Some target) n u w =
      by (reads_limited (record { shapes = shapes; blocks = s.blocks; locals = entry }) limits n)
      (reads_number shapes s.blocks limits.to n (end_address entry limits.to.size n limits.lower) (end_address entry limits.to.size n limits.upper))
    where
      by : (r : Result Value Halt) → Gives n r → Keeps u (given (given {A = Value} {B = ℕ} r (λ v. Ok v.number)) (λ n. writes (kept_place target) n s))
      by (Ok v) e = subst (λ (k : ℕ). Keeps u (writes (kept_place target) k s)) (sym e) w
      by (Err Stuck) e = tt
      by (Err (Stopped why at)) e = absurd e

  hands_same : (s : S.State) (c : S.Caller) (d : C.Caller) (cs : List S.Caller) (ds : List C.Caller) (world : World) (shapes : List Shape) (entry : List ℕ) (n : ℕ) → n < 2 ^ 32
      → SameCaller functions c d → SameCallers functions cs ds → SameWorld functions s world
      → Keeps
      (at ds world d.frame.code d.frame.rest (with_result d.frame.locals d.target n))
      (hands shapes (record s { frame = c.frame; callers = cs }) None entry c.target n)
  hands_same s c d cs ds world shapes entry n word k same outside =
      let f = k.frame in
      let t = c.frame.function.locals in
      let ready : Ready functions core (record s { frame = c.frame; callers = cs }) f.work f.looped ds world d.frame.rest d.frame.locals = record {
        behind = f.behind;
        callers = same;
        outside = record { memory = outside.memory; input = outside.input; bytes = outside.bytes };
        count = f.count;
        agree = f.agree;
        small = f.small;
      } in
      let good = kept_same (record s { frame = c.frame; callers = cs }) f.work f.looped ds world d.frame.rest d.frame.locals f.code shapes entry n word ready f.stands c.target k.keeps in
      subst (λ (x : Code). Keeps (at ds world x d.frame.rest (with_result d.frame.locals d.target n)) (hands shapes (record s { frame = c.frame; callers = cs }) None entry c.target n)) (sym f.begins)
      (subst (λ (o : Option ℕ). Keeps (at ds world (result_kept c.target t (statements t f.code)) d.frame.rest (with_result d.frame.locals o n)) (hands shapes (record s { frame = c.frame; callers = cs }) None entry c.target n)) (sym k.target)
      (subst (λ (w : List Work). Keeps (at ds world (result_kept c.target t (statements t f.code)) d.frame.rest (with_result d.frame.locals (result_in c.target t) n)) (hands shapes (record s { frame = record c.frame { work = w }; callers = cs }) None entry c.target n)) (sym f.next)
      good))

  module _ (may : LongEvent → Type 0) (heap : (e : LongEvent) → IsQuiet e → may e) where
    -- ---- calls

    -- the entry of a function, from core code that is at the call
    enters_matched : (shapes : List Shape) (s : S.State) (ds : List C.Caller) (world : World) (now next : Code) (rest : C.Rest) (l : Values) (target : Option Kept) (values : List ℕ) (most arguments callee : ℕ)
        (found : Option source.Function) → slice_get functions callee ≡ found → HasParams arguments found → length values ≡ arguments → AreSmall values
        → SameCallers functions s.callers ds → SameWorld functions s world
        → SameCaller functions (record { frame = s.frame; target = target }) (record { frame = record { code = next; rest = rest; locals = l }; target = result_in target s.frame.function.locals })
        → extra_steps now + 1 ≤ most
        → core_step core (at ds world now rest l) ≡ C.enters (at ds world now rest l) next (result_in target s.frame.function.locals) values (slice_get core callee)
        → Matches functions core may heap (at ds world now rest l) most (enters shapes s target values found)
    enters_matched shapes s ds world now next rest l target values most arguments callee None is h count small same outside caller few e = absurd h
    enters_matched shapes s ds world now next rest l target values most arguments callee (Some f) is h count small same outside caller few e =
        let u = at ds world now rest l in
        let got : slice_get core callee ≡ Some (function_code f) = slice_get-map function_code functions callee ∙ ap (option_map function_code) is in
        let d : C.Caller = record { frame = record { code = next; rest = rest; locals = l }; target = result_in target s.frame.function.locals } in
        let w = at (d ∷ ds) world (function_code f).body Stop (first_values values) in
        let go : core_step core u ≡ Goes (Entered ∷ []) w =
        e ∙ ap (C.enters u next (result_in target s.frame.function.locals) values) got in
        reads (reads_interfaces (store_of shapes (in_call s target values f)) f.interfaces) (interfaces_never_stop (store_of shapes (in_call s target values f)) f.interfaces)
        (record {
          count = extra_steps now + 1;
          events = Entered ∷ [];
          via = w;
          some = omega arith;
          few = few;
          travels = one_travel (core_system core) (Entered ∷ []) u w go;
          shows = refl;
          keeps = record { allowed = All-cons may Entered [] (heap Entered tt) (All-nil may); beside = stays core may u };
          near = entered_related s f values (record { frame = s.frame; target = target } ∷ s.callers) (d ∷ ds) world (all_got (IsCompilableFunction functions) functions callee f all is)
              (count ∙ sym h) small (caller, same) outside;
        })
      where
        reads : (r : Result (Unit {0}) Halt) → NeverStops r → Matches functions core may heap (at ds world now rest l) most (Goes [] (in_call s target values f))
            → Matches functions core may heap (at ds world now rest l) most (and_moves r (λ u. Goes [] (in_call s target values f)))
        reads (Ok v) never m = m
        reads (Err Stuck) never m = inl refl
        reads (Err (Stopped why place)) never m = absurd never

    -- the test of the depth
    admitted : (room : Bool) (shapes : List Shape) (s : S.State) (ds : List C.Caller) (world : World) (now next : Code) (rest : C.Rest) (l : Values) (target : Option Kept) (values : List ℕ) (most arguments callee : ℕ) (place : Pos)
        → HasParams arguments (slice_get functions callee) → length values ≡ arguments → AreSmall values
        → SameCallers functions s.callers ds → SameWorld functions s world
        → SameCaller functions (record { frame = s.frame; target = target }) (record { frame = record { code = next; rest = rest; locals = l }; target = result_in target s.frame.function.locals })
        → extra_steps now + 1 ≤ most
        → core_step core (at ds world now rest l)
        ≡ (if room then C.enters (at ds world now rest l) next (result_in target s.frame.function.locals) values (slice_get core callee) else Halts [] (standing.Stopped Depth place))
        → Matches functions core may heap (at ds world now rest l) most (if room then enters shapes s target values (slice_get functions callee) else Halts [] (standing.Stopped Depth place))
    admitted true shapes s ds world now next rest l target values most arguments callee place h count small same outside caller few e =
        enters_matched shapes s ds world now next rest l target values most arguments callee (slice_get functions callee) refl h count small same outside caller few e
    admitted false shapes s ds world now next rest l target values most arguments callee place h count small same outside caller few e =
        inr (extra_steps now + 1, few, tt, ends_by core may (at ds world now rest l) (standing.Stopped Depth place) e)

    pub called : (shapes : List Shape) (s : S.State) (ds : List C.Caller) (world : World) (now next : Code) (rest : C.Rest) (l : Values) (target : Option Kept) (values : List ℕ) (most arguments callee : ℕ) (place : Pos)
        → HasParams arguments (slice_get functions callee) → length values ≡ arguments → AreSmall values
        → SameCallers functions s.callers ds → SameWorld functions s world
        → SameCaller functions (record { frame = s.frame; target = target }) (record { frame = record { code = next; rest = rest; locals = l }; target = result_in target s.frame.function.locals })
        → extra_steps now + 1 ≤ most
        → core_step core (at ds world now rest l) ≡ C.calls core (at ds world now rest l) next (result_in target s.frame.function.locals) callee place (Some values)
        → Matches functions core may heap (at ds world now rest l) most
        (if has_room (S.active s) then enters shapes s target values (slice_get functions callee) else Halts [] (standing.Stopped Depth place))
    called shapes s ds world now next rest l target values most arguments callee place h count small same outside caller few e =
        let u = at ds world now rest l in
        let depth : has_room (length ds + 1) ≡ has_room (length s.callers + 1) = ap has_room (sym (same_level functions s u same)) in
        admitted (has_room (length s.callers + 1)) shapes s ds world now next rest l target values most arguments callee place h count small same outside caller few
        (e ∙ ap (λ room. if room then C.enters u next (result_in target s.frame.function.locals) values (slice_get core callee) else Halts [] (standing.Stopped Depth place)) depth)

    -- a call returns in both
    pub returned : (shapes : List Shape) (s : S.State) (u : C.State) (cs : List S.Caller) (ds : List C.Caller) (n most : ℕ) → SameCallers functions cs ds → SameWorld functions s u.world
        → n < 2 ^ 32 → core_step core u ≡ C.returns u ds n → extra_steps u.frame.code + 9 ≤ most
        → Matches functions core may heap u most (returns shapes s cs n)
    returned shapes s u [] [] n most same outside word e few =
        inr (extra_steps u.frame.code + 1, omega arith, tt, ends_by core may u (standing.Ended n) e)
    returned shapes s u [] (d ∷ ds) n most same outside word e few = absurd same
    returned shapes s u (c ∷ cs) [] n most same outside word e few = absurd same
    returned shapes s u (c ∷ cs) (d ∷ ds) n most same outside word e few =
        let w = at ds u.world d.frame.code d.frame.rest (with_result d.frame.locals d.target n) in
        let s2 : S.State = record s { frame = c.frame; callers = cs } in
        comes u w e (omega arith) (hands shapes s2 s.frame.function.result s.frame.entry c.target n)
        (limits_same shapes s2 s.frame.function.result s.frame.entry c.target n w
        (hands_same s c d cs ds u.world shapes s.frame.entry n word same.0 same.1 outside))
      where
        comes : (u w : C.State) → core_step core u ≡ Goes (Returned ∷ []) w → extra_steps u.frame.code + 1 ≤ most → (r : Result S.State Halt) → Keeps w r → Matches functions core may heap u most (comes_to [] r)
        comes u w go few (Ok next) near = record {
          count = extra_steps u.frame.code + 1;
          events = Returned ∷ [];
          via = w;
          some = omega arith;
          few = few;
          travels = one_travel (core_system core) (Returned ∷ []) u w go;
          shows = refl;
          keeps = record { allowed = All-cons may Returned [] (heap Returned tt) (All-nil may); beside = stays core may u };
          near = near;
        }
        comes u w go few (Err Stuck) near = inl refl
        comes u w go few (Err (Stopped why at)) near = absurd near
