-- Core code follows the source program that it is made of.
use Rattle.std.proofs.Common.{◌≡◌, ◌≢◌, inl, inr, ℕ, ◌+◌, ◌≤◌, List, [], ◌∷◌, length, refl, sym, ◌∙◌, ap, subst, arith}
use Rattle.std.proofs.Math.Path.{fun_ext}
use Rattle.std.specs.Prelude.{Bool, Option, Some, None, slice_get, Result, Ok, Err, All, flat_map}
use Rattle.std.specs.Option.{option_map}
use Rattle.std.proofs.lemmas.Option.{slice_get-map}
use Rattle.std.proofs.lemmas.List.Elements.{All-weaker}
use Rattle.ckc_base.specs.declared.arithmetic.Width.{Width}
use Rattle.ckc_base.specs.Traces.{Event, Stuck, narrowed}
use Rattle.ckc_base.specs.LongEvents.{LongEvent, Plain, Stored, Entered, Returned, plain_events}
use Rattle.ckc_base.specs.Memory.{kept_part}
use Rattle.ckc_base.specs.Follows.{Follows}
use Rattle.ckc_base.specs.Steps.{Move, Goes, Halts, System}
use Rattle.ckc_base.specs.Simulation.{Nears, SimulatedBy}
use Rattle.ckc_base.specs.Listing.{Listing}
use Rattle.ckc_base.specs.Actions.{World}
use Rattle.ckc_base.specs.Activations.{Values, none_written, first_values}
use Rattle.ckc_base.proofs.Simulating.{Near, follows_by_simulation}
use Rattle.ckc_base.proofs.Listed.{listing_by_simulation}
use Rattle.ckc_source.specs.declared.outcome.Halt.{Halt}
use Rattle.ckc_source.specs.declared.outcome.Place.{Place}
use Rattle.ckc_source.specs.declared.outcome.Place.TheVariants as place
use Rattle.ckc_source.specs.Code as source
use Rattle.ckc_source.specs.LaidOut.{AreBytes, IsLaidOut}
use Rattle.ckc_source.specs.States.{Work, Rest, Turn, entered, settled}
use Rattle.ckc_source.specs.States as S
use Rattle.ckc_source.specs.Steps.{Write, acts, works, source_step}
use Rattle.ckc_source.specs.Source.{source_system, function_at}
use Rattle.ckc_source.specs.Source as upper
use Rattle.ckc_core.specs.Code.{Code, End, Function}
use Rattle.ckc_core.specs.Meaning.{Stop, Body, core_step, core_system, core_meaning, body_of}
use Rattle.ckc_core.specs.Meaning as C
use Rattle.ckc_checks_operands.specs.Compilable.{IsCompilableFunction, IsCompilable, HasParams}
use Rattle.ckc_checks_follow.specs.code.Inserted.{statements, function_code, inserted}
use Rattle.ckc_checks_follow.specs.Stores.{plans, IsOf, IsAmong, IsPlanned, MayDo, AreLevel}
use Rattle.ckc_checks_follow.proofs.Paths.{no_quiet, IsQuiet}
use Rattle.ckc_checks_follow.proofs.Running.{at}
use Rattle.ckc_checks_follow.proofs.Values.{Agree}
use Rattle.ckc_checks_follow.proofs.Bounded.{AreSmall}
use Rattle.ckc_checks_follow.proofs.Relation.{MayLie, turn_code, Stands, IsLoop, Behind, Front, SameCallers, SameWorld, SameState, Related, same_level}
use Rattle.ckc_checks_follow.proofs.Settling.{Settles, settled_front}
use Rattle.ckc_checks_follow.proofs.Writing.{Permits, PermitsAll, PermitsPlan, first_matched}
use Rattle.ckc_checks_follow.proofs.Entering.{all_got, entered_related, returned}
use Rattle.ckc_checks_follow.proofs.Acting.{core_of, Meets, IsReady, most_of}
use Rattle.ckc_checks_follow.proofs.Stepping.{turn_meets, acts_meets}
use Rattle.ckc_checks_follow.proofs.Starting.{first_same}

each_seen : (events : List Event) → flat_map (λ (e : Event). e ∷ []) events ≡ events
each_seen [] = refl
each_seen (e ∷ events) = ap (λ l. e ∷ l) (each_seen events)

-- what is planned may be done
planned_permits : (may : LongEvent → Type 0) (ws : List Write) → ((at : ℕ) (width : Width) (value : ℕ) → IsAmong ws at width value → may (Stored at width value)) → PermitsAll may ws
planned_permits may [] h = tt
planned_permits may (w ∷ ws) h =
    (one w.0 w.1 (λ at width value is. h at width value (inl is)), planned_permits may ws (λ at width value is. h at width value (inr is)))
  where
    one : (to : Place) (n : ℕ) → ((at : ℕ) (width : Width) (value : ℕ) → IsOf to n at width value → may (Stored at width value)) → Permits may to n
    one (place.Memory a width zero_alone) n h = h a width (kept_part width n) (refl, refl, refl)
    one (place.Local x width) n h = tt
    one place.Nowhere n h = tt

plan_permits : (may : LongEvent → Type 0) (r : Result (List Write) Halt) → ((at : ℕ) (width : Width) (value : ℕ) → IsPlanned r at width value → may (Stored at width value)) → PermitsPlan may r
plan_permits may (Ok ws) h = planned_permits may ws h
plan_permits may (Err e) h = tt

module _ (p : source.Program) (all : All (IsCompilableFunction p.functions) p.functions) where
  abbrev core : List Function
  core = core_of p

  abbrev machine : System LongEvent C.State
  machine = core_system core

  quiet_may : (s : S.State) (e : LongEvent) → IsQuiet e → MayDo p s e
  quiet_may s (Stored at width value) h = inl h
  quiet_may s (Plain event) h = tt
  quiet_may s Entered h = tt
  quiet_may s Returned h = tt

  near_may : (s : S.State) (e : LongEvent) → MayLie s e → MayDo p s e
  near_may s (Stored at width value) (inl h) = inl h
  near_may s (Stored at width value) (inr h) = inr (inl h)
  near_may s (Plain event) h = tt
  near_may s Entered h = tt
  near_may s Returned h = tt

  end_step : (ds : List C.Caller) (world : World) (l : Values) → core_step core (at ds world End Stop l) ≡ C.returns (at ds world End Stop l) ds 0
  unfolding core_step
  end_step ds world l = refl

  module _ (may : LongEvent → Type 0) (heap : (e : LongEvent) → IsQuiet e → may e) (s : S.State) (ds : List C.Caller) (world : World) (l : Values) (callers : SameCallers p.functions s.callers ds) (outside : SameWorld p.functions s world)
      (count : length s.frame.locals ≡ s.frame.function.locals) (agree : Agree s.frame.function.locals s.frame.locals l) (small : AreSmall s.frame.locals) where
    abbrev t : ℕ
    t = s.frame.function.locals

    abbrev Meeting : C.State → ℕ → Move Event S.State → Type 0
    Meeting u most move = Meets p all may heap u most move

    weaker : (u : C.State) (n k : ℕ) (move : Move Event S.State) → n ≤ k → Meeting u n move → Meeting u k move
    weaker u n k move few m = first_matched p.functions core may heap 0 n k u u move (omega arith) (no_quiet core u) m

    ready : (work : List Work) (looped : Bool) (rest : C.Rest) → Behind p.functions t looped work rest → IsReady p all may heap s work looped ds world rest l
    ready work looped rest b = record {
      behind = b;
      callers = callers;
      outside = outside;
      count = count;
      agree = agree;
      small = small;
    }

    turning : (code : source.Code) (work : List Work) (looped : Bool) (c s' r : Code) (after : C.Rest) → IsLoop p.functions t code c s' r → Behind p.functions t looped work after
        → Stands p.functions t looped (length work) code → Meeting (at ds world c (Body c s' r after) l) 84020 (acts p s work code)
    turning code work looped c s' r after i b st =
        let loop = source.Loop i.0 i.1 i.2 i.3 i.4 in
        let st' : Stands p.functions t looped (length work) loop = subst (Stands p.functions t looped (length work)) i.5 st in
        let b' = turn_code t i.1 i.2 in
        let good = turn_meets p all may heap s work looped ds world i.0 i.1 i.2 i.3 i.4 after l 84020 (ready work looped after b) st' (omega (arith, st'.few)) in
        subst (λ code. Meeting (at ds world c (Body c s' r after) l) 84020 (acts p s work code)) (sym i.5)
        (subst (λ c. Meeting (at ds world c (Body c s' r after) l) 84020 (acts p s work loop)) (sym i.6)
        (subst (λ s'. Meeting (at ds world b' (Body b' s' r after) l) 84020 (acts p s work loop)) (sym i.7)
        (subst (λ r. Meeting (at ds world b' (Body b' (statements t i.3) r after) l) 84020 (acts p s work loop)) (sym i.8) good)))

    front_meets : (work : List Work) (c : Code) (rest : C.Rest) → Front p.functions t work c rest → PermitsPlan may (plans p s work) → Meeting (at ds world c rest l) 84020 (works p s work)
    front_meets [] c rest f permits =
        subst (λ c. Meeting (at ds world c rest l) 84020 (works p s [])) (sym f.0)
        (subst (λ rest. Meeting (at ds world End rest l) 84020 (works p s [])) (sym f.1)
        (returned p.functions all may heap p.shapes s (at ds world End Stop l) s.callers ds 0 84020 callers outside (omega arith) (end_step ds world l) (omega arith)))
    front_meets (Rest code ∷ work) c rest f permits =
        elim f.2 [
          | inl q ↦
              subst (λ c. Meeting (at ds world c rest l) 84020 (acts p s work code)) (sym q.0)
              (weaker (at ds world (statements t code) rest l) (most_of code) 84020 (acts p s work code) (omega (arith, f.1.few))
              (acts_meets p all may heap s work f.0 ds world code rest l (ready work f.0 rest q.1) f.1 permits))
          | inr q ↦
              subst (λ rest. Meeting (at ds world c rest l) 84020 (acts p s work code)) (sym q.3)
              (turning code work f.0 c q.0 q.1 q.2 q.4 q.5 f.1)
        ]
    front_meets (Turn code ∷ work) c rest f permits = inl refl

  -- a core state near to the next one is near with all that may be done there
  near_does : (s : S.State) (u to : C.State) → Nears machine plain_events (MayLie s) (AreLevel s) 512 u to → Nears machine plain_events (MayDo p s) (AreLevel s) 512 u to
  near_does s u to n = record {
    count = n.count;
    events = n.events;
    few = n.few;
    travels = n.travels;
    unseen = n.unseen;
    keeps = record { allowed = All-weaker (MayLie s) (MayDo p s) (near_may s) n.events n.keeps.allowed; beside = n.keeps.beside };
  }

  abbrev Simulating : S.State → C.State → Move Event S.State → Type 0
  Simulating s u move = SimulatedBy machine (λ (e : Event). e ∷ []) plain_events (MayDo p) AreLevel (SameState p.functions) (λ s. 0) 512 90021 s u move

  simulating : (s : S.State) (u : C.State) (move : Move Event S.State) → AreLevel s u → Meets p all (MayDo p s) (quiet_may s) u 90021 move → Simulating s u move
  simulating s u (Goes events next) level m = record {
    count = m.count;
    lower = m.events;
    via = m.via;
    to = m.near.to;
    few = m.few;
    goes_on = inl m.some;
    travels = m.travels;
    seen = m.shows ∙ sym (each_seen events);
    keeps = record { allowed = m.keeps.allowed; beside = λ j h. level ∙ sym (m.keeps.beside j h) };
    nears = near_does next m.via m.near.to m.near.nears;
    related = m.near.related;
  }
  simulating s u (Halts events how) level (inl stuck) = inl stuck
  simulating s u (Halts events how) level (inr m) = inr (record {
    count = m.0;
    lower = m.3.events;
    few = m.1;
    over = m.2;
    closes = m.3.closes;
    seen = m.3.shows ∙ sym (each_seen events);
    allowed = m.3.allowed;
    beside = λ j. level ∙ sym (m.3.level j);
  })

  step_meets : (s : S.State) (u : C.State) → SameState p.functions s u → Simulating s u (source_step p s)
  unfolding source_step
  step_meets s u r =
      let f = r.frame in
      let t = s.frame.function.locals in
      let may = MayDo p s in
      let heap = quiet_may s in
      let work = settled (Rest f.code ∷ f.work) in
      let q : Settles p.functions core t (length f.work + 1) u work =
      subst (λ (c : Code). Settles p.functions core t (length f.work + 1) (record u { frame = record u.frame { code = c } }) work) (sym f.begins)
      (settled_front p.functions core t f.code f.work u.frame.rest f.looped u f.stands f.behind) in
      let w = at u.callers u.world q.code q.rest u.frame.locals in
      let permits : PermitsPlan may (plans p s work) =
      subst (λ (work : List Work). PermitsPlan may (plans p s (settled work))) f.next
      (plan_permits may (plans p s (settled s.frame.work)) (λ at width value is. inr (inr is))) in
      let good = front_meets may heap s u.callers u.world u.frame.locals r.callers r.world f.count f.agree f.small work q.code q.rest q.front permits in
      simulating s u (works p s (settled s.frame.work)) (same_level p.functions s u r.callers)
      (subst (λ (work : List Work). Meets p all may heap u 90021 (works p s (settled work))) (sym f.next)
      (first_matched p.functions core may heap q.count 84020 90021 u w (works p s work) (omega (arith, q.few, f.stands.few)) q.path good))

-- ---- first states

nothing_written : first_values [] ≡ none_written
unfolding first_values
nothing_written = refl

main_related : (p : source.Program) (input : List ℕ) (all : All (IsCompilableFunction p.functions) p.functions)
    → SameWorld p.functions (upper.first_state p input) (C.first_state (inserted p) input).world
    → (found : Option source.Function) → slice_get p.functions p.main ≡ found → HasParams 0 found
    → Related p.functions (core_of p) (upper.first_state p input) (C.first_state (inserted p) input)
main_related p input all outside None e h = absurd h
main_related p input all outside (Some f) e h =
    let s = upper.first_state p input in
    let u = C.first_state (inserted p) input in
    let got : slice_get (core_of p) p.main ≡ Some (function_code f) = slice_get-map function_code p.functions p.main ∙ ap (option_map function_code) e in
    let good = entered_related p.functions all s f [] [] [] u.world (all_got (IsCompilableFunction p.functions) p.functions p.main f all e) (sym h) (λ i. omega arith) tt outside in
    subst (λ (g : source.Function). Related p.functions (core_of p) (record s { frame = entered g [] }) u) (sym (ap function_at e))
    (subst (λ (c : Code). Related p.functions (core_of p) (record s { frame = entered f []; callers = [] }) (at [] u.world c Stop none_written)) (sym (ap body_of got))
    (subst (λ (l : Values). Related p.functions (core_of p) (record s { frame = entered f []; callers = [] }) (at [] u.world (function_code f).body Stop l)) nothing_written good))

-- ---- the two promises

module _ (p : source.Program) (i : IsCompilable p) (laid : IsLaidOut p) (input : List ℕ) (bytes : AreBytes input) where
  abbrev s : S.State
  s = upper.first_state p input

  abbrev u : C.State
  u = C.first_state (inserted p) input

  abbrev IsNear : S.State → C.State → Type 0
  IsNear s u = Near (core_system (core_of p)) plain_events (MayDo p) AreLevel (SameState p.functions) 512 s u

  starts : IsNear s u
  starts =
      let outside : SameWorld p.functions s u.world = record { memory = first_same p.objects laid.apart laid.below laid.bytes; input = refl; bytes = bytes } in
      let near = main_related p input i.functions outside (slice_get p.functions p.main) refl i.main in
      record { to = near.to; nears = near_does p i.functions s u near.to near.nears; related = near.related }

  -- the core code follows the source program
  pub core_follows : Follows (upper.source p input) (core_meaning (inserted p) input) 100000
  core_follows =
      let one : Event → List Event = λ e. e ∷ [] in
      let seen : (n : ℕ) → narrowed one (upper.source p input n) ≡ upper.source p input n =
      λ n. ap (λ l. record { trace = l; standing = (upper.source p input n).standing }) (each_seen (upper.source p input n).trace) in
      subst (λ a. Follows a (core_meaning (inserted p) input) 100000) (fun_ext seen)
      (follows_by_simulation (source_system p) (core_system (core_of p)) one plain_events (MayDo p) AreLevel (SameState p.functions) (λ s. 0) 512 (λ s. 90021) 100000
      (λ s. omega arith) (step_meets p i.functions) s u starts)

  -- the steps of core code can be listed beside those of the source program
  pub core_listed : ((n : ℕ) → (upper.source p input n).standing ≢ Stuck) → (k : ℕ)
      → Listing (source_system p) (core_system (core_of p)) (λ (e : Event). e ∷ []) plain_events (MayDo p) AreLevel s u k
  core_listed safe k =
      listing_by_simulation (source_system p) (core_system (core_of p)) (λ (e : Event). e ∷ []) plain_events (MayDo p) AreLevel (SameState p.functions) (λ s. 0) 512 (λ s. 90021)
      (step_meets p i.functions) s u starts safe k
