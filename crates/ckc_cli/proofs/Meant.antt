-- What comes of `interp`.
use Rattle.std.proofs.Common.{◌≡◌, ◌≢◌, ◌⊎◌, inl, inr, ℕ, ◌≤◌, ◌<◌, List, [], ◌∷◌, Option, None, Some, refl, sym, ap, subst, ◌∙◌, arith}
use Rattle.std.proofs.lemmas.Bool.{cases_lt}
use Rattle.ckc_base.specs.declared.places.Pos.{Pos}
use Rattle.ckc_base.specs.declared.runtime_checks.Check.{Check}
use Rattle.ckc_base.specs.Traces.{Event, Standing, Going, Ended, Stopped, Stuck, Showing}
use Rattle.ckc_base.proofs.Runs.{shown-later}
use Rattle.ckc_source.specs.Code.{Program}
use Rattle.ckc_source.specs.Source.{source_system, first_state, place_after, unchecked_since}
use Rattle.ckc_outside.specs.Given.{Streams}
use Rattle.ckc_interp.specs.declared.seen.Seen as seens
use Rattle.ckc_interp.specs.declared.seen.Seen.TheVariants as seen
use Rattle.ckc_interp.specs.Runs.{Interprets, Comes}
use Rattle.ckc_build.specs.Meanings.{HasMeaning}
use Rattle.ckc_cli_commands.specs.declared.status.Status.{Status}
use Rattle.ckc_cli_commands.specs.declared.status.Status.TheVariants as status
use Rattle.ckc_cli_commands.specs.World.{World, Untouched}
use Rattle.ckc_cli_commands.specs.Words.{Command, Interp}
use Rattle.ckc_cli_commands.specs.Outcomes as outcome
use Rattle.ckc_cli_commands.specs.Outcomes.{Outcome}
use Rattle.ckc_cli_commands.specs.Commands.{a_text, fetches_of, Reads, Makes}
use Rattle.ckc_cli_commands.specs.Interpreting.{Interpreted, ShowsAs, meant_status, streams_of}
use Rattle.ckc_cli_commands.specs.Causes as causes
use Rattle.ckc_cli_commands.specs.Causes.{HoldsEach, Caused, FailsOnce, usage, obeyed, not_fetched, fetched, made}
use Rattle.ckc_cli.specs.Objects.{Tells, OfFile, StoreIsFine, AllIsFine}
use Rattle.ckc_cli.specs.Meaning.{Meaning, ShowsMeaning, IsStuckFirst, standing_after}
use Rattle.ckc_cli.proofs.OneCommand.{reads_once}
use Rattle.ckc_cli.proofs.OneOutcome.{Form, formed, meant_by}
use Rattle.ckc_cli.proofs.Always as always
use Rattle.ckc_cli.proofs.Statuses.{some_same, same_meant, not_meant}
use Rattle.ckc_cli.proofs.Failing.{input_rose, output_rose}

-- ---- how a program stands at the limit

module _ (p : Program) (given : List ℕ) where
  -- what does not go on stays as it is
  pub stays : (n k : ℕ) (stands : Standing) → standing_after p given n ≡ stands → stands ≢ Going → n ≤ k → standing_after p given k ≡ stands
  stays n k stands e h le =
      let later = shown-later (source_system p) n k 0 [] (first_state p given) le in
      ap (λ (a : Showing Event). a.standing) (later.stays (λ going. h (sym e ∙ going))) ∙ e

  module _ (limit : ℕ) (old new : Streams) (left : List ℕ) where
    abbrev Shows : seens.Seen → Type 0
    Shows o = Interprets p limit old new o given left

    abbrev AtLimit : seens.Seen → Type 0
    AtLimit (seen.Ended value) = standing_after p given limit ≡ Ended value
    AtLimit (seen.Stopped check at) = standing_after p given limit ≡ Stopped check at
    AtLimit seen.Going = standing_after p given limit ≡ Going
    AtLimit (seen.Stuck at since) = standing_after p given limit ≡ Stuck
    AtLimit seen.ReadFault = Unit {0}
    AtLimit seen.WriteFault = Unit {0}
    AtLimit seen.Memory = Unit {0}

    at_limit : (o : seens.Seen) → Shows o → AtLimit o
    at_limit (seen.Ended value) s = stays s.0 limit (Ended value) s.1.stands_so (λ e. cc) s.1.within
    at_limit (seen.Stopped check at) s = stays s.0 limit (Stopped check at) s.1.stands_so (λ e. cc) s.1.within
    at_limit seen.Going s = s.stands_so
    at_limit (seen.Stuck at since) s = stays s.0 limit Stuck s.1.stands_so (λ e. cc) s.1.within
    at_limit seen.ReadFault s = tt
    at_limit seen.WriteFault s = tt
    at_limit seen.Memory s = tt

    -- the run shows this, or memory ran out
    abbrev pub OrMemory : seens.Seen → seens.Seen → Type 0
    OrMemory t o = (o ≡ t) ⊎ (o ≡ seen.Memory)

    ended_at : (value : ℕ) → standing_after p given limit ≡ Ended value → (o : seens.Seen) → AtLimit o → o ≢ seen.ReadFault → o ≢ seen.WriteFault → OrMemory (seen.Ended value) o
    ended_at value e (seen.Ended v) a r w = inl (ap seen.Ended (let z : Ended v ≡ Ended value = sym a ∙ e in cc))
    ended_at value e (seen.Stopped check at) a r w = absurd (let z : Stopped check at ≡ Ended value = sym a ∙ e in cc)
    ended_at value e seen.Going a r w = absurd (let z : Going ≡ Ended value = sym a ∙ e in cc)
    ended_at value e (seen.Stuck at since) a r w = absurd (let z : Stuck ≡ Ended value = sym a ∙ e in cc)
    ended_at value e seen.ReadFault a r w = absurd (r refl)
    ended_at value e seen.WriteFault a r w = absurd (w refl)
    ended_at value e seen.Memory a r w = inr refl

    -- the answer of a run that stopped
    abbrev seen_of_stop : Standing → seens.Seen
    seen_of_stop (Stopped check at) = seen.Stopped check at
    seen_of_stop _ = seen.Going

    stopped_at : (check : Check) (at : Pos) → standing_after p given limit ≡ Stopped check at → (o : seens.Seen) → AtLimit o → o ≢ seen.ReadFault → o ≢ seen.WriteFault → OrMemory (seen.Stopped check at) o
    stopped_at check at e (seen.Ended v) a r w = absurd (let z : Ended v ≡ Stopped check at = sym a ∙ e in cc)
    stopped_at check at e (seen.Stopped c place) a r w = inl (let z : Stopped c place ≡ Stopped check at = sym a ∙ e in ap seen_of_stop z)
    stopped_at check at e seen.Going a r w = absurd (let z : Going ≡ Stopped check at = sym a ∙ e in cc)
    stopped_at check at e (seen.Stuck place since) a r w = absurd (let z : Stuck ≡ Stopped check at = sym a ∙ e in cc)
    stopped_at check at e seen.ReadFault a r w = absurd (r refl)
    stopped_at check at e seen.WriteFault a r w = absurd (w refl)
    stopped_at check at e seen.Memory a r w = inr refl

    going_at : standing_after p given limit ≡ Going → (o : seens.Seen) → AtLimit o → o ≢ seen.ReadFault → o ≢ seen.WriteFault → OrMemory seen.Going o
    going_at e (seen.Ended v) a r w = absurd (let z : Ended v ≡ Going = sym a ∙ e in cc)
    going_at e (seen.Stopped check at) a r w = absurd (let z : Stopped check at ≡ Going = sym a ∙ e in cc)
    going_at e seen.Going a r w = inl refl
    going_at e (seen.Stuck at since) a r w = absurd (let z : Stuck ≡ Going = sym a ∙ e in cc)
    going_at e seen.ReadFault a r w = absurd (r refl)
    going_at e seen.WriteFault a r w = absurd (w refl)
    going_at e seen.Memory a r w = inr refl

    same_first : (n m : ℕ) → IsStuckFirst p given n → Comes p given left limit m old new Stuck → m ≡ n
    same_first n m f c = by_order (cases_lt n m) (cases_lt m n)
      where
        by_order : (n < m) ⊎ (m ≤ n) → (m < n) ⊎ (n ≤ m) → m ≡ n
        by_order (inl below) k = absurd (let z : Going ≡ Stuck = sym (c.before n below) ∙ f.stuck in cc)
        by_order (inr le) (inl below) = absurd (let z : Going ≡ Stuck = sym (f.before m below) ∙ c.stands_so in cc)
        by_order (inr le) (inr ge) = omega arith

    stuck_at : (n : ℕ) → IsStuckFirst p given n → standing_after p given limit ≡ Stuck → (o : seens.Seen) → Shows o → AtLimit o → o ≢ seen.ReadFault → o ≢ seen.WriteFault
        → OrMemory (seen.Stuck (place_after p given n) (unchecked_since p given n)) o
    stuck_at n f e (seen.Ended v) s a r w = absurd (let z : Ended v ≡ Stuck = sym a ∙ e in cc)
    stuck_at n f e (seen.Stopped check at) s a r w = absurd (let z : Stopped check at ≡ Stuck = sym a ∙ e in cc)
    stuck_at n f e seen.Going s a r w = absurd (let z : Going ≡ Stuck = sym a ∙ e in cc)
    stuck_at n f e (seen.Stuck at since) s a r w =
        let same = same_first n s.0 f s.1 in
        inl (ap (λ x. seen.Stuck x since) (s.2 ∙ ap (place_after p given) same) ∙ ap (λ y. seen.Stuck (place_after p given n) y) (s.3 ∙ ap (unchecked_since p given) same))
    stuck_at n f e seen.ReadFault s a r w = absurd (r refl)
    stuck_at n f e seen.WriteFault s a r w = absurd (w refl)
    stuck_at n f e seen.Memory s a r w = inr refl

-- ---- at the top

module _ (words : List (List ℕ)) (before after : World) (same : Untouched) (name : List ℕ) (limit : ℕ) (asked : Reads words (Interp name limit)) (s : Status) (cause : Caused words before after same s) where
  -- what the command makes of the bytes, it makes of the one text
  over_meant : (bytes : List (List ℕ)) → HoldsEach before.store.files (a_text name ∷ []) bytes → (p : Program) (most : ℕ) → Makes (Interp name limit) bytes (outcome.Interprets p most)
      → (o : seens.Seen) → Interpreted p most before after o → OfFile before.store.files name (ShowsMeaning limit before after o)
  over_meant bytes h p most x o run =
      let m = meant_by name limit most bytes p x in
      let held = subst (HoldsEach before.store.files (a_text name ∷ [])) m.1 h in
      (m.0, held.0, (p, m.2, subst (λ k. Interpreted p k before after o) (formed (Interp name limit) bytes (outcome.Interprets p most) x) run))

  module _ (command : Command) (r : Reads words command) (bytes : List (List ℕ)) (h : HoldsEach before.store.files (fetches_of command) bytes) where
    is : command ≡ Interp name limit
    is = reads_once words command (Interp name limit) r asked

    form : (o : Outcome) → Makes command bytes o → Form o (Interp name limit)
    form o x = subst (Form o) is (formed command bytes o x)

    -- a run of a meaning
    run_of : (p : Program) (most : ℕ) → Makes command bytes (outcome.Interprets p most) → (o wanted : seens.Seen) → meant_status o ≡ Some s → meant_status wanted ≡ Some s → Interpreted p most before after o
        → OfFile before.store.files name (ShowsMeaning limit before after wanted)
    run_of p most x o wanted e f run =
        over_meant bytes (subst (λ (c : Command). HoldsEach before.store.files (fetches_of c) bytes) is h) p most (subst (λ (c : Command). Makes c bytes (outcome.Interprets p most)) is x) wanted
        (subst (Interpreted p most before after) (same_meant o wanted s e f) run)

    shown_comes : (o : Outcome) → Makes command bytes o → causes.Comes o before after same s → (wanted : seens.Seen) → meant_status wanted ≡ Some s → OfFile before.store.files name (ShowsMeaning limit before after wanted)
    shown_comes (outcome.Refuses fault) x c wanted q = absurd (not_meant wanted (status.Refused fault) (q ∙ ap Some c.0) refl)
    shown_comes (outcome.IsBad part) x c wanted q = absurd (not_meant wanted (status.BadImage part) (q ∙ ap Some c.0) refl)
    shown_comes (outcome.Keeps place image) x c wanted q = absurd (form (outcome.Keeps place image) x)
    shown_comes (outcome.Puts text) x c wanted q = absurd (form (outcome.Puts text) x)
    shown_comes (outcome.PutsLine line) x c wanted q = absurd (form (outcome.PutsLine line) x)
    shown_comes (outcome.Executes parts most) x c wanted q = absurd (form (outcome.Executes parts most) x)
    shown_comes (outcome.Interprets p most) x c wanted q = run_of p most x c.0.0 wanted c.0.1 q c.0.2
    shown_comes (outcome.Samples parts size) x c wanted q = absurd (form (outcome.Samples parts size) x)

  pub shown_by : (wanted : seens.Seen) → wanted ≢ seen.Memory → meant_status wanted ≡ Some s → OfFile before.store.files name (ShowsMeaning limit before after wanted)
  shown_by wanted m q = by_cause cause
    where
      by_cause : Caused words before after same s → OfFile before.store.files name (ShowsMeaning limit before after wanted)
      by_cause (usage none e i k) = absurd (none (Interp name limit) asked)
      by_cause (obeyed command r (not_fetched part others both a (causes.failed e lacks) i)) = absurd (not_meant wanted status.StoreFault (q ∙ ap Some e) refl)
      by_cause (obeyed command r (not_fetched part others both a (causes.no_memory e) i)) = absurd (m (same_meant wanted seen.Memory s q (ap Some (sym e))))
      by_cause (obeyed command r (fetched bytes a h (causes.no_memory e i))) = absurd (m (same_meant wanted seen.Memory s q (ap Some (sym e))))
      by_cause (obeyed command r (fetched bytes a h (made o x c))) = shown_comes command r bytes h o x c wanted q

  pub memory_by : s ≡ status.Memory → (same.output × same.input) ⊎ OfFile before.store.files name (ShowsMeaning limit before after seen.Memory)
  memory_by q = by_cause cause
    where
      by_cause : Caused words before after same s → (same.output × same.input) ⊎ OfFile before.store.files name (ShowsMeaning limit before after seen.Memory)
      by_cause (usage none e i k) = inl (i.put, i.took)
      by_cause (obeyed command r (not_fetched part others both a u i)) = inl (i.put, i.took)
      by_cause (obeyed command r (fetched bytes a h (causes.no_memory e i))) = inl (i.put, i.took)
      by_cause (obeyed command r (fetched bytes a h (made o x c))) = inr (shown_comes command r bytes h o x c seen.Memory (ap Some (sym q)))

  always_by : FailsOnce before after s → (text : List ℕ) (p : Program) → Tells before.store.files name text → StoreIsFine before.store after.store → HasMeaning text p → ShowsAs p limit before after s ⊎ (s ≡ status.Memory)
  always_by fails text p t fine m = always.meant_always words before after same (Interp name limit) (text ∷ []) (record { reads = asked; told = (t, tt) }) fine s cause fails p limit (p, m, refl)

  pub meaning : FailsOnce before after s → Meaning name limit before after same s
  meaning fails = record { shown = shown_by; memory = memory_by; always = always_by fails }

-- ---- if no object fails

module _ (name : List ℕ) (limit : ℕ) (before after : World) (same : Untouched) (s : Status) (fails : FailsOnce before after s) (meaning : Meaning name limit before after same s)
    (text : List ℕ) (p : Program) (there : Tells before.store.files name text) (m : HasMeaning text p) where
  module _ (given : List ℕ) (told : before.input.left ≡ Some given) (fine : AllIsFine before after) where
    abbrev old : Streams
    old = streams_of before

    abbrev new : Streams
    new = streams_of after

    -- the status of a run that showed this
    status_is : (o t : seens.Seen) (wanted : Status) → meant_status o ≡ Some s → o ≡ t → meant_status t ≡ Some wanted → s ≡ wanted
    status_is o t wanted e q f = some_same s wanted (sym e ∙ ap meant_status q ∙ f)

    -- what every run that no object cuts short shows
    by_told : (t : seens.Seen) → ((o : seens.Seen) (left : List ℕ) → Interprets p limit old new o given left → o ≢ seen.ReadFault → o ≢ seen.WriteFault
        → (o ≡ t) ⊎ (o ≡ seen.Memory)) → (meant_status t ≡ Some s) ⊎ (s ≡ status.Memory)
    by_told t h = shown_as (meaning.always text p there fine.store m)
      where
        as_status : (o : seens.Seen) → meant_status o ≡ Some s → (o ≡ t) ⊎ (o ≡ seen.Memory) → (meant_status t ≡ Some s) ⊎ (s ≡ status.Memory)
        as_status o e (inl q) = inl (ap meant_status (sym q) ∙ e)
        as_status o e (inr q) = inr (status_is o seen.Memory status.Memory e q refl)

        shown_as : ShowsAs p limit before after s ⊎ (s ≡ status.Memory) → (meant_status t ≡ Some s) ⊎ (s ≡ status.Memory)
        shown_as (inl x) =
            let run = x.2.told given told in
            as_status x.0 x.1
            (h x.0 run.0 run.2 (λ q. fine.input (input_rose before after s fails (status_is x.0 seen.ReadFault status.ReadFault x.1 q refl)))
            (λ q. fine.output (output_rose before after s fails (status_is x.0 seen.WriteFault status.WriteFault x.1 q refl))))
        shown_as (inr e) = inr e

    -- the same, for what has a status
    by_status : (t : seens.Seen) (wanted : Status) → meant_status t ≡ Some wanted → (meant_status t ≡ Some s) ⊎ (s ≡ status.Memory) → (s ≡ wanted) ⊎ (s ≡ status.Memory)
    by_status t wanted f (inl e) = inl (some_same s wanted (sym e ∙ f))
    by_status t wanted f (inr e) = inr e

    -- what is stuck has a status only if unchecked code ran
    stuck_status : (at : Pos) (since : Option Pos) → (meant_status (seen.Stuck at since) ≡ Some s) ⊎ (s ≡ status.Memory)
        → ((first : Pos) × (since ≡ Some first) × (s ≡ status.Stuck at first)) ⊎ (s ≡ status.Memory)
    stuck_status at (Some first) (inl e) = inl (first, refl, sym (some_same (status.Stuck at first) s e))
    stuck_status at None (inl e) = absurd (let z : ◌≡◌ {A = Option Status} None (Some s) = e in cc)
    stuck_status at since (inr e) = inr e

    pub ended_always : (n value : ℕ) → n ≤ limit → standing_after p given n ≡ Ended value → (s ≡ status.Ended value) ⊎ (s ≡ status.Memory)
    ended_always n value le e =
        let final = stays p given n limit (Ended value) e (λ q. cc) le in
        by_status (seen.Ended value) (status.Ended value) refl (by_told (seen.Ended value) (λ o left x r w. ended_at p given limit old new left value final o (at_limit p given limit old new left o x) r w))

    pub stopped_always : (n : ℕ) (check : Check) (at : Pos) → n ≤ limit → standing_after p given n ≡ Stopped check at → (s ≡ status.Stopped check at) ⊎ (s ≡ status.Memory)
    stopped_always n check at le e =
        let final = stays p given n limit (Stopped check at) e (λ q. cc) le in
        by_status (seen.Stopped check at) (status.Stopped check at) refl (by_told (seen.Stopped check at) (λ o left x r w. stopped_at p given limit old new left check at final o (at_limit p given limit old new left o x) r w))

    pub going_always : standing_after p given limit ≡ Going → (s ≡ status.Going) ⊎ (s ≡ status.Memory)
    going_always e = by_status seen.Going status.Going refl (by_told seen.Going (λ o left x r w. going_at p given limit old new left e o (at_limit p given limit old new left o x) r w))

    pub stuck_always : (n : ℕ) → n ≤ limit → IsStuckFirst p given n
        → ((since : Pos) × (unchecked_since p given n ≡ Some since) × (s ≡ status.Stuck (place_after p given n) since)) ⊎ (s ≡ status.Memory)
    stuck_always n le f =
        let final = stays p given n limit Stuck f.stuck (λ q. cc) le in
        stuck_status (place_after p given n) (unchecked_since p given n)
        (by_told (seen.Stuck (place_after p given n) (unchecked_since p given n))
        (λ o left x r w. stuck_at p given limit old new left n f final o x (at_limit p given limit old new left o x) r w))
