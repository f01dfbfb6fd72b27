-- What each status says.
use Rattle.std.proofs.Common.{◌≡◌, ◌≢◌, ◌↔◌, inl, inr, ℕ, Bool, true, false, List, Option, None, Some, refl, sym, ap, subst, ◌∙◌}
use Rattle.ckc_base.specs.declared.places.Pos.{Pos}
use Rattle.ckc_rv.specs.Machine.{Parts}
use Rattle.ckc_source.specs.Code.{Program}
use Rattle.ckc_machine.specs.declared.observed.Observed.{Observed}
use Rattle.ckc_machine.specs.declared.observed.Observed.TheVariants as observed
use Rattle.ckc_machine.specs.Runs as runs
use Rattle.ckc_interp.specs.declared.seen.Seen as seens
use Rattle.ckc_interp.specs.declared.seen.Seen.TheVariants as seen
use Rattle.ckc_cli_commands.specs.declared.status.Status.{Status}
use Rattle.ckc_cli_commands.specs.declared.status.Status.TheVariants as status
use Rattle.ckc_cli_commands.specs.World.{World, Untouched}
use Rattle.ckc_cli_commands.specs.Words.{Command, Interp}
use Rattle.ckc_cli_commands.specs.Outcomes.{Outcome, Refuses, IsBad, Keeps, Puts, PutsLine, Executes, Interprets, Samples}
use Rattle.ckc_cli_commands.specs.Commands.{fetches_of, Reads, Makes}
use Rattle.ckc_cli_commands.specs.Running.{Ran, Listed, whole, front, status_of}
use Rattle.ckc_cli_commands.specs.Interpreting.{Interpreted, meant_status}
use Rattle.ckc_asm_listing.specs.Listing.{text_of}
use Rattle.ckc_cli_commands.specs.Sampling.{alone, told_lines, Lined, all_lines, some_lines, Sampled, with_lines, without_lines}
use Rattle.ckc_cli_commands.specs.Causes.{HoldsEach, Idle, Keeping, kept, failed, no_memory, Comes, made, not_fetched, fetched, Caused, usage, obeyed}
use Rattle.ckc_cli.proofs.OneOutcome.{formed, interpreter}
use Rattle.ckc_cli.specs.Laws.{Over, PutsText, PutsSome, TellsSample, IsDone, IsRun, IsMeant, IsTried, IsCutShort, shows_run}

-- what was observed, of a status that shows it
observed_by : Status → Observed
observed_by (status.Ended value) = observed.Ended value
observed_by (status.Stopped check at) = observed.Stopped check at
observed_by (status.MachineFault kind pc) = observed.Fault kind pc
observed_by status.ReadFault = observed.ReadFault
observed_by status.WriteFault = observed.WriteFault
observed_by s = observed.Going

back : (o : Observed) → observed_by (status_of o) ≡ o
unfolding observed_by
back (observed.Ended value) = refl
back (observed.Stopped check at) = refl
back observed.Going = refl
back (observed.Fault kind pc) = refl
back observed.ReadFault = refl
back observed.WriteFault = refl

pub same_shown : (o p : Observed) → status_of o ≡ status_of p → o ≡ p
same_shown o p e = sym (back o) ∙ ap observed_by e ∙ back p

shows_true : (o : Observed) → shows_run (status_of o) ≡ true
shows_true (observed.Ended value) = refl
shows_true (observed.Stopped check at) = refl
shows_true observed.Going = refl
shows_true (observed.Fault kind pc) = refl
shows_true observed.ReadFault = refl
shows_true observed.WriteFault = refl

pub true_false : ◌≡◌ {A = Bool} true false → ⊥
true_false e = cc

pub not_shown : (o : Observed) (s : Status) → status_of o ≡ s → shows_run s ≡ false → ⊥
not_shown o s e f = true_false (sym (shows_true o) ∙ ap shows_run e ∙ f)

-- what a run of a meaning came to, of a status that shows it
meant_by : Status → seens.Seen
meant_by (status.Ended value) = seen.Ended value
meant_by (status.Stopped check at) = seen.Stopped check at
meant_by (status.Stuck at since) = seen.Stuck at (Some since)
meant_by status.ReadFault = seen.ReadFault
meant_by status.WriteFault = seen.WriteFault
meant_by status.Memory = seen.Memory
meant_by s = seen.Going

pub some_same : (t s : Status) → ◌≡◌ {A = Option Status} (Some t) (Some s) → t ≡ s
some_same t s e = cc

no_status : (s : Status) → ◌≡◌ {A = Option Status} None (Some s) → ⊥
no_status s e = cc

meant_back : (o : seens.Seen) (s : Status) → meant_status o ≡ Some s → o ≡ meant_by s
unfolding meant_by
meant_back (seen.Ended value) s e = ap meant_by (some_same (status.Ended value) s e)
meant_back (seen.Stopped check at) s e = ap meant_by (some_same (status.Stopped check at) s e)
meant_back seen.Going s e = ap meant_by (some_same status.Going s e)
meant_back (seen.Stuck at (Some since)) s e = ap meant_by (some_same (status.Stuck at since) s e)
meant_back (seen.Stuck at None) s e = absurd (no_status s e)
meant_back seen.ReadFault s e = ap meant_by (some_same status.ReadFault s e)
meant_back seen.WriteFault s e = ap meant_by (some_same status.WriteFault s e)
meant_back seen.Memory s e = ap meant_by (some_same status.Memory s e)

pub same_meant : (o p : seens.Seen) (s : Status) → meant_status o ≡ Some s → meant_status p ≡ Some s → o ≡ p
same_meant o p s e f = meant_back o s e ∙ sym (meant_back p s f)

-- whether a status may be that of a run of a meaning
abbrev pub shows_meaning : Status → Bool
shows_meaning status.Memory = true
shows_meaning s = shows_run s

meant_true : (o : seens.Seen) (s : Status) → meant_status o ≡ Some s → shows_meaning s ≡ true
meant_true (seen.Ended value) s e = ap shows_meaning (sym (some_same (status.Ended value) s e))
meant_true (seen.Stopped check at) s e = ap shows_meaning (sym (some_same (status.Stopped check at) s e))
meant_true seen.Going s e = ap shows_meaning (sym (some_same status.Going s e))
meant_true (seen.Stuck at (Some since)) s e = ap shows_meaning (sym (some_same (status.Stuck at since) s e))
meant_true (seen.Stuck at None) s e = absurd (no_status s e)
meant_true seen.ReadFault s e = ap shows_meaning (sym (some_same status.ReadFault s e))
meant_true seen.WriteFault s e = ap shows_meaning (sym (some_same status.WriteFault s e))
meant_true seen.Memory s e = ap shows_meaning (sym (some_same status.Memory s e))

pub not_meant : (o : seens.Seen) (s : Status) → meant_status o ≡ Some s → shows_meaning s ≡ false → ⊥
not_meant o s e f = true_false (sym (meant_true o s e) ∙ f)

-- a status that shows no run is no other one than this
shows_none : (t s : Status) → ◌≡◌ {A = Option Status} (Some t) (Some s) → shows_run t ≡ true → shows_run s ≡ false → ⊥
shows_none t s e g f = true_false (sym g ∙ ap shows_run (some_same t s e) ∙ f)

-- a run of a meaning whose status shows no run is out of memory
pub unshown_meant : (o : seens.Seen) (s : Status) → meant_status o ≡ Some s → shows_run s ≡ false → s ≡ status.Memory
unshown_meant (seen.Ended value) s e f = absurd (shows_none (status.Ended value) s e refl f)
unshown_meant (seen.Stopped check at) s e f = absurd (shows_none (status.Stopped check at) s e refl f)
unshown_meant seen.Going s e f = absurd (shows_none status.Going s e refl f)
unshown_meant (seen.Stuck at (Some since)) s e f = absurd (shows_none (status.Stuck at since) s e refl f)
unshown_meant (seen.Stuck at None) s e f = absurd (no_status s e)
unshown_meant seen.ReadFault s e f = absurd (shows_none status.ReadFault s e refl f)
unshown_meant seen.WriteFault s e f = absurd (shows_none status.WriteFault s e refl f)
unshown_meant seen.Memory s e f = sym (some_same status.Memory s e)

module _ (words : List (List ℕ)) (before after : World) (same : Untouched) where
  -- what a status says
  abbrev pub Says : Status → Type 0
  Says status.Usage = ((command : Command) → ¬ Reads words command) × Idle before after same × same.store
  Says (status.Refused fault) = Over words before.store.files (λ command bytes. Makes command bytes (Refuses fault))
  Says (status.BadImage part) = Over words before.store.files (λ command bytes. Makes command bytes (IsBad part))
  Says status.Done = Over words before.store.files (IsDone before after)
  Says (status.Ended value) = Over words before.store.files (IsRun before after same (observed.Ended value))
  Says (status.Stopped check at) = Over words before.store.files (IsRun before after same (observed.Stopped check at))
  Says status.Going = Over words before.store.files (IsRun before after same observed.Going)
  Says (status.MachineFault kind pc) = Over words before.store.files (IsRun before after same (observed.Fault kind pc))
  Says (status.Stuck at since) = Over words before.store.files (IsMeant before after (status.Stuck at since))
  Says status.ReadFault = Over words before.store.files (IsRun before after same observed.ReadFault)
  Says status.WriteFault = Over words before.store.files (IsCutShort before after same)
  Says status.StoreFault = Unit {0}
  Says status.Memory = Unit {0}

  module _ (command : Command) (reads : Reads words command) (bytes : List (List ℕ)) (holds : HoldsEach before.store.files (fetches_of command) bytes) where
    over : (Are : Command → List (List ℕ) → Type 0) → Are command bytes → Over words before.store.files Are
    over Are x = record { command = command; reads = reads; bytes = bytes; holds = holds; are = x }

    ran_says : (parts : Parts) (limit : ℕ) → Makes command bytes (Executes parts limit) → (o : Observed) → Ran parts limit before after same.input o → Says (status_of o)
    ran_says parts limit x (observed.Ended value) r = over (IsRun before after same (observed.Ended value)) (inl (parts, limit, x, r))
    ran_says parts limit x (observed.Stopped check at) r = over (IsRun before after same (observed.Stopped check at)) (inl (parts, limit, x, r))
    ran_says parts limit x observed.Going r = over (IsRun before after same observed.Going) (inl (parts, limit, x, r))
    ran_says parts limit x (observed.Fault kind pc) r = over (IsRun before after same (observed.Fault kind pc)) (inl (parts, limit, x, r))
    ran_says parts limit x observed.ReadFault r = over (IsRun before after same observed.ReadFault) (inl (parts, limit, x, r))
    ran_says parts limit x observed.WriteFault r = over (IsCutShort before after same) (inl (inl (parts, limit, x, r)))

    meant_says : (p : Program) (limit : ℕ) → Makes command bytes (Interprets p limit) → (o : seens.Seen) (s : Status) → meant_status o ≡ Some s → Interpreted p limit before after o → Says s
    meant_says p limit x (seen.Ended value) s e r = subst Says (some_same (status.Ended value) s e) (over (IsRun before after same (observed.Ended value)) (inr (inl (p, limit, x, (seen.Ended value, refl, r)))))
    meant_says p limit x (seen.Stopped check at) s e r =
        subst Says (some_same (status.Stopped check at) s e) (over (IsRun before after same (observed.Stopped check at)) (inr (inl (p, limit, x, (seen.Stopped check at, refl, r)))))
    meant_says p limit x seen.Going s e r = subst Says (some_same status.Going s e) (over (IsRun before after same observed.Going) (inr (inl (p, limit, x, (seen.Going, refl, r)))))
    meant_says p limit x (seen.Stuck at (Some since)) s e r =
        subst Says (some_same (status.Stuck at since) s e) (over (IsMeant before after (status.Stuck at since)) (p, limit, x, (seen.Stuck at (Some since), refl, r)))
    meant_says p limit x (seen.Stuck at None) s e r = absurd (no_status s e)
    meant_says p limit x seen.ReadFault s e r = subst Says (some_same status.ReadFault s e) (over (IsRun before after same observed.ReadFault) (inr (inl (p, limit, x, (seen.ReadFault, refl, r)))))
    meant_says p limit x seen.WriteFault s e r = subst Says (some_same status.WriteFault s e) (over (IsCutShort before after same) (inl (inr (inl (p, limit, x, (seen.WriteFault, refl, r))))))
    meant_says p limit x seen.Memory s e r = subst Says (some_same status.Memory s e) tt

    keeping_says : (s : Status) (name image : List ℕ) → Makes command bytes (Keeps name image) → Keeping name image before.store after.store s → Says s
    keeping_says s name image x (kept e k) = subst Says (sym e) (over (IsDone before after) (inl (name, image, x, k.files)))
    keeping_says s name image x (failed e k t) = subst Says (sym e) tt
    keeping_says s name image x (no_memory e k) = subst Says (sym e) tt

    listed_says : (s : Status) (text : List ℕ) → PutsSome command bytes text → Listed text before.output.written after.output.written before.output.faults after.output.faults s → Says s
    listed_says s text x (whole e p) = subst Says (sym e) (over (IsDone before after) (inr (text, x, p)))
    listed_says s text x (front e rose p) = subst Says (sym e) (over (IsCutShort before after same) (inr (text, x, p)))

    lined_says : (s : Status) (lines : List (List ℕ)) → TellsSample command bytes (text_of lines) → Lined lines before.output after.output s → Says s
    lined_says s lines x (all_lines e p n) = subst Says (sym e) (over (IsDone before after) (inr (text_of lines, inr x, p)))
    lined_says s lines x (some_lines k le e rose p n) = subst Says (sym e) (over (IsCutShort before after same) (inr (text_of lines, inr x, p)))

    tried_says : (parts : Parts) (size : ℕ) → Makes command bytes (Samples parts size) → (o : Observed) → ((value : ℕ) → o ≢ observed.Ended value) → runs.Says o (alone parts).standing → same.output → same.input
        → Says (status_of o)
    tried_says parts size x (observed.Ended value) n stands put took = absurd (n value refl)
    tried_says parts size x (observed.Stopped check at) n stands put took = over (IsRun before after same (observed.Stopped check at)) (inr (inr (parts, size, x, stands, put, took)))
    tried_says parts size x observed.Going n stands put took = over (IsRun before after same observed.Going) (inr (inr (parts, size, x, stands, put, took)))
    tried_says parts size x (observed.Fault kind pc) n stands put took = over (IsRun before after same (observed.Fault kind pc)) (inr (inr (parts, size, x, stands, put, took)))
    tried_says parts size x observed.ReadFault n stands put took = absurd stands
    tried_says parts size x observed.WriteFault n stands put took = absurd stands

    sampled_says : (s : Status) (parts : Parts) (size : ℕ) → Makes command bytes (Samples parts size) → Sampled parts size before.output after.output same.output s → same.input → Says s
    sampled_says s parts size x (with_lines value e lined) took = lined_says s (told_lines parts size value) (parts, size, value, x, e, refl) lined
    sampled_says s parts size x (without_lines o n stands e put) took = subst Says (sym e) (tried_says parts size x o n stands put took)

    comes_says : (s : Status) (o : Outcome) → Makes command bytes o → Comes o before after same s → Says s
    comes_says s (Refuses fault) x c = subst Says (sym c.0) (over (λ command bytes. Makes command bytes (Refuses fault)) x)
    comes_says s (IsBad part) x c = subst Says (sym c.0) (over (λ command bytes. Makes command bytes (IsBad part)) x)
    comes_says s (Keeps name image) x c = keeping_says s name image x c.0
    comes_says s (Puts text) x c = listed_says s text (inl (inl x)) c.0
    comes_says s (PutsLine line) x c = listed_says s line (inl (inr x)) c.0
    comes_says s (Executes parts limit) x c = subst Says (sym c.0.1) (ran_says parts limit x c.0.0 c.0.2)
    comes_says s (Interprets p limit) x c = meant_says p limit x c.0.0 s c.0.1 c.0.2
    comes_says s (Samples parts size) x c = sampled_says s parts size x c.0 c.2

  says : (s : Status) → Caused words before after same s → Says s
  says s (usage none e i k) = subst Says (sym e) (none, i, k)
  says s (obeyed command r (not_fetched part others both a (failed e lacks) i)) = subst Says (sym e) tt
  says s (obeyed command r (not_fetched part others both a (no_memory e) i)) = subst Says (sym e) tt
  says s (obeyed command r (fetched bytes a h (made o x c))) = comes_says command r bytes h s o x c
  says s (obeyed command r (fetched bytes a h (no_memory e i))) = subst Says (sym e) tt

  -- what the cause of a status that is known says
  pub says_of : (s wanted : Status) → Caused words before after same s → s ≡ wanted → Says wanted
  says_of s wanted c e = subst Says e (says s c)

  shown_of : (o : Observed) → o ≢ observed.WriteFault → Says (status_of o) → Over words before.store.files (IsRun before after same o)
  shown_of (observed.Ended value) n x = x
  shown_of (observed.Stopped check at) n x = x
  shown_of observed.Going n x = x
  shown_of (observed.Fault kind pc) n x = x
  shown_of observed.ReadFault n x = x
  shown_of observed.WriteFault n x = absurd (n refl)

  pub shown_by : (s : Status) → Caused words before after same s → (o : Observed) → o ≢ observed.WriteFault → s ≡ status_of o → Over words before.store.files (IsRun before after same o)
  shown_by s c o n e = shown_of o n (says_of s (status_of o) c e)

  pub usage_is : (s : Status) → Caused words before after same s → (s ≡ status.Usage) ↔ ((command : Command) → ¬ Reads words command)
  usage_is s c = ((λ e. (says_of s status.Usage c e).0), (λ none. only c none))
    where
      only : Caused words before after same s → ((command : Command) → ¬ Reads words command) → s ≡ status.Usage
      only (usage none e i k) n = e
      only (obeyed command r o) n = absurd (n command r)

  -- `interp` alone is stuck
  pub stuck_by : (s : Status) → Caused words before after same s → (at since : Pos) → s ≡ status.Stuck at since → (name : List ℕ) × (limit : ℕ) × Reads words (Interp name limit)
  stuck_by s c at since e =
      let x = says_of s (status.Stuck at since) c e in
      let i = interpreter x.command x.are.0 x.are.1 (formed x.command x.bytes (Interprets x.are.0 x.are.1) x.are.2) in
      (i.0, x.are.1, subst (Reads words) i.1 x.reads)
