-- What comes of `sample`.
use Rattle.std.proofs.Common.{◌≡◌, ◌≢◌, ◌⊎◌, inl, inr, ℕ, List, [], ◌∷◌, refl, sym, ap, subst, ◌∙◌}
use Rattle.ckc_base.specs.Traces.{Fault}
use Rattle.ckc_base.specs.Follows.{IsSafe}
use Rattle.ckc_rv.specs.Machine.{Parts}
use Rattle.ckc_machine.specs.declared.observed.FaultKind.{FaultKind}
use Rattle.ckc_machine.specs.declared.observed.Observed.{Observed}
use Rattle.ckc_machine.specs.declared.observed.Observed.TheVariants as observed
use Rattle.ckc_machine.specs.Runs as runs
use Rattle.ckc_machine.specs.Runs.{kind_number}
use Rattle.ckc_build.specs.Built.{Built}
use Rattle.ckc_build.specs.Meanings.{IsWhollyChecked}
use Rattle.ckc_cli_sample.specs.Sample.{sample_text}
use Rattle.ckc_cli_commands.specs.declared.status.Status.{Status}
use Rattle.ckc_cli_commands.specs.declared.status.Status.TheVariants as status
use Rattle.ckc_cli_commands.specs.World.{World, Untouched}
use Rattle.ckc_cli_commands.specs.Words.{Command, Sample, usual_limit}
use Rattle.ckc_cli_commands.specs.Outcomes as outcome
use Rattle.ckc_cli_commands.specs.Outcomes.{Outcome}
use Rattle.ckc_cli_commands.specs.Commands.{Fetch, fetches_of, Reads, Makes}
use Rattle.ckc_cli_commands.specs.Running.{status_of}
use Rattle.ckc_cli_commands.specs.Sampling.{alone, Lined, all_lines, some_lines, Sampled, with_lines, without_lines, told_lines}
use Rattle.ckc_cli_commands.specs.Causes as causes
use Rattle.ckc_outside.specs.Outside.{Stored}
use Rattle.ckc_cli_commands.specs.Causes.{Unfetched, Comes, Caused, usage, obeyed, not_fetched, fetched, made}
use Rattle.ckc_cli.specs.Sampling.{IsMeantAlone, SampleComes, refused, ran, no_memory, Sampling}
use Rattle.ckc_cli.proofs.OneCommand.{reads_once}
use Rattle.ckc_cli.proofs.OneOutcome.{Form, formed, sampled_by, refused_by}
use Rattle.ckc_cli.proofs.Headline.{borne, blamed_by}
use Rattle.ckc_cli.proofs.Statuses.{same_shown}

meant_alone : (text : List ℕ) (parts : Parts) → Built text parts → World → IsMeantAlone text parts
meant_alone text parts built w = record {
  built = built;
  meant = borne text built.program parts [] (built.follows [] tt) (blamed_by text parts built usual_limit w w (Unit {0}) [] tt) usual_limit;
}

-- ---- no fault

kinds_differ : (o : Observed) (kind : FaultKind) (pc : ℕ) → status_of o ≡ status.MachineFault kind pc → o ≡ observed.Fault kind pc
kinds_differ o kind pc e = same_shown o (observed.Fault kind pc) e

module _ (text : List ℕ) (size : ℕ) (before after : World) (same : Untouched) (s : Status) (checked : IsWhollyChecked text) (kind : FaultKind) (pc : ℕ) (q : s ≡ status.MachineFault kind pc) where
  no_lines : (lines : List (List ℕ)) → Lined lines before.output after.output s → ⊥
  no_lines lines (all_lines e p n) = let z : status.Done ≡ status.MachineFault kind pc = sym e ∙ q in cc
  no_lines lines (some_lines k le e rose p n) = let z : status.WriteFault ≡ status.MachineFault kind pc = sym e ∙ q in cc

  no_run : (parts : Parts) → Built text parts → Sampled parts size before.output after.output same.output s → ⊥
  no_run parts built (with_lines value e lined) = no_lines (told_lines parts size value) lined
  no_run parts built (without_lines o n stands e u) =
      let at : (alone parts).standing ≡ Fault (kind_number kind) pc = subst (λ (p : Observed). runs.Says p (alone parts).standing) (kinds_differ o kind pc (sym e ∙ q)) stands in
      subst IsSafe at ((built.inside checked [] tt).1 usual_limit)

  never_faults : SampleComes text size before after same s → ⊥
  never_faults (refused fault f e u) = let z : status.Refused fault ≡ status.MachineFault kind pc = sym e ∙ q in cc
  never_faults (ran parts m sampled) = no_run parts m.built sampled
  never_faults (no_memory e u) = let z : status.Memory ≡ status.MachineFault kind pc = sym e ∙ q in cc

-- ---- at the top

bad_is_run : (part : ℕ) (parts : Parts) (size : ℕ) → outcome.IsBad part ≡ outcome.Samples parts size → ⊥
bad_is_run part parts size e = cc

no_bad : (seed size : ℕ) (bytes : List (List ℕ)) (part : ℕ) → Makes (Sample seed size) bytes (outcome.IsBad part) → ⊥
no_bad seed size [] part x = bad_is_run part x.0 size x.2
no_bad seed size (bytes ∷ more) part x = x

-- nothing is fetched, so no fetch fails
never_unfetched : (fetches : List Fetch) → fetches ≡ [] → (before : Stored) (s : Status) → Unfetched fetches before s → s ≡ status.Memory
never_unfetched fetches e before s (causes.failed q lacks) = absurd (subst (λ (f : List Fetch). causes.LacksFirst before f) e lacks)
never_unfetched fetches e before s (causes.no_memory q) = q

module _ (words : List (List ℕ)) (before after : World) (same : Untouched) (seed size : ℕ) (asked : Reads words (Sample seed size)) (s : Status) (cause : Caused words before after same s) where
  module _ (command : Command) (r : Reads words command) where
    is : command ≡ Sample seed size
    is = reads_once words command (Sample seed size) r asked

    form : (bytes : List (List ℕ)) (o : Outcome) → Makes command bytes o → Form o (Sample seed size)
    form bytes o x = subst (Form o) is (formed command bytes o x)

    made_by : (bytes : List (List ℕ)) (o : Outcome) → Makes command bytes o → Makes (Sample seed size) bytes o
    made_by bytes o x = subst (λ (c : Command). Makes c bytes o) is x

  abbrev Both : Type 0
  Both = SampleComes (sample_text seed size) size before after same s × same.input

  comes_by : (command : Command) (r : Reads words command) (bytes : List (List ℕ)) (o : Outcome) → Makes command bytes o → Comes o before after same s → Both
  comes_by command r bytes (outcome.Refuses fault) x c = (refused fault (refused_by seed size bytes fault (made_by command r bytes (outcome.Refuses fault) x)) c.0 c.1.put, c.1.took)
  comes_by command r bytes (outcome.IsBad part) x c = absurd (no_bad seed size bytes part (made_by command r bytes (outcome.IsBad part) x))
  comes_by command r bytes (outcome.Keeps name image) x c = absurd (form command r bytes (outcome.Keeps name image) x)
  comes_by command r bytes (outcome.Puts text) x c = absurd (form command r bytes (outcome.Puts text) x)
  comes_by command r bytes (outcome.PutsLine line) x c = absurd (form command r bytes (outcome.PutsLine line) x)
  comes_by command r bytes (outcome.Executes parts limit) x c = absurd (form command r bytes (outcome.Executes parts limit) x)
  comes_by command r bytes (outcome.Interprets p limit) x c = absurd (form command r bytes (outcome.Interprets p limit) x)
  comes_by command r bytes (outcome.Samples parts functions) x c =
      let built = sampled_by seed size functions bytes parts (made_by command r bytes (outcome.Samples parts functions) x) in
      let same_size : functions ≡ size = form command r bytes (outcome.Samples parts functions) x in
      (ran parts (meant_alone (sample_text seed size) parts built before) (subst (λ (n : ℕ). Sampled parts n before.output after.output same.output s) same_size c.0), c.2)

  both : Both
  both = by_cause cause
    where
      by_cause : Caused words before after same s → Both
      by_cause (usage none e i k) = absurd (none (Sample seed size) asked)
      by_cause (obeyed command r (not_fetched part others parted a u i)) =
          (no_memory (never_unfetched (fetches_of command) (ap fetches_of (is command r)) before.store s u) i.put, i.took)
      by_cause (obeyed command r (fetched bytes a h (causes.no_memory e i))) = (no_memory e i.put, i.took)
      by_cause (obeyed command r (fetched bytes a h (made o x c))) = comes_by command r bytes o x c

  pub sampling : same.store → Sampling seed size before after same s
  sampling store = record {
    comes = both.0;
    input = both.1;
    store = store;
    faultless = λ checked kind pc q. never_faults (sample_text seed size) size before after same s checked kind pc q both.0;
  }

  -- the words read no other command, and this one fetches nothing
  pub fetches_nothing : (command : Command) → Reads words command → fetches_of command ≡ []
  fetches_nothing command r = ap fetches_of (is command r)
