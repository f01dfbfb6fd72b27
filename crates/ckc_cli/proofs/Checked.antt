-- What comes of `check`.
use Rattle.std.proofs.Common.{◌≡◌, ℕ, List, [], ◌∷◌, inr, refl, sym, subst, ◌∙◌}
use Rattle.ckc_base.specs.declared.places.Refusal.{Refusal}
use Rattle.ckc_outside.specs.Given.{Printed}
use Rattle.ckc_typed.specs.declared.typed.Typed.{Typed}
use Rattle.ckc_blame.specs.Blamed.{IsNeverStuck}
use Rattle.ckc_blame.specs.Checked.{WhollyChecked}
use Rattle.ckc_build_elaborate.specs.Elaborated.{elaborated}
use Rattle.ckc_build.specs.Meanings.{judging, FirstFault}
use Rattle.ckc_cli_commands.specs.declared.status.Status.{Status}
use Rattle.ckc_cli_commands.specs.declared.status.Status.TheVariants as status
use Rattle.ckc_cli_commands.specs.World.{World, Untouched}
use Rattle.ckc_cli_commands.specs.Words.{Command, Judge}
use Rattle.ckc_cli_commands.specs.Outcomes as outcome
use Rattle.ckc_cli_commands.specs.Outcomes.{Outcome}
use Rattle.ckc_cli_commands.specs.Commands.{a_text, fetches_of, Reads, Makes}
use Rattle.ckc_cli_commands.specs.Checking.{checked_line}
use Rattle.ckc_cli_commands.specs.Running.{Listed, whole, front}
use Rattle.ckc_cli_commands.specs.Causes as causes
use Rattle.ckc_cli_commands.specs.Causes.{HoldsEach, Comes, Caused, FailsOnce, usage, obeyed, not_fetched, fetched, made}
use Rattle.ckc_cli.specs.Objects.{Tells, OfFile}
use Rattle.ckc_cli.specs.Laws.{Over, Given}
use Rattle.ckc_cli.specs.Checking.{IsSaid, Checking}
use Rattle.ckc_cli.proofs.OneCommand.{reads_once}
use Rattle.ckc_cli.proofs.OneOutcome.{Form, formed}
use Rattle.ckc_cli.proofs.Always as always
use Rattle.ckc_cli.proofs.Statuses as by

same_line : (line other : List ℕ) → outcome.PutsLine line ≡ outcome.PutsLine other → line ≡ other
same_line line other e = cc

module _ (never_stuck : (text : List ℕ) (p : Typed) → judging.Makes text p → WhollyChecked p → IsNeverStuck (elaborated p))
    (words : List (List ℕ)) (before after : World) (same : Untouched) (name : List ℕ) (asked : Reads words (Judge name)) (s : Status) (cause : Caused words before after same s) (fails : FailsOnce before after s) where
  printed_of : (line : List ℕ) → Listed line before.output.written after.output.written before.output.faults after.output.faults s → s ≡ status.Done → Printed before.output.written after.output.written line
  printed_of line (whole e p) q = p
  printed_of line (front e rose p) q = absurd (let z : status.Done ≡ status.WriteFault = sym q ∙ e in cc)

  abbrev Said : Type 0
  Said = OfFile before.store.files name (IsSaid before.output after.output)

  -- the line that the command makes of the bytes is that of the one text
  over_said : (bytes : List (List ℕ)) → HoldsEach before.store.files (a_text name ∷ []) bytes → (line : List ℕ) → Makes (Judge name) bytes (outcome.PutsLine line)
      → Comes (outcome.PutsLine line) before after same s → s ≡ status.Done → Said
  over_said [] h line x c q = absurd x
  over_said (text ∷ []) h line x c q = (
    text,
    h.0,
    record {
      typed = x.0;
      judged = x.1;
      put = subst (Printed before.output.written after.output.written) (same_line line (checked_line x.0) x.2) (printed_of line c.0 q);
      once = c.1;
      never_stuck = never_stuck text x.0 x.1;
    },
  )
  over_said (text ∷ more ∷ rest) h line x c q = absurd x

  module _ (command : Command) (r : Reads words command) (bytes : List (List ℕ)) (h : HoldsEach before.store.files (fetches_of command) bytes) where
    is : command ≡ Judge name
    is = reads_once words command (Judge name) r asked

    form : (o : Outcome) → Makes command bytes o → Form o (Judge name)
    form o x = subst (Form o) is (formed command bytes o x)

    said_comes : (o : Outcome) → Makes command bytes o → Comes o before after same s → s ≡ status.Done → Said
    said_comes (outcome.Refuses fault) x c q = absurd (let z : status.Done ≡ status.Refused fault = sym q ∙ c.0 in cc)
    said_comes (outcome.IsBad part) x c q = absurd (let z : status.Done ≡ status.BadImage part = sym q ∙ c.0 in cc)
    said_comes (outcome.Keeps place image) x c q = absurd (form (outcome.Keeps place image) x)
    said_comes (outcome.Puts text) x c q = absurd (form (outcome.Puts text) x)
    said_comes (outcome.PutsLine line) x c q =
        over_said bytes (subst (λ (d : Command). HoldsEach before.store.files (fetches_of d) bytes) is h) line (subst (λ (d : Command). Makes d bytes (outcome.PutsLine line)) is x) c q
    said_comes (outcome.Executes parts limit) x c q = absurd (form (outcome.Executes parts limit) x)
    said_comes (outcome.Interprets p limit) x c q = absurd (form (outcome.Interprets p limit) x)
    said_comes (outcome.Samples parts size) x c q = absurd (form (outcome.Samples parts size) x)

  said_by : s ≡ status.Done → Said
  said_by q = by_cause cause
    where
      by_cause : Caused words before after same s → Said
      by_cause (usage none e i k) = absurd (none (Judge name) asked)
      by_cause (obeyed command r (not_fetched part others both a (causes.failed e lacks) i)) = absurd (let z : status.Done ≡ status.StoreFault = sym q ∙ e in cc)
      by_cause (obeyed command r (not_fetched part others both a (causes.no_memory e) i)) = absurd (let z : status.Done ≡ status.Memory = sym q ∙ e in cc)
      by_cause (obeyed command r (fetched bytes a h (causes.no_memory e i))) = absurd (let z : status.Done ≡ status.Memory = sym q ∙ e in cc)
      by_cause (obeyed command r (fetched bytes a h (made o x c))) = said_comes command r bytes h o x c q

  -- ---- refusals

  refused_of : (fault : Refusal) (bytes : List (List ℕ)) → HoldsEach before.store.files (a_text name ∷ []) bytes → Makes (Judge name) bytes (outcome.Refuses fault)
      → OfFile before.store.files name (λ text. FirstFault text fault)
  refused_of fault [] h x = absurd x
  refused_of fault (text ∷ []) h x = (text, h.0, x)
  refused_of fault (text ∷ more ∷ rest) h x = absurd x

  refused_by : (fault : Refusal) → s ≡ status.Refused fault → OfFile before.store.files name (λ text. FirstFault text fault)
  refused_by fault q =
      let o : Over words before.store.files (λ command bytes. Makes command bytes (outcome.Refuses fault)) = by.says_of words before after same s (status.Refused fault) cause q in
      let is = reads_once words o.command (Judge name) o.reads asked in
      refused_of fault o.bytes (subst (λ (d : Command). HoldsEach before.store.files (fetches_of d) o.bytes) is o.holds) (subst (λ (d : Command). Makes d o.bytes (outcome.Refuses fault)) is o.are)

  given : (text : List ℕ) → Tells before.store.files name text → Given words before.store.files (Judge name) (text ∷ [])
  given text t = record { reads = asked; told = (t, tt) }

  pub checking : Checking name before after s
  checking = record {
    said = said_by;
    said_always = λ text typed t fine n m. always.listed_always words before after same (Judge name) (text ∷ []) (given text t) fine s cause fails (checked_line typed) (inr (typed, m, refl)) n;
    refused = refused_by;
    refused_always = λ text fault t fine f. always.refused_always words before after same (Judge name) (text ∷ []) (given text t) fine s cause fails fault f;
  }
