-- What comes of a command, with less told of the objects, and for the command of the definition.
use Rattle.std.proofs.Common.{◌≡◌, ℕ, List, [], ◌∷◌, sym, ap, subst, ◌∙◌}
use Rattle.ckc_machine.specs.declared.observed.Observed.{Observed}
use Rattle.ckc_rv.specs.Machine.{Parts}
use Rattle.ckc_cli_commands.specs.declared.status.Status.{Status}
use Rattle.ckc_cli_commands.specs.declared.words.Command as commands
use Rattle.ckc_cli_commands.specs.Commanded.{command_is}
use Rattle.ckc_cli_commands.specs.World.{World, Untouched}
use Rattle.ckc_cli_commands.specs.Words.{Command}
use Rattle.ckc_cli_commands.specs.Outcomes.{Outcome, Refuses, IsBad, Keeps, Puts, PutsLine, Executes, Interprets, Samples}
use Rattle.ckc_cli_commands.specs.Commands.{Fetch, fetches_of}
use Rattle.ckc_cli_commands.specs.Running.{Ran}
use Rattle.ckc_outside.specs.Outside.{SeenSink}
use Rattle.ckc_cli_commands.specs.Sampling.{Sampled, with_lines, without_lines}
use Rattle.ckc_cli_commands.specs.Causes.{Idle, Comes, Came, made, no_memory, Obeyed, not_fetched, fetched}

module _ (before after : World) (given wanted : Untouched) (s : Status) (put : given.output → wanted.output) (took : given.input → wanted.input) where
  idle_as : Idle before after given → Idle before after wanted
  idle_as i = record { unkept = i.unkept; put = put i.put; took = took i.took }

  ran_as : (parts : Parts) (limit : ℕ) (o : Observed) → Ran parts limit before after given.input o → Ran parts limit before after wanted.input o
  ran_as parts limit o r = record {
    shown = r.shown;
    any = r.any;
    silent = λ bytes nothing. let p = r.silent bytes nothing in (took p.0, p.1);
  }

  sampled_as : (parts : Parts) (size : ℕ) (old new : SeenSink) → Sampled parts size old new given.output s → Sampled parts size old new wanted.output s
  sampled_as parts size old new (with_lines value e lined) = with_lines value e lined
  sampled_as parts size old new (without_lines o n stands e u) = without_lines o n stands e (put u)

  comes_as : (o : Outcome) → Comes o before after given s → Comes o before after wanted s
  comes_as (Refuses fault) c = (c.0, idle_as c.1)
  comes_as (IsBad part) c = (c.0, idle_as c.1)
  comes_as (Keeps name bytes) c = (c.0, put c.1, took c.2)
  comes_as (Puts text) c = (c.0, c.1, took c.2)
  comes_as (PutsLine line) c = (c.0, c.1, c.2, took c.3)
  comes_as (Executes parts limit) c = ((c.0.0, c.0.1, ran_as parts limit c.0.0 c.0.2), c.1)
  comes_as (Interprets p limit) c = c
  comes_as (Samples parts size) c = (sampled_as parts size before.output after.output c.0, c.1, took c.2)

  came_as : (command : Command) (bytes : List (List ℕ)) → Came command bytes before after given s → Came command bytes before after wanted s
  came_as command bytes (made o h c) = made o h (comes_as o c)
  came_as command bytes (no_memory e i) = no_memory e (idle_as i)

  pub obeyed_with : (command : Command) → Obeyed command before after given s → Obeyed command before after wanted s
  obeyed_with command (not_fetched part others both a n i) = not_fetched part others both a n (idle_as i)
  obeyed_with command (fetched bytes a h c) = fetched bytes a h (came_as command bytes c)

-- the command of the code is that of the definition
pub command_as : (before after : World) (same : Untouched) (s : Status) (command : Command) (given wanted : commands.Command) → given ≡ wanted → command_is wanted ≡ command
    → Obeyed command before after same s → Obeyed (command_is given) before after same s
command_as before after same s command given wanted e f o =
    subst (λ (c : Command). Obeyed c before after same s) (sym (ap command_is e ∙ f)) o

-- a command that fetches a file fetches something
pub fetches_one : (f : Fetch) (given wanted : commands.Command) → given ≡ wanted → fetches_of (command_is wanted) ≡ f ∷ [] → fetches_of (command_is given) ≡ [] → ⊥
fetches_one f given wanted e one none =
    let p : ◌≡◌ {A = List Fetch} (f ∷ []) [] = sym one ∙ sym (ap (λ c. fetches_of (command_is c)) e) ∙ none in
    cc
