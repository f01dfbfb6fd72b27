use Rattle.std.proofs.Common.{sym, subst}
use Rattle.ckc_cli_commands.specs.declared.words.Keyword.{Keyword}
use Rattle.ckc_cli_commands.specs.Words.{Command, bytes_of}
use Rattle.ckc_cli_commands.specs.code.Commanded.{HasArguments}
use Rattle.ckc_cli_commands.proofs.Wording.{no_exec, no_interp, no_run, no_sample}
use Rattle.ckc_cli_commands.proofs.words.command_with.Goals as goal

pub returns-in-None-name_and_limit : goal.returns-in-None-name_and_limit
returns-in-None-name_and_limit c =
    let more = bytes_of c.args.more.now in
    subst (λ (k : Keyword). (command : Command) → HasArguments k more command → ⊥) (sym c.in-Exec.is) (no_exec more c.in-None-name_and_limit.ensures)

pub returns-in-None-name_and_limit-2 : goal.returns-in-None-name_and_limit-2
returns-in-None-name_and_limit-2 c =
    let more = bytes_of c.args.more.now in
    subst (λ (k : Keyword). (command : Command) → HasArguments k more command → ⊥) (sym c.in-Interp.is) (no_interp more c.in-None-name_and_limit-2.ensures)

pub returns-in-None-name_and_limit-3 : goal.returns-in-None-name_and_limit-3
returns-in-None-name_and_limit-3 c =
    let more = bytes_of c.args.more.now in
    subst (λ (k : Keyword). (command : Command) → HasArguments k more command → ⊥) (sym c.in-Run.is) (no_run more c.in-None-name_and_limit-3.ensures)

pub returns-in-None-seed_and_size : goal.returns-in-None-seed_and_size
returns-in-None-seed_and_size c =
    let more = bytes_of c.args.more.now in
    subst (λ (k : Keyword). (command : Command) → HasArguments k more command → ⊥) (sym c.in-Sample.is) (no_sample more c.in-None-seed_and_size.ensures)
