use Rattle.std.proofs.Common.{Err}
use Rattle.ckc_base.specs.declared.fault.Fault.{Fault}
use Rattle.ckc_base.specs.declared.fault.Fault.TheVariants as fault
use Rattle.ckc_base.specs.Phases.{Answers}
use Rattle.ckc_asm.specs.Phase.{assembling, parts_in}
use Rattle.ckc_cli_commands.specs.code.Commands.{imaging}
use Rattle.std.specs.Prelude.{ℕ, List}
use Rattle.ckc_cli_commands.proofs.assembly.assemble.Goals as goal

-- the faults are those of reading
refused_as : (text : List ℕ) (e : Fault) → Answers assembling text (Err e) → Answers imaging text (Err e)
refused_as text (fault.Refused r) h = h
refused_as text fault.Memory h = tt

pub returns-in-Err : goal.returns-in-Err
returns-in-Err c = refused_as c.args.text.now c.in-Err.fault c.in-Err.ensures.exact.answers

pub returns : goal.returns
returns c = (parts_in c.in-Ok.parts, c.in-Ok.ensures.exact.answers, c.in-Ok-write.ensures)
