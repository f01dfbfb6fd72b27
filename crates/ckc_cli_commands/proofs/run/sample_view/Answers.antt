use Rattle.std.proofs.Common.{inl, inr, refl}
use Rattle.ckc_cli_commands.proofs.run.sample_view.Goals as goal

pub returns-in-Err-clause-tried : goal.returns-in-Err-clause-tried
returns-in-Err-clause-tried g c = λ parts entry code initial. inr (refl, refl)

pub returns-in-Ok-clause-tried : goal.returns-in-Ok-clause-tried
returns-in-Ok-clause-tried g c = λ parts entry code initial. inl (c.tell_sample.ensures.sampled parts (c.in-Ok.ensures.ran parts entry code initial))

pub returns-in-Ok-clause-reads : goal.returns-in-Ok-clause-reads
returns-in-Ok-clause-reads g c = c.tell_sample.ensures.reads c.in-Ok.ensures.unfailing.0

pub returns-in-Ok-clause-writes : goal.returns-in-Ok-clause-writes
returns-in-Ok-clause-writes g c = c.tell_sample.ensures.writes c.in-Ok.ensures.unfailing.1
