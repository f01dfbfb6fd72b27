use Rattle.std.proofs.Common.{◌≡◌}
use Rattle.ckc_cli_sample.specs.Sample.{number_after}
use Rattle.ckc_cli_sample.proofs.Growing.{begun}
use Rattle.ckc_cli_sample.proofs.text.sample_of.Given as goal

abbrev pub invariant-loop-j : goal.invariant-loop-j
invariant-loop-j l = record {
  number : l.number ≡ number_after l.seed l.j;
  text : l.text.items ≡ begun l.seed l.j;
}
