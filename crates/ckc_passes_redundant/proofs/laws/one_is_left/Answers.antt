use Rattle.std.proofs.Common.{sym, ◌∙◌}
use Rattle.ckc_passes.proofs.Once.{IsDetermined, program_once}
use Rattle.ckc_passes_redundant.specs.Redundant.{redundant_pass}
use Rattle.ckc_passes_redundant.proofs.laws.one_is_left.Goals as goal

determined : IsDetermined redundant_pass
determined = record {
  one_op = λ blocks done ops end op low other k l. k.0 ∙ sym l.0;
  one_end = λ blocks done end low other e f. e ∙ sym f;
  apart = λ blocks done ops end op low k drops. k.1 drops;
}

pub returns : goal.returns
returns c = λ t a b is too. program_once redundant_pass determined t a b is too
