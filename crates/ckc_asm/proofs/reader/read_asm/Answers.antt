use Rattle.ckc_base.specs.Phases.{viewed}
use Rattle.ckc_base.proofs.Phases.{exact_of}
use Rattle.ckc_asm.specs.Phase.{assembling, parts_in}
use Rattle.ckc_asm.proofs.Exactness.{assembling_exact}
use Rattle.ckc_asm.proofs.Judging.{answers_of}
use Rattle.ckc_asm.proofs.reader.read_asm.Goals as goal

pub returns : goal.returns
returns c = record {
  exact =
      exact_of assembling assembling_exact c.args.text.now (viewed parts_in c.read.result)
      (answers_of c.args.text.now c.read.result c.read.ensures.parts c.read.ensures.fault);
}
