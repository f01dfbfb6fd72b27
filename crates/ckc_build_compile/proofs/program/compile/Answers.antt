use Rattle.std.proofs.Common.{arith}
use Rattle.ckc_source.specs.Code.{program_of}
use Rattle.ckc_source.specs.Source.{source}
use Rattle.ckc_checks_operands.specs.Weights.{program_weight}
use Rattle.ckc_frame.specs.WellFormed.{program_size}
use Rattle.ckc_build_compile.specs.Compiled.{machine_parts, most_for_a_step}
use Rattle.ckc_build_compile.proofs.Layers.{machine_follows, code_fits, confines_stores, never_faults}
use Rattle.ckc_build_compile.proofs.program.compile.Goals as goal

pub placed-requires : goal.placed-requires
placed-requires c = record { form = c.requires.form; laid = c.requires.laid }

pub assembled-requires : goal.assembled-requires
assembled-requires c = record {
  whole = c.in_ok-q.ensures.whole;
  fits = code_fits (program_weight (program_of c.args.p.now)) (program_size c.in_ok-q.q) c.in_ok-q.ensures.size c.requires.small;
  initial = omega (arith, c.in_ok-q.ensures.initial);
}

pub returns : goal.returns
returns c = record {
  follows = machine_follows (source (program_of c.args.p.now)) c.in_ok-q.q (machine_parts c.in_ok-parts.parts)
      c.in_ok-q.ensures.follows c.in_ok-parts.ensures.follows;
  confined = confines_stores (program_of c.args.p.now) c.in_ok-q.q (machine_parts c.in_ok-parts.parts) c.in_ok-q.ensures.detail c.in_ok-parts.ensures.listed;
  faultless = never_faults (program_of c.args.p.now) (machine_parts c.in_ok-parts.parts) most_for_a_step
      (machine_follows (source (program_of c.args.p.now)) c.in_ok-q.q (machine_parts c.in_ok-parts.parts)
      c.in_ok-q.ensures.follows c.in_ok-parts.ensures.follows);
  size = omega (arith, c.in_ok-parts.ensures.size, c.in_ok-q.ensures.size);
}
