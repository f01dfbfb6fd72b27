use Rattle.std.proofs.Common.{arith}
use Rattle.ckc_build_compile.specs.Compiled.{machine_parts}
use Rattle.ckc_build_compile.proofs.program.assembled.Goals as goal

pub emit-requires : goal.emit-requires
emit-requires c = record { whole = c.requires.whole; fits = c.requires.fits; initial = c.requires.initial }

pub assemble-requires : goal.assemble-requires
assemble-requires c = c.in_ok-l.ensures.can

pub returns : goal.returns
returns c = record {
  follows = c.in_ok-l.ensures.follows (machine_parts c.in_ok-parts.parts) c.in_ok-parts.ensures;
  listed = c.in_ok-l.ensures.listed (machine_parts c.in_ok-parts.parts) c.in_ok-parts.ensures;
  size = omega (arith, c.in_ok-parts.ensures.whole, c.in_ok-l.ensures.size);
}
