use Rattle.std.proofs.Common.{◌∙◌}
use Rattle.ckc_passes_jumps.proofs.blocks.left_of_block.Goals as goal

pub returns-clause-exact : goal.returns-clause-exact
returns-clause-exact c = λ functions regs over. record {
  ops = c.from_vec.ensures ∙ c.in_ok-ops.ensures ∙ c.as_slice.ensures;
  end = c.in_ok-end.ensures.exact regs over.1;
}
