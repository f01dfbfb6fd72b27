use Rattle.std.proofs.Common.{◌∙◌, sym}
use Rattle.ckc_passes_copies.specs.code.Tables.{writes_in}
use Rattle.ckc_passes_copies.proofs.Following.{origin_onward, origin_itself}
use Rattle.ckc_passes_copies.proofs.origins.origin.Goals as goal

pub chain-preserved : goal.chain-preserved
chain-preserved c = origin_onward (writes_in c.args.table.now) c.chain.q c.in-Some.s (sym c.in-Some.ensures) ∙ c.chain.invariant

pub returns : goal.returns
returns c = sym (origin_itself (writes_in c.args.table.now) c.chain.q (sym c.in_default.ensures)) ∙ c.chain.invariant
