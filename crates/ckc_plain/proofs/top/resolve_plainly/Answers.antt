use Rattle.ckc_plain.proofs.Relimiting.{stops, names_end, effects_end, effects_go}
use Rattle.ckc_plain.proofs.top.resolve_plainly.Goals as goal

pub returns-in_err-named : goal.returns-in_err-named
returns-in_err-named c = record { exact = stops _ _ _ c.from_residual.ensures.1 (names_end c.args.tree _ c.in_err-named.ensures.exact) }

pub returns-in_err-made : goal.returns-in_err-made
returns-in_err-made c = record {
  exact = stops _ _ _ c.from_residual-in_err-made.ensures.1 (effects_end c.args.tree c.in_ok-named.named _ c.in_ok-named.ensures.exact c.in_err-made.ensures.exact);
}

pub returns : goal.returns
returns c = record { exact = effects_go c.args.tree c.in_ok-named.named c.in_ok-made.made c.limited.result c.in_ok-named.ensures.exact c.in_ok-made.ensures.exact c.limited.ensures.exact }
