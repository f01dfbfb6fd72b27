use Rattle.std.proofs.Common.{rules, sym}
use Rattle.ckc_build_values.proofs.Bounded.{no_limits}
use Rattle.ckc_build_values.proofs.texts.Text.limits_declared.Goals as goal

pub returns-else-self : goal.returns-else-self
returns-else-self c = sym (no_limits c.args.self.now c.args.n (search rules))
