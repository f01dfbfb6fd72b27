use Rattle.std.proofs.Common.{rules}
use Rattle.ckc_types.specs.declared.types.CType.TheFolds.{the_lemmas}
use Rattle.ckc_bounds_known.proofs.ranges.lose.Goals as goal

pub returns : goal.returns
returns c = search (rules, the_lemmas)
