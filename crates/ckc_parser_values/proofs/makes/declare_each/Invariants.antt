use Rattle.std.proofs.Common.{◌≡◌, ◌++◌, length, reverse}
use Rattle.ckc_parser_values.specs.code.Acts.{declare_each}
use Rattle.ckc_parser_values.proofs.makes.declare_each.Given as goal

abbrev pub invariant-slots : goal.invariant-slots
invariant-slots l = declare_each l.fn.base l.fn.slots ≡ reverse l.turned ++ declare_each l.fn.base l.rest

abbrev pub decreases-slots : goal.decreases-slots
decreases-slots l = length l.rest
