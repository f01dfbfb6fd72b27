use Rattle.std.proofs.Common.{◌≡◌, ◌++◌, length}
use Rattle.ckc_parser_stacks.proofs.remade.take_all.Given as goal

abbrev pub invariant-loop : goal.invariant-loop
invariant-loop g l = (length l.all ≡ l.counter) × (l.initial.made ≡ l.all ++ l.made)
