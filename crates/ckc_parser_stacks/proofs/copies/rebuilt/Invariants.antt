use Rattle.std.proofs.Common.{map, length}
use Rattle.ckc_parser_stacks.proofs.Visiting.{Makes}
use Rattle.ckc_parser_stacks.proofs.copies.rebuilt.Given as goal

abbrev pub invariant-rest : goal.invariant-rest
invariant-rest g l = Makes (map (λ b. b.now) l.fn.all) (map (λ b. b.now) l.rest) l.made

abbrev pub decreases-rest : goal.decreases-rest
decreases-rest g l = length l.rest
