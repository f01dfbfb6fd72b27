use Rattle.std.proofs.Common.{map}
use Rattle.ckc_parser_stacks.proofs.Visiting.{Leads}
use Rattle.ckc_parser_stacks.proofs.copies.visited.Given as goal

abbrev pub invariant-loop : goal.invariant-loop
invariant-loop g l = Leads l.e (map (λ b. b.now) l.work) (map (λ b. b.now) l.all)
