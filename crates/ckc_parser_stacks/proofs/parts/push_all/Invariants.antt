use Rattle.std.proofs.Common.{◌≡◌, ◌≤◌, ◌++◌, length, map, drop}
use Rattle.ckc_parser_stacks.proofs.parts.push_all.Given as goal

-- the last ones are there
abbrev pub invariant-all : goal.invariant-all
invariant-all g l = (l.left ≤ length l.all) × (map (λ b. b.now) l.work ≡ drop l.left l.all ++ map (λ b. b.now) l.initial.work)

abbrev pub decreases-all : goal.decreases-all
decreases-all g l = l.left
