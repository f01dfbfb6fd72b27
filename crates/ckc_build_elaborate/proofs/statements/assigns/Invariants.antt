use Rattle.std.proofs.Common.{◌≡◌, ◌++◌, map, drop}
use Rattle.ckc_source.specs.Code.{assign_of}
use Rattle.ckc_build_elaborate.specs.Statements.{part_of, all_assigns}
use Rattle.ckc_build_elaborate.proofs.statements.assigns.Given as goal

abbrev pub invariant-loop-s : goal.invariant-loop-s
invariant-loop-s l =
    map assign_of l.all ++ all_assigns (map part_of (drop l.s-index l.ss)) l.typed l.locals l.next
    ≡ all_assigns (map part_of l.ss) l.typed l.locals l.first
