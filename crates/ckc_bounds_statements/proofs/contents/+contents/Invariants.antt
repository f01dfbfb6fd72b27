use Rattle.std.proofs.Common.{◌≡◌, ◌++◌, map, drop}
use Rattle.std.specs.Prelude.{◌||◌}
use Rattle.ckc_bounds_statements.specs.code.Parts.{all_assigned, some_break, some_continue}
use Rattle.ckc_bounds_statements.specs.Paths.{path}
use Rattle.ckc_bounds_statements.proofs.contents.+contents.Given as goal

abbrev pub invariant-add_stmts-loop-s : goal.invariant-add_stmts-loop-s
invariant-add_stmts-loop-s l = record {
  assigned : l.fn.all.assigned ++ all_assigned (map path l.ss) ≡ l.all.assigned ++ all_assigned (map path (drop l.s-index l.ss));
  breaks : (l.fn.all.breaks || some_break (map path l.ss)) ≡ (l.all.breaks || some_break (map path (drop l.s-index l.ss)));
  continues : (l.fn.all.continues || some_continue (map path l.ss)) ≡ (l.all.continues || some_continue (map path (drop l.s-index l.ss)));
}
