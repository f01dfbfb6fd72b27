use Rattle.std.proofs.Common.{◌≡◌, ◌++◌, length, reverse}
use Rattle.ckc_parser_grammar.specs.code.Trees.{locals}
use Rattle.ckc_parser_values.proofs.makes.put_locals.Given as goal

abbrev pub invariant-decls : goal.invariant-decls
invariant-decls l = locals l.fn.decls ≡ reverse l.turned ++ locals l.rest

abbrev pub decreases-decls : goal.decreases-decls
decreases-decls l = length l.rest
