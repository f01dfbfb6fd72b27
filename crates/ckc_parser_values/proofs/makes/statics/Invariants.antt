use Rattle.std.proofs.Common.{◌≡◌, ◌++◌, length, reverse}
use Rattle.ckc_parser_grammar.specs.code.Trees.{statics}
use Rattle.ckc_parser_values.proofs.makes.statics.Given as goal

abbrev pub invariant-decls : goal.invariant-decls
invariant-decls l = statics l.fn.decls ≡ reverse l.turned ++ statics l.rest

abbrev pub decreases-decls : goal.decreases-decls
decreases-decls l = length l.rest
