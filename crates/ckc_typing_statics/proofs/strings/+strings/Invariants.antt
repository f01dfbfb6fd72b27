use Rattle.std.proofs.Common.{◌≡◌, ◌++◌, map, drop}
use Rattle.ckc_syntax.specs.Inside.{listed, inside_each}
use Rattle.ckc_typed.specs.Statics.{strings_of_expr}
use Rattle.ckc_typing_statics.proofs.strings.+strings.Given as goal

-- with the strings of the expressions that are left, the strings so far are all of them
abbrev pub invariant-add_exprs-loop-e : goal.invariant-add_exprs-loop-e
invariant-add_exprs-loop-e l = l.initial.all ++ inside_each listed (λ x. x) (map strings_of_expr l.es) ≡ l.all ++ inside_each listed (λ x. x) (map strings_of_expr (drop l.e-index l.es))
