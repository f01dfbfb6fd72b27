use Rattle.std.proofs.Common.{ap, sym, ◌∙◌}
use Rattle.std.specs.Prelude.{flat_map}
use Rattle.ckc_syntax_limits.specs.Marks.{marks_of_expr, marks_of_init}
use Rattle.ckc_syntax_limits.specs.code.Tally.{tallied}
use Rattle.ckc_syntax_limits.proofs.tally.init_tally.Goals as goal

pub returns-in-Many : goal.returns-in-Many
returns-in-Many g c =
    c.exprs_tally.ensures ∙ ap (λ es. tallied c.args.so_far (flat_map marks_of_expr es)) c.as_slice.ensures
    ∙ ap (λ i. tallied c.args.so_far (marks_of_init i)) (sym c.in-Many.is)
