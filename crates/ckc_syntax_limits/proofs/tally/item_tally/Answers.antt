use Rattle.std.proofs.Common.{ap, sym, ◌∙◌}
use Rattle.std.specs.Prelude.{flat_map}
use Rattle.ckc_syntax_limits.specs.Marks.{marks_of_decl, marks_of_item}
use Rattle.ckc_syntax_limits.specs.code.Tally.{tallied}
use Rattle.ckc_syntax_limits.proofs.tally.item_tally.Goals as goal

pub returns-in-Struct : goal.returns-in-Struct
returns-in-Struct g c =
    c.members_tally.ensures ∙ ap (λ ds. tallied c.args.so_far (flat_map marks_of_decl ds)) c.as_slice.ensures
    ∙ ap (λ i. tallied c.args.so_far (marks_of_item i)) (sym c.in-Struct.is)
