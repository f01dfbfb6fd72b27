use Rattle.std.proofs.Common.{sym, ◌∙◌}
use Rattle.ckc_build_values.proofs.Found.{has}
use Rattle.ckc_build_values.proofs.members.offset_of.Goals as goal

pub offset-requires : goal.offset-requires
offset-requires c = has c.args.structs.now c.args.tag c.args.k (sym c.has_member.ensures ∙ c.if-has_member.true)
