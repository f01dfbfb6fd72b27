use Rattle.std.proofs.Common.{sym, ap, ◌∙◌}
use Rattle.ckc_blame.specs.Checked.{checked_item}
use Rattle.ckc_blame.proofs.Lists.{nothing_inside}
use Rattle.ckc_blame.proofs.checked.item_is_checked.Goals as goal

pub returns-in-Struct : goal.returns-in-Struct
returns-in-Struct c = sym (ap checked_item c.in-Struct.is ∙ nothing_inside c.in-Struct.field-1)
