use Rattle.ckc_bounds_statements.proofs.CodedViews.{value_coded}
use Rattle.ckc_bounds_statements.proofs.CodedStores.{stores_coded}
use Rattle.ckc_bounds.proofs.CodedTexts.{codes_by}
use Rattle.ckc_bounds.proofs.laws.codes.Goals as goal

pub returns : goal.returns
returns c = record { codes = codes_by value_coded stores_coded }
