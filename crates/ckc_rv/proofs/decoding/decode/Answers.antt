-- The decoder of the definitions answers exactly when the table relates word and instruction.
use Rattle.ckc_rv.proofs.Rows.{decoded_law, decoded_none, decoded_fits}
use Rattle.ckc_rv.proofs.decoding.decode.Goals as goal

pub returns-clause-found : goal.returns-clause-found
returns-clause-found c = λ i. rw c.row_of.ensures (decoded_law c.args.word i)

pub returns-clause-none : goal.returns-clause-none
returns-clause-none c = rw c.row_of.ensures (decoded_none c.args.word)

pub returns-clause-fits : goal.returns-clause-fits
returns-clause-fits c = rw c.row_of.ensures (decoded_fits c.args.word)
