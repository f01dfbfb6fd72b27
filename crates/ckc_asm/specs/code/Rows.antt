-- Words and statements as the code keeps them, with bytes that lie in the text.
use Rattle.std.specs.Prelude.{List, ℕ, map}
use Rattle.std.specs.Option.{option_map}
use Rattle.ckc_asm.specs.declared.spots.Spot as spots
use Rattle.ckc_asm.specs.declared.statements.Row as rows
use Rattle.ckc_asm.specs.Cut.{Word}
use Rattle.ckc_asm.specs.Items.{Statement}

abbrev pub word_of : spots.Spot → Word
word_of s = record { col = s.col; text = s.text.now }

abbrev pub texts_of : List spots.Spot → List (List ℕ)
texts_of words = map (λ s. s.text.now) words

abbrev pub statement_in : rows.Row → Statement
statement_in r = record { label = option_map word_of r.label; item = r.item; operand = word_of r.operand }

abbrev pub statements_in : List rows.Row → List Statement
statements_in rs = map statement_in rs
