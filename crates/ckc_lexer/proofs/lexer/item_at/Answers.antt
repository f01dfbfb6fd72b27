use Rattle.std.proofs.Common.{sym}
use Rattle.ckc_lexer.specs.declared.bytes.Class.TheVariants.{Letter, Slash, Mark}
use Rattle.ckc_lexer.proofs.Classes.{by_class}
use Rattle.ckc_lexer.proofs.lexer.item_at.Goals as goal

pub returns-in-Letter : goal.returns-in-Letter
returns-in-Letter c = by_class c.args.context Letter c.args.text.now _ _ (sym c.in-Letter.ensures) c.word_at.ensures

pub returns-in-Slash : goal.returns-in-Slash
returns-in-Slash c = by_class c.args.context Slash c.args.text.now _ _ (sym c.in-Slash.ensures) c.slash_at.ensures

pub returns-in-Mark : goal.returns-in-Mark
returns-in-Mark c = by_class c.args.context Mark c.args.text.now _ _ (sym c.in-Mark.ensures) c.mark_at.ensures
