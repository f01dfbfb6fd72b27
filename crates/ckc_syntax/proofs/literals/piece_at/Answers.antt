use Rattle.ckc_syntax.specs.Literals.{IsEscape, IsPiece, escape}
use Rattle.ckc_syntax.proofs.EscapeFronts.{only_escape, same_answer}
use Rattle.ckc_syntax.proofs.literals.piece_at.Goals as goal

pub returns-then-text-eq92 : goal.returns-then-text-eq92
returns-then-text-eq92 c =
    same_answer IsEscape (IsPiece c.args.quote) c.args.text.now c.escape_at.result
    (λ m u some le e. escape e)
    (λ m u some le p. only_escape c.args.text.now m le c.args.quote u some c.if-text-eq92.true p)
    c.escape_at.ensures
