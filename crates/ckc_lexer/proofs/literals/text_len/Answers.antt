use Rattle.std.proofs.Common.{List, ℕ, subst, arith}
use Rattle.std.proofs.lemmas.List.{take_rest}
use Rattle.ckc_syntax.specs.Longest.{Longest, NoFront}
use Rattle.ckc_syntax.specs.Literals.{IsPiece}
use Rattle.ckc_lexer.proofs.LiteralFronts.{quotation, scanned_none, scanned_more, scanned_literal, scanned_open}
use Rattle.ckc_lexer.proofs.literals.text_len.Goals as goal
use Rattle.ckc_lexer.proofs.literals.text_len.Goals.{else-len-text-via-then-len-text+else-text-len-eq34, else-len-text-via-else-len-text}

pub loop-piece-init : goal.loop-piece-init
loop-piece-init c = scanned_none 34 c.args.text.now c.requires.some

pub loop-piece-preserved : goal.loop-piece-preserved
loop-piece-preserved c =
    scanned_more quotation c.args.text.now c.loop-piece.len c.in-Some.piece.len c.in-Some.piece.value c.loop-piece.invariant
    (subst (λ (l : List ℕ). Longest (IsPiece 34) l c.in-Some.piece.len c.in-Some.piece.value) (take_rest c.args.text.now c.loop-piece.len) c.in-Some.ensures)

pub returns-then-text-len-eq34 : goal.returns-then-text-len-eq34
returns-then-text-len-eq34 c = scanned_literal quotation c.args.text.now c.requires.some c.loop-piece.len c.loop-piece.invariant c.requires.quote c.if-len-text.true c.if-text-len-eq34.true

pub returns-else-len-text : goal.returns-else-len-text
returns-else-len-text c =
    scanned_open quotation c.args.text.now c.requires.some c.loop-piece.len c.loop-piece.invariant
    (subst (λ (l : List ℕ). NoFront (IsPiece 34) l) (take_rest c.args.text.now c.loop-piece.len) c.in_default.ensures)
    (λ lt at. elim c.else-len-text.branch [
      | else-len-text-via-then-len-text+else-text-len-eq34 w ↦ w.if-text-len-eq34.false at
      | else-len-text-via-else-len-text w ↦ omega (arith, w.if-len-text.false, lt)
    ])
