use Rattle.std.proofs.Common.{◌≤◌, ℕ, Option, MatchOption, List, [], ◌∷◌, length, take, sym, subst, arith}
use Rattle.std.proofs.lemmas.List.{take_rest}
use Rattle.ckc_syntax.specs.declared.literals.Piece.{Piece}
use Rattle.ckc_syntax.specs.Longest.{Longest, NoFront}
use Rattle.ckc_syntax.specs.Literals.{IsPiece, IsLiteral}
use Rattle.ckc_lexer.specs.code.LiteralReading.{IsOnlyLiteral}
use Rattle.ckc_lexer.proofs.LiteralFronts.{apostrophe, no_character, one_character, no_end}
use Rattle.ckc_lexer.proofs.literals.character_of.Goals as goal
use Rattle.ckc_lexer.proofs.literals.character_of.Goals.{else-end-text-via-then-end-text+else-text-end-eq39, else-end-text-via-else-end-text}

pub returns-in_err-piece : goal.returns-in_err-piece
returns-in_err-piece c =
    let t = c.args.text.now in
    subst (λ (r : Option Piece). MatchOption r ((m value : ℕ) → m ≤ length t → IsLiteral 39 (take m t) (value ∷ []) → ⊥) (λ p. IsOnlyLiteral 39 t p.len (p.value ∷ []))) (sym c.from_residual.ensures)
    (no_character apostrophe t c.requires.some (subst (λ (l : List ℕ). NoFront (IsPiece 39) l) (take_rest t 1) c.in_err-piece.ensures))

pub returns-then-text-end-eq39 : goal.returns-then-text-end-eq39
returns-then-text-end-eq39 c =
    let t = c.args.text.now in
    let p = c.in_ok-piece.piece in
    one_character apostrophe t c.requires.some p.len p.value c.requires.quote (subst (λ (l : List ℕ). Longest (IsPiece 39) l p.len p.value) (take_rest t 1) c.in_ok-piece.ensures) c.if-end-text.true c.if-text-end-eq39.true

pub returns-else-end-text : goal.returns-else-end-text
returns-else-end-text c =
    let t = c.args.text.now in
    let p = c.in_ok-piece.piece in
    no_end apostrophe t c.requires.some p.len p.value (subst (λ (l : List ℕ). Longest (IsPiece 39) l p.len p.value) (take_rest t 1) c.in_ok-piece.ensures)
    (λ lt at. elim c.else-end-text.branch [
      | else-end-text-via-then-end-text+else-text-end-eq39 w ↦ w.if-text-end-eq39.false at
      | else-end-text-via-else-end-text w ↦ omega (arith, w.if-end-text.false, lt)
    ])
