use Rattle.std.proofs.Common.{◌∙◌, ◌+◌, List, ◌++◌, ℕ, sym, ap, subst, arith, length-drop}
use Rattle.std.proofs.lemmas.List.{take_rest}
use Rattle.ckc_syntax.specs.Longest.{Longest, NoFront}
use Rattle.ckc_syntax.specs.Literals.{IsPiece}
use Rattle.ckc_syntax.specs.code.Decoded.{decoded, characters_behind}
use Rattle.ckc_syntax.proofs.Decoding.{no_spelling, empty_length, one_more, no_more, literal_decoded}
use Rattle.ckc_syntax.proofs.literals.string_bytes.Goals as goal

pub returns-then-is_empty-clause-value : goal.returns-then-is_empty-clause-value
returns-then-is_empty-clause-value c = c.new-bytes.ensures ∙ sym (no_spelling c.args.spelling.now (empty_length c.as_bytes-text.result.now c.args.spelling.now c.is_empty.result c.as_bytes-text.ensures.value c.is_empty.ensures c.if-is_empty.true))

pub returns-then-is_empty-clause-literal : goal.returns-then-is_empty-clause-literal
returns-then-is_empty-clause-literal c = λ values l. c.new-bytes.ensures ∙ sym (no_spelling c.args.spelling.now (empty_length c.as_bytes-text.result.now c.args.spelling.now c.is_empty.result c.as_bytes-text.ensures.value c.is_empty.ensures c.if-is_empty.true)) ∙ literal_decoded c.args.spelling.now values l

pub loop-piece-preserved : goal.loop-piece-preserved
loop-piece-preserved c =
    let i = c.loop-piece.invariant in
    let w = c.as_bytes-text.result.now in
    let l = subst (λ (l : List ℕ). Longest (IsPiece 34) l c.in-Some.piece.len c.in-Some.piece.value) (take_rest w c.loop-piece.at) c.in-Some.ensures in
    record {
      within = let size = length-drop c.loop-piece.at w in omega (arith, l.within, i.within);
      whole = ap (λ z. z ++ characters_behind 34 (c.loop-piece.at + c.in-Some.piece.len) w) c.in_ok-push.ensures.ok ∙ one_more w c.loop-piece.bytes c.loop-piece.at c.in-Some.piece.len c.in-Some.piece.value i.whole l;
      same = i.same;
    }

pub returns-clause-value : goal.returns-clause-value
returns-clause-value c =
    let i = c.loop-piece.invariant in
    let w = c.as_bytes-text.result.now in
    no_more w c.loop-piece.bytes c.loop-piece.at i.whole (subst (λ (l : List ℕ). NoFront (IsPiece 34) l) (take_rest w c.loop-piece.at) c.in_default.ensures) ∙ ap (λ (l : List ℕ). decoded l) i.same

pub returns-clause-literal : goal.returns-clause-literal
returns-clause-literal c = λ values l.
    let i = c.loop-piece.invariant in
    let w = c.as_bytes-text.result.now in
    no_more w c.loop-piece.bytes c.loop-piece.at i.whole (subst (λ (l : List ℕ). NoFront (IsPiece 34) l) (take_rest w c.loop-piece.at) c.in_default.ensures) ∙ ap (λ (l : List ℕ). decoded l) i.same ∙ literal_decoded c.args.spelling.now values l
