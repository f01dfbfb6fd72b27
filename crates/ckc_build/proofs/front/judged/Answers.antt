use Rattle.std.proofs.Common.{Err, subst, ◌∙◌}
use Rattle.ckc_base.specs.Phases.{Exact}
use Rattle.ckc_lexer.specs.Phase.{tokens_in}
use Rattle.ckc_parser.specs.Phase.{parsing}
use Rattle.ckc_build.proofs.Chain.{stops, tokens_same, judge_lex_ends, judge_parse_ends, read_by, fits_ends, fits_goes, resolving_ends, typing_ends, typing_goes, scoping_ends, scoping_goes}
use Rattle.ckc_build.proofs.front.judged.Goals as goal

pub returns-in_err-lex : goal.returns-in_err-lex
returns-in_err-lex c = record { exact = stops _ _ _ c.from_residual.ensures.1 (judge_lex_ends c.args.text.now _ c.in_err-lex.ensures.exact) }

pub returns-in_err-tree : goal.returns-in_err-tree
returns-in_err-tree c =
    let text = c.args.text.now in
    let tokens = tokens_in text c.in_ok-lex.field-0 in
    let same = tokens_same text c.in_ok-lex.field-0 c.leak-tokens.result.now c.end_of.result (c.leak-tokens.ensures.value ∙ c.into_vec.ensures) c.end_of.ensures in
    let e = c.in_err-tree.field-0.0 in
    let ends = subst (λ t. Exact parsing t (Err e)) same c.in_err-tree.ensures.exact in
    record { exact = stops _ _ _ c.from_residual-in_err-tree.ensures.1 (judge_parse_ends text tokens c.in_ok-lex.ensures.exact e ends) }

pub returns-in_err-small : goal.returns-in_err-small
returns-in_err-small c = record {
  exact = stops _ _ _ c.from_residual-in_err-small.ensures.1
      (read_by c.args.text.now _ _ _ (c.leak-tokens.ensures.value ∙ c.into_vec.ensures) c.end_of.ensures c.in_ok-lex.ensures.exact c.in_ok-tree.tree c.in_ok-tree.ensures.exact _
      (fits_ends c.in_ok-tree.tree _ c.in_err-small.ensures.exact));
}

pub returns-in_err-named : goal.returns-in_err-named
returns-in_err-named c = record {
  exact = stops _ _ _ c.from_residual-in_err-named.ensures.1
      (read_by c.args.text.now _ _ _ (c.leak-tokens.ensures.value ∙ c.into_vec.ensures) c.end_of.ensures c.in_ok-lex.ensures.exact c.in_ok-tree.tree c.in_ok-tree.ensures.exact _
      (fits_goes c.in_ok-tree.tree c.in_ok-small.small c.in_ok-small.ensures.exact _ (resolving_ends c.in_ok-small.small _ c.in_err-named.ensures.exact)));
}

pub returns-in_err-typed : goal.returns-in_err-typed
returns-in_err-typed c = record {
  exact = stops _ _ _ c.from_residual-in_err-typed.ensures.1
      (read_by c.args.text.now _ _ _ (c.leak-tokens.ensures.value ∙ c.into_vec.ensures) c.end_of.ensures c.in_ok-lex.ensures.exact c.in_ok-tree.tree c.in_ok-tree.ensures.exact _
      (fits_goes c.in_ok-tree.tree c.in_ok-small.small c.in_ok-small.ensures.exact _ (typing_ends c.in_ok-small.small c.in_ok-named.named c.in_ok-named.ensures.exact _ c.in_err-typed.ensures.exact)));
}

pub returns-in_err-scoped : goal.returns-in_err-scoped
returns-in_err-scoped c = record {
  exact = stops _ _ _ c.from_residual-in_err-scoped.ensures.1
      (read_by c.args.text.now _ _ _ (c.leak-tokens.ensures.value ∙ c.into_vec.ensures) c.end_of.ensures c.in_ok-lex.ensures.exact c.in_ok-tree.tree c.in_ok-tree.ensures.exact _
      (fits_goes c.in_ok-tree.tree c.in_ok-small.small c.in_ok-small.ensures.exact _
      (typing_goes c.in_ok-small.small c.in_ok-named.named c.in_ok-named.ensures.exact c.in_ok-typed.typed c.in_ok-typed.ensures.exact _
      (scoping_ends c.in_ok-typed.typed _ c.in_err-scoped.ensures.exact))));
}

pub returns : goal.returns
returns c = record {
  exact = read_by c.args.text.now _ _ _ (c.leak-tokens.ensures.value ∙ c.into_vec.ensures) c.end_of.ensures c.in_ok-lex.ensures.exact c.in_ok-tree.tree c.in_ok-tree.ensures.exact c.bounds.result
      (fits_goes c.in_ok-tree.tree c.in_ok-small.small c.in_ok-small.ensures.exact c.bounds.result
      (typing_goes c.in_ok-small.small c.in_ok-named.named c.in_ok-named.ensures.exact c.in_ok-typed.typed c.in_ok-typed.ensures.exact c.bounds.result
      (scoping_goes c.in_ok-typed.typed c.in_ok-scoped.scoped c.in_ok-scoped.ensures.exact c.bounds.result c.bounds.ensures.exact)));
}
