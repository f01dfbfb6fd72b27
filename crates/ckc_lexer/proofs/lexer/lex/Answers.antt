use Rattle.std.proofs.Common.{Err, arith, subst, sym}
use Rattle.ckc_base.specs.Phases.{Exact}
use Rattle.ckc_lexer.specs.Phase.{lexing}
use Rattle.ckc_lexer.proofs.Answer.{reading_exact, long_exact}
use Rattle.ckc_lexer.proofs.lexer.lex.Goals as goal

pub returns : goal.returns
returns c = record { exact = reading_exact c.args.text.now (omega arith) c.tokens_of.result c.tokens_of.ensures }

pub returns-then-text-gt-LONGEST_TEXT : goal.returns-then-text-gt-LONGEST_TEXT
returns-then-text-gt-LONGEST_TEXT c = record {
  exact = subst (λ e. Exact lexing c.args.text.now (Err e)) (sym c.refused.ensures) (long_exact c.args.text.now (omega arith));
}
