use Rattle.std.proofs.Common.{sym, ◌∙◌, rules}
use denote.Enum.Bare.{differs_true, differs_false}
use Rattle.ckc_parser_grammar.specs.contracts.kind.Kind.{the_type}
use Rattle.ckc_syntax.specs.Spelled.{spelled}
use Rattle.ckc_parser_grammar.specs.code.Marked.{ahead}
use Rattle.ckc_parser_grammar.proofs.Steps.{missed_one, took_one}
use Rattle.ckc_parser_grammar.proofs.reader.Reader.take.Goals as goal

pub returns-then-ne-clause-parses : goal.returns-then-ne-clause-parses
returns-then-ne-clause-parses c =
    missed_one c.args.kind (ahead c.args.self.now) (λ e. differs_true the_type c.kind.result c.args.kind (sym c.ne.ensures ∙ c.if-ne.true) (c.kind.ensures ∙ e))

pub returns-in-Some-clause-parses : goal.returns-in-Some-clause-parses
returns-in-Some-clause-parses c =
    took_one c.args.kind (ahead c.args.self.now) (ahead c.next.new.self) (spelled c.in-Some.token)
    (sym c.kind.ensures ∙ differs_false the_type (search rules) c.kind.result c.args.kind (sym c.ne.ensures ∙ c.if-ne.false)) c.in-Some.ensures.taken
