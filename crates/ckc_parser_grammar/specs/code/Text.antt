-- What the tokens of a whole text derive by the parser's table.
use Rattle.std.specs.Prelude.{List, [], ◌∷◌}
use Rattle.ckc_syntax.specs.Spelled.{Spelled}
use Rattle.ckc_parser_grammar.specs.declared.kind.Kind.TheVariants as kind
use Rattle.ckc_parser_grammar.specs.code.Grammar.{Part, n}
use Rattle.ckc_parser_grammar.specs.code.Grammar as g
use Rattle.ckc_parser_grammar.specs.code.Values.{Value}
use Rattle.ckc_parser_grammar.specs.code.Derives.{Derives}
use Rattle.ckc_parser_grammar.specs.code.Signs.{signs}

-- the part that a whole text is
abbrev pub start : Part
start = g.text

-- the tokens derive a value
abbrev pub DerivesValue : List Spelled → Value → Type 0
DerivesValue xs v = Derives (n start ∷ []) (signs xs) kind.End (v ∷ [])
