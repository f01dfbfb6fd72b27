-- What tokens make, and for which first error they are refused, by the grammar of the language.
use Rattle.ckc_base.specs.Phases.{Phase}
use Rattle.ckc_syntax.specs.Spelled.{Tokens}
pub use Rattle.ckc_syntax.specs.Trees.{Tree as SpelledTree}
use Rattle.ckc_grammar.specs.Text.{DerivesTree, FirstFault}

-- The tree that the tokens derive; refused is the first place where they stop to begin a text.
abbrev pub parsing : Phase Tokens SpelledTree
parsing = record {
  Makes = λ tokens whole. DerivesTree tokens.list whole;
  Refuses = λ tokens refusal. FirstFault tokens.list tokens.end refusal;
}
