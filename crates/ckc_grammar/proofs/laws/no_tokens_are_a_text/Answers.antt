use Rattle.std.proofs.Common.{[], inl, refl}
use Rattle.ckc_grammar.specs.Derivation as D
use Rattle.ckc_grammar.specs.Derivation.{result}
use Rattle.ckc_grammar.proofs.laws.no_tokens_are_a_text.Goals as goal

pub returns : goal.returns
unfolding result
returns c = (D.by (inl tt) [] [] (D.by (inl tt) [] [] D.nil D.nil refl) D.nil refl, refl)
