-- Tokens have one tree or one first fault: never two, never both, and always one of them.
use Rattle.std.proofs.Common.{◌≡◌, List, ◌⊎◌, inl, inr, refl, sym, ◌∙◌}
use Rattle.ckc_base.specs.declared.places.Pos.{Pos}
use Rattle.ckc_base.specs.declared.places.Refusal.{Refusal}
use Rattle.ckc_base.specs.Phases.{IsExact}
use Rattle.ckc_syntax.specs.Spelled.{Spelled, Tokens}
use Rattle.ckc_grammar.specs.Trees.{Tree}
use Rattle.ckc_grammar.specs.Derivation.{value}
use Rattle.ckc_grammar.specs.Text.{DerivesText, IsFault, FirstFault, syntax_error}
use Rattle.ckc_parser.specs.Phase.{parsing}
use Rattle.ckc_parser.proofs.Answering as answering
use Rattle.ckc_parser.proofs.Decided.{decided}

fault_is : (a b : Refusal) → a.code ≡ b.code → a.pos ≡ b.pos → a ≡ b
fault_is a b e h = λ i. record { code = e i; pos = h i }

fault_once : (xs : List Spelled) (end : Pos) (a b : Refusal) → FirstFault xs end a → FirstFault xs end b → a ≡ b
fault_once xs end a b f g = fault_is a b (f.0 ∙ sym g.0) (answering.one_fault xs end a.pos b.pos f.1 g.1)

-- a text makes its tree, and a fault is refused
made_or_refused : (tokens : Tokens) → DerivesText tokens.list ⊎ ((pos : Pos) × IsFault tokens.list tokens.end pos) →
    ((whole : Tree) × parsing.Makes tokens whole) ⊎ ((r : Refusal) × parsing.Refuses tokens r)
made_or_refused tokens (inl d) = inl (value d, (d, refl))
made_or_refused tokens (inr (pos, f)) = inr (record { code = syntax_error; pos = pos }, (refl, f))

pub parsing_exact : IsExact parsing
parsing_exact = record {
  made_once = λ tokens a b. answering.one_tree tokens.list a b;
  refused_once = λ tokens r other. fault_once tokens.list tokens.end r other;
  never_both = λ tokens a r d f. answering.text_or_fault tokens.list tokens.end r.pos d.0 f.1;
  one_of_both = λ tokens. made_or_refused tokens (decided tokens.list tokens.end);
}
