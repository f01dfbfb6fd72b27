-- The phase that takes effects out of expressions, and the phases from the tree of spellings to the plain tree.
use Rattle.std.specs.Prelude.{◌≡◌, List, [], ◌∷◌, Ok}
use Rattle.ckc_base.specs.declared.places.Pos.{Pos}
use Rattle.ckc_base.specs.Outcomes.{Outcome, bind, refused, phase_by}
use Rattle.ckc_base.specs.Phases.{Phase, ◌>=>◌}
use Rattle.ckc_syntax.specs.declared.tree.NamedText.{NamedText}
use Rattle.ckc_syntax.specs.Trees.{Tree as SpelledTree}
use Rattle.ckc_syntax_limits.specs.Phase.{limiting}
use Rattle.ckc_resolve.specs.Phase.{naming}
use Rattle.ckc_plain.specs.Codes.{misplaced_effect}
use Rattle.ckc_plain_barred.specs.Barred.{barred}
use Rattle.ckc_plain_bodies.specs.Statements.{plain}

-- refused at the first of the places, if there is one
abbrev pub unless_some : List Pos → Outcome (Unit {0})
unless_some [] = Ok tt
unless_some (pos ∷ rest) = refused misplaced_effect pos

-- The text without effects in its expressions; or E408 at the first effect that may not stand where it stands.
abbrev pub text_plain : NamedText → Outcome NamedText
text_plain text = bind (unless_some (barred text.tree)) (λ ok. Ok (record { tree = plain text.tree; main = text.main }))

-- the effects phase
abbrev pub plaining : Phase NamedText NamedText
plaining = phase_by text_plain

-- the limits on the tree of a text, which keeps its `main`
abbrev pub relimiting : Phase NamedText NamedText
relimiting = record {
  Makes = λ text same. limiting.Makes text.tree same.tree × (same.main ≡ text.main);
  Refuses = λ text refusal. limiting.Refuses text.tree refusal;
}

-- from a tree of spellings to the plain tree of what its names mean, within the limits
abbrev pub resolving : Phase SpelledTree NamedText
resolving = naming >=> (plaining >=> relimiting)
