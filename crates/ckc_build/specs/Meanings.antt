-- The phases that judge a text, the program that a text means, and which error of a text is its first.
use Rattle.std.specs.Prelude.{ℕ, List, Ok}
use Rattle.ckc_base.specs.declared.places.Refusal.{Refusal}
use Rattle.ckc_base.specs.Outcomes.{phase_by}
use Rattle.ckc_base.specs.Phases.{Phase, ◌>=>◌}
use Rattle.ckc_blame.specs.Checked.{WhollyChecked}
use Rattle.ckc_syntax_limits.specs.Phase.{limiting}
use Rattle.ckc_lexer.specs.Phase.{lexing}
use Rattle.ckc_parser.specs.Phase.{SpelledTree, parsing}
use Rattle.ckc_plain.specs.Phase.{resolving}
use Rattle.ckc_source.specs.Code.{Program}
use Rattle.ckc_typed.specs.declared.typed.Typed.{Typed}
use Rattle.ckc_typing.specs.Phase.{typing}
use Rattle.ckc_scopes.specs.Phase.{scoping}
use Rattle.ckc_bounds.specs.Phase.{bounding}
use Rattle.ckc_build_elaborate.specs.Elaborated.{elaborated}

-- the tree of a text
abbrev pub reading : Phase (List ℕ) SpelledTree
reading = lexing >=> parsing

-- the phases that judge a tree, in their order
abbrev pub judging_tree : Phase SpelledTree Typed
judging_tree = limiting >=> resolving >=> typing >=> scoping >=> bounding

-- a text with its types and the ranges of its pointers
abbrev pub judging : Phase (List ℕ) Typed
judging = reading >=> judging_tree

-- What a typed text means; none is refused.
abbrev pub elaborating : Phase Typed Program
elaborating = phase_by (λ typed. Ok (elaborated typed))

-- a text is judged, and then means a program
abbrev pub meanings : Phase (List ℕ) Program
meanings = judging >=> elaborating

-- The text keeps all rules, and means this program.
abbrev pub HasMeaning : List ℕ → Program → Type 0
HasMeaning text p = meanings.Makes text p

-- the first error of a text
abbrev pub FirstFault : List ℕ → Refusal → Type 0
FirstFault text refusal = meanings.Refuses text refusal

-- The text keeps all rules, and no statement of it has mode Unchecked.
abbrev pub IsWhollyChecked : List ℕ → Type 0
IsWhollyChecked text = (p : Typed) × judging.Makes text p × WhollyChecked p
