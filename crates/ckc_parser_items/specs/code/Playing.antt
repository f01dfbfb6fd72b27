-- One event of a trace, from its end.
use Rattle.std.specs.Prelude.{◌≡◌, ℕ, ◌+◌, ◌<◌, List, [], ◌∷◌, length, get_or}
use Rattle.ckc_syntax.specs.Spelled.{Spelled}
use Rattle.ckc_parser_grammar.specs.code.Trace.{Event, taken, opened}
use Rattle.ckc_parser_grammar.specs.code.Values.{no_token}
use Rattle.ckc_parser_values.specs.declared.held.Held.{Held}
pub use Rattle.ckc_parser_values.specs.code.Acts.{nothing}
use Rattle.ckc_parser_values.specs.code.Programs.{run, program}

-- the last token that is left is put on the stack
abbrev pub Takes : List Spelled → ℕ → Held → ℕ → Held → Type 0
Takes xs left h after w = (left ≡ after + 1) × (after < length xs) × (w ≡ record h { tokens = get_or xs after no_token ∷ h.tokens })

-- an event, and how many tokens are left after it
abbrev pub Plays : Event → List Spelled → ℕ → Held → ℕ → Held → Type 0
Plays taken xs left h after w = Takes xs left h after w
Plays (opened r) xs left h after w = (after ≡ left) × (w ≡ run (program r) h)
