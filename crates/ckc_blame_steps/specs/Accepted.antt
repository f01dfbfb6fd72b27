-- Texts that all phases accept.
use Rattle.std.specs.Prelude.{ℕ, List}
use Rattle.ckc_base.specs.Phases.{◌>=>◌}
use Rattle.ckc_syntax.specs.Spelled.{Tokens}
use Rattle.ckc_syntax.specs.declared.tree.NamedText.{NamedText}
use Rattle.ckc_syntax_limits.specs.Small.{Small}
use Rattle.ckc_lexer.specs.Phase.{lexing}
use Rattle.ckc_parser.specs.Phase.{SpelledTree, parsing}
use Rattle.ckc_plain.specs.Phase.{resolving}
use Rattle.ckc_scopes.specs.Phase.{scoping}
use Rattle.ckc_blame_sound.specs.ckc_bounds.specs.Phase.{bounding}
use Rattle.ckc_typed.specs.declared.typed.Typed.{Typed}
use Rattle.ckc_typed_welltyped.specs.Texts.{TypedAs}

-- The phases accept a text and make p of it: it is cut into tokens, these give a tree that keeps the limits of a text, its
-- names are replaced by what they mean, it gets its types, and its scopes and its bounds are judged.
pub record IsAccepted (text : List ℕ) (p : Typed) : Type 0 where
  pub tokens : Tokens
  pub spelled : SpelledTree
  pub named : NamedText
  pub typed : Typed
  pub has_tokens : lexing.Makes text tokens
  pub has_tree : parsing.Makes tokens spelled
  pub small : Small spelled
  pub has_names : resolving.Makes spelled named
  pub has_types : TypedAs named typed
  pub has_bounds : (scoping >=> bounding).Makes typed p
