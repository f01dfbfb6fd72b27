-- What the phases from the tree of spellings to the plain tree make, step by step.
use Rattle.std.specs.Prelude.{◌≡◌, []}
use Rattle.ckc_syntax.specs.declared.tree.NamedText.{NamedText}
use Rattle.ckc_syntax.specs.Trees.{Tree}
use Rattle.ckc_syntax_limits.specs.Small.{Small}
use Rattle.ckc_resolve.specs.Phase.{naming}
use Rattle.ckc_plain.specs.ckc_plain_barred.specs.Barred.{barred}
use Rattle.ckc_plain.specs.ckc_plain_bodies.specs.Statements.{plain}

-- The names of a tree mean those of a resolved text, no effect in that stands where it may not, and the plain text is
-- what it becomes without effects, within the limits.
pub record IsResolved (spelled : Tree) (text : NamedText) : Type 0 where
  pub resolved : NamedText
  pub has_names : naming.Makes spelled resolved
  pub free : barred resolved.tree ≡ []
  pub tree : text.tree ≡ plain resolved.tree
  pub main : text.main ≡ resolved.main
  pub small : Small text.tree
