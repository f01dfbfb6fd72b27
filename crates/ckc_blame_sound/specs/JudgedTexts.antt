-- Texts that have been judged, by what each phase made of them.
use Rattle.std.specs.Prelude.{◌≡◌, true, false, Ok}
use Rattle.std.specs.List.{Contains}
use Rattle.ckc_base.specs.declared.arithmetic.Mode.{Mode}
use Rattle.ckc_syntax.specs.declared.tree.Item.TheVariants as item
use Rattle.ckc_syntax.specs.declared.tree.NamedText.{NamedText}
use Rattle.ckc_syntax.specs.Trees.{Tree}
use Rattle.ckc_plain.specs.Phase.{resolving}
use Rattle.ckc_typed.specs.declared.typed.Typed.{Typed}
use Rattle.ckc_typed.specs.declared.environment.Globals.{Globals}
use Rattle.ckc_typed.specs.Texts.{globals_of}
use Rattle.ckc_typed_welltyped.specs.Noteless.{without_notes}
use Rattle.ckc_typed_welltyped.specs.Productions.{spoken_tree}
use Rattle.ckc_typed_welltyped.specs.Texts.{TypedAs}
use Rattle.ckc_typed.specs.Environment.{variables_of}
use Rattle.ckc_typed.specs.Trees.{NotedHead, NotedStmt}
use Rattle.ckc_typed.specs.Types.{type_written}
use Rattle.ckc_typed_welltyped.specs.Statements.{WellTypedStmt}
use Rattle.ckc_bounds.specs.Phase.{bounding}
use Rattle.ckc_bounds.specs.Texts.{body_judged}
use Rattle.ckc_blame_sound.specs.Settings.{frame_of_text}

-- The names of a tree that the grammar gives were replaced by what they mean, and it was made plain; then it got its
-- types, and then its bounds were judged: that is the text p.
pub record IsJudged (p : Typed) : Type 0 where
  pub spelled : Tree
  pub named : NamedText
  pub typed : Typed
  pub has_form : spoken_tree spelled ≡ true
  pub has_names : resolving.Makes spelled named
  pub has_types : TypedAs named typed
  pub has_bounds : bounding.Makes typed p

-- what the whole text declares
abbrev pub globals_in : Typed → Globals
globals_in p = globals_of (without_notes p.tree).items

-- The body of a function of a text is what judging made of one in the typed text before, which is well typed among the
-- variables of the function.
pub record IsBodyJudged (globals : Globals) (typed : Typed) (h : NotedHead) (body : NotedStmt) : Type 0 where
  pub before : NotedStmt
  pub mode : Mode
  pub there : Contains typed.tree.items (item.Function h before)
  pub judged : body_judged (frame_of_text typed) h before ≡ Ok body
  pub fits : WellTypedStmt globals (variables_of body.note.mode h body) (type_written h.result) before mode false
