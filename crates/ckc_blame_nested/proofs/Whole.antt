-- So it is in the tree that tokens derive, and in a text once its names and types are known.
use Rattle.std.proofs.Common.{◌≡◌, true, sym, ap, ◌∙◌, List}
use Rattle.std.specs.List.{list_all}
use Rattle.ckc_syntax.specs.Spelled.{Spelled}
use Rattle.ckc_syntax.specs.declared.tree.Name.{Name}
use Rattle.ckc_syntax.specs.declared.tree.NamedText.{NamedText}
use Rattle.ckc_syntax.specs.Trees.{Tree, NamedTree}
use Rattle.ckc_grammar.specs.Text.{DerivesTree}
use Rattle.ckc_plain.specs.Phase.{resolving}
use Rattle.ckc_typed.specs.declared.typed.Note.{Note}
use Rattle.ckc_typed.specs.declared.typed.Typed.{Typed}
use Rattle.ckc_typed_plain.proofs.Given.{plain_given}
use Rattle.ckc_typed_wellformed.proofs.Derived.{tree_given}
use Rattle.ckc_typed_welltyped.specs.Productions.{with_calls, without_calls, spoken_tree}
use Rattle.ckc_typed_welltyped.specs.Texts.{TypedAs}
use Rattle.ckc_blame_nested.specs.Nested.{AreNested}
use Rattle.ckc_blame_nested.proofs.Items.{is_nested, nested_all}
use Rattle.ckc_blame_nested.proofs.Given.{items_agree}
use Rattle.ckc_blame_nested.proofs.Noteless.{items_kept}

pub derived_nested : (xs : List Spelled) (whole : Tree) → DerivesTree xs whole → AreNested whole.items
derived_nested xs whole d = nested_all whole.items (items_agree with_calls whole.items (tree_given xs whole d))

pub typed_nested : (whole : Tree) (named : NamedText) (typed : Typed) → spoken_tree whole ≡ true → resolving.Makes whole named → TypedAs named typed → AreNested typed.tree.items
typed_nested whole named typed form resolved is =
    nested_all typed.tree.items (sym (items_kept Name Note typed.tree.items) ∙ ap (λ (t : NamedTree). list_all is_nested t.items) is.tree
    ∙ items_agree without_calls named.tree.items (plain_given whole named form resolved))
