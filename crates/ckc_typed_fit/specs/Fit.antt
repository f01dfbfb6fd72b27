-- What later phases may rely on in a text whose names are resolved.
use Rattle.std.specs.Prelude.{◌≡◌, true, All}
use Rattle.ckc_syntax.specs.declared.tree.NamedText.{NamedText}
use Rattle.ckc_syntax_limits.specs.Small.{Small}
use Rattle.ckc_typed_welltyped.specs.Productions.{given_tree}
use Rattle.ckc_typed_fit.specs.Numbers.{static_numbers, function_numbers, tag_numbers, CountsFrom, AreNumbered, CountsUp}
use Rattle.ckc_typed_fit.specs.Locals.{item_params, item_locals}
use Rattle.ckc_typed_fit.specs.Members.{item_members, AreDifferent}
use Rattle.ckc_typed_fit.specs.Visible.{NamesAreVisible, TagsHaveBodies}
use Rattle.ckc_typed_fit.specs.Bodies.{FunctionsHaveBodies, HasMain}

-- The tree is one that the grammar gives and keeps the limits of a text. Its locals, objects, functions, tags and members
-- are numbered: those of a function from 0 on, parameters first, the others in any order. Each name in it is declared and visible where it stands, each tag that a type names has a body, each
-- function has one body, with the head of its prototypes, and `main` is `int main(void)`.
pub record Fit (t : NamedText) : Type 0 where
  pub given : given_tree t.tree ≡ true
  pub small : Small t.tree
  pub params : All (λ i. CountsFrom 0 (item_params i)) t.tree.items
  pub locals : All (λ i. AreNumbered (item_locals i)) t.tree.items
  pub statics : CountsFrom 0 (static_numbers t.tree.items)
  pub functions : CountsUp 0 (function_numbers t.tree.items)
  pub tags : CountsUp 0 (tag_numbers t.tree.items)
  pub members : All (λ i. AreDifferent (item_members i)) t.tree.items
  pub names : NamesAreVisible t.tree.items
  pub tags_have_bodies : TagsHaveBodies t.tree.items
  pub functions_have_bodies : FunctionsHaveBodies t.tree.items
  pub main : HasMain t
