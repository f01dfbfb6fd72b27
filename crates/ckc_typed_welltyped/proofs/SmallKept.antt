-- A tree keeps the limits of a text if the tree without its notes does.
use Rattle.std.proofs.Common.{◌≤◌, List, [], ◌∷◌, map, subst}
use Rattle.std.specs.List.{AllByRecursion}
use Rattle.ckc_syntax.specs.declared.tree.Tree.{Tree}
use Rattle.ckc_syntax.specs.declared.tree.Item.{Item}
use Rattle.ckc_syntax.specs.declared.tree.Item.TheVariants as item
use Rattle.ckc_syntax_limits.specs.Marks.{is_node, is_text, is_function, is_static}
use Rattle.ckc_syntax_limits.specs.Small.{how_many, SmallFunction, SmallBody, SmallItem, Small}
use Rattle.ckc_typed_welltyped.specs.Noteless.{bare_item, without_notes}
use Rattle.ckc_typed_welltyped.proofs.MarksKept as marks
use Rattle.ckc_typed_welltyped.proofs.DepthKept as depth

module _ {N A : Type 0} where
  body_kept : (i : Item N A) → SmallBody (bare_item i) → SmallBody i
  body_kept (item.Directive d) s = tt
  body_kept (item.Tag n at) s = tt
  body_kept (item.Struct n members at) s = tt
  body_kept (item.Static d) s = tt
  body_kept (item.Proto h) s = tt
  body_kept (item.Function h body) s = subst SmallFunction (marks.of_item (item.Function h body)) s

  items_kept : (is : List (Item N A)) → AllByRecursion SmallItem (map bare_item is) → AllByRecursion SmallItem is
  items_kept [] s = tt
  items_kept (i ∷ is) s = (record { depth = subst (λ n. n ≤ 64) (depth.of_item i) s.0.depth; body = body_kept i s.0.body }, items_kept is s.1)

  pub small_kept : (t : Tree N A) → Small (without_notes t) → Small t
  small_kept t s = record {
    each = items_kept t.items s.each;
    nodes = subst (λ ms. how_many is_node ms ≤ 16384) (marks.of_tree t) s.nodes;
    functions = subst (λ ms. how_many is_function ms ≤ 512) (marks.of_tree t) s.functions;
    statics = subst (λ ms. how_many is_static ms ≤ 1024) (marks.of_tree t) s.statics;
    texts = subst (λ ms. how_many is_text ms ≤ 1024) (marks.of_tree t) s.texts;
  }
