-- What the resolved text has, and the plain text has too since it looks at no bodies of functions.
use Rattle.std.proofs.Common.{sym, refl, subst, List, [], ◌∷◌}
use Rattle.std.specs.Prelude.{All, Any}
use Rattle.std.proofs.lemmas.List.Elements.{All-nil, All-cons, All-head, All-tail}
use Rattle.ckc_syntax.specs.declared.tree.Item.TheVariants as item
use Rattle.ckc_syntax.specs.declared.tree.NamedText.{NamedText}
use Rattle.ckc_syntax.specs.Trees.{Tree, NamedItem}
use Rattle.ckc_syntax_limits.specs.Small.{Small}
use Rattle.ckc_plain.specs.Phase.{resolving}
use Rattle.ckc_typed_fit.specs.Numbers.{static_of, static_numbers, function_of, function_numbers, tag_of, tag_numbers, CountsFrom, CountsUp}
use Rattle.ckc_typed_fit.specs.Members.{item_members, AreDifferent}
use Rattle.ckc_typed_fit.specs.Bodies.{body_of, Defines, IsDefined, FunctionsHaveBodies, DefinesMain, HasMain}
use Rattle.ckc_typed_fit.proofs.Numbered as numbered
use Rattle.ckc_typed_fit.proofs.MembersDiffer as differ
use Rattle.ckc_typed_fit.proofs.BodiesKept as bodies
use Rattle.ckc_typed_plain.specs.Resolved.{IsResolved}
use Rattle.ckc_typed_plain.proofs.Items.{resolved_of, all_items, any_item, flat_items}

all_weaker : {X : Type 0} (P Q : X → Type 0) → ((x : X) → P x → Q x) → (xs : List X) → All P xs → All Q xs
all_weaker P Q f [] h = All-nil Q
all_weaker P Q f (x ∷ xs) h = All-cons Q x xs (f x (All-head P x xs h)) (all_weaker P Q f xs (All-tail P x xs h))

module _ (t : Tree) (n : NamedText) (m : resolving.Makes t n) where
  r : IsResolved t n
  r = resolved_of t n m

  pub statics_count : CountsFrom 0 (static_numbers n.tree.items)
  statics_count = subst (CountsFrom 0) (sym (flat_items t n r static_of (λ h b c. refl))) (numbered.statics_count t r.resolved r.has_names)

  pub functions_count : CountsUp 0 (function_numbers n.tree.items)
  functions_count = subst (CountsUp 0) (sym (flat_items t n r function_of (λ h b c. refl))) (numbered.functions_count t r.resolved r.has_names)

  pub tags_count : CountsUp 0 (tag_numbers n.tree.items)
  tags_count = subst (CountsUp 0) (sym (flat_items t n r tag_of (λ h b c. refl))) (numbered.tags_count t r.resolved r.has_names)

  pub members_differ : All (λ i. AreDifferent (item_members i)) n.tree.items
  members_differ = all_items t n r (λ i. AreDifferent (item_members i)) (λ h b c p. p) (differ.members_differ t r.resolved r.has_names)

  still_defined : (i : NamedItem) → IsDefined r.resolved.tree.items i → IsDefined n.tree.items i
  still_defined (item.Proto h) d = any_item t n r (Defines h) (λ g b c p. p) d
  still_defined (item.Directive d) k = k
  still_defined (item.Tag x at) k = k
  still_defined (item.Struct x members at) k = k
  still_defined (item.Static d) k = k
  still_defined (item.Function h body) k = k

  pub bodies_kept : FunctionsHaveBodies n.tree.items
  bodies_kept =
      let old = bodies.bodies_kept t r.resolved r.has_names in
      record {
        differ = subst AreDifferent (sym (flat_items t n r body_of (λ h b c. refl))) old.differ;
        defined = all_items t n r (IsDefined n.tree.items) (λ h b c p. p) (all_weaker (IsDefined r.resolved.tree.items) (IsDefined n.tree.items) still_defined r.resolved.tree.items old.defined);
      }

  pub main_kept : HasMain n
  main_kept =
      subst (λ k. Any (DefinesMain k) n.tree.items) (sym r.main) (any_item t n r (DefinesMain r.resolved.main) (λ h b c p. p) (bodies.main_kept t r.resolved r.has_names))

  pub small_kept : Small n.tree
  small_kept = r.small
