-- A plain tree holds calls as whole right sides and call statements alone, if it is made of a tree that the grammar gives.
use Rattle.std.proofs.Common.{◌≡◌, ◌∙◌, ap, refl, true, false, nat_le, List, [], ◌∷◌, map, length}
use Rattle.std.specs.List.{list_all}
use Rattle.ckc_syntax.specs.Inside.{listed, all_have, inside_each}
use Rattle.ckc_syntax.specs.declared.tree.Init.TheVariants as init
use Rattle.ckc_syntax.specs.declared.tree.Item.TheVariants as item
use Rattle.ckc_syntax.specs.declared.tree.NamedText.{NamedText}
use Rattle.ckc_syntax.specs.Trees.{Tree, NamedTree, NamedItem, NamedHead, NamedDecl, NamedInit, NamedExpr}
use Rattle.ckc_plain.specs.ckc_plain_barred.specs.declared.integers.Integers.{Integers}
use Rattle.ckc_plain.specs.ckc_plain_barred.specs.Integers.{known_of, known_in}
use Rattle.ckc_plain.specs.ckc_plain_barred.specs.Effects.{in_expr, in_exprs, in_bounds}
use Rattle.ckc_plain.specs.ckc_plain_barred.specs.Barred.{in_static_init, in_decl, in_head, in_item, in_stmt}
use Rattle.ckc_plain.specs.ckc_plain_bodies.specs.Statements.{item_plain}
use Rattle.ckc_plain.specs.Phase.{resolving}
use Rattle.ckc_typed_fit.proofs.FormKept.{form_kept}
use Rattle.ckc_typed_welltyped.specs.Productions.{callless_init, callless_expr, expr_form, placed_bounds, placed_init, placed_decl, placed_stmt, placed_body, placed_head, placed_item, with_calls, spoken_tree, given_decl, given_head, given_item, given_tree}
use Rattle.ckc_typed_plain.proofs.Items.{resolved_of}
use Rattle.ckc_typed_plain.proofs.GivenLevels.{both, parts_of, empty_parts}
use Rattle.ckc_typed_plain.proofs.GivenStmts.{bounds_callless, expr_callless as callless_where_barred, body_given}

module _ (known : Integers) where
  exprs_given : (es : List NamedExpr) → inside_each all_have (λ (e : NamedExpr). (expr_form e).inner) es ≡ true → in_exprs known es true ≡ [] → inside_each all_have callless_expr es ≡ true
  exprs_given [] f none = refl
  exprs_given (e ∷ es) f none =
      let fs = parts_of (expr_form e).inner (inside_each all_have (λ (x : NamedExpr). (expr_form x).inner) es) f in
      let ns = empty_parts (in_expr known e true) (in_exprs known es true) none in
      both _ _ (callless_where_barred known e fs.0 ns.0) (exprs_given es fs.1 ns.1)

  init_given : (i : NamedInit) → placed_init with_calls i ≡ true → in_static_init known i ≡ [] → callless_init i ≡ true
  init_given init.Nothing f none = refl
  init_given (init.One e) f none = callless_where_barred known e f none
  init_given (init.Many es) f none = exprs_given es f none

  decl_given : (d : NamedDecl) → placed_decl with_calls d ≡ true → in_decl known d ≡ [] → given_decl d ≡ true
  decl_given d f none =
      let fs = parts_of (placed_bounds with_calls d.bounds) (placed_init with_calls d.init) f in
      let ns = empty_parts (in_bounds known d.bounds) (in_static_init known d.init) none in
      both _ _ (bounds_callless known d.bounds fs.0 ns.0) (init_given d.init fs.1 ns.1)

  decls_given : (ds : List NamedDecl) → list_all (placed_decl with_calls) ds ≡ true → inside_each listed (in_decl known) ds ≡ [] → list_all given_decl ds ≡ true
  decls_given [] f none = refl
  decls_given (d ∷ ds) f none =
      let fs = parts_of (placed_decl with_calls d) (list_all (placed_decl with_calls) ds) f in
      let ns = empty_parts (in_decl known d) (inside_each listed (in_decl known) ds) none in
      both _ _ (decl_given d fs.0 ns.0) (decls_given ds fs.1 ns.1)

  head_given : (h : NamedHead) → placed_head with_calls h ≡ true → in_head known h ≡ [] → given_head h ≡ true
  head_given h f none =
      let fs = parts_of (list_all (placed_decl with_calls) h.params) (placed_bounds with_calls h.bounds) f in
      let ns = empty_parts (inside_each listed (in_decl known) h.params) (in_bounds known h.bounds) none in
      both _ _ (decls_given h.params fs.0 ns.0) (bounds_callless known h.bounds fs.1 ns.1)

  item_given : (i : NamedItem) → placed_item with_calls i ≡ true → in_item known i ≡ [] → given_item (item_plain known i) ≡ true
  item_given (item.Directive d) f none = refl
  item_given (item.Tag n at) f none = refl
  item_given (item.Struct n members at) f none =
      let fs = parts_of (nat_le 1 (length members)) (list_all (placed_decl with_calls) members) f in
      both _ _ fs.0 (decls_given members fs.1 none)
  item_given (item.Static d) f none = decl_given d f none
  item_given (item.Proto g) f none = head_given g f none
  item_given (item.Function g body) f none =
      let fs = parts_of (placed_head with_calls g) (placed_body with_calls body) f in
      let bs = parts_of (placed_stmt with_calls body).fine (placed_stmt with_calls body).nested fs.1 in
      let ns = empty_parts (in_head known g) (in_stmt (known_in known g body) body false) none in
      let b = body_given (known_in known g body) body (length (known_in known g body).locals) bs.0 bs.1 ns.1 in
      both _ _ (head_given g fs.0 ns.0) (both _ _ b.0 b.1)

  items_given : (is : List NamedItem) → list_all (placed_item with_calls) is ≡ true → inside_each listed (in_item known) is ≡ [] → list_all given_item (map (item_plain known) is) ≡ true
  items_given [] f none = refl
  items_given (i ∷ is) f none =
      let fs = parts_of (placed_item with_calls i) (list_all (placed_item with_calls) is) f in
      let ns = empty_parts (in_item known i) (inside_each listed (in_item known) is) none in
      both _ _ (item_given i fs.0 ns.0) (items_given is fs.1 ns.1)

pub plain_given : (t : Tree) (n : NamedText) → spoken_tree t ≡ true → resolving.Makes t n → given_tree n.tree ≡ true
plain_given t n form m =
    let r = resolved_of t n m in
    ap (λ (x : NamedTree). given_tree x) r.tree
    ∙ items_given (known_of r.resolved.tree) r.resolved.tree.items (form_kept t r.resolved r.has_names ∙ form) r.free
