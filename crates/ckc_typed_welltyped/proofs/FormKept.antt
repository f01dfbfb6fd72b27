-- The grammar gives a tree exactly when it gives the tree without its notes.
use Rattle.std.proofs.Common.{◌≡◌, suc, Bool, true, false, ◌&&◌, ◌||◌, nat_le, List, [], ◌∷◌, length, map, refl, sym, ap, ◌∙◌, rules}
use Rattle.std.specs.Prelude.{Option}
use Rattle.std.specs.Option.{option_map}
use Rattle.ckc_syntax.specs.declared.tree.Tree.{Tree}
use Rattle.ckc_syntax.specs.declared.tree.Item.{Item}
use Rattle.ckc_syntax.specs.declared.tree.Item.TheVariants as item
use Rattle.ckc_syntax.specs.declared.tree.Head.{Head}
use Rattle.ckc_syntax.specs.declared.tree.Decl.{Decl}
use Rattle.ckc_syntax.specs.declared.tree.Init.{Init}
use Rattle.ckc_syntax.specs.declared.tree.Init.TheVariants as init
use Rattle.ckc_syntax.specs.declared.tree.Limits.{Limits, Limits-F}
use Rattle.ckc_syntax.specs.declared.tree.Node.{Node, Node-F, out-Node, roll-Node, the_lemmas}
use Rattle.ckc_syntax.specs.declared.tree.Expr.{Expr}
use Rattle.ckc_syntax.specs.declared.tree.Act.{Act-F}
use Rattle.ckc_syntax.specs.declared.tree.Stmt.{Stmt}
use Rattle.ckc_syntax.specs.declared.tree.NamedText.{NamedText}
use Rattle.ckc_typed.specs.declared.typed.Typed.{Typed}
use Rattle.ckc_typed.specs.Texts.{named_typed}
use Rattle.std.specs.Prelude.{Ok}
use Rattle.ckc_syntax.specs.Inside.{all_have}
use Rattle.ckc_syntax.proofs.Insides.{each_same, if_same}
use Rattle.ckc_typed_welltyped.specs.Noteless.{limits_noteless, node_noteless, act_noteless, bare_limits, bare_node, bare_expr, bare_init, bare_decl, bare_stmt, bare_head, bare_item, without_notes}
use Rattle.ckc_typed_welltyped.specs.Productions.{limits_callless, node_callless, expr_callless, callless_limits, callless_expr, callless_bounds, callless_value, call_form, is_call, is_right, callless_init, right_init, given_decl, given_local, Given, begins, steps, given_act, given_in, given_stmt, placed_body, without_calls, given_head, given_item, given_tree}
use Rattle.ckc_typed_welltyped.proofs.Bares.{bared_node, bare_node_is, bare_expr_is}
use Rattle.ckc_typed_welltyped.proofs.Insides.{init_same, act_same, item_same}
use Rattle.ckc_typed_welltyped.proofs.Folds.{limits_folds, expr_folds, stmt_folds}
use Rattle.ckc_typed_welltyped.proofs.Texts.{gives}

as_many : {X Y : Type 0} (bare : X → Y) (xs : List X) → length (map bare xs) ≡ length xs
as_many bare [] = refl
as_many bare (x ∷ xs) = ap suc (as_many bare xs)

both_same : (a b c d : Bool) → a ≡ c → b ≡ d → (a && b) ≡ (c && d)
both_same a b c d p q = ap (λ x. x && b) p ∙ ap (λ x. c && x) q

bare_out : {N : Type 0} (d : Node-F N (Unit {0}) (Limits N (Unit {0})) (Node N (Unit {0})) (Expr N (Unit {0}))) → out-Node N (Unit {0}) (roll-Node N (Unit {0}) d) ≡ d
bare_out d = search (rules, the_lemmas)

module _ {N A : Type 0} where
  limits_agree : (x : Limits-F N A Bool Bool Bool) → limits_callless (limits_noteless x) ≡ limits_callless x
  limits_agree (Limits-F.Count e at) = refl
  limits_agree _ = refl

  nodes_agree : (x : Node-F N A Bool Bool Bool) → node_callless (node_noteless x) ≡ node_callless x
  nodes_agree (Node-F.Number n u) = refl
  nodes_agree _ = refl

  of_limits : (l : Limits N A) → callless_limits (bare_limits l) ≡ callless_limits l
  of_limits = limits_folds N A Bool Bool Bool limits_callless node_callless expr_callless limits_callless node_callless expr_callless limits_agree nodes_agree (λ x. refl)

  of_expr : (e : Expr N A) → callless_expr (bare_expr e) ≡ callless_expr e
  of_expr = expr_folds N A Bool Bool Bool limits_callless node_callless expr_callless limits_callless node_callless expr_callless limits_agree nodes_agree (λ x. refl)

  of_bounds : (l : Option (Limits N A)) → callless_bounds (option_map bare_limits l) ≡ callless_bounds l
  of_bounds = if_same all_have bare_limits callless_limits callless_limits of_limits

  of_value : (e : Option (Expr N A)) → callless_value (option_map bare_expr e) ≡ callless_value e
  of_value = if_same all_have bare_expr callless_expr callless_expr of_expr

  form_same : (d : Node-F N A (Limits N A) (Node N A) (Expr N A)) → call_form (bared_node N A d) ≡ call_form d
  form_same (Node-F.Call n es) = each_same all_have bare_expr callless_expr callless_expr of_expr es
  form_same (Node-F.Calloc t e u) = of_expr e
  form_same _ = refl

  node_back : (n : Node N A) → roll-Node N A (out-Node N A n) ≡ n
  node_back n = search (rules, the_lemmas)

  node_is : (n : Node N A) → out-Node N (Unit {0}) (bare_node n) ≡ bared_node N A (out-Node N A n)
  node_is n = ap (λ m. out-Node N (Unit {0}) (bare_node m)) (sym (node_back n)) ∙ ap (out-Node N (Unit {0})) (bare_node_is N A (out-Node N A n)) ∙ bare_out (bared_node N A (out-Node N A n))

  of_call : (e : Expr N A) → is_call (bare_expr e) ≡ is_call e
  of_call e = ap (λ (x : Expr N (Unit {0})). is_call x) (bare_expr_is N A e) ∙ ap call_form (node_is e.node) ∙ form_same (out-Node N A e.node)

  of_right : (e : Expr N A) → is_right (bare_expr e) ≡ is_right e
  of_right e = ap (λ b. b || callless_expr (bare_expr e)) (of_call e) ∙ ap (λ b. is_call e || b) (of_expr e)

  of_init : (i : Init N A) → callless_init (bare_init i) ≡ callless_init i
  of_init = init_same all_have callless_expr callless_expr of_expr

  of_right_init : (i : Init N A) → right_init (bare_init i) ≡ right_init i
  of_right_init init.Nothing = refl
  of_right_init (init.One e) = of_right e
  of_right_init (init.Many es) = refl

  of_decl : (d : Decl N A) → given_decl (bare_decl d) ≡ given_decl d
  of_decl d = both_same _ _ _ _ (of_bounds d.bounds) (of_init d.init)

  of_local : (d : Decl N A) → given_local (bare_decl d) ≡ given_local d
  of_local d = both_same _ _ _ _ (of_bounds d.bounds) (of_right_init d.init)

  acts_agree : (x : Act-F N A Given Given) → given_act (act_noteless x) ≡ given_act x
  acts_agree (Act-F.Local d) = ap (λ b. record (given_act (Act-F.Local d)) { fine = b }) (of_local d)
  acts_agree (Act-F.Assign e f) = ap (λ b. record (given_act (Act-F.Assign e f)) { fine = b }) (both_same _ _ _ _ (of_expr e) (of_right f))
  acts_agree (Act-F.Call e) = ap (λ b. record (given_act (Act-F.Call e)) { fine = b }) (of_call e)
  acts_agree (Act-F.For s e t u) = ap (λ b. record (given_act (Act-F.For s e t u)) { fine = begins s && (b && (steps t && u.fine)) }) (of_value e)
  acts_agree (Act-F.Bundle ss) = refl
  acts_agree x = ap (λ b. record (given_act x) { fine = b }) (act_same all_have callless_expr given_local callless_expr given_local (λ (s : Given). s.fine) of_expr of_local x)

  of_stmt : (s : Stmt N A) → given_stmt (bare_stmt s) ≡ given_stmt s
  of_stmt = stmt_folds N A Given Given given_act given_in given_act given_in acts_agree (λ x. refl)

  of_head : (h : Head N A) → given_head (bare_head h) ≡ given_head h
  of_head h = both_same _ _ _ _ (each_same all_have bare_decl given_decl given_decl of_decl h.params) (of_bounds h.bounds)

  of_item : (i : Item N A) → given_item (bare_item i) ≡ given_item i
  of_item (item.Struct n members at) = both_same _ _ _ _ (ap (nat_le 1) (as_many bare_decl members)) (each_same all_have bare_decl given_decl given_decl of_decl members)
  of_item i =
      item_same all_have given_decl given_head (placed_body without_calls) given_decl given_head (placed_body without_calls) of_decl of_head
      (λ s. ap (λ (g : Given). g.fine && g.nested) (of_stmt s)) i

  pub of_tree : (t : Tree N A) → given_tree (without_notes t) ≡ given_tree t
  of_tree t = each_same all_have bare_item given_item given_item of_item t.items

pub form_stays : (t : NamedText) (p : Typed) → named_typed t ≡ Ok p → given_tree p.tree ≡ given_tree t.tree
form_stays t p e = sym (of_tree p.tree) ∙ ap given_tree (gives t p e).tree
