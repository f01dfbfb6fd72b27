-- A tree has the marks of the tree without its notes.
use Rattle.std.proofs.Common.{◌≡◌, List, ◌∷◌, ◌++◌, refl, ap, ◌∙◌}
use Rattle.std.specs.Prelude.{Option}
use Rattle.std.specs.Option.{option_map}
use Rattle.std.specs.List.{flat_map}
use Rattle.ckc_syntax.specs.declared.tree.Tree.{Tree}
use Rattle.ckc_syntax.specs.declared.tree.Item.{Item}
use Rattle.ckc_syntax.specs.declared.tree.Item.TheVariants as item
use Rattle.ckc_syntax.specs.declared.tree.Head.{Head}
use Rattle.ckc_syntax.specs.declared.tree.Decl.{Decl}
use Rattle.ckc_syntax.specs.declared.tree.Init.{Init}
use Rattle.ckc_syntax.specs.declared.tree.Init.TheVariants as init
use Rattle.ckc_syntax.specs.declared.tree.Limits.{Limits, Limits-F}
use Rattle.ckc_syntax.specs.declared.tree.Node.{Node-F}
use Rattle.ckc_syntax.specs.declared.tree.Expr.{Expr}
use Rattle.ckc_syntax.specs.declared.tree.Act.{Act-F}
use Rattle.ckc_syntax.specs.declared.tree.Stmt.{Stmt}
use Rattle.ckc_syntax.specs.Inside.{listed, inside_limits}
use Rattle.ckc_syntax.proofs.Insides.{each_same, if_same}
use Rattle.ckc_syntax_limits.specs.Marks.{Mark, node, local, function, static, node_marks, expr_marks, marks_of_limits, marks_of_expr, marks_of_bounds, marks_of_init, marks_of_decl, act_marks, stmt_marks, marks_of_stmt, marks_of_param, marks_of_head, marks_of_item, marks_of}
use Rattle.ckc_typed_welltyped.specs.Noteless.{limits_noteless, node_noteless, act_noteless, bare_limits, bare_expr, bare_init, bare_decl, bare_stmt, bare_head, bare_item, without_notes}
use Rattle.ckc_typed_welltyped.proofs.Insides.{init_same, act_same, item_same}
use Rattle.ckc_typed_welltyped.proofs.Folds.{limits_folds, expr_folds, stmt_folds}

module _ {N A : Type 0} where
  limits_agree : (x : Limits-F N A (List Mark) (List Mark) (List Mark)) → inside_limits listed (λ e. e) (limits_noteless x) ≡ inside_limits listed (λ e. e) x
  limits_agree (Limits-F.Count e at) = refl
  limits_agree _ = refl

  nodes_agree : (x : Node-F N A (List Mark) (List Mark) (List Mark)) → node_marks (node_noteless x) ≡ node_marks x
  nodes_agree (Node-F.Number n u) = refl
  nodes_agree _ = refl

  pub of_limits : (l : Limits N A) → marks_of_limits (bare_limits l) ≡ marks_of_limits l
  of_limits = limits_folds N A (List Mark) (List Mark) (List Mark) (inside_limits listed (λ e. e)) node_marks expr_marks (inside_limits listed (λ e. e)) node_marks expr_marks limits_agree nodes_agree (λ x. refl)

  pub of_expr : (e : Expr N A) → marks_of_expr (bare_expr e) ≡ marks_of_expr e
  of_expr = expr_folds N A (List Mark) (List Mark) (List Mark) (inside_limits listed (λ e. e)) node_marks expr_marks (inside_limits listed (λ e. e)) node_marks expr_marks limits_agree nodes_agree (λ x. refl)

  of_bounds : (l : Option (Limits N A)) → marks_of_bounds (option_map bare_limits l) ≡ marks_of_bounds l
  of_bounds = if_same listed bare_limits marks_of_limits marks_of_limits of_limits

  of_init : (i : Init N A) → marks_of_init (bare_init i) ≡ marks_of_init i
  of_init = init_same listed marks_of_expr marks_of_expr of_expr

  pub of_decl : (d : Decl N A) → marks_of_decl (bare_decl d) ≡ marks_of_decl d
  of_decl d = ap (λ ms. node ∷ ms ++ marks_of_init (bare_init d.init)) (of_bounds d.bounds) ∙ ap (λ ms. node ∷ marks_of_bounds d.bounds ++ ms) (of_init d.init)

  acts_agree : (x : Act-F N A (List Mark) (List Mark)) → act_marks (act_noteless x) ≡ act_marks x
  acts_agree (Act-F.Local d) = ap (λ ms. local ∷ ms) (of_decl d)
  acts_agree x = act_same listed marks_of_expr marks_of_decl marks_of_expr marks_of_decl (λ s. s) of_expr of_decl x

  pub of_stmt : (s : Stmt N A) → marks_of_stmt (bare_stmt s) ≡ marks_of_stmt s
  of_stmt = stmt_folds N A (List Mark) (List Mark) act_marks stmt_marks act_marks stmt_marks acts_agree (λ x. refl)

  of_param : (d : Decl N A) → marks_of_param (bare_decl d) ≡ marks_of_param d
  of_param d = ap (λ ms. local ∷ ms) (of_decl d)

  of_head : (h : Head N A) → marks_of_head (bare_head h) ≡ marks_of_head h
  of_head h = ap (λ ms. node ∷ ms ++ marks_of_bounds (option_map bare_limits h.bounds)) (each_same listed bare_decl marks_of_param marks_of_param of_param h.params) ∙ ap (λ ms. node ∷ flat_map marks_of_param h.params ++ ms) (of_bounds h.bounds)

  pub of_item : (i : Item N A) → marks_of_item (bare_item i) ≡ marks_of_item i
  of_item (item.Static d) = ap (λ ms. static ∷ ms) (of_decl d)
  of_item (item.Function h body) = ap (λ ms. function ∷ ms ++ marks_of_stmt (bare_stmt body)) (of_head h) ∙ ap (λ ms. function ∷ marks_of_head h ++ ms) (of_stmt body)
  of_item i = item_same listed marks_of_decl marks_of_head marks_of_stmt marks_of_decl marks_of_head marks_of_stmt of_decl of_head of_stmt i

  pub of_tree : (t : Tree N A) → marks_of (without_notes t) ≡ marks_of t
  of_tree t = each_same listed bare_item marks_of_item marks_of_item of_item t.items
