-- A tree is as deep as the tree without its notes.
use Rattle.std.proofs.Common.{◌≡◌, ℕ, max, refl, ap, ◌∙◌}
use Rattle.std.specs.Prelude.{Option}
use Rattle.std.specs.Option.{option_map}
use Rattle.ckc_syntax.specs.declared.tree.Item.{Item}
use Rattle.ckc_syntax.specs.declared.tree.Item.TheVariants as item
use Rattle.ckc_syntax.specs.declared.tree.Head.{Head}
use Rattle.ckc_syntax.specs.declared.tree.Decl.{Decl}
use Rattle.ckc_syntax.specs.declared.tree.Init.{Init}
use Rattle.ckc_syntax.specs.declared.tree.Init.TheVariants as init
use Rattle.ckc_syntax.specs.declared.tree.Limits.{Limits, Limits-F}
use Rattle.ckc_syntax.specs.declared.tree.Node.{Node-F}
use Rattle.ckc_syntax.specs.declared.tree.Expr.{Expr}
use Rattle.ckc_syntax.specs.declared.tree.Act.{Act-F}
use Rattle.ckc_syntax.specs.declared.tree.Stmt.{Stmt}
use Rattle.ckc_syntax.specs.Inside.{highest, inside_each}
use Rattle.ckc_syntax.proofs.Insides.{each_same, if_same}
use Rattle.ckc_syntax_limits.specs.Depth.{limits_depth, node_depth, expr_depth, depth_of_limits, depth_of_expr, depth_of_bounds, depth_of_init, depth_of_decl, act_depth, stmt_depth, depth_of_stmt, depth_of_head, depth_of_item}
use Rattle.ckc_typed_welltyped.specs.Noteless.{limits_noteless, node_noteless, act_noteless, bare_limits, bare_expr, bare_init, bare_decl, bare_stmt, bare_head, bare_item}
use Rattle.ckc_typed_welltyped.proofs.Insides.{init_same, act_same, item_same}
use Rattle.ckc_typed_welltyped.proofs.Folds.{limits_folds, expr_folds, stmt_folds}

module _ {N A : Type 0} where
  limits_agree : (x : Limits-F N A ℕ ℕ ℕ) → limits_depth (limits_noteless x) ≡ limits_depth x
  limits_agree (Limits-F.Count e at) = refl
  limits_agree _ = refl

  nodes_agree : (x : Node-F N A ℕ ℕ ℕ) → node_depth (node_noteless x) ≡ node_depth x
  nodes_agree (Node-F.Number n u) = refl
  nodes_agree _ = refl

  pub of_limits : (l : Limits N A) → depth_of_limits (bare_limits l) ≡ depth_of_limits l
  of_limits = limits_folds N A ℕ ℕ ℕ limits_depth node_depth expr_depth limits_depth node_depth expr_depth limits_agree nodes_agree (λ x. refl)

  pub of_expr : (e : Expr N A) → depth_of_expr (bare_expr e) ≡ depth_of_expr e
  of_expr = expr_folds N A ℕ ℕ ℕ limits_depth node_depth expr_depth limits_depth node_depth expr_depth limits_agree nodes_agree (λ x. refl)

  of_bounds : (l : Option (Limits N A)) → depth_of_bounds (option_map bare_limits l) ≡ depth_of_bounds l
  of_bounds = if_same highest bare_limits depth_of_limits depth_of_limits of_limits

  of_init : (i : Init N A) → depth_of_init (bare_init i) ≡ depth_of_init i
  of_init = init_same highest depth_of_expr depth_of_expr of_expr

  pub of_decl : (d : Decl N A) → depth_of_decl (bare_decl d) ≡ depth_of_decl d
  of_decl d = ap (λ n. max n (depth_of_init (bare_init d.init))) (of_bounds d.bounds) ∙ ap (λ n. max (depth_of_bounds d.bounds) n) (of_init d.init)

  acts_agree : (x : Act-F N A ℕ ℕ) → act_depth (act_noteless x) ≡ act_depth x
  acts_agree = act_same highest depth_of_expr depth_of_decl depth_of_expr depth_of_decl (λ s. s) of_expr of_decl

  pub of_stmt : (s : Stmt N A) → depth_of_stmt (bare_stmt s) ≡ depth_of_stmt s
  of_stmt = stmt_folds N A ℕ ℕ act_depth stmt_depth act_depth stmt_depth acts_agree (λ x. refl)

  of_head : (h : Head N A) → depth_of_head (bare_head h) ≡ depth_of_head h
  of_head h =
      ap (λ n. max n (depth_of_bounds (option_map bare_limits h.bounds))) (each_same highest bare_decl depth_of_decl depth_of_decl of_decl h.params)
      ∙ ap (λ n. max (inside_each highest depth_of_decl h.params) n) (of_bounds h.bounds)

  pub of_item : (i : Item N A) → depth_of_item (bare_item i) ≡ depth_of_item i
  of_item = item_same highest depth_of_decl depth_of_head depth_of_stmt depth_of_decl depth_of_head depth_of_stmt of_decl of_head of_stmt
