-- What a walk finds in a statement or an item is what it finds without their notes, if that is so of their parts.
use Rattle.std.proofs.Common.{◌≡◌, refl, ap, ◌∙◌}
use Rattle.ckc_syntax.specs.Inside.{Joining, inside_if, inside_init, inside_act, inside_item}
use Rattle.ckc_syntax.specs.declared.tree.Item.{Item}
use Rattle.ckc_syntax.specs.declared.tree.Item.TheVariants as item
use Rattle.ckc_syntax.specs.declared.tree.Head.{Head}
use Rattle.ckc_syntax.specs.declared.tree.Decl.{Decl}
use Rattle.ckc_syntax.specs.declared.tree.Init.{Init}
use Rattle.ckc_syntax.specs.declared.tree.Init.TheVariants as init
use Rattle.ckc_syntax.specs.declared.tree.Expr.{Expr}
use Rattle.ckc_syntax.specs.declared.tree.Act.{Act-F}
use Rattle.ckc_syntax.specs.declared.tree.Stmt.{Stmt}
use Rattle.ckc_syntax.proofs.Insides.{each_same, if_same}
use Rattle.ckc_typed_welltyped.specs.Noteless.{act_noteless, bare_expr, bare_init, bare_decl, bare_stmt, bare_head, bare_item}

two : {X : Type 0} (j : Joining X) (a b c d : X) → a ≡ c → b ≡ d → j.both a b ≡ j.both c d
two j a b c d p q = ap (λ x. j.both x b) p ∙ ap (λ x. j.both c x) q

module _ {N A X : Type 0} (j : Joining X) where
  pub init_same : (of_expr : Expr N (Unit {0}) → X) (with_expr : Expr N A → X) → ((e : Expr N A) → of_expr (bare_expr e) ≡ with_expr e)
      → (i : Init N A) → inside_init j of_expr (bare_init i) ≡ inside_init j with_expr i
  init_same of_expr with_expr exprs init.Nothing = refl
  init_same of_expr with_expr exprs (init.One e) = exprs e
  init_same of_expr with_expr exprs (init.Many es) = each_same j bare_expr of_expr with_expr exprs es

  pub act_same : {B S : Type 0} (of_expr : Expr N (Unit {0}) → X) (of_decl : Decl N (Unit {0}) → X) (with_expr : Expr N A → X) (with_decl : Decl N A → X) (of_stmt : S → X)
      → ((e : Expr N A) → of_expr (bare_expr e) ≡ with_expr e) → ((d : Decl N A) → of_decl (bare_decl d) ≡ with_decl d)
      → (a : Act-F N A B S) → inside_act j of_expr of_decl of_stmt (act_noteless a) ≡ inside_act j with_expr with_decl of_stmt a
  act_same of_expr of_decl with_expr with_decl of_stmt exprs decls (Act-F.Local d) = decls d
  act_same of_expr of_decl with_expr with_decl of_stmt exprs decls (Act-F.Assign e f) = two j _ _ _ _ (exprs e) (exprs f)
  act_same of_expr of_decl with_expr with_decl of_stmt exprs decls (Act-F.Call e) = exprs e
  act_same of_expr of_decl with_expr with_decl of_stmt exprs decls (Act-F.If e s t) = ap (λ x. j.both (j.both x (of_stmt s)) (inside_if j of_stmt t)) (exprs e)
  act_same of_expr of_decl with_expr with_decl of_stmt exprs decls (Act-F.While e s) = ap (λ x. j.both x (of_stmt s)) (exprs e)
  act_same of_expr of_decl with_expr with_decl of_stmt exprs decls (Act-F.For s e t u) =
      ap (λ x. j.both (j.both (j.both (inside_if j of_stmt s) x) (inside_if j of_stmt t)) (of_stmt u)) (if_same j bare_expr of_expr with_expr exprs e)
  act_same of_expr of_decl with_expr with_decl of_stmt exprs decls (Act-F.Return e) = if_same j bare_expr of_expr with_expr exprs e
  act_same of_expr of_decl with_expr with_decl of_stmt exprs decls (Act-F.Check e) = exprs e
  act_same of_expr of_decl with_expr with_decl of_stmt exprs decls _ = refl

  pub item_same : (of_decl : Decl N (Unit {0}) → X) (of_head : Head N (Unit {0}) → X) (of_stmt : Stmt N (Unit {0}) → X)
      (with_decl : Decl N A → X) (with_head : Head N A → X) (with_stmt : Stmt N A → X)
      → ((d : Decl N A) → of_decl (bare_decl d) ≡ with_decl d) → ((h : Head N A) → of_head (bare_head h) ≡ with_head h) → ((s : Stmt N A) → of_stmt (bare_stmt s) ≡ with_stmt s)
      → (i : Item N A) → inside_item j of_decl of_head of_stmt (bare_item i) ≡ inside_item j with_decl with_head with_stmt i
  item_same of_decl of_head of_stmt with_decl with_head with_stmt decls heads stmts (item.Directive d) = refl
  item_same of_decl of_head of_stmt with_decl with_head with_stmt decls heads stmts (item.Tag n at) = refl
  item_same of_decl of_head of_stmt with_decl with_head with_stmt decls heads stmts (item.Struct n members at) = each_same j bare_decl of_decl with_decl decls members
  item_same of_decl of_head of_stmt with_decl with_head with_stmt decls heads stmts (item.Static d) = decls d
  item_same of_decl of_head of_stmt with_decl with_head with_stmt decls heads stmts (item.Proto h) = heads h
  item_same of_decl of_head of_stmt with_decl with_head with_stmt decls heads stmts (item.Function h s) = two j _ _ _ _ (heads h) (stmts s)
