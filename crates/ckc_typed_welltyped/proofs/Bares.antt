-- What is left of a layer of a tree without its notes.
use Rattle.std.proofs.Common.{◌≡◌}
use Rattle.ckc_syntax.specs.declared.tree.Limits.{Limits, Limits-F, map-Limits, roll-Limits, fold-roll-Limits}
use Rattle.ckc_syntax.specs.declared.tree.Node.{Node, Node-F, map-Node, roll-Node, fold-roll-Node}
use Rattle.ckc_syntax.specs.declared.tree.Expr.{Expr, fold-roll-Expr}
use Rattle.ckc_syntax.specs.declared.tree.Act.{Act, Act-F, map-Act, roll-Act, fold-roll-Act}
use Rattle.ckc_syntax.specs.declared.tree.Stmt.{Stmt, fold-roll-Stmt}
use Rattle.ckc_typed_welltyped.specs.Noteless.{BareLimits, BareNode, BareExpr, BareAct, BareStmt, limits_noteless, node_noteless, act_noteless, limits_bared, node_bared, expr_bared, bare_limits, bare_node, bare_expr, act_bared, stmt_bared, bare_act, bare_stmt}

module _ (N A : Type 0) where
  abbrev pub bared_limits : Limits-F N A (Limits N A) (Node N A) (Expr N A) → Limits-F N (Unit {0}) (BareLimits N) (BareNode N) (BareExpr N)
  bared_limits d = limits_noteless (map-Limits N A (Limits N A) (Node N A) (Expr N A) (BareLimits N) (BareNode N) (BareExpr N) bare_limits bare_node bare_expr d)

  abbrev pub bared_node : Node-F N A (Limits N A) (Node N A) (Expr N A) → Node-F N (Unit {0}) (BareLimits N) (BareNode N) (BareExpr N)
  bared_node d = node_noteless (map-Node N A (Limits N A) (Node N A) (Expr N A) (BareLimits N) (BareNode N) (BareExpr N) bare_limits bare_node bare_expr d)

  abbrev pub bared_act : Act-F N A (Act N A) (Stmt N A) → Act-F N (Unit {0}) (BareAct N) (BareStmt N)
  bared_act d = act_noteless (map-Act N A (Act N A) (Stmt N A) (BareAct N) (BareStmt N) bare_act bare_stmt d)

  pub bare_limits_is : (d : Limits-F N A (Limits N A) (Node N A) (Expr N A)) → bare_limits (roll-Limits N A d) ≡ roll-Limits N (Unit {0}) (bared_limits d)
  bare_limits_is d = fold-roll-Limits N A (BareLimits N) (BareNode N) (BareExpr N) limits_bared node_bared expr_bared d

  pub bare_node_is : (d : Node-F N A (Limits N A) (Node N A) (Expr N A)) → bare_node (roll-Node N A d) ≡ roll-Node N (Unit {0}) (bared_node d)
  bare_node_is d = fold-roll-Node N A (BareLimits N) (BareNode N) (BareExpr N) limits_bared node_bared expr_bared d

  pub bare_expr_is : (e : Expr N A) → bare_expr e ≡ record { node = bare_node e.node; pos = e.pos; note = tt }
  bare_expr_is e = fold-roll-Expr N A (BareLimits N) (BareNode N) (BareExpr N) limits_bared node_bared expr_bared (record { node = e.node; pos = e.pos; note = e.note })

  pub bare_act_is : (d : Act-F N A (Act N A) (Stmt N A)) → bare_act (roll-Act N A d) ≡ roll-Act N (Unit {0}) (bared_act d)
  bare_act_is d = fold-roll-Act N A (BareAct N) (BareStmt N) act_bared stmt_bared d

  pub bare_stmt_is : (s : Stmt N A) → bare_stmt s ≡ record { body = bare_act s.body; pos = s.pos; note = tt }
  bare_stmt_is s = fold-roll-Stmt N A (BareAct N) (BareStmt N) act_bared stmt_bared (record { body = s.body; pos = s.pos; note = s.note })
