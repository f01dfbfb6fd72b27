-- What an expression, a bound and a statement become, by what their parts become.
use Rattle.std.proofs.Common.{◌≡◌, ap, ◌∙◌}
use Rattle.ckc_syntax.specs.declared.tree.Name.{Name}
use Rattle.ckc_syntax.specs.declared.tree.Limits.{Limits-F, map-Limits, roll-Limits, fold-roll-Limits}
use Rattle.ckc_syntax.specs.declared.tree.Node.{Node-F, map-Node, roll-Node, fold-roll-Node}
use Rattle.ckc_syntax.specs.declared.tree.Expr.{fold-roll-Expr}
use Rattle.ckc_syntax.specs.declared.tree.Act.{Act-F, map-Act, roll-Act, fold-roll-Act}
use Rattle.ckc_syntax.specs.declared.tree.Stmt.{fold-roll-Stmt}
use Rattle.ckc_syntax.specs.Trees.{NamedLimits, NamedNode, NamedExpr, NamedStmt, NamedAct}
use Rattle.ckc_plain_barred.specs.declared.integers.Integers.{Integers}
use Rattle.ckc_plain_bodies.specs.declared.pending.Pending.{Pending}
use Rattle.ckc_plain_bodies.specs.Taken.{expr_at, stmt_at, after}
use Rattle.ckc_plain_bodies.specs.Expressions.{OfLimits, OfNode, OfExpr, limits_parts, node_parts, expr_parts, limits_plain, node_kept, expr_kept}
use Rattle.ckc_plain_bodies.specs.Statements.{OfAct, OfStmt, act_plain, stmt_plain}
use Rattle.ckc_plain_bodies.specs.Statements as statements

abbrev pub Layer : Type 0
Layer = Node-F Name (Unit {0}) NamedLimits NamedNode NamedExpr

abbrev StmtLayer : Type 0
StmtLayer = Act-F Name (Unit {0}) NamedAct NamedStmt

module _ (known : Integers) where
  abbrev pub kept_layer : Layer → Node-F Name (Unit {0}) OfLimits OfNode OfExpr
  kept_layer = map-Node Name (Unit {0}) NamedLimits NamedNode NamedExpr OfLimits OfNode OfExpr (limits_plain known) (node_kept known) (expr_kept known)

  pub kept_by : (e : NamedExpr) (p : Pending) (x : Layer) → e.node ≡ roll-Node Name (Unit {0}) x
      → expr_kept known e p ≡ after (node_parts known (kept_layer x) e.pos p) (λ n q. (expr_at n e.pos, q))
  kept_by e p x is =
      ap (λ f. f p) (fold-roll-Expr Name (Unit {0}) OfLimits OfNode OfExpr (limits_parts known) (node_parts known) expr_parts (record { node = e.node; pos = e.pos; note = e.note }))
      ∙ ap (λ n. after (node_kept known n e.pos p) (λ m q. (expr_at m e.pos, q))) is
      ∙ ap (λ f. after (f e.pos p) (λ m q. (expr_at m e.pos, q))) (fold-roll-Node Name (Unit {0}) OfLimits OfNode OfExpr (limits_parts known) (node_parts known) expr_parts x)

  pub limits_by : (l : NamedLimits) (p : Pending) (x : Limits-F Name (Unit {0}) NamedLimits NamedNode NamedExpr) → l ≡ roll-Limits Name (Unit {0}) x
      → limits_plain known l p ≡ limits_parts known (map-Limits Name (Unit {0}) NamedLimits NamedNode NamedExpr OfLimits OfNode OfExpr (limits_plain known) (node_kept known) (expr_kept known) x) p
  limits_by l p x is =
      ap (λ k. limits_plain known k p) is ∙ ap (λ f. f p) (fold-roll-Limits Name (Unit {0}) OfLimits OfNode OfExpr (limits_parts known) (node_parts known) expr_parts x)

  abbrev pub act_layer : StmtLayer → Act-F Name (Unit {0}) OfAct OfStmt
  act_layer = map-Act Name (Unit {0}) NamedAct NamedStmt OfAct OfStmt (act_plain known) (stmt_plain known)

  pub act_by : (a : NamedAct) (p : Pending) (x : StmtLayer) → a ≡ roll-Act Name (Unit {0}) x
      → act_plain known a p ≡ statements.act_parts known (act_layer x) p
  act_by a p x is =
      ap (λ b. act_plain known b p) is ∙ ap (λ f. f p) (fold-roll-Act Name (Unit {0}) OfAct OfStmt (statements.act_parts known) statements.stmt_parts x)

  pub stmt_by : (s : NamedStmt) (p : Pending) → stmt_plain known s p ≡ after (act_plain known s.body p) (λ a q. (stmt_at a s.pos, q))
  stmt_by s p =
      ap (λ f. f p) (fold-roll-Stmt Name (Unit {0}) OfAct OfStmt (statements.act_parts known) statements.stmt_parts (record { body = s.body; pos = s.pos; note = s.note }))
