-- Trees without what is noted in them: each note is replaced by the empty one, and all else stands.
use Rattle.std.specs.Prelude.{map}
use Rattle.std.specs.Option.{option_map}
use Rattle.ckc_syntax.specs.declared.tree.Tree.{Tree}
use Rattle.ckc_syntax.specs.declared.tree.Item.{Item}
use Rattle.ckc_syntax.specs.declared.tree.Item.TheVariants as item
use Rattle.ckc_syntax.specs.declared.tree.Head.{Head}
use Rattle.ckc_syntax.specs.declared.tree.Decl.{Decl}
use Rattle.ckc_syntax.specs.declared.tree.Init.{Init}
use Rattle.ckc_syntax.specs.declared.tree.Init.TheVariants as init
use Rattle.ckc_syntax.specs.declared.tree.Limits.{Limits, Limits-F, fold-Limits, roll-Limits}
use Rattle.ckc_syntax.specs.declared.tree.Node.{Node, Node-F, fold-Node, roll-Node}
use Rattle.ckc_syntax.specs.declared.tree.Expr.{Expr, Expr-F, fold-Expr, roll-Expr}
use Rattle.ckc_syntax.specs.declared.tree.Act.{Act, Act-F, fold-Act, roll-Act}
use Rattle.ckc_syntax.specs.declared.tree.Stmt.{Stmt, Stmt-F, fold-Stmt, roll-Stmt}

-- the types of trees with empty notes
abbrev pub BareLimits : Type 0 → Type 0
BareLimits N = Limits N (Unit {0})

abbrev pub BareNode : Type 0 → Type 0
BareNode N = Node N (Unit {0})

abbrev pub BareExpr : Type 0 → Type 0
BareExpr N = Expr N (Unit {0})

abbrev pub BareAct : Type 0 → Type 0
BareAct N = Act N (Unit {0})

abbrev pub BareStmt : Type 0 → Type 0
BareStmt N = Stmt N (Unit {0})

-- One level of a tree has no note of its own, but for expressions and statements. So each of these leaves its level as
-- it is, with other notes below.
abbrev pub limits_noteless : {N A X X' X'' : Type 0} → Limits-F N A X X' X'' → Limits-F N (Unit {0}) X X' X''
limits_noteless (Limits-F.Count e at) = Limits-F.Count e at
limits_noteless (Limits-F.ByteCount e at) = Limits-F.ByteCount e at
limits_noteless (Limits-F.Between e f at) = Limits-F.Between e f at
limits_noteless (Limits-F.Unknown at) = Limits-F.Unknown at

abbrev pub node_noteless : {N A X X' X'' : Type 0} → Node-F N A X X' X'' → Node-F N (Unit {0}) X X' X''
node_noteless (Node-F.Number n unsigned) = Node-F.Number n unsigned
node_noteless (Node-F.Text bytes) = Node-F.Text bytes
node_noteless Node-F.Null = Node-F.Null
node_noteless (Node-F.Name n) = Node-F.Name n
node_noteless (Node-F.Un o e) = Node-F.Un o e
node_noteless (Node-F.Bin o e f) = Node-F.Bin o e f
node_noteless (Node-F.Pick e f g) = Node-F.Pick e f g
node_noteless (Node-F.Index e f) = Node-F.Index e f
node_noteless (Node-F.Dot e n at) = Node-F.Dot e n at
node_noteless (Node-F.Arrow e n at) = Node-F.Arrow e n at
node_noteless (Node-F.Cast t e) = Node-F.Cast t e
node_noteless (Node-F.Size t) = Node-F.Size t
node_noteless (Node-F.Trusted t e l) = Node-F.Trusted t e l
node_noteless (Node-F.Tested t e l) = Node-F.Tested t e l
node_noteless (Node-F.Call n es) = Node-F.Call n es
node_noteless (Node-F.Calloc t e u) = Node-F.Calloc t e u

abbrev pub expr_noteless : {N A X X' X'' : Type 0} → Expr-F N A X X' X'' → Expr-F N (Unit {0}) X X' X''
expr_noteless e = record { node = e.node; pos = e.pos; note = tt }

-- Each step below is one level, with each part without its notes in its place.
abbrev pub limits_bared : {N A : Type 0} → Limits-F N A (BareLimits N) (BareNode N) (BareExpr N) → BareLimits N
limits_bared {N} l = roll-Limits N (Unit {0}) (limits_noteless l)

abbrev pub node_bared : {N A : Type 0} → Node-F N A (BareLimits N) (BareNode N) (BareExpr N) → BareNode N
node_bared {N} n = roll-Node N (Unit {0}) (node_noteless n)

abbrev pub expr_bared : {N A : Type 0} → Expr-F N A (BareLimits N) (BareNode N) (BareExpr N) → BareExpr N
expr_bared {N} e = roll-Expr N (Unit {0}) (expr_noteless e)

abbrev pub bare_limits : {N A : Type 0} → Limits N A → BareLimits N
bare_limits {N} {A} = fold-Limits N A (BareLimits N) (BareNode N) (BareExpr N) limits_bared node_bared expr_bared

abbrev pub bare_node : {N A : Type 0} → Node N A → BareNode N
bare_node {N} {A} = fold-Node N A (BareLimits N) (BareNode N) (BareExpr N) limits_bared node_bared expr_bared

abbrev pub bare_expr : {N A : Type 0} → Expr N A → BareExpr N
bare_expr {N} {A} = fold-Expr N A (BareLimits N) (BareNode N) (BareExpr N) limits_bared node_bared expr_bared

abbrev pub bare_init : {N A : Type 0} → Init N A → Init N (Unit {0})
bare_init init.Nothing = init.Nothing
bare_init (init.One e) = init.One (bare_expr e)
bare_init (init.Many es) = init.Many (map bare_expr es)

abbrev pub bare_decl : {N A : Type 0} → Decl N A → Decl N (Unit {0})
bare_decl d = record { ctype = d.ctype; name = d.name; length = d.length; bounds = option_map bare_limits d.bounds; init = bare_init d.init; pos = d.pos }

abbrev pub act_noteless : {N A X X' : Type 0} → Act-F N A X X' → Act-F N (Unit {0}) X X'
act_noteless (Act-F.Block m ss) = Act-F.Block m ss
act_noteless Act-F.Empty = Act-F.Empty
act_noteless (Act-F.Local d) = Act-F.Local (bare_decl d)
act_noteless (Act-F.Assign e f) = Act-F.Assign (bare_expr e) (bare_expr f)
act_noteless (Act-F.Call e) = Act-F.Call (bare_expr e)
act_noteless (Act-F.If e s t) = Act-F.If (bare_expr e) s t
act_noteless (Act-F.While e s) = Act-F.While (bare_expr e) s
act_noteless (Act-F.For s e t body) = Act-F.For s (option_map bare_expr e) t body
act_noteless (Act-F.Return e) = Act-F.Return (option_map bare_expr e)
act_noteless Act-F.Break = Act-F.Break
act_noteless Act-F.Continue = Act-F.Continue
act_noteless (Act-F.Check e) = Act-F.Check (bare_expr e)
act_noteless (Act-F.Bundle ss) = Act-F.Bundle ss

abbrev pub stmt_noteless : {N A X X' : Type 0} → Stmt-F N A X X' → Stmt-F N (Unit {0}) X X'
stmt_noteless s = record { body = s.body; pos = s.pos; note = tt }

abbrev pub act_bared : {N A : Type 0} → Act-F N A (BareAct N) (BareStmt N) → BareAct N
act_bared {N} a = roll-Act N (Unit {0}) (act_noteless a)

abbrev pub stmt_bared : {N A : Type 0} → Stmt-F N A (BareAct N) (BareStmt N) → BareStmt N
stmt_bared {N} s = roll-Stmt N (Unit {0}) (stmt_noteless s)

abbrev pub bare_act : {N A : Type 0} → Act N A → BareAct N
bare_act {N} {A} = fold-Act N A (BareAct N) (BareStmt N) act_bared stmt_bared

abbrev pub bare_stmt : {N A : Type 0} → Stmt N A → BareStmt N
bare_stmt {N} {A} = fold-Stmt N A (BareAct N) (BareStmt N) act_bared stmt_bared

abbrev pub bare_head : {N A : Type 0} → Head N A → Head N (Unit {0})
bare_head h = record { mode = h.mode; result = h.result; name = h.name; params = map bare_decl h.params; bounds = option_map bare_limits h.bounds; pos = h.pos }

abbrev pub bare_item : {N A : Type 0} → Item N A → Item N (Unit {0})
bare_item (item.Directive d) = item.Directive d
bare_item (item.Tag n at) = item.Tag n at
bare_item (item.Struct n members at) = item.Struct n (map bare_decl members) at
bare_item (item.Static d) = item.Static (bare_decl d)
bare_item (item.Proto h) = item.Proto (bare_head h)
bare_item (item.Function h body) = item.Function (bare_head h) (bare_stmt body)

-- the tree without its notes
abbrev pub without_notes : {N A : Type 0} → Tree N A → Tree N (Unit {0})
without_notes t = record { items = map bare_item t.items }
