-- A fold over a tree that looks at no notes gives the same of the tree without them.
use Rattle.std.proofs.Common.{◌≡◌, List, [], ◌∷◌, map, refl, sym, ap, subst, ◌∙◌}
use Rattle.std.specs.Prelude.{Some, None}
use Rattle.std.specs.Option.{option_map}
use Rattle.ckc_syntax.specs.declared.tree.Limits.{Limits, Limits-F, map-Limits, ind-Limits, roll-Limits, fold-Limits, fold-roll-Limits}
use Rattle.ckc_syntax.specs.declared.tree.Node.{Node, Node-F, map-Node, roll-Node, fold-Node, fold-roll-Node}
use Rattle.ckc_syntax.specs.declared.tree.Expr.{Expr, Expr-F, map-Expr, ind-Expr, roll-Expr, fold-Expr, fold-roll-Expr}
use Rattle.ckc_syntax.specs.declared.tree.Act.{Act, Act-F, map-Act, roll-Act, fold-Act, fold-roll-Act}
use Rattle.ckc_syntax.specs.declared.tree.Stmt.{Stmt, Stmt-F, map-Stmt, ind-Stmt, roll-Stmt, fold-Stmt, fold-roll-Stmt}
use Rattle.ckc_typed_welltyped.specs.Noteless.{limits_noteless, node_noteless, expr_noteless, act_noteless, stmt_noteless, bare_limits, bare_node, bare_expr, bare_act, bare_stmt}
use Rattle.ckc_typed_welltyped.proofs.Bares.{bared_limits, bared_node, bare_limits_is, bare_node_is, bare_expr_is, bared_act, bare_act_is, bare_stmt_is}

-- over expressions and bounds: the steps with notes, and those without
module _ (N A C C' C'' : Type 0)
    (limits_step : Limits-F N A C C' C'' → C) (node_step : Node-F N A C C' C'' → C') (expr_step : Expr-F N A C C' C'' → C'')
    (bare_limits_step : Limits-F N (Unit {0}) C C' C'' → C) (bare_node_step : Node-F N (Unit {0}) C C' C'' → C') (bare_expr_step : Expr-F N (Unit {0}) C C' C'' → C'')
    (limits_agree : (x : Limits-F N A C C' C'') → bare_limits_step (limits_noteless x) ≡ limits_step x)
    (nodes_agree : (x : Node-F N A C C' C'') → bare_node_step (node_noteless x) ≡ node_step x)
    (exprs_agree : (x : Expr-F N A C C' C'') → bare_expr_step (expr_noteless x) ≡ expr_step x) where
  abbrev with_limits : Limits N A → C
  with_limits = fold-Limits N A C C' C'' limits_step node_step expr_step

  abbrev with_node : Node N A → C'
  with_node = fold-Node N A C C' C'' limits_step node_step expr_step

  abbrev with_expr : Expr N A → C''
  with_expr = fold-Expr N A C C' C'' limits_step node_step expr_step

  abbrev of_limits : Limits N (Unit {0}) → C
  of_limits = fold-Limits N (Unit {0}) C C' C'' bare_limits_step bare_node_step bare_expr_step

  abbrev of_node : Node N (Unit {0}) → C'
  of_node = fold-Node N (Unit {0}) C C' C'' bare_limits_step bare_node_step bare_expr_step

  abbrev of_expr : Expr N (Unit {0}) → C''
  of_expr = fold-Expr N (Unit {0}) C C' C'' bare_limits_step bare_node_step bare_expr_step

  abbrev LimitsSame : Limits N A → Type 0
  LimitsSame l = of_limits (bare_limits l) ≡ with_limits l

  abbrev NodeSame : Node N A → Type 0
  NodeSame n = of_node (bare_node n) ≡ with_node n

  abbrev ExprSame : Expr N A → Type 0
  ExprSame e = of_expr (bare_expr e) ≡ with_expr e

  abbrev KeptLimits : Type 0
  KeptLimits = (l : Limits N A) × LimitsSame l

  abbrev KeptNode : Type 0
  KeptNode = (n : Node N A) × NodeSame n

  abbrev KeptExpr : Type 0
  KeptExpr = (e : Expr N A) × ExprSame e

  abbrev inner_limits : Limits-F N A KeptLimits KeptNode KeptExpr → Limits-F N A (Limits N A) (Node N A) (Expr N A)
  inner_limits = map-Limits N A KeptLimits KeptNode KeptExpr (Limits N A) (Node N A) (Expr N A) (λ e. e.0) (λ e. e.0) (λ e. e.0)

  abbrev inner_node : Node-F N A KeptLimits KeptNode KeptExpr → Node-F N A (Limits N A) (Node N A) (Expr N A)
  inner_node = map-Node N A KeptLimits KeptNode KeptExpr (Limits N A) (Node N A) (Expr N A) (λ e. e.0) (λ e. e.0) (λ e. e.0)

  abbrev inner_expr : Expr-F N A KeptLimits KeptNode KeptExpr → Expr-F N A (Limits N A) (Node N A) (Expr N A)
  inner_expr = map-Expr N A KeptLimits KeptNode KeptExpr (Limits N A) (Node N A) (Expr N A) (λ e. e.0) (λ e. e.0) (λ e. e.0)

  abbrev folded_limits : Limits-F N A (Limits N A) (Node N A) (Expr N A) → Limits-F N A C C' C''
  folded_limits = map-Limits N A (Limits N A) (Node N A) (Expr N A) C C' C'' with_limits with_node with_expr

  abbrev folded_node : Node-F N A (Limits N A) (Node N A) (Expr N A) → Node-F N A C C' C''
  folded_node = map-Node N A (Limits N A) (Node N A) (Expr N A) C C' C'' with_limits with_node with_expr

  abbrev bare_folded_limits : Limits-F N (Unit {0}) (Limits N (Unit {0})) (Node N (Unit {0})) (Expr N (Unit {0})) → Limits-F N (Unit {0}) C C' C''
  bare_folded_limits = map-Limits N (Unit {0}) (Limits N (Unit {0})) (Node N (Unit {0})) (Expr N (Unit {0})) C C' C'' of_limits of_node of_expr

  abbrev bare_folded_node : Node-F N (Unit {0}) (Limits N (Unit {0})) (Node N (Unit {0})) (Expr N (Unit {0})) → Node-F N (Unit {0}) C C' C''
  bare_folded_node = map-Node N (Unit {0}) (Limits N (Unit {0})) (Node N (Unit {0})) (Expr N (Unit {0})) C C' C'' of_limits of_node of_expr

  all_same : (ks : List KeptExpr) → map of_expr (map bare_expr (map (λ (k : KeptExpr). k.0) ks)) ≡ map with_expr (map (λ (k : KeptExpr). k.0) ks)
  all_same [] = refl
  all_same (k ∷ ks) = ap (λ x. x ∷ map of_expr (map bare_expr (map (λ (k : KeptExpr). k.0) ks))) k.1 ∙ ap (λ xs. with_expr k.0 ∷ xs) (all_same ks)

  limits_same : (y : Limits-F N A KeptLimits KeptNode KeptExpr) → bare_folded_limits (bared_limits N A (inner_limits y)) ≡ limits_noteless (folded_limits (inner_limits y))
  limits_same (Limits-F.Count k at) = ap (λ x. Limits-F.Count x at) k.1
  limits_same (Limits-F.ByteCount k at) = ap (λ x. Limits-F.ByteCount x at) k.1
  limits_same (Limits-F.Between k j at) = ap (λ x. Limits-F.Between x (of_expr (bare_expr j.0)) at) k.1 ∙ ap (λ x. Limits-F.Between (with_expr k.0) x at) j.1
  limits_same (Limits-F.Unknown at) = refl

  node_same : (y : Node-F N A KeptLimits KeptNode KeptExpr) → bare_folded_node (bared_node N A (inner_node y)) ≡ node_noteless (folded_node (inner_node y))
  node_same (Node-F.Number n u) = refl
  node_same (Node-F.Text s) = refl
  node_same Node-F.Null = refl
  node_same (Node-F.Name n) = refl
  node_same (Node-F.Un o k) = ap (λ x. Node-F.Un o x) k.1
  node_same (Node-F.Bin o k j) = ap (λ x. Node-F.Bin o x (of_expr (bare_expr j.0))) k.1 ∙ ap (λ x. Node-F.Bin o (with_expr k.0) x) j.1
  node_same (Node-F.Pick k j i) =
      ap (λ x. Node-F.Pick x (of_expr (bare_expr j.0)) (of_expr (bare_expr i.0))) k.1 ∙ ap (λ x. Node-F.Pick (with_expr k.0) x (of_expr (bare_expr i.0))) j.1 ∙ ap (λ x. Node-F.Pick (with_expr k.0) (with_expr j.0) x) i.1
  node_same (Node-F.Index k j) = ap (λ x. Node-F.Index x (of_expr (bare_expr j.0))) k.1 ∙ ap (λ x. Node-F.Index (with_expr k.0) x) j.1
  node_same (Node-F.Dot k n at) = ap (λ x. Node-F.Dot x n at) k.1
  node_same (Node-F.Arrow k n at) = ap (λ x. Node-F.Arrow x n at) k.1
  node_same (Node-F.Cast t k) = ap (λ x. Node-F.Cast t x) k.1
  node_same (Node-F.Size t) = refl
  node_same (Node-F.Trusted t k None) = ap (λ x. Node-F.Trusted t x None) k.1
  node_same (Node-F.Trusted t k (Some l)) = ap (λ x. Node-F.Trusted t x (Some (of_limits (bare_limits l.0)))) k.1 ∙ ap (λ x. Node-F.Trusted t (with_expr k.0) (Some x)) l.1
  node_same (Node-F.Tested t k None) = ap (λ x. Node-F.Tested t x None) k.1
  node_same (Node-F.Tested t k (Some l)) = ap (λ x. Node-F.Tested t x (Some (of_limits (bare_limits l.0)))) k.1 ∙ ap (λ x. Node-F.Tested t (with_expr k.0) (Some x)) l.1
  node_same (Node-F.Call n ks) = ap (λ xs. Node-F.Call n xs) (all_same ks)
  node_same (Node-F.Calloc t k u) = ap (λ x. Node-F.Calloc t x u) k.1

  limits_by : (x : Limits-F N A (Limits N A) (Node N A) (Expr N A)) (y : Limits-F N A KeptLimits KeptNode KeptExpr) → inner_limits y ≡ x → LimitsSame (roll-Limits N A x)
  limits_by x y is =
      ap of_limits (bare_limits_is N A x) ∙ fold-roll-Limits N (Unit {0}) C C' C'' bare_limits_step bare_node_step bare_expr_step (bared_limits N A x)
      ∙ ap bare_limits_step (subst (λ z. bare_folded_limits (bared_limits N A z) ≡ limits_noteless (folded_limits z)) is (limits_same y)) ∙ limits_agree (folded_limits x)
      ∙ sym (fold-roll-Limits N A C C' C'' limits_step node_step expr_step x)

  node_by : (x : Node-F N A (Limits N A) (Node N A) (Expr N A)) (y : Node-F N A KeptLimits KeptNode KeptExpr) → inner_node y ≡ x → NodeSame (roll-Node N A x)
  node_by x y is =
      ap of_node (bare_node_is N A x) ∙ fold-roll-Node N (Unit {0}) C C' C'' bare_limits_step bare_node_step bare_expr_step (bared_node N A x)
      ∙ ap bare_node_step (subst (λ z. bare_folded_node (bared_node N A z) ≡ node_noteless (folded_node z)) is (node_same y)) ∙ nodes_agree (folded_node x)
      ∙ sym (fold-roll-Node N A C C' C'' limits_step node_step expr_step x)

  expr_is : (e : Expr N A) → NodeSame e.node → ExprSame e
  expr_is e same =
      ap of_expr (bare_expr_is N A e) ∙ fold-roll-Expr N (Unit {0}) C C' C'' bare_limits_step bare_node_step bare_expr_step (record { node = bare_node e.node; pos = e.pos; note = tt })
      ∙ ap (λ n. bare_expr_step (record { node = n; pos = e.pos; note = tt })) same ∙ exprs_agree (record { node = with_node e.node; pos = e.pos; note = e.note })
      ∙ sym (fold-roll-Expr N A C C' C'' limits_step node_step expr_step (record { node = e.node; pos = e.pos; note = e.note }))

  expr_by : (x : Expr-F N A (Limits N A) (Node N A) (Expr N A)) (y : Expr-F N A KeptLimits KeptNode KeptExpr) → inner_expr y ≡ x → ExprSame (roll-Expr N A x)
  expr_by x y is = subst (λ z. ExprSame (roll-Expr N A z)) is (expr_is (roll-Expr N A (inner_expr y)) y.node.1)

  pub limits_folds : (l : Limits N A) → of_limits (bare_limits l) ≡ with_limits l
  limits_folds = ind-Limits N A LimitsSame NodeSame ExprSame limits_by node_by expr_by

  pub expr_folds : (e : Expr N A) → of_expr (bare_expr e) ≡ with_expr e
  expr_folds = ind-Expr N A LimitsSame NodeSame ExprSame limits_by node_by expr_by

-- over statements
module _ (N A C C' : Type 0)
    (act_step : Act-F N A C C' → C) (stmt_step : Stmt-F N A C C' → C')
    (bare_act_step : Act-F N (Unit {0}) C C' → C) (bare_stmt_step : Stmt-F N (Unit {0}) C C' → C')
    (acts_agree : (x : Act-F N A C C') → bare_act_step (act_noteless x) ≡ act_step x)
    (stmts_agree : (x : Stmt-F N A C C') → bare_stmt_step (stmt_noteless x) ≡ stmt_step x) where
  abbrev with_act : Act N A → C
  with_act = fold-Act N A C C' act_step stmt_step

  abbrev with_stmt : Stmt N A → C'
  with_stmt = fold-Stmt N A C C' act_step stmt_step

  abbrev of_act : Act N (Unit {0}) → C
  of_act = fold-Act N (Unit {0}) C C' bare_act_step bare_stmt_step

  abbrev of_stmt : Stmt N (Unit {0}) → C'
  of_stmt = fold-Stmt N (Unit {0}) C C' bare_act_step bare_stmt_step

  abbrev ActSame : Act N A → Type 0
  ActSame a = of_act (bare_act a) ≡ with_act a

  abbrev StmtSame : Stmt N A → Type 0
  StmtSame s = of_stmt (bare_stmt s) ≡ with_stmt s

  abbrev KeptAct : Type 0
  KeptAct = (a : Act N A) × ActSame a

  abbrev KeptStmt : Type 0
  KeptStmt = (s : Stmt N A) × StmtSame s

  abbrev inner_act : Act-F N A KeptAct KeptStmt → Act-F N A (Act N A) (Stmt N A)
  inner_act = map-Act N A KeptAct KeptStmt (Act N A) (Stmt N A) (λ e. e.0) (λ e. e.0)

  abbrev inner_stmt : Stmt-F N A KeptAct KeptStmt → Stmt-F N A (Act N A) (Stmt N A)
  inner_stmt = map-Stmt N A KeptAct KeptStmt (Act N A) (Stmt N A) (λ e. e.0) (λ e. e.0)

  abbrev folded_act : Act-F N A (Act N A) (Stmt N A) → Act-F N A C C'
  folded_act = map-Act N A (Act N A) (Stmt N A) C C' with_act with_stmt

  abbrev bare_folded_act : Act-F N (Unit {0}) (Act N (Unit {0})) (Stmt N (Unit {0})) → Act-F N (Unit {0}) C C'
  bare_folded_act = map-Act N (Unit {0}) (Act N (Unit {0})) (Stmt N (Unit {0})) C C' of_act of_stmt

  every_same : (ks : List KeptStmt) → map of_stmt (map bare_stmt (map (λ (k : KeptStmt). k.0) ks)) ≡ map with_stmt (map (λ (k : KeptStmt). k.0) ks)
  every_same [] = refl
  every_same (k ∷ ks) = ap (λ x. x ∷ map of_stmt (map bare_stmt (map (λ (k : KeptStmt). k.0) ks))) k.1 ∙ ap (λ xs. with_stmt k.0 ∷ xs) (every_same ks)

  act_same : (y : Act-F N A KeptAct KeptStmt) → bare_folded_act (bared_act N A (inner_act y)) ≡ act_noteless (folded_act (inner_act y))
  act_same (Act-F.Block m ks) = ap (λ xs. Act-F.Block m xs) (every_same ks)
  act_same Act-F.Empty = refl
  act_same (Act-F.Local d) = refl
  act_same (Act-F.Assign e f) = refl
  act_same (Act-F.Call e) = refl
  act_same (Act-F.If e k None) = ap (λ x. Act-F.If (bare_expr e) x None) k.1
  act_same (Act-F.If e k (Some l)) = ap (λ x. Act-F.If (bare_expr e) x (Some (of_stmt (bare_stmt l.0)))) k.1 ∙ ap (λ x. Act-F.If (bare_expr e) (with_stmt k.0) (Some x)) l.1
  act_same (Act-F.While e k) = ap (λ x. Act-F.While (bare_expr e) x) k.1
  act_same (Act-F.For None e None k) = ap (λ x. Act-F.For None (option_map bare_expr e) None x) k.1
  act_same (Act-F.For None e (Some m) k) = ap (λ x. Act-F.For None (option_map bare_expr e) x (of_stmt (bare_stmt k.0))) (ap Some m.1) ∙ ap (λ x. Act-F.For None (option_map bare_expr e) (Some (with_stmt m.0)) x) k.1
  act_same (Act-F.For (Some l) e None k) = ap (λ x. Act-F.For x (option_map bare_expr e) None (of_stmt (bare_stmt k.0))) (ap Some l.1) ∙ ap (λ x. Act-F.For (Some (with_stmt l.0)) (option_map bare_expr e) None x) k.1
  act_same (Act-F.For (Some l) e (Some m) k) =
      ap (λ x. Act-F.For x (option_map bare_expr e) (Some (of_stmt (bare_stmt m.0))) (of_stmt (bare_stmt k.0))) (ap Some l.1)
      ∙ ap (λ x. Act-F.For (Some (with_stmt l.0)) (option_map bare_expr e) x (of_stmt (bare_stmt k.0))) (ap Some m.1)
      ∙ ap (λ x. Act-F.For (Some (with_stmt l.0)) (option_map bare_expr e) (Some (with_stmt m.0)) x) k.1
  act_same (Act-F.Return e) = refl
  act_same Act-F.Break = refl
  act_same Act-F.Continue = refl
  act_same (Act-F.Check e) = refl
  act_same (Act-F.Bundle ks) = ap (λ xs. Act-F.Bundle xs) (every_same ks)

  act_by : (x : Act-F N A (Act N A) (Stmt N A)) (y : Act-F N A KeptAct KeptStmt) → inner_act y ≡ x → ActSame (roll-Act N A x)
  act_by x y is =
      ap of_act (bare_act_is N A x) ∙ fold-roll-Act N (Unit {0}) C C' bare_act_step bare_stmt_step (bared_act N A x)
      ∙ ap bare_act_step (subst (λ z. bare_folded_act (bared_act N A z) ≡ act_noteless (folded_act z)) is (act_same y)) ∙ acts_agree (folded_act x)
      ∙ sym (fold-roll-Act N A C C' act_step stmt_step x)

  stmt_is : (s : Stmt N A) → ActSame s.body → StmtSame s
  stmt_is s same =
      ap of_stmt (bare_stmt_is N A s) ∙ fold-roll-Stmt N (Unit {0}) C C' bare_act_step bare_stmt_step (record { body = bare_act s.body; pos = s.pos; note = tt })
      ∙ ap (λ a. bare_stmt_step (record { body = a; pos = s.pos; note = tt })) same ∙ stmts_agree (record { body = with_act s.body; pos = s.pos; note = s.note })
      ∙ sym (fold-roll-Stmt N A C C' act_step stmt_step (record { body = s.body; pos = s.pos; note = s.note }))

  stmt_by : (x : Stmt-F N A (Act N A) (Stmt N A)) (y : Stmt-F N A KeptAct KeptStmt) → inner_stmt y ≡ x → StmtSame (roll-Stmt N A x)
  stmt_by x y is = subst (λ z. StmtSame (roll-Stmt N A z)) is (stmt_is (roll-Stmt N A (inner_stmt y)) y.body.1)

  pub stmt_folds : (s : Stmt N A) → of_stmt (bare_stmt s) ≡ with_stmt s
  stmt_folds = ind-Stmt N A ActSame StmtSame act_by stmt_by
