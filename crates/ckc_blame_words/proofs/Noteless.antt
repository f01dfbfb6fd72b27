-- The literals of a tree are those of the tree without its notes.
use Rattle.std.proofs.Common.{◌≡◌, Bool, true, ◌&&◌, List, [], ◌∷◌, map, refl, sym, ap, subst, ◌∙◌}
use Rattle.std.specs.Prelude.{Option, Some, None}
use Rattle.std.specs.Option.{option_map}
use Rattle.ckc_syntax.specs.Inside.{all_have, inside_if, inside_each}
use Rattle.ckc_syntax.proofs.Insides.{each_same, if_same}
use Rattle.ckc_syntax.specs.declared.tree.Tree.{Tree}
use Rattle.ckc_syntax.specs.declared.tree.Item.{Item}
use Rattle.ckc_syntax.specs.declared.tree.Item.TheVariants as item
use Rattle.ckc_syntax.specs.declared.tree.Head.{Head}
use Rattle.ckc_syntax.specs.declared.tree.Decl.{Decl}
use Rattle.ckc_syntax.specs.declared.tree.Init.{Init}
use Rattle.ckc_syntax.specs.declared.tree.Init.TheVariants as init
use Rattle.ckc_syntax.specs.declared.tree.Limits.{Limits, Limits-F, map-Limits, ind-Limits, roll-Limits, fold-roll-Limits}
use Rattle.ckc_syntax.specs.declared.tree.Node.{Node, Node-F, map-Node, roll-Node, fold-Node, fold-roll-Node}
use Rattle.ckc_syntax.specs.declared.tree.Expr.{Expr, Expr-F, map-Expr, ind-Expr, roll-Expr, fold-roll-Expr}
use Rattle.ckc_syntax.specs.declared.tree.Act.{Act, Act-F, map-Act, roll-Act, fold-Act, fold-roll-Act}
use Rattle.ckc_syntax.specs.declared.tree.Stmt.{Stmt, Stmt-F, map-Stmt, ind-Stmt, roll-Stmt, fold-roll-Stmt}
use Rattle.ckc_typed_welltyped.specs.Noteless.{BareLimits, BareNode, BareExpr, BareAct, BareStmt, limits_noteless, node_noteless, act_noteless, limits_bared, node_bared, expr_bared, act_bared, stmt_bared, bare_limits, bare_node, bare_expr, bare_init, bare_decl, bare_act, bare_stmt, bare_head, bare_item, without_notes}
use Rattle.ckc_blame_words.specs.Literals.{limits_by_parts, node_by_parts, expr_by_parts, limits_have_words, expr_has_words, init_has_words, decl_has_words, act_by_parts, stmt_by_parts, stmt_has_words, head_has_words, item_has_words, tree_has_words}

both : (a b c d : Bool) → a ≡ c → b ≡ d → (a && b) ≡ (c && d)
both a b c d p q = ap (λ x. x && b) p ∙ ap (λ x. c && x) q

abbrev node_has_words : {N A : Type 0} → Node N A → Bool
node_has_words {N} {A} = fold-Node N A Bool Bool Bool limits_by_parts node_by_parts expr_by_parts

abbrev act_has_words : {N A : Type 0} → Act N A → Bool
act_has_words {N} {A} = fold-Act N A Bool Bool act_by_parts stmt_by_parts

module _ (N A : Type 0) where
  -- ---- expressions

  abbrev LimitsSame : Limits N A → Type 0
  LimitsSame l = limits_have_words (bare_limits l) ≡ limits_have_words l

  abbrev NodeSame : Node N A → Type 0
  NodeSame n = node_has_words (bare_node n) ≡ node_has_words n

  abbrev ExprSame : Expr N A → Type 0
  ExprSame e = expr_has_words (bare_expr e) ≡ expr_has_words e

  abbrev KeptLimits : Type 0
  KeptLimits = (l : Limits N A) × LimitsSame l

  abbrev KeptNode : Type 0
  KeptNode = (n : Node N A) × NodeSame n

  abbrev KeptExpr : Type 0
  KeptExpr = (e : Expr N A) × ExprSame e

  abbrev LimitsLayer : Type 0
  LimitsLayer = Limits-F N A (Limits N A) (Node N A) (Expr N A)

  abbrev NodeLayer : Type 0
  NodeLayer = Node-F N A (Limits N A) (Node N A) (Expr N A)

  abbrev inner_limits : Limits-F N A KeptLimits KeptNode KeptExpr → LimitsLayer
  inner_limits = map-Limits N A KeptLimits KeptNode KeptExpr (Limits N A) (Node N A) (Expr N A) (λ e. e.0) (λ e. e.0) (λ e. e.0)

  abbrev inner_node : Node-F N A KeptLimits KeptNode KeptExpr → NodeLayer
  inner_node = map-Node N A KeptLimits KeptNode KeptExpr (Limits N A) (Node N A) (Expr N A) (λ e. e.0) (λ e. e.0) (λ e. e.0)

  abbrev inner_expr : Expr-F N A KeptLimits KeptNode KeptExpr → Expr-F N A (Limits N A) (Node N A) (Expr N A)
  inner_expr = map-Expr N A KeptLimits KeptNode KeptExpr (Limits N A) (Node N A) (Expr N A) (λ e. e.0) (λ e. e.0) (λ e. e.0)

  abbrev bared_limits : LimitsLayer → Limits-F N (Unit {0}) (BareLimits N) (BareNode N) (BareExpr N)
  bared_limits x = limits_noteless (map-Limits N A (Limits N A) (Node N A) (Expr N A) (BareLimits N) (BareNode N) (BareExpr N) bare_limits bare_node bare_expr x)

  abbrev bared_node : NodeLayer → Node-F N (Unit {0}) (BareLimits N) (BareNode N) (BareExpr N)
  bared_node x = node_noteless (map-Node N A (Limits N A) (Node N A) (Expr N A) (BareLimits N) (BareNode N) (BareExpr N) bare_limits bare_node bare_expr x)

  abbrev limits_inside : LimitsLayer → Limits-F N A Bool Bool Bool
  limits_inside = map-Limits N A (Limits N A) (Node N A) (Expr N A) Bool Bool Bool limits_have_words node_has_words expr_has_words

  abbrev node_inside : NodeLayer → Node-F N A Bool Bool Bool
  node_inside = map-Node N A (Limits N A) (Node N A) (Expr N A) Bool Bool Bool limits_have_words node_has_words expr_has_words

  abbrev bare_limits_inside : Limits-F N (Unit {0}) (BareLimits N) (BareNode N) (BareExpr N) → Limits-F N (Unit {0}) Bool Bool Bool
  bare_limits_inside = map-Limits N (Unit {0}) (BareLimits N) (BareNode N) (BareExpr N) Bool Bool Bool limits_have_words node_has_words expr_has_words

  abbrev bare_node_inside : Node-F N (Unit {0}) (BareLimits N) (BareNode N) (BareExpr N) → Node-F N (Unit {0}) Bool Bool Bool
  bare_node_inside = map-Node N (Unit {0}) (BareLimits N) (BareNode N) (BareExpr N) Bool Bool Bool limits_have_words node_has_words expr_has_words

  abbrev AllOf : List Bool → Bool
  AllOf bs = inside_each all_have (λ (b : Bool). b) bs

  args_same : (ks : List KeptExpr) → AllOf (map expr_has_words (map bare_expr (map (λ (k : KeptExpr). k.0) ks))) ≡ AllOf (map expr_has_words (map (λ (k : KeptExpr). k.0) ks))
  args_same [] = refl
  args_same (k ∷ ks) = both _ _ _ _ k.1 (args_same ks)

  limits_step : (y : Limits-F N A KeptLimits KeptNode KeptExpr) → limits_by_parts (bare_limits_inside (bared_limits (inner_limits y))) ≡ limits_by_parts (limits_inside (inner_limits y))
  limits_step (Limits-F.Count k at) = k.1
  limits_step (Limits-F.ByteCount k at) = k.1
  limits_step (Limits-F.Between k j at) = both _ _ _ _ k.1 j.1
  limits_step (Limits-F.Unknown at) = refl

  node_step : (y : Node-F N A KeptLimits KeptNode KeptExpr) → node_by_parts (bare_node_inside (bared_node (inner_node y))) ≡ node_by_parts (node_inside (inner_node y))
  node_step (Node-F.Number n u) = refl
  node_step (Node-F.Text s) = refl
  node_step Node-F.Null = refl
  node_step (Node-F.Name n) = refl
  node_step (Node-F.Un o k) = k.1
  node_step (Node-F.Bin o k j) = both _ _ _ _ k.1 j.1
  node_step (Node-F.Pick k j i) = both _ _ _ _ (both _ _ _ _ k.1 j.1) i.1
  node_step (Node-F.Index k j) = both _ _ _ _ k.1 j.1
  node_step (Node-F.Dot k n at) = k.1
  node_step (Node-F.Arrow k n at) = k.1
  node_step (Node-F.Cast t k) = k.1
  node_step (Node-F.Size t) = refl
  node_step (Node-F.Trusted t k None) = both _ true _ true k.1 refl
  node_step (Node-F.Trusted t k (Some l)) = both _ _ _ _ k.1 l.1
  node_step (Node-F.Tested t k None) = both _ true _ true k.1 refl
  node_step (Node-F.Tested t k (Some l)) = both _ _ _ _ k.1 l.1
  node_step (Node-F.Call n ks) = args_same ks
  node_step (Node-F.Calloc t k u) = k.1

  limits_by : (x : LimitsLayer) (y : Limits-F N A KeptLimits KeptNode KeptExpr) → inner_limits y ≡ x → LimitsSame (roll-Limits N A x)
  limits_by x y is =
      ap limits_have_words (fold-roll-Limits N A (BareLimits N) (BareNode N) (BareExpr N) limits_bared node_bared expr_bared x)
      ∙ fold-roll-Limits N (Unit {0}) Bool Bool Bool limits_by_parts node_by_parts expr_by_parts (bared_limits x)
      ∙ subst (λ z. limits_by_parts (bare_limits_inside (bared_limits z)) ≡ limits_by_parts (limits_inside z)) is (limits_step y)
      ∙ sym (fold-roll-Limits N A Bool Bool Bool limits_by_parts node_by_parts expr_by_parts x)

  node_by : (x : NodeLayer) (y : Node-F N A KeptLimits KeptNode KeptExpr) → inner_node y ≡ x → NodeSame (roll-Node N A x)
  node_by x y is =
      ap node_has_words (fold-roll-Node N A (BareLimits N) (BareNode N) (BareExpr N) limits_bared node_bared expr_bared x)
      ∙ fold-roll-Node N (Unit {0}) Bool Bool Bool limits_by_parts node_by_parts expr_by_parts (bared_node x)
      ∙ subst (λ z. node_by_parts (bare_node_inside (bared_node z)) ≡ node_by_parts (node_inside z)) is (node_step y)
      ∙ sym (fold-roll-Node N A Bool Bool Bool limits_by_parts node_by_parts expr_by_parts x)

  expr_is : (e : Expr N A) → NodeSame e.node → ExprSame e
  expr_is e same =
      ap expr_has_words (fold-roll-Expr N A (BareLimits N) (BareNode N) (BareExpr N) limits_bared node_bared expr_bared (record { node = e.node; pos = e.pos; note = e.note }))
      ∙ fold-roll-Expr N (Unit {0}) Bool Bool Bool limits_by_parts node_by_parts expr_by_parts (record { node = bare_node e.node; pos = e.pos; note = tt })
      ∙ same ∙ sym (fold-roll-Expr N A Bool Bool Bool limits_by_parts node_by_parts expr_by_parts (record { node = e.node; pos = e.pos; note = e.note }))

  expr_by : (x : Expr-F N A (Limits N A) (Node N A) (Expr N A)) (y : Expr-F N A KeptLimits KeptNode KeptExpr) → inner_expr y ≡ x → ExprSame (roll-Expr N A x)
  expr_by x y is = subst (λ z. ExprSame (roll-Expr N A z)) is (expr_is (roll-Expr N A (inner_expr y)) y.node.1)

  of_limits : (l : Limits N A) → LimitsSame l
  of_limits = ind-Limits N A LimitsSame NodeSame ExprSame limits_by node_by expr_by

  of_expr : (e : Expr N A) → ExprSame e
  of_expr = ind-Expr N A LimitsSame NodeSame ExprSame limits_by node_by expr_by

  -- ---- declarations

  of_bounds : (l : Option (Limits N A)) → inside_if all_have limits_have_words (option_map bare_limits l) ≡ inside_if all_have limits_have_words l
  of_bounds = if_same all_have bare_limits limits_have_words limits_have_words of_limits

  of_value : (e : Option (Expr N A)) → inside_if all_have expr_has_words (option_map bare_expr e) ≡ inside_if all_have expr_has_words e
  of_value = if_same all_have bare_expr expr_has_words expr_has_words of_expr

  of_init : (i : Init N A) → init_has_words (bare_init i) ≡ init_has_words i
  of_init init.Nothing = refl
  of_init (init.One e) = of_expr e
  of_init (init.Many es) = each_same all_have bare_expr expr_has_words expr_has_words of_expr es

  of_decl : (d : Decl N A) → decl_has_words (bare_decl d) ≡ decl_has_words d
  of_decl d = both _ _ _ _ (of_bounds d.bounds) (of_init d.init)

  -- ---- statements

  abbrev ActSame : Act N A → Type 0
  ActSame a = act_has_words (bare_act a) ≡ act_has_words a

  abbrev StmtSame : Stmt N A → Type 0
  StmtSame s = stmt_has_words (bare_stmt s) ≡ stmt_has_words s

  abbrev KeptAct : Type 0
  KeptAct = (a : Act N A) × ActSame a

  abbrev KeptStmt : Type 0
  KeptStmt = (s : Stmt N A) × StmtSame s

  abbrev ActLayer : Type 0
  ActLayer = Act-F N A (Act N A) (Stmt N A)

  abbrev inner_act : Act-F N A KeptAct KeptStmt → ActLayer
  inner_act = map-Act N A KeptAct KeptStmt (Act N A) (Stmt N A) (λ e. e.0) (λ e. e.0)

  abbrev inner_stmt : Stmt-F N A KeptAct KeptStmt → Stmt-F N A (Act N A) (Stmt N A)
  inner_stmt = map-Stmt N A KeptAct KeptStmt (Act N A) (Stmt N A) (λ e. e.0) (λ e. e.0)

  abbrev bared_act : ActLayer → Act-F N (Unit {0}) (BareAct N) (BareStmt N)
  bared_act x = act_noteless (map-Act N A (Act N A) (Stmt N A) (BareAct N) (BareStmt N) bare_act bare_stmt x)

  abbrev act_inside : ActLayer → Act-F N A Bool Bool
  act_inside = map-Act N A (Act N A) (Stmt N A) Bool Bool act_has_words stmt_has_words

  abbrev bare_act_inside : Act-F N (Unit {0}) (BareAct N) (BareStmt N) → Act-F N (Unit {0}) Bool Bool
  bare_act_inside = map-Act N (Unit {0}) (BareAct N) (BareStmt N) Bool Bool act_has_words stmt_has_words

  stmts_same : (ks : List KeptStmt) → AllOf (map stmt_has_words (map bare_stmt (map (λ (k : KeptStmt). k.0) ks))) ≡ AllOf (map stmt_has_words (map (λ (k : KeptStmt). k.0) ks))
  stmts_same [] = refl
  stmts_same (k ∷ ks) = both _ _ _ _ k.1 (stmts_same ks)

  all_of : (a b c d e f g h : Bool) → a ≡ e → b ≡ f → c ≡ g → d ≡ h → (((a && b) && c) && d) ≡ (((e && f) && g) && h)
  all_of a b c d e f g h p q r s = both _ _ _ _ (both _ _ _ _ (both _ _ _ _ p q) r) s

  act_step : (y : Act-F N A KeptAct KeptStmt) → act_by_parts (bare_act_inside (bared_act (inner_act y))) ≡ act_by_parts (act_inside (inner_act y))
  act_step (Act-F.Block m ks) = stmts_same ks
  act_step Act-F.Empty = refl
  act_step (Act-F.Local d) = of_decl d
  act_step (Act-F.Assign e f) = both _ _ _ _ (of_expr e) (of_expr f)
  act_step (Act-F.Call e) = of_expr e
  act_step (Act-F.If e k None) = both _ true _ true (both _ _ _ _ (of_expr e) k.1) refl
  act_step (Act-F.If e k (Some l)) = both _ _ _ _ (both _ _ _ _ (of_expr e) k.1) l.1
  act_step (Act-F.While e k) = both _ _ _ _ (of_expr e) k.1
  act_step (Act-F.For None e None k) = all_of true _ true _ true _ true _ refl (of_value e) refl k.1
  act_step (Act-F.For None e (Some m) k) = all_of true _ _ _ true _ _ _ refl (of_value e) m.1 k.1
  act_step (Act-F.For (Some l) e None k) = all_of _ _ true _ _ _ true _ l.1 (of_value e) refl k.1
  act_step (Act-F.For (Some l) e (Some m) k) = all_of _ _ _ _ _ _ _ _ l.1 (of_value e) m.1 k.1
  act_step (Act-F.Return e) = of_value e
  act_step Act-F.Break = refl
  act_step Act-F.Continue = refl
  act_step (Act-F.Check e) = of_expr e
  act_step (Act-F.Bundle ks) = stmts_same ks

  act_by : (x : ActLayer) (y : Act-F N A KeptAct KeptStmt) → inner_act y ≡ x → ActSame (roll-Act N A x)
  act_by x y is =
      ap act_has_words (fold-roll-Act N A (BareAct N) (BareStmt N) act_bared stmt_bared x)
      ∙ fold-roll-Act N (Unit {0}) Bool Bool act_by_parts stmt_by_parts (bared_act x)
      ∙ subst (λ z. act_by_parts (bare_act_inside (bared_act z)) ≡ act_by_parts (act_inside z)) is (act_step y)
      ∙ sym (fold-roll-Act N A Bool Bool act_by_parts stmt_by_parts x)

  stmt_is : (s : Stmt N A) → ActSame s.body → StmtSame s
  stmt_is s same =
      ap stmt_has_words (fold-roll-Stmt N A (BareAct N) (BareStmt N) act_bared stmt_bared (record { body = s.body; pos = s.pos; note = s.note }))
      ∙ fold-roll-Stmt N (Unit {0}) Bool Bool act_by_parts stmt_by_parts (record { body = bare_act s.body; pos = s.pos; note = tt })
      ∙ same ∙ sym (fold-roll-Stmt N A Bool Bool act_by_parts stmt_by_parts (record { body = s.body; pos = s.pos; note = s.note }))

  stmt_by : (x : Stmt-F N A (Act N A) (Stmt N A)) (y : Stmt-F N A KeptAct KeptStmt) → inner_stmt y ≡ x → StmtSame (roll-Stmt N A x)
  stmt_by x y is = subst (λ z. StmtSame (roll-Stmt N A z)) is (stmt_is (roll-Stmt N A (inner_stmt y)) y.body.1)

  of_stmt : (s : Stmt N A) → StmtSame s
  of_stmt = ind-Stmt N A ActSame StmtSame act_by stmt_by

  -- ---- items

  of_head : (h : Head N A) → head_has_words (bare_head h) ≡ head_has_words h
  of_head h = both _ _ _ _ (each_same all_have bare_decl decl_has_words decl_has_words of_decl h.params) (of_bounds h.bounds)

  of_item : (i : Item N A) → item_has_words (bare_item i) ≡ item_has_words i
  of_item (item.Directive d) = refl
  of_item (item.Tag n at) = refl
  of_item (item.Struct n members at) = each_same all_have bare_decl decl_has_words decl_has_words of_decl members
  of_item (item.Static d) = of_decl d
  of_item (item.Proto h) = of_head h
  of_item (item.Function h body) = both _ _ _ _ (of_head h) (of_stmt body)

  pub of_tree : (t : Tree N A) → tree_has_words (without_notes t) ≡ tree_has_words t
  of_tree t = each_same all_have bare_item item_has_words item_has_words of_item t.items
