-- Induction on expressions and bounds by layers: what each layer has whose parts have it, all have. A property speaks of
-- a tree and of its value by a fold.
use Rattle.std.proofs.Common.{◌≡◌, sym, subst}
use Rattle.ckc_syntax.specs.declared.tree.Limits.{Limits, Limits-F, map-Limits, ind-Limits, roll-Limits, fold-Limits, fold-roll-Limits}
use Rattle.ckc_syntax.specs.declared.tree.Node.{Node, Node-F, map-Node, roll-Node, fold-Node, fold-roll-Node}
use Rattle.ckc_syntax.specs.declared.tree.Expr.{Expr, Expr-F, map-Expr, ind-Expr, roll-Expr, fold-Expr, fold-roll-Expr}

-- the steps of a fold
pub record Steps (N A L M E : Type 0) : Type 0 where
  pub limits : Limits-F N A L M E → L
  pub node : Node-F N A L M E → M
  pub expr : Expr-F N A L M E → E

pub record Property (N A L M E : Type 0) : Type 1 where
  pub limits : Limits N A → L → Type 0
  pub node : Node N A → M → Type 0
  pub expr : Expr N A → E → Type 0

module _ {N A L M E : Type 0} (steps : Steps N A L M E) (has : Property N A L M E) where
  abbrev limits_value : Limits N A → L
  limits_value = fold-Limits N A L M E steps.limits steps.node steps.expr

  abbrev node_value : Node N A → M
  node_value = fold-Node N A L M E steps.limits steps.node steps.expr

  abbrev expr_value : Expr N A → E
  expr_value = fold-Expr N A L M E steps.limits steps.node steps.expr

  -- a tree that has the property
  abbrev pub KeptLimits : Type 0
  KeptLimits = (l : Limits N A) × has.limits l (limits_value l)

  abbrev pub KeptNode : Type 0
  KeptNode = (n : Node N A) × has.node n (node_value n)

  abbrev pub KeptExpr : Type 0
  KeptExpr = (e : Expr N A) × has.expr e (expr_value e)

  -- a layer whose parts have it, the same layer alone, and with the values of its parts
  abbrev pub LimitsLayer : Type 0
  LimitsLayer = Limits-F N A KeptLimits KeptNode KeptExpr

  abbrev pub NodeLayer : Type 0
  NodeLayer = Node-F N A KeptLimits KeptNode KeptExpr

  abbrev pub ExprLayer : Type 0
  ExprLayer = Expr-F N A KeptLimits KeptNode KeptExpr

  abbrev pub inner_limits : LimitsLayer → Limits-F N A (Limits N A) (Node N A) (Expr N A)
  inner_limits = map-Limits N A KeptLimits KeptNode KeptExpr (Limits N A) (Node N A) (Expr N A) (λ e. e.0) (λ e. e.0) (λ e. e.0)

  abbrev pub inner_node : NodeLayer → Node-F N A (Limits N A) (Node N A) (Expr N A)
  inner_node = map-Node N A KeptLimits KeptNode KeptExpr (Limits N A) (Node N A) (Expr N A) (λ e. e.0) (λ e. e.0) (λ e. e.0)

  abbrev pub inner_expr : ExprLayer → Expr-F N A (Limits N A) (Node N A) (Expr N A)
  inner_expr = map-Expr N A KeptLimits KeptNode KeptExpr (Limits N A) (Node N A) (Expr N A) (λ e. e.0) (λ e. e.0) (λ e. e.0)

  abbrev valued_limits : Limits-F N A (Limits N A) (Node N A) (Expr N A) → Limits-F N A L M E
  valued_limits = map-Limits N A (Limits N A) (Node N A) (Expr N A) L M E limits_value node_value expr_value

  abbrev valued_node : Node-F N A (Limits N A) (Node N A) (Expr N A) → Node-F N A L M E
  valued_node = map-Node N A (Limits N A) (Node N A) (Expr N A) L M E limits_value node_value expr_value

  abbrev valued_expr : Expr-F N A (Limits N A) (Node N A) (Expr N A) → Expr-F N A L M E
  valued_expr = map-Expr N A (Limits N A) (Node N A) (Expr N A) L M E limits_value node_value expr_value

  -- the value of a layer
  abbrev pub limits_made : LimitsLayer → L
  limits_made y = steps.limits (valued_limits (inner_limits y))

  abbrev pub node_made : NodeLayer → M
  node_made y = steps.node (valued_node (inner_node y))

  abbrev pub expr_made : ExprLayer → E
  expr_made y = steps.expr (valued_expr (inner_expr y))

  module _ (limits_step : (y : LimitsLayer) → has.limits (roll-Limits N A (inner_limits y)) (limits_made y))
      (node_step : (y : NodeLayer) → has.node (roll-Node N A (inner_node y)) (node_made y))
      (expr_step : (y : ExprLayer) → has.expr (roll-Expr N A (inner_expr y)) (expr_made y)) where
    limits_by : (x : Limits-F N A (Limits N A) (Node N A) (Expr N A)) (y : LimitsLayer) → inner_limits y ≡ x → has.limits (roll-Limits N A x) (limits_value (roll-Limits N A x))
    limits_by x y is =
        subst (has.limits (roll-Limits N A x)) (sym (fold-roll-Limits N A L M E steps.limits steps.node steps.expr x))
        (subst (λ z. has.limits (roll-Limits N A z) (steps.limits (valued_limits z))) is (limits_step y))

    node_by : (x : Node-F N A (Limits N A) (Node N A) (Expr N A)) (y : NodeLayer) → inner_node y ≡ x → has.node (roll-Node N A x) (node_value (roll-Node N A x))
    node_by x y is =
        subst (has.node (roll-Node N A x)) (sym (fold-roll-Node N A L M E steps.limits steps.node steps.expr x))
        (subst (λ z. has.node (roll-Node N A z) (steps.node (valued_node z))) is (node_step y))

    expr_by : (x : Expr-F N A (Limits N A) (Node N A) (Expr N A)) (y : ExprLayer) → inner_expr y ≡ x → has.expr (roll-Expr N A x) (expr_value (roll-Expr N A x))
    expr_by x y is =
        subst (has.expr (roll-Expr N A x)) (sym (fold-roll-Expr N A L M E steps.limits steps.node steps.expr x))
        (subst (λ z. has.expr (roll-Expr N A z) (steps.expr (valued_expr z))) is (expr_step y))

    pub each_limits : (l : Limits N A) → has.limits l (limits_value l)
    each_limits = ind-Limits N A (λ l. has.limits l (limits_value l)) (λ n. has.node n (node_value n)) (λ e. has.expr e (expr_value e)) limits_by node_by expr_by

    pub each_expr : (e : Expr N A) → has.expr e (expr_value e)
    each_expr = ind-Expr N A (λ l. has.limits l (limits_value l)) (λ n. has.node n (node_value n)) (λ e. has.expr e (expr_value e)) limits_by node_by expr_by
