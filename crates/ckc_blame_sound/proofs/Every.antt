-- If two rules hold of each expression in an expression, so does what follows from both.
use Rattle.std.proofs.Common.{◌≡◌, sym, subst, refl, List, [], ◌∷◌, map, ap}
use Rattle.std.specs.Prelude.{Option, Some, None}
use Rattle.ckc_syntax.specs.declared.tree.Name.{Name}
use Rattle.ckc_syntax.specs.declared.tree.Limits.{Limits-F, map-Limits, roll-Limits, every-Limits, every_held-Limits, every_made-Limits}
use Rattle.ckc_syntax.specs.declared.tree.Node.{Node-F, map-Node, roll-Node, every-Node, every_held-Node, every_made-Node}
use Rattle.ckc_syntax.specs.declared.tree.Expr.{Expr-F, map-Expr, ind-Expr, roll-Expr, every-Expr, every_here-Expr, every_held-Expr, every_made-Expr}
use Rattle.ckc_typed.specs.declared.typed.Note.{Note}
use Rattle.ckc_typed.specs.Trees.{NotedLimits, NotedNode, NotedExpr, NotedLayer}
use Rattle.ckc_typed_welltyped.specs.Expressions.{AnyLimits, AnyNode}
use Rattle.ckc_typed_welltyped.proofs.Nodes.{node_out, limits_out}

abbrev pub LimitsLayer : Type 0
LimitsLayer = Limits-F Name Note NotedLimits NotedNode NotedExpr

abbrev pub ExprLayer : Type 0
ExprLayer = Expr-F Name Note NotedLimits NotedNode NotedExpr

-- ---- one rule

module _ (P : ExprLayer → Type 0) where
  abbrev pub EachLimits : NotedLimits → Type 0
  EachLimits = every-Limits Name Note AnyLimits AnyNode P

  abbrev pub EachNode : NotedNode → Type 0
  EachNode = every-Node Name Note AnyLimits AnyNode P

  abbrev pub EachExpr : NotedExpr → Type 0
  EachExpr = every-Expr Name Note AnyLimits AnyNode P

  abbrev FitLimits : Type 0
  FitLimits = (l : NotedLimits) × EachLimits l

  abbrev FitNode : Type 0
  FitNode = (n : NotedNode) × EachNode n

  abbrev FitExpr : Type 0
  FitExpr = (e : NotedExpr) × EachExpr e

  abbrev limits_bare : Limits-F Name Note FitLimits FitNode FitExpr → LimitsLayer
  limits_bare = map-Limits Name Note FitLimits FitNode FitExpr NotedLimits NotedNode NotedExpr (λ e. e.0) (λ e. e.0) (λ e. e.0)

  abbrev node_bare : Node-F Name Note FitLimits FitNode FitExpr → NotedLayer
  node_bare = map-Node Name Note FitLimits FitNode FitExpr NotedLimits NotedNode NotedExpr (λ e. e.0) (λ e. e.0) (λ e. e.0)

  abbrev pub LimitsParts : LimitsLayer → Type 0
  LimitsParts (Limits-F.Count e at) = EachExpr e
  LimitsParts (Limits-F.ByteCount e at) = EachExpr e
  LimitsParts (Limits-F.Between e f at) = EachExpr e × EachExpr f
  LimitsParts (Limits-F.Unknown at) = Unit {0}

  abbrev pub AllEach : List NotedExpr → Type 0
  AllEach [] = Unit {0}
  AllEach (e ∷ es) = EachExpr e × AllEach es

  abbrev pub EachIf : Option NotedLimits → Type 0
  EachIf None = Unit {0}
  EachIf (Some l) = EachLimits l

  abbrev pub NodeParts : NotedLayer → Type 0
  NodeParts (Node-F.Un o e) = EachExpr e
  NodeParts (Node-F.Bin o e f) = EachExpr e × EachExpr f
  NodeParts (Node-F.Pick e f g) = EachExpr e × EachExpr f × EachExpr g
  NodeParts (Node-F.Index e f) = EachExpr e × EachExpr f
  NodeParts (Node-F.Dot e n at) = EachExpr e
  NodeParts (Node-F.Arrow e n at) = EachExpr e
  NodeParts (Node-F.Cast w e) = EachExpr e
  NodeParts (Node-F.Trusted w e l) = EachExpr e × EachIf l
  NodeParts (Node-F.Tested w e l) = EachExpr e × EachIf l
  NodeParts (Node-F.Call n es) = AllEach es
  NodeParts (Node-F.Calloc w e u) = EachExpr e
  NodeParts n = Unit {0}

  limits_parts_of : (z : Limits-F Name Note FitLimits FitNode FitExpr) → LimitsParts (limits_bare z)
  limits_parts_of (Limits-F.Count e at) = e.1
  limits_parts_of (Limits-F.ByteCount e at) = e.1
  limits_parts_of (Limits-F.Between e f at) = (e.1, f.1)
  limits_parts_of (Limits-F.Unknown at) = tt

  all_of : (zs : List FitExpr) → AllEach (map (λ (e : FitExpr). e.0) zs)
  all_of [] = tt
  all_of (z ∷ zs) = (z.1, all_of zs)

  node_parts_of : (z : Node-F Name Note FitLimits FitNode FitExpr) → NodeParts (node_bare z)
  node_parts_of (Node-F.Un o e) = e.1
  node_parts_of (Node-F.Bin o e f) = (e.1, f.1)
  node_parts_of (Node-F.Pick e f g) = (e.1, f.1, g.1)
  node_parts_of (Node-F.Index e f) = (e.1, f.1)
  node_parts_of (Node-F.Dot e n at) = e.1
  node_parts_of (Node-F.Arrow e n at) = e.1
  node_parts_of (Node-F.Cast w e) = e.1
  node_parts_of (Node-F.Trusted w e None) = (e.1, tt)
  node_parts_of (Node-F.Trusted w e (Some l)) = (e.1, l.1)
  node_parts_of (Node-F.Tested w e None) = (e.1, tt)
  node_parts_of (Node-F.Tested w e (Some l)) = (e.1, l.1)
  node_parts_of (Node-F.Call n es) = all_of es
  node_parts_of (Node-F.Calloc w e u) = e.1
  node_parts_of z = tt

  pub limits_hold : (x : LimitsLayer) → EachLimits (roll-Limits Name Note x) → LimitsParts x
  limits_hold x w =
      let h = every_held-Limits Name Note AnyLimits AnyNode P (roll-Limits Name Note x) w in
      subst LimitsParts (limits_out x) (subst LimitsParts h.1 (limits_parts_of h.0))

  pub node_hold : (x : NotedLayer) → EachNode (roll-Node Name Note x) → NodeParts x
  node_hold x w =
      let h = every_held-Node Name Note AnyLimits AnyNode P (roll-Node Name Note x) w in
      subst NodeParts (node_out x) (subst NodeParts h.1 (node_parts_of h.0))

  pub inside : (e : NotedExpr) → EachExpr e → EachNode e.node
  inside e w =
      let h = every_held-Expr Name Note AnyLimits AnyNode P e w in
      subst EachNode (ap (λ (d : ExprLayer). d.node) h.1) h.0.node.1

-- ---- two rules

module _ (P W Q : ExprLayer → Type 0) (follows : (x : ExprLayer) → P x → W x → Q x) where
  record LimitsFollow (l : NotedLimits) : Type 0 where
    pub follow : EachLimits P l → EachLimits W l → EachLimits Q l

  record NodeFollows (n : NotedNode) : Type 0 where
    pub follow : EachNode P n → EachNode W n → EachNode Q n

  record ExprFollows (e : NotedExpr) : Type 0 where
    pub follow : EachExpr P e → EachExpr W e → EachExpr Q e

  abbrev KeptLimits : Type 0
  KeptLimits = (l : NotedLimits) × LimitsFollow l

  abbrev KeptNode : Type 0
  KeptNode = (n : NotedNode) × NodeFollows n

  abbrev KeptExpr : Type 0
  KeptExpr = (e : NotedExpr) × ExprFollows e

  abbrev inner_limits : Limits-F Name Note KeptLimits KeptNode KeptExpr → LimitsLayer
  inner_limits = map-Limits Name Note KeptLimits KeptNode KeptExpr NotedLimits NotedNode NotedExpr (λ e. e.0) (λ e. e.0) (λ e. e.0)

  abbrev inner_node : Node-F Name Note KeptLimits KeptNode KeptExpr → NotedLayer
  inner_node = map-Node Name Note KeptLimits KeptNode KeptExpr NotedLimits NotedNode NotedExpr (λ e. e.0) (λ e. e.0) (λ e. e.0)

  abbrev inner_expr : Expr-F Name Note KeptLimits KeptNode KeptExpr → ExprLayer
  inner_expr = map-Expr Name Note KeptLimits KeptNode KeptExpr NotedLimits NotedNode NotedExpr (λ e. e.0) (λ e. e.0) (λ e. e.0)

  abbrev MadeLimits : LimitsLayer → Type 0
  MadeLimits x = (z : Limits-F Name Note (FitLimits Q) (FitNode Q) (FitExpr Q)) × (limits_bare Q z ≡ x)

  abbrev MadeNode : NotedLayer → Type 0
  MadeNode x = (z : Node-F Name Note (FitLimits Q) (FitNode Q) (FitExpr Q)) × (node_bare Q z ≡ x)

  abbrev one : (k : KeptExpr) → EachExpr P k.0 → EachExpr W k.0 → FitExpr Q
  one k p w = (k.0, k.1.follow p w)

  limits_step : (y : Limits-F Name Note KeptLimits KeptNode KeptExpr) → LimitsParts P (inner_limits y) → LimitsParts W (inner_limits y) → MadeLimits (inner_limits y)
  limits_step (Limits-F.Count k at) p w = (Limits-F.Count (one k p w) at, refl)
  limits_step (Limits-F.ByteCount k at) p w = (Limits-F.ByteCount (one k p w) at, refl)
  limits_step (Limits-F.Between k j at) p w = (Limits-F.Between (one k p.0 w.0) (one j p.1 w.1) at, refl)
  limits_step (Limits-F.Unknown at) p w = (Limits-F.Unknown at, refl)

  abbrev firsts : List KeptExpr → List NotedExpr
  firsts ks = map (λ (k : KeptExpr). k.0) ks

  all_step : (ks : List KeptExpr) → AllEach P (firsts ks) → AllEach W (firsts ks) → (zs : List (FitExpr Q)) × (map (λ (e : FitExpr Q). e.0) zs ≡ firsts ks)
  all_step [] p w = ([], refl)
  all_step (k ∷ ks) p w = let r = all_step ks p.1 w.1 in (one k p.0 w.0 ∷ r.0, ap (λ es. k.0 ∷ es) r.1)

  abbrev bounds : (l : KeptLimits) → EachLimits P l.0 → EachLimits W l.0 → FitLimits Q
  bounds l p w = (l.0, l.1.follow p w)

  node_step : (y : Node-F Name Note KeptLimits KeptNode KeptExpr) → NodeParts P (inner_node y) → NodeParts W (inner_node y) → MadeNode (inner_node y)
  node_step (Node-F.Number n u) p w = (Node-F.Number n u, refl)
  node_step (Node-F.Text bytes) p w = (Node-F.Text bytes, refl)
  node_step Node-F.Null p w = (Node-F.Null, refl)
  node_step (Node-F.Name n) p w = (Node-F.Name n, refl)
  node_step (Node-F.Un o k) p w = (Node-F.Un o (one k p w), refl)
  node_step (Node-F.Bin o k j) p w = (Node-F.Bin o (one k p.0 w.0) (one j p.1 w.1), refl)
  node_step (Node-F.Pick k j i) p w = (Node-F.Pick (one k p.0 w.0) (one j p.1 w.1) (one i p.2 w.2), refl)
  node_step (Node-F.Index k j) p w = (Node-F.Index (one k p.0 w.0) (one j p.1 w.1), refl)
  node_step (Node-F.Dot k n at) p w = (Node-F.Dot (one k p w) n at, refl)
  node_step (Node-F.Arrow k n at) p w = (Node-F.Arrow (one k p w) n at, refl)
  node_step (Node-F.Cast t k) p w = (Node-F.Cast t (one k p w), refl)
  node_step (Node-F.Size t) p w = (Node-F.Size t, refl)
  node_step (Node-F.Trusted t k None) p w = (Node-F.Trusted t (one k p.0 w.0) None, refl)
  node_step (Node-F.Trusted t k (Some l)) p w = (Node-F.Trusted t (one k p.0 w.0) (Some (bounds l p.1 w.1)), refl)
  node_step (Node-F.Tested t k None) p w = (Node-F.Tested t (one k p.0 w.0) None, refl)
  node_step (Node-F.Tested t k (Some l)) p w = (Node-F.Tested t (one k p.0 w.0) (Some (bounds l p.1 w.1)), refl)
  node_step (Node-F.Call n ks) p w = let r = all_step ks p w in (Node-F.Call n r.0, ap (λ es. Node-F.Call n es) r.1)
  node_step (Node-F.Calloc t k u) p w = (Node-F.Calloc t (one k p w) u, refl)

  limits_by : (x : LimitsLayer) (y : Limits-F Name Note KeptLimits KeptNode KeptExpr) → inner_limits y ≡ x → LimitsFollow (roll-Limits Name Note x)
  limits_by x y is = record {
    follow = λ p w.
        let m = limits_step y (subst (LimitsParts P) (sym is) (limits_hold P x p)) (subst (LimitsParts W) (sym is) (limits_hold W x w)) in
        subst (λ z. EachLimits Q (roll-Limits Name Note z)) is (every_made-Limits Name Note AnyLimits AnyNode Q (inner_limits y) m.0 m.1 tt);
  }

  node_by : (x : NotedLayer) (y : Node-F Name Note KeptLimits KeptNode KeptExpr) → inner_node y ≡ x → NodeFollows (roll-Node Name Note x)
  node_by x y is = record {
    follow = λ p w.
        let m = node_step y (subst (NodeParts P) (sym is) (node_hold P x p)) (subst (NodeParts W) (sym is) (node_hold W x w)) in
        subst (λ z. EachNode Q (roll-Node Name Note z)) is (every_made-Node Name Note AnyLimits AnyNode Q (inner_node y) m.0 m.1 tt);
  }

  expr_is : (e : NotedExpr) → NodeFollows e.node → ExprFollows e
  expr_is e h = record {
    follow = λ p w.
        every_made-Expr Name Note AnyLimits AnyNode Q (record { node = e.node; pos = e.pos; note = e.note })
        (record { node = (e.node, h.follow (inside P e p) (inside W e w)); pos = e.pos; note = e.note }) refl
        (follows (record { node = e.node; pos = e.pos; note = e.note }) (every_here-Expr Name Note AnyLimits AnyNode P e p) (every_here-Expr Name Note AnyLimits AnyNode W e w));
  }

  expr_by : (x : ExprLayer) (y : Expr-F Name Note KeptLimits KeptNode KeptExpr) → inner_expr y ≡ x → ExprFollows (roll-Expr Name Note x)
  expr_by x y is = subst (λ z. ExprFollows (roll-Expr Name Note z)) is (expr_is (roll-Expr Name Note (inner_expr y)) y.node.1)

  -- of each expression in an expression
  pub each_follows : (e : NotedExpr) → EachExpr P e → EachExpr W e → EachExpr Q e
  each_follows e = (ind-Expr Name Note LimitsFollow NodeFollows ExprFollows limits_by node_by expr_by e).follow
