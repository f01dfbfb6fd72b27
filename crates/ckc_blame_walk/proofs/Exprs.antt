-- Each local that an expression names is in scope, if its names are visible.
use Rattle.std.proofs.Common.{◌≡◌, sym, ap, subst, refl, ◌∙◌, ℕ, Bool, true, false, List, [], ◌∷◌, map, rules}
use Rattle.std.specs.Prelude.{◌||◌, Some, None}
use Rattle.std.specs.List.{list_all, Contains}
use Rattle.ckc_syntax.specs.declared.tree.Name.{Name}
use Rattle.ckc_syntax.specs.declared.tree.Name.TheVariants as name
use Rattle.ckc_syntax.specs.declared.tree.Limits.{Limits-F, map-Limits, roll-Limits, fold-roll-Limits, every_made-Limits}
use Rattle.ckc_syntax.specs.declared.tree.Node.{Node-F, map-Node, out-Node, roll-Node, fold-roll-Node, every_made-Node, the_lemmas}
use Rattle.ckc_syntax.specs.declared.tree.Expr.{Expr-F, map-Expr, ind-Expr, roll-Expr, fold-roll-Expr, every_made-Expr}
use Rattle.ckc_typed.specs.declared.typed.Note.{Note}
use Rattle.ckc_typed.specs.Trees.{NotedLimits, NotedNode, NotedExpr, NotedLayer}
use Rattle.ckc_typed_welltyped.specs.Expressions.{AnyLimits, AnyNode}
use Rattle.ckc_typed_welltyped.specs.Noteless.{BareLimits, BareNode, BareExpr, limits_noteless, node_noteless, expr_noteless, limits_bared, node_bared, expr_bared, bare_limits, bare_node, bare_expr}
use Rattle.ckc_typed_welltyped.proofs.Nodes.{node_out}
use Rattle.ckc_resolve.specs.Trees.{NamedItem}
use Rattle.ckc_typed_fit.specs.Tests.{Tests, limits_parts, node_parts, expr_parts, limits_pass, node_passes, expr_passes}
use Rattle.ckc_typed_fit.specs.Visible.{is_visible}
use Rattle.ckc_blame_sound.specs.ckc_bounds_known.proofs.Reaching.{and_cases}
use Rattle.ckc_blame_sound.specs.Scopes.{IsAmong, NamesAmong, NamesSeen}
use Rattle.ckc_blame_sound.proofs.Every.{LimitsLayer, ExprLayer, EachLimits, EachNode, EachExpr}
use Rattle.ckc_blame_walk.specs.Scopes.{tests_of, HasLocal}

module _ (tests : Tests) (visible : List Name) where
  -- ---- a level of an expression without its notes

  abbrev pub limits_open : LimitsLayer → Bool
  limits_open x =
      limits_parts (map-Limits Name (Unit {0}) (BareLimits Name) (BareNode Name) (BareExpr Name) Bool Bool Bool (limits_pass tests visible) (node_passes tests visible) (expr_passes tests visible)
      (limits_noteless (map-Limits Name Note NotedLimits NotedNode NotedExpr (BareLimits Name) (BareNode Name) (BareExpr Name) bare_limits bare_node bare_expr x)))

  abbrev pub node_open : NotedLayer → Bool
  node_open x =
      node_parts tests visible (map-Node Name (Unit {0}) (BareLimits Name) (BareNode Name) (BareExpr Name) Bool Bool Bool (limits_pass tests visible) (node_passes tests visible) (expr_passes tests visible)
      (node_noteless (map-Node Name Note NotedLimits NotedNode NotedExpr (BareLimits Name) (BareNode Name) (BareExpr Name) bare_limits bare_node bare_expr x)))

  pub limits_opened : (x : LimitsLayer) → limits_pass tests visible (bare_limits (roll-Limits Name Note x)) ≡ limits_open x
  limits_opened x =
      ap (limits_pass tests visible) (fold-roll-Limits Name Note (BareLimits Name) (BareNode Name) (BareExpr Name) limits_bared node_bared expr_bared x)
      ∙ fold-roll-Limits Name (Unit {0}) Bool Bool Bool limits_parts (node_parts tests visible) expr_parts
      (limits_noteless (map-Limits Name Note NotedLimits NotedNode NotedExpr (BareLimits Name) (BareNode Name) (BareExpr Name) bare_limits bare_node bare_expr x))

  node_opened : (x : NotedLayer) → node_passes tests visible (bare_node (roll-Node Name Note x)) ≡ node_open x
  node_opened x =
      ap (node_passes tests visible) (fold-roll-Node Name Note (BareLimits Name) (BareNode Name) (BareExpr Name) limits_bared node_bared expr_bared x)
      ∙ fold-roll-Node Name (Unit {0}) Bool Bool Bool limits_parts (node_parts tests visible) expr_parts
      (node_noteless (map-Node Name Note NotedLimits NotedNode NotedExpr (BareLimits Name) (BareNode Name) (BareExpr Name) bare_limits bare_node bare_expr x))

  expr_opened : (x : ExprLayer) → expr_passes tests visible (bare_expr (roll-Expr Name Note x)) ≡ node_passes tests visible (bare_node x.node)
  expr_opened x =
      ap (expr_passes tests visible) (fold-roll-Expr Name Note (BareLimits Name) (BareNode Name) (BareExpr Name) limits_bared node_bared expr_bared x)
      ∙ fold-roll-Expr Name (Unit {0}) Bool Bool Bool limits_parts (node_parts tests visible) expr_parts
      (expr_noteless (map-Expr Name Note NotedLimits NotedNode NotedExpr (BareLimits Name) (BareNode Name) (BareExpr Name) bare_limits bare_node bare_expr x))

  node_back : (n : NotedNode) → roll-Node Name Note (out-Node Name Note n) ≡ n
  node_back n = search (rules, the_lemmas)

  -- the names in an expression, by its node
  pub expr_is_open : (e : NotedExpr) → expr_passes tests visible (bare_expr e) ≡ node_open (out-Node Name Note e.node)
  expr_is_open e =
      expr_opened (record { node = e.node; pos = e.pos; note = e.note })
      ∙ ap (λ n. node_passes tests visible (bare_node n)) (sym (node_back e.node)) ∙ node_opened (out-Node Name Note e.node)

  -- ---- what follows of each node from its test follows of each one in an expression

  module _ (R : NotedLayer → Type 0) (so : (x : NotedLayer) → node_open x ≡ true → R x) where
    abbrev Q : ExprLayer → Type 0
    Q e = R (out-Node Name Note e.node)

    record LimitsSeen (l : NotedLimits) : Type 0 where
      pub follow : limits_pass tests visible (bare_limits l) ≡ true → EachLimits Q l

    record NodeSeen (n : NotedNode) : Type 0 where
      pub follow : node_passes tests visible (bare_node n) ≡ true → EachNode Q n
      pub here : node_passes tests visible (bare_node n) ≡ true → R (out-Node Name Note n)

    record ExprSeen (e : NotedExpr) : Type 0 where
      pub follow : expr_passes tests visible (bare_expr e) ≡ true → EachExpr Q e

    abbrev KeptLimits : Type 0
    KeptLimits = (l : NotedLimits) × LimitsSeen l

    abbrev KeptNode : Type 0
    KeptNode = (n : NotedNode) × NodeSeen n

    abbrev KeptExpr : Type 0
    KeptExpr = (e : NotedExpr) × ExprSeen e

    abbrev FitLimits : Type 0
    FitLimits = (l : NotedLimits) × EachLimits Q l

    abbrev FitNode : Type 0
    FitNode = (n : NotedNode) × EachNode Q n

    abbrev FitExpr : Type 0
    FitExpr = (e : NotedExpr) × EachExpr Q e

    abbrev inner_limits : Limits-F Name Note KeptLimits KeptNode KeptExpr → LimitsLayer
    inner_limits = map-Limits Name Note KeptLimits KeptNode KeptExpr NotedLimits NotedNode NotedExpr (λ e. e.0) (λ e. e.0) (λ e. e.0)

    abbrev inner_node : Node-F Name Note KeptLimits KeptNode KeptExpr → NotedLayer
    inner_node = map-Node Name Note KeptLimits KeptNode KeptExpr NotedLimits NotedNode NotedExpr (λ e. e.0) (λ e. e.0) (λ e. e.0)

    abbrev inner_expr : Expr-F Name Note KeptLimits KeptNode KeptExpr → ExprLayer
    inner_expr = map-Expr Name Note KeptLimits KeptNode KeptExpr NotedLimits NotedNode NotedExpr (λ e. e.0) (λ e. e.0) (λ e. e.0)

    abbrev limits_bare : Limits-F Name Note FitLimits FitNode FitExpr → LimitsLayer
    limits_bare = map-Limits Name Note FitLimits FitNode FitExpr NotedLimits NotedNode NotedExpr (λ e. e.0) (λ e. e.0) (λ e. e.0)

    abbrev node_bare : Node-F Name Note FitLimits FitNode FitExpr → NotedLayer
    node_bare = map-Node Name Note FitLimits FitNode FitExpr NotedLimits NotedNode NotedExpr (λ e. e.0) (λ e. e.0) (λ e. e.0)

    abbrev MadeLimits : LimitsLayer → Type 0
    MadeLimits x = (z : Limits-F Name Note FitLimits FitNode FitExpr) × (limits_bare z ≡ x)

    abbrev MadeNode : NotedLayer → Type 0
    MadeNode x = (z : Node-F Name Note FitLimits FitNode FitExpr) × (node_bare z ≡ x)

    abbrev one : (k : KeptExpr) → expr_passes tests visible (bare_expr k.0) ≡ true → FitExpr
    one k h = (k.0, k.1.follow h)

    abbrev firsts : List KeptExpr → List NotedExpr
    firsts ks = map (λ (k : KeptExpr). k.0) ks

    limits_step : (y : Limits-F Name Note KeptLimits KeptNode KeptExpr) → limits_open (inner_limits y) ≡ true → MadeLimits (inner_limits y)
    limits_step (Limits-F.Count k at) h = (Limits-F.Count (one k h) at, refl)
    limits_step (Limits-F.ByteCount k at) h = (Limits-F.ByteCount (one k h) at, refl)
    limits_step (Limits-F.Between k j at) h = let p = and_cases _ _ h in (Limits-F.Between (one k p.0) (one j p.1) at, refl)
    limits_step (Limits-F.Unknown at) h = (Limits-F.Unknown at, refl)

    all_step : (ks : List KeptExpr) → list_all (λ (b : Bool). b) (map (expr_passes tests visible) (map bare_expr (firsts ks))) ≡ true
        → (zs : List FitExpr) × (map (λ (e : FitExpr). e.0) zs ≡ firsts ks)
    all_step [] h = ([], refl)
    all_step (k ∷ ks) h = let p = and_cases _ _ h in let r = all_step ks p.1 in (one k p.0 ∷ r.0, ap (λ es. k.0 ∷ es) r.1)

    abbrev bounds : (l : KeptLimits) → limits_pass tests visible (bare_limits l.0) ≡ true → FitLimits
    bounds l h = (l.0, l.1.follow h)

    node_step : (y : Node-F Name Note KeptLimits KeptNode KeptExpr) → node_open (inner_node y) ≡ true → MadeNode (inner_node y)
    node_step (Node-F.Number n u) h = (Node-F.Number n u, refl)
    node_step (Node-F.Text bytes) h = (Node-F.Text bytes, refl)
    node_step Node-F.Null h = (Node-F.Null, refl)
    node_step (Node-F.Name n) h = (Node-F.Name n, refl)
    node_step (Node-F.Un o k) h = (Node-F.Un o (one k h), refl)
    node_step (Node-F.Bin o k j) h = let p = and_cases _ _ h in (Node-F.Bin o (one k p.0) (one j p.1), refl)
    node_step (Node-F.Pick k j i) h = let q = and_cases _ _ h in let p = and_cases _ _ q.0 in (Node-F.Pick (one k p.0) (one j p.1) (one i q.1), refl)
    node_step (Node-F.Index k j) h = let p = and_cases _ _ h in (Node-F.Index (one k p.0) (one j p.1), refl)
    node_step (Node-F.Dot k n at) h = let p = and_cases _ _ h in (Node-F.Dot (one k p.0) n at, refl)
    node_step (Node-F.Arrow k n at) h = let p = and_cases _ _ h in (Node-F.Arrow (one k p.0) n at, refl)
    node_step (Node-F.Cast t k) h = let p = and_cases _ _ h in (Node-F.Cast t (one k p.1), refl)
    node_step (Node-F.Size t) h = (Node-F.Size t, refl)
    node_step (Node-F.Trusted t k None) h = let q = and_cases _ _ h in let p = and_cases _ _ q.1 in (Node-F.Trusted t (one k p.0) None, refl)
    node_step (Node-F.Trusted t k (Some l)) h = let q = and_cases _ _ h in let p = and_cases _ _ q.1 in (Node-F.Trusted t (one k p.0) (Some (bounds l p.1)), refl)
    node_step (Node-F.Tested t k None) h = let q = and_cases _ _ h in let p = and_cases _ _ q.1 in (Node-F.Tested t (one k p.0) None, refl)
    node_step (Node-F.Tested t k (Some l)) h = let q = and_cases _ _ h in let p = and_cases _ _ q.1 in (Node-F.Tested t (one k p.0) (Some (bounds l p.1)), refl)
    node_step (Node-F.Call n ks) h = let p = and_cases _ _ h in let r = all_step ks p.0 in (Node-F.Call n r.0, ap (λ es. Node-F.Call n es) r.1)
    node_step (Node-F.Calloc t k u) h = let q = and_cases _ _ h in let p = and_cases _ _ q.1 in (Node-F.Calloc t (one k p.0) u, refl)

    limits_by : (x : LimitsLayer) (y : Limits-F Name Note KeptLimits KeptNode KeptExpr) → inner_limits y ≡ x → LimitsSeen (roll-Limits Name Note x)
    limits_by x y is = record {
      follow = λ h.
          let m = limits_step y (ap limits_open is ∙ sym (limits_opened x) ∙ h) in
          subst (λ z. EachLimits Q (roll-Limits Name Note z)) is (every_made-Limits Name Note AnyLimits AnyNode Q (inner_limits y) m.0 m.1 tt);
    }

    node_by : (x : NotedLayer) (y : Node-F Name Note KeptLimits KeptNode KeptExpr) → inner_node y ≡ x → NodeSeen (roll-Node Name Note x)
    node_by x y is = record {
      follow = λ h.
          let m = node_step y (ap node_open is ∙ sym (node_opened x) ∙ h) in
          subst (λ z. EachNode Q (roll-Node Name Note z)) is (every_made-Node Name Note AnyLimits AnyNode Q (inner_node y) m.0 m.1 tt);
      here = λ h. subst R (sym (node_out x)) (so x (sym (node_opened x) ∙ h));
    }

    expr_is : (e : NotedExpr) → NodeSeen e.node → ExprSeen e
    expr_is e w = record {
      follow = λ h.
          let p = sym (expr_opened (record { node = e.node; pos = e.pos; note = e.note })) ∙ h in
          every_made-Expr Name Note AnyLimits AnyNode Q (record { node = e.node; pos = e.pos; note = e.note })
          (record { node = (e.node, w.follow p); pos = e.pos; note = e.note }) refl (w.here p);
    }

    expr_by : (x : ExprLayer) (y : Expr-F Name Note KeptLimits KeptNode KeptExpr) → inner_expr y ≡ x → ExprSeen (roll-Expr Name Note x)
    expr_by x y is = subst (λ z. ExprSeen (roll-Expr Name Note z)) is (expr_is (roll-Expr Name Note (inner_expr y)) y.node.1)

    pub expr_follows : (e : NotedExpr) → expr_passes tests visible (bare_expr e) ≡ true → EachExpr Q e
    expr_follows e = (ind-Expr Name Note LimitsSeen NodeSeen ExprSeen limits_by node_by expr_by e).follow

module _ (items : List NamedItem) (visible : List Name) where
  -- ---- names

  or_false : (b : Bool) → (b || false) ≡ true → b ≡ true
  or_false true h = refl
  or_false false h = h

  pub local_visible : (k : ℕ) → is_visible items visible (name.Local k) ≡ true → HasLocal visible k
  local_visible k h = or_false _ h

  module _ (seen : List ℕ) (sees : (k : ℕ) → HasLocal visible k → Contains seen k) where
    name_seen : (n : Name) → is_visible items visible n ≡ true → IsAmong seen n
    name_seen (name.Local k) h = sees k (local_visible k h)
    name_seen (name.Static k) h = tt
    name_seen (name.Function k) h = tt
    name_seen (name.Tag k) h = tt
    name_seen (name.Member k) h = tt
    name_seen name.Getchar h = tt
    name_seen name.Putchar h = tt

    node_seen : (x : NotedLayer) → node_open (tests_of items) visible x ≡ true → NamesAmong seen x
    node_seen (Node-F.Name n) h = name_seen n h
    node_seen (Node-F.Number n u) h = tt
    node_seen (Node-F.Text bytes) h = tt
    node_seen Node-F.Null h = tt
    node_seen (Node-F.Un o e) h = tt
    node_seen (Node-F.Bin o e f) h = tt
    node_seen (Node-F.Pick e f g) h = tt
    node_seen (Node-F.Index e f) h = tt
    node_seen (Node-F.Dot e n at) h = tt
    node_seen (Node-F.Arrow e n at) h = tt
    node_seen (Node-F.Cast t e) h = tt
    node_seen (Node-F.Size t) h = tt
    node_seen (Node-F.Trusted t e l) h = tt
    node_seen (Node-F.Tested t e l) h = tt
    node_seen (Node-F.Call n es) h = tt
    node_seen (Node-F.Calloc t e u) h = tt

    pub expr_sees : (e : NotedExpr) → expr_passes (tests_of items) visible (bare_expr e) ≡ true → NamesSeen seen e
    expr_sees e = expr_follows (tests_of items) visible (NamesAmong seen) node_seen e
