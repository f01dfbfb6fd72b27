-- What is handed down from an expression to its parts holds of each expression in it, however deep.
use Rattle.std.proofs.Common.{◌≡◌, ap, sym, subst, refl, List, [], ◌∷◌, map, rules}
use Rattle.std.specs.Prelude.{Option, Some, None, IfSome}
use Rattle.ckc_syntax.specs.declared.tree.Name.{Name}
use Rattle.ckc_syntax.specs.declared.tree.Limits.{Limits-F, map-Limits, roll-Limits, out-Limits, every_made-Limits, the_lemmas as limits_lemmas}
use Rattle.ckc_syntax.specs.declared.tree.Node.{Node-F, map-Node, roll-Node, out-Node, every_made-Node, the_lemmas as node_lemmas}
use Rattle.ckc_syntax.specs.declared.tree.Expr.{Expr-F, map-Expr, ind-Expr, roll-Expr, every_made-Expr}
use Rattle.ckc_typed.specs.declared.typed.Note.{Note}
use Rattle.ckc_typed.specs.Trees.{NotedLimits, NotedNode, NotedExpr, NotedLayer}
use Rattle.ckc_typed_welltyped.specs.Expressions.{AnyLimits, AnyNode}
use Rattle.ckc_typed_welltyped.proofs.Nodes.{node_out, limits_out}
use Rattle.ckc_blame_sound.proofs.Every.{LimitsLayer, ExprLayer, EachLimits, EachNode, EachExpr, LimitsParts, NodeParts, AllEach, EachIf, limits_hold, node_hold, inside}

-- an expression by its level
abbrev pub layer : NotedExpr → ExprLayer
layer e = record { node = e.node; pos = e.pos; note = e.note }

-- ---- the parts of a level

module _ (S : NotedExpr → Type 0) where
  abbrev pub DownLimits : LimitsLayer → Type 0
  DownLimits (Limits-F.Count e at) = S e
  DownLimits (Limits-F.ByteCount e at) = S e
  DownLimits (Limits-F.Between e f at) = S e × S f
  DownLimits (Limits-F.Unknown at) = Unit {0}

  abbrev pub AllDown : List NotedExpr → Type 0
  AllDown [] = Unit {0}
  AllDown (e ∷ es) = S e × AllDown es

module _ (S : NotedExpr → Type 0) (L : NotedLimits → Type 0) where
  abbrev pub Down : NotedLayer → Type 0
  Down (Node-F.Un o e) = S e
  Down (Node-F.Bin o e f) = S e × S f
  Down (Node-F.Pick e f g) = S e × S f × S g
  Down (Node-F.Index e f) = S e × S f
  Down (Node-F.Dot e n at) = S e
  Down (Node-F.Arrow e n at) = S e
  Down (Node-F.Cast w e) = S e
  Down (Node-F.Trusted w e l) = S e × IfSome l L
  Down (Node-F.Tested w e l) = S e × IfSome l L
  Down (Node-F.Call n es) = AllDown S es
  Down (Node-F.Calloc w e u) = S e
  Down n = Unit {0}

-- ---- the induction

module _ (S : NotedExpr → Type 0) (L : NotedLimits → Type 0) (Q : ExprLayer → Type 0) (here : (e : NotedExpr) → S e → Q (layer e))
    (down : (e : NotedExpr) → S e → Down S L (out-Node Name Note e.node)) (down_limits : (l : NotedLimits) → L l → DownLimits S (out-Limits Name Note l)) where
  record LimitsFollow (l : NotedLimits) : Type 0 where
    pub follow : L l → EachLimits Q l

  record NodeFollows (n : NotedNode) : Type 0 where
    pub follow : Down S L (out-Node Name Note n) → EachNode Q n

  record ExprFollows (e : NotedExpr) : Type 0 where
    pub follow : S e → EachExpr Q e

  abbrev KeptLimits : Type 0
  KeptLimits = (l : NotedLimits) × LimitsFollow l

  abbrev KeptNode : Type 0
  KeptNode = (n : NotedNode) × NodeFollows n

  abbrev KeptExpr : Type 0
  KeptExpr = (e : NotedExpr) × ExprFollows e

  abbrev FitLimits : Type 0
  FitLimits = (l : NotedLimits) × EachLimits Q l

  abbrev FitNode : Type 0
  FitNode = (n : NotedNode) × EachNode Q n

  abbrev FitExpr : Type 0
  FitExpr = (e : NotedExpr) × EachExpr Q e

  abbrev inner_limits : Limits-F Name Note KeptLimits KeptNode KeptExpr → LimitsLayer
  inner_limits = map-Limits Name Note KeptLimits KeptNode KeptExpr NotedLimits NotedNode NotedExpr (λ e. e.0) (λ e. e.0) (λ e. e.0)

  abbrev inner_node : Node-F Name Note KeptLimits KeptNode KeptExpr → NotedLayer
  inner_node = map-Node Name Note KeptLimits KeptNode KeptExpr NotedLimits NotedNode NotedExpr (λ e. e.0) (λ e. e.0) (λ e. e.0)

  abbrev inner_expr : Expr-F Name Note KeptLimits KeptNode KeptExpr → ExprLayer
  inner_expr = map-Expr Name Note KeptLimits KeptNode KeptExpr NotedLimits NotedNode NotedExpr (λ e. e.0) (λ e. e.0) (λ e. e.0)

  abbrev limits_of_fit : Limits-F Name Note FitLimits FitNode FitExpr → LimitsLayer
  limits_of_fit = map-Limits Name Note FitLimits FitNode FitExpr NotedLimits NotedNode NotedExpr (λ e. e.0) (λ e. e.0) (λ e. e.0)

  abbrev node_of_fit : Node-F Name Note FitLimits FitNode FitExpr → NotedLayer
  node_of_fit = map-Node Name Note FitLimits FitNode FitExpr NotedLimits NotedNode NotedExpr (λ e. e.0) (λ e. e.0) (λ e. e.0)

  abbrev MadeLimits : LimitsLayer → Type 0
  MadeLimits x = (z : Limits-F Name Note FitLimits FitNode FitExpr) × (limits_of_fit z ≡ x)

  abbrev MadeNode : NotedLayer → Type 0
  MadeNode x = (z : Node-F Name Note FitLimits FitNode FitExpr) × (node_of_fit z ≡ x)

  abbrev one : (k : KeptExpr) → S k.0 → FitExpr
  one k p = (k.0, k.1.follow p)

  abbrev bounds : (l : KeptLimits) → L l.0 → FitLimits
  bounds l p = (l.0, l.1.follow p)

  limits_step : (y : Limits-F Name Note KeptLimits KeptNode KeptExpr) → DownLimits S (inner_limits y) → MadeLimits (inner_limits y)
  limits_step (Limits-F.Count k at) p = (Limits-F.Count (one k p) at, refl)
  limits_step (Limits-F.ByteCount k at) p = (Limits-F.ByteCount (one k p) at, refl)
  limits_step (Limits-F.Between k j at) p = (Limits-F.Between (one k p.0) (one j p.1) at, refl)
  limits_step (Limits-F.Unknown at) p = (Limits-F.Unknown at, refl)

  abbrev firsts : List KeptExpr → List NotedExpr
  firsts ks = map (λ (k : KeptExpr). k.0) ks

  all_step : (ks : List KeptExpr) → AllDown S (firsts ks) → (zs : List FitExpr) × (map (λ (e : FitExpr). e.0) zs ≡ firsts ks)
  all_step [] p = ([], refl)
  all_step (k ∷ ks) p = let r = all_step ks p.1 in (one k p.0 ∷ r.0, ap (λ es. k.0 ∷ es) r.1)

  node_step : (y : Node-F Name Note KeptLimits KeptNode KeptExpr) → Down S L (inner_node y) → MadeNode (inner_node y)
  node_step (Node-F.Number n u) p = (Node-F.Number n u, refl)
  node_step (Node-F.Text bytes) p = (Node-F.Text bytes, refl)
  node_step Node-F.Null p = (Node-F.Null, refl)
  node_step (Node-F.Name n) p = (Node-F.Name n, refl)
  node_step (Node-F.Un o k) p = (Node-F.Un o (one k p), refl)
  node_step (Node-F.Bin o k j) p = (Node-F.Bin o (one k p.0) (one j p.1), refl)
  node_step (Node-F.Pick k j i) p = (Node-F.Pick (one k p.0) (one j p.1) (one i p.2), refl)
  node_step (Node-F.Index k j) p = (Node-F.Index (one k p.0) (one j p.1), refl)
  node_step (Node-F.Dot k n at) p = (Node-F.Dot (one k p) n at, refl)
  node_step (Node-F.Arrow k n at) p = (Node-F.Arrow (one k p) n at, refl)
  node_step (Node-F.Cast t k) p = (Node-F.Cast t (one k p), refl)
  node_step (Node-F.Size t) p = (Node-F.Size t, refl)
  node_step (Node-F.Trusted t k None) p = (Node-F.Trusted t (one k p.0) None, refl)
  node_step (Node-F.Trusted t k (Some l)) p = (Node-F.Trusted t (one k p.0) (Some (bounds l p.1)), refl)
  node_step (Node-F.Tested t k None) p = (Node-F.Tested t (one k p.0) None, refl)
  node_step (Node-F.Tested t k (Some l)) p = (Node-F.Tested t (one k p.0) (Some (bounds l p.1)), refl)
  node_step (Node-F.Call n ks) p = let r = all_step ks p in (Node-F.Call n r.0, ap (λ es. Node-F.Call n es) r.1)
  node_step (Node-F.Calloc t k u) p = (Node-F.Calloc t (one k p) u, refl)

  limits_by : (x : LimitsLayer) (y : Limits-F Name Note KeptLimits KeptNode KeptExpr) → inner_limits y ≡ x → LimitsFollow (roll-Limits Name Note x)
  limits_by x y is = record {
    follow = λ p.
        let m = limits_step y (subst (DownLimits S) (sym is) (subst (DownLimits S) (limits_out x) (down_limits (roll-Limits Name Note x) p))) in
        subst (λ z. EachLimits Q (roll-Limits Name Note z)) is (every_made-Limits Name Note AnyLimits AnyNode Q (inner_limits y) m.0 m.1 tt);
  }

  node_by : (x : NotedLayer) (y : Node-F Name Note KeptLimits KeptNode KeptExpr) → inner_node y ≡ x → NodeFollows (roll-Node Name Note x)
  node_by x y is = record {
    follow = λ p.
        let m = node_step y (subst (Down S L) (sym is) (subst (Down S L) (node_out x) p)) in
        subst (λ z. EachNode Q (roll-Node Name Note z)) is (every_made-Node Name Note AnyLimits AnyNode Q (inner_node y) m.0 m.1 tt);
  }

  expr_is : (e : NotedExpr) → NodeFollows e.node → ExprFollows e
  expr_is e h = record {
    follow = λ p. every_made-Expr Name Note AnyLimits AnyNode Q (layer e) (record { node = (e.node, h.follow (down e p)); pos = e.pos; note = e.note }) refl (here e p);
  }

  expr_by : (x : ExprLayer) (y : Expr-F Name Note KeptLimits KeptNode KeptExpr) → inner_expr y ≡ x → ExprFollows (roll-Expr Name Note x)
  expr_by x y is = subst (λ z. ExprFollows (roll-Expr Name Note z)) is (expr_is (roll-Expr Name Note (inner_expr y)) y.node.1)

  -- of each expression in an expression
  pub each_down : (e : NotedExpr) → S e → EachExpr Q e
  each_down e = (ind-Expr Name Note LimitsFollow NodeFollows ExprFollows limits_by node_by expr_by e).follow

-- ---- what follows of an expression from a rule of each expression in it

module _ (P : ExprLayer → Type 0) where
  if_down : (l : Option NotedLimits) → EachIf P l → IfSome l (EachLimits P)
  if_down None h = tt
  if_down (Some l) h = h

  all_down : (es : List NotedExpr) → AllEach P es → AllDown (EachExpr P) es
  all_down [] h = tt
  all_down (e ∷ es) h = (h.0, all_down es h.1)

  parts_down : (x : NotedLayer) → NodeParts P x → Down (EachExpr P) (EachLimits P) x
  parts_down (Node-F.Un o e) h = h
  parts_down (Node-F.Bin o e f) h = h
  parts_down (Node-F.Pick e f g) h = h
  parts_down (Node-F.Index e f) h = h
  parts_down (Node-F.Dot e n at) h = h
  parts_down (Node-F.Arrow e n at) h = h
  parts_down (Node-F.Cast w e) h = h
  parts_down (Node-F.Trusted w e l) h = (h.0, if_down l h.1)
  parts_down (Node-F.Tested w e l) h = (h.0, if_down l h.1)
  parts_down (Node-F.Call n es) h = all_down es h
  parts_down (Node-F.Calloc w e u) h = h
  parts_down (Node-F.Number n u) h = tt
  parts_down (Node-F.Text bytes) h = tt
  parts_down Node-F.Null h = tt
  parts_down (Node-F.Name n) h = tt
  parts_down (Node-F.Size t) h = tt

  limits_parts_down : (x : LimitsLayer) → LimitsParts P x → DownLimits (EachExpr P) x
  limits_parts_down (Limits-F.Count e at) h = h
  limits_parts_down (Limits-F.ByteCount e at) h = h
  limits_parts_down (Limits-F.Between e f at) h = h
  limits_parts_down (Limits-F.Unknown at) h = tt

  node_back : (n : NotedNode) → roll-Node Name Note (out-Node Name Note n) ≡ n
  node_back n = search (rules, node_lemmas)

  limits_back : (l : NotedLimits) → roll-Limits Name Note (out-Limits Name Note l) ≡ l
  limits_back l = search (rules, limits_lemmas)

  -- a rule of each expression in an expression holds of its parts
  pub each_parts : (e : NotedExpr) → EachExpr P e → Down (EachExpr P) (EachLimits P) (out-Node Name Note e.node)
  each_parts e p = parts_down (out-Node Name Note e.node) (node_hold P (out-Node Name Note e.node) (subst (EachNode P) (sym (node_back e.node)) (inside P e p)))

  pub each_limits_parts : (l : NotedLimits) → EachLimits P l → DownLimits (EachExpr P) (out-Limits Name Note l)
  each_limits_parts l p = limits_parts_down (out-Limits Name Note l) (limits_hold P (out-Limits Name Note l) (subst (EachLimits P) (sym (limits_back l)) p))

  pub each_whole : (Q : ExprLayer → Type 0) → ((e : NotedExpr) → EachExpr P e → Q (layer e)) → (e : NotedExpr) → EachExpr P e → EachExpr Q e
  each_whole Q follows = each_down (EachExpr P) (EachLimits P) Q follows each_parts each_limits_parts
