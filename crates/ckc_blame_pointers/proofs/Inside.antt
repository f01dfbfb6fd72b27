-- The parts of an expression of which a rule holds everywhere, and of one that has been judged.
use Rattle.std.proofs.Common.{◌≡◌, refl, sym, ap, subst, ◌∙◌, ℕ, Bool, true, false, rules}
use Rattle.std.specs.Prelude.{if◌then◌else◌, not, Option, None, Some, Ok, Err}
use Rattle.ckc_base.specs.declared.places.Pos.{Pos}
use Rattle.ckc_base.specs.declared.places.Refusal.{Refusal}
use Rattle.ckc_base.specs.Outcomes.{Outcome, bind, unless, refused}
use Rattle.ckc_syntax.specs.declared.tree.Name.{Name}
use Rattle.ckc_typed.specs.Trees.{NotedExpr, TypeTree}
use Rattle.ckc_syntax.specs.declared.tree.Limits.{Limits-F, map-Limits, out-Limits, roll-Limits, every-Limits, every_held-Limits}
use Rattle.ckc_syntax.specs.declared.tree.Node.{Node-F, map-Node, out-Node, roll-Node, fold_out-Node, every-Node, every_held-Node, the_lemmas}
use Rattle.ckc_syntax.specs.declared.tree.Node.TheVariants as node
use Rattle.ckc_syntax.specs.declared.tree.Expr.{Expr-F, fold_out-Expr, every-Expr, every_held-Expr}
use Rattle.ckc_typed.specs.declared.typed.Note.{Note}
use Rattle.ckc_typed.specs.declared.typed.Range.{Range}
use Rattle.ckc_typed.specs.declared.typed.Range.TheVariants as range
use Rattle.ckc_typed.specs.Conversions.{is_null, is_null_form}
use Rattle.ckc_typed.specs.Trees.{NotedLimits, NotedNode, NotedExpr, NotedLayer}
use Rattle.ckc_typed.specs.Types.{is_pointer}
use Rattle.ckc_typed_welltyped.specs.Expressions.{AnyLimits, AnyNode}
use Rattle.ckc_typed_welltyped.specs.Parts.{LimitsLayer}
use Rattle.ckc_typed_welltyped.proofs.Nodes.{node_of, node_rolled, limits_of, limits_rolled, limits_out}
use Rattle.ckc_blame_sound.specs.ckc_bounds_points.specs.declared.frame.Frame.{Frame}
use Rattle.ckc_blame_sound.specs.ckc_bounds_points.specs.Flow.{State}
use Rattle.ckc_blame_sound.specs.ckc_bounds_views.specs.Judged.{by_fault, expr_made, expr_judged, operand_judged}
use Rattle.ckc_blame_sound.specs.ckc_bounds_views.specs.Parts.{LimitsView, NodeView, View, NodeOfViews}
use Rattle.ckc_blame_sound.specs.ckc_bounds_views.specs.Ranges.{pointer_range}
use Rattle.ckc_blame_sound.specs.ckc_bounds_views.specs.Views.{limits_view, node_view, expr_view, view_of_limits, view_of_node, view}

-- ---- parts

module _ (P : Expr-F Name Note NotedLimits NotedNode NotedExpr → Type 0) where
  abbrev pub Every : NotedExpr → Type 0
  Every = every-Expr Name Note AnyLimits AnyNode P

  abbrev pub EveryNode : NotedNode → Type 0
  EveryNode = every-Node Name Note AnyLimits AnyNode P

  abbrev pub EveryLimits : NotedLimits → Type 0
  EveryLimits = every-Limits Name Note AnyLimits AnyNode P

  -- the rule holds of the parts of a layer
  abbrev pub PartsEvery : NotedLayer → Type 0
  PartsEvery (Node-F.Un o e) = Every e
  PartsEvery (Node-F.Bin o e f) = Every e × Every f
  PartsEvery (Node-F.Pick e f g) = Every e × Every f × Every g
  PartsEvery (Node-F.Index e f) = Every e × Every f
  PartsEvery (Node-F.Cast w e) = Every e
  PartsEvery (Node-F.Dot e n spot) = Every e
  PartsEvery (Node-F.Arrow e n spot) = Every e
  PartsEvery (Node-F.Tested w e None) = Every e
  PartsEvery (Node-F.Tested w e (Some l)) = Every e × EveryLimits l
  PartsEvery (Node-F.Trusted w e None) = Every e
  PartsEvery (Node-F.Trusted w e (Some l)) = Every e × EveryLimits l
  PartsEvery n = Unit {0}

  -- and of those of limits
  abbrev pub LimitsEvery : LimitsLayer → Type 0
  LimitsEvery (Limits-F.Count e spot) = Every e
  LimitsEvery (Limits-F.ByteCount e spot) = Every e
  LimitsEvery (Limits-F.Between e f spot) = Every e × Every f
  LimitsEvery (Limits-F.Unknown spot) = Unit {0}

  abbrev FitLimits : Type 0
  FitLimits = (l : NotedLimits) × EveryLimits l

  abbrev FitNode : Type 0
  FitNode = (n : NotedNode) × EveryNode n

  abbrev FitExpr : Type 0
  FitExpr = (e : NotedExpr) × Every e

  abbrev bare_node : Node-F Name Note FitLimits FitNode FitExpr → NotedLayer
  bare_node = map-Node Name Note FitLimits FitNode FitExpr NotedLimits NotedNode NotedExpr (λ e. e.0) (λ e. e.0) (λ e. e.0)

  parts_of : (z : Node-F Name Note FitLimits FitNode FitExpr) → PartsEvery (bare_node z)
  parts_of (Node-F.Un o e) = e.1
  parts_of (Node-F.Bin o e f) = (e.1, f.1)
  parts_of (Node-F.Pick e f g) = (e.1, f.1, g.1)
  parts_of (Node-F.Index e f) = (e.1, f.1)
  parts_of (Node-F.Cast w e) = e.1
  parts_of (Node-F.Dot e n spot) = e.1
  parts_of (Node-F.Arrow e n spot) = e.1
  parts_of (Node-F.Tested w e None) = e.1
  parts_of (Node-F.Tested w e (Some l)) = (e.1, l.1)
  parts_of (Node-F.Trusted w e None) = e.1
  parts_of (Node-F.Trusted w e (Some l)) = (e.1, l.1)
  parts_of z = tt

  abbrev bare_limits : Limits-F Name Note FitLimits FitNode FitExpr → LimitsLayer
  bare_limits = map-Limits Name Note FitLimits FitNode FitExpr NotedLimits NotedNode NotedExpr (λ e. e.0) (λ e. e.0) (λ e. e.0)

  limits_of_parts : (z : Limits-F Name Note FitLimits FitNode FitExpr) → LimitsEvery (bare_limits z)
  limits_of_parts (Limits-F.Count e spot) = e.1
  limits_of_parts (Limits-F.ByteCount e spot) = e.1
  limits_of_parts (Limits-F.Between e f spot) = (e.1, f.1)
  limits_of_parts (Limits-F.Unknown spot) = tt

  pub limits_every : (l : NotedLimits) → EveryLimits l → LimitsEvery (out-Limits Name Note l)
  limits_every l w =
      let h = every_held-Limits Name Note AnyLimits AnyNode P l w in
      subst LimitsEvery h.1 (limits_of_parts h.0)

  pub parts_every : (n : NotedNode) → EveryNode n → PartsEvery (out-Node Name Note n)
  parts_every n w =
      let h = every_held-Node Name Note AnyLimits AnyNode P n w in
      subst PartsEvery h.1 (parts_of h.0)

  pub node_every : (e : NotedExpr) → Every e → EveryNode e.node
  node_every e w =
      let h = every_held-Expr Name Note AnyLimits AnyNode P e w in
      subst EveryNode (ap (λ (d : Expr-F Name Note NotedLimits NotedNode NotedExpr). d.node) h.1) h.0.node.1

-- ---- what has been judged

pub node_out : (x : NotedLayer) → out-Node Name Note (roll-Node Name Note x) ≡ x
node_out x = search (rules, the_lemmas)

node_is : (x : NotedLayer) → out-Node Name Note (node_of x) ≡ x
node_is x = ap (out-Node Name Note) (sym (node_rolled x)) ∙ node_out x

same_layer : (x z : NotedLayer) → ◌≡◌ {A = Outcome NotedNode} (Ok (node_of x)) (Ok (node_of z)) → x ≡ z
same_layer x z e = let same : node_of x ≡ node_of z = cc in sym (node_is x) ∙ ap (out-Node Name Note) same ∙ node_is z

bind_is : {A B : Type 0} (o : Outcome A) (f : A → Outcome B) (b : B) → bind o f ≡ Ok b → (a : A) × (o ≡ Ok a) × (f a ≡ Ok b)
bind_is (Ok a) f b e = (a, refl, e)
bind_is (Err r) f b e = absurd (cc)

pub one_part : (made : NotedExpr → NotedLayer) → ((a b : NotedExpr) → made a ≡ made b → a ≡ b) → (o : Outcome NotedExpr) (e : NotedExpr)
    → bind o (λ a. Ok (node_of (made a))) ≡ Ok (node_of (made e)) → o ≡ Ok e
one_part made same o e is =
    let b = bind_is o (λ a. Ok (node_of (made a))) (node_of (made e)) is in
    b.1 ∙ ap Ok (same b.0 e (same_layer (made b.0) (made e) b.2))

pub two_parts : (made : NotedExpr → NotedExpr → NotedLayer) → ((a b c d : NotedExpr) → made a c ≡ made b d → (a ≡ b) × (c ≡ d)) → (o q : Outcome NotedExpr) (e f : NotedExpr)
    → bind o (λ a. bind q (λ b. Ok (node_of (made a b)))) ≡ Ok (node_of (made e f)) → (o ≡ Ok e) × (q ≡ Ok f)
two_parts made same o q e f is =
    let b = bind_is o (λ a. bind q (λ b. Ok (node_of (made a b)))) (node_of (made e f)) is in
    let c = bind_is q (λ c. Ok (node_of (made b.0 c))) (node_of (made e f)) b.2 in
    let both = same b.0 e c.0 f (same_layer (made b.0 c.0) (made e f) c.2) in
    (b.1 ∙ ap Ok both.0, c.1 ∙ ap Ok both.1)

pub three_parts : (o q p : Outcome NotedExpr) (e f g : NotedExpr)
    → bind o (λ a. bind q (λ b. bind p (λ c. Ok (node.Pick a b c)))) ≡ Ok (node.Pick e f g) → (o ≡ Ok e) × (q ≡ Ok f) × (p ≡ Ok g)
three_parts o q p e f g is =
    let b = bind_is o (λ a. bind q (λ b. bind p (λ c. Ok (node.Pick a b c)))) (node.Pick e f g) is in
    let c = bind_is q (λ c. bind p (λ d. Ok (node.Pick b.0 c d))) (node.Pick e f g) b.2 in
    let d = bind_is p (λ d. Ok (node.Pick b.0 c.0 d)) (node.Pick e f g) c.2 in
    let same : ◌≡◌ {A = NotedLayer} (Node-F.Pick b.0 c.0 d.0) (Node-F.Pick e f g) = same_layer (Node-F.Pick b.0 c.0 d.0) (Node-F.Pick e f g) d.2 in
    let x : b.0 ≡ e = cc in
    let y : c.0 ≡ f = cc in
    let z : d.0 ≡ g = cc in
    (b.1 ∙ ap Ok x, c.1 ∙ ap Ok y, d.1 ∙ ap Ok z)

-- limits have their layer
pub limits_layer : (l : NotedLimits) (x : LimitsLayer) → out-Limits Name Note l ≡ x → l ≡ limits_of x
limits_layer l x e = back l ∙ ap (roll-Limits Name Note) e ∙ limits_rolled x
  where
    back : (l : NotedLimits) → l ≡ roll-Limits Name Note (out-Limits Name Note l)
    back l = search (rules, the_lemmas)

limits_is : (x : LimitsLayer) → out-Limits Name Note (limits_of x) ≡ x
limits_is x = ap (out-Limits Name Note) (sym (limits_rolled x)) ∙ limits_out x

same_limits : (x z : LimitsLayer) → ◌≡◌ {A = Outcome NotedLimits} (Ok (limits_of x)) (Ok (limits_of z)) → x ≡ z
same_limits x z e = let same : limits_of x ≡ limits_of z = cc in sym (limits_is x) ∙ ap (out-Limits Name Note) same ∙ limits_is z

pub not_false : (b : Bool) → not b ≡ false → b ≡ true
not_false true e = refl
not_false false e = absurd (cc)

pub limits_part : (made : NotedExpr → LimitsLayer) → ((a b : NotedExpr) → made a ≡ made b → a ≡ b) → (o : Outcome NotedExpr) (b : Bool) (code : ℕ) (pos : Pos) (e : NotedExpr)
    → bind o (λ a. unless b code pos (Ok (limits_of (made a)))) ≡ Ok (limits_of (made e)) → (o ≡ Ok e) × (b ≡ false)
limits_part made same o b code pos e is =
    let p = bind_is o (λ a. unless b code pos (Ok (limits_of (made a)))) (limits_of (made e)) is in
    let q = by p.0 b p.2 in
    (p.1 ∙ ap Ok (same p.0 e q.0), q.1)
  where
    by : (a : NotedExpr) (b : Bool) → unless b code pos (Ok (limits_of (made a))) ≡ Ok (limits_of (made e)) → (made a ≡ made e) × (b ≡ false)
    by a true is = absurd (cc)
    by a false is = (same_limits (made a) (made e) is, refl)

-- the operand and the limits of a bounds cast
pub cast_parts : (made : NotedExpr → Option NotedLimits → NotedLayer) → ((a b : NotedExpr) (c d : Option NotedLimits) → made a c ≡ made b d → (a ≡ b) × (c ≡ d)) → (o : Outcome NotedExpr) (q : Outcome (Option NotedLimits)) (e : NotedExpr) (l : Option NotedLimits)
    → bind o (λ a. bind q (λ k. Ok (node_of (made a k)))) ≡ Ok (node_of (made e l)) → (o ≡ Ok e) × (q ≡ Ok l)
cast_parts made same o q e l is =
    let b = bind_is o (λ a. bind q (λ k. Ok (node_of (made a k)))) (node_of (made e l)) is in
    let c = bind_is q (λ k. Ok (node_of (made b.0 k))) (node_of (made e l)) b.2 in
    let both = same b.0 e c.0 l (same_layer (made b.0 c.0) (made e l) c.2) in
    (b.1 ∙ ap Ok both.0, c.1 ∙ ap Ok both.1)

pub tested_parts : (w : TypeTree) (o : Outcome NotedExpr) (q : Outcome (Option NotedLimits)) (e : NotedExpr) (l : Option NotedLimits)
    → bind o (λ a. bind q (λ k. Ok (node.Tested w a k))) ≡ Ok (node.Tested w e l) → (o ≡ Ok e) × (q ≡ Ok l)
tested_parts w o q e l is = cast_parts (λ a k. Node-F.Tested w a k) (λ a b c d e. (cc, cc)) o q e l is

pub trusted_parts : (w : TypeTree) (o : Outcome NotedExpr) (q : Outcome (Option NotedLimits)) (e : NotedExpr) (l : Option NotedLimits)
    → bind o (λ a. bind q (λ k. Ok (node.Trusted w a k))) ≡ Ok (node.Trusted w e l) → (o ≡ Ok e) × (q ≡ Ok l)
trusted_parts w o q e l is = cast_parts (λ a k. Node-F.Trusted w a k) (λ a b c d e. (cc, cc)) o q e l is

-- of limits between two ends there are none
pub no_ends : {A B C : Type 0} (o : Outcome A) (q : Outcome B) (code : ℕ) (pos : Pos) (c : C) → bind o (λ a. bind q (λ b. refused code pos)) ≡ Ok c → ⊥
no_ends (Ok a) (Ok b) code pos c e = absurd (cc)
no_ends (Ok a) (Err r) code pos c e = absurd (cc)
no_ends (Err r) q code pos c e = absurd (cc)

pub no_amount : {C : Type 0} (code : ℕ) (pos : Pos) (c : C) → ◌≡◌ {A = Outcome C} (refused code pos) (Ok c) → ⊥
no_amount code pos c e = absurd (cc)

pub some_there : (o : Outcome NotedLimits) (l : NotedLimits) → bind o (λ k. Ok (Some k)) ≡ Ok (Some l) → o ≡ Ok l
some_there o l is =
    let b = bind_is o (λ k. Ok (Some k)) (Some l) is in
    let same : ◌≡◌ {A = Outcome (Option NotedLimits)} (Ok (Some b.0)) (Ok (Some l)) = b.2 in
    let x : b.0 ≡ l = cc in
    b.1 ∙ ap Ok x

-- What an expression that has been judged says of its node and of its range.
pub record IsJudged (n : NodeView) (pos : Pos) (note : Note) (m : NotedNode) (fresh : ℕ) (at : State) : Type 0 where
  pub node : n.judged note.ctype fresh at ≡ Ok m
  pub fault : n.fault pos fresh at ≡ None
  pub range : is_pointer note.ctype ≡ true → note.range ≡ pointer_range note.ctype n 0 fresh at

pub judged_is : (n : NodeView) (pos : Pos) (note : Note) (m : NotedNode) (fresh : ℕ) (at : State) → expr_judged n pos note fresh at ≡ Ok (record { node = m; pos = pos; note = note })
    → IsJudged n pos note m fresh at
judged_is n pos note m fresh at e =
    let b = bind_is (n.judged note.ctype fresh at) (λ m. by_fault (n.fault pos fresh at) (Ok (expr_made pos note (pointer_range note.ctype n 0 fresh at) m))) (record { node = m; pos = pos; note = note }) e in
    by_node b.0 b.1 (n.fault pos fresh at) refl b.2
  where
    range_of : (r : Range) (b : Bool) → (if b then record note { range = r } else note) ≡ note → b ≡ true → note.range ≡ r
    range_of r true e i = ap (λ (n : Note). n.range) (sym e)
    range_of r false e i = absurd (cc)

    by_node : (q : NotedNode) → n.judged note.ctype fresh at ≡ Ok q → (o : Option Refusal) → n.fault pos fresh at ≡ o
        → by_fault o (Ok (expr_made pos note (pointer_range note.ctype n 0 fresh at) q)) ≡ Ok (record { node = m; pos = pos; note = note }) → IsJudged n pos note m fresh at
    by_node q there None fault e =
        let same : expr_made pos note (pointer_range note.ctype n 0 fresh at) q ≡ record { node = m; pos = pos; note = note } = cc in
        record {
          node = there ∙ ap Ok (ap (λ (x : NotedExpr). x.node) same);
          fault = fault;
          range = λ p. range_of (pointer_range note.ctype n 0 fresh at) (is_pointer note.ctype) (ap (λ (x : NotedExpr). x.note) same) p;
        }
    by_node q there (Some r) fault e = absurd (cc)

-- the same of its node, if it is the operand of `&`
pub operand_is : (n : NodeView) (pos : Pos) (note : Note) (m : NotedNode) (fresh : ℕ) (at : State) → operand_judged n pos note fresh at ≡ Ok (record { node = m; pos = pos; note = note })
    → (n.judged note.ctype fresh at ≡ Ok m) × (n.operand_fault pos fresh at ≡ None)
operand_is n pos note m fresh at e = let j = judged_is (record n { fault = n.operand_fault }) pos note m fresh at e in (j.node, j.fault)

-- ---- what is said of an expression

module _ (frame : Frame) where
  abbrev viewed_node : NotedLayer → NodeOfViews
  viewed_node = map-Node Name Note NotedLimits NotedNode NotedExpr LimitsView NodeView View (view_of_limits frame) (view_of_node frame) (view frame)

  pub view_is : (e : NotedExpr) → view frame e ≡ expr_view (record { node = view_of_node frame e.node; pos = e.pos; note = e.note })
  view_is e = fold_out-Expr Name Note LimitsView NodeView View limits_view (node_view frame) expr_view e

  pub node_view_is : (n : NotedNode) → view_of_node frame n ≡ node_view frame (viewed_node (out-Node Name Note n))
  node_view_is n = fold_out-Node Name Note LimitsView NodeView View limits_view (node_view frame) expr_view n

  -- null may be used for any range
  pub null_range : (e : NotedExpr) (first fresh : ℕ) (at : State) → is_null e ≡ true → (view frame e).range first fresh at ≡ range.Any
  null_range e first fresh at null =
      ap (λ (v : View). v.range first fresh at) (view_is e) ∙ ap (λ n. pointer_range e.note.ctype n first fresh at) (node_view_is e.node)
      ∙ by (out-Node Name Note e.node) null
    where
      by : (x : NotedLayer) → is_null_form x ≡ true → pointer_range e.note.ctype (node_view frame (viewed_node x)) first fresh at ≡ range.Any
      by Node-F.Null zero = refl
      by (Node-F.Number n unsigned) zero = ap (λ b. if b then range.Any else (if is_pointer e.note.ctype then range.Missing else range.Missing)) zero
      by x zero = absurd (cc)
