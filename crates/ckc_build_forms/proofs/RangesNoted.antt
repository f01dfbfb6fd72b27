-- Judging notes at the name of a local the range of that local, widened or as declared, or none.
use Rattle.std.proofs.Common.{◌≡◌, ◌⊎◌, inl, inr, refl, sym, ap, subst, ◌∙◌, ℕ, Bool, true, false, List, [], ◌∷◌, map}
use Rattle.std.specs.Prelude.{not, if◌then◌else◌, Option, None, Some, Ok, Err}
use Rattle.ckc_base.specs.declared.places.Pos.{Pos}
use Rattle.ckc_base.specs.declared.places.Refusal.{Refusal}
use Rattle.ckc_base.specs.Outcomes.{Outcome, bind, unless}
use Rattle.ckc_types.specs.declared.types.CType.{CType}
use Rattle.ckc_syntax.specs.declared.tree.Name.{Name}
use Rattle.ckc_syntax.specs.declared.tree.Name.TheVariants as name
use Rattle.ckc_syntax.specs.declared.tree.TreeOp.{TreeOp}
use Rattle.ckc_syntax.specs.declared.tree.TreeOp.TheVariants as op
use Rattle.ckc_syntax.specs.declared.tree.Limits.{Limits-F, map-Limits, roll-Limits, fold-roll-Limits, every_made-Limits}
use Rattle.ckc_syntax.specs.declared.tree.Limits.TheVariants as limits
use Rattle.ckc_syntax.specs.declared.tree.Node.{Node-F, map-Node, out-Node, roll-Node, fold-roll-Node, every_made-Node}
use Rattle.ckc_syntax.specs.declared.tree.Node.TheVariants as node
use Rattle.ckc_syntax.specs.declared.tree.Expr.{Expr-F, map-Expr, ind-Expr, roll-Expr, fold-roll-Expr, every_here-Expr, every_made-Expr}
use Rattle.ckc_typed.specs.declared.typed.Note.{Note}
use Rattle.ckc_typed.specs.declared.typed.Range.{Range}
use Rattle.ckc_typed.specs.declared.typed.Range.TheVariants as range
use Rattle.ckc_typed.specs.Trees.{NotedLimits, NotedNode, NotedExpr, NotedLayer}
use Rattle.ckc_typed.specs.Types.{is_pointer}
use Rattle.ckc_typed_welltyped.specs.Expressions.{AnyLimits, AnyNode}
use Rattle.ckc_typed_welltyped.proofs.Nodes.{node_of, node_rolled, node_out, limits_of, limits_rolled}
use Rattle.ckc_blame_steps.specs.ckc_bounds_points.specs.declared.frame.Frame.{Frame}
use Rattle.ckc_blame_steps.specs.ckc_bounds_points.specs.Flow.{State}
use Rattle.ckc_blame_steps.specs.ckc_bounds_points.specs.Codes.{bad_limits}
use Rattle.ckc_blame_steps.specs.ckc_bounds_ranges.specs.Rows.{range_of_local}
use Rattle.ckc_blame_steps.specs.ckc_bounds_views.specs.Parts.{LimitsView, View, NodeView}
use Rattle.ckc_blame_steps.specs.ckc_bounds_views.specs.Judged.{counts_elements, counts_bytes, limits_judged, all_judged, node_judged, unary_judged, by_fault, noted_range, expr_made}
use Rattle.ckc_blame_steps.specs.ckc_bounds_views.specs.Ranges.{pointer_range}
use Rattle.ckc_blame_steps.specs.ckc_bounds_views.specs.Views.{limits_view, node_view, expr_view, view_of_limits, view_of_node, view}
use Rattle.ckc_blame_steps.specs.ckc_blame_sound.proofs.Every.{LimitsLayer, ExprLayer, EachLimits, EachNode, EachExpr, LimitsParts, NodeParts, AllEach, limits_hold, node_hold, inside}
use Rattle.ckc_blame_steps.specs.ckc_blame_sound.proofs.Judging.{Gives, bound}

-- no range is noted yet
abbrev pub HasNoRange : ExprLayer → Type 0
HasNoRange e = e.note.range ≡ range.Missing

-- a range is that of a local, or none
abbrev pub IsRangeOf : Frame → ℕ → Range → Type 0
IsRangeOf frame k r = (r ≡ range.Missing) ⊎ ((widened : List ℕ) × (r ≡ range_of_local frame k widened))

abbrev pub NamesRange : Frame → NotedLayer → Range → Type 0
NamesRange frame (Node-F.Name (name.Local k)) r = IsRangeOf frame k r
NamesRange frame n r = Unit {0}

-- the range that is noted at the name of a local is that of the local
abbrev pub HasItsRange : Frame → ExprLayer → Type 0
HasItsRange frame e = NamesRange frame (out-Node Name Note e.node) e.note.range

kept : {A : Type 0} (P : A → Type 0) (b : Bool) (code : ℕ) (at : Pos) (o : Outcome A) → Gives P o → Gives P (unless b code at o)
kept P true code at o h = tt
kept P false code at o h = h

faulted : {A : Type 0} (P : A → Type 0) (r : Option Refusal) (o : Outcome A) → Gives P o → Gives P (by_fault r o)
faulted P None o h = h
faulted P (Some r) o h = tt

module _ (frame : Frame) where
  abbrev Q : ExprLayer → Type 0
  Q = HasItsRange frame

  -- what a node becomes, of which the range is this
  abbrev MadeNode : (Note → Range) → NotedNode → Type 0
  MadeNode r m = EachNode Q m × ((note : Note) → note.range ≡ range.Missing → NamesRange frame (out-Node Name Note m) (noted_range note (r note)).range)

  record LimitsHold (l : NotedLimits) : Type 0 where
    pub judged : EachLimits HasNoRange l → (size fresh : ℕ) (at : State) → Gives (EachLimits Q) ((view_of_limits frame l).judged size fresh at)

  record NodeHolds (n : NotedNode) : Type 0 where
    pub judged : EachNode HasNoRange n → (t : CType) (fresh : ℕ) (at : State)
        → Gives (MadeNode (λ note. pointer_range note.ctype (view_of_node frame n) 0 fresh at)) ((view_of_node frame n).judged t fresh at)

  record ExprHolds (e : NotedExpr) : Type 0 where
    pub judged : EachExpr HasNoRange e → (fresh : ℕ) (at : State) → Gives (EachExpr Q) ((view frame e).judged fresh at)
    pub operand : EachExpr HasNoRange e → (fresh : ℕ) (at : State) → Gives (EachExpr Q) ((view frame e).operand fresh at)

  abbrev KeptLimits : Type 0
  KeptLimits = (l : NotedLimits) × LimitsHold l

  abbrev KeptNode : Type 0
  KeptNode = (n : NotedNode) × NodeHolds n

  abbrev KeptExpr : Type 0
  KeptExpr = (e : NotedExpr) × ExprHolds e

  abbrev FitLimits : Type 0
  FitLimits = (l : NotedLimits) × EachLimits Q l

  abbrev FitNode : Type 0
  FitNode = (n : NotedNode) × EachNode Q n

  abbrev FitExpr : Type 0
  FitExpr = (e : NotedExpr) × EachExpr Q e

  abbrev inner_limits : Limits-F Name Note KeptLimits KeptNode KeptExpr → LimitsLayer
  inner_limits = map-Limits Name Note KeptLimits KeptNode KeptExpr NotedLimits NotedNode NotedExpr (λ e. e.0) (λ e. e.0) (λ e. e.0)

  abbrev inner_node : Node-F Name Note KeptLimits KeptNode KeptExpr → NotedLayer
  inner_node = map-Node Name Note KeptLimits KeptNode KeptExpr NotedLimits NotedNode NotedExpr (λ e. e.0) (λ e. e.0) (λ e. e.0)

  abbrev inner_expr : Expr-F Name Note KeptLimits KeptNode KeptExpr → ExprLayer
  inner_expr = map-Expr Name Note KeptLimits KeptNode KeptExpr NotedLimits NotedNode NotedExpr (λ e. e.0) (λ e. e.0) (λ e. e.0)

  abbrev bare_limits : Limits-F Name Note FitLimits FitNode FitExpr → LimitsLayer
  bare_limits = map-Limits Name Note FitLimits FitNode FitExpr NotedLimits NotedNode NotedExpr (λ e. e.0) (λ e. e.0) (λ e. e.0)

  abbrev bare_node : Node-F Name Note FitLimits FitNode FitExpr → NotedLayer
  bare_node = map-Node Name Note FitLimits FitNode FitExpr NotedLimits NotedNode NotedExpr (λ e. e.0) (λ e. e.0) (λ e. e.0)

  abbrev viewed_limits : LimitsLayer → Limits-F Name Note LimitsView NodeView View
  viewed_limits = map-Limits Name Note NotedLimits NotedNode NotedExpr LimitsView NodeView View (view_of_limits frame) (view_of_node frame) (view frame)

  abbrev viewed_node : NotedLayer → Node-F Name Note LimitsView NodeView View
  viewed_node = map-Node Name Note NotedLimits NotedNode NotedExpr LimitsView NodeView View (view_of_limits frame) (view_of_node frame) (view frame)

  abbrev viewed_expr : ExprLayer → Expr-F Name Note LimitsView NodeView View
  viewed_expr = map-Expr Name Note NotedLimits NotedNode NotedExpr LimitsView NodeView View (view_of_limits frame) (view_of_node frame) (view frame)

  -- ---- what has such parts

  limits_made : (z : Limits-F Name Note FitLimits FitNode FitExpr) → EachLimits Q (limits_of (bare_limits z))
  limits_made z = subst (EachLimits Q) (limits_rolled (bare_limits z)) (every_made-Limits Name Note AnyLimits AnyNode Q (bare_limits z) z refl tt)

  node_made : (z : Node-F Name Note FitLimits FitNode FitExpr) → EachNode Q (node_of (bare_node z))
  node_made z = subst (EachNode Q) (node_rolled (bare_node z)) (every_made-Node Name Note AnyLimits AnyNode Q (bare_node z) z refl tt)

  node_is : (x : NotedLayer) → out-Node Name Note (node_of x) ≡ x
  node_is x = ap (out-Node Name Note) (sym (node_rolled x)) ∙ node_out x

  made : (r : Note → Range) (z : Node-F Name Note FitLimits FitNode FitExpr)
      → ((note : Note) → note.range ≡ range.Missing → NamesRange frame (bare_node z) (noted_range note (r note)).range) → MadeNode r (node_of (bare_node z))
  made r z h = (node_made z, λ note m. subst (λ x. NamesRange frame x (noted_range note (r note)).range) (sym (node_is (bare_node z))) (h note m))

  local_range : (k : ℕ) (note : Note) (r : Range) (widened : List ℕ) → note.range ≡ range.Missing → r ≡ range_of_local frame k widened → (b : Bool)
      → IsRangeOf frame k ((if b then record note { range = (if b then r else range.Missing) } else note).range)
  local_range k note r widened m is true = inr (widened, is)
  local_range k note r widened m is false = inl m

  -- ---- nodes

  operand_step : (o : TreeOp) (k : KeptExpr) → EachExpr HasNoRange k.0 → (fresh : ℕ) (at : State) → Gives (EachExpr Q) (unary_judged o (view frame k.0) fresh at)
  operand_step op.Address k w fresh at = k.1.operand w fresh at
  operand_step o k w fresh at = k.1.judged w fresh at

  abbrev firsts : List KeptExpr → List NotedExpr
  firsts ks = map (λ (k : KeptExpr). k.0) ks

  abbrev AllFit : List NotedExpr → Type 0
  AllFit es = (zs : List FitExpr) × (map (λ (e : FitExpr). e.0) zs ≡ es)

  arguments_step : (ks : List KeptExpr) → AllEach HasNoRange (firsts ks) → (fresh : ℕ) (at : State) → Gives AllFit (all_judged (map (view frame) (firsts ks)) fresh at)
  arguments_step [] w fresh at = ([], refl)
  arguments_step (k ∷ ks) w fresh at =
      bound (EachExpr Q) AllFit _ _ (k.1.judged w.0 fresh at) (λ a g.
      bound AllFit AllFit _ _ (arguments_step ks w.1 _ at) (λ rest h. ((a, g) ∷ h.0, ap (λ es. a ∷ es) h.1)))

  some_limits : (P : NotedNode → Type 0) (l : KeptLimits) → EachLimits HasNoRange l.0 → (size fresh : ℕ) (at : State) (h : Option NotedLimits → Outcome NotedNode)
      → ((m : NotedLimits) → EachLimits Q m → Gives P (h (Some m))) → Gives P (bind (bind ((view_of_limits frame l.0).judged size fresh at) (λ k. Ok (Some k))) h)
  some_limits P l w size fresh at h next = by ((view_of_limits frame l.0).judged size fresh at) (l.1.judged w size fresh at)
    where
      by : (o : Outcome NotedLimits) → Gives (EachLimits Q) o → Gives P (bind (bind o (λ k. Ok (Some k))) h)
      by (Ok m) g = next m g
      by (Err r) g = tt

  call_made : (r : Note → Range) (n : Name) (es : List NotedExpr) → AllFit es → MadeNode r (node.Call n es)
  call_made r n es f = subst (λ xs. MadeNode r (node.Call n xs)) f.1 (made r (Node-F.Call n f.0) (λ note m. tt))

  abbrev RangeIn : Node-F Name Note KeptLimits KeptNode KeptExpr → ℕ → State → Note → Range
  RangeIn y fresh at note = pointer_range note.ctype (node_view frame (viewed_node (inner_node y))) 0 fresh at

  abbrev Judges : Node-F Name Note KeptLimits KeptNode KeptExpr → CType → ℕ → State → Type 0
  Judges y t fresh at = Gives (MadeNode (RangeIn y fresh at)) (node_judged frame (viewed_node (inner_node y)) t fresh at)

  node_step : (y : Node-F Name Note KeptLimits KeptNode KeptExpr) → NodeParts HasNoRange (inner_node y) → (t : CType) (fresh : ℕ) (at : State) → Judges y t fresh at
  node_step (Node-F.Number n u) w t fresh at = made _ (Node-F.Number n u) (λ note m. tt)
  node_step (Node-F.Text bytes) w t fresh at = made _ (Node-F.Text bytes) (λ note m. tt)
  node_step Node-F.Null w t fresh at = made _ Node-F.Null (λ note m. tt)
  node_step (Node-F.Name (name.Local k)) w t fresh at =
      made (RangeIn (Node-F.Name (name.Local k)) fresh at) (Node-F.Name (name.Local k)) (λ note m. local_range k note (range_of_local frame k at.widened) at.widened m refl (is_pointer note.ctype))
  node_step (Node-F.Name n) w t fresh at = made _ (Node-F.Name n) (λ note m. tt)
  node_step (Node-F.Size x) w t fresh at = made _ (Node-F.Size x) (λ note m. tt)
  node_step (Node-F.Un o k) w t fresh at =
      bound (EachExpr Q) (MadeNode (RangeIn (Node-F.Un o k) fresh at)) _ _ (operand_step o k w fresh at) (λ a g. made _ (Node-F.Un o (a, g)) (λ note m. tt))
  node_step (Node-F.Bin o k j) w t fresh at =
      bound (EachExpr Q) (MadeNode (RangeIn (Node-F.Bin o k j) fresh at)) _ _ (k.1.judged w.0 fresh at) (λ a g.
      bound (EachExpr Q) (MadeNode (RangeIn (Node-F.Bin o k j) fresh at)) _ _ (j.1.judged w.1 _ _) (λ b i. made _ (Node-F.Bin o (a, g) (b, i)) (λ note m. tt)))
  node_step (Node-F.Pick k j i) w t fresh at =
      bound (EachExpr Q) (MadeNode (RangeIn (Node-F.Pick k j i) fresh at)) _ _ (k.1.judged w.0 fresh at) (λ a f.
      bound (EachExpr Q) (MadeNode (RangeIn (Node-F.Pick k j i) fresh at)) _ _ (j.1.judged w.1 _ at) (λ b g.
      bound (EachExpr Q) (MadeNode (RangeIn (Node-F.Pick k j i) fresh at)) _ _ (i.1.judged w.2 _ at) (λ c l. made _ (Node-F.Pick (a, f) (b, g) (c, l)) (λ note m. tt))))
  node_step (Node-F.Index k j) w t fresh at =
      bound (EachExpr Q) (MadeNode (RangeIn (Node-F.Index k j) fresh at)) _ _ (k.1.judged w.0 fresh at) (λ a g.
      bound (EachExpr Q) (MadeNode (RangeIn (Node-F.Index k j) fresh at)) _ _ (j.1.judged w.1 _ at) (λ b i. made _ (Node-F.Index (a, g) (b, i)) (λ note m. tt)))
  node_step (Node-F.Dot k n spot) w t fresh at =
      bound (EachExpr Q) (MadeNode (RangeIn (Node-F.Dot k n spot) fresh at)) _ _ (k.1.judged w fresh at) (λ a g. made _ (Node-F.Dot (a, g) n spot) (λ note m. tt))
  node_step (Node-F.Arrow k n spot) w t fresh at =
      bound (EachExpr Q) (MadeNode (RangeIn (Node-F.Arrow k n spot) fresh at)) _ _ (k.1.judged w fresh at) (λ a g. made _ (Node-F.Arrow (a, g) n spot) (λ note m. tt))
  node_step (Node-F.Cast x k) w t fresh at =
      bound (EachExpr Q) (MadeNode (RangeIn (Node-F.Cast x k) fresh at)) _ _ (k.1.judged w fresh at) (λ a g. made _ (Node-F.Cast x (a, g)) (λ note m. tt))
  node_step (Node-F.Trusted x k None) w t fresh at =
      bound (EachExpr Q) (MadeNode (RangeIn (Node-F.Trusted x k None) fresh at)) _ _ (k.1.judged w.0 fresh at) (λ a g. made _ (Node-F.Trusted x (a, g) None) (λ note m. tt))
  node_step (Node-F.Trusted x k (Some l)) w t fresh at =
      bound (EachExpr Q) (MadeNode (RangeIn (Node-F.Trusted x k (Some l)) fresh at)) _ _ (k.1.judged w.0 fresh at) (λ a g.
      some_limits (MadeNode (RangeIn (Node-F.Trusted x k (Some l)) fresh at)) l w.1 _ _ at (λ b. Ok (node.Trusted x a b)) (λ b i. made _ (Node-F.Trusted x (a, g) (Some (b, i))) (λ note m. tt)))
  node_step (Node-F.Tested x k None) w t fresh at =
      bound (EachExpr Q) (MadeNode (RangeIn (Node-F.Tested x k None) fresh at)) _ _ (k.1.judged w.0 fresh at) (λ a g. made _ (Node-F.Tested x (a, g) None) (λ note m. tt))
  node_step (Node-F.Tested x k (Some l)) w t fresh at =
      bound (EachExpr Q) (MadeNode (RangeIn (Node-F.Tested x k (Some l)) fresh at)) _ _ (k.1.judged w.0 fresh at) (λ a g.
      some_limits (MadeNode (RangeIn (Node-F.Tested x k (Some l)) fresh at)) l w.1 _ _ at (λ b. Ok (node.Tested x a b)) (λ b i. made _ (Node-F.Tested x (a, g) (Some (b, i))) (λ note m. tt)))
  node_step (Node-F.Call n ks) w t fresh at = bound AllFit (MadeNode (RangeIn (Node-F.Call n ks) fresh at)) _ _ (arguments_step ks w fresh at) (λ es f. call_made _ n es f)
  node_step (Node-F.Calloc x k u) w t fresh at =
      bound (EachExpr Q) (MadeNode (RangeIn (Node-F.Calloc x k u) fresh at)) _ _ (k.1.judged w fresh at) (λ a g. made _ (Node-F.Calloc x (a, g) u) (λ note m. tt))

  limits_step : (y : Limits-F Name Note KeptLimits KeptNode KeptExpr) → LimitsParts HasNoRange (inner_limits y) → (size fresh : ℕ) (at : State)
      → Gives (EachLimits Q) (limits_judged (viewed_limits (inner_limits y)) size fresh at)
  limits_step (Limits-F.Count k pos) w size fresh at =
      bound (EachExpr Q) (EachLimits Q) _ _ (k.1.judged w fresh at) (λ a g. kept (EachLimits Q) (not (counts_elements (view frame k.0))) bad_limits pos (Ok (limits.Count a pos)) (limits_made (Limits-F.Count (a, g) pos)))
  limits_step (Limits-F.ByteCount k pos) w size fresh at =
      bound (EachExpr Q) (EachLimits Q) _ _ (k.1.judged w fresh at) (λ a g. kept (EachLimits Q) (not (counts_bytes size (view frame k.0))) bad_limits pos (Ok (limits.ByteCount a pos)) (limits_made (Limits-F.ByteCount (a, g) pos)))
  limits_step (Limits-F.Between k j pos) w size fresh at = bound (EachExpr Q) (EachLimits Q) _ _ (k.1.judged w.0 fresh at) (λ a g. bound (EachExpr Q) (EachLimits Q) _ _ (j.1.judged w.1 _ at) (λ b h. tt))
  limits_step (Limits-F.Unknown pos) w size fresh at = tt

  limits_by : (x : LimitsLayer) (y : Limits-F Name Note KeptLimits KeptNode KeptExpr) → inner_limits y ≡ x → LimitsHold (roll-Limits Name Note x)
  limits_by x y is = record {
    judged = λ w size fresh at.
        subst (λ (v : LimitsView). Gives (EachLimits Q) (v.judged size fresh at))
        (sym (fold-roll-Limits Name Note LimitsView NodeView View limits_view (node_view frame) expr_view x ∙ ap (λ z. limits_view (viewed_limits z)) (sym is)))
        (limits_step y (subst (LimitsParts HasNoRange) (sym is) (limits_hold HasNoRange x w)) size fresh at);
  }

  node_by : (x : NotedLayer) (y : Node-F Name Note KeptLimits KeptNode KeptExpr) → inner_node y ≡ x → NodeHolds (roll-Node Name Note x)
  node_by x y is = record {
    judged = λ w t fresh at.
        subst (λ (v : NodeView). Gives (MadeNode (λ note. pointer_range note.ctype v 0 fresh at)) (v.judged t fresh at))
        (sym (fold-roll-Node Name Note LimitsView NodeView View limits_view (node_view frame) expr_view x ∙ ap (λ z. node_view frame (viewed_node z)) (sym is)))
        (node_step y (subst (NodeParts HasNoRange) (sym is) (node_hold HasNoRange x w)) t fresh at);
  }

  -- ---- expressions

  expr_good : (e : NotedExpr) → EachExpr HasNoRange e → (r : Note → Range) (m : NotedNode) → MadeNode r m → EachExpr Q (expr_made e.pos e.note (r e.note) m)
  expr_good e w r m g =
      every_made-Expr Name Note AnyLimits AnyNode Q (record { node = m; pos = e.pos; note = noted_range e.note (r e.note) })
      (record { node = (m, g.0); pos = e.pos; note = noted_range e.note (r e.note) }) refl
      (g.1 e.note (every_here-Expr Name Note AnyLimits AnyNode HasNoRange e w))

  expr_by : (x : ExprLayer) (y : Expr-F Name Note KeptLimits KeptNode KeptExpr) → inner_expr y ≡ x → ExprHolds (roll-Expr Name Note x)
  expr_by x y is =
      let e = roll-Expr Name Note x in
      let viewed = sym (fold-roll-Expr Name Note LimitsView NodeView View limits_view (node_view frame) expr_view x ∙ ap (λ z. expr_view (viewed_expr z)) (sym is)) in
      let rolled : roll-Expr Name Note (inner_expr y) ≡ e = ap (roll-Expr Name Note) is in
      record {
        judged = λ w fresh at.
            let v : EachExpr HasNoRange (roll-Expr Name Note (inner_expr y)) = subst (EachExpr HasNoRange) (sym rolled) w in
            let R : Note → Range = λ note. pointer_range note.ctype (view_of_node frame y.node.0) 0 fresh at in
            subst (λ (q : View). Gives (EachExpr Q) (q.judged fresh at)) viewed
            (bound (MadeNode R) (EachExpr Q) _ _ (y.node.1.judged (inside HasNoRange (roll-Expr Name Note (inner_expr y)) v) y.note.ctype fresh at)
            (λ m g. faulted (EachExpr Q) _ (Ok (expr_made y.pos y.note (R y.note) m)) (expr_good (roll-Expr Name Note (inner_expr y)) v R m g)));
        operand = λ w fresh at.
            let v : EachExpr HasNoRange (roll-Expr Name Note (inner_expr y)) = subst (EachExpr HasNoRange) (sym rolled) w in
            let R : Note → Range = λ note. pointer_range note.ctype (view_of_node frame y.node.0) 0 fresh at in
            subst (λ (q : View). Gives (EachExpr Q) (q.operand fresh at)) viewed
            (bound (MadeNode R) (EachExpr Q) _ _ (y.node.1.judged (inside HasNoRange (roll-Expr Name Note (inner_expr y)) v) y.note.ctype fresh at)
            (λ m g. faulted (EachExpr Q) _ (Ok (expr_made y.pos y.note (R y.note) m)) (expr_good (roll-Expr Name Note (inner_expr y)) v R m g)));
      }

  expr_judged : (e : NotedExpr) → ExprHolds e
  expr_judged = ind-Expr Name Note LimitsHold NodeHolds ExprHolds limits_by node_by expr_by

  -- what an expression becomes has the ranges of its locals
  pub ranges_noted : (e f : NotedExpr) (fresh : ℕ) (at : State) → EachExpr HasNoRange e → (view frame e).judged fresh at ≡ Ok f → EachExpr Q f
  ranges_noted e f fresh at w is = by ((view frame e).judged fresh at) is ((expr_judged e).judged w fresh at)
    where
      by : (o : Outcome NotedExpr) → o ≡ Ok f → Gives (EachExpr Q) o → EachExpr Q f
      by (Ok g) is h = let same : g ≡ f = cc in subst (EachExpr Q) same h
      by (Err r) is h = absurd (cc)
