-- The range of an expression without widenings begins as it does with them, and ends at the same base.
use Rattle.std.proofs.Common.{◌≡◌, refl, sym, subst, ℕ, Bool, true, false, List}
use Rattle.std.specs.Prelude.{◌==◌, ◌&&◌, if◌then◌else◌, pos, ◌+ℤ◌, Option, None, Some}
use Rattle.std.specs.List.{list_any}
use Rattle.ckc_types.specs.declared.types.CType.{CType}
use Rattle.ckc_syntax.specs.declared.tree.Name.{Name}
use Rattle.ckc_syntax.specs.declared.tree.Name.TheVariants as name
use Rattle.ckc_syntax.specs.declared.tree.TreeOp.{TreeOp}
use Rattle.ckc_syntax.specs.declared.tree.TreeOp.TheVariants as op
use Rattle.ckc_syntax.specs.declared.tree.Limits.{Limits-F, map-Limits, roll-Limits}
use Rattle.ckc_syntax.specs.declared.tree.Node.{Node-F, map-Node, roll-Node, fold-roll-Node}
use Rattle.ckc_syntax.specs.declared.tree.Expr.{Expr-F, map-Expr, ind-Expr, roll-Expr, fold-roll-Expr}
use Rattle.ckc_typed.specs.declared.typed.Note.{Note}
use Rattle.ckc_typed.specs.declared.typed.Range.{Range}
use Rattle.ckc_typed.specs.declared.typed.Range.TheVariants as range
use Rattle.ckc_typed.specs.Operands.{same_element, is_raw_kind}
use Rattle.ckc_typed.specs.Trees.{NotedLimits, NotedNode, NotedExpr, NotedLayer}
use Rattle.ckc_typed.specs.Types.{is_pointer, kind_of}
use Rattle.ckc_blame_sound.specs.ckc_bounds_points.specs.declared.frame.Bounds.{Bounds}
use Rattle.ckc_blame_sound.specs.ckc_bounds_points.specs.declared.frame.Bounds.TheVariants as bounds
use Rattle.ckc_blame_sound.specs.ckc_bounds_points.specs.declared.frame.Frame.{Frame}
use Rattle.ckc_blame_sound.specs.ckc_bounds_points.specs.declared.frame.Local.{Local}
use Rattle.ckc_blame_sound.specs.ckc_bounds_points.specs.Frames.{local_at}
use Rattle.ckc_blame_sound.specs.ckc_bounds_points.specs.Flow.{State}
use Rattle.ckc_blame_sound.specs.ckc_bounds_points.specs.Forms.{is_small}
use Rattle.ckc_blame_sound.specs.ckc_bounds_ranges.specs.Rows.{range_moved, range_of_bounds, range_widened, range_by, range_of_local}
use Rattle.ckc_blame_sound.specs.ckc_bounds_views.specs.declared.variables.Own.{Own}
use Rattle.ckc_blame_sound.specs.ckc_bounds_views.specs.Parts.{LimitsView, NodeView, View, NodeOfViews, capped, next_behind, fresh_behind}
use Rattle.ckc_blame_sound.specs.ckc_bounds_views.specs.Ranges.{range_of_name, range_of_operand, range_of_unary, range_of_node, range_of_address, own_numbers, pointer_range}
use Rattle.ckc_blame_sound.specs.ckc_bounds_views.specs.Views.{limits_view, node_view, expr_view, view_of_limits, view_of_node, view}
use Rattle.ckc_blame_sound.specs.Containment.{IsNarrowed}
use Rattle.ckc_blame_pointers.proofs.Unwidened.{fresh_same, node_fresh_same}

-- a range and itself
itself : (r : Range) → IsNarrowed r r
itself (range.Known low high) = (refl, refl)
itself range.Missing = tt
itself range.Any = tt

none_before : (r : Range) → IsNarrowed r range.Missing
none_before (range.Known low high) = tt
none_before range.Missing = tt
none_before range.Any = tt

-- the bounds of a local, with an element more or as they are
of_bounds : (b : Bounds) (c d : Bool) → IsNarrowed (if c then range_widened b else range_of_bounds b) (if d then range_widened b else range_of_bounds b)
of_bounds bounds.Unknown true true = tt
of_bounds bounds.Unknown true false = tt
of_bounds bounds.Unknown false true = tt
of_bounds bounds.Unknown false false = tt
of_bounds (bounds.Known low high) true true = itself (range_widened (bounds.Known low high))
of_bounds (bounds.Known low high) false false = (refl, refl)
of_bounds (bounds.Known low high) true false = by (is_small high.add && is_small (pos 1))
  where
    by : (b : Bool) → IsNarrowed (range_moved low (if b then Some (record high { add = high.add +ℤ pos 1 }) else None)) (range.Known low high)
    by true = (refl, refl)
    by false = tt
of_bounds (bounds.Known low high) false true = by (is_small high.add && is_small (pos 1))
  where
    by : (b : Bool) → IsNarrowed (range.Known low high) (range_moved low (if b then Some (record high { add = high.add +ℤ pos 1 }) else None))
    by true = (refl, refl)
    by false = tt

of_local : (frame : Frame) (k : ℕ) (ws us : List ℕ) → IsNarrowed (range_of_local frame k ws) (range_of_local frame k us)
of_local frame k ws us = by (local_at frame k)
  where
    by : (o : Option Local) → IsNarrowed (range_by o (list_any (λ p. p == k) ws)) (range_by o (list_any (λ p. p == k) us))
    by None = tt
    by (Some l) = of_bounds l.bounds (list_any (λ p. p == k) ws) (list_any (λ p. p == k) us)

module _ (frame : Frame) where
  record AnyLimits (l : NotedLimits) : Type 0 where
    pub any : Unit {0}

  record NodeHolds (n : NotedNode) : Type 0 where
    pub range : (t : CType) (own : Own) (first fresh : ℕ) (at : State) (ws : List ℕ)
        → IsNarrowed ((view_of_node frame n).range t own first fresh at) ((view_of_node frame n).range t own first fresh (record at { widened = ws }))
    pub address : (own : Own) (first fresh : ℕ) (at : State) (ws : List ℕ) → IsNarrowed ((view_of_node frame n).address own first fresh at) ((view_of_node frame n).address own first fresh (record at { widened = ws }))

  record ExprHolds (e : NotedExpr) : Type 0 where
    pub range : (first fresh : ℕ) (at : State) (ws : List ℕ) → IsNarrowed ((view frame e).range first fresh at) ((view frame e).range first fresh (record at { widened = ws }))
    pub address : (own : Own) (first fresh : ℕ) (at : State) (ws : List ℕ) → IsNarrowed ((view frame e).address own first fresh at) ((view frame e).address own first fresh (record at { widened = ws }))

  abbrev KeptLimits : Type 0
  KeptLimits = (l : NotedLimits) × AnyLimits l

  abbrev KeptNode : Type 0
  KeptNode = (n : NotedNode) × NodeHolds n

  abbrev KeptExpr : Type 0
  KeptExpr = (e : NotedExpr) × ExprHolds e

  abbrev inner_node : Node-F Name Note KeptLimits KeptNode KeptExpr → NotedLayer
  inner_node = map-Node Name Note KeptLimits KeptNode KeptExpr NotedLimits NotedNode NotedExpr (λ e. e.0) (λ e. e.0) (λ e. e.0)

  abbrev inner_limits : Limits-F Name Note KeptLimits KeptNode KeptExpr → Limits-F Name Note NotedLimits NotedNode NotedExpr
  inner_limits = map-Limits Name Note KeptLimits KeptNode KeptExpr NotedLimits NotedNode NotedExpr (λ e. e.0) (λ e. e.0) (λ e. e.0)

  abbrev inner_expr : Expr-F Name Note KeptLimits KeptNode KeptExpr → Expr-F Name Note NotedLimits NotedNode NotedExpr
  inner_expr = map-Expr Name Note KeptLimits KeptNode KeptExpr NotedLimits NotedNode NotedExpr (λ e. e.0) (λ e. e.0) (λ e. e.0)

  abbrev viewed_node : NotedLayer → NodeOfViews
  viewed_node = map-Node Name Note NotedLimits NotedNode NotedExpr LimitsView NodeView View (view_of_limits frame) (view_of_node frame) (view frame)

  abbrev viewed_expr : Expr-F Name Note NotedLimits NotedNode NotedExpr → Expr-F Name Note LimitsView NodeView View
  viewed_expr = map-Expr Name Note NotedLimits NotedNode NotedExpr LimitsView NodeView View (view_of_limits frame) (view_of_node frame) (view frame)

  named : (n : Name) (t : CType) (own : ℕ) (ws us : List ℕ) → IsNarrowed (range_of_name frame n t own ws) (range_of_name frame n t own us)
  named (name.Local k) t own ws us = of_local frame k ws us
  named (name.Static k) t own ws us = itself (range_of_name frame (name.Static k) t own us)
  named n t own ws us = tt

  unary : (o : TreeOp) (e : KeptExpr) (t : CType) (own : Own) (first fresh : ℕ) (at : State) (ws : List ℕ)
      → IsNarrowed (range_of_unary o (view frame e.0) t own first fresh at) (range_of_unary o (view frame e.0) t own first fresh (record at { widened = ws }))
  unary op.Deref e t own first fresh at ws = itself (range_of_unary op.Deref (view frame e.0) t own first fresh at)
  unary op.Address e t own first fresh at ws = e.1.address own first fresh at ws
  unary o e t own first fresh at ws = tt

  operand : (e f : KeptExpr) (first fresh : ℕ) (at : State) (ws : List ℕ)
      → IsNarrowed (range_of_operand (view frame e.0) (view frame f.0) first fresh at) (range_of_operand (view frame e.0) (view frame f.0) first fresh (record at { widened = ws }))
  operand e f first fresh at ws = by (is_pointer (view frame e.0).ctype)
    where
      by : (b : Bool) → IsNarrowed (if b then (view frame e.0).range first fresh at else (view frame f.0).range (capped first (view frame e.0).values) (fresh_behind (view frame e.0) fresh at) at)
          (if b then (view frame e.0).range first fresh (record at { widened = ws })
          else (view frame f.0).range (capped first (view frame e.0).values) (fresh_behind (view frame e.0) fresh (record at { widened = ws })) (record at { widened = ws }))
      by true = e.1.range first fresh at ws
      by false =
          subst (λ us. IsNarrowed ((view frame f.0).range (capped first (view frame e.0).values) (fresh_behind (view frame e.0) fresh at) at)
          ((view frame f.0).range (capped first (view frame e.0).values) (next_behind fresh us) (record at { widened = ws }))) (sym (fresh_same frame e.0 at ws))
          (f.1.range (capped first (view frame e.0).values) (fresh_behind (view frame e.0) fresh at) at ws)

  unless_missing : (b : Bool) (r q : Range) → IsNarrowed r q → IsNarrowed (if b then range.Missing else r) (if b then range.Missing else q)
  unless_missing true r q h = tt
  unless_missing false r q h = h

  if_same : (b : Bool) (r q : Range) → IsNarrowed r q → IsNarrowed (if b then r else range.Missing) (if b then q else range.Missing)
  if_same true r q h = h
  if_same false r q h = tt

  range_step : (y : Node-F Name Note KeptLimits KeptNode KeptExpr) (t : CType) (own : Own) (first fresh : ℕ) (at : State) (ws : List ℕ)
      → IsNarrowed (range_of_node frame (viewed_node (inner_node y)) t own first fresh at) (range_of_node frame (viewed_node (inner_node y)) t own first fresh (record at { widened = ws }))
  range_step (Node-F.Name n) t own first fresh at ws = named n t own.value at.widened ws
  range_step (Node-F.Un o e) t own first fresh at ws = unary o e t own first fresh at ws
  range_step (Node-F.Bin o e f) t own first fresh at ws =
      unless_missing (is_raw_kind (kind_of t)) (range_of_operand (view frame e.0) (view frame f.0) first fresh at) (range_of_operand (view frame e.0) (view frame f.0) first fresh (record at { widened = ws })) (operand e f first fresh at ws)
  range_step (Node-F.Cast w e) t own first fresh at ws =
      if_same (same_element t (view frame e.0).ctype) ((view frame e.0).range first fresh at) ((view frame e.0).range first fresh (record at { widened = ws })) (e.1.range first fresh at ws)
  range_step y t own first fresh at ws = itself (range_of_node frame (viewed_node (inner_node y)) t own first fresh at)

  address_step : (y : Node-F Name Note KeptLimits KeptNode KeptExpr) (own : Own) (first fresh : ℕ) (at : State) (ws : List ℕ)
      → IsNarrowed (range_of_address (viewed_node (inner_node y)) own first fresh at) (range_of_address (viewed_node (inner_node y)) own first fresh (record at { widened = ws }))
  address_step (Node-F.Un op.Deref e) own first fresh at ws = e.1.range first fresh at ws
  address_step (Node-F.Index e f) own first fresh at ws =
      unless_missing (is_raw_kind (kind_of (view frame e.0).ctype)) ((view frame e.0).range first fresh at) ((view frame e.0).range first fresh (record at { widened = ws })) (e.1.range first fresh at ws)
  address_step y own first fresh at ws = itself (range_of_address (viewed_node (inner_node y)) own first fresh at)

  limits_by : (x : Limits-F Name Note NotedLimits NotedNode NotedExpr) (y : Limits-F Name Note KeptLimits KeptNode KeptExpr) → inner_limits y ≡ x → AnyLimits (roll-Limits Name Note x)
  limits_by x y is = record { any = tt }

  node_by : (x : NotedLayer) (y : Node-F Name Note KeptLimits KeptNode KeptExpr) → inner_node y ≡ x → NodeHolds (roll-Node Name Note x)
  node_by x y is = subst (λ x. NodeHolds (roll-Node Name Note x)) is (record {
    range = λ t own first fresh at ws. subst (λ (n : NodeView). IsNarrowed (n.range t own first fresh at) (n.range t own first fresh (record at { widened = ws }))) (sym viewed) (range_step y t own first fresh at ws);
    address = λ own first fresh at ws. subst (λ (n : NodeView). IsNarrowed (n.address own first fresh at) (n.address own first fresh (record at { widened = ws }))) (sym viewed) (address_step y own first fresh at ws);
  })
    where
      viewed : view_of_node frame (roll-Node Name Note (inner_node y)) ≡ node_view frame (viewed_node (inner_node y))
      viewed = fold-roll-Node Name Note LimitsView NodeView View limits_view (node_view frame) expr_view (inner_node y)

  made : (t : CType) (n : NotedNode) → NodeHolds n → (first fresh : ℕ) (at : State) (ws : List ℕ)
      → IsNarrowed (pointer_range t (view_of_node frame n) first fresh at) (pointer_range t (view_of_node frame n) first fresh (record at { widened = ws }))
  made t n h first fresh at ws = by (view_of_node frame n).null (is_pointer t)
    where
      with_own : IsNarrowed ((view_of_node frame n).range t (own_numbers (view_of_node frame n) first fresh at) first fresh at)
          ((view_of_node frame n).range t (own_numbers (view_of_node frame n) first fresh (record at { widened = ws })) first fresh (record at { widened = ws }))
      with_own =
          subst (λ us. IsNarrowed ((view_of_node frame n).range t (own_numbers (view_of_node frame n) first fresh at) first fresh at)
          ((view_of_node frame n).range t (record { value = capped first (view_of_node frame n).values; fresh = next_behind fresh us }) first fresh (record at { widened = ws }))) (sym (node_fresh_same frame n at ws))
          (h.range t (own_numbers (view_of_node frame n) first fresh at) first fresh at ws)

      by : (b p : Bool) → IsNarrowed (if b then range.Any else (if p then (view_of_node frame n).range t (own_numbers (view_of_node frame n) first fresh at) first fresh at else range.Missing))
          (if b then range.Any else (if p then (view_of_node frame n).range t (own_numbers (view_of_node frame n) first fresh (record at { widened = ws })) first fresh (record at { widened = ws }) else range.Missing))
      by true p = tt
      by false true = with_own
      by false false = tt

  expr_by : (x : Expr-F Name Note NotedLimits NotedNode NotedExpr) (y : Expr-F Name Note KeptLimits KeptNode KeptExpr) → inner_expr y ≡ x → ExprHolds (roll-Expr Name Note x)
  expr_by x y is = subst (λ x. ExprHolds (roll-Expr Name Note x)) is (record {
    range = λ first fresh at ws. subst (λ (v : View). IsNarrowed (v.range first fresh at) (v.range first fresh (record at { widened = ws }))) (sym viewed) (made y.note.ctype y.node.0 y.node.1 first fresh at ws);
    address = λ own first fresh at ws. subst (λ (v : View). IsNarrowed (v.address own first fresh at) (v.address own first fresh (record at { widened = ws }))) (sym viewed) (y.node.1.address own first fresh at ws);
  })
    where
      viewed : view frame (roll-Expr Name Note (inner_expr y)) ≡ expr_view (viewed_expr (inner_expr y))
      viewed = fold-roll-Expr Name Note LimitsView NodeView View limits_view (node_view frame) expr_view (inner_expr y)

  alike : (e : NotedExpr) → ExprHolds e
  alike = ind-Expr Name Note AnyLimits NodeHolds ExprHolds limits_by node_by expr_by

  pub range_narrowed : (e : NotedExpr) (first fresh : ℕ) (at : State) (ws : List ℕ) → IsNarrowed ((view frame e).range first fresh at) ((view frame e).range first fresh (record at { widened = ws }))
  range_narrowed e = (alike e).range
