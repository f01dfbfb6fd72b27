-- Which codes the refusals of the bounds phase have: of expressions.
use Rattle.std.proofs.Common.{◌≡◌, inl, inr, ◌∙◌, sym, ap, subst, refl, ℕ, List, [], ◌∷◌, map, Bool, true, false, if◌then◌else◌}
use Rattle.std.specs.Prelude.{Ok, Option, Some, None, not, ◌||◌, slice_get}
use Rattle.ckc_base.proofs.Codes
use Rattle.ckc_base.specs.declared.places.Pos.{Pos}
use Rattle.ckc_base.specs.declared.places.Refusal.{Refusal}
use Rattle.ckc_base.specs.Outcomes.{Outcome}
use Rattle.ckc_types.specs.declared.types.CType.{CType}
use Rattle.ckc_syntax.specs.declared.tree.Name.{Name}
use Rattle.ckc_syntax.specs.declared.tree.Name.TheVariants as name
use Rattle.ckc_syntax.specs.declared.tree.TreeOp.{TreeOp}
use Rattle.ckc_syntax.specs.declared.tree.TreeOp.TheVariants as op
use Rattle.ckc_syntax.specs.declared.tree.Limits.{Limits-F, map-Limits, roll-Limits, fold-roll-Limits}
use Rattle.ckc_syntax.specs.declared.tree.Limits.TheVariants as limits
use Rattle.ckc_syntax.specs.declared.tree.Node.{Node-F, map-Node, roll-Node, fold-roll-Node}
use Rattle.ckc_syntax.specs.declared.tree.Expr.{Expr-F, map-Expr, ind-Expr, roll-Expr, fold-roll-Expr}
use Rattle.ckc_typed.specs.declared.typed.Note.{Note}
use Rattle.ckc_typed.specs.Trees.{NotedLimits, NotedNode, NotedExpr}
use Rattle.ckc_bounds_points.specs.declared.frame.HeadBounds.{HeadBounds}
use Rattle.ckc_bounds_points.specs.declared.frame.Frame.{Frame}
use Rattle.ckc_bounds_points.specs.Shown.{Known}
use Rattle.ckc_bounds_points.specs.Flow.{State}
use Rattle.ckc_bounds_ranges.specs.declared.replacements.BaseBy.{BaseBy}
use Rattle.ckc_bounds_ranges.specs.declared.replacements.VariableBy.{VariableBy}
use Rattle.ckc_bounds_points.specs.Codes.{unknown_bounds, not_contained, bad_limits, bounds_address}
use Rattle.ckc_bounds_views.specs.Parts.{LimitsView, View, NodeView, NodeOfViews, capped, fresh_behind}
use Rattle.ckc_bounds_views.specs.Judged.{counts_elements, counts_bytes, limits_judged, all_judged, node_judged, fault_if, is_owed, is_argument, arguments_fault, head_fault, call_fault, unary_fault, fault_of_node, operand_fault_of_node, by_fault}
use Rattle.ckc_bounds_views.specs.Views.{limits_view, node_view, expr_view, view_of_limits, view_of_node, view}
use Rattle.ckc_bounds_statements.specs.Paths.{Here, value_judged}
use Rattle.ckc_bounds_statements.specs.Codes.{IsBoundsCode}
use Rattle.ckc_bounds_statements.proofs.Coded.{HasCode, is_602, is_603}

is_601 : IsBoundsCode 601
is_601 = inl refl

is_606 : IsBoundsCode 606
is_606 = inr (inr (inr (inr (inr (inl refl)))))

abbrev CodedFault : Option Refusal → Type 0
CodedFault None = Unit {0}
CodedFault (Some r) = IsBoundsCode r.code

if_coded : (b : Bool) (code : ℕ) (at : Pos) → IsBoundsCode code → CodedFault (fault_if b code at)
if_coded true code at h = h
if_coded false code at h = tt

faulted : {A : Type 0} (r : Option Refusal) (o : Outcome A) → CodedFault r → HasCode o → HasCode (by_fault r o)
faulted None o h k = k
faulted (Some r) o h k = h

arguments_coded : (bases : Known → List BaseBy) (variables : Known → List VariableBy) (h : HeadBounds) (n : ℕ) (es : List View) (first fresh : ℕ) (at : State) → CodedFault (arguments_fault bases variables h n es first fresh at)
arguments_coded bases variables h n [] first fresh at = tt
arguments_coded bases variables h n (e ∷ es) first fresh at =
    by (is_owed (slice_get h.interfaces n) e || is_argument (slice_get h.params n) e first fresh at bases variables) _ (arguments_coded bases variables h (capped n 1) es (capped first e.values) (fresh_behind e fresh at) at)
  where
    by : (b : Bool) (r : Option Refusal) → CodedFault r → CodedFault (if b then r else Some (record { code = not_contained; pos = e.pos }))
    by true r h = h
    by false r h = is_602

head_coded : (h : Option HeadBounds) (es : List View) (fresh : ℕ) (at : State) → CodedFault (head_fault h es fresh at)
head_coded None es fresh at = tt
head_coded (Some h) es fresh at = arguments_coded _ _ h 0 es 0 fresh at

pub record ViewCoded (v : View) : Type 0 where
  pub judged : (fresh : ℕ) (at : State) → HasCode (v.judged fresh at)
  pub operand : (fresh : ℕ) (at : State) → HasCode (v.operand fresh at)

pub record NodeCoded (n : NodeView) : Type 0 where
  pub judged : (t : CType) (fresh : ℕ) (at : State) → HasCode (n.judged t fresh at)
  pub fault : (pos : Pos) (fresh : ℕ) (at : State) → CodedFault (n.fault pos fresh at)
  pub operand_fault : (pos : Pos) (fresh : ℕ) (at : State) → CodedFault (n.operand_fault pos fresh at)

pub record LimitsCoded (l : LimitsView) : Type 0 where
  pub judged : (size fresh : ℕ) (at : State) → HasCode (l.judged size fresh at)

module _ (frame : Frame) where
  abbrev KeptLimits : Type 0
  KeptLimits = (l : NotedLimits) × LimitsCoded (view_of_limits frame l)

  abbrev KeptNode : Type 0
  KeptNode = (n : NotedNode) × NodeCoded (view_of_node frame n)

  abbrev KeptExpr : Type 0
  KeptExpr = (e : NotedExpr) × ViewCoded (view frame e)

  abbrev inner_limits : Limits-F Name Note KeptLimits KeptNode KeptExpr → Limits-F Name Note NotedLimits NotedNode NotedExpr
  inner_limits = map-Limits Name Note KeptLimits KeptNode KeptExpr NotedLimits NotedNode NotedExpr (λ e. e.0) (λ e. e.0) (λ e. e.0)

  abbrev inner_node : Node-F Name Note KeptLimits KeptNode KeptExpr → Node-F Name Note NotedLimits NotedNode NotedExpr
  inner_node = map-Node Name Note KeptLimits KeptNode KeptExpr NotedLimits NotedNode NotedExpr (λ e. e.0) (λ e. e.0) (λ e. e.0)

  abbrev inner_expr : Expr-F Name Note KeptLimits KeptNode KeptExpr → Expr-F Name Note NotedLimits NotedNode NotedExpr
  inner_expr = map-Expr Name Note KeptLimits KeptNode KeptExpr NotedLimits NotedNode NotedExpr (λ e. e.0) (λ e. e.0) (λ e. e.0)

  abbrev limits_inside : Limits-F Name Note NotedLimits NotedNode NotedExpr → Limits-F Name Note LimitsView NodeView View
  limits_inside = map-Limits Name Note NotedLimits NotedNode NotedExpr LimitsView NodeView View (view_of_limits frame) (view_of_node frame) (view frame)

  abbrev node_inside : Node-F Name Note NotedLimits NotedNode NotedExpr → Node-F Name Note LimitsView NodeView View
  node_inside = map-Node Name Note NotedLimits NotedNode NotedExpr LimitsView NodeView View (view_of_limits frame) (view_of_node frame) (view frame)

  abbrev expr_inside : Expr-F Name Note NotedLimits NotedNode NotedExpr → Expr-F Name Note LimitsView NodeView View
  expr_inside = map-Expr Name Note NotedLimits NotedNode NotedExpr LimitsView NodeView View (view_of_limits frame) (view_of_node frame) (view frame)

  limits_step : (y : Limits-F Name Note KeptLimits KeptNode KeptExpr) (size fresh : ℕ) (at : State) → HasCode (limits_judged (limits_inside (inner_limits y)) size fresh at)
  limits_step (Limits-F.Count k pos) size fresh at = Codes.bound IsBoundsCode _ _ (k.1.judged fresh at) (λ a. Codes.kept IsBoundsCode {A = NotedLimits} (not (counts_elements (view frame k.0))) bad_limits pos (Ok (limits.Count a pos)) is_603 tt)
  limits_step (Limits-F.ByteCount k pos) size fresh at = Codes.bound IsBoundsCode _ _ (k.1.judged fresh at) (λ a. Codes.kept IsBoundsCode {A = NotedLimits} (not (counts_bytes size (view frame k.0))) bad_limits pos (Ok (limits.ByteCount a pos)) is_603 tt)
  limits_step (Limits-F.Between k j pos) size fresh at = Codes.bound IsBoundsCode {B = NotedLimits} _ _ (k.1.judged fresh at) (λ a. Codes.bound IsBoundsCode {B = NotedLimits} _ _ (j.1.judged _ at) (λ b. is_603))
  limits_step (Limits-F.Unknown pos) size fresh at = is_603

  arguments_judged : (ks : List KeptExpr) (fresh : ℕ) (at : State) → HasCode (all_judged (map (view frame) (map (λ k. k.0) ks)) fresh at)
  arguments_judged [] fresh at = tt
  arguments_judged (k ∷ ks) fresh at = Codes.bound IsBoundsCode _ _ (k.1.judged fresh at) (λ a. Codes.bound IsBoundsCode _ _ (arguments_judged ks _ at) (λ rest. tt))

  unary_step : (o : TreeOp) (k : KeptExpr) (fresh : ℕ) (at : State) (t : CType) → HasCode (node_judged frame (node_inside (inner_node (Node-F.Un o k))) t fresh at)
  unary_step op.Address k fresh at t = Codes.bound IsBoundsCode _ _ (k.1.operand fresh at) (λ a. tt)
  unary_step _ k fresh at t = Codes.bound IsBoundsCode _ _ (k.1.judged fresh at) (λ a. tt)

  judged_step : (y : Node-F Name Note KeptLimits KeptNode KeptExpr) (t : CType) (fresh : ℕ) (at : State) → HasCode (node_judged frame (node_inside (inner_node y)) t fresh at)
  judged_step (Node-F.Number n unsigned) t fresh at = tt
  judged_step (Node-F.Text bytes) t fresh at = tt
  judged_step Node-F.Null t fresh at = tt
  judged_step (Node-F.Name n) t fresh at = tt
  judged_step (Node-F.Un o k) t fresh at = unary_step o k fresh at t
  judged_step (Node-F.Bin o k j) t fresh at = Codes.bound IsBoundsCode _ _ (k.1.judged fresh at) (λ a. Codes.bound IsBoundsCode _ _ (j.1.judged _ _) (λ b. tt))
  judged_step (Node-F.Pick k j i) t fresh at = Codes.bound IsBoundsCode _ _ (k.1.judged fresh at) (λ a. Codes.bound IsBoundsCode _ _ (j.1.judged _ at) (λ b. Codes.bound IsBoundsCode _ _ (i.1.judged _ at) (λ c. tt)))
  judged_step (Node-F.Index k j) t fresh at = Codes.bound IsBoundsCode _ _ (k.1.judged fresh at) (λ a. Codes.bound IsBoundsCode _ _ (j.1.judged _ at) (λ b. tt))
  judged_step (Node-F.Dot k n spot) t fresh at = Codes.bound IsBoundsCode _ _ (k.1.judged fresh at) (λ a. tt)
  judged_step (Node-F.Arrow k n spot) t fresh at = Codes.bound IsBoundsCode _ _ (k.1.judged fresh at) (λ a. tt)
  judged_step (Node-F.Cast w k) t fresh at = Codes.bound IsBoundsCode _ _ (k.1.judged fresh at) (λ a. tt)
  judged_step (Node-F.Size w) t fresh at = tt
  judged_step (Node-F.Trusted w k None) t fresh at = Codes.bound IsBoundsCode _ _ (k.1.judged fresh at) (λ a. tt)
  judged_step (Node-F.Trusted w k (Some l)) t fresh at = Codes.bound IsBoundsCode _ _ (k.1.judged fresh at) (λ a. Codes.bound IsBoundsCode _ _ (Codes.bound IsBoundsCode _ _ (l.1.judged _ _ at) (λ b. tt)) (λ b. tt))
  judged_step (Node-F.Tested w k None) t fresh at = Codes.bound IsBoundsCode _ _ (k.1.judged fresh at) (λ a. tt)
  judged_step (Node-F.Tested w k (Some l)) t fresh at = Codes.bound IsBoundsCode _ _ (k.1.judged fresh at) (λ a. Codes.bound IsBoundsCode _ _ (Codes.bound IsBoundsCode _ _ (l.1.judged _ _ at) (λ b. tt)) (λ b. tt))
  judged_step (Node-F.Call n ks) t fresh at = Codes.bound IsBoundsCode _ _ (arguments_judged ks fresh at) (λ args. tt)
  judged_step (Node-F.Calloc w k x) t fresh at = Codes.bound IsBoundsCode _ _ (k.1.judged fresh at) (λ a. tt)

  call_coded : (n : Name) (es : List View) (fresh : ℕ) (at : State) → CodedFault (call_fault frame n es fresh at)
  call_coded (name.Function k) es fresh at = head_coded (slice_get frame.heads k) es fresh at
  call_coded _ es fresh at = tt

  unary_coded : (o : TreeOp) (e : View) (pos : Pos) (fresh : ℕ) (at : State) → CodedFault (unary_fault o e pos fresh at)
  unary_coded op.Deref e pos fresh at = if_coded _ unknown_bounds pos is_601
  unary_coded op.Address e pos fresh at = if_coded e.no_address bounds_address pos is_606
  unary_coded _ e pos fresh at = tt

  fault_coded : (n : NodeOfViews) (pos : Pos) (fresh : ℕ) (at : State) → CodedFault (fault_of_node frame n pos fresh at)
  fault_coded (Node-F.Un o e) pos fresh at = unary_coded o e pos fresh at
  fault_coded (Node-F.Index e f) pos fresh at = if_coded _ unknown_bounds pos is_601
  fault_coded (Node-F.Arrow e n spot) pos fresh at = if_coded _ unknown_bounds pos is_601
  fault_coded (Node-F.Tested w e l) pos fresh at = if_coded _ unknown_bounds pos is_601
  fault_coded (Node-F.Call n es) pos fresh at = call_coded n es fresh at
  fault_coded _ pos fresh at = tt

  operand_coded : (n : NodeOfViews) (pos : Pos) (fresh : ℕ) (at : State) → CodedFault (operand_fault_of_node frame n pos fresh at)
  operand_coded (Node-F.Un op.Address e) pos fresh at = if_coded e.no_address bounds_address pos is_606
  operand_coded (Node-F.Arrow e n spot) pos fresh at = if_coded _ unknown_bounds pos is_601
  operand_coded (Node-F.Tested w e l) pos fresh at = if_coded _ unknown_bounds pos is_601
  operand_coded (Node-F.Call n es) pos fresh at = call_coded n es fresh at
  operand_coded _ pos fresh at = tt

  limits_by : (x : Limits-F Name Note NotedLimits NotedNode NotedExpr) (y : Limits-F Name Note KeptLimits KeptNode KeptExpr) → inner_limits y ≡ x → LimitsCoded (view_of_limits frame (roll-Limits Name Note x))
  limits_by x y is =
      subst LimitsCoded
      (sym (fold-roll-Limits Name Note LimitsView NodeView View limits_view (node_view frame) expr_view x ∙ ap (λ z. limits_view (limits_inside z)) (sym is)))
      (record { judged = limits_step y })

  node_by : (x : Node-F Name Note NotedLimits NotedNode NotedExpr) (y : Node-F Name Note KeptLimits KeptNode KeptExpr) → inner_node y ≡ x → NodeCoded (view_of_node frame (roll-Node Name Note x))
  node_by x y is =
      subst NodeCoded
      (sym (fold-roll-Node Name Note LimitsView NodeView View limits_view (node_view frame) expr_view x ∙ ap (λ z. node_view frame (node_inside z)) (sym is)))
      (record { judged = judged_step y; fault = fault_coded (node_inside (inner_node y)); operand_fault = operand_coded (node_inside (inner_node y)) })

  expr_by : (x : Expr-F Name Note NotedLimits NotedNode NotedExpr) (y : Expr-F Name Note KeptLimits KeptNode KeptExpr) → inner_expr y ≡ x → ViewCoded (view frame (roll-Expr Name Note x))
  expr_by x y is =
      subst ViewCoded
      (sym (fold-roll-Expr Name Note LimitsView NodeView View limits_view (node_view frame) expr_view x ∙ ap (λ z. expr_view (expr_inside z)) (sym is)))
      (record {
        judged = λ fresh at. Codes.bound IsBoundsCode _ _ (y.node.1.judged y.note.ctype fresh at) (λ m. faulted _ _ (y.node.1.fault y.pos fresh at) tt);
        operand = λ fresh at. Codes.bound IsBoundsCode _ _ (y.node.1.judged y.note.ctype fresh at) (λ m. faulted _ _ (y.node.1.operand_fault y.pos fresh at) tt);
      })

  pub view_coded : (e : NotedExpr) → ViewCoded (view frame e)
  view_coded = ind-Expr Name Note (λ l. LimitsCoded (view_of_limits frame l)) (λ n. NodeCoded (view_of_node frame n)) (λ e. ViewCoded (view frame e)) limits_by node_by expr_by

pub value_coded : (frame : Frame) (e : NotedExpr) (h : Here) → HasCode (value_judged frame e h)
unfolding value_judged
value_coded frame e h = let v = view_coded frame e in Codes.bound IsBoundsCode _ _ (Codes.chosen IsBoundsCode h.counting (Ok e) ((view frame e).judged h.next h.at) tt (v.judged h.next h.at)) (λ f. tt)
