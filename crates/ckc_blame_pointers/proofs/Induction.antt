-- The claims of all expressions that are covered, by induction.
use Rattle.std.proofs.Common.{◌≡◌, sym, ap, subst, ◌∙◌, ℕ, ◌+◌, false, List}
use Rattle.std.specs.Prelude.{◌<◌, ◌^◌, length, None, Ok, Option}
use Rattle.ckc_base.specs.declared.arithmetic.Mode.{Mode}
use Rattle.ckc_types.specs.declared.types.CType.{CType}
use Rattle.ckc_syntax.specs.declared.tree.Name.{Name}
use Rattle.ckc_syntax.specs.declared.tree.TreeOp.TheVariants as op
use Rattle.ckc_syntax.specs.declared.tree.Limits.{Limits-F, roll-Limits}
use Rattle.ckc_syntax.specs.declared.tree.Node.{Node-F, out-Node, roll-Node, fold-roll-Node}
use Rattle.ckc_syntax.specs.declared.tree.Expr.{Expr-F, ind-Expr, roll-Expr, fold-roll-Expr, every_here-Expr}
use Rattle.ckc_typed.specs.declared.environment.Globals.{Globals}
use Rattle.ckc_typed.specs.declared.typed.Note.{Note}
use Rattle.ckc_typed.specs.Trees.{NotedLimits, NotedNode, NotedExpr, NotedLayer}
use Rattle.ckc_typed.specs.Statics.{strings_of_expr}
use Rattle.ckc_typed_welltyped.specs.Expressions.{AnyLimits, AnyNode}
use Rattle.ckc_typed_welltyped.specs.Parts.{LimitsLayer}
use Rattle.ckc_typed_welltyped.proofs.Nodes.{node_of, node_rolled, limits_out}
use Rattle.ckc_blame_sound.specs.ckc_bounds_views.specs.Parts.{LimitsView, NodeView, View, NodeOfViews}
use Rattle.ckc_blame_sound.specs.ckc_bounds_views.specs.Fresh.{own_fresh}
use Rattle.ckc_blame_sound.specs.ckc_bounds_views.specs.Ranges.{pointer_range}
use Rattle.ckc_blame_sound.specs.ckc_bounds_views.specs.Views.{limits_view, node_view, expr_view, view_of_node, view}
use Rattle.ckc_blame_sound.specs.ckc_bounds_statements.specs.Paths.{Here}
use Rattle.ckc_source.specs.Eval.{Store, evaluated}
use Rattle.ckc_build_values.specs.Places.{Place}
use Rattle.ckc_build_values.specs.Expressions.{Part, NodePart, LimitsPart, limits_parts, node_parts, expr_parts, part_of, part_of_node}
use Rattle.ckc_blame_sound.specs.Settings.{Setting, AreStrings}
use Rattle.ckc_blame_sound.specs.Points.{HoldsAt}
use Rattle.ckc_blame_sound.specs.Typed.{IsRow, HasRow, IsTyped, Agrees}
use Rattle.ckc_blame_sound.specs.Bodies.{AreFresh}
use Rattle.ckc_blame_pointers.specs.Covered.{DeclareLocals, IsSoundStore, IsStructureNode, IsRawAddress, IsCoveredExpr, IsCovered}
use Rattle.ckc_blame_pointers.specs.Meant.{IsNotStuck}
use Rattle.ckc_blame_pointers.specs.Owed.{Runs}
use Rattle.ckc_blame_pointers.proofs.Claims.{Claims}
use Rattle.ckc_blame_pointers.proofs.Inside.{PartsEvery, parts_every, node_every, node_out, IsJudged, judged_is, operand_is}
use Rattle.ckc_blame_pointers.proofs.Nodes.{node_fresh, NodeClaims}
use Rattle.ckc_blame_pointers.proofs.Binary.{ExprClaims}
use Rattle.ckc_blame_pointers.proofs.Later.{parts_room}
use Rattle.ckc_blame_pointers.proofs.Hypotheses as hypotheses
use Rattle.ckc_blame_pointers.proofs.Exprs as steps
use Rattle.ckc_blame_pointers.proofs.Locations as locations
use Rattle.ckc_blame_pointers.proofs.Strings.{node_strings_are, expr_strings_are}
use Rattle.ckc_types.specs.declared.types.Kind.{Kind}

module _ (m : Mode) (globals : Globals) (s : Setting) (agrees : Agrees globals s) (declares : DeclareLocals s) (store : Store) (entry : List ℕ) (next : ℕ) (ready : IsSoundStore s store next) where
  abbrev NodeHolds : NotedNode → Type 0
  NodeHolds = hypotheses.NodeHolds m globals s agrees declares store entry next ready

  abbrev ExprHolds : NotedExpr → Type 0
  ExprHolds = hypotheses.ExprHolds m globals s agrees declares store entry next ready

  abbrev PartsHold : LimitsLayer → Type 0
  PartsHold = hypotheses.PartsHold m globals s agrees declares store entry next ready

  abbrev LimitsHold : NotedLimits → Type 0
  LimitsHold = hypotheses.LimitsHold m globals s agrees declares store entry next ready

  abbrev KeptLimits : Type 0
  KeptLimits = hypotheses.KeptLimits m globals s agrees declares store entry next ready

  abbrev KeptNode : Type 0
  KeptNode = hypotheses.KeptNode m globals s agrees declares store entry next ready

  abbrev KeptExpr : Type 0
  KeptExpr = hypotheses.KeptExpr m globals s agrees declares store entry next ready

  abbrev IsNode : List ℕ → CType → NotedLayer → Type 0
  IsNode = hypotheses.IsNode m globals s agrees declares store entry next ready

  abbrev HasAddress : CType → NotedLayer → Type 0
  HasAddress = hypotheses.HasAddress m globals s agrees declares store entry next ready

  abbrev HoldsPlace : CType → Option Kind → Place → Type 0
  HoldsPlace = hypotheses.HoldsPlace m globals s agrees declares store entry next ready

  abbrev inner_node : Node-F Name Note KeptLimits KeptNode KeptExpr → NotedLayer
  inner_node = hypotheses.inner_node m globals s agrees declares store entry next ready

  abbrev inner_limits : Limits-F Name Note KeptLimits KeptNode KeptExpr → LimitsLayer
  inner_limits = hypotheses.inner_limits m globals s agrees declares store entry next ready

  abbrev inner_expr : Expr-F Name Note KeptLimits KeptNode KeptExpr → Expr-F Name Note NotedLimits NotedNode NotedExpr
  inner_expr = hypotheses.inner_expr m globals s agrees declares store entry next ready

  abbrev viewed_node : NotedLayer → NodeOfViews
  viewed_node = hypotheses.viewed_node m globals s agrees declares store entry next ready

  abbrev viewed_expr : Expr-F Name Note NotedLimits NotedNode NotedExpr → Expr-F Name Note LimitsView NodeView View
  viewed_expr = hypotheses.viewed_expr m globals s agrees declares store entry next ready

  abbrev part_node : NotedLayer → Node-F Name Note LimitsPart NodePart Part
  part_node = hypotheses.part_node m globals s agrees declares store entry next ready

  abbrev part_expr : Expr-F Name Note NotedLimits NotedNode NotedExpr → Expr-F Name Note LimitsPart NodePart Part
  part_expr = hypotheses.part_expr m globals s agrees declares store entry next ready

  -- ---- the induction

  node_by : (x : NotedLayer) (y : Node-F Name Note KeptLimits KeptNode KeptExpr) → inner_node y ≡ x → NodeHolds (roll-Node Name Note x)
  node_by x y is = subst (λ x. NodeHolds (roll-Node Name Note x)) is (record {
    claims = λ note place row typed here covered node checked address scalar h fresh little are judged fault noted k strings.
        let out : out-Node Name Note (roll-Node Name Note (inner_node y)) ≡ inner_node y = node_out (inner_node y) in
        let n_is : view_of_node s.frame (roll-Node Name Note (inner_node y)) ≡ node_view s.frame (viewed_node (inner_node y)) =
        fold-roll-Node Name Note LimitsView NodeView View limits_view (node_view s.frame) expr_view (inner_node y) in
        let q_is : part_of_node (roll-Node Name Note (inner_node y)) ≡ node_parts (part_node (inner_node y)) =
        fold-roll-Node Name Note LimitsPart NodePart Part limits_parts node_parts expr_parts (inner_node y) in
        let P : NodeView → NodePart → Type 0 = λ n q. Runs m (evaluated store (q.value note place s.text s.variables k)) → IsNotStuck (NodeClaims s store entry here h note.ctype n) (evaluated store (q.value note place s.text s.variables k)) in
        subst (λ n. P n (part_of_node (roll-Node Name Note (inner_node y)))) (sym n_is)
        (subst (λ q. P (node_view s.frame (viewed_node (inner_node y))) q) (sym q_is)
        (steps.node_step m globals s agrees declares store entry next ready here h y note place (subst (λ z. IsRow globals s z note) out row)
        (subst (PartsEvery (HasRow globals s)) out (parts_every (HasRow globals s) (roll-Node Name Note (inner_node y)) typed))
        (subst (PartsEvery (IsCoveredExpr m s store here.seen)) out (parts_every (IsCoveredExpr m s store here.seen) (roll-Node Name Note (inner_node y)) covered))
        (subst (IsNode here.seen note.ctype) out node) checked (λ mode. subst (IsRawAddress note.ctype) out (address mode)) scalar fresh (subst (λ (n : NodeView). fresh + length (node_fresh note.ctype n here.at) < 2 ^ 32) n_is little) are
        (subst (λ (n : NodeView). n.fault place fresh here.at ≡ None) n_is fault)
        (subst (λ (n : NodeView). n.judged note.ctype fresh here.at ≡ Ok (node_of (inner_node y))) n_is (judged ∙ ap Ok (node_rolled (inner_node y))))
        (λ p. subst (λ (n : NodeView). note.range ≡ pointer_range note.ctype n 0 fresh here.at) n_is (noted p)) k (subst (λ xs. AreStrings s k xs) (node_strings_are (inner_node y)) strings)));
    address = λ note place row typed here covered node addressed h fresh little are judged fault free r type kept k strings.
        let out : out-Node Name Note (roll-Node Name Note (inner_node y)) ≡ inner_node y = node_out (inner_node y) in
        let n_is : view_of_node s.frame (roll-Node Name Note (inner_node y)) ≡ node_view s.frame (viewed_node (inner_node y)) =
        fold-roll-Node Name Note LimitsView NodeView View limits_view (node_view s.frame) expr_view (inner_node y) in
        let q_is : part_of_node (roll-Node Name Note (inner_node y)) ≡ node_parts (part_node (inner_node y)) =
        fold-roll-Node Name Note LimitsPart NodePart Part limits_parts node_parts expr_parts (inner_node y) in
        let P : NodeView → NodePart → Type 0 =
        λ n q. Runs m (evaluated store (q.address note place s.text s.variables k)) → IsNotStuck (NodeClaims s store entry here h r (node_view s.frame (Node-F.Un op.Address (expr_view (record { node = n; pos = place; note = note }))))) (evaluated store (q.address note place s.text s.variables k)) in
        subst (λ n. P n (part_of_node (roll-Node Name Note (inner_node y)))) (sym n_is)
        (subst (λ q. P (node_view s.frame (viewed_node (inner_node y))) q) (sym q_is)
        (locations.address_step m globals s agrees declares store entry next ready here h y note place (subst (λ z. IsRow globals s z note) out row)
        (subst (PartsEvery (HasRow globals s)) out (parts_every (HasRow globals s) (roll-Node Name Note (inner_node y)) typed))
        (subst (PartsEvery (IsCoveredExpr m s store here.seen)) out (parts_every (IsCoveredExpr m s store here.seen) (roll-Node Name Note (inner_node y)) covered))
        (subst (IsNode here.seen note.ctype) out node) (subst (HasAddress note.ctype) out addressed) fresh (subst (λ (n : NodeView). fresh + length (n.fresh here.at) < 2 ^ 32) n_is little) are
        (subst (λ (n : NodeView). n.judged note.ctype fresh here.at ≡ Ok (node_of (inner_node y))) n_is (judged ∙ ap Ok (node_rolled (inner_node y))))
        (subst (λ (n : NodeView). n.operand_fault place fresh here.at ≡ None) n_is fault)
        (subst (λ (n : NodeView). n.no_address ≡ false) n_is free) r type kept k (subst (λ xs. AreStrings s k xs) (node_strings_are (inner_node y)) strings)));
    place = λ note place row typed here covered node structure tag struct h fresh little are judged fault k strings.
        let out : out-Node Name Note (roll-Node Name Note (inner_node y)) ≡ inner_node y = node_out (inner_node y) in
        let n_is : view_of_node s.frame (roll-Node Name Note (inner_node y)) ≡ node_view s.frame (viewed_node (inner_node y)) =
        fold-roll-Node Name Note LimitsView NodeView View limits_view (node_view s.frame) expr_view (inner_node y) in
        let q_is : part_of_node (roll-Node Name Note (inner_node y)) ≡ node_parts (part_node (inner_node y)) =
        fold-roll-Node Name Note LimitsPart NodePart Part limits_parts node_parts expr_parts (inner_node y) in
        let P : NodeView → NodePart → Type 0 = λ n q. HoldsPlace note.ctype n.behind (q.place note place s.text s.variables k) in
        subst (λ n. P n (part_of_node (roll-Node Name Note (inner_node y)))) (sym n_is)
        (subst (λ q. P (node_view s.frame (viewed_node (inner_node y))) q) (sym q_is)
        (locations.place_step m globals s agrees declares store entry next ready here h y note place (subst (λ z. IsRow globals s z note) out row)
        (subst (PartsEvery (HasRow globals s)) out (parts_every (HasRow globals s) (roll-Node Name Note (inner_node y)) typed))
        (subst (PartsEvery (IsCoveredExpr m s store here.seen)) out (parts_every (IsCoveredExpr m s store here.seen) (roll-Node Name Note (inner_node y)) covered))
        (subst (IsNode here.seen note.ctype) out node) (subst IsStructureNode out structure) tag struct fresh (subst (λ (n : NodeView). fresh + length (n.fresh here.at) < 2 ^ 32) n_is little) are
        (subst (λ (n : NodeView). n.judged note.ctype fresh here.at ≡ Ok (node_of (inner_node y))) n_is (judged ∙ ap Ok (node_rolled (inner_node y))))
        (subst (λ (n : NodeView). n.fault place fresh here.at ≡ None) n_is fault) k (subst (λ xs. AreStrings s k xs) (node_strings_are (inner_node y)) strings)));
  })

  limits_by : (x : LimitsLayer) (y : Limits-F Name Note KeptLimits KeptNode KeptExpr) → inner_limits y ≡ x → LimitsHold (roll-Limits Name Note x)
  limits_by x y is = subst PartsHold (sym (limits_out x)) (subst PartsHold is (held y))
    where
      held : (y : Limits-F Name Note KeptLimits KeptNode KeptExpr) → PartsHold (inner_limits y)
      held (Limits-F.Count e spot) = e.1
      held (Limits-F.ByteCount e spot) = e.1
      held (Limits-F.Between e f spot) = (e.1, f.1)
      held (Limits-F.Unknown spot) = tt

  expr_by : (x : Expr-F Name Note NotedLimits NotedNode NotedExpr) (y : Expr-F Name Note KeptLimits KeptNode KeptExpr) → inner_expr y ≡ x → ExprHolds (roll-Expr Name Note x)
  expr_by x y is = subst (λ x. ExprHolds (roll-Expr Name Note x)) is (record {
    claims = λ typed here covered scalar h fresh little are judged k strings.
        let e : NotedExpr = roll-Expr Name Note (inner_expr y) in
        let v_is : view s.frame e ≡ expr_view (viewed_expr (inner_expr y)) = fold-roll-Expr Name Note LimitsView NodeView View limits_view (node_view s.frame) expr_view (inner_expr y) in
        let q_is : part_of e ≡ expr_parts (part_expr (inner_expr y)) = fold-roll-Expr Name Note LimitsPart NodePart Part limits_parts node_parts expr_parts (inner_expr y) in
        let P : View → Part → Type 0 = λ v q. Runs m (evaluated store (q.value s.text s.variables k)) → IsNotStuck (Claims s store entry here y.note.ctype v.values v.place v.range v.fresh v.behind v.target v.is_zero v.side) (evaluated store (q.value s.text s.variables k)) in
        let seen : IsJudged (view_of_node s.frame y.node.0) y.pos y.note y.node.0 fresh here.at =
        judged_is (view_of_node s.frame y.node.0) y.pos y.note y.node.0 fresh here.at (subst (λ (v : View). v.judged fresh here.at ≡ Ok e) v_is judged) in
        let row : IsRow globals s (out-Node Name Note y.node.0) y.note = every_here-Expr Name Note AnyLimits AnyNode (HasRow globals s) e typed in
        let cover : IsCoveredExpr m s store here.seen (record { node = y.node.0; pos = y.pos; note = y.note }) = every_here-Expr Name Note AnyLimits AnyNode (IsCoveredExpr m s store here.seen) e covered in
        subst (λ v. P v (part_of e)) (sym v_is) (subst (λ q. P (expr_view (viewed_expr (inner_expr y))) q) (sym q_is)
        (y.node.1.claims y.note y.pos row (node_every (HasRow globals s) e typed) here (node_every (IsCoveredExpr m s store here.seen) e covered) cover.node cover.checked cover.address scalar h fresh (subst (λ (v : View). fresh + length (v.fresh here.at) < 2 ^ 32) v_is little) are seen.node seen.fault seen.range k (subst (λ xs. AreStrings s k xs) (expr_strings_are (inner_expr y)) strings)));
    address = λ typed here covered addressed h fresh little are judged free r type kept k strings.
        let e : NotedExpr = roll-Expr Name Note (inner_expr y) in
        let v_is : view s.frame e ≡ expr_view (viewed_expr (inner_expr y)) = fold-roll-Expr Name Note LimitsView NodeView View limits_view (node_view s.frame) expr_view (inner_expr y) in
        let q_is : part_of e ≡ expr_parts (part_expr (inner_expr y)) = fold-roll-Expr Name Note LimitsPart NodePart Part limits_parts node_parts expr_parts (inner_expr y) in
        let P : View → Part → Type 0 = λ v q. Runs m (evaluated store (q.address s.text s.variables k)) → IsNotStuck (NodeClaims s store entry here h r (node_view s.frame (Node-F.Un op.Address v))) (evaluated store (q.address s.text s.variables k)) in
        let seen : ((view_of_node s.frame y.node.0).judged y.note.ctype fresh here.at ≡ Ok y.node.0) × ((view_of_node s.frame y.node.0).operand_fault y.pos fresh here.at ≡ None) =
        operand_is (view_of_node s.frame y.node.0) y.pos y.note y.node.0 fresh here.at (subst (λ (v : View). v.operand fresh here.at ≡ Ok e) v_is judged) in
        let row : IsRow globals s (out-Node Name Note y.node.0) y.note = every_here-Expr Name Note AnyLimits AnyNode (HasRow globals s) e typed in
        let cover : IsCoveredExpr m s store here.seen (record { node = y.node.0; pos = y.pos; note = y.note }) = every_here-Expr Name Note AnyLimits AnyNode (IsCoveredExpr m s store here.seen) e covered in
        subst (λ v. P v (part_of e)) (sym v_is) (subst (λ q. P (expr_view (viewed_expr (inner_expr y))) q) (sym q_is)
        (y.node.1.address y.note y.pos row (node_every (HasRow globals s) e typed) here (node_every (IsCoveredExpr m s store here.seen) e covered) cover.node addressed h fresh (parts_room fresh ((view_of_node s.frame y.node.0).fresh here.at) (own_fresh y.note.ctype (view_of_node s.frame y.node.0) here.at.facts) (subst (λ (v : View). fresh + length (v.fresh here.at) < 2 ^ 32) v_is little)) are seen.0 seen.1 (subst (λ (v : View). v.no_address ≡ false) v_is free) r type kept k (subst (λ xs. AreStrings s k xs) (expr_strings_are (inner_expr y)) strings)));
    place = λ typed here covered structure tag struct h fresh little are judged k strings.
        let e : NotedExpr = roll-Expr Name Note (inner_expr y) in
        let v_is : view s.frame e ≡ expr_view (viewed_expr (inner_expr y)) = fold-roll-Expr Name Note LimitsView NodeView View limits_view (node_view s.frame) expr_view (inner_expr y) in
        let q_is : part_of e ≡ expr_parts (part_expr (inner_expr y)) = fold-roll-Expr Name Note LimitsPart NodePart Part limits_parts node_parts expr_parts (inner_expr y) in
        let seen : IsJudged (view_of_node s.frame y.node.0) y.pos y.note y.node.0 fresh here.at =
        judged_is (view_of_node s.frame y.node.0) y.pos y.note y.node.0 fresh here.at (subst (λ (v : View). v.judged fresh here.at ≡ Ok e) v_is judged) in
        let row : IsRow globals s (out-Node Name Note y.node.0) y.note = every_here-Expr Name Note AnyLimits AnyNode (HasRow globals s) e typed in
        let cover : IsCoveredExpr m s store here.seen (record { node = y.node.0; pos = y.pos; note = y.note }) = every_here-Expr Name Note AnyLimits AnyNode (IsCoveredExpr m s store here.seen) e covered in
        let P : View → Part → Type 0 = λ v q. HoldsPlace y.note.ctype v.behind (q.place s.text s.variables k) in
        subst (λ v. P v (part_of e)) (sym v_is) (subst (λ q. P (expr_view (viewed_expr (inner_expr y))) q) (sym q_is)
        (y.node.1.place y.note y.pos row (node_every (HasRow globals s) e typed) here (node_every (IsCoveredExpr m s store here.seen) e covered) cover.node structure tag struct h fresh (parts_room fresh ((view_of_node s.frame y.node.0).fresh here.at) (own_fresh y.note.ctype (view_of_node s.frame y.node.0) here.at.facts) (subst (λ (v : View). fresh + length (v.fresh here.at) < 2 ^ 32) v_is little)) are seen.node seen.fault k (subst (λ xs. AreStrings s k xs) (expr_strings_are (inner_expr y)) strings)));
  })

  expr_holds : (e : NotedExpr) → ExprHolds e
  expr_holds = ind-Expr Name Note LimitsHold NodeHolds ExprHolds limits_by node_by expr_by

  pub expr_claims : (e : NotedExpr) → IsTyped globals s e → (here : Here) → IsCovered m s store here.seen e → HoldsAt s store entry here → (fresh : ℕ) → fresh + length ((view s.frame e).fresh here.at) < 2 ^ 32 → AreFresh s.frame fresh
      → (view s.frame e).judged fresh here.at ≡ Ok e → (k : ℕ) → AreStrings s k (strings_of_expr e) → Runs m (evaluated store ((part_of e).value s.text s.variables k)) → IsNotStuck (ExprClaims s store entry here e) (evaluated store ((part_of e).value s.text s.variables k))
  expr_claims e typed here covered h fresh little are judged k strings = (expr_holds e).claims typed here covered.0 covered.1 h fresh little are judged k strings
