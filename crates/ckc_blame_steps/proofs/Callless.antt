-- An expression without calls has no call in it, however deep.
use Rattle.std.proofs.Common.{◌≡◌, ◌∙◌, sym, true, Bool}
use Rattle.std.specs.Prelude.{Some, None}
use Rattle.std.proofs.lemmas.Bool.{and_parts}
use Rattle.ckc_syntax.specs.declared.tree.Name.{Name}
use Rattle.ckc_syntax.specs.declared.tree.Limits.{Limits-F, map-Limits, out-Limits, fold_out-Limits}
use Rattle.ckc_syntax.specs.declared.tree.Node.{Node-F, map-Node, out-Node, fold-Node, fold_out-Node}
use Rattle.ckc_syntax.specs.declared.tree.Expr.{fold-roll-Expr}
use Rattle.ckc_typed.specs.declared.typed.Note.{Note}
use Rattle.ckc_typed.specs.Trees.{NotedLimits, NotedNode, NotedExpr, NotedLayer}
use Rattle.ckc_typed_welltyped.specs.Productions.{limits_callless, node_callless, expr_callless, callless_limits, callless_expr}
use Rattle.ckc_blame_sound.proofs.Every.{LimitsLayer, ExprLayer, EachExpr}
use Rattle.ckc_blame_steps.proofs.Down.{layer, DownLimits, Down, each_down}

abbrev pub IsCallless : NotedLayer → Type 0
IsCallless (Node-F.Call n es) = ⊥
IsCallless (Node-F.Calloc w e u) = ⊥
IsCallless n = Unit {0}

-- the same of the node of an expression
abbrev pub HasNoCall : ExprLayer → Type 0
HasNoCall x = IsCallless (out-Node Name Note x.node)

abbrev callless_node : NotedNode → Bool
callless_node = fold-Node Name Note Bool Bool Bool limits_callless node_callless expr_callless

abbrev limits_tests : LimitsLayer → Limits-F Name Note Bool Bool Bool
limits_tests = map-Limits Name Note NotedLimits NotedNode NotedExpr Bool Bool Bool callless_limits callless_node callless_expr

abbrev node_tests : NotedLayer → Node-F Name Note Bool Bool Bool
node_tests = map-Node Name Note NotedLimits NotedNode NotedExpr Bool Bool Bool callless_limits callless_node callless_expr

abbrev ExprPasses : NotedExpr → Type 0
ExprPasses e = callless_expr e ≡ true

abbrev LimitsPass : NotedLimits → Type 0
LimitsPass l = callless_limits l ≡ true

limits_parts : (x : LimitsLayer) → limits_callless (limits_tests x) ≡ true → DownLimits ExprPasses x
limits_parts (Limits-F.Count e at) h = h
limits_parts (Limits-F.ByteCount e at) h = h
limits_parts (Limits-F.Between e f at) h = and_parts (callless_expr e) (callless_expr f) h
limits_parts (Limits-F.Unknown at) h = tt

node_parts : (x : NotedLayer) → node_callless (node_tests x) ≡ true → Down ExprPasses LimitsPass x
node_parts (Node-F.Number n u) h = tt
node_parts (Node-F.Text bytes) h = tt
node_parts Node-F.Null h = tt
node_parts (Node-F.Name n) h = tt
node_parts (Node-F.Un o e) h = h
node_parts (Node-F.Bin o e f) h = and_parts (callless_expr e) (callless_expr f) h
node_parts (Node-F.Pick e f g) h =
    let both = and_parts _ (callless_expr g) h in
    let first = and_parts (callless_expr e) (callless_expr f) both.0 in
    (first.0, first.1, both.1)
node_parts (Node-F.Index e f) h = and_parts (callless_expr e) (callless_expr f) h
node_parts (Node-F.Dot e n at) h = h
node_parts (Node-F.Arrow e n at) h = h
node_parts (Node-F.Cast w e) h = h
node_parts (Node-F.Size w) h = tt
node_parts (Node-F.Trusted w e None) h = ((and_parts (callless_expr e) true h).0, tt)
node_parts (Node-F.Trusted w e (Some l)) h = and_parts (callless_expr e) (callless_limits l) h
node_parts (Node-F.Tested w e None) h = ((and_parts (callless_expr e) true h).0, tt)
node_parts (Node-F.Tested w e (Some l)) h = and_parts (callless_expr e) (callless_limits l) h
node_parts (Node-F.Call n es) h = absurd cc
node_parts (Node-F.Calloc w e u) h = absurd cc

node_itself : (x : NotedLayer) → node_callless (node_tests x) ≡ true → IsCallless x
node_itself (Node-F.Call n es) h = absurd cc
node_itself (Node-F.Calloc w e u) h = absurd cc
node_itself x h = tt

expr_is : (e : NotedExpr) → callless_expr e ≡ node_callless (node_tests (out-Node Name Note e.node))
expr_is e =
    fold-roll-Expr Name Note Bool Bool Bool limits_callless node_callless expr_callless (layer e)
    ∙ fold_out-Node Name Note Bool Bool Bool limits_callless node_callless expr_callless e.node

limits_is : (l : NotedLimits) → callless_limits l ≡ limits_callless (limits_tests (out-Limits Name Note l))
limits_is l = fold_out-Limits Name Note Bool Bool Bool limits_callless node_callless expr_callless l

pub no_calls : (e : NotedExpr) → callless_expr e ≡ true → EachExpr HasNoCall e
no_calls =
    each_down ExprPasses LimitsPass HasNoCall
    (λ e h. node_itself (out-Node Name Note e.node) (sym (expr_is e) ∙ h))
    (λ e h. node_parts (out-Node Name Note e.node) (sym (expr_is e) ∙ h))
    (λ l h. limits_parts (out-Limits Name Note l) (sym (limits_is l) ∙ h))
