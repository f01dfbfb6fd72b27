-- Expressions, bounds and statements are well typed exactly when they have their rows and their parts are well typed.
use Rattle.std.proofs.Common.{◌≡◌, ◌↔◌, Bool, List, [], ◌∷◌, map, refl, sym, ap, subst, ◌∙◌, rules}
use Rattle.std.specs.Prelude.{Some, None}
use Rattle.std.specs.List.{AllByRecursion}
use Rattle.ckc_base.specs.declared.arithmetic.Mode.{Mode}
use Rattle.ckc_types.specs.declared.types.CType.{CType}
use Rattle.ckc_syntax.specs.declared.tree.Name.{Name}
use Rattle.ckc_syntax.specs.declared.tree.Limits.{Limits-F, out-Limits, roll-Limits, every_made-Limits}
use Rattle.ckc_syntax.specs.declared.tree.Node.{Node-F, out-Node, roll-Node, every_made-Node, the_lemmas as expr_lemmas}
use Rattle.ckc_syntax.specs.declared.tree.Expr.{out-Expr, every_here-Expr, every_made-Expr}
use Rattle.ckc_syntax.specs.declared.tree.Act.{out-Act, roll-Act, the_lemmas as act_lemmas}
use Rattle.ckc_typed.specs.declared.environment.Globals.{Globals}
use Rattle.ckc_typed.specs.declared.environment.Variable.{Variable}
use Rattle.ckc_typed.specs.declared.typed.Note.{Note}
use Rattle.ckc_typed.specs.Trees.{NotedLimits, NotedNode, NotedExpr, NotedAct, NotedStmt, NotedLayer}
use Rattle.ckc_typed_welltyped.specs.Expressions.{AnyLimits, AnyNode, IsNoted, WellTypedExpr, WellTypedNode, WellTypedLimits}
use Rattle.ckc_typed_welltyped.specs.Parts.{LimitsLayer, LimitsParts, NodeParts, ExprByParts, StmtByParts}
use Rattle.ckc_typed_welltyped.specs.Statements.{act_rows, note_in, WellTypedAct, WellTypedStmt}
use Rattle.ckc_typed_welltyped.proofs.Nodes.{FitLimits, FitNode, FitExpr, bare_limits_layer, bare_node_layer}
use Rattle.ckc_typed_welltyped.proofs.Held.{limits_hold, node_holds, holds_node}
use Rattle.ckc_typed_welltyped.proofs.Acts.{act_rule_is, stmt_rule_is}

limits_back : (l : NotedLimits) → roll-Limits Name Note (out-Limits Name Note l) ≡ l
limits_back l = search (rules, expr_lemmas)

node_back : (n : NotedNode) → roll-Node Name Note (out-Node Name Note n) ≡ n
node_back n = search (rules, expr_lemmas)

act_back : (a : NotedAct) → roll-Act Name Note (out-Act Name Note a) ≡ a
act_back a = search (rules, act_lemmas)

module _ (globals : Globals) (variables : List Variable) (mode : Mode) where
  abbrev FitL : Type 0
  FitL = FitLimits globals variables mode

  abbrev FitE : Type 0
  FitE = FitExpr globals variables mode

  abbrev LimitsFits : Type 0
  LimitsFits = Limits-F Name Note FitL (FitNode globals variables mode) FitE

  abbrev NodeFits : Type 0
  NodeFits = Node-F Name Note FitL (FitNode globals variables mode) FitE

  abbrev LimitsOf : LimitsLayer → Type 0
  LimitsOf d = (z : LimitsFits) × (bare_limits_layer globals variables mode z ≡ d)

  abbrev NodeOf : NotedLayer → Type 0
  NodeOf d = (z : NodeFits) × (bare_node_layer globals variables mode z ≡ d)

  limits_with : (d : LimitsLayer) → LimitsParts globals variables mode d → LimitsOf d
  limits_with (Limits-F.Count e at) p = (Limits-F.Count (e, p) at, refl)
  limits_with (Limits-F.ByteCount e at) p = (Limits-F.ByteCount (e, p) at, refl)
  limits_with (Limits-F.Between e f at) p = (Limits-F.Between (e, p.0) (f, p.1) at, refl)
  limits_with (Limits-F.Unknown at) p = (Limits-F.Unknown at, refl)

  all_with : (es : List NotedExpr) → AllByRecursion (WellTypedExpr globals variables mode) es → (zs : List FitE) × (map (λ (e : FitE). e.0) zs ≡ es)
  all_with [] p = ([], refl)
  all_with (e ∷ es) p = let r = all_with es p.1 in ((e, p.0) ∷ r.0, ap (λ xs. e ∷ xs) r.1)

  node_with : (d : NotedLayer) → NodeParts globals variables mode d → NodeOf d
  node_with (Node-F.Number n u) p = (Node-F.Number n u, refl)
  node_with (Node-F.Text s) p = (Node-F.Text s, refl)
  node_with Node-F.Null p = (Node-F.Null, refl)
  node_with (Node-F.Name n) p = (Node-F.Name n, refl)
  node_with (Node-F.Un o e) p = (Node-F.Un o (e, p), refl)
  node_with (Node-F.Bin o e f) p = (Node-F.Bin o (e, p.0) (f, p.1), refl)
  node_with (Node-F.Pick e f g) p = (Node-F.Pick (e, p.0) (f, p.1) (g, p.2), refl)
  node_with (Node-F.Index e f) p = (Node-F.Index (e, p.0) (f, p.1), refl)
  node_with (Node-F.Dot e n at) p = (Node-F.Dot (e, p) n at, refl)
  node_with (Node-F.Arrow e n at) p = (Node-F.Arrow (e, p) n at, refl)
  node_with (Node-F.Cast w e) p = (Node-F.Cast w (e, p), refl)
  node_with (Node-F.Size w) p = (Node-F.Size w, refl)
  node_with (Node-F.Trusted w e None) p = (Node-F.Trusted w (e, p.0) None, refl)
  node_with (Node-F.Trusted w e (Some l)) p = (Node-F.Trusted w (e, p.0) (Some (l, p.1)), refl)
  node_with (Node-F.Tested w e None) p = (Node-F.Tested w (e, p.0) None, refl)
  node_with (Node-F.Tested w e (Some l)) p = (Node-F.Tested w (e, p.0) (Some (l, p.1)), refl)
  node_with (Node-F.Call n es) p = let r = all_with es p in (Node-F.Call n r.0, ap (λ xs. Node-F.Call n xs) r.1)
  node_with (Node-F.Calloc w e u) p = (Node-F.Calloc w (e, p) u, refl)

  pub limits_by_parts : (l : NotedLimits) → WellTypedLimits globals variables mode l ↔ LimitsParts globals variables mode (out-Limits Name Note l)
  limits_by_parts l = (
    limits_hold globals variables mode l,
    λ p. let z = limits_with (out-Limits Name Note l) p in
        subst (WellTypedLimits globals variables mode) (limits_back l) (every_made-Limits Name Note AnyLimits AnyNode (IsNoted globals variables mode) (out-Limits Name Note l) z.0 z.1 tt),
  )

  node_made : (n : NotedNode) → NodeParts globals variables mode (out-Node Name Note n) → WellTypedNode globals variables mode n
  node_made n p =
      let z = node_with (out-Node Name Note n) p in
      subst (WellTypedNode globals variables mode) (node_back n) (every_made-Node Name Note AnyLimits AnyNode (IsNoted globals variables mode) (out-Node Name Note n) z.0 z.1 tt)

  pub expr_by_parts : (e : NotedExpr) → WellTypedExpr globals variables mode e ↔ ExprByParts globals variables mode e
  expr_by_parts e = (
    λ w. record { noted = every_here-Expr Name Note AnyLimits AnyNode (IsNoted globals variables mode) e w; parts = node_holds globals variables mode e.node (holds_node globals variables mode e w) },
    λ p. every_made-Expr Name Note AnyLimits AnyNode (IsNoted globals variables mode) (out-Expr Name Note e) (record { node = (e.node, node_made e.node p.parts); pos = e.pos; note = e.note }) refl p.noted,
  )

module _ (globals : Globals) (variables : List Variable) (result : CType) (s : NotedStmt) (mode : Mode) (looped : Bool) where
  abbrev Both : Type 0
  Both = act_rows globals variables result (WellTypedStmt globals variables result) (out-Act Name Note s.body) mode looped × (s.note ≡ note_in mode s.body)

  act_is : WellTypedAct globals variables result s.body mode looped ≡ act_rows globals variables result (WellTypedStmt globals variables result) (out-Act Name Note s.body) mode looped
  act_is = ap (λ a. WellTypedAct globals variables result a mode looped) (sym (act_back s.body)) ∙ ap (λ f. f mode looped) (act_rule_is globals variables result (out-Act Name Note s.body))

  whole_is : WellTypedStmt globals variables result s mode looped ≡ Both
  whole_is = ap (λ f. f mode looped) (stmt_rule_is globals variables result s) ∙ ap (λ T. T × (s.note ≡ note_in mode s.body)) act_is

  pub stmt_by_parts : WellTypedStmt globals variables result s mode looped ↔ StmtByParts globals variables result s mode looped
  stmt_by_parts = (λ w. let b : Both = subst (λ (T : Type 0). T) whole_is w in record { row = b.0; noted = b.1 }, λ p. subst (λ (T : Type 0). T) (sym whole_is) (p.row, p.noted))
