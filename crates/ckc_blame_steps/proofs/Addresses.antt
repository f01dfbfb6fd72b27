-- In an expression that has been judged `&` stands before what has an address.
use Rattle.std.proofs.Common.{◌≡◌, ◌∙◌, ⊎_elim, ap, subst, refl, inl, inr, ℕ, Bool, true, false}
use Rattle.std.specs.Prelude.{◌⊎◌, Option, Some, None, Ok}
use Rattle.ckc_base.specs.declared.places.Pos.{Pos}
use Rattle.ckc_base.specs.declared.places.Refusal.{Refusal}
use Rattle.ckc_syntax.specs.declared.tree.Name.{Name}
use Rattle.ckc_syntax.specs.declared.tree.TreeOp.{TreeOp}
use Rattle.ckc_syntax.specs.declared.tree.TreeOp.TheVariants as op
use Rattle.ckc_syntax.specs.declared.tree.Limits.{Limits-F, map-Limits, out-Limits, fold_out-Limits}
use Rattle.ckc_syntax.specs.declared.tree.Node.{Node-F, out-Node}
use Rattle.ckc_syntax.specs.declared.tree.Expr.{every_here-Expr}
use Rattle.ckc_typed.specs.declared.typed.Note.{Note}
use Rattle.ckc_typed.specs.Trees.{NotedLimits, NotedNode, NotedExpr, NotedLayer}
use Rattle.ckc_typed_welltyped.specs.Expressions.{AnyLimits, AnyNode}
use Rattle.ckc_typed_welltyped.proofs.Nodes.{node_of, limits_of}
use Rattle.ckc_blame_sound.specs.ckc_bounds_points.specs.declared.frame.Frame.{Frame}
use Rattle.ckc_blame_sound.specs.ckc_bounds_points.specs.Codes.{bad_limits, bounds_address}
use Rattle.ckc_blame_sound.specs.ckc_bounds_points.specs.Flow.{State}
use Rattle.ckc_blame_sound.specs.ckc_bounds_views.specs.Judged.{fault_if, fault_of_node, limits_judged, node_judged, operand_fault_of_node, unary_judged}
use Rattle.ckc_blame_sound.specs.ckc_bounds_views.specs.Parts.{LimitsOfViews, LimitsView, NodeView, View, fresh_behind}
use Rattle.ckc_blame_sound.specs.ckc_bounds_views.specs.Views.{limits_view, node_view, expr_view, view_of_limits, view_of_node, view}
use Rattle.ckc_blame_sound.proofs.Every.{LimitsLayer, ExprLayer, EachLimits, EachExpr}
use Rattle.ckc_blame_given.specs.ckc_blame_pointers.proofs.Inside.{judged_is, limits_layer, limits_part, no_ends, one_part, operand_is, some_there, tested_parts, three_parts, trusted_parts, two_parts}
use Rattle.ckc_blame_given.proofs.Layers.{view_is, viewed}
use Rattle.ckc_blame_given.proofs.Pointers.{node_is}
use Rattle.ckc_blame_steps.proofs.Callless.{IsCallless, HasNoCall}
use Rattle.ckc_blame_steps.proofs.Down.{layer, DownLimits, Down, each_down, each_parts, each_limits_parts}

unary_is : (o : TreeOp) (v : View) (e : NotedExpr) (fresh : ℕ) (at : State) → unary_judged o v fresh at ≡ Ok e → (v.judged fresh at ≡ Ok e) ⊎ (v.operand fresh at ≡ Ok e)
unary_is op.Address v e fresh at h = inr h
unary_is o v e fresh at h = inl h

no_fault : (b : Bool) (pos : Pos) → ◌≡◌ {A = Option Refusal} (fault_if b bounds_address pos) None → b ≡ false
no_fault true pos h = absurd cc
no_fault false pos h = refl

module _ (frame : Frame) where
  -- the operand of `&` has an address
  abbrev pub HasAddress : NotedLayer → Type 0
  HasAddress (Node-F.Un op.Address e) = (view frame e).no_address ≡ false
  HasAddress x = Unit {0}

  abbrev pub TakesAddress : ExprLayer → Type 0
  TakesAddress x = HasAddress (out-Node Name Note x.node)

  -- Judged again, an expression and limits stay as they are.
  record IsKept (e : NotedExpr) : Type 0 where
    pub fresh : ℕ
    pub at : State
    pub judged : ((view frame e).judged fresh at ≡ Ok e) ⊎ ((view frame e).operand fresh at ≡ Ok e)
    pub callless : EachExpr HasNoCall e

  record AreKept (l : NotedLimits) : Type 0 where
    pub size : ℕ
    pub fresh : ℕ
    pub at : State
    pub judged : (view_of_limits frame l).judged size fresh at ≡ Ok l
    pub callless : EachLimits HasNoCall l

  -- and so does a node, in which there is no fault
  record IsKeptNode (e : NotedExpr) (x : NotedLayer) : Type 0 where
    pub fresh : ℕ
    pub at : State
    pub judged : node_judged frame (viewed frame x) e.note.ctype fresh at ≡ Ok e.node
    pub fault : (fault_of_node frame (viewed frame x) e.pos fresh at ≡ None) ⊎ (operand_fault_of_node frame (viewed frame x) e.pos fresh at ≡ None)

  node_kept : (e : NotedExpr) → IsKept e → IsKeptNode e (out-Node Name Note e.node)
  node_kept e n = by n.judged
    where
      v : NodeView
      v = node_view frame (viewed frame (out-Node Name Note e.node))

      by : ((view frame e).judged n.fresh n.at ≡ Ok e) ⊎ ((view frame e).operand n.fresh n.at ≡ Ok e) → IsKeptNode e (out-Node Name Note e.node)
      by (inl j) =
          let k = judged_is v e.pos e.note e.node n.fresh n.at (subst (λ (v : View). v.judged n.fresh n.at ≡ Ok e) (view_is frame e) j) in
          record { fresh = n.fresh; at = n.at; judged = k.node; fault = inl k.fault }
      by (inr j) =
          let k = operand_is v e.pos e.note e.node n.fresh n.at (subst (λ (v : View). v.operand n.fresh n.at ≡ Ok e) (view_is frame e) j) in
          record { fresh = n.fresh; at = n.at; judged = k.0; fault = inr k.1 }

  addressed : (e : NotedExpr) (x : NotedLayer) → IsKeptNode e x → HasAddress x
  addressed e (Node-F.Un op.Address f) n = ⊎_elim (λ h. no_fault (view frame f).no_address e.pos h) (λ h. no_fault (view frame f).no_address e.pos h) n.fault
  addressed e x n = tt

  -- ---- the parts

  kept : (e : NotedExpr) (fresh : ℕ) (at : State) → (view frame e).judged fresh at ≡ Ok e → EachExpr HasNoCall e → IsKept e
  kept e fresh at h p = record { fresh = fresh; at = at; judged = inl h; callless = p }

  parts_kept : (e : NotedExpr) (x : NotedLayer) → e.node ≡ node_of x → (n : IsKeptNode e x) → IsCallless x → Down (EachExpr HasNoCall) (EachLimits HasNoCall) x
      → Down IsKept AreKept x
  parts_kept e (Node-F.Number m u) is n c p = tt
  parts_kept e (Node-F.Text bytes) is n c p = tt
  parts_kept e Node-F.Null is n c p = tt
  parts_kept e (Node-F.Name m) is n c p = tt
  parts_kept e (Node-F.Un o f) is n c p = record {
    fresh = n.fresh;
    at = n.at;
    judged = unary_is o (view frame f) f n.fresh n.at (one_part (λ b. Node-F.Un o b) (λ b d e. cc) _ f (n.judged ∙ ap Ok is));
    callless = p;
  }
  parts_kept e (Node-F.Bin o f g) is n c p =
      let h = two_parts (λ b d. Node-F.Bin o b d) (λ b d i k e. (cc, cc)) _ _ f g (n.judged ∙ ap Ok is) in
      (kept f _ _ h.0 p.0, kept g _ _ h.1 p.1)
  parts_kept e (Node-F.Pick f g i) is n c p =
      let h = three_parts _ _ _ f g i (n.judged ∙ ap Ok is) in
      (kept f _ _ h.0 p.0, kept g _ _ h.1 p.1, kept i _ _ h.2 p.2)
  parts_kept e (Node-F.Index f g) is n c p =
      let h = two_parts (λ b d. Node-F.Index b d) (λ b d i k e. (cc, cc)) _ _ f g (n.judged ∙ ap Ok is) in
      (kept f _ _ h.0 p.0, kept g _ _ h.1 p.1)
  parts_kept e (Node-F.Dot f m spot) is n c p = kept f _ _ (one_part (λ b. Node-F.Dot b m spot) (λ b d e. cc) _ f (n.judged ∙ ap Ok is)) p
  parts_kept e (Node-F.Arrow f m spot) is n c p = kept f _ _ (one_part (λ b. Node-F.Arrow b m spot) (λ b d e. cc) _ f (n.judged ∙ ap Ok is)) p
  parts_kept e (Node-F.Cast w f) is n c p = kept f _ _ (one_part (λ b. Node-F.Cast w b) (λ b d e. cc) _ f (n.judged ∙ ap Ok is)) p
  parts_kept e (Node-F.Size w) is n c p = tt
  parts_kept e (Node-F.Trusted w f None) is n c p = (kept f _ _ (trusted_parts w _ (Ok None) f None (n.judged ∙ ap Ok is)).0 p.0, tt)
  parts_kept e (Node-F.Trusted w f (Some l)) is n c p =
      let h = trusted_parts w _ _ f (Some l) (n.judged ∙ ap Ok is) in
      (kept f _ _ h.0 p.0, record { size = _; fresh = _; at = _; judged = some_there _ l h.1; callless = p.1 })
  parts_kept e (Node-F.Tested w f None) is n c p = (kept f _ _ (tested_parts w _ (Ok None) f None (n.judged ∙ ap Ok is)).0 p.0, tt)
  parts_kept e (Node-F.Tested w f (Some l)) is n c p =
      let h = tested_parts w _ _ f (Some l) (n.judged ∙ ap Ok is) in
      (kept f _ _ h.0 p.0, record { size = _; fresh = _; at = _; judged = some_there _ l h.1; callless = p.1 })
  parts_kept e (Node-F.Call m es) is n c p = absurd c
  parts_kept e (Node-F.Calloc w f u) is n c p = absurd c

  abbrev limits_viewed : LimitsLayer → LimitsOfViews
  limits_viewed = map-Limits Name Note NotedLimits NotedNode NotedExpr LimitsView NodeView View (view_of_limits frame) (view_of_node frame) (view frame)

  limits_is : (l : NotedLimits) → view_of_limits frame l ≡ limits_view (limits_viewed (out-Limits Name Note l))
  limits_is l = fold_out-Limits Name Note LimitsView NodeView View limits_view (node_view frame) expr_view l

  limits_kept : (x : LimitsLayer) (size fresh : ℕ) (at : State) → limits_judged (limits_viewed x) size fresh at ≡ Ok (limits_of x) → DownLimits (EachExpr HasNoCall) x → DownLimits IsKept x
  limits_kept (Limits-F.Count e pos) size fresh at h p = kept e _ _ (limits_part (λ b. Limits-F.Count b pos) (λ b d e. cc) _ _ _ pos e h).0 p
  limits_kept (Limits-F.ByteCount e pos) size fresh at h p = kept e _ _ (limits_part (λ b. Limits-F.ByteCount b pos) (λ b d e. cc) _ _ _ pos e h).0 p
  limits_kept (Limits-F.Between e f pos) size fresh at h p = absurd (no_ends ((view frame e).judged fresh at) ((view frame f).judged (fresh_behind (view frame e) fresh at) at) bad_limits pos _ h)
  limits_kept (Limits-F.Unknown pos) size fresh at h p = tt

  -- ---- the whole

  pub addresses_taken : (e : NotedExpr) (fresh : ℕ) (at : State) → (view frame e).judged fresh at ≡ Ok e → EachExpr HasNoCall e → EachExpr TakesAddress e
  addresses_taken e fresh at judged callless = each_down IsKept AreKept TakesAddress here down down_limits e (kept e fresh at judged callless)
    where
      here : (e : NotedExpr) → IsKept e → TakesAddress (layer e)
      here e n = addressed e (out-Node Name Note e.node) (node_kept e n)

      down : (e : NotedExpr) → IsKept e → Down IsKept AreKept (out-Node Name Note e.node)
      down e n =
          parts_kept e (out-Node Name Note e.node) (node_is e (out-Node Name Note e.node) refl) (node_kept e n)
          (every_here-Expr Name Note AnyLimits AnyNode HasNoCall e n.callless) (each_parts HasNoCall e n.callless)

      down_limits : (l : NotedLimits) → AreKept l → DownLimits IsKept (out-Limits Name Note l)
      down_limits l n =
          limits_kept (out-Limits Name Note l) n.size n.fresh n.at
          (subst (λ (v : LimitsView). v.judged n.size n.fresh n.at ≡ Ok (limits_of (out-Limits Name Note l))) (limits_is l) (n.judged ∙ ap Ok (limits_layer l (out-Limits Name Note l) refl)))
          (each_limits_parts HasNoCall l n.callless)
