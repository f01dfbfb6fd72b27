-- What judging makes of an expression that is a call, and of a `calloc`.
use Rattle.std.proofs.Common.{◌≡◌, sym, ap, subst, ◌∙◌, ℕ, List, map, rules}
use Rattle.std.specs.Prelude.{Ok}
use Rattle.ckc_base.specs.Outcomes.{Outcome, bind}
use Rattle.ckc_syntax.specs.declared.tree.Name.{Name}
use Rattle.ckc_syntax.specs.declared.tree.Node.{Node-F, out-Node, the_lemmas as node_lemmas}
use Rattle.ckc_syntax.specs.declared.tree.Node.TheVariants as node
use Rattle.ckc_typed.specs.declared.typed.Note.{Note}
use Rattle.ckc_typed.specs.Trees.{NotedNode, NotedExpr, NotedLayer, TypeTree}
use Rattle.ckc_blame_sound.specs.ckc_bounds_points.specs.declared.frame.Frame.{Frame}
use Rattle.ckc_blame_sound.specs.ckc_bounds_points.specs.Flow.{State}
use Rattle.ckc_blame_sound.specs.ckc_bounds_views.specs.Judged.{all_judged, by_fault, expr_made}
use Rattle.ckc_blame_sound.specs.ckc_bounds_views.specs.Parts.{View, NodeView}
use Rattle.ckc_blame_sound.specs.ckc_bounds_views.specs.Ranges.{pointer_range}
use Rattle.ckc_blame_sound.specs.ckc_bounds_views.specs.Views.{node_view, view}
use Rattle.ckc_blame_sound.proofs.Statements.{made_of}
use Rattle.ckc_blame_given.proofs.Views.{node_in, viewed_layer, view_is}
use Rattle.ckc_blame_steps.proofs.Calls.{no_refusal}

out_call_node : (n : Name) (es : List NotedExpr) → out-Node Name Note (node.Call n es) ≡ Node-F.Call n es
out_call_node n es = search (rules, node_lemmas)

out_calloc_node : (w u : TypeTree) (e : NotedExpr) → out-Node Name Note (node.Calloc w e u) ≡ Node-F.Calloc w e u
out_calloc_node w u e = search (rules, node_lemmas)

ok_same : {A : Type 0} {a b : A} → ◌≡◌ {A = Outcome A} (Ok a) (Ok b) → a ≡ b
ok_same e = cc

module _ (frame : Frame) (at : State) (fresh : ℕ) (x made : NotedExpr) (makes : (view frame x).judged fresh at ≡ Ok made) where
  -- the node that the node of the expression is judged to
  record IsNodeMade (d : NotedLayer) : Type 0 where
    pub node : NotedNode
    pub judged : (node_view frame (viewed_layer frame d)).judged x.note.ctype fresh at ≡ Ok node
    pub same : made.node ≡ node

  node_made : (d : NotedLayer) → out-Node Name Note x.node ≡ d → IsNodeMade d
  node_made d is =
      let n : NodeView = node_view frame (viewed_layer frame d) in
      let node_is : node_in frame x ≡ n = ap (λ y. node_view frame (viewed_layer frame y)) is in
      let by_layer : bind (n.judged x.note.ctype fresh at) (λ m. by_fault (n.fault x.pos fresh at) (Ok (expr_made x.pos x.note (pointer_range x.note.ctype n 0 fresh at) m))) ≡ Ok made =
      subst (λ (y : NodeView). bind (y.judged x.note.ctype fresh at) (λ m. by_fault (y.fault x.pos fresh at) (Ok (expr_made x.pos x.note (pointer_range x.note.ctype y 0 fresh at) m))) ≡ Ok made) node_is
      (sym (ap (λ (v : View). v.judged fresh at) (view_is frame x)) ∙ makes) in
      let m = made_of (n.judged x.note.ctype fresh at) (λ m. by_fault (n.fault x.pos fresh at) (Ok (expr_made x.pos x.note (pointer_range x.note.ctype n 0 fresh at) m))) made by_layer in
      let r = no_refusal (n.fault x.pos fresh at) (expr_made x.pos x.note (pointer_range x.note.ctype n 0 fresh at) m.0) made m.2 in
      record { node = m.0; judged = m.1; same = ap (λ (e : NotedExpr). e.node) (sym r.1) }

  -- A call becomes one with its arguments judged, one after another.
  pub record IsCallMade (n : Name) (es : List NotedExpr) : Type 0 where
    pub afters : List NotedExpr
    pub node : out-Node Name Note made.node ≡ Node-F.Call n afters
    pub judged : all_judged (map (view frame) es) fresh at ≡ Ok afters

  pub call_made : (n : Name) (es : List NotedExpr) → out-Node Name Note x.node ≡ Node-F.Call n es → IsCallMade n es
  call_made n es is =
      let k = node_made (Node-F.Call n es) is in
      let a = made_of (all_judged (map (view frame) es) fresh at) (λ all. Ok (node.Call n all)) k.node k.judged in
      record {
        afters = a.0;
        node = ap (out-Node Name Note) (k.same ∙ sym (ok_same a.2)) ∙ out_call_node n a.0;
        judged = a.1;
      }

  -- A `calloc` becomes one with its count judged.
  pub record IsCallocMade (w u : TypeTree) (e : NotedExpr) : Type 0 where
    pub count : NotedExpr
    pub node : out-Node Name Note made.node ≡ Node-F.Calloc w count u
    pub judged : (view frame e).judged fresh at ≡ Ok count

  pub calloc_made : (w u : TypeTree) (e : NotedExpr) → out-Node Name Note x.node ≡ Node-F.Calloc w e u → IsCallocMade w u e
  calloc_made w u e is =
      let k = node_made (Node-F.Calloc w e u) is in
      let a = made_of ((view frame e).judged fresh at) (λ b. Ok (node.Calloc w b u)) k.node k.judged in
      record {
        count = a.0;
        node = ap (out-Node Name Note) (k.same ∙ sym (ok_same a.2)) ∙ out_calloc_node w u a.0;
        judged = a.1;
      }
