-- An expression that judging makes a call is one, and no argument of it is at fault.
use Rattle.std.proofs.Common.{◌≡◌, refl, sym, ap, subst, ◌∙◌, ℕ, List, map, rules}
use Rattle.std.specs.Prelude.{false, if◌then◌else◌, slice_get, Option, None, Some, Ok}
use Rattle.ckc_base.specs.declared.places.Refusal.{Refusal}
use Rattle.ckc_base.specs.Outcomes.{Outcome, bind}
use Rattle.ckc_syntax.specs.declared.tree.Name.{Name}
use Rattle.ckc_syntax.specs.declared.tree.Name.TheVariants as name
use Rattle.ckc_syntax.specs.declared.tree.Node.{Node-F, map-Node, out-Node, fold-Node, fold-roll-Node, the_lemmas as node_lemmas}
use Rattle.ckc_syntax.specs.declared.tree.Node.TheVariants as node
use Rattle.ckc_syntax.specs.declared.tree.Limits.{fold-Limits}
use Rattle.ckc_syntax.specs.declared.tree.Expr.{fold-Expr, fold-roll-Expr}
use Rattle.ckc_typed.specs.declared.typed.Note.{Note}
use Rattle.ckc_typed.specs.Trees.{NotedLimits, NotedNode, NotedExpr, NotedLayer}
use Rattle.ckc_blame_sound.specs.ckc_bounds_points.specs.declared.frame.Frame.{Frame}
use Rattle.ckc_blame_sound.specs.ckc_bounds_points.specs.Flow.{State}
use Rattle.ckc_blame_sound.specs.ckc_bounds_views.specs.Judged.{all_judged, head_fault, by_fault, expr_made}
use Rattle.ckc_blame_sound.specs.ckc_bounds_views.specs.Parts.{View, NodeView}
use Rattle.ckc_blame_sound.specs.ckc_bounds_views.specs.Ranges.{pointer_range}
use Rattle.ckc_blame_sound.specs.ckc_bounds_views.specs.Views.{node_view, view}
use Rattle.ckc_blame_sound.specs.ckc_bounds_statements.specs.Paths.{Here, value_judged}
use Rattle.ckc_blame_sound.specs.ckc_bounds_views.specs.Parts.{fresh_behind}
use Rattle.ckc_blame_sound.proofs.Statements.{made_of, pair_same}
use Rattle.ckc_blame_sound.proofs.KeptTrees.{same_fold}
use Rattle.ckc_blame_given.proofs.Views.{node_back, viewed_layer, node_in, view_is}

-- ---- what a node calls

abbrev pub call_name : {X Y Z : Type 0} → Node-F Name Note X Y Z → Option Name
call_name (Node-F.Call n es) = Some n
call_name n = None

abbrev no_limits : {A : Type 0} → A → Unit {0}
no_limits l = tt

-- the same of an expression, as a fold
abbrev called_by : NotedExpr → Option Name
called_by = fold-Expr Name Note (Unit {0}) (Option Name) (Option Name) (λ l. tt) call_name (λ e. e.node)

abbrev called_by_node : NotedNode → Option Name
called_by_node = fold-Node Name Note (Unit {0}) (Option Name) (Option Name) (λ l. tt) call_name (λ e. e.node)

abbrev called_in_limits : NotedLimits → Unit {0}
called_in_limits = fold-Limits Name Note (Unit {0}) (Option Name) (Option Name) (λ l. tt) call_name (λ e. e.node)

name_kept : (n : NotedLayer) → call_name (map-Node Name Note NotedLimits NotedNode NotedExpr (Unit {0}) (Option Name) (Option Name) called_in_limits called_by_node called_by n) ≡ call_name n
name_kept (Node-F.Call n es) = refl
name_kept n = refl

called_is : (e : NotedExpr) → called_by e ≡ call_name (out-Node Name Note e.node)
called_is e =
    fold-roll-Expr Name Note (Unit {0}) (Option Name) (Option Name) (λ l. tt) call_name (λ e. e.node) (record { node = e.node; pos = e.pos; note = e.note })
    ∙ (ap called_by_node (sym (node_back e.node)) ∙ fold-roll-Node Name Note (Unit {0}) (Option Name) (Option Name) (λ l. tt) call_name (λ e. e.node) (out-Node Name Note e.node))
    ∙ name_kept (out-Node Name Note e.node)

call_layer : (n : NotedLayer) (m : Name) → call_name n ≡ Some m → (es : List NotedExpr) × (n ≡ Node-F.Call m es)
call_layer (Node-F.Call n es) m e = (es, ap (λ k. Node-F.Call k es) (cc))
call_layer n m e = absurd cc

out_call_node : (n : Name) (es : List NotedExpr) → out-Node Name Note (node.Call n es) ≡ Node-F.Call n es
out_call_node n es = search (rules, node_lemmas)

-- ---- a judged call

-- An expression is a call of the function k, whose arguments are judged so, and none of which is at fault.
pub record IsCall (frame : Frame) (at : State) (fresh : ℕ) (x : NotedExpr) (k : ℕ) (afters : List NotedExpr) : Type 0 where
  pub args : List NotedExpr
  pub node : out-Node Name Note x.node ≡ Node-F.Call (name.Function k) args
  pub fault : head_fault (slice_get frame.heads k) (map (view frame) args) fresh at ≡ None
  pub judged : all_judged (map (view frame) args) fresh at ≡ Ok afters

pub no_refusal : {A : Type 0} (r : Option Refusal) (o : A) (a : A) → by_fault r (Ok o) ≡ Ok a → (r ≡ None) × (o ≡ a)
no_refusal None o a e = (refl, cc)
no_refusal (Some r) o a e = absurd cc

module _ (frame : Frame) (at : State) (fresh : ℕ) (x made : NotedExpr) (k : ℕ) (afters : List NotedExpr) where
  layer_judged : (args : List NotedExpr) → out-Node Name Note x.node ≡ Node-F.Call (name.Function k) args → out-Node Name Note made.node ≡ Node-F.Call (name.Function k) afters
      → (view frame x).judged fresh at ≡ Ok made → IsCall frame at fresh x k afters
  layer_judged args is out judged =
      let n : NodeView = node_view frame (viewed_layer frame (Node-F.Call (name.Function k) args)) in
      let node_is : node_in frame x ≡ n = ap (λ y. node_view frame (viewed_layer frame y)) is in
      let by_layer : bind (n.judged x.note.ctype fresh at) (λ m. by_fault (n.fault x.pos fresh at) (Ok (expr_made x.pos x.note (pointer_range x.note.ctype n 0 fresh at) m))) ≡ Ok made =
      subst (λ (y : NodeView). bind (y.judged x.note.ctype fresh at) (λ m. by_fault (y.fault x.pos fresh at) (Ok (expr_made x.pos x.note (pointer_range x.note.ctype y 0 fresh at) m))) ≡ Ok made) node_is
      (sym (ap (λ (v : View). v.judged fresh at) (view_is frame x)) ∙ judged) in
      let m = made_of (n.judged x.note.ctype fresh at) (λ m. by_fault (n.fault x.pos fresh at) (Ok (expr_made x.pos x.note (pointer_range x.note.ctype n 0 fresh at) m))) made by_layer in
      let r = no_refusal (n.fault x.pos fresh at) (expr_made x.pos x.note (pointer_range x.note.ctype n 0 fresh at) m.0) made m.2 in
      let a = made_of (all_judged (map (view frame) args) fresh at) (λ all. Ok (node.Call (name.Function k) all)) m.0 m.1 in
      let same : node.Call (name.Function k) a.0 ≡ m.0 = ok_same a.2 in
      let node_same : made.node ≡ m.0 = ap (λ (e : NotedExpr). e.node) (sym r.1) in
      let outs : ◌≡◌ {A = NotedLayer} (Node-F.Call (name.Function k) a.0) (Node-F.Call (name.Function k) afters) =
      sym (out_call_node (name.Function k) a.0) ∙ ap (out-Node Name Note) (same ∙ sym node_same) ∙ out in
      record { args = args; node = is; fault = r.0; judged = a.1 ∙ ap Ok (cc) }
    where
      ok_same : {A : Type 0} {a b : A} → ◌≡◌ {A = Outcome A} (Ok a) (Ok b) → a ≡ b
      ok_same e = cc

  pub call_judged : out-Node Name Note made.node ≡ Node-F.Call (name.Function k) afters → (view frame x).judged fresh at ≡ Ok made → IsCall frame at fresh x k afters
  call_judged out judged =
      let kept = same_fold frame (Unit {0}) (Option Name) (Option Name) (λ l. tt) call_name (λ e. e.node) (λ n pos note r. refl) x made fresh at judged in
      let named : call_name (out-Node Name Note x.node) ≡ Some (name.Function k) = sym (called_is x) ∙ sym kept ∙ called_is made ∙ ap call_name out in
      let l = call_layer (out-Node Name Note x.node) (name.Function k) named in
      layer_judged l.0 l.1 out judged

-- a value that is judged, and not only counted
pub value_is_judged : (frame : Frame) (e f : NotedExpr) (here there : Here) → here.counting ≡ false → value_judged frame e here ≡ Ok (f, there)
    → ((view frame e).judged here.next here.at ≡ Ok f) × (there ≡ record here { next = fresh_behind (view frame e) here.next here.at })
unfolding value_judged
value_is_judged frame e f here there counts judged =
    let behind : Here = record here { next = fresh_behind (view frame e) here.next here.at } in
    let one : bind {B = NotedExpr × Here} ((view frame e).judged here.next here.at) (λ g. Ok (g, behind)) ≡ Ok (f, there) =
    subst (λ b. bind {B = NotedExpr × Here} (if b then Ok e else (view frame e).judged here.next here.at) (λ g. Ok (g, behind)) ≡ Ok (f, there)) counts judged in
    let m = made_of ((view frame e).judged here.next here.at) (λ g. Ok (g, behind)) (f, there) one in
    let p = pair_same m.0 f behind there m.2 in
    (m.1 ∙ ap Ok p.0, sym p.1)
