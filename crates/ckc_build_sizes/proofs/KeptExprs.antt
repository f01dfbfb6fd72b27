-- The bounds phase keeps the marks of expressions.
use Rattle.std.proofs.Common.{◌≡◌, ◌∙◌, sym, ap, subst, refl, ℕ, List, [], ◌∷◌, ◌++◌, map, Bool, true, false}
use Rattle.std.specs.Prelude.{Ok, Err, Option, Some, None, not}
use Rattle.ckc_base.specs.Lists.{concatenation}
use Rattle.ckc_base.specs.declared.places.Pos.{Pos}
use Rattle.ckc_base.specs.declared.places.Refusal.{Refusal}
use Rattle.ckc_base.specs.Outcomes.{Outcome, bind, unless}
use Rattle.ckc_types.specs.declared.types.CType.{CType}
use Rattle.ckc_syntax.specs.declared.tree.Name.{Name}
use Rattle.ckc_syntax.specs.declared.tree.TreeOp.{TreeOp}
use Rattle.ckc_syntax.specs.declared.tree.TreeOp.TheVariants as op
use Rattle.ckc_syntax.specs.declared.tree.Limits.{Limits-F, map-Limits, roll-Limits, fold-roll-Limits}
use Rattle.ckc_syntax.specs.declared.tree.Limits.TheVariants as limits
use Rattle.ckc_syntax.specs.declared.tree.Node.{Node-F, map-Node, roll-Node, fold-roll-Node}
use Rattle.ckc_syntax.specs.declared.tree.Node.TheVariants as node
use Rattle.ckc_syntax.specs.declared.tree.Expr.{Expr-F, map-Expr, ind-Expr, roll-Expr, fold-roll-Expr}
use Rattle.ckc_syntax.specs.Inside.{listed, inside_limits}
use Rattle.ckc_syntax_limits.specs.Marks.{Mark, node as mark, node_marks, expr_marks, marks_of_limits, marks_of_node, marks_of_expr}
use Rattle.ckc_typed.specs.declared.typed.Note.{Note}
use Rattle.ckc_typed.specs.declared.typed.Range.{Range}
use Rattle.ckc_typed.specs.Trees.{NotedLimits, NotedNode, NotedExpr, NotedLayer}
use Rattle.ckc_bounds.specs.ckc_bounds_points.specs.declared.frame.Frame.{Frame}
use Rattle.ckc_bounds.specs.ckc_bounds_points.specs.Flow.{State}
use Rattle.ckc_bounds.specs.ckc_bounds_points.specs.Codes.{bad_limits}
use Rattle.ckc_bounds.specs.ckc_bounds_views.specs.Parts.{LimitsView, View, NodeView}
use Rattle.ckc_bounds.specs.ckc_bounds_views.specs.Judged.{counts_elements, counts_bytes, limits_judged, all_judged, node_judged, unary_judged, by_fault, expr_made}
use Rattle.ckc_bounds.specs.ckc_bounds_views.specs.Ranges.{pointer_range}
use Rattle.ckc_bounds.specs.ckc_bounds_views.specs.Views.{limits_view, node_view, expr_view, view_of_limits, view_of_node, view}

-- what is made has these marks
abbrev pub Keeps : {A : Type 0} → (A → List Mark) → List Mark → Outcome A → Type 0
Keeps f ms (Ok a) = f a ≡ ms
Keeps f ms (Err r) = Unit {0}

pub bound : {A B : Type 0} (f : A → List Mark) (ms : List Mark) (g : B → List Mark) (ns : List Mark) (o : Outcome A) (h : A → Outcome B)
    → Keeps f ms o → ((a : A) → f a ≡ ms → Keeps g ns (h a)) → Keeps g ns (bind o h)
bound f ms g ns (Ok a) h k next = next a k
bound f ms g ns (Err r) h k next = tt

pub kept : {A : Type 0} (f : A → List Mark) (ms : List Mark) (b : Bool) (code : ℕ) (at : Pos) (o : Outcome A) → Keeps f ms o → Keeps f ms (unless b code at o)
kept f ms true code at o h = tt
kept f ms false code at o h = h

faulted : {A : Type 0} (f : A → List Mark) (ms : List Mark) (r : Option Refusal) (o : Outcome A) → Keeps f ms o → Keeps f ms (by_fault r o)
faulted f ms None o h = h
faulted f ms (Some r) o h = tt

pub two : {X Y Z : Type 0} (f : X → Y → Z) {a b : X} {c d : Y} → a ≡ b → c ≡ d → f a c ≡ f b d
two f {a} {b} {c} {d} p q = ap (λ x. f x c) p ∙ ap (λ y. f b y) q

pub both : {ms ns ks ls : List Mark} → ms ≡ ns → ks ≡ ls → ms ++ ks ≡ ns ++ ls
both p q = two (λ xs ys. xs ++ ys) p q

abbrev LimitsLayer : Type 0
LimitsLayer = Limits-F Name Note NotedLimits NotedNode NotedExpr

abbrev Marks : Type 0
Marks = List Mark

limits_are : (x : LimitsLayer) → marks_of_limits (roll-Limits Name Note x)
    ≡ inside_limits listed (λ e. e) (map-Limits Name Note NotedLimits NotedNode NotedExpr Marks Marks Marks marks_of_limits marks_of_node marks_of_expr x)
limits_are = fold-roll-Limits Name Note Marks Marks Marks (inside_limits listed (λ e. e)) node_marks expr_marks

node_is : (x : NotedLayer) → marks_of_node (roll-Node Name Note x)
    ≡ node_marks (map-Node Name Note NotedLimits NotedNode NotedExpr Marks Marks Marks marks_of_limits marks_of_node marks_of_expr x)
node_is = fold-roll-Node Name Note Marks Marks Marks (inside_limits listed (λ e. e)) node_marks expr_marks

limits_made : {l : NotedLimits} (x : LimitsLayer) → roll-Limits Name Note x ≡ l → marks_of_limits l
    ≡ inside_limits listed (λ e. e) (map-Limits Name Note NotedLimits NotedNode NotedExpr Marks Marks Marks marks_of_limits marks_of_node marks_of_expr x)
limits_made x made = ap marks_of_limits (sym made) ∙ limits_are x

node_made : {n : NotedNode} (x : NotedLayer) → roll-Node Name Note x ≡ n → marks_of_node n
    ≡ node_marks (map-Node Name Note NotedLimits NotedNode NotedExpr Marks Marks Marks marks_of_limits marks_of_node marks_of_expr x)
node_made x made = ap marks_of_node (sym made) ∙ node_is x

pub expr_is : (e : NotedExpr) → marks_of_expr e ≡ mark ∷ marks_of_node e.node
expr_is e = fold-roll-Expr Name Note Marks Marks Marks (inside_limits listed (λ e. e)) node_marks expr_marks (record { node = e.node; pos = e.pos; note = e.note })

abbrev there_marks : Option NotedLimits → Marks
there_marks None = []
there_marks (Some l) = marks_of_limits l

module _ (frame : Frame) where
  record LimitsKept (l : NotedLimits) : Type 0 where
    pub judged : (size fresh : ℕ) (at : State) → Keeps marks_of_limits (marks_of_limits l) ((view_of_limits frame l).judged size fresh at)

  record NodeKept (n : NotedNode) : Type 0 where
    pub judged : (t : CType) (fresh : ℕ) (at : State) → Keeps marks_of_node (marks_of_node n) ((view_of_node frame n).judged t fresh at)

  pub record ExprKept (e : NotedExpr) : Type 0 where
    pub judged : (fresh : ℕ) (at : State) → Keeps marks_of_expr (marks_of_expr e) ((view frame e).judged fresh at)
    pub operand : (fresh : ℕ) (at : State) → Keeps marks_of_expr (marks_of_expr e) ((view frame e).operand fresh at)

  abbrev KeptLimits : Type 0
  KeptLimits = (l : NotedLimits) × LimitsKept l

  abbrev KeptNode : Type 0
  KeptNode = (n : NotedNode) × NodeKept n

  abbrev KeptExpr : Type 0
  KeptExpr = (e : NotedExpr) × ExprKept e

  abbrev inner_limits : Limits-F Name Note KeptLimits KeptNode KeptExpr → LimitsLayer
  inner_limits = map-Limits Name Note KeptLimits KeptNode KeptExpr NotedLimits NotedNode NotedExpr (λ e. e.0) (λ e. e.0) (λ e. e.0)

  abbrev inner_node : Node-F Name Note KeptLimits KeptNode KeptExpr → NotedLayer
  inner_node = map-Node Name Note KeptLimits KeptNode KeptExpr NotedLimits NotedNode NotedExpr (λ e. e.0) (λ e. e.0) (λ e. e.0)

  abbrev inner_expr : Expr-F Name Note KeptLimits KeptNode KeptExpr → Expr-F Name Note NotedLimits NotedNode NotedExpr
  inner_expr = map-Expr Name Note KeptLimits KeptNode KeptExpr NotedLimits NotedNode NotedExpr (λ e. e.0) (λ e. e.0) (λ e. e.0)

  abbrev limits_inside : LimitsLayer → Limits-F Name Note LimitsView NodeView View
  limits_inside = map-Limits Name Note NotedLimits NotedNode NotedExpr LimitsView NodeView View (view_of_limits frame) (view_of_node frame) (view frame)

  abbrev node_inside : NotedLayer → Node-F Name Note LimitsView NodeView View
  node_inside = map-Node Name Note NotedLimits NotedNode NotedExpr LimitsView NodeView View (view_of_limits frame) (view_of_node frame) (view frame)

  abbrev expr_inside : Expr-F Name Note NotedLimits NotedNode NotedExpr → Expr-F Name Note LimitsView NodeView View
  expr_inside = map-Expr Name Note NotedLimits NotedNode NotedExpr LimitsView NodeView View (view_of_limits frame) (view_of_node frame) (view frame)

  abbrev held_limits : LimitsLayer → Limits-F Name Note Marks Marks Marks
  held_limits = map-Limits Name Note NotedLimits NotedNode NotedExpr Marks Marks Marks marks_of_limits marks_of_node marks_of_expr

  abbrev held_node : NotedLayer → Node-F Name Note Marks Marks Marks
  held_node = map-Node Name Note NotedLimits NotedNode NotedExpr Marks Marks Marks marks_of_limits marks_of_node marks_of_expr

  limits_step : (y : Limits-F Name Note KeptLimits KeptNode KeptExpr) (size fresh : ℕ) (at : State)
      → Keeps marks_of_limits (inside_limits listed (λ e. e) (held_limits (inner_limits y))) (limits_judged (limits_inside (inner_limits y)) size fresh at)
  limits_step (Limits-F.Count k pos) size fresh at =
      bound _ _ _ _ _ _ (k.1.judged fresh at) (λ a h. kept marks_of_limits (marks_of_expr k.0) (not (counts_elements (view frame k.0))) bad_limits pos (Ok (limits.Count a pos)) (limits_made (Limits-F.Count a pos) (limits.rolls-Count a pos) ∙ h))
  limits_step (Limits-F.ByteCount k pos) size fresh at =
      bound _ _ _ _ _ _ (k.1.judged fresh at) (λ a h. kept marks_of_limits (marks_of_expr k.0) (not (counts_bytes size (view frame k.0))) bad_limits pos (Ok (limits.ByteCount a pos)) (limits_made (Limits-F.ByteCount a pos) (limits.rolls-ByteCount a pos) ∙ h))
  limits_step (Limits-F.Between k j pos) size fresh at = bound _ _ _ _ _ _ (k.1.judged fresh at) (λ a h. bound _ _ _ _ _ _ (j.1.judged _ at) (λ b g. tt))
  limits_step (Limits-F.Unknown pos) size fresh at = tt

  arguments_step : (ks : List KeptExpr) (fresh : ℕ) (at : State)
      → Keeps (λ es. concatenation (map marks_of_expr es)) (concatenation (map marks_of_expr (map (λ k. k.0) ks))) (all_judged (map (view frame) (map (λ k. k.0) ks)) fresh at)
  arguments_step [] fresh at = refl
  arguments_step (k ∷ ks) fresh at = bound _ _ _ _ _ _ (k.1.judged fresh at) (λ a h. bound _ _ _ _ _ _ (arguments_step ks _ at) (λ rest g. both h g))

  operand_step : (o : TreeOp) (k : KeptExpr) (fresh : ℕ) (at : State) → Keeps marks_of_expr (marks_of_expr k.0) (unary_judged o (view frame k.0) fresh at)
  operand_step op.Address k fresh at = k.1.operand fresh at
  operand_step o k fresh at = k.1.judged fresh at

  abbrev Judges : Node-F Name Note KeptLimits KeptNode KeptExpr → CType → ℕ → State → Type 0
  Judges y t fresh at = Keeps marks_of_node (node_marks (held_node (inner_node y))) (node_judged frame (node_inside (inner_node y)) t fresh at)

  judged_step : (y : Node-F Name Note KeptLimits KeptNode KeptExpr) (t : CType) (fresh : ℕ) (at : State) → Judges y t fresh at
  judged_step (Node-F.Number n unsigned) t fresh at = node_made (Node-F.Number n unsigned) (node.rolls-Number n unsigned)
  judged_step (Node-F.Text bytes) t fresh at = node_made (Node-F.Text bytes) (node.rolls-Text bytes)
  judged_step Node-F.Null t fresh at = node_made Node-F.Null node.rolls-Null
  judged_step (Node-F.Name n) t fresh at = node_made (Node-F.Name n) (node.rolls-Name n)
  judged_step (Node-F.Un o k) t fresh at = bound _ _ _ _ _ _ (operand_step o k fresh at) (λ a h. node_made (Node-F.Un o a) (node.rolls-Un o a) ∙ h)
  judged_step (Node-F.Bin o k j) t fresh at = bound _ _ _ _ _ _ (k.1.judged fresh at) (λ a h. bound _ _ _ _ _ _ (j.1.judged _ _) (λ b g. node_made (Node-F.Bin o a b) (node.rolls-Bin o a b) ∙ both h g))
  judged_step (Node-F.Pick k j i) t fresh at =
      bound _ _ _ _ _ _ (k.1.judged fresh at) (λ a h. bound _ _ _ _ _ _ (j.1.judged _ at) (λ b g. bound _ _ _ _ _ _ (i.1.judged _ at) (λ c f. node_made (Node-F.Pick a b c) (node.rolls-Pick a b c) ∙ both (both h g) f)))
  judged_step (Node-F.Index k j) t fresh at = bound _ _ _ _ _ _ (k.1.judged fresh at) (λ a h. bound _ _ _ _ _ _ (j.1.judged _ at) (λ b g. node_made (Node-F.Index a b) (node.rolls-Index a b) ∙ both h g))
  judged_step (Node-F.Dot k n spot) t fresh at = bound _ _ _ _ _ _ (k.1.judged fresh at) (λ a h. node_made (Node-F.Dot a n spot) (node.rolls-Dot a n spot) ∙ h)
  judged_step (Node-F.Arrow k n spot) t fresh at = bound _ _ _ _ _ _ (k.1.judged fresh at) (λ a h. node_made (Node-F.Arrow a n spot) (node.rolls-Arrow a n spot) ∙ h)
  judged_step (Node-F.Cast w k) t fresh at = bound _ _ _ _ _ _ (k.1.judged fresh at) (λ a h. node_made (Node-F.Cast w a) (node.rolls-Cast w a) ∙ h)
  judged_step (Node-F.Size w) t fresh at = node_made (Node-F.Size w) (node.rolls-Size w)
  judged_step (Node-F.Trusted w k None) t fresh at = bound _ _ _ _ _ _ (k.1.judged fresh at) (λ a h. node_made (Node-F.Trusted w a None) (node.rolls-Trusted w a None) ∙ both h refl)
  judged_step (Node-F.Trusted w k (Some l)) t fresh at =
      bound _ _ _ _ _ _ (k.1.judged fresh at) (λ a h. bound there_marks (marks_of_limits l.0) _ _ _ _ (bound _ _ _ _ _ _ (l.1.judged _ _ at) (λ b g. g)) (λ b g. by w a h b g))
    where
      by : (w : _) (a : NotedExpr) → marks_of_expr a ≡ marks_of_expr k.0 → (b : Option NotedLimits) → there_marks b ≡ marks_of_limits l.0
          → marks_of_node (node.Trusted w a b) ≡ marks_of_expr k.0 ++ marks_of_limits l.0
      by w a h None g = node_made (Node-F.Trusted w a None) (node.rolls-Trusted w a None) ∙ both h g
      by w a h (Some b) g = node_made (Node-F.Trusted w a (Some b)) (node.rolls-Trusted w a (Some b)) ∙ both h g
  judged_step (Node-F.Tested w k None) t fresh at = bound _ _ _ _ _ _ (k.1.judged fresh at) (λ a h. node_made (Node-F.Tested w a None) (node.rolls-Tested w a None) ∙ both h refl)
  judged_step (Node-F.Tested w k (Some l)) t fresh at =
      bound _ _ _ _ _ _ (k.1.judged fresh at) (λ a h. bound there_marks (marks_of_limits l.0) _ _ _ _ (bound _ _ _ _ _ _ (l.1.judged _ _ at) (λ b g. g)) (λ b g. by w a h b g))
    where
      by : (w : _) (a : NotedExpr) → marks_of_expr a ≡ marks_of_expr k.0 → (b : Option NotedLimits) → there_marks b ≡ marks_of_limits l.0
          → marks_of_node (node.Tested w a b) ≡ marks_of_expr k.0 ++ marks_of_limits l.0
      by w a h None g = node_made (Node-F.Tested w a None) (node.rolls-Tested w a None) ∙ both h g
      by w a h (Some b) g = node_made (Node-F.Tested w a (Some b)) (node.rolls-Tested w a (Some b)) ∙ both h g
  judged_step (Node-F.Call n ks) t fresh at = bound _ _ _ _ _ _ (arguments_step ks fresh at) (λ args h. node_made (Node-F.Call n args) (node.rolls-Call n args) ∙ h)
  judged_step (Node-F.Calloc w k x) t fresh at = bound _ _ _ _ _ _ (k.1.judged fresh at) (λ a h. node_made (Node-F.Calloc w a x) (node.rolls-Calloc w a x) ∙ h)

  limits_by : (x : LimitsLayer) (y : Limits-F Name Note KeptLimits KeptNode KeptExpr) → inner_limits y ≡ x → LimitsKept (roll-Limits Name Note x)
  limits_by x y is = record {
    judged = λ size fresh at.
        let P : LimitsView → Marks → Type 0 = λ v ms. Keeps marks_of_limits ms (v.judged size fresh at) in
        subst (λ ms. P (view_of_limits frame (roll-Limits Name Note x)) ms) (sym (limits_are x ∙ ap (λ z. inside_limits listed (λ e. e) (held_limits z)) (sym is)))
        (subst (λ v. P v (inside_limits listed (λ e. e) (held_limits (inner_limits y))))
        (sym (fold-roll-Limits Name Note LimitsView NodeView View limits_view (node_view frame) expr_view x ∙ ap (λ z. limits_view (limits_inside z)) (sym is)))
        (limits_step y size fresh at));
  }

  node_by : (x : NotedLayer) (y : Node-F Name Note KeptLimits KeptNode KeptExpr) → inner_node y ≡ x → NodeKept (roll-Node Name Note x)
  node_by x y is = record {
    judged = λ t fresh at.
        let P : NodeView → Marks → Type 0 = λ v ms. Keeps marks_of_node ms (v.judged t fresh at) in
        subst (λ ms. P (view_of_node frame (roll-Node Name Note x)) ms) (sym (node_is x ∙ ap (λ z. node_marks (held_node z)) (sym is)))
        (subst (λ v. P v (node_marks (held_node (inner_node y))))
        (sym (fold-roll-Node Name Note LimitsView NodeView View limits_view (node_view frame) expr_view x ∙ ap (λ z. node_view frame (node_inside z)) (sym is)))
        (judged_step y t fresh at));
  }

  made_is : (m : NotedNode) (pos : Pos) (note : Note) (r : Range) (ms : Marks) → marks_of_node m ≡ ms → marks_of_expr (expr_made pos note r m) ≡ mark ∷ ms
  made_is m pos note r ms h = expr_is (expr_made pos note r m) ∙ ap (λ z. mark ∷ z) h

  expr_by : (x : Expr-F Name Note NotedLimits NotedNode NotedExpr) (y : Expr-F Name Note KeptLimits KeptNode KeptExpr) → inner_expr y ≡ x → ExprKept (roll-Expr Name Note x)
  expr_by x y is =
      let viewed = sym (fold-roll-Expr Name Note LimitsView NodeView View limits_view (node_view frame) expr_view x ∙ ap (λ z. expr_view (expr_inside z)) (sym is)) in
      let counted : marks_of_expr (roll-Expr Name Note x) ≡ mark ∷ marks_of_node y.node.0 =
      fold-roll-Expr Name Note Marks Marks Marks (inside_limits listed (λ e. e)) node_marks expr_marks x ∙ ap (λ (z : Expr-F Name Note NotedLimits NotedNode NotedExpr). mark ∷ marks_of_node z.node) (sym is) in
      record {
        judged = λ fresh at.
            let P : View → Marks → Type 0 = λ v ms. Keeps marks_of_expr ms (v.judged fresh at) in
            subst (λ ms. P (view frame (roll-Expr Name Note x)) ms) (sym counted) (subst (λ v. P v (mark ∷ marks_of_node y.node.0)) viewed
            (bound _ _ _ _ _ _ (y.node.1.judged y.note.ctype fresh at) (λ m h. faulted marks_of_expr (mark ∷ marks_of_node y.node.0) _ (Ok (expr_made y.pos y.note (pointer_range y.note.ctype (view_of_node frame y.node.0) 0 fresh at) m)) (made_is m y.pos y.note (pointer_range y.note.ctype (view_of_node frame y.node.0) 0 fresh at) (marks_of_node y.node.0) h))));
        operand = λ fresh at.
            let P : View → Marks → Type 0 = λ v ms. Keeps marks_of_expr ms (v.operand fresh at) in
            subst (λ ms. P (view frame (roll-Expr Name Note x)) ms) (sym counted) (subst (λ v. P v (mark ∷ marks_of_node y.node.0)) viewed
            (bound _ _ _ _ _ _ (y.node.1.judged y.note.ctype fresh at) (λ m h. faulted marks_of_expr (mark ∷ marks_of_node y.node.0) _ (Ok (expr_made y.pos y.note (pointer_range y.note.ctype (view_of_node frame y.node.0) 0 fresh at) m)) (made_is m y.pos y.note (pointer_range y.note.ctype (view_of_node frame y.node.0) 0 fresh at) (marks_of_node y.node.0) h))));
      }

  pub expr_kept : (e : NotedExpr) → ExprKept e
  expr_kept = ind-Expr Name Note LimitsKept NodeKept ExprKept limits_by node_by expr_by
