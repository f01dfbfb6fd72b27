-- Judging bounds keeps what a fold says of an expression, if the fold does not look at ranges.
use Rattle.std.proofs.Common.{◌≡◌, ◌∙◌, sym, ap, subst, refl, ℕ, List, [], ◌∷◌, map, Bool, true, false}
use Rattle.std.specs.Prelude.{Ok, Err, Option, Some, None, not}
use Rattle.ckc_base.specs.declared.places.Pos.{Pos}
use Rattle.ckc_base.specs.declared.places.Refusal.{Refusal}
use Rattle.ckc_base.specs.Outcomes.{Outcome, bind, unless}
use Rattle.ckc_types.specs.declared.types.CType.{CType}
use Rattle.ckc_syntax.specs.declared.tree.Name.{Name}
use Rattle.ckc_syntax.specs.declared.tree.TreeOp.{TreeOp}
use Rattle.ckc_syntax.specs.declared.tree.TreeOp.TheVariants as op
use Rattle.ckc_syntax.specs.declared.tree.Limits.{Limits-F, map-Limits, roll-Limits, fold-Limits, fold-roll-Limits}
use Rattle.ckc_syntax.specs.declared.tree.Limits.TheVariants as limits
use Rattle.ckc_syntax.specs.declared.tree.Node.{Node-F, map-Node, roll-Node, fold-Node, fold-roll-Node}
use Rattle.ckc_syntax.specs.declared.tree.Node.TheVariants as node
use Rattle.ckc_syntax.specs.declared.tree.Expr.{Expr-F, map-Expr, ind-Expr, roll-Expr, fold-Expr, fold-roll-Expr}
use Rattle.ckc_typed.specs.declared.typed.Note.{Note}
use Rattle.ckc_typed.specs.declared.typed.Range.{Range}
use Rattle.ckc_typed.specs.Trees.{NotedLimits, NotedNode, NotedExpr, NotedLayer}
use Rattle.ckc_bounds.specs.ckc_bounds_points.specs.declared.frame.Frame.{Frame}
use Rattle.ckc_bounds.specs.ckc_bounds_points.specs.Flow.{State}
use Rattle.ckc_bounds.specs.ckc_bounds_points.specs.Codes.{bad_limits}
use Rattle.ckc_bounds.specs.ckc_bounds_views.specs.Parts.{LimitsView, View, NodeView}
use Rattle.ckc_bounds.specs.ckc_bounds_views.specs.Judged.{counts_elements, counts_bytes, limits_judged, all_judged, node_judged, unary_judged, by_fault, expr_made, noted_range}
use Rattle.ckc_bounds.specs.ckc_bounds_views.specs.Ranges.{pointer_range}
use Rattle.ckc_bounds.specs.ckc_bounds_views.specs.Views.{limits_view, node_view, expr_view, view_of_limits, view_of_node, view}

-- what is made has this
abbrev pub Keeps : {A K : Type 0} → (A → K) → K → Outcome A → Type 0
Keeps f v (Ok a) = f a ≡ v
Keeps f v (Err r) = Unit {0}

pub bound : {A B K L : Type 0} (f : A → K) (v : K) (g : B → L) (w : L) (o : Outcome A) (h : A → Outcome B) → Keeps f v o → ((a : A) → f a ≡ v → Keeps g w (h a)) → Keeps g w (bind o h)
bound f v g w (Ok a) h p next = next a p
bound f v g w (Err r) h p next = tt

pub kept : {A K : Type 0} (f : A → K) (v : K) (b : Bool) (code : ℕ) (at : Pos) (o : Outcome A) → Keeps f v o → Keeps f v (unless b code at o)
kept f v true code at o h = tt
kept f v false code at o h = h

faulted : {A K : Type 0} (f : A → K) (v : K) (r : Option Refusal) (o : Outcome A) → Keeps f v o → Keeps f v (by_fault r o)
faulted f v None o h = h
faulted f v (Some r) o h = tt

pub two : {X Y Z : Type 0} (f : X → Y → Z) {a b : X} {c d : Y} → a ≡ b → c ≡ d → f a c ≡ f b d
two f {a} {b} {c} {d} p q = ap (λ x. f x c) p ∙ ap (λ y. f b y) q

abbrev LimitsLayer : Type 0
LimitsLayer = Limits-F Name Note NotedLimits NotedNode NotedExpr

module _ (frame : Frame) (X Y Z : Type 0) (ls : Limits-F Name Note X Y Z → X) (ns : Node-F Name Note X Y Z → Y) (es : Expr-F Name Note X Y Z → Z)
    (blind : (n : Y) (pos : Pos) (note : Note) (r : Range) → es (record { node = n; pos = pos; note = noted_range note r }) ≡ es (record { node = n; pos = pos; note = note })) where
  abbrev of_limits : NotedLimits → X
  of_limits = fold-Limits Name Note X Y Z ls ns es

  abbrev of_node : NotedNode → Y
  of_node = fold-Node Name Note X Y Z ls ns es

  abbrev of_expr : NotedExpr → Z
  of_expr = fold-Expr Name Note X Y Z ls ns es

  abbrev held_limits : LimitsLayer → Limits-F Name Note X Y Z
  held_limits = map-Limits Name Note NotedLimits NotedNode NotedExpr X Y Z of_limits of_node of_expr

  abbrev held_node : NotedLayer → Node-F Name Note X Y Z
  held_node = map-Node Name Note NotedLimits NotedNode NotedExpr X Y Z of_limits of_node of_expr

  limits_made : {l : NotedLimits} (x : LimitsLayer) → roll-Limits Name Note x ≡ l → of_limits l ≡ ls (held_limits x)
  limits_made x made = ap of_limits (sym made) ∙ fold-roll-Limits Name Note X Y Z ls ns es x

  node_made : {n : NotedNode} (x : NotedLayer) → roll-Node Name Note x ≡ n → of_node n ≡ ns (held_node x)
  node_made x made = ap of_node (sym made) ∙ fold-roll-Node Name Note X Y Z ls ns es x

  record LimitsKept (l : NotedLimits) : Type 0 where
    pub judged : (size fresh : ℕ) (at : State) → Keeps of_limits (of_limits l) ((view_of_limits frame l).judged size fresh at)

  record NodeKept (n : NotedNode) : Type 0 where
    pub judged : (t : CType) (fresh : ℕ) (at : State) → Keeps of_node (of_node n) ((view_of_node frame n).judged t fresh at)

  pub record ExprKept (e : NotedExpr) : Type 0 where
    pub judged : (fresh : ℕ) (at : State) → Keeps of_expr (of_expr e) ((view frame e).judged fresh at)
    pub operand : (fresh : ℕ) (at : State) → Keeps of_expr (of_expr e) ((view frame e).operand fresh at)

  abbrev KeptLimits : Type 0
  KeptLimits = (l : NotedLimits) × LimitsKept l

  abbrev KeptNode : Type 0
  KeptNode = (n : NotedNode) × NodeKept n

  abbrev KeptExpr : Type 0
  KeptExpr = (e : NotedExpr) × ExprKept e

  abbrev inner_limits : Limits-F Name Note KeptLimits KeptNode KeptExpr → LimitsLayer
  inner_limits = map-Limits Name Note KeptLimits KeptNode KeptExpr NotedLimits NotedNode NotedExpr (λ e. e.0) (λ e. e.0) (λ e. e.0)

  abbrev inner_node : Node-F Name Note KeptLimits KeptNode KeptExpr → NotedLayer
  inner_node = map-Node Name Note KeptLimits KeptNode KeptExpr NotedLimits NotedNode NotedExpr (λ e. e.0) (λ e. e.0) (λ e. e.0)

  abbrev inner_expr : Expr-F Name Note KeptLimits KeptNode KeptExpr → Expr-F Name Note NotedLimits NotedNode NotedExpr
  inner_expr = map-Expr Name Note KeptLimits KeptNode KeptExpr NotedLimits NotedNode NotedExpr (λ e. e.0) (λ e. e.0) (λ e. e.0)

  abbrev limits_inside : LimitsLayer → Limits-F Name Note LimitsView NodeView View
  limits_inside = map-Limits Name Note NotedLimits NotedNode NotedExpr LimitsView NodeView View (view_of_limits frame) (view_of_node frame) (view frame)

  abbrev node_inside : NotedLayer → Node-F Name Note LimitsView NodeView View
  node_inside = map-Node Name Note NotedLimits NotedNode NotedExpr LimitsView NodeView View (view_of_limits frame) (view_of_node frame) (view frame)

  abbrev expr_inside : Expr-F Name Note NotedLimits NotedNode NotedExpr → Expr-F Name Note LimitsView NodeView View
  expr_inside = map-Expr Name Note NotedLimits NotedNode NotedExpr LimitsView NodeView View (view_of_limits frame) (view_of_node frame) (view frame)

  limits_step : (y : Limits-F Name Note KeptLimits KeptNode KeptExpr) (size fresh : ℕ) (at : State)
      → Keeps of_limits (ls (held_limits (inner_limits y))) (limits_judged (limits_inside (inner_limits y)) size fresh at)
  limits_step (Limits-F.Count k pos) size fresh at =
      bound of_expr (of_expr k.0) of_limits (ls (Limits-F.Count (of_expr k.0) pos)) _ _ (k.1.judged fresh at) (λ a h.
      kept of_limits (ls (Limits-F.Count (of_expr k.0) pos)) (not (counts_elements (view frame k.0))) bad_limits pos (Ok (limits.Count a pos))
      (limits_made (Limits-F.Count a pos) (limits.rolls-Count a pos) ∙ ap (λ z. ls (Limits-F.Count z pos)) h))
  limits_step (Limits-F.ByteCount k pos) size fresh at =
      bound of_expr (of_expr k.0) of_limits (ls (Limits-F.ByteCount (of_expr k.0) pos)) _ _ (k.1.judged fresh at) (λ a h.
      kept of_limits (ls (Limits-F.ByteCount (of_expr k.0) pos)) (not (counts_bytes size (view frame k.0))) bad_limits pos (Ok (limits.ByteCount a pos))
      (limits_made (Limits-F.ByteCount a pos) (limits.rolls-ByteCount a pos) ∙ ap (λ z. ls (Limits-F.ByteCount z pos)) h))
  limits_step (Limits-F.Between k j pos) size fresh at =
      bound of_expr (of_expr k.0) of_limits _ _ _ (k.1.judged fresh at) (λ a h. bound of_expr (of_expr j.0) of_limits _ _ _ (j.1.judged _ at) (λ b g. tt))
  limits_step (Limits-F.Unknown pos) size fresh at = tt

  abbrev firsts : List KeptExpr → List NotedExpr
  firsts ks = map (λ (k : KeptExpr). k.0) ks

  arguments_step : (ks : List KeptExpr) (fresh : ℕ) (at : State) → Keeps (map of_expr) (map of_expr (firsts ks)) (all_judged (map (view frame) (firsts ks)) fresh at)
  arguments_step [] fresh at = refl
  arguments_step (k ∷ ks) fresh at =
      bound of_expr (of_expr k.0) (map of_expr) (map of_expr (firsts (k ∷ ks))) _ _ (k.1.judged fresh at) (λ a h.
      bound (map of_expr) (map of_expr (firsts ks)) (map of_expr) (map of_expr (firsts (k ∷ ks))) _ _ (arguments_step ks _ at) (λ rest g. two (λ x xs. x ∷ xs) h g))

  operand_step : (o : TreeOp) (k : KeptExpr) (fresh : ℕ) (at : State) → Keeps of_expr (of_expr k.0) (unary_judged o (view frame k.0) fresh at)
  operand_step op.Address k fresh at = k.1.operand fresh at
  operand_step o k fresh at = k.1.judged fresh at

  abbrev Judges : Node-F Name Note KeptLimits KeptNode KeptExpr → CType → ℕ → State → Type 0
  Judges y t fresh at = Keeps of_node (ns (held_node (inner_node y))) (node_judged frame (node_inside (inner_node y)) t fresh at)

  -- one part more is judged
  part : (k : KeptExpr) (v : Y) (fresh : ℕ) (at : State) (next : NotedExpr → Outcome NotedNode) → ((a : NotedExpr) → of_expr a ≡ of_expr k.0 → Keeps of_node v (next a))
      → Keeps of_node v (bind ((view frame k.0).judged fresh at) next)
  part k v fresh at next h = bound of_expr (of_expr k.0) of_node v _ next (k.1.judged fresh at) h

  -- and bounds
  limits_part : (l : KeptLimits) (v : Y) (size fresh : ℕ) (at : State) (next : Option NotedLimits → Outcome NotedNode)
      → ((m : NotedLimits) → of_limits m ≡ of_limits l.0 → Keeps of_node v (next (Some m)))
      → Keeps of_node v (bind (bind ((view_of_limits frame l.0).judged size fresh at) (λ m. Ok (Some m))) next)
  limits_part l v size fresh at next h = by ((view_of_limits frame l.0).judged size fresh at) (l.1.judged size fresh at)
    where
      by : (o : Outcome NotedLimits) → Keeps of_limits (of_limits l.0) o → Keeps of_node v (bind (bind o (λ m. Ok (Some m))) next)
      by (Ok m) g = h m g
      by (Err r) g = tt

  judged_step : (y : Node-F Name Note KeptLimits KeptNode KeptExpr) (t : CType) (fresh : ℕ) (at : State) → Judges y t fresh at
  judged_step (Node-F.Number n unsigned) t fresh at = node_made (Node-F.Number n unsigned) (node.rolls-Number n unsigned)
  judged_step (Node-F.Text bytes) t fresh at = node_made (Node-F.Text bytes) (node.rolls-Text bytes)
  judged_step Node-F.Null t fresh at = node_made Node-F.Null node.rolls-Null
  judged_step (Node-F.Name n) t fresh at = node_made (Node-F.Name n) (node.rolls-Name n)
  judged_step (Node-F.Un o k) t fresh at =
      bound of_expr (of_expr k.0) of_node (ns (Node-F.Un o (of_expr k.0))) _ _ (operand_step o k fresh at) (λ a h.
      node_made (Node-F.Un o a) (node.rolls-Un o a) ∙ ap (λ z. ns (Node-F.Un o z)) h)
  judged_step (Node-F.Bin o k j) t fresh at =
      part k _ fresh at _ (λ a h. part j _ _ _ _ (λ b g. node_made (Node-F.Bin o a b) (node.rolls-Bin o a b) ∙ two (λ x z. ns (Node-F.Bin o x z)) h g))
  judged_step (Node-F.Pick k j i) t fresh at =
      part k _ fresh at _ (λ a h. part j _ _ at _ (λ b g. part i _ _ at _ (λ c f.
      node_made (Node-F.Pick a b c) (node.rolls-Pick a b c) ∙ two (λ x z. ns (Node-F.Pick x z (of_expr c))) h g ∙ ap (λ z. ns (Node-F.Pick (of_expr k.0) (of_expr j.0) z)) f)))
  judged_step (Node-F.Index k j) t fresh at =
      part k _ fresh at _ (λ a h. part j _ _ at _ (λ b g. node_made (Node-F.Index a b) (node.rolls-Index a b) ∙ two (λ x z. ns (Node-F.Index x z)) h g))
  judged_step (Node-F.Dot k n spot) t fresh at = part k _ fresh at _ (λ a h. node_made (Node-F.Dot a n spot) (node.rolls-Dot a n spot) ∙ ap (λ z. ns (Node-F.Dot z n spot)) h)
  judged_step (Node-F.Arrow k n spot) t fresh at = part k _ fresh at _ (λ a h. node_made (Node-F.Arrow a n spot) (node.rolls-Arrow a n spot) ∙ ap (λ z. ns (Node-F.Arrow z n spot)) h)
  judged_step (Node-F.Cast w k) t fresh at = part k _ fresh at _ (λ a h. node_made (Node-F.Cast w a) (node.rolls-Cast w a) ∙ ap (λ z. ns (Node-F.Cast w z)) h)
  judged_step (Node-F.Size w) t fresh at = node_made (Node-F.Size w) (node.rolls-Size w)
  judged_step (Node-F.Trusted w k None) t fresh at =
      part k _ fresh at _ (λ a h. node_made (Node-F.Trusted w a None) (node.rolls-Trusted w a None) ∙ ap (λ z. ns (Node-F.Trusted w z None)) h)
  judged_step (Node-F.Trusted w k (Some l)) t fresh at =
      part k _ fresh at _ (λ a h. limits_part l _ _ _ at (λ m. Ok (node.Trusted w a m)) (λ m g.
      node_made (Node-F.Trusted w a (Some m)) (node.rolls-Trusted w a (Some m)) ∙ two (λ x z. ns (Node-F.Trusted w x (Some z))) h g))
  judged_step (Node-F.Tested w k None) t fresh at =
      part k _ fresh at _ (λ a h. node_made (Node-F.Tested w a None) (node.rolls-Tested w a None) ∙ ap (λ z. ns (Node-F.Tested w z None)) h)
  judged_step (Node-F.Tested w k (Some l)) t fresh at =
      part k _ fresh at _ (λ a h. limits_part l _ _ _ at (λ m. Ok (node.Tested w a m)) (λ m g.
      node_made (Node-F.Tested w a (Some m)) (node.rolls-Tested w a (Some m)) ∙ two (λ x z. ns (Node-F.Tested w x (Some z))) h g))
  judged_step (Node-F.Call n ks) t fresh at =
      bound (map of_expr) (map of_expr (firsts ks)) of_node (ns (Node-F.Call n (map of_expr (firsts ks)))) _ _ (arguments_step ks fresh at) (λ args h.
      node_made (Node-F.Call n args) (node.rolls-Call n args) ∙ ap (λ z. ns (Node-F.Call n z)) h)
  judged_step (Node-F.Calloc w k x) t fresh at = part k _ fresh at _ (λ a h. node_made (Node-F.Calloc w a x) (node.rolls-Calloc w a x) ∙ ap (λ z. ns (Node-F.Calloc w z x)) h)

  limits_by : (x : LimitsLayer) (y : Limits-F Name Note KeptLimits KeptNode KeptExpr) → inner_limits y ≡ x → LimitsKept (roll-Limits Name Note x)
  limits_by x y is = record {
    judged = λ size fresh at.
        let P : LimitsView → X → Type 0 = λ v w. Keeps of_limits w (v.judged size fresh at) in
        subst (λ w. P (view_of_limits frame (roll-Limits Name Note x)) w) (sym (fold-roll-Limits Name Note X Y Z ls ns es x ∙ ap (λ z. ls (held_limits z)) (sym is)))
        (subst (λ v. P v (ls (held_limits (inner_limits y))))
        (sym (fold-roll-Limits Name Note LimitsView NodeView View limits_view (node_view frame) expr_view x ∙ ap (λ z. limits_view (limits_inside z)) (sym is)))
        (limits_step y size fresh at));
  }

  node_by : (x : NotedLayer) (y : Node-F Name Note KeptLimits KeptNode KeptExpr) → inner_node y ≡ x → NodeKept (roll-Node Name Note x)
  node_by x y is = record {
    judged = λ t fresh at.
        let P : NodeView → Y → Type 0 = λ v w. Keeps of_node w (v.judged t fresh at) in
        subst (λ w. P (view_of_node frame (roll-Node Name Note x)) w) (sym (fold-roll-Node Name Note X Y Z ls ns es x ∙ ap (λ z. ns (held_node z)) (sym is)))
        (subst (λ v. P v (ns (held_node (inner_node y))))
        (sym (fold-roll-Node Name Note LimitsView NodeView View limits_view (node_view frame) expr_view x ∙ ap (λ z. node_view frame (node_inside z)) (sym is)))
        (judged_step y t fresh at));
  }

  abbrev whole : Y → Pos → Note → Z
  whole n pos note = es (record { node = n; pos = pos; note = note })

  made_is : (m : NotedNode) (pos : Pos) (note : Note) (r : Range) (n : Y) → of_node m ≡ n → of_expr (expr_made pos note r m) ≡ whole n pos note
  made_is m pos note r n h =
      fold-roll-Expr Name Note X Y Z ls ns es (record { node = m; pos = pos; note = noted_range note r }) ∙ blind (of_node m) pos note r ∙ ap (λ z. whole z pos note) h

  expr_by : (x : Expr-F Name Note NotedLimits NotedNode NotedExpr) (y : Expr-F Name Note KeptLimits KeptNode KeptExpr) → inner_expr y ≡ x → ExprKept (roll-Expr Name Note x)
  expr_by x y is =
      let viewed = sym (fold-roll-Expr Name Note LimitsView NodeView View limits_view (node_view frame) expr_view x ∙ ap (λ z. expr_view (expr_inside z)) (sym is)) in
      let folded : of_expr (roll-Expr Name Note x) ≡ whole (of_node y.node.0) y.pos y.note =
      fold-roll-Expr Name Note X Y Z ls ns es x ∙ ap (λ (z : Expr-F Name Note NotedLimits NotedNode NotedExpr). whole (of_node z.node) z.pos z.note) (sym is) in
      let made : (r : Range) (m : NotedNode) → of_node m ≡ of_node y.node.0 → of_expr (expr_made y.pos y.note r m) ≡ whole (of_node y.node.0) y.pos y.note =
      λ r m h. made_is m y.pos y.note r (of_node y.node.0) h in
      record {
        judged = λ fresh at.
            let P : View → Z → Type 0 = λ v w. Keeps of_expr w (v.judged fresh at) in
            subst (λ w. P (view frame (roll-Expr Name Note x)) w) (sym folded) (subst (λ v. P v (whole (of_node y.node.0) y.pos y.note)) viewed
            (bound of_node (of_node y.node.0) of_expr (whole (of_node y.node.0) y.pos y.note) _ _ (y.node.1.judged y.note.ctype fresh at) (λ m h.
            faulted of_expr (whole (of_node y.node.0) y.pos y.note) _ (Ok (expr_made y.pos y.note (pointer_range y.note.ctype (view_of_node frame y.node.0) 0 fresh at) m))
            (made (pointer_range y.note.ctype (view_of_node frame y.node.0) 0 fresh at) m h))));
        operand = λ fresh at.
            let P : View → Z → Type 0 = λ v w. Keeps of_expr w (v.operand fresh at) in
            subst (λ w. P (view frame (roll-Expr Name Note x)) w) (sym folded) (subst (λ v. P v (whole (of_node y.node.0) y.pos y.note)) viewed
            (bound of_node (of_node y.node.0) of_expr (whole (of_node y.node.0) y.pos y.note) _ _ (y.node.1.judged y.note.ctype fresh at) (λ m h.
            faulted of_expr (whole (of_node y.node.0) y.pos y.note) _ (Ok (expr_made y.pos y.note (pointer_range y.note.ctype (view_of_node frame y.node.0) 0 fresh at) m))
            (made (pointer_range y.note.ctype (view_of_node frame y.node.0) 0 fresh at) m h))));
      }

  pub expr_kept : (e : NotedExpr) → ExprKept e
  expr_kept = ind-Expr Name Note LimitsKept NodeKept ExprKept limits_by node_by expr_by

  -- what an expression becomes is the same to the fold
  pub same_fold : (e f : NotedExpr) (fresh : ℕ) (at : State) → (view frame e).judged fresh at ≡ Ok f → of_expr f ≡ of_expr e
  same_fold e f fresh at is = by ((view frame e).judged fresh at) is ((expr_kept e).judged fresh at)
    where
      by : (o : Outcome NotedExpr) → o ≡ Ok f → Keeps of_expr (of_expr e) o → of_expr f ≡ of_expr e
      by (Ok g) is h = let same : g ≡ f = cc in subst (λ x. of_expr x ≡ of_expr e) same h
      by (Err r) is h = absurd (cc)
