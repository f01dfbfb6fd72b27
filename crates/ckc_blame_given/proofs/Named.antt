-- The variable of the form of an integer is 0 or that of an integer local that the expression names.
use Rattle.std.proofs.Common.{◌≡◌, ◌⊎◌, inl, inr, refl, sym, ap, subst, ◌∙◌, ℕ, ◌+◌, ◌==◌, Bool, true, false, rules}
use Rattle.std.specs.Prelude.{◌&&◌, if◌then◌else◌, ℤ, pos, ◌+ℤ◌, Option, None, Some}
use Rattle.std.proofs.lemmas.Bool.{eq-eqb}
use Rattle.ckc_types.specs.declared.types.CType.{CType}
use Rattle.ckc_linear.specs.declared.forms.Form.{Form}
use Rattle.ckc_syntax.specs.declared.tree.Name.{Name}
use Rattle.ckc_syntax.specs.declared.tree.Name.TheVariants as name
use Rattle.ckc_syntax.specs.declared.tree.Limits.{Limits-F, map-Limits, roll-Limits}
use Rattle.ckc_syntax.specs.declared.tree.Node.{Node-F, map-Node, roll-Node, fold-roll-Node, out-Node, the_lemmas}
use Rattle.ckc_syntax.specs.declared.tree.Expr.{Expr-F, map-Expr, ind-Expr, roll-Expr, fold-roll-Expr}
use Rattle.ckc_typed.specs.declared.environment.Constant.{Constant}
use Rattle.ckc_typed.specs.declared.typed.Note.{Note}
use Rattle.ckc_typed.specs.Constants.{value_of}
use Rattle.ckc_typed.specs.Trees.{NotedLimits, NotedNode, NotedExpr, NotedLayer}
use Rattle.ckc_typed.specs.Types.{is_integer}
use Rattle.ckc_blame_sound.specs.ckc_bounds_known.specs.declared.intervals.Interval.{Interval}
use Rattle.ckc_blame_sound.specs.ckc_bounds_known.specs.Ranges.{range_of}
use Rattle.ckc_blame_sound.specs.ckc_bounds_points.specs.declared.frame.Frame.{Frame}
use Rattle.ckc_blame_sound.specs.ckc_bounds_points.specs.declared.frame.Local.{Local}
use Rattle.ckc_blame_sound.specs.ckc_bounds_points.specs.Shown.{Known, is_shown}
use Rattle.ckc_blame_sound.specs.ckc_bounds_points.specs.Frames.{local_at, variable_of, variable}
use Rattle.ckc_blame_sound.specs.ckc_bounds_points.specs.Forms.{is_small, below, above, constant_form, moved_form, within_interval, in_type}
use Rattle.ckc_blame_sound.specs.ckc_bounds_ranges.specs.Bundles.{local_target, Mention, NodeOfMentions, limits_mention, node_mention, expr_mention, mention_of_limits, mention_of_node, mention}
use Rattle.ckc_blame_sound.specs.ckc_bounds_views.specs.declared.forms.Step.{Step}
use Rattle.ckc_blame_sound.specs.ckc_bounds_views.specs.Parts.{LimitsView, NodeView, View, NodeOfViews}
use Rattle.ckc_blame_sound.specs.ckc_bounds_views.specs.Integers.{step_of, form_after, form_of_node, constant_or}
use Rattle.ckc_blame_sound.specs.ckc_bounds_views.specs.Views.{limits_view, node_view, expr_view, view_of_limits, view_of_node, view}
use Rattle.ckc_blame_sound.proofs.Tests.{left_of, right_of}

-- whether a test holds of what there may be
abbrev pub holds_of : {T : Type 0} → (T → Bool) → Option T → Bool
holds_of test None = false
holds_of test (Some t) = test t

-- whether an expression names a local, as a target of a bundle
abbrev pub names_local : Mention → ℕ → Bool
names_local m k = holds_of m.names (local_target (name.Local k))

-- which locals an expression names
abbrev pub Names : Type 0
Names = ℕ → Bool

-- ---- what is said of an expression by its layer

pub node_back : (n : NotedNode) → roll-Node Name Note (out-Node Name Note n) ≡ n
node_back n = search (rules, the_lemmas)

abbrev pub mapped_node : {L M E : Type 0} → (NotedLimits → L) → (NotedNode → M) → (NotedExpr → E) → NotedLayer → Node-F Name Note L M E
mapped_node {L} {M} {E} f g h = map-Node Name Note NotedLimits NotedNode NotedExpr L M E f g h

abbrev pub mapped_expr : {L M E : Type 0} → (NotedLimits → L) → (NotedNode → M) → (NotedExpr → E) → Expr-F Name Note NotedLimits NotedNode NotedExpr → Expr-F Name Note L M E
mapped_expr {L} {M} {E} f g h = map-Expr Name Note NotedLimits NotedNode NotedExpr L M E f g h

abbrev pub mentioned_node : NotedLayer → NodeOfMentions
mentioned_node x = mapped_node mention_of_limits mention_of_node mention x

pub mention_is : (x : Expr-F Name Note NotedLimits NotedNode NotedExpr) → mention (roll-Expr Name Note x) ≡ expr_mention (mapped_expr mention_of_limits mention_of_node mention x)
mention_is x = fold-roll-Expr Name Note _ Mention Mention limits_mention node_mention expr_mention x

module _ (frame : Frame) where
  -- A variable is that of an integer local that is named.
  pub record IsNamedLocal (names : Names) (x : ℕ) : Type 0 where
    pub number : ℕ
    pub local : Local
    pub same : x ≡ number + 1
    pub there : local_at frame number ≡ Some local
    pub integer : is_integer local.ctype ≡ true
    pub named : names number ≡ true

  -- a form of an integer, if there is one, is over the number zero or such a variable
  abbrev pub IsNamedForm : Names → Option Form → Type 0
  IsNamedForm names o = (g : Form) → o ≡ Some g → (g.var ≡ 0) ⊎ IsNamedLocal names g.var

  none_named : (names : Names) → IsNamedForm names None
  none_named names g e = absurd (cc)

  some_named : (names : Names) (f : Form) → (f.var ≡ 0) ⊎ IsNamedLocal names f.var → IsNamedForm names (Some f)
  some_named names f h g e = let same : f ≡ g = cc in subst (λ (g : Form). (g.var ≡ 0) ⊎ IsNamedLocal names g.var) same h

  -- more names
  more_named : (names others : Names) (o : Option Form) → ((k : ℕ) → names k ≡ true → others k ≡ true) → IsNamedForm names o → IsNamedForm others o
  more_named names others o more h g e = by (h g e)
    where
      by : (g.var ≡ 0) ⊎ IsNamedLocal names g.var → (g.var ≡ 0) ⊎ IsNamedLocal others g.var
      by (inl z) = inl z
      by (inr l) =
          inr (record { number = l.number; local = l.local; same = l.same; there = l.there; integer = l.integer; named = more l.number l.named })

  moved_named : (names : Names) (o : Option Form) (c : ℤ) → IsNamedForm names o → IsNamedForm names (moved_form o c)
  moved_named names None c h = none_named names
  moved_named names (Some f) c h = by (is_small f.add && is_small c)
    where
      by : (b : Bool) → IsNamedForm names (if b then Some (record f { add = f.add +ℤ c }) else None)
      by true = some_named names (record f { add = f.add +ℤ c }) (h f refl)
      by false = none_named names

  pub typed_named : (names : Names) (facts : Known) (t : CType) (o : Option Form) → IsNamedForm names o → IsNamedForm names (in_type facts t o)
  typed_named names facts t None h = none_named names
  typed_named names facts t (Some f) h = by_range (range_of t)
    where
      by_range : (r : Option Interval) → IsNamedForm names (within_interval facts f r)
      by_range None = none_named names
      by_range (Some r) = by (is_small f.add && (is_shown facts (below f r) && is_shown facts (above f r)))
        where
          by : (b : Bool) → IsNamedForm names (if b then Some f else None)
          by true = h
          by false = none_named names

  variable_named : (names : Names) (k : ℕ) (o : Option Local) → local_at frame k ≡ o → names k ≡ true → IsNamedForm names (variable_of k o)
  variable_named names k None there n = none_named names
  variable_named names k (Some l) there n = by (is_integer l.ctype) refl
    where
      by : (b : Bool) → is_integer l.ctype ≡ b → IsNamedForm names (if b then Some (record { base = None; var = k + 1; add = pos 0 }) else None)
      by true e = some_named names (record { base = None; var = k + 1; add = pos 0 }) (inr (record { number = k; local = l; same = refl; there = there; integer = e; named = n }))
      by false e = none_named names

  record AnyLimits (l : NotedLimits) : Type 0 where
    pub any : Unit {0}

  record NodeHolds (n : NotedNode) : Type 0 where
    pub linear : (t : CType) (facts : Known) → IsNamedForm (names_local (mention_of_node n)) ((view_of_node frame n).linear t facts)

  record ExprHolds (e : NotedExpr) : Type 0 where
    pub form : (facts : Known) → IsNamedForm (names_local (mention e)) ((view frame e).form facts)

  abbrev KeptLimits : Type 0
  KeptLimits = (l : NotedLimits) × AnyLimits l

  abbrev KeptNode : Type 0
  KeptNode = (n : NotedNode) × NodeHolds n

  abbrev KeptExpr : Type 0
  KeptExpr = (e : NotedExpr) × ExprHolds e

  abbrev inner_node : Node-F Name Note KeptLimits KeptNode KeptExpr → NotedLayer
  inner_node = map-Node Name Note KeptLimits KeptNode KeptExpr NotedLimits NotedNode NotedExpr (λ e. e.0) (λ e. e.0) (λ e. e.0)

  abbrev inner_expr : Expr-F Name Note KeptLimits KeptNode KeptExpr → Expr-F Name Note NotedLimits NotedNode NotedExpr
  inner_expr = map-Expr Name Note KeptLimits KeptNode KeptExpr NotedLimits NotedNode NotedExpr (λ e. e.0) (λ e. e.0) (λ e. e.0)

  abbrev viewed_node : NotedLayer → NodeOfViews
  viewed_node = map-Node Name Note NotedLimits NotedNode NotedExpr LimitsView NodeView View (view_of_limits frame) (view_of_node frame) (view frame)

  abbrev viewed_expr : Expr-F Name Note NotedLimits NotedNode NotedExpr → Expr-F Name Note LimitsView NodeView View
  viewed_expr = map-Expr Name Note NotedLimits NotedNode NotedExpr LimitsView NodeView View (view_of_limits frame) (view_of_node frame) (view frame)

  name_named : (n : Name) → IsNamedForm (names_local (node_mention (mentioned_node (Node-F.Name n)))) (variable frame n)
  name_named (name.Local k) =
      variable_named (names_local (node_mention (mentioned_node (Node-F.Name (name.Local k))))) k (local_at frame k) refl (left_of (k == k) false (eq-eqb k k refl))
  name_named n = none_named (names_local (node_mention (mentioned_node (Node-F.Name n))))

  after_named : (names : Names) (facts : Known) (t : CType) (o : Option Step) (k j : KeptExpr) → ((x : ℕ) → names_local (mention k.0) x ≡ true → names x ≡ true)
      → ((x : ℕ) → names_local (mention j.0) x ≡ true → names x ≡ true) → IsNamedForm names (form_after facts t o (view frame k.0) (view frame j.0))
  after_named names facts t None k j left right = none_named names
  after_named names facts t (Some s) k j left right =
      typed_named names facts t (moved_form (if s.left then (view frame k.0).form facts else (view frame j.0).form facts) s.by) (moved_named names _ s.by (either s.left))
    where
      either : (b : Bool) → IsNamedForm names (if b then (view frame k.0).form facts else (view frame j.0).form facts)
      either true = more_named (names_local (mention k.0)) names ((view frame k.0).form facts) left (k.1.form facts)
      either false = more_named (names_local (mention j.0)) names ((view frame j.0).form facts) right (j.1.form facts)

  node_step : (y : Node-F Name Note KeptLimits KeptNode KeptExpr) (t : CType) (facts : Known)
      → IsNamedForm (names_local (node_mention (mentioned_node (inner_node y)))) (form_of_node frame (viewed_node (inner_node y)) t facts)
  node_step (Node-F.Name n) t facts = name_named n
  node_step (Node-F.Bin o k j) t facts =
      after_named (names_local (node_mention (mentioned_node (inner_node (Node-F.Bin o k j))))) facts t (step_of o (view frame k.0).number (view frame j.0).number) k j
      (λ x e. left_of (names_local (mention k.0) x) (names_local (mention j.0) x) e) (λ x e. right_of (names_local (mention k.0) x) (names_local (mention j.0) x) e)
  node_step (Node-F.Cast w k) t facts = typed_named (names_local (mention k.0)) facts t ((view frame k.0).form facts) (k.1.form facts)
  node_step y t facts = none_named (names_local (node_mention (mentioned_node (inner_node y))))

  abbrev inner_limits : Limits-F Name Note KeptLimits KeptNode KeptExpr → Limits-F Name Note NotedLimits NotedNode NotedExpr
  inner_limits = map-Limits Name Note KeptLimits KeptNode KeptExpr NotedLimits NotedNode NotedExpr (λ e. e.0) (λ e. e.0) (λ e. e.0)

  limits_by : (x : Limits-F Name Note NotedLimits NotedNode NotedExpr) (y : Limits-F Name Note KeptLimits KeptNode KeptExpr) → inner_limits y ≡ x → AnyLimits (roll-Limits Name Note x)
  limits_by x y is = record { any = tt }

  node_by : (x : NotedLayer) (y : Node-F Name Note KeptLimits KeptNode KeptExpr) → inner_node y ≡ x → NodeHolds (roll-Node Name Note x)
  node_by x y is = record {
    linear = λ t facts.
        subst (λ (v : NodeView). IsNamedForm (names_local (mention_of_node (roll-Node Name Note x))) (v.linear t facts))
        (sym (fold-roll-Node Name Note LimitsView NodeView View limits_view (node_view frame) expr_view x ∙ ap (λ z. node_view frame (viewed_node z)) (sym is)))
        (subst (λ (m : Mention). IsNamedForm (names_local m) (form_of_node frame (viewed_node (inner_node y)) t facts))
        (sym (fold-roll-Node Name Note _ Mention Mention limits_mention node_mention expr_mention x ∙ ap (λ z. node_mention (mentioned_node z)) (sym is)))
        (node_step y t facts));
  }

  constant_named : (names : Names) (b : Bool) (c : Option Constant) (o : Option Form) → IsNamedForm names o → IsNamedForm names (if b then constant_or c o else None)
  constant_named names true (Some c) o h = some_named names (constant_form (value_of c)) (inl refl)
  constant_named names true None o h = h
  constant_named names false c o h = none_named names

  expr_by : (x : Expr-F Name Note NotedLimits NotedNode NotedExpr) (y : Expr-F Name Note KeptLimits KeptNode KeptExpr) → inner_expr y ≡ x → ExprHolds (roll-Expr Name Note x)
  expr_by x y is = record {
    form = λ facts.
        subst (λ (v : View). IsNamedForm (names_local (mention (roll-Expr Name Note x))) (v.form facts))
        (sym (fold-roll-Expr Name Note LimitsView NodeView View limits_view (node_view frame) expr_view x ∙ ap (λ z. expr_view (viewed_expr z)) (sym is)))
        (subst (λ (m : Mention). IsNamedForm (names_local m) ((expr_view (viewed_expr (inner_expr y))).form facts))
        (sym (mention_is x ∙ ap (λ z. expr_mention (mapped_expr mention_of_limits mention_of_node mention z)) (sym is)))
        (constant_named (names_local (mention_of_node y.node.0)) (is_integer y.note.ctype) (view_of_node frame y.node.0).number ((view_of_node frame y.node.0).linear y.note.ctype facts)
        (y.node.1.linear y.note.ctype facts)));
  }

  expr_holds : (e : NotedExpr) → ExprHolds e
  expr_holds = ind-Expr Name Note AnyLimits NodeHolds ExprHolds limits_by node_by expr_by

  pub form_named : (e : NotedExpr) (facts : Known) → IsNamedForm (names_local (mention e)) ((view frame e).form facts)
  form_named e facts = (expr_holds e).form facts
