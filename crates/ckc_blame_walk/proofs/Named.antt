-- The form of an integer names an integer local, if it names one.
use Rattle.std.proofs.Common.{◌≡◌, refl, sym, ap, subst, ◌∙◌, ℕ, suc, ◌+◌, Bool, true, false, arith}
use Rattle.std.specs.Prelude.{◌&&◌, not, if◌then◌else◌, int_lt, ℤ, pos, ◌+ℤ◌, Option, None, Some, IfSome}
use Rattle.ckc_types.specs.declared.types.CType.{CType, CType-F, out-CType}
use Rattle.ckc_linear.specs.declared.forms.Form.{Form}
use Rattle.ckc_syntax.specs.declared.tree.Name.{Name}
use Rattle.ckc_syntax.specs.declared.tree.Name.TheVariants as name
use Rattle.ckc_syntax.specs.declared.tree.Limits.{Limits-F, map-Limits, roll-Limits}
use Rattle.ckc_syntax.specs.declared.tree.Node.{Node-F, map-Node, roll-Node, fold-roll-Node}
use Rattle.ckc_syntax.specs.declared.tree.Expr.{Expr-F, map-Expr, ind-Expr, roll-Expr, fold-roll-Expr}
use Rattle.ckc_typed.specs.declared.environment.Constant.{Constant}
use Rattle.ckc_typed.specs.declared.typed.Note.{Note}
use Rattle.ckc_typed.specs.Constants.{value_of}
use Rattle.ckc_typed.specs.Trees.{NotedLimits, NotedNode, NotedExpr, NotedLayer}
use Rattle.ckc_typed.specs.Types.{is_unsigned, is_integer, is_integer_form}
use Rattle.ckc_blame_sound.specs.ckc_bounds_known.specs.declared.intervals.Interval.{Interval}
use Rattle.ckc_blame_sound.specs.ckc_bounds_known.specs.Shown.{Known, is_shown}
use Rattle.ckc_blame_sound.specs.ckc_bounds_known.specs.Ranges.{range_in, range_of, is_small, below, above}
use Rattle.ckc_blame_sound.specs.ckc_bounds_points.specs.declared.frame.Frame.{Frame}
use Rattle.ckc_blame_sound.specs.ckc_bounds_points.specs.declared.frame.Local.{Local}
use Rattle.ckc_blame_sound.specs.ckc_bounds_points.specs.Frames.{local_at, variable_of, variable}
use Rattle.ckc_blame_sound.specs.ckc_bounds_points.specs.Forms.{constant_form, moved_form, within_interval, in_type}
use Rattle.ckc_blame_sound.specs.ckc_bounds_views.specs.declared.forms.Step.{Step}
use Rattle.ckc_blame_sound.specs.ckc_bounds_views.specs.Parts.{LimitsView, NodeView, View, NodeOfViews}
use Rattle.ckc_blame_sound.specs.ckc_bounds_views.specs.Conditions.{operand_of, operand}
use Rattle.ckc_blame_sound.specs.ckc_bounds_views.specs.Integers.{step_of, form_after, constant_or, integer_form}
use Rattle.ckc_blame_sound.specs.ckc_bounds_views.specs.Views.{limits_view, node_view, expr_view, view_of_limits, view_of_node, view}
use Rattle.ckc_blame_sound.specs.Values.{IsIntegerLocal, IsInteger}

-- only integers have a range
pub range_integer : (t : CType) → IfSome (range_of t) (λ r. is_integer t ≡ true)
range_integer t = by (out-CType t)
  where
    by : (f : CType-F CType) → IfSome (range_in f) (λ r. is_integer_form f ≡ true)
    by CType-F.Int = refl
    by CType-F.Unsigned = refl
    by CType-F.Char = refl
    by CType-F.Void = tt
    by (CType-F.Struct tag) = tt
    by (CType-F.Pointer k t) = tt

module _ (frame : Frame) where
  -- an integer local as a variable
  pub integer_at : (k : ℕ) (l : Local) → local_at frame k ≡ Some l → is_integer l.ctype ≡ true → IsInteger frame (k + 1)
  integer_at k l there i =
      let next : suc k ≡ k + 1 = omega arith in
      let at : IsInteger frame (suc k) = subst IsIntegerLocal (sym there) i in
      subst (IsInteger frame) next at

  -- The variable of a form is the number zero or an integer local.
  abbrev pub NamesInteger : Option Form → Type 0
  NamesInteger o = IfSome o (λ f. IsInteger frame f.var)

  name_named : (n : Name) → NamesInteger (variable frame n)
  name_named (name.Local k) = by (local_at frame k) refl
    where
      by : (o : Option Local) → local_at frame k ≡ o → NamesInteger (variable_of k o)
      by None there = tt
      by (Some l) there = by_type (is_integer l.ctype) refl
        where
          by_type : (b : Bool) → is_integer l.ctype ≡ b → NamesInteger (if b then Some (record { base = None; var = k + 1; add = pos 0 }) else None)
          by_type true i = integer_at k l there i
          by_type false i = tt
  name_named n = tt

  moved_named : (o : Option Form) (c : ℤ) → NamesInteger o → NamesInteger (moved_form o c)
  moved_named None c h = tt
  moved_named (Some f) c h = by (is_small f.add && is_small c)
    where
      by : (b : Bool) → NamesInteger (if b then Some (record f { add = f.add +ℤ c }) else None)
      by true = h
      by false = tt

  within_named : (facts : Known) (f : Form) (r : Option Interval) → IsInteger frame f.var → NamesInteger (within_interval facts f r)
  within_named facts f None h = tt
  within_named facts f (Some r) h = by (is_small f.add && (is_shown facts (below f r) && is_shown facts (above f r)))
    where
      by : (b : Bool) → NamesInteger (if b then Some f else None)
      by true = h
      by false = tt

  pub in_type_named : (facts : Known) (t : CType) (o : Option Form) → NamesInteger o → NamesInteger (in_type facts t o)
  in_type_named facts t None h = tt
  in_type_named facts t (Some f) h = within_named facts f (range_of t) h

  constant_named : (c : Option Constant) (o : Option Form) → NamesInteger o → NamesInteger (constant_or c o)
  constant_named None o h = h
  constant_named (Some c) o h = tt

  integer_named : (t : CType) (c : Option Constant) (o : Option Form) → NamesInteger o → NamesInteger (integer_form t c o)
  integer_named t c o h = by (is_integer t)
    where
      by : (b : Bool) → NamesInteger (if b then constant_or c o else None)
      by true = constant_named c o h
      by false = tt

  abbrev HasNamed : View → Type 0
  HasNamed e = (facts : Known) → NamesInteger (e.form facts)

  after_named : (facts : Known) (t : CType) (o : Option Step) (e f : View) → HasNamed e → HasNamed f → NamesInteger (form_after facts t o e f)
  after_named facts t None e f h g = tt
  after_named facts t (Some s) e f h g = in_type_named facts t (moved_form (if s.left then e.form facts else f.form facts) s.by) (moved_named (if s.left then e.form facts else f.form facts) s.by (chosen s.left))
    where
      chosen : (b : Bool) → NamesInteger (if b then e.form facts else f.form facts)
      chosen true = h facts
      chosen false = g facts

  -- ---- the induction

  record AnyLimits (l : NotedLimits) : Type 0 where
    pub any : Unit {0}

  record NodeNames (n : NotedNode) : Type 0 where
    pub variable : NamesInteger (view_of_node frame n).variable
    pub linear : (t : CType) (facts : Known) → NamesInteger ((view_of_node frame n).linear t facts)

  record ExprNames (e : NotedExpr) : Type 0 where
    pub variable : NamesInteger (view frame e).variable
    pub form : HasNamed (view frame e)

  abbrev KeptLimits : Type 0
  KeptLimits = (l : NotedLimits) × AnyLimits l

  abbrev KeptNode : Type 0
  KeptNode = (n : NotedNode) × NodeNames n

  abbrev KeptExpr : Type 0
  KeptExpr = (e : NotedExpr) × ExprNames e

  abbrev inner_limits : Limits-F Name Note KeptLimits KeptNode KeptExpr → Limits-F Name Note NotedLimits NotedNode NotedExpr
  inner_limits = map-Limits Name Note KeptLimits KeptNode KeptExpr NotedLimits NotedNode NotedExpr (λ e. e.0) (λ e. e.0) (λ e. e.0)

  abbrev inner_node : Node-F Name Note KeptLimits KeptNode KeptExpr → NotedLayer
  inner_node = map-Node Name Note KeptLimits KeptNode KeptExpr NotedLimits NotedNode NotedExpr (λ e. e.0) (λ e. e.0) (λ e. e.0)

  abbrev inner_expr : Expr-F Name Note KeptLimits KeptNode KeptExpr → Expr-F Name Note NotedLimits NotedNode NotedExpr
  inner_expr = map-Expr Name Note KeptLimits KeptNode KeptExpr NotedLimits NotedNode NotedExpr (λ e. e.0) (λ e. e.0) (λ e. e.0)

  abbrev viewed_node : NotedLayer → NodeOfViews
  viewed_node = map-Node Name Note NotedLimits NotedNode NotedExpr LimitsView NodeView View (view_of_limits frame) (view_of_node frame) (view frame)

  abbrev viewed_expr : Expr-F Name Note NotedLimits NotedNode NotedExpr → Expr-F Name Note LimitsView NodeView View
  viewed_expr = map-Expr Name Note NotedLimits NotedNode NotedExpr LimitsView NodeView View (view_of_limits frame) (view_of_node frame) (view frame)

  variable_step : (y : Node-F Name Note KeptLimits KeptNode KeptExpr) → NamesInteger (node_view frame (viewed_node (inner_node y))).variable
  variable_step (Node-F.Name n) = name_named n
  variable_step y = tt

  linear_step : (y : Node-F Name Note KeptLimits KeptNode KeptExpr) (t : CType) (facts : Known) → NamesInteger ((node_view frame (viewed_node (inner_node y))).linear t facts)
  linear_step (Node-F.Name n) t facts = name_named n
  linear_step (Node-F.Bin o e f) t facts = after_named facts t (step_of o (view frame e.0).number (view frame f.0).number) (view frame e.0) (view frame f.0) e.1.form f.1.form
  linear_step (Node-F.Cast w e) t facts = in_type_named facts t ((view frame e.0).form facts) (e.1.form facts)
  linear_step y t facts = tt

  limits_by : (x : Limits-F Name Note NotedLimits NotedNode NotedExpr) (y : Limits-F Name Note KeptLimits KeptNode KeptExpr) → inner_limits y ≡ x → AnyLimits (roll-Limits Name Note x)
  limits_by x y is = record { any = tt }

  node_by : (x : NotedLayer) (y : Node-F Name Note KeptLimits KeptNode KeptExpr) → inner_node y ≡ x → NodeNames (roll-Node Name Note x)
  node_by x y is =
      let rolled = sym (fold-roll-Node Name Note LimitsView NodeView View limits_view (node_view frame) expr_view x ∙ ap (λ z. node_view frame (viewed_node z)) (sym is)) in
      record {
        variable = subst (λ (n : NodeView). NamesInteger n.variable) rolled (variable_step y);
        linear = subst (λ (n : NodeView). (t : CType) (facts : Known) → NamesInteger (n.linear t facts)) rolled (linear_step y);
      }

  expr_by : (x : Expr-F Name Note NotedLimits NotedNode NotedExpr) (y : Expr-F Name Note KeptLimits KeptNode KeptExpr) → inner_expr y ≡ x → ExprNames (roll-Expr Name Note x)
  expr_by x y is =
      let rolled = sym (fold-roll-Expr Name Note LimitsView NodeView View limits_view (node_view frame) expr_view x ∙ ap (λ z. expr_view (viewed_expr z)) (sym is)) in
      let n : NodeView = view_of_node frame y.node.0 in
      record {
        variable = subst (λ (v : View). NamesInteger v.variable) rolled y.node.1.variable;
        form = subst (λ (v : View). HasNamed v) rolled (λ facts. integer_named y.note.ctype n.number (n.linear y.note.ctype facts) (y.node.1.linear y.note.ctype facts));
      }

  all_named : (e : NotedExpr) → ExprNames e
  all_named = ind-Expr Name Note AnyLimits NodeNames ExprNames limits_by node_by expr_by

  pub form_named : (e : NotedExpr) (facts : Known) → NamesInteger ((view frame e).form facts)
  form_named e facts = (all_named e).form facts

  pub variable_named : (e : NotedExpr) → NamesInteger (view frame e).variable
  variable_named e = (all_named e).variable

  -- ---- an operand of a comparison

  operand_of_named : (unsigned : Bool) (e : View) (c : Option Constant) → NamesInteger e.variable → NamesInteger (operand_of unsigned e c)
  operand_of_named unsigned e (Some c) h = by (unsigned && int_lt (value_of c) (pos 0))
    where
      by : (b : Bool) → NamesInteger (if b then None else Some (constant_form (value_of c)))
      by true = tt
      by false = tt
  operand_of_named unsigned e None h = by (unsigned && not (is_unsigned e.ctype))
    where
      by : (b : Bool) → NamesInteger (if b then None else e.variable)
      by true = tt
      by false = h

  pub operand_named : (unsigned : Bool) (e : View) → NamesInteger e.variable → NamesInteger (operand unsigned e)
  operand_named unsigned e h = operand_of_named unsigned e e.number h
