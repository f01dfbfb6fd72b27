-- A side of a condition has what is known at its point, and maybe more.
use Rattle.std.proofs.Common.{◌≡◌, refl, sym, ap, subst, ◌∙◌, ℕ, suc, ◌+◌, Bool, true, false, List, [], ◌∷◌, ◌++◌, length, arith}
use Rattle.std.specs.Prelude.{◌&&◌, ◌^◌, not, nat_lt, if◌then◌else◌, pos, neg_ℤ, slice_get, Option, None, Some, IfSome}
use Rattle.std.specs.List.{Contains}
use Rattle.std.proofs.lemmas.List.Elements.{All-nil, All-push, Contains-append_left}
use Rattle.ckc_linear.specs.declared.facts.Fact.{Fact}
use Rattle.ckc_linear.specs.declared.forms.Form.{Form}
use Rattle.ckc_types.specs.declared.types.CType.{CType}
use Rattle.ckc_types.specs.declared.types.Kind.{Kind}
use Rattle.ckc_syntax.specs.declared.tree.Name.{Name}
use Rattle.ckc_syntax.specs.declared.tree.TreeOp.{TreeOp}
use Rattle.ckc_syntax.specs.declared.tree.TreeOp.TheVariants as op
use Rattle.ckc_syntax.specs.declared.tree.Limits.{Limits-F, map-Limits, roll-Limits}
use Rattle.ckc_syntax.specs.declared.tree.Node.{Node-F, map-Node, roll-Node, fold-roll-Node}
use Rattle.ckc_syntax.specs.declared.tree.Expr.{Expr-F, map-Expr, ind-Expr, roll-Expr, fold-roll-Expr}
use Rattle.ckc_typed.specs.declared.typed.Note.{Note}
use Rattle.ckc_typed.specs.Trees.{NotedLimits, NotedNode, NotedExpr, NotedLayer}
use Rattle.ckc_typed.specs.Types.{is_integer}
use Rattle.ckc_blame_sound.specs.ckc_bounds_known.specs.declared.intervals.Interval.{Interval}
use Rattle.ckc_blame_sound.specs.ckc_bounds_known.specs.Shown.{Known, is_within}
use Rattle.ckc_blame_sound.specs.ckc_bounds_known.specs.Ranges.{range_of, is_small, fits, with_fact, with_range}
use Rattle.ckc_blame_sound.specs.ckc_bounds_known.proofs.Reaching.{and_cases}
use Rattle.ckc_blame_sound.specs.ckc_bounds_points.specs.declared.frame.Frame.{Frame}
use Rattle.ckc_blame_sound.specs.ckc_bounds_points.specs.declared.frame.Local.{Local}
use Rattle.ckc_blame_sound.specs.ckc_bounds_points.specs.Flow.{State, ranges_from, ranges}
use Rattle.ckc_blame_sound.specs.ckc_bounds_points.specs.Forms.{at_most, at_less, with_most, with_less}
use Rattle.ckc_blame_sound.specs.ckc_bounds_views.specs.Parts.{LimitsView, NodeView, View, NodeOfViews}
use Rattle.ckc_blame_sound.specs.ckc_bounds_views.specs.Conditions.{wider, widened_by, read_place, widening_side, behind_node, said, holding, is_comparison, operand, compares_unsigned, nonzero_side, by_operands, narrowed, binary_side, comparison_side, side_of_node}
use Rattle.ckc_blame_sound.specs.ckc_bounds_views.specs.Places.{target_of_node}
use Rattle.ckc_blame_sound.specs.ckc_bounds_views.specs.Views.{limits_view, node_view, expr_view, view_of_limits, view_of_node, view}
use Rattle.ckc_blame_sound.specs.Values.{IsInteger, NamesIntegers}
use Rattle.ckc_blame_walk.specs.Walks.{AreSmall, AreNamed}
use Rattle.ckc_blame_walk.proofs.Named.{range_integer, integer_at, NamesInteger, variable_named, operand_named}

-- ---- more facts

module _ (frame : Frame) where
  pub record HasMore (before after : Known) : Type 0 where
    pub facts : (f : Fact) → Contains before.list f → Contains after.list f
    pub small : AreSmall before → AreSmall after
    pub named : AreNamed frame before → AreNamed frame after

  pub no_more : (facts : Known) → HasMore facts facts
  no_more facts = record { facts = λ f c. c; small = λ s. s; named = λ n. n }

  pub more_than : (a b c : Known) → HasMore a b → HasMore b c → HasMore a c
  more_than a b c h g = record { facts = λ f k. g.facts f (h.facts f k); small = λ s. g.small (h.small s); named = λ n. g.named (h.named n) }

  pub fact_more : (f : Fact) (facts : Known) → NamesIntegers frame f → HasMore facts (with_fact f facts)
  fact_more f facts names = by (fits facts.vars f) refl
    where
      by : (b : Bool) → fits facts.vars f ≡ b → HasMore facts (if b then record facts { list = facts.list ++ f ∷ [] } else facts)
      by true e =
          let a = and_cases (nat_lt f.x facts.vars) (nat_lt f.y facts.vars && is_within (2 ^ 50) f.c) e in
          let b = and_cases (nat_lt f.y facts.vars) (is_within (2 ^ 50) f.c) a.1 in
          record {
            facts = λ g c. Contains-append_left facts.list (f ∷ []) g c;
            small = λ s. All-push (λ (g : Fact). is_within (2 ^ 50) g.c ≡ true) facts.list f s b.1;
            named = λ n. All-push (NamesIntegers frame) facts.list f n names;
          }
      by false e = no_more facts

  pub range_more : (x : ℕ) (r : Option Interval) (facts : Known) → IfSome r (λ i. IsInteger frame x) → HasMore facts (with_range x r facts)
  range_more x None facts i = no_more facts
  range_more x (Some r) facts i =
      let f : Fact = record { x = x; y = 0; c = pos r.high } in
      let g : Fact = record { x = 0; y = x; c = neg_ℤ r.low } in
      more_than facts (with_fact f facts) (with_fact g (with_fact f facts)) (fact_more f facts (i, tt)) (fact_more g (with_fact f facts) (tt, i))

  ranged : (x : ℕ) (t : CType) → (is_integer t ≡ true → IsInteger frame x) → IfSome (range_of t) (λ i. IsInteger frame x)
  ranged x t h = by (range_of t) (range_integer t)
    where
      by : (r : Option Interval) → IfSome r (λ i. is_integer t ≡ true) → IfSome r (λ i. IsInteger frame x)
      by None i = tt
      by (Some r) i = h i

  ranges_more : (x : ℕ) (ls : List Local) (facts : Known) → ((i : ℕ) (l : Local) → slice_get ls i ≡ Some l → is_integer l.ctype ≡ true → IsInteger frame (x + i))
      → HasMore facts (ranges_from x ls facts)
  ranges_more x [] facts are = no_more facts
  ranges_more x (l ∷ ls) facts are =
      let next : Known = with_range x (range_of l.ctype) facts in
      more_than facts next (ranges_from (x + 1) ls next)
      (range_more x (range_of l.ctype) facts (ranged x l.ctype (λ e. subst (IsInteger frame) (omega arith) (are 0 l refl e))))
      (ranges_more (x + 1) ls next (λ i m there e. subst (IsInteger frame) (omega arith) (are (suc i) m there e)))

  -- the ranges of types
  entry_more : HasMore (record { vars = length frame.locals + 1; list = [] }) (ranges frame)
  entry_more = ranges_more 1 frame.locals (record { vars = length frame.locals + 1; list = [] })
      (λ i l there e. subst (IsInteger frame) (omega arith) (integer_at frame i l there e))

  pub entry_small : AreSmall (ranges frame)
  entry_small = entry_more.small (All-nil (λ (f : Fact). is_within (2 ^ 50) f.c ≡ true))

  pub entry_named : AreNamed frame (ranges frame)
  entry_named = entry_more.named (All-nil (NamesIntegers frame))

  most_more : (x y : Form) (facts : Known) → IsInteger frame x.var → IsInteger frame y.var → HasMore facts (with_most x y facts)
  most_more x y facts i j = by (is_small x.add && is_small y.add)
    where
      by : (b : Bool) → HasMore facts (if b then with_fact (at_most x y) facts else facts)
      by true = fact_more (at_most x y) facts (i, j)
      by false = no_more facts

  less_more : (x y : Form) (facts : Known) → IsInteger frame x.var → IsInteger frame y.var → HasMore facts (with_less x y facts)
  less_more x y facts i j = by (is_small x.add && is_small y.add)
    where
      by : (b : Bool) → HasMore facts (if b then with_fact (at_less x y) facts else facts)
      by true = fact_more (at_less x y) facts (i, j)
      by false = no_more facts

  said_more : (o : TreeOp) (x y : Form) (facts : Known) → IsInteger frame x.var → IsInteger frame y.var → HasMore facts (said o x y facts)
  said_more op.Lt x y facts i j = less_more x y facts i j
  said_more op.Le x y facts i j = most_more x y facts i j
  said_more op.Gt x y facts i j = less_more y x facts j i
  said_more op.Ge x y facts i j = most_more y x facts j i
  said_more op.Eq x y facts i j = more_than facts (with_most x y facts) (with_most y x (with_most x y facts)) (most_more x y facts i j) (most_more y x (with_most x y facts) j i)
  said_more o x y facts i j = no_more facts

  -- ---- more at a point

  -- All that is known at the first point is known at the second.
  pub record Adds (at after : State) : Type 0 where
    pub reached : after.reached ≡ at.reached
    pub more : HasMore at.facts after.facts
    pub widened : (k : ℕ) → Contains at.widened k → Contains after.widened k

  pub adds_none : (at : State) → Adds at at
  adds_none at = record { reached = refl; more = no_more at.facts; widened = λ k c. c }

  adds_through : (a b c : State) → Adds a b → Adds b c → Adds a c
  adds_through a b c h g = record {
    reached = g.reached ∙ h.reached;
    more = more_than a.facts b.facts c.facts h.more g.more;
    widened = λ k d. g.widened k (h.widened k d);
  }

  narrowed_adds : (at after : State) → Adds at after → Adds at (narrowed at after)
  narrowed_adds at after h = record { reached = h.reached; more = h.more; widened = λ k c. c }

  abbrev pub SidesAdd : (Bool → State → State) → Type 0
  SidesAdd side = (b : Bool) (at : State) → Adds at (side b at)

  wider_adds : (o : Option ℕ) (at : State) → Adds at (wider o at)
  wider_adds None at = adds_none at
  wider_adds (Some k) at = by at.reached refl
    where
      by : (b : Bool) → at.reached ≡ b → Adds at (if b then record at { widened = at.widened ++ k ∷ [] } else at)
      by true e = record { reached = refl; more = no_more at.facts; widened = λ p c. Contains-append_left at.widened (k ∷ []) p c }
      by false e = adds_none at

  widening_adds : (behind : Option Kind) (target : Known → Option Form) → SidesAdd (widening_side frame behind target)
  widening_adds behind target true at = wider_adds (widened_by frame (read_place behind (target at.facts))) at
  widening_adds behind target false at = adds_none at

  nonzero_adds : (o : TreeOp) (e f : View) → SidesAdd (nonzero_side frame o e f)
  nonzero_adds op.Ne e f side at = by f.is_zero
    where
      by : (b : Bool) → Adds at (if b then widening_side frame e.behind (e.target 0) side at else at)
      by true = widening_adds e.behind (e.target 0) side at
      by false = adds_none at
  nonzero_adds o e f side at = adds_none at

  operands_add : (o : TreeOp) (e f : View) (side : Bool) (x y : Option Form) (at : State) → NamesInteger frame x → NamesInteger frame y → Adds at (by_operands frame o e f side x y at)
  operands_add o e f side (Some x) (Some y) at i j = by at.reached refl
    where
      by : (b : Bool) → at.reached ≡ b → Adds at (if b then record at { facts = said (holding o side) x y at.facts } else at)
      by true r = record { reached = refl; more = said_more (holding o side) x y at.facts i j; widened = λ k c. c }
      by false r = adds_none at
  operands_add o e f side (Some x) None at i j = nonzero_adds o e f side at
  operands_add o e f side None y at i j = nonzero_adds o e f side at

  comparison_adds : (o : TreeOp) (e f : View) → NamesInteger frame e.variable → NamesInteger frame f.variable → SidesAdd (comparison_side frame o e f)
  comparison_adds o e f i j side at = by (is_comparison o)
    where
      by : (b : Bool) → Adds at (if b then by_operands frame o e f side (operand (compares_unsigned e f) e) (operand (compares_unsigned e f) f) at else at)
      by true =
          operands_add o e f side (operand (compares_unsigned e f) e) (operand (compares_unsigned e f) f) at
          (operand_named frame (compares_unsigned e f) e i) (operand_named frame (compares_unsigned e f) f j)
      by false = adds_none at

  binary_adds : (o : TreeOp) (e f : View) → NamesInteger frame e.variable → NamesInteger frame f.variable → SidesAdd e.side → SidesAdd f.side → SidesAdd (binary_side frame o e f)
  binary_adds op.AndThen e f i j h g true at = adds_through at (e.side true at) (f.side true (e.side true at)) (h true at) (g true (e.side true at))
  binary_adds op.AndThen e f i j h g false at = adds_none at
  binary_adds op.OrElse e f i j h g true at = adds_none at
  binary_adds op.OrElse e f i j h g false at =
      narrowed_adds at (f.side false (narrowed at (e.side false at)))
      (adds_through at (narrowed at (e.side false at)) (f.side false (narrowed at (e.side false at))) (narrowed_adds at (e.side false at) (h false at)) (g false (narrowed at (e.side false at))))
  binary_adds o e f i j h g side at = comparison_adds o e f i j side at

  -- ---- the induction

  record AnyLimits (l : NotedLimits) : Type 0 where
    pub any : Unit {0}

  record NodeAdds (n : NotedNode) : Type 0 where
    pub sides : SidesAdd (view_of_node frame n).side

  record ExprAdds (e : NotedExpr) : Type 0 where
    pub sides : SidesAdd (view frame e).side

  abbrev KeptLimits : Type 0
  KeptLimits = (l : NotedLimits) × AnyLimits l

  abbrev KeptNode : Type 0
  KeptNode = (n : NotedNode) × NodeAdds n

  abbrev KeptExpr : Type 0
  KeptExpr = (e : NotedExpr) × ExprAdds e

  abbrev inner_limits : Limits-F Name Note KeptLimits KeptNode KeptExpr → Limits-F Name Note NotedLimits NotedNode NotedExpr
  inner_limits = map-Limits Name Note KeptLimits KeptNode KeptExpr NotedLimits NotedNode NotedExpr (λ e. e.0) (λ e. e.0) (λ e. e.0)

  abbrev inner_node : Node-F Name Note KeptLimits KeptNode KeptExpr → NotedLayer
  inner_node = map-Node Name Note KeptLimits KeptNode KeptExpr NotedLimits NotedNode NotedExpr (λ e. e.0) (λ e. e.0) (λ e. e.0)

  abbrev inner_expr : Expr-F Name Note KeptLimits KeptNode KeptExpr → Expr-F Name Note NotedLimits NotedNode NotedExpr
  inner_expr = map-Expr Name Note KeptLimits KeptNode KeptExpr NotedLimits NotedNode NotedExpr (λ e. e.0) (λ e. e.0) (λ e. e.0)

  abbrev viewed_node : NotedLayer → NodeOfViews
  viewed_node = map-Node Name Note NotedLimits NotedNode NotedExpr LimitsView NodeView View (view_of_limits frame) (view_of_node frame) (view frame)

  abbrev viewed_expr : Expr-F Name Note NotedLimits NotedNode NotedExpr → Expr-F Name Note LimitsView NodeView View
  viewed_expr = map-Expr Name Note NotedLimits NotedNode NotedExpr LimitsView NodeView View (view_of_limits frame) (view_of_node frame) (view frame)

  node_step : (y : Node-F Name Note KeptLimits KeptNode KeptExpr) → SidesAdd (side_of_node frame (viewed_node (inner_node y)))
  node_step (Node-F.Un op.Not e) = λ side at. e.1.sides (not side) at
  node_step (Node-F.Bin o e f) = binary_adds o (view frame e.0) (view frame f.0) (variable_named frame e.0) (variable_named frame f.0) e.1.sides f.1.sides
  node_step y = widening_adds (behind_node (viewed_node (inner_node y))) (target_of_node (viewed_node (inner_node y)) 0)

  limits_by : (x : Limits-F Name Note NotedLimits NotedNode NotedExpr) (y : Limits-F Name Note KeptLimits KeptNode KeptExpr) → inner_limits y ≡ x → AnyLimits (roll-Limits Name Note x)
  limits_by x y is = record { any = tt }

  node_by : (x : NotedLayer) (y : Node-F Name Note KeptLimits KeptNode KeptExpr) → inner_node y ≡ x → NodeAdds (roll-Node Name Note x)
  node_by x y is = record {
    sides = subst (λ (n : NodeView). SidesAdd n.side)
        (sym (fold-roll-Node Name Note LimitsView NodeView View limits_view (node_view frame) expr_view x ∙ ap (λ z. node_view frame (viewed_node z)) (sym is)))
        (node_step y);
  }

  expr_by : (x : Expr-F Name Note NotedLimits NotedNode NotedExpr) (y : Expr-F Name Note KeptLimits KeptNode KeptExpr) → inner_expr y ≡ x → ExprAdds (roll-Expr Name Note x)
  expr_by x y is = record {
    sides = subst (λ (v : View). SidesAdd v.side)
        (sym (fold-roll-Expr Name Note LimitsView NodeView View limits_view (node_view frame) expr_view x ∙ ap (λ z. expr_view (viewed_expr z)) (sym is)))
        y.node.1.sides;
  }

  all_add : (e : NotedExpr) → ExprAdds e
  all_add = ind-Expr Name Note AnyLimits NodeAdds ExprAdds limits_by node_by expr_by

  -- A side of a condition has all that is known at its point.
  pub side_adds : (e : NotedExpr) → SidesAdd (view frame e).side
  side_adds e = (all_add e).sides
