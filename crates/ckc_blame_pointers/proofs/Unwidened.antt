-- What is widened at a point says nothing of the fresh variables that expressions need there, which are at most so many.
use Rattle.std.proofs.Common.{◌≡◌, refl, sym, ap, subst, ◌∙◌, ℕ, Bool, true, false, List, [], ◌∷◌, ◌++◌, length, length-append, map, arith}
use Rattle.std.specs.Prelude.{◌+◌, ◌==◌, ◌<◌, ◌≤◌, ◌^◌, not, if◌then◌else◌, is_some, Option, None, Some}
use Rattle.std.proofs.lemmas.Bool.{eqb-true}
use Rattle.ckc_types.specs.declared.types.Kind.{Kind}
use Rattle.ckc_types.specs.declared.types.CType.{CType}
use Rattle.ckc_linear.specs.declared.forms.Form.{Form}
use Rattle.ckc_syntax.specs.declared.tree.Name.{Name}
use Rattle.ckc_syntax.specs.declared.tree.TreeOp.{TreeOp}
use Rattle.ckc_syntax.specs.declared.tree.TreeOp.TheVariants as op
use Rattle.ckc_syntax.specs.declared.tree.Limits.{Limits-F, map-Limits, roll-Limits, fold-roll-Limits}
use Rattle.ckc_syntax.specs.declared.tree.Node.{Node-F, map-Node, ind-Node, roll-Node, fold-roll-Node}
use Rattle.ckc_syntax.specs.declared.tree.Expr.{Expr-F, map-Expr, ind-Expr, roll-Expr, fold-roll-Expr}
use Rattle.ckc_typed.specs.declared.typed.Note.{Note}
use Rattle.ckc_typed.specs.Trees.{NotedLimits, NotedNode, NotedExpr, NotedLayer}
use Rattle.ckc_blame_sound.specs.ckc_bounds_points.specs.declared.frame.Frame.{Frame}
use Rattle.ckc_blame_sound.specs.ckc_bounds_points.specs.Shown.{Known}
use Rattle.ckc_blame_sound.specs.ckc_bounds_points.specs.Flow.{State}
use Rattle.ckc_blame_sound.specs.ckc_bounds_views.specs.Parts.{LimitsView, NodeView, View, NodeOfViews, LimitsOfViews, capped, with_last}
use Rattle.ckc_blame_sound.specs.ckc_bounds_views.specs.Conditions.{behind_node, wider, widened_by, read_place, widening_side, said, holding, is_comparison, operand, compares_unsigned, nonzero_side, by_operands, narrowed, right_point, binary_side, side_of_node}
use Rattle.ckc_blame_sound.specs.ckc_bounds_views.specs.Places.{target_of_node}
use Rattle.ckc_blame_sound.specs.ckc_bounds_views.specs.Fresh.{own_fresh, most_of_node, most_after, most_there, with_own_most, fresh_there, all_fresh, right_fresh, fresh_of_node}
use Rattle.ckc_blame_sound.specs.ckc_bounds_views.specs.Views.{limits_most, limits_fresh, limits_view, node_view, expr_view, view_of_limits, view_of_node, view}

-- points at which the same facts hold, and which can both be reached or both not
pub record IsSamePoint (a b : State) : Type 0 where
  pub reached : a.reached ≡ b.reached
  pub facts : a.facts ≡ b.facts

same_itself : (a : State) → IsSamePoint a a
same_itself a = record { reached = refl; facts = refl }

-- ---- sides

module _ (frame : Frame) (a b : State) (same : IsSamePoint a b) where
  wider_same : (o p : Option ℕ) → IsSamePoint (wider o a) (wider p b)
  wider_same o p = record { reached = reached o a ∙ same.reached ∙ sym (reached p b); facts = facts o a ∙ same.facts ∙ sym (facts p b) }
    where
      reached : (o : Option ℕ) (at : State) → (wider o at).reached ≡ at.reached
      reached None at = refl
      reached (Some k) at = by at.reached
        where
          by : (b : Bool) → (if b then record at { widened = at.widened ++ k ∷ [] } else at).reached ≡ at.reached
          by true = refl
          by false = refl

      facts : (o : Option ℕ) (at : State) → (wider o at).facts ≡ at.facts
      facts None at = refl
      facts (Some k) at = by at.reached
        where
          by : (b : Bool) → (if b then record at { widened = at.widened ++ k ∷ [] } else at).facts ≡ at.facts
          by true = refl
          by false = refl

  widening_same : (behind : Option Kind) (target : Known → Option Form) (side : Bool) → IsSamePoint (widening_side frame behind target side a) (widening_side frame behind target side b)
  widening_same behind target true = wider_same (widened_by frame (read_place behind (target a.facts))) (widened_by frame (read_place behind (target b.facts)))
  widening_same behind target false = same

  nonzero_same : (o : TreeOp) (e f : View) (side : Bool) → IsSamePoint (nonzero_side frame o e f side a) (nonzero_side frame o e f side b)
  nonzero_same op.Ne e f side = by f.is_zero
    where
      by : (c : Bool) → IsSamePoint (if c then widening_side frame e.behind (e.target 0) side a else a) (if c then widening_side frame e.behind (e.target 0) side b else b)
      by true = widening_same e.behind (e.target 0) side
      by false = same
  nonzero_same o e f side = same

  operands_same : (o : TreeOp) (e f : View) (side : Bool) (x y : Option Form) → IsSamePoint (by_operands frame o e f side x y a) (by_operands frame o e f side x y b)
  operands_same o e f side None y = nonzero_same o e f side
  operands_same o e f side (Some x) None = nonzero_same o e f side
  operands_same o e f side (Some x) (Some y) = by a.reached b.reached same.reached
    where
      by : (c d : Bool) → c ≡ d → IsSamePoint (if c then record a { facts = said (holding o side) x y a.facts } else a) (if d then record b { facts = said (holding o side) x y b.facts } else b)
      by true true e = record { reached = same.reached; facts = ap (said (holding o side) x y) same.facts }
      by true false e = absurd (cc)
      by false true e = absurd (cc)
      by false false e = same

  compared_same : (o : TreeOp) (e f : View) (side c : Bool)
      → IsSamePoint (if c then by_operands frame o e f side (operand (compares_unsigned e f) e) (operand (compares_unsigned e f) f) a else a)
      (if c then by_operands frame o e f side (operand (compares_unsigned e f) e) (operand (compares_unsigned e f) f) b else b)
  compared_same o e f side true = operands_same o e f side (operand (compares_unsigned e f) e) (operand (compares_unsigned e f) f)
  compared_same o e f side false = same

-- ---- how many fresh variables there are

-- Fresh variables are at most so many, as far as a word counts.
abbrev AreFew : List CType → ℕ → Type 0
AreFew ts n = capped 0 (length ts) ≤ n

both_few : (xs ys : List CType) (m n : ℕ) → AreFew xs m → AreFew ys n → AreFew (xs ++ ys) (capped m n)
both_few xs ys m n a b = omega (arith, a, b, length-append xs ys)

few_none : (n : ℕ) → AreFew [] n
few_none n = omega arith

few_empty : (ts : List CType) → AreFew ts 0 → ts ≡ []
few_empty [] h = refl
few_empty (t ∷ ts) h = absurd (impossible (length (t ∷ ts)) (omega arith) h)
  where
    impossible : (n : ℕ) → 0 < n → capped 0 n ≤ 0 → ⊥
    impossible n some h = absurd (omega arith)

-- ---- expressions

module _ (frame : Frame) where
  record LimitsHold (l : NotedLimits) : Type 0 where
    pub fresh : (a b : State) → IsSamePoint a b → (view_of_limits frame l).fresh a ≡ (view_of_limits frame l).fresh b
    pub few : (at : State) → AreFew ((view_of_limits frame l).fresh at) (view_of_limits frame l).most_fresh

  pub record NodeHolds (n : NodeView) : Type 0 where
    pub fresh : (a b : State) → IsSamePoint a b → n.fresh a ≡ n.fresh b
    pub side : (b : Bool) (x y : State) → IsSamePoint x y → IsSamePoint (n.side b x) (n.side b y)
    pub few : (at : State) → AreFew (n.fresh at) n.most_fresh

  record InnerHolds (n : NotedNode) : Type 0 where
    pub holds : NodeHolds (view_of_node frame n)

  pub record ExprHolds (e : NotedExpr) : Type 0 where
    pub fresh : (a b : State) → IsSamePoint a b → (view frame e).fresh a ≡ (view frame e).fresh b
    pub side : (b : Bool) (x y : State) → IsSamePoint x y → IsSamePoint ((view frame e).side b x) ((view frame e).side b y)
    pub few : (at : State) → AreFew ((view frame e).fresh at) (view frame e).most_fresh

  abbrev KeptLimits : Type 0
  KeptLimits = (l : NotedLimits) × LimitsHold l

  abbrev KeptNode : Type 0
  KeptNode = (n : NotedNode) × InnerHolds n

  abbrev KeptExpr : Type 0
  KeptExpr = (e : NotedExpr) × ExprHolds e

  abbrev inner_node : Node-F Name Note KeptLimits KeptNode KeptExpr → NotedLayer
  inner_node = map-Node Name Note KeptLimits KeptNode KeptExpr NotedLimits NotedNode NotedExpr (λ e. e.0) (λ e. e.0) (λ e. e.0)

  abbrev inner_limits : Limits-F Name Note KeptLimits KeptNode KeptExpr → Limits-F Name Note NotedLimits NotedNode NotedExpr
  inner_limits = map-Limits Name Note KeptLimits KeptNode KeptExpr NotedLimits NotedNode NotedExpr (λ e. e.0) (λ e. e.0) (λ e. e.0)

  abbrev inner_expr : Expr-F Name Note KeptLimits KeptNode KeptExpr → Expr-F Name Note NotedLimits NotedNode NotedExpr
  inner_expr = map-Expr Name Note KeptLimits KeptNode KeptExpr NotedLimits NotedNode NotedExpr (λ e. e.0) (λ e. e.0) (λ e. e.0)

  abbrev viewed_node : NotedLayer → NodeOfViews
  viewed_node = map-Node Name Note NotedLimits NotedNode NotedExpr LimitsView NodeView View (view_of_limits frame) (view_of_node frame) (view frame)

  abbrev viewed_limits : Limits-F Name Note NotedLimits NotedNode NotedExpr → LimitsOfViews
  viewed_limits = map-Limits Name Note NotedLimits NotedNode NotedExpr LimitsView NodeView View (view_of_limits frame) (view_of_node frame) (view frame)

  abbrev viewed_expr : Expr-F Name Note NotedLimits NotedNode NotedExpr → Expr-F Name Note LimitsView NodeView View
  viewed_expr = map-Expr Name Note NotedLimits NotedNode NotedExpr LimitsView NodeView View (view_of_limits frame) (view_of_node frame) (view frame)

  -- ---- operands

  right_same : (o : TreeOp) (e : KeptExpr) (a b : State) → IsSamePoint a b → IsSamePoint (right_point o (view frame e.0) a) (right_point o (view frame e.0) b)
  right_same op.AndThen e a b s = e.1.side true a b s
  right_same op.OrElse e a b s = let t = e.1.side false a b s in record { reached = t.reached; facts = t.facts }
  right_same o e a b s = s

  right_fresh_same : (o : TreeOp) (e f : KeptExpr) (a b : State) → IsSamePoint a b → right_fresh o (view frame e.0) (view frame f.0) a ≡ right_fresh o (view frame e.0) (view frame f.0) b
  right_fresh_same o e f a b s = ap (λ xs. if (view frame f.0).most_fresh == 0 then [] else xs) (f.1.fresh (right_point o (view frame e.0) a) (right_point o (view frame e.0) b) (right_same o e a b s))

  -- what is left out for a right operand that needs no fresh variable is nothing
  right_none : (o : TreeOp) (e : View) (f : KeptExpr) (at : State) → right_fresh o e (view frame f.0) at ≡ (view frame f.0).fresh (right_point o e at)
  right_none o e f at = by ((view frame f.0).most_fresh == 0) refl
    where
      by : (b : Bool) → ((view frame f.0).most_fresh == 0) ≡ b → (if b then [] else (view frame f.0).fresh (right_point o e at)) ≡ (view frame f.0).fresh (right_point o e at)
      by true z =
          sym (few_empty ((view frame f.0).fresh (right_point o e at)) (subst (λ n. AreFew ((view frame f.0).fresh (right_point o e at)) n) (eqb-true (view frame f.0).most_fresh 0 z) (f.1.few (right_point o e at))))
      by false z = refl

  binary_same : (o : TreeOp) (e f : KeptExpr) (side : Bool) (a b : State) → IsSamePoint a b → IsSamePoint (binary_side frame o (view frame e.0) (view frame f.0) side a) (binary_side frame o (view frame e.0) (view frame f.0) side b)
  binary_same op.AndThen e f true a b s = f.1.side true ((view frame e.0).side true a) ((view frame e.0).side true b) (e.1.side true a b s)
  binary_same op.AndThen e f false a b s = s
  binary_same op.OrElse e f true a b s = s
  binary_same op.OrElse e f false a b s =
      let t = e.1.side false a b s in
      let u = f.1.side false (narrowed a ((view frame e.0).side false a)) (narrowed b ((view frame e.0).side false b)) (record { reached = t.reached; facts = t.facts }) in
      record { reached = u.reached; facts = u.facts }
  binary_same o e f side a b s = compared_same frame a b s o (view frame e.0) (view frame f.0) side (is_comparison o)

  -- ---- lists and limits

  all_same : (es : List KeptExpr) (a b : State) → IsSamePoint a b → all_fresh (map (view frame) (map (λ (e : KeptExpr). e.0) es)) a ≡ all_fresh (map (view frame) (map (λ (e : KeptExpr). e.0) es)) b
  all_same [] a b s = refl
  all_same (e ∷ es) a b s = let p = e.1.fresh a b s in let q = all_same es a b s in cc

  all_few : (es : List KeptExpr) (at : State) (m n : ℕ) → m ≤ n → capped m (length (all_fresh (map (view frame) (map (λ (e : KeptExpr). e.0) es)) at)) ≤ most_after n (map (view frame) (map (λ (e : KeptExpr). e.0) es))
  all_few [] at m n h = omega arith
  all_few (e ∷ es) at m n h =
      subst (λ k. k ≤ most_after (capped n (view frame e.0).most_fresh) (map (view frame) (map (λ (e : KeptExpr). e.0) es)))
      (split m (length ((view frame e.0).fresh at)) (length rest) (length ((view frame e.0).fresh at ++ rest)) (length-append ((view frame e.0).fresh at) rest))
      (all_few es at (capped m (length ((view frame e.0).fresh at))) (capped n (view frame e.0).most_fresh) (more (length ((view frame e.0).fresh at)) (view frame e.0).most_fresh (e.1.few at)))
    where
      rest : List CType
      rest = all_fresh (map (view frame) (map (λ (e : KeptExpr). e.0) es)) at

      split : (m a b c : ℕ) → c ≡ a + b → capped (capped m a) b ≡ capped m c
      split m a b c e = omega arith

      more : (a k : ℕ) → capped 0 a ≤ k → capped m a ≤ capped n k
      more a k l = omega arith

  abbrev there : Option KeptLimits → Option LimitsView
  there None = None
  there (Some l) = Some (view_of_limits frame l.0)

  there_same : (l : Option KeptLimits) (a b : State) → IsSamePoint a b → fresh_there (there l) a ≡ fresh_there (there l) b
  there_same None a b s = refl
  there_same (Some l) a b s = l.1.fresh a b s

  there_few : (l : Option KeptLimits) (at : State) → AreFew (fresh_there (there l) at) (most_there (there l))
  there_few None at = few_none 0
  there_few (Some l) at = l.1.few at

  limits_step : (y : Limits-F Name Note KeptLimits KeptNode KeptExpr) → ((a b : State) → IsSamePoint a b → limits_fresh (viewed_limits (inner_limits y)) a ≡ limits_fresh (viewed_limits (inner_limits y)) b)
      × ((at : State) → AreFew (limits_fresh (viewed_limits (inner_limits y)) at) (limits_most (viewed_limits (inner_limits y))))
  limits_step (Limits-F.Count e pos) = (e.1.fresh, e.1.few)
  limits_step (Limits-F.ByteCount e pos) = (e.1.fresh, e.1.few)
  limits_step (Limits-F.Between e f pos) = (
    λ a b s. let p = e.1.fresh a b s in let q = f.1.fresh a b s in cc,
    λ at. both_few ((view frame e.0).fresh at) ((view frame f.0).fresh at) (view frame e.0).most_fresh (view frame f.0).most_fresh (e.1.few at) (f.1.few at),
  )
  limits_step (Limits-F.Unknown pos) = (λ a b s. refl, λ at. few_none 0)

  -- ---- nodes

  fresh_step : (y : Node-F Name Note KeptLimits KeptNode KeptExpr) (a b : State) → IsSamePoint a b → fresh_of_node (viewed_node (inner_node y)) a ≡ fresh_of_node (viewed_node (inner_node y)) b
  fresh_step (Node-F.Un o e) a b s = e.1.fresh a b s
  fresh_step (Node-F.Bin o e f) a b s = let p = e.1.fresh a b s in let q = right_fresh_same o e f a b s in cc
  fresh_step (Node-F.Pick e f g) a b s = let p = e.1.fresh a b s in let q = f.1.fresh a b s in let r = g.1.fresh a b s in cc
  fresh_step (Node-F.Index e f) a b s = let p = e.1.fresh a b s in let q = f.1.fresh a b s in cc
  fresh_step (Node-F.Dot e n spot) a b s = e.1.fresh a b s
  fresh_step (Node-F.Arrow e n spot) a b s = e.1.fresh a b s
  fresh_step (Node-F.Cast w e) a b s = e.1.fresh a b s
  fresh_step (Node-F.Trusted w e None) a b s = ap (λ xs. xs ++ []) (e.1.fresh a b s)
  fresh_step (Node-F.Trusted w e (Some l)) a b s = let p = e.1.fresh a b s in let q = l.1.fresh a b s in cc
  fresh_step (Node-F.Tested w e None) a b s = ap (λ xs. xs ++ []) (e.1.fresh a b s)
  fresh_step (Node-F.Tested w e (Some l)) a b s = let p = e.1.fresh a b s in let q = l.1.fresh a b s in cc
  fresh_step (Node-F.Call n es) a b s = all_same es a b s
  fresh_step (Node-F.Calloc w e x) a b s = e.1.fresh a b s
  fresh_step y a b s = refl

  few_step : (y : Node-F Name Note KeptLimits KeptNode KeptExpr) (at : State) → AreFew (fresh_of_node (viewed_node (inner_node y)) at) (most_of_node (viewed_node (inner_node y)))
  few_step (Node-F.Un o e) at = e.1.few at
  few_step (Node-F.Bin o e f) at =
      both_few ((view frame e.0).fresh at) (right_fresh o (view frame e.0) (view frame f.0) at) (view frame e.0).most_fresh (view frame f.0).most_fresh (e.1.few at)
      (subst (λ ts. AreFew ts (view frame f.0).most_fresh) (sym (right_none o (view frame e.0) f at)) (f.1.few (right_point o (view frame e.0) at)))
  few_step (Node-F.Pick e f g) at =
      both_few ((view frame e.0).fresh at ++ (view frame f.0).fresh at) ((view frame g.0).fresh at) (capped (view frame e.0).most_fresh (view frame f.0).most_fresh) (view frame g.0).most_fresh
      (both_few ((view frame e.0).fresh at) ((view frame f.0).fresh at) (view frame e.0).most_fresh (view frame f.0).most_fresh (e.1.few at) (f.1.few at)) (g.1.few at)
  few_step (Node-F.Index e f) at = both_few ((view frame e.0).fresh at) ((view frame f.0).fresh at) (view frame e.0).most_fresh (view frame f.0).most_fresh (e.1.few at) (f.1.few at)
  few_step (Node-F.Dot e n spot) at = e.1.few at
  few_step (Node-F.Arrow e n spot) at = e.1.few at
  few_step (Node-F.Cast w e) at = e.1.few at
  few_step (Node-F.Trusted w e None) at = both_few ((view frame e.0).fresh at) [] (view frame e.0).most_fresh 0 (e.1.few at) (few_none 0)
  few_step (Node-F.Trusted w e (Some l)) at = both_few ((view frame e.0).fresh at) ((view_of_limits frame l.0).fresh at) (view frame e.0).most_fresh (view_of_limits frame l.0).most_fresh (e.1.few at) (l.1.few at)
  few_step (Node-F.Tested w e None) at = both_few ((view frame e.0).fresh at) [] (view frame e.0).most_fresh 0 (e.1.few at) (few_none 0)
  few_step (Node-F.Tested w e (Some l)) at = both_few ((view frame e.0).fresh at) ((view_of_limits frame l.0).fresh at) (view frame e.0).most_fresh (view_of_limits frame l.0).most_fresh (e.1.few at) (l.1.few at)
  few_step (Node-F.Call n es) at = all_few es at 0 0 (omega arith)
  few_step (Node-F.Calloc w e x) at = e.1.few at
  few_step y at = few_none 0

  side_step : (y : Node-F Name Note KeptLimits KeptNode KeptExpr) (b : Bool) (x z : State) → IsSamePoint x z → IsSamePoint (side_of_node frame (viewed_node (inner_node y)) b x) (side_of_node frame (viewed_node (inner_node y)) b z)
  side_step (Node-F.Un op.Not e) b x z s = e.1.side (not b) x z s
  side_step (Node-F.Bin o e f) b x z s = binary_same o e f b x z s
  side_step y b x z s = widening_same frame x z s (behind_node (viewed_node (inner_node y))) (target_of_node (viewed_node (inner_node y)) 0) b

  -- ---- the induction

  node_holds : (y : Node-F Name Note KeptLimits KeptNode KeptExpr) → NodeHolds (node_view frame (viewed_node (inner_node y)))
  node_holds y = record { fresh = fresh_step y; side = side_step y; few = few_step y }

  limits_by : (x : Limits-F Name Note NotedLimits NotedNode NotedExpr) (y : Limits-F Name Note KeptLimits KeptNode KeptExpr) → inner_limits y ≡ x → LimitsHold (roll-Limits Name Note x)
  limits_by x y is = subst (λ x. LimitsHold (roll-Limits Name Note x)) is (record { fresh = (held y).0; few = (held y).1 })
    where
      held : (y : Limits-F Name Note KeptLimits KeptNode KeptExpr)
          → ((a b : State) → IsSamePoint a b → (view_of_limits frame (roll-Limits Name Note (inner_limits y))).fresh a ≡ (view_of_limits frame (roll-Limits Name Note (inner_limits y))).fresh b)
          × ((at : State) → AreFew ((view_of_limits frame (roll-Limits Name Note (inner_limits y))).fresh at) (view_of_limits frame (roll-Limits Name Note (inner_limits y))).most_fresh)
      held y = subst (λ (l : LimitsView). ((a b : State) → IsSamePoint a b → l.fresh a ≡ l.fresh b) × ((at : State) → AreFew (l.fresh at) l.most_fresh))
          (sym (fold-roll-Limits Name Note LimitsView NodeView View limits_view (node_view frame) expr_view (inner_limits y))) (limits_step y)

  node_by : (x : NotedLayer) (y : Node-F Name Note KeptLimits KeptNode KeptExpr) → inner_node y ≡ x → InnerHolds (roll-Node Name Note x)
  node_by x y is = subst (λ x. InnerHolds (roll-Node Name Note x)) is
      (record { holds = subst NodeHolds (sym (fold-roll-Node Name Note LimitsView NodeView View limits_view (node_view frame) expr_view (inner_node y))) (node_holds y) })

  abbrev ViewHolds : View → Type 0
  ViewHolds v = ((a b : State) → IsSamePoint a b → v.fresh a ≡ v.fresh b) × ((b : Bool) (x y : State) → IsSamePoint x y → IsSamePoint (v.side b x) (v.side b y)) × ((at : State) → AreFew (v.fresh at) v.most_fresh)

  expr_holds : (note : Note) (n : NodeView) → NodeHolds n → ((a b : State) → IsSamePoint a b → with_last (n.fresh a) (own_fresh note.ctype n a.facts) ≡ with_last (n.fresh b) (own_fresh note.ctype n b.facts))
      × ((at : State) → AreFew (with_last (n.fresh at) (own_fresh note.ctype n at.facts)) (with_own_most note.ctype n))
  expr_holds note n h = (λ a b s. let p = h.fresh a b s in let q = s.facts in cc, λ at. few at (n.may_need note.ctype) (n.has_form note.ctype at.facts))
    where
      few : (at : State) (o : Option CType) (b : Bool) → AreFew (with_last (n.fresh at) (if b then None else o)) (if is_some o then capped n.most_fresh 1 else n.most_fresh)
      few at None true = h.few at
      few at None false = h.few at
      few at (Some t) true = fewer (length (n.fresh at)) (h.few at)
        where
          fewer : (k : ℕ) → capped 0 k ≤ n.most_fresh → capped 0 k ≤ capped n.most_fresh 1
          fewer k l = omega arith
      few at (Some t) false = both_few (n.fresh at) (t ∷ []) n.most_fresh 1 (h.few at) (omega arith)

  expr_by : (x : Expr-F Name Note NotedLimits NotedNode NotedExpr) (y : Expr-F Name Note KeptLimits KeptNode KeptExpr) → inner_expr y ≡ x → ExprHolds (roll-Expr Name Note x)
  expr_by x y is = subst (λ x. ExprHolds (roll-Expr Name Note x)) is (record { fresh = all.0; side = all.1; few = all.2 })
    where
      all : ViewHolds (view frame (roll-Expr Name Note (inner_expr y)))
      all =
          let own = expr_holds y.note (view_of_node frame y.node.0) y.node.1.holds in
          subst ViewHolds (sym (fold-roll-Expr Name Note LimitsView NodeView View limits_view (node_view frame) expr_view (inner_expr y))) (own.0, y.node.1.holds.side, own.1)

  pub steady : (e : NotedExpr) → ExprHolds e
  steady = ind-Expr Name Note LimitsHold InnerHolds ExprHolds limits_by node_by expr_by

  steady_node : (n : NotedNode) → InnerHolds n
  steady_node = ind-Node Name Note LimitsHold InnerHolds ExprHolds limits_by node_by expr_by

  -- the fresh variables that a node needs, whatever is widened
  pub node_fresh_same : (n : NotedNode) (at : State) (widened : List ℕ) → (view_of_node frame n).fresh (record at { widened = widened }) ≡ (view_of_node frame n).fresh at
  node_fresh_same n at widened = (steady_node n).holds.fresh (record at { widened = widened }) at (record { reached = refl; facts = refl })

  -- and those that an expression needs
  pub fresh_same : (e : NotedExpr) (at : State) (widened : List ℕ) → (view frame e).fresh (record at { widened = widened }) ≡ (view frame e).fresh at
  fresh_same e at widened = (steady e).fresh (record at { widened = widened }) at (record { reached = refl; facts = refl })

  pub right_fresh_is : (o : TreeOp) (e : View) (f : NotedExpr) (at : State) → right_fresh o e (view frame f) at ≡ (view frame f).fresh (right_point o e at)
  right_fresh_is o e f at = right_none o e (f, steady f) at

  -- There are no more of them than it may need at most.
  pub fresh_few : (e : NotedExpr) (at : State) → (view frame e).most_fresh + 1 < 2 ^ 32 → length ((view frame e).fresh at) ≤ (view frame e).most_fresh
  fresh_few e at low = less (length ((view frame e).fresh at)) (view frame e).most_fresh low ((steady e).few at)
    where
      less : (k n : ℕ) → n + 1 < 2 ^ 32 → capped 0 k ≤ n → k ≤ n
      less k n low h = omega arith
