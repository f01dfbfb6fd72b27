-- Amounts and written bounds depend on no places and on no notes.
use Rattle.std.proofs.Common.{rules, ◌≡◌, ◌∙◌, sym, ap, subst, refl, true}
use Rattle.std.specs.Prelude.{ℤ, pos, if◌then◌else◌, Option, Some, None}
use Rattle.ckc_base.specs.Places.{start}
use Rattle.ckc_types.specs.declared.types.CType.{CType}
use Rattle.ckc_types.specs.declared.types.Structs.{Structs}
use Rattle.ckc_linear.specs.declared.forms.Form.{Form}
use Rattle.ckc_syntax.specs.declared.tree.Name.{Name}
use Rattle.ckc_syntax.specs.declared.tree.TreeOp.{TreeOp}
use Rattle.ckc_syntax.specs.declared.tree.TreeOp.TheVariants as op
use Rattle.ckc_syntax.specs.declared.tree.TypeTree.{TypeTree-F, map-TypeTree, ind-TypeTree, fold-roll-TypeTree}
use Rattle.ckc_syntax.specs.declared.tree.Limits.{Limits-F, map-Limits, out-Limits, roll-Limits, fold-Limits, fold_out-Limits, the_lemmas as limits_lemmas}
use Rattle.ckc_syntax.specs.declared.tree.Node.{Node-F, map-Node, out-Node, roll-Node, fold-roll-Node, fold_out-Node, the_lemmas as node_lemmas}
use Rattle.ckc_syntax.specs.declared.tree.Expr.{Expr-F, map-Expr, ind-Expr, roll-Expr, fold-roll-Expr}
use Rattle.ckc_syntax.specs.declared.tree.Limits as trees
use Rattle.ckc_syntax.specs.declared.tree.Node as nodes
use Rattle.ckc_syntax.specs.declared.tree.Expr as exprs
use Rattle.ckc_syntax.specs.Placeless.{type_at_start, type_rolled, limits_at_start, node_at_start, limits_rolled, node_rolled, expr_rolled, placeless_type, placeless_limits, placeless_node, placeless_expr}
use Rattle.ckc_typed.specs.declared.environment.Amount.{Amount}
use Rattle.ckc_typed.specs.declared.environment.Constant.{Constant}
use Rattle.ckc_typed.specs.declared.typed.Note.{Note}
use Rattle.ckc_typed.specs.Amounts.{fixed, variable_in_form, variable_in, number_of, number_in, negative, moved, or_amount, sum_amount, amount_in_form, amount_by, amount}
use Rattle.ckc_typed.specs.Constants.{size_of, negated, limits_constant, node_constant, expr_constant, constant, constant_of_node}
use Rattle.ckc_typed.specs.Trees.{TypeTree, Limits, Node, Expr, NotedLimits, NotedNode, NotedExpr, NotedLayer}
use Rattle.ckc_typed.specs.Types.{written_parts, type_written, element_of}
use Rattle.ckc_typed_welltyped.specs.Noteless.{limits_noteless, node_noteless, limits_bared, node_bared, expr_bared, bare_limits, bare_node, bare_expr}
use Rattle.ckc_blame_sound.specs.ckc_bounds_points.specs.declared.frame.Bounds.{Bounds}
use Rattle.ckc_blame_sound.specs.ckc_bounds_points.specs.declared.frame.Bounds.TheVariants as bounds
use Rattle.ckc_blame_sound.specs.ckc_bounds_points.specs.declared.frame.Frame.{Frame}
use Rattle.ckc_blame_sound.specs.ckc_bounds_points.specs.Forms.{elements, sum_of_forms}
use Rattle.ckc_blame_sound.specs.ckc_bounds_declared.specs.declared.limits.Holder.{Holder}
use Rattle.ckc_blame_sound.specs.ckc_bounds_declared.specs.Written.{own, named_base, amount_form, counted, named_pieces, negative_amount, sum_pieces, node_pieces, bound_with, bound, known_between, takes_ends, bounds_written}

-- ---- types

abbrev TypeSame : TypeTree → Type 0
TypeSame t = type_written (placeless_type t) ≡ type_written t

abbrev KeptType : Type 0
KeptType = (t : TypeTree) × TypeSame t

abbrev inner_type : TypeTree-F Name KeptType → TypeTree-F Name TypeTree
inner_type = map-TypeTree Name KeptType TypeTree (λ e. e.0)

abbrev written_in : TypeTree-F Name TypeTree → TypeTree-F Name CType
written_in = map-TypeTree Name TypeTree CType type_written

abbrev placeless_in : TypeTree-F Name TypeTree → TypeTree-F Name TypeTree
placeless_in x = type_at_start (map-TypeTree Name TypeTree TypeTree placeless_type x)

type_step : (y : TypeTree-F Name KeptType) → written_parts (written_in (placeless_in (inner_type y))) ≡ written_parts (written_in (inner_type y))
type_step TypeTree-F.Int = refl
type_step TypeTree-F.Unsigned = refl
type_step TypeTree-F.Char = refl
type_step TypeTree-F.Void = refl
type_step (TypeTree-F.Struct n at) = refl
type_step (TypeTree-F.Raw k at) = ap (λ t. written_parts (TypeTree-F.Raw t at)) k.1
type_step (TypeTree-F.One k) = ap (λ t. written_parts (TypeTree-F.One t)) k.1
type_step (TypeTree-F.Arr k) = ap (λ t. written_parts (TypeTree-F.Arr t)) k.1
type_step (TypeTree-F.Nt k) = ap (λ t. written_parts (TypeTree-F.Nt t)) k.1

pub type_plain : (t : TypeTree) → TypeSame t
type_plain = ind-TypeTree Name TypeSame (λ x y is.
    ap type_written (fold-roll-TypeTree Name TypeTree type_rolled x) ∙ fold-roll-TypeTree Name CType written_parts (placeless_in x)
    ∙ subst (λ z. written_parts (written_in (placeless_in z)) ≡ written_parts (written_in z)) is (type_step y)
    ∙ sym (fold-roll-TypeTree Name CType written_parts x))

-- ---- layers

abbrev pub PlainLimits : Type 0
PlainLimits = Limits-F Name (Unit {0}) Limits Node Expr

abbrev pub PlainNode : Type 0
PlainNode = Node-F Name (Unit {0}) Limits Node Expr

abbrev NotedLimitsLayer : Type 0
NotedLimitsLayer = Limits-F Name Note NotedLimits NotedNode NotedExpr

abbrev placeless_node_in : PlainNode → PlainNode
placeless_node_in x = node_at_start (map-Node Name (Unit {0}) Limits Node Expr Limits Node Expr placeless_limits placeless_node placeless_expr x)

abbrev placeless_limits_in : PlainLimits → PlainLimits
placeless_limits_in x = limits_at_start (map-Limits Name (Unit {0}) Limits Node Expr Limits Node Expr placeless_limits placeless_node placeless_expr x)

abbrev bared_node : NotedLayer → PlainNode
bared_node x = node_noteless (map-Node Name Note NotedLimits NotedNode NotedExpr Limits Node Expr bare_limits bare_node bare_expr x)

abbrev bared_limits : NotedLimitsLayer → PlainLimits
bared_limits x = limits_noteless (map-Limits Name Note NotedLimits NotedNode NotedExpr Limits Node Expr bare_limits bare_node bare_expr x)

-- an expression, and bounds, without places and notes
abbrev pub plain : NotedExpr → Expr
plain e = placeless_expr (bare_expr e)

abbrev pub plain_limits : NotedLimits → Limits
plain_limits l = placeless_limits (bare_limits l)

abbrev plain_node : NotedLayer → PlainNode
plain_node x = placeless_node_in (bared_node x)

abbrev plain_limits_layer : NotedLimitsLayer → PlainLimits
plain_limits_layer x = placeless_limits_in (bared_limits x)

node_back : (x : PlainNode) → out-Node Name (Unit {0}) (roll-Node Name (Unit {0}) x) ≡ x
node_back x = search (rules, node_lemmas)

limits_back : (x : PlainLimits) → out-Limits Name (Unit {0}) (roll-Limits Name (Unit {0}) x) ≡ x
limits_back x = search (rules, limits_lemmas)

bare_expr_is : (e : NotedExpr) → bare_expr e ≡ record { node = bare_node e.node; pos = e.pos; note = tt }
bare_expr_is e = fold-roll-Expr Name Note Limits Node Expr limits_bared node_bared expr_bared (record { node = e.node; pos = e.pos; note = e.note })

placeless_is : (e : Expr) → placeless_expr e ≡ record { node = placeless_node e.node; pos = start; note = e.note }
placeless_is e = fold-roll-Expr Name (Unit {0}) Limits Node Expr limits_rolled node_rolled expr_rolled (record { node = e.node; pos = e.pos; note = e.note })

node_out : (n : Node) → out-Node Name (Unit {0}) (placeless_node n) ≡ placeless_node_in (out-Node Name (Unit {0}) n)
node_out n =
    ap (out-Node Name (Unit {0})) (fold_out-Node Name (Unit {0}) Limits Node Expr limits_rolled node_rolled expr_rolled n)
    ∙ node_back (placeless_node_in (out-Node Name (Unit {0}) n))

bare_out : (n : NotedNode) → out-Node Name (Unit {0}) (bare_node n) ≡ bared_node (out-Node Name Note n)
bare_out n =
    ap (out-Node Name (Unit {0})) (fold_out-Node Name Note Limits Node Expr limits_bared node_bared expr_bared n)
    ∙ node_back (bared_node (out-Node Name Note n))

limits_out : (l : Limits) → out-Limits Name (Unit {0}) (placeless_limits l) ≡ placeless_limits_in (out-Limits Name (Unit {0}) l)
limits_out l =
    ap (out-Limits Name (Unit {0})) (fold_out-Limits Name (Unit {0}) Limits Node Expr limits_rolled node_rolled expr_rolled l)
    ∙ limits_back (placeless_limits_in (out-Limits Name (Unit {0}) l))

bare_limits_out : (l : NotedLimits) → out-Limits Name (Unit {0}) (bare_limits l) ≡ bared_limits (out-Limits Name Note l)
bare_limits_out l =
    ap (out-Limits Name (Unit {0})) (fold_out-Limits Name Note Limits Node Expr limits_bared node_bared expr_bared l)
    ∙ limits_back (bared_limits (out-Limits Name Note l))

layer_is : (e : NotedExpr) → out-Node Name (Unit {0}) (plain e).node ≡ plain_node (out-Node Name Note e.node)
layer_is e =
    ap (λ (x : Expr). out-Node Name (Unit {0}) x.node) (placeless_is (bare_expr e)) ∙ node_out (bare_expr e).node
    ∙ ap (λ (x : Expr). placeless_node_in (out-Node Name (Unit {0}) x.node)) (bare_expr_is e)
    ∙ ap placeless_node_in (bare_out e.node)

limits_layer_is : (l : NotedLimits) → out-Limits Name (Unit {0}) (plain_limits l) ≡ plain_limits_layer (out-Limits Name Note l)
limits_layer_is l = limits_out (bare_limits l) ∙ ap placeless_limits_in (bare_limits_out l)

-- ---- constants

module _ (structs : Structs) where
  abbrev NodeSame : NotedNode → Type 0
  NodeSame n = constant_of_node structs (placeless_node (bare_node n)) ≡ constant_of_node structs n

  abbrev ExprSame : NotedExpr → Type 0
  ExprSame e = constant structs (plain e) ≡ constant structs e

  abbrev LimitsSame : NotedLimits → Type 0
  LimitsSame l = Unit {0}

  abbrev KeptLimits : Type 0
  KeptLimits = (l : NotedLimits) × LimitsSame l

  abbrev KeptNode : Type 0
  KeptNode = (n : NotedNode) × NodeSame n

  abbrev KeptExpr : Type 0
  KeptExpr = (e : NotedExpr) × ExprSame e

  abbrev inner_node : Node-F Name Note KeptLimits KeptNode KeptExpr → NotedLayer
  inner_node = map-Node Name Note KeptLimits KeptNode KeptExpr NotedLimits NotedNode NotedExpr (λ e. e.0) (λ e. e.0) (λ e. e.0)

  abbrev inner_expr : Expr-F Name Note KeptLimits KeptNode KeptExpr → Expr-F Name Note NotedLimits NotedNode NotedExpr
  inner_expr = map-Expr Name Note KeptLimits KeptNode KeptExpr NotedLimits NotedNode NotedExpr (λ e. e.0) (λ e. e.0) (λ e. e.0)

  abbrev of_limits : {A : Type 0} → trees.Limits Name A → Unit {0}
  of_limits {A} = fold-Limits Name A (Unit {0}) (Option Constant) (Option Constant) limits_constant (node_constant structs) expr_constant

  abbrev constants_in : {A : Type 0} → Node-F Name A (trees.Limits Name A) (nodes.Node Name A) (exprs.Expr Name A) → Node-F Name A (Unit {0}) (Option Constant) (Option Constant)
  constants_in {A} = map-Node Name A (trees.Limits Name A) (nodes.Node Name A) (exprs.Expr Name A) (Unit {0}) (Option Constant) (Option Constant) of_limits (constant_of_node structs) (constant structs)

  node_step : (y : Node-F Name Note KeptLimits KeptNode KeptExpr) → node_constant structs (constants_in (plain_node (inner_node y))) ≡ node_constant structs (constants_in (inner_node y))
  node_step (Node-F.Number n u) = refl
  node_step (Node-F.Size t) = ap (λ u. Some (record { word = size_of structs u; unsigned = true })) (type_plain t)
  node_step (Node-F.Un o k) = ap (negated o) k.1
  node_step y = refl

  node_by : (x : NotedLayer) (y : Node-F Name Note KeptLimits KeptNode KeptExpr) → inner_node y ≡ x → NodeSame (roll-Node Name Note x)
  node_by x y is =
      ap (λ (n : Node). constant_of_node structs (placeless_node n)) (fold-roll-Node Name Note Limits Node Expr limits_bared node_bared expr_bared x)
      ∙ ap (constant_of_node structs) (fold-roll-Node Name (Unit {0}) Limits Node Expr limits_rolled node_rolled expr_rolled (bared_node x))
      ∙ fold-roll-Node Name (Unit {0}) (Unit {0}) (Option Constant) (Option Constant) limits_constant (node_constant structs) expr_constant (plain_node x)
      ∙ subst (λ z. node_constant structs (constants_in (plain_node z)) ≡ node_constant structs (constants_in z)) is (node_step y)
      ∙ sym (fold-roll-Node Name Note (Unit {0}) (Option Constant) (Option Constant) limits_constant (node_constant structs) expr_constant x)

  plain_is : (e : NotedExpr) → plain e ≡ record { node = placeless_node (bare_node e.node); pos = start; note = tt }
  plain_is e = placeless_is (bare_expr e) ∙ ap (λ (x : Expr). record { node = placeless_node x.node; pos = start; note = tt }) (bare_expr_is e)

  expr_is : (e : NotedExpr) → NodeSame e.node → ExprSame e
  expr_is e h =
      ap (constant structs) (plain_is e)
      ∙ fold-roll-Expr Name (Unit {0}) (Unit {0}) (Option Constant) (Option Constant) limits_constant (node_constant structs) expr_constant (record { node = placeless_node (bare_node e.node); pos = start; note = tt })
      ∙ h
      ∙ sym (fold-roll-Expr Name Note (Unit {0}) (Option Constant) (Option Constant) limits_constant (node_constant structs) expr_constant (record { node = e.node; pos = e.pos; note = e.note }))

  expr_by : (x : Expr-F Name Note NotedLimits NotedNode NotedExpr) (y : Expr-F Name Note KeptLimits KeptNode KeptExpr) → inner_expr y ≡ x → ExprSame (roll-Expr Name Note x)
  expr_by x y is = subst (λ z. ExprSame (roll-Expr Name Note z)) is (expr_is (roll-Expr Name Note (inner_expr y)) y.node.1)

  constant_plain : (e : NotedExpr) → ExprSame e
  constant_plain = ind-Expr Name Note LimitsSame NodeSame ExprSame (λ x y is. tt) node_by expr_by

  number_plain : (e : NotedExpr) → number_in structs (plain e) ≡ number_in structs e
  number_plain e = ap number_of (constant_plain e)

  -- ---- amounts

  variable_form : (x : NotedLayer) → variable_in_form (plain_node x) ≡ variable_in_form x
  variable_form (Node-F.Name n) = refl
  variable_form x = refl

  variable_plain : (e : NotedExpr) → variable_in (plain e) ≡ variable_in e
  variable_plain e = ap variable_in_form (layer_is e) ∙ variable_form (out-Node Name Note e.node)

  moved_plain : (e f : NotedExpr) → moved (variable_in (plain e)) (number_in structs (plain f)) ≡ moved (variable_in e) (number_in structs f)
  moved_plain e f = ap (λ v. moved v (number_in structs (plain f))) (variable_plain e) ∙ ap (moved (variable_in e)) (number_plain f)

  sum_plain : (o : TreeOp) (e f : NotedExpr) → sum_amount structs o (plain e) (plain f) ≡ sum_amount structs o e f
  sum_plain op.Add e f =
      ap (λ a. or_amount a (moved (variable_in (plain f)) (number_in structs (plain e)))) (moved_plain e f)
      ∙ ap (or_amount (moved (variable_in e) (number_in structs f))) (moved_plain f e)
  sum_plain op.Sub e f = ap (λ v. moved v (negative (number_in structs (plain f)))) (variable_plain e) ∙ ap (λ c. moved (variable_in e) (negative c)) (number_plain f)
  sum_plain o e f = refl

  form_plain : (x : NotedLayer) → amount_in_form structs (plain_node x) ≡ amount_in_form structs x
  form_plain (Node-F.Name n) = refl
  form_plain (Node-F.Bin o e f) = sum_plain o e f
  form_plain x = refl

  amount_plain : (e : NotedExpr) → amount structs (plain e) ≡ amount structs e
  amount_plain e = ap (amount_by structs (plain e)) (number_plain e) ∙ by (number_in structs e)
    where
      by : (o : Option ℤ) → amount_by structs (plain e) o ≡ amount_by structs e o
      by (Some c) = refl
      by None = ap (amount_in_form structs) (layer_is e) ∙ form_plain (out-Node Name Note e.node)

-- ---- ends of bounds

module _ (frame : Frame) (h : Holder) (t : CType) where
  abbrev end_at : Name → Option Amount → Option Form
  end_at n by = sum_of_forms (named_base frame t n) (amount_form frame h by)

  abbrev end_named : Option Name → Option Amount → Option Form
  end_named None by = None
  end_named (Some n) by = end_at n by

  abbrev plain_sum : TreeOp → PlainNode → Expr → Option Form
  plain_sum op.Add (Node-F.Name n) k = end_at n (amount frame.structs k)
  plain_sum op.Sub (Node-F.Name n) k = end_at n (negative_amount (negative (number_in frame.structs k)))
  plain_sum op.Add (Node-F.Bin op.Add p x) k = end_named (variable_in p) (sum_amount frame.structs op.Add x k)
  plain_sum op.Sub (Node-F.Bin op.Add p x) k = end_named (variable_in p) (sum_amount frame.structs op.Sub x k)
  plain_sum _ _ k = None

  abbrev plain_end : PlainNode → Option Form
  plain_end (Node-F.Name n) = end_at n (Some (fixed (pos 0)))
  plain_end (Node-F.Bin o e k) = plain_sum o (out-Node Name (Unit {0}) e.node) k
  plain_end _ = None

  abbrev plain_bound : Expr → Option Form
  plain_bound e = plain_end (out-Node Name (Unit {0}) e.node)

  named_case : (n : Option Name) (by : Option Amount) → end_named n by ≡ bound_with frame h t (named_pieces n by)
  named_case None by = refl
  named_case (Some n) by = refl

  both_plain : (o : TreeOp) (p x k : NotedExpr) → end_named (variable_in (plain p)) (sum_amount frame.structs o (plain x) (plain k)) ≡ bound_with frame h t (named_pieces (variable_in p) (sum_amount frame.structs o x k))
  both_plain o p x k =
      ap (λ v. end_named v (sum_amount frame.structs o (plain x) (plain k))) (variable_plain frame.structs p) ∙ ap (end_named (variable_in p)) (sum_plain frame.structs o x k)
      ∙ named_case (variable_in p) (sum_amount frame.structs o x k)

  sum_case : (o : TreeOp) (x : NotedLayer) (k : NotedExpr) → plain_sum o (plain_node x) (plain k) ≡ bound_with frame h t (sum_pieces frame.structs o x k)
  sum_case op.Add (Node-F.Name n) k = ap (end_at n) (amount_plain frame.structs k)
  sum_case op.Sub (Node-F.Name n) k = ap (λ c. end_at n (negative_amount (negative c))) (number_plain frame.structs k)
  sum_case op.Add (Node-F.Bin op.Add p x) k = both_plain op.Add p x k
  sum_case op.Sub (Node-F.Bin op.Add p x) k = both_plain op.Sub p x k
  sum_case o x k = refl

  end_case : (x : NotedLayer) → plain_end (plain_node x) ≡ bound_with frame h t (node_pieces frame.structs x)
  end_case (Node-F.Name n) = refl
  end_case (Node-F.Bin o e k) = ap (λ y. plain_sum o y (plain k)) (layer_is e) ∙ sum_case o (out-Node Name Note e.node) k
  end_case x = refl

  bound_plain : (e : NotedExpr) → plain_bound (plain e) ≡ bound frame h t e
  bound_plain e = ap plain_end (layer_is e) ∙ end_case (out-Node Name Note e.node)

-- ---- bounds

-- the bounds that are written, by what is left of them without places and notes
abbrev pub plain_written : Frame → Holder → CType → PlainLimits → Option Bounds
plain_written frame h t (Limits-F.Count e at) = counted (own h) (amount_form frame h (amount frame.structs e))
plain_written frame h t (Limits-F.ByteCount e at) = counted (own h) (elements (size_of frame.structs (element_of t)) (amount_form frame h (amount frame.structs e)))
plain_written frame h t (Limits-F.Between e f at) = if takes_ends h then known_between (plain_bound frame h t e) (plain_bound frame h t f) else None
plain_written frame h t (Limits-F.Unknown at) = Some bounds.Unknown

written_case : (frame : Frame) (h : Holder) (t : CType) (x : NotedLimitsLayer) → plain_written frame h t (plain_limits_layer x) ≡ bounds_written frame h t x
written_case frame h t (Limits-F.Count e at) = ap (λ a. counted (own h) (amount_form frame h a)) (amount_plain frame.structs e)
written_case frame h t (Limits-F.ByteCount e at) =
    ap (λ a. counted (own h) (elements (size_of frame.structs (element_of t)) (amount_form frame h a))) (amount_plain frame.structs e)
written_case frame h t (Limits-F.Between e f at) =
    ap (λ b. if takes_ends h then known_between b (plain_bound frame h t (plain f)) else None) (bound_plain frame h t e)
    ∙ ap (λ b. if takes_ends h then known_between (bound frame h t e) b else None) (bound_plain frame h t f)
written_case frame h t (Limits-F.Unknown at) = refl

pub written_plain : (frame : Frame) (h : Holder) (t : CType) (l : NotedLimits) → plain_written frame h t (out-Limits Name (Unit {0}) (plain_limits l)) ≡ bounds_written frame h t (out-Limits Name Note l)
written_plain frame h t l = ap (plain_written frame h t) (limits_layer_is l) ∙ written_case frame h t (out-Limits Name Note l)
