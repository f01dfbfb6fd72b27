-- Expressions and bounds are the same but for their places exactly when they are equal without them.
use Rattle.std.proofs.Common.{rules, ◌≡◌, ℕ, ◌∙◌, ap, sym, refl, Bool, true, false, List, [], ◌∷◌, get_or}
use Rattle.std.specs.Prelude.{Option, Some, None}
use Rattle.ckc_base.specs.Places.{start}
use Rattle.ckc_syntax.specs.declared.tree.Limits.{Limits-F, map-Limits, ind-Limits, out-Limits, roll-Limits, fold-roll-Limits, fold_out-Limits}
use Rattle.ckc_syntax.specs.declared.tree.Node.{Node-F, map-Node, out-Node, roll-Node, fold-roll-Node, fold_out-Node, the_lemmas as expr_lemmas}
use Rattle.ckc_syntax.specs.declared.tree.Expr.{Expr-F, map-Expr, ind-Expr, out-Expr, roll-Expr, fold-roll-Expr, fold_out-Expr}
use Rattle.ckc_syntax.specs.declared.tree.TreeOp.{TreeOp}
use Rattle.ckc_syntax.specs.declared.tree.TreeOp.TheVariants as op
use Rattle.ckc_syntax.specs.code.SameParts.{OfLimits, OfNode, OfExpr, number_of_op, same_op, same_flag, same_limits_parts, same_node_parts, of_limits, of_node, of_expr, same_limits, same_node, same_expr}
use Rattle.ckc_syntax.specs.Trees.{Spelling, TypeTree, Limits, Node, Expr}
use Rattle.ckc_syntax.specs.Placeless as layers
use Rattle.ckc_syntax.specs.Placeless.{limits_at_start, node_at_start, expr_at_start, limits_rolled, node_rolled, expr_rolled, placeless_limits, placeless_node, placeless_expr}
use Rattle.ckc_syntax.proofs.Tells.{Tells, yes, unlike, both, made, same_tells, numbers, names, kept_lists, none_tells, some_tells, left_tells, right_tells}
use Rattle.ckc_syntax.proofs.SameTypes.{type_tells}

-- the operators in the order of their numbers
op_of : ℕ → TreeOp
op_of n = get_or (op.Minus ∷ op.Plus ∷ op.Not ∷ op.Flip ∷ op.Deref ∷ op.Address ∷ op.OrElse ∷ op.AndThen ∷ op.Or ∷ op.Xor ∷ op.And ∷ op.Eq ∷ op.Ne ∷ op.Lt ∷ op.Le ∷ op.Gt ∷ op.Ge ∷ op.Shl ∷ op.Shr ∷ op.Add ∷ op.Sub ∷ op.Mul ∷ op.Div ∷ op.Rem ∷ op.Set ∷ op.PostInc ∷ op.PostDec ∷ []) n op.Minus

op_back : (o : TreeOp) → op_of (number_of_op o) ≡ o
unfolding op_of
op_back op.Minus = refl
op_back op.Plus = refl
op_back op.Not = refl
op_back op.Flip = refl
op_back op.Deref = refl
op_back op.Address = refl
op_back op.OrElse = refl
op_back op.AndThen = refl
op_back op.Or = refl
op_back op.Xor = refl
op_back op.And = refl
op_back op.Eq = refl
op_back op.Ne = refl
op_back op.Lt = refl
op_back op.Le = refl
op_back op.Gt = refl
op_back op.Ge = refl
op_back op.Shl = refl
op_back op.Shr = refl
op_back op.Add = refl
op_back op.Sub = refl
op_back op.Mul = refl
op_back op.Div = refl
op_back op.Rem = refl
op_back op.Set = refl
op_back op.PostInc = refl
op_back op.PostDec = refl

ops : (o p : TreeOp) → Tells (same_op o p) o p
ops o p = let t = numbers (number_of_op o) (number_of_op p) in record {
  so = λ e. sym (op_back o) ∙ ap op_of (t.so e) ∙ op_back p;
  back = λ e. t.back (ap number_of_op e);
}

abbrev flag : Bool → ℕ
flag true = 1
flag false = 0

flags : (u v : Bool) → Tells (same_flag u v) u v
flags true true = yes _
flags false false = yes _
flags true false = unlike flag _ _ refl
flags false true = unlike flag _ _ refl

abbrev LimitsLayer : Type 0
LimitsLayer = layers.LimitsLayer Spelling (Unit {0})

abbrev NodeLayer : Type 0
NodeLayer = layers.NodeLayer Spelling (Unit {0})

abbrev ExprLayer : Type 0
ExprLayer = layers.ExprLayer Spelling (Unit {0})

limits_out : (x : LimitsLayer) → out-Limits Spelling (Unit {0}) (roll-Limits Spelling (Unit {0}) x) ≡ x
limits_out x = search (rules, expr_lemmas)

node_out : (x : NodeLayer) → out-Node Spelling (Unit {0}) (roll-Node Spelling (Unit {0}) x) ≡ x
node_out x = search (rules, expr_lemmas)

expr_out : (x : ExprLayer) → out-Expr Spelling (Unit {0}) (roll-Expr Spelling (Unit {0}) x) ≡ x
expr_out x = search (rules, expr_lemmas)

abbrev LimitsTells : Limits → Type 0
LimitsTells l = (m : Limits) → Tells (same_limits l m) (placeless_limits l) (placeless_limits m)

abbrev NodeTells : Node → Type 0
NodeTells n = (m : Node) → Tells (same_node n m) (placeless_node n) (placeless_node m)

abbrev ExprTells : Expr → Type 0
ExprTells e = (f : Expr) → Tells (same_expr e f) (placeless_expr e) (placeless_expr f)

-- each with its claim
abbrev KeptLimits : Type 0
KeptLimits = (l : Limits) × LimitsTells l

abbrev KeptNode : Type 0
KeptNode = (n : Node) × NodeTells n

abbrev KeptExpr : Type 0
KeptExpr = (e : Expr) × ExprTells e

abbrev inner_limits : Limits-F Spelling (Unit {0}) KeptLimits KeptNode KeptExpr → LimitsLayer
inner_limits = map-Limits Spelling (Unit {0}) KeptLimits KeptNode KeptExpr Limits Node Expr (λ e. e.0) (λ e. e.0) (λ e. e.0)

abbrev inner_node : Node-F Spelling (Unit {0}) KeptLimits KeptNode KeptExpr → NodeLayer
inner_node = map-Node Spelling (Unit {0}) KeptLimits KeptNode KeptExpr Limits Node Expr (λ e. e.0) (λ e. e.0) (λ e. e.0)

abbrev inner_expr : Expr-F Spelling (Unit {0}) KeptLimits KeptNode KeptExpr → ExprLayer
inner_expr = map-Expr Spelling (Unit {0}) KeptLimits KeptNode KeptExpr Limits Node Expr (λ e. e.0) (λ e. e.0) (λ e. e.0)

abbrev test_limits : LimitsLayer → Limits-F Spelling (Unit {0}) OfLimits OfNode OfExpr
test_limits = map-Limits Spelling (Unit {0}) Limits Node Expr OfLimits OfNode OfExpr same_limits same_node same_expr

abbrev test_node : NodeLayer → Node-F Spelling (Unit {0}) OfLimits OfNode OfExpr
test_node = map-Node Spelling (Unit {0}) Limits Node Expr OfLimits OfNode OfExpr same_limits same_node same_expr

abbrev test_expr : ExprLayer → Expr-F Spelling (Unit {0}) OfLimits OfNode OfExpr
test_expr = map-Expr Spelling (Unit {0}) Limits Node Expr OfLimits OfNode OfExpr same_limits same_node same_expr

abbrev bare_limits : LimitsLayer → LimitsLayer
bare_limits x = limits_at_start (map-Limits Spelling (Unit {0}) Limits Node Expr Limits Node Expr placeless_limits placeless_node placeless_expr x)

abbrev bare_node : NodeLayer → NodeLayer
bare_node x = node_at_start (map-Node Spelling (Unit {0}) Limits Node Expr Limits Node Expr placeless_limits placeless_node placeless_expr x)

abbrev bare_expr : ExprLayer → ExprLayer
bare_expr x = expr_at_start (map-Expr Spelling (Unit {0}) Limits Node Expr Limits Node Expr placeless_limits placeless_node placeless_expr x)

abbrev limits_form : LimitsLayer → ℕ
limits_form (Limits-F.Count e p) = 0
limits_form (Limits-F.ByteCount e p) = 1
limits_form (Limits-F.Between e f p) = 2
limits_form (Limits-F.Unknown p) = 3

abbrev node_form : NodeLayer → ℕ
node_form (Node-F.Number n u) = 0
node_form (Node-F.Text s) = 1
node_form Node-F.Null = 2
node_form (Node-F.Name s) = 3
node_form (Node-F.Un o e) = 4
node_form (Node-F.Bin o e f) = 5
node_form (Node-F.Pick e f g) = 6
node_form (Node-F.Index e f) = 7
node_form (Node-F.Dot e s p) = 8
node_form (Node-F.Arrow e s p) = 9
node_form (Node-F.Cast t e) = 10
node_form (Node-F.Size t) = 11
node_form (Node-F.Trusted t e l) = 12
node_form (Node-F.Tested t e l) = 13
node_form (Node-F.Call s es) = 14
node_form (Node-F.Calloc t e u) = 15

abbrev count : Expr → LimitsLayer
count z = Limits-F.Count z start

abbrev byte_count : Expr → LimitsLayer
byte_count z = Limits-F.ByteCount z start

abbrev between : Expr × Expr → LimitsLayer
between z = Limits-F.Between z.0 z.1 start

abbrev number : ℕ × Bool → NodeLayer
number z = Node-F.Number z.0 z.1

abbrev text : Spelling → NodeLayer
text z = Node-F.Text z

abbrev name : Spelling → NodeLayer
name z = Node-F.Name z

abbrev un : TreeOp × Expr → NodeLayer
un z = Node-F.Un z.0 z.1

abbrev bin : TreeOp × (Expr × Expr) → NodeLayer
bin z = Node-F.Bin z.0 z.1.0 z.1.1

abbrev pick : Expr × (Expr × Expr) → NodeLayer
pick z = Node-F.Pick z.0 z.1.0 z.1.1

abbrev index : Expr × Expr → NodeLayer
index z = Node-F.Index z.0 z.1

abbrev dot : Expr × Spelling → NodeLayer
dot z = Node-F.Dot z.0 z.1 start

abbrev arrow : Expr × Spelling → NodeLayer
arrow z = Node-F.Arrow z.0 z.1 start

abbrev cast : TypeTree × Expr → NodeLayer
cast z = Node-F.Cast z.0 z.1

abbrev size : TypeTree → NodeLayer
size z = Node-F.Size z

abbrev trusted : TypeTree × (Expr × Option Limits) → NodeLayer
trusted z = Node-F.Trusted z.0 z.1.0 z.1.1

abbrev tested : TypeTree × (Expr × Option Limits) → NodeLayer
tested z = Node-F.Tested z.0 z.1.0 z.1.1

abbrev call : Spelling × List Expr → NodeLayer
call z = Node-F.Call z.0 z.1

abbrev calloc : TypeTree × (Expr × TypeTree) → NodeLayer
calloc z = Node-F.Calloc z.0 z.1.0 z.1.1

limits_step : (y : Limits-F Spelling (Unit {0}) KeptLimits KeptNode KeptExpr) (v : LimitsLayer) → Tells (same_limits_parts (test_limits (inner_limits y)) v) (bare_limits (inner_limits y)) (bare_limits v)
limits_step (Limits-F.Count k p) (Limits-F.Count a q) = made count (k.1 a) (λ e. cc)
limits_step (Limits-F.ByteCount k p) (Limits-F.ByteCount a q) = made byte_count (k.1 a) (λ e. cc)
limits_step (Limits-F.Between k j p) (Limits-F.Between a b q) = made between (both (k.1 a) (j.1 b)) (λ e. cc)
limits_step (Limits-F.Unknown p) (Limits-F.Unknown q) = yes _
limits_step y v = unlike limits_form _ _ refl

node_step : (y : Node-F Spelling (Unit {0}) KeptLimits KeptNode KeptExpr) (v : NodeLayer) → Tells (same_node_parts (test_node (inner_node y)) v) (bare_node (inner_node y)) (bare_node v)
node_step (Node-F.Number n u) (Node-F.Number m v) = made number (both (numbers n m) (flags u v)) (λ e. cc)
node_step (Node-F.Text s) (Node-F.Text t) = made text (names s t) (λ e. cc)
node_step Node-F.Null Node-F.Null = yes _
node_step (Node-F.Name s) (Node-F.Name t) = made name (names s t) (λ e. cc)
node_step (Node-F.Un o k) (Node-F.Un p a) = made un (both (ops o p) (k.1 a)) (λ e. cc)
node_step (Node-F.Bin o k j) (Node-F.Bin p a b) = made bin (both (ops o p) (both (k.1 a) (j.1 b))) (λ e. cc)
node_step (Node-F.Pick k j i) (Node-F.Pick a b c) = made pick (both (k.1 a) (both (j.1 b) (i.1 c))) (λ e. cc)
node_step (Node-F.Index k j) (Node-F.Index a b) = made index (both (k.1 a) (j.1 b)) (λ e. cc)
node_step (Node-F.Dot k s p) (Node-F.Dot a t q) = made dot (both (k.1 a) (names s t)) (λ e. cc)
node_step (Node-F.Arrow k s p) (Node-F.Arrow a t q) = made arrow (both (k.1 a) (names s t)) (λ e. cc)
node_step (Node-F.Cast t k) (Node-F.Cast u a) = made cast (both (type_tells t u) (k.1 a)) (λ e. cc)
node_step (Node-F.Size t) (Node-F.Size u) = made size (type_tells t u) (λ e. cc)
node_step (Node-F.Trusted t k None) (Node-F.Trusted u a None) = made trusted (both (type_tells t u) (both (k.1 a) none_tells)) (λ e. cc)
node_step (Node-F.Trusted t k (Some l)) (Node-F.Trusted u a (Some m)) = made trusted (both (type_tells t u) (both (k.1 a) (some_tells (l.1 m)))) (λ e. cc)
node_step (Node-F.Trusted t k (Some l)) (Node-F.Trusted u a None) = made trusted (both (type_tells t u) (both (k.1 a) left_tells)) (λ e. cc)
node_step (Node-F.Trusted t k None) (Node-F.Trusted u a (Some m)) = made trusted (both (type_tells t u) (both (k.1 a) right_tells)) (λ e. cc)
node_step (Node-F.Tested t k None) (Node-F.Tested u a None) = made tested (both (type_tells t u) (both (k.1 a) none_tells)) (λ e. cc)
node_step (Node-F.Tested t k (Some l)) (Node-F.Tested u a (Some m)) = made tested (both (type_tells t u) (both (k.1 a) (some_tells (l.1 m)))) (λ e. cc)
node_step (Node-F.Tested t k (Some l)) (Node-F.Tested u a None) = made tested (both (type_tells t u) (both (k.1 a) left_tells)) (λ e. cc)
node_step (Node-F.Tested t k None) (Node-F.Tested u a (Some m)) = made tested (both (type_tells t u) (both (k.1 a) right_tells)) (λ e. cc)
node_step (Node-F.Call s ks) (Node-F.Call t fs) = made call (both (names s t) (kept_lists same_expr placeless_expr (λ (k : KeptExpr). k.0) (λ k. k.1) ks fs)) (λ e. cc)
node_step (Node-F.Calloc t k u) (Node-F.Calloc t' a u') = made calloc (both (type_tells t t') (both (k.1 a) (type_tells u u'))) (λ e. cc)
node_step y v = unlike node_form _ _ refl

expr_step : (y : Expr-F Spelling (Unit {0}) KeptLimits KeptNode KeptExpr) (v : ExprLayer) → Tells (same_node y.node.0 v.node) (bare_expr (inner_expr y)) (bare_expr v)
expr_step y v = made (λ (z : Node). record { node = z; pos = start; note = tt }) (y.node.1 v.node) (λ e. ap (λ (z : ExprLayer). z.node) e)

limits_by : (x : LimitsLayer) (y : Limits-F Spelling (Unit {0}) KeptLimits KeptNode KeptExpr) → inner_limits y ≡ x → LimitsTells (roll-Limits Spelling (Unit {0}) x)
limits_by x y is u =
    same_tells _ _ _ _ _ _
    (ap (λ f. f u) (fold-roll-Limits Spelling (Unit {0}) OfLimits OfNode OfExpr of_limits of_node of_expr x ∙ ap (λ z. of_limits (test_limits z)) (sym is)))
    (fold-roll-Limits Spelling (Unit {0}) Limits Node Expr limits_rolled node_rolled expr_rolled x ∙ ap (λ z. roll-Limits Spelling (Unit {0}) (bare_limits z)) (sym is))
    (fold_out-Limits Spelling (Unit {0}) Limits Node Expr limits_rolled node_rolled expr_rolled u)
    (made (roll-Limits Spelling (Unit {0})) (limits_step y (out-Limits Spelling (Unit {0}) u)) (λ e. sym (limits_out _) ∙ ap (out-Limits Spelling (Unit {0})) e ∙ limits_out _))

node_by : (x : NodeLayer) (y : Node-F Spelling (Unit {0}) KeptLimits KeptNode KeptExpr) → inner_node y ≡ x → NodeTells (roll-Node Spelling (Unit {0}) x)
node_by x y is u =
    same_tells _ _ _ _ _ _
    (ap (λ f. f u) (fold-roll-Node Spelling (Unit {0}) OfLimits OfNode OfExpr of_limits of_node of_expr x ∙ ap (λ z. of_node (test_node z)) (sym is)))
    (fold-roll-Node Spelling (Unit {0}) Limits Node Expr limits_rolled node_rolled expr_rolled x ∙ ap (λ z. roll-Node Spelling (Unit {0}) (bare_node z)) (sym is))
    (fold_out-Node Spelling (Unit {0}) Limits Node Expr limits_rolled node_rolled expr_rolled u)
    (made (roll-Node Spelling (Unit {0})) (node_step y (out-Node Spelling (Unit {0}) u)) (λ e. sym (node_out _) ∙ ap (out-Node Spelling (Unit {0})) e ∙ node_out _))

expr_by : (x : ExprLayer) (y : Expr-F Spelling (Unit {0}) KeptLimits KeptNode KeptExpr) → inner_expr y ≡ x → ExprTells (roll-Expr Spelling (Unit {0}) x)
expr_by x y is u =
    same_tells _ _ _ _ _ _
    (ap (λ f. f u) (fold-roll-Expr Spelling (Unit {0}) OfLimits OfNode OfExpr of_limits of_node of_expr x ∙ ap (λ z. of_expr (test_expr z)) (sym is)))
    (fold-roll-Expr Spelling (Unit {0}) Limits Node Expr limits_rolled node_rolled expr_rolled x ∙ ap (λ z. roll-Expr Spelling (Unit {0}) (bare_expr z)) (sym is))
    (fold_out-Expr Spelling (Unit {0}) Limits Node Expr limits_rolled node_rolled expr_rolled u)
    (made (roll-Expr Spelling (Unit {0})) (expr_step y (out-Expr Spelling (Unit {0}) u)) (λ e. sym (expr_out _) ∙ ap (out-Expr Spelling (Unit {0})) e ∙ expr_out _))

pub limits_tells : (l : Limits) → LimitsTells l
limits_tells = ind-Limits Spelling (Unit {0}) LimitsTells NodeTells ExprTells limits_by node_by expr_by

pub expr_tells : (e : Expr) → ExprTells e
expr_tells = ind-Expr Spelling (Unit {0}) LimitsTells NodeTells ExprTells limits_by node_by expr_by
