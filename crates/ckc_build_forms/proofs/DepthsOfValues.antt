-- The value of an expression and its address are less than three levels deep for each level of the text.
use Rattle.std.proofs.Common.{◌≡◌, ℕ, ◌+◌, ◌*◌, ◌≤◌, max, List, map, length, sym, subst, arith}
use Rattle.std.specs.Prelude.{Some, None}
use Rattle.ckc_base.specs.declared.places.Pos.{Pos}
use Rattle.ckc_types.specs.declared.types.CType.{CType}
use Rattle.ckc_syntax.specs.declared.tree.Name.{Name}
use Rattle.ckc_syntax.specs.declared.tree.TreeOp.TheVariants as op
use Rattle.ckc_syntax.specs.declared.tree.Limits.{Limits-F, map-Limits, roll-Limits, fold-roll-Limits}
use Rattle.ckc_syntax.specs.declared.tree.Node.{Node-F, map-Node, roll-Node, fold-roll-Node}
use Rattle.ckc_syntax.specs.declared.tree.Expr.{Expr-F, map-Expr, ind-Expr, roll-Expr, fold-roll-Expr}
use Rattle.ckc_syntax.specs.Inside.{highest, inside_each}
use Rattle.ckc_syntax_limits.specs.Depth.{limits_depth, node_depth, expr_depth, depth_of_limits, depth_of_node, depth_of_expr}
use Rattle.ckc_typed.specs.declared.environment.Variable.{Variable}
use Rattle.ckc_typed.specs.declared.typed.Note.{Note}
use Rattle.ckc_typed.specs.declared.typed.Typed.{Typed}
use Rattle.ckc_typed.specs.Trees.{NotedLimits, NotedNode, NotedExpr, NotedLayer}
use Rattle.ckc_typed.specs.Types.{type_written, kind_of, element_of}
use Rattle.ckc_typed.specs.Constants.{size_of}
use Rattle.ckc_source.specs.Code.{Expr, Number, Array, Choice, Tested, Trusted}
use Rattle.ckc_checks_operands.specs.Compilable.{depth}
use Rattle.ckc_build_values.specs.Kinds.{integer_of, count_of_kind, size_behind, pointee_of, tag_of}
use Rattle.ckc_build_values.specs.Members.{count_of_member}
use Rattle.ckc_build_values.specs.Places.{Place, element_place, target_place, member_place, nowhere, name_place, read_at, address_at}
use Rattle.ckc_build_values.specs.Operators.{outside, cast, unary, of_operands}
use Rattle.ckc_build_values.specs.Names.{address_of}
use Rattle.ckc_build_values.specs.Expressions.{Part, NodePart, LimitsPart, limits_parts, node_parts, expr_parts, form_if, part_of, part_of_node, part_of_limits, expr_elaborated, place_elaborated}
use Rattle.ckc_build_forms.proofs.DepthsOfParts.{place_depth, name_place_deep, read_deep, address_deep, named_deep, cast_deep, unary_deep, operands_deep, elements_in_deep}

-- what an expression means is not deep, by how deep it is
abbrev ExprFits : ℕ → Part → Type 0
ExprFits d q = (p : Typed) (locals : List Variable) (k : ℕ) →
    (depth (q.value p locals k) + 1 ≤ 3 * d) × (place_depth (q.place p locals k) + 2 ≤ 3 * d) × (depth (q.address p locals k) + 1 ≤ 3 * d)

-- a node is one level above what is in it
abbrev NodeHolds : ℕ → Expr → Place → Expr → Type 0
NodeHolds d e q a = (depth e ≤ 2 + 3 * d) × (place_depth q ≤ 1 + 3 * d) × (depth a ≤ 2 + 3 * d)

abbrev NodeFits : ℕ → NodePart → Type 0
NodeFits d q = (a : Note) (at : Pos) (p : Typed) (locals : List Variable) (k : ℕ) →
    NodeHolds d (q.value a at p locals k) (q.place a at p locals k) (q.address a at p locals k)

abbrev LimitsFits : ℕ → LimitsPart → Type 0
LimitsFits d q = (size : ℕ) (p : Typed) (locals : List Variable) (k : ℕ) → depth (q.elements size p locals k) ≤ 1 + 3 * d

abbrev LimitsSmall : NotedLimits → Type 0
LimitsSmall l = LimitsFits (depth_of_limits l) (part_of_limits l)

abbrev NodeSmall : NotedNode → Type 0
NodeSmall n = NodeFits (depth_of_node n) (part_of_node n)

abbrev ExprSmall : NotedExpr → Type 0
ExprSmall e = ExprFits (depth_of_expr e) (part_of e)

abbrev KeptLimits : Type 0
KeptLimits = (l : NotedLimits) × LimitsSmall l

abbrev KeptNode : Type 0
KeptNode = (n : NotedNode) × NodeSmall n

abbrev KeptExpr : Type 0
KeptExpr = (e : NotedExpr) × ExprSmall e

abbrev inner_limits : Limits-F Name Note KeptLimits KeptNode KeptExpr → Limits-F Name Note NotedLimits NotedNode NotedExpr
inner_limits = map-Limits Name Note KeptLimits KeptNode KeptExpr NotedLimits NotedNode NotedExpr (λ e. e.0) (λ e. e.0) (λ e. e.0)

abbrev inner_node : Node-F Name Note KeptLimits KeptNode KeptExpr → NotedLayer
inner_node = map-Node Name Note KeptLimits KeptNode KeptExpr NotedLimits NotedNode NotedExpr (λ e. e.0) (λ e. e.0) (λ e. e.0)

abbrev inner_expr : Expr-F Name Note KeptLimits KeptNode KeptExpr → Expr-F Name Note NotedLimits NotedNode NotedExpr
inner_expr = map-Expr Name Note KeptLimits KeptNode KeptExpr NotedLimits NotedNode NotedExpr (λ e. e.0) (λ e. e.0) (λ e. e.0)

abbrev part_limits : Limits-F Name Note NotedLimits NotedNode NotedExpr → Limits-F Name Note LimitsPart NodePart Part
part_limits = map-Limits Name Note NotedLimits NotedNode NotedExpr LimitsPart NodePart Part part_of_limits part_of_node part_of

abbrev part_node : NotedLayer → Node-F Name Note LimitsPart NodePart Part
part_node = map-Node Name Note NotedLimits NotedNode NotedExpr LimitsPart NodePart Part part_of_limits part_of_node part_of

abbrev part_expr : Expr-F Name Note NotedLimits NotedNode NotedExpr → Expr-F Name Note LimitsPart NodePart Part
part_expr = map-Expr Name Note NotedLimits NotedNode NotedExpr LimitsPart NodePart Part part_of_limits part_of_node part_of

abbrev held_limits : Limits-F Name Note NotedLimits NotedNode NotedExpr → Limits-F Name Note ℕ ℕ ℕ
held_limits = map-Limits Name Note NotedLimits NotedNode NotedExpr ℕ ℕ ℕ depth_of_limits depth_of_node depth_of_expr

abbrev held_node : NotedLayer → Node-F Name Note ℕ ℕ ℕ
held_node = map-Node Name Note NotedLimits NotedNode NotedExpr ℕ ℕ ℕ depth_of_limits depth_of_node depth_of_expr

abbrev held_expr : Expr-F Name Note NotedLimits NotedNode NotedExpr → Expr-F Name Note ℕ ℕ ℕ
held_expr = map-Expr Name Note NotedLimits NotedNode NotedExpr ℕ ℕ ℕ depth_of_limits depth_of_node depth_of_expr

limits_step : (y : Limits-F Name Note KeptLimits KeptNode KeptExpr) → LimitsFits (limits_depth (held_limits (inner_limits y))) (limits_parts (part_limits (inner_limits y)))
limits_step (Limits-F.Count e at) = λ size p locals k. omega (arith, (e.1 p locals k).0)
limits_step (Limits-F.ByteCount e at) = λ size p locals k.
    omega (arith, (e.1 p locals k).0, elements_in_deep size (part_of e.0).ctype at ((part_of e.0).value p locals k))
limits_step (Limits-F.Between e f at) = λ size p locals k. omega arith
limits_step (Limits-F.Unknown at) = λ size p locals k. omega arith

-- what has a value alone
bare_holds : (d : ℕ) (p : Typed) (t : CType) (at : Pos) (e : Expr) → depth e ≤ 2 + 3 * d → NodeHolds d e (nowhere at) (address_at p.layout t (nowhere at))
bare_holds d p t at e h = (h, omega arith, omega (arith, address_deep p.layout t (nowhere at)))

-- what lies at a place
there_holds : (d : ℕ) (p : Typed) (t : CType) (e : Expr) (q : Place) → depth e ≤ 1 + place_depth q → place_depth q ≤ 1 + 3 * d → NodeHolds d e q (address_at p.layout t q)
there_holds d p t e q h i = (omega (arith, h, i), i, omega (arith, i, address_deep p.layout t q))

node_step : (y : Node-F Name Note KeptLimits KeptNode KeptExpr) → NodeFits (node_depth (held_node (inner_node y))) (node_parts (part_node (inner_node y)))
node_step (Node-F.Number n u) = λ a at p locals k. bare_holds 0 p a.ctype at (Number n) (omega arith)
node_step (Node-F.Text s) = λ a at p locals k. bare_holds 0 p a.ctype at (Array (address_of p k) (length s)) (omega arith)
node_step Node-F.Null = λ a at p locals k. bare_holds 0 p a.ctype at (Number 0) (omega arith)
node_step (Node-F.Name n) = λ a at p locals k.
    let q = name_place p a.ctype at n in
    let h = name_place_deep p a.ctype at n in
    (omega (arith, named_deep p locals a at n), omega (arith, h), omega (arith, h, address_deep p.layout a.ctype q))
node_step (Node-F.Un op.Deref e) = λ a at p locals k.
    let v = (part_of e.0).value p locals k in
    let q = target_place p.layout (part_of e.0).ctype at v in
    let h = (e.1 p locals k).0 in
    (omega (arith, read_deep p.layout a.ctype (count_of_kind (kind_of a.ctype)) q, h), omega (arith, h), omega (arith, h))
node_step (Node-F.Un op.Address e) = λ a at p locals k.
    bare_holds (depth_of_expr e.0) p a.ctype at ((part_of e.0).address p locals k) (omega (arith, (e.1 p locals k).2))
node_step (Node-F.Un o e) = λ a at p locals k.
    let v = (part_of e.0).value p locals k in
    bare_holds (depth_of_expr e.0) p a.ctype at (unary o at v) (omega (arith, unary_deep o at v, (e.1 p locals k).0))
node_step (Node-F.Bin o e f) = λ a at p locals k.
    let v = (part_of e.0).value p locals k in
    let w = (part_of f.0).value p locals (k + (part_of e.0).literals) in
    bare_holds (max (depth_of_expr e.0) (depth_of_expr f.0)) p a.ctype at (of_operands p.layout o (part_of e.0).ctype (part_of f.0).ctype at v w)
    (omega (
      arith,
      operands_deep p.layout o (part_of e.0).ctype (part_of f.0).ctype at v w,
      (e.1 p locals k).0,
      (f.1 p locals (k + (part_of e.0).literals)).0,
    ))
node_step (Node-F.Pick e f g) = λ a at p locals k.
    let j = k + (part_of e.0).literals in
    let i = k + (part_of e.0).literals + (part_of f.0).literals in
    bare_holds (max (max (depth_of_expr e.0) (depth_of_expr f.0)) (depth_of_expr g.0)) p a.ctype at
    (Choice ((part_of e.0).value p locals k) ((part_of f.0).value p locals j) ((part_of g.0).value p locals i))
    (omega (arith, (e.1 p locals k).0, (f.1 p locals j).0, (g.1 p locals i).0))
node_step (Node-F.Index e f) = λ a at p locals k.
    let v = (part_of e.0).value p locals k in
    let w = (part_of f.0).value p locals (k + (part_of e.0).literals) in
    let q = element_place p.layout (part_of e.0).ctype at (integer_of (part_of f.0).ctype) v w in
    let g = (e.1 p locals k).0 in
    let h = (f.1 p locals (k + (part_of e.0).literals)).0 in (
      omega (arith, read_deep p.layout a.ctype (count_of_kind (kind_of a.ctype)) q, g, h),
      omega (arith, g, h),
      omega (arith, operands_deep p.layout op.Add (part_of e.0).ctype (part_of f.0).ctype at v w, g, h),
    )
node_step (Node-F.Dot e n m) = λ a at p locals k.
    let tag = tag_of (part_of e.0).ctype in
    let q = member_place p.layout tag n ((part_of e.0).place p locals k) in
    let count = count_of_member p.layout tag n in
    there_holds (depth_of_expr e.0) p a.ctype (read_at p.layout a.ctype count q) q (read_deep p.layout a.ctype count q) (omega (arith, (e.1 p locals k).1))
node_step (Node-F.Arrow e n m) = λ a at p locals k.
    let v = (part_of e.0).value p locals k in
    let tag = tag_of (element_of (part_of e.0).ctype) in
    let q = member_place p.layout tag n (target_place p.layout (part_of e.0).ctype at v) in
    let count = count_of_member p.layout tag n in
    there_holds (depth_of_expr e.0) p a.ctype (read_at p.layout a.ctype count q) q (read_deep p.layout a.ctype count q) (omega (arith, (e.1 p locals k).0))
node_step (Node-F.Cast w e) = λ a at p locals k.
    let v = (part_of e.0).value p locals k in
    bare_holds (depth_of_expr e.0) p a.ctype at (cast (type_written w) (part_of e.0).ctype v) (omega (arith, cast_deep (type_written w) (part_of e.0).ctype v, (e.1 p locals k).0))
node_step (Node-F.Size w) = λ a at p locals k. bare_holds 0 p a.ctype at (Number (size_of p.layout (type_written w))) (omega arith)
node_step (Node-F.Trusted w e None) = λ a at p locals k.
    bare_holds (max (depth_of_expr e.0) 0) p a.ctype at (Trusted (pointee_of p.layout (type_written w)) (form_if None) ((part_of e.0).value p locals k) (Number 1))
    (omega (arith, (e.1 p locals k).0))
node_step (Node-F.Trusted w e (Some l)) = λ a at p locals k.
    let size = size_behind p.layout (type_written w) in
    let j = k + (part_of e.0).literals in
    bare_holds (max (depth_of_expr e.0) (depth_of_limits l.0)) p a.ctype at
    (Trusted (pointee_of p.layout (type_written w)) (part_of_limits l.0).form ((part_of e.0).value p locals k) ((part_of_limits l.0).elements size p locals j))
    (omega (arith, (e.1 p locals k).0, l.1 size p locals j))
node_step (Node-F.Tested w e None) = λ a at p locals k.
    bare_holds (max (depth_of_expr e.0) 0) p a.ctype at (Tested (size_behind p.layout (type_written w)) (form_if None) at ((part_of e.0).value p locals k) (Number 1))
    (omega (arith, (e.1 p locals k).0))
node_step (Node-F.Tested w e (Some l)) = λ a at p locals k.
    let size = size_behind p.layout (type_written w) in
    let j = k + (part_of e.0).literals in
    bare_holds (max (depth_of_expr e.0) (depth_of_limits l.0)) p a.ctype at
    (Tested size (part_of_limits l.0).form at ((part_of e.0).value p locals k) ((part_of_limits l.0).elements size p locals j))
    (omega (arith, (e.1 p locals k).0, l.1 size p locals j))
node_step (Node-F.Call n es) = λ a at p locals k. bare_holds (inside_each highest (λ (d : ℕ). d) (map depth_of_expr (map (λ (e : KeptExpr). e.0) es))) p a.ctype at outside (omega arith)
node_step (Node-F.Calloc w e x) = λ a at p locals k. bare_holds (depth_of_expr e.0) p a.ctype at outside (omega arith)

expr_step : (y : Expr-F Name Note KeptLimits KeptNode KeptExpr) → ExprFits (expr_depth (held_expr (inner_expr y))) (expr_parts (part_expr (inner_expr y)))
expr_step y = λ p locals k.
    let h = y.node.1 y.note y.pos p locals k in
    (omega (arith, h.0), omega (arith, h.1), omega (arith, h.2))

carried : {A B : Type 0} (P : A → B → Type 0) {a c : A} {b d : B} → a ≡ c → b ≡ d → P c d → P a b
carried P {a} {c} {b} {d} e f h = subst (λ x. P x b) (sym e) (subst (λ y. P c y) (sym f) h)

limits_by : (x : Limits-F Name Note NotedLimits NotedNode NotedExpr) (y : Limits-F Name Note KeptLimits KeptNode KeptExpr) → inner_limits y ≡ x → LimitsSmall (roll-Limits Name Note x)
limits_by x y is =
    carried LimitsFits (fold-roll-Limits Name Note ℕ ℕ ℕ limits_depth node_depth expr_depth x)
    (fold-roll-Limits Name Note LimitsPart NodePart Part limits_parts node_parts expr_parts x)
    (subst (λ z. LimitsFits (limits_depth (held_limits z)) (limits_parts (part_limits z))) is (limits_step y))

node_by : (x : NotedLayer) (y : Node-F Name Note KeptLimits KeptNode KeptExpr) → inner_node y ≡ x → NodeSmall (roll-Node Name Note x)
node_by x y is =
    carried NodeFits (fold-roll-Node Name Note ℕ ℕ ℕ limits_depth node_depth expr_depth x)
    (fold-roll-Node Name Note LimitsPart NodePart Part limits_parts node_parts expr_parts x)
    (subst (λ z. NodeFits (node_depth (held_node z)) (node_parts (part_node z))) is (node_step y))

expr_by : (x : Expr-F Name Note NotedLimits NotedNode NotedExpr) (y : Expr-F Name Note KeptLimits KeptNode KeptExpr) → inner_expr y ≡ x → ExprSmall (roll-Expr Name Note x)
expr_by x y is =
    carried ExprFits (fold-roll-Expr Name Note ℕ ℕ ℕ limits_depth node_depth expr_depth x)
    (fold-roll-Expr Name Note LimitsPart NodePart Part limits_parts node_parts expr_parts x)
    (subst (λ z. ExprFits (expr_depth (held_expr z)) (expr_parts (part_expr z))) is (expr_step y))

expr_small : (e : NotedExpr) → ExprSmall e
expr_small = ind-Expr Name Note LimitsSmall NodeSmall ExprSmall limits_by node_by expr_by

pub value_deep : (p : Typed) (locals : List Variable) (k : ℕ) (e : NotedExpr) → depth (expr_elaborated p locals k e) + 1 ≤ 3 * depth_of_expr e
value_deep p locals k e = (expr_small e p locals k).0

pub place_deep : (p : Typed) (locals : List Variable) (k : ℕ) (e : NotedExpr) → place_depth (place_elaborated p locals k e) + 2 ≤ 3 * depth_of_expr e
place_deep p locals k e = (expr_small e p locals k).1
