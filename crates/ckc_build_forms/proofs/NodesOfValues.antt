-- The value of an expression and its address have at most six nodes for each node of the text, less 3, or less 2 if
-- their range is a value; its place has 4 less.
use Rattle.std.proofs.Common.{◌≡◌, ℕ, ◌+◌, ◌*◌, ◌≤◌, Bool, false, List, [], ◌++◌, map, length, sym, subst, arith}
use Rattle.std.specs.Prelude.{Some, None}
use Rattle.ckc_base.specs.Lists.{concatenation}
use Rattle.ckc_base.specs.declared.places.Pos.{Pos}
use Rattle.ckc_types.specs.declared.types.CType.{CType}
use Rattle.ckc_syntax.specs.declared.tree.Name.{Name}
use Rattle.ckc_syntax.specs.declared.tree.TreeOp.TheVariants as op
use Rattle.ckc_syntax.specs.declared.tree.Limits.{Limits-F, map-Limits, roll-Limits, fold-roll-Limits}
use Rattle.ckc_syntax.specs.declared.tree.Node.{Node-F, map-Node, roll-Node, fold-roll-Node}
use Rattle.ckc_syntax.specs.declared.tree.Expr.{Expr-F, map-Expr, ind-Expr, roll-Expr, fold-roll-Expr}
use Rattle.ckc_syntax.specs.Inside.{listed, inside_limits}
use Rattle.ckc_syntax_limits.specs.Marks.{Mark, node_marks, expr_marks, marks_of_limits, marks_of_node, marks_of_expr}
use Rattle.ckc_typed.specs.declared.environment.Variable.{Variable}
use Rattle.ckc_typed.specs.declared.typed.Note.{Note}
use Rattle.ckc_typed.specs.declared.typed.Typed.{Typed}
use Rattle.ckc_typed.specs.Trees.{NotedLimits, NotedNode, NotedExpr, NotedLayer}
use Rattle.ckc_typed.specs.Types.{type_written, kind_of, element_of}
use Rattle.ckc_typed.specs.Constants.{size_of}
use Rattle.ckc_source.specs.Code.{Expr, Number, Array, Choice, Tested, Trusted}
use Rattle.ckc_checks_operands.specs.Compilable.{index_nodes, range_nodes, value_nodes, expr_nodes}
use Rattle.ckc_build_values.specs.Kinds.{integer_of, count_of_kind, size_behind, pointee_of, tag_of}
use Rattle.ckc_build_values.specs.Members.{count_of_member}
use Rattle.ckc_build_values.specs.Places.{Place, element_place, target_place, member_place, nowhere, name_place, read_at, address_at}
use Rattle.ckc_build_values.specs.Operators.{outside, cast, unary, of_operands, elements_in}
use Rattle.ckc_build_values.specs.Names.{address_of}
use Rattle.ckc_build_values.specs.Expressions.{Part, NodePart, LimitsPart, limits_parts, node_parts, expr_parts, form_if, part_of, part_of_node, part_of_limits, expr_elaborated, place_elaborated}
use Rattle.ckc_build_sizes.proofs.Marked.{marked, marked-append}
use Rattle.ckc_build_forms.proofs.NodesOfParts.{place_nodes, HasFew, range_most, index_most, element_place_most, target_place_most, member_place_most, name_place_most, read_most, address_most, named_most, cast_most, unary_most, operands_most, elements_in_most, checked_most, trusted_most, choice_most}

-- what an expression means has few nodes, by its marks
abbrev pub ExprFits : List Mark → Part → Type 0
ExprFits ms q = (p : Typed) (locals : List Variable) (k : ℕ) →
    HasFew (6 * marked ms) (q.value p locals k) × (place_nodes (q.place p locals k) + 4 ≤ 6 * marked ms)
    × HasFew (6 * marked ms) (q.address p locals k)

abbrev Light : ℕ → Expr → Type 0
Light m e = (r : Bool) → value_nodes r e ≤ 3 + 6 * m + range_nodes r

-- a node is one of the text with what is in it
abbrev NodeHolds : ℕ → Expr → Place → Expr → Type 0
NodeHolds m e q a = Light m e × (place_nodes q ≤ 2 + 6 * m) × Light m a

abbrev NodeFits : List Mark → NodePart → Type 0
NodeFits ms q = (a : Note) (at : Pos) (p : Typed) (locals : List Variable) (k : ℕ) →
    NodeHolds (marked ms) (q.value a at p locals k) (q.place a at p locals k) (q.address a at p locals k)

-- bounds need have no node of the text
abbrev CountHolds : ℕ → Expr → Type 0
CountHolds m k = (index_nodes k (expr_nodes k) ≤ 6 * m) × (expr_nodes k ≤ 1 + 6 * m)

abbrev LimitsFits : List Mark → LimitsPart → Type 0
LimitsFits ms q = (size : ℕ) (p : Typed) (locals : List Variable) (k : ℕ) → CountHolds (marked ms) (q.elements size p locals k)

abbrev LimitsSmall : NotedLimits → Type 0
LimitsSmall l = LimitsFits (marks_of_limits l) (part_of_limits l)

abbrev NodeSmall : NotedNode → Type 0
NodeSmall n = NodeFits (marks_of_node n) (part_of_node n)

abbrev ExprSmall : NotedExpr → Type 0
ExprSmall e = ExprFits (marks_of_expr e) (part_of e)

abbrev KeptLimits : Type 0
KeptLimits = (l : NotedLimits) × LimitsSmall l

abbrev KeptNode : Type 0
KeptNode = (n : NotedNode) × NodeSmall n

abbrev KeptExpr : Type 0
KeptExpr = (e : NotedExpr) × ExprSmall e

abbrev inner_limits : Limits-F Name Note KeptLimits KeptNode KeptExpr → Limits-F Name Note NotedLimits NotedNode NotedExpr
inner_limits = map-Limits Name Note KeptLimits KeptNode KeptExpr NotedLimits NotedNode NotedExpr (λ e. e.0) (λ e. e.0) (λ e. e.0)

abbrev inner_node : Node-F Name Note KeptLimits KeptNode KeptExpr → NotedLayer
inner_node = map-Node Name Note KeptLimits KeptNode KeptExpr NotedLimits NotedNode NotedExpr (λ e. e.0) (λ e. e.0) (λ e. e.0)

abbrev inner_expr : Expr-F Name Note KeptLimits KeptNode KeptExpr → Expr-F Name Note NotedLimits NotedNode NotedExpr
inner_expr = map-Expr Name Note KeptLimits KeptNode KeptExpr NotedLimits NotedNode NotedExpr (λ e. e.0) (λ e. e.0) (λ e. e.0)

abbrev part_limits : Limits-F Name Note NotedLimits NotedNode NotedExpr → Limits-F Name Note LimitsPart NodePart Part
part_limits = map-Limits Name Note NotedLimits NotedNode NotedExpr LimitsPart NodePart Part part_of_limits part_of_node part_of

abbrev part_node : NotedLayer → Node-F Name Note LimitsPart NodePart Part
part_node = map-Node Name Note NotedLimits NotedNode NotedExpr LimitsPart NodePart Part part_of_limits part_of_node part_of

abbrev part_expr : Expr-F Name Note NotedLimits NotedNode NotedExpr → Expr-F Name Note LimitsPart NodePart Part
part_expr = map-Expr Name Note NotedLimits NotedNode NotedExpr LimitsPart NodePart Part part_of_limits part_of_node part_of

abbrev pub Marks : Type 0
Marks = List Mark

abbrev held_limits : Limits-F Name Note NotedLimits NotedNode NotedExpr → Limits-F Name Note Marks Marks Marks
held_limits = map-Limits Name Note NotedLimits NotedNode NotedExpr Marks Marks Marks marks_of_limits marks_of_node marks_of_expr

abbrev pub held_node : NotedLayer → Node-F Name Note Marks Marks Marks
held_node = map-Node Name Note NotedLimits NotedNode NotedExpr Marks Marks Marks marks_of_limits marks_of_node marks_of_expr

abbrev held_expr : Expr-F Name Note NotedLimits NotedNode NotedExpr → Expr-F Name Note Marks Marks Marks
held_expr = map-Expr Name Note NotedLimits NotedNode NotedExpr Marks Marks Marks marks_of_limits marks_of_node marks_of_expr

count_holds : (m : ℕ) (k : Expr) → expr_nodes k ≤ 6 * m → CountHolds m k
count_holds m k h = (omega (arith, h, index_most k), omega (arith, h))

none_holds : (m : ℕ) → CountHolds m outside
none_holds m = (omega arith, omega arith)

limits_step : (y : Limits-F Name Note KeptLimits KeptNode KeptExpr) → LimitsFits (inside_limits listed (λ e. e) (held_limits (inner_limits y))) (limits_parts (part_limits (inner_limits y)))
limits_step (Limits-F.Count e at) = λ size p locals k.
    count_holds (marked (marks_of_expr e.0)) ((part_of e.0).value p locals k) (omega (arith, (e.1 p locals k).0 false))
limits_step (Limits-F.ByteCount e at) = λ size p locals k.
    let v = (part_of e.0).value p locals k in
    count_holds (marked (marks_of_expr e.0)) (elements_in size (part_of e.0).ctype at v)
    (omega (arith, (e.1 p locals k).0 false, elements_in_most size (part_of e.0).ctype at v))
limits_step (Limits-F.Between e f at) = λ size p locals k. none_holds (marked (marks_of_expr e.0 ++ marks_of_expr f.0))
limits_step (Limits-F.Unknown at) = λ size p locals k. none_holds 0

number_light : (m n : ℕ) → Light m (Number n)
number_light m n r = omega (arith, range_most r)

array_light : (m at bytes : ℕ) → Light m (Array at bytes)
array_light m at bytes r = omega (arith, range_most r)

-- what has a value alone
bare_holds : (m : ℕ) (p : Typed) (t : CType) (at : Pos) (e : Expr) → Light m e → NodeHolds m e (nowhere at) (address_at p.layout t (nowhere at))
bare_holds m p t at e h = (h, omega arith, λ r. omega (arith, range_most r, address_most p.layout t (nowhere at) r))

-- what lies at a place
there_holds : (m : ℕ) (p : Typed) (t : CType) (e : Expr) (q : Place) → ((r : Bool) → value_nodes r e ≤ range_nodes r + place_nodes q) → place_nodes q ≤ 2 + 6 * m
    → NodeHolds m e q (address_at p.layout t q)
there_holds m p t e q h i = ((λ r. omega (arith, range_most r, h r, i)), i, (λ r. omega (arith, range_most r, address_most p.layout t q r, i)))

node_step : (y : Node-F Name Note KeptLimits KeptNode KeptExpr) → NodeFits (node_marks (held_node (inner_node y))) (node_parts (part_node (inner_node y)))
node_step (Node-F.Number n u) = λ a at p locals k. bare_holds 0 p a.ctype at (Number n) (number_light 0 n)
node_step (Node-F.Text s) = λ a at p locals k. bare_holds 0 p a.ctype at (Array (address_of p k) (length s)) (array_light 0 (address_of p k) (length s))
node_step Node-F.Null = λ a at p locals k. bare_holds 0 p a.ctype at (Number 0) (number_light 0 0)
node_step (Node-F.Name n) = λ a at p locals k.
    let q = name_place p a.ctype at n in
    let h = name_place_most p a.ctype at n in
    ((λ r. omega (arith, named_most p locals a at n r)), omega (arith, h), (λ r. omega (arith, range_most r, h, address_most p.layout a.ctype q r)))
node_step (Node-F.Un op.Deref e) = λ a at p locals k.
    let m = 6 * marked (marks_of_expr e.0) in
    let v = (part_of e.0).value p locals k in
    let q = target_place p.layout (part_of e.0).ctype at v in
    let h = (e.1 p locals k).0 in
    let i = target_place_most p.layout (part_of e.0).ctype at v m h in
    ((λ r. omega (arith, range_most r, read_most p.layout a.ctype (count_of_kind (kind_of a.ctype)) q r, i)), omega (arith, i), (λ r. omega (arith, h r)))
node_step (Node-F.Un op.Address e) = λ a at p locals k.
    bare_holds (marked (marks_of_expr e.0)) p a.ctype at ((part_of e.0).address p locals k) (λ r. omega (arith, (e.1 p locals k).2 r))
node_step (Node-F.Un o e) = λ a at p locals k.
    let m = 6 * marked (marks_of_expr e.0) in
    let v = (part_of e.0).value p locals k in
    bare_holds (marked (marks_of_expr e.0)) p a.ctype at (unary o at v) (λ r. omega (arith, unary_most o at v m (e.1 p locals k).0 r))
node_step (Node-F.Bin o e f) = λ a at p locals k.
    let m = 6 * marked (marks_of_expr e.0) in
    let n = 6 * marked (marks_of_expr f.0) in
    let v = (part_of e.0).value p locals k in
    let w = (part_of f.0).value p locals (k + (part_of e.0).literals) in
    let g = (e.1 p locals k).0 in
    let h = (f.1 p locals (k + (part_of e.0).literals)).0 in
    bare_holds (marked (marks_of_expr e.0 ++ marks_of_expr f.0)) p a.ctype at (of_operands p.layout o (part_of e.0).ctype (part_of f.0).ctype at v w)
    (λ r. omega (
      arith,
      operands_most p.layout o (part_of e.0).ctype (part_of f.0).ctype at v w m n g h r,
      marked-append (marks_of_expr e.0) (marks_of_expr f.0),
    ))
node_step (Node-F.Pick e f g) = λ a at p locals k.
    let j = k + (part_of e.0).literals in
    let i = k + (part_of e.0).literals + (part_of f.0).literals in
    let l = 6 * marked (marks_of_expr e.0) in
    let m = 6 * marked (marks_of_expr f.0) in
    let n = 6 * marked (marks_of_expr g.0) in
    let u = (part_of e.0).value p locals k in
    let v = (part_of f.0).value p locals j in
    let w = (part_of g.0).value p locals i in
    bare_holds (marked (marks_of_expr e.0 ++ marks_of_expr f.0 ++ marks_of_expr g.0)) p a.ctype at (Choice u v w)
    (λ r. omega (
      arith,
      choice_most u v w l m n (e.1 p locals k).0 (f.1 p locals j).0 (g.1 p locals i).0 r,
      marked-append (marks_of_expr e.0 ++ marks_of_expr f.0) (marks_of_expr g.0),
      marked-append (marks_of_expr e.0) (marks_of_expr f.0),
    ))
node_step (Node-F.Index e f) = λ a at p locals k.
    let m = 6 * marked (marks_of_expr e.0) in
    let n = 6 * marked (marks_of_expr f.0) in
    let v = (part_of e.0).value p locals k in
    let w = (part_of f.0).value p locals (k + (part_of e.0).literals) in
    let q = element_place p.layout (part_of e.0).ctype at (integer_of (part_of f.0).ctype) v w in
    let x = marked-append (marks_of_expr e.0) (marks_of_expr f.0) in
    let g = (e.1 p locals k).0 in
    let h = (f.1 p locals (k + (part_of e.0).literals)).0 in
    let i = element_place_most p.layout (part_of e.0).ctype at (integer_of (part_of f.0).ctype) v w m n g h in (
      (λ r. omega (arith, range_most r, read_most p.layout a.ctype (count_of_kind (kind_of a.ctype)) q r, i, x)),
      omega (arith, i, x),
      (λ r. omega (arith, operands_most p.layout op.Add (part_of e.0).ctype (part_of f.0).ctype at v w m n g h r, x)),
    )
node_step (Node-F.Dot e n m) = λ a at p locals k.
    let tag = tag_of (part_of e.0).ctype in
    let q = member_place p.layout tag n ((part_of e.0).place p locals k) in
    let count = count_of_member p.layout tag n in
    there_holds (marked (marks_of_expr e.0)) p a.ctype (read_at p.layout a.ctype count q) q (read_most p.layout a.ctype count q)
    (omega (arith, member_place_most p.layout tag n ((part_of e.0).place p locals k), (e.1 p locals k).1))
node_step (Node-F.Arrow e n m) = λ a at p locals k.
    let v = (part_of e.0).value p locals k in
    let tag = tag_of (element_of (part_of e.0).ctype) in
    let target = target_place p.layout (part_of e.0).ctype at v in
    let q = member_place p.layout tag n target in
    let count = count_of_member p.layout tag n in
    there_holds (marked (marks_of_expr e.0)) p a.ctype (read_at p.layout a.ctype count q) q (read_most p.layout a.ctype count q)
    (omega (
      arith,
      member_place_most p.layout tag n target,
      target_place_most p.layout (part_of e.0).ctype at v (6 * marked (marks_of_expr e.0)) (e.1 p locals k).0,
    ))
node_step (Node-F.Cast w e) = λ a at p locals k.
    let m = 6 * marked (marks_of_expr e.0) in
    let v = (part_of e.0).value p locals k in
    bare_holds (marked (marks_of_expr e.0)) p a.ctype at (cast (type_written w) (part_of e.0).ctype v)
    (λ r. omega (arith, cast_most (type_written w) (part_of e.0).ctype v m (e.1 p locals k).0 r))
node_step (Node-F.Size w) = λ a at p locals k. bare_holds 0 p a.ctype at (Number (size_of p.layout (type_written w))) (number_light 0 (size_of p.layout (type_written w)))
node_step (Node-F.Trusted w e None) = λ a at p locals k.
    let m = 6 * marked (marks_of_expr e.0) in
    let v = (part_of e.0).value p locals k in
    let to = pointee_of p.layout (type_written w) in
    bare_holds (marked (marks_of_expr e.0 ++ [])) p a.ctype at (Trusted to (form_if None) v (Number 1))
    (λ r. omega (arith, marked-append (marks_of_expr e.0) [], trusted_most to (form_if None) v (Number 1) m 0 (e.1 p locals k).0 (omega arith) r))
node_step (Node-F.Trusted w e (Some l)) = λ a at p locals k.
    let m = 6 * marked (marks_of_expr e.0) in
    let n = 6 * marked (marks_of_limits l.0) in
    let v = (part_of e.0).value p locals k in
    let to = pointee_of p.layout (type_written w) in
    let size = size_behind p.layout (type_written w) in
    let j = k + (part_of e.0).literals in
    let count = (part_of_limits l.0).elements size p locals j in
    bare_holds (marked (marks_of_expr e.0 ++ marks_of_limits l.0)) p a.ctype at (Trusted to (part_of_limits l.0).form v count)
    (λ r. omega (
      arith,
      marked-append (marks_of_expr e.0) (marks_of_limits l.0),
      trusted_most to (part_of_limits l.0).form v count m n (e.1 p locals k).0 (l.1 size p locals j).1 r,
    ))
node_step (Node-F.Tested w e None) = λ a at p locals k.
    let m = 6 * marked (marks_of_expr e.0) in
    let v = (part_of e.0).value p locals k in
    let size = size_behind p.layout (type_written w) in
    bare_holds (marked (marks_of_expr e.0 ++ [])) p a.ctype at (Tested size (form_if None) at v (Number 1))
    (λ r. omega (arith, marked-append (marks_of_expr e.0) [], checked_most size (form_if None) at v (Number 1) m 0 (e.1 p locals k).0 (omega arith) (omega arith) r))
node_step (Node-F.Tested w e (Some l)) = λ a at p locals k.
    let m = 6 * marked (marks_of_expr e.0) in
    let n = 6 * marked (marks_of_limits l.0) in
    let v = (part_of e.0).value p locals k in
    let size = size_behind p.layout (type_written w) in
    let j = k + (part_of e.0).literals in
    let count = (part_of_limits l.0).elements size p locals j in
    bare_holds (marked (marks_of_expr e.0 ++ marks_of_limits l.0)) p a.ctype at (Tested size (part_of_limits l.0).form at v count)
    (λ r. omega (
      arith,
      marked-append (marks_of_expr e.0) (marks_of_limits l.0),
      checked_most size (part_of_limits l.0).form at v count m n (e.1 p locals k).0 (l.1 size p locals j).0 (l.1 size p locals j).1 r,
    ))
node_step (Node-F.Call n es) = λ a at p locals k.
    let m = marked (concatenation (map marks_of_expr (map (λ (e : KeptExpr). e.0) es))) in bare_holds m p a.ctype at outside (number_light m 0)
node_step (Node-F.Calloc w e x) = λ a at p locals k. bare_holds (marked (marks_of_expr e.0)) p a.ctype at outside (number_light (marked (marks_of_expr e.0)) 0)

expr_step : (y : Expr-F Name Note KeptLimits KeptNode KeptExpr) → ExprFits (expr_marks (held_expr (inner_expr y))) (expr_parts (part_expr (inner_expr y)))
expr_step y = λ p locals k.
    let h = y.node.1 y.note y.pos p locals k in
    ((λ r. omega (arith, h.0 r)), omega (arith, h.1), (λ r. omega (arith, h.2 r)))

pub carried : {A B : Type 0} (P : A → B → Type 0) {a c : A} {b d : B} → a ≡ c → b ≡ d → P c d → P a b
carried P {a} {c} {b} {d} e f h = subst (λ x. P x b) (sym e) (subst (λ y. P c y) (sym f) h)

limits_by : (x : Limits-F Name Note NotedLimits NotedNode NotedExpr) (y : Limits-F Name Note KeptLimits KeptNode KeptExpr) → inner_limits y ≡ x → LimitsSmall (roll-Limits Name Note x)
limits_by x y is =
    carried LimitsFits (fold-roll-Limits Name Note Marks Marks Marks (inside_limits listed (λ e. e)) node_marks expr_marks x)
    (fold-roll-Limits Name Note LimitsPart NodePart Part limits_parts node_parts expr_parts x)
    (subst (λ z. LimitsFits (inside_limits listed (λ e. e) (held_limits z)) (limits_parts (part_limits z))) is (limits_step y))

node_by : (x : NotedLayer) (y : Node-F Name Note KeptLimits KeptNode KeptExpr) → inner_node y ≡ x → NodeSmall (roll-Node Name Note x)
node_by x y is =
    carried NodeFits (fold-roll-Node Name Note Marks Marks Marks (inside_limits listed (λ e. e)) node_marks expr_marks x)
    (fold-roll-Node Name Note LimitsPart NodePart Part limits_parts node_parts expr_parts x)
    (subst (λ z. NodeFits (node_marks (held_node z)) (node_parts (part_node z))) is (node_step y))

expr_by : (x : Expr-F Name Note NotedLimits NotedNode NotedExpr) (y : Expr-F Name Note KeptLimits KeptNode KeptExpr) → inner_expr y ≡ x → ExprSmall (roll-Expr Name Note x)
expr_by x y is =
    carried ExprFits (fold-roll-Expr Name Note Marks Marks Marks (inside_limits listed (λ e. e)) node_marks expr_marks x)
    (fold-roll-Expr Name Note LimitsPart NodePart Part limits_parts node_parts expr_parts x)
    (subst (λ z. ExprFits (expr_marks (held_expr z)) (expr_parts (part_expr z))) is (expr_step y))

expr_small : (e : NotedExpr) → ExprSmall e
expr_small = ind-Expr Name Note LimitsSmall NodeSmall ExprSmall limits_by node_by expr_by

pub value_small : (p : Typed) (locals : List Variable) (k : ℕ) (e : NotedExpr) → HasFew (6 * marked (marks_of_expr e)) (expr_elaborated p locals k e)
value_small p locals k e = (expr_small e p locals k).0

pub place_small : (p : Typed) (locals : List Variable) (k : ℕ) (e : NotedExpr) → place_nodes (place_elaborated p locals k e) + 4 ≤ 6 * marked (marks_of_expr e)
place_small p locals k e = (expr_small e p locals k).1
