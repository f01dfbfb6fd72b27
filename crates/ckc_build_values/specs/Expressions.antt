-- What expressions mean (ISO C11, 6.5; Checked C specification 0.9, section 3).
use Rattle.std.specs.Prelude.{ℕ, ◌+◌, List, length, Option, None, Some}
use Rattle.ckc_base.specs.declared.places.Pos.{Pos}
use Rattle.ckc_types.specs.declared.types.Kind.{Kind}
use Rattle.ckc_types.specs.declared.types.Kind.TheVariants as kind
use Rattle.ckc_types.specs.declared.types.CType.{CType}
use Rattle.ckc_syntax.specs.Inside.{summed, inside_each, inside_if, inside_node}
use Rattle.ckc_syntax.specs.declared.tree.Name.{Name}
use Rattle.ckc_syntax.specs.declared.tree.Name.TheVariants as name
use Rattle.ckc_syntax.specs.declared.tree.TreeOp.{TreeOp}
use Rattle.ckc_syntax.specs.declared.tree.TreeOp.TheVariants as op
use Rattle.ckc_syntax.specs.declared.tree.Limits.{Limits-F, fold-Limits}
use Rattle.ckc_syntax.specs.declared.tree.Node.{Node-F, fold-Node}
use Rattle.ckc_syntax.specs.declared.tree.Expr.{Expr-F, fold-Expr}
use Rattle.ckc_typed.specs.declared.environment.Variable.{Variable}
use Rattle.ckc_typed.specs.declared.typed.Note.{Note}
use Rattle.ckc_typed.specs.declared.typed.Range.{Range}
use Rattle.ckc_typed.specs.declared.typed.Range.TheVariants as range
use Rattle.ckc_typed.specs.declared.typed.Typed.{Typed}
use Rattle.ckc_typed.specs.Trees.{NotedLimits, NotedExpr, NotedNode}
use Rattle.ckc_typed.specs.Types.{type_written, kind_of, element_of}
use Rattle.ckc_typed.specs.Constants.{size_of}
use Rattle.ckc_source.specs.declared.expr.Integer.{Integer}
use Rattle.ckc_source.specs.declared.expr.Integer.TheVariants.{Int}
use Rattle.ckc_source.specs.Code.{Expr, Number, Local, Limited, Array, Choice, Tested, Trusted}
use Rattle.ckc_build_values.specs.Kinds.{integer_of, count_of_kind, size_behind, pointee_of, tag_of}
use Rattle.ckc_build_values.specs.Members.{count_of_member}
use Rattle.ckc_build_values.specs.Names.{address_of, array_of, bytes_of, count_of_static}
use Rattle.ckc_build_values.specs.Ends.{limits_at}
use Rattle.ckc_build_values.specs.Operators.{outside, cast, unary, of_operands, elements_in}
use Rattle.ckc_build_values.specs.Places.{Place, object_place, name_place, nowhere, element_place, target_place, member_place, read_at, address_at}

-- ---- names

-- A pointer with a known range is read within it.
abbrev pub local_in : Typed → List Variable → CType → ℕ → Range → Expr
local_in p locals t k (range.Known l u) = Limited k (limits_at p locals t k l u)
local_in p locals t k range.Missing = Local k
local_in p locals t k range.Any = Local k

-- A used array is a pointer to its first element; a checked one has the range of its elements.
abbrev pub static_in : Typed → CType → Pos → ℕ → Option Kind → Expr
static_in p t at k None = read_at p.layout t (count_of_static p t (name.Static k)) (object_place p t at k)
static_in p t at k (Some kind.Raw) = Number (address_of p k)
static_in p t at k (Some kind.One) = Number (address_of p k)
static_in p t at k (Some kind.Arr) = Array (address_of p k) (bytes_of p k)
static_in p t at k (Some kind.Nt) = Array (address_of p k) (bytes_of p k)

-- what a name reads: a local or an object of file scope
abbrev pub named : Typed → List Variable → Note → Pos → Name → Expr
named p locals a at (name.Local k) = local_in p locals a.ctype k a.range
named p locals a at (name.Static k) = static_in p a.ctype at k (array_of p k)
named p locals a at n = outside

-- ---- what the parts of an expression mean

-- What an expression means in a typed text, in a function with these variables, if the next string literal has
-- this number among the static objects.
abbrev pub Meaning : Type 0 → Type 0
Meaning A = Typed → List Variable → ℕ → A

-- An expression: its value, its place if it has one, its address, its type, and how many string literals it has.
pub record Part : Type 0 where
  pub value : Meaning Expr
  pub place : Meaning Place
  pub address : Meaning Expr
  pub ctype : CType
  pub literals : ℕ

-- a node, which has the note and the place of its expression
pub record NodePart : Type 0 where
  pub value : Note → Pos → Meaning Expr
  pub place : Note → Pos → Meaning Place
  pub address : Note → Pos → Meaning Expr
  pub literals : ℕ

-- bounds in a bounds cast: how many elements of a size, and the type of that number
pub record LimitsPart : Type 0 where
  pub elements : ℕ → Meaning Expr
  pub form : Integer
  pub literals : ℕ

-- ---- string literals, in the order of the text

-- how many string literals are in the arguments of a call
abbrev pub all_literals : List Part → ℕ
all_literals = inside_each summed (λ (e : Part). e.literals)

-- how many string literals are in the bounds of a cast, which may have none
abbrev pub literals_if : Option LimitsPart → ℕ
literals_if = inside_if summed (λ (l : LimitsPart). l.literals)

-- how many string literals are in an expression
abbrev pub node_literals : Node-F Name Note LimitsPart NodePart Part → ℕ
node_literals (Node-F.Text bytes) = 1
node_literals n = inside_node summed (λ (l : LimitsPart). l.literals) (λ (e : Part). e.literals) n

-- ---- places: of objects by their names, of elements and of members

-- where an expression lies: at an object, an element or a member
abbrev pub node_place : Node-F Name Note LimitsPart NodePart Part → Note → Pos → Meaning Place
node_place (Node-F.Name n) a at p locals k = name_place p a.ctype at n
node_place (Node-F.Un op.Deref e) a at p locals k = target_place p.layout e.ctype at (e.value p locals k)
node_place (Node-F.Index e f) a at p locals k =
    element_place p.layout e.ctype at (integer_of f.ctype) (e.value p locals k) (f.value p locals (k + e.literals))
node_place (Node-F.Dot e n m) a at p locals k = member_place p.layout (tag_of e.ctype) n (e.place p locals k)
node_place (Node-F.Arrow e n m) a at p locals k =
    member_place p.layout (tag_of (element_of e.ctype)) n (target_place p.layout e.ctype at (e.value p locals k))
node_place node a at p locals k = nowhere at

-- ---- addresses: `&*p` is p, and `&p[e]` is p + e (ISO C11, 6.5.3.2)

-- the address that `&` before an expression gives
abbrev pub node_address : Node-F Name Note LimitsPart NodePart Part → Note → Pos → Meaning Expr
node_address (Node-F.Un op.Deref e) a at p locals k = e.value p locals k
node_address (Node-F.Index e f) a at p locals k =
    of_operands p.layout op.Add e.ctype f.ctype at (e.value p locals k) (f.value p locals (k + e.literals))
node_address node a at p locals k = address_at p.layout a.ctype (node_place node a at p locals k)

-- ---- values

-- the value of a unary operator before an operand
abbrev pub unary_value : TreeOp → Part → Note → Pos → Meaning Expr
unary_value op.Address e a at p locals k = e.address p locals k
unary_value op.Deref e a at p locals k =
    read_at p.layout a.ctype (count_of_kind (kind_of a.ctype)) (target_place p.layout e.ctype at (e.value p locals k))
unary_value o e a at p locals k = unary o at (e.value p locals k)

-- A bounds cast to `_Ptr` has no bounds: it is to one element.
abbrev pub elements_if : Option LimitsPart → ℕ → Meaning Expr
elements_if None size p locals k = Number 1
elements_if (Some l) size p locals k = l.elements size p locals k

-- the type of the number of elements in a bounds cast
abbrev pub form_if : Option LimitsPart → Integer
form_if None = Int
form_if (Some l) = l.form

-- what the value of an expression is in the program
abbrev pub node_value : Node-F Name Note LimitsPart NodePart Part → Note → Pos → Meaning Expr
node_value (Node-F.Number n unsigned) a at p locals k = Number n
node_value (Node-F.Text bytes) a at p locals k = Array (address_of p k) (length bytes)
node_value Node-F.Null a at p locals k = Number 0
node_value (Node-F.Name n) a at p locals k = named p locals a at n
node_value (Node-F.Un o e) a at p locals k = unary_value o e a at p locals k
node_value (Node-F.Bin o e f) a at p locals k =
    of_operands p.layout o e.ctype f.ctype at (e.value p locals k) (f.value p locals (k + e.literals))
node_value (Node-F.Pick e f g) a at p locals k =
    Choice (e.value p locals k) (f.value p locals (k + e.literals)) (g.value p locals (k + e.literals + f.literals))
node_value (Node-F.Index e f) a at p locals k =
    read_at p.layout a.ctype (count_of_kind (kind_of a.ctype))
    (element_place p.layout e.ctype at (integer_of f.ctype) (e.value p locals k) (f.value p locals (k + e.literals)))
node_value (Node-F.Dot e n m) a at p locals k =
    read_at p.layout a.ctype (count_of_member p.layout (tag_of e.ctype) n)
    (member_place p.layout (tag_of e.ctype) n (e.place p locals k))
node_value (Node-F.Arrow e n m) a at p locals k =
    read_at p.layout a.ctype (count_of_member p.layout (tag_of (element_of e.ctype)) n)
    (member_place p.layout (tag_of (element_of e.ctype)) n (target_place p.layout e.ctype at (e.value p locals k)))
node_value (Node-F.Cast w e) a at p locals k = cast (type_written w) e.ctype (e.value p locals k)
node_value (Node-F.Size w) a at p locals k = Number (size_of p.layout (type_written w))
node_value (Node-F.Trusted w e l) a at p locals k =
    Trusted (pointee_of p.layout (type_written w)) (form_if l) (e.value p locals k)
    (elements_if l (size_behind p.layout (type_written w)) p locals (k + e.literals))
node_value (Node-F.Tested w e l) a at p locals k =
    Tested (size_behind p.layout (type_written w)) (form_if l) at (e.value p locals k)
    (elements_if l (size_behind p.layout (type_written w)) p locals (k + e.literals))
node_value (Node-F.Call n es) a at p locals k = outside
node_value (Node-F.Calloc w e x) a at p locals k = outside

-- ---- the folds

-- what an expression means, once its type and its place are given
abbrev pub node_parts : Node-F Name Note LimitsPart NodePart Part → NodePart
node_parts node = record {
  value = node_value node;
  place = node_place node;
  address = node_address node;
  literals = node_literals node;
}

-- what an expression means with its own type and place
abbrev pub expr_parts : Expr-F Name Note LimitsPart NodePart Part → Part
expr_parts e = record {
  value = e.node.value e.note e.pos;
  place = e.node.place e.note e.pos;
  address = e.node.address e.note e.pos;
  ctype = e.note.ctype;
  literals = e.node.literals;
}

-- what the bounds in a bounds cast mean
abbrev pub limits_parts : Limits-F Name Note LimitsPart NodePart Part → LimitsPart
limits_parts (Limits-F.Count e at) = record {
  elements = λ size. e.value;
  form = integer_of e.ctype;
  literals = e.literals;
}
limits_parts (Limits-F.ByteCount e at) = record {
  elements = λ size p locals k. elements_in size e.ctype at (e.value p locals k);
  form = integer_of e.ctype;
  literals = e.literals;
}
limits_parts (Limits-F.Between e f at) = record { elements = λ size p locals k. outside; form = Int; literals = e.literals + f.literals }
limits_parts (Limits-F.Unknown at) = record { elements = λ size p locals k. outside; form = Int; literals = 0 }

-- what an expression of a typed text means
abbrev pub part_of : NotedExpr → Part
part_of = fold-Expr Name Note LimitsPart NodePart Part limits_parts node_parts expr_parts

abbrev pub part_of_node : NotedNode → NodePart
part_of_node = fold-Node Name Note LimitsPart NodePart Part limits_parts node_parts expr_parts

-- what bounds in a typed text mean
abbrev pub part_of_limits : NotedLimits → LimitsPart
part_of_limits = fold-Limits Name Note LimitsPart NodePart Part limits_parts node_parts expr_parts

-- what an expression means
abbrev pub expr_elaborated : Typed → List Variable → ℕ → NotedExpr → Expr
expr_elaborated p locals k e = (part_of e).value p locals k

-- where it lies
abbrev pub place_elaborated : Typed → List Variable → ℕ → NotedExpr → Place
place_elaborated p locals k e = (part_of e).place p locals k

-- how many string literals are in it
abbrev pub literals_of : NotedExpr → ℕ
literals_of e = (part_of e).literals

abbrev pub literals_of_limits : NotedLimits → ℕ
literals_of_limits l = (part_of_limits l).literals
