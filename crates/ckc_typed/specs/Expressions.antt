-- Expressions and bounds with the type and the mode of each noted, and their first fault (ISO C11, 6.5; Checked C
-- specification 0.9, section 2). The parts of an expression are judged from left to right, and then itself.
use Rattle.std.specs.Prelude.{◌==◌, Bool, true, false, not, ◌&&◌, ◌||◌, if◌then◌else◌, List, ◌∷◌, length, map, Option, None, Some, is_none, Ok}
use Rattle.ckc_base.specs.declared.places.Pos.{Pos}
use Rattle.ckc_base.specs.declared.arithmetic.Mode.{Mode}
use Rattle.ckc_base.specs.declared.arithmetic.Mode.TheVariants.{Checked, Unchecked}
use Rattle.ckc_types.specs.declared.types.Kind.{Kind}
use Rattle.ckc_types.specs.declared.types.Kind.TheVariants as kind
use Rattle.ckc_types.specs.declared.types.CType.{CType}
use Rattle.ckc_types.specs.declared.types.CType.TheVariants as ctype
use Rattle.ckc_syntax.specs.declared.tree.Name.{Name}
use Rattle.ckc_syntax.specs.declared.tree.TreeOp.{TreeOp}
use Rattle.ckc_syntax.specs.declared.tree.TreeOp.TheVariants as op
use Rattle.ckc_syntax.specs.declared.tree.Limits.{Limits-F, fold-Limits}
use Rattle.ckc_syntax.specs.declared.tree.Limits.TheVariants as limits
use Rattle.ckc_syntax.specs.declared.tree.Node.{Node-F, out-Node, fold-Node}
use Rattle.ckc_syntax.specs.declared.tree.Node.TheVariants as node
use Rattle.ckc_syntax.specs.declared.tree.Expr.{Expr-F, fold-Expr}
use Rattle.ckc_typed.specs.Codes.{bad_operands, bad_conversion, bad_call, no_address}
use Rattle.ckc_typed.specs.declared.environment.Globals.{Globals}
use Rattle.ckc_typed.specs.declared.environment.Object.{Object}
use Rattle.ckc_typed.specs.declared.environment.Parameter.{Parameter}
use Rattle.ckc_typed.specs.declared.environment.Signature.{Signature}
use Rattle.ckc_typed.specs.declared.environment.Variable.{Variable}
use Rattle.ckc_typed.specs.declared.typed.Note.{Note}
use Rattle.ckc_typed.specs.declared.typed.Range.TheVariants.{Missing}
use Rattle.ckc_base.specs.Outcomes.{Outcome, bind, unless, there_or, in_order, if_there}
use Rattle.ckc_typed.specs.Trees.{Limits, Node, Expr, NotedLimits, NotedNode, NotedExpr}
use Rattle.ckc_typed.specs.Types.{type_written, is_integer, is_void, is_object_type, same_type}
use Rattle.ckc_typed.specs.Environment.{type_of_name, object_named, signature_named}
use Rattle.ckc_typed.specs.Operands.{unary_type, binary_type, choice_type, index_type, dot_type, arrow_type, is_cast, size_type}
use Rattle.ckc_typed.specs.Conversions.{is_null, is_unchecked_pointer, converts, is_tested, is_trusted, is_bounds_cast}

-- an expression with its type and the mode of its scope noted
abbrev pub noted : Mode → Pos → NotedNode → CType → NotedExpr
noted mode pos n t = record { node = n; pos = pos; note = record { ctype = t; mode = mode; range = Missing } }

-- E401 if the operands are in no row, but E402 if one is the value of a call that gives none.
abbrev pub in_row : Bool → Pos → Option CType → Outcome CType
in_row void pos t = there_or (if void then bad_conversion else bad_operands) pos t

-- the type of a number, by whether it is `unsigned`
abbrev pub number_type : Bool → CType
number_type unsigned = if unsigned then ctype.Unsigned else ctype.Int

-- In a checked scope a string literal is an `_Nt_array_ptr<char>`, and an address an `_Array_ptr`. Elsewhere both are
-- unchecked pointers.
abbrev pub string_type : Mode → CType
string_type Checked = ctype.Pointer kind.Nt ctype.Char
string_type Unchecked = ctype.Pointer kind.Raw ctype.Char

-- whether a scope is checked
abbrev pub is_checked_mode : Mode → Bool
is_checked_mode Checked = true
is_checked_mode Unchecked = false

-- the kind of the pointer that `&` gives in a scope
abbrev pub address_kind : Mode → Kind
address_kind Checked = kind.Arr
address_kind Unchecked = kind.Raw

-- whether there is an object of file scope and it is no array
abbrev pub is_no_array : Option Object → Bool
is_no_array (Some o) = is_none o.array
is_no_array None = false

-- whether a unary operator is `*`
abbrev pub is_target_op : TreeOp → Bool
is_target_op op.Deref = true
is_target_op _ = false

-- Elements and members lie at a place that is computed.
abbrev pub is_placed_form : {A L M E : Type 0} → Node-F Name A L M E → Bool
is_placed_form (Node-F.Un o e) = is_target_op o
is_placed_form (Node-F.Index e f) = true
is_placed_form (Node-F.Dot e n at) = true
is_placed_form (Node-F.Arrow e n at) = true
is_placed_form _ = false

-- whether an expression is an element or a member: `*p`, `p[e]`, `x.m` or `p->m`
abbrev pub is_placed : NotedExpr → Bool
is_placed e = is_placed_form (out-Node Name Note e.node)

-- whether a node is the name of an object of file scope that is no array
abbrev pub is_object_form : {A L M E : Type 0} → Globals → Node-F Name A L M E → Bool
is_object_form globals (Node-F.Name n) = is_no_array (object_named globals n)
is_object_form globals _ = false

-- a name of an object of file scope that is no array
abbrev pub is_object : Globals → NotedExpr → Bool
is_object globals e = is_object_form globals (out-Node Name Note e.node)

-- An address have objects of file scope that are no arrays, elements and members, but no locals and no values.
abbrev pub has_address : Globals → NotedExpr → Bool
has_address globals e = is_object globals e || is_placed e

-- E405: the address of a local or of a value
abbrev pub address_typed : Globals → Mode → NotedExpr → Pos → Outcome CType
address_typed globals mode e pos = unless (not (has_address globals e)) no_address pos (Ok (ctype.Pointer (address_kind mode) e.note.ctype))

-- the type of a unary operator with its operand, or its error
abbrev pub unary_typed : Globals → Mode → TreeOp → NotedExpr → Pos → Outcome CType
unary_typed globals mode op.Address e pos = address_typed globals mode e pos
unary_typed globals mode o e pos = in_row (is_void e.note.ctype) pos (unary_type o e.note.ctype)

-- the type of a binary operator with its operands, or its error
abbrev pub binary_typed : TreeOp → NotedExpr → NotedExpr → Pos → Outcome CType
binary_typed o e f pos = in_row (is_void e.note.ctype || is_void f.note.ctype) pos (binary_type o e.note.ctype (is_null e) f.note.ctype (is_null f))

-- the type of `e ? f : g`, or its error
abbrev pub choice_typed : NotedExpr → NotedExpr → NotedExpr → Pos → Outcome CType
choice_typed e f g pos = in_row (is_void e.note.ctype || (is_void f.note.ctype || is_void g.note.ctype)) pos (choice_type e.note.ctype f.note.ctype g.note.ctype)

-- the type of `e[f]`, or its error
abbrev pub index_typed : NotedExpr → NotedExpr → Pos → Outcome CType
index_typed e f pos = in_row (is_void e.note.ctype || is_void f.note.ctype) pos (index_type e.note.ctype f.note.ctype)

-- the type of `e.n`, or its error
abbrev pub dot_typed : Globals → NotedExpr → Name → Pos → Outcome CType
dot_typed globals e n pos = in_row (is_void e.note.ctype) pos (dot_type globals.structs e.note.ctype n)

-- the type of `e->n`, or its error
abbrev pub arrow_typed : Globals → NotedExpr → Name → Pos → Outcome CType
arrow_typed globals e n pos = in_row (is_void e.note.ctype) pos (arrow_type globals.structs e.note.ctype n)

-- E401: no cast to such a type. E402: the conversion is not allowed.
abbrev pub cast_typed : CType → NotedExpr → Pos → Outcome CType
cast_typed t e pos = unless (not (is_object_type t)) bad_operands pos (unless (not (is_cast t e.note.ctype (is_null e))) bad_conversion pos (Ok t))

-- Of a bounds cast the limits are judged with the type.
abbrev pub tested_typed : CType → NotedExpr → Option NotedLimits → Pos → Outcome CType
tested_typed t e l pos = unless (not (is_bounds_cast t l)) bad_operands pos (unless (not (is_tested t e)) bad_conversion pos (Ok t))

-- the same of `_Assume_bounds_cast`
abbrev pub trusted_typed : CType → NotedExpr → Option NotedLimits → Pos → Outcome CType
trusted_typed t e l pos = unless (not (is_bounds_cast t l)) bad_operands pos (unless (not (is_trusted t e)) bad_conversion pos (Ok t))

-- An argument converts to the type of its parameter. An unchecked pointer goes to an interface in unchecked code alone.
abbrev pub takes : Mode → Parameter → NotedExpr → Bool
takes mode p e = converts p.ctype e && not (p.is_interface && (is_checked_mode mode && is_unchecked_pointer e))

-- E402 at the first argument that its parameter does not take
abbrev pub arguments_typed : Mode → List Parameter → List NotedExpr → Outcome (Unit {0})
arguments_typed mode (p ∷ ps) (e ∷ es) = unless (not (takes mode p e)) bad_conversion e.pos (arguments_typed mode ps es)
arguments_typed mode _ _ = Ok tt

-- E404: another number of arguments than parameters
abbrev pub result_typed : Mode → Signature → List NotedExpr → Pos → Outcome CType
result_typed mode s es pos = unless (not (length es == length s.params)) bad_call pos (bind (arguments_typed mode s.params es) (λ u. Ok s.result))

-- E404: what is called is no function
abbrev pub call_typed : Globals → Mode → Name → List NotedExpr → Pos → Outcome CType
call_typed globals mode n es pos = bind (there_or bad_call pos (signature_named globals n)) (λ s. result_typed mode s es pos)

-- whether `calloc<t>(e, sizeof(u))` has two types, a type of no object, or a count that is no integer
abbrev pub is_no_allocation : CType → NotedExpr → CType → Bool
is_no_allocation t e u = not (is_object_type t) || (not (same_type t u) || not (is_integer e.note.ctype))

-- E404: the types differ or are not those of objects, or the count is no integer. The result goes to any kind of pointer; its note
-- says `_Array_ptr`.
abbrev pub allocation_typed : CType → NotedExpr → CType → Pos → Outcome CType
allocation_typed t e u pos = unless (is_no_allocation t e u) bad_call pos (Ok (ctype.Pointer kind.Arr t))

-- bounds with the types in them noted, or their first error
abbrev pub OfLimits : Type 0
OfLimits = Outcome NotedLimits

-- the place of a node is that of its expression
abbrev pub OfNode : Type 0
OfNode = Pos → Outcome NotedExpr

-- an expression with the types in it noted, or its first error
abbrev pub OfExpr : Type 0
OfExpr = Outcome NotedExpr

-- bounds, from what has become of their parts
abbrev pub limits_parts : Limits-F Name (Unit {0}) OfLimits OfNode OfExpr → OfLimits
limits_parts (Limits-F.Count e at) = bind e (λ a. Ok (limits.Count a at))
limits_parts (Limits-F.ByteCount e at) = bind e (λ a. Ok (limits.ByteCount a at))
limits_parts (Limits-F.Between e f at) = bind e (λ a. bind f (λ b. Ok (limits.Between a b at)))
limits_parts (Limits-F.Unknown pos) = Ok (limits.Unknown pos)

-- `NULL` has the type `_Ptr<void>`.
abbrev pub node_parts : Globals → List Variable → Mode → Node-F Name (Unit {0}) OfLimits OfNode OfExpr → OfNode
node_parts globals variables mode (Node-F.Number n unsigned) pos = Ok (noted mode pos (node.Number n unsigned) (number_type unsigned))
node_parts globals variables mode (Node-F.Text bytes) pos = Ok (noted mode pos (node.Text bytes) (string_type mode))
node_parts globals variables mode Node-F.Null pos = Ok (noted mode pos node.Null (ctype.Pointer kind.One ctype.Void))
node_parts globals variables mode (Node-F.Name n) pos = bind (there_or bad_operands pos (type_of_name globals variables n)) (λ t. Ok (noted mode pos (node.Name n) t))
node_parts globals variables mode (Node-F.Un o e) pos = bind e (λ a. bind (unary_typed globals mode o a pos) (λ t. Ok (noted mode pos (node.Un o a) t)))
node_parts globals variables mode (Node-F.Bin o e f) pos = bind e (λ a. bind f (λ b. bind (binary_typed o a b pos) (λ t. Ok (noted mode pos (node.Bin o a b) t))))
node_parts globals variables mode (Node-F.Pick e f g) pos = bind e (λ a. bind f (λ b. bind g (λ c. bind (choice_typed a b c pos) (λ t. Ok (noted mode pos (node.Pick a b c) t)))))
node_parts globals variables mode (Node-F.Index e f) pos = bind e (λ a. bind f (λ b. bind (index_typed a b pos) (λ t. Ok (noted mode pos (node.Index a b) t))))
node_parts globals variables mode (Node-F.Dot e n at) pos = bind e (λ a. bind (dot_typed globals a n pos) (λ t. Ok (noted mode pos (node.Dot a n at) t)))
node_parts globals variables mode (Node-F.Arrow e n at) pos = bind e (λ a. bind (arrow_typed globals a n pos) (λ t. Ok (noted mode pos (node.Arrow a n at) t)))
node_parts globals variables mode (Node-F.Cast w e) pos = bind e (λ a. bind (cast_typed (type_written w) a pos) (λ t. Ok (noted mode pos (node.Cast w a) t)))
node_parts globals variables mode (Node-F.Size w) pos = bind (there_or bad_operands pos (size_type (type_written w))) (λ t. Ok (noted mode pos (node.Size w) t))
node_parts globals variables mode (Node-F.Trusted w e l) pos = bind e (λ a. bind (if_there l) (λ k. bind (trusted_typed (type_written w) a k pos) (λ t. Ok (noted mode pos (node.Trusted w a k) t))))
node_parts globals variables mode (Node-F.Tested w e l) pos = bind e (λ a. bind (if_there l) (λ k. bind (tested_typed (type_written w) a k pos) (λ t. Ok (noted mode pos (node.Tested w a k) t))))
node_parts globals variables mode (Node-F.Call n es) pos = bind (in_order es) (λ args. bind (call_typed globals mode n args pos) (λ t. Ok (noted mode pos (node.Call n args) t)))
node_parts globals variables mode (Node-F.Calloc w e x) pos = bind e (λ a. bind (allocation_typed (type_written w) a (type_written x) pos) (λ t. Ok (noted mode pos (node.Calloc w a x) t)))

-- An expression is judged by its node, at its place.
abbrev pub expr_parts : Expr-F Name (Unit {0}) OfLimits OfNode OfExpr → OfExpr
expr_parts e = e.node e.pos

-- bounds with the types in them noted, or their first error, for the variables and the mode of a scope
abbrev pub limits_typed : Globals → List Variable → Mode → Limits → OfLimits
limits_typed globals variables mode = fold-Limits Name (Unit {0}) OfLimits OfNode OfExpr limits_parts (node_parts globals variables mode) expr_parts

abbrev pub node_typed : Globals → List Variable → Mode → Node → OfNode
node_typed globals variables mode = fold-Node Name (Unit {0}) OfLimits OfNode OfExpr limits_parts (node_parts globals variables mode) expr_parts

-- the same of an expression
abbrev pub expr_typed : Globals → List Variable → Mode → Expr → OfExpr
expr_typed globals variables mode = fold-Expr Name (Unit {0}) OfLimits OfNode OfExpr limits_parts (node_parts globals variables mode) expr_parts

-- the same of each expression of a list
abbrev pub exprs_typed : Globals → List Variable → Mode → List Expr → Outcome (List NotedExpr)
exprs_typed globals variables mode es = in_order (map (expr_typed globals variables mode) es)

-- the same of bounds that there may be
abbrev pub bounds_typed : Globals → List Variable → Mode → Option Limits → Outcome (Option NotedLimits)
bounds_typed globals variables mode None = Ok None
bounds_typed globals variables mode (Some l) = bind (limits_typed globals variables mode l) (λ k. Ok (Some k))

-- the same of an expression that there may be
abbrev pub value_typed : Globals → List Variable → Mode → Option Expr → Outcome (Option NotedExpr)
value_typed globals variables mode None = Ok None
value_typed globals variables mode (Some e) = bind (expr_typed globals variables mode e) (λ a. Ok (Some a))
