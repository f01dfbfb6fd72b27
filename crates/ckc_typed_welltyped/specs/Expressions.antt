-- Expressions and bounds that are well typed, by the table of types (ISO C11, 6.5; Checked C specification 0.9, section
-- 2): each expression has the type of its row, the mode of its scope, and no range yet. Nothing is said of faults.
use Rattle.std.specs.Prelude.{◌≡◌, true, if◌then◌else◌, List, [], ◌∷◌, Option, None, Some}
use Rattle.ckc_base.specs.declared.arithmetic.Mode.{Mode}
use Rattle.ckc_types.specs.declared.types.Kind.TheVariants as kind
use Rattle.ckc_types.specs.declared.types.CType.{CType}
use Rattle.ckc_types.specs.declared.types.CType.TheVariants as ctype
use Rattle.ckc_syntax.specs.declared.tree.Name.{Name}
use Rattle.ckc_syntax.specs.declared.tree.TreeOp.{TreeOp}
use Rattle.ckc_syntax.specs.declared.tree.TreeOp.TheVariants as op
use Rattle.ckc_syntax.specs.declared.tree.Limits.{Limits-F, every-Limits}
use Rattle.ckc_syntax.specs.declared.tree.Node.{Node-F, out-Node, every-Node}
use Rattle.ckc_syntax.specs.declared.tree.Expr.{Expr-F, every-Expr}
use Rattle.ckc_typed.specs.declared.environment.Globals.{Globals}
use Rattle.ckc_typed.specs.declared.environment.Parameter.{Parameter}
use Rattle.ckc_typed.specs.declared.environment.Signature.{Signature}
use Rattle.ckc_typed.specs.declared.environment.Variable.{Variable}
use Rattle.ckc_typed.specs.declared.typed.Note.{Note}
use Rattle.ckc_typed.specs.declared.typed.Range.TheVariants.{Missing}
use Rattle.ckc_typed.specs.Trees.{NotedLimits, NotedNode, NotedExpr, NotedLayer}
use Rattle.ckc_typed.specs.Types.{type_written, is_integer, is_object_type, same_type}
use Rattle.ckc_typed.specs.Environment.{type_of_name, signature_named}
use Rattle.ckc_typed.specs.Operands.{unary_type, binary_type, choice_type, index_type, dot_type, arrow_type, is_cast, size_type}
use Rattle.ckc_typed.specs.Conversions.{is_null, is_tested, is_trusted, is_bounds_cast}
use Rattle.ckc_typed.specs.Expressions.{number_type, string_type, address_kind, has_address, takes}

-- `&` takes what has an address. Every other unary operator has its row.
abbrev pub unary_row : Globals → Mode → TreeOp → NotedExpr → Option CType
unary_row globals mode op.Address e = if has_address globals e then Some (ctype.Pointer (address_kind mode) e.note.ctype) else None
unary_row globals mode o e = unary_type o e.note.ctype

-- as many arguments as parameters, each of which its parameter takes
abbrev pub AreArguments : Mode → List Parameter → List NotedExpr → Type 0
AreArguments mode [] [] = Unit {0}
AreArguments mode (p ∷ ps) (e ∷ es) = (takes mode p e ≡ true) × AreArguments mode ps es
AreArguments mode _ _ = ⊥

abbrev pub IsCall : Globals → Mode → Name → List NotedExpr → CType → Type 0
IsCall globals mode n es t = (s : Signature) × (signature_named globals n ≡ Some s) × AreArguments mode s.params es × (t ≡ s.result)

-- Both written types of an allocation are one type of objects, and the count is an integer.
pub record IsAllocation (element : CType) (count : NotedExpr) (written : CType) (t : CType) : Type 0 where
  pub object : is_object_type element ≡ true
  pub same : same_type element written ≡ true
  pub counted : is_integer count.note.ctype ≡ true
  pub pointer : t ≡ ctype.Pointer kind.Arr element

-- The table, a row for each kind of expression: which have the type t. `NULL` has the type `_Ptr<void>`.
abbrev pub HasType : Globals → List Variable → Mode → NotedLayer → CType → Type 0
HasType globals variables mode (Node-F.Number n unsigned) t = t ≡ number_type unsigned
HasType globals variables mode (Node-F.Text bytes) t = t ≡ string_type mode
HasType globals variables mode Node-F.Null t = t ≡ ctype.Pointer kind.One ctype.Void
HasType globals variables mode (Node-F.Name n) t = type_of_name globals variables n ≡ Some t
HasType globals variables mode (Node-F.Un o e) t = unary_row globals mode o e ≡ Some t
HasType globals variables mode (Node-F.Bin o e f) t = binary_type o e.note.ctype (is_null e) f.note.ctype (is_null f) ≡ Some t
HasType globals variables mode (Node-F.Pick e f g) t = choice_type e.note.ctype f.note.ctype g.note.ctype ≡ Some t
HasType globals variables mode (Node-F.Index e f) t = index_type e.note.ctype f.note.ctype ≡ Some t
HasType globals variables mode (Node-F.Dot e n at) t = dot_type globals.structs e.note.ctype n ≡ Some t
HasType globals variables mode (Node-F.Arrow e n at) t = arrow_type globals.structs e.note.ctype n ≡ Some t
HasType globals variables mode (Node-F.Cast w e) t = (is_cast (type_written w) e.note.ctype (is_null e) ≡ true) × (t ≡ type_written w)
HasType globals variables mode (Node-F.Size w) t = size_type (type_written w) ≡ Some t
HasType globals variables mode (Node-F.Trusted w e l) t = (is_bounds_cast (type_written w) l ≡ true) × (is_trusted (type_written w) e ≡ true) × (t ≡ type_written w)
HasType globals variables mode (Node-F.Tested w e l) t = (is_bounds_cast (type_written w) l ≡ true) × (is_tested (type_written w) e ≡ true) × (t ≡ type_written w)
HasType globals variables mode (Node-F.Call n es) t = IsCall globals mode n es t
HasType globals variables mode (Node-F.Calloc w e u) t = IsAllocation (type_written w) e (type_written u) t

-- An expression has the type of its row and the mode of its scope. Of its range nothing is known.
pub record IsNoted (globals : Globals) (variables : List Variable) (mode : Mode) (e : Expr-F Name Note NotedLimits NotedNode NotedExpr) : Type 0 where
  pub row : HasType globals variables mode (out-Node Name Note e.node) e.note.ctype
  pub scope : e.note.mode ≡ mode
  pub range : e.note.range ≡ Missing

-- Bounds and nodes have no notes of their own.
abbrev pub AnyLimits : Limits-F Name Note NotedLimits NotedNode NotedExpr → Type 0
AnyLimits l = Unit {0}

abbrev pub AnyNode : NotedLayer → Type 0
AnyNode n = Unit {0}

-- An expression is well typed if it and each expression in it, however deep, has its row. So are bounds.
abbrev pub WellTypedExpr : Globals → List Variable → Mode → NotedExpr → Type 0
WellTypedExpr globals variables mode = every-Expr Name Note AnyLimits AnyNode (IsNoted globals variables mode)

abbrev pub WellTypedNode : Globals → List Variable → Mode → NotedNode → Type 0
WellTypedNode globals variables mode = every-Node Name Note AnyLimits AnyNode (IsNoted globals variables mode)

abbrev pub WellTypedLimits : Globals → List Variable → Mode → NotedLimits → Type 0
WellTypedLimits globals variables mode = every-Limits Name Note AnyLimits AnyNode (IsNoted globals variables mode)
