-- The expressions of which it is said what they come to, and what is taken for granted of the text around them.
use Rattle.std.specs.Prelude.{◌≡◌, ◌⊎◌, ◌+◌, ◌<◌, ◌^◌, ℕ, Bool, false, true, List, slice_get, ℤ, Option, None, Some, length}
use Rattle.std.specs.List.{Contains}
use Rattle.ckc_base.specs.declared.arithmetic.Mode.{Mode}
use Rattle.ckc_base.specs.declared.arithmetic.Mode.TheVariants.{Unchecked}
use Rattle.ckc_types.specs.declared.types.Kind.{Kind}
use Rattle.ckc_types.specs.declared.types.Kind.TheVariants as kind
use Rattle.ckc_types.specs.declared.types.Kind.TheVariants.{One}
use Rattle.ckc_types.specs.declared.types.CType.{CType, CType-F, out-CType}
use Rattle.ckc_types.specs.declared.types.MemberShape.{MemberShape}
use Rattle.ckc_types.specs.declared.types.MemberBounds.{MemberBounds}
use Rattle.ckc_types.specs.declared.types.MemberBounds.TheVariants as mbounds
use Rattle.ckc_linear.specs.declared.forms.Base.{Base}
use Rattle.ckc_linear.specs.declared.forms.Base.TheVariants as base
use Rattle.ckc_linear.specs.declared.forms.Form.{Form}
use Rattle.ckc_syntax.specs.declared.tree.Name.{Name}
use Rattle.ckc_syntax.specs.declared.tree.Name.TheVariants as name
use Rattle.ckc_syntax.specs.declared.tree.TreeOp.{TreeOp}
use Rattle.ckc_syntax.specs.declared.tree.TreeOp.TheVariants as op
use Rattle.ckc_syntax.specs.declared.tree.Node.{Node-F, out-Node}
use Rattle.ckc_syntax.specs.declared.tree.Expr.{Expr-F, every-Expr}
use Rattle.ckc_typed.specs.declared.typed.Note.{Note}
use Rattle.ckc_typed.specs.declared.typed.Range.TheVariants.{Missing}
use Rattle.ckc_typed.specs.declared.typed.StaticObject.{StaticObject}
use Rattle.ckc_typed.specs.declared.environment.Variable.{Variable}
use Rattle.ckc_typed.specs.declared.typed.Typed.{Typed}
use Rattle.ckc_source.specs.declared.program.Object.{Object}
use Rattle.ckc_typed.specs.Conversions.{is_terminated_kind}
use Rattle.ckc_typed.specs.Environment.{variable_named}
use Rattle.ckc_typed.specs.Operands.{is_raw_kind, dot_type}
use Rattle.ckc_typed.specs.Trees.{NotedLimits, NotedNode, NotedExpr, NotedLayer}
use Rattle.ckc_typed.specs.Types.{kind_of, element_of, is_char, is_integer, is_pointer, is_scalar}
use Rattle.ckc_typed_welltyped.specs.Expressions.{AnyLimits, AnyNode}
use Rattle.ckc_blame_sound.specs.ckc_bounds_points.specs.declared.frame.Bounds.{Bounds}
use Rattle.ckc_blame_sound.specs.ckc_bounds_points.specs.declared.frame.Bounds.TheVariants as bounds
use Rattle.ckc_blame_sound.specs.ckc_bounds_points.specs.declared.frame.Local.{Local}
use Rattle.ckc_blame_sound.specs.ckc_bounds_points.specs.Frames.{local_at}
use Rattle.ckc_blame_sound.specs.ckc_bounds_declared.specs.Written.{bounds_of_kind}
use Rattle.ckc_blame_sound.specs.ckc_bounds_views.specs.Fresh.{member_bounds, named_type}
use Rattle.ckc_blame_sound.specs.ckc_bounds_points.specs.Forms.{constant_form}
use Rattle.ckc_blame_sound.specs.ckc_bounds_ranges.specs.Rows.{range_from}
use Rattle.ckc_blame_sound.specs.ckc_bounds_views.specs.Judged.{is_counted_kind, is_declared_object}
use Rattle.ckc_blame_sound.specs.ckc_bounds_views.specs.Ranges.{range_of_object}
use Rattle.ckc_blame_sound.specs.ckc_bounds_views.specs.Views.{view}
use Rattle.ckc_source.specs.declared.expr.Count.TheVariants as count
use Rattle.ckc_source.specs.Eval.{Store}
use Rattle.ckc_build_values.specs.Kinds.{size_behind, count_of_kind, tag_of}
use Rattle.ckc_build_values.specs.Members.{member_named, count_of_member}
use Rattle.ckc_build_values.specs.Names.{count_of_static, limits_declared}
use Rattle.ckc_build_elaborate.specs.Objects.{object_elaborated, objects_elaborated}
use Rattle.ckc_build_elaborate.specs.Shapes.{shapes_elaborated}
use Rattle.ckc_blame_sound.specs.Settings.{Setting}
use Rattle.ckc_blame_sound.specs.Slots.{AreFilled}
use Rattle.ckc_blame_sound.specs.Cells.{AreSound, HaveOwnNames}

-- ---- memory

-- The blocks of a store are those of a sound state, and its structures are those of the text.
pub record IsSoundStore (s : Setting) (store : Store) (next : ℕ) : Type 0 where
  pub sound : AreSound s.text store.blocks next
  pub shapes : store.shapes ≡ shapes_elaborated s.text.layout
  pub names : HaveOwnNames s.text.layout

-- ---- the locals of a function

-- a local that is in scope
pub record IsInScope (s : Setting) (seen : List ℕ) (k : ℕ) : Type 0 where
  pub seen_there : Contains seen k
  pub local : Local
  pub there : local_at s.frame k ≡ Some local
  pub scalar : is_scalar local.ctype ≡ true

-- a local that is an integer, as it is judged and as it runs
pub record IsIntegerLocal (s : Setting) (k : ℕ) : Type 0 where
  pub local : Local
  pub variable : Variable
  pub there : local_at s.frame k ≡ Some local
  pub integer : is_integer local.ctype ≡ true
  pub named : variable_named s.variables (name.Local k) ≡ Some variable

-- the variable 0 or that of an integer local
abbrev pub IsLocalVariable : Setting → ℕ → Type 0
IsLocalVariable s x = (x ≡ 0) ⊎ ((k : ℕ) × (x ≡ k + 1) × IsIntegerLocal s k)

-- a base that is a local or a static array
abbrev pub IsLocalBase : Option Base → Type 0
IsLocalBase (Some (base.Local k)) = Unit {0}
IsLocalBase (Some (base.Array k)) = Unit {0}
IsLocalBase _ = ⊥

-- a form over locals and static arrays alone
pub record IsLocalForm (s : Setting) (f : Form) : Type 0 where
  pub based : IsLocalBase f.base
  pub variable : IsLocalVariable s f.var

-- the same of both ends of bounds
abbrev pub AreLocalBounds : Setting → Bounds → Type 0
AreLocalBounds s bounds.Unknown = Unit {0}
AreLocalBounds s (bounds.Known low high) = IsLocalForm s low × IsLocalForm s high

-- The declared bounds of locals name locals and static arrays alone.
abbrev pub DeclareLocals : Setting → Type 0
DeclareLocals s = (k : ℕ) (l : Local) → local_at s.frame k ≡ Some l → AreLocalBounds s l.bounds

-- Locals that are `_Ptr` have the bounds of their type, one element.
abbrev pub DeclareOnes : Setting → Type 0
DeclareOnes s =
    (k : ℕ) (l : Local) → local_at s.frame k ≡ Some l → kind_of l.ctype ≡ Some kind.One
    → l.bounds ≡ bounds_of_kind (base.Local k) (Some kind.One)

-- ---- static objects

-- a static object that is one integer of a type
pub record IsStaticInteger (s : Setting) (t : CType) (k : ℕ) : Type 0 where
  pub object : StaticObject
  pub there : slice_get s.text.statics k ≡ Some object
  pub single : object.array ≡ None
  pub plain : object.terminated ≡ false
  pub some : 0 < object.count
  pub element : object.element ≡ t
  pub integer : is_integer t ≡ true
  pub bare : count_of_static s.text t (name.Static k) ≡ None

-- a static object that is an array, as a pointer of a type to its first element; it is declared without bounds
pub record IsStaticArray (s : Setting) (t : CType) (k : ℕ) : Type 0 where
  pub object : StaticObject
  pub there : slice_get s.text.statics k ≡ Some object
  pub judged : slice_get s.frame.statics k ≡ Some object
  pub kind : Kind
  pub array : object.array ≡ Some kind
  pub several : kind ≡ One → ⊥
  pub ends : object.terminated ≡ is_terminated_kind (Some kind)
  pub free : slice_get (objects_elaborated s.text) k ≡ Some (object_elaborated s.text.layout (Some true) object)
  pub pointer : is_pointer t ≡ true
  pub kind_is : kind_of t ≡ Some kind
  pub element : element_of t ≡ object.element

-- a static object that a string literal makes: its bytes and a zero behind them
pub record IsLiteral (s : Setting) (t : CType) (bytes : List ℕ) (k : ℕ) : Type 0 where
  pub array : IsStaticArray s t k
  pub char : is_char array.object.element ≡ true
  pub ends : array.object.terminated ≡ true
  pub count : array.object.count ≡ length bytes + 1

-- a static object that is one pointer of a type, declared without bounds; the pointers that memory holds are in bounds
pub record IsStaticPointer (s : Setting) (store : Store) (t : CType) (k : ℕ) : Type 0 where
  pub object : StaticObject
  pub there : slice_get s.text.statics k ≡ Some object
  pub judged : slice_get s.frame.statics k ≡ Some object
  pub is_run : Option Bool
  pub placed : slice_get (objects_elaborated s.text) k ≡ Some (object_elaborated s.text.layout is_run object)
  pub single : object.array ≡ None
  pub plain : object.terminated ≡ false
  pub some : 0 < object.count
  pub element : object.element ≡ t
  pub pointer : is_pointer t ≡ true
  pub bare : is_declared_object (slice_get s.frame.objects k) ≡ false
  pub counted : count_of_static s.text t (name.Static k) ≡ count_of_kind (kind_of t)
  pub filled : AreFilled s.text store

-- How many elements a static pointer has is a constant by its range as it is judged and as it is read, or not known.
abbrev pub IsCountedAs : Setting → CType → ℕ → Type 0
IsCountedAs s t k =
    ((z : ℤ) × (count_of_static s.text t (name.Static k) ≡ Some (count.Fixed z))
    × ((own : ℕ) → range_of_object (slice_get s.frame.objects k) t own ≡ range_from (base.Value own) (constant_form z)))
    ⊎ ((count_of_static s.text t (name.Static k) ≡ None)
    × ((own : ℕ) → range_of_object (slice_get s.frame.objects k) t own ≡ Missing))

-- a static object that is one pointer of a type and is declared with bounds, which a `_Ptr` is not; the pointers that
-- memory holds are in bounds
pub record IsStaticBounded (s : Setting) (store : Store) (t : CType) (k : ℕ) : Type 0 where
  pub object : StaticObject
  pub there : slice_get s.text.statics k ≡ Some object
  pub judged : slice_get s.frame.statics k ≡ Some object
  pub is_run : Option Bool
  pub placed : slice_get (objects_elaborated s.text) k ≡ Some (object_elaborated s.text.layout is_run object)
  pub single : object.array ≡ None
  pub plain : object.terminated ≡ false
  pub some : 0 < object.count
  pub element : object.element ≡ t
  pub pointer : is_pointer t ≡ true
  pub several : kind_of t ≡ Some kind.One → ⊥
  pub counts : IsCountedAs s t k
  pub filled : AreFilled s.text store

-- a static structure, which has no bounds
pub record IsStaticStructure (s : Setting) (t : CType) (k : ℕ) : Type 0 where
  pub object : StaticObject
  pub there : slice_get s.text.statics k ≡ Some object
  pub free : slice_get (objects_elaborated s.text) k ≡ Some (object_elaborated s.text.layout (Some true) object)
  pub some : 0 < object.count
  pub element : object.element ≡ t
  pub tag : ℕ
  pub struct : out-CType t ≡ CType-F.Struct tag

-- ---- expressions

-- the unary operators on integers, and `!`
abbrev pub IsArithmetic : TreeOp → Type 0
IsArithmetic op.Minus = Unit {0}
IsArithmetic op.Plus = Unit {0}
IsArithmetic op.Flip = Unit {0}
IsArithmetic op.Not = Unit {0}
IsArithmetic _ = ⊥

-- what `*` and `[` read: an integer, through an `_Array_ptr` or an `_Nt_array_ptr`
pub record IsElement (e : NotedExpr) : Type 0 where
  pub counted : is_counted_kind (kind_of e.note.ctype) ≡ true
  pub integer : is_integer (element_of e.note.ctype) ≡ true

-- what `*` reads through a `_Ptr`: an integer
pub record IsSingle (s : Setting) (e : NotedExpr) : Type 0 where
  pub single : kind_of e.note.ctype ≡ Some kind.One
  pub integer : is_integer (element_of e.note.ctype) ≡ true
  pub declared : DeclareOnes s

-- an integer that is a member of a structure of a type
pub record IsIntegerMember (s : Setting) (u t : CType) (n : Name) : Type 0 where
  pub number : ℕ
  pub named : n ≡ name.Member number
  pub there : dot_type s.text.layout u n ≡ Some t
  pub integer : is_integer t ≡ true
  pub bare : count_of_member s.text.layout (tag_of u) n ≡ None

-- what `->` reads: an integer, through a checked pointer
pub record IsArrow (s : Setting) (e : NotedExpr) (n : Name) (t : CType) : Type 0 where
  pub member : IsIntegerMember s (element_of e.note.ctype) t n
  pub through : (is_counted_kind (kind_of e.note.ctype) ≡ true)
      ⊎ ((kind_of e.note.ctype ≡ Some kind.One) × DeclareOnes s)

-- What the bounds of a member name is an integer member of the same structure.
abbrev pub NamesInteger : Setting → ℕ → MemberBounds → Type 0
NamesInteger s tag (mbounds.Named k c) =
    (m : MemberShape) × (member_named s.text.layout tag (name.Member k) ≡ Some m) × (is_integer m.ctype ≡ true)
    × (named_type s.frame.structs tag (mbounds.Named k c) ≡ Some m.ctype)
NamesInteger s tag b = Unit {0}

-- A pointer that is a member of a structure of a type, as it is judged and as it is read. The frame has the structures
-- of the text, bounds are written at no `_Ptr` and name an integer member, and pointers in memory are in bounds.
pub record IsPointerMember (s : Setting) (store : Store) (u t : CType) (n : Name) : Type 0 where
  pub tag : ℕ
  pub struct : out-CType u ≡ CType-F.Struct tag
  pub number : ℕ
  pub named : n ≡ name.Member number
  pub member : MemberShape
  pub found : member_named s.text.layout tag n ≡ Some member
  pub type : member.ctype ≡ t
  pub pointer : is_pointer t ≡ true
  pub judged : member_bounds s.frame.structs (record { tag = tag; number = number }) ≡ member.bounds
  pub single : kind_of t ≡ Some kind.One → member.bounds ≡ mbounds.Nothing
  pub counts : NamesInteger s tag member.bounds
  pub filled : AreFilled s.text store

-- through an `_Array_ptr` or a `_Ptr`
abbrev pub IsThrough : Setting → CType → Type 0
IsThrough s t = (kind_of t ≡ Some kind.Arr) ⊎ ((kind_of t ≡ Some kind.One) × DeclareOnes s)

-- what else `->` reads: a pointer
pub record IsPointerArrow (s : Setting) (store : Store) (e : NotedExpr) (n : Name) (t : CType) : Type 0 where
  pub member : IsPointerMember s store (element_of e.note.ctype) t n
  pub through : IsThrough s e.note.ctype

-- the structure of which `*` and `.` give a member
pub record IsStructureTarget (s : Setting) (e : NotedExpr) : Type 0 where
  pub tag : ℕ
  pub struct : out-CType (element_of e.note.ctype) ≡ CType-F.Struct tag
  pub through : IsThrough s e.note.ctype

-- the same of `[` and `.`
pub record IsStructureElement (e : NotedExpr) : Type 0 where
  pub tag : ℕ
  pub struct : out-CType (element_of e.note.ctype) ≡ CType-F.Struct tag
  pub array : kind_of e.note.ctype ≡ Some kind.Arr

-- Pointers with known limits point into no static object that is declared with bounds.
abbrev pub KeepRunsFree : Typed → Type 0
KeepRunsFree p =
    (k : ℕ) → (limits_declared p (name.Static k) ≡ None)
    ⊎ ((o : Object) × (slice_get (objects_elaborated p) k ≡ Some o) × (o.is_run ≡ false))

-- What else `*` and `[` read: a pointer, through an `_Array_ptr` or a `_Ptr`. An object with written bounds is no run,
-- and the pointers that memory holds are in bounds.
pub record IsPointerTarget (s : Setting) (store : Store) (e : NotedExpr) : Type 0 where
  pub pointer : is_pointer (element_of e.note.ctype) ≡ true
  pub through : IsThrough s e.note.ctype
  pub free : KeepRunsFree s.text
  pub filled : AreFilled s.text store

-- the expressions of which `.` gives a member: static objects by their names, `*p` and `p[e]`
abbrev pub IsStructureNode : NotedLayer → Type 0
IsStructureNode (Node-F.Name (name.Static k)) = Unit {0}
IsStructureNode (Node-F.Un op.Deref e) = Unit {0}
IsStructureNode (Node-F.Index e f) = Unit {0}
IsStructureNode _ = ⊥

-- what `.` reads: a member of a structure with a place, an integer or a pointer
pub record IsDot (s : Setting) (store : Store) (e : NotedExpr) (n : Name) (t : CType) : Type 0 where
  pub operand : IsStructureNode (out-Node Name Note e.node)
  pub tag : ℕ
  pub struct : out-CType e.note.ctype ≡ CType-F.Struct tag
  pub member : IsIntegerMember s e.note.ctype t n ⊎ IsPointerMember s store e.note.ctype t n

-- a static object that is no array and is declared without bounds
pub record IsFreeObject (s : Setting) (t : CType) (k : ℕ) : Type 0 where
  pub object : StaticObject
  pub there : slice_get s.text.statics k ≡ Some object
  pub free : slice_get (objects_elaborated s.text) k ≡ Some (object_elaborated s.text.layout (Some true) object)
  pub plain : object.terminated ≡ false
  pub some : 0 < object.count
  pub element : object.element ≡ t

-- a member of a structure of a type, an integer or a pointer
pub record IsScalarMember (s : Setting) (u t : CType) (n : Name) : Type 0 where
  pub tag : ℕ
  pub struct : out-CType u ≡ CType-F.Struct tag
  pub number : ℕ
  pub named : n ≡ name.Member number
  pub member : MemberShape
  pub found : member_named s.text.layout tag n ≡ Some member
  pub type : member.ctype ≡ t
  pub scalar : is_scalar t ≡ true

-- what `&` gives the address of: static objects, `*p`, `p[e]` and members
abbrev pub IsAddressed : Setting → CType → NotedLayer → Type 0
IsAddressed s t (Node-F.Name (name.Static k)) = IsFreeObject s t k
IsAddressed s t (Node-F.Un op.Deref e) = Unit {0}
IsAddressed s t (Node-F.Index e f) = Unit {0}
IsAddressed s t (Node-F.Arrow e n spot) = IsScalarMember s (element_of e.note.ctype) t n × IsThrough s e.note.ctype
IsAddressed s t (Node-F.Dot e n spot) = IsScalarMember s e.note.ctype t n
IsAddressed s t _ = ⊥

-- the operands of unary operators
abbrev pub IsCoveredUnary : Setting → Store → TreeOp → NotedExpr → Type 0
IsCoveredUnary s store op.Deref e = IsElement e ⊎ (IsSingle s e ⊎ (IsStructureTarget s e ⊎ IsPointerTarget s store e))
IsCoveredUnary s store op.Address e = IsAddressed s e.note.ctype (out-Node Name Note e.node)
IsCoveredUnary s store o e = IsArithmetic o

-- The nodes of a type of which it is said what they come to: numbers, string literals, `sizeof`, `NULL`, locals in
-- scope, static integers, arrays and pointers, operators, `?:`, casts, bounds casts that are tested, what is read
-- through pointers, what `->` and `.` read, and the addresses of static objects, elements and members; and the structures
-- of which `.` gives a member.
abbrev pub IsCoveredNode : Setting → Store → List ℕ → CType → NotedLayer → Type 0
IsCoveredNode s store seen t (Node-F.Number n unsigned) = Unit {0}
IsCoveredNode s store seen t (Node-F.Text bytes) = Unit {0}
IsCoveredNode s store seen t (Node-F.Size w) = Unit {0}
IsCoveredNode s store seen t Node-F.Null = Unit {0}
IsCoveredNode s store seen t (Node-F.Name (name.Local k)) = IsInScope s seen k
IsCoveredNode s store seen t (Node-F.Name (name.Static k)) =
    IsStaticInteger s t k
    ⊎ (IsStaticArray s t k ⊎ (IsStaticPointer s store t k ⊎ (IsStaticBounded s store t k ⊎ IsStaticStructure s t k)))
IsCoveredNode s store seen t (Node-F.Un o e) = IsCoveredUnary s store o e
IsCoveredNode s store seen t (Node-F.Bin o e f) = Unit {0}
IsCoveredNode s store seen t (Node-F.Pick e f g) = Unit {0}
IsCoveredNode s store seen t (Node-F.Cast w e) = Unit {0}
IsCoveredNode s store seen t (Node-F.Index e f) =
    IsElement e ⊎ (IsStructureElement e ⊎ (IsPointerTarget s store e × (kind_of e.note.ctype ≡ Some kind.Arr)))
IsCoveredNode s store seen t (Node-F.Arrow e n spot) = IsArrow s e n t ⊎ IsPointerArrow s store e n t
IsCoveredNode s store seen t (Node-F.Dot e n spot) = IsDot s store e n t
IsCoveredNode s store seen t (Node-F.Tested w e l) = kind_of e.note.ctype ≡ Some kind.One → DeclareOnes s
IsCoveredNode s store seen t _ = ⊥

-- ---- expressions of unchecked code

-- an unchecked pointer
abbrev pub IsRaw : NotedExpr → Type 0
IsRaw e = is_raw_kind (kind_of e.note.ctype) ≡ true

-- what `*` and `[` give through an unchecked pointer
abbrev pub IsRawPlace : NotedLayer → Type 0
IsRawPlace (Node-F.Un op.Deref e) = IsRaw e
IsRawPlace (Node-F.Index e f) = IsRaw e
IsRawPlace _ = ⊥

-- what else `&` gives the address of in unchecked code: a member, through an unchecked pointer
abbrev pub IsAddressedRaw : Setting → CType → NotedLayer → Type 0
IsAddressedRaw s t (Node-F.Arrow e n spot) = IsRaw e × IsScalarMember s (element_of e.note.ctype) t n
IsAddressedRaw s t _ = ⊥

-- The nodes of a type that only unchecked code has: what is read through unchecked pointers, members of structures there
-- and their addresses, unchecked pointers that are members, and `_Assume_bounds_cast`.
abbrev pub IsUncheckedNode : Setting → Store → CType → NotedLayer → Type 0
IsUncheckedNode s store t (Node-F.Un op.Deref e) = IsRaw e
IsUncheckedNode s store t (Node-F.Un op.Address e) = IsAddressedRaw s e.note.ctype (out-Node Name Note e.node)
IsUncheckedNode s store t (Node-F.Index e f) = IsRaw e
IsUncheckedNode s store t (Node-F.Arrow e n spot) =
    IsIntegerMember s (element_of e.note.ctype) t n ⊎ IsPointerMember s store (element_of e.note.ctype) t n
IsUncheckedNode s store t (Node-F.Dot e n spot) =
    IsRawPlace (out-Node Name Note e.node)
    × (IsIntegerMember s e.note.ctype t n ⊎ IsPointerMember s store e.note.ctype t n)
IsUncheckedNode s store t (Node-F.Trusted w e l) = Unit {0}
IsUncheckedNode s store t _ = ⊥

-- An address is an unchecked pointer.
abbrev pub IsRawAddress : CType → NotedLayer → Type 0
IsRawAddress t (Node-F.Un op.Address e) = is_raw_kind (kind_of t) ≡ true
IsRawAddress t _ = Unit {0}

-- In checked code such an expression is no unchecked pointer, and in unchecked code an address is one; the size of what
-- it points to is a word, and so is the number of its values.
pub record IsCoveredExpr (m : Mode) (s : Setting) (store : Store) (seen : List ℕ)
    (e : Expr-F Name Note NotedLimits NotedNode NotedExpr) : Type 0 where
  pub node : IsCoveredNode s store seen e.note.ctype (out-Node Name Note e.node)
      ⊎ ((m ≡ Unchecked) × IsUncheckedNode s store e.note.ctype (out-Node Name Note e.node))
  pub checked : is_raw_kind (kind_of e.note.ctype) ≡ true → m ≡ Unchecked
  pub address : m ≡ Unchecked → IsRawAddress e.note.ctype (out-Node Name Note e.node)
  pub few : (view s.frame (record { node = e.node; pos = e.pos; note = e.note })).values + 1 < 2 ^ 32
  pub sized : size_behind s.text.layout e.note.ctype < 2 ^ 32

-- An expression and each expression in it, however deep, is such a one.
abbrev pub AreCovered : Mode → Setting → Store → List ℕ → NotedExpr → Type 0
AreCovered m s store seen = every-Expr Name Note AnyLimits AnyNode (IsCoveredExpr m s store seen)

-- So is an expression that is itself a value, an integer or a pointer. A structure alone has a place, and no value.
abbrev pub IsCovered : Mode → Setting → Store → List ℕ → NotedExpr → Type 0
IsCovered m s store seen e = AreCovered m s store seen e × (is_scalar e.note.ctype ≡ true)
