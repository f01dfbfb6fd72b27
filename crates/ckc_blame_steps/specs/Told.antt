-- What of a text lets its expressions be those of which it is said what they come to, and the nodes that are still left
-- out.
use Rattle.std.specs.Prelude.{◌≡◌, ◌⊎◌, ℕ, true, false, List, Some}
use Rattle.std.specs.List.{Contains}
use Rattle.ckc_base.specs.declared.arithmetic.Mode.{Mode}
use Rattle.ckc_base.specs.declared.arithmetic.Mode.TheVariants.{Unchecked}
use Rattle.ckc_types.specs.declared.types.CType.{CType, CType-F, out-CType}
use Rattle.ckc_syntax.specs.declared.tree.Name.{Name}
use Rattle.ckc_syntax.specs.declared.tree.Name.TheVariants as name
use Rattle.ckc_syntax.specs.declared.tree.TreeOp.TheVariants as op
use Rattle.ckc_syntax.specs.declared.tree.Node.{Node-F, out-Node}
use Rattle.ckc_syntax.specs.declared.tree.Expr.{Expr-F, every-Expr}
use Rattle.ckc_typed.specs.declared.environment.Globals.{Globals}
use Rattle.ckc_typed.specs.declared.typed.Note.{Note}
use Rattle.ckc_typed.specs.Conversions.{is_terminated_kind}
use Rattle.ckc_typed.specs.Environment.{type_of_name}
use Rattle.ckc_typed.specs.Operands.{dot_type}
use Rattle.ckc_typed.specs.Trees.{NotedLimits, NotedNode, NotedExpr, NotedLayer}
use Rattle.ckc_typed.specs.Types.{is_integer, is_pointer, kind_of, element_of}
use Rattle.ckc_typed_welltyped.specs.Expressions.{AnyLimits, AnyNode}
use Rattle.ckc_source.specs.Eval.{Store}
use Rattle.ckc_blame_sound.specs.Settings.{Setting}
use Rattle.ckc_blame_sound.specs.Slots.{AreFilled}
use Rattle.ckc_blame_given.specs.ckc_blame_pointers.specs.Covered.{DeclareOnes, KeepRunsFree, IsInScope, IsStaticInteger, IsStaticArray, IsStaticPointer, IsStaticBounded, IsStaticStructure, IsIntegerMember, IsPointerMember, IsStructureNode, IsAddressed, IsAddressedRaw}

-- ---- the text

-- What a name of file scope with a type is: an integer, an array, a pointer without or with written bounds, or a
-- structure.
abbrev pub IsStaticOf : Setting → Store → CType → ℕ → Type 0
IsStaticOf s store t k =
    IsStaticInteger s t k
    ⊎ (IsStaticArray s t k ⊎ (IsStaticPointer s store t k ⊎ (IsStaticBounded s store t k ⊎ IsStaticStructure s t k)))

-- The judgement and the program tell alike of locals that are in scope, of names of file scope and of members, and the
-- pointers that memory holds are in bounds.
pub record IsTold (globals : Globals) (s : Setting) (store : Store) (seen : List ℕ) : Type 0 where
  pub structs : globals.structs ≡ s.text.layout
  pub ones : DeclareOnes s
  pub free : KeepRunsFree s.text
  pub filled : AreFilled s.text store
  pub locals : (k : ℕ) → Contains seen k → IsInScope s seen k
  pub statics : (k : ℕ) (t : CType) → type_of_name globals s.variables (name.Static k) ≡ Some t → IsStaticOf s store t k
  pub members : (u t : CType) (n : Name) → dot_type s.text.layout u n ≡ Some t
      → IsIntegerMember s u t n ⊎ IsPointerMember s store u t n

-- ---- the nodes

-- What `*` and `[` read: an integer; or, not through an `_Nt_array_ptr`, a structure or a pointer.
pub record IsOtherElement (e : NotedExpr) : Type 0 where
  pub other : is_terminated_kind (kind_of e.note.ctype) ≡ false
  pub form : ((tag : ℕ) × (out-CType (element_of e.note.ctype) ≡ CType-F.Struct tag))
      ⊎ (is_pointer (element_of e.note.ctype) ≡ true)

abbrev pub IsReadElement : NotedExpr → Type 0
IsReadElement e = (is_integer (element_of e.note.ctype) ≡ true) ⊎ IsOtherElement e

-- Of which nodes of code of a mode it is said what they come to: no call, no allocation, and no address but those that
-- may be taken; `.` gives a member of what has a place.
abbrev pub IsSpokenNode : Mode → Setting → NotedLayer → Type 0
IsSpokenNode m s (Node-F.Name (name.Local k)) = Unit {0}
IsSpokenNode m s (Node-F.Name (name.Static k)) = Unit {0}
IsSpokenNode m s (Node-F.Name n) = ⊥
IsSpokenNode m s (Node-F.Un op.Deref e) = IsReadElement e
IsSpokenNode m s (Node-F.Un op.Address e) =
    IsAddressed s e.note.ctype (out-Node Name Note e.node)
    ⊎ ((m ≡ Unchecked) × IsAddressedRaw s e.note.ctype (out-Node Name Note e.node))
IsSpokenNode m s (Node-F.Index e f) = IsReadElement e
IsSpokenNode m s (Node-F.Dot e n spot) = IsStructureNode (out-Node Name Note e.node)
IsSpokenNode m s (Node-F.Arrow e n spot) = is_terminated_kind (kind_of e.note.ctype) ≡ false
IsSpokenNode m s (Node-F.Call n es) = ⊥
IsSpokenNode m s (Node-F.Calloc w e u) = ⊥
IsSpokenNode m s n = Unit {0}

-- the same of the node of an expression
abbrev pub IsSpokenPart : Mode → Setting → Expr-F Name Note NotedLimits NotedNode NotedExpr → Type 0
IsSpokenPart m s e = IsSpokenNode m s (out-Node Name Note e.node)

-- this of an expression and each expression in it, however deep
abbrev pub IsSpoken : Mode → Setting → NotedExpr → Type 0
IsSpoken m s = every-Expr Name Note AnyLimits AnyNode (IsSpokenPart m s)
