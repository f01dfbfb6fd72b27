-- What has the type of a structure has a place: it is an object of file scope by its name, `*p` or `p[e]`.
use Rattle.std.proofs.Common.{◌≡◌, ◌∙◌, refl, sym, ap, Bool, true, false, List}
use Rattle.std.specs.Prelude.{not, ◌&&◌, ◌||◌, if◌then◌else◌, Option, Some, None, is_some}
use Rattle.std.proofs.lemmas.Bool.{and_parts}
use Rattle.ckc_base.specs.declared.arithmetic.Mode.{Mode}
use Rattle.ckc_base.specs.declared.arithmetic.Mode.TheVariants.{Checked, Unchecked}
use Rattle.ckc_types.specs.declared.types.Kind.{Kind}
use Rattle.ckc_types.specs.declared.types.Kind.TheVariants as kind
use Rattle.ckc_types.specs.declared.types.CType.{CType, CType-F, out-CType}
use Rattle.ckc_types.specs.declared.types.CType.TheVariants as ctype
use Rattle.ckc_types.specs.declared.types.Structs.{Structs}
use Rattle.ckc_syntax.specs.declared.tree.Name.{Name}
use Rattle.ckc_syntax.specs.declared.tree.TreeOp.{TreeOp}
use Rattle.ckc_syntax.specs.declared.tree.TreeOp.TheVariants as op
use Rattle.ckc_syntax.specs.declared.tree.Node.{Node-F}
use Rattle.ckc_typed.specs.declared.environment.Globals.{Globals}
use Rattle.ckc_typed.specs.declared.environment.Signature.{Signature}
use Rattle.ckc_typed.specs.declared.environment.Variable.{Variable}
use Rattle.ckc_typed.specs.declared.typed.Note.{Note}
use Rattle.ckc_typed.specs.Conversions.{is_null, limits_fit_kind}
use Rattle.ckc_typed.specs.Environment.{type_of_name, signature_named}
use Rattle.ckc_typed.specs.Expressions.{address_kind, has_address, number_type, string_type}
use Rattle.ckc_typed.specs.Operands.{promoted, common, arithmetic_type, is_compared, distance_type, is_moved, same_element, sum_type, difference_type, binary_type, choice_type, is_cast, is_raw_kind, member_in, dot_type}
use Rattle.ckc_typed.specs.Trees.{NotedExpr, NotedLayer, NotedLimits, NotedNode}
use Rattle.ckc_typed.specs.Types.{type_written, element_of, is_integer, is_integer_form, is_object_type, is_pointer, is_pointer_form, is_scalar, is_unsigned, is_void, is_void_form, kind_of}
use Rattle.ckc_typed_welltyped.specs.Expressions.{HasType}
use Rattle.ckc_build_wellformed.proofs.Parts.{different, unlike, kind_pointer, moved_pointer, int_out, unsigned_out, pointer_out}
use Rattle.ckc_build_wellformed.proofs.Nodes.{is_there_form}

-- whether a type is a structure
abbrev pub is_struct_form : CType-F CType → Bool
is_struct_form (CType-F.Struct tag) = true
is_struct_form f = false

abbrev pub is_struct : CType → Bool
is_struct t = is_struct_form (out-CType t)

abbrev Plain : CType → Type 0
Plain t = is_struct t ≡ false

some_same : {A : Type 0} {x y : A} → ◌≡◌ {A = Option A} (Some x) (Some y) → x ≡ y
some_same e = cc

none_is : {A X : Type 0} {a : A} → ◌≡◌ {A = Option A} None (Some a) → X
none_is e = absurd cc

int_plain : Plain ctype.Int
int_plain = ap is_struct_form int_out

unsigned_plain : Plain ctype.Unsigned
unsigned_plain = ap is_struct_form unsigned_out

made_plain : (k : Kind) (t : CType) → Plain (ctype.Pointer k t)
made_plain k t = ap is_struct_form (pointer_out k t)

either_plain : (b : Bool) → Plain (if b then ctype.Unsigned else ctype.Int)
either_plain true = unsigned_plain
either_plain false = int_plain

pub pointer_plain : (t : CType) → is_pointer t ≡ true → Plain t
pointer_plain t h = by (out-CType t) h
  where
    by : (x : CType-F CType) → is_pointer_form x ≡ true → is_struct_form x ≡ false
    by (CType-F.Pointer k u) e = refl
    by CType-F.Int e = refl
    by CType-F.Unsigned e = refl
    by CType-F.Char e = refl
    by CType-F.Void e = refl
    by (CType-F.Struct tag) e = absurd cc

integer_plain : (t : CType) → is_integer t ≡ true → Plain t
integer_plain t h = by (out-CType t) h
  where
    by : (x : CType-F CType) → is_integer_form x ≡ true → is_struct_form x ≡ false
    by (CType-F.Pointer k u) e = refl
    by CType-F.Int e = refl
    by CType-F.Unsigned e = refl
    by CType-F.Char e = refl
    by CType-F.Void e = refl
    by (CType-F.Struct tag) e = absurd cc

pub scalar_plain : (t : CType) → is_scalar t ≡ true → Plain t
scalar_plain t h = by (is_integer t) refl h
  where
    by : (b : Bool) → is_integer t ≡ b → (b || is_pointer t) ≡ true → Plain t
    by true i e = integer_plain t i
    by false i e = pointer_plain t e

pub void_plain : (t : CType) → is_void t ≡ true → Plain t
void_plain t h = by (out-CType t) h
  where
    by : (x : CType-F CType) → is_void_form x ≡ true → is_struct_form x ≡ false
    by (CType-F.Pointer k u) e = refl
    by CType-F.Int e = refl
    by CType-F.Unsigned e = refl
    by CType-F.Char e = refl
    by CType-F.Void e = refl
    by (CType-F.Struct tag) e = absurd cc

kind_plain : (t : CType) (k : Option Kind) (b : Bool) → kind_of t ≡ k → limits_fit_kind k b ≡ true → Plain t
kind_plain t (Some k) b is h = pointer_plain t (kind_pointer t k is)
kind_plain t None b is h = different h

if_plain : (b : Bool) (t r : CType) → Plain t → (if b then Some t else None) ≡ Some r → Plain r
if_plain true t r h e = ap is_struct (sym (some_same e)) ∙ h
if_plain false t r h e = none_is e

arithmetic_plain : (t u r : CType) → arithmetic_type t u ≡ Some r → Plain r
arithmetic_plain t u r h = if_plain (is_integer t && is_integer u) (common t u) r (either_plain (is_unsigned t || is_unsigned u)) h

sum_plain : (t u r : CType) → sum_type t u ≡ Some r → Plain r
sum_plain t u r h = by (is_moved t && is_integer u) refl (is_integer t && is_moved u) refl h
  where
    by : (b : Bool) → (is_moved t && is_integer u) ≡ b → (c : Bool) → (is_integer t && is_moved u) ≡ c → (if b then Some t else (if c then Some u else arithmetic_type t u)) ≡ Some r → Plain r
    by true m c n e = ap is_struct (sym (some_same e)) ∙ pointer_plain t (moved_pointer t (and_parts (is_moved t) (is_integer u) m).0)
    by false m true n e = ap is_struct (sym (some_same e)) ∙ pointer_plain u (moved_pointer u (and_parts (is_integer t) (is_moved u) n).1)
    by false m false n e = arithmetic_plain t u r e

difference_plain : (t u r : CType) → difference_type t u ≡ Some r → Plain r
difference_plain t u r h = by (is_moved t && is_integer u) refl (is_pointer t) h
  where
    by : (b : Bool) → (is_moved t && is_integer u) ≡ b → (c : Bool) → (if b then Some t else (if c then distance_type t u else arithmetic_type t u)) ≡ Some r → Plain r
    by true m c e = ap is_struct (sym (some_same e)) ∙ pointer_plain t (moved_pointer t (and_parts (is_moved t) (is_integer u) m).0)
    by false m true e = if_plain (same_element t u && not (is_void (element_of t))) ctype.Int r int_plain e
    by false m false e = arithmetic_plain t u r e

binary_plain : (o : TreeOp) (t : CType) (m : Bool) (u : CType) (n : Bool) (r : CType) → binary_type o t m u n ≡ Some r → Plain r
binary_plain op.OrElse t m u n r h = if_plain (is_scalar t && is_scalar u) ctype.Int r int_plain h
binary_plain op.AndThen t m u n r h = if_plain (is_scalar t && is_scalar u) ctype.Int r int_plain h
binary_plain op.Or t m u n r h = arithmetic_plain t u r h
binary_plain op.Xor t m u n r h = arithmetic_plain t u r h
binary_plain op.And t m u n r h = arithmetic_plain t u r h
binary_plain op.Eq t m u n r h = if_plain (is_compared t m u n) ctype.Int r int_plain h
binary_plain op.Ne t m u n r h = if_plain (is_compared t m u n) ctype.Int r int_plain h
binary_plain op.Lt t m u n r h = if_plain (is_compared t m u n) ctype.Int r int_plain h
binary_plain op.Le t m u n r h = if_plain (is_compared t m u n) ctype.Int r int_plain h
binary_plain op.Gt t m u n r h = if_plain (is_compared t m u n) ctype.Int r int_plain h
binary_plain op.Ge t m u n r h = if_plain (is_compared t m u n) ctype.Int r int_plain h
binary_plain op.Shl t m u n r h = if_plain (is_integer t && is_integer u) (promoted t) r (either_plain (is_unsigned t)) h
binary_plain op.Shr t m u n r h = if_plain (is_integer t && is_integer u) (promoted t) r (either_plain (is_unsigned t)) h
binary_plain op.Add t m u n r h = sum_plain t u r h
binary_plain op.Sub t m u n r h = difference_plain t u r h
binary_plain op.Mul t m u n r h = arithmetic_plain t u r h
binary_plain op.Div t m u n r h = arithmetic_plain t u r h
binary_plain op.Rem t m u n r h = arithmetic_plain t u r h
binary_plain o t m u n r h = none_is h

choice_plain : (t u v r : CType) → choice_type t u v ≡ Some r → Plain r
choice_plain t u v r h = by (is_scalar t) h
  where
    by : (b : Bool) → (if b then arithmetic_type u v else None) ≡ Some r → Plain r
    by true e = arithmetic_plain u v r e
    by false e = none_is e

cast_plain : (t u : CType) (m : Bool) → is_cast t u m ≡ true → Plain t
cast_plain t u m h = by (is_integer t) refl (kind_of t) refl (and_parts (is_object_type t) ((is_integer t && is_integer u) || (is_raw_kind (kind_of t) && (is_pointer u || m))) h).1
  where
    by : (b : Bool) → is_integer t ≡ b → (k : Option Kind) → kind_of t ≡ k → ((b && is_integer u) || (is_raw_kind k && (is_pointer u || m))) ≡ true → Plain t
    by true e k is q = integer_plain t e
    by false e (Some k) is q = pointer_plain t (kind_pointer t k is)
    by false e None is q = different q

-- what `.` reads is a member of a structure
pub dot_struct : (structs : Structs) (u t : CType) (n : Name) → dot_type structs u n ≡ Some t → is_struct u ≡ true
dot_struct structs u t n h = by (out-CType u) h
  where
    by : (x : CType-F CType) → member_in structs n x ≡ Some t → is_struct_form x ≡ true
    by (CType-F.Struct tag) e = refl
    by CType-F.Int e = none_is e
    by CType-F.Unsigned e = none_is e
    by CType-F.Char e = none_is e
    by CType-F.Void e = none_is e
    by (CType-F.Pointer k v) e = none_is e

module _ (globals : Globals) (vs : List Variable)
    (names : (n : Name) (t : CType) → type_of_name globals vs n ≡ Some t → is_struct t ≡ true → is_there_form {A = Note} {L = NotedLimits} {M = NotedNode} {E = NotedExpr} (Node-F.Name n) ≡ true)
    (results : (n : Name) (sig : Signature) → signature_named globals n ≡ Some sig → is_struct sig.result ≡ false) where
  clash : {X : Type 0} (t : CType) → is_struct t ≡ true → Plain t → X
  clash t s h = unlike (sym s ∙ h)

  same_clash : {X : Type 0} (t u : CType) → t ≡ u → is_struct t ≡ true → Plain u → X
  same_clash t u e s h = clash t s (ap is_struct e ∙ h)

  unary_there : (mode : Mode) (o : TreeOp) (e : NotedExpr) (t : CType) → HasType globals vs mode (Node-F.Un o e) t → is_struct t ≡ true → is_there_form {A = Note} {L = NotedLimits} {M = NotedNode} {E = NotedExpr} (Node-F.Un o e) ≡ true
  unary_there mode op.Deref e t row s = refl
  unary_there mode op.Address e t row s = clash t s (if_plain (has_address globals e) (ctype.Pointer (address_kind mode) e.note.ctype) t (made_plain (address_kind mode) e.note.ctype) row)
  unary_there mode op.Minus e t row s = clash t s (if_plain (is_integer e.note.ctype) (promoted e.note.ctype) t (either_plain (is_unsigned e.note.ctype)) row)
  unary_there mode op.Plus e t row s = clash t s (if_plain (is_integer e.note.ctype) (promoted e.note.ctype) t (either_plain (is_unsigned e.note.ctype)) row)
  unary_there mode op.Flip e t row s = clash t s (if_plain (is_integer e.note.ctype) (promoted e.note.ctype) t (either_plain (is_unsigned e.note.ctype)) row)
  unary_there mode op.Not e t row s = clash t s (if_plain (is_scalar e.note.ctype) ctype.Int t int_plain row)
  unary_there mode o e t row s = none_is row

  string_plain : (mode : Mode) → Plain (string_type mode)
  string_plain Checked = made_plain kind.Nt ctype.Char
  string_plain Unchecked = made_plain kind.Raw ctype.Char

  pub structure_there : (mode : Mode) (x : NotedLayer) (t : CType) → HasType globals vs mode x t → is_struct t ≡ true → is_there_form x ≡ true
  structure_there mode (Node-F.Number n u) t row s = same_clash t (number_type u) row s (either_plain u)
  structure_there mode (Node-F.Text bytes) t row s = same_clash t (string_type mode) row s (string_plain mode)
  structure_there mode Node-F.Null t row s = same_clash t (ctype.Pointer kind.One ctype.Void) row s (made_plain kind.One ctype.Void)
  structure_there mode (Node-F.Name n) t row s = names n t row s
  structure_there mode (Node-F.Un o e) t row s = unary_there mode o e t row s
  structure_there mode (Node-F.Bin o e f) t row s = clash t s (binary_plain o e.note.ctype (is_null e) f.note.ctype (is_null f) t row)
  structure_there mode (Node-F.Pick e f g) t row s = clash t s (choice_plain e.note.ctype f.note.ctype g.note.ctype t row)
  structure_there mode (Node-F.Index e f) t row s = refl
  structure_there mode (Node-F.Dot e n at) t row s = refl
  structure_there mode (Node-F.Arrow e n at) t row s = refl
  structure_there mode (Node-F.Cast w e) t row s = same_clash t (type_written w) row.1 s (cast_plain (type_written w) e.note.ctype (is_null e) row.0)
  structure_there mode (Node-F.Size w) t row s = clash t s (if_plain (is_object_type (type_written w)) ctype.Unsigned t unsigned_plain row)
  structure_there mode (Node-F.Trusted w e l) t row s =
      same_clash t (type_written w) row.2 s (kind_plain (type_written w) (kind_of (type_written w)) (is_some l) refl (and_parts (is_object_type (type_written w)) (limits_fit_kind (kind_of (type_written w)) (is_some l)) row.0).1)
  structure_there mode (Node-F.Tested w e l) t row s =
      same_clash t (type_written w) row.2 s (kind_plain (type_written w) (kind_of (type_written w)) (is_some l) refl (and_parts (is_object_type (type_written w)) (limits_fit_kind (kind_of (type_written w)) (is_some l)) row.0).1)
  structure_there mode (Node-F.Call n es) t row s = same_clash t row.0.result row.3 s (results n row.0 row.1)
  structure_there mode (Node-F.Calloc w e u) t row s = same_clash t (ctype.Pointer kind.Arr (type_written w)) row.pointer s (made_plain kind.Arr (type_written w))
