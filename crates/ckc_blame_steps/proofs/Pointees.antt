-- Each `_Nt_array_ptr` in the types of typed expressions points to an integer.
use Rattle.std.proofs.Common.{◌≡◌, ◌∙◌, sym, ap, subst, refl, rules, Bool, true, false, List}
use Rattle.std.specs.Prelude.{◌&&◌, ◌||◌, not, if◌then◌else◌, Option, Some, None, is_some}
use Rattle.ckc_base.specs.declared.arithmetic.Mode.{Mode}
use Rattle.ckc_base.specs.declared.arithmetic.Mode.TheVariants.{Checked, Unchecked}
use Rattle.ckc_types.specs.declared.types.CType.{CType, CType-F, out-CType, map-CType, ind-CType, fold-roll-CType, fold_out-CType, the_lemmas}
use Rattle.ckc_types.specs.declared.types.CType.TheVariants as ctype
use Rattle.ckc_types.specs.declared.types.Kind.{Kind}
use Rattle.ckc_types.specs.declared.types.Kind.TheVariants as kind
use Rattle.ckc_syntax.specs.declared.tree.Name.{Name}
use Rattle.ckc_syntax.specs.declared.tree.TreeOp.{TreeOp}
use Rattle.ckc_syntax.specs.declared.tree.TreeOp.TheVariants as op
use Rattle.ckc_syntax.specs.declared.tree.Node.{Node-F, map-Node, out-Node, roll-Node, the_lemmas as node_lemmas}
use Rattle.ckc_syntax.specs.declared.tree.Expr.{Expr-F, map-Expr, ind-Expr, roll-Expr, every_here-Expr}
use Rattle.ckc_typed.specs.declared.environment.Globals.{Globals}
use Rattle.ckc_typed.specs.declared.environment.Variable.{Variable}
use Rattle.ckc_typed.specs.Expressions.{string_type, address_kind, has_address}
use Rattle.ckc_typed.specs.Operands.{promoted, common, arithmetic_type, shift_type, both_type, sum_type, distance_type, difference_type, comparison_type, is_compared, member_in, binary_type, is_moved, same_element}
use Rattle.ckc_typed.specs.Trees.{NotedLimits, NotedNode, NotedExpr, NotedLayer}
use Rattle.ckc_typed.specs.declared.typed.Note.{Note}
use Rattle.ckc_typed.specs.Conversions.{is_null}
use Rattle.ckc_typed.specs.Types.{type_written, is_integer, is_integer_form, is_pointer, is_scalar, is_unsigned, is_void, is_void_form, kind_in, kind_of, element_in, element_of, pointer_parts, object_parts, integer_object, is_object_type}
use Rattle.ckc_typed_welltyped.specs.Expressions.{AnyLimits, AnyNode, HasType, unary_row}
use Rattle.ckc_blame_sound.specs.Settings.{Setting}
use Rattle.ckc_blame_sound.specs.Typed.{HasRow, IsTyped}
use Rattle.ckc_blame_sound.proofs.Every.{EachNode, EachExpr, NodeParts, node_hold, inside}
use Rattle.ckc_blame_steps.specs.Pointees.{Fine, pointer_fine, parts_fine, fineness, IsFine, AreFine}

-- ---- types

abbrev fine_in : CType-F CType → CType-F Fine
fine_in = map-CType CType Fine fineness

fine_out : (t : CType) → fineness t ≡ parts_fine (fine_in (out-CType t))
fine_out t = fold_out-CType Fine parts_fine t

pub pointer_out : (k : Kind) (t : CType) → out-CType (ctype.Pointer k t) ≡ CType-F.Pointer k t
pointer_out k t = search (rules, the_lemmas)

pub fine_pointer : (k : Kind) (t : CType) → fineness (ctype.Pointer k t) ≡ pointer_fine k (fineness t)
fine_pointer k t = fine_out (ctype.Pointer k t) ∙ ap (λ x. parts_fine (fine_in x)) (pointer_out k t)

int_out : out-CType ctype.Int ≡ CType-F.Int
int_out = search (rules, the_lemmas)

unsigned_out : out-CType ctype.Unsigned ≡ CType-F.Unsigned
unsigned_out = search (rules, the_lemmas)

char_out : out-CType ctype.Char ≡ CType-F.Char
char_out = search (rules, the_lemmas)

void_out : out-CType ctype.Void ≡ CType-F.Void
void_out = search (rules, the_lemmas)

pub fine_int : IsFine ctype.Int
fine_int = ap (λ (f : Fine). f.fine) (fine_out ctype.Int ∙ ap (λ x. parts_fine (fine_in x)) int_out)

fine_unsigned : IsFine ctype.Unsigned
fine_unsigned = ap (λ (f : Fine). f.fine) (fine_out ctype.Unsigned ∙ ap (λ x. parts_fine (fine_in x)) unsigned_out)

char_fine : fineness ctype.Char ≡ record { fine = true; integer = true }
char_fine = fine_out ctype.Char ∙ ap (λ x. parts_fine (fine_in x)) char_out

fine_void : IsFine ctype.Void
fine_void = ap (λ (f : Fine). f.fine) (fine_out ctype.Void ∙ ap (λ x. parts_fine (fine_in x)) void_out)

integer_flag : (x : CType-F CType) → (parts_fine (fine_in x)).integer ≡ is_integer_form x
integer_flag CType-F.Int = refl
integer_flag CType-F.Unsigned = refl
integer_flag CType-F.Char = refl
integer_flag CType-F.Void = refl
integer_flag (CType-F.Struct tag) = refl
integer_flag (CType-F.Pointer kind.Raw t) = refl
integer_flag (CType-F.Pointer kind.One t) = refl
integer_flag (CType-F.Pointer kind.Arr t) = refl
integer_flag (CType-F.Pointer kind.Nt t) = refl

pub integer_is : (t : CType) → (fineness t).integer ≡ is_integer t
integer_is t = ap (λ (f : Fine). f.integer) (fine_out t) ∙ integer_flag (out-CType t)

-- an integer type is fine, and so is `void`
integer_form_fine : (x : CType-F CType) → is_integer_form x ≡ true → (parts_fine (fine_in x)).fine ≡ true
integer_form_fine CType-F.Int e = refl
integer_form_fine CType-F.Unsigned e = refl
integer_form_fine CType-F.Char e = refl
integer_form_fine CType-F.Void e = refl
integer_form_fine (CType-F.Struct tag) e = refl
integer_form_fine (CType-F.Pointer k t) e = absurd cc

pub integer_fine : (t : CType) → is_integer t ≡ true → IsFine t
integer_fine t e = ap (λ (f : Fine). f.fine) (fine_out t) ∙ integer_form_fine (out-CType t) e

void_form_fine : (x : CType-F CType) → is_void_form x ≡ true → (parts_fine (fine_in x)).fine ≡ true
void_form_fine CType-F.Int e = refl
void_form_fine CType-F.Unsigned e = refl
void_form_fine CType-F.Char e = refl
void_form_fine CType-F.Void e = refl
void_form_fine (CType-F.Struct tag) e = refl
void_form_fine (CType-F.Pointer k t) e = absurd cc

pub void_fine : (t : CType) → is_void t ≡ true → IsFine t
void_fine t e = ap (λ (f : Fine). f.fine) (fine_out t) ∙ void_form_fine (out-CType t) e

both : (a b : Bool) → (a && b) ≡ true → (a ≡ true) × (b ≡ true)
both true b e = (refl, e)
both false b e = absurd cc

-- an `_Nt_array_ptr` points to an integer
nt_integer : (x : CType-F CType) → (parts_fine (fine_in x)).fine ≡ true → kind_in x ≡ Some kind.Nt → is_integer (element_in x) ≡ true
nt_integer (CType-F.Pointer kind.Nt t) f e = sym (integer_is t) ∙ (both (fineness t).fine (fineness t).integer f).1
nt_integer (CType-F.Pointer kind.Raw t) f e = absurd cc
nt_integer (CType-F.Pointer kind.One t) f e = absurd cc
nt_integer (CType-F.Pointer kind.Arr t) f e = absurd cc
nt_integer CType-F.Int f e = absurd cc
nt_integer CType-F.Unsigned f e = absurd cc
nt_integer CType-F.Char f e = absurd cc
nt_integer CType-F.Void f e = absurd cc
nt_integer (CType-F.Struct tag) f e = absurd cc

pub fine_integer : (t : CType) → IsFine t → kind_of t ≡ Some kind.Nt → is_integer (element_of t) ≡ true
fine_integer t f e = nt_integer (out-CType t) (sym (ap (λ (f : Fine). f.fine) (fine_out t)) ∙ f) e

element_fine : (x : CType-F CType) → (parts_fine (fine_in x)).fine ≡ true → IsFine (element_in x)
element_fine (CType-F.Pointer kind.Nt t) f = (both (fineness t).fine (fineness t).integer f).0
element_fine (CType-F.Pointer kind.Raw t) f = f
element_fine (CType-F.Pointer kind.One t) f = f
element_fine (CType-F.Pointer kind.Arr t) f = f
element_fine CType-F.Int f = fine_void
element_fine CType-F.Unsigned f = fine_void
element_fine CType-F.Char f = fine_void
element_fine CType-F.Void f = fine_void
element_fine (CType-F.Struct tag) f = fine_void

fine_element : (t : CType) → IsFine t → IsFine (element_of t)
fine_element t f = element_fine (out-CType t) (sym (ap (λ (f : Fine). f.fine) (fine_out t)) ∙ f)

-- ---- types of objects

abbrev objects_in : CType-F CType → CType-F (Option Bool)
objects_in = map-CType CType (Option Bool) integer_object

abbrev ObjectFine : CType → Type 0
ObjectFine t = (b : Bool) → integer_object t ≡ Some b → fineness t ≡ record { fine = true; integer = b }

abbrev Kept : Type 0
Kept = (t : CType) × ObjectFine t

abbrev inner : CType-F Kept → CType-F CType
inner = map-CType Kept CType (λ e. e.0)

same_flag : (a b : Bool) → Some a ≡ Some b → ◌≡◌ {A = Fine} (record { fine = true; integer = a }) (record { fine = true; integer = b })
same_flag a b e = cc

pointer_object : (k : Kind) (o : Option Bool) (f : Fine) → ((c : Bool) → o ≡ Some c → f ≡ record { fine = true; integer = c }) → (b : Bool) → pointer_parts k o ≡ Some b → pointer_fine k f ≡ record { fine = true; integer = b }
pointer_object kind.Nt (Some true) f h b e = ap (pointer_fine kind.Nt) (h true refl) ∙ same_flag false b e
pointer_object kind.Nt (Some false) f h b e = absurd cc
pointer_object kind.Nt None f h b e = absurd cc
pointer_object kind.Raw (Some c) f h b e = ap (pointer_fine kind.Raw) (h c refl) ∙ same_flag false b e
pointer_object kind.One (Some c) f h b e = ap (pointer_fine kind.One) (h c refl) ∙ same_flag false b e
pointer_object kind.Arr (Some c) f h b e = ap (pointer_fine kind.Arr) (h c refl) ∙ same_flag false b e
pointer_object kind.Raw None f h b e = absurd cc
pointer_object kind.One None f h b e = absurd cc
pointer_object kind.Arr None f h b e = absurd cc

object_step : (y : CType-F Kept) (b : Bool) → object_parts (objects_in (inner y)) ≡ Some b → parts_fine (fine_in (inner y)) ≡ record { fine = true; integer = b }
object_step CType-F.Int b e = same_flag true b e
object_step CType-F.Unsigned b e = same_flag true b e
object_step CType-F.Char b e = same_flag true b e
object_step CType-F.Void b e = absurd cc
object_step (CType-F.Struct tag) b e = same_flag false b e
object_step (CType-F.Pointer k u) b e = pointer_object k (integer_object u.0) (fineness u.0) u.1 b e

objects_fine : (t : CType) → ObjectFine t
objects_fine = ind-CType ObjectFine (λ x y is b e.
    fold-roll-CType Fine parts_fine x
    ∙ subst (λ z. object_parts (objects_in z) ≡ Some b → parts_fine (fine_in z) ≡ record { fine = true; integer = b }) is (object_step y b)
    (sym (fold-roll-CType (Option Bool) object_parts x) ∙ e))

pub object_fine : (t : CType) → is_object_type t ≡ true → IsFine t
object_fine t h = by (integer_object t) refl h
  where
    by : (o : Option Bool) → integer_object t ≡ o → is_some o ≡ true → IsFine t
    by (Some b) e g = ap (λ (f : Fine). f.fine) (objects_fine t b e)
    by None e g = absurd cc

-- ---- rows

abbrev FineIf : Option CType → Type 0
FineIf o = (t : CType) → o ≡ Some t → IsFine t

some_fine : (u : CType) → IsFine u → FineIf (Some u)
some_fine u f t e = subst IsFine (one t e) f
  where
    one : (t : CType) → Some u ≡ Some t → u ≡ t
    one t e = cc

none_fine : FineIf None
none_fine t e = absurd cc

either : (b : Bool) (o p : Option CType) → FineIf o → FineIf p → FineIf (if b then o else p)
either true o p f g = f
either false o p f g = g

choose : (b : Bool) (u : CType) → IsFine u → FineIf (if b then Some u else None)
choose b u f = either b (Some u) None (some_fine u f) none_fine

word_fine : (b : Bool) → IsFine (if b then ctype.Unsigned else ctype.Int)
word_fine true = fine_unsigned
word_fine false = fine_int

arithmetic_fine : (t u : CType) → FineIf (arithmetic_type t u)
arithmetic_fine t u = choose (is_integer t && is_integer u) (common t u) (word_fine (is_unsigned t || is_unsigned u))

shift_fine : (t u : CType) → FineIf (shift_type t u)
shift_fine t u = choose (is_integer t && is_integer u) (promoted t) (word_fine (is_unsigned t))

both_fine : (t u : CType) → FineIf (both_type t u)
both_fine t u = choose (is_scalar t && is_scalar u) ctype.Int fine_int

comparison_fine : (t : CType) (m : Bool) (u : CType) (n : Bool) → FineIf (comparison_type t m u n)
comparison_fine t m u n = choose (is_compared t m u n) ctype.Int fine_int

sum_fine : (t u : CType) → IsFine t → IsFine u → FineIf (sum_type t u)
sum_fine t u f g =
    either (is_moved t && is_integer u) (Some t) (if is_integer t && is_moved u then Some u else arithmetic_type t u) (some_fine t f)
    (either (is_integer t && is_moved u) (Some u) (arithmetic_type t u) (some_fine u g) (arithmetic_fine t u))

difference_fine : (t u : CType) → IsFine t → FineIf (difference_type t u)
difference_fine t u f =
    either (is_moved t && is_integer u) (Some t) (if is_pointer t then distance_type t u else arithmetic_type t u) (some_fine t f)
    (either (is_pointer t) (distance_type t u) (arithmetic_type t u) (choose (same_element t u && not (is_void (element_of t))) ctype.Int fine_int) (arithmetic_fine t u))

binary_fine : (o : TreeOp) (t : CType) (m : Bool) (u : CType) (n : Bool) → IsFine t → IsFine u → FineIf (binary_type o t m u n)
binary_fine op.OrElse t m u n f g = both_fine t u
binary_fine op.AndThen t m u n f g = both_fine t u
binary_fine op.Or t m u n f g = arithmetic_fine t u
binary_fine op.Xor t m u n f g = arithmetic_fine t u
binary_fine op.And t m u n f g = arithmetic_fine t u
binary_fine op.Eq t m u n f g = comparison_fine t m u n
binary_fine op.Ne t m u n f g = comparison_fine t m u n
binary_fine op.Lt t m u n f g = comparison_fine t m u n
binary_fine op.Le t m u n f g = comparison_fine t m u n
binary_fine op.Gt t m u n f g = comparison_fine t m u n
binary_fine op.Ge t m u n f g = comparison_fine t m u n
binary_fine op.Shl t m u n f g = shift_fine t u
binary_fine op.Shr t m u n f g = shift_fine t u
binary_fine op.Add t m u n f g = sum_fine t u f g
binary_fine op.Sub t m u n f g = difference_fine t u f
binary_fine op.Mul t m u n f g = arithmetic_fine t u
binary_fine op.Div t m u n f g = arithmetic_fine t u
binary_fine op.Rem t m u n f g = arithmetic_fine t u
binary_fine o t m u n f g = none_fine

address_fine : (mode : Mode) (t : CType) → IsFine t → IsFine (ctype.Pointer (address_kind mode) t)
address_fine Checked t f = ap (λ (g : Fine). g.fine) (fine_pointer kind.Arr t) ∙ f
address_fine Unchecked t f = ap (λ (g : Fine). g.fine) (fine_pointer kind.Raw t) ∙ f

string_fine : (mode : Mode) → IsFine (string_type mode)
string_fine Checked = ap (λ (g : Fine). g.fine) (fine_pointer kind.Nt ctype.Char ∙ ap (pointer_fine kind.Nt) char_fine)
string_fine Unchecked = ap (λ (g : Fine). g.fine) (fine_pointer kind.Raw ctype.Char ∙ ap (pointer_fine kind.Raw) char_fine)

module _ (globals : Globals) (variables : List Variable) (a : AreFine globals variables) (mode : Mode) where
  unary_fine : (o : TreeOp) (e : NotedExpr) → IsFine e.note.ctype → FineIf (unary_row globals mode o e)
  unary_fine op.Address e f = choose (has_address globals e) (ctype.Pointer (address_kind mode) e.note.ctype) (address_fine mode e.note.ctype f)
  unary_fine op.Minus e f = choose (is_integer e.note.ctype) (promoted e.note.ctype) (word_fine (is_unsigned e.note.ctype))
  unary_fine op.Plus e f = choose (is_integer e.note.ctype) (promoted e.note.ctype) (word_fine (is_unsigned e.note.ctype))
  unary_fine op.Flip e f = choose (is_integer e.note.ctype) (promoted e.note.ctype) (word_fine (is_unsigned e.note.ctype))
  unary_fine op.Not e f = choose (is_scalar e.note.ctype) ctype.Int fine_int
  unary_fine op.Deref e f = choose (is_pointer e.note.ctype && not (is_void (element_of e.note.ctype))) (element_of e.note.ctype) (fine_element e.note.ctype f)
  unary_fine o e f = none_fine

  member_fine : (n : Name) (x : CType-F CType) → FineIf (member_in globals.structs n x)
  member_fine n (CType-F.Struct tag) = a.members tag n
  member_fine n x = none_fine

  -- the types of the parts that a type is made of are fine
  abbrev PartsFine : NotedLayer → Type 0
  PartsFine (Node-F.Un o e) = IsFine e.note.ctype
  PartsFine (Node-F.Bin o e f) = IsFine e.note.ctype × IsFine f.note.ctype
  PartsFine (Node-F.Index e f) = IsFine e.note.ctype
  PartsFine n = Unit {0}

  row_fine : (x : NotedLayer) (t : CType) → PartsFine x → HasType globals variables mode x t → IsFine t
  row_fine (Node-F.Number n unsigned) t p h = subst IsFine (sym h) (word_fine unsigned)
  row_fine (Node-F.Text bytes) t p h = subst IsFine (sym h) (string_fine mode)
  row_fine Node-F.Null t p h = subst IsFine (sym h) (ap (λ (g : Fine). g.fine) (fine_pointer kind.One ctype.Void) ∙ fine_void)
  row_fine (Node-F.Name n) t p h = a.names n t h
  row_fine (Node-F.Un o e) t p h = unary_fine o e p t h
  row_fine (Node-F.Bin o e f) t p h = binary_fine o e.note.ctype (is_null e) f.note.ctype (is_null f) p.0 p.1 t h
  row_fine (Node-F.Pick e f g) t p h = either (is_scalar e.note.ctype) (arithmetic_type f.note.ctype g.note.ctype) None (arithmetic_fine f.note.ctype g.note.ctype) none_fine t h
  row_fine (Node-F.Index e f) t p h = choose (is_moved e.note.ctype && is_integer f.note.ctype) (element_of e.note.ctype) (fine_element e.note.ctype p) t h
  row_fine (Node-F.Dot e n at) t p h = member_fine n (out-CType e.note.ctype) t h
  row_fine (Node-F.Arrow e n at) t p h = member_fine n (out-CType (element_of e.note.ctype)) t h
  row_fine (Node-F.Cast w e) t p h = subst IsFine (sym h.1) (object_fine (type_written w) (both (is_object_type (type_written w)) _ h.0).0)
  row_fine (Node-F.Size w) t p h = choose (is_object_type (type_written w)) ctype.Unsigned fine_unsigned t h
  row_fine (Node-F.Trusted w e l) t p h = subst IsFine (sym h.2) (object_fine (type_written w) (both (is_object_type (type_written w)) _ h.0).0)
  row_fine (Node-F.Tested w e l) t p h = subst IsFine (sym h.2) (object_fine (type_written w) (both (is_object_type (type_written w)) _ h.0).0)
  row_fine (Node-F.Call n es) t p h = subst IsFine (sym h.3) (a.results n h.0 h.1)
  row_fine (Node-F.Calloc w e u) t p h = subst IsFine (sym h.pointer) (ap (λ (g : Fine). g.fine) (fine_pointer kind.Arr (type_written w)) ∙ object_fine (type_written w) h.object)

-- ---- expressions

node_back : (x : NotedLayer) → out-Node Name Note (roll-Node Name Note x) ≡ x
node_back x = search (rules, node_lemmas)

module _ (globals : Globals) (s : Setting) (a : AreFine globals s.variables) where
  abbrev Parts : NotedLayer → Type 0
  Parts (Node-F.Un o e) = IsFine e.note.ctype
  Parts (Node-F.Bin o e f) = IsFine e.note.ctype × IsFine f.note.ctype
  Parts (Node-F.Index e f) = IsFine e.note.ctype
  Parts n = Unit {0}

  record NodeFine (n : NotedNode) : Type 0 where
    pub parts : EachNode (HasRow globals s) n → Parts (out-Node Name Note n)

  record ExprFine (e : NotedExpr) : Type 0 where
    pub fine : EachExpr (HasRow globals s) e → IsFine e.note.ctype

  abbrev AnyLimit : NotedLimits → Type 0
  AnyLimit l = Unit {0}

  abbrev KeptLimits : Type 0
  KeptLimits = (l : NotedLimits) × AnyLimit l

  abbrev KeptNode : Type 0
  KeptNode = (n : NotedNode) × NodeFine n

  abbrev KeptExpr : Type 0
  KeptExpr = (e : NotedExpr) × ExprFine e

  abbrev inner_node : Node-F Name Note KeptLimits KeptNode KeptExpr → NotedLayer
  inner_node = map-Node Name Note KeptLimits KeptNode KeptExpr NotedLimits NotedNode NotedExpr (λ e. e.0) (λ e. e.0) (λ e. e.0)

  abbrev inner_expr : Expr-F Name Note KeptLimits KeptNode KeptExpr → Expr-F Name Note NotedLimits NotedNode NotedExpr
  inner_expr = map-Expr Name Note KeptLimits KeptNode KeptExpr NotedLimits NotedNode NotedExpr (λ e. e.0) (λ e. e.0) (λ e. e.0)

  node_step : (y : Node-F Name Note KeptLimits KeptNode KeptExpr) → NodeParts (HasRow globals s) (inner_node y) → Parts (inner_node y)
  node_step (Node-F.Un o k) w = k.1.fine w
  node_step (Node-F.Bin o k j) w = (k.1.fine w.0, j.1.fine w.1)
  node_step (Node-F.Index k j) w = k.1.fine w.0
  node_step y w = tt

  node_by : (x : NotedLayer) (y : Node-F Name Note KeptLimits KeptNode KeptExpr) → inner_node y ≡ x → NodeFine (roll-Node Name Note x)
  node_by x y is = record {
    parts = λ w. subst Parts (sym (node_back x)) (subst (λ z. NodeParts (HasRow globals s) z → Parts z) is (node_step y) (node_hold (HasRow globals s) x w));
  }

  expr_is : (e : NotedExpr) → NodeFine e.node → ExprFine e
  expr_is e h = record {
    fine = λ w. (let row = every_here-Expr Name Note AnyLimits AnyNode (HasRow globals s) e w in
        row_fine globals s.variables a row.mode (out-Node Name Note e.node) e.note.ctype (same (out-Node Name Note e.node) row.mode (h.parts (inside (HasRow globals s) e w))) row.row);
  }
    where
      same : (x : NotedLayer) (mode : Mode) → Parts x → PartsFine globals s.variables a mode x
      same (Node-F.Un o e) mode p = p
      same (Node-F.Bin o e f) mode p = p
      same (Node-F.Index e f) mode p = p
      same x mode p = tt

  expr_by : (x : Expr-F Name Note NotedLimits NotedNode NotedExpr) (y : Expr-F Name Note KeptLimits KeptNode KeptExpr) → inner_expr y ≡ x → ExprFine (roll-Expr Name Note x)
  expr_by x y is = subst (λ z. ExprFine (roll-Expr Name Note z)) is (expr_is (roll-Expr Name Note (inner_expr y)) y.node.1)

  exprs_fine : (e : NotedExpr) → ExprFine e
  exprs_fine = ind-Expr Name Note AnyLimit NodeFine ExprFine (λ x y is. tt) node_by expr_by

pub typed_fine : (globals : Globals) (s : Setting) (e : NotedExpr) → AreFine globals s.variables → IsTyped globals s e → IsFine e.note.ctype
typed_fine globals s e a w = (exprs_fine globals s a e).fine w
