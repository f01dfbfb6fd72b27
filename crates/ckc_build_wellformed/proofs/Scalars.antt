-- What operators, casts, calls and statements take: an integer or a pointer, or what has no place.
use Rattle.std.proofs.Common.{◌≡◌, ◌⊎◌, ◌∙◌, inl, inr, refl, rules, sym, ap, Bool, true, false, List, [], ◌∷◌}
use Rattle.std.specs.Prelude.{◌&&◌, ◌||◌, not, Some}
use Rattle.std.proofs.lemmas.Bool.{and_parts}
use Rattle.ckc_base.specs.declared.arithmetic.Mode.{Mode}
use Rattle.ckc_types.specs.declared.types.Kind.{Kind}
use Rattle.ckc_types.specs.declared.types.Kind.TheVariants as kind
use Rattle.ckc_types.specs.declared.types.CType.{CType, CType-F, out-CType, the_lemmas}
use Rattle.ckc_types.specs.declared.types.CType.TheVariants as ctype
use Rattle.ckc_types.specs.declared.types.Structs.{Structs}
use Rattle.ckc_syntax.specs.declared.tree.Name.{Name}
use Rattle.ckc_syntax.specs.declared.tree.TreeOp.{TreeOp}
use Rattle.ckc_syntax.specs.declared.tree.TreeOp.TheVariants as op
use Rattle.ckc_syntax.specs.declared.tree.Node.{Node-F, out-Node}
use Rattle.ckc_typed.specs.declared.environment.Globals.{Globals}
use Rattle.ckc_typed.specs.declared.environment.Parameter.{Parameter}
use Rattle.ckc_typed.specs.declared.environment.Variable.{Variable}
use Rattle.ckc_typed.specs.declared.typed.Note.{Note}
use Rattle.ckc_typed.specs.Conversions.{is_null, is_null_form, is_string, is_allocation, is_terminated_kind, is_tested, kind_converts, kind_is_tested, kinds_allow, takes_pointer, pointer_takes, converts}
use Rattle.ckc_typed.specs.Expressions.{number_type}
use Rattle.ckc_typed.specs.Operands.{promoted, unary_type, member_in, dot_type, same_element}
use Rattle.ckc_typed.specs.Trees.{NotedExpr, NotedLayer}
use Rattle.ckc_typed.specs.Types.{is_char, is_integer, is_integer_form, is_pointer, is_pointer_form, is_scalar, is_void, element_in, element_of, kind_of}
use Rattle.ckc_typed_welltyped.specs.Expressions.{HasType, AreArguments}
use Rattle.ckc_blame_pointers.proofs.Scalars.{integer_scalar, pointer_scalar, same_scalar, true_if}
use Rattle.ckc_blame_pointers.proofs.Strings.{char_type}
use Rattle.ckc_build_wellformed.proofs.Nodes.{IsPlainFor, is_plain, is_plain_form, is_there_form}
use Rattle.ckc_build_wellformed.proofs.Parts.{different, int_out, unsigned_out, pointer_out}
use Rattle.ckc_build_wellformed.proofs.Structures.{is_struct, is_struct_form}

-- a node whose value is asked for: it has no place, or it is an integer or a pointer
abbrev pub IsValue : NotedLayer → CType → Type 0
IsValue x t = (is_there_form x ≡ false) ⊎ (is_scalar t ≡ true)

abbrev pub IsValued : NotedExpr → Type 0
IsValued e = IsValue (out-Node Name Note e.node) e.note.ctype

-- what has a place has a value if it is an integer or a pointer
pub there_scalar : (x : NotedLayer) (t : CType) → is_there_form x ≡ true → IsValue x t → is_scalar t ≡ true
there_scalar x t there v = elim v [
  | inl none ↦ different (sym none ∙ there)
  | inr scalar ↦ scalar
]

-- ---- by form

plain_apart : (x : NotedLayer) → is_plain_form x ≡ true → is_there_form x ≡ false
plain_apart Node-F.Null h = refl
plain_apart (Node-F.Number n u) h = refl
plain_apart (Node-F.Text bytes) h = refl
plain_apart (Node-F.Calloc w e u) h = refl
plain_apart x h = absurd cc

either : (a b : Bool) → (a || b) ≡ true → (a ≡ true) ⊎ (b ≡ true)
either true b e = inl refl
either false b e = inr e

-- ---- what is taken

-- what a pointer takes is null, a string, a new block, or a pointer to the same
pub plain_or_same : (allowed : Kind → Kind → Bool) (t : CType) (e : NotedExpr) → pointer_takes allowed t e ≡ true → (is_plain e ≡ true) ⊎ (takes_pointer allowed t e ≡ true)
plain_or_same allowed t e h = by (is_null e) (is_string e) (is_allocation e) h
  where
    by : (n m a : Bool) → (n || ((m && (is_terminated_kind (kind_of t) && is_char (element_of t))) || ((a && same_element t e.note.ctype) || takes_pointer allowed t e))) ≡ true
        → ((n || (m || a)) ≡ true) ⊎ (takes_pointer allowed t e ≡ true)
    by true m a q = inl refl
    by false true a q = inl refl
    by false false true q = inl refl
    by false false false q = inr q

module _ (allowed : Kind → Kind → Bool) (t : CType) (e : NotedExpr) where
  abbrev For : Type 0
  For = IsPlainFor (out-Node Name Note e.node) (element_of t) ⊎ (takes_pointer allowed t e ≡ true)

  blank : (n a : Bool) → is_null e ≡ n → is_allocation e ≡ a → (n || a) ≡ true → For
  blank n a is it q = inl (inl (ap (λ b. b || is_allocation e) is ∙ ap (λ b. n || b) it ∙ q))

  rest : (a : Bool) → is_null e ≡ false → is_allocation e ≡ a → ((a && same_element t e.note.ctype) || takes_pointer allowed t e) ≡ true → For
  rest true is it q = blank false true is it refl
  rest false is it q = inr q

  text : (b : Bool) (a : Bool) → is_null e ≡ false → is_string e ≡ true → (is_terminated_kind (kind_of t) && is_char (element_of t)) ≡ b → is_allocation e ≡ a
      → (b || ((a && same_element t e.note.ctype) || takes_pointer allowed t e)) ≡ true → For
  text true a is this both it q = inl (inr (this, char_type (element_of t) (and_parts (is_terminated_kind (kind_of t)) (is_char (element_of t)) both).1))
  text false a is this both it q = rest a is it q

  -- the same, by what the pointer points to
  pub taken_for : pointer_takes allowed t e ≡ true → IsPlainFor (out-Node Name Note e.node) (element_of t) ⊎ (takes_pointer allowed t e ≡ true)
  taken_for h = by (is_null e) refl (is_string e) refl (is_allocation e) refl h
    where
      by : (n : Bool) → is_null e ≡ n → (m : Bool) → is_string e ≡ m → (a : Bool) → is_allocation e ≡ a
          → (n || ((m && (is_terminated_kind (kind_of t) && is_char (element_of t))) || ((a && same_element t e.note.ctype) || takes_pointer allowed t e))) ≡ true → For
      by true is m this a it q = blank true a is it refl
      by false is true this a it q = text (is_terminated_kind (kind_of t) && is_char (element_of t)) a is this refl it q
      by false is false this a it q = rest a is it q

pub taken : (allowed : Kind → Kind → Bool) (t : CType) (e : NotedExpr) → pointer_takes allowed t e ≡ true → IsValued e
taken allowed t e h = elim (plain_or_same allowed t e h) [
  | inl p ↦ inl (plain_apart (out-Node Name Note e.node) p)
  | inr q ↦ inr (same_scalar t e.note.ctype (and_parts (same_element t e.note.ctype) (kinds_allow allowed (kind_of e.note.ctype) (kind_of t)) q).0).1
]

pub tested : (t : CType) (e : NotedExpr) → is_tested t e ≡ true → IsValued e
tested t e h = taken kind_is_tested t e (and_parts (is_pointer t) (pointer_takes kind_is_tested t e) h).1

pub converted : (t : CType) (e : NotedExpr) → converts t e ≡ true → IsValued e
converted t e h = elim (either (is_integer t && is_integer e.note.ctype) (is_pointer t && pointer_takes kind_converts t e) h) [
  | inl i ↦ inr (integer_scalar e.note.ctype (and_parts (is_integer t) (is_integer e.note.ctype) i).1)
  | inr q ↦ taken kind_converts t e (and_parts (is_pointer t) (pointer_takes kind_converts t e) q).1
]

-- this of each of some
abbrev pub AreValued : List NotedExpr → Type 0
AreValued [] = Unit {0}
AreValued (e ∷ es) = IsValued e × AreValued es

pub arguments_valued : (mode : Mode) (ps : List Parameter) (es : List NotedExpr) → AreArguments mode ps es → AreValued es
arguments_valued mode [] [] h = tt
arguments_valued mode [] (e ∷ es) h = absurd h
arguments_valued mode (q ∷ ps) [] h = absurd h
arguments_valued mode (q ∷ ps) (e ∷ es) h = (converted q.ctype e (and_parts (converts q.ctype e) _ h.0).0, arguments_valued mode ps es h.1)

-- ---- operands

pub unary_scalar : (o : TreeOp) (t r : CType) → unary_type o t ≡ Some r → is_scalar t ≡ true
unary_scalar op.Minus t r h = integer_scalar t (true_if (is_integer t) (promoted t) r h)
unary_scalar op.Plus t r h = integer_scalar t (true_if (is_integer t) (promoted t) r h)
unary_scalar op.Flip t r h = integer_scalar t (true_if (is_integer t) (promoted t) r h)
unary_scalar op.Not t r h = true_if (is_scalar t) ctype.Int r h
unary_scalar op.Deref t r h = pointer_scalar t (and_parts (is_pointer t) (not (is_void (element_of t))) (true_if (is_pointer t && not (is_void (element_of t))) (element_of t) r h)).0
unary_scalar o t r h = absurd cc

void_out : out-CType ctype.Void ≡ CType-F.Void
void_out = search (rules, the_lemmas)

-- what `->` reads through is a pointer
pub arrow_pointer : (structs : Structs) (t r : CType) (n : Name) → dot_type structs (element_of t) n ≡ Some r → is_pointer t ≡ true
arrow_pointer structs t r n h = by (out-CType t) h
  where
    none : {X : Type 0} → member_in structs n (out-CType ctype.Void) ≡ Some r → X
    none e = absurd (let f : member_in structs n CType-F.Void ≡ Some r = sym (ap (λ x. member_in structs n x) void_out) ∙ e in cc)

    by : (f : CType-F CType) → member_in structs n (out-CType (element_in f)) ≡ Some r → is_pointer_form f ≡ true
    by (CType-F.Pointer k u) e = refl
    by CType-F.Int e = none e
    by CType-F.Unsigned e = none e
    by CType-F.Char e = none e
    by CType-F.Void e = none e
    by (CType-F.Struct tag) e = none e

-- a structure is no integer and no pointer
pub struct_bare : (t : CType) → is_struct t ≡ true → is_scalar t ≡ false
struct_bare t h = by (out-CType t) h
  where
    by : (f : CType-F CType) → is_struct_form f ≡ true → (is_integer_form f || is_pointer_form f) ≡ false
    by (CType-F.Struct tag) e = refl
    by CType-F.Int e = absurd cc
    by CType-F.Unsigned e = absurd cc
    by CType-F.Char e = absurd cc
    by CType-F.Void e = absurd cc
    by (CType-F.Pointer k u) e = absurd cc

number_scalar : (u : Bool) → is_scalar (number_type u) ≡ true
number_scalar true = ap (λ (f : CType-F CType). is_integer_form f || is_pointer_form f) unsigned_out
number_scalar false = ap (λ (f : CType-F CType). is_integer_form f || is_pointer_form f) int_out

-- null is a number or a pointer
pub null_scalar : (globals : Globals) (vs : List Variable) (mode : Mode) (x : NotedLayer) (t : CType) → HasType globals vs mode x t → is_null_form x ≡ true → is_scalar t ≡ true
null_scalar globals vs mode Node-F.Null t row h = ap is_scalar row ∙ ap (λ (f : CType-F CType). is_integer_form f || is_pointer_form f) (pointer_out kind.One ctype.Void)
null_scalar globals vs mode (Node-F.Number n u) t row h = ap is_scalar row ∙ number_scalar u
null_scalar globals vs mode x t row h = absurd cc
