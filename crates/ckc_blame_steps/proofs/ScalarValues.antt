-- What converts to a type is an integer or a pointer.
use Rattle.std.proofs.Common.{◌≡◌, ⊎_elim, refl, ap, ◌∙◌, Bool, true, false, rules}
use Rattle.std.specs.Prelude.{◌&&◌, ◌||◌}
use Rattle.std.proofs.lemmas.Bool.{and_parts}
use Rattle.ckc_base.specs.declared.arithmetic.Mode.{Mode}
use Rattle.ckc_base.specs.declared.arithmetic.Mode.TheVariants.{Checked, Unchecked}
use Rattle.ckc_types.specs.declared.types.CType.{CType, the_lemmas}
use Rattle.ckc_types.specs.declared.types.CType.TheVariants as ctype
use Rattle.ckc_types.specs.declared.types.Kind.TheVariants as kind
use Rattle.ckc_syntax.specs.declared.tree.Name.{Name}
use Rattle.ckc_syntax.specs.declared.tree.Node.{Node-F, out-Node}
use Rattle.ckc_syntax.specs.declared.tree.Expr.{every_here-Expr}
use Rattle.ckc_typed.specs.declared.environment.Globals.{Globals}
use Rattle.ckc_typed.specs.declared.typed.Note.{Note}
use Rattle.ckc_typed.specs.Conversions.{is_null, is_null_form, is_string, is_string_form, is_allocation, is_terminated_kind, kind_converts, kinds_allow, takes_string, takes_allocation, takes_pointer, pointer_takes, converts}
use Rattle.ckc_typed.specs.Expressions.{number_type, string_type}
use Rattle.ckc_typed.specs.Operands.{same_element}
use Rattle.ckc_typed.specs.Trees.{NotedExpr, NotedLayer}
use Rattle.ckc_typed.specs.Types.{is_char, is_integer, is_pointer, is_scalar, element_of, kind_of, same_type}
use Rattle.ckc_typed_welltyped.specs.Expressions.{AnyLimits, AnyNode, HasType}
use Rattle.ckc_blame_sound.specs.Settings.{Setting}
use Rattle.ckc_blame_sound.proofs.Facts.{one_of}
use Rattle.ckc_blame_sound.specs.Typed.{IsRow, HasRow, IsTyped}

second_or : (a b : Bool) → b ≡ true → (a || b) ≡ true
second_or true b e = refl
second_or false b e = e

pub integer_scalar : (t : CType) → is_integer t ≡ true → is_scalar t ≡ true
integer_scalar t h = ap (λ b. b || is_pointer t) h

pub pointer_scalar : (t : CType) → is_pointer t ≡ true → is_scalar t ≡ true
pointer_scalar t h = second_or (is_integer t) (is_pointer t) h

number_scalar : (unsigned : Bool) → is_scalar (number_type unsigned) ≡ true
number_scalar true = search (rules, the_lemmas)
number_scalar false = search (rules, the_lemmas)

string_scalar : (mode : Mode) → is_scalar (string_type mode) ≡ true
string_scalar Checked = search (rules, the_lemmas)
string_scalar Unchecked = search (rules, the_lemmas)

null_scalar : is_scalar (ctype.Pointer kind.One ctype.Void) ≡ true
null_scalar = search (rules, the_lemmas)

module _ (globals : Globals) (s : Setting) (mode : Mode) (t : CType) where
  null_is : (n : NotedLayer) → is_null_form n ≡ true → HasType globals s.variables mode n t → is_scalar t ≡ true
  null_is Node-F.Null h row = ap is_scalar row ∙ null_scalar
  null_is (Node-F.Number n u) h row = ap is_scalar row ∙ number_scalar u
  null_is n h row = absurd cc

  string_is : (n : NotedLayer) → is_string_form n ≡ true → HasType globals s.variables mode n t → is_scalar t ≡ true
  string_is (Node-F.Text bytes) h row = ap is_scalar row ∙ string_scalar mode
  string_is n h row = absurd cc

same_scalar : (t u : CType) → same_element t u ≡ true → is_scalar u ≡ true
same_scalar t u h =
    pointer_scalar u (and_parts (is_pointer u) (same_type (element_of t) (element_of u)) (and_parts (is_pointer t) (is_pointer u && same_type (element_of t) (element_of u)) h).1).0

pub converted_scalar : (globals : Globals) (s : Setting) (t : CType) (e : NotedExpr) → IsTyped globals s e → converts t e ≡ true → is_scalar e.note.ctype ≡ true
converted_scalar globals s t e typed goes =
    let row : IsRow globals s (out-Node Name Note e.node) e.note = every_here-Expr Name Note AnyLimits AnyNode (HasRow globals s) e typed in
    ⊎_elim
    (λ i. integer_scalar e.note.ctype (and_parts (is_integer t) (is_integer e.note.ctype) i).1)
    (λ p. ⊎_elim
    (λ n. null_is globals s row.mode e.note.ctype (out-Node Name Note e.node) n row.row)
    (λ q. ⊎_elim
    (λ x. string_is globals s row.mode e.note.ctype (out-Node Name Note e.node) (and_parts (is_string e) (is_terminated_kind (kind_of t) && is_char (element_of t)) x).0 row.row)
    (λ y. ⊎_elim
    (λ a. same_scalar t e.note.ctype (and_parts (is_allocation e) (same_element t e.note.ctype) a).1)
    (λ b. same_scalar t e.note.ctype (and_parts (same_element t e.note.ctype) (kinds_allow kind_converts (kind_of e.note.ctype) (kind_of t)) b).0)
    (one_of (takes_allocation t e) (takes_pointer kind_converts t e) y))
    (one_of (takes_string t e) (takes_allocation t e || takes_pointer kind_converts t e) q))
    (one_of (is_null e) (takes_string t e || (takes_allocation t e || takes_pointer kind_converts t e)) (and_parts (is_pointer t) (pointer_takes kind_converts t e) p).1))
    (one_of (is_integer t && is_integer e.note.ctype) (is_pointer t && pointer_takes kind_converts t e) goes)
