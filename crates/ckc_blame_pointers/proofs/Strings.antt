-- The string literals in the parts of an expression, and what becomes of a string literal.
use Rattle.std.proofs.Common.{◌≡◌, refl, sym, ap, subst, ◌∙◌, ℕ, ◌+◌, List, ◌++◌, rules}
use Rattle.std.specs.Prelude.{true, Option, Some}
use Rattle.ckc_base.specs.declared.arithmetic.Mode.{Mode}
use Rattle.ckc_base.specs.declared.arithmetic.Mode.TheVariants.{Checked, Unchecked}
use Rattle.ckc_types.specs.declared.types.Kind.{Kind}
use Rattle.ckc_types.specs.declared.types.Kind.TheVariants as kind
use Rattle.ckc_types.specs.declared.types.CType.{CType, CType-F, out-CType, roll-CType, the_lemmas as ctype_lemmas}
use Rattle.ckc_types.specs.declared.types.CType.TheVariants as ctype
use Rattle.ckc_syntax.specs.declared.tree.Name.{Name}
use Rattle.ckc_syntax.specs.declared.tree.Limits.{map-Limits, out-Limits, fold_out-Limits}
use Rattle.ckc_syntax.specs.declared.tree.Node.{Node-F, fold-Node, map-Node, roll-Node, fold-roll-Node}
use Rattle.ckc_syntax.specs.declared.tree.Expr.{Expr-F, roll-Expr, fold-roll-Expr}
use Rattle.ckc_syntax.specs.Inside.{listed, inside_limits}
use Rattle.ckc_typed.specs.declared.environment.Globals.{Globals}
use Rattle.ckc_typed.specs.declared.environment.Variable.{Variable}
use Rattle.ckc_typed.specs.declared.typed.Note.{Note}
use Rattle.ckc_typed.specs.declared.typed.StaticObject.{StaticObject}
use Rattle.ckc_typed.specs.Conversions.{is_string_form, is_terminated_kind}
use Rattle.ckc_typed.specs.Expressions.{string_type}
use Rattle.ckc_typed.specs.Statics.{Strings, node_strings, expr_strings, strings_of_limits, strings_of_expr}
use Rattle.ckc_typed.specs.Trees.{NotedLimits, NotedNode, NotedExpr, NotedLayer}
use Rattle.ckc_typed.specs.Types.{is_char, is_char_form, is_pointer, is_pointer_form, element_of, element_in, kind_of, kind_in}
use Rattle.ckc_typed_welltyped.specs.Expressions.{HasType}
use Rattle.ckc_typed_welltyped.specs.Parts.{LimitsLayer}
use Rattle.ckc_build_values.specs.Expressions.{part_of, literals_of}
use Rattle.ckc_build_values.proofs.Counted.{expr_counted}
use Rattle.ckc_blame_sound.specs.Settings.{Setting, IsString, AreStrings}
use Rattle.ckc_blame_sound.proofs.Strings.{strings_in_front, strings_after}
use Rattle.ckc_blame_pointers.specs.Covered.{IsLiteral}

-- ---- the literals in the parts

abbrev pub strings_of_node : NotedNode → Strings
strings_of_node = fold-Node Name Note Strings Strings Strings (inside_limits listed (λ e. e)) node_strings expr_strings

abbrev pub strings_in_node : NotedLayer → Strings
strings_in_node x = node_strings (map-Node Name Note NotedLimits NotedNode NotedExpr Strings Strings Strings strings_of_limits strings_of_node strings_of_expr x)

abbrev pub strings_in_limits : LimitsLayer → Strings
strings_in_limits x = inside_limits listed (λ e. e) (map-Limits Name Note NotedLimits NotedNode NotedExpr Strings Strings Strings strings_of_limits strings_of_node strings_of_expr x)

pub node_strings_are : (x : NotedLayer) → strings_of_node (roll-Node Name Note x) ≡ strings_in_node x
node_strings_are x = fold-roll-Node Name Note Strings Strings Strings (inside_limits listed (λ e. e)) node_strings expr_strings x

pub expr_strings_are : (x : Expr-F Name Note NotedLimits NotedNode NotedExpr) → strings_of_expr (roll-Expr Name Note x) ≡ strings_of_node x.node
expr_strings_are x = fold-roll-Expr Name Note Strings Strings Strings (inside_limits listed (λ e. e)) node_strings expr_strings x

pub limits_strings_are : (l : NotedLimits) → strings_of_limits l ≡ strings_in_limits (out-Limits Name Note l)
limits_strings_are l = fold_out-Limits Name Note Strings Strings Strings (inside_limits listed (λ e. e)) node_strings expr_strings l

module _ (s : Setting) (e : NotedExpr) (ys : Strings) (k : ℕ) where
  pub first_strings : AreStrings s k (strings_of_expr e ++ ys) → AreStrings s k (strings_of_expr e)
  first_strings h = strings_in_front s (strings_of_expr e) ys k h

  pub later_strings : AreStrings s k (strings_of_expr e ++ ys) → AreStrings s (k + (part_of e).literals) ys
  later_strings h = strings_after s (strings_of_expr e) ys k (literals_of e) (expr_counted e) h

-- ---- a literal

checked_out : out-CType (string_type Checked) ≡ CType-F.Pointer kind.Nt ctype.Char
checked_out = search (rules, ctype_lemmas)

unchecked_out : out-CType (string_type Unchecked) ≡ CType-F.Pointer kind.Raw ctype.Char
unchecked_out = search (rules, ctype_lemmas)

-- a pointer to characters that end with a zero
pub record IsStringType (t : CType) : Type 0 where
  pub pointer : is_pointer t ≡ true
  pub kind_is : kind_of t ≡ Some kind.Nt
  pub element : element_of t ≡ ctype.Char

-- the type of a literal in checked code
pub checked_string : IsStringType (string_type Checked)
checked_string = record { pointer = ap is_pointer_form checked_out; kind_is = ap kind_in checked_out; element = ap element_in checked_out }

-- an unchecked pointer to characters
pub record IsRawString (t : CType) : Type 0 where
  pub pointer : is_pointer t ≡ true
  pub kind_is : kind_of t ≡ Some kind.Raw
  pub element : element_of t ≡ ctype.Char

-- the type of a literal in unchecked code
pub raw_string : (t : CType) → t ≡ string_type Unchecked → IsRawString t
raw_string t is = subst IsRawString (sym is) (record { pointer = ap is_pointer_form unchecked_out; kind_is = ap kind_in unchecked_out; element = ap element_in unchecked_out })

-- The static object of a literal is the array that it points into.
pub string_literal : (s : Setting) (t : CType) (bytes : List ℕ) (k : ℕ) → IsStringType t → IsString s bytes k → IsLiteral s t bytes k
string_literal s t bytes k typed string = record {
  array = record {
    object = string.object;
    there = string.there;
    judged = string.judged;
    kind = kind.Nt;
    array = ap (λ (o : StaticObject). o.array) string.made;
    several = λ e. absurd (cc);
    ends = ap (λ (o : StaticObject). o.terminated) string.made;
    free = string.free;
    pointer = typed.pointer;
    kind_is = typed.kind_is;
    element = typed.element ∙ sym (ap (λ (o : StaticObject). o.element) string.made);
  };
  char = ap (λ (o : StaticObject). is_char o.element) string.made ∙ search (rules, ctype_lemmas);
  ends = ap (λ (o : StaticObject). o.terminated) string.made;
  count = ap (λ (o : StaticObject). o.count) string.made;
}

-- ---- a literal that is cast

pub char_type : (t : CType) → is_char t ≡ true → t ≡ ctype.Char
char_type t e = by (out-CType t) refl e
  where
    back : roll-CType (out-CType t) ≡ t
    back = search (rules, ctype_lemmas)

    char_is : roll-CType CType-F.Char ≡ ctype.Char
    char_is = search (rules, ctype_lemmas)

    by : (f : CType-F CType) → out-CType t ≡ f → is_char_form f ≡ true → t ≡ ctype.Char
    by CType-F.Char is e = sym back ∙ ap roll-CType is ∙ char_is
    by (CType-F.Pointer k u) is e = absurd cc
    by CType-F.Int is e = absurd cc
    by CType-F.Unsigned is e = absurd cc
    by CType-F.Void is e = absurd cc
    by (CType-F.Struct tag) is e = absurd cc

pub ends_in : (k : Option Kind) → is_terminated_kind k ≡ true → k ≡ Some kind.Nt
ends_in (Some kind.Nt) e = refl
ends_in k e = absurd cc

-- The row of a literal is the type of literals in the mode.
pub string_row : (globals : Globals) (variables : List Variable) (mode : Mode) (x : NotedLayer) (t : CType) → is_string_form x ≡ true → HasType globals variables mode x t → t ≡ string_type mode
string_row globals variables mode (Node-F.Text bytes) t s r = r
string_row globals variables mode x t s r = absurd cc
