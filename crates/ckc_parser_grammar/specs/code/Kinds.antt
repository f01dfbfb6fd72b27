-- What the grammar tells apart.
use Rattle.std.specs.Prelude.{ℕ, List, [], ◌∷◌, Bool, true, false, ◌&&◌, ◌==◌, codes, if◌then◌else◌, Option, None, Some, unwrap_or}
use Rattle.std.specs.Option.{is_some}
use Rattle.ckc_grammar.specs.Derivation.{is}
use Rattle.ckc_syntax.specs.declared.tree.TreeOp.{TreeOp}
use Rattle.ckc_syntax.specs.declared.tree.TreeOp.TheVariants as op
use Rattle.ckc_syntax.specs.Spelled.{Spelled}
use Rattle.ckc_syntax.specs.declared.tokens.TokenKind.{TokenKind}
use Rattle.ckc_syntax.specs.declared.tokens.TokenKind.TheVariants as kinds
use Rattle.ckc_parser_grammar.specs.declared.kind.Kind.{Kind}
use Rattle.ckc_parser_grammar.specs.declared.kind.Kind.TheVariants.{Name, Calloc, Count, ByteCount, Bounds, Unknown, Number, Character, Text, Directive, Other, Int, Unsigned, Char, Void, Struct, Static, If, Else, While, For, Return, Break, Continue, Sizeof, Null, Eof, Ptr, ArrayPtr, NtArrayPtr, Checked, Unchecked, NtChecked, Bundled, Check, Tested, Trusted, RoundOpen, RoundClose, CurlyOpen, CurlyClose, SquareOpen, SquareClose, Less, Greater, Comma, Semicolon, Colon, Question, Equals, Dot, Arrow, Plus, Minus, Star, Slash, Percent, Ampersand, Bar, Caret, Tilde, Exclamation, ShiftLeft, LessEquals, GreaterEquals, EqualsEquals, NotEquals, AndAnd, BarBar, PlusPlus, MinusMinus, PlusEquals, MinusEquals, StarEquals, SlashEquals, PercentEquals, AmpersandEquals, BarEquals, CaretEquals}

-- Names that the grammar reads in some places.
abbrev pub kind_of_name : List ℕ → Kind
kind_of_name text =
    if is text (codes "calloc") then Calloc else
    if is text (codes "count") then Count else
    if is text (codes "byte_count") then ByteCount else
    if is text (codes "bounds") then Bounds else
    if is text (codes "unknown") then Unknown else
    Name

-- The words that stand for some keywords after `#include <stdchecked.h>`. The other keywords of C11 stand in no
-- production.
abbrev pub kind_of_checked_word : List ℕ → Kind
kind_of_checked_word text =
    if is text (codes "ptr") then Ptr else
    if is text (codes "array_ptr") then ArrayPtr else
    if is text (codes "nt_array_ptr") then NtArrayPtr else
    if is text (codes "checked") then Checked else
    if is text (codes "unchecked") then Unchecked else
    if is text (codes "nt_checked") then NtChecked else
    if is text (codes "dynamic_check") then Check else
    if is text (codes "dynamic_bounds_cast") then Tested else
    if is text (codes "assume_bounds_cast") then Trusted else
    Other

-- Keywords of Checked C.
abbrev pub kind_of_checked_keyword : List ℕ → Kind
kind_of_checked_keyword text =
    if is text (codes "_Ptr") then Ptr else
    if is text (codes "_Array_ptr") then ArrayPtr else
    if is text (codes "_Nt_array_ptr") then NtArrayPtr else
    if is text (codes "_Checked") then Checked else
    if is text (codes "_Unchecked") then Unchecked else
    if is text (codes "_Nt_checked") then NtChecked else
    if is text (codes "_Bundled") then Bundled else
    if is text (codes "_Dynamic_check") then Check else
    if is text (codes "_Dynamic_bounds_cast") then Tested else
    if is text (codes "_Assume_bounds_cast") then Trusted else
    kind_of_checked_word text

-- Keywords of C11 with the two names that stand like keywords.
abbrev pub kind_of_keyword : List ℕ → Kind
kind_of_keyword text =
    if is text (codes "int") then Int else
    if is text (codes "unsigned") then Unsigned else
    if is text (codes "char") then Char else
    if is text (codes "void") then Void else
    if is text (codes "struct") then Struct else
    if is text (codes "static") then Static else
    if is text (codes "if") then If else
    if is text (codes "else") then Else else
    if is text (codes "while") then While else
    if is text (codes "for") then For else
    if is text (codes "return") then Return else
    if is text (codes "break") then Break else
    if is text (codes "continue") then Continue else
    if is text (codes "sizeof") then Sizeof else
    if is text (codes "NULL") then Null else
    if is text (codes "EOF") then Eof else
    kind_of_checked_keyword text

-- Marks that change a variable.
abbrev pub kind_of_changing : List ℕ → Kind
kind_of_changing text =
    if is text (codes "++") then PlusPlus else
    if is text (codes "--") then MinusMinus else
    if is text (codes "+=") then PlusEquals else
    if is text (codes "-=") then MinusEquals else
    if is text (codes "*=") then StarEquals else
    if is text (codes "/=") then SlashEquals else
    if is text (codes "%=") then PercentEquals else
    if is text (codes "&=") then AmpersandEquals else
    if is text (codes "|=") then BarEquals else
    if is text (codes "^=") then CaretEquals else
    Other

-- Operators of two bytes.
abbrev pub kind_of_long_operator : List ℕ → Kind
kind_of_long_operator text =
    if is text (codes "<<") then ShiftLeft else
    if is text (codes "<=") then LessEquals else
    if is text (codes ">=") then GreaterEquals else
    if is text (codes "==") then EqualsEquals else
    if is text (codes "!=") then NotEquals else
    if is text (codes "&&") then AndAnd else
    if is text (codes "||") then BarBar else
    kind_of_changing text

-- Operators of one byte.
abbrev pub kind_of_operator : List ℕ → Kind
kind_of_operator text =
    if is text (codes "+") then Plus else
    if is text (codes "-") then Minus else
    if is text (codes "*") then Star else
    if is text (codes "/") then Slash else
    if is text (codes "%") then Percent else
    if is text (codes "&") then Ampersand else
    if is text (codes "|") then Bar else
    if is text (codes "^") then Caret else
    if is text (codes "~") then Tilde else
    if is text (codes "!") then Exclamation else
    kind_of_long_operator text

-- Marks.
abbrev pub kind_of_mark : List ℕ → Kind
kind_of_mark text =
    if is text (codes "(") then RoundOpen else
    if is text (codes ")") then RoundClose else
    if is text (codes "{") then CurlyOpen else
    if is text (codes "}") then CurlyClose else
    if is text (codes "[") then SquareOpen else
    if is text (codes "]") then SquareClose else
    if is text (codes "<") then Less else
    if is text (codes ">") then Greater else
    if is text (codes ",") then Comma else
    if is text (codes ";") then Semicolon else
    if is text (codes ":") then Colon else
    if is text (codes "?") then Question else
    if is text (codes "=") then Equals else
    if is text (codes ".") then Dot else
    if is text (codes "->") then Arrow else
    kind_of_operator text

-- the kind of a token by itself
abbrev pub kind_by : TokenKind → List ℕ → Kind
kind_by kinds.Name text = kind_of_name text
kind_by kinds.Keyword text = kind_of_keyword text
kind_by (kinds.Number n u) text = Number
kind_by (kinds.Character b) text = Character
kind_by kinds.Text text = Text
kind_by kinds.Mark text = kind_of_mark text
kind_by (kinds.Directive d) text = Directive

-- the kind of a token, by how the lexer reads it and how it is spelled
abbrev pub kind_of_token : Spelled → Kind
kind_of_token x = kind_by x.kind x.text

-- the operator of a sign before an operand
abbrev pub sign_of : Kind → Option TreeOp
sign_of Minus = Some op.Minus
sign_of Plus = Some op.Plus
sign_of Exclamation = Some op.Not
sign_of Tilde = Some op.Flip
sign_of Star = Some op.Deref
sign_of Ampersand = Some op.Address
sign_of _ = None

-- a token of this kind is a sign
abbrev pub is_sign : Kind → Bool
is_sign k = is_some (sign_of k)

-- the operator of a sign
abbrev pub sign_op : Kind → TreeOp
sign_op k = unwrap_or (sign_of k) op.Minus

-- the operator of `++` or `--`
abbrev pub increment_of : Kind → Option TreeOp
increment_of PlusPlus = Some op.Add
increment_of MinusMinus = Some op.Sub
increment_of _ = None

-- a token of this kind is `++` or `--`
abbrev pub is_increment : Kind → Bool
is_increment k = is_some (increment_of k)

abbrev pub increment_op : Kind → TreeOp
increment_op k = unwrap_or (increment_of k) op.Add

-- the operator of an operator with `=`
abbrev pub compound_of : Kind → Option TreeOp
compound_of PlusEquals = Some op.Add
compound_of MinusEquals = Some op.Sub
compound_of StarEquals = Some op.Mul
compound_of SlashEquals = Some op.Div
compound_of PercentEquals = Some op.Rem
compound_of AmpersandEquals = Some op.And
compound_of BarEquals = Some op.Or
compound_of CaretEquals = Some op.Xor
compound_of _ = None

-- a token of this kind is an operator with `=`
abbrev pub is_compound : Kind → Bool
is_compound k = is_some (compound_of k)

abbrev pub compound_op : Kind → TreeOp
compound_op k = unwrap_or (compound_of k) op.Add

-- the binary operator of a token, `<` and `>` apart
abbrev pub operator_of : Kind → Option TreeOp
operator_of BarBar = Some op.OrElse
operator_of AndAnd = Some op.AndThen
operator_of Bar = Some op.Or
operator_of Caret = Some op.Xor
operator_of Ampersand = Some op.And
operator_of EqualsEquals = Some op.Eq
operator_of NotEquals = Some op.Ne
operator_of LessEquals = Some op.Le
operator_of GreaterEquals = Some op.Ge
operator_of ShiftLeft = Some op.Shl
operator_of Plus = Some op.Add
operator_of Minus = Some op.Sub
operator_of Star = Some op.Mul
operator_of Slash = Some op.Div
operator_of Percent = Some op.Rem
operator_of _ = None

-- a token of this kind is a binary operator
abbrev pub is_operator : Kind → Bool
is_operator k = is_some (operator_of k)

-- the operator of a binary operator
abbrev pub binary_op : Kind → TreeOp
binary_op k = unwrap_or (operator_of k) op.Minus

-- a token of this kind is a number or a character
abbrev pub is_literal : Kind → Bool
is_literal Number = true
is_literal Character = true
is_literal _ = false
