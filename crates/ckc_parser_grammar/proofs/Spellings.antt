-- A token of each kind, at no place of a text.
use Rattle.std.proofs.Common.{List, ℕ, false}
use Rattle.std.specs.Prelude.{codes}
use Rattle.ckc_syntax.specs.Spelled.{Spelled}
use Rattle.ckc_syntax.specs.declared.tokens.TokenKind.{TokenKind}
use Rattle.ckc_syntax.specs.declared.tokens.TokenKind.TheVariants as kinds
use Rattle.ckc_syntax.specs.declared.tokens.Directive.TheVariants as directives
use Rattle.ckc_parser_grammar.specs.declared.kind.Kind.{Kind}
use Rattle.ckc_parser_grammar.specs.declared.kind.Kind.TheVariants as kind
use Rattle.ckc_parser_grammar.specs.code.Grammar.{Terminal, one, name, greater, sign, increment_sign, compound, operator, literal, name_but_calloc, name_but_unknown}

abbrev token_of : TokenKind → List ℕ → Spelled
token_of k text = record { kind = k; text = text; pos = record { line = 0; col = 0 } }

abbrev spelled_as : Kind → TokenKind × List ℕ
spelled_as kind.End = (kinds.Mark, codes ">")
spelled_as kind.Name = (kinds.Name, codes "x")
spelled_as kind.Calloc = (kinds.Name, codes "calloc")
spelled_as kind.Count = (kinds.Name, codes "count")
spelled_as kind.ByteCount = (kinds.Name, codes "byte_count")
spelled_as kind.Bounds = (kinds.Name, codes "bounds")
spelled_as kind.Unknown = (kinds.Name, codes "unknown")
spelled_as kind.Number = (kinds.Number 0 false, codes "0")
spelled_as kind.Character = (kinds.Character 48, codes "0")
spelled_as kind.Text = (kinds.Text, codes "s")
spelled_as kind.Directive = (kinds.Directive directives.Stdio, codes "#")
spelled_as kind.Other = (kinds.Mark, codes ">")
spelled_as kind.Int = (kinds.Keyword, codes "int")
spelled_as kind.Unsigned = (kinds.Keyword, codes "unsigned")
spelled_as kind.Char = (kinds.Keyword, codes "char")
spelled_as kind.Void = (kinds.Keyword, codes "void")
spelled_as kind.Struct = (kinds.Keyword, codes "struct")
spelled_as kind.Static = (kinds.Keyword, codes "static")
spelled_as kind.If = (kinds.Keyword, codes "if")
spelled_as kind.Else = (kinds.Keyword, codes "else")
spelled_as kind.While = (kinds.Keyword, codes "while")
spelled_as kind.For = (kinds.Keyword, codes "for")
spelled_as kind.Return = (kinds.Keyword, codes "return")
spelled_as kind.Break = (kinds.Keyword, codes "break")
spelled_as kind.Continue = (kinds.Keyword, codes "continue")
spelled_as kind.Sizeof = (kinds.Keyword, codes "sizeof")
spelled_as kind.Null = (kinds.Keyword, codes "NULL")
spelled_as kind.Eof = (kinds.Keyword, codes "EOF")
spelled_as kind.Ptr = (kinds.Keyword, codes "_Ptr")
spelled_as kind.ArrayPtr = (kinds.Keyword, codes "_Array_ptr")
spelled_as kind.NtArrayPtr = (kinds.Keyword, codes "_Nt_array_ptr")
spelled_as kind.Checked = (kinds.Keyword, codes "_Checked")
spelled_as kind.Unchecked = (kinds.Keyword, codes "_Unchecked")
spelled_as kind.NtChecked = (kinds.Keyword, codes "_Nt_checked")
spelled_as kind.Bundled = (kinds.Keyword, codes "_Bundled")
spelled_as kind.Check = (kinds.Keyword, codes "_Dynamic_check")
spelled_as kind.Tested = (kinds.Keyword, codes "_Dynamic_bounds_cast")
spelled_as kind.Trusted = (kinds.Keyword, codes "_Assume_bounds_cast")
spelled_as kind.RoundOpen = (kinds.Mark, codes "(")
spelled_as kind.RoundClose = (kinds.Mark, codes ")")
spelled_as kind.CurlyOpen = (kinds.Mark, codes "{")
spelled_as kind.CurlyClose = (kinds.Mark, codes "}")
spelled_as kind.SquareOpen = (kinds.Mark, codes "[")
spelled_as kind.SquareClose = (kinds.Mark, codes "]")
spelled_as kind.Less = (kinds.Mark, codes "<")
spelled_as kind.Greater = (kinds.Mark, codes ">")
spelled_as kind.GreaterNext = (kinds.Mark, codes ">")
spelled_as kind.Comma = (kinds.Mark, codes ",")
spelled_as kind.Semicolon = (kinds.Mark, codes ";")
spelled_as kind.Colon = (kinds.Mark, codes ":")
spelled_as kind.Question = (kinds.Mark, codes "?")
spelled_as kind.Equals = (kinds.Mark, codes "=")
spelled_as kind.Dot = (kinds.Mark, codes ".")
spelled_as kind.Arrow = (kinds.Mark, codes "->")
spelled_as kind.Plus = (kinds.Mark, codes "+")
spelled_as kind.Minus = (kinds.Mark, codes "-")
spelled_as kind.Star = (kinds.Mark, codes "*")
spelled_as kind.Slash = (kinds.Mark, codes "/")
spelled_as kind.Percent = (kinds.Mark, codes "%")
spelled_as kind.Ampersand = (kinds.Mark, codes "&")
spelled_as kind.Bar = (kinds.Mark, codes "|")
spelled_as kind.Caret = (kinds.Mark, codes "^")
spelled_as kind.Tilde = (kinds.Mark, codes "~")
spelled_as kind.Exclamation = (kinds.Mark, codes "!")
spelled_as kind.ShiftLeft = (kinds.Mark, codes "<<")
spelled_as kind.LessEquals = (kinds.Mark, codes "<=")
spelled_as kind.GreaterEquals = (kinds.Mark, codes ">=")
spelled_as kind.EqualsEquals = (kinds.Mark, codes "==")
spelled_as kind.NotEquals = (kinds.Mark, codes "!=")
spelled_as kind.AndAnd = (kinds.Mark, codes "&&")
spelled_as kind.BarBar = (kinds.Mark, codes "||")
spelled_as kind.PlusPlus = (kinds.Mark, codes "++")
spelled_as kind.MinusMinus = (kinds.Mark, codes "--")
spelled_as kind.PlusEquals = (kinds.Mark, codes "+=")
spelled_as kind.MinusEquals = (kinds.Mark, codes "-=")
spelled_as kind.StarEquals = (kinds.Mark, codes "*=")
spelled_as kind.SlashEquals = (kinds.Mark, codes "/=")
spelled_as kind.PercentEquals = (kinds.Mark, codes "%=")
spelled_as kind.AmpersandEquals = (kinds.Mark, codes "&=")
spelled_as kind.BarEquals = (kinds.Mark, codes "|=")
spelled_as kind.CaretEquals = (kinds.Mark, codes "^=")

abbrev pub spelled : Kind → Spelled
spelled k = token_of (spelled_as k).0 (spelled_as k).1

-- the kind of a token that stands for a terminal
abbrev pub sample_kind : Terminal → Kind
sample_kind (one k) = k
sample_kind name = kind.Name
sample_kind greater = kind.Greater
sample_kind sign = kind.Minus
sample_kind increment_sign = kind.PlusPlus
sample_kind compound = kind.PlusEquals
sample_kind operator = kind.Plus
sample_kind literal = kind.Number
sample_kind name_but_calloc = kind.Name
sample_kind name_but_unknown = kind.Name
