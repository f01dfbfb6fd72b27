-- Whether a token may stand for a terminal, as the parser asks it.
use Rattle.std.specs.Prelude.{ℕ, Bool, ◌==◌}
use Rattle.ckc_parser_grammar.specs.declared.kind.Kind.{Kind}
use Rattle.ckc_parser_grammar.specs.declared.kind.Kind.TheVariants.{End, Name, Calloc, Count, ByteCount, Bounds, Unknown, Number, Character, Text, Directive, Other, Int, Unsigned, Char, Void, Struct, Static, If, Else, While, For, Return, Break, Continue, Sizeof, Null, Eof, Ptr, ArrayPtr, NtArrayPtr, Checked, Unchecked, NtChecked, Bundled, Check, Tested, Trusted, RoundOpen, RoundClose, CurlyOpen, CurlyClose, SquareOpen, SquareClose, Less, Greater, GreaterNext, Comma, Semicolon, Colon, Question, Equals, Dot, Arrow, Plus, Minus, Star, Slash, Percent, Ampersand, Bar, Caret, Tilde, Exclamation, ShiftLeft, LessEquals, GreaterEquals, EqualsEquals, NotEquals, AndAnd, BarBar, PlusPlus, MinusMinus, PlusEquals, MinusEquals, StarEquals, SlashEquals, PercentEquals, AmpersandEquals, BarEquals, CaretEquals}
use Rattle.ckc_parser_grammar.specs.code.Kinds.{is_sign, is_increment, is_compound, is_operator, is_literal}
use Rattle.ckc_parser_grammar.specs.code.Grammar.{Terminal, one, name, greater, sign, increment_sign, compound, operator, literal, name_but_calloc, name_but_unknown, is_name, is_name_but_calloc, is_name_but_unknown, is_greater}

-- the number of a kind
abbrev pub number : Kind → ℕ
number End = 0
number Name = 1
number Calloc = 2
number Count = 3
number ByteCount = 4
number Bounds = 5
number Unknown = 6
number Number = 7
number Character = 8
number Text = 9
number Directive = 10
number Other = 11
number Int = 12
number Unsigned = 13
number Char = 14
number Void = 15
number Struct = 16
number Static = 17
number If = 18
number Else = 19
number While = 20
number For = 21
number Return = 22
number Break = 23
number Continue = 24
number Sizeof = 25
number Null = 26
number Eof = 27
number Ptr = 28
number ArrayPtr = 29
number NtArrayPtr = 30
number Checked = 31
number Unchecked = 32
number NtChecked = 33
number Bundled = 34
number Check = 35
number Tested = 36
number Trusted = 37
number RoundOpen = 38
number RoundClose = 39
number CurlyOpen = 40
number CurlyClose = 41
number SquareOpen = 42
number SquareClose = 43
number Less = 44
number Greater = 45
number GreaterNext = 46
number Comma = 47
number Semicolon = 48
number Colon = 49
number Question = 50
number Equals = 51
number Dot = 52
number Arrow = 53
number Plus = 54
number Minus = 55
number Star = 56
number Slash = 57
number Percent = 58
number Ampersand = 59
number Bar = 60
number Caret = 61
number Tilde = 62
number Exclamation = 63
number ShiftLeft = 64
number LessEquals = 65
number GreaterEquals = 66
number EqualsEquals = 67
number NotEquals = 68
number AndAnd = 69
number BarBar = 70
number PlusPlus = 71
number MinusMinus = 72
number PlusEquals = 73
number MinusEquals = 74
number StarEquals = 75
number SlashEquals = 76
number PercentEquals = 77
number AmpersandEquals = 78
number BarEquals = 79
number CaretEquals = 80

-- a token of the kind may stand for the terminal
abbrev pub fits : Terminal → Kind → Bool
fits (one k) c = number k == number c
fits name c = is_name c
fits greater c = is_greater c
fits sign c = is_sign c
fits increment_sign c = is_increment c
fits compound c = is_compound c
fits operator c = is_operator c
fits literal c = is_literal c
fits name_but_calloc c = is_name_but_calloc c
fits name_but_unknown c = is_name_but_unknown c
