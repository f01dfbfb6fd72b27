-- The list of all kinds.
use Rattle.std.proofs.Common.{◌≡◌, List, [], ◌∷◌, refl, get_or}
use Rattle.ckc_parser_grammar.specs.declared.kind.Kind.{Kind}
use Rattle.ckc_parser_grammar.specs.declared.kind.Kind.TheVariants as kind
use Rattle.ckc_parser_grammar.specs.code.Fits.{number}

abbrev pub all_kinds : List Kind
all_kinds = kind.End ∷ kind.Name ∷ kind.Calloc ∷ kind.Count ∷ kind.ByteCount ∷ kind.Bounds ∷ kind.Unknown ∷ kind.Number ∷ kind.Character ∷ kind.Text ∷ kind.Directive ∷ kind.Other ∷ kind.Int ∷ kind.Unsigned ∷ kind.Char ∷ kind.Void ∷ kind.Struct ∷ kind.Static ∷ kind.If ∷ kind.Else ∷ kind.While ∷ kind.For ∷ kind.Return ∷ kind.Break ∷ kind.Continue ∷ kind.Sizeof ∷ kind.Null ∷ kind.Eof ∷ kind.Ptr ∷ kind.ArrayPtr ∷ kind.NtArrayPtr ∷ kind.Checked ∷ kind.Unchecked ∷ kind.NtChecked ∷ kind.Bundled ∷ kind.Check ∷ kind.Tested ∷ kind.Trusted ∷ kind.RoundOpen ∷ kind.RoundClose ∷ kind.CurlyOpen ∷ kind.CurlyClose ∷ kind.SquareOpen ∷ kind.SquareClose ∷ kind.Less ∷ kind.Greater ∷ kind.GreaterNext ∷ kind.Comma ∷ kind.Semicolon ∷ kind.Colon ∷ kind.Question ∷ kind.Equals ∷ kind.Dot ∷ kind.Arrow ∷ kind.Plus ∷ kind.Minus ∷ kind.Star ∷ kind.Slash ∷ kind.Percent ∷ kind.Ampersand ∷ kind.Bar ∷ kind.Caret ∷ kind.Tilde ∷ kind.Exclamation ∷ kind.ShiftLeft ∷ kind.LessEquals ∷ kind.GreaterEquals ∷ kind.EqualsEquals ∷ kind.NotEquals ∷ kind.AndAnd ∷ kind.BarBar ∷ kind.PlusPlus ∷ kind.MinusMinus ∷ kind.PlusEquals ∷ kind.MinusEquals ∷ kind.StarEquals ∷ kind.SlashEquals ∷ kind.PercentEquals ∷ kind.AmpersandEquals ∷ kind.BarEquals ∷ kind.CaretEquals ∷ []

pub kind_at : (c : Kind) → get_or all_kinds (number c) kind.End ≡ c
kind_at kind.End = refl
kind_at kind.Name = refl
kind_at kind.Calloc = refl
kind_at kind.Count = refl
kind_at kind.ByteCount = refl
kind_at kind.Bounds = refl
kind_at kind.Unknown = refl
kind_at kind.Number = refl
kind_at kind.Character = refl
kind_at kind.Text = refl
kind_at kind.Directive = refl
kind_at kind.Other = refl
kind_at kind.Int = refl
kind_at kind.Unsigned = refl
kind_at kind.Char = refl
kind_at kind.Void = refl
kind_at kind.Struct = refl
kind_at kind.Static = refl
kind_at kind.If = refl
kind_at kind.Else = refl
kind_at kind.While = refl
kind_at kind.For = refl
kind_at kind.Return = refl
kind_at kind.Break = refl
kind_at kind.Continue = refl
kind_at kind.Sizeof = refl
kind_at kind.Null = refl
kind_at kind.Eof = refl
kind_at kind.Ptr = refl
kind_at kind.ArrayPtr = refl
kind_at kind.NtArrayPtr = refl
kind_at kind.Checked = refl
kind_at kind.Unchecked = refl
kind_at kind.NtChecked = refl
kind_at kind.Bundled = refl
kind_at kind.Check = refl
kind_at kind.Tested = refl
kind_at kind.Trusted = refl
kind_at kind.RoundOpen = refl
kind_at kind.RoundClose = refl
kind_at kind.CurlyOpen = refl
kind_at kind.CurlyClose = refl
kind_at kind.SquareOpen = refl
kind_at kind.SquareClose = refl
kind_at kind.Less = refl
kind_at kind.Greater = refl
kind_at kind.GreaterNext = refl
kind_at kind.Comma = refl
kind_at kind.Semicolon = refl
kind_at kind.Colon = refl
kind_at kind.Question = refl
kind_at kind.Equals = refl
kind_at kind.Dot = refl
kind_at kind.Arrow = refl
kind_at kind.Plus = refl
kind_at kind.Minus = refl
kind_at kind.Star = refl
kind_at kind.Slash = refl
kind_at kind.Percent = refl
kind_at kind.Ampersand = refl
kind_at kind.Bar = refl
kind_at kind.Caret = refl
kind_at kind.Tilde = refl
kind_at kind.Exclamation = refl
kind_at kind.ShiftLeft = refl
kind_at kind.LessEquals = refl
kind_at kind.GreaterEquals = refl
kind_at kind.EqualsEquals = refl
kind_at kind.NotEquals = refl
kind_at kind.AndAnd = refl
kind_at kind.BarBar = refl
kind_at kind.PlusPlus = refl
kind_at kind.MinusMinus = refl
kind_at kind.PlusEquals = refl
kind_at kind.MinusEquals = refl
kind_at kind.StarEquals = refl
kind_at kind.SlashEquals = refl
kind_at kind.PercentEquals = refl
kind_at kind.AmpersandEquals = refl
kind_at kind.BarEquals = refl
kind_at kind.CaretEquals = refl
