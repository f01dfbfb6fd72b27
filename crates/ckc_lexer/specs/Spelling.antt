-- The items of a text: its gaps, its tokens, and what is broken, each by the bytes that spell it.
use Rattle.std.specs.Prelude.{◌≡◌, ℕ, List, length, slice_index}
use Rattle.ckc_lexer.specs.declared.bytes.Class.{Class}
use Rattle.ckc_lexer.specs.declared.bytes.Class.TheVariants.{Blank, Letter, Digit, Apostrophe, Quotation, Slash, Hash, Mark, Other}
use Rattle.ckc_lexer.specs.declared.items.Item.{Item}
use Rattle.ckc_lexer.specs.declared.items.Item.TheVariants.{Gap, Broken}
use Rattle.ckc_lexer.specs.declared.items.Context.{Context}
use Rattle.ckc_lexer.specs.Bytes.{class_of}
use Rattle.ckc_lexer.specs.Words.{IsWordItem}
use Rattle.ckc_lexer.specs.Numbers.{IsNumberItem}
use Rattle.ckc_lexer.specs.Literals.{CharacterCases, TextCases}
use Rattle.ckc_lexer.specs.Comments.{IsSlashItem}
use Rattle.ckc_lexer.specs.Directives.{HashCases}
use Rattle.ckc_lexer.specs.Marks.{IsMarkItem}
use Rattle.ckc_lexer.specs.Codes.{no_token}

-- what bytes spell whose first one is of this class
abbrev pub SpelledBy : Class → Context → List ℕ → Item → Type 0
SpelledBy Blank context w item = (length w ≡ 1) × (item ≡ Gap)
SpelledBy Letter context w item = IsWordItem context.checked w item
SpelledBy Digit context w item = IsNumberItem w item
SpelledBy Apostrophe context w item = CharacterCases w item
SpelledBy Quotation context w item = TextCases w item
SpelledBy Slash context w item = IsSlashItem w item
SpelledBy Hash context w item = HashCases context.fresh w item
SpelledBy Mark context w item = IsMarkItem w item
SpelledBy Other context w item = (length w ≡ 1) × (item ≡ Broken no_token)

-- The bytes, all of them, spell the item.
abbrev pub Spells : Context → List ℕ → Item → Type 0
Spells context w item = SpelledBy (class_of (slice_index w 0)) context w item
