-- The tokens that the lexer makes hold words.
use Rattle.std.proofs.Common.{◌≡◌, ◌∙◌, ℕ, ◌<◌, ◌^◌, sym, subst, refl, Bool, true, false, List, [], ◌∷◌, ◌++◌, if◌then◌else◌, drop, slice_index, arith}
use Rattle.std.specs.Prelude.{Some}
use Rattle.std.proofs.lemmas.List.{append_assoc}
use Rattle.std.proofs.lemmas.List.Elements.{All-nil, All-cons}
use Rattle.std.proofs.lemmas.Bool.Decides.{nat_tests}
use Rattle.ckc_syntax.specs.Literals.{simple_escape, is_plain, IsEscape, IsPiece, Characters}
use Rattle.ckc_syntax.specs.Literals as literals
use Rattle.ckc_syntax.specs.Spelled.{Spelled, Tokens}
use Rattle.ckc_syntax.specs.declared.tokens.TokenKind.{TokenKind}
use Rattle.ckc_syntax.specs.declared.tokens.TokenKind.TheVariants as kinds
use Rattle.ckc_lexer.specs.Bytes.{class_of}
use Rattle.ckc_lexer.specs.Codes.{long_name}
use Rattle.ckc_lexer.specs.Comments as comments
use Rattle.ckc_lexer.specs.Comments.{IsSlashItem}
use Rattle.ckc_lexer.specs.Cut.{Part, Lexes, token_at, tokens_from}
use Rattle.ckc_lexer.specs.Directives.{HashCases}
use Rattle.ckc_lexer.specs.Literals.{CharacterCases, TextCases}
use Rattle.ckc_lexer.specs.Numbers.{NumberCases}
use Rattle.ckc_lexer.specs.Phase.{lexing}
use Rattle.ckc_lexer.specs.Spelling.{SpelledBy, Spells}
use Rattle.ckc_lexer.specs.Words.{is_keyword}
use Rattle.ckc_lexer.specs.declared.bytes.Class.{Class}
use Rattle.ckc_lexer.specs.declared.bytes.Class.TheVariants as class
use Rattle.ckc_lexer.specs.declared.items.Context.{Context}
use Rattle.ckc_lexer.specs.declared.items.Item.{Item}
use Rattle.ckc_lexer.specs.declared.items.Item.TheVariants.{Gap, Token, Broken}
use Rattle.ckc_blame_words.specs.Literals.{HoldsWord, TokensHoldWords}

-- ---- characters

small_word : (n : ℕ) → n < 256 → n < 2 ^ 32
small_word n h = omega (arith, h)

pub plain_small : (quote b : ℕ) → is_plain quote b ≡ true → b < 256
plain_small quote b h = grind (arith, nat_tests)

pub simple_small : (b value : ℕ) → simple_escape b ≡ Some value → value < 256
simple_small b value h = grind (arith, nat_tests)

escape_small : (w : List ℕ) (value : ℕ) → IsEscape w value → value < 256
escape_small w value (literals.simple l a e) = simple_small (slice_index w 1) value e
escape_small w value (literals.octal a d) = d.small
escape_small w value (literals.hexadecimal a x d) = d.small

piece_small : (quote : ℕ) (w : List ℕ) (value : ℕ) → IsPiece quote w value → value < 256
piece_small quote w value (literals.plain l p e) = subst (λ n. n < 256) (sym e) (plain_small quote (slice_index w 0) p)
piece_small quote w value (literals.escape e) = escape_small w value e

first_small : (quote : ℕ) (w values : List ℕ) (value : ℕ) → Characters quote w (value ∷ values) → value < 256
first_small quote w values value (literals.next n v longest rest) = piece_small quote _ value longest.spelled

-- ---- one token

word_token : (a b : Bool) (k : TokenKind) → Token k ≡ (if a then Broken long_name else (if b then Token kinds.Keyword else Token kinds.Name)) → HoldsWord k
word_token true b k e = absurd cc
word_token false true k e = let same : kinds.Keyword ≡ k = cc in subst HoldsWord same tt
word_token false false k e = let same : kinds.Name ≡ k = cc in subst HoldsWord same tt

mark_token : (k : TokenKind) → Token k ≡ Token kinds.Mark → HoldsWord k
mark_token k e = let same : kinds.Mark ≡ k = cc in subst HoldsWord same tt

number_token : (w : List ℕ) (k : TokenKind) → NumberCases w (Token k) → HoldsWord k
number_token w (kinds.Number n unsigned) h = h.0.3
number_token w (kinds.Character byte) h = absurd h
number_token w kinds.Name h = absurd h
number_token w kinds.Keyword h = absurd h
number_token w kinds.Text h = absurd h
number_token w kinds.Mark h = absurd h
number_token w (kinds.Directive d) h = absurd h

character_token : (w : List ℕ) (k : TokenKind) → CharacterCases w (Token k) → HoldsWord k
character_token w (kinds.Character byte) h = small_word byte (first_small 39 (drop 1 w) [] byte h.1)
character_token w (kinds.Number n unsigned) h = absurd h
character_token w kinds.Name h = absurd h
character_token w kinds.Keyword h = absurd h
character_token w kinds.Text h = absurd h
character_token w kinds.Mark h = absurd h
character_token w (kinds.Directive d) h = absurd h

text_token : (w : List ℕ) (k : TokenKind) → TextCases w (Token k) → HoldsWord k
text_token w kinds.Text h = tt
text_token w (kinds.Number n unsigned) h = absurd h
text_token w (kinds.Character byte) h = absurd h
text_token w kinds.Name h = tt
text_token w kinds.Keyword h = tt
text_token w kinds.Mark h = tt
text_token w (kinds.Directive d) h = tt

slash_token : (w : List ℕ) (k : TokenKind) → IsSlashItem w (Token k) → HoldsWord k
slash_token w k (comments.mark l e) = mark_token k e
slash_token w k (comments.division l e) = mark_token k e
slash_token w k (comments.line l e) = absurd cc
slash_token w k (comments.closed l e) = absurd cc
slash_token w k (comments.open_at_end l e) = absurd cc

hash_token : (fresh : Bool) (w : List ℕ) (k : TokenKind) → HashCases fresh w (Token k) → HoldsWord k
hash_token false w k h = let e = h.1 in absurd cc
hash_token true w (kinds.Directive d) h = tt
hash_token true w (kinds.Number n unsigned) h = absurd h
hash_token true w (kinds.Character byte) h = absurd h
hash_token true w kinds.Name h = tt
hash_token true w kinds.Keyword h = tt
hash_token true w kinds.Text h = tt
hash_token true w kinds.Mark h = tt

class_token : (c : Class) (context : Context) (w : List ℕ) (k : TokenKind) → SpelledBy c context w (Token k) → HoldsWord k
class_token class.Blank context w k h = let e = h.1 in absurd cc
class_token class.Letter context w k h = word_token _ (is_keyword context.checked w) k h.1
class_token class.Digit context w k h = number_token w k h.1
class_token class.Apostrophe context w k h = character_token w k h
class_token class.Quotation context w k h = text_token w k h
class_token class.Slash context w k h = slash_token w k h
class_token class.Hash context w k h = hash_token context.fresh w k h
class_token class.Mark context w k h = mark_token k h.1
class_token class.Other context w k h = let e = h.1 in absurd cc

token_word : (context : Context) (w : List ℕ) (k : TokenKind) → Spells context w (Token k) → HoldsWord k
token_word context w k h = class_token (class_of (slice_index w 0)) context w k h

-- ---- all tokens

abbrev Holds : Spelled → Type 0
Holds t = HoldsWord t.kind

module _ (text : List ℕ) (tokens : List Spelled) (lexes : Lexes text tokens) where
  part_words : (context : Context) (before bytes : List ℕ) (item : Item) (rest : List Spelled) → Spells context bytes item → TokensHoldWords rest → TokensHoldWords (token_at before bytes item ++ rest)
  part_words context before bytes Gap rest s h = h
  part_words context before bytes (Token k) rest s h = All-cons Holds _ rest (token_word context bytes k s) h
  part_words context before bytes (Broken code) rest s h = h

  words_from : (front rest : List Part) (before : List ℕ) → lexes.parts ≡ front ++ rest → TokensHoldWords (tokens_from before rest)
  words_from front [] before e = All-nil Holds
  words_from front (part ∷ rest) before e =
      part_words _ before part.bytes part.item (tokens_from (before ++ part.bytes) rest) (lexes.cut.each front part rest e).spells
      (words_from (front ++ part ∷ []) rest (before ++ part.bytes) (e ∙ sym (append_assoc front (part ∷ []) rest)))

pub tokens_hold_words : (text : List ℕ) (tokens : Tokens) → lexing.Makes text tokens → TokensHoldWords tokens.list
tokens_hold_words text tokens made = subst TokensHoldWords (sym made.1.tokens_are) (words_from text tokens.list made.1 [] made.1.parts [] refl)
