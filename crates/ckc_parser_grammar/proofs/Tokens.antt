-- The kinds by which the parser's table tells tokens apart, and the spellings of the grammar.
use Rattle.std.proofs.Common.{◌≡◌, ℕ, List, [], ◌∷◌, Bool, true, false, ◌&&◌, ◌||◌, ◌==◌, refl, sym, ap, subst, ◌∙◌, arith}
use Rattle.std.proofs.lemmas.Bool.Decides.{nat_tests}
use Rattle.std.specs.Prelude.{if◌then◌else◌, codes}
use Rattle.ckc_base.specs.declared.places.Pos.{Pos}
use Rattle.ckc_syntax.specs.declared.tokens.TokenKind.{TokenKind}
use Rattle.ckc_syntax.specs.declared.tokens.TokenKind.TheVariants as kinds
use Rattle.ckc_syntax.specs.declared.tokens.Directive.{Directive}
use Rattle.ckc_parser_grammar.specs.declared.kind.Kind.{Kind}
use Rattle.ckc_parser_grammar.specs.declared.kind.Kind.TheVariants as kind
use Rattle.ckc_parser_grammar.specs.code.Kinds.{kind_of_token, kind_by, kind_of_name, kind_of_keyword, kind_of_mark}
use Rattle.ckc_parser_grammar.specs.code.Grammar.{is_name, is_greater, not_else}
use Rattle.ckc_parser_grammar.specs.code.Derives.{Sign}
use Rattle.ckc_parser_grammar.specs.code.Signs.{glued}
use Rattle.ckc_grammar.specs.Productions.{Terminal, keyword, either, mark, next, word, any_name, any_number, any_character, any_string, any_directive}
use Rattle.ckc_grammar.specs.Derivation.{Word, is, is_keyword, is_mark, is_word, is_of, fits}
use Rattle.ckc_parser_grammar.proofs.Spelled.{is_same}

-- the token as the table sees it
abbrev pub sign_of : Word → Sign
sign_of w = record { kind = glued w.glued (kind_of_token w.token); token = w.token }

-- what stands for a kind in the grammar
abbrev pub terminal_of : Kind → Terminal
terminal_of kind.Name = any_name
terminal_of kind.Calloc = word (codes "calloc")
terminal_of kind.Count = word (codes "count")
terminal_of kind.ByteCount = word (codes "byte_count")
terminal_of kind.Bounds = word (codes "bounds")
terminal_of kind.Unknown = word (codes "unknown")
terminal_of kind.Number = any_number
terminal_of kind.Character = any_character
terminal_of kind.Text = any_string
terminal_of kind.Directive = any_directive
terminal_of kind.Int = keyword (codes "int")
terminal_of kind.Unsigned = keyword (codes "unsigned")
terminal_of kind.Char = keyword (codes "char")
terminal_of kind.Void = keyword (codes "void")
terminal_of kind.Struct = keyword (codes "struct")
terminal_of kind.Static = keyword (codes "static")
terminal_of kind.If = keyword (codes "if")
terminal_of kind.Else = keyword (codes "else")
terminal_of kind.While = keyword (codes "while")
terminal_of kind.For = keyword (codes "for")
terminal_of kind.Return = keyword (codes "return")
terminal_of kind.Break = keyword (codes "break")
terminal_of kind.Continue = keyword (codes "continue")
terminal_of kind.Sizeof = keyword (codes "sizeof")
terminal_of kind.Null = keyword (codes "NULL")
terminal_of kind.Eof = keyword (codes "EOF")
terminal_of kind.Ptr = either (codes "_Ptr") (codes "ptr")
terminal_of kind.ArrayPtr = either (codes "_Array_ptr") (codes "array_ptr")
terminal_of kind.NtArrayPtr = either (codes "_Nt_array_ptr") (codes "nt_array_ptr")
terminal_of kind.Checked = either (codes "_Checked") (codes "checked")
terminal_of kind.Unchecked = either (codes "_Unchecked") (codes "unchecked")
terminal_of kind.NtChecked = either (codes "_Nt_checked") (codes "nt_checked")
terminal_of kind.Bundled = keyword (codes "_Bundled")
terminal_of kind.Check = either (codes "_Dynamic_check") (codes "dynamic_check")
terminal_of kind.Tested = either (codes "_Dynamic_bounds_cast") (codes "dynamic_bounds_cast")
terminal_of kind.Trusted = either (codes "_Assume_bounds_cast") (codes "assume_bounds_cast")
terminal_of kind.RoundOpen = mark (codes "(")
terminal_of kind.RoundClose = mark (codes ")")
terminal_of kind.CurlyOpen = mark (codes "{")
terminal_of kind.CurlyClose = mark (codes "}")
terminal_of kind.SquareOpen = mark (codes "[")
terminal_of kind.SquareClose = mark (codes "]")
terminal_of kind.Less = mark (codes "<")
terminal_of kind.Greater = mark (codes ">")
terminal_of kind.GreaterNext = next (codes ">")
terminal_of kind.Comma = mark (codes ",")
terminal_of kind.Semicolon = mark (codes ";")
terminal_of kind.Colon = mark (codes ":")
terminal_of kind.Question = mark (codes "?")
terminal_of kind.Equals = mark (codes "=")
terminal_of kind.Dot = mark (codes ".")
terminal_of kind.Arrow = mark (codes "->")
terminal_of kind.Plus = mark (codes "+")
terminal_of kind.Minus = mark (codes "-")
terminal_of kind.Star = mark (codes "*")
terminal_of kind.Slash = mark (codes "/")
terminal_of kind.Percent = mark (codes "%")
terminal_of kind.Ampersand = mark (codes "&")
terminal_of kind.Bar = mark (codes "|")
terminal_of kind.Caret = mark (codes "^")
terminal_of kind.Tilde = mark (codes "~")
terminal_of kind.Exclamation = mark (codes "!")
terminal_of kind.ShiftLeft = mark (codes "<<")
terminal_of kind.LessEquals = mark (codes "<=")
terminal_of kind.GreaterEquals = mark (codes ">=")
terminal_of kind.EqualsEquals = mark (codes "==")
terminal_of kind.NotEquals = mark (codes "!=")
terminal_of kind.AndAnd = mark (codes "&&")
terminal_of kind.BarBar = mark (codes "||")
terminal_of kind.PlusPlus = mark (codes "++")
terminal_of kind.MinusMinus = mark (codes "--")
terminal_of kind.PlusEquals = mark (codes "+=")
terminal_of kind.MinusEquals = mark (codes "-=")
terminal_of kind.StarEquals = mark (codes "*=")
terminal_of kind.SlashEquals = mark (codes "/=")
terminal_of kind.PercentEquals = mark (codes "%=")
terminal_of kind.AmpersandEquals = mark (codes "&=")
terminal_of kind.BarEquals = mark (codes "|=")
terminal_of kind.CaretEquals = mark (codes "^=")
terminal_of _ = mark []

-- whether the token is what stands for its kind; no production has the kinds End and Other
abbrev pub reads : Kind → Word → Bool
reads kind.End w = true
reads kind.Other w = true
reads k w = fits (terminal_of k) w

abbrev Rows : Type 0
Rows = List (List ℕ × Kind)

abbrev names : Rows
names = (codes "calloc", kind.Calloc) ∷ (codes "count", kind.Count) ∷ (codes "byte_count", kind.ByteCount) ∷ (codes "bounds", kind.Bounds) ∷ (codes "unknown", kind.Unknown) ∷ []

abbrev keywords : Rows
keywords =
    (codes "int", kind.Int) ∷ (codes "unsigned", kind.Unsigned) ∷ (codes "char", kind.Char) ∷ (codes "void", kind.Void)
    ∷ (codes "struct", kind.Struct) ∷ (codes "static", kind.Static) ∷ (codes "if", kind.If) ∷ (codes "else", kind.Else)
    ∷ (codes "while", kind.While) ∷ (codes "for", kind.For) ∷ (codes "return", kind.Return) ∷ (codes "break", kind.Break)
    ∷ (codes "continue", kind.Continue) ∷ (codes "sizeof", kind.Sizeof) ∷ (codes "NULL", kind.Null) ∷ (codes "EOF", kind.Eof)
    ∷ (codes "_Ptr", kind.Ptr) ∷ (codes "_Array_ptr", kind.ArrayPtr) ∷ (codes "_Nt_array_ptr", kind.NtArrayPtr)
    ∷ (codes "_Checked", kind.Checked) ∷ (codes "_Unchecked", kind.Unchecked) ∷ (codes "_Nt_checked", kind.NtChecked)
    ∷ (codes "_Bundled", kind.Bundled) ∷ (codes "_Dynamic_check", kind.Check) ∷ (codes "_Dynamic_bounds_cast", kind.Tested)
    ∷ (codes "_Assume_bounds_cast", kind.Trusted) ∷ (codes "ptr", kind.Ptr) ∷ (codes "array_ptr", kind.ArrayPtr)
    ∷ (codes "nt_array_ptr", kind.NtArrayPtr) ∷ (codes "checked", kind.Checked) ∷ (codes "unchecked", kind.Unchecked)
    ∷ (codes "nt_checked", kind.NtChecked) ∷ (codes "dynamic_check", kind.Check) ∷ (codes "dynamic_bounds_cast", kind.Tested)
    ∷ (codes "assume_bounds_cast", kind.Trusted) ∷ []

abbrev marks : Rows
marks =
    (codes "(", kind.RoundOpen) ∷ (codes ")", kind.RoundClose) ∷ (codes "{", kind.CurlyOpen) ∷ (codes "}", kind.CurlyClose)
    ∷ (codes "[", kind.SquareOpen) ∷ (codes "]", kind.SquareClose) ∷ (codes "<", kind.Less) ∷ (codes ">", kind.Greater)
    ∷ (codes ",", kind.Comma) ∷ (codes ";", kind.Semicolon) ∷ (codes ":", kind.Colon) ∷ (codes "?", kind.Question)
    ∷ (codes "=", kind.Equals) ∷ (codes ".", kind.Dot) ∷ (codes "->", kind.Arrow) ∷ (codes "+", kind.Plus)
    ∷ (codes "-", kind.Minus) ∷ (codes "*", kind.Star) ∷ (codes "/", kind.Slash) ∷ (codes "%", kind.Percent)
    ∷ (codes "&", kind.Ampersand) ∷ (codes "|", kind.Bar) ∷ (codes "^", kind.Caret) ∷ (codes "~", kind.Tilde)
    ∷ (codes "!", kind.Exclamation) ∷ (codes "<<", kind.ShiftLeft) ∷ (codes "<=", kind.LessEquals)
    ∷ (codes ">=", kind.GreaterEquals) ∷ (codes "==", kind.EqualsEquals) ∷ (codes "!=", kind.NotEquals)
    ∷ (codes "&&", kind.AndAnd) ∷ (codes "||", kind.BarBar) ∷ (codes "++", kind.PlusPlus)
    ∷ (codes "--", kind.MinusMinus) ∷ (codes "+=", kind.PlusEquals) ∷ (codes "-=", kind.MinusEquals)
    ∷ (codes "*=", kind.StarEquals) ∷ (codes "/=", kind.SlashEquals) ∷ (codes "%=", kind.PercentEquals)
    ∷ (codes "&=", kind.AmpersandEquals) ∷ (codes "|=", kind.BarEquals) ∷ (codes "^=", kind.CaretEquals) ∷ []

-- the kind in the row of a spelling
abbrev find : Rows → List ℕ → Kind → Kind
find [] text last = last
find (r ∷ rows) text last = if is text r.0 then r.1 else find rows text last

abbrev all_rows : (Kind → List ℕ → Bool) → Rows → Bool
all_rows test [] = true
all_rows test (r ∷ rows) = test r.1 r.0 && all_rows test rows

pub and_both : (a b : Bool) → (a && b) ≡ true → (a ≡ true) × (b ≡ true)
and_both true true h = (refl, refl)
and_both true false h = absurd (cc)
and_both false b h = absurd (cc)

row_or : (test : Kind → List ℕ → Bool) (b : Bool) (r : List ℕ × Kind) (text : List ℕ) (x : Kind) → (b ≡ true → text ≡ r.0) → test r.1 r.0 ≡ true → test x text ≡ true → test (if b then r.1 else x) text ≡ true
row_or test true r text x e h k = subst (λ z. test r.1 z ≡ true) (sym (e refl)) h
row_or test false r text x e h k = k

found : (test : Kind → List ℕ → Bool) (rows : Rows) (text : List ℕ) (last : Kind) → all_rows test rows ≡ true → test last text ≡ true → test (find rows text last) text ≡ true
found test [] text last h k = k
found test (r ∷ rows) text last h k =
    let b = and_both (test r.1 r.0) (all_rows test rows) h in
    row_or test (is text r.0) r text (find rows text last) (is_same text r.0) b.0 (found test rows text last b.1 k)

abbrev at : TokenKind → List ℕ → Pos → Bool → Word
at k text pos b = record { token = record { kind = k; text = text; pos = pos }; glued = b }

-- a test of tokens by their kinds that each row of a class keeps
record Keeps (test : Kind → Word → Bool) (b : Bool) : Type 0 where
  on_names : (pos : Pos) → all_rows (λ k s. test (glued b k) (at kinds.Name s pos b)) names ≡ true
  on_keywords : (pos : Pos) → all_rows (λ k s. test (glued b k) (at kinds.Keyword s pos b)) keywords ≡ true
  on_marks : (pos : Pos) → all_rows (λ k s. test (glued b k) (at kinds.Mark s pos b)) marks ≡ true
  other_name : (text : List ℕ) (pos : Pos) → test kind.Name (at kinds.Name text pos b) ≡ true
  other_keyword : (text : List ℕ) (pos : Pos) → test kind.Other (at kinds.Keyword text pos b) ≡ true
  other_mark : (text : List ℕ) (pos : Pos) → test kind.Other (at kinds.Mark text pos b) ≡ true
  on_number : (m : ℕ) (u : Bool) (text : List ℕ) (pos : Pos) → test kind.Number (at (kinds.Number m u) text pos b) ≡ true
  on_character : (m : ℕ) (text : List ℕ) (pos : Pos) → test kind.Character (at (kinds.Character m) text pos b) ≡ true
  on_text : (text : List ℕ) (pos : Pos) → test kind.Text (at kinds.Text text pos b) ≡ true
  on_directive : (d : Directive) (text : List ℕ) (pos : Pos) → test kind.Directive (at (kinds.Directive d) text pos b) ≡ true

kept_by : (test : Kind → Word → Bool) (b : Bool) → Keeps test b → (k : TokenKind) (text : List ℕ) (pos : Pos) → test (glued b (kind_by k text)) (at k text pos b) ≡ true
kept_by test b h kinds.Name text pos = found (λ k s. test (glued b k) (at kinds.Name s pos b)) names text kind.Name (h.on_names pos) (h.other_name text pos)
kept_by test b h kinds.Keyword text pos = found (λ k s. test (glued b k) (at kinds.Keyword s pos b)) keywords text kind.Other (h.on_keywords pos) (h.other_keyword text pos)
kept_by test b h (kinds.Number m u) text pos = h.on_number m u text pos
kept_by test b h (kinds.Character m) text pos = h.on_character m text pos
kept_by test b h kinds.Text text pos = h.on_text text pos
kept_by test b h kinds.Mark text pos = found (λ k s. test (glued b k) (at kinds.Mark s pos b)) marks text kind.Other (h.on_marks pos) (h.other_mark text pos)
kept_by test b h (kinds.Directive d) text pos = h.on_directive d text pos

kept_at : (test : Kind → Word → Bool) (b : Bool) → Keeps test true → Keeps test false → (k : TokenKind) (text : List ℕ) (pos : Pos) → test (glued b (kind_by k text)) (at k text pos b) ≡ true
kept_at test true h i k text pos = kept_by test true h k text pos
kept_at test false h i k text pos = kept_by test false i k text pos

kept : (test : Kind → Word → Bool) → Keeps test true → Keeps test false → (w : Word) → test (sign_of w).kind w ≡ true
kept test h i w = kept_at test w.glued h i w.token.kind w.token.text w.token.pos

reads_after : Keeps reads true
reads_after = record { on_names = λ p. refl; on_keywords = λ p. refl; on_marks = λ p. refl; other_name = λ t p. refl; other_keyword = λ t p. refl; other_mark = λ t p. refl; on_number = λ m u t p. refl; on_character = λ m t p. refl; on_text = λ t p. refl; on_directive = λ d t p. refl }

reads_alone : Keeps reads false
reads_alone = record { on_names = λ p. refl; on_keywords = λ p. refl; on_marks = λ p. refl; other_name = λ t p. refl; other_keyword = λ t p. refl; other_mark = λ t p. refl; on_number = λ m u t p. refl; on_character = λ m t p. refl; on_text = λ t p. refl; on_directive = λ d t p. refl }

-- a token of a kind is what stands for the kind
pub read_as : (k : Kind) (w : Word) → (sign_of w).kind ≡ k → reads k w ≡ true
read_as k w h = subst (λ q. reads q w ≡ true) h (kept reads reads_after reads_alone w)

abbrev implies : Bool → Bool → Bool
implies true b = b
implies false b = true

abbrev names_fit : Kind → Word → Bool
names_fit k w = implies (is_name k) (fits any_name w)

names_after : Keeps names_fit true
names_after = record { on_names = λ p. refl; on_keywords = λ p. refl; on_marks = λ p. refl; other_name = λ t p. refl; other_keyword = λ t p. refl; other_mark = λ t p. refl; on_number = λ m u t p. refl; on_character = λ m t p. refl; on_text = λ t p. refl; on_directive = λ d t p. refl }

names_alone : Keeps names_fit false
names_alone = record { on_names = λ p. refl; on_keywords = λ p. refl; on_marks = λ p. refl; other_name = λ t p. refl; other_keyword = λ t p. refl; other_mark = λ t p. refl; on_number = λ m u t p. refl; on_character = λ m t p. refl; on_text = λ t p. refl; on_directive = λ d t p. refl }

-- a token that the table reads as a name is one
pub name_read : (w : Word) → is_name (sign_of w).kind ≡ true → fits any_name w ≡ true
name_read w h = subst (λ b. implies b (fits any_name w) ≡ true) h (kept names_fit names_after names_alone w)

abbrev greater_fits : Kind → Word → Bool
greater_fits k w = implies (is_greater k) (fits (mark (codes ">")) w)

greater_after : Keeps greater_fits true
greater_after = record { on_names = λ p. refl; on_keywords = λ p. refl; on_marks = λ p. refl; other_name = λ t p. refl; other_keyword = λ t p. refl; other_mark = λ t p. refl; on_number = λ m u t p. refl; on_character = λ m t p. refl; on_text = λ t p. refl; on_directive = λ d t p. refl }

greater_alone : Keeps greater_fits false
greater_alone = record { on_names = λ p. refl; on_keywords = λ p. refl; on_marks = λ p. refl; other_name = λ t p. refl; other_keyword = λ t p. refl; other_mark = λ t p. refl; on_number = λ m u t p. refl; on_character = λ m t p. refl; on_text = λ t p. refl; on_directive = λ d t p. refl }

-- a `>`, also one directly after another
pub greater_read : (w : Word) → is_greater (sign_of w).kind ≡ true → fits (mark (codes ">")) w ≡ true
greater_read w h = subst (λ b. implies b (fits (mark (codes ">")) w) ≡ true) h (kept greater_fits greater_after greater_alone w)

-- the other way: a token that fits is of the kind
keyword_by : (k : TokenKind) (text s : List ℕ) (b : Bool) → is_keyword k text s ≡ true → glued b (kind_by k text) ≡ glued b (kind_of_keyword s)
keyword_by kinds.Keyword text s b h = ap (λ z. glued b (kind_of_keyword z)) (is_same text s h)
keyword_by _ text s b h = absurd (cc)

pub keyword_kind : (s : List ℕ) (w : Word) → fits (keyword s) w ≡ true → (sign_of w).kind ≡ glued w.glued (kind_of_keyword s)
keyword_kind s w h = keyword_by w.token.kind w.token.text s w.glued h

either_by : (a b : Bool) {X : Type 0} → (a || b) ≡ true → (a ≡ true → X) → (b ≡ true → X) → X
either_by true b h f g = f refl
either_by false b h f g = g h

pub either_kind : (s r : List ℕ) (k : Kind) (w : Word) → fits (either s r) w ≡ true → glued w.glued (kind_of_keyword s) ≡ k → glued w.glued (kind_of_keyword r) ≡ k → (sign_of w).kind ≡ k
either_kind s r k w h i j =
    either_by (fits (keyword s) w) (fits (keyword r) w) h (λ e. keyword_kind s w e ∙ i) (λ e. keyword_kind r w e ∙ j)

mark_by : (k : TokenKind) (text s : List ℕ) (b : Bool) → is_mark k text s ≡ true → glued b (kind_by k text) ≡ glued b (kind_of_mark s)
mark_by kinds.Mark text s b h = ap (λ z. glued b (kind_of_mark z)) (is_same text s h)
mark_by _ text s b h = absurd (cc)

pub mark_kind : (s : List ℕ) (w : Word) → fits (mark s) w ≡ true → (sign_of w).kind ≡ glued w.glued (kind_of_mark s)
mark_kind s w h = mark_by w.token.kind w.token.text s w.glued h

either_greater : (b : Bool) → is_greater (glued b kind.Greater) ≡ true
either_greater true = refl
either_greater false = refl

pub greater_kind : (w : Word) → fits (mark (codes ">")) w ≡ true → is_greater (sign_of w).kind ≡ true
greater_kind w h = ap is_greater (mark_kind (codes ">") w h) ∙ either_greater w.glued

pub next_kind : (w : Word) → fits (next (codes ">")) w ≡ true → (sign_of w).kind ≡ kind.GreaterNext
next_kind w h =
    let e = and_both (fits (mark (codes ">")) w) w.glued h in
    mark_kind (codes ">") w e.0 ∙ ap (λ b. glued b kind.Greater) e.1

word_by : (k : TokenKind) (text s : List ℕ) (b : Bool) → is_word k text s ≡ true → glued b (kind_by k text) ≡ glued b (kind_of_name s)
word_by kinds.Name text s b h = ap (λ z. glued b (kind_of_name z)) (is_same text s h)
word_by _ text s b h = absurd (cc)

pub word_kind : (s : List ℕ) (w : Word) → fits (word s) w ≡ true → (sign_of w).kind ≡ glued w.glued (kind_of_name s)
word_kind s w h = word_by w.token.kind w.token.text s w.glued h

-- a name that the grammar reads is a name
named_by : (k : TokenKind) (text s : List ℕ) → is_word k text s ≡ true → is_of any_name k ≡ true
named_by kinds.Name text s h = refl
named_by _ text s h = absurd (cc)

pub word_name : (s : List ℕ) (w : Word) → fits (word s) w ≡ true → fits any_name w ≡ true
word_name s w h = named_by w.token.kind w.token.text s h

abbrev fits_names : Kind → Word → Bool
fits_names k w = implies (fits any_name w) (is_name k)

fits_after : Keeps fits_names true
fits_after = record { on_names = λ p. refl; on_keywords = λ p. refl; on_marks = λ p. refl; other_name = λ t p. refl; other_keyword = λ t p. refl; other_mark = λ t p. refl; on_number = λ m u t p. refl; on_character = λ m t p. refl; on_text = λ t p. refl; on_directive = λ d t p. refl }

fits_alone : Keeps fits_names false
fits_alone = record { on_names = λ p. refl; on_keywords = λ p. refl; on_marks = λ p. refl; other_name = λ t p. refl; other_keyword = λ t p. refl; other_mark = λ t p. refl; on_number = λ m u t p. refl; on_character = λ m t p. refl; on_text = λ t p. refl; on_directive = λ d t p. refl }

-- the kinds of tokens of a class
pub name_kind : (w : Word) → fits any_name w ≡ true → is_name (sign_of w).kind ≡ true
name_kind w h = subst (λ b. implies b (is_name (sign_of w).kind) ≡ true) h (kept fits_names fits_after fits_alone w)

number_by : (k : TokenKind) (text : List ℕ) (b : Bool) → is_of any_number k ≡ true → glued b (kind_by k text) ≡ kind.Number
number_by (kinds.Number m u) text b h = refl
number_by _ text b h = absurd (cc)

pub number_kind : (w : Word) → fits any_number w ≡ true → (sign_of w).kind ≡ kind.Number
number_kind w h = number_by w.token.kind w.token.text w.glued h

character_by : (k : TokenKind) (text : List ℕ) (b : Bool) → is_of any_character k ≡ true → glued b (kind_by k text) ≡ kind.Character
character_by (kinds.Character m) text b h = refl
character_by _ text b h = absurd (cc)

pub character_kind : (w : Word) → fits any_character w ≡ true → (sign_of w).kind ≡ kind.Character
character_kind w h = character_by w.token.kind w.token.text w.glued h

string_by : (k : TokenKind) (text : List ℕ) (b : Bool) → is_of any_string k ≡ true → glued b (kind_by k text) ≡ kind.Text
string_by kinds.Text text b h = refl
string_by _ text b h = absurd (cc)

pub string_kind : (w : Word) → fits any_string w ≡ true → (sign_of w).kind ≡ kind.Text
string_kind w h = string_by w.token.kind w.token.text w.glued h

directive_by : (k : TokenKind) (text : List ℕ) (b : Bool) → is_of any_directive k ≡ true → glued b (kind_by k text) ≡ kind.Directive
directive_by (kinds.Directive d) text b h = refl
directive_by _ text b h = absurd (cc)

pub directive_kind : (w : Word) → fits any_directive w ≡ true → (sign_of w).kind ≡ kind.Directive
directive_kind w h = directive_by w.token.kind w.token.text w.glued h

-- a mark by itself
plain_by : (k : TokenKind) (text s : List ℕ) → is_mark k text s ≡ true → kind_by k text ≡ kind_of_mark s
plain_by kinds.Mark text s h = ap (λ z. kind_of_mark z) (is_same text s h)
plain_by _ text s h = absurd (cc)

pub plain_kind : (s : List ℕ) (w : Word) → fits (mark s) w ≡ true → kind_of_token w.token ≡ kind_of_mark s
plain_kind s w h = plain_by w.token.kind w.token.text s h

-- a token before which `else` is told the same
else_or : (a b : Bool) → (a ≡ false → b ≡ true) → (b ≡ true → a ≡ false) → b ≡ (if a then false else true)
else_or true true f g = g refl
else_or true false f g = refl
else_or false b f g = f refl

else_kind : (k : Kind) → not_else k ≡ false → k ≡ kind.Else
else_kind kind.Else h = refl
else_kind _ h = absurd (cc)

pub else_agrees : (w : Word) → fits (keyword (codes "else")) w ≡ (if not_else (sign_of w).kind then false else true)
else_agrees w = else_or (not_else (sign_of w).kind) (fits (keyword (codes "else")) w)
    (λ h. read_as kind.Else w (else_kind (sign_of w).kind h)) (λ h. ap not_else (keyword_kind (codes "else") w h))
