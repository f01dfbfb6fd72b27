-- The bytes of a token are ASCII.
use Rattle.std.proofs.Common.{◌≡◌, ℕ, ◌+◌, ◌-◌, ◌<◌, ◌≤◌, Bool, true, false, nat_lt, Some, None, is_none, List, ◌++◌, length, take, get_or, codes, IsUtf8, sym, refl, ap, ◌∙◌, subst, ⊎_elim, inl, inr, arith, length-take-le, length-drop, get_or-take, get_or-drop}
use Rattle.std.specs.List.{list_all}
use Rattle.std.proofs.lemmas.List.{get_or_past}
use Rattle.std.proofs.lemmas.Str.{IsUtf8-from_ascii}
use Rattle.std.proofs.lemmas.Bool.{false≢true, cases_lt, ltb-true, lt-ltb}
use Rattle.std.proofs.lemmas.Bool.Decides.{nat_tests}
use Rattle.ckc_syntax.specs.declared.tokens.TokenKind.{TokenKind}
use Rattle.ckc_syntax.specs.declared.tokens.TokenKind.TheVariants.{Name, Keyword, Number, Character, Text}
use Rattle.ckc_syntax.specs.declared.tokens.TokenKind.TheVariants as kinds
use Rattle.ckc_syntax.specs.declared.tokens.Directive.{Directive}
use Rattle.ckc_syntax.specs.declared.tokens.Directive.TheVariants.{Stdio, Stdlib, Stdchecked, ScopeOn, ScopeOff}
use Rattle.ckc_lexer.specs.declared.bytes.Class.{Class}
use Rattle.ckc_lexer.specs.declared.bytes.Class.TheVariants.{Blank, Letter, Digit, Apostrophe, Quotation, Slash, Hash, Mark, Other}
use Rattle.ckc_lexer.specs.declared.items.Item.TheVariants.{Gap, Token, Broken}
use Rattle.ckc_lexer.specs.declared.items.Context.{Context}
use Rattle.ckc_syntax.specs.Bytes.{AllBytes}
use Rattle.ckc_lexer.specs.Bytes.{is_space, is_word_byte, class_of}
use Rattle.ckc_syntax.specs.Digits.{digit_value}
use Rattle.ckc_syntax.specs.Literals.{is_plain, simple_escape, IsEscape, simple, octal, hexadecimal, IsPiece, plain, escape, Characters, ends, next, IsLiteral}
use Rattle.ckc_lexer.specs.Literals.{CharacterCases, TextCases}
use Rattle.ckc_lexer.specs.Comments.{IsSlashItem, mark, division, line, closed, open_at_end}
use Rattle.ckc_lexer.specs.Directives.{IsInclude, IsPragma, IsDirective, HashCases}
use Rattle.ckc_lexer.specs.Marks.{marks}
use Rattle.ckc_lexer.specs.Spelling.{SpelledBy, Spells}
use Rattle.ckc_lexer.proofs.ByteLists.{all_append, all_test}
use Rattle.ckc_lexer.proofs.LiteralFronts.{IsQuote, apostrophe, quotation, digit_at}
use Rattle.ckc_lexer.proofs.MarkFronts.{among}

abbrev is_ascii : ℕ → Bool
is_ascii b = nat_lt b 128

word_ascii : (b : ℕ) → is_word_byte b ≡ true → is_ascii b ≡ true
word_ascii b h = grind (arith, nat_tests)

digit_ascii : (b : ℕ) → digit_value b < 16 → is_ascii b ≡ true
digit_ascii b h = grind (arith, nat_tests)

plain_ascii : (q b : ℕ) → is_plain q b ≡ true → is_ascii b ≡ true
plain_ascii q b h = grind (arith, nat_tests)

space_ascii : (b : ℕ) → is_space b ≡ true → is_ascii b ≡ true
space_ascii b h = grind (arith, nat_tests)

large_escape : (b : ℕ) → 128 ≤ b → simple_escape b ≡ None
large_escape b h = grind (arith, nat_tests)

letter_ascii : (b u : ℕ) → simple_escape b ≡ Some u → is_ascii b ≡ true
letter_ascii b u e = ⊎_elim (λ (h : b < 128). lt-ltb b 128 h) (λ (h : 128 ≤ b). absurd (false≢true (sym (ap is_none e) ∙ ap is_none (large_escape b h)))) (cases_lt b 128)

pub large_class : (b : ℕ) → 128 ≤ b → class_of b ≡ Other
large_class b h = grind (arith, nat_tests)

zero_or : (k : ℕ) → 0 < k → 1 ≤ k
zero_or k h = omega arith

escape_ascii : (w : List ℕ) (u : ℕ) → IsEscape w u → AllBytes is_ascii w
escape_ascii w u (simple two b e) k lt = ⊎_elim
    (λ (h : k < 1). ap (λ i. is_ascii (get_or w i 0)) (let z : k ≡ 0 = omega arith in z) ∙ ap is_ascii b)
    (λ (h : 1 ≤ k). ap (λ i. is_ascii (get_or w i 0)) (let z : k ≡ 1 = omega arith in z) ∙ letter_ascii (get_or w 1 0) u e)
    (cases_lt k 1)
escape_ascii w u (octal b d) k lt = ⊎_elim
    (λ (h : k < 1). ap (λ i. is_ascii (get_or w i 0)) (let z : k ≡ 0 = omega arith in z) ∙ ap is_ascii b)
    (λ (h : 1 ≤ k). digit_ascii (get_or w k 0) (let small = digit_at 1 3 8 w u k d h lt in omega arith))
    (cases_lt k 1)
escape_ascii w u (hexadecimal b x d) k lt = ⊎_elim
    (λ (h : k < 2). ⊎_elim
    (λ (g : k < 1). ap (λ i. is_ascii (get_or w i 0)) (let z : k ≡ 0 = omega arith in z) ∙ ap is_ascii b)
    (λ (g : 1 ≤ k). ap (λ i. is_ascii (get_or w i 0)) (let z : k ≡ 1 = omega arith in z) ∙ ap is_ascii x)
    (cases_lt k 1))
    (λ (h : 2 ≤ k). digit_ascii (get_or w k 0) (digit_at 2 2 16 w u k d h lt))
    (cases_lt k 2)

piece_ascii : (q : ℕ) (w : List ℕ) (u : ℕ) → IsPiece q w u → AllBytes is_ascii w
piece_ascii q w u (plain one p e) k lt = ap (λ i. is_ascii (get_or w i 0)) (let z : k ≡ 0 = omega arith in z) ∙ plain_ascii q (get_or w 0 0) p
piece_ascii q w u (escape e) k lt = escape_ascii w u e k lt

quote_ascii : {q : ℕ} → IsQuote q → is_ascii q ≡ true
quote_ascii apostrophe = refl
quote_ascii quotation = refl

characters_ascii : {q : ℕ} → IsQuote q → {w vs : List ℕ} → Characters q w vs → AllBytes is_ascii w
characters_ascii {q} i {w} (ends e) k lt =
    let z : k ≡ 0 = omega (arith, ap length e) in
    ap (λ j. is_ascii (get_or w j 0)) z ∙ (ap (λ (l : List ℕ). is_ascii (get_or l 0 0)) e ∙ quote_ascii i)
characters_ascii {q} i {w} (next n v l c) k lt =
    let size = length-take-le n w l.within in
    let cut = length-drop n w in
    ⊎_elim
    (λ (h : k < n). sym (ap is_ascii (get_or-take n w k 0 h)) ∙ piece_ascii q (take n w) v l.spelled k (omega arith))
    (λ (h : n ≤ k).
    let whole : n + (k - n) ≡ k = omega arith in
    ap (λ j. is_ascii (get_or w j 0)) (sym whole) ∙ (sym (ap is_ascii (get_or-drop n w (k - n) 0)) ∙ characters_ascii i c (k - n) (omega arith)))
    (cases_lt k n)

literal_ascii : {q : ℕ} → IsQuote q → (w : List ℕ) {vs : List ℕ} → IsLiteral q w vs → AllBytes is_ascii w
literal_ascii {q} i w l k lt =
    let cut = length-drop 1 w in
    ⊎_elim
    (λ (h : k < 1). ap (λ j. is_ascii (get_or w j 0)) (let z : k ≡ 0 = omega arith in z) ∙ (ap is_ascii l.0 ∙ quote_ascii i))
    (λ (h : 1 ≤ k).
    let whole : 1 + (k - 1) ≡ k = omega arith in
    ap (λ j. is_ascii (get_or w j 0)) (sym whole) ∙ (sym (ap is_ascii (get_or-drop 1 w (k - 1) 0)) ∙ characters_ascii i l.1 (k - 1) (omega arith)))
    (cases_lt k 1)

spaces_ascii : (a : List ℕ) → AllBytes is_space a → AllBytes is_ascii a
spaces_ascii a all k lt = space_ascii (get_or a k 0) (all k lt)

joined_ascii : (v w : List ℕ) → AllBytes is_ascii v → AllBytes is_ascii w → AllBytes is_ascii (v ++ w)
joined_ascii v w a b = all_append is_ascii v w a b

include_ascii : (h w : List ℕ) → list_all is_ascii h ≡ true → IsInclude h w → AllBytes is_ascii w
include_ascii h w a i = subst (AllBytes is_ascii) (sym i.whole)
    (joined_ascii (codes "#") _ (all_test is_ascii (codes "#") refl) (joined_ascii i.a _ (spaces_ascii i.a i.a_spaces) (joined_ascii (codes "include") _ (all_test is_ascii (codes "include") refl) (joined_ascii i.b h (spaces_ascii i.b i.b_spaces) (all_test is_ascii h a)))))

pragma_ascii : (h w : List ℕ) → list_all is_ascii h ≡ true → IsPragma h w → AllBytes is_ascii w
pragma_ascii h w a i = subst (AllBytes is_ascii) (sym i.whole)
    (joined_ascii (codes "#") _ (all_test is_ascii (codes "#") refl) (joined_ascii i.a _ (spaces_ascii i.a i.a_spaces) (joined_ascii (codes "pragma") _ (all_test is_ascii (codes "pragma") refl) (joined_ascii i.b _ (spaces_ascii i.b i.b_spaces) (joined_ascii (codes "CHECKED_SCOPE") _ (all_test is_ascii (codes "CHECKED_SCOPE") refl) (joined_ascii i.c h (spaces_ascii i.c i.c_spaces) (all_test is_ascii h a)))))))

directive_ascii : (w : List ℕ) (d : Directive) → IsDirective w d → AllBytes is_ascii w
directive_ascii w Stdio i = include_ascii (codes "<stdio.h>") w refl i
directive_ascii w Stdlib i = include_ascii (codes "<stdlib.h>") w refl i
directive_ascii w Stdchecked i = include_ascii (codes "<stdchecked.h>") w refl i
directive_ascii w ScopeOn (inl i) = pragma_ascii (codes "on") w refl i
directive_ascii w ScopeOn (inr i) = pragma_ascii (codes "ON") w refl i
directive_ascii w ScopeOff (inl i) = pragma_ascii (codes "off") w refl i
directive_ascii w ScopeOff (inr i) = pragma_ascii (codes "OFF") w refl i

one_byte : (w : List ℕ) (c : Class) → length w ≡ 1 → class_of (get_or w 0 0) ≡ c → (c ≡ Other → ⊥) → AllBytes is_ascii w
one_byte w c one at known k lt = ap (λ i. is_ascii (get_or w i 0)) (let z : k ≡ 0 = omega arith in z) ∙ ⊎_elim (λ (h : get_or w 0 0 < 128). lt-ltb _ 128 h) (λ (h : 128 ≤ get_or w 0 0). absurd (known (sym at ∙ large_class (get_or w 0 0) h))) (cases_lt (get_or w 0 0) 128)

hash_ascii : (fresh : Bool) (w : List ℕ) (kind : TokenKind) → HashCases fresh w (Token kind) → AllBytes is_ascii w
hash_ascii true w (kinds.Directive d) s = directive_ascii w d s
hash_ascii true w Name s = absurd s
hash_ascii true w Keyword s = absurd s
hash_ascii true w (Number n u) s = absurd s
hash_ascii true w (Character v) s = absurd s
hash_ascii true w Text s = absurd s
hash_ascii true w kinds.Mark s = absurd s
hash_ascii false w kind s = let e : Token kind ≡ Broken 101 = s.1 in cc

character_ascii : (w : List ℕ) (kind : TokenKind) → CharacterCases w (Token kind) → AllBytes is_ascii w
character_ascii w (Character v) s = literal_ascii apostrophe w s
character_ascii w Name s = absurd s
character_ascii w Keyword s = absurd s
character_ascii w (Number n u) s = absurd s
character_ascii w Text s = absurd s
character_ascii w kinds.Mark s = absurd s
character_ascii w (kinds.Directive d) s = absurd s

text_ascii : (w : List ℕ) (kind : TokenKind) → TextCases w (Token kind) → AllBytes is_ascii w
text_ascii w Text s = literal_ascii quotation w s.1
text_ascii w Name s = absurd s
text_ascii w Keyword s = absurd s
text_ascii w (Number n u) s = absurd s
text_ascii w (Character v) s = absurd s
text_ascii w kinds.Mark s = absurd s
text_ascii w (kinds.Directive d) s = absurd s

slash_ascii : (w : List ℕ) (kind : TokenKind) → class_of (get_or w 0 0) ≡ Slash → IsSlashItem w (Token kind) → AllBytes is_ascii w
slash_ascii w kind at (mark one e) = one_byte w Slash one at (λ e. cc)
slash_ascii w kind at (division two e) = all_test is_ascii w (ap (list_all is_ascii) two)
slash_ascii w kind at (line l e) = cc
slash_ascii w kind at (closed c e) = cc
slash_ascii w kind at (open_at_end o e) = cc

class_ascii : (c : Class) (context : Context) (w : List ℕ) (kind : TokenKind) → class_of (get_or w 0 0) ≡ c → SpelledBy c context w (Token kind) → AllBytes is_ascii w
class_ascii Blank context w kind at s = let e : Token kind ≡ Gap = s.1 in cc
class_ascii Letter context w kind at s = λ k lt. word_ascii (get_or w k 0) (s.0 k lt)
class_ascii Digit context w kind at s = λ k lt. word_ascii (get_or w k 0) (s.0 k lt)
class_ascii Apostrophe context w kind at s = character_ascii w kind s
class_ascii Quotation context w kind at s = text_ascii w kind s
class_ascii Slash context w kind at s = slash_ascii w kind at s
class_ascii Hash context w kind at s = hash_ascii context.fresh w kind s
class_ascii Mark context w kind at s = all_test is_ascii w (among (list_all is_ascii) marks w refl s.0)
class_ascii Other context w kind at s = let e : Token kind ≡ Broken 101 = s.1 in cc

-- the bytes of a token are text
pub token_utf8 : (context : Context) (w : List ℕ) (kind : TokenKind) → Spells context w (Token kind) → IsUtf8 w
token_utf8 context w kind s = IsUtf8-from_ascii w (λ i. ⊎_elim
    (λ (h : i < length w). ltb-true _ _ (class_ascii (class_of (get_or w 0 0)) context w kind refl s i h))
    (λ (h : length w ≤ i). let z = get_or_past w i 0 h in omega arith)
    (cases_lt i (length w)))
