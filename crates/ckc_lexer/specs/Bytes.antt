-- The bytes of a text by what they are for, as tests on their codes in ASCII (ISO C11, 5.2.1 and 6.4).
use Rattle.std.specs.Prelude.{ℕ, Bool, ◌||◌, ◌==◌, if◌then◌else◌}
use Rattle.ckc_syntax.specs.Bytes.{is_between, is_digit}
use Rattle.ckc_lexer.specs.declared.bytes.Class.{Class}
use Rattle.ckc_lexer.specs.declared.bytes.Class.TheVariants.{Blank, Letter, Digit, Apostrophe, Quotation, Slash, Hash, Mark, Other}

-- space, tab and carriage return, which do not end a line
abbrev pub is_space : ℕ → Bool
is_space b = b == 32 || b == 9 || b == 13

-- a line feed, which ends a line
abbrev pub is_feed : ℕ → Bool
is_feed b = b == 10

-- space, tab, carriage return and line feed
abbrev pub is_blank : ℕ → Bool
is_blank b = is_space b || is_feed b

-- a letter or `_`
abbrev pub is_letter : ℕ → Bool
is_letter b = is_between 97 122 b || is_between 65 90 b || b == 95

-- what names and numbers go on with
abbrev pub is_word_byte : ℕ → Bool
is_word_byte b = is_letter b || is_digit b

-- the marks of one byte, but for `/`: ( ) { } [ ] < > , ; : ? = . + - * % & | ^ ~ !
abbrev pub is_mark : ℕ → Bool
is_mark b =
    b == 33 || b == 37 || b == 38 || is_between 40 46 b || is_between 58 63 b || b == 91 || b == 93 || b == 94
    || is_between 123 126 b

-- what an item that begins with this byte may be
abbrev pub class_of : ℕ → Class
class_of b =
    if is_blank b then Blank
    else (if is_letter b then Letter
    else (if is_digit b then Digit
    else (if b == 39 then Apostrophe
    else (if b == 34 then Quotation
    else (if b == 47 then Slash
    else (if b == 35 then Hash
    else (if is_mark b then Mark
    else Other)))))))
