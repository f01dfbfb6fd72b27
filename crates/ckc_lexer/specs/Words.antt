-- Names and keywords.
use Rattle.std.specs.Prelude.{◌≡◌, ℕ, Bool, ◌&&◌, ◌||◌, nat_lt, if◌then◌else◌, List, [], ◌∷◌, ◌++◌, length, codes, bytes_eq}
use Rattle.std.specs.List.{list_any}
use Rattle.ckc_syntax.specs.declared.tokens.TokenKind.TheVariants.{Name, Keyword}
use Rattle.ckc_lexer.specs.declared.items.Item.{Item}
use Rattle.ckc_lexer.specs.declared.items.Item.TheVariants.{Token, Broken}
use Rattle.ckc_syntax.specs.Bytes.{AllBytes}
use Rattle.ckc_lexer.specs.Bytes.{is_word_byte}
use Rattle.ckc_lexer.specs.Codes.{long_name}

-- the keywords without `_` in front: those of the grammar, and every other one of ISO C11, 6.4.1
abbrev pub plain_keywords : List (List ℕ)
plain_keywords =
    codes "int" ∷ codes "unsigned" ∷ codes "char" ∷ codes "void" ∷ codes "struct" ∷ codes "static" ∷ codes "if" ∷
    codes "else" ∷ codes "for" ∷ codes "while" ∷ codes "return" ∷ codes "break" ∷ codes "continue" ∷
    codes "sizeof" ∷ codes "NULL" ∷ codes "EOF" ∷ codes "auto" ∷ codes "case" ∷ codes "const" ∷ codes "default" ∷
    codes "do" ∷ codes "double" ∷ codes "enum" ∷ codes "extern" ∷ codes "float" ∷ codes "goto" ∷ codes "inline" ∷
    codes "long" ∷ codes "register" ∷ codes "restrict" ∷ codes "short" ∷ codes "signed" ∷ codes "switch" ∷
    codes "typedef" ∷ codes "union" ∷ codes "volatile" ∷ []

-- the keywords with `_` in front: those of the grammar, every other one of ISO C11, and three of Checked C
abbrev pub underscored_keywords : List (List ℕ)
underscored_keywords =
    codes "_Ptr" ∷ codes "_Array_ptr" ∷ codes "_Nt_array_ptr" ∷ codes "_Checked" ∷ codes "_Unchecked" ∷
    codes "_Nt_checked" ∷ codes "_Bundled" ∷ codes "_Dynamic_check" ∷ codes "_Dynamic_bounds_cast" ∷
    codes "_Assume_bounds_cast" ∷ codes "_Alignas" ∷ codes "_Alignof" ∷ codes "_Atomic" ∷ codes "_Bool" ∷
    codes "_Complex" ∷ codes "_Generic" ∷ codes "_Imaginary" ∷ codes "_Noreturn" ∷ codes "_Static_assert" ∷
    codes "_Thread_local" ∷ codes "_Where" ∷ codes "_For_any" ∷ codes "_Itype_for_any" ∷ []

-- the words that are keywords in every text
abbrev pub keywords : List (List ℕ)
keywords = plain_keywords ++ underscored_keywords

-- the words that `stdchecked.h` makes keywords
abbrev pub checked_keywords : List (List ℕ)
checked_keywords =
    codes "ptr" ∷ codes "array_ptr" ∷ codes "nt_array_ptr" ∷ codes "checked" ∷ codes "unchecked" ∷ codes "nt_checked"
    ∷ codes "dynamic_check" ∷ codes "dynamic_bounds_cast" ∷ codes "assume_bounds_cast" ∷ []

-- checked: `#include <stdchecked.h>` has come
abbrev pub is_keyword : Bool → List ℕ → Bool
is_keyword checked w = list_any (λ k. bytes_eq k w) keywords || (checked && list_any (λ k. bytes_eq k w) checked_keywords)

-- a name of over 63 bytes is a fault
abbrev pub word_item : Bool → List ℕ → Item
word_item checked w = if nat_lt 63 (length w) then Broken long_name else (if is_keyword checked w then Token Keyword else Token Name)

-- letters, digits and `_`; that no digit comes first is known where this is used
abbrev pub IsWordItem : Bool → List ℕ → Item → Type 0
IsWordItem checked w item = AllBytes is_word_byte w × (item ≡ word_item checked w)
