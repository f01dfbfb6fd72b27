-- A text that is not a word is passed over.
use Rattle.std.proofs.Common.{◌≡◌, ℕ, List, [], ◌∷◌, Bool, true, false, cond, refl, ◌&&◌, ◌==◌, ◌∙◌, sym, ap, length, arith}
use Rattle.std.specs.Prelude.{codes}
use Rattle.std.proofs.lemmas.Bool.Decides.{nat_tests}
use Rattle.ckc_grammar.specs.Derivation.{is}
use Rattle.ckc_parser_grammar.specs.declared.kind.Kind.{Kind}
use Rattle.ckc_parser_grammar.specs.declared.kind.Kind.TheVariants.{Name}
use Rattle.ckc_parser_grammar.specs.code.Kinds.{kind_of_name, kind_of_mark, kind_of_long_operator}

same_number : (b c : ℕ) → (b == c) ≡ true → b ≡ c
same_number b c e = grind (arith, nat_tests)

both : (p q : Bool) (b c : ℕ) (bs cs : List ℕ) → (p && q) ≡ true → (p ≡ true → b ≡ c) → (q ≡ true → bs ≡ cs) → b ∷ bs ≡ c ∷ cs
both true true b c bs cs e f g = let h = f refl in let i = g refl in cc
both true false b c bs cs e f g = cc
both false q b c bs cs e f g = cc

pub is_same : (text word : List ℕ) → is text word ≡ true → text ≡ word
is_same [] [] e = refl
is_same [] (c ∷ cs) e = cc
is_same (b ∷ bs) [] e = cc
is_same (b ∷ bs) (c ∷ cs) e = both (b == c) (is bs cs) b c bs cs e (λ t. same_number b c t) (is_same bs cs)

passed : (b : Bool) (x y : Kind) → (b ≡ true → ⊥) → cond b x y ≡ y
passed true x y h = absurd (h refl)
passed false x y h = refl

pub skip : (text word : List ℕ) (x y : Kind) → (text ≡ word → ⊥) → cond (is text word) x y ≡ y
skip text word x y h = passed (is text word) x y (λ e. h (is_same text word e))

-- a text of another length than a word is passed over too
skip_length : (text word : List ℕ) (x y : Kind) → (length text ≡ length word → ⊥) → cond (is text word) x y ≡ y
skip_length text word x y h = skip text word x y (λ e. h (ap length e))

pub plain_name : (text : List ℕ) → (length text ≡ 5 → ⊥) → (length text ≡ 6 → ⊥) → (length text ≡ 7 → ⊥) → (length text ≡ 10 → ⊥) → Name ≡ kind_of_name text
plain_name text five six seven ten = sym (
    skip_length text (codes "calloc") _ _ six
    ∙ skip_length text (codes "count") _ _ five
    ∙ skip_length text (codes "byte_count") _ _ ten
    ∙ skip_length text (codes "bounds") _ _ six
    ∙ skip_length text (codes "unknown") _ _ seven)

pub long_mark : (text : List ℕ) (k : Kind) → (length text ≡ 1 → ⊥) → (text ≡ codes "->" → ⊥) → k ≡ kind_of_long_operator text → k ≡ kind_of_mark text
long_mark text k long other e = e ∙ sym (
    skip_length text (codes "(") _ _ long
    ∙ skip_length text (codes ")") _ _ long
    ∙ skip_length text (codes "{") _ _ long
    ∙ skip_length text (codes "}") _ _ long
    ∙ skip_length text (codes "[") _ _ long
    ∙ skip_length text (codes "]") _ _ long
    ∙ skip_length text (codes "<") _ _ long
    ∙ skip_length text (codes ">") _ _ long
    ∙ skip_length text (codes ",") _ _ long
    ∙ skip_length text (codes ";") _ _ long
    ∙ skip_length text (codes ":") _ _ long
    ∙ skip_length text (codes "?") _ _ long
    ∙ skip_length text (codes "=") _ _ long
    ∙ skip_length text (codes ".") _ _ long
    ∙ skip text (codes "->") _ _ other
    ∙ skip_length text (codes "+") _ _ long
    ∙ skip_length text (codes "-") _ _ long
    ∙ skip_length text (codes "*") _ _ long
    ∙ skip_length text (codes "/") _ _ long
    ∙ skip_length text (codes "%") _ _ long
    ∙ skip_length text (codes "&") _ _ long
    ∙ skip_length text (codes "|") _ _ long
    ∙ skip_length text (codes "^") _ _ long
    ∙ skip_length text (codes "~") _ _ long
    ∙ skip_length text (codes "!") _ _ long)
