-- Tokens with their kinds.
use Rattle.std.proofs.Common.{◌≡◌, ℕ, List, [], ◌∷◌, ◌++◌, Bool, true, false, ◌&&◌, ◌+◌, ◌==◌, refl, ap, ◌∙◌, arith}
use Rattle.std.proofs.lemmas.Bool.Decides.{nat_tests}
use Rattle.ckc_syntax.specs.Spelled.{Spelled}
use Rattle.ckc_parser_grammar.specs.declared.kind.Kind.{Kind}
use Rattle.ckc_parser_grammar.specs.declared.kind.Kind.TheVariants as kind
use Rattle.ckc_parser_grammar.specs.code.Kinds.{kind_of_token}
use Rattle.ckc_parser_grammar.specs.code.Signs.{signs_after, kind_after, adjacent, glued, is_plain_greater}

-- a list of tokens in two parts
abbrev pub last_of : Spelled → List Spelled → Spelled
last_of x [] = x
last_of x (y ∷ ys) = last_of y ys

pub signs_both : (x : Spelled) (xs ys : List Spelled) → signs_after x (xs ++ ys) ≡ signs_after x xs ++ signs_after (last_of x xs) ys
signs_both x [] ys = refl
signs_both x (y ∷ xs) ys = ap (λ z. record { kind = kind_after x y; token = y } ∷ z) (signs_both y xs ys)

-- A token at column 0 stands directly after none.
never : (a p : Bool) (m : ℕ) → (a && (p && (m + 1 == 0))) ≡ false
never false p m = refl
never true false m = refl
never true true m = grind (arith, nat_tests)

pub glued_no : (k : Kind) → glued false k ≡ k
glued_no kind.Greater = refl
glued_no _ = refl

pub kind_alone : (x y : Spelled) → y.pos.col ≡ 0 → kind_after x y ≡ kind_of_token y
kind_alone x y h =
    let e : adjacent x y ≡ false = ap (λ c. is_plain_greater (kind_of_token x) && (x.pos.line == y.pos.line && x.pos.col + 1 == c)) h ∙ never (is_plain_greater (kind_of_token x)) (x.pos.line == y.pos.line) x.pos.col in
    ap (λ b. glued b (kind_of_token y)) e ∙ glued_no (kind_of_token y)
