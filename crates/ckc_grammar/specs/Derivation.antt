-- How tokens derive a part, and the value of a derivation.
use Rattle.std.specs.Prelude.{◌≡◌, ℕ, ◌+◌, ◌==◌, List, [], ◌∷◌, ◌++◌, Bool, true, false, ◌&&◌, ◌||◌, ◌⊎◌, codes}
use mathlib.Core.Logic.{inl, inr}
use Rattle.ckc_syntax.specs.Spelled.{Spelled}
use Rattle.ckc_syntax.specs.declared.tokens.TokenKind.{TokenKind}
use Rattle.ckc_syntax.specs.declared.tokens.TokenKind.TheVariants as kinds
use Rattle.ckc_grammar.specs.Productions.{Terminal, keyword, either, mark, next, word, any_name, any_number, any_character, any_string, any_directive, Use, unused, place, whole, Uses, Part, Symbol, t, n, no_else, Meaning, Makes, productions}

-- a token, and whether it stands directly after a `>`
pub record Word : Type 0 where
  pub token : Spelled
  pub glued : Bool

-- whether two spellings are the same bytes
abbrev pub is : List ℕ → List ℕ → Bool
is [] [] = true
is [] (c ∷ cs) = false
is (b ∷ bs) [] = false
is (b ∷ bs) (c ∷ cs) = b == c && is bs cs

-- whether a token is this keyword
abbrev pub is_keyword : TokenKind → List ℕ → List ℕ → Bool
is_keyword kinds.Keyword text s = is text s
is_keyword _ text s = false

-- whether a token is this mark
abbrev pub is_mark : TokenKind → List ℕ → List ℕ → Bool
is_mark kinds.Mark text s = is text s
is_mark _ text s = false

-- whether a token is this name
abbrev pub is_word : TokenKind → List ℕ → List ℕ → Bool
is_word kinds.Name text s = is text s
is_word _ text s = false

-- whether a token is a name, a number, a character, a string or a directive
abbrev pub is_of : Terminal → TokenKind → Bool
is_of any_name kinds.Name = true
is_of any_number (kinds.Number m u) = true
is_of any_character (kinds.Character b) = true
is_of any_string kinds.Text = true
is_of any_directive (kinds.Directive d) = true
is_of _ _ = false

-- whether a token may stand for the terminal
abbrev pub fits : Terminal → Word → Bool
fits (keyword s) x = is_keyword x.token.kind x.token.text s
fits (either s r) x = is_keyword x.token.kind x.token.text s || is_keyword x.token.kind x.token.text r
fits (mark s) x = is_mark x.token.kind x.token.text s
fits (next s) x = is_mark x.token.kind x.token.text s && x.glued
fits (word s) x = is_word x.token.kind x.token.text s
fits c x = is_of c x.token.kind

-- whether the first of some tokens, or what stands after them, is `else`
abbrev pub before_else : List Word → Bool → Bool
before_else [] e = e
before_else (x ∷ xs) e = fits (keyword (codes "else")) x

-- a place in a list
abbrev pub Choice : {A : Type 0} → List A → Type 0
Choice [] = ⊥
Choice (x ∷ xs) = Unit {0} ⊎ Choice xs

-- what stands there
abbrev pub chosen : {A : Type 0} → (xs : List A) → Choice xs → A
chosen [] c = absurd c
chosen (x ∷ xs) (inl c) = x
chosen (x ∷ xs) (inr c) = chosen xs c

-- what an alternative of a part is made of
abbrev pub parts_of : (p : Part) → Choice (productions p) → List Symbol
parts_of p c = (chosen (productions p) c).right

-- A list of tokens derives a list of symbols; the Bool says whether `else` stands after them. A terminal is one
-- token, and a part is what one of its alternatives is made of.
pub data Derivation : List Symbol → List Word → Bool → Type 0 where
  nil : {e : Bool} → Derivation [] [] e
  read : {c : Terminal} {u : Use} {ss : List Symbol} {x : Word} {xs : List Word} {e : Bool} →
      fits c x ≡ true → Derivation ss xs e → Derivation (t c u ∷ ss) (x ∷ xs) e
  by : {p : Part} {ss : List Symbol} {zs : List Word} {e : Bool} →
      (c : Choice (productions p)) (xs ys : List Word) → Derivation (parts_of p c) xs (before_else ys e) →
      Derivation ss ys e → xs ++ ys ≡ zs → Derivation (n p ∷ ss) zs e
  without : {ss : List Symbol} {xs : List Word} {e : Bool} →
      before_else xs e ≡ false → Derivation ss xs e → Derivation (no_else ∷ ss) xs e

-- what is handed on of a token
abbrev pub used : {X : Type 0} → (u : Use) → Spelled → Uses u X → X
used unused x f = f
used place x f = f x.pos
used whole x f = f x

-- what is made of the symbols of a derivation
unfoldable pub result : {ss : List Symbol} {xs : List Word} {e : Bool} → Derivation ss xs e → (X : Type 0) → Makes ss X → X
result nil X f = f
result (read {u = u} {ss = ss} {x = x} h d) X f = result d X (used u x.token f)
result (by {p = p} c xs ys d d2 h) X f = result d2 X (f (result d (Meaning p) (chosen (productions p) c).made))
result (without h d) X f = result d X f

-- the value of a derivation of a part
abbrev pub value : {p : Part} {xs : List Word} {e : Bool} → Derivation (n p ∷ []) xs e → Meaning p
value {p} d = result d (Meaning p) (λ x. x)

-- whether the second of two tokens stands directly after the first, a `>`, on the same line
abbrev pub adjoins : Spelled → Spelled → Bool
adjoins x y = is_mark x.kind x.text (codes ">") && (x.pos.line == y.pos.line && x.pos.col + 1 == y.pos.col)

-- the tokens after another token
abbrev pub words_after : Spelled → List Spelled → List Word
words_after x [] = []
words_after x (y ∷ ys) = record { token = y; glued = adjoins x y } ∷ words_after y ys

-- the tokens of a text
abbrev pub words : List Spelled → List Word
words [] = []
words (x ∷ xs) = record { token = x; glued = false } ∷ words_after x xs
