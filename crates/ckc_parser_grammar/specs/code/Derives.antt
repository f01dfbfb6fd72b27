-- What tokens derive.
use Rattle.std.specs.Prelude.{◌≡◌, List, [], ◌∷◌, ◌++◌, true}
use Rattle.ckc_syntax.specs.Spelled.{Spelled}
use Rattle.ckc_parser_grammar.specs.declared.kind.Kind.{Kind}
use Rattle.ckc_parser_grammar.specs.code.Grammar.{Terminal, Part, Symbol, t, n, Rule, left, right, Fits, allowed}
use Rattle.ckc_parser_grammar.specs.code.Values.{Value, token, made}

-- a token with its kind
pub record Sign : Type 0 where
  pub kind : Kind
  pub token : Spelled

-- the kind of what comes first in a list that stands before `next`
abbrev pub before : List Sign → Kind → Kind
before [] last = last
before (x ∷ xs) last = x.kind

-- A list of tokens, standing before a token of kind `next`, derives a list of symbols with their values: a
-- terminal is one token; a part is what a production of it is made of.
pub data Derives : List Symbol → List Sign → Kind → List Value → Type 0 where
  nil : {next : Kind} → Derives [] [] next []
  read : {c : Terminal} {ss : List Symbol} {x : Sign} {xs : List Sign} {next : Kind} {vs : List Value} →
      Fits c x.kind → Derives ss xs next vs → Derives (t c ∷ ss) (x ∷ xs) next (token x.token ∷ vs)
  by : {p : Part} {ss : List Symbol} {zs : List Sign} {next : Kind} {u : Value} {vs : List Value} →
      (r : Rule) (xs ys : List Sign) (ws : List Value) →
      left r ≡ p → Derives (right r) xs (before ys next) ws → allowed r (before ys next) ≡ true → made r ws ≡ u →
      Derives ss ys next vs → xs ++ ys ≡ zs → Derives (n p ∷ ss) zs next (u ∷ vs)
