-- What it is to read a part from tokens with their kinds.
use Rattle.std.specs.Prelude.{◌≡◌, ℕ, length, ◌+◌, ◌==◌, List, [], ◌∷◌, Bool, true, false, ◌&&◌, map, Result, Ok, Err, if◌then◌else◌}
use Rattle.ckc_base.specs.declared.places.Pos.{Pos}
use Rattle.ckc_syntax.specs.Spelled.{Spelled, spelled}
use Rattle.ckc_parser_grammar.specs.declared.kind.Kind.{Kind}
use Rattle.ckc_parser_grammar.specs.declared.kind.Kind.TheVariants as kind
use Rattle.ckc_parser_grammar.specs.declared.parts.Stop.{Stop}
use Rattle.ckc_parser_grammar.specs.declared.parts.Stop.TheVariants as stop
use Rattle.ckc_parser_grammar.specs.declared.reader.Reader.{Reader}
use Rattle.ckc_parser_grammar.specs.code.Kinds.{kind_of_token}
use Rattle.ckc_parser_grammar.specs.code.Grammar.{Symbol}
use Rattle.ckc_parser_grammar.specs.code.Values.{Value}
use Rattle.ckc_parser_grammar.specs.code.Derives.{Sign}
use Rattle.ckc_parser_grammar.specs.code.Signs.{signs_after}
use Rattle.ckc_parser_grammar.specs.code.Reading.{Takes, Stops}

abbrev pub signs_from : Kind → List Spelled → List Sign
signs_from k [] = []
signs_from k (x ∷ xs) = record { kind = k; token = x } ∷ signs_after x xs

-- what a reader has left
abbrev pub ahead : Reader → List Sign
ahead r = signs_from r.kind (map spelled r.rest.now)

-- how many tokens a reader has left
abbrev pub remaining : Reader → ℕ
remaining r = length r.rest.now

-- Reading stops before the next token, or for want of memory.
abbrev pub Halts : List Symbol → List Sign → Stop → List Sign → Type 0
Halts ss old stop.Syntax new = Stops ss old new
Halts ss old stop.Memory new = Unit {0}

-- the outcome of a method that reads symbols: what holds of its result, or where reading stops
abbrev pub Answered : {X : Type 0} → (X → Type 0) → List Symbol → List Sign → Result X Stop → List Sign → Type 0
Answered G ss old (Ok x) new = G x
Answered G ss old (Err e) new = Halts ss old e new

-- What it is to read a symbol: it is taken with a value, or the next token does not go on.
abbrev pub Parses : {X : Type 0} → (X → Value) → Symbol → List Sign → Result X Stop → List Sign → Type 0
Parses f s old r new = Answered (λ x. Takes (s ∷ []) old (f x ∷ []) new) (s ∷ []) old r new

-- the place of the next token, or the end
abbrev pub place_of : List Sign → Pos → Pos
place_of [] end = end
place_of (x ∷ xs) end = x.token.pos
