-- What the first pass has done so far: how what it leaves empties its stack, and where that stops.
use Rattle.std.specs.Prelude.{◌≡◌, ℕ, ◌+◌, length, List, [], ◌∷◌, ◌++◌, ◌⊎◌, map, reverse, None, Result, Ok, Err}
use Rattle.ckc_base.specs.declared.places.Pos.{Pos}
use Rattle.ckc_base.specs.declared.fault.Fault.{Fault}
use Rattle.ckc_base.specs.declared.fault.Fault.TheVariants as fault
use Rattle.ckc_syntax.specs.Spelled.{Spelled}
use Rattle.ckc_grammar.specs.Text.{FirstFault, syntax_error}
use Rattle.ckc_parser_grammar.specs.code.Marked.{place_of}
use Rattle.ckc_parser_grammar.specs.code.Grammar.{Terminal, Part, Symbol, t, n, Rule, left, right}
use Rattle.ckc_parser_grammar.specs.code.Values.{Value}
use Rattle.ckc_parser_grammar.specs.code.Derives.{Sign}
use Rattle.ckc_parser_grammar.specs.code.Reading.{kind_of, Takes, Stops}
use Rattle.ckc_parser_grammar.specs.code.Signs.{signs}
use Rattle.ckc_parser_grammar.specs.declared.parts.Stop.{Stop}
use Rattle.ckc_parser_grammar.specs.declared.parts.Stop.TheVariants as stop
use Rattle.ckc_parser_grammar.specs.code.Text.{start}
use Rattle.ckc_parser_grammar.specs.code.Trace.{Event, taken, opened, events, values_of, tokens_in}
use Rattle.ckc_parser_trace.specs.code.Turns.{symbol_of, turn}

abbrev pub tokens_of : List Sign → List Spelled
tokens_of a = map (λ x. x.token) a

-- The events and tokens stand for the symbols, each production before what it is made of.
pub data Lays : List Symbol → List Event → List Spelled → List Spelled → Type 0 where
  done : {xs : List Spelled} → Lays [] [] xs xs
  read : {c : Terminal} {ss : List Symbol} {es : List Event} {x : Spelled} {xs ys : List Spelled} → Lays ss es xs ys → Lays (t c ∷ ss) (taken ∷ es) (x ∷ xs) ys
  by : {p : Part} {ss : List Symbol} {es : List Event} {xs ys : List Spelled} (r : Rule) → left r ≡ p → Lays (right r ++ ss) es xs ys → Lays (n p ∷ ss) (opened r ∷ es) xs ys

-- A symbol is taken by the events, which make its value.
pub record TakesOne (s : Symbol) (a : List Sign) (es : List Event) (b : List Sign) : Type 0 where
  pub value : Value
  pub takes : Takes (s ∷ []) a (value ∷ []) b
  pub makes : (later : List Event) (vs : List Value) → values_of (es ++ later) (tokens_of a) vs ≡ value ∷ values_of later (tokens_of b) vs
  pub counts : tokens_in es + length b ≡ length a
  pub lays : (ss : List Symbol) (later : List Event) (ys : List Spelled) → Lays ss later (tokens_of b) ys → Lays (s ∷ ss) (es ++ later) (tokens_of a) ys

-- A list of symbols is taken by the events.
abbrev pub Empties : List Symbol → List Sign → List Event → List Sign → Type 0
Empties [] a es b = (a ≡ b) × (es ≡ [])
Empties (s ∷ ss) a es b = (first : List Event) × (rest : List Event) × (m : List Sign) × (es ≡ first ++ rest) × TakesOne s a first m × Empties ss m rest b

-- Reading a list of symbols stops before the rest.
abbrev pub Fails : List Symbol → List Sign → List Sign → Type 0
Fails [] a b = ⊥
Fails (s ∷ ss) a b = Stops (s ∷ []) a b ⊎ ((v : Value) × (m : List Sign) × Takes (s ∷ []) a (v ∷ []) m × Fails ss m b)

-- How the whole text ends is how the stack does from here.
pub record Runs (old : List Sign) (stack : List Symbol) (now : List Sign) (es : List Event) : Type 0 where
  pub good : (later : List Event) (b : List Sign) → Empties stack now later b → Empties (n start ∷ []) old (es ++ later) b
  pub bad : (b : List Sign) → Fails stack now b → Fails (n start ∷ []) old b

-- the symbols of a stack of bytes, the top first
abbrev pub symbols_on : List ℕ → List Symbol
symbols_on stack = map symbol_of (reverse stack)

-- A move keeps what the stack stands for, or the next token does not go on.
abbrev pub Steps : Symbol → List Sign → List Symbol → List Event → Result Unit Stop → List Sign → List Symbol → List Event → Type 0
Steps s a ss es (Ok x) b ts fs = (old : List Sign) → Runs old (s ∷ ss) a es → Runs old ts b fs
Steps s a ss es (Err stop.Syntax) b ts fs = (turn s (kind_of a) ≡ None) × (b ≡ a)
Steps s a ss es (Err stop.Memory) b ts fs = Unit {0}

-- The trace of a text: it takes all tokens, and they derive the value that it makes.
pub record Traces (xs : List Spelled) (bytes : List ℕ) : Type 0 where
  pub value : Value
  pub takes : Takes (n start ∷ []) (signs xs) (value ∷ []) []
  pub makes : values_of (events bytes) xs [] ≡ value ∷ []
  pub counts : tokens_in (events bytes) ≡ length xs
  pub lays : Lays (n start ∷ []) (events bytes) xs []

-- what is answered where reading stops
abbrev pub IsFaultOf : Stop → List Sign → Pos → Fault → Type 0
IsFaultOf stop.Syntax a end (fault.Refused r) = (r.code ≡ syntax_error) × (r.pos ≡ place_of a end)
IsFaultOf stop.Memory a end fault.Memory = Unit {0}
IsFaultOf _ a end _ = ⊥

-- the answer where no symbol is left
abbrev pub Ends : List Sign → Pos → List ℕ → Result (List ℕ) Fault → Type 0
Ends a end trace (Ok x) = (x ≡ trace) × (a ≡ [])
Ends a end trace (Err (fault.Refused r)) = (r.code ≡ syntax_error) × (r.pos ≡ place_of a end) × (a ≡ [] → ⊥)
Ends a end trace (Err fault.Memory) = Unit {0}

-- the trace of a text, or the place where it stops to begin one
abbrev pub Recognises : List Spelled → Pos → Result (List ℕ) Fault → Type 0
Recognises xs end (Ok bytes) = Traces xs bytes
Recognises xs end (Err (fault.Refused r)) = FirstFault xs end r
Recognises xs end (Err fault.Memory) = Unit {0}
