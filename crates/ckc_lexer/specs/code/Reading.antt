-- A text read forward, one item after another: what the code does. `Cut` says what it means.
use Rattle.std.specs.Prelude.{◌≡◌, ℕ, ◌+◌, Bool, true, false, ◌||◌, ◌&&◌, if◌then◌else◌, fold, List, [], ◌∷◌, take, drop, map, Result, Ok, Err}
use Rattle.ckc_base.specs.declared.places.Pos.{Pos}
use Rattle.ckc_syntax.specs.declared.tokens.TokenKind.{TokenKind}
use Rattle.ckc_syntax.specs.declared.tokens.Token as tokens
use Rattle.ckc_lexer.specs.declared.items.Item.TheVariants.{Gap, Token, Broken}
use Rattle.ckc_lexer.specs.declared.items.Context.{Context}
use Rattle.ckc_lexer.specs.declared.items.Here.{Here}
use Rattle.ckc_base.specs.Outcomes.{Outcome}
use Rattle.ckc_base.proofs.Turns.{ahead}
use Rattle.ckc_base.specs.declared.fault.Fault.{Fault}
use Rattle.ckc_base.specs.declared.fault.Fault.TheVariants.{Refused, Memory}
use Rattle.ckc_lexer.specs.Bytes.{is_feed, is_blank}
use Rattle.ckc_syntax.specs.Longest.{Longest}
use Rattle.ckc_lexer.specs.Spelling.{Spells}
use Rattle.ckc_syntax.specs.Spelled.{Spelled, spelled}
use Rattle.ckc_lexer.specs.Cut.{is_stdchecked}

-- a place and whether its line has only blanks yet, a byte further on
abbrev pub step : Here → ℕ → Here
step here b =
    if is_feed b then record { line = here.line + 1; col = 1; fresh = true }
    else record { line = here.line; col = here.col + 1; fresh = here.fresh && is_blank b }

abbrev pub moved : Here → List ℕ → Here
moved here w = fold step here w

abbrev pub context_at : Here → Bool → Context
context_at here checked = record { fresh = here.fresh; checked = checked }

abbrev pub pos_at : Here → Pos
pos_at here = record { line = here.line; col = here.col }

-- Read from here, the text ends so: with the tokens of the rest, or with the first fault.
pub data Reads : Here → Bool → List ℕ → Outcome (List Spelled) → Type 0 where
  ends : {here : Here} {checked : Bool} → Reads here checked [] (Ok [])
  breaks : {here : Here} {checked : Bool} {text : List ℕ} {n code : ℕ} → Longest (Spells (context_at here checked)) text n (Broken code) → Reads here checked text (Err (record { code = code; pos = pos_at here }))
  skips : {here : Here} {checked : Bool} {text : List ℕ} {n : ℕ} {outcome : Outcome (List Spelled)} → Longest (Spells (context_at here checked)) text n Gap → Reads (moved here (take n text)) checked (drop n text) outcome → Reads here checked text outcome
  takes : {here : Here} {checked : Bool} {text : List ℕ} {n : ℕ} {kind : TokenKind} {rest outcome : Outcome (List Spelled)} → Longest (Spells (context_at here checked)) text n (Token kind) → Reads (moved here (take n text)) (checked || is_stdchecked (Token kind)) (drop n text) rest → outcome ≡ ahead (record { kind = kind; text = take n text; pos = pos_at here } ∷ []) rest → Reads here checked text outcome

-- the first place of a text
abbrev pub start : Here
start = record { line = 1; col = 1; fresh = true }

-- the answer is how the text ends when it is read from its start, unless memory ran out
abbrev pub IsReading : List ℕ → Result (List tokens.Token) Fault → Type 0
IsReading text (Ok found) = Reads start false text (Ok (map spelled found))
IsReading text (Err Memory) = Unit {0}
IsReading text (Err (Refused fault)) = Reads start false text (Err fault)
