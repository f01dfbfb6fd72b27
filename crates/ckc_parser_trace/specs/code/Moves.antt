-- The moves that follow one another before one token, and their rows of bytes.
use Rattle.std.specs.Prelude.{◌≡◌, ℕ, zero, suc, ◌+◌, ◌*◌, ◌==◌, List, [], ◌∷◌, ◌++◌, Option, None, Some, Bool, true, false, map, flat_map, reverse, take, drop, get_or, if◌then◌else◌}
use Rattle.ckc_parser_grammar.specs.declared.kind.Kind.{Kind}
use Rattle.ckc_parser_grammar.specs.code.Grammar.{Symbol, right}
use Rattle.ckc_parser_grammar.specs.code.Derives.{Sign}
use Rattle.ckc_parser_grammar.specs.code.Trace.{Event, taken, opened, event}
use Rattle.ckc_parser_trace.specs.code.Turns.{all_kinds, rows, symbol_of, turn}

-- The events, the symbols that are left, and whether the token is taken.
pub record Moved : Type 0 where
  pub events : List Event
  pub left : List Symbol
  pub takes : Bool

abbrev pub then_moved : Event → Moved → Moved
then_moved e m = record { events = e ∷ m.events; left = m.left; takes = m.takes }

abbrev pub by_turn : Option Event → Symbol → List Symbol → (List Symbol → Moved) → Moved
by_turn None s ss go = record { events = []; left = s ∷ ss; takes = false }
by_turn (Some taken) s ss go = record { events = taken ∷ []; left = ss; takes = true }
by_turn (Some (opened r)) s ss go = then_moved (opened r) (go (right r ++ ss))

-- So many moves from some symbols before a token of a kind; or fewer, where the token is taken or does not go on.
abbrev pub moved : ℕ → Kind → List Symbol → Moved
moved zero c ss = record { events = []; left = ss; takes = false }
moved (suc k) c [] = record { events = []; left = []; takes = false }
moved (suc k) c (s ∷ ss) = by_turn (turn s c) s ss (moved k c)

-- Of a row, the bytes for the trace, and those for the stack.
abbrev pub trace_row : List ℕ → List ℕ
trace_row row = take (get_or row 7 0) (take 8 row)

abbrev pub stack_row : List ℕ → List ℕ
stack_row row = take (get_or row 15 0) (drop 8 row)

abbrev pub told : List ℕ → Moved
told row = record { events = map event (trace_row row); left = map symbol_of (reverse (stack_row row)); takes = get_or row 14 0 == 1 }

-- A row tells what a symbol does before a token of a kind, unless it stands for no moves.
abbrev pub no_moves : Moved
no_moves = record { events = []; left = []; takes = false }

abbrev pub told_by : List ℕ → Moved
told_by row = if get_or row 7 0 == 0 then no_moves else told row

abbrev pub moved_by : List ℕ → Symbol → Kind → Moved
moved_by row s c = if get_or row 7 0 == 0 then no_moves else moved (get_or row 7 0) c (s ∷ [])

-- the rows of a table of sixteen bytes each
abbrev pub cut_rows : List ℕ → List (List ℕ)
cut_rows (a ∷ b ∷ c ∷ d ∷ e ∷ f ∷ g ∷ h ∷ i ∷ j ∷ k ∷ l ∷ m ∷ n ∷ o ∷ p ∷ more) = (a ∷ b ∷ c ∷ d ∷ e ∷ f ∷ g ∷ h ∷ i ∷ j ∷ k ∷ l ∷ m ∷ n ∷ o ∷ p ∷ []) ∷ cut_rows more
cut_rows _ = []

-- the numbers of two bytes each, the lower first
abbrev pub numbers_of : List ℕ → List ℕ
numbers_of (a ∷ b ∷ more) = (a + b * 256) ∷ numbers_of more
numbers_of _ = []

abbrev pub pair_of : Symbol → Kind → Symbol × Kind
pair_of s c = (s, c)

abbrev pub pairs_of : Symbol → List (Symbol × Kind)
pairs_of s = map (pair_of s) all_kinds

abbrev pub moved_each : List (List ℕ) → List ℕ → List (Symbol × Kind) → List Moved
moved_each rs (n ∷ ns) (p ∷ ps) = moved_by (get_or rs n []) p.0 p.1 ∷ moved_each rs ns ps
moved_each rs _ _ = []

abbrev pub told_each : List (List ℕ) → List ℕ → List Moved
told_each rs ns = map (λ n. told_by (get_or rs n [])) ns

-- what the numbered rows are to tell, for each part and class of tokens before each kind, and what they do
abbrev pub moved_by_rows : List ℕ → List ℕ → List Moved
moved_by_rows numbers table = moved_each (cut_rows table) (numbers_of numbers) (flat_map pairs_of rows)

abbrev pub told_by_rows : List ℕ → List ℕ → List Moved
told_by_rows numbers table = told_each (cut_rows table) (numbers_of numbers)

-- a row says what a symbol does before a token of a kind
abbrev pub Tells : List ℕ → Symbol → Kind → Type 0
Tells row s c = moved (get_or row 7 0) c (s ∷ []) ≡ told row

-- what is left of the tokens, where one is taken or none
abbrev pub Leaves : Bool → List Sign → List Sign → Type 0
Leaves true a b = (x : Sign) × (a ≡ x ∷ b)
Leaves false a b = a ≡ b
