-- What the tokens of a whole text derive, and where they stop to be the beginning of a text.
use Rattle.std.specs.Prelude.{◌≡◌, ℕ, List, [], ◌∷◌, ◌++◌, false}
use Rattle.ckc_base.specs.declared.places.Pos.{Pos}
use Rattle.ckc_base.specs.declared.places.Refusal.{Refusal}
use Rattle.ckc_syntax.specs.Spelled.{Spelled}
use Rattle.ckc_grammar.specs.Trees.{Tree}
use Rattle.ckc_grammar.specs.Productions.{text, n}
use Rattle.ckc_grammar.specs.Derivation.{Derivation, value, words}

-- how tokens derive a text
abbrev pub DerivesText : List Spelled → Type 0
DerivesText xs = Derivation (n text ∷ []) (words xs) false

-- the tokens derive the tree
abbrev pub DerivesTree : List Spelled → Tree → Type 0
DerivesTree xs whole = (d : DerivesText xs) × (value d ≡ whole)

-- the tokens begin some that derive a text
abbrev pub Viable : List Spelled → Type 0
Viable xs = (ys : List Spelled) × DerivesText (xs ++ ys)

-- The fault is at the first token with which the tokens so far are not viable, or at the end if all are and
-- derive nothing.
abbrev pub FaultAt : List Spelled → List Spelled → Pos → Pos → Type 0
FaultAt front [] end pos = (pos ≡ end) × (DerivesText front → ⊥)
FaultAt front (x ∷ more) end pos = (pos ≡ x.pos) × (Viable (front ++ x ∷ []) → ⊥)

-- The fault of the tokens is at this place, and those before it begin a text.
abbrev pub IsFault : List Spelled → Pos → Pos → Type 0
IsFault xs end pos = (front : List Spelled) × (rest : List Spelled) × (xs ≡ front ++ rest) × Viable front × FaultAt front rest end pos

-- E120: the tokens are no text
abbrev pub syntax_error : ℕ
syntax_error = 120

-- The fault for which the tokens are refused, at the first place where they stop to begin a text.
abbrev pub FirstFault : List Spelled → Pos → Refusal → Type 0
FirstFault xs end fault = (fault.code ≡ syntax_error) × IsFault xs end fault.pos
