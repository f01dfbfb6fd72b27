-- What the tokens of a text are, and which fault is its first. The whole text is cut at once.
use Rattle.std.specs.Prelude.{◌≡◌, ℕ, ◌<◌, ◌≤◌, Bool, true, false, ◌⊎◌, List, [], ◌∷◌, ◌++◌, length}
use Rattle.std.specs.List.{list_any, flat_map}
use Rattle.ckc_base.specs.declared.places.Refusal.{Refusal}
use Rattle.ckc_base.specs.Places.{at_start, long_text, longest_text}
use Rattle.ckc_syntax.specs.declared.tokens.TokenKind.TheVariants as kinds
use Rattle.ckc_syntax.specs.declared.tokens.Directive.TheVariants.{Stdchecked}
use Rattle.ckc_syntax.specs.Spelled.{Spelled}
use Rattle.ckc_lexer.specs.declared.items.Item.{Item}
use Rattle.ckc_lexer.specs.declared.items.Item.TheVariants.{Gap, Token, Broken}
use Rattle.ckc_lexer.specs.declared.items.Context.{Context}
use Rattle.ckc_lexer.specs.Places.{place_after, is_fresh_after}
use Rattle.ckc_lexer.specs.Spelling.{Spells}

-- a part of a text: the bytes that spell an item
pub record Part : Type 0 where
  pub bytes : List ℕ
  pub item : Item

-- the bytes of the parts, one after another
abbrev pub joined : List Part → List ℕ
joined parts = flat_map (λ part. part.bytes) parts

-- whether an item is the directive `#include <stdchecked.h>`
abbrev pub is_stdchecked : Item → Bool
is_stdchecked (Token (kinds.Directive Stdchecked)) = true
is_stdchecked item = false

-- what the parts before a place decide there
abbrev pub context_after : List Part → Context
context_after before = record { fresh = is_fresh_after (joined before); checked = list_any (λ part. is_stdchecked part.item) before }

-- The part spells its item, and no longer front of what stands there spells anything.
pub record IsPart (before : List Part) (part : Part) (rest : List ℕ) : Type 0 where
  pub spells : Spells (context_after before) part.bytes part.item
  pub longest : (front more : List ℕ) (other : Item) → part.bytes ++ rest ≡ front ++ more → length part.bytes < length front → Spells (context_after before) front other → ⊥

-- The text is these parts, one after another, and a rest.
pub record IsCut (text : List ℕ) (parts : List Part) (rest : List ℕ) : Type 0 where
  pub whole : text ≡ joined parts ++ rest
  pub each : (before : List Part) (part : Part) (after : List Part) → parts ≡ before ++ part ∷ after → IsPart before part (joined after ++ rest)

-- the token of a part after these bytes, if it has one
abbrev pub token_at : List ℕ → List ℕ → Item → List Spelled
token_at before bytes Gap = []
token_at before bytes (Token kind) = record { kind = kind; text = bytes; pos = place_after before } ∷ []
token_at before bytes (Broken code) = []

-- the tokens of parts after these bytes
abbrev pub tokens_from : List ℕ → List Part → List Spelled
tokens_from before [] = []
tokens_from before (part ∷ parts) = token_at before part.bytes part.item ++ tokens_from (before ++ part.bytes) parts

-- whether an item is one for which the text is refused
abbrev pub is_broken : Item → Bool
is_broken Gap = false
is_broken (Token kind) = false
is_broken (Broken code) = true

-- None of the parts is broken.
abbrev pub AreWhole : List Part → Type 0
AreWhole parts = list_any (λ part. is_broken part.item) parts ≡ false

-- These are the tokens of the text: all of it is gaps and tokens.
pub record Lexes (text : List ℕ) (tokens : List Spelled) : Type 0 where
  pub parts : List Part
  pub cut : IsCut text parts []
  pub whole : AreWhole parts
  pub tokens_are : tokens ≡ tokens_from [] parts

-- This is the first broken part of the text.
pub record FirstBroken (text : List ℕ) (fault : Refusal) : Type 0 where
  pub before : List Part
  pub part : Part
  pub rest : List ℕ
  pub cut : IsCut text (before ++ part ∷ []) rest
  pub whole : AreWhole before
  pub broken : part.item ≡ Broken fault.code
  pub place : fault.pos ≡ place_after (joined before)

-- The fault for which a text is refused: 201 at its start if it is too long, else the first in it.
abbrev pub FirstFault : List ℕ → Refusal → Type 0
FirstFault text fault =
    ((longest_text < length text) × (fault ≡ at_start long_text))
    ⊎ ((length text ≤ longest_text) × FirstBroken text fault)
