-- Places of a text, and how long it may be.
use Rattle.std.specs.Prelude.{ℕ}
use Rattle.ckc_base.specs.declared.places.Pos.{Pos}
use Rattle.ckc_base.specs.declared.places.Refusal.{Refusal}

-- the first place of a text
abbrev pub start : Pos
start = record { line = 1; col = 1 }

-- a refusal of the whole text, which stands at its first place
abbrev pub at_start : ℕ → Refusal
at_start code = record { code = code; pos = start }

-- how many bytes a text may have
abbrev pub longest_text : ℕ
longest_text = 262144

-- E201: a text that is too long
abbrev pub long_text : ℕ
long_text = 201
