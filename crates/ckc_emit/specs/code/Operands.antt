use Rattle.std.specs.Prelude.{◌<◌, ◌^◌}
use Rattle.ckc_frame.specs.WellFormed.{IsPlace}
use Rattle.ckc_emit.specs.declared.places.PlacedOperand.{PlacedOperand}
use Rattle.ckc_emit.specs.declared.places.PlacedOperand.TheVariants.{At, Number}

-- The operand is at a place of the frame, or a word.
abbrev pub IsOperand : PlacedOperand → Type 0
IsOperand (At place) = IsPlace place
IsOperand (Number n) = n < 2 ^ 32
