-- Registers as the reader of a line takes them.
use Rattle.std.specs.Prelude.{◌≡◌, ℕ, ◌<◌, List}
use Rattle.ckc_asm.specs.Names.{register}

-- `x` and the number in decimal, without zeros in front
abbrev pub IsRegister : List ℕ → ℕ → Type 0
IsRegister w n = (n < 32) × (w ≡ register n)
