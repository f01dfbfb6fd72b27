-- How large the image of a text may be.
use Rattle.std.specs.Prelude.{ℕ, ◌+◌, ◌*◌, ◌≤◌, List, length}
use Rattle.ckc_rv.specs.Machine.{Parts}
use Rattle.ckc_source.specs.Code.{Program}
use Rattle.ckc_checks_operands.specs.Weights.{program_weight}
use Rattle.ckc_build.specs.Meanings.{HasMeaning}
use Rattle.ckc_build.specs.Built.{IsImage}

-- Code has at most four bytes for each instruction that the program of the text weighs, and for five more.
abbrev pub IsShort : List ℕ → List ℕ → Type 0
IsShort text code = (p : Program) → HasMeaning text p → length code ≤ 4 * (program_weight p + 5)

-- an image has such code
abbrev pub HasShortCode : List ℕ → List ℕ → Type 0
HasShortCode text image = (parts : Parts) × IsImage image parts × IsShort text parts.code
