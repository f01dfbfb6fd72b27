-- What a word does, read off it at once.
use Rattle.std.specs.Prelude.{ℕ, ◌<◌, List, Option}
use Rattle.std.specs.Option.{option_map}
use Rattle.ckc_rv.specs.declared.instructions.Instr.{Instr}
use Rattle.ckc_rv.specs.declared.registers.Outcome.{Outcome}
use Rattle.ckc_rv.specs.declared.registers.Outcome.TheVariants.{Next, Load}
use Rattle.ckc_rv.specs.Effects.{effect_of}
use Rattle.ckc_rv.specs.code.Decoded.{decoded}

-- the effect of an instruction that may be there
abbrev pub effect_if : Option Instr → ℕ → List ℕ → Option Outcome
effect_if i pc x = option_map (λ i. effect_of i pc x) i

-- the effect of the word's instruction; None if it has none
abbrev pub outcome_of : ℕ → ℕ → List ℕ → Option Outcome
outcome_of word pc x = effect_if (decoded word) pc x

-- the register that an outcome writes is one of the 32
abbrev pub NamesRegister : Outcome → Type 0
NamesRegister (Next rd value pc) = rd < 32
NamesRegister (Load op rd a) = rd < 32
NamesRegister _ = Unit {0}
