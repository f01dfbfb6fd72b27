-- Which placed code names only what is there.
use Rattle.std.specs.Prelude.{◌≡◌, ℕ, ◌<◌, Bool, List, length, map, sum_by, All}
use Rattle.ckc_tac.specs.declared.code.Tac.{Tac}
use Rattle.ckc_tac.specs.WellFormed.{IsWellFormed as IsWellFormedTac}
use Rattle.ckc_tac.specs.Sizes.{program_size as tac_size}
use Rattle.ckc_frame.specs.declared.code.Place.{Place}
use Rattle.ckc_frame.specs.declared.code.Place.TheVariants.{Reg, Slot}
use Rattle.ckc_frame.specs.declared.code.Placed.{Placed}
use Rattle.ckc_frame.specs.declared.code.PlacedFunc.{PlacedFunc}
use Rattle.ckc_frame.specs.Places.{register_count, slot_count}
use Rattle.ckc_frame.specs.Meaning.{calls_in}

-- the code without its places
abbrev pub code_of : Placed → Tac
code_of p = record { initial = p.initial; funcs = map (λ f. f.code) p.funcs; main = p.main }

abbrev pub IsPlace : Place → Type 0
IsPlace (Reg r) = r < register_count
IsPlace (Slot s) = s < slot_count

-- each register has a place of the frame, and each call a row of marks, one for each register
pub record IsPlacedWhole (f : PlacedFunc) : Type 0 where
  pub homes : length f.homes ≡ f.code.regs
  pub places : All IsPlace f.homes
  pub calls : length f.kept ≡ sum_by calls_in f.code.blocks
  pub marks : All (λ (row : List Bool). length row ≡ f.code.regs) f.kept

-- the code names only what is there, and each function is placed whole
pub record IsWellFormed (p : Placed) : Type 0 where
  pub code : IsWellFormedTac (code_of p)
  pub placed : All IsPlacedWhole p.funcs

-- the size of placed code is that of its code
abbrev pub program_size : Placed → ℕ
program_size p = tac_size (code_of p)
