-- How many operations a program has, and how many registers.
use Rattle.std.specs.Prelude.{ℕ, List, length, map, sum_by}
use Rattle.ckc_tac.specs.declared.code.Tac.{Tac}
use Rattle.ckc_tac.specs.declared.code.TacFunc.{TacFunc}
use Rattle.ckc_tac.specs.declared.code.TacBlock.{TacBlock}

abbrev pub operations_in : TacFunc → ℕ
operations_in f = sum_by (λ (block : TacBlock). length block.ops) f.blocks

abbrev pub operations_of : Tac → ℕ
operations_of p = sum_by operations_in p.funcs

-- the number of registers of each function
abbrev pub registers_of : Tac → List ℕ
registers_of p = map (λ (f : TacFunc). f.regs) p.funcs
