-- A program with what it shows, as an example of the meaning.
use Rattle.std.specs.Prelude.{List, [], ◌∷◌, Some, None}
use Rattle.ckc_base.specs.declared.arithmetic.Width.TheVariants.{Word}
use Rattle.ckc_base.specs.declared.places.Pos.{Pos}
use Rattle.ckc_base.specs.declared.runtime_checks.Check.TheVariants.{Dynamic}
use Rattle.ckc_base.specs.Traces.{Got, Put as Puts, Standing, Showing}
use Rattle.ckc_base.specs.LongEvents.{LongEvent, Plain, Stored, Entered, Returned}
use Rattle.ckc_tac.specs.declared.code.Tac.{Tac}
use Rattle.ckc_tac.specs.declared.code.TacFunc.{TacFunc}
use Rattle.ckc_tac.specs.declared.code.Comparison.TheVariants.{Eq, Ne}
use Rattle.ckc_tac.specs.declared.code.Operand.TheVariants.{Register, Number}
use Rattle.ckc_tac.specs.declared.code.TacOp.TheVariants.{Const, Store, Check, Call, Get, Put}
use Rattle.ckc_tac.specs.declared.code.TacEnd.TheVariants.{Jump, Branch, Return}

abbrev pub place : Pos
place = record { line = 3; col = 7 }

-- It gets a byte. If that is 65, it calls a function that stores it, and puts it; else it reads a register that is
-- not written.
abbrev pub example_main : TacFunc
example_main = record {
  params = 0;
  regs = 2;
  blocks = record { ops = Get 0 ∷ []; end = Branch Eq (Register 0) (Number 65) 1 2 }
      ∷ record { ops = Call None 1 (0 ∷ []) place ∷ Put (Register 0) ∷ []; end = Return (Register 0) }
      ∷ record { ops = Check Dynamic place Ne (Register 1) (Number 0) ∷ []; end = Jump 1 } ∷ [];
}

abbrev pub example_callee : TacFunc
example_callee = record {
  params = 1;
  regs = 2;
  blocks = record { ops = Const 1 0x02000008 ∷ Store Word (Register 1) 0 (Register 0) ∷ []; end = Return (Register 0) } ∷ [];
}

abbrev pub example : Tac
example = record { initial = []; funcs = example_main ∷ example_callee ∷ []; main = 0 }

-- what it does with the byte 65 as input
abbrev pub example_events : List LongEvent
example_events = Plain (Got (Some 65)) ∷ Entered ∷ Stored 0x02000008 Word 65 ∷ Returned ∷ Plain (Puts 65) ∷ []

abbrev pub example_shows : Standing → Showing LongEvent
example_shows standing = record { trace = example_events; standing = standing }
