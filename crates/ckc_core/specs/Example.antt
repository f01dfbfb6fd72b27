-- A program with what it shows, as an example of the meaning.
use Rattle.std.specs.Prelude.{List, [], ◌∷◌, Some, None}
use Rattle.ckc_base.specs.declared.arithmetic.BinOp.TheVariants.{Add}
use Rattle.ckc_base.specs.declared.arithmetic.Width.TheVariants.{Word}
use Rattle.ckc_base.specs.declared.places.Pos.{Pos}
use Rattle.ckc_base.specs.declared.runtime_checks.Check.TheVariants.{Dynamic}
use Rattle.ckc_base.specs.Traces.{Got, Put, Standing, Showing}
use Rattle.ckc_base.specs.LongEvents.{LongEvent, Plain, Stored, Entered, Returned}
use Rattle.ckc_core.specs.Code.{Const, Local, Load, Bin, Code, End, Store, Check, Call, Get, Put as Puts, If, Loop, Return, Program}

abbrev pub place : Pos
place = record { line = 3; col = 7 }

-- it gets bytes, adds 1 to each by a function, stores and puts the sum, and stops at a check at the end of the input
abbrev pub body : Code
body =
    Get 0 (If (Bin Add (Local 0) (Const 1))
    (Call (Some 1) 1 (Local 0 ∷ []) place (Store Word (Const 0x02000008) (Local 1) (Puts (Load Word (Const 0x02000008)) End)))
    (Check Dynamic place (Const 0) End) End)

abbrev pub example : Program
example = record {
  initial = [];
  functions = record { params = 0; locals = 2; body = Loop body End (Return (Const 0) End) }
      ∷ record { params = 1; locals = 1; body = Return (Bin Add (Local 0) (Const 1)) End } ∷ [];
  main = 0;
}

-- what it does with the one byte 65 as input
abbrev pub example_events : List LongEvent
example_events =
    Plain (Got (Some 65)) ∷ Entered ∷ Returned ∷ Stored 0x02000008 Word 66 ∷ Plain (Put 66) ∷ Plain (Got None) ∷ []

abbrev pub example_shows : Standing → Showing LongEvent
example_shows standing = record { trace = example_events; standing = standing }
