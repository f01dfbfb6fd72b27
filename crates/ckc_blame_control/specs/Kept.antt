-- What a step leaves as it is.
use Rattle.std.specs.Prelude.{◌≡◌, ℕ, true, List, ◌∷◌, Option}
use Rattle.ckc_source.specs.declared.expr.Pointee.{Pointee}
use Rattle.ckc_source.specs.declared.program.Shape.{Shape}
use Rattle.ckc_source.specs.declared.stmt.Kept.{Kept}
use Rattle.ckc_source.specs.Blocks.{Block}
use Rattle.ckc_source.specs.Code.{Function}
use Rattle.ckc_source.specs.Runs.{is_true}
use Rattle.ckc_source.specs.States.{Work, Caller, State, entered}

-- Each range that is true in some blocks is true in others.
abbrev pub KeepRanges : List Shape → (before after : List Block) → Type 0
KeepRanges shapes before after =
    (to : Pointee) (n low high : ℕ) → is_true shapes before to n low high ≡ true
    → is_true shapes after to n low high ≡ true

-- Two states are in the same call, entered with the same values, and the same calls wait for it.
pub record IsSameCall (before after : State) : Type 0 where
  pub function : after.frame.function ≡ before.frame.function
  pub entry : after.frame.entry ≡ before.frame.entry
  pub callers : after.callers ≡ before.callers

-- The state after a function is entered with these values: the call in which that happens waits, with this work next.
abbrev pub inside : State → List Work → Option Kept → Function → List ℕ → State
inside s next target callee values = record s {
  frame = entered callee values;
  callers = record { frame = record s.frame { work = next }; target = target } ∷ s.callers;
}

-- A state is back in a call that waited in front of others.
pub record IsBack (caller : Caller) (callers : List Caller) (s : State) : Type 0 where
  pub function : s.frame.function ≡ caller.frame.function
  pub entry : s.frame.entry ≡ caller.frame.entry
  pub work : s.frame.work ≡ caller.frame.work
  pub others : s.callers ≡ callers
