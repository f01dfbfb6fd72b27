-- The meaning of a program: what it shows after so many steps, with an input; and whose fault it is if it is stuck
-- (Ruef, Lampropoulos, Sweet, Tarditi and Hicks, "Achieving Safety Incrementally with Checked C", POST 2019: unchecked
-- code is to blame).
use Rattle.std.specs.Prelude.{ℕ, zero, suc, List, [], map, slice_get, Option, Some, None, length, ◌≤◌}
use Rattle.ckc_base.specs.declared.arithmetic.Mode.{Mode}
use Rattle.ckc_base.specs.declared.arithmetic.Mode.TheVariants.{Checked, Unchecked}
use Rattle.ckc_base.specs.declared.places.Pos.{Pos}
use Rattle.ckc_base.specs.Traces.{Event, Showing}
use Rattle.ckc_base.specs.Steps.{Move, Goes, Halts, System, meaning}
use Rattle.ckc_base.specs.States.{state_at}
use Rattle.ckc_source.specs.declared.stmt.Spot.{Spot}
use Rattle.ckc_source.specs.Code.{Function, End, Program}
use Rattle.ckc_source.specs.Blocks.{block_of, place_behind, first_place}
use Rattle.ckc_source.specs.LaidOut.{AreApart, HoldBytes}
use Rattle.ckc_source.specs.States.{State, entered}
use Rattle.ckc_source.specs.Steps.{source_step, spot_of}

-- a program as a machine whose every step counts once
abbrev pub source_system : Program → System Event State
source_system p = record { step = source_step p; weight = λ s. 0 }

-- what stands where there is no function
abbrev pub no_function : Function
no_function = record {
  end = record { at = record { line = 0; col = 0 }; mode = Unchecked };
  params = 0;
  locals = 0;
  body = End;
  result = None;
  interfaces = [];
}

-- a function of the program, or what stands there if it has none
abbrev pub function_at : Option Function → Function
function_at (Some f) = f
function_at None = no_function

-- `main` is entered as the one active call, with the static objects and the string literals as blocks
abbrev pub first_state : Program → List ℕ → State
first_state p input = record {
  blocks = map block_of p.objects;
  next = place_behind first_place (map block_of p.objects);
  frame = entered (function_at (slice_get p.functions p.main)) [];
  callers = [];
  input = input;
}

-- What a program shows after n steps, with an input. Once it has ended, stopped or is stuck it stays as it is.
abbrev pub source : Program → List ℕ → ℕ → Showing Event
source p input = meaning (source_system p) (first_state p input)

-- the place of the last of the first n steps, or of the next one if it has not halted
abbrev pub place_after : Program → List ℕ → ℕ → Pos
place_after p input n = (spot_of (state_at (source_system p) (first_state p input) n)).at

-- What holds of each state of a run: its blocks lie apart, below the place of the next one, and hold bytes, and at most
-- 1,024 calls are active.
pub record IsOrderly (s : State) : Type 0 where
  pub apart : AreApart 0 s.blocks s.next
  pub bytes : HoldBytes s.blocks
  pub few : length s.callers ≤ 1023

-- ---- blame

-- what is found from the next state on, and nothing if the run halts
abbrev pub on_next : {A : Type 0} → (State → Option A) → Move Event State → Option A
on_next go (Goes events next) = go next
on_next go (Halts events standing) = None

-- the place of this step if it is unchecked, and else what is found later
abbrev pub by_mode : Spot → Option Pos → Mode → Option Pos
by_mode spot later Unchecked = Some spot.at
by_mode spot later Checked = later

-- the place of the first of the next n steps whose mode is unchecked
unfoldable pub first_unchecked : Program → ℕ → State → Option Pos
first_unchecked p zero s = None
first_unchecked p (suc n) s = by_mode (spot_of s) (on_next (first_unchecked p n) (source_step p s)) (spot_of s).mode

-- where unchecked code ran first, if it did in the first n steps
abbrev pub unchecked_since : Program → List ℕ → ℕ → Option Pos
unchecked_since p input n = first_unchecked p n (first_state p input)
