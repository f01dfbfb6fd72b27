-- Steps of either mode: which stores go through unchecked pointers, and what a step does that stores through none.
use Rattle.std.specs.Prelude.{◌≡◌, ◌⊎◌, ℕ, zero, suc, Bool, true, false, if◌then◌else◌, List, ◌∷◌, Option, None, Some, IsSome}
use Rattle.std.specs.List.{list_any}
use Rattle.ckc_base.specs.declared.arithmetic.Mode.{Mode}
use Rattle.ckc_base.specs.declared.arithmetic.Mode.TheVariants.{Checked, Unchecked}
use Rattle.ckc_base.specs.declared.places.Pos.{Pos}
use Rattle.ckc_base.specs.Lists.{AreBytes}
use Rattle.ckc_base.specs.States.{state_at}
use Rattle.ckc_base.specs.Steps.{Move, Goes, Halts}
use Rattle.ckc_base.specs.Traces.{Event, Stuck}
use Rattle.ckc_typed.specs.declared.typed.Typed.{Typed}
use Rattle.ckc_source.specs.declared.expr.Through.{Through}
use Rattle.ckc_source.specs.declared.expr.Through.TheVariants as through
use Rattle.ckc_source.specs.Code.{Code, Target, Memory, Right, Assign, Bundle, Get, Put, Program}
use Rattle.ckc_source.specs.Source.{source, source_system, first_state, on_next}
use Rattle.ckc_source.specs.States.{Work, Rest, State, settled}
use Rattle.ckc_source.specs.Steps.{source_step, spot_of}
use Rattle.ckc_blame_sound.specs.Sound.{Sound}
use Rattle.ckc_blame_given.specs.ckc_blame_pointers.specs.Owed.{Owed}

-- ---- stores

abbrev pub is_raw_through : Through → Bool
is_raw_through through.Raw = true
is_raw_through _ = false

-- A target is a place in memory that an unchecked pointer leads to.
abbrev pub goes_raw : Target → Bool
goes_raw (Memory width access p i) = is_raw_through access.through
goes_raw _ = false

-- The first step of some code stores through an unchecked pointer.
abbrev pub stores_raw : Code → Bool
stores_raw (Assign spot target right rest) = goes_raw target
stores_raw (Bundle spot assigns rest) = list_any (λ (a : Target × Right). goes_raw a.0) assigns
stores_raw (Get spot target rest) = goes_raw target
stores_raw (Put spot target e rest) = goes_raw target
stores_raw _ = false

-- The next step of some work does so.
abbrev pub stores_next : List Work → Bool
stores_next (Rest code ∷ work) = stores_raw code
stores_next _ = false

-- The next step from a state does so.
abbrev pub stores_unchecked : State → Bool
stores_unchecked s = stores_next (settled s.frame.work)

-- In unchecked code, the first step of some code stores through no unchecked pointer. (In checked code there is none.)
abbrev pub StoresSafely : Mode → Code → Type 0
StoresSafely Checked c = Unit {0}
StoresSafely Unchecked c = stores_raw c ≡ false

-- ---- steps

-- A step of code of a mode leads to a sound state, or the run ends or stops, or is stuck as it may be there.
abbrev pub MovesSoundly : Mode → Typed → Move Event State → Type 0
MovesSoundly m p (Goes events s) = Sound p s
MovesSoundly m p (Halts events standing) = standing ≡ Stuck → Owed m

-- ---- runs

-- the place of this step if it stores through an unchecked pointer, and else what is found later
abbrev pub by_store : State → Option Pos → Option Pos
by_store s later = if stores_unchecked s then Some (spot_of s).at else later

-- the place of the first of the next n steps that goes on and stores through an unchecked pointer
unfoldable pub first_unchecked_store : Program → ℕ → State → Option Pos
first_unchecked_store p zero s = None
first_unchecked_store p (suc n) s = on_next (λ next. by_store s (first_unchecked_store p n next)) (source_step p s)

-- where a step stored through an unchecked pointer first, if one of the first n steps did
abbrev pub unchecked_store_since : Program → List ℕ → ℕ → Option Pos
unchecked_store_since p input n = first_unchecked_store p n (first_state p input)

-- the mode of the last of the first n steps, or of the next one if the run has not halted
abbrev pub mode_after : Program → List ℕ → ℕ → Mode
mode_after p input n = (spot_of (state_at (source_system p) (first_state p input) n)).mode

-- If the program is stuck, with some input of bytes, then a step before stored through an unchecked pointer, or the step
-- that is stuck has mode Unchecked.
abbrev pub AreStoresBlamed : Program → Type 0
AreStoresBlamed p =
    (input : List ℕ) (n : ℕ) → AreBytes input → (source p input n).standing ≡ Stuck
    → IsSome (unchecked_store_since p input n) ⊎ (mode_after p input n ≡ Unchecked)
