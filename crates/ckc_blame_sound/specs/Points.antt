-- What holds of the locals of a call at a point of its function, and what control takes along from a point to another.
use Rattle.std.specs.Prelude.{◌≡◌, ℕ, true, List, [], length, slice_index, Option, None, Some, IsOk}
use Rattle.std.specs.List.{Contains}
use Rattle.ckc_types.specs.declared.types.CType.{CType}
use Rattle.ckc_typed.specs.declared.typed.Range.{Range}
use Rattle.ckc_typed.specs.declared.typed.Range.TheVariants as range
use Rattle.ckc_bounds.specs.ckc_bounds_points.specs.declared.frame.Local.{Local}
use Rattle.ckc_bounds.specs.ckc_bounds_points.specs.declared.frame.Frame.{Frame}
use Rattle.ckc_bounds.specs.ckc_bounds_points.specs.Frames.{local_at}
use Rattle.ckc_bounds.specs.ckc_bounds_points.specs.Flow.{State, in_bounds}
use Rattle.ckc_bounds.specs.ckc_bounds_ranges.specs.Rows.{range_of_local}
use Rattle.ckc_bounds.specs.ckc_bounds_statements.specs.Paths.{Here}
use Rattle.ckc_source.specs.Eval.{Store, reads_limited}
use Rattle.ckc_build_values.specs.Ends.{limits_at}
use Rattle.ckc_blame_sound.specs.Settings.{Setting}
use Rattle.ckc_blame_sound.specs.Values.{AreTrue, HoldWords}

-- The local pointer k of a type may be read within a range: it is null, or the range is true. An unknown range asks nothing.
abbrev pub IsReadable : Setting → Store → ℕ → CType → Range → Type 0
IsReadable s store k t (range.Known low high) =
    IsOk (reads_limited store (limits_at s.text s.variables t k low high) (slice_index store.locals k))
IsReadable s store k t _ = Unit {0}

-- the local k may be read within its declared bounds, one element further if it is among these widened ones
abbrev pub IsBounded : Setting → Store → List ℕ → ℕ → Option Local → Type 0
IsBounded s store widened k (Some l) = IsReadable s store k l.ctype (range_of_local s.frame k widened)
IsBounded s store widened k None = Unit {0}

-- each local in scope may be read so
abbrev pub AreBounded : Setting → Store → List ℕ → List ℕ → Type 0
AreBounded s store widened seen = (k : ℕ) → Contains seen k → IsBounded s store widened k (local_at s.frame k)

-- A point of a function holds of a store, in a call that was entered with these values of its parameters: control may be
-- there; the locals are as many as the function has, and each holds a word of its type; the facts are true; each pointer
-- in scope may be read within its bounds, and if it is widened one element further; the parameters that the bounds of
-- the result name have the values that they were entered with.
pub record HoldsAt (s : Setting) (store : Store) (entry : List ℕ) (here : Here) : Type 0 where
  pub reached : here.at.reached ≡ true
  pub counted : length store.locals ≡ length s.variables
  pub words : HoldWords s.frame store.locals
  pub facts : AreTrue s.frame store.locals here.at.facts
  pub bounded : AreBounded s store [] here.seen
  pub widened : AreBounded s store here.at.widened here.seen
  pub entered : length entry ≡ length s.head.params
  pub kept : (k : ℕ) → in_bounds k s.head.bounds ≡ true → slice_index store.locals k ≡ slice_index entry k

-- What is known at a point is known at another one: of whatever words in the locals the facts here are true, those there
-- are true too, and what is widened there is widened here.
pub record IsKnown (frame : Frame) (here there : State) : Type 0 where
  pub reached : there.reached ≡ true
  pub facts : (locals : List ℕ) → HoldWords frame locals → AreTrue frame locals here.facts → AreTrue frame locals there.facts
  pub widened : (k : ℕ) → Contains there.widened k → Contains here.widened k

-- Control goes from a point to another one, if it comes to it at all: no more is known there, and no more is in scope.
pub record GoesTo (frame : Frame) (here there : Here) : Type 0 where
  pub known : here.at.reached ≡ true → IsKnown frame here.at there.at
  pub seen : (k : ℕ) → Contains there.seen k → Contains here.seen k
