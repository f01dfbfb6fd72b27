-- What is asked of the points of a walk through a statement that is judged, so that its code is judged.
use Rattle.std.specs.Prelude.{◌≡◌, ℕ, ◌+◌, ◌^◌, Bool, true, false, ◌⊎◌, List, [], IfSome}
use Rattle.std.specs.List.{All, Contains}
use Rattle.ckc_linear.specs.declared.facts.Fact.{Fact}
use Rattle.ckc_linear.specs.Facts.{Satisfies, names}
use Rattle.ckc_typed.specs.Types.{is_integer}
use Rattle.ckc_blame_sound.specs.ckc_bounds_points.specs.declared.frame.Frame.{Frame}
use Rattle.ckc_blame_sound.specs.ckc_bounds_points.specs.Frames.{local_at}
use Rattle.ckc_blame_sound.specs.ckc_bounds_points.specs.Shown.{Known, is_within}
use Rattle.ckc_blame_sound.specs.ckc_bounds_points.specs.Flow.{State, widening_names}
use Rattle.ckc_blame_sound.specs.ckc_bounds_statements.specs.Paths.{Here}
use Rattle.ckc_blame_sound.specs.Values.{value, HoldWords, NamesIntegers}
use Rattle.ckc_blame_sound.specs.Points.{GoesTo}
use Rattle.ckc_blame_sound.specs.Judged.{Exits}

-- The number of each fact is within 2^50.
abbrev pub AreSmall : Known → Type 0
AreSmall facts = All (λ f. is_within (2 ^ 50) f.c ≡ true) facts.list

-- Each fact names the number zero and integer locals alone.
abbrev pub AreNamed : Frame → Known → Type 0
AreNamed frame facts = All (NamesIntegers frame) facts.list

-- A fact names no integer that is assigned if the local k is.
abbrev pub IsSpared : Frame → Fact → ℕ → Type 0
IsSpared frame f k = IfSome (local_at frame k) (λ l. is_integer l.ctype ≡ true → names (k + 1) f ≡ false)

-- The widening of the local p does not name the local k.
abbrev pub StaysWide : Frame → ℕ → ℕ → Type 0
StaysWide frame p k = IfSome (local_at frame k) (λ l. widening_names frame k p ≡ false)

-- A fact that is true of all words, as those on the range of a type.
abbrev pub IsAlways : Frame → Fact → Type 0
IsAlways frame f = (locals : List ℕ) → HoldWords frame locals → Satisfies (value frame locals) f

-- What is known at a point and is named by no assignment to these locals is known at a later one, if control comes to
-- it; and facts stay small, and name integer locals alone.
pub record Stays (frame : Frame) (ks : List ℕ) (at after : State) : Type 0 where
  pub reached : after.reached ≡ true → at.reached ≡ true
  pub facts : after.reached ≡ true → (f : Fact) → is_within (2 ^ 50) f.c ≡ true → All (IsSpared frame f) ks
      → Contains at.facts.list f → Contains after.facts.list f
  pub widened : after.reached ≡ true → (p : ℕ) → All (StaysWide frame p) ks → Contains at.widened p
      → Contains after.widened p
  pub small : AreSmall at.facts → AreSmall after.facts
  pub named : AreNamed frame at.facts → AreNamed frame after.facts

-- What is known at one point is still known at another one, and is named by no assignment to these locals: each fact is
-- one of those there or true of all words.
pub record IsLeft (frame : Frame) (ks : List ℕ) (at there : State) : Type 0 where
  pub facts : (f : Fact) → Contains at.facts.list f
      → (Contains there.facts.list f × All (IsSpared frame f) ks) ⊎ IsAlways frame f
  pub widened : (p : ℕ) → Contains at.widened p → Contains there.widened p × All (StaysWide frame p) ks

-- Control may leave a statement for an exit, a point past the loop around it or at its step, from any place in it: the
-- point at which the statement is judged has all that is known at the exit, however often these locals are assigned.
pub record IsExit (frame : Frame) (ks : List ℕ) (here exit : Here) : Type 0 where
  pub point : Here
  pub goes : GoesTo frame point exit
  pub reached : here.at.reached ≡ true → point.at.reached ≡ true
  pub left : here.at.reached ≡ true → IsLeft frame ks point.at here.at
  pub seen : (k : ℕ) → Contains point.seen k → Contains here.seen k

-- Control may leave a statement that assigns these locals by `break`, if it has one, and by `continue`, if it has one.
pub record MayLeave (frame : Frame) (ks : List ℕ) (left turned : Bool) (here : Here) (exits : Exits) : Type 0 where
  pub breaks : left ≡ true → IsExit frame ks here exits.breaks
  pub continues : turned ≡ true → IsExit frame ks here exits.continues

-- the point at which nothing is known and nothing is in scope
abbrev pub empty_point : Here
empty_point = record {
  seen = [];
  at = record { reached = true; facts = record { vars = 0; list = [] }; widened = [] };
  next = 0;
  counting = false;
}

-- Wherever control leaves a function, nothing is asked of it.
abbrev pub leaving : Exits
leaving = record { ends = empty_point; breaks = empty_point; continues = empty_point }
