-- What comes next in a call, judged from a point that holds.
use Rattle.std.specs.Prelude.{ℕ, Bool, true, false, List}
use Rattle.ckc_blame_sound.specs.ckc_bounds_statements.specs.Paths.{Here}
use Rattle.ckc_source.specs.Code.{Code, End, Break, Continue}
use Rattle.ckc_source.specs.Eval.{Store}
use Rattle.ckc_source.specs.States.{Work}
use Rattle.ckc_blame_sound.specs.Settings.{Setting}
use Rattle.ckc_blame_sound.specs.Points.{HoldsAt}
use Rattle.ckc_blame_sound.specs.Steps.{IsStep}
use Rattle.ckc_blame_sound.specs.Judged.{Exits, Judged, JudgedWork}

-- What comes next in a call is judged from the points that control left for, and the point where the call stands holds.
pub record IsReady (s : Setting) (store : Store) (entry : List ℕ) (next : List Work) : Type 0 where
  pub exits : Exits
  pub work : JudgedWork s next exits
  pub holds : HoldsAt s store entry exits.ends

-- whether some code begins with a step
abbrev pub is_step : Code → Bool
is_step End = false
is_step (Break rest) = false
is_step (Continue rest) = false
is_step code = true

-- Some code comes next, and begins with a step: it is judged from a point that holds, and what comes after it from the
-- points that control leaves it for.
pub record Begins (s : Setting) (store : Store) (entry : List ℕ) (code : Code) (next : List Work) : Type 0 where
  pub here : Here
  pub holds : HoldsAt s store entry here
  pub exits : Exits
  pub judged : Judged s code exits here
  pub work : JudgedWork s next exits

-- A step comes next: it is judged at a point that holds, and what comes after it from the point that it leads to.
pub record Faces (s : Setting) (store : Store) (entry : List ℕ) (step : Code → Code) (next : List Work) : Type 0 where
  pub here : Here
  pub holds : HoldsAt s store entry here
  pub exits : Exits
  pub judged : IsStep s here step exits.ends
  pub work : JudgedWork s next exits
