-- What a function is entered with, and where its code begins.
use Rattle.std.specs.Prelude.{◌≡◌, ℕ, ◌<◌, false, List, [], length, slice_index, Some}
use Rattle.std.specs.List.{flat_map}
use Rattle.ckc_typed.specs.declared.typed.Typed.{Typed}
use Rattle.ckc_typed.specs.Trees.{NotedHead}
use Rattle.ckc_blame_sound.specs.ckc_bounds_points.specs.declared.frame.Local.{Local}
use Rattle.ckc_blame_sound.specs.ckc_bounds_points.specs.Frames.{local_at}
use Rattle.ckc_blame_sound.specs.ckc_bounds.specs.Frames.{name_seen, begin_in}
use Rattle.ckc_source.specs.Blocks.{Block}
use Rattle.ckc_source.specs.Code.{Code, Function}
use Rattle.ckc_source.specs.States.{entered}
use Rattle.ckc_blame_sound.specs.Settings.{Setting, IsFunction}
use Rattle.ckc_blame_sound.specs.Values.{IsWordOf}
use Rattle.ckc_blame_sound.specs.Points.{AreBounded}
use Rattle.ckc_blame_sound.specs.Judged.{Exits, Judged}
use Rattle.ckc_blame_sound.specs.Calls.{store_in}

-- the parameters, which are in scope where a function begins
abbrev pub params_seen : NotedHead → List ℕ
params_seen h = flat_map name_seen h.params

-- Code is judged from the first point of the function with a head, with fresh variables from some number on.
pub record IsCodeJudged (s : Setting) (head : NotedHead) (code : Code) : Type 0 where
  pub exits : Exits
  pub fresh : ℕ
  pub judged : Judged s code exits (begin_in s.frame false head fresh)

-- the code of each function of a text is judged so
abbrev pub AreCodesJudged : Typed → Type 0
AreCodesJudged p = (s : Setting) (f : Function) (i : IsFunction p s f) → IsCodeJudged s i.head f.body

-- A function may be entered with these values: they are as many as its parameters, each is a word of the type of its
-- parameter, and each checked pointer among the parameters may be read within its declared bounds, as the locals of the
-- new call are.
pub record MayEnter (p : Typed) (blocks : List Block) (s : Setting) (f : Function) (head : NotedHead) (values : List ℕ)
    : Type 0 where
  pub counted : length values ≡ length s.head.params
  pub words : (k : ℕ) (l : Local) → k < length values → local_at s.frame k ≡ Some l
      → IsWordOf l.ctype (slice_index values k)
  pub bounded : AreBounded s (store_in p blocks (entered f values)) [] (params_seen head)
