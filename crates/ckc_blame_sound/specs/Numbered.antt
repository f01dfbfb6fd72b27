-- What is declared, by its numbers.
use Rattle.std.specs.Prelude.{◌≡◌, ℕ, ◌+◌, List, [], ◌∷◌, map, Some}
use Rattle.std.specs.List.{Contains}
use Rattle.ckc_syntax.specs.declared.tree.Act.{Act-F}
use Rattle.ckc_syntax.specs.declared.tree.Name.{Name}
use Rattle.ckc_syntax.specs.declared.tree.Name.TheVariants as name
use Rattle.ckc_typed.specs.declared.environment.Variable.{Variable}
use Rattle.ckc_typed.specs.declared.typed.Note.{Note}
use Rattle.ckc_typed.specs.Environment.{variable_declared}
use Rattle.ckc_typed.specs.Trees.{NotedAct, NotedStmt}
use Rattle.ckc_typed_fit.specs.Numbers.{AreNumbered}
use Rattle.ckc_bounds.specs.ckc_bounds_points.specs.declared.frame.Frame.{Frame}
use Rattle.ckc_bounds.specs.ckc_bounds_points.specs.declared.frame.Local.{Local}
use Rattle.ckc_bounds.specs.ckc_bounds_points.specs.Frames.{local_at}

-- the names are those of the locals with the numbers from one on
abbrev pub AreLocals : ℕ → List Name → Type 0
AreLocals k [] = Unit {0}
AreLocals k (n ∷ ns) = (n ≡ name.Local k) × AreLocals (k + 1) ns

-- the names are those of the locals with the numbers from 0 on, each once, in some order
abbrev pub AreAllLocals : List Name → Type 0
AreAllLocals ns = (ks : List ℕ) × (ns ≡ map name.Local ks) × AreNumbered ks

-- A variable that is a local has the type that the frame gives its number.
abbrev pub HaveTypes : Frame → List Variable → Type 0
HaveTypes frame variables =
    (v : Variable) (k : ℕ) (l : Local) → Contains variables v → v.name ≡ name.Local k → local_at frame k ≡ Some l
    → l.ctype ≡ v.ctype

-- what a statement declares, if it is a declaration, is among some variables
abbrev pub IsKnownIn : List Variable → Act-F Name Note NotedAct NotedStmt → Type 0
IsKnownIn variables (Act-F.Local d) = Contains variables (variable_declared d)
IsKnownIn variables a = Unit {0}
