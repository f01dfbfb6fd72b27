-- What declarations leave as it is.
use Rattle.std.specs.Prelude.{◌≡◌, ℕ, false}
use Rattle.ckc_syntax.specs.declared.tree.Name.{Name}
use Rattle.ckc_syntax.specs.declared.tree.Name.TheVariants as name
use Rattle.ckc_syntax.specs.declared.tree.Act.{Act-F, out-Act}
use Rattle.ckc_typed.specs.declared.typed.Note.{Note}
use Rattle.ckc_typed.specs.declared.typed.Typed.{Typed}
use Rattle.ckc_typed.specs.Trees.{NotedDecl}
use Rattle.ckc_blame_sound.specs.ckc_bounds_points.specs.Flow.{in_bounds}
use Rattle.ckc_blame_sound.specs.ckc_bounds_statements.specs.Paths.{Here}
use Rattle.ckc_source.specs.Code.{Code, Function}
use Rattle.ckc_blame_sound.specs.Settings.{Setting, IsFunction}
use Rattle.ckc_blame_sound.specs.Steps.{IsStep}

-- The bounds of no result name a local that a step of the function declares.
abbrev pub SpareResults : Typed → Type 0
SpareResults p =
    (s : Setting) (f : Function) (here there : Here) (step : Code → Code) (is : IsStep s here step there)
    (d : NotedDecl) (k : ℕ) → IsFunction p s f → out-Act Name Note is.before.body ≡ Act-F.Local d
    → d.name ≡ name.Local k → in_bounds k s.head.bounds ≡ false
