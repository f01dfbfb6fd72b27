-- What a step declares is a local of its function, and no result has bounds that name it.
use Rattle.std.proofs.Common.{◌≡◌, ℕ}
use Rattle.std.specs.List.{Contains}
use Rattle.ckc_syntax.specs.declared.tree.Name.{Name}
use Rattle.ckc_syntax.specs.declared.tree.Act.{Act-F, out-Act}
use Rattle.ckc_typed.specs.declared.typed.Note.{Note}
use Rattle.ckc_typed.specs.declared.typed.Typed.{Typed}
use Rattle.ckc_typed.specs.Environment.{variable_declared}
use Rattle.ckc_typed.specs.Trees.{NotedDecl}
use Rattle.ckc_blame_sound.specs.ckc_bounds_points.specs.declared.frame.Local.{Local}
use Rattle.ckc_blame_sound.specs.ckc_bounds_statements.specs.Paths.{Here}
use Rattle.ckc_source.specs.Code.{Code, Function}
use Rattle.ckc_blame_sound.specs.Settings.{Setting, IsFunction}
use Rattle.ckc_blame_sound.specs.Steps.{IsStep}
use Rattle.ckc_blame_sound.specs.JudgedTexts.{IsJudged}
use Rattle.ckc_blame_sound.proofs.Frames.{locals_are_there}
use Rattle.ckc_blame_steps.proofs.Spared.{results_spare}
use Rattle.ckc_blame_steps.proofs.Told.{local_named}
use Rattle.ckc_blame_given.specs.Written.{IsDeclared}
use Rattle.ckc_blame_given.proofs.Fitting.{declared_fits}
use Rattle.ckc_blame_walk.proofs.Layers.{declares_itself}
use Rattle.ckc_blame_walk.proofs.Seen.{declared_unnamed}
use Rattle.ckc_blame_steps.specs.Callees.{HaveFewVariables}
use Rattle.ckc_blame_steps.specs.Spared.{SpareResults}

pub results_are_spared : (p : Typed) → IsJudged p → SpareResults p
results_are_spared p j s f here there step is d k function out named = results_spare p s f k j function (is.inside.late d k (declares_itself is.before d out) named)

pub steps_declare : (p : Typed) → IsJudged p → HaveFewVariables p → (s : Setting) (f : Function) (here there : Here) (step : Code → Code) (d : NotedDecl) → IsFunction p s f → (is : IsStep s here step there)
    → out-Act Name Note is.before.body ≡ Act-F.Local d → (k : ℕ) × (l : Local) × IsDeclared s here d k l
steps_declare p j few s f here there step d function is out =
    let inside : Contains s.variables (variable_declared d) = is.inside.known d (declares_itself is.before d out) in
    let named = local_named p j s f (variable_declared d) function inside in
    let fits = declared_fits p s f j function d named.0 inside named.1 in
    let unnamed = declared_unnamed s here there step is d named.0 out named.1 in
    let l = locals_are_there p s f named.0 function fits.0 (few s f function) in (
      named.0,
      l.0,
      record {
        name_is = named.1;
        there = l.1;
        same = fits.1 l.0 l.1;
        below = fits.0;
        unnamed = unnamed.0;
        spared = results_are_spared p j s f here there step is d named.0 function out named.1;
      },
    )
