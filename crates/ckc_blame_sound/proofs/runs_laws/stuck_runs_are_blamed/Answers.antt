use Rattle.std.proofs.Common.{◌≡◌, []}
use Rattle.std.specs.Prelude.{Option, Some, None, IsSome}
use Rattle.ckc_source.specs.Source.{first_state}
use Rattle.ckc_build_elaborate.specs.Elaborated.{elaborated}
use Rattle.ckc_blame_sound.proofs.Stuck.{stuck_later}
use Rattle.ckc_blame_sound.proofs.Texts.{runs_checked}
use Rattle.ckc_blame_sound.proofs.runs_laws.stuck_runs_are_blamed.Goals as goal

none : {A : Type 0} (o : Option A) → o ≡ None → IsSome o → ⊥
none None e h = cc
none (Some x) e h = cc

pub returns : goal.returns
returns c = record {
  blamed = λ p input n stays sound e. stuck_later p stays n [] (first_state (elaborated p) input) sound e;
  never = λ p input n stays sound main checked e.
      none _ (runs_checked p input n main checked) (stuck_later p stays n [] (first_state (elaborated p) input) sound e);
}
