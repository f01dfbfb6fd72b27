-- Whose fault it is if `interp` comes to a step that has no meaning.
use Rattle.std.specs.Prelude.{◌≡◌, ℕ, List}
use Rattle.ckc_base.specs.declared.places.Pos.{Pos}
use Rattle.ckc_build.specs.Meanings.{IsWhollyChecked}
use Rattle.ckc_cli_commands.specs.declared.status.Status.{Status}
use Rattle.ckc_cli_commands.specs.declared.status.Status.TheVariants as status
use Rattle.ckc_cli_commands.specs.World.{World}
use Rattle.ckc_cli.specs.Objects.{OfFile}

-- If `interp` with a name is stuck, the text is not wholly checked.
abbrev pub Blame : List ℕ → World → Status → Type 0
Blame name before s =
    (at since : Pos) → s ≡ status.Stuck at since
    → OfFile before.store.files name (λ text. ¬ IsWhollyChecked text)
