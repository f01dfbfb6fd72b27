-- Whose fault it is if `interp` comes to a step that has no meaning.
use Rattle.std.proofs.Common.{ℕ, List, [], ◌++◌, Some, sym, ap, refl}
use Rattle.ckc_source.specs.Code.{Program}
use Rattle.ckc_interp.specs.declared.seen.Seen.TheVariants as seen
use Rattle.ckc_blame.specs.Blamed.{IsNeverStuck}
use Rattle.ckc_build.specs.Meanings.{HasMeaning, IsWhollyChecked}
use Rattle.ckc_cli_commands.specs.declared.status.Status.{Status}
use Rattle.ckc_cli_commands.specs.World.{World, Untouched}
use Rattle.ckc_cli_commands.specs.Words.{Interp}
use Rattle.ckc_cli_commands.specs.Commands.{Reads}
use Rattle.ckc_cli_commands.specs.Causes.{Caused}
use Rattle.ckc_cli.specs.Blame.{Blame}
use Rattle.ckc_cli.proofs.Headline.{bytes_alone}
use Rattle.ckc_cli.proofs.Meant.{shown_by}

module _ (never_stuck : (text : List ℕ) (p : Program) → HasMeaning text p → IsWhollyChecked text → IsNeverStuck p)
    (words : List (List ℕ)) (before after : World) (same : Untouched) (s : Status) (cause : Caused words before after same s) where
  pub blame : (name : List ℕ) (limit : ℕ) → Reads words (Interp name limit) → Blame name before s
  blame name limit asked at since e =
      let x = shown_by words before after same name limit asked s cause (seen.Stuck at (Some since)) (λ q. cc) (ap Some (sym e)) in
      let p = x.2.0 in
      let run = x.2.2.any in
      let given : List ℕ = run.0 ++ [] in
      let bytes = bytes_alone run.0 run.1.bytes in
      let stop = run.2 [] (λ q. refl) in
      (x.0, x.1, λ w. never_stuck x.0 p x.2.1 w given stop.0 bytes stop.1.stands_so)
