-- The one status of each of three calls.
use Rattle.std.proofs.Common.{◌≡◌, ◌⊎◌, inl, inr, ℕ, ◌<◌, List, [], ◌∷◌, IsTrue, length, refl, sym, ap, ◌∙◌, arith}
use Rattle.ckc_base.specs.Places.{at_start, longest_text}
use Rattle.ckc_image.specs.declared.format.Format.{Format}
use Rattle.ckc_image.specs.declared.format.Format.TheVariants.{First, Elf}
use Rattle.ckc_image.specs.Image.{HasMagic}
use Rattle.ckc_cli.specs.ckc_cli_commands.specs.declared.status.Status.{Status}
use Rattle.ckc_cli.specs.ckc_cli_commands.specs.declared.status.Status.TheVariants as status
use Rattle.ckc_cli.specs.ckc_cli_commands.specs.World.{World, Untouched}
use Rattle.ckc_cli.specs.ckc_cli_commands.specs.Words.{Command, Judge, Show}
use Rattle.ckc_cli.specs.ckc_cli_commands.specs.Commands.{Reads, row_of}
use Rattle.ckc_cli.specs.ckc_cli_commands.specs.Causes.{Caused, FailsOnce}
use Rattle.ckc_cli.specs.Laws.{Given}
use Rattle.ckc_cli.proofs.Always.{refused_always, bad_always}
use Rattle.ckc_cli.proofs.Statuses.{usage_is}

no_command : (words : List (List ℕ)) → words ≡ [] → (command : Command) → ¬ Reads words command
no_command words none command r = let z : ◌≡◌ {A = List (List ℕ)} [] ((row_of command).keyword ∷ r.0) = sym none ∙ r.1 in cc

-- no bytes begin as an image of a format does
no_magic : (format : Format) → ¬ HasMagic format []
no_magic First e = let n : 0 ≡ 4 = ap (λ (l : List ℕ). length l) e in omega (arith, n)
no_magic Elf e = let n : 0 ≡ 4 = ap (λ (l : List ℕ). length l) e in omega (arith, n)

module _ (words : List (List ℕ)) (before after : World) (same : Untouched) (s : Status) (c : Caused words before after same s) where
  pub no_words : words ≡ [] → s ≡ status.Usage
  no_words none = (usage_is words before after same s c).1 (no_command words none)

  module _ (fails : FailsOnce before after s) (name : List ℕ) where
    pub long_text : (text : List ℕ) → Given words before.store.files (Judge name) (text ∷ []) → IsTrue before.store.steady → longest_text < length text
        → (s ≡ status.Refused (at_start 201)) ⊎ (s ≡ status.Memory)
    long_text text g steady more = refused_always words before after same (Judge name) (text ∷ []) g (inr steady) s c fails (at_start 201) (inl (inl (inl (inl (more, refl)))))

    pub no_bytes : Given words before.store.files (Show name) ([] ∷ []) → IsTrue before.store.steady → (s ≡ status.BadImage 1) ⊎ (s ≡ status.Memory)
    no_bytes g steady =
        bad_always words before after same (Show name) ([] ∷ []) g (inr steady) s c fails 1
        (inr (omega arith, inr (no_magic Elf, inl (refl, no_magic First))))
