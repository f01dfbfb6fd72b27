-- Whose fault it is if the meaning of a program is stuck.
use Rattle.std.specs.Prelude.{◌≡◌, ◌≢◌, ℕ, List, IsSome}
use Rattle.ckc_base.specs.Lists.{AreBytes}
use Rattle.ckc_base.specs.Traces.{Stuck}
use Rattle.ckc_source.specs.Code.{Program}
use Rattle.ckc_source.specs.Source.{source, unchecked_since}

-- If the program is stuck, with some input of bytes, then one of its steps up to there has mode Unchecked.
abbrev pub IsBlamed : Program → Type 0
IsBlamed p =
    (input : List ℕ) (n : ℕ) → AreBytes input → (source p input n).standing ≡ Stuck → IsSome (unchecked_since p input n)

-- The program is never stuck, with any input of bytes.
abbrev pub IsNeverStuck : Program → Type 0
IsNeverStuck p = (input : List ℕ) (n : ℕ) → AreBytes input → (source p input n).standing ≢ Stuck
