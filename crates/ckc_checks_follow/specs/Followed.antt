-- When core code follows a source program.
use Rattle.std.specs.Prelude.{ℕ, List}
use Rattle.ckc_base.specs.Follows.{Follows}
use Rattle.ckc_source.specs.Code.{Program}
use Rattle.ckc_source.specs.LaidOut.{AreBytes}
use Rattle.ckc_source.specs.Source.{source}
use Rattle.ckc_core.specs.Code as core
use Rattle.ckc_core.specs.Meaning.{core_meaning}

-- Core code follows a program, with any input of bytes.
abbrev pub IsFollowedByCore : Program → core.Program → Type 0
IsFollowedByCore p c = (input : List ℕ) → AreBytes input → Follows (source p input) (core_meaning c input) 100000
