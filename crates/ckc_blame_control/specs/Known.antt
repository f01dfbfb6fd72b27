-- What is known of each point at which a step or a condition of a judged text stands.
use Rattle.std.specs.Prelude.{◌<◌, ◌^◌}
use Rattle.std.specs.List.{All}
use Rattle.ckc_typed.specs.declared.environment.Globals.{Globals}
use Rattle.ckc_blame_sound.specs.ckc_bounds_statements.specs.Paths.{Here}
use Rattle.ckc_blame_sound.specs.Settings.{Setting}
use Rattle.ckc_blame_sound.specs.Values.{NamesIntegers}
use Rattle.ckc_blame_sound.specs.Bodies.{AreFresh}
use Rattle.ckc_blame_sound.specs.Typed.{Agrees}

-- The frame agrees with what the text and the function declare, the locals from the next fresh one on are no integers,
-- and it has a word as its number; each fact names the number zero and integer locals alone.
pub record IsKnownPoint (globals : Globals) (s : Setting) (here : Here) : Type 0 where
  pub agrees : Agrees globals s
  pub fresh : AreFresh s.frame here.next
  pub word : here.next < 2 ^ 32
  pub named : All (NamesIntegers s.frame) here.at.facts.list
