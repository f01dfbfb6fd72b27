-- The meaning without what steps show inside.
use Rattle.std.specs.Prelude.{ℕ, List}
use Rattle.ckc_base.specs.Traces.{Event, Showing, narrowed}
use Rattle.ckc_base.specs.LongEvents.{plain_events}
use Rattle.ckc_tac.specs.declared.code.Tac.{Tac}
use Rattle.ckc_tac.specs.Meaning.{tac_detail}

-- what a program shows after n steps, with an input
abbrev pub tac_meaning : Tac → List ℕ → ℕ → Showing Event
tac_meaning p input n = narrowed plain_events (tac_detail p input n)
