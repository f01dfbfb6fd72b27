-- The bounds phase: what it makes of a typed text, and for which first error it refuses it.
use Rattle.ckc_base.specs.Phases.{Phase}
use Rattle.ckc_base.specs.Outcomes.{phase_by}
use Rattle.ckc_typed.specs.declared.typed.Typed.{Typed}
use Rattle.ckc_bounds.specs.Texts.{text_judged}

-- The same text, with the range of each pointer that is an expression in it.
abbrev pub bounding : Phase Typed Typed
bounding = phase_by text_judged
