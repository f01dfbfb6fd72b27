-- The types phase: what it makes of a text whose names are resolved, and for which first error it refuses it.
use Rattle.std.specs.Prelude.{◌≡◌, ◌⊎◌, ℕ}
use Rattle.ckc_base.specs.Phases.{Phase}
use Rattle.ckc_base.specs.Outcomes.{phase_by}
use Rattle.ckc_syntax.specs.declared.tree.NamedText.{NamedText}
use Rattle.ckc_typed.specs.declared.typed.Typed.{Typed}
use Rattle.ckc_typed.specs.Texts.{named_typed}

-- A text with the type of each expression and the mode of each statement, its structures and its static objects.
abbrev pub typing : Phase NamedText Typed
typing = phase_by named_typed

-- E401 to E407, and E206
abbrev pub IsTypeCode : ℕ → Type 0
IsTypeCode code = (code ≡ 206) ⊎ (code ≡ 401) ⊎ (code ≡ 402) ⊎ (code ≡ 403) ⊎ (code ≡ 404) ⊎ (code ≡ 405) ⊎ (code ≡ 406) ⊎ (code ≡ 407)
