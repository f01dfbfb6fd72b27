use Rattle.std.specs.Prelude.{◌≡◌, List, ◌++◌}
use Rattle.ckc_asm_lines.specs.declared.lines.Line.{Line}

-- The lines were extended by those that a function puts in front of whatever follows.
abbrev pub Emits : List Line → List Line → (List Line → List Line) → Type 0
Emits old new lines = (rest : List Line) → new ++ rest ≡ old ++ lines rest
