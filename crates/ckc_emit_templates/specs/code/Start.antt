-- The first lines of a program.
use Rattle.std.specs.Prelude.{ℕ, List, ◌∷◌}
use Rattle.ckc_rv.specs.declared.instructions.Instr.TheVariants.{Lui}
use Rattle.ckc_asm_lines.specs.declared.lines.Line.{Line}
use Rattle.ckc_asm_lines.specs.declared.lines.Line.TheVariants.{Label, Plain, Far}
use Rattle.ckc_emit_templates.specs.code.Templates.{ask_lines}

-- the first frame, the call of `main`, and the end with what it returns
abbrev pub start_lines : (main : ℕ) → List Line → List Line
start_lines main rest = Label 0 ∷ Plain (Lui 2 0x3FFC) ∷ Far 1 main ∷ ask_lines 0 rest
