-- The pieces of a program come to its lines.
use Rattle.std.proofs.Common.{◌≡◌, ℕ, List, [], ◌++◌, append-nil, sym, ap, ◌∙◌}
use Rattle.ckc_asm_lines.specs.declared.lines.Line.{Line}
use Rattle.ckc_frame.specs.declared.code.Placed.{Placed}
use Rattle.ckc_emit.specs.code.Emitting.{Emits}
use Rattle.ckc_emit.specs.code.ProgramLines.{label_of, start_lines, functions_lines, program_lines}

pub program_emitted : (p : Placed) (label : ℕ) (a b c : List Line) → a ≡ [] → label ≡ label_of p.funcs p.main
    → Emits a b (start_lines label) → Emits b c (functions_lines p.funcs 1 p.funcs) → c ≡ program_lines p
program_emitted p label a b c none is e f =
    let functions : List Line = functions_lines p.funcs 1 p.funcs [] in
    sym (append-nil c) ∙ f [] ∙ e functions ∙ ap (λ x. x ++ start_lines label functions) none ∙ ap (λ l. start_lines l functions) is
