-- The lines by which registers are saved in the frame and restored from it.
use Rattle.std.specs.Prelude.{ℕ, zero, suc, ◌+◌, ◌*◌, nat_lt, Bool, if◌then◌else◌, List, false, true}
use Rattle.ckc_asm_lines.specs.declared.lines.Line.{Line}
use Rattle.ckc_emit_templates.specs.code.Templates.{load_lines, store_lines}

-- the register of the machine for a register of placed code: x8 to x25 without x10 and x17
abbrev pub register_of : ℕ → ℕ
register_of k = if nat_lt k 2 then k + 8 else if nat_lt k 8 then k + 9 else k + 10

-- a register is saved in the frame, or not
abbrev pub save_lines : Bool → ℕ → List Line → List Line
save_lines b k rest = if b then store_lines (register_of k) 2 (k * 4 + 16) rest else rest

-- a register is restored from the frame, or not
abbrev pub restore_lines : Bool → ℕ → List Line → List Line
restore_lines b k rest = if b then load_lines (register_of k) 2 (k * 4 + 16) rest else rest

-- the lines of so many registers from one on, each by whether a test names it
unfoldable pub each_lines : (Bool → ℕ → List Line → List Line) → (ℕ → Bool) → (count k : ℕ)
    → List Line → List Line
each_lines line test zero k rest = rest
each_lines line test (suc count) k rest = line (test k) k (each_lines line test count (k + 1) rest)

-- of so many registers from one on, those that a test names are saved
abbrev pub saves_lines : (ℕ → Bool) → (count k : ℕ) → List Line → List Line
saves_lines = each_lines save_lines

-- of so many registers from one on, those that a test names are restored
abbrev pub restores_lines : (ℕ → Bool) → (count k : ℕ) → List Line → List Line
restores_lines = each_lines restore_lines

-- a register is saved in the frame, or restored from it, if it is marked
abbrev pub kept_lines : (restores marked : Bool) → ℕ → List Line → List Line
kept_lines false = save_lines
kept_lines true = restore_lines
