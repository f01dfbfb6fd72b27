-- The lines of calls: registers are saved in the frame, the arguments are read from it and written to the homes of the
-- called function's parameters, in registers and in the frame below.
use Rattle.std.specs.Prelude.{ℕ, ◌+◌, ◌*◌, ◌==◌, ◌||◌, Bool, false, List, [], ◌∷◌, slice_get, Option, Some, None}
use Rattle.ckc_base.specs.declared.places.Pos.{Pos}
use Rattle.ckc_base.specs.declared.runtime_checks.Check.TheVariants.{Depth}
use Rattle.ckc_rv_operations.specs.declared.operations.BranchOp.TheVariants.{Bne}
use Rattle.ckc_rv_operations.specs.declared.operations.RegOp.TheVariants.{Add}
use Rattle.ckc_rv.specs.declared.instructions.Instr.TheVariants.{Lui, Reg}
use Rattle.ckc_asm_lines.specs.declared.lines.Line.{Line}
use Rattle.ckc_asm_lines.specs.declared.lines.Line.TheVariants.{Plain, Far}
use Rattle.ckc_frame.specs.declared.code.Place.{Place}
use Rattle.ckc_frame.specs.declared.code.Place.TheVariants as place
use Rattle.ckc_frame.specs.Places.{home, is_kept_home}
unfoldable pub use Rattle.ckc_emit_templates.specs.code.Saved.{each_lines}
pub use Rattle.ckc_emit_templates.specs.code.Saved.{save_lines, restore_lines, saves_lines, restores_lines, kept_lines}
use Rattle.ckc_emit.specs.code.Lines.{register_of, offset_of, load_lines, store_lines, settle_lines, move_lines, check_lines}

-- the place of a register; of one without a place, any
abbrev pub place_or : Option Place → Place
place_or (Some place) = place
place_or None = place.Slot 0

unfoldable pub place_at : List Place → ℕ → Place
place_at homes r = place_or (slice_get homes r)

-- whether a machine register is the home of an argument
abbrev pub is_argument_home : ℕ → List Place → List ℕ → Bool
is_argument_home k homes [] = false
is_argument_home k homes (r ∷ rs) = home homes r == k || is_argument_home k homes rs

-- stops unless a frame more fits, and sets x3 to it
abbrev pub depth_lines : Pos → List Line → List Line
depth_lines at rest =
    Plain (Lui 5 0x3000) ∷
    check_lines Bne 2 5 Depth at (Plain (Lui 3 0xFFFFC) ∷ Plain (Reg Add 3 3 2) ∷ rest)

-- an argument goes from its place in the frame to the place of a parameter, in the frame at x3
abbrev pub argument_lines : Place → Place → List Line → List Line
argument_lines from (place.Reg k) rest = load_lines (register_of k) 2 (offset_of from) rest
argument_lines from (place.Slot k) rest =
    load_lines 5 2 (offset_of from) (store_lines 5 3 (k * 4 + 80) rest)

-- the arguments for the parameters from one on, the last first
abbrev pub arguments_lines : List Place → List ℕ → ℕ → List Place → List Line → List Line
arguments_lines homes [] k params rest = rest
arguments_lines homes (r ∷ rs) k params rest =
    arguments_lines homes rs (k + 1) params
    (argument_lines (place_at homes r) (place_at params k) rest)

-- from the frame of the caller to that below, to the function, and back
abbrev pub visit_lines : ℕ → List Line → List Line
visit_lines label rest =
    move_lines 2 3 (Far 1 label ∷ Plain (Lui 3 4) ∷ Plain (Reg Add 2 2 3) ∷ rest)

-- the kept registers and those of the arguments
abbrev pub is_saved : List Place → List Bool → List ℕ → ℕ → Bool
is_saved homes marks arguments k = is_kept_home k homes marks || is_argument_home k homes arguments

abbrev pub call_lines : List Place → List Bool → List Place → ℕ → List ℕ → Pos → List Line
    → List Line
call_lines homes marks params label arguments at rest =
    saves_lines (is_saved homes marks arguments) 16 0
    (depth_lines at (arguments_lines homes arguments 0 params
    (visit_lines label (restores_lines (λ k. is_kept_home k homes marks) 16 0 rest))))

-- the result of a call comes in x10
abbrev pub result_lines : List Place → Option ℕ → List Line → List Line
result_lines homes None rest = rest
result_lines homes (Some t) rest = settle_lines (place_at homes t) 10 rest

-- what a caller does after its call, before the operations after it
abbrev pub back_lines : List Place → List Bool → Option ℕ → List Line → List Line
back_lines homes marks target rest =
    Plain (Lui 3 4) ∷ Plain (Reg Add 2 2 3) ∷
    restores_lines (λ k. is_kept_home k homes marks) 16 0 (result_lines homes target rest)
