-- What a call adds.
use Rattle.std.proofs.Common.{ℕ, zero, suc, ◌+◌, ◌*◌, ◌≤◌, ◌<◌, Bool, List, [], ◌∷◌, length, Option, Some, None, arith}
use Rattle.std.specs.Prelude.{All, IfSome}
use Rattle.std.proofs.lemmas.List.Elements.{All-head, All-tail}
use Rattle.ckc_base.specs.declared.places.Pos.{Pos}
use Rattle.ckc_base.specs.declared.runtime_checks.Check.TheVariants.{Depth}
use Rattle.ckc_rv_operations.specs.declared.operations.BranchOp.TheVariants.{Bne}
use Rattle.ckc_rv_operations.specs.declared.operations.RegOp.TheVariants.{Add}
use Rattle.ckc_asm_lines.specs.declared.lines.Line.{Line}
use Rattle.ckc_frame.specs.declared.code.Place.{Place}
use Rattle.ckc_frame.specs.declared.code.Place.TheVariants as place
use Rattle.ckc_frame.specs.Places.{is_kept_home}
use Rattle.ckc_frame.specs.WellFormed.{IsPlace}
use Rattle.ckc_emit.specs.code.Lines.{register_of, offset_of}
use Rattle.ckc_emit.specs.code.CallLines.{place_at, each_lines, is_saved, save_lines, saves_lines, restore_lines, restores_lines, depth_lines, argument_lines, arguments_lines, visit_lines, call_lines, result_lines}
use Rattle.ckc_emit.proofs.PlaceAt.{place_is}
use Rattle.ckc_emit.proofs.Pieces.{Labels, Adds, nothing, then_adds, more_adds, far_adds, either_adds}
use Rattle.ckc_emit.proofs.Added.{register_low, lui_adds, reg_adds, move_adds, loads_add, stores_add, near_load_adds, near_store_adds, check_adds, settle_adds}

module _ (labels : Labels) (k : ℕ) where
  abbrev Adding : ℕ → List Line → List Line → Type 0
  Adding most xs ys = Adds labels k k most xs ys

  save_adds : (b : Bool) (j : ℕ) (ys : List Line) → j < 16 → Adding 1 (save_lines b j ys) ys
  save_adds b j ys h =
      either_adds labels b
      (λ e. near_store_adds labels k (register_of j) 2 (j * 4 + 16) ys (register_low j h) (omega arith) (omega arith))
      (λ e. more_adds labels 1 (omega arith) (nothing labels k ys))

  saves_add : (test : ℕ → Bool) (count j : ℕ) (ys : List Line) → j + count ≤ 16 → Adding count (saves_lines test count j ys) ys
  unfolding each_lines
  saves_add test zero j ys h = nothing labels k ys
  saves_add test (suc count) j ys h =
      more_adds labels (suc count) (omega arith) (then_adds labels (save_adds (test j) j _ (omega arith)) (saves_add test count (j + 1) ys (omega arith)))

  restore_adds : (b : Bool) (j : ℕ) (ys : List Line) → j < 16 → Adding 1 (restore_lines b j ys) ys
  restore_adds b j ys h =
      either_adds labels b
      (λ e. near_load_adds labels k (register_of j) 2 (j * 4 + 16) ys (register_low j h) (omega arith) (omega arith))
      (λ e. more_adds labels 1 (omega arith) (nothing labels k ys))

  restores_add : (test : ℕ → Bool) (count j : ℕ) (ys : List Line) → j + count ≤ 16 → Adding count (restores_lines test count j ys) ys
  unfolding each_lines
  restores_add test zero j ys h = nothing labels k ys
  restores_add test (suc count) j ys h =
      more_adds labels (suc count) (omega arith) (then_adds labels (restore_adds (test j) j _ (omega arith)) (restores_add test count (j + 1) ys (omega arith)))

  depth_adds : (at : Pos) (ys : List Line) → Adding 13 (depth_lines at ys) ys
  depth_adds at ys =
      then_adds labels (lui_adds labels k 5 0x3000 _ (omega arith) (omega arith))
      (then_adds labels (check_adds labels k Bne 2 5 Depth at _ (omega arith) (omega arith))
      (then_adds labels (lui_adds labels k 3 0xFFFFC _ (omega arith) (omega arith)) (reg_adds labels k Add 3 3 2 ys (omega arith) (omega arith) (omega arith))))

  argument_adds : (from to : Place) (ys : List Line) → IsPlace from → IsPlace to → Adding 6 (argument_lines from to ys) ys
  argument_adds from (place.Reg j) ys p q =
      more_adds labels 6 (omega arith) (loads_add labels k (register_of j) 2 (offset_of from) ys (register_low j q) (omega arith))
  argument_adds from (place.Slot j) ys p q =
      then_adds labels (loads_add labels k 5 2 (offset_of from) _ (omega arith) (omega arith)) (stores_add labels k 5 3 (j * 4 + 80) ys (omega arith) (omega arith))

  arguments_add : (homes : List Place) (rs : List ℕ) (j : ℕ) (params : List Place) (ys : List Line) → All IsPlace homes → All IsPlace params → All (λ r. r < length homes) rs → j + length rs ≤ length params
      → Adding (length rs * 6) (arguments_lines homes rs j params ys) ys
  arguments_add homes [] j params ys p q within h = nothing labels k ys
  arguments_add homes (r ∷ rs) j params ys p q within h =
      more_adds labels (length (r ∷ rs) * 6) (omega arith)
      (then_adds labels
      (arguments_add homes rs (j + 1) params _ p q (All-tail (λ r. r < length homes) r rs within) (omega arith))
      (argument_adds (place_at homes r) (place_at params j) ys (place_is homes r (All-head (λ r. r < length homes) r rs within) p) (place_is params j (omega arith) q)))

  visit_adds : (label : ℕ) (ys : List Line) → label < labels.count → Adding 5 (visit_lines label ys) ys
  visit_adds label ys h =
      then_adds labels (move_adds labels k 2 3 _ (omega arith) (omega arith))
      (then_adds labels (far_adds labels k 1 label _ (omega arith) h)
      (then_adds labels (lui_adds labels k 3 4 _ (omega arith) (omega arith)) (reg_adds labels k Add 2 2 3 ys (omega arith) (omega arith) (omega arith))))

  result_adds : (homes : List Place) (target : Option ℕ) (ys : List Line) → All IsPlace homes → IfSome target (λ t. t < length homes) → Adding 3 (result_lines homes target ys) ys
  result_adds homes None ys p h = more_adds labels 3 (omega arith) (nothing labels k ys)
  result_adds homes (Some t) ys p h = settle_adds labels k (place_at homes t) 10 ys (place_is homes t h p) (omega arith)

  pub call_adds : (homes : List Place) (marks : List Bool) (params : List Place) (label : ℕ) (rs : List ℕ) (at : Pos) (target : Option ℕ) (ys : List Line)
      → All IsPlace homes → All IsPlace params → All (λ r. r < length homes) rs → length rs ≤ length params → label < labels.count → IfSome target (λ t. t < length homes)
      → Adding (64 + 8 * length rs) (call_lines homes marks params label rs at (result_lines homes target ys)) ys
  call_adds homes marks params label rs at target ys p q within enough below h =
      more_adds labels (64 + 8 * length rs) (omega arith)
      (then_adds labels (saves_add (is_saved homes marks rs) 16 0 _ (omega arith))
      (then_adds labels (depth_adds at _)
      (then_adds labels (arguments_add homes rs 0 params _ p q within (omega arith))
      (then_adds labels (visit_adds label _ below)
      (then_adds labels (restores_add (λ j. is_kept_home j homes marks) 16 0 _ (omega arith)) (result_adds homes target ys p h))))))
