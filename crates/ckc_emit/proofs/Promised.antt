-- What is promised of the parts that a program's lines are assembled to.
use Rattle.std.proofs.Common.{◌≡◌, ◌≤◌, ◌<◌, length, sym, subst, arith}
use Rattle.std.specs.Prelude.{All}
use Rattle.ckc_rv.specs.Machine.{Parts}
use Rattle.ckc_asm_lines.specs.Assembled.{Assembled}
use Rattle.ckc_frame.specs.declared.code.Placed.{Placed}
use Rattle.ckc_frame.specs.WellFormed.{IsWellFormed}
use Rattle.ckc_emit.specs.CodeSize.{code_size}
use Rattle.ckc_emit.specs.code.ProgramLines.{program_lines}
use Rattle.ckc_emit.specs.Promise.{FollowsPlaced, FollowsStores, ListsStores}
use Rattle.ckc_emit.proofs.Paths.{Code}
use Rattle.ckc_emit.proofs.Placing.{code_of}
use Rattle.ckc_emit.proofs.Standing.{Stands}
use Rattle.ckc_emit.proofs.Assembling.{program_size_within, start_at}
use Rattle.ckc_emit.proofs.BlocksStand.{assembled_stands}
use Rattle.ckc_emit.proofs.Follows.{follows_placed, follows_with_stores, lists_stores}

module _ (p : Placed) (well : IsWellFormed p) (fits : code_size p ≤ 4193280) (bytes : All (λ b. b < 256) p.initial) (parts : Parts)
    (built : Assembled (program_lines p) 0 p.initial parts.entry parts.code parts.initial) where
  abbrev c : Code
  c = code_of (program_lines p) parts

  entry_is : parts.entry ≡ 0x1000
  entry_is = start_at p well parts.entry built.starts

  code_fits : length parts.code ≤ 16773120
  code_fits = subst (λ n. n ≤ 16773120) (sym built.whole) (omega (arith, program_size_within p well))

  stands : Stands p.funcs c p.main
  stands = assembled_stands p well fits parts built

  pub promised_placed : FollowsPlaced p parts
  promised_placed = follows_placed p c well bytes code_fits entry_is built.same stands

  pub promised_stores : FollowsStores p parts
  promised_stores = follows_with_stores p c well bytes code_fits entry_is built.same stands

  pub promised_lists : ListsStores p parts
  promised_lists = lists_stores p c well bytes code_fits entry_is built.same stands
