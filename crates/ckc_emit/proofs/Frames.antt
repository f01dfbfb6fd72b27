-- How whole states of placed code and of the machine that runs its lines belong together.
use Rattle.std.proofs.Common.{◌≡◌, ℕ, ◌+◌, ◌*◌, ◌^◌, ◌<◌, true, List, [], ◌∷◌, length, map, Some}
use Rattle.std.specs.Prelude.{All, IfSome}
use Rattle.std.specs.List.{slice_get}
use Rattle.ckc_rv.specs.Machine as machine
use Rattle.ckc_asm_lines.specs.declared.lines.Line.{Line}
use Rattle.ckc_asm_lines.specs.declared.lines.Line.TheVariants.{Label}
use Rattle.ckc_tac.specs.declared.code.TacBlock.{TacBlock}
use Rattle.ckc_tac.specs.WellFormed.{IsOpOver, IsEndOver}
use Rattle.ckc_frame.specs.declared.code.Place.{Place}
use Rattle.ckc_frame.specs.declared.code.PlacedFunc.{PlacedFunc}
use Rattle.ckc_frame.specs.Meaning.{Frame, Caller, State}
use Rattle.ckc_frame.specs.Places.{number_of, is_kept_home, marks_of}
use Rattle.ckc_frame.specs.WellFormed.{IsPlace, IsPlacedWhole}
use Rattle.ckc_emit.specs.code.Lines.{offset_of, ask_lines}
use Rattle.ckc_emit.specs.code.CallLines.{back_lines}
use Rattle.ckc_emit.specs.code.ProgramLines.{label_of, ops_lines, end_lines, is_near, is_turned}
use Rattle.ckc_emit.proofs.Local.{Local, state_of}
use Rattle.ckc_emit.proofs.Paths.{Code, LinesAt}
use Rattle.ckc_emit.proofs.Homes.{HasPlaces, IsFramed}
use Rattle.ckc_emit.proofs.Relation.{HasWorld}

module _ (functions : List PlacedFunc) (c : Code) where
  -- The function of a frame, the block after its own, and the lines after its own; if there is such a block, it
  -- begins with its label.
  pub record InFunction (frame : Frame) : Type 0 where
    pub index : ℕ
    pub is : slice_get functions index ≡ Some frame.function
    pub placed : IsPlacedWhole frame.function
    pub ops_over : All (IsOpOver (map (λ (f : PlacedFunc). f.code) functions) frame.function.code.regs) frame.ops
    pub end_over : IsEndOver (length frame.function.code.blocks) frame.function.code.regs frame.end
    pub next : ℕ
    pub behind : List Line
    pub falls : (block : TacBlock) → slice_get frame.function.code.blocks next ≡ Some block
        → (more : List Line) × (behind ≡ Label (label_of functions index + 1 + next) ∷ more)

  -- the lines of what a frame does next
  abbrev pub lines_of : (frame : Frame) → InFunction frame → List Line
  lines_of frame i =
      ops_lines functions frame.function frame.calls_before frame.ops
      (end_lines (is_near functions frame.function (label_of functions i.index)) (is_turned functions frame.function (label_of functions i.index)) functions frame.function (label_of functions i.index + 1) i.next frame.end i.behind)

  -- A caller waits for the call whose frame begins at an address: the return address there leads to its lines after
  -- the call, and its places are in its own frame, right above. Those of its machine registers that it still has are
  -- kept by the call.
  pub record IsWaiting (words : ℕ → ℕ) (base : ℕ) (caller : Caller) : Type 0 where
    pub at : InFunction caller.frame
    pub call : ℕ
    pub counted : caller.frame.calls_before ≡ call + 1
    pub target_over : IfSome caller.target (λ t. t < caller.frame.function.code.regs)
    pub back : LinesAt c (words base) (back_lines caller.frame.function.homes (marks_of (slice_get caller.frame.function.kept call)) caller.target (lines_of caller.frame at))
    pub short : words base < 2 ^ 32
    pub saved : (q : Place) (w : ℕ) → IsPlace q → caller.frame.places (number_of q) ≡ Some w → words (base + 16384 + offset_of q) ≡ w
    pub word : (q : Place) (w : ℕ) → IsPlace q → caller.frame.places (number_of q) ≡ Some w → w < 2 ^ 32
    pub kept : (k w : ℕ) → k < 16 → caller.frame.places k ≡ Some w
        → is_kept_home k caller.frame.function.homes (marks_of (slice_get caller.frame.function.kept call)) ≡ true

  -- the first call returns to the end of the program
  pub record IsFirst (words : ℕ → ℕ) (base : ℕ) : Type 0 where
    pub rest : List Line
    pub back : LinesAt c (words base) (ask_lines 0 rest)
    pub short : words base < 2 ^ 32

  -- the callers of the call whose frame begins at an address
  abbrev pub AreWaiting : (ℕ → ℕ) → ℕ → List Caller → Type 0
  AreWaiting words base [] = IsFirst words base
  AreWaiting words base (caller ∷ callers) = IsWaiting words base caller × AreWaiting words (base + 16384) callers

  -- The machine is where placed code is.
  pub record IsRelated (s : State) (l : Local) (pc : ℕ) : Type 0 where
    pub framed : IsFramed l
    pub depth : l.x 2 + 16384 * (length s.callers + 1) ≡ 0x04000000
    pub has : HasPlaces l s.frame.places
    pub world : HasWorld l s.world
    pub at : InFunction s.frame
    pub here : LinesAt c pc (lines_of s.frame at)
    pub callers : AreWaiting l.words (l.x 2) s.callers

  -- the same between a state of placed code and a state of the machine
  abbrev pub Relates : State → machine.State → Type 0
  Relates s t = (l : Local) × (pc : ℕ) × (t ≡ state_of c.parts l pc) × IsRelated s l pc
