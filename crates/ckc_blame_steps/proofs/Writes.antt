-- Writes to objects of their own types are never stuck.
use Rattle.std.proofs.Common.{◌≡◌, refl, sym, ap, subst, ◌∙◌, ℕ, List, [], ◌∷◌}
use Rattle.std.specs.Prelude.{is_some, slice_set, Option, None, Some, IsSome, Ok}
use Rattle.ckc_base.specs.declared.arithmetic.Width.{Width}
use Rattle.ckc_base.specs.Memory.{kept_part}
use Rattle.ckc_types.specs.declared.types.Structs.{Structs}
use Rattle.ckc_typed.specs.declared.typed.Typed.{Typed}
use Rattle.ckc_source.specs.declared.outcome.Place.{Place}
use Rattle.ckc_source.specs.declared.outcome.Place.TheVariants as place
use Rattle.ckc_source.specs.Blocks.{Block, stored}
use Rattle.ckc_source.specs.Eval.{given}
use Rattle.ckc_source.specs.States.{State}
use Rattle.ckc_source.specs.Steps.{Write, with_blocks, writes, all_written}
use Rattle.ckc_blame_sound.specs.Cells.{AreSound}
use Rattle.ckc_blame_sound.specs.Writes.{IsCellWrite, AreCellWrites}
use Rattle.ckc_blame_sound.proofs.Apart.{cell_there}
use Rattle.ckc_blame_sound.proofs.KeptBlocks.{sound_after}
use Rattle.ckc_blame_sound.proofs.Stores.{store_some}
use Rattle.ckc_blame_sound.proofs.Written.{cell_after}

-- what writes leave as it is
pub record IsLeft (s t : State) : Type 0 where
  pub function : t.frame.function ≡ s.frame.function
  pub entry : t.frame.entry ≡ s.frame.entry
  pub work : t.frame.work ≡ s.frame.work
  pub callers : t.callers ≡ s.callers
  pub input : t.input ≡ s.input
  pub next : t.next ≡ s.next

left_on : (s t u : State) → IsLeft s t → IsLeft t u → IsLeft s u
left_on s t u g h = record {
  function = h.function ∙ g.function;
  entry = h.entry ∙ g.entry;
  work = h.work ∙ g.work;
  callers = h.callers ∙ g.callers;
  input = h.input ∙ g.input;
  next = h.next ∙ g.next;
}

still : (s : State) → IsLeft s s
still s = record { function = refl; entry = refl; work = refl; callers = refl; input = refl; next = refl }

-- a state in which something is written
pub record IsWrittenOnce (p : Typed) (to : Place) (n : ℕ) (s : State) : Type 0 where
  pub after : State
  pub is : writes to n s ≡ Ok after
  pub left : IsLeft s after
  pub sound : AreSound p after.blocks s.next
  pub cells : (ws : List Write) → AreCellWrites p.layout s.blocks ws → AreCellWrites p.layout after.blocks ws

cell_kept : (structs : Structs) (bs cs : List Block) (width : Width) (a n : ℕ) → stored width a n bs ≡ Some cs → (to : Place) (m : ℕ) → IsCellWrite structs bs to m → IsCellWrite structs cs to m
cell_kept structs bs cs width a n e place.Nowhere m h = tt
cell_kept structs bs cs width a n e (place.Local k w) m h = tt
cell_kept structs bs cs width a n e (place.Memory c w zero_alone) m h = (cell_after structs bs cs c w (is_some zero_alone) h.0 width a n e, h.1, h.2)

cells_kept : (structs : Structs) (bs cs : List Block) (width : Width) (a n : ℕ) → stored width a n bs ≡ Some cs → (ws : List Write) → AreCellWrites structs bs ws → AreCellWrites structs cs ws
unfolding AreCellWrites
cells_kept structs bs cs width a n e [] h = tt
cells_kept structs bs cs width a n e (w ∷ ws) h = (cell_kept structs bs cs width a n e w.0 w.1 h.0, cells_kept structs bs cs width a n e ws h.1)

pub once : (p : Typed) (to : Place) (n : ℕ) (s : State) → AreSound p s.blocks s.next → IsCellWrite p.layout s.blocks to n → IsWrittenOnce p to n s
once p place.Nowhere n s sound h = record { after = s; is = refl; left = still s; sound = sound; cells = λ ws h. h }
once p (place.Local x width) n s sound h = record {
  after = record s { frame = record s.frame { locals = slice_set s.frame.locals x (kept_part width n) } };
  is = refl;
  left = record { function = refl; entry = refl; work = refl; callers = refl; input = refl; next = refl };
  sound = sound;
  cells = λ ws h. h;
}
once p (place.Memory a width zero_alone) n s sound h =
    by (stored width a n s.blocks) refl (store_some width a n s.blocks (cell_there p s.blocks sound.memory.placed a width (is_some zero_alone) h.0))
  where
    by : (o : Option (List Block)) → stored width a n s.blocks ≡ o → IsSome o → IsWrittenOnce p (place.Memory a width zero_alone) n s
    by None is some = absurd (cc)
    by (Some bs) is some = record {
      after = record s { blocks = bs };
      is = ap (with_blocks s) is;
      left = record { function = refl; entry = refl; work = refl; callers = refl; input = refl; next = refl };
      sound = sound_after p s.blocks s.next a n width (is_some zero_alone) sound h.0 h.1 bs is;
      cells = cells_kept p.layout s.blocks bs width a n is;
    }

-- a state in which several things are written
pub record AreWrittenAll (ws : List Write) (s : State) : Type 0 where
  pub after : State
  pub is : all_written ws s ≡ Ok after
  pub left : IsLeft s after

pub all_come : (p : Typed) (ws : List Write) (s : State) → AreSound p s.blocks s.next → AreCellWrites p.layout s.blocks ws → AreWrittenAll ws s
unfolding AreCellWrites
all_come p [] s sound h = record { after = s; is = refl; left = still s }
all_come p (w ∷ ws) s sound h =
    let o = once p w.0 w.1 s sound h.0 in
    let r = all_come p ws o.after (subst (AreSound p o.after.blocks) (sym o.left.next) o.sound) (o.cells ws h.1) in
    record { after = r.after; is = ap (λ x. given x (all_written ws)) o.is ∙ r.is; left = left_on s o.after r.after o.left r.left }
