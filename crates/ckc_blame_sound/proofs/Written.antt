-- Several writes, one after another, as in a bundle.
use Rattle.std.proofs.Common.{◌≡◌, ◌≢◌, ⊎_elim, ℕ, ◌<◌, ◌^◌, List, [], ◌∷◌, ◌++◌, refl, sym, ◌∙◌, ap, subst}
use Rattle.std.specs.Prelude.{Bool, true, false, slice_get, slice_set, is_some, Option, Some, None, Ok}
use Rattle.std.specs.Option.{option_map}
use Rattle.std.proofs.lemmas.Option.{slice_get-map}
use Rattle.ckc_base.specs.declared.arithmetic.Width.{Width}
use Rattle.ckc_base.specs.declared.places.Pos.{Pos}
use Rattle.ckc_base.specs.Memory.{kept_part}
use Rattle.ckc_types.specs.declared.types.Structs.{Structs}
use Rattle.ckc_typed.specs.declared.typed.Typed.{Typed}
use Rattle.ckc_source.specs.declared.outcome.Place.{Place}
use Rattle.ckc_source.specs.declared.outcome.Place.TheVariants as place
use Rattle.ckc_source.specs.Blocks.{Block, has, changed, loaded, stored}
use Rattle.ckc_source.specs.declared.expr.Pointee.{Pointee}
use Rattle.ckc_source.specs.declared.program.Shape.{Shape}
use Rattle.ckc_source.specs.Runs.{is_true}
use Rattle.ckc_source.specs.States.{State}
use Rattle.ckc_source.specs.Steps.{Write, writes, with_blocks, all_written}
use Rattle.ckc_blame_sound.specs.Cells.{IsCell, AreSound}
use Rattle.ckc_blame_sound.specs.Writes.{IsCellWrite, AreCellWrites, IsElsewhere, AreElsewhere}
use Rattle.ckc_blame_sound.proofs.Stores.{with_access, stored_parts, others_read, itself_read}
use Rattle.ckc_blame_sound.proofs.Truths.{true_after}
use Rattle.ckc_blame_sound.proofs.Apart.{AreLaid, cells_apart}
use Rattle.ckc_blame_sound.proofs.KeptBlocks.{sound_after}
use Rattle.ckc_blame_sound.proofs.Reached.{given_there}

-- ---- one store

pub laid : (p : Typed) (bs : List Block) (at : ℕ) → AreSound p bs at → AreLaid p bs
laid p bs at sound = record { low = 0; place = at; apart = sound.apart; placed = sound.memory.placed }

-- an object of an element is one after a store too
cell_with : (structs : Structs) (bs cs : List Block) (c : ℕ) (other : Width) (y : Bool) (cell : IsCell structs bs c other y) (width : Width) (a n : ℕ) (here : Bool)
    → slice_get cs cell.number ≡ Some (with_access width a n cell.block here) → IsCell structs cs c other y
cell_with structs bs cs c other y cell width a n true e = record {
  number = cell.number;
  block = with_access width a n cell.block true;
  there = e;
  index = cell.index;
  below = cell.below;
  offset = cell.offset;
  part = cell.part;
  address = cell.address;
  ends = cell.ends;
}
cell_with structs bs cs c other y cell width a n false e = record {
  number = cell.number;
  block = cell.block;
  there = e;
  index = cell.index;
  below = cell.below;
  offset = cell.offset;
  part = cell.part;
  address = cell.address;
  ends = cell.ends;
}

pub cell_after : (structs : Structs) (bs cs : List Block) (c : ℕ) (other : Width) (y : Bool) → IsCell structs bs c other y → (width : Width) (a n : ℕ)
    → stored width a n bs ≡ Some cs → IsCell structs cs c other y
cell_after structs bs cs c other y cell width a n e =
    let is = (stored_parts width a n bs cs e).1 in
    cell_with structs bs cs c other y cell width a n (has width a cell.block)
    (ap (λ xs. slice_get xs cell.number) is ∙ slice_get-map (changed width a n) bs cell.number ∙ ap (option_map (changed width a n)) cell.there)

-- an object that begins elsewhere reads as before
pub cell_read : (p : Typed) (bs cs : List Block) (at : ℕ) → AreSound p bs at → (a n : ℕ) (width : Width) (z : Bool) → IsCell p.layout bs a width z
    → stored width a n bs ≡ Some cs → (c : ℕ) (other : Width) (y : Bool) → IsCell p.layout bs c other y → a ≢ c → loaded other c cs ≡ loaded other c bs
cell_read p bs cs at sound a n width z cell e c other y second new =
    ⊎_elim
    (λ h. absurd (new h.0))
    (λ h. others_read width a n other c bs cs e h)
    (cells_apart p bs (laid p bs at sound) a width z c other y cell second)

-- a block after a store is as it was but for its bytes
same_with : (width : Width) (a n : ℕ) (c : Block) (here : Bool) → with_access width a n c here ≡ record c { bytes = (with_access width a n c here).bytes }
same_with width a n c true = refl
same_with width a n c false = refl

same_after : (width : Width) (a n : ℕ) (bs cs : List Block) → stored width a n bs ≡ Some cs → (k : ℕ) (b : Block) → slice_get cs k ≡ Some b
    → (c : Block) × (slice_get bs k ≡ Some c) × (b ≡ record c { bytes = b.bytes })
same_after width a n bs cs e k b h =
    let is = (stored_parts width a n bs cs e).1 in
    by (slice_get bs k) refl (sym (slice_get-map (changed width a n) bs k) ∙ sym (ap (λ xs. slice_get xs k) is) ∙ h)
  where
    by : (o : Option Block) → slice_get bs k ≡ o → option_map (changed width a n) o ≡ Some b → (c : Block) × (slice_get bs k ≡ Some c) × (b ≡ record c { bytes = b.bytes })
    by None f g = absurd cc
    by (Some c) f g =
        let same : changed width a n c ≡ b = cc in
        (c, f, subst (λ (x : Block). x ≡ record c { bytes = x.bytes }) same (same_with width a n c (has width a c)))

-- ---- one write

-- what a write leaves as it was
pub record Keeps (p : Typed) (at : ℕ) (to : Place) (n : ℕ) (s t : State) : Type 0 where
  pub sound : AreSound p t.blocks at
  pub cells : (c : ℕ) (other : Width) (y : Bool) → IsCell p.layout s.blocks c other y → IsCell p.layout t.blocks c other y
  pub others : (c : ℕ) (other : Width) (y : Bool) → IsCell p.layout s.blocks c other y → IsElsewhere c to → loaded other c t.blocks ≡ loaded other c s.blocks
  pub same : (k : ℕ) (b : Block) → slice_get t.blocks k ≡ Some b → (c : Block) × (slice_get s.blocks k ≡ Some c) × (b ≡ record c { bytes = b.bytes })
  pub truths : (shapes : List Shape) (to : Pointee) (i low high : ℕ) → is_true shapes t.blocks to i low high ≡ is_true shapes s.blocks to i low high

stays : (p : Typed) (at : ℕ) (to : Place) (n : ℕ) (s t : State) → AreSound p s.blocks at → s.blocks ≡ t.blocks → Keeps p at to n s t
stays p at to n s t sound e = record {
  sound = subst (λ bs. AreSound p bs at) e sound;
  cells = λ c other y h. subst (λ bs. IsCell p.layout bs c other y) e h;
  others = λ c other y h new. ap (loaded other c) (sym e);
  same = λ k b h. (b, ap (λ bs. slice_get bs k) e ∙ h, refl);
  truths = λ shapes to i low high. ap (λ bs. is_true shapes bs to i low high) (sym e);
}

pub writes_keep : (p : Typed) (at : ℕ) (to : Place) (n : ℕ) (s t : State) → AreSound p s.blocks at → IsCellWrite p.layout s.blocks to n → writes to n s ≡ Ok t
    → Keeps p at to n s t
writes_keep p at place.Nowhere n s t sound w e =
    let same : s ≡ t = cc in stays p at place.Nowhere n s t sound (ap (λ (x : State). x.blocks) same)
writes_keep p at (place.Local x width) n s t sound w e =
    let same : record s { frame = record s.frame { locals = slice_set s.frame.locals x (kept_part width n) } } ≡ t = cc in
    stays p at (place.Local x width) n s t sound (ap (λ (x : State). x.blocks) same)
writes_keep p at (place.Memory a width zero_alone) n s t sound w e = by (stored width a n s.blocks) refl e
  where
    by : (o : Option (List Block)) → stored width a n s.blocks ≡ o → with_blocks s o ≡ Ok t → Keeps p at (place.Memory a width zero_alone) n s t
    by None f h = absurd cc
    by (Some cs) f h =
        let same : record s { blocks = cs } ≡ t = cc in
        subst (λ (x : State). Keeps p at (place.Memory a width zero_alone) n s x) same (record {
          sound = sound_after p s.blocks at a n width (is_some zero_alone) sound w.0 w.1 cs f;
          cells = λ c other y h. cell_after p.layout s.blocks cs c other y h width a n f;
          others = λ c other y h new. cell_read p s.blocks cs at sound a n width (is_some zero_alone) w.0 f c other y h new;
          same = λ k b h. same_after width a n s.blocks cs f k b h;
          truths = λ shapes to i low high.
              ap (λ bs. is_true shapes bs to i low high) (stored_parts width a n s.blocks cs f).1 ∙ true_after shapes s.blocks to i low high width a n;
        })

same_again : (b u c : Block) → b ≡ record u { bytes = b.bytes } → u ≡ record c { bytes = u.bytes } → b ≡ record c { bytes = b.bytes }
same_again b u c e f = e ∙ ap (λ (x : Block). record x { bytes = b.bytes }) f

-- ---- several writes

writes_after : (structs : Structs) (bs cs : List Block) (ws : List Write)
    → ((c : ℕ) (other : Width) (y : Bool) → IsCell structs bs c other y → IsCell structs cs c other y)
    → AreCellWrites structs bs ws → AreCellWrites structs cs ws
unfolding AreCellWrites
writes_after structs bs cs [] cells h = tt
writes_after structs bs cs (w ∷ ws) cells h = (by w.0 h.0, writes_after structs bs cs ws cells h.1)
  where
    by : (to : Place) → IsCellWrite structs bs to w.1 → IsCellWrite structs cs to w.1
    by place.Nowhere h = tt
    by (place.Local x width) h = tt
    by (place.Memory a width zero_alone) h = (cells a width (is_some zero_alone) h.0, h.1, h.2)

-- what several writes leave as it was
pub record KeepsAll (p : Typed) (at : ℕ) (ws : List Write) (s t : State) : Type 0 where
  pub sound : AreSound p t.blocks at
  pub cells : (c : ℕ) (other : Width) (y : Bool) → IsCell p.layout s.blocks c other y → IsCell p.layout t.blocks c other y
  pub others : (c : ℕ) (other : Width) (y : Bool) → IsCell p.layout s.blocks c other y → AreElsewhere c ws → loaded other c t.blocks ≡ loaded other c s.blocks
  pub same : (k : ℕ) (b : Block) → slice_get t.blocks k ≡ Some b → (c : Block) × (slice_get s.blocks k ≡ Some c) × (b ≡ record c { bytes = b.bytes })
  pub truths : (shapes : List Shape) (to : Pointee) (i low high : ℕ) → is_true shapes t.blocks to i low high ≡ is_true shapes s.blocks to i low high

pub all_keep : (p : Typed) (at : ℕ) (ws : List Write) (s t : State) → AreSound p s.blocks at → AreCellWrites p.layout s.blocks ws
    → all_written ws s ≡ Ok t → KeepsAll p at ws s t
unfolding AreCellWrites AreElsewhere
all_keep p at [] s t sound h e =
    let same : s ≡ t = cc in
    subst (λ (x : State). KeepsAll p at [] s x) same (record { sound = sound; cells = λ c other y k. k; others = λ c other y k new. refl; same = λ k b h. (b, h, refl); truths = λ shapes to i low high. refl })
all_keep p at (w ∷ ws) s t sound h e =
    let g = given_there (writes w.0 w.1 s) (all_written ws) t e in
    let u = g.0 in
    let one = writes_keep p at w.0 w.1 s u sound h.0 g.1 in
    let rest = all_keep p at ws u t one.sound (writes_after p.layout s.blocks u.blocks ws one.cells h.1) g.2 in
    record {
      sound = rest.sound;
      cells = λ c other y k. rest.cells c other y (one.cells c other y k);
      others = λ c other y k new. rest.others c other y (one.cells c other y k) new.1 ∙ one.others c other y k new.0;
      same = λ k b f.
          let later = rest.same k b f in
          let first = one.same k later.0 later.1 in
          (first.0, first.1, same_again b later.0 first.0 later.2 first.2);
      truths = λ shapes to i low high. rest.truths shapes to i low high ∙ one.truths shapes to i low high;
    }

-- the number of an object to which no later write is
pub last_write : (p : Typed) (at : ℕ) (front back : List Write) (a n : ℕ) (width : Width) (zero_alone : Option Pos) (s t : State) → AreSound p s.blocks at
    → AreCellWrites p.layout s.blocks (front ++ (place.Memory a width zero_alone, n) ∷ back) → AreElsewhere a back
    → all_written (front ++ (place.Memory a width zero_alone, n) ∷ back) s ≡ Ok t → loaded width a t.blocks ≡ Some (kept_part width n)
unfolding AreCellWrites
last_write p at [] back a n width zero_alone s t sound h new e =
    let g = given_there (writes (place.Memory a width zero_alone) n s) (all_written back) t e in
    let u = g.0 in
    let one = writes_keep p at (place.Memory a width zero_alone) n s u sound h.0 g.1 in
    let rest = all_keep p at back u t one.sound (writes_after p.layout s.blocks u.blocks back one.cells h.1) g.2 in
    rest.others a width (is_some zero_alone) (one.cells a width (is_some zero_alone) h.0.0) new
    ∙ read (stored width a n s.blocks) refl u g.1 h.0.2
  where
    read : (o : Option (List Block)) → stored width a n s.blocks ≡ o → (u : State) → with_blocks s o ≡ Ok u → n < 2 ^ 32 → loaded width a u.blocks ≡ Some (kept_part width n)
    read None f u h l = absurd cc
    read (Some cs) f u h l =
        let same : cs ≡ u.blocks = cc in
        subst (λ bs. loaded width a bs ≡ Some (kept_part width n)) same (itself_read width a n s.blocks cs f l)
last_write p at (w ∷ front) back a n width zero_alone s t sound h new e =
    let later = front ++ (place.Memory a width zero_alone, n) ∷ back in
    let g = given_there (writes w.0 w.1 s) (all_written later) t e in
    let u = g.0 in
    let one = writes_keep p at w.0 w.1 s u sound h.0 g.1 in
    last_write p at front back a n width zero_alone u t one.sound (writes_after p.layout s.blocks u.blocks later one.cells h.1) new g.2
