-- How the states of placed code and of the machine that runs its lines belong together, within one function.
use Rattle.std.proofs.Common.{◌≡◌, ◌≢◌, ◌⊎◌, inl, inr, ℕ, ◌^◌, ◌≤◌, ◌<◌, ◌==◌, if◌then◌else◌, true, false, List, [], ◌∷◌, ◌++◌, Some, refl, sym, ap, subst, ◌∙◌, arith}
use Rattle.std.specs.Prelude.{flat_map}
use Rattle.std.proofs.lemmas.Bool.{cases_eq}
use Rattle.std.proofs.lemmas.Bool.Decides.{nat_tests}
use Rattle.ckc_base.specs.declared.arithmetic.Width.TheVariants.{Byte, Word}
use Rattle.ckc_base.specs.LongEvents.{LongEvent, Stored, data_events}
use Rattle.ckc_base.specs.Actions.{World}
use Rattle.ckc_base.specs.Activations.{Values, with_written}
use Rattle.ckc_base.specs.Memory as base
use Rattle.ckc_rv.specs.Machine.{stack_start}
use Rattle.ckc_rv.specs.Detailed.{MachineEvent, Outside, Wrote}
use Rattle.ckc_asm_lines.specs.declared.lines.Line.{Line}
use Rattle.ckc_frame.specs.declared.code.Place.{Place}
use Rattle.ckc_frame.specs.declared.code.Place.TheVariants.{Reg, Slot}
use Rattle.ckc_frame.specs.Places.{number_of}
use Rattle.ckc_frame.specs.WellFormed.{IsPlace}
use Rattle.ckc_emit.specs.Stores.{seen_events, data_store}
use Rattle.ckc_emit.proofs.Local.{Local}
use Rattle.ckc_emit.proofs.Paths.{Code, Path, loosened}
use Rattle.ckc_emit.proofs.Homes.{HasValue, HasPlaces, IsFramed, Keeps, IsFrameStore, AreFrameStores, Writes}
use Rattle.ckc_emit.proofs.Regions.{region}
use Rattle.ckc_emit.proofs.Tests.{some_same}

abbrev pub AreBytes : List ℕ → Type 0
AreBytes [] = Unit {0}
AreBytes (n ∷ rest) = (n < 256) × AreBytes rest

-- the data region and the input of the meaning are those of the machine, and both are bytes
pub record HasWorld (l : Local) (world : World) : Type 0 where
  pub memory : world.memory ≡ region l.bytes
  pub input : world.input ≡ l.input
  pub small : (q : ℕ) → l.bytes q < 256
  pub given : AreBytes l.input

-- an event of the machine while the frame at an address is the innermost: input, output, a store that is seen, or one
-- into the frame
abbrev pub IsAllowed : ℕ → MachineEvent → Type 0
IsAllowed frame (Outside event) = Unit {0}
IsAllowed frame (Wrote a count v) = IsFrameStore frame (Wrote a count v) ⊎ ((base.is_data a ≡ true) × ((count ≡ 1) ⊎ (count ≡ 4)))

abbrev pub AreAllowed : ℕ → List MachineEvent → Type 0
AreAllowed frame [] = Unit {0}
AreAllowed frame (event ∷ events) = IsAllowed frame event × AreAllowed frame events

-- On the way from xs to ys the machine does what an operation does: the same is seen, and afterwards it has the
-- places and the world of the meaning.
pub record Does (c : Code) (most : ℕ) (xs ys : List Line) (l : Local) (upper : List LongEvent) (places : Values) (world : World) : Type 0 where
  pub next : Local
  pub lower : List MachineEvent
  pub path : Path c 1 most xs ys lower l next
  pub seen : flat_map seen_events lower ≡ flat_map data_events upper
  pub allowed : AreAllowed (l.x 2) lower
  pub keeps : Keeps l next
  pub has : HasPlaces next places
  pub world_is : HasWorld next world

-- ---- frame stores are not seen

not_data : (a : ℕ) → stack_start ≤ a → base.is_data a ≡ false
not_data a h = grind (arith, nat_tests)

frame_unseen : (frame a count v : ℕ) → stack_start ≤ frame → frame ≤ a → data_store a count v ≡ []
frame_unseen frame a count v h k =
    ap (λ b. if b then (if count == 1 then Stored a Byte v ∷ [] else if count == 4 then Stored a Word v ∷ [] else []) else []) (not_data a (omega arith))

-- ---- places by number

same_place : (q t : Place) (l : Local) (v : ℕ) → IsPlace q → IsPlace t → number_of q ≡ number_of t → HasValue l t v → HasValue l q v
same_place (Reg j) (Reg k) l v h i e holds = subst (λ r. HasValue l (Reg r) v) (sym e) holds
same_place (Reg j) (Slot k) l v h i e holds = absurd (omega arith)
same_place (Slot j) (Reg k) l v h i e holds = absurd (omega arith)
same_place (Slot j) (Slot k) l v h i e holds =
    let f : k ≡ j = omega arith in
    subst (λ r. HasValue l (Slot r) v) f holds

pub written_same : (values : Values) (t v q : ℕ) → q ≡ t → with_written values t v q ≡ Some v
unfolding with_written
written_same values t v q e = grind (arith, nat_tests)

pub written_other : (values : Values) (t v q : ℕ) → q ≢ t → with_written values t v q ≡ values q
unfolding with_written
written_other values t v q e = grind (arith, nat_tests)

module _ (c : Code) where
  -- the places after one was written
  pub places_written : (a b : ℕ) (xs ys : List Line) (l : Local) (t : Place) (v : ℕ) (places : Values) → IsPlace t → v < 2 ^ 32 → HasPlaces l places
      → (m : Writes c a b xs ys l t v) → HasPlaces m.next (with_written places (number_of t) v)
  places_written a b xs ys l t v places ht fits p m = record {
    has = λ q w h e. elim (cases_eq (number_of q) (number_of t)) as (λ _. HasValue m.next q w) [
      | inl same ↦
          let f : v ≡ w = some_same v w (sym (written_same places (number_of t) v (number_of q) same) ∙ e) in
          subst (HasValue m.next q) f (same_place q t m.next v h ht same m.value)
      | inr apart ↦ m.other q w h apart (p.has q w h (sym (written_other places (number_of t) v (number_of q) apart) ∙ e))
    ];
    word = λ q w h e. elim (cases_eq (number_of q) (number_of t)) as (λ _. w < 2 ^ 32) [
      | inl same ↦
          let f : v ≡ w = some_same v w (sym (written_same places (number_of t) v (number_of q) same) ∙ e) in
          omega arith
      | inr apart ↦ p.word q w h (sym (written_other places (number_of t) v (number_of q) apart) ∙ e)
    ];
  }

  pub unseen : (frame : ℕ) (events : List MachineEvent) → stack_start ≤ frame → AreFrameStores frame events → flat_map seen_events events ≡ []
  unseen frame [] h s = refl
  unseen frame (Outside event ∷ events) h s = absurd s.0
  unseen frame (Wrote a count v ∷ events) h s =
      ap (λ x. x ++ flat_map seen_events events) (frame_unseen frame a count v h s.0.0) ∙ unseen frame events h s.1

  stores_allowed : (frame : ℕ) (events : List MachineEvent) → AreFrameStores frame events → AreAllowed frame events
  stores_allowed frame [] s = tt
  stores_allowed frame (Outside event ∷ events) s = absurd s.0
  stores_allowed frame (Wrote a count v ∷ events) s = (inl s.0, stores_allowed frame events s.1)

  pub world_kept : (l m : Local) (world : World) → m.bytes ≡ l.bytes → m.input ≡ l.input → HasWorld l world → HasWorld m world
  world_kept l m world e f w = record {
    memory = w.memory ∙ ap region (sym e);
    input = w.input ∙ sym f;
    small = λ q. subst (λ (b : ℕ → ℕ). b q < 256) (sym e) (w.small q);
    given = subst AreBytes (sym f) w.given;
  }

  -- a place that is written, with nothing to be seen
  pub write_does : (most : ℕ) (xs ys : List Line) (l : Local) (t : Place) (v : ℕ) (places : Values) (world : World) → IsFramed l → IsPlace t → v < 2 ^ 32 → HasPlaces l places → HasWorld l world
      → Writes c 1 most xs ys l t v → Does c most xs ys l [] (with_written places (number_of t) v) world
  write_does most xs ys l t v places world f ht fits p w m = record {
    next = m.next;
    lower = m.events;
    path = m.path;
    seen = unseen (l.x 2) m.events f.low m.stores;
    allowed = stores_allowed (l.x 2) m.events m.stores;
    keeps = m.keeps;
    has = places_written 1 most xs ys l t v places ht fits p m;
    world_is = world_kept l m.next world m.bytes m.input w;
  }

  -- a bound may be higher
  pub does_loosened : (most more : ℕ) (xs rest : List Line) (l : Local) (upper : List LongEvent) (places : Values) (world : World) → most ≤ more
      → Does c most xs rest l upper places world → Does c more xs rest l upper places world
  does_loosened most more xs rest l upper places world h d = record {
    next = d.next;
    lower = d.lower;
    path = loosened c 1 most 1 more xs rest d.lower l d.next (omega arith) h d.path;
    seen = d.seen;
    allowed = d.allowed;
    keeps = d.keeps;
    has = d.has;
    world_is = d.world_is;
  }
