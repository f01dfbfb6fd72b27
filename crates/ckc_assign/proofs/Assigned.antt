-- Homes by ranges, and rows of live registers, place a function as it must be.
use Rattle.std.proofs.Common.{◌≡◌, ◌≢◌, ◌⊎◌, inl, inr, ⊎_elim, ℕ, ◌+◌, ◌≤◌, ◌<◌, Bool, true, false, List, [], ◌∷◌, ◌++◌, length, map, get_or, Option, Some, None, refl, sym, ap, subst, ◌∙◌, append_assoc, append-nil, arith}
use Rattle.std.specs.Prelude.{◌↔◌}
use Rattle.std.proofs.lemmas.Bool.{cases_eq}
use Rattle.std.proofs.lemmas.Option.{slice_get_within, get_or_from_slice_get}
use Rattle.std.proofs.lemmas.List.{length-append, get_or_at, map-append}
use Rattle.std.proofs.lemmas.List.Elements.{All-nil, All-push, All-weaker}
use Rattle.ckc_tac.specs.declared.code.TacBlock.{TacBlock}
use Rattle.ckc_tac.specs.declared.code.TacFunc.{TacFunc}
use Rattle.ckc_tac.specs.declared.code.TacOp.{TacOp}
use Rattle.ckc_flow.specs.Live.{IsLive, read_here, read_later, target_of, reads}
use Rattle.ckc_frame.specs.declared.code.Place.{Place}
use Rattle.ckc_frame.specs.declared.code.Place.TheVariants.{Slot}
use Rattle.ckc_frame.specs.declared.code.PlacedFunc.{PlacedFunc}
use Rattle.ckc_frame.specs.Places.{home, marks_of}
use Rattle.ckc_base.specs.Follows.{Follows}
use Rattle.ckc_tac.specs.declared.code.Tac.{Tac}
use Rattle.ckc_tac.specs.Meaning.{tac_detail}
use Rattle.ckc_tac.specs.Sizes.{program_size as tac_size}
use Rattle.ckc_tac.specs.WellFormed.{IsWellFormed as IsWellFormedTac}
use Rattle.ckc_frame.specs.declared.code.Placed.{Placed}
use Rattle.ckc_frame.specs.Meaning.{placed_detail}
use Rattle.ckc_frame.specs.WellFormed.{IsPlacedWhole, IsWellFormed, code_of, program_size}
use Rattle.ckc_assign.specs.declared.ranges.Range.{Range}
use Rattle.ckc_assign.specs.Apart.{IsPoint, HasOwnPlaces, KeepsLive}
use Rattle.ckc_assign.specs.Slots.{IsUsedAt, live_there, written_there, entered_there, IsInRange, UsesFewSlots}
use Rattle.ckc_assign.specs.code.Assigned.{IsAssigned, AreAssigned}
use Rattle.ckc_assign.specs.code.Homes.{home_of, BeginLate, IsFair, LieApart}
use Rattle.ckc_assign.specs.code.Kept.{AllKept}
use Rattle.ckc_assign.specs.code.Ranges.{Covers, range_of, no_op, first_place, SeesBlock, SeesAll}
use Rattle.ckc_assign.proofs.Follows.{follows_is}
use Rattle.ckc_assign.proofs.Calls.{row_at, length-all, long_all}

-- ---- what is live at a place of a block lies in its range there

module _ (f : TacFunc) (block : TacBlock) (place : ℕ) (old ranges : List Range) (s : SeesBlock f block place old ranges) where
  op_at : (front ops : List TacOp) (op : TacOp) → block.ops ≡ front ++ op ∷ ops → get_or block.ops (length front) no_op ≡ op
  op_at front ops op e = ap (λ l. get_or l (length front) no_op) e ∙ get_or_at front op ops no_op (length front) refl

  inside : (front ops : List TacOp) (op : TacOp) → block.ops ≡ front ++ op ∷ ops → length front < length block.ops
  inside front ops op e = let l = ap length e ∙ length-append front (op ∷ ops) in omega (arith, l)

  next : (front ops : List TacOp) (op : TacOp) → block.ops ≡ front ++ op ∷ ops → block.ops ≡ (front ++ op ∷ []) ++ ops
  next front ops op e = e ∙ sym (append_assoc front (op ∷ []) ops)

  next_length : (front : List TacOp) (op : TacOp) → length (front ++ op ∷ []) ≡ length front + 1
  next_length front op = length-append front (op ∷ [])

  pub written_covers : (front ops : List TacOp) (op : TacOp) (r : ℕ) → block.ops ≡ front ++ op ∷ ops → r < f.regs → target_of op ≡ Some r
      → Covers ranges r (place + length front + 1)
  written_covers front ops op r e h t =
      s.written (length front) r (inside front ops op e) h (subst (λ (o : TacOp). target_of o ≡ Some r) (sym (op_at front ops op e)) t)

  -- some place from there on is covered
  down : (ops front : List TacOp) (r : ℕ) → r < f.regs → block.ops ≡ front ++ ops → IsLive f.blocks r ops block.end
      → (p : ℕ) × (place + length front ≤ p) × Covers ranges r p
  down [] front r h e live =
      let l : length block.ops ≡ length front = ap length e ∙ ap length (append-nil front) in
      (place + length block.ops, omega arith, s.end r h live)
  down (op ∷ ops) front r h e (read_here read) =
      (place + length front, omega arith, s.read (length front) r (inside front ops op e) h (subst (λ (o : TacOp). reads r o ≡ true) (sym (op_at front ops op e)) read))
  down (op ∷ ops) front r h e (read_later apart live) =
      let (p, le, c) = down ops (front ++ op ∷ []) r h (next front ops op e) live in
      (p, (let n = next_length front op in omega arith), c)

  -- some place up to there is covered
  abbrev Up : List TacOp → List TacOp → Type 0
  Up front ops = (r : ℕ) → r < f.regs → IsLive f.blocks r ops block.end → (p : ℕ) × (p ≤ place + length front) × Covers ranges r p

  or_target : (t : Option ℕ) (r : ℕ) → (t ≡ Some r) ⊎ (t ≢ Some r)
  or_target None r = inr (λ e. absurd cc)
  or_target (Some t) r = ⊎_elim (λ (e : t ≡ r). inl (ap (λ q. Some q) e)) (λ (ne : t ≡ r → ⊥). inr (λ e. ne (let g : t ≡ r = cc in g))) (cases_eq t r)

  up_next : (front ops : List TacOp) (op : TacOp) → block.ops ≡ front ++ op ∷ ops → Up front (op ∷ ops) → Up (front ++ op ∷ []) ops
  up_next front ops op e u r h live = ⊎_elim
      (λ (t : target_of op ≡ Some r). (place + length front + 1, (let n = next_length front op in omega arith), written_covers front ops op r e h t))
      (λ (ne : target_of op ≢ Some r). let (p, le, c) = u r h (read_later ne live) in (p, (let n = next_length front op in omega arith), c))
      (or_target (target_of op) r)

  up_from : (rest before ops : List TacOp) → block.ops ≡ before ++ (rest ++ ops) → Up before (rest ++ ops) → Up (before ++ rest) ops
  up_from [] before ops e u = subst (λ l. Up l ops) (sym (append-nil before)) u
  up_from (op ∷ rest) before ops e u =
      subst (λ l. Up l ops) (append_assoc before (op ∷ []) rest)
      (up_from rest (before ++ op ∷ []) ops (next before (rest ++ ops) op e) (up_next before (rest ++ ops) op e u))

  up_all : Up [] block.ops
  up_all r h live = (place, omega arith, s.begin r h live)

  pub live_covers : (front ops : List TacOp) (r : ℕ) → r < f.regs → block.ops ≡ front ++ ops → IsLive f.blocks r ops block.end → Covers ranges r (place + length front)
  live_covers front ops r h e live =
      let (p, le, c) = up_from front [] ops e (subst (λ l. Up [] l) e up_all) r h live in
      let (q, ge, d) = down ops front r h e live in
      (omega (arith, c.0), omega (arith, d.1))

-- ---- the places of a range are those of the definition

used_late : (f : TacFunc) (r n : ℕ) → IsUsedAt f r n → 1 ≤ n
used_late f r n (live_there b block front ops at e live) = omega (arith, e)
used_late f r n (written_there b block front ops op at e t) = omega (arith, e)
used_late f r n (entered_there e param) = omega (arith, e)

pub begin_late : (f : TacFunc) (ranges : List Range) → SeesAll f ranges → BeginLate ranges
begin_late f ranges s r used = used_late f r (range_of ranges r).first (s.tight r used).0

in_range : (f : TacFunc) (ranges : List Range) → SeesAll f ranges → (p r : ℕ) → Covers ranges r p → IsInRange f p r
in_range f ranges s p r c =
    let ends = s.tight r (omega (arith, c.0, c.1)) in
    record {
      first = ((range_of ranges r).first, c.0, ends.0);
      last = ((range_of ranges r).last, c.1, ends.1);
    }

-- ---- a function

module _ (f : TacFunc) (ranges : List Range) (homes : List Place) (kept : List (List Bool)) (s : SeesAll f ranges) (l : LieApart ranges homes) (fair : (r : ℕ) → IsFair ranges homes r)
    (a : AllKept f f.blocks kept) where
  abbrev placed : PlacedFunc
  placed = record { code = f; homes = homes; kept = kept }

  there : (r : ℕ) → r < f.regs → r < length ranges
  there r h = omega (arith, s.long)

  apart_at : (r q p : ℕ) → r < f.regs → q < f.regs → r ≢ q → Covers ranges r p → Covers ranges q p → home homes r ≢ home homes q
  apart_at r q p h k ne c d = l.apart r q p (there r h) (there q k) ne c d

  live_at : (b : ℕ) (block : TacBlock) (front ops : List TacOp) (r : ℕ) → IsPoint f b block front ops → r < f.regs → IsLive f.blocks r ops block.end
      → Covers ranges r (first_place f b + length front)
  live_at b block front ops r at h live =
      let (old, m) = s.blocks b block (slice_get_within f.blocks b block at.there) at.there in
      live_covers f block (first_place f b) old ranges m front ops r h at.split live

  written_at : (b : ℕ) (block : TacBlock) (front ops : List TacOp) (op : TacOp) (t : ℕ) → IsPoint f b block front (op ∷ ops) → t < f.regs → target_of op ≡ Some t
      → Covers ranges t (first_place f b + length front + 1)
  written_at b block front ops op t at h e =
      let (old, m) = s.blocks b block (slice_get_within f.blocks b block at.there) at.there in
      written_covers f block (first_place f b) old ranges m front ops op t at.split h e

  behind_at : (b : ℕ) (block : TacBlock) (front ops : List TacOp) (op : TacOp) (r : ℕ) → IsPoint f b block front (op ∷ ops) → r < f.regs → IsLive f.blocks r ops block.end
      → Covers ranges r (first_place f b + length front + 1)
  behind_at b block front ops op r at h live =
      let n : first_place f b + length (front ++ op ∷ []) ≡ first_place f b + length front + 1 = (let m = length-append front (op ∷ []) in omega (arith, m)) in
      subst (Covers ranges r) n (live_at b block (front ++ op ∷ []) ops r (record { there = at.there; split = at.split ∙ sym (append_assoc front (op ∷ []) ops) }) h live)

  first_is : first_place f 0 ≡ 1
  first_is = omega arith

  pub are_apart : HasOwnPlaces placed
  are_apart = record {
    live = λ b block front ops r q at h k ne live too. apart_at r q (first_place f b + length front) h k ne (live_at b block front ops r at h live) (live_at b block front ops q at k too);
    written = λ b block front ops op t q at h k ne e live.
        apart_at t q (first_place f b + length front + 1) h k ne (written_at b block front ops op t at h e) (behind_at b block front ops op q at k live);
    entered = λ block r q e param h k ne live.
        let first = live_at 0 block [] block.ops q (record { there = e; split = refl }) k live in
        let n : first_place f 0 + length {A = TacOp} [] ≡ 1 = (let m = first_is in omega (arith, m)) in
        apart_at r q 1 h k ne (s.entered r h param) (subst (Covers ranges q) n first);
  }

  pub keeps_live : KeepsLive placed
  keeps_live = record {
    keeps = λ b block front ops target callee arguments at r here h.
        let found = row_at f f.blocks kept a b block front ops target callee arguments at here.there here.split in
        subst (λ (o : Option (List Bool)). (get_or (marks_of o) r false ≡ true) ↔ (IsLive f.blocks r ops block.end × (target ≢ Some r))) (sym found.1) (found.2.exact r h);
  }

  pub uses_few_slots : UsesFewSlots placed
  uses_few_slots r slot e =
      let at : home_of homes r ≡ Slot slot = get_or_from_slice_get homes r (Slot slot) (Slot 0) e in
      let low = slice_get_within homes r (Slot slot) e in
      let m = fair r slot (omega (arith, low, l.long)) at in
      record {
        place = m.place;
        here = in_range f ranges s m.place r m.here;
        others = m.others;
        many = m.many;
        distinct = m.distinct;
        meet = All-weaker (λ q. Covers ranges q m.place) (IsInRange f m.place) (in_range f ranges s m.place) m.others m.meet;
      }

  pub is_whole : IsPlacedWhole placed
  is_whole = record {
    homes = l.long ∙ s.long;
    places = l.places;
    calls = length-all f f.blocks kept a;
    marks = long_all f f.blocks kept a;
  }

pub assigned : (f code : TacFunc) (ranges : List Range) (homes : List Place) (kept : List (List Bool)) → code ≡ f → SeesAll f ranges → LieApart ranges homes
    → ((r : ℕ) → IsFair ranges homes r) → AllKept f f.blocks kept → IsAssigned f (record { code = code; homes = homes; kept = kept })
assigned f code ranges homes kept e s l fair a = subst (λ (g : TacFunc). IsAssigned f (record { code = g; homes = homes; kept = kept })) (sym e) (record {
  code = refl;
  whole = is_whole f ranges homes kept s l fair a;
  apart = are_apart f ranges homes kept s l fair a;
  keeps = keeps_live f ranges homes kept s l fair a;
  slots = uses_few_slots f ranges homes kept s l fair a;
})

-- ---- functions

pub none_assigned : AreAssigned [] []
none_assigned = record {
  code = refl;
  whole = All-nil IsPlacedWhole;
  apart = All-nil HasOwnPlaces;
  keeps = All-nil KeepsLive;
  slots = All-nil UsesFewSlots;
}

pub one_assigned : (fs : List TacFunc) (ps : List PlacedFunc) (f : TacFunc) (p : PlacedFunc) → AreAssigned fs ps → IsAssigned f p → AreAssigned (fs ++ f ∷ []) (ps ++ p ∷ [])
one_assigned fs ps f p a i = record {
  code = map-append (λ (q : PlacedFunc). q.code) ps (p ∷ []) ∙ ap (λ l. l ++ p.code ∷ []) a.code ∙ ap (λ (g : TacFunc). fs ++ g ∷ []) i.code;
  whole = All-push IsPlacedWhole ps p a.whole i.whole;
  apart = All-push HasOwnPlaces ps p a.apart i.apart;
  keeps = All-push KeepsLive ps p a.keeps i.keeps;
  slots = All-push UsesFewSlots ps p a.slots i.slots;
}

-- ---- the program

pub code_is : (t : Tac) (p : Placed) → p.initial ≡ t.initial → p.main ≡ t.main → AreAssigned t.funcs p.funcs → code_of p ≡ t
code_is t p e m a =
    ap (λ (i : List ℕ). let u : Tac = record { initial = i; funcs = map (λ (q : PlacedFunc). q.code) p.funcs; main = p.main } in u) e
    ∙ ap (λ (fs : List TacFunc). let u : Tac = record { initial = t.initial; funcs = fs; main = p.main } in u) a.code
    ∙ ap (λ (n : ℕ). let u : Tac = record { initial = t.initial; funcs = t.funcs; main = n } in u) m

pub whole_is : (t : Tac) (p : Placed) → code_of p ≡ t → IsWellFormedTac t → AreAssigned t.funcs p.funcs → IsWellFormed p
whole_is t p e w a = record {
  code = subst IsWellFormedTac (sym e) w;
  placed = a.whole;
}

pub follows_of : (t : Tac) (p : Placed) → code_of p ≡ t → IsWellFormedTac t → AreAssigned t.funcs p.funcs → (input : List ℕ) → Follows (tac_detail t input) (placed_detail p input) 1
follows_of t p e w a input =
    subst (λ (u : Tac). Follows (tac_detail u input) (placed_detail p input) 1) e (follows_is p (whole_is t p e w a) a.apart a.keeps input)

pub size_is : (t : Tac) (p : Placed) → code_of p ≡ t → program_size p ≡ tac_size t
size_is t p e = ap tac_size e
