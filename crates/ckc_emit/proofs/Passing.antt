-- Arguments go from the frame of the caller to the homes of the parameters, in registers and in the frame below.
use Rattle.std.proofs.Common.{◌≡◌, ◌≢◌, inl, inr, ℕ, suc, ◌+◌, ◌*◌, ◌%◌, ◌^◌, ◌≤◌, ◌<◌, List, [], ◌∷◌, ◌++◌, length, Some, refl, sym, ap, subst, ◌∙◌, arith}
use Rattle.std.specs.Prelude.{All}
use Rattle.std.proofs.lemmas.Bool.{cases_eq}
use Rattle.ckc_base.specs.Activations.{Values, with_written}
use Rattle.ckc_rv.specs.Machine.{stack_start, memory_end}
use Rattle.ckc_rv.specs.Detailed.{MachineEvent, Wrote}
use Rattle.ckc_asm_lines.specs.declared.lines.Line.{Line}
use Rattle.ckc_frame.specs.declared.code.Place.{Place}
use Rattle.ckc_frame.specs.declared.code.Place.TheVariants.{Reg, Slot}
use Rattle.ckc_frame.specs.Places.{number_of, home, entry_places}
use Rattle.ckc_frame.specs.WellFormed.{IsPlace}
use Rattle.ckc_emit.specs.code.Lines.{register_of, offset_of, store_lines}
use Rattle.ckc_emit.specs.code.CallLines.{place_at, argument_lines, arguments_lines}
use Rattle.ckc_emit.proofs.Local.{Local, changed, changed_same, changed_other}
use Rattle.ckc_emit.proofs.Paths.{Code, Path, stay, followed, loosened, Sets}
use Rattle.ckc_emit.proofs.FrameWords.{IsStackWord, load_sets, store_puts}
use Rattle.ckc_emit.proofs.PlaceAt.{home_is, place_is}
use Rattle.ckc_emit.proofs.Homes.{IsFramed, register_is, registers_apart, AreFrameStores}
use Rattle.ckc_emit.proofs.Tests.{some_same}
use Rattle.ckc_emit.proofs.Relation.{written_same, written_other}

-- the place has the value, in a register or in the frame at x3
abbrev pub HasBelow : Local → Place → ℕ → Type 0
HasBelow l (Reg k) v = l.x (register_of k) ≡ v
HasBelow l (Slot k) v = l.words (l.x 3 + (k * 4 + 80)) ≡ v

-- x3 is the frame below that at x2
pub record IsBelow (l : Local) : Type 0 where
  pub framed : IsFramed l
  pub next : l.x 3 + 16384 ≡ l.x 2
  pub low : stack_start ≤ l.x 3

-- what the passing of an argument keeps
pub record KeepsBoth (l m : Local) : Type 0 where
  pub zero : m.x 0 ≡ l.x 0
  pub frame : m.x 2 ≡ l.x 2
  pub below : m.x 3 ≡ l.x 3
  pub above : (a : ℕ) → l.x 2 ≤ a → m.words a ≡ l.words a

pub both_then : (l m n : Local) → KeepsBoth l m → KeepsBoth m n → KeepsBoth l n
both_then l m n p q = record {
  zero = q.zero ∙ p.zero;
  frame = q.frame ∙ p.frame;
  below = q.below ∙ p.below;
  above = λ a h. q.above a (subst (λ b. b ≤ a) (sym p.frame) h) ∙ p.above a h;
}

pub below_kept : (l m : Local) → IsBelow l → KeepsBoth l m → IsBelow m
below_kept l m f k = record {
  framed = record {
    zero = k.zero ∙ f.framed.zero;
    aligned = subst (λ b. b % 4 ≡ 0) (sym k.frame) f.framed.aligned;
    low = subst (λ b. stack_start ≤ b) (sym k.frame) f.framed.low;
    high = subst (λ b. b + 16384 ≤ memory_end) (sym k.frame) f.framed.high;
  };
  next = ap (λ b. b + 16384) k.below ∙ f.next ∙ sym k.frame;
  low = subst (λ b. stack_start ≤ b) (sym k.below) f.low;
}

offset_low : (p : Place) → IsPlace p → (offset_of p + 4 ≤ 16384) × (offset_of p % 4 ≡ 0)
offset_low (Reg k) h = (omega arith, omega arith)
offset_low (Slot k) h = (omega arith, omega arith)

module _ (c : Code) where
  from_word : (l : Local) (p : Place) → IsBelow l → IsPlace p → IsStackWord c (l.x 2 + offset_of p)
  from_word l p f h =
      let o = offset_low p h in
      let r = o.0 in
      let s = o.1 in
      let a = f.framed.aligned in
      let b = f.framed.low in
      let d = f.framed.high in
      record { aligned = omega arith; low = omega arith; high = omega arith }

  to_word : (l : Local) (k : ℕ) → IsBelow l → k < 4064 → IsStackWord c (l.x 3 + (k * 4 + 80))
  to_word l k f h =
      let a = f.framed.aligned in
      let b = f.low in
      let d = f.framed.high in
      let e = f.next in
      record { aligned = omega arith; low = omega arith; high = omega arith }

  -- On the way from xs to ys the place t of the frame below gets the value v.
  pub record PassesTo (least most : ℕ) (xs ys : List Line) (l : Local) (t : Place) (v : ℕ) : Type 0 where
    pub next : Local
    pub events : List MachineEvent
    pub path : Path c least most xs ys events l next
    pub stores : AreFrameStores (l.x 3) events
    pub keeps : KeepsBoth l next
    pub value : HasBelow next t v
    pub other : (q : Place) (w : ℕ) → IsPlace q → number_of q ≢ number_of t → HasBelow l q w → HasBelow next q w
    pub bytes : next.bytes ≡ l.bytes
    pub input : next.input ≡ l.input

  register_other : (a b : ℕ) (xs ys : List Line) (l : Local) (k v : ℕ) → k < 16 → (s : Sets c a b xs ys l (register_of k) v) → s.next.x 3 ≡ l.x 3
      → (q : Place) (w : ℕ) → IsPlace q → number_of q ≢ number_of (Reg k) → HasBelow l q w → HasBelow s.next q w
  register_other a b xs ys l k v h s three (Reg j) w p apart e =
      let i = register_is j p in
      let low = i.low in
      s.other (register_of j) (registers_apart k j h p apart) (omega arith) ∙ e
  register_other a b xs ys l k v h s three (Slot j) w p apart e =
      ap (λ (f : ℕ → ℕ). f (s.next.x 3 + (j * 4 + 80))) s.words ∙ ap (λ b. l.words (b + (j * 4 + 80))) three ∙ e

  slot_other : (l m n : Local) (k v : ℕ) → m.x 3 ≡ l.x 3 → n.x 3 ≡ l.x 3 → m.words ≡ l.words → n.words ≡ changed m.words (m.x 3 + (k * 4 + 80)) v → ((r : ℕ) → 8 ≤ r → n.x r ≡ l.x r)
      → (q : Place) (w : ℕ) → IsPlace q → number_of q ≢ number_of (Slot k) → HasBelow l q w → HasBelow n q w
  slot_other l m n k v em en ew ec regs (Reg j) w p apart e =
      let i = register_is j p in
      regs (register_of j) i.low ∙ e
  slot_other l m n k v em en ew ec regs (Slot j) w p apart e =
      let off : j ≢ k = λ same. apart (ap (λ x. 16 + x) same) in
      ap (λ (f : ℕ → ℕ). f (n.x 3 + (j * 4 + 80))) ec
      ∙ changed_other m.words (m.x 3 + (k * 4 + 80)) v (n.x 3 + (j * 4 + 80)) (λ same. off (let z : n.x 3 ≡ m.x 3 = en ∙ sym em in omega arith))
      ∙ ap (λ (f : ℕ → ℕ). f (n.x 3 + (j * 4 + 80))) ew ∙ ap (λ b. l.words (b + (j * 4 + 80))) en ∙ e

  -- one argument
  pub passes : (from to : Place) (v : ℕ) (rest : List Line) (l : Local) → IsBelow l → IsPlace from → IsPlace to → l.words (l.x 2 + offset_of from) ≡ v → v < 2 ^ 32
      → PassesTo 1 6 (argument_lines from to rest) rest l to v
  passes from (Reg k) v rest l f hf ht e fits =
      let i = register_is k ht in
      let low = i.low in
      let high = i.high in
      let o = offset_low from hf in
      let small = o.0 in
      let s = load_sets c (register_of k) 2 (offset_of from) v rest l (omega arith) (omega arith) (omega arith) (omega arith) (omega arith) (from_word l from f hf) e fits in
      let three = s.other 3 (omega arith) (omega arith) in
      record {
        next = s.next;
        events = [];
        path = loosened c 1 3 1 6 (argument_lines from (Reg k) rest) rest [] l s.next (omega arith) (omega arith) s.path;
        stores = tt;
        keeps = record {
          zero = s.other 0 (omega arith) (omega arith);
          frame = s.other 2 (omega arith) (omega arith);
          below = three;
          above = λ a h. ap (λ (g : ℕ → ℕ). g a) s.words;
        };
        value = s.value;
        other = register_other 1 3 (argument_lines from (Reg k) rest) rest l k v ht s three;
        bytes = s.bytes;
        input = s.input;
      }
  passes from (Slot k) v rest l f hf ht e fits =
      let o = offset_low from hf in
      let small = o.0 in
      let mid = store_lines 5 3 (k * 4 + 80) rest in
      let s = load_sets c 5 2 (offset_of from) v mid l (omega arith) (omega arith) (omega arith) (omega arith) (omega arith) (from_word l from f hf) e fits in
      let kept : KeepsBoth l s.next = record { zero = s.other 0 (omega arith) (omega arith); frame = s.other 2 (omega arith) (omega arith); below = s.other 3 (omega arith) (omega arith); above = λ a h. ap (λ (g : ℕ → ℕ). g a) s.words } in
      let after = below_kept l s.next f kept in
      let t = store_puts c 5 3 (k * 4 + 80) v rest s.next (omega arith) (omega arith) (omega arith) (omega arith) (omega arith) (to_word s.next k after ht) s.value in
      let w = s.next.x 3 + (k * 4 + 80) in
      let three : t.next.x 3 ≡ s.next.x 3 = t.other 3 (omega arith) in
      let up = after.next in
      record {
        next = t.next;
        events = Wrote w 4 (v % 256 ^ 4) ∷ [];
        path = loosened c (1 + 1) (3 + 3) 1 6 (argument_lines from (Slot k) rest) rest (Wrote w 4 (v % 256 ^ 4) ∷ []) l t.next (omega arith) (omega arith)
            (followed c 1 3 1 3 (argument_lines from (Slot k) rest) mid rest [] (Wrote w 4 (v % 256 ^ 4) ∷ []) l s.next t.next s.path t.path);
        stores = (subst (λ b. (b ≤ w) × (w + 4 ≤ b + 16384)) kept.below (omega arith, omega arith), tt);
        keeps = both_then l s.next t.next kept (record {
          zero = t.other 0 (omega arith);
          frame = t.other 2 (omega arith);
          below = three;
          above = λ a h. ap (λ (g : ℕ → ℕ). g a) t.words ∙ changed_other s.next.words w v a (omega arith);
        });
        value = ap (λ (g : ℕ → ℕ). g (t.next.x 3 + (k * 4 + 80))) t.words ∙ changed_same s.next.words w v (t.next.x 3 + (k * 4 + 80)) (ap (λ b. b + (k * 4 + 80)) three);
        other = slot_other l s.next t.next k v kept.below (three ∙ kept.below) s.words t.words (λ r h. t.other r (omega arith) ∙ s.other r (omega arith) (omega arith));
        bytes = t.bytes ∙ s.bytes;
        input = t.input ∙ s.input;
      }

  -- ---- all arguments

  -- the arguments have values in the frame of the caller, and each is a word
  abbrev pub HasArguments : Local → List Place → List ℕ → List ℕ → Type 0
  HasArguments l homes [] [] = Unit {0}
  HasArguments l homes [] (v ∷ vs) = ⊥
  HasArguments l homes (r ∷ rs) [] = ⊥
  HasArguments l homes (r ∷ rs) (v ∷ vs) =
      IsPlace (place_at homes r) × (l.words (l.x 2 + offset_of (place_at homes r)) ≡ v) × (v < 2 ^ 32) × HasArguments l homes rs vs

  -- On the way from xs to ys the places of the frame below get what the parameters from k on have at the entry.
  pub record PassesAll (count : ℕ) (xs ys : List Line) (l : Local) (params : List Place) (k : ℕ) (values : List ℕ) : Type 0 where
    pub next : Local
    pub events : List MachineEvent
    pub path : Path c 0 (count * 6) xs ys events l next
    pub stores : AreFrameStores (l.x 3) events
    pub keeps : KeepsBoth l next
    pub has : (q : Place) (w : ℕ) → IsPlace q → entry_places params k values (number_of q) ≡ Some w → HasBelow next q w
    pub word : (q : Place) (w : ℕ) → IsPlace q → entry_places params k values (number_of q) ≡ Some w → w < 2 ^ 32
    pub bytes : next.bytes ≡ l.bytes
    pub input : next.input ≡ l.input

  pub stores_join : (base : ℕ) (es fs : List MachineEvent) → AreFrameStores base es → AreFrameStores base fs → AreFrameStores base (es ++ fs)
  stores_join base [] fs h k = k
  stores_join base (e ∷ es) fs h k = (h.0, stores_join base es fs h.1 k)

  same_below : (q t : Place) (l : Local) (v : ℕ) → IsPlace q → IsPlace t → number_of q ≡ number_of t → HasBelow l t v → HasBelow l q v
  same_below (Reg j) (Reg k) l v h i e holds = subst (λ r. HasBelow l (Reg r) v) (sym e) holds
  same_below (Reg j) (Slot k) l v h i e holds = absurd (omega arith)
  same_below (Slot j) (Reg k) l v h i e holds = absurd (omega arith)
  same_below (Slot j) (Slot k) l v h i e holds =
      let f : k ≡ j = omega arith in
      subst (λ r. HasBelow l (Slot r) v) f holds

  none_has : (params : List Place) (k q w : ℕ) → entry_places params k [] q ≡ Some w → ⊥
  unfolding entry_places
  none_has params k q w e = cc

  entry_step : (params : List Place) (k v : ℕ) (vs : List ℕ) → entry_places params k (v ∷ vs) ≡ with_written (entry_places params (k + 1) vs) (home params k) v
  unfolding entry_places
  entry_step params k v vs = refl

  arguments_kept : (l m : Local) (homes : List Place) (rs vs : List ℕ) → KeepsBoth l m → HasArguments l homes rs vs → HasArguments m homes rs vs
  arguments_kept l m homes [] [] k h = tt
  arguments_kept l m homes [] (v ∷ vs) k h = absurd h
  arguments_kept l m homes (r ∷ rs) [] k h = absurd h
  arguments_kept l m homes (r ∷ rs) (v ∷ vs) k h = (
    h.0,
    ap (λ b. m.words (b + offset_of (place_at homes r))) k.frame ∙ k.above (l.x 2 + offset_of (place_at homes r)) (omega arith) ∙ h.1,
    h.2,
    arguments_kept l m homes rs vs k h.3,
  )

  pub passes_all : (homes params : List Place) (rs vs : List ℕ) (k : ℕ) (rest : List Line) (l : Local) → k + length rs ≤ length params → All IsPlace params → IsBelow l
      → HasArguments l homes rs vs → PassesAll (length rs) (arguments_lines homes rs k params rest) rest l params k vs
  passes_all homes params [] [] k rest l few good f h = record {
    next = l;
    events = [];
    path = stay c rest l;
    stores = tt;
    keeps = record { zero = refl; frame = refl; below = refl; above = λ a i. refl };
    has = λ q w i e. absurd (none_has params k (number_of q) w e);
    word = λ q w i e. absurd (none_has params k (number_of q) w e);
    bytes = refl;
    input = refl;
  }
  passes_all homes params [] (v ∷ vs) k rest l few good f h = absurd h
  passes_all homes params (r ∷ rs) [] k rest l few good f h = absurd h
  passes_all homes params (r ∷ rs) (v ∷ vs) k rest l few good f h =
      let from = place_at homes r in
      let to = place_at params k in
      let mid = argument_lines from to rest in
      let t = passes_all homes params rs vs (k + 1) mid l (omega arith) good f h.3 in
      let after = below_kept l t.next f t.keeps in
      let still : t.next.words (t.next.x 2 + offset_of from) ≡ v = ap (λ b. t.next.words (b + offset_of from)) t.keeps.frame ∙ t.keeps.above (l.x 2 + offset_of from) (omega arith) ∙ h.1 in
      let ht = place_is params k (omega arith) good in
      let s = passes from to v rest t.next after h.0 ht still h.2 in
      let place : home params k ≡ number_of to = home_is params k (omega arith) in
      let step = entry_step params k v vs in
      record {
        next = s.next;
        events = t.events ++ s.events;
        path = loosened c (0 + 1) (length rs * 6 + 6) 0 (suc (length rs) * 6) (arguments_lines homes (r ∷ rs) k params rest) rest (t.events ++ s.events) l s.next (omega arith) (omega arith)
            (followed c 0 (length rs * 6) 1 6 (arguments_lines homes (r ∷ rs) k params rest) mid rest t.events s.events l t.next s.next t.path s.path);
        stores = stores_join (l.x 3) t.events s.events t.stores (subst (λ b. AreFrameStores b s.events) t.keeps.below s.stores);
        keeps = both_then l t.next s.next t.keeps s.keeps;
        has = λ q w i e.
            let g : with_written (entry_places params (k + 1) vs) (number_of to) v (number_of q) ≡ Some w =
            ap (λ n. with_written (entry_places params (k + 1) vs) n v (number_of q)) (sym place) ∙ ap (λ (z : Values). z (number_of q)) (sym step) ∙ e in
            elim (cases_eq (number_of q) (number_of to)) as (λ _. HasBelow s.next q w) [
              | inl same ↦ subst (HasBelow s.next q) (some_same v w (sym (written_same (entry_places params (k + 1) vs) (number_of to) v (number_of q) same) ∙ g)) (same_below q to s.next v i ht same s.value)
              | inr apart ↦ s.other q w i apart (t.has q w i (sym (written_other (entry_places params (k + 1) vs) (number_of to) v (number_of q) apart) ∙ g))
            ];
        word = λ q w i e.
            let g : with_written (entry_places params (k + 1) vs) (number_of to) v (number_of q) ≡ Some w =
            ap (λ n. with_written (entry_places params (k + 1) vs) n v (number_of q)) (sym place) ∙ ap (λ (z : Values). z (number_of q)) (sym step) ∙ e in
            elim (cases_eq (number_of q) (number_of to)) as (λ _. w < 2 ^ 32) [
              | inl same ↦ subst (λ x. x < 2 ^ 32) (some_same v w (sym (written_same (entry_places params (k + 1) vs) (number_of to) v (number_of q) same) ∙ g)) h.2
              | inr apart ↦ t.word q w i (sym (written_other (entry_places params (k + 1) vs) (number_of to) v (number_of q) apart) ∙ g)
            ];
        bytes = s.bytes ∙ t.bytes;
        input = s.input ∙ t.input;
      }
