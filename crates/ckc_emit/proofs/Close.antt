-- Near jumps and branches stand close to their labels.
use Rattle.std.proofs.Common.{◌≡◌, inl, inr, ℕ, zero, suc, ◌+◌, ◌≤◌, ◌<◌, if◌then◌else◌, true, List, [], ◌∷◌, ◌++◌, length, take, Some, refl, sym, ap, subst, ◌∙◌, arith}
use Rattle.std.specs.Prelude.{All, sum_by, count_by}
use Rattle.std.specs.List.{slice_get}
use Rattle.std.proofs.lemmas.List.{take-append-le}
use Rattle.std.proofs.lemmas.List.Elements.{All-weaker, All-head, All-tail}
use Rattle.std.proofs.lemmas.List.Sums.{sum_by-cons}
use Rattle.std.proofs.lemmas.Option.{slice_get_within}
use Rattle.std.proofs.lemmas.Bool.{cases_eq, cases_lt}
use Rattle.std.proofs.lemmas.Bool.Decides.{nat_tests}
use Rattle.ckc_asm_lines.specs.declared.lines.Line.{Line}
use Rattle.ckc_asm_lines.specs.declared.lines.Line.TheVariants.{Label, Plain, Jump, Branch, Far}
use Rattle.ckc_asm_lines.specs.Assembled.{size_of, offset_of, is_label}
use Rattle.ckc_asm_lines.proofs.PlaceTable.{offset_all}
use Rattle.ckc_emit.proofs.Pieces.{Labels, IsNearLabel, IsSound, Adds, nothing, then_adds, more_adds}

-- the label stands less than 4,096 bytes from the k-th line
pub record HasNear (lines : List Line) (k label : ℕ) : Type 0 where
  pub at : ℕ
  pub is : slice_get lines at ≡ Some (Label label)
  pub forth : offset_of lines at < offset_of lines k + 4096
  pub back : offset_of lines k < offset_of lines at + 4096

abbrev pub IsClose : List Line → ℕ → Line → Type 0
IsClose lines k (Label label) = Unit {0}
IsClose lines k (Plain i) = Unit {0}
IsClose lines k (Jump rd label) = HasNear lines k label
IsClose lines k (Branch op rs1 rs2 label) = HasNear lines k label
IsClose lines k (Far rd label) = Unit {0}

abbrev pub AreClose : List Line → Type 0
AreClose lines = (k : ℕ) (line : Line) → slice_get lines k ≡ Some line → IsClose lines k line

close_none : AreClose []
close_none k line e = absurd cc

-- ---- lines in front of others, and behind them

get_front : (xs ys : List Line) (k : ℕ) → k < length xs → slice_get (xs ++ ys) k ≡ slice_get xs k
get_front [] ys k h = absurd (omega arith)
get_front (x ∷ xs) ys zero h = refl
get_front (x ∷ xs) ys (suc k) h = get_front xs ys k (omega arith)

near_front : (xs ys : List Line) (k label : ℕ) → k ≤ length xs → HasNear xs k label → HasNear (xs ++ ys) k label
near_front xs ys k label h n =
    let same : (j : ℕ) → j ≤ length xs → offset_of (xs ++ ys) j ≡ offset_of xs j = λ j i. ap (sum_by size_of) (take-append-le j xs ys i) in
    let within = slice_get_within xs n.at (Label label) n.is in
    let there = same n.at (omega (arith, within)) in
    record {
      at = n.at;
      is = get_front xs ys n.at within ∙ n.is;
      forth = omega (arith, n.forth, same k h, there);
      back = omega (arith, n.back, same k h, there);
    }

close_front : (xs ys : List Line) (k : ℕ) (line : Line) → k ≤ length xs → IsClose xs k line → IsClose (xs ++ ys) k line
close_front xs ys k (Label label) h c = tt
close_front xs ys k (Plain i) h c = tt
close_front xs ys k (Jump rd label) h c = near_front xs ys k label h c
close_front xs ys k (Branch op rs1 rs2 label) h c = near_front xs ys k label h c
close_front xs ys k (Far rd label) h c = tt

offset_behind : (x : Line) (lines : List Line) (k : ℕ) → offset_of (x ∷ lines) (suc k) ≡ size_of x + offset_of lines k
offset_behind x lines k = sum_by-cons size_of x (take k lines)

near_behind : (x : Line) (lines : List Line) (k label : ℕ) → HasNear lines k label → HasNear (x ∷ lines) (suc k) label
near_behind x lines k label n = record {
  at = suc n.at;
  is = n.is;
  forth = omega (arith, n.forth, offset_behind x lines k, offset_behind x lines n.at);
  back = omega (arith, n.back, offset_behind x lines k, offset_behind x lines n.at);
}

close_after : (x : Line) (lines : List Line) (k : ℕ) (line : Line) → IsClose lines k line → IsClose (x ∷ lines) (suc k) line
close_after x lines k (Label label) c = tt
close_after x lines k (Plain i) c = tt
close_after x lines k (Jump rd label) c = near_behind x lines k label c
close_after x lines k (Branch op rs1 rs2 label) c = near_behind x lines k label c
close_after x lines k (Far rd label) c = tt

close_behind : (xs ys : List Line) (k : ℕ) (line : Line) → AreClose ys → length xs ≤ k → slice_get (xs ++ ys) k ≡ Some line → IsClose (xs ++ ys) k line
close_behind [] ys k line c h e = c k line e
close_behind (x ∷ xs) ys zero line c h e = absurd (omega arith)
close_behind (x ∷ xs) ys (suc k) line c h e = close_after x (xs ++ ys) k line (close_behind xs ys k line c (omega arith) e)

close_append : (xs ys : List Line) → AreClose xs → AreClose ys → AreClose (xs ++ ys)
close_append xs ys c d k line e = elim (cases_lt k (length xs)) as (λ _. IsClose (xs ++ ys) k line) [
  | inl h ↦ close_front xs ys k line (omega arith) (c k line (sym (get_front xs ys k h) ∙ e))
  | inr h ↦ close_behind xs ys k line d h e
]

-- ---- lines whose labels are all among them, and that are short

-- a label that is counted stands somewhere
label_place : (label : ℕ) (lines : List Line) → 1 ≤ count_by (is_label label) lines → (j : ℕ) × (slice_get lines j ≡ Some (Label label))
label_place label [] h = absurd (omega arith)
label_place label (Label other ∷ lines) h = elim (cases_eq label other) as (λ _. (j : ℕ) × (slice_get (Label other ∷ lines) j ≡ Some (Label label))) [
  | inl e ↦ (0, ap (λ n. Some (Label n)) (sym e))
  | inr apart ↦
      let none : ◌≡◌ {A = ℕ} (if is_label label (Label other) then 1 else 0) 0 = grind (arith, nat_tests) in
      let r = label_place label lines (omega (arith, h, none, sum_by-cons (λ x. if is_label label x then 1 else 0) (Label other) lines)) in
      (suc r.0, r.1)
]
label_place label (Plain i ∷ lines) h =
    let r = label_place label lines (omega (arith, h, sum_by-cons (λ x. if is_label label x then 1 else 0) (Plain i) lines)) in
    (suc r.0, r.1)
label_place label (Jump rd to ∷ lines) h =
    let r = label_place label lines (omega (arith, h, sum_by-cons (λ x. if is_label label x then 1 else 0) (Jump rd to) lines)) in
    (suc r.0, r.1)
label_place label (Branch op rs1 rs2 to ∷ lines) h =
    let r = label_place label lines (omega (arith, h, sum_by-cons (λ x. if is_label label x then 1 else 0) (Branch op rs1 rs2 to) lines)) in
    (suc r.0, r.1)
label_place label (Far rd to ∷ lines) h =
    let r = label_place label lines (omega (arith, h, sum_by-cons (λ x. if is_label label x then 1 else 0) (Far rd to) lines)) in
    (suc r.0, r.1)

pub sound_at : (labels : Labels) (lines : List Line) (k : ℕ) (line : Line) → All (IsSound labels) lines → slice_get lines k ≡ Some line → IsSound labels line
sound_at labels [] k line a e = absurd cc
sound_at labels (x ∷ xs) zero line a e = subst (IsSound labels) (let f : x ≡ line = cc in f) (All-head (IsSound labels) x xs a)
sound_at labels (x ∷ xs) (suc k) line a e = sound_at labels xs k line (All-tail (IsSound labels) x xs a) e

module _ (labels : Labels) (from to most : ℕ) (xs ys : List Line) (p : Adds labels from to most xs ys) (low : from ≤ labels.low) (high : labels.high ≤ to)
    (short : labels.near ≡ true → sum_by size_of p.front < 4096) where
  has_near : (k label : ℕ) → IsNearLabel labels label → HasNear p.front k label
  has_near k label s =
      let least = s.1 in
      let below = s.2 in
      let once = p.once label (omega (arith, least, low)) (omega (arith, below, high)) in
      let place = label_place label p.front (omega (arith, once)) in
      let small = short s.0 in
      record {
        at = place.0;
        is = place.1;
        forth = omega (arith, small, offset_all p.front place.0);
        back = omega (arith, small, offset_all p.front k);
      }

  is_close : (k : ℕ) (line : Line) → IsSound labels line → IsClose p.front k line
  is_close k (Label label) s = tt
  is_close k (Plain i) s = tt
  is_close k (Jump rd label) s = has_near k label s.1
  is_close k (Branch op rs1 rs2 label) s = has_near k label s.2
  is_close k (Far rd label) s = tt

  pub are_close : AreClose p.front
  are_close k line e = is_close k line (sound_at labels p.front k line p.sound e)

-- ---- functions side by side

-- every label may be near
abbrev pub all_near : ℕ → Labels
all_near count = record { count = count; near = true; low = 0; high = count }

-- The lines xs are sound lines in front of the lines ys, and near jumps and branches among them stand close to their labels.
pub record Joins (count from to most : ℕ) (xs ys : List Line) : Type 0 where
  pub adds : Adds (all_near count) from to most xs ys
  pub close : AreClose adds.front

sound_wider : (labels : Labels) (line : Line) → labels.high ≤ labels.count → IsSound labels line → IsSound (all_near labels.count) line
sound_wider labels (Label label) h s = tt
sound_wider labels (Plain i) h s = s
sound_wider labels (Jump rd label) h s =
    let below = s.1.2 in
    (s.0, (refl, omega arith, omega (arith, h, below)))
sound_wider labels (Branch op rs1 rs2 label) h s =
    let below = s.2.2 in
    (s.0, s.1, (refl, omega arith, omega (arith, h, below)))
sound_wider labels (Far rd label) h s = s

-- a function
pub joins : (labels : Labels) {from to most : ℕ} {xs ys : List Line} → (p : Adds labels from to most xs ys) → labels.high ≤ labels.count → from ≤ labels.low → labels.high ≤ to
    → (labels.near ≡ true → sum_by size_of p.front < 4096) → Joins labels.count from to most xs ys
joins labels {from} {to} {most} {xs} {ys} p few low high short = record {
  adds = record {
    front = p.front;
    is = p.is;
    sound = All-weaker (IsSound labels) (IsSound (all_near labels.count)) (λ line s. sound_wider labels line few s) p.front p.sound;
    ordered = p.ordered;
    once = p.once;
    never = p.never;
    size = p.size;
  };
  close = are_close labels from to most xs ys p low high short;
}

module _ (count : ℕ) where
  pub nothing_joins : (k : ℕ) (ys : List Line) → Joins count k k 0 ys ys
  unfolding nothing
  nothing_joins k ys = record { adds = nothing (all_near count) k ys; close = close_none }

  pub then_joins : {a b d x y : ℕ} {xs ys zs : List Line} → Joins count a b x xs ys → Joins count b d y ys zs → Joins count a d (x + y) xs zs
  unfolding then_adds
  then_joins p q = record {
    adds = then_adds (all_near count) p.adds q.adds;
    close = close_append p.adds.front q.adds.front p.close q.close;
  }

  pub more_joins : {a b x : ℕ} {xs ys : List Line} (y : ℕ) → x ≤ y → Joins count a b x xs ys → Joins count a b y xs ys
  unfolding more_adds
  more_joins y h p = record { adds = more_adds (all_near count) y h p.adds; close = p.close }

  -- the same labels, written otherwise
  pub numbered_joins : {a b d e x : ℕ} {xs ys : List Line} → a ≡ d → b ≡ e → Joins count a b x xs ys → Joins count d e x xs ys
  numbered_joins {a} {b} {d} {e} {x} {xs} {ys} from to p = subst (λ q. Joins count q e x xs ys) from (subst (λ q. Joins count a q x xs ys) to p)
