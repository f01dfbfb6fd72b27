-- Blocks stay where they are: a step changes their bytes alone, and adds blocks behind them.
use Rattle.std.proofs.Common.{◌≡◌, ◌∙◌, refl, sym, ap, subst, ℕ, ◌+◌, ◌*◌, ◌/◌, ◌%◌, ◌^◌, ◌≤◌, Bool, true, false, List, [], ◌∷◌, ◌++◌, map, length, mul_comm, arith}
use Rattle.std.specs.Prelude.{All, ◌-◌, ◌&&◌, ◌||◌, if◌then◌else◌, nat_le, nat_lt}
use Rattle.std.specs.List.{list_any}
use Rattle.std.proofs.lemmas.Bool.{and_parts, leb-true}
use Rattle.std.proofs.lemmas.List.{length-replicate}
use Rattle.std.proofs.lemmas.List.Elements.{All-nil, All-cons, All-append, All-map, All-weaker}
use Rattle.ckc_base.specs.declared.arithmetic.Width.{Width}
use Rattle.ckc_base.specs.Memory.{data_end, heap_has_room, next_place, width_bytes}
use Rattle.ckc_source.specs.declared.expr.Pointee.{Pointee}
use Rattle.ckc_source.specs.Blocks.{Block, changed, end_of, first_place, fresh, has, is_aligned, lies_in, with_number}
use Rattle.ckc_source.proofs.Keeping.{length_with}
use Rattle.ckc_source_causes.specs.Layouts.{Layout}
use Rattle.ckc_source_causes.specs.Causes.{LiesInData}

-- a block with other bytes, as many
pub record IsSame (b c : Block) : Type 0 where
  pub base : c.base ≡ b.base
  pub element : c.element ≡ b.element
  pub size : c.size ≡ b.size
  pub count : c.count ≡ b.count
  pub terminated : c.terminated ≡ b.terminated
  pub is_run : c.is_run ≡ b.is_run
  pub many : length c.bytes ≡ length b.bytes

pub same_itself : (b : Block) → IsSame b b
same_itself b = record { base = refl; element = refl; size = refl; count = refl; terminated = refl; is_run = refl; many = refl }

pub same_again : (b c d : Block) → IsSame b c → IsSame c d → IsSame b d
same_again b c d h k = record {
  base = k.base ∙ h.base;
  element = k.element ∙ h.element;
  size = k.size ∙ h.size;
  count = k.count ∙ h.count;
  terminated = k.terminated ∙ h.terminated;
  is_run = k.is_run ∙ h.is_run;
  many = k.many ∙ h.many;
}

-- the first blocks of the second list are those of the first
abbrev pub AreKept : List Block → List Block → Type 0
AreKept [] cs = Unit {0}
AreKept (b ∷ bs) [] = ⊥
AreKept (b ∷ bs) (c ∷ cs) = IsSame b c × AreKept bs cs

pub kept_itself : (bs : List Block) → AreKept bs bs
kept_itself [] = tt
kept_itself (b ∷ bs) = (same_itself b, kept_itself bs)

pub kept_again : (bs cs ds : List Block) → AreKept bs cs → AreKept cs ds → AreKept bs ds
kept_again [] cs ds h k = tt
kept_again (b ∷ bs) [] ds h k = absurd h
kept_again (b ∷ bs) (c ∷ cs) [] h k = absurd k
kept_again (b ∷ bs) (c ∷ cs) (d ∷ ds) h k = (same_again b c d h.0 k.0, kept_again bs cs ds h.1 k.1)

pub kept_behind : (bs cs : List Block) → AreKept bs (bs ++ cs)
kept_behind [] cs = tt
kept_behind (b ∷ bs) cs = (same_itself b, kept_behind bs cs)

changed_same : (width : Width) (a n : ℕ) (b : Block) (here : Bool) → IsSame b (if here then record b { bytes = with_number width b.bytes (a - b.base) n } else b)
changed_same width a n b true = record {
  base = refl;
  element = refl;
  size = refl;
  count = refl;
  terminated = refl;
  is_run = refl;
  many = length_with width b.bytes (a - b.base) n;
}
changed_same width a n b false = same_itself b

pub kept_changed : (width : Width) (a n : ℕ) (bs : List Block) → AreKept bs (map (changed width a n) bs)
kept_changed width a n [] = tt
kept_changed width a n (b ∷ bs) = (changed_same width a n b (has width a b), kept_changed width a n bs)

-- ---- an access that lies in a block goes on to do so

has_same : (width : Width) (a : ℕ) (b c : Block) → IsSame b c → has width a c ≡ has width a b
has_same width a b c h =
    ap (λ (x : ℕ). nat_le x a && nat_le (a + width_bytes width) (x + length c.bytes)) h.base
    ∙ ap (λ (x : ℕ). nat_le b.base a && nat_le (a + width_bytes width) (b.base + x)) h.many

pub any_kept : (width : Width) (a : ℕ) (bs cs : List Block) → AreKept bs cs → list_any (has width a) bs ≡ true → list_any (has width a) cs ≡ true
any_kept width a [] cs h e = absurd cc
any_kept width a (b ∷ bs) [] h e = absurd h
any_kept width a (b ∷ bs) (c ∷ cs) h e = by (has width a b) (has width a c) (has_same width a b c h.0) (any_kept width a bs cs h.1) e
  where
    by : (x y : Bool) → y ≡ x → (list_any (has width a) bs ≡ true → list_any (has width a) cs ≡ true) → (x || list_any (has width a) bs) ≡ true → (y || list_any (has width a) cs) ≡ true
    by true true i more f = refl
    by true false i more f = absurd cc
    by false true i more f = refl
    by false false i more f = more f

pub lies_kept : (width : Width) (a : ℕ) (bs cs : List Block) → AreKept bs cs → lies_in width a bs ≡ true → lies_in width a cs ≡ true
lies_kept width a bs cs h e =
    let both = and_parts (is_aligned width a) (list_any (has width a) bs) e in
    ap (λ b. b && list_any (has width a) cs) both.0 ∙ any_kept width a bs cs h both.1

-- ---- blocks that lie in the data region go on to do so

-- all blocks lie there, and so will the next one, if there is room for it
pub record LieInData (l : Layout) (bs : List Block) (next : ℕ) : Type 0 where
  pub blocks : All (LiesInData l) bs
  pub first : first_place ≤ next
  pub at : next % 4 ≡ 0

same_data : (l : Layout) (b c : Block) → IsSame b c → LiesInData l b → LiesInData l c
same_data l b c h k = record {
  first = subst (λ (n : ℕ). first_place ≤ n) (sym h.base) k.first;
  at = subst (λ n. n % 4 ≡ 0) (sym h.base) k.at;
  below = subst (λ (n : ℕ). n ≤ data_end) (sym (ap (λ n. n + length c.bytes) h.base ∙ ap (λ n. b.base + n) h.many)) k.below;
  size = h.size ∙ k.size ∙ ap l.size (sym h.element);
}

pub data_changed : (l : Layout) (width : Width) (a n : ℕ) (bs : List Block) (next : ℕ) → LieInData l bs next → LieInData l (map (changed width a n) bs) next
data_changed l width a n bs next h = record {
  blocks = All-map (LiesInData l) (changed width a n) bs
      (All-weaker (LiesInData l) (λ b. LiesInData l (changed width a n b)) (λ b k. same_data l b (changed width a n b) (changed_same width a n b (has width a b)) k) bs h.blocks);
  first = h.first;
  at = h.at;
}

pub data_behind : (l : Layout) (to : Pointee) (count : ℕ) (bs : List Block) (next : ℕ) → to.size ≡ l.size to.element → heap_has_room next count to.size ≡ true → LieInData l bs next
    → LieInData l (bs ++ fresh to next count ∷ []) (next_place next count to.size)
data_behind l to count bs next size room h = record {
  blocks = All-append (LiesInData l) bs (fresh to next count ∷ []) h.blocks (All-cons (LiesInData l) (fresh to next count) [] (record { first = h.first; at = h.at; below = below; size = size }) (All-nil (LiesInData l)));
  first = let first = h.first in past next (count * to.size) first;
  at = even next (count * to.size);
}
  where
    below : end_of (fresh to next count) ≤ data_end
    below =
        let fits = leb-true (next + count * to.size) data_end (and_parts (nat_lt 0 count && nat_lt count (2 ^ 31)) (nat_le (next + count * to.size) data_end) room).1 in
        let many = length-replicate {A = ℕ} (to.size * count) 0 in
        let turned = mul_comm to.size count in
        omega arith

    past : (a k : ℕ) → first_place ≤ a → first_place ≤ (a + k + 15) / 8 * 8
    past a k h = omega arith

    even : (a k : ℕ) → ((a + k + 15) / 8 * 8) % 4 ≡ 0
    even a k = omega arith
