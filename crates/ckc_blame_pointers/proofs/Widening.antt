-- A null-terminated range goes on behind an element at its end that is not zero.
use Rattle.std.proofs.Common.{◌≡◌, refl, sym, ap, subst, ◌∙◌, ℕ, zero, suc, Bool, true, false, List, [], ◌∷◌, arith}
use Rattle.std.specs.Prelude.{◌+◌, ◌-◌, ◌*◌, ◌%◌, ◌≢◌, ◌==◌, ◌<◌, ◌≤◌, ◌&&◌, ◌||◌, not, if◌then◌else◌, nat_lt, nat_le, length, slice_index, slice_get, Option, None, Some}
use Rattle.std.specs.List.{list_any}
use Rattle.std.proofs.lemmas.Bool.{and_parts, leb-true}
use Rattle.std.proofs.lemmas.Bool.Decides.{nat_tests}
use Rattle.std.proofs.Math.Nat.{add-mul-mod_self_left}
use Rattle.ckc_base.specs.declared.arithmetic.Width.{Width}
use Rattle.ckc_base.specs.declared.arithmetic.Width.TheVariants.{Byte, Word}
use Rattle.ckc_base.specs.Memory.{width_bytes}
use Rattle.ckc_types.specs.Same.{same_type}
use Rattle.ckc_typed.specs.declared.typed.Typed.{Typed}
use Rattle.ckc_typed.specs.Constants.{size_of}
use Rattle.ckc_typed.specs.Types.{is_integer}
use Rattle.ckc_source.specs.declared.expr.Pointee.{Pointee}
use Rattle.ckc_source.specs.declared.program.Shape.{Shape}
use Rattle.ckc_source.specs.Blocks.{Block, end_of, has, number_at, is_aligned, found, loaded}
use Rattle.ckc_source.specs.LaidOut.{AreApart}
use Rattle.ckc_source.specs.Runs.{is_within, is_in_block, is_in_member, member_runs, is_in, is_true}
use Rattle.ckc_build_values.specs.Kinds.{width_of}
use Rattle.ckc_blame_sound.specs.Sound.{IsTerminated, IsPlaced}
use Rattle.ckc_blame_sound.specs.Cells.{AreSound}
use Rattle.ckc_blame_sound.proofs.Apart.{base_from, placed_at}
use Rattle.ckc_blame_sound.proofs.Parts.{Lies, part_lies}
use Rattle.ckc_blame_sound.proofs.Places.{elements_between, fewer, element_between}
use Rattle.ckc_blame_sound.proofs.Ranges.{Within, within, some_of}
use Rattle.ckc_blame_sound.proofs.Same.{same_equal}
use Rattle.ckc_blame_pointers.proofs.Loads.{integer_part}

pub any_at : {X : Type 0} (p : X → Bool) (xs : List X) (k : ℕ) (x : X) → slice_get xs k ≡ Some x → p x ≡ true → list_any p xs ≡ true
any_at p [] k x e h = absurd (cc)
any_at p (y ∷ xs) zero x e h = let same : y ≡ x = cc in ap (λ b. b || list_any p xs) (ap p same ∙ h)
any_at p (y ∷ xs) (suc k) x e h = ap (λ b. p y || b) (any_at p xs k x e h) ∙ either (p y)
  where
    either : (b : Bool) → (b || true) ≡ true
    either true = refl
    either false = refl

-- ---- the block that a load reads

has_parts : (width : Width) (a : ℕ) (b : Block) → has width a b ≡ true → (b.base ≤ a) × (a + width_bytes width ≤ end_of b)
has_parts width a b h =
    let q = and_parts (nat_le b.base a) (nat_le (a + width_bytes width) (end_of b)) h in
    (leb-true b.base a q.0, leb-true (a + width_bytes width) (end_of b) q.1)

some_bytes : (width : Width) → 0 < width_bytes width
some_bytes Byte = omega arith
some_bytes Word = omega arith

-- Blocks lie apart, so a load reads in each block that has its access.
found_at : (width : Width) (a low place : ℕ) (bs : List Block) → AreApart low bs place → (k : ℕ) (b : Block) → slice_get bs k ≡ Some b → has width a b ≡ true
    → found width a bs ≡ Some (number_at width b.bytes (a - b.base))
unfolding found
found_at width a low place [] apart k b e h = absurd (cc)
found_at width a low place (c ∷ bs) apart zero b e h =
    let same : c ≡ b = cc in
    subst (λ (c : Block). (if has width a c then Some (number_at width c.bytes (a - c.base)) else found width a bs) ≡ Some (number_at width b.bytes (a - b.base))) (sym same)
    (ap (λ t. if t then Some (number_at width b.bytes (a - b.base)) else found width a bs) h)
found_at width a low place (c ∷ bs) apart (suc k) b e h = by (found_at width a (end_of c + 1) place bs apart.1 k b e h) (has width a c) refl
  where
    by : found width a bs ≡ Some (number_at width b.bytes (a - b.base)) → (t : Bool) → has width a c ≡ t
        → (if t then Some (number_at width c.bytes (a - c.base)) else found width a bs) ≡ Some (number_at width b.bytes (a - b.base))
    by later false n = later
    by later true n =
        let behind = base_from (end_of c + 1) bs place k b apart.1 e in
        let here = has_parts width a c n in
        let there = has_parts width a b h in
        let some = some_bytes width in
        absurd (omega (arith, here.1, there.0))

loaded_found : (width : Width) (a : ℕ) (bs : List Block) (m : ℕ) → loaded width a bs ≡ Some m → found width a bs ≡ Some m
loaded_found width a bs m e = by (is_aligned width a) e
  where
    by : (t : Bool) → (if t then found width a bs else None) ≡ Some m → found width a bs ≡ Some m
    by true e = e
    by false e = absurd (cc)

-- ---- the last element of a null-terminated block

zero_number : (width : Width) (bytes : List ℕ) (i : ℕ) → ((j : ℕ) → j < width_bytes width → slice_index bytes (i + j) ≡ 0) → number_at width bytes i ≡ 0
zero_number Byte bytes i h = let z : slice_index bytes (i + 0) ≡ 0 = h 0 (omega arith) in let same : i + 0 ≡ i = omega arith in sym (ap (slice_index bytes) same) ∙ z
zero_number Word bytes i h =
    let a : slice_index bytes (i + 0) ≡ 0 = h 0 (omega arith) in
    let same : i + 0 ≡ i = omega arith in
    let z : slice_index bytes i ≡ 0 = sym (ap (slice_index bytes) same) ∙ a in
    let b : slice_index bytes (i + 1) ≡ 0 = h 1 (omega arith) in
    let c : slice_index bytes (i + 2) ≡ 0 = h 2 (omega arith) in
    let d : slice_index bytes (i + 3) ≡ 0 = h 3 (omega arith) in
    omega arith

module _ (p : Typed) (bs : List Block) (next : ℕ) (sound : AreSound p bs next) (k : ℕ) (b : Block) (there : slice_get bs k ≡ Some b) (integer : is_integer b.element ≡ true) where
  abbrev width : Width
  width = width_of b.element

  placed : IsPlaced p b
  placed = placed_at p bs sound.memory.placed k b there

  -- what is read in the last element is zero
  last_zero : IsTerminated b → (m : ℕ) → loaded width (end_of b - b.size) bs ≡ Some m → m ≡ 0
  last_zero ends m e = from_some (number_at width b.bytes (end_of b - b.size - b.base)) m
      (sym (found_at width (end_of b - b.size) 0 next bs sound.apart k b there inside) ∙ loaded_found width (end_of b - b.size) bs m e)
      (zero_number width b.bytes (end_of b - b.size - b.base) (λ j less. ap (λ i. slice_index b.bytes (i + j)) begins ∙ ends.zero j (omega (arith, lies.within))))
    where
      lies : Lies b.size 0 width
      lies = subst (λ n. Lies n 0 width) (sym placed.size) (part_lies p.layout b.element 0 width (subst (λ n. 0 < n) placed.size placed.sized) (integer_part p.layout b.element integer))

      one_less : (n s : ℕ) → 0 < n → s * n ≡ s * (n - 1) + s
      one_less n s h = let up : n ≡ suc (n - 1) = omega arith in ap (λ x. s * x) up ∙ more (n - 1)
        where
          more : (x : ℕ) → s * suc x ≡ s * x + s
          more x = grind arith

      whole : end_of b ≡ b.base + (b.size * (b.count - 1) + b.size)
      whole = ap (λ n. b.base + n) (placed.whole ∙ one_less b.count b.size ends.some)

      begins : end_of b - b.size - b.base ≡ b.size * (b.count - 1)
      begins = let w = whole in omega arith

      inside : has width (end_of b - b.size) b ≡ true
      inside = test (omega (arith, whole)) (omega (arith, whole, lies.within))
        where
          test : b.base ≤ end_of b - b.size → end_of b - b.size + width_bytes width ≤ end_of b → has width (end_of b - b.size) b ≡ true
          test x y = grind (arith, nat_tests)

      from_some : (n m : ℕ) → ◌≡◌ {A = Option ℕ} (Some n) (Some m) → n ≡ 0 → m ≡ 0
      from_some n m e z = cc

-- ---- a longer range

one_more : (a s : ℕ) → (a + s) % s ≡ a % s
one_more a s = let e : a + s ≡ a + s * 1 = omega arith in ap (λ x. x % s) e ∙ add-mul-mod_self_left a s 1

all_true : {q0 q1 q2 q3 q4 q5 q6 : Bool} → q0 ≡ true → q1 ≡ true → q2 ≡ true → q3 ≡ true → q4 ≡ true → q5 ≡ true → q6 ≡ true → (q0 && q1 && q2 && q3 && q4 && q5 && q6) ≡ true
all_true {q0} {q1} {q2} {q3} {q4} {q5} {q6} a b c d e f g =
    ap (λ x. x && q1 && q2 && q3 && q4 && q5 && q6) a ∙ ap (λ x. x && q2 && q3 && q4 && q5 && q6) b ∙ ap (λ x. x && q3 && q4 && q5 && q6) c ∙ ap (λ x. x && q4 && q5 && q6) d
    ∙ ap (λ x. x && q5 && q6) e ∙ ap (λ x. x && q6) f ∙ g

-- what the test of a range in a run asks
pub within_tests : (begin end s n low high : ℕ) → 0 < s → begin ≤ low → low ≤ high → high ≤ end → low % s ≡ begin % s → high % s ≡ begin % s → n % s ≡ begin % s
    → is_within begin end s n low high ≡ true
within_tests begin end s n low high p0 p1 p2 p3 p4 p5 p6 =
    let t0 : nat_lt 0 s ≡ true = grind (arith, nat_tests) in
    let t1 : nat_le begin low ≡ true = grind (arith, nat_tests) in
    let t2 : nat_le low high ≡ true = grind (arith, nat_tests) in
    let t3 : nat_le high end ≡ true = grind (arith, nat_tests) in
    let t4 : (low % s == begin % s) ≡ true = grind (arith, nat_tests) in
    let t5 : (high % s == begin % s) ≡ true = grind (arith, nat_tests) in
    let t6 : (n % s == begin % s) ≡ true = grind (arith, nat_tests) in
    all_true t0 t1 t2 t3 t4 t5 t6

longer_within : (begin end s n low a : ℕ) → Within begin end s n low a → a + s ≤ end → is_within begin end s n low (a + s) ≡ true
longer_within begin end s n low a w h =
    within_tests begin end s n low (a + s) w.sized w.begins (omega (arith, w.ordered)) h w.low_even (one_more a s ∙ w.high_even) w.even

-- an element before the last one is followed by one
element_before : (s begin final a : ℕ) → begin ≤ a → a ≤ final → a % s ≡ begin % s → (i : ℕ) → final ≡ begin + i * s → (a ≢ final) → a + s ≤ final
element_before s begin final a h k e i is new =
    let j = elements_between s begin a h e in
    let at = j.1 in
    let less = fewer s j.0 i (omega (arith, at, is)) in
    let room = element_between s j.0 i less in
    omega (arith, at, is)

-- A true range that is null-terminated goes on where what is read at its end is not zero.
pub range_grows : (p : Typed) (shapes : List Shape) (bs : List Block) (next : ℕ) → AreSound p bs next → (to : Pointee) (n low a m : ℕ) → to.terminated ≡ true → is_integer to.element ≡ true
    → to.size ≡ size_of p.layout to.element → is_true shapes bs to n low a ≡ true → loaded (width_of to.element) a bs ≡ Some m → (m == 0) ≡ false
    → is_true shapes bs to n low (a + to.size) ≡ true
range_grows p shapes bs next sound to n low a m terminated integer sized true_there got some =
    let q = some_of (is_in shapes to n low a) bs true_there in
    any_at (is_in shapes to n low (a + to.size)) bs q.0 q.1 q.2 (in_block q.0 q.1 q.2 q.3)
  where
    -- the block of a null-terminated range
    in_block : (k : ℕ) (b : Block) → slice_get bs k ≡ Some b → is_in shapes to n low a b ≡ true → is_in shapes to n low (a + to.size) b ≡ true
    in_block k b there h =
        let s = and_parts b.is_run (is_in_block to n low a b || (not to.terminated && list_any (is_in_member to n low a b) (member_runs shapes b))) h in
        let r = whole (is_in_block to n low a b) (list_any (is_in_member to n low a b) (member_runs shapes b)) s.1 in
        let q = and_parts (same_type to.element b.element) (if b.terminated then is_within b.base (end_of b - b.size) to.size n low a else not to.terminated && is_within b.base (end_of b) to.size n low a) r in
        let t = block_terminated b.terminated (is_within b.base (end_of b - b.size) to.size n low a) (is_within b.base (end_of b) to.size n low a) q.1 in
        ap (λ x. x && (is_in_block to n low (a + to.size) b || (not to.terminated && list_any (is_in_member to n low (a + to.size) b) (member_runs shapes b)))) s.0
        ∙ ap (λ x. x || (not to.terminated && list_any (is_in_member to n low (a + to.size) b) (member_runs shapes b)))
        (ap (λ x. x && (if b.terminated then is_within b.base (end_of b - b.size) to.size n low (a + to.size) else not to.terminated && is_within b.base (end_of b) to.size n low (a + to.size))) q.0
        ∙ ap (λ x. if x then is_within b.base (end_of b - b.size) to.size n low (a + to.size) else not to.terminated && is_within b.base (end_of b) to.size n low (a + to.size)) t.0
        ∙ grown k b there (same_equal to.element b.element q.0) t.0 (within b.base (end_of b - b.size) to.size n low a t.1))
      where
        whole : (x y : Bool) → (x || (not to.terminated && y)) ≡ true → x ≡ true
        whole true y h = refl
        whole false y h = let no : (not to.terminated && y) ≡ false = ap (λ t. not t && y) terminated in absurd (cc)

        block_terminated : (t x y : Bool) → (if t then x else not to.terminated && y) ≡ true → (t ≡ true) × (x ≡ true)
        block_terminated true x y h = (refl, h)
        block_terminated false x y h = let no : (not to.terminated && y) ≡ false = ap (λ t. not t && y) terminated in absurd (cc)

        grown : (k : ℕ) (b : Block) → slice_get bs k ≡ Some b → to.element ≡ b.element → b.terminated ≡ true → Within b.base (end_of b - b.size) to.size n low a
            → is_within b.base (end_of b - b.size) to.size n low (a + to.size) ≡ true
        grown k b there same t w = longer_within b.base (end_of b - b.size) to.size n low a w
            (element_before to.size b.base (end_of b - b.size) a (omega (arith, w.begins, w.ordered)) w.ends w.high_even (b.count - 1) last not_last)
          where
            is : IsPlaced p b
            is = placed_at p bs sound.memory.placed k b there

            ends : IsTerminated b
            ends = is.terminated t

            size : to.size ≡ b.size
            size = sized ∙ ap (size_of p.layout) same ∙ sym is.size

            last : end_of b - b.size ≡ b.base + (b.count - 1) * to.size
            last = counted b.count b.size to.size ends.some size is.whole
              where
                counted : (c s u : ℕ) → 0 < c → u ≡ s → length b.bytes ≡ s * c → b.base + length b.bytes - s ≡ b.base + (c - 1) * u
                counted c s u h e l =
                    let up : c ≡ suc (c - 1) = omega arith in
                    let more : s * c ≡ (c - 1) * s + s = ap (λ x. s * x) up ∙ split (c - 1) in
                    let turn : (c - 1) * u ≡ (c - 1) * s = ap (λ x. (c - 1) * x) e in
                    omega arith
                  where
                    split : (x : ℕ) → s * suc x ≡ x * s + s
                    split x = grind arith

            not_last : a ≡ end_of b - b.size → ⊥
            not_last e =
                let z : m ≡ 0 = last_zero p bs next sound k b there (subst (λ t. is_integer t ≡ true) same integer) ends m
                (subst (λ t. loaded (width_of t) (end_of b - b.size) bs ≡ Some m) same (subst (λ x. loaded (width_of to.element) x bs ≡ Some m) e got)) in
                let zero_is : (m == 0) ≡ true = ap (λ x. x == 0) z in
                absurd (cc)
