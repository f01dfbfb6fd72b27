-- A store changes the bytes of its access alone.
use Rattle.std.proofs.Common.{◌≡◌, ◌⊎◌, inl, inr, ℕ, ◌+◌, ◌-◌, ◌*◌, ◌/◌, ◌%◌, ◌≤◌, ◌<◌, ◌^◌, List, [], ◌∷◌, length, map, refl, sym, ◌∙◌, ap, subst, arith, length-set}
use Rattle.std.specs.Prelude.{Bool, true, false, ◌&&◌, ◌||◌, if◌then◌else◌, nat_le, slice_index, slice_set, Option, Some, None, IsSome}
use Rattle.std.proofs.lemmas.Bool.{leb-true, and_parts}
use Rattle.std.proofs.lemmas.List.{get_or-set_same, get_or-set_other}
use Rattle.ckc_base.specs.declared.arithmetic.Width.{Width}
use Rattle.ckc_base.specs.declared.arithmetic.Width.TheVariants.{Byte, Word}
use Rattle.ckc_base.specs.Memory.{width_bytes, kept_part}
use Rattle.std.specs.List.{list_any}
use Rattle.ckc_source.proofs.Keeping.{length_with}
use Rattle.ckc_source.specs.Blocks.{Block, end_of, has, number_at, with_number, is_aligned, found, loaded, lies_in, changed, stored}
use Rattle.ckc_blame_sound.specs.Cells.{AreDisjoint}

-- where an access lies in a block
pub inside : (width : Width) (a : ℕ) (b : Block) → has width a b ≡ true → (b.base ≤ a) × (a + width_bytes width ≤ end_of b)
inside width a b h =
    let p = and_parts (nat_le b.base a) (nat_le (a + width_bytes width) (end_of b)) h in
    (leb-true b.base a p.0, leb-true (a + width_bytes width) (end_of b) p.1)

-- ---- bytes

-- a byte before or after those that are written
pub byte_other : (width : Width) (bytes : List ℕ) (i n k : ℕ) → (k < i) ⊎ (i + width_bytes width ≤ k)
    → slice_index (with_number width bytes i n) k ≡ slice_index bytes k
byte_other Byte bytes i n k h = get_or-set_other bytes i k (n % 256) 0 (apart h)
  where
    apart : (k < i) ⊎ (i + 1 ≤ k) → (k ≡ i → ⊥)
    apart (inl h) e = omega arith
    apart (inr h) e = omega arith
byte_other Word bytes i n k h =
    let one = slice_set bytes i (n % 256) in
    let two = slice_set one (i + 1) (n / 256 % 256) in
    let three = slice_set two (i + 2) (n / 65536 % 256) in
    get_or-set_other three (i + 3) k (n / 16777216 % 256) 0 (apart 3 (omega arith) h)
    ∙ get_or-set_other two (i + 2) k (n / 65536 % 256) 0 (apart 2 (omega arith) h)
    ∙ get_or-set_other one (i + 1) k (n / 256 % 256) 0 (apart 1 (omega arith) h)
    ∙ get_or-set_other bytes i k (n % 256) 0 (first h)
  where
    apart : (d : ℕ) → d < 4 → (k < i) ⊎ (i + 4 ≤ k) → (k ≡ i + d → ⊥)
    apart d l (inl h) e = omega arith
    apart d l (inr h) e = omega arith

    first : (k < i) ⊎ (i + 4 ≤ k) → (k ≡ i → ⊥)
    first (inl h) e = omega arith
    first (inr h) e = omega arith

ahead : (i j k d e : ℕ) → k < e → (i + d ≤ j) ⊎ (j + e ≤ i) → (j + k < i) ⊎ (i + d ≤ j + k)
ahead i j k d e l (inl h) = inr (omega arith)
ahead i j k d e l (inr h) = inl (omega arith)

first_ahead : (i j d e : ℕ) → 0 < e → (i + d ≤ j) ⊎ (j + e ≤ i) → (j < i) ⊎ (i + d ≤ j)
first_ahead i j d e l (inl h) = inr h
first_ahead i j d e l (inr h) = inl (omega arith)

number_other : (width other : Width) (bytes : List ℕ) (i j n : ℕ) → AreDisjoint i width j other
    → number_at other (with_number width bytes i n) j ≡ number_at other bytes j
number_other width Byte bytes i j n h = byte_other width bytes i n j (first_ahead i j (width_bytes width) 1 (omega arith) h)
number_other width Word bytes i j n h =
    let zero = byte_other width bytes i n j (first_ahead i j (width_bytes width) 4 (omega arith) h) in
    let one = byte_other width bytes i n (j + 1) (ahead i j 1 (width_bytes width) 4 (omega arith) h) in
    let two = byte_other width bytes i n (j + 2) (ahead i j 2 (width_bytes width) 4 (omega arith) h) in
    let three = byte_other width bytes i n (j + 3) (ahead i j 3 (width_bytes width) 4 (omega arith) h) in
    rw (zero, one, two, three) refl

whole_again : (n : ℕ) → n < 2 ^ 32 → n % 256 + 256 * (n / 256 % 256 + 256 * (n / 65536 % 256 + 256 * (n / 16777216 % 256))) ≡ n
whole_again n h = omega arith

number_same : (width : Width) (bytes : List ℕ) (i n : ℕ) → i + width_bytes width ≤ length bytes → n < 2 ^ 32
    → number_at width (with_number width bytes i n) i ≡ kept_part width n
number_same Byte bytes i n h l = get_or-set_same bytes i (n % 256) 0 (omega arith)
number_same Word bytes i n h l =
    let one = slice_set bytes i (n % 256) in
    let two = slice_set one (i + 1) (n / 256 % 256) in
    let three = slice_set two (i + 2) (n / 65536 % 256) in
    let long1 : length one ≡ length bytes = length-set bytes i (n % 256) in
    let long2 : length two ≡ length one = length-set one (i + 1) (n / 256 % 256) in
    let long3 : length three ≡ length two = length-set two (i + 2) (n / 65536 % 256) in
    let a = get_or-set_other three (i + 3) i (n / 16777216 % 256) 0 (λ e. omega arith)
    ∙ get_or-set_other two (i + 2) i (n / 65536 % 256) 0 (λ e. omega arith)
    ∙ get_or-set_other one (i + 1) i (n / 256 % 256) 0 (λ e. omega arith)
    ∙ get_or-set_same bytes i (n % 256) 0 (omega arith) in
    let b = get_or-set_other three (i + 3) (i + 1) (n / 16777216 % 256) 0 (λ e. omega arith)
    ∙ get_or-set_other two (i + 2) (i + 1) (n / 65536 % 256) 0 (λ e. omega arith)
    ∙ get_or-set_same one (i + 1) (n / 256 % 256) 0 (omega arith) in
    let c = get_or-set_other three (i + 3) (i + 2) (n / 16777216 % 256) 0 (λ e. omega arith)
    ∙ get_or-set_same two (i + 2) (n / 65536 % 256) 0 (omega arith) in
    let d = get_or-set_same three (i + 3) (n / 16777216 % 256) 0 (omega arith) in
    rw (a, b, c, d) (whole_again n l)

-- ---- blocks

abbrev pub with_access : Width → ℕ → ℕ → Block → Bool → Block
with_access width a n b here = if here then record b { bytes = with_number width b.bytes (a - b.base) n } else b

module _ (width : Width) (a n : ℕ) where
  pub same_base : (b : Block) (here : Bool) → (with_access width a n b here).base ≡ b.base
  same_base b true = refl
  same_base b false = refl

  pub same_length : (b : Block) (here : Bool) → length (with_access width a n b here).bytes ≡ length b.bytes
  same_length b true = length_with width b.bytes (a - b.base) n
  same_length b false = refl

  same_has : (other : Width) (c : ℕ) (b : Block) (here : Bool) → has other c (with_access width a n b here) ≡ has other c b
  same_has other c b true = ap (λ k. nat_le b.base c && nat_le (c + width_bytes other) (b.base + k)) (same_length b true)
  same_has other c b false = refl

  -- the number of another access in a block that has both
  read_other : (other : Width) (c : ℕ) (b : Block) (here : Bool) → has width a b ≡ here → has other c b ≡ true → AreDisjoint a width c other
      → number_at other (with_access width a n b here).bytes (c - (with_access width a n b here).base) ≡ number_at other b.bytes (c - b.base)
  read_other other c b false e f h = refl
  read_other other c b true e f h =
      let p = inside width a b e in
      let q = inside other c b f in
      number_other width other b.bytes (a - b.base) (c - b.base) n (by h p.0 q.0)
    where
      by : AreDisjoint a width c other → b.base ≤ a → b.base ≤ c → AreDisjoint (a - b.base) width (c - b.base) other
      by (inl h) k l = inl (omega arith)
      by (inr h) k l = inr (omega arith)

  pub found_other : (other : Width) (c : ℕ) (bs : List Block) → AreDisjoint a width c other → found other c (map (changed width a n) bs) ≡ found other c bs
  unfolding found
  found_other other c [] h = refl
  found_other other c (b ∷ bs) h =
      ap (λ t. if t then Some (number_at other (changed width a n b).bytes (c - (changed width a n b).base)) else found other c (map (changed width a n) bs)) (same_has other c b (has width a b))
      ∙ by (found_other other c bs h) (has other c b) refl
    where
      by : found other c (map (changed width a n) bs) ≡ found other c bs → (there : Bool) → has other c b ≡ there
          → (if there then Some (number_at other (changed width a n b).bytes (c - (changed width a n b).base)) else found other c (map (changed width a n) bs))
          ≡ (if there then Some (number_at other b.bytes (c - b.base)) else found other c bs)
      by later true e = ap Some (read_other other c b (has width a b) refl e h)
      by later false e = later

  pub found_same : (bs : List Block) → n < 2 ^ 32 → list_any (has width a) bs ≡ true → found width a (map (changed width a n) bs) ≡ Some (kept_part width n)
  unfolding found
  found_same [] l h = absurd cc
  found_same (b ∷ bs) l h =
      ap (λ t. if t then Some (number_at width (changed width a n b).bytes (a - (changed width a n b).base)) else found width a (map (changed width a n) bs)) (same_has width a b (has width a b))
      ∙ by (found_same bs l) (has width a b) refl h
    where
      by : (list_any (has width a) bs ≡ true → found width a (map (changed width a n) bs) ≡ Some (kept_part width n))
          → (here : Bool) → has width a b ≡ here → (here || list_any (has width a) bs) ≡ true
          → (if here then Some (number_at width (with_access width a n b here).bytes (a - (with_access width a n b here).base)) else found width a (map (changed width a n) bs)) ≡ Some (kept_part width n)
      by later true e k = let p = inside width a b e in ap Some (number_same width b.bytes (a - b.base) n (omega (arith, p.0, p.1)) l)
      by later false e k = later k

  -- ---- what a store gives

  pub lies_parts : (bs : List Block) → lies_in width a bs ≡ true → (is_aligned width a ≡ true) × (list_any (has width a) bs ≡ true)
  lies_parts bs h = and_parts (is_aligned width a) (list_any (has width a) bs) h

  pub stored_parts : (bs cs : List Block) → stored width a n bs ≡ Some cs → (lies_in width a bs ≡ true) × (cs ≡ map (changed width a n) bs)
  stored_parts bs cs e = by (lies_in width a bs) refl e
    where
      by : (here : Bool) → lies_in width a bs ≡ here → (if here then Some (map (changed width a n) bs) else None) ≡ Some cs
          → (lies_in width a bs ≡ true) × (cs ≡ map (changed width a n) bs)
      by true e h = (e, let same : map (changed width a n) bs ≡ cs = cc in sym same)
      by false e h = absurd cc

  pub others_read : (other : Width) (c : ℕ) (bs cs : List Block) → stored width a n bs ≡ Some cs → AreDisjoint a width c other
      → loaded other c cs ≡ loaded other c bs
  others_read other c bs cs e h =
      let p = stored_parts bs cs e in
      ap (λ xs. loaded other c xs) p.1 ∙ ap (λ o. if is_aligned other c then o else None) (found_other other c bs h)

  pub itself_read : (bs cs : List Block) → stored width a n bs ≡ Some cs → n < 2 ^ 32 → loaded width a cs ≡ Some (kept_part width n)
  itself_read bs cs e l =
      let p = stored_parts bs cs e in
      let q = lies_parts bs p.0 in
      ap (λ xs. loaded width a xs) p.1 ∙ ap (λ t. if t then found width a (map (changed width a n) bs) else None) q.0 ∙ found_same bs l q.1

  pub store_goes : (bs : List Block) → lies_in width a bs ≡ true → stored width a n bs ≡ Some (map (changed width a n) bs)
  store_goes bs h = ap (λ t. if t then Some (map (changed width a n) bs) else None) h

found_some : (width : Width) (a : ℕ) (bs : List Block) → list_any (has width a) bs ≡ true → (n : ℕ) × (found width a bs ≡ Some n)
unfolding found
found_some width a [] h = absurd cc
found_some width a (b ∷ bs) h = by (found_some width a bs) (has width a b) h
  where
    by : (list_any (has width a) bs ≡ true → (n : ℕ) × (found width a bs ≡ Some n)) → (here : Bool) → (here || list_any (has width a) bs) ≡ true
        → (n : ℕ) × ((if here then Some (number_at width b.bytes (a - b.base)) else found width a bs) ≡ Some n)
    by later true k = (number_at width b.bytes (a - b.base), refl)
    by later false k = later k

-- a load where an access lies
pub load_goes : (width : Width) (a : ℕ) (bs : List Block) → lies_in width a bs ≡ true → (n : ℕ) × (loaded width a bs ≡ Some n)
load_goes width a bs h =
    let q = lies_parts width a 0 bs h in
    let r = found_some width a bs q.1 in
    (r.0, ap (λ t. if t then found width a bs else None) q.0 ∙ r.1)

pub load_some : (width : Width) (a : ℕ) (bs : List Block) → lies_in width a bs ≡ true → IsSome (loaded width a bs)
load_some width a bs h = let r = load_goes width a bs h in subst (λ (o : Option ℕ). IsSome o) (sym r.1) refl

pub store_some : (width : Width) (a n : ℕ) (bs : List Block) → lies_in width a bs ≡ true → IsSome (stored width a n bs)
store_some width a n bs h = subst (λ (o : Option (List Block)). IsSome o) (sym (store_goes width a n bs h)) refl
