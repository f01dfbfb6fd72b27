-- The new block of a `calloc`, and what may be read of it.
use Rattle.std.proofs.Common.{◌≡◌, refl, sym, ap, subst, ◌∙◌, ℕ, Bool, true, false, List, [], ◌∷◌, ◌++◌, arith}
use Rattle.std.specs.Prelude.{◌==◌, ◌+◌, ◌-◌, ◌*◌, ◌<◌, ◌≤◌, ◌^◌, nat_lt, nat_le, not, ◌&&◌, ◌||◌, if◌then◌else◌, ℤ, pos, negsuc, ◌+ℤ◌, ◌*ℤ◌, ◌≤ℤ◌, None, Some, Err, IsOk}
use Rattle.std.specs.List.{list_any}
use Rattle.std.proofs.lemmas.Bool.{and_parts, ltb-true, leb-true}
use Rattle.std.proofs.lemmas.Int.{ints}
use Rattle.std.proofs.Math.IntN.{pos-*ℤ-pos}
use Rattle.std.proofs.Math.Nat.{add-mul-mod_self_left, mul_comm}
use Rattle.ckc_base.specs.Memory.{heap_has_room, data_end}
use Rattle.ckc_linear.specs.declared.forms.Base.TheVariants as base
use Rattle.ckc_linear.specs.declared.forms.Form.{Form}
use Rattle.ckc_typed.specs.declared.typed.Range.{Range}
use Rattle.ckc_typed.specs.declared.typed.Range.TheVariants as range
use Rattle.ckc_typed.specs.Types.{same_type}
use Rattle.ckc_blame_sound.specs.ckc_bounds_points.specs.Forms.{base_form, is_small}
use Rattle.ckc_blame_sound.specs.ckc_bounds_ranges.specs.Rows.{range_from, range_moved}
use Rattle.ckc_blame_sound.specs.ckc_bounds_stores.specs.Values.{one_less}
use Rattle.ckc_source.specs.declared.expr.Pointee.{Pointee}
use Rattle.ckc_source.specs.declared.outcome.Halt.TheVariants as halt
use Rattle.ckc_source.specs.declared.program.Shape.{Shape}
use Rattle.ckc_source.specs.Blocks.{Block, end_of, fresh}
use Rattle.ckc_source.specs.Eval.{plain, ranged, reads_within, reads}
use Rattle.ckc_source.specs.Runs.{is_within, is_in_block, is_in_member, member_runs, is_in, is_true}
use Rattle.ckc_blame_sound.specs.Values.{number_of}
use Rattle.ckc_blame_sound.specs.Valuations.{Valuation, form_address}
use Rattle.ckc_blame_sound.proofs.Fresh.{fresh_length}
use Rattle.ckc_blame_sound.proofs.Places.{element_between}
use Rattle.ckc_blame_sound.specs.Containment.{Memory, IsReadBetween, IsReadWithin, HasElement}
use Rattle.ckc_blame_given.specs.ckc_blame_pointers.proofs.Arrays.{type_same}
use Rattle.ckc_blame_given.specs.ckc_blame_pointers.proofs.Widening.{within_tests}

-- ---- counts

pub room_counts : (place count size : ℕ) → heap_has_room place count size ≡ true → (0 < count) × (count < 2 ^ 31) × (place + count * size ≤ data_end)
room_counts place count size e =
    let a = and_parts (nat_lt 0 count && nat_lt count 2147483648) (nat_le (place + count * size) data_end) e in
    let b = and_parts (nat_lt 0 count) (nat_lt count 2147483648) a.0 in
    (ltb-true 0 count b.0, ltb-true count 2147483648 b.1, leb-true (place + count * size) data_end a.1)

-- ---- the range of the block

both : (a b : Bool) → a ≡ true → b ≡ true → (a && b) ≡ true
both true b h k = k
both false b h k = absurd cc

or_left : (a b : Bool) → a ≡ true → (a || b) ≡ true
or_left true b h = refl
or_left false b h = absurd cc

last_of : {X : Type 0} (p : X → Bool) (xs : List X) (x : X) → p x ≡ true → list_any p (xs ++ x ∷ []) ≡ true
last_of p [] x h = or_left (p x) false h
last_of p (y ∷ xs) x h = or_right (p y) (list_any p (xs ++ x ∷ [])) (last_of p xs x h)
  where
    or_right : (a b : Bool) → b ≡ true → (a || b) ≡ true
    or_right true b h = refl
    or_right false b h = h

fewer : (size d count : ℕ) → d < count → size * d + size ≤ size * count
fewer size d count h =
    let more = element_between size d count h in
    let a = mul_comm size d in
    let b = mul_comm size count in
    omega arith

no_more : (size d count : ℕ) → d ≤ count → size * d ≤ size * count
no_more size d count h = by (count == d) refl
  where
    by : (b : Bool) → (count == d) ≡ b → size * d ≤ size * count
    by b e = grind (arith)

module _ (shapes : List Shape) (blocks : List Block) (to : Pointee) (next count : ℕ) (sized : 0 < to.size) where
  abbrev block : Block
  block = fresh to next count

  pub block_true : (d : ℕ) → d ≤ count → (to.terminated ≡ true → d < count) → is_true shapes (blocks ++ block ∷ []) to next next (next + to.size * d) ≡ true
  block_true d less ends =
      last_of (is_in shapes to next next (next + to.size * d)) blocks block
      (or_left (is_in_block to next next (next + to.size * d) block) (not to.terminated && list_any (is_in_member to next next (next + to.size * d) block) (member_runs shapes block))
      (both (same_type to.element to.element) (if to.terminated then is_within next (end_of block - to.size) to.size next next (next + to.size * d) else not to.terminated && is_within next (end_of block) to.size next next (next + to.size * d))
      (type_same to.element) (by to.terminated ends)))
    where
      long : end_of block ≡ next + to.size * count
      long = ap (λ k. next + k) (fresh_length to next count)

      spans : (end : ℕ) → next + to.size * d ≤ end → is_within next end to.size next next (next + to.size * d) ≡ true
      spans end h = within_tests next end to.size next next (next + to.size * d) sized (omega arith) (omega arith) h refl (add-mul-mod_self_left next to.size d) refl

      by : (q : Bool) → (q ≡ true → d < count) → (if q then is_within next (end_of block - to.size) to.size next next (next + to.size * d) else not q && is_within next (end_of block) to.size next next (next + to.size * d)) ≡ true
      by true h = let more = fewer to.size d count (h refl) in let all = long in spans (end_of block - to.size) (omega arith)
      by false h = let more = no_more to.size d count less in let all = long in spans (end_of block) (omega arith)

-- ---- what may be read

reads_true : (shapes : List Shape) (blocks : List Block) (to : Pointee) (n from upto : ℕ) (low high : ℤ) → pos from ≡ low → pos upto ≡ high → is_true shapes blocks to n from upto ≡ true
    → IsOk (reads shapes blocks to n low high)
reads_true shapes blocks to n from upto low high low_is high_is there =
    subst (λ low. IsOk (reads shapes blocks to n low high)) low_is (subst (λ high. IsOk (reads shapes blocks to n (pos from) high)) high_is (by (n == 0)))
  where
    by : (b : Bool) → IsOk (if b then plain 0 else reads_within shapes blocks to n (pos from) (pos upto))
    by true = refl
    by false = subst (λ c. IsOk (if c then ranged n from upto else Err halt.Stuck)) (sym there) refl

-- a null pointer may be read within any range
pub null_read : (m : Memory) (v : Valuation) (r : Range) → IsReadWithin m v 0 r
null_read m v (range.Known low high) = refl
null_read m v range.Any = tt
null_read m v range.Missing = tt

low_there : (a size : ℕ) → pos a ≡ pos a +ℤ (pos size *ℤ (pos 0 +ℤ pos 0))
low_there a size = ap pos (same a size)
  where
    same : (a size : ℕ) → a ≡ a + size * 0
    same a size = omega arith

high_there : (a size d : ℕ) → pos (a + size * d) ≡ pos a +ℤ (pos size *ℤ pos d)
high_there a size d = ap (λ k. pos a +ℤ k) (sym (pos-*ℤ-pos size d))

pub own_address : (v : Valuation) (own a size : ℕ) → v.number 0 ≡ pos 0 → v.address (Some (base.Value own)) ≡ pos a → form_address v size (base_form (base.Value own)) ≡ pos a
own_address v own a size zero address =
    ap (λ z. v.address (Some (base.Value own)) +ℤ (pos size *ℤ (z +ℤ pos 0))) zero ∙ ap (λ a. a +ℤ (pos size *ℤ (pos 0 +ℤ pos 0))) address ∙ sym (low_there a size)

module _ (shapes : List Shape) (blocks : List Block) (to : Pointee) (next count : ℕ) (sized : 0 < to.size) (v : Valuation) (own : ℕ) (zero : v.number 0 ≡ pos 0) (address : v.address (Some (base.Value own)) ≡ pos next) where
  abbrev there : Memory
  there = record { shapes = shapes; blocks = blocks ++ fresh to next count ∷ []; to = to }

  read_up_to : (k : Form) (d : ℕ) → number_of v.number k ≡ pos d → d ≤ count → (to.terminated ≡ true → d < count)
      → IsReadBetween there v next (base_form (base.Value own)) (record k { base = Some (base.Value own) })
  read_up_to k d is less ends =
      reads_true shapes (blocks ++ fresh to next count ∷ []) to next next (next + to.size * d) (form_address v to.size (base_form (base.Value own))) (form_address v to.size (record k { base = Some (base.Value own) }))
      (sym (own_address v own next to.size zero address))
      (high_there next to.size d ∙ ap (λ a. a +ℤ (pos to.size *ℤ pos d)) (sym address) ∙ ap (λ z. v.address (Some (base.Value own)) +ℤ (pos to.size *ℤ z)) (sym is))
      (block_true shapes blocks to next count sized d less ends)

  -- the range of a `calloc`, as it goes to a place
  pub range_read : (k : Form) → number_of v.number k ≡ pos count → 0 < count → (q : Bool) → (q ≡ to.terminated)
      → IsReadWithin there v next (if q then one_less (range_from (base.Value own) k) else range_from (base.Value own) k)
  range_read k is some false ends = read_up_to k count is (omega arith) (λ e. let no : false ≡ true = ends ∙ e in absurd cc)
  range_read k is some true ends = by (is_small k.add && is_small (negsuc 0))
    where
      fewer_number : (x a : ℤ) (n : ℕ) → 0 < n → x +ℤ a ≡ pos n → x +ℤ (a +ℤ negsuc 0) ≡ pos (n - 1)
      fewer_number x a n h e = omega (arith, ints)

      by : (b : Bool) → IsReadWithin there v next (range_moved (base_form (base.Value own)) (if b then Some (record k { base = Some (base.Value own); add = k.add +ℤ negsuc 0 }) else None))
      by true = read_up_to (record k { add = k.add +ℤ negsuc 0 }) (count - 1) (fewer_number (v.number k.var) k.add count some is) (omega arith) (λ e. omega arith)
      by false = tt

-- it has an element, unless that must stay zero
pub range_element : (v : Valuation) (own : ℕ) → v.number 0 ≡ pos 0 → (k : Form) (count : ℕ) → number_of v.number k ≡ pos count → 0 < count → (q : Bool) → not q ≡ true
    → HasElement v (if q then one_less (range_from (base.Value own) k) else range_from (base.Value own) k)
range_element v own zero k count is some true h = absurd cc
range_element v own zero k count is some false h = at_least (v.number 0) (number_of v.number k) count zero is some
  where
    at_least : (x y : ℤ) (n : ℕ) → x ≡ pos 0 → y ≡ pos n → 0 < n → ((x +ℤ pos 0) +ℤ pos 1) ≤ℤ y
    at_least x y n a b h = omega (arith, ints)
