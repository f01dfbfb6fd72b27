-- Look-ups in the blocks that the code holds.
use Rattle.std.proofs.Common.{◌≡◌, inl, inr, ℕ, suc, ◌+◌, ◌-◌, ◌<◌, ◌≤◌, true, false, ◌&&◌, List, [], ◌∷◌, map, length, get_or, slice_get, set, Some, None, option_map, refl, sym, ◌∙◌, ap, subst, arith, drop_of_length-le, append-nil, ◌++◌, drop}
use Rattle.std.proofs.lemmas.Bool.{cases_Bool, and_right}
use Rattle.std.proofs.lemmas.Option.{slice_get-map, slice_get_cases, slice_get_read}
use Rattle.std.proofs.lemmas.List.{map-set, map-append}
use Rattle.std.specs.List.{list_any}
use Rattle.ckc_base.specs.declared.arithmetic.Width.{Width}
use Rattle.ckc_source.specs.declared.program.Object.{Object}
use Rattle.ckc_source.specs.Blocks.{Block, end_of, has, number_at, with_number, is_aligned, found, loaded, lies_in, stored, block_of, place_behind, first_place}
use Rattle.ckc_source.specs.LaidOut.{AreApart}
use Rattle.ckc_source.proofs.Keeping.{apart_snoc, from_zero, length_with}
use Rattle.ckc_interp_blocks.specs.declared.block.Block as held_by
use Rattle.ckc_interp_blocks.specs.Held.{view, are_apart}
use Rattle.ckc_interp_blocks.specs.code.Held.{BeginsBehind, IsLast}
use Rattle.ckc_interp_blocks.specs.code.Views.{IsHolder}
use Rattle.ckc_interp_blocks.proofs.Places.{last_from, behind_from, none_behind, last_decides, last_changes, last_found, found_none, has_near, apart_true, true_apart, apart_set}

viewed : (bs : List held_by.Block) (k : ℕ) (c : Block) → slice_get (map view bs) k ≡ Some c → (b : held_by.Block) × (slice_get bs k ≡ Some b) × (c ≡ view b)
viewed bs k c e = elim (slice_get_cases bs k).1 [
  | inl p ↦
      let here = slice_get-map view bs k in
      let there : option_map view (slice_get bs k) ≡ Some (view p.0) = ap (option_map view) p.2 in
      (p.0, p.2, cc)
  | inr p ↦
      let here = slice_get-map view bs k in
      let there : option_map view (slice_get bs k) ≡ None = ap (option_map view) p.1 in
      absurd cc
]

pub behind_at : (a : ℕ) (bs : List held_by.Block) (high : ℕ) → high ≡ 0 → ((b : held_by.Block) → slice_get bs high ≡ Some b → a < b.base) → BeginsBehind a (map view bs)
behind_at a bs high z h = behind_from a (map view bs) (λ c e.
    let v = viewed bs 0 c e in
    let k = h v.0 (subst (λ (j : ℕ). slice_get bs j ≡ Some v.0) (sym z) v.1) in
    subst (λ (d : Block). a < d.base) (sym v.2) k)

pub last_before : (a : ℕ) (bs : List held_by.Block) (low high : ℕ) → (low ≡ 0 → ⊥) → high ≤ low → low ≤ high → high ≤ length bs
    → ((k : ℕ) (b : held_by.Block) → suc k ≡ low → slice_get bs k ≡ Some b → b.base ≤ a)
    → ((b : held_by.Block) → slice_get bs high ≡ Some b → a < b.base)
    → (low - 1 < length bs) × IsLast a (map view bs) (low - 1)
last_before a bs low high z h k l before behind =
    let less : low - 1 < length bs = omega arith in
    let is : suc (low - 1) ≡ low = omega arith in
    let same : low ≡ high = omega arith in
    elim (slice_get_cases bs (low - 1)).1 as (λ _. (low - 1 < length bs) × IsLast a (map view bs) (low - 1)) [
      | inl p ↦ (
        less,
        last_from a (map view bs) (low - 1) (view p.0)
            (slice_get-map view bs (low - 1) ∙ ap (option_map view) p.2)
            (before (low - 1) p.0 is p.2)
            (λ c e.
            let v = viewed bs (suc (low - 1)) c e in
            let m = behind v.0 (subst (λ (j : ℕ). slice_get bs j ≡ Some v.0) (is ∙ same) v.1) in
            subst (λ (d : Block). a < d.base) (sym v.2) m),
      )
      | inr p ↦ absurd (let out = p.0 in omega arith)
    ]

-- the element that was read with an index
pub read_at : (bs : List held_by.Block) (n i : ℕ) (b : held_by.Block) → n ≡ length bs → i < n → b ≡ get_or bs i b → slice_get (map view bs) i ≡ Some (view b)
read_at bs n i b e h k = slice_get-map view bs i ∙ ap (option_map view) (slice_get_read bs n i b e h k)

module _ (width : Width) (a low : ℕ) (bs : List Block) (place : ℕ) (apart : AreApart low bs place) where
  pub lies_not_behind : BeginsBehind a bs → lies_in width a bs ≡ false
  lies_not_behind h = and_right (is_aligned width a) (list_any (has width a) bs) (none_behind (has width a) a (has_near width a) low bs place apart h)

  pub lies_not_last : (i : ℕ) (b : Block) → IsLast a bs i → slice_get bs i ≡ Some b → has width a b ≡ false → lies_in width a bs ≡ false
  lies_not_last i b l e t =
      and_right (is_aligned width a) (list_any (has width a) bs) (last_decides (has width a) a (has_near width a) low bs place i b apart l e ∙ t)

  pub lies_held : (i : ℕ) → IsHolder width a bs i → lies_in width a bs ≡ true
  lies_held i h =
      let there : list_any (has width a) bs ≡ true = last_decides (has width a) a (has_near width a) low bs place i h.block apart h.last h.is ∙ h.has_it in
      rw (h.aligned, there) refl

  pub loads_held : (i : ℕ) (b : Block) → slice_get bs i ≡ Some b → IsHolder width a bs i → loaded width a bs ≡ Some (number_at width b.bytes (a - b.base))
  loads_held i b e h =
      let same : h.block ≡ b = (let f = h.is in cc) in
      let there : found width a bs ≡ Some (number_at width b.bytes (a - b.base)) =
      last_found width a low bs place i b apart h.last e (ap (has width a) (sym same) ∙ h.has_it) in
      rw (h.aligned, there) refl

  pub loads_not : lies_in width a bs ≡ false → loaded width a bs ≡ None
  loads_not e = elim (cases_Bool (is_aligned width a)) [
    | inl t ↦
        let there : found width a bs ≡ None = found_none width a bs (sym (ap (λ r. r && list_any (has width a) bs) t) ∙ e) in
        rw (t, there) refl
    | inr t ↦ rw t refl
  ]

  pub stores_held : (n i : ℕ) (b : Block) → slice_get bs i ≡ Some b → IsHolder width a bs i
      → stored width a n bs ≡ Some (set bs i (record b { bytes = with_number width b.bytes (a - b.base) n }))
  stores_held n i b e h =
      let same : h.block ≡ b = (let f = h.is in cc) in
      let there = last_changes (has width a) a (has_near width a) (λ b. record b { bytes = with_number width b.bytes (a - b.base) n })
      low bs place i b apart h.last e (ap (has width a) (sym same) ∙ h.has_it) in
      rw (lies_held i h) (ap Some there)

  pub stores_not : (n : ℕ) → lies_in width a bs ≡ false → stored width a n bs ≡ None
  stores_not n e = rw e refl

-- ---- the same, for the blocks that the code holds

pub holder_is : (width : Width) (a : ℕ) (bs slice : List held_by.Block) (n i : ℕ) (b : held_by.Block) → slice ≡ bs → n ≡ length bs
    → (i < length slice) × IsLast a (map view slice) i → b ≡ get_or bs i b → is_aligned width a ≡ true → has width a (view b) ≡ true
    → (i < n) × IsHolder width a (map view bs) i
holder_is width a bs slice n i b e len p read aligned t =
    let less : i < length bs = subst (λ (l : List held_by.Block). i < length l) e p.0 in (
      omega arith,
      record {
        aligned = aligned;
        last = subst (λ (l : List held_by.Block). IsLast a (map view l) i) e p.1;
        block = view b;
        is = read_at bs (length bs) i b refl less read;
        has_it = t;
      },
    )

module _ (width : Width) (a : ℕ) (bs slice : List held_by.Block) (place : ℕ) (e : slice ≡ bs) (apart : are_apart 0 (map view bs) place ≡ true) where
  pub no_holder : BeginsBehind a (map view slice) → lies_in width a (map view bs) ≡ false
  no_holder h = lies_not_behind width a 0 (map view bs) place (apart_true 0 (map view bs) place apart) (subst (λ (l : List held_by.Block). BeginsBehind a (map view l)) e h)

  pub not_held : (i : ℕ) (b : held_by.Block) → (i < length slice) × IsLast a (map view slice) i → b ≡ get_or bs i b → has width a (view b) ≡ false
      → lies_in width a (map view bs) ≡ false
  not_held i b p read t =
      let less : i < length bs = subst (λ (l : List held_by.Block). i < length l) e p.0 in
      lies_not_last width a 0 (map view bs) place (apart_true 0 (map view bs) place apart) i (view b)
      (subst (λ (l : List held_by.Block). IsLast a (map view l) i) e p.1) (read_at bs (length bs) i b refl less read) t

module _ (width : Width) (a : ℕ) (bs : List held_by.Block) (place : ℕ) (apart : are_apart 0 (map view bs) place ≡ true) (i : ℕ) (h : IsHolder width a (map view bs) i) where
  pub held_lies : lies_in width a (map view bs) ≡ true
  held_lies = lies_held width a 0 (map view bs) place (apart_true 0 (map view bs) place apart) i h

  module _ (b : held_by.Block) (less : i < length bs) (read : b ≡ get_or bs i b) where
    at_index : slice_get (map view bs) i ≡ Some (view b)
    at_index = read_at bs (length bs) i b refl less read

    pub held_has : has width a (view b) ≡ true
    held_has = let same : h.block ≡ view b = (let f = h.is in let g = at_index in cc) in ap (has width a) (sym same) ∙ h.has_it

    pub held_loads : loaded width a (map view bs) ≡ Some (number_at width b.bytes.items (a - b.base))
    held_loads = loads_held width a 0 (map view bs) place (apart_true 0 (map view bs) place apart) i (view b) at_index h

    pub held_stores : (n : ℕ) (c : held_by.Block) → view c ≡ record (view b) { bytes = with_number width b.bytes.items (a - b.base) n }
        → stored width a n (map view bs) ≡ Some (map view (set bs i c))
    held_stores n c e =
        stores_held width a 0 (map view bs) place (apart_true 0 (map view bs) place apart) n i (view b) at_index h
        ∙ ap (λ d. Some (set (map view bs) i d)) (sym e) ∙ ap Some (sym (map-set view bs i c))

    pub held_apart : (n : ℕ) (c : held_by.Block) → view c ≡ record (view b) { bytes = with_number width b.bytes.items (a - b.base) n }
        → are_apart 0 (map view (set bs i c)) place ≡ true
    held_apart n c e =
        let size : length (with_number width b.bytes.items (a - b.base) n) ≡ length b.bytes.items = length_with width b.bytes.items (a - b.base) n in
        let end : end_of (view c) ≡ end_of (view b) = ap end_of e ∙ ap (λ k. b.base + k) size in
        subst (λ (l : List Block). are_apart 0 l place ≡ true) (sym (map-set view bs i c))
        (true_apart 0 (set (map view bs) i (view c)) place
        (apart_set 0 (map view bs) place i (view b) (view c) (apart_true 0 (map view bs) place apart) at_index (ap (λ (d : Block). d.base) e) end))

-- ---- new blocks

pub pushed_apart : (bs new : List held_by.Block) (b : held_by.Block) (place next : ℕ) → are_apart 0 (map view bs) place ≡ true → new ≡ bs ++ b ∷ []
    → b.base ≡ place → end_of (view b) + 1 ≤ next → are_apart 0 (map view new) next ≡ true
pushed_apart bs new b place next apart e base end =
    let joined : map view new ≡ map view bs ++ view b ∷ [] = ap (map view) e ∙ map-append view bs (b ∷ []) in
    subst (λ (l : List Block). are_apart 0 l next ≡ true) (sym joined)
    (true_apart 0 (map view bs ++ view b ∷ []) next (apart_snoc 0 (map view bs) place (view b) next (apart_true 0 (map view bs) place apart) (omega arith) end))

pub made_apart : (objects : List Object) (blocks : List Block) (i next place : ℕ) → length objects ≤ i
    → blocks ++ map block_of (drop i objects) ≡ map block_of objects → place_behind next (map block_of (drop i objects)) ≡ place
    → AreApart first_place (map block_of objects) place → (are_apart 0 blocks next ≡ true) × (next ≡ place)
made_apart objects blocks i next place h all behind apart =
    let none : drop i objects ≡ [] = drop_of_length-le objects h in
    let same : blocks ≡ map block_of objects =
    sym (append-nil blocks) ∙ sym (ap (λ (l : List Object). blocks ++ map block_of l) none) ∙ all in
    let end : next ≡ place = sym (ap (λ (l : List Object). place_behind next (map block_of l)) none) ∙ behind in (
      subst (λ (l : List Block). are_apart 0 l next ≡ true) (sym same)
          (subst (λ (p : ℕ). are_apart 0 (map block_of objects) p ≡ true) (sym end) (true_apart 0 (map block_of objects) place (from_zero first_place (map block_of objects) place apart))),
      end,
    )
