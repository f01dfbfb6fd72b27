-- Two accesses to parts of elements are one, or share no byte.
use Rattle.std.proofs.Common.{◌≡◌, ◌≢◌, ◌⊎◌, ⊎_elim, inl, inr, ℕ, zero, suc, ◌+◌, ◌*◌, ◌≤◌, ◌<◌, List, [], ◌∷◌, ◌++◌, refl, sym, ◌∙◌, ap, subst, arith}
use Rattle.std.specs.Prelude.{Bool, true, slice_get, Some}
use Rattle.std.specs.List.{All}
use Rattle.std.proofs.lemmas.List.Elements.{All-contains}
use Rattle.std.proofs.Math.Nat.{mul_comm}
use Rattle.ckc_base.specs.declared.arithmetic.Width.{Width}
use Rattle.ckc_base.specs.declared.arithmetic.Width.TheVariants.{Byte, Word}
use Rattle.ckc_base.specs.Memory.{width_bytes, data_end}
use Rattle.ckc_types.specs.declared.types.CType.{CType, CType-F, out-CType}
use Rattle.ckc_types.specs.declared.types.MemberShape.{MemberShape}
use Rattle.ckc_types.specs.declared.types.Structs.{Structs}
use Rattle.ckc_types.specs.Layout.{offset}
use Rattle.ckc_types.specs.Places.{Stands}
use Rattle.ckc_types.proofs.Offsets.{apart}
use Rattle.ckc_typed.specs.declared.typed.Typed.{Typed}
use Rattle.ckc_typed.specs.Constants.{size_of}
use Rattle.ckc_source.specs.Blocks.{Block, end_of, first_place, lies_in}
use Rattle.ckc_source.specs.LaidOut.{AreApart}
use Rattle.ckc_build_values.specs.Kinds.{width_of}
use Rattle.ckc_build_values.specs.Members.{offset_of}
use Rattle.ckc_blame_sound.specs.Sound.{IsPlaced}
use Rattle.ckc_blame_sound.specs.Cells.{AreDisjoint, IsPart, IsPartIn, IsOfMember, IsCell}
use Rattle.ckc_blame_sound.proofs.Parts.{Lies, HasSize, sized_form, part_lies, offset_there, member_size}
use Rattle.ckc_blame_sound.proofs.Places.{element_between, part_there}
use Rattle.ckc_blame_sound.proofs.Ranges.{contains_at}

-- two accesses are the same one, or share no byte
abbrev pub AreApartOrOne : (a : ℕ) → Width → (c : ℕ) → Width → Type 0
AreApartOrOne a width c other = ((a ≡ c) × (width ≡ other)) ⊎ AreDisjoint a width c other

-- ---- members of one structure

-- of two places in a list, one is the other, or stands in front of it
two_places : {X : Type 0} (front back front2 back2 : List X) (m m2 : X) → front ++ m ∷ back ≡ front2 ++ m2 ∷ back2
    → ((front ≡ front2) × (m ≡ m2)) ⊎ (((between : List X) × (front2 ≡ front ++ m ∷ between)) ⊎ ((between : List X) × (front ≡ front2 ++ m2 ∷ between)))
two_places [] back [] back2 m m2 e = inl (refl, cc)
two_places {X} [] back (x ∷ front2) back2 m m2 e =
    let same : m ≡ x = cc in
    inr (inl (front2, ap (λ (z : X). z ∷ front2) (sym same)))
two_places {X} (x ∷ front) back [] back2 m m2 e =
    let same : x ≡ m2 = cc in
    inr (inr (front, ap (λ (z : X). z ∷ front) same))
two_places {X} (x ∷ front) back (y ∷ front2) back2 m m2 e =
    let same : x ≡ y = cc in
    let rest : front ++ m ∷ back ≡ front2 ++ m2 ∷ back2 = cc in
    ⊎_elim
    (λ h. inl (cc, h.1))
    (λ h. inr (⊎_elim (λ k. inl (k.0, cc)) (λ k. inr (k.0, cc)) h))
    (two_places front back front2 back2 m m2 rest)

width_some : (width : Width) → 0 < width_bytes width
width_some Byte = omega arith
width_some Word = omega arith

module _ (structs : Structs) (tag : ℕ) (sized : HasSize structs tag) where
  member_before : (front front2 : List MemberShape) (m n : MemberShape) (s : Stands structs tag front m) (t : Stands structs tag front2 n)
      → (between : List MemberShape) → front2 ≡ front ++ m ∷ between
      → offset_of structs tag m.name + width_bytes (width_of m.ctype) ≤ offset_of structs tag n.name
  member_before front front2 m n s t between e =
      let in_order = apart structs tag front between m n s (subst (λ f. Stands structs tag f n) e t) in
      let here = offset_there structs tag front m s sized in
      let there = offset_there structs tag front2 n t sized in
      let wide = member_size structs tag front m s sized in
      omega arith

  members_apart : (at : ℕ) (width : Width) (at2 : ℕ) (other : Width) → IsOfMember structs tag at width → IsOfMember structs tag at2 other
      → AreApartOrOne at width at2 other
  members_apart at width at2 other p q =
      let wide = ap width_bytes p.wide in
      let wide2 = ap width_bytes q.wide in
      let here = p.there in
      let there = q.there in
      ⊎_elim
      (λ h. inl (p.there ∙ ap (λ (m : MemberShape). offset_of structs tag m.name) h.1 ∙ sym q.there, p.wide ∙ ap (λ (m : MemberShape). width_of m.ctype) h.1 ∙ sym q.wide))
      (λ h. inr (⊎_elim
      (λ k. let less = member_before p.front q.front p.member q.member p.stands q.stands k.0 k.1 in inl (omega arith))
      (λ k. let less = member_before q.front p.front q.member p.member q.stands p.stands k.0 k.1 in inr (omega arith))
      h))
      (two_places p.front p.stands.back q.front q.stands.back p.member q.member (sym p.stands.split ∙ q.stands.split))

  -- members with different names begin at different places
  pub offsets_differ : (front front2 : List MemberShape) (m n : MemberShape) → Stands structs tag front m → Stands structs tag front2 n → m.name ≢ n.name
      → offset_of structs tag m.name ≢ offset_of structs tag n.name
  offsets_differ front front2 m n s t new e =
      let wide = width_some (width_of m.ctype) in
      let wide2 = width_some (width_of n.ctype) in
      ⊎_elim
      (λ h. new (ap (λ (x : MemberShape). x.name) h.1))
      (λ h. ⊎_elim
      (λ k. let less = member_before front front2 m n s t k.0 k.1 in absurd (omega arith))
      (λ k. let less = member_before front2 front n m t s k.0 k.1 in absurd (omega arith))
      h)
      (two_places front s.back front2 t.back m n (sym s.split ∙ t.split))

-- ---- parts of one type

parts_apart : (structs : Structs) (t : CType) (at : ℕ) (width : Width) (at2 : ℕ) (other : Width) → 0 < size_of structs t
    → IsPart structs t at width → IsPart structs t at2 other → AreApartOrOne at width at2 other
parts_apart structs t at width at2 other h p q = by (out-CType t) h p q
  where
    one : (at ≡ 0) × (width ≡ width_of t) → (at2 ≡ 0) × (other ≡ width_of t) → AreApartOrOne at width at2 other
    one p q = inl (p.0 ∙ sym q.0, p.1 ∙ sym q.1)

    by : (f : CType-F CType) → 0 < sized_form structs f → IsPartIn structs t f at width → IsPartIn structs t f at2 other → AreApartOrOne at width at2 other
    by CType-F.Int h p q = one p q
    by CType-F.Unsigned h p q = one p q
    by CType-F.Char h p q = one p q
    by CType-F.Void h p q = one p q
    by (CType-F.Struct tag) h p q = members_apart structs tag h at width at2 other p q
    by (CType-F.Pointer kind u) h p q = one p q

-- ---- blocks

pub base_from : (low : ℕ) (bs : List Block) (place k : ℕ) (b : Block) → AreApart low bs place → slice_get bs k ≡ Some b → low ≤ b.base
base_from low [] place k b a e = absurd cc
base_from low (c ∷ bs) place zero b a e = let same : c ≡ b = cc in subst (λ (d : Block). low ≤ d.base) same a.0
base_from low (c ∷ bs) place (suc k) b a e = let there = base_from (end_of c + 1) bs place k b a.1 e in let here = a.0 in omega arith

pub behind : (low : ℕ) (bs : List Block) (place k j : ℕ) (b c : Block) → AreApart low bs place → slice_get bs k ≡ Some b → slice_get bs j ≡ Some c
    → k < j → end_of b + 1 ≤ c.base
behind low [] place k j b c a e f h = absurd cc
behind low (d ∷ bs) place zero zero b c a e f h = absurd (omega arith)
behind low (d ∷ bs) place zero (suc j) b c a e f h =
    let same : d ≡ b = cc in
    subst (λ (x : Block). end_of x + 1 ≤ c.base) same (base_from (end_of d + 1) bs place j c a.1 f)
behind low (d ∷ bs) place (suc k) zero b c a e f h = absurd (omega arith)
behind low (d ∷ bs) place (suc k) (suc j) b c a e f h = behind (end_of d + 1) bs place k j b c a.1 e f (omega arith)

pub three : (k j : ℕ) → (k < j) ⊎ ((k ≡ j) ⊎ (j < k))
three zero zero = inr (inl refl)
three zero (suc j) = inl (omega arith)
three (suc k) zero = inr (inr (omega arith))
three (suc k) (suc j) = ⊎_elim (λ h. inl (omega arith)) (λ h. inr (⊎_elim (λ e. inl (ap suc e)) (λ l. inr (omega arith)) h)) (three k j)

-- what is known of an access to a part, in numbers
pub record Spans (b : Block) (i offset : ℕ) (width : Width) : Type 0 where
  pub from : b.base + i * b.size ≤ b.base + i * b.size + offset
  pub to : b.base + i * b.size + offset + width_bytes width ≤ b.base + i * b.size + b.size
  pub end : b.base + i * b.size + b.size ≤ end_of b

pub spans : (p : Typed) (b : Block) (i offset : ℕ) (width : Width) → IsPlaced p b → i < b.count → IsPart p.layout b.element offset width → Spans b i offset width
spans p b i offset width placed h part =
    let l = part_lies p.layout b.element offset width (subst (λ n. 0 < n) placed.size placed.sized) part in
    let room = element_between b.size i b.count h in
    let size = placed.size in
    let inside = l.within in
    let whole = placed.whole in
    let turned = mul_comm b.size b.count in
    record { from = omega arith; to = omega arith; end = omega arith }

-- ---- cells

-- how the blocks lie
pub record AreLaid (p : Typed) (bs : List Block) : Type 0 where
  pub low : ℕ
  pub place : ℕ
  pub apart : AreApart low bs place
  pub placed : All (IsPlaced p) bs

pub placed_at : (p : Typed) (bs : List Block) → All (IsPlaced p) bs → (k : ℕ) (b : Block) → slice_get bs k ≡ Some b → IsPlaced p b
placed_at p bs all k b e = All-contains (IsPlaced p) bs b all (contains_at bs k b e)

-- the numbers of a cell
abbrev pub CellSpans : (p : Typed) (bs : List Block) (a : ℕ) (width : Width) (z : Bool) → IsCell p.layout bs a width z → Type 0
CellSpans p bs a width z c = Spans c.block c.index c.offset width

pub cell_spans : (p : Typed) (bs : List Block) → All (IsPlaced p) bs → (a : ℕ) (width : Width) (z : Bool) → (c : IsCell p.layout bs a width z)
    → CellSpans p bs a width z c
cell_spans p bs all a width z c = spans p c.block c.index c.offset width (placed_at p bs all c.number c.block c.there) c.below c.part

pub cell_there : (p : Typed) (bs : List Block) → All (IsPlaced p) bs → (a : ℕ) (width : Width) (z : Bool) → (c : IsCell p.layout bs a width z)
    → lies_in width a bs ≡ true
cell_there p bs all a width z c =
    let placed = placed_at p bs all c.number c.block c.there in
    let size = placed.size in
    let lies = subst (λ n. Lies n c.offset width) (sym size) (part_lies p.layout c.block.element c.offset width (subst (λ n. 0 < n) size placed.sized) c.part) in
    subst (λ x. lies_in width x bs ≡ true) (sym c.address)
    (part_there width bs c.number c.block c.offset c.index c.there placed.aligned placed.whole c.below lies)

-- a cell has an address of the region
pub cell_address : (p : Typed) (bs : List Block) → All (IsPlaced p) bs → (a : ℕ) (width : Width) (z : Bool) → (c : IsCell p.layout bs a width z)
    → (first_place ≤ a) × (a + width_bytes width ≤ data_end)
cell_address p bs all a width z c =
    let placed = placed_at p bs all c.number c.block c.there in
    let n = cell_spans p bs all a width z c in
    let from = n.from in
    let to = n.to in
    let end = n.end in
    let above = placed.above in
    let below = placed.below in
    let at = c.address in
    (omega arith, omega arith)

pub cells_apart : (p : Typed) (bs : List Block) → AreLaid p bs → (a : ℕ) (width : Width) (z : Bool) (c : ℕ) (other : Width) (y : Bool)
    → IsCell p.layout bs a width z → IsCell p.layout bs c other y → AreApartOrOne a width c other
cells_apart p bs laid a width z c other y one two =
    let x = cell_spans p bs laid.placed a width z one in
    let w = cell_spans p bs laid.placed c other y two in
    let at = one.address in
    let there = two.address in
    let x1 = x.from in
    let x2 = x.to in
    let x3 = x.end in
    let w1 = w.from in
    let w2 = w.to in
    let w3 = w.end in
    ⊎_elim
    (λ h. let less = behind laid.low bs laid.place one.number two.number one.block two.block laid.apart one.there two.there h in inr (inl (omega arith)))
    (λ h. ⊎_elim
    (λ e. same_block (same e) e)
    (λ h. let less = behind laid.low bs laid.place two.number one.number two.block one.block laid.apart two.there one.there h in inr (inr (omega arith)))
    h)
    (three one.number two.number)
  where
    same : one.number ≡ two.number → one.block ≡ two.block
    same e = let again : Some one.block ≡ Some two.block = sym one.there ∙ ap (slice_get bs) e ∙ two.there in cc

    in_block : (b : Block) (i j at at2 : ℕ) → IsPlaced p b → IsPart p.layout b.element at width → IsPart p.layout b.element at2 other
        → i < b.count → j < b.count → a ≡ b.base + i * b.size + at → c ≡ b.base + j * b.size + at2 → AreApartOrOne a width c other
    in_block b i j at at2 placed q r h k e f =
        let x = spans p b i at width placed h q in
        let w = spans p b j at2 other placed k r in
        let x1 = x.from in
        let x2 = x.to in
        let w1 = w.from in
        let w2 = w.to in
        ⊎_elim
        (λ l. let room = element_between b.size i j l in inr (inl (omega arith)))
        (λ h. ⊎_elim
        (λ l. let even : i * b.size ≡ j * b.size = ap (λ n. n * b.size) l in
        ⊎_elim (λ s. let first = s.0 in inl (omega arith, s.1)) (λ s. inr (⊎_elim (λ t. inl (omega arith)) (λ t. inr (omega arith)) s))
        (parts_apart p.layout b.element at width at2 other (subst (λ n. 0 < n) placed.size placed.sized) q r))
        (λ l. let room = element_between b.size j i l in inr (inr (omega arith)))
        h)
        (three i j)

    same_block : one.block ≡ two.block → one.number ≡ two.number → AreApartOrOne a width c other
    same_block e f =
        in_block one.block one.index two.index one.offset two.offset (placed_at p bs laid.placed one.number one.block one.there) one.part
        (subst (λ (b : Block). IsPart p.layout b.element two.offset other) (sym e) two.part) one.below
        (subst (λ (b : Block). two.index < b.count) (sym e) two.below) one.address
        (two.address ∙ ap (λ (b : Block). b.base + two.index * b.size + two.offset) (sym e))

-- parts of different elements begin at different addresses
pub elements_apart : (p : Typed) (bs : List Block) → AreLaid p bs → (k j i i2 : ℕ) (b c : Block) (at : ℕ) (width : Width) (at2 : ℕ) (other : Width)
    → slice_get bs k ≡ Some b → slice_get bs j ≡ Some c → i < b.count → i2 < c.count → IsPart p.layout b.element at width → IsPart p.layout c.element at2 other
    → ((k ≡ j) × (i ≡ i2)) ⊎ (b.base + i * b.size + at ≢ c.base + i2 * c.size + at2)
elements_apart p bs laid k j i i2 b c at width at2 other e f h l q r =
    let x = spans p b i at width (placed_at p bs laid.placed k b e) h q in
    let w = spans p c i2 at2 other (placed_at p bs laid.placed j c f) l r in
    let wide = width_some width in
    let wide2 = width_some other in
    let x1 = x.from in
    let x2 = x.to in
    let x3 = x.end in
    let w1 = w.from in
    let w2 = w.to in
    let w3 = w.end in
    ⊎_elim
    (λ less. let room = behind laid.low bs laid.place k j b c laid.apart e f less in inr (λ same. absurd (omega arith)))
    (λ m. ⊎_elim
    (λ even. one even (same even))
    (λ less. let room = behind laid.low bs laid.place j k c b laid.apart f e less in inr (λ same. absurd (omega arith)))
    m)
    (three k j)
  where
    same : k ≡ j → b ≡ c
    same even = let again : Some b ≡ Some c = sym e ∙ ap (slice_get bs) even ∙ f in cc

    one : k ≡ j → b ≡ c → ((k ≡ j) × (i ≡ i2)) ⊎ (b.base + i * b.size + at ≢ c.base + i2 * c.size + at2)
    one even it =
        subst (λ (d : Block). ((k ≡ j) × (i ≡ i2)) ⊎ (b.base + i * b.size + at ≢ d.base + i2 * d.size + at2)) it
        (in_block even (subst (λ (d : Block). i2 < d.count) (sym it) l) (subst (λ (d : Block). IsPart p.layout d.element at2 other) (sym it) r))
      where
        in_block : k ≡ j → i2 < b.count → IsPart p.layout b.element at2 other → ((k ≡ j) × (i ≡ i2)) ⊎ (b.base + i * b.size + at ≢ b.base + i2 * b.size + at2)
        in_block even l r =
            let x = spans p b i at width (placed_at p bs laid.placed k b e) h q in
            let w = spans p b i2 at2 other (placed_at p bs laid.placed k b e) l r in
            let wide = width_some width in
            let wide2 = width_some other in
            let x1 = x.from in
            let x2 = x.to in
            let w1 = w.from in
            let w2 = w.to in
            ⊎_elim
            (λ less. let room = element_between b.size i i2 less in inr (λ same. absurd (omega arith)))
            (λ m. ⊎_elim
            (λ is. inl (even, is))
            (λ less. let room = element_between b.size i2 i less in inr (λ same. absurd (omega arith)))
            m)
            (three i i2)
