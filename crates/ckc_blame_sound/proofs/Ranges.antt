-- An access through a true range is one of an element of a block, or of a member of it.
use Rattle.std.proofs.Common.{◌≡◌, ◌⊎◌, ⊎_elim, inl, inr, ℕ, zero, suc, ◌+◌, ◌-◌, ◌*◌, ◌%◌, ◌≤◌, ◌<◌, ◌==◌, List, [], ◌∷◌, refl, sym, ◌∙◌, ap, subst, arith}
use Rattle.std.specs.Prelude.{Bool, true, false, not, slice_get, Some, nat_le, nat_lt, ◌&&◌, ◌||◌, if◌then◌else◌}
use Rattle.std.specs.List.{list_any, All, Contains}
use Rattle.std.proofs.lemmas.List.Elements.{All-contains, Contains-get_or}
use Rattle.std.proofs.lemmas.Option.{slice_get_within, get_or_from_slice_get}
use Rattle.std.proofs.lemmas.Bool.{and_parts, leb-true, ltb-true, eqb-true, eq-eqb}
use Rattle.std.proofs.Math.Nat.{mul_comm, suc-mul}
use Rattle.ckc_base.specs.declared.arithmetic.Width.{Width}
use Rattle.ckc_types.specs.declared.types.CType.{CType, CType-F, out-CType}
use Rattle.ckc_types.specs.declared.types.Structs.{Structs}
use Rattle.ckc_types.specs.Same.{same_type}
use Rattle.ckc_typed.specs.declared.typed.Typed.{Typed}
use Rattle.ckc_typed.specs.Types.{is_integer, is_integer_form, is_pointer_form, is_scalar}
use Rattle.ckc_typed.specs.Constants.{size_of}
use Rattle.ckc_build_values.specs.Kinds.{width_of}
use Rattle.ckc_source.specs.declared.expr.Pointee.{Pointee}
use Rattle.ckc_source.specs.declared.program.MemberRun.{MemberRun}
use Rattle.ckc_source.specs.declared.program.Shape.{Shape}
use Rattle.ckc_source.specs.Blocks.{Block, end_of}
use Rattle.ckc_source.specs.Runs.{is_within, is_in_block, any_below, is_at, is_in_some_element, is_in_member, runs_of, runs_in, member_runs, is_in, is_true}
use Rattle.ckc_blame_sound.specs.Sound.{IsPlaced}
use Rattle.ckc_blame_sound.specs.Cells.{IsPart, IsPartIn, IsCell, IsMemberRun, AreMembers, IsReached}
use Rattle.ckc_blame_sound.proofs.Same.{same_equal}
use Rattle.ckc_blame_sound.proofs.Parts.{HasSize, sized_form, scalar_member}
use Rattle.ckc_blame_sound.proofs.Places.{elements_between, fewer, element_between}
use Rattle.ckc_blame_sound.proofs.Tests.{either}

-- ---- tests

pub record Within (begin end size n low high : ℕ) : Type 0 where
  pub sized : 0 < size
  pub begins : begin ≤ low
  pub ordered : low ≤ high
  pub ends : high ≤ end
  pub low_even : low % size ≡ begin % size
  pub high_even : high % size ≡ begin % size
  pub even : n % size ≡ begin % size

pub within : (begin end size n low high : ℕ) → is_within begin end size n low high ≡ true → Within begin end size n low high
within begin end size n low high e =
    let t0 = nat_lt 0 size in
    let t1 = nat_le begin low in
    let t2 = nat_le low high in
    let t3 = nat_le high end in
    let t4 = low % size == begin % size in
    let t5 = high % size == begin % size in
    let t6 = n % size == begin % size in
    let a = and_parts (t0 && t1 && t2 && t3 && t4 && t5) t6 e in
    let b = and_parts (t0 && t1 && t2 && t3 && t4) t5 a.0 in
    let c = and_parts (t0 && t1 && t2 && t3) t4 b.0 in
    let d = and_parts (t0 && t1 && t2) t3 c.0 in
    let f = and_parts (t0 && t1) t2 d.0 in
    let g = and_parts t0 t1 f.0 in
    record {
      sized = ltb-true 0 size g.0;
      begins = leb-true begin low g.1;
      ordered = leb-true low high f.1;
      ends = leb-true high end d.1;
      low_even = eqb-true (low % size) (begin % size) c.1;
      high_even = eqb-true (high % size) (begin % size) b.1;
      even = eqb-true (n % size) (begin % size) a.1;
    }

pub some_below : (k : ℕ) (test : ℕ → Bool) → any_below k test ≡ true → (i : ℕ) × (i < k) × (test i ≡ true)
unfolding any_below
some_below zero test h = absurd cc
some_below (suc k) test h = ⊎_elim
    (λ e. (k, omega arith, e))
    (λ e. let r = some_below k test e in (r.0, omega (arith, r.1), r.2))
    (either (test k) (any_below k test) h)

-- an element of a list that passes a test, and its number
pub some_of : {X : Type 0} (p : X → Bool) (xs : List X) → list_any p xs ≡ true → (k : ℕ) × (x : X) × (slice_get xs k ≡ Some x) × (p x ≡ true)
some_of p [] h = absurd cc
some_of p (x ∷ xs) h = ⊎_elim
    (λ e. (0, x, refl, e))
    (λ e. let r = some_of p xs e in (suc r.0, r.1, r.2, r.3))
    (either (p x) (list_any p xs) h)

-- an element of a list is in it
pub contains_at : {X : Type 0} (xs : List X) (k : ℕ) (x : X) → slice_get xs k ≡ Some x → Contains xs x
contains_at xs k x e =
    let h = slice_get_within xs k x e in
    subst (Contains xs) (get_or_from_slice_get xs k x x e) (Contains-get_or xs k x h)

-- an integer or a pointer is its only part
pub scalar_part : (structs : Structs) (t : CType) (offset : ℕ) (width : Width) → is_scalar t ≡ true → IsPart structs t offset width
    → (offset ≡ 0) × (width ≡ width_of t)
scalar_part structs t offset width h part = by (out-CType t) h part
  where
    by : (f : CType-F CType) → (is_integer_form f || is_pointer_form f) ≡ true → IsPartIn structs t f offset width → (offset ≡ 0) × (width ≡ width_of t)
    by CType-F.Int h part = part
    by CType-F.Unsigned h part = part
    by CType-F.Char h part = part
    by CType-F.Void h part = part
    by (CType-F.Struct tag) h part = absurd cc
    by (CType-F.Pointer kind u) h part = part

-- ---- numbers

-- an element that begins before the end of the range is whole in it
whole_before : (begin end s n low high a : ℕ) → Within begin end s n low high → a % s ≡ n % s → low ≤ a → a < high → a + s ≤ high
whole_before begin end s n low high a w e l h =
    let above = w.begins in
    let up = w.ordered in
    let i = elements_between s begin a (omega arith) (e ∙ w.even) in
    let j = elements_between s begin high (omega arith) w.high_even in
    let at = i.1 in
    let last = j.1 in
    let less = fewer s i.0 j.0 (omega arith) in
    let room = element_between s i.0 j.0 less in
    omega arith

index_of : (begin end s n low high a : ℕ) → Within begin end s n low high → a % s ≡ n % s → low ≤ a → (i : ℕ) × (a ≡ begin + i * s)
index_of begin end s n low high a w e l = let above = w.begins in elements_between s begin a (omega arith) (e ∙ w.even)

-- ---- a range in a whole block

module _ (p : Typed) (blocks : List Block) (k : ℕ) (b : Block) (there : slice_get blocks k ≡ Some b) (placed : IsPlaced p b) where
  block_cell : (to : Pointee) (n low high a offset : ℕ) (width : Width) → to.size ≡ size_of p.layout to.element → IsReached to n low high a
      → IsPart p.layout to.element offset width → is_in_block to n low high b ≡ true → IsCell p.layout blocks (a + offset) width (a == high)
  block_cell to n low high a offset width sized r part e =
      let q = and_parts (same_type to.element b.element) (if b.terminated then is_within b.base (end_of b - b.size) to.size n low high else not to.terminated && is_within b.base (end_of b) to.size n low high) e in
      let same = same_equal to.element b.element q.0 in
      let size : to.size ≡ b.size = sized ∙ ap (size_of p.layout) same ∙ sym placed.size in
      let away = subst (λ s. a % s ≡ n % s) size r.away in
      by b.terminated refl (subst (λ t. IsPart p.layout t offset width) same part) away
      (subst (λ s. (if b.terminated then is_within b.base (end_of b - b.size) s n low high else not to.terminated && is_within b.base (end_of b) s n low high) ≡ true) size q.1)
    where
      cell : (i : ℕ) → i < b.count → IsPart p.layout b.element offset width → a ≡ b.base + i * b.size
          → (b.terminated ≡ true → (i + 1 < b.count) ⊎ ((a == high) ≡ true)) → IsCell p.layout blocks (a + offset) width (a == high)
      cell i h part e ends = record {
        number = k;
        block = b;
        there = there;
        index = i;
        below = h;
        offset = offset;
        part = part;
        address = ap (λ x. x + offset) e;
        ends = ends;
      }

      open_end : b.terminated ≡ false → IsPart p.layout b.element offset width → a % b.size ≡ n % b.size → a < high
          → Within b.base (end_of b) b.size n low high → IsCell p.layout blocks (a + offset) width (a == high)
      open_end f part away h w =
          let i = index_of b.base (end_of b) b.size n low high a w away r.behind in
          let at = i.1 in
          let room = whole_before b.base (end_of b) b.size n low high a w away r.behind h in
          let top = w.ends in
          let whole = placed.whole in
          let positive = placed.sized in
          let turned = mul_comm b.size b.count in
          cell i.0 (fewer b.size i.0 b.count (omega arith)) part at (λ t. absurd (different t))
        where
          different : b.terminated ≡ true → ⊥
          different t = absurd cc

      before_last : IsPart p.layout b.element offset width → a % b.size ≡ n % b.size → a < high
          → Within b.base (end_of b - b.size) b.size n low high → IsCell p.layout blocks (a + offset) width (a == high)
      before_last part away h w =
          let i = index_of b.base (end_of b - b.size) b.size n low high a w away r.behind in
          let at = i.1 in
          let room = whole_before b.base (end_of b - b.size) b.size n low high a w away r.behind h in
          let top = w.ends in
          let whole = placed.whole in
          let positive = placed.sized in
          let turned = mul_comm b.size b.count in
          let more = suc-mul i.0 b.size in
          let next = fewer b.size (suc i.0) b.count (omega arith) in
          cell i.0 (omega arith) part at (λ t. inl (omega arith))

      at_last : b.terminated ≡ true → IsPart p.layout b.element offset width → a % b.size ≡ n % b.size → a ≡ high
          → Within b.base (end_of b - b.size) b.size n low high → IsCell p.layout blocks (a + offset) width (a == high)
      at_last t part away h w =
          let i = index_of b.base (end_of b - b.size) b.size n low high a w away r.behind in
          let at = i.1 in
          let top = w.ends in
          let whole = placed.whole in
          let positive = placed.sized in
          let turned = mul_comm b.size b.count in
          let room = element_between b.size 0 b.count (placed.terminated t).some in
          cell i.0 (fewer b.size i.0 b.count (omega arith)) part at (λ t. inr (eq-eqb a high h))

      by : (last : Bool) → b.terminated ≡ last → IsPart p.layout b.element offset width → a % b.size ≡ n % b.size
          → (if last then is_within b.base (end_of b - b.size) b.size n low high else not to.terminated && is_within b.base (end_of b) b.size n low high) ≡ true
          → IsCell p.layout blocks (a + offset) width (a == high)
      by true t part away e =
          let w = within b.base (end_of b - b.size) b.size n low high e in
          ⊎_elim (λ h. before_last part away h w) (λ h. at_last t part away h.0 w) r.before
      by false t part away e =
          let q = and_parts (not to.terminated) (is_within b.base (end_of b) b.size n low high) e in
          let w = within b.base (end_of b) b.size n low high q.1 in
          ⊎_elim (λ h. open_end t part away h w) (λ h. absurd (not_both to.terminated q.0 h.1)) r.before
        where
          not_both : (c : Bool) → not c ≡ true → c ≡ true → ⊥
          not_both true e f = absurd cc
          not_both false e f = absurd cc

  -- ---- a range in a member

  member_cell : (to : Pointee) (n low high a offset : ℕ) (width : Width) → (tag : ℕ) → out-CType b.element ≡ CType-F.Struct tag
      → (run : MemberRun) → IsMemberRun p.layout tag run → to.terminated ≡ false → IsReached to n low high a
      → IsPart p.layout to.element offset width → is_in_member to n low high b run ≡ true → IsCell p.layout blocks (a + offset) width (a == high)
  member_cell to n low high a offset width tag form run m bare r part e =
      let q = and_parts (same_type to.element run.ctype && nat_le (run.offset + to.size) b.size) (is_in_some_element b run.offset to.size n low high) e in
      let s = and_parts (same_type to.element run.ctype) (nat_le (run.offset + to.size) b.size) q.0 in
      let same : to.element ≡ m.member.ctype = same_equal to.element run.ctype s.0 ∙ m.same in
      let i = some_below b.count (λ i. is_at b (b.base + (i * b.size + run.offset)) to.size n low high) q.1 in
      let begin = b.base + (i.0 * b.size + run.offset) in
      let t = and_parts (nat_le (begin + to.size) (end_of b)) (is_within begin (begin + to.size) to.size n low high) i.2 in
      let w = within begin (begin + to.size) to.size n low high t.1 in
      let scalar = scalar_member p.layout tag m.front m.member m.stands sized in
      let whole = scalar_part p.layout to.element offset width (ap is_scalar same ∙ scalar) part in
      let zero = whole.0 in
      let at : a ≡ begin = ⊎_elim (λ h. begins_there begin w h) (λ h. absurd (not_both to.terminated bare h.1)) r.before in
      record {
        number = k;
        block = b;
        there = there;
        index = i.0;
        below = i.1;
        offset = run.offset;
        part = subst (λ f. IsPartIn p.layout b.element f run.offset width) (sym form)
            (record { front = m.front; member = m.member; stands = m.stands; there = m.there; wide = whole.1 ∙ ap width_of same });
        address = omega arith;
        ends = λ t. absurd (no_integer (placed.terminated t).integers);
      }
    where
      sized : HasSize p.layout tag
      sized = subst (λ f. 0 < sized_form p.layout f) form (subst (λ n. 0 < n) placed.size placed.sized)

      begins_there : (begin : ℕ) → Within begin (begin + to.size) to.size n low high → a < high → a ≡ begin
      begins_there begin w h =
          let room = whole_before begin (begin + to.size) to.size n low high a w r.away r.behind h in
          let top = w.ends in
          let bottom = w.begins in
          let from = r.behind in
          omega arith

      not_both : (c : Bool) → c ≡ false → c ≡ true → ⊥
      not_both true e f = absurd cc
      not_both false e f = absurd cc

      no_integer : is_integer b.element ≡ true → ⊥
      no_integer h = absurd (false_here (sym (ap is_integer_form form) ∙ h))
        where
          false_here : false ≡ true → ⊥
          false_here e = absurd cc

  members_cell : (shapes : List Shape) → AreMembers p.layout shapes → (to : Pointee) (n low high a offset : ℕ) (width : Width)
      → to.terminated ≡ false → IsReached to n low high a → IsPart p.layout to.element offset width
      → list_any (is_in_member to n low high b) (member_runs shapes b) ≡ true → IsCell p.layout blocks (a + offset) width (a == high)
  members_cell shapes are to n low high a offset width bare r part e = by (out-CType b.element) refl e
    where
      by : (f : CType-F CType) → out-CType b.element ≡ f → list_any (is_in_member to n low high b) (runs_in shapes f) ≡ true
          → IsCell p.layout blocks (a + offset) width (a == high)
      by (CType-F.Struct tag) form e =
          let q = some_of (is_in_member to n low high b) (runs_of (slice_get shapes tag)) e in
          member_cell to n low high a offset width tag form q.1 (are tag q.0 q.1 q.2) bare r part q.3
      by CType-F.Int form e = absurd cc
      by CType-F.Unsigned form e = absurd cc
      by CType-F.Char form e = absurd cc
      by CType-F.Void form e = absurd cc
      by (CType-F.Pointer kind u) form e = absurd cc

-- An access to an element that a pointer reaches within a true range, or to a member of it, is one of a block.
pub true_cell : (p : Typed) (shapes : List Shape) (blocks : List Block) (to : Pointee) (n low high a offset : ℕ) (width : Width)
    → All (IsPlaced p) blocks → AreMembers p.layout shapes → to.size ≡ size_of p.layout to.element
    → is_true shapes blocks to n low high ≡ true → IsReached to n low high a → IsPart p.layout to.element offset width
    → IsCell p.layout blocks (a + offset) width (a == high)
true_cell p shapes blocks to n low high a offset width placed are sized e r part =
    let q = some_of (is_in shapes to n low high) blocks e in
    let b = q.1 in
    let there = q.2 in
    let at = All-contains (IsPlaced p) blocks b placed (contains_at blocks q.0 b there) in
    let runs = list_any (is_in_member to n low high b) (member_runs shapes b) in
    let s = and_parts b.is_run (is_in_block to n low high b || (not to.terminated && runs)) q.3 in
    ⊎_elim
    (λ h. block_cell p blocks q.0 b there at to n low high a offset width sized r part h)
    (λ h. let t = and_parts (not to.terminated) runs h in
    members_cell p blocks q.0 b there at shapes are to n low high a offset width (not_true to.terminated t.0) r part t.1)
    (either (is_in_block to n low high b) (not to.terminated && runs) s.1)
  where
    not_true : (c : Bool) → not c ≡ true → c ≡ false
    not_true true e = absurd cc
    not_true false e = refl
