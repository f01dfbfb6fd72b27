-- Through a checked pointer of a well formed program, an access that its checks let through goes to an element of a block.
use Rattle.std.proofs.Common.{◌≡◌, ◌≢◌, ◌⊎◌, inl, inr, refl, sym, ap, subst, ◌∙◌, ℕ, ◌+◌, ◌-◌, ◌*◌, ◌%◌, ◌^◌, ◌≤◌, ◌<◌, Bool, true, false, List, map, length, replicate, arith}
use Rattle.std.specs.Prelude.{◌==◌, ◌&&◌, nat_le, nat_lt, if◌then◌else◌, IsTrue, ℤ, pos, negsuc, ◌+ℤ◌, slice_index, None, Some, Result, Ok, Err}
use Rattle.std.specs.List.{Contains}
use Rattle.std.proofs.lemmas.Bool.{and_parts, leb-true, ltb-true}
use Rattle.std.proofs.lemmas.List.{length-append, length-replicate, length-map, get_or-map}
use Rattle.std.proofs.lemmas.List.Elements.{All-contains}
use Rattle.std.proofs.lemmas.Int.{ints}
use Rattle.std.proofs.Math.IntN.{pos-*ℤ-pos}
use Rattle.std.proofs.Math.Nat.{mul-le-mul_left, add-mul-mod_self_left}
use Rattle.ckc_base.specs.declared.arithmetic.Width.{Width}
use Rattle.ckc_base.specs.declared.places.Pos.{Pos}
use Rattle.ckc_base.specs.declared.arithmetic.BinOp.TheVariants as binary
use Rattle.ckc_base.specs.declared.runtime_checks.Check.TheVariants as check
use Rattle.ckc_base.specs.Words.{applied}
use Rattle.ckc_types.specs.declared.types.CType.{CType}
use Rattle.ckc_source.specs.declared.expr.Access.{Access}
use Rattle.ckc_source.specs.declared.expr.Integer.{Integer}
use Rattle.ckc_source.specs.declared.expr.Integer.TheVariants.{Int, Unsigned, Char}
use Rattle.ckc_source.specs.declared.outcome.Halt.TheVariants.{Stuck}
use Rattle.ckc_source.specs.declared.expr.Pointee.{Pointee}
use Rattle.ckc_source.specs.declared.expr.Shift.{Shift}
use Rattle.ckc_source.specs.declared.expr.Through.{Through}
use Rattle.ckc_source.specs.declared.expr.Through.TheVariants as through
use Rattle.ckc_source.specs.declared.outcome.Halt.{Halt}
use Rattle.ckc_source.specs.declared.outcome.Range.{Range}
use Rattle.ckc_source.specs.declared.outcome.Range.TheVariants.{Without, Within}
use Rattle.ckc_source.specs.declared.outcome.Value.{Value}
use Rattle.ckc_source.specs.declared.program.Object.{Object}
use Rattle.ckc_source.specs.Blocks.{Block, block_of, end_of, lies_in}
use Rattle.ckc_source.specs.Code.{Expr, Number, Local, Limited, Array, Load, Member, Address, Moved, Added, Binary, And, Or, Choice, Narrow, Bare, Tested, Trusted, Program}
use Rattle.ckc_source.specs.Eval.{Store, given, stops, plain, ranged, reads_within, reads, at_address, in_range, exact_element, element_through, place_in, counted, moved_exactly, moves_checked, moves, amount, base_address, end_address, element, tests_within, tests, evaluated}
use Rattle.ckc_source.specs.Runs.{is_true}
use Rattle.ckc_source.specs.Words.{exact, as_address, elements_behind}
use Rattle.ckc_source_causes.specs.Layouts.{Layout, IsCellOf, IsInElement, PointsTo, HasElementsAt, NamesElements, LiesByType, IsLaidOutBy}
use Rattle.ckc_source_causes.specs.Ranges.{GivesRange, GivesOne, IsObject, LeadsTo}
use Rattle.ckc_source_causes.specs.WellFormed.{UnlessRaw}
use Rattle.ckc_source_causes.specs.Causes.{HoldsObjects}
use Rattle.ckc_source_causes.proofs.Elements.{IsElement, IsBefore, HasElements, in_place, part_lies, part_element, one_element, width_some}
use Rattle.ckc_source_causes.proofs.Given.{Goes, Holds, next, then_, known, there, either_way}
use Rattle.ckc_source_causes.proofs.Numbers.{away, moved_away, element_even, whole_before}
use Rattle.ckc_source_causes.proofs.Truths.{true_elements}

-- The value is null or has a range, with elements of the type at all its addresses that are so many elements away.
abbrev pub HasRange : Layout → List Block → CType → Bool → Value → Type 0
HasRange l blocks t last v = (v.number ≡ 0) ⊎ ((low : ℕ) × (high : ℕ) × (v.range ≡ Within low high) × HasElements l blocks t last v.number low high)

-- ---- addresses

address_there : (z : ℤ) (at : Pos) (a : ℕ) → at_address (as_address z) at ≡ Ok a → z ≡ pos a
address_there (pos n) at a e = by (nat_lt n (2 ^ 32)) e
  where
    by : (b : Bool) → at_address (if b then Some n else None) at ≡ Ok a → pos n ≡ pos a
    by true h = let same : n ≡ a = cc in ap pos same
    by false h = absurd cc
address_there (negsuc n) at a e = absurd cc

given_there : {A B : Type 0} (x : Result A Halt) (f : A → Result B Halt) (b : B) → given x f ≡ Ok b → (a : A) × (x ≡ Ok a) × (f a ≡ Ok b)
given_there (Ok a) f b e = (a, refl, e)
given_there (Err h) f b e = absurd cc

-- an address that is exact is so many elements behind a pointer that is not null
exact_there : (access : Access) (v : Value) (i a : ℕ) → exact_element access v i ≡ Ok a → (v.number ≢ 0) × (pos a ≡ elements_behind v.number access.size (exact access.index i))
exact_there access v i a e = by (v.number == 0) refl e
  where
    different : true ≡ false → ⊥
    different f = cc

    by : (b : Bool) → (v.number == 0) ≡ b → (if b then stops check.Null access.at else at_address (as_address (elements_behind v.number access.size (exact access.index i))) access.at) ≡ Ok a
        → (v.number ≢ 0) × (pos a ≡ elements_behind v.number access.size (exact access.index i))
    by true is h = absurd cc
    by false is h = ((λ zero. different (sym (ap (λ n. n == 0) zero) ∙ is)), sym (address_there (elements_behind v.number access.size (exact access.index i)) access.at a h))

before_there : (last : Bool) (a high : ℕ) → (if last then nat_le a high else nat_lt a high) ≡ true → IsBefore last a high
before_there true a high e = leb-true a high e
before_there false a high e = ltb-true a high e

-- an address that is tested is in the range
ranged_there : (last : Bool) (low high : ℕ) (at : Pos) (x a : ℕ) → in_range last (Within low high) at x ≡ Ok a → (x ≡ a) × (low ≤ a) × IsBefore last a high
ranged_there last low high at x a e = by (nat_le low x && (if last then nat_le x high else nat_lt x high)) refl e
  where
    by : (b : Bool) → (nat_le low x && (if last then nat_le x high else nat_lt x high)) ≡ b → (if b then Ok x else stops check.Bounds at) ≡ Ok a → (x ≡ a) × (low ≤ a) × IsBefore last a high
    by true f h =
        let same : x ≡ a = cc in
        let p = and_parts (nat_le low x) (if last then nat_le x high else nat_lt x high) f in
        (same, subst (λ y. low ≤ y) same (leb-true low x p.0), subst (λ y. IsBefore last y high) same (before_there last x high p.1))
    by false f h = absurd cc

-- ---- accesses

module _ (l : Layout) (blocks : List Block) (t : CType) where
  -- an address in the range of a pointer
  tested_element : (last : Bool) (access : Access) (v : Value) (i a : ℕ) → access.size ≡ l.size t → HasRange l blocks t last v → given (exact_element access v i) (in_range last v.range access.at) ≡ Ok a
      → IsElement l blocks t a
  tested_element last access v i a size h e = by h
    where
      there_is : (x : ℕ) × (exact_element access v i ≡ Ok x) × (in_range last v.range access.at x ≡ Ok a)
      there_is = given_there (exact_element access v i) (in_range last v.range access.at) a e

      by : HasRange l blocks t last v → IsElement l blocks t a
      by (inl zero) = absurd ((exact_there access v i there_is.0 there_is.1).0 zero)
      by (inr (low, high, range, elements)) =
          let r = ranged_there last low high access.at there_is.0 a (sym (ap (λ (x : Range). in_range last x access.at there_is.0) range) ∙ there_is.2) in
          let far : pos a ≡ elements_behind v.number access.size (exact access.index i) = sym (ap pos r.0) ∙ (exact_there access v i there_is.0 there_is.1).1 in
          elements a (subst (λ s. a % s ≡ v.number % s) size (away a v.number access.size (exact access.index i) far)) r.1 r.2

-- ---- what keeps a range

before_more : (last : Bool) (a u high : ℕ) → IsBefore last a u → u ≤ high → IsBefore last a high
before_more true a u high h less = omega arith
before_more false a u high h less = omega arith

not_null : (v : Value) → (v.number == 0) ≡ false → v.number ≡ 0 → ⊥
not_null v is zero = different (sym (ap (λ n. n == 0) zero) ∙ is)
  where
    different : true ≡ false → ⊥
    different f = cc

module _ (l : Layout) (blocks : List Block) (t : CType) (last : Bool) where
  moves_has : (shift : Shift) (v : Value) (i : ℕ) → IsTrue shift.checked → shift.size ≡ l.size t → HasRange l blocks t last v → Holds (HasRange l blocks t last) (moves shift v i)
  moves_has shift v i checked size h = by shift.checked checked
    where
      keeps : (a : ℕ) → (v.number == 0) ≡ false → pos a ≡ moved_exactly shift v.number (exact shift.index i) → HasRange l blocks t last v → HasRange l blocks t last (record { number = a; range = v.range })
      keeps a is to (inl zero) = absurd (not_null v is zero)
      keeps a is to (inr (low, high, range, elements)) =
          let same : a % l.size t ≡ v.number % l.size t = subst (λ s. a % s ≡ v.number % s) size (moved_away shift a v.number (exact shift.index i) to) in
          inr (low, high, range, λ b far from before. elements b (far ∙ same) from before)

      by_null : (b : Bool) → (v.number == 0) ≡ b
          → Holds (HasRange l blocks t last) (if b then stops check.Arith shift.at
          else given (at_address (as_address (moved_exactly shift v.number (exact shift.index i))) shift.at) (λ a. Ok (record { number = a; range = v.range })))
      by_null true is = tt
      by_null false is =
          known (HasRange l blocks t last) (at_address (as_address (moved_exactly shift v.number (exact shift.index i))) shift.at) (λ a. Ok (record { number = a; range = v.range }))
          (λ a to. keeps a is (sym (address_there (moved_exactly shift v.number (exact shift.index i)) shift.at a to)) h)

      by : (b : Bool) → b ≡ true → Holds (HasRange l blocks t last) (if b then moves_checked shift v i else plain (applied (if shift.back then binary.Sub else binary.Add) v.number (applied binary.Mul shift.size i)))
      by true c = by_null (v.number == 0) refl
      by false c = absurd cc

  tests_has : (size : ℕ) (form : Integer) (at : Pos) (v : Value) (k : ℕ) → HasRange l blocks t last v → Holds (HasRange l blocks t last) (tests size form at v k)
  tests_has size form at v k h = by (v.number == 0) refl h
    where
      fits : (low high u : ℕ) → HasElements l blocks t last v.number low high → (b : Bool) → (nat_le low v.number && nat_le v.number u && nat_le u high) ≡ b
          → Holds (HasRange l blocks t last) (if b then ranged v.number v.number u else stops check.Cast at)
      fits low high u elements true is =
          let p = and_parts (nat_le low v.number && nat_le v.number u) (nat_le u high) is in
          let q = and_parts (nat_le low v.number) (nat_le v.number u) p.0 in
          let above = leb-true low v.number q.0 in
          inr (v.number, u, refl, λ a far from before. elements a far (omega arith) (before_more last a u high before (leb-true u high p.1)))
      fits low high u elements false is = tt

      within_has : (low high : ℕ) → HasElements l blocks t last v.number low high → (upper : ℤ) → Holds (HasRange l blocks t last) (tests_within (Within low high) at v.number upper)
      within_has low high elements (pos u) = fits low high u elements (nat_le low v.number && nat_le v.number u && nat_le u high) refl
      within_has low high elements (negsuc u) = tt

      by : (b : Bool) → (v.number == 0) ≡ b → HasRange l blocks t last v → Holds (HasRange l blocks t last) (if b then plain 0 else tests_within v.range at v.number (elements_behind v.number size (exact form k)))
      by true is h = inl refl
      by false is (inl zero) = absurd (not_null v is zero)
      by false is (inr (low, high, range, elements)) =
          subst (λ r. Holds (HasRange l blocks t last) (tests_within r at v.number (elements_behind v.number size (exact form k)))) (sym range) (within_has low high elements (elements_behind v.number size (exact form k)))

-- ---- one element

-- The value is null, or its range holds the one element to which it points.
abbrev pub HasOne : ℕ → Value → Type 0
HasOne size v = (v.number ≡ 0) ⊎ ((low : ℕ) × (high : ℕ) × (v.range ≡ Within low high) × (low ≤ v.number) × (v.number + size ≤ high))

none_behind : (n size : ℕ) → elements_behind n size (pos 0) ≡ pos n
none_behind n size = ap (λ z. pos n +ℤ z) (pos-*ℤ-pos size 0) ∙ none n size
  where
    none : (n size : ℕ) → pos n +ℤ pos (size * 0) ≡ pos n
    none n size = omega (arith, ints)

behind : (n size k : ℕ) → elements_behind n size (pos k) ≡ pos (n + size * k)
behind n size k = ap (λ z. pos n +ℤ z) (pos-*ℤ-pos size k) ∙ sum n (size * k)
  where
    sum : (n k : ℕ) → pos n +ℤ pos k ≡ pos (n + k)
    sum n k = omega (arith, ints)

one_behind : (n size : ℕ) → elements_behind n size (pos 1) ≡ pos (n + size)
one_behind n size = ap (λ z. pos n +ℤ z) (pos-*ℤ-pos size 1) ∙ one n size
  where
    one : (n size : ℕ) → pos n +ℤ pos (size * 1) ≡ pos (n + size)
    one n size = omega (arith, ints)

-- one as an integer of any type
exact_one : (form : Integer) (n : ℕ) → n ≡ 1 → exact form n ≡ pos 1
exact_one Int n e = ap (exact Int) e
exact_one Unsigned n e = ap pos e
exact_one Char n e = ap pos e

exact_none : (form : Integer) (n : ℕ) → n ≡ 0 → exact form n ≡ pos 0
exact_none Int n e = ap (exact Int) e
exact_none Unsigned n e = ap pos e
exact_none Char n e = ap pos e

number_is : (m n : ℕ) (v : Value) → m ≡ n → plain m ≡ Ok v → v.number ≡ n
number_is m n v e is = let same : m ≡ v.number = cc in sym same ∙ e

one_in : (n size top : ℕ) → n + size ≤ top → HasOne size (record { number = n; range = Within n top })
one_in n size top room = inr (n, top, refl, omega arith, room)

same_end : (n size : ℕ) → n + size ≤ n + size
same_end n size = omega arith

one_at_least : (n size more : ℕ) → n + size ≤ n + size * (1 + more)
one_at_least n size more = let room : size * 1 ≤ size * (1 + more) = mul-le-mul_left size (omega arith) in omega arith

module _ (s : Store) where
  reads_one : (to : Pointee) (n size top : ℕ) (low high : ℤ) → low ≡ pos n → high ≡ pos top → n + size ≤ top → Holds (HasOne size) (reads s.shapes s.blocks to n low high)
  reads_one to n size top low high begins ends room =
      either_way (HasOne size) (n == 0) (plain 0) (reads_within s.shapes s.blocks to n low high) (inl refl)
      (subst (λ z. Holds (HasOne size) (reads_within s.shapes s.blocks to n z high)) (sym begins)
      (subst (λ z. Holds (HasOne size) (reads_within s.shapes s.blocks to n (pos n) z)) (sym ends)
      (either_way (HasOne size) (is_true s.shapes s.blocks to n n top) (ranged n n top) (Err Stuck) (one_in n size top room) tt)))

  ones : (p : Program) (l : Layout) (t : CType) (last : Bool) (e : Expr) → GivesRange p l t last e → GivesOne e → Holds (HasOne (l.size t)) (evaluated s e)
  ones p l t last (Number n) g one = inl g
  ones p l t last (Limited x limits) g one =
      let n = slice_index s.locals x in
      reads_one limits.to n (l.size t) (n + limits.to.size * (1 + one.upper_add.0)) (end_address s.locals limits.to.size n limits.lower) (end_address s.locals limits.to.size n limits.upper)
      (ap (λ b. elements_behind (base_address s.locals n b) limits.to.size (amount s.locals limits.lower.variable limits.lower.add)) one.lower_base
      ∙ ap (λ y. elements_behind n limits.to.size (amount s.locals y limits.lower.add)) one.lower_variable
      ∙ ap (λ z. elements_behind n limits.to.size z) one.lower_add ∙ none_behind n limits.to.size)
      (ap (λ b. elements_behind (base_address s.locals n b) limits.to.size (amount s.locals limits.upper.variable limits.upper.add)) one.upper_base
      ∙ ap (λ y. elements_behind n limits.to.size (amount s.locals y limits.upper.add)) one.upper_variable
      ∙ ap (λ z. elements_behind n limits.to.size z) one.upper_add.1 ∙ behind n limits.to.size (1 + one.upper_add.0))
      (subst (λ size. n + size ≤ n + limits.to.size * (1 + one.upper_add.0)) g.size (one_at_least n limits.to.size one.upper_add.0))
  ones p l t last (Member to many access e i) g one =
      then_ (HasOne (l.size t)) (evaluated s e) _ (λ v. then_ (HasOne (l.size t)) (evaluated s i) _ (λ k. then_ (HasOne (l.size t)) (element access v k.number) _ (λ a.
      there (HasOne (l.size t)) _ _ (λ n. subst (λ c. Holds (HasOne (l.size t)) (given (counted s a c) (λ m. reads s.shapes s.blocks to n (pos n) (elements_behind n to.size m)))) (sym one)
      (reads_one to n (l.size t) (n + l.size t) (pos n) (elements_behind n to.size (pos 1)) refl (one_behind n to.size ∙ ap (λ size. pos (n + size)) g.size) (same_end n (l.size t)))))))
  ones p l t last (Address bytes access e i) g one =
      then_ (HasOne (l.size t)) (evaluated s e) _ (λ v. then_ (HasOne (l.size t)) (evaluated s i) _ (λ k. then_ (HasOne (l.size t)) (element access v k.number) _ (λ a.
      subst (λ b. HasOne (l.size t) (record { number = place_in a access.offset; range = Within (place_in a access.offset) (place_in a access.offset + b) })) (sym g.1) (one_in (place_in a access.offset) (l.size t) (place_in a access.offset + l.size t) (same_end (place_in a access.offset) (l.size t))))))
  ones p l t last (Choice c a b) g one =
      then_ (HasOne (l.size t)) (evaluated s c) _ (λ x. either_way (HasOne (l.size t)) (x.number == 0) (evaluated s b) (evaluated s a) (ones p l t last b g.1 one.1) (ones p l t last a g.0 one.0))
  ones p l t last (Tested size form at e k) g one =
      then_ (HasOne (l.size t)) (evaluated s e) _ (λ v. known (HasOne (l.size t)) (evaluated s k) _ (λ c is.
      either_way (HasOne (l.size t)) (v.number == 0) (plain 0) _ (inl refl)
      (subst (λ z. Holds (HasOne (l.size t)) (tests_within v.range at v.number z))
      (sym (ap (λ z. elements_behind v.number size z) (exact_one form c.number (number_is 1 1 c refl (sym (ap (evaluated s) one) ∙ is))) ∙ one_behind v.number size ∙ ap (λ size. pos (v.number + size)) g.0))
      (within_one v.range at v.number (l.size t)))))
    where
      within_one : (r : Range) (at : Pos) (n size : ℕ) → Holds (HasOne size) (tests_within r at n (pos (n + size)))
      within_one (Within low high) at n size = either_way (HasOne size) (nat_le low n && nat_le n (n + size) && nat_le (n + size) high) (ranged n n (n + size)) (stops check.Cast at) (one_in n size (n + size) (same_end n size)) tt
      within_one Without at n size = tt
  ones p l t last (Trusted to form e k) g one =
      then_ (HasOne (l.size t)) (evaluated s e) _ (λ v. known (HasOne (l.size t)) (evaluated s k) _ (λ c is.
      reads_one to v.number (l.size t) (v.number + l.size t) (pos v.number) (elements_behind v.number to.size (exact form c.number)) refl
      (ap (λ z. elements_behind v.number to.size z) (exact_one form c.number (number_is 1 1 c refl (sym (ap (evaluated s) one) ∙ is))) ∙ one_behind v.number to.size ∙ ap (λ size. pos (v.number + size)) g.size)
      (same_end v.number (l.size t))))
  ones p l t last (Array at bytes) g one = absurd one
  ones p l t last (Moved shift e i) g one = absurd one
  ones p l t last (Added shift i e) g one = absurd one
  ones p l t last (Local x) g one = absurd g
  ones p l t last (Load width access e i) g one = absurd g
  ones p l t last (Binary operation is_signed at a b) g one = absurd g
  ones p l t last (And a b) g one = absurd g
  ones p l t last (Or a b) g one = absurd g
  ones p l t last (Narrow e) g one = absurd g
  ones p l t last (Bare e) g one = absurd g

-- ---- objects

module _ (p : Program) (l : Layout) (s : Store) (laid : IsLaidOutBy p l) (holds : HoldsObjects p l s) (t : CType) where
  block_there : (o : Object) → Contains p.objects o → Contains (map block_of p.objects) (block_of o)
  block_there o there = (
    there.0,
    subst (λ (n : ℕ). there.0 < n) (sym (length-map p.objects block_of)) there.1,
    get_or-map block_of p.objects there.0 o (block_of o) there.1 ∙ ap block_of there.2,
  )

  long : (o : Object) → o.at + o.size * o.count ≤ end_of (block_of o)
  long o =
      let many = length-append o.initial (replicate (o.size * o.count - length o.initial) 0) in
      let zeros = length-replicate {A = ℕ} (o.size * o.count - length o.initial) 0 in
      omega arith

  -- an element of an object
  object_element : (o : Object) → Contains p.objects o → o.element ≡ t → (k a : ℕ) → k ≤ o.count → o.at ≤ a → a % l.size t ≡ o.at % l.size t → a + l.size t ≤ o.at + l.size t * k → IsElement l s.blocks t a
  object_element o there same k a few from far below offset width cell =
      let lies = All-contains (LiesByType l) p.objects o laid.objects there in
      let size : o.size ≡ l.size t = lies.size ∙ ap l.size same in
      let room : l.size t * k ≤ l.size t * o.count = mul-le-mul_left (l.size t) few in
      let end : o.at + l.size t * o.count ≤ end_of (block_of o) = subst (λ n. o.at + n * o.count ≤ end_of (block_of o)) size (long o) in
      in_place l width a offset s.blocks holds.blocks
      (holds.objects width (a + offset)
      (part_lies l (map block_of p.objects) (block_of o) t a offset width (block_there o there) from (omega arith) (λ wide. element_even (l.size t) o.at a from far (laid.sizes t wide) lies.at) cell))

  one_object : (a : ℕ) → HasElementsAt p t false a 1 → IsElement l s.blocks t a
  one_object a h =
      subst (IsElement l s.blocks t) h.at (object_element h.object h.there h.element 1 h.object.at h.room (omega arith) refl (once h.object.at (l.size t)))
    where
      once : (a size : ℕ) → a + size ≤ a + size * 1
      once a size = omega arith

  array_elements : (last : Bool) (a bytes : ℕ) → NamesElements p l t last a bytes → HasElements l s.blocks t last a a (a + bytes)
  array_elements true at bytes (elements, is, h) a far from before =
      object_element h.object h.there h.element (elements + 1) a h.room (subst (λ x. x ≤ a) (sym h.at) from) (far ∙ ap (λ x. x % l.size t) (sym h.at))
      (let begin = h.at in let more = suc_times (l.size t) elements in omega arith)
    where
      suc_times : (size k : ℕ) → size * (k + 1) ≡ size * k + size
      suc_times size k = grind arith
  array_elements false at bytes (elements, is, h) a far from before =
      object_element h.object h.there h.element elements a h.room (subst (λ x. x ≤ a) (sym h.at) from) (far ∙ ap (λ x. x % l.size t) (sym h.at))
      (let begin = h.at in let room = whole_before (l.size t) at a (at + bytes) from (omega arith) far (ap (λ b. (at + b) % l.size t) is ∙ add-mul-mod_self_left at (l.size t) elements) before in omega arith)

-- ---- ranges

-- the same, with the blocks of a store
abbrev HasRangeIn : Layout → Store → CType → Bool → Value → Type 0
HasRangeIn l s t last v = HasRange l s.blocks t last v

module _ (p : Program) (l : Layout) (s : Store) (laid : IsLaidOutBy p l) (holds : HoldsObjects p l s) where
  reads_has : (t : CType) (last : Bool) (to : Pointee) → PointsTo l t last to → (n : ℕ) (low high : ℤ) → Holds (HasRangeIn l s t last) (reads s.shapes s.blocks to n low high)
  reads_has t last to points n low high = either_way (HasRangeIn l s t last) (n == 0) (plain 0) (reads_within s.shapes s.blocks to n low high) (inl refl) (by low high)
    where
      tested : (low high : ℕ) (b : Bool) → is_true s.shapes s.blocks to n low high ≡ b → Holds (HasRangeIn l s t last) (if b then ranged n low high else Err Stuck)
      tested low high true e = inr (low, high, refl, true_elements p l laid s.blocks holds.blocks t to n low high last points (sym (ap (λ x. is_true x s.blocks to n low high) holds.shapes) ∙ e))
      tested low high false e = tt

      by : (low high : ℤ) → Holds (HasRangeIn l s t last) (reads_within s.shapes s.blocks to n low high)
      by (pos low) (pos high) = tested low high (is_true s.shapes s.blocks to n low high) refl
      by (pos low) (negsuc high) = tt
      by (negsuc low) (pos high) = tt
      by (negsuc low) (negsuc high) = tt

  -- ---- the element that an access leads to

  named_element : (t : CType) (e : Expr) (v : Value) (a : ℕ) → IsObject p t e → evaluated s e ≡ Ok v → ◌≡◌ {A = Result ℕ Halt} (Ok v.number) (Ok a) → IsElement l s.blocks t a
  named_element t (Number n) v a object is goes =
      let number : n ≡ v.number = cc in
      let at : v.number ≡ a = cc in
      subst (IsElement l s.blocks t) (number ∙ at) (one_object p l s laid holds t n object)
  named_element t (Local x) v a object is goes = absurd object
  named_element t (Limited x limits) v a object is goes = absurd object
  named_element t (Array at bytes) v a object is goes = absurd object
  named_element t (Load w access e i) v a object is goes = absurd object
  named_element t (Member to many access e i) v a object is goes = absurd object
  named_element t (Address bytes access e i) v a object is goes = absurd object
  named_element t (Moved shift e i) v a object is goes = absurd object
  named_element t (Added shift i e) v a object is goes = absurd object
  named_element t (Binary operation is_signed at b c) v a object is goes = absurd object
  named_element t (And b c) v a object is goes = absurd object
  named_element t (Or b c) v a object is goes = absurd object
  named_element t (Choice b c d) v a object is goes = absurd object
  named_element t (Narrow e) v a object is goes = absurd object
  named_element t (Bare e) v a object is goes = absurd object
  named_element t (Tested size form at e k) v a object is goes = absurd object
  named_element t (Trusted to form e k) v a object is goes = absurd object

  single_element : (access : Access) (t : CType) (v : Value) (k a : ℕ) → HasRange l s.blocks t false v → HasOne (l.size t) v → k ≡ 0 → exact_element access v k ≡ Ok a → IsElement l s.blocks t a
  single_element access t v k a h one none at = by h one
    where
      there_is : (v.number ≢ 0) × (pos a ≡ elements_behind v.number access.size (exact access.index k))
      there_is = exact_there access v k a at

      same : a ≡ v.number
      same = let e : pos a ≡ pos v.number = there_is.1 ∙ ap (λ z. elements_behind v.number access.size z) (exact_none access.index k none) ∙ none_behind v.number access.size in cc

      by : HasRange l s.blocks t false v → HasOne (l.size t) v → IsElement l s.blocks t a
      by (inl zero) one = absurd (there_is.0 zero)
      by (inr h) (inl zero) = absurd (there_is.0 zero)
      by (inr (low, high, range, elements)) (inr (from, upto, ends, above, room)) =
          let both : ◌≡◌ {A = Range} (Within low high) (Within from upto) = sym range ∙ ends in
          let begin : low ≡ from = cc in
          let end : high ≡ upto = cc in
          λ offset width cell.
          elements a (ap (λ x. x % l.size t) same) (let here = same in omega arith) (let here = same in let inside = cell.inside in let some = width_some width in omega arith) offset width cell

  leads_there : (how : Through) (access : Access) (t : CType) (e i : Expr) (v k : Value) (a : ℕ) → access.size ≡ l.size t → LeadsTo p l how t e i
      → ((last : Bool) → GivesRange p l t last e → HasRange l s.blocks t last v) → evaluated s e ≡ Ok v → evaluated s i ≡ Ok k → element_through how access v k.number ≡ Ok a → IsElement l s.blocks t a
  leads_there through.Named access t e i v k a size g has is here at = named_element t e v a g is at
  leads_there through.Raw access t e i v k a size g has is here at = absurd g
  leads_there through.One access t e i v k a size g has is here at =
      single_element access t v k.number a (has false g.0) (subst (Holds (HasOne (l.size t))) is (ones s p l t false e g.0 g.1.0)) (number_is 0 0 k refl (sym (ap (evaluated s) g.1.1) ∙ here)) at
  leads_there through.Array access t e i v k a size g has is here at = tested_element l s.blocks t false access v k.number a size (has false g) at
  leads_there through.Terminated access t e i v k a size g has is here at = tested_element l s.blocks t true access v k.number a size (has true g) at

  -- ---- expressions

  pub has_range : (t : CType) (last : Bool) (e : Expr) → GivesRange p l t last e → Holds (HasRangeIn l s t last) (evaluated s e)
  has_range t last (Number n) g = inl g
  has_range t last (Limited x limits) g =
      let n = slice_index s.locals x in
      reads_has t last limits.to g n (end_address s.locals limits.to.size n limits.lower) (end_address s.locals limits.to.size n limits.upper)
  has_range t last (Array at bytes) g = inr (at, at + bytes, refl, array_elements p l s laid holds t last at bytes g)
  has_range t last (Member to many access e i) g =
      then_ (HasRangeIn l s t last) (evaluated s e) _ (λ v. then_ (HasRangeIn l s t last) (evaluated s i) _ (λ k. then_ (HasRangeIn l s t last) (element access v k.number) _ (λ a.
      there (HasRangeIn l s t last) _ _ (λ n. then_ (HasRangeIn l s t last) (counted s a many) _ (λ m. reads_has t last to g n (pos n) (elements_behind n to.size m))))))
  has_range t last (Address bytes access e i) g =
      let u = g.2.0 in
      known (HasRangeIn l s t last) (evaluated s e) _ (λ v is. known (HasRangeIn l s t last) (evaluated s i) _ (λ k here. known (HasRangeIn l s t last) (element access v k.number) _ (λ a at.
      let whole = leads_there access.through access u e i v k a g.2.1 g.2.3 (λ ends h. subst (Holds (HasRangeIn l s u ends)) is (has_range u ends e h)) is here at in
      let part = part_element l s.blocks u t a access.offset whole (subst (λ n. IsInElement l u access.offset n (l.is_wide t)) g.1 g.2.2) in
      inr (
        place_in a access.offset,
        place_in a access.offset + bytes,
        refl,
        subst (λ ends. HasElements l s.blocks t ends (place_in a access.offset) (place_in a access.offset) (place_in a access.offset + bytes)) (sym g.0)
            (subst (λ n. HasElements l s.blocks t false (place_in a access.offset) (place_in a access.offset) (place_in a access.offset + n)) (sym g.1) (one_element l s.blocks t (place_in a access.offset) part)),
      ))))
  has_range t last (Moved shift e i) g =
      next (HasRangeIn l s t last) (HasRangeIn l s t last) (evaluated s e) _ (has_range t last e g.2) (λ v h. then_ (HasRangeIn l s t last) (evaluated s i) _ (λ k. moves_has l s.blocks t last shift v k.number g.0 g.1 h))
  has_range t last (Added shift i e) g =
      then_ (HasRangeIn l s t last) (evaluated s i) _ (λ k. next (HasRangeIn l s t last) (HasRangeIn l s t last) (evaluated s e) _ (has_range t last e g.2) (λ v h. moves_has l s.blocks t last shift v k.number g.0 g.1 h))
  has_range t last (Choice c a b) g =
      then_ (HasRangeIn l s t last) (evaluated s c) _ (λ x. either_way (HasRangeIn l s t last) (x.number == 0) (evaluated s b) (evaluated s a) (has_range t last b g.1) (has_range t last a g.0))
  has_range t last (Tested size form at e k) g =
      next (HasRangeIn l s t last) (HasRangeIn l s t last) (evaluated s e) _ (has_range t last e g.1) (λ v h. then_ (HasRangeIn l s t last) (evaluated s k) _ (λ c. tests_has l s.blocks t last size form at v c.number h))
  has_range t last (Trusted to form e k) g =
      then_ (HasRangeIn l s t last) (evaluated s e) _ (λ v. then_ (HasRangeIn l s t last) (evaluated s k) _ (λ c. reads_has t last to g v.number (pos v.number) (elements_behind v.number to.size (exact form c.number))))
  has_range t last (Local x) g = absurd g
  has_range t last (Load width access e i) g = absurd g
  has_range t last (Binary operation is_signed at a b) g = absurd g
  has_range t last (And a b) g = absurd g
  has_range t last (Or a b) g = absurd g
  has_range t last (Narrow e) g = absurd g
  has_range t last (Bare e) g = absurd g

  -- ---- cells

  unless_raw : (how : Through) (X : Type 0) → UnlessRaw how X → how ≢ through.Raw → X
  unless_raw through.Named X x h = x
  unless_raw through.Raw X x h = absurd (h refl)
  unless_raw through.One X x h = x
  unless_raw through.Array X x h = x
  unless_raw through.Terminated X x h = x

  -- What is read or written so far on in the element that an access goes to lies in a block, unless it goes through a `T *`.
  pub checked_lies : (access : Access) (e i : Expr) (v k : Value) (a offset : ℕ) (width : Width) → Goes p l access.through access e i (λ t. IsCellOf l t offset width) → access.through ≢ through.Raw
      → evaluated s e ≡ Ok v → evaluated s i ≡ Ok k → element access v k.number ≡ Ok a → lies_in width (place_in a offset) s.blocks ≡ true
  checked_lies access e i v k a offset width g checked is here at =
      let x = unless_raw access.through ((t : CType) × (access.size ≡ l.size t) × LeadsTo p l access.through t e i × IsCellOf l t offset width) g checked in
      leads_there access.through access x.0 e i v k a x.1 x.2 (λ last h. subst (Holds (HasRangeIn l s x.0 last)) is (has_range x.0 last e h)) is here at offset width x.3
