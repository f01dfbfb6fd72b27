-- The claims of a pointer that stands for itself.
use Rattle.std.proofs.Common.{◌≡◌, ◌⊎◌, inl, inr, refl, sym, ap, subst, ◌∙◌, ℕ, Bool, true, false, List, arith}
use Rattle.std.specs.Prelude.{◌+◌, ◌<◌, ◌≤◌, ◌^◌, ◌&&◌, length, if◌then◌else◌, ℤ, pos, ◌+ℤ◌, Option, None, Some, IfSome, Result, Ok, IsOk}
use Rattle.std.specs.Option.{option_or}
use Rattle.std.proofs.lemmas.Int.{ints}
use Rattle.ckc_base.specs.declared.arithmetic.Width.TheVariants.{Word}
use Rattle.ckc_types.specs.declared.types.Kind.{Kind}
use Rattle.ckc_types.specs.declared.types.Kind.TheVariants as kind
use Rattle.ckc_types.specs.declared.types.CType.{CType}
use Rattle.ckc_linear.specs.declared.forms.Base.TheVariants as base
use Rattle.ckc_linear.specs.declared.forms.Form.{Form}
use Rattle.ckc_typed.specs.declared.typed.Range.{Range}
use Rattle.ckc_typed.specs.declared.typed.Range.TheVariants as range
use Rattle.ckc_typed.specs.Types.{is_pointer, kind_of}
use Rattle.ckc_blame_sound.specs.ckc_bounds_points.specs.Shown.{Known}
use Rattle.ckc_blame_sound.specs.ckc_bounds_points.specs.Flow.{State}
use Rattle.ckc_blame_sound.specs.ckc_bounds_points.specs.Forms.{base_form, constant_form}
use Rattle.ckc_blame_sound.specs.ckc_bounds_ranges.specs.Rows.{range_from}
use Rattle.ckc_blame_sound.specs.ckc_bounds_views.specs.declared.variables.Own.{Own}
use Rattle.ckc_blame_sound.specs.ckc_bounds_views.specs.Parts.{NodeView, capped, next_behind, with_last}
use Rattle.ckc_blame_sound.specs.ckc_bounds_views.specs.Fresh.{own_fresh}
use Rattle.ckc_blame_sound.specs.ckc_bounds_views.specs.Places.{with_own, own_place, pointer_place}
use Rattle.ckc_blame_sound.specs.ckc_bounds_views.specs.Ranges.{range_by_type, own_numbers, pointer_range}
use Rattle.ckc_blame_sound.specs.ckc_bounds_statements.specs.Paths.{Here}
use Rattle.ckc_source.specs.declared.expr.Count.{Count}
use Rattle.ckc_source.specs.declared.expr.Count.TheVariants as count
use Rattle.ckc_source.specs.declared.expr.Pointee.{Pointee}
use Rattle.ckc_source.specs.declared.outcome.Halt.{Halt}
use Rattle.ckc_source.specs.declared.outcome.Value.{Value}
use Rattle.ckc_source.specs.Blocks.{loaded}
use Rattle.ckc_source.specs.LaidOut.{HoldBytes}
use Rattle.ckc_source.specs.Eval.{Store, given, counted, reads, loads_pointer}
use Rattle.ckc_source.specs.Runs.{is_true}
use Rattle.ckc_source.specs.Words.{elements_behind}
use Rattle.ckc_build_values.specs.Kinds.{pointee_of, size_behind, count_of_kind}
use Rattle.ckc_blame_sound.specs.Settings.{Setting}
use Rattle.ckc_blame_sound.specs.Values.{number_of, IsNumberOf}
use Rattle.ckc_blame_sound.specs.Points.{HoldsAt}
use Rattle.ckc_blame_sound.specs.Bodies.{AreFresh}
use Rattle.ckc_blame_pointers.specs.Valuations.{Valuation, Fits, Extends, IsInRange, IsReadIn, RangeBetween}
use Rattle.ckc_blame_pointers.specs.Meant.{IsNotStuck}
use Rattle.ckc_blame_pointers.specs.Owed.{IfGives}
use Rattle.ckc_blame_pointers.proofs.Claims.{IsOne, Placed, SideGoes, stays, placed_as}
use Rattle.ckc_blame_pointers.proofs.Given.{given_gives, some_gives, gives_weaker, ok_comes}
use Rattle.ckc_blame_pointers.proofs.Loads.{loaded_in}
use Rattle.ckc_blame_pointers.proofs.Moving.{with_address, address_added, address_kept, at_base}
use Rattle.ckc_blame_pointers.proofs.Later.{numbered, numbered_extends, numbered_numbers, numbers_kept, number_there, extends_less, extends_on, next_more, still_fits}
use Rattle.ckc_blame_pointers.proofs.Nodes.{node_fresh, NodeClaims, narrow}
use Rattle.ckc_blame_pointers.proofs.Reading.{Ranged, Reads, read_gives}
use Rattle.ckc_blame_pointers.proofs.Rows.{pointer_word}
use Rattle.ckc_blame_pointers.proofs.Numbers.{same_number, one_behind}

pub same_count : (c z : ℤ) → ◌≡◌ {A = Option Count} (Some (count.Fixed c)) (Some (count.Fixed z)) → c ≡ z
same_count c z e = cc

-- a pointer that is null, or has a true range of so many elements from itself up
abbrev pub IsNullOrRanged : Store → Pointee → ℤ → Value → Type 0
IsNullOrRanged store to c v = (v.number ≡ 0) ⊎ Ranged store.shapes store.blocks to v.number (pos v.number) (elements_behind v.number to.size c) v

-- A pointer in memory that has a number of elements is a word, and null or in range, if it is read.
pub pointer_gives : (store : Store) → HoldBytes store.blocks → (to : Pointee) (m : Count) (begin a : ℕ)
    → IfGives (λ v. (c : ℤ) × (counted store begin m ≡ Ok c) × (v.number < 2 ^ 32) × IsNullOrRanged store to c v) (loads_pointer store to m begin a)
pointer_gives store bytes to m begin a =
    some_gives Comes (loaded Word a store.blocks) (λ n. given (counted store begin m) (λ c. reads store.shapes store.blocks to n (pos n) (elements_behind n to.size c)))
    (λ n there. given_gives Comes (counted store begin m) (λ c. reads store.shapes store.blocks to n (pos n) (elements_behind n to.size c))
    (λ c is. gives_weaker (Reads store.shapes store.blocks to n (pos n) (elements_behind n to.size c)) Comes (reads store.shapes store.blocks to n (pos n) (elements_behind n to.size c))
    (read_gives store.shapes store.blocks to n (pos n) (elements_behind n to.size c)) (λ v r. comes n there c is v r)))
  where
    Comes : Value → Type 0
    Comes v = (c : ℤ) × (counted store begin m ≡ Ok c) × (v.number < 2 ^ 32) × IsNullOrRanged store to c v

    comes : (n : ℕ) → loaded Word a store.blocks ≡ Some n → (c : ℤ) → counted store begin m ≡ Ok c → (v : Value) → Reads store.shapes store.blocks to n (pos n) (elements_behind n to.size c) v → Comes v
    comes n there c is v r =
        let both : (v.number < 2 ^ 32) × IsNullOrRanged store to c v =
        subst (λ k. (k < 2 ^ 32) × ((k ≡ 0) ⊎ Ranged store.shapes store.blocks to k (pos k) (elements_behind k to.size c) v)) (sym r.number) (loaded_in Word a store.blocks bytes n there, r.ranged_there) in
        (c, is, both.0, both.1)

-- the same of a constant number of elements
pub fixed_gives : (store : Store) → HoldBytes store.blocks → (to : Pointee) (c : ℤ) (begin a : ℕ)
    → IfGives (λ v. (v.number < 2 ^ 32) × IsNullOrRanged store to c v) (loads_pointer store to (count.Fixed c) begin a)
fixed_gives store bytes to c begin a =
    gives_weaker (λ v. (z : ℤ) × (counted store begin (count.Fixed c) ≡ Ok z) × (v.number < 2 ^ 32) × IsNullOrRanged store to z v) (λ v. (v.number < 2 ^ 32) × IsNullOrRanged store to c v)
    (loads_pointer store to (count.Fixed c) begin a) (pointer_gives store bytes to (count.Fixed c) begin a)
    (λ v r. subst (λ z. (v.number < 2 ^ 32) × IsNullOrRanged store to z v) (same_ok r.0 c (sym r.1)) (r.2, r.3))
  where
    same_ok : (z c : ℤ) → ◌≡◌ {A = Result ℤ Halt} (Ok z) (Ok c) → z ≡ c
    same_ok z c e = cc

-- if it may be read
pub fixed_reads : (store : Store) → HoldBytes store.blocks → (to : Pointee) (c : ℤ) (begin a : ℕ) → IsOk (loads_pointer store to (count.Fixed c) begin a)
    → IsNotStuck (λ v. (v.number < 2 ^ 32) × IsNullOrRanged store to c v) (loads_pointer store to (count.Fixed c) begin a)
fixed_reads store bytes to c begin a ok = ok_comes (λ v. (v.number < 2 ^ 32) × IsNullOrRanged store to c v) (loads_pointer store to (count.Fixed c) begin a) ok (fixed_gives store bytes to c begin a)

-- ---- a pointer that stands for itself

-- It and its own fresh variable, if it needs one, may stand for any address and any number of the type of that. Its
-- range is said in each valuation in which they stand for these.
module _ (s : Setting) (store : Store) (entry : List ℕ) (here : Here) (h : HoldsAt s store entry here) (t : CType) (pointer : is_pointer t ≡ true) (n : NodeView) (alone : n.stands_alone ≡ true) (known : n.null ≡ false)
    (nowhere : (first : ℕ) (facts : Known) → n.place t first facts ≡ None) (kept : (widened : List ℕ) → n.fresh (record here.at { widened = widened }) ≡ n.fresh here.at)
    (r : Own → Range) (ranged : (own : Own) (first fresh : ℕ) (widened : List ℕ) → n.range t own first fresh (record here.at { widened = widened }) ≡ r own)
    (between : (own : Own) (first limit : ℕ) → first ≤ own.value → own.value < limit → RangeBetween first limit (r own)) (x : Value) (z : ℤ) where
  abbrev own : ℕ → ℕ
  own first = capped first n.values

  abbrev ts : List CType
  ts = n.fresh here.at

  abbrev pub IsOwnRange : Option CType → Type 0
  IsOwnRange o = (own : Own) (v : Valuation) → Fits s.frame store.locals v → v.addresses own.value ≡ x.number → IfSome o (λ u. v.numbers (capped own.fresh 1) ≡ z) → IsInRange s store v t (r own) x

  own_is : with_own t n ≡ capped n.values 1
  own_is = ap (λ b. if b && n.stands_alone then capped n.values 1 else n.values) pointer ∙ ap (λ b. if true && b then capped n.values 1 else n.values) alone

  place_is : (first : ℕ) (facts : Known) → pointer_place t n first facts ≡ Some (base_form (base.Value (own first)))
  place_is first facts =
      ap (λ b. if b then option_or (n.place t first facts) (own_place n first) else None) pointer ∙ ap (λ o. option_or o (own_place n first)) (nowhere first facts)
      ∙ ap (λ b. if b then Some (base_form (base.Value (capped first n.values))) else None) alone

  range_is : (first fresh : ℕ) (widened : List ℕ) → pointer_range t n first fresh (record here.at { widened = widened }) ≡ r (own_numbers n first fresh here.at)
  range_is first fresh widened =
      ap (λ b. if b then range.Any else (if is_pointer t then n.range t (own_numbers n first fresh at) first fresh at else range.Missing)) known
      ∙ ap (λ b. if b then n.range t (own_numbers n first fresh at) first fresh at else range.Missing) pointer ∙ ranged (own_numbers n first fresh at) first fresh widened
      ∙ ap (λ us. r (record { value = capped first n.values; fresh = next_behind fresh us })) (kept widened)
    where
      at : State
      at = record here.at { widened = widened }

  read_in : (v : Valuation) (q : Range) → IsInRange s store v t q x → IsReadIn s store v t q x.number
  read_in v range.Missing i = tt
  read_in v range.Any i = i
  read_in v (range.Known low high) (inl null) = inl null
  read_in v (range.Known low high) (inr ends) = inr (record { from = ends.from; to = ends.to; low_is = ends.low_is; high_is = ends.high_is; true_there = ends.true_there })

  own_placed : (o : Option CType) → IfSome o (λ u. IsNumberOf u z) → IsOwnRange o → (first fresh limit : ℕ) (before : Valuation) → first ≤ own first → own first < limit → fresh + length (with_last ts o) < 2 ^ 32 → AreFresh s.frame fresh
      → Fits s.frame store.locals before
      → Placed s store entry here t limit (λ facts. Some (base_form (base.Value (own first)))) (λ at. r (own_numbers n first fresh here.at)) (with_last ts o) first fresh before x
  own_placed o typed in_range first fresh limit before over under little are fits = record {
    after = after;
    extends = extends_on first fresh before (numbered fresh ts z before o) after (numbered_extends fresh ts z before first o little) own_kept;
    place_between = λ facts. (over, under);
    range_between = λ widened. between (own_numbers n first fresh here.at) first limit over under;
    of_local = λ facts. tt;
    place_in = λ later more facts told. sym (at_base s store.locals t later (fits_later later more 0 (inl refl)) (base.Value (own first)) ∙ ap pos (there later more));
    range_is = λ later more. in_later later more;
    readable = λ widened bounded later more. read_in later (r (own_numbers n first fresh here.at)) (in_later later more);
    numbers = λ later more. numbers_kept after later limit fresh (with_last ts o) little more (numbered_numbers fresh ts z before o little typed);
  }
    where
      after : Valuation
      after = with_address (own first) x.number (numbered fresh ts z before o)

      own_kept : Extends first fresh (numbered fresh ts z before o) after
      own_kept = record { addresses = λ k less. address_kept (own first) x.number (numbered fresh ts z before o) k (omega (arith, less, over)); numbers = λ y less. refl }

      there : (later : Valuation) → Extends limit (next_behind fresh (with_last ts o)) after later → later.addresses (own first) ≡ x.number
      there later more = more.addresses (own first) under ∙ address_added (own first) x.number (numbered fresh ts z before o)

      fits_later : (later : Valuation) → Extends limit (next_behind fresh (with_last ts o)) after later → Fits s.frame store.locals later
      fits_later later more =
          still_fits s store.locals 0 fresh after later are
          (still_fits s store.locals first fresh before after are fits (extends_on first fresh before (numbered fresh ts z before o) after (numbered_extends fresh ts z before first o little) own_kept))
          (extends_less 0 fresh limit (next_behind fresh (with_last ts o)) after later (omega arith) (next_more fresh (with_last ts o) little) more)

      in_later : (later : Valuation) → Extends limit (next_behind fresh (with_last ts o)) after later → IsInRange s store later t (r (own_numbers n first fresh here.at)) x
      in_later later more =
          in_range (own_numbers n first fresh here.at) later (fits_later later more) (there later more)
          (number_there fresh ts z before o little later more.numbers)

  pub own_claims : n.behind ≡ None → n.is_zero ≡ false → ((b : Bool) → n.side b here.at ≡ here.at) → x.number < 2 ^ 32 → IfSome (own_fresh t n here.at.facts) (λ u. IsNumberOf u z) → IsOwnRange (own_fresh t n here.at.facts)
      → IsOne s store entry t x.number → NodeClaims s store entry here h t n x
  own_claims none some quiet small typed in_range one = record {
    word = pointer_word t pointer x.number small;
    placed = λ first fresh before low little are fits.
        let room = room_of first n.values (subst (λ m. first + m + 1 < 2 ^ 32) own_is low) in
        placed_as s store entry here t (first + capped n.values 1) (first + with_own t n) (λ facts. Some (base_form (base.Value (own first)))) (pointer_place t n first) (λ at. r (own_numbers n first fresh here.at)) (pointer_range t n first fresh)
        (node_fresh t n here.at) (node_fresh t n here.at) first fresh before x (ap (λ m. first + m) own_is) (place_is first) (range_is first fresh) refl
        (own_placed (own_fresh t n here.at.facts) typed in_range first fresh (first + capped n.values 1) before room.0 room.1 little are fits);
    one = one;
    zero = λ e. let other = some in absurd (cc);
    wide = λ e. narrow s store entry here h n none;
    sides = λ b e. subst (SideGoes s store entry here) (sym (quiet b)) (stays s store entry here h);
  }
    where
      room_of : (first m : ℕ) → first + capped m 1 + 1 < 2 ^ 32 → (first ≤ capped first m) × (capped first m < first + capped m 1)
      room_of first m low = (omega arith, omega arith)

-- ---- a pointer that stands for itself and may be read within no known range

module _ (s : Setting) (store : Store) (entry : List ℕ) (here : Here) (h : HoldsAt s store entry here) (t : CType) (pointer : is_pointer t ≡ true) (several : kind_of t ≡ Some kind.One → ⊥) (n : NodeView) where
  pub missing_claims : n.stands_alone ≡ true → n.null ≡ false → ((first : ℕ) (facts : Known) → n.place t first facts ≡ None) → ((widened : List ℕ) → n.fresh (record here.at { widened = widened }) ≡ n.fresh here.at)
      → ((own : Own) (first fresh : ℕ) (widened : List ℕ) → n.range t own first fresh (record here.at { widened = widened }) ≡ range.Missing) → own_fresh t n here.at.facts ≡ None
      → n.behind ≡ None → n.is_zero ≡ false → ((b : Bool) → n.side b here.at ≡ here.at) → (x : Value) → x.number < 2 ^ 32 → NodeClaims s store entry here h t n x
  missing_claims alone known nowhere kept ranged needs none some quiet x small =
      own_claims s store entry here h t pointer n alone known nowhere kept (λ own. range.Missing) ranged (λ own first limit more less. tt) x (pos 0) none some quiet small
      (subst (λ (o : Option CType). IfSome o (λ u. IsNumberOf u (pos 0))) (sym needs) tt) (λ own v fits at number. tt) (λ ones one. absurd (several one))

-- ---- its range

-- so many elements from a pointer up, by a form of their number
abbrev pub range_of_own : (ℕ → Form) → Own → Range
range_of_own g own = range_from (base.Value own.value) (g own.fresh)

pub own_between : (g : ℕ → Form) (own : Own) (first limit : ℕ) → first ≤ own.value → own.value < limit → RangeBetween first limit (range_of_own g own)
own_between g own first limit more less = ((more, less), (more, less))

module _ (s : Setting) (store : Store) (t : CType) (x : Value) (z c : ℤ) (there : (x.number ≡ 0) ⊎ Ranged store.shapes store.blocks (pointee_of s.text.layout t) x.number (pos x.number) (elements_behind x.number (size_behind s.text.layout t) c) x) where
  -- A pointer has the range of so many elements, if it is null or that range is true, and the form says their number.
  pub own_range : (o : Option CType) (g : ℕ → Form) → ((k : ℕ) (v : Valuation) → Fits s.frame store.locals v → IfSome o (λ u. v.numbers (capped k 1) ≡ z) → number_of v.numbers (g k) ≡ c)
      → (own : Own) (v : Valuation) → Fits s.frame store.locals v → v.addresses own.value ≡ x.number → IfSome o (λ u. v.numbers (capped own.fresh 1) ≡ z) → IsInRange s store v t (range_of_own g own) x
  own_range o g counts at_own v fits at number = by there
    where
      by : (x.number ≡ 0) ⊎ Ranged store.shapes store.blocks (pointee_of s.text.layout t) x.number (pos x.number) (elements_behind x.number (size_behind s.text.layout t) c) x → IsInRange s store v t (range_of_own g at_own) x
      by (inl null) = inl null
      by (inr g') = inr (record {
        from = g'.from;
        to = g'.upto;
        range = λ checked. g'.range;
        low_is = g'.low_is ∙ sym (at_base s store.locals t v (fits 0 (inl refl)) (base.Value at_own.value) ∙ ap pos at);
        high_is = g'.high_is ∙ sym (ap (λ a. elements_behind a (size_behind s.text.layout t) (number_of v.numbers (g at_own.fresh))) at ∙ ap (elements_behind x.number (size_behind s.text.layout t)) (counts at_own.fresh v fits number));
        true_there = g'.true_there;
      })

-- a constant is its own number
pub constant_counts : (s : Setting) (locals : List ℕ) (o : Option CType) (z c : ℤ) (k : ℕ) (v : Valuation) → Fits s.frame locals v → IfSome o (λ u. v.numbers (capped k 1) ≡ z) → number_of v.numbers (constant_form c) ≡ c
constant_counts s locals o z c k v fits number = less (v.numbers 0) (fits 0 (inl refl))
  where
    less : (y : ℤ) → y ≡ pos 0 → y +ℤ c ≡ c
    less y e = omega (arith, ints)

-- and a fresh variable and a constant are the number of that and the constant
pub fresh_counts : (u : CType) (z c : ℤ) (k : ℕ) (v : Valuation) → IfSome (Some u) (λ (u : CType). v.numbers (capped k 1) ≡ z) → number_of v.numbers (record { base = None; var = capped k 1; add = c }) ≡ z +ℤ c
fresh_counts u z c k v number = ap (λ y. y +ℤ c) number

-- ---- the bounds of its kind

module _ (s : Setting) (store : Store) (entry : List ℕ) (t : CType) (x : Value)
    (there : (c : ℤ) → count_of_kind (kind_of t) ≡ Some (count.Fixed c)
    → (x.number ≡ 0) ⊎ Ranged store.shapes store.blocks (pointee_of s.text.layout t) x.number (pos x.number) (elements_behind x.number (size_behind s.text.layout t) c) x) where
  abbrev range_by_kind : Own → Range
  range_by_kind own = range_by_type (kind_of t) own.value

  pub kind_between : (own : Own) (first limit : ℕ) → first ≤ own.value → own.value < limit → RangeBetween first limit (range_by_type (kind_of t) own.value)
  kind_between own first limit more less = by (kind_of t)
    where
      by : (k : Option Kind) → RangeBetween first limit (range_by_type k own.value)
      by (Some kind.One) = ((more, less), (more, less))
      by (Some kind.Nt) = ((more, less), (more, less))
      by (Some kind.Arr) = tt
      by (Some kind.Raw) = tt
      by None = tt

  pub kind_range : (o : Option CType) (z : ℤ) (own : Own) (v : Valuation) → Fits s.frame store.locals v → v.addresses own.value ≡ x.number → IfSome o (λ u. v.numbers (capped own.fresh 1) ≡ z)
      → IsInRange s store v t (range_by_type (kind_of t) own.value) x
  kind_range o z own v fits at number = by (kind_of t) (λ c e. there c e)
    where
      so_many : (c : ℤ) → (x.number ≡ 0) ⊎ Ranged store.shapes store.blocks (pointee_of s.text.layout t) x.number (pos x.number) (elements_behind x.number (size_behind s.text.layout t) c) x
          → IsInRange s store v t (range_from (base.Value own.value) (constant_form c)) x
      so_many c r = own_range s store t x z c r o (λ k. constant_form c) (constant_counts s store.locals o z c) own v fits at number

      by : (k : Option Kind) → ((c : ℤ) → count_of_kind k ≡ Some (count.Fixed c)
          → (x.number ≡ 0) ⊎ Ranged store.shapes store.blocks (pointee_of s.text.layout t) x.number (pos x.number) (elements_behind x.number (size_behind s.text.layout t) c) x)
          → IsInRange s store v t (range_by_type k own.value) x
      by (Some kind.One) there = so_many (pos 1) (there (pos 1) refl)
      by (Some kind.Nt) there = so_many (pos 0) (there (pos 0) refl)
      by (Some kind.Arr) there = tt
      by (Some kind.Raw) there = tt
      by None there = tt

  -- It points to one element, if it is a `_Ptr`.
  pub kind_one : IsOne s store entry t x.number
  kind_one ones e = single (there (pos 1) (ap count_of_kind e))
    where
      single : (x.number ≡ 0) ⊎ Ranged store.shapes store.blocks (pointee_of s.text.layout t) x.number (pos x.number) (elements_behind x.number (size_behind s.text.layout t) (pos 1)) x
          → (x.number ≡ 0) ⊎ (is_true store.shapes store.blocks (pointee_of s.text.layout t) x.number x.number (x.number + size_behind s.text.layout t) ≡ true)
      single (inl null) = inl null
      single (inr g) =
          let from : g.from ≡ x.number = same_number g.from x.number g.low_is in
          let upto : g.upto ≡ x.number + size_behind s.text.layout t = same_number g.upto (x.number + size_behind s.text.layout t) (g.high_is ∙ one_behind x.number (size_behind s.text.layout t)) in
          inr (subst (λ a. is_true store.shapes store.blocks (pointee_of s.text.layout t) x.number a (x.number + size_behind s.text.layout t) ≡ true) from
          (subst (λ b. is_true store.shapes store.blocks (pointee_of s.text.layout t) x.number g.from b ≡ true) upto g.true_there))
