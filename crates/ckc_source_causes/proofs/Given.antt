-- An expression that gives a range has a value that is null or has one, and so is judged.
use Rattle.std.proofs.Common.{◌≡◌, inl, inr, refl, sym, ap, subst, ◌∙◌, ℕ, ◌+◌, Bool, true, false}
use Rattle.std.specs.Prelude.{◌≢◌, ◌==◌, ◌&&◌, nat_le, nat_lt, if◌then◌else◌, IsTrue, ℤ, pos, negsuc, slice_index, Option, None, Some, List, Result, Ok, Err}
use Rattle.ckc_base.specs.declared.places.Pos.{Pos}
use Rattle.ckc_base.specs.declared.arithmetic.BinOp.TheVariants as binary
use Rattle.ckc_base.specs.Words.{applied}
use Rattle.ckc_base.specs.declared.runtime_checks.Check.TheVariants as check
use Rattle.ckc_source.specs.declared.expr.Access.{Access}
use Rattle.ckc_source.specs.declared.expr.Count.{Count}
use Rattle.ckc_source.specs.declared.expr.Integer.{Integer}
use Rattle.ckc_source.specs.declared.expr.Pointee.{Pointee}
use Rattle.ckc_source.specs.declared.expr.Shift.{Shift}
use Rattle.ckc_source.specs.declared.expr.Through.{Through}
use Rattle.ckc_source.specs.declared.expr.Through.TheVariants as through
use Rattle.ckc_source.specs.declared.outcome.Halt.{Halt}
use Rattle.ckc_source.specs.declared.outcome.Halt.TheVariants.{Stuck}
use Rattle.ckc_source.specs.declared.outcome.Range.{Range}
use Rattle.ckc_source.specs.declared.outcome.Range.TheVariants.{Without, Within}
use Rattle.ckc_source.specs.declared.outcome.Value.{Value}
use Rattle.ckc_source.specs.declared.program.Shape.{Shape}
use Rattle.ckc_source.specs.Code.{Expr, Number, Local, Limited, Array, Load, Member, Address, Moved, Added, Binary, And, Or, Choice, Narrow, Bare, Tested, Trusted, Program}
use Rattle.ckc_source.specs.Blocks.{Block}
use Rattle.ckc_source.specs.Eval.{Store, given, given_some, stops, plain, ranged, reads_within, reads, at_address, in_range, exact_element, element_through, element, place_in, loads_pointer, counted, moved_exactly, moves_checked, moves, end_address, tests_within, tests, accessed, evaluated}
use Rattle.ckc_source.specs.Runs.{is_true}
use Rattle.ckc_source.specs.Words.{exact, as_address, elements_behind}
use Rattle.ckc_types.specs.declared.types.CType.{CType}
use Rattle.ckc_source_causes.specs.Layouts.{Layout}
use Rattle.ckc_source_causes.specs.Ranges.{GivesRange, IsNullOrRanged, LeadsTo}
use Rattle.ckc_source_causes.specs.WellFormed.{UnlessRaw}

-- a value that there is has this
abbrev pub Holds : {A : Type 0} → (A → Type 0) → Result A Halt → Type 0
Holds P (Ok v) = P v
Holds P (Err h) = Unit {0}

abbrev Gives : Result Value Halt → Type 0
Gives r = Holds IsNullOrRanged r

module _ {B : Type 0} (Q : B → Type 0) where
  pub next : {A : Type 0} (P : A → Type 0) (r : Result A Halt) (f : A → Result B Halt) → Holds P r → ((a : A) → P a → Holds Q (f a)) → Holds Q (given r f)
  next P (Ok a) f p h = h a p
  next P (Err e) f p h = tt

  pub then_ : {A : Type 0} (r : Result A Halt) (f : A → Result B Halt) → ((a : A) → Holds Q (f a)) → Holds Q (given r f)
  then_ (Ok a) f h = h a
  then_ (Err e) f h = tt

  pub known : {A : Type 0} (r : Result A Halt) (f : A → Result B Halt) → ((a : A) → r ≡ Ok a → Holds Q (f a)) → Holds Q (given r f)
  known (Ok a) f h = h a refl
  known (Err e) f h = tt

  pub there : {A : Type 0} (o : Option A) (f : A → Result B Halt) → ((a : A) → Holds Q (f a)) → Holds Q (given_some o f)
  there (Some a) f h = h a
  there None f h = tt

  pub either_way : (b : Bool) (x y : Result B Halt) → Holds Q x → Holds Q y → Holds Q (if b then x else y)
  either_way true x y g h = g
  either_way false x y g h = h

within_gives : (shapes : List Shape) (blocks : List Block) (to : Pointee) (n : ℕ) (low high : ℤ) → Gives (reads_within shapes blocks to n low high)
within_gives shapes blocks to n (pos low) (pos high) = either_way IsNullOrRanged (is_true shapes blocks to n low high) (ranged n low high) (Err Stuck) (inr (low, high, refl)) tt
within_gives shapes blocks to n (pos low) (negsuc high) = tt
within_gives shapes blocks to n (negsuc low) (pos high) = tt
within_gives shapes blocks to n (negsuc low) (negsuc high) = tt

reads_gives : (shapes : List Shape) (blocks : List Block) (to : Pointee) (n : ℕ) (low high : ℤ) → Gives (reads shapes blocks to n low high)
reads_gives shapes blocks to n low high = either_way IsNullOrRanged (n == 0) (plain 0) (reads_within shapes blocks to n low high) (inl refl) (within_gives shapes blocks to n low high)

span_gives : (a bytes : ℕ) → Gives (ranged a a bytes)
span_gives a bytes = inr (a, bytes, refl)

tests_gives : (range : Range) (at : Pos) (n : ℕ) (upper : ℤ) → Gives (tests_within range at n upper)
tests_gives (Within low high) at n (pos upper) = either_way IsNullOrRanged (nat_le low n && nat_le n upper && nat_le upper high) (ranged n n upper) (stops check.Cast at) (inr (n, upper, refl)) tt
tests_gives (Within low high) at n (negsuc upper) = tt
tests_gives Without at n upper = tt

moved_gives : (shift : Shift) (v : Value) (i : ℕ) → IsNullOrRanged v → Gives (moves_checked shift v i)
moved_gives shift v i h = by (v.number == 0) refl
  where
    keeps : IsNullOrRanged v → (v.number == 0) ≡ false → (a : ℕ) → IsNullOrRanged (record { number = a; range = v.range })
    keeps (inl zero) e a = absurd (apart (sym (ap (λ n. n == 0) zero) ∙ e))
      where
        apart : true ≡ false → ⊥
        apart f = cc
    keeps (inr r) e a = inr r

    by : (b : Bool) → (v.number == 0) ≡ b
        → Gives (if b then stops check.Arith shift.at
        else given (at_address (as_address (moved_exactly shift v.number (exact shift.index i))) shift.at) (λ a. Ok (record { number = a; range = v.range })))
    by true e = tt
    by false e = then_ IsNullOrRanged (at_address (as_address (moved_exactly shift v.number (exact shift.index i))) shift.at) (λ a. Ok (record { number = a; range = v.range })) (λ a. keeps h e a)

moves_gives : (shift : Shift) (v : Value) (i : ℕ) → IsTrue shift.checked → IsNullOrRanged v → Gives (moves shift v i)
moves_gives shift v i checked h = by shift.checked checked
  where
    by : (b : Bool) → b ≡ true → Gives (if b then moves_checked shift v i else plain (applied (if shift.back then binary.Sub else binary.Add) v.number (applied binary.Mul shift.size i)))
    by true c = moved_gives shift v i h
    by false c = absurd cc

module _ (p : Program) (l : Layout) (s : Store) where
  accessed_gives : (access : Access) (p i : Result Value Halt) (go : ℕ → Result Value Halt) → ((a : ℕ) → Gives (go a)) → Gives (accessed access p i go)
  accessed_gives access p i go h = then_ IsNullOrRanged p _ (λ v. then_ IsNullOrRanged i _ (λ k. then_ IsNullOrRanged (element access v k.number) go h))

  pointer_gives : (to : Pointee) (count : Count) (begin a : ℕ) → Gives (loads_pointer s to count begin a)
  pointer_gives to count begin a = there IsNullOrRanged _ _ (λ n. then_ IsNullOrRanged (counted s begin count) _ (λ m. reads_gives s.shapes s.blocks to n (pos n) (elements_behind n to.size m)))

  gives : (t : CType) (last : Bool) (e : Expr) → GivesRange p l t last e → Gives (evaluated s e)
  gives t last (Number n) g = inl g
  gives t last (Limited x limits) g =
      let n = slice_index s.locals x in
      reads_gives s.shapes s.blocks limits.to n (end_address s.locals limits.to.size n limits.lower) (end_address s.locals limits.to.size n limits.upper)
  gives t last (Array at bytes) g = span_gives at (at + bytes)
  gives t last (Member to count access p i) g = accessed_gives access (evaluated s p) (evaluated s i) _ (λ a. pointer_gives to count a (place_in a access.offset))
  gives t last (Address bytes access p i) g = accessed_gives access (evaluated s p) (evaluated s i) _ (λ a. span_gives (place_in a access.offset) (place_in a access.offset + bytes))
  gives t last (Moved shift p i) g = next IsNullOrRanged IsNullOrRanged (evaluated s p) _ (gives t last p g.2) (λ v h. then_ IsNullOrRanged (evaluated s i) _ (λ k. moves_gives shift v k.number g.0 h))
  gives t last (Added shift i p) g = then_ IsNullOrRanged (evaluated s i) _ (λ k. next IsNullOrRanged IsNullOrRanged (evaluated s p) _ (gives t last p g.2) (λ v h. moves_gives shift v k.number g.0 h))
  gives t last (Choice c a b) g = then_ IsNullOrRanged (evaluated s c) _ (λ x. either_way IsNullOrRanged (x.number == 0) (evaluated s b) (evaluated s a) (gives t last b g.1) (gives t last a g.0))
  gives t last (Tested size form at p k) g =
      then_ IsNullOrRanged (evaluated s p) _ (λ v. then_ IsNullOrRanged (evaluated s k) _ (λ c. either_way IsNullOrRanged (v.number == 0) (plain 0) _ (inl refl) (tests_gives v.range at v.number (elements_behind v.number size (exact form c.number)))))
  gives t last (Trusted to form p k) g = then_ IsNullOrRanged (evaluated s p) _ (λ v. then_ IsNullOrRanged (evaluated s k) _ (λ c. reads_gives s.shapes s.blocks to v.number (pos v.number) (elements_behind v.number to.size (exact form c.number))))
  gives t last (Local x) g = absurd g
  gives t last (Load width access p i) g = absurd g
  gives t last (Binary operation is_signed at a b) g = absurd g
  gives t last (And a b) g = absurd g
  gives t last (Or a b) g = absurd g
  gives t last (Narrow e) g = absurd g
  gives t last (Bare p) g = absurd g

  pub given_value : (t : CType) (last : Bool) (e : Expr) (v : Value) → GivesRange p l t last e → evaluated s e ≡ Ok v → IsNullOrRanged v
  given_value t last e v g is = subst Gives is (gives t last e g)

-- ---- what is judged

within_judged : (last : Bool) (low high : ℕ) (at : Pos) (a : ℕ) → in_range last (Within low high) at a ≢ Err Stuck
within_judged last low high at a = by (nat_le low a && (if last then nat_le a high else nat_lt a high))
  where
    by : (b : Bool) → (if b then Ok a else stops check.Bounds at) ≢ Err Stuck
    by true e = cc
    by false e = cc

exact_judged : (access : Access) (v : Value) (i : ℕ) → exact_element access v i ≢ Err Stuck
exact_judged access v i = by (v.number == 0)
  where
    at_judged : (o : Option ℕ) → at_address o access.at ≢ Err Stuck
    at_judged (Some a) e = cc
    at_judged None e = cc

    by : (b : Bool) → (if b then stops check.Null access.at else at_address (as_address (elements_behind v.number access.size (exact access.index i))) access.at) ≢ Err Stuck
    by true e = cc
    by false e = at_judged (as_address (elements_behind v.number access.size (exact access.index i))) e

-- Null stops before its range is asked for.
null_stops : (access : Access) (v : Value) (i : ℕ) → v.number ≡ 0 → exact_element access v i ≡ stops check.Null access.at
null_stops access v i zero =
    ap (λ n. if n == 0 then stops check.Null access.at else at_address (as_address (elements_behind v.number access.size (exact access.index i))) access.at) zero

by_range : (last : Bool) (access : Access) (v : Value) (i : ℕ) → IsNullOrRanged v → given (exact_element access v i) (in_range last v.range access.at) ≢ Err Stuck
by_range last access v i (inl zero) e = stopped (sym (ap (λ (r : Result ℕ Halt). given r (in_range last v.range access.at)) (null_stops access v i zero)) ∙ e)
  where
    stopped : ◌≡◌ {A = Result ℕ Halt} (stops check.Null access.at) (Err Stuck) → ⊥
    stopped f = cc
by_range last access v i (inr r) e = by (exact_element access v i) (exact_judged access v i) (sym (ap (λ x. given (exact_element access v i) (in_range last x access.at)) r.2) ∙ e)
  where
    by : (o : Result ℕ Halt) → o ≢ Err Stuck → given o (in_range last (Within r.0 r.1) access.at) ≡ Err Stuck → ⊥
    by (Ok a) h f = within_judged last r.0 r.1 access.at a f
    by (Err x) h f = h f

raw_judged : (a : ℕ) → ◌≡◌ {A = Result ℕ Halt} (Ok a) (Err Stuck) → ⊥
raw_judged a e = cc

-- An access that goes through a kind of pointer leads to elements of a type, unless it goes through a `T *`.
abbrev pub Goes : Program → Layout → Through → Access → Expr → Expr → (CType → Type 0) → Type 0
Goes p l how access e i P = UnlessRaw how ((t : CType) × (access.size ≡ l.size t) × LeadsTo p l how t e i × P t)

pub judged : (p : Program) (l : Layout) (s : Store) (e i : Expr) (v : Value) (how : Through) (access : Access) (k : ℕ) (P : CType → Type 0) → Goes p l how access e i P → evaluated s e ≡ Ok v
    → element_through how access v k ≢ Err Stuck
judged p l s e i v through.Named access k P g is f = raw_judged _ f
judged p l s e i v through.Raw access k P g is f = raw_judged _ f
judged p l s e i v through.One access k P g is f = exact_judged access v k f
judged p l s e i v through.Array access k P g is f = by_range false access v k (given_value p l s g.0 false e v g.2 is) f
judged p l s e i v through.Terminated access k P g is f = by_range true access v k (given_value p l s g.0 true e v g.2 is) f

pub cast_judged : (size : ℕ) (form : Integer) (at : Pos) (v : Value) (k : ℕ) → IsNullOrRanged v → tests size form at v k ≢ Err Stuck
cast_judged size form at v k (inl zero) e = plainly (sym (ap (λ n. if n == 0 then plain 0 else tests_within v.range at v.number (elements_behind v.number size (exact form k))) zero) ∙ e)
  where
    plainly : plain 0 ≡ Err Stuck → ⊥
    plainly f = cc
cast_judged size form at v k (inr r) e = by (v.number == 0) (elements_behind v.number size (exact form k)) (sym (ap (λ x. if v.number == 0 then plain 0 else tests_within x at v.number (elements_behind v.number size (exact form k))) r.2) ∙ e)
  where
    inside : (b : Bool) (n m : ℕ) → (if b then ranged n n m else stops check.Cast at) ≡ Err Stuck → ⊥
    inside true n m f = cc
    inside false n m f = cc

    by : (b : Bool) (upper : ℤ) → (if b then plain 0 else tests_within (Within r.0 r.1) at v.number upper) ≡ Err Stuck → ⊥
    by true upper f = cc
    by false (pos u) f = inside (nat_le r.0 v.number && nat_le v.number u && nat_le u r.1) v.number u f
    by false (negsuc u) f = cc
