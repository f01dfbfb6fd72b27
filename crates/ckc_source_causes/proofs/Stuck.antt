-- An expression of a well formed program that is stuck is stuck for a cause.
use Rattle.std.proofs.Common.{◌≡◌, ◌⊎◌, ◌∙◌, inl, inr, refl, sym, ap, ℕ, Bool, true, false}
use Rattle.std.specs.Prelude.{◌≢◌, ◌==◌, ◌&&◌, ◌||◌, ◌-◌, ◌%◌, ◌+ℤ◌, if◌then◌else◌, ℤ, pos, List, [], ◌∷◌, slice_index, Option, Some, None, Result, Ok, Err}
use Rattle.std.specs.List.{list_any}
use Rattle.std.proofs.lemmas.Bool.{eqb-true}
use Rattle.ckc_base.specs.declared.arithmetic.Width.{Width}
use Rattle.ckc_base.specs.declared.arithmetic.Width.TheVariants.{Word}
use Rattle.ckc_base.specs.declared.arithmetic.BinOp.TheVariants as binary
use Rattle.ckc_base.specs.declared.places.Pos.{Pos}
use Rattle.ckc_base.specs.declared.runtime_checks.Check.TheVariants as check
use Rattle.ckc_base.specs.Words.{applied}
use Rattle.ckc_source.specs.declared.expr.Access.{Access}
use Rattle.ckc_source.specs.declared.expr.Count.{Count}
use Rattle.ckc_source.specs.declared.expr.Count.TheVariants as count
use Rattle.ckc_source.specs.declared.expr.Limits.{Limits}
use Rattle.ckc_source.specs.declared.expr.Operation.{Operation}
use Rattle.ckc_source.specs.declared.expr.Pointee.{Pointee}
use Rattle.ckc_source.specs.declared.expr.Shift.{Shift}
use Rattle.ckc_source.specs.declared.expr.Through.{Through}
use Rattle.ckc_source.specs.declared.expr.Through.TheVariants as through
use Rattle.ckc_source.specs.declared.outcome.Halt.{Halt}
use Rattle.ckc_source.specs.declared.outcome.Halt.TheVariants.{Stuck}
use Rattle.ckc_source.specs.declared.outcome.Range.{Range}
use Rattle.ckc_source.specs.declared.outcome.Range.TheVariants.{Without}
use Rattle.ckc_source.specs.declared.outcome.Value.{Value}
use Rattle.ckc_source.specs.Blocks.{Block, found, has, number_at, is_aligned, lies_in, loaded}
use Rattle.ckc_source.specs.Code.{Expr, Number, Local, Limited, Array, Load, Member, Address, Moved, Added, Binary, And, Or, Choice, Narrow, Bare, Tested, Trusted, Program}
use Rattle.ckc_source.specs.Eval.{Store, given, given_both, given_some, stops, plain, ranged, spanned, reads_within, reads, at_address, end_address, reads_limited, element, place_in, loads, counted, loads_pointer, moved_exactly, moves_checked, moves, operates, tests, trusts, accessed, evaluated, all_evaluated}
use Rattle.ckc_source.specs.Words.{exact, width_of, as_address, elements_behind, truth, computed, divides}
use Rattle.ckc_types.specs.declared.types.CType.{CType}
use Rattle.ckc_source_causes.specs.Layouts.{Layout, IsCellOf, IsCountOf, IsLaidOutBy}
use Rattle.ckc_source_causes.specs.WellFormed.{IsWellFormedExpr, AreWellFormed}
use Rattle.ckc_source_causes.specs.Causes.{HoldsObjects, IsNowhere, IsTrueRange, IsUntrue, HasUntrueLimits, Then, HasNoCount, IsNoPointer, OfBoth, AtElement, HasCause, OneHasCause}
use Rattle.ckc_source_causes.proofs.Checked.{checked_lies}
use Rattle.ckc_source_causes.proofs.Given.{Goes, given_value, judged, cast_judged}

no_zero : true ≡ false → ⊥
no_zero e = cc

-- ---- how a sequence of results is stuck

abbrev pub IsStuck : {A : Type 0} → Result A Halt → Type 0
IsStuck r = r ≡ Err Stuck

pub no_stuck : {A X : Type 0} {v : A} → ◌≡◌ {A = Result A Halt} (Ok v) (Err Stuck) → X
no_stuck e = absurd cc

pub stuck_given : {A B : Type 0} (r : Result A Halt) (f : A → Result B Halt) → IsStuck (given r f) → IsStuck r ⊎ Then r (λ v. IsStuck (f v))
stuck_given (Ok v) f e = inr (v, refl, e)
stuck_given (Err h) f e = inl cc

pub stuck_some : {A B : Type 0} (o : Option A) (f : A → Result B Halt) → IsStuck (given_some o f) → (o ≡ None) ⊎ ((v : A) × (o ≡ Some v) × IsStuck (f v))
stuck_some (Some v) f e = inr (v, refl, e)
stuck_some None f e = inl refl

-- what is stuck first is a result, or what comes after it
pub after : {A B : Type 0} (r : Result A Halt) (f : A → Result B Halt) (C : Type 0) (P : A → Type 0) → (IsStuck r → C) → ((v : A) → r ≡ Ok v → IsStuck (f v) → P v)
    → IsStuck (given r f) → C ⊎ Then r P
after r f C P first next e = by (stuck_given r f e)
  where
    by : IsStuck r ⊎ Then r (λ v. IsStuck (f v)) → C ⊎ Then r P
    by (inl x) = inl (first x)
    by (inr x) = inr (x.0, x.1, next x.0 x.1 x.2)

-- ---- reading

missing_if : (width : Width) (a : ℕ) (b : Block) (bs : List Block) (h : Bool) → (found width a bs ≡ None → list_any (has width a) bs ≡ false)
    → (if h then Some (number_at width b.bytes (a - b.base)) else found width a bs) ≡ None → (h || list_any (has width a) bs) ≡ false
missing_if width a b bs true more e = absurd cc
missing_if width a b bs false more e = more e

missing : (width : Width) (a : ℕ) (bs : List Block) → found width a bs ≡ None → list_any (has width a) bs ≡ false
unfolding found
missing width a [] e = refl
missing width a (b ∷ bs) e = missing_if width a b bs (has width a b) (missing width a bs) e

pub unloaded : (width : Width) (a : ℕ) (bs : List Block) → loaded width a bs ≡ None → lies_in width a bs ≡ false
unloaded width a bs e = by (is_aligned width a) e
  where
    by : (h : Bool) → (if h then found width a bs else None) ≡ None → (h && list_any (has width a) bs) ≡ false
    by true f = missing width a bs f
    by false f = refl

untrue : (s : Store) (to : Pointee) (n : ℕ) (low high : ℤ) → IsStuck (reads s.shapes s.blocks to n low high) → IsUntrue s to n low high
untrue s to n low high e = (not_null, not_true)
  where
    not_null : n ≢ 0
    not_null zero = no_stuck (sym (ap (λ k. if k == 0 then plain 0 else reads_within s.shapes s.blocks to n low high) zero) ∙ e)

    by : (b : Bool) → IsStuck (if b then plain 0 else reads_within s.shapes s.blocks to n low high) → IsStuck (reads_within s.shapes s.blocks to n low high)
    by true f = no_stuck f
    by false f = f

    not_true : IsTrueRange s to n low high → ⊥
    not_true t =
        let is : low ≡ pos t.0 = t.2 in
        let ends : high ≡ pos t.1 = t.3 in
        no_stuck (sym (ap (λ x. reads_within s.shapes s.blocks to n x high) is ∙ ap (λ x. reads_within s.shapes s.blocks to n (pos t.0) x) ends ∙ ap (λ b. if b then ranged n t.0 t.1 else Err Stuck) t.4) ∙ by (n == 0) e)

pub untrue_limits : (s : Store) (limits : Limits) (n : ℕ) → IsStuck (reads_limited s limits n) → HasUntrueLimits s limits n
untrue_limits s limits n e = untrue s limits.to n (end_address s.locals limits.to.size n limits.lower) (end_address s.locals limits.to.size n limits.upper) e

loads_nowhere : (s : Store) (width : Width) (a : ℕ) → IsStuck (loads s width a) → lies_in width a s.blocks ≡ false
loads_nowhere s width a e = by (stuck_some (loaded width a s.blocks) plain e)
  where
    by : (loaded width a s.blocks ≡ None) ⊎ ((v : ℕ) × (loaded width a s.blocks ≡ Some v) × IsStuck (plain v)) → lies_in width a s.blocks ≡ false
    by (inl none) = unloaded width a s.blocks none
    by (inr some) = no_stuck some.2

-- an access that no block has is nowhere
abbrev pub Misses : Store → Through → Width → ℕ → Type 0
Misses s how width a = lies_in width a s.blocks ≡ false → IsNowhere s how width a

-- the same of the member that keeps a number of elements
abbrev CountMisses : Store → Through → ℕ → Count → Type 0
CountMisses s how begin (count.Fixed n) = Unit {0}
CountMisses s how begin (count.Member offset form add) = Misses s how (width_of form) (place_in begin offset)

no_count : (s : Store) (how : Through) (begin : ℕ) (many : Count) → CountMisses s how begin many → IsStuck (counted s begin many) → HasNoCount s how begin many
no_count s how begin (count.Fixed n) miss e = no_stuck e
no_count s how begin (count.Member offset form add) miss e = by (loaded (width_of form) (place_in begin offset) s.blocks) refl e
  where
    by : (o : Option ℕ) → loaded (width_of form) (place_in begin offset) s.blocks ≡ o → IsStuck (given_some o (λ m. Ok (exact form m +ℤ add))) → HasNoCount s how begin (count.Member offset form add)
    by None is f = miss (unloaded (width_of form) (place_in begin offset) s.blocks is)
    by (Some m) is f = no_stuck f

-- a pointer that memory has is read
abbrev pub pointed : Store → Pointee → Count → ℕ → ℕ → Result Value Halt
pointed s to many begin n = given (counted s begin many) (λ m. reads s.shapes s.blocks to n (pos n) (elements_behind n to.size m))

no_pointer : (s : Store) (how : Through) (to : Pointee) (many : Count) (begin a : ℕ) → Misses s how Word a → CountMisses s how begin many → IsStuck (loads_pointer s to many begin a)
    → IsNoPointer s how to many begin a
no_pointer s how to many begin a miss lacks e = by (stuck_some (loaded Word a s.blocks) _ e)
  where
    by : (loaded Word a s.blocks ≡ None) ⊎ ((n : ℕ) × (loaded Word a s.blocks ≡ Some n) × IsStuck (pointed s to many begin n)) → IsNoPointer s how to many begin a
    by (inl none) = inl (miss (unloaded Word a s.blocks none))
    by (inr some) =
        inr (
          some.0,
          some.1,
          after (counted s begin many) _ (HasNoCount s how begin many) (λ m. IsUntrue s to some.0 (pos some.0) (elements_behind some.0 to.size m)) (no_count s how begin many lacks)
              (λ m is f. untrue s to some.0 (pos some.0) (elements_behind some.0 to.size m) f) some.2,
        )

-- ---- operations, which are never stuck

no_address : {X : Type 0} (o : Option ℕ) (at : Pos) (r : Range) → IsStuck {A = Value} (given (at_address o at) (λ a. Ok (record { number = a; range = r }))) → X
no_address (Some a) at r f = no_stuck f
no_address None at r f = absurd cc

no_moves_checked : {X : Type 0} (shift : Shift) (v : Value) (i : ℕ) (c : Bool)
    → IsStuck {A = Value} (if c then stops check.Arith shift.at else given (at_address (as_address (moved_exactly shift v.number (exact shift.index i))) shift.at) (λ a. Ok (record { number = a; range = v.range }))) → X
no_moves_checked shift v i true f = absurd cc
no_moves_checked shift v i false f = no_address (as_address (moved_exactly shift v.number (exact shift.index i))) shift.at v.range f

no_moves : {X : Type 0} (shift : Shift) (v : Value) (i : ℕ) → IsStuck (moves shift v i) → X
no_moves {X} shift v i e = by shift.checked e
  where
    by : (b : Bool) → IsStuck {A = Value} (if b then moves_checked shift v i else plain (applied (if shift.back then binary.Sub else binary.Add) v.number (applied binary.Mul shift.size i))) → X
    by true f = no_moves_checked shift v i (v.number == 0) f
    by false f = no_stuck f

no_operates : {X : Type 0} (operation : Operation) (is_signed : Bool) (at : Pos) (a b : ℕ) → IsStuck (operates operation is_signed at a b) → X
no_operates {X} operation is_signed at a b e = by (divides operation && (b == 0)) e
  where
    by : (c : Bool) → IsStuck {A = Value} (if c then stops check.Divide at else plain (computed operation is_signed a b)) → X
    by true f = absurd cc
    by false f = no_stuck f

-- ---- expressions

module _ (p : Program) (l : Layout) (s : Store) (laid : IsLaidOutBy p l) (holds : HoldsObjects p l s) where
  -- what is read or written lies in a block, unless it is reached through a `T *`
  pub misses : (access : Access) (e i : Expr) (v k : Value) (a offset : ℕ) (width : Width) → Goes p l access.through access e i (λ t. IsCellOf l t offset width) → evaluated s e ≡ Ok v → evaluated s i ≡ Ok k
      → element access v k.number ≡ Ok a → Misses s access.through width (place_in a offset)
  misses access e i v k a offset width g is here at = by access.through (λ checked. checked_lies p l s laid holds access e i v k a offset width g checked is here at)
    where
      by : (how : Through) → (how ≢ through.Raw → lies_in width (place_in a offset) s.blocks ≡ true) → Misses s how width (place_in a offset)
      by through.Raw lies none = none
      by through.Named lies none = no_zero (sym (lies (λ e. cc)) ∙ none)
      by through.One lies none = no_zero (sym (lies (λ e. cc)) ∙ none)
      by through.Array lies none = no_zero (sym (lies (λ e. cc)) ∙ none)
      by through.Terminated lies none = no_zero (sym (lies (λ e. cc)) ∙ none)

  count_misses : (many : Count) (access : Access) (e i : Expr) (v k : Value) (a : ℕ) → Goes p l access.through access e i (λ t. IsCountOf l t many) → evaluated s e ≡ Ok v → evaluated s i ≡ Ok k
      → element access v k.number ≡ Ok a → CountMisses s access.through a many
  count_misses (count.Fixed n) access e i v k a g is here at = tt
  count_misses (count.Member offset form add) access e i v k a g is here at = misses access e i v k a offset (width_of form) g is here at

  weaker : (how : Through) (access : Access) (e i : Expr) (Q R : CType → Type 0) → ((t : CType) → Q t → R t) → Goes p l how access e i Q → Goes p l how access e i R
  weaker through.Raw access e i Q R f g = tt
  weaker through.Named access e i Q R f g = (g.0, g.1, g.2, f g.0 g.3)
  weaker through.One access e i Q R f g = (g.0, g.1, g.2, f g.0 g.3)
  weaker through.Array access e i Q R f g = (g.0, g.1, g.2, f g.0 g.3)
  weaker through.Terminated access e i Q R f g = (g.0, g.1, g.2, f g.0 g.3)

  -- of two parts
  both : (e f : Expr) (go : Value → Value → Result Value Halt) (P : Value → Value → Type 0) → (IsStuck (evaluated s e) → HasCause s e) → (IsStuck (evaluated s f) → HasCause s f)
      → ((v k : Value) → evaluated s e ≡ Ok v → evaluated s f ≡ Ok k → IsStuck (go v k) → P v k) → IsStuck (given_both (evaluated s e) (evaluated s f) go) → OfBoth s e f (HasCause s e) (HasCause s f) P
  both e f go P first second last is =
      after (evaluated s e) (λ v. given (evaluated s f) (go v)) (HasCause s e) (λ v. HasCause s f ⊎ Then (evaluated s f) (P v)) first
      (λ v there x. after (evaluated s f) (go v) (HasCause s f) (P v) second (λ k here y. last v k there here y) x) is

  -- an access whose address is judged
  reached : (access : Access) (e i : Expr) (Q : CType → Type 0) (go : ℕ → Result Value Halt) (P : ℕ → Type 0) → Goes p l access.through access e i Q → (IsStuck (evaluated s e) → HasCause s e) → (IsStuck (evaluated s i) → HasCause s i)
      → ((v k : Value) (a : ℕ) → evaluated s e ≡ Ok v → evaluated s i ≡ Ok k → element access v k.number ≡ Ok a → IsStuck (go a) → P a) → IsStuck (accessed access (evaluated s e) (evaluated s i) go)
      → OfBoth s e i (HasCause s e) (HasCause s i) (λ v k. AtElement access v k P)
  reached access e i Q go P formed first second last is =
      both e i (λ v k. given (element access v k.number) go) (λ v k. AtElement access v k P) first second (λ v k there here x. by v k there here (stuck_given (element access v k.number) go x)) is
    where
      by : (v k : Value) → evaluated s e ≡ Ok v → evaluated s i ≡ Ok k → IsStuck (element access v k.number) ⊎ Then (element access v k.number) (λ a. IsStuck (go a)) → AtElement access v k P
      by v k there here (inl x) = absurd (judged p l s e i v access.through access k.number Q formed there x)
      by v k there here (inr x) = (x.0, x.1, last v k x.0 there here x.1 x.2)

  -- an address is not read
  addressed : (access : Access) (e i : Expr) → OfBoth s e i (HasCause s e) (HasCause s i) (λ v k. AtElement access v k (λ a. ⊥)) → OfBoth s e i (HasCause s e) (HasCause s i) (λ v k. ⊥)
  addressed access e i (inl x) = inl x
  addressed access e i (inr x) = inr (x.0, x.1, second x.2)
    where
      second : HasCause s i ⊎ Then (evaluated s i) (λ k. AtElement access x.0 k (λ a. ⊥)) → HasCause s i ⊎ Then (evaluated s i) (λ k. ⊥)
      second (inl y) = inl y
      second (inr y) = absurd y.2.2

  -- what is made of one value is not stuck
  alone : (e : Expr) (go : Value → Value) → (IsStuck (evaluated s e) → HasCause s e) → IsStuck (given (evaluated s e) (λ v. Ok (go v))) → HasCause s e
  alone e go first is = by (stuck_given (evaluated s e) (λ v. Ok (go v)) is)
    where
      by : IsStuck (evaluated s e) ⊎ Then (evaluated s e) (λ v. IsStuck {A = Value} (Ok (go v))) → HasCause s e
      by (inl x) = first x
      by (inr x) = no_stuck x.2

  and_right : (b : Expr) (v : Value) → (IsStuck (evaluated s b) → HasCause s b) → (c : Bool) → (v.number == 0) ≡ c
      → IsStuck (if c then plain 0 else given (evaluated s b) (λ y. plain (truth y.number))) → (v.number ≢ 0) × HasCause s b
  and_right b v second true is x = no_stuck x
  and_right b v second false is x = (λ zero. no_zero (sym (ap (λ n. n == 0) zero) ∙ is), alone b (λ y. record { number = truth y.number; range = Without }) second x)

  or_right : (b : Expr) (v : Value) → (IsStuck (evaluated s b) → HasCause s b) → (c : Bool) → (v.number == 0) ≡ c
      → IsStuck (if c then given (evaluated s b) (λ y. plain (truth y.number)) else plain 1) → (v.number ≡ 0) × HasCause s b
  or_right b v second true is x = (eqb-true v.number 0 is, alone b (λ y. record { number = truth y.number; range = Without }) second x)
  or_right b v second false is x = no_stuck x

  chosen : (a b : Expr) (v : Value) → (IsStuck (evaluated s a) → HasCause s a) → (IsStuck (evaluated s b) → HasCause s b) → (c : Bool) → (v.number == 0) ≡ c
      → IsStuck (if c then evaluated s b else evaluated s a) → ((v.number ≢ 0) × HasCause s a) ⊎ ((v.number ≡ 0) × HasCause s b)
  chosen a b v one two true is x = inr (eqb-true v.number 0 is, two x)
  chosen a b v one two false is x = inl (λ zero. no_zero (sym (ap (λ n. n == 0) zero) ∙ is), one x)

  pub has_cause : (e : Expr) → IsWellFormedExpr p l e → IsStuck (evaluated s e) → HasCause s e
  has_cause (Number n) w is = no_stuck is
  has_cause (Local x) w is = no_stuck is
  has_cause (Limited x limits) w is = untrue_limits s limits (slice_index s.locals x) is
  has_cause (Array at bytes) w is = no_stuck is
  has_cause (Load width access e i) w is =
      reached access e i (λ t. IsCellOf l t access.offset width) (λ a. loads s width (place_in a access.offset)) (λ a. IsNowhere s access.through width (place_in a access.offset)) w.0 (has_cause e w.1) (has_cause i w.2)
      (λ v k a there here goes x. misses access e i v k a access.offset width w.0 there here goes (loads_nowhere s width (place_in a access.offset) x)) is
  has_cause (Member to many access e i) w is =
      let Q : CType → Type 0 = λ t. IsCellOf l t access.offset Word × IsCountOf l t many in
      reached access e i Q (λ a. loads_pointer s to many a (place_in a access.offset)) (λ a. IsNoPointer s access.through to many a (place_in a access.offset)) w.0 (has_cause e w.1) (has_cause i w.2)
      (λ v k a there here goes x.
      no_pointer s access.through to many a (place_in a access.offset)
      (misses access e i v k a access.offset Word (weaker access.through access e i Q (λ t. IsCellOf l t access.offset Word) (λ t h. h.0) w.0) there here goes)
      (count_misses many access e i v k a (weaker access.through access e i Q (λ t. IsCountOf l t many) (λ t h. h.1) w.0) there here goes) x) is
  has_cause (Address bytes access e i) w is =
      addressed access e i (reached access e i (λ t. Unit {0}) (λ a. spanned (place_in a access.offset) bytes) (λ a. ⊥) w.0 (has_cause e w.1) (has_cause i w.2) (λ v k a there here goes x. no_stuck x) is)
  has_cause (Moved shift e i) w is = both e i (λ v k. moves shift v k.number) (λ v k. ⊥) (has_cause e w.0) (has_cause i w.1) (λ v k there here x. no_moves shift v k.number x) is
  has_cause (Added shift i e) w is = both i e (λ k v. moves shift v k.number) (λ k v. ⊥) (has_cause i w.0) (has_cause e w.1) (λ k v there here x. no_moves shift v k.number x) is
  has_cause (Binary operation is_signed at a b) w is =
      both a b (λ x y. operates operation is_signed at x.number y.number) (λ x y. ⊥) (has_cause a w.0) (has_cause b w.1) (λ x y there here z. no_operates operation is_signed at x.number y.number z) is
  has_cause (And a b) w is =
      after (evaluated s a) (λ x. if x.number == 0 then plain 0 else given (evaluated s b) (λ y. plain (truth y.number))) (HasCause s a) (λ v. (v.number ≢ 0) × HasCause s b) (has_cause a w.0)
      (λ v there x. and_right b v (has_cause b w.1) (v.number == 0) refl x) is
  has_cause (Or a b) w is =
      after (evaluated s a) (λ x. if x.number == 0 then given (evaluated s b) (λ y. plain (truth y.number)) else plain 1) (HasCause s a) (λ v. (v.number ≡ 0) × HasCause s b) (has_cause a w.0)
      (λ v there x. or_right b v (has_cause b w.1) (v.number == 0) refl x) is
  has_cause (Choice c a b) w is =
      after (evaluated s c) (λ x. if x.number == 0 then evaluated s b else evaluated s a) (HasCause s c) (λ v. ((v.number ≢ 0) × HasCause s a) ⊎ ((v.number ≡ 0) × HasCause s b)) (has_cause c w.0)
      (λ v there x. chosen a b v (has_cause a w.1) (has_cause b w.2) (v.number == 0) refl x) is
  has_cause (Narrow e) w is = alone e (λ v. record { number = v.number % 256; range = Without }) (has_cause e w) is
  has_cause (Bare e) w is = alone e (λ v. record { number = v.number; range = Without }) (has_cause e w) is
  has_cause (Tested size form at e k) w is =
      both e k (λ v c. tests size form at v c.number) (λ v c. ⊥) (has_cause e w.1) (has_cause k w.2) (λ v c there here x. cast_judged size form at v c.number (given_value p l s w.0.0 false e v w.0.1 there) x) is
  has_cause (Trusted to form e k) w is =
      both e k (λ v c. trusts s to form v.number c.number) (λ v c. IsUntrue s to v.number (pos v.number) (elements_behind v.number to.size (exact form c.number))) (has_cause e w.0) (has_cause k w.1)
      (λ v c there here x. untrue s to v.number (pos v.number) (elements_behind v.number to.size (exact form c.number)) x) is

  others : (v : Value) (es : List Expr) → (IsStuck (all_evaluated s es) → OneHasCause s es) → IsStuck (given (all_evaluated s es) (λ ns. Ok (v.number ∷ ns))) → OneHasCause s es
  others v es more is = by (stuck_given (all_evaluated s es) (λ ns. Ok (v.number ∷ ns)) is)
    where
      by : IsStuck (all_evaluated s es) ⊎ Then (all_evaluated s es) (λ ns. IsStuck {A = List ℕ} (Ok (v.number ∷ ns))) → OneHasCause s es
      by (inl x) = more x
      by (inr x) = no_stuck x.2

  pub one_has_cause : (es : List Expr) → AreWellFormed p l es → IsStuck (all_evaluated s es) → OneHasCause s es
  one_has_cause [] w is = no_stuck is
  one_has_cause (e ∷ es) w is =
      after (evaluated s e) (λ v. given (all_evaluated s es) (λ ns. Ok (v.number ∷ ns))) (HasCause s e) (λ v. OneHasCause s es) (has_cause e w.0)
      (λ v there x. others v es (one_has_cause es w.1) x) is
