-- Values are words, if the locals and what is loaded are.
use Rattle.std.proofs.Common.{◌≡◌, ℕ, zero, suc, ◌%◌, ◌^◌, ◌<◌, ◌==◌, List, ◌∷◌, refl, sym, subst, arith}
use Rattle.std.specs.Prelude.{nat_lt, nat_le, if◌then◌else◌, Bool, true, false, ◌&&◌, slice_index, Option, Some, None, Result, Ok, Err, ℤ, pos, negsuc}
use Rattle.std.proofs.lemmas.Bool.{eqb-true}
use Rattle.std.proofs.lemmas.Bool.Decides.{nat_tests}
use Rattle.ckc_base.specs.declared.arithmetic.Width.{Width}
use Rattle.ckc_base.specs.declared.arithmetic.Width.TheVariants as width
use Rattle.ckc_base.specs.declared.arithmetic.BinOp.TheVariants.{Add, Sub, Mul}
use Rattle.ckc_base.specs.declared.places.Pos.{Pos}
use Rattle.ckc_base.specs.declared.runtime_checks.Check.TheVariants.{Arith, Cast, Divide}
use Rattle.ckc_base.specs.Words.{flag, applied}
use Rattle.ckc_base.proofs.WordValues.{applied_word}
use Rattle.ckc_source.specs.declared.expr.Access.{Access}
use Rattle.ckc_source.specs.declared.expr.Shift.{Shift}
use Rattle.ckc_source.specs.declared.expr.Count.{Count}
use Rattle.ckc_source.specs.declared.expr.Pointee.{Pointee}
use Rattle.ckc_source.specs.declared.expr.Operation.{Operation}
use Rattle.ckc_source.specs.declared.expr.Operation.TheVariants as operation
use Rattle.ckc_source.specs.declared.expr.Integer.{Integer}
use Rattle.ckc_source.specs.declared.outcome.Range.{Range}
use Rattle.ckc_source.specs.declared.outcome.Range.TheVariants.{Without, Within}
use Rattle.ckc_source.specs.declared.outcome.Value.{Value}
use Rattle.ckc_source.specs.declared.outcome.Halt.{Halt}
use Rattle.ckc_source.specs.declared.outcome.Halt.TheVariants.{Stopped, Stuck}
use Rattle.ckc_source.specs.declared.program.Shape.{Shape}
use Rattle.ckc_source.specs.Code as source
use Rattle.ckc_source.specs.Blocks.{Block, loaded}
use Rattle.ckc_source.specs.Runs.{is_true}
use Rattle.ckc_source.specs.Words.{exact, as_address, operator, computed, divides, truth, elements_behind}
use Rattle.ckc_source.specs.Eval.{Store, given, given_both, given_some, plain, ranged, spanned, stops, reads, reads_within, end_address, at_address, element, place_in, loads, counted, loads_pointer, moves, moves_checked, moved_exactly, operates, tests, tests_within, trusts, evaluated}
use Rattle.ckc_checks_operands.specs.Compilable.{IsCompilableExpr}

-- ---- what an evaluation gives

-- a number, if there is a value
abbrev pub Gives : ℕ → Result Value Halt → Type 0
Gives n (Ok v) = v.number ≡ n
Gives n (Err Stuck) = Unit {0}
Gives n (Err (Stopped why at)) = ⊥

-- a word, if there is a value
abbrev pub GivesWord : Result Value Halt → Type 0
GivesWord (Ok v) = v.number < 2 ^ 32
GivesWord (Err h) = Unit {0}

pub zero_of : (n : ℕ) → (n == 0) ≡ true → 0 ≡ n
zero_of n e = sym (eqb-true n 0 e)

-- a pointer that is read has its number
pub reads_number : (shapes : List Shape) (blocks : List Block) (to : Pointee) (n : ℕ) (low high : ℤ) → Gives n (reads shapes blocks to n low high)
reads_number shapes blocks to n low high = by (n == 0) refl
  where
    true_or_not : (low high : ℕ) (good : Bool) → Gives n (if good then ranged n low high else Err Stuck)
    true_or_not low high true = refl
    true_or_not low high false = tt

    inside : (low high : ℤ) → Gives n (reads_within shapes blocks to n low high)
    inside (pos low) (pos high) = true_or_not low high (is_true shapes blocks to n low high)
    inside (pos low) (negsuc high) = tt
    inside (negsuc low) high = tt

    by : (zero : Bool) → (n == 0) ≡ zero → Gives n (if zero then plain 0 else reads_within shapes blocks to n low high)
    by true e = zero_of n e
    by false e = inside low high

gives_word : (n : ℕ) (r : Result Value Halt) → Gives n r → n < 2 ^ 32 → GivesWord r
gives_word n (Ok v) e h = subst (λ (k : ℕ). k < 2 ^ 32) (sym e) h
gives_word n (Err Stuck) e h = tt
gives_word n (Err (Stopped why at)) e h = tt

both_word : (r q : Result Value Halt) (f : Value → Value → Result Value Halt) → GivesWord r → GivesWord q
    → ((v w : Value) → v.number < 2 ^ 32 → w.number < 2 ^ 32 → GivesWord (f v w)) → GivesWord (given_both r q f)
both_word (Ok v) (Ok w) f x y h = h v w x y
both_word (Ok v) (Err e) f x y h = tt
both_word (Err e) q f x y h = tt

given_word : {A : Type 0} (r : Result A Halt) (f : A → Result Value Halt) → ((v : A) → GivesWord (f v)) → GivesWord (given r f)
given_word (Ok v) f h = h v
given_word (Err e) f h = tt

shift_word : (back : Bool) (a b : ℕ) → applied (if back then Sub else Add) a b < 2 ^ 32
shift_word true a b = omega arith
shift_word false a b = omega arith

address_word : (z : ℤ) (place : Pos) (range : Range) → GivesWord (given (at_address (as_address z) place) (λ a. Ok (record { number = a; range = range })))
address_word (pos a) place range = by (nat_lt a (2 ^ 32)) refl
  where
    by : (less : Bool) → nat_lt a (2 ^ 32) ≡ less → GivesWord (given (at_address (if less then Some a else None) place) (λ a. Ok (record { number = a; range = range })))
    by true e = grind (arith, nat_tests)
    by false e = tt
address_word (negsuc a) place range = tt

moves_word : (shift : Shift) (v : Value) (k : ℕ) (checked : Bool)
    → GivesWord (if checked then moves_checked shift v k else plain (applied (if shift.back then Sub else Add) v.number (applied Mul shift.size k)))
moves_word shift v k false = shift_word shift.back v.number (applied Mul shift.size k)
moves_word shift v k true = by (v.number == 0)
  where
    by : (zero : Bool) → GivesWord (if zero then stops Arith shift.at else given (at_address (as_address (moved_exactly shift v.number (exact shift.index k))) shift.at) (λ a. Ok (record { number = a; range = v.range })))
    by true = tt
    by false = address_word (moved_exactly shift v.number (exact shift.index k)) shift.at v.range

flag_word : (b : Bool) → flag b < 2 ^ 32
flag_word true = omega arith
flag_word false = omega arith

computed_word : (o : Operation) (s : Bool) (a b : ℕ) → a < 2 ^ 32 → b < 2 ^ 32 → computed o s a b < 2 ^ 32
computed_word operation.Le s a b h k = flag_word _
computed_word operation.Gt s a b h k = applied_word (operator operation.Lt s) b a k h
computed_word operation.Ge s a b h k = flag_word _
computed_word o s a b h k = applied_word (operator o s) a b h k

operates_word : (o : Operation) (s : Bool) (at : Pos) (a b : ℕ) → a < 2 ^ 32 → b < 2 ^ 32 → GivesWord (operates o s at a b)
operates_word o s at a b h k = by (divides o && (b == 0))
  where
    by : (none : Bool) → GivesWord (if none then stops Divide at else plain (computed o s a b))
    by true = tt
    by false = computed_word o s a b h k

within_word : (range : Range) (at : Pos) (n : ℕ) (upper : ℤ) → n < 2 ^ 32 → GivesWord (tests_within range at n upper)
within_word (Within low high) at n (pos upper) h = by (nat_le low n && nat_le n upper && nat_le upper high)
  where
    by : (good : Bool) → GivesWord (if good then ranged n n upper else stops Cast at)
    by true = h
    by false = tt
within_word (Within low high) at n (negsuc upper) h = tt
within_word Without at n upper h = tt

tests_word : (size : ℕ) (how : Integer) (at : Pos) (v : Value) (k : ℕ) → v.number < 2 ^ 32 → GivesWord (tests size how at v k)
tests_word size how at v k h = by (v.number == 0)
  where
    by : (zero : Bool) → GivesWord (if zero then plain 0 else tests_within v.range at v.number (elements_behind v.number size (exact how k)))
    by true = omega arith
    by false = within_word v.range at v.number (elements_behind v.number size (exact how k)) h

choice_word : (zero : Bool) (r q : Result Value Halt) → GivesWord r → GivesWord q → GivesWord (if zero then q else r)
choice_word true r q x y = y
choice_word false r q x y = x

-- each number of a list is a word
abbrev pub AreSmall : List ℕ → Type 0
AreSmall vs = (i : ℕ) → slice_index vs i < 2 ^ 32

pub small_cons : (v : ℕ) (vs : List ℕ) → v < 2 ^ 32 → AreSmall vs → AreSmall (v ∷ vs)
small_cons v vs h k zero = h
small_cons v vs h k (suc i) = k i

module _ (n : ℕ) (s : Store) (loads_word : (w : Width) (a m : ℕ) → loaded w a s.blocks ≡ Some m → m < 2 ^ 32) (local_word : (x : ℕ) → x < n → slice_index s.locals x < 2 ^ 32) where
  loaded_plain : (w : Width) (a : ℕ) (o : Option ℕ) → loaded w a s.blocks ≡ o → GivesWord (given_some o plain)
  loaded_plain w a (Some m) e = loads_word w a m e
  loaded_plain w a None e = tt

  loaded_pointer : (to : Pointee) (count : Count) (begin a : ℕ) (o : Option ℕ) → loaded width.Word a s.blocks ≡ o
      → GivesWord (given_some o (λ n. given (counted s begin count) (λ m. reads s.shapes s.blocks to n (pos n) (elements_behind n to.size m))))
  loaded_pointer to count begin a (Some k) e =
      given_word (counted s begin count) (λ m. reads s.shapes s.blocks to k (pos k) (elements_behind k to.size m))
      (λ m. gives_word k _ (reads_number s.shapes s.blocks to k (pos k) (elements_behind k to.size m)) (loads_word width.Word a k e))
  loaded_pointer to count begin a None e = tt

  accessed_word : (access : Access) (r q : Result Value Halt) (go : ℕ → Result Value Halt) → ((a : ℕ) → GivesWord (go a))
      → GivesWord (given_both r q (λ v k. given (element access v k.number) go))
  accessed_word access (Ok v) (Ok k) go h = given_word (element access v k.number) go h
  accessed_word access (Ok v) (Err e) go h = tt
  accessed_word access (Err e) q go h = tt

  -- the value of an expression is a word
  pub evaluated_word : (e : source.Expr) → IsCompilableExpr n e → GivesWord (evaluated s e)
  evaluated_word (source.Number m) h = h
  evaluated_word (source.Local x) h = local_word x h
  evaluated_word (source.Limited x limits) h =
      let m = slice_index s.locals x in
      let size = limits.to.size in
      gives_word m _ (reads_number s.shapes s.blocks limits.to m (end_address s.locals size m limits.lower) (end_address s.locals size m limits.upper)) (local_word x h)
  evaluated_word (source.Array at bytes) h = h
  evaluated_word (source.Load w access p i) h =
      accessed_word access (evaluated s p) (evaluated s i) (λ a. loads s w (place_in a access.offset))
      (λ a. loaded_plain w (place_in a access.offset) (loaded w (place_in a access.offset) s.blocks) refl)
  evaluated_word (source.Member to count access p i) h =
      accessed_word access (evaluated s p) (evaluated s i) (λ a. loads_pointer s to count a (place_in a access.offset))
      (λ a. loaded_pointer to count a (place_in a access.offset) (loaded width.Word (place_in a access.offset) s.blocks) refl)
  evaluated_word (source.Address bytes access p i) h =
      accessed_word access (evaluated s p) (evaluated s i) (λ a. spanned (place_in a access.offset) bytes) (λ a. omega arith)
  evaluated_word (source.Moved shift p i) h =
      both_word (evaluated s p) (evaluated s i) (λ v k. moves shift v k.number) (evaluated_word p h.1) (evaluated_word i h.2)
      (λ v k x y. moves_word shift v k.number shift.checked)
  evaluated_word (source.Added shift i p) h =
      both_word (evaluated s i) (evaluated s p) (λ k v. moves shift v k.number) (evaluated_word i h.1) (evaluated_word p h.2)
      (λ k v x y. moves_word shift v k.number shift.checked)
  evaluated_word (source.Binary o signs at a b) h =
      both_word (evaluated s a) (evaluated s b) (λ x y. operates o signs at x.number y.number) (evaluated_word a h.1) (evaluated_word b h.2)
      (λ v w x y. operates_word o signs at v.number w.number x y)
  evaluated_word (source.And a b) h =
      given_word (evaluated s a) (λ x. if x.number == 0 then plain 0 else given (evaluated s b) (λ y. plain (truth y.number)))
      (λ x. choice_word (x.number == 0) (given (evaluated s b) (λ y. plain (truth y.number))) (plain 0) (given_word (evaluated s b) (λ y. plain (truth y.number)) (λ y. flag_word _)) (omega arith))
  evaluated_word (source.Or a b) h =
      given_word (evaluated s a) (λ x. if x.number == 0 then given (evaluated s b) (λ y. plain (truth y.number)) else plain 1)
      (λ x. choice_word (x.number == 0) (plain 1) (given (evaluated s b) (λ y. plain (truth y.number))) (omega arith) (given_word (evaluated s b) (λ y. plain (truth y.number)) (λ y. flag_word _)))
  evaluated_word (source.Choice c a b) h =
      given_word (evaluated s c) (λ x. if x.number == 0 then evaluated s b else evaluated s a) (λ x. choice_word (x.number == 0) (evaluated s a) (evaluated s b) (evaluated_word a h.1) (evaluated_word b h.2))
  evaluated_word (source.Narrow e) h = given_word (evaluated s e) (λ v. plain (v.number % 256)) (λ v. omega arith)
  evaluated_word (source.Bare p) h = bare (evaluated s p) (evaluated_word p h)
    where
      bare : (r : Result Value Halt) → GivesWord r → GivesWord (given r (λ v. plain v.number))
      bare (Ok v) x = x
      bare (Err e) x = tt
  evaluated_word (source.Tested size how at p k) h =
      both_word (evaluated s p) (evaluated s k) (λ v c. tests size how at v c.number) (evaluated_word p h.1) (evaluated_word k h.2)
      (λ v c x y. tests_word size how at v c.number x)
  evaluated_word (source.Trusted to how p k) h =
      both_word (evaluated s p) (evaluated s k) (λ v c. trusts s to how v.number c.number) (evaluated_word p h.0) (evaluated_word k h.1)
      (λ v c x y. gives_word v.number _ (reads_number s.shapes s.blocks to v.number (pos v.number) (elements_behind v.number to.size (exact how c.number))) x)
