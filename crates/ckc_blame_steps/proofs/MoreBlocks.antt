-- Expressions and targets come to the same if blocks are made, unless they are stuck without them.
use Rattle.std.proofs.Common.{◌≡◌, ◌⊎◌, inl, inr, refl, sym, ap, subst, ℕ, ◌==◌, ◌%◌, List, ◌++◌, ℤ, ◌+ℤ◌}
use Rattle.std.specs.Prelude.{Bool, true, false, if◌then◌else◌, pos, negsuc, Option, None, Some, Result, Ok, Err}
use Rattle.ckc_base.specs.declared.arithmetic.Width.{Width}
use Rattle.ckc_base.specs.declared.arithmetic.Width.TheVariants.{Word}
use Rattle.ckc_source.specs.declared.expr.Access.{Access}
use Rattle.ckc_source.specs.declared.expr.Pointee.{Pointee}
use Rattle.ckc_source.specs.declared.expr.Count.{Count}
use Rattle.ckc_source.specs.declared.expr.Count.TheVariants as count
use Rattle.ckc_source.specs.declared.outcome.Halt.{Halt}
use Rattle.ckc_source.specs.declared.outcome.Halt.TheVariants.{Stuck}
use Rattle.ckc_source.specs.declared.outcome.Value.{Value}
use Rattle.ckc_source.specs.declared.program.Shape.{Shape}
use Rattle.ckc_source.specs.Blocks.{Block, loaded}
use Rattle.ckc_source.specs.Code.{Expr, Number, Local, Limited, Array, Load, Member, Address, Moved, Added, Binary, And, Or, Choice, Narrow, Bare, Tested, Trusted}
use Rattle.ckc_source.specs.Eval.{Store, given, given_both, given_some, plain, ranged, spanned, reads_within, reads, element, place_in, loads, counted, loads_pointer, moves, operates, tests, trusts, accessed, evaluated}
use Rattle.ckc_source.specs.Runs.{is_true}
use Rattle.ckc_source.specs.Words.{exact, width_of, elements_behind, truth}
use Rattle.ckc_blame_sound.proofs.Fresh.{loaded_before, true_before}

-- A result is another one, unless that is stuck.
abbrev pub IsSameUnlessStuck : {A : Type 0} → Result A Halt → Result A Halt → Type 0
IsSameUnlessStuck x y = (x ≡ Err Stuck) ⊎ (y ≡ x)

pub given_later : {A B : Type 0} (x y : Result A Halt) (f g : A → Result B Halt) → IsSameUnlessStuck x y → ((a : A) → IsSameUnlessStuck (f a) (g a)) → IsSameUnlessStuck (given x f) (given y g)
given_later x y f g (inl e) h = inl (ap (λ z. given z f) e)
given_later (Ok a) y f g (inr e) h = subst (λ z. IsSameUnlessStuck (f a) (given z g)) (sym e) (h a)
given_later (Err b) y f g (inr e) h = inr (ap (λ z. given z g) e)

pub both_later : {A B C : Type 0} (x y : Result A Halt) (v w : Result B Halt) (f g : A → B → Result C Halt) → IsSameUnlessStuck x y → IsSameUnlessStuck v w
    → ((a : A) (b : B) → IsSameUnlessStuck (f a b) (g a b)) → IsSameUnlessStuck (given_both x v f) (given_both y w g)
both_later x y v w f g h k l = given_later x y (λ a. given v (f a)) (λ a. given w (g a)) h (λ a. given_later v w (f a) (g a) k (l a))

pub same : {A : Type 0} (x : Result A Halt) → IsSameUnlessStuck x x
same x = inr refl

some_later : {A B : Type 0} (o p : Option A) (f g : A → Result B Halt) → ((a : A) → o ≡ Some a → p ≡ Some a) → ((a : A) → IsSameUnlessStuck (f a) (g a)) → IsSameUnlessStuck (given_some o f) (given_some p g)
some_later None p f g h k = inl refl
some_later (Some a) p f g h k = subst (λ z. IsSameUnlessStuck (f a) (given_some z g)) (sym (h a refl)) (k a)

module _ (shapes : List Shape) (locals : List ℕ) (bs more : List Block) where
  abbrev before : Store
  before = record { shapes = shapes; blocks = bs; locals = locals }

  abbrev after : Store
  after = record { shapes = shapes; blocks = bs ++ more; locals = locals }

  within_later : (to : Pointee) (n : ℕ) (low high : ℤ) → IsSameUnlessStuck (reads_within shapes bs to n low high) (reads_within shapes (bs ++ more) to n low high)
  within_later to n (pos low) (pos high) = by (is_true shapes bs to n low high) (is_true shapes (bs ++ more) to n low high) (true_before shapes bs more to n low high)
    where
      by : (b c : Bool) → (b ≡ true → c ≡ true) → IsSameUnlessStuck (if b then ranged n low high else Err Stuck) (if c then ranged n low high else Err Stuck)
      by false c h = inl refl
      by true c h = subst (λ z. IsSameUnlessStuck (ranged n low high) (if z then ranged n low high else Err Stuck)) (sym (h refl)) (same (ranged n low high))
  within_later to n (negsuc low) high = inl refl
  within_later to n (pos low) (negsuc high) = inl refl

  reads_later : (to : Pointee) (n : ℕ) (low high : ℤ) → IsSameUnlessStuck (reads shapes bs to n low high) (reads shapes (bs ++ more) to n low high)
  reads_later to n low high = by (n == 0)
    where
      by : (b : Bool) → IsSameUnlessStuck (if b then plain 0 else reads_within shapes bs to n low high) (if b then plain 0 else reads_within shapes (bs ++ more) to n low high)
      by true = inr refl
      by false = within_later to n low high

  loads_later : (width : Width) (a : ℕ) → IsSameUnlessStuck (loads before width a) (loads after width a)
  loads_later width a = some_later (loaded width a bs) (loaded width a (bs ++ more)) plain plain (λ n e. loaded_before width a n bs more e) (λ n. same (plain n))

  counted_later : (begin : ℕ) (c : Count) → IsSameUnlessStuck (counted before begin c) (counted after begin c)
  counted_later begin (count.Fixed n) = inr refl
  counted_later begin (count.Member offset form add) =
      some_later (loaded (width_of form) (place_in begin offset) bs) (loaded (width_of form) (place_in begin offset) (bs ++ more)) (λ m. Ok (exact form m +ℤ add)) (λ m. Ok (exact form m +ℤ add))
      (λ n e. loaded_before (width_of form) (place_in begin offset) n bs more e) (λ n. inr refl)

  pointer_later : (to : Pointee) (c : Count) (begin a : ℕ) → IsSameUnlessStuck (loads_pointer before to c begin a) (loads_pointer after to c begin a)
  pointer_later to c begin a =
      some_later (loaded Word a bs) (loaded Word a (bs ++ more))
      (λ n. given (counted before begin c) (λ m. reads shapes bs to n (pos n) (elements_behind n to.size m)))
      (λ n. given (counted after begin c) (λ m. reads shapes (bs ++ more) to n (pos n) (elements_behind n to.size m)))
      (λ n e. loaded_before Word a n bs more e)
      (λ n. given_later (counted before begin c) (counted after begin c)
      (λ m. reads shapes bs to n (pos n) (elements_behind n to.size m)) (λ m. reads shapes (bs ++ more) to n (pos n) (elements_behind n to.size m))
      (counted_later begin c) (λ m. reads_later to n (pos n) (elements_behind n to.size m)))

  access_later : (access : Access) (x y v w : Result Value Halt) (f g : ℕ → Result Value Halt) → IsSameUnlessStuck x y → IsSameUnlessStuck v w → ((a : ℕ) → IsSameUnlessStuck (f a) (g a))
      → IsSameUnlessStuck (accessed access x v f) (accessed access y w g)
  access_later access x y v w f g h k l =
      both_later x y v w (λ p i. given (element access p i.number) f) (λ p i. given (element access p i.number) g) h k
      (λ p i. given_later (element access p i.number) (element access p i.number) f g (same (element access p i.number)) l)

  choice_later : (b : Bool) (x y v w : Result Value Halt) → IsSameUnlessStuck x y → IsSameUnlessStuck v w → IsSameUnlessStuck (if b then x else v) (if b then y else w)
  choice_later true x y v w h k = h
  choice_later false x y v w h k = k

  pub evaluated_later : (e : Expr) → IsSameUnlessStuck (evaluated before e) (evaluated after e)
  evaluated_later (Number n) = inr refl
  evaluated_later (Local x) = inr refl
  evaluated_later (Limited x limits) = reads_later limits.to _ _ _
  evaluated_later (Array at bytes) = inr refl
  evaluated_later (Load width access p i) =
      access_later access (evaluated before p) (evaluated after p) (evaluated before i) (evaluated after i)
      (λ a. loads before width (place_in a access.offset)) (λ a. loads after width (place_in a access.offset)) (evaluated_later p) (evaluated_later i)
      (λ a. loads_later width (place_in a access.offset))
  evaluated_later (Member to c access p i) =
      access_later access (evaluated before p) (evaluated after p) (evaluated before i) (evaluated after i)
      (λ a. loads_pointer before to c a (place_in a access.offset)) (λ a. loads_pointer after to c a (place_in a access.offset)) (evaluated_later p) (evaluated_later i)
      (λ a. pointer_later to c a (place_in a access.offset))
  evaluated_later (Address bytes access p i) =
      access_later access (evaluated before p) (evaluated after p) (evaluated before i) (evaluated after i)
      (λ a. spanned (place_in a access.offset) bytes) (λ a. spanned (place_in a access.offset) bytes) (evaluated_later p) (evaluated_later i)
      (λ a. inr refl)
  evaluated_later (Moved shift p i) =
      both_later (evaluated before p) (evaluated after p) (evaluated before i) (evaluated after i) (λ v k. moves shift v k.number) (λ v k. moves shift v k.number)
      (evaluated_later p) (evaluated_later i) (λ v k. same (moves shift v k.number))
  evaluated_later (Added shift i p) =
      both_later (evaluated before i) (evaluated after i) (evaluated before p) (evaluated after p) (λ k v. moves shift v k.number) (λ k v. moves shift v k.number)
      (evaluated_later i) (evaluated_later p) (λ k v. same (moves shift v k.number))
  evaluated_later (Binary operation is_signed at a b) =
      both_later (evaluated before a) (evaluated after a) (evaluated before b) (evaluated after b)
      (λ x y. operates operation is_signed at x.number y.number) (λ x y. operates operation is_signed at x.number y.number)
      (evaluated_later a) (evaluated_later b) (λ x y. same (operates operation is_signed at x.number y.number))
  evaluated_later (And a b) =
      given_later (evaluated before a) (evaluated after a)
      (λ x. if x.number == 0 then plain 0 else given (evaluated before b) (λ y. plain (truth y.number)))
      (λ x. if x.number == 0 then plain 0 else given (evaluated after b) (λ y. plain (truth y.number))) (evaluated_later a)
      (λ x. choice_later (x.number == 0) (plain 0) (plain 0) (given (evaluated before b) (λ y. plain (truth y.number))) (given (evaluated after b) (λ y. plain (truth y.number)))
      (same (plain 0)) (given_later (evaluated before b) (evaluated after b) (λ y. plain (truth y.number)) (λ y. plain (truth y.number)) (evaluated_later b) (λ y. same (plain (truth y.number)))))
  evaluated_later (Or a b) =
      given_later (evaluated before a) (evaluated after a)
      (λ x. if x.number == 0 then given (evaluated before b) (λ y. plain (truth y.number)) else plain 1)
      (λ x. if x.number == 0 then given (evaluated after b) (λ y. plain (truth y.number)) else plain 1) (evaluated_later a)
      (λ x. choice_later (x.number == 0) (given (evaluated before b) (λ y. plain (truth y.number))) (given (evaluated after b) (λ y. plain (truth y.number))) (plain 1) (plain 1)
      (given_later (evaluated before b) (evaluated after b) (λ y. plain (truth y.number)) (λ y. plain (truth y.number)) (evaluated_later b) (λ y. same (plain (truth y.number))))
      (same (plain 1)))
  evaluated_later (Choice c a b) =
      given_later (evaluated before c) (evaluated after c) (λ x. if x.number == 0 then evaluated before b else evaluated before a) (λ x. if x.number == 0 then evaluated after b else evaluated after a)
      (evaluated_later c)
      (λ x. choice_later (x.number == 0) (evaluated before b) (evaluated after b) (evaluated before a) (evaluated after a) (evaluated_later b) (evaluated_later a))
  evaluated_later (Narrow e) =
      given_later (evaluated before e) (evaluated after e) (λ v. plain (v.number % 256)) (λ v. plain (v.number % 256)) (evaluated_later e) (λ v. same (plain (v.number % 256)))
  evaluated_later (Bare p) =
      given_later (evaluated before p) (evaluated after p) (λ v. plain v.number) (λ v. plain v.number) (evaluated_later p) (λ v. same (plain v.number))
  evaluated_later (Tested size form at p k) =
      both_later (evaluated before p) (evaluated after p) (evaluated before k) (evaluated after k) (λ v c. tests size form at v c.number) (λ v c. tests size form at v c.number)
      (evaluated_later p) (evaluated_later k) (λ v c. same (tests size form at v c.number))
  evaluated_later (Trusted to form p k) =
      both_later (evaluated before p) (evaluated after p) (evaluated before k) (evaluated after k)
      (λ v c. trusts before to form v.number c.number) (λ v c. trusts after to form v.number c.number)
      (evaluated_later p) (evaluated_later k) (λ v c. reads_later to v.number (pos v.number) _)
