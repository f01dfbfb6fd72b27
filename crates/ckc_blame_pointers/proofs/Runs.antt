-- What runs if an evaluation does: in unchecked code, the evaluations in it that it goes through.
use Rattle.std.proofs.Common.{◌≡◌, refl, ap, subst, ℕ, Bool, true, false}
use Rattle.std.specs.Prelude.{◌+◌, ◌%◌, ◌==◌, ◌&&◌, not, if◌then◌else◌, Option, None, Some, Result, Ok, Err}
use Rattle.ckc_base.specs.declared.arithmetic.Mode.{Mode}
use Rattle.ckc_base.specs.declared.arithmetic.Mode.TheVariants.{Checked, Unchecked}
use Rattle.ckc_base.specs.declared.places.Pos.{Pos}
use Rattle.ckc_base.specs.declared.runtime_checks.Check.{Check}
use Rattle.ckc_types.specs.declared.types.CType.{CType}
use Rattle.ckc_types.specs.declared.types.Structs.{Structs}
use Rattle.ckc_syntax.specs.declared.tree.Name.{Name}
use Rattle.ckc_syntax.specs.declared.tree.TreeOp.{TreeOp}
use Rattle.ckc_syntax.specs.declared.tree.TreeOp.TheVariants as op
use Rattle.ckc_typed.specs.Constants.{size_of}
use Rattle.ckc_typed.specs.Layouts.{member_number}
use Rattle.ckc_typed.specs.Operands.{same_element, binary_type}
use Rattle.ckc_typed.specs.Types.{is_char, is_pointer}
use Rattle.ckc_source.specs.declared.expr.Access.{Access}
use Rattle.ckc_source.specs.declared.expr.Count.{Count}
use Rattle.ckc_source.specs.declared.expr.Operation.{Operation}
use Rattle.ckc_source.specs.declared.expr.Operation.TheVariants as operation
use Rattle.ckc_source.specs.declared.expr.Shift.{Shift}
use Rattle.ckc_source.specs.declared.outcome.Halt.{Halt}
use Rattle.ckc_source.specs.declared.outcome.Halt.TheVariants as halt
use Rattle.ckc_source.specs.declared.outcome.Value.{Value}
use Rattle.ckc_source.specs.Code.{Expr, Number, Moved, Added, Binary, And, Or, Choice, Narrow, Bare}
use Rattle.ckc_source.specs.Eval.{Store, given, given_both, plain, operates, moves, element, place_in, loads, loads_pointer, spanned, accessed, evaluated}
use Rattle.ckc_source.specs.Words.{truth}
use Rattle.ckc_build_values.specs.Kinds.{width_of, is_signed, size_behind, pointee_of}
use Rattle.ckc_build_values.specs.Members.{offset_of}
use Rattle.ckc_build_values.specs.Operators.{converted, cast, is_signed_at, shift, distance, of_operands, elements_in}
use Rattle.ckc_build_values.specs.Places.{Place, behind, member_place, read_at, address_at}
use Rattle.ckc_blame_sound.proofs.Types.{none_is_some}
use Rattle.ckc_blame_pointers.specs.Meant.{IsNotStuck}
use Rattle.ckc_blame_pointers.specs.Owed.{Comes, Runs, IfGives}
use Rattle.ckc_blame_pointers.proofs.Reach.{ComesTo, element_at, element_same}

-- ---- evaluations

-- What holds of an evaluation that runs is what it comes to.
pub comes_meant : (m : Mode) (P : Value → Type 0) (r : Result Value Halt) → (Runs m r → IsNotStuck P r) → Comes m P r
comes_meant Checked P (Ok v) next = next tt
comes_meant Checked P (Err (halt.Stopped why at)) next = tt
comes_meant Checked P (Err halt.Stuck) next = next tt
comes_meant Unchecked P (Ok v) next = next (λ e. absurd (cc))
comes_meant Unchecked P (Err (halt.Stopped why at)) next = tt
comes_meant Unchecked P (Err halt.Stuck) next = tt

-- In unchecked code, what holds of the value of an evaluation that runs is enough.
pub gives_meant : (m : Mode) (P : Value → Type 0) (r : Result Value Halt) → m ≡ Unchecked → IfGives P r → Runs m r → IsNotStuck P r
gives_meant m P r raw h runs = by r h (subst (λ m. Runs m r) raw runs)
  where
    by : (r : Result Value Halt) → IfGives P r → Runs Unchecked r → IsNotStuck P r
    by (Ok v) h runs = h
    by (Err (halt.Stopped why at)) h runs = tt
    by (Err halt.Stuck) h runs = runs refl

stuck_as : {A B : Type 0} (h : Halt) → ◌≡◌ {A = Result A Halt} (Err h) (Err halt.Stuck) → ◌≡◌ {A = Result B Halt} (Err h) (Err halt.Stuck)
stuck_as h e = let same : h ≡ halt.Stuck = cc in ap Err same

pub runs_first : {A B : Type 0} (m : Mode) (x : Result A Halt) (f : A → Result B Halt) → Runs m (given x f) → Runs m x
runs_first Checked x f r = tt
runs_first Unchecked (Ok a) f r = λ e. absurd (cc)
runs_first Unchecked (Err h) f r = λ e. r (stuck_as h e)

pub runs_next : {A B : Type 0} (m : Mode) (x : Result A Halt) (f : A → Result B Halt) (v : A) → x ≡ Ok v → Runs m (given x f) → Runs m (f v)
runs_next m x f v is r = subst (λ x. Runs m (given x f)) is r

-- An evaluation behind one that stopped is not gone through: then the whole stopped too.
pub both_run : {A B C : Type 0} (m : Mode) (G : Result C Halt → Type 0) → ((why : Check) (at : Pos) → G (Err (halt.Stopped why at))) → (x : Result A Halt) (y : Result B Halt) (f : A → B → Result C Halt) → Runs m (given_both x y f)
    → (Runs m x → Runs m y → G (given_both x y f)) → G (given_both x y f)
both_run Checked G stopped x y f r next = next tt tt
both_run Unchecked G stopped (Ok v) y f r next = next (λ e. absurd (cc)) (runs_first Unchecked y (f v) r)
both_run Unchecked G stopped (Err (halt.Stopped why at)) y f r next = stopped why at
both_run Unchecked G stopped (Err halt.Stuck) y f r next = absurd (r refl)

pub both_meant : {A B : Type 0} (m : Mode) (P : Value → Type 0) (x : Result A Halt) (y : Result B Halt) (f : A → B → Result Value Halt) → Runs m (given_both x y f)
    → (Runs m x → Runs m y → IsNotStuck P (given_both x y f)) → IsNotStuck P (given_both x y f)
both_meant m P x y f r next = both_run m (IsNotStuck P) (λ why at. tt) x y f r next

-- ---- operators

-- whether an operator may leave out its right operand
abbrev pub is_logical : TreeOp → Bool
is_logical op.AndThen = true
is_logical op.OrElse = true
is_logical _ = false

module _ (m : Mode) (store : Store) where
  pub binary_left : (o : Operation) (signed : Bool) (at : Pos) (v w : Expr) → Runs m (evaluated store (Binary o signed at v w)) → Runs m (evaluated store v)
  binary_left o signed at v w r = runs_first m (evaluated store v) (λ x. given (evaluated store w) (λ y. operates o signed at x.number y.number)) r

  pub and_left : (v w : Expr) → Runs m (evaluated store (And v w)) → Runs m (evaluated store v)
  and_left v w r = runs_first m (evaluated store v) (λ x. if x.number == 0 then plain 0 else given (evaluated store w) (λ y. plain (truth y.number))) r

  pub and_right : (v w : Expr) (x : Value) → evaluated store v ≡ Ok x → (x.number == 0) ≡ false → Runs m (evaluated store (And v w)) → Runs m (evaluated store w)
  and_right v w x is some r =
      runs_first m (evaluated store w) (λ y. plain (truth y.number))
      (subst (λ (b : Bool). Runs m (if b then plain 0 else given (evaluated store w) (λ y. plain (truth y.number)))) some
      (runs_next m (evaluated store v) (λ x. if x.number == 0 then plain 0 else given (evaluated store w) (λ y. plain (truth y.number))) x is r))

  pub or_left : (v w : Expr) → Runs m (evaluated store (Or v w)) → Runs m (evaluated store v)
  or_left v w r = runs_first m (evaluated store v) (λ x. if x.number == 0 then given (evaluated store w) (λ y. plain (truth y.number)) else plain 1) r

  pub or_right : (v w : Expr) (x : Value) → evaluated store v ≡ Ok x → (x.number == 0) ≡ true → Runs m (evaluated store (Or v w)) → Runs m (evaluated store w)
  or_right v w x is none r =
      runs_first m (evaluated store w) (λ y. plain (truth y.number))
      (subst (λ (b : Bool). Runs m (if b then given (evaluated store w) (λ y. plain (truth y.number)) else plain 1)) none
      (runs_next m (evaluated store v) (λ x. if x.number == 0 then given (evaluated store w) (λ y. plain (truth y.number)) else plain 1) x is r))

  pub choice_first : (u v w : Expr) → Runs m (evaluated store (Choice u v w)) → Runs m (evaluated store u)
  choice_first u v w r = runs_first m (evaluated store u) (λ x. if x.number == 0 then evaluated store w else evaluated store v) r

  pub choice_second : (u v w : Expr) (x : Value) → evaluated store u ≡ Ok x → (x.number == 0) ≡ false → Runs m (evaluated store (Choice u v w)) → Runs m (evaluated store v)
  choice_second u v w x is some r =
      subst (λ (b : Bool). Runs m (if b then evaluated store w else evaluated store v)) some (runs_next m (evaluated store u) (λ x. if x.number == 0 then evaluated store w else evaluated store v) x is r)

  pub choice_third : (u v w : Expr) (x : Value) → evaluated store u ≡ Ok x → (x.number == 0) ≡ true → Runs m (evaluated store (Choice u v w)) → Runs m (evaluated store w)
  choice_third u v w x is none r =
      subst (λ (b : Bool). Runs m (if b then evaluated store w else evaluated store v)) none (runs_next m (evaluated store u) (λ x. if x.number == 0 then evaluated store w else evaluated store v) x is r)

  pub cast_runs : (t u : CType) (v : Expr) → Runs m (evaluated store (cast t u v)) → Runs m (evaluated store v)
  cast_runs t u v r = by (is_pointer t && not (same_element t u)) r
    where
      narrow : (b : Bool) → Runs m (evaluated store (if b then Narrow v else v)) → Runs m (evaluated store v)
      narrow true r = runs_first m (evaluated store v) (λ x. plain (x.number % 256)) r
      narrow false r = r

      by : (b : Bool) → Runs m (evaluated store (if b then Bare v else converted t v)) → Runs m (evaluated store v)
      by true r = runs_first m (evaluated store v) (λ x. plain x.number) r
      by false r = narrow (is_char t) r

  pub elements_run : (size : ℕ) (t : CType) (at : Pos) (v : Expr) → Runs m (evaluated store (elements_in size t at v)) → Runs m (evaluated store v)
  elements_run size t at v r = by (size == 1) r
    where
      by : (b : Bool) → Runs m (evaluated store (if b then v else Binary operation.Div (is_signed t) at v (Number size))) → Runs m (evaluated store v)
      by true r = r
      by false r = binary_left operation.Div (is_signed t) at v (Number size) r

  module _ (structs : Structs) (P : Value → Type 0) (t u : CType) (at : Pos) (v w : Expr) where
    -- what holds of an operator, if it holds wherever both operands run
    abbrev Both : Expr → Type 0
    Both x = Runs m (evaluated store x) → (Runs m (evaluated store v) → Runs m (evaluated store w) → IsNotStuck P (evaluated store x)) → IsNotStuck P (evaluated store x)

    binary_run : (o : Operation) (signed : Bool) → Both (Binary o signed at v w)
    binary_run o signed r next = both_meant m P (evaluated store v) (evaluated store w) (λ x y. operates o signed at x.number y.number) r next

    moved_run : (q : Shift) → Both (Moved q v w)
    moved_run q r next = both_meant m P (evaluated store v) (evaluated store w) (λ x y. moves q x y.number) r next

    added_run : (q : Shift) → Both (Added q v w)
    added_run q r next = both_meant m P (evaluated store v) (evaluated store w) (λ x y. moves q y x.number) r next

    distance_run : Both (distance structs t at v w)
    distance_run r next = by (evaluated store v) (evaluated store w) r next
      where
        minus : Value → Value → Result Value Halt
        minus x y = operates operation.Sub true at x.number y.number

        over : Value → Result Value Halt
        over x = operates operation.Div true at x.number (size_behind structs t)

        by : (x y : Result Value Halt) → Runs m (given (given_both x y minus) over) → (Runs m x → Runs m y → IsNotStuck P (given (given_both x y minus) over)) → IsNotStuck P (given (given_both x y minus) over)
        by x y r next = both_run m (λ z. IsNotStuck P (given z over)) (λ why at. tt) x y minus (runs_first m (given_both x y minus) over r) next

    pub operands_run : (o : TreeOp) (j k : Bool) (r : CType) → is_logical o ≡ false → binary_type o t j u k ≡ Some r → Both (of_operands structs o t u at v w)
    operands_run op.AndThen j k r c e = absurd (cc)
    operands_run op.OrElse j k r c e = absurd (cc)
    operands_run op.Or j k r c e = binary_run operation.Or (is_signed_at op.Or t u)
    operands_run op.Xor j k r c e = binary_run operation.Xor (is_signed_at op.Xor t u)
    operands_run op.And j k r c e = binary_run operation.And (is_signed_at op.And t u)
    operands_run op.Eq j k r c e = binary_run operation.Eq (is_signed_at op.Eq t u)
    operands_run op.Ne j k r c e = binary_run operation.Ne (is_signed_at op.Ne t u)
    operands_run op.Lt j k r c e = binary_run operation.Lt (is_signed_at op.Lt t u)
    operands_run op.Le j k r c e = binary_run operation.Le (is_signed_at op.Le t u)
    operands_run op.Gt j k r c e = binary_run operation.Gt (is_signed_at op.Gt t u)
    operands_run op.Ge j k r c e = binary_run operation.Ge (is_signed_at op.Ge t u)
    operands_run op.Shl j k r c e = binary_run operation.Shl (is_signed_at op.Shl t u)
    operands_run op.Shr j k r c e = binary_run operation.Shr (is_signed_at op.Shr t u)
    operands_run op.Mul j k r c e = binary_run operation.Mul (is_signed_at op.Mul t u)
    operands_run op.Div j k r c e = binary_run operation.Div (is_signed_at op.Div t u)
    operands_run op.Rem j k r c e = binary_run operation.Rem (is_signed_at op.Rem t u)
    operands_run op.Add j k r c e = by (is_pointer t) (is_pointer u)
      where
        by : (a b : Bool) → Both (if a then Moved (shift structs t u at false) v w else (if b then Added (shift structs u t at false) v w else Binary operation.Add (is_signed_at op.Add t u) at v w))
        by true b = moved_run (shift structs t u at false)
        by false true = added_run (shift structs u t at false)
        by false false = binary_run operation.Add (is_signed_at op.Add t u)
    operands_run op.Sub j k r c e = by (is_pointer t) (is_pointer u)
      where
        by : (a b : Bool) → Both (if a then (if b then distance structs t at v w else Moved (shift structs t u at true) v w) else Binary operation.Sub (is_signed_at op.Sub t u) at v w)
        by true true = distance_run
        by true false = moved_run (shift structs t u at true)
        by false b = binary_run operation.Sub (is_signed_at op.Sub t u)
    operands_run o j k r c e = none_is_some r e

-- ---- places

module _ (m : Mode) where
  accessed_run : (access : Access) (x y : Result Value Halt) (go : ℕ → Result Value Halt) → Runs m (accessed access x y go) → Runs m (given_both x y (λ v k. element access v k.number))
  accessed_run access x y go r = by m x y r
    where
      by : (m : Mode) (x y : Result Value Halt) → Runs m (accessed access x y go) → Runs m (given_both x y (λ v k. element access v k.number))
      by Checked x y r = tt
      by Unchecked (Ok v) (Ok k) r = runs_first Unchecked (element access v k.number) go r
      by Unchecked (Ok v) (Err h) r = λ e. r (stuck_as h e)
      by Unchecked (Err h) y r = λ e. r (stuck_as h e)

  module _ (store : Store) where
    -- the element that a place is in
    pub read_place : (structs : Structs) (t : CType) (o : Option Count) (q : Place) → Runs m (evaluated store (read_at structs t o q)) → Runs m (element_at store q)
    read_place structs t (Some n) q r = accessed_run q.access (evaluated store q.pointer) (evaluated store q.index) (λ a. loads_pointer store (pointee_of structs t) n a (place_in a q.access.offset)) r
    read_place structs t None q r = accessed_run q.access (evaluated store q.pointer) (evaluated store q.index) (λ a. loads store (width_of t) (place_in a q.access.offset)) r

    -- A member is in the element of its structure.
    pub behind_place : (bytes : ℕ) (q : Place) → Runs m (element_at store (behind bytes q)) → Runs m (element_at store q)
    behind_place bytes q r = by (evaluated store q.pointer) (evaluated store q.index) r
      where
        by : (x y : Result Value Halt) → Runs m (given_both x y (λ v k. element (record q.access { offset = q.access.offset + bytes }) v k.number)) → Runs m (given_both x y (λ v k. element q.access v k.number))
        by (Ok v) (Ok k) r = subst (Runs m) (element_same q.access (q.access.offset + bytes) v k.number) r
        by (Ok v) (Err h) r = r
        by (Err h) y r = r

    pub member_runs : (structs : Structs) (t : CType) (o : Option Count) (tag : ℕ) (n : Name) (q : Place) → Runs m (evaluated store (read_at structs t o (member_place structs tag n q))) → Runs m (element_at store q)
    member_runs structs t o tag n q r =
        behind_place (offset_of structs tag (member_number n)) q (read_place structs t o (member_place structs tag n q) r)

    pub address_runs : (structs : Structs) (t : CType) (tag : ℕ) (n : Name) (q : Place) → Runs m (evaluated store (address_at structs t (member_place structs tag n q))) → Runs m (element_at store q)
    address_runs structs t tag n q r =
        behind_place (offset_of structs tag (member_number n)) q
        (accessed_run (member_place structs tag n q).access (evaluated store q.pointer) (evaluated store q.index) (λ a. spanned (place_in a (member_place structs tag n q).access.offset) (size_of structs t)) r)

    pub pointer_runs : (q : Place) → Runs m (element_at store q) → Runs m (evaluated store q.pointer)
    pointer_runs q r = runs_first m (evaluated store q.pointer) (λ v. given (evaluated store q.index) (λ k. element q.access v k.number)) r

    -- what is read at a place, if it holds wherever the pointer and the index run
    pub place_run : (structs : Structs) (P : Value → Type 0) (t : CType) (o : Option Count) (q : Place) → Runs m (evaluated store (read_at structs t o q))
        → (Runs m (evaluated store q.pointer) → Runs m (evaluated store q.index) → IsNotStuck P (evaluated store (read_at structs t o q))) → IsNotStuck P (evaluated store (read_at structs t o q))
    place_run structs P t (Some n) q r next =
        both_meant m P (evaluated store q.pointer) (evaluated store q.index) (λ v k. given (element q.access v k.number) (λ a. loads_pointer store (pointee_of structs t) n a (place_in a q.access.offset))) r next
    place_run structs P t None q r next = both_meant m P (evaluated store q.pointer) (evaluated store q.index) (λ v k. given (element q.access v k.number) (λ a. loads store (width_of t) (place_in a q.access.offset))) r next

    -- the element of a place, likewise
    pub reached_run : (P : ℕ → Type 0) (q : Place) → Runs m (element_at store q) → (Runs m (evaluated store q.pointer) → Runs m (evaluated store q.index) → ComesTo P (element_at store q)) → ComesTo P (element_at store q)
    reached_run P q r next = both_run m (ComesTo P) (λ why at. tt) (evaluated store q.pointer) (evaluated store q.index) (λ v k. element q.access v k.number) r next
