-- What an operation comes to is given by the registers that it reads, and goes to the register that it writes.
use Rattle.std.proofs.Common.{◌≡◌, ◌⊎◌, inl, inr, ⊎_elim, ℕ, suc, ◌==◌, if◌then◌else◌, Bool, true, false, ◌||◌, List, [], ◌∷◌, length, Option, None, Some, refl, sym, ap, ◌∙◌, arith}
use Rattle.std.specs.Prelude.{IfSome, option_and_then}
use Rattle.std.specs.List.{list_any}
use Rattle.std.specs.Option.{option_map}
use Rattle.std.proofs.lemmas.Bool.{or_left, or_right}
use Rattle.std.proofs.lemmas.Bool.Decides.{nat_tests}
use Rattle.ckc_base.specs.LongEvents.{LongEvent}
use Rattle.ckc_base.specs.Actions.{World, Outcome, Gives, Done, Stops, Lost, with_value, stores_in, gets_from, allocates_in, allocates_at}
use Rattle.ckc_base.specs.Memory.{Memory, data_start, heap_has_room, next_place, memory_with, value_at}
use Rattle.ckc_base.specs.declared.arithmetic.Width.TheVariants.{Word}
use Rattle.ckc_base.specs.Activations.{Values}
use Rattle.ckc_tac.specs.declared.code.Comparison.{Comparison}
use Rattle.ckc_tac.specs.declared.code.Operand.{Operand}
use Rattle.ckc_tac.specs.declared.code.Operand.TheVariants.{Register, Number}
use Rattle.ckc_tac.specs.declared.code.TacOp.{TacOp}
use Rattle.ckc_tac.specs.declared.code.TacOp.TheVariants.{Const, Copy, Bin, High, Load, Store, Check, Call, Get, Put, Alloc}
use Rattle.ckc_tac.specs.Operations.{outcome_of, value_in, values_in, compared, at_offset}
use Rattle.ckc_flow.specs.Live.{is_register, reads, target_of}

-- ---- where a value goes

-- an outcome gives its value to the target, and is done without one only if there is none
abbrev pub GoesTo : Option ℕ → Outcome → Type 0
GoesTo target (Gives events t value world) = target ≡ Some t
GoesTo target (Done events world) = target ≡ None
GoesTo target (Stops check at) = Unit {0}
GoesTo target Lost = Unit {0}

module _ (target : Option ℕ) where
  to_value : (o : Option ℕ) (f : ℕ → Outcome) → ((x : ℕ) → GoesTo target (f x)) → GoesTo target (with_value o f)
  to_value (Some x) f h = h x
  to_value None f h = tt

  to_if : (b : Bool) (x y : Outcome) → GoesTo target x → GoesTo target y → GoesTo target (if b then x else y)
  to_if true x y h k = h
  to_if false x y h k = k

to_store : (world : World) (event : LongEvent) (memory : Option Memory) → GoesTo None (stores_in world event memory)
to_store world event (Some memory) = refl
to_store world event None = tt

to_get : (memory : Memory) (t : ℕ) (input : List ℕ) → GoesTo (Some t) (gets_from memory t input)
to_get memory t [] = refl
to_get memory t (byte ∷ rest) = refl

to_allocated : (world : World) (t place next : ℕ) (memory : Option Memory) → GoesTo (Some t) (allocates_in world t place next memory)
to_allocated world t place next (Some memory) = refl
to_allocated world t place next None = tt

to_room : (world : World) (t count size place : ℕ) → GoesTo (Some t) (allocates_at world t count size place)
to_room world t count size place =
    let next = next_place place count size in
    to_if (Some t) (heap_has_room place count size) (allocates_in world t place next (memory_with Word world.memory data_start next)) (Gives [] t 0 world)
    (to_allocated world t place next (memory_with Word world.memory data_start next)) refl

pub goes_to_target : (registers : Values) (world : World) (op : TacOp) → GoesTo (target_of op) (outcome_of registers world op)
goes_to_target registers world (Const t n) = refl
goes_to_target registers world (Copy t a) = to_value (Some t) (registers a) _ (λ x. refl)
goes_to_target registers world (Bin op t a b) = to_value (Some t) (value_in registers a) _ (λ x. to_value (Some t) (value_in registers b) _ (λ y. refl))
goes_to_target registers world (High is_signed t a b) = to_value (Some t) (value_in registers a) _ (λ x. to_value (Some t) (value_in registers b) _ (λ y. refl))
goes_to_target registers world (Load width t a n) = to_value (Some t) (value_in registers a) _ (λ p. to_value (Some t) (value_at width world.memory (at_offset p n)) _ (λ x. refl))
goes_to_target registers world (Store width a n b) =
    to_value None (value_in registers a) _ (λ p. to_value None (value_in registers b) _ (λ v. to_store world _ (memory_with width world.memory (at_offset p n) v)))
goes_to_target registers world (Check check at comparison a b) =
    to_value None (compared comparison (value_in registers a) (value_in registers b)) _ (λ v. to_if None (v == 0) (Stops check at) (Done [] world) tt refl)
goes_to_target registers world (Call target callee arguments at) = tt
goes_to_target registers world (Get t) = to_get world.memory t world.input
goes_to_target registers world (Put a) = to_value None (value_in registers a) _ (λ v. refl)
goes_to_target registers world (Alloc t a size) =
    to_value (Some t) (value_in registers a) _ (λ n. to_value (Some t) (value_at Word world.memory data_start) _ (λ place. to_room world t n size place))

-- ---- what is read

-- one value is missing, or another one is the same
abbrev pub Same : {X : Type 0} → Option X → Option X → Type 0
Same {X} o p = (o ≡ None) ⊎ (o ≡ p)

pub same_of : (o p : Option ℕ) → IfSome o (λ v. p ≡ Some v) → Same o p
same_of (Some v) p h = inr (sym h)
same_of None p h = inl refl

abbrev SameOutcome : Outcome → Outcome → Type 0
SameOutcome o p = (o ≡ Lost) ⊎ (o ≡ p)

with_same : (o p : Option ℕ) (f g : ℕ → Outcome) → Same o p → ((x : ℕ) → SameOutcome (f x) (g x)) → SameOutcome (with_value o f) (with_value p g)
with_same o p f g (inl e) h = inl (ap (λ k. with_value k f) e)
with_same (Some x) p f g (inr e) h = ⊎_elim (λ k. inl k) (λ k. inr (k ∙ ap (λ q. with_value q g) e)) (h x)
with_same None p f g (inr e) h = inl refl

pub same_test : (a r : ℕ) → a ≡ r → (a == r) ≡ true
same_test a r e = grind (arith, nat_tests)

module _ (registers lower : Values) where
  operand_same : (a : Operand) → ((r : ℕ) → is_register r a ≡ true → Same (registers r) (lower r)) → Same (value_in registers a) (value_in lower a)
  operand_same (Register r) h = h r (same_test r r refl)
  operand_same (Number n) h = inr refl

  module _ (a b : Operand) (h : (r : ℕ) → (is_register r a || is_register r b) ≡ true → Same (registers r) (lower r)) where
    pub left_same : Same (value_in registers a) (value_in lower a)
    left_same = operand_same a (λ r e. h r (or_left (is_register r a) (is_register r b) e))

    pub right_same : Same (value_in registers b) (value_in lower b)
    right_same = operand_same b (λ r e. h r (or_right (is_register r a) (is_register r b) e))

    two_same : (f : ℕ → ℕ → Outcome) →
        SameOutcome (with_value (value_in registers a) (λ x. with_value (value_in registers b) (f x))) (with_value (value_in lower a) (λ x. with_value (value_in lower b) (f x)))
    two_same f = with_same (value_in registers a) (value_in lower a) _ _ left_same (λ x.
        with_same (value_in registers b) (value_in lower b) (f x) (f x) right_same (λ y. inr refl))

  one_same : (a : Operand) (f : ℕ → Outcome) → ((r : ℕ) → is_register r a ≡ true → Same (registers r) (lower r))
      → SameOutcome (with_value (value_in registers a) f) (with_value (value_in lower a) f)
  one_same a f h = with_same (value_in registers a) (value_in lower a) f f (operand_same a h) (λ x. inr refl)

  compared_of : (comparison : Comparison) (o p o' p' : Option ℕ) → Same o o' → Same p p' → Same (compared comparison o p) (compared comparison o' p')
  compared_of comparison o p o' p' (inl e) k = inl (ap (λ q. compared comparison q p) e)
  compared_of comparison (Some x) p o' p' (inr e) (inl k) = inl (ap (λ q. compared comparison (Some x) q) k)
  compared_of comparison None p o' p' (inr e) (inl k) = inl refl
  compared_of comparison o p o' p' (inr e) (inr k) = inr (ap (λ q. compared comparison q p) e ∙ ap (λ q. compared comparison o' q) k)

  pub compared_same : (comparison : Comparison) (a b : Operand) → ((r : ℕ) → (is_register r a || is_register r b) ≡ true → Same (registers r) (lower r))
      → Same (compared comparison (value_in registers a) (value_in registers b)) (compared comparison (value_in lower a) (value_in lower b))
  compared_same comparison a b h =
      compared_of comparison (value_in registers a) (value_in registers b) (value_in lower a) (value_in lower b) (left_same a b h) (right_same a b h)

  pub outcome_same : (world : World) (op : TacOp) → ((r : ℕ) → reads r op ≡ true → Same (registers r) (lower r))
      → SameOutcome (outcome_of registers world op) (outcome_of lower world op)
  outcome_same world (Const t n) h = inr refl
  outcome_same world (Copy t a) h = with_same (registers a) (lower a) _ _ (h a (same_test a a refl)) (λ x. inr refl)
  outcome_same world (Bin op t a b) h = two_same a b h _
  outcome_same world (High is_signed t a b) h = two_same a b h _
  outcome_same world (Load width t a n) h = one_same a _ h
  outcome_same world (Store width a n b) h = two_same a b h _
  outcome_same world (Check check at comparison a b) h = with_same
      (compared comparison (value_in registers a) (value_in registers b)) (compared comparison (value_in lower a) (value_in lower b)) _ _
      (compared_same comparison a b h) (λ x. inr refl)
  outcome_same world (Call target callee arguments at) h = inr refl
  outcome_same world (Get t) h = inr refl
  outcome_same world (Put a) h = one_same a _ h
  outcome_same world (Alloc t a size) h = one_same a _ h

  -- ---- lists of arguments

  pub returned_same : (a : Operand) → ((r : ℕ) → is_register r a ≡ true → Same (registers r) (lower r)) → Same (value_in registers a) (value_in lower a)
  returned_same a h = operand_same a h

  more_same : (o p : Option ℕ) (os ps : Option (List ℕ)) → Same o p → Same os ps
      → Same (option_and_then (λ v. option_map (λ vs. v ∷ vs) os) o) (option_and_then (λ v. option_map (λ vs. v ∷ vs) ps) p)
  more_same o p os ps (inl e) k = inl (ap (λ q. option_and_then (λ v. option_map (λ vs. v ∷ vs) os) q) e)
  more_same (Some v) p os ps (inr e) (inl k) = inl (ap (λ q. option_map (λ vs. v ∷ vs) q) k)
  more_same None p os ps (inr e) (inl k) = inl refl
  more_same o p os ps (inr e) (inr k) =
      inr (ap (λ q. option_and_then (λ v. option_map (λ vs. v ∷ vs) os) q) e ∙ ap (λ q. option_and_then (λ v. option_map (λ vs. v ∷ vs) q) p) k)

  pub values_same : (rs : List ℕ) → ((r : ℕ) → list_any (λ a. a == r) rs ≡ true → Same (registers r) (lower r)) → Same (values_in registers rs) (values_in lower rs)
  values_same [] h = inr refl
  values_same (a ∷ rs) h =
      more_same (registers a) (lower a) (values_in registers rs) (values_in lower rs)
      (h a (or_left (a == a) (list_any (λ q. q == a) rs) (same_test a a refl)))
      (values_same rs (λ r e. h r (or_right (a == r) (list_any (λ q. q == r) rs) e)))

-- ---- lengths

values_more : (v : Option ℕ) (vs : Option (List ℕ)) (out : List ℕ) (n : ℕ) → ((us : List ℕ) → vs ≡ Some us → length us ≡ n)
    → option_and_then (λ v. option_map (λ vs. v ∷ vs) vs) v ≡ Some out → length out ≡ suc n
values_more (Some v) (Some vs) out n h e =
    let f : out ≡ v ∷ vs = cc in
    ap length f ∙ ap suc (h vs refl)
values_more (Some v) None out n h e = absurd cc
values_more None vs out n h e = absurd cc

-- a list of values is as long as that of the registers that have them
pub length-values_in : (registers : Values) (rs vs : List ℕ) → values_in registers rs ≡ Some vs → length vs ≡ length rs
length-values_in registers [] vs e = ap length (let f : vs ≡ [] = cc in f)
length-values_in registers (r ∷ rs) vs e = values_more (registers r) (values_in registers rs) vs (length rs) (length-values_in registers rs) e
