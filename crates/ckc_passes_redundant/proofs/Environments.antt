-- The registers at a place of a block hold what their terms are worth.
use Rattle.std.proofs.Common.{◌≡◌, inl, inr, ℕ, suc, ◌<◌, ◌==◌, if◌then◌else◌, Bool, true, false, List, [], ◌∷◌, length, Option, None, Some, refl, sym, ap, subst, ◌∙◌, arith}
use Rattle.std.proofs.lemmas.Bool.Decides.{nat_tests}
use Rattle.ckc_base.specs.declared.arithmetic.BinOp.{BinOp}
use Rattle.ckc_base.specs.declared.runtime_checks.Check.{Check as CheckKind}
use Rattle.ckc_base.specs.Words.{applied}
use Rattle.ckc_base.specs.Products.{high_product}
use Rattle.ckc_base.specs.Activations.{Values, with_written}
use Rattle.ckc_tac.specs.declared.code.Comparison.{Comparison}
use Rattle.ckc_tac.specs.declared.code.Operand.{Operand}
use Rattle.ckc_tac.specs.declared.code.Operand.TheVariants.{Register, Number}
use Rattle.ckc_tac.specs.declared.code.TacOp.{TacOp}
use Rattle.ckc_tac.specs.declared.code.TacOp.TheVariants.{Const, Copy, Bin, High, Load, Store, Check, Call, Get, Put, Alloc}
use Rattle.ckc_tac.specs.Operations.{value_in, operation_of, compared}
use Rattle.ckc_flow.specs.Live.{target_of}
use Rattle.ckc_passes.specs.Values.{Term, Entry, Known, Combined, Upper, New, number_in, computed, known_or, term_of, combined, upper, given, is_target, value_after, operand_after}
use Rattle.ckc_passes_redundant.specs.Redundant.{Looks, HasLooked, compared_after}

-- the values of registers at the beginning of a block, and what its operations have given, by their places
pub record Environment : Type 0 where
  pub first : Values
  pub gave : Values

-- what a term is worth
abbrev pub worth : Environment → Term → Option ℕ
worth e (Entry r) = e.first r
worth e (Known n) = Some n
worth e (Combined op a b) = computed (applied op) (worth e a) (worth e b)
worth e (Upper is_signed a b) = computed (high_product is_signed) (worth e a) (worth e b)
worth e (New place) = e.gave place

-- ---- what is computed of numbers

number_worth : (e : Environment) (t : Term) (n : ℕ) → number_in t ≡ Some n → worth e t ≡ Some n
number_worth e (Known m) n h = h
number_worth e (Entry r) n h = absurd cc
number_worth e (Combined op a b) n h = absurd cc
number_worth e (Upper is_signed a b) n h = absurd cc
number_worth e (New place) n h = absurd cc

known_worth : (e : Environment) (f : ℕ → ℕ → ℕ) (a b node : Term) (o p : Option ℕ) → number_in a ≡ o → number_in b ≡ p
    → worth e node ≡ computed f (worth e a) (worth e b) → worth e (known_or (computed f o p) node) ≡ computed f (worth e a) (worth e b)
known_worth e f a b node (Some n) (Some m) h k is = sym (ap (λ o. computed f o (worth e b)) (number_worth e a n h) ∙ ap (λ o. computed f (Some n) o) (number_worth e b m k))
known_worth e f a b node (Some n) None h k is = is
known_worth e f a b node None p h k is = is

pub combined_worth : (e : Environment) (op : BinOp) (a b : Term) → worth e (combined op a b) ≡ computed (applied op) (worth e a) (worth e b)
combined_worth e op a b = known_worth e (applied op) a b (Combined op a b) (number_in a) (number_in b) refl refl refl

pub upper_worth : (e : Environment) (is_signed : Bool) (a b : Term) → worth e (upper is_signed a b) ≡ computed (high_product is_signed) (worth e a) (worth e b)
upper_worth e is_signed a b = known_worth e (high_product is_signed) a b (Upper is_signed a b) (number_in a) (number_in b) refl refl refl

-- ---- terms that name earlier places alone

abbrev IsOld : ℕ → Term → Type 0
IsOld n (Entry r) = Unit {0}
IsOld n (Known k) = Unit {0}
IsOld n (Combined op a b) = IsOld n a × IsOld n b
IsOld n (Upper is_signed a b) = IsOld n a × IsOld n b
IsOld n (New place) = place < n

older : (n : ℕ) (t : Term) → IsOld n t → IsOld (suc n) t
older n (Entry r) h = tt
older n (Known k) h = tt
older n (Combined op a b) h = (older n a h.0, older n b h.1)
older n (Upper is_signed a b) h = (older n a h.0, older n b h.1)
older n (New place) h = omega (arith, h)

old_known : (n : ℕ) (o : Option ℕ) (t : Term) → IsOld n t → IsOld n (known_or o t)
old_known n (Some k) t h = tt
old_known n None t h = h

old_operand : (n : ℕ) (values : ℕ → Term) → ((r : ℕ) → IsOld n (values r)) → (a : Operand) → IsOld n (term_of values a)
old_operand n values h (Register r) = h r
old_operand n values h (Number k) = tt

old_if : (n : ℕ) (b : Bool) (s t : Term) → IsOld n s → IsOld n t → IsOld n (if b then s else t)
old_if n true s t h k = h
old_if n false s t h k = k

old_given : (n : ℕ) (values : ℕ → Term) → ((r : ℕ) → IsOld n (values r)) → (op : TacOp) → IsOld (suc n) (given values n op)
old_given n values h (Const t k) = tt
old_given n values h (Copy t a) = older n (values a) (h a)
old_given n values h (Bin op t a b) =
    let s : IsOld n (combined op (term_of values a) (term_of values b)) =
    old_known n (computed (applied op) (number_in (term_of values a)) (number_in (term_of values b))) (Combined op (term_of values a) (term_of values b))
    (old_operand n values h a, old_operand n values h b) in
    older n (combined op (term_of values a) (term_of values b)) s
old_given n values h (High is_signed t a b) =
    let s : IsOld n (upper is_signed (term_of values a) (term_of values b)) =
    old_known n (computed (high_product is_signed) (number_in (term_of values a)) (number_in (term_of values b))) (Upper is_signed (term_of values a) (term_of values b))
    (old_operand n values h a, old_operand n values h b) in
    older n (upper is_signed (term_of values a) (term_of values b)) s
old_given n values h (Load width t a k) = omega arith
old_given n values h (Store width a k b) = omega arith
old_given n values h (Check check at comparison a b) = omega arith
old_given n values h (Call target callee arguments at) = omega arith
old_given n values h (Get t) = omega arith
old_given n values h (Put a) = omega arith
old_given n values h (Alloc t a size) = omega arith

pub old_after : (done : List TacOp) (r : ℕ) → IsOld (length done) (value_after done r)
old_after [] r = tt
old_after (op ∷ done) r =
    old_if (suc (length done)) (is_target (target_of op) r) (given (value_after done) (length done) op) (value_after done r)
    (old_given (length done) (value_after done) (old_after done) op) (older (length done) (value_after done r) (old_after done r))

old_looks : (done : List TacOp) (op : TacOp) (kind : CheckKind) (value : Term) → Looks done op kind value → IsOld (length done) value
old_looks done (Check check at comparison a b) kind value h =
    let s : IsOld (length done) (compared_after done comparison a b) =
    old_known (length done) (computed (applied (operation_of comparison)) (number_in (operand_after done a)) (number_in (operand_after done b)))
    (Combined (operation_of comparison) (operand_after done a) (operand_after done b))
    (old_operand (length done) (value_after done) (old_after done) a, old_operand (length done) (value_after done) (old_after done) b) in
    subst (IsOld (length done)) h.1 s
old_looks done (Const t n) kind value h = absurd h
old_looks done (Copy t a) kind value h = absurd h
old_looks done (Bin op t a b) kind value h = absurd h
old_looks done (High is_signed t a b) kind value h = absurd h
old_looks done (Load width t a n) kind value h = absurd h
old_looks done (Store width a n b) kind value h = absurd h
old_looks done (Call target callee arguments at) kind value h = absurd h
old_looks done (Get t) kind value h = absurd h
old_looks done (Put a) kind value h = absurd h
old_looks done (Alloc t a size) kind value h = absurd h

pub old_looked : (done : List TacOp) (kind : CheckKind) (value : Term) → HasLooked done kind value → IsOld (length done) value
old_looked [] kind value h = absurd h
old_looked (op ∷ done) kind value (inl h) = older (length done) value (old_looks done op kind value h)
old_looked (op ∷ done) kind value (inr h) = older (length done) value (old_looked done kind value h)

-- the environment with what one more place gave
abbrev pub with_given : Environment → ℕ → ℕ → Environment
with_given e place value = record e { gave = λ p. if p == place then Some value else e.gave p }

other_place : (place p value : ℕ) (o : Option ℕ) → p < place → (if p == place then Some value else o) ≡ o
other_place place p value o h = grind (arith, nat_tests)

this_place : (place value : ℕ) (o : Option ℕ) → (if place == place then Some value else o) ≡ Some value
this_place place value o = grind (arith, nat_tests)

-- what names earlier places is worth the same
pub same_worth : (e : Environment) (place value : ℕ) (t : Term) → IsOld place t → worth (with_given e place value) t ≡ worth e t
same_worth e place value (Entry r) h = refl
same_worth e place value (Known n) h = refl
same_worth e place value (Combined op a b) h = λ i. computed (applied op) (same_worth e place value a h.0 i) (same_worth e place value b h.1 i)
same_worth e place value (Upper is_signed a b) h = λ i. computed (high_product is_signed) (same_worth e place value a h.0 i) (same_worth e place value b h.1 i)
same_worth e place value (New p) h = other_place place p value (e.gave p) h

pub new_worth : (e : Environment) (place value : ℕ) → worth (with_given e place value) (New place) ≡ Some value
new_worth e place value = this_place place value (e.gave place)

-- ---- registers

-- a term is worth a number other than zero
abbrev pub IsSet : Environment → Term → Type 0
IsSet e t = (n : ℕ) × (worth e t ≡ Some n) × ((n == 0) ≡ false)

-- In some environment each register holds what its term is worth, and what a check has looked at is not zero.
pub record Holds (done : List TacOp) (x : Values) : Type 0 where
  pub environment : Environment
  pub registers : (r : ℕ) → x r ≡ worth environment (value_after done r)
  pub looked : (kind : CheckKind) (value : Term) → HasLooked done kind value → IsSet environment value

pub holds_at_first : (x : Values) → Holds [] x
holds_at_first x = record {
  environment = record { first = x; gave = λ p. None };
  registers = λ r. refl;
  looked = λ kind value h. absurd h;
}

flipped : (q r : ℕ) → (q == r) ≡ (r == q)
flipped q r = grind (arith, nat_tests)

written_at : (x : Values) (t value r : ℕ) → with_written x t value r ≡ (if t == r then Some value else x r)
unfolding with_written
written_at x t value r = ap (λ b. if b then Some value else x r) (flipped r t)

pick : (b : Bool) (v o : Option ℕ) (e : Environment) (s t : Term) → v ≡ worth e s → o ≡ worth e t → (if b then v else o) ≡ worth e (if b then s else t)
pick true v o e s t h k = h
pick false v o e s t h k = k

module _ (done : List TacOp) (op : TacOp) (x : Values) where
  abbrev made : Term
  made = given (value_after done) (length done) op

  registers_written : (e : Environment) (t value : ℕ) → target_of op ≡ Some t → worth e made ≡ Some value → ((r : ℕ) → x r ≡ worth e (value_after done r))
      → (r : ℕ) → with_written x t value r ≡ worth e (value_after (op ∷ done) r)
  registers_written e t value target is h r =
      subst (λ (o : Option ℕ). with_written x t value r ≡ worth e (if is_target o r then made else value_after done r)) (sym target)
      (written_at x t value r ∙ pick (t == r) (Some value) (x r) e made (value_after done r) (sym is) (h r))

  module _ (quiet : (kind : CheckKind) (value : Term) → Looks done op kind value → ⊥) where
    still_set : (e : Environment) → ((kind : CheckKind) (value : Term) → HasLooked done kind value → IsSet e value)
        → (kind : CheckKind) (value : Term) → HasLooked (op ∷ done) kind value → IsSet e value
    still_set e h kind value (inl l) = absurd (quiet kind value l)
    still_set e h kind value (inr l) = h kind value l

    -- the target holds what its term is worth
    pub holds_written : (h : Holds done x) (t value : ℕ) → target_of op ≡ Some t → worth h.environment made ≡ Some value → Holds (op ∷ done) (with_written x t value)
    holds_written h t value target is = record {
      environment = h.environment;
      registers = registers_written h.environment t value target is h.registers;
      looked = still_set h.environment h.looked;
    }

    -- the target holds something new
    pub holds_new : Holds done x → (t value : ℕ) → target_of op ≡ Some t → made ≡ New (length done) → Holds (op ∷ done) (with_written x t value)
    holds_new h t value target new =
        let e = with_given h.environment (length done) value in
        record {
          environment = e;
          registers = registers_written e t value target (ap (worth e) new ∙ new_worth h.environment (length done) value)
              (λ r. h.registers r ∙ sym (same_worth h.environment (length done) value (value_after done r) (old_after done r)));
          looked = still_set e (λ kind v l. let s = h.looked kind v l in
              (s.0, same_worth h.environment (length done) value v (old_looked done kind v l) ∙ s.1, s.2));
        }

    -- nothing is written
    pub holds_idle : Holds done x → target_of op ≡ None → Holds (op ∷ done) x
    holds_idle h none = record {
      environment = h.environment;
      registers = λ r.
          subst (λ (o : Option ℕ). x r ≡ worth h.environment (if is_target o r then made else value_after done r)) (sym none) (h.registers r);
      looked = still_set h.environment h.looked;
    }

-- the value of an operand is what its term is worth
pub operand_worth : (done : List TacOp) (x : Values) (h : Holds done x) (a : Operand) → value_in x a ≡ worth h.environment (operand_after done a)
operand_worth done x h (Register r) = h.registers r
operand_worth done x h (Number n) = refl

compared_is : (comparison : Comparison) (o p : Option ℕ) → compared comparison o p ≡ computed (applied (operation_of comparison)) o p
compared_is comparison (Some v) (Some w) = refl
compared_is comparison (Some v) None = refl
compared_is comparison None p = refl

-- what a comparison of operands comes to is what its term is worth
pub compared_worth : (done : List TacOp) (x : Values) (h : Holds done x) (comparison : Comparison) (a b : Operand)
    → compared comparison (value_in x a) (value_in x b) ≡ worth h.environment (compared_after done comparison a b)
compared_worth done x h comparison a b =
    compared_is comparison (value_in x a) (value_in x b)
    ∙ (λ i. computed (applied (operation_of comparison)) (operand_worth done x h a i) (operand_worth done x h b i))
    ∙ sym (combined_worth h.environment (operation_of comparison) (operand_after done a) (operand_after done b))
