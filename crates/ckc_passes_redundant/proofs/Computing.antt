-- What an operation makes of two values, and what is written to a register.
use Rattle.std.proofs.Common.{◌≡◌, ℕ, ◌==◌, if◌then◌else◌, Bool, true, false, List, ◌∷◌, Option, Some, None, refl, sym, ap, subst, ◌∙◌}
use Rattle.std.specs.Option.{unwrap_or}
use Rattle.std.specs.Prelude.{Result, Ok, Err, IfOk, OnOk}
use Rattle.std.specs.Bool.{MatchBool}
use Rattle.ckc_tac.specs.declared.code.Operand.{Operand}
use Rattle.ckc_tac.specs.declared.code.TacOp.{TacOp}
use Rattle.ckc_passes.specs.Values.{Term, number_in, computed, known_or}
use Rattle.ckc_passes_redundant.specs.declared.operations.Operation.{Operation}
use Rattle.ckc_passes_redundant.specs.declared.operations.Operation.TheVariants.{Whole, Half}
use Rattle.ckc_passes_redundant.specs.declared.table.Value.{Value}
use Rattle.ckc_passes_redundant.specs.declared.table.Value.TheVariants.{AtEntry, Word}
use Rattle.ckc_passes_redundant.specs.declared.table.Work.{Work}
use Rattle.ckc_passes_redundant.specs.declared.table.Table.{Table}
use Rattle.ckc_passes_redundant.specs.Redundant.{Repeats}
use Rattle.ckc_passes_redundant.specs.code.Operations.{operation_number, result_by, node_by, value_by}
use Rattle.ckc_passes_redundant.specs.code.Tables.{Means, word, computed as by_works, AreDistinct, operand_in, word_in, KnowsAfter, Writes, Numbers, Computes, Combines, Takes}
use Rattle.ckc_passes_redundant.proofs.Meanings.{still_means, same_number}

value_is : (operation : Operation) (a b : Term) → value_by operation a b ≡ known_or (computed (result_by operation) (number_in a) (number_in b)) (node_by operation a b)
value_is (Whole op) a b = refl
value_is (Half is_signed) a b = refl

module _ (operation : Operation) (a b : Operand) (old new : Table) where
  abbrev left : Value
  left = operand_in old a

  abbrev right : Value
  right = operand_in old b

  same_numbers : (x y : Term) → Means old.works.keys left x → Means old.works.keys right y
      → value_by operation x y ≡ known_or (computed (result_by operation) (word_in left) (word_in right)) (node_by operation x y)
  same_numbers x y h k =
      value_is operation x y
      ∙ (λ i. known_or (computed (result_by operation) (same_number h i) (same_number k i)) (node_by operation x y))

  -- of two numbers
  pub computes_known : (n : ℕ) → computed (result_by operation) (word_in left) (word_in right) ≡ Some n → Computes operation a b old old (Word n)
  computes_known n is = record {
    means = λ x y h k. subst (λ v. Means old.works.keys (Word n) v) (sym (same_numbers x y h k ∙ ap (λ o. known_or o (node_by operation x y)) is)) word;
    kept = λ v x m. m;
    distinct = λ d. d;
    held = λ r. refl;
    looks = refl;
  }

  -- of other values
  pub computes_numbered : (value : Value) → computed (result_by operation) (word_in left) (word_in right) ≡ None
      → Numbers (record { operation = operation_number operation; left = left; right = right }) old new value → Computes operation a b old new value
  computes_numbered value is n = record {
    means = λ x y h k.
        subst (λ v. Means new.works.keys v (value_by operation x y)) (sym n.at.1)
        (by_works operation n.at.2 (still_means old.works.keys new.works.keys n.kept h) (still_means old.works.keys new.works.keys n.kept k)
        (same_numbers x y h k ∙ ap (λ o. known_or o (node_by operation x y)) is));
    kept = λ v x m. still_means old.works.keys new.works.keys n.kept m;
    distinct = λ d. n.distinct;
    held = n.held;
    looks = n.looks;
  }

-- the same of the values that the code finds
pub known_found : (operation : Operation) (a b : Operand) (old : Table) (n : ℕ) (l r : Value) → l ≡ operand_in old a → r ≡ operand_in old b
    → Some n ≡ computed (result_by operation) (word_in l) (word_in r) → Computes operation a b old old (Word n)
known_found operation a b old n l r p q is =
    computes_known operation a b old old n ((λ i. computed (result_by operation) (word_in (sym p i)) (word_in (sym q i))) ∙ sym is)

pub numbered_found : (operation : Operation) (a b : Operand) (old new : Table) (k : ℕ) (l r : Value) → k ≡ operation_number operation
    → l ≡ operand_in old a → r ≡ operand_in old b → None ≡ computed (result_by operation) (word_in l) (word_in r)
    → (value : Value) → Numbers (record { operation = k; left = l; right = r }) old new value → Computes operation a b old new value
numbered_found operation a b old new k l r e p q is value n =
    computes_numbered operation a b old new value ((λ i. computed (result_by operation) (word_in (sym p i)) (word_in (sym q i))) ∙ sym is)
    (subst (λ (w : Work). Numbers w old new value) (λ i. let w : Work = record { operation = e i; left = p i; right = q i } in w) n)

-- what is computed is written
pub combines : (operation : Operation) (t : ℕ) (a b : Operand) (old between new : Table) (value : Value)
    → Computes operation a b old between value → Writes t value between new → Combines operation t a b old new
combines operation t a b old between new value c w = record {
  value = value;
  means = λ x y h k. subst (λ works. Means works value (value_by operation x y)) (sym w.works) (c.means x y h k);
  kept = λ v x m. subst (λ works. Means works v x) (sym w.works) (c.kept v x m);
  distinct = λ d. subst AreDistinct (sym w.works) (c.distinct d);
  held = λ q. w.held q ∙ ap (λ v. if t == q then value else v) (c.held q);
  looks = w.looks ∙ c.looks;
}

cases_held : (b : Bool) (v other : Value) (o : Option Value) → unwrap_or (if b then Some v else o) other ≡ (if b then v else unwrap_or o other)
cases_held true v other o = refl
cases_held false v other o = refl

-- a register holds what the map was given for it
pub held_written : (t q : ℕ) (v : Value) (o p : Option Value) → p ≡ (if t == q then Some v else o) → unwrap_or p (AtEntry q) ≡ (if t == q then v else unwrap_or o (AtEntry q))
held_written t q v o p e = ap (λ r. unwrap_or r (AtEntry q)) e ∙ cases_held (t == q) v (AtEntry q) o

-- ---- answers of calls

pub on_more : {X E : Type 0} (r : Result X E) (P Q : Type 0) → OnOk r P → (P → Q) → OnOk r Q
on_more (Ok x) P Q p f = f p
on_more (Err e) P Q p f = tt

pub if_more : {X E : Type 0} (r : Result X E) (P R : X → Type 0) → IfOk r P → ((x : X) → P x → R x) → IfOk r R
if_more (Ok x) P R p f = f x p
if_more (Err e) P R p f = tt

pub if_both : {X E : Type 0} (r : Result X E) (P R : X → Type 0) (Q : Type 0) → IfOk r P → OnOk r Q → ((x : X) → P x → Q → R x) → IfOk r R
if_both (Ok x) P R Q p q f = f x p q
if_both (Err e) P R Q p q f = tt

-- an operation that is no check repeats none
pub quietly : (done : List TacOp) (op : TacOp) (new : Table) (b : Bool) → b ≡ false → (Repeats done op → ⊥) → KnowsAfter (op ∷ done) new → Takes done op new b
quietly done op new b is none k = (k, subst (λ c. MatchBool c (Repeats done op) (Repeats done op → ⊥)) (sym is) none)
