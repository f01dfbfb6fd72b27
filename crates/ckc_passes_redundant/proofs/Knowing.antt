-- What a table knows of a block, one operation on.
use Rattle.std.proofs.Common.{◌≡◌, inl, inr, ℕ, ◌<◌, ◌==◌, if◌then◌else◌, Bool, true, false, List, [], ◌∷◌, length, Option, Some, None, refl, sym, ap, subst, arith}
use Rattle.std.specs.Prelude.{Contains}
use Rattle.std.specs.List.{slice_get}
use Rattle.std.specs.Bool.{MatchBool}
use Rattle.ckc_base.specs.declared.places.Pos.{Pos}
use Rattle.ckc_base.specs.declared.runtime_checks.Check.{Check as CheckKind}
use Rattle.ckc_tac.specs.declared.code.Comparison.{Comparison}
use Rattle.ckc_tac.specs.declared.code.Operand.{Operand}
use Rattle.ckc_tac.specs.declared.code.Operand.TheVariants.{Register, Number}
use Rattle.ckc_tac.specs.declared.code.TacOp.{TacOp}
use Rattle.ckc_tac.specs.declared.code.TacOp.TheVariants.{Check}
use Rattle.ckc_tac.specs.Operations.{operation_of}
use Rattle.ckc_flow.specs.Live.{target_of}
use Rattle.ckc_passes.specs.Values.{Term, Entry, given, is_target, value_after, operand_after}
use Rattle.ckc_passes_redundant.specs.declared.operations.Operation.{Operation}
use Rattle.ckc_passes_redundant.specs.declared.operations.Operation.TheVariants.{Whole}
use Rattle.ckc_passes_redundant.specs.declared.table.Value.{Value}
use Rattle.ckc_passes_redundant.specs.declared.table.Value.TheVariants.{AtEntry}
use Rattle.ckc_passes_redundant.specs.declared.table.Work.{Work}
use Rattle.ckc_passes_redundant.specs.declared.table.Look.{Look}
use Rattle.ckc_passes_redundant.specs.declared.table.Table.{Table}
use Rattle.ckc_passes_redundant.specs.Redundant.{Looks, HasLooked, compared_after}
use Rattle.ckc_passes_redundant.specs.code.Operations.{value_by}
use Rattle.ckc_passes_redundant.specs.code.Tables.{Means, at_entry, word, AreDistinct, look_of, HasBeen, IsNoted, Knows, held_in, operand_in, KnowsAfter, Writes, Combines, Notes, Asks, Takes}
use Rattle.ckc_passes_redundant.proofs.Numbering.{same_check}
use Rattle.ckc_passes_redundant.proofs.Meanings.{same_term, same_value}

-- at the beginning nothing is known
pub knows_nothing : (held : ℕ → Value) (works : List Work) (looks : List Look) → ((r : ℕ) → held r ≡ AtEntry r) → works ≡ [] → looks ≡ [] → Knows [] held works looks
knows_nothing held works looks first no_works no_looks = record {
  means = λ r. subst (λ v. Means works v (Entry r)) (sym (first r)) at_entry;
  distinct = λ i j w at too. absurd (no_element i w (subst (λ (l : List Work). slice_get l i ≡ Some w) no_works at));
  looked = λ look c. absurd (none_below c.0 (subst (λ (l : List Look). c.0 < length l) no_looks c.1));
  noted = λ kind value h. absurd h;
}
  where
    none_below : (k : ℕ) → k < 0 → ⊥
    none_below k h = omega arith

    no_element : (i : ℕ) (w : Work) → slice_get [] i ≡ Some w → ⊥
    no_element i w e = cc

-- ---- an operation that is no check

one_of : (works : List Work) (b : Bool) (v w : Value) (x y : Term) → Means works v x → Means works w y → Means works (if b then v else w) (if b then x else y)
one_of works true v w x y h k = h
one_of works false v w x y h k = k

module _ (done : List TacOp) (op : TacOp) (quiet : (kind : CheckKind) (value : Term) → Looks done op kind value → ⊥)
    (works more : List Work) (looks looks' : List Look) (kept : (v : Value) (x : Term) → Means works v x → Means more v x) (same : looks' ≡ looks) where
  still_looked : (held : ℕ → Value) → Knows done held works looks → (look : Look) → Contains looks' look → HasBeen (op ∷ done) more look
  still_looked held k look c =
      let (kind, value, is, means, has) = k.looked look (subst (λ (l : List Look). Contains l look) same c) in
      (kind, value, is, kept look.value value means, inr has)

  still_noted : (held : ℕ → Value) → Knows done held works looks → (kind : CheckKind) (value : Term) → HasLooked (op ∷ done) kind value → IsNoted more looks' kind value
  still_noted held k kind value (inl l) = absurd (quiet kind value l)
  still_noted held k kind value (inr h) =
      let (v, means, c) = k.noted kind value h in
      (v, kept v value means, subst (λ (l : List Look). Contains l (look_of kind v)) (sym same) c)

  -- the target holds what the operation gives
  pub known_written : (held held' : ℕ → Value) (t : ℕ) (value : Value) → AreDistinct more → target_of op ≡ Some t
      → Means more value (given (value_after done) (length done) op) → ((q : ℕ) → held' q ≡ (if t == q then value else held q))
      → Knows done held works looks → Knows (op ∷ done) held' more looks'
  known_written held held' t value distinct target means is k = record {
    means = λ r.
        subst (λ (o : Option ℕ). Means more (held' r) (if is_target o r then given (value_after done) (length done) op else value_after done r)) (sym target)
        (subst (λ v. Means more v (if t == r then given (value_after done) (length done) op else value_after done r)) (sym (is r))
        (one_of more (t == r) value (held r) (given (value_after done) (length done) op) (value_after done r) means (kept (held r) (value_after done r) (k.means r))));
    distinct = distinct;
    looked = still_looked held k;
    noted = still_noted held k;
  }

-- an operation without a target that is no check changes nothing
pub known_idle : (done : List TacOp) (op : TacOp) (quiet : (kind : CheckKind) (value : Term) → Looks done op kind value → ⊥) → target_of op ≡ None
    → (held : ℕ → Value) (works : List Work) (looks : List Look) → Knows done held works looks → Knows (op ∷ done) held works looks
known_idle done op quiet target held works looks k = record {
  means = λ r.
      subst (λ (o : Option ℕ). Means works (held r) (if is_target o r then given (value_after done) (length done) op else value_after done r)) (sym target) (k.means r);
  distinct = k.distinct;
  looked = still_looked done op quiet works works looks looks (λ v x m. m) refl held k;
  noted = still_noted done op quiet works works looks looks (λ v x m. m) refl held k;
}

-- ---- of the table

-- what is known goes by what the table holds
pub known_as : (done : List TacOp) (held held' : ℕ → Value) (works works' : List Work) (looks : List Look) → ((r : ℕ) → held' r ≡ held r) → works' ≡ works
    → Knows done held works looks → Knows done held' works' looks
known_as done held held' works works' looks same e k = record {
  means = λ r. subst (λ (w : List Work). Means w (held' r) (value_after done r)) (sym e) (subst (λ v. Means works v (value_after done r)) (sym (same r)) (k.means r));
  distinct = subst AreDistinct (sym e) k.distinct;
  looked = λ look c. subst (λ (w : List Work). HasBeen done w look) (sym e) (k.looked look c);
  noted = λ kind value h. subst (λ (w : List Work). IsNoted w looks kind value) (sym e) (k.noted kind value h);
}

-- what is known stays so with more ways to compute values
pub known_more : (done : List TacOp) (held held' : ℕ → Value) (works more : List Work) (looks looks' : List Look) → ((r : ℕ) → held' r ≡ held r)
    → ((v : Value) (x : Term) → Means works v x → Means more v x) → AreDistinct more → looks' ≡ looks → Knows done held works looks → Knows done held' more looks'
known_more done held held' works more looks looks' same kept distinct e k = record {
  means = λ r. subst (λ v. Means more v (value_after done r)) (sym (same r)) (kept (held r) (value_after done r) (k.means r));
  distinct = distinct;
  looked = λ look c.
      let (kind, value, is, of, has) = k.looked look (subst (λ (l : List Look). Contains l look) e c) in
      (kind, value, is, kept look.value value of, has);
  noted = λ kind value h.
      let (v, of, c) = k.noted kind value h in
      (v, kept v value of, subst (λ (l : List Look). Contains l (look_of kind v)) (sym e) c);
}

module _ (done : List TacOp) (old new : Table) (k : KnowsAfter done old) where
  -- the value of an operand
  pub operand_means : (a : Operand) → Means old.works.keys (operand_in old a) (operand_after done a)
  operand_means (Register r) = k.means r
  operand_means (Number n) = word

  -- a value is written, and no check is repeated
  pub written : (op : TacOp) (t : ℕ) (value : Value) → ((kind : CheckKind) (v : Term) → Looks done op kind v → ⊥) → target_of op ≡ Some t
      → Means old.works.keys value (given (value_after done) (length done) op) → Writes t value old new → KnowsAfter (op ∷ done) new
  written op t value quiet target means w =
      known_as (op ∷ done) (held_in new) (held_in new) old.works.keys new.works.keys new.looks.keys (λ r. refl) w.works
      (known_written done op quiet old.works.keys old.works.keys old.looks.keys new.looks.keys (λ v x m. m) w.looks (held_in old) (held_in new) t value k.distinct target means w.held k)

  -- what is made of two operands is written
  pub combined_written : (op : TacOp) (operation : Operation) (t : ℕ) (a b : Operand) → ((kind : CheckKind) (v : Term) → Looks done op kind v → ⊥) → target_of op ≡ Some t
      → given (value_after done) (length done) op ≡ value_by operation (operand_after done a) (operand_after done b) → Combines operation t a b old new
      → KnowsAfter (op ∷ done) new
  combined_written op operation t a b quiet target gives c =
      known_written done op quiet old.works.keys new.works.keys old.looks.keys new.looks.keys c.kept c.looks (held_in old) (held_in new) t c.value
      (c.distinct k.distinct) target
      (subst (λ x. Means new.works.keys c.value x) (sym gives) (c.means (operand_after done a) (operand_after done b) (operand_means a) (operand_means b))) c.held k

  -- ---- a check

  module _ (check : CheckKind) (at : Pos) (comparison : Comparison) (a b : Operand) (v : Value) (means : Means old.works.keys v (compared_after done comparison a b))
      (was_noted : Bool) (n : Notes (look_of check v) old new was_noted) where
    abbrev value : Term
    value = compared_after done comparison a b

    looked_more : (look : Look) → Contains new.looks.keys look → HasBeen (Check check at comparison a b ∷ done) old.works.keys look
    looked_more look c = elim (n.only look c) [
      | inl before ↦ (let (kind, x, is, of, has) = k.looked look before in (kind, x, is, of, inr has))
      | inr same ↦ (
        check,
        value,
        ap (λ (l : Look). l.check) same,
        subst (λ u. Means old.works.keys u value) (sym (ap (λ (l : Look). l.value) same)) means,
        inl (refl, refl),
      )
    ]

    noted_more : (kind : CheckKind) (x : Term) → HasLooked (Check check at comparison a b ∷ done) kind x → IsNoted old.works.keys new.looks.keys kind x
    noted_more kind x (inl l) = (
      v,
      subst (λ y. Means old.works.keys v y) l.1 means,
      subst (λ c. Contains new.looks.keys (look_of c v)) l.0 n.noted,
    )
    noted_more kind x (inr h) = let (u, of, c) = k.noted kind x h in (u, of, n.kept (look_of kind u) c)

    known_looked : KnowsAfter (Check check at comparison a b ∷ done) new
    known_looked = known_as (Check check at comparison a b ∷ done) (held_in old) (held_in new) old.works.keys new.works.keys new.looks.keys n.held n.works
        (record { means = k.means; distinct = k.distinct; looked = looked_more; noted = noted_more })

    repeated : Contains old.looks.keys (look_of check v) → HasLooked done check value
    repeated c =
        let (kind, x, is, of, has) = k.looked (look_of check v) c in
        subst (λ (q : CheckKind). HasLooked done q value) (sym (same_check check kind is))
        (subst (λ y. HasLooked done kind y) (same_term of means) has)

    first : (Contains old.looks.keys (look_of check v) → ⊥) → HasLooked done check value → ⊥
    first none h =
        let (u, of, c) = k.noted check value h in
        none (subst (λ w. Contains old.looks.keys (look_of check w)) (same_value k.distinct of means) c)

    by_answer : (c : Bool) → MatchBool c (Contains old.looks.keys (look_of check v)) (Contains old.looks.keys (look_of check v) → ⊥)
        → MatchBool c (HasLooked done check value) (HasLooked done check value → ⊥)
    by_answer true c = repeated c
    by_answer false c = first c

    pub check_taken : Takes done (Check check at comparison a b) new was_noted
    check_taken = (known_looked, by_answer was_noted n.found)

-- a check, after its comparison is computed
pub check_asked : (done : List TacOp) (old new : Table) → KnowsAfter done old → (check : CheckKind) (at : Pos) (comparison : Comparison) (a b : Operand) (was_noted : Bool)
    → Asks check (Whole (operation_of comparison)) a b old new was_noted → Takes done (Check check at comparison a b) new was_noted
check_asked done old new k check at comparison a b was_noted q =
    let c = q.computes in
    check_taken done q.between new
    (known_more done (held_in old) (held_in q.between) old.works.keys q.between.works.keys old.looks.keys q.between.looks.keys c.held c.kept (c.distinct k.distinct) c.looks k)
    check at comparison a b q.value
    (c.means (operand_after done a) (operand_after done b) (operand_means done old old k a) (operand_means done old old k b)) was_noted q.notes
