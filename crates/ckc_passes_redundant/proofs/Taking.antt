-- An operation is taken: what the table knows of it, by what the code did.
use Rattle.std.proofs.Common.{◌≡◌, ℕ, Bool, false, List, length, Option, Some, None, refl, sym, subst}
use Rattle.std.specs.Prelude.{Result, IfOk, OnOk}
use Rattle.ckc_base.specs.declared.places.Pos.{Pos}
use Rattle.ckc_base.specs.declared.runtime_checks.Check.{Check as CheckKind}
use Rattle.ckc_tac.specs.declared.code.Comparison.{Comparison}
use Rattle.ckc_tac.specs.declared.code.Operand.{Operand}
use Rattle.ckc_tac.specs.declared.code.TacOp.{TacOp}
use Rattle.ckc_tac.specs.declared.code.TacOp.TheVariants.{Check, Call}
use Rattle.ckc_tac.specs.Operations.{operation_of}
use Rattle.ckc_flow.specs.Live.{target_of}
use Rattle.ckc_passes.specs.Values.{Term, New, given, value_after, operand_after}
use Rattle.ckc_passes_redundant.specs.declared.operations.Operation.{Operation}
use Rattle.ckc_passes_redundant.specs.declared.operations.Operation.TheVariants.{Whole}
use Rattle.ckc_passes_redundant.specs.declared.table.Value.{Value}
use Rattle.ckc_passes_redundant.specs.declared.table.Value.TheVariants.{GivenAt}
use Rattle.ckc_passes_redundant.specs.declared.table.Work.{Work}
use Rattle.ckc_passes_redundant.specs.declared.table.Table.{Table}
use Rattle.ckc_passes_redundant.specs.Redundant.{Looks, Repeats}
use Rattle.ckc_passes_redundant.specs.code.Operations.{value_by}
use Rattle.ckc_passes_redundant.specs.code.Tables.{Means, held_in, KnowsAfter, Writes, Combines, Asks, IsTaken, WritesIf, given_at}
use Rattle.ckc_passes_redundant.proofs.Knowing.{written, combined_written, known_idle, check_asked}
use Rattle.ckc_passes_redundant.proofs.Computing.{if_both, if_more, quietly}

-- an operation that is no check
pub record IsQuiet (op : TacOp) : Type 0 where
  pub looks : (done : List TacOp) (kind : CheckKind) (value : Term) → Looks done op kind value → ⊥
  pub repeats : (done : List TacOp) → Repeats done op → ⊥

module _ (op : TacOp) (quiet : IsQuiet op) (place : ℕ) (old new : Table) where
  pub taken_written : {E : Type 0} (t : ℕ) (value : Value) (r : Result Bool E) → target_of op ≡ Some t
      → ((done : List TacOp) → length done ≡ place → KnowsAfter done old → Means old.works.keys value (given (value_after done) (length done) op))
      → IfOk r (λ b. b ≡ false) → OnOk r (Writes t value old new) → IfOk r (IsTaken op place old new)
  taken_written t value r target means never writes = if_both r (λ b. b ≡ false) (IsTaken op place old new) (Writes t value old new) never writes (λ b is w done long k.
      quietly done op new b is (quiet.repeats done) (written done old new k op t value (quiet.looks done) target (means done long k) w))

  pub taken_combined : {E : Type 0} (operation : Operation) (t : ℕ) (a b : Operand) (r : Result Bool E) → target_of op ≡ Some t
      → ((done : List TacOp) → given (value_after done) (length done) op ≡ value_by operation (operand_after done a) (operand_after done b))
      → IfOk r (λ b. b ≡ false) → OnOk r (Combines operation t a b old new) → IfOk r (IsTaken op place old new)
  taken_combined operation t a b r target gives never combines =
      if_both r (λ b. b ≡ false) (IsTaken op place old new) (Combines operation t a b old new) never combines (λ answer is w done long k.
      quietly done op new answer is (quiet.repeats done) (combined_written done old new k op operation t a b (quiet.looks done) target (gives done) w))

-- nothing is done
pub taken_idle : (op : TacOp) → IsQuiet op → target_of op ≡ None → (place : ℕ) (old : Table) → IsTaken op place old old false
taken_idle op quiet target place old done long k =
    quietly done op old false refl (quiet.repeats done) (known_idle done op (quiet.looks done) target (held_in old) old.works.keys old.looks.keys k)

pub taken_check : {E : Type 0} (check : CheckKind) (at : Pos) (comparison : Comparison) (a b : Operand) (place : ℕ) (old new : Table) (r : Result Bool E)
    → (operation : Operation) → operation ≡ Whole (operation_of comparison)
    → IfOk r (Asks check operation a b old new) → IfOk r (IsTaken (Check check at comparison a b) place old new)
taken_check check at comparison a b place old new r operation is asks =
    if_more r (Asks check operation a b old new) (IsTaken (Check check at comparison a b) place old new) asks (λ answer q done long k.
    check_asked done old new k check at comparison a b answer (subst (λ (o : Operation). Asks check o a b old new answer) is q))

-- what the operation here gives is new
pub given_here : (works : List Work) (n place : ℕ) → n ≡ place → Means works (GivenAt place) (New n)
given_here works n place e = subst (λ p. Means works (GivenAt p) (New n)) e given_at

pub taken_call : {E : Type 0} (target : Option ℕ) (callee : ℕ) (arguments : List ℕ) (at : Pos) (place : ℕ) (old new : Table) (r : Result Bool E)
    → IfOk r (λ b. b ≡ false) → OnOk r (WritesIf target (GivenAt place) old new) → IfOk r (IsTaken (Call target callee arguments at) place old new)
taken_call (Some t) callee arguments at place old new r never writes =
    taken_written (Call (Some t) callee arguments at) (record { looks = λ done kind v l. l; repeats = λ done l. l }) place old new t (GivenAt place) r refl
    (λ done long k. given_here old.works.keys (length done) place long) never writes
taken_call None callee arguments at place old new r never same =
    if_both r (λ b. b ≡ false) (IsTaken (Call None callee arguments at) place old new) (new ≡ old) never same (λ b is e.
    subst (λ (n : Table). IsTaken (Call None callee arguments at) place old n b) (sym e)
    (subst (λ (answer : Bool). IsTaken (Call None callee arguments at) place old old answer) (sym is)
    (taken_idle (Call None callee arguments at) (record { looks = λ done kind v l. l; repeats = λ done l. l }) refl place old)))
