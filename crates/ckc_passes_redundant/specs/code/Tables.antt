-- What a table of the code knows of a block. Operations that are done are given last first.
use Rattle.std.specs.Prelude.{◌≡◌, ◌⊎◌, ℕ, ◌==◌, nat_eq, Bool, if◌then◌else◌, List, ◌∷◌, length, slice_get, Contains, Option, Some, None, unwrap_or}
use Rattle.std.specs.Bool.{MatchBool}
use Rattle.indexmap.specs.IndexMap.{get}
use Rattle.ckc_base.specs.declared.runtime_checks.Check.{Check as CheckKind}
use Rattle.ckc_base.specs.Checks.{number_of}
use Rattle.ckc_tac.specs.declared.code.Operand.{Operand}
use Rattle.ckc_tac.specs.declared.code.Operand.TheVariants.{Register, Number}
use Rattle.ckc_tac.specs.declared.code.TacOp.{TacOp}
use Rattle.ckc_passes.specs.Values.{Term, Entry, Known, New, value_after}
use Rattle.ckc_passes_redundant.specs.declared.operations.Operation.{Operation}
use Rattle.ckc_passes_redundant.specs.declared.table.Value.{Value}
use Rattle.ckc_passes_redundant.specs.declared.table.Value.TheVariants.{AtEntry, Word, GivenAt, Computed}
use Rattle.ckc_passes_redundant.specs.declared.table.Work.{Work}
use Rattle.ckc_passes_redundant.specs.declared.table.Look.{Look}
use Rattle.ckc_passes_redundant.specs.declared.table.Table.{Table}
use Rattle.ckc_passes_redundant.specs.Redundant.{HasLooked, Repeats}
use Rattle.ckc_passes_redundant.specs.code.Operations.{operation_number, node_by, value_by}

-- a value of the code stands for a term, if these are the ways in which values are computed, by number
pub data Means (works : List Work) : Value → Term → Type 0 where
  at_entry : {r : ℕ} → Means works (AtEntry r) (Entry r)
  word : {n : ℕ} → Means works (Word n) (Known n)
  given_at : {place : ℕ} → Means works (GivenAt place) (New place)
  computed : {i : ℕ} {left right : Value} {a b value : Term} (operation : Operation)
      → slice_get works i ≡ Some (record { operation = operation_number operation; left = left; right = right })
      → Means works left a → Means works right b → value ≡ node_by operation a b → Means works (Computed i) value

-- no way to compute a value stands twice
abbrev pub AreDistinct : List Work → Type 0
AreDistinct works = (i j : ℕ) (work : Work) → slice_get works i ≡ Some work → slice_get works j ≡ Some work → i ≡ j

-- the look of a check of this kind at a value
abbrev pub look_of : CheckKind → Value → Look
look_of kind value = record { check = number_of kind; value = value }

-- a check has looked so
abbrev pub HasBeen : List TacOp → List Work → Look → Type 0
HasBeen done works look =
    (kind : CheckKind) × (value : Term) × (look.check ≡ number_of kind) × Means works look.value value × HasLooked done kind value

-- the look of a check at this value is noted
abbrev pub IsNoted : List Work → List Look → CheckKind → Term → Type 0
IsNoted works looks kind value = (v : Value) × Means works v value × Contains looks (look_of kind v)

-- What is known after operations: the values that registers hold stand for their terms, and exactly the looks of the
-- checks among these operations are noted.
pub record Knows (done : List TacOp) (held : ℕ → Value) (works : List Work) (looks : List Look) : Type 0 where
  pub means : (r : ℕ) → Means works (held r) (value_after done r)
  pub distinct : AreDistinct works
  pub looked : (look : Look) → Contains looks look → HasBeen done works look
  pub noted : (kind : CheckKind) (value : Term) → HasLooked done kind value → IsNoted works looks kind value

-- ---- of the table

-- the value that a register holds
abbrev pub held_in : Table → ℕ → Value
held_in t r = unwrap_or (get nat_eq t.held r) (AtEntry r)

abbrev pub operand_in : Table → Operand → Value
operand_in t (Register r) = held_in t r
operand_in t (Number n) = Word n

abbrev pub KnowsAfter : List TacOp → Table → Type 0
KnowsAfter done t = Knows done (held_in t) t.works.keys t.looks.keys

-- the number that a value is
abbrev pub word_in : Value → Option ℕ
word_in (Word n) = Some n
word_in (AtEntry r) = None
word_in (GivenAt place) = None
word_in (Computed i) = None

-- a register holds a value, and all else is as it was
pub record Writes (t : ℕ) (value : Value) (old new : Table) : Type 0 where
  pub held : (q : ℕ) → held_in new q ≡ (if t == q then value else held_in old q)
  pub works : new.works.keys ≡ old.works.keys
  pub looks : new.looks.keys ≡ old.looks.keys

-- the same of a register that may be left out
abbrev pub WritesIf : Option ℕ → Value → (old new : Table) → Type 0
WritesIf (Some t) value old new = Writes t value old new
WritesIf None value old new = new ≡ old

-- a way to compute a value has a number, and all else is as it was
pub record Numbers (work : Work) (old new : Table) (value : Value) : Type 0 where
  pub at : (i : ℕ) × (value ≡ Computed i) × (slice_get new.works.keys i ≡ Some work)
  pub kept : (i : ℕ) (other : Work) → slice_get old.works.keys i ≡ Some other → slice_get new.works.keys i ≡ Some other
  pub distinct : AreDistinct new.works.keys
  pub held : (r : ℕ) → held_in new r ≡ held_in old r
  pub looks : new.looks.keys ≡ old.looks.keys

-- a value stands for what an operation makes of two operands, and all that was known is known
pub record Computes (operation : Operation) (a b : Operand) (old new : Table) (value : Value) : Type 0 where
  pub means : (x y : Term) → Means old.works.keys (operand_in old a) x → Means old.works.keys (operand_in old b) y
      → Means new.works.keys value (value_by operation x y)
  pub kept : (v : Value) (x : Term) → Means old.works.keys v x → Means new.works.keys v x
  pub distinct : AreDistinct old.works.keys → AreDistinct new.works.keys
  pub held : (r : ℕ) → held_in new r ≡ held_in old r
  pub looks : new.looks.keys ≡ old.looks.keys

-- a register holds what an operation makes of two operands, and all that was known is known
pub record Combines (operation : Operation) (t : ℕ) (a b : Operand) (old new : Table) : Type 0 where
  pub value : Value
  pub means : (x y : Term) → Means old.works.keys (operand_in old a) x → Means old.works.keys (operand_in old b) y
      → Means new.works.keys value (value_by operation x y)
  pub kept : (v : Value) (x : Term) → Means old.works.keys v x → Means new.works.keys v x
  pub distinct : AreDistinct old.works.keys → AreDistinct new.works.keys
  pub held : (q : ℕ) → held_in new q ≡ (if t == q then value else held_in old q)
  pub looks : new.looks.keys ≡ old.looks.keys

-- a look is noted, and all else is as it was; whether it had been noted
pub record Notes (look : Look) (old new : Table) (was_noted : Bool) : Type 0 where
  pub found : MatchBool was_noted (Contains old.looks.keys look) (Contains old.looks.keys look → ⊥)
  pub kept : (other : Look) → Contains old.looks.keys other → Contains new.looks.keys other
  pub noted : Contains new.looks.keys look
  pub only : (other : Look) → Contains new.looks.keys other → Contains old.looks.keys other ⊎ (other ≡ look)
  pub held : (r : ℕ) → held_in new r ≡ held_in old r
  pub works : new.works.keys ≡ old.works.keys

-- what is made of two operands is found, and the look of a check at it is noted; whether it had been noted
pub record Asks (check : CheckKind) (operation : Operation) (a b : Operand) (old new : Table) (was_noted : Bool) : Type 0 where
  pub between : Table
  pub value : Value
  pub computes : Computes operation a b old between value
  pub notes : Notes (look_of check value) between new was_noted

-- one more operation is known of, and whether it repeats an earlier one
abbrev pub Takes : List TacOp → TacOp → Table → Bool → Type 0
Takes done op new repeats = KnowsAfter (op ∷ done) new × MatchBool repeats (Repeats done op) (Repeats done op → ⊥)

-- the same of an operation which so many others come before, whatever they are
abbrev pub IsTaken : TacOp → ℕ → (old new : Table) → Bool → Type 0
IsTaken op place old new repeats = (done : List TacOp) → length done ≡ place → KnowsAfter done old → Takes done op new repeats
