-- What goes forward through a block: what operations make of what is known of the registers after those before them.
use Rattle.std.specs.Prelude.{◌≡◌, ◌⊎◌, ℕ, ◌+◌, List, [], ◌∷◌, length, set, Option, Some, None, IfSome}
use Rattle.ckc_base.specs.declared.places.Pos.{Pos}
use Rattle.ckc_base.specs.Words.{applied}
use Rattle.ckc_base.specs.Products.{high_product}
use Rattle.ckc_base.specs.Actions.{World, Outcome, Gives, Done, Stops, Lost}
use Rattle.ckc_base.specs.Activations.{Values, with_written}
use Rattle.ckc_tac.specs.declared.code.TacBlock.{TacBlock}
use Rattle.ckc_tac.specs.declared.code.TacOp.{TacOp}
use Rattle.ckc_tac.specs.declared.code.TacOp.TheVariants.{Const, Copy, Bin, High, Call}
use Rattle.ckc_tac.specs.declared.code.TacEnd.{TacEnd}
use Rattle.ckc_tac.specs.Operations.{outcome_of, value_in, values_in}
use Rattle.ckc_flow.specs.Live.{target_of}
use Rattle.ckc_passes.specs.Values.{computed}

-- a value that an operation may give its target, from these registers
abbrev pub IsGiven : Values → TacOp → ℕ → Type 0
IsGiven x (Const t n) v = v ≡ n
IsGiven x (Copy t a) v = x a ≡ Some v
IsGiven x (Bin op t a b) v = computed (applied op) (value_in x a) (value_in x b) ≡ Some v
IsGiven x (High is_signed t a b) v = computed (high_product is_signed) (value_in x a) (value_in x b) ≡ Some v
IsGiven x op v = Unit {0}

-- An outcome gives the target such a value, or is done without one only if there is no target.
abbrev pub GivesTarget : Values → TacOp → Outcome → Type 0
GivesTarget x op (Gives events t value world) = (target_of op ≡ Some t) × IsGiven x op value
GivesTarget x op (Done events world) = target_of op ≡ None
GivesTarget x op (Stops check at) = Unit {0}
GivesTarget x op Lost = Unit {0}

-- What holds of the registers after the operations done in a block: it holds at the beginning of each block, and
-- each operation keeps it.
pub record IsForward (Holds : List TacOp → Values → Type 0) : Type 0 where
  pub begins : (x : Values) → Holds [] x
  pub writes : (done : List TacOp) (op : TacOp) (x : Values) (t v : ℕ) → target_of op ≡ Some t → IsGiven x op v → Holds done x → Holds (op ∷ done) (with_written x t v)
  pub skips : (done : List TacOp) (op : TacOp) (x : Values) → target_of op ≡ None → Holds done x → Holds (op ∷ done) x

-- both programs have the same registers, and this holds of them
abbrev pub SameAnd : (Holds : List TacOp → Values → Type 0) → (blocks : List TacBlock) (done ops : List TacOp) (end : TacEnd) → Values → Values → Type 0
SameAnd Holds blocks done ops end x y = (y ≡ x) × Holds done x

-- from the same registers an operation does what the other one does, unless that is lost
abbrev pub SameOutcome : Outcome → Outcome → Type 0
SameOutcome out low = (out ≡ Lost) ⊎ (low ≡ out)

pub record SameCall (x : Values) (target : Option ℕ) (callee : ℕ) (arguments : List ℕ) (at : Pos) (low : TacOp) : Type 0 where
  pub others : List ℕ
  pub is : low ≡ Call target callee others at
  pub long : length others ≡ length arguments
  pub values : IfSome (values_in x arguments) (λ vs. values_in x others ≡ Some vs)

abbrev pub DoesSame : Values → TacOp → TacOp → Type 0
DoesSame x (Call target callee arguments at) low = SameCall x target callee arguments at low
DoesSame x op low = (world : World) → SameOutcome (outcome_of x world op) (outcome_of x world low)

-- ---- tables with an entry for each register

-- the table with another entry for the target of an operation, if it has one
abbrev pub entered : {A : Type 0} → Option ℕ → A → List A → List A
entered (Some t) entry table = set table t entry
entered None entry table = table

-- the table with an entry for the target of each operation, made of the number of operations before it and of the
-- table there
abbrev pub filled : {A : Type 0} → (ℕ → List A → TacOp → A) → ℕ → List TacOp → List A → List A
filled entry i [] table = table
filled entry i (op ∷ ops) table = filled entry (i + 1) ops (entered (target_of op) (entry i table op) table)

-- the table with the same entry for each target
abbrev pub emptied : {A : Type 0} → A → List TacOp → List A → List A
emptied empty [] table = table
emptied empty (op ∷ ops) table = emptied empty ops (entered (target_of op) empty table)
