-- Which comparisons are decided at a place of three-address code, since they were made on every way there, and the pass
-- that drops tests of these. Operations that are done are given last first.
use Rattle.std.specs.Prelude.{◌≡◌, ◌≢◌, ◌⊎◌, ℕ, ◌+◌, ◌^◌, ◌==◌, nat_lt, Bool, true, false, not, ◌||◌, if◌then◌else◌, List, [], ◌∷◌, slice_get, Option, Some, None}
use Rattle.std.specs.List.{AllZip}
use Rattle.ckc_base.specs.declared.arithmetic.BinOp.TheVariants.{Add}
use Rattle.ckc_base.specs.Words.{applied}
use Rattle.ckc_tac.specs.declared.code.Tac.{Tac}
use Rattle.ckc_tac.specs.declared.code.TacFunc.{TacFunc}
use Rattle.ckc_tac.specs.declared.code.TacBlock.{TacBlock}
use Rattle.ckc_tac.specs.declared.code.Comparison.{Comparison}
use Rattle.ckc_tac.specs.declared.code.Comparison.TheVariants.{LtS, LtU, Eq, Ne}
use Rattle.ckc_tac.specs.declared.code.Operand.{Operand}
use Rattle.ckc_tac.specs.declared.code.Operand.TheVariants.{Register, Number}
use Rattle.ckc_tac.specs.declared.code.TacOp.{TacOp}
use Rattle.ckc_tac.specs.declared.code.TacOp.TheVariants.{Const, Bin, Check}
use Rattle.ckc_tac.specs.declared.code.TacEnd.{TacEnd}
use Rattle.ckc_tac.specs.declared.code.TacEnd.TheVariants.{Jump, Branch, Return}
use Rattle.ckc_tac.specs.Operations.{operation_of}
use Rattle.ckc_flow.specs.Live.{is_register, target_of}
use Rattle.ckc_passes.specs.Passes.{Pass, BlockBecomes}
use Rattle.ckc_passes.specs.Rewrites.{all_done}
use Rattle.ckc_passes_known.specs.declared.facts.Fact.{Fact}

-- ---- facts

-- the fact that a comparison holds, or does not; that two operands are unequal is that they are not equal
abbrev pub fact_of : Comparison → Operand → Operand → (holds : Bool) → Fact
fact_of LtS a b holds = record { comparison = LtS; a = a; b = b; holds = holds }
fact_of LtU a b holds = record { comparison = LtU; a = a; b = b; holds = holds }
fact_of Eq a b holds = record { comparison = Eq; a = a; b = b; holds = holds }
fact_of Ne a b holds = record { comparison = Eq; a = a; b = b; holds = not holds }

-- that a register is not negative as a signed word
abbrev pub not_negative : ℕ → Fact
not_negative r = fact_of LtS (Register r) (Number 0) false

-- What an operation tells when it is done: a check, that its comparison holds, and a number below 2 ^ 31 that is put into
-- a register, that the register is not negative.
abbrev pub told : TacOp → Option Fact
told (Check check at comparison a b) = Some (fact_of comparison a b true)
told (Const t n) = if nat_lt n (2 ^ 31) then Some (not_negative t) else None
told op = None

-- whether the register that is written, if there is one, is an operand of the fact
abbrev pub changes : Option ℕ → Fact → Bool
changes (Some t) fact = is_register t fact.a || is_register t fact.b
changes None fact = false

-- Control may go from the end of a block to the block with this number, and that does not tell the fact. A branch tells
-- one block that its comparison holds, and the other one that it does not.
abbrev pub LeadsUntold : Fact → TacEnd → ℕ → Type 0
LeadsUntold fact (Jump to) b = to ≡ b
LeadsUntold fact (Branch comparison x y one two) b =
    ((one ≡ b) × (fact_of comparison x y true ≢ fact)) ⊎ ((two ≡ b) × (fact_of comparison x y false ≢ fact))
LeadsUntold fact (Return x) b = ⊥

-- A fact is lost at a place, in the block with this number after these operations: some path of blocks comes there from
-- the entry of the function, or from an operation that ends the fact, and nothing tells the fact on it. `Ends` says which
-- operations end it, each in its block behind the operations that are done there.
pub data IsLost (blocks : List TacBlock) (fact : Fact) (Ends : ℕ → List TacOp → TacOp → Type 0) : (b : ℕ) (done : List TacOp) → Type 0 where
  at_entry : IsLost blocks fact Ends 0 []
  along : {b : ℕ} (from : ℕ) (block : TacBlock) → slice_get blocks from ≡ Some block → LeadsUntold fact block.end b
      → IsLost blocks fact Ends from (all_done [] block.ops) → IsLost blocks fact Ends b []
  ended : {b : ℕ} {op : TacOp} {done : List TacOp} → told op ≢ Some fact → Ends b done op → IsLost blocks fact Ends b (op ∷ done)
  untold : {b : ℕ} {op : TacOp} {done : List TacOp} → told op ≢ Some fact → IsLost blocks fact Ends b done → IsLost blocks fact Ends b (op ∷ done)

-- An operation that writes a register of a fact ends it.
abbrev pub Writes : Fact → ℕ → List TacOp → TacOp → Type 0
Writes fact b done op = changes (target_of op) fact ≡ true

abbrev pub IsForgotten : List TacBlock → Fact → (b : ℕ) (done : List TacOp) → Type 0
IsForgotten blocks fact = IsLost blocks fact (Writes fact)

-- the operation that adds 1 to a register
abbrev pub one_more : ℕ → TacOp
one_more r = Bin Add r (Register r) (Number 1)

-- That a register is not negative is ended by an operation that writes the register, but not if that adds 1 where the
-- register is below a limit: the sum is at most the limit, so it does not wrap.
abbrev pub EndsCount : List TacBlock → (r : ℕ) (limit : Operand) → ℕ → List TacOp → TacOp → Type 0
EndsCount blocks r limit b done op =
    Writes (not_negative r) b done op × (op ≡ one_more r → IsForgotten blocks (fact_of LtS (Register r) limit true) b done)

-- A register may be negative at a place, if it is counted up below a limit.
abbrev pub MayBeNegative : List TacBlock → (r : ℕ) (limit : Operand) → (b : ℕ) (done : List TacOp) → Type 0
MayBeNegative blocks r limit = IsLost blocks (not_negative r) (EndsCount blocks r limit)

-- ---- tests

-- whether a comparison holds, if it is one of two numbers or of a register with itself: that is as one of 0 with 0
abbrev pub always : Comparison → Operand → Operand → Option Bool
always comparison (Number m) (Number n) = Some (not (applied (operation_of comparison) m n == 0))
always comparison (Register r) (Register q) = if r == q then Some (not (applied (operation_of comparison) 0 0 == 0)) else None
always comparison (Number m) (Register q) = None
always comparison (Register r) (Number n) = None

-- A register is below a limit as a word without sign, since it is so as a signed word and is not negative.
abbrev pub IsWithin : List TacBlock → (b : ℕ) (done : List TacOp) → Comparison → Operand → Operand → (holds : Bool) → Type 0
IsWithin blocks b done LtU (Register r) limit true =
    (IsForgotten blocks (fact_of LtS (Register r) limit true) b done → ⊥) × (MayBeNegative blocks r limit b done → ⊥)
IsWithin blocks b done comparison x y holds = ⊥

-- A comparison is decided at a place to hold, or not to: it always comes out so, or that is not lost there, or a register
-- is within a limit.
abbrev pub IsDecided : List TacBlock → (b : ℕ) (done : List TacOp) → Comparison → Operand → Operand → (holds : Bool) → Type 0
IsDecided blocks b done comparison x y holds =
    (always comparison x y ≡ Some holds) ⊎ ((IsForgotten blocks (fact_of comparison x y holds) b done → ⊥) ⊎ IsWithin blocks b done comparison x y holds)

-- a check whose comparison is decided to hold
abbrev pub IsNeedless : List TacBlock → (b : ℕ) (done : List TacOp) → TacOp → Type 0
IsNeedless blocks b done (Check check at comparison x y) = IsDecided blocks b done comparison x y true
IsNeedless blocks b done op = ⊥

-- A branch whose comparison is decided becomes a jump to where it leads, and every other end stays.
abbrev pub EndBecomes : List TacBlock → (b : ℕ) (done : List TacOp) → TacEnd → TacEnd → Type 0
EndBecomes blocks b done (Branch comparison x y one two) low =
    (IsDecided blocks b done comparison x y true × (low ≡ Jump one))
    ⊎ ((IsDecided blocks b done comparison x y true → ⊥)
    × ((IsDecided blocks b done comparison x y false × (low ≡ Jump two))
    ⊎ ((IsDecided blocks b done comparison x y false → ⊥) × (low ≡ Branch comparison x y one two))))
EndBecomes blocks b done end low = low ≡ end

-- ---- the pass

-- What the pass does in the block with this number: exactly the needless checks are dropped, branches that are decided
-- become jumps, and all else stays as it was.
abbrev pub known_pass : ℕ → Pass
known_pass b = record {
  Keeps = λ blocks done ops end op low. (low ≡ op) × (IsNeedless blocks b done op → ⊥);
  Drops = λ blocks done ops end op. IsNeedless blocks b done op;
  Ends = λ blocks done end low. EndBecomes blocks b done end low;
}

-- elements side by side, each pair with its place, from this one on
abbrev pub ZipFrom : {A B : Type 0} (R : ℕ → A → B → Type 0) → ℕ → List A → List B → Type 0
ZipFrom R n [] [] = Unit {0}
ZipFrom R n [] (y ∷ ys) = ⊥
ZipFrom R n (x ∷ xs) [] = ⊥
ZipFrom R n (x ∷ xs) (y ∷ ys) = R n x y × ZipFrom R (n + 1) xs ys

abbrev pub BlockAfter : List TacBlock → ℕ → TacBlock → TacBlock → Type 0
BlockAfter blocks b block low = BlockBecomes (known_pass b) blocks block low

pub record FunctionAfter (f low : TacFunc) : Type 0 where
  pub params : low.params ≡ f.params
  pub regs : low.regs ≡ f.regs
  pub blocks : ZipFrom (BlockAfter f.blocks) 0 f.blocks low.blocks

pub record ProgramAfter (t low : Tac) : Type 0 where
  pub initial : low.initial ≡ t.initial
  pub main : low.main ≡ t.main
  pub funcs : AllZip FunctionAfter t.funcs low.funcs
