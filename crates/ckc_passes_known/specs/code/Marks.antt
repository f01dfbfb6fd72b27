-- Tests of facts and of operations, ways backwards through operations, and marks of blocks, one for each: whether it is
-- asked if a fact is lost at the beginning of the block.
use Rattle.std.specs.Prelude.{◌≡◌, ◌⊎◌, ◌+◌, ◌^◌, ◌≤◌, nat_lt, ℕ, ◌==◌, Bool, true, false, not, ◌&&◌, ◌||◌, if◌then◌else◌, List, [], ◌∷◌, ◌++◌, length, get_or, set, slice_get, sum_by, Some}
use Rattle.ckc_base.specs.declared.arithmetic.BinOp.TheVariants.{Add}
use Rattle.ckc_tac.specs.declared.code.TacBlock.{TacBlock}
use Rattle.ckc_tac.specs.declared.code.Comparison.{Comparison}
use Rattle.ckc_tac.specs.declared.code.Comparison.TheVariants.{LtS, LtU, Eq, Ne}
use Rattle.ckc_tac.specs.declared.code.Operand.{Operand}
use Rattle.ckc_tac.specs.declared.code.Operand.TheVariants.{Register, Number}
use Rattle.ckc_tac.specs.declared.code.TacOp.{TacOp}
use Rattle.ckc_tac.specs.declared.code.TacOp.TheVariants.{Const, Bin, Check}
use Rattle.ckc_tac.specs.declared.code.TacEnd.{TacEnd}
use Rattle.ckc_tac.specs.declared.code.TacEnd.TheVariants.{Jump, Branch, Return}
use Rattle.ckc_passes.specs.Rewrites.{all_done}
use Rattle.ckc_passes_known.specs.declared.facts.Fact.{Fact}
use Rattle.ckc_passes_known.specs.declared.edges.Edge.{Edge}
use Rattle.ckc_passes_known.specs.declared.marks.Question.{Question}
use Rattle.ckc_passes_known.specs.declared.marks.Question.TheVariants.{Stated, Counted}
use Rattle.ckc_passes_known.specs.declared.marks.Way.{Way}
use Rattle.ckc_passes_known.specs.declared.marks.Way.TheVariants.{Told, Ended, Open}
use Rattle.ckc_passes_known.specs.Known.{fact_of, not_negative, LeadsUntold, IsLost, Writes, EndsCount}
use Rattle.ckc_passes_known.specs.code.Edges.{ComesFrom}

-- ---- facts

abbrev pub same_comparison : Comparison → Comparison → Bool
same_comparison LtS LtS = true
same_comparison LtU LtU = true
same_comparison Eq Eq = true
same_comparison Ne Ne = true
same_comparison c d = false

abbrev pub same_operand : Operand → Operand → Bool
same_operand (Register r) (Register q) = r == q
same_operand (Number m) (Number n) = m == n
same_operand a b = false

abbrev pub same_outcome : Bool → Bool → Bool
same_outcome true b = b
same_outcome false b = not b

abbrev pub same_fact : Fact → Fact → Bool
same_fact f g =
    same_comparison f.comparison g.comparison && same_operand f.a g.a && same_operand f.b g.b && same_outcome f.holds g.holds

abbrev pub tells : TacOp → Fact → Bool
tells (Check check at comparison a b) fact = same_fact (fact_of comparison a b true) fact
tells (Const t n) fact = nat_lt n (2 ^ 31) && same_fact (not_negative t) fact
tells op fact = false

-- whether an operation adds 1 to the register
abbrev pub adds_one : TacOp → ℕ → Bool
adds_one (Bin Add t (Register q) (Number n)) r = t == r && q == r && n == 1
adds_one op r = false

-- ---- what is asked

abbrev pub fact_in : Question → Fact
fact_in (Stated fact) = fact
fact_in (Counted r limit) = not_negative r

-- an operation ends what is asked
abbrev pub Ends : List TacBlock → Question → ℕ → List TacOp → TacOp → Type 0
Ends blocks (Stated fact) = Writes fact
Ends blocks (Counted r limit) = EndsCount blocks r limit

abbrev pub IsGone : List TacBlock → Question → (b : ℕ) (done : List TacOp) → Type 0
IsGone blocks question = IsLost blocks (fact_in question) (Ends blocks question)

-- one question may lead to others that have a lower rank
abbrev pub rank : Question → ℕ
rank (Stated fact) = 0
rank (Counted r limit) = 8

-- ---- paths

-- none of these operations ends what is asked
abbrev pub Passes : (Ends : ℕ → List TacOp → TacOp → Type 0) → ℕ → List TacOp → Type 0
Passes Ends b [] = Unit {0}
Passes Ends b (op ∷ done) = (Ends b done op → ⊥) × Passes Ends b done

-- what operations do with the fact: it is not lost behind them, or lost, or as it is in front of them
abbrev pub Goes : List TacBlock → Question → ℕ → List TacOp → Way → Type 0
Goes blocks question b done Told = IsGone blocks question b done → ⊥
Goes blocks question b done Ended = IsGone blocks question b done
Goes blocks question b done Open = Passes (Ends blocks question) b done × (IsGone blocks question b [] → IsGone blocks question b done)

-- whether control may go from the end of a block to the block with this number, and that does not tell the fact
abbrev pub leads : Fact → TacEnd → ℕ → Bool
leads fact (Jump to) b = to == b
leads fact (Branch comparison x y one two) b =
    (one == b && not (same_fact (fact_of comparison x y true) fact))
    || (two == b && not (same_fact (fact_of comparison x y false) fact))
leads fact (Return x) b = false

-- ---- marks

-- this one is set
abbrev pub Has : List Bool → ℕ → Type 0
Has marks b = get_or marks b false ≡ true

abbrev pub unset : Bool → ℕ
unset b = if b then 0 else 1

-- how many blocks have no mark
abbrev pub unset_in : List Bool → ℕ
unset_in marks = sum_by unset marks

-- A block is put behind those that are to be asked and gets its mark, if it has none.
abbrev pub IsPut : (b : ℕ) (marks : List Bool) (order : List ℕ) (marks' : List Bool) (order' : List ℕ) → Type 0
IsPut b marks order marks' order' =
    (Has marks b × (marks' ≡ marks) × (order' ≡ order))
    ⊎ ((get_or marks b false ≡ false) × (marks' ≡ set marks b true) × (order' ≡ order ++ b ∷ []))

-- ---- the search

-- The fact is not lost behind a block, or the block does not end it and has a mark.
abbrev pub IsClosed : List TacBlock → Question → TacBlock → (p : ℕ) → (marks : List Bool) → Type 0
IsClosed blocks question block p marks =
    (IsGone blocks question p (all_done [] block.ops) → ⊥) ⊎ (Passes (Ends blocks question) p (all_done [] block.ops) × Has marks p)

-- Each block that leads to this one is closed, and this is not the entry.
pub record IsAnswered (blocks : List TacBlock) (question : Question) (b : ℕ) (marks : List Bool) : Type 0 where
  pub inner : b ≡ 0 → ⊥
  pub closed : (p : ℕ) (block : TacBlock) → slice_get blocks p ≡ Some block → LeadsUntold (fact_in question) block.end b
      → IsClosed blocks question block p marks

-- A block is to be asked: it stands in the order, not among the first ones, so many.
abbrev pub Waits : List ℕ → (i : ℕ) → (b : ℕ) → Type 0
Waits order i b = (k : ℕ) × (i ≤ k) × (slice_get order k ≡ Some b)

-- If the fact is lost at a block with a mark, it is lost at the goal. So many blocks of the order were asked.
pub record IsSearch (blocks : List TacBlock) (question : Question) (goal i : ℕ) (marks : List Bool) (order : List ℕ) : Type 0 where
  pub long : length marks ≡ length blocks
  pub counts : length order + unset_in marks ≡ length blocks
  pub begun : Has marks goal
  pub sound : (b : ℕ) → Has marks b → IsGone blocks question b [] → IsGone blocks question goal []
  pub marked : (k b : ℕ) → slice_get order k ≡ Some b → Has marks b
  pub all : (b : ℕ) → Has marks b → IsAnswered blocks question b marks ⊎ Waits order i b

-- The search goes on with more marks, if the goal depends on this block.
abbrev pub GoesOn : List TacBlock → Question → (b : ℕ) (marks : List Bool) (order : List ℕ) (marks' : List Bool) (order' : List ℕ) → Type 0
GoesOn blocks question b marks order marks' order' = (goal i : ℕ) → i ≤ length order
    → (IsGone blocks question b [] → IsGone blocks question goal []) → IsSearch blocks question goal i marks order
    → IsSearch blocks question goal i marks' order'

-- The fact is not lost at a block unless it is lost at blocks with a mark.
pub record IsAsked (blocks : List TacBlock) (question : Question) (b : ℕ) (marks : List Bool) (order : List ℕ) (marks' : List Bool) (order' : List ℕ) : Type 0 where
  pub goes : GoesOn blocks question b marks order marks' order'
  pub stays : (k r : ℕ) → slice_get order k ≡ Some r → slice_get order' k ≡ Some r
  pub answered : IsAnswered blocks question b marks'

-- The edges to a block are passed up to this one.
pub record IsAsking (blocks : List TacBlock) (all : List Edge) (question : Question) (b head e : ℕ) (marks : List Bool) (order : List ℕ) (marks' : List Bool) (order' : List ℕ) : Type 0 where
  pub long : length marks' ≡ length blocks
  pub within : e ≤ length all
  pub longer : length order ≤ length order'
  pub stays : (k r : ℕ) → slice_get order k ≡ Some r → slice_get order' k ≡ Some r
  pub goes : GoesOn blocks question b marks order marks' order'
  pub closed : (p : ℕ) (block : TacBlock) → slice_get blocks p ≡ Some block → LeadsUntold (fact_in question) block.end b
      → ComesFrom all p head → IsClosed blocks question block p marks' ⊎ ComesFrom all p e
