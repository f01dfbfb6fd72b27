-- The edges that lead to each block of a function.
use Rattle.std.specs.Prelude.{◌≡◌, ◌⊎◌, ◌≤◌, ◌<◌, ℕ, suc, List, length, get_or, slice_get, Some}
use Rattle.ckc_tac.specs.declared.code.TacBlock.{TacBlock}
use Rattle.ckc_tac.specs.declared.code.TacEnd.{TacEnd}
use Rattle.ckc_tac.specs.declared.code.TacEnd.TheVariants.{Jump, Branch, Return}
use Rattle.ckc_passes_known.specs.declared.edges.Edge.{Edge}
use Rattle.ckc_passes_known.specs.declared.edges.Edges.{Edges}

-- control may go from the end of a block to the block with this number
abbrev pub LeadsTo : TacEnd → ℕ → Type 0
LeadsTo (Jump to) b = to ≡ b
LeadsTo (Branch comparison x y one two) b = (one ≡ b) ⊎ (two ≡ b)
LeadsTo (Return x) b = ⊥

-- One of the edges begins at this block: the edge with this number, or one of those that come next.
pub data ComesFrom (all : List Edge) (from : ℕ) : ℕ → Type 0 where
  here : {k : ℕ} (edge : Edge) → slice_get all k ≡ Some edge → edge.from ≡ from → ComesFrom all from (suc k)
  later : {k : ℕ} (edge : Edge) → slice_get all k ≡ Some edge → ComesFrom all from edge.next → ComesFrom all from (suc k)

-- Numbers of edges are those of edges that there are, and the next one was there before.
pub record AreLinked (first : List ℕ) (all : List Edge) : Type 0 where
  pub heads : (b : ℕ) → get_or first b 0 ≤ length all
  pub nexts : (k : ℕ) (edge : Edge) → slice_get all k ≡ Some edge → edge.next ≤ k

-- The edges from the end of a block are added to those that were there.
pub record IsAdded (from : ℕ) (end : TacEnd) (first : List ℕ) (all : List Edge) (first' : List ℕ) (all' : List Edge) : Type 0 where
  pub long : length first' ≡ length first
  pub linked : AreLinked first all → AreLinked first' all'
  pub old : (b p : ℕ) → ComesFrom all p (get_or first b 0) → ComesFrom all' p (get_or first' b 0)
  pub new : (b : ℕ) → LeadsTo end b → b < length first → ComesFrom all' from (get_or first' b 0)

-- the edges from these first blocks, so many
pub record AreFrom (blocks : List TacBlock) (count : ℕ) (first : List ℕ) (all : List Edge) : Type 0 where
  pub long : length first ≡ length blocks
  pub linked : AreLinked first all
  pub there : (p : ℕ) (block : TacBlock) (b : ℕ) → p < count → slice_get blocks p ≡ Some block → LeadsTo block.end b
      → b < length blocks → ComesFrom all p (get_or first b 0)

-- the edges of all blocks
abbrev pub AreEdges : List TacBlock → Edges → Type 0
AreEdges blocks edges = AreFrom blocks (length blocks) edges.first.items edges.all.items
