-- What a pass must do so that its result follows its argument, is whole and is no larger.
use Rattle.std.specs.Prelude.{◌≡◌, ℕ, ◌≤◌, true, List, [], ◌∷◌, length, slice_get, Option, Some, IfSome, All}
use Rattle.ckc_base.specs.declared.places.Pos.{Pos}
use Rattle.ckc_base.specs.Actions.{World, Outcome, Gives, Done, Stops, Lost}
use Rattle.ckc_base.specs.Activations.{Values, with_written, with_result}
use Rattle.ckc_tac.specs.declared.code.TacFunc.{TacFunc}
use Rattle.ckc_tac.specs.declared.code.TacBlock.{TacBlock}
use Rattle.ckc_tac.specs.declared.code.Operand.{Operand}
use Rattle.ckc_tac.specs.declared.code.TacOp.{TacOp}
use Rattle.ckc_tac.specs.declared.code.TacOp.TheVariants.{Call}
use Rattle.ckc_tac.specs.declared.code.TacEnd.{TacEnd}
use Rattle.ckc_tac.specs.declared.code.TacEnd.TheVariants.{Jump, Branch, Return}
use Rattle.ckc_tac.specs.Operations.{outcome_of, value_in, values_in, compared}
use Rattle.ckc_tac.specs.WellFormed.{IsOpOver, IsEndOver}
use Rattle.ckc_tac.specs.Sizes.{op_size, end_size}
use Rattle.ckc_flow.specs.Live.{leads_to}
use Rattle.ckc_passes.specs.Passes.{Pass}

-- ---- what a kept operation, a dropped one and an end must do, from registers x of the argument and y of the result

-- one outcome stands for the other, and what holds afterwards
abbrev pub Acts : (After : Values → Values → Type 0) (x y : Values) → Outcome → Outcome → Type 0
Acts After x y (Gives events t value world) low = (low ≡ Gives events t value world) × After (with_written x t value) (with_written y t value)
Acts After x y (Done events world) low = (low ≡ Done events world) × After x y
Acts After x y (Stops check at) low = low ≡ Stops check at
Acts After x y Lost low = Unit {0}

-- a call of the same function with the same values, and what holds afterwards, whatever it returns
pub record CallsBeside (After : Values → Values → Type 0) (x y : Values) (target : Option ℕ) (callee : ℕ) (arguments : List ℕ) (at : Pos) (low : TacOp) : Type 0 where
  pub others : List ℕ
  pub is : low ≡ Call target callee others at
  pub long : length others ≡ length arguments
  pub values : IfSome (values_in x arguments) (λ vs. values_in y others ≡ Some vs)
  pub after : IfSome (values_in x arguments) (λ vs. (value : ℕ) → After (with_result x target value) (with_result y target value))

abbrev pub StandsFor : (After : Values → Values → Type 0) (x y : Values) → TacOp → TacOp → Type 0
StandsFor After x y (Call target callee arguments at) low = CallsBeside After x y target callee arguments at low
StandsFor After x y op low = (world : World) → Acts After x y (outcome_of x world op) (outcome_of y world low)

-- nothing is seen of an outcome, and what holds afterwards
abbrev pub Vanishes : (After : Values → Values → Type 0) (x y : Values) → World → Outcome → Type 0
Vanishes After x y before (Gives events t value world) = (events ≡ []) × (world ≡ before) × After (with_written x t value) y
Vanishes After x y before (Done events world) = (events ≡ []) × (world ≡ before) × After x y
Vanishes After x y before (Stops check at) = ⊥
Vanishes After x y before Lost = Unit {0}

abbrev pub IsIdle : (After : Values → Values → Type 0) (x y : Values) → TacOp → Type 0
IsIdle After x y (Call target callee arguments at) = ⊥
IsIdle After x y op = (world : World) → Vanishes After x y world (outcome_of x world op)

-- an end that leads to the same block or returns the same value
abbrev pub EndsBeside : (x y : Values) → TacEnd → TacEnd → Type 0
EndsBeside x y (Jump to) low = low ≡ Jump to
EndsBeside x y (Branch comparison a b one two) low = (c : Operand) × (d : Operand) × (low ≡ Branch comparison c d one two)
    × IfSome (compared comparison (value_in x a) (value_in x b)) (λ v. compared comparison (value_in y c) (value_in y d) ≡ Some v)
EndsBeside x y (Return a) low = (c : Operand) × (low ≡ Return c) × IfSome (value_in x a) (λ v. value_in y c ≡ Some v)

-- Alike blocks done ops end x y: what is known of the registers x of the argument and y of the result at a place. It is
-- enough for each operation and end that the pass makes, holds at the next place, and begins to hold at each block.
pub record IsFaithful (p : Pass) (Alike : (blocks : List TacBlock) (done ops : List TacOp) (end : TacEnd) → Values → Values → Type 0) : Type 0 where
  pub enters : (blocks : List TacBlock) (block : TacBlock) (x : Values) → slice_get blocks 0 ≡ Some block → Alike blocks [] block.ops block.end x x
  pub begins : (blocks : List TacBlock) (done : List TacOp) (end low_end : TacEnd) (b : ℕ) (block : TacBlock) (x y : Values)
      → p.Ends blocks done end low_end → Alike blocks done [] end x y → leads_to b end ≡ true → slice_get blocks b ≡ Some block
      → Alike blocks [] block.ops block.end x y
  pub keeps : (blocks : List TacBlock) (done ops : List TacOp) (end : TacEnd) (op low : TacOp) (x y : Values)
      → p.Keeps blocks done ops end op low → Alike blocks done (op ∷ ops) end x y → StandsFor (Alike blocks (op ∷ done) ops end) x y op low
  pub drops : (blocks : List TacBlock) (done ops : List TacOp) (end : TacEnd) (op : TacOp) (x y : Values)
      → p.Drops blocks done ops end op → Alike blocks done (op ∷ ops) end x y → IsIdle (Alike blocks (op ∷ done) ops end) x y op
  pub ends : (blocks : List TacBlock) (done : List TacOp) (end low_end : TacEnd) (x y : Values)
      → p.Ends blocks done end low_end → Alike blocks done [] end x y → EndsBeside x y end low_end

-- What a pass puts for an operation or an end names only what is there, if that did, and needs no more instructions.
pub record IsThrifty (p : Pass) : Type 0 where
  pub over : (blocks : List TacBlock) (done ops : List TacOp) (end : TacEnd) (op low : TacOp) → p.Keeps blocks done ops end op low
      → (functions : List TacFunc) (regs : ℕ) → All (IsOpOver functions regs) done → IsOpOver functions regs op → IsOpOver functions regs low
  pub op_fits : (blocks : List TacBlock) (done ops : List TacOp) (end : TacEnd) (op low : TacOp) → p.Keeps blocks done ops end op low → op_size low ≤ op_size op
  pub end_over : (blocks : List TacBlock) (done : List TacOp) (end low_end : TacEnd) → p.Ends blocks done end low_end
      → (functions : List TacFunc) (count regs : ℕ) → All (IsOpOver functions regs) done → IsEndOver count regs end → IsEndOver count regs low_end
  pub end_fits : (blocks : List TacBlock) (done : List TacOp) (end low_end : TacEnd) → p.Ends blocks done end low_end → end_size low_end ≤ end_size end
