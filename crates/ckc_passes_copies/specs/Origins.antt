-- Where the values of registers come from. The operations before a place in its block are given last first.
use Rattle.std.specs.Prelude.{ℕ, zero, suc, ◌+◌, nat_lt, Bool, if◌then◌else◌, List, [], ◌∷◌, length, Option, Some, None}
use Rattle.ckc_tac.specs.declared.code.Operand.{Operand}
use Rattle.ckc_tac.specs.declared.code.Operand.TheVariants.{Register, Number}
use Rattle.ckc_tac.specs.declared.code.TacOp.{TacOp}
use Rattle.ckc_tac.specs.declared.code.TacOp.TheVariants.{Const, Copy}
use Rattle.ckc_flow.specs.Live.{target_of}
use Rattle.ckc_passes.specs.Values.{is_target}

-- how many operations there are up to the last one that writes the register; 0 if none does
abbrev pub last_write : List TacOp → ℕ → ℕ
last_write [] r = 0
last_write (op ∷ before) r = if is_target (target_of op) r then length before + 1 else last_write before r

-- what a Const or Copy puts in its target
abbrev pub copied_by : TacOp → Option Operand
copied_by (Const t n) = Some (Number n)
copied_by (Copy t a) = Some (Register a)
copied_by op = None

-- what the last write of the register has put there, if that is a Const or Copy
abbrev pub last_copied : List TacOp → ℕ → Option Operand
last_copied [] r = None
last_copied (op ∷ before) r = if is_target (target_of op) r then copied_by op else last_copied before r

-- the last writes of registers: where they stand, and what they copied
pub record Writes : Type 0 where
  pub at : ℕ → ℕ
  pub copied : ℕ → Option Operand

abbrev pub writes_after : List TacOp → Writes
writes_after before = record { at = last_write before; copied = last_copied before }

abbrev pub earlier : ℕ → Bool → Option ℕ
earlier s is_earlier = if is_earlier then Some s else None

abbrev pub source_of : (ℕ → ℕ) → ℕ → Option Operand → Option ℕ
source_of at here (Some (Register s)) = earlier s (nat_lt (at s) here)
source_of at here (Some (Number n)) = None
source_of at here None = None

-- the register that a register was copied from, if that was not written since: so it is another one
abbrev pub source : Writes → ℕ → Option ℕ
source w r = source_of w.at (w.at r) (w.copied r)

abbrev pub onward : (ℕ → ℕ) → ℕ → Option ℕ → ℕ
onward go r (Some s) = go s
onward go r None = r

-- the register that so many steps from sources to sources lead to, or fewer if there is no source
unfoldable pub follow : (ℕ → Option ℕ) → ℕ → ℕ → ℕ
follow sources zero r = r
follow sources (suc n) r = onward (follow sources n) r (sources r)

-- The origin of a register: that of its source, and itself if it has none. A source was written earlier, so there are
-- fewer steps than operations up to the last write.
abbrev pub origin : Writes → ℕ → ℕ
origin w r = follow (source w) (w.at r) r

abbrev pub number_or : Option Operand → ℕ → Operand
number_or (Some (Number n)) r = Number n
number_or (Some (Register s)) r = Register r
number_or None r = Register r

-- the origin of what is read: the number, if its origin's last write is the Const of a number
abbrev pub operand_origin : Writes → Operand → Operand
operand_origin w (Register r) = number_or (w.copied (origin w r)) (origin w r)
operand_origin w (Number n) = Number n
