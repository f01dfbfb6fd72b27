-- The numbers that items may have: which immediates, offsets and words are in range.
use Rattle.std.specs.Prelude.{◌≡◌, ℕ, ◌^◌, ◌<◌, ℤ, pos}
use Rattle.ckc_rv.specs.Table.{IsSigned, IsOffset, IsImmediate}
use Rattle.ckc_asm.specs.declared.items.Form.{Form}
use Rattle.ckc_asm.specs.declared.items.Form.TheVariants as form

-- a number without a sign, below a limit
abbrev pub IsNatural : ℕ → ℤ → Type 0
IsNatural limit z = (n : ℕ) × (z ≡ pos n) × (n < limit)

-- Offsets of branches and of JAL are even and have 13 and 21 bits with a sign; other offsets and immediates have 12,
-- but counts of shifts are below 32. Items without a number take any.
abbrev pub IsInRange : Form → ℤ → Type 0
IsInRange (form.Lui rd) z = IsNatural (2 ^ 20) z
IsInRange (form.Auipc rd) z = IsNatural (2 ^ 20) z
IsInRange (form.Jal rd) z = IsOffset (2 ^ 20) z
IsInRange (form.Jalr rd rs1) z = IsSigned (2 ^ 11) z
IsInRange (form.Branch op rs1 rs2) z = IsOffset (2 ^ 12) z
IsInRange (form.Load op rd rs1) z = IsSigned (2 ^ 11) z
IsInRange (form.Store op rs1 rs2) z = IsSigned (2 ^ 11) z
IsInRange (form.Imm op rd rs1) z = IsImmediate op z
IsInRange form.Fence z = IsNatural (2 ^ 8) z
IsInRange form.Word z = IsNatural (2 ^ 32) z
IsInRange f z = Unit {0}
