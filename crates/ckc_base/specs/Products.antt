-- The upper word of a product.
use Rattle.std.specs.Prelude.{ℕ, ◌*◌, ◌/◌, ◌^◌, Bool, if◌then◌else◌, ◌*ℤ◌}
use Rattle.std.specs.Int.{int_shr}
use Rattle.ckc_base.specs.Words.{signed, word_of}

-- the upper word of the product of two words, read as signed or as unsigned (RISC-V unprivileged ISA manual, "M",
-- MULH and MULHU)
abbrev pub high_product : (is_signed : Bool) → ℕ → ℕ → ℕ
high_product is_signed a b =
    if is_signed then word_of (int_shr (signed a *ℤ signed b) 32) else a * b / 2 ^ 32
