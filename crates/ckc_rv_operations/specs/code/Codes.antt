-- The operations by their codes, as the code looks them up.
use Rattle.std.specs.Prelude.{ℕ, ◌==◌, if◌then◌else◌, Option, None, Some}
use Rattle.ckc_rv_operations.specs.declared.operations.ImmOp.{ImmOp}
use Rattle.ckc_rv_operations.specs.declared.operations.ImmOp.TheVariants.{Slli, Srli, Srai}
use Rattle.ckc_rv_operations.specs.declared.operations.RegOp.{RegOp}
use Rattle.ckc_rv_operations.specs.declared.operations.RegOp.TheVariants.{Add, Sub, Sll, Slt, Sltu, Xor, Srl, Sra, Or, And, Mul, Mulh, Mulhsu, Mulhu, Div, Divu, Rem, Remu}

-- the shift to the left by an immediate, whose funct7 is 0
abbrev pub shift_left_op : ℕ → Option ImmOp
shift_left_op funct7 = if funct7 == 0 then Some Slli else None

-- the logical or arithmetic shift to the right by an immediate, by its funct7
abbrev pub shift_right_op : ℕ → Option ImmOp
shift_right_op funct7 =
    if funct7 == 0 then Some Srli
    else if funct7 == 0x20 then Some Srai
    else None

-- the operation on registers with this funct3, if funct7 is 0
abbrev pub base_op : ℕ → RegOp
base_op funct3 =
    if funct3 == 0 then Add
    else if funct3 == 1 then Sll
    else if funct3 == 2 then Slt
    else if funct3 == 3 then Sltu
    else if funct3 == 4 then Xor
    else if funct3 == 5 then Srl
    else if funct3 == 6 then Or
    else And

-- the multiplication, division or remainder with this funct3, if funct7 is 1
abbrev pub product_op : ℕ → RegOp
product_op funct3 =
    if funct3 == 0 then Mul
    else if funct3 == 1 then Mulh
    else if funct3 == 2 then Mulhsu
    else if funct3 == 3 then Mulhu
    else if funct3 == 4 then Div
    else if funct3 == 5 then Divu
    else if funct3 == 6 then Rem
    else Remu

-- the subtraction or arithmetic shift to the right, if funct7 is 0x20
abbrev pub other_op : ℕ → Option RegOp
other_op funct3 =
    if funct3 == 0 then Some Sub
    else if funct3 == 5 then Some Sra
    else None
