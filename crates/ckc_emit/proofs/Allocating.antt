-- The heap: a block is claimed if it fits.
use Rattle.std.proofs.Common.{◌≡◌, inl, inr, ℕ, zero, suc, ◌+◌, ◌-◌, ◌*◌, ◌/◌, ◌%◌, ◌^◌, ◌≤◌, ◌<◌, ◌==◌, nat_lt, not, ◌&&◌, if◌then◌else◌, false, sym, ap, ◌∙◌, arith}
use Rattle.std.specs.Prelude.{nat_le}
use Rattle.std.proofs.lemmas.Int.{ints}
use Rattle.std.proofs.lemmas.Bool.{cases_lt}
use Rattle.std.proofs.lemmas.Bool.Decides.{nat_tests}
use Rattle.std.proofs.Math.Nat.{div-mul-le_self, mul-le-mul_right, add-mul, mul_comm}
use Rattle.ckc_rv.specs.Effects.{is_taken, reg_value}
use Rattle.ckc_rv_operations.specs.declared.operations.BranchOp.TheVariants.{Bge}
use Rattle.ckc_rv_operations.specs.declared.operations.RegOp.TheVariants.{Divu, Srl, Sll}
use Rattle.ckc_emit.proofs.Tests.{lt_is, lt_not, le_is, le_not}

-- the first branch is taken if the count is not positive
pub not_positive : (n : ℕ) → n < 2 ^ 32 → is_taken Bge 0 n ≡ not (nat_lt 0 n && nat_lt n (2 ^ 31))
not_positive n h = grind (arith, ints, nat_tests)

-- the place of the next block is rounded to a multiple of 8 by two shifts
pub rounded : (v : ℕ) → v < 2 ^ 32 → reg_value Sll (reg_value Srl v 3) 3 ≡ v / 8 * 8
rounded v h = omega arith

divided : (room size : ℕ) → reg_value Divu room (suc size) ≡ room / suc size
divided room size =
    let e : (suc size == 0) ≡ false = grind (arith, nat_tests) in
    ap (λ b. if b then 2 ^ 32 - 1 else room / suc size) e

quotient_step : (room size : ℕ) → room < (room / suc size + 1) * suc size
quotient_step room size =
    let d : 0 < suc size = omega arith in
    let e : suc size * (room / suc size) + room % suc size ≡ room = omega arith in
    let f : room % suc size < suc size = omega arith in
    let g : (room / suc size + 1) * suc size ≡ suc size * (room / suc size) + suc size = omega (arith, add-mul (room / suc size) 1 (suc size), mul_comm (room / suc size) (suc size)) in
    omega arith

-- a block of count elements fits if its count is at most the quotient of the room
pub fits_by_quotient : (room count size : ℕ) → room < 2 ^ 32 → count < 2 ^ 31 → nat_lt (reg_value Divu room size) count ≡ not (nat_le (count * size) room)
fits_by_quotient room count zero h k =
    let none : count * 0 ≡ 0 = omega arith in
    let less : nat_lt 4294967295 count ≡ false = lt_not 4294967295 count (omega arith) in
    less ∙ ap not (sym (le_is (count * 0) room (omega arith)))
fits_by_quotient room count (suc size) h k =
    ap (λ q. nat_lt q count) (divided room size)
    ∙ elim (cases_lt (room / suc size) count) as (λ _. nat_lt (room / suc size) count ≡ not (nat_le (count * suc size) room)) [
      | inl p ↦
          let more : (room / suc size + 1) * suc size ≤ count * suc size = mul-le-mul_right (suc size) (omega arith) in
          lt_is (room / suc size) count p ∙ ap not (sym (le_not (count * suc size) room (omega (arith, quotient_step room size))))
      | inr p ↦
          let less : count * suc size ≤ room / suc size * suc size = mul-le-mul_right (suc size) p in
          lt_not (room / suc size) count p ∙ ap not (sym (le_is (count * suc size) room (omega (arith, div-mul-le_self room (suc size)))))
    ]
