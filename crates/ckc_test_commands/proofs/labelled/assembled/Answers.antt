-- Each label of the lines stands once, and is in reach.
use Rattle.std.proofs.Common.{◌≡◌, ℕ, ◌^◌, List, [], ◌∷◌, refl, sym, subst, arith}
use Rattle.std.proofs.lemmas.Int.{ints}
use Rattle.ckc_rv_operations.specs.declared.operations.BranchOp.TheVariants.{Bne}
use Rattle.ckc_rv.specs.declared.instructions.Instr.TheVariants.{Ecall}
use Rattle.ckc_rv.specs.Table.{IsOffset}
use Rattle.ckc_asm_lines.specs.declared.lines.Line.{Line}
use Rattle.ckc_asm_lines.specs.declared.lines.Line.TheVariants.{Label, Plain, Jump, Branch, Far}
use Rattle.ckc_asm_lines.specs.Assembled.{CanAssemble, distance}
use Rattle.ckc_asm_lines.proofs.LabelPlaces.{address_is, stand_each}
use Rattle.ckc_test_commands.proofs.labelled.assembled.Goals as goal

abbrev lines : List Line
lines = Label 7 ∷ Jump 1 9 ∷ Branch Bne 5 6 7 ∷ Label 8 ∷ Label 9 ∷ Far 0 7 ∷ Far 1 10 ∷ Plain Ecall ∷ Label 10 ∷ []

jump : (target : ℕ) → target ≡ 4104 → IsOffset (2 ^ 20) (distance 4096 target)
jump target e = rw e ((omega (arith, ints), omega (arith, ints)), refl)

branch : (target : ℕ) → target ≡ 4096 → IsOffset (2 ^ 12) (distance 4100 target)
branch target e = rw e ((omega (arith, ints), omega (arith, ints)), refl)

can : CanAssemble lines 8 (1 ∷ 2 ∷ [])
can = record {
  each = stand_each lines (
    tt,
    (
      (omega arith, refl, λ target stands. jump target (address_is 9 lines target refl stands)),
      (
        (omega arith, omega arith, refl, λ target stands. branch target (address_is 7 lines target refl stands)),
        (tt, (tt, ((omega arith, refl), ((omega arith, refl), (tt, (tt, tt)))))),
      ),
    ),
  );
  once = refl;
  followed = λ entry stands. (let e : entry ≡ 4104 = address_is 8 lines entry refl stands in omega arith);
  code_fits = omega arith;
  initial_fits = omega arith;
}

pub assemble-requires : goal.assemble-requires
assemble-requires c =
    let P : List Line → Type 0 = λ l. CanAssemble l 8 c.in_ok-from_slice-2.field-0 in
    let Q : List ℕ → Type 0 = λ d. CanAssemble lines 8 d in
    subst P (sym c.in_ok-from_slice.ensures) (subst Q (sym c.in_ok-from_slice-2.ensures) can)
