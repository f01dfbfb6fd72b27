-- The bytes of one line.
use Rattle.std.proofs.Common.{◌≡◌, ℕ, ◌+◌, ◌-◌, ◌*◌, ◌/◌, ◌%◌, ◌^◌, ◌<◌, ℤ, pos, ◌-ℤ◌, List, ◌++◌, length, take, drop, Option, Some, Result, Ok, Err, OnOk, ap, ◌∙◌, arith, length-append, append_assoc}
use Rattle.std.proofs.lemmas.Int.{ints}
use Rattle.std.proofs.lemmas.List.{take_at, drop_at}
use Rattle.ckc_rv_operations.specs.declared.operations.BranchOp.{BranchOp}
use Rattle.ckc_rv.specs.declared.instructions.Instr.{Instr}
use Rattle.ckc_rv.specs.declared.instructions.Instr.TheVariants as instr
use Rattle.ckc_rv.specs.Effects.{moved}
use Rattle.ckc_asm_lines.specs.declared.lines.Line.{Line}
use Rattle.ckc_asm_lines.specs.declared.lines.Line.TheVariants.{Jump, Branch}
use Rattle.ckc_asm_lines.specs.Assembled.{distance, IsWord, IsFar}
use Rattle.ckc_asm_lines.specs.code.Places.{Encodes}

pub on_ok : {T E : Type 0} (r : Result T E) (P Q : Type 0) → (P → Q) → OnOk r P → OnOk r Q
on_ok (Ok x) P Q f h = f h
on_ok (Err e) P Q f h = h

-- what a put of one instruction adds
abbrev pub Adds : Instr → List ℕ → List ℕ → Type 0
Adds i old new = (x : List ℕ) × (new ≡ old ++ x) × IsWord i x × (length x ≡ 4)

-- what a put of a line adds
abbrev pub AddsLine : (ℕ → Option ℕ) → ℕ → Line → List ℕ → List ℕ → Type 0
AddsLine known address line old new = (x : List ℕ) × (new ≡ old ++ x) × Encodes known address line x

pub jump_codes : {T E : Type 0} (known : ℕ → Option ℕ) (address : ℕ) (line : Line) (rd label target : ℕ) (offset : ℤ) (r : Result T E) (old new : List ℕ)
    → line ≡ Jump rd label → known label ≡ Some target → offset ≡ distance address target
    → OnOk r (Adds (instr.Jal rd offset) old new) → OnOk r (AddsLine known address line old new)
jump_codes known address line rd label target offset r old new is at far done =
    rw is (on_ok r (Adds (instr.Jal rd offset) old new) (AddsLine known address (Jump rd label) old new)
    (λ w. (w.0, w.1, ((target, at, rw (← far) w.2), w.3))) done)

pub branch_codes : {T E : Type 0} (known : ℕ → Option ℕ) (address : ℕ) (line : Line) (op : BranchOp) (rs1 rs2 label target : ℕ) (offset : ℤ) (r : Result T E) (old new : List ℕ)
    → line ≡ Branch op rs1 rs2 label → known label ≡ Some target → offset ≡ distance address target
    → OnOk r (Adds (instr.Branch op rs1 rs2 offset) old new) → OnOk r (AddsLine known address line old new)
branch_codes known address line op rs1 rs2 label target offset r old new is at far done =
    rw is (on_ok r (Adds (instr.Branch op rs1 rs2 offset) old new) (AddsLine known address (Branch op rs1 rs2 label) old new)
    (λ w. (w.0, w.1, ((target, at, rw (← far) w.2), w.3))) done)

-- the distance, rounded, and split
far_leads : (address target rounded : ℕ) → address < 2 ^ 32 → target < 2 ^ 32
    → rounded ≡ ((target + (2 ^ 32 - address)) % 2 ^ 32 + 2048) % 2 ^ 32
    → moved ((address + rounded / 4096 * 2 ^ 12) % 2 ^ 32) (pos (rounded % 4096) -ℤ pos 2048) ≡ target
far_leads address target rounded ha ht e = omega (arith, ints)

pub far_codes : (rd address target rounded : ℕ) (lower : ℤ) (old middle new : List ℕ) → address < 2 ^ 32 → target < 2 ^ 32
    → rounded ≡ ((target + (2 ^ 32 - address)) % 2 ^ 32 + 2048) % 2 ^ 32 → lower ≡ pos (rounded % 4096) -ℤ pos 2048
    → Adds (instr.Auipc 26 (rounded / 4096)) old middle → Adds (instr.Jalr rd 26 lower) middle new
    → (x : List ℕ) × (new ≡ old ++ x) × IsFar rd address target x × (length x ≡ 8)
far_codes rd address target rounded lower old middle new ha ht e el one two =
    let x = one.0 in
    let y = two.0 in
    let front : take 4 (x ++ y) ≡ x = take_at x y 4 one.3 in
    let back : drop 4 (x ++ y) ≡ y = drop_at x y 4 one.3 in (
      x ++ y,
      two.1 ∙ ap (λ l. l ++ y) one.1 ∙ append_assoc old x y,
      record {
        upper = rounded / 4096;
        lower = lower;
        first = rw front one.2;
        second = rw back two.2;
        leads = rw el (far_leads address target rounded ha ht e);
      },
      omega (arith, length-append x y, one.3, two.3),
    )
