-- Labelled lines are assembled to one entry, code and list of initial bytes.
use Rattle.std.proofs.Common.{◌≡◌, ℕ, ◌+◌, ◌*◌, ◌%◌, ◌^◌, ◌<◌, ℤ, List, ◌++◌, take, drop, sym, ap, subst, ◌∙◌, arith}
use Rattle.std.proofs.lemmas.Int.{ints}
use Rattle.std.proofs.lemmas.List.{take-append-drop}
use Rattle.ckc_rv.specs.declared.instructions.Instr.{Instr}
use Rattle.ckc_rv.specs.declared.instructions.Instr.TheVariants as instr
use Rattle.ckc_rv.specs.Table.{IsSigned}
use Rattle.ckc_rv.specs.Effects.{moved}
use Rattle.ckc_image.specs.Image.{word_bytes}
use Rattle.ckc_asm_lines.specs.declared.lines.Line.{Line}
use Rattle.ckc_asm_lines.specs.declared.lines.Line.TheVariants.{Label, Plain, Jump, Branch, Far}
use Rattle.ckc_asm_lines.specs.Assembled.{size_of, address_of, distance, StandsAt, StandsOnce, IsWord, IsFar, IsCode, bytes_at, Assembled, CanStand, CanAssemble}
use Rattle.ckc_asm_lines.specs.Assembled.{AreParts}
use Rattle.ckc_asm_lines.proofs.LabelPlaces.{address_is}
use Rattle.ckc_asm_lines.proofs.WholePieces.{pieces_once}

target_once : (lines : List Line) (label a b : ℕ) → StandsOnce lines label → StandsAt lines label a → StandsAt lines label b → a ≡ b
target_once lines label a b once p q = address_is label lines a once p ∙ sym (address_is label lines b once q)

word_once : (i : Instr) (x y : List ℕ) → IsWord i x → IsWord i y → x ≡ y
word_once i x y p q = p.1 ∙ ap word_bytes (p.2.1 ∙ sym q.2.1) ∙ sym q.1

-- the upper and the lower part of a distance are given by it
lower_once : (address target u v : ℕ) (l m : ℤ) → u < 2 ^ 20 → v < 2 ^ 20 → IsSigned (2 ^ 11) l → IsSigned (2 ^ 11) m
    → moved ((address + u * 2 ^ 12) % 2 ^ 32) l ≡ target → moved ((address + v * 2 ^ 12) % 2 ^ 32) m ≡ target → l ≡ m
lower_once address target u v l m hu hv hl hm p q = omega (arith, ints, hl.0, hl.1, hm.0, hm.1)

upper_once : (address target u v : ℕ) (l m : ℤ) → u < 2 ^ 20 → v < 2 ^ 20 → IsSigned (2 ^ 11) l → IsSigned (2 ^ 11) m
    → moved ((address + u * 2 ^ 12) % 2 ^ 32) l ≡ target → moved ((address + v * 2 ^ 12) % 2 ^ 32) m ≡ target → u ≡ v
upper_once address target u v l m hu hv hl hm p q = omega (arith, ints, hl.0, hl.1, hm.0, hm.1)

far_once : (rd address target : ℕ) (x y : List ℕ) → IsFar rd address target x → IsFar rd address target y → x ≡ y
far_once rd address target x y p q =
    let pu = p.first.2.0.1 in
    let qu = q.first.2.0.1 in
    let pl = p.second.2.0.2 in
    let ql = q.second.2.0.2 in
    let u = upper_once address target p.upper q.upper p.lower q.lower pu qu pl ql p.leads q.leads in
    let l = lower_once address target p.upper q.upper p.lower q.lower pu qu pl ql p.leads q.leads in
    let front : take 4 x ≡ take 4 y = word_once (instr.Auipc 26 q.upper) (take 4 x) (take 4 y) (subst (λ (n : ℕ). IsWord (instr.Auipc 26 n) (take 4 x)) u p.first) q.first in
    let back : drop 4 x ≡ drop 4 y = word_once (instr.Jalr rd 26 q.lower) (drop 4 x) (drop 4 y) (subst (λ (z : ℤ). IsWord (instr.Jalr rd 26 z) (drop 4 x)) l p.second) q.second in
    sym (take-append-drop 4 x) ∙ ap (λ b. b ++ drop 4 x) front ∙ ap (λ b. take 4 y ++ b) back ∙ take-append-drop 4 y

line_once : (lines : List Line) (address : ℕ) (line : Line) (x y : List ℕ) → CanStand lines address line
    → IsCode (StandsAt lines) address line x → IsCode (StandsAt lines) address line y → x ≡ y
line_once lines address (Label label) x y can p q = p ∙ sym q
line_once lines address (Plain i) x y can p q = word_once i x y p q
line_once lines address (Jump rd label) x y can p q =
    let t = target_once lines label p.0 q.0 can.1 p.1 q.1 in
    word_once (instr.Jal rd (distance address q.0)) x y (subst (λ (n : ℕ). IsWord (instr.Jal rd (distance address n)) x) t p.2) q.2
line_once lines address (Branch op rs1 rs2 label) x y can p q =
    let t = target_once lines label p.0 q.0 can.2 p.1 q.1 in
    word_once (instr.Branch op rs1 rs2 (distance address q.0)) x y (subst (λ (n : ℕ). IsWord (instr.Branch op rs1 rs2 (distance address n)) x) t p.2) q.2
line_once lines address (Far rd label) x y can p q =
    let t = target_once lines label p.0 q.0 can.1 p.1 q.1 in
    far_once rd address q.0 x y (subst (λ (n : ℕ). IsFar rd address n x) t p.2) q.2

pub assembled_once : (lines : List Line) (start entry other : ℕ) (given code code' initial initial' : List ℕ) → CanAssemble lines start given
    → Assembled lines start given entry code initial → Assembled lines start given other code' initial' → AreParts entry code initial other code' initial'
assembled_once lines start entry other given code code' initial initial' can p q = record {
  entry_is = target_once lines start entry other can.once p.starts q.starts;
  code_is = pieces_once size_of lines code code' p.whole q.whole
      (λ k line at. line_once lines (address_of lines k) line (bytes_at lines k line code) (bytes_at lines k line code') (can.each k line at) (p.each k line at) (q.each k line at));
  initial_is = p.same ∙ sym q.same;
}
