-- An item has a word exactly when its number is in range.
use Rattle.std.proofs.Common.{◌≡◌, ℕ, ℤ, List, Some, refl, ◌↔◌}
use Rattle.std.specs.List.{slice_get}
use Rattle.ckc_rv.specs.declared.instructions.Instr.TheVariants as instr
use Rattle.ckc_rv.specs.Table.{row_word}
use Rattle.ckc_asm.specs.declared.items.Form.{Form}
use Rattle.ckc_asm.specs.declared.items.Form.TheVariants as form
use Rattle.ckc_asm.specs.Cut.{cut}
use Rattle.ckc_asm.specs.Items.{Statement}
use Rattle.ckc_asm.specs.Program.{width_of, size_of, IsWordOf, AreStatements}
use Rattle.ckc_asm.specs.Ranges.{IsInRange}
use Rattle.ckc_asm.proofs.Answer.{line_of}
use Rattle.ckc_asm.proofs.Shaped.{RegistersFit, registers_fit}

in_range : (f : Form) (z : ℤ) (word : ℕ) → IsWordOf f z word → IsInRange f z
in_range form.Nothing z word p = absurd p
in_range (form.Lui rd) z word p = (p.0, p.1, p.2.0.1)
in_range (form.Auipc rd) z word p = (p.0, p.1, p.2.0.1)
in_range (form.Jal rd) z word p = p.0.1
in_range (form.Jalr rd rs1) z word p = p.0.2
in_range (form.Branch op rs1 rs2) z word p = p.0.2
in_range (form.Load op rd rs1) z word p = p.0.2
in_range (form.Store op rs1 rs2) z word p = p.0.2
in_range (form.Imm op rd rs1) z word p = p.0.2
in_range (form.Reg op rd rs1 rs2) z word p = tt
in_range form.Fence z word p = (p.0, p.1, p.2.0)
in_range form.Ecall z word p = tt
in_range form.Ebreak z word p = tt
in_range form.Word z word p = (word, p.0, p.1)
in_range form.Entry z word p = absurd p
in_range (form.Data bytes) z word p = absurd p

has_word : (f : Form) (z : ℤ) → RegistersFit f → width_of f ≡ 4 → IsInRange f z → (word : ℕ) × IsWordOf f z word
has_word form.Nothing z r w h = absurd (let e : 0 ≡ 4 = w in cc)
has_word (form.Lui rd) z r w h = (row_word (instr.Lui rd h.0), (h.0, h.1, ((r, h.2), refl)))
has_word (form.Auipc rd) z r w h = (row_word (instr.Auipc rd h.0), (h.0, h.1, ((r, h.2), refl)))
has_word (form.Jal rd) z r w h = (row_word (instr.Jal rd z), ((r, h), refl))
has_word (form.Jalr rd rs1) z r w h = (row_word (instr.Jalr rd rs1 z), ((r.0, r.1, h), refl))
has_word (form.Branch op rs1 rs2) z r w h = (row_word (instr.Branch op rs1 rs2 z), ((r.0, r.1, h), refl))
has_word (form.Load op rd rs1) z r w h = (row_word (instr.Load op rd rs1 z), ((r.0, r.1, h), refl))
has_word (form.Store op rs1 rs2) z r w h = (row_word (instr.Store op rs1 rs2 z), ((r.0, r.1, h), refl))
has_word (form.Imm op rd rs1) z r w h = (row_word (instr.Imm op rd rs1 z), ((r.0, r.1, h), refl))
has_word (form.Reg op rd rs1 rs2) z r w h = (row_word (instr.Reg op rd rs1 rs2), ((r.0, r.1, r.2), refl))
has_word form.Fence z r w h = (row_word (instr.Fence h.0), (h.0, h.1, (h.2, refl)))
has_word form.Ecall z r w h = (row_word instr.Ecall, (tt, refl))
has_word form.Ebreak z r w h = (row_word instr.Ebreak, (tt, refl))
has_word form.Word z r w h = (h.0, (h.1, h.2))
has_word form.Entry z r w h = absurd (let e : 0 ≡ 4 = w in cc)
has_word (form.Data bytes) z r w h = absurd (let e : 0 ≡ 4 = w in cc)

pub words_by_range : (text : List ℕ) (statements : List Statement) (k : ℕ) (s : Statement) (z : ℤ) → AreStatements text statements → slice_get statements k ≡ Some s → size_of s ≡ 4
    → ((word : ℕ) × IsWordOf s.item.form z word) ↔ IsInRange s.item.form z
words_by_range text statements k s z form at four =
    let l = line_of text statements form k s at in
    (λ w. in_range s.item.form z w.0 w.1, λ h. has_word s.item.form z (registers_fit (cut 1 l.0) s l.2) four h)
