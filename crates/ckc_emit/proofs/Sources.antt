-- Places that are read before an operation.
use Rattle.std.proofs.Common.{◌≡◌, ◌≢◌, ℕ, ◌+◌, ◌*◌, ◌^◌, ◌<◌, List, [], refl, sym, ap, ◌∙◌, arith}
use Rattle.ckc_asm_lines.specs.declared.lines.Line.{Line}
use Rattle.ckc_frame.specs.declared.code.Place.{Place}
use Rattle.ckc_frame.specs.declared.code.Place.TheVariants.{Reg, Slot}
use Rattle.ckc_frame.specs.WellFormed.{IsPlace}
use Rattle.ckc_emit.specs.code.Lines.{register_of, source_of, read_lines, load_lines}
use Rattle.ckc_emit.proofs.Local.{Local}
use Rattle.ckc_emit.proofs.Paths.{Code, Path, stay, loosened}
use Rattle.ckc_emit.proofs.FrameWords.{load_sets}
use Rattle.ckc_emit.proofs.Homes.{HasValue, IsFramed, Keeps, register_is, slot_word}

-- the register of a place that was read into x5, or is a home
pub left_place : (p : Place) → IsPlace p → (source_of p 5 < 32) × (source_of p 5 ≢ 6) × (source_of p 5 ≢ 7)
left_place (Reg k) h =
    let i = register_is k h in
    let low = i.low in
    let high = i.high in
    (omega arith, omega arith, omega arith)
left_place (Slot k) h = (omega arith, omega arith, omega arith)

pub right_place : (p : Place) → IsPlace p → source_of p 6 < 32
right_place (Reg k) h =
    let i = register_is k h in
    let high = i.high in
    omega arith
right_place (Slot k) h = omega arith

module _ (c : Code) where
  -- On the way from xs to ys a register r has a value, and but for a scratch register and x7 all is kept.
  pub record Reads (least most : ℕ) (xs ys : List Line) (l : Local) (scratch r v : ℕ) : Type 0 where
    pub next : Local
    pub path : Path c least most xs ys [] l next
    pub value : next.x r ≡ v
    pub other : (q : ℕ) → q ≢ scratch → q ≢ 7 → next.x q ≡ l.x q
    pub bytes : next.bytes ≡ l.bytes
    pub words : next.words ≡ l.words
    pub input : next.input ≡ l.input

  pub read_place : (p : Place) (scratch v : ℕ) (rest : List Line) (l : Local) → IsFramed l → IsPlace p → HasValue l p v → v < 2 ^ 32 → scratch ≢ 0 → scratch < 32
      → Reads 0 3 (read_lines p scratch rest) rest l scratch (source_of p scratch) v
  read_place (Reg k) scratch v rest l f h e fits nonzero low = record {
    next = l;
    path = loosened c 0 0 0 3 rest rest [] l l (omega arith) (omega arith) (stay c rest l);
    value = e;
    other = λ q a b. refl;
    bytes = refl;
    words = refl;
    input = refl;
  }
  read_place (Slot k) scratch v rest l f h e fits nonzero low =
      let s = load_sets c scratch 2 (k * 4 + 80) v rest l nonzero low (omega arith) (omega arith) (omega arith) (slot_word c l k f h) e fits in
      record {
        next = s.next;
        path = loosened c 1 3 0 3 (load_lines scratch 2 (k * 4 + 80) rest) rest [] l s.next (omega arith) (omega arith) s.path;
        value = s.value;
        other = s.other;
        bytes = s.bytes;
        words = s.words;
        input = s.input;
      }

  pub read_keeps : (a b : ℕ) (xs ys : List Line) (l : Local) (scratch r v : ℕ) → scratch < 8 → scratch ≢ 0 → scratch ≢ 2 → (s : Reads a b xs ys l scratch r v) → Keeps l s.next
  read_keeps a b xs ys l scratch r v h nonzero apart s = record {
    zero = s.other 0 (λ e. nonzero (sym e)) (omega arith);
    frame = s.other 2 (λ e. apart (sym e)) (omega arith);
    above = λ q o. ap (λ (f : ℕ → ℕ). f q) s.words;
  }

  pub read_has : (a b : ℕ) (xs ys : List Line) (l : Local) (scratch r v : ℕ) → scratch < 8 → scratch ≢ 2 → (s : Reads a b xs ys l scratch r v) → (q : Place) (w : ℕ) → IsPlace q → HasValue l q w → HasValue s.next q w
  read_has a b xs ys l scratch r v h apart s (Reg k) w p e =
      let i = register_is k p in
      let low = i.low in
      s.other (register_of k) (omega arith) (omega arith) ∙ e
  read_has a b xs ys l scratch r v h apart s (Slot k) w p e =
      ap (λ (f : ℕ → ℕ). f (s.next.x 2 + (k * 4 + 80))) s.words ∙ ap (λ b. l.words (b + (k * 4 + 80))) (s.other 2 (λ q. apart (sym q)) (omega arith)) ∙ e
