-- Addresses with an offset: what is read of them before the instruction that loads or stores there.
use Rattle.std.proofs.Common.{◌≡◌, ◌≢◌, ℕ, ◌+◌, ◌*◌, ◌%◌, ◌^◌, ◌<◌, ◌==◌, if◌then◌else◌, Bool, true, false, List, [], ◌∷◌, refl, ◌∙◌, ap, arith}
use Rattle.ckc_rv.specs.declared.instructions.Instr.TheVariants.{Lui}
use Rattle.ckc_rv.specs.Effects.{moved}
use Rattle.ckc_asm_lines.specs.declared.lines.Line.{Line}
use Rattle.ckc_asm_lines.specs.declared.lines.Line.TheVariants.{Plain}
use Rattle.ckc_tac.specs.Operations.{at_offset}
use Rattle.ckc_tac.specs.WellFormed.{IsOffset}
use Rattle.ckc_emit.specs.declared.places.PlacedOperand.{PlacedOperand}
use Rattle.ckc_emit.specs.declared.places.PlacedOperand.TheVariants.{At, Number}
use Rattle.ckc_emit.specs.code.Operands.{IsOperand}
use Rattle.ckc_emit.specs.code.Lines.{upper_of, address_lines, base_with, rest_of}
use Rattle.ckc_emit.proofs.Local.{Local}
use Rattle.ckc_emit.proofs.Paths.{Code, stay, loosened}
use Rattle.ckc_emit.proofs.FrameWords.{lui_sets}
use Rattle.ckc_emit.proofs.Homes.{IsFramed}
use Rattle.ckc_emit.proofs.Sources.{Reads, read_place, left_place}
use Rattle.ckc_emit.proofs.Operands.{HasOperand, left_number}
use Rattle.ckc_emit.proofs.Splits.{split_word, moved_near}
use Rattle.ckc_emit.proofs.Tests.{eq_of}

-- what the register has from which the instruction goes on
abbrev pub base_value : PlacedOperand → (offset p : ℕ) → ℕ
base_value (At q) offset p = p
base_value (Number n) offset p = upper_of (at_offset n offset) * 2 ^ 12

offset_fits : (b : Bool) (n offset : ℕ) → n < 2 ^ 32 → (if b then n else (n + offset) % 2 ^ 32) < 2 ^ 32
offset_fits true n offset h = h
offset_fits false n offset h = omega arith

-- and where it goes
pub address_is : (l : Local) (a : PlacedOperand) (offset p : ℕ) → IsOffset offset → HasOperand l a p → p < 2 ^ 32 → moved (base_value a offset p) (rest_of a offset) ≡ at_offset p offset
address_is l (At q) offset p near e fits = moved_near p offset fits near
address_is l (Number n) offset p near e fits =
    let same : n ≡ p = e in
    split_word (at_offset n offset) (offset_fits (offset == 0) n offset (omega (arith, same))) ∙ ap (λ m. at_offset m offset) same

pub base_register : (a : PlacedOperand) (offset : ℕ) → IsOperand a → (base_with a offset 5 < 32) × (base_with a offset 5 ≢ 6) × (base_with a offset 5 ≢ 7)
base_register (At q) offset h = left_place q h
base_register (Number n) offset h = left_number (upper_of (at_offset n offset) == 0)

module _ (c : Code) where
  no_upper : (v : ℕ) → (upper_of v == 0) ≡ true → 0 ≡ upper_of v * 2 ^ 12
  no_upper v t = let e : upper_of v ≡ 0 = eq_of (upper_of v) 0 t in omega (arith, e)

  upper_reads : (b : Bool) (v : ℕ) (rest : List Line) (l : Local) → (upper_of v == 0) ≡ b → IsFramed l
      → Reads c 0 3 (if b then rest else Plain (Lui 5 (upper_of v)) ∷ rest) rest l 5 (if b then 0 else 5) (upper_of v * 2 ^ 12)
  upper_reads true v rest l t f = record {
    next = l;
    path = loosened c 0 0 0 3 rest rest [] l l (omega arith) (omega arith) (stay c rest l);
    value = f.zero ∙ no_upper v t;
    other = λ q a b. refl;
    bytes = refl;
    words = refl;
    input = refl;
  }
  upper_reads false v rest l t f =
      let s = lui_sets c 5 (upper_of v) rest l (omega arith) (omega arith) in
      record {
        next = s.next;
        path = loosened c 1 1 0 3 (Plain (Lui 5 (upper_of v)) ∷ rest) rest [] l s.next (omega arith) (omega arith) s.path;
        value = s.value;
        other = s.other;
        bytes = s.bytes;
        words = s.words;
        input = s.input;
      }

  pub read_address : (a : PlacedOperand) (offset p : ℕ) (rest : List Line) (l : Local) → IsFramed l → IsOperand a → HasOperand l a p → p < 2 ^ 32
      → Reads c 0 3 (address_lines a offset 5 rest) rest l 5 (base_with a offset 5) (base_value a offset p)
  read_address (At q) offset p rest l f h e fits = read_place c q 5 p rest l f h e fits (omega arith) (omega arith)
  read_address (Number n) offset p rest l f h e fits = upper_reads (upper_of (at_offset n offset) == 0) (at_offset n offset) rest l refl f
