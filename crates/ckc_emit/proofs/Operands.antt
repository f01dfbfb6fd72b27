-- Operands that are read before an operation: at a place, or numbers.
use Rattle.std.proofs.Common.{◌≡◌, ◌≢◌, ℕ, ◌^◌, ◌<◌, ◌==◌, if◌then◌else◌, Bool, true, false, List, [], length, Option, Some, refl, sym, ◌∙◌, ap, arith}
use Rattle.ckc_base.specs.Activations.{Values}
use Rattle.ckc_asm_lines.specs.declared.lines.Line.{Line}
use Rattle.ckc_tac.specs.declared.code.Operand.{Operand}
use Rattle.ckc_tac.specs.declared.code.Operand.TheVariants as operand
use Rattle.ckc_tac.specs.Operations.{value_in}
use Rattle.ckc_tac.specs.WellFormed.{IsOperandOver}
use Rattle.ckc_frame.specs.declared.code.Place.{Place}
use Rattle.ckc_frame.specs.declared.code.PlacedFunc.{PlacedFunc}
use Rattle.ckc_frame.specs.Places.{number_of, registers_in}
use Rattle.ckc_frame.specs.WellFormed.{IsPlace, IsPlacedWhole}
use Rattle.ckc_emit.specs.declared.places.PlacedOperand.{PlacedOperand}
use Rattle.ckc_emit.specs.declared.places.PlacedOperand.TheVariants.{At, Number}
use Rattle.ckc_emit.specs.code.Operands.{IsOperand}
use Rattle.ckc_emit.specs.code.Lines.{constant_lines, register_with, operand_lines, take_lines}
use Rattle.ckc_emit.specs.code.CallLines.{place_at}
use Rattle.ckc_emit.specs.code.ProgramLines.{operand_at}
use Rattle.ckc_emit.proofs.Local.{Local}
use Rattle.ckc_emit.proofs.Paths.{Code, stay, loosened, Sets, sets_loosened}
use Rattle.ckc_emit.proofs.FrameWords.{constant_sets}
use Rattle.ckc_emit.proofs.Homes.{HasValue, HasPlaces, IsFramed, fetch_sets}
use Rattle.ckc_emit.proofs.PlaceAt.{home_is, place_is}
use Rattle.ckc_emit.proofs.Sources.{Reads, read_place, left_place, right_place}
use Rattle.ckc_emit.proofs.Tests.{eq_of}

-- the operand has the value in the machine
abbrev pub HasOperand : Local → PlacedOperand → ℕ → Type 0
HasOperand l (At p) v = HasValue l p v
HasOperand l (Number n) v = n ≡ v

-- the value of an operand, if places have values
abbrev pub operand_value : Values → PlacedOperand → Option ℕ
operand_value places (At p) = places (number_of p)
operand_value places (Number n) = Some n

pub operand_has : (l : Local) (places : Values) → HasPlaces l places → (o : PlacedOperand) (v : ℕ) → IsOperand o → operand_value places o ≡ Some v → HasOperand l o v
operand_has l places has (At p) v h e = has.has p v h e
operand_has l places has (Number n) v h e = cc

pub operand_word : (l : Local) (places : Values) → HasPlaces l places → (o : PlacedOperand) (v : ℕ) → IsOperand o → operand_value places o ≡ Some v → v < 2 ^ 32
operand_word l places has (At p) v h e = has.word p v h e
operand_word l places has (Number n) v h e = let same : n ≡ v = cc in omega (arith, h)

-- what keeps places keeps operands
pub operand_kept : (l m : Local) (o : PlacedOperand) (v : ℕ) → ((q : Place) (w : ℕ) → IsPlace q → HasValue l q w → HasValue m q w) → IsOperand o → HasOperand l o v → HasOperand m o v
operand_kept l m (At p) v keeps h e = keeps p v h e
operand_kept l m (Number n) v keeps h e = e

-- ---- operands of the code

pub operand_is : (f : PlacedFunc) (whole : IsPlacedWhole f) (o : Operand) → IsOperandOver f.code.regs o → IsOperand (operand_at f.homes o)
operand_is f whole (operand.Register r) h = place_is f.homes r (let homes = whole.homes in omega (arith, h)) whole.places
operand_is f whole (operand.Number n) h = h

-- the value of a register is at its place
pub place_value : (homes : List Place) (places : Values) (r v : ℕ) → r < length homes → registers_in homes places r ≡ Some v → places (number_of (place_at homes r)) ≡ Some v
unfolding registers_in
place_value homes places r v h e = ap places (sym (home_is homes r h)) ∙ e

pub operand_found : (f : PlacedFunc) (whole : IsPlacedWhole f) (places : Values) (o : Operand) (v : ℕ) → IsOperandOver f.code.regs o
    → value_in (registers_in f.homes places) o ≡ Some v → operand_value places (operand_at f.homes o) ≡ Some v
operand_found f whole places (operand.Register r) v h e = place_value f.homes places r v (let homes = whole.homes in omega (arith, h)) e
operand_found f whole places (operand.Number n) v h e = e

-- ---- reading

abbrev left_of : Bool → ℕ
left_of b = if b then 0 else 5

pub left_number : (b : Bool) → (left_of b < 32) × (left_of b ≢ 6) × (left_of b ≢ 7)
left_number true = (omega arith, omega arith, omega arith)
left_number false = (omega arith, omega arith, omega arith)

right_number : (b : Bool) → (if b then 0 else 6) < 32
right_number true = omega arith
right_number false = omega arith

-- the register of an operand that was read into x5, or is a home, or x0
pub left_register : (o : PlacedOperand) → IsOperand o → (register_with o 5 < 32) × (register_with o 5 ≢ 6) × (register_with o 5 ≢ 7)
left_register (At p) h = left_place p h
left_register (Number n) h = left_number (n == 0)

pub right_register : (o : PlacedOperand) → IsOperand o → register_with o 6 < 32
right_register (At p) h = right_place p h
right_register (Number n) h = right_number (n == 0)

module _ (c : Code) where
  number_reads : (b : Bool) (n scratch v : ℕ) (rest : List Line) (l : Local) → (n == 0) ≡ b → IsFramed l → n ≡ v → v < 2 ^ 32 → scratch ≢ 0 → scratch < 32
      → Reads c 0 3 (if b then rest else constant_lines scratch n rest) rest l scratch (if b then 0 else scratch) v
  number_reads true n scratch v rest l t f e fits nonzero low = record {
    next = l;
    path = loosened c 0 0 0 3 rest rest [] l l (omega arith) (omega arith) (stay c rest l);
    value = f.zero ∙ sym (eq_of n 0 t) ∙ e;
    other = λ q a b. refl;
    bytes = refl;
    words = refl;
    input = refl;
  }
  number_reads false n scratch v rest l t f e fits nonzero low =
      let s = constant_sets c scratch n rest l nonzero low (omega arith) f.zero in
      record {
        next = s.next;
        path = loosened c 1 2 0 3 (constant_lines scratch n rest) rest [] l s.next (omega arith) (omega arith) s.path;
        value = s.value ∙ e;
        other = s.other;
        bytes = s.bytes;
        words = s.words;
        input = s.input;
      }

  pub read_operand : (o : PlacedOperand) (scratch v : ℕ) (rest : List Line) (l : Local) → IsFramed l → IsOperand o → HasOperand l o v → v < 2 ^ 32 → scratch ≢ 0 → scratch < 32
      → Reads c 0 3 (operand_lines o scratch rest) rest l scratch (register_with o scratch) v
  read_operand (At p) scratch v rest l f h e fits nonzero low = read_place c p scratch v rest l f h e fits nonzero low
  read_operand (Number n) scratch v rest l f h e fits nonzero low = number_reads (n == 0) n scratch v rest l refl f e fits nonzero low

  -- any register gets the value of an operand
  pub take_sets : (rd : ℕ) (o : PlacedOperand) (v : ℕ) (rest : List Line) (l : Local) → IsFramed l → IsOperand o → HasOperand l o v → v < 2 ^ 32 → rd ≢ 0 → rd < 32
      → Sets c 1 3 (take_lines rd o rest) rest l rd v
  take_sets rd (At p) v rest l f h e fits nonzero low = fetch_sets c rd p v rest l f h e fits nonzero low
  take_sets rd (Number n) v rest l f h e fits nonzero low =
      let s = constant_sets c rd n rest l nonzero low (omega arith) f.zero in
      let t = sets_loosened c 1 2 1 3 (constant_lines rd n rest) rest l rd n (omega arith) (omega arith) s in
      record { next = t.next; path = t.path; value = t.value ∙ e; other = t.other; bytes = t.bytes; words = t.words; input = t.input }
