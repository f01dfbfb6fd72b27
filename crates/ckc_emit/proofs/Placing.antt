-- Assembled lines stand in the code where their labels say.
use Rattle.std.proofs.Common.{◌≡◌, ℕ, zero, suc, ◌+◌, ◌-◌, ◌*◌, ◌%◌, ◌^◌, ◌≤◌, ◌<◌, nat_lt, if◌then◌else◌, Bool, true, false, List, [], ◌∷◌, length, take, drop, get_or, Option, Some, None, option_and_then, refl, sym, ap, subst, ◌∙◌, arith}
use Rattle.std.specs.Prelude.{ℤ, sum_by}
use Rattle.std.specs.List.{slice_get, position_or_len}
use Rattle.std.specs.Int.{byte_at}
use Rattle.std.proofs.lemmas.List.{get_or-take, get_or-drop, take-take, drop-take, drop-drop}
use Rattle.std.proofs.lemmas.Int.{ints}
use Rattle.std.proofs.lemmas.Bool.Decides.{nat_tests}
use Rattle.ckc_rv.specs.declared.instructions.Instr.{Instr}
use Rattle.ckc_rv.specs.declared.instructions.Instr.TheVariants as instr
use Rattle.ckc_rv.specs.Effects.{moved}
use Rattle.ckc_rv.specs.code.Decoded.{decoded}
use Rattle.ckc_rv.specs.Machine.{Parts, flat, loaded, is_code, code_start}
use Rattle.ckc_rv.proofs.Rows.{decoded_law}
use Rattle.ckc_image.specs.Image.{word_bytes}
use Rattle.ckc_asm_lines.specs.declared.lines.Line.{Line}
use Rattle.ckc_asm_lines.specs.declared.lines.Line.TheVariants.{Label, Plain, Jump, Branch, Far}
use Rattle.ckc_asm_lines.specs.Assembled.{size_of, offset_of, address_of, StandsAt, StandsOnce, is_label, distance, IsWord, Assembled}
use Rattle.ckc_asm_lines.proofs.LabelPlaces.{address_is}
use Rattle.ckc_asm_lines.proofs.PlaceTable.{offset_more, offset_within, offset_all, fours}
use Rattle.ckc_emit.proofs.Words.{loaded_word}
use Rattle.ckc_emit.proofs.Steps.{At}
use Rattle.ckc_emit.proofs.Paths.{Code, LinesAt, FarAt, NearAt}
use Rattle.ckc_emit.proofs.Tests.{lt_of}

-- where the first such label stands
abbrev pub label_address : List Line → ℕ → ℕ
label_address lines label = address_of lines (position_or_len (is_label label) lines)

abbrev pub code_of : List Line → Parts → Code
code_of lines parts = record { parts = parts; label = label_address lines }

-- ---- words

whole_word : (v : ℕ) → v < 2 ^ 32 → byte_at 0 v + 256 * (byte_at 1 v + 256 * (byte_at 2 v + 256 * (byte_at 3 v + 256 * 0))) ≡ v
whole_word v h = omega arith

if_some : (b : Bool) (o : Option Instr) (i : Instr) → (if b then o else None) ≡ Some i → b ≡ true
if_some true o i e = refl
if_some false o i e = absurd cc

word_small : (word : ℕ) (i : Instr) → decoded word ≡ Some i → word < 2 ^ 32
unfolding decoded
word_small word i d = lt_of word (2 ^ 32) (if_some (nat_lt word (2 ^ 32)) _ i d)

module _ (parts : Parts) (fits : length parts.code ≤ 16773120) where
  code_byte : (offset : ℕ) → offset < length parts.code → flat parts (0x1000 + offset) ≡ Some (get_or parts.code offset 0)
  unfolding flat
  code_byte offset h =
      let e : 0x1000 + offset - code_start ≡ offset = omega arith in
      grind (arith, nat_tests)

  -- four bytes of the code that are those of a word
  fetched : (offset word : ℕ) → offset + 4 ≤ length parts.code → take 4 (drop offset parts.code) ≡ word_bytes word → word < 2 ^ 32 → loaded (flat parts) 4 (0x1000 + offset) ≡ Some word
  fetched offset word within e small =
      let byte : (j : ℕ) → j < 4 → get_or parts.code (offset + j) 0 ≡ get_or (word_bytes word) j 0 = λ j h.
      sym (get_or-drop offset parts.code j 0) ∙ sym (get_or-take 4 (drop offset parts.code) j 0 h) ∙ ap (λ (l : List ℕ). get_or l j 0) e in
      let p0 : offset + 0 ≡ offset = omega arith in
      let q1 : 0x1000 + offset + 1 ≡ 0x1000 + (offset + 1) = omega arith in
      let q2 : 0x1000 + offset + 2 ≡ 0x1000 + (offset + 2) = omega arith in
      let q3 : 0x1000 + offset + 3 ≡ 0x1000 + (offset + 3) = omega arith in
      loaded_word (flat parts) (0x1000 + offset) (byte_at 0 word) (byte_at 1 word) (byte_at 2 word) (byte_at 3 word)
      (code_byte offset (omega arith) ∙ ap Some (ap (λ n. get_or parts.code n 0) (sym p0) ∙ byte 0 (omega arith)))
      (ap (flat parts) q1 ∙ code_byte (offset + 1) (omega arith) ∙ ap Some (byte 1 (omega arith)))
      (ap (flat parts) q2 ∙ code_byte (offset + 2) (omega arith) ∙ ap Some (byte 2 (omega arith)))
      (ap (flat parts) q3 ∙ code_byte (offset + 3) (omega arith) ∙ ap Some (byte 3 (omega arith)))
      ∙ ap Some (whole_word word small)

  in_code : (offset : ℕ) → offset + 4 ≤ length parts.code → is_code parts (0x1000 + offset) ≡ true
  in_code offset h = grind (arith, nat_tests)

  -- an instruction whose bytes stand in the code
  pub stands_at : (offset : ℕ) (i : Instr) → offset + 4 ≤ length parts.code → offset % 4 ≡ 0 → IsWord i (take 4 (drop offset parts.code)) → At parts (0x1000 + offset) i
  stands_at offset i within multiple w =
      let d = (decoded_law w.0 i).1 w.2 in
      record {
        fetches = in_code offset within;
        decodes = ap (option_and_then decoded) (fetched offset w.0 within w.1 (word_small w.0 i d)) ∙ d;
        low = omega arith;
        aligned = omega arith;
      }

-- ---- all lines

drop_nothing : (k : ℕ) → drop k (let none : List Line = [] in none) ≡ []
drop_nothing zero = refl
drop_nothing (suc k) = refl

drop_get : (lines : List Line) (k : ℕ) (x : Line) (more : List Line) → drop k lines ≡ x ∷ more → (slice_get lines k ≡ Some x) × (drop (suc k) lines ≡ more)
drop_get [] k x more e = absurd (let f : ◌≡◌ {A = List Line} [] (x ∷ more) = sym (drop_nothing k) ∙ e in cc)
drop_get (y ∷ ys) zero x more e = (ap Some (let f : y ≡ x = cc in f), let f : ys ≡ more = cc in f)
drop_get (y ∷ ys) (suc k) x more e =
    let r = drop_get ys k x more e in
    (r.0, r.1)

module _ (lines : List Line) (start : ℕ) (given : List ℕ) (parts : Parts) (built : Assembled lines start given parts.entry parts.code parts.initial)
    (small : sum_by size_of lines ≤ 16773120) (once : (k label : ℕ) → slice_get lines k ≡ Some (Label label) → StandsOnce lines label) where
  abbrev c : Code
  c = code_of lines parts

  code_small : length parts.code ≤ 16773120
  code_small = subst (λ n. n ≤ 16773120) (sym built.whole) small

  -- a label stands where the code has it
  pub label_is : (label address : ℕ) → StandsAt lines label address → label_address lines label ≡ address
  label_is label address at = sym (address_is label lines address (once at.0 label at.1) at)

  multiple : (k : ℕ) → offset_of lines k % 4 ≡ 0
  multiple k = fours (take k lines)

  within : (k : ℕ) (line : Line) → slice_get lines k ≡ Some line → offset_of lines k + size_of line ≤ length parts.code
  within k line e = subst (λ n. offset_of lines k + size_of line ≤ n) (sym built.whole) (offset_within lines k line e)

  next_is : (k : ℕ) (line : Line) → slice_get lines k ≡ Some line → address_of lines (suc k) ≡ address_of lines k + size_of line
  next_is k line e =
      let one : suc k ≡ k + 1 = omega arith in
      let more = offset_more lines k line e in
      ap (address_of lines) one ∙ ap (λ n. 0x1000 + n) more ∙ (let r : 0x1000 + (offset_of lines k + size_of line) ≡ 0x1000 + offset_of lines k + size_of line = omega arith in r)

  far_at : (k rd label : ℕ) → slice_get lines k ≡ Some (Far rd label) → FarAt c (address_of lines k) rd label
  far_at k rd label here =
      let w = built.each k (Far rd label) here in
      let f = w.2 in
      let o = offset_of lines k in
      let fit = within k (Far rd label) here in
      let stands = label_is label w.0 w.1 in
      let first : IsWord (instr.Auipc 26 f.upper) (take 4 (drop o parts.code)) = subst (IsWord (instr.Auipc 26 f.upper)) (take-take 4 8 (drop o parts.code) (omega arith)) f.first in
      let tail : drop 4 (take 8 (drop o parts.code)) ≡ take 4 (drop (o + 4) parts.code) = drop-take 4 4 (drop o parts.code) ∙ ap (take 4) (drop-drop 4 o parts.code) in
      let second : IsWord (instr.Jalr rd 26 f.lower) (take 4 (drop (o + 4) parts.code)) = subst (IsWord (instr.Jalr rd 26 f.lower)) tail f.second in
      let m = multiple k in
      let place : 0x1000 + (o + 4) ≡ 0x1000 + o + 4 = omega arith in
      record {
        upper = f.upper;
        lower = f.lower;
        first = stands_at parts code_small o (instr.Auipc 26 f.upper) (omega arith) m first;
        second = subst (λ q. At parts q (instr.Jalr rd 26 f.lower)) place (stands_at parts code_small (o + 4) (instr.Jalr rd 26 f.lower) (omega arith) (omega arith) second);
        leads = f.leads ∙ sym stands;
        aligned = (let p : label_address lines label % 4 ≡ 0 = (let m2 = multiple (position_or_len (is_label label) lines) in omega arith) in p);
      }

  distance_leads : (address target : ℕ) → address < 2 ^ 25 → target < 2 ^ 25 → moved address (distance address target) ≡ target
  distance_leads address target h i = omega (arith, ints)

  -- an instruction with the distance of a label leads to it
  near_at : (k label target : ℕ) (i : ℤ → Instr) → offset_of lines k + 4 ≤ length parts.code → StandsAt lines label target
      → IsWord (i (distance (address_of lines k) target)) (take 4 (drop (offset_of lines k) parts.code)) → NearAt c (address_of lines k) i label
  near_at k label target i fit at word =
      let low : target < 2 ^ 25 = omega (arith, offset_all lines at.0, at.2, small) in
      let m = multiple (position_or_len (is_label label) lines) in
      record {
        offset = distance (address_of lines k) target;
        here = stands_at parts code_small (offset_of lines k) (i (distance (address_of lines k) target)) fit (multiple k) word;
        leads = distance_leads (address_of lines k) target (omega (arith, fit, code_small)) low ∙ sym (label_is label target at);
        aligned = (let p : label_address lines label % 4 ≡ 0 = omega arith in p);
      }

  -- the lines from one on stand at its address
  lines_from : (rest : List Line) (k : ℕ) → drop k lines ≡ rest → LinesAt c (address_of lines k) rest
  lines_from [] k e = tt
  lines_from (Label label ∷ more) k e =
      let r = drop_get lines k (Label label) more e in
      let on : address_of lines (suc k) ≡ address_of lines k = next_is k (Label label) r.0 ∙ (let z : address_of lines k + 0 ≡ address_of lines k = omega arith in z) in
      (label_is label (address_of lines k) (k, r.0, refl), subst (λ q. LinesAt c q more) on (lines_from more (suc k) r.1))
  lines_from (Plain i ∷ more) k e =
      let r = drop_get lines k (Plain i) more e in
      (stands_at parts code_small (offset_of lines k) i (within k (Plain i) r.0) (multiple k) (built.each k (Plain i) r.0), subst (λ q. LinesAt c q more) (next_is k (Plain i) r.0) (lines_from more (suc k) r.1))
  lines_from (Jump rd label ∷ more) k e =
      let r = drop_get lines k (Jump rd label) more e in
      let w = built.each k (Jump rd label) r.0 in
      (near_at k label w.0 (λ z. instr.Jal rd z) (within k (Jump rd label) r.0) w.1 w.2, subst (λ q. LinesAt c q more) (next_is k (Jump rd label) r.0) (lines_from more (suc k) r.1))
  lines_from (Branch op rs1 rs2 label ∷ more) k e =
      let r = drop_get lines k (Branch op rs1 rs2 label) more e in
      let w = built.each k (Branch op rs1 rs2 label) r.0 in
      (near_at k label w.0 (λ z. instr.Branch op rs1 rs2 z) (within k (Branch op rs1 rs2 label) r.0) w.1 w.2, subst (λ q. LinesAt c q more) (next_is k (Branch op rs1 rs2 label) r.0) (lines_from more (suc k) r.1))
  lines_from (Far rd label ∷ more) k e =
      let r = drop_get lines k (Far rd label) more e in
      (far_at k rd label r.0, subst (λ q. LinesAt c q more) (next_is k (Far rd label) r.0) (lines_from more (suc k) r.1))

  -- all lines stand from the start of the code on
  pub all_stand : LinesAt c 0x1000 lines
  all_stand = lines_from lines 0 refl
