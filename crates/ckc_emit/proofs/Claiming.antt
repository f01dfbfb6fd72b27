-- An Alloc: the machine claims room on the heap, or gives 0.
use Rattle.std.proofs.Common.{◌≡◌, ◌≢◌, inl, inr, ℕ, ◌+◌, ◌-◌, ◌*◌, ◌%◌, ◌^◌, ◌≤◌, ◌<◌, nat_lt, not, ◌&&◌, Bool, true, false, List, [], ◌∷◌, Some, refl, sym, ap, subst, ◌∙◌, arith}
use Rattle.std.specs.Prelude.{ℤ, pos, nat_le}
use Rattle.std.proofs.lemmas.Bool.{cases_lt}
use Rattle.std.proofs.lemmas.Bool.Decides.{nat_tests}
use Rattle.ckc_base.specs.declared.arithmetic.Width.TheVariants.{Word}
use Rattle.ckc_base.specs.Words.{word_of}
use Rattle.ckc_base.specs.LongEvents.{Stored}
use Rattle.ckc_base.specs.Actions.{World}
use Rattle.ckc_base.specs.Activations.{Values, with_written}
use Rattle.ckc_base.specs.Memory as base
use Rattle.ckc_base.specs.Memory.{data_start, data_end, heap_has_room, next_place}
use Rattle.ckc_base.proofs.Travelling.{one_travel}
use Rattle.ckc_rv_operations.specs.declared.operations.BranchOp.{BranchOp}
use Rattle.ckc_rv_operations.specs.declared.operations.BranchOp.TheVariants.{Bge, Bltu}
use Rattle.ckc_rv_operations.specs.declared.operations.ImmOp.{ImmOp}
use Rattle.ckc_rv_operations.specs.declared.operations.ImmOp.TheVariants.{Addi, Srli, Slli}
use Rattle.ckc_rv_operations.specs.declared.operations.RegOp.TheVariants.{Add, Sub, Mul, Divu, Srl}
use Rattle.ckc_rv_operations.specs.declared.operations.LoadOp.TheVariants.{Lw}
use Rattle.ckc_rv_operations.specs.declared.operations.StoreOp.TheVariants.{Sw}
use Rattle.ckc_rv.specs.declared.instructions.Instr.TheVariants.{Lui, Branch, Load, Store, Imm, Reg}
use Rattle.ckc_rv.specs.Effects.{moved, is_taken, reg_value, reg_form}
use Rattle.ckc_rv.specs.Detailed.{Wrote, detailed_system}
use Rattle.ckc_asm_lines.specs.declared.lines.Line.{Line}
use Rattle.ckc_asm_lines.specs.declared.lines.Line.TheVariants.{Plain}
use Rattle.ckc_frame.specs.declared.code.Place.{Place}
use Rattle.ckc_frame.specs.Places.{number_of}
use Rattle.ckc_frame.specs.WellFormed.{IsPlace}
use Rattle.ckc_emit.specs.declared.places.PlacedOperand.{PlacedOperand}
use Rattle.ckc_emit.specs.code.Operands.{IsOperand}
use Rattle.ckc_emit.proofs.Operands.{operand_value, operand_has, operand_word, take_sets}
use Rattle.ckc_emit.specs.code.Lines.{take_lines, settle_lines, constant_lines, claim_lines, alloc_lines}
use Rattle.ckc_emit.proofs.Local.{Local, state_of}
use Rattle.ckc_emit.proofs.Words.{bytes_put}
use Rattle.ckc_emit.proofs.Steps.{imm_step, branch_taken, branch_passed}
use Rattle.ckc_emit.proofs.Paths.{Code, LinesAt, Path, straight, followed, loosened, Sets, set_by}
use Rattle.ckc_emit.proofs.FrameWords.{sets_value, constant_sets, move_sets, lui_sets}
use Rattle.ckc_emit.proofs.Homes.{HasPlaces, IsFramed, framed_kept, settle_writes, keeps_same}
use Rattle.ckc_emit.proofs.Acting.{plain_sets}
use Rattle.ckc_emit.proofs.Acts.{data_sets, store_path, same_values}
use Rattle.ckc_emit.proofs.Asking.{IsSoft, free_below, ten_free, soft_then, sets_soft, before_does, places_soft}
use Rattle.ckc_emit.proofs.Allocating.{not_positive, rounded, fits_by_quotient}
use Rattle.ckc_emit.proofs.Regions.{region, value_word, put_small, data_store as data_put}
use Rattle.ckc_emit.proofs.Relation.{AreBytes, HasWorld, Does, world_kept, write_does, does_loosened}
use Rattle.ckc_emit.proofs.Tests.{lt_is, lt_not, le_not, le_of, not_true, not_false, small_part}

-- ---- when there is room

room_by : (a b d : Bool) → (a && b) ≡ true → (a && b && d) ≡ d
room_by true true d e = refl
room_by true false d e = absurd (let z : false ≡ true = e in cc)
room_by false b d e = absurd (let z : false ≡ true = e in cc)

no_room_by : (a b d : Bool) → (a && b) ≡ false → (a && b && d) ≡ false
no_room_by true true d e = absurd (let z : true ≡ false = e in cc)
no_room_by true false d e = refl
no_room_by false b d e = refl

-- the first test: the count is not positive
pub refused_count : (h n size : ℕ) → n < 2 ^ 32 → is_taken Bge 0 n ≡ true → heap_has_room h n size ≡ false
refused_count h n size fits e =
    no_room_by (nat_lt 0 n) (nat_lt n (2 ^ 31)) (nat_le (h + n * size) data_end) (not_true (nat_lt 0 n && nat_lt n (2 ^ 31)) (sym (not_positive n fits) ∙ e))

positive : (n : ℕ) → n < 2 ^ 32 → is_taken Bge 0 n ≡ false → (nat_lt 0 n && nat_lt n (2 ^ 31)) ≡ true
positive n fits e = not_false (nat_lt 0 n && nat_lt n (2 ^ 31)) (sym (not_positive n fits) ∙ e)

positive_small : (n : ℕ) → (nat_lt 0 n && nat_lt n (2 ^ 31)) ≡ true → n < 2 ^ 31
positive_small n e = grind (arith, nat_tests)

le_moved : (h room x end : ℕ) → h + room ≡ end → nat_le (h + x) end ≡ nat_le x room
le_moved h room x end e = grind (arith, nat_tests)

last_false : (a b d : Bool) → d ≡ false → (a && b && d) ≡ false
last_false true true d e = e
last_false true false d e = refl
last_false false b d e = refl

-- the second: the heap is past the end
pub refused_past : (h n size : ℕ) → data_end < h → heap_has_room h n size ≡ false
refused_past h n size k = last_false (nat_lt 0 n) (nat_lt n (2 ^ 31)) (nat_le (h + n * size) data_end) (le_not (h + n * size) data_end (omega arith))

-- the third: the quotient of the room is too small
pub room_by_quotient : (h n size room : ℕ) → n < 2 ^ 32 → is_taken Bge 0 n ≡ false → h + room ≡ data_end
    → nat_lt (reg_value Divu room size) n ≡ not (heap_has_room h n size)
room_by_quotient h n size room fits e k =
    let p = positive n fits e in
    fits_by_quotient room n size (omega arith) (positive_small n p)
    ∙ ap not (sym (le_moved h room (n * size) data_end k) ∙ sym (room_by (nat_lt 0 n) (nat_lt n (2 ^ 31)) (nat_le (h + n * size) data_end) p))

-- what there is room for ends within the region
last_true : (a b d : Bool) → (a && b && d) ≡ true → d ≡ true
last_true true true d e = e
last_true true false d e = absurd (let z : false ≡ true = e in cc)
last_true false b d e = absurd (let z : false ≡ true = e in cc)

pub fits_whole : (h n size : ℕ) → heap_has_room h n size ≡ true → h + n * size ≤ data_end
fits_whole h n size e = le_of (h + n * size) data_end (last_true (nat_lt 0 n) (nat_lt n (2 ^ 31)) (nat_le (h + n * size) data_end) e)

-- ---- single instructions

module _ (c : Code) where
  imm_is : (o : ImmOp) (rd rs : ℕ) (z : ℤ) (x v : ℕ) (rest : List Line) (l : Local) → rd ≢ 0 → rd < 32 → rs < 32 → l.x rs ≡ x → reg_value (reg_form o) x (word_of z) ≡ v
      → Sets c 1 1 (Plain (Imm o rd rs z) ∷ rest) rest l rd v
  imm_is o rd rs z x v rest l nonzero h i e g =
      sets_value c 1 1 (Plain (Imm o rd rs z) ∷ rest) rest l rd (reg_value (reg_form o) (l.x rs) (word_of z)) v (ap (λ w. reg_value (reg_form o) w (word_of z)) e ∙ g)
      (set_by c (Imm o rd rs z) rest l rd (reg_value (reg_form o) (l.x rs) (word_of z)) nonzero (λ pc at. imm_step c.parts l pc o rd rs z at h i))

  over_is : (pc d : ℕ) → pc + 4 ≤ data_start → d ≤ 48 → moved pc (pos d) ≡ pc + d
  over_is pc d h k = omega arith

  -- a branch is taken over so many bytes
  taken_over : (op : BranchOp) (rs1 rs2 d : ℕ) (more ys : List Line) (l : Local) → rs1 < 32 → rs2 < 32 → d ≤ 48 → d % 4 ≡ 0 → is_taken op (l.x rs1) (l.x rs2) ≡ true
      → ((pc : ℕ) → LinesAt c (pc + 4) more → LinesAt c (pc + d) ys) → Path c 1 1 (Plain (Branch op rs1 rs2 (pos d)) ∷ more) ys [] l l
  taken_over op rs1 rs2 d more ys l h i few multiple e skips = record {
    leads = λ pc at.
        let low = at.0.low in
        let aligned = at.0.aligned in
        record {
          to = pc + d;
          there = skips pc at.1;
          count = 1;
          many = omega arith;
          few = omega arith;
          travels = one_travel (detailed_system c.parts) [] (state_of c.parts l pc) (state_of c.parts l (pc + d))
              (branch_taken c.parts l pc op rs1 rs2 (pos d) (pc + d) at.0 h i e (over_is pc d low few) (omega arith));
        };
  }

  passed_on : (op : BranchOp) (rs1 rs2 d : ℕ) (more : List Line) (l : Local) → rs1 < 32 → rs2 < 32 → is_taken op (l.x rs1) (l.x rs2) ≡ false
      → Path c 1 1 (Plain (Branch op rs1 rs2 (pos d)) ∷ more) more [] l l
  passed_on op rs1 rs2 d more l h i e = straight c (Branch op rs1 rs2 (pos d)) more [] l l (λ pc at. branch_passed c.parts l pc op rs1 rs2 (pos d) at h i e)

  -- ---- from the start to the tests

  -- what the registers hold where the tests begin
  record IsReady (l : Local) (n size h limit : ℕ) : Type 0 where
    zero_is : l.x 0 ≡ 0
    count_is : l.x 5 ≡ n
    size_is : l.x 6 ≡ size
    word_is : l.x 3 ≡ data_start
    none_is : l.x 10 ≡ 0
    place_is : l.x 4 ≡ h
    limit_is : l.x 1 ≡ limit

  -- a path that changes scratch registers alone
  record Softly (most : ℕ) (xs ys : List Line) (l : Local) (n size h limit : ℕ) : Type 0 where
    next : Local
    path : Path c 0 most xs ys [] l next
    soft : IsSoft l next
    bytes : next.bytes ≡ l.bytes
    input : next.input ≡ l.input
    ready : IsReady next n size h limit

  module _ (l : Local) (places : Values) (world : World) (framed : IsFramed l) (has : HasPlaces l places) (whole : HasWorld l world) where
    readied : (a : PlacedOperand) (n size h : ℕ) (ys : List Line) → IsOperand a → operand_value places a ≡ Some n → size < 2 ^ 32 → base.value_at Word world.memory data_start ≡ Some h
        → Softly 9 (take_lines 5 a (constant_lines 6 size (Plain (Lui 3 0x2000) ∷ Plain (Load Lw 4 3 (pos 0)) ∷ Plain (Lui 1 0x3000) ∷ Plain (Imm Addi 10 0 (pos 0)) ∷ ys))) ys l n size h data_end
    readied a n size h ys ha ea fits there =
        let y6 = Plain (Imm Addi 10 0 (pos 0)) ∷ ys in
        let y5 = Plain (Lui 1 0x3000) ∷ y6 in
        let y4 = Plain (Load Lw 4 3 (pos 0)) ∷ y5 in
        let y3 = Plain (Lui 3 0x2000) ∷ y4 in
        let y2 = constant_lines 6 size y3 in
        let y1 = take_lines 5 a y2 in
        let s1 = take_sets c 5 a n y2 l framed ha (operand_has l places has a n ha ea) (operand_word l places has a n ha ea) (omega arith) (omega arith) in
        let f1 = sets_soft c 1 3 y1 y2 l 5 n (free_below 5 (omega arith) (omega arith) (omega arith)) s1 in
        let s2 = constant_sets c 6 size y3 s1.next (omega arith) (omega arith) fits (f1.keeps.zero ∙ framed.zero) in
        let f2 = soft_then l s1.next s2.next f1 (sets_soft c 1 2 y2 y3 s1.next 6 size (free_below 6 (omega arith) (omega arith) (omega arith)) s2) in
        let s3 = lui_sets c 3 0x2000 y4 s2.next (omega arith) (omega arith) in
        let f3 = soft_then l s2.next s3.next f2 (sets_soft c 1 1 y3 y4 s2.next 3 (0x2000 * 2 ^ 12) (free_below 3 (omega arith) (omega arith) (omega arith)) s3) in
        let b3 : s3.next.bytes ≡ l.bytes = s3.bytes ∙ s2.bytes ∙ s1.bytes in
        let here : base.value_at Word (region s3.next.bytes) data_start ≡ Some h = ap (λ (m : base.Memory). base.value_at Word m data_start) (ap region b3 ∙ sym whole.memory) ∙ there in
        let s4 = data_sets c l places world framed has whole Word 4 3 data_start (pos 0) data_start h y5 s3.next (omega arith) (omega arith) (omega arith) s3.value (omega arith) here in
        let f4 = soft_then l s3.next s4.next f3 (sets_soft c 1 1 y4 y5 s3.next 4 h (free_below 4 (omega arith) (omega arith) (omega arith)) s4) in
        let s5 = lui_sets c 1 0x3000 y6 s4.next (omega arith) (omega arith) in
        let f5 = soft_then l s4.next s5.next f4 (sets_soft c 1 1 y5 y6 s4.next 1 (0x3000 * 2 ^ 12) (free_below 1 (omega arith) (omega arith) (omega arith)) s5) in
        let s6 = move_sets c 10 0 0 ys s5.next (omega arith) (omega arith) (omega arith) (f5.keeps.zero ∙ framed.zero) (omega arith) in
        let f6 = soft_then l s5.next s6.next f5 (sets_soft c 1 1 y6 ys s5.next 10 0 ten_free s6) in
        record {
          next = s6.next;
          path = loosened c (1 + (1 + (1 + (1 + (1 + 1))))) (3 + (2 + (1 + (1 + (1 + 1))))) 0 9 y1 ys [] l s6.next (omega arith) (omega arith)
              (followed c 1 3 (1 + (1 + (1 + (1 + 1)))) (2 + (1 + (1 + (1 + 1)))) y1 y2 ys [] [] l s1.next s6.next s1.path
              (followed c 1 2 (1 + (1 + (1 + 1))) (1 + (1 + (1 + 1))) y2 y3 ys [] [] s1.next s2.next s6.next s2.path
              (followed c 1 1 (1 + (1 + 1)) (1 + (1 + 1)) y3 y4 ys [] [] s2.next s3.next s6.next s3.path
              (followed c 1 1 (1 + 1) (1 + 1) y4 y5 ys [] [] s3.next s4.next s6.next s4.path
              (followed c 1 1 1 1 y5 y6 ys [] [] s4.next s5.next s6.next s5.path s6.path)))));
          soft = f6;
          bytes = s6.bytes ∙ s5.bytes ∙ s4.bytes ∙ b3;
          input = s6.input ∙ s5.input ∙ s4.input ∙ s3.input ∙ s2.input ∙ s1.input;
          ready = record {
            zero_is = f6.keeps.zero ∙ framed.zero;
            count_is = s6.other 5 (omega arith) (omega arith) ∙ s5.other 5 (omega arith) (omega arith) ∙ s4.other 5 (omega arith) (omega arith) ∙ s3.other 5 (omega arith) (omega arith) ∙ s2.other 5 (omega arith) (omega arith) ∙ s1.value;
            size_is = s6.other 6 (omega arith) (omega arith) ∙ s5.other 6 (omega arith) (omega arith) ∙ s4.other 6 (omega arith) (omega arith) ∙ s3.other 6 (omega arith) (omega arith) ∙ s2.value;
            word_is = s6.other 3 (omega arith) (omega arith) ∙ s5.other 3 (omega arith) (omega arith) ∙ s4.other 3 (omega arith) (omega arith) ∙ s3.value;
            none_is = s6.value;
            place_is = s6.other 4 (omega arith) (omega arith) ∙ s5.other 4 (omega arith) (omega arith) ∙ s4.value;
            limit_is = s6.other 1 (omega arith) (omega arith) ∙ s5.value;
          };
        }

  -- ---- the tests

  record Tested (xs ys : List Line) (l : Local) (n size h : ℕ) : Type 0 where
    next : Local
    path : Path c 0 7 xs ys [] l next
    soft : IsSoft l next
    bytes : next.bytes ≡ l.bytes
    input : next.input ≡ l.input
    five : next.x 5 ≡ n
    six : next.x 6 ≡ size
    three : next.x 3 ≡ data_start
    ten : next.x 10 ≡ 0
    four : next.x 4 ≡ h

  soft_same : (l : Local) → IsSoft l l
  soft_same l = record { keeps = keeps_same l; has = λ q w h e. e }

  module _ (z : List Line) where
    abbrev claims : List Line
    claims = claim_lines z

    abbrev third : List Line
    third = Plain (Branch Bltu 1 5 (pos 32)) ∷ claims

    abbrev divides : List Line
    divides = Plain (Reg Sub 1 1 4) ∷ Plain (Reg Divu 1 1 6) ∷ third

    abbrev second : List Line
    second = Plain (Branch Bltu 1 4 (pos 44)) ∷ divides

    abbrev first : List Line
    first = Plain (Branch Bge 0 5 (pos 48)) ∷ second

    skip_first : (pc : ℕ) → LinesAt c (pc + 4) second → LinesAt c (pc + 48) z
    skip_first pc at = subst (λ q. LinesAt c q z) (let e : pc + 4 + 4 + 4 + 4 + 4 + 4 + 4 + 4 + 4 + 4 + 4 + 4 ≡ pc + 48 = omega arith in e) at.1.1.1.1.1.1.1.1.1.1.1

    skip_second : (pc : ℕ) → LinesAt c (pc + 4) divides → LinesAt c (pc + 44) z
    skip_second pc at = subst (λ q. LinesAt c q z) (let e : pc + 4 + 4 + 4 + 4 + 4 + 4 + 4 + 4 + 4 + 4 + 4 ≡ pc + 44 = omega arith in e) at.1.1.1.1.1.1.1.1.1.1

    skip_third : (pc : ℕ) → LinesAt c (pc + 4) claims → LinesAt c (pc + 32) z
    skip_third pc at = subst (λ q. LinesAt c q z) (let e : pc + 4 + 4 + 4 + 4 + 4 + 4 + 4 + 4 ≡ pc + 32 = omega arith in e) at.1.1.1.1.1.1.1

    module _ (l : Local) (n size h : ℕ) (r : IsReady l n size h data_end) where
      still : (a b : ℕ) (ys : List Line) → b ≤ 7 → Path c a b first ys [] l l → Tested first ys l n size h
      still a b ys few p = record {
        next = l;
        path = loosened c a b 0 7 first ys [] l l (omega arith) few p;
        soft = soft_same l;
        bytes = refl;
        input = refl;
        five = r.count_is;
        six = r.size_is;
        three = r.word_is;
        ten = r.none_is;
        four = r.place_is;
      }

      first_test : (b : Bool) → is_taken Bge 0 n ≡ b → is_taken Bge (l.x 0) (l.x 5) ≡ b
      first_test b e = ap (λ v. is_taken Bge v (l.x 5)) r.zero_is ∙ ap (is_taken Bge 0) r.count_is ∙ e

      second_test : (b : Bool) → nat_lt data_end h ≡ b → is_taken Bltu (l.x 1) (l.x 4) ≡ b
      second_test b e = ap (λ v. nat_lt v (l.x 4)) r.limit_is ∙ ap (nat_lt data_end) r.place_is ∙ e

      past_first : is_taken Bge 0 n ≡ false → Path c 1 1 first second [] l l
      past_first e = passed_on Bge 0 5 48 second l (omega arith) (omega arith) (first_test false e)

      past_second : is_taken Bge 0 n ≡ false → h ≤ data_end → Path c 2 2 first divides [] l l
      past_second e k =
          followed c 1 1 1 1 first second divides [] [] l l l (past_first e)
          (passed_on Bltu 1 4 44 divides l (omega arith) (omega arith) (second_test false (lt_not data_end h k)))

      -- the quotient is computed, and the third test leads to ys
      divided_then : (room : ℕ) (ys : List Line) → is_taken Bge 0 n ≡ false → h + room ≡ data_end → n < 2 ^ 32
          → ((m : Local) → is_taken Bltu (m.x 1) (m.x 5) ≡ not (heap_has_room h n size) → Path c 1 1 third ys [] m m) → Tested first ys l n size h
      divided_then room ys e k fits on =
          let y4 = Plain (Reg Divu 1 1 6) ∷ third in
          let q = reg_value Divu room size in
          let front = past_second e (omega arith) in
          let s = plain_sets c Sub room 1 1 4 data_end h y4 l (omega arith) (omega arith) (omega arith) (omega arith) r.limit_is r.place_is (omega arith) in
          let t = plain_sets c Divu q 1 1 6 room size third s.next (omega arith) (omega arith) (omega arith) (omega arith) s.value (s.other 6 (omega arith) (omega arith) ∙ r.size_is) refl in
          let m = t.next in
          let kept : (i : ℕ) → i ≢ 1 → i ≢ 7 → m.x i ≡ l.x i = λ i a b. t.other i a b ∙ s.other i a b in
          let five : m.x 5 ≡ n = kept 5 (omega arith) (omega arith) ∙ r.count_is in
          let test : is_taken Bltu (m.x 1) (m.x 5) ≡ not (heap_has_room h n size) = ap (λ v. nat_lt v (m.x 5)) t.value ∙ ap (nat_lt q) five ∙ room_by_quotient h n size room fits e k in
          record {
            next = m;
            path = loosened c (2 + (1 + (1 + 1))) (2 + (2 + (2 + 1))) 0 7 first ys [] l m (omega arith) (omega arith)
                (followed c 2 2 (1 + (1 + 1)) (2 + (2 + 1)) first divides ys [] [] l l m front
                (followed c 1 2 (1 + 1) (2 + 1) divides y4 ys [] [] l s.next m s.path
                (followed c 1 2 1 1 y4 third ys [] [] s.next m m t.path (on m test))));
            soft = soft_then l s.next m (sets_soft c 1 2 divides y4 l 1 room (free_below 1 (omega arith) (omega arith) (omega arith)) s)
                (sets_soft c 1 2 y4 third s.next 1 q (free_below 1 (omega arith) (omega arith) (omega arith)) t);
            bytes = t.bytes ∙ s.bytes;
            input = t.input ∙ s.input;
            five = five;
            six = kept 6 (omega arith) (omega arith) ∙ r.size_is;
            three = kept 3 (omega arith) (omega arith) ∙ r.word_is;
            ten = kept 10 (omega arith) (omega arith) ∙ r.none_is;
            four = kept 4 (omega arith) (omega arith) ∙ r.place_is;
          }

      below : h ≤ data_end → (room : ℕ) × (h + room ≡ data_end)
      below k = (data_end - h, omega arith)

      -- there is no room: one of the branches leads to the end
      refuses : (b : Bool) → is_taken Bge 0 n ≡ b → n < 2 ^ 32 → heap_has_room h n size ≡ false → Tested first z l n size h
      refuses true e fits none =
          still 1 1 z (omega arith) (taken_over Bge 0 5 48 second z l (omega arith) (omega arith) (omega arith) (omega arith) (first_test true e) skip_first)
      refuses false e fits none = elim (cases_lt data_end h) as (λ _. Tested first z l n size h) [
        | inl past ↦
            still 2 2 z (omega arith)
            (followed c 1 1 1 1 first second z [] [] l l l (past_first e)
            (taken_over Bltu 1 4 44 divides z l (omega arith) (omega arith) (omega arith) (omega arith) (second_test true (lt_is data_end h past)) skip_second))
        | inr within ↦
            let room = below within in
            divided_then room.0 z e room.1 fits (λ m test.
            taken_over Bltu 1 5 32 claims z m (omega arith) (omega arith) (omega arith) (omega arith) (test ∙ ap not none) skip_third)
      ]

      -- there is room: no branch is taken
      admits : (b : Bool) → is_taken Bge 0 n ≡ b → n < 2 ^ 32 → heap_has_room h n size ≡ true → Tested first claims l n size h
      admits true e fits some = absurd (let wrong : false ≡ true = sym (refused_count h n size fits e) ∙ some in cc)
      admits false e fits some = elim (cases_lt data_end h) as (λ _. Tested first claims l n size h) [
        | inl past ↦ absurd (let wrong : false ≡ true = sym (refused_past h n size past) ∙ some in cc)
        | inr within ↦
            let room = below within in
            divided_then room.0 claims e room.1 fits (λ m test.
            passed_on Bltu 1 5 32 claims m (omega arith) (omega arith) (test ∙ ap not some))
      ]

  -- ---- the block is claimed

  record Claimed (xs ys : List Line) (l : Local) (h next_block : ℕ) : Type 0 where
    next : Local
    path : Path c 0 9 xs (Plain (Store Sw 3 5 (pos 0)) ∷ ys) [] l next
    soft : IsSoft l next
    bytes : next.bytes ≡ l.bytes
    input : next.input ≡ l.input
    five : next.x 5 ≡ next_block
    three : next.x 3 ≡ data_start
    ten : next.x 10 ≡ h

  claims_it : (z : List Line) (l : Local) (n size h : ℕ) → h + n * size ≤ data_end → l.x 5 ≡ n → l.x 6 ≡ size → l.x 3 ≡ data_start → l.x 4 ≡ h → Claimed (claim_lines z) z l h (next_place h n size)
  claims_it z l n size h fits five six three four =
      let u7 = Plain (Store Sw 3 5 (pos 0)) ∷ z in
      let u6 = Plain (Imm Slli 5 5 (pos 3)) ∷ u7 in
      let u5 = Plain (Imm Srli 5 5 (pos 3)) ∷ u6 in
      let u4 = Plain (Imm Addi 5 5 (pos 15)) ∷ u5 in
      let u3 = Plain (Reg Add 5 5 4) ∷ u4 in
      let u2 = Plain (Reg Mul 5 5 6) ∷ u3 in
      let u1 = Plain (Imm Addi 10 4 (pos 0)) ∷ u2 in
      let all = n * size in
      let end = h + all in
      let s1 = move_sets c 10 4 h u2 l (omega arith) (omega arith) (omega arith) four (omega arith) in
      let s2 = plain_sets c Mul all 5 5 6 n size u3 s1.next (omega arith) (omega arith) (omega arith) (omega arith) (s1.other 5 (omega arith) (omega arith) ∙ five) (s1.other 6 (omega arith) (omega arith) ∙ six) (small_part all (omega arith)) in
      let s3 = plain_sets c Add end 5 5 4 all h u4 s2.next (omega arith) (omega arith) (omega arith) (omega arith) s2.value (s2.other 4 (omega arith) (omega arith) ∙ s1.other 4 (omega arith) (omega arith) ∙ four) (omega arith) in
      let s4 = imm_is Addi 5 5 (pos 15) end (end + 15) u5 s3.next (omega arith) (omega arith) (omega arith) s3.value (omega arith) in
      let s5 = imm_is Srli 5 5 (pos 3) (end + 15) (reg_value Srl (end + 15) 3) u6 s4.next (omega arith) (omega arith) (omega arith) s4.value refl in
      let s6 = imm_is Slli 5 5 (pos 3) (reg_value Srl (end + 15) 3) (next_place h n size) u7 s5.next (omega arith) (omega arith) (omega arith) s5.value (rounded (end + 15) (omega arith)) in
      let five_free = free_below 5 (omega arith) (omega arith) (omega arith) in
      record {
        next = s6.next;
        path = loosened c (1 + (1 + (1 + (1 + (1 + 1))))) (1 + (2 + (2 + (1 + (1 + 1))))) 0 9 u1 u7 [] l s6.next (omega arith) (omega arith)
            (followed c 1 1 (1 + (1 + (1 + (1 + 1)))) (2 + (2 + (1 + (1 + 1)))) u1 u2 u7 [] [] l s1.next s6.next s1.path
            (followed c 1 2 (1 + (1 + (1 + 1))) (2 + (1 + (1 + 1))) u2 u3 u7 [] [] s1.next s2.next s6.next s2.path
            (followed c 1 2 (1 + (1 + 1)) (1 + (1 + 1)) u3 u4 u7 [] [] s2.next s3.next s6.next s3.path
            (followed c 1 1 (1 + 1) (1 + 1) u4 u5 u7 [] [] s3.next s4.next s6.next s4.path
            (followed c 1 1 1 1 u5 u6 u7 [] [] s4.next s5.next s6.next s5.path s6.path)))));
        soft = soft_then l s1.next s6.next (sets_soft c 1 1 u1 u2 l 10 h ten_free s1)
            (soft_then s1.next s2.next s6.next (sets_soft c 1 2 u2 u3 s1.next 5 all five_free s2)
            (soft_then s2.next s3.next s6.next (sets_soft c 1 2 u3 u4 s2.next 5 end five_free s3)
            (soft_then s3.next s4.next s6.next (sets_soft c 1 1 u4 u5 s3.next 5 (end + 15) five_free s4)
            (soft_then s4.next s5.next s6.next (sets_soft c 1 1 u5 u6 s4.next 5 (reg_value Srl (end + 15) 3) five_free s5)
            (sets_soft c 1 1 u6 u7 s5.next 5 (next_place h n size) five_free s6)))));
        bytes = s6.bytes ∙ s5.bytes ∙ s4.bytes ∙ s3.bytes ∙ s2.bytes ∙ s1.bytes;
        input = s6.input ∙ s5.input ∙ s4.input ∙ s3.input ∙ s2.input ∙ s1.input;
        five = s6.value;
        three = s6.other 3 (omega arith) (omega arith) ∙ s5.other 3 (omega arith) (omega arith) ∙ s4.other 3 (omega arith) (omega arith) ∙ s3.other 3 (omega arith) (omega arith) ∙ s2.other 3 (omega arith) (omega arith) ∙ s1.other 3 (omega arith) (omega arith) ∙ three;
        ten = s6.other 10 (omega arith) (omega arith) ∙ s5.other 10 (omega arith) (omega arith) ∙ s4.other 10 (omega arith) (omega arith) ∙ s3.other 10 (omega arith) (omega arith) ∙ s2.other 10 (omega arith) (omega arith) ∙ s1.value;
      }

  -- ---- the whole

  module _ (l : Local) (places : Values) (world : World) (framed : IsFramed l) (has : HasPlaces l places) (whole : HasWorld l world) where
    room_word : (h : ℕ) → base.value_at Word world.memory data_start ≡ Some h → h < 2 ^ 32
    room_word h there = value_word l.bytes Word data_start h whole.small (ap (λ (m : base.Memory). base.value_at Word m data_start) (sym whole.memory) ∙ there)

    -- there is no room: the target gets 0
    pub refused_does : (t : Place) (a : PlacedOperand) (n size h : ℕ) (rest : List Line) → IsPlace t → IsOperand a → operand_value places a ≡ Some n → size < 2 ^ 32 → base.value_at Word world.memory data_start ≡ Some h
        → heap_has_room h n size ≡ false → Does c 32 (alloc_lines t a size rest) rest l [] (with_written places (number_of t) 0) world
    refused_does t a n size h rest ht ha ea fits there none =
        let z = settle_lines t 10 rest in
        let s = readied l places world framed has whole a n size h (first z) ha ea fits there in
        let d = refuses z s.next n size h s.ready (is_taken Bge 0 n) refl (operand_word l places has a n ha ea) none in
        let m = d.next in
        let soft = soft_then l s.next m s.soft d.soft in
        let after = framed_kept l m framed soft.keeps in
        before_does c (0 + 0) (9 + 7) 16 (alloc_lines t a size rest) z rest l m [] [] [] (with_written places (number_of t) 0) world
        (followed c 0 9 0 7 (alloc_lines t a size rest) (first z) z [] [] l s.next m s.path d.path) refl tt soft.keeps
        (does_loosened c 3 16 z rest m [] (with_written places (number_of t) 0) world (omega arith)
        (write_does c 3 z rest m t 0 places world after ht (omega arith) (places_soft c l m places soft has) (world_kept c l m world (d.bytes ∙ s.bytes) (d.input ∙ s.input) whole)
        (settle_writes c t 10 0 rest m after ht (omega arith) (omega arith) d.ten (omega arith))))

    -- there is room: the target gets the place of the block, and the heap word the place of the next one
    pub claimed_does : (t : Place) (a : PlacedOperand) (n size h : ℕ) (now : base.Memory) (rest : List Line) → IsPlace t → IsOperand a → operand_value places a ≡ Some n → size < 2 ^ 32 → base.value_at Word world.memory data_start ≡ Some h
        → heap_has_room h n size ≡ true → base.memory_with Word world.memory data_start (next_place h n size) ≡ Some now
        → Does c 32 (alloc_lines t a size rest) rest l (Stored data_start Word (next_place h n size) ∷ []) (with_written places (number_of t) h) (record world { memory = now })
    claimed_does t a n size h now rest ht ha ea fits there some put =
        let z = settle_lines t 10 rest in
        let y = next_place h n size in
        let s = readied l places world framed has whole a n size h (first z) ha ea fits there in
        let d = admits z s.next n size h s.ready (is_taken Bge 0 n) refl (operand_word l places has a n ha ea) some in
        let end = fits_whole h n size some in
        let k = claims_it z d.next n size h end d.five d.six d.three d.four in
        let small : y < 2 ^ 32 = omega (arith, end) in
        let bytes : k.next.bytes ≡ l.bytes = k.bytes ∙ d.bytes ∙ s.bytes in
        let input : k.next.input ≡ l.input = k.input ∙ d.input ∙ s.input in
        let m : Local = record k.next { bytes = bytes_put l.bytes 4 data_start y } in
        let soft1 = soft_then l d.next k.next (soft_then l s.next d.next s.soft d.soft) k.soft in
        let soft : IsSoft l m = record { keeps = record { zero = soft1.keeps.zero; frame = soft1.keeps.frame; above = soft1.keeps.above }; has = λ q w i e. same_values c l places world framed has whole k.next m q w refl refl (soft1.has q w i e) } in
        let after = framed_kept l m framed soft.keeps in
        let event = Wrote data_start 4 (y % 256 ^ 4) in
        let stored = data_put Word l.bytes data_start y now (ap (λ (r : base.Memory). base.memory_with Word r data_start y) (sym whole.memory) ∙ put) in
        let store = store_path c l places world framed has whole Word 3 5 data_start (pos 0) data_start y z k.next l.bytes bytes (omega arith) (omega arith) k.three k.five (omega arith) refl (omega arith) (omega arith) in
        let world_then : HasWorld m (record world { memory = now }) = record {
          memory = stored.now_is;
          input = whole.input ∙ sym input;
          small = put_small l.bytes 4 data_start y whole.small;
          given = subst AreBytes (sym input) whole.given;
        } in
        before_does c (0 + (0 + (0 + 1))) (9 + (7 + (9 + 1))) 6 (alloc_lines t a size rest) z rest l m (event ∷ []) (Stored data_start Word y ∷ []) [] (with_written places (number_of t) h) (record world { memory = now })
        (followed c 0 9 (0 + (0 + 1)) (7 + (9 + 1)) (alloc_lines t a size rest) (first z) z [] (event ∷ []) l s.next m s.path
        (followed c 0 7 (0 + 1) (9 + 1) (first z) (claim_lines z) z [] (event ∷ []) s.next d.next m d.path
        (followed c 0 9 1 1 (claim_lines z) (Plain (Store Sw 3 5 (pos 0)) ∷ z) z [] (event ∷ []) d.next k.next m k.path store)))
        (ap (λ v. Stored data_start Word v ∷ []) (let e : y % 256 ^ 4 ≡ y = omega (arith, small) in e))
        (inr (refl, inr refl), tt) soft.keeps
        (does_loosened c 3 6 z rest m [] (with_written places (number_of t) h) (record world { memory = now }) (omega arith)
        (write_does c 3 z rest m t h places (record world { memory = now }) after ht (room_word h there) (places_soft c l m places soft has) world_then
        (settle_writes c t 10 h rest m after ht (omega arith) (omega arith) k.ten (room_word h there))))
