-- The operations without a call: the machine does what each of them does.
use Rattle.std.proofs.Common.{◌≡◌, ◌≢◌, ◌⊎◌, inl, inr, ℕ, ◌+◌, ◌*◌, ◌%◌, ◌^◌, ◌≤◌, ◌<◌, if◌then◌else◌, Bool, true, List, [], ◌∷◌, ◌++◌, Some, refl, sym, ap, subst, ◌∙◌, arith}
use Rattle.std.specs.Prelude.{ℤ}
use Rattle.std.proofs.lemmas.Bool.Decides.{nat_tests}
use Rattle.ckc_base.specs.declared.arithmetic.BinOp.{BinOp}
use Rattle.ckc_base.specs.declared.arithmetic.Width.{Width}
use Rattle.ckc_base.specs.declared.arithmetic.Width.TheVariants.{Byte, Word}
use Rattle.ckc_base.specs.Words.{applied}
use Rattle.ckc_base.specs.Products.{high_product}
use Rattle.ckc_base.specs.LongEvents.{Stored}
use Rattle.ckc_base.specs.Actions.{World}
use Rattle.ckc_base.specs.Activations.{Values, with_written}
use Rattle.ckc_base.specs.Memory as base
use Rattle.ckc_base.specs.Steps.{Goes}
use Rattle.ckc_rv.specs.declared.instructions.Instr.TheVariants.{Load, Store}
use Rattle.ckc_rv.specs.Effects.{moved, load_bytes, load_value, store_bytes}
use Rattle.ckc_rv.specs.Machine.{loaded, stored, stack_start, data_start, memory_end}
use Rattle.ckc_rv.specs.Detailed.{MachineEvent, Wrote}
use Rattle.ckc_asm_lines.specs.declared.lines.Line.{Line}
use Rattle.ckc_asm_lines.specs.declared.lines.Line.TheVariants as line
use Rattle.ckc_tac.specs.Operations.{at_offset}
use Rattle.ckc_tac.specs.WellFormed.{IsOffset}
use Rattle.ckc_frame.specs.declared.code.Place.{Place}
use Rattle.ckc_frame.specs.declared.code.Place.TheVariants as place
use Rattle.ckc_frame.specs.Places.{number_of}
use Rattle.ckc_frame.specs.WellFormed.{IsPlace}
use Rattle.ckc_emit.specs.code.Lines.{source_of, register_with, operand_lines, base_with, rest_of, write_lines, bin_lines, high_lines, const_lines, load_op, store_op, data_load_lines, data_store_lines, copy_lines, register_of}
use Rattle.ckc_emit.specs.Stores.{data_store}
use Rattle.ckc_emit.proofs.Local.{Local, memory_of, state_of}
use Rattle.ckc_emit.proofs.Words.{bytes_put, data_stored}
use Rattle.ckc_emit.proofs.Steps.{load_step, store_step}
use Rattle.ckc_emit.proofs.Paths.{Code, Path, straight, followed, loosened, Sets, set_by}
use Rattle.ckc_emit.proofs.FrameWords.{sets_value}
use Rattle.ckc_emit.proofs.Homes.{HasValue, HasPlaces, IsFramed, framed_kept, Writes, write_after, source_low}
use Rattle.ckc_base.proofs.WordValues.{applied_word}
use Rattle.ckc_emit.proofs.Values.{high_word}
use Rattle.ckc_emit.proofs.Acting.{const_writes, copy_writes}
use Rattle.ckc_emit.specs.declared.places.PlacedOperand.{PlacedOperand}
use Rattle.ckc_emit.specs.code.Operands.{IsOperand}
use Rattle.ckc_emit.proofs.Operands.{operand_value, operand_has, operand_word, right_register}
use Rattle.ckc_emit.proofs.Addresses.{base_value, address_is, base_register, read_address}
use Rattle.ckc_emit.proofs.Binary.{one_then, two_then, sourced_then, bin_writes, high_writes}
use Rattle.ckc_emit.proofs.Regions.{region, value_loaded, value_word, put_small, data_store as data_put}
use Rattle.ckc_emit.proofs.Relation.{AreBytes, HasWorld, Does, write_does}

module _ (c : Code) (l : Local) (places : Values) (world : World) (framed : IsFramed l) (has : HasPlaces l places) (whole : HasWorld l world) where
  pub const_does : (t : Place) (v : ℕ) (rest : List Line) → IsPlace t → v < 2 ^ 32 → Does c 5 (const_lines t v rest) rest l [] (with_written places (number_of t) v) world
  const_does t v rest h fits = write_does c 5 (const_lines t v rest) rest l t v places world framed h fits has whole (const_writes c t v rest l framed h fits)

  pub bin_does : (o : BinOp) (t : Place) (a b : PlacedOperand) (x y : ℕ) (rest : List Line) → IsPlace t → IsOperand a → IsOperand b → operand_value places a ≡ Some x → operand_value places b ≡ Some y
      → Does c 11 (bin_lines o t a b rest) rest l [] (with_written places (number_of t) (applied o x y)) world
  bin_does o t a b x y rest ht ha hb ea eb =
      let fx = operand_word l places has a x ha ea in
      let fy = operand_word l places has b y hb eb in
      write_does c 11 (bin_lines o t a b rest) rest l t (applied o x y) places world framed ht (applied_word o x y fx fy) has whole
      (bin_writes c o t a b x y rest l framed ht ha hb (operand_has l places has a x ha ea) (operand_has l places has b y hb eb) fx fy)

  pub high_does : (is_signed : Bool) (t : Place) (a b : PlacedOperand) (x y : ℕ) (rest : List Line) → IsPlace t → IsOperand a → IsOperand b → operand_value places a ≡ Some x → operand_value places b ≡ Some y
      → Does c 11 (high_lines is_signed t a b rest) rest l [] (with_written places (number_of t) (high_product is_signed x y)) world
  high_does is_signed t a b x y rest ht ha hb ea eb =
      let fx = operand_word l places has a x ha ea in
      let fy = operand_word l places has b y hb eb in
      write_does c 11 (high_lines is_signed t a b rest) rest l t (high_product is_signed x y) places world framed ht (high_word is_signed x y fx fy) has whole
      (high_writes c is_signed t a b x y rest l framed ht ha hb (operand_has l places has a x ha ea) (operand_has l places has b y hb eb) fx fy)

  -- ---- loads of the data region

  load_width : (width : Width) → load_bytes (load_op width) ≡ base.width_bytes width
  load_width Byte = refl
  load_width Word = refl

  load_same : (width : Width) (v : ℕ) → load_value (load_op width) v ≡ v
  load_same Byte v = refl
  load_same Word v = refl

  -- a word or a byte that an instruction loads
  pub data_sets : (width : Width) (rd ra x : ℕ) (z : ℤ) (p v : ℕ) (rest : List Line) (m : Local) → rd ≢ 0 → rd < 32 → ra < 32 → m.x ra ≡ x → moved x z ≡ p
      → base.value_at width (region m.bytes) p ≡ Some v → Sets c 1 1 (line.Plain (Load (load_op width) rd ra z) ∷ rest) rest m rd v
  data_sets width rd ra x z p v rest m nonzero h i e to there =
      let w = value_loaded c.parts m.bytes m.words width p v there in
      let at : moved (m.x ra) z ≡ p = ap (λ q. moved q z) e ∙ to in
      let aligned : p % load_bytes (load_op width) ≡ 0 = ap (λ n. p % n) (load_width width) ∙ w.0 in
      let got : loaded (memory_of c.parts m.bytes m.words) (load_bytes (load_op width)) p ≡ Some v = ap (λ n. loaded (memory_of c.parts m.bytes m.words) n p) (load_width width) ∙ w.1 in
      sets_value c 1 1 (line.Plain (Load (load_op width) rd ra z) ∷ rest) rest m rd (load_value (load_op width) v) v (load_same width v)
      (set_by c (Load (load_op width) rd ra z) rest m rd (load_value (load_op width) v) nonzero
      (λ pc a. load_step c.parts m pc (load_op width) rd ra z p v a h i at aligned got))

  pub load_writes : (width : Width) (t : Place) (a : PlacedOperand) (offset p v : ℕ) (rest : List Line) → IsPlace t → IsOperand a → IsOffset offset → operand_value places a ≡ Some p
      → base.value_at width world.memory (at_offset p offset) ≡ Some v → Writes c 1 7 (data_load_lines width t a offset rest) rest l t v
  load_writes width t a offset p v rest ht ha near ea there =
      let q = at_offset p offset in
      let ra = base_with a offset 5 in
      let x = base_value a offset p in
      let z = rest_of a offset in
      let mid = line.Plain (Load (load_op width) (source_of t 5) ra z) ∷ write_lines t 5 rest in
      let fits = operand_word l places has a p ha ea in
      let here = operand_has l places has a p ha ea in
      let s = one_then c ra x (data_load_lines width t a offset rest) mid l (read_address c a offset p mid l framed ha here fits) in
      let after = framed_kept l s.next framed s.keeps in
      let low = source_low c t ht in
      let same : base.value_at width (region s.next.bytes) q ≡ Some v = ap (λ (m : base.Memory). base.value_at width m q) (ap region s.bytes ∙ sym whole.memory) ∙ there in
      sourced_then c 3 1 4 (data_load_lines width t a offset rest) mid rest l ra x ra x t v s
      (write_after c 1 1 mid t v rest s.next after ht
      (data_sets width (source_of t 5) ra x z q v (write_lines t 5 rest) s.next low.0 low.1 (base_register a offset ha).0 s.left (address_is l a offset p near here fits) same))

  pub load_does : (width : Width) (t : Place) (a : PlacedOperand) (offset p v : ℕ) (rest : List Line) → IsPlace t → IsOperand a → IsOffset offset → operand_value places a ≡ Some p
      → base.value_at width world.memory (at_offset p offset) ≡ Some v → Does c 7 (data_load_lines width t a offset rest) rest l [] (with_written places (number_of t) v) world
  load_does width t a offset p v rest ht ha near ea there =
      let q = at_offset p offset in
      let here : base.value_at width (region l.bytes) q ≡ Some v = ap (λ (m : base.Memory). base.value_at width m q) (sym whole.memory) ∙ there in
      write_does c 7 (data_load_lines width t a offset rest) rest l t v places world framed ht (value_word l.bytes width q v whole.small here) has whole
      (load_writes width t a offset p v rest ht ha near ea there)

  -- ---- copies

  pub copy_does : (t a : Place) (x : ℕ) (rest : List Line) → IsPlace t → IsPlace a → places (number_of a) ≡ Some x → Does c 6 (copy_lines t a rest) rest l [] (with_written places (number_of t) x) world
  copy_does t a x rest ht ha ea =
      let fits = has.word a x ha ea in
      write_does c 6 (copy_lines t a rest) rest l t x places world framed ht fits has whole (copy_writes c t a x rest l framed ht ha (has.has a x ha ea) fits)

  -- ---- stores into the data region

  store_width : (width : Width) → store_bytes (store_op width) ≡ base.width_bytes width
  store_width Byte = refl
  store_width Word = refl

  one_or_four : (width : Width) → (base.width_bytes width ≡ 1) ⊎ (base.width_bytes width ≡ 4)
  one_or_four Byte = inl refl
  one_or_four Word = inr refl

  data_seen : (width : Width) (p y : ℕ) → y < 2 ^ 32 → base.is_data p ≡ true → data_store p (base.width_bytes width) (y % 256 ^ base.width_bytes width) ≡ Stored p width (base.kept_part width y) ∷ []
  data_seen Byte p y fits h = ap (λ b. if b then Stored p Byte (y % 256) ∷ [] else []) h
  data_seen Word p y fits h =
      let e : y % 256 ^ 4 ≡ y = omega arith in
      ap (λ b. if b then Stored p Word (y % 256 ^ 4) ∷ [] else []) h ∙ ap (λ v. Stored p Word v ∷ []) e

  in_data : (p : ℕ) → data_start ≤ p → p < stack_start → base.is_data p ≡ true
  in_data p h k = grind (arith, nat_tests)

  width_positive : (width : Width) → 1 ≤ base.width_bytes width
  width_positive Byte = omega arith
  width_positive Word = omega arith

  -- states with the same registers and words have the same values of places
  pub same_values : (m n : Local) (q : Place) (w : ℕ) → n.x ≡ m.x → n.words ≡ m.words → HasValue m q w → HasValue n q w
  same_values m n (place.Reg k) w e f h = ap (λ (x : ℕ → ℕ). x (register_of k)) e ∙ h
  same_values m n (place.Slot k) w e f h = ap (λ (x : ℕ → ℕ). n.words (x 2 + (k * 4 + 80))) e ∙ ap (λ (g : ℕ → ℕ). g (m.x 2 + (k * 4 + 80))) f ∙ h

  pub store_path : (width : Width) (ra rb x : ℕ) (z : ℤ) (p y : ℕ) (rest : List Line) (m : Local) (bytes : ℕ → ℕ) → m.bytes ≡ bytes → ra < 32 → rb < 32 → m.x ra ≡ x → m.x rb ≡ y → moved x z ≡ p
      → p % base.width_bytes width ≡ 0 → data_start ≤ p → p + base.width_bytes width ≤ stack_start
      → Path c 1 1 (line.Plain (Store (store_op width) ra rb z) ∷ rest) rest (Wrote p (base.width_bytes width) (y % 256 ^ base.width_bytes width) ∷ []) m (record m { bytes = bytes_put bytes (base.width_bytes width) p y })
  store_path width ra rb x z p y rest m bytes e ha hb left right to aligned low high =
      let n = base.width_bytes width in
      let w = store_width width in
      let at : moved (m.x ra) z ≡ p = ap (λ q. moved q z) left ∙ to in
      let multiple : p % store_bytes (store_op width) ≡ 0 = ap (λ k. p % k) w ∙ aligned in
      let below : p < memory_end = omega (arith, width_positive width) in
      let put : stored (memory_of c.parts m.bytes m.words) (store_bytes (store_op width)) p (m.x rb) ≡ memory_of c.parts (bytes_put bytes n p y) m.words =
      ap (λ k. stored (memory_of c.parts m.bytes m.words) k p (m.x rb)) w ∙ ap (stored (memory_of c.parts m.bytes m.words) n p) right
      ∙ ap (λ (b : ℕ → ℕ). stored (memory_of c.parts b m.words) n p y) e ∙ data_stored c.parts bytes m.words n p y low high in
      let same : Wrote p (store_bytes (store_op width)) (m.x rb % 256 ^ store_bytes (store_op width)) ≡ Wrote p n (y % 256 ^ n) =
      ap (λ k. Wrote p k (m.x rb % 256 ^ k)) w ∙ ap (λ v. Wrote p n (v % 256 ^ n)) right in
      straight c (Store (store_op width) ra rb z) rest (Wrote p n (y % 256 ^ n) ∷ []) m (record m { bytes = bytes_put bytes n p y }) (λ pc a.
      store_step c.parts m pc (store_op width) ra rb z p (bytes_put bytes n p y) m.words a ha hb at multiple low below put
      ∙ ap (λ (event : MachineEvent). Goes (event ∷ []) (state_of c.parts (record m { bytes = bytes_put bytes n p y }) (pc + 4))) same)

  pub store_does : (width : Width) (a : PlacedOperand) (offset : ℕ) (b : PlacedOperand) (o p y : ℕ) (now : base.Memory) (rest : List Line) → IsOperand a → IsOffset offset → IsOperand b
      → operand_value places a ≡ Some o → at_offset o offset ≡ p → operand_value places b ≡ Some y → base.memory_with width world.memory p y ≡ Some now
      → Does c 7 (data_store_lines width a offset b rest) rest l (Stored p width (base.kept_part width y) ∷ []) places (record world { memory = now })
  store_does width a offset b o p y now rest ha near hb ea to eb there =
      let n = base.width_bytes width in
      let ra = base_with a offset 5 in
      let x = base_value a offset o in
      let z = rest_of a offset in
      let i = line.Plain (Store (store_op width) ra (register_with b 6) z) in
      let fo = operand_word l places has a o ha ea in
      let fy = operand_word l places has b y hb eb in
      let ho = operand_has l places has a o ha ea in
      let low = base_register a offset ha in
      let s = two_then c ra x (data_store_lines width a offset b rest) b y (i ∷ rest) l framed hb (operand_has l places has b y hb eb) fy low.1 low.2
      (read_address c a offset o (operand_lines b 6 (i ∷ rest)) l framed ha ho fo) in
      let d = data_put width l.bytes p y now (ap (λ (m : base.Memory). base.memory_with width m p y) (sym whole.memory) ∙ there) in
      let next : Local = record s.next { bytes = bytes_put l.bytes n p y } in
      let event = Wrote p n (y % 256 ^ n) in
      let data_is : base.is_data p ≡ true = in_data p d.low (omega (arith, d.fits, width_positive width)) in
      record {
        next = next;
        lower = event ∷ [];
        path = loosened c (0 + 1) (6 + 1) 1 7 (data_store_lines width a offset b rest) rest (event ∷ []) l next (omega arith) (omega arith)
            (followed c 0 6 1 1 (data_store_lines width a offset b rest) (i ∷ rest) rest [] (event ∷ []) l s.next next s.path
            (store_path width ra (register_with b 6) x z p y rest s.next l.bytes s.bytes low.0 (right_register b hb) s.left s.right (address_is l a offset o near ho fo ∙ to) d.aligned d.low d.fits));
        seen = ap (λ es. es ++ []) (data_seen width p y fy data_is);
        allowed = (inr (data_is, one_or_four width), tt);
        keeps = record { zero = s.keeps.zero; frame = s.keeps.frame; above = s.keeps.above };
        has = record {
          has = λ q w h e. same_values s.next next q w refl refl (s.has q w h (has.has q w h e));
          word = has.word;
        };
        world_is = record {
          memory = d.now_is;
          input = whole.input ∙ sym s.input;
          small = put_small l.bytes n p y whole.small;
          given = subst AreBytes (sym s.input) whole.given;
        };
      }
