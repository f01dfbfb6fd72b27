-- The lines of every operation but a call do what the operation comes to.
use Rattle.std.proofs.Common.{◌≡◌, ℕ, ◌-◌, ◌%◌, ◌^◌, ◌≤◌, ◌<◌, ◌==◌, not, if◌then◌else◌, Bool, true, false, List, [], ◌∷◌, length, Option, Some, None, refl, sym, ap, subst, ◌∙◌, arith}
use Rattle.ckc_base.specs.declared.places.Pos.{Pos}
use Rattle.ckc_base.specs.declared.runtime_checks.Check.{Check as CheckKind}
use Rattle.ckc_base.specs.declared.arithmetic.Width.{Width}
use Rattle.ckc_base.specs.declared.arithmetic.Width.TheVariants as base_width
use Rattle.ckc_base.specs.Traces.{Got, Put as PutEvent, Standing, Stopped}
use Rattle.ckc_base.specs.LongEvents.{LongEvent, Plain, Stored}
use Rattle.ckc_base.specs.Memory as base
use Rattle.ckc_base.specs.Actions.{World, Outcome, Gives, Done, Stops, Lost, with_value, stores_in, checks, gets_from, allocates, allocates_at, allocates_in}
use Rattle.ckc_base.specs.Activations.{Values, with_written}
use Rattle.ckc_asm_lines.specs.declared.lines.Line.{Line}
use Rattle.ckc_tac.specs.declared.code.TacFunc.{TacFunc}
use Rattle.ckc_tac.specs.declared.code.TacOp.{TacOp}
use Rattle.ckc_tac.specs.declared.code.TacOp.TheVariants.{Const, Copy, Bin, High, Load, Store, Check, Call, Get, Put, Alloc}
use Rattle.ckc_tac.specs.declared.code.Operand.{Operand}
use Rattle.ckc_tac.specs.declared.code.Comparison.{Comparison}
use Rattle.ckc_tac.specs.Operations.{value_in, outcome_of, operation_of, compared, at_offset}
use Rattle.ckc_base.specs.Words.{applied}
use Rattle.ckc_rv.specs.Effects.{is_taken}
use Rattle.ckc_tac.specs.WellFormed.{IsOperandOver, IsOpOver}
use Rattle.ckc_frame.specs.declared.code.Place.{Place}
use Rattle.ckc_frame.specs.declared.code.PlacedFunc.{PlacedFunc}
use Rattle.ckc_frame.specs.Places.{number_of, home, registers_in}
use Rattle.ckc_frame.specs.WellFormed.{IsPlace, IsPlacedWhole}
use Rattle.ckc_emit.specs.code.Lines.{register_with, holding, check_lines, test_lines}
use Rattle.ckc_emit.specs.code.CallLines.{place_at}
use Rattle.ckc_emit.specs.code.ProgramLines.{operand_at, op_lines}
use Rattle.ckc_emit.proofs.PlaceAt.{home_is, place_is}
use Rattle.ckc_emit.proofs.Local.{Local}
use Rattle.ckc_emit.proofs.Paths.{Code, Halting, followed, loosened, then_halting}
use Rattle.ckc_emit.proofs.Homes.{HasPlaces, IsFramed}
use Rattle.ckc_emit.proofs.Operands.{operand_value, operand_has, operand_word, operand_is, operand_found, left_register, right_register}
use Rattle.ckc_emit.proofs.Binary.{Sourced, two_reads}
use Rattle.ckc_emit.specs.declared.places.PlacedOperand.{PlacedOperand}
use Rattle.ckc_emit.specs.code.Operands.{IsOperand}
use Rattle.ckc_emit.proofs.Checking.{holding_is, check_passes, check_stops}
use Rattle.ckc_emit.proofs.Relation.{HasWorld, Does, world_kept, does_loosened}
use Rattle.ckc_emit.proofs.Acts.{const_does, copy_does, bin_does, high_does, load_does, store_does}
use Rattle.ckc_emit.proofs.Asking.{end_does, get_does, put_does}
use Rattle.ckc_emit.proofs.Claiming.{refused_does, claimed_does}

-- ---- places of registers

module _ (c : Code) (functions : List PlacedFunc) (codes : List TacFunc) (f : PlacedFunc) (n : ℕ) (placed : IsPlacedWhole f)
    (l : Local) (places : Values) (world : World) (framed : IsFramed l) (has : HasPlaces l places) (whole : HasWorld l world) where
  -- the lines do what an outcome says
  abbrev pub DoesOutcome : List Line → List Line → Outcome → Type 0
  DoesOutcome xs rest (Gives events t value world') = Does c 32 xs rest l events (with_written places (home f.homes t) value) world'
  DoesOutcome xs rest (Done events world') = Does c 32 xs rest l events places world'
  DoesOutcome xs rest (Stops k at) = Halting c 32 xs l (Stopped k at)
  DoesOutcome xs rest Lost = Unit {0}

  value_case : (xs rest : List Line) (o : Option ℕ) (g : ℕ → Outcome) → ((x : ℕ) → o ≡ Some x → DoesOutcome xs rest (g x)) → DoesOutcome xs rest (with_value o g)
  value_case xs rest (Some x) g h = h x refl
  value_case xs rest None g h = tt

  loose : (most : ℕ) (xs rest : List Line) (upper : List LongEvent) (ps : Values) (w : World) → most ≤ 32 → Does c most xs rest l upper ps w → Does c 32 xs rest l upper ps w
  loose most xs rest upper ps w h d = does_loosened c most 32 xs rest l upper ps w h d

  loose_halt : (most : ℕ) (xs : List Line) (standing : Standing) → most ≤ 32 → Halting c most xs l standing → Halting c 32 xs l standing
  loose_halt most xs standing h d = record { halts = λ pc a. (let r = d.halts pc a in (r.0, omega (arith, r.1), r.2)) }

  within : (r : ℕ) → r < f.code.regs → r < length f.homes
  within r h = let homes = placed.homes in omega arith

  abbrev at : ℕ → Place
  at r = place_at f.homes r

  good_at : (r : ℕ) → r < f.code.regs → IsPlace (at r)
  good_at r h = place_is f.homes r (within r h) placed.places

  value_at_place : (r x : ℕ) → r < f.code.regs → registers_in f.homes places r ≡ Some x → places (number_of (at r)) ≡ Some x
  unfolding registers_in
  value_at_place r x h e = ap places (sym (home_is f.homes r (within r h))) ∙ e

  abbrev operand : Operand → PlacedOperand
  operand o = operand_at f.homes o

  good_operand : (o : Operand) → IsOperandOver f.code.regs o → IsOperand (operand o)
  good_operand o h = operand_is f placed o h

  value_of : (o : Operand) (x : ℕ) → IsOperandOver f.code.regs o → value_in (registers_in f.homes places) o ≡ Some x → operand_value places (operand o) ≡ Some x
  value_of o x h e = operand_found f placed places o x h e

  -- a target that was written by the number of its place was written at its home
  at_home : (most t v : ℕ) (xs rest : List Line) (upper : List LongEvent) (w : World) → most ≤ 32 → t < f.code.regs
      → Does c most xs rest l upper (with_written places (number_of (at t)) v) w → Does c 32 xs rest l upper (with_written places (home f.homes t) v) w
  at_home most t v xs rest upper w few h d =
      subst (λ q. Does c 32 xs rest l upper (with_written places q v) w) (sym (home_is f.homes t (within t h))) (loose most xs rest upper (with_written places (number_of (at t)) v) w few d)

  gets_case : (t : ℕ) (rest : List Line) (input : List ℕ) → t < f.code.regs → world.input ≡ input → DoesOutcome (op_lines functions f n (Get t) rest) rest (gets_from world.memory t input)
  gets_case t rest [] h e =
      subst (λ (i : List ℕ). Does c 32 (op_lines functions f n (Get t) rest) rest l (Plain (Got None) ∷ []) (with_written places (home f.homes t) (2 ^ 32 - 1)) (record { memory = world.memory; input = i })) e
      (at_home 6 t (2 ^ 32 - 1) (op_lines functions f n (Get t) rest) rest (Plain (Got None) ∷ []) world (omega arith) h (end_does c l places world framed has whole (at t) rest (good_at t h) e))
  gets_case t rest (byte ∷ more) h e =
      at_home 6 t byte (op_lines functions f n (Get t) rest) rest (Plain (Got (Some byte)) ∷ []) (record world { input = more }) (omega arith) h
      (get_does c l places world framed has whole (at t) byte more rest (good_at t h) e)

  stores_case : (width : Width) (a : Operand) (offset : ℕ) (b : Operand) (o p y : ℕ) (rest : List Line) (now : Option base.Memory) → IsOpOver codes f.code.regs (Store width a offset b)
      → value_in (registers_in f.homes places) a ≡ Some o → at_offset o offset ≡ p → value_in (registers_in f.homes places) b ≡ Some y
      → base.memory_with width world.memory p y ≡ now → DoesOutcome (op_lines functions f n (Store width a offset b) rest) rest (stores_in world (Stored p width (base.kept_part width y)) now)
  stores_case width a offset b o p y rest (Some now) h ea to eb e =
      loose 7 (op_lines functions f n (Store width a offset b) rest) rest (Stored p width (base.kept_part width y) ∷ []) places (record world { memory = now }) (omega arith)
      (store_does c l places world framed has whole width (operand a) offset (operand b) o p y now rest (good_operand a h.0) h.1 (good_operand b h.2) (value_of a o h.0 ea) to (value_of b y h.2 eb) e)
  stores_case width a offset b o p y rest None h ea to eb e = tt

  loads_case : (width : Width) (t : ℕ) (a : Operand) (offset p : ℕ) (rest : List Line) → IsOpOver codes f.code.regs (Load width t a offset) → value_in (registers_in f.homes places) a ≡ Some p
      → DoesOutcome (op_lines functions f n (Load width t a offset) rest) rest (with_value (base.value_at width world.memory (at_offset p offset)) (λ x. Gives [] t x world))
  loads_case width t a offset p rest h ea =
      value_case (op_lines functions f n (Load width t a offset) rest) rest (base.value_at width world.memory (at_offset p offset)) (λ x. Gives [] t x world) (λ v e.
      at_home 7 t v (op_lines functions f n (Load width t a offset) rest) rest [] world (omega arith) h.0
      (load_does c l places world framed has whole width (at t) (operand a) offset p v rest (good_at t h.0) (good_operand a h.1) h.2 (value_of a p h.1 ea) e))

  -- a check passes, or the machine stops
  module _ (k : CheckKind) (where_ : Pos) (o : Comparison) (a b : Operand) (rest : List Line)
      (ha : IsOperandOver f.code.regs a) (hb : IsOperandOver f.code.regs b) (fl : where_.line < 2 ^ 32) (fc : where_.col < 2 ^ 32) where
    abbrev p : PlacedOperand
    p = operand a

    abbrev q : PlacedOperand
    q = operand b

    abbrev lines : List Line
    lines = test_lines k where_ o p q rest

    abbrev mid : List Line
    mid = check_lines (holding o) (register_with p 5) (register_with q 6) k where_ rest

    good_left : IsOperand p
    good_left = good_operand a ha

    good_right : IsOperand q
    good_right = good_operand b hb

    checks_case : (x y : ℕ) (s : Sourced c 6 lines mid l (register_with p 5) x (register_with q 6) y) (fails : Bool) → (applied (operation_of o) x y == 0) ≡ fails
        → DoesOutcome lines rest (if fails then Stops k where_ else Done [] world)
    checks_case x y s true e =
        let branch : is_taken (holding o) (s.next.x (register_with p 5)) (s.next.x (register_with q 6)) ≡ false =
        (λ i. is_taken (holding o) (s.left i) (s.right i)) ∙ holding_is o x y ∙ ap not e in
        loose_halt 16 lines (Stopped k where_) (omega arith)
        (then_halting c 0 6 10 lines mid l s.next (Stopped k where_) s.path
        (check_stops c (holding o) (register_with p 5) (register_with q 6) k where_ rest s.next (left_register p good_left).0 (right_register q good_right) branch
        (s.keeps.zero ∙ framed.zero) fl fc))
    checks_case x y s false e =
        let branch : is_taken (holding o) (s.next.x (register_with p 5)) (s.next.x (register_with q 6)) ≡ true =
        (λ i. is_taken (holding o) (s.left i) (s.right i)) ∙ holding_is o x y ∙ ap not e in
        record {
          next = s.next;
          lower = [];
          path = loosened c 1 7 1 32 lines rest [] l s.next (omega arith) (omega arith)
              (followed c 0 6 1 1 lines mid rest [] [] l s.next s.next s.path
              (check_passes c (holding o) (register_with p 5) (register_with q 6) k where_ rest s.next (left_register p good_left).0 (right_register q good_right) branch));
          seen = refl;
          allowed = tt;
          keeps = s.keeps;
          has = record { has = λ r w h g. s.has r w h (has.has r w h g); word = has.word };
          world_is = world_kept c l s.next world s.bytes s.input whole;
        }

    checks_read : (x y : Option ℕ) → value_in (registers_in f.homes places) a ≡ x → value_in (registers_in f.homes places) b ≡ y
        → DoesOutcome lines rest (with_value (compared o x y) (checks world k where_))
    checks_read (Some x) (Some y) ea eb =
        let ex = value_of a x ha ea in
        let ey = value_of b y hb eb in
        checks_case x y
        (two_reads c p q x y mid l framed good_left good_right (operand_has l places has p x good_left ex) (operand_has l places has q y good_right ey)
        (operand_word l places has p x good_left ex) (operand_word l places has q y good_right ey))
        (applied (operation_of o) x y == 0) refl
    checks_read (Some x) None ea eb = tt
    checks_read None y ea eb = tt

  -- room is taken on the heap, or there is none
  claims_case : (t : ℕ) (a : Operand) (size count p : ℕ) (rest : List Line) (now : Option base.Memory) → t < f.code.regs → IsOperandOver f.code.regs a → size < 2 ^ 32 → value_in (registers_in f.homes places) a ≡ Some count
      → base.value_at base_width.Word world.memory base.data_start ≡ Some p → base.heap_has_room p count size ≡ true → base.memory_with base_width.Word world.memory base.data_start (base.next_place p count size) ≡ now
      → DoesOutcome (op_lines functions f n (Alloc t a size) rest) rest (allocates_in world t p (base.next_place p count size) now)
  claims_case t a size count p rest (Some now) ht ha fits e there some put =
      at_home 32 t p (op_lines functions f n (Alloc t a size) rest) rest (Stored base.data_start base_width.Word (base.next_place p count size) ∷ []) (record world { memory = now }) (omega arith) ht
      (claimed_does c l places world framed has whole (at t) (operand a) count size p now rest (good_at t ht) (good_operand a ha) (value_of a count ha e) fits there some put)
  claims_case t a size count p rest None ht ha fits e there some put = tt

  allocs_case : (t : ℕ) (a : Operand) (size count p : ℕ) (rest : List Line) (b : Bool) → t < f.code.regs → IsOperandOver f.code.regs a → size < 2 ^ 32 → value_in (registers_in f.homes places) a ≡ Some count
      → base.value_at base_width.Word world.memory base.data_start ≡ Some p → base.heap_has_room p count size ≡ b
      → DoesOutcome (op_lines functions f n (Alloc t a size) rest) rest
      (if b then allocates_in world t p (base.next_place p count size) (base.memory_with base_width.Word world.memory base.data_start (base.next_place p count size)) else Gives [] t 0 world)
  allocs_case t a size count p rest true ht ha fits e there some =
      claims_case t a size count p rest (base.memory_with base_width.Word world.memory base.data_start (base.next_place p count size)) ht ha fits e there some refl
  allocs_case t a size count p rest false ht ha fits e there none =
      at_home 32 t 0 (op_lines functions f n (Alloc t a size) rest) rest [] world (omega arith) ht
      (refused_does c l places world framed has whole (at t) (operand a) count size p rest (good_at t ht) (good_operand a ha) (value_of a count ha e) fits there none)

  -- every operation but a call
  pub does_op : (op : TacOp) (rest : List Line) → IsOpOver codes f.code.regs op → DoesOutcome (op_lines functions f n op rest) rest (outcome_of (registers_in f.homes places) world op)
  does_op (Const t v) rest h =
      at_home 5 t v (op_lines functions f n (Const t v) rest) rest [] world (omega arith) h.0 (const_does c l places world framed has whole (at t) v rest (good_at t h.0) h.1)
  does_op (Copy t a) rest h =
      value_case (op_lines functions f n (Copy t a) rest) rest (registers_in f.homes places a) (λ x. Gives [] t x world) (λ x e.
      at_home 6 t x (op_lines functions f n (Copy t a) rest) rest [] world (omega arith) h.0 (copy_does c l places world framed has whole (at t) (at a) x rest (good_at t h.0) (good_at a h.1) (value_at_place a x h.1 e)))
  does_op (Bin op t a b) rest h =
      value_case (op_lines functions f n (Bin op t a b) rest) rest (value_in (registers_in f.homes places) a) _ (λ x ex.
      value_case (op_lines functions f n (Bin op t a b) rest) rest (value_in (registers_in f.homes places) b) _ (λ y ey.
      at_home 11 t _ (op_lines functions f n (Bin op t a b) rest) rest [] world (omega arith) h.0
      (bin_does c l places world framed has whole op (at t) (operand a) (operand b) x y rest (good_at t h.0) (good_operand a h.1) (good_operand b h.2) (value_of a x h.1 ex) (value_of b y h.2 ey))))
  does_op (High is_signed t a b) rest h =
      value_case (op_lines functions f n (High is_signed t a b) rest) rest (value_in (registers_in f.homes places) a) _ (λ x ex.
      value_case (op_lines functions f n (High is_signed t a b) rest) rest (value_in (registers_in f.homes places) b) _ (λ y ey.
      at_home 11 t _ (op_lines functions f n (High is_signed t a b) rest) rest [] world (omega arith) h.0
      (high_does c l places world framed has whole is_signed (at t) (operand a) (operand b) x y rest (good_at t h.0) (good_operand a h.1) (good_operand b h.2) (value_of a x h.1 ex) (value_of b y h.2 ey))))
  does_op (Load width t a offset) rest h =
      value_case (op_lines functions f n (Load width t a offset) rest) rest (value_in (registers_in f.homes places) a) _ (λ p e. loads_case width t a offset p rest h e)
  does_op (Store width a offset b) rest h =
      value_case (op_lines functions f n (Store width a offset b) rest) rest (value_in (registers_in f.homes places) a) _ (λ p ep.
      value_case (op_lines functions f n (Store width a offset b) rest) rest (value_in (registers_in f.homes places) b) _ (λ y ey.
      stores_case width a offset b p (at_offset p offset) y rest (base.memory_with width world.memory (at_offset p offset) y) h ep refl ey refl))
  does_op (Check k where_ o a b) rest h =
      checks_read k where_ o a b rest h.1 h.2 h.0.0 h.0.1 (value_in (registers_in f.homes places) a) (value_in (registers_in f.homes places) b) refl refl
  does_op (Call target callee arguments where_) rest h = tt
  does_op (Get t) rest h = gets_case t rest world.input h refl
  does_op (Put a) rest h =
      value_case (op_lines functions f n (Put a) rest) rest (value_in (registers_in f.homes places) a) _ (λ v e.
      loose 6 (op_lines functions f n (Put a) rest) rest (Plain (PutEvent (v % 256)) ∷ []) places world (omega arith)
      (put_does c l places world framed has whole (operand a) v rest (good_operand a h) (value_of a v h e)))
  does_op (Alloc t a size) rest h =
      value_case (op_lines functions f n (Alloc t a size) rest) rest (value_in (registers_in f.homes places) a) (λ count. allocates world t count size) (λ count e.
      value_case (op_lines functions f n (Alloc t a size) rest) rest (base.value_at base_width.Word world.memory base.data_start) (allocates_at world t count size) (λ p there.
      allocs_case t a size count p rest (base.heap_has_room p count size) h.0 h.1 h.2 e there refl))
