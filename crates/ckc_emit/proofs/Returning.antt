-- A return is simulated: to the caller, which then restores its registers, or to the end of the program.
use Rattle.std.proofs.Common.{◌≡◌, ◌⊎◌, inl, inr, ℕ, suc, ◌+◌, ◌*◌, ◌%◌, ◌^◌, ◌≤◌, ◌<◌, Bool, true, List, [], ◌∷◌, length, Option, Some, None, refl, sym, ap, subst, ◌∙◌, arith}
use Rattle.std.specs.Prelude.{All, IfSome, pos}
use Rattle.std.specs.List.{slice_get}
use Rattle.std.proofs.lemmas.List.Elements.{All-nil}
use Rattle.ckc_base.specs.Traces.{Ended}
use Rattle.ckc_base.specs.LongEvents.{Returned}
use Rattle.ckc_base.specs.Activations.{Values, with_written}
use Rattle.ckc_base.specs.Steps.{Goes, Halts}
use Rattle.ckc_base.specs.States.{Travels}
use Rattle.ckc_base.proofs.Runs.{one_halt, then_closes}
use Rattle.ckc_base.proofs.Travelling.{one_travel, then_travels}
use Rattle.ckc_rv_operations.specs.declared.operations.RegOp.TheVariants.{Add}
use Rattle.ckc_rv.specs.declared.instructions.Instr.TheVariants.{Lui, Reg, Jalr, Ecall}
use Rattle.ckc_rv.specs.Effects.{moved}
use Rattle.ckc_rv.specs.Machine.{stack_start, memory_end}
use Rattle.ckc_rv.specs.Detailed.{MachineEvent, detailed_system}
use Rattle.ckc_asm_lines.specs.declared.lines.Line.{Line}
use Rattle.ckc_asm_lines.specs.declared.lines.Line.TheVariants.{Plain}
use Rattle.ckc_tac.specs.declared.code.TacEnd.TheVariants.{Return}
use Rattle.ckc_frame.specs.declared.code.Place.{Place}
use Rattle.ckc_frame.specs.declared.code.Place.TheVariants as place
use Rattle.ckc_frame.specs.declared.code.PlacedFunc.{PlacedFunc}
use Rattle.ckc_frame.specs.Places.{number_of, home, is_kept_home, marks_of}
use Rattle.ckc_frame.specs.WellFormed.{IsPlace}
use Rattle.ckc_frame.specs.Meaning.{Caller, State, registers_of, returns, with_result_at}
use Rattle.ckc_tac.specs.declared.code.Operand.{Operand}
use Rattle.ckc_tac.specs.Operations.{value_in}
use Rattle.ckc_tac.specs.WellFormed.{IsOperandOver}
use Rattle.ckc_emit.specs.declared.places.PlacedOperand.{PlacedOperand}
use Rattle.ckc_emit.specs.code.Operands.{IsOperand}
use Rattle.ckc_emit.specs.code.ProgramLines.{operand_at}
use Rattle.ckc_emit.proofs.Operands.{HasOperand, operand_value, operand_has, operand_word, operand_is, operand_found, take_sets}
use Rattle.ckc_emit.specs.code.Lines.{upper_of, offset_of, take_lines, load_lines, settle_lines, ask_lines}
use Rattle.ckc_emit.specs.code.CallLines.{place_at, restores_lines, result_lines, back_lines}
use Rattle.ckc_emit.proofs.Local.{Local, state_of}
use Rattle.ckc_emit.proofs.Steps.{set, set_other, with_x, reg_step, jalr_step, ends_step}
use Rattle.ckc_emit.proofs.Paths.{Code, LinesAt, Path, followed, loosened, Sets, set_by}
use Rattle.ckc_emit.proofs.Splits.{moved_none}
use Rattle.ckc_emit.proofs.FrameWords.{IsStackWord, sets_value, constant_sets, near_load_sets, lui_sets}
use Rattle.ckc_emit.proofs.Homes.{HasValue, HasPlaces, IsFramed, AreFrameStores, framed_kept, settle_writes}
use Rattle.ckc_emit.proofs.Relation.{unseen, world_kept, places_written}
use Rattle.ckc_emit.proofs.PlaceAt.{home_is, place_is}
use Rattle.ckc_emit.proofs.Saving.{Restores, restores, framed_same, low_apart}
use Rattle.ckc_emit.proofs.Jumping.{set_zero}
use Rattle.ckc_emit.proofs.Frames.{IsWaiting, IsFirst, AreWaiting, IsRelated, lines_of}
use Rattle.ckc_emit.proofs.Related.{May, Simulated, are_waiting_kept, frame_may}
use Rattle.ckc_emit.proofs.Leaving.{IsWhole, ends_at}
use Rattle.ckc_emit.proofs.Tests.{small_part}

target_within : (homes : List Place) (t : ℕ) → IfSome (Some t) (λ t. t < length homes) → t < length homes
target_within homes t h = h

-- ---- to the return address

module _ (c : Code) where
  -- The machine comes to the return address with a value in x10.
  record Leaves (l : Local) (pc v link : ℕ) : Type 0 where
    next : Local
    count : ℕ
    many : 1 ≤ count
    few : count ≤ 5
    travels : Travels (detailed_system c.parts) count [] (state_of c.parts l pc) (state_of c.parts next link)
    ten : next.x 10 ≡ v
    two : next.x 2 ≡ l.x 2
    zero_is : next.x 0 ≡ l.x 0
    words : next.words ≡ l.words
    bytes : next.bytes ≡ l.bytes
    input : next.input ≡ l.input

  return_word : (l m : Local) → IsFramed l → m.x 2 ≡ l.x 2 → IsStackWord c (m.x 2 + 0)
  return_word l m f e =
      let a = f.aligned in
      let b = f.low in
      let d = f.high in
      record { aligned = omega arith; low = omega arith; high = omega arith }

  leaves : (p : PlacedOperand) (v link pc : ℕ) (rest : List Line) (l : Local) → IsFramed l → IsOperand p → HasOperand l p v → v < 2 ^ 32 → l.words (l.x 2) ≡ link → link < 2 ^ 32 → link % 4 ≡ 0
      → LinesAt c pc (take_lines 10 p (load_lines 1 2 0 (Plain (Jalr 0 1 (pos 0)) ∷ rest))) → Leaves l pc v link
  leaves p v link pc rest l framed hp e fits here short aligned at =
      let y3 = Plain (Jalr 0 1 (pos 0)) ∷ rest in
      let y2 = load_lines 1 2 0 y3 in
      let s1 = take_sets c 10 p v y2 l framed hp e fits (omega arith) (omega arith) in
      let two : s1.next.x 2 ≡ l.x 2 = s1.other 2 (omega arith) (omega arith) in
      let none : s1.next.x 2 + 0 ≡ l.x 2 = omega arith in
      let there : s1.next.words (s1.next.x 2 + 0) ≡ link = ap (λ (f : ℕ → ℕ). f (s1.next.x 2 + 0)) s1.words ∙ ap l.words none ∙ here in
      let s2 = near_load_sets c 1 2 0 link y3 s1.next (omega arith) (omega arith) (omega arith) (omega arith) (return_word l s1.next framed two) there short in
      let path = followed c 1 3 1 1 (take_lines 10 p y2) y2 y3 [] [] l s1.next s2.next s1.path s2.path in
      let lead = path.leads pc at in
      let m = s2.next in
      let n : Local = with_x m (set m.x 0 (lead.to + 4)) in
      let reach : moved (m.x 1) (pos 0) ≡ link = ap (λ w. moved w (pos 0)) s2.value ∙ moved_none link short in
      let jump = one_travel (detailed_system c.parts) [] (state_of c.parts m lead.to) (state_of c.parts n link) (jalr_step c.parts m lead.to 0 1 (pos 0) link lead.there.0 (omega arith) (omega arith) reach aligned) in
      record {
        next = n;
        count = lead.count + 1;
        many = omega arith;
        few = omega (arith, lead.few);
        travels = then_travels (detailed_system c.parts) lead.count 1 [] [] (state_of c.parts l pc) (state_of c.parts m lead.to) (state_of c.parts n link) lead.travels jump;
        ten = set_other m.x 0 (lead.to + 4) 10 (omega arith) ∙ s2.other 10 (omega arith) (omega arith) ∙ s1.value;
        two = set_other m.x 0 (lead.to + 4) 2 (omega arith) ∙ s2.other 2 (omega arith) (omega arith) ∙ two;
        zero_is = set_zero m.x 0 (lead.to + 4) ∙ s2.other 0 (omega arith) (omega arith) ∙ s1.other 0 (omega arith) (omega arith);
        words = s2.words ∙ s1.words;
        bytes = s2.bytes ∙ s1.bytes;
        input = s2.input ∙ s1.input;
      }

  -- ---- what the caller does

  -- The machine comes to the lines after the call, where the caller has its places again, and the result.
  pub record ComesBack (xs ys : List Line) (l : Local) (base : ℕ) (places : Values) : Type 0 where
    next : Local
    events : List MachineEvent
    path : Path c 0 21 xs ys events l next
    stores : AreFrameStores base events
    framed : IsFramed next
    frame : next.x 2 ≡ base
    has : HasPlaces next places
    above : (a : ℕ) → (a ≡ base) ⊎ (base + 16384 ≤ a) → next.words a ≡ l.words a
    bytes : next.bytes ≡ l.bytes
    input : next.input ≡ l.input

  -- registers restored, the result in x10
  record Restored (xs ys : List Line) (l : Local) (base v : ℕ) (places : Values) : Type 0 where
    next : Local
    path : Path c 0 18 xs ys [] l next
    framed : IsFramed next
    frame : next.x 2 ≡ base
    ten : next.x 10 ≡ v
    has : HasPlaces next places
    words : next.words ≡ l.words
    bytes : next.bytes ≡ l.bytes
    input : next.input ≡ l.input

  -- what is known of the caller's places while it waits
  record IsKept (words : ℕ → ℕ) (base : ℕ) (places : Values) (test : ℕ → Bool) : Type 0 where
    saved : (q : Place) (w : ℕ) → IsPlace q → places (number_of q) ≡ Some w → words (base + offset_of q) ≡ w
    word : (q : Place) (w : ℕ) → IsPlace q → places (number_of q) ≡ Some w → w < 2 ^ 32
    tested : (k w : ℕ) → k < 16 → places k ≡ Some w → test k ≡ true

  restored_has : (l : Local) (base : ℕ) (places : Values) (test : ℕ → Bool) (xs ys : List Line) → l.x 2 ≡ base → IsKept l.words base places test → (t : Restores c test 16 0 xs ys l)
      → (q : Place) (w : ℕ) → IsPlace q → places (number_of q) ≡ Some w → HasValue t.next q w
  restored_has l base places test xs ys e kept t (place.Reg k) w h v =
      t.value k (omega arith) (omega arith) (kept.tested k w h v) ∙ ap (λ x. x % 2 ^ 32) (ap (λ b. l.words (b + (k * 4 + 16))) e ∙ kept.saved (place.Reg k) w h v) ∙ small_part w (kept.word (place.Reg k) w h v)
  restored_has l base places test xs ys e kept t (place.Slot k) w h v =
      ap (λ (f : ℕ → ℕ). f (t.next.x 2 + (k * 4 + 80))) t.words ∙ ap (λ b. l.words (b + (k * 4 + 80))) (t.other 2 (low_apart c 16 0 2 (omega arith) (inl (omega arith))) (omega arith) ∙ e) ∙ kept.saved (place.Slot k) w h v

  restored_by : (xs ys zs : List Line) (l m : Local) (base v : ℕ) (places : Values) (test : ℕ → Bool) → Path c 2 2 xs ys [] l m → IsFramed m → m.x 2 ≡ base → m.x 10 ≡ v
      → m.words ≡ l.words → m.bytes ≡ l.bytes → m.input ≡ l.input → IsKept l.words base places test → Restores c test 16 0 ys zs m → Restored xs zs l base v places
  restored_by xs ys zs l m base v places test path f e ten words bytes input kept t =
      let kept_m : IsKept m.words base places test = subst (λ (w : ℕ → ℕ). IsKept w base places test) (sym words) kept in
      let two : t.next.x 2 ≡ m.x 2 = t.other 2 (low_apart c 16 0 2 (omega arith) (inl (omega arith))) (omega arith) in
      record {
        next = t.next;
        path = loosened c (2 + 0) (2 + 16) 0 18 xs zs [] l t.next (omega arith) (omega arith) (followed c 2 2 0 16 xs ys zs [] [] l m t.next path t.path);
        framed = framed_same c m t.next (t.other 0 (low_apart c 16 0 0 (omega arith) (inl (omega arith))) (omega arith)) two f;
        frame = two ∙ e;
        ten = t.other 10 (low_apart c 16 0 10 (omega arith) (inr refl)) (omega arith) ∙ ten;
        has = record { has = restored_has m base places test ys zs e kept_m t; word = kept.word };
        words = t.words ∙ words;
        bytes = t.bytes ∙ bytes;
        input = t.input ∙ input;
      }

  raised : (l : Local) (below base : ℕ) (ys : List Line) → l.x 2 ≡ below → l.x 3 ≡ 4 * 2 ^ 12 → below + 16384 ≡ base → base < 2 ^ 32 → Sets c 1 1 (Plain (Reg Add 2 2 3) ∷ ys) ys l 2 base
  raised l below base ys e f under small =
      sets_value c 1 1 (Plain (Reg Add 2 2 3) ∷ ys) ys l 2 ((l.x 2 + l.x 3) % 2 ^ 32) base (omega arith)
      (set_by c (Reg Add 2 2 3) ys l 2 ((l.x 2 + l.x 3) % 2 ^ 32) (omega arith) (λ pc at. reg_step c.parts l pc Add 2 2 3 at (omega arith) (omega arith) (omega arith)))

  restored : (test : ℕ → Bool) (zs : List Line) (l : Local) (below base v : ℕ) (places : Values) → l.x 0 ≡ 0 → l.x 2 ≡ below → below + 16384 ≡ base → below % 4 ≡ 0 → stack_start ≤ below → base + 16384 ≤ memory_end → l.x 10 ≡ v
      → IsKept l.words base places test → Restored (Plain (Lui 3 4) ∷ Plain (Reg Add 2 2 3) ∷ restores_lines test 16 0 zs) zs l base v places
  restored test zs l below base v places z e under aligned low high ten kept =
      let ys = restores_lines test 16 0 zs in
      let y2 = Plain (Reg Add 2 2 3) ∷ ys in
      let t1 = lui_sets c 3 4 y2 l (omega arith) (omega arith) in
      let t2 = raised t1.next below base ys (t1.other 2 (omega arith) (omega arith) ∙ e) t1.value under (omega arith) in
      let f : IsFramed t2.next = record {
        zero = t2.other 0 (omega arith) (omega arith) ∙ t1.other 0 (omega arith) (omega arith) ∙ z;
        aligned = subst (λ b. b % 4 ≡ 0) (sym t2.value) (let a : base % 4 ≡ 0 = omega arith in a);
        low = subst (λ b. stack_start ≤ b) (sym t2.value) (let a : stack_start ≤ base = omega arith in a);
        high = subst (λ b. b + 16384 ≤ memory_end) (sym t2.value) high;
      } in
      restored_by (Plain (Lui 3 4) ∷ y2) ys zs l t2.next base v places test
      (followed c 1 1 1 1 (Plain (Lui 3 4) ∷ y2) y2 ys [] [] l t1.next t2.next t1.path t2.path) f t2.value
      (t2.other 10 (omega arith) (omega arith) ∙ t1.other 10 (omega arith) (omega arith) ∙ ten) (t2.words ∙ t1.words) (t2.bytes ∙ t1.bytes) (t2.input ∙ t1.input) kept
      (restores c test 16 0 zs t2.next (omega arith) f)

  comes_back : (homes : List Place) (target : Option ℕ) (xs rest : List Line) (l : Local) (base v : ℕ) (places : Values) → All IsPlace homes → IfSome target (λ t. t < length homes) → v < 2 ^ 32
      → Restored xs (result_lines homes target rest) l base v places → ComesBack xs rest l base (with_result_at homes places target v)
  comes_back homes None xs rest l base v places good over fits s = record {
    next = s.next;
    events = [];
    path = loosened c 0 18 0 21 xs rest [] l s.next (omega arith) (omega arith) s.path;
    stores = tt;
    framed = s.framed;
    frame = s.frame;
    has = s.has;
    above = λ a o. ap (λ (f : ℕ → ℕ). f a) s.words;
    bytes = s.bytes;
    input = s.input;
  }
  comes_back homes (Some t) xs rest l base v places good over fits s =
      let p = place_at homes t in
      let within = target_within homes t over in
      let hp = place_is homes t within good in
      let y = settle_lines p 10 rest in
      let w = settle_writes c p 10 v rest s.next s.framed hp (omega arith) (omega arith) s.ten fits in
      let at : ◌≡◌ {A = Values} (with_written places (number_of p) v) (with_written places (home homes t) v) = ap (λ q. with_written places q v) (sym (home_is homes t within)) in
      record {
        next = w.next;
        events = w.events;
        path = loosened c (0 + 1) (18 + 3) 0 21 xs rest w.events l w.next (omega arith) (omega arith) (followed c 0 18 1 3 xs y rest [] w.events l s.next w.next s.path w.path);
        stores = subst (λ b. AreFrameStores b w.events) s.frame w.stores;
        framed = framed_kept s.next w.next s.framed w.keeps;
        frame = w.keeps.frame ∙ s.frame;
        has = subst (HasPlaces w.next) at (places_written c 1 3 y rest s.next p v places hp fits s.has w);
        above = λ a o. w.keeps.above a (subst (λ b. (a ≡ b) ⊎ (b + 16384 ≤ a)) (sym s.frame) o) ∙ ap (λ (f : ℕ → ℕ). f a) s.words;
        bytes = w.bytes ∙ s.bytes;
        input = w.input ∙ s.input;
      }

-- ---- the simulation

module _ (c : Code) where
  back_aligned : (link : ℕ) (rest : List Line) → LinesAt c link (Plain (Lui 3 4) ∷ rest) → link % 4 ≡ 0
  back_aligned link rest at = at.0.aligned

  -- the end asks with constant_lines 17 0, one ADDI
  asked_aligned : (link : ℕ) (rest : List Line) → LinesAt c link (ask_lines 0 rest) → link % 4 ≡ 0
  unfolding upper_of
  asked_aligned link rest at = at.0.aligned

module _ (functions : List PlacedFunc) (c : Code) (main : ℕ) (whole : IsWhole functions c main) (s : State) (l : Local) (pc : ℕ) (r : IsRelated functions c s l pc)
    (a : Operand) (none : s.frame.ops ≡ []) (end : s.frame.end ≡ Return a) (within : IsOperandOver s.frame.function.code.regs a) where
  abbrev f : PlacedFunc
  f = s.frame.function

  abbrev p : PlacedOperand
  p = operand_at f.homes a

  good_place : IsOperand p
  good_place = operand_is f r.at.placed a within

  value_is : (v : ℕ) → value_in (registers_of s.frame) a ≡ Some v → operand_value s.frame.places p ≡ Some v
  value_is v e = operand_found f r.at.placed s.frame.places a v within e

  value_small : (v : ℕ) → value_in (registers_of s.frame) a ≡ Some v → v < 2 ^ 32
  value_small v e = operand_word l s.frame.places r.has p v good_place (value_is v e)

  leaves_for : (v link : ℕ) → value_in (registers_of s.frame) a ≡ Some v → l.words (l.x 2) ≡ link → link < 2 ^ 32 → link % 4 ≡ 0 → Leaves c l pc v link
  leaves_for v link e here short aligned =
      leaves c p v link pc r.at.behind l r.framed good_place (operand_has l s.frame.places r.has p v good_place (value_is v e)) (value_small v e) here short aligned
      (ends_at functions c main whole s l pc r (Return a) none end)

  -- ---- the end of the program

  ends_first : (v : ℕ) → value_in (registers_of s.frame) a ≡ Some v → IsFirst functions c l.words (l.x 2) → Simulated functions c s (state_of c.parts l pc) (Halts [] (Ended v))
  ends_first v e first =
      let link = l.words (l.x 2) in
      let k = leaves_for v link e refl first.short (asked_aligned c link first.rest first.back) in
      let m = k.next in
      let y = Plain Ecall ∷ first.rest in
      let t = constant_sets c 17 0 y m (omega arith) (omega arith) (omega arith) (k.zero_is ∙ r.framed.zero) in
      let lead = t.path.leads link first.back in
      let ten : t.next.x 10 ≡ v = t.other 10 (omega arith) (omega arith) ∙ k.ten in
      let halt = one_halt (detailed_system c.parts) [] (state_of c.parts t.next lead.to) (Ended v) (ends_step c.parts t.next lead.to lead.there.0 t.value ∙ ap (λ x. Halts [] (Ended x)) ten) in
      inr (record {
        count = k.count + (lead.count + 1);
        lower = [];
        few = omega (arith, k.few, lead.few);
        over = tt;
        closes = then_closes (detailed_system c.parts) k.count (lead.count + 1) [] [] (state_of c.parts l pc) (state_of c.parts m link) (Ended v) k.travels.stretch
            (then_closes (detailed_system c.parts) lead.count 1 [] [] (state_of c.parts m link) (state_of c.parts t.next lead.to) (Ended v) lead.travels.stretch halt);
        seen = refl;
        allowed = All-nil (May s);
        beside = λ j. tt;
      })

  -- ---- to a caller

  module _ (caller : Caller) (callers : List Caller) (all : s.callers ≡ caller ∷ callers) (w : IsWaiting functions c l.words (l.x 2) caller) (ws : AreWaiting functions c l.words (l.x 2 + 16384) callers)
      (v : ℕ) (e : value_in (registers_of s.frame) a ≡ Some v) where
    abbrev g : PlacedFunc
    g = caller.frame.function

    abbrev places : Values
    places = with_result_at g.homes caller.frame.places caller.target v

    abbrev next : State
    next = record s { frame = record caller.frame { places = places }; callers = callers }

    abbrev marks : List Bool
    marks = marks_of (slice_get g.kept w.call)

    abbrev rest : List Line
    rest = lines_of functions c caller.frame w.at

    abbrev link : ℕ
    link = l.words (l.x 2)

    abbrev base : ℕ
    base = l.x 2 + 16384

    depth_is : base + 16384 * (length callers + 1) ≡ 0x04000000
    depth_is =
        let d : l.x 2 + 16384 * (suc (length callers) + 1) ≡ 0x04000000 = subst (λ (cs : List Caller). l.x 2 + 16384 * (length cs + 1) ≡ 0x04000000) all r.depth in
        omega arith

    abbrev test : ℕ → Bool
    test = λ k. is_kept_home k g.homes marks

    kept_is : (m : Local) → m.words ≡ l.words → IsKept c m.words base caller.frame.places test
    kept_is m words = subst (λ (f : ℕ → ℕ). IsKept c f base caller.frame.places test) (sym words) (record { saved = w.saved; word = w.word; tested = w.kept })

    target_is : IfSome caller.target (λ t. t < length g.homes)
    target_is = subst (λ n. IfSome caller.target (λ t. t < n)) (sym w.at.placed.homes) w.target_over

    comes : (m : Local) → m.x 0 ≡ l.x 0 → m.x 2 ≡ l.x 2 → m.x 10 ≡ v → m.words ≡ l.words → ComesBack c (back_lines g.homes marks caller.target rest) rest m base places
    comes m zeroed two ten words =
        let aligned = r.framed.aligned in
        let low = r.framed.low in
        let d = depth_is in
        comes_back c g.homes caller.target (back_lines g.homes marks caller.target rest) rest m base v caller.frame.places w.at.placed.places target_is (value_small v e)
        (restored c test (result_lines g.homes caller.target rest) m (l.x 2) base v caller.frame.places (zeroed ∙ r.framed.zero) two refl aligned low (omega arith) ten (kept_is m words))

    back_related : (m : Local) (to : ℕ) → m.words ≡ l.words → m.bytes ≡ l.bytes → m.input ≡ l.input → (k : ComesBack c (back_lines g.homes marks caller.target rest) rest m base places)
        → LinesAt c to rest → IsRelated functions c next k.next to
    back_related m to words bytes input k there = record {
      framed = k.framed;
      depth = ap (λ b. b + 16384 * (length callers + 1)) k.frame ∙ depth_is;
      has = k.has;
      world = world_kept c l k.next s.world (k.bytes ∙ bytes) (k.input ∙ input) r.world;
      at = record {
        index = w.at.index;
        is = w.at.is;
        placed = w.at.placed;
        ops_over = w.at.ops_over;
        end_over = w.at.end_over;
        next = w.at.next;
        behind = w.at.behind;
        falls = w.at.falls;
      };
      here = there;
      callers = subst (λ b. AreWaiting functions c k.next.words b callers) (sym k.frame)
          (are_waiting_kept functions c l.words k.next.words base callers (λ q o. k.above q o ∙ ap (λ (f : ℕ → ℕ). f q) words) ws);
    }

    returns_to : Simulated functions c s (state_of c.parts l pc) (Goes (Returned ∷ []) next)
    returns_to =
        let k = leaves_for v link e refl w.short (back_aligned c link (Plain (Reg Add 2 2 3) ∷ restores_lines test 16 0 (result_lines g.homes caller.target rest)) w.back) in
        let b = comes k.next k.zero_is k.two k.ten k.words in
        let lead = b.path.leads link w.back in
        let low = r.framed.low in
        record {
          count = k.count;
          lower = [];
          via = state_of c.parts k.next link;
          to = state_of c.parts b.next lead.to;
          few = omega (arith, k.few);
          goes_on = inl k.many;
          travels = k.travels;
          seen = refl;
          keeps = record { allowed = All-nil (May s); beside = λ j h. tt };
          nears = record {
            count = lead.count;
            events = b.events;
            few = lead.few;
            travels = lead.travels;
            unseen = unseen c base b.events (omega arith) b.stores;
            keeps = record { allowed = frame_may next base depth_is b.events b.stores; beside = λ j h. tt };
          };
          related = (b.next, lead.to, refl, back_related k.next lead.to k.words k.bytes k.input b lead.there);
        }

  returns_from : (cs : List Caller) (o : Option ℕ) → s.callers ≡ cs → value_in (registers_of s.frame) a ≡ o → Simulated functions c s (state_of c.parts l pc) (returns s cs o)
  returns_from [] (Some v) all e = ends_first v e (subst (AreWaiting functions c l.words (l.x 2)) all r.callers)
  returns_from (caller ∷ callers) (Some v) all e =
      let w = subst (AreWaiting functions c l.words (l.x 2)) all r.callers in
      returns_to caller callers all w.0 w.1 v e
  returns_from [] None all e = inl refl
  returns_from (caller ∷ callers) None all e = inl refl

  pub return_simulates : Simulated functions c s (state_of c.parts l pc) (returns s s.callers (value_in (registers_of s.frame) a))
  return_simulates = returns_from s.callers (value_in (registers_of s.frame) a) refl refl
