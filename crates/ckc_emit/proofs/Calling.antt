-- The lines of a call, up to the jump to the called function: registers are saved, the depth is checked, and the
-- arguments are at the places of the parameters, in the frame below.
use Rattle.std.proofs.Common.{◌≡◌, ◌≢◌, ℕ, suc, ◌+◌, ◌*◌, ◌%◌, ◌^◌, ◌≤◌, ◌<◌, ◌==◌, Bool, true, List, [], ◌∷◌, ◌++◌, length, Option, Some, None, option_and_then, refl, sym, ap, subst, ◌∙◌, arith}
use Rattle.std.specs.Prelude.{All, pos}
use Rattle.std.specs.Option.{option_map}
use Rattle.std.proofs.lemmas.List.Elements.{All-head, All-tail}
use Rattle.ckc_base.specs.declared.places.Pos.{Pos}
use Rattle.ckc_base.specs.declared.runtime_checks.Check.TheVariants.{Depth}
use Rattle.ckc_base.specs.Traces.{Stopped}
use Rattle.ckc_base.specs.Activations.{Values}
use Rattle.ckc_rv_operations.specs.declared.operations.BranchOp.TheVariants.{Bne}
use Rattle.ckc_rv_operations.specs.declared.operations.RegOp.TheVariants.{Add}
use Rattle.ckc_rv_operations.specs.declared.operations.ImmOp.TheVariants.{Addi}
use Rattle.ckc_rv.specs.declared.instructions.Instr.TheVariants.{Lui, Imm, Reg}
use Rattle.ckc_rv.specs.Machine.{stack_start}
use Rattle.ckc_rv.specs.Detailed.{MachineEvent}
use Rattle.ckc_asm_lines.specs.declared.lines.Line.{Line}
use Rattle.ckc_asm_lines.specs.declared.lines.Line.TheVariants.{Plain}
use Rattle.ckc_tac.specs.Operations.{values_in}
use Rattle.ckc_frame.specs.declared.code.Place.{Place}
use Rattle.ckc_frame.specs.declared.code.Place.TheVariants as place
use Rattle.ckc_frame.specs.Places.{number_of, home, registers_in, entry_places}
use Rattle.ckc_frame.specs.WellFormed.{IsPlace}
use Rattle.ckc_emit.specs.code.Lines.{register_of, offset_of, check_lines}
use Rattle.ckc_emit.specs.code.CallLines.{place_at, is_argument_home, saves_lines, depth_lines, arguments_lines}
use Rattle.ckc_emit.proofs.Local.{Local}
use Rattle.ckc_emit.proofs.Paths.{Code, Path, Halting, followed, loosened, then_halting}
use Rattle.ckc_emit.proofs.FrameWords.{move_sets, lui_sets}
use Rattle.ckc_emit.proofs.Homes.{HasValue, HasPlaces, IsFramed, register_is, AreFrameStores}
use Rattle.ckc_emit.proofs.Acting.{plain_sets}
use Rattle.ckc_emit.proofs.Checking.{bne_taken, bne_passed, check_passes, check_stops}
use Rattle.ckc_emit.proofs.PlaceAt.{home_is, place_is}
use Rattle.ckc_emit.proofs.Saving.{register_word, Saves, saves, framed_same}
use Rattle.ckc_emit.proofs.Passing.{HasBelow, IsBelow, HasArguments, PassesAll, passes_all, stores_join}
use Rattle.ckc_emit.proofs.Operands.{place_value}
use Rattle.ckc_emit.proofs.Tests.{eq_is, or_first, or_second}

-- ---- the values of arguments

-- what of a list of values is known, if the first and the rest are
pub record IsSplit (o : Option ℕ) (more : Option (List ℕ)) (values : List ℕ) : Type 0 where
  pub first : ℕ
  pub rest : List ℕ
  pub first_is : o ≡ Some first
  pub rest_is : more ≡ Some rest
  pub whole : values ≡ first ∷ rest

some_list : (x y : List ℕ) → ◌≡◌ {A = Option (List ℕ)} (Some x) (Some y) → x ≡ y
some_list x y e = cc

split_values : (o : Option ℕ) (more : Option (List ℕ)) (values : List ℕ) → option_and_then (λ v. option_map (λ vs. v ∷ vs) more) o ≡ Some values → IsSplit o more values
split_values (Some v) (Some vs) values e = record { first = v; rest = vs; first_is = refl; rest_is = refl; whole = sym (some_list (v ∷ vs) values e) }
split_values (Some v) None values e = absurd cc
split_values None more values e = absurd cc

-- the words of the frame that a call reads its arguments from
pub record IsStored (l m : Local) (test : ℕ → Bool) : Type 0 where
  pub frame : m.x 2 ≡ l.x 2
  pub saved : (j : ℕ) → j < 16 → test j ≡ true → m.words (register_word l j) ≡ l.x (register_of j)
  pub slots : (k : ℕ) → m.words (l.x 2 + (k * 4 + 80)) ≡ l.words (l.x 2 + (k * 4 + 80))

argument_word : (l m : Local) (test : ℕ → Bool) (p : Place) (v : ℕ) → IsStored l m test → IsPlace p → HasValue l p v → ((k : ℕ) → number_of p ≡ k → test k ≡ true) → m.words (l.x 2 + offset_of p) ≡ v
argument_word l m test (place.Reg k) v s h e named = s.saved k h (named k refl) ∙ e
argument_word l m test (place.Slot k) v s h e named = s.slots k ∙ e

module _ (c : Code) (homes : List Place) (regs : ℕ) (count : length homes ≡ regs) (good : All IsPlace homes) (places : Values) where
  -- all arguments are in the frame, once it has what is saved
  pub arguments_are : (rs vs : List ℕ) (l m : Local) (test : ℕ → Bool) → HasPlaces l places → IsStored l m test → values_in (registers_in homes places) rs ≡ Some vs → All (λ r. r < regs) rs
      → ((k : ℕ) → is_argument_home k homes rs ≡ true → test k ≡ true) → HasArguments c m homes rs vs
  arguments_are [] [] l m test has s e a named = tt
  arguments_are [] (v ∷ vs) l m test has s e a named = absurd cc
  arguments_are (r ∷ rs) vs l m test has s e a named =
      let p = split_values (registers_in homes places r) (values_in (registers_in homes places) rs) vs e in
      let within : r < length homes = omega (arith, All-head (λ r. r < regs) r rs a) in
      let at = place_at homes r in
      let here = place_is homes r within good in
      let value = place_value homes places r p.first within p.first_is in
      let later = arguments_are rs p.rest l m test has s p.rest_is (All-tail (λ r. r < regs) r rs a) (λ k t. named k (or_second (home homes r == k) (is_argument_home k homes rs) t)) in
      let word : m.words (m.x 2 + offset_of at) ≡ p.first = ap (λ b. m.words (b + offset_of at)) s.frame
      ∙ argument_word l m test at p.first s here (has.has at p.first here value) (λ k same. named k (or_first (home homes r == k) (is_argument_home k homes rs) (eq_is (home homes r) k (home_is homes r within ∙ same)))) in
      subst (HasArguments c m homes (r ∷ rs)) (sym p.whole) (here, word, has.word at p.first here value, later)

  values_many : (rs vs : List ℕ) → values_in (registers_in homes places) rs ≡ Some vs → length vs ≡ length rs
  values_many [] [] e = refl
  values_many [] (v ∷ vs) e = absurd cc
  values_many (r ∷ rs) vs e =
      let p = split_values (registers_in homes places r) (values_in (registers_in homes places) rs) vs e in
      ap length p.whole ∙ ap suc (values_many rs p.rest p.rest_is)

-- ---- up to the jump

module _ (c : Code) where
  -- On the way from xs to ys the machine goes to the frame below, with the arguments in it.
  pub record Descends (most : ℕ) (xs ys : List Line) (l : Local) (test : ℕ → Bool) (params : List Place) (values : List ℕ) (below : ℕ) : Type 0 where
    pub next : Local
    pub stored : List MachineEvent
    pub passed : List MachineEvent
    pub path : Path c 1 most xs ys (stored ++ passed) l next
    pub stores : AreFrameStores (l.x 2) stored
    pub passes : AreFrameStores below passed
    pub zero_is : next.x 0 ≡ 0
    pub frame : next.x 2 ≡ below
    pub saved : (j : ℕ) → j < 16 → test j ≡ true → next.words (register_word l j) ≡ l.x (register_of j)
    pub elsewhere : (a : ℕ) → l.x 2 ≤ a → ((j : ℕ) → j < 16 → a ≢ register_word l j) → next.words a ≡ l.words a
    pub has : (q : Place) (w : ℕ) → IsPlace q → entry_places params 0 values (number_of q) ≡ Some w → HasValue next q w
    pub word : (q : Place) (w : ℕ) → IsPlace q → entry_places params 0 values (number_of q) ≡ Some w → w < 2 ^ 32
    pub bytes : next.bytes ≡ l.bytes
    pub input : next.input ≡ l.input

  -- a place of the frame at x3 is one of the frame at x2, once x2 is x3
  lands : (l m : Local) (q : Place) (w : ℕ) → m.x 2 ≡ l.x 3 → ((r : ℕ) → r ≢ 2 → r ≢ 7 → m.x r ≡ l.x r) → m.words ≡ l.words → IsPlace q → HasBelow l q w → HasValue m q w
  lands l m (place.Reg k) w e other words h v =
      let i = register_is k h in
      let low = i.low in
      other (register_of k) (omega arith) (omega arith) ∙ v
  lands l m (place.Slot k) w e other words h v = ap (λ (f : ℕ → ℕ). f (m.x 2 + (k * 4 + 80))) words ∙ ap (λ b. l.words (b + (k * 4 + 80))) e ∙ v

  sunk : (base below : ℕ) → below + 16384 ≡ base → base < 2 ^ 31 → (0xFFFFC * 2 ^ 12 + base) % 2 ^ 32 ≡ below
  sunk base below e h = omega arith

  -- The depth allows one more call, and x3 is the frame below.
  record Sinks (xs ys : List Line) (l : Local) (below : ℕ) : Type 0 where
    next : Local
    path : Path c 4 5 xs ys [] l next
    three : next.x 3 ≡ below
    other : (r : ℕ) → r ≢ 5 → r ≢ 7 → r ≢ 3 → next.x r ≡ l.x r
    words : next.words ≡ l.words
    bytes : next.bytes ≡ l.bytes
    input : next.input ≡ l.input

  sinks : (at : Pos) (ys : List Line) (l : Local) (base below : ℕ) → l.x 2 ≡ base → below + 16384 ≡ base → base < 2 ^ 31 → stack_start ≤ below → Sinks (depth_lines at ys) ys l below
  sinks at ys l base below frame under high low =
      let y5 = Plain (Reg Add 3 3 2) ∷ ys in
      let y4 = Plain (Lui 3 0xFFFFC) ∷ y5 in
      let y3 = check_lines Bne 2 5 Depth at y4 in
      let y2 = Plain (Lui 5 0x3000) ∷ y3 in
      let s2 = lui_sets c 5 0x3000 y3 l (omega arith) (omega arith) in
      let two : s2.next.x 2 ≡ base = s2.other 2 (omega arith) (omega arith) ∙ frame in
      let apart : s2.next.x 2 ≢ s2.next.x 5 = λ same. (let e : base ≡ 0x3000 * 2 ^ 12 = sym two ∙ same ∙ s2.value in omega arith) in
      let p3 = check_passes c Bne 2 5 Depth at y4 s2.next (omega arith) (omega arith) (bne_taken c (s2.next.x 2) (s2.next.x 5) apart) in
      let s4 = lui_sets c 3 0xFFFFC y5 s2.next (omega arith) (omega arith) in
      let s5 = plain_sets c Add below 3 3 2 (0xFFFFC * 2 ^ 12) base ys s4.next (omega arith) (omega arith) (omega arith) (omega arith) s4.value (s4.other 2 (omega arith) (omega arith) ∙ two) (sunk base below under high) in
      record {
        next = s5.next;
        path = followed c 1 1 (1 + (1 + 1)) (1 + (1 + 2)) y2 y3 ys [] [] l s2.next s5.next s2.path
            (followed c 1 1 (1 + 1) (1 + 2) y3 y4 ys [] [] s2.next s2.next s5.next p3
            (followed c 1 1 1 2 y4 y5 ys [] [] s2.next s4.next s5.next s4.path s5.path));
        three = s5.value;
        other = λ r a b d. s5.other r d b ∙ s4.other r d b ∙ s2.other r a b;
        words = s5.words ∙ s4.words ∙ s2.words;
        bytes = s5.bytes ∙ s4.bytes ∙ s2.bytes;
        input = s5.input ∙ s4.input ∙ s2.input;
      }

  -- before the arguments
  record Prepared (xs ys : List Line) (l : Local) (test : ℕ → Bool) (below : ℕ) : Type 0 where
    next : Local
    stored : List MachineEvent
    path : Path c 4 21 xs ys stored l next
    stores : AreFrameStores (l.x 2) stored
    under_is : IsBelow next
    three : next.x 3 ≡ below
    stored_is : IsStored l next test
    zero_is : next.x 0 ≡ 0
    elsewhere : (a : ℕ) → ((j : ℕ) → j < 16 → a ≢ register_word l j) → next.words a ≡ l.words a
    bytes : next.bytes ≡ l.bytes
    input : next.input ≡ l.input

  prepared_by : (test : ℕ → Bool) (at : Pos) (ys : List Line) (l : Local) (below : ℕ) → IsFramed l → below + 16384 ≡ l.x 2 → stack_start ≤ below
      → (a : Saves c test 16 0 (saves_lines test 16 0 (depth_lines at ys)) (depth_lines at ys) l) → Sinks (depth_lines at ys) ys a.next below
      → Prepared (saves_lines test 16 0 (depth_lines at ys)) ys l test below
  prepared_by test at ys l below framed under low a s =
      let kept : (r : ℕ) → r ≢ 5 → r ≢ 7 → r ≢ 3 → s.next.x r ≡ l.x r = λ r i j k. s.other r i j k ∙ a.other r j in
      let two : s.next.x 2 ≡ l.x 2 = kept 2 (omega arith) (omega arith) (omega arith) in
      let zeroed : s.next.x 0 ≡ l.x 0 = kept 0 (omega arith) (omega arith) (omega arith) in
      let words : (q : ℕ) → s.next.words q ≡ a.next.words q = λ q. ap (λ (f : ℕ → ℕ). f q) s.words in
      record {
        next = s.next;
        stored = a.events ++ [];
        path = loosened c (0 + 4) (16 + 5) 4 21 (saves_lines test 16 0 (depth_lines at ys)) ys (a.events ++ []) l s.next (omega arith) (omega arith)
            (followed c 0 16 4 5 (saves_lines test 16 0 (depth_lines at ys)) (depth_lines at ys) ys a.events [] l a.next s.next a.path s.path);
        stores = stores_join c (l.x 2) a.events [] a.stores tt;
        under_is = record { framed = framed_same c l s.next zeroed two framed; next = ap (λ b. b + 16384) s.three ∙ under ∙ sym two; low = subst (λ b. stack_start ≤ b) (sym s.three) low };
        three = s.three;
        stored_is = record {
          frame = two;
          saved = λ j h t. words (register_word l j) ∙ a.saved j (omega arith) (omega arith) t;
          slots = λ k. words (l.x 2 + (k * 4 + 80)) ∙ a.elsewhere (l.x 2 + (k * 4 + 80)) (λ j from less. omega arith);
        };
        zero_is = zeroed ∙ framed.zero;
        elsewhere = λ q off. words q ∙ a.elsewhere q (λ j from less. off j (omega arith));
        bytes = s.bytes ∙ a.bytes;
        input = s.input ∙ a.input;
      }

  prepares : (test : ℕ → Bool) (at : Pos) (ys : List Line) (l : Local) (below : ℕ) → IsFramed l → below + 16384 ≡ l.x 2 → stack_start ≤ below
      → Prepared (saves_lines test 16 0 (depth_lines at ys)) ys l test below
  prepares test at ys l below framed under low =
      let high = framed.high in
      let a = saves c test 16 0 (depth_lines at ys) l (omega arith) framed in
      prepared_by test at ys l below framed under low a (sinks at ys a.next (l.x 2) below (a.other 2 (omega arith)) under (omega arith) low)

  descended_by : (homes params : List Place) (rs vs : List ℕ) (test : ℕ → Bool) (xs ys : List Line) (l : Local) (below : ℕ)
      → (m : Prepared xs (arguments_lines homes rs 0 params (Plain (Imm Addi 2 3 (pos 0)) ∷ ys)) l test below) → below < 2 ^ 32
      → PassesAll c (length rs) (arguments_lines homes rs 0 params (Plain (Imm Addi 2 3 (pos 0)) ∷ ys)) (Plain (Imm Addi 2 3 (pos 0)) ∷ ys) m.next params 0 vs
      → Descends (22 + 6 * length rs) xs ys l test params vs below
  descended_by homes params rs vs test xs ys l below m small t =
      let y7 = Plain (Imm Addi 2 3 (pos 0)) ∷ ys in
      let y6 = arguments_lines homes rs 0 params y7 in
      let three : t.next.x 3 ≡ below = t.keeps.below ∙ m.three in
      let s = move_sets c 2 3 below ys t.next (omega arith) (omega arith) (omega arith) three small in
      let above : (a : ℕ) → l.x 2 ≤ a → s.next.words a ≡ m.next.words a = λ a h.
      ap (λ (f : ℕ → ℕ). f a) s.words ∙ t.keeps.above a (subst (λ b. b ≤ a) (sym m.stored_is.frame) h) in
      let q = length rs * 6 in
      record {
        next = s.next;
        stored = m.stored;
        passed = t.events ++ [];
        path = loosened c (4 + (0 + 1)) (21 + (q + 1)) 1 (22 + 6 * length rs) xs ys (m.stored ++ (t.events ++ [])) l s.next (omega arith) (omega arith)
            (followed c 4 21 (0 + 1) (q + 1) xs y6 ys m.stored (t.events ++ []) l m.next s.next m.path
            (followed c 0 q 1 1 y6 y7 ys t.events [] m.next t.next s.next t.path s.path));
        stores = m.stores;
        passes = stores_join c below t.events [] (subst (λ b. AreFrameStores b t.events) m.three t.stores) tt;
        zero_is = s.other 0 (omega arith) (omega arith) ∙ t.keeps.zero ∙ m.zero_is;
        frame = s.value;
        saved = λ j h n. above (register_word l j) (omega arith) ∙ m.stored_is.saved j h n;
        elsewhere = λ a h off. above a h ∙ m.elsewhere a off;
        has = λ p w h e. lands t.next s.next p w (s.value ∙ sym three) s.other s.words h (t.has p w h e);
        word = t.word;
        bytes = s.bytes ∙ t.bytes ∙ m.bytes;
        input = s.input ∙ t.input ∙ m.input;
      }

  pub descends : (homes params : List Place) (rs vs : List ℕ) (test : ℕ → Bool) (at : Pos) (ys : List Line) (l : Local) (below : ℕ) → IsFramed l → below + 16384 ≡ l.x 2 → stack_start ≤ below
      → length rs ≤ length params → All IsPlace params → ((m : Local) → IsStored l m test → HasArguments c m homes rs vs)
      → Descends (22 + 6 * length rs) (saves_lines test 16 0 (depth_lines at (arguments_lines homes rs 0 params (Plain (Imm Addi 2 3 (pos 0)) ∷ ys)))) ys l test params vs below
  descends homes params rs vs test at ys l below framed under low few good arguments =
      let high = framed.high in
      let y7 = Plain (Imm Addi 2 3 (pos 0)) ∷ ys in
      let m = prepares test at (arguments_lines homes rs 0 params y7) l below framed under low in
      descended_by homes params rs vs test (saves_lines test 16 0 (depth_lines at (arguments_lines homes rs 0 params y7))) ys l below m (omega arith)
      (passes_all c homes params rs vs 0 y7 m.next (omega arith) good m.under_is (arguments m.next m.stored_is))

  -- ---- one call too many

  -- If the frame is the lowest, the machine stops, after the registers are saved.
  pub record TooDeep (xs : List Line) (l : Local) (at : Pos) : Type 0 where
    pub mid : Local
    pub ys : List Line
    pub stored : List MachineEvent
    pub path : Path c 0 16 xs ys stored l mid
    pub stores : AreFrameStores (l.x 2) stored
    pub halting : Halting c 11 ys mid (Stopped Depth at)

  pub too_deep : (test : ℕ → Bool) (at : Pos) (rest : List Line) (l : Local) → IsFramed l → l.x 2 ≡ stack_start → at.line < 2 ^ 32 → at.col < 2 ^ 32
      → TooDeep (saves_lines test 16 0 (depth_lines at rest)) l at
  too_deep test at rest l framed last fl fc =
      let y4 = Plain (Lui 3 0xFFFFC) ∷ Plain (Reg Add 3 3 2) ∷ rest in
      let y3 = check_lines Bne 2 5 Depth at y4 in
      let y2 = Plain (Lui 5 0x3000) ∷ y3 in
      let s1 = saves c test 16 0 y2 l (omega arith) framed in
      let s2 = lui_sets c 5 0x3000 y3 s1.next (omega arith) (omega arith) in
      let two : s2.next.x 2 ≡ stack_start = s2.other 2 (omega arith) (omega arith) ∙ s1.other 2 (omega arith) ∙ last in
      let z : s2.next.x 0 ≡ 0 = s2.other 0 (omega arith) (omega arith) ∙ s1.other 0 (omega arith) ∙ framed.zero in
      record {
        mid = s1.next;
        ys = y2;
        stored = s1.events;
        path = s1.path;
        stores = s1.stores;
        halting = then_halting c 1 1 10 y2 y3 s1.next s2.next (Stopped Depth at) s2.path (check_stops c Bne 2 5 Depth at y4 s2.next (omega arith) (omega arith) (bne_passed c (s2.next.x 2) (s2.next.x 5) (two ∙ sym s2.value)) z fl fc);
      }
