-- A call is simulated: the called function is entered in the frame below, or the machine stops.
use Rattle.std.proofs.Common.{◌≡◌, ◌≢◌, ◌⊎◌, inl, inr, ℕ, zero, suc, ◌+◌, ◌-◌, ◌*◌, ◌%◌, ◌^◌, ◌≤◌, ◌<◌, if◌then◌else◌, Bool, true, false, List, [], ◌∷◌, ◌++◌, length, map, Option, Some, None, refl, sym, ap, subst, ◌∙◌, arith}
use Rattle.std.specs.Prelude.{All, flat_map}
use Rattle.std.specs.List.{slice_get}
use Rattle.std.proofs.lemmas.Grind.{flat_map-append}
use Rattle.std.proofs.lemmas.List.Elements.{All-head, All-tail, All-append, All-nil}
use Rattle.ckc_base.specs.declared.places.Pos.{Pos}
use Rattle.ckc_base.specs.declared.runtime_checks.Check.TheVariants.{Depth}
use Rattle.ckc_base.specs.Traces.{Stopped}
use Rattle.ckc_base.specs.LongEvents.{Entered}
use Rattle.ckc_base.specs.Activations.{Values, has_room}
use Rattle.ckc_base.specs.Steps.{Halts}
use Rattle.ckc_base.specs.States.{Travels}
use Rattle.ckc_base.proofs.Runs.{then_closes}
use Rattle.ckc_base.proofs.Travelling.{then_travels}
use Rattle.ckc_rv.specs.Machine.{stack_start}
use Rattle.ckc_rv.specs.Detailed.{MachineEvent, Wrote, detailed_system}
use Rattle.ckc_asm_lines.specs.declared.lines.Line.{Line}
use Rattle.ckc_asm_lines.specs.declared.lines.Line.TheVariants.{Label, Far}
use Rattle.ckc_tac.specs.declared.code.TacBlock.{TacBlock}
use Rattle.ckc_tac.specs.declared.code.TacFunc.{TacFunc}
use Rattle.ckc_tac.specs.declared.code.TacOp.{TacOp}
use Rattle.ckc_tac.specs.declared.code.TacOp.TheVariants.{Call}
use Rattle.ckc_tac.specs.Operations.{values_in}
use Rattle.ckc_tac.specs.Meaning.{extra_steps}
use Rattle.ckc_tac.specs.WellFormed.{IsOpOver, IsBlockOver, HasParams}
use Rattle.ckc_frame.specs.declared.code.Place.{Place}
use Rattle.ckc_frame.specs.declared.code.Place.TheVariants as place
use Rattle.ckc_frame.specs.declared.code.PlacedFunc.{PlacedFunc}
use Rattle.ckc_frame.specs.Places.{number_of, entry_places, is_kept_home, places_kept, marks_of}
use Rattle.ckc_frame.specs.WellFormed.{IsPlace}
use Rattle.ckc_frame.specs.Meaning.{Caller, State, active, begins, waits, enters_block, enters, calls, registers_of}
use Rattle.ckc_emit.specs.code.Lines.{register_of, offset_of, store_lines}
use Rattle.ckc_emit.specs.code.CallLines.{is_argument_home, is_saved, saves_lines, restores_lines, result_lines, call_lines, depth_lines, arguments_lines, visit_lines, back_lines}
use Rattle.ckc_emit.specs.code.ProgramLines.{label_of, homes_of, ops_lines, end_lines, is_near, is_turned}
use Rattle.ckc_emit.specs.Stores.{seen_events}
use Rattle.ckc_emit.proofs.Local.{Local, state_of, changed, changed_same, changed_other}
use Rattle.ckc_emit.proofs.Paths.{Code, LinesAt, Leads}
use Rattle.ckc_emit.proofs.FrameWords.{IsStackWord, Puts, near_store_puts}
use Rattle.ckc_emit.proofs.Homes.{HasValue, register_is, AreFrameStores}
use Rattle.ckc_emit.proofs.Relation.{unseen, world_kept}
use Rattle.ckc_emit.proofs.Saving.{register_word}
use Rattle.ckc_emit.proofs.Jumping.{GoesFar, far_goes}
use Rattle.ckc_emit.proofs.Frames.{InFunction, IsWaiting, AreWaiting, IsRelated}
use Rattle.ckc_emit.proofs.Standing.{block_label}
use Rattle.ckc_emit.proofs.Related.{May, most, Simulated, reaches_simulates, are_waiting_kept, frame_may, below_may}
use Rattle.ckc_emit.proofs.Operating.{stands}
use Rattle.ckc_emit.proofs.Leaving.{all_at, IsWhole}
use Rattle.ckc_emit.proofs.Calling.{arguments_are, Descends, descends, too_deep}
use Rattle.ckc_emit.proofs.Tests.{lt_is, lt_not, lt_of, ge_of, or_first, or_second}

-- ---- what a call keeps

if_kept : (b : Bool) (o : Option ℕ) (w : ℕ) → (if b then o else None) ≡ Some w → (b ≡ true) × (o ≡ Some w)
if_kept true o w e = (refl, e)
if_kept false o w e = absurd cc

kept_register : (homes : List Place) (marks : List Bool) (places : Values) (k w : ℕ) → k < 16 → places_kept homes marks places k ≡ Some w → (is_kept_home k homes marks ≡ true) × (places k ≡ Some w)
unfolding places_kept
kept_register homes marks places k w h e =
    if_kept (is_kept_home k homes marks) (places k) w (sym (ap (λ b. if b then (if is_kept_home k homes marks then places k else None) else places k) (lt_is k 16 h)) ∙ e)

kept_slot : (homes : List Place) (marks : List Bool) (places : Values) (k w : ℕ) → 16 ≤ k → places_kept homes marks places k ≡ Some w → places k ≡ Some w
unfolding places_kept
kept_slot homes marks places k w h e = sym (ap (λ b. if b then (if is_kept_home k homes marks then places k else None) else places k) (lt_not k 16 h)) ∙ e

kept_place : (homes : List Place) (marks : List Bool) (places : Values) (q : Place) (w : ℕ) → IsPlace q → places_kept homes marks places (number_of q) ≡ Some w → places (number_of q) ≡ Some w
kept_place homes marks places (place.Reg k) w h e = (kept_register homes marks places k w h e).1
kept_place homes marks places (place.Slot k) w h e = kept_slot homes marks places (16 + k) w (omega arith) e

-- the callee's code
pub mapped : (functions : List PlacedFunc) (k : ℕ) (g : PlacedFunc) → slice_get functions k ≡ Some g → slice_get (map (λ (f : PlacedFunc). f.code) functions) k ≡ Some g.code
mapped [] zero g e = absurd cc
mapped [] (suc k) g e = absurd cc
mapped (f ∷ fs) zero g e = let same : f ≡ g = cc in ap (λ (h : PlacedFunc). Some h.code) same
mapped (f ∷ fs) (suc k) g e = mapped fs k g e

none_mapped : (functions : List PlacedFunc) (k : ℕ) → slice_get functions k ≡ None → slice_get (map (λ (f : PlacedFunc). f.code) functions) k ≡ None
none_mapped [] zero e = refl
none_mapped [] (suc k) e = refl
none_mapped (f ∷ fs) zero e = absurd cc
none_mapped (f ∷ fs) (suc k) e = none_mapped fs k e

has_none : (count : ℕ) → HasParams count None → ⊥
has_none count h = h

has_params : (count : ℕ) (o : Option TacFunc) (g : TacFunc) → o ≡ Some g → HasParams count o → g.params ≡ count
has_params count (Some f) g e h = let same : f ≡ g = cc in ap (λ (f : TacFunc). f.params) (sym same) ∙ h
has_params count None g e h = absurd h

module _ (functions : List PlacedFunc) (c : Code) (main : ℕ) (whole : IsWhole functions c main) (s : State) (l : Local) (pc : ℕ) (r : IsRelated functions c s l pc)
    (target : Option ℕ) (callee : ℕ) (arguments : List ℕ) (at : Pos) (ops : List TacOp) (all : s.frame.ops ≡ Call target callee arguments at ∷ ops) where
  abbrev f : PlacedFunc
  f = s.frame.function

  abbrev n : ℕ
  n = s.frame.calls_before

  abbrev codes : List TacFunc
  codes = map (λ (f : PlacedFunc). f.code) functions

  abbrev marks : List Bool
  marks = marks_of (slice_get f.kept n)

  abbrev test : ℕ → Bool
  test = is_saved f.homes marks arguments

  abbrev later : List Line
  later = ops_lines functions f (n + 1) ops (end_lines (is_near functions f (label_of functions r.at.index)) (is_turned functions f (label_of functions r.at.index)) functions f (label_of functions r.at.index + 1) r.at.next s.frame.end r.at.behind)

  abbrev back : List Line
  back = back_lines f.homes marks target later

  abbrev label : ℕ
  label = label_of functions callee

  over : IsOpOver codes f.code.regs (Call target callee arguments at)
  over = All-head (IsOpOver codes f.code.regs) (Call target callee arguments at) ops (subst (All (IsOpOver codes f.code.regs)) all r.at.ops_over)

  ops_over : All (IsOpOver codes f.code.regs) ops
  ops_over = All-tail (IsOpOver codes f.code.regs) (Call target callee arguments at) ops (subst (All (IsOpOver codes f.code.regs)) all r.at.ops_over)

  room_for : most s ≡ 59 + 80 * length arguments
  room_for = ap (λ (ops : List TacOp). 59 + 80 * extra_steps ops) all

  -- the lines of the call stand here
  call_stands : (g : PlacedFunc) → slice_get functions callee ≡ Some g
      → LinesAt c pc (saves_lines test 16 0 (depth_lines at (arguments_lines f.homes arguments 0 g.homes (visit_lines label (restores_lines (λ k. is_kept_home k f.homes marks) 16 0 (result_lines f.homes target later))))))
  call_stands g e =
      subst (λ (o : Option PlacedFunc). LinesAt c pc (call_lines f.homes marks (homes_of o) label arguments at (result_lines f.homes target later))) e
      (stands functions c s l pc r (Call target callee arguments at) ops all)

  abbrev caller : Caller
  caller = record { frame = waits s.frame ops; target = target }

  abbrev next : PlacedFunc → TacBlock → List ℕ → State
  next g block values = record s { frame = begins g 0 (entry_places g.homes 0 values) block; callers = caller ∷ s.callers }

  abbrev waits_in : InFunction functions c (waits s.frame ops)
  waits_in = record {
    index = r.at.index;
    is = r.at.is;
    placed = r.at.placed;
    ops_over = ops_over;
    end_over = r.at.end_over;
    next = r.at.next;
    behind = r.at.behind;
    falls = r.at.falls;
  }

  -- ---- the machine in the called function

  -- where the machine is once it has stored the return address
  record IsEntered (m : Local) (below link : ℕ) (g : PlacedFunc) (values : List ℕ) : Type 0 where
    zero_is : m.x 0 ≡ 0
    frame : m.x 2 ≡ below
    linked : m.words below ≡ link
    back_is : LinesAt c link back
    short : link < 2 ^ 32
    saved : (j : ℕ) → j < 16 → test j ≡ true → m.words (register_word l j) ≡ l.x (register_of j)
    elsewhere : (a : ℕ) → l.x 2 ≤ a → ((j : ℕ) → j < 16 → a ≢ register_word l j) → m.words a ≡ l.words a
    has : (q : Place) (w : ℕ) → IsPlace q → entry_places g.homes 0 values (number_of q) ≡ Some w → HasValue m q w
    word : (q : Place) (w : ℕ) → IsPlace q → entry_places g.homes 0 values (number_of q) ≡ Some w → w < 2 ^ 32
    bytes : m.bytes ≡ l.bytes
    input : m.input ≡ l.input

  record Enters (below : ℕ) (g : PlacedFunc) (values : List ℕ) : Type 0 where
    to : Local
    there : ℕ
    behind : List Line
    here : LinesAt c there behind
    begin : (block : TacBlock) → slice_get g.code.blocks 0 ≡ Some block → (more : List Line) × (behind ≡ Label (block_label functions callee 0) ∷ more)
    link : ℕ
    count : ℕ
    lower : List MachineEvent
    many : 1 ≤ count
    few : count ≤ 25 + 6 * length arguments
    travels : Travels (detailed_system c.parts) count lower (state_of c.parts l pc) (state_of c.parts to there)
    unseen_is : flat_map seen_events lower ≡ []
    allowed : All (May s) lower
    entered : IsEntered to below link g values

  far_value : (m k : Local) (q : Place) (w : ℕ) → ((r : ℕ) → r ≢ 1 → r ≢ 26 → k.x r ≡ m.x r) → k.words ≡ m.words → IsPlace q → HasValue m q w → HasValue k q w
  far_value m k (place.Reg j) w other words h v =
      let i = register_is j h in
      let low = i.low in
      let high = i.high in
      other (register_of j) (omega arith) (omega arith) ∙ v
  far_value m k (place.Slot j) w other words h v = ap (λ (g : ℕ → ℕ). g (k.x 2 + (j * 4 + 80))) words ∙ ap (λ b. m.words (b + (j * 4 + 80))) (other 2 (omega arith) (omega arith)) ∙ v

  put_value : (m k : Local) (base link : ℕ) (q : Place) (w : ℕ) → m.x 2 ≡ base → ((r : ℕ) → r ≢ 7 → k.x r ≡ m.x r) → k.words ≡ changed m.words base link → IsPlace q → HasValue m q w → HasValue k q w
  put_value m k base link (place.Reg j) w e other words h v =
      let i = register_is j h in
      let low = i.low in
      other (register_of j) (omega arith) ∙ v
  put_value m k base link (place.Slot j) w e other words h v =
      ap (λ (g : ℕ → ℕ). g (k.x 2 + (j * 4 + 80))) words ∙ ap (λ b. changed m.words base link (b + (j * 4 + 80))) (other 2 (omega arith))
      ∙ changed_other m.words base link (m.x 2 + (j * 4 + 80)) (omega arith) ∙ v

  hidden_join : (xs ys : List MachineEvent) → flat_map seen_events xs ≡ [] → flat_map seen_events ys ≡ [] → flat_map seen_events (xs ++ ys) ≡ []
  hidden_join xs ys e f = flat_map-append seen_events xs ys ∙ ap (λ z. z ++ flat_map seen_events ys) e ∙ f

  entered_by : (g : PlacedFunc) (values : List ℕ) (below to most : ℕ) (xs behind : List Line) → below + 16384 ≡ l.x 2
      → (d : Descends c most xs (Far 1 label ∷ back) l test g.homes values below) → LinesAt c (to + 8) back → to + 8 < 2 ^ 32
      → (j : GoesFar c d.next to 1 label) → (p : Puts c 1 1 (store_lines 1 2 0 behind) behind j.next (j.next.x 2 + 0) (to + 8)) → IsEntered p.next below (to + 8) g values
  entered_by g values below to most xs behind under d stand small j p =
      let two : j.next.x 2 ≡ below = j.other 2 (omega arith) (omega arith) ∙ d.frame in
      let base : j.next.x 2 + 0 ≡ below = omega arith in
      let words : p.next.words ≡ changed d.next.words below (to + 8) = p.words ∙ ap (λ b. changed j.next.words b (to + 8)) base ∙ ap (λ (w : ℕ → ℕ). changed w below (to + 8)) j.words in
      let above : (a : ℕ) → l.x 2 ≤ a → p.next.words a ≡ d.next.words a = λ a h. ap (λ (w : ℕ → ℕ). w a) words ∙ changed_other d.next.words below (to + 8) a (omega arith) in
      record {
        zero_is = p.other 0 (omega arith) ∙ j.zero ∙ d.zero_is;
        frame = p.other 2 (omega arith) ∙ two;
        linked = ap (λ (w : ℕ → ℕ). w below) words ∙ changed_same d.next.words below (to + 8) below refl;
        back_is = stand;
        short = small;
        saved = λ i h t. above (register_word l i) (omega arith) ∙ d.saved i h t;
        elsewhere = λ a h off. above a h ∙ d.elsewhere a h off;
        has = λ q w h e.
            put_value j.next p.next below (to + 8) q w two p.other (words ∙ ap (λ (w : ℕ → ℕ). changed w below (to + 8)) (sym j.words)) h
            (far_value d.next j.next q w j.other j.words h (d.has q w h e));
        word = d.word;
        bytes = p.bytes ∙ j.bytes ∙ d.bytes;
        input = p.input ∙ j.input ∙ d.input;
      }

  entry_word : (m : Local) (below : ℕ) → m.x 2 ≡ below → below + 16384 ≡ l.x 2 → stack_start ≤ below → IsStackWord c (m.x 2 + 0)
  entry_word m below e under low =
      let a = r.framed.aligned in
      let h = r.framed.high in
      record { aligned = omega arith; low = omega arith; high = omega arith }

  enters_by : (g : PlacedFunc) (values : List ℕ) (below : ℕ) (xs : List Line) → slice_get functions callee ≡ Some g → below + 16384 ≡ l.x 2 → stack_start ≤ below → active s < 1024
      → (d : Descends c (22 + 6 * length arguments) xs (Far 1 label ∷ back) l test g.homes values below)
      → Leads c 1 (22 + 6 * length arguments) (Far 1 label ∷ back) (d.stored ++ d.passed) l d.next pc → Enters below g values
  enters_by g values below xs e under low few d lead =
      let far = lead.there.0 in
      let j = far_goes c d.next lead.to 1 label (omega arith) far in
      let two : j.next.x 2 ≡ below = j.other 2 (omega arith) (omega arith) ∙ d.frame in
      let entry = whole.stands.entry callee g e in
      let behind = entry.behind in
      let link = lead.to + 8 in
      let p = near_store_puts c 1 2 0 link behind j.next (omega arith) (omega arith) (omega arith) (entry_word j.next below two under low) (j.link (omega arith)) in
      let step = p.path.leads (c.label label) entry.there in
      let event = Wrote (j.next.x 2 + 0) 4 (link % 256 ^ 4) in
      let last : AreFrameStores below (event ∷ []) = ((omega arith, omega arith), tt) in
      let bottom = far.second.low in
      record {
        to = p.next;
        there = step.to;
        behind = behind;
        here = step.there;
        begin = entry.next;
        link = link;
        count = lead.count + (2 + step.count);
        lower = (d.stored ++ d.passed) ++ (event ∷ []);
        many = omega (arith, lead.many);
        few = omega (arith, lead.few, step.few);
        travels = then_travels (detailed_system c.parts) lead.count (2 + step.count) (d.stored ++ d.passed) (event ∷ []) (state_of c.parts l pc) (state_of c.parts d.next lead.to) (state_of c.parts p.next step.to) lead.travels
            (then_travels (detailed_system c.parts) 2 step.count [] (event ∷ []) (state_of c.parts d.next lead.to) (state_of c.parts j.next (c.label label)) (state_of c.parts p.next step.to) j.travels step.travels);
        unseen_is = hidden_join (d.stored ++ d.passed) (event ∷ []) (hidden_join d.stored d.passed (unseen c (l.x 2) d.stored r.framed.low d.stores) (unseen c below d.passed low d.passes))
            (unseen c below (event ∷ []) low last);
        allowed = All-append (May s) (d.stored ++ d.passed) (event ∷ [])
            (All-append (May s) d.stored d.passed (frame_may s (l.x 2) r.depth d.stored d.stores) (below_may s (l.x 2) r.depth below d.passed under few d.passes))
            (below_may s (l.x 2) r.depth below (event ∷ []) under few last);
        entered = entered_by g values below lead.to (22 + 6 * length arguments) xs behind under d lead.there.1 (omega arith) j p;
      }

  -- a frame more fits below
  deeper : active s < 1024 → (below : ℕ) × (below + 16384 ≡ l.x 2) × (stack_start ≤ below)
  deeper few =
      let d = r.depth in
      (l.x 2 - 16384, omega arith, omega arith)

  homes_enough : (g : PlacedFunc) → slice_get functions callee ≡ Some g → length arguments ≤ length g.homes
  homes_enough g e =
      let params = has_params (length arguments) (slice_get codes callee) g.code (mapped functions callee g e) over.1 in
      let o = whole.over callee g e in
      let few = o.0 in
      let p = whole.placed callee g e in
      let h = p.homes in
      omega arith

  enters_it : (g : PlacedFunc) (values : List ℕ) → slice_get functions callee ≡ Some g → active s < 1024 → values_in (registers_of s.frame) arguments ≡ Some values → (below : ℕ) × (below + 16384 ≡ l.x 2) × Enters below g values
  enters_it g values e few given =
      let deep = deeper few in
      let below = deep.0 in
      let ys = Far 1 label ∷ back in
      let placed = whole.placed callee g e in
      let d = descends c f.homes g.homes arguments values test at ys l below r.framed deep.1 deep.2 (homes_enough g e) placed.places
      (λ m stored. arguments_are c f.homes f.code.regs r.at.placed.homes r.at.placed.places s.frame.places arguments values l m test r.has stored given over.2
      (λ k named. or_second (is_kept_home k f.homes marks) (is_argument_home k f.homes arguments) named)) in (
        below,
        deep.1,
        enters_by g values below (saves_lines test 16 0 (depth_lines at (arguments_lines f.homes arguments 0 g.homes (visit_lines label (restores_lines (λ k. is_kept_home k f.homes marks) 16 0 (result_lines f.homes target later))))))
            e deep.1 deep.2 few d (d.path.leads pc (call_stands g e)),
      )

  -- ---- the related state

  saved_is : (below link : ℕ) (g : PlacedFunc) (values : List ℕ) (m : Local) → below + 16384 ≡ l.x 2 → IsEntered m below link g values
      → (q : Place) (w : ℕ) → IsPlace q → (waits s.frame ops).places (number_of q) ≡ Some w → m.words (l.x 2 + offset_of q) ≡ w
  saved_is below link g values m under i (place.Reg k) w h e =
      let kept = kept_register f.homes marks s.frame.places k w h e in
      i.saved k h (or_first (is_kept_home k f.homes marks) (is_argument_home k f.homes arguments) kept.0) ∙ r.has.has (place.Reg k) w h kept.1
  saved_is below link g values m under i (place.Slot k) w h e =
      i.elsewhere (l.x 2 + (k * 4 + 80)) (omega arith) (λ j less. omega arith)
      ∙ r.has.has (place.Slot k) w h (kept_slot f.homes marks s.frame.places (16 + k) w (omega arith) e)

  waiting : (below link : ℕ) (g : PlacedFunc) (values : List ℕ) (m : Local) → below + 16384 ≡ l.x 2 → IsEntered m below link g values → IsWaiting functions c m.words below caller
  waiting below link g values m under i = record {
    at = waits_in;
    call = n;
    counted = refl;
    target_over = over.0;
    back = subst (λ q. LinesAt c q back) (sym i.linked) i.back_is;
    short = subst (λ q. q < 2 ^ 32) (sym i.linked) i.short;
    saved = λ q w h e. ap (λ b. m.words (b + offset_of q)) under ∙ saved_is below link g values m under i q w h e;
    word = λ q w h e. r.has.word q w h (kept_place f.homes marks s.frame.places q w h e);
    kept = λ k w h e. (kept_register f.homes marks s.frame.places k w h e).0;
  }

  off_registers : (a : ℕ) → (a ≡ l.x 2) ⊎ (l.x 2 + 16384 ≤ a) → (j : ℕ) → j < 16 → a ≢ register_word l j
  off_registers a o j less = elim o as (λ _. a ≢ register_word l j) [ inl e ↦ omega arith | inr h ↦ omega arith ]

  at_least : (a : ℕ) → (a ≡ l.x 2) ⊎ (l.x 2 + 16384 ≤ a) → l.x 2 ≤ a
  at_least a o = elim o as (λ _. l.x 2 ≤ a) [ inl e ↦ omega arith | inr h ↦ omega arith ]

  entered_related : (below : ℕ) (g : PlacedFunc) (values : List ℕ) (block : TacBlock) → slice_get functions callee ≡ Some g → slice_get g.code.blocks 0 ≡ Some block → below + 16384 ≡ l.x 2 → stack_start ≤ below
      → (i : Enters below g values) → IsRelated functions c (next g block values) i.to i.there
  entered_related below g values block e eb under low i =
      let m = i.to in
      let k = i.entered in
      let frame = k.frame in
      let aligned = r.framed.aligned in
      let high = r.framed.high in
      let depth = r.depth in
      let stand = whole.stands.block callee g 0 block e eb in
      let good = all_at (IsBlockOver codes (length g.code.blocks) g.code.regs) g.code.blocks 0 block (whole.over callee g e).2 eb in
      let begin = i.begin block eb in
      let at_label : c.label (block_label functions callee 0) ≡ i.there = (subst (LinesAt c i.there) begin.1 i.here).0 in
      record {
        framed = record { zero = k.zero_is; aligned = omega arith; low = omega arith; high = omega arith };
        depth = omega arith;
        has = record { has = k.has; word = k.word };
        world = world_kept c l m s.world k.bytes k.input r.world;
        at = record {
          index = callee;
          is = e;
          placed = whole.placed callee g e;
          ops_over = good.0;
          end_over = good.1;
          next = 0 + 1;
          behind = stand.behind;
          falls = stand.next;
        };
        here = subst (λ q. LinesAt c q (ops_lines functions g 0 block.ops (end_lines (is_near functions g (label_of functions callee)) (is_turned functions g (label_of functions callee)) functions g (label_of functions callee + 1) (0 + 1) block.end stand.behind))) at_label stand.there;
        callers = subst (λ b. AreWaiting functions c m.words b (caller ∷ s.callers)) (sym frame) (
          waiting below i.link g values m under k,
          subst (λ b. AreWaiting functions c m.words b s.callers) (sym under)
              (are_waiting_kept functions c l.words m.words (l.x 2) s.callers (λ a o. k.elsewhere a (at_least a o) (off_registers a o)) r.callers),
        );
      }

  enters_goes : (g : PlacedFunc) (values : List ℕ) (o : Option TacBlock) → slice_get functions callee ≡ Some g → slice_get g.code.blocks 0 ≡ o → active s < 1024 → values_in (registers_of s.frame) arguments ≡ Some values
      → Simulated functions c s (state_of c.parts l pc) (enters_block s ops target values g o)
  enters_goes g values None e eb few given = inl refl
  enters_goes g values (Some block) e eb few given =
      let deep = deeper few in
      let i = enters_it g values e few given in
      let k = i.2 in
      let low : stack_start ≤ i.0 = omega (arith, i.1, deep.1, deep.2) in
      reaches_simulates functions c s l pc (Entered ∷ []) (next g block values) (record {
        to = k.to;
        there = k.there;
        count = k.count;
        lower = k.lower;
        few = omega (arith, k.few, room_for);
        goes_on = inl k.many;
        travels = k.travels;
        seen = k.unseen_is;
        allowed = k.allowed;
        related = entered_related i.0 g values block e eb i.1 low k;
      })

  enters_some : (values : List ℕ) (o : Option PlacedFunc) → slice_get functions callee ≡ o → active s < 1024 → values_in (registers_of s.frame) arguments ≡ Some values
      → Simulated functions c s (state_of c.parts l pc) (enters s ops target values o)
  enters_some values (Some g) e few given = enters_goes g values (slice_get g.code.blocks 0) e refl few given
  enters_some values None e few given = inl refl

  -- ---- one call too many

  stops_goes : (o : Option PlacedFunc) → slice_get functions callee ≡ o → 1024 ≤ active s → Simulated functions c s (state_of c.parts l pc) (Halts [] (Stopped Depth at))
  stops_goes None e deep = absurd (has_none (length arguments) (subst (HasParams (length arguments)) (none_mapped functions callee e) over.1))
  stops_goes (Some g) e deep =
      let d = r.depth in
      let low = r.framed.low in
      let last : l.x 2 ≡ stack_start = omega arith in
      let k = too_deep c test at (arguments_lines f.homes arguments 0 g.homes (visit_lines label (restores_lines (λ k. is_kept_home k f.homes marks) 16 0 (result_lines f.homes target later)))) l r.framed last over.3.0 over.3.1 in
      let lead = k.path.leads pc (call_stands g e) in
      let halt = k.halting.halts lead.to lead.there in
      inr (record {
        count = lead.count + halt.0;
        lower = k.stored ++ [];
        few = omega (arith, lead.few, halt.1, room_for);
        over = tt;
        closes = then_closes (detailed_system c.parts) lead.count halt.0 k.stored [] (state_of c.parts l pc) (state_of c.parts k.mid lead.to) (Stopped Depth at) lead.travels.stretch halt.2;
        seen = hidden_join k.stored [] (unseen c (l.x 2) k.stored r.framed.low k.stores) refl;
        allowed = All-append (May s) k.stored [] (frame_may s (l.x 2) r.depth k.stored k.stores) (All-nil (May s));
        beside = λ j. tt;
      })

  call_by : (b : Bool) (values : List ℕ) → has_room (active s) ≡ b → values_in (registers_of s.frame) arguments ≡ Some values
      → Simulated functions c s (state_of c.parts l pc) (if b then enters s ops target values (slice_get functions callee) else Halts [] (Stopped Depth at))
  call_by true values e given = enters_some values (slice_get functions callee) refl (lt_of (active s) 1024 e) given
  call_by false values e given = stops_goes (slice_get functions callee) refl (ge_of (active s) 1024 e)

  call_with : (o : Option (List ℕ)) → values_in (registers_of s.frame) arguments ≡ o → Simulated functions c s (state_of c.parts l pc) (calls functions s ops target callee at o)
  call_with (Some values) e = call_by (has_room (active s)) values refl e
  call_with None e = inl refl

  pub call_simulates : Simulated functions c s (state_of c.parts l pc) (calls functions s ops target callee at (values_in (registers_of s.frame) arguments))
  call_simulates = call_with (values_in (registers_of s.frame) arguments) refl
