-- The start of a program: the first frame is set up and `main` is called.
use Rattle.std.proofs.Common.{◌≡◌, ℕ, ◌+◌, ◌*◌, ◌%◌, ◌^◌, ◌<◌, List, [], ◌∷◌, length, Some, refl, sym, ap, subst, ◌∙◌, arith}
use Rattle.std.specs.List.{slice_get}
use Rattle.ckc_base.specs.Actions.{World}
use Rattle.ckc_base.specs.Activations.{none_written}
use Rattle.ckc_base.proofs.Simulating.{Near}
use Rattle.ckc_base.proofs.Travelling.{then_travels}
use Rattle.ckc_rv.specs.declared.instructions.Instr.TheVariants.{Lui}
use Rattle.ckc_rv.specs.Detailed.{Wrote, detailed_system}
use Rattle.ckc_asm_lines.specs.declared.lines.Line.{Line}
use Rattle.ckc_asm_lines.specs.declared.lines.Line.TheVariants.{Plain, Far}
use Rattle.ckc_tac.specs.declared.code.TacBlock.{TacBlock}
use Rattle.ckc_tac.specs.WellFormed.{IsBlockOver}
use Rattle.ckc_frame.specs.declared.code.PlacedFunc.{PlacedFunc}
use Rattle.ckc_frame.specs.Meaning.{State, begins}
use Rattle.ckc_emit.specs.code.Lines.{store_lines, ask_lines}
use Rattle.ckc_emit.specs.code.ProgramLines.{label_of, ops_lines, end_lines, is_near, is_turned}
use Rattle.ckc_emit.specs.Stores.{seen_events}
use Rattle.ckc_emit.proofs.Local.{Local, state_of, changed_same}
use Rattle.ckc_emit.proofs.Paths.{Code, LinesAt, Sets}
use Rattle.ckc_emit.proofs.FrameWords.{IsStackWord, Puts, near_store_puts, lui_sets}
use Rattle.ckc_emit.proofs.Homes.{AreFrameStores}
use Rattle.ckc_emit.proofs.Relation.{HasWorld, unseen, world_kept}
use Rattle.ckc_emit.proofs.Jumping.{GoesFar, far_goes}
use Rattle.ckc_emit.proofs.Frames.{IsRelated, Relates}
use Rattle.ckc_emit.proofs.Standing.{block_label}
use Rattle.ckc_emit.proofs.Related.{May, Beside, near, frame_may}
use Rattle.ckc_emit.proofs.Leaving.{all_at, IsWhole}

module _ (functions : List PlacedFunc) (c : Code) (main : ℕ) (whole : IsWhole functions c main) (g : PlacedFunc) (e : slice_get functions main ≡ Some g)
    (block : TacBlock) (eb : slice_get g.code.blocks 0 ≡ Some block) (world : World) (l : Local) (zeroed : l.x 0 ≡ 0) (has : HasWorld l world) where
  abbrev pub first : State
  first = record { frame = begins g 0 none_written block; callers = []; world = world }

  abbrev label : ℕ
  label = label_of functions main

  abbrev base : ℕ
  base = 0x3FFC * 2 ^ 12

  -- the state once the return address is stored
  record IsBegun (m : Local) (link : ℕ) : Type 0 where
    zero_is : m.x 0 ≡ 0
    frame : m.x 2 ≡ base
    linked : m.words base ≡ link
    bytes : m.bytes ≡ l.bytes
    input : m.input ≡ l.input

  first_word : (m : Local) → m.x 2 ≡ base → IsStackWord c (m.x 2 + 0)
  first_word m two = record { aligned = omega arith; low = omega arith; high = omega arith }

  begun : (rest ys behind : List Line) (at : ℕ) (s : Sets c 1 1 ys rest l 2 base) (j : GoesFar c s.next at 1 label) (p : Puts c 1 1 (store_lines 1 2 0 behind) behind j.next (j.next.x 2 + 0) (at + 8)) → IsBegun p.next (at + 8)
  begun rest ys behind at s j p =
      let two : j.next.x 2 ≡ base = j.other 2 (omega arith) (omega arith) ∙ s.value in
      let none : j.next.x 2 + 0 ≡ base = omega arith in
      record {
        zero_is = p.other 0 (omega arith) ∙ j.zero ∙ s.other 0 (omega arith) (omega arith) ∙ zeroed;
        frame = p.other 2 (omega arith) ∙ two;
        linked = ap (λ (w : ℕ → ℕ). w base) p.words ∙ changed_same j.next.words (j.next.x 2 + 0) (at + 8) base (sym none);
        bytes = p.bytes ∙ j.bytes ∙ s.bytes;
        input = p.input ∙ j.input ∙ s.input;
      }

  begun_related : (m : Local) (to link : ℕ) (behind rest : List Line) → IsBegun m link → LinesAt c link (ask_lines 0 rest) → link < 2 ^ 32
      → c.label (block_label functions main 0) ≡ to → IsRelated functions c first m to
  begun_related m to link behind rest i back short at_label =
      let frame = i.frame in
      let stand = whole.stands.block main g 0 block e eb in
      let good = all_at (IsBlockOver _ (length g.code.blocks) g.code.regs) g.code.blocks 0 block (whole.over main g e).2 eb in
      record {
        framed = record { zero = i.zero_is; aligned = omega arith; low = omega arith; high = omega arith };
        depth = omega arith;
        has = record { has = λ q w h v. absurd cc; word = λ q w h v. absurd cc };
        world = world_kept c l m world i.bytes i.input has;
        at = record {
          index = main;
          is = e;
          placed = whole.placed main g e;
          ops_over = good.0;
          end_over = good.1;
          next = 0 + 1;
          behind = stand.behind;
          falls = stand.next;
        };
        here = subst (λ q. LinesAt c q (ops_lines functions g 0 block.ops (end_lines (is_near functions g (label_of functions main)) (is_turned functions g (label_of functions main)) functions g (label_of functions main + 1) (0 + 1) block.end stand.behind))) at_label stand.there;
        callers = record {
          rest = rest;
          back = subst (λ q. LinesAt c q (ask_lines 0 rest)) (sym (ap m.words frame ∙ i.linked)) back;
          short = subst (λ q. q < 2 ^ 32) (sym (ap m.words frame ∙ i.linked)) short;
        };
      }

  -- some hidden instructions lead to a state that is related to the first one
  pub starts : Near (detailed_system c.parts) seen_events May Beside (Relates functions c) near first (state_of c.parts l 0x1000)
  starts =
      let rest = whole.stands.behind in
      let y2 = Far 1 label ∷ ask_lines 0 rest in
      let s = lui_sets c 2 0x3FFC y2 l (omega arith) (omega arith) in
      let lead = s.path.leads 0x1000 whole.stands.start in
      let far = lead.there.0 in
      let j = far_goes c s.next lead.to 1 label (omega arith) far in
      let two : j.next.x 2 ≡ base = j.other 2 (omega arith) (omega arith) ∙ s.value in
      let entry = whole.stands.entry main g e in
      let behind = entry.behind in
      let link = lead.to + 8 in
      let p = near_store_puts c 1 2 0 link behind j.next (omega arith) (omega arith) (omega arith) (first_word j.next two) (j.link (omega arith)) in
      let step = p.path.leads (c.label label) entry.there in
      let event = Wrote (j.next.x 2 + 0) 4 (link % 256 ^ 4) in
      let last : AreFrameStores base (event ∷ []) = ((omega arith, omega arith), tt) in
      let begin = entry.next block eb in
      let bottom = far.second.low in
      record {
        to = state_of c.parts p.next step.to;
        nears = record {
          count = lead.count + (2 + step.count);
          events = event ∷ [];
          few = omega (arith, lead.few, step.few);
          travels = then_travels (detailed_system c.parts) lead.count (2 + step.count) [] (event ∷ []) (state_of c.parts l 0x1000) (state_of c.parts s.next lead.to) (state_of c.parts p.next step.to) lead.travels
              (then_travels (detailed_system c.parts) 2 step.count [] (event ∷ []) (state_of c.parts s.next lead.to) (state_of c.parts j.next (c.label label)) (state_of c.parts p.next step.to) j.travels step.travels);
          unseen = unseen c base (event ∷ []) (omega arith) last;
          keeps = record { allowed = frame_may first base (omega arith) (event ∷ []) last; beside = λ i h. tt };
        };
        related = (p.next, step.to, refl, begun_related p.next step.to link behind rest (begun y2 (Plain (Lui 2 0x3FFC) ∷ y2) behind lead.to s j p) lead.there.1 (omega arith) ((subst (LinesAt c step.to) begin.1 step.there).0));
      }
