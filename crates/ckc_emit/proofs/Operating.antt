-- Every operation but a call is simulated.
use Rattle.std.proofs.Common.{◌≡◌, inl, ℕ, ◌+◌, ◌*◌, List, ◌∷◌, length, map, refl, sym, ap, subst, ◌∙◌, arith}
use Rattle.std.specs.Prelude.{All}
use Rattle.std.proofs.lemmas.List.Elements.{All-head, All-tail}
use Rattle.ckc_base.specs.Traces.{Stopped}
use Rattle.ckc_base.specs.LongEvents.{LongEvent}
use Rattle.ckc_base.specs.Actions.{World, Outcome, Gives, Done, Stops, Lost}
use Rattle.ckc_base.specs.Activations.{Values, with_written}
use Rattle.ckc_asm_lines.specs.declared.lines.Line.{Line}
use Rattle.ckc_tac.specs.declared.code.TacFunc.{TacFunc}
use Rattle.ckc_tac.specs.declared.code.TacOp.{TacOp}
use Rattle.ckc_tac.specs.Operations.{outcome_of}
use Rattle.ckc_tac.specs.WellFormed.{IsOpOver}
use Rattle.ckc_frame.specs.declared.code.PlacedFunc.{PlacedFunc}
use Rattle.ckc_frame.specs.Places.{home}
use Rattle.ckc_frame.specs.Meaning.{State, is_call, goes_by, registers_of}
use Rattle.ckc_emit.specs.code.ProgramLines.{label_of, op_lines, ops_lines, end_lines, is_near, is_turned}
use Rattle.ckc_emit.proofs.Local.{Local, state_of}
use Rattle.ckc_emit.proofs.Paths.{Code, LinesAt}
use Rattle.ckc_emit.proofs.Homes.{framed_kept}
use Rattle.ckc_emit.proofs.Relation.{Does}
use Rattle.ckc_emit.proofs.Outcomes.{DoesOutcome, does_op}
use Rattle.ckc_emit.proofs.Frames.{AreWaiting, IsRelated}
use Rattle.ckc_emit.proofs.Related.{Simulated, Reaches, reaches_simulates, halts_simulates, are_waiting_kept, all_may}

module _ (functions : List PlacedFunc) (c : Code) (s : State) (l : Local) (pc : ℕ) (r : IsRelated functions c s l pc) (op : TacOp) (ops : List TacOp) (all : s.frame.ops ≡ op ∷ ops) where
  abbrev f : PlacedFunc
  f = s.frame.function

  abbrev n : ℕ
  n = s.frame.calls_before

  abbrev tail : List Line
  tail = end_lines (is_near functions f (label_of functions r.at.index)) (is_turned functions f (label_of functions r.at.index)) functions f (label_of functions r.at.index + 1) r.at.next s.frame.end r.at.behind

  abbrev rest : List Line
  rest = ops_lines functions f n ops tail

  abbrev codes : List TacFunc
  codes = map (λ (f : PlacedFunc). f.code) functions

  over : All (IsOpOver codes f.code.regs) (op ∷ ops)
  over = subst (All (IsOpOver codes f.code.regs)) all r.at.ops_over

  -- the lines of the operation stand here, in front of those of the operations after it
  pub stands : LinesAt c pc (op_lines functions f n op (ops_lines functions f (n + is_call op) ops tail))
  stands = subst (λ list. LinesAt c pc (ops_lines functions f n list tail)) all r.here

  abbrev pub after : Values → World → State
  after places world = record s { frame = record s.frame { ops = ops; places = places }; world = world }

  does_reach : (events : List LongEvent) (places : Values) (world : World) → is_call op ≡ 0 → Does c 32 (op_lines functions f n op rest) rest l events places world → Reaches functions c s l pc events (after places world)
  does_reach events places world none d =
      let same : n + is_call op ≡ n = omega arith in
      let lead = d.path.leads pc (subst (λ k. LinesAt c pc (op_lines functions f n op (ops_lines functions f k ops tail))) same stands) in
      record {
        to = d.next;
        there = lead.to;
        count = lead.count;
        lower = d.lower;
        few = omega (arith, lead.few);
        goes_on = inl lead.many;
        travels = lead.travels;
        seen = d.seen;
        allowed = all_may s (l.x 2) r.depth d.lower d.allowed;
        related = record {
          framed = framed_kept l d.next r.framed d.keeps;
          depth = ap (λ b. b + 16384 * (length s.callers + 1)) d.keeps.frame ∙ r.depth;
          has = d.has;
          world = d.world_is;
          at = record {
            index = r.at.index;
            is = r.at.is;
            placed = r.at.placed;
            ops_over = All-tail (IsOpOver codes f.code.regs) op ops over;
            end_over = r.at.end_over;
            next = r.at.next;
            behind = r.at.behind;
            falls = r.at.falls;
          };
          here = lead.there;
          callers = subst (λ b. AreWaiting functions c d.next.words b s.callers) (sym d.keeps.frame)
              (are_waiting_kept functions c l.words d.next.words (l.x 2) s.callers d.keeps.above r.callers);
        };
      }

  outcome_simulates : (o : Outcome) → is_call op ≡ 0
      → DoesOutcome c functions codes f n r.at.placed l s.frame.places s.world r.framed r.has r.world (op_lines functions f n op rest) rest o
      → Simulated functions c s (state_of c.parts l pc) (goes_by s ops o)
  outcome_simulates (Gives events t value world) none d =
      let places = with_written s.frame.places (home f.homes t) value in
      reaches_simulates functions c s l pc events (after places world) (does_reach events places world none d)
  outcome_simulates (Done events world) none d =
      reaches_simulates functions c s l pc events (after s.frame.places world) (does_reach events s.frame.places world none d)
  outcome_simulates (Stops check at) none d =
      let same : n + is_call op ≡ n = omega arith in
      let halt = d.halts pc (subst (λ k. LinesAt c pc (op_lines functions f n op (ops_lines functions f k ops tail))) same stands) in
      halts_simulates functions c s l pc halt.0 (Stopped check at) (omega (arith, halt.1)) tt halt.2
  outcome_simulates Lost none d = inl refl

  -- an operation that is no call
  pub op_simulates : is_call op ≡ 0 → Simulated functions c s (state_of c.parts l pc) (goes_by s ops (outcome_of (registers_of s.frame) s.world op))
  op_simulates none =
      outcome_simulates (outcome_of (registers_of s.frame) s.world op) none
      (does_op c functions codes f n r.at.placed l s.frame.places s.world r.framed r.has r.world op rest (All-head (IsOpOver codes f.code.regs) op ops over))
