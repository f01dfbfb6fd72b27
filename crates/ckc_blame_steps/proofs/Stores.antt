-- Assignments that are judged as one keep states sound.
use Rattle.std.proofs.Common.{◌≡◌, refl, sym, ap, subst, ◌∙◌, ℕ, true, List, [], ◌∷◌}
use Rattle.std.specs.Prelude.{Result, Ok, Err}
use Rattle.std.specs.List.{All}
use Rattle.std.proofs.lemmas.List.{append-nil}
use Rattle.ckc_base.specs.Lists.{AreBytes}
use Rattle.ckc_base.specs.declared.arithmetic.Mode.{Mode}
use Rattle.ckc_typed.specs.declared.typed.Typed.{Typed}
use Rattle.ckc_typed.specs.Trees.{NotedStmt}
use Rattle.ckc_blame_sound.specs.ckc_bounds_points.specs.Flow as flow
use Rattle.ckc_blame_sound.specs.ckc_bounds_stores.specs.Stores.{Placed, stores_of, numbered}
use Rattle.ckc_source.specs.declared.outcome.Halt.{Halt}
use Rattle.ckc_source.specs.declared.outcome.Halt.TheVariants as halt
use Rattle.ckc_source.specs.declared.program.Shape.{Shape}
use Rattle.ckc_source.specs.Code.{Code, Function}
use Rattle.ckc_source.specs.Eval.{Store, given}
use Rattle.ckc_source.specs.Runs.{is_true}
use Rattle.ckc_source.specs.States.{Work, State}
use Rattle.ckc_source.specs.Steps.{Write, store_of, Planned, all_written, comes_to, at_work}
use Rattle.ckc_build_elaborate.specs.Shapes.{shapes_elaborated}
use Rattle.ckc_blame_sound.specs.Calls.{store_in}
use Rattle.ckc_blame_sound.specs.Points.{HoldsAt}
use Rattle.ckc_blame_sound.specs.Settings.{Setting, IsFunction, setting_of}
use Rattle.ckc_blame_sound.specs.Sound.{Sound}
use Rattle.ckc_blame_sound.specs.Valuations.{Valuation, AreFacts}
use Rattle.ckc_blame_sound.proofs.Kept.{point_kept}
use Rattle.ckc_blame_sound.specs.Slots.{AreFilled}
use Rattle.ckc_blame_sound.specs.Cells.{AreSound, HaveOwnNames}
use Rattle.ckc_blame_sound.specs.Writes.{AreCellWrites}
use Rattle.ckc_blame_sound.specs.Limited.{AreSlotParts}
use Rattle.ckc_blame_sound.proofs.Frames.{frames_agree}
use Rattle.ckc_blame_sound.proofs.Members.{have_own_names}
use Rattle.ckc_blame_sound.specs.Elements.{NameIntegerMembers}
use Rattle.ckc_blame_sound.proofs.Agree.{facts_agree}
use Rattle.ckc_blame_walk.specs.ckc_blame_declared.proofs.HaveEnds.{locals_have_ends}
use Rattle.ckc_blame_control.specs.Kept.{KeepRanges, IsSameCall}
use Rattle.ckc_blame_control.specs.Ready.{Faces}
use Rattle.ckc_blame_control.proofs.Kept.{faced_sound, writes_keep_ranges, blocks_keep_ranges}
use Rattle.ckc_blame_given.specs.ckc_blame_pointers.specs.Owed.{Comes}
use Rattle.ckc_blame_given.specs.Planned.{ArePlanned}
use Rattle.ckc_blame_given.specs.Written.{IsFitting}
use Rattle.ckc_blame_given.specs.Stored.{AreStored}
use Rattle.ckc_blame_given.proofs.Apart.{ones_apart}
use Rattle.ckc_blame_given.proofs.Points.{point_after, all_planned}
use Rattle.ckc_blame_given.proofs.Written.{written_locals}
use Rattle.ckc_blame_given.specs.Together.{HaveSmallNames, AreTogether}
use Rattle.ckc_blame_given.proofs.Filled.{stays_filled}
use Rattle.ckc_blame_steps.specs.Granted.{IsGranted}
use Rattle.ckc_blame_steps.specs.Plans.{IsAt, IsSoundPlan}
use Rattle.ckc_blame_steps.specs.Unchecked.{MovesSoundly}
use Rattle.ckc_blame_steps.proofs.Comes.{stops_soundly}
use Rattle.ckc_blame_steps.proofs.Writes.{AreWrittenAll, all_come}

pub text_is : (p : Typed) (s : Setting) (f : Function) → IsFunction p s f → s.text ≡ p
unfolding setting_of
text_is p s f i = ap (λ (x : Setting). x.text) i.judged

-- what is planned goes on, if what is written after it does
pub move_on : (m : Mode) (p : Typed) (P : Planned → Type 0) (r : Result Planned Halt) → Comes m P r → ((plan : Planned) → P plan → MovesSoundly m p (comes_to [] (all_written plan.writes plan.state)))
    → MovesSoundly m p (comes_to [] (given r (λ plan. all_written plan.writes plan.state)))
move_on m p P (Ok plan) h k = k plan h
move_on m p P (Err (halt.Stopped why at)) h k = stops_soundly m why at
move_on m p P (Err halt.Stuck) h k = λ e. h

-- what is planned is written to objects of their own types
cells_of : (s : Setting) (before after : Store) (v : Valuation) (at : flow.State) (ps : List Placed) (ws : List Write) → ArePlanned s before after v at ps ws → AreCellWrites s.text.layout before.blocks ws
unfolding ArePlanned AreCellWrites
cells_of s before after v at [] [] h = tt
cells_of s before after v at [] (w ∷ ws) h = absurd h
cells_of s before after v at (p ∷ ps) [] h = absurd h
cells_of s before after v at (p ∷ ps) (w ∷ ws) h = (h.0.written, cells_of s before after v at ps ws h.1)

module _ (p : Typed) (g : IsGranted p) (st : State) (h : Sound p st) (step : Code → Code) (next : List Work)
    (f : Faces h.setting (store_in p st.blocks st.frame) st.frame.entry step next) where
  abbrev s : Setting
  s = h.setting

  abbrev function : IsFunction p s st.frame.function
  function = h.stands.function

  abbrev text : s.text ≡ p
  text = text_is p s st.frame.function function

  abbrev shapes : List Shape
  shapes = shapes_elaborated p.layout

  -- the state in which the step is planned
  abbrev pub planning : State
  planning = at_work st next

  is_sound : AreSound p st.blocks st.next
  is_sound = record { apart = h.orderly.apart; bytes = h.orderly.bytes; memory = h.memory }

  pub is_at : IsAt s shapes st.frame.entry f.here planning
  is_at = record {
    holds = f.holds;
    ready = record {
      sound = subst (λ q. AreSound q st.blocks st.next) (sym text) is_sound;
      shapes = ap (λ (q : Typed). shapes_elaborated q.layout) (sym text);
      names = subst (λ (q : Typed). HaveOwnNames q.layout) (sym text) (have_own_names p g.judged);
    };
    filled = subst (λ (q : Typed). AreFilled q (store_of shapes planning)) (sym text) h.filled;
  }

  module _ (afters : List NotedStmt) (value fresh : ℕ) (stored : AreStored s f.here afters f.judged.behind) (plan : Planned) (before : Valuation)
      (sound : IsSoundPlan s shapes st.frame.entry f.here planning (numbered s.frame f.here.at 0 f.here.next (stores_of afters)) value fresh before plan)
      (fit : All (IsFitting s) (numbered s.frame f.here.at 0 f.here.next (stores_of afters)))
      (together : AreTogether s plan.state.frame.locals (numbered s.frame f.here.at 0 f.here.next (stores_of afters))) where
    abbrev ps : List Placed
    ps = numbered s.frame f.here.at 0 f.here.next (stores_of afters)

    known : AreFacts sound.after f.here.at.facts
    known = facts_agree s plan.state.frame.locals sound.after sound.values f.here.at.facts.list f.judged.named sound.at.holds.facts

    abbrev end_store : Store
    end_store = store_of shapes plan.state

    cells : AreCellWrites s.text.layout plan.state.blocks plan.writes
    cells = cells_of s end_store end_store sound.after f.here.at ps plan.writes sound.planned

    blocks_sound : AreSound s.text plan.state.blocks plan.state.next
    blocks_sound = sound.at.ready.sound

    written : AreWrittenAll plan.writes plan.state
    written = all_come s.text plan.writes plan.state blocks_sound cells

    abbrev done : State
    done = written.after

    abbrev structs : s.frame.structs ≡ s.text.layout
    structs = (frames_agree p s st.frame.function g.judged function).structs

    filled_after : AreCellWrites s.text.layout plan.state.blocks plan.writes × AreSound s.text done.blocks plan.state.next × AreFilled s.text (store_of shapes done)
    filled_after = stays_filled s structs sound.at.ready.names (subst (λ (q : Typed). NameIntegerMembers q.layout) (sym text) g.counts)
        (subst (λ (q : Typed). HaveSmallNames q.layout) (sym text) g.names) (subst AreSlotParts (sym text) g.parts) plan.state.next end_store end_store [] plan.state done blocks_sound refl
        (sym (append-nil plan.state.blocks)) sound.after sound.values.zero f.here.at known s.head.bounds f.here.seen done.frame.locals ps plan.writes f.judged.behind.at plan.state.frame.locals
        stored.leads sound.planned together sound.lies written.is sound.at.filled

    sound_there : AreSound s.text done.blocks plan.state.next
    sound_there = filled_after.1

    stays : KeepRanges shapes plan.state.blocks done.blocks
    stays = writes_keep_ranges s.text plan.state.next plan.writes plan.state done shapes blocks_sound cells written.is

    point : HoldsAt s (store_of shapes done) st.frame.entry f.judged.behind
    point =
        point_after s end_store end_store (store_of shapes done) sound.after st.frame.entry f.here f.judged.behind ps plan.writes (locals_have_ends p s st.frame.function g.judged function) sound.at.holds
        sound.values known sound_there.memory.placed (ones_apart s.frame f.here.at afters stored.one 0 f.here.next) (all_planned s end_store end_store sound.after f.here.at ps plan.writes sound.planned fit)
        stored.leads stored.seen (written_locals plan.writes plan.state done written.is) (λ to n low high e. stays to n low high e) (λ to n low high e. stays to n low high e)

    same : IsSameCall st done
    same = record {
      function = written.left.function ∙ ap (λ (x : State). x.frame.function) sound.grown.same;
      entry = written.left.entry ∙ ap (λ (x : State). x.frame.entry) sound.grown.same;
      callers = written.left.callers ∙ ap (λ (x : State). x.callers) sound.grown.same;
    }

    entry_is : done.frame.entry ≡ st.frame.entry
    entry_is = same.entry

    keeps : KeepRanges shapes st.blocks done.blocks
    keeps to n low high e =
        stays to n low high (subst (λ bs. is_true shapes bs to n low high ≡ true) (sym sound.grown.blocks) (blocks_keep_ranges shapes st.blocks sound.grown.more to n low high e))

    pub written_sound : (m : Mode) → MovesSoundly m p (comes_to [] (all_written plan.writes plan.state))
    written_sound m =
        subst (λ r. MovesSoundly m p (comes_to [] r)) (sym written.is)
        (faced_sound p st done h same keeps
        (subst (λ n. AreSound p done.blocks n) (sym written.left.next) (subst (λ q. AreSound q done.blocks plan.state.next) text sound_there))
        (subst (λ q. AreFilled q (store_of shapes done)) text filled_after.2)
        (subst AreBytes (sym (written.left.input ∙ ap (λ (x : State). x.input) sound.grown.same)) h.input)
        step next f (written.left.work ∙ ap (λ (x : State). x.frame.work) sound.grown.same)
        (subst (λ e. HoldsAt s (store_of shapes done) e f.exits.ends) (sym entry_is) (point_kept s (store_of shapes done) st.frame.entry f.judged.behind f.exits.ends f.judged.goes point)))
