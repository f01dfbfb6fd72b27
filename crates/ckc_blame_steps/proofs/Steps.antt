-- Steps that assign keep states sound.
use Rattle.std.proofs.Common.{◌≡◌, inl, refl, sym, subst, ℕ, Bool, List, [], ◌∷◌, arith}
use Rattle.std.specs.Prelude.{◌<◌, ◌^◌, length}
use Rattle.std.specs.List.{All}
use Rattle.ckc_base.specs.declared.arithmetic.Mode.{Mode}
use Rattle.ckc_syntax.specs.declared.tree.Name.{Name}
use Rattle.ckc_syntax.specs.declared.tree.Node.{out-Node}
use Rattle.ckc_syntax.specs.declared.tree.Act.{Act-F, out-Act}
use Rattle.ckc_typed.specs.declared.typed.Note.{Note}
use Rattle.ckc_typed.specs.declared.typed.Typed.{Typed}
use Rattle.ckc_typed.specs.Trees.{NotedAct, NotedExpr, NotedStmt}
use Rattle.ckc_blame_sound.specs.ckc_bounds_stores.specs.Stores.{with_store, stores_of, numbered}
use Rattle.ckc_source.specs.declared.program.Shape.{Shape}
use Rattle.ckc_source.specs.declared.stmt.Spot.{Spot}
use Rattle.ckc_source.specs.Code.{Target, Right, Code, End, Assign}
use Rattle.ckc_source.specs.States.{Work, Rest, State, settled}
use Rattle.ckc_source.specs.Steps.{store_of, planned, bundled, comes_to, source_step, spot_in, spot_at, spot_of}
use Rattle.ckc_build_elaborate.specs.Elaborated.{elaborated}
use Rattle.ckc_build_elaborate.specs.Shapes.{shapes_elaborated}
use Rattle.ckc_blame_sound.specs.Calls.{store_in}
use Rattle.ckc_blame_sound.specs.Settings.{Setting, IsFunction}
use Rattle.ckc_blame_sound.specs.Slots.{AreFilled}
use Rattle.ckc_blame_sound.specs.Sound.{Sound}
use Rattle.ckc_blame_sound.specs.Typed.{AreTypedSides, IsTypedAct}
use Rattle.ckc_blame_sound.specs.JudgedTexts.{globals_in}
use Rattle.ckc_blame_sound.proofs.Frames.{frames_agree}
use Rattle.ckc_blame_control.specs.Known.{IsKnownPoint}
use Rattle.ckc_blame_control.specs.Ready.{Faces}
use Rattle.ckc_blame_control.proofs.Typed.{statement_typed, point_known}
use Rattle.ckc_blame_given.specs.Written.{IsFitting}
use Rattle.ckc_blame_given.specs.Stored.{IsAssignJudged, AreAssignsJudged, AreStored}
use Rattle.ckc_blame_given.proofs.Fitting.{step_fits}
use Rattle.ckc_blame_given.proofs.Stored.{assignment_stored}
use Rattle.ckc_blame_given.specs.Targets.{KeepRunsFree, IsCoveredTarget}
use Rattle.ckc_blame_given.specs.Together.{AreTogether}
use Rattle.ckc_typed_welltyped.specs.Statements.{act_rows, WellTypedStmt}
use Rattle.ckc_typed_welltyped.proofs.ByParts.{stmt_by_parts}
use Rattle.ckc_blame_sound.specs.Bodies.{globals_of_text}
use Rattle.ckc_blame_steps.specs.Granted.{IsGranted, IsCoveredRight, IsCoveredAct, AreCoveredSides, HaveRoom, HasRoomAct}
use Rattle.ckc_blame_steps.specs.Plans.{BecomesPart, BecomeParts, IsAt, IsSoundPlan, AllocateSoundly}
use Rattle.ckc_blame_steps.specs.Unchecked.{StoresSafely, MovesSoundly}
use Rattle.ckc_blame_steps.proofs.Becomes.{IsPlainStep, assign_plain}
use Rattle.ckc_blame_steps.proofs.Comes.{safe_as}
use Rattle.ckc_blame_steps.proofs.Own.{own_valuation, own_values}
use Rattle.ckc_blame_steps.proofs.Plans.{AreFit, AllFit, StayCovered, all_planned}
use Rattle.ckc_blame_steps.proofs.Stores.{text_is, move_on, planning, is_at, written_sound}
use Rattle.ckc_blame_steps.proofs.SoundMoves.{moves_by}

abbrev pub ActLayer : Type 0
ActLayer = Act-F Name Note NotedAct NotedStmt

module _ (p : Typed) (g : IsGranted p) (st : State) (h : Sound p st) (step : Code → Code) (next : List Work)
    (f : Faces h.setting (store_in p st.blocks st.frame) st.frame.entry step next) where
  abbrev s : Setting
  s = h.setting

  abbrev function : IsFunction p s st.frame.function
  function = h.stands.function

  abbrev shapes : List Shape
  shapes = shapes_elaborated p.layout

  abbrev b : State
  b = planning p g st h step next f

  pub at_b : IsAt s shapes st.frame.entry f.here b
  at_b = is_at p g st h step next f

  pub few : length s.variables < 2 ^ 32
  few = let m = g.few s st.frame.function function in omega arith

  pub known : IsKnownPoint (globals_in p) s f.here
  known = point_known p s st.frame.function f.here g.judged function few f.judged.fresh f.judged.named

  pub free : KeepRunsFree s.text
  free = subst KeepRunsFree (sym (text_is p s st.frame.function function)) g.free

  -- what is covered at the point of the step
  pub covered_there : (m : Mode) (end : Spot) → (spot_in end (step End)).mode ≡ m → StoresSafely m (step End) → (c : State) → IsAt s shapes st.frame.entry f.here c
      → IsCoveredAct m s (store_of shapes c) f.here.seen (out-Act Name Note f.judged.after.body)
  covered_there m end mode safe c at_c =
      g.covered m s st.frame.function f.here f.exits.ends step end (store_of shapes c) c.next function f.judged mode safe at_c.ready
      (subst (λ q. AreFilled q (store_of shapes c)) (text_is p s st.frame.function function) at_c.filled)

  -- assignments that are judged as one
  pub parts_sound : (m : Mode) → AllocateSoundly p → (befores afters : List NotedStmt) (others : List (Target × Right)) → AreAssignsJudged s f.here.at f.here.next befores afters → AreStored s f.here afters f.judged.behind
      → AllFit (globals_in p) s befores → StayCovered m s shapes st.frame.entry f.here afters → BecomeParts s afters others → HaveRoom s.frame f.here.at 0 f.here.next (stores_of afters)
      → All (IsFitting s) (numbered s.frame f.here.at 0 f.here.next (stores_of afters))
      → ((locals : List ℕ) → AreTogether s locals (numbered s.frame f.here.at 0 f.here.next (stores_of afters))) → MovesSoundly m p (comes_to [] (bundled shapes b others))
  parts_sound m allocations befores afters others judged stored fit covered becomes room fitting together =
      move_on m p (IsSoundPlan s shapes st.frame.entry f.here b (numbered s.frame f.here.at 0 f.here.next (stores_of afters)) 0 f.here.next (own_valuation s b.frame.locals)) (planned shapes b others)
      (all_planned m (globals_in p) s (frames_agree p s st.frame.function g.judged function) (g.declares s st.frame.function function) free shapes st.frame.entry f.here
      (allocations m s st.frame.function f.here f.exits.ends step st.frame.entry function f.judged) befores afters others b at_b 0 f.here.next (own_valuation s b.frame.locals) (own_values s b.frame.locals)
      (omega arith) known.word known.fresh judged fit covered becomes room)
      (λ plan sound. written_sound p g st h step next f afters 0 f.here.next stored plan (own_valuation s b.frame.locals) sound fitting (together plan.state.frame.locals) m)

  -- the two sides of an assignment before they are judged
  pub row_of : (st : NotedStmt) (mode : Mode) (looped : Bool) → WellTypedStmt (globals_of_text s.text) s.variables s.result st mode looped
      → act_rows (globals_of_text s.text) s.variables s.result (WellTypedStmt (globals_of_text s.text) s.variables s.result) (out-Act Name Note st.body) mode looped
  row_of st mode looped w = ((stmt_by_parts (globals_of_text s.text) s.variables s.result st mode looped).0 w).row

  pub side_fits : (mode : Mode) (looped : Bool) (x : ActLayer) (e y : NotedExpr) → x ≡ Act-F.Assign e y → AreTypedSides (globals_in p) s x
      → act_rows (globals_of_text s.text) s.variables s.result (WellTypedStmt (globals_of_text s.text) s.variables s.result) x mode looped → AreFit (globals_in p) s x
  side_fits mode looped (Act-F.Assign a b) e y is typed row = (typed.0, typed.1, row.converted, row.target.0)
  side_fits mode looped x e y is typed row = absurd (cc)

  pub typed_act : IsTypedAct (globals_in p) s (out-Act Name Note f.judged.before.body)
  typed_act = statement_typed p s st.frame.function g.judged g.words function f.judged.before f.judged.inside

  pub typed_sides : (x : ActLayer) (e y : NotedExpr) → x ≡ Act-F.Assign e y → IsTypedAct (globals_in p) s x → AreTypedSides (globals_in p) s x
  typed_sides (Act-F.Assign a b) e y is typed = typed
  typed_sides x e y is typed = absurd (cc)

-- ---- an assignment alone

module _ (p : Typed) (g : IsGranted p) (allocations : AllocateSoundly p) (m : Mode) (st : State) (h : Sound p st) (next : List Work) (sp : Spot) (target : Target) (right : Right) (mode : sp.mode ≡ m)
    (safe : StoresSafely m (Assign sp target right End))
    (f : Faces h.setting (store_in p st.blocks st.frame) st.frame.entry (Assign sp target right) next) (e x : NotedExpr) (is : out-Act Name Note f.judged.before.body ≡ Act-F.Assign e x) where
  abbrev t : Setting
  t = h.setting

  abbrev step : Code → Code
  step = Assign sp target right

  abbrev pub list : List Shape
  list = shapes_elaborated p.layout

  abbrev afters : List NotedStmt
  afters = f.judged.after ∷ []

  made : AreAssignsJudged t f.here.at f.here.next (f.judged.before ∷ []) afters × AreStored t f.here afters f.judged.behind
  made = assignment_stored t f.here f.judged.behind f.judged.before f.judged.after e x f.judged.counting is f.judged.judged

  one : IsAssignJudged t f.here.at f.here.next f.judged.before f.judged.after
  unfolding AreAssignsJudged
  one = made.0.0

  covered : (c : State) → IsAt t list st.frame.entry f.here c
      → IsCoveredTarget m t (store_of list c) f.here.seen one.place (out-Node Name Note one.place.node) × IsCoveredRight m t (store_of list c) f.here.seen one.place.note.ctype one.value (out-Node Name Note one.value.node)
  covered c at_c = subst (IsCoveredAct m t (store_of list c) f.here.seen) one.becomes (covered_there p g st h step next f m sp mode safe c at_c)

  abbrev pub start : State
  start = planning p g st h step next f

  start_at : IsAt t list st.frame.entry f.here start
  start_at = is_at p g st h step next f

  plain : IsPlainStep t sp f.judged.after target right one.place one.value
  plain = assign_plain t f.judged.literals f.judged.after sp target right f.judged.becomes f.judged.strings one.place one.value one.becomes m (store_of list start) f.here.seen one.place.note.ctype (covered start start_at).1

  all_covered : StayCovered m t list st.frame.entry f.here afters
  all_covered c at_c =
      (subst (AreCoveredSides m t (store_of list c) f.here.seen) (sym one.becomes) ((covered c at_c).0, plain.covered m (store_of list c) f.here.seen one.place.note.ctype (covered c at_c).1), tt)

  become : BecomeParts t afters ((target, right) ∷ [])
  unfolding BecomeParts
  become = (subst (λ y. BecomesPart t y (target, right)) (sym one.becomes) plain.sides, tt)

  room : HaveRoom t.frame f.here.at 0 f.here.next (stores_of afters)
  unfolding HaveRoom
  room =
      subst (λ y. HaveRoom t.frame f.here.at 0 f.here.next (with_store y f.judged.after.pos [])) (sym one.becomes)
      (subst (HasRoomAct t.frame f.here.at f.here.next) one.becomes (g.room t st.frame.function f.here f.exits.ends step h.stands.function f.judged), tt)

  fit : AllFit (globals_in p) t (f.judged.before ∷ [])
  fit = (
    side_fits p g st h step next f f.judged.inside.mode f.judged.inside.looped (out-Act Name Note f.judged.before.body) e x is
        (typed_sides p g st h step next f (out-Act Name Note f.judged.before.body) e x is (typed_act p g st h step next f))
        (row_of p g st h step next f f.judged.before f.judged.inside.mode f.judged.inside.looped f.judged.inside.typed),
    tt,
  )

  fitting : All (IsFitting t) (numbered t.frame f.here.at 0 f.here.next (stores_of afters))
  fitting =
      step_fits p t st.frame.function g.judged h.stands.function f.judged.before f.judged.inside (f.judged.before ∷ []) afters f.here.at f.here.next (inl refl) made.0 f.here.at 0 f.here.next

  together : (locals : List ℕ) → AreTogether t locals (numbered t.frame f.here.at 0 f.here.next (stores_of afters))
  together locals = inl (subst (λ y. length (numbered t.frame f.here.at 0 f.here.next (with_store y f.judged.after.pos [])) ≡ 1) (sym one.becomes) refl)

  pub assigned_sound : MovesSoundly m p (comes_to [] (bundled list start ((target, right) ∷ [])))
  assigned_sound =
      parts_sound p g st h step next f m allocations (f.judged.before ∷ []) afters ((target, right) ∷ []) made.0 made.1 fit all_covered become room fitting together

-- an assignment of the text
pub assignment_sound : (p : Typed) (m : Mode) (st : State) (h : Sound p st) (sp : Spot) (target : Target) (right : Right) (rest : Code) (next : List Work) → IsGranted p → AllocateSoundly p
    → settled st.frame.work ≡ Rest (Assign sp target right rest) ∷ next → (spot_of st).mode ≡ m → StoresSafely m (Assign sp target right rest)
    → (f : Faces h.setting (store_in p st.blocks st.frame) st.frame.entry (Assign sp target right) (Rest rest ∷ next)) → (e x : NotedExpr) → out-Act Name Note f.judged.before.body ≡ Act-F.Assign e x
    → MovesSoundly m p (source_step (elaborated p) st)
assignment_sound p m st h sp target right rest next g allocations is mode safe f e x layer =
    moves_by m p st (Rest (Assign sp target right rest) ∷ next) is
    (assigned_sound p g allocations m st h (Rest rest ∷ next) sp target right (subst (λ w. (spot_at st.frame.function.end w).mode ≡ m) is mode)
    (safe_as m (Assign sp target right rest) (Assign sp target right End) refl safe) f e x layer)
