-- A `calloc` that is a statement keeps states sound: what it makes is a block that nothing points to.
use Rattle.std.proofs.Common.{◌≡◌, refl, sym, ap, subst, ◌∙◌, Bool, true, false, List, [], ◌∷◌, rules}
use Rattle.std.specs.Prelude.{◌&&◌, ◌||◌, Result, Ok, Err}
use Rattle.ckc_base.specs.declared.arithmetic.Mode.{Mode}
use Rattle.ckc_base.specs.Lists.{AreBytes}
use Rattle.ckc_types.specs.declared.types.Kind.{Kind}
use Rattle.ckc_types.specs.declared.types.Kind.TheVariants as kind
use Rattle.ckc_types.specs.declared.types.CType.{CType, CType-F, out-CType, the_lemmas}
use Rattle.ckc_types.specs.declared.types.CType.TheVariants as ctype
use Rattle.ckc_syntax.specs.declared.tree.Name.{Name}
use Rattle.ckc_syntax.specs.declared.tree.Node.{Node-F, out-Node}
use Rattle.ckc_syntax.specs.declared.tree.Act.{Act-F}
use Rattle.ckc_typed.specs.declared.typed.Note.{Note}
use Rattle.ckc_typed.specs.declared.typed.Typed.{Typed}
use Rattle.ckc_typed.specs.Conversions.{is_allocation, is_allocation_form, is_null, is_terminated_kind, kind_converts, takes_string, takes_pointer, converts}
use Rattle.ckc_typed.specs.Operands.{same_element}
use Rattle.ckc_typed.specs.Statics.{strings_of_expr}
use Rattle.ckc_typed.specs.Trees.{NotedExpr, NotedLayer, TypeTree}
use Rattle.ckc_typed.specs.Types.{is_integer, is_pointer, is_pointer_form, element_of, kind_in, same_type, type_written}
use Rattle.ckc_blame_sound.specs.ckc_bounds_views.specs.Parts.{fresh_behind}
use Rattle.ckc_blame_sound.specs.ckc_bounds_views.specs.Views.{view}
use Rattle.ckc_blame_sound.specs.ckc_bounds_statements.specs.Paths.{Here}
use Rattle.ckc_source.specs.declared.outcome.Halt.{Halt}
use Rattle.ckc_source.specs.declared.outcome.Halt.TheVariants as halt
use Rattle.ckc_source.specs.declared.outcome.Place.TheVariants as place
use Rattle.ckc_source.specs.declared.program.Shape.{Shape}
use Rattle.ckc_source.specs.declared.stmt.Spot.{Spot}
use Rattle.ckc_source.specs.Code.{Target, Nothing, Right, Code, End, Assign}
use Rattle.ckc_source.specs.Eval.{given}
use Rattle.ckc_source.specs.Runs.{is_true}
use Rattle.ckc_source.specs.States.{Work, Rest, State, settled}
use Rattle.ckc_source.specs.Steps.{store_of, Drawn, drawn, Planned, all_written, bundled, comes_to, source_step, spot_at, spot_of}
use Rattle.ckc_build_elaborate.specs.Elaborated.{elaborated}
use Rattle.ckc_build_elaborate.specs.Shapes.{shapes_elaborated}
use Rattle.ckc_build_elaborate.specs.Steps.{spot, nowhere, right_of, assigned_form, is_terminated}
use Rattle.ckc_blame_sound.specs.Calls.{store_in}
use Rattle.ckc_blame_sound.specs.Points.{HoldsAt}
use Rattle.ckc_blame_sound.specs.Settings.{Setting, AreStrings, IsFunction}
use Rattle.ckc_blame_sound.specs.Slots.{AreFilled}
use Rattle.ckc_blame_sound.specs.Sound.{Sound}
use Rattle.ckc_blame_sound.proofs.Kept.{point_kept}
use Rattle.ckc_blame_sound.specs.Cells.{AreSound}
use Rattle.ckc_blame_sound.specs.Typed.{IsTyped, IsTypedAct}
use Rattle.ckc_blame_sound.specs.JudgedTexts.{globals_in}
use Rattle.ckc_blame_control.specs.Kept.{KeepRanges, IsSameCall}
use Rattle.ckc_blame_control.specs.Ready.{Faces}
use Rattle.ckc_blame_control.proofs.Kept.{faced_sound, blocks_keep_ranges}
use Rattle.ckc_blame_given.specs.ckc_blame_pointers.specs.Covered.{IsCovered}
use Rattle.ckc_blame_given.specs.ckc_blame_pointers.specs.Owed.{Comes}
use Rattle.ckc_blame_given.specs.ckc_blame_pointers.proofs.Arrays.{type_same}
use Rattle.ckc_blame_given.specs.ckc_blame_pointers.proofs.Strings.{strings_in_node}
use Rattle.ckc_blame_given.proofs.Layers.{strings_are}
use Rattle.ckc_blame_given.proofs.Points.{same_point}
use Rattle.ckc_blame_steps.specs.Granted.{IsGranted, HasPlaces, IsCoveredAlone, IsCoveredAct, HasRoom, HasRoomAct}
use Rattle.ckc_blame_steps.specs.Plans.{IsDrawn, AllocateSoundly, counted_in}
use Rattle.ckc_blame_steps.specs.Unchecked.{StoresSafely, MovesSoundly}
use Rattle.ckc_blame_steps.proofs.Calls.{value_is_judged}
use Rattle.ckc_blame_steps.proofs.Callocs.{IsJudgedCalloc, judged_calloc}
use Rattle.ckc_blame_steps.proofs.Comes.{stops_soundly, safe_as}
use Rattle.ckc_blame_steps.proofs.Origins.{IsCallAlone}
use Rattle.ckc_blame_steps.proofs.Steps.{at_b, covered_there, typed_act, known}
use Rattle.ckc_blame_steps.proofs.Stores.{text_is, planning}
use Rattle.ckc_blame_steps.proofs.Strings.{strings_there}
use Rattle.ckc_blame_steps.proofs.SoundMoves.{moves_by}

pointer_out : (k : Kind) (t : CType) → out-CType (ctype.Pointer k t) ≡ CType-F.Pointer k t
pointer_out k t = search (rules, the_lemmas)

both : (a b c : Bool) → a ≡ true → b ≡ true → c ≡ true → (a && (b && c)) ≡ true
both true true true d e f = refl
both true true false d e f = absurd cc
both true false c d e f = absurd cc
both false b c d e f = absurd cc

-- a pointer that a `calloc` may go to
takes : (a p x y al same z : Bool) → p ≡ true → al ≡ true → same ≡ true → (a || (p && (x || (y || ((al && same) || z))))) ≡ true
takes true p x y al same z d e f = refl
takes false true true y al same z d e f = refl
takes false true false true al same z d e f = refl
takes false true false false true true z d e f = refl
takes false true false false true false z d e f = absurd cc
takes false true false false false same z d e f = absurd cc
takes false false x y al same z d e f = absurd cc

module _ (p : Typed) (g : IsGranted p) (allocations : AllocateSoundly p) (m : Mode) (st : State) (h : Sound p st) (sp : Spot) (target : Target) (right : Right) (next : List Work) (mode : sp.mode ≡ m)
    (safe : StoresSafely m (Assign sp target right End)) (f : Faces h.setting (store_in p st.blocks st.frame) st.frame.entry (Assign sp target right) next) (c : IsCallAlone h.setting f.here f.exits.ends (Assign sp target right) f.judged)
    (w u : TypeTree) (n : NotedExpr) (out : out-Node Name Note c.made.node ≡ Node-F.Calloc w n u) where
  abbrev s : Setting
  s = h.setting

  abbrev function : IsFunction p s st.frame.function
  function = h.stands.function

  abbrev pub shapes : List Shape
  shapes = shapes_elaborated p.layout

  abbrev step : Code → Code
  step = Assign sp target right

  abbrev pub start : State
  start = planning p g st h step next f

  -- the type of the pointer that it gives
  abbrev t : CType
  t = ctype.Pointer kind.Arr (type_written w)

  -- ---- what it becomes

  becomes : (target ≡ Nothing) × (right ≡ right_of s.text s.variables f.judged.literals false c.made)
  becomes =
      let node : NotedLayer = Node-F.Calloc w n u in
      let code : assigned_form s.text s.variables (spot c.made.pos f.judged.after.note.mode) nowhere f.judged.literals c.made node End ≡ Assign sp target right End =
      sym (ap (λ (x : NotedLayer). assigned_form s.text s.variables (spot c.made.pos f.judged.after.note.mode) nowhere f.judged.literals c.made x End) out) ∙ c.goes in
      (cc, cc)

  ended : is_terminated t ≡ false
  ended = ap (λ (x : CType-F CType). is_terminated_kind (kind_in x)) (pointer_out kind.Arr (type_written w))

  right_is : right ≡ right_of s.text s.variables f.judged.literals (is_terminated t) c.made
  right_is = becomes.1 ∙ ap (λ b. right_of s.text s.variables f.judged.literals b c.made) (sym ended)

  -- ---- what is known of it

  leads : ((view s.frame c.call).judged f.here.next f.here.at ≡ Ok c.made) × (f.judged.behind ≡ record f.here { next = fresh_behind (view s.frame c.call) f.here.next f.here.at })
  leads = value_is_judged s.frame c.call c.made f.here f.judged.behind f.judged.counting c.judged

  typed : IsTyped (globals_in p) s c.call
  typed = subst (IsTypedAct (globals_in p) s) c.is (typed_act p g st h step next f)

  calloc : IsJudgedCalloc s (globals_in p) c.call c.made n f.here.next f.here.at
  calloc = judged_calloc s (globals_in p) c.call c.made n f.here.next f.here.at typed leads.0 (ap counted_in out)

  type_is : c.call.note.ctype ≡ t
  type_is =
      let nodes : ◌≡◌ {A = NotedLayer} (Node-F.Calloc calloc.written n calloc.unit) (Node-F.Calloc w n u) = sym calloc.after ∙ out in
      let same : calloc.written ≡ w = cc in
      calloc.row.pointer ∙ ap (λ (x : TypeTree). ctype.Pointer kind.Arr (type_written x)) same

  pointer : is_pointer t ≡ true
  pointer = ap is_pointer_form (pointer_out kind.Arr (type_written w))

  goes : converts t c.call ≡ true
  goes =
      takes (is_integer t && is_integer c.call.note.ctype) (is_pointer t) (is_null c.call) (takes_string t c.call) (is_allocation c.call) (same_element t c.call.note.ctype) (takes_pointer kind_converts t c.call) pointer
      (ap is_allocation_form calloc.before)
      (subst (λ (x : CType). same_element t x ≡ true) (sym type_is) (both (is_pointer t) (is_pointer t) (same_type (element_of t) (element_of t)) pointer pointer (type_same (element_of t))))

  covered : HasPlaces s t × IsCovered m s (store_of shapes start) f.here.seen n
  covered =
      subst (IsCoveredAlone m s (store_of shapes start) f.here.seen) out
      (subst (IsCoveredAct m s (store_of shapes start) f.here.seen) c.becomes (covered_there p g st h step next f m sp mode safe start (at_b p g st h step next f)))

  room : HasRoom s.frame f.here.at 0 f.here.next c.made
  room = subst (HasRoomAct s.frame f.here.at f.here.next) c.becomes (g.room s st.frame.function f.here f.exits.ends step function f.judged)

  -- the string literals of what it counts
  counted_strings : AreStrings s f.judged.literals (strings_of_expr n)
  counted_strings =
      let strings : AreStrings s f.judged.literals (strings_of_expr c.made) = strings_there s f.judged.literals f.judged.after f.judged.strings (Act-F.Call c.made) c.becomes in
      let inside : AreStrings s f.judged.literals (strings_in_node (out-Node Name Note c.made.node)) = subst (AreStrings s f.judged.literals) (strings_are c.made) strings in
      subst (λ (x : NotedLayer). AreStrings s f.judged.literals (strings_in_node x)) out inside

  abbrev Draws : Drawn → Type 0
  Draws = IsDrawn s shapes st.frame.entry f.here start t c.made

  drawn_there : Comes m Draws (drawn shapes start right)
  drawn_there =
      subst (λ r. Comes m Draws (drawn shapes start r)) (sym right_is)
      (allocations m s st.frame.function f.here f.exits.ends step st.frame.entry function f.judged start (at_b p g st h step next f) t c.call c.made n f.here.next f.judged.literals (ap counted_in out) typed goes covered.0
      leads.0 room.variables (known p g st h step next f).fresh covered.1 counted_strings)

  -- ---- the state after

  module _ (d : Drawn) (dr : Draws d) where
    text : s.text ≡ p
    text = text_is p s st.frame.function function

    point : HoldsAt s (store_of shapes d.state) st.frame.entry f.judged.behind
    point = same_point s (store_of shapes d.state) st.frame.entry f.here f.judged.behind dr.at.holds (ap (λ (x : Here). x.at) leads.1) (ap (λ (x : Here). x.seen) leads.1)

    same_call : IsSameCall st d.state
    same_call = record {
      function = ap (λ (x : State). x.frame.function) dr.grown.same;
      entry = ap (λ (x : State). x.frame.entry) dr.grown.same;
      callers = ap (λ (x : State). x.callers) dr.grown.same;
    }

    keeps : KeepRanges shapes st.blocks d.state.blocks
    keeps to n low high x = subst (λ bs. is_true shapes bs to n low high ≡ true) (sym dr.grown.blocks) (blocks_keep_ranges shapes st.blocks dr.grown.more to n low high x)

    left_sound : Sound p d.state
    left_sound =
        faced_sound p st d.state h same_call keeps (subst (λ q. AreSound q d.state.blocks d.state.next) text dr.at.ready.sound)
        (subst (λ q. AreFilled q (store_of shapes d.state)) text dr.at.filled)
        (subst AreBytes (sym (ap (λ (x : State). x.input) dr.grown.same)) h.input) step next f (ap (λ (x : State). x.frame.work) dr.grown.same)
        (subst (λ x. HoldsAt s (store_of shapes d.state) x f.exits.ends) (sym same_call.entry) (point_kept s (store_of shapes d.state) st.frame.entry f.judged.behind f.exits.ends f.judged.goes point))

  pub dropped_sound : MovesSoundly m p (comes_to [] (bundled shapes start ((target, right) ∷ [])))
  dropped_sound = subst (λ x. MovesSoundly m p (comes_to [] (bundled shapes start ((x, right) ∷ [])))) (sym becomes.0) (by (drawn shapes start right) drawn_there)
    where
      by : (r : Result Drawn Halt) → Comes m Draws r
          → MovesSoundly m p (comes_to [] (given (given r (λ (d : Drawn). Ok (record { writes = (place.Nowhere, d.number) ∷ []; state = d.state }))) (λ (plan : Planned). all_written plan.writes plan.state)))
      by (Ok d) dr = left_sound d dr
      by (Err (halt.Stopped why at)) dr = stops_soundly m why at
      by (Err halt.Stuck) dr = λ e. dr

-- a `calloc` of the text that is a statement
pub allocation_sound : (p : Typed) (m : Mode) (st : State) (h : Sound p st) (sp : Spot) (target : Target) (right : Right) (rest : Code) (next : List Work) → IsGranted p → AllocateSoundly p
    → settled st.frame.work ≡ Rest (Assign sp target right rest) ∷ next → (spot_of st).mode ≡ m → StoresSafely m (Assign sp target right rest)
    → (f : Faces h.setting (store_in p st.blocks st.frame) st.frame.entry (Assign sp target right) (Rest rest ∷ next)) (c : IsCallAlone h.setting f.here f.exits.ends (Assign sp target right) f.judged)
    (w u : TypeTree) (n : NotedExpr) → out-Node Name Note c.made.node ≡ Node-F.Calloc w n u → MovesSoundly m p (source_step (elaborated p) st)
allocation_sound p m st h sp target right rest next g allocations is mode safe f c w u n out =
    moves_by m p st (Rest (Assign sp target right rest) ∷ next) is
    (dropped_sound p g allocations m st h sp target right (Rest rest ∷ next) (subst (λ x. (spot_at st.frame.function.end x).mode ≡ m) is mode)
    (safe_as m (Assign sp target right rest) (Assign sp target right End) refl safe) f c w u n out)
