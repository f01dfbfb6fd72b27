-- Declarations keep states sound.
use Rattle.std.proofs.Common.{◌≡◌, inl, refl, sym, ap, subst, ◌∙◌, ℕ, ◌+◌, true, false, List, [], ◌∷◌}
use Rattle.std.specs.Prelude.{◌*◌, not, if◌then◌else◌, slice_set, Result, Ok, Err}
use Rattle.ckc_base.specs.Outcomes.{bind, unless}
use Rattle.ckc_base.specs.Memory.{kept_part}
use Rattle.ckc_base.specs.Lists.{AreBytes}
use Rattle.ckc_base.specs.declared.arithmetic.Mode.{Mode}
use Rattle.ckc_syntax.specs.declared.tree.Name.{Name}
use Rattle.ckc_syntax.specs.declared.tree.Init.TheVariants as init
use Rattle.ckc_syntax.specs.declared.tree.Act.{Act-F, out-Act}
use Rattle.ckc_syntax.specs.declared.tree.Act.TheVariants as act
use Rattle.ckc_typed.specs.declared.typed.Note.{Note}
use Rattle.ckc_typed.specs.declared.typed.Typed.{Typed}
use Rattle.ckc_typed.specs.Conversions.{converts}
use Rattle.ckc_typed.specs.Declarations.{is_plain}
use Rattle.ckc_typed.specs.Statics.{strings_of_expr}
use Rattle.ckc_typed.specs.Trees.{NotedDecl, NotedExpr, NotedInit, NotedStmt}
use Rattle.ckc_typed.specs.Types.{type_written}
use Rattle.ckc_typed_welltyped.specs.Declarations.{StartsLocal, WellTypedLocal}
use Rattle.ckc_typed_welltyped.specs.Statements.{act_rows, WellTypedStmt}
use Rattle.ckc_blame_sound.specs.ckc_bounds_points.specs.declared.frame.Local.{Local}
use Rattle.ckc_blame_sound.specs.ckc_bounds_points.specs.Codes.{not_contained}
use Rattle.ckc_blame_sound.specs.ckc_bounds_views.specs.Parts.{fresh_behind}
use Rattle.ckc_blame_sound.specs.ckc_bounds_views.specs.Views.{view}
use Rattle.ckc_blame_sound.specs.ckc_bounds_statements.specs.Paths.{Here, expr_judged, value_judged, values_judged, init_judged, bounds_judged, decl_judged, starts_within, declared_here, local_judged, act_judged, path, stated}
use Rattle.ckc_source.specs.declared.outcome.Halt.{Halt}
use Rattle.ckc_source.specs.declared.outcome.Halt.TheVariants as halt
use Rattle.ckc_source.specs.declared.outcome.Place.TheVariants as place
use Rattle.ckc_source.specs.declared.program.Shape.{Shape}
use Rattle.ckc_source.specs.declared.stmt.Spot.{Spot}
use Rattle.ckc_source.specs.declared.expr.Count.{Count}
use Rattle.ckc_source.specs.declared.expr.Count.TheVariants as count
use Rattle.ckc_source.specs.Code.{Target, Variable, Right, Value, Number, Code, End, Assign}
use Rattle.ckc_source.specs.Eval.{given}
use Rattle.ckc_source.specs.Runs.{is_true}
use Rattle.ckc_source.specs.States.{Work, Rest, State, settled}
use Rattle.ckc_source.specs.Steps.{store_of, Drawn, drawn, Planned, all_written, bundled, comes_to, source_step, spot_in, spot_at, spot_of}
use Rattle.ckc_build_values.specs.Kinds.{width_of}
use Rattle.ckc_build_elaborate.specs.Elaborated.{elaborated}
use Rattle.ckc_build_elaborate.specs.Literals.{literals_of_bounds}
use Rattle.ckc_build_elaborate.specs.Shapes.{shapes_elaborated}
use Rattle.ckc_build_elaborate.specs.Statements.{act_code}
use Rattle.ckc_build_elaborate.specs.Steps.{Destination, spot, destination_for, local_target, started, declared, right_of, is_terminated}
use Rattle.ckc_blame_sound.specs.Bodies.{globals_of_text}
use Rattle.ckc_blame_sound.specs.Calls.{store_in}
use Rattle.ckc_blame_sound.specs.Points.{HoldsAt}
use Rattle.ckc_blame_sound.specs.Settings.{Setting, AreStrings, IsFunction}
use Rattle.ckc_blame_sound.specs.Slots.{Slot, AreFilled}
use Rattle.ckc_blame_sound.specs.Sound.{Sound}
use Rattle.ckc_blame_sound.specs.Valuations.{Valuation, IsValuationOf, AreFacts}
use Rattle.ckc_blame_sound.proofs.Kept.{point_kept}
use Rattle.ckc_blame_sound.specs.Cells.{AreSound}
use Rattle.ckc_blame_sound.specs.Limited.{AreSlotParts, store_with, IsCountSpared, IsSpared}
use Rattle.ckc_blame_sound.specs.Writes.{AreCellWrites, AreElsewhere}
use Rattle.ckc_blame_sound.proofs.Filled.{filled_after}
use Rattle.ckc_blame_sound.proofs.Written.{all_keep}
use Rattle.ckc_blame_sound.specs.Typed.{IsTyped, IsTypedInit, IsTypedAct}
use Rattle.ckc_blame_sound.proofs.Statements.{made_of, pair_same, passes, out_local}
use Rattle.ckc_blame_sound.proofs.Stepping.{ActLayer as Layer, viewed, judged_is, parted, code_is, first_step}
use Rattle.ckc_blame_sound.specs.JudgedTexts.{globals_in}
use Rattle.ckc_blame_sound.proofs.Frames.{frames_agree}
use Rattle.ckc_blame_sound.proofs.Agree.{facts_agree}
use Rattle.ckc_blame_walk.specs.ckc_blame_declared.proofs.HaveEnds.{locals_have_ends}
use Rattle.ckc_blame_control.specs.Kept.{KeepRanges, IsSameCall}
use Rattle.ckc_blame_control.specs.Ready.{Faces}
use Rattle.ckc_blame_control.proofs.Kept.{faced_sound, blocks_keep_ranges}
use Rattle.ckc_blame_given.specs.ckc_blame_pointers.specs.Owed.{Comes}
use Rattle.ckc_blame_given.proofs.Comes.{comes_as}
use Rattle.ckc_blame_given.specs.Written.{IsStart, IsDeclared}
use Rattle.ckc_blame_given.proofs.Declared.{declared_after}
use Rattle.ckc_blame_steps.specs.Granted.{IsGranted, IsCoveredInit, IsCoveredAct, HasRoom, HasRoomInit, HasRoomAct}
use Rattle.ckc_blame_steps.specs.Plans.{IsAt, HasMore, IsDrawnOn, IsDrawn, AllocateSoundly}
use Rattle.ckc_blame_steps.specs.Unchecked.{StoresSafely, MovesSoundly}
use Rattle.ckc_blame_steps.proofs.Becomes.{IsPlain, plain}
use Rattle.ckc_blame_steps.proofs.Comes.{stops_soundly, safe_as, same_state}
use Rattle.ckc_blame_steps.proofs.Own.{own_valuation, own_values}
use Rattle.ckc_blame_steps.proofs.Plans.{right_drawn}
use Rattle.ckc_blame_steps.proofs.Strings.{init_strings}
use Rattle.ckc_blame_steps.proofs.Stores.{text_is, planning, is_at}
use Rattle.ckc_blame_steps.proofs.Steps.{covered_there, typed_act, row_of, known, free}
use Rattle.ckc_blame_steps.proofs.SoundMoves.{moves_by}

-- ---- memory

spared : (a : ℕ) (slot : Slot) → IsSpared [] a slot
unfolding AreElsewhere
spared a slot = record { pointer = tt; counted = by slot.count }
  where
    by : (c : Count) → IsCountSpared [] a c
    by (count.Fixed n) = tt
    by (count.Member offset form add) = tt

-- the locals count for nothing
filled_any : (p : Typed) (shapes : List Shape) (s : State) (old new : List ℕ) → AreSlotParts p → AreSound p s.blocks s.next → AreFilled p (store_with shapes s.blocks old) → AreFilled p (store_with shapes s.blocks new)
unfolding AreCellWrites
filled_any p shapes s old new parts sound filled =
    filled_after p parts shapes old new s.next [] s s sound (all_keep p s.next [] s s sound tt refl) filled (λ number i b slot there below c. inl (spared (b.base + i * b.size) slot))

-- ---- what a declaration is judged to

module _ (s : Setting) (here : Here) (counting : here.counting ≡ false) where
  pub value_made : (e a : NotedExpr) (there : Here) → value_judged s.frame e here ≡ Ok (a, there) → (view s.frame e).judged here.next here.at ≡ Ok a
  unfolding value_judged
  value_made e a there h =
      let m = made_of (expr_judged s.frame e here) (λ g. Ok (g, record here { next = fresh_behind (view s.frame e) here.next here.at })) (a, there) h in
      let p = pair_same m.0 a (record here { next = fresh_behind (view s.frame e) here.next here.at }) there m.2 in
      sym (ap (λ b. if b then Ok e else (view s.frame e).judged here.next here.at) counting) ∙ m.1 ∙ ap (λ (x : NotedExpr). Ok x) p.0

  -- an initialiser is judged
  abbrev pub InitJudged : NotedInit → NotedInit → Type 0
  InitJudged init.Nothing i = i ≡ init.Nothing
  InitJudged (init.One e) i = (g : NotedExpr) × (i ≡ init.One g) × ((view s.frame e).judged here.next here.at ≡ Ok g)
  InitJudged (init.Many es) i = (gs : List NotedExpr) × (i ≡ init.Many gs)

  init_made : (i first : NotedInit) (there : Here) → init_judged s.frame i here ≡ Ok (first, there) → InitJudged i first
  init_made init.Nothing first there h = sym (pair_same {A = NotedInit} init.Nothing first here there h).0
  init_made (init.One e) first there h =
      let m = made_of (value_judged s.frame e here) (λ p. Ok (init.One p.0, p.1)) (first, there) h in
      let p = pair_same {A = NotedInit} (init.One m.0.0) first m.0.1 there m.2 in
      (m.0.0, sym p.0, value_made e m.0.0 m.0.1 m.1)
  init_made (init.Many es) first there h =
      let m = made_of (values_judged s.frame es here) (λ p. Ok (init.Many p.0, p.1)) (first, there) h in
      (m.0.0, sym (pair_same {A = NotedInit} (init.Many m.0.0) first m.0.1 there m.2).0)

  pub record IsDeclMade (d e : NotedDecl) : Type 0 where
    pub name_is : e.name ≡ d.name
    pub type_is : e.ctype ≡ d.ctype
    pub length_is : e.length ≡ d.length
    pub begins : InitJudged d.init e.init

  decl_made : (d e : NotedDecl) (there : Here) → decl_judged s.frame d here ≡ Ok (e, there) → IsDeclMade d e
  decl_made d e there h =
      let n = made_of (bounds_judged s.frame d here) (λ b. bind (init_judged s.frame d.init here) (λ p.
      unless (not (starts_within s.frame d.name p.0 here.next p.1)) not_contained d.pos (Ok (record d { init = p.0 }, declared_here s.frame d p.0 p.1)))) (e, there) h in
      let i = made_of (init_judged s.frame d.init here) (λ p.
      unless (not (starts_within s.frame d.name p.0 here.next p.1)) not_contained d.pos (Ok (record d { init = p.0 }, declared_here s.frame d p.0 p.1))) (e, there) n.2 in
      let j = passes (not (starts_within s.frame d.name i.0.0 here.next i.0.1)) not_contained d.pos (Ok (record d { init = i.0.0 }, declared_here s.frame d i.0.0 i.0.1)) (e, there) i.2 in
      let made = pair_same {A = NotedDecl} (record d { init = i.0.0 }) e (declared_here s.frame d i.0.0 i.0.1) there j in
      record {
        name_is = ap (λ (x : NotedDecl). x.name) (sym made.0);
        type_is = ap (λ (x : NotedDecl). x.ctype) (sym made.0);
        length_is = ap (λ (x : NotedDecl). x.length) (sym made.0);
        begins = subst (InitJudged d.init) (ap (λ (x : NotedDecl). x.init) made.0) (init_made d.init i.0.0 i.0.1 i.1);
      }

  -- the statement of a declaration
  pub record IsLocalMade (before after : NotedStmt) (d : NotedDecl) (there : Here) : Type 0 where
    pub made : NotedDecl
    pub becomes : out-Act Name Note after.body ≡ Act-F.Local made
    pub judged : decl_judged s.frame d here ≡ Ok (made, there)
    pub parts : IsDeclMade d made

  pub local_made : (before after : NotedStmt) (d : NotedDecl) (there : Here) → out-Act Name Note before.body ≡ Act-F.Local d → (path before).judged s.frame s.head here ≡ Ok (after, there)
      → IsLocalMade before after d there
  local_made before after d there is h =
      let judged : local_judged s.frame before.pos before.note d here ≡ Ok (after, there) =
      ap (λ (x : Layer). act_judged (viewed x) s.frame s.head before.pos before.note here) (sym is) ∙ sym (judged_is before s.frame s.head here) ∙ h in
      let m = made_of (decl_judged s.frame d here) (λ p. Ok (stated before.pos before.note (act.Local p.0), p.1)) (after, there) judged in
      let last = pair_same (stated before.pos before.note (act.Local m.0.0)) after m.0.1 there m.2 in
      let goes : decl_judged s.frame d here ≡ Ok (m.0.0, there) = m.1 ∙ ap (λ (x : Here). Ok (m.0.0, x)) last.1 in
      record {
        made = m.0.0;
        becomes = ap (λ (x : NotedStmt). out-Act Name Note x.body) (sym last.0) ∙ out_local (globals_of_text s.text) s m.0.0;
        judged = goes;
        parts = decl_made d m.0.0 there goes;
      }

-- ---- a step that declares a local

module _ (p : Typed) (g : IsGranted p) (st : State) (h : Sound p st) (step : Code → Code) (next : List Work) (f : Faces h.setting (store_in p st.blocks st.frame) st.frame.entry step next)
    (d : NotedDecl) (is : out-Act Name Note f.judged.before.body ≡ Act-F.Local d) where
  abbrev pub s : Setting
  s = h.setting

  abbrev pub function : IsFunction p s st.frame.function
  function = h.stands.function

  abbrev pub shapes : List Shape
  shapes = shapes_elaborated p.layout

  abbrev pub b : State
  b = planning p g st h step next f

  pub is_made : IsLocalMade s f.here f.judged.counting f.judged.before f.judged.after d f.judged.behind
  is_made = local_made s f.here f.judged.counting f.judged.before f.judged.after d f.judged.behind is f.judged.judged

  abbrev pub e : NotedDecl
  e = is_made.made

  pub there : (k : ℕ) × (l : Local) × IsDeclared s f.here d k l
  there = g.declared s st.frame.function f.here f.exits.ends step d function f.judged is

  abbrev pub k : ℕ
  k = there.0

  abbrev pub l : Local
  l = there.1

  pub declared_there : IsDeclared s f.here d k l
  declared_there = there.2

  type_is : type_written e.ctype ≡ l.ctype
  type_is = ap type_written is_made.parts.type_is ∙ sym declared_there.same

  abbrev pub to : Destination
  to = destination_for s.text (type_written e.ctype) e.name

  pub target_named : to.target ≡ Variable k (width_of l.ctype)
  target_named =
      ap (local_target (type_written e.ctype)) (is_made.parts.name_is ∙ declared_there.name_is) ∙ ap (λ t. Variable k (width_of t)) type_is

  abbrev pub spot_there : Spot
  spot_there = spot f.judged.after.pos f.judged.after.note.mode

  abbrev pub literals : ℕ
  literals = f.judged.literals + literals_of_bounds e.bounds

  pub code_there : started s.text s.variables spot_there to literals e.init End ≡ step End
  code_there =
      first_step (declared s.text s.variables spot_there f.judged.literals e) step
      (ap (λ (x : Layer). act_code (parted x) f.judged.after.pos f.judged.after.note.mode s.text s.variables s.result f.judged.literals) (sym is_made.becomes)
      ∙ sym (code_is s f.judged.literals f.judged.after) ∙ f.judged.becomes)

  -- the word that the local begins with
  pub record Starts (w : Drawn) : Type 0 where
    pub grown : HasMore b w.state
    pub at : IsAt s shapes st.frame.entry f.here w.state
    pub valuation : Valuation
    pub values : IsValuationOf s w.state.frame.locals valuation
    pub start : IsStart s (store_of shapes w.state) valuation f.here.at l.ctype e.init f.here.next w.number

  -- the string literals of the initialiser
  pub strings_from : (y : NotedExpr) → e.init ≡ init.One y → AreStrings s literals (strings_of_expr y)
  strings_from y one =
      let row : WellTypedLocal (globals_of_text s.text) s.variables f.judged.inside.mode d =
      subst (λ (x : Layer). act_rows (globals_of_text s.text) s.variables s.result (WellTypedStmt (globals_of_text s.text) s.variables s.result) x f.judged.inside.mode f.judged.inside.looped) is
      (row_of p g st h step next f f.judged.before f.judged.inside.mode f.judged.inside.looped f.judged.inside.typed) in
      init_strings s f.judged.literals f.judged.after f.judged.strings e y is_made.becomes (ap is_plain is_made.parts.length_is ∙ row.plain) one

  pub room : HasRoomInit s.frame f.here.at f.here.next e.init
  room = subst (HasRoomAct s.frame f.here.at f.here.next) is_made.becomes (g.room s st.frame.function f.here f.exits.ends step function f.judged)

  module _ (w : Drawn) (so : Starts w) where
    abbrev pub put : State
    put = record w.state { frame = record w.state.frame { locals = slice_set w.state.frame.locals k (kept_part (width_of l.ctype) w.number) } }

    text : s.text ≡ p
    text = text_is p s st.frame.function function

    known_facts : AreFacts so.valuation f.here.at.facts
    known_facts = facts_agree s w.state.frame.locals so.valuation so.values f.here.at.facts.list f.judged.named so.at.holds.facts

    point : HoldsAt s (store_of shapes put) st.frame.entry f.judged.behind
    point =
        declared_after s (store_of shapes w.state) (store_of shapes w.state) (store_of shapes put) so.valuation st.frame.entry f.here f.judged.behind d e k w.number l
        (locals_have_ends p s st.frame.function g.judged function) so.at.holds so.values known_facts so.at.ready.sound.memory.placed f.judged.counting is_made.judged declared_there so.start refl
        (λ to n low high x. x) (λ to n low high x. x)

    same_call : IsSameCall st put
    same_call = record {
      function = ap (λ (x : State). x.frame.function) so.grown.same;
      entry = ap (λ (x : State). x.frame.entry) so.grown.same;
      callers = ap (λ (x : State). x.callers) so.grown.same;
    }

    keeps : KeepRanges shapes st.blocks put.blocks
    keeps to n low high x = subst (λ bs. is_true shapes bs to n low high ≡ true) (sym so.grown.blocks) (blocks_keep_ranges shapes st.blocks so.grown.more to n low high x)

    pub put_sound : Sound p put
    put_sound =
        faced_sound p st put h same_call keeps (subst (λ q. AreSound q put.blocks put.next) text so.at.ready.sound)
        (subst (λ q. AreFilled q (store_of shapes put)) text
        (filled_any s.text shapes w.state w.state.frame.locals put.frame.locals (subst AreSlotParts (sym text) g.parts) so.at.ready.sound so.at.filled))
        (subst AreBytes (sym (ap (λ (x : State). x.input) so.grown.same)) h.input) step next f (ap (λ (x : State). x.frame.work) so.grown.same)
        (subst (λ x. HoldsAt s (store_of shapes put) x f.exits.ends) (sym same_call.entry) (point_kept s (store_of shapes put) st.frame.entry f.judged.behind f.exits.ends f.judged.goes point))

  module _ (allocations : AllocateSoundly p) (m : Mode) (sp : Spot) (target : Target) (right : Right) (same : step End ≡ Assign sp target right End) (mode : sp.mode ≡ m)
      (safe : StoresSafely m (step End)) where
    code_is_so : started s.text s.variables spot_there to literals e.init End ≡ Assign sp target right End
    code_is_so = code_there ∙ same

    is_covered : (c : State) → IsAt s shapes st.frame.entry f.here c → IsCoveredInit m s (store_of shapes c) f.here.seen l.ctype e.init
    is_covered c at_c =
        subst (λ t. IsCoveredInit m s (store_of shapes c) f.here.seen t e.init) type_is
        (subst (IsCoveredAct m s (store_of shapes c) f.here.seen) is_made.becomes
        (covered_there p g st h step next f m sp (ap (λ (x : Code). (spot_in sp x).mode) same ∙ mode) safe c at_c))

    abbrev Claim : Target → Right → Type 0
    Claim x r = (x ≡ to.target) × Comes m Starts (drawn shapes b r)

    none_starts : e.init ≡ init.Nothing → Claim target right
    none_starts none =
        let code : Assign spot_there to.target (Value (Number 0)) End ≡ Assign sp target right End =
        ap (λ (i : NotedInit). started s.text s.variables spot_there to literals i End) (sym none) ∙ code_is_so in
        let r : Value (Number 0) ≡ right = cc in
        (cc, subst (λ x. Comes m Starts (drawn shapes b x)) r zero)
      where
        zero : Comes m Starts (drawn shapes b (Value (Number 0)))
        zero = record {
          grown = same_state b;
          at = is_at p g st h step next f;
          valuation = own_valuation s b.frame.locals;
          values = own_values s b.frame.locals;
          start = subst (λ (i : NotedInit). IsStart s (store_of shapes b) (own_valuation s b.frame.locals) f.here.at l.ctype i f.here.next 0) (sym none) refl;
        }

    module _ (x y : NotedExpr) (one : e.init ≡ init.One y) (judged : (view s.frame x).judged f.here.next f.here.at ≡ Ok y) (typed : IsTyped (globals_in p) s x) (goes : converts l.ctype x ≡ true) where
      plain_there : IsPlain s sp spot_there to literals y target right
      plain_there =
          plain s sp spot_there to literals y target right m (store_of shapes b) f.here.seen l.ctype
          (ap (λ (i : NotedInit). started s.text s.variables spot_there to literals i End) (sym one) ∙ code_is_so)
          (subst (IsCoveredInit m s (store_of shapes b) f.here.seen l.ctype) one (is_covered b (is_at p g st h step next f)))

      room_there : HasRoom s.frame f.here.at 0 f.here.next y
      room_there = subst (HasRoomInit s.frame f.here.at f.here.next) one room

      of_drawn : (w : Drawn) → IsDrawn s shapes st.frame.entry f.here b l.ctype y w → Starts w
      of_drawn w dr =
          let on : IsDrawnOn s shapes f.here l.ctype y (record { value = 0; fresh = f.here.next }) (own_valuation s w.state.frame.locals) w =
          dr.gives (record { value = 0; fresh = f.here.next }) (own_valuation s w.state.frame.locals) room_there (known p g st h step next f).fresh (own_values s w.state.frame.locals) in
          record {
            grown = dr.grown;
            at = dr.at;
            valuation = on.after;
            values = on.values;
            start = subst (λ (i : NotedInit). IsStart s (store_of shapes w.state) on.after f.here.at l.ctype i f.here.next w.number) (sym one)
                (on.received on.after on.values (record { address = λ n h. refl; number = λ n h. refl }));
          }

      right_there : right ≡ right_of s.text s.variables literals (is_terminated l.ctype) y
      right_there = plain_there.right_is ∙ ap (λ t. right_of s.text s.variables literals (is_terminated t) y) type_is

      one_starts : Claim target right
      one_starts = (
        plain_there.target_is,
        subst (λ r. Comes m Starts (drawn shapes b r)) (sym right_there)
            (comes_as m (IsDrawn s shapes st.frame.entry f.here b l.ctype y) Starts (drawn shapes b (right_of s.text s.variables literals (is_terminated l.ctype) y))
            (right_drawn m (globals_in p) s (frames_agree p s st.frame.function g.judged function) (g.declares s st.frame.function function) (free p g st h step next f) shapes st.frame.entry f.here
            (allocations m s st.frame.function f.here f.exits.ends step st.frame.entry function f.judged) b (is_at p g st h step next f) l.ctype x y f.here.next literals typed goes judged room_there.variables
            (known p g st h step next f).fresh
            (plain_there.covered m (store_of shapes b) f.here.seen l.ctype (subst (IsCoveredInit m s (store_of shapes b) f.here.seen l.ctype) one (is_covered b (is_at p g st h step next f))))
            (strings_from y one)) (λ w there. of_drawn w)),
      )

    starts : Claim target right
    starts =
        by d.init refl is_made.parts.begins
        (subst (IsTypedAct (globals_in p) s) is (typed_act p g st h step next f)).0
        (subst (λ (x : Layer). act_rows (globals_of_text s.text) s.variables s.result (WellTypedStmt (globals_of_text s.text) s.variables s.result) x f.judged.inside.mode f.judged.inside.looped) is
        (row_of p g st h step next f f.judged.before f.judged.inside.mode f.judged.inside.looped f.judged.inside.typed)).starts
      where
        by : (i : NotedInit) → d.init ≡ i → InitJudged s f.here f.judged.counting i e.init → IsTypedInit (globals_in p) s i → StartsLocal (type_written d.ctype) i → Claim target right
        by init.Nothing same j typed goes = none_starts j
        by (init.One x) same j typed goes = one_starts x j.0 j.1 j.2 typed (subst (λ t. converts t x ≡ true) (sym declared_there.same) goes)
        by (init.Many xs) same j typed goes = absurd goes

    pub declared_sound : MovesSoundly m p (comes_to [] (bundled shapes b ((target, right) ∷ [])))
    declared_sound =
        subst (λ x. MovesSoundly m p (comes_to [] (bundled shapes b ((x, right) ∷ [])))) (sym (starts.0 ∙ target_named)) (by (drawn shapes b right) starts.1)
      where
        by : (r : Result Drawn Halt) → Comes m Starts r
            → MovesSoundly m p (comes_to [] (given (given r (λ (w : Drawn). Ok (record { writes = (place.Local k (width_of l.ctype), w.number) ∷ []; state = w.state }))) (λ (plan : Planned). all_written plan.writes plan.state)))
        by (Ok w) c = put_sound w c
        by (Err (halt.Stopped why at)) c = stops_soundly m why at
        by (Err halt.Stuck) c = λ e. c

-- a declaration of the text
pub declaration_sound : (p : Typed) (m : Mode) (st : State) (h : Sound p st) (sp : Spot) (target : Target) (right : Right) (rest : Code) (next : List Work) → IsGranted p → AllocateSoundly p
    → settled st.frame.work ≡ Rest (Assign sp target right rest) ∷ next → (spot_of st).mode ≡ m → StoresSafely m (Assign sp target right rest)
    → (f : Faces h.setting (store_in p st.blocks st.frame) st.frame.entry (Assign sp target right) (Rest rest ∷ next)) → (d : NotedDecl) → out-Act Name Note f.judged.before.body ≡ Act-F.Local d
    → MovesSoundly m p (source_step (elaborated p) st)
declaration_sound p m st h sp target right rest next g allocations is mode safe f d layer =
    moves_by m p st (Rest (Assign sp target right rest) ∷ next) is
    (declared_sound p g st h (Assign sp target right) (Rest rest ∷ next) f d layer allocations m sp target right refl (subst (λ w. (spot_at st.frame.function.end w).mode ≡ m) is mode)
    (safe_as m (Assign sp target right rest) (Assign sp target right End) refl safe))
