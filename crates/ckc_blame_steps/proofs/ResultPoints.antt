-- The point after a call holds once its result is kept.
use Rattle.std.proofs.Common.{◌≡◌, inl, ⊎_elim, refl, sym, ap, subst, ◌∙◌, ℕ, ◌+◌, List, [], ◌∷◌, ◌++◌, arith}
use Rattle.std.specs.Prelude.{◌≤◌, ◌^◌, ◌-◌, ◌||◌, is_some, not, true, false, slice_set, Option, None, Some, Ok}
use Rattle.std.specs.List.{All, Contains}
use Rattle.std.proofs.lemmas.List.Elements.{All-head}
use Rattle.ckc_base.specs.declared.arithmetic.Mode.{Mode}
use Rattle.ckc_base.specs.Memory.{kept_part}
use Rattle.ckc_base.specs.Outcomes.{bind, unless}
use Rattle.ckc_syntax.specs.declared.tree.Name.{Name}
use Rattle.ckc_syntax.specs.declared.tree.Name.TheVariants as name
use Rattle.ckc_syntax.specs.declared.tree.Init.TheVariants as init
use Rattle.ckc_syntax.specs.declared.tree.Node.{Node-F, out-Node}
use Rattle.ckc_syntax.specs.declared.tree.Expr.{every_here-Expr}
use Rattle.ckc_syntax.specs.declared.tree.Act.{Act-F, out-Act}
use Rattle.ckc_syntax.specs.declared.tree.Act.TheVariants as act
use Rattle.ckc_types.specs.declared.types.CType.{CType}
use Rattle.ckc_typed.specs.declared.typed.Note.{Note}
use Rattle.ckc_typed.specs.declared.typed.Typed.{Typed}
use Rattle.ckc_typed.specs.Environment.{object_named, type_of_name, variable_declared, variable_named}
use Rattle.ckc_typed.specs.Expressions.{is_no_array, is_object_form, is_placed, is_placed_form}
use Rattle.ckc_typed.specs.Statements.{is_named, is_variable_form}
use Rattle.ckc_typed.specs.Trees.{NotedDecl, NotedExpr, NotedInit, NotedLayer, NotedStmt}
use Rattle.ckc_typed.specs.Types.{is_char, is_pointer, is_scalar, type_written}
use Rattle.ckc_typed_welltyped.specs.Declarations.{StartsLocal}
use Rattle.ckc_typed_welltyped.specs.Expressions.{AnyLimits, AnyNode, HasType, IsNoted, WellTypedExpr}
use Rattle.ckc_typed_welltyped.specs.Statements as rows
use Rattle.ckc_typed_welltyped.specs.Statements.{act_rows, WellTypedStmt}
use Rattle.ckc_blame_sound.specs.ckc_bounds_points.specs.Codes.{not_contained}
use Rattle.ckc_blame_sound.specs.ckc_bounds_views.specs.Parts.{fresh_behind}
use Rattle.ckc_blame_sound.specs.ckc_bounds_views.specs.Views.{view}
use Rattle.ckc_blame_sound.specs.ckc_bounds_stores.specs.Stores.{Placed, numbered, stores_of, stored_placed, with_store}
use Rattle.ckc_blame_sound.specs.ckc_bounds_stores.specs.Targets.{local_in, local_of}
use Rattle.ckc_blame_sound.specs.ckc_bounds_statements.specs.Paths.{Here, value_judged, init_judged, bounds_judged, starts_within, declared_here, decl_judged, stated, act_judged}
use Rattle.ckc_source.specs.declared.stmt.Kept.{Kept}
use Rattle.ckc_source.specs.declared.stmt.Kept.TheVariants as kept
use Rattle.ckc_source.specs.declared.stmt.Spot.{Spot}
use Rattle.ckc_source.specs.Blocks.{Block}
use Rattle.ckc_source.specs.Code.{Code, Call, End, Expr}
use Rattle.ckc_source.specs.States as states
use Rattle.ckc_build_elaborate.specs.Literals.{literals_of_bounds}
use Rattle.ckc_build_elaborate.specs.Statements.{act_code}
use Rattle.ckc_build_elaborate.specs.Steps.{spot, nowhere, destination_of, destination_for, assigned, declared, kept_form, name_kept}
use Rattle.ckc_build_values.specs.Expressions.{literals_of}
use Rattle.ckc_build_values.specs.Kinds.{width_of}
use Rattle.ckc_blame_sound.specs.Bodies.{globals_of_text}
use Rattle.ckc_blame_sound.specs.Calls.{store_in}
use Rattle.ckc_blame_sound.specs.Points.{HoldsAt}
use Rattle.ckc_blame_sound.specs.Settings.{Setting, IsFunction, setting_of}
use Rattle.ckc_blame_sound.specs.Slots.{AreFilled}
use Rattle.ckc_blame_sound.specs.Sound.{IsPlaced}
use Rattle.ckc_blame_sound.specs.Steps.{IsStep}
use Rattle.ckc_blame_sound.specs.Valuations.{AreFacts}
use Rattle.ckc_blame_sound.proofs.Kept.{point_kept}
use Rattle.ckc_blame_sound.specs.Cells.{AreSound}
use Rattle.ckc_blame_sound.proofs.Statements.{made_of, pair_same, passes}
use Rattle.ckc_blame_sound.proofs.Stepping.{ActLayer, viewed, judged_is, parted, code_is, out_call, first_step}
use Rattle.ckc_blame_sound.specs.JudgedTexts.{IsJudged, globals_in}
use Rattle.ckc_blame_sound.proofs.Frames.{frames_agree, locals_are_there}
use Rattle.ckc_blame_sound.proofs.SameViews.{same_view}
use Rattle.ckc_blame_walk.specs.ckc_blame_declared.proofs.HaveEnds.{locals_have_ends}
use Rattle.ckc_blame_steps.specs.Statics.{IsStatic}
use Rattle.ckc_blame_steps.proofs.Told.{local_named, none_named, statics_told}
use Rattle.ckc_blame_sound.specs.Ends.{HaveEnds}
use Rattle.ckc_blame_sound.proofs.Agree.{facts_agree}
use Rattle.ckc_blame_control.proofs.Typed.{by_parts}
use Rattle.ckc_blame_given.specs.Stored.{IsAssignJudged, AreAssignsJudged, AreStored}
use Rattle.ckc_blame_given.specs.Written.{IsFitting, IsReceived, IsStart}
use Rattle.ckc_blame_given.proofs.Fitting.{name_layer, same_local, same_name, same_type, char_bare, step_fits, declared_fits}
use Rattle.ckc_blame_given.proofs.Declared.{declared_after}
use Rattle.ckc_blame_given.proofs.Points.{same_point}
use Rattle.ckc_blame_given.proofs.Stored.{assignment_stored}
use Rattle.ckc_blame_walk.proofs.Layers.{declared_are}
use Rattle.ckc_blame_walk.proofs.Seen.{declared_unnamed}
use Rattle.ckc_blame_steps.specs.Callees.{HaveFewVariables}
use Rattle.ckc_blame_steps.specs.Results.{IsKeptInMemory, IsResultGiven, IsResultOf, ObjectsKeepResults, ResultsLeadOn, kept_in, type_of, type_of_act, value_of_act, value_of_init}
use Rattle.ckc_blame_steps.proofs.Calls.{value_is_judged}
use Rattle.ckc_blame_steps.proofs.Stepping.{assigned_called, out_local}
use Rattle.ckc_blame_steps.specs.Spared.{SpareResults}
use Rattle.ckc_blame_steps.proofs.Given.{name_needs_none, result_received}
use Rattle.ckc_blame_steps.proofs.Kept.{IsLocalThere, elsewhere, goes_local}
use Rattle.ckc_blame_steps.proofs.Objects.{single, kept_there}

no_more : {X : Type 0} (xs : List X) → xs ++ [] ≡ xs
no_more [] = refl
no_more (x ∷ xs) = ap (λ ys. x ∷ ys) (no_more xs)

module _ (p : Typed) (j : IsJudged p) (few : HaveFewVariables p) (blocks : List Block) (frame : states.Frame) (s : Setting) (here there : Here) (sp : Spot) (target : Option Kept) (number : ℕ)
    (es : List Expr) (n next : ℕ) (is : IsFunction p s frame.function) (sound : AreSound p blocks next) (r : IsResultOf p blocks frame s here there sp target number es n) where
  abbrev step : IsStep s here (Call sp target number es) there
  step = r.step

  -- a result that goes to a static object is kept there
  abbrev IsObjectKept : Option Kept → Type 0
  IsObjectKept (Some (kept.Static a width)) = IsKeptInMemory p blocks frame next a n width
  IsObjectKept _ = Unit {0}

  abbrev IsFilled : Type 0
  IsFilled = AreFilled p (store_in p blocks frame)

  abbrev Holds : Here → Type 0
  Holds at = HoldsAt s (store_in p blocks (kept_in target n frame)) frame.entry at

  text_is : s.text ≡ p
  unfolding setting_of
  text_is = ap (λ (t : Setting). t.text) is.judged

  -- what is shown of each kind of statement
  abbrev IsDone : Type 0
  IsDone = (IsFilled → IsObjectKept target) × (SpareResults p → Holds step.behind)

  placed : All (IsPlaced s.text) blocks
  placed = subst (λ t. All (IsPlaced t) blocks) (sym text_is) sound.memory.placed

  ends : HaveEnds s
  ends = locals_have_ends p s frame.function j is

  known : AreFacts r.valuation here.at.facts
  known = facts_agree s frame.locals r.valuation r.given.values here.at.facts.list step.named r.holds.facts

  word : here.next ≤ 2 ^ 32 - 1
  word = let m = few s frame.function is in let x = step.fresh (omega arith) in let l = x.1 in omega (arith, l)

  -- ---- what becomes of the statement

  becomes_as : (x : ActLayer) → out-Act Name Note step.after.body ≡ x → (f : Code → Code)
      → act_code (parted x) step.after.pos step.after.note.mode s.text s.variables s.result step.literals ≡ f ∷ [] → f End ≡ Call sp target number es End
  becomes_as x out f code =
      first_step f (Call sp target number es)
      (sym code ∙ ap (λ (y : ActLayer). act_code (parted y) step.after.pos step.after.note.mode s.text s.variables s.result step.literals) (sym out) ∙ sym (code_is s step.literals step.after) ∙ step.becomes)

  judged_as : (d : ActLayer) → out-Act Name Note step.before.body ≡ d → act_judged (viewed d) s.frame s.head step.before.pos step.before.note here ≡ Ok (step.after, step.behind)
  judged_as d out =
      ap (λ (x : ActLayer). act_judged (viewed x) s.frame s.head step.before.pos step.before.note here) (sym out) ∙ sym (judged_is step.before s.frame s.head here) ∙ step.judged

  row_as : (x : ActLayer) → out-Act Name Note step.before.body ≡ x
      → act_rows (globals_of_text s.text) s.variables s.result (WellTypedStmt (globals_of_text s.text) s.variables s.result) x step.inside.mode step.inside.looped
  row_as x out =
      subst (λ (y : ActLayer). act_rows (globals_of_text s.text) s.variables s.result (WellTypedStmt (globals_of_text s.text) s.variables s.result) y step.inside.mode step.inside.looped) out
      (by_parts s step.before step.inside).row

  abbrev at : Spot
  at = spot step.after.pos step.after.note.mode

  same_call : (x : NotedExpr) → ◌≡◌ {A = Option NotedExpr} (Some x) (Some r.call) → x ≡ r.call
  same_call x e = cc

  -- what the call gives, to what it is judged as
  given_to : (t : CType) → type_of step.before ≡ t → IsResultGiven s (store_in p blocks frame) r.valuation here t r.call n
  given_to t e = subst (λ u. IsResultGiven s (store_in p blocks frame) r.valuation here u r.call n) e r.given

  -- ---- a call alone

  as_call : (x : NotedExpr) → out-Act Name Note step.before.body ≡ Act-F.Call x → IsDone
  as_call x out =
      let m = made_of (value_judged s.frame x here) (λ p. Ok (stated step.before.pos step.before.note (act.Call p.0), p.1)) (step.after, step.behind) (judged_as (Act-F.Call x) out) in
      let last = pair_same (stated step.before.pos step.before.note (act.Call m.0.0)) step.after m.0.1 step.behind m.2 in
      let made = ap (λ (st : NotedStmt). out-Act Name Note st.body) (sym last.0) ∙ out_call m.0.0 in
      let code = becomes_as (Act-F.Call m.0.0) made (assigned s.text s.variables (spot m.0.0.pos step.after.note.mode) nowhere step.literals m.0.0) refl in
      let called = assigned_called s.text s.variables (spot m.0.0.pos step.after.note.mode) sp nowhere step.literals target number es m.0.0 code in
      let v = value_is_judged s.frame x m.0.0 here m.0.1 step.counting m.1 in (
        λ filled. subst IsObjectKept (sym called.target_is) tt,
        λ spare.
            subst (λ o. HoldsAt s (store_in p blocks (kept_in o n frame)) frame.entry step.behind) (sym called.target_is)
            (same_point s (store_in p blocks frame) frame.entry here step.behind r.holds (ap (λ (h : Here). h.at) (sym last.1 ∙ v.1)) (ap (λ (h : Here). h.seen) (sym last.1 ∙ v.1))),
      )

  -- ---- an assignment

  typed_local : (mode : Mode) (e : NotedExpr) → WellTypedExpr (globals_of_text s.text) s.variables mode e → (k : ℕ) → local_of e ≡ Some k → type_of_name (globals_of_text s.text) s.variables (name.Local k) ≡ Some e.note.ctype
  typed_local mode e w k h = by (out-Node Name Note e.node) (every_here-Expr Name Note AnyLimits AnyNode (IsNoted (globals_of_text s.text) s.variables mode) e w).row h
    where
      by : (x : NotedLayer) → HasType (globals_of_text s.text) s.variables mode x e.note.ctype → local_in x ≡ Some k → type_of_name (globals_of_text s.text) s.variables (name.Local k) ≡ Some e.note.ctype
      by (Node-F.Name (name.Local i)) row h = let same : i ≡ k = cc in subst (λ m. type_of_name (globals_of_text s.text) s.variables (name.Local m) ≡ Some e.note.ctype) same row
      by (Node-F.Name m) row h = absurd (cc)
      by x row h = absurd (cc)

  module _ (q x place value : NotedExpr) (out : out-Act Name Note step.before.body ≡ Act-F.Assign q x) (becomes : out-Act Name Note step.after.body ≡ Act-F.Assign place value)
      (left : (view s.frame q).judged here.next here.at ≡ Ok place) (right : (view s.frame x).judged (fresh_behind (view s.frame q) here.next here.at) here.at ≡ Ok value)
      (fits : All (IsFitting s) (numbered s.frame here.at 0 here.next (stores_of (step.after ∷ [])))) (stored : AreStored s here (step.after ∷ []) step.behind) where
    abbrev goes : Placed
    goes = record { target = place; right = value; pos = step.after.pos; from = record { value = 0; fresh = fresh_behind (view s.frame place) here.next here.at } }

    fits_one : IsFitting s goes
    fits_one = All-head (IsFitting s) goes [] (subst (λ y. All (IsFitting s) (numbered s.frame here.at 0 here.next (with_store y step.after.pos []))) becomes fits)

    leads : stored_placed s.frame s.head.bounds here.seen (goes ∷ []) here.at ≡ Ok step.behind.at
    leads = subst (λ y. stored_placed s.frame s.head.bounds here.seen (numbered s.frame here.at 0 here.next (with_store y step.after.pos [])) here.at ≡ Ok step.behind.at) becomes stored.leads

    call_is : x ≡ r.call
    call_is = same_call x (sym (ap value_of_act out) ∙ r.is)

    same : view s.frame r.call ≡ view s.frame value
    same = ap (view s.frame) (sym call_is) ∙ sym (same_view s.frame x value (fresh_behind (view s.frame q) here.next here.at) here.at right s.frame)

    place_type : type_of step.before ≡ place.note.ctype
    place_type = ap type_of_act out ∙ sym (same_type s.frame q place here.next here.at left)

    received : (m : Name) → out-Node Name Note place.node ≡ Node-F.Name m → IsReceived s (store_in p blocks frame) r.valuation here.at place.note.ctype value goes.from n
    received m is_name =
        subst (λ y. IsReceived s (store_in p blocks frame) r.valuation here.at place.note.ctype value (record { value = 0; fresh = y }) n) (sym (name_needs_none s.frame place m here.next here.at word is_name))
        (result_received s (store_in p blocks frame) r.valuation here place.note.ctype r.call value n (given_to place.note.ctype place_type) same fits_one.bare)

    there_local : (k : ℕ) → local_of place ≡ Some k → IsLocalThere s goes k
    there_local k h =
        let l = locals_are_there p s frame.function k is (fits_one.below k h) (few s frame.function is) in
        let t = typed_local step.inside.mode q (row_as (Act-F.Assign q x) out).left k (sym (same_local s.frame q place here.next here.at left) ∙ h) in
        let agree = frames_agree p s frame.function j is in
        record {
          local = l.0;
          there = l.1;
          same = same_type s.frame q place here.next here.at left
              ∙ sym (agree.locals k l.0 q.note.ctype l.1 (subst (λ (u : Typed). type_of_name (globals_of_text u) s.variables (name.Local k) ≡ Some q.note.ctype) text_is t));
        }

    is_kept : target ≡ kept_form s.text place.note.ctype (out-Node Name Note place.node)
    is_kept =
        let literals = step.literals + literals_of place in
        let code = becomes_as (Act-F.Assign place value) becomes (assigned s.text s.variables at (destination_of s.text s.variables step.literals place) literals value) refl in
        (assigned_called s.text s.variables at sp (destination_of s.text s.variables step.literals place) literals target number es value code).target_is

    assign_holds : Holds step.behind
    assign_holds = by (out-Node Name Note place.node) refl is_kept
      where
        apart : local_of place ≡ None → HoldsAt s (store_in p blocks frame) frame.entry step.behind
        apart none = elsewhere p blocks frame s here step.behind r.valuation ends r.holds r.given.values known placed goes n leads stored.seen none

        local_is : (k : ℕ) (y : NotedLayer) → out-Node Name Note place.node ≡ y → local_in y ≡ Some k → y ≡ Node-F.Name (name.Local k)
        local_is k (Node-F.Name (name.Local i)) e h = ap (λ m. Node-F.Name (name.Local m)) (cc)
        local_is k (Node-F.Name m) e h = absurd (cc)
        local_is k y e h = absurd (cc)

        by : (y : NotedLayer) → out-Node Name Note place.node ≡ y → target ≡ kept_form s.text place.note.ctype y → Holds step.behind
        by (Node-F.Name (name.Local k)) e t =
            subst (λ o. HoldsAt s (store_in p blocks (kept_in o n frame)) frame.entry step.behind) (sym t)
            (goes_local p blocks frame s here step.behind r.valuation ends r.holds r.given.values known placed goes n leads stored.seen fits_one there_local
            (λ m h. received (name.Local m) (local_is m (out-Node Name Note place.node) refl h)) k (ap local_in e))
        by (Node-F.Name (name.Static k)) e t = subst (λ o. HoldsAt s (store_in p blocks (kept_in o n frame)) frame.entry step.behind) (sym t) (apart (ap local_in e))
        by (Node-F.Name m) e t = subst (λ o. HoldsAt s (store_in p blocks (kept_in o n frame)) frame.entry step.behind) (sym t) (apart (ap local_in e))
        by y e t = subst (λ o. HoldsAt s (store_in p blocks (kept_in o n frame)) frame.entry step.behind) (sym t) (apart (ap local_in e))

    -- what is assigned
    row : rows.IsAssignment (globals_of_text s.text) s.variables step.inside.mode q x
    row = row_as (Act-F.Assign q x) out

    name_back : (m : Name) → out-Node Name Note place.node ≡ Node-F.Name m → out-Node Name Note q.node ≡ Node-F.Name m
    name_back m is_name = by (out-Node Name Note q.node) refl (sym (same_name s.frame q place here.next here.at left) ∙ ap name_layer is_name)
      where
        by : (y : NotedLayer) → out-Node Name Note q.node ≡ y → name_layer y ≡ Some m → out-Node Name Note q.node ≡ Node-F.Name m
        by (Node-F.Name i) e h = e ∙ ap (λ (z : Name). Node-F.Name z) (cc)
        by y e h = absurd (cc)

    scalar : is_scalar place.note.ctype ≡ true
    scalar = ap is_scalar (same_type s.frame q place here.next here.at left) ∙ row.target.0

    globals_is : globals_of_text s.text ≡ globals_in p
    globals_is = ap globals_of_text text_is

    -- the static object that it goes to
    told : (k : ℕ) → out-Node Name Note q.node ≡ Node-F.Name (name.Static k) → IsStatic s place.note.ctype k
    told k is_name =
        let typed : HasType (globals_of_text s.text) s.variables step.inside.mode (Node-F.Name (name.Static k)) q.note.ctype =
        subst (λ (y : NotedLayer). HasType (globals_of_text s.text) s.variables step.inside.mode y q.note.ctype) is_name
        (every_here-Expr Name Note AnyLimits AnyNode (IsNoted (globals_of_text s.text) s.variables step.inside.mode) q row.left).row in
        statics_told p s frame.function place.note.ctype k j is
        (subst (λ g. type_of_name g s.variables (name.Static k) ≡ Some place.note.ctype) globals_is
        (subst (λ u. type_of_name (globals_of_text s.text) s.variables (name.Static k) ≡ Some u) (sym (same_type s.frame q place here.next here.at left)) typed))

    -- which is no array
    alone : (k : ℕ) → out-Node Name Note q.node ≡ Node-F.Name (name.Static k) → is_no_array (object_named (globals_in p) (name.Static k)) ≡ true
    alone k is_name = subst (λ g. is_no_array (object_named g (name.Static k)) ≡ true) globals_is (⊎_elim named (λ h. absurd (no_place h.0)) row.target.1)
      where
        none : is_some (variable_named s.variables (name.Static k)) ≡ false
        none = ap is_some (none_named p j s frame.function k is)

        no_place : is_placed q ≡ true → ⊥
        no_place h = let f : is_placed q ≡ false = ap (λ (y : NotedLayer). is_placed_form y) is_name in absurd cc

        named : is_named (globals_of_text s.text) s.variables q ≡ true → is_no_array (object_named (globals_of_text s.text) (name.Static k)) ≡ true
        named h =
            ap (λ b. b || is_no_array (object_named (globals_of_text s.text) (name.Static k))) (sym none)
            ∙ ap (λ (y : NotedLayer). is_variable_form s.variables y || is_object_form (globals_of_text s.text) y) (sym is_name) ∙ h

    object_kept : IsFilled → IsObjectKept target
    object_kept filled = by (out-Node Name Note place.node) refl is_kept
      where
        by : (y : NotedLayer) → out-Node Name Note place.node ≡ y → target ≡ kept_form s.text place.note.ctype y → IsObjectKept target
        by (Node-F.Name (name.Static k)) e t =
            let w = told k (name_back (name.Static k) e) in
            subst IsObjectKept (sym t)
            (kept_there p j blocks frame s text_is next sound filled r.valuation r.given.values here.at step.behind.at known here.seen s.head.bounds goes n k leads (received (name.Static k) e) e scalar w
            (single p j s text_is place.note.ctype k w (alone k (name_back (name.Static k) e))))
        by (Node-F.Name m) e t = subst IsObjectKept (sym t) tt
        by y e t = subst IsObjectKept (sym t) tt

  as_assign : (q x : NotedExpr) → out-Act Name Note step.before.body ≡ Act-F.Assign q x → IsDone
  unfolding AreAssignsJudged
  as_assign q x out =
      let c = assignment_stored s here step.behind step.before step.after q x step.counting out step.judged in
      let a : IsAssignJudged s here.at here.next step.before step.after = c.0.0 in
      let fits = step_fits p s frame.function j is step.before step.inside (step.before ∷ []) (step.after ∷ []) here.at here.next (inl refl) c.0 here.at 0 here.next in (
        object_kept a.target a.right a.place a.value a.is a.becomes a.target_judged a.right_judged fits c.1,
        λ spare.
            assign_holds a.target a.right a.place a.value a.is a.becomes a.target_judged a.right_judged fits c.1,
      )

  -- ---- a declaration

  module _ (d e : NotedDecl) (x value : NotedExpr) (out : out-Act Name Note step.before.body ≡ Act-F.Local d) (becomes : out-Act Name Note step.after.body ≡ Act-F.Local e) (begins : d.init ≡ init.One x)
      (made : e ≡ record d { init = init.One value }) (right : (view s.frame x).judged here.next here.at ≡ Ok value) (judged : decl_judged s.frame d here ≡ Ok (e, step.behind))
      (at_is : step.behind.at ≡ (declared_here s.frame d (init.One value) (record here { next = fresh_behind (view s.frame x) here.next here.at })).at)
      (seen_is : step.behind.seen ≡ (declared_here s.frame d (init.One value) (record here { next = fresh_behind (view s.frame x) here.next here.at })).seen) where
    abbrev t : CType
    t = type_written d.ctype

    decl_call : x ≡ r.call
    decl_call = same_call x (sym (ap value_of_act out ∙ ap value_of_init begins) ∙ r.is)

    decl_same : view s.frame r.call ≡ view s.frame value
    decl_same = ap (view s.frame) (sym decl_call) ∙ sym (same_view s.frame x value here.next here.at right s.frame)

    decl_bare : is_char t ≡ true → is_pointer value.note.ctype ≡ false
    decl_bare c =
        ap is_pointer (same_type s.frame x value here.next here.at right)
        ∙ char_bare t x c (subst (StartsLocal t) begins (row_as (Act-F.Local d) out).starts)

    decl_received : IsReceived s (store_in p blocks frame) r.valuation here.at t value (record { value = 0; fresh = here.next }) n
    decl_received = result_received s (store_in p blocks frame) r.valuation here t r.call value n (given_to t (ap type_of_act out)) decl_same decl_bare

    decl_kept : target ≡ name_kept s.text t d.name
    decl_kept =
        let out_made : out-Act Name Note step.after.body ≡ Act-F.Local (record d { init = init.One value }) = becomes ∙ ap (λ (y : NotedDecl). Act-F.Local y) made in
        let code = becomes_as (Act-F.Local (record d { init = init.One value })) out_made (declared s.text s.variables at step.literals (record d { init = init.One value })) refl in
        (assigned_called s.text s.variables at sp (destination_for s.text t d.name) (step.literals + literals_of_bounds d.bounds) target number es value code).target_is

    inside : Contains s.variables (variable_declared d)
    inside = step.inside.known d (subst (λ ds. Contains ds d) (sym (declared_are step.before (Act-F.Local d) out)) (0, omega arith, refl))

    declared_holds : SpareResults p → Holds step.behind
    declared_holds spare = by d.name refl decl_kept
      where
        apart : (m : Name) → d.name ≡ m → (declared_here s.frame (record d { name = m }) (init.One value) here).at ≡ here.at → (declared_here s.frame (record d { name = m }) (init.One value) here).seen ≡ here.seen
            → HoldsAt s (store_in p blocks frame) frame.entry step.behind
        apart m e a b =
            same_point s (store_in p blocks frame) frame.entry here step.behind r.holds
            (at_is ∙ ap (λ (z : Name). (declared_here s.frame (record d { name = z }) (init.One value) here).at) e ∙ a)
            (seen_is ∙ ap (λ (z : Name). (declared_here s.frame (record d { name = z }) (init.One value) here).seen) e ∙ b)

        by : (m : Name) → d.name ≡ m → target ≡ name_kept s.text t m → Holds step.behind
        by (name.Local k) named kept_is =
            let unnamed = declared_unnamed s here there (Call sp target number es) step d k out named in
            let fits = declared_fits p s frame.function j is d k inside named in
            let l = locals_are_there p s frame.function k is fits.0 (few s frame.function is) in
            let type_is : l.0.ctype ≡ t = fits.1 l.0 l.1 in
            subst (λ o. HoldsAt s (store_in p blocks (kept_in o n frame)) frame.entry step.behind) (sym kept_is)
            (declared_after s (store_in p blocks frame) (store_in p blocks frame) (store_in p blocks (kept_in (name_kept s.text t (name.Local k)) n frame)) r.valuation frame.entry here step.behind d e k n l.0 ends r.holds r.given.values known placed
            step.counting judged
            (record { name_is = named; there = l.1; same = type_is; below = fits.0; unnamed = unnamed.0; spared = spare s frame.function here there (Call sp target number es) step d k is out named })
            (subst (λ (y : NotedDecl). IsStart s (store_in p blocks frame) r.valuation here.at l.0.ctype y.init here.next n) (sym made)
            (subst (λ u. IsReceived s (store_in p blocks frame) r.valuation here.at u value (record { value = 0; fresh = here.next }) n) (sym type_is) decl_received))
            (ap (λ u. slice_set frame.locals k (kept_part (width_of u) n)) (sym type_is)) (λ to m low high z. z) (λ to m low high z. z))
        by (name.Static k) named kept_is = subst (λ o. HoldsAt s (store_in p blocks (kept_in o n frame)) frame.entry step.behind) (sym kept_is) (apart (name.Static k) named refl (no_more here.seen))
        by (name.Function k) named kept_is = subst (λ o. HoldsAt s (store_in p blocks (kept_in o n frame)) frame.entry step.behind) (sym kept_is) (apart (name.Function k) named refl (no_more here.seen))
        by (name.Tag k) named kept_is = subst (λ o. HoldsAt s (store_in p blocks (kept_in o n frame)) frame.entry step.behind) (sym kept_is) (apart (name.Tag k) named refl (no_more here.seen))
        by (name.Member k) named kept_is = subst (λ o. HoldsAt s (store_in p blocks (kept_in o n frame)) frame.entry step.behind) (sym kept_is) (apart (name.Member k) named refl (no_more here.seen))
        by name.Getchar named kept_is = subst (λ o. HoldsAt s (store_in p blocks (kept_in o n frame)) frame.entry step.behind) (sym kept_is) (apart name.Getchar named refl (no_more here.seen))
        by name.Putchar named kept_is = subst (λ o. HoldsAt s (store_in p blocks (kept_in o n frame)) frame.entry step.behind) (sym kept_is) (apart name.Putchar named refl (no_more here.seen))

    -- a local lies in no static object
    none_kept : IsObjectKept target
    none_kept =
        let named = local_named p j s frame.function (variable_declared d) is inside in
        subst IsObjectKept (sym (decl_kept ∙ ap (name_kept s.text t) named.1)) tt

  as_local : (d : NotedDecl) → out-Act Name Note step.before.body ≡ Act-F.Local d → IsDone
  as_local d out =
      let m = made_of (decl_judged s.frame d here) (λ p. Ok (stated step.before.pos step.before.note (act.Local p.0), p.1)) (step.after, step.behind) (judged_as (Act-F.Local d) out) in
      let last = pair_same (stated step.before.pos step.before.note (act.Local m.0.0)) step.after m.0.1 step.behind m.2 in
      let b = made_of (bounds_judged s.frame d here) (λ b. bind (init_judged s.frame d.init here) (λ p.
      unless (not (starts_within s.frame d.name p.0 here.next p.1)) not_contained d.pos (Ok (record d { init = p.0 }, declared_here s.frame d p.0 p.1)))) m.0 m.1 in
      let i = made_of (init_judged s.frame d.init here) (λ p.
      unless (not (starts_within s.frame d.name p.0 here.next p.1)) not_contained d.pos (Ok (record d { init = p.0 }, declared_here s.frame d p.0 p.1))) m.0 b.2 in
      let q = passes (not (starts_within s.frame d.name i.0.0 here.next i.0.1)) not_contained d.pos (Ok (record d { init = i.0.0 }, declared_here s.frame d i.0.0 i.0.1)) m.0 i.2 in
      let made = pair_same (record d { init = i.0.0 }) m.0.0 (declared_here s.frame d i.0.0 i.0.1) m.0.1 q in
      let becomes = ap (λ (st : NotedStmt). out-Act Name Note st.body) (sym last.0) ∙ out_local m.0.0 in
      by d.init refl i.0.0 i.0.1 i.1 m.0.0 becomes (sym made.0) (m.1 ∙ ap (λ (h : Here). Ok (m.0.0, h)) last.1) (sym last.1 ∙ sym made.1)
    where
      by : (y : NotedInit) → d.init ≡ y → (z : NotedInit) (h : Here) → init_judged s.frame d.init here ≡ Ok (z, h) → (e : NotedDecl) → out-Act Name Note step.after.body ≡ Act-F.Local e
          → e ≡ record d { init = z } → decl_judged s.frame d here ≡ Ok (e, step.behind) → step.behind ≡ declared_here s.frame d z h → IsDone
      by (init.One x) same z h begun e becomes made judged behind =
          let w = made_of (value_judged s.frame x here) (λ p. Ok (init.One p.0, p.1)) (z, h) (ap (λ i. init_judged s.frame i here) (sym same) ∙ begun) in
          let pair = pair_same (init.One w.0.0) z w.0.1 h w.2 in
          let v = value_is_judged s.frame x w.0.0 here w.0.1 step.counting w.1 in
          let after : step.behind ≡ declared_here s.frame d (init.One w.0.0) (record here { next = fresh_behind (view s.frame x) here.next here.at }) =
          behind ∙ ap (λ i. declared_here s.frame d i h) (sym pair.0) ∙ ap (λ y. declared_here s.frame d (init.One w.0.0) y) (sym pair.1 ∙ v.1) in (
            λ filled. none_kept d e x w.0.0 out becomes same (made ∙ ap (λ i. record d { init = i }) (sym pair.0)) v.0 judged (ap (λ (y : Here). y.at) after) (ap (λ (y : Here). y.seen) after),
            λ spare.
                declared_holds d e x w.0.0 out becomes same (made ∙ ap (λ i. record d { init = i }) (sym pair.0)) v.0 judged (ap (λ (y : Here). y.at) after) (ap (λ (y : Here). y.seen) after) spare,
          )
      by init.Nothing same z h begun e becomes made judged behind = let no' : ◌≡◌ {A = Option NotedExpr} None (Some r.call) = sym (ap value_of_act out ∙ ap value_of_init same) ∙ r.is in absurd cc
      by (init.Many xs) same z h begun e becomes made judged behind = let no' : ◌≡◌ {A = Option NotedExpr} None (Some r.call) = sym (ap value_of_act out ∙ ap value_of_init same) ∙ r.is in absurd cc

  all_done : IsDone
  all_done = by (out-Act Name Note step.before.body) refl
    where
      by : (x : ActLayer) → out-Act Name Note step.before.body ≡ x → IsDone
      by (Act-F.Local d) out = as_local d out
      by (Act-F.Assign q x) out = as_assign q x out
      by (Act-F.Call x) out = as_call x out
      by x out = let no' : ◌≡◌ {A = Option NotedExpr} None (Some r.call) = sym (ap value_of_act out) ∙ r.is in absurd cc

  pub object_there : IsFilled → IsObjectKept target
  object_there = all_done.0

  pub holds : SpareResults p → Holds there
  holds spare = point_kept s (store_in p blocks (kept_in target n frame)) frame.entry step.behind there step.goes (all_done.1 spare)

pub results_lead_on : (p : Typed) → IsJudged p → HaveFewVariables p → SpareResults p → ResultsLeadOn p
results_lead_on p j few spare blocks frame s here there sp target number es n next is sound r = holds p j few blocks frame s here there sp target number es n next is sound r spare

pub objects_keep_results : (p : Typed) → IsJudged p → HaveFewVariables p → ObjectsKeepResults p
objects_keep_results p j few blocks frame s here there sp a width number es n next is sound filled r = object_there p j few blocks frame s here there sp (Some (kept.Static a width)) number es n next is sound r filled
