-- A result goes to the call that waits for it.
use Rattle.std.proofs.Common.{◌≡◌, refl, sym, ap, subst, ◌∙◌, ℕ, List, [], ◌∷◌, length, map, arith}
use Rattle.std.specs.Prelude.{◌<◌, ◌≤◌, ◌^◌, ◌-◌, ◌==◌, pos, negsuc, ℤ, Bool, true, false, if◌then◌else◌, slice_get, Option, None, Some, Result, Ok, Err, IsOk}
use Rattle.std.proofs.lemmas.Bool.{eqb-true}
use Rattle.std.proofs.lemmas.List.{length-map}
use Rattle.ckc_linear.specs.declared.forms.Base.TheVariants as base
use Rattle.ckc_linear.specs.declared.forms.Form.{Form}
use Rattle.ckc_syntax.specs.declared.tree.Name.TheVariants as name
use Rattle.ckc_syntax.specs.declared.tree.Node.{Node-F}
use Rattle.ckc_typed.specs.declared.typed.Typed.{Typed}
use Rattle.ckc_typed.specs.Environment.{parameter_declared, signature_named}
use Rattle.ckc_typed.specs.Trees.{NotedLayer}
use Rattle.ckc_typed_welltyped.specs.Expressions.{HasType}
use Rattle.ckc_typed_welltyped.proofs.ByParts.{expr_by_parts}
use Rattle.ckc_blame_sound.specs.ckc_bounds_points.specs.declared.frame.Bounds.{Bounds}
use Rattle.ckc_blame_sound.specs.ckc_bounds_points.specs.declared.frame.Bounds.TheVariants as bounds
use Rattle.ckc_blame_sound.specs.ckc_bounds_points.specs.declared.frame.HeadBounds.{HeadBounds}
use Rattle.ckc_blame_sound.specs.ckc_bounds_views.specs.Parts.{View}
use Rattle.ckc_blame_sound.specs.ckc_bounds_views.specs.Places.{values_after}
use Rattle.ckc_blame_sound.specs.ckc_bounds_views.specs.Ranges.{range_of_result}
use Rattle.ckc_blame_sound.specs.ckc_bounds_views.specs.Views.{view}
use Rattle.ckc_source.specs.declared.expr.Limits.{Limits}
use Rattle.ckc_source.specs.declared.expr.Pointee.{Pointee}
use Rattle.ckc_source.specs.declared.outcome.Halt.{Halt}
use Rattle.ckc_source.specs.declared.outcome.Halt.TheVariants.{Stuck}
use Rattle.ckc_source.specs.declared.program.Shape.{Shape}
use Rattle.ckc_source.specs.declared.stmt.Kept.{Kept}
use Rattle.ckc_source.specs.declared.stmt.Kept.TheVariants as kept
use Rattle.ckc_source.specs.Blocks.{Block}
use Rattle.ckc_source.specs.Code.{Function}
use Rattle.ckc_source.specs.Eval.{Store, given, plain, ranged, reads_within, reads, reads_limited}
use Rattle.ckc_source.specs.Runs.{is_true}
use Rattle.ckc_source.specs.States.{State, Caller}
use Rattle.ckc_source.specs.Steps.{with_blocks, writes, comes_to, kept_place, reads_result, hands, returns}
use Rattle.ckc_build_elaborate.specs.Elaborated.{elaborated}
use Rattle.ckc_build_elaborate.specs.Shapes.{shapes_elaborated}
use Rattle.ckc_build_values.specs.Kinds.{pointee_of}
use Rattle.ckc_blame_sound.specs.Settings.{Setting, IsFunction, setting_of}
use Rattle.ckc_blame_sound.specs.Valuations.{Valuation, IsValuationOf}
use Rattle.ckc_blame_sound.specs.Arguments.{AreArguments}
use Rattle.ckc_blame_sound.specs.Bodies.{globals_of_text}
use Rattle.ckc_blame_sound.specs.Calls.{store_in, ArePassed, Waits, AreWaiting}
use Rattle.ckc_blame_sound.specs.Sound.{Sound}
use Rattle.ckc_blame_sound.specs.Cells.{AreSound}
use Rattle.ckc_blame_sound.specs.Moves.{IsSoundMove}
use Rattle.ckc_blame_sound.specs.JudgedTexts.{IsJudged}
use Rattle.ckc_blame_sound.specs.Containment.{IsReadBetween, IsReadWithin}
use Rattle.ckc_blame_sound.specs.GivenValues.{memory_of}
use Rattle.ckc_blame_sound.specs.Passed.{IsResult, result_between}
use Rattle.ckc_blame_sound.proofs.Returned.{result_reads, call_read}
use Rattle.ckc_blame_walk.specs.ckc_blame_declared.proofs.Heads.{results_have_ends}
use Rattle.ckc_blame_walk.specs.ckc_blame_declared.proofs.Parameters.{parameters_are_locals}
use Rattle.ckc_blame_walk.specs.ckc_blame_declared.proofs.Results.{results_are_told}
use Rattle.ckc_blame_walk.proofs.Entered.{params_many}
use Rattle.ckc_blame_control.proofs.Called.{front_waits, back_sound}
use Rattle.ckc_blame_control.proofs.Kept.{holds_kept}
use Rattle.ckc_blame_steps.specs.Callees.{IsCallee, HaveCallees, HaveFewVariables}
use Rattle.ckc_blame_steps.specs.Results.{ResultsAreKnown, kept_in, IsResultOf, ResultsLeadOn, ObjectsKeepResults, type_of}
use Rattle.ckc_blame_steps.proofs.Entering.{many_arguments}
use Rattle.ckc_blame_steps.proofs.Numbering.{own_valuation, own_values, valuation_with, with_values, with_own}
use Rattle.ckc_blame_steps.proofs.Results.{call_form, from_call}
use Rattle.ckc_blame_steps.proofs.Stepping.{IsCallStep, call_step}

-- the head of a function tells the type of its result
pub result_type : (p : Typed) (t : Setting) (f : Function) → IsFunction p t f → t.head.result ≡ t.result
unfolding setting_of
result_type p t f i = ap (λ (x : Setting). x.head.result) i.judged ∙ ap (λ (x : Setting). x.result) (sym i.judged)

-- a result that may be read is what is read
read_gives : (shapes : List Shape) (blocks : List Block) (to : Pointee) (n : ℕ) (low high : ℤ) → IsOk (reads shapes blocks to n low high) → given (reads shapes blocks to n low high) (λ v. Ok v.number) ≡ Ok n
read_gives shapes blocks to n low high h = by (n == 0) refl h
  where
    within : (low high : ℤ) → IsOk (reads_within shapes blocks to n low high) → given (reads_within shapes blocks to n low high) (λ v. Ok v.number) ≡ Ok n
    within (pos low) (pos high) h = by_true (is_true shapes blocks to n low high) h
      where
        by_true : (b : Bool) → IsOk (if b then ranged n low high else Err Stuck) → given (if b then ranged n low high else Err Stuck) (λ v. Ok v.number) ≡ Ok n
        by_true true h = refl
        by_true false h = absurd cc
    within (pos low) (negsuc high) h = absurd cc
    within (negsuc low) high h = absurd cc

    by : (b : Bool) → (n == 0) ≡ b → IsOk (if b then plain 0 else reads_within shapes blocks to n low high)
        → given (if b then plain 0 else reads_within shapes blocks to n low high) (λ v. Ok v.number) ≡ Ok n
    by true e h = ap Ok (sym (eqb-true n 0 e))
    by false e h = within low high h

module _ (p : Typed) (s : State) (h : Sound p s) (j : IsJudged p) (few : HaveFewVariables p) (have : HaveCallees p) (known : ResultsAreKnown p) (n : ℕ) (word : n < 2 ^ 32) where
  -- the values that the parameters were entered with, and the result
  abbrev pub entry_valuation : Valuation
  entry_valuation = valuation_with 0 n (own_valuation h.setting s.frame.entry)

  will : IsValuationOf h.setting s.frame.entry entry_valuation
  will = with_values h.setting s.frame.entry 0 n (own_valuation h.setting s.frame.entry) (own_values h.setting s.frame.entry)

  result_own : entry_valuation.address (Some (base.Value 0)) ≡ pos n
  result_own = with_own 0 n (own_valuation h.setting s.frame.entry)

  -- The result may be read within the bounds that the head tells.
  abbrev pub IsBoundedResult : Type 0
  IsBoundedResult = (low high : Form) → h.setting.head.bounds ≡ bounds.Known low high
      → IsReadBetween (memory_of h.setting (store_in p s.blocks s.frame) h.setting.head.result) entry_valuation n low high

  module _ (bounded : IsBoundedResult) (back : State) (blocks : back.blocks ≡ s.blocks) where
    text_is : h.setting.text ≡ p
    unfolding setting_of
    text_is = ap (λ (t : Setting). t.text) h.stands.function.judged

    reads_back : reads_result (shapes_elaborated p.layout) back s.frame.function.result s.frame.entry n ≡ Ok n
    reads_back = by s.frame.function.result refl
      where
        by : (o : Option Limits) → s.frame.function.result ≡ o → reads_result (shapes_elaborated p.layout) back o s.frame.entry n ≡ Ok n
        by None e = refl
        by (Some limits) e =
            let k = known h.setting s.frame.function limits h.stands.function e in
            let told = results_are_told p h.setting s.frame.function k.0 k.1 h.stands.function k.2 in
            let same : ◌≡◌ {A = Option Limits} (Some limits) (Some (result_between h.setting k.0 k.1)) = sym e ∙ told in
            let limits_are : limits ≡ result_between h.setting k.0 k.1 = cc in
            let ends : IsResult h.setting _ h.setting.head.params k.0 k.1 = results_have_ends p h.setting s.frame.function k.0 k.1 j h.stands.function k.2 in
            let read = result_reads h.setting (store_in p s.blocks s.frame) entry_valuation s.frame.entry n k.0 k.1 will result_own ends.low_end ends.high_end (bounded k.0 k.1 k.2) in
            subst (λ l. reads_result (shapes_elaborated p.layout) back (Some l) s.frame.entry n ≡ Ok n) (sym limits_are)
            (subst (λ bs. given (reads_limited (record { shapes = shapes_elaborated p.layout; blocks = bs; locals = s.frame.entry }) (result_between h.setting k.0 k.1) n) (λ v. Ok v.number) ≡ Ok n) (sym blocks)
            (read_gives (shapes_elaborated p.layout) s.blocks (result_between h.setting k.0 k.1).to n _ _ read))

  module _ (caller : Caller) (callers : List Caller) (is : s.callers ≡ caller ∷ callers) (w : Setting) (waits : Waits p s.blocks caller w h.setting s.frame.function s.frame.entry) (bounded : IsBoundedResult) where
    w_text : w.text ≡ p
    unfolding setting_of
    w_text = ap (λ (t : Setting). t.text) waits.function.judged

    word_w : waits.at.next ≤ 2 ^ 32 - 1
    word_w = let m = few w caller.frame.function waits.function in let x = waits.call.fresh (omega arith) in let l = x.1 in omega (arith, l)

    step : IsCallStep w waits.at waits.exits.ends waits.spot caller.target waits.number waits.arguments waits.call
    step = call_step w waits.at waits.exits.ends waits.spot caller.target waits.number waits.arguments waits.call word_w

    row : HasType (globals_of_text w.text) w.variables waits.call.inside.mode (Node-F.Call (name.Function step.function) step.is.args) step.call.note.ctype
    row =
        subst (λ (m : NotedLayer). HasType (globals_of_text w.text) w.variables waits.call.inside.mode m step.call.note.ctype) step.is.node
        ((expr_by_parts (globals_of_text w.text) w.variables waits.call.inside.mode step.call).0 step.typed).noted.row

    callee : IsCallee p w.frame step.function row.0
    callee = have w caller.frame.function step.function row.0 waits.function (subst (λ (t : Typed). signature_named (globals_of_text t) (name.Function step.function) ≡ Some row.0) w_text row.1)

    -- the call is judged by the head of the function that returns
    head_there : slice_get w.frame.heads step.function ≡ Some h.setting.head
    head_there = sym step.head ∙ waits.head

    same_head : h.setting.head ≡ callee.called.head
    same_head = let both : ◌≡◌ {A = Option HeadBounds} (Some h.setting.head) (Some callee.called.head) = sym head_there ∙ callee.head in cc

    type_is : h.setting.head.result ≡ step.call.note.ctype
    type_is = ap (λ (x : HeadBounds). x.result) same_head ∙ result_type p callee.called callee.callee callee.function ∙ sym callee.result ∙ sym row.3

    params_count : length step.is.args ≡ length h.setting.head.params
    params_count =
        many_arguments waits.call.inside.mode row.0.params step.is.args row.2 ∙ ap length callee.types ∙ length-map callee.function.head.params parameter_declared
        ∙ sym (params_many p callee.function.head callee.function.body) ∙ ap (λ (x : Setting). length x.head.params) (sym callee.function.judged)
        ∙ ap (λ (x : HeadBounds). length x.params) (sym same_head)

    abbrev store : Store
    store = store_in p s.blocks caller.frame

    abbrev views : List View
    views = map (view w.frame) step.is.args

    passed : ArePassed w h.setting waits.at caller.frame.locals s.frame.entry views n
    passed = subst (λ xs. ArePassed w h.setting waits.at caller.frame.locals s.frame.entry (map (view w.frame) xs) n) step.before (waits.passed n)

    h_text : h.setting.text ≡ p
    unfolding setting_of
    h_text = ap (λ (t : Setting). t.text) h.stands.function.judged

    -- the call may be read within its range
    read_called : IsReadWithin (memory_of h.setting store h.setting.head.result) passed.valuation n (range_of_result (Some h.setting.head) views (values_after 0 views) 0 waits.at.at.facts)
    read_called = by h.setting.head.bounds refl
      where
        by : (b : Bounds) → h.setting.head.bounds ≡ b
            → IsReadWithin (memory_of h.setting store h.setting.head.result) passed.valuation n (range_of_result (Some h.setting.head) views (values_after 0 views) 0 waits.at.at.facts)
        by bounds.Unknown e =
            subst (λ b. IsReadWithin (memory_of h.setting store h.setting.head.result) passed.valuation n (range_of_result (Some (record h.setting.head { bounds = b })) views (values_after 0 views) 0 waits.at.at.facts)) (sym e) tt
        by (bounds.Known low high) e =
            call_read w h.setting caller.frame.locals s.frame.entry (memory_of h.setting store h.setting.head.result) passed.valuation entry_valuation waits.at.at.facts h.setting.head views 0 (values_after 0 views) n
            (h_text ∙ sym w_text) (parameters_are_locals p h.setting s.frame.function j h.stands.function (few h.setting s.frame.function h.stands.function))
            (length-map step.is.args (view w.frame) ∙ params_count) passed.values will
            (subst (λ (t : Typed). AreArguments t.layout passed.valuation waits.at.at.facts h.setting.head.params s.frame.entry 0 0 views) (w_text ∙ sym h_text) passed.arguments)
            passed.own result_own low high (results_have_ends p h.setting s.frame.function low high j h.stands.function e) e (bounded low high e)

    read_here : IsReadWithin (memory_of w store step.call.note.ctype) passed.valuation n (range_of_result (slice_get w.frame.heads step.function) views (values_after 0 views) 0 waits.at.at.facts)
    read_here =
        subst (λ o. IsReadWithin (memory_of w store step.call.note.ctype) passed.valuation n (range_of_result o views (values_after 0 views) 0 waits.at.at.facts)) (sym head_there)
        (subst (λ t. IsReadWithin (memory_of w store t) passed.valuation n (range_of_result (Some h.setting.head) views (values_after 0 views) 0 waits.at.at.facts)) type_is
        (subst (λ (t : Typed). IsReadWithin (record { shapes = store.shapes; blocks = store.blocks; to = pointee_of t.layout h.setting.head.result }) passed.valuation n (range_of_result (Some h.setting.head) views (values_after 0 views) 0 waits.at.at.facts))
        (h_text ∙ sym w_text) read_called))

    result_of : IsResultOf p s.blocks caller.frame w waits.at waits.exits.ends waits.spot caller.target waits.number waits.arguments n
    result_of = record {
      step = waits.call;
      holds = waits.holds;
      call = step.call;
      is = step.value;
      valuation = passed.valuation;
      given = record {
        values = passed.values;
        word = word;
        from = from_call w store passed.valuation waits.at.next waits.at.at (type_of waits.call.before) step.call step.function step.is.args step.is.node n passed.values.zero passed.own passed.numbers step.looser read_here;
        form = call_form w.frame step.call step.function step.is.args step.is.node;
      };
    }

    module _ (others : AreWaiting p s.blocks callers w caller.frame.function caller.frame.entry) (lead : ResultsLeadOn p) (objects : ObjectsKeepResults p) where
      abbrev back : State
      back = record s { frame = caller.frame; callers = callers }

      abbrev shapes : List Shape
      shapes = shapes_elaborated p.layout

      sound_here : AreSound p s.blocks s.next
      sound_here = record { apart = h.orderly.apart; bytes = h.orderly.bytes; memory = h.memory }

      by_target : (o : Option Kept) → caller.target ≡ o → IsSoundMove p (comes_to [] (hands shapes back s.frame.function.result s.frame.entry o n))
      by_target None e =
          back_sound p s back h caller callers is h.setting w s.frame.function s.frame.entry waits others (record { function = refl; entry = refl; work = refl; others = refl }) (λ to m low high t. t) sound_here h.filled h.input
          (lead s.blocks caller.frame w waits.at waits.exits.ends waits.spot None waits.number waits.arguments n s.next waits.function sound_here
          (subst (λ t. IsResultOf p s.blocks caller.frame w waits.at waits.exits.ends waits.spot t waits.number waits.arguments n) e result_of))
      by_target (Some (kept.Local x width)) e =
          subst (λ (r : Result ℕ Halt). IsSoundMove p (comes_to [] (given r (λ m. writes (kept_place (kept.Local x width)) m back)))) (sym (reads_back bounded back refl))
          (back_sound p s (record back { frame = kept_in (Some (kept.Local x width)) n caller.frame }) h caller callers is h.setting w s.frame.function s.frame.entry waits others
          (record { function = refl; entry = refl; work = refl; others = refl }) (λ to m low high t. t) sound_here h.filled h.input
          (lead s.blocks caller.frame w waits.at waits.exits.ends waits.spot (Some (kept.Local x width)) waits.number waits.arguments n s.next waits.function sound_here
          (subst (λ t. IsResultOf p s.blocks caller.frame w waits.at waits.exits.ends waits.spot t waits.number waits.arguments n) e result_of)))
      by_target (Some (kept.Static a width)) e =
          let result = subst (λ t. IsResultOf p s.blocks caller.frame w waits.at waits.exits.ends waits.spot t waits.number waits.arguments n) e result_of in
          let k = objects s.blocks caller.frame w waits.at waits.exits.ends waits.spot a width waits.number waits.arguments n s.next waits.function sound_here h.filled result in
          subst (λ (r : Result ℕ Halt). IsSoundMove p (comes_to [] (given r (λ m. writes (kept_place (kept.Static a width)) m back)))) (sym (reads_back bounded back refl))
          (subst (λ (o : Option (List Block)). IsSoundMove p (comes_to [] (with_blocks back o))) (sym k.written)
          (back_sound p s (record back { blocks = k.after }) h caller callers is h.setting w s.frame.function s.frame.entry waits others (record { function = refl; entry = refl; work = refl; others = refl }) k.ranges k.sound k.filled h.input
          (holds_kept shapes s.blocks k.after k.ranges w caller.frame.locals caller.frame.entry waits.exits.ends
          (lead s.blocks caller.frame w waits.at waits.exits.ends waits.spot (Some (kept.Static a width)) waits.number waits.arguments n s.next waits.function sound_here result))))

      pub handed : IsSoundMove p (comes_to [] (hands shapes back s.frame.function.result s.frame.entry caller.target n))
      handed = by_target caller.target refl

-- a result goes to the call in front of those that wait
pub returns_soundly : (p : Typed) (s : State) (h : Sound p s) (j : IsJudged p) (few : HaveFewVariables p) (have : HaveCallees p) (known : ResultsAreKnown p) (lead : ResultsLeadOn p) (objects : ObjectsKeepResults p) (n : ℕ) (word : n < 2 ^ 32)
    → IsBoundedResult p s h j few have known n word → (caller : Caller) (callers : List Caller) → s.callers ≡ caller ∷ callers → IsSoundMove p (returns (elaborated p).shapes s s.callers n)
returns_soundly p s h j few have known lead objects n word bounded caller callers is =
    let f = front_waits p s h caller callers is in
    subst (λ cs. IsSoundMove p (returns (elaborated p).shapes s cs n)) (sym is) (handed p s h j few have known n word caller callers is f.0 f.1 bounded f.2 lead objects)
