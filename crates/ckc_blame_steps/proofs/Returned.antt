-- A return and the end of a function keep states sound.
use Rattle.std.proofs.Common.{◌≡◌, refl, sym, ap, subst, ◌∙◌, ℕ, List, [], ◌∷◌, arith}
use Rattle.std.specs.Prelude.{◌<◌, ◌^◌, ◌%◌, Bool, true, false, if◌then◌else◌, pos, IfSome, Option, None, Some, Result, Ok, Err}
use Rattle.std.specs.List.{All}
use Rattle.ckc_base.specs.declared.arithmetic.Mode.{Mode}
use Rattle.ckc_base.specs.Steps.{Move, Halts}
use Rattle.ckc_base.specs.Traces.{Event, Ended}
use Rattle.ckc_types.specs.declared.types.CType.{CType}
use Rattle.ckc_typed.specs.declared.typed.Typed.{Typed}
use Rattle.ckc_typed.specs.Statements.{is_result}
use Rattle.ckc_typed.specs.Trees.{NotedExpr}
use Rattle.ckc_typed.specs.Types.{is_char}
use Rattle.ckc_typed_welltyped.specs.Expressions.{WellTypedExpr}
use Rattle.ckc_typed_welltyped.proofs.ByParts.{expr_by_parts}
use Rattle.ckc_blame_sound.specs.ckc_bounds_points.specs.Flow.{State as Point}
use Rattle.ckc_blame_sound.specs.ckc_bounds_views.specs.Parts.{View, capped}
use Rattle.ckc_blame_sound.specs.ckc_bounds_views.specs.Views.{view}
use Rattle.ckc_blame_sound.specs.ckc_bounds_stores.specs.declared.values.Numbered.{Numbered}
use Rattle.ckc_blame_sound.specs.ckc_bounds_stores.specs.Stores as stores
use Rattle.ckc_blame_sound.specs.ckc_bounds_stores.specs.Values.{narrow, received_range, has_element}
use Rattle.ckc_source.specs.declared.outcome.Halt.{Halt}
use Rattle.ckc_source.specs.declared.outcome.Halt.TheVariants as halt
use Rattle.ckc_source.specs.declared.outcome.Value.{Value}
use Rattle.ckc_source.specs.declared.stmt.Spot.{Spot}
use Rattle.ckc_source.specs.Code.{Expr, Code, Return}
use Rattle.ckc_source.specs.Eval.{Store, evaluated}
use Rattle.ckc_source.specs.States.{State, Work, Rest, Caller, settled}
use Rattle.ckc_source.specs.Steps.{and_moves, returns, source_step}
use Rattle.ckc_build_elaborate.specs.Elaborated.{elaborated}
use Rattle.ckc_build_elaborate.specs.Steps.{returned}
use Rattle.ckc_build_values.specs.Expressions.{expr_elaborated}
use Rattle.ckc_build_values.specs.Operators.{converted}
use Rattle.ckc_blame_sound.specs.Settings.{Setting, setting_of}
use Rattle.ckc_blame_sound.specs.Bodies.{globals_of_text}
use Rattle.ckc_blame_sound.specs.Calls.{store_in}
use Rattle.ckc_blame_sound.specs.Sound.{IsPlaced, Sound}
use Rattle.ckc_blame_sound.specs.Valuations.{Valuation, AreNumbersOf}
use Rattle.ckc_blame_sound.specs.Moves.{IsSoundMove}
use Rattle.ckc_blame_sound.specs.JudgedTexts.{IsJudged}
use Rattle.ckc_blame_sound.proofs.SameViews.{same_view}
use Rattle.ckc_blame_sound.specs.Containment.{IsRanged}
use Rattle.ckc_blame_sound.specs.GivenValues.{memory_of, IsFrom}
use Rattle.ckc_blame_sound.specs.Values.{NamesIntegers}
use Rattle.ckc_blame_sound.proofs.Agree.{facts_agree}
use Rattle.ckc_blame_sound.proofs.Returned.{result_read}
use Rattle.ckc_blame_walk.specs.ckc_blame_declared.proofs.Heads.{results_have_ends}
use Rattle.ckc_blame_control.specs.Ready.{Faces}
use Rattle.ckc_blame_control.proofs.Moved.{move_by}
use Rattle.ckc_blame_given.specs.ckc_blame_pointers.specs.Owed.{Comes}
use Rattle.ckc_blame_given.specs.Gives.{Gives, GivesOn}
use Rattle.ckc_blame_steps.specs.Arguments.{GivesWord}
use Rattle.ckc_blame_steps.specs.Callees.{HaveCallees, HaveFewVariables}
use Rattle.ckc_blame_steps.specs.Unchecked.{MovesSoundly}
use Rattle.ckc_blame_steps.specs.Results.{GivesWordIf, returned_by, ResultsAreKnown, ResultsLeadOn, ObjectsKeepResults}
use Rattle.ckc_blame_given.proofs.Converted.{Becomes, becomes}
use Rattle.ckc_blame_steps.proofs.Converted.{taken, converted_is, converted_halts}
use Rattle.ckc_blame_steps.proofs.Handing.{result_type, IsBoundedResult, returns_soundly}
use Rattle.ckc_blame_steps.proofs.Numbering.{own_valuation, own_values, valuation_with, with_values, with_own}
use Rattle.ckc_blame_steps.proofs.Returning.{JudgedIf, IsReturnStep, return_step}
use Rattle.ckc_blame_steps.proofs.Comes.{stops_soundly}
use Rattle.ckc_blame_steps.proofs.SoundMoves.{soundly, moves_by}
use Rattle.ckc_blame_steps.proofs.Taken.{word_is, null_taken, wide_taken, narrow_taken, placed_taken}
use Rattle.ckc_blame_given.proofs.Views.{allocates_is}

ended : (p : Typed) (n : ℕ) → IsSoundMove p (Halts [] (Ended n))
ended p n e = cc

taken_small : (t : CType) (w : ℕ) → w < 2 ^ 32 → taken t w < 2 ^ 32
taken_small t w h = by (is_char t)
  where
    by : (b : Bool) → (if b then w % 256 else w) < 2 ^ 32
    by true = omega arith
    by false = h

-- ---- what is known of a value that is converted to the type of the result

module _ (s : Setting) (store : Store) (at : Point) (v : Valuation) (zero_is : v.number 0 ≡ pos 0) (x y : NotedExpr) (from : Numbered) (w : ℕ) (t : CType) (how : Becomes t x) (g : Gives s store v at x from w)
    (m : Mode) (value : Expr) (word : GivesWord m s store at x value from) (same : view s.frame y ≡ view s.frame x) where
  abbrev Ranged : View → Type 0
  Ranged z =
      IsRanged (memory_of s store t) v (taken t w) (received_range t z.allocates (z.range from.value from.fresh at)) (received_range t z.allocates (z.range from.value from.fresh (narrow at))) (has_element t z.allocates)

  ranged : Ranged (view s.frame x)
  ranged =
      subst (λ (b : Bool). IsRanged (memory_of s store t) v (taken t w) (received_range t b ((view s.frame x).range from.value from.fresh at)) (received_range t b ((view s.frame x).range from.value from.fresh (narrow at))) (has_element t b))
      (sym (allocates_is s.frame x ∙ word.whole))
      (record { wide = wide_taken s store at v zero_is x from w t how g; narrow = narrow_taken s store at v zero_is x from w t how g; narrowed = word.narrowed; element = λ e some. absurd cc })

  pub from_value : IsFrom s.frame (memory_of s store t) v t y from at (taken t w)
  from_value = record {
    place = λ facts f all e. placed_taken s store at v zero_is x from w t how g facts f all (ap (λ (z : View). z.place from.value facts) (sym same) ∙ e);
    value = record {
      null = λ e. null_taken s store at v zero_is x from w t how g (ap (λ (z : View). z.null) (sym same) ∙ e);
      ranged = subst Ranged (sym same) ranged;
      fresh = λ some. subst (λ (z : View). AreNumbersOf v (capped from.fresh 1) (z.fresh at)) (sym same) g.fresh;
    };
  }

module _ (p : Typed) (s : State) (h : Sound p s) (j : IsJudged p) (few : HaveFewVariables p) (have : HaveCallees p) (known : ResultsAreKnown p) (lead : ResultsLeadOn p) (objects : ObjectsKeepResults p) where
  abbrev store : Store
  store = store_in p s.blocks s.frame

  -- a word that may be read within the bounds of the result goes to the call that waits, if one does
  result_sound : (n : ℕ) (word : n < 2 ^ 32) → IsBoundedResult p s h j few have known n word → IsSoundMove p (returns (elaborated p).shapes s s.callers n)
  result_sound n word bounded = by s.callers refl
    where
      by : (cs : List Caller) → s.callers ≡ cs → IsSoundMove p (returns (elaborated p).shapes s s.callers n)
      by [] e = subst (λ cs. IsSoundMove p (returns (elaborated p).shapes s cs n)) (sym e) (ended p n)
      by (caller ∷ callers) e = returns_soundly p s h j few have known lead objects n word bounded caller callers e

  zero_sound : IsSoundMove p (returns (elaborated p).shapes s s.callers 0)
  zero_sound = result_sound 0 (omega arith) (λ low high e. refl)

  -- a function that falls off its end gives 0
  pub end_keeps : settled s.frame.work ≡ [] → IsSoundMove p (source_step (elaborated p) s)
  end_keeps is = move_by p s [] is zero_sound

  module _ (spot : Spot) (e : Expr) (rest : Code) (next : List Work) (m : Mode) (mode : spot.mode ≡ m) (f : Faces h.setting store s.frame.entry (Return spot e) (Rest rest ∷ next))
      (named : All (NamesIntegers h.setting.frame) f.here.at.facts.list) where
    abbrev first : Numbered
    first = record { value = 0; fresh = f.here.next }

    step : IsReturnStep h.setting f.here f.exits.ends spot e f.judged
    step = return_step h.setting f.here f.exits.ends spot e f.judged

    text_is : h.setting.text ≡ p
    unfolding setting_of
    text_is = ap (λ (t : Setting). t.text) h.stands.function.judged

    placed : All (IsPlaced h.setting.text) s.blocks
    placed = subst (λ t. All (IsPlaced t) s.blocks) (sym text_is) h.memory.placed

    -- the value of an expression, which is contained in the bounds of the result
    module _ (x y : NotedExpr) (judged : (view h.setting.frame x).judged f.here.next f.here.at ≡ Ok y) (within : stores.returned h.setting.frame h.setting.head y f.here.next f.here.at ≡ true)
        (how : Becomes h.setting.result x) (gives : GivesWord m h.setting store f.here.at x (expr_elaborated h.setting.text h.setting.variables f.judged.literals y) first) where
      abbrev result : CType
      result = h.setting.head.result

      type_is : result ≡ h.setting.result
      type_is = result_type p h.setting s.frame.function h.stands.function

      value_bounded : (w : ℕ) (g : GivesOn h.setting store (own_valuation h.setting s.frame.locals) f.here.at x first w) (word : taken h.setting.result w < 2 ^ 32) → IsBoundedResult p s h j few have known (taken h.setting.result w) word
      value_bounded w g word low high is =
          let n = taken h.setting.result w in
          let gave = g.gives g.after g.values (record { address = λ k l. refl; number = λ k l. refl }) in
          let will = with_values h.setting s.frame.entry 0 n (own_valuation h.setting s.frame.entry) (own_values h.setting s.frame.entry) in
          let own = with_own 0 n (own_valuation h.setting s.frame.entry) in
          let ends = results_have_ends p h.setting s.frame.function low high j h.stands.function is in
          let from = from_value h.setting store f.here.at g.after g.values.zero x y first w result (subst (λ t. Becomes t x) (sym type_is) how) gave m
          (expr_elaborated h.setting.text h.setting.variables f.judged.literals y) gives (same_view h.setting.frame x y f.here.next f.here.at judged h.setting.frame) in
          result_read h.setting store g.after (valuation_with 0 n (own_valuation h.setting s.frame.entry)) f.here.at s.frame.entry n low high g.values will own is f.holds.kept y f.here.next ends.low_end ends.high_end
          (facts_agree h.setting s.frame.locals g.after g.values f.here.at.facts.list named f.holds.facts) placed
          (subst (λ k. IsFrom h.setting.frame (memory_of h.setting store result) g.after result y first f.here.at k) (ap (λ t. taken t w) type_is) from) within

      value_sound : e ≡ converted h.setting.result (expr_elaborated h.setting.text h.setting.variables f.judged.literals y)
          → MovesSoundly m p (and_moves (evaluated store e) (λ v. returns (elaborated p).shapes s s.callers v.number))
      value_sound is =
          subst (λ z. MovesSoundly m p (goes (evaluated store z))) (sym is)
          (by (evaluated store (expr_elaborated h.setting.text h.setting.variables f.judged.literals y)) refl (gives.gives (own_valuation h.setting s.frame.locals) (own_values h.setting s.frame.locals)))
        where
          goes : Result Value Halt → Move Event State
          goes o = and_moves o (λ v. returns (elaborated p).shapes s s.callers v.number)

          by : (o : Result Value Halt) → evaluated store (expr_elaborated h.setting.text h.setting.variables f.judged.literals y) ≡ o
              → Comes m (λ w. GivesOn h.setting store (own_valuation h.setting s.frame.locals) f.here.at x first w.number) o
              → MovesSoundly m p (goes (evaluated store (converted h.setting.result (expr_elaborated h.setting.text h.setting.variables f.judged.literals y))))
          by (Ok v) o g =
              let gave = g.gives g.after g.values (record { address = λ k l. refl; number = λ k l. refl }) in
              let u = converted_is store h.setting.result (expr_elaborated h.setting.text h.setting.variables f.judged.literals y) v o in
              let word = taken_small h.setting.result v.number (word_is h.setting store f.here.at g.after g.values.zero x first v.number h.setting.result how gave) in
              subst (λ r. MovesSoundly m p (goes r)) (sym u.1)
              (subst (λ k. MovesSoundly m p (returns (elaborated p).shapes s s.callers k)) (sym u.2)
              (soundly m p (returns (elaborated p).shapes s s.callers (taken h.setting.result v.number)) (result_sound (taken h.setting.result v.number) word (value_bounded v.number g word))))
          by (Err (halt.Stopped why there)) o g =
              subst (λ r. MovesSoundly m p (goes r)) (sym (converted_halts store h.setting.result (expr_elaborated h.setting.text h.setting.variables f.judged.literals y) (halt.Stopped why there) o))
              (stops_soundly m why there)
          by (Err halt.Stuck) o g =
              subst (λ r. MovesSoundly m p (goes r)) (sym (converted_halts store h.setting.result (expr_elaborated h.setting.text h.setting.variables f.judged.literals y) halt.Stuck o)) (λ is. g)

    by_value : (x y : Option NotedExpr) → IfSome x (WellTypedExpr (globals_of_text h.setting.text) h.setting.variables m) → is_result h.setting.result x ≡ true
        → JudgedIf h.setting f.here f.exits.ends spot e f.judged x y → GivesWordIf m h.setting store f.here.at f.judged.literals x y first
        → e ≡ returned h.setting.text h.setting.variables h.setting.result f.judged.literals y → MovesSoundly m p (and_moves (evaluated store e) (λ v. returns (elaborated p).shapes s s.callers v.number))
    by_value None None typed fits judged gives is =
        subst (λ z. MovesSoundly m p (and_moves (evaluated store z) (λ v. returns (elaborated p).shapes s s.callers v.number))) (sym is) (soundly m p (returns (elaborated p).shapes s s.callers 0) zero_sound)
    by_value (Some x) (Some y) typed fits judged gives is =
        value_sound x y judged.0 judged.1
        (becomes (globals_of_text h.setting.text) h.setting.variables h.setting.result x m ((expr_by_parts (globals_of_text h.setting.text) h.setting.variables m x).0 typed).noted.row fits gives.whole) gives is
    by_value None (Some y) typed fits judged gives is = absurd judged
    by_value (Some x) None typed fits judged gives is = absurd judged

    pub return_keeps : GivesWordIf m h.setting store f.here.at f.judged.literals (returned_by f.judged.before) (returned_by f.judged.after) first → settled s.frame.work ≡ Rest (Return spot e rest) ∷ next
        → MovesSoundly m p (source_step (elaborated p) s)
    return_keeps gives is =
        moves_by m p s (Rest (Return spot e rest) ∷ next) is
        (by_value step.value step.made
        (subst (λ k. IfSome step.value (WellTypedExpr (globals_of_text h.setting.text) h.setting.variables k)) (sym step.mode ∙ mode) step.typed)
        step.fits step.judged
        (subst (λ a. GivesWordIf m h.setting store f.here.at f.judged.literals a step.made first) step.before
        (subst (λ b. GivesWordIf m h.setting store f.here.at f.judged.literals (returned_by f.judged.before) b first) step.after gives))
        step.becomes)
