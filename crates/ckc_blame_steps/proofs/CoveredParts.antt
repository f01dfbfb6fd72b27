-- The assignments that a step becomes are covered.
use Rattle.std.proofs.Common.{◌≡◌, sym, subst, refl, ℕ, Bool, true, false, List, [], ◌∷◌, ◌++◌}
use Rattle.std.specs.Prelude.{◌&&◌, not, nat_le, if◌then◌else◌, length, Some, None}
use Rattle.std.specs.List.{AllByRecursion, cons_option, filter_map}
use Rattle.std.proofs.lemmas.Bool.{and_parts}
use Rattle.std.proofs.lemmas.List.Elements.{filter_map-append}
use Rattle.ckc_base.specs.declared.arithmetic.Mode.{Mode}
use Rattle.ckc_base.specs.declared.arithmetic.Mode.TheVariants.{Unchecked}
use Rattle.ckc_syntax.specs.declared.tree.Name.{Name}
use Rattle.ckc_syntax.specs.declared.tree.Node.{Node-F, out-Node}
use Rattle.ckc_syntax.specs.declared.tree.Act.{out-Act}
use Rattle.ckc_types.specs.declared.types.CType.{CType}
use Rattle.ckc_typed.specs.declared.environment.Globals.{Globals}
use Rattle.ckc_typed.specs.declared.typed.Note.{Note}
use Rattle.ckc_typed.specs.declared.typed.Typed.{Typed}
use Rattle.ckc_typed.specs.Conversions.{converts}
use Rattle.ckc_typed.specs.Trees.{NotedExpr, NotedLayer, NotedStmt}
use Rattle.ckc_typed_welltyped.specs.Productions.{callless_expr, is_right}
use Rattle.ckc_typed_welltyped.specs.Statements.{IsAssignment, act_rows, WellTypedStmt}
use Rattle.ckc_typed_welltyped.proofs.ByParts.{stmt_by_parts}
use Rattle.ckc_blame_sound.specs.ckc_bounds_ranges.specs.Bundles.{is_call, is_call_node, target_behind, target_in, may_follow, names_earlier, and_rest, all_follow, is_bundle, mention}
use Rattle.ckc_blame_sound.specs.ckc_bounds_views.specs.Parts.{fresh_behind}
use Rattle.ckc_blame_sound.specs.ckc_bounds_views.specs.Views.{view}
use Rattle.ckc_blame_sound.specs.ckc_bounds_statements.specs.Paths.{Here}
use Rattle.ckc_source.specs.Code.{Function}
use Rattle.ckc_source.specs.Eval.{Store}
use Rattle.ckc_blame_sound.specs.Settings.{Setting, IsFunction}
use Rattle.ckc_blame_sound.proofs.Stepping.{ActLayer}
use Rattle.ckc_blame_sound.specs.JudgedTexts.{IsJudged, globals_in}
use Rattle.ckc_blame_steps.specs.Pointees.{AreFine, IsFine}
use Rattle.ckc_blame_steps.specs.Told.{IsTold}
use Rattle.ckc_blame_steps.proofs.Pointees.{typed_fine}
use Rattle.ckc_blame_given.specs.Stored.{IsAssignJudged, next_fresh, AreAssignsJudged}
use Rattle.ckc_blame_given.specs.Targets.{IsCoveredTarget}
use Rattle.ckc_blame_given.specs.Written.{AreOne}
use Rattle.ckc_blame_given.proofs.Bundles.{bool_by, option_by}
use Rattle.ckc_blame_given.proofs.Fitting.{same_type}
use Rattle.ckc_blame_steps.specs.Before.{AreSpoken}
use Rattle.ckc_blame_steps.specs.Granted.{IsCoveredValue, IsCoveredRight, AreCoveredSides, AreCoveredParts}
use Rattle.ckc_blame_steps.proofs.CoveredRights.{left_covered, right_covered}
use Rattle.ckc_blame_steps.proofs.FitExprs.{IsFit, AreFitSides, AreGivenSides}
use Rattle.ckc_blame_steps.proofs.SafeTargets.{is_raw_target, AreSafeSides, AreSafeParts}

-- ---- no assignment of a bundle calls a function

not_true : (b : Bool) → not b ≡ true → b ≡ false
not_true true h = absurd cc
not_true false h = refl

-- the right side of an assignment that may stand in a bundle after those to some expressions, and what follows it
follows : (es : List NotedExpr) (e f : NotedExpr) (rest : List NotedStmt)
    → and_rest (target_behind (filter_map (λ e. (mention e).target) es) (mention e).target f) (λ t. all_follow rest (filter_map (λ e. (mention e).target) es ++ t ∷ [])) ≡ true
    → (is_call f ≡ false) × (all_follow rest (filter_map (λ e. (mention e).target) (es ++ e ∷ [])) ≡ true)
follows es e f rest h =
    let r = option_by
    (λ o. and_rest (target_behind (filter_map (λ e. (mention e).target) es) o f) (λ t. all_follow rest (filter_map (λ e. (mention e).target) es ++ t ∷ [])) ≡ true
    → (is_call f ≡ false) × (all_follow rest (filter_map (λ e. (mention e).target) es ++ cons_option o []) ≡ true))
    (λ h. absurd (cc))
    (λ t h.
    let c = bool_by
    (λ c. and_rest (if c then Some t else None) (λ t. all_follow rest (filter_map (λ e. (mention e).target) es ++ t ∷ [])) ≡ true
    → (c ≡ true) × (all_follow rest (filter_map (λ e. (mention e).target) es ++ t ∷ []) ≡ true))
    (λ h. (refl, h))
    (λ h. absurd (cc))
    (may_follow (filter_map (λ e. (mention e).target) es) t && (not (is_call f) && not (names_earlier (filter_map (λ e. (mention e).target) es) f))) h in
    let calls = (and_parts (may_follow (filter_map (λ e. (mention e).target) es) t) (not (is_call f) && not (names_earlier (filter_map (λ e. (mention e).target) es) f)) c.0).1 in
    (not_true (is_call f) (and_parts (not (is_call f)) (not (names_earlier (filter_map (λ e. (mention e).target) es) f)) calls).0, c.1))
    (mention e).target h in
    (r.0, subst (λ ts. all_follow rest ts ≡ true) (sym (filter_map-append (λ e. (mention e).target) es (e ∷ []))) r.1)

value_of_right : (m : Mode) (s : Setting) (store : Store) (seen : List ℕ) (t : CType) (e : NotedExpr) (d : NotedLayer) → is_call_node d ≡ false → IsCoveredRight m s store seen t e d → IsCoveredValue m s store seen t e d
value_of_right m s store seen t e (Node-F.Call n es) none h = absurd cc
value_of_right m s store seen t e d none h = h

module _ (m : Mode) (p : Typed) (j : IsJudged p) (s : Setting) (f : Function) (function : IsFunction p s f) (store : Store) (here : Here) (told : IsTold (globals_in p) s store here.seen)
    (spoken : AreSpoken m p s here) (fine : AreFine (globals_in p) s.variables) where
  abbrev globals : Globals
  globals = globals_in p

  -- ---- an assignment

  abbrev pub Sides : NotedExpr → NotedExpr → Type 0
  Sides e g = IsCoveredTarget m s store here.seen e (out-Node Name Note e.node) × IsCoveredRight m s store here.seen e.note.ctype g (out-Node Name Note g.node)

  module _ (fresh : ℕ) (before after : NotedStmt) (one : IsAssignJudged s here.at fresh before after) (mode : Mode) where
    pub sides_covered : IsFit m globals s here.seen one.target → IsFit m globals s here.seen one.right → callless_expr one.target ≡ true → is_right one.right ≡ true → IsAssignment globals s.variables mode one.target one.right
        → (m ≡ Unchecked → is_raw_target (out-Node Name Note one.place.node) ≡ false) → Sides one.place one.value
    sides_covered left right callless given row safe =
        let type : one.place.note.ctype ≡ one.target.note.ctype = same_type s.frame one.target one.place fresh here.at one.target_judged in
        let goes : converts one.place.note.ctype one.right ≡ true = subst (λ (t : CType). converts t one.right ≡ true) (sym type) row.converted in
        let fine_here : IsFine one.place.note.ctype = subst IsFine (sym type) (typed_fine globals s one.target fine left.typed) in (
          left_covered m p j s f function store here told spoken one.target one.right one.place fresh left callless row.target one.target_judged safe,
          right_covered m p j s f function store here told spoken one.place.note.ctype one.right one.value (fresh_behind (view s.frame one.target) fresh here.at) right given goes fine_here one.right_judged,
        )

  -- ---- the assignments of a bundle

  abbrev Fits : List NotedStmt → Type 0
  Fits ss = AllByRecursion (λ (st : NotedStmt). AreFitSides m globals s here.seen (out-Act Name Note st.body)) ss

  abbrev Givens : List NotedStmt → Type 0
  Givens ss = AllByRecursion (λ (st : NotedStmt). AreGivenSides (out-Act Name Note st.body)) ss

  module _ (result : CType) (mode : Mode) (looped : Bool) where
    abbrev Rows : List NotedStmt → Type 0
    Rows ss = AllByRecursion (λ (st : NotedStmt). WellTypedStmt globals s.variables result st mode looped) ss

    one_covered : (before after : NotedStmt) (fresh : ℕ) (one : IsAssignJudged s here.at fresh before after) → AreFitSides m globals s here.seen (out-Act Name Note before.body)
        → AreGivenSides (out-Act Name Note before.body) → WellTypedStmt globals s.variables result before mode looped → is_call one.value ≡ false
        → (m ≡ Unchecked → AreSafeSides (out-Act Name Note after.body)) → AreCoveredSides m s store here.seen (out-Act Name Note after.body)
    one_covered before after fresh one fit given typed none safe =
        let fits : IsFit m globals s here.seen one.target × IsFit m globals s here.seen one.right = subst (AreFitSides m globals s here.seen) one.is fit in
        let gives : (callless_expr one.target ≡ true) × (is_right one.right ≡ true) = subst AreGivenSides one.is given in
        let row : IsAssignment globals s.variables mode one.target one.right =
        subst (λ (x : ActLayer). act_rows globals s.variables result (WellTypedStmt globals s.variables result) x mode looped) one.is ((stmt_by_parts globals s.variables result before mode looped).0 typed).row in
        let both = sides_covered fresh before after one mode fits.0 fits.1 gives.0 gives.1 row (λ is. subst AreSafeSides one.becomes (safe is)) in
        subst (AreCoveredSides m s store here.seen) (sym one.becomes)
        (both.0, value_of_right m s store here.seen one.place.note.ctype one.value (out-Node Name Note one.value.node) none both.1)

    pub parts_covered : (befores afters : List NotedStmt) (fresh : ℕ) (earlier : List NotedExpr) → AreAssignsJudged s here.at fresh befores afters → Fits befores → Givens befores → Rows befores
        → all_follow afters (filter_map (λ e. (mention e).target) earlier) ≡ true → (m ≡ Unchecked → AreSafeParts afters) → AreCoveredParts m s store here.seen afters
    unfolding AreAssignsJudged
    parts_covered [] [] fresh earlier judged fit given typed follow safe = tt
    parts_covered [] (a ∷ afters) fresh earlier judged fit given typed follow safe = absurd judged
    parts_covered (b ∷ befores) [] fresh earlier judged fit given typed follow safe = absurd judged
    parts_covered (b ∷ befores) (a ∷ afters) fresh earlier judged fit given typed follow safe =
        let one = judged.0 in
        let next = follows earlier one.place one.value afters
        (subst (λ (x : ActLayer). and_rest (target_in (filter_map (λ e. (mention e).target) earlier) x) (λ t. all_follow afters (filter_map (λ e. (mention e).target) earlier ++ t ∷ [])) ≡ true) one.becomes follow) in (
          one_covered b a fresh one fit.0 given.0 typed.0 next.0 (λ is. (safe is).0),
          parts_covered befores afters (next_fresh s here.at fresh b a one) (earlier ++ one.place ∷ []) judged.1 fit.1 given.1 typed.1 next.1 (λ is. (safe is).1),
        )

  -- two or more assignments that are judged as one have the form of a bundle
  bundle_is : (befores afters : List NotedStmt) (fresh : ℕ) → AreAssignsJudged s here.at fresh befores afters → nat_le 2 (length befores) ≡ true → AreOne afters → is_bundle afters ≡ true
  unfolding AreAssignsJudged
  bundle_is befores [] fresh judged more one = one
  bundle_is [] (a ∷ []) fresh judged more one = absurd judged
  bundle_is (b ∷ []) (a ∷ []) fresh judged more one = absurd cc
  bundle_is (b ∷ c ∷ befores) (a ∷ []) fresh judged more one = absurd judged.1
  bundle_is befores (a ∷ d ∷ afters) fresh judged more one = one

  pub bundle_covered : (result : CType) (mode : Mode) (looped : Bool) (befores afters : List NotedStmt) (fresh : ℕ) → AreAssignsJudged s here.at fresh befores afters → Fits befores → Givens befores
      → Rows result mode looped befores → nat_le 2 (length befores) ≡ true → AreOne afters → (m ≡ Unchecked → AreSafeParts afters) → AreCoveredParts m s store here.seen afters
  bundle_covered result mode looped befores afters fresh judged fit given typed more one safe =
      let form = bundle_is befores afters fresh judged more one in
      let follow = (and_parts (nat_le (length afters) 8) (all_follow afters []) (and_parts (nat_le 2 (length afters)) (nat_le (length afters) 8 && all_follow afters []) form).1).1 in
      parts_covered result mode looped befores afters fresh [] judged fit given typed follow safe
