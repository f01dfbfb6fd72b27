-- What an expression of code of a mode is judged as is one of which it is said what it comes to.
use Rattle.std.proofs.Common.{◌≡◌, ◌∙◌, sym, ap, subst, refl, ℕ, true, false}
use Rattle.std.specs.Prelude.{if◌then◌else◌, Option, Some, None, IfSome, Ok}
use Rattle.ckc_base.specs.declared.arithmetic.Mode.{Mode}
use Rattle.ckc_base.specs.Outcomes.{Outcome}
use Rattle.ckc_typed.specs.declared.environment.Globals.{Globals}
use Rattle.ckc_typed.specs.declared.typed.Typed.{Typed}
use Rattle.ckc_typed.specs.Trees.{NotedExpr}
use Rattle.ckc_typed.specs.Types.{is_scalar}
use Rattle.ckc_typed_welltyped.specs.Statements as rows
use Rattle.ckc_blame_sound.specs.ckc_bounds_statements.specs.Paths.{Here, expr_judged, value_judged, maybe_judged}
use Rattle.ckc_blame_sound.specs.ckc_bounds_points.specs.declared.frame.Frame.{Frame}
use Rattle.ckc_blame_sound.specs.ckc_bounds_views.specs.Parts.{View, fresh_behind}
use Rattle.ckc_blame_sound.specs.ckc_bounds_views.specs.Views.{view}
use Rattle.ckc_source.specs.Code.{Expr, Function}
use Rattle.ckc_source.specs.Eval.{Store}
use Rattle.ckc_blame_sound.specs.Settings.{Setting, IsFunction}
use Rattle.ckc_blame_sound.specs.Safe.{AreSafe}
use Rattle.ckc_blame_sound.specs.Bodies.{globals_of_text}
use Rattle.ckc_blame_sound.specs.Scopes.{HasAmong, NamesSeen, NamesOnly}
use Rattle.ckc_blame_sound.specs.Steps.{IsCondition}
use Rattle.ckc_blame_sound.specs.Words.{HaveWords}
use Rattle.ckc_blame_sound.specs.Typed.{IsTyped, IsTypedIf}
use Rattle.ckc_blame_sound.proofs.Statements.{made_of, pair_same}
use Rattle.ckc_blame_sound.proofs.Judging.{judged_typed}
use Rattle.ckc_blame_given.specs.ckc_blame_pointers.specs.Covered.{IsCovered}
use Rattle.ckc_blame_sound.specs.JudgedTexts.{globals_in}
use Rattle.ckc_blame_sound.proofs.SameViews.{same_view}
use Rattle.ckc_blame_control.proofs.Typed.{condition_typed}
use Rattle.ckc_blame_steps.specs.Checked.{IsPartOfMode, IsOfMode}
use Rattle.ckc_blame_steps.specs.Told.{IsTold, IsSpoken}
use Rattle.ckc_blame_steps.proofs.Blind.{mode_blind, scope_blind}
use Rattle.ckc_blame_steps.proofs.Checked.{condition_of_mode}
use Rattle.ckc_blame_steps.proofs.Cover.{expressions_are_covered}
use Rattle.ckc_blame_steps.proofs.FewValues.{IsFew}
use Rattle.ckc_blame_steps.proofs.Ranges.{judging_keeps}

-- ---- what is judged

pub judged_covered : (m : Mode) (globals : Globals) (s : Setting) (store : Store) (here : Here) (before after : NotedExpr) (fresh : ℕ) → IsTold globals s store here.seen → IsTyped globals s before
    → IsOfMode m before → NamesSeen here.seen before → is_scalar before.note.ctype ≡ true → IsFew (view s.frame before).values → (view s.frame before).judged fresh here.at ≡ Ok after
    → IsSpoken m s after → IsCovered m s store here.seen after
judged_covered m globals s store here before after fresh told typed of_mode scope scalar few judged spoken =
    let t = judged_typed globals s before after fresh here.at typed judged in
    let same = same_view s.frame before after fresh here.at judged s.frame in (
      expressions_are_covered m globals s store here.seen told after t.0 (judging_keeps (IsPartOfMode m) (mode_blind m) s.frame before after fresh here.at judged of_mode)
          (judging_keeps (HasAmong here.seen) (scope_blind here.seen) s.frame before after fresh here.at judged scope) spoken
          (subst IsFew (ap (λ (v : View). v.values) (sym same)) few),
      ap is_scalar t.1 ∙ scalar,
    )

ok_same : {A : Type 0} {a b : A} → ◌≡◌ {A = Outcome A} (Ok a) (Ok b) → a ≡ b
ok_same e = cc

some_same : {A : Type 0} {a b : A} → Some a ≡ Some b → a ≡ b
some_same e = cc

none_some : {A : Type 0} (a : A) → ◌≡◌ {A = Option A} None (Some a) → ⊥
none_some a e = cc

-- what a condition that is not left out is judged as
pub judged_as : (frame : Frame) (here : Here) (before : NotedExpr) (after : Option NotedExpr) (there : Here) → here.counting ≡ false → maybe_judged frame (Some before) here ≡ Ok (after, there)
    → (x : NotedExpr) × (after ≡ Some x) × ((view frame before).judged here.next here.at ≡ Ok x)
unfolding value_judged
judged_as frame here before after there counting judged =
    let m = made_of (value_judged frame before here) (λ p. Ok (Some p.0, p.1)) (after, there) judged in
    let n = made_of (expr_judged frame before here) (λ f. Ok (f, record here { next = fresh_behind (view frame before) here.next here.at })) m.0 m.1 in
    let one = pair_same (Some m.0.0) after m.0.1 there m.2 in
    (n.0, sym one.0 ∙ ap (λ (p : NotedExpr × Here). Some p.0) (sym (ok_same n.2)), sym (ap (λ b. if b then Ok before else (view frame before).judged here.next here.at) counting) ∙ n.1)

pub condition_covered : (m : Mode) (p : Typed) (s : Setting) (f : Function) (store : Store) (here one other : Here) (e : Expr) (c : IsCondition s m here e one other)
    → HaveWords p → IsFunction p s f → AreSafe s.text → IsTold (globals_in p) s store here.seen → IfSome c.before (λ x. IsFew (view s.frame x).values) → IfSome c.after (IsSpoken m s)
    → IfSome c.after (IsCovered m s store here.seen)
condition_covered m p s f store here one other e c words is safe told few spoken =
    by c.before c.after c.judged (condition_typed p s f m words is c.before c.inside) (condition_of_mode m s here one other e safe c) c.inside.typed c.scope.names few spoken
  where
    by : (before after : Option NotedExpr) → maybe_judged s.frame before here ≡ Ok (after, c.behind) → IsTypedIf (globals_in p) s before → IfSome before (IsOfMode m)
        → IfSome before (rows.IsCondition (globals_of_text s.text) s.variables m) → IfSome before (NamesOnly here.seen) → IfSome before (λ x. IsFew (view s.frame x).values)
        → IfSome after (IsSpoken m s) → IfSome after (IsCovered m s store here.seen)
    by None None judged typed of_mode row names few spoken = tt
    by None (Some y) judged typed of_mode row names few spoken = absurd (none_some y (pair_same None (Some y) here c.behind judged).0)
    by (Some x) None judged typed of_mode row names few spoken = tt
    by (Some x) (Some y) judged typed of_mode row names few spoken =
        let made = judged_as s.frame here x (Some y) c.behind c.counting judged in
        judged_covered m (globals_in p) s store here x y here.next told typed of_mode (names x refl) row.1 few (made.2 ∙ ap Ok (sym (some_same made.1))) spoken
