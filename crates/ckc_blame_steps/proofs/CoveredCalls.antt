-- The arguments of a call, and what a return returns, are covered.
use Rattle.std.proofs.Common.{◌≡◌, refl, sym, subst, ℕ, true, false, List, arith}
use Rattle.std.specs.Prelude.{◌≤◌, ◌^◌, ◌-◌, ◌||◌, Bool, Option, None, Some, IfSome}
use Rattle.ckc_base.specs.declared.arithmetic.Mode.{Mode}
use Rattle.ckc_syntax.specs.declared.tree.Name.{Name}
use Rattle.ckc_syntax.specs.declared.tree.Name.TheVariants as name
use Rattle.ckc_syntax.specs.declared.tree.Init.TheVariants as init
use Rattle.ckc_syntax.specs.declared.tree.Act.{Act-F, out-Act}
use Rattle.ckc_syntax_limits.specs.Small.{Small}
use Rattle.ckc_typed.specs.declared.environment.Globals.{Globals}
use Rattle.ckc_typed.specs.declared.typed.Note.{Note}
use Rattle.ckc_typed.specs.declared.typed.Typed.{Typed}
use Rattle.ckc_typed.specs.Trees.{NotedExpr, NotedInit}
use Rattle.ckc_typed_welltyped.specs.Productions.{callless_expr, is_call, is_right}
use Rattle.ckc_blame_sound.specs.ckc_bounds_statements.specs.Paths.{Here}
use Rattle.ckc_source.specs.declared.stmt.Kept.{Kept}
use Rattle.ckc_source.specs.declared.stmt.Spot.{Spot}
use Rattle.ckc_source.specs.Code.{Expr, Function, Call, Return}
use Rattle.ckc_source.specs.Eval.{Store}
use Rattle.ckc_blame_sound.specs.Calls.{arguments_of}
use Rattle.ckc_blame_sound.specs.Safe.{AreSafe}
use Rattle.ckc_blame_sound.specs.Settings.{Setting, IsFunction}
use Rattle.ckc_blame_sound.specs.Steps.{IsStep}
use Rattle.ckc_blame_sound.specs.Words.{HaveWords}
use Rattle.ckc_blame_sound.proofs.Stepping.{ActLayer}
use Rattle.ckc_blame_sound.specs.JudgedTexts.{IsJudged, globals_in}
use Rattle.ckc_blame_steps.proofs.Small.{few_locals}
use Rattle.ckc_blame_steps.specs.Before.{Premises, AreCoveredThere, IsCoveredIf}
use Rattle.ckc_blame_steps.specs.Results.{value_of_init, value_of_act, returned_by_act, returned_by}
use Rattle.ckc_blame_steps.proofs.CoveredActs.{JudgedIf, fits, gives, return_if}
use Rattle.ckc_blame_steps.proofs.CoveredRights.{parts_covered, right_arguments}
use Rattle.ckc_blame_steps.proofs.FitExprs.{IsFit, IsFitInit, IsFitAct, IsGivenInit, IsGivenAct}
use Rattle.ckc_blame_steps.proofs.Returning as returns
use Rattle.ckc_blame_steps.proofs.Stepping.{IsCallStep, call_step}

-- ---- the value of a statement

module _ (m : Mode) (globals : Globals) (s : Setting) (seen : List ℕ) where
  some_same : {A : Type 0} {a b : A} → ◌≡◌ {A = Option A} (Some a) (Some b) → a ≡ b
  some_same e = cc

  init_fits : (i : NotedInit) (e : NotedExpr) → value_of_init i ≡ Some e → IsFitInit m globals s seen i → IsFit m globals s seen e
  init_fits (init.One g) e is h = subst (IsFit m globals s seen) (some_same is) h
  init_fits i e is h = absurd cc

  value_fits : (x : ActLayer) (e : NotedExpr) → value_of_act x ≡ Some e → IsFitAct m globals s seen x → IsFit m globals s seen e
  value_fits (Act-F.Assign g k) e is h = subst (IsFit m globals s seen) (some_same is) h.1
  value_fits (Act-F.Call g) e is h = subst (IsFit m globals s seen) (some_same is) h
  value_fits (Act-F.Local d) e is h = init_fits d.init e is h
  value_fits x e is h = absurd cc

  returned_fits : (x : ActLayer) → IsFitAct m globals s seen x → IfSome (returned_by_act x) (IsFit m globals s seen)
  returned_fits (Act-F.Return e) h = h
  returned_fits x h = tt

called_right : (a b : Bool) → a ≡ true → (a || b) ≡ true
called_right true b h = refl
called_right false b h = absurd cc

init_right : (i : NotedInit) (e : NotedExpr) → value_of_init i ≡ Some e → IsGivenInit i → is_right e ≡ true
init_right (init.One g) e is h = let same : g ≡ e = cc in subst (λ (k : NotedExpr). is_right k ≡ true) same h
init_right i e is h = absurd cc

value_right : (x : ActLayer) (e : NotedExpr) → value_of_act x ≡ Some e → IsGivenAct x → is_right e ≡ true
value_right (Act-F.Assign g k) e is h = let same : k ≡ e = cc in subst (λ (k : NotedExpr). is_right k ≡ true) same h.1
value_right (Act-F.Call g) e is h = let same : g ≡ e = cc in subst (λ (k : NotedExpr). is_right k ≡ true) same (called_right (is_call g) (callless_expr g) h)
value_right (Act-F.Local d) e is h = init_right d.init e is h
value_right x e is h = absurd cc

returned_callless : (x : ActLayer) → IsGivenAct x → IfSome (returned_by_act x) (λ (e : NotedExpr). callless_expr e ≡ true)
returned_callless (Act-F.Return e) h = h
returned_callless x h = tt

module _ (m : Mode) (p : Typed) (j : IsJudged p) (small : Small j.named.tree) (words : HaveWords p) (safe : AreSafe p) (s : Setting) (f : Function) (function : IsFunction p s f) (store : Store) (here there : Here) where
  -- ---- the arguments of a call

  module _ (sp : Spot) (target : Option Kept) (number : ℕ) (es : List Expr) (i : IsStep s here (Call sp target number es) there) (of_mode : sp.mode ≡ m) (known : Premises m p s store here i.before) where
    word : here.next ≤ 2 ^ 32 - 1
    word =
        let few_here = few_locals p s f j small function in
        let h = i.fresh (omega (arith, few_here)) in
        let less = h.1 in
        omega (arith, less)

    abbrev Called : Type 0
    Called = IsCallStep s here there sp target number es i

    called : Called
    called = call_step s here there sp target number es i word

    pub arguments_there : AreCoveredThere m p s store here (arguments_of i.before) (arguments_of i.after) here.next
    arguments_there =
        let c = called in
        let layer : ActLayer = out-Act Name Note i.before.body in
        let fit = value_fits m (globals_in p) s here.seen layer c.call c.value (fits m p j small words safe s f function store here there (Call sp target number es) i of_mode known) in
        let right = value_right layer c.call c.value (gives m p j small words safe s f function store here there (Call sp target number es) i of_mode known) in
        subst (λ (xs : List NotedExpr). AreCoveredThere m p s store here xs (arguments_of i.after) here.next) (sym c.before)
        (subst (λ (ys : List NotedExpr). AreCoveredThere m p s store here c.is.args ys here.next) (sym c.after)
        (parts_covered m p j s f function store here known.told known.spoken c.call (name.Function c.function) c.is.args c.afters here.next fit c.is.node
        (right_arguments m p j s f function store here known.told known.spoken c.call (name.Function c.function) c.is.args right c.is.node) c.is.judged))

  -- ---- what is returned

  module _ (sp : Spot) (e : Expr) (i : IsStep s here (Return sp e) there) (of_mode : sp.mode ≡ m) (known : Premises m p s store here i.before) where
    judged_both : (x y : Option NotedExpr) → returns.JudgedIf s here there sp e i x y → JudgedIf s here there (Return sp e) i x y
    judged_both None None h = tt
    judged_both (Some x) (Some y) h = h.0
    judged_both None (Some y) h = absurd h
    judged_both (Some x) None h = absurd h

    pub returned_there : IsCoveredIf m p s store here (returned_by i.before) (returned_by i.after) here.next
    returned_there =
        let r = returns.return_step s here there sp e i in
        let layer : ActLayer = out-Act Name Note i.before.body in
        let fit : IfSome r.value (IsFit m (globals_in p) s here.seen) =
        subst (λ o. IfSome o (IsFit m (globals_in p) s here.seen)) r.before (returned_fits m (globals_in p) s here.seen layer (fits m p j small words safe s f function store here there (Return sp e) i of_mode known)) in
        let given : IfSome r.value (λ (x : NotedExpr). callless_expr x ≡ true) =
        subst (λ o. IfSome o (λ (x : NotedExpr). callless_expr x ≡ true)) r.before (returned_callless layer (gives m p j small words safe s f function store here there (Return sp e) i of_mode known)) in
        subst (λ o. IsCoveredIf m p s store here o (returned_by i.after) here.next) (sym r.before)
        (subst (λ o. IsCoveredIf m p s store here r.value o here.next) (sym r.after)
        (return_if m p j small words safe s f function store here there (Return sp e) i of_mode known r.value r.made fit given r.fits (judged_both r.value r.made r.judged)))
