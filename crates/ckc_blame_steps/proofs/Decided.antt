-- A condition that is not stuck leads to a side that holds, and one of checked code is not stuck.
use Rattle.std.proofs.Common.{◌≡◌, ◌∙◌, ℕ, List, refl, sym, ap, subst}
use Rattle.std.specs.Prelude.{◌+◌, ◌<◌, ◌^◌, length, IfSome, Option, None, Some, Result, Ok, Err}
use Rattle.ckc_base.specs.declared.arithmetic.Mode.{Mode}
use Rattle.ckc_base.specs.declared.arithmetic.Mode.TheVariants.{Checked, Unchecked}
use Rattle.ckc_typed.specs.declared.typed.Typed.{Typed}
use Rattle.ckc_typed.specs.Statics.{strings_of_expr, strings_of_value}
use Rattle.ckc_typed.specs.Trees.{NotedExpr}
use Rattle.ckc_blame_sound.specs.ckc_bounds_views.specs.Views.{view}
use Rattle.ckc_blame_sound.specs.ckc_bounds_statements.specs.Paths.{Here}
use Rattle.ckc_source.specs.declared.outcome.Halt.{Halt}
use Rattle.ckc_source.specs.declared.outcome.Halt.TheVariants as halt
use Rattle.ckc_source.specs.declared.outcome.Value.{Value}
use Rattle.ckc_source.specs.Code.{Expr}
use Rattle.ckc_source.specs.Eval.{Store, evaluated}
use Rattle.ckc_source.specs.States.{State}
use Rattle.ckc_build_values.specs.Expressions.{expr_elaborated}
use Rattle.ckc_build_elaborate.specs.Shapes.{shapes_elaborated}
use Rattle.ckc_build_elaborate.specs.Steps.{condition}
use Rattle.ckc_blame_sound.specs.Settings.{Setting, AreStrings, setting_of}
use Rattle.ckc_blame_sound.specs.Points.{HoldsAt}
use Rattle.ckc_blame_sound.specs.Calls.{store_in}
use Rattle.ckc_blame_sound.specs.Sound.{Sound}
use Rattle.ckc_blame_sound.specs.Slots.{AreFilled}
use Rattle.ckc_blame_sound.specs.Steps.{IsCondition}
use Rattle.ckc_blame_sound.specs.Words.{HaveWords}
use Rattle.ckc_blame_sound.specs.Cells.{AreSound, HaveOwnNames}
use Rattle.ckc_blame_sound.specs.JudgedTexts.{IsJudged, globals_in}
use Rattle.ckc_blame_sound.proofs.Members.{have_own_names}
use Rattle.ckc_blame_sound.specs.Typed.{IsTyped, IsTypedIf}
use Rattle.ckc_blame_given.specs.ckc_blame_pointers.specs.Covered.{DeclareLocals, IsSoundStore, IsCovered}
use Rattle.ckc_blame_given.specs.ckc_blame_pointers.specs.Meant.{IsMeant}
use Rattle.ckc_blame_given.specs.ckc_blame_pointers.specs.Owed.{Comes, Runs}
use Rattle.ckc_blame_given.specs.ckc_blame_pointers.proofs.Whole.{judged_meant}
use Rattle.ckc_blame_control.specs.Decided.{LeadsTo, HasSides}
use Rattle.ckc_blame_control.specs.Known.{IsKnownPoint}
use Rattle.ckc_blame_control.proofs.Sides.{Judges, judges, some_leads, none_leads}
use Rattle.ckc_blame_control.proofs.Typed.{condition_typed, point_known}
use Rattle.ckc_blame_steps.specs.Tests.{AreTestsCovered}

module _ (p : Typed) (s : State) (h : Sound p s) (j : IsJudged p) (words : HaveWords p) (few : length h.setting.variables < 2 ^ 32)
    (declares : DeclareLocals h.setting) (tests : AreTestsCovered h.setting) where
  abbrev set : Setting
  set = h.setting

  abbrev store : Store
  store = store_in p s.blocks s.frame

  abbrev entry : List ℕ
  entry = s.frame.entry

  text_is : set.text ≡ p
  unfolding setting_of
  text_is = ap (λ (x : Setting). x.text) h.stands.function.judged

  ready : IsSoundStore set store s.next
  ready = record {
    sound = subst (λ q. AreSound q s.blocks s.next) (sym text_is) (record { apart = h.orderly.apart; bytes = h.orderly.bytes; memory = h.memory });
    shapes = ap (λ (q : Typed). shapes_elaborated q.layout) (sym text_is);
    names = subst (λ (q : Typed). HaveOwnNames q.layout) (sym text_is) (have_own_names p j);
  }

  filled : AreFilled set.text store
  filled = subst (λ q. AreFilled q store) (sym text_is) h.filled

  sides : (m : Mode) (here : Here) (f : NotedExpr) (r : Result Value Halt) → Runs m r → Comes m (IsMeant set store entry here (view set.frame f)) r → HasSides set store entry here f r
  sides m here f (Ok v) runs c = c.sides
  sides m here f (Err (halt.Stopped why at)) runs c = tt
  sides Checked here f (Err halt.Stuck) runs c = c
  sides Unchecked here f (Err halt.Stuck) runs c = absurd (runs refl)

  module _ (m : Mode) (here one other : Here) (e : Expr) (runs : Runs m (evaluated store e)) (c : IsCondition set m here e one other) (holds : HoldsAt set store entry here) where
    known : IsKnownPoint (globals_in p) set here
    known = point_known p set s.frame.function here j h.stands.function few c.fresh c.named

    typed : IsTypedIf (globals_in p) set c.before
    typed = condition_typed p set s.frame.function m words h.stands.function c.before c.inside

    some : (f : NotedExpr) → c.before ≡ Some f → LeadsTo set store entry one other (evaluated store e)
    some f is =
        let k : Judges set store entry m here one other e c f is = judges set store entry m here one other e c f is in
        let whole : IsTyped (globals_in p) set f = subst (λ o. IfSome o (IsTyped (globals_in p) set)) is typed in
        let room : here.next + length ((view set.frame f).fresh here.at) < 2 ^ 32 =
        subst (λ o. IfSome o (λ g. here.next + length ((view set.frame g).fresh here.at) < 2 ^ 32)) is (tests.room m here one other e c) in
        let covered : IsCovered m set store here.seen k.expr = subst (λ o. IfSome o (IsCovered m set store here.seen)) k.after (tests.covered m here one other e store s.next c ready filled) in
        let strings : AreStrings set c.literals (strings_of_expr k.expr) = subst (λ o. AreStrings set c.literals (strings_of_value o)) k.after c.strings in
        let value : e ≡ expr_elaborated set.text set.variables c.literals k.expr = c.becomes ∙ ap (condition set.text set.variables c.literals) k.after in
        some_leads set store entry m here one other e c f is
        (sides m here f (evaluated store e) runs
        (subst (λ x. Comes m (IsMeant set store entry here (view set.frame f)) (evaluated store x)) (sym value)
        (judged_meant m (globals_in p) set known.agrees declares store entry s.next ready here f k.expr here.next c.literals room known.fresh whole k.judged covered strings holds)))

    by : (o : Option NotedExpr) → c.before ≡ o → LeadsTo set store entry one other (evaluated store e)
    by (Some f) is = some f is
    by None is = none_leads set store entry m here one other e c is holds

    pub decided : LeadsTo set store entry one other (evaluated store e)
    decided = by c.before refl
