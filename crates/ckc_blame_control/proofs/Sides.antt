-- A condition leads to the side that its expression comes to.
use Rattle.std.proofs.Common.{◌≡◌, ℕ, List, refl, sym, ap, subst, ◌∙◌}
use Rattle.std.specs.Prelude.{◌==◌, Bool, true, false, not, if◌then◌else◌, Option, None, Some, Result, Ok, Err}
use Rattle.ckc_base.specs.declared.arithmetic.Mode.{Mode}
use Rattle.ckc_typed.specs.Trees.{NotedExpr}
use Rattle.std.specs.List.{Contains}
use Rattle.ckc_blame_sound.specs.ckc_bounds_points.specs.Flow.{State}
use Rattle.ckc_blame_sound.specs.ckc_bounds_views.specs.Parts.{View, fresh_behind}
use Rattle.ckc_blame_sound.specs.ckc_bounds_views.specs.Views.{view}
use Rattle.ckc_blame_sound.specs.ckc_bounds_statements.specs.Paths.{Here, expr_judged, value_judged, maybe_judged, side_of, maybe_side}
use Rattle.ckc_source.specs.declared.outcome.Halt.{Halt}
use Rattle.ckc_source.specs.declared.outcome.Halt.TheVariants as halt
use Rattle.ckc_source.specs.declared.outcome.Value.{Value}
use Rattle.ckc_source.specs.Code.{Expr}
use Rattle.ckc_source.specs.Eval.{Store, evaluated}
use Rattle.ckc_build_elaborate.specs.Steps.{condition}
use Rattle.ckc_blame_sound.specs.Settings.{Setting}
use Rattle.ckc_blame_sound.specs.Values.{AreTrue}
use Rattle.ckc_blame_sound.specs.Points.{HoldsAt}
use Rattle.ckc_blame_sound.specs.Steps.{IsCondition}
use Rattle.ckc_blame_sound.proofs.Kept.{point_kept}
use Rattle.ckc_blame_sound.proofs.Statements.{made_of, pair_same}
use Rattle.ckc_blame_sound.proofs.SameViews.{same_view}
use Rattle.ckc_blame_control.specs.Decided.{LeadsTo, HasSides}

module _ (s : Setting) (store : Store) (entry : List ℕ) where
  abbrev Holds : Here → Type 0
  Holds here = HoldsAt s store entry here

  -- the number of the next fresh variable says nothing of what holds
  renumbered : (here there : Here) → there.at ≡ here.at → there.seen ≡ here.seen → Holds here → Holds there
  renumbered here there at seen h = point_kept s store entry here there (record {
    known = λ r. record {
      reached = ap (λ (a : State). a.reached) at ∙ r;
      facts = λ locals words t. subst (λ (a : State). AreTrue s.frame locals a.facts) (sym at) t;
      widened = λ k c. subst (λ (a : State). Contains a.widened k) at c;
    };
    seen = λ k c. subst (λ (l : List ℕ). Contains l k) seen c;
  }) h

  by_side : (one other : Here) (v : Value) → ((side : Bool) → (v.number == 0) ≡ not side → Holds (if side then one else other)) → Holds (if v.number == 0 then other else one)
  by_side one other v h = by (v.number == 0) h
    where
      by : (zero : Bool) → ((side : Bool) → zero ≡ not side → Holds (if side then one else other)) → Holds (if zero then other else one)
      by true h = h false refl
      by false h = h true refl

  module _ (mode : Mode) (here one other : Here) (e : Expr) (c : IsCondition s mode here e one other) where
    -- the point on a side
    abbrev there : Bool → Here
    there side = record c.behind { at = maybe_side s.frame side c.after c.behind.at }

    chosen : (side : Bool) → Holds (there side) → Holds (if side then one else other)
    chosen true h = subst Holds (sym c.true_side) h
    chosen false h = subst Holds (sym c.false_side) h

    module _ (f : NotedExpr) (is : c.before ≡ Some f) where
      abbrev next : Here
      next = record here { next = fresh_behind (view s.frame f) here.next here.at }

      -- what the expression is judged to, and where the walk is then
      pub record Judges : Type 0 where
        pub expr : NotedExpr
        pub after : c.after ≡ Some expr
        pub behind : c.behind ≡ next
        pub same : view s.frame expr ≡ view s.frame f
        pub judged : (view s.frame f).judged here.next here.at ≡ Ok expr

      pub judges : Judges
      unfolding value_judged
      judges =
          let judged : maybe_judged s.frame (Some f) here ≡ Ok (c.after, c.behind) = subst (λ (o : Option NotedExpr). maybe_judged s.frame o here ≡ Ok (c.after, c.behind)) is c.judged in
          let m = made_of (value_judged s.frame f here) (λ p. Ok (Some p.0, p.1)) (c.after, c.behind) judged in
          let last = pair_same {A = Option NotedExpr} (Some m.0.0) c.after m.0.1 c.behind m.2 in
          let n = made_of (expr_judged s.frame f here) (λ g. Ok (g, next)) m.0 m.1 in
          let made = pair_same n.0 m.0.0 next m.0.1 n.2 in
          let view_is : (view s.frame f).judged here.next here.at ≡ Ok n.0 =
          subst (λ (b : Bool). (if b then Ok f else (view s.frame f).judged here.next here.at) ≡ Ok n.0) c.counting n.1 in
          record {
            expr = n.0;
            after = sym (ap (λ (x : NotedExpr). Some x) made.0 ∙ last.0);
            behind = sym (made.1 ∙ last.1);
            same = same_view s.frame f n.0 here.next here.at view_is s.frame;
            judged = view_is;
          }

      side_holds : (side : Bool) → Holds (record here { at = (view s.frame f).side side here.at }) → Holds (there side)
      unfolding side_of
      side_holds side h =
          let j : Judges = judges in
          let at : (there side).at ≡ (view s.frame f).side side here.at =
          ap (λ (o : Option NotedExpr). maybe_side s.frame side o c.behind.at) j.after ∙ ap (λ (x : Here). (view s.frame j.expr).side side x.at) j.behind
          ∙ ap (λ (v : View). v.side side here.at) j.same in
          renumbered (record here { at = (view s.frame f).side side here.at }) (there side) at (ap (λ (x : Here). x.seen) j.behind) h

      leads : (r : Result Value Halt) → HasSides s store entry here f r → LeadsTo s store entry one other r
      leads (Ok v) h = by_side one other v (λ side z. chosen side (side_holds side (h side z)))
      leads (Err (halt.Stopped why at)) h = tt
      leads (Err halt.Stuck) h = h

      pub some_leads : HasSides s store entry here f (evaluated store e) → LeadsTo s store entry one other (evaluated store e)
      some_leads h = leads (evaluated store e) h

    -- a condition that is left out is true
    pub none_leads : c.before ≡ None → Holds here → LeadsTo s store entry one other (evaluated store e)
    none_leads is h =
        let judged : maybe_judged s.frame None here ≡ Ok (c.after, c.behind) = subst (λ (o : Option NotedExpr). maybe_judged s.frame o here ≡ Ok (c.after, c.behind)) is c.judged in
        let last = pair_same {A = Option NotedExpr} None c.after here c.behind judged in
        let value : e ≡ condition s.text s.variables c.literals None = c.becomes ∙ ap (λ (o : Option NotedExpr). condition s.text s.variables c.literals o) (sym last.0) in
        let point : there true ≡ here = ap (λ (o : Option NotedExpr). record c.behind { at = maybe_side s.frame true o c.behind.at }) (sym last.0) ∙ sym last.1 in
        subst (λ x. LeadsTo s store entry one other (evaluated store x)) (sym value) (chosen true (subst Holds (sym point) h))
