-- What becomes of a judged expression is what it is judged to be.
use Rattle.std.proofs.Common.{◌≡◌, inl, inr, refl, sym, subst, ℕ, List}
use Rattle.std.specs.Prelude.{◌+◌, ◌<◌, ◌^◌, length, Ok}
use Rattle.ckc_base.specs.declared.arithmetic.Mode.{Mode}
use Rattle.ckc_typed.specs.declared.environment.Globals.{Globals}
use Rattle.ckc_typed.specs.Statics.{strings_of_expr}
use Rattle.ckc_typed.specs.Trees.{NotedExpr}
use Rattle.ckc_blame_sound.specs.ckc_bounds_views.specs.Parts.{View, fresh_behind}
use Rattle.ckc_blame_sound.specs.ckc_bounds_views.specs.Views.{view}
use Rattle.ckc_blame_sound.specs.ckc_bounds_statements.specs.Paths.{Here}
use Rattle.ckc_source.specs.declared.outcome.Value.{Value}
use Rattle.ckc_source.specs.Eval.{Store, evaluated}
use Rattle.ckc_build_values.specs.Expressions.{expr_elaborated}
use Rattle.ckc_blame_sound.specs.Settings.{Setting, AreStrings}
use Rattle.ckc_blame_sound.specs.Values.{IsWordOf}
use Rattle.ckc_blame_sound.specs.Points.{HoldsAt}
use Rattle.ckc_blame_sound.specs.Typed.{IsTyped, Agrees}
use Rattle.ckc_blame_sound.proofs.Exprs as numbers
use Rattle.ckc_blame_sound.proofs.Judging.{judged_typed}
use Rattle.ckc_blame_pointers.specs.Valuations.{Valuation, Extends}
use Rattle.ckc_blame_pointers.specs.Covered.{DeclareLocals, IsSoundStore, IsCovered}
use Rattle.ckc_blame_sound.specs.Bodies.{AreFresh}
use Rattle.ckc_blame_pointers.specs.Meant.{HasPlace, IsMeant}
use Rattle.ckc_blame_pointers.specs.Owed.{Comes}
use Rattle.ckc_blame_pointers.proofs.Binary.{ExprClaims}
use Rattle.ckc_blame_pointers.proofs.Claims.{weaker}
use Rattle.ckc_blame_pointers.proofs.Hypotheses.{point_of}
use Rattle.ckc_blame_pointers.proofs.Induction.{expr_claims}
use Rattle.ckc_blame_pointers.proofs.Later.{extends_self}
use Rattle.ckc_blame_pointers.proofs.Runs.{comes_meant}
use Rattle.ckc_blame_sound.proofs.SameViews.{same_view}

module _ (m : Mode) (globals : Globals) (s : Setting) (agrees : Agrees globals s) (declares : DeclareLocals s) (store : Store) (entry : List ℕ) (next : ℕ) (ready : IsSoundStore s store next) (here : Here) where
  meant : (e : NotedExpr) → IsTyped globals s e → HoldsAt s store entry here → (k : ℕ) (p : Value) → evaluated store (expr_elaborated s.text s.variables k e) ≡ Ok p
      → ExprClaims s store entry here e p → IsMeant s store entry here (view s.frame e) p
  meant e typed h k p is c = record {
    word = subst (λ t. IsWordOf t p.number) (sym viewed) c.word;
    placed = λ first fresh before low little are fits.
        let q = c.placed first fresh before low little are fits in
        subst (λ t. HasPlace s store here (record (view s.frame e) { ctype = t }) first fresh before p) (sym viewed)
        (record {
          after = q.after;
          extends = q.extends;
          place_between = q.place_between;
          range_between = q.range_between;
          place = q.place_in q.after (itself first fresh q.after) here.at.facts (inl refl);
          range = q.range_is q.after (itself first fresh q.after);
          place_in = λ later more facts told. q.place_in later more facts (inr told);
          readable = q.readable;
          numbers = q.numbers;
        });
    sides = λ b side. point_of m globals s agrees declares store entry next ready here h e typed k p is c b side;
  }
    where
      viewed : (view s.frame e).ctype ≡ e.note.ctype
      viewed = (numbers.expr_holds globals s agrees e).viewed

      itself : (first fresh : ℕ) (v : Valuation) → Extends (first + (view s.frame e).values) (fresh_behind (view s.frame e) fresh here.at) v v
      itself first fresh v = extends_self (first + (view s.frame e).values) (fresh_behind (view s.frame e) fresh here.at) v

  pub judged_meant : (before after : NotedExpr) (fresh literals : ℕ) → fresh + length ((view s.frame before).fresh here.at) < 2 ^ 32 → AreFresh s.frame fresh → IsTyped globals s before → (view s.frame before).judged fresh here.at ≡ Ok after → IsCovered m s store here.seen after
      → AreStrings s literals (strings_of_expr after) → HoldsAt s store entry here → Comes m (IsMeant s store entry here (view s.frame before)) (evaluated store (expr_elaborated s.text s.variables literals after))
  judged_meant before after fresh literals little are typed is covered strings h =
      let same : view s.frame after ≡ view s.frame before = same_view s.frame before after fresh here.at is s.frame in
      let good : IsTyped globals s after = (judged_typed globals s before after fresh here.at typed is).0 in
      subst (λ v. Comes m (IsMeant s store entry here v) (evaluated store (expr_elaborated s.text s.variables literals after))) same
      (comes_meant m (IsMeant s store entry here (view s.frame after)) (evaluated store (expr_elaborated s.text s.variables literals after))
      (λ runs. weaker (evaluated store (expr_elaborated s.text s.variables literals after))
      (expr_claims m globals s agrees declares store entry next ready after good here covered h fresh (subst (λ (v : View). fresh + length (v.fresh here.at) < 2 ^ 32) (sym same) little) are (subst (λ (v : View). v.judged fresh here.at ≡ Ok after) (sym same) is) literals strings runs)
      (λ p there c. meant after good h literals p there c)))
