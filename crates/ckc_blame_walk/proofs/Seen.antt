-- What a step says of the locals that it names and declares.
use Rattle.std.proofs.Common.{◌≡◌, refl, subst, ℕ, length, arith}
use Rattle.std.specs.Prelude.{◌<◌, Some, IfSome, Ok}
use Rattle.std.specs.List.{Contains}
use Rattle.ckc_base.specs.declared.arithmetic.Mode.{Mode}
use Rattle.ckc_base.specs.Outcomes.{Outcome}
use Rattle.ckc_syntax.specs.declared.tree.Name.{Name}
use Rattle.ckc_syntax.specs.declared.tree.Name.TheVariants as name
use Rattle.ckc_syntax.specs.declared.tree.Act.{Act-F, out-Act}
use Rattle.ckc_typed.specs.declared.typed.Note.{Note}
use Rattle.ckc_typed.specs.declared.typed.Typed.{Typed}
use Rattle.ckc_typed.specs.Trees.{NotedDecl, NotedExpr}
use Rattle.ckc_typed_welltyped.specs.Noteless.{bare_expr}
use Rattle.ckc_blame_sound.specs.ckc_bounds_points.specs.declared.frame.Local.{Local}
use Rattle.ckc_blame_sound.specs.ckc_bounds_points.specs.Frames.{local_at}
use Rattle.ckc_blame_sound.specs.ckc_bounds_points.specs.Flow.{State}
use Rattle.ckc_blame_sound.specs.ckc_bounds_views.specs.Views.{view}
use Rattle.ckc_blame_sound.specs.ckc_bounds_statements.specs.Paths.{Here}
use Rattle.ckc_source.specs.Code.{Code, Expr, Function}
use Rattle.ckc_blame_sound.specs.Settings.{Setting, IsFunction}
use Rattle.ckc_blame_sound.specs.Steps.{IsStep, IsCondition}
use Rattle.ckc_blame_sound.specs.Scopes.{NamesSeen, NamesOnly, IsNewLocal}
use Rattle.ckc_blame_sound.specs.Words.{exprs_in}
use Rattle.ckc_blame_sound.specs.GivenValues.{IsUnnamed}
use Rattle.ckc_blame_sound.proofs.Bares.{bare_kept}
use Rattle.ckc_blame_sound.proofs.Frames.{locals_are_there}
use Rattle.ckc_blame_sound.proofs.KeptTrees.{Keeps}
use Rattle.ckc_blame_walk.proofs.Layers.{declares_itself}

-- a judged expression is the same without its notes
judged_same : (s : Setting) (e f : NotedExpr) (fresh : ℕ) (at : State) → (view s.frame e).judged fresh at ≡ Ok f → bare_expr f ≡ bare_expr e
judged_same s e f fresh at h = let P : Outcome NotedExpr → Type 0 = λ o. Keeps bare_expr (bare_expr e) o in subst P h ((bare_kept s.frame e).judged fresh at)

module _ (s : Setting) (here there : Here) (step : Code → Code) (i : IsStep s here step there) where
  pub step_names : (e : NotedExpr) → Contains (exprs_in i.before) e → NamesSeen here.seen e
  step_names e c = i.scope.names e c e refl

  pub step_keeps : (e f : NotedExpr) (fresh : ℕ) (at : State) → Contains (exprs_in i.before) e → (view s.frame e).judged fresh at ≡ Ok f → NamesSeen here.seen f
  step_keeps e f fresh at c h = i.scope.names e c f (judged_same s e f fresh at h)

  pub declared_unnamed : (d : NotedDecl) (k : ℕ) → out-Act Name Note i.before.body ≡ Act-F.Local d → d.name ≡ name.Local k
      → IsUnnamed s here.seen k × (Contains here.seen k → ⊥) × (k < length s.variables)
  declared_unnamed d k is named =
      let new : IsNewLocal s here.seen k = i.scope.new d k (declares_itself i.before d is) named in
      (new.unnamed, new.other, new.there)

module _ (s : Setting) (mode : Mode) (here one other : Here) (x : Expr) (c : IsCondition s mode here x one other) where
  test_only : (e : NotedExpr) → c.before ≡ Some e → NamesOnly here.seen e
  test_only e is = subst (λ o. IfSome o (NamesOnly here.seen)) is c.scope.names

  pub test_names : (e : NotedExpr) → c.before ≡ Some e → NamesSeen here.seen e
  test_names e is = test_only e is e refl

  pub test_keeps : (e f : NotedExpr) (fresh : ℕ) (at : State) → c.before ≡ Some e → (view s.frame e).judged fresh at ≡ Ok f → NamesSeen here.seen f
  test_keeps e f fresh at is h = test_only e is f (judged_same s e f fresh at h)

-- each variable of a function is a local of its frame
pub local_there : (p : Typed) (s : Setting) (f : Function) (k : ℕ) → IsFunction p s f → length s.variables < 1024 → k < length s.variables → (l : Local) × (local_at s.frame k ≡ Some l)
local_there p s f k is few less = locals_are_there p s f k is less few
