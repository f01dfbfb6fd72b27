-- What each form of expression becomes, by what its parts become.
use Rattle.std.proofs.Common.{◌≡◌, sym, ◌∙◌}
use Rattle.std.specs.Prelude.{ℕ, Bool, List, Option, Some, None}
use Rattle.ckc_base.specs.declared.places.Pos.{Pos}
use Rattle.ckc_syntax.specs.declared.tree.Name.{Name}
use Rattle.ckc_syntax.specs.declared.tree.TreeOp.{TreeOp}
use Rattle.ckc_syntax.specs.declared.tree.Limits.{Limits-F}
use Rattle.ckc_syntax.specs.declared.tree.Limits.TheVariants as limits
use Rattle.ckc_syntax.specs.declared.tree.Node.{Node-F}
use Rattle.ckc_syntax.specs.declared.tree.Node.TheVariants as node
use Rattle.ckc_syntax.specs.Trees.{NamedTypeTree, NamedLimits, NamedExpr}
use Rattle.ckc_plain_barred.specs.declared.integers.Integers.{Integers}
use Rattle.ckc_plain_bodies.specs.declared.pending.Pending.{Pending}
use Rattle.ckc_plain_bodies.specs.Taken.{expr_at, after}
use Rattle.ckc_plain_bodies.specs.Expressions.{bounds_plain, limits_plain, expr_kept, expr_plain, exprs_plain}
use Rattle.ckc_plain_bodies.specs.code.Parts.{binary_kept}
use Rattle.ckc_plain_bodies.proofs.Kept.{kept_by, limits_by}

module _ (known : Integers) (e : NamedExpr) (p : Pending) where
  pub number_kept : (n : ℕ) (u : Bool) → e.node ≡ node.Number n u → expr_kept known e p ≡ (expr_at (node.Number n u) e.pos, p)
  number_kept n u is = kept_by known e p (Node-F.Number n u) (is ∙ sym (node.rolls-Number n u))

  pub text_kept : (bytes : List ℕ) → e.node ≡ node.Text bytes → expr_kept known e p ≡ (expr_at (node.Text bytes) e.pos, p)
  text_kept bytes is = kept_by known e p (Node-F.Text bytes) (is ∙ sym (node.rolls-Text bytes))

  pub null_kept : e.node ≡ node.Null → expr_kept known e p ≡ (expr_at node.Null e.pos, p)
  null_kept is = kept_by known e p Node-F.Null (is ∙ sym node.rolls-Null)

  pub name_kept : (n : Name) → e.node ≡ node.Name n → expr_kept known e p ≡ (expr_at (node.Name n) e.pos, p)
  name_kept n is = kept_by known e p (Node-F.Name n) (is ∙ sym (node.rolls-Name n))

  pub unary_kept : (o : TreeOp) (x : NamedExpr) → e.node ≡ node.Un o x → expr_kept known e p ≡ after (expr_plain known x p) (λ a q. (expr_at (node.Un o a) e.pos, q))
  unary_kept o x is = kept_by known e p (Node-F.Un o x) (is ∙ sym (node.rolls-Un o x))

  pub two_kept : (o : TreeOp) (x : NamedExpr) (f : NamedExpr) → e.node ≡ node.Bin o x f → expr_kept known e p ≡ binary_kept known o x f e.pos p
  two_kept o x f is = kept_by known e p (Node-F.Bin o x f) (is ∙ sym (node.rolls-Bin o x f))

  pub pick_kept : (x : NamedExpr) (f : NamedExpr) (g : NamedExpr) → e.node ≡ node.Pick x f g → expr_kept known e p ≡ after (expr_plain known x p) (λ a q. after (expr_plain known f q) (λ b r. after (expr_plain known g r) (λ c s. (expr_at (node.Pick a b c) e.pos, s))))
  pick_kept x f g is = kept_by known e p (Node-F.Pick x f g) (is ∙ sym (node.rolls-Pick x f g))

  pub index_kept : (x : NamedExpr) (f : NamedExpr) → e.node ≡ node.Index x f → expr_kept known e p ≡ after (expr_plain known x p) (λ a q. after (expr_plain known f q) (λ b r. (expr_at (node.Index a b) e.pos, r)))
  index_kept x f is = kept_by known e p (Node-F.Index x f) (is ∙ sym (node.rolls-Index x f))

  pub dot_kept : (x : NamedExpr) (n : Name) (at : Pos) → e.node ≡ node.Dot x n at → expr_kept known e p ≡ after (expr_plain known x p) (λ a q. (expr_at (node.Dot a n at) e.pos, q))
  dot_kept x n at is = kept_by known e p (Node-F.Dot x n at) (is ∙ sym (node.rolls-Dot x n at))

  pub arrow_kept : (x : NamedExpr) (n : Name) (at : Pos) → e.node ≡ node.Arrow x n at → expr_kept known e p ≡ after (expr_plain known x p) (λ a q. (expr_at (node.Arrow a n at) e.pos, q))
  arrow_kept x n at is = kept_by known e p (Node-F.Arrow x n at) (is ∙ sym (node.rolls-Arrow x n at))

  pub cast_kept : (t : NamedTypeTree) (x : NamedExpr) → e.node ≡ node.Cast t x → expr_kept known e p ≡ after (expr_plain known x p) (λ a q. (expr_at (node.Cast t a) e.pos, q))
  cast_kept t x is = kept_by known e p (Node-F.Cast t x) (is ∙ sym (node.rolls-Cast t x))

  pub size_kept : (t : NamedTypeTree) → e.node ≡ node.Size t → expr_kept known e p ≡ (expr_at (node.Size t) e.pos, p)
  size_kept t is = kept_by known e p (Node-F.Size t) (is ∙ sym (node.rolls-Size t))

  pub call_kept : (n : Name) (es : List NamedExpr) → e.node ≡ node.Call n es → expr_kept known e p ≡ after (exprs_plain known es p) (λ all q. (expr_at (node.Call n all) e.pos, q))
  call_kept n es is = kept_by known e p (Node-F.Call n es) (is ∙ sym (node.rolls-Call n es))

  pub calloc_kept : (t : NamedTypeTree) (x : NamedExpr) (u : NamedTypeTree) → e.node ≡ node.Calloc t x u → expr_kept known e p ≡ after (expr_plain known x p) (λ a q. (expr_at (node.Calloc t a u) e.pos, q))
  calloc_kept t x u is = kept_by known e p (Node-F.Calloc t x u) (is ∙ sym (node.rolls-Calloc t x u))

  pub trusted_kept : (t : NamedTypeTree) (x : NamedExpr) (l : Option NamedLimits) → e.node ≡ node.Trusted t x l → expr_kept known e p ≡ after (expr_plain known x p) (λ a q. after (bounds_plain known l q) (λ k r. (expr_at (node.Trusted t a k) e.pos, r)))
  trusted_kept t x None is = kept_by known e p (Node-F.Trusted t x None) (is ∙ sym (node.rolls-Trusted t x None))
  trusted_kept t x (Some l) is = kept_by known e p (Node-F.Trusted t x (Some l)) (is ∙ sym (node.rolls-Trusted t x (Some l)))

  pub tested_kept : (t : NamedTypeTree) (x : NamedExpr) (l : Option NamedLimits) → e.node ≡ node.Tested t x l → expr_kept known e p ≡ after (expr_plain known x p) (λ a q. after (bounds_plain known l q) (λ k r. (expr_at (node.Tested t a k) e.pos, r)))
  tested_kept t x None is = kept_by known e p (Node-F.Tested t x None) (is ∙ sym (node.rolls-Tested t x None))
  tested_kept t x (Some l) is = kept_by known e p (Node-F.Tested t x (Some l)) (is ∙ sym (node.rolls-Tested t x (Some l)))

module _ (known : Integers) (l : NamedLimits) (p : Pending) where
  pub count_plain : (e : NamedExpr) (pos : Pos) → l ≡ limits.Count e pos → limits_plain known l p ≡ after (expr_plain known e p) (λ a q. (limits.Count a pos, q))
  count_plain e pos is = limits_by known l p (Limits-F.Count e pos) (is ∙ sym (limits.rolls-Count e pos))

  pub byte_count_plain : (e : NamedExpr) (pos : Pos) → l ≡ limits.ByteCount e pos → limits_plain known l p ≡ after (expr_plain known e p) (λ a q. (limits.ByteCount a pos, q))
  byte_count_plain e pos is = limits_by known l p (Limits-F.ByteCount e pos) (is ∙ sym (limits.rolls-ByteCount e pos))

  pub between_plain : (e f : NamedExpr) (pos : Pos) → l ≡ limits.Between e f pos → limits_plain known l p ≡ after (expr_plain known e p) (λ a q. after (expr_plain known f q) (λ b r. (limits.Between a b pos, r)))
  between_plain e f pos is = limits_by known l p (Limits-F.Between e f pos) (is ∙ sym (limits.rolls-Between e f pos))

  pub unknown_plain : (pos : Pos) → l ≡ limits.Unknown pos → limits_plain known l p ≡ (limits.Unknown pos, p)
  unknown_plain pos is = limits_by known l p (Limits-F.Unknown pos) (is ∙ sym (limits.rolls-Unknown pos))
