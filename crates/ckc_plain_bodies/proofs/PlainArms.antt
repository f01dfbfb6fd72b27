-- What an arm of `plain_expr` gives, by what the calls in it give.
use Rattle.std.proofs.Common.{rules, ◌≡◌, refl, sym, ap, ◌∙◌}
use Rattle.std.specs.Prelude.{List, Option, None, Some}
use Rattle.ckc_base.specs.declared.places.Pos.{Pos}
use Rattle.ckc_syntax.specs.declared.tree.Name.{Name}
use Rattle.ckc_syntax.specs.declared.tree.TreeOp.{TreeOp}
use Rattle.ckc_syntax.specs.declared.tree.Node.{Node-F, out-Node, roll-Node, the_lemmas}
use Rattle.ckc_syntax.specs.declared.tree.Node.TheVariants as node
use Rattle.ckc_syntax.specs.Trees.{NamedLimits, NamedNode, NamedExpr}
use Rattle.ckc_plain_barred.specs.declared.integers.Integer.{Integer}
use Rattle.ckc_plain_barred.specs.declared.integers.Integers.{Integers}
use Rattle.ckc_plain_barred.specs.declared.forms.Work.TheVariants as work
use Rattle.ckc_plain_barred.specs.Integers.{result_of}
use Rattle.ckc_plain_barred.specs.Forms.{work_of, form_of}
use Rattle.ckc_plain_barred.specs.Effects.{integer_local}
use Rattle.ckc_plain_bodies.specs.declared.pending.Pending.{Pending}
use Rattle.ckc_plain_bodies.specs.Taken.{expr_at, after, call_taken, set_taken, step_taken, unary_taken, binary_taken, node_taken, taken}
use Rattle.ckc_plain_bodies.specs.Expressions.{node_parts, limits_plain, bounds_plain, expr_kept, expr_plain, exprs_plain}
use Rattle.ckc_plain_bodies.proofs.Kept.{Layer, kept_layer, kept_by}
use Rattle.ckc_plain_bodies.proofs.KeptNodes.{call_kept}
use Rattle.ckc_plain_bodies.proofs.Stays.{out_unary, out_binary, out_roll, roll_out}

out_call : (n : Name) (es : List NamedExpr) → out-Node Name (Unit {0}) (node.Call n es) ≡ Node-F.Call n es
out_call n es = search (rules, the_lemmas)

module _ (known : Integers) where
  -- an assignment
  pub set_plain : (e : NamedExpr) (p : Pending) (o : TreeOp) (a b : NamedExpr) (q : Pending) → work_of o ≡ work.Sets → expr_kept known e p ≡ (expr_at (node.Bin o a b) e.pos, q)
      → set_taken (integer_local known (form_of a)) a b e.pos (expr_at (node.Bin o a b) e.pos) q ≡ expr_plain known e p
  set_plain e p o a b q is m =
      ap (λ w. binary_taken known w a b (expr_at (node.Bin o a b) e.pos) q) (sym is)
      ∙ ap (λ n. node_taken known n (expr_at (node.Bin o a b) e.pos) q) (sym (out_binary o a b))
      ∙ ap (taken known) (sym m)

  -- a step after which the old value is used
  pub step_plain : (e : NamedExpr) (p : Pending) (o by : TreeOp) (a : NamedExpr) (q : Pending) → work_of o ≡ work.Steps by → expr_kept known e p ≡ (expr_at (node.Un o a) e.pos, q)
      → step_taken (integer_local known (form_of a)) by a e.pos (expr_at (node.Un o a) e.pos) q ≡ expr_plain known e p
  step_plain e p o by a q is m =
      ap (λ w. unary_taken known w a (expr_at (node.Un o a) e.pos) q) (sym is)
      ∙ ap (λ n. node_taken known n (expr_at (node.Un o a) e.pos) q) (sym (out_unary o a))
      ∙ ap (taken known) (sym m)

  -- a call
  pub call_plain : (e : NamedExpr) (p : Pending) (n : Name) (es : List NamedExpr) (t : Option Integer) (call : NamedExpr) (q : Pending) → e.node ≡ node.Call n es → t ≡ result_of known n
      → expr_kept known e p ≡ (call, q) → call_taken t call q ≡ expr_plain known e p
  call_plain e p n es t call q is type m =
      let made = exprs_plain known es p in
      ap (λ z. call_taken z call q) type
      ∙ ap (λ (z : NamedExpr × Pending). call_taken (result_of known n) z.0 z.1) (sym m ∙ call_kept known e p n es is)
      ∙ ap (λ z. node_taken known z (expr_at (node.Call n made.0) e.pos) made.1) (sym (out_call n made.0))
      ∙ ap (taken known) (sym (call_kept known e p n es is))

  -- ---- what is no operator and no call

  abbrev idle : NamedExpr × Pending → Type 0
  idle m = taken known m ≡ m

  idle_at : (m : NamedNode) (pos : Pos) (p : Pending) (x : Layer) → m ≡ roll-Node Name (Unit {0}) x → node_taken known x (expr_at m pos) p ≡ (expr_at m pos, p) → idle (expr_at m pos, p)
  idle_at m pos p x is h = ap (λ n. node_taken known n (expr_at m pos) p) (ap (out-Node Name (Unit {0})) is ∙ out_roll known x) ∙ h

  abbrev kept_with : Layer → Pos → Pending → NamedExpr × Pending
  kept_with x pos p = after (node_parts known (kept_layer known x) pos p) (λ n q. (expr_at n pos, q))

  layer_stays : (x : Layer) (pos : Pos) (p : Pending) → ((o : TreeOp) (a : NamedExpr) → ¬ (x ≡ Node-F.Un o a)) → ((o : TreeOp) (a b : NamedExpr) → ¬ (x ≡ Node-F.Bin o a b)) → ((n : Name) (es : List NamedExpr) → ¬ (x ≡ Node-F.Call n es)) → idle (kept_with x pos p)
  layer_stays (Node-F.Number n u) pos p un bin call = idle_at _ pos _ (Node-F.Number _ _) (sym (node.rolls-Number _ _)) refl
  layer_stays (Node-F.Text bytes) pos p un bin call = idle_at _ pos _ (Node-F.Text _) (sym (node.rolls-Text _)) refl
  layer_stays Node-F.Null pos p un bin call = idle_at _ pos _ Node-F.Null (sym node.rolls-Null) refl
  layer_stays (Node-F.Name n) pos p un bin call = idle_at _ pos _ (Node-F.Name _) (sym (node.rolls-Name _)) refl
  layer_stays (Node-F.Un o x) pos p un bin call = absurd (un o x refl)
  layer_stays (Node-F.Bin o x f) pos p un bin call = absurd (bin o x f refl)
  layer_stays (Node-F.Pick x f g) pos p un bin call = idle_at _ pos _ (Node-F.Pick _ _ _) (sym (node.rolls-Pick _ _ _)) refl
  layer_stays (Node-F.Index x f) pos p un bin call = idle_at _ pos _ (Node-F.Index _ _) (sym (node.rolls-Index _ _)) refl
  layer_stays (Node-F.Dot x n at) pos p un bin call = idle_at _ pos _ (Node-F.Dot _ _ _) (sym (node.rolls-Dot _ _ _)) refl
  layer_stays (Node-F.Arrow x n at) pos p un bin call = idle_at _ pos _ (Node-F.Arrow _ _ _) (sym (node.rolls-Arrow _ _ _)) refl
  layer_stays (Node-F.Cast t x) pos p un bin call = idle_at _ pos _ (Node-F.Cast _ _) (sym (node.rolls-Cast _ _)) refl
  layer_stays (Node-F.Size t) pos p un bin call = idle_at _ pos _ (Node-F.Size _) (sym (node.rolls-Size _)) refl
  layer_stays (Node-F.Call n es) pos p un bin call = absurd (call n es refl)
  layer_stays (Node-F.Calloc t x u) pos p un bin call = idle_at _ pos _ (Node-F.Calloc _ _ _) (sym (node.rolls-Calloc _ _ _)) refl
  layer_stays (Node-F.Trusted t x None) pos p un bin call =
      let q = expr_plain known x p in
      idle_at (node.Trusted t q.0 None) pos q.1 (Node-F.Trusted t q.0 None) (sym (node.rolls-Trusted t q.0 None)) refl
  layer_stays (Node-F.Trusted t x (Some l)) pos p un bin call =
      let q = expr_plain known x p in
      let k = limits_plain known l q.1 in
      idle_at (node.Trusted t q.0 (Some k.0)) pos k.1 (Node-F.Trusted t q.0 (Some k.0)) (sym (node.rolls-Trusted t q.0 (Some k.0))) refl
  layer_stays (Node-F.Tested t x None) pos p un bin call =
      let q = expr_plain known x p in
      idle_at (node.Tested t q.0 None) pos q.1 (Node-F.Tested t q.0 None) (sym (node.rolls-Tested t q.0 None)) refl
  layer_stays (Node-F.Tested t x (Some l)) pos p un bin call =
      let q = expr_plain known x p in
      let k = limits_plain known l q.1 in
      idle_at (node.Tested t q.0 (Some k.0)) pos k.1 (Node-F.Tested t q.0 (Some k.0)) (sym (node.rolls-Tested t q.0 (Some k.0))) refl

  pub other_plain : (e : NamedExpr) (p : Pending) → ((o : TreeOp) (a : NamedExpr) → ¬ (e.node ≡ node.Un o a)) → ((o : TreeOp) (a b : NamedExpr) → ¬ (e.node ≡ node.Bin o a b)) → ((n : Name) (es : List NamedExpr) → ¬ (e.node ≡ node.Call n es)) → expr_plain known e p ≡ expr_kept known e p
  other_plain e p un bin call =
      let x = out-Node Name (Unit {0}) e.node in
      let back = sym (roll_out known e.node) in
      let same = kept_by known e p x back in
      ap (taken known) same
      ∙ layer_stays x e.pos p
      (λ o a h. un o a (back ∙ ap (roll-Node Name (Unit {0})) h ∙ node.rolls-Un o a))
      (λ o a b h. bin o a b (back ∙ ap (roll-Node Name (Unit {0})) h ∙ node.rolls-Bin o a b))
      (λ n es h. call n es (back ∙ ap (roll-Node Name (Unit {0})) h ∙ node.rolls-Call n es))
      ∙ sym same

  -- bounds that may be left out
  pub bounds_made : (b : Option NamedLimits) (p : Pending) (l g k boxed : NamedLimits) (q : Pending) → b ≡ Some l → g ≡ l → limits_plain known g p ≡ (k, q) → boxed ≡ k → bounds_plain known b p ≡ (Some boxed, q)
  bounds_made b p l g k boxed q is one m box =
      ap (λ z. bounds_plain known z p) (is ∙ ap (λ (z : NamedLimits). Some z) (sym one))
      ∙ ap (λ (z : NamedLimits × Pending). after z (λ c r. (Some c, r))) m
      ∙ ap (λ (z : NamedLimits). (Some z, q)) (sym box)
