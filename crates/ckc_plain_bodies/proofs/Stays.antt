-- Which expressions stay as they are once their parts are plain.
use Rattle.std.proofs.Common.{rules, ◌≡◌, refl, sym, ap, ◌∙◌, subst, Bool, true, false, if◌then◌else◌}
use Rattle.std.specs.Prelude.{List, [], ◌∷◌, None, Some, Result, Ok, Err, IfOk}
use Rattle.ckc_plain_bodies.specs.code.Steps.{Steps}
use Rattle.ckc_syntax.specs.declared.tree.Name.{Name}
use Rattle.ckc_syntax.specs.declared.tree.TreeOp.{TreeOp}
use Rattle.ckc_syntax.specs.declared.tree.Node.{Node-F, out-Node, roll-Node, the_lemmas}
use Rattle.ckc_syntax.specs.declared.tree.Node.TheVariants as node
use Rattle.ckc_base.specs.declared.places.Pos.{Pos}
use Rattle.ckc_syntax.specs.Trees.{NamedNode, NamedExpr, NamedStmt}
use Rattle.ckc_plain_barred.specs.declared.integers.Integers.{Integers}
use Rattle.ckc_plain_bodies.specs.declared.pending.Pending.{Pending}
use Rattle.ckc_plain_barred.specs.declared.forms.Work.{Work}
use Rattle.ckc_plain_barred.specs.declared.forms.Work.TheVariants as work
use Rattle.ckc_plain_barred.specs.declared.forms.Form.{Form}
use Rattle.ckc_plain_barred.specs.Forms.{work_of, form_of, form_of_layer, binary_form, is_call, stays}
use Rattle.ckc_plain_bodies.specs.Taken.{expr_at, after, taken, node_taken, unary_taken, binary_taken}
use Rattle.ckc_plain_bodies.specs.Expressions.{if_none, node_parts, binary_parts, limits_plain, expr_kept, expr_plain, whole_plain}
use Rattle.ckc_plain_bodies.specs.code.Parts.{right_by}
use Rattle.ckc_plain_barred.specs.declared.forms.Form.TheVariants as form
use Rattle.ckc_plain_bodies.proofs.Kept.{Layer, kept_layer, kept_by}
use Rattle.ckc_plain_bodies.proofs.KeptNodes.{unary_kept, two_kept}

pub out_unary : (o : TreeOp) (a : NamedExpr) → out-Node Name (Unit {0}) (node.Un o a) ≡ Node-F.Un o a
out_unary o a = search (rules, the_lemmas)

pub out_binary : (o : TreeOp) (a b : NamedExpr) → out-Node Name (Unit {0}) (node.Bin o a b) ≡ Node-F.Bin o a b
out_binary o a b = search (rules, the_lemmas)

out_name : (n : Name) → out-Node Name (Unit {0}) (node.Name n) ≡ Node-F.Name n
out_name n = search (rules, the_lemmas)

module _ (known : Integers) where
  unary_idle : (w : Work) (a whole : NamedExpr) (p : Pending) → ((by : TreeOp) → ¬ (w ≡ work.Steps by)) → unary_taken known w a whole p ≡ (whole, p)
  unary_idle work.Sets a whole p differs = refl
  unary_idle (work.Steps by) a whole p differs = absurd (differs by refl)
  unary_idle work.IfTrue a whole p differs = refl
  unary_idle work.IfFalse a whole p differs = refl
  unary_idle work.Computes a whole p differs = refl

  binary_idle : (w : Work) (a b whole : NamedExpr) (p : Pending) → ¬ (w ≡ work.Sets) → binary_taken known w a b whole p ≡ (whole, p)
  binary_idle work.Sets a b whole p differs = absurd (differs refl)
  binary_idle (work.Steps by) a b whole p differs = refl
  binary_idle work.IfTrue a b whole p differs = refl
  binary_idle work.IfFalse a b whole p differs = refl
  binary_idle work.Computes a b whole p differs = refl

  abbrev idle : NamedExpr × Pending → Type 0
  idle m = taken known m ≡ m

  unary_made : (o : TreeOp) (a : NamedExpr) (pos : Pos) (p : Pending) → ((by : TreeOp) → ¬ (work_of o ≡ work.Steps by)) → idle (expr_at (node.Un o a) pos, p)
  unary_made o a pos p differs = ap (λ n. node_taken known n (expr_at (node.Un o a) pos) p) (out_unary o a) ∙ unary_idle (work_of o) a (expr_at (node.Un o a) pos) p differs

  binary_made : (o : TreeOp) (a b : NamedExpr) (pos : Pos) (p : Pending) → ¬ (work_of o ≡ work.Sets) → idle (expr_at (node.Bin o a b) pos, p)
  binary_made o a b pos p differs = ap (λ n. node_taken known n (expr_at (node.Bin o a b) pos) p) (out_binary o a b) ∙ binary_idle (work_of o) a b (expr_at (node.Bin o a b) pos) p differs

  name_made : (n : Name) (pos : Pos) (p : Pending) → idle (expr_at (node.Name n) pos, p)
  name_made n pos p = ap (λ m. node_taken known m (expr_at (node.Name n) pos) p) (out_name n)

  -- an operator that is no step
  pub unary_stays : (e : NamedExpr) (p : Pending) (o : TreeOp) (x : NamedExpr) → e.node ≡ node.Un o x → ((by : TreeOp) → ¬ (work_of o ≡ work.Steps by)) → expr_plain known e p ≡ expr_kept known e p
  unary_stays e p o x is differs =
      let m = expr_plain known x p in
      ap (taken known) (unary_kept known e p o x is) ∙ unary_made o m.0 e.pos m.1 differs ∙ sym (unary_kept known e p o x is)

  choose : (ss : List NamedStmt) (m k : NamedNode × Pending) (pos : Pos) → idle (expr_at m.0 pos, m.1) → idle (expr_at k.0 pos, k.1) → idle (after (if_none ss m k) (λ n q. (expr_at n pos, q)))
  choose [] m k pos a b = a
  choose (s ∷ ss) m k pos a b = b

  abbrev binary_with : Work → TreeOp → NamedExpr → NamedExpr → Pos → Pending → NamedExpr × Pending
  binary_with w o x f pos p = after (binary_parts known w o (expr_kept known x) (expr_kept known f) pos p) (λ n q. (expr_at n pos, q))

  not_sets : (o : TreeOp) (w : Work) → w ≡ work_of o → ¬ (w ≡ work.Sets) → ¬ (work_of o ≡ work.Sets)
  not_sets o w is differs e = differs (is ∙ e)

  binary_all : (w : Work) (o : TreeOp) (x f : NamedExpr) (pos : Pos) (p : Pending) → w ≡ work_of o → ¬ (w ≡ work.Sets) → idle (binary_with w o x f pos p)
  binary_all work.Sets o x f pos p is differs = absurd (differs refl)
  binary_all (work.Steps by) o x f pos p is differs = binary_made o _ _ pos _ (not_sets o (work.Steps by) is differs)
  binary_all work.IfTrue o x f pos p is differs = choose _ _ _ pos (binary_made o _ _ pos _ (not_sets o work.IfTrue is differs)) (name_made _ pos _)
  binary_all work.IfFalse o x f pos p is differs = choose _ _ _ pos (binary_made o _ _ pos _ (not_sets o work.IfFalse is differs)) (name_made _ pos _)
  binary_all work.Computes o x f pos p is differs = binary_made o _ _ pos _ (not_sets o work.Computes is differs)

  -- an operator that is no assignment
  pub binary_stays : (e : NamedExpr) (p : Pending) (o : TreeOp) (x f : NamedExpr) → e.node ≡ node.Bin o x f → ¬ (work_of o ≡ work.Sets) → expr_plain known e p ≡ expr_kept known e p
  binary_stays e p o x f is differs = ap (taken known) (two_kept known e p o x f is) ∙ binary_all (work_of o) o x f e.pos p refl differs ∙ sym (two_kept known e p o x f is)

  -- ---- an expression is a call once its parts are plain, if it was one

  pub out_roll : (x : Layer) → out-Node Name (Unit {0}) (roll-Node Name (Unit {0}) x) ≡ x
  out_roll x = search (rules, the_lemmas)

  pub roll_out : (n : NamedNode) → roll-Node Name (Unit {0}) (out-Node Name (Unit {0}) n) ≡ n
  roll_out n = search (rules, the_lemmas)

  form_at : (m : NamedNode) (pos : Pos) (x : Layer) → m ≡ roll-Node Name (Unit {0}) x → form_of (expr_at m pos) ≡ form_of_layer x
  form_at m pos x is = ap (λ n. form_of_layer (out-Node Name (Unit {0}) n)) is ∙ ap form_of_layer (out_roll x)

  -- what is asked of a form that tells calls apart, and not the other forms
  module _ (ask : Form → Bool) (other : ask form.Other ≡ false) (set : ask form.Set ≡ false) (named : (n : Name) → ask (form.Name n) ≡ false) where
    binary_asked : (w : Work) → ask (binary_form w) ≡ false
    binary_asked work.Sets = set
    binary_asked (work.Steps by) = other
    binary_asked work.IfTrue = other
    binary_asked work.IfFalse = other
    binary_asked work.Computes = other

    abbrev no_call : NamedExpr → Type 0
    no_call e = ask (form_of e) ≡ false

    pick_no : (ss : List NamedStmt) (m k : NamedNode × Pending) (pos : Pos) → no_call (expr_at m.0 pos) → no_call (expr_at k.0 pos) → no_call (expr_at (if_none ss m k).0 pos)
    pick_no [] m k pos a b = a
    pick_no (s ∷ ss) m k pos a b = b

    binary_no : (o : TreeOp) (a b : NamedExpr) (pos : Pos) → no_call (expr_at (node.Bin o a b) pos)
    binary_no o a b pos = ap ask (form_at (node.Bin o a b) pos (Node-F.Bin o a b) (sym (node.rolls-Bin o a b))) ∙ binary_asked (work_of o)

    name_no : (n : Name) (pos : Pos) → no_call (expr_at (node.Name n) pos)
    name_no n pos = ap ask (form_at (node.Name n) pos (Node-F.Name n) (sym (node.rolls-Name n))) ∙ named n

    binary_none : (w : Work) (o : TreeOp) (x f : NamedExpr) (pos : Pos) (p : Pending) → no_call (binary_with w o x f pos p).0
    binary_none work.Sets o x f pos p = binary_no o _ _ pos
    binary_none (work.Steps by) o x f pos p = binary_no o _ _ pos
    binary_none work.IfTrue o x f pos p = pick_no _ _ _ pos (binary_no o _ _ pos) (name_no _ pos)
    binary_none work.IfFalse o x f pos p = pick_no _ _ _ pos (binary_no o _ _ pos) (name_no _ pos)
    binary_none work.Computes o x f pos p = binary_no o _ _ pos

    abbrev kept_with : Layer → Pos → Pending → NamedExpr × Pending
    kept_with x pos p = after (node_parts known (kept_layer known x) pos p) (λ n q. (expr_at n pos, q))

    layer_asked : (x : Layer) (pos : Pos) (p : Pending) → ask (form_of (kept_with x pos p).0) ≡ ask (form_of_layer x)
    layer_asked (Node-F.Number n u) pos p = ap ask (form_at _ pos (Node-F.Number _ _) (sym (node.rolls-Number _ _)))
    layer_asked (Node-F.Text bytes) pos p = ap ask (form_at _ pos (Node-F.Text _) (sym (node.rolls-Text _)))
    layer_asked Node-F.Null pos p = ap ask (form_at _ pos Node-F.Null (sym node.rolls-Null))
    layer_asked (Node-F.Name n) pos p = ap ask (form_at _ pos (Node-F.Name _) (sym (node.rolls-Name _)))
    layer_asked (Node-F.Un o x) pos p = ap ask (form_at _ pos (Node-F.Un _ _) (sym (node.rolls-Un _ _)))
    layer_asked (Node-F.Pick x f g) pos p = ap ask (form_at _ pos (Node-F.Pick _ _ _) (sym (node.rolls-Pick _ _ _)))
    layer_asked (Node-F.Index x f) pos p = ap ask (form_at _ pos (Node-F.Index _ _) (sym (node.rolls-Index _ _)))
    layer_asked (Node-F.Dot x n at) pos p = ap ask (form_at _ pos (Node-F.Dot _ _ _) (sym (node.rolls-Dot _ _ _)))
    layer_asked (Node-F.Arrow x n at) pos p = ap ask (form_at _ pos (Node-F.Arrow _ _ _) (sym (node.rolls-Arrow _ _ _)))
    layer_asked (Node-F.Cast t x) pos p = ap ask (form_at _ pos (Node-F.Cast _ _) (sym (node.rolls-Cast _ _)))
    layer_asked (Node-F.Size t) pos p = ap ask (form_at _ pos (Node-F.Size _) (sym (node.rolls-Size _)))
    layer_asked (Node-F.Call n es) pos p = ap ask (form_at _ pos (Node-F.Call _ _) (sym (node.rolls-Call _ _)))
    layer_asked (Node-F.Calloc t x u) pos p = ap ask (form_at _ pos (Node-F.Calloc _ _ _) (sym (node.rolls-Calloc _ _ _)))
    layer_asked (Node-F.Trusted t x None) pos p = ap ask (form_at _ pos (Node-F.Trusted t (expr_plain known x p).0 None) (sym (node.rolls-Trusted t (expr_plain known x p).0 None)))
    layer_asked (Node-F.Trusted t x (Some l)) pos p =
        let q = expr_plain known x p in
        let k = (limits_plain known l q.1).0 in
        ap ask (form_at _ pos (Node-F.Trusted t q.0 (Some k)) (sym (node.rolls-Trusted t q.0 (Some k))))
    layer_asked (Node-F.Tested t x None) pos p = ap ask (form_at _ pos (Node-F.Tested t (expr_plain known x p).0 None) (sym (node.rolls-Tested t (expr_plain known x p).0 None)))
    layer_asked (Node-F.Tested t x (Some l)) pos p =
        let q = expr_plain known x p in
        let k = (limits_plain known l q.1).0 in
        ap ask (form_at _ pos (Node-F.Tested t q.0 (Some k)) (sym (node.rolls-Tested t q.0 (Some k))))
    layer_asked (Node-F.Bin o x f) pos p = binary_none (work_of o) o x f pos p ∙ sym (binary_asked (work_of o))

    asked : (e : NamedExpr) (p : Pending) → ask (form_of (expr_kept known e p).0) ≡ ask (form_of e)
    asked e p =
        let x = out-Node Name (Unit {0}) e.node in
        ap (λ m. ask (form_of m.0)) (kept_by known e p x (sym (roll_out e.node))) ∙ layer_asked x e.pos p

  pub right_is : (target : Form) (e : NamedExpr) (p : Pending) → right_by known target e p ≡ (if stays target (form_of e) then expr_kept known e p else expr_plain known e p)
  right_is target e p = ap (λ b. if b then expr_kept known e p else expr_plain known e p) (asked (stays target) refl refl (λ n. refl) e p)

  pub whole_is : (e : NamedExpr) (p : Pending) → whole_plain known e p ≡ (if is_call (form_of e) then expr_kept known e p else expr_plain known e p)
  whole_is e p = ap (λ b. if b then expr_kept known e p else expr_plain known e p) (asked is_call refl refl (λ n. refl) e p)

  pub right_else : (target : Form) (e : NamedExpr) (p : Pending) → stays target (form_of e) ≡ false → expr_plain known e p ≡ right_by known target e p
  right_else target e p b = sym (right_is target e p ∙ ap (λ z. if z then expr_kept known e p else expr_plain known e p) b)

  pub right_then : (target : Form) (e : NamedExpr) (p : Pending) → stays target (form_of e) ≡ true → expr_kept known e p ≡ right_by known target e p
  right_then target e p b = sym (right_is target e p ∙ ap (λ z. if z then expr_kept known e p else expr_plain known e p) b)

  pub whole_else : (e : NamedExpr) (p : Pending) → is_call (form_of e) ≡ false → expr_plain known e p ≡ whole_plain known e p
  whole_else e p b = sym (whole_is e p ∙ ap (λ z. if z then expr_kept known e p else expr_plain known e p) b)

-- what an answer is and leaves pending, said of something equal
pub steps_along : {A S F : Type 0} (r : Result A F) (s : S) (m k : A × S) → m ≡ k → Steps r s m → Steps r s k
steps_along r s m k e h = subst (λ z. Steps r s z) e h

pub steps_of : {A S F : Type 0} (r : Result A F) (s : S) (x : A) (m : A × S) → IfOk r (λ a. a ≡ x) → m ≡ (x, s) → Steps r s m
steps_of {A} {S} (Ok a) s x m is e = e ∙ ap (λ (z : A). (z, s)) (sym is)
steps_of (Err f) s x m is e = tt
