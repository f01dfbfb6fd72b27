-- An expression without effects stays as it is.
use Rattle.std.proofs.Common.{◌≡◌, ◌∙◌, sym, ap, refl, subst, Bool, true, false, ℕ, ◌+◌, List, [], ◌∷◌, ◌++◌, map, rules}
use Rattle.std.specs.Prelude.{Option, Some, None, if◌then◌else◌}
use Rattle.ckc_base.specs.declared.places.Pos.{Pos}
use Rattle.ckc_syntax.specs.Inside.{listed, inside_each}
use Rattle.ckc_syntax.specs.declared.tree.Name.{Name}
use Rattle.ckc_syntax.specs.declared.tree.TreeOp.{TreeOp}
use Rattle.ckc_syntax.specs.declared.tree.Limits.{Limits-F, map-Limits, ind-Limits, roll-Limits, fold-roll-Limits}
use Rattle.ckc_syntax.specs.declared.tree.Limits.TheVariants as limits
use Rattle.ckc_syntax.specs.declared.tree.Node.{Node-F, map-Node, out-Node, roll-Node, fold-roll-Node, the_lemmas}
use Rattle.ckc_syntax.specs.declared.tree.Node.TheVariants as node
use Rattle.ckc_syntax.specs.declared.tree.Expr.{Expr-F, map-Expr, ind-Expr, roll-Expr, fold-roll-Expr}
use Rattle.ckc_syntax.specs.Trees.{NamedDecl, NamedLimits, NamedNode, NamedExpr, NamedStmt}
use Rattle.ckc_plain.specs.ckc_plain_barred.specs.declared.integers.Integers.{Integers}
use Rattle.ckc_plain.specs.ckc_plain_bodies.specs.declared.pending.Pending.{Pending}
use Rattle.ckc_plain.specs.ckc_plain_barred.specs.declared.forms.Work.{Work}
use Rattle.ckc_plain.specs.ckc_plain_barred.specs.declared.forms.Work.TheVariants as work
use Rattle.ckc_plain.specs.ckc_plain_barred.specs.declared.forms.Form.{Form}
use Rattle.ckc_plain.specs.ckc_plain_barred.specs.declared.forms.Form.TheVariants as form
use Rattle.ckc_plain.specs.ckc_plain_barred.specs.Forms as forms
use Rattle.ckc_plain.specs.ckc_plain_barred.specs.Forms.{work_of}
use Rattle.ckc_plain.specs.ckc_plain_barred.specs.Effects.{Found, all_in, found_in, found_in_node, in_limits}
use Rattle.ckc_plain.specs.ckc_plain_barred.specs.Effects as effects
use Rattle.ckc_plain.specs.ckc_plain_bodies.specs.Taken.{expr_at, after, none_pending, unary_taken, binary_taken, node_taken, taken}
use Rattle.ckc_plain.specs.ckc_plain_bodies.specs.Expressions.{OfLimits, OfNode, OfExpr, rest, each_rest, if_true, if_false, choice, binary_parts, node_parts, expr_parts, limits_parts, limits_plain, node_kept, expr_kept, expr_plain, right_plain, bounds_plain}
use Rattle.ckc_plain.specs.ckc_plain_bodies.specs.Statements.{init_plain, local_plain}

abbrev Layer : Type 0
Layer = Node-F Name (Unit {0}) NamedLimits NamedNode NamedExpr

abbrev LimitsLayer : Type 0
LimitsLayer = Limits-F Name (Unit {0}) NamedLimits NamedNode NamedExpr

pub empty_parts : {X : Type 0} (xs ys : List X) → (xs ++ ys) ≡ [] → (xs ≡ []) × (ys ≡ [])
empty_parts [] ys e = (refl, e)
empty_parts (x ∷ xs) ys e = absurd cc

node_back : (n : NamedNode) → roll-Node Name (Unit {0}) (out-Node Name (Unit {0}) n) ≡ n
node_back n = search (rules, the_lemmas)

module _ (known : Integers) where
  abbrev found_inside : Layer → Node-F Name (Unit {0}) effects.OfLimits (Pos → Found) Found
  found_inside = map-Node Name (Unit {0}) NamedLimits NamedNode NamedExpr effects.OfLimits (Pos → Found) Found (in_limits known) (found_in_node known) (found_in known)

  abbrev found_limits : LimitsLayer → Limits-F Name (Unit {0}) effects.OfLimits (Pos → Found) Found
  found_limits = map-Limits Name (Unit {0}) NamedLimits NamedNode NamedExpr effects.OfLimits (Pos → Found) Found (in_limits known) (found_in_node known) (found_in known)

  -- ---- a whole that is no effect

  found_is : (e : NamedExpr) → found_in known e ≡ effects.node_parts known (found_inside (out-Node Name (Unit {0}) e.node)) e.pos
  found_is e =
      fold-roll-Expr Name (Unit {0}) effects.OfLimits (Pos → Found) Found effects.limits_parts (effects.node_parts known) effects.expr_parts (record { node = e.node; pos = e.pos; note = tt })
      ∙ ap (λ n. found_in_node known n e.pos) (sym (node_back e.node))
      ∙ ap (λ (f : Pos → Found). f e.pos)
      (fold-roll-Node Name (Unit {0}) effects.OfLimits (Pos → Found) Found effects.limits_parts (effects.node_parts known) effects.expr_parts (out-Node Name (Unit {0}) e.node))

  unary_stays : (w : Work) (d : Found) (x whole : NamedExpr) (pos : Pos) (p : Pending) → (if effects.unary_refused known w d true then pos ∷ [] else []) ≡ [] → unary_taken known w x whole p ≡ (whole, p)
  unary_stays (work.Steps by) d x whole pos p e = absurd cc
  unary_stays work.Sets d x whole pos p e = refl
  unary_stays work.IfTrue d x whole pos p e = refl
  unary_stays work.IfFalse d x whole pos p e = refl
  unary_stays work.Computes d x whole pos p e = refl

  binary_stays : (w : Work) (c d : Found) (x e whole : NamedExpr) (pos : Pos) (p : Pending) → (if effects.binary_refused known w c d true then pos ∷ [] else []) ≡ []
      → binary_taken known w x e whole p ≡ (whole, p)
  binary_stays work.Sets c d x e whole pos p none = absurd cc
  binary_stays (work.Steps by) c d x e whole pos p none = refl
  binary_stays work.IfTrue c d x e whole pos p none = refl
  binary_stays work.IfFalse c d x e whole pos p none = refl
  binary_stays work.Computes c d x e whole pos p none = refl

  layer_stays : (x : Layer) (whole : NamedExpr) (pos : Pos) (p : Pending) → (effects.node_parts known (found_inside x) pos).itself true ≡ [] → node_taken known x whole p ≡ (whole, p)
  layer_stays (Node-F.Un o x) whole pos p e = unary_stays (work_of o) (found_in known x) x whole pos p e
  layer_stays (Node-F.Bin o x y) whole pos p e = binary_stays (work_of o) (found_in known x) (found_in known y) x y whole pos p e
  layer_stays (Node-F.Call n es) whole pos p e = absurd cc
  layer_stays _ whole pos p e = refl

  taken_stays : (e : NamedExpr) (p : Pending) → (found_in known e).itself true ≡ [] → taken known (e, p) ≡ (e, p)
  taken_stays e p none =
      layer_stays (out-Node Name (Unit {0}) e.node) e e.pos p (ap (λ (d : Found). d.itself true) (sym (found_is e)) ∙ none)

  -- ---- by parts

  -- no effect is found in it where all are barred, and it is none itself, unless it is a call as a whole
  abbrev Quiet : Found → Type 0
  Quiet d = (d.inside true ≡ []) × ((if forms.is_call d.form then [] else d.itself true) ≡ [])

  abbrev LimitsHold : NamedLimits → Type 0
  LimitsHold l = in_limits known l ≡ [] → (p : Pending) → limits_plain known l p ≡ (l, p)

  abbrev NodeHolds : NamedNode → Type 0
  NodeHolds n = (pos : Pos) (p : Pending) → Quiet (found_in_node known n pos) → node_kept known n pos p ≡ (n, p)

  abbrev ExprHolds : NamedExpr → Type 0
  ExprHolds e = (p : Pending) → Quiet (found_in known e) → expr_kept known e p ≡ (e, p)

  abbrev KeptLimits : Type 0
  KeptLimits = (l : NamedLimits) × LimitsHold l

  abbrev KeptNode : Type 0
  KeptNode = (n : NamedNode) × NodeHolds n

  abbrev KeptExpr : Type 0
  KeptExpr = (e : NamedExpr) × ExprHolds e

  abbrev inner_limits : Limits-F Name (Unit {0}) KeptLimits KeptNode KeptExpr → LimitsLayer
  inner_limits = map-Limits Name (Unit {0}) KeptLimits KeptNode KeptExpr NamedLimits NamedNode NamedExpr (λ e. e.0) (λ e. e.0) (λ e. e.0)

  abbrev inner_node : Node-F Name (Unit {0}) KeptLimits KeptNode KeptExpr → Layer
  inner_node = map-Node Name (Unit {0}) KeptLimits KeptNode KeptExpr NamedLimits NamedNode NamedExpr (λ e. e.0) (λ e. e.0) (λ e. e.0)

  abbrev inner_expr : Expr-F Name (Unit {0}) KeptLimits KeptNode KeptExpr → Expr-F Name (Unit {0}) NamedLimits NamedNode NamedExpr
  inner_expr = map-Expr Name (Unit {0}) KeptLimits KeptNode KeptExpr NamedLimits NamedNode NamedExpr (λ e. e.0) (λ e. e.0) (λ e. e.0)

  abbrev limits_inside : LimitsLayer → Limits-F Name (Unit {0}) OfLimits OfNode OfExpr
  limits_inside = map-Limits Name (Unit {0}) NamedLimits NamedNode NamedExpr OfLimits OfNode OfExpr (limits_plain known) (node_kept known) (expr_kept known)

  abbrev node_inside : Layer → Node-F Name (Unit {0}) OfLimits OfNode OfExpr
  node_inside = map-Node Name (Unit {0}) NamedLimits NamedNode NamedExpr OfLimits OfNode OfExpr (limits_plain known) (node_kept known) (expr_kept known)

  quiet_of : (d : Found) → all_in d true ≡ [] → Quiet d
  quiet_of d e = let es = empty_parts (d.inside true) (d.itself true) e in (es.0, by (forms.is_call d.form) es.1)
    where
      by : (c : Bool) → d.itself true ≡ [] → (if c then [] else d.itself true) ≡ []
      by true h = refl
      by false h = h

  abbrev Made : Type 0
  Made = NamedExpr × Pending

  part : (k : KeptExpr) (p : Pending) → all_in (found_in known k.0) true ≡ [] → rest known (expr_kept known k.0) p ≡ (k.0, p)
  part k p e = ap (taken known) (k.1 p (quiet_of (found_in known k.0) e)) ∙ taken_stays k.0 p (empty_parts ((found_in known k.0).inside true) ((found_in known k.0).itself true) e).1

  limits_step : (y : Limits-F Name (Unit {0}) KeptLimits KeptNode KeptExpr) → effects.limits_parts (found_limits (inner_limits y)) ≡ [] → (p : Pending)
      → limits_parts known (limits_inside (inner_limits y)) p ≡ (roll-Limits Name (Unit {0}) (inner_limits y), p)
  limits_step (Limits-F.Count k pos) e p = ap (λ (r : Made). (limits.Count r.0 pos, r.1)) (part k p e) ∙ ap (λ l. (l, p)) (sym (limits.rolls-Count k.0 pos))
  limits_step (Limits-F.ByteCount k pos) e p = ap (λ (r : Made). (limits.ByteCount r.0 pos, r.1)) (part k p e) ∙ ap (λ l. (l, p)) (sym (limits.rolls-ByteCount k.0 pos))
  limits_step (Limits-F.Between k j pos) e p =
      let es = empty_parts (all_in (found_in known k.0) true) (all_in (found_in known j.0) true) e in
      ap (λ (r : Made). (limits.Between r.0 (rest known (expr_kept known j.0) r.1).0 pos, (rest known (expr_kept known j.0) r.1).1)) (part k p es.0)
      ∙ ap (λ (r : Made). (limits.Between k.0 r.0 pos, r.1)) (part j p es.1) ∙ ap (λ l. (l, p)) (sym (limits.rolls-Between k.0 j.0 pos))
  limits_step (Limits-F.Unknown pos) e p = ap (λ l. (l, p)) (sym (limits.rolls-Unknown pos))

  abbrev firsts : List KeptExpr → List NamedExpr
  firsts ks = map (λ (k : KeptExpr). k.0) ks

  list_stays : (ks : List KeptExpr) (p : Pending) → inside_each listed (λ (d : Found). all_in d true) (map (found_in known) (firsts ks)) ≡ [] → each_rest known (map (expr_kept known) (firsts ks)) p ≡ (firsts ks, p)
  list_stays [] p e = refl
  list_stays (k ∷ ks) p e =
      let es = empty_parts (all_in (found_in known k.0) true) (inside_each listed (λ (d : Found). all_in d true) (map (found_in known) (firsts ks))) e in
      ap (λ (r : Made). (r.0 ∷ (each_rest known (map (expr_kept known) (firsts ks)) r.1).0, (each_rest known (map (expr_kept known) (firsts ks)) r.1).1)) (part k p es.0)
      ∙ ap (λ (r : List NamedExpr × Pending). (k.0 ∷ r.0, r.1)) (list_stays ks p es.1)

  -- ---- two operands

  module _ (o : TreeOp) (k j : KeptExpr) (pos : Pos) (p : Pending) where
    abbrev found : Found
    found = effects.node_parts known (found_inside (Node-F.Bin o k.0 j.0)) pos

    abbrev As : Work → Type 0
    As w = binary_parts known w o (expr_kept known k.0) (expr_kept known j.0) pos p ≡ (roll-Node Name (Unit {0}) (Node-F.Bin o k.0 j.0), p)

    closes : ◌≡◌ {A = NamedNode × Pending} (node.Bin o k.0 j.0, p) (roll-Node Name (Unit {0}) (Node-F.Bin o k.0 j.0), p)
    closes = ap (λ n. (n, p)) (sym (node.rolls-Bin o k.0 j.0))

    both_stay : all_in (found_in known k.0) true ++ all_in (found_in known j.0) true ≡ []
        → ◌≡◌ {A = NamedNode × Pending} (node.Bin o (rest known (expr_kept known k.0) p).0 (rest known (expr_kept known j.0) (rest known (expr_kept known k.0) p).1).0, (rest known (expr_kept known j.0) (rest known (expr_kept known k.0) p).1).1)
        (node.Bin o k.0 j.0, p)
    both_stay e =
        let es = empty_parts (all_in (found_in known k.0) true) (all_in (found_in known j.0) true) e in
        ap (λ (r : Made). (node.Bin o r.0 (rest known (expr_kept known j.0) r.1).0, (rest known (expr_kept known j.0) r.1).1)) (part k p es.0)
        ∙ ap (λ (r : Made). (node.Bin o k.0 r.0, r.1)) (part j p es.1)

    choice_stays : (start : ℕ) (chosen : NamedExpr → NamedStmt → Pos → NamedStmt) → all_in (found_in known k.0) true ++ all_in (found_in known j.0) true ≡ []
        → choice o start chosen pos (rest known (expr_kept known k.0) p).0 (rest known (expr_kept known j.0) (none_pending ((rest known (expr_kept known k.0) p).1.next + 1))) (rest known (expr_kept known k.0) p).1
        ≡ (node.Bin o k.0 j.0, p)
    choice_stays start chosen e =
        let es = empty_parts (all_in (found_in known k.0) true) (all_in (found_in known j.0) true) e in
        ap (λ (r : Made). choice o start chosen pos r.0 (rest known (expr_kept known j.0) (none_pending (r.1.next + 1))) r.1) (part k p es.0)
        ∙ ap (λ (r : Made). choice o start chosen pos k.0 r p) (part j (none_pending (p.next + 1)) es.1)

    bin_by : (w : Work) → work_of o ≡ w → effects.binary_inside w (found_in known k.0) (found_in known j.0) true ≡ []
        → (if forms.is_call (forms.binary_form w) then [] else (if effects.binary_refused known w (found_in known k.0) (found_in known j.0) true then pos ∷ [] else [])) ≡ [] → As w
    bin_by work.Sets is e i = absurd cc
    bin_by (work.Steps by) is e i = both_stay e ∙ closes
    bin_by work.IfTrue is e i = choice_stays 0 if_true e ∙ closes
    bin_by work.IfFalse is e i = choice_stays 1 if_false e ∙ closes
    bin_by work.Computes is e i = both_stay e ∙ closes

    bin_stays : Quiet found → As (work_of o)
    bin_stays q = bin_by (work_of o) refl q.0 q.1

  -- ---- every node

  abbrev Stays : Layer → Pos → Pending → Type 0
  Stays x pos p = node_parts known (node_inside x) pos p ≡ (roll-Node Name (Unit {0}) x, p)

  ends : (x : Layer) (n : NamedNode) (p : Pending) → roll-Node Name (Unit {0}) x ≡ n → ◌≡◌ {A = NamedNode × Pending} (n, p) (roll-Node Name (Unit {0}) x, p)
  ends x n p is = ap (λ m. (m, p)) (sym is)

  node_step : (y : Node-F Name (Unit {0}) KeptLimits KeptNode KeptExpr) (pos : Pos) (p : Pending) → Quiet (effects.node_parts known (found_inside (inner_node y)) pos) → Stays (inner_node y) pos p
  node_step (Node-F.Number n unsigned) pos p q = ends (Node-F.Number n unsigned) _ p (node.rolls-Number n unsigned)
  node_step (Node-F.Text bytes) pos p q = ends (Node-F.Text bytes) _ p (node.rolls-Text bytes)
  node_step Node-F.Null pos p q = ends Node-F.Null _ p node.rolls-Null
  node_step (Node-F.Name n) pos p q = ends (Node-F.Name n) _ p (node.rolls-Name n)
  node_step (Node-F.Size t) pos p q = ends (Node-F.Size t) _ p (node.rolls-Size t)
  node_step (Node-F.Un o k) pos p q = ap (λ (r : Made). (node.Un o r.0, r.1)) (part k p q.0) ∙ ends (Node-F.Un o k.0) _ p (node.rolls-Un o k.0)
  node_step (Node-F.Bin o k j) pos p q = bin_stays o k j pos p q
  node_step (Node-F.Dot k n at) pos p q = ap (λ (r : Made). (node.Dot r.0 n at, r.1)) (part k p q.0) ∙ ends (Node-F.Dot k.0 n at) _ p (node.rolls-Dot k.0 n at)
  node_step (Node-F.Arrow k n at) pos p q = ap (λ (r : Made). (node.Arrow r.0 n at, r.1)) (part k p q.0) ∙ ends (Node-F.Arrow k.0 n at) _ p (node.rolls-Arrow k.0 n at)
  node_step (Node-F.Cast t k) pos p q = ap (λ (r : Made). (node.Cast t r.0, r.1)) (part k p q.0) ∙ ends (Node-F.Cast t k.0) _ p (node.rolls-Cast t k.0)
  node_step (Node-F.Calloc t k u) pos p q = ap (λ (r : Made). (node.Calloc t r.0 u, r.1)) (part k p q.0) ∙ ends (Node-F.Calloc t k.0 u) _ p (node.rolls-Calloc t k.0 u)
  node_step (Node-F.Call n ks) pos p q =
      ap (λ (r : List NamedExpr × Pending). (node.Call n r.0, r.1)) (list_stays ks p q.0) ∙ ends (Node-F.Call n (firsts ks)) _ p (node.rolls-Call n (firsts ks))
  node_step (Node-F.Index k j) pos p q =
      let es = empty_parts (all_in (found_in known k.0) true) (all_in (found_in known j.0) true) q.0 in
      ap (λ (r : Made). (node.Index r.0 (rest known (expr_kept known j.0) r.1).0, (rest known (expr_kept known j.0) r.1).1)) (part k p es.0)
      ∙ ap (λ (r : Made). (node.Index k.0 r.0, r.1)) (part j p es.1) ∙ ends (Node-F.Index k.0 j.0) _ p (node.rolls-Index k.0 j.0)
  node_step (Node-F.Pick k j i) pos p q =
      let es = empty_parts (all_in (found_in known k.0) true) (all_in (found_in known j.0) true ++ all_in (found_in known i.0) true) q.0 in
      let fs = empty_parts (all_in (found_in known j.0) true) (all_in (found_in known i.0) true) es.1 in
      ap (λ (r : Made). (node.Pick r.0 (rest known (expr_kept known j.0) r.1).0 (rest known (expr_kept known i.0) (rest known (expr_kept known j.0) r.1).1).0, (rest known (expr_kept known i.0) (rest known (expr_kept known j.0) r.1).1).1)) (part k p es.0)
      ∙ ap (λ (r : Made). (node.Pick k.0 r.0 (rest known (expr_kept known i.0) r.1).0, (rest known (expr_kept known i.0) r.1).1)) (part j p fs.0)
      ∙ ap (λ (r : Made). (node.Pick k.0 j.0 r.0, r.1)) (part i p fs.1) ∙ ends (Node-F.Pick k.0 j.0 i.0) _ p (node.rolls-Pick k.0 j.0 i.0)
  node_step (Node-F.Trusted t k None) pos p q =
      ap (λ (r : Made). (node.Trusted t r.0 None, r.1)) (part k p (empty_parts (all_in (found_in known k.0) true) [] q.0).0) ∙ ends (Node-F.Trusted t k.0 None) _ p (node.rolls-Trusted t k.0 None)
  node_step (Node-F.Trusted t k (Some l)) pos p q =
      let es = empty_parts (all_in (found_in known k.0) true) (in_limits known l.0) q.0 in
      ap (λ (r : Made). (node.Trusted t r.0 (Some (limits_plain known l.0 r.1).0), (limits_plain known l.0 r.1).1)) (part k p es.0)
      ∙ ap (λ (r : NamedLimits × Pending). (node.Trusted t k.0 (Some r.0), r.1)) (l.1 es.1 p) ∙ ends (Node-F.Trusted t k.0 (Some l.0)) _ p (node.rolls-Trusted t k.0 (Some l.0))
  node_step (Node-F.Tested t k None) pos p q =
      ap (λ (r : Made). (node.Tested t r.0 None, r.1)) (part k p (empty_parts (all_in (found_in known k.0) true) [] q.0).0) ∙ ends (Node-F.Tested t k.0 None) _ p (node.rolls-Tested t k.0 None)
  node_step (Node-F.Tested t k (Some l)) pos p q =
      let es = empty_parts (all_in (found_in known k.0) true) (in_limits known l.0) q.0 in
      ap (λ (r : Made). (node.Tested t r.0 (Some (limits_plain known l.0 r.1).0), (limits_plain known l.0 r.1).1)) (part k p es.0)
      ∙ ap (λ (r : NamedLimits × Pending). (node.Tested t k.0 (Some r.0), r.1)) (l.1 es.1 p) ∙ ends (Node-F.Tested t k.0 (Some l.0)) _ p (node.rolls-Tested t k.0 (Some l.0))

  limits_by : (x : LimitsLayer) (y : Limits-F Name (Unit {0}) KeptLimits KeptNode KeptExpr) → inner_limits y ≡ x → LimitsHold (roll-Limits Name (Unit {0}) x)
  limits_by x y is e p =
      ap (λ f. f p) (fold-roll-Limits Name (Unit {0}) OfLimits OfNode OfExpr (limits_parts known) (node_parts known) expr_parts x)
      ∙ subst (λ z. effects.limits_parts (found_limits z) ≡ [] → limits_parts known (limits_inside z) p ≡ (roll-Limits Name (Unit {0}) z, p)) is (λ f. limits_step y f p)
      (sym (fold-roll-Limits Name (Unit {0}) effects.OfLimits (Pos → Found) Found effects.limits_parts (effects.node_parts known) effects.expr_parts x) ∙ e)

  node_by : (x : Layer) (y : Node-F Name (Unit {0}) KeptLimits KeptNode KeptExpr) → inner_node y ≡ x → NodeHolds (roll-Node Name (Unit {0}) x)
  node_by x y is pos p q =
      ap (λ f. f pos p) (fold-roll-Node Name (Unit {0}) OfLimits OfNode OfExpr (limits_parts known) (node_parts known) expr_parts x)
      ∙ subst (λ z. Quiet (effects.node_parts known (found_inside z) pos) → Stays z pos p) is (node_step y pos p)
      (subst (λ (d : Pos → Found). Quiet (d pos)) (fold-roll-Node Name (Unit {0}) effects.OfLimits (Pos → Found) Found effects.limits_parts (effects.node_parts known) effects.expr_parts x) q)

  expr_by : (x : Expr-F Name (Unit {0}) NamedLimits NamedNode NamedExpr) (y : Expr-F Name (Unit {0}) KeptLimits KeptNode KeptExpr) → inner_expr y ≡ x → ExprHolds (roll-Expr Name (Unit {0}) x)
  expr_by x y is =
      subst (λ z. ExprHolds (roll-Expr Name (Unit {0}) z)) is (λ p q.
      let z = inner_expr y in
      ap (λ f. f p) (fold-roll-Expr Name (Unit {0}) OfLimits OfNode OfExpr (limits_parts known) (node_parts known) expr_parts z)
      ∙ ap (λ (r : NamedNode × Pending). (expr_at r.0 y.pos, r.1))
      (y.node.1 y.pos p (subst Quiet (fold-roll-Expr Name (Unit {0}) effects.OfLimits (Pos → Found) Found effects.limits_parts (effects.node_parts known) effects.expr_parts z) q)))

  pub kept_stays : (e : NamedExpr) → ExprHolds e
  kept_stays = ind-Expr Name (Unit {0}) LimitsHold NodeHolds ExprHolds limits_by node_by expr_by

  pub limits_stay : (l : NamedLimits) → LimitsHold l
  limits_stay = ind-Limits Name (Unit {0}) LimitsHold NodeHolds ExprHolds limits_by node_by expr_by

  -- an expression in which no effect is found where all are barred
  pub plain_stays : (e : NamedExpr) (p : Pending) → effects.in_expr known e true ≡ [] → expr_plain known e p ≡ (e, p)
  plain_stays e p none =
      ap (taken known) (kept_stays e p (quiet_of (found_in known e) none)) ∙ taken_stays e p (empty_parts ((found_in known e).inside true) ((found_in known e).itself true) none).1

  -- ---- right sides

  layer_form : (x : Layer) → forms.form_of_layer (found_inside x) ≡ forms.form_of_layer x
  layer_form (Node-F.Name n) = refl
  layer_form _ = refl

  found_form : (e : NamedExpr) → (found_in known e).form ≡ forms.form_of e
  found_form e = ap (λ (d : Found). d.form) (found_is e) ∙ layer_form (out-Node Name (Unit {0}) e.node)

  stays_call : (t c : Form) → forms.stays t c ≡ true → forms.is_call c ≡ true
  stays_call t (form.Call n) e = refl
  stays_call t _ e = absurd cc

  pub right_stays : (x e : NamedExpr) (p : Pending) → effects.in_right known x e true ≡ [] → right_plain known x e p ≡ (e, p)
  right_stays x e p none = by (forms.stays (found_in known x).form (found_in known e).form) refl none
    where
      same : forms.stays (forms.form_of x) (forms.form_of e) ≡ forms.stays (found_in known x).form (found_in known e).form
      same = ap (λ c. forms.stays c (forms.form_of e)) (sym (found_form x)) ∙ ap (forms.stays (found_in known x).form) (sym (found_form e))

      by : (s : Bool) → forms.stays (found_in known x).form (found_in known e).form ≡ s → (if s then (found_in known e).inside true else all_in (found_in known e) true) ≡ [] → right_plain known x e p ≡ (e, p)
      by true is h =
          let call : forms.is_call (found_in known e).form ≡ true = stays_call (found_in known x).form (found_in known e).form is in
          ap (λ (r : Made). if forms.stays (forms.form_of x) (forms.form_of r.0) then r else taken known r)
          (kept_stays e p (h, ap (λ c. if c then [] else (found_in known e).itself true) call))
          ∙ ap (λ b. if b then (e, p) else taken known (e, p)) (same ∙ is)
      by false is h =
          ap (λ (r : Made). if forms.stays (forms.form_of x) (forms.form_of r.0) then r else taken known r) (kept_stays e p (quiet_of (found_in known e) h))
          ∙ ap (λ b. if b then (e, p) else taken known (e, p)) (same ∙ is)
          ∙ taken_stays e p (empty_parts ((found_in known e).inside true) ((found_in known e).itself true) h).1

  -- ---- declarations

  pub bounds_stay : (l : Option NamedLimits) (p : Pending) → effects.in_bounds known l ≡ [] → bounds_plain known l p ≡ (l, p)
  bounds_stay None p none = refl
  bounds_stay (Some l) p none = ap (λ (r : NamedLimits × Pending). (Some r.0, r.1)) (limits_stay l none p)

  -- a declaration whose bounds stay
  abbrev pub local_kept : NamedDecl → Pending → NamedDecl × Pending
  local_kept d p = after (init_plain known d.init p) (λ i q. (record d { init = i }, q))

  pub local_stays : (d : NamedDecl) (p : Pending) → effects.in_bounds known d.bounds ≡ [] → local_plain known d p ≡ local_kept d p
  local_stays d p none =
      ap (λ (r : Option NamedLimits × Pending). after r (λ b q. after (init_plain known d.init q) (λ i t. (record d { bounds = b; init = i }, t)))) (bounds_stay d.bounds p none)
