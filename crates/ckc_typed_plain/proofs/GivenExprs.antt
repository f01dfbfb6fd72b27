-- Expressions without effects hold no calls, if those with effects have the form that the grammar gives and no effect in
-- them is refused; and what is pending has that form too.
use Rattle.std.proofs.Common.{◌≡◌, ◌≢◌, ◌∙◌, sym, ap, refl, subst, Bool, true, false, ◌&&◌, ◌||◌, ℕ, ◌+◌, List, [], ◌∷◌, ◌++◌, map}
use Rattle.std.specs.Prelude.{Option, Some, None, not, is_none, if◌then◌else◌}
use Rattle.std.specs.List.{list_all}
use Rattle.ckc_base.specs.declared.places.Pos.{Pos}
use Rattle.ckc_syntax.specs.Inside.{listed, all_have, inside_each}
use Rattle.ckc_syntax.specs.declared.tree.Name.{Name}
use Rattle.ckc_syntax.specs.declared.tree.Name.TheVariants as name
use Rattle.ckc_syntax.specs.declared.tree.TreeOp.{TreeOp}
use Rattle.ckc_syntax.specs.declared.tree.TreeOp.TheVariants as op
use Rattle.ckc_syntax.specs.declared.tree.Limits.{Limits-F, map-Limits, ind-Limits, roll-Limits, fold-roll-Limits}
use Rattle.ckc_syntax.specs.declared.tree.Limits.TheVariants as limits
use Rattle.ckc_syntax.specs.declared.tree.Node.{Node-F, map-Node, out-Node, roll-Node, fold-roll-Node}
use Rattle.ckc_syntax.specs.declared.tree.Node.TheVariants as node
use Rattle.ckc_syntax.specs.declared.tree.Expr.{Expr-F, map-Expr, ind-Expr, roll-Expr, fold-roll-Expr}
use Rattle.ckc_syntax.specs.declared.tree.Act.{Act-F}
use Rattle.ckc_syntax.specs.declared.tree.Act.TheVariants as act
use Rattle.ckc_syntax.specs.Trees.{NamedLimits, NamedNode, NamedExpr, NamedStmt}
use Rattle.ckc_plain.specs.ckc_plain_barred.specs.declared.integers.Integer.{Integer}
use Rattle.ckc_plain.specs.ckc_plain_barred.specs.declared.integers.Integer.TheVariants as integer
use Rattle.ckc_plain.specs.ckc_plain_barred.specs.declared.integers.Integers.{Integers}
use Rattle.ckc_plain.specs.ckc_plain_bodies.specs.declared.pending.Pending.{Pending}
use Rattle.ckc_plain.specs.ckc_plain_barred.specs.declared.forms.Work.{Work}
use Rattle.ckc_plain.specs.ckc_plain_barred.specs.declared.forms.Work.TheVariants as work
use Rattle.ckc_plain.specs.ckc_plain_barred.specs.declared.forms.Form.{Form as Kind}
use Rattle.ckc_plain.specs.ckc_plain_barred.specs.declared.forms.Form.TheVariants as form
use Rattle.ckc_plain.specs.ckc_plain_barred.specs.Integers.{result_of}
use Rattle.ckc_plain.specs.ckc_plain_barred.specs.Forms as forms
use Rattle.ckc_plain.specs.ckc_plain_barred.specs.Forms.{work_of, form_of_layer, form_of, is_name, is_built_in, stays}
use Rattle.ckc_plain.specs.ckc_plain_barred.specs.Effects.{Found, all_in, whole_in, right_in, integer_local, found_in, found_in_node, in_limits}
use Rattle.ckc_plain.specs.ckc_plain_barred.specs.Effects as effects
use Rattle.ckc_plain.specs.ckc_plain_bodies.specs.Taken.{expr_at, stmt_at, local_at, number_at, block_at, declare_at, none_pending, call_taken, set_taken, step_taken, binary_taken, unary_taken, node_taken, taken}
use Rattle.ckc_plain.specs.ckc_plain_bodies.specs.Expressions.{OfLimits, OfNode, OfExpr, rest, each_rest, if_true, if_false, if_none, choice, binary_parts, node_parts, expr_parts, limits_parts, limits_plain, node_kept, expr_kept, expr_plain, whole_plain, right_plain}
use Rattle.ckc_typed_welltyped.specs.Productions.{limits_callless, node_callless, expr_callless, callless_limits, callless_expr, Form, no_call, limits_formed, is_set, node_formed, expr_formed, limits_form, expr_form, Given, given_act, given_stmt}
use Rattle.ckc_typed_plain.proofs.GivenLevels.{Layer, callless_node, form_of_node, callless_inside, forms_inside, given_inside, Callless, IsCall, IsRight, is_good, AllGood, both, parts_of, empty_parts, without, layer_of, called, given_at, good_at, local_without, number_without, right_callless, right_call, assign_good, declare_good, one_more, is_not, neither, good_of, block_good, Made, weaker, set_of, not_set, not_told, split_or}

module _ (known : Integers) where
  -- What is said of an expression: what the grammar says of it, the effects found in it, and what it becomes.
  pub record Holds (f : Form) (d : Found) (k : OfExpr) : Type 0 where
    pub inner : (b : Bool) → f.inner ≡ true → all_in d b ≡ [] → (p : Pending) → AllGood p.stmts → Made Callless (taken known (k p))
    pub calls : (b : Bool) → forms.is_call d.form ≡ true → f.right ≡ true → d.inside b ≡ [] → (p : Pending) → AllGood p.stmts → Made IsCall (k p)
    pub allocates : (b : Bool) → forms.is_calloc d.form ≡ true → f.right ≡ true → all_in d b ≡ [] → (p : Pending) → AllGood p.stmts → Made IsCall (taken known (k p))
    pub same_call : (p : Pending) → forms.is_call (form_of (k p).0) ≡ forms.is_call d.form
    pub same_built_in : (p : Pending) (t : Kind) → is_name t ≡ false → stays t d.form ≡ true → stays t (form_of (k p).0) ≡ true
    pub name_stays : (p : Pending) (n : Name) → d.form ≡ form.Name n → form_of (taken known (k p)).0 ≡ form.Name n
    pub no_call_inner : forms.is_call d.form ≡ false → forms.is_calloc d.form ≡ false → f.right ≡ true → f.inner ≡ true
    pub call_inner : forms.is_call d.form ≡ true → f.right ≡ true → f.inner ≡ true
    pub call_kind : f.call ≡ true → (forms.is_call d.form || forms.is_calloc d.form) ≡ true
    pub call_right : f.call ≡ true → f.right ≡ true

  -- ---- forms that are no call, no `calloc` and no name

  record IsOther (c : Kind) : Type 0 where
    call : forms.is_call c ≡ false
    calloc : forms.is_calloc c ≡ false
    stay : (t : Kind) → stays t c ≡ false
    unnamed : (n : Name) → c ≢ form.Name n

  other_is : IsOther form.Other
  other_is = record { call = refl; calloc = refl; stay = λ t. refl; unnamed = λ n e. cc }

  set_is : IsOther form.Set
  set_is = record { call = refl; calloc = refl; stay = λ t. refl; unnamed = λ n e. cc }

  step_is : (by : TreeOp) → IsOther (form.Step by)
  step_is by = record { call = refl; calloc = refl; stay = λ t. refl; unnamed = λ n e. cc }

  other_holds : (i : Bool) (d : Found) (k : OfExpr) → IsOther d.form → ((p : Pending) → forms.is_call (form_of (k p).0) ≡ false)
      → ((b : Bool) → i ≡ true → all_in d b ≡ [] → (p : Pending) → AllGood p.stmts → Made Callless (taken known (k p))) → Holds (no_call i) d k
  other_holds i d k o none inner = record {
    inner = inner;
    calls = λ b c f e p g. let wrong : false ≡ true = sym o.call ∙ c in absurd (cc);
    allocates = λ b c f e p g. let wrong : false ≡ true = sym o.calloc ∙ c in absurd (cc);
    same_call = λ p. none p ∙ sym o.call;
    same_built_in = λ p t n s. let wrong : false ≡ true = sym (o.stay t) ∙ s in absurd (cc);
    name_stays = λ p n e. absurd (o.unnamed n e);
    no_call_inner = λ c a r. r;
    call_inner = λ c r. r;
    call_kind = λ c. absurd (cc);
    call_right = λ c. absurd (cc);
  }

  -- an expression that is no effect stays
  record Plainly (r : NamedExpr × Pending) : Type 0 where
    shape : form_of r.0 ≡ form.Other
    same : taken known r ≡ r

  plainly : (x : Layer) (n : NamedNode) (pos : Pos) (q : Pending) → roll-Node Name (Unit {0}) x ≡ n → form_of_layer x ≡ form.Other
      → node_taken known x (expr_at n pos) q ≡ (expr_at n pos, q) → Plainly (expr_at n pos, q)
  plainly x n pos q is other same = record {
    shape = ap form_of_layer (layer_of x n is) ∙ other;
    same = ap (λ z. node_taken known z (expr_at n pos) q) (layer_of x n is) ∙ same;
  }

  ordinary : (i : Bool) (d : Found) (k : OfExpr) → d.form ≡ form.Other → ((p : Pending) → Plainly (k p))
      → ((b : Bool) → i ≡ true → d.inside b ≡ [] → (p : Pending) → AllGood p.stmts → Made Callless (k p)) → Holds (no_call i) d k
  ordinary i d k is plain inner =
      other_holds i d k (subst IsOther (sym is) other_is) (λ p. ap forms.is_call (plain p).shape)
      (λ b f e p g. subst (Made Callless) (sym (plain p).same) (inner b f (empty_parts (d.inside b) (d.itself b) e).0 p g))

  -- ---- right sides, and calls as a whole

  stays_call : (t c : Kind) → stays t c ≡ true → forms.is_call c ≡ true
  stays_call t (form.Call n) e = refl
  stays_call t _ e = absurd cc

  name_stay : (t c : Kind) → is_name t ≡ true → forms.is_call c ≡ true → stays t c ≡ true
  name_stay t (form.Call n) e c = ap (λ b. b || is_built_in n) e
  name_stay t _ e c = absurd cc

  second_or : (a b c : Bool) → a ≡ false → (a || b) ≡ true → (c || b) ≡ true
  second_or true b c e f = absurd cc
  second_or false b true e f = refl
  second_or false b false e f = f

  built_stay : (t u c : Kind) → is_name t ≡ false → stays t c ≡ true → stays u c ≡ true
  built_stay t u (form.Call n) un s = second_or (is_name t) (is_built_in n) (is_name u) un s
  built_stay t u _ un s = absurd cc

  module _ (f : Form) (d : Found) (k : OfExpr) (h : Holds f d k) where
    -- without its effect, or as a `calloc`
    apart : (b : Bool) → f.right ≡ true → all_in d b ≡ [] → (p : Pending) → AllGood p.stmts → Made IsRight (taken known (k p))
    apart b right e p g = by (forms.is_call d.form) refl (forms.is_calloc d.form) refl
      where
        by : (c : Bool) → forms.is_call d.form ≡ c → (a : Bool) → forms.is_calloc d.form ≡ a → Made IsRight (taken known (k p))
        by true is a al = weaker Callless IsRight (taken known (k p)) (right_callless (taken known (k p)).0) (h.inner b (h.call_inner is right) e p g)
        by false is true al = weaker IsCall IsRight (taken known (k p)) (right_call (taken known (k p)).0) (h.allocates b al right e p g)
        by false is false al = weaker Callless IsRight (taken known (k p)) (right_callless (taken known (k p)).0) (h.inner b (h.no_call_inner is al right) e p g)

    as_call : (b : Bool) → forms.is_call d.form ≡ true → f.right ≡ true → d.inside b ≡ [] → (p : Pending) → AllGood p.stmts → Made IsRight (k p)
    as_call b is right e p g = weaker IsCall IsRight (k p) (right_call (k p).0) (h.calls b is right e p g)

    pub right_held : (t u : Kind) (b : Bool) → (is_name t ≡ true → is_name u ≡ true) → f.right ≡ true → (if stays t d.form then d.inside b else all_in d b) ≡ [] → (p : Pending) → AllGood p.stmts
        → Made IsRight (if stays u (form_of (k p).0) then k p else taken known (k p))
    right_held t u b named right e p g = by (stays t d.form) refl e (stays u (form_of (k p).0)) refl
      where
        kept : stays t d.form ≡ true → stays u (form_of (k p).0) ≡ true
        kept s = at (is_name t) refl
          where
            at : (n : Bool) → is_name t ≡ n → stays u (form_of (k p).0) ≡ true
            at true is = name_stay u (form_of (k p).0) (named is) (h.same_call p ∙ stays_call t d.form s)
            at false is = built_stay t u (form_of (k p).0) is (h.same_built_in p t is s)

        by : (s : Bool) → stays t d.form ≡ s → (if s then d.inside b else all_in d b) ≡ [] → (v : Bool) → stays u (form_of (k p).0) ≡ v → Made IsRight (if v then k p else taken known (k p))
        by true is none true at = as_call b (stays_call t d.form is) right none p g
        by true is none false at = let wrong : false ≡ true = sym at ∙ kept is in absurd (cc)
        by false is none true at = as_call b (sym (h.same_call p) ∙ stays_call u (form_of (k p).0) at) right (empty_parts (d.inside b) (d.itself b) none).0 p g
        by false is none false at = apart b right none p g

    pub whole_held : (b : Bool) → f.right ≡ true → whole_in d b ≡ [] → (p : Pending) → AllGood p.stmts → Made IsRight (if forms.is_call (form_of (k p).0) then k p else taken known (k p))
    whole_held b right e p g =
        subst (λ c. Made IsRight (if c then k p else taken known (k p))) (sym (h.same_call p)) (by (forms.is_call d.form) refl e)
      where
        by : (c : Bool) → forms.is_call d.form ≡ c → (if c then d.inside b else all_in d b) ≡ [] → Made IsRight (if c then k p else taken known (k p))
        by true is none = as_call b is right none p g
        by false is none = apart b right none p g

    pub call_held : (b : Bool) → f.call ≡ true → whole_in d b ≡ [] → (p : Pending) → AllGood p.stmts → Made IsCall (if forms.is_call (form_of (k p).0) then k p else taken known (k p))
    call_held b call e p g =
        subst (λ c. Made IsCall (if c then k p else taken known (k p))) (sym (h.same_call p)) (by (forms.is_call d.form) refl e (h.call_kind call))
      where
        by : (c : Bool) → forms.is_call d.form ≡ c → (if c then d.inside b else all_in d b) ≡ [] → (c || forms.is_calloc d.form) ≡ true → Made IsCall (if c then k p else taken known (k p))
        by true is none kind = h.calls b is (h.call_right call) none p g
        by false is none kind = h.allocates b kind (h.call_right call) none p g

  -- ---- effects that are taken out

  local_form : (k : ℕ) (pos : Pos) → form_of (local_at k pos) ≡ form.Name (name.Local k)
  local_form k pos = ap form_of_layer (layer_of (Node-F.Name (name.Local k)) _ (node.rolls-Name (name.Local k)))

  some_local : (c : Kind) → is_none (integer_local known c) ≡ false → (n : Name) × (c ≡ form.Name n)
  some_local (form.Name n) e = (n, refl)
  some_local _ e = absurd cc

  call_made : (t : Option Integer) (e : NamedExpr) (p : Pending) → is_none t ≡ false → IsCall e → AllGood p.stmts → Made Callless (call_taken t e p)
  call_made None e p some h g = absurd cc
  call_made (Some t) e p some h g = record { is = local_without p.next e.pos; pending = one_more p.stmts _ g (declare_good t p.next e e.pos (right_call e h)) }

  set_made : (t : Option Integer) (x e : NamedExpr) (pos : Pos) (whole : NamedExpr) (p : Pending) → is_none t ≡ false → Callless x → IsRight e → AllGood p.stmts → Made Callless (set_taken t x e pos whole p)
  set_made None x e pos whole p some h i g = absurd cc
  set_made (Some t) x e pos whole p some h i g = record { is = h; pending = one_more p.stmts _ g (assign_good x e pos h i) }

  step_made : (t : Option Integer) (by : TreeOp) (x : NamedExpr) (pos : Pos) (whole : NamedExpr) (p : Pending) → is_none t ≡ false → Callless x → AllGood p.stmts → Made Callless (step_taken t by x pos whole p)
  step_made None by x pos whole p some h g = absurd cc
  step_made (Some t) by x pos whole p some h g = record {
    is = local_without p.next pos;
    pending = one_more (p.stmts ++ declare_at t p.next x pos ∷ []) _ (one_more p.stmts _ g (declare_good t p.next x pos (right_callless x h)))
        (assign_good x _ pos h (right_callless (expr_at (node.Bin by x (number_at 1 pos)) pos)
        (without (Node-F.Bin by x (number_at 1 pos)) _ pos (node.rolls-Bin by x (number_at 1 pos)) (both _ _ h (number_without 1 pos)))));
  }

  -- ---- by parts

  pub record MadeLimits (r : NamedLimits × Pending) : Type 0 where
    pub is : callless_limits r.0 ≡ true
    pub pending : AllGood r.1.stmts

  abbrev LimitsHold : NamedLimits → Type 0
  LimitsHold l = limits_form l ≡ true → in_limits known l ≡ [] → (p : Pending) → AllGood p.stmts → MadeLimits (limits_plain known l p)

  abbrev at_place : NamedNode × Pending → Pos → NamedExpr × Pending
  at_place r pos = (expr_at r.0 pos, r.1)

  abbrev NodeHolds : NamedNode → Type 0
  NodeHolds n = (pos : Pos) → Holds (form_of_node n) (found_in_node known n pos) (λ p. at_place (node_kept known n pos p) pos)

  abbrev ExprHolds : NamedExpr → Type 0
  ExprHolds e = Holds (expr_form e) (found_in known e) (expr_kept known e)

  abbrev KeptLimits : Type 0
  KeptLimits = (l : NamedLimits) × LimitsHold l

  abbrev KeptNode : Type 0
  KeptNode = (n : NamedNode) × NodeHolds n

  abbrev KeptExpr : Type 0
  KeptExpr = (e : NamedExpr) × ExprHolds e

  abbrev LimitsLayer : Type 0
  LimitsLayer = Limits-F Name (Unit {0}) NamedLimits NamedNode NamedExpr

  abbrev inner_limits : Limits-F Name (Unit {0}) KeptLimits KeptNode KeptExpr → LimitsLayer
  inner_limits = map-Limits Name (Unit {0}) KeptLimits KeptNode KeptExpr NamedLimits NamedNode NamedExpr (λ e. e.0) (λ e. e.0) (λ e. e.0)

  abbrev inner_node : Node-F Name (Unit {0}) KeptLimits KeptNode KeptExpr → Layer
  inner_node = map-Node Name (Unit {0}) KeptLimits KeptNode KeptExpr NamedLimits NamedNode NamedExpr (λ e. e.0) (λ e. e.0) (λ e. e.0)

  abbrev inner_expr : Expr-F Name (Unit {0}) KeptLimits KeptNode KeptExpr → Expr-F Name (Unit {0}) NamedLimits NamedNode NamedExpr
  inner_expr = map-Expr Name (Unit {0}) KeptLimits KeptNode KeptExpr NamedLimits NamedNode NamedExpr (λ e. e.0) (λ e. e.0) (λ e. e.0)

  abbrev limits_inside : LimitsLayer → Limits-F Name (Unit {0}) OfLimits OfNode OfExpr
  limits_inside = map-Limits Name (Unit {0}) NamedLimits NamedNode NamedExpr OfLimits OfNode OfExpr (limits_plain known) (node_kept known) (expr_kept known)

  abbrev node_inside : Layer → Node-F Name (Unit {0}) OfLimits OfNode OfExpr
  node_inside = map-Node Name (Unit {0}) NamedLimits NamedNode NamedExpr OfLimits OfNode OfExpr (limits_plain known) (node_kept known) (expr_kept known)

  abbrev found_limits : LimitsLayer → Limits-F Name (Unit {0}) effects.OfLimits (Pos → Found) Found
  found_limits = map-Limits Name (Unit {0}) NamedLimits NamedNode NamedExpr effects.OfLimits (Pos → Found) Found (in_limits known) (found_in_node known) (found_in known)

  abbrev found_inside : Layer → Node-F Name (Unit {0}) effects.OfLimits (Pos → Found) Found
  found_inside = map-Node Name (Unit {0}) NamedLimits NamedNode NamedExpr effects.OfLimits (Pos → Found) Found (in_limits known) (found_in_node known) (found_in known)

  abbrev limits_forms : LimitsLayer → Limits-F Name (Unit {0}) Bool Form Form
  limits_forms = map-Limits Name (Unit {0}) NamedLimits NamedNode NamedExpr Bool Form Form limits_form form_of_node expr_form

  abbrev limits_calls : LimitsLayer → Limits-F Name (Unit {0}) Bool Bool Bool
  limits_calls = map-Limits Name (Unit {0}) NamedLimits NamedNode NamedExpr Bool Bool Bool callless_limits callless_node callless_expr

  limits_made : (x : LimitsLayer) (l : NamedLimits) (q : Pending) → roll-Limits Name (Unit {0}) x ≡ l → limits_callless (limits_calls x) ≡ true → AllGood q.stmts → MadeLimits (l, q)
  limits_made x l q is h g = record { is = ap callless_limits (sym is) ∙ fold-roll-Limits Name (Unit {0}) Bool Bool Bool limits_callless node_callless expr_callless x ∙ h; pending = g }

  limits_step : (y : Limits-F Name (Unit {0}) KeptLimits KeptNode KeptExpr) → limits_formed (limits_forms (inner_limits y)) ≡ true → effects.limits_parts (found_limits (inner_limits y)) ≡ []
      → (p : Pending) → AllGood p.stmts → MadeLimits (limits_parts known (limits_inside (inner_limits y)) p)
  limits_step (Limits-F.Count k pos) h e p g = let m = k.1.inner true h e p g in limits_made (Limits-F.Count _ pos) _ _ (limits.rolls-Count _ pos) m.is m.pending
  limits_step (Limits-F.ByteCount k pos) h e p g = let m = k.1.inner true h e p g in limits_made (Limits-F.ByteCount _ pos) _ _ (limits.rolls-ByteCount _ pos) m.is m.pending
  limits_step (Limits-F.Between k j pos) h e p g =
      let hs = parts_of (expr_form k.0).inner (expr_form j.0).inner h in
      let es = empty_parts (all_in (found_in known k.0) true) (all_in (found_in known j.0) true) e in
      let m = k.1.inner true hs.0 es.0 p g in
      let n = j.1.inner true hs.1 es.1 (rest known (expr_kept known k.0) p).1 m.pending in
      limits_made (Limits-F.Between _ _ pos) _ _ (limits.rolls-Between _ _ pos) (both _ _ m.is n.is) n.pending
  limits_step (Limits-F.Unknown pos) h e p g = limits_made (Limits-F.Unknown pos) _ _ (limits.rolls-Unknown pos) refl g

  made : (x : Layer) (n : NamedNode) (pos : Pos) (q : Pending) → roll-Node Name (Unit {0}) x ≡ n → node_callless (callless_inside x) ≡ true → AllGood q.stmts → Made Callless (expr_at n pos, q)
  made x n pos q is h g = record { is = without x n pos is h; pending = g }

  -- what is said of a level, at a place
  abbrev Says : Layer → Pos → Type 0
  Says x pos = Holds (node_formed (forms_inside x)) (effects.node_parts known (found_inside x) pos) (λ p. at_place (node_parts known (node_inside x) pos p) pos)

  -- ---- one operand

  module _ (o : TreeOp) (k : KeptExpr) (pos : Pos) where
    abbrev after_rest : Pending → NamedExpr × Pending
    after_rest p = rest known (expr_kept known k.0) p

    abbrev whole : Pending → NamedExpr
    whole p = expr_at (node.Un o (after_rest p).0) pos

    abbrev d : Found
    d = effects.node_parts known (found_inside (Node-F.Un o k.0)) pos

    taken_is : (p : Pending) (w : Work) → work_of o ≡ w → taken known (whole p, (after_rest p).1) ≡ unary_taken known w (after_rest p).0 (whole p) (after_rest p).1
    taken_is p w is =
        ap (λ z. node_taken known z (whole p) (after_rest p).1) (layer_of (Node-F.Un o (after_rest p).0) _ (node.rolls-Un o (after_rest p).0))
        ∙ ap (λ v. unary_taken known v (after_rest p).0 (whole p) (after_rest p).1) is

    form_is : (p : Pending) (w : Work) → work_of o ≡ w → form_of (whole p) ≡ forms.unary_form w
    form_is p w is = ap form_of_layer (layer_of (Node-F.Un o (after_rest p).0) _ (node.rolls-Un o (after_rest p).0)) ∙ ap forms.unary_form is

    computes : (w : Work) → work_of o ≡ w → forms.unary_form w ≡ form.Other → ((a e : NamedExpr) (q : Pending) → unary_taken known w a e q ≡ (e, q)) → Says (Node-F.Un o k.0) pos
    computes w is other same =
        ordinary (expr_form k.0).inner d (λ p. (whole p, (after_rest p).1)) (ap forms.unary_form is ∙ other)
        (λ p. record { shape = form_is p w is ∙ other; same = taken_is p w is ∙ same (after_rest p).0 (whole p) (after_rest p).1 })
        (λ b f e p g. let m = k.1.inner b f e p g in made (Node-F.Un o _) _ pos _ (node.rolls-Un o _) m.is m.pending)

    steps : (by : TreeOp) → work_of o ≡ work.Steps by → Says (Node-F.Un o k.0) pos
    steps by is =
        other_holds (expr_form k.0).inner d (λ p. (whole p, (after_rest p).1)) (subst (λ w. IsOther (forms.unary_form w)) (sym is) (step_is by)) (λ p. ap forms.is_call (form_is p (work.Steps by) is))
        (λ b f e p g.
        let es = empty_parts (all_in (found_in known k.0) b) (d.itself b) e in
        let m = k.1.inner b f es.0 p g in
        let fine : (b || is_none (integer_local known (found_in known k.0).form)) ≡ false =
        ap (λ w. effects.unary_refused known w (found_in known k.0) b) (sym is) ∙ not_told (effects.unary_refused known (work_of o) (found_in known k.0) b) pos es.1 in
        let local = some_local (found_in known k.0).form (split_or b _ fine).1 in
        let there : is_none (integer_local known (form_of (after_rest p).0)) ≡ false =
        ap (λ c. is_none (integer_local known c)) (k.1.name_stays p local.0 local.1 ∙ sym local.1) ∙ (split_or b _ fine).1 in
        subst (Made Callless) (sym (taken_is p (work.Steps by) is)) (step_made (integer_local known (form_of (after_rest p).0)) by (after_rest p).0 pos (whole p) (after_rest p).1 there m.is m.pending))

    by_work : (w : Work) → work_of o ≡ w → Says (Node-F.Un o k.0) pos
    by_work (work.Steps v) is = steps v is
    by_work work.Sets is = computes work.Sets is refl (λ a e q. refl)
    by_work work.IfTrue is = computes work.IfTrue is refl (λ a e q. refl)
    by_work work.IfFalse is = computes work.IfFalse is refl (λ a e q. refl)
    by_work work.Computes is = computes work.Computes is refl (λ a e q. refl)

    un_says : Says (Node-F.Un o k.0) pos
    un_says = by_work (work_of o) refl

  -- ---- two operands

  if_none_made : (ss : List NamedStmt) (a b : NamedNode × Pending) (P : NamedNode × Pending → Type 0) → P a → P b → P (if_none ss a b)
  if_none_made [] a b P m n = m
  if_none_made (s ∷ ss) a b P m n = n

  abbrev Chosen : (NamedExpr → NamedStmt → Pos → NamedStmt) → Type 0
  Chosen chosen = (a : NamedExpr) (s : NamedStmt) (pos : Pos) → Callless a → is_good (given_stmt s) ≡ true → (given_stmt s).declares ≡ false → is_good (given_stmt (chosen a s pos)) ≡ true

  -- a block is no declaration
  block_branch : (g : Given) → is_good g ≡ true → g.declares ≡ false → (g.fine ≡ true) × ((g.nested && not g.declares) ≡ true) × (g.jumps ≡ false)
  block_branch g h d =
      let p = parts_of g.fine (g.nested && not g.jumps) h in
      let q = parts_of g.nested (not g.jumps) p.1 in
      (p.0, both _ _ q.0 (ap not d), is_not g.jumps q.1)

  true_good : Chosen if_true
  true_good a s pos h g d =
      let b = block_branch (given_stmt s) g d in
      good_at (Act-F.If a s None) _ pos (act.rolls-If a s None) (good_of _ _ _ (both _ _ (both _ _ h b.0) refl) (both _ _ b.1 refl) (neither _ _ b.2 refl))

  false_good : Chosen if_false
  false_good a s pos h g d =
      let b = block_branch (given_stmt s) g d in
      let e : given_stmt (stmt_at act.Empty pos) ≡ given_act (given_inside Act-F.Empty) = given_at Act-F.Empty _ pos act.rolls-Empty in
      good_at (Act-F.If a (stmt_at act.Empty pos) (Some s)) _ pos (act.rolls-If a (stmt_at act.Empty pos) (Some s))
      (good_of _ _ _ (both _ _ (both _ _ h (ap (λ (x : Given). x.fine) e)) b.0) (both _ _ (ap (λ (x : Given). x.nested && not x.declares) e) b.1)
      (neither _ _ (ap (λ (x : Given). x.jumps) e) b.2))

  block_declares : (ss : List NamedStmt) (pos : Pos) → (given_stmt (block_at ss pos)).declares ≡ false
  block_declares ss pos = ap (λ (x : Given). x.declares) (given_at (Act-F.Block None ss) _ pos (act.rolls-Block None ss))

  choice_good : (o : TreeOp) (start : ℕ) (chosen : NamedExpr → NamedStmt → Pos → NamedStmt) → Chosen chosen → (pos : Pos) (a : NamedExpr) (b : NamedExpr × Pending) (p : Pending) → Callless a → Made Callless b → AllGood p.stmts
      → Made Callless (at_place (choice o start chosen pos a b p) pos)
  choice_good o start chosen good pos a b p h m g =
      if_none_made b.1.stmts _ _ (λ r. Made Callless (at_place r pos))
      (made (Node-F.Bin o a b.0) _ pos _ (node.rolls-Bin o a b.0) (both _ _ h m.is) g)
      (made (Node-F.Name (name.Local p.next)) _ pos _ (node.rolls-Name (name.Local p.next)) refl
      (one_more (p.stmts ++ declare_at integer.Int p.next (number_at start pos) pos ∷ []) _
      (one_more p.stmts _ g (declare_good integer.Int p.next (number_at start pos) pos (right_callless (number_at start pos) (number_without start pos))))
      (good a _ pos h (block_good _ pos (one_more b.1.stmts _ m.pending
      (assign_good (local_at p.next pos) _ pos (local_without p.next pos) (right_callless (expr_at (node.Bin op.Ne b.0 (number_at 0 pos)) pos)
      (without (Node-F.Bin op.Ne b.0 (number_at 0 pos)) _ pos (node.rolls-Bin op.Ne b.0 (number_at 0 pos)) (both _ _ m.is (number_without 0 pos)))))))
      (block_declares _ pos))))

  local_same : (n : ℕ) (pos : Pos) (q : Pending) → taken known (local_at n pos, q) ≡ (local_at n pos, q)
  local_same n pos q = ap (λ z. node_taken known z (local_at n pos) q) (layer_of (Node-F.Name (name.Local n)) _ (node.rolls-Name (name.Local n)))

  -- what `&&` and `||` become is no call, and no effect
  choice_plain : (o : TreeOp) (w : Work) → work_of o ≡ w → forms.binary_form w ≡ form.Other → ((x e whole : NamedExpr) (q : Pending) → binary_taken known w x e whole q ≡ (whole, q))
      → (start : ℕ) (chosen : NamedExpr → NamedStmt → Pos → NamedStmt) (pos : Pos) (a : NamedExpr) (b : NamedExpr × Pending) (p : Pending)
      → (forms.is_call (form_of (at_place (choice o start chosen pos a b p) pos).0) ≡ false) × (taken known (at_place (choice o start chosen pos a b p) pos) ≡ at_place (choice o start chosen pos a b p) pos)
  choice_plain o w is other same start chosen pos a b p =
      if_none_made b.1.stmts _ _ (λ r. (forms.is_call (form_of (at_place r pos).0) ≡ false) × (taken known (at_place r pos) ≡ at_place r pos)) (
        ap (λ z. forms.is_call (form_of_layer z)) (layer_of (Node-F.Bin o a b.0) _ (node.rolls-Bin o a b.0)) ∙ ap (λ v. forms.is_call (forms.binary_form v)) is ∙ ap forms.is_call other,
        ap (λ z. node_taken known z (expr_at (node.Bin o a b.0) pos) p) (layer_of (Node-F.Bin o a b.0) _ (node.rolls-Bin o a b.0))
            ∙ ap (λ v. binary_taken known v a b.0 (expr_at (node.Bin o a b.0) pos) p) is ∙ same a b.0 (expr_at (node.Bin o a b.0) pos) p,
      ) (
        ap forms.is_call (local_form p.next pos),
        local_same p.next pos _,
      )

  module _ (o : TreeOp) (k j : KeptExpr) (pos : Pos) where
    abbrev first : Pending → NamedExpr × Pending
    first p = rest known (expr_kept known k.0) p

    abbrev found : Found
    found = effects.node_parts known (found_inside (Node-F.Bin o k.0 j.0)) pos

    abbrev bin_form : Bool → Form
    bin_form b = no_call ((expr_form k.0).inner && (if b then (expr_form j.0).right else (expr_form j.0).inner))

    -- by what the operator does
    abbrev Says_as : Bool → Work → Type 0
    Says_as b w = Holds (bin_form b) found (λ p. at_place (binary_parts known w o (expr_kept known k.0) (expr_kept known j.0) pos p) pos)

    said : (b : Bool) (w : Work) → is_set o ≡ b → work_of o ≡ w → Says_as b w → Says (Node-F.Bin o k.0 j.0) pos
    said b w set is h =
        subst (λ c. Holds (bin_form c) found (λ p. at_place (binary_parts known (work_of o) o (expr_kept known k.0) (expr_kept known j.0) pos p) pos)) (sym set)
        (subst (λ v. Says_as b v) (sym is) h)

    abbrev second : Pending → NamedExpr × Pending
    second p = rest known (expr_kept known j.0) (first p).1

    inside_is : (w : Work) → work_of o ≡ w → (b : Bool) → found.inside b ≡ effects.binary_inside w (found_in known k.0) (found_in known j.0) b
    inside_is w is b = ap (λ v. effects.binary_inside v (found_in known k.0) (found_in known j.0) b) is

    found_is : (w : Work) → work_of o ≡ w → found.form ≡ forms.binary_form w
    found_is w is = ap forms.binary_form is

    computed : (w : Work) → work_of o ≡ w → forms.binary_form w ≡ form.Other
        → ((p : Pending) → binary_parts known w o (expr_kept known k.0) (expr_kept known j.0) pos p ≡ (node.Bin o (first p).0 (second p).0, (second p).1))
        → ((x e whole : NamedExpr) (q : Pending) → binary_taken known w x e whole q ≡ (whole, q))
        → ((b : Bool) → effects.binary_inside w (found_in known k.0) (found_in known j.0) b ≡ all_in (found_in known k.0) b ++ all_in (found_in known j.0) b)
        → Says_as false w
    computed w is other parts same inside =
        ordinary ((expr_form k.0).inner && (expr_form j.0).inner) found (λ p. at_place (binary_parts known w o (expr_kept known k.0) (expr_kept known j.0) pos p) pos) (found_is w is ∙ other)
        (λ p. subst (λ r. Plainly (at_place r pos)) (sym (parts p))
        (plainly (Node-F.Bin o (first p).0 (second p).0) _ pos (second p).1 (node.rolls-Bin o (first p).0 (second p).0) (ap forms.binary_form is ∙ other)
        (ap (λ v. binary_taken known v (first p).0 (second p).0 (expr_at (node.Bin o (first p).0 (second p).0) pos) (second p).1) is ∙ same _ _ _ _)))
        (λ b f e p g.
        let hs = parts_of (expr_form k.0).inner (expr_form j.0).inner f in
        let es = empty_parts (all_in (found_in known k.0) b) (all_in (found_in known j.0) b) (sym (inside_is w is b ∙ inside b) ∙ e) in
        let m = k.1.inner b hs.0 es.0 p g in
        let n = j.1.inner b hs.1 es.1 (first p).1 m.pending in
        subst (λ r. Made Callless (at_place r pos)) (sym (parts p)) (made (Node-F.Bin o _ _) _ pos _ (node.rolls-Bin o _ _) (both _ _ m.is n.is) n.pending))

    chosen_holds : (w : Work) → work_of o ≡ w → forms.binary_form w ≡ form.Other → (start : ℕ) (chosen : NamedExpr → NamedStmt → Pos → NamedStmt) → Chosen chosen
        → ((p : Pending) → binary_parts known w o (expr_kept known k.0) (expr_kept known j.0) pos p ≡ choice o start chosen pos (first p).0 (rest known (expr_kept known j.0) (none_pending ((first p).1.next + 1))) (first p).1)
        → ((x e whole : NamedExpr) (q : Pending) → binary_taken known w x e whole q ≡ (whole, q))
        → ((b : Bool) → effects.binary_inside w (found_in known k.0) (found_in known j.0) b ≡ all_in (found_in known k.0) b ++ all_in (found_in known j.0) b)
        → Says_as false w
    chosen_holds w is other start chosen good parts same inside =
        other_holds ((expr_form k.0).inner && (expr_form j.0).inner) found (λ p. at_place (binary_parts known w o (expr_kept known k.0) (expr_kept known j.0) pos p) pos)
        (subst IsOther (sym (found_is w is ∙ other)) other_is)
        (λ p. subst (λ r. forms.is_call (form_of (at_place r pos).0) ≡ false) (sym (parts p)) (choice_plain o w is other same start chosen pos _ _ _).0)
        (λ b f e p g.
        let hs = parts_of (expr_form k.0).inner (expr_form j.0).inner f in
        let all = empty_parts (found.inside b) (found.itself b) e in
        let es = empty_parts (all_in (found_in known k.0) b) (all_in (found_in known j.0) b) (sym (inside_is w is b ∙ inside b) ∙ all.0) in
        let m = k.1.inner b hs.0 es.0 p g in
        let n = j.1.inner b hs.1 es.1 (none_pending ((first p).1.next + 1)) refl in
        subst (λ r. Made Callless (taken known (at_place r pos))) (sym (parts p))
        (subst (Made Callless) (sym (choice_plain o w is other same start chosen pos _ _ _).1) (choice_good o start chosen good pos _ _ _ m.is n m.pending)))

    -- an assignment
    abbrev value : Pending → NamedExpr × Pending
    value p = if stays (form_of (first p).0) (form_of (expr_kept known j.0 (first p).1).0) then expr_kept known j.0 (first p).1 else taken known (expr_kept known j.0 (first p).1)

    abbrev assigned : Pending → NamedExpr
    assigned p = expr_at (node.Bin o (first p).0 (value p).0) pos

    sets : work_of o ≡ work.Sets → Says_as true work.Sets
    sets is =
        other_holds ((expr_form k.0).inner && (expr_form j.0).right) found (λ p. (assigned p, (value p).1)) (subst IsOther (sym (found_is work.Sets is)) set_is)
        (λ p. ap (λ z. forms.is_call (form_of_layer z)) (layer_of (Node-F.Bin o (first p).0 (value p).0) _ (node.rolls-Bin o (first p).0 (value p).0)) ∙ ap (λ v. forms.is_call (forms.binary_form v)) is)
        (λ b f e p g.
        let hs = parts_of (expr_form k.0).inner (expr_form j.0).right f in
        let all = empty_parts (found.inside b) (found.itself b) e in
        let es = empty_parts (all_in (found_in known k.0) true) (right_in (found_in known k.0) (found_in known j.0) b) (sym (inside_is work.Sets is b) ∙ all.0) in
        let m = k.1.inner true hs.0 es.0 p g in
        let fine : (b || (is_none (integer_local known (found_in known k.0).form) || forms.is_calloc (found_in known j.0).form)) ≡ false =
        ap (λ w. effects.binary_refused known w (found_in known k.0) (found_in known j.0) b) (sym is) ∙ not_told (effects.binary_refused known (work_of o) (found_in known k.0) (found_in known j.0) b) pos all.1 in
        let free = split_or _ _ (split_or b _ fine).1 in
        let local = some_local (found_in known k.0).form free.0 in
        let named : form_of (first p).0 ≡ form.Name local.0 = k.1.name_stays p local.0 local.1 in
        let there : is_none (integer_local known (form_of (first p).0)) ≡ false = ap (λ c. is_none (integer_local known c)) (named ∙ sym local.1) ∙ free.0 in
        let n = right_held (expr_form j.0) (found_in known j.0) (expr_kept known j.0) j.1 (found_in known k.0).form (form_of (first p).0) b (λ x. ap is_name named) hs.1 es.1 (first p).1 m.pending in
        subst (Made Callless)
        (sym (ap (λ z. node_taken known z (assigned p) (value p).1) (layer_of (Node-F.Bin o (first p).0 (value p).0) _ (node.rolls-Bin o (first p).0 (value p).0))
        ∙ ap (λ v. binary_taken known v (first p).0 (value p).0 (assigned p) (value p).1) is))
        (set_made (integer_local known (form_of (first p).0)) (first p).0 (value p).0 pos (assigned p) (value p).1 there m.is n.is n.pending))

    bin_by : (w : Work) → work_of o ≡ w → Says (Node-F.Bin o k.0 j.0) pos
    bin_by work.Sets is = said true work.Sets (set_of o is) is (sets is)
    bin_by (work.Steps v) is = said false (work.Steps v) (not_set o (work.Steps v) is (λ e. cc)) is (computed (work.Steps v) is refl (λ p. refl) (λ x e whole q. refl) (λ b. refl))
    bin_by work.IfTrue is = said false work.IfTrue (not_set o work.IfTrue is (λ e. cc)) is (chosen_holds work.IfTrue is refl 0 if_true true_good (λ p. refl) (λ x e whole q. refl) (λ b. refl))
    bin_by work.IfFalse is = said false work.IfFalse (not_set o work.IfFalse is (λ e. cc)) is (chosen_holds work.IfFalse is refl 1 if_false false_good (λ p. refl) (λ x e whole q. refl) (λ b. refl))
    bin_by work.Computes is = said false work.Computes (not_set o work.Computes is (λ e. cc)) is (computed work.Computes is refl (λ p. refl) (λ x e whole q. refl) (λ b. refl))

    bin_says : Says (Node-F.Bin o k.0 j.0) pos
    bin_says = bin_by (work_of o) refl

  -- ---- every node

  leaf_says : (x : Layer) (n : NamedNode) (pos : Pos) (d : Found) → roll-Node Name (Unit {0}) x ≡ n → d.form ≡ form.Other → form_of_layer x ≡ form.Other → node_callless (callless_inside x) ≡ true
      → ((q : Pending) → node_taken known x (expr_at n pos) q ≡ (expr_at n pos, q)) → Holds (no_call true) d (λ p. (expr_at n pos, p))
  leaf_says x n pos d is other plain h same =
      ordinary true d (λ p. (expr_at n pos, p)) other (λ p. plainly x n pos p is plain (same p)) (λ b f e p g. made x n pos p is h g)

  name_says : (n : Name) (pos : Pos) → Says (Node-F.Name n) pos
  name_says n pos =
      let whole : NamedExpr = expr_at (node.Name n) pos in
      let out : out-Node Name (Unit {0}) (node.Name n) ≡ Node-F.Name n = layer_of (Node-F.Name n) _ (node.rolls-Name n) in
      let same : (p : Pending) → taken known (whole, p) ≡ (whole, p) = λ p. ap (λ z. node_taken known z whole p) out in
      record {
        inner = λ b f e p g. subst (Made Callless) (sym (same p)) (made (Node-F.Name n) _ pos p (node.rolls-Name n) refl g);
        calls = λ b c f e p g. absurd (cc);
        allocates = λ b c f e p g. absurd (cc);
        same_call = λ p. ap (λ z. forms.is_call (form_of_layer z)) out;
        same_built_in = λ p t no st. absurd (cc);
        name_stays = λ p m e. ap (λ (r : NamedExpr × Pending). form_of r.0) (same p) ∙ ap form_of_layer out ∙ e;
        no_call_inner = λ c a r. r;
        call_inner = λ c r. r;
        call_kind = λ c. absurd (cc);
        call_right = λ c. absurd (cc);
      }

  record MadeList (r : List NamedExpr × Pending) : Type 0 where
    is : list_all callless_expr r.0 ≡ true
    pending : AllGood r.1.stmts

  list_made : (ks : List KeptExpr) (b : Bool) → inside_each all_have (λ (f : Form). f.inner) (map expr_form (map (λ (k : KeptExpr). k.0) ks)) ≡ true
      → inside_each listed (λ (d : Found). all_in d b) (map (found_in known) (map (λ (k : KeptExpr). k.0) ks)) ≡ [] → (p : Pending) → AllGood p.stmts
      → MadeList (each_rest known (map (expr_kept known) (map (λ (k : KeptExpr). k.0) ks)) p)
  list_made [] b h e p g = record { is = refl; pending = g }
  list_made (k ∷ ks) b h e p g =
      let hs = parts_of (expr_form k.0).inner (inside_each all_have (λ (f : Form). f.inner) (map expr_form (map (λ (x : KeptExpr). x.0) ks))) h in
      let es = empty_parts (all_in (found_in known k.0) b) (inside_each listed (λ (d : Found). all_in d b) (map (found_in known) (map (λ (x : KeptExpr). x.0) ks))) e in
      let m = k.1.inner b hs.0 es.0 p g in
      let n = list_made ks b hs.1 es.1 (rest known (expr_kept known k.0) p).1 m.pending in
      record { is = both _ _ m.is n.is; pending = n.pending }

  module _ (n : Name) (ks : List KeptExpr) (pos : Pos) where
    abbrev arguments : List NamedExpr
    arguments = map (λ (k : KeptExpr). k.0) ks

    abbrev made_of : Pending → List NamedExpr × Pending
    made_of p = each_rest known (map (expr_kept known) arguments) p

    abbrev call_at : Pending → NamedExpr
    call_at p = expr_at (node.Call n (made_of p).0) pos

    abbrev found_call : Found
    found_call = effects.node_parts known (found_inside (Node-F.Call n arguments)) pos

    call_out : (p : Pending) → out-Node Name (Unit {0}) (node.Call n (made_of p).0) ≡ Node-F.Call n (made_of p).0
    call_out p = layer_of (Node-F.Call n (made_of p).0) _ (node.rolls-Call n (made_of p).0)

    call_form_is : (p : Pending) → form_of (call_at p) ≡ form.Call n
    call_form_is p = ap form_of_layer (call_out p)

    call_whole : (b : Bool) → (node_formed (forms_inside (Node-F.Call n arguments))).inner ≡ true → found_call.inside b ≡ [] → (p : Pending) → AllGood p.stmts → Made IsCall (call_at p, (made_of p).1)
    call_whole b f e p g = let m = list_made ks b f e p g in record { is = called (Node-F.Call n (made_of p).0) _ pos (node.rolls-Call n (made_of p).0) m.is; pending = m.pending }

    call_says : Says (Node-F.Call n arguments) pos
    call_says = record {
      inner = λ b f e p g.
          let es = empty_parts (found_call.inside b) (found_call.itself b) e in
          let m = call_whole b f es.0 p g in
          let some : is_none (result_of known n) ≡ false = (split_or b _ (not_told (b || is_none (result_of known n)) pos es.1)).1 in
          subst (Made Callless) (sym (ap (λ z. node_taken known z (call_at p) (made_of p).1) (call_out p))) (call_made (result_of known n) (call_at p) (made_of p).1 some m.is m.pending);
      calls = λ b c f e p g. call_whole b f e p g;
      allocates = λ b c f e p g. absurd (cc);
      same_call = λ p. ap forms.is_call (call_form_is p);
      same_built_in = λ p t no st. ap (stays t) (call_form_is p) ∙ st;
      name_stays = λ p m e. absurd (cc);
      no_call_inner = λ c a r. absurd (cc);
      call_inner = λ c r. r;
      call_kind = λ c. refl;
      call_right = λ c. c;
    }

  calloc_says : (t u : _) (k : KeptExpr) (pos : Pos) → Says (Node-F.Calloc t k.0 u) pos
  calloc_says t u k pos =
      let whole : Pending → NamedExpr = λ p. expr_at (node.Calloc t (rest known (expr_kept known k.0) p).0 u) pos in
      let after_it : Pending → Pending = λ p. (rest known (expr_kept known k.0) p).1 in
      let out : (p : Pending) → out-Node Name (Unit {0}) (node.Calloc t (rest known (expr_kept known k.0) p).0 u) ≡ Node-F.Calloc t (rest known (expr_kept known k.0) p).0 u =
      λ p. layer_of (Node-F.Calloc t (rest known (expr_kept known k.0) p).0 u) _ (node.rolls-Calloc t (rest known (expr_kept known k.0) p).0 u) in
      let same : (p : Pending) → taken known (whole p, after_it p) ≡ (whole p, after_it p) = λ p. ap (λ z. node_taken known z (whole p) (after_it p)) (out p) in
      record {
        inner = λ b f e p g. absurd (cc);
        calls = λ b c f e p g. absurd (cc);
        allocates = λ b c f e p g.
            let m = k.1.inner b f (empty_parts (all_in (found_in known k.0) b) [] e).0 p g in
            subst (Made IsCall) (sym (same p)) (record { is = called (Node-F.Calloc t (rest known (expr_kept known k.0) p).0 u) _ pos (node.rolls-Calloc t _ u) m.is; pending = m.pending });
        same_call = λ p. ap (λ z. forms.is_call (form_of_layer z)) (out p);
        same_built_in = λ p c no st. absurd (cc);
        name_stays = λ p m e. absurd (cc);
        no_call_inner = λ c a r. absurd (cc);
        call_inner = λ c r. absurd (cc);
        call_kind = λ c. refl;
        call_right = λ c. c;
      }

  node_says : (y : Node-F Name (Unit {0}) KeptLimits KeptNode KeptExpr) (pos : Pos) → Says (inner_node y) pos
  node_says (Node-F.Number n unsigned) pos = leaf_says (Node-F.Number n unsigned) _ pos _ (node.rolls-Number n unsigned) refl refl refl (λ q. refl)
  node_says (Node-F.Text bytes) pos = leaf_says (Node-F.Text bytes) _ pos _ (node.rolls-Text bytes) refl refl refl (λ q. refl)
  node_says Node-F.Null pos = leaf_says Node-F.Null _ pos _ node.rolls-Null refl refl refl (λ q. refl)
  node_says (Node-F.Name n) pos = name_says n pos
  node_says (Node-F.Size t) pos = leaf_says (Node-F.Size t) _ pos _ (node.rolls-Size t) refl refl refl (λ q. refl)
  node_says (Node-F.Un o k) pos = un_says o k pos
  node_says (Node-F.Bin o k j) pos = bin_says o k j pos
  node_says (Node-F.Call n ks) pos = call_says n ks pos
  node_says (Node-F.Calloc t k u) pos = calloc_says t u k pos
  node_says (Node-F.Pick k j i) pos =
      ordinary (((expr_form k.0).inner && (expr_form j.0).inner) && (expr_form i.0).inner) _ _ refl
      (λ p. plainly (Node-F.Pick _ _ _) _ pos _ (node.rolls-Pick _ _ _) refl refl)
      (λ b f e p g.
      let hs = parts_of ((expr_form k.0).inner && (expr_form j.0).inner) (expr_form i.0).inner f in
      let gs = parts_of (expr_form k.0).inner (expr_form j.0).inner hs.0 in
      let es = empty_parts (all_in (found_in known k.0) b) (all_in (found_in known j.0) true ++ all_in (found_in known i.0) true) e in
      let fs = empty_parts (all_in (found_in known j.0) true) (all_in (found_in known i.0) true) es.1 in
      let m = k.1.inner b gs.0 es.0 p g in
      let n = j.1.inner true gs.1 fs.0 (rest known (expr_kept known k.0) p).1 m.pending in
      let l = i.1.inner true hs.1 fs.1 (rest known (expr_kept known j.0) (rest known (expr_kept known k.0) p).1).1 n.pending in
      made (Node-F.Pick _ _ _) _ pos _ (node.rolls-Pick _ _ _) (both _ _ (both _ _ m.is n.is) l.is) l.pending)
  node_says (Node-F.Index k j) pos =
      ordinary ((expr_form k.0).inner && (expr_form j.0).inner) _ _ refl
      (λ p. plainly (Node-F.Index _ _) _ pos _ (node.rolls-Index _ _) refl refl)
      (λ b f e p g.
      let hs = parts_of (expr_form k.0).inner (expr_form j.0).inner f in
      let es = empty_parts (all_in (found_in known k.0) b) (all_in (found_in known j.0) b) e in
      let m = k.1.inner b hs.0 es.0 p g in
      let n = j.1.inner b hs.1 es.1 (rest known (expr_kept known k.0) p).1 m.pending in
      made (Node-F.Index _ _) _ pos _ (node.rolls-Index _ _) (both _ _ m.is n.is) n.pending)
  node_says (Node-F.Dot k n at) pos =
      ordinary (expr_form k.0).inner _ _ refl (λ p. plainly (Node-F.Dot _ n at) _ pos _ (node.rolls-Dot _ n at) refl refl)
      (λ b f e p g. let m = k.1.inner b f e p g in made (Node-F.Dot _ n at) _ pos _ (node.rolls-Dot _ n at) m.is m.pending)
  node_says (Node-F.Arrow k n at) pos =
      ordinary (expr_form k.0).inner _ _ refl (λ p. plainly (Node-F.Arrow _ n at) _ pos _ (node.rolls-Arrow _ n at) refl refl)
      (λ b f e p g. let m = k.1.inner b f e p g in made (Node-F.Arrow _ n at) _ pos _ (node.rolls-Arrow _ n at) m.is m.pending)
  node_says (Node-F.Cast t k) pos =
      ordinary (expr_form k.0).inner _ _ refl (λ p. plainly (Node-F.Cast t _) _ pos _ (node.rolls-Cast t _) refl refl)
      (λ b f e p g. let m = k.1.inner b f e p g in made (Node-F.Cast t _) _ pos _ (node.rolls-Cast t _) m.is m.pending)
  node_says (Node-F.Trusted t k None) pos =
      ordinary ((expr_form k.0).inner && true) _ _ refl (λ p. plainly (Node-F.Trusted t _ None) _ pos _ (node.rolls-Trusted t _ None) refl refl)
      (λ b f e p g.
      let m = k.1.inner b (parts_of (expr_form k.0).inner true f).0 (empty_parts (all_in (found_in known k.0) b) [] e).0 p g in
      made (Node-F.Trusted t _ None) _ pos _ (node.rolls-Trusted t _ None) (both _ _ m.is refl) m.pending)
  node_says (Node-F.Trusted t k (Some l)) pos =
      ordinary ((expr_form k.0).inner && limits_form l.0) _ _ refl (λ p. plainly (Node-F.Trusted t _ (Some _)) _ pos _ (node.rolls-Trusted t _ (Some _)) refl refl)
      (λ b f e p g.
      let hs = parts_of (expr_form k.0).inner (limits_form l.0) f in
      let es = empty_parts (all_in (found_in known k.0) b) (in_limits known l.0) e in
      let m = k.1.inner b hs.0 es.0 p g in
      let n = l.1 hs.1 es.1 (rest known (expr_kept known k.0) p).1 m.pending in
      made (Node-F.Trusted t _ (Some _)) _ pos _ (node.rolls-Trusted t _ (Some _)) (both _ _ m.is n.is) n.pending)
  node_says (Node-F.Tested t k None) pos =
      ordinary ((expr_form k.0).inner && true) _ _ refl (λ p. plainly (Node-F.Tested t _ None) _ pos _ (node.rolls-Tested t _ None) refl refl)
      (λ b f e p g.
      let m = k.1.inner b (parts_of (expr_form k.0).inner true f).0 (empty_parts (all_in (found_in known k.0) b) [] e).0 p g in
      made (Node-F.Tested t _ None) _ pos _ (node.rolls-Tested t _ None) (both _ _ m.is refl) m.pending)
  node_says (Node-F.Tested t k (Some l)) pos =
      ordinary ((expr_form k.0).inner && limits_form l.0) _ _ refl (λ p. plainly (Node-F.Tested t _ (Some _)) _ pos _ (node.rolls-Tested t _ (Some _)) refl refl)
      (λ b f e p g.
      let hs = parts_of (expr_form k.0).inner (limits_form l.0) f in
      let es = empty_parts (all_in (found_in known k.0) b) (in_limits known l.0) e in
      let m = k.1.inner b hs.0 es.0 p g in
      let n = l.1 hs.1 es.1 (rest known (expr_kept known k.0) p).1 m.pending in
      made (Node-F.Tested t _ (Some _)) _ pos _ (node.rolls-Tested t _ (Some _)) (both _ _ m.is n.is) n.pending)

  limits_by : (x : LimitsLayer) (y : Limits-F Name (Unit {0}) KeptLimits KeptNode KeptExpr) → inner_limits y ≡ x → LimitsHold (roll-Limits Name (Unit {0}) x)
  limits_by x y is h e p g =
      subst MadeLimits (sym (ap (λ f. f p) (fold-roll-Limits Name (Unit {0}) OfLimits OfNode OfExpr (limits_parts known) (node_parts known) expr_parts x)))
      (subst (λ z. limits_formed (limits_forms z) ≡ true → effects.limits_parts (found_limits z) ≡ [] → MadeLimits (limits_parts known (limits_inside z) p)) is
      (λ w v. limits_step y w v p g)
      (sym (fold-roll-Limits Name (Unit {0}) Bool Form Form limits_formed node_formed expr_formed x) ∙ h)
      (sym (fold-roll-Limits Name (Unit {0}) effects.OfLimits (Pos → Found) Found effects.limits_parts (effects.node_parts known) effects.expr_parts x) ∙ e))

  node_by : (x : Layer) (y : Node-F Name (Unit {0}) KeptLimits KeptNode KeptExpr) → inner_node y ≡ x → NodeHolds (roll-Node Name (Unit {0}) x)
  node_by x y is pos =
      subst (λ f. Holds f (found_in_node known (roll-Node Name (Unit {0}) x) pos) (λ p. at_place (node_kept known (roll-Node Name (Unit {0}) x) pos p) pos))
      (sym (fold-roll-Node Name (Unit {0}) Bool Form Form limits_formed node_formed expr_formed x))
      (subst (λ (d : Pos → Found). Holds (node_formed (forms_inside x)) (d pos) (λ p. at_place (node_kept known (roll-Node Name (Unit {0}) x) pos p) pos))
      (sym (fold-roll-Node Name (Unit {0}) effects.OfLimits (Pos → Found) Found effects.limits_parts (effects.node_parts known) effects.expr_parts x))
      (subst (λ (k : OfNode). Holds (node_formed (forms_inside x)) (effects.node_parts known (found_inside x) pos) (λ p. at_place (k pos p) pos))
      (sym (fold-roll-Node Name (Unit {0}) OfLimits OfNode OfExpr (limits_parts known) (node_parts known) expr_parts x))
      (subst (λ z. Says z pos) is (node_says y pos))))

  expr_by : (x : Expr-F Name (Unit {0}) NamedLimits NamedNode NamedExpr) (y : Expr-F Name (Unit {0}) KeptLimits KeptNode KeptExpr) → inner_expr y ≡ x → ExprHolds (roll-Expr Name (Unit {0}) x)
  expr_by x y is =
      subst (λ z. ExprHolds (roll-Expr Name (Unit {0}) z)) is
      (let z = inner_expr y in
      subst (λ f. Holds f (found_in known (roll-Expr Name (Unit {0}) z)) (expr_kept known (roll-Expr Name (Unit {0}) z))) (sym (fold-roll-Expr Name (Unit {0}) Bool Form Form limits_formed node_formed expr_formed z))
      (subst (λ d. Holds (form_of_node y.node.0) d (expr_kept known (roll-Expr Name (Unit {0}) z)))
      (sym (fold-roll-Expr Name (Unit {0}) effects.OfLimits (Pos → Found) Found effects.limits_parts (effects.node_parts known) effects.expr_parts z))
      (subst (λ k. Holds (form_of_node y.node.0) (found_in_node known y.node.0 y.pos) k) (sym (fold-roll-Expr Name (Unit {0}) OfLimits OfNode OfExpr (limits_parts known) (node_parts known) expr_parts z))
      (y.node.1 y.pos))))

  pub expr_holds : (e : NamedExpr) → ExprHolds e
  expr_holds = ind-Expr Name (Unit {0}) LimitsHold NodeHolds ExprHolds limits_by node_by expr_by

  -- bounds in which no effect is refused hold no call
  pub limits_hold : (l : NamedLimits) → LimitsHold l
  limits_hold = ind-Limits Name (Unit {0}) LimitsHold NodeHolds ExprHolds limits_by node_by expr_by

  pub plain_made : (e : NamedExpr) (b : Bool) → (expr_form e).inner ≡ true → effects.in_expr known e b ≡ [] → (p : Pending) → AllGood p.stmts → Made Callless (expr_plain known e p)
  plain_made e b h none p g = (expr_holds e).inner b h none p g

  pub whole_made : (e : NamedExpr) (b : Bool) → (expr_form e).right ≡ true → effects.in_whole known e b ≡ [] → (p : Pending) → AllGood p.stmts → Made IsRight (whole_plain known e p)
  whole_made e b h none p g = whole_held (expr_form e) (found_in known e) (expr_kept known e) (expr_holds e) b h none p g

  pub call_statement : (e : NamedExpr) (b : Bool) → (expr_form e).call ≡ true → effects.in_whole known e b ≡ [] → (p : Pending) → AllGood p.stmts → Made IsCall (whole_plain known e p)
  call_statement e b h none p g = call_held (expr_form e) (found_in known e) (expr_kept known e) (expr_holds e) b h none p g

  pub right_made : (x e : NamedExpr) (b : Bool) → (expr_form e).right ≡ true → effects.in_right known x e b ≡ [] → all_in (found_in known x) true ≡ [] → (q p : Pending) → AllGood p.stmts
      → Made IsRight (right_plain known (expr_plain known x q).0 e p)
  right_made x e b h none target q p g =
      right_held (expr_form e) (found_in known e) (expr_kept known e) (expr_holds e) (found_in known x).form (form_of (expr_plain known x q).0) b (named (found_in known x).form refl) h none p g
    where
      named : (c : Kind) → (found_in known x).form ≡ c → is_name c ≡ true → is_name (form_of (expr_plain known x q).0) ≡ true
      named (form.Name n) is h = ap is_name ((expr_holds x).name_stays q n is)
      named _ is h = absurd cc
