-- Each name in an expression without effects, and in what is pending, passes a test where it stands, if each name in the
-- expression with effects does: fresh locals are visible where they are used.
use Rattle.std.proofs.Common.{◌≡◌, ◌∙◌, sym, ap, refl, subst, Bool, true, false, ◌&&◌, ◌||◌, ℕ, ◌+◌, ◌==◌, List, [], ◌∷◌, ◌++◌, map, append-nil, append_assoc, rules}
use Rattle.std.specs.Prelude.{Option, Some, None, if◌then◌else◌}
use Rattle.std.specs.List.{list_all, list_any}
use Rattle.std.proofs.lemmas.Bool.{eq-eqb}
use Rattle.ckc_base.specs.declared.places.Pos.{Pos}
use Rattle.ckc_syntax.specs.declared.tree.Name.{Name}
use Rattle.ckc_syntax.specs.declared.tree.Name.TheVariants as name
use Rattle.ckc_syntax.specs.declared.tree.TreeOp.{TreeOp}
use Rattle.ckc_syntax.specs.declared.tree.TreeOp.TheVariants as op
use Rattle.ckc_syntax.specs.declared.tree.TypeTree.{TypeTree-F, fold-roll-TypeTree}
use Rattle.ckc_syntax.specs.declared.tree.TypeTree.TheVariants as ctype
use Rattle.ckc_syntax.specs.declared.tree.Limits.{Limits-F, map-Limits, ind-Limits, roll-Limits, fold-roll-Limits}
use Rattle.ckc_syntax.specs.declared.tree.Limits.TheVariants as limits
use Rattle.ckc_syntax.specs.declared.tree.Node.{Node-F, map-Node, out-Node, roll-Node, fold-roll-Node, the_lemmas}
use Rattle.ckc_syntax.specs.declared.tree.Node.TheVariants as node
use Rattle.ckc_syntax.specs.declared.tree.Expr.{Expr-F, map-Expr, ind-Expr, roll-Expr, fold-roll-Expr}
use Rattle.ckc_syntax.specs.declared.tree.Act.{Act-F, map-Act, roll-Act, fold-roll-Act}
use Rattle.ckc_syntax.specs.declared.tree.Act.TheVariants as act
use Rattle.ckc_syntax.specs.declared.tree.Stmt.{fold-roll-Stmt}
use Rattle.ckc_syntax.specs.Trees.{NamedLimits, NamedNode, NamedExpr, NamedStmt, NamedAct}
use Rattle.ckc_plain.specs.ckc_plain_barred.specs.declared.integers.Integer.{Integer}
use Rattle.ckc_plain.specs.ckc_plain_barred.specs.declared.integers.Integer.TheVariants as integer
use Rattle.ckc_plain.specs.ckc_plain_barred.specs.declared.integers.Integers.{Integers}
use Rattle.ckc_plain.specs.ckc_plain_bodies.specs.declared.pending.Pending.{Pending}
use Rattle.ckc_plain.specs.ckc_plain_barred.specs.declared.forms.Work.{Work}
use Rattle.ckc_plain.specs.ckc_plain_barred.specs.declared.forms.Work.TheVariants as work
use Rattle.ckc_plain.specs.ckc_plain_barred.specs.Integers.{type_of, result_of}
use Rattle.ckc_plain.specs.ckc_plain_barred.specs.Forms.{work_of, form_of, is_call, stays}
use Rattle.ckc_plain.specs.ckc_plain_barred.specs.Effects.{integer_local}
use Rattle.ckc_plain.specs.ckc_plain_bodies.specs.Taken.{expr_at, stmt_at, local_at, number_at, block_at, assign_at, declare_at, none_pending, call_taken, set_taken, step_taken, binary_taken, unary_taken, node_taken, taken}
use Rattle.ckc_plain.specs.ckc_plain_bodies.specs.Expressions.{OfLimits, OfNode, OfExpr, rest, each_rest, if_true, if_false, if_none, choice, binary_parts, node_parts, expr_parts, limits_parts, limits_plain, node_kept, expr_kept, expr_plain, whole_plain, right_plain}
use Rattle.ckc_typed.specs.Environment.{same_name}
use Rattle.ckc_typed_fit.specs.Tests as tests
use Rattle.ckc_typed_fit.specs.Tests.{Tests, type_passes, type_parts, limits_pass, node_passes, expr_passes, Walked, left_by, pass_in_turn, act_walked, stmt_walked, walked_act, walked}
use Rattle.ckc_typed_plain.proofs.GivenLevels.{both, parts_of}

abbrev pub Layer : Type 0
Layer = Node-F Name (Unit {0}) NamedLimits NamedNode NamedExpr

abbrev pub ActLayer : Type 0
ActLayer = Act-F Name (Unit {0}) NamedAct NamedStmt

-- a name is among those that are visible
abbrev pub Has : List Name → Name → Type 0
Has visible n = list_any (same_name n) visible ≡ true

abbrev pub Sub : List Name → List Name → Type 0
Sub vs us = (n : Name) → Has vs n → Has us n

any_append : (p : Name → Bool) (xs ys : List Name) → list_any p (xs ++ ys) ≡ (list_any p xs || list_any p ys)
any_append p [] ys = refl
any_append p (x ∷ xs) ys = ap (λ b. p x || b) (any_append p xs ys) ∙ assoc (p x) (list_any p xs) (list_any p ys)
  where
    assoc : (a b c : Bool) → (a || (b || c)) ≡ ((a || b) || c)
    assoc true b c = refl
    assoc false b c = refl

or_left : (a b : Bool) → a ≡ true → (a || b) ≡ true
or_left a b h = ap (λ c. c || b) h

or_right : (a b : Bool) → b ≡ true → (a || b) ≡ true
or_right true b h = refl
or_right false b h = h

pub sub_front : (vs ws : List Name) → Sub vs (vs ++ ws)
sub_front vs ws n h = any_append (same_name n) vs ws ∙ or_left _ _ h

pub sub_back : (vs ws : List Name) → Sub ws (vs ++ ws)
sub_back vs ws n h = any_append (same_name n) vs ws ∙ or_right _ _ h

pub sub_both : (vs us xs ys : List Name) → Sub vs us → Sub xs ys → Sub (vs ++ xs) (us ++ ys)
sub_both vs us xs ys f g n h =
    any_append (same_name n) us ys ∙ by (list_any (same_name n) vs) refl (sym (any_append (same_name n) vs xs) ∙ h)
  where
    by : (b : Bool) → list_any (same_name n) vs ≡ b → (b || list_any (same_name n) xs) ≡ true → (list_any (same_name n) us || list_any (same_name n) ys) ≡ true
    by true is k = or_left _ _ (f n is)
    by false is k = or_right _ _ (g n k)

pub left_append : (xs ys : List Walked) → left_by (xs ++ ys) ≡ left_by xs ++ left_by ys
left_append [] ys = refl
left_append (x ∷ xs) ys = ap (λ l. x.leaves ++ l) (left_append xs ys) ∙ sym (append_assoc x.leaves (left_by xs) (left_by ys))

pass_append : (xs ys : List Walked) (visible : List Name) → pass_in_turn (xs ++ ys) visible ≡ (pass_in_turn xs visible && pass_in_turn ys (visible ++ left_by xs))
pass_append [] ys visible = ap (pass_in_turn ys) (sym (append-nil visible))
pass_append (x ∷ xs) ys visible =
    ap (λ b. x.passes visible && b) (pass_append xs ys (visible ++ x.leaves))
    ∙ ap (λ v. x.passes visible && (pass_in_turn xs (visible ++ x.leaves) && pass_in_turn ys v)) (append_assoc visible x.leaves (left_by xs))
    ∙ assoc (x.passes visible) (pass_in_turn xs (visible ++ x.leaves)) (pass_in_turn ys (visible ++ (x.leaves ++ left_by xs)))
  where
    assoc : (a b c : Bool) → (a && (b && c)) ≡ ((a && b) && c)
    assoc true b c = refl
    assoc false b c = refl

pub map_append : {X Y : Type 0} (f : X → Y) (xs ys : List X) → map f (xs ++ ys) ≡ map f xs ++ map f ys
map_append f [] ys = refl
map_append f (x ∷ xs) ys = ap (λ l. f x ∷ l) (map_append f xs ys)

node_back : (n : NamedNode) → roll-Node Name (Unit {0}) (out-Node Name (Unit {0}) n) ≡ n
node_back n = search (rules, the_lemmas)

-- Tests whose names pass where more is visible, and pass where they are visible as locals.
pub record AreTame (T : Tests) : Type 0 where
  pub more : (vs us : List Name) → Sub vs us → (n : Name) → T.name vs n ≡ true → T.name us n ≡ true
  pub own : (us : List Name) (n : Name) → Has us n → T.name us n ≡ true

module _ (T : Tests) (tame : AreTame T) where
  abbrev pub W : NamedStmt → Walked
  W = walked T

  -- what is visible behind statements, and that they pass
  abbrev pub At : List Name → List NamedStmt → List Name
  At ws ss = ws ++ left_by (map W ss)

  abbrev pub Pass : List Name → List NamedStmt → Type 0
  Pass ws ss = pass_in_turn (map W ss) ws ≡ true

  pub at_append : (ws : List Name) (ss ts : List NamedStmt) → At ws (ss ++ ts) ≡ At ws ss ++ left_by (map W ts)
  at_append ws ss ts =
      ap (λ l. ws ++ left_by l) (map_append W ss ts) ∙ ap (λ l. ws ++ l) (left_append (map W ss) (map W ts)) ∙ sym (append_assoc ws (left_by (map W ss)) (left_by (map W ts)))

  pub grown : (ws : List Name) (ss ts : List NamedStmt) → Sub (At ws ss) (At ws (ss ++ ts))
  grown ws ss ts = subst (Sub (At ws ss)) (sym (at_append ws ss ts)) (sub_front (At ws ss) (left_by (map W ts)))

  pub pass_more : (ws : List Name) (ss ts : List NamedStmt) → Pass ws ss → Pass (At ws ss) ts → Pass ws (ss ++ ts)
  pass_more ws ss ts h g = ap (λ l. pass_in_turn l ws) (map_append W ss ts) ∙ pass_append (map W ss) (map W ts) ws ∙ both _ _ h g

  pub one_pass : (ws : List Name) (ss : List NamedStmt) (s : NamedStmt) → Pass ws ss → (W s).passes (At ws ss) ≡ true → Pass ws (ss ++ s ∷ [])
  one_pass ws ss s h g = pass_more ws ss (s ∷ []) h (both _ _ g refl)

  -- ---- one level

  abbrev inside : List Name → Layer → Node-F Name (Unit {0}) Bool Bool Bool
  inside us = map-Node Name (Unit {0}) NamedLimits NamedNode NamedExpr Bool Bool Bool (limits_pass T us) (node_passes T us) (expr_passes T us)

  abbrev pub PE : List Name → NamedExpr → Type 0
  PE us e = expr_passes T us e ≡ true

  abbrev PN : List Name → NamedNode → Type 0
  PN us n = node_passes T us n ≡ true

  abbrev PL : List Name → NamedLimits → Type 0
  PL us l = limits_pass T us l ≡ true

  node_is : (us : List Name) (x : Layer) → node_passes T us (roll-Node Name (Unit {0}) x) ≡ tests.node_parts T us (inside us x)
  node_is us x = fold-roll-Node Name (Unit {0}) Bool Bool Bool tests.limits_parts (tests.node_parts T us) tests.expr_parts x

  expr_is : (us : List Name) (e : NamedExpr) → expr_passes T us e ≡ node_passes T us e.node
  expr_is us e = fold-roll-Expr Name (Unit {0}) Bool Bool Bool tests.limits_parts (tests.node_parts T us) tests.expr_parts (record { node = e.node; pos = e.pos; note = tt })

  passes : (us : List Name) (x : Layer) (n : NamedNode) → roll-Node Name (Unit {0}) x ≡ n → tests.node_parts T us (inside us x) ≡ true → PN us n
  passes us x n is h = ap (node_passes T us) (sym is) ∙ node_is us x ∙ h

  pub expr_pass : (us : List Name) (x : Layer) (n : NamedNode) (pos : Pos) → roll-Node Name (Unit {0}) x ≡ n → tests.node_parts T us (inside us x) ≡ true → PE us (expr_at n pos)
  expr_pass us x n pos is h = expr_is us (expr_at n pos) ∙ passes us x n is h

  layer_pass : (us : List Name) (e : NamedExpr) → PE us e → tests.node_parts T us (inside us (out-Node Name (Unit {0}) e.node)) ≡ true
  layer_pass us e h = sym (node_is us (out-Node Name (Unit {0}) e.node)) ∙ ap (node_passes T us) (node_back e.node) ∙ sym (expr_is us e) ∙ h

  abbrev pub walked_inside : ActLayer → Act-F Name (Unit {0}) Walked Walked
  walked_inside = map-Act Name (Unit {0}) NamedAct NamedStmt Walked Walked (walked_act T) W

  pub walked_at : (x : ActLayer) (a : NamedAct) (pos : Pos) → roll-Act Name (Unit {0}) x ≡ a → W (stmt_at a pos) ≡ act_walked T (walked_inside x)
  walked_at x a pos is =
      fold-roll-Stmt Name (Unit {0}) Walked Walked (act_walked T) stmt_walked (record { body = a; pos = pos; note = tt })
      ∙ ap (walked_act T) (sym is) ∙ fold-roll-Act Name (Unit {0}) Walked Walked (act_walked T) stmt_walked x

  pub stmt_pass : (us : List Name) (x : ActLayer) (a : NamedAct) (pos : Pos) → roll-Act Name (Unit {0}) x ≡ a → (act_walked T (walked_inside x)).passes us ≡ true → (W (stmt_at a pos)).passes us ≡ true
  stmt_pass us x a pos is h = ap (λ (w : Walked). w.passes us) (walked_at x a pos is) ∙ h

  integer_passes : (t : Integer) → type_passes T (type_of t) ≡ true
  integer_passes integer.Int = ap (type_passes T) (sym ctype.rolls-Int) ∙ fold-roll-TypeTree Name Bool (type_parts T) TypeTree-F.Int
  integer_passes integer.Unsigned = ap (type_passes T) (sym ctype.rolls-Unsigned) ∙ fold-roll-TypeTree Name Bool (type_parts T) TypeTree-F.Unsigned
  integer_passes integer.Char = ap (type_passes T) (sym ctype.rolls-Char) ∙ fold-roll-TypeTree Name Bool (type_parts T) TypeTree-F.Char

  local_pass : (us : List Name) (k : ℕ) (pos : Pos) → Has us (name.Local k) → PE us (local_at k pos)
  local_pass us k pos h = expr_pass us (Node-F.Name (name.Local k)) _ pos (node.rolls-Name (name.Local k)) (tame.own us (name.Local k) h)

  pub number_pass : (us : List Name) (n : ℕ) (pos : Pos) → PE us (number_at n pos)
  number_pass us n pos = expr_pass us (Node-F.Number n false) _ pos (node.rolls-Number n false) refl

  assign_pass : (us : List Name) (x e : NamedExpr) (pos : Pos) → PE us x → PE us e → (W (assign_at x e pos)).passes us ≡ true
  assign_pass us x e pos h g = stmt_pass us (Act-F.Assign x e) _ pos (act.rolls-Assign x e) (both _ _ h g)

  declare_pass : (us : List Name) (t : Integer) (k : ℕ) (e : NamedExpr) (pos : Pos) → PE us e → (W (declare_at t k e pos)).passes us ≡ true
  declare_pass us t k e pos h = stmt_pass us (Act-F.Local _) _ pos (act.rolls-Local _) (both _ _ (integer_passes t) h)

  -- a fresh local is visible behind its declaration
  declared : (ws : List Name) (ss : List NamedStmt) (t : Integer) (k : ℕ) (e : NamedExpr) (pos : Pos) → Has (At ws (ss ++ declare_at t k e pos ∷ [])) (name.Local k)
  declared ws ss t k e pos =
      let left : left_by (map W (declare_at t k e pos ∷ [])) ≡ name.Local k ∷ [] = ap (λ (w : Walked). w.leaves ++ []) (walked_at (Act-F.Local _) _ pos (act.rolls-Local _)) in
      subst (λ us. Has us (name.Local k)) (sym (at_append ws ss (declare_at t k e pos ∷ [])))
      (sub_back (At ws ss) (left_by (map W (declare_at t k e pos ∷ []))) (name.Local k) (subst (λ us. Has us (name.Local k)) (sym left) (or_left (k == k) false (eq-eqb k k refl))))

  -- ---- more is visible

  abbrev LimitsMore : NamedLimits → Type 0
  LimitsMore l = (vs us : List Name) → Sub vs us → PL vs l → PL us l

  abbrev NodeMore : NamedNode → Type 0
  NodeMore n = (vs us : List Name) → Sub vs us → PN vs n → PN us n

  abbrev ExprMore : NamedExpr → Type 0
  ExprMore e = (vs us : List Name) → Sub vs us → PE vs e → PE us e

  abbrev MoreLimits : Type 0
  MoreLimits = (l : NamedLimits) × LimitsMore l

  abbrev MoreNode : Type 0
  MoreNode = (n : NamedNode) × NodeMore n

  abbrev MoreExpr : Type 0
  MoreExpr = (e : NamedExpr) × ExprMore e

  abbrev LimitsLayer : Type 0
  LimitsLayer = Limits-F Name (Unit {0}) NamedLimits NamedNode NamedExpr

  abbrev limits_tests : List Name → LimitsLayer → Limits-F Name (Unit {0}) Bool Bool Bool
  limits_tests us = map-Limits Name (Unit {0}) NamedLimits NamedNode NamedExpr Bool Bool Bool (limits_pass T us) (node_passes T us) (expr_passes T us)

  abbrev more_limits : Limits-F Name (Unit {0}) MoreLimits MoreNode MoreExpr → LimitsLayer
  more_limits = map-Limits Name (Unit {0}) MoreLimits MoreNode MoreExpr NamedLimits NamedNode NamedExpr (λ e. e.0) (λ e. e.0) (λ e. e.0)

  abbrev more_node : Node-F Name (Unit {0}) MoreLimits MoreNode MoreExpr → Layer
  more_node = map-Node Name (Unit {0}) MoreLimits MoreNode MoreExpr NamedLimits NamedNode NamedExpr (λ e. e.0) (λ e. e.0) (λ e. e.0)

  abbrev more_expr : Expr-F Name (Unit {0}) MoreLimits MoreNode MoreExpr → Expr-F Name (Unit {0}) NamedLimits NamedNode NamedExpr
  more_expr = map-Expr Name (Unit {0}) MoreLimits MoreNode MoreExpr NamedLimits NamedNode NamedExpr (λ e. e.0) (λ e. e.0) (λ e. e.0)

  both_more : (a b c d : Bool) → (a ≡ true → c ≡ true) → (b ≡ true → d ≡ true) → (a && b) ≡ true → (c && d) ≡ true
  both_more a b c d f g h = let hs = parts_of a b h in both c d (f hs.0) (g hs.1)

  limits_more : (y : Limits-F Name (Unit {0}) MoreLimits MoreNode MoreExpr) (vs us : List Name) → Sub vs us → tests.limits_parts (limits_tests vs (more_limits y)) ≡ true → tests.limits_parts (limits_tests us (more_limits y)) ≡ true
  limits_more (Limits-F.Count k pos) vs us s h = k.1 vs us s h
  limits_more (Limits-F.ByteCount k pos) vs us s h = k.1 vs us s h
  limits_more (Limits-F.Between k j pos) vs us s h = both_more _ _ _ _ (k.1 vs us s) (j.1 vs us s) h
  limits_more (Limits-F.Unknown pos) vs us s h = refl

  each_more : (ks : List MoreExpr) (vs us : List Name) → Sub vs us → list_all (λ (b : Bool). b) (map (expr_passes T vs) (map (λ (k : MoreExpr). k.0) ks)) ≡ true
      → list_all (λ (b : Bool). b) (map (expr_passes T us) (map (λ (k : MoreExpr). k.0) ks)) ≡ true
  each_more [] vs us s h = refl
  each_more (k ∷ ks) vs us s h = both_more _ _ _ _ (k.1 vs us s) (each_more ks vs us s) h

  node_more : (y : Node-F Name (Unit {0}) MoreLimits MoreNode MoreExpr) (vs us : List Name) → Sub vs us → tests.node_parts T vs (inside vs (more_node y)) ≡ true → tests.node_parts T us (inside us (more_node y)) ≡ true
  node_more (Node-F.Number n unsigned) vs us s h = refl
  node_more (Node-F.Text bytes) vs us s h = refl
  node_more Node-F.Null vs us s h = refl
  node_more (Node-F.Name n) vs us s h = tame.more vs us s n h
  node_more (Node-F.Un o k) vs us s h = k.1 vs us s h
  node_more (Node-F.Bin o k j) vs us s h = both_more _ _ _ _ (k.1 vs us s) (j.1 vs us s) h
  node_more (Node-F.Pick k j i) vs us s h = both_more _ _ _ _ (both_more _ _ _ _ (k.1 vs us s) (j.1 vs us s)) (i.1 vs us s) h
  node_more (Node-F.Index k j) vs us s h = both_more _ _ _ _ (k.1 vs us s) (j.1 vs us s) h
  node_more (Node-F.Dot k n at) vs us s h = both_more _ _ _ _ (k.1 vs us s) (λ x. x) h
  node_more (Node-F.Arrow k n at) vs us s h = both_more _ _ _ _ (k.1 vs us s) (λ x. x) h
  node_more (Node-F.Cast t k) vs us s h = both_more _ _ _ _ (λ x. x) (k.1 vs us s) h
  node_more (Node-F.Size t) vs us s h = h
  node_more (Node-F.Trusted t k None) vs us s h = both_more _ _ _ _ (λ x. x) (both_more _ _ _ _ (k.1 vs us s) (λ x. x)) h
  node_more (Node-F.Trusted t k (Some l)) vs us s h = both_more _ _ _ _ (λ x. x) (both_more _ _ _ _ (k.1 vs us s) (l.1 vs us s)) h
  node_more (Node-F.Tested t k None) vs us s h = both_more _ _ _ _ (λ x. x) (both_more _ _ _ _ (k.1 vs us s) (λ x. x)) h
  node_more (Node-F.Tested t k (Some l)) vs us s h = both_more _ _ _ _ (λ x. x) (both_more _ _ _ _ (k.1 vs us s) (l.1 vs us s)) h
  node_more (Node-F.Call n ks) vs us s h = both_more _ _ _ _ (each_more ks vs us s) (tame.more vs us s n) h
  node_more (Node-F.Calloc t k u) vs us s h = both_more _ _ _ _ (λ x. x) (both_more _ _ _ _ (k.1 vs us s) (λ x. x)) h

  more_limits_by : (x : LimitsLayer) (y : Limits-F Name (Unit {0}) MoreLimits MoreNode MoreExpr) → more_limits y ≡ x → LimitsMore (roll-Limits Name (Unit {0}) x)
  more_limits_by x y is vs us s h =
      fold-roll-Limits Name (Unit {0}) Bool Bool Bool tests.limits_parts (tests.node_parts T us) tests.expr_parts x
      ∙ subst (λ z. tests.limits_parts (limits_tests vs z) ≡ true → tests.limits_parts (limits_tests us z) ≡ true) is (limits_more y vs us s)
      (sym (fold-roll-Limits Name (Unit {0}) Bool Bool Bool tests.limits_parts (tests.node_parts T vs) tests.expr_parts x) ∙ h)

  more_node_by : (x : Layer) (y : Node-F Name (Unit {0}) MoreLimits MoreNode MoreExpr) → more_node y ≡ x → NodeMore (roll-Node Name (Unit {0}) x)
  more_node_by x y is vs us s h =
      node_is us x ∙ subst (λ z. tests.node_parts T vs (inside vs z) ≡ true → tests.node_parts T us (inside us z) ≡ true) is (node_more y vs us s) (sym (node_is vs x) ∙ h)

  more_expr_by : (x : Expr-F Name (Unit {0}) NamedLimits NamedNode NamedExpr) (y : Expr-F Name (Unit {0}) MoreLimits MoreNode MoreExpr) → more_expr y ≡ x → ExprMore (roll-Expr Name (Unit {0}) x)
  more_expr_by x y is =
      subst (λ z. ExprMore (roll-Expr Name (Unit {0}) z)) is (λ vs us s h.
      expr_is us (roll-Expr Name (Unit {0}) (more_expr y)) ∙ y.node.1 vs us s (sym (expr_is vs (roll-Expr Name (Unit {0}) (more_expr y))) ∙ h))

  -- bounds that pass where some names are visible pass where more are
  pub bounds_more : (l : NamedLimits) → LimitsMore l
  bounds_more = ind-Limits Name (Unit {0}) LimitsMore NodeMore ExprMore more_limits_by more_node_by more_expr_by

  -- ---- what is made, and what is then pending

  pub record Goes {X : Type 0} (P : List Name → X → Type 0) (ws : List Name) (p : Pending) (r : X × Pending) : Type 0 where
    pub is : (us : List Name) → Sub (At ws r.1.stmts) us → P us r.0
    pub pending : Pass ws r.1.stmts
    pub more : Sub (At ws p.stmts) (At ws r.1.stmts)

  sub_refl : (us : List Name) → Sub us us
  sub_refl us n h = h

  module _ (known : Integers) (ws : List Name) (p0 : Pending) where
    call_goes : (t : Option Integer) (e : NamedExpr) (p : Pending) → Goes PE ws p0 (e, p) → Goes PE ws p0 (call_taken t e p)
    call_goes None e p g = g
    call_goes (Some t) e p g =
        let now = p.stmts ++ declare_at t p.next e e.pos ∷ [] in
        record {
          is = λ us sub. local_pass us p.next e.pos (sub (name.Local p.next) (declared ws p.stmts t p.next e e.pos));
          pending = one_pass ws p.stmts _ g.pending (declare_pass (At ws p.stmts) t p.next e e.pos (g.is (At ws p.stmts) (sub_refl (At ws p.stmts))));
          more = λ n h. grown ws p.stmts (declare_at t p.next e e.pos ∷ []) n (g.more n h);
        }

    abbrev PassAfter : Pending → NamedExpr → Type 0
    PassAfter p x = (us : List Name) → Sub (At ws p.stmts) us → PE us x

    set_goes : (t : Option Integer) (x e : NamedExpr) (pos : Pos) (whole : NamedExpr) (p : Pending) → PassAfter p x → PassAfter p e → Goes PE ws p0 (whole, p) → Goes PE ws p0 (set_taken t x e pos whole p)
    set_goes None x e pos whole p h i g = g
    set_goes (Some t) x e pos whole p h i g = record {
      is = λ us sub. h us (λ n k. sub n (grown ws p.stmts (assign_at x e pos ∷ []) n k));
      pending = one_pass ws p.stmts _ g.pending (assign_pass (At ws p.stmts) x e pos (h (At ws p.stmts) (sub_refl (At ws p.stmts))) (i (At ws p.stmts) (sub_refl (At ws p.stmts))));
      more = λ n k. grown ws p.stmts (assign_at x e pos ∷ []) n (g.more n k);
    }

    step_goes : (t : Option Integer) (by : TreeOp) (x : NamedExpr) (pos : Pos) (whole : NamedExpr) (p : Pending) → PassAfter p x → Goes PE ws p0 (whole, p) → Goes PE ws p0 (step_taken t by x pos whole p)
    step_goes None by x pos whole p h g = g
    step_goes (Some t) by x pos whole p h g =
        let first = p.stmts ++ declare_at t p.next x pos ∷ [] in
        let new : NamedExpr = expr_at (node.Bin by x (number_at 1 pos)) pos in
        let here : PE (At ws first) x = h (At ws first) (grown ws p.stmts (declare_at t p.next x pos ∷ [])) in
        record {
          is = λ us sub. local_pass us p.next pos (sub (name.Local p.next) (grown ws first (assign_at x new pos ∷ []) (name.Local p.next) (declared ws p.stmts t p.next x pos)));
          pending = one_pass ws first _ (one_pass ws p.stmts _ g.pending (declare_pass (At ws p.stmts) t p.next x pos (h (At ws p.stmts) (sub_refl (At ws p.stmts)))))
              (assign_pass (At ws first) x new pos here (expr_pass (At ws first) (Node-F.Bin by x (number_at 1 pos)) _ pos (node.rolls-Bin by x (number_at 1 pos)) (both _ _ here (number_pass (At ws first) 1 pos))));
          more = λ n k. grown ws first (assign_at x new pos ∷ []) n (grown ws p.stmts (declare_at t p.next x pos ∷ []) n (g.more n k));
        }

    unary_goes : (w : Work) (x whole : NamedExpr) (p : Pending) → PassAfter p x → Goes PE ws p0 (whole, p) → Goes PE ws p0 (unary_taken known w x whole p)
    unary_goes (work.Steps by) x whole p h g = step_goes (integer_local known (form_of x)) by x whole.pos whole p h g
    unary_goes work.Sets x whole p h g = g
    unary_goes work.IfTrue x whole p h g = g
    unary_goes work.IfFalse x whole p h g = g
    unary_goes work.Computes x whole p h g = g

    binary_goes : (w : Work) (x e whole : NamedExpr) (p : Pending) → PassAfter p x → PassAfter p e → Goes PE ws p0 (whole, p) → Goes PE ws p0 (binary_taken known w x e whole p)
    binary_goes work.Sets x e whole p h i g = set_goes (integer_local known (form_of x)) x e whole.pos whole p h i g
    binary_goes (work.Steps by) x e whole p h i g = g
    binary_goes work.IfTrue x e whole p h i g = g
    binary_goes work.IfFalse x e whole p h i g = g
    binary_goes work.Computes x e whole p h i g = g

    layer_goes : (x : Layer) (whole : NamedExpr) (p : Pending) → ((us : List Name) → Sub (At ws p.stmts) us → tests.node_parts T us (inside us x) ≡ true) → Goes PE ws p0 (whole, p) → Goes PE ws p0 (node_taken known x whole p)
    layer_goes (Node-F.Un o x) whole p l g = unary_goes (work_of o) x whole p l g
    layer_goes (Node-F.Bin o x e) whole p l g =
        binary_goes (work_of o) x e whole p (λ us s. (parts_of (expr_passes T us x) (expr_passes T us e) (l us s)).0) (λ us s. (parts_of (expr_passes T us x) (expr_passes T us e) (l us s)).1) g
    layer_goes (Node-F.Call n es) whole p l g = call_goes (result_of known n) whole p g
    layer_goes _ whole p l g = g

    taken_goes : (r : NamedExpr × Pending) → Goes PE ws p0 r → Goes PE ws p0 (taken known r)
    taken_goes r g = layer_goes (out-Node Name (Unit {0}) r.0.node) r.0 r.1 (λ us s. layer_pass us r.0 (g.is us s)) g

    either : (b : Bool) (r : NamedExpr × Pending) → Goes PE ws p0 r → Goes PE ws p0 (if b then r else taken known r)
    either true r g = g
    either false r g = taken_goes r g

  -- ---- by parts

  module _ (known : Integers) where
    abbrev Holds : {X : Type 0} → (List Name → X → Type 0) → X → (Pending → X × Pending) → Type 0
    Holds P x k = (vs ws : List Name) (p : Pending) → P vs x → Sub vs (At ws p.stmts) → Pass ws p.stmts → Goes P ws p (k p)

    abbrev LimitsHold : NamedLimits → Type 0
    LimitsHold l = Holds PL l (limits_plain known l)

    abbrev NodeHolds : NamedNode → Type 0
    NodeHolds n = (pos : Pos) → Holds PN n (node_kept known n pos)

    abbrev pub ExprHolds : NamedExpr → Type 0
    ExprHolds e = Holds PE e (expr_kept known e)

    abbrev KeptLimits : Type 0
    KeptLimits = (l : NamedLimits) × LimitsHold l

    abbrev KeptNode : Type 0
    KeptNode = (n : NamedNode) × NodeHolds n

    abbrev KeptExpr : Type 0
    KeptExpr = (e : NamedExpr) × ExprHolds e

    abbrev inner_limits : Limits-F Name (Unit {0}) KeptLimits KeptNode KeptExpr → LimitsLayer
    inner_limits = map-Limits Name (Unit {0}) KeptLimits KeptNode KeptExpr NamedLimits NamedNode NamedExpr (λ e. e.0) (λ e. e.0) (λ e. e.0)

    abbrev inner_node : Node-F Name (Unit {0}) KeptLimits KeptNode KeptExpr → Layer
    inner_node = map-Node Name (Unit {0}) KeptLimits KeptNode KeptExpr NamedLimits NamedNode NamedExpr (λ e. e.0) (λ e. e.0) (λ e. e.0)

    abbrev inner_expr : Expr-F Name (Unit {0}) KeptLimits KeptNode KeptExpr → Expr-F Name (Unit {0}) NamedLimits NamedNode NamedExpr
    inner_expr = map-Expr Name (Unit {0}) KeptLimits KeptNode KeptExpr NamedLimits NamedNode NamedExpr (λ e. e.0) (λ e. e.0) (λ e. e.0)

    abbrev limits_inside : LimitsLayer → Limits-F Name (Unit {0}) OfLimits OfNode OfExpr
    limits_inside = map-Limits Name (Unit {0}) NamedLimits NamedNode NamedExpr OfLimits OfNode OfExpr (limits_plain known) (node_kept known) (expr_kept known)

    abbrev node_inside : Layer → Node-F Name (Unit {0}) OfLimits OfNode OfExpr
    node_inside = map-Node Name (Unit {0}) NamedLimits NamedNode NamedExpr OfLimits OfNode OfExpr (limits_plain known) (node_kept known) (expr_kept known)

    abbrev after_rest : KeptExpr → Pending → NamedExpr × Pending
    after_rest k p = rest known (expr_kept known k.0) p

    part : (k : KeptExpr) (vs ws : List Name) (p : Pending) → PE vs k.0 → Sub vs (At ws p.stmts) → Pass ws p.stmts → Goes PE ws p (after_rest k p)
    part k vs ws p h s g = taken_goes known ws p (expr_kept known k.0 p) (k.1 vs ws p h s g)

    -- a name that is seen is seen still
    further : (vs : List Name) (ws : List Name) (p q : Pending) → Sub vs (At ws p.stmts) → Sub (At ws p.stmts) (At ws q.stmts) → Sub vs (At ws q.stmts)
    further vs ws p q f g n h = g n (f n h)

    limits_made : (x : LimitsLayer) (l : NamedLimits) (us : List Name) → roll-Limits Name (Unit {0}) x ≡ l → tests.limits_parts (limits_tests us x) ≡ true → PL us l
    limits_made x l us is h = ap (limits_pass T us) (sym is) ∙ fold-roll-Limits Name (Unit {0}) Bool Bool Bool tests.limits_parts (tests.node_parts T us) tests.expr_parts x ∙ h

    limits_step : (y : Limits-F Name (Unit {0}) KeptLimits KeptNode KeptExpr) (vs ws : List Name) (p : Pending) → tests.limits_parts (limits_tests vs (inner_limits y)) ≡ true → Sub vs (At ws p.stmts) → Pass ws p.stmts
        → Goes PL ws p (limits_parts known (limits_inside (inner_limits y)) p)
    limits_step (Limits-F.Count k pos) vs ws p h s g =
        let m = part k vs ws p h s g in
        record { is = λ us f. limits_made (Limits-F.Count (after_rest k p).0 pos) _ us (limits.rolls-Count _ pos) (m.is us f); pending = m.pending; more = m.more }
    limits_step (Limits-F.ByteCount k pos) vs ws p h s g =
        let m = part k vs ws p h s g in
        record { is = λ us f. limits_made (Limits-F.ByteCount (after_rest k p).0 pos) _ us (limits.rolls-ByteCount _ pos) (m.is us f); pending = m.pending; more = m.more }
    limits_step (Limits-F.Between k j pos) vs ws p h s g =
        let hs = parts_of (expr_passes T vs k.0) (expr_passes T vs j.0) h in
        let m = part k vs ws p hs.0 s g in
        let q = (after_rest k p).1 in
        let n = part j vs ws q hs.1 (further vs ws p q s m.more) m.pending in
        record {
          is = λ us f. limits_made (Limits-F.Between (after_rest k p).0 (after_rest j q).0 pos) _ us (limits.rolls-Between _ _ pos) (both _ _ (m.is us (λ x y. f x (n.more x y))) (n.is us f));
          pending = n.pending;
          more = λ x y. n.more x (m.more x y);
        }
    limits_step (Limits-F.Unknown pos) vs ws p h s g = record { is = λ us f. limits_made (Limits-F.Unknown pos) _ us (limits.rolls-Unknown pos) refl; pending = g; more = λ x y. y }

    -- ---- `&&` and `||`

    abbrev Chosen : (NamedExpr → NamedStmt → Pos → NamedStmt) → Type 0
    Chosen chosen = (us : List Name) (a : NamedExpr) (ss : List NamedStmt) (pos at : Pos) → PE us a → Pass us ss → (W (chosen a (block_at ss at) pos)).passes us ≡ true

    block_pass : (us : List Name) (ss : List NamedStmt) (pos : Pos) → Pass us ss → (W (block_at ss pos)).passes us ≡ true
    block_pass us ss pos h = stmt_pass us (Act-F.Block None ss) _ pos (act.rolls-Block None ss) h

    true_passes : Chosen if_true
    true_passes us a ss pos at h g = stmt_pass us (Act-F.If a (block_at ss at) None) _ pos (act.rolls-If a (block_at ss at) None) (both _ _ h (both _ _ (block_pass us ss at g) refl))

    false_passes : Chosen if_false
    false_passes us a ss pos at h g =
        let empty : W (stmt_at act.Empty pos) ≡ act_walked T (walked_inside Act-F.Empty) = walked_at Act-F.Empty _ pos act.rolls-Empty in
        let same : us ++ (W (stmt_at act.Empty pos)).leaves ≡ us = ap (λ (w : Walked). us ++ w.leaves) empty ∙ append-nil us in
        stmt_pass us (Act-F.If a (stmt_at act.Empty pos) (Some (block_at ss at))) _ pos (act.rolls-If a (stmt_at act.Empty pos) (Some (block_at ss at)))
        (both _ _ h (both _ _ (ap (λ (w : Walked). w.passes us) empty) (ap (λ l. (W (block_at ss at)).passes l) same ∙ block_pass us ss at g)))

    -- what is made if the right operand leaves nothing pending, and if it does
    if_none_goes : (ss : List NamedStmt) (ws : List Name) (p0 : Pending) (a b : NamedNode × Pending) → (ss ≡ [] → Goes PN ws p0 a) → Goes PN ws p0 b → Goes PN ws p0 (if_none ss a b)
    if_none_goes [] ws p0 a b m n = m refl
    if_none_goes (s ∷ ss) ws p0 a b m n = n

    choice_goes : (o : TreeOp) (start : ℕ) (chosen : NamedExpr → NamedStmt → Pos → NamedStmt) → Chosen chosen → (pos : Pos) (ws : List Name) (p0 : Pending) (a b : NamedExpr × Pending) (n : ℕ) → Goes PE ws p0 a
        → ((us : List Name) → Sub (At ws a.1.stmts) us → Goes PE us (none_pending n) b) → Goes PN ws p0 (choice o start chosen pos a.0 b a.1)
    choice_goes o start chosen good pos ws p0 a b n g h =
        let started : List NamedStmt = a.1.stmts ++ declare_at integer.Int a.1.next (number_at start pos) pos ∷ [] in
        let here : List Name = At ws started in
        let truth : NamedExpr = expr_at (node.Bin op.Ne b.0 (number_at 0 pos)) pos in
        let seen : Sub (At ws a.1.stmts) here = grown ws a.1.stmts (declare_at integer.Int a.1.next (number_at start pos) pos ∷ []) in
        let k : Goes PE here (none_pending n) b = h here seen in
        let there : List Name = At here b.1.stmts in
        let own : Has here (name.Local a.1.next) = declared ws a.1.stmts integer.Int a.1.next (number_at start pos) pos in
        let set : NamedStmt = assign_at (local_at a.1.next pos) truth pos in
        let inner : Pass here (b.1.stmts ++ set ∷ []) =
        one_pass here b.1.stmts set k.pending (assign_pass there (local_at a.1.next pos) truth pos (local_pass there a.1.next pos (sub_front here (left_by (map W b.1.stmts)) (name.Local a.1.next) own))
        (expr_pass there (Node-F.Bin op.Ne b.0 (number_at 0 pos)) _ pos (node.rolls-Bin op.Ne b.0 (number_at 0 pos)) (both _ _ (k.is there (sub_refl there)) (number_pass there 0 pos)))) in
        let whole : NamedStmt = chosen a.0 (block_at (b.1.stmts ++ set ∷ []) pos) pos in
        if_none_goes b.1.stmts ws p0 _ _
        (λ none. record {
          is = λ us s.
              let e : Goes PE us (none_pending n) b = h us s in
              passes us (Node-F.Bin o a.0 b.0) _ (node.rolls-Bin o a.0 b.0)
              (both _ _ (g.is us s) (e.is us (subst (λ ss. Sub (At us ss) us) (sym none) (subst (λ l. Sub l us) (sym (append-nil us)) (sub_refl us)))));
          pending = g.pending;
          more = g.more;
        })
        (record {
          is = λ us s. passes us (Node-F.Name (name.Local a.1.next)) _ (node.rolls-Name (name.Local a.1.next)) (tame.own us (name.Local a.1.next) (s (name.Local a.1.next) (grown ws started (whole ∷ []) (name.Local a.1.next) own)));
          pending = one_pass ws started whole (one_pass ws a.1.stmts _ g.pending (declare_pass (At ws a.1.stmts) integer.Int a.1.next (number_at start pos) pos (number_pass (At ws a.1.stmts) start pos)))
              (good here a.0 (b.1.stmts ++ set ∷ []) pos pos (g.is here seen) inner);
          more = λ x y. grown ws started (whole ∷ []) x (seen x (g.more x y));
        })

    -- ---- two operands

    two_goes : (w : Work) (o : TreeOp) (k j : KeptExpr) (pos : Pos) (vs ws : List Name) (p : Pending) → PE vs k.0 → PE vs j.0 → Sub vs (At ws p.stmts) → Pass ws p.stmts
        → Goes PN ws p (binary_parts known w o (expr_kept known k.0) (expr_kept known j.0) pos p)
    two_goes work.Sets o k j pos vs ws p h i s g =
        let m = part k vs ws p h s g in
        let q = (after_rest k p).1 in
        let e = expr_kept known j.0 q in
        let v = stays (form_of (after_rest k p).0) (form_of e.0) in
        let n = either known ws q v e (j.1 vs ws q i (further vs ws p q s m.more) m.pending) in
        record {
          is = λ us f. passes us (Node-F.Bin o (after_rest k p).0 (if v then e else taken known e).0) _ (node.rolls-Bin o _ _) (both _ _ (m.is us (λ x y. f x (n.more x y))) (n.is us f));
          pending = n.pending;
          more = λ x y. n.more x (m.more x y);
        }
    two_goes work.IfTrue o k j pos vs ws p h i s g =
        let m = part k vs ws p h s g in
        let n = (after_rest k p).1.next + 1 in
        choice_goes o 0 if_true true_passes pos ws p (after_rest k p) (after_rest j (none_pending n)) n m
        (λ us f. part j vs us (none_pending n) i (subst (Sub vs) (sym (append-nil us)) (λ x y. f x (m.more x (s x y)))) refl)
    two_goes work.IfFalse o k j pos vs ws p h i s g =
        let m = part k vs ws p h s g in
        let n = (after_rest k p).1.next + 1 in
        choice_goes o 1 if_false false_passes pos ws p (after_rest k p) (after_rest j (none_pending n)) n m
        (λ us f. part j vs us (none_pending n) i (subst (Sub vs) (sym (append-nil us)) (λ x y. f x (m.more x (s x y)))) refl)
    two_goes (work.Steps by) o k j pos vs ws p h i s g =
        let m = part k vs ws p h s g in
        let q = (after_rest k p).1 in
        let n = part j vs ws q i (further vs ws p q s m.more) m.pending in
        record {
          is = λ us f. passes us (Node-F.Bin o (after_rest k p).0 (after_rest j q).0) _ (node.rolls-Bin o _ _) (both _ _ (m.is us (λ x y. f x (n.more x y))) (n.is us f));
          pending = n.pending;
          more = λ x y. n.more x (m.more x y);
        }
    two_goes work.Computes o k j pos vs ws p h i s g =
        let m = part k vs ws p h s g in
        let q = (after_rest k p).1 in
        let n = part j vs ws q i (further vs ws p q s m.more) m.pending in
        record {
          is = λ us f. passes us (Node-F.Bin o (after_rest k p).0 (after_rest j q).0) _ (node.rolls-Bin o _ _) (both _ _ (m.is us (λ x y. f x (n.more x y))) (n.is us f));
          pending = n.pending;
          more = λ x y. n.more x (m.more x y);
        }

    abbrev PEs : List Name → List NamedExpr → Type 0
    PEs us es = list_all (λ (b : Bool). b) (map (expr_passes T us) es) ≡ true

    abbrev firsts : List KeptExpr → List NamedExpr
    firsts ks = map (λ (k : KeptExpr). k.0) ks

    list_goes : (ks : List KeptExpr) (vs ws : List Name) (p : Pending) → PEs vs (firsts ks) → Sub vs (At ws p.stmts) → Pass ws p.stmts → Goes PEs ws p (each_rest known (map (expr_kept known) (firsts ks)) p)
    list_goes [] vs ws p h s g = record { is = λ us f. refl; pending = g; more = λ x y. y }
    list_goes (k ∷ ks) vs ws p h s g =
        let hs = parts_of (expr_passes T vs k.0) (list_all (λ (b : Bool). b) (map (expr_passes T vs) (firsts ks))) h in
        let m = part k vs ws p hs.0 s g in
        let q = (after_rest k p).1 in
        let n = list_goes ks vs ws q hs.1 (further vs ws p q s m.more) m.pending in
        record {
          is = λ us f. both _ _ (m.is us (λ x y. f x (n.more x y))) (n.is us f);
          pending = n.pending;
          more = λ x y. n.more x (m.more x y);
        }

    -- ---- every node

    leaf_goes : (x : Layer) (n : NamedNode) (ws : List Name) (p : Pending) → roll-Node Name (Unit {0}) x ≡ n → ((us : List Name) → Sub (At ws p.stmts) us → tests.node_parts T us (inside us x) ≡ true) → Pass ws p.stmts → Goes PN ws p (n, p)
    leaf_goes x n ws p is h g = record { is = λ us f. passes us x n is (h us f); pending = g; more = λ y z. z }

    node_step : (y : Node-F Name (Unit {0}) KeptLimits KeptNode KeptExpr) (pos : Pos) (vs ws : List Name) (p : Pending) → tests.node_parts T vs (inside vs (inner_node y)) ≡ true → Sub vs (At ws p.stmts) → Pass ws p.stmts
        → Goes PN ws p (node_parts known (node_inside (inner_node y)) pos p)
    node_step (Node-F.Number n unsigned) pos vs ws p h s g = leaf_goes (Node-F.Number n unsigned) _ ws p (node.rolls-Number n unsigned) (λ us f. refl) g
    node_step (Node-F.Text bytes) pos vs ws p h s g = leaf_goes (Node-F.Text bytes) _ ws p (node.rolls-Text bytes) (λ us f. refl) g
    node_step Node-F.Null pos vs ws p h s g = leaf_goes Node-F.Null _ ws p node.rolls-Null (λ us f. refl) g
    node_step (Node-F.Name n) pos vs ws p h s g = leaf_goes (Node-F.Name n) _ ws p (node.rolls-Name n) (λ us f. tame.more vs us (λ x y. f x (s x y)) n h) g
    node_step (Node-F.Size t) pos vs ws p h s g = leaf_goes (Node-F.Size t) _ ws p (node.rolls-Size t) (λ us f. h) g
    node_step (Node-F.Bin o k j) pos vs ws p h s g =
        let hs = parts_of (expr_passes T vs k.0) (expr_passes T vs j.0) h in
        two_goes (work_of o) o k j pos vs ws p hs.0 hs.1 s g
    node_step (Node-F.Un o k) pos vs ws p h s g =
        let m = part k vs ws p h s g in
        record { is = λ us f. passes us (Node-F.Un o (after_rest k p).0) _ (node.rolls-Un o _) (m.is us f); pending = m.pending; more = m.more }
    node_step (Node-F.Dot k n at) pos vs ws p h s g =
        let hs = parts_of (expr_passes T vs k.0) (T.member n) h in
        let m = part k vs ws p hs.0 s g in
        record { is = λ us f. passes us (Node-F.Dot (after_rest k p).0 n at) _ (node.rolls-Dot _ n at) (both _ _ (m.is us f) hs.1); pending = m.pending; more = m.more }
    node_step (Node-F.Arrow k n at) pos vs ws p h s g =
        let hs = parts_of (expr_passes T vs k.0) (T.member n) h in
        let m = part k vs ws p hs.0 s g in
        record { is = λ us f. passes us (Node-F.Arrow (after_rest k p).0 n at) _ (node.rolls-Arrow _ n at) (both _ _ (m.is us f) hs.1); pending = m.pending; more = m.more }
    node_step (Node-F.Cast t k) pos vs ws p h s g =
        let hs = parts_of (type_passes T t) (expr_passes T vs k.0) h in
        let m = part k vs ws p hs.1 s g in
        record { is = λ us f. passes us (Node-F.Cast t (after_rest k p).0) _ (node.rolls-Cast t _) (both _ _ hs.0 (m.is us f)); pending = m.pending; more = m.more }
    node_step (Node-F.Calloc t k u) pos vs ws p h s g =
        let hs = parts_of (type_passes T t) (expr_passes T vs k.0 && type_passes T u) h in
        let gs = parts_of (expr_passes T vs k.0) (type_passes T u) hs.1 in
        let m = part k vs ws p gs.0 s g in
        record { is = λ us f. passes us (Node-F.Calloc t (after_rest k p).0 u) _ (node.rolls-Calloc t _ u) (both _ _ hs.0 (both _ _ (m.is us f) gs.1)); pending = m.pending; more = m.more }
    node_step (Node-F.Call n ks) pos vs ws p h s g =
        let hs = parts_of (list_all (λ (b : Bool). b) (map (expr_passes T vs) (firsts ks))) (T.name vs n) h in
        let m = list_goes ks vs ws p hs.0 s g in
        record {
          is = λ us f. passes us (Node-F.Call n (each_rest known (map (expr_kept known) (firsts ks)) p).0) _ (node.rolls-Call n _)
              (both _ _ (m.is us f) (tame.more vs us (λ x y. f x (m.more x (s x y))) n hs.1));
          pending = m.pending;
          more = m.more;
        }
    node_step (Node-F.Index k j) pos vs ws p h s g =
        let hs = parts_of (expr_passes T vs k.0) (expr_passes T vs j.0) h in
        let m = part k vs ws p hs.0 s g in
        let q = (after_rest k p).1 in
        let n = part j vs ws q hs.1 (further vs ws p q s m.more) m.pending in
        record {
          is = λ us f. passes us (Node-F.Index (after_rest k p).0 (after_rest j q).0) _ (node.rolls-Index _ _) (both _ _ (m.is us (λ x y. f x (n.more x y))) (n.is us f));
          pending = n.pending;
          more = λ x y. n.more x (m.more x y);
        }
    node_step (Node-F.Pick k j i) pos vs ws p h s g =
        let hs = parts_of (expr_passes T vs k.0 && expr_passes T vs j.0) (expr_passes T vs i.0) h in
        let gs = parts_of (expr_passes T vs k.0) (expr_passes T vs j.0) hs.0 in
        let m = part k vs ws p gs.0 s g in
        let q = (after_rest k p).1 in
        let n = part j vs ws q gs.1 (further vs ws p q s m.more) m.pending in
        let r = (after_rest j q).1 in
        let l = part i vs ws r hs.1 (further vs ws q r (further vs ws p q s m.more) n.more) n.pending in
        record {
          is = λ us f. passes us (Node-F.Pick (after_rest k p).0 (after_rest j q).0 (after_rest i r).0) _ (node.rolls-Pick _ _ _)
              (both _ _ (both _ _ (m.is us (λ x y. f x (l.more x (n.more x y)))) (n.is us (λ x y. f x (l.more x y)))) (l.is us f));
          pending = l.pending;
          more = λ x y. l.more x (n.more x (m.more x y));
        }
    node_step (Node-F.Trusted t k None) pos vs ws p h s g =
        let hs = parts_of (type_passes T t) (expr_passes T vs k.0 && true) h in
        let m = part k vs ws p (parts_of (expr_passes T vs k.0) true hs.1).0 s g in
        record { is = λ us f. passes us (Node-F.Trusted t (after_rest k p).0 None) _ (node.rolls-Trusted t _ None) (both _ _ hs.0 (both _ _ (m.is us f) refl)); pending = m.pending; more = m.more }
    node_step (Node-F.Trusted t k (Some l)) pos vs ws p h s g =
        let hs = parts_of (type_passes T t) (expr_passes T vs k.0 && limits_pass T vs l.0) h in
        let gs = parts_of (expr_passes T vs k.0) (limits_pass T vs l.0) hs.1 in
        let m = part k vs ws p gs.0 s g in
        let q = (after_rest k p).1 in
        let n = l.1 vs ws q gs.1 (further vs ws p q s m.more) m.pending in
        record {
          is = λ us f. passes us (Node-F.Trusted t (after_rest k p).0 (Some (limits_plain known l.0 q).0)) _ (node.rolls-Trusted t _ (Some _)) (both _ _ hs.0 (both _ _ (m.is us (λ x y. f x (n.more x y))) (n.is us f)));
          pending = n.pending;
          more = λ x y. n.more x (m.more x y);
        }
    node_step (Node-F.Tested t k None) pos vs ws p h s g =
        let hs = parts_of (type_passes T t) (expr_passes T vs k.0 && true) h in
        let m = part k vs ws p (parts_of (expr_passes T vs k.0) true hs.1).0 s g in
        record { is = λ us f. passes us (Node-F.Tested t (after_rest k p).0 None) _ (node.rolls-Tested t _ None) (both _ _ hs.0 (both _ _ (m.is us f) refl)); pending = m.pending; more = m.more }
    node_step (Node-F.Tested t k (Some l)) pos vs ws p h s g =
        let hs = parts_of (type_passes T t) (expr_passes T vs k.0 && limits_pass T vs l.0) h in
        let gs = parts_of (expr_passes T vs k.0) (limits_pass T vs l.0) hs.1 in
        let m = part k vs ws p gs.0 s g in
        let q = (after_rest k p).1 in
        let n = l.1 vs ws q gs.1 (further vs ws p q s m.more) m.pending in
        record {
          is = λ us f. passes us (Node-F.Tested t (after_rest k p).0 (Some (limits_plain known l.0 q).0)) _ (node.rolls-Tested t _ (Some _)) (both _ _ hs.0 (both _ _ (m.is us (λ x y. f x (n.more x y))) (n.is us f)));
          pending = n.pending;
          more = λ x y. n.more x (m.more x y);
        }

    limits_by : (x : LimitsLayer) (y : Limits-F Name (Unit {0}) KeptLimits KeptNode KeptExpr) → inner_limits y ≡ x → LimitsHold (roll-Limits Name (Unit {0}) x)
    limits_by x y is vs ws p h s g =
        subst (Goes PL ws p) (sym (ap (λ f. f p) (fold-roll-Limits Name (Unit {0}) OfLimits OfNode OfExpr (limits_parts known) (node_parts known) expr_parts x)))
        (subst (λ z. tests.limits_parts (limits_tests vs z) ≡ true → Goes PL ws p (limits_parts known (limits_inside z) p)) is (λ w. limits_step y vs ws p w s g)
        (sym (fold-roll-Limits Name (Unit {0}) Bool Bool Bool tests.limits_parts (tests.node_parts T vs) tests.expr_parts x) ∙ h))

    node_by : (x : Layer) (y : Node-F Name (Unit {0}) KeptLimits KeptNode KeptExpr) → inner_node y ≡ x → NodeHolds (roll-Node Name (Unit {0}) x)
    node_by x y is pos vs ws p h s g =
        subst (Goes PN ws p) (sym (ap (λ f. f pos p) (fold-roll-Node Name (Unit {0}) OfLimits OfNode OfExpr (limits_parts known) (node_parts known) expr_parts x)))
        (subst (λ z. tests.node_parts T vs (inside vs z) ≡ true → Goes PN ws p (node_parts known (node_inside z) pos p)) is (λ w. node_step y pos vs ws p w s g) (sym (node_is vs x) ∙ h))

    expr_by : (x : Expr-F Name (Unit {0}) NamedLimits NamedNode NamedExpr) (y : Expr-F Name (Unit {0}) KeptLimits KeptNode KeptExpr) → inner_expr y ≡ x → ExprHolds (roll-Expr Name (Unit {0}) x)
    expr_by x y is =
        subst (λ z. ExprHolds (roll-Expr Name (Unit {0}) z)) is (λ vs ws p h s g.
        let m = y.node.1 y.pos vs ws p (sym (expr_is vs (roll-Expr Name (Unit {0}) (inner_expr y))) ∙ h) s g in
        subst (Goes PE ws p) (sym (ap (λ f. f p) (fold-roll-Expr Name (Unit {0}) OfLimits OfNode OfExpr (limits_parts known) (node_parts known) expr_parts (inner_expr y))))
        (record { is = λ us f. expr_is us (expr_at (node_kept known y.node.0 y.pos p).0 y.pos) ∙ m.is us f; pending = m.pending; more = m.more }))

    pub kept_goes : (e : NamedExpr) → ExprHolds e
    kept_goes = ind-Expr Name (Unit {0}) LimitsHold NodeHolds ExprHolds limits_by node_by expr_by

    pub plain_goes : (e : NamedExpr) (vs ws : List Name) (p : Pending) → PE vs e → Sub vs (At ws p.stmts) → Pass ws p.stmts → Goes PE ws p (expr_plain known e p)
    plain_goes e vs ws p h s g = taken_goes known ws p (expr_kept known e p) (kept_goes e vs ws p h s g)

    pub whole_goes : (e : NamedExpr) (vs ws : List Name) (p : Pending) → PE vs e → Sub vs (At ws p.stmts) → Pass ws p.stmts → Goes PE ws p (whole_plain known e p)
    whole_goes e vs ws p h s g = either known ws p (is_call (form_of (expr_kept known e p).0)) (expr_kept known e p) (kept_goes e vs ws p h s g)

    pub right_goes : (x e : NamedExpr) (vs ws : List Name) (p : Pending) → PE vs e → Sub vs (At ws p.stmts) → Pass ws p.stmts → Goes PE ws p (right_plain known x e p)
    right_goes x e vs ws p h s g = either known ws p (stays (form_of x) (form_of (expr_kept known e p).0)) (expr_kept known e p) (kept_goes e vs ws p h s g)
