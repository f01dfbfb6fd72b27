-- What is pending after an expression declares the locals that were pending before, and fresh ones, each once: those from
-- the next number on.
use Rattle.std.proofs.Common.{◌≡◌, ◌∙◌, sym, ap, refl, subst, Bool, true, false, ℕ, zero, suc, ◌+◌, List, [], ◌∷◌, ◌++◌, map, append-nil, arith}
use Rattle.std.specs.Prelude.{Option, Some, None, if◌then◌else◌}
use Rattle.ckc_base.specs.declared.places.Pos.{Pos}
use Rattle.ckc_syntax.specs.Inside.{listed, inside_each, inside_run}
use Rattle.ckc_syntax.specs.declared.tree.Name.{Name}
use Rattle.ckc_syntax.specs.declared.tree.Name.TheVariants as name
use Rattle.ckc_syntax.specs.declared.tree.TreeOp.{TreeOp}
use Rattle.ckc_syntax.specs.declared.tree.Limits.{Limits-F, map-Limits, ind-Limits, roll-Limits, fold-roll-Limits}
use Rattle.ckc_syntax.specs.declared.tree.Node.{Node-F, map-Node, out-Node, roll-Node, fold-roll-Node}
use Rattle.ckc_syntax.specs.declared.tree.Node.TheVariants as node
use Rattle.ckc_syntax.specs.declared.tree.Expr.{Expr-F, map-Expr, ind-Expr, roll-Expr, fold-roll-Expr}
use Rattle.ckc_syntax.specs.declared.tree.Act.{Act-F, map-Act, roll-Act, fold-roll-Act}
use Rattle.ckc_syntax.specs.declared.tree.Act.TheVariants as act
use Rattle.ckc_syntax.specs.declared.tree.Stmt.{fold-roll-Stmt}
use Rattle.ckc_syntax.specs.Trees.{NamedDecl, NamedLimits, NamedNode, NamedExpr, NamedStmt, NamedAct}
use Rattle.ckc_plain.specs.ckc_plain_barred.specs.declared.integers.Integer.{Integer}
use Rattle.ckc_plain.specs.ckc_plain_barred.specs.declared.integers.Integer.TheVariants as integer
use Rattle.ckc_plain.specs.ckc_plain_barred.specs.declared.integers.Integers.{Integers}
use Rattle.ckc_plain.specs.ckc_plain_bodies.specs.declared.pending.Pending.{Pending}
use Rattle.ckc_plain.specs.ckc_plain_barred.specs.declared.forms.Work.{Work}
use Rattle.ckc_plain.specs.ckc_plain_barred.specs.declared.forms.Work.TheVariants as work
use Rattle.ckc_plain.specs.ckc_plain_barred.specs.Integers.{result_of}
use Rattle.ckc_plain.specs.ckc_plain_barred.specs.Forms.{work_of, form_of, is_call, stays}
use Rattle.ckc_plain.specs.ckc_plain_barred.specs.Effects.{integer_local}
use Rattle.ckc_plain.specs.ckc_plain_bodies.specs.Taken.{expr_at, stmt_at, local_at, number_at, block_at, assign_at, declare_at, none_pending, with_stmt, with_fresh, call_taken, set_taken, step_taken, binary_taken, unary_taken, node_taken, taken}
use Rattle.ckc_plain.specs.ckc_plain_bodies.specs.Expressions.{OfLimits, OfNode, OfExpr, rest, each_rest, truth_at, if_true, if_false, if_none, choice, binary_parts, node_parts, expr_parts, limits_parts, limits_plain, node_kept, expr_kept, expr_plain, exprs_plain, whole_plain, right_plain, bounds_plain, maybe_plain}
use Rattle.ckc_plain.specs.ckc_plain_barred.specs.Integers.{locals_of_stmt_parts, locals_of_stmt, locals_of_act}
use Rattle.ckc_typed_plain.proofs.Fresh.{one, from_zero, hits, hits_append, behind_another, Adds, adds_none, adds_one, adds_both}

abbrev pub ActLayer : Type 0
ActLayer = Act-F Name (Unit {0}) NamedAct NamedStmt

abbrev Layer : Type 0
Layer = Node-F Name (Unit {0}) NamedLimits NamedNode NamedExpr

abbrev LimitsLayer : Type 0
LimitsLayer = Limits-F Name (Unit {0}) NamedLimits NamedNode NamedExpr

-- ---- the locals that statements declare

-- what stands for a name: the next of its number for a local, 0 for another
abbrev pub code : Name → ℕ
code (name.Local k) = suc k
code n = 0

-- how often a local is declared
abbrev pub occurs : ℕ → List NamedDecl → ℕ
occurs i [] = 0
occurs i (d ∷ ds) = one i (code d.name) + occurs i ds

pub occurs_append : (i : ℕ) (xs ys : List NamedDecl) → occurs i (xs ++ ys) ≡ occurs i xs + occurs i ys
occurs_append i [] ys = from_zero (occurs i ys)
occurs_append i (d ∷ ds) ys = put (one i (code d.name)) (occurs i (ds ++ ys)) (occurs i ds) (occurs i ys) (occurs_append i ds ys)
  where
    put : (a b c d : ℕ) → b ≡ c + d → a + b ≡ a + c + d
    put a b c d e = omega (arith, e)

-- the locals that a statement declares, by those of its parts
abbrev pub rows : Act-F Name (Unit {0}) (List NamedDecl) (List NamedDecl) → List NamedDecl
rows = inside_run listed (λ e. []) (λ d. d ∷ []) (λ s. s)

abbrev pub all_locals : List NamedStmt → List NamedDecl
all_locals ss = inside_each listed (λ (ds : List NamedDecl). ds) (map locals_of_stmt ss)

abbrev pub locals_inside : ActLayer → Act-F Name (Unit {0}) (List NamedDecl) (List NamedDecl)
locals_inside = map-Act Name (Unit {0}) NamedAct NamedStmt (List NamedDecl) (List NamedDecl) locals_of_act locals_of_stmt

pub act_declares : (x : ActLayer) (a : NamedAct) → roll-Act Name (Unit {0}) x ≡ a → locals_of_act a ≡ rows (locals_inside x)
act_declares x a is = ap locals_of_act (sym is) ∙ fold-roll-Act Name (Unit {0}) (List NamedDecl) (List NamedDecl) rows locals_of_stmt_parts x

pub body_declares : (a : NamedAct) (pos : Pos) → locals_of_stmt (stmt_at a pos) ≡ locals_of_act a
body_declares a pos = fold-roll-Stmt Name (Unit {0}) (List NamedDecl) (List NamedDecl) rows locals_of_stmt_parts (record { body = a; pos = pos; note = tt })

pub stmt_declares : (x : ActLayer) (a : NamedAct) (pos : Pos) → roll-Act Name (Unit {0}) x ≡ a → locals_of_stmt (stmt_at a pos) ≡ rows (locals_inside x)
stmt_declares x a pos is = body_declares a pos ∙ act_declares x a is

pub often_append : (n : ℕ) (ss ts : List NamedStmt) → occurs n (all_locals (ss ++ ts)) ≡ occurs n (all_locals ss) + occurs n (all_locals ts)
often_append n [] ts = from_zero (occurs n (all_locals ts))
often_append n (s ∷ ss) ts =
    occurs_append n (locals_of_stmt s) (all_locals (ss ++ ts))
    ∙ put (occurs n (locals_of_stmt s)) (occurs n (all_locals (ss ++ ts))) (occurs n (all_locals ss)) (occurs n (all_locals ts)) (occurs n (all_locals (s ∷ ss))) (often_append n ss ts) (occurs_append n (locals_of_stmt s) (all_locals ss))
  where
    put : (a b c d e : ℕ) → b ≡ c + d → e ≡ a + c → a + b ≡ e + d
    put a b c d e f g = omega (arith, f, g)

pub often_last : (n : ℕ) (ss : List NamedStmt) (s : NamedStmt) → occurs n (all_locals (ss ++ s ∷ [])) ≡ occurs n (all_locals ss) + occurs n (locals_of_stmt s)
often_last n ss s = often_append n ss (s ∷ []) ∙ ap (λ l. occurs n (all_locals ss) + occurs n l) (append-nil (locals_of_stmt s))

pub block_declares : (ss : List NamedStmt) (pos : Pos) → locals_of_stmt (block_at ss pos) ≡ all_locals ss
block_declares ss pos = stmt_declares (Act-F.Block None ss) _ pos (act.rolls-Block None ss)

assign_declares : (x e : NamedExpr) (pos : Pos) → locals_of_stmt (assign_at x e pos) ≡ []
assign_declares x e pos = stmt_declares (Act-F.Assign x e) _ pos (act.rolls-Assign x e)

fresh_count : (n : ℕ) (t : Integer) (k : ℕ) (e : NamedExpr) (pos : Pos) → occurs n (locals_of_stmt (declare_at t k e pos)) ≡ hits n (k ∷ [])
fresh_count n t k e pos = ap (occurs n) (stmt_declares (Act-F.Local _) _ pos (act.rolls-Local _)) ∙ by n
  where
    by : (i : ℕ) → one i (suc k) + 0 ≡ hits i (k ∷ [])
    by zero = refl
    by (suc i) = refl

-- ---- what is pending

abbrev pub declared : Pending → ℕ → ℕ
declared p n = occurs n (all_locals p.stmts)

abbrev pub Grown : Pending → Pending → Type 0
Grown p q = Adds p.next q.next (declared p) (declared q)

pub grown_none : (p : Pending) → Grown p p
grown_none p = adds_none p.next (declared p) (declared p) (λ n. refl)

pub grown_both : (p q r : Pending) → Grown p q → Grown q r → Grown p r
grown_both p q r g h = adds_both p.next q.next r.next (declared p) (declared q) (declared q) (declared r) (declared p) (declared r) g h (λ n. put (declared p n) (declared q n) (declared r n))
  where
    put : (a b c : ℕ) → c + (a + b) ≡ a + (b + c)
    put a b c = omega arith

stmt_grown : (p : Pending) (s : NamedStmt) → locals_of_stmt s ≡ [] → Grown p (with_stmt p s)
stmt_grown p s none = adds_none p.next (declared p) (declared (with_stmt p s)) (λ n. often_last n p.stmts s ∙ put (occurs n (all_locals p.stmts)) (occurs n (locals_of_stmt s)) (ap (occurs n) none))
  where
    put : (a b : ℕ) → b ≡ 0 → a + b ≡ a
    put a b e = omega (arith, e)

fresh_grown : (t : Integer) (e : NamedExpr) (pos : Pos) (p : Pending) → Grown p (with_fresh t e pos p)
fresh_grown t e pos p =
    adds_one p.next (declared p) (declared (with_fresh t e pos p)) (λ n.
    often_last n p.stmts (declare_at t p.next e pos) ∙ ap (λ c. occurs n (all_locals p.stmts) + c) (fresh_count n t p.next e pos))

module _ (known : Integers) where
  call_grown : (t : Option Integer) (e : NamedExpr) (p : Pending) → Grown p (call_taken t e p).1
  call_grown None e p = grown_none p
  call_grown (Some t) e p = fresh_grown t e e.pos p

  set_grown : (t : Option Integer) (x e : NamedExpr) (pos : Pos) (whole : NamedExpr) (p : Pending) → Grown p (set_taken t x e pos whole p).1
  set_grown None x e pos whole p = grown_none p
  set_grown (Some t) x e pos whole p = stmt_grown p (assign_at x e pos) (assign_declares x e pos)

  step_grown : (t : Option Integer) (by : TreeOp) (x : NamedExpr) (pos : Pos) (whole : NamedExpr) (p : Pending) → Grown p (step_taken t by x pos whole p).1
  step_grown None by x pos whole p = grown_none p
  step_grown (Some t) by x pos whole p =
      let new : NamedExpr = expr_at (node.Bin by x (number_at 1 pos)) pos in
      let q = with_fresh t x pos p in
      grown_both p q (with_stmt q (assign_at x new pos)) (fresh_grown t x pos p) (stmt_grown q (assign_at x new pos) (assign_declares x new pos))

  unary_grown : (w : Work) (x whole : NamedExpr) (p : Pending) → Grown p (unary_taken known w x whole p).1
  unary_grown (work.Steps by) x whole p = step_grown (integer_local known (form_of x)) by x whole.pos whole p
  unary_grown work.Sets x whole p = grown_none p
  unary_grown work.IfTrue x whole p = grown_none p
  unary_grown work.IfFalse x whole p = grown_none p
  unary_grown work.Computes x whole p = grown_none p

  binary_grown : (w : Work) (x e whole : NamedExpr) (p : Pending) → Grown p (binary_taken known w x e whole p).1
  binary_grown work.Sets x e whole p = set_grown (integer_local known (form_of x)) x e whole.pos whole p
  binary_grown (work.Steps by) x e whole p = grown_none p
  binary_grown work.IfTrue x e whole p = grown_none p
  binary_grown work.IfFalse x e whole p = grown_none p
  binary_grown work.Computes x e whole p = grown_none p

  layer_grown : (x : Layer) (whole : NamedExpr) (p : Pending) → Grown p (node_taken known x whole p).1
  layer_grown (Node-F.Un o x) whole p = unary_grown (work_of o) x whole p
  layer_grown (Node-F.Bin o x e) whole p = binary_grown (work_of o) x e whole p
  layer_grown (Node-F.Call n es) whole p = call_grown (result_of known n) whole p
  layer_grown _ whole p = grown_none p

  taken_grown : (r : NamedExpr × Pending) → Grown r.1 (taken known r).1
  taken_grown r = layer_grown (out-Node Name (Unit {0}) r.0.node) r.0 r.1

  -- an effect that may stay
  either : (b : Bool) (p : Pending) (r : NamedExpr × Pending) → Grown p r.1 → Grown p (if b then r else taken known r).1
  either true p r g = g
  either false p r g = grown_both p r.1 (taken known r).1 g (taken_grown r)

  -- ---- `&&` and `||`

  abbrev Chosen : (NamedExpr → NamedStmt → Pos → NamedStmt) → Type 0
  Chosen chosen = (n : ℕ) (a : NamedExpr) (s : NamedStmt) (pos : Pos) → occurs n (locals_of_stmt (chosen a s pos)) ≡ occurs n (locals_of_stmt s)

  true_chosen : Chosen if_true
  true_chosen n a s pos = ap (occurs n) (stmt_declares (Act-F.If a s None) _ pos (act.rolls-If a s None) ∙ append-nil (locals_of_stmt s))

  false_chosen : Chosen if_false
  false_chosen n a s pos =
      let empty : locals_of_stmt (stmt_at act.Empty pos) ≡ [] = stmt_declares Act-F.Empty _ pos act.rolls-Empty in
      ap (occurs n) (stmt_declares (Act-F.If a (stmt_at act.Empty pos) (Some s)) _ pos (act.rolls-If a (stmt_at act.Empty pos) (Some s)) ∙ ap (λ l. l ++ locals_of_stmt s) empty)

  if_none_grown : (ss : List NamedStmt) (p : Pending) (a b : NamedNode × Pending) → Grown p a.1 → Grown p b.1 → Grown p (if_none ss a b).1
  if_none_grown [] p a b g h = g
  if_none_grown (s ∷ ss) p a b g h = h

  choice_grown : (o : TreeOp) (start : ℕ) (chosen : NamedExpr → NamedStmt → Pos → NamedStmt) → Chosen chosen → (pos : Pos) (a : NamedExpr) (b : NamedExpr × Pending) (p : Pending) → Grown (none_pending (p.next + 1)) b.1
      → Grown p (choice o start chosen pos a b p).1
  choice_grown o start chosen good pos a b p k =
      let first : NamedStmt = declare_at integer.Int p.next (number_at start pos) pos in
      let truth : NamedStmt = truth_at p.next b.0 pos in
      let inner : NamedStmt = block_at (b.1.stmts ++ truth ∷ []) pos in
      if_none_grown b.1.stmts p _ _ (grown_none p)
      (record {
        new = p.next ∷ k.new;
        counted = behind_another p.next (p.next + 1) b.1.next (p.next ∷ []) k.new (record { counts = (refl, tt); many = refl }) k.counted;
        is = λ n.
            put (declared p n) (occurs n (all_locals (p.stmts ++ first ∷ []))) (occurs n (locals_of_stmt first)) (occurs n (all_locals ((p.stmts ++ first ∷ []) ++ chosen a inner pos ∷ []))) (occurs n (locals_of_stmt (chosen a inner pos)))
            (occurs n (locals_of_stmt inner)) (occurs n (all_locals (b.1.stmts ++ truth ∷ []))) (occurs n (all_locals b.1.stmts)) (occurs n (locals_of_stmt truth)) (hits n k.new) (hits n (p.next ∷ []))
            (often_last n p.stmts first) (often_last n (p.stmts ++ first ∷ []) (chosen a inner pos)) (fresh_count n integer.Int p.next (number_at start pos) pos) (good n a inner pos)
            (ap (occurs n) (block_declares (b.1.stmts ++ truth ∷ []) pos)) (often_last n b.1.stmts truth) (ap (occurs n) (assign_declares (local_at p.next pos) _ pos)) (k.is n)
            ∙ ap (λ c. declared p n + c) (sym (hits_append n (p.next ∷ []) k.new));
      })
    where
      put : (p started first whole chosen inner within pending truth new next : ℕ) → started ≡ p + first → whole ≡ started + chosen → first ≡ next → chosen ≡ inner → inner ≡ within → within ≡ pending + truth → truth ≡ 0
          → pending ≡ 0 + new → whole ≡ p + (next + new)
      put p started first whole chosen inner within pending truth new next a b c d e f g h = omega (arith, a, b, c, d, e, f, g, h)

  -- ---- by parts

  abbrev LimitsHold : NamedLimits → Type 0
  LimitsHold l = (p : Pending) → Grown p (limits_plain known l p).1

  abbrev NodeHolds : NamedNode → Type 0
  NodeHolds n = (pos : Pos) (p : Pending) → Grown p (node_kept known n pos p).1

  abbrev pub ExprHolds : NamedExpr → Type 0
  ExprHolds e = (p : Pending) → Grown p (expr_kept known e p).1

  abbrev KeptLimits : Type 0
  KeptLimits = (l : NamedLimits) × LimitsHold l

  abbrev KeptNode : Type 0
  KeptNode = (n : NamedNode) × NodeHolds n

  abbrev KeptExpr : Type 0
  KeptExpr = (e : NamedExpr) × ExprHolds e

  abbrev inner_limits : Limits-F Name (Unit {0}) KeptLimits KeptNode KeptExpr → LimitsLayer
  inner_limits = map-Limits Name (Unit {0}) KeptLimits KeptNode KeptExpr NamedLimits NamedNode NamedExpr (λ e. e.0) (λ e. e.0) (λ e. e.0)

  abbrev inner_node : Node-F Name (Unit {0}) KeptLimits KeptNode KeptExpr → Layer
  inner_node = map-Node Name (Unit {0}) KeptLimits KeptNode KeptExpr NamedLimits NamedNode NamedExpr (λ e. e.0) (λ e. e.0) (λ e. e.0)

  abbrev inner_expr : Expr-F Name (Unit {0}) KeptLimits KeptNode KeptExpr → Expr-F Name (Unit {0}) NamedLimits NamedNode NamedExpr
  inner_expr = map-Expr Name (Unit {0}) KeptLimits KeptNode KeptExpr NamedLimits NamedNode NamedExpr (λ e. e.0) (λ e. e.0) (λ e. e.0)

  abbrev limits_inside : LimitsLayer → Limits-F Name (Unit {0}) OfLimits OfNode OfExpr
  limits_inside = map-Limits Name (Unit {0}) NamedLimits NamedNode NamedExpr OfLimits OfNode OfExpr (limits_plain known) (node_kept known) (expr_kept known)

  abbrev node_inside : Layer → Node-F Name (Unit {0}) OfLimits OfNode OfExpr
  node_inside = map-Node Name (Unit {0}) NamedLimits NamedNode NamedExpr OfLimits OfNode OfExpr (limits_plain known) (node_kept known) (expr_kept known)

  abbrev after_rest : KeptExpr → Pending → NamedExpr × Pending
  after_rest k p = rest known (expr_kept known k.0) p

  part : (k : KeptExpr) (p : Pending) → Grown p (after_rest k p).1
  part k p = either false p (expr_kept known k.0 p) (k.1 p)

  two_parts : (k j : KeptExpr) (p : Pending) → Grown p (after_rest j (after_rest k p).1).1
  two_parts k j p = let q = (after_rest k p).1 in grown_both p q (after_rest j q).1 (part k p) (part j q)

  limits_step : (y : Limits-F Name (Unit {0}) KeptLimits KeptNode KeptExpr) (p : Pending) → Grown p (limits_parts known (limits_inside (inner_limits y)) p).1
  limits_step (Limits-F.Count k pos) p = part k p
  limits_step (Limits-F.ByteCount k pos) p = part k p
  limits_step (Limits-F.Between k j pos) p = two_parts k j p
  limits_step (Limits-F.Unknown pos) p = grown_none p

  two_step : (w : Work) (o : TreeOp) (k j : KeptExpr) (pos : Pos) (p : Pending) → Grown p (binary_parts known w o (expr_kept known k.0) (expr_kept known j.0) pos p).1
  two_step work.Sets o k j pos p =
      let q = (after_rest k p).1 in
      let e = expr_kept known j.0 q in
      either (stays (form_of (after_rest k p).0) (form_of e.0)) p e (grown_both p q e.1 (part k p) (j.1 q))
  two_step work.IfTrue o k j pos p =
      let a = after_rest k p in
      let b = after_rest j (none_pending (a.1.next + 1)) in
      grown_both p a.1 (choice o 0 if_true pos a.0 b a.1).1 (part k p) (choice_grown o 0 if_true true_chosen pos a.0 b a.1 (part j (none_pending (a.1.next + 1))))
  two_step work.IfFalse o k j pos p =
      let a = after_rest k p in
      let b = after_rest j (none_pending (a.1.next + 1)) in
      grown_both p a.1 (choice o 1 if_false pos a.0 b a.1).1 (part k p) (choice_grown o 1 if_false false_chosen pos a.0 b a.1 (part j (none_pending (a.1.next + 1))))
  two_step (work.Steps by) o k j pos p = two_parts k j p
  two_step work.Computes o k j pos p = two_parts k j p

  list_step : (ks : List KeptExpr) (p : Pending) → Grown p (each_rest known (map (expr_kept known) (map (λ (k : KeptExpr). k.0) ks)) p).1
  list_step [] p = grown_none p
  list_step (k ∷ ks) p =
      let q = (after_rest k p).1 in
      grown_both p q (each_rest known (map (expr_kept known) (map (λ (k : KeptExpr). k.0) ks)) q).1 (part k p) (list_step ks q)

  node_step : (y : Node-F Name (Unit {0}) KeptLimits KeptNode KeptExpr) (pos : Pos) (p : Pending) → Grown p (node_parts known (node_inside (inner_node y)) pos p).1
  node_step (Node-F.Number n unsigned) pos p = grown_none p
  node_step (Node-F.Text bytes) pos p = grown_none p
  node_step Node-F.Null pos p = grown_none p
  node_step (Node-F.Name n) pos p = grown_none p
  node_step (Node-F.Size t) pos p = grown_none p
  node_step (Node-F.Bin o k j) pos p = two_step (work_of o) o k j pos p
  node_step (Node-F.Un o k) pos p = part k p
  node_step (Node-F.Dot k n at) pos p = part k p
  node_step (Node-F.Arrow k n at) pos p = part k p
  node_step (Node-F.Cast t k) pos p = part k p
  node_step (Node-F.Calloc t k u) pos p = part k p
  node_step (Node-F.Call n ks) pos p = list_step ks p
  node_step (Node-F.Index k j) pos p = two_parts k j p
  node_step (Node-F.Pick k j i) pos p =
      let q = (after_rest j (after_rest k p).1).1 in
      grown_both p q (after_rest i q).1 (two_parts k j p) (part i q)
  node_step (Node-F.Trusted t k None) pos p = part k p
  node_step (Node-F.Trusted t k (Some l)) pos p = let q = (after_rest k p).1 in grown_both p q (limits_plain known l.0 q).1 (part k p) (l.1 q)
  node_step (Node-F.Tested t k None) pos p = part k p
  node_step (Node-F.Tested t k (Some l)) pos p = let q = (after_rest k p).1 in grown_both p q (limits_plain known l.0 q).1 (part k p) (l.1 q)

  limits_by : (x : LimitsLayer) (y : Limits-F Name (Unit {0}) KeptLimits KeptNode KeptExpr) → inner_limits y ≡ x → LimitsHold (roll-Limits Name (Unit {0}) x)
  limits_by x y is p =
      subst (λ (r : NamedLimits × Pending). Grown p r.1) (sym (ap (λ f. f p) (fold-roll-Limits Name (Unit {0}) OfLimits OfNode OfExpr (limits_parts known) (node_parts known) expr_parts x)))
      (subst (λ z. Grown p (limits_parts known (limits_inside z) p).1) is (limits_step y p))

  node_by : (x : Layer) (y : Node-F Name (Unit {0}) KeptLimits KeptNode KeptExpr) → inner_node y ≡ x → NodeHolds (roll-Node Name (Unit {0}) x)
  node_by x y is pos p =
      subst (λ (r : NamedNode × Pending). Grown p r.1) (sym (ap (λ f. f pos p) (fold-roll-Node Name (Unit {0}) OfLimits OfNode OfExpr (limits_parts known) (node_parts known) expr_parts x)))
      (subst (λ z. Grown p (node_parts known (node_inside z) pos p).1) is (node_step y pos p))

  expr_by : (x : Expr-F Name (Unit {0}) NamedLimits NamedNode NamedExpr) (y : Expr-F Name (Unit {0}) KeptLimits KeptNode KeptExpr) → inner_expr y ≡ x → ExprHolds (roll-Expr Name (Unit {0}) x)
  expr_by x y is =
      subst (λ z. ExprHolds (roll-Expr Name (Unit {0}) z)) is (λ p.
      subst (λ (r : NamedExpr × Pending). Grown p r.1) (sym (ap (λ f. f p) (fold-roll-Expr Name (Unit {0}) OfLimits OfNode OfExpr (limits_parts known) (node_parts known) expr_parts (inner_expr y)))) (y.node.1 y.pos p))

  kept_grown : (e : NamedExpr) → ExprHolds e
  kept_grown = ind-Expr Name (Unit {0}) LimitsHold NodeHolds ExprHolds limits_by node_by expr_by

  limits_grown : (l : NamedLimits) → LimitsHold l
  limits_grown = ind-Limits Name (Unit {0}) LimitsHold NodeHolds ExprHolds limits_by node_by expr_by

  pub plain_grown : (e : NamedExpr) (p : Pending) → Grown p (expr_plain known e p).1
  plain_grown e p = either false p (expr_kept known e p) (kept_grown e p)

  pub whole_grown : (e : NamedExpr) (p : Pending) → Grown p (whole_plain known e p).1
  whole_grown e p = either (is_call (form_of (expr_kept known e p).0)) p (expr_kept known e p) (kept_grown e p)

  pub right_grown : (x e : NamedExpr) (p : Pending) → Grown p (right_plain known x e p).1
  right_grown x e p = either (stays (form_of x) (form_of (expr_kept known e p).0)) p (expr_kept known e p) (kept_grown e p)

  pub exprs_grown : (es : List NamedExpr) (p : Pending) → Grown p (exprs_plain known es p).1
  exprs_grown [] p = grown_none p
  exprs_grown (e ∷ es) p = let q = (expr_plain known e p).1 in grown_both p q (exprs_plain known es q).1 (plain_grown e p) (exprs_grown es q)

  pub bounds_grown : (l : Option NamedLimits) (p : Pending) → Grown p (bounds_plain known l p).1
  bounds_grown None p = grown_none p
  bounds_grown (Some l) p = limits_grown l p

  pub maybe_grown : (e : Option NamedExpr) (p : Pending) → Grown p (maybe_plain known e p).1
  maybe_grown None p = grown_none p
  maybe_grown (Some e) p = plain_grown e p
