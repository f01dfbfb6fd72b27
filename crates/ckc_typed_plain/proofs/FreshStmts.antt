-- A statement without effects, and what is then pending, declare what the statement with effects declares and what was
-- pending before, and fresh locals, each once: those from the next number on.
use Rattle.std.proofs.Common.{◌≡◌, ◌∙◌, sym, ap, refl, subst, ℕ, ◌+◌, List, [], ◌∷◌, ◌++◌, map, append-nil, arith}
use Rattle.std.specs.Prelude.{Option, Some, None}
use Rattle.ckc_syntax.specs.Inside.{listed, inside_if}
use Rattle.ckc_syntax.proofs.Insides.{none_found}
use Rattle.ckc_syntax.specs.declared.tree.Name.{Name}
use Rattle.ckc_syntax.specs.declared.tree.Init.TheVariants as init
use Rattle.ckc_syntax.specs.declared.tree.Act.{Act-F, map-Act, roll-Act, out-Act, fold-roll-Act}
use Rattle.ckc_syntax.specs.declared.tree.Act.TheVariants as act
use Rattle.ckc_syntax.specs.declared.tree.Stmt.{Stmt-F, map-Stmt, ind-Stmt, roll-Stmt, fold-roll-Stmt}
use Rattle.ckc_syntax.specs.Trees.{NamedDecl, NamedInit, NamedExpr, NamedStmt, NamedAct}
use Rattle.ckc_plain.specs.ckc_plain_barred.specs.declared.integers.Integers.{Integers}
use Rattle.ckc_plain.specs.ckc_plain_bodies.specs.declared.pending.Pending.{Pending}
use Rattle.ckc_plain.specs.ckc_plain_bodies.specs.Taken.{stmt_at, block_at, none_pending}
use Rattle.ckc_plain.specs.ckc_plain_bodies.specs.Expressions.{expr_plain, whole_plain, right_plain, bounds_plain, maybe_plain}
use Rattle.ckc_plain.specs.ckc_plain_bodies.specs.Statements.{joined, placed_by, placed, OfAct, OfStmt, alone, in_block, loop_condition, loop_body, for_condition, for_body, init_plain, local_plain, act_parts, stmt_parts, act_plain, stmt_plain}
use Rattle.ckc_plain.specs.ckc_plain_barred.specs.Integers.{locals_of_stmt_parts, locals_of_stmt, locals_of_act}
use Rattle.ckc_typed_plain.proofs.Fresh.{from_zero, Adds, adds_none, adds_both, adds_as}
use Rattle.ckc_typed_plain.proofs.FreshExprs.{ActLayer, rows, occurs, occurs_append, all_locals, locals_inside, act_declares, body_declares, stmt_declares, often_append, often_last, block_declares, declared, Grown, grown_none, grown_both, plain_grown, whole_grown, right_grown, exprs_grown, bounds_grown, maybe_grown}

-- ---- how often a local is declared

abbrev count : ℕ → NamedStmt → ℕ
count n s = occurs n (locals_of_stmt s)

abbrev count_act : ℕ → NamedAct → ℕ
count_act n a = occurs n (locals_of_act a)

joined_count : (n : ℕ) (ss : List NamedStmt) (s : NamedStmt) → count n (joined ss s) ≡ occurs n (all_locals ss) + count n s
joined_count n [] s = from_zero (count n s)
joined_count n (b ∷ bs) s = ap (occurs n) (block_declares ((b ∷ bs) ++ s ∷ []) b.pos) ∙ often_last n (b ∷ bs) s

single : (n : ℕ) (s : NamedStmt) → occurs n (all_locals (s ∷ [])) ≡ count n s
single n s = ap (occurs n) (append-nil (locals_of_stmt s))

placed_count : (n : ℕ) (ss : List NamedStmt) (s : NamedStmt) → occurs n (all_locals (placed ss s)) ≡ occurs n (all_locals ss) + count n s
placed_count n ss s = by (out-Act Name (Unit {0}) s.body)
  where
    by : (x : ActLayer) → occurs n (all_locals (placed_by x ss s)) ≡ occurs n (all_locals ss) + count n s
    by (Act-F.Local d) = often_last n ss s
    by _ = single n (joined ss s) ∙ joined_count n ss s

-- the locals of the parts of a statement, by how often each is there
if_count : (n : ℕ) (e : NamedExpr) (s : NamedStmt) → occurs n (rows (locals_inside (Act-F.If e s None))) ≡ count n s
if_count n e s = ap (occurs n) (append-nil (locals_of_stmt s))

else_count : (n : ℕ) (e : NamedExpr) (s t : NamedStmt) → occurs n (rows (locals_inside (Act-F.If e s (Some t)))) ≡ count n s + count n t
else_count n e s t = occurs_append n (locals_of_stmt s) (locals_of_stmt t)

abbrev part_count : ℕ → Option NamedStmt → ℕ
part_count n None = 0
part_count n (Some s) = count n s

for_lists : (n : ℕ) (xs ys zs : List NamedDecl) (e : Option NamedExpr) → occurs n (xs ++ (inside_if listed (λ (e : NamedExpr). []) e ++ (ys ++ zs))) ≡ occurs n xs + (occurs n ys + occurs n zs)
for_lists n xs ys zs e =
    ap (λ (l : List NamedDecl). occurs n (xs ++ (l ++ (ys ++ zs)))) (none_found listed e) ∙ occurs_append n xs (ys ++ zs) ∙ ap (λ c. occurs n xs + c) (occurs_append n ys zs)

for_count : (n : ℕ) (f : Option NamedStmt) (e : Option NamedExpr) (u : Option NamedStmt) (s : NamedStmt) → occurs n (rows (locals_inside (Act-F.For f e u s))) ≡ part_count n f + (count n s + part_count n u)
for_count n None e None s = for_lists n [] (locals_of_stmt s) [] e
for_count n None e (Some u) s = for_lists n [] (locals_of_stmt s) (locals_of_stmt u) e
for_count n (Some f) e None s = for_lists n (locals_of_stmt f) (locals_of_stmt s) [] e
for_count n (Some f) e (Some u) s = for_lists n (locals_of_stmt f) (locals_of_stmt s) (locals_of_stmt u) e

-- the body of a loop before whose condition statements run
loop_count : (n : ℕ) (ss : List NamedStmt) (c : NamedExpr) (s : NamedStmt) → count n (loop_body ss c s) ≡ occurs n (all_locals ss) + count n s
loop_count n [] c s = from_zero (count n s)
loop_count n (b ∷ bs) c s =
    let leave : NamedStmt = stmt_at act.Break b.pos in
    let choice : NamedStmt = stmt_at (act.If c s (Some leave)) b.pos in
    put (count n (block_at ((b ∷ bs) ++ choice ∷ []) b.pos)) (occurs n (all_locals ((b ∷ bs) ++ choice ∷ []))) (occurs n (all_locals (b ∷ bs))) (count n choice) (count n s) (count n leave)
    (ap (occurs n) (block_declares ((b ∷ bs) ++ choice ∷ []) b.pos)) (often_last n (b ∷ bs) choice)
    (ap (occurs n) (stmt_declares (Act-F.If c s (Some leave)) _ b.pos (act.rolls-If c s (Some leave))) ∙ else_count n c s leave) (ap (occurs n) (stmt_declares Act-F.Break _ b.pos act.rolls-Break))
  where
    put : (a b c d e f : ℕ) → a ≡ b → b ≡ c + d → d ≡ e + f → f ≡ 0 → a ≡ c + e
    put a b c d e f g h i j = omega (arith, g, h, i, j)

for_body_count : (n : ℕ) (ss : List NamedStmt) (c : Option NamedExpr) (s : NamedStmt) → (c ≡ None → ss ≡ []) → count n (for_body ss c s) ≡ occurs n (all_locals ss) + count n s
for_body_count n ss None s none = from_zero (count n s) ∙ ap (λ l. occurs n (all_locals l) + count n s) (sym (none refl))
for_body_count n ss (Some c) s none = loop_count n ss c s

-- ---- what is said of a statement

abbrev HoldsStmt : NamedStmt → OfStmt → Type 0
HoldsStmt s k = (p : Pending) → Adds p.next (k p).1.next (λ n. declared p n + count n s) (λ n. declared (k p).1 n + count n (k p).0)

abbrev HoldsAct : NamedAct → OfAct → Type 0
HoldsAct a k = (p : Pending) → Adds p.next (k p).1.next (λ n. declared p n + count_act n a) (λ n. declared (k p).1 n + count_act n (k p).0)

abbrev Alone : NamedStmt → ℕ → NamedStmt × ℕ → Type 0
Alone s m r = Adds m r.1 (λ n. count n s) (λ n. count n r.0)

alone_adds : (s : NamedStmt) (k : OfStmt) → HoldsStmt s k → (m : ℕ) → Alone s m (alone k m)
alone_adds s k h m =
    let p = none_pending m in
    let r = k p in
    adds_as m r.1.next (λ n. declared p n + count n s) (λ n. declared r.1 n + count n r.0) (λ n. count n s) (λ n. count n (joined r.1.stmts r.0)) (h p)
    (λ n. put (count n (joined r.1.stmts r.0)) (declared r.1 n) (count n r.0) (count n s) (joined_count n r.1.stmts r.0))
  where
    put : (a b c d : ℕ) → a ≡ b + c → a + (0 + d) ≡ d + (b + c)
    put a b c d e = omega (arith, e)

module _ (known : Integers) where
  abbrev ActHolds : NamedAct → Type 0
  ActHolds a = HoldsAct a (act_plain known a)

  abbrev StmtHolds : NamedStmt → Type 0
  StmtHolds s = HoldsStmt s (stmt_plain known s)

  abbrev KeptAct : Type 0
  KeptAct = (a : NamedAct) × ActHolds a

  abbrev KeptStmt : Type 0
  KeptStmt = (s : NamedStmt) × StmtHolds s

  abbrev inner_act : Act-F Name (Unit {0}) KeptAct KeptStmt → ActLayer
  inner_act = map-Act Name (Unit {0}) KeptAct KeptStmt NamedAct NamedStmt (λ e. e.0) (λ e. e.0)

  abbrev inner_stmt : Stmt-F Name (Unit {0}) KeptAct KeptStmt → Stmt-F Name (Unit {0}) NamedAct NamedStmt
  inner_stmt = map-Stmt Name (Unit {0}) KeptAct KeptStmt NamedAct NamedStmt (λ e. e.0) (λ e. e.0)

  abbrev act_inside : ActLayer → Act-F Name (Unit {0}) OfAct OfStmt
  act_inside = map-Act Name (Unit {0}) NamedAct NamedStmt OfAct OfStmt (act_plain known) (stmt_plain known)

  abbrev firsts : List KeptStmt → List NamedStmt
  firsts ks = map (λ (k : KeptStmt). k.0) ks

  abbrev block_of : List KeptStmt → ℕ → List NamedStmt × ℕ
  block_of ks n = in_block (map (stmt_plain known) (firsts ks)) n

  abbrev alone_of : KeptStmt → ℕ → NamedStmt × ℕ
  alone_of k n = alone (stmt_plain known k.0) n

  alone_holds : (k : KeptStmt) (m : ℕ) → Alone k.0 m (alone_of k m)
  alone_holds k m = alone_adds k.0 (stmt_plain known k.0) k.1 m

  -- ---- blocks

  block_adds : (ks : List KeptStmt) (m : ℕ) → Adds m (block_of ks m).1 (λ n. occurs n (all_locals (firsts ks))) (λ n. occurs n (all_locals (block_of ks m).0))
  block_adds [] m = adds_none m (λ n. 0) (λ n. 0) (λ n. refl)
  block_adds (k ∷ ks) m =
      let p = none_pending m in
      let r = stmt_plain known k.0 p in
      let rest = block_of ks r.1.next in
      adds_both m r.1.next rest.1 (λ n. declared p n + count n k.0) (λ n. declared r.1 n + count n r.0) (λ n. occurs n (all_locals (firsts ks))) (λ n. occurs n (all_locals rest.0))
      (λ n. occurs n (all_locals (firsts (k ∷ ks)))) (λ n. occurs n (all_locals (placed r.1.stmts r.0 ++ rest.0))) (k.1 p) (block_adds ks r.1.next)
      (λ n. put (occurs n (all_locals (placed r.1.stmts r.0 ++ rest.0))) (occurs n (all_locals (placed r.1.stmts r.0))) (occurs n (all_locals rest.0)) (declared r.1 n) (count n r.0)
      (occurs n (all_locals (firsts (k ∷ ks)))) (count n k.0) (occurs n (all_locals (firsts ks)))
      (often_append n (placed r.1.stmts r.0) rest.0) (placed_count n r.1.stmts r.0) (occurs_append n (locals_of_stmt k.0) (all_locals (firsts ks))))
    where
      put : (whole front rest pending made old first olds : ℕ) → whole ≡ front + rest → front ≡ pending + made → old ≡ first + olds → whole + ((0 + first) + olds) ≡ old + ((pending + made) + rest)
      put whole front rest pending made old first olds a b c = omega (arith, a, b, c)

  -- ---- declarations

  init_grown : (i : NamedInit) (p : Pending) → Grown p (init_plain known i p).1
  init_grown init.Nothing p = grown_none p
  init_grown (init.One e) p = whole_grown known e p
  init_grown (init.Many es) p = exprs_grown known es p

  local_grown : (d : NamedDecl) (p : Pending) → Grown p (local_plain known d p).1
  local_grown d p =
      let q = (bounds_plain known d.bounds p).1 in
      grown_both p q (init_plain known d.init q).1 (bounds_grown known d.bounds p) (init_grown d.init q)

  -- ---- every statement

  abbrev Says : ActLayer → Type 0
  Says x = (p : Pending) → Adds p.next (act_parts known (act_inside x) p).1.next (λ n. declared p n + occurs n (rows (locals_inside x)))
      (λ n. declared (act_parts known (act_inside x) p).1 n + count_act n (act_parts known (act_inside x) p).0)

  -- a statement that declares what the one before it declares
  kept : (p q : Pending) (x y : ActLayer) (a : NamedAct) → roll-Act Name (Unit {0}) y ≡ a → ((n : ℕ) → occurs n (rows (locals_inside y)) ≡ occurs n (rows (locals_inside x))) → Grown p q
      → Adds p.next q.next (λ n. declared p n + occurs n (rows (locals_inside x))) (λ n. declared q n + count_act n a)
  kept p q x y a rolls same g =
      adds_as p.next q.next (declared p) (declared q) (λ n. declared p n + occurs n (rows (locals_inside x))) (λ n. declared q n + count_act n a) g
      (λ n. put (declared p n) (declared q n) (count_act n a) (occurs n (rows (locals_inside x))) (ap (occurs n) (act_declares y a rolls) ∙ same n))
    where
      put : (a b c d : ℕ) → c ≡ d → (b + c) + a ≡ (a + d) + b
      put a b c d e = omega (arith, e)

  -- a statement whose parts declare more, while nothing more is pending
  within : (p : Pending) (to : ℕ) (x y : ActLayer) (a : NamedAct) → roll-Act Name (Unit {0}) y ≡ a → Adds p.next to (λ n. occurs n (rows (locals_inside x))) (λ n. occurs n (rows (locals_inside y)))
      → Adds p.next to (λ n. declared p n + occurs n (rows (locals_inside x))) (λ n. declared p n + count_act n a)
  within p to x y a rolls g =
      adds_as p.next to (λ n. occurs n (rows (locals_inside x))) (λ n. occurs n (rows (locals_inside y))) (λ n. declared p n + occurs n (rows (locals_inside x))) (λ n. declared p n + count_act n a) g
      (λ n. put (declared p n) (count_act n a) (occurs n (rows (locals_inside x))) (occurs n (rows (locals_inside y))) (ap (occurs n) (act_declares y a rolls)))
    where
      put : (p a x y : ℕ) → a ≡ y → (p + a) + x ≡ (p + x) + y
      put p a x y e = omega (arith, e)

  -- the same, behind an expression
  behind : (p q : Pending) (to : ℕ) (x y : ActLayer) (a : NamedAct) → roll-Act Name (Unit {0}) y ≡ a → Grown p q → Adds q.next to (λ n. occurs n (rows (locals_inside x))) (λ n. occurs n (rows (locals_inside y)))
      → Adds p.next to (λ n. declared p n + occurs n (rows (locals_inside x))) (λ n. declared q n + count_act n a)
  behind p q to x y a rolls g h =
      adds_both p.next q.next to (declared p) (declared q) (λ n. occurs n (rows (locals_inside x))) (λ n. occurs n (rows (locals_inside y)))
      (λ n. declared p n + occurs n (rows (locals_inside x))) (λ n. declared q n + count_act n a) g h
      (λ n. put (declared p n) (declared q n) (count_act n a) (occurs n (rows (locals_inside x))) (occurs n (rows (locals_inside y))) (ap (occurs n) (act_declares y a rolls)))
    where
      put : (p q a x y : ℕ) → a ≡ y → (q + a) + (p + x) ≡ (p + x) + (q + y)
      put p q a x y e = omega (arith, e)

  -- ---- loops

  condition_left : (e : Option NamedExpr) (m : ℕ) → (maybe_plain known e (none_pending m)).0 ≡ None → (maybe_plain known e (none_pending m)).1.stmts ≡ []
  condition_left None m is = refl
  condition_left (Some e) m is = absurd cc

  abbrev condition_of : Option NamedExpr → ℕ → Option NamedExpr × Pending
  condition_of e m = maybe_plain known e (none_pending m)

  -- the condition, the body and the step of a `for`
  abbrev body_of : Option NamedExpr → KeptStmt → ℕ → NamedStmt
  body_of e k m = for_body (condition_of e m).1.stmts (condition_of e m).0 (alone_of k (condition_of e m).1.next).0

  body_adds : (e : Option NamedExpr) (k : KeptStmt) (m : ℕ) → Adds m (alone_of k (condition_of e m).1.next).1 (λ n. count n k.0) (λ n. count n (body_of e k m))
  body_adds e k m =
      let c = condition_of e m in
      let t = alone_of k c.1.next in
      adds_both m c.1.next t.1 (declared (none_pending m)) (declared c.1) (λ n. count n k.0) (λ n. count n t.0) (λ n. count n k.0) (λ n. count n (body_of e k m))
      (maybe_grown known e (none_pending m)) (alone_holds k c.1.next)
      (λ n. put (count n (body_of e k m)) (declared c.1 n) (count n t.0) (count n k.0) (for_body_count n c.1.stmts c.0 t.0 (condition_left e m)))
    where
      put : (a b c d : ℕ) → a ≡ b + c → a + (0 + d) ≡ d + (b + c)
      put a b c d e = omega (arith, e)

  abbrev step_of : Option KeptStmt → ℕ → Option NamedStmt × ℕ
  step_of None m = (None, m)
  step_of (Some j) m = (Some (alone_of j m).0, (alone_of j m).1)

  abbrev step_before : Option KeptStmt → Option NamedStmt
  step_before None = None
  step_before (Some j) = Some j.0

  step_adds : (j : Option KeptStmt) (m : ℕ) → Adds m (step_of j m).1 (λ n. part_count n (step_before j)) (λ n. part_count n (step_of j m).0)
  step_adds None m = adds_none m (λ n. 0) (λ n. 0) (λ n. refl)
  step_adds (Some j) m = alone_holds j m

  inner_adds : (e : Option NamedExpr) (k : KeptStmt) (j : Option KeptStmt) (m : ℕ)
      → Adds m (step_of j (alone_of k (condition_of e m).1.next).1).1 (λ n. count n k.0 + part_count n (step_before j))
      (λ n. count n (body_of e k m) + part_count n (step_of j (alone_of k (condition_of e m).1.next).1).0)
  inner_adds e k j m =
      let at = (alone_of k (condition_of e m).1.next).1 in
      adds_both m at (step_of j at).1 (λ n. count n k.0) (λ n. count n (body_of e k m)) (λ n. part_count n (step_before j)) (λ n. part_count n (step_of j at).0)
      (λ n. count n k.0 + part_count n (step_before j)) (λ n. count n (body_of e k m) + part_count n (step_of j at).0) (body_adds e k m) (step_adds j at)
      (λ n. put (count n k.0) (count n (body_of e k m)) (part_count n (step_before j)) (part_count n (step_of j at).0))
    where
      put : (a b c d : ℕ) → (b + d) + (a + c) ≡ (a + c) + (b + d)
      put a b c d = omega arith

  -- a `for`, behind its first part
  for_adds : (p q : Pending) (before first : Option NamedStmt) (e : Option NamedExpr) (c : Option NamedExpr) (k : KeptStmt) (j : Option KeptStmt) (a : NamedAct)
      → Adds p.next q.next (λ n. declared p n + part_count n before) (λ n. declared q n + part_count n first)
      → roll-Act Name (Unit {0}) (Act-F.For first c (step_of j (alone_of k (condition_of e q.next).1.next).1).0 (body_of e k q.next)) ≡ a
      → Adds p.next (step_of j (alone_of k (condition_of e q.next).1.next).1).1 (λ n. declared p n + occurs n (rows (locals_inside (Act-F.For before e (step_before j) k.0)))) (λ n. declared q n + count_act n a)
  for_adds p q before first e c k j a g rolls =
      let step = step_of j (alone_of k (condition_of e q.next).1.next).1 in
      let body = body_of e k q.next in
      adds_both p.next q.next step.1 (λ n. declared p n + part_count n before) (λ n. declared q n + part_count n first) (λ n. count n k.0 + part_count n (step_before j)) (λ n. count n body + part_count n step.0)
      (λ n. declared p n + occurs n (rows (locals_inside (Act-F.For before e (step_before j) k.0)))) (λ n. declared q n + count_act n a) g (inner_adds e k j q.next)
      (λ n. put (declared p n) (declared q n) (part_count n before) (part_count n first) (count n k.0) (count n body) (part_count n (step_before j)) (part_count n step.0)
      (occurs n (rows (locals_inside (Act-F.For before e (step_before j) k.0)))) (count_act n a)
      (for_count n before e (step_before j) k.0) (ap (occurs n) (act_declares (Act-F.For first c step.0 body) a rolls) ∙ for_count n first c step.0 body))
    where
      put : (p q before first body made step stepped old new : ℕ) → old ≡ before + (body + step) → new ≡ first + (made + stepped)
          → (q + new) + ((p + before) + (body + step)) ≡ (p + old) + ((q + first) + (made + stepped))
      put p q before first body made step stepped old new a b = omega (arith, a, b)

  -- nothing before the condition
  no_first : (p : Pending) → Adds p.next p.next (λ n. declared p n + part_count n None) (λ n. declared p n + part_count n None)
  no_first p = adds_none p.next (λ n. declared p n + 0) (λ n. declared p n + 0) (λ n. refl)

  return_says : (e : Option NamedExpr) → Says (Act-F.Return e)
  return_says e p =
      let r = maybe_plain known e p in
      kept p r.1 (Act-F.Return e) (Act-F.Return r.0) _ (act.rolls-Return r.0) (λ n. ap (occurs n) (none_found listed r.0 ∙ sym (none_found listed e))) (maybe_grown known e p)

  act_says : (y : Act-F Name (Unit {0}) KeptAct KeptStmt) → Says (inner_act y)
  act_says (Act-F.Block m ks) p = within p (block_of ks p.next).1 (Act-F.Block m (firsts ks)) (Act-F.Block m (block_of ks p.next).0) _ (act.rolls-Block m _) (block_adds ks p.next)
  act_says (Act-F.Bundle ks) p = within p (block_of ks p.next).1 (Act-F.Bundle (firsts ks)) (Act-F.Bundle (block_of ks p.next).0) _ (act.rolls-Bundle _) (block_adds ks p.next)
  act_says Act-F.Empty p = kept p p Act-F.Empty Act-F.Empty _ act.rolls-Empty (λ n. refl) (grown_none p)
  act_says Act-F.Break p = kept p p Act-F.Break Act-F.Break _ act.rolls-Break (λ n. refl) (grown_none p)
  act_says Act-F.Continue p = kept p p Act-F.Continue Act-F.Continue _ act.rolls-Continue (λ n. refl) (grown_none p)
  act_says (Act-F.Call e) p = let r = whole_plain known e p in kept p r.1 (Act-F.Call e) (Act-F.Call r.0) _ (act.rolls-Call r.0) (λ n. refl) (whole_grown known e p)
  act_says (Act-F.Check e) p = let r = expr_plain known e p in kept p r.1 (Act-F.Check e) (Act-F.Check r.0) _ (act.rolls-Check r.0) (λ n. refl) (plain_grown known e p)
  act_says (Act-F.Return e) p = return_says e p
  act_says (Act-F.Assign x e) p =
      let q = expr_plain known x p in
      let r = right_plain known q.0 e q.1 in
      kept p r.1 (Act-F.Assign x e) (Act-F.Assign q.0 r.0) _ (act.rolls-Assign q.0 r.0) (λ n. refl) (grown_both p q.1 r.1 (plain_grown known x p) (right_grown known q.0 e q.1))
  act_says (Act-F.Local d) p = let r = local_plain known d p in kept p r.1 (Act-F.Local d) (Act-F.Local r.0) _ (act.rolls-Local r.0) (λ n. refl) (local_grown d p)
  act_says (Act-F.If e k None) p =
      let c = expr_plain known e p in
      let t = alone_of k c.1.next in
      let x : ActLayer = Act-F.If e k.0 None in
      let y : ActLayer = Act-F.If c.0 t.0 None in
      behind p c.1 t.1 x y _ (act.rolls-If c.0 t.0 None) (plain_grown known e p)
      (adds_as c.1.next t.1 (λ n. count n k.0) (λ n. count n t.0) (λ n. occurs n (rows (locals_inside x))) (λ n. occurs n (rows (locals_inside y))) (alone_holds k c.1.next)
      (λ n. put (count n k.0) (count n t.0) (occurs n (rows (locals_inside x))) (occurs n (rows (locals_inside y))) (if_count n e k.0) (if_count n c.0 t.0)))
    where
      put : (a b x y : ℕ) → x ≡ a → y ≡ b → y + a ≡ x + b
      put a b x y e f = omega (arith, e, f)
  act_says (Act-F.If e k (Some j)) p =
      let c = expr_plain known e p in
      let t = alone_of k c.1.next in
      let u = alone_of j t.1 in
      let x : ActLayer = Act-F.If e k.0 (Some j.0) in
      let y : ActLayer = Act-F.If c.0 t.0 (Some u.0) in
      behind p c.1 u.1 x y _ (act.rolls-If c.0 t.0 (Some u.0)) (plain_grown known e p)
      (adds_both c.1.next t.1 u.1 (λ n. count n k.0) (λ n. count n t.0) (λ n. count n j.0) (λ n. count n u.0) (λ n. occurs n (rows (locals_inside x))) (λ n. occurs n (rows (locals_inside y)))
      (alone_holds k c.1.next) (alone_holds j t.1)
      (λ n. put (count n k.0) (count n t.0) (count n j.0) (count n u.0) (occurs n (rows (locals_inside x))) (occurs n (rows (locals_inside y))) (else_count n e k.0 j.0) (else_count n c.0 t.0 u.0)))
    where
      put : (a b c d x y : ℕ) → x ≡ a + c → y ≡ b + d → y + (a + c) ≡ x + (b + d)
      put a b c d x y e f = omega (arith, e, f)
  act_says (Act-F.While e k) p =
      let c = expr_plain known e (none_pending p.next) in
      let t = alone_of k c.1.next in
      let whole = loop_body c.1.stmts c.0 t.0 in
      within p t.1 (Act-F.While e k.0) (Act-F.While (loop_condition c.1.stmts c.0) whole) _ (act.rolls-While _ _)
      (adds_both p.next c.1.next t.1 (declared (none_pending p.next)) (declared c.1) (λ n. count n k.0) (λ n. count n t.0) (λ n. count n k.0) (λ n. count n whole)
      (plain_grown known e (none_pending p.next)) (alone_holds k c.1.next)
      (λ n. put (count n whole) (declared c.1 n) (count n t.0) (count n k.0) (loop_count n c.1.stmts c.0 t.0)))
    where
      put : (a b c d : ℕ) → a ≡ b + c → a + (0 + d) ≡ d + (b + c)
      put a b c d e = omega (arith, e)
  act_says (Act-F.For None e None k) p = for_adds p p None None e (for_condition (condition_of e p.next).1.stmts (condition_of e p.next).0) k None _ (no_first p) (act.rolls-For None _ _ _)
  act_says (Act-F.For None e (Some j) k) p = for_adds p p None None e (for_condition (condition_of e p.next).1.stmts (condition_of e p.next).0) k (Some j) _ (no_first p) (act.rolls-For None _ _ _)
  act_says (Act-F.For (Some f) e None k) p =
      let r = stmt_plain known f.0 p in
      for_adds p r.1 (Some f.0) (Some r.0) e (for_condition (condition_of e r.1.next).1.stmts (condition_of e r.1.next).0) k None _ (f.1 p) (act.rolls-For (Some r.0) _ _ _)
  act_says (Act-F.For (Some f) e (Some j) k) p =
      let r = stmt_plain known f.0 p in
      for_adds p r.1 (Some f.0) (Some r.0) e (for_condition (condition_of e r.1.next).1.stmts (condition_of e r.1.next).0) k (Some j) _ (f.1 p) (act.rolls-For (Some r.0) _ _ _)

  act_by : (x : ActLayer) (y : Act-F Name (Unit {0}) KeptAct KeptStmt) → inner_act y ≡ x → ActHolds (roll-Act Name (Unit {0}) x)
  act_by x y is p =
      subst (λ (l : List NamedDecl). Adds p.next (act_plain known (roll-Act Name (Unit {0}) x) p).1.next (λ n. declared p n + occurs n l)
      (λ n. declared (act_plain known (roll-Act Name (Unit {0}) x) p).1 n + count_act n (act_plain known (roll-Act Name (Unit {0}) x) p).0)) (sym (fold-roll-Act Name (Unit {0}) (List NamedDecl) (List NamedDecl) rows locals_of_stmt_parts x))
      (subst (λ (r : NamedAct × Pending). Adds p.next r.1.next (λ n. declared p n + occurs n (rows (locals_inside x))) (λ n. declared r.1 n + count_act n r.0))
      (sym (ap (λ f. f p) (fold-roll-Act Name (Unit {0}) OfAct OfStmt (act_parts known) stmt_parts x)))
      (subst (λ z. Adds p.next (act_parts known (act_inside z) p).1.next (λ n. declared p n + occurs n (rows (locals_inside z)))
      (λ n. declared (act_parts known (act_inside z) p).1 n + count_act n (act_parts known (act_inside z) p).0)) is (act_says y p)))

  stmt_by : (x : Stmt-F Name (Unit {0}) NamedAct NamedStmt) (y : Stmt-F Name (Unit {0}) KeptAct KeptStmt) → inner_stmt y ≡ x → StmtHolds (roll-Stmt Name (Unit {0}) x)
  stmt_by x y is =
      subst (λ z. StmtHolds (roll-Stmt Name (Unit {0}) z)) is (λ p.
      let z = inner_stmt y in
      let r = act_plain known y.body.0 p in
      subst (λ (l : List NamedDecl). Adds p.next (stmt_plain known (roll-Stmt Name (Unit {0}) z) p).1.next (λ n. declared p n + occurs n l)
      (λ n. declared (stmt_plain known (roll-Stmt Name (Unit {0}) z) p).1 n + count n (stmt_plain known (roll-Stmt Name (Unit {0}) z) p).0)) (sym (fold-roll-Stmt Name (Unit {0}) (List NamedDecl) (List NamedDecl) rows locals_of_stmt_parts z))
      (subst (λ (q : NamedStmt × Pending). Adds p.next q.1.next (λ n. declared p n + count_act n y.body.0) (λ n. declared q.1 n + count n q.0))
      (sym (ap (λ f. f p) (fold-roll-Stmt Name (Unit {0}) OfAct OfStmt (act_parts known) stmt_parts z)))
      (subst (λ (l : List NamedDecl). Adds p.next r.1.next (λ n. declared p n + count_act n y.body.0) (λ n. declared r.1 n + occurs n l)) (sym (body_declares r.0 y.pos)) (y.body.1 p))))

  stmt_holds : (s : NamedStmt) → StmtHolds s
  stmt_holds = ind-Stmt Name (Unit {0}) ActHolds StmtHolds act_by stmt_by

  -- the body of a function
  pub function_adds : (s : NamedStmt) (m : ℕ) → Alone s m (alone (stmt_plain known s) m)
  function_adds s m = alone_holds (s, stmt_holds s) m
