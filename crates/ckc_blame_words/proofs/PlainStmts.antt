-- Texts without effects in their expressions have only words as literals if those with effects have.
use Rattle.std.proofs.Common.{◌≡◌, ◌∙◌, sym, ap, refl, subst, Bool, true, ◌&&◌, ℕ, List, [], ◌∷◌, ◌++◌, map}
use Rattle.std.specs.Prelude.{Option, Some, None}
use Rattle.std.specs.List.{list_all}
use Rattle.ckc_syntax.specs.Inside.{all_have, inside_each, inside_if}
use Rattle.ckc_syntax.specs.declared.tree.Name.{Name}
use Rattle.ckc_syntax.specs.declared.tree.Init.TheVariants as init
use Rattle.ckc_syntax.specs.declared.tree.Item.TheVariants as item
use Rattle.ckc_syntax.specs.declared.tree.Act.{Act-F, map-Act, roll-Act, out-Act, fold-roll-Act}
use Rattle.ckc_syntax.specs.declared.tree.Act.TheVariants as act
use Rattle.ckc_syntax.specs.declared.tree.Stmt.{Stmt-F, map-Stmt, ind-Stmt, roll-Stmt, fold-roll-Stmt}
use Rattle.ckc_syntax.specs.Trees.{NamedTree, NamedItem, NamedLimits, NamedInit, NamedExpr, NamedStmt, NamedAct}
use Rattle.ckc_plain.specs.ckc_plain_barred.specs.declared.integers.Integers.{Integers}
use Rattle.ckc_plain.specs.ckc_plain_bodies.specs.declared.pending.Pending.{Pending}
use Rattle.ckc_plain.specs.ckc_plain_barred.specs.Integers.{known_of, known_in}
use Rattle.ckc_plain.specs.ckc_plain_bodies.specs.Taken.{stmt_at, none_pending}
use Rattle.ckc_plain.specs.ckc_plain_bodies.specs.Expressions.{expr_plain, exprs_plain, bounds_plain, maybe_plain}
use Rattle.ckc_plain.specs.ckc_plain_bodies.specs.Statements.{joined, placed_by, placed, OfAct, OfStmt, alone, part_alone, in_block, part_before, loop_condition, loop_body, for_condition, for_body, init_plain, act_parts, stmt_parts, act_plain, stmt_plain, item_plain, plain}
use Rattle.ckc_blame_words.specs.Literals.{limits_have_words, expr_has_words, init_has_words, act_by_parts, stmt_by_parts, stmt_has_words, head_has_words, item_has_words, tree_has_words}
use Rattle.ckc_blame_words.proofs.PlainExprs.{ActLayer, act_has_words, act_words_inside, HasWords, AllHave, both, parts_of, stmt_has, number_has, added, as_listed, block_has, limits_good, plain_good, whole_good, right_good}

abbrev Has : NamedStmt → Type 0
Has s = stmt_has_words s ≡ true

abbrev PartHas : Option NamedStmt → Type 0
PartHas None = Unit {0}
PartHas (Some s) = Has s

abbrev ValueHas : Option NamedExpr → Type 0
ValueHas e = inside_if all_have expr_has_words e ≡ true

record MadeStmt (r : NamedStmt × Pending) : Type 0 where
  pub is : Has r.0
  pub pending : AllHave r.1.stmts

record MadeAct (r : NamedAct × Pending) : Type 0 where
  pub is : act_has_words r.0 ≡ true
  pub pending : AllHave r.1.stmts

record MadePart (r : Option NamedStmt × Pending) : Type 0 where
  pub is : PartHas r.0
  pub pending : AllHave r.1.stmts

record MadeValue (r : Option NamedExpr × Pending) : Type 0 where
  pub is : ValueHas r.0
  pub pending : AllHave r.1.stmts

record MadeBounds (r : Option NamedLimits × Pending) : Type 0 where
  is : inside_if all_have limits_have_words r.0 ≡ true
  pending : AllHave r.1.stmts

record MadeInit (r : NamedInit × Pending) : Type 0 where
  pub is : init_has_words r.0 ≡ true
  pub pending : AllHave r.1.stmts

record MadeMany (r : List NamedExpr × Pending) : Type 0 where
  pub is : inside_each all_have expr_has_words r.0 ≡ true
  pub pending : AllHave r.1.stmts

act_has : (x : ActLayer) (a : NamedAct) → roll-Act Name (Unit {0}) x ≡ a → act_by_parts (act_words_inside x) ≡ true → act_has_words a ≡ true
act_has x a is h = ap act_has_words (sym is) ∙ fold-roll-Act Name (Unit {0}) Bool Bool act_by_parts stmt_by_parts x ∙ h

act_made : (x : ActLayer) (a : NamedAct) (q : Pending) → roll-Act Name (Unit {0}) x ≡ a → act_by_parts (act_words_inside x) ≡ true → AllHave q.stmts → MadeAct (a, q)
act_made x a q is h g = record { is = act_has x a is h; pending = g }

stmt_is : (s : NamedStmt) → stmt_has_words s ≡ act_has_words s.body
stmt_is s = fold-roll-Stmt Name (Unit {0}) Bool Bool act_by_parts stmt_by_parts (record { body = s.body; pos = s.pos; note = tt })

-- ---- what goes before a statement

joined_has : (ss : List NamedStmt) (t : NamedStmt) → AllHave ss → Has t → Has (joined ss t)
joined_has [] t h g = g
joined_has (b ∷ bs) t h g = block_has ((b ∷ bs) ++ t ∷ []) b.pos (added (b ∷ bs) (t ∷ []) h (both _ _ g refl))

placed_has : (ss : List NamedStmt) (t : NamedStmt) → AllHave ss → Has t → AllHave (placed ss t)
placed_has ss t h g = by (out-Act Name (Unit {0}) t.body)
  where
    by : (x : ActLayer) → AllHave (placed_by x ss t)
    by (Act-F.Local d) = added ss (t ∷ []) h (both _ _ g refl)
    by _ = both _ _ (joined_has ss t h g) refl

condition_has : (ss : List NamedStmt) (c : NamedExpr) → HasWords c → HasWords (loop_condition ss c)
condition_has [] c h = h
condition_has (b ∷ bs) c h = number_has 1 b.pos refl

body_has : (ss : List NamedStmt) (c : NamedExpr) (t : NamedStmt) → AllHave ss → HasWords c → Has t → Has (loop_body ss c t)
body_has [] c t h w g = g
body_has (b ∷ bs) c t h w g =
    let leave : NamedStmt = stmt_at act.Break b.pos in
    block_has ((b ∷ bs) ++ stmt_at (act.If c t (Some leave)) b.pos ∷ []) b.pos
    (added (b ∷ bs) _ h (both _ _ (stmt_has (Act-F.If c t (Some leave)) _ b.pos (act.rolls-If c t (Some leave)) (both _ _ (both _ _ w g) (stmt_has Act-F.Break _ b.pos act.rolls-Break refl))) refl))

for_condition_has : (ss : List NamedStmt) (c : Option NamedExpr) → ValueHas c → ValueHas (for_condition ss c)
for_condition_has ss None h = refl
for_condition_has ss (Some c) h = condition_has ss c h

for_body_has : (ss : List NamedStmt) (c : Option NamedExpr) (t : NamedStmt) → AllHave ss → ValueHas c → Has t → Has (for_body ss c t)
for_body_has ss None t h w g = g
for_body_has ss (Some c) t h w g = body_has ss c t h w g

module _ (known : Integers) where
  -- ---- expressions of statements

  many_good : (es : List NamedExpr) → inside_each all_have expr_has_words es ≡ true → (p : Pending) → AllHave p.stmts → MadeMany (exprs_plain known es p)
  many_good [] h p g = record { is = refl; pending = g }
  many_good (e ∷ es) h p g =
      let hs = parts_of (expr_has_words e) (inside_each all_have expr_has_words es) h in
      let m = plain_good known e hs.0 p g in
      let n = many_good es hs.1 (expr_plain known e p).1 m.pending in
      record { is = both _ _ m.is n.is; pending = n.pending }

  value_good : (e : Option NamedExpr) → ValueHas e → (p : Pending) → AllHave p.stmts → MadeValue (maybe_plain known e p)
  value_good None h p g = record { is = refl; pending = g }
  value_good (Some e) h p g = let m = plain_good known e h p g in record { is = m.is; pending = m.pending }

  bounds_good : (l : Option NamedLimits) → inside_if all_have limits_have_words l ≡ true → (p : Pending) → AllHave p.stmts → MadeBounds (bounds_plain known l p)
  bounds_good None h p g = record { is = refl; pending = g }
  bounds_good (Some l) h p g = let m = limits_good known l h p g in record { is = m.is; pending = m.pending }

  init_good : (i : NamedInit) → init_has_words i ≡ true → (p : Pending) → AllHave p.stmts → MadeInit (init_plain known i p)
  init_good init.Nothing h p g = record { is = refl; pending = g }
  init_good (init.One e) h p g = let m = whole_good known e h p g in record { is = m.is; pending = m.pending }
  init_good (init.Many es) h p g = let m = many_good es h p g in record { is = m.is; pending = m.pending }

  -- ---- statements

  abbrev Good : OfStmt → Type 0
  Good s = (p : Pending) → AllHave p.stmts → MadeStmt (s p)

  abbrev PartGood : Option OfStmt → Type 0
  PartGood None = Unit {0}
  PartGood (Some s) = Good s

  alone_good : (s : OfStmt) (n : ℕ) → Good s → Has (alone s n).0
  alone_good s n f = let m = f (none_pending n) refl in joined_has (s (none_pending n)).1.stmts (s (none_pending n)).0 m.pending m.is

  part_good : (s : Option OfStmt) (n : ℕ) → PartGood s → PartHas (part_alone s n).0
  part_good None n f = tt
  part_good (Some s) n f = alone_good s n f

  before_good : (s : Option OfStmt) (p : Pending) → PartGood s → AllHave p.stmts → MadePart (part_before s p)
  before_good None p f g = record { is = tt; pending = g }
  before_good (Some s) p f g = let m = f p g in record { is = m.is; pending = m.pending }

  abbrev AllGood : List OfStmt → Type 0
  AllGood [] = Unit {0}
  AllGood (s ∷ ss) = Good s × AllGood ss

  block_good : (ss : List OfStmt) (n : ℕ) → AllGood ss → AllHave (in_block ss n).0
  block_good [] n f = refl
  block_good (s ∷ ss) n f =
      let m = f.0 (none_pending n) refl in
      added (placed (s (none_pending n)).1.stmts (s (none_pending n)).0) _ (placed_has (s (none_pending n)).1.stmts (s (none_pending n)).0 m.pending m.is) (block_good ss (s (none_pending n)).1.next f.1)

  if_has : (a : NamedExpr) (u : NamedStmt) (v : Option NamedStmt) → HasWords a → Has u → PartHas v → act_by_parts (act_words_inside (Act-F.If a u v)) ≡ true
  if_has a u None h g f = both _ _ (both _ _ h g) refl
  if_has a u (Some v) h g f = both _ _ (both _ _ h g) f

  for_has : (f : Option NamedStmt) (c : Option NamedExpr) (u : Option NamedStmt) (t : NamedStmt) → PartHas f → ValueHas c → PartHas u → Has t → act_by_parts (act_words_inside (Act-F.For f c u t)) ≡ true
  for_has None c None t h w g i = both _ _ (both _ _ (both _ _ refl w) refl) i
  for_has None c (Some u) t h w g i = both _ _ (both _ _ (both _ _ refl w) g) i
  for_has (Some f) c None t h w g i = both _ _ (both _ _ (both _ _ h w) refl) i
  for_has (Some f) c (Some u) t h w g i = both _ _ (both _ _ (both _ _ h w) g) i

  if_good : (e : NamedExpr) (s : OfStmt) (t : Option OfStmt) → HasWords e → Good s → PartGood t → (p : Pending) → AllHave p.stmts → MadeAct (act_parts known (Act-F.If e s t) p)
  if_good e s t h f k p g =
      let m = plain_good known e h p g in
      let q = (expr_plain known e p).1 in
      act_made (Act-F.If _ _ _) _ _ (act.rolls-If _ _ _) (if_has _ _ (part_alone t (alone s q.next).1).0 m.is (alone_good s q.next f) (part_good t (alone s q.next).1 k)) m.pending

  for_good : (a : Option OfStmt) (e : Option NamedExpr) (b : Option OfStmt) (s : OfStmt) → PartGood a → ValueHas e → PartGood b → Good s → (p : Pending) → AllHave p.stmts → MadeAct (act_parts known (Act-F.For a e b s) p)
  for_good a e b s f h k i p g =
      let m = before_good a p f g in
      let q = (part_before a p).1 in
      let v = value_good e h (none_pending q.next) refl in
      let c = (maybe_plain known e (none_pending q.next)).0 in
      let r = (maybe_plain known e (none_pending q.next)).1 in
      act_made (Act-F.For _ _ _ _) _ _ (act.rolls-For _ _ _ _)
      (for_has (part_before a p).0 (for_condition r.stmts c) (part_alone b (alone s r.next).1).0 (for_body r.stmts c (alone s r.next).0) m.is (for_condition_has r.stmts c v.is) (part_good b (alone s r.next).1 k)
      (for_body_has r.stmts c (alone s r.next).0 v.pending v.is (alone_good s r.next i))) m.pending

  abbrev ActHolds : NamedAct → Type 0
  ActHolds a = act_has_words a ≡ true → (p : Pending) → AllHave p.stmts → MadeAct (act_plain known a p)

  abbrev StmtHolds : NamedStmt → Type 0
  StmtHolds s = Has s → Good (stmt_plain known s)

  abbrev KeptAct : Type 0
  KeptAct = (a : NamedAct) × ActHolds a

  abbrev KeptStmt : Type 0
  KeptStmt = (s : NamedStmt) × StmtHolds s

  abbrev inner_act : Act-F Name (Unit {0}) KeptAct KeptStmt → ActLayer
  inner_act = map-Act Name (Unit {0}) KeptAct KeptStmt NamedAct NamedStmt (λ e. e.0) (λ e. e.0)

  abbrev inner_stmt : Stmt-F Name (Unit {0}) KeptAct KeptStmt → Stmt-F Name (Unit {0}) NamedAct NamedStmt
  inner_stmt = map-Stmt Name (Unit {0}) KeptAct KeptStmt NamedAct NamedStmt (λ e. e.0) (λ e. e.0)

  abbrev act_inside : ActLayer → Act-F Name (Unit {0}) OfAct OfStmt
  act_inside = map-Act Name (Unit {0}) NamedAct NamedStmt OfAct OfStmt (act_plain known) (stmt_plain known)

  abbrev stmts_of : List KeptStmt → List NamedStmt
  stmts_of ks = map (λ (k : KeptStmt). k.0) ks

  all_good : (ks : List KeptStmt) → inside_each all_have (λ (b : Bool). b) (map stmt_has_words (map (λ (k : KeptStmt). k.0) ks)) ≡ true → AllGood (map (stmt_plain known) (map (λ (k : KeptStmt). k.0) ks))
  all_good [] h = tt
  all_good (k ∷ ks) h = let hs = parts_of (stmt_has_words k.0) (inside_each all_have (λ (b : Bool). b) (map stmt_has_words (map (λ (k : KeptStmt). k.0) ks))) h in (k.1 hs.0, all_good ks hs.1)

  act_step : (y : Act-F Name (Unit {0}) KeptAct KeptStmt) → act_by_parts (act_words_inside (inner_act y)) ≡ true → (p : Pending) → AllHave p.stmts → MadeAct (act_parts known (act_inside (inner_act y)) p)
  act_step (Act-F.Block m ks) h p g =
      let all = block_good (map (stmt_plain known) (stmts_of ks)) p.next (all_good ks h) in
      act_made (Act-F.Block m _) _ _ (act.rolls-Block m _) (as_listed _ all) g
  act_step Act-F.Empty h p g = act_made Act-F.Empty _ p act.rolls-Empty refl g
  act_step (Act-F.Local d) h p g =
      let hs = parts_of (inside_if all_have limits_have_words d.bounds) (init_has_words d.init) h in
      let k = bounds_good d.bounds hs.0 p g in
      let m = init_good d.init hs.1 (bounds_plain known d.bounds p).1 k.pending in
      act_made (Act-F.Local _) _ _ (act.rolls-Local _) (both _ _ k.is m.is) m.pending
  act_step (Act-F.Assign x e) h p g =
      let hs = parts_of (expr_has_words x) (expr_has_words e) h in
      let m = plain_good known x hs.0 p g in
      let n = right_good known (expr_plain known x p).0 e hs.1 (expr_plain known x p).1 m.pending in
      act_made (Act-F.Assign _ _) _ _ (act.rolls-Assign _ _) (both _ _ m.is n.is) n.pending
  act_step (Act-F.Call e) h p g = let m = whole_good known e h p g in act_made (Act-F.Call _) _ _ (act.rolls-Call _) m.is m.pending
  act_step (Act-F.If e k None) h p g =
      let hs = parts_of (expr_has_words e && stmt_has_words k.0) true h in
      let gs = parts_of (expr_has_words e) (stmt_has_words k.0) hs.0 in
      if_good e (stmt_plain known k.0) None gs.0 (k.1 gs.1) tt p g
  act_step (Act-F.If e k (Some j)) h p g =
      let hs = parts_of (expr_has_words e && stmt_has_words k.0) (stmt_has_words j.0) h in
      let gs = parts_of (expr_has_words e) (stmt_has_words k.0) hs.0 in
      if_good e (stmt_plain known k.0) (Some (stmt_plain known j.0)) gs.0 (k.1 gs.1) (j.1 hs.1) p g
  act_step (Act-F.While e k) h p g =
      let hs = parts_of (expr_has_words e) (stmt_has_words k.0) h in
      let m = plain_good known e hs.0 (none_pending p.next) refl in
      let c = (expr_plain known e (none_pending p.next)).0 in
      let q = (expr_plain known e (none_pending p.next)).1 in
      act_made (Act-F.While _ _) _ _ (act.rolls-While _ _)
      (both _ _ (condition_has q.stmts c m.is) (body_has q.stmts c (alone (stmt_plain known k.0) q.next).0 m.pending m.is (alone_good (stmt_plain known k.0) q.next (k.1 hs.1)))) g
  act_step (Act-F.For None e None k) h p g =
      let hs = parts_of (inside_if all_have expr_has_words e && true) (stmt_has_words k.0) h in
      let gs = parts_of (inside_if all_have expr_has_words e) true hs.0 in
      for_good None e None (stmt_plain known k.0) tt gs.0 tt (k.1 hs.1) p g
  act_step (Act-F.For None e (Some j) k) h p g =
      let hs = parts_of (inside_if all_have expr_has_words e && stmt_has_words j.0) (stmt_has_words k.0) h in
      let gs = parts_of (inside_if all_have expr_has_words e) (stmt_has_words j.0) hs.0 in
      for_good None e (Some (stmt_plain known j.0)) (stmt_plain known k.0) tt gs.0 (j.1 gs.1) (k.1 hs.1) p g
  act_step (Act-F.For (Some l) e None k) h p g =
      let hs = parts_of ((stmt_has_words l.0 && inside_if all_have expr_has_words e) && true) (stmt_has_words k.0) h in
      let gs = parts_of (stmt_has_words l.0 && inside_if all_have expr_has_words e) true hs.0 in
      let fs = parts_of (stmt_has_words l.0) (inside_if all_have expr_has_words e) gs.0 in
      for_good (Some (stmt_plain known l.0)) e None (stmt_plain known k.0) (l.1 fs.0) fs.1 tt (k.1 hs.1) p g
  act_step (Act-F.For (Some l) e (Some j) k) h p g =
      let hs = parts_of ((stmt_has_words l.0 && inside_if all_have expr_has_words e) && stmt_has_words j.0) (stmt_has_words k.0) h in
      let gs = parts_of (stmt_has_words l.0 && inside_if all_have expr_has_words e) (stmt_has_words j.0) hs.0 in
      let fs = parts_of (stmt_has_words l.0) (inside_if all_have expr_has_words e) gs.0 in
      for_good (Some (stmt_plain known l.0)) e (Some (stmt_plain known j.0)) (stmt_plain known k.0) (l.1 fs.0) fs.1 (j.1 gs.1) (k.1 hs.1) p g
  act_step (Act-F.Return e) h p g = let m = value_good e h p g in act_made (Act-F.Return _) _ _ (act.rolls-Return _) m.is m.pending
  act_step Act-F.Break h p g = act_made Act-F.Break _ p act.rolls-Break refl g
  act_step Act-F.Continue h p g = act_made Act-F.Continue _ p act.rolls-Continue refl g
  act_step (Act-F.Check e) h p g = let m = plain_good known e h p g in act_made (Act-F.Check _) _ _ (act.rolls-Check _) m.is m.pending
  act_step (Act-F.Bundle ks) h p g =
      let all = block_good (map (stmt_plain known) (stmts_of ks)) p.next (all_good ks h) in
      act_made (Act-F.Bundle _) _ _ (act.rolls-Bundle _) (as_listed _ all) g

  act_by : (x : ActLayer) (y : Act-F Name (Unit {0}) KeptAct KeptStmt) → inner_act y ≡ x → ActHolds (roll-Act Name (Unit {0}) x)
  act_by x y is h p g =
      subst MadeAct (sym (ap (λ f. f p) (fold-roll-Act Name (Unit {0}) OfAct OfStmt (act_parts known) stmt_parts x)))
      (subst (λ z. act_by_parts (act_words_inside z) ≡ true → MadeAct (act_parts known (act_inside z) p)) is (λ w. act_step y w p g)
      (sym (fold-roll-Act Name (Unit {0}) Bool Bool act_by_parts stmt_by_parts x) ∙ h))

  stmt_by : (x : Stmt-F Name (Unit {0}) NamedAct NamedStmt) (y : Stmt-F Name (Unit {0}) KeptAct KeptStmt) → inner_stmt y ≡ x → StmtHolds (roll-Stmt Name (Unit {0}) x)
  stmt_by x y is =
      subst (λ z. StmtHolds (roll-Stmt Name (Unit {0}) z)) is (λ h p g.
      let m = y.body.1 (sym (stmt_is (roll-Stmt Name (Unit {0}) (inner_stmt y))) ∙ h) p g in
      subst MadeStmt (sym (ap (λ f. f p) (fold-roll-Stmt Name (Unit {0}) OfAct OfStmt (act_parts known) stmt_parts (inner_stmt y))))
      (record { is = stmt_is _ ∙ m.is; pending = m.pending }))

  stmt_good : (s : NamedStmt) → StmtHolds s
  stmt_good = ind-Stmt Name (Unit {0}) ActHolds StmtHolds act_by stmt_by

  whole_body : (s : NamedStmt) (n : ℕ) → Has s → Has (alone (stmt_plain known s) n).0
  whole_body s n h = alone_good (stmt_plain known s) n (stmt_good s h)

-- ---- items

item_good : (known : Integers) (i : NamedItem) → item_has_words i ≡ true → item_has_words (item_plain known i) ≡ true
item_good known (item.Directive d) h = h
item_good known (item.Tag n at) h = h
item_good known (item.Struct n members at) h = h
item_good known (item.Static d) h = h
item_good known (item.Proto g) h = h
item_good known (item.Function g body) h =
    let hs = parts_of (head_has_words g) (stmt_has_words body) h in
    both _ _ hs.0 (whole_body (known_in known g body) body _ hs.1)

items_good : (known : Integers) (is : List NamedItem) → list_all item_has_words is ≡ true → list_all item_has_words (map (item_plain known) is) ≡ true
items_good known [] h = refl
items_good known (i ∷ is) h = let hs = parts_of (item_has_words i) (list_all item_has_words is) h in both _ _ (item_good known i hs.0) (items_good known is hs.1)

pub plain_keeps_words : (tree : NamedTree) → tree_has_words tree ≡ true → tree_has_words (plain tree) ≡ true
plain_keeps_words tree h = items_good (known_of tree) tree.items h
