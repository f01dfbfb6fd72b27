-- Statements without effects in their expressions have calls as a whole alone, and stand where they may, if those with
-- effects have the form that the grammar gives and no effect in them is refused.
use Rattle.std.proofs.Common.{◌≡◌, ◌∙◌, sym, ap, refl, subst, Bool, true, false, ◌&&◌, ◌||◌, nat_le, ℕ, suc, List, [], ◌∷◌, ◌++◌, map, length}
use Rattle.std.specs.Prelude.{Option, Some, None, not}
use Rattle.std.specs.List.{list_all}
use Rattle.ckc_base.specs.declared.places.Pos.{Pos}
use Rattle.ckc_syntax.specs.Inside.{listed, all_have, one_has, inside_each}
use Rattle.ckc_syntax.specs.declared.tree.Name.{Name}
use Rattle.ckc_syntax.specs.declared.tree.Init.TheVariants as init
use Rattle.ckc_syntax.specs.declared.tree.Act.{Act-F, map-Act, roll-Act, out-Act, fold-Act, fold-roll-Act}
use Rattle.ckc_syntax.specs.declared.tree.Act.TheVariants as act
use Rattle.ckc_syntax.specs.declared.tree.Stmt.{Stmt-F, map-Stmt, ind-Stmt, roll-Stmt, fold-roll-Stmt}
use Rattle.ckc_syntax.specs.Trees.{NamedDecl, NamedLimits, NamedInit, NamedExpr, NamedStmt, NamedAct}
use Rattle.ckc_plain.specs.ckc_plain_barred.specs.declared.integers.Integers.{Integers}
use Rattle.ckc_plain.specs.ckc_plain_bodies.specs.declared.pending.Pending.{Pending}
use Rattle.ckc_plain.specs.ckc_plain_barred.specs.Effects.{in_expr, in_right, in_bounds, in_maybe, in_limits}
use Rattle.ckc_plain.specs.ckc_plain_barred.specs.Barred as barred
use Rattle.ckc_plain.specs.ckc_plain_barred.specs.Barred.{in_init, in_act, in_stmt}
use Rattle.ckc_plain.specs.ckc_plain_bodies.specs.Taken.{stmt_at, none_pending}
use Rattle.ckc_plain.specs.ckc_plain_bodies.specs.Expressions.{expr_plain, whole_plain, right_plain, maybe_plain}
use Rattle.ckc_plain.specs.ckc_plain_bodies.specs.Statements.{joined, placed_by, placed, OfAct, OfStmt, alone, in_block, loop_condition, loop_body, for_condition, for_body, init_plain, act_parts, stmt_parts, act_plain, stmt_plain}
use Rattle.ckc_typed_welltyped.specs.Productions.{callless_bounds, callless_value, right_init, is_branch, begins, steps, Given, given_act, given_in, given_stmt, expr_form, limits_form, placed_bounds, placed_value, placed_start, placed_act, placed_stmt, with_calls}
use Rattle.ckc_typed_plain.proofs.GivenLevels.{ActLayer, given_of, given_inside, Callless, AllGood, both, parts_of, empty_parts, given_at, number_without, is_not, all_are}
use Rattle.ckc_typed_plain.proofs.GivenExprs.{limits_hold, plain_made, whole_made, call_statement, right_made}
use Rattle.ckc_typed_plain.proofs.Untouched.{local_kept, local_stays, limits_stay, plain_stays, right_stays}

abbrev ValueCallless : Option NamedExpr → Type 0
ValueCallless e = callless_value e ≡ true

-- what a statement becomes is like it
pub record Like (g h : Given) : Type 0 where
  pub fine : h.fine ≡ true
  pub nested : h.nested ≡ true
  pub declares : h.declares ≡ g.declares
  pub assigns : h.assigns ≡ g.assigns
  pub jumps : h.jumps ≡ g.jumps

-- the same if it stands alone: it may have become a block
pub record Alone (g h : Given) : Type 0 where
  pub fine : h.fine ≡ true
  pub nested : h.nested ≡ true
  pub branch : g.declares ≡ false → is_branch h ≡ true
  pub jumps : h.jumps ≡ g.jumps

-- what is said of statements in a block
pub record ListMade (j : Bool) (ss : List NamedStmt) : Type 0 where
  fine : inside_each all_have (λ (g : Given). g.fine) (map given_stmt ss) ≡ true
  nested : inside_each all_have (λ (g : Given). g.nested) (map given_stmt ss) ≡ true
  jumps : inside_each one_has (λ (g : Given). g.jumps) (map given_stmt ss) ≡ j

or_false : (b : Bool) → (b || false) ≡ b
or_false true = refl
or_false false = refl

or_assoc : (a b c : Bool) → ((a || b) || c) ≡ (a || (b || c))
or_assoc true b c = refl
or_assoc false b c = refl

appended : (i j : Bool) (xs ys : List NamedStmt) → ListMade i xs → ListMade j ys → ListMade (i || j) (xs ++ ys)
appended i j [] ys m n = record { fine = n.fine; nested = n.nested; jumps = n.jumps ∙ ap (λ b. b || j) m.jumps }
appended i j (x ∷ xs) ys m n =
    let fs = parts_of (given_stmt x).fine (inside_each all_have (λ (g : Given). g.fine) (map given_stmt xs)) m.fine in
    let ns = parts_of (given_stmt x).nested (inside_each all_have (λ (g : Given). g.nested) (map given_stmt xs)) m.nested in
    let k = inside_each one_has (λ (g : Given). g.jumps) (map given_stmt xs) in
    let more : ListMade (k || j) (xs ++ ys) = appended k j xs ys (record { fine = fs.1; nested = ns.1; jumps = refl }) n in
    record {
      fine = both _ _ fs.0 more.fine;
      nested = both _ _ ns.0 more.nested;
      jumps = ap (λ b. (given_stmt x).jumps || b) more.jumps ∙ sym (or_assoc (given_stmt x).jumps k j) ∙ ap (λ b. b || j) m.jumps;
    }

good_list : (ss : List NamedStmt) → AllGood ss → ListMade false ss
good_list ss h = let a = all_are ss h in record { fine = a.fine; nested = a.nested; jumps = a.stay }

like_list : (g : Given) (t : NamedStmt) → Like g (given_stmt t) → ListMade g.jumps (t ∷ [])
like_list g t l = record { fine = both _ _ l.fine refl; nested = both _ _ l.nested refl; jumps = or_false (given_stmt t).jumps ∙ l.jumps }

like_alone : (g h : Given) → Like g h → Alone g h
like_alone g h l = record { fine = l.fine; nested = l.nested; branch = λ d. both _ _ l.nested (ap not (l.declares ∙ d)); jumps = l.jumps }

block_alone : (g : Given) (ss : List NamedStmt) (pos : Pos) → ListMade g.jumps ss → Alone g (given_stmt (stmt_at (act.Block None ss) pos))
block_alone g ss pos m =
    let is = given_at (Act-F.Block None ss) _ pos (act.rolls-Block None ss) in
    subst (Alone g) (sym is) (record { fine = m.fine; nested = m.nested; branch = λ d. both _ _ m.nested refl; jumps = m.jumps })

joined_alone : (g : Given) (ss : List NamedStmt) (t : NamedStmt) → AllGood ss → Like g (given_stmt t) → Alone g (given_stmt (joined ss t))
joined_alone g [] t h l = like_alone g (given_stmt t) l
joined_alone g (b ∷ bs) t h l = block_alone g ((b ∷ bs) ++ t ∷ []) b.pos (appended false g.jumps (b ∷ bs) (t ∷ []) (good_list (b ∷ bs) h) (like_list g t l))

joined_list : (g : Given) (ss : List NamedStmt) (t : NamedStmt) → AllGood ss → Like g (given_stmt t) → ListMade g.jumps (joined ss t ∷ [])
joined_list g [] t h l = like_list g t l
joined_list g (b ∷ bs) t h l =
    let all = appended false g.jumps (b ∷ bs) (t ∷ []) (good_list (b ∷ bs) h) (like_list g t l) in
    let is = given_at (Act-F.Block None ((b ∷ bs) ++ t ∷ [])) _ b.pos (act.rolls-Block None ((b ∷ bs) ++ t ∷ [])) in
    record {
      fine = both _ _ (ap (λ (x : Given). x.fine) is ∙ all.fine) refl;
      nested = both _ _ (ap (λ (x : Given). x.nested) is ∙ all.nested) refl;
      jumps = or_false _ ∙ ap (λ (x : Given). x.jumps) is ∙ all.jumps;
    }

placed_list : (g : Given) (ss : List NamedStmt) (t : NamedStmt) → AllGood ss → Like g (given_stmt t) → ListMade g.jumps (placed ss t)
placed_list g ss t h l = by (out-Act Name (Unit {0}) t.body)
  where
    by : (x : ActLayer) → ListMade g.jumps (placed_by x ss t)
    by (Act-F.Local d) = appended false g.jumps ss (t ∷ []) (good_list ss h) (like_list g t l)
    by _ = joined_list g ss t h l

placed_none : (t : NamedStmt) → placed [] t ≡ t ∷ []
placed_none t = by (out-Act Name (Unit {0}) t.body)
  where
    by : (x : ActLayer) → placed_by x [] t ≡ t ∷ []
    by (Act-F.Local d) = refl
    by _ = refl

-- ---- loops

condition_callless : (ss : List NamedStmt) (c : NamedExpr) → Callless c → Callless (loop_condition ss c)
condition_callless [] c h = h
condition_callless (b ∷ bs) c h = number_without 1 b.pos

-- the body of a loop is fine, and no declaration
pub record Body (t : NamedStmt) : Type 0 where
  fine : (given_stmt t).fine ≡ true
  branch : is_branch (given_stmt t) ≡ true

body_made : (ss : List NamedStmt) (c : NamedExpr) (t : NamedStmt) → AllGood ss → Callless c → Body t → Body (loop_body ss c t)
body_made [] c t h w b = b
body_made (s ∷ ss) c t h w b =
    let leave : NamedStmt = stmt_at act.Break s.pos in
    let leaves = given_at Act-F.Break _ s.pos act.rolls-Break in
    let test : NamedStmt = stmt_at (act.If c t (Some leave)) s.pos in
    let tests = given_at (Act-F.If c t (Some leave)) _ s.pos (act.rolls-If c t (Some leave)) in
    let fine : (given_stmt test).fine ≡ true = ap (λ (x : Given). x.fine) tests ∙ both _ _ (both _ _ w b.fine) (ap (λ (x : Given). x.fine) leaves) in
    let nested : (given_stmt test).nested ≡ true = ap (λ (x : Given). x.nested) tests ∙ both _ _ b.branch (ap is_branch leaves) in
    let all = appended false (given_stmt test).jumps (s ∷ ss) (test ∷ []) (good_list (s ∷ ss) h) (record { fine = both _ _ fine refl; nested = both _ _ nested refl; jumps = or_false (given_stmt test).jumps }) in
    let is = given_at (Act-F.Block None ((s ∷ ss) ++ test ∷ [])) _ s.pos (act.rolls-Block None ((s ∷ ss) ++ test ∷ [])) in
    record { fine = ap (λ (x : Given). x.fine) is ∙ all.fine; branch = ap is_branch is ∙ both _ _ all.nested refl }

for_condition_callless : (ss : List NamedStmt) (c : Option NamedExpr) → ValueCallless c → ValueCallless (for_condition ss c)
for_condition_callless ss None h = refl
for_condition_callless ss (Some c) h = condition_callless ss c h

for_body_made : (ss : List NamedStmt) (c : Option NamedExpr) (t : NamedStmt) → AllGood ss → ValueCallless c → Body t → Body (for_body ss c t)
for_body_made ss None t h w b = b
for_body_made ss (Some c) t h w b = body_made ss c t h w b

alone_body : (g h : Given) → Alone g h → is_branch g ≡ true → (h.fine ≡ true) × (is_branch h ≡ true)
alone_body g h a b = (a.fine, a.branch (is_not g.declares (parts_of g.nested (not g.declares) b).1))

record MadeAct (g : Given) (r : NamedAct × Pending) : Type 0 where
  like : Like g (given_of r.0)
  pending : AllGood r.1.stmts

record MadeStmt (g : Given) (r : NamedStmt × Pending) : Type 0 where
  like : Like g (given_stmt r.0)
  pending : AllGood r.1.stmts

act_made : (x : ActLayer) (a : NamedAct) (q : Pending) (g : Given) → roll-Act Name (Unit {0}) x ≡ a → Like g (given_act (given_inside x)) → AllGood q.stmts → MadeAct g (a, q)
act_made x a q g is l h = record {
  like = subst (Like g) (sym (ap given_of (sym is) ∙ fold-roll-Act Name (Unit {0}) Given Given given_act given_in x)) l;
  pending = h;
}

module _ (known : Integers) where
  -- ---- declarations

  limits_callless : (l : NamedLimits) → limits_form l ≡ true → in_limits known l ≡ [] → callless_bounds (Some l) ≡ true
  limits_callless l f none =
      let m = limits_hold known l f none (none_pending 0) refl in
      ap (λ (r : NamedLimits × Pending). callless_bounds (Some r.0)) (sym (limits_stay known l none (none_pending 0))) ∙ m.is

  pub bounds_callless : (l : Option NamedLimits) → placed_bounds with_calls l ≡ true → in_bounds known l ≡ [] → callless_bounds l ≡ true
  bounds_callless None f none = refl
  bounds_callless (Some l) f none = limits_callless l f none

  pub expr_callless : (e : NamedExpr) → (expr_form e).inner ≡ true → in_expr known e true ≡ [] → Callless e
  expr_callless e f none =
      let m = plain_made known e true f none (none_pending 0) refl in
      subst (λ (r : NamedExpr × Pending). Callless r.0) (plain_stays known e (none_pending 0) none) m.is

  record MadeInit (r : NamedInit × Pending) : Type 0 where
    is : right_init r.0 ≡ true
    pending : AllGood r.1.stmts

  init_made : (i : NamedInit) (b : Bool) → placed_start with_calls i ≡ true → in_init known i b ≡ [] → (p : Pending) → AllGood p.stmts → MadeInit (init_plain known i p)
  init_made init.Nothing b f none p g = record { is = refl; pending = g }
  init_made (init.One e) b f none p g = let m = whole_made known e b f none p g in record { is = m.is; pending = m.pending }
  init_made (init.Many es) b f none p g = absurd (cc)

  record MadeValue (r : Option NamedExpr × Pending) : Type 0 where
    is : ValueCallless r.0
    pending : AllGood r.1.stmts

  value_made : (e : Option NamedExpr) (b : Bool) → placed_value with_calls e ≡ true → in_maybe known e b ≡ [] → (p : Pending) → AllGood p.stmts → MadeValue (maybe_plain known e p)
  value_made None b f none p g = record { is = refl; pending = g }
  value_made (Some e) b f none p g = let m = plain_made known e b f none p g in record { is = m.is; pending = m.pending }

  -- ---- what is said of a statement, by what the grammar says of it, the effects that are refused in it, and what it becomes

  record Keeps (g : Given) (d : Bool → List Pos) (k : OfStmt) : Type 0 where
    made : (b : Bool) → g.fine ≡ true → g.nested ≡ true → d b ≡ [] → (p : Pending) → AllGood p.stmts → MadeStmt g (k p)
    quiet : g.assigns ≡ true → d true ≡ [] → (p : Pending) → (k p).1.stmts ≡ p.stmts

  record KeepsAct (g : Given) (d : Bool → List Pos) (k : OfAct) : Type 0 where
    made : (b : Bool) → g.fine ≡ true → g.nested ≡ true → d b ≡ [] → (p : Pending) → AllGood p.stmts → MadeAct g (k p)
    quiet : g.assigns ≡ true → d true ≡ [] → (p : Pending) → (k p).1.stmts ≡ p.stmts

  alone_made : (g : Given) (d : Bool → List Pos) (k : OfStmt) → Keeps g d k → (b : Bool) → g.fine ≡ true → g.nested ≡ true → d b ≡ [] → (n : ℕ) → Alone g (given_stmt (alone k n).0)
  alone_made g d k h b f w none n = let m = h.made b f w none (none_pending n) refl in joined_alone g (k (none_pending n)).1.stmts (k (none_pending n)).0 m.pending m.like

  if_like : (a : NamedExpr) (u : NamedStmt) (g : Given) → Callless a → Alone g (given_stmt u) → is_branch g ≡ true → (f : Bool)
      → Like (record { fine = f; nested = is_branch g && true; assigns = false; declares = false; jumps = g.jumps || false }) (given_act (given_inside (Act-F.If a u None)))
  if_like a u g h l b f =
      let t = alone_body g (given_stmt u) l b in
      record { fine = both _ _ (both _ _ h t.0) refl; nested = both _ _ t.1 refl; declares = refl; assigns = refl; jumps = ap (λ x. x || false) l.jumps }

  if_both : (a : NamedExpr) (u v : NamedStmt) (g i : Given) → Callless a → Alone g (given_stmt u) → is_branch g ≡ true → Alone i (given_stmt v) → is_branch i ≡ true → (f : Bool)
      → Like (record { fine = f; nested = is_branch g && is_branch i; assigns = false; declares = false; jumps = g.jumps || i.jumps }) (given_act (given_inside (Act-F.If a u (Some v))))
  if_both a u v g i h l b m c f =
      let t = alone_body g (given_stmt u) l b in
      let w = alone_body i (given_stmt v) m c in
      record { fine = both _ _ (both _ _ h t.0) w.0; nested = both _ _ t.1 w.1; declares = refl; assigns = refl; jumps = ap (λ x. x || (given_stmt v).jumps) l.jumps ∙ ap (λ x. g.jumps || x) m.jumps }

  -- ---- by parts

  abbrev spoken_of : NamedAct → Given
  spoken_of = fold-Act Name (Unit {0}) Given Given (placed_act with_calls) given_in

  abbrev ActHolds : NamedAct → Type 0
  ActHolds a = KeepsAct (spoken_of a) (in_act known a) (act_plain known a)

  abbrev StmtHolds : NamedStmt → Type 0
  StmtHolds s = Keeps (placed_stmt with_calls s) (in_stmt known s) (stmt_plain known s)

  abbrev KeptAct : Type 0
  KeptAct = (a : NamedAct) × ActHolds a

  abbrev KeptStmt : Type 0
  KeptStmt = (s : NamedStmt) × StmtHolds s

  abbrev inner_act : Act-F Name (Unit {0}) KeptAct KeptStmt → ActLayer
  inner_act = map-Act Name (Unit {0}) KeptAct KeptStmt NamedAct NamedStmt (λ e. e.0) (λ e. e.0)

  abbrev inner_stmt : Stmt-F Name (Unit {0}) KeptAct KeptStmt → Stmt-F Name (Unit {0}) NamedAct NamedStmt
  inner_stmt = map-Stmt Name (Unit {0}) KeptAct KeptStmt NamedAct NamedStmt (λ e. e.0) (λ e. e.0)

  abbrev act_inside : ActLayer → Act-F Name (Unit {0}) OfAct OfStmt
  act_inside = map-Act Name (Unit {0}) NamedAct NamedStmt OfAct OfStmt (act_plain known) (stmt_plain known)

  abbrev spoken_inside : ActLayer → Act-F Name (Unit {0}) Given Given
  spoken_inside = map-Act Name (Unit {0}) NamedAct NamedStmt Given Given spoken_of (placed_stmt with_calls)

  abbrev barred_inside : ActLayer → Act-F Name (Unit {0}) barred.OfStmt barred.OfStmt
  barred_inside = map-Act Name (Unit {0}) NamedAct NamedStmt barred.OfStmt barred.OfStmt (in_act known) (in_stmt known)

  abbrev firsts : List KeptStmt → List NamedStmt
  firsts ks = map (λ (k : KeptStmt). k.0) ks

  abbrev spoken : KeptStmt → Given
  spoken k = placed_stmt with_calls k.0

  abbrev alone_of : KeptStmt → ℕ → NamedStmt
  alone_of k n = (alone (stmt_plain known k.0) n).0

  some_alone : (k : KeptStmt) (b : Bool) → (spoken k).fine ≡ true → (spoken k).nested ≡ true → in_stmt known k.0 b ≡ [] → (n : ℕ) → Alone (spoken k) (given_stmt (alone_of k n))
  some_alone k b f w none n = alone_made (spoken k) (in_stmt known k.0) (stmt_plain known k.0) k.1 b f w none n

  branch_nested : (g : Given) → is_branch g ≡ true → g.nested ≡ true
  branch_nested g h = (parts_of g.nested (not g.declares) h).0

  -- ---- blocks and bundles

  block_made : (ks : List KeptStmt) (b : Bool) → inside_each all_have (λ (g : Given). g.fine) (map (placed_stmt with_calls) (firsts ks)) ≡ true
      → inside_each all_have (λ (g : Given). g.nested) (map (placed_stmt with_calls) (firsts ks)) ≡ true → inside_each listed (λ (d : barred.OfStmt). d b) (map (in_stmt known) (firsts ks)) ≡ [] → (n : ℕ)
      → ListMade (inside_each one_has (λ (g : Given). g.jumps) (map (placed_stmt with_calls) (firsts ks))) (in_block (map (stmt_plain known) (firsts ks)) n).0
  block_made [] b f w none n = record { fine = refl; nested = refl; jumps = refl }
  block_made (k ∷ ks) b f w none n =
      let fs = parts_of (spoken k).fine (inside_each all_have (λ (g : Given). g.fine) (map (placed_stmt with_calls) (firsts ks))) f in
      let ws = parts_of (spoken k).nested (inside_each all_have (λ (g : Given). g.nested) (map (placed_stmt with_calls) (firsts ks))) w in
      let es = empty_parts (in_stmt known k.0 b) (inside_each listed (λ (d : barred.OfStmt). d b) (map (in_stmt known) (firsts ks))) none in
      let m = k.1.made b fs.0 ws.0 es.0 (none_pending n) refl in
      let r = stmt_plain known k.0 (none_pending n) in
      appended (spoken k).jumps (inside_each one_has (λ (g : Given). g.jumps) (map (placed_stmt with_calls) (firsts ks))) (placed r.1.stmts r.0) (in_block (map (stmt_plain known) (firsts ks)) r.1.next).0
      (placed_list (spoken k) r.1.stmts r.0 m.pending m.like) (block_made ks b fs.1 ws.1 es.1 r.1.next)

  record BundleMade (ks : List KeptStmt) (ts : List NamedStmt) : Type 0 where
    many : length (map given_stmt ts) ≡ length (map (placed_stmt with_calls) (firsts ks))
    assign : list_all (λ (g : Given). g.fine && g.assigns) (map given_stmt ts) ≡ true
    branch : inside_each all_have is_branch (map given_stmt ts) ≡ true
    jumps : inside_each one_has (λ (g : Given). g.jumps) (map given_stmt ts) ≡ inside_each one_has (λ (g : Given). g.jumps) (map (placed_stmt with_calls) (firsts ks))

  bundle_made : (ks : List KeptStmt) → list_all (λ (g : Given). g.fine && g.assigns) (map (placed_stmt with_calls) (firsts ks)) ≡ true
      → inside_each all_have is_branch (map (placed_stmt with_calls) (firsts ks)) ≡ true → inside_each listed (λ (d : barred.OfStmt). d true) (map (in_stmt known) (firsts ks)) ≡ [] → (n : ℕ)
      → BundleMade ks (in_block (map (stmt_plain known) (firsts ks)) n).0
  bundle_made [] f w none n = record { many = refl; assign = refl; branch = refl; jumps = refl }
  bundle_made (k ∷ ks) f w none n =
      let fs = parts_of ((spoken k).fine && (spoken k).assigns) (list_all (λ (g : Given). g.fine && g.assigns) (map (placed_stmt with_calls) (firsts ks))) f in
      let gs = parts_of (spoken k).fine (spoken k).assigns fs.0 in
      let ws = parts_of (is_branch (spoken k)) (inside_each all_have is_branch (map (placed_stmt with_calls) (firsts ks))) w in
      let es = empty_parts (in_stmt known k.0 true) (inside_each listed (λ (d : barred.OfStmt). d true) (map (in_stmt known) (firsts ks))) none in
      let m = k.1.made true gs.0 (branch_nested (spoken k) ws.0) es.0 (none_pending n) refl in
      let r = stmt_plain known k.0 (none_pending n) in
      let more = bundle_made ks fs.1 ws.1 es.1 r.1.next in
      let rest = (in_block (map (stmt_plain known) (firsts ks)) r.1.next).0 in
      let one : placed r.1.stmts r.0 ≡ r.0 ∷ [] = ap (λ ss. placed ss r.0) (k.1.quiet gs.1 es.0 (none_pending n)) ∙ placed_none r.0 in
      let branch = (like_alone (spoken k) (given_stmt r.0) m.like).branch (is_not (spoken k).declares (parts_of (spoken k).nested (not (spoken k).declares) ws.0).1) in
      subst (λ ts. BundleMade (k ∷ ks) (ts ++ rest)) (sym one) (record {
        many = ap suc more.many;
        assign = both _ _ (both _ _ m.like.fine (m.like.assigns ∙ gs.1)) more.assign;
        branch = both _ _ branch more.branch;
        jumps = ap (λ b. b || inside_each one_has (λ (g : Given). g.jumps) (map given_stmt rest)) m.like.jumps ∙ ap (λ b. (spoken k).jumps || b) more.jumps;
      })

  -- ---- `for`

  abbrev FirstOk : Option NamedStmt → Type 0
  FirstOk None = Unit {0}
  FirstOk (Some s) = (begins (Some (given_stmt s)) ≡ true) × ((given_stmt s).nested ≡ true)

  abbrev StepOk : Option NamedStmt → Type 0
  StepOk None = Unit {0}
  StepOk (Some s) = (steps (Some (given_stmt s)) ≡ true) × (is_branch (given_stmt s) ≡ true)

  for_fine : (f u : Option NamedStmt) (c : Option NamedExpr) (t : NamedStmt) → FirstOk f → StepOk u → ValueCallless c → Body t
      → ((given_act (given_inside (Act-F.For f c u t))).fine ≡ true) × ((given_act (given_inside (Act-F.For f c u t))).nested ≡ true)
  for_fine None None c t f u w b = (both _ _ w b.fine, b.branch)
  for_fine None (Some s) c t f u w b = (both _ _ w (both _ _ u.0 b.fine), both _ _ u.1 b.branch)
  for_fine (Some s) None c t f u w b = (both _ _ f.0 (both _ _ w b.fine), both _ _ f.1 b.branch)
  for_fine (Some s) (Some r) c t f u w b = (both _ _ f.0 (both _ _ w (both _ _ u.0 b.fine)), both _ _ f.1 (both _ _ u.1 b.branch))

  first_ok : (k : KeptStmt) (b : Bool) → begins (Some (spoken k)) ≡ true → (spoken k).nested ≡ true → in_stmt known k.0 b ≡ [] → (p : Pending) → AllGood p.stmts
      → FirstOk (Some (stmt_plain known k.0 p).0) × AllGood (stmt_plain known k.0 p).1.stmts
  first_ok k b f w none p g =
      let fs = parts_of (spoken k).fine ((spoken k).declares || (spoken k).assigns) f in
      let m = k.1.made b fs.0 w none p g in
      ((both _ _ m.like.fine (ap (λ x. x || (given_stmt (stmt_plain known k.0 p).0).assigns) m.like.declares ∙ ap (λ x. (spoken k).declares || x) m.like.assigns ∙ fs.1), m.like.nested), m.pending)

  step_ok : (k : KeptStmt) (b : Bool) → steps (Some (spoken k)) ≡ true → is_branch (spoken k) ≡ true → in_stmt known k.0 b ≡ [] → (n : ℕ) → StepOk (Some (alone_of k n))
  step_ok k b f w none n =
      let fs = parts_of (spoken k).fine (not (spoken k).jumps) f in
      let a = some_alone k b fs.0 (branch_nested (spoken k) w) none n in
      let t = alone_body (spoken k) (given_stmt (alone_of k n)) a w in
      (both _ _ t.0 (ap not a.jumps ∙ fs.1), t.1)

  body_ok : (k : KeptStmt) (b : Bool) → (spoken k).fine ≡ true → is_branch (spoken k) ≡ true → in_stmt known k.0 b ≡ [] → (n : ℕ) → Body (alone_of k n)
  body_ok k b f w none n =
      let t = alone_body (spoken k) (given_stmt (alone_of k n)) (some_alone k b f (branch_nested (spoken k) w) none n) w in
      record { fine = t.0; branch = t.1 }

  for_like : (g : Given) (f u : Option NamedStmt) (c : Option NamedExpr) (t : NamedStmt) → g.declares ≡ false → g.assigns ≡ false → g.jumps ≡ false → FirstOk f → StepOk u → ValueCallless c → Body t
      → Like g (given_act (given_inside (Act-F.For f c u t)))
  for_like g f u c t d a j h k w b =
      let m = for_fine f u c t h k w b in
      record { fine = m.0; nested = m.1; declares = sym d; assigns = sym a; jumps = sym j }

  -- ---- every statement

  abbrev Says : ActLayer → Type 0
  Says x = KeepsAct (placed_act with_calls (spoken_inside x)) (barred.act_parts known (barred_inside x)) (act_parts known (act_inside x))

  act_says : (y : Act-F Name (Unit {0}) KeptAct KeptStmt) → Says (inner_act y)
  act_says (Act-F.Block m ks) = record {
    made = λ b f w none p g.
        let l = block_made ks b f w none p.next in
        act_made (Act-F.Block m _) _ _ _ (act.rolls-Block m _) (record { fine = l.fine; nested = l.nested; declares = refl; assigns = refl; jumps = l.jumps }) g;
    quiet = λ a none p. absurd (cc);
  }
  act_says Act-F.Empty = record {
    made = λ b f w none p g. act_made Act-F.Empty _ p _ act.rolls-Empty (record { fine = refl; nested = refl; declares = refl; assigns = refl; jumps = refl }) g;
    quiet = λ a none p. absurd (cc);
  }
  act_says (Act-F.Local d) = record {
    made = λ b f w none p g.
        let fs = parts_of (placed_bounds with_calls d.bounds) (placed_start with_calls d.init) f in
        let es = empty_parts (in_bounds known d.bounds) (in_init known d.init b) none in
        let m = init_made d.init b fs.1 es.1 p g in
        subst (λ (r : NamedDecl × Pending). MadeAct (placed_act with_calls (spoken_inside (Act-F.Local d))) (act.Local r.0, r.1)) (sym (local_stays known d p es.0))
        (act_made (Act-F.Local (local_kept known d p).0) _ _ _ (act.rolls-Local _)
        (record { fine = both _ _ (bounds_callless d.bounds fs.0 es.0) m.is; nested = refl; declares = refl; assigns = refl; jumps = refl }) m.pending);
    quiet = λ a none p. absurd (cc);
  }
  act_says (Act-F.Assign x e) = record {
    made = λ b f w none p g.
        let fs = parts_of (expr_form x).inner (expr_form e).right f in
        let es = empty_parts (in_expr known x true) (in_right known x e b) none in
        let m = plain_made known x true fs.0 es.0 p g in
        let n = right_made known x e b fs.1 es.1 es.0 p (expr_plain known x p).1 m.pending in
        act_made (Act-F.Assign (expr_plain known x p).0 (right_plain known (expr_plain known x p).0 e (expr_plain known x p).1).0) _ _ _ (act.rolls-Assign _ _)
        (record { fine = both _ _ m.is n.is; nested = refl; declares = refl; assigns = refl; jumps = refl }) n.pending;
    quiet = λ a none p.
        let es = empty_parts (in_expr known x true) (in_right known x e true) none in
        let same = plain_stays known x p es.0 in
        ap (λ (r : NamedExpr × Pending). (right_plain known r.0 e r.1).1.stmts) same ∙ ap (λ (r : NamedExpr × Pending). r.1.stmts) (right_stays known x e p es.1);
  }
  act_says (Act-F.Call e) = record {
    made = λ b f w none p g.
        let m = call_statement known e b f none p g in
        act_made (Act-F.Call (whole_plain known e p).0) _ _ _ (act.rolls-Call _) (record { fine = m.is; nested = refl; declares = refl; assigns = refl; jumps = refl }) m.pending;
    quiet = λ a none p. absurd (cc);
  }
  act_says (Act-F.If e k None) = record {
    made = λ b f w none p g.
        let fs = parts_of (expr_form e).inner (spoken k).fine (parts_of ((expr_form e).inner && (spoken k).fine) true f).0 in
        let ws = (parts_of (is_branch (spoken k)) true w).0 in
        let es = empty_parts (in_expr known e b) (in_stmt known k.0 b ++ []) none in
        let gs = empty_parts (in_stmt known k.0 b) [] es.1 in
        let m = plain_made known e b fs.0 es.0 p g in
        let q = (expr_plain known e p).1 in
        act_made (Act-F.If (expr_plain known e p).0 (alone_of k q.next) None) _ _ _ (act.rolls-If _ _ None)
        (if_like (expr_plain known e p).0 (alone_of k q.next) (spoken k) m.is (some_alone k b fs.1 (branch_nested (spoken k) ws) gs.0 q.next) ws _) m.pending;
    quiet = λ a none p. absurd (cc);
  }
  act_says (Act-F.If e k (Some j)) = record {
    made = λ b f w none p g.
        let fs = parts_of ((expr_form e).inner && (spoken k).fine) (spoken j).fine f in
        let hs = parts_of (expr_form e).inner (spoken k).fine fs.0 in
        let ws = parts_of (is_branch (spoken k)) (is_branch (spoken j)) w in
        let es = empty_parts (in_expr known e b) (in_stmt known k.0 b ++ in_stmt known j.0 b) none in
        let gs = empty_parts (in_stmt known k.0 b) (in_stmt known j.0 b) es.1 in
        let m = plain_made known e b hs.0 es.0 p g in
        let q = (expr_plain known e p).1 in
        let n = (alone (stmt_plain known k.0) q.next).1 in
        act_made (Act-F.If (expr_plain known e p).0 (alone_of k q.next) (Some (alone_of j n))) _ _ _ (act.rolls-If _ _ (Some (alone_of j n)))
        (if_both (expr_plain known e p).0 (alone_of k q.next) (alone_of j n) (spoken k) (spoken j) m.is (some_alone k b hs.1 (branch_nested (spoken k) ws.0) gs.0 q.next) ws.0
        (some_alone j b fs.1 (branch_nested (spoken j) ws.1) gs.1 n) ws.1 _) m.pending;
    quiet = λ a none p. absurd (cc);
  }
  act_says (Act-F.While e k) = record {
    made = λ b f w none p g.
        let fs = parts_of (expr_form e).inner (spoken k).fine f in
        let es = empty_parts (in_expr known e b) (in_stmt known k.0 b) none in
        let m = plain_made known e b fs.0 es.0 (none_pending p.next) refl in
        let c = (expr_plain known e (none_pending p.next)).0 in
        let q = (expr_plain known e (none_pending p.next)).1 in
        let t = body_made q.stmts c (alone_of k q.next) m.pending m.is (body_ok k b fs.1 w es.1 q.next) in
        act_made (Act-F.While (loop_condition q.stmts c) (loop_body q.stmts c (alone_of k q.next))) _ _ _ (act.rolls-While _ _)
        (record { fine = both _ _ (condition_callless q.stmts c m.is) t.fine; nested = t.branch; declares = refl; assigns = refl; jumps = refl }) g;
    quiet = λ a none p. absurd (cc);
  }
  act_says (Act-F.For None e None k) = record {
    made = λ b f w none p g.
        let gs = parts_of (placed_value with_calls e) (spoken k).fine f in
        let ds = empty_parts (in_maybe known e b) (in_stmt known k.0 b ++ []) none in
        let cs = empty_parts (in_stmt known k.0 b) ([]) ds.1 in
        let q = p in
        let v = value_made e b gs.0 ds.0 (none_pending q.next) refl in
        let c = (maybe_plain known e (none_pending q.next)).0 in
        let r = (maybe_plain known e (none_pending q.next)).1 in
        let t = for_body_made r.stmts c (alone_of k r.next) v.pending v.is (body_ok k b gs.1 w cs.0 r.next) in
        act_made (Act-F.For None (for_condition r.stmts c) None (for_body r.stmts c (alone_of k r.next))) _ _ _ (act.rolls-For None _ None _)
        (for_like _ None None (for_condition r.stmts c) (for_body r.stmts c (alone_of k r.next)) refl refl refl tt tt (for_condition_callless r.stmts c v.is) t) g;
    quiet = λ a none p. absurd (cc);
  }
  act_says (Act-F.For None e (Some j) k) = record {
    made = λ b f w none p g.
        let gs = parts_of (placed_value with_calls e) (steps (Some (spoken j)) && (spoken k).fine) f in
        let hs = parts_of (steps (Some (spoken j))) (spoken k).fine gs.1 in
        let vs = parts_of (is_branch (spoken j)) (is_branch (spoken k)) w in
        let ds = empty_parts (in_maybe known e b) (in_stmt known k.0 b ++ in_stmt known j.0 b) none in
        let cs = empty_parts (in_stmt known k.0 b) (in_stmt known j.0 b) ds.1 in
        let q = p in
        let v = value_made e b gs.0 ds.0 (none_pending q.next) refl in
        let c = (maybe_plain known e (none_pending q.next)).0 in
        let r = (maybe_plain known e (none_pending q.next)).1 in
        let t = for_body_made r.stmts c (alone_of k r.next) v.pending v.is (body_ok k b hs.1 vs.1 cs.0 r.next) in
        let n = (alone (stmt_plain known k.0) r.next).1 in
        act_made (Act-F.For None (for_condition r.stmts c) (Some (alone_of j n)) (for_body r.stmts c (alone_of k r.next))) _ _ _ (act.rolls-For None _ (Some (alone_of j n)) _)
        (for_like _ None (Some (alone_of j n)) (for_condition r.stmts c) (for_body r.stmts c (alone_of k r.next)) refl refl refl tt (step_ok j b hs.0 vs.0 cs.1 n) (for_condition_callless r.stmts c v.is) t) g;
    quiet = λ a none p. absurd (cc);
  }
  act_says (Act-F.For (Some l) e None k) = record {
    made = λ b f w none p g.
        let fs = parts_of (begins (Some (spoken l))) (placed_value with_calls e && (spoken k).fine) f in
        let gs = parts_of (placed_value with_calls e) (spoken k).fine fs.1 in
        let ws = parts_of (spoken l).nested (is_branch (spoken k)) w in
        let es = empty_parts (in_stmt known l.0 b) (in_maybe known e b ++ (in_stmt known k.0 b ++ [])) none in
        let ds = empty_parts (in_maybe known e b) (in_stmt known k.0 b ++ []) es.1 in
        let cs = empty_parts (in_stmt known k.0 b) ([]) ds.1 in
        let o = first_ok l b fs.0 ws.0 es.0 p g in
        let q = (stmt_plain known l.0 p).1 in
        let v = value_made e b gs.0 ds.0 (none_pending q.next) refl in
        let c = (maybe_plain known e (none_pending q.next)).0 in
        let r = (maybe_plain known e (none_pending q.next)).1 in
        let t = for_body_made r.stmts c (alone_of k r.next) v.pending v.is (body_ok k b gs.1 ws.1 cs.0 r.next) in
        act_made (Act-F.For (Some (stmt_plain known l.0 p).0) (for_condition r.stmts c) None (for_body r.stmts c (alone_of k r.next))) _ _ _ (act.rolls-For (Some (stmt_plain known l.0 p).0) _ None _)
        (for_like _ (Some (stmt_plain known l.0 p).0) None (for_condition r.stmts c) (for_body r.stmts c (alone_of k r.next)) refl refl refl o.0 tt (for_condition_callless r.stmts c v.is) t) o.1;
    quiet = λ a none p. absurd (cc);
  }
  act_says (Act-F.For (Some l) e (Some j) k) = record {
    made = λ b f w none p g.
        let fs = parts_of (begins (Some (spoken l))) (placed_value with_calls e && (steps (Some (spoken j)) && (spoken k).fine)) f in
        let gs = parts_of (placed_value with_calls e) (steps (Some (spoken j)) && (spoken k).fine) fs.1 in
        let hs = parts_of (steps (Some (spoken j))) (spoken k).fine gs.1 in
        let ws = parts_of (spoken l).nested (is_branch (spoken j) && is_branch (spoken k)) w in
        let vs = parts_of (is_branch (spoken j)) (is_branch (spoken k)) ws.1 in
        let es = empty_parts (in_stmt known l.0 b) (in_maybe known e b ++ (in_stmt known k.0 b ++ in_stmt known j.0 b)) none in
        let ds = empty_parts (in_maybe known e b) (in_stmt known k.0 b ++ in_stmt known j.0 b) es.1 in
        let cs = empty_parts (in_stmt known k.0 b) (in_stmt known j.0 b) ds.1 in
        let o = first_ok l b fs.0 ws.0 es.0 p g in
        let q = (stmt_plain known l.0 p).1 in
        let v = value_made e b gs.0 ds.0 (none_pending q.next) refl in
        let c = (maybe_plain known e (none_pending q.next)).0 in
        let r = (maybe_plain known e (none_pending q.next)).1 in
        let t = for_body_made r.stmts c (alone_of k r.next) v.pending v.is (body_ok k b hs.1 vs.1 cs.0 r.next) in
        let n = (alone (stmt_plain known k.0) r.next).1 in
        act_made (Act-F.For (Some (stmt_plain known l.0 p).0) (for_condition r.stmts c) (Some (alone_of j n)) (for_body r.stmts c (alone_of k r.next))) _ _ _ (act.rolls-For (Some (stmt_plain known l.0 p).0) _ (Some (alone_of j n)) _)
        (for_like _ (Some (stmt_plain known l.0 p).0) (Some (alone_of j n)) (for_condition r.stmts c) (for_body r.stmts c (alone_of k r.next)) refl refl refl o.0 (step_ok j b hs.0 vs.0 cs.1 n) (for_condition_callless r.stmts c v.is) t) o.1;
    quiet = λ a none p. absurd (cc);
  }
  act_says (Act-F.Return e) = record {
    made = λ b f w none p g.
        let m = value_made e b f none p g in
        act_made (Act-F.Return (maybe_plain known e p).0) _ _ _ (act.rolls-Return _) (record { fine = m.is; nested = refl; declares = refl; assigns = refl; jumps = refl }) m.pending;
    quiet = λ a none p. absurd (cc);
  }
  act_says Act-F.Break = record {
    made = λ b f w none p g. act_made Act-F.Break _ p _ act.rolls-Break (record { fine = refl; nested = refl; declares = refl; assigns = refl; jumps = refl }) g;
    quiet = λ a none p. absurd (cc);
  }
  act_says Act-F.Continue = record {
    made = λ b f w none p g. act_made Act-F.Continue _ p _ act.rolls-Continue (record { fine = refl; nested = refl; declares = refl; assigns = refl; jumps = refl }) g;
    quiet = λ a none p. absurd (cc);
  }
  act_says (Act-F.Check e) = record {
    made = λ b f w none p g.
        let m = plain_made known e b f none p g in
        act_made (Act-F.Check (expr_plain known e p).0) _ _ _ (act.rolls-Check _) (record { fine = m.is; nested = refl; declares = refl; assigns = refl; jumps = refl }) m.pending;
    quiet = λ a none p. absurd (cc);
  }
  act_says (Act-F.Bundle ks) = record {
    made = λ b f w none p g.
        let fs = parts_of (nat_le 2 (length (map (placed_stmt with_calls) (firsts ks)))) (list_all (λ (x : Given). x.fine && x.assigns) (map (placed_stmt with_calls) (firsts ks))) f in
        let m = bundle_made ks fs.1 w none p.next in
        act_made (Act-F.Bundle _) _ _ _ (act.rolls-Bundle _)
        (record { fine = both _ _ (ap (nat_le 2) m.many ∙ fs.0) m.assign; nested = m.branch; declares = refl; assigns = refl; jumps = m.jumps }) g;
    quiet = λ a none p. absurd (cc);
  }

  act_by : (x : ActLayer) (y : Act-F Name (Unit {0}) KeptAct KeptStmt) → inner_act y ≡ x → ActHolds (roll-Act Name (Unit {0}) x)
  act_by x y is =
      subst (λ g. KeepsAct g (in_act known (roll-Act Name (Unit {0}) x)) (act_plain known (roll-Act Name (Unit {0}) x))) (sym (fold-roll-Act Name (Unit {0}) Given Given (placed_act with_calls) given_in x))
      (subst (λ (d : Bool → List Pos). KeepsAct (placed_act with_calls (spoken_inside x)) d (act_plain known (roll-Act Name (Unit {0}) x)))
      (sym (fold-roll-Act Name (Unit {0}) barred.OfStmt barred.OfStmt (barred.act_parts known) barred.stmt_parts x))
      (subst (λ (k : OfAct). KeepsAct (placed_act with_calls (spoken_inside x)) (barred.act_parts known (barred_inside x)) k) (sym (fold-roll-Act Name (Unit {0}) OfAct OfStmt (act_parts known) stmt_parts x))
      (subst Says is (act_says y))))

  stated : (g : Given) (d : Bool → List Pos) (k : OfAct) (pos : Pos) → KeepsAct g d k → Keeps g d (λ p. (stmt_at (k p).0 pos, (k p).1))
  stated g d k pos h = record {
    made = λ b f w none p good.
        let m = h.made b f w none p good in
        record {
          like = subst (Like g) (sym (fold-roll-Stmt Name (Unit {0}) Given Given given_act given_in (record { body = (k p).0; pos = pos; note = tt }))) m.like;
          pending = m.pending;
        };
    quiet = h.quiet;
  }

  stmt_by : (x : Stmt-F Name (Unit {0}) NamedAct NamedStmt) (y : Stmt-F Name (Unit {0}) KeptAct KeptStmt) → inner_stmt y ≡ x → StmtHolds (roll-Stmt Name (Unit {0}) x)
  stmt_by x y is =
      subst (λ z. StmtHolds (roll-Stmt Name (Unit {0}) z)) is
      (let z = inner_stmt y in
      subst (λ g. Keeps g (in_stmt known (roll-Stmt Name (Unit {0}) z)) (stmt_plain known (roll-Stmt Name (Unit {0}) z))) (sym (fold-roll-Stmt Name (Unit {0}) Given Given (placed_act with_calls) given_in z))
      (subst (λ (d : Bool → List Pos). Keeps (spoken_of y.body.0) d (stmt_plain known (roll-Stmt Name (Unit {0}) z))) (sym (fold-roll-Stmt Name (Unit {0}) barred.OfStmt barred.OfStmt (barred.act_parts known) barred.stmt_parts z))
      (subst (λ (k : OfStmt). Keeps (spoken_of y.body.0) (in_act known y.body.0) k) (sym (fold-roll-Stmt Name (Unit {0}) OfAct OfStmt (act_parts known) stmt_parts z))
      (stated (spoken_of y.body.0) (in_act known y.body.0) (act_plain known y.body.0) y.pos y.body.1))))

  stmt_holds : (s : NamedStmt) → StmtHolds s
  stmt_holds = ind-Stmt Name (Unit {0}) ActHolds StmtHolds act_by stmt_by

  pub body_given : (s : NamedStmt) (n : ℕ) → (placed_stmt with_calls s).fine ≡ true → (placed_stmt with_calls s).nested ≡ true → in_stmt known s false ≡ []
      → ((given_stmt (alone (stmt_plain known s) n).0).fine ≡ true) × ((given_stmt (alone (stmt_plain known s) n).0).nested ≡ true)
  body_given s n f w none = let a = some_alone (s, stmt_holds s) false f w none n in (a.fine, a.nested)
