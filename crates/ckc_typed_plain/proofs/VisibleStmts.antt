-- Each name in a statement without effects passes a test where it stands, if each name in the statement with effects does.
use Rattle.std.proofs.Common.{◌≡◌, ◌∙◌, sym, ap, refl, subst, Bool, true, false, ◌&&◌, ℕ, List, [], ◌∷◌, ◌++◌, map, append-nil, rules}
use Rattle.std.specs.Prelude.{Option, Some, None, not}
use Rattle.ckc_base.specs.declared.places.Pos.{Pos}
use Rattle.ckc_syntax.specs.Inside.{listed, all_have, inside_each}
use Rattle.ckc_syntax.specs.declared.tree.Name.{Name}
use Rattle.ckc_syntax.specs.declared.tree.Init.TheVariants as init
use Rattle.ckc_syntax.specs.declared.tree.Act.{Act-F, map-Act, roll-Act, out-Act, fold-Act, fold-roll-Act, the_lemmas}
use Rattle.ckc_syntax.specs.declared.tree.Act.TheVariants as act
use Rattle.ckc_syntax.specs.declared.tree.Stmt.{Stmt-F, map-Stmt, ind-Stmt, roll-Stmt, fold-roll-Stmt}
use Rattle.ckc_syntax.specs.Trees.{NamedDecl, NamedInit, NamedExpr, NamedStmt, NamedAct}
use Rattle.ckc_plain.specs.ckc_plain_barred.specs.declared.integers.Integers.{Integers}
use Rattle.ckc_plain.specs.ckc_plain_bodies.specs.declared.pending.Pending.{Pending}
use Rattle.ckc_plain.specs.ckc_plain_barred.specs.Effects.{in_expr, in_bounds, in_maybe}
use Rattle.ckc_plain.specs.ckc_plain_barred.specs.Barred as barred
use Rattle.ckc_plain.specs.ckc_plain_barred.specs.Barred.{in_init, in_act, in_stmt}
use Rattle.ckc_plain.specs.ckc_plain_bodies.specs.Taken.{stmt_at, block_at, none_pending}
use Rattle.ckc_plain.specs.ckc_plain_bodies.specs.Expressions.{expr_plain, exprs_plain, whole_plain, right_plain, maybe_plain}
use Rattle.ckc_plain.specs.ckc_plain_bodies.specs.Statements.{joined, placed_by, placed, OfAct, OfStmt, alone, in_block, loop_condition, loop_body, for_condition, for_body, init_plain, act_parts, stmt_parts, act_plain, stmt_plain}
use Rattle.ckc_typed_welltyped.specs.Productions.{Given, is_branch, placed_act, given_in, placed_stmt, with_calls}
use Rattle.ckc_typed_fit.specs.Tests.{Tests, type_passes, bounds_pass, init_passes, expr_passes, value_passes, Walked, left_by, pass_in_turn, act_walked, stmt_walked, walked_act}
use Rattle.ckc_typed_plain.proofs.GivenLevels.{both, parts_of, empty_parts, is_not}
use Rattle.ckc_typed_plain.proofs.Untouched.{local_kept, local_stays}
use Rattle.ckc_typed_plain.proofs.VisibleExprs.{ActLayer, Sub, sub_front, sub_both, left_append, map_append, AreTame, bounds_more, W, At, Pass, at_append, pass_more, one_pass, PE, walked_inside, walked_at, stmt_pass, number_pass, Goes, plain_goes, whole_goes, right_goes}

act_out : (x : ActLayer) → out-Act Name (Unit {0}) (roll-Act Name (Unit {0}) x) ≡ x
act_out x = search (rules, the_lemmas)

same : (us : List Name) → Sub us us
same us n h = h

through : (us vs ws : List Name) → Sub us vs → Sub vs ws → Sub us ws
through us vs ws f g n h = g n (f n h)

module _ (T : Tests) (tame : AreTame T) where
  abbrev V : NamedStmt → Walked
  V = W T tame

  abbrev A : List Name → List NamedStmt → List Name
  A = At T tame

  abbrev P : List Name → List NamedStmt → Type 0
  P = Pass T tame

  at_none : (us : List Name) → Sub us (A us [])
  at_none us = subst (Sub us) (sym (append-nil us)) (same us)

  from_none : (us : List Name) → Sub (A us []) us
  from_none us = subst (λ l. Sub l us) (sym (append-nil us)) (same us)

  -- ---- what goes before a statement

  block_passes : (us : List Name) (ss : List NamedStmt) (pos : _) → P us ss → (V (block_at ss pos)).passes us ≡ true
  block_passes us ss pos h = stmt_pass T tame us (Act-F.Block None ss) _ pos (act.rolls-Block None ss) h

  block_leaves : (ss : List NamedStmt) (pos : _) → (V (block_at ss pos)).leaves ≡ []
  block_leaves ss pos = ap (λ (w : Walked). w.leaves) (walked_at T tame (Act-F.Block None ss) _ pos (act.rolls-Block None ss))

  joined_passes : (us : List Name) (ss : List NamedStmt) (t : NamedStmt) → P us ss → (V t).passes (A us ss) ≡ true → (V (joined ss t)).passes us ≡ true
  joined_passes us [] t h g = subst (λ l. (V t).passes l ≡ true) (append-nil us) g
  joined_passes us (b ∷ bs) t h g = block_passes us ((b ∷ bs) ++ t ∷ []) b.pos (one_pass T tame us (b ∷ bs) t h g)

  joined_leaves : (ss : List NamedStmt) (t : NamedStmt) → (V t).leaves ≡ [] → (V (joined ss t)).leaves ≡ []
  joined_leaves [] t h = h
  joined_leaves (b ∷ bs) t h = block_leaves ((b ∷ bs) ++ t ∷ []) b.pos

  -- ---- what is said of a statement

  record GoesStmt (ws : List Name) (p : Pending) (w : Walked) (g : Given) (r : NamedStmt × Pending) : Type 0 where
    is : (us : List Name) → Sub (A ws r.1.stmts) us → (V r.0).passes us ≡ true
    leaves : (V r.0).leaves ≡ w.leaves
    local : g.declares ≡ true → (d : NamedDecl) × (out-Act Name (Unit {0}) r.0.body ≡ Act-F.Local d)
    pending : P ws r.1.stmts
    more : Sub (A ws p.stmts) (A ws r.1.stmts)

  record Keeps (w : Walked) (g : Given) (k : OfStmt) : Type 0 where
    goes : (vs ws : List Name) (p : Pending) → w.passes vs ≡ true → g.nested ≡ true → Sub vs (A ws p.stmts) → P ws p.stmts → GoesStmt ws p w g (k p)
    none : g.nested ≡ true → g.declares ≡ false → w.leaves ≡ []

  record GoesAct (ws : List Name) (p : Pending) (w : Walked) (g : Given) (r : NamedAct × Pending) : Type 0 where
    is : (us : List Name) → Sub (A ws r.1.stmts) us → (walked_act T r.0).passes us ≡ true
    leaves : (walked_act T r.0).leaves ≡ w.leaves
    local : g.declares ≡ true → (d : NamedDecl) × (out-Act Name (Unit {0}) r.0 ≡ Act-F.Local d)
    pending : P ws r.1.stmts
    more : Sub (A ws p.stmts) (A ws r.1.stmts)

  record KeepsAct (w : Walked) (g : Given) (k : OfAct) : Type 0 where
    goes : (vs ws : List Name) (p : Pending) → w.passes vs ≡ true → g.nested ≡ true → Sub vs (A ws p.stmts) → P ws p.stmts → GoesAct ws p w g (k p)
    none : g.nested ≡ true → g.declares ≡ false → w.leaves ≡ []

  -- ---- a statement by itself

  alone_passes : (w : Walked) (g : Given) (k : OfStmt) → Keeps w g k → (vs us : List Name) → w.passes vs ≡ true → g.nested ≡ true → Sub vs us → (n : ℕ) → (V (alone k n).0).passes us ≡ true
  alone_passes w g k h vs us pass nest sub n =
      let m = h.goes vs us (none_pending n) pass nest (through vs us (A us []) sub (at_none us)) refl in
      let r = k (none_pending n) in
      joined_passes us r.1.stmts r.0 m.pending (m.is (A us r.1.stmts) (same (A us r.1.stmts)))

  alone_leaves : (w : Walked) (g : Given) (k : OfStmt) → Keeps w g k → (vs : List Name) → w.passes vs ≡ true → is_branch g ≡ true → (n : ℕ) → (V (alone k n).0).leaves ≡ []
  alone_leaves w g k h vs pass branch n =
      let b = parts_of g.nested (not g.declares) branch in
      let m = h.goes vs vs (none_pending n) pass b.0 (at_none vs) refl in
      let r = k (none_pending n) in
      joined_leaves r.1.stmts r.0 (m.leaves ∙ h.none b.0 (is_not g.declares b.1))

  -- ---- statements in a block

  record Placed (vs us : List Name) (w : Walked) (ts : List NamedStmt) : Type 0 where
    passes : P us ts
    seen : Sub (vs ++ w.leaves) (A us ts)

  one_at : (us : List Name) (t : NamedStmt) → Sub (us ++ (V t).leaves) (A us (t ∷ []))
  one_at us t = subst (λ l. Sub (us ++ (V t).leaves) (us ++ l)) (sym (append-nil (V t).leaves)) (same (us ++ (V t).leaves))

  -- spliced into the block
  spliced : (vs us : List Name) (p : Pending) (w : Walked) (g : Given) (r : NamedStmt × Pending) → Sub vs us → GoesStmt us p w g r → Placed vs us w (r.1.stmts ++ r.0 ∷ [])
  spliced vs us p w g r sub m =
      let ss = r.1.stmts in
      let here : Sub (A us ss ++ (V r.0).leaves) (A us (ss ++ r.0 ∷ [])) =
      subst (Sub (A us ss ++ (V r.0).leaves)) (sym (at_more us ss r.0)) (subst (λ l. Sub (A us ss ++ (V r.0).leaves) (A us ss ++ l)) (sym (append-nil (V r.0).leaves)) (same (A us ss ++ (V r.0).leaves))) in
      record {
        passes = one_pass T tame us ss r.0 m.pending (m.is (A us ss) (same (A us ss)));
        seen = through (vs ++ w.leaves) (A us ss ++ (V r.0).leaves) (A us (ss ++ r.0 ∷ []))
            (subst (λ l. Sub (vs ++ w.leaves) (A us ss ++ l)) (sym m.leaves) (sub_both vs (A us ss) w.leaves w.leaves (through vs us (A us ss) sub (sub_front us (left_by (map V ss)))) (same w.leaves))) here;
      }
    where
      at_more : (us : List Name) (ss : List NamedStmt) (t : NamedStmt) → A us (ss ++ t ∷ []) ≡ A us ss ++ ((V t).leaves ++ [])
      at_more us ss t = at_append T tame us ss (t ∷ [])

  -- a statement that declares nothing
  quietly : (vs us : List Name) (p : Pending) (w : Walked) (g : Given) (r : NamedStmt × Pending) → Sub vs us → GoesStmt us p w g r → w.leaves ≡ [] → Placed vs us w (joined r.1.stmts r.0 ∷ [])
  quietly vs us p w g r sub m none =
      let t = joined r.1.stmts r.0 in
      record {
        passes = both _ _ (joined_passes us r.1.stmts r.0 m.pending (m.is (A us r.1.stmts) (same (A us r.1.stmts)))) refl;
        seen = subst (λ l. Sub (vs ++ l) (A us (t ∷ []))) (sym none) (subst (λ l. Sub l (A us (t ∷ []))) (sym (append-nil vs)) (through vs us (A us (t ∷ [])) sub (sub_front us (left_by (map V (t ∷ []))))));
      }

  placed_goes : (vs us : List Name) (p : Pending) (w : Walked) (g : Given) (r : NamedStmt × Pending) → Sub vs us → GoesStmt us p w g r → (g.declares ≡ false → w.leaves ≡ []) → Placed vs us w (placed r.1.stmts r.0)
  placed_goes vs us p w g r sub m none = at g.declares refl
    where
      by : (x : ActLayer) → w.leaves ≡ [] → Placed vs us w (placed_by x r.1.stmts r.0)
      by (Act-F.Local d) e = spliced vs us p w g r sub m
      by _ e = quietly vs us p w g r sub m e

      at : (b : Bool) → g.declares ≡ b → Placed vs us w (placed r.1.stmts r.0)
      at true is = let l = m.local is in subst (λ x. Placed vs us w (placed_by x r.1.stmts r.0)) (sym l.1) (spliced vs us p w g r sub m)
      at false is = by (out-Act Name (Unit {0}) r.0.body) (none is)

  module _ (known : Integers) where
    abbrev given_of : NamedAct → Given
    given_of = fold-Act Name (Unit {0}) Given Given (placed_act with_calls) given_in

    abbrev ActHolds : NamedAct → Type 0
    ActHolds a = KeepsAct (walked_act T a) (given_of a) (act_plain known a)

    abbrev StmtHolds : NamedStmt → Type 0
    StmtHolds s = Keeps (V s) (placed_stmt with_calls s) (stmt_plain known s)

    abbrev KeptAct : Type 0
    KeptAct = (a : NamedAct) × ActHolds a

    abbrev KeptStmt : Type 0
    KeptStmt = (s : NamedStmt) × StmtHolds s

    abbrev inner_act : Act-F Name (Unit {0}) KeptAct KeptStmt → ActLayer
    inner_act = map-Act Name (Unit {0}) KeptAct KeptStmt NamedAct NamedStmt (λ e. e.0) (λ e. e.0)

    abbrev act_inside : ActLayer → Act-F Name (Unit {0}) OfAct OfStmt
    act_inside = map-Act Name (Unit {0}) NamedAct NamedStmt OfAct OfStmt (act_plain known) (stmt_plain known)

    abbrev given_inside : ActLayer → Act-F Name (Unit {0}) Given Given
    given_inside = map-Act Name (Unit {0}) NamedAct NamedStmt Given Given given_of (placed_stmt with_calls)

    abbrev firsts : List KeptStmt → List NamedStmt
    firsts ks = map (λ (k : KeptStmt). k.0) ks

    abbrev given : KeptStmt → Given
    given k = placed_stmt with_calls k.0

    block_goes : (ks : List KeptStmt) (vs us : List Name) → pass_in_turn (map V (firsts ks)) vs ≡ true → inside_each all_have (λ (g : Given). g.nested) (map (placed_stmt with_calls) (firsts ks)) ≡ true → Sub vs us → (n : ℕ)
        → P us (in_block (map (stmt_plain known) (firsts ks)) n).0
    block_goes [] vs us h w s n = refl
    block_goes (k ∷ ks) vs us h w s n =
        let hs = parts_of ((V k.0).passes vs) (pass_in_turn (map V (firsts ks)) (vs ++ (V k.0).leaves)) h in
        let ws = parts_of (given k).nested (inside_each all_have (λ (g : Given). g.nested) (map (placed_stmt with_calls) (firsts ks))) w in
        let r = stmt_plain known k.0 (none_pending n) in
        let m = k.1.goes vs us (none_pending n) hs.0 ws.0 (through vs us (A us []) s (at_none us)) refl in
        let p = placed_goes vs us (none_pending n) (V k.0) (given k) r s m (k.1.none ws.0) in
        pass_more T tame us (placed r.1.stmts r.0) (in_block (map (stmt_plain known) (firsts ks)) r.1.next).0 p.passes
        (block_goes ks (vs ++ (V k.0).leaves) (A us (placed r.1.stmts r.0)) hs.1 ws.1 p.seen r.1.next)

    -- what a bundle leaves visible
    bundle_leaves : (ks : List KeptStmt) → inside_each all_have is_branch (map (placed_stmt with_calls) (firsts ks)) ≡ true → left_by (map V (firsts ks)) ≡ []
    bundle_leaves [] w = refl
    bundle_leaves (k ∷ ks) w =
        let ws = parts_of (is_branch (given k)) (inside_each all_have is_branch (map (placed_stmt with_calls) (firsts ks))) w in
        let b = parts_of (given k).nested (not (given k).declares) ws.0 in
        ap (λ l. l ++ left_by (map V (firsts ks))) (k.1.none b.0 (is_not (given k).declares b.1)) ∙ bundle_leaves ks ws.1

    branch_each : (ks : List KeptStmt) → inside_each all_have is_branch (map (placed_stmt with_calls) (firsts ks)) ≡ true → inside_each all_have (λ (g : Given). g.nested) (map (placed_stmt with_calls) (firsts ks)) ≡ true
    branch_each [] w = refl
    branch_each (k ∷ ks) w =
        let ws = parts_of (is_branch (given k)) (inside_each all_have is_branch (map (placed_stmt with_calls) (firsts ks))) w in
        both _ _ (parts_of (given k).nested (not (given k).declares) ws.0).0 (branch_each ks ws.1)

    -- ---- loops

    leaf_passes : (us : List Name) (x : ActLayer) (a : NamedAct) (pos : _) → roll-Act Name (Unit {0}) x ≡ a → (act_walked T (walked_inside T tame x)).passes us ≡ true → (V (stmt_at a pos)).passes us ≡ true
    leaf_passes us x a pos is h = stmt_pass T tame us x a pos is h

    -- the body of a loop before whose condition statements run
    loop_passes : (us : List Name) (ss : List NamedStmt) (c : NamedExpr) (t : NamedStmt) → P us ss → PE T tame (A us ss) c → ((vs : List Name) → Sub us vs → (V t).passes vs ≡ true) → (V (loop_body ss c t)).passes us ≡ true
    loop_passes us [] c t h g f = f us (same us)
    loop_passes us (b ∷ bs) c t h g f =
        let leave : NamedStmt = stmt_at act.Break b.pos in
        let leaves : V leave ≡ act_walked T (walked_inside T tame Act-F.Break) = walked_at T tame Act-F.Break _ b.pos act.rolls-Break in
        let here = A us (b ∷ bs) in
        block_passes us ((b ∷ bs) ++ stmt_at (act.If c t (Some leave)) b.pos ∷ []) b.pos
        (one_pass T tame us (b ∷ bs) _ h
        (leaf_passes here (Act-F.If c t (Some leave)) _ b.pos (act.rolls-If c t (Some leave))
        (both _ _ g (both _ _ (f here (sub_front us (left_by (map V (b ∷ bs))))) (ap (λ (w : Walked). w.passes (here ++ (V t).leaves)) leaves)))))

    loop_leaves : (ss : List NamedStmt) (c : NamedExpr) (t : NamedStmt) → (V t).leaves ≡ [] → (V (loop_body ss c t)).leaves ≡ []
    loop_leaves [] c t h = h
    loop_leaves (b ∷ bs) c t h = block_leaves ((b ∷ bs) ++ stmt_at (act.If c t (Some (stmt_at act.Break b.pos))) b.pos ∷ []) b.pos

    condition_passes : (us : List Name) (ss : List NamedStmt) (c : NamedExpr) → PE T tame (A us ss) c → PE T tame us (loop_condition ss c)
    condition_passes us [] c h = subst (λ l. PE T tame l c) (append-nil us) h
    condition_passes us (b ∷ bs) c h = number_pass T tame us 1 b.pos

    abbrev alone_of : KeptStmt → ℕ → NamedStmt
    alone_of k n = (alone (stmt_plain known k.0) n).0

    passes_alone : (k : KeptStmt) (vs us : List Name) → (V k.0).passes vs ≡ true → (given k).nested ≡ true → Sub vs us → (n : ℕ) → (V (alone_of k n)).passes us ≡ true
    passes_alone k vs us h w s n = alone_passes (V k.0) (given k) (stmt_plain known k.0) k.1 vs us h w s n

    leaves_alone : (k : KeptStmt) (vs : List Name) → (V k.0).passes vs ≡ true → is_branch (given k) ≡ true → (n : ℕ) → (V (alone_of k n)).leaves ≡ []
    leaves_alone k vs h w n = alone_leaves (V k.0) (given k) (stmt_plain known k.0) k.1 vs h w n

    branch_nested : (g : Given) → is_branch g ≡ true → g.nested ≡ true
    branch_nested g h = (parts_of g.nested (not g.declares) h).0

    source_leaves : (k : KeptStmt) → is_branch (given k) ≡ true → (V k.0).leaves ≡ []
    source_leaves k w = let b = parts_of (given k).nested (not (given k).declares) w in k.1.none b.0 (is_not (given k).declares b.1)

    -- ---- expressions of statements

    abbrev PV : List Name → Option NamedExpr → Type 0
    PV us e = value_passes T us e ≡ true

    value_goes : (e : Option NamedExpr) (vs ws : List Name) (p : Pending) → PV vs e → Sub vs (A ws p.stmts) → P ws p.stmts → Goes T tame PV ws p (maybe_plain known e p)
    value_goes None vs ws p h s g = record { is = λ us f. refl; pending = g; more = λ n k. k }
    value_goes (Some e) vs ws p h s g = let m = plain_goes T tame known e vs ws p h s g in record { is = m.is; pending = m.pending; more = m.more }

    abbrev PI : List Name → NamedInit → Type 0
    PI us i = init_passes T us i ≡ true

    abbrev PMany : List Name → List NamedExpr → Type 0
    PMany us es = inside_each all_have (expr_passes T us) es ≡ true

    many_goes : (es : List NamedExpr) (vs ws : List Name) (p : Pending) → PMany vs es → Sub vs (A ws p.stmts) → P ws p.stmts → Goes T tame PMany ws p (exprs_plain known es p)
    many_goes [] vs ws p h s g = record { is = λ us f. refl; pending = g; more = λ n k. k }
    many_goes (e ∷ es) vs ws p h s g =
        let hs = parts_of (expr_passes T vs e) (inside_each all_have (expr_passes T vs) es) h in
        let m = plain_goes T tame known e vs ws p hs.0 s g in
        let q = (expr_plain known e p).1 in
        let n = many_goes es vs ws q hs.1 (through vs (A ws p.stmts) (A ws q.stmts) s m.more) m.pending in
        record {
          is = λ us f. both _ _ (m.is us (λ x y. f x (n.more x y))) (n.is us f);
          pending = n.pending;
          more = λ x y. n.more x (m.more x y);
        }

    init_goes : (i : NamedInit) (vs ws : List Name) (p : Pending) → PI vs i → Sub vs (A ws p.stmts) → P ws p.stmts → Goes T tame PI ws p (init_plain known i p)
    init_goes init.Nothing vs ws p h s g = record { is = λ us f. refl; pending = g; more = λ n k. k }
    init_goes (init.One e) vs ws p h s g = let m = whole_goes T tame known e vs ws p h s g in record { is = m.is; pending = m.pending; more = m.more }
    init_goes (init.Many es) vs ws p h s g = let m = many_goes es vs ws p h s g in record { is = m.is; pending = m.pending; more = m.more }

    -- ---- every statement

    act_is : (x : ActLayer) (a : NamedAct) → roll-Act Name (Unit {0}) x ≡ a → walked_act T a ≡ act_walked T (walked_inside T tame x)
    act_is x a is = ap (walked_act T) (sym is) ∙ fold-roll-Act Name (Unit {0}) Walked Walked (act_walked T) stmt_walked x

    -- a statement that leaves nothing visible and is no declaration
    made : {n : ℕ} (ws : List Name) (p q : Pending) (w : Walked) (g : Given) (x : ActLayer) (a : NamedAct) → roll-Act Name (Unit {0}) x ≡ a → g.declares ≡ false
        → ((us : List Name) → Sub (A ws q.stmts) us → (act_walked T (walked_inside T tame x)).passes us ≡ true) → (act_walked T (walked_inside T tame x)).leaves ≡ w.leaves → P ws q.stmts → Sub (A ws p.stmts) (A ws q.stmts)
        → GoesAct ws p w g (a, record { stmts = q.stmts; next = n })
    made ws p q w g x a rolls none h l good more = record {
      is = λ us f. ap (λ (v : Walked). v.passes us) (act_is x a rolls) ∙ h us f;
      leaves = ap (λ (v : Walked). v.leaves) (act_is x a rolls) ∙ l;
      local = λ d. let wrong : false ≡ true = sym none ∙ d in absurd (cc);
      pending = good;
      more = more;
    }

    abbrev Says : ActLayer → Type 0
    Says x = KeepsAct (act_walked T (walked_inside T tame x)) (placed_act with_calls (given_inside x)) (act_parts known (act_inside x))

    bounds_pass_more : (l : Option _) (vs us : List Name) → Sub vs us → bounds_pass T vs l ≡ true → bounds_pass T us l ≡ true
    bounds_pass_more None vs us s h = refl
    bounds_pass_more (Some l) vs us s h = bounds_more T tame l vs us s h

    -- ---- bundles

    act_back : (a : NamedAct) → roll-Act Name (Unit {0}) (out-Act Name (Unit {0}) a) ≡ a
    act_back a = search (rules, the_lemmas)

    layer_is : (t : NamedStmt) → V t ≡ act_walked T (walked_inside T tame (out-Act Name (Unit {0}) t.body))
    layer_is t =
        fold-roll-Stmt Name (Unit {0}) Walked Walked (act_walked T) stmt_walked (record { body = t.body; pos = t.pos; note = tt })
        ∙ ap (walked_act T) (sym (act_back t.body)) ∙ fold-roll-Act Name (Unit {0}) Walked Walked (act_walked T) stmt_walked (out-Act Name (Unit {0}) t.body)

    placed_leaves : (ss : List NamedStmt) (t : NamedStmt) → (V t).leaves ≡ [] → left_by (map V (placed ss t)) ≡ []
    placed_leaves ss t none = by (out-Act Name (Unit {0}) t.body) (ap (λ (w : Walked). w.leaves) (sym (layer_is t)) ∙ none)
      where
        by : (x : ActLayer) → (act_walked T (walked_inside T tame x)).leaves ≡ [] → left_by (map V (placed_by x ss t)) ≡ []
        by (Act-F.Local d) e = absurd cc
        by _ e = ap (λ l. l ++ []) (joined_leaves ss t none)

    bundle_made_leaves : (ks : List KeptStmt) (vs us : List Name) → pass_in_turn (map V (firsts ks)) vs ≡ true → inside_each all_have is_branch (map (placed_stmt with_calls) (firsts ks)) ≡ true → Sub vs us → (n : ℕ)
        → left_by (map V (in_block (map (stmt_plain known) (firsts ks)) n).0) ≡ []
    bundle_made_leaves [] vs us h w s n = refl
    bundle_made_leaves (k ∷ ks) vs us h w s n =
        let hs = parts_of ((V k.0).passes vs) (pass_in_turn (map V (firsts ks)) (vs ++ (V k.0).leaves)) h in
        let ws = parts_of (is_branch (given k)) (inside_each all_have is_branch (map (placed_stmt with_calls) (firsts ks))) w in
        let nest = branch_nested (given k) ws.0 in
        let none = source_leaves k ws.0 in
        let r = stmt_plain known k.0 (none_pending n) in
        let m = k.1.goes vs us (none_pending n) hs.0 nest (through vs us (A us []) s (at_none us)) refl in
        let p = placed_goes vs us (none_pending n) (V k.0) (given k) r s m (λ d. none) in
        let rest = (in_block (map (stmt_plain known) (firsts ks)) r.1.next).0 in
        ap left_by (map_append V (placed r.1.stmts r.0) rest) ∙ left_append (map V (placed r.1.stmts r.0)) (map V rest)
        ∙ ap (λ l. l ++ left_by (map V rest)) (placed_leaves r.1.stmts r.0 (m.leaves ∙ none))
        ∙ bundle_made_leaves ks (vs ++ (V k.0).leaves) (A us (placed r.1.stmts r.0)) hs.1 ws.1 p.seen r.1.next

    -- ---- `for`

    -- the condition and the body of a `for`, behind its first part
    record Inner (us : List Name) (e : Option NamedExpr) (k : KeptStmt) (n : ℕ) : Type 0 where
      condition : PV us (for_condition (maybe_plain known e (none_pending n)).1.stmts (maybe_plain known e (none_pending n)).0)
      body : (V (for_body (maybe_plain known e (none_pending n)).1.stmts (maybe_plain known e (none_pending n)).0 (alone_of k (maybe_plain known e (none_pending n)).1.next))).passes us ≡ true
      leaves : (V (for_body (maybe_plain known e (none_pending n)).1.stmts (maybe_plain known e (none_pending n)).0 (alone_of k (maybe_plain known e (none_pending n)).1.next))).leaves ≡ []

    inner_passes : (e : Option NamedExpr) (k : KeptStmt) (vs us : List Name) → PV vs e → (V k.0).passes vs ≡ true → is_branch (given k) ≡ true → Sub vs us → (n : ℕ) → Inner us e k n
    inner_passes None k vs us h b w s n = record { condition = refl; body = passes_alone k vs us b (branch_nested (given k) w) s n; leaves = leaves_alone k vs b w n }
    inner_passes (Some e) k vs us h b w s n =
        let c = (expr_plain known e (none_pending n)).0 in
        let q = (expr_plain known e (none_pending n)).1 in
        let m : Goes T tame (PE T tame) us (none_pending n) (c, q) = plain_goes T tame known e vs us (none_pending n) h (through vs us (A us []) s (at_none us)) refl in
        let here = m.is (A us q.stmts) (same (A us q.stmts)) in
        record {
          condition = condition_passes us q.stmts c here;
          body = loop_passes us q.stmts c (alone_of k q.next) m.pending here (λ xs t. passes_alone k vs xs b (branch_nested (given k) w) (through vs us xs s t) q.next);
          leaves = loop_leaves q.stmts c (alone_of k q.next) (leaves_alone k vs b w q.next);
        }

    bundle_says : (ks : List KeptStmt) (vs ws : List Name) (p : Pending) → pass_in_turn (map V (firsts ks)) vs ≡ true → inside_each all_have is_branch (map (placed_stmt with_calls) (firsts ks)) ≡ true → Sub vs (A ws p.stmts) → P ws p.stmts
        → GoesAct ws p (act_walked T (walked_inside T tame (Act-F.Bundle (firsts ks)))) (placed_act with_calls (given_inside (Act-F.Bundle (firsts ks)))) (act_parts known (act_inside (Act-F.Bundle (firsts ks))) p)
    bundle_says ks vs ws p h w s g =
        made ws p p _ _ (Act-F.Bundle _) _ (act.rolls-Bundle _) refl
        (λ us f. block_goes ks vs us h (branch_each ks w) (through vs (A ws p.stmts) us s f) p.next)
        (bundle_made_leaves ks vs (A ws p.stmts) h w s p.next ∙ sym (bundle_leaves ks w)) g (λ n k. k)

    -- the bounds of a local hold no effect
    abbrev IsFree : ActLayer → Type 0
    IsFree (Act-F.Local d) = in_bounds known d.bounds ≡ []
    IsFree x = Unit {0}

    act_says : (y : Act-F Name (Unit {0}) KeptAct KeptStmt) → IsFree (inner_act y) → Says (inner_act y)
    act_says (Act-F.Block m ks) free = record {
      goes = λ vs ws p h w s g.
          made ws p p _ _ (Act-F.Block m _) _ (act.rolls-Block m _) refl (λ us f. block_goes ks vs us h w (through vs (A ws p.stmts) us s f) p.next) refl g (λ n k. k);
      none = λ w d. refl;
    }
    act_says Act-F.Empty free = record { goes = λ vs ws p h w s g. made ws p p _ _ Act-F.Empty _ act.rolls-Empty refl (λ us f. refl) refl g (λ n k. k); none = λ w d. refl }
    act_says Act-F.Break free = record { goes = λ vs ws p h w s g. made ws p p _ _ Act-F.Break _ act.rolls-Break refl (λ us f. refl) refl g (λ n k. k); none = λ w d. refl }
    act_says Act-F.Continue free = record { goes = λ vs ws p h w s g. made ws p p _ _ Act-F.Continue _ act.rolls-Continue refl (λ us f. refl) refl g (λ n k. k); none = λ w d. refl }
    act_says (Act-F.Call e) free = record {
      goes = λ vs ws p h w s g.
          let m = whole_goes T tame known e vs ws p h s g in
          made ws p (whole_plain known e p).1 _ _ (Act-F.Call (whole_plain known e p).0) _ (act.rolls-Call _) refl m.is refl m.pending m.more;
      none = λ w d. refl;
    }
    act_says (Act-F.Check e) free = record {
      goes = λ vs ws p h w s g.
          let m = plain_goes T tame known e vs ws p h s g in
          made ws p (expr_plain known e p).1 _ _ (Act-F.Check (expr_plain known e p).0) _ (act.rolls-Check _) refl m.is refl m.pending m.more;
      none = λ w d. refl;
    }
    act_says (Act-F.Return e) free = record {
      goes = λ vs ws p h w s g.
          let m = value_goes e vs ws p h s g in
          made ws p (maybe_plain known e p).1 _ _ (Act-F.Return (maybe_plain known e p).0) _ (act.rolls-Return _) refl m.is refl m.pending m.more;
      none = λ w d. refl;
    }
    act_says (Act-F.Assign x e) free = record {
      goes = λ vs ws p h w s g.
          let hs = parts_of (expr_passes T vs x) (expr_passes T vs e) h in
          let m = plain_goes T tame known x vs ws p hs.0 s g in
          let q = (expr_plain known x p).1 in
          let n = right_goes T tame known (expr_plain known x p).0 e vs ws q hs.1 (through vs (A ws p.stmts) (A ws q.stmts) s m.more) m.pending in
          let r = right_plain known (expr_plain known x p).0 e q in
          made ws p r.1 _ _ (Act-F.Assign (expr_plain known x p).0 r.0) _ (act.rolls-Assign _ _) refl (λ us f. both _ _ (m.is us (λ a b. f a (n.more a b))) (n.is us f)) refl n.pending (λ a b. n.more a (m.more a b));
      none = λ w d. refl;
    }
    act_says (Act-F.Local d) free = record {
      goes = λ vs ws p h w s g.
          let hs = parts_of (type_passes T d.ctype) (bounds_pass T (vs ++ d.name ∷ []) d.bounds && init_passes T vs d.init) h in
          let gs = parts_of (bounds_pass T (vs ++ d.name ∷ []) d.bounds) (init_passes T vs d.init) hs.1 in
          let m = init_goes d.init vs ws p gs.1 s g in
          let e = (local_kept known d p).0 in
          let q = (local_kept known d p).1 in
          subst (λ (r : NamedDecl × Pending). GoesAct ws p (act_walked T (walked_inside T tame (Act-F.Local d))) (placed_act with_calls (given_inside (Act-F.Local d))) (act.Local r.0, r.1)) (sym (local_stays known d p free))
          (record {
            is = λ us f.
                ap (λ (v : Walked). v.passes us) (act_is (Act-F.Local e) _ (act.rolls-Local e))
                ∙ both _ _ hs.0 (both _ _ (bounds_pass_more d.bounds (vs ++ d.name ∷ []) (us ++ d.name ∷ []) (sub_both vs us (d.name ∷ []) (d.name ∷ []) (λ a b. f a (m.more a (s a b))) (same (d.name ∷ []))) gs.0) (m.is us f));
            leaves = ap (λ (v : Walked). v.leaves) (act_is (Act-F.Local e) _ (act.rolls-Local e));
            local = λ is. (e, ap (out-Act Name (Unit {0})) (sym (act.rolls-Local e)) ∙ act_out (Act-F.Local e));
            pending = m.pending;
            more = m.more;
          });
      none = λ w d. absurd (cc);
    }
    act_says (Act-F.If e k None) free = record {
      goes = λ vs ws p h w s g.
          let hs = parts_of (expr_passes T vs e) ((V k.0).passes vs && true) h in
          let gs = parts_of ((V k.0).passes vs) true hs.1 in
          let b = (parts_of (is_branch (given k)) true w).0 in
          let m = plain_goes T tame known e vs ws p hs.0 s g in
          let q = (expr_plain known e p).1 in
          let seen = through vs (A ws p.stmts) (A ws q.stmts) s m.more in
          made ws p q _ _ (Act-F.If (expr_plain known e p).0 (alone_of k q.next) None) _ (act.rolls-If _ _ None) refl
          (λ us f. both _ _ (m.is us f) (both _ _ (passes_alone k vs us gs.0 (branch_nested (given k) b) (through vs (A ws q.stmts) us seen f) q.next) refl))
          (ap (λ l. l ++ []) (leaves_alone k vs gs.0 b q.next ∙ sym (source_leaves k b))) m.pending m.more;
      none = λ w d. ap (λ l. l ++ []) (source_leaves k (parts_of (is_branch (given k)) true w).0);
    }
    act_says (Act-F.If e k (Some j)) free = record {
      goes = λ vs ws p h w s g.
          let hs = parts_of (expr_passes T vs e) ((V k.0).passes vs && (V j.0).passes (vs ++ (V k.0).leaves)) h in
          let gs = parts_of ((V k.0).passes vs) ((V j.0).passes (vs ++ (V k.0).leaves)) hs.1 in
          let bs = parts_of (is_branch (given k)) (is_branch (given j)) w in
          let m = plain_goes T tame known e vs ws p hs.0 s g in
          let q = (expr_plain known e p).1 in
          let n = (alone (stmt_plain known k.0) q.next).1 in
          let seen = through vs (A ws p.stmts) (A ws q.stmts) s m.more in
          let second : (V j.0).passes vs ≡ true = ap (λ l. (V j.0).passes l) (sym (ap (λ l. vs ++ l) (source_leaves k bs.0) ∙ append-nil vs)) ∙ gs.1 in
          made ws p q _ _ (Act-F.If (expr_plain known e p).0 (alone_of k q.next) (Some (alone_of j n))) _ (act.rolls-If _ _ (Some (alone_of j n))) refl
          (λ us f. both _ _ (m.is us f) (both _ _ (passes_alone k vs us gs.0 (branch_nested (given k) bs.0) (through vs (A ws q.stmts) us seen f) q.next)
          (passes_alone j vs (us ++ (V (alone_of k q.next)).leaves) second (branch_nested (given j) bs.1)
          (through vs us (us ++ (V (alone_of k q.next)).leaves) (through vs (A ws q.stmts) us seen f) (sub_front us (V (alone_of k q.next)).leaves)) n)))
          (ap (λ l. l ++ (V (alone_of j n)).leaves) (leaves_alone k vs gs.0 bs.0 q.next ∙ sym (source_leaves k bs.0)) ∙ ap (λ l. (V k.0).leaves ++ l) (leaves_alone j vs second bs.1 n ∙ sym (source_leaves j bs.1)))
          m.pending m.more;
      none = λ w d. let bs = parts_of (is_branch (given k)) (is_branch (given j)) w in ap (λ l. l ++ (V j.0).leaves) (source_leaves k bs.0) ∙ source_leaves j bs.1;
    }
    act_says (Act-F.While e k) free = record {
      goes = λ vs ws p h w s g.
          let hs = parts_of (expr_passes T vs e) ((V k.0).passes vs) h in
          let first = none_pending p.next in
          let c = (expr_plain known e first).0 in
          let q = (expr_plain known e first).1 in
          let m : (us : List Name) → Sub vs us → Goes T tame (PE T tame) us first (c, q) = λ us f. plain_goes T tame known e vs us first hs.0 (through vs us (A us []) f (at_none us)) refl in
          made ws p p _ _ (Act-F.While (loop_condition q.stmts c) (loop_body q.stmts c (alone_of k q.next))) _ (act.rolls-While _ _) refl
          (λ us f.
          let seen = through vs (A ws p.stmts) us s f in
          let n = m us seen in
          both _ _ (condition_passes us q.stmts c (n.is (A us q.stmts) (same (A us q.stmts))))
          (loop_passes us q.stmts c (alone_of k q.next) n.pending (n.is (A us q.stmts) (same (A us q.stmts))) (λ xs t. passes_alone k vs xs hs.1 (branch_nested (given k) w) (through vs us xs seen t) q.next)))
          (loop_leaves q.stmts c (alone_of k q.next) (leaves_alone k vs hs.1 w q.next) ∙ sym (source_leaves k w)) g (λ a b. b);
      none = λ w d. source_leaves k w;
    }
    act_says (Act-F.Bundle ks) free = record {
      goes = λ vs ws p h w s g. bundle_says ks vs ws p h w s g;
      none = λ w d. bundle_leaves ks w;
    }
    act_says (Act-F.For None e None k) free = record {
      goes = λ vs ws p h w s g.
          let vs1 = vs ++ [] in
          let h1 = parts_of (value_passes T vs1 e) ((V k.0).passes vs1 && true) h in
          let h2 = parts_of ((V k.0).passes vs1) (true) h1.1 in
          let q = p in
          let left : List Name = [] in
          let seen : (us : List Name) → Sub (A ws q.stmts) us → Sub vs1 (us ++ left) = λ us t. sub_both vs us [] [] (λ a b. t a (s a b)) (same []) in
          let v = maybe_plain known e (none_pending q.next) in
          let t = alone_of k v.1.next in
          let inner : (us : List Name) → Sub (A ws q.stmts) us → Inner (us ++ left) e k q.next = λ us x. inner_passes e k vs1 (us ++ left) h1.0 h2.0 w (seen us x) q.next in
          made ws p q _ _ (Act-F.For None (for_condition v.1.stmts v.0) None (for_body v.1.stmts v.0 t)) _ (act.rolls-For None _ None _) refl
          (λ us x. (both _ _ (inner us x).condition (both _ _ (inner us x).body refl)))
          refl g (λ a b. b);
      none = λ w d. refl;
    }
    act_says (Act-F.For None e (Some j) k) free = record {
      goes = λ vs ws p h w s g.
          let vs1 = vs ++ [] in
          let h1 = parts_of (value_passes T vs1 e) ((V k.0).passes vs1 && (V j.0).passes (vs1 ++ (V k.0).leaves)) h in
          let h2 = parts_of ((V k.0).passes vs1) ((V j.0).passes (vs1 ++ (V k.0).leaves)) h1.1 in
          let w1 = parts_of (is_branch (given j)) (is_branch (given k)) w in
          let q = p in
          let left : List Name = [] in
          let seen : (us : List Name) → Sub (A ws q.stmts) us → Sub vs1 (us ++ left) = λ us t. sub_both vs us [] [] (λ a b. t a (s a b)) (same []) in
          let v = maybe_plain known e (none_pending q.next) in
          let t = alone_of k v.1.next in
          let inner : (us : List Name) → Sub (A ws q.stmts) us → Inner (us ++ left) e k q.next = λ us x. inner_passes e k vs1 (us ++ left) h1.0 h2.0 w1.1 (seen us x) q.next in
          let n = (alone (stmt_plain known k.0) v.1.next).1 in
          let second : (V j.0).passes vs1 ≡ true = ap (λ l. (V j.0).passes l) (sym (ap (λ l. vs1 ++ l) (source_leaves k w1.1) ∙ append-nil vs1)) ∙ h2.1 in
          made ws p q _ _ (Act-F.For None (for_condition v.1.stmts v.0) (Some (alone_of j n)) (for_body v.1.stmts v.0 t)) _ (act.rolls-For None _ (Some (alone_of j n)) _) refl
          (λ us x. (both _ _ (inner us x).condition (both _ _ (inner us x).body (passes_alone j vs1 ((us ++ left) ++ (V (for_body v.1.stmts v.0 t)).leaves) second (branch_nested (given j) w1.0) (through vs1 (us ++ left) ((us ++ left) ++ (V (for_body v.1.stmts v.0 t)).leaves) (seen us x) (sub_front (us ++ left) (V (for_body v.1.stmts v.0 t)).leaves)) n))))
          refl g (λ a b. b);
      none = λ w d. refl;
    }
    act_says (Act-F.For (Some l) e None k) free = record {
      goes = λ vs ws p h w s g.
          let vs1 = vs ++ (V l.0).leaves in
          let h0 = parts_of ((V l.0).passes vs) (value_passes T vs1 e && ((V k.0).passes vs1 && true)) h in
          let h1 = parts_of (value_passes T vs1 e) ((V k.0).passes vs1 && true) h0.1 in
          let h2 = parts_of ((V k.0).passes vs1) (true) h1.1 in
          let w0 = parts_of (given l).nested (is_branch (given k)) w in
          let m = l.1.goes vs ws p h0.0 w0.0 s g in
          let f = (stmt_plain known l.0 p).0 in
          let q = (stmt_plain known l.0 p).1 in
          let left = (V f).leaves in
          let seen : (us : List Name) → Sub (A ws q.stmts) us → Sub vs1 (us ++ left) = λ us t. subst (λ l. Sub vs1 (us ++ l)) (sym m.leaves) (sub_both vs us (V l.0).leaves (V l.0).leaves (λ a b. t a (m.more a (s a b))) (same (V l.0).leaves)) in
          let v = maybe_plain known e (none_pending q.next) in
          let t = alone_of k v.1.next in
          let inner : (us : List Name) → Sub (A ws q.stmts) us → Inner (us ++ left) e k q.next = λ us x. inner_passes e k vs1 (us ++ left) h1.0 h2.0 w0.1 (seen us x) q.next in
          made ws p q _ _ (Act-F.For (Some f) (for_condition v.1.stmts v.0) None (for_body v.1.stmts v.0 t)) _ (act.rolls-For (Some f) _ None _) refl
          (λ us x. both _ _ (m.is us x) (both _ _ (inner us x).condition (both _ _ (inner us x).body refl)))
          refl m.pending m.more;
      none = λ w d. refl;
    }
    act_says (Act-F.For (Some l) e (Some j) k) free = record {
      goes = λ vs ws p h w s g.
          let vs1 = vs ++ (V l.0).leaves in
          let h0 = parts_of ((V l.0).passes vs) (value_passes T vs1 e && ((V k.0).passes vs1 && (V j.0).passes (vs1 ++ (V k.0).leaves))) h in
          let h1 = parts_of (value_passes T vs1 e) ((V k.0).passes vs1 && (V j.0).passes (vs1 ++ (V k.0).leaves)) h0.1 in
          let h2 = parts_of ((V k.0).passes vs1) ((V j.0).passes (vs1 ++ (V k.0).leaves)) h1.1 in
          let w0 = parts_of (given l).nested (is_branch (given j) && is_branch (given k)) w in
          let w1 = parts_of (is_branch (given j)) (is_branch (given k)) w0.1 in
          let m = l.1.goes vs ws p h0.0 w0.0 s g in
          let f = (stmt_plain known l.0 p).0 in
          let q = (stmt_plain known l.0 p).1 in
          let left = (V f).leaves in
          let seen : (us : List Name) → Sub (A ws q.stmts) us → Sub vs1 (us ++ left) = λ us t. subst (λ l. Sub vs1 (us ++ l)) (sym m.leaves) (sub_both vs us (V l.0).leaves (V l.0).leaves (λ a b. t a (m.more a (s a b))) (same (V l.0).leaves)) in
          let v = maybe_plain known e (none_pending q.next) in
          let t = alone_of k v.1.next in
          let inner : (us : List Name) → Sub (A ws q.stmts) us → Inner (us ++ left) e k q.next = λ us x. inner_passes e k vs1 (us ++ left) h1.0 h2.0 w1.1 (seen us x) q.next in
          let n = (alone (stmt_plain known k.0) v.1.next).1 in
          let second : (V j.0).passes vs1 ≡ true = ap (λ l. (V j.0).passes l) (sym (ap (λ l. vs1 ++ l) (source_leaves k w1.1) ∙ append-nil vs1)) ∙ h2.1 in
          made ws p q _ _ (Act-F.For (Some f) (for_condition v.1.stmts v.0) (Some (alone_of j n)) (for_body v.1.stmts v.0 t)) _ (act.rolls-For (Some f) _ (Some (alone_of j n)) _) refl
          (λ us x. both _ _ (m.is us x) (both _ _ (inner us x).condition (both _ _ (inner us x).body (passes_alone j vs1 ((us ++ left) ++ (V (for_body v.1.stmts v.0 t)).leaves) second (branch_nested (given j) w1.0) (through vs1 (us ++ left) ((us ++ left) ++ (V (for_body v.1.stmts v.0 t)).leaves) (seen us x) (sub_front (us ++ left) (V (for_body v.1.stmts v.0 t)).leaves)) n))))
          refl m.pending m.more;
      none = λ w d. refl;
    }

    act_by_kept : (x : ActLayer) (y : Act-F Name (Unit {0}) KeptAct KeptStmt) → inner_act y ≡ x → IsFree x → ActHolds (roll-Act Name (Unit {0}) x)
    act_by_kept x y is free =
        subst (λ w. KeepsAct w (given_of (roll-Act Name (Unit {0}) x)) (act_plain known (roll-Act Name (Unit {0}) x))) (sym (fold-roll-Act Name (Unit {0}) Walked Walked (act_walked T) stmt_walked x))
        (subst (λ g. KeepsAct (act_walked T (walked_inside T tame x)) g (act_plain known (roll-Act Name (Unit {0}) x))) (sym (fold-roll-Act Name (Unit {0}) Given Given (placed_act with_calls) given_in x))
        (subst (λ (k : OfAct). KeepsAct (act_walked T (walked_inside T tame x)) (placed_act with_calls (given_inside x)) k) (sym (fold-roll-Act Name (Unit {0}) OfAct OfStmt (act_parts known) stmt_parts x))
        (subst Says is (act_says y (subst IsFree (sym is) free)))))

    -- ---- no effect in it is refused, so none stands in the bounds of a local

    abbrev FreeActHolds : NamedAct → Type 0
    FreeActHolds a = (b : Bool) → in_act known a b ≡ [] → ActHolds a

    abbrev FreeStmtHolds : NamedStmt → Type 0
    FreeStmtHolds s = (b : Bool) → in_stmt known s b ≡ [] → StmtHolds s

    abbrev FreeAct : Type 0
    FreeAct = (a : NamedAct) × FreeActHolds a

    abbrev FreeStmt : Type 0
    FreeStmt = (s : NamedStmt) × FreeStmtHolds s

    abbrev inner_free : Act-F Name (Unit {0}) FreeAct FreeStmt → ActLayer
    inner_free = map-Act Name (Unit {0}) FreeAct FreeStmt NamedAct NamedStmt (λ e. e.0) (λ e. e.0)

    abbrev inner_free_stmt : Stmt-F Name (Unit {0}) FreeAct FreeStmt → Stmt-F Name (Unit {0}) NamedAct NamedStmt
    inner_free_stmt = map-Stmt Name (Unit {0}) FreeAct FreeStmt NamedAct NamedStmt (λ e. e.0) (λ e. e.0)

    abbrev barred_inside : ActLayer → Act-F Name (Unit {0}) barred.OfStmt barred.OfStmt
    barred_inside = map-Act Name (Unit {0}) NamedAct NamedStmt barred.OfStmt barred.OfStmt (in_act known) (in_stmt known)

    abbrev barred_each : List FreeStmt → Bool → List Pos
    barred_each ks b = inside_each listed (λ (s : barred.OfStmt). s b) (map (in_stmt known) (map (λ (k : FreeStmt). k.0) ks))

    record Freed (x : ActLayer) : Type 0 where
      layer : Act-F Name (Unit {0}) KeptAct KeptStmt
      is : inner_act layer ≡ x
      free : IsFree x

    freed_each : (ks : List FreeStmt) (b : Bool) → barred_each ks b ≡ [] → (js : List KeptStmt) × (firsts js ≡ map (λ (k : FreeStmt). k.0) ks)
    freed_each [] b none = ([], refl)
    freed_each (k ∷ ks) b none =
        let e = empty_parts (in_stmt known k.0 b) (barred_each ks b) none in
        let r = freed_each ks b e.1 in
        ((k.0, k.1 b e.0) ∷ r.0, ap (λ ss. k.0 ∷ ss) r.1)

    freed : (y : Act-F Name (Unit {0}) FreeAct FreeStmt) (b : Bool) → barred.act_parts known (barred_inside (inner_free y)) b ≡ [] → Freed (inner_free y)
    freed (Act-F.Block m ks) b none = let r = freed_each ks b none in record { layer = Act-F.Block m r.0; is = ap (λ ss. Act-F.Block m ss) r.1; free = tt }
    freed (Act-F.Bundle ks) b none = let r = freed_each ks true none in record { layer = Act-F.Bundle r.0; is = ap (λ ss. Act-F.Bundle ss) r.1; free = tt }
    freed Act-F.Empty b none = record { layer = Act-F.Empty; is = refl; free = tt }
    freed (Act-F.Local d) b none = record { layer = Act-F.Local d; is = refl; free = (empty_parts (in_bounds known d.bounds) (in_init known d.init b) none).0 }
    freed (Act-F.Assign x e) b none = record { layer = Act-F.Assign x e; is = refl; free = tt }
    freed (Act-F.Call e) b none = record { layer = Act-F.Call e; is = refl; free = tt }
    freed (Act-F.If e k None) b none =
        let s = (empty_parts (in_expr known e b) (in_stmt known k.0 b ++ []) none).1 in
        record { layer = Act-F.If e (k.0, k.1 b (empty_parts (in_stmt known k.0 b) [] s).0) None; is = refl; free = tt }
    freed (Act-F.If e k (Some j)) b none =
        let s = empty_parts (in_stmt known k.0 b) (in_stmt known j.0 b) (empty_parts (in_expr known e b) (in_stmt known k.0 b ++ in_stmt known j.0 b) none).1 in
        record { layer = Act-F.If e (k.0, k.1 b s.0) (Some (j.0, j.1 b s.1)); is = refl; free = tt }
    freed (Act-F.While e k) b none = record { layer = Act-F.While e (k.0, k.1 b (empty_parts (in_expr known e b) (in_stmt known k.0 b) none).1); is = refl; free = tt }
    freed (Act-F.For None e None k) b none =
        let s = empty_parts (in_stmt known k.0 b) [] (empty_parts (in_maybe known e b) (in_stmt known k.0 b ++ []) none).1 in
        record { layer = Act-F.For None e None (k.0, k.1 b s.0); is = refl; free = tt }
    freed (Act-F.For None e (Some j) k) b none =
        let s = empty_parts (in_stmt known k.0 b) (in_stmt known j.0 b) (empty_parts (in_maybe known e b) (in_stmt known k.0 b ++ in_stmt known j.0 b) none).1 in
        record { layer = Act-F.For None e (Some (j.0, j.1 b s.1)) (k.0, k.1 b s.0); is = refl; free = tt }
    freed (Act-F.For (Some l) e None k) b none =
        let t = empty_parts (in_stmt known l.0 b) (in_maybe known e b ++ (in_stmt known k.0 b ++ [])) none in
        let s = empty_parts (in_stmt known k.0 b) [] (empty_parts (in_maybe known e b) (in_stmt known k.0 b ++ []) t.1).1 in
        record { layer = Act-F.For (Some (l.0, l.1 b t.0)) e None (k.0, k.1 b s.0); is = refl; free = tt }
    freed (Act-F.For (Some l) e (Some j) k) b none =
        let t = empty_parts (in_stmt known l.0 b) (in_maybe known e b ++ (in_stmt known k.0 b ++ in_stmt known j.0 b)) none in
        let s = empty_parts (in_stmt known k.0 b) (in_stmt known j.0 b) (empty_parts (in_maybe known e b) (in_stmt known k.0 b ++ in_stmt known j.0 b) t.1).1 in
        record { layer = Act-F.For (Some (l.0, l.1 b t.0)) e (Some (j.0, j.1 b s.1)) (k.0, k.1 b s.0); is = refl; free = tt }
    freed (Act-F.Return e) b none = record { layer = Act-F.Return e; is = refl; free = tt }
    freed Act-F.Break b none = record { layer = Act-F.Break; is = refl; free = tt }
    freed Act-F.Continue b none = record { layer = Act-F.Continue; is = refl; free = tt }
    freed (Act-F.Check e) b none = record { layer = Act-F.Check e; is = refl; free = tt }

    act_by : (x : ActLayer) (y : Act-F Name (Unit {0}) FreeAct FreeStmt) → inner_free y ≡ x → FreeActHolds (roll-Act Name (Unit {0}) x)
    act_by x y is b none =
        let here : barred.act_parts known (barred_inside x) b ≡ [] =
        sym (ap (λ (d : barred.OfStmt). d b) (fold-roll-Act Name (Unit {0}) barred.OfStmt barred.OfStmt (barred.act_parts known) barred.stmt_parts x)) ∙ none in
        let f : Freed x = subst (λ z. (c : Bool) → barred.act_parts known (barred_inside z) c ≡ [] → Freed z) is (freed y) b here in
        act_by_kept x f.layer f.is f.free

    stated : (w : Walked) (g : Given) (k : OfAct) (pos : _) → KeepsAct w g k → Keeps w g (λ p. (stmt_at (k p).0 pos, (k p).1))
    stated w g k pos h = record {
      goes = λ vs ws p pass nest s good.
          let m = h.goes vs ws p pass nest s good in
          let is : V (stmt_at (k p).0 pos) ≡ walked_act T (k p).0 = fold-roll-Stmt Name (Unit {0}) Walked Walked (act_walked T) stmt_walked (record { body = (k p).0; pos = pos; note = tt }) in
          record {
            is = λ us f. ap (λ (v : Walked). v.passes us) is ∙ m.is us f;
            leaves = ap (λ (v : Walked). v.leaves) is ∙ m.leaves;
            local = m.local;
            pending = m.pending;
            more = m.more;
          };
      none = h.none;
    }

    stmt_by : (x : Stmt-F Name (Unit {0}) NamedAct NamedStmt) (y : Stmt-F Name (Unit {0}) FreeAct FreeStmt) → inner_free_stmt y ≡ x → FreeStmtHolds (roll-Stmt Name (Unit {0}) x)
    stmt_by x y is =
        subst (λ z. FreeStmtHolds (roll-Stmt Name (Unit {0}) z)) is (λ b none.
        let z = inner_free_stmt y in
        let h = y.body.1 b (sym (ap (λ (d : barred.OfStmt). d b) (fold-roll-Stmt Name (Unit {0}) barred.OfStmt barred.OfStmt (barred.act_parts known) barred.stmt_parts z)) ∙ none) in
        subst (λ w. Keeps w (placed_stmt with_calls (roll-Stmt Name (Unit {0}) z)) (stmt_plain known (roll-Stmt Name (Unit {0}) z))) (sym (fold-roll-Stmt Name (Unit {0}) Walked Walked (act_walked T) stmt_walked z))
        (subst (λ g. Keeps (walked_act T y.body.0) g (stmt_plain known (roll-Stmt Name (Unit {0}) z))) (sym (fold-roll-Stmt Name (Unit {0}) Given Given (placed_act with_calls) given_in z))
        (subst (λ (k : OfStmt). Keeps (walked_act T y.body.0) (given_of y.body.0) k) (sym (fold-roll-Stmt Name (Unit {0}) OfAct OfStmt (act_parts known) stmt_parts z))
        (stated (walked_act T y.body.0) (given_of y.body.0) (act_plain known y.body.0) y.pos h))))

    stmt_holds : (s : NamedStmt) → FreeStmtHolds s
    stmt_holds = ind-Stmt Name (Unit {0}) FreeActHolds FreeStmtHolds act_by stmt_by

    pub body_passes : (s : NamedStmt) (n : ℕ) (vs : List Name) → (V s).passes vs ≡ true → (placed_stmt with_calls s).nested ≡ true → in_stmt known s false ≡ [] → (V (alone (stmt_plain known s) n).0).passes vs ≡ true
    body_passes s n vs h w none = passes_alone (s, stmt_holds s false none) vs vs h w (same vs) n
