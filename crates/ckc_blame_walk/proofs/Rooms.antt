-- How far a walk goes on in the numbers of fresh variables: no further than there are nodes.
use Rattle.std.proofs.Common.{◌≡◌, refl, sym, ap, subst, arith, ℕ, ◌+◌, ◌≤◌, List, [], ◌∷◌, ◌++◌, map, length}
use Rattle.std.specs.Prelude.{Option, None, Some, Ok}
use Rattle.std.specs.List.{flat_map}
use Rattle.ckc_base.specs.declared.places.Pos.{Pos}
use Rattle.ckc_base.specs.Outcomes.{Outcome}
use Rattle.ckc_syntax.specs.Inside.{listed, inside_each}
use Rattle.ckc_syntax.specs.declared.tree.Name.{Name}
use Rattle.ckc_syntax.specs.declared.tree.Init.TheVariants as init
use Rattle.ckc_syntax.specs.declared.tree.Act.{Act-F, roll-Act}
use Rattle.ckc_syntax_limits.specs.Marks.{Mark, node as mark, is_node, marks_of_expr, marks_of_bounds, marks_of_init, marks_of_value, marks_of_part, act_marks, marks_of_stmt}
use Rattle.ckc_syntax_limits.specs.Small.{how_many}
use Rattle.ckc_typed.specs.declared.typed.Note.{Note}
use Rattle.ckc_typed.specs.Trees.{NotedAct, NotedDecl, NotedExpr, NotedInit, NotedStmt}
use Rattle.ckc_blame_sound.specs.ckc_bounds_points.specs.declared.frame.Frame.{Frame}
use Rattle.ckc_blame_sound.specs.ckc_bounds_points.specs.declared.frame.HeadBounds.{HeadBounds}
use Rattle.ckc_blame_sound.specs.ckc_bounds_views.specs.Parts.{capped, fresh_behind}
use Rattle.ckc_blame_sound.specs.ckc_bounds_views.specs.Views.{view}
use Rattle.ckc_blame_sound.specs.ckc_bounds_statements.specs.Paths.{Here, expr_judged, value_judged, values_judged, maybe_judged, init_judged, stated, path}
use Rattle.ckc_build_sizes.proofs.KeptExprs.{Keeps}
use Rattle.ckc_build_sizes.proofs.KeptStmts.{expr_first, stmt_first, value_kept, stmt_kept}
use Rattle.ckc_blame_sound.specs.Settings.{Setting}
use Rattle.ckc_blame_sound.specs.Few.{nodes_of, nodes_of_value, nodes_in, HasRoom}
use Rattle.ckc_blame_sound.proofs.Tallies.{tally, is_tally, tally-append}
use Rattle.ckc_blame_sound.proofs.Nodes.{marks_inside, nodes_rolled}
use Rattle.ckc_blame_walk.proofs.Fresh.{fresh_are_few}
use Rattle.ckc_blame_walk.proofs.Pieces.{Gives, through, given}

-- ---- numbers

-- From one number on there is no more than so much to another.
pub record GrowsBy (m n k : ℕ) : Type 0 where
  pub most : n ≤ m + k

abbrev pub Grows : Here → Here → ℕ → Type 0
Grows here there k = GrowsBy here.next there.next k

pub grows_none : (n k : ℕ) → GrowsBy n n k
grows_none n k = record { most = omega arith }

pub grows_through : (a b c j k m : ℕ) → j + k ≤ m → GrowsBy a b j → GrowsBy b c k → GrowsBy a c m
grows_through a b c j k m less h g =
    let p = h.most in
    let q = g.most in
    record { most = omega (arith, p, q, less) }

pub grows_more : (a b j k : ℕ) → j ≤ k → GrowsBy a b j → GrowsBy a b k
grows_more a b j k less h = let p = h.most in record { most = omega (arith, p, less) }

pub grows_same : (here one there : Here) (k : ℕ) → there.next ≡ one.next → Grows here one k → Grows here there k
grows_same here one there k same h = subst (λ n. GrowsBy here.next n k) (sym same) h

pub room_after : (s : Setting) (a b j k m : ℕ) → j + k ≤ m → GrowsBy a b j → HasRoom s a m → HasRoom s b k
room_after s a b j k m less h room few =
    let p = h.most in
    let q = room few in
    omega (arith, p, q, less)

pub room_less : (s : Setting) (a k m : ℕ) → k ≤ m → HasRoom s a m → HasRoom s a k
room_less s a k m less room few = let q = room few in omega (arith, q, less)

-- ---- values

module _ (frame : Frame) where
  kept : (o : Outcome (NotedExpr × Here)) (ms : List Mark) (p : NotedExpr × Here) → o ≡ Ok p → Keeps expr_first ms o → marks_of_expr p.0 ≡ ms
  kept o ms p is h = subst (λ (o : Outcome (NotedExpr × Here)). Keeps expr_first ms o) is h

  -- judging an expression keeps its nodes
  pub value_nodes : (e : NotedExpr) (here : Here) (p : NotedExpr × Here) → value_judged frame e here ≡ Ok p → nodes_of p.0 ≡ nodes_of e
  value_nodes e here p is = ap (how_many is_node) (kept (value_judged frame e here) (marks_of_expr e) p is (value_kept frame e here))

  capped_grows : (m n k : ℕ) → n ≤ k → GrowsBy m (capped m n) k
  capped_grows m n k h = record { most = grind (arith, h) }

  value_there : (e : NotedExpr) (here : Here) → Gives (λ p. Grows here p.1 (nodes_of e)) (value_judged frame e here)
  unfolding value_judged
  value_there e here =
      through (λ (p : NotedExpr × Here). Grows here p.1 (nodes_of e)) (expr_judged frame e here) (λ f. Ok (f, record here { next = fresh_behind (view frame e) here.next here.at })) (λ f is.
      given (λ (p : NotedExpr × Here). Grows here p.1 (nodes_of e)) (f, record here { next = fresh_behind (view frame e) here.next here.at })
      (capped_grows here.next (length ((view frame e).fresh here.at)) (nodes_of e) (fresh_are_few frame e here.at)))

  pub value_grows : (e : NotedExpr) (here : Here) → Gives (λ p. Grows here p.1 (nodes_of p.0)) (value_judged frame e here)
  value_grows e here = record {
    made = λ p is. subst (GrowsBy here.next p.1.next) (sym (value_nodes e here p is)) ((value_there e here).made p is);
  }

  values_grow : (es : List NotedExpr) (here : Here) → Gives (λ p. Grows here p.1 (how_many is_node (flat_map marks_of_expr p.0))) (values_judged frame es here)
  values_grow [] here = given (λ (p : List NotedExpr × Here). Grows here p.1 (how_many is_node (flat_map marks_of_expr p.0))) ([], here) (grows_none here.next _)
  values_grow (e ∷ es) here =
      through (λ (p : List NotedExpr × Here). Grows here p.1 (how_many is_node (flat_map marks_of_expr p.0))) _ _ (λ p is.
      through (λ (p : List NotedExpr × Here). Grows here p.1 (how_many is_node (flat_map marks_of_expr p.0))) _ _ (λ q next.
      given (λ (p : List NotedExpr × Here). Grows here p.1 (how_many is_node (flat_map marks_of_expr p.0))) (p.0 ∷ q.0, q.1)
      (grows_through here.next p.1.next q.1.next (nodes_of p.0) (how_many is_node (flat_map marks_of_expr q.0)) _
      (split (marks_of_expr p.0) (flat_map marks_of_expr q.0)) ((value_grows e here).made p is) ((values_grow es p.1).made q next))))
    where
      split : (ms ns : List Mark) → how_many is_node ms + how_many is_node ns ≤ how_many is_node (ms ++ ns)
      split ms ns = omega (arith, is_tally is_node ms, is_tally is_node ns, is_tally is_node (ms ++ ns), tally-append is_node ms ns)

  pub maybe_grows : (e : Option NotedExpr) (here : Here) → Gives (λ p. Grows here p.1 (nodes_of_value p.0)) (maybe_judged frame e here)
  maybe_grows None here = given (λ (p : Option NotedExpr × Here). Grows here p.1 (nodes_of_value p.0)) (None, here) (grows_none here.next _)
  maybe_grows (Some e) here =
      through (λ (p : Option NotedExpr × Here). Grows here p.1 (nodes_of_value p.0)) _ _ (λ p is.
      given (λ (p : Option NotedExpr × Here). Grows here p.1 (nodes_of_value p.0)) (Some p.0, p.1) ((value_grows e here).made p is))

  pub maybe_nodes : (e : Option NotedExpr) (here : Here) → Gives (λ p. nodes_of_value p.0 ≡ nodes_of_value e) (maybe_judged frame e here)
  maybe_nodes None here = given (λ (p : Option NotedExpr × Here). nodes_of_value p.0 ≡ nodes_of_value None) (None, here) refl
  maybe_nodes (Some e) here =
      through (λ (p : Option NotedExpr × Here). nodes_of_value p.0 ≡ nodes_of_value (Some e)) _ _ (λ p is.
      given (λ (p : Option NotedExpr × Here). nodes_of_value p.0 ≡ nodes_of_value (Some e)) (Some p.0, p.1) (value_nodes e here p is))

  -- judging a statement keeps its nodes
  pub statement_nodes : (head : HeadBounds) (st : NotedStmt) (here : Here) (p : NotedStmt × Here) → (path st).judged frame head here ≡ Ok p → nodes_in p.0 ≡ nodes_in st
  statement_nodes head st here p is =
      ap (how_many is_node) (subst (λ (o : Outcome (NotedStmt × Here)). Keeps stmt_first (marks_of_stmt st) o) is ((stmt_kept frame st).judged head here))

  pub init_grows : (i : NotedInit) (here : Here) → Gives (λ p. Grows here p.1 (how_many is_node (marks_of_init p.0))) (init_judged frame i here)
  init_grows init.Nothing here = given (λ (p : NotedInit × Here). Grows here p.1 (how_many is_node (marks_of_init p.0))) (init.Nothing, here) (grows_none here.next _)
  init_grows (init.One e) here =
      through (λ (p : NotedInit × Here). Grows here p.1 (how_many is_node (marks_of_init p.0))) _ _ (λ p is.
      given (λ (p : NotedInit × Here). Grows here p.1 (how_many is_node (marks_of_init p.0))) (init.One p.0, p.1) ((value_grows e here).made p is))
  init_grows (init.Many es) here =
      through (λ (p : NotedInit × Here). Grows here p.1 (how_many is_node (marks_of_init p.0))) _ _ (λ p is.
      given (λ (p : NotedInit × Here). Grows here p.1 (how_many is_node (marks_of_init p.0))) (init.Many p.0, p.1) ((values_grow es here).made p is))

-- ---- statements

-- how many nodes a statement that there may be has, and several ones
abbrev pub nodes_if : Option NotedStmt → ℕ
nodes_if st = how_many is_node (marks_of_part st)

abbrev pub nodes_each : List NotedStmt → ℕ
nodes_each [] = 0
nodes_each (st ∷ ss) = nodes_in st + nodes_each ss

each_nodes : (ss : List NotedStmt) → nodes_each ss ≡ tally is_node (inside_each listed (λ ms. ms) (map (λ (st : NotedStmt). marks_of_stmt st) ss))
each_nodes [] = refl
each_nodes (st ∷ ss) =
    omega (
      arith,
      each_nodes ss,
      is_tally is_node (marks_of_stmt st),
      tally-append is_node (marks_of_stmt st) (inside_each listed (λ ms. ms) (map (λ (st : NotedStmt). marks_of_stmt st) ss)),
    )

part_nodes : (st : Option NotedStmt) → nodes_if st ≡ tally is_node (marks_of_part st)
part_nodes st = is_tally is_node (marks_of_part st)

module _ (at : Pos) (note : Note) (a : NotedAct) where
  abbrev whole : ℕ
  whole = nodes_in (stated at note a)

  pub block_nodes : (m : _) (ss : List NotedStmt) → roll-Act Name Note (Act-F.Block m ss) ≡ a → nodes_each ss ≤ whole
  block_nodes m ss rolls = omega (arith, nodes_rolled at note (Act-F.Block m ss) a rolls, each_nodes ss)

  pub bundle_nodes : (ss : List NotedStmt) → roll-Act Name Note (Act-F.Bundle ss) ≡ a → nodes_each ss ≤ whole
  bundle_nodes ss rolls = omega (arith, nodes_rolled at note (Act-F.Bundle ss) a rolls, each_nodes ss)

  pub assign_nodes : (e f : NotedExpr) → roll-Act Name Note (Act-F.Assign e f) ≡ a → nodes_of e + nodes_of f ≤ whole
  assign_nodes e f rolls =
      omega (
        arith,
        nodes_rolled at note (Act-F.Assign e f) a rolls,
        tally-append is_node (marks_of_expr e) (marks_of_expr f),
        is_tally is_node (marks_of_expr e),
        is_tally is_node (marks_of_expr f),
      )

  pub call_nodes : (e : NotedExpr) → roll-Act Name Note (Act-F.Call e) ≡ a → nodes_of e ≤ whole
  call_nodes e rolls = omega (arith, nodes_rolled at note (Act-F.Call e) a rolls, is_tally is_node (marks_of_expr e))

  pub check_nodes : (e : NotedExpr) → roll-Act Name Note (Act-F.Check e) ≡ a → nodes_of e ≤ whole
  check_nodes e rolls = omega (arith, nodes_rolled at note (Act-F.Check e) a rolls, is_tally is_node (marks_of_expr e))

  pub return_nodes : (e : Option NotedExpr) → roll-Act Name Note (Act-F.Return e) ≡ a → nodes_of_value e ≤ whole
  return_nodes e rolls = omega (arith, nodes_rolled at note (Act-F.Return e) a rolls, is_tally is_node (marks_of_value e))

  pub local_nodes : (d : NotedDecl) → roll-Act Name Note (Act-F.Local d) ≡ a → how_many is_node (marks_of_init d.init) ≤ whole
  local_nodes d rolls =
      omega (
        arith,
        nodes_rolled at note (Act-F.Local d) a rolls,
        tally-append is_node (marks_of_bounds d.bounds) (marks_of_init d.init),
        is_tally is_node (marks_of_init d.init),
      )

  pub while_nodes : (e : NotedExpr) (u : NotedStmt) → roll-Act Name Note (Act-F.While e u) ≡ a → nodes_of e + nodes_in u ≤ whole
  while_nodes e u rolls =
      omega (
        arith,
        nodes_rolled at note (Act-F.While e u) a rolls,
        tally-append is_node (marks_of_expr e) (marks_of_stmt u),
        is_tally is_node (marks_of_expr e),
        is_tally is_node (marks_of_stmt u),
      )

  pub if_nodes : (e : NotedExpr) (u : NotedStmt) (t : Option NotedStmt) → roll-Act Name Note (Act-F.If e u t) ≡ a → nodes_of e + nodes_in u + nodes_if t ≤ whole
  if_nodes e u t rolls =
      omega (
        arith,
        nodes_rolled at note (Act-F.If e u t) a rolls,
        by t,
        is_tally is_node (marks_of_expr e),
        is_tally is_node (marks_of_stmt u),
        tally-append is_node (marks_of_expr e) (marks_of_stmt u),
        part_nodes t,
        tally-append is_node (marks_of_expr e ++ marks_of_stmt u) (marks_of_part t),
      )
    where
      by : (t : Option NotedStmt) → tally is_node (act_marks (marks_inside (Act-F.If e u t))) ≡ tally is_node ((marks_of_expr e ++ marks_of_stmt u) ++ marks_of_part t)
      by None = refl
      by (Some t) = refl

  pub for_nodes : (b : Option NotedStmt) (e : Option NotedExpr) (t : Option NotedStmt) (u : NotedStmt) → roll-Act Name Note (Act-F.For b e t u) ≡ a
      → nodes_if b + nodes_of_value e + nodes_in u + nodes_if t ≤ whole
  for_nodes b e t u rolls =
      omega (
        arith,
        nodes_rolled at note (Act-F.For b e t u) a rolls,
        by b t,
        part_nodes b,
        is_tally is_node (marks_of_value e),
        tally-append is_node (marks_of_part b) (marks_of_value e),
        part_nodes t,
        tally-append is_node (marks_of_part b ++ marks_of_value e) (marks_of_part t),
        is_tally is_node (marks_of_stmt u),
        tally-append is_node ((marks_of_part b ++ marks_of_value e) ++ marks_of_part t) (marks_of_stmt u),
      )
    where
      by : (b t : Option NotedStmt) → tally is_node (act_marks (marks_inside (Act-F.For b e t u)))
          ≡ tally is_node (((marks_of_part b ++ marks_of_value e) ++ marks_of_part t) ++ marks_of_stmt u)
      by None None = refl
      by None (Some t) = refl
      by (Some b) None = refl
      by (Some b) (Some t) = refl
