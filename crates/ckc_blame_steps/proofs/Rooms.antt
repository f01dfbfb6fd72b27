-- There is room for the numbers of the values and the fresh variables of each step and of each condition.
use Rattle.std.proofs.Common.{◌≡◌, refl, sym, ap, subst, ◌∙◌, arith, ℕ, ◌+◌, ◌<◌, ◌≤◌, List, [], ◌∷◌, map, length}
use Rattle.std.specs.Prelude.{◌^◌, true, not, Option, None, Some, IfSome, Ok}
use Rattle.ckc_base.specs.declared.arithmetic.Mode.{Mode}
use Rattle.ckc_base.specs.Outcomes.{unless}
use Rattle.ckc_syntax.specs.declared.tree.Name.{Name}
use Rattle.ckc_syntax.specs.declared.tree.Init.TheVariants as init
use Rattle.ckc_syntax.specs.declared.tree.Node.{Node-F, out-Node, roll-Node, fold-roll-Node}
use Rattle.ckc_syntax.specs.declared.tree.Expr.{fold-roll-Expr}
use Rattle.ckc_syntax.specs.declared.tree.Act.{Act-F, out-Act, roll-Act}
use Rattle.ckc_syntax.specs.declared.tree.Act.TheVariants as act
use Rattle.ckc_syntax.specs.Inside.{listed, inside_each, inside_limits}
use Rattle.ckc_syntax_limits.specs.Marks.{Mark, is_node, node_marks, expr_marks, marks_of_expr, marks_of_node, marks_of_init}
use Rattle.ckc_syntax_limits.specs.Small.{Small, how_many}
use Rattle.ckc_typed.specs.declared.typed.Note.{Note}
use Rattle.ckc_typed.specs.declared.typed.Typed.{Typed}
use Rattle.ckc_typed.specs.Trees.{NotedExpr, NotedInit, NotedLayer, NotedNode, NotedStmt}
use Rattle.ckc_blame_sound.specs.ckc_bounds_points.specs.declared.frame.Frame.{Frame}
use Rattle.ckc_blame_sound.specs.ckc_bounds_points.specs.Codes.{not_contained}
use Rattle.ckc_blame_sound.specs.ckc_bounds_points.specs.Flow.{State}
use Rattle.ckc_blame_sound.specs.ckc_bounds_statements.specs.Paths.{Here, value_judged, maybe_judged, side_of, is_returned, gone, stated, act_judged}
use Rattle.ckc_blame_sound.specs.ckc_bounds_stores.specs.declared.values.Numbered.{Numbered}
use Rattle.ckc_blame_sound.specs.ckc_bounds_stores.specs.Stores.{with_store, stores_of}
use Rattle.ckc_blame_sound.specs.ckc_bounds_views.specs.Parts.{View, capped, fresh_behind}
use Rattle.ckc_blame_sound.specs.ckc_bounds_views.specs.Views.{view}
use Rattle.ckc_source.specs.Code.{Code, Expr, Function}
use Rattle.ckc_blame_sound.specs.Bodies.{AreFresh}
use Rattle.ckc_blame_sound.specs.Calls.{arguments_of_node, arguments_of_expr, arguments_of_init, arguments_of_act, arguments_of}
use Rattle.ckc_blame_sound.specs.Few.{nodes_of, nodes_of_value, nodes_in}
use Rattle.ckc_blame_sound.specs.Settings.{Setting, IsFunction}
use Rattle.ckc_blame_sound.specs.Steps.{is_simple, IsStep, IsCondition}
use Rattle.ckc_blame_sound.proofs.Tallies.{tally, is_tally, tally-append}
use Rattle.ckc_blame_sound.proofs.Statements.{made_of, pair_same, passes}
use Rattle.ckc_blame_sound.proofs.Stepping.{ActLayer, act_back, judged_is, viewed, out_call, out_return, out_check}
use Rattle.ckc_blame_sound.specs.JudgedTexts.{IsJudged}
use Rattle.ckc_blame_sound.proofs.SameViews.{same_view}
use Rattle.ckc_blame_walk.proofs.Fresh.{fresh_are_few}
use Rattle.ckc_blame_walk.proofs.Rooms.{nodes_each, assign_nodes, bundle_nodes, call_nodes, check_nodes, return_nodes, local_nodes}
use Rattle.ckc_blame_control.proofs.Typed.{has_fresh}
use Rattle.ckc_blame_given.specs.Stored.{IsAssignJudged, AreAssignsJudged}
use Rattle.ckc_blame_given.proofs.Stored.{assignment_stored, bundle_stored}
use Rattle.ckc_blame_given.proofs.Views.{node_back}
use Rattle.ckc_blame_steps.specs.ExpressionRooms.{HasPlaces}
use Rattle.ckc_blame_steps.proofs.ExpressionRooms.{nodes_all, next_most, step_far, condition_places}
use Rattle.ckc_blame_steps.proofs.Small.{few_locals}
use Rattle.ckc_blame_steps.proofs.Values.{values_are_few}
use Rattle.ckc_blame_steps.specs.Arguments.{numbers_behind}
use Rattle.ckc_blame_steps.specs.Granted.{HasRoom, HaveRoomSides, HaveRoom, HasRoomInit, HasRoomAct}
use Rattle.ckc_blame_steps.specs.Results.{returned_by_act, returned_by}
use Rattle.ckc_blame_steps.specs.Rooms.{HasRoomFrom, HaveRoomEach}
use Rattle.ckc_blame_steps.proofs.Calls.{value_is_judged}
use Rattle.ckc_blame_steps.proofs.Declarations.{InitJudged, local_made}

-- ---- expressions

module _ (frame : Frame) (at : State) where
  has_room : (value fresh : ℕ) (e : NotedExpr) → value + nodes_of e + 1 < 2 ^ 32 → fresh + nodes_of e + 1 < 2 ^ 32 → HasRoom frame at value fresh e
  has_room value fresh e v n =
      let few = fresh_are_few frame e at in
      let less : (view frame e).values ≤ nodes_of e = values_are_few frame e in
      record { values = omega (arith, v, less); variables = omega (arith, n, few) }

  -- what judging makes of an expression has the room of the expression
  judged_room : (value fresh first : ℕ) (e f : NotedExpr) → (view frame e).judged first at ≡ Ok f → HasRoom frame at value fresh e → HasRoom frame at value fresh f
  judged_room value fresh first e f is h =
      let same : view frame e ≡ view frame f = sym (same_view frame e f first at is frame) in
      record {
        values = subst (λ (v : View). value + v.values + 1 < 2 ^ 32) same h.values;
        variables = subst (λ (v : View). fresh + length (v.fresh at) < 2 ^ 32) same h.variables;
      }

-- ---- assignments

less_room : (m n k : ℕ) → n ≤ k → m + k + 1 < 2 ^ 32 → m + n + 1 < 2 ^ 32
less_room m n k less h = omega (arith, less, h)

next_room : (m n j k l : ℕ) → m ≤ n + j → j + k ≤ l → n + l + 1 < 2 ^ 32 → m + k + 1 < 2 ^ 32
next_room m n j k l most less h = omega (arith, most, less, h)

act_rolls : (st : NotedStmt) (x : ActLayer) → out-Act Name Note st.body ≡ x → roll-Act Name Note x ≡ st.body
act_rolls st x is = ap (roll-Act Name Note) (sym is) ∙ act_back st.body

module _ (s : Setting) (at : State) where
  module _ (value fresh : ℕ) (before after : NotedStmt) (a : IsAssignJudged s at fresh before after) (v : value + nodes_in before + 1 < 2 ^ 32) (n : fresh + nodes_in before + 1 < 2 ^ 32) where
    abbrev middle : ℕ
    middle = fresh_behind (view s.frame a.target) fresh at

    both_nodes : nodes_of a.target + nodes_of a.right ≤ nodes_in before
    both_nodes = assign_nodes before.pos before.note before.body a.target a.right (act_rolls before (Act-F.Assign a.target a.right) a.is)

    middle_most : middle ≤ fresh + nodes_of a.target
    middle_most = next_most fresh (length ((view s.frame a.target).fresh at)) (nodes_of a.target) (fresh_are_few s.frame a.target at)

    left_same : view s.frame a.target ≡ view s.frame a.place
    left_same = sym (same_view s.frame a.target a.place fresh at a.target_judged s.frame)

    right_same : view s.frame a.right ≡ view s.frame a.value
    right_same = sym (same_view s.frame a.right a.value middle at a.right_judged s.frame)

    left_less : nodes_of a.target ≤ nodes_in before
    left_less = omega (arith, both_nodes)

    right_less : nodes_of a.right ≤ nodes_in before
    right_less = omega (arith, both_nodes)

    zero_room : 0 + nodes_of a.target + 1 < 2 ^ 32
    zero_room = omega (arith, both_nodes, n)

    sides_room : HaveRoomSides s.frame at value fresh a.place a.value
    sides_room = record {
      left = judged_room s.frame at 0 fresh fresh a.target a.place a.target_judged
          (has_room s.frame at 0 fresh a.target zero_room (less_room fresh (nodes_of a.target) (nodes_in before) left_less n));
      right = subst (λ (w : View). HasRoom s.frame at value (fresh_behind w fresh at) a.value) left_same
          (judged_room s.frame at value middle middle a.right a.value a.right_judged
          (has_room s.frame at value middle a.right (less_room value (nodes_of a.right) (nodes_in before) right_less v)
          (next_room middle fresh (nodes_of a.target) (nodes_of a.right) (nodes_in before) middle_most both_nodes n)));
    }

    -- the numbers after both sides
    values_most : capped value (view s.frame a.right).values ≤ value + nodes_in before
    values_most =
        let less : (view s.frame a.right).values ≤ nodes_of a.right = values_are_few s.frame a.right in
        next_most value (view s.frame a.right).values (nodes_in before) (omega (arith, less, right_less))

    fresh_most : fresh_behind (view s.frame a.right) middle at ≤ fresh + nodes_in before
    fresh_most =
        let last : fresh_behind (view s.frame a.right) middle at ≤ middle + nodes_of a.right =
        next_most middle (length ((view s.frame a.right).fresh at)) (nodes_of a.right) (fresh_are_few s.frame a.right at) in
        omega (arith, last, middle_most, both_nodes)

  stores_room : (ss ts : List NotedStmt) (value fresh : ℕ) → AreAssignsJudged s at fresh ss ts → value + nodes_each ss + 1 < 2 ^ 32 → fresh + nodes_each ss + 1 < 2 ^ 32 → HaveRoom s.frame at value fresh (stores_of ts)
  unfolding AreAssignsJudged HaveRoom
  stores_room [] [] value fresh j v n = tt
  stores_room [] (y ∷ ys) value fresh j v n = absurd j
  stores_room (x ∷ xs) [] value fresh j v n = absurd j
  stores_room (x ∷ xs) (y ∷ ys) value fresh j v n =
      let a : IsAssignJudged s at fresh x y = j.0 in
      let one = less_room value (nodes_in x) (nodes_in x + nodes_each xs) (omega arith) v in
      let other = less_room fresh (nodes_in x) (nodes_in x + nodes_each xs) (omega arith) n in
      let rest = stores_room xs ys (capped value (view s.frame a.right).values) (fresh_behind (view s.frame a.right) (fresh_behind (view s.frame a.target) fresh at) at) j.1
      (next_room (capped value (view s.frame a.right).values) value (nodes_in x) (nodes_each xs) (nodes_in x + nodes_each xs) (values_most value fresh x y a one other) (omega arith) v)
      (next_room (fresh_behind (view s.frame a.right) (fresh_behind (view s.frame a.target) fresh at) at) fresh (nodes_in x) (nodes_each xs) (nodes_in x + nodes_each xs) (fresh_most value fresh x y a one other) (omega arith) n) in
      subst (λ z. HaveRoom s.frame at value fresh (with_store z y.pos (stores_of ys))) (sym a.becomes) (
        sides_room value fresh x y a one other,
        subst (λ (w : View). HaveRoom s.frame at (capped value (view s.frame a.value).values) (fresh_behind (view s.frame a.value) (fresh_behind w fresh at) at) (stores_of ys)) (left_same value fresh x y a one other)
            (subst (λ (w : View). HaveRoom s.frame at (capped value w.values) (fresh_behind w (fresh_behind (view s.frame a.target) fresh at) at) (stores_of ys)) (right_same value fresh x y a one other) rest),
      )

-- ---- a step

module _ (s : Setting) (here there : Here) (step : Code → Code) (st : IsStep s here step there) (far : here.next + nodes_in st.before + 1 < 2 ^ 32) where
  abbrev Fits : NotedExpr → Type 0
  Fits = HasRoom s.frame here.at 0 here.next

  abbrev After : ActLayer → Type 0
  After = HasRoomAct s.frame here.at here.next

  rolls : (x : ActLayer) → out-Act Name Note st.before.body ≡ x → roll-Act Name Note x ≡ st.before.body
  rolls = act_rolls st.before

  judged_as : (x : ActLayer) → out-Act Name Note st.before.body ≡ x → act_judged (viewed x) s.frame s.head st.before.pos st.before.note here ≡ Ok (st.after, st.behind)
  judged_as x is =
      ap (λ (y : ActLayer). act_judged (viewed y) s.frame s.head st.before.pos st.before.note here) (sym is) ∙ sym (judged_is st.before s.frame s.head here) ∙ st.judged

  by_layer : (x : ActLayer) → out-Act Name Note st.after.body ≡ x → After x → After (out-Act Name Note st.after.body)
  by_layer x is h = subst After (sym is) h

  -- one expression of the statement
  one_room : (e : NotedExpr) → nodes_of e ≤ nodes_in st.before → Fits e
  one_room e less =
      has_room s.frame here.at 0 here.next e (omega (arith, less, far)) (less_room here.next (nodes_of e) (nodes_in st.before) less far)

  value_room : (e f : NotedExpr) (h : Here) → nodes_of e ≤ nodes_in st.before → value_judged s.frame e here ≡ Ok (f, h) → Fits f
  value_room e f h less is = judged_room s.frame here.at 0 here.next here.next e f (value_is_judged s.frame e f here h st.counting is).0 (one_room e less)

  maybe_room : (o q : Option NotedExpr) (h : Here) → nodes_of_value o ≤ nodes_in st.before → maybe_judged s.frame o here ≡ Ok (q, h) → IfSome q Fits
  maybe_room None q h less is = subst (λ x. IfSome x Fits) (pair_same {A = Option NotedExpr} None q here h is).0 tt
  maybe_room (Some e) q h less is =
      let m = made_of (value_judged s.frame e here) (λ p. Ok (Some p.0, p.1)) (q, h) is in
      subst (λ x. IfSome x Fits) (pair_same {A = Option NotedExpr} (Some m.0.0) q m.0.1 h m.2).0 (value_room e m.0.0 m.0.1 less m.1)

  init_room : (i k : NotedInit) → how_many is_node (marks_of_init i) ≤ nodes_in st.before → InitJudged s here st.counting i k → HasRoomInit s.frame here.at here.next k
  init_room init.Nothing k less is = subst (HasRoomInit s.frame here.at here.next) (sym is) tt
  init_room (init.One e) k less is =
      subst (HasRoomInit s.frame here.at here.next) (sym is.1) (judged_room s.frame here.at 0 here.next here.next e is.0 is.2 (one_room e less))
  init_room (init.Many es) k less is = subst (HasRoomInit s.frame here.at here.next) (sym is.1) tt

  pub act_room : After (out-Act Name Note st.after.body)
  unfolding AreAssignsJudged
  act_room = by (out-Act Name Note st.before.body) refl st.simple
    where
      by : (x : ActLayer) → out-Act Name Note st.before.body ≡ x → is_simple x ≡ true → After (out-Act Name Note st.after.body)
      by (Act-F.Local d) is simple =
          let l = local_made s here st.counting st.before st.after d st.behind is st.judged in
          by_layer (Act-F.Local l.made) l.becomes (init_room d.init l.made.init (local_nodes st.before.pos st.before.note st.before.body d (rolls (Act-F.Local d) is)) l.parts.begins)
      by (Act-F.Assign e f) is simple =
          let a = (assignment_stored s here st.behind st.before st.after e f st.counting is st.judged).0.0 in
          by_layer (Act-F.Assign a.place a.value) a.becomes
          (sides_room s here.at 0 here.next st.before st.after a (omega (arith, far)) far)
      by (Act-F.Call e) is simple =
          let m = made_of (value_judged s.frame e here) (λ p. Ok (stated st.before.pos st.before.note (act.Call p.0), p.1)) (st.after, st.behind) (judged_as (Act-F.Call e) is) in
          let last = pair_same (stated st.before.pos st.before.note (act.Call m.0.0)) st.after m.0.1 st.behind m.2 in
          by_layer (Act-F.Call m.0.0) (ap (λ (x : NotedStmt). out-Act Name Note x.body) (sym last.0) ∙ out_call m.0.0)
          (value_room e m.0.0 m.0.1 (call_nodes st.before.pos st.before.note st.before.body e (rolls (Act-F.Call e) is)) m.1)
      by (Act-F.Return o) is simple =
          let m = made_of (maybe_judged s.frame o here) (λ p. unless (not (is_returned s.frame s.head p.0 here.next p.1)) not_contained st.before.pos
          (Ok (stated st.before.pos st.before.note (act.Return p.0), gone s.frame p.1))) (st.after, st.behind) (judged_as (Act-F.Return o) is) in
          let q = passes (not (is_returned s.frame s.head m.0.0 here.next m.0.1)) not_contained st.before.pos (Ok (stated st.before.pos st.before.note (act.Return m.0.0), gone s.frame m.0.1)) (st.after, st.behind) m.2 in
          let last = pair_same (stated st.before.pos st.before.note (act.Return m.0.0)) st.after (gone s.frame m.0.1) st.behind q in
          by_layer (Act-F.Return m.0.0) (ap (λ (x : NotedStmt). out-Act Name Note x.body) (sym last.0) ∙ out_return m.0.0)
          (maybe_room o m.0.0 m.0.1 (return_nodes st.before.pos st.before.note st.before.body o (rolls (Act-F.Return o) is)) m.1)
      by (Act-F.Check e) is simple =
          let m = made_of (value_judged s.frame e here) (λ p. Ok (stated st.before.pos st.before.note (act.Check p.0), record p.1 { at = side_of s.frame true p.0 p.1.at })) (st.after, st.behind)
          (judged_as (Act-F.Check e) is) in
          let last = pair_same (stated st.before.pos st.before.note (act.Check m.0.0)) st.after (record m.0.1 { at = side_of s.frame true m.0.0 m.0.1.at }) st.behind m.2 in
          by_layer (Act-F.Check m.0.0) (ap (λ (x : NotedStmt). out-Act Name Note x.body) (sym last.0) ∙ out_check m.0.0)
          (value_room e m.0.0 m.0.1 (check_nodes st.before.pos st.before.note st.before.body e (rolls (Act-F.Check e) is)) m.1)
      by (Act-F.Bundle ss) is simple =
          let b = bundle_stored s here st.behind st.before st.after ss st.counting is st.judged in
          let few = bundle_nodes st.before.pos st.before.note st.before.body ss (rolls (Act-F.Bundle ss) is) in
          by_layer (Act-F.Bundle b.0) b.1
          (stores_room s here.at ss b.0 0 here.next b.2 (omega (arith, few, far)) (less_room here.next (nodes_each ss) (nodes_in st.before) few far))
      by x is simple = absurd cc

-- ---- arguments and results

-- the arguments of a call have no more nodes than the call
each_nodes : (es : List NotedExpr) → nodes_all es ≤ tally is_node (inside_each listed (λ (ms : List Mark). ms) (map (λ (e : NotedExpr). marks_of_expr e) es))
each_nodes [] = omega arith
each_nodes (e ∷ es) =
    omega (
      arith,
      each_nodes es,
      is_tally is_node (marks_of_expr e),
      tally-append is_node (marks_of_expr e) (inside_each listed (λ (ms : List Mark). ms) (map (λ (f : NotedExpr). marks_of_expr f) es)),
    )

node_arguments : (x : NotedLayer) → nodes_all (arguments_of_node x) ≤ tally is_node (marks_of_node (roll-Node Name Note x))
node_arguments (Node-F.Call n es) =
    let same = ap (tally is_node) (fold-roll-Node Name Note (List Mark) (List Mark) (List Mark) (inside_limits listed (λ e. e)) node_marks expr_marks (Node-F.Call n es)) in
    omega (arith, same, each_nodes es)
node_arguments x = omega arith

expr_arguments : (e : NotedExpr) → nodes_all (arguments_of_expr e) ≤ nodes_of e
expr_arguments e =
    let same = ap (tally is_node) (fold-roll-Expr Name Note (List Mark) (List Mark) (List Mark) (inside_limits listed (λ e. e)) node_marks expr_marks (record { node = e.node; pos = e.pos; note = e.note })) in
    let back = ap (λ (n : NotedNode). tally is_node (marks_of_node n)) (node_back e.node) in
    omega (arith, same, back, node_arguments (out-Node Name Note e.node), is_tally is_node (marks_of_expr e))

init_arguments : (i : NotedInit) → nodes_all (arguments_of_init i) ≤ how_many is_node (marks_of_init i)
init_arguments (init.One e) = expr_arguments e
init_arguments init.Nothing = omega arith
init_arguments (init.Many es) = omega arith

both_less : (a b c : ℕ) → a ≤ b → b ≤ c → a ≤ c
both_less a b c h g = omega (arith, h, g)

arguments_nodes : (st : NotedStmt) → nodes_all (arguments_of st) ≤ nodes_in st
arguments_nodes st = by (out-Act Name Note st.body) refl
  where
    by : (x : ActLayer) → out-Act Name Note st.body ≡ x → nodes_all (arguments_of_act x) ≤ nodes_in st
    by (Act-F.Local d) is = both_less _ _ _ (init_arguments d.init) (local_nodes st.pos st.note st.body d (act_rolls st (Act-F.Local d) is))
    by (Act-F.Assign e f) is =
        let both = assign_nodes st.pos st.note st.body e f (act_rolls st (Act-F.Assign e f) is) in
        omega (arith, both, expr_arguments f)
    by (Act-F.Call e) is = both_less _ _ _ (expr_arguments e) (call_nodes st.pos st.note st.body e (act_rolls st (Act-F.Call e) is))
    by x is = omega arith

returned_nodes : (st : NotedStmt) → nodes_of_value (returned_by st) ≤ nodes_in st
returned_nodes st = by (out-Act Name Note st.body) refl
  where
    by : (x : ActLayer) → out-Act Name Note st.body ≡ x → nodes_of_value (returned_by_act x) ≤ nodes_in st
    by (Act-F.Return o) is = return_nodes st.pos st.note st.body o (act_rolls st (Act-F.Return o) is)
    by x is = omega arith

module _ (s : Setting) (here : Here) where
  later_fresh : (n k m : ℕ) → n + m + 1 < 2 ^ 32 → AreFresh s.frame n → AreFresh s.frame (capped n k)
  later_fresh n k m few h j l above = h j l (least above)
    where
      least : capped n k ≤ j → n ≤ j
      least q = grind (arith, q, few)

  each_room : (es : List NotedExpr) (from : Numbered) → from.value + nodes_all es + 1 < 2 ^ 32 → from.fresh + nodes_all es + 1 < 2 ^ 32 → AreFresh s.frame from.fresh → HaveRoomEach s here from es
  unfolding HaveRoomEach
  each_room [] from v n are = tt
  each_room (e ∷ es) from v n are =
      let less : (view s.frame e).values ≤ nodes_of e = values_are_few s.frame e in (
        record {
          room = has_room s.frame here.at from.value from.fresh e
              (less_room from.value (nodes_of e) (nodes_of e + nodes_all es) (omega arith) v) (less_room from.fresh (nodes_of e) (nodes_of e + nodes_all es) (omega arith) n);
          fresh = are;
        },
        each_room es (numbers_behind s here.at e from)
            (next_room (capped from.value (view s.frame e).values) from.value (nodes_of e) (nodes_all es) (nodes_of e + nodes_all es) (next_most from.value (view s.frame e).values (nodes_of e) less) (omega arith) v)
            (next_room (capped from.fresh (length ((view s.frame e).fresh here.at))) from.fresh (nodes_of e) (nodes_all es) (nodes_of e + nodes_all es)
            (next_most from.fresh (length ((view s.frame e).fresh here.at)) (nodes_of e) (fresh_are_few s.frame e here.at)) (omega arith) n)
            (later_fresh from.fresh (length ((view s.frame e).fresh here.at)) (nodes_of e + nodes_all es) n are),
      )

-- ---- a text

pub steps_have_places : (p : Typed) (s : Setting) (f : Function) (j : IsJudged p) → Small j.named.tree → IsFunction p s f → (here there : Here) (step : Code → Code) (st : IsStep s here step there)
    → HasRoomAct s.frame here.at here.next (out-Act Name Note st.after.body)
steps_have_places p s f j small is here there step st = act_room s here there step st (step_far p s f j small is here there step st)

pub conditions_have_places : (p : Typed) (s : Setting) (f : Function) (j : IsJudged p) → Small j.named.tree → IsFunction p s f → (mode : Mode) (here yes no : Here) (e : Expr) (c : IsCondition s mode here e yes no)
    → IfSome c.before (λ g. here.next + length ((view s.frame g).fresh here.at) < 2 ^ 32)
conditions_have_places p s f j small is mode here one other e c = by c.before (condition_places p s f j small is mode here one other e c)
  where
    by : (o : Option NotedExpr) → IfSome o (HasPlaces s.frame here.at here.next) → IfSome o (λ g. here.next + length ((view s.frame g).fresh here.at) < 2 ^ 32)
    by None h = tt
    by (Some g) h = h.fresh

abbrev first_of : Here → Numbered
first_of here = record { value = 0; fresh = here.next }

module _ (p : Typed) (s : Setting) (f : Function) (j : IsJudged p) (small : Small j.named.tree) (is : IsFunction p s f) (here there : Here) (step : Code → Code) (st : IsStep s here step there) where
  far_there : here.next + nodes_in st.before + 1 < 2 ^ 32
  far_there = step_far p s f j small is here there step st

  fresh_there : AreFresh s.frame here.next
  fresh_there = (has_fresh p s f is here.next st.fresh (omega (arith, few_locals p s f j small is))).0

  pub arguments_have_room : HaveRoomEach s here (first_of here) (arguments_of st.before)
  arguments_have_room =
      each_room s here (arguments_of st.before) (first_of here) (omega (arith, arguments_nodes st.before, far_there))
      (less_room here.next (nodes_all (arguments_of st.before)) (nodes_in st.before) (arguments_nodes st.before) far_there) fresh_there

  pub returned_has_room : IfSome (returned_by st.before) (HasRoomFrom s here (first_of here))
  returned_has_room = by (returned_by st.before) (returned_nodes st.before)
    where
      by : (o : Option NotedExpr) → nodes_of_value o ≤ nodes_in st.before → IfSome o (HasRoomFrom s here (first_of here))
      by None less = tt
      by (Some e) less = record { room = one_room s here there step st far_there e less; fresh = fresh_there }
