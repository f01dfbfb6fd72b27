-- There is room for the values and the fresh variables of the expressions of each step.
use Rattle.std.proofs.Common.{◌≡◌, ◌⊎◌, inl, inr, rules, ◌∙◌, sym, ap, subst, arith, ℕ, ◌+◌, ◌<◌, ◌≤◌, List, [], ◌∷◌, ◌++◌, map, length}
use Rattle.std.specs.Prelude.{◌^◌, Option, None, Some, IfSome}
use Rattle.std.proofs.lemmas.List.Elements.{All-from_recursion}
use Rattle.ckc_base.specs.declared.arithmetic.Mode.{Mode}
use Rattle.ckc_syntax.specs.declared.tree.Name.{Name}
use Rattle.ckc_syntax.specs.declared.tree.Init.TheVariants as init
use Rattle.ckc_syntax.specs.declared.tree.Item.TheVariants as item
use Rattle.ckc_syntax.specs.declared.tree.Act.{Act-F, map-Act, out-Act, roll-Act, fold-Act, fold-roll-Act, the_lemmas}
use Rattle.ckc_syntax.specs.declared.tree.Stmt.{Stmt-F, map-Stmt, ind-Stmt, roll-Stmt, fold-roll-Stmt}
use Rattle.ckc_syntax.specs.Inside.{listed, inside_each, inside_if, inside_init}
use Rattle.ckc_syntax_limits.specs.Marks.{Mark, is_node, act_marks, stmt_marks, marks_of_act, marks_of_stmt, marks_of_expr, marks_of_init, marks_of_bounds, marks_of_head, marks_of_item}
use Rattle.ckc_syntax_limits.specs.Small.{Small, SmallItem}
use Rattle.ckc_typed.specs.declared.typed.Note.{Note}
use Rattle.ckc_typed.specs.declared.typed.Typed.{Typed}
use Rattle.ckc_typed.specs.Trees.{Item, NotedAct, NotedExpr, NotedInit, NotedStmt}
use Rattle.ckc_typed_welltyped.specs.Noteless.{bare_head, bare_item, bare_stmt}
use Rattle.ckc_typed_welltyped.proofs.MarksKept as kept
use Rattle.ckc_blame_sound.specs.ckc_bounds_points.specs.declared.frame.Frame.{Frame}
use Rattle.ckc_blame_sound.specs.ckc_bounds_points.specs.Flow.{State}
use Rattle.ckc_blame_sound.specs.ckc_bounds_statements.specs.Paths.{Here}
use Rattle.ckc_blame_sound.specs.ckc_bounds_stores.specs.Stores.{Store, with_store, stores_of}
use Rattle.ckc_blame_sound.specs.ckc_bounds_views.specs.Parts.{capped, fresh_behind}
use Rattle.ckc_blame_sound.specs.ckc_bounds_views.specs.Views.{view}
use Rattle.ckc_source.specs.Code.{Code, Expr, Function}
use Rattle.ckc_blame_sound.specs.Settings.{Setting, IsFunction, setting_of}
use Rattle.ckc_blame_sound.specs.Words.{exprs_of_act, exprs_of_stmt, exprs_in}
use Rattle.ckc_blame_sound.specs.Few.{nodes_of, nodes_of_value, nodes_in, AreFew, HasRoom}
use Rattle.ckc_blame_sound.specs.Steps.{IsStep, IsCondition}
use Rattle.ckc_blame_sound.proofs.Tallies.{tally, is_tally, tally-append}
use Rattle.ckc_blame_sound.specs.JudgedTexts.{IsJudged}
use Rattle.ckc_blame_sound.proofs.Functions.{item_is}
use Rattle.ckc_blame_walk.proofs.Fresh.{fresh_are_few}
use Rattle.ckc_blame_walk.proofs.Rooms.{nodes_each, assign_nodes, bundle_nodes}
use Rattle.ckc_blame_steps.specs.ExpressionRooms.{HasPlaces, HavePlaces, HaveSides}
use Rattle.ckc_blame_steps.proofs.Few.{each_has_few}
use Rattle.ckc_blame_steps.proofs.Small.{few_locals}

-- ---- a statement has the nodes of the expressions in it

abbrev pub nodes_all : List NotedExpr → ℕ
nodes_all [] = 0
nodes_all (e ∷ es) = nodes_of e + nodes_all es

all_both : (es fs : List NotedExpr) → nodes_all (es ++ fs) ≡ nodes_all es + nodes_all fs
all_both [] fs = omega arith
all_both (e ∷ es) fs = omega (arith, all_both es fs)

-- expressions have no more nodes than are among marks
record IsFew (es : List NotedExpr) (ms : List Mark) : Type 0 where
  pub few : nodes_all es ≤ tally is_node ms

none : (ms : List Mark) → IsFew [] ms
none ms = record { few = omega arith }

both : (es fs : List NotedExpr) (ms ns : List Mark) → IsFew es ms → IsFew fs ns → IsFew (es ++ fs) (ms ++ ns)
both es fs ms ns h g =
    let a = h.few in
    let b = g.few in
    record { few = omega (arith, all_both es fs, tally-append is_node ms ns, a, b) }

one : (e : NotedExpr) → IsFew (e ∷ []) (marks_of_expr e)
one e = record { few = omega (arith, is_tally is_node (marks_of_expr e)) }

-- the step of a `for` after its body
turned : (ones bs cs ds : List NotedExpr) (ms : List Mark) → IsFew (((ones ++ bs) ++ cs) ++ ds) ms → IsFew (ones ++ (bs ++ (ds ++ cs))) ms
turned ones bs cs ds ms h =
    let p = h.few in
    record {
      few = omega (
        arith,
        p,
        all_both ((ones ++ bs) ++ cs) ds,
        all_both (ones ++ bs) cs,
        all_both ones bs,
        all_both ones (bs ++ (ds ++ cs)),
        all_both bs (ds ++ cs),
        all_both ds cs,
      );
    }

abbrev ActFew : NotedAct → Type 0
ActFew a = IsFew (fold-Act Name Note (List NotedExpr) (List NotedExpr) exprs_of_act exprs_of_stmt a) (marks_of_act a)

abbrev StmtFew : NotedStmt → Type 0
StmtFew st = IsFew (exprs_in st) (marks_of_stmt st)

abbrev KeptAct : Type 0
KeptAct = (a : NotedAct) × ActFew a

abbrev KeptStmt : Type 0
KeptStmt = (st : NotedStmt) × StmtFew st

abbrev Layer : Type 0
Layer = Act-F Name Note NotedAct NotedStmt

abbrev inner_act : Act-F Name Note KeptAct KeptStmt → Layer
inner_act = map-Act Name Note KeptAct KeptStmt NotedAct NotedStmt (λ e. e.0) (λ e. e.0)

abbrev inner_stmt : Stmt-F Name Note KeptAct KeptStmt → Stmt-F Name Note NotedAct NotedStmt
inner_stmt = map-Stmt Name Note KeptAct KeptStmt NotedAct NotedStmt (λ e. e.0) (λ e. e.0)

abbrev exprs_inside : Layer → Act-F Name Note (List NotedExpr) (List NotedExpr)
exprs_inside = map-Act Name Note NotedAct NotedStmt (List NotedExpr) (List NotedExpr) (fold-Act Name Note (List NotedExpr) (List NotedExpr) exprs_of_act exprs_of_stmt) exprs_in

abbrev marks_inside : Layer → Act-F Name Note (List Mark) (List Mark)
marks_inside = map-Act Name Note NotedAct NotedStmt (List Mark) (List Mark) marks_of_act marks_of_stmt

each : (ks : List KeptStmt) → IsFew (inside_each listed (λ (es : List NotedExpr). es) (map (λ (s : NotedStmt). exprs_in s) (map (λ (k : KeptStmt). k.0) ks))) (inside_each listed (λ (ms : List Mark). ms) (map (λ (s : NotedStmt). marks_of_stmt s) (map (λ (k : KeptStmt). k.0) ks)))
each [] = none []
each (k ∷ ks) = both (exprs_in k.0) _ (marks_of_stmt k.0) _ k.1 (each ks)

maybe : (e : Option NotedExpr) → IsFew (inside_if listed (λ (f : NotedExpr). f ∷ []) e) (inside_if listed (λ (f : NotedExpr). marks_of_expr f) e)
maybe None = none []
maybe (Some e) = one e

all : (es : List NotedExpr) → IsFew (inside_each listed (λ (f : NotedExpr). f ∷ []) es) (inside_each listed (λ (f : NotedExpr). marks_of_expr f) es)
all [] = none []
all (e ∷ es) = both (e ∷ []) _ (marks_of_expr e) _ (one e) (all es)

begun : (i : NotedInit) → IsFew (inside_init listed (λ (f : NotedExpr). f ∷ []) i) (marks_of_init i)
begun init.Nothing = none []
begun (init.One e) = one e
begun (init.Many es) = all es

in_for : (e : Option NotedExpr) (ones : List NotedExpr) (ms : List Mark) (bs : List NotedExpr) (ns : List Mark) (cs : List NotedExpr) (ls : List Mark) → IsFew ones ms → IsFew bs ns → IsFew cs ls
    → IsFew (ones ++ (inside_if listed (λ (f : NotedExpr). f ∷ []) e ++ (cs ++ bs))) (((ms ++ inside_if listed (λ (f : NotedExpr). marks_of_expr f) e) ++ ns) ++ ls)
in_for e ones ms bs ns cs ls f g h =
    let es = inside_if listed (λ (f : NotedExpr). f ∷ []) e in
    let os = inside_if listed (λ (f : NotedExpr). marks_of_expr f) e in
    turned ones es bs cs (((ms ++ os) ++ ns) ++ ls)
    (both ((ones ++ es) ++ bs) cs ((ms ++ os) ++ ns) ls (both (ones ++ es) bs (ms ++ os) ns (both ones es ms os f (maybe e)) g) h)

act_step : (y : Act-F Name Note KeptAct KeptStmt) → IsFew (exprs_of_act (exprs_inside (inner_act y))) (act_marks (marks_inside (inner_act y)))
act_step (Act-F.Block m ks) = each ks
act_step Act-F.Empty = none []
act_step (Act-F.Local d) =
    let b = (begun d.init).few in
    record { few = omega (arith, b, tally-append is_node (marks_of_bounds d.bounds) (marks_of_init d.init)) }
act_step (Act-F.Assign e f) = both (e ∷ []) (f ∷ []) (marks_of_expr e) (marks_of_expr f) (one e) (one f)
act_step (Act-F.Call e) = one e
act_step (Act-F.If e k None) = both (e ∷ exprs_in k.0) [] (marks_of_expr e ++ marks_of_stmt k.0) [] (both (e ∷ []) (exprs_in k.0) (marks_of_expr e) (marks_of_stmt k.0) (one e) k.1) (none [])
act_step (Act-F.If e k (Some j)) =
    both (e ∷ exprs_in k.0) (exprs_in j.0) (marks_of_expr e ++ marks_of_stmt k.0) (marks_of_stmt j.0)
    (both (e ∷ []) (exprs_in k.0) (marks_of_expr e) (marks_of_stmt k.0) (one e) k.1) j.1
act_step (Act-F.While e k) = both (e ∷ []) (exprs_in k.0) (marks_of_expr e) (marks_of_stmt k.0) (one e) k.1
act_step (Act-F.For None e None k) = in_for e [] [] [] [] (exprs_in k.0) (marks_of_stmt k.0) (none []) (none []) k.1
act_step (Act-F.For None e (Some j) k) = in_for e [] [] (exprs_in j.0) (marks_of_stmt j.0) (exprs_in k.0) (marks_of_stmt k.0) (none []) j.1 k.1
act_step (Act-F.For (Some l) e None k) = in_for e (exprs_in l.0) (marks_of_stmt l.0) [] [] (exprs_in k.0) (marks_of_stmt k.0) l.1 (none []) k.1
act_step (Act-F.For (Some l) e (Some j) k) = in_for e (exprs_in l.0) (marks_of_stmt l.0) (exprs_in j.0) (marks_of_stmt j.0) (exprs_in k.0) (marks_of_stmt k.0) l.1 j.1 k.1
act_step (Act-F.Return e) = maybe e
act_step Act-F.Break = none []
act_step Act-F.Continue = none []
act_step (Act-F.Check e) = one e
act_step (Act-F.Bundle ks) = each ks

act_by : (x : Layer) (y : Act-F Name Note KeptAct KeptStmt) → inner_act y ≡ x → ActFew (roll-Act Name Note x)
act_by x y is =
    subst (λ es. IsFew es (marks_of_act (roll-Act Name Note x))) (sym (fold-roll-Act Name Note (List NotedExpr) (List NotedExpr) exprs_of_act exprs_of_stmt x))
    (subst (IsFew (exprs_of_act (exprs_inside x))) (sym (fold-roll-Act Name Note (List Mark) (List Mark) act_marks stmt_marks x))
    (subst (λ z. IsFew (exprs_of_act (exprs_inside z)) (act_marks (marks_inside z))) is (act_step y)))

stmt_is : (st : NotedStmt) → ActFew st.body → StmtFew st
stmt_is st h =
    let S : Stmt-F Name Note NotedAct NotedStmt = record { body = st.body; pos = st.pos; note = st.note } in
    subst (λ es. IsFew es (marks_of_stmt st)) (sym (fold-roll-Stmt Name Note (List NotedExpr) (List NotedExpr) exprs_of_act exprs_of_stmt S))
    (subst (IsFew (fold-Act Name Note (List NotedExpr) (List NotedExpr) exprs_of_act exprs_of_stmt st.body)) (sym (fold-roll-Stmt Name Note (List Mark) (List Mark) act_marks stmt_marks S)) (record { few = (let b = h.few in omega (arith, b)) }))

stmt_by : (x : Stmt-F Name Note NotedAct NotedStmt) (y : Stmt-F Name Note KeptAct KeptStmt) → inner_stmt y ≡ x → StmtFew (roll-Stmt Name Note x)
stmt_by x y is = subst (λ z. StmtFew (roll-Stmt Name Note z)) is (stmt_is (roll-Stmt Name Note (inner_stmt y)) y.body.1)

stmt_few : (st : NotedStmt) → StmtFew st
stmt_few = ind-Stmt Name Note ActFew StmtFew act_by stmt_by

-- ---- assignments have the nodes of their sides

abbrev stores_nodes : List Store → ℕ
stores_nodes [] = 0
stores_nodes (q ∷ qs) = nodes_of q.target + nodes_of q.right + stores_nodes qs

act_back : (a : NotedAct) → roll-Act Name Note (out-Act Name Note a) ≡ a
act_back a = search (rules, the_lemmas)

stores_few : (ss : List NotedStmt) → stores_nodes (stores_of ss) ≤ nodes_each ss
stores_few [] = omega arith
stores_few (st ∷ ss) = by (stores_few ss) (out-Act Name Note st.body) (act_back st.body)
  where
    by : stores_nodes (stores_of ss) ≤ nodes_each ss → (x : Layer) → roll-Act Name Note x ≡ st.body → stores_nodes (with_store x st.pos (stores_of ss)) ≤ nodes_in st + nodes_each ss
    by rest (Act-F.Assign e f) rolls = omega (arith, rest, assign_nodes st.pos st.note st.body e f rolls)
    by rest x rolls = omega (arith, rest)

-- those of one statement, and of a bundle, are among those of the whole
sides_few : (st : NotedStmt) (ss : List NotedStmt) → (ss ≡ st ∷ []) ⊎ (out-Act Name Note st.body ≡ Act-F.Bundle ss) → stores_nodes (stores_of ss) ≤ nodes_in st
sides_few st ss (inl e) =
    let all : nodes_each ss ≡ nodes_each (st ∷ []) = ap nodes_each e in
    omega (arith, stores_few ss, all)
sides_few st ss (inr e) =
    let rolls : roll-Act Name Note (Act-F.Bundle ss) ≡ st.body = sym (ap (roll-Act Name Note) e) ∙ act_back st.body in
    omega (arith, stores_few ss, bundle_nodes st.pos st.note st.body ss rolls)

-- ---- a text has few

pub texts_are_few : (p : Typed) (j : IsJudged p) → Small j.named.tree → AreFew p
texts_are_few p j small h body c =
    let limits : SmallItem (bare_item (item.Function h body)) = item_is p j (λ (i : Item). SmallItem i) (All-from_recursion (λ (i : Item). SmallItem i) j.named.tree.items small.each) (item.Function h body) c in
    let limit = limits.body.nodes in
    let same = ap (tally is_node) (kept.of_stmt body) in
    omega (
      arith,
      limit,
      same,
      is_tally is_node (marks_of_item (bare_item (item.Function h body))),
      tally-append is_node (marks_of_head (bare_head h)) (marks_of_stmt (bare_stmt body)),
      is_tally is_node (marks_of_stmt body),
    )

-- ---- room

pub next_most : (first n k : ℕ) → n ≤ k → capped first n ≤ first + k
next_most first n k h = grind (arith, h)

module _ (frame : Frame) (at : State) where
  has_places : (first : ℕ) (e : NotedExpr) → first + nodes_of e + 1 < 2 ^ 32 → HasPlaces frame at first e
  has_places first e h =
      let few = fresh_are_few frame e at in
      record { values = each_has_few frame e (omega (arith, h)); fresh = omega (arith, h, few) }

  have_sides : (qs : List Store) (first : ℕ) → first + stores_nodes qs + 1 < 2 ^ 32 → HaveSides frame at first qs
  have_sides [] first h = tt
  have_sides (q ∷ qs) first h =
      let one : ℕ = fresh_behind (view frame q.target) first at in
      let other : ℕ = fresh_behind (view frame q.right) one at in
      let a : one ≤ first + nodes_of q.target = next_most first (length ((view frame q.target).fresh at)) (nodes_of q.target) (fresh_are_few frame q.target at) in
      let b : other ≤ one + nodes_of q.right = next_most one (length ((view frame q.right).fresh at)) (nodes_of q.right) (fresh_are_few frame q.right at) in (
        has_places first q.target (omega (arith, h)),
        has_places one q.right (second one a),
        have_sides qs other (third one other a b),
      )
    where
      second : (n : ℕ) → n ≤ first + nodes_of q.target → n + nodes_of q.right + 1 < 2 ^ 32
      second n p = omega (arith, h, p)

      third : (n k : ℕ) → n ≤ first + nodes_of q.target → k ≤ n + nodes_of q.right → k + stores_nodes qs + 1 < 2 ^ 32
      third n k p r = omega (arith, h, p, r)

  have_places : (es : List NotedExpr) (first : ℕ) → first + nodes_all es + 1 < 2 ^ 32 → HavePlaces frame at first es
  have_places [] first h = tt
  have_places (e ∷ es) first h = (
    has_places first e (omega (arith, h)),
    have_places es (fresh_behind (view frame e) first at) (less (capped first (length ((view frame e).fresh at))) (next_most first (length ((view frame e).fresh at)) (nodes_of e) (fresh_are_few frame e at))),
  )
    where
      less : (n : ℕ) → n ≤ first + nodes_of e → n + nodes_all es + 1 < 2 ^ 32
      less n p = omega (arith, h, p)

module _ (p : Typed) (s : Setting) (f : Function) (j : IsJudged p) (small : Small j.named.tree) (is : IsFunction p s f) where
  text_few : AreFew s.text
  unfolding setting_of
  text_few = subst AreFew (sym (ap (λ (x : Setting). x.text) is.judged)) (texts_are_few p j small)

  far : (next n : ℕ) → HasRoom s next n → next + n + 1 < 2 ^ 32
  far next n room =
      let r = room text_few in
      let v = few_locals p s f j small is in
      omega (arith, r, v)

  -- there is room for as many fresh variables as a step has nodes, and one more
  pub step_far : (here there : Here) (step : Code → Code) (st : IsStep s here step there) → here.next + nodes_in st.before + 1 < 2 ^ 32
  step_far here there step st = far here.next (nodes_in st.before) st.room

  pub step_places : (here there : Here) (step : Code → Code) (st : IsStep s here step there) → HavePlaces s.frame here.at here.next (exprs_in st.before)
  step_places here there step st =
      let nodes = (stmt_few st.before).few in
      have_places s.frame here.at (exprs_in st.before) here.next
      (most (nodes_all (exprs_in st.before)) (nodes_in st.before) (omega (arith, nodes, is_tally is_node (marks_of_stmt st.before))) (step_far here there step st))
    where
      most : (m n : ℕ) → m ≤ n → here.next + n + 1 < 2 ^ 32 → here.next + m + 1 < 2 ^ 32
      most m n p q = omega (arith, p, q)

  pub step_sides : (here there : Here) (step : Code → Code) (st : IsStep s here step there) (ss : List NotedStmt) → (ss ≡ st.before ∷ []) ⊎ (out-Act Name Note st.before.body ≡ Act-F.Bundle ss)
      → HaveSides s.frame here.at here.next (stores_of ss)
  step_sides here there step st ss these =
      have_sides s.frame here.at (stores_of ss) here.next (most (stores_nodes (stores_of ss)) (nodes_in st.before) (sides_few st.before ss these) (step_far here there step st))
    where
      most : (m n : ℕ) → m ≤ n → here.next + n + 1 < 2 ^ 32 → here.next + m + 1 < 2 ^ 32
      most m n p q = omega (arith, p, q)

  pub condition_places : (mode : Mode) (here yes no : Here) (e : Expr) (c : IsCondition s mode here e yes no) → IfSome c.before (HasPlaces s.frame here.at here.next)
  condition_places mode here one other e c = by c.before (far here.next (nodes_of_value c.before) c.room)
    where
      by : (o : Option NotedExpr) → here.next + nodes_of_value o + 1 < 2 ^ 32 → IfSome o (HasPlaces s.frame here.at here.next)
      by None h = tt
      by (Some e) h = has_places s.frame here.at here.next e h
