-- The bounds phase keeps the marks of statements.
use Rattle.std.proofs.Common.{◌≡◌, ◌∙◌, sym, ap, subst, refl, List, [], ◌∷◌, ◌++◌, map, Bool, true, false}
use Rattle.std.specs.Prelude.{if◌then◌else◌, Ok, Err, Option, Some, None, not}
use Rattle.std.specs.List.{flat_map}
use Rattle.ckc_base.specs.Lists.{concatenation}
use Rattle.ckc_base.specs.declared.places.Pos.{Pos}
use Rattle.ckc_base.specs.Outcomes.{Outcome, bind}
use Rattle.ckc_syntax.specs.declared.tree.Name.{Name}
use Rattle.ckc_syntax.specs.declared.tree.Init.TheVariants as init
use Rattle.ckc_syntax.specs.declared.tree.Act.{Act-F, map-Act, roll-Act, fold-roll-Act}
use Rattle.ckc_syntax.specs.declared.tree.Act.TheVariants as act
use Rattle.ckc_syntax.specs.declared.tree.Stmt.{Stmt-F, map-Stmt, ind-Stmt, roll-Stmt, fold-roll-Stmt}
use Rattle.ckc_syntax_limits.specs.Marks.{Mark, node as mark, local, marks_of_expr, marks_of_bounds, marks_of_init, marks_of_decl, marks_of_value, act_marks, stmt_marks, marks_of_act, marks_of_stmt}
use Rattle.ckc_typed.specs.declared.typed.Note.{Note}
use Rattle.ckc_typed.specs.Trees.{NotedAct, NotedStmt, NotedExpr, NotedDecl, NotedInit}
use Rattle.ckc_bounds.specs.ckc_bounds_points.specs.declared.frame.HeadBounds.{HeadBounds}
use Rattle.ckc_bounds.specs.ckc_bounds_points.specs.declared.frame.Frame.{Frame}
use Rattle.ckc_bounds.specs.ckc_bounds_points.specs.Codes.{bad_bundle, not_contained}
use Rattle.ckc_bounds.specs.ckc_bounds_views.specs.Views.{view}
use Rattle.ckc_bounds.specs.ckc_bounds_statements.specs.Paths.{Here, is_good, expr_judged, value_judged, bounds_judged, values_judged, maybe_judged, init_judged, starts_within, declared_here, decl_judged, stated, sides_judged, behind_stores, is_returned, gone, Branch, Start, branched, for_started, Path, ActPath, all_judged, parts_judged, bundle_judged, part_judged, act_path, stmt_path, path_of_act, path}
use Rattle.ckc_build_sizes.proofs.KeptExprs.{Keeps, bound, kept, both, expr_kept}

abbrev Marks : Type 0
Marks = List Mark

-- the marks of a part, beside what it leaves
abbrev pub expr_first : NotedExpr × Here → Marks
expr_first p = marks_of_expr p.0

abbrev pub value_first : Option NotedExpr × Here → Marks
value_first p = marks_of_value p.0

abbrev pub init_first : NotedInit × Here → Marks
init_first p = marks_of_init p.0

abbrev pub decl_first : NotedDecl × Here → Marks
decl_first p = marks_of_decl p.0

abbrev pub stmt_first : NotedStmt × Here → Marks
stmt_first p = marks_of_stmt p.0

abbrev stmts_first : List NotedStmt × Here → Marks
stmts_first p = concatenation (map marks_of_stmt p.0)

abbrev parts_of : Option NotedStmt → Marks
parts_of None = []
parts_of (Some s) = marks_of_stmt s

abbrev part_first : Option NotedStmt × Here → Marks
part_first p = parts_of p.0

abbrev branch_first : Branch × Here → Marks
branch_first p = marks_of_expr p.0.condition

abbrev start_first : Start × Here → Marks
start_first p = marks_of_value p.0.condition

-- anything
abbrev pub none : {A : Type 0} → A → Marks
none a = []

pub any : {A : Type 0} (o : Outcome A) → Keeps none [] o
any (Ok a) = refl
any (Err r) = tt

chosen : (b : Bool) (e : NotedExpr) (o : Outcome NotedExpr) → Keeps marks_of_expr (marks_of_expr e) o → Keeps marks_of_expr (marks_of_expr e) (if b then Ok e else o)
chosen true e o h = refl
chosen false e o h = h

judged_kept : (frame : Frame) (e : NotedExpr) (h : Here) → Keeps marks_of_expr (marks_of_expr e) (expr_judged frame e h)
judged_kept frame e h = chosen h.counting e ((view frame e).judged h.next h.at) ((expr_kept frame e).judged h.next h.at)

pub value_kept : (frame : Frame) (e : NotedExpr) (h : Here) → Keeps expr_first (marks_of_expr e) (value_judged frame e h)
unfolding value_judged
value_kept frame e h = bound marks_of_expr (marks_of_expr e) _ _ _ _ (judged_kept frame e h) (λ f g. g)

maybe_kept : (frame : Frame) (e : Option NotedExpr) (h : Here) → Keeps value_first (marks_of_value e) (maybe_judged frame e h)
maybe_kept frame None h = refl
maybe_kept frame (Some e) h = bound expr_first (marks_of_expr e) _ _ _ _ (value_kept frame e h) (λ p g. g)

values_kept : (frame : Frame) (es : List NotedExpr) (h : Here) → Keeps (λ (p : List NotedExpr × Here). flat_map marks_of_expr p.0) (flat_map marks_of_expr es) (values_judged frame es h)
values_kept frame [] h = refl
values_kept frame (e ∷ es) h =
    bound expr_first (marks_of_expr e) _ _ _ _ (value_kept frame e h) (λ p g.
    bound (λ (q : List NotedExpr × Here). flat_map marks_of_expr q.0) (flat_map marks_of_expr es) _ _ _ _ (values_kept frame es p.1) (λ q f. both g f))

pub init_kept : (frame : Frame) (i : NotedInit) (h : Here) → Keeps init_first (marks_of_init i) (init_judged frame i h)
init_kept frame init.Nothing h = refl
init_kept frame (init.One e) h = bound expr_first (marks_of_expr e) _ _ _ _ (value_kept frame e h) (λ p g. g)
init_kept frame (init.Many es) h = bound (λ (p : List NotedExpr × Here). flat_map marks_of_expr p.0) (flat_map marks_of_expr es) _ _ _ _ (values_kept frame es h) (λ p g. g)

pub decl_kept : (d : NotedDecl) (i : NotedInit) → marks_of_init i ≡ marks_of_init d.init → marks_of_decl (record d { init = i }) ≡ marks_of_decl d
decl_kept d i h = ap (λ ms. mark ∷ marks_of_bounds d.bounds ++ ms) h

local_kept : (frame : Frame) (d : NotedDecl) (h : Here) → Keeps decl_first (marks_of_decl d) (decl_judged frame d h)
local_kept frame d h =
    bound none [] _ _ _ _ (any (bounds_judged frame d h)) (λ b z. bound init_first (marks_of_init d.init) _ _ _ _ (init_kept frame d.init h) (λ p g.
    kept decl_first (marks_of_decl d) (not (starts_within frame d.name p.0 h.next p.1)) not_contained d.pos (Ok (record d { init = p.0 }, declared_here frame d p.0 p.1)) (decl_kept d p.0 g)))

act_is : (x : Act-F Name Note NotedAct NotedStmt) → marks_of_act (roll-Act Name Note x) ≡ act_marks (map-Act Name Note NotedAct NotedStmt Marks Marks marks_of_act marks_of_stmt x)
act_is = fold-roll-Act Name Note Marks Marks act_marks stmt_marks

-- a statement that does so much
stated_is : {a : NotedAct} (at : Pos) (note : Note) (x : Act-F Name Note NotedAct NotedStmt) → roll-Act Name Note x ≡ a → (ms : Marks)
    → act_marks (map-Act Name Note NotedAct NotedStmt Marks Marks marks_of_act marks_of_stmt x) ≡ ms → marks_of_stmt (stated at note a) ≡ mark ∷ ms
stated_is {a} at note x made ms h =
    fold-roll-Stmt Name Note Marks Marks act_marks stmt_marks (record { body = a; pos = at; note = note })
    ∙ ap (λ z. mark ∷ z) (ap marks_of_act (sym made) ∙ act_is x ∙ h)

no_marks : (ms : Marks) → ms ≡ ms
no_marks ms = refl

abbrev counted : Act-F Name Note NotedAct NotedStmt → Marks
counted x = act_marks (map-Act Name Note NotedAct NotedStmt Marks Marks marks_of_act marks_of_stmt x)

if_is : (e : NotedExpr) (s : NotedStmt) (t : Option NotedStmt) → counted (Act-F.If e s t) ≡ marks_of_expr e ++ marks_of_stmt s ++ parts_of t
if_is e s None = refl
if_is e s (Some t) = refl

for_is : (s : Option NotedStmt) (e : Option NotedExpr) (t : Option NotedStmt) (body : NotedStmt)
    → counted (Act-F.For s e t body) ≡ parts_of s ++ marks_of_value e ++ parts_of t ++ marks_of_stmt body
for_is None e None body = refl
for_is None e (Some t) body = refl
for_is (Some s) e None body = refl
for_is (Some s) e (Some t) body = refl

sides_kept : (frame : Frame) (at : Pos) (note : Note) (e f : NotedExpr) (h : Here) → Keeps stmt_first (mark ∷ marks_of_expr e ++ marks_of_expr f) (sides_judged frame at note e f h)
sides_kept frame at note e f h =
    bound expr_first (marks_of_expr e) _ _ _ _ (value_kept frame e h) (λ p g. bound expr_first (marks_of_expr f) _ _ _ _ (value_kept frame f p.1) (λ q i.
    stated_is at note (Act-F.Assign p.0 q.0) (act.rolls-Assign p.0 q.0) (marks_of_expr e ++ marks_of_expr f) (both g i)))

branch_kept : (frame : Frame) (left : Bool) (e : NotedExpr) (h : Here) → Keeps branch_first (marks_of_expr e) (branched frame left e h)
branch_kept frame left e h = bound expr_first (marks_of_expr e) _ _ _ _ (value_kept frame e h) (λ p g. g)

start_kept : (frame : Frame) (left continued : Bool) (e : Option NotedExpr) (h : Here) → Keeps start_first (marks_of_value e) (for_started frame left continued e h)
start_kept frame left continued e h = bound value_first (marks_of_value e) _ _ _ _ (maybe_kept frame e h) (λ p g. g)

module _ (frame : Frame) where
  pub record StmtKept (s : NotedStmt) : Type 0 where
    pub judged : (head : HeadBounds) (h : Here) → Keeps stmt_first (marks_of_stmt s) ((path s).judged frame head h)
    pub part : (bundle : Pos) (h : Here) → Keeps stmt_first (marks_of_stmt s) ((path s).part frame bundle h)

  record ActKept (a : NotedAct) : Type 0 where
    pub judged : (head : HeadBounds) (at : Pos) (note : Note) (h : Here) → Keeps stmt_first (mark ∷ marks_of_act a) ((path_of_act a).judged frame head at note h)
    pub part : (bundle at : Pos) (note : Note) (h : Here) → Keeps stmt_first (mark ∷ marks_of_act a) ((path_of_act a).part frame bundle at note h)

  abbrev KeptAct : Type 0
  KeptAct = (a : NotedAct) × ActKept a

  abbrev KeptStmt : Type 0
  KeptStmt = (s : NotedStmt) × StmtKept s

  abbrev inner_act : Act-F Name Note KeptAct KeptStmt → Act-F Name Note NotedAct NotedStmt
  inner_act = map-Act Name Note KeptAct KeptStmt NotedAct NotedStmt (λ e. e.0) (λ e. e.0)

  abbrev inner_stmt : Stmt-F Name Note KeptAct KeptStmt → Stmt-F Name Note NotedAct NotedStmt
  inner_stmt = map-Stmt Name Note KeptAct KeptStmt NotedAct NotedStmt (λ e. e.0) (λ e. e.0)

  abbrev act_inside : Act-F Name Note NotedAct NotedStmt → Act-F Name Note ActPath Path
  act_inside = map-Act Name Note NotedAct NotedStmt ActPath Path path_of_act path

  abbrev stmt_inside : Stmt-F Name Note NotedAct NotedStmt → Stmt-F Name Note ActPath Path
  stmt_inside = map-Stmt Name Note NotedAct NotedStmt ActPath Path path_of_act path

  abbrev held_act : Act-F Name Note NotedAct NotedStmt → Act-F Name Note Marks Marks
  held_act = map-Act Name Note NotedAct NotedStmt Marks Marks marks_of_act marks_of_stmt

  abbrev marks_in : List KeptStmt → Marks
  marks_in ks = concatenation (map marks_of_stmt (map (λ k. k.0) ks))

  all_kept : (head : HeadBounds) (ks : List KeptStmt) (h : Here) → Keeps stmts_first (marks_in ks) (all_judged frame head (map path (map (λ k. k.0) ks)) h)
  unfolding all_judged
  all_kept head [] h = refl
  all_kept head (k ∷ ks) h = bound stmt_first (marks_of_stmt k.0) _ _ _ _ (k.1.judged head h) (λ p g. bound stmts_first (marks_in ks) _ _ _ _ (all_kept head ks p.1) (λ q i. both g i))

  parts_kept : (bundle : Pos) (ks : List KeptStmt) (h : Here) → Keeps stmts_first (marks_in ks) (parts_judged frame bundle (map path (map (λ k. k.0) ks)) h)
  unfolding parts_judged
  parts_kept bundle [] h = refl
  parts_kept bundle (k ∷ ks) h = bound stmt_first (marks_of_stmt k.0) _ _ _ _ (k.1.part bundle h) (λ p g. bound stmts_first (marks_in ks) _ _ _ _ (parts_kept bundle ks p.1) (λ q i. both g i))

  bundle_kept : (head : HeadBounds) (at : Pos) (note : Note) (ks : List KeptStmt) (h : Here) → Keeps stmt_first (mark ∷ marks_in ks) (bundle_judged frame head at note (map path (map (λ k. k.0) ks)) h)
  unfolding bundle_judged
  bundle_kept head at note ks h =
      bound stmts_first (marks_in ks) _ _ _ _ (parts_kept at ks h) (λ p g.
      kept stmt_first (mark ∷ marks_in ks) (not (is_good p.1 p.0)) bad_bundle at (bind (behind_stores frame head p.0 h.next p.1) (λ i. Ok (stated at note (act.Bundle p.0), i)))
      (bound none [] _ _ _ _ (any (behind_stores frame head p.0 h.next p.1)) (λ i z. stated_is at note (Act-F.Bundle p.0) (act.rolls-Bundle p.0) (marks_in ks) g)))

  some_kept : (head : HeadBounds) (k : KeptStmt) (h : Here) → Keeps part_first (marks_of_stmt k.0) (part_judged frame head (Some (path k.0)) h)
  some_kept head k h = bound stmt_first (marks_of_stmt k.0) _ _ _ _ (k.1.judged head h) (λ p g. g)

  act_step : (y : Act-F Name Note KeptAct KeptStmt) (head : HeadBounds) (at : Pos) (note : Note) (h : Here)
      → Keeps stmt_first (mark ∷ act_marks (held_act (inner_act y))) ((act_path (act_inside (inner_act y))).judged frame head at note h)
  act_step (Act-F.Block m ks) head at note h = bound stmts_first (marks_in ks) stmt_first _ _ _ (all_kept head ks h) (λ p g. stated_is at note (Act-F.Block m p.0) (act.rolls-Block m p.0) _ g)
  act_step Act-F.Empty head at note h = stated_is at note Act-F.Empty act.rolls-Empty _ refl
  act_step (Act-F.Local d) head at note h = bound decl_first (marks_of_decl d) stmt_first _ _ _ (local_kept frame d h) (λ p g. stated_is at note (Act-F.Local p.0) (act.rolls-Local p.0) _ (ap (λ ms. local ∷ ms) g))
  act_step (Act-F.Assign e f) head at note h =
      bound stmt_first (mark ∷ marks_of_expr e ++ marks_of_expr f) stmt_first _ _ _ (sides_kept frame at note e f h) (λ p g. bound none [] stmt_first _ _ _ (any (behind_stores frame head (p.0 ∷ []) h.next p.1)) (λ i z. g))
  act_step (Act-F.Call e) head at note h = bound expr_first (marks_of_expr e) stmt_first _ _ _ (value_kept frame e h) (λ p g. stated_is at note (Act-F.Call p.0) (act.rolls-Call p.0) _ g)
  act_step (Act-F.If e k None) head at note h =
      bound branch_first (marks_of_expr e) stmt_first _ _ _ (branch_kept frame false e h) (λ p g. bound stmt_first (marks_of_stmt k.0) stmt_first _ _ _ (k.1.judged head p.1) (λ q i.
      stated_is at note (Act-F.If p.0.condition q.0 None) (act.rolls-If p.0.condition q.0 None) _ (both (both g i) (no_marks []))))
  act_step (Act-F.If e k (Some j)) head at note h =
      bound branch_first (marks_of_expr e) stmt_first _ _ _ (branch_kept frame false e h) (λ p g. bound stmt_first (marks_of_stmt k.0) stmt_first _ _ _ (k.1.judged head p.1) (λ q i.
      bound part_first (marks_of_stmt j.0) stmt_first _ _ _ (some_kept head j _) (λ r f. stated_is at note (Act-F.If p.0.condition q.0 r.0) (act.rolls-If p.0.condition q.0 r.0) _ (if_is p.0.condition q.0 r.0 ∙ both (both g i) f))))
  act_step (Act-F.While e k) head at note h =
      bound branch_first (marks_of_expr e) stmt_first _ _ _ (branch_kept frame _ e _) (λ p g. bound stmt_first (marks_of_stmt k.0) stmt_first _ _ _ (k.1.judged head p.1) (λ q i.
      stated_is at note (Act-F.While p.0.condition q.0) (act.rolls-While p.0.condition q.0) _ (both g i)))
  act_step (Act-F.For None e None k) head at note h =
      bound start_first (marks_of_value e) stmt_first _ _ _ (start_kept frame _ _ e _) (λ q g. bound stmt_first (marks_of_stmt k.0) stmt_first _ _ _ (k.1.judged head q.1) (λ r i.
      stated_is at note (Act-F.For None q.0.condition None r.0) (act.rolls-For None q.0.condition None r.0) _ (for_is None q.0.condition None r.0 ∙ both (both (both (no_marks []) g) (no_marks [])) i)))
  act_step (Act-F.For None e (Some j) k) head at note h =
      bound start_first (marks_of_value e) stmt_first _ _ _ (start_kept frame _ _ e _) (λ q g. bound stmt_first (marks_of_stmt k.0) stmt_first _ _ _ (k.1.judged head q.1) (λ r i.
      bound part_first (marks_of_stmt j.0) stmt_first _ _ _ (some_kept head j _) (λ v f. stated_is at note (Act-F.For None q.0.condition v.0 r.0) (act.rolls-For None q.0.condition v.0 r.0) _ (for_is None q.0.condition v.0 r.0 ∙ both (both (both (no_marks []) g) f) i))))
  act_step (Act-F.For (Some l) e None k) head at note h =
      bound part_first (marks_of_stmt l.0) stmt_first _ _ _ (some_kept head l h) (λ p b. bound start_first (marks_of_value e) stmt_first _ _ _ (start_kept frame _ _ e _) (λ q g.
      bound stmt_first (marks_of_stmt k.0) stmt_first _ _ _ (k.1.judged head q.1) (λ r i. stated_is at note (Act-F.For p.0 q.0.condition None r.0) (act.rolls-For p.0 q.0.condition None r.0) _ (for_is p.0 q.0.condition None r.0 ∙ both (both (both b g) (no_marks [])) i))))
  act_step (Act-F.For (Some l) e (Some j) k) head at note h =
      bound part_first (marks_of_stmt l.0) stmt_first _ _ _ (some_kept head l h) (λ p b. bound start_first (marks_of_value e) stmt_first _ _ _ (start_kept frame _ _ e _) (λ q g.
      bound stmt_first (marks_of_stmt k.0) stmt_first _ _ _ (k.1.judged head q.1) (λ r i. bound part_first (marks_of_stmt j.0) stmt_first _ _ _ (some_kept head j _) (λ v f.
      stated_is at note (Act-F.For p.0 q.0.condition v.0 r.0) (act.rolls-For p.0 q.0.condition v.0 r.0) _ (for_is p.0 q.0.condition v.0 r.0 ∙ both (both (both b g) f) i)))))
  act_step (Act-F.Return e) head at note h =
      bound value_first (marks_of_value e) stmt_first _ _ _ (maybe_kept frame e h) (λ p g.
      kept stmt_first (mark ∷ marks_of_value e) (not (is_returned frame head p.0 h.next p.1)) not_contained at (Ok (stated at note (act.Return p.0), gone frame p.1)) (stated_is at note (Act-F.Return p.0) (act.rolls-Return p.0) _ g))
  act_step Act-F.Break head at note h = stated_is at note Act-F.Break act.rolls-Break _ refl
  act_step Act-F.Continue head at note h = stated_is at note Act-F.Continue act.rolls-Continue _ refl
  act_step (Act-F.Check e) head at note h = bound expr_first (marks_of_expr e) stmt_first _ _ _ (value_kept frame e h) (λ p g. stated_is at note (Act-F.Check p.0) (act.rolls-Check p.0) _ g)
  act_step (Act-F.Bundle ks) head at note h = bundle_kept head at note ks h

  part_step : (y : Act-F Name Note KeptAct KeptStmt) (bundle at : Pos) (note : Note) (h : Here)
      → Keeps stmt_first (mark ∷ act_marks (held_act (inner_act y))) ((act_path (act_inside (inner_act y))).part frame bundle at note h)
  part_step (Act-F.Assign e f) bundle at note h = sides_kept frame at note e f h
  part_step y bundle at note h = tt

  act_by : (x : Act-F Name Note NotedAct NotedStmt) (y : Act-F Name Note KeptAct KeptStmt) → inner_act y ≡ x → ActKept (roll-Act Name Note x)
  act_by x y is =
      let e : act_path (act_inside (inner_act y)) ≡ path_of_act (roll-Act Name Note x) = sym (fold-roll-Act Name Note ActPath Path act_path stmt_path x ∙ ap (λ z. act_path (act_inside z)) (sym is)) in
      let m : mark ∷ act_marks (held_act (inner_act y)) ≡ mark ∷ marks_of_act (roll-Act Name Note x) = ap (λ z. mark ∷ z) (sym (act_is x ∙ ap (λ z. act_marks (held_act z)) (sym is))) in
      record {
        judged = λ head at note h. subst (λ ms. Keeps stmt_first ms ((path_of_act (roll-Act Name Note x)).judged frame head at note h)) m
            (subst (λ (p : ActPath). Keeps stmt_first (mark ∷ act_marks (held_act (inner_act y))) (p.judged frame head at note h)) e (act_step y head at note h));
        part = λ bundle at note h. subst (λ ms. Keeps stmt_first ms ((path_of_act (roll-Act Name Note x)).part frame bundle at note h)) m
            (subst (λ (p : ActPath). Keeps stmt_first (mark ∷ act_marks (held_act (inner_act y))) (p.part frame bundle at note h)) e (part_step y bundle at note h));
      }

  stmt_by : (x : Stmt-F Name Note NotedAct NotedStmt) (y : Stmt-F Name Note KeptAct KeptStmt) → inner_stmt y ≡ x → StmtKept (roll-Stmt Name Note x)
  stmt_by x y is =
      let e : stmt_path (stmt_inside (inner_stmt y)) ≡ path (roll-Stmt Name Note x) = sym (fold-roll-Stmt Name Note ActPath Path act_path stmt_path x ∙ ap (λ z. stmt_path (stmt_inside z)) (sym is)) in
      let m : mark ∷ marks_of_act y.body.0 ≡ marks_of_stmt (roll-Stmt Name Note x) =
      sym (fold-roll-Stmt Name Note Marks Marks act_marks stmt_marks x ∙ ap (λ (z : Stmt-F Name Note NotedAct NotedStmt). mark ∷ marks_of_act z.body) (sym is)) in
      record {
        judged = λ head h. subst (λ ms. Keeps stmt_first ms ((path (roll-Stmt Name Note x)).judged frame head h)) m
            (subst (λ (p : Path). Keeps stmt_first (mark ∷ marks_of_act y.body.0) (p.judged frame head h)) e (y.body.1.judged head y.pos y.note h));
        part = λ bundle h. subst (λ ms. Keeps stmt_first ms ((path (roll-Stmt Name Note x)).part frame bundle h)) m
            (subst (λ (p : Path). Keeps stmt_first (mark ∷ marks_of_act y.body.0) (p.part frame bundle h)) e (y.body.1.part bundle y.pos y.note h));
      }

  pub stmt_kept : (s : NotedStmt) → StmtKept s
  stmt_kept = ind-Stmt Name Note ActKept StmtKept act_by stmt_by
