-- Judging a body keeps what the rules of checked scopes judge in it.
use Rattle.std.proofs.Common.{◌≡◌, ◌∙◌, sym, ap, subst, refl, List, [], ◌∷◌, ◌++◌, map, Bool, true, false}
use Rattle.std.specs.Prelude.{if◌then◌else◌, Ok, Err, Option, Some, None, not}
use Rattle.ckc_base.specs.declared.places.Pos.{Pos}
use Rattle.ckc_base.specs.declared.arithmetic.Mode.{Mode}
use Rattle.ckc_base.specs.Outcomes.{Outcome, bind}
use Rattle.ckc_syntax.specs.Inside.{listed, inside_each, inside_limits}
use Rattle.ckc_syntax.specs.declared.tree.Name.{Name}
use Rattle.ckc_syntax.specs.declared.tree.Init.TheVariants as init
use Rattle.ckc_syntax.specs.declared.tree.Act.{Act-F, map-Act, roll-Act, fold-roll-Act}
use Rattle.ckc_syntax.specs.declared.tree.Act.TheVariants as act
use Rattle.ckc_syntax.specs.declared.tree.Stmt.{Stmt-F, map-Stmt, ind-Stmt, roll-Stmt, fold-roll-Stmt}
use Rattle.ckc_typed.specs.declared.typed.Note.{Note}
use Rattle.ckc_typed.specs.declared.typed.Range.{Range}
use Rattle.ckc_typed.specs.Types.{is_pointer}
use Rattle.ckc_typed.specs.Raw.{raws_of_decl}
use Rattle.ckc_typed.specs.Trees.{NotedAct, NotedStmt, NotedExpr, NotedDecl, NotedInit, NotedHead}
use Rattle.ckc_typed.specs.Walk.{Spot, Within, written_at, node_spots, expr_spots, spots_of_expr, spots_of_bounds, spots_of_value, spots_of_init, spots_of_decl, act_spots, stmt_spots, spots_of_act, spots_of_stmt, spots_of_part}
use Rattle.ckc_blame_sound.specs.ckc_bounds_points.specs.declared.frame.HeadBounds.{HeadBounds}
use Rattle.ckc_blame_sound.specs.ckc_bounds_points.specs.declared.frame.Frame.{Frame}
use Rattle.ckc_blame_sound.specs.ckc_bounds_points.specs.Codes.{bad_bundle, not_contained}
use Rattle.ckc_blame_sound.specs.ckc_bounds_views.specs.Judged.{noted_range}
use Rattle.ckc_blame_sound.specs.ckc_bounds_views.specs.Views.{view}
use Rattle.ckc_blame_sound.specs.ckc_bounds_statements.specs.Paths.{Here, is_good, expr_judged, value_judged, bounds_judged, values_judged, maybe_judged, init_judged, starts_within, declared_here, decl_judged, stated, sides_judged, behind_stores, is_returned, gone, Branch, Start, branched, for_started, Path, ActPath, all_judged, parts_judged, bundle_judged, part_judged, act_path, stmt_path, path_of_act, path}
use Rattle.ckc_blame_sound.specs.ckc_bounds.specs.Declarations.{head_bounds}
use Rattle.ckc_blame_sound.specs.ckc_bounds.specs.Frames.{function_frame, begin_of}
use Rattle.ckc_blame_sound.specs.ckc_bounds.specs.Texts.{body_judged}
use Rattle.ckc_blame_sound.proofs.KeptTrees.{Keeps, bound, kept, two, ExprKept, expr_kept}

-- ---- expressions

-- a range is not looked at
by_range : (n : Within) (pos : Pos) (note : Note) (r : Range)
    → expr_spots (record { node = n; pos = pos; note = noted_range note r }) ≡ expr_spots (record { node = n; pos = pos; note = note })
by_range n pos note r = by (is_pointer note.ctype) refl
  where
    by : (b : Bool) → is_pointer note.ctype ≡ b
        → expr_spots (record { node = n; pos = pos; note = if b then record note { range = r } else note }) ≡ expr_spots (record { node = n; pos = pos; note = note })
    by true is = refl
    by false is = refl

spots_kept : (frame : Frame) (e : NotedExpr) → ExprKept frame (List Spot) Within (List Spot) (inside_limits listed (λ e. e)) node_spots expr_spots by_range e
spots_kept frame = expr_kept frame (List Spot) Within (List Spot) (inside_limits listed (λ e. e)) node_spots expr_spots by_range

-- what is judged of a part, beside what it leaves
abbrev expr_first : NotedExpr × Here → List Spot
expr_first p = spots_of_expr p.0

abbrev value_first : Option NotedExpr × Here → List Spot
value_first p = spots_of_value p.0

abbrev init_first : NotedInit × Here → List Spot
init_first p = spots_of_init p.0

abbrev decl_first : Mode → NotedDecl × Here → List Spot
decl_first mode p = spots_of_decl mode p.0

abbrev stmt_first : NotedStmt × Here → List Spot
stmt_first p = spots_of_stmt p.0

abbrev stmts_first : List NotedStmt × Here → List (List Spot)
stmts_first p = map spots_of_stmt p.0

abbrev part_first : Option NotedStmt × Here → List Spot
part_first p = spots_of_part p.0

abbrev branch_first : Branch × Here → List Spot
branch_first p = spots_of_expr p.0.condition

abbrev start_first : Start × Here → List Spot
start_first p = spots_of_value p.0.condition

-- anything
abbrev none : {A : Type 0} → A → Unit {0}
none a = tt

any : {A : Type 0} (o : Outcome A) → Keeps none tt o
any (Ok a) = refl
any (Err r) = tt

chosen : (b : Bool) (e : NotedExpr) (o : Outcome NotedExpr) → Keeps spots_of_expr (spots_of_expr e) o → Keeps spots_of_expr (spots_of_expr e) (if b then Ok e else o)
chosen true e o h = refl
chosen false e o h = h

judged_kept : (frame : Frame) (e : NotedExpr) (h : Here) → Keeps spots_of_expr (spots_of_expr e) (expr_judged frame e h)
judged_kept frame e h = chosen h.counting e ((view frame e).judged h.next h.at) ((spots_kept frame e).judged h.next h.at)

value_kept : (frame : Frame) (e : NotedExpr) (h : Here) → Keeps expr_first (spots_of_expr e) (value_judged frame e h)
unfolding value_judged
value_kept frame e h = bound spots_of_expr (spots_of_expr e) _ _ _ _ (judged_kept frame e h) (λ f g. g)

maybe_kept : (frame : Frame) (e : Option NotedExpr) (h : Here) → Keeps value_first (spots_of_value e) (maybe_judged frame e h)
maybe_kept frame None h = refl
maybe_kept frame (Some e) h = bound expr_first (spots_of_expr e) _ _ _ _ (value_kept frame e h) (λ p g. g)

abbrev values_first : List NotedExpr × Here → List Spot
values_first p = inside_each listed spots_of_expr p.0

values_kept : (frame : Frame) (es : List NotedExpr) (h : Here) → Keeps values_first (inside_each listed spots_of_expr es) (values_judged frame es h)
values_kept frame [] h = refl
values_kept frame (e ∷ es) h =
    bound expr_first (spots_of_expr e) values_first _ _ _ (value_kept frame e h) (λ p g.
    bound values_first (inside_each listed spots_of_expr es) values_first _ _ _ (values_kept frame es p.1) (λ q f. two (λ x xs. x ++ xs) g f))

init_kept : (frame : Frame) (i : NotedInit) (h : Here) → Keeps init_first (spots_of_init i) (init_judged frame i h)
init_kept frame init.Nothing h = refl
init_kept frame (init.One e) h = bound expr_first (spots_of_expr e) init_first _ _ _ (value_kept frame e h) (λ p g. g)
init_kept frame (init.Many es) h = bound values_first (inside_each listed spots_of_expr es) init_first _ _ _ (values_kept frame es h) (λ p g. g)

decl_kept : (mode : Mode) (d : NotedDecl) (i : NotedInit) → spots_of_init i ≡ spots_of_init d.init → spots_of_decl mode (record d { init = i }) ≡ spots_of_decl mode d
decl_kept mode d i h = ap (λ x. written_at mode (raws_of_decl d) ++ (spots_of_bounds d.bounds ++ x)) h

local_kept : (frame : Frame) (mode : Mode) (d : NotedDecl) (h : Here) → Keeps (decl_first mode) (spots_of_decl mode d) (decl_judged frame d h)
local_kept frame mode d h =
    bound none tt _ _ _ _ (any (bounds_judged frame d h)) (λ b z. bound init_first (spots_of_init d.init) _ _ _ _ (init_kept frame d.init h) (λ p g.
    kept (decl_first mode) (spots_of_decl mode d) (not (starts_within frame d.name p.0 h.next p.1)) not_contained d.pos (Ok (record d { init = p.0 }, declared_here frame d p.0 p.1)) (decl_kept mode d p.0 g)))

-- ---- statements

abbrev Layer : Type 0
Layer = Act-F Name Note NotedAct NotedStmt

abbrev held : Layer → Act-F Name Note (Mode → List Spot) (List Spot)
held = map-Act Name Note NotedAct NotedStmt (Mode → List Spot) (List Spot) spots_of_act spots_of_stmt

abbrev laid : Mode → Layer → List Spot
laid mode x = act_spots (held x) mode

-- a statement that does so much
stated_is : {a : NotedAct} (at : Pos) (note : Note) (x : Layer) → roll-Act Name Note x ≡ a → (y : List Spot) → laid note.mode x ≡ y → spots_of_stmt (stated at note a) ≡ y
stated_is {a} at note x made y h =
    fold-roll-Stmt Name Note (Mode → List Spot) (List Spot) act_spots stmt_spots (record { body = a; pos = at; note = note })
    ∙ ap (λ (f : Mode → List Spot). f note.mode) (ap spots_of_act (sym made) ∙ fold-roll-Act Name Note (Mode → List Spot) (List Spot) act_spots stmt_spots x) ∙ h

if_is : (mode : Mode) (e : NotedExpr) (s : NotedStmt) (t : Option NotedStmt) → laid mode (Act-F.If e s t) ≡ (spots_of_expr e ++ spots_of_stmt s) ++ spots_of_part t
if_is mode e s None = refl
if_is mode e s (Some t) = refl

for_is : (mode : Mode) (s : Option NotedStmt) (e : Option NotedExpr) (t : Option NotedStmt) (body : NotedStmt)
    → laid mode (Act-F.For s e t body) ≡ spots_of_part s ++ (spots_of_value e ++ (spots_of_stmt body ++ spots_of_part t))
for_is mode None e None body = refl
for_is mode None e (Some t) body = refl
for_is mode (Some s) e None body = refl
for_is mode (Some s) e (Some t) body = refl

sides_kept : (frame : Frame) (at : Pos) (note : Note) (e f : NotedExpr) (h : Here) → Keeps stmt_first (spots_of_expr e ++ spots_of_expr f) (sides_judged frame at note e f h)
sides_kept frame at note e f h =
    bound expr_first (spots_of_expr e) stmt_first _ _ _ (value_kept frame e h) (λ p g. bound expr_first (spots_of_expr f) stmt_first _ _ _ (value_kept frame f p.1) (λ q i.
    stated_is at note (Act-F.Assign p.0 q.0) (act.rolls-Assign p.0 q.0) (spots_of_expr e ++ spots_of_expr f) (two (λ x y. x ++ y) g i)))

branch_kept : (frame : Frame) (left : Bool) (e : NotedExpr) (h : Here) → Keeps branch_first (spots_of_expr e) (branched frame left e h)
branch_kept frame left e h = bound expr_first (spots_of_expr e) _ _ _ _ (value_kept frame e h) (λ p g. g)

start_kept : (frame : Frame) (left continued : Bool) (e : Option NotedExpr) (h : Here) → Keeps start_first (spots_of_value e) (for_started frame left continued e h)
start_kept frame left continued e h = bound value_first (spots_of_value e) _ _ _ _ (maybe_kept frame e h) (λ p g. g)

module _ (frame : Frame) where
  record StmtKept (s : NotedStmt) : Type 0 where
    pub judged : (head : HeadBounds) (h : Here) → Keeps stmt_first (spots_of_stmt s) ((path s).judged frame head h)
    pub part : (bundle : Pos) (h : Here) → Keeps stmt_first (spots_of_stmt s) ((path s).part frame bundle h)

  record ActKept (a : NotedAct) : Type 0 where
    pub judged : (head : HeadBounds) (at : Pos) (note : Note) (h : Here) → Keeps stmt_first (spots_of_act a note.mode) ((path_of_act a).judged frame head at note h)
    pub part : (bundle at : Pos) (note : Note) (h : Here) → Keeps stmt_first (spots_of_act a note.mode) ((path_of_act a).part frame bundle at note h)

  abbrev KeptAct : Type 0
  KeptAct = (a : NotedAct) × ActKept a

  abbrev KeptStmt : Type 0
  KeptStmt = (s : NotedStmt) × StmtKept s

  abbrev inner_act : Act-F Name Note KeptAct KeptStmt → Layer
  inner_act = map-Act Name Note KeptAct KeptStmt NotedAct NotedStmt (λ e. e.0) (λ e. e.0)

  abbrev inner_stmt : Stmt-F Name Note KeptAct KeptStmt → Stmt-F Name Note NotedAct NotedStmt
  inner_stmt = map-Stmt Name Note KeptAct KeptStmt NotedAct NotedStmt (λ e. e.0) (λ e. e.0)

  abbrev act_inside : Layer → Act-F Name Note ActPath Path
  act_inside = map-Act Name Note NotedAct NotedStmt ActPath Path path_of_act path

  abbrev stmt_inside : Stmt-F Name Note NotedAct NotedStmt → Stmt-F Name Note ActPath Path
  stmt_inside = map-Stmt Name Note NotedAct NotedStmt ActPath Path path_of_act path

  abbrev firsts : List KeptStmt → List NotedStmt
  firsts ks = map (λ (k : KeptStmt). k.0) ks

  abbrev spotted : List KeptStmt → List (List Spot)
  spotted ks = map spots_of_stmt (firsts ks)

  abbrev joined : List (List Spot) → List Spot
  joined ls = inside_each listed (λ (l : List Spot). l) ls

  all_kept : (head : HeadBounds) (ks : List KeptStmt) (h : Here) → Keeps stmts_first (spotted ks) (all_judged frame head (map path (firsts ks)) h)
  unfolding all_judged
  all_kept head [] h = refl
  all_kept head (k ∷ ks) h =
      bound stmt_first (spots_of_stmt k.0) stmts_first _ _ _ (k.1.judged head h) (λ p g. bound stmts_first (spotted ks) stmts_first _ _ _ (all_kept head ks p.1) (λ q i. two (λ x xs. x ∷ xs) g i))

  parts_kept : (bundle : Pos) (ks : List KeptStmt) (h : Here) → Keeps stmts_first (spotted ks) (parts_judged frame bundle (map path (firsts ks)) h)
  unfolding parts_judged
  parts_kept bundle [] h = refl
  parts_kept bundle (k ∷ ks) h =
      bound stmt_first (spots_of_stmt k.0) stmts_first _ _ _ (k.1.part bundle h) (λ p g. bound stmts_first (spotted ks) stmts_first _ _ _ (parts_kept bundle ks p.1) (λ q i. two (λ x xs. x ∷ xs) g i))

  bundle_kept : (head : HeadBounds) (at : Pos) (note : Note) (ks : List KeptStmt) (h : Here) → Keeps stmt_first (joined (spotted ks)) (bundle_judged frame head at note (map path (firsts ks)) h)
  unfolding bundle_judged
  bundle_kept head at note ks h =
      bound stmts_first (spotted ks) stmt_first _ _ _ (parts_kept at ks h) (λ p g.
      kept stmt_first (joined (spotted ks)) (not (is_good p.1 p.0)) bad_bundle at (bind (behind_stores frame head p.0 h.next p.1) (λ i. Ok (stated at note (act.Bundle p.0), i)))
      (bound none tt stmt_first _ _ _ (any (behind_stores frame head p.0 h.next p.1)) (λ i z. stated_is at note (Act-F.Bundle p.0) (act.rolls-Bundle p.0) (joined (spotted ks)) (ap joined g))))

  some_kept : (head : HeadBounds) (k : KeptStmt) (h : Here) → Keeps part_first (spots_of_stmt k.0) (part_judged frame head (Some (path k.0)) h)
  some_kept head k h = bound stmt_first (spots_of_stmt k.0) part_first _ _ _ (k.1.judged head h) (λ p g. g)

  -- a loop with its parts
  for_made : (at : Pos) (note : Note) (s t : Option NotedStmt) (e : Option NotedExpr) (body : NotedStmt) (x y c z : List Spot)
      → spots_of_part s ≡ x → spots_of_value e ≡ c → spots_of_part t ≡ y → spots_of_stmt body ≡ z → spots_of_stmt (stated at note (act.For s e t body)) ≡ x ++ (c ++ (z ++ y))
  for_made at note s t e body x y c z f g h i =
      stated_is at note (Act-F.For s e t body) (act.rolls-For s e t body) (x ++ (c ++ (z ++ y)))
      (for_is note.mode s e t body ∙ two (λ a b. a ++ (b ++ (spots_of_stmt body ++ spots_of_part t))) f g ∙ two (λ a b. x ++ (c ++ (b ++ a))) h i)

  act_step : (y : Act-F Name Note KeptAct KeptStmt) (head : HeadBounds) (at : Pos) (note : Note) (h : Here)
      → Keeps stmt_first (laid note.mode (inner_act y)) ((act_path (act_inside (inner_act y))).judged frame head at note h)
  act_step (Act-F.Block m ks) head at note h =
      bound stmts_first (spotted ks) stmt_first _ _ _ (all_kept head ks h) (λ p g. stated_is at note (Act-F.Block m p.0) (act.rolls-Block m p.0) (joined (spotted ks)) (ap joined g))
  act_step Act-F.Empty head at note h = stated_is at note Act-F.Empty act.rolls-Empty [] refl
  act_step (Act-F.Local d) head at note h =
      bound (decl_first note.mode) (spots_of_decl note.mode d) stmt_first _ _ _ (local_kept frame note.mode d h) (λ p g.
      stated_is at note (Act-F.Local p.0) (act.rolls-Local p.0) (spots_of_decl note.mode d) g)
  act_step (Act-F.Assign e f) head at note h =
      bound stmt_first (spots_of_expr e ++ spots_of_expr f) stmt_first _ _ _ (sides_kept frame at note e f h) (λ p g.
      bound none tt stmt_first _ _ _ (any (behind_stores frame head (p.0 ∷ []) h.next p.1)) (λ i z. g))
  act_step (Act-F.Call e) head at note h =
      bound expr_first (spots_of_expr e) stmt_first _ _ _ (value_kept frame e h) (λ p g. stated_is at note (Act-F.Call p.0) (act.rolls-Call p.0) (spots_of_expr e) g)
  act_step (Act-F.If e k None) head at note h =
      bound branch_first (spots_of_expr e) stmt_first _ _ _ (branch_kept frame false e h) (λ p g. bound stmt_first (spots_of_stmt k.0) stmt_first _ _ _ (k.1.judged head p.1) (λ q i.
      stated_is at note (Act-F.If p.0.condition q.0 None) (act.rolls-If p.0.condition q.0 None) ((spots_of_expr e ++ spots_of_stmt k.0) ++ []) (two (λ x z. (x ++ z) ++ []) g i)))
  act_step (Act-F.If e k (Some j)) head at note h =
      bound branch_first (spots_of_expr e) stmt_first _ _ _ (branch_kept frame false e h) (λ p g. bound stmt_first (spots_of_stmt k.0) stmt_first _ _ _ (k.1.judged head p.1) (λ q i.
      bound part_first (spots_of_stmt j.0) stmt_first _ _ _ (some_kept head j _) (λ r f.
      stated_is at note (Act-F.If p.0.condition q.0 r.0) (act.rolls-If p.0.condition q.0 r.0) ((spots_of_expr e ++ spots_of_stmt k.0) ++ spots_of_stmt j.0)
      (if_is note.mode p.0.condition q.0 r.0 ∙ two (λ x z. (x ++ z) ++ spots_of_part r.0) g i ∙ ap (λ z. (spots_of_expr e ++ spots_of_stmt k.0) ++ z) f))))
  act_step (Act-F.While e k) head at note h =
      bound branch_first (spots_of_expr e) stmt_first _ _ _ (branch_kept frame _ e _) (λ p g. bound stmt_first (spots_of_stmt k.0) stmt_first _ _ _ (k.1.judged head p.1) (λ q i.
      stated_is at note (Act-F.While p.0.condition q.0) (act.rolls-While p.0.condition q.0) (spots_of_expr e ++ spots_of_stmt k.0) (two (λ x z. x ++ z) g i)))
  act_step (Act-F.For None e None k) head at note h =
      bound start_first (spots_of_value e) stmt_first _ _ _ (start_kept frame _ _ e _) (λ q g. bound stmt_first (spots_of_stmt k.0) stmt_first _ _ _ (k.1.judged head q.1) (λ r i.
      for_made at note None None q.0.condition r.0 [] [] (spots_of_value e) (spots_of_stmt k.0) refl g refl i))
  act_step (Act-F.For None e (Some j) k) head at note h =
      bound start_first (spots_of_value e) stmt_first _ _ _ (start_kept frame _ _ e _) (λ q g. bound stmt_first (spots_of_stmt k.0) stmt_first _ _ _ (k.1.judged head q.1) (λ r i.
      bound part_first (spots_of_stmt j.0) stmt_first _ _ _ (some_kept head j _) (λ v f.
      for_made at note None v.0 q.0.condition r.0 [] (spots_of_stmt j.0) (spots_of_value e) (spots_of_stmt k.0) refl g f i)))
  act_step (Act-F.For (Some l) e None k) head at note h =
      bound part_first (spots_of_stmt l.0) stmt_first _ _ _ (some_kept head l h) (λ p b. bound start_first (spots_of_value e) stmt_first _ _ _ (start_kept frame _ _ e _) (λ q g.
      bound stmt_first (spots_of_stmt k.0) stmt_first _ _ _ (k.1.judged head q.1) (λ r i.
      for_made at note p.0 None q.0.condition r.0 (spots_of_stmt l.0) [] (spots_of_value e) (spots_of_stmt k.0) b g refl i)))
  act_step (Act-F.For (Some l) e (Some j) k) head at note h =
      bound part_first (spots_of_stmt l.0) stmt_first _ _ _ (some_kept head l h) (λ p b. bound start_first (spots_of_value e) stmt_first _ _ _ (start_kept frame _ _ e _) (λ q g.
      bound stmt_first (spots_of_stmt k.0) stmt_first _ _ _ (k.1.judged head q.1) (λ r i. bound part_first (spots_of_stmt j.0) stmt_first _ _ _ (some_kept head j _) (λ v f.
      for_made at note p.0 v.0 q.0.condition r.0 (spots_of_stmt l.0) (spots_of_stmt j.0) (spots_of_value e) (spots_of_stmt k.0) b g f i))))
  act_step (Act-F.Return e) head at note h =
      bound value_first (spots_of_value e) stmt_first _ _ _ (maybe_kept frame e h) (λ p g.
      kept stmt_first (spots_of_value e) (not (is_returned frame head p.0 h.next p.1)) not_contained at (Ok (stated at note (act.Return p.0), gone frame p.1))
      (stated_is at note (Act-F.Return p.0) (act.rolls-Return p.0) (spots_of_value e) g))
  act_step Act-F.Break head at note h = stated_is at note Act-F.Break act.rolls-Break [] refl
  act_step Act-F.Continue head at note h = stated_is at note Act-F.Continue act.rolls-Continue [] refl
  act_step (Act-F.Check e) head at note h =
      bound expr_first (spots_of_expr e) stmt_first _ _ _ (value_kept frame e h) (λ p g. stated_is at note (Act-F.Check p.0) (act.rolls-Check p.0) (spots_of_expr e) g)
  act_step (Act-F.Bundle ks) head at note h = bundle_kept head at note ks h

  part_step : (y : Act-F Name Note KeptAct KeptStmt) (bundle at : Pos) (note : Note) (h : Here)
      → Keeps stmt_first (laid note.mode (inner_act y)) ((act_path (act_inside (inner_act y))).part frame bundle at note h)
  part_step (Act-F.Assign e f) bundle at note h = sides_kept frame at note e f h
  part_step y bundle at note h = tt

  act_by : (x : Layer) (y : Act-F Name Note KeptAct KeptStmt) → inner_act y ≡ x → ActKept (roll-Act Name Note x)
  act_by x y is =
      let e : act_path (act_inside (inner_act y)) ≡ path_of_act (roll-Act Name Note x) = sym (fold-roll-Act Name Note ActPath Path act_path stmt_path x ∙ ap (λ z. act_path (act_inside z)) (sym is)) in
      let m : act_spots (held (inner_act y)) ≡ spots_of_act (roll-Act Name Note x) =
      sym (fold-roll-Act Name Note (Mode → List Spot) (List Spot) act_spots stmt_spots x ∙ ap (λ z. act_spots (held z)) (sym is)) in
      record {
        judged = λ head at note h. subst (λ (b : Mode → List Spot). Keeps stmt_first (b note.mode) ((path_of_act (roll-Act Name Note x)).judged frame head at note h)) m
            (subst (λ (p : ActPath). Keeps stmt_first (laid note.mode (inner_act y)) (p.judged frame head at note h)) e (act_step y head at note h));
        part = λ bundle at note h. subst (λ (b : Mode → List Spot). Keeps stmt_first (b note.mode) ((path_of_act (roll-Act Name Note x)).part frame bundle at note h)) m
            (subst (λ (p : ActPath). Keeps stmt_first (laid note.mode (inner_act y)) (p.part frame bundle at note h)) e (part_step y bundle at note h));
      }

  stmt_by : (x : Stmt-F Name Note NotedAct NotedStmt) (y : Stmt-F Name Note KeptAct KeptStmt) → inner_stmt y ≡ x → StmtKept (roll-Stmt Name Note x)
  stmt_by x y is =
      let e : stmt_path (stmt_inside (inner_stmt y)) ≡ path (roll-Stmt Name Note x) = sym (fold-roll-Stmt Name Note ActPath Path act_path stmt_path x ∙ ap (λ z. stmt_path (stmt_inside z)) (sym is)) in
      let m : spots_of_act y.body.0 y.note.mode ≡ spots_of_stmt (roll-Stmt Name Note x) =
      sym (fold-roll-Stmt Name Note (Mode → List Spot) (List Spot) act_spots stmt_spots x ∙ ap (λ (z : Stmt-F Name Note NotedAct NotedStmt). spots_of_act z.body z.note.mode) (sym is)) in
      record {
        judged = λ head h. subst (λ b. Keeps stmt_first b ((path (roll-Stmt Name Note x)).judged frame head h)) m
            (subst (λ (p : Path). Keeps stmt_first (spots_of_act y.body.0 y.note.mode) (p.judged frame head h)) e (y.body.1.judged head y.pos y.note h));
        part = λ bundle h. subst (λ b. Keeps stmt_first b ((path (roll-Stmt Name Note x)).part frame bundle h)) m
            (subst (λ (p : Path). Keeps stmt_first (spots_of_act y.body.0 y.note.mode) (p.part frame bundle h)) e (y.body.1.part bundle y.pos y.note h));
      }

  stmt_kept : (s : NotedStmt) → StmtKept s
  stmt_kept = ind-Stmt Name Note ActKept StmtKept act_by stmt_by

pub body_kept : (frame : Frame) (h : NotedHead) (body : NotedStmt) → Keeps spots_of_stmt (spots_of_stmt body) (body_judged frame h body)
body_kept frame h body =
    bound stmt_first (spots_of_stmt body) spots_of_stmt _ _ _ ((stmt_kept (function_frame frame h body) body).judged (head_bounds frame h) (begin_of frame h body)) (λ p g. g)
