-- The bounds phase keeps the tree of a text without its notes.
use Rattle.std.proofs.Common.{◌≡◌, ◌∙◌, sym, ap, subst, refl, List, [], ◌∷◌, map, Bool, true, false}
use Rattle.std.specs.Prelude.{if◌then◌else◌, Ok, Err, Option, Some, None, not}
use Rattle.std.specs.Option.{option_map}
use Rattle.ckc_base.specs.declared.places.Pos.{Pos}
use Rattle.ckc_base.specs.Outcomes.{Outcome, bind}
use Rattle.ckc_syntax.specs.declared.tree.Name.{Name}
use Rattle.ckc_syntax.specs.declared.tree.Init.TheVariants as init
use Rattle.ckc_syntax.specs.declared.tree.Item.TheVariants as item
use Rattle.ckc_syntax.specs.declared.tree.Act.{Act-F, map-Act, roll-Act, fold-roll-Act}
use Rattle.ckc_syntax.specs.declared.tree.Act.TheVariants as act
use Rattle.ckc_syntax.specs.declared.tree.Stmt.{Stmt-F, map-Stmt, ind-Stmt, roll-Stmt, fold-roll-Stmt}
use Rattle.ckc_typed.specs.declared.typed.Note.{Note}
use Rattle.ckc_typed.specs.declared.typed.Typed.{Typed}
use Rattle.ckc_typed.specs.Trees.{Init, Decl, NotedAct, NotedStmt, NotedExpr, NotedDecl, NotedInit, NotedHead, NotedItem}
use Rattle.ckc_typed_welltyped.specs.Noteless.{BareLimits, BareNode, BareExpr, BareAct, BareStmt, limits_bared, node_bared, expr_bared, act_noteless, act_bared, stmt_bared, bare_expr, bare_init, bare_decl, bare_act, bare_stmt, bare_head, bare_item, without_notes}
use Rattle.ckc_bounds.specs.ckc_bounds_points.specs.declared.frame.HeadBounds.{HeadBounds}
use Rattle.ckc_bounds.specs.ckc_bounds_points.specs.declared.frame.Frame.{Frame}
use Rattle.ckc_bounds.specs.ckc_bounds_points.specs.Codes.{bad_bundle, not_contained}
use Rattle.ckc_bounds.specs.ckc_bounds_views.specs.Views.{view}
use Rattle.ckc_bounds.specs.ckc_bounds_statements.specs.DeclBounds.{bounds_there}
use Rattle.ckc_bounds.specs.ckc_bounds_statements.specs.Paths.{Here, is_good, expr_judged, value_judged, bounds_judged, values_judged, maybe_judged, init_judged, starts_within, declared_here, decl_judged, stated, sides_judged, behind_stores, is_returned, gone, Branch, Start, branched, for_started, Path, ActPath, all_judged, parts_judged, bundle_judged, part_judged, act_path, stmt_path, path_of_act, path}
use Rattle.ckc_bounds.specs.Declarations.{member_holder, params_frame, head_judged, head_bounds}
use Rattle.ckc_bounds.specs.Frames.{text_frame, function_frame, begin_of}
use Rattle.ckc_bounds.specs.Texts.{outside, members_judged, object_judged, body_judged, head_kept, item_judged, items_judged, text_judged}
use Rattle.ckc_blame_sound.proofs.KeptTrees.{Keeps, bound, kept, two, ExprKept, expr_kept}

-- ---- expressions

pub bare_kept : (frame : Frame) (e : NotedExpr) → ExprKept frame (BareLimits Name) (BareNode Name) (BareExpr Name) limits_bared node_bared expr_bared (λ n pos note r. refl) e
bare_kept frame = expr_kept frame (BareLimits Name) (BareNode Name) (BareExpr Name) limits_bared node_bared expr_bared (λ n pos note r. refl)

-- what a part is without its notes, beside what it leaves
abbrev expr_first : NotedExpr × Here → BareExpr Name
expr_first p = bare_expr p.0

abbrev value_first : Option NotedExpr × Here → Option (BareExpr Name)
value_first p = option_map bare_expr p.0

abbrev init_first : NotedInit × Here → Init
init_first p = bare_init p.0

abbrev decl_first : NotedDecl × Here → Decl
decl_first p = bare_decl p.0

abbrev stmt_first : NotedStmt × Here → BareStmt Name
stmt_first p = bare_stmt p.0

abbrev stmts_first : List NotedStmt × Here → List (BareStmt Name)
stmts_first p = map bare_stmt p.0

abbrev part_first : Option NotedStmt × Here → Option (BareStmt Name)
part_first p = option_map bare_stmt p.0

abbrev branch_first : Branch × Here → BareExpr Name
branch_first p = bare_expr p.0.condition

abbrev start_first : Start × Here → Option (BareExpr Name)
start_first p = option_map bare_expr p.0.condition

-- anything
abbrev none : {A : Type 0} → A → Unit {0}
none a = tt

any : {A : Type 0} (o : Outcome A) → Keeps none tt o
any (Ok a) = refl
any (Err r) = tt

chosen : (b : Bool) (e : NotedExpr) (o : Outcome NotedExpr) → Keeps bare_expr (bare_expr e) o → Keeps bare_expr (bare_expr e) (if b then Ok e else o)
chosen true e o h = refl
chosen false e o h = h

judged_kept : (frame : Frame) (e : NotedExpr) (h : Here) → Keeps bare_expr (bare_expr e) (expr_judged frame e h)
judged_kept frame e h = chosen h.counting e ((view frame e).judged h.next h.at) ((bare_kept frame e).judged h.next h.at)

value_kept : (frame : Frame) (e : NotedExpr) (h : Here) → Keeps expr_first (bare_expr e) (value_judged frame e h)
unfolding value_judged
value_kept frame e h = bound bare_expr (bare_expr e) _ _ _ _ (judged_kept frame e h) (λ f g. g)

maybe_kept : (frame : Frame) (e : Option NotedExpr) (h : Here) → Keeps value_first (option_map bare_expr e) (maybe_judged frame e h)
maybe_kept frame None h = refl
maybe_kept frame (Some e) h = bound expr_first (bare_expr e) _ _ _ _ (value_kept frame e h) (λ p g. ap Some g)

abbrev values_first : List NotedExpr × Here → List (BareExpr Name)
values_first p = map bare_expr p.0

values_kept : (frame : Frame) (es : List NotedExpr) (h : Here) → Keeps values_first (map bare_expr es) (values_judged frame es h)
values_kept frame [] h = refl
values_kept frame (e ∷ es) h =
    bound expr_first (bare_expr e) values_first _ _ _ (value_kept frame e h) (λ p g.
    bound values_first (map bare_expr es) values_first _ _ _ (values_kept frame es p.1) (λ q f. two (λ x xs. x ∷ xs) g f))

init_kept : (frame : Frame) (i : NotedInit) (h : Here) → Keeps init_first (bare_init i) (init_judged frame i h)
init_kept frame init.Nothing h = refl
init_kept frame (init.One e) h = bound expr_first (bare_expr e) init_first _ _ _ (value_kept frame e h) (λ p g. ap (λ x. init.One x) g)
init_kept frame (init.Many es) h = bound values_first (map bare_expr es) init_first _ _ _ (values_kept frame es h) (λ p g. ap (λ x. init.Many x) g)

decl_kept : (d : NotedDecl) (i : NotedInit) → bare_init i ≡ bare_init d.init → bare_decl (record d { init = i }) ≡ bare_decl d
decl_kept d i h = ap (λ x. record (bare_decl d) { init = x }) h

local_kept : (frame : Frame) (d : NotedDecl) (h : Here) → Keeps decl_first (bare_decl d) (decl_judged frame d h)
local_kept frame d h =
    bound none tt _ _ _ _ (any (bounds_judged frame d h)) (λ b z. bound init_first (bare_init d.init) _ _ _ _ (init_kept frame d.init h) (λ p g.
    kept decl_first (bare_decl d) (not (starts_within frame d.name p.0 h.next p.1)) not_contained d.pos (Ok (record d { init = p.0 }, declared_here frame d p.0 p.1)) (decl_kept d p.0 g)))

-- ---- statements

abbrev pub Layer : Type 0
Layer = Act-F Name Note NotedAct NotedStmt

abbrev pub BareLayer : Type 0
BareLayer = Act-F Name (Unit {0}) (BareAct Name) (BareStmt Name)

abbrev pub bared : Layer → BareLayer
bared x = act_noteless (map-Act Name Note NotedAct NotedStmt (BareAct Name) (BareStmt Name) bare_act bare_stmt x)

abbrev pub placed : Pos → BareAct Name → BareStmt Name
placed at a = record { body = a; pos = at; note = tt }

abbrev pub rolled : BareLayer → BareAct Name
rolled x = roll-Act Name (Unit {0}) x

-- a statement that does so much
stated_is : {a : NotedAct} (at : Pos) (note : Note) (x : Layer) → roll-Act Name Note x ≡ a → (y : BareLayer) → bared x ≡ y → bare_stmt (stated at note a) ≡ placed at (rolled y)
stated_is {a} at note x made y h =
    fold-roll-Stmt Name Note (BareAct Name) (BareStmt Name) act_bared stmt_bared (record { body = a; pos = at; note = note })
    ∙ ap (placed at) (ap bare_act (sym made) ∙ fold-roll-Act Name Note (BareAct Name) (BareStmt Name) act_bared stmt_bared x ∙ ap rolled h)

if_is : (e : NotedExpr) (s : NotedStmt) (t : Option NotedStmt) → bared (Act-F.If e s t) ≡ Act-F.If (bare_expr e) (bare_stmt s) (option_map bare_stmt t)
if_is e s None = refl
if_is e s (Some t) = refl

for_is : (s : Option NotedStmt) (e : Option NotedExpr) (t : Option NotedStmt) (body : NotedStmt)
    → bared (Act-F.For s e t body) ≡ Act-F.For (option_map bare_stmt s) (option_map bare_expr e) (option_map bare_stmt t) (bare_stmt body)
for_is None e None body = refl
for_is None e (Some t) body = refl
for_is (Some s) e None body = refl
for_is (Some s) e (Some t) body = refl

sides_kept : (frame : Frame) (at : Pos) (note : Note) (e f : NotedExpr) (h : Here) → Keeps stmt_first (placed at (rolled (Act-F.Assign (bare_expr e) (bare_expr f)))) (sides_judged frame at note e f h)
sides_kept frame at note e f h =
    bound expr_first (bare_expr e) stmt_first _ _ _ (value_kept frame e h) (λ p g. bound expr_first (bare_expr f) stmt_first _ _ _ (value_kept frame f p.1) (λ q i.
    stated_is at note (Act-F.Assign p.0 q.0) (act.rolls-Assign p.0 q.0) (Act-F.Assign (bare_expr e) (bare_expr f)) (two (λ x y. Act-F.Assign x y) g i)))

branch_kept : (frame : Frame) (left : Bool) (e : NotedExpr) (h : Here) → Keeps branch_first (bare_expr e) (branched frame left e h)
branch_kept frame left e h = bound expr_first (bare_expr e) _ _ _ _ (value_kept frame e h) (λ p g. g)

start_kept : (frame : Frame) (left continued : Bool) (e : Option NotedExpr) (h : Here) → Keeps start_first (option_map bare_expr e) (for_started frame left continued e h)
start_kept frame left continued e h = bound value_first (option_map bare_expr e) _ _ _ _ (maybe_kept frame e h) (λ p g. g)

module _ (frame : Frame) where
  record StmtKept (s : NotedStmt) : Type 0 where
    pub judged : (head : HeadBounds) (h : Here) → Keeps stmt_first (bare_stmt s) ((path s).judged frame head h)
    pub part : (bundle : Pos) (h : Here) → Keeps stmt_first (bare_stmt s) ((path s).part frame bundle h)

  record ActKept (a : NotedAct) : Type 0 where
    pub judged : (head : HeadBounds) (at : Pos) (note : Note) (h : Here) → Keeps stmt_first (placed at (bare_act a)) ((path_of_act a).judged frame head at note h)
    pub part : (bundle at : Pos) (note : Note) (h : Here) → Keeps stmt_first (placed at (bare_act a)) ((path_of_act a).part frame bundle at note h)

  abbrev KeptAct : Type 0
  KeptAct = (a : NotedAct) × ActKept a

  abbrev KeptStmt : Type 0
  KeptStmt = (s : NotedStmt) × StmtKept s

  abbrev inner_act : Act-F Name Note KeptAct KeptStmt → Layer
  inner_act = map-Act Name Note KeptAct KeptStmt NotedAct NotedStmt (λ e. e.0) (λ e. e.0)

  abbrev inner_stmt : Stmt-F Name Note KeptAct KeptStmt → Stmt-F Name Note NotedAct NotedStmt
  inner_stmt = map-Stmt Name Note KeptAct KeptStmt NotedAct NotedStmt (λ e. e.0) (λ e. e.0)

  abbrev act_inside : Layer → Act-F Name Note ActPath Path
  act_inside = map-Act Name Note NotedAct NotedStmt ActPath Path path_of_act path

  abbrev stmt_inside : Stmt-F Name Note NotedAct NotedStmt → Stmt-F Name Note ActPath Path
  stmt_inside = map-Stmt Name Note NotedAct NotedStmt ActPath Path path_of_act path

  abbrev firsts : List KeptStmt → List NotedStmt
  firsts ks = map (λ (k : KeptStmt). k.0) ks

  abbrev bares : List KeptStmt → List (BareStmt Name)
  bares ks = map bare_stmt (firsts ks)

  all_kept : (head : HeadBounds) (ks : List KeptStmt) (h : Here) → Keeps stmts_first (bares ks) (all_judged frame head (map path (firsts ks)) h)
  unfolding all_judged
  all_kept head [] h = refl
  all_kept head (k ∷ ks) h =
      bound stmt_first (bare_stmt k.0) stmts_first _ _ _ (k.1.judged head h) (λ p g. bound stmts_first (bares ks) stmts_first _ _ _ (all_kept head ks p.1) (λ q i. two (λ x xs. x ∷ xs) g i))

  parts_kept : (bundle : Pos) (ks : List KeptStmt) (h : Here) → Keeps stmts_first (bares ks) (parts_judged frame bundle (map path (firsts ks)) h)
  unfolding parts_judged
  parts_kept bundle [] h = refl
  parts_kept bundle (k ∷ ks) h =
      bound stmt_first (bare_stmt k.0) stmts_first _ _ _ (k.1.part bundle h) (λ p g. bound stmts_first (bares ks) stmts_first _ _ _ (parts_kept bundle ks p.1) (λ q i. two (λ x xs. x ∷ xs) g i))

  bundle_kept : (head : HeadBounds) (at : Pos) (note : Note) (ks : List KeptStmt) (h : Here) → Keeps stmt_first (placed at (rolled (Act-F.Bundle (bares ks)))) (bundle_judged frame head at note (map path (firsts ks)) h)
  unfolding bundle_judged
  bundle_kept head at note ks h =
      bound stmts_first (bares ks) stmt_first _ _ _ (parts_kept at ks h) (λ p g.
      kept stmt_first (placed at (rolled (Act-F.Bundle (bares ks)))) (not (is_good p.1 p.0)) bad_bundle at (bind (behind_stores frame head p.0 h.next p.1) (λ i. Ok (stated at note (act.Bundle p.0), i)))
      (bound none tt stmt_first _ _ _ (any (behind_stores frame head p.0 h.next p.1)) (λ i z. stated_is at note (Act-F.Bundle p.0) (act.rolls-Bundle p.0) (Act-F.Bundle (bares ks)) (ap (λ x. Act-F.Bundle x) g))))

  some_kept : (head : HeadBounds) (k : KeptStmt) (h : Here) → Keeps part_first (Some (bare_stmt k.0)) (part_judged frame head (Some (path k.0)) h)
  some_kept head k h = bound stmt_first (bare_stmt k.0) part_first _ _ _ (k.1.judged head h) (λ p g. ap Some g)

  -- a loop with its parts
  for_made : (at : Pos) (note : Note) (s t : Option NotedStmt) (e : Option NotedExpr) (body : NotedStmt) (x y : Option (BareStmt Name)) (c : Option (BareExpr Name)) (z : BareStmt Name)
      → option_map bare_stmt s ≡ x → option_map bare_expr e ≡ c → option_map bare_stmt t ≡ y → bare_stmt body ≡ z → bare_stmt (stated at note (act.For s e t body)) ≡ placed at (rolled (Act-F.For x c y z))
  for_made at note s t e body x y c z f g h i =
      stated_is at note (Act-F.For s e t body) (act.rolls-For s e t body) (Act-F.For x c y z)
      (for_is s e t body ∙ two (λ a b. Act-F.For a b (option_map bare_stmt t) (bare_stmt body)) f g ∙ two (λ a b. Act-F.For x c a b) h i)

  act_step : (y : Act-F Name Note KeptAct KeptStmt) (head : HeadBounds) (at : Pos) (note : Note) (h : Here)
      → Keeps stmt_first (placed at (rolled (bared (inner_act y)))) ((act_path (act_inside (inner_act y))).judged frame head at note h)
  act_step (Act-F.Block m ks) head at note h =
      bound stmts_first (bares ks) stmt_first _ _ _ (all_kept head ks h) (λ p g. stated_is at note (Act-F.Block m p.0) (act.rolls-Block m p.0) (Act-F.Block m (bares ks)) (ap (λ x. Act-F.Block m x) g))
  act_step Act-F.Empty head at note h = stated_is at note Act-F.Empty act.rolls-Empty Act-F.Empty refl
  act_step (Act-F.Local d) head at note h =
      bound decl_first (bare_decl d) stmt_first _ _ _ (local_kept frame d h) (λ p g. stated_is at note (Act-F.Local p.0) (act.rolls-Local p.0) (Act-F.Local (bare_decl d)) (ap (λ x. Act-F.Local x) g))
  act_step (Act-F.Assign e f) head at note h =
      bound stmt_first (placed at (rolled (Act-F.Assign (bare_expr e) (bare_expr f)))) stmt_first _ _ _ (sides_kept frame at note e f h) (λ p g.
      bound none tt stmt_first _ _ _ (any (behind_stores frame head (p.0 ∷ []) h.next p.1)) (λ i z. g))
  act_step (Act-F.Call e) head at note h =
      bound expr_first (bare_expr e) stmt_first _ _ _ (value_kept frame e h) (λ p g. stated_is at note (Act-F.Call p.0) (act.rolls-Call p.0) (Act-F.Call (bare_expr e)) (ap (λ x. Act-F.Call x) g))
  act_step (Act-F.If e k None) head at note h =
      bound branch_first (bare_expr e) stmt_first _ _ _ (branch_kept frame false e h) (λ p g. bound stmt_first (bare_stmt k.0) stmt_first _ _ _ (k.1.judged head p.1) (λ q i.
      stated_is at note (Act-F.If p.0.condition q.0 None) (act.rolls-If p.0.condition q.0 None) (Act-F.If (bare_expr e) (bare_stmt k.0) None) (two (λ x z. Act-F.If x z None) g i)))
  act_step (Act-F.If e k (Some j)) head at note h =
      bound branch_first (bare_expr e) stmt_first _ _ _ (branch_kept frame false e h) (λ p g. bound stmt_first (bare_stmt k.0) stmt_first _ _ _ (k.1.judged head p.1) (λ q i.
      bound part_first (Some (bare_stmt j.0)) stmt_first _ _ _ (some_kept head j _) (λ r f.
      stated_is at note (Act-F.If p.0.condition q.0 r.0) (act.rolls-If p.0.condition q.0 r.0) (Act-F.If (bare_expr e) (bare_stmt k.0) (Some (bare_stmt j.0)))
      (if_is p.0.condition q.0 r.0 ∙ two (λ x z. Act-F.If x z (option_map bare_stmt r.0)) g i ∙ ap (λ z. Act-F.If (bare_expr e) (bare_stmt k.0) z) f))))
  act_step (Act-F.While e k) head at note h =
      bound branch_first (bare_expr e) stmt_first _ _ _ (branch_kept frame _ e _) (λ p g. bound stmt_first (bare_stmt k.0) stmt_first _ _ _ (k.1.judged head p.1) (λ q i.
      stated_is at note (Act-F.While p.0.condition q.0) (act.rolls-While p.0.condition q.0) (Act-F.While (bare_expr e) (bare_stmt k.0)) (two (λ x z. Act-F.While x z) g i)))
  act_step (Act-F.For None e None k) head at note h =
      bound start_first (option_map bare_expr e) stmt_first _ _ _ (start_kept frame _ _ e _) (λ q g. bound stmt_first (bare_stmt k.0) stmt_first _ _ _ (k.1.judged head q.1) (λ r i.
      for_made at note None None q.0.condition r.0 None None (option_map bare_expr e) (bare_stmt k.0) refl g refl i))
  act_step (Act-F.For None e (Some j) k) head at note h =
      bound start_first (option_map bare_expr e) stmt_first _ _ _ (start_kept frame _ _ e _) (λ q g. bound stmt_first (bare_stmt k.0) stmt_first _ _ _ (k.1.judged head q.1) (λ r i.
      bound part_first (Some (bare_stmt j.0)) stmt_first _ _ _ (some_kept head j _) (λ v f.
      for_made at note None v.0 q.0.condition r.0 None (Some (bare_stmt j.0)) (option_map bare_expr e) (bare_stmt k.0) refl g f i)))
  act_step (Act-F.For (Some l) e None k) head at note h =
      bound part_first (Some (bare_stmt l.0)) stmt_first _ _ _ (some_kept head l h) (λ p b. bound start_first (option_map bare_expr e) stmt_first _ _ _ (start_kept frame _ _ e _) (λ q g.
      bound stmt_first (bare_stmt k.0) stmt_first _ _ _ (k.1.judged head q.1) (λ r i.
      for_made at note p.0 None q.0.condition r.0 (Some (bare_stmt l.0)) None (option_map bare_expr e) (bare_stmt k.0) b g refl i)))
  act_step (Act-F.For (Some l) e (Some j) k) head at note h =
      bound part_first (Some (bare_stmt l.0)) stmt_first _ _ _ (some_kept head l h) (λ p b. bound start_first (option_map bare_expr e) stmt_first _ _ _ (start_kept frame _ _ e _) (λ q g.
      bound stmt_first (bare_stmt k.0) stmt_first _ _ _ (k.1.judged head q.1) (λ r i. bound part_first (Some (bare_stmt j.0)) stmt_first _ _ _ (some_kept head j _) (λ v f.
      for_made at note p.0 v.0 q.0.condition r.0 (Some (bare_stmt l.0)) (Some (bare_stmt j.0)) (option_map bare_expr e) (bare_stmt k.0) b g f i))))
  act_step (Act-F.Return e) head at note h =
      bound value_first (option_map bare_expr e) stmt_first _ _ _ (maybe_kept frame e h) (λ p g.
      kept stmt_first (placed at (rolled (Act-F.Return (option_map bare_expr e)))) (not (is_returned frame head p.0 h.next p.1)) not_contained at (Ok (stated at note (act.Return p.0), gone frame p.1))
      (stated_is at note (Act-F.Return p.0) (act.rolls-Return p.0) (Act-F.Return (option_map bare_expr e)) (ap (λ x. Act-F.Return x) g)))
  act_step Act-F.Break head at note h = stated_is at note Act-F.Break act.rolls-Break Act-F.Break refl
  act_step Act-F.Continue head at note h = stated_is at note Act-F.Continue act.rolls-Continue Act-F.Continue refl
  act_step (Act-F.Check e) head at note h =
      bound expr_first (bare_expr e) stmt_first _ _ _ (value_kept frame e h) (λ p g. stated_is at note (Act-F.Check p.0) (act.rolls-Check p.0) (Act-F.Check (bare_expr e)) (ap (λ x. Act-F.Check x) g))
  act_step (Act-F.Bundle ks) head at note h = bundle_kept head at note ks h

  part_step : (y : Act-F Name Note KeptAct KeptStmt) (bundle at : Pos) (note : Note) (h : Here)
      → Keeps stmt_first (placed at (rolled (bared (inner_act y)))) ((act_path (act_inside (inner_act y))).part frame bundle at note h)
  part_step (Act-F.Assign e f) bundle at note h = sides_kept frame at note e f h
  part_step y bundle at note h = tt

  act_by : (x : Layer) (y : Act-F Name Note KeptAct KeptStmt) → inner_act y ≡ x → ActKept (roll-Act Name Note x)
  act_by x y is =
      let e : act_path (act_inside (inner_act y)) ≡ path_of_act (roll-Act Name Note x) = sym (fold-roll-Act Name Note ActPath Path act_path stmt_path x ∙ ap (λ z. act_path (act_inside z)) (sym is)) in
      let m : rolled (bared (inner_act y)) ≡ bare_act (roll-Act Name Note x) = sym (fold-roll-Act Name Note (BareAct Name) (BareStmt Name) act_bared stmt_bared x ∙ ap (λ z. rolled (bared z)) (sym is)) in
      record {
        judged = λ head at note h. subst (λ b. Keeps stmt_first (placed at b) ((path_of_act (roll-Act Name Note x)).judged frame head at note h)) m
            (subst (λ (p : ActPath). Keeps stmt_first (placed at (rolled (bared (inner_act y)))) (p.judged frame head at note h)) e (act_step y head at note h));
        part = λ bundle at note h. subst (λ b. Keeps stmt_first (placed at b) ((path_of_act (roll-Act Name Note x)).part frame bundle at note h)) m
            (subst (λ (p : ActPath). Keeps stmt_first (placed at (rolled (bared (inner_act y)))) (p.part frame bundle at note h)) e (part_step y bundle at note h));
      }

  stmt_by : (x : Stmt-F Name Note NotedAct NotedStmt) (y : Stmt-F Name Note KeptAct KeptStmt) → inner_stmt y ≡ x → StmtKept (roll-Stmt Name Note x)
  stmt_by x y is =
      let e : stmt_path (stmt_inside (inner_stmt y)) ≡ path (roll-Stmt Name Note x) = sym (fold-roll-Stmt Name Note ActPath Path act_path stmt_path x ∙ ap (λ z. stmt_path (stmt_inside z)) (sym is)) in
      let m : placed y.pos (bare_act y.body.0) ≡ bare_stmt (roll-Stmt Name Note x) =
      sym (fold-roll-Stmt Name Note (BareAct Name) (BareStmt Name) act_bared stmt_bared x ∙ ap (λ (z : Stmt-F Name Note NotedAct NotedStmt). placed z.pos (bare_act z.body)) (sym is)) in
      record {
        judged = λ head h. subst (λ b. Keeps stmt_first b ((path (roll-Stmt Name Note x)).judged frame head h)) m
            (subst (λ (p : Path). Keeps stmt_first (placed y.pos (bare_act y.body.0)) (p.judged frame head h)) e (y.body.1.judged head y.pos y.note h));
        part = λ bundle h. subst (λ b. Keeps stmt_first b ((path (roll-Stmt Name Note x)).part frame bundle h)) m
            (subst (λ (p : Path). Keeps stmt_first (placed y.pos (bare_act y.body.0)) (p.part frame bundle h)) e (y.body.1.part bundle y.pos y.note h));
      }

  stmt_kept : (s : NotedStmt) → StmtKept s
  stmt_kept = ind-Stmt Name Note ActKept StmtKept act_by stmt_by

-- ---- items

object_kept : (frame : Frame) (d : NotedDecl) → Keeps bare_decl (bare_decl d) (object_judged frame d)
object_kept frame d =
    bound none tt bare_decl _ _ _ (any (bounds_there frame d)) (λ b z. bound init_first (bare_init d.init) bare_decl _ _ _ (init_kept frame d.init (outside frame)) (λ p h. decl_kept d p.0 h))

pub body_kept : (frame : Frame) (h : NotedHead) (body : NotedStmt) → Keeps bare_stmt (bare_stmt body) (body_judged frame h body)
body_kept frame h body =
    bound stmt_first (bare_stmt body) bare_stmt _ _ _ ((stmt_kept (function_frame frame h body) body).judged (head_bounds frame h) (begin_of frame h body)) (λ p g. g)

head_stays : (frame : Frame) (h : NotedHead) → Keeps bare_head (bare_head h) (head_kept frame h)
head_stays frame h = bound none tt bare_head _ _ _ (any (head_judged (params_frame frame h) h)) (λ b z. refl)

item_kept : (frame : Frame) (i : NotedItem) → Keeps bare_item (bare_item i) (item_judged frame i)
item_kept frame (item.Directive d) = refl
item_kept frame (item.Tag n at) = refl
item_kept frame (item.Struct n ms at) = bound none tt bare_item _ _ _ (any (members_judged frame (member_holder n) ms)) (λ u z. refl)
item_kept frame (item.Static d) = bound bare_decl (bare_decl d) bare_item _ _ _ (object_kept frame d) (λ e h. ap (λ x. item.Static x) h)
item_kept frame (item.Proto h) = bound bare_head (bare_head h) bare_item _ _ _ (head_stays frame h) (λ g k. ap (λ x. item.Proto x) k)
item_kept frame (item.Function h body) =
    bound bare_head (bare_head h) bare_item _ _ _ (head_stays frame h) (λ g k. bound bare_stmt (bare_stmt body) bare_item _ _ _ (body_kept frame h body) (λ s j.
    two (λ x y. item.Function x y) k j))

items_kept : (frame : Frame) (is : List NotedItem) → Keeps (map bare_item) (map bare_item is) (items_judged frame is)
items_kept frame [] = refl
items_kept frame (i ∷ is) =
    bound bare_item (bare_item i) (map bare_item) _ _ _ (item_kept frame i) (λ j h. bound (map bare_item) (map bare_item is) (map bare_item) _ _ _ (items_kept frame is) (λ js g. two (λ x xs. x ∷ xs) h g))

text_kept : (q : Typed) → Keeps (λ (p : Typed). without_notes p.tree) (without_notes q.tree) (text_judged q)
text_kept q =
    bound (map bare_item) (map bare_item q.tree.items) (λ (p : Typed). without_notes p.tree) _ _ _ (items_kept (text_frame q.layout q.statics q.tree.items) q.tree.items) (λ items h. ap (λ x. record { items = x }) h)

pub same_tree : (q p : Typed) → text_judged q ≡ Ok p → without_notes p.tree ≡ without_notes q.tree
same_tree q p e = let P : Outcome Typed → Type 0 = λ o. Keeps (λ (r : Typed). without_notes r.tree) (without_notes q.tree) o in subst P e (text_kept q)
