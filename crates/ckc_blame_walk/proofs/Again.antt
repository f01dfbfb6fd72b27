-- What a statement becomes is its twin.
use Rattle.std.proofs.Common.{◌≡◌, refl, sym, ap, subst, ◌∙◌, Bool, true, false, List, [], ◌∷◌, ◌++◌, map, length}
use Rattle.std.specs.Prelude.{◌||◌, not, if◌then◌else◌, Option, None, Some, Ok}
use Rattle.ckc_base.specs.declared.places.Pos.{Pos}
use Rattle.ckc_base.specs.declared.arithmetic.Mode.{Mode}
use Rattle.ckc_base.specs.Outcomes.{Outcome, bind, refused}
use Rattle.ckc_syntax.specs.Inside.{listed, one_has, inside_each, inside_if, inside_init}
use Rattle.ckc_syntax.specs.declared.tree.Name.{Name}
use Rattle.ckc_syntax.specs.declared.tree.Init.TheVariants as init
use Rattle.ckc_syntax.specs.declared.tree.Expr.{fold-roll-Expr}
use Rattle.ckc_syntax.specs.declared.tree.Act.{Act-F, map-Act, roll-Act, fold-roll-Act}
use Rattle.ckc_syntax.specs.declared.tree.Act.TheVariants as act
use Rattle.ckc_syntax.specs.declared.tree.Stmt.{Stmt-F, map-Stmt, ind-Stmt, roll-Stmt, fold-roll-Stmt}
use Rattle.ckc_typed.specs.declared.typed.Note.{Note}
use Rattle.ckc_typed.specs.Trees.{NotedAct, NotedDecl, NotedExpr, NotedInit, NotedStmt}
use Rattle.ckc_blame_sound.specs.ckc_bounds_points.specs.declared.frame.HeadBounds.{HeadBounds}
use Rattle.ckc_blame_sound.specs.ckc_bounds_points.specs.declared.frame.Frame.{Frame}
use Rattle.ckc_blame_sound.specs.ckc_bounds_points.specs.Flow.{joined}
use Rattle.ckc_blame_sound.specs.ckc_bounds_points.specs.Codes.{not_contained, bad_bundle}
use Rattle.ckc_blame_sound.specs.ckc_bounds_views.specs.Parts.{LimitsView, NodeView, View, fresh_behind}
use Rattle.ckc_blame_sound.specs.ckc_bounds_views.specs.Views.{limits_view, node_view, expr_view, view}
use Rattle.ckc_blame_sound.specs.ckc_bounds_statements.specs.Paths.{Here, expr_judged, value_judged, values_judged, maybe_judged, init_judged, side_of, starts_within, declared_here, bounds_judged, stated, sides_judged, behind_stores, gone, is_returned, is_good, needs_expr, Path, ActPath, ActOfPaths, act_path, stmt_path, path_of_act, path, all_judged, parts_judged, bundle_judged, part_judged, closed, other_side, maybe_side, maybe_other, if_judged, for_judged, loop_head, maybe_point, to_step}
use Rattle.ckc_blame_walk.proofs.Pieces.{Gives, through, nested, given, unless_gives, as_list, named_list, value_named}
use Rattle.ckc_blame_sound.proofs.SameViews.{same_view}
use Rattle.ckc_blame_walk.proofs.Walk.{unless_nested}
use Rattle.ckc_blame_walk.proofs.Twins.{TwinExpr, TwinValue, TwinAll, TwinInit, bare, Twin, TwinIf, TwinList, needs_same, sides_counted}
use Rattle.ckc_blame_walk.proofs.Acts.{two, bare_both, each_same, some_same, each_bare, some_bare, value_needs, value_none, TwinAct, if_twin, while_twin, for_twin, local_twin, assign_twin, call_twin, check_twin, return_twin, bundle_twin, block_twin}

all_need : (frame : Frame) (es fs : List NotedExpr) → TwinAll es fs → inside_each one_has (needs_expr frame) es ≡ inside_each one_has (needs_expr frame) fs
all_need frame [] [] twin = refl
all_need frame (e ∷ es) (f ∷ fs) twin = two (λ a b. a || b) (needs_same frame e f twin.0) (all_need frame es fs twin.1)
all_need frame [] (f ∷ fs) twin = absurd twin
all_need frame (e ∷ es) [] twin = absurd twin

init_needs : (frame : Frame) (i j : NotedInit) → TwinInit i j → inside_init one_has (needs_expr frame) i ≡ inside_init one_has (needs_expr frame) j
init_needs frame init.Nothing init.Nothing twin = refl
init_needs frame (init.One e) (init.One f) twin = needs_same frame e f twin
init_needs frame (init.Many es) (init.Many fs) twin = all_need frame es fs twin
init_needs frame init.Nothing (init.One f) twin = absurd twin
init_needs frame init.Nothing (init.Many fs) twin = absurd twin
init_needs frame (init.One e) init.Nothing twin = absurd twin
init_needs frame (init.One e) (init.Many fs) twin = absurd twin
init_needs frame (init.Many es) init.Nothing twin = absurd twin
init_needs frame (init.Many es) (init.One f) twin = absurd twin

-- ---- acts

abbrev Acts : ActOfPaths → ActOfPaths → Type 0
Acts x y = TwinAct (act_path x) (act_path y)

block_acts : (m : Option Mode) (ss ts : List Path) → TwinList ss ts → Acts (Act-F.Block m ss) (Act-F.Block m ts)
block_acts m ss ts twin = record {
  declared = each_bare ss ts twin;
  may_need = λ f. each_same one_has (λ (s : Path). s.may_need f) (λ s t w. w.may_need f) ss ts twin;
  assigned = each_same listed (λ (s : Path). s.assigned) (λ s t w. w.assigned) ss ts twin;
  breaks = each_same one_has (λ (s : Path). s.breaks) (λ s t w. w.breaks) ss ts twin;
  continues = each_same one_has (λ (s : Path). s.continues) (λ s t w. w.continues) ss ts twin;
  part = λ f bundle at note h c. tt;
  judged = λ f head at note h c. block_twin f head at note m m ss ts twin h c;
}

bundle_acts : (ss ts : List Path) → TwinList ss ts → Acts (Act-F.Bundle ss) (Act-F.Bundle ts)
bundle_acts ss ts twin = record {
  declared = each_bare ss ts twin;
  may_need = λ f. each_same one_has (λ (s : Path). s.may_need f) (λ s t w. w.may_need f) ss ts twin;
  assigned = each_same listed (λ (s : Path). s.assigned) (λ s t w. w.assigned) ss ts twin;
  breaks = each_same one_has (λ (s : Path). s.breaks) (λ s t w. w.breaks) ss ts twin;
  continues = each_same one_has (λ (s : Path). s.continues) (λ s t w. w.continues) ss ts twin;
  part = λ f bundle at note h c. tt;
  judged = λ f head at note h c. bundle_twin f head at note ss ts twin h c;
}

empty_acts : Acts Act-F.Empty Act-F.Empty
empty_acts = record { declared = refl; may_need = λ f. refl; assigned = refl; breaks = refl; continues = refl; part = λ f bundle at note h c. tt; judged = λ f head at note h c. (refl, c) }

break_acts : Acts Act-F.Break Act-F.Break
break_acts = record { declared = refl; may_need = λ f. refl; assigned = refl; breaks = refl; continues = refl; part = λ f bundle at note h c. tt; judged = λ f head at note h c. (refl, c) }

continue_acts : Acts Act-F.Continue Act-F.Continue
continue_acts = record { declared = refl; may_need = λ f. refl; assigned = refl; breaks = refl; continues = refl; part = λ f bundle at note h c. tt; judged = λ f head at note h c. (refl, c) }

local_acts : (d : NotedDecl) (i : NotedInit) → TwinInit i d.init → Acts (Act-F.Local (record d { init = i })) (Act-F.Local d)
local_acts d i twin = record {
  declared = refl;
  may_need = λ f. init_needs f i d.init twin;
  assigned = refl;
  breaks = refl;
  continues = refl;
  part = λ f bundle at note h c. tt;
  judged = λ f head at note h c. local_twin f head at note d i d.init twin h c;
}

assign_acts : (frame : Frame) (a b e f : NotedExpr) → TwinExpr a e → TwinExpr b f → Acts (Act-F.Assign a b) (Act-F.Assign e f)
assign_acts frame a b e f left right = record {
  declared = refl;
  may_need = λ g. two (λ x y. x || y) (needs_same g a e left) (needs_same g b f right);
  assigned = sym (named_list frame a) ∙ ap (as_list frame) left.named ∙ named_list frame e;
  breaks = refl;
  continues = refl;
  part = λ g bundle at note h c. sides_counted g at note a b e f h c left right;
  judged = λ g head at note h c. assign_twin g head at note a b e f left right h c;
}

call_acts : (e f : NotedExpr) → TwinExpr e f → Acts (Act-F.Call e) (Act-F.Call f)
call_acts e f twin = record { declared = refl; may_need = λ g. needs_same g e f twin; assigned = refl; breaks = refl; continues = refl; part = λ g bundle at note h c. tt; judged = λ g head at note h c. call_twin g head at note e f twin h c }

check_acts : (e f : NotedExpr) → TwinExpr e f → Acts (Act-F.Check e) (Act-F.Check f)
check_acts e f twin = record { declared = refl; may_need = λ g. needs_same g e f twin; assigned = refl; breaks = refl; continues = refl; part = λ g bundle at note h c. tt; judged = λ g head at note h c. check_twin g head at note e f twin h c }

return_acts : (e f : Option NotedExpr) → TwinValue e f → Acts (Act-F.Return e) (Act-F.Return f)
return_acts e f twin = record {
  declared = ap (map bare) (value_none [] listed e f twin);
  may_need = λ g. value_needs g e f twin;
  assigned = value_none [] listed e f twin;
  breaks = value_none false one_has e f twin;
  continues = value_none false one_has e f twin;
  part = λ g bundle at note h c. tt;
  judged = λ g head at note h c. return_twin g head at note e f twin h c;
}

if_acts : (e f : NotedExpr) (s t : Path) (u v : Option Path) → TwinExpr e f → Twin s t → TwinIf u v → Acts (Act-F.If e s u) (Act-F.If f t v)
if_acts e f s t u v twin one other = record {
  declared = bare_both s.declared t.declared (inside_if listed (λ (s : Path). s.declared) u) (inside_if listed (λ (s : Path). s.declared) v) one.declared (some_bare u v other);
  may_need = λ g. two (λ x y. x || y) (two (λ x y. x || y) (needs_same g e f twin) (one.may_need g)) (some_same one_has (λ (s : Path). s.may_need g) (λ s t w. w.may_need g) u v other);
  assigned = two (λ x y. x ++ y) one.assigned (some_same listed (λ (s : Path). s.assigned) (λ s t w. w.assigned) u v other);
  breaks = two (λ x y. x || y) one.breaks (some_same one_has (λ (s : Path). s.breaks) (λ s t w. w.breaks) u v other);
  continues = two (λ x y. x || y) one.continues (some_same one_has (λ (s : Path). s.continues) (λ s t w. w.continues) u v other);
  part = λ g bundle at note h c. tt;
  judged = λ g head at note h c. if_twin g head at note e f s t u v twin one other h c;
}

while_acts : (e f : NotedExpr) (s t : Path) → TwinExpr e f → Twin s t → Acts (Act-F.While e s) (Act-F.While f t)
while_acts e f s t twin one = record {
  declared = one.declared;
  may_need = λ g. two (λ x y. x || y) (needs_same g e f twin) (one.may_need g);
  assigned = one.assigned;
  breaks = refl;
  continues = refl;
  part = λ g bundle at note h c. tt;
  judged = λ g head at note h c. while_twin g head at note e f s t twin one h c;
}

for_acts : (i j : Option Path) (e f : Option NotedExpr) (u v : Option Path) (s t : Path) → TwinIf i j → TwinValue e f → TwinIf u v → Twin s t → Acts (Act-F.For i e u s) (Act-F.For j f v t)
for_acts i j e f u v s t first twin step one = record {
  declared = bare_both _ _ _ _ (some_bare i j first)
      (bare_both _ _ _ _ (ap (map bare) (value_none [] listed e f twin)) (bare_both s.declared t.declared _ _ one.declared (some_bare u v step)));
  may_need = λ g. two (λ x y. x || y) (some_same one_has (λ (s : Path). s.may_need g) (λ s t w. w.may_need g) i j first)
      (two (λ x y. x || y) (value_needs g e f twin) (two (λ x y. x || y) (one.may_need g) (some_same one_has (λ (s : Path). s.may_need g) (λ s t w. w.may_need g) u v step)));
  assigned = two (λ x y. x ++ y) (some_same listed (λ (s : Path). s.assigned) (λ s t w. w.assigned) i j first)
      (two (λ x y. x ++ y) (value_none [] listed e f twin) (two (λ x y. x ++ y) one.assigned (some_same listed (λ (s : Path). s.assigned) (λ s t w. w.assigned) u v step)));
  breaks = refl;
  continues = refl;
  part = λ g bundle at note h c. tt;
  judged = λ g head at note h c. for_twin g head at note i j e f u v s t first twin step one h c;
}

-- ---- expressions

module _ (frame : Frame) where
  type_is : (e : NotedExpr) → (view frame e).ctype ≡ e.note.ctype
  type_is e = ap (λ (v : View). v.ctype) (fold-roll-Expr Name Note LimitsView NodeView View limits_view (node_view frame) expr_view (record { node = e.node; pos = e.pos; note = e.note }))

  value_views : (e : NotedExpr) (here : Here) → Gives (λ p. (inside : Frame) → view inside p.0 ≡ view inside e) (value_judged frame e here)
  unfolding value_judged
  value_views e here =
      through (λ (p : NotedExpr × Here). (inside : Frame) → view inside p.0 ≡ view inside e) (expr_judged frame e here) (λ f. Ok (f, record here { next = fresh_behind (view frame e) here.next here.at })) (λ f is.
      given (λ (p : NotedExpr × Here). (inside : Frame) → view inside p.0 ≡ view inside e) (f, record here { next = fresh_behind (view frame e) here.next here.at }) (by here.counting f is))
    where
      by : (b : Bool) (f : NotedExpr) → ◌≡◌ {A = Outcome NotedExpr} (if b then Ok e else (view frame e).judged here.next here.at) (Ok f) → (inside : Frame) → view inside f ≡ view inside e
      by true f is inside = let same : e ≡ f = cc in ap (view inside) (sym same)
      by false f is inside = same_view frame e f here.next here.at is inside

  value_twin : (e : NotedExpr) (here : Here) → Gives (λ p. TwinExpr p.0 e) (value_judged frame e here)
  value_twin e here = record {
    made = λ p is.
        let views = (value_views e here).made p is in
        record { views = views; named = (value_named frame e here).made p is; ctype = sym (type_is p.0) ∙ ap (λ (v : View). v.ctype) (views frame) ∙ type_is e };
  }

  maybe_twin : (e : Option NotedExpr) (here : Here) → Gives (λ p. TwinValue p.0 e) (maybe_judged frame e here)
  maybe_twin None here = given (λ (p : Option NotedExpr × Here). TwinValue p.0 None) (None, here) tt
  maybe_twin (Some e) here =
      through (λ (p : Option NotedExpr × Here). TwinValue p.0 (Some e)) (value_judged frame e here) _ (λ p is.
      given (λ (p : Option NotedExpr × Here). TwinValue p.0 (Some e)) (Some p.0, p.1) ((value_twin e here).made p is))

  values_twin : (es : List NotedExpr) (here : Here) → Gives (λ p. TwinAll p.0 es) (values_judged frame es here)
  values_twin [] here = given (λ (p : List NotedExpr × Here). TwinAll p.0 []) ([], here) tt
  values_twin (e ∷ es) here =
      through (λ (p : List NotedExpr × Here). TwinAll p.0 (e ∷ es)) (value_judged frame e here) _ (λ p is.
      through (λ (p : List NotedExpr × Here). TwinAll p.0 (e ∷ es)) (values_judged frame es p.1) _ (λ q rest.
      given (λ (p : List NotedExpr × Here). TwinAll p.0 (e ∷ es)) (p.0 ∷ q.0, q.1) ((value_twin e here).made p is, (values_twin es p.1).made q rest)))

  init_twin : (i : NotedInit) (here : Here) → Gives (λ p. TwinInit p.0 i) (init_judged frame i here)
  init_twin init.Nothing here = given (λ (p : NotedInit × Here). TwinInit p.0 init.Nothing) (init.Nothing, here) tt
  init_twin (init.One e) here =
      through (λ (p : NotedInit × Here). TwinInit p.0 (init.One e)) (value_judged frame e here) _ (λ p is.
      given (λ (p : NotedInit × Here). TwinInit p.0 (init.One e)) (init.One p.0, p.1) ((value_twin e here).made p is))
  init_twin (init.Many es) here =
      through (λ (p : NotedInit × Here). TwinInit p.0 (init.Many es)) (values_judged frame es here) _ (λ p is.
      given (λ (p : NotedInit × Here). TwinInit p.0 (init.Many es)) (init.Many p.0, p.1) ((values_twin es here).made p is))

  -- ---- statements

  abbrev act_inside : Act-F Name Note NotedAct NotedStmt → ActOfPaths
  act_inside = map-Act Name Note NotedAct NotedStmt ActPath Path path_of_act path

  abbrev placed : Pos → Note → ActPath → Path
  placed at note a = stmt_path (record { body = a; pos = at; note = note })

  made : (x : Act-F Name Note NotedAct NotedStmt) (a : NotedAct) (b : ActPath) (at : Pos) (note : Note) → roll-Act Name Note x ≡ a → TwinAct (act_path (act_inside x)) b
      → Twin (path (stated at note a)) (placed at note b)
  made x a b at note rolled twin =
      let act_is : path_of_act a ≡ act_path (act_inside x) = ap path_of_act (sym rolled) ∙ fold-roll-Act Name Note ActPath Path act_path stmt_path x in
      let is : path (stated at note a) ≡ placed at note (act_path (act_inside x)) =
      fold-roll-Stmt Name Note ActPath Path act_path stmt_path (record { body = a; pos = at; note = note }) ∙ ap (placed at note) act_is in
      subst (λ p. Twin p (placed at note b)) (sym is) (record {
        declared = twin.declared;
        may_need = twin.may_need;
        assigned = twin.assigned;
        breaks = twin.breaks;
        continues = twin.continues;
        part = λ f bundle h c. twin.part f bundle at note h c;
        judged = λ f head h c. twin.judged f head at note h c;
      })

  record ActAgain (p : ActPath) : Type 0 where
    pub judged : (head : HeadBounds) (at : Pos) (note : Note) (here : Here) → Gives (λ q. Twin (path q.0) (placed at note p)) (p.judged frame head at note here)
    pub part : (bundle at : Pos) (note : Note) (here : Here) → Gives (λ q. Twin (path q.0) (placed at note p)) (p.part frame bundle at note here)

  record AnyAgain (a : NotedAct) : Type 0 where
    pub again : ActAgain (path_of_act a)

  pub record StmtAgain (st : NotedStmt) : Type 0 where
    pub judged : (head : HeadBounds) (here : Here) → Gives (λ q. Twin (path q.0) (path st)) ((path st).judged frame head here)
    pub part : (bundle : Pos) (here : Here) → Gives (λ q. Twin (path q.0) (path st)) ((path st).part frame bundle here)

  abbrev KeptAct : Type 0
  KeptAct = (a : NotedAct) × AnyAgain a

  abbrev KeptStmt : Type 0
  KeptStmt = (st : NotedStmt) × StmtAgain st

  abbrev inner_act : Act-F Name Note KeptAct KeptStmt → Act-F Name Note NotedAct NotedStmt
  inner_act = map-Act Name Note KeptAct KeptStmt NotedAct NotedStmt (λ e. e.0) (λ e. e.0)

  abbrev inner_stmt : Stmt-F Name Note KeptAct KeptStmt → Stmt-F Name Note NotedAct NotedStmt
  inner_stmt = map-Stmt Name Note KeptAct KeptStmt NotedAct NotedStmt (λ e. e.0) (λ e. e.0)

  abbrev stmt_inside : Stmt-F Name Note NotedAct NotedStmt → Stmt-F Name Note ActPath Path
  stmt_inside = map-Stmt Name Note NotedAct NotedStmt ActPath Path path_of_act path

  abbrev paths_of : List KeptStmt → List Path
  paths_of ks = map path (map (λ (k : KeptStmt). k.0) ks)

  all_again : (head : HeadBounds) (ks : List KeptStmt) (here : Here) → Gives (λ q. TwinList (map path q.0) (paths_of ks)) (all_judged frame head (paths_of ks) here)
  unfolding all_judged
  all_again head [] here = given (λ (q : List NotedStmt × Here). TwinList (map path q.0) []) ([], here) tt
  all_again head (k ∷ ks) here =
      through (λ (q : List NotedStmt × Here). TwinList (map path q.0) (paths_of (k ∷ ks))) ((path k.0).judged frame head here) _ (λ p is.
      through (λ (q : List NotedStmt × Here). TwinList (map path q.0) (paths_of (k ∷ ks))) (all_judged frame head (paths_of ks) p.1) _ (λ q rest.
      given (λ (q : List NotedStmt × Here). TwinList (map path q.0) (paths_of (k ∷ ks))) (p.0 ∷ q.0, q.1) ((k.1.judged head here).made p is, (all_again head ks p.1).made q rest)))

  parts_again : (bundle : Pos) (ks : List KeptStmt) (here : Here) → Gives (λ q. TwinList (map path q.0) (paths_of ks)) (parts_judged frame bundle (paths_of ks) here)
  unfolding parts_judged
  parts_again bundle [] here = given (λ (q : List NotedStmt × Here). TwinList (map path q.0) []) ([], here) tt
  parts_again bundle (k ∷ ks) here =
      through (λ (q : List NotedStmt × Here). TwinList (map path q.0) (paths_of (k ∷ ks))) ((path k.0).part frame bundle here) _ (λ p is.
      through (λ (q : List NotedStmt × Here). TwinList (map path q.0) (paths_of (k ∷ ks))) (parts_judged frame bundle (paths_of ks) p.1) _ (λ q rest.
      given (λ (q : List NotedStmt × Here). TwinList (map path q.0) (paths_of (k ∷ ks))) (p.0 ∷ q.0, q.1) ((k.1.part bundle here).made p is, (parts_again bundle ks p.1).made q rest)))

  abbrev Made : Pos → Note → ActOfPaths → NotedStmt × Here → Type 0
  Made at note x q = Twin (path q.0) (placed at note (act_path x))

  no_part : (at : Pos) (note : Note) (x : ActOfPaths) (bundle : Pos) → Gives (Made at note x) (refused bad_bundle bundle)
  no_part at note x bundle = record { made = λ q e. absurd (cc) }

  sides_again : (e f : NotedExpr) (at : Pos) (note : Note) (here : Here) → Gives (Made at note (Act-F.Assign e f)) (sides_judged frame at note e f here)
  sides_again e f at note here =
      through (Made at note (Act-F.Assign e f)) (value_judged frame e here) _ (λ p is.
      through (Made at note (Act-F.Assign e f)) (value_judged frame f p.1) _ (λ q right_is.
      given (Made at note (Act-F.Assign e f)) (stated at note (act.Assign p.0 q.0), q.1)
      (made (Act-F.Assign p.0 q.0) (act.Assign p.0 q.0) (act_path (Act-F.Assign e f)) at note (act.rolls-Assign p.0 q.0)
      (assign_acts frame p.0 q.0 e f ((value_twin e here).made p is) ((value_twin f p.1).made q right_is)))))

  -- a branch, a begin or a step that may be left out
  abbrev path_if : Option NotedStmt → Option Path
  path_if None = None
  path_if (Some st) = Some (path st)

  if_again : (head : HeadBounds) (k : KeptStmt) (here : Here) → Gives (λ r. TwinIf (path_if r.0) (Some (path k.0))) (part_judged frame head (Some (path k.0)) here)
  if_again head k here =
      through (λ (r : Option NotedStmt × Here). TwinIf (path_if r.0) (Some (path k.0))) ((path k.0).judged frame head here) _ (λ p is.
      given (λ (r : Option NotedStmt × Here). TwinIf (path_if r.0) (Some (path k.0))) (Some p.0, p.1) ((k.1.judged head here).made p is))

  none_again : (head : HeadBounds) (here : Here) → Gives (λ r. TwinIf (path_if r.0) None) (part_judged frame head None here)
  none_again head here = given (λ (r : Option NotedStmt × Here). TwinIf (path_if r.0) None) (None, here) tt

  if_made : (at : Pos) (note : Note) (e : NotedExpr) (q : NotedStmt) (r : Option NotedStmt) (b : ActPath) → TwinAct (act_path (Act-F.If e (path q) (path_if r))) b
      → Twin (path (stated at note (act.If e q r))) (placed at note b)
  if_made at note e q None b twin = made (Act-F.If e q None) (act.If e q None) b at note (act.rolls-If e q None) twin
  if_made at note e q (Some r) b twin = made (Act-F.If e q (Some r)) (act.If e q (Some r)) b at note (act.rolls-If e q (Some r)) twin

  for_made : (at : Pos) (note : Note) (i : Option NotedStmt) (e : Option NotedExpr) (t : Option NotedStmt) (q : NotedStmt) (b : ActPath)
      → TwinAct (act_path (Act-F.For (path_if i) e (path_if t) (path q))) b → Twin (path (stated at note (act.For i e t q))) (placed at note b)
  for_made at note None e None q b twin = made (Act-F.For None e None q) (act.For None e None q) b at note (act.rolls-For None e None q) twin
  for_made at note None e (Some t) q b twin = made (Act-F.For None e (Some t) q) (act.For None e (Some t) q) b at note (act.rolls-For None e (Some t) q) twin
  for_made at note (Some i) e None q b twin = made (Act-F.For (Some i) e None q) (act.For (Some i) e None q) b at note (act.rolls-For (Some i) e None q) twin
  for_made at note (Some i) e (Some t) q b twin = made (Act-F.For (Some i) e (Some t) q) (act.For (Some i) e (Some t) q) b at note (act.rolls-For (Some i) e (Some t) q) twin

  if_gives : (head : HeadBounds) (at : Pos) (note : Note) (e : NotedExpr) (k : KeptStmt) (u : Option Path) → ((here : Here) → Gives (λ r. TwinIf (path_if r.0) u) (part_judged frame head u here)) → (here : Here)
      → Gives (Made at note (Act-F.If e (path k.0) u)) (if_judged frame head at note e (path k.0) u here)
  if_gives head at note e k u other here =
      nested (Made at note (Act-F.If e (path k.0) u)) (value_judged frame e here) _ _ (λ v is.
      through (Made at note (Act-F.If e (path k.0) u)) ((path k.0).judged frame head (record v.1 { at = side_of frame true v.0 v.1.at })) _ (λ q one_is.
      through (Made at note (Act-F.If e (path k.0) u)) (part_judged frame head u (record q.1 { at = side_of frame false v.0 v.1.at })) _ (λ r two_is.
      given (Made at note (Act-F.If e (path k.0) u)) (stated at note (act.If v.0 q.0 r.0), record r.1 { at = joined q.1.at r.1.at })
      (if_made at note v.0 q.0 r.0 (act_path (Act-F.If e (path k.0) u)) (if_acts v.0 e (path q.0) (path k.0) (path_if r.0) u ((value_twin e here).made v is)
      ((k.1.judged head (record v.1 { at = side_of frame true v.0 v.1.at })).made q one_is) ((other (record q.1 { at = side_of frame false v.0 v.1.at })).made r two_is))))))

  for_gives : (head : HeadBounds) (at : Pos) (note : Note) (i : Option Path) (e : Option NotedExpr) (u : Option Path) (k : KeptStmt)
      → ((here : Here) → Gives (λ r. TwinIf (path_if r.0) i) (part_judged frame head i here)) → ((here : Here) → Gives (λ r. TwinIf (path_if r.0) u) (part_judged frame head u here)) → (here : Here)
      → Gives (Made at note (Act-F.For i e u (path k.0))) (for_judged frame head at note i e u (path k.0) here)
  for_gives head at note i e u k first step here =
      through (Made at note (Act-F.For i e u (path k.0))) (part_judged frame head i here) _ (λ p init_is.
      nested (Made at note (Act-F.For i e u (path k.0))) (maybe_judged frame e (loop_head frame ((path k.0).assigned ++ inside_if listed (λ (v : Path). v.assigned) u) p.1)) _ _ (λ v judged.
      through (Made at note (Act-F.For i e u (path k.0))) ((path k.0).judged frame head (record v.1 { at = maybe_side frame true v.0 v.1.at })) _ (λ q body_is.
      through (Made at note (Act-F.For i e u (path k.0))) (part_judged frame head u (to_step (maybe_point (path k.0).continues v.1.at) q.1)) _ (λ x step_is.
      given (Made at note (Act-F.For i e u (path k.0))) (stated at note (act.For p.0 v.0 x.0 q.0), closed (length here.seen) (record x.1 { at = maybe_other frame (path k.0).breaks v.0 v.1.at }))
      (for_made at note p.0 v.0 x.0 q.0 (act_path (Act-F.For i e u (path k.0))) (for_acts (path_if p.0) i v.0 e (path_if x.0) u (path q.0) (path k.0) ((first here).made p init_is)
      ((maybe_twin e (loop_head frame ((path k.0).assigned ++ inside_if listed (λ (v : Path). v.assigned) u) p.1)).made v judged)
      ((step (to_step (maybe_point (path k.0).continues v.1.at) q.1)).made x step_is) ((k.1.judged head (record v.1 { at = maybe_side frame true v.0 v.1.at })).made q body_is)))))))

  bundle_gives : (head : HeadBounds) (at : Pos) (note : Note) (ks : List KeptStmt) (here : Here) → Gives (Made at note (Act-F.Bundle (paths_of ks))) (bundle_judged frame head at note (paths_of ks) here)
  unfolding bundle_judged
  bundle_gives head at note ks here =
      through (Made at note (Act-F.Bundle (paths_of ks))) (parts_judged frame at (paths_of ks) here) _ (λ p is.
      unless_gives (Made at note (Act-F.Bundle (paths_of ks))) (not (is_good p.1 p.0)) bad_bundle at
      (bind (behind_stores frame head p.0 here.next p.1) (λ h. Ok (stated at note (act.Bundle p.0), h)))
      (through (Made at note (Act-F.Bundle (paths_of ks))) (behind_stores frame head p.0 here.next p.1) _ (λ h stored.
      given (Made at note (Act-F.Bundle (paths_of ks))) (stated at note (act.Bundle p.0), h)
      (made (Act-F.Bundle p.0) (act.Bundle p.0) (act_path (Act-F.Bundle (paths_of ks))) at note (act.rolls-Bundle p.0) (bundle_acts (map path p.0) (paths_of ks) ((parts_again at ks here).made p is))))))

  abbrev Step : Act-F Name Note KeptAct KeptStmt → Type 0
  Step y = ActAgain (act_path (act_inside (inner_act y)))

  act_step : (y : Act-F Name Note KeptAct KeptStmt) → Step y
  act_step (Act-F.Block m ks) = record {
    judged = λ head at note here.
        through (Made at note (Act-F.Block m (paths_of ks))) (all_judged frame head (paths_of ks) here) _ (λ p is.
        given (Made at note (Act-F.Block m (paths_of ks))) (stated at note (act.Block m p.0), closed (length here.seen) p.1)
        (made (Act-F.Block m p.0) (act.Block m p.0) (act_path (Act-F.Block m (paths_of ks))) at note (act.rolls-Block m p.0) (block_acts m (map path p.0) (paths_of ks) ((all_again head ks here).made p is))));
    part = λ bundle at note here. no_part at note (Act-F.Block m (paths_of ks)) bundle;
  }
  act_step Act-F.Empty = record {
    judged = λ head at note here. given (Made at note Act-F.Empty) (stated at note act.Empty, here) (made Act-F.Empty act.Empty (act_path Act-F.Empty) at note act.rolls-Empty empty_acts);
    part = λ bundle at note here. no_part at note (Act-F.Empty) bundle;
  }
  act_step Act-F.Break = record {
    judged = λ head at note here. given (Made at note Act-F.Break) (stated at note act.Break, gone frame here) (made Act-F.Break act.Break (act_path Act-F.Break) at note act.rolls-Break break_acts);
    part = λ bundle at note here. no_part at note (Act-F.Break) bundle;
  }
  act_step Act-F.Continue = record {
    judged = λ head at note here. given (Made at note Act-F.Continue) (stated at note act.Continue, gone frame here) (made Act-F.Continue act.Continue (act_path Act-F.Continue) at note act.rolls-Continue continue_acts);
    part = λ bundle at note here. no_part at note (Act-F.Continue) bundle;
  }
  act_step (Act-F.Local d) = record {
    judged = λ head at note here.
        nested (Made at note (Act-F.Local d)) (bounds_judged frame d here) _ _ (λ b bounds_is.
        nested (Made at note (Act-F.Local d)) (init_judged frame d.init here) _ _ (λ i init_is.
        unless_nested (Made at note (Act-F.Local d)) (not (starts_within frame d.name i.0 here.next i.1)) not_contained d.pos (Ok (record d { init = i.0 }, declared_here frame d i.0 i.1)) _
        (given (Made at note (Act-F.Local d)) (stated at note (act.Local (record d { init = i.0 })), declared_here frame d i.0 i.1)
        (made (Act-F.Local (record d { init = i.0 })) (act.Local (record d { init = i.0 })) (act_path (Act-F.Local d)) at note (act.rolls-Local (record d { init = i.0 }))
        (local_acts d i.0 ((init_twin d.init here).made i init_is))))));
    part = λ bundle at note here. no_part at note (Act-F.Local d) bundle;
  }
  act_step (Act-F.Assign e f) = record {
    judged = λ head at note here.
        through (Made at note (Act-F.Assign e f)) (sides_judged frame at note e f here) _ (λ p is.
        through (Made at note (Act-F.Assign e f)) (behind_stores frame head (p.0 ∷ []) here.next p.1) _ (λ h stored.
        given (Made at note (Act-F.Assign e f)) (p.0, h) ((sides_again e f at note here).made p is)));
    part = λ bundle at note here. sides_again e f at note here;
  }
  act_step (Act-F.Call e) = record {
    judged = λ head at note here.
        through (Made at note (Act-F.Call e)) (value_judged frame e here) _ (λ p is.
        given (Made at note (Act-F.Call e)) (stated at note (act.Call p.0), p.1)
        (made (Act-F.Call p.0) (act.Call p.0) (act_path (Act-F.Call e)) at note (act.rolls-Call p.0) (call_acts p.0 e ((value_twin e here).made p is))));
    part = λ bundle at note here. no_part at note (Act-F.Call e) bundle;
  }
  act_step (Act-F.Check e) = record {
    judged = λ head at note here.
        through (Made at note (Act-F.Check e)) (value_judged frame e here) _ (λ p is.
        given (Made at note (Act-F.Check e)) (stated at note (act.Check p.0), record p.1 { at = side_of frame true p.0 p.1.at })
        (made (Act-F.Check p.0) (act.Check p.0) (act_path (Act-F.Check e)) at note (act.rolls-Check p.0) (check_acts p.0 e ((value_twin e here).made p is))));
    part = λ bundle at note here. no_part at note (Act-F.Check e) bundle;
  }
  act_step (Act-F.Return e) = record {
    judged = λ head at note here.
        through (Made at note (Act-F.Return e)) (maybe_judged frame e here) _ (λ p is.
        unless_gives (Made at note (Act-F.Return e)) (not (is_returned frame head p.0 here.next p.1)) not_contained at (Ok (stated at note (act.Return p.0), gone frame p.1))
        (given (Made at note (Act-F.Return e)) (stated at note (act.Return p.0), gone frame p.1)
        (made (Act-F.Return p.0) (act.Return p.0) (act_path (Act-F.Return e)) at note (act.rolls-Return p.0) (return_acts p.0 e ((maybe_twin e here).made p is)))));
    part = λ bundle at note here. no_part at note (Act-F.Return e) bundle;
  }
  act_step (Act-F.If e k None) = record {
    judged = λ head at note here. if_gives head at note e k None (none_again head) here;
    part = λ bundle at note here. no_part at note (Act-F.If e (path k.0) None) bundle;
  }
  act_step (Act-F.If e k (Some j)) = record {
    judged = λ head at note here. if_gives head at note e k (Some (path j.0)) (if_again head j) here;
    part = λ bundle at note here. no_part at note (Act-F.If e (path k.0) (Some (path j.0))) bundle;
  }
  act_step (Act-F.While e k) = record {
    judged = λ head at note here.
        nested (Made at note (Act-F.While e (path k.0))) (value_judged frame e (loop_head frame (path k.0).assigned here)) _ _ (λ v is.
        through (Made at note (Act-F.While e (path k.0))) ((path k.0).judged frame head (record v.1 { at = side_of frame true v.0 v.1.at })) _ (λ q body_is.
        given (Made at note (Act-F.While e (path k.0))) (stated at note (act.While v.0 q.0), record q.1 { at = other_side frame (path k.0).breaks v.0 v.1.at })
        (made (Act-F.While v.0 q.0) (act.While v.0 q.0) (act_path (Act-F.While e (path k.0))) at note (act.rolls-While v.0 q.0)
        (while_acts v.0 e (path q.0) (path k.0) ((value_twin e (loop_head frame (path k.0).assigned here)).made v is) ((k.1.judged head (record v.1 { at = side_of frame true v.0 v.1.at })).made q body_is)))));
    part = λ bundle at note here. no_part at note (Act-F.While e (path k.0)) bundle;
  }
  act_step (Act-F.For None e None k) = record {
    judged = λ head at note here. for_gives head at note None e None k (none_again head) (none_again head) here;
    part = λ bundle at note here. no_part at note (Act-F.For None e None (path k.0)) bundle;
  }
  act_step (Act-F.For None e (Some j) k) = record {
    judged = λ head at note here. for_gives head at note None e (Some (path j.0)) k (none_again head) (if_again head j) here;
    part = λ bundle at note here. no_part at note (Act-F.For None e (Some (path j.0)) (path k.0)) bundle;
  }
  act_step (Act-F.For (Some l) e None k) = record {
    judged = λ head at note here. for_gives head at note (Some (path l.0)) e None k (if_again head l) (none_again head) here;
    part = λ bundle at note here. no_part at note (Act-F.For (Some (path l.0)) e None (path k.0)) bundle;
  }
  act_step (Act-F.For (Some l) e (Some j) k) = record {
    judged = λ head at note here. for_gives head at note (Some (path l.0)) e (Some (path j.0)) k (if_again head l) (if_again head j) here;
    part = λ bundle at note here. no_part at note (Act-F.For (Some (path l.0)) e (Some (path j.0)) (path k.0)) bundle;
  }
  act_step (Act-F.Bundle ks) = record {
    judged = λ head at note here. bundle_gives head at note ks here;
    part = λ bundle at note here. no_part at note (Act-F.Bundle (paths_of ks)) bundle;
  }

  act_by : (x : Act-F Name Note NotedAct NotedStmt) (y : Act-F Name Note KeptAct KeptStmt) → inner_act y ≡ x → AnyAgain (roll-Act Name Note x)
  act_by x y is = record {
    again = subst ActAgain (sym (fold-roll-Act Name Note ActPath Path act_path stmt_path x ∙ ap (λ z. act_path (act_inside z)) (sym is))) (act_step y);
  }

  stmt_by : (x : Stmt-F Name Note NotedAct NotedStmt) (y : Stmt-F Name Note KeptAct KeptStmt) → inner_stmt y ≡ x → StmtAgain (roll-Stmt Name Note x)
  stmt_by x y is = subst StmtAgain (ap (roll-Stmt Name Note) is) (by y.body.0 y.body.1.again y.pos y.note)
    where
      by : (a : NotedAct) → ActAgain (path_of_act a) → (at : Pos) (note : Note) → StmtAgain (stated at note a)
      by a h at note =
          let paths : placed at note (path_of_act a) ≡ path (stated at note a) =
          sym (fold-roll-Stmt Name Note ActPath Path act_path stmt_path (record { body = a; pos = at; note = note })) in
          record {
            judged = λ head here. subst (λ (p : Path). Gives (λ q. Twin (path q.0) p) (p.judged frame head here)) paths (h.judged head at note here);
            part = λ bundle here. subst (λ (p : Path). Gives (λ q. Twin (path q.0) p) (p.part frame bundle here)) paths (h.part bundle at note here);
          }

  pub stmt_again : (st : NotedStmt) → StmtAgain st
  stmt_again = ind-Stmt Name Note AnyAgain StmtAgain act_by stmt_by
