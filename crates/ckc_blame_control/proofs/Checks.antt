-- A dynamic check is a condition, and the point after it is on the true side of that.
use Rattle.std.proofs.Common.{◌≡◌, ℕ, ◌+◌, List, [], ◌∷◌, map, refl, sym, ap, subst, ◌∙◌, arith, rules}
use Rattle.std.specs.List.{Contains}
use Rattle.std.specs.Prelude.{◌≤◌, Bool, true, false, not, Option, Some, Ok}
use Rattle.ckc_base.specs.declared.arithmetic.Mode.{Mode}
use Rattle.ckc_base.specs.declared.places.Pos.{Pos}
use Rattle.ckc_base.specs.Outcomes.{Outcome, bind, unless}
use Rattle.ckc_syntax.specs.declared.tree.Name.{Name}
use Rattle.ckc_syntax.specs.declared.tree.Name.TheVariants as name
use Rattle.ckc_syntax.specs.declared.tree.Init.TheVariants as init
use Rattle.ckc_syntax.specs.declared.tree.Node.{Node-F, out-Node}
use Rattle.ckc_syntax.specs.declared.tree.Act.{Act-F, out-Act, roll-Act, the_lemmas}
use Rattle.ckc_syntax.specs.declared.tree.Act.TheVariants as act
use Rattle.ckc_syntax_limits.specs.Marks.{marks_of_expr, is_node}
use Rattle.ckc_typed.specs.declared.environment.Variable.{Variable}
use Rattle.ckc_typed.specs.declared.typed.Note.{Note}
use Rattle.ckc_typed.specs.declared.typed.Typed.{Typed}
use Rattle.ckc_typed.specs.Statics.{strings_of_expr, act_strings, strings_of_stmt}
use Rattle.ckc_typed.specs.Trees.{NotedDecl, NotedExpr, NotedInit, NotedLayer, NotedStmt}
use Rattle.ckc_typed_welltyped.specs.Productions.{Given, given_act}
use Rattle.ckc_typed_welltyped.specs.Statements as rows
use Rattle.ckc_typed_welltyped.specs.Statements.{act_rows, mode_in_form, WellTypedStmt}
use Rattle.ckc_blame_sound.specs.ckc_bounds_points.specs.Codes.{not_contained, bad_bundle}
use Rattle.ckc_blame_sound.specs.ckc_bounds_statements.specs.Paths.{Here, path, value_judged, maybe_judged, side_of, is_returned, gone, parts_judged, is_good, bundle_judged, sides_judged, behind_stores, decl_judged, stated, act_judged}
use Rattle.ckc_source.specs.declared.stmt.Spot.{Spot}
use Rattle.ckc_source.specs.Code.{Expr, Code, End, Check}
use Rattle.ckc_source.specs.Code as code
use Rattle.ckc_build_values.specs.Expressions.{expr_elaborated, literals_of}
use Rattle.ckc_build_elaborate.specs.Steps.{Destination, spot, nowhere, destination_of, called, assigned, assigned_form, started, declared, returned}
use Rattle.ckc_build_elaborate.specs.Statements.{all_assigns, act_code, part_of}
use Rattle.ckc_blame_sound.specs.Settings.{Setting, AreStrings}
use Rattle.ckc_blame_sound.specs.Points.{GoesTo}
use Rattle.ckc_blame_sound.specs.Words.{HasWordsAct, exprs_in, exprs_of_act}
use Rattle.ckc_blame_sound.specs.Few.{nodes_of_value, nodes_in}
use Rattle.ckc_blame_sound.proofs.Nodes.{nodes_rolled}
use Rattle.ckc_blame_sound.proofs.Strings.{strings_inside, strings_are}
use Rattle.ckc_blame_sound.proofs.Tallies.{is_tally}
use Rattle.ckc_blame_sound.proofs.Words.{exprs_inside, exprs_are}
use Rattle.ckc_blame_sound.proofs.Given.{given_inside, given_are}
use Rattle.ckc_blame_sound.specs.Bodies.{globals_of_text}
use Rattle.ckc_blame_sound.specs.Steps.{is_simple, IsStep, IsCondition}
use Rattle.ckc_blame_sound.proofs.Words.{exprs_inside, exprs_are}
use Rattle.ckc_blame_sound.proofs.Statements.{made_of, pair_same, passes}
use Rattle.ckc_blame_control.proofs.Typed.{by_parts, words_in}
use Rattle.ckc_blame_sound.proofs.Stepping.{ActLayer, act_back, viewed, judged_is, parted, code_is, out_call, out_return, out_check, out_bundle, first_step}

-- An expression is a condition at a point, and control goes from its true side to another point.
pub record Tests (s : Setting) (mode : Mode) (here : Here) (e : Expr) (there : Here) : Type 0 where
  pub one : Here
  pub other : Here
  pub is : IsCondition s mode here e one other
  pub goes : GoesTo s.frame one there

-- ---- no other step is a check

abbrev is_check : Code → Bool
is_check (Check spot e rest) = true
is_check code = false

module _ (p : Typed) (locals : List Variable) (s : Spot) (to : Destination) (k : ℕ) where
  called_other : (n : Name) (es : List NotedExpr) (at : Pos) → is_check (called p locals s to k n es at End) ≡ false
  called_other (name.Function f) es at = refl
  called_other name.Getchar es at = refl
  called_other name.Putchar es at = refl
  called_other (name.Local x) es at = refl
  called_other (name.Static x) es at = refl
  called_other (name.Tag x) es at = refl
  called_other (name.Member x) es at = refl

  form_other : (e : NotedExpr) (node : NotedLayer) → is_check (assigned_form p locals s to k e node End) ≡ false
  form_other e (Node-F.Call n es) = called_other n es e.pos
  form_other e (Node-F.Number n u) = refl
  form_other e (Node-F.Text bytes) = refl
  form_other e Node-F.Null = refl
  form_other e (Node-F.Name n) = refl
  form_other e (Node-F.Un o a) = refl
  form_other e (Node-F.Bin o a b) = refl
  form_other e (Node-F.Pick a b d) = refl
  form_other e (Node-F.Index a b) = refl
  form_other e (Node-F.Dot a m at) = refl
  form_other e (Node-F.Arrow a m at) = refl
  form_other e (Node-F.Cast t a) = refl
  form_other e (Node-F.Size t) = refl
  form_other e (Node-F.Trusted t a l) = refl
  form_other e (Node-F.Tested t a l) = refl
  form_other e (Node-F.Calloc t n u) = refl

  assigned_other : (e : NotedExpr) → is_check (assigned p locals s to k e End) ≡ false
  assigned_other e = form_other e (out-Node Name Note e.node)

  started_other : (i : NotedInit) → is_check (started p locals s to k i End) ≡ false
  started_other init.Nothing = refl
  started_other (init.One e) = assigned_other e
  started_other (init.Many es) = refl

declared_other : (p : Typed) (locals : List Variable) (s : Spot) (k : ℕ) (d : NotedDecl) → is_check (declared p locals s k d End) ≡ false
declared_other p locals s k d = started_other p locals s _ _ d.init

out_assign : (e f : NotedExpr) → out-Act Name Note (act.Assign e f) ≡ Act-F.Assign e f
out_assign e f = search (rules, the_lemmas)

out_local : (d : NotedDecl) → out-Act Name Note (act.Local d) ≡ Act-F.Local d
out_local d = search (rules, the_lemmas)

module _ (s : Setting) (here there : Here) (sp : Spot) (e : Expr) (step : IsStep s here (Check sp e) there) where
  check_inside : (x : NotedExpr) → out-Act Name Note step.before.body ≡ Act-F.Check x → rows.IsCondition (globals_of_text s.text) s.variables step.inside.mode x
  check_inside x is =
      subst (λ (y : ActLayer). act_rows (globals_of_text s.text) s.variables s.result (WellTypedStmt (globals_of_text s.text) s.variables s.result) y step.inside.mode step.inside.looped) is
      (by_parts s step.before step.inside).row

  -- what the statement is judged as, by its layer
  judged_as : (d : ActLayer) → out-Act Name Note step.before.body ≡ d → act_judged (viewed d) s.frame s.head step.before.pos step.before.note here ≡ Ok (step.after, step.behind)
  judged_as d is =
      ap (λ (x : ActLayer). act_judged (viewed x) s.frame s.head step.before.pos step.before.note here) (sym is) ∙ sym (judged_is step.before s.frame s.head here) ∙ step.judged

  -- the layer of what it is judged to
  layer_of : (a : _) (x : ActLayer) → stated step.before.pos step.before.note a ≡ step.after → out-Act Name Note a ≡ x → out-Act Name Note step.after.body ≡ x
  layer_of a x made out = ap (λ (st : NotedStmt). out-Act Name Note st.body) (sym made) ∙ out

  -- and what that becomes
  becomes_as : (x : ActLayer) → out-Act Name Note step.after.body ≡ x → (f : Code → Code)
      → act_code (parted x) step.after.pos step.after.note.mode s.text s.variables s.result step.literals ≡ f ∷ [] → f End ≡ Check sp e End
  becomes_as x is f code =
      first_step f (Check sp e)
      (sym code ∙ ap (λ (y : ActLayer). act_code (parted y) step.after.pos step.after.note.mode s.text s.variables s.result step.literals) (sym is) ∙ sym (code_is s step.literals step.after) ∙ step.becomes)

  no_other : (x : ActLayer) → out-Act Name Note step.after.body ≡ x → (f : Code → Code)
      → act_code (parted x) step.after.pos step.after.note.mode s.text s.variables s.result step.literals ≡ f ∷ [] → is_check (f End) ≡ false → Tests s sp.mode here e there
  no_other x is f code other = absurd (none (sym other ∙ ap is_check (becomes_as x is f code))) where
    none : false ≡ true → ⊥
    none e = cc

  abbrev at : Spot
  at = spot step.after.pos step.after.note.mode

  check_strings : (x : NotedExpr) → out-Act Name Note step.after.body ≡ Act-F.Check x → strings_of_stmt step.after ≡ strings_of_expr x
  check_strings x is = strings_are step.after ∙ ap (λ y. act_strings (strings_inside y)) is

  as_check : (x : NotedExpr) → out-Act Name Note step.before.body ≡ Act-F.Check x → Tests s sp.mode here e there
  as_check x is =
      let m = made_of (value_judged s.frame x here) (λ p. Ok (stated step.before.pos step.before.note (act.Check p.0), record p.1 { at = side_of s.frame true p.0 p.1.at })) (step.after, step.behind)
      (judged_as (Act-F.Check x) is) in
      let last = pair_same (stated step.before.pos step.before.note (act.Check m.0.0)) step.after (record m.0.1 { at = side_of s.frame true m.0.0 m.0.1.at }) step.behind m.2 in
      let value : Expr = expr_elaborated s.text s.variables step.literals m.0.0 in
      let code : Check at value End ≡ Check sp e End =
      becomes_as (Act-F.Check m.0.0) (layer_of (act.Check m.0.0) (Act-F.Check m.0.0) last.0 (out_check m.0.0)) (Check at value) refl in
      record {
        one = record m.0.1 { at = side_of s.frame true m.0.0 m.0.1.at };
        other = record m.0.1 { at = side_of s.frame false m.0.0 m.0.1.at };
        is = record {
          before = Some x;
          after = Some m.0.0;
          literals = step.literals;
          behind = m.0.1;
          inside = record {
            typed = subst (λ m. rows.IsCondition (globals_of_text s.text) s.variables m x) (mode_of x is (ap (λ (st : NotedStmt). st.note) last.0) code) (check_inside x is);
            words = λ w. subst HasWordsAct is (words_in step.before (step.inside.words w));
            safe = λ w. step.inside.safe w x (first_there x is);
            given = λ w. subst (λ (g : Given). g.fine ≡ true) (given_are step.before ∙ ap (λ y. given_act (given_inside y)) is) (step.inside.given w);
          };
          room = λ w. let less = check_nodes x is in let all = step.room w in omega (arith, less, all);
          scope = record {
            names = step.scope.names x (subst (λ es. Contains es x) (sym (exprs_are step.before ∙ ap (λ y. exprs_of_act (exprs_inside y)) is)) (0, omega arith, refl));
            known = step.scope.known;
          };
          fresh = step.fresh;
          counting = step.counting;
          named = step.named;
          judged = ap (λ (o : Outcome (NotedExpr × Here)). bind o (λ p. Ok (Some p.0, p.1))) m.1;
          becomes = same_check code;
          true_side = refl;
          false_side = refl;
          strings = subst (AreStrings s step.literals) (check_strings m.0.0 (layer_of (act.Check m.0.0) (Act-F.Check m.0.0) last.0 (out_check m.0.0))) step.strings;
        };
        goes = subst (λ h. GoesTo s.frame h there) (sym last.1) step.goes;
      }
    where
      spot_same : {a b : Spot} {v w : Expr} → Check a v End ≡ Check b w End → a ≡ b
      spot_same h = cc

      mode_of : (x : NotedExpr) → out-Act Name Note step.before.body ≡ Act-F.Check x → step.before.note ≡ step.after.note → {v : Expr} → Check at v End ≡ Check sp e End
          → step.inside.mode ≡ sp.mode
      mode_of x is same code =
          ap (mode_in_form step.inside.mode) (sym is) ∙ sym (ap (λ (n : Note). n.mode) (by_parts s step.before step.inside).noted)
          ∙ ap (λ (n : Note). n.mode) same ∙ ap (λ (a : Spot). a.mode) (spot_same code)

      check_nodes : (x : NotedExpr) → out-Act Name Note step.before.body ≡ Act-F.Check x → nodes_of_value (Some x) ≤ nodes_in step.before
      check_nodes x is =
          omega (
            arith,
            nodes_rolled step.before.pos step.before.note (Act-F.Check x) step.before.body (ap (roll-Act Name Note) (sym is) ∙ act_back step.before.body),
            is_tally is_node (marks_of_expr x),
          )

      first_there : (x : NotedExpr) → out-Act Name Note step.before.body ≡ Act-F.Check x → Contains (exprs_in step.before) x
      first_there x is =
          subst (λ es. Contains es x) (sym (exprs_are step.before ∙ ap (λ (y : ActLayer). exprs_of_act (exprs_inside y)) is)) (0, omega arith, refl)

      same_check : {a b : Spot} {x y : Expr} → Check a x End ≡ Check b y End → y ≡ x
      same_check h = cc

  as_local : (d : NotedDecl) → out-Act Name Note step.before.body ≡ Act-F.Local d → Tests s sp.mode here e there
  as_local d is =
      let m = made_of (decl_judged s.frame d here) (λ p. Ok (stated step.before.pos step.before.note (act.Local p.0), p.1)) (step.after, step.behind) (judged_as (Act-F.Local d) is) in
      let last = pair_same (stated step.before.pos step.before.note (act.Local m.0.0)) step.after m.0.1 step.behind m.2 in
      no_other (Act-F.Local m.0.0) (layer_of (act.Local m.0.0) (Act-F.Local m.0.0) last.0 (out_local m.0.0)) (declared s.text s.variables at step.literals m.0.0) refl
      (declared_other s.text s.variables at step.literals m.0.0)

  as_assign : (p q : NotedExpr) → out-Act Name Note step.before.body ≡ Act-F.Assign p q → Tests s sp.mode here e there
  as_assign p q is =
      let m = made_of (sides_judged s.frame step.before.pos step.before.note p q here) (λ p. bind (behind_stores s.frame s.head (p.0 ∷ []) here.next p.1) (λ h. Ok (p.0, h)))
      (step.after, step.behind) (judged_as (Act-F.Assign p q) is) in
      let n = made_of (behind_stores s.frame s.head (m.0.0 ∷ []) here.next m.0.1) (λ h. Ok (m.0.0, h)) (step.after, step.behind) m.2 in
      let last = pair_same m.0.0 step.after n.0 step.behind n.2 in
      let x = made_of (value_judged s.frame p here) (λ a. bind (value_judged s.frame q a.1) (λ b. Ok (stated step.before.pos step.before.note (act.Assign a.0 b.0), b.1))) m.0 m.1 in
      let y = made_of (value_judged s.frame q x.0.1) (λ b. Ok (stated step.before.pos step.before.note (act.Assign x.0.0 b.0), b.1)) m.0 x.2 in
      let both = pair_same (stated step.before.pos step.before.note (act.Assign x.0.0 y.0.0)) m.0.0 y.0.1 m.0.1 y.2 in
      let made : stated step.before.pos step.before.note (act.Assign x.0.0 y.0.0) ≡ step.after = both.0 ∙ last.0 in
      no_other (Act-F.Assign x.0.0 y.0.0) (layer_of (act.Assign x.0.0 y.0.0) (Act-F.Assign x.0.0 y.0.0) made (out_assign x.0.0 y.0.0))
      (assigned s.text s.variables at (destination_of s.text s.variables step.literals x.0.0) (step.literals + literals_of x.0.0) y.0.0) refl
      (assigned_other s.text s.variables at (destination_of s.text s.variables step.literals x.0.0) (step.literals + literals_of x.0.0) y.0.0)

  as_call : (x : NotedExpr) → out-Act Name Note step.before.body ≡ Act-F.Call x → Tests s sp.mode here e there
  as_call x is =
      let m = made_of (value_judged s.frame x here) (λ p. Ok (stated step.before.pos step.before.note (act.Call p.0), p.1)) (step.after, step.behind) (judged_as (Act-F.Call x) is) in
      let last = pair_same (stated step.before.pos step.before.note (act.Call m.0.0)) step.after m.0.1 step.behind m.2 in
      no_other (Act-F.Call m.0.0) (layer_of (act.Call m.0.0) (Act-F.Call m.0.0) last.0 (out_call m.0.0))
      (assigned s.text s.variables (spot m.0.0.pos step.after.note.mode) nowhere step.literals m.0.0) refl
      (assigned_other s.text s.variables (spot m.0.0.pos step.after.note.mode) nowhere step.literals m.0.0)

  as_return : (x : Option NotedExpr) → out-Act Name Note step.before.body ≡ Act-F.Return x → Tests s sp.mode here e there
  as_return x is =
      let m = made_of (maybe_judged s.frame x here) (λ p. unless (not (is_returned s.frame s.head p.0 here.next p.1)) not_contained step.before.pos (Ok (stated step.before.pos step.before.note (act.Return p.0), gone s.frame p.1)))
      (step.after, step.behind) (judged_as (Act-F.Return x) is) in
      let q = passes (not (is_returned s.frame s.head m.0.0 here.next m.0.1)) not_contained step.before.pos (Ok (stated step.before.pos step.before.note (act.Return m.0.0), gone s.frame m.0.1)) (step.after, step.behind) m.2 in
      let last = pair_same (stated step.before.pos step.before.note (act.Return m.0.0)) step.after (gone s.frame m.0.1) step.behind q in
      no_other (Act-F.Return m.0.0) (layer_of (act.Return m.0.0) (Act-F.Return m.0.0) last.0 (out_return m.0.0))
      (code.Return at (returned s.text s.variables s.result step.literals m.0.0)) refl refl

  as_bundle : (ss : List NotedStmt) → out-Act Name Note step.before.body ≡ Act-F.Bundle ss → Tests s sp.mode here e there
  unfolding bundle_judged
  as_bundle ss is =
      let paths = map path ss in
      let m = made_of (parts_judged s.frame step.before.pos paths here) (λ p. unless (not (is_good p.1 p.0)) bad_bundle step.before.pos
      (bind (behind_stores s.frame s.head p.0 here.next p.1) (λ h. Ok (stated step.before.pos step.before.note (act.Bundle p.0), h)))) (step.after, step.behind) (judged_as (Act-F.Bundle ss) is) in
      let q = passes (not (is_good m.0.1 m.0.0)) bad_bundle step.before.pos
      (bind (behind_stores s.frame s.head m.0.0 here.next m.0.1) (λ h. Ok (stated step.before.pos step.before.note (act.Bundle m.0.0), h))) (step.after, step.behind) m.2 in
      let n = made_of (behind_stores s.frame s.head m.0.0 here.next m.0.1) (λ h. Ok (stated step.before.pos step.before.note (act.Bundle m.0.0), h)) (step.after, step.behind) q in
      let last = pair_same (stated step.before.pos step.before.note (act.Bundle m.0.0)) step.after n.0 step.behind n.2 in
      no_other (Act-F.Bundle m.0.0) (layer_of (act.Bundle m.0.0) (Act-F.Bundle m.0.0) last.0 (out_bundle m.0.0))
      (code.Bundle at (all_assigns (map part_of m.0.0) s.text s.variables step.literals)) refl refl

  pub check_tests : Tests s sp.mode here e there
  check_tests = by (out-Act Name Note step.before.body) refl step.simple
    where
      by : (d : ActLayer) → out-Act Name Note step.before.body ≡ d → is_simple d ≡ true → Tests s sp.mode here e there
      by (Act-F.Local d) is simple = as_local d is
      by (Act-F.Assign p q) is simple = as_assign p q is
      by (Act-F.Call x) is simple = as_call x is
      by (Act-F.Return x) is simple = as_return x is
      by (Act-F.Check x) is simple = as_check x is
      by (Act-F.Bundle ss) is simple = as_bundle ss is
      by d is simple = absurd (cc)
