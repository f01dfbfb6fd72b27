-- The statement of a step is covered once it is judged: each kind of statement.
use Rattle.std.proofs.Common.{◌≡◌, ◌∙◌, refl, sym, ap, subst, ◌+◌, true, false, List, [], ◌∷◌, map}
use Rattle.std.specs.Prelude.{not, Option, None, Some, IfSome, Ok}
use Rattle.ckc_base.specs.declared.arithmetic.Mode.{Mode}
use Rattle.ckc_base.specs.declared.arithmetic.Mode.TheVariants.{Unchecked}
use Rattle.ckc_base.specs.Outcomes.{unless}
use Rattle.ckc_syntax.specs.declared.tree.Name.{Name}
use Rattle.ckc_syntax.specs.declared.tree.Init.TheVariants as init
use Rattle.ckc_syntax.specs.declared.tree.Node.{out-Node}
use Rattle.ckc_syntax.specs.declared.tree.Act.{Act-F, out-Act}
use Rattle.ckc_syntax.specs.declared.tree.Act.TheVariants as act
use Rattle.ckc_syntax_limits.specs.Small.{Small}
use Rattle.ckc_types.specs.declared.types.CType.{CType}
use Rattle.ckc_typed.specs.declared.environment.Globals.{Globals}
use Rattle.ckc_typed.specs.declared.typed.Note.{Note}
use Rattle.ckc_typed.specs.declared.typed.Typed.{Typed}
use Rattle.ckc_typed.specs.Statements.{is_result}
use Rattle.ckc_typed.specs.Trees.{NotedDecl, NotedExpr, NotedInit, NotedStmt}
use Rattle.ckc_typed.specs.Types.{is_scalar_type, type_written}
use Rattle.ckc_typed_welltyped.specs.Declarations.{StartsLocal}
use Rattle.ckc_typed_welltyped.specs.Productions.{callless_expr, is_call, is_right}
use Rattle.ckc_typed_welltyped.specs.Statements as rows
use Rattle.ckc_typed_welltyped.specs.Statements.{IsAssignment, IsTarget, act_rows, WellTypedStmt}
use Rattle.ckc_blame_sound.specs.ckc_bounds_points.specs.Codes.{not_contained}
use Rattle.ckc_blame_sound.specs.ckc_bounds_views.specs.Parts.{fresh_behind}
use Rattle.ckc_blame_sound.specs.ckc_bounds_views.specs.Views.{view}
use Rattle.ckc_blame_sound.specs.ckc_bounds_statements.specs.Paths.{Here, value_judged, maybe_judged, side_of, is_returned, gone, act_judged, stated}
use Rattle.ckc_source.specs.Code.{Code, End, Bundle, Function}
use Rattle.ckc_source.specs.Eval.{Store}
use Rattle.ckc_build_values.specs.Expressions.{literals_of}
use Rattle.ckc_build_elaborate.specs.Statements.{all_assigns, act_code, part_of}
use Rattle.ckc_build_elaborate.specs.Steps.{spot, destination_of, assigned}
use Rattle.ckc_blame_sound.specs.Bodies.{globals_of_text}
use Rattle.ckc_blame_sound.specs.Safe.{AreSafe}
use Rattle.ckc_blame_sound.specs.Settings.{Setting, IsFunction}
use Rattle.ckc_blame_sound.specs.Steps.{is_simple, IsStep}
use Rattle.ckc_blame_sound.specs.Words.{HaveWords, exprs_in}
use Rattle.ckc_blame_sound.proofs.Statements.{made_of, pair_same, passes}
use Rattle.ckc_blame_sound.proofs.Stepping.{ActLayer, viewed, judged_is, parted, code_is, first_step, out_return, out_check}
use Rattle.ckc_blame_sound.specs.JudgedTexts.{IsJudged, globals_in}
use Rattle.ckc_blame_control.proofs.Typed.{by_parts, statement_typed}
use Rattle.ckc_blame_steps.specs.Checked.{mode_of}
use Rattle.ckc_blame_steps.specs.Pointees.{AreFine}
use Rattle.ckc_blame_steps.proofs.Checked.{step_of_mode}
use Rattle.ckc_blame_steps.proofs.DeclaredTypes.{names_fine, scalar_parts}
use Rattle.ckc_blame_steps.proofs.Pointees.{object_fine}
use Rattle.ckc_blame_steps.proofs.Pointees.{typed_fine}
use Rattle.ckc_blame_steps.proofs.ExpressionRooms.{step_places}
use Rattle.ckc_blame_given.specs.Stored.{IsAssignJudged, AreAssignsJudged}
use Rattle.ckc_blame_given.proofs.Stored.{assignment_stored, bundle_stored}
use Rattle.ckc_blame_steps.specs.Before.{Premises, IsCoveredIf}
use Rattle.ckc_blame_steps.specs.Granted.{IsCoveredInit, IsCoveredRight, IsCoveredAct}
use Rattle.ckc_blame_steps.specs.Unchecked.{stores_raw, StoresSafely}
use Rattle.ckc_blame_steps.proofs.Calls.{value_is_judged}
use Rattle.ckc_blame_steps.proofs.CoveredParts.{sides_covered, bundle_covered}
use Rattle.ckc_blame_steps.proofs.CoveredRights.{value_covered, one_covered, right_covered, alone_covered}
use Rattle.ckc_blame_steps.proofs.Declarations.{InitJudged, local_made}
use Rattle.ckc_blame_steps.proofs.FitExprs.{IsFit, IsFitInit, IsFitAct, fit_stmt, few_of, IsGivenInit, IsGivenAct, stmt_given}
use Rattle.ckc_blame_steps.proofs.Origins.{becomes_as, as_call}
use Rattle.ckc_blame_steps.proofs.SafeTargets.{is_raw_target, AreSafeParts, assignment_safe, assigns_safe}
use Rattle.ckc_blame_steps.proofs.Stores.{text_is}

-- ---- what is returned and what is checked, as they are judged

module _ (s : Setting) (here there : Here) (step : Code → Code) (i : IsStep s here step there) where
  judged_as : (x : ActLayer) → out-Act Name Note i.before.body ≡ x → act_judged (viewed x) s.frame s.head i.before.pos i.before.note here ≡ Ok (i.after, i.behind)
  judged_as x is = ap (λ (y : ActLayer). act_judged (viewed y) s.frame s.head i.before.pos i.before.note here) (sym is) ∙ sym (judged_is i.before s.frame s.head here) ∙ i.judged

  abbrev pub JudgedIf : Option NotedExpr → Option NotedExpr → Type 0
  JudgedIf None None = Unit {0}
  JudgedIf (Some x) (Some y) = (view s.frame x).judged here.next here.at ≡ Ok y
  JudgedIf _ _ = ⊥

  if_judged : (x y : Option NotedExpr) (h : Here) → maybe_judged s.frame x here ≡ Ok (y, h) → JudgedIf x y
  if_judged None y h is = subst (JudgedIf None) (pair_same {A = Option NotedExpr} None y here h is).0 tt
  if_judged (Some x) y h is =
      let m = made_of (value_judged s.frame x here) (λ p. Ok (Some p.0, p.1)) (y, h) is in
      subst (JudgedIf (Some x)) (pair_same {A = Option NotedExpr} (Some m.0.0) y m.0.1 h m.2).0 (value_is_judged s.frame x m.0.0 here m.0.1 i.counting m.1).0

  -- what is returned
  pub record IsReturnMade (x : Option NotedExpr) : Type 0 where
    pub made : Option NotedExpr
    pub becomes : out-Act Name Note i.after.body ≡ Act-F.Return made
    pub judged : JudgedIf x made

  pub return_made : (x : Option NotedExpr) → out-Act Name Note i.before.body ≡ Act-F.Return x → IsReturnMade x
  return_made x is =
      let m = made_of (maybe_judged s.frame x here) (λ p. unless (not (is_returned s.frame s.head p.0 here.next p.1)) not_contained i.before.pos (Ok (stated i.before.pos i.before.note (act.Return p.0), gone s.frame p.1)))
      (i.after, i.behind) (judged_as (Act-F.Return x) is) in
      let q = passes (not (is_returned s.frame s.head m.0.0 here.next m.0.1)) not_contained i.before.pos (Ok (stated i.before.pos i.before.note (act.Return m.0.0), gone s.frame m.0.1)) (i.after, i.behind) m.2 in
      let last = pair_same (stated i.before.pos i.before.note (act.Return m.0.0)) i.after (gone s.frame m.0.1) i.behind q in
      record {
        made = m.0.0;
        becomes = (becomes_as s here there step i (act.Return m.0.0) (Act-F.Return m.0.0) last.0 (out_return m.0.0)).0;
        judged = if_judged x m.0.0 m.0.1 m.1;
      }

  -- what is checked
  pub record IsCheckMade (x : NotedExpr) : Type 0 where
    pub made : NotedExpr
    pub becomes : out-Act Name Note i.after.body ≡ Act-F.Check made
    pub judged : (view s.frame x).judged here.next here.at ≡ Ok made

  pub check_made : (x : NotedExpr) → out-Act Name Note i.before.body ≡ Act-F.Check x → IsCheckMade x
  check_made x is =
      let m = made_of (value_judged s.frame x here) (λ p. Ok (stated i.before.pos i.before.note (act.Check p.0), record p.1 { at = side_of s.frame true p.0 p.1.at })) (i.after, i.behind)
      (judged_as (Act-F.Check x) is) in
      let last = pair_same (stated i.before.pos i.before.note (act.Check m.0.0)) i.after (record m.0.1 { at = side_of s.frame true m.0.0 m.0.1.at }) i.behind m.2 in
      record {
        made = m.0.0;
        becomes = (becomes_as s here there step i (act.Check m.0.0) (Act-F.Check m.0.0) last.0 (out_check m.0.0)).0;
        judged = (value_is_judged s.frame x m.0.0 here m.0.1 i.counting m.1).0;
      }

-- ---- a step of a mode

module _ (m : Mode) (p : Typed) (j : IsJudged p) (small : Small j.named.tree) (words : HaveWords p) (safe : AreSafe p) (s : Setting) (f : Function) (function : IsFunction p s f) (store : Store) (here there : Here)
    (step : Code → Code) (i : IsStep s here step there) (of_mode : mode_of (step End) ≡ m) (known : Premises m p s store here i.before) where
  abbrev globals : Globals
  globals = globals_in p

  abbrev before : ActLayer
  before = out-Act Name Note i.before.body

  abbrev after : ActLayer
  after = out-Act Name Note i.after.body

  text : s.text ≡ p
  text = text_is p s f function

  fine : AreFine globals s.variables
  fine = names_fine p s f j function

  -- ---- what is known of the statement

  pub fits : IsFitAct m globals s here.seen before
  fits =
      fit_stmt m globals s here.seen i.before (statement_typed p s f j words function i.before i.inside)
      (step_of_mode m s here there step (subst AreSafe (sym text) safe) i of_mode)
      (λ e c. (i.scope.names e c e refl, few_of s.frame here.at here.next (exprs_in i.before) (step_places p s f j small function here there step i) e c, known.sized e c))

  pub gives : IsGivenAct before
  gives = stmt_given i.before known.given

  abbrev Row : ActLayer → Type 0
  Row x = act_rows globals s.variables s.result (WellTypedStmt globals s.variables s.result) x i.inside.mode i.inside.looped

  pub row : Row before
  row =
      let same : globals_of_text s.text ≡ globals = ap globals_of_text text in
      subst (λ (g : Globals). act_rows g s.variables s.result (WellTypedStmt g s.variables s.result) before i.inside.mode i.inside.looped) same (by_parts s i.before i.inside).row

  abbrev Fits : NotedExpr → Type 0
  Fits = IsFit m globals s here.seen

  -- ---- each kind of statement

  -- what the statement becomes, by its layer
  code_as : (x : ActLayer) → after ≡ x → act_code (parted x) i.after.pos i.after.note.mode s.text s.variables s.result i.literals ≡ step ∷ []
  code_as x is = ap (λ (y : ActLayer). act_code (parted y) i.after.pos i.after.note.mode s.text s.variables s.result i.literals) (sym is) ∙ sym (code_is s i.literals i.after) ∙ i.becomes

  module _ (stores : StoresSafely m (step End)) where
    stores_no_raw : m ≡ Unchecked → stores_raw (step End) ≡ false
    stores_no_raw is = subst (λ (n : Mode). StoresSafely n (step End)) is stores

    -- no unchecked pointer leads to the target of an assignment
    safe_place : (one : IsAssignJudged s here.at here.next i.before i.after) → Fits one.target → Fits one.right → IsTarget globals s.variables one.target one.right → m ≡ Unchecked
        → is_raw_target (out-Node Name Note one.place.node) ≡ false
    safe_place one left right target is =
        let at = spot i.after.pos i.after.note.mode in
        let literals = i.literals + literals_of one.place in
        let code = first_step (assigned s.text s.variables at (destination_of s.text s.variables i.literals one.place) literals one.value) step (code_as (Act-F.Assign one.place one.value) one.becomes) in
        assignment_safe globals s here.at one.target one.right one.place one.value here.next (fresh_behind (view s.frame one.target) here.next here.at) left.typed right.typed one.target_judged one.right_judged target
        at i.literals literals (ap stores_raw code ∙ stores_no_raw is)

    -- nor to those of a bundle
    safe_parts : (ss : List NotedStmt) → after ≡ Act-F.Bundle ss → m ≡ Unchecked → AreSafeParts ss
    safe_parts ss becomes is =
        let code = first_step (Bundle (spot i.after.pos i.after.note.mode) (all_assigns (map part_of ss) s.text s.variables i.literals)) step (code_as (Act-F.Bundle ss) becomes) in
        assigns_safe s i.literals ss (ap stores_raw code ∙ stores_no_raw is)

    assign_covered : (e g : NotedExpr) → before ≡ Act-F.Assign e g → IsCoveredAct m s store here.seen after
    unfolding AreAssignsJudged
    assign_covered e g is =
        let one : IsAssignJudged s here.at here.next i.before i.after = (assignment_stored s here i.behind i.before i.after e g i.counting is i.judged).0.0 in
        let fit : Fits one.target × Fits one.right = subst (IsFitAct m globals s here.seen) one.is fits in
        let given : (callless_expr one.target ≡ true) × (is_right one.right ≡ true) = subst IsGivenAct one.is gives in
        let typed : IsAssignment globals s.variables i.inside.mode one.target one.right = subst Row one.is row in
        subst (IsCoveredAct m s store here.seen) (sym one.becomes)
        (sides_covered m p j s f function store here known.told known.spoken fine here.next i.before i.after one i.inside.mode fit.0 fit.1 given.0 given.1 typed (safe_place one fit.0 fit.1 typed.target))

    bundle_is_covered : (ss : List NotedStmt) → before ≡ Act-F.Bundle ss → IsCoveredAct m s store here.seen after
    bundle_is_covered ss is =
        let b = bundle_stored s here i.behind i.before i.after ss i.counting is i.judged in
        let given = subst IsGivenAct is gives in
        subst (IsCoveredAct m s store here.seen) (sym b.1)
        (bundle_covered m p j s f function store here known.told known.spoken fine s.result i.inside.mode i.inside.looped ss b.0 here.next b.2 (subst (IsFitAct m globals s here.seen) is fits) given.1 (subst Row is row) given.0 b.3.one (safe_parts b.0 b.1))

  init_covered : (t u : CType) (x y : NotedInit) → u ≡ t → is_scalar_type t ≡ true → StartsLocal t x → IsFitInit m globals s here.seen x → IsGivenInit x → InitJudged s here i.counting x y → IsCoveredInit m s store here.seen u y
  init_covered t u init.Nothing y same scalar starts fit given judged = subst (IsCoveredInit m s store here.seen u) (sym judged) tt
  init_covered t u (init.One e) y same scalar starts fit given judged =
      subst (IsCoveredInit m s store here.seen u) (sym judged.1)
      (subst (λ (v : CType). IsCoveredRight m s store here.seen v judged.0 (out-Node Name Note judged.0.node)) (sym same)
      (right_covered m p j s f function store here known.told known.spoken t e judged.0 here.next fit given starts (object_fine t (scalar_parts t scalar).1) judged.2))
  init_covered t u (init.Many es) y same scalar starts fit given judged = absurd starts

  local_covered : (d : NotedDecl) → before ≡ Act-F.Local d → IsCoveredAct m s store here.seen after
  local_covered d is =
      let made = local_made s here i.counting i.before i.after d i.behind is i.judged in
      let typed = subst Row is row in
      subst (IsCoveredAct m s store here.seen) (sym made.becomes)
      (init_covered (type_written d.ctype) (type_written made.made.ctype) d.init made.made.init (ap type_written made.parts.type_is) typed.scalar typed.starts (subst (IsFitAct m globals s here.seen) is fits)
      (subst IsGivenAct is gives) made.parts.begins)

  call_covered : (e : NotedExpr) → before ≡ Act-F.Call e → IsCoveredAct m s store here.seen after
  call_covered e is =
      let c = as_call s here there step i e is in
      let judged = (value_is_judged s.frame c.call c.made here i.behind i.counting c.judged).0 in
      let fit : Fits c.call = subst (IsFitAct m globals s here.seen) c.is fits in
      let given : is_call c.call ≡ true = subst IsGivenAct c.is gives in
      subst (IsCoveredAct m s store here.seen) (sym c.becomes)
      (alone_covered m p j s f function store here known.told known.spoken c.call c.made here.next fit given (typed_fine globals s c.call fine fit.typed) judged)

  -- what is returned
  pub return_if : (x y : Option NotedExpr) → IfSome x Fits → IfSome x (λ (e : NotedExpr). callless_expr e ≡ true) → is_result s.result x ≡ true → JudgedIf s here there step i x y
      → IsCoveredIf m p s store here x y here.next
  return_if None None fit given typed judged = tt
  return_if (Some e) (Some g) fit given typed judged = one_covered m p j s f function store here known.told known.spoken s.result e g here.next fit given typed judged
  return_if None (Some g) fit given typed judged = absurd judged
  return_if (Some e) None fit given typed judged = absurd judged

  covered_if : (x y : Option NotedExpr) → IsCoveredIf m p s store here x y here.next → IfSome y (λ (g : NotedExpr). IsCoveredAct m s store here.seen (Act-F.Check g))
  covered_if None None h = tt
  covered_if (Some e) (Some g) h = h.covered
  covered_if None (Some g) h = absurd h
  covered_if (Some e) None h = absurd h

  return_there : (x : Option NotedExpr) → before ≡ Act-F.Return x → (r : IsReturnMade s here there step i x) × IsCoveredIf m p s store here x r.made here.next
  return_there x is =
      let made = return_made s here there step i x is in
      (made, return_if x made.made (subst (IsFitAct m globals s here.seen) is fits) (subst IsGivenAct is gives) (subst Row is row).1 made.judged)

  return_covered : (x : Option NotedExpr) → before ≡ Act-F.Return x → IsCoveredAct m s store here.seen after
  return_covered x is = let r = return_there x is in subst (IsCoveredAct m s store here.seen) (sym r.0.becomes) (covered_if x r.0.made r.1)

  check_covered : (x : NotedExpr) → before ≡ Act-F.Check x → IsCoveredAct m s store here.seen after
  check_covered x is =
      let made = check_made s here there step i x is in
      let typed : rows.IsCondition globals s.variables i.inside.mode x = subst Row is row in
      subst (IsCoveredAct m s store here.seen) (sym made.becomes)
      (value_covered m p j s f function store here known.told known.spoken x made.made here.next (subst (IsFitAct m globals s here.seen) is fits) (subst IsGivenAct is gives) typed.1 made.judged)

  -- all of them
  pub act_covered : StoresSafely m (step End) → IsCoveredAct m s store here.seen after
  act_covered stores = by before refl i.simple
    where
      by : (x : ActLayer) → before ≡ x → is_simple x ≡ true → IsCoveredAct m s store here.seen after
      by (Act-F.Local d) is simple = local_covered d is
      by (Act-F.Assign e g) is simple = assign_covered stores e g is
      by (Act-F.Call e) is simple = call_covered e is
      by (Act-F.Return x) is simple = return_covered x is
      by (Act-F.Check x) is simple = check_covered x is
      by (Act-F.Bundle ss) is simple = bundle_is_covered stores ss is
      by x is simple = absurd cc
