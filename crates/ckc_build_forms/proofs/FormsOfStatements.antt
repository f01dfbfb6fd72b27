-- What a statement of a judged text becomes has the form, by induction over the statement before it is judged.
use Rattle.std.proofs.Common.{◌≡◌, ◌⊎◌, inl, inr, refl, sym, ap, subst, ◌∙◌, arith, ℕ, ◌+◌, ◌<◌, ◌≤◌, max, Bool, true, false, List, [], ◌∷◌, ◌++◌, map, length, length-append}
use Rattle.std.specs.Prelude.{All, not, ◌&&◌, ◌||◌, nat_le, Option, None, Some, Ok, Err, unwrap_or, IfSome}
use Rattle.std.specs.List.{AllByRecursion}
use Rattle.std.specs.Option.{option_map}
use Rattle.std.proofs.lemmas.List.Elements.{All-head, All-tail}
use Rattle.ckc_base.specs.declared.places.Pos.{Pos}
use Rattle.ckc_base.specs.declared.arithmetic.Mode.{Mode}
use Rattle.ckc_base.specs.Outcomes.{Outcome, bind}
use Rattle.ckc_types.specs.declared.types.CType.{CType}
use Rattle.ckc_syntax.specs.Inside.{listed, highest, all_have, one_has, inside_each, inside_if, inside_init}
use Rattle.ckc_syntax.specs.declared.tree.Name.{Name}
use Rattle.ckc_syntax.specs.declared.tree.Name.TheVariants as name
use Rattle.ckc_syntax.specs.declared.tree.Init.TheVariants as init
use Rattle.ckc_syntax.specs.declared.tree.Act.{Act-F, map-Act, out-Act, roll-Act, fold-roll-Act}
use Rattle.ckc_syntax.specs.declared.tree.Act.TheVariants as act
use Rattle.ckc_syntax.specs.declared.tree.Stmt.{Stmt-F, map-Stmt, ind-Stmt, roll-Stmt}
use Rattle.ckc_syntax_limits.specs.Depth.{depth_of_expr, depth_of_init, act_depth, depth_of_stmt}
use Rattle.ckc_typed.specs.declared.environment.Globals.{Globals}
use Rattle.ckc_typed.specs.declared.typed.Note.{Note}
use Rattle.ckc_typed.specs.declared.typed.Typed.{Typed}
use Rattle.ckc_typed.specs.Declarations.{is_plain}
use Rattle.ckc_typed.specs.Layouts.{structs_of}
use Rattle.ckc_typed.specs.Statics.{Strings, strings_of_expr, strings_of_bounds, strings_of_init, strings_of_stmt, act_strings}
use Rattle.ckc_typed.specs.Trees.{Item, NotedAct, NotedDecl, NotedExpr, NotedInit, NotedStmt}
use Rattle.ckc_typed.specs.Types.{type_written}
use Rattle.ckc_typed_fit.specs.Tests.{Tests, Walked, type_passes, expr_passes, value_passes, init_passes, pass_in_turn, part_passes, left_by_part}
use Rattle.ckc_typed_welltyped.specs.Declarations.{StartsLocal, WellTypedInit}
use Rattle.ckc_typed_welltyped.specs.Expressions.{WellTypedExpr}
use Rattle.ckc_typed_welltyped.specs.Noteless.{bare_expr, bare_init}
use Rattle.ckc_typed_welltyped.specs.Productions.{Given, given_act, given_stmt, begins, steps, callless_expr, callless_value}
use Rattle.ckc_typed_welltyped.specs.Statements.{IsCondition, act_rows, WellTypedStmt}
use Rattle.ckc_typed_welltyped.proofs.ByParts.{stmt_by_parts}
use Rattle.ckc_blame_steps.specs.ckc_bounds_known.proofs.Reaching.{and_cases}
use Rattle.ckc_blame_steps.specs.ckc_bounds_points.specs.Codes.{bad_bundle, not_contained}
use Rattle.ckc_blame_steps.specs.ckc_bounds_points.specs.Flow.{State}
use Rattle.ckc_blame_steps.specs.ckc_bounds_ranges.specs.Bundles.{is_bundle}
use Rattle.ckc_blame_steps.specs.ckc_bounds_statements.specs.Paths.{Here, is_good, value_judged, maybe_judged, bounds_judged, init_judged, starts_within, declared_here, decl_judged, stated, sides_judged, behind_stores, stores_judged, is_returned, gone, Branch, Start, branched, for_started, to_step, Path, ActPath, act_declared, all_judged, parts_judged, bundle_judged, part_judged, act_path, stmt_path, path_of_act, path, local_judged, call_judged, return_judged, check_judged, if_judged, while_judged, for_judged, loop_head}
use Rattle.ckc_source.specs.Code.{Target, Right, Code, End, Function, chained}
use Rattle.ckc_build_elaborate.specs.Functions.{functions_elaborated}
use Rattle.ckc_build_elaborate.specs.Literals.{literals_of_bounds}
use Rattle.ckc_build_elaborate.specs.Steps.{spot, nowhere, destination_of, destination_for, is_terminated}
use Rattle.ckc_build_elaborate.specs.Statements.{Part, act_code, part_of, one, alone, code_if, literals_if, all_code, all_assigns, turns, stmt_elaborated}
use Rattle.ckc_build_values.specs.Expressions.{literals_of}
use Rattle.ckc_blame_steps.specs.ckc_blame_sound.specs.Settings.{Setting}
use Rattle.ckc_blame_steps.specs.ckc_blame_sound.specs.Words.{HasWords, exprs_in, exprs_of_act}
use Rattle.ckc_blame_steps.specs.ckc_blame_sound.proofs.Given.{given_inside, given_are}
use Rattle.ckc_blame_steps.specs.ckc_blame_sound.proofs.Judging.{Gives, bound}
use Rattle.ckc_blame_steps.specs.ckc_blame_sound.proofs.Strings.{strings_inside, strings_are}
use Rattle.ckc_blame_steps.specs.ckc_blame_sound.proofs.Words.{exprs_inside, exprs_are}
use Rattle.ckc_blame_steps.specs.ckc_blame_walk.proofs.Layers.{act_paths, declared_are, walk_of, act_walk, walk_are}
use Rattle.ckc_blame_steps.specs.ckc_blame_walk.proofs.Sized.{tag_tests}
use Rattle.ckc_blame_steps.specs.ckc_blame_walk.proofs.Sizes.{HasMembers}
use Rattle.ckc_build_forms.proofs.Forms.{AssignsForm, CodeForm}
use Rattle.ckc_build_forms.proofs.FormsOfExprs.{left_of, right_of, IsShort, AreShort, Made, value_fits}
use Rattle.ckc_build_forms.proofs.FormsOfSteps.{HaveParams, nowhere_arrives, place_arrives, local_arrives, part_form, target_is, right_is, assigned_form_is, InitGood, started_form, returned_form, condition_form}
use Rattle.ckc_build_forms.proofs.FormsOfValues.{Good, IsReady}
use Rattle.ckc_build_forms.proofs.NodesOfStatements.{chained-append}
use Rattle.ckc_build_forms.proofs.StatementParts.{act_inside, part_act, part_if, code_is, assigns_is, kept, if_kept, nothing, some_same, none_some, Layer, depths, act_out, step_off, bundle_sizes, good_bundle, fine_parts, depth_layered, path_is}

-- what a `for` begins with is not left by `break` and `continue`
begun_stays : (x : Act-F Name Note Given Given) → ((given_act x).declares || (given_act x).assigns) ≡ true → (given_act x).jumps ≡ false
begun_stays (Act-F.Local d) h = refl
begun_stays (Act-F.Assign e f) h = refl
begun_stays _ h = absurd cc

is_false : (b : Bool) → not b ≡ true → b ≡ false
is_false true h = absurd cc
is_false false h = refl

module _ (p : Typed) (globals : Globals) (s : Setting) (js : List Item) (members : All HasMembers js) (layout : p.layout ≡ structs_of js) (ready : IsReady p globals s) (callees : HaveParams p globals) where
  abbrev n : ℕ
  n = length s.variables

  abbrev fs : List Function
  fs = functions_elaborated p

  abbrev tests : Tests
  tests = tag_tests js

  abbrev Fine : NotedExpr → Type 0
  Fine = Good p globals s

  abbrev Fits : NotedStmt → Mode → Bool → Type 0
  Fits = WellTypedStmt globals s.variables s.result

  -- what is declared is a variable of the function, with the number of its name
  abbrev Known : NotedDecl → Type 0
  Known d = (k : ℕ) → d.name ≡ name.Local k → k < n

  -- what is asked of a statement, before it is judged
  pub record Before (st : NotedStmt) (mode : Mode) (looped : Bool) (visible : List Name) : Type 0 where
    pub typed : Fits st mode looped
    pub passes : (walk_of tests st).passes visible ≡ true
    pub words : All HasWords (exprs_in st)
    pub short : AreShort (strings_of_stmt st)
    pub known : All Known (path st).declared
    pub fine : (given_stmt st).fine ≡ true
    pub deep : depth_of_stmt st ≤ 64

  -- the same of what a statement does
  record BeforeAct (x : Layer) (mode : Mode) (looped : Bool) (visible : List Name) : Type 0 where
    pub typed : act_rows globals s.variables s.result Fits x mode looped
    pub passes : (act_walk tests x).passes visible ≡ true
    pub words : All HasWords (exprs_of_act (exprs_inside x))
    pub short : AreShort (act_strings (strings_inside x))
    pub known : All Known (act_declared (act_paths x))
    pub fine : (given_act (given_inside x)).fine ≡ true
    pub deep : act_depth (depths x) ≤ 64

  -- a statement stands in a loop by the second flag if it does by the first, or no `break` and no `continue` leaves it
  abbrev Allows : Bool → Bool → Bool → Type 0
  Allows looped other jumps = (looped ≡ true → other ≡ true) ⊎ (jumps ≡ false)

  allow_first : (looped other a b : Bool) → Allows looped other (a || b) → Allows looped other a
  allow_first looped other a b (inl f) = inl f
  allow_first looped other true b (inr h) = absurd cc
  allow_first looped other false b (inr h) = inr refl

  allow_second : (looped other a b : Bool) → Allows looped other (a || b) → Allows looped other b
  allow_second looped other a b (inl f) = inl f
  allow_second looped other true b (inr h) = absurd cc
  allow_second looped other false b (inr h) = inr h

  -- ---- what is made

  abbrev StmtForm : Bool → NotedStmt → Type 0
  StmtForm looped st = (k : ℕ) (rest : Code) → CodeForm fs n looped rest → CodeForm fs n looped (chained (stmt_elaborated p s.variables s.result k st) rest)

  abbrev ListForm : Bool → List NotedStmt → Type 0
  ListForm looped ss = (k : ℕ) (rest : Code) → CodeForm fs n looped rest → CodeForm fs n looped (chained (all_code (map part_of ss) p s.variables s.result k) rest)

  abbrev PartForm' : Bool → Option NotedStmt → Type 0
  PartForm' looped o = (k : ℕ) (rest : Code) → CodeForm fs n looped rest → CodeForm fs n looped (chained (code_if (part_if o) p s.variables s.result k) rest)

  abbrev AssignForm : NotedStmt → Type 0
  AssignForm st = (k : ℕ) → AssignsForm n ((part_of st).assigns p s.variables k) × (length ((part_of st).assigns p s.variables k) ≡ 1)

  abbrev AssignsAll : List NotedStmt → Type 0
  AssignsAll ss = (k : ℕ) → AssignsForm n (all_assigns (map part_of ss) p s.variables k) × (length (all_assigns (map part_of ss) p s.variables k) ≡ length ss)

  record MadeBy {A : Type 0} (P : A → Type 0) (q : A × Here) : Type 0 where
    pub is : P q.0
    pub off : q.1.counting ≡ false

  made : {A : Type 0} {P : A → Type 0} {q : A × Here} → P q.0 → q.1.counting ≡ false → MadeBy P q
  made h off = record { is = h; off = off }

  record StmtHolds (st : NotedStmt) : Type 0 where
    pub whole : (mode : Mode) (looped other : Bool) (visible : List Name) → Before st mode looped visible → Allows looped other (given_stmt st).jumps → (here : Here) → here.counting ≡ false
        → Gives (MadeBy (StmtForm other)) ((path st).judged s.frame s.head here)
    pub part : (mode : Mode) (looped : Bool) (visible : List Name) → Before st mode looped visible → (bundle : Pos) (here : Here) → here.counting ≡ false
        → Gives (MadeBy AssignForm) ((path st).part s.frame bundle here)

  record ActHolds (path : ActPath) (x : Layer) : Type 0 where
    pub whole : (mode : Mode) (looped other : Bool) (visible : List Name) → BeforeAct x mode looped visible → Allows looped other (given_act (given_inside x)).jumps → (at : Pos) (note : Note) (here : Here)
        → here.counting ≡ false → Gives (MadeBy (StmtForm other)) (path.judged s.frame s.head at note here)
    pub part : (mode : Mode) (looped : Bool) (visible : List Name) → BeforeAct x mode looped visible → (bundle at : Pos) (note : Note) (here : Here) → here.counting ≡ false
        → Gives (MadeBy AssignForm) (path.part s.frame bundle at note here)

  record AnyAct (a : NotedAct) : Type 0 where
    pub holds : ActHolds (path_of_act a) (out-Act Name Note a)

  abbrev KeptAct : Type 0
  KeptAct = (a : NotedAct) × AnyAct a

  abbrev KeptStmt : Type 0
  KeptStmt = (st : NotedStmt) × StmtHolds st

  abbrev inner_act : Act-F Name Note KeptAct KeptStmt → Layer
  inner_act = map-Act Name Note KeptAct KeptStmt NotedAct NotedStmt (λ e. e.0) (λ e. e.0)

  abbrev inner_stmt : Stmt-F Name Note KeptAct KeptStmt → Stmt-F Name Note NotedAct NotedStmt
  inner_stmt = map-Stmt Name Note KeptAct KeptStmt NotedAct NotedStmt (λ e. e.0) (λ e. e.0)

  abbrev firsts : List KeptStmt → List NotedStmt
  firsts ks = map (λ (k : KeptStmt). k.0) ks

  abbrev ActForm : Bool → Layer → Pos → Note → Type 0
  ActForm looped x at note = (k : ℕ) (rest : Code) → CodeForm fs n looped rest → CodeForm fs n looped (chained (act_code (part_act x) at note.mode p s.variables s.result k) rest)

  stated_form : (looped : Bool) (at : Pos) (note : Note) (x : Layer) (a : NotedAct) → roll-Act Name Note x ≡ a → ActForm looped x at note → StmtForm looped (stated at note a)
  stated_form looped at note x a rolls h k rest behind = subst (λ (fs' : List (Code → Code)). CodeForm fs n looped (chained fs' rest)) (sym (code_is p s at note x a k rolls)) (h k rest behind)

  -- ---- expressions

  module _ (mode : Mode) (visible : List Name) where
    expr_gives : (e : NotedExpr) → WellTypedExpr globals s.variables mode e → HasWords e → expr_passes tests visible (bare_expr e) ≡ true → AreShort (strings_of_expr e) → depth_of_expr e ≤ 64
        → (here : Here) → here.counting ≡ false → Gives (MadeBy Fine) (value_judged s.frame e here)
    expr_gives e typed words passes short deep here off =
        by (value_judged s.frame e here) (value_fits p globals s js members layout mode visible e here (record { typed = typed; words = words; passes = passes; short = short; deep = deep }) off)
      where
        by : (o : Outcome (NotedExpr × Here)) → Gives (Made p globals s js members layout) o → Gives (MadeBy Fine) o
        by (Ok q) h = record { is = h.is; off = h.off }
        by (Err r) h = tt

    abbrev GoodIf : Option NotedExpr → Type 0
    GoodIf e = (f : NotedExpr) → e ≡ Some f → Fine f

    maybe_gives : (e : Option NotedExpr) → IfSome e (WellTypedExpr globals s.variables mode) → All HasWords (inside_if listed (λ (e : NotedExpr). e ∷ []) e) → value_passes tests visible (option_map bare_expr e) ≡ true
        → AreShort (inside_if listed strings_of_expr e) → inside_if highest depth_of_expr e ≤ 64 → (here : Here) → here.counting ≡ false → Gives (MadeBy GoodIf) (maybe_judged s.frame e here)
    maybe_gives None typed words passes short deep here off = made (λ f e. none_some e) off
    maybe_gives (Some e) typed words passes short deep here off =
        bound (MadeBy Fine) (MadeBy GoodIf) (value_judged s.frame e here) _ (expr_gives e typed (All-head HasWords e [] words) passes short deep here off)
        (λ q h. made (λ f is. subst Fine (some_same is) h.is) h.off)

  condition_typed : (mode : Mode) (e : Option NotedExpr) → IfSome e (IsCondition globals s.variables mode) → IfSome e (WellTypedExpr globals s.variables mode)
  condition_typed mode None h = tt
  condition_typed mode (Some e) h = h.0

  -- ---- sides of an assignment

  abbrev BothGood : NotedStmt → Type 0
  BothGood st = (e : NotedExpr) × (f : NotedExpr) × Fine e × Fine f × (at : Pos) × (note : Note) × (st ≡ stated at note (act.Assign e f))

  sides_give : (e f : NotedExpr) (mode : Mode) (looped : Bool) (visible : List Name) → BeforeAct (Act-F.Assign e f) mode looped visible → (at : Pos) (note : Note) (here : Here) → here.counting ≡ false
      → Gives (MadeBy BothGood) (sides_judged s.frame at note e f here)
  sides_give e f mode looped visible b at note here off =
      let passes = and_cases (expr_passes tests visible (bare_expr e)) (expr_passes tests visible (bare_expr f)) b.passes in
      let deep = b.deep in
      bound (MadeBy Fine) (MadeBy BothGood) (value_judged s.frame e here) _
      (expr_gives mode visible e b.typed.left (All-head HasWords e (f ∷ []) b.words) passes.0 (left_of IsShort (strings_of_expr e) (strings_of_expr f) b.short) (omega (arith, deep)) here off) (λ q h.
      bound (MadeBy Fine) (MadeBy BothGood) (value_judged s.frame f q.1) _
      (expr_gives mode visible f b.typed.right (All-head HasWords f [] (All-tail HasWords e (f ∷ []) b.words)) passes.1 (right_of IsShort (strings_of_expr e) (strings_of_expr f) b.short) (omega (arith, deep)) q.1 h.off) (λ r i.
      made (q.0, r.0, h.is, i.is, at, note, refl) i.off))

  assign_form : (other : Bool) (st : NotedStmt) → BothGood st → StmtForm other st
  assign_form other st g =
      subst (StmtForm other) (sym g.6)
      (stated_form other g.4 g.5 (Act-F.Assign g.0 g.1) (act.Assign g.0 g.1) (act.rolls-Assign g.0 g.1)
      (λ k rest behind. assigned_form_is p globals s js ready callees other (spot g.4 g.5.mode) (destination_of p s.variables k g.0) (place_arrives p globals s js ready callees g.0 g.2 k) (k + literals_of g.0) rest behind g.1 g.3))

  assigns_form : (st : NotedStmt) → BothGood st → AssignForm st
  assigns_form st g =
      subst AssignForm (sym g.6)
      (λ k. subst (λ xs. AssignsForm n xs × (length xs ≡ 1)) (sym (assigns_is p s g.4 g.5 g.0 g.1 k))
      ((target_is p globals s js ready callees g.0 g.2 k, right_is p globals s js ready callees (is_terminated g.0.note.ctype) g.1 g.3 (k + literals_of g.0), tt), refl))

  -- ---- lists of statements

  abbrev words_each : List KeptStmt → List NotedExpr
  words_each ks = inside_each listed (λ (es : List NotedExpr). es) (map exprs_in (firsts ks))

  abbrev strings_each : List KeptStmt → Strings
  strings_each ks = inside_each listed (λ (x : Strings). x) (map strings_of_stmt (firsts ks))

  abbrev declared_each : List KeptStmt → List NotedDecl
  declared_each ks = inside_each listed (λ (v : Path). v.declared) (map path (firsts ks))

  abbrev jumps_each : List KeptStmt → Bool
  jumps_each ks = inside_each one_has (λ (g : Given). g.jumps) (map given_stmt (firsts ks))

  -- what is asked of statements in a row
  record AllBefore (ks : List KeptStmt) (mode : Mode) (looped : Bool) (visible : List Name) : Type 0 where
    pub typed : AllByRecursion (λ (st : NotedStmt). Fits st mode looped) (firsts ks)
    pub passes : pass_in_turn (map (walk_of tests) (firsts ks)) visible ≡ true
    pub words : All HasWords (words_each ks)
    pub short : AreShort (strings_each ks)
    pub known : All Known (declared_each ks)
    pub fine : inside_each all_have (λ (g : Given). g.fine) (map given_stmt (firsts ks)) ≡ true
    pub deep : inside_each highest (λ (d : ℕ). d) (map depth_of_stmt (firsts ks)) ≤ 64

  module _ (k : KeptStmt) (ks : List KeptStmt) (mode : Mode) (looped : Bool) (visible : List Name) (b : AllBefore (k ∷ ks) mode looped visible) where
    first_before : Before k.0 mode looped visible
    first_before = record {
      typed = b.typed.0;
      passes = (and_cases ((walk_of tests k.0).passes visible) _ b.passes).0;
      words = left_of HasWords (exprs_in k.0) (words_each ks) b.words;
      short = left_of IsShort (strings_of_stmt k.0) (strings_each ks) b.short;
      known = left_of Known (path k.0).declared (declared_each ks) b.known;
      fine = (and_cases (given_stmt k.0).fine _ b.fine).0;
      deep = (let d = b.deep in omega (arith, d));
    }

    rest_before : AllBefore ks mode looped (visible ++ (walk_of tests k.0).leaves)
    rest_before = record {
      typed = b.typed.1;
      passes = (and_cases ((walk_of tests k.0).passes visible) _ b.passes).1;
      words = right_of HasWords (exprs_in k.0) (words_each ks) b.words;
      short = right_of IsShort (strings_of_stmt k.0) (strings_each ks) b.short;
      known = right_of Known (path k.0).declared (declared_each ks) b.known;
      fine = (and_cases (given_stmt k.0).fine _ b.fine).1;
      deep = (let d = b.deep in omega (arith, d));
    }

  all_give : (ks : List KeptStmt) (mode : Mode) (looped other : Bool) (visible : List Name) → AllBefore ks mode looped visible → Allows looped other (jumps_each ks) → (here : Here) → here.counting ≡ false
      → Gives (MadeBy (ListForm other)) (all_judged s.frame s.head (map path (firsts ks)) here)
  unfolding all_judged
  all_give [] mode looped other visible b allow here off = made (λ k rest behind. behind) off
  all_give (k ∷ ks) mode looped other visible b allow here off =
      bound (MadeBy (StmtForm other)) (MadeBy (ListForm other)) _ _ (k.1.whole mode looped other visible (first_before k ks mode looped visible b) (allow_first looped other (given_stmt k.0).jumps (jumps_each ks) allow) here off) (λ q h.
      bound (MadeBy (ListForm other)) (MadeBy (ListForm other)) _ _ (all_give ks mode looped other (visible ++ (walk_of tests k.0).leaves) (rest_before k ks mode looped visible b) (allow_second looped other (given_stmt k.0).jumps (jumps_each ks) allow) q.1 h.off) (λ r i.
      made (λ j rest behind.
      let here' = stmt_elaborated p s.variables s.result j q.0 in
      let later = all_code (map part_of r.0) p s.variables s.result (j + (part_of q.0).literals) in
      subst (CodeForm fs n other) (sym (chained-append here' later rest)) (h.is j (chained later rest) (i.is (j + (part_of q.0).literals) rest behind))) i.off))

  parts_give : (ks : List KeptStmt) (mode : Mode) (looped : Bool) (visible : List Name) → AllBefore ks mode looped visible → (bundle : Pos) (here : Here) → here.counting ≡ false
      → Gives (MadeBy AssignsAll) (parts_judged s.frame bundle (map path (firsts ks)) here)
  unfolding parts_judged
  parts_give [] mode looped visible b bundle here off = made (λ k. (tt, refl)) off
  parts_give (k ∷ ks) mode looped visible b bundle here off =
      bound (MadeBy AssignForm) (MadeBy AssignsAll) _ _ (k.1.part mode looped visible (first_before k ks mode looped visible b) bundle here off) (λ q h.
      bound (MadeBy AssignsAll) (MadeBy AssignsAll) _ _ (parts_give ks mode looped (visible ++ (walk_of tests k.0).leaves) (rest_before k ks mode looped visible b) bundle q.1 h.off) (λ r i.
      made (λ j.
      let xs = (part_of q.0).assigns p s.variables j in
      let ys = all_assigns (map part_of r.0) p s.variables (j + (part_of q.0).literals) in
      let first = h.is j in
      let rest = i.is (j + (part_of q.0).literals) in
      let many = length-append xs ys in
      let one = first.1 in
      let more = rest.1 in
      (appended xs ys first.0 rest.0, omega (arith, many, one, more))) i.off))
    where
      appended : (xs ys : List (Target × Right)) → AssignsForm n xs → AssignsForm n ys → AssignsForm n (xs ++ ys)
      appended [] ys f g = g
      appended (x ∷ xs) ys f g = (f.0, f.1, appended xs ys f.2 g)

  -- ---- parts that may be left out

  none_form : (other : Bool) → PartForm' other None
  none_form other k rest behind = behind

  some_gives : (k : KeptStmt) (mode : Mode) (looped other : Bool) (visible : List Name) → Before k.0 mode looped visible → Allows looped other (given_stmt k.0).jumps → (here : Here) → here.counting ≡ false
      → Gives (MadeBy (PartForm' other)) (part_judged s.frame s.head (Some (path k.0)) here)
  some_gives k mode looped other visible b allow here off =
      bound (MadeBy (StmtForm other)) (MadeBy (PartForm' other)) _ _ (k.1.whole mode looped other visible b allow here off) (λ q h. made h.is h.off)

  abbrev BranchGood : Branch → Type 0
  BranchGood b = Fine b.condition

  branch_gives : (mode : Mode) (visible : List Name) (left : Bool) (e : NotedExpr) → WellTypedExpr globals s.variables mode e → HasWords e → expr_passes tests visible (bare_expr e) ≡ true → AreShort (strings_of_expr e)
      → depth_of_expr e ≤ 64 → (here : Here) → here.counting ≡ false → Gives (MadeBy BranchGood) (branched s.frame left e here)
  branch_gives mode visible left e typed words passes short deep here off =
      bound (MadeBy Fine) (MadeBy BranchGood) _ _ (expr_gives mode visible e typed words passes short deep here off) (λ q h. made h.is h.off)

  abbrev StartGood : Start → Type 0
  StartGood b = (f : NotedExpr) → b.condition ≡ Some f → Fine f

  start_gives : (mode : Mode) (visible : List Name) (left continued : Bool) (e : Option NotedExpr) → IfSome e (WellTypedExpr globals s.variables mode)
      → All HasWords (inside_if listed (λ (e : NotedExpr). e ∷ []) e) → value_passes tests visible (option_map bare_expr e) ≡ true
      → AreShort (inside_if listed strings_of_expr e) → inside_if highest depth_of_expr e ≤ 64 → (here : Here) → here.counting ≡ false → Gives (MadeBy StartGood) (for_started s.frame left continued e here)
  start_gives mode visible left continued e typed words passes short deep here off =
      bound (MadeBy (GoodIf mode visible)) (MadeBy StartGood) _ _ (maybe_gives mode visible e typed words passes short deep here off) (λ q h. made h.is h.off)

  if_form : (other : Bool) (at : Pos) (note : Note) (e : NotedExpr) (q : NotedStmt) (o : Option NotedStmt) → Fine e → StmtForm other q → PartForm' other o → ActForm other (Act-F.If e q o) at note
  if_form other at note e q None g h i k rest behind = (part_form p globals s js ready callees e g k, h _ End tt, tt, behind)
  if_form other at note e q (Some t) g h i k rest behind = (part_form p globals s js ready callees e g k, h _ End tt, i _ End tt, behind)

  for_form : (other : Bool) (at : Pos) (note : Note) (o : Option NotedStmt) (e : Option NotedExpr) (t : Option NotedStmt) (u : NotedStmt) → PartForm' other o → ((f : NotedExpr) → e ≡ Some f → Fine f)
      → PartForm' false t → StmtForm true u → ActForm other (Act-F.For o e t u) at note
  for_form other at note o e t u h g i j k rest behind = by o t h i
    where
      module_by : (first step : Option Part) → ((k : ℕ) (rest : Code) → CodeForm fs n other rest → CodeForm fs n other (chained (code_if first p s.variables s.result k) rest))
          → ((k : ℕ) (rest : Code) → CodeForm fs n false rest → CodeForm fs n false (chained (code_if step p s.variables s.result k) rest))
          → CodeForm fs n other (chained (code_if first p s.variables s.result k ++ one (turns p s.variables s.result (spot at note.mode) (k + literals_if first) e step (part_of u))) rest)
      module_by first step a b =
          let l = k + literals_if first in
          let loop = turns p s.variables s.result (spot at note.mode) l e step (part_of u) in
          subst (CodeForm fs n other) (sym (chained-append (code_if first p s.variables s.result k) (one loop) rest))
          (a k (loop rest) (condition_form p globals s js ready callees e g l, j _ End tt, b _ End tt, behind))

      by : (o t : Option NotedStmt) → PartForm' other o → PartForm' false t → CodeForm fs n other (chained (act_code (part_act (Act-F.For o e t u)) at note.mode p s.variables s.result k) rest)
      by None None a b = module_by None None a b
      by None (Some t) a b = module_by None (Some (part_of t)) a b
      by (Some o) None a b = module_by (Some (part_of o)) None a b
      by (Some o) (Some t) a b = module_by (Some (part_of o)) (Some (part_of t)) a b

  -- ---- bundles

  stores_off : (ss : List NotedStmt) (first : ℕ) (here : Here) → here.counting ≡ false → Gives (λ (h : Here). h.counting ≡ false) (behind_stores s.frame s.head ss first here)
  stores_off ss first here off = bound (λ (at : State). Unit {0}) (λ (h : Here). h.counting ≡ false) _ _ (nothing (stores_judged s.frame s.head ss first here)) (λ at h. off)

  bundle_form : (other : Bool) (at : Pos) (note : Note) (ss : List NotedStmt) → AssignsAll ss → is_bundle ss ≡ true → ActForm other (Act-F.Bundle ss) at note
  bundle_form other at note ss a b k rest behind =
      let h = a k in
      let many = h.1 in
      let sizes = bundle_sizes ss b in
      let low = sizes.0 in
      let high = sizes.1 in
      (omega (arith, many, low), omega (arith, many, high), h.0, behind)

  bundle_gives : (ks : List KeptStmt) (mode : Mode) (looped other : Bool) (visible : List Name) → AllBefore ks mode looped visible → (at : Pos) (note : Note) (here : Here) → here.counting ≡ false
      → Gives (MadeBy (StmtForm other)) (bundle_judged s.frame s.head at note (map path (firsts ks)) here)
  unfolding bundle_judged
  bundle_gives ks mode looped other visible b at note here off =
      bound (MadeBy AssignsAll) (MadeBy (StmtForm other)) _ _ (parts_give ks mode looped visible b at here off) (λ q h.
      if_kept (MadeBy (StmtForm other)) (is_good q.1 q.0) bad_bundle at _ (λ good.
      bound (λ (i : Here). i.counting ≡ false) (MadeBy (StmtForm other)) _ _ (stores_off q.0 here.next q.1 h.off) (λ i o.
      made (stated_form other at note (Act-F.Bundle q.0) (act.Bundle q.0) (act.rolls-Bundle q.0) (bundle_form other at note q.0 h.is (good_bundle q.1 q.0 h.off good))) o)))

  -- ---- declarations

  abbrev InitFine : NotedInit → Type 0
  InitFine = InitGood p globals s js ready callees

  abbrev DeclGood : NotedDecl → Type 0
  DeclGood d = Known d × InitFine d.init

  init_gives : (mode : Mode) (visible : List Name) (t : CType) (i : NotedInit) → WellTypedInit globals s.variables mode i → StartsLocal t i → All HasWords (inside_init listed (λ (e : NotedExpr). e ∷ []) i)
      → init_passes tests visible (bare_init i) ≡ true → AreShort (strings_of_init true i) → depth_of_init i ≤ 64 → (here : Here) → here.counting ≡ false → Gives (MadeBy InitFine) (init_judged s.frame i here)
  init_gives mode visible t init.Nothing typed starts words passes short deep here off = made tt off
  init_gives mode visible t (init.One e) typed starts words passes short deep here off =
      bound (MadeBy Fine) (MadeBy InitFine) (value_judged s.frame e here) _ (expr_gives mode visible e typed (All-head HasWords e [] words) passes short deep here off) (λ q h. made h.is h.off)
  init_gives mode visible t (init.Many es) typed starts words passes short deep here off = absurd starts

  decl_form : (other : Bool) (at : Pos) (note : Note) (d : NotedDecl) → DeclGood d → ActForm other (Act-F.Local d) at note
  decl_form other at note d good k rest behind =
      started_form p globals s js ready callees other (spot at note.mode) (destination_for p (type_written d.ctype) d.name)
      (local_arrives p globals s js ready callees (type_written d.ctype) d.name good.0) (k + literals_of_bounds d.bounds) rest behind d.init good.1

  decl_gives : (d : NotedDecl) (mode : Mode) (looped : Bool) (visible : List Name) → BeforeAct (Act-F.Local d) mode looped visible → (here : Here) → here.counting ≡ false
      → Gives (MadeBy DeclGood) (decl_judged s.frame d here)
  decl_gives d mode looped visible b here off =
      let known : Known d = All-head Known d [] b.known in
      let a = and_cases (type_passes tests d.ctype) _ b.passes in
      let c = and_cases _ (init_passes tests visible (bare_init d.init)) a.1 in
      let short : AreShort (strings_of_init true d.init) =
      subst (λ x. AreShort (strings_of_init x d.init)) b.typed.plain (right_of IsShort (strings_of_bounds d.bounds) (strings_of_init (is_plain d.length) d.init) b.short) in
      let deep = b.deep in
      bound (λ x. Unit {0}) (MadeBy DeclGood) (bounds_judged s.frame d here) _ (nothing (bounds_judged s.frame d here)) (λ x y.
      bound (MadeBy InitFine) (MadeBy DeclGood) (init_judged s.frame d.init here) _
      (init_gives mode visible (type_written d.ctype) d.init b.typed.parts.init b.typed.starts b.words c.1 short (omega (arith, deep)) here off) (λ q h.
      kept (MadeBy DeclGood) (not (starts_within s.frame d.name q.0 here.next q.1)) not_contained d.pos (Ok (record d { init = q.0 }, declared_here s.frame d q.0 q.1)) (made (known, h.is) h.off)))

  local_gives : (d : NotedDecl) (mode : Mode) (looped other : Bool) (visible : List Name) → BeforeAct (Act-F.Local d) mode looped visible → (at : Pos) (note : Note) (here : Here) → here.counting ≡ false
      → Gives (MadeBy (StmtForm other)) (local_judged s.frame at note d here)
  local_gives d mode looped other visible b at note here off =
      bound (MadeBy DeclGood) (MadeBy (StmtForm other)) (decl_judged s.frame d here) _ (decl_gives d mode looped visible b here off) (λ q h.
      made (stated_form other at note (Act-F.Local q.0) (act.Local q.0) (act.rolls-Local q.0) (decl_form other at note q.0 h.is)) h.off)

  -- ---- calls, values that are returned, and conditions that are checked

  call_form : (other : Bool) (at : Pos) (note : Note) (e : NotedExpr) → Fine e → ActForm other (Act-F.Call e) at note
  call_form other at note e g k rest behind =
      assigned_form_is p globals s js ready callees other (spot e.pos note.mode) nowhere (nowhere_arrives p globals s js ready callees) k rest behind e g

  call_gives : (e : NotedExpr) (mode : Mode) (looped other : Bool) (visible : List Name) → BeforeAct (Act-F.Call e) mode looped visible → (at : Pos) (note : Note) (here : Here) → here.counting ≡ false
      → Gives (MadeBy (StmtForm other)) (call_judged s.frame at note e here)
  call_gives e mode looped other visible b at note here off =
      bound (MadeBy Fine) (MadeBy (StmtForm other)) (value_judged s.frame e here) _ (expr_gives mode visible e b.typed (All-head HasWords e [] b.words) b.passes b.short b.deep here off) (λ q h.
      made (stated_form other at note (Act-F.Call q.0) (act.Call q.0) (act.rolls-Call q.0) (call_form other at note q.0 h.is)) h.off)

  return_form : (other : Bool) (at : Pos) (note : Note) (e : Option NotedExpr) → ((f : NotedExpr) → e ≡ Some f → Fine f) → ActForm other (Act-F.Return e) at note
  return_form other at note e g k rest behind = (returned_form p globals s js ready callees s.result e g k, behind)

  return_gives : (e : Option NotedExpr) (mode : Mode) (looped other : Bool) (visible : List Name) → BeforeAct (Act-F.Return e) mode looped visible → (at : Pos) (note : Note) (here : Here)
      → here.counting ≡ false → Gives (MadeBy (StmtForm other)) (return_judged s.frame s.head at note e here)
  return_gives e mode looped other visible b at note here off =
      bound (MadeBy (GoodIf mode visible)) (MadeBy (StmtForm other)) (maybe_judged s.frame e here) _ (maybe_gives mode visible e b.typed.0 b.words b.passes b.short b.deep here off) (λ q h.
      kept (MadeBy (StmtForm other)) (not (is_returned s.frame s.head q.0 here.next q.1)) not_contained at (Ok (stated at note (act.Return q.0), gone s.frame q.1))
      (made (stated_form other at note (Act-F.Return q.0) (act.Return q.0) (act.rolls-Return q.0) (return_form other at note q.0 h.is)) h.off))

  check_form : (other : Bool) (at : Pos) (note : Note) (e : NotedExpr) → Fine e → ActForm other (Act-F.Check e) at note
  check_form other at note e g k rest behind = (part_form p globals s js ready callees e g k, behind)

  check_gives : (e : NotedExpr) (mode : Mode) (looped other : Bool) (visible : List Name) → BeforeAct (Act-F.Check e) mode looped visible → (at : Pos) (note : Note) (here : Here) → here.counting ≡ false
      → Gives (MadeBy (StmtForm other)) (check_judged s.frame at note e here)
  check_gives e mode looped other visible b at note here off =
      bound (MadeBy Fine) (MadeBy (StmtForm other)) (value_judged s.frame e here) _ (expr_gives mode visible e b.typed.0 (All-head HasWords e [] b.words) b.passes b.short b.deep here off) (λ q h.
      made (stated_form other at note (Act-F.Check q.0) (act.Check q.0) (act.rolls-Check q.0) (check_form other at note q.0 h.is)) h.off)

  -- ---- statements that there may be, as before they are judged

  abbrev path_if : Option KeptStmt → Option Path
  path_if None = None
  path_if (Some k) = Some (path k.0)

  abbrev walk_if : Option KeptStmt → Option Walked
  walk_if None = None
  walk_if (Some k) = Some (walk_of tests k.0)

  abbrev given_if : Option KeptStmt → Option Given
  given_if None = None
  given_if (Some k) = Some (given_stmt k.0)

  abbrev FitsIf : Option KeptStmt → Mode → Bool → Type 0
  FitsIf None mode looped = Unit {0}
  FitsIf (Some k) mode looped = Fits k.0 mode looped

  abbrev words_if : Option KeptStmt → List NotedExpr
  words_if None = []
  words_if (Some k) = exprs_in k.0

  abbrev strings_if : Option KeptStmt → Strings
  strings_if None = []
  strings_if (Some k) = strings_of_stmt k.0

  abbrev declared_if : Option KeptStmt → List NotedDecl
  declared_if None = []
  declared_if (Some k) = (path k.0).declared

  abbrev fine_if : Option KeptStmt → Bool
  fine_if None = true
  fine_if (Some k) = (given_stmt k.0).fine

  abbrev depth_if : Option KeptStmt → ℕ
  depth_if None = 0
  depth_if (Some k) = depth_of_stmt k.0

  abbrev jumps_if : Option KeptStmt → Bool
  jumps_if None = false
  jumps_if (Some k) = (given_stmt k.0).jumps

  abbrev AllowsIf : Bool → Bool → Option KeptStmt → Type 0
  AllowsIf looped other o = Allows looped other (jumps_if o)

  record BeforeIf (o : Option KeptStmt) (mode : Mode) (looped : Bool) (visible : List Name) : Type 0 where
    pub typed : FitsIf o mode looped
    pub passes : part_passes (walk_if o) visible ≡ true
    pub words : All HasWords (words_if o)
    pub short : AreShort (strings_if o)
    pub known : All Known (declared_if o)
    pub fine : fine_if o ≡ true
    pub deep : depth_if o ≤ 64

  part_gives : (o : Option KeptStmt) (mode : Mode) (looped other : Bool) (visible : List Name) → BeforeIf o mode looped visible → AllowsIf looped other o → (here : Here) → here.counting ≡ false
      → Gives (MadeBy (PartForm' other)) (part_judged s.frame s.head (path_if o) here)
  part_gives None mode looped other visible b allow here off = made (none_form other) off
  part_gives (Some k) mode looped other visible b allow here off =
      some_gives k mode looped other visible (record { typed = b.typed; passes = b.passes; words = b.words; short = b.short; known = b.known; fine = b.fine; deep = b.deep }) allow here off

  begins_fine : (o : Option KeptStmt) → begins (given_if o) ≡ true → fine_if o ≡ true
  begins_fine None h = refl
  begins_fine (Some k) h = (and_cases (given_stmt k.0).fine _ h).0

  steps_fine : (o : Option KeptStmt) → steps (given_if o) ≡ true → fine_if o ≡ true
  steps_fine None h = refl
  steps_fine (Some k) h = (and_cases (given_stmt k.0).fine _ h).0

  begins_stay : (looped other : Bool) (o : Option KeptStmt) → begins (given_if o) ≡ true → AllowsIf looped other o
  begins_stay looped other None h = inr refl
  begins_stay looped other (Some k) h =
      inr (subst (λ (g : Given). (g.declares || g.assigns) ≡ true → g.jumps ≡ false) (sym (given_are k.0)) (begun_stays (given_inside (out-Act Name Note k.0.body)))
      (and_cases (given_stmt k.0).fine _ h).1)

  steps_stay : (looped other : Bool) (o : Option KeptStmt) → steps (given_if o) ≡ true → AllowsIf looped other o
  steps_stay looped other None h = inr refl
  steps_stay looped other (Some k) h = inr (is_false (given_stmt k.0).jumps (and_cases (given_stmt k.0).fine _ h).1)

  -- ---- branches and loops

  module _ (e : NotedExpr) (k : KeptStmt) (m : Option KeptStmt) (mode : Mode) (looped other : Bool) (visible : List Name) where
    record BeforeBranch : Type 0 where
      pub typed : IsCondition globals s.variables mode e × Fits k.0 mode looped × FitsIf m mode looped
      pub passes : (expr_passes tests visible (bare_expr e) && ((walk_of tests k.0).passes visible && part_passes (walk_if m) (visible ++ (walk_of tests k.0).leaves))) ≡ true
      pub words : All HasWords (((e ∷ []) ++ exprs_in k.0) ++ words_if m)
      pub short : AreShort ((strings_of_expr e ++ strings_of_stmt k.0) ++ strings_if m)
      pub known : All Known ((path k.0).declared ++ declared_if m)
      pub fine : ((callless_expr e && (given_stmt k.0).fine) && fine_if m) ≡ true
      pub deep : max (max (depth_of_expr e) (depth_of_stmt k.0)) (depth_if m) ≤ 64

    if_gives : BeforeBranch → Allows looped other ((given_stmt k.0).jumps || jumps_if m) → (at : Pos) (note : Note) (here : Here) → here.counting ≡ false
        → Gives (MadeBy (StmtForm other)) (if_judged s.frame s.head at note e (path k.0) (path_if m) here)
    if_gives b allow at note here off =
        let a = and_cases (expr_passes tests visible (bare_expr e)) _ b.passes in
        let c = and_cases ((walk_of tests k.0).passes visible) _ a.1 in
        let w = left_of HasWords ((e ∷ []) ++ exprs_in k.0) (words_if m) b.words in
        let t = left_of IsShort (strings_of_expr e ++ strings_of_stmt k.0) (strings_if m) b.short in
        let f = and_cases (callless_expr e && (given_stmt k.0).fine) (fine_if m) b.fine in
        let deep = b.deep in
        let first : Before k.0 mode looped visible = record {
          typed = b.typed.1;
          passes = c.0;
          words = right_of HasWords (e ∷ []) (exprs_in k.0) w;
          short = right_of IsShort (strings_of_expr e) (strings_of_stmt k.0) t;
          known = left_of Known (path k.0).declared (declared_if m) b.known;
          fine = (and_cases (callless_expr e) (given_stmt k.0).fine f.0).1;
          deep = omega (arith, deep);
        } in
        let second : BeforeIf m mode looped (visible ++ (walk_of tests k.0).leaves) = record {
          typed = b.typed.2;
          passes = c.1;
          words = right_of HasWords ((e ∷ []) ++ exprs_in k.0) (words_if m) b.words;
          short = right_of IsShort (strings_of_expr e ++ strings_of_stmt k.0) (strings_if m) b.short;
          known = right_of Known (path k.0).declared (declared_if m) b.known;
          fine = f.1;
          deep = omega (arith, deep);
        } in
        bound (MadeBy BranchGood) (MadeBy (StmtForm other)) (branched s.frame false e here) _
        (branch_gives mode visible false e b.typed.0.0 (All-head HasWords e (exprs_in k.0) w) a.0 (left_of IsShort (strings_of_expr e) (strings_of_stmt k.0) t) (omega (arith, deep)) here off) (λ q h.
        bound (MadeBy (StmtForm other)) (MadeBy (StmtForm other)) ((path k.0).judged s.frame s.head q.1) _ (k.1.whole mode looped other visible first (allow_first looped other (given_stmt k.0).jumps (jumps_if m) allow) q.1 h.off) (λ r i.
        bound (MadeBy (PartForm' other)) (MadeBy (StmtForm other)) (part_judged s.frame s.head (path_if m) (record r.1 { at = q.0.other })) _
        (part_gives m mode looped other (visible ++ (walk_of tests k.0).leaves) second (allow_second looped other (given_stmt k.0).jumps (jumps_if m) allow) (record r.1 { at = q.0.other }) i.off) (λ v j.
        made (stated_form other at note (Act-F.If q.0.condition r.0 v.0) (act.If q.0.condition r.0 v.0) (act.rolls-If q.0.condition r.0 v.0) (if_form other at note q.0.condition r.0 v.0 h.is i.is j.is)) j.off)))

  while_form : (other : Bool) (at : Pos) (note : Note) (e : NotedExpr) (q : NotedStmt) → Fine e → StmtForm true q → ActForm other (Act-F.While e q) at note
  while_form other at note e q g h k rest behind = (part_form p globals s js ready callees e g k, h _ End tt, tt, behind)

  while_gives : (e : NotedExpr) (k : KeptStmt) (mode : Mode) (looped other : Bool) (visible : List Name)
      → IsCondition globals s.variables mode e × Fits k.0 mode true → (expr_passes tests visible (bare_expr e) && (walk_of tests k.0).passes visible) ≡ true
      → All HasWords ((e ∷ []) ++ exprs_in k.0) → AreShort (strings_of_expr e ++ strings_of_stmt k.0) → All Known (path k.0).declared → (callless_expr e && (given_stmt k.0).fine) ≡ true
      → max (depth_of_expr e) (depth_of_stmt k.0) ≤ 64 → (at : Pos) (note : Note) (here : Here) → here.counting ≡ false
      → Gives (MadeBy (StmtForm other)) (while_judged s.frame s.head at note e (path k.0) here)
  while_gives e k mode looped other visible typed passes words short known fine deep at note here off =
      let a = and_cases (expr_passes tests visible (bare_expr e)) ((walk_of tests k.0).passes visible) passes in
      let body : Before k.0 mode true visible = record {
        typed = typed.1;
        passes = a.1;
        words = right_of HasWords (e ∷ []) (exprs_in k.0) words;
        short = right_of IsShort (strings_of_expr e) (strings_of_stmt k.0) short;
        known = known;
        fine = (and_cases (callless_expr e) (given_stmt k.0).fine fine).1;
        deep = omega (arith, deep);
      } in
      let begin = loop_head s.frame (path k.0).assigned here in
      bound (MadeBy BranchGood) (MadeBy (StmtForm other)) (branched s.frame (path k.0).breaks e begin) _
      (branch_gives mode visible (path k.0).breaks e typed.0.0 (All-head HasWords e (exprs_in k.0) words) a.0 (left_of IsShort (strings_of_expr e) (strings_of_stmt k.0) short) (omega (arith, deep)) begin off) (λ q h.
      bound (MadeBy (StmtForm true)) (MadeBy (StmtForm other)) ((path k.0).judged s.frame s.head q.1) _ (k.1.whole mode true true visible body (inl (λ x. x)) q.1 h.off) (λ r i.
      made (stated_form other at note (Act-F.While q.0.condition r.0) (act.While q.0.condition r.0) (act.rolls-While q.0.condition r.0) (while_form other at note q.0.condition r.0 h.is i.is)) i.off))

  module _ (l : Option KeptStmt) (e : Option NotedExpr) (m : Option KeptStmt) (k : KeptStmt) (mode : Mode) (looped other : Bool) (visible : List Name) where
    abbrev within : List Name
    within = visible ++ left_by_part (walk_if l)

    abbrev after : List Name
    after = within ++ (walk_of tests k.0).leaves

    abbrev value_words : List NotedExpr
    value_words = inside_if listed (λ (f : NotedExpr). f ∷ []) e

    abbrev value_strings : Strings
    value_strings = inside_if listed strings_of_expr e

    abbrev value_declared : List NotedDecl
    value_declared = inside_if listed (λ (f : NotedExpr). []) e

    abbrev value_depth : ℕ
    value_depth = inside_if highest depth_of_expr e

    record BeforeFor : Type 0 where
      pub typed : FitsIf l mode looped × IfSome e (IsCondition globals s.variables mode) × FitsIf m mode looped × Fits k.0 mode true
      pub passes : (part_passes (walk_if l) visible
          && (value_passes tests within (option_map bare_expr e) && ((walk_of tests k.0).passes within && part_passes (walk_if m) after))) ≡ true
      pub words : All HasWords (words_if l ++ (value_words ++ (exprs_in k.0 ++ words_if m)))
      pub short : AreShort (((strings_if l ++ value_strings) ++ strings_if m) ++ strings_of_stmt k.0)
      pub known : All Known (declared_if l ++ (value_declared ++ ((path k.0).declared ++ declared_if m)))
      pub fine : (begins (given_if l) && (callless_value e && (steps (given_if m) && (given_stmt k.0).fine))) ≡ true
      pub deep : max (max (max (depth_if l) value_depth) (depth_if m)) (depth_of_stmt k.0) ≤ 64

    module _ (b : BeforeFor) where
      valued : (value_passes tests within (option_map bare_expr e) ≡ true) × (((walk_of tests k.0).passes within && part_passes (walk_if m) after) ≡ true)
      valued = and_cases (value_passes tests within (option_map bare_expr e)) _ (and_cases (part_passes (walk_if l) visible) _ b.passes).1

      stepped : ((walk_of tests k.0).passes within ≡ true) × (part_passes (walk_if m) after ≡ true)
      stepped = and_cases ((walk_of tests k.0).passes within) (part_passes (walk_if m) after) valued.1

      worded : All HasWords (value_words ++ (exprs_in k.0 ++ words_if m))
      worded = right_of HasWords (words_if l) (value_words ++ (exprs_in k.0 ++ words_if m)) b.words

      last_words : All HasWords (exprs_in k.0 ++ words_if m)
      last_words = right_of HasWords value_words (exprs_in k.0 ++ words_if m) worded

      first_strings : AreShort ((strings_if l ++ value_strings) ++ strings_if m)
      first_strings = left_of IsShort ((strings_if l ++ value_strings) ++ strings_if m) (strings_of_stmt k.0) b.short

      front_strings : AreShort (strings_if l ++ value_strings)
      front_strings = left_of IsShort (strings_if l ++ value_strings) (strings_if m) first_strings

      last_known : All Known ((path k.0).declared ++ declared_if m)
      last_known =
          right_of Known value_declared ((path k.0).declared ++ declared_if m)
          (right_of Known (declared_if l) (value_declared ++ ((path k.0).declared ++ declared_if m)) b.known)

      begun : begins (given_if l) ≡ true
      begun = (and_cases (begins (given_if l)) _ b.fine).0

      going : (steps (given_if m) ≡ true) × ((given_stmt k.0).fine ≡ true)
      going = and_cases (steps (given_if m)) (given_stmt k.0).fine (and_cases (callless_value e) _ (and_cases (begins (given_if l)) _ b.fine).1).1

      for_first : BeforeIf l mode looped visible
      for_first = record {
        typed = b.typed.0;
        passes = (and_cases (part_passes (walk_if l) visible) _ b.passes).0;
        words = left_of HasWords (words_if l) (value_words ++ (exprs_in k.0 ++ words_if m)) b.words;
        short = left_of IsShort (strings_if l) value_strings front_strings;
        known = left_of Known (declared_if l) (value_declared ++ ((path k.0).declared ++ declared_if m)) b.known;
        fine = begins_fine l begun;
        deep = (let d = b.deep in omega (arith, d));
      }

      for_step : BeforeIf m mode looped after
      for_step = record {
        typed = b.typed.2;
        passes = stepped.1;
        words = right_of HasWords (exprs_in k.0) (words_if m) last_words;
        short = right_of IsShort (strings_if l ++ value_strings) (strings_if m) first_strings;
        known = right_of Known (path k.0).declared (declared_if m) last_known;
        fine = steps_fine m going.0;
        deep = (let d = b.deep in omega (arith, d));
      }

      for_body : Before k.0 mode true within
      for_body = record {
        typed = b.typed.3;
        passes = stepped.0;
        words = left_of HasWords (exprs_in k.0) (words_if m) last_words;
        short = right_of IsShort ((strings_if l ++ value_strings) ++ strings_if m) (strings_of_stmt k.0) b.short;
        known = left_of Known (path k.0).declared (declared_if m) last_known;
        fine = going.1;
        deep = (let d = b.deep in omega (arith, d));
      }

      for_gives : (at : Pos) (note : Note) (here : Here) → here.counting ≡ false
          → Gives (MadeBy (StmtForm other)) (for_judged s.frame s.head at note (path_if l) e (path_if m) (path k.0) here)
      for_gives at note here off =
          let deep = b.deep in
          bound (MadeBy (PartForm' other)) (MadeBy (StmtForm other)) (part_judged s.frame s.head (path_if l) here) _
          (part_gives l mode looped other visible for_first (begins_stay looped other l begun) here off) (λ q h.
          bound (MadeBy StartGood) (MadeBy (StmtForm other)) _ _
          (start_gives mode within (path k.0).breaks (path k.0).continues e (condition_typed mode e b.typed.1) (left_of HasWords value_words (exprs_in k.0 ++ words_if m) worded) valued.0
          (right_of IsShort (strings_if l) value_strings front_strings) (omega (arith, deep)) _ h.off) (λ r i.
          bound (MadeBy (StmtForm true)) (MadeBy (StmtForm other)) ((path k.0).judged s.frame s.head r.1) _ (k.1.whole mode true true within for_body (inl (λ x. x)) r.1 i.off) (λ v j.
          bound (MadeBy (PartForm' false)) (MadeBy (StmtForm other)) (part_judged s.frame s.head (path_if m) (to_step r.0.step v.1)) _
          (part_gives m mode looped false after for_step (steps_stay looped false m going.0) (to_step r.0.step v.1) (step_off r.0.step v.1 j.off)) (λ w o.
          made (stated_form other at note (Act-F.For q.0 r.0.condition w.0 v.0) (act.For q.0 r.0.condition w.0 v.0) (act.rolls-For q.0 r.0.condition w.0 v.0)
          (for_form other at note q.0 r.0.condition w.0 v.0 h.is i.is o.is j.is)) o.off))))

  -- ---- what a statement does

  block_form : (other : Bool) (at : Pos) (note : Note) (m : Option Mode) (ss : List NotedStmt) → ListForm other ss → ActForm other (Act-F.Block m ss) at note
  block_form other at note m ss h k rest behind = h k rest behind

  -- what leaves a loop stands in one by the second flag if it does by the first
  allowed : (looped other : Bool) → Allows looped other true → looped ≡ true → other ≡ true
  allowed looped other (inl f) e = f e
  allowed looped other (inr h) e = absurd cc

  act_step : (y : Act-F Name Note KeptAct KeptStmt) (mode : Mode) (looped other : Bool) (visible : List Name) → BeforeAct (inner_act y) mode looped visible
      → Allows looped other (given_act (given_inside (inner_act y))).jumps → (at : Pos) (note : Note) (here : Here) → here.counting ≡ false
      → Gives (MadeBy (StmtForm other)) ((act_path (act_inside (inner_act y))).judged s.frame s.head at note here)
  act_step (Act-F.Block m ks) mode looped other visible b allow at note here off =
      bound (MadeBy (ListForm other)) (MadeBy (StmtForm other)) _ _
      (all_give ks (unwrap_or m mode) looped other visible (record { typed = b.typed; passes = b.passes; words = b.words; short = b.short; known = b.known; fine = b.fine; deep = b.deep }) allow here off) (λ q h.
      made (stated_form other at note (Act-F.Block m q.0) (act.Block m q.0) (act.rolls-Block m q.0) (block_form other at note m q.0 h.is)) h.off)
  act_step Act-F.Empty mode looped other visible b allow at note here off = made (stated_form other at note Act-F.Empty act.Empty act.rolls-Empty (λ k rest behind. behind)) off
  act_step (Act-F.Local d) mode looped other visible b allow at note here off = local_gives d mode looped other visible b at note here off
  act_step (Act-F.Assign e f) mode looped other visible b allow at note here off =
      bound (MadeBy BothGood) (MadeBy (StmtForm other)) _ _ (sides_give e f mode looped visible b at note here off) (λ q h.
      bound (λ (i : Here). i.counting ≡ false) (MadeBy (StmtForm other)) _ _ (stores_off (q.0 ∷ []) here.next q.1 h.off) (λ i o. made (assign_form other q.0 h.is) o))
  act_step (Act-F.Call e) mode looped other visible b allow at note here off = call_gives e mode looped other visible b at note here off
  act_step (Act-F.If e k None) mode looped other visible b allow at note here off =
      if_gives e k None mode looped other visible (record { typed = b.typed; passes = b.passes; words = b.words; short = b.short; known = b.known; fine = b.fine; deep = b.deep }) allow at note here off
  act_step (Act-F.If e k (Some j)) mode looped other visible b allow at note here off =
      if_gives e k (Some j) mode looped other visible (record { typed = b.typed; passes = b.passes; words = b.words; short = b.short; known = b.known; fine = b.fine; deep = b.deep }) allow at note here off
  act_step (Act-F.While e k) mode looped other visible b allow at note here off = while_gives e k mode looped other visible b.typed b.passes b.words b.short b.known b.fine b.deep at note here off
  act_step (Act-F.For None e None k) mode looped other visible b allow at note here off =
      for_gives None e None k mode looped other visible (record { typed = b.typed; passes = b.passes; words = b.words; short = b.short; known = b.known; fine = b.fine; deep = b.deep }) at note here off
  act_step (Act-F.For None e (Some j) k) mode looped other visible b allow at note here off =
      for_gives None e (Some j) k mode looped other visible (record { typed = b.typed; passes = b.passes; words = b.words; short = b.short; known = b.known; fine = b.fine; deep = b.deep }) at note here off
  act_step (Act-F.For (Some l) e None k) mode looped other visible b allow at note here off =
      for_gives (Some l) e None k mode looped other visible (record { typed = b.typed; passes = b.passes; words = b.words; short = b.short; known = b.known; fine = b.fine; deep = b.deep }) at note here off
  act_step (Act-F.For (Some l) e (Some j) k) mode looped other visible b allow at note here off =
      for_gives (Some l) e (Some j) k mode looped other visible (record { typed = b.typed; passes = b.passes; words = b.words; short = b.short; known = b.known; fine = b.fine; deep = b.deep }) at note here off
  act_step (Act-F.Return e) mode looped other visible b allow at note here off = return_gives e mode looped other visible b at note here off
  act_step Act-F.Break mode looped other visible b allow at note here off =
      made (stated_form other at note Act-F.Break act.Break act.rolls-Break (λ k rest behind. (allowed looped other allow b.typed, behind))) off
  act_step Act-F.Continue mode looped other visible b allow at note here off =
      made (stated_form other at note Act-F.Continue act.Continue act.rolls-Continue (λ k rest behind. (allowed looped other allow b.typed, behind))) off
  act_step (Act-F.Check e) mode looped other visible b allow at note here off = check_gives e mode looped other visible b at note here off
  act_step (Act-F.Bundle ks) mode looped other visible b allow at note here off =
      bundle_gives ks mode looped other visible
      (record { typed = b.typed; passes = b.passes; words = b.words; short = b.short; known = b.known; fine = fine_parts (map given_stmt (firsts ks)) (and_cases (nat_le 2 (length (map given_stmt (firsts ks)))) _ b.fine).1; deep = b.deep })
      at note here off

  part_step : (y : Act-F Name Note KeptAct KeptStmt) (mode : Mode) (looped : Bool) (visible : List Name) → BeforeAct (inner_act y) mode looped visible → (bundle at : Pos) (note : Note) (here : Here)
      → here.counting ≡ false → Gives (MadeBy AssignForm) ((act_path (act_inside (inner_act y))).part s.frame bundle at note here)
  part_step (Act-F.Assign e f) mode looped visible b bundle at note here off =
      as_assigns (sides_judged s.frame at note e f here) (sides_give e f mode looped visible b at note here off)
    where
      as_assigns : (o : Outcome (NotedStmt × Here)) → Gives (MadeBy BothGood) o → Gives (MadeBy AssignForm) o
      as_assigns (Ok q) h = made (assigns_form q.0 h.is) h.off
      as_assigns (Err r) h = tt
  part_step y mode looped visible b bundle at note here off = tt

  -- ---- all statements

  act_by : (x : Layer) (y : Act-F Name Note KeptAct KeptStmt) → inner_act y ≡ x → AnyAct (roll-Act Name Note x)
  act_by x y is =
      let e : act_path (act_inside (inner_act y)) ≡ path_of_act (roll-Act Name Note x) = sym (fold-roll-Act Name Note ActPath Path act_path stmt_path x ∙ ap (λ z. act_path (act_inside z)) (sym is)) in
      let holds : ActHolds (act_path (act_inside (inner_act y))) (inner_act y) = record { whole = act_step y; part = part_step y } in
      record { holds = subst (λ z. ActHolds (path_of_act (roll-Act Name Note x)) z) (is ∙ sym (act_out x)) (subst (λ (q : ActPath). ActHolds q (inner_act y)) e holds) }

  walked_layer : (st : NotedStmt) → walk_of tests st ≡ act_walk tests (out-Act Name Note st.body)
  walked_layer st = walk_are tests st (out-Act Name Note st.body) refl

  opened : (st : NotedStmt) (mode : Mode) (looped : Bool) (visible : List Name) → Before st mode looped visible → BeforeAct (out-Act Name Note st.body) mode looped visible
  opened st mode looped visible b = record {
    typed = ((stmt_by_parts globals s.variables s.result st mode looped).0 b.typed).row;
    passes = sym (ap (λ (w : Walked). w.passes visible) (walked_layer st)) ∙ b.passes;
    words = subst (All HasWords) (exprs_are st) b.words;
    short = subst AreShort (strings_are st) b.short;
    known = subst (All Known) (declared_are st (out-Act Name Note st.body) refl) b.known;
    fine = sym (ap (λ (g : Given). g.fine) (given_are st)) ∙ b.fine;
    deep = (let d = b.deep in let l = depth_layered st in omega (arith, d, l));
  }

  stmt_is : (st : NotedStmt) → AnyAct st.body → StmtHolds st
  stmt_is st a = record {
    whole = λ mode looped other visible b allow here off.
        subst (λ (q : Path). Gives (MadeBy (StmtForm other)) (q.judged s.frame s.head here)) (path_is st)
        (a.holds.whole mode looped other visible (opened st mode looped visible b) (subst (λ (g : Given). Allows looped other g.jumps) (given_are st) allow) st.pos st.note here off);
    part = λ mode looped visible b bundle here off.
        subst (λ (q : Path). Gives (MadeBy AssignForm) (q.part s.frame bundle here)) (path_is st)
        (a.holds.part mode looped visible (opened st mode looped visible b) bundle st.pos st.note here off);
  }

  stmt_by : (x : Stmt-F Name Note NotedAct NotedStmt) (y : Stmt-F Name Note KeptAct KeptStmt) → inner_stmt y ≡ x → StmtHolds (roll-Stmt Name Note x)
  stmt_by x y is = subst (λ z. StmtHolds (roll-Stmt Name Note z)) is (stmt_is (roll-Stmt Name Note (inner_stmt y)) y.body.1)

  statement_form : (st : NotedStmt) → StmtHolds st
  statement_form = ind-Stmt Name Note AnyAct StmtHolds act_by stmt_by

  -- what a body becomes that has been judged has the form
  pub judged_form : (st after : NotedStmt) (mode : Mode) (visible : List Name) → Before st mode false visible → (here : Here) → here.counting ≡ false
      → bind ((path st).judged s.frame s.head here) (λ (q : NotedStmt × Here). Ok q.0) ≡ Ok after → (k : ℕ) → CodeForm fs n false (alone (stmt_elaborated p s.variables s.result k after))
  judged_form st after mode visible b here off is k =
      let made = bound (MadeBy (StmtForm false)) (StmtForm false) ((path st).judged s.frame s.head here) (λ (q : NotedStmt × Here). Ok q.0)
      ((statement_form st).whole mode false false visible b (inl (λ x. x)) here off) (λ q h. h.is) in
      let form : StmtForm false after = subst (Gives (StmtForm false)) is made in
      form k End tt
