-- What the bodies of the functions of a judged text allocate has a size.
use Rattle.std.proofs.Common.{◌≡◌, ◌∙◌, inr, sym, ap, subst, Bool, true, false, List, [], ◌∷◌, ◌++◌, map, rules, arith}
use Rattle.std.specs.Prelude.{All, ◌<◌, Option, None, Some, unwrap_or, IfSome}
use Rattle.std.specs.List.{AllByRecursion, flat_map, list_all}
use Rattle.std.specs.Option.{option_map}
use Rattle.std.proofs.lemmas.List.Elements.{All-nil, All-cons, All-append, All-contains}
use Rattle.ckc_base.specs.declared.arithmetic.Mode.{Mode}
use Rattle.ckc_base.specs.declared.arithmetic.Mode.TheVariants.{Unchecked}
use Rattle.ckc_types.specs.declared.types.CType.{CType}
use Rattle.ckc_types.specs.declared.types.Structs.{Structs}
use Rattle.ckc_syntax.specs.Inside.{all_have, listed, inside_each, inside_if, inside_init}
use Rattle.ckc_syntax.specs.declared.tree.Name.{Name}
use Rattle.ckc_syntax.specs.declared.tree.Init.TheVariants as init
use Rattle.ckc_syntax.specs.declared.tree.Item.TheVariants as item
use Rattle.ckc_syntax.specs.declared.tree.Node.{Node-F, out-Node}
use Rattle.ckc_syntax.specs.declared.tree.Act.{Act-F, map-Act, fold-Act, out-Act, roll-Act, fold-roll-Act, the_lemmas}
use Rattle.ckc_syntax.specs.declared.tree.Stmt.{Stmt-F, map-Stmt, ind-Stmt, roll-Stmt, fold-roll-Stmt}
use Rattle.ckc_syntax_limits.specs.Marks.{marks_of_item, is_node}
use Rattle.ckc_syntax_limits.specs.Small.{Small, how_many}
use Rattle.ckc_typed.specs.declared.environment.Globals.{Globals}
use Rattle.ckc_typed.specs.declared.environment.Variable.{Variable}
use Rattle.ckc_typed.specs.declared.typed.Note.{Note}
use Rattle.ckc_typed.specs.declared.typed.Typed.{Typed}
use Rattle.ckc_typed.specs.Layouts.{structs_of}
use Rattle.ckc_typed.specs.Texts.{globals_of}
use Rattle.ckc_typed.specs.Trees.{Item, Tree, NotedAct, NotedExpr, NotedInit, NotedItem, NotedLayer, NotedStmt}
use Rattle.ckc_typed.specs.Walk.{pragma_after}
use Rattle.ckc_typed_fit.specs.Tests.{Tests, Walked, type_passes, expr_passes, value_passes, init_passes, head_passes, item_passes, items_pass, pass_in_turn, names_declared}
use Rattle.ckc_typed_plain.proofs.Found.{tags_have_bodies}
use Rattle.ckc_typed_welltyped.specs.Declarations.{WellTypedInit}
use Rattle.ckc_typed_welltyped.specs.Expressions.{WellTypedExpr, IsNoted, HasType}
use Rattle.ckc_typed_welltyped.specs.Noteless.{bare_expr, bare_init, bare_head, bare_item, without_notes}
use Rattle.ckc_typed_welltyped.specs.Productions.{given_item, given_tree}
use Rattle.ckc_typed_welltyped.specs.Statements.{IsCondition, act_rows, WellTypedStmt}
use Rattle.ckc_typed_welltyped.specs.Texts.{WellTypedItem, WellTypedItems}
use Rattle.ckc_typed_welltyped.proofs.ByParts.{stmt_by_parts}
use Rattle.ckc_blame_sound.specs.ckc_bounds_known.proofs.Reaching.{and_cases}
use Rattle.ckc_blame_sound.specs.Sized.{IsSizedNode, IsSizedPart, IsSized, HasOnlySized, AllocateSizes}
use Rattle.ckc_blame_sound.specs.Words.{exprs_of_act, exprs_of_stmt, exprs_in}
use Rattle.ckc_blame_sound.specs.JudgedTexts.{IsJudged}
use Rattle.ckc_blame_sound.proofs.Bares.{same_tree}
use Rattle.ckc_blame_sound.proofs.Bounded.{layout_kept}
use Rattle.ckc_blame_sound.proofs.Every.{ExprLayer, each_follows}
use Rattle.ckc_blame_sound.proofs.Functions.{tree_named}
use Rattle.ckc_blame_walk.proofs.Exprs.{node_open, expr_follows}
use Rattle.ckc_blame_walk.proofs.Layers.{walk_of, walk_of_act, act_walk, act_walk_rolled, walk_stated}
use Rattle.ckc_blame_walk.proofs.Sized.{tag_tests, type_sized}
use Rattle.ckc_blame_walk.proofs.Sizes.{HasMembers, all_members}

module _ (js : List Item) (members : All HasMembers js) where
  abbrev structs : Structs
  structs = structs_of js

  abbrev tests : Tests
  tests = tag_tests js

  -- ---- expressions

  -- the tag in the type that a `calloc` writes has a body
  abbrev IsTagged : NotedLayer → Type 0
  IsTagged (Node-F.Calloc w e u) = type_passes tests w ≡ true
  IsTagged n = Unit {0}

  module _ (visible : List Name) where
    tagged : (x : NotedLayer) → node_open tests visible x ≡ true → IsTagged x
    tagged (Node-F.Calloc w e u) h = (and_cases (type_passes tests w) _ h).0
    tagged x h = tt

  module _ (globals : Globals) (variables : List Variable) (mode : Mode) where
    node_sized : (t : CType) (x : NotedLayer) → HasType globals variables mode x t → IsTagged x → IsSizedNode structs x
    node_sized t (Node-F.Calloc w e u) row h = type_sized js members w (inr row.object) h
    node_sized t x row h = tt

    expr_sized : (visible : List Name) (e : NotedExpr) → WellTypedExpr globals variables mode e → expr_passes tests visible (bare_expr e) ≡ true → IsSized structs e
    expr_sized visible e typed passes =
        each_follows (IsNoted globals variables mode) (λ (x : ExprLayer). IsTagged (out-Node Name Note x.node)) (IsSizedPart structs)
        (λ x n h. node_sized x.note.ctype (out-Node Name Note x.node) n.row h) e typed (expr_follows tests visible IsTagged (tagged visible) e passes)

  abbrev AllSized : List NotedExpr → Type 0
  AllSized es = All (IsSized structs) es

  no_exprs : AllSized []
  no_exprs = All-nil (IsSized structs)

  just : (e : NotedExpr) → IsSized structs e → AllSized (e ∷ [])
  just e h = All-cons (IsSized structs) e [] h no_exprs

  joined : (es fs : List NotedExpr) → AllSized es → AllSized fs → AllSized (es ++ fs)
  joined es fs h k = All-append (IsSized structs) es fs h k

  abbrev alone : NotedExpr → List NotedExpr
  alone e = e ∷ []

  -- ---- statements

  module _ (globals : Globals) (variables : List Variable) (result : CType) where
    abbrev Fits : NotedStmt → Mode → Bool → Type 0
    Fits s mode looped = WellTypedStmt globals variables result s mode looped

    module _ (mode : Mode) (visible : List Name) where
      one_sized : (e : NotedExpr) → WellTypedExpr globals variables mode e → expr_passes tests visible (bare_expr e) ≡ true → AllSized (alone e)
      one_sized e typed passes = just e (expr_sized globals variables mode visible e typed passes)

      value_sized : (o : Option NotedExpr) → IfSome o (WellTypedExpr globals variables mode) → value_passes tests visible (option_map bare_expr o) ≡ true → AllSized (inside_if listed alone o)
      value_sized None typed passes = no_exprs
      value_sized (Some e) typed passes = one_sized e typed passes

      test_sized : (o : Option NotedExpr) → IfSome o (IsCondition globals variables mode) → value_passes tests visible (option_map bare_expr o) ≡ true → AllSized (inside_if listed alone o)
      test_sized None typed passes = no_exprs
      test_sized (Some e) typed passes = one_sized e typed.0 passes

      each_sized : (es : List NotedExpr) → AllByRecursion (WellTypedExpr globals variables mode) es → inside_each all_have (expr_passes tests visible) (map bare_expr es) ≡ true → AllSized (inside_each listed alone es)
      each_sized [] typed passes = no_exprs
      each_sized (e ∷ es) typed passes =
          let p = and_cases (expr_passes tests visible (bare_expr e)) _ passes in joined (alone e) _ (one_sized e typed.0 p.0) (each_sized es typed.1 p.1)

      init_sized : (i : NotedInit) → WellTypedInit globals variables mode i → init_passes tests visible (bare_init i) ≡ true → AllSized (inside_init listed alone i)
      init_sized init.Nothing typed passes = no_exprs
      init_sized (init.One e) typed passes = one_sized e typed passes
      init_sized (init.Many es) typed passes = each_sized es typed passes

    abbrev ActLayer : Type 0
    ActLayer = Act-F Name Note NotedAct NotedStmt

    abbrev exprs_in_act : NotedAct → List NotedExpr
    exprs_in_act = fold-Act Name Note (List NotedExpr) (List NotedExpr) exprs_of_act exprs_of_stmt

    record ActFollows (a : NotedAct) : Type 0 where
      pub follow : (mode : Mode) (looped : Bool) (visible : List Name) → act_rows globals variables result Fits (out-Act Name Note a) mode looped → (walk_of_act tests a).passes visible ≡ true
          → AllSized (exprs_in_act a)

    record StmtFollows (s : NotedStmt) : Type 0 where
      pub follow : (mode : Mode) (looped : Bool) (visible : List Name) → Fits s mode looped → (walk_of tests s).passes visible ≡ true → AllSized (exprs_in s)

    abbrev KeptAct : Type 0
    KeptAct = (a : NotedAct) × ActFollows a

    abbrev KeptStmt : Type 0
    KeptStmt = (s : NotedStmt) × StmtFollows s

    abbrev inner_act : Act-F Name Note KeptAct KeptStmt → ActLayer
    inner_act = map-Act Name Note KeptAct KeptStmt NotedAct NotedStmt (λ e. e.0) (λ e. e.0)

    abbrev inner_stmt : Stmt-F Name Note KeptAct KeptStmt → Stmt-F Name Note NotedAct NotedStmt
    inner_stmt = map-Stmt Name Note KeptAct KeptStmt NotedAct NotedStmt (λ e. e.0) (λ e. e.0)

    abbrev act_exprs : ActLayer → Act-F Name Note (List NotedExpr) (List NotedExpr)
    act_exprs = map-Act Name Note NotedAct NotedStmt (List NotedExpr) (List NotedExpr) exprs_in_act exprs_in

    abbrev firsts : List KeptStmt → List NotedStmt
    firsts ks = map (λ (k : KeptStmt). k.0) ks

    each : (ks : List KeptStmt) (mode : Mode) (looped : Bool) (visible : List Name) → AllByRecursion (λ (s : NotedStmt). Fits s mode looped) (firsts ks)
        → pass_in_turn (map (λ (s : NotedStmt). walk_of tests s) (firsts ks)) visible ≡ true → AllSized (inside_each listed (λ (es : List NotedExpr). es) (map exprs_in (firsts ks)))
    each [] mode looped visible typed passes = no_exprs
    each (k ∷ ks) mode looped visible typed passes =
        let p = and_cases ((walk_of tests k.0).passes visible) _ passes in
        joined (exprs_in k.0) _ (k.1.follow mode looped visible typed.0 p.0) (each ks mode looped (visible ++ (walk_of tests k.0).leaves) typed.1 p.1)

    abbrev part_exprs : Option KeptStmt → List NotedExpr
    part_exprs None = []
    part_exprs (Some k) = exprs_in k.0

    -- the parts of a `for`, in the order in which they run
    for_sized : (l : Option KeptStmt) (e : Option NotedExpr) (m : Option KeptStmt) (k : KeptStmt) → AllSized (part_exprs l) → AllSized (inside_if listed alone e) → AllSized (part_exprs m) → AllSized (exprs_in k.0)
        → AllSized (part_exprs l ++ (inside_if listed alone e ++ (exprs_in k.0 ++ part_exprs m)))
    for_sized l e m k a b c d = joined (part_exprs l) _ a (joined (inside_if listed alone e) _ b (joined (exprs_in k.0) (part_exprs m) d c))

    act_step : (y : Act-F Name Note KeptAct KeptStmt) (mode : Mode) (looped : Bool) (visible : List Name) → act_rows globals variables result Fits (inner_act y) mode looped
        → (act_walk tests (inner_act y)).passes visible ≡ true → AllSized (exprs_of_act (act_exprs (inner_act y)))
    act_step (Act-F.Block m ks) mode looped visible typed passes = each ks (unwrap_or m mode) looped visible typed passes
    act_step Act-F.Empty mode looped visible typed passes = no_exprs
    act_step (Act-F.Local d) mode looped visible typed passes =
        let p = and_cases (type_passes tests d.ctype) _ passes in let q = and_cases _ (init_passes tests visible (bare_init d.init)) p.1 in init_sized mode visible d.init typed.parts.init q.1
    act_step (Act-F.Assign e f) mode looped visible typed passes =
        let p = and_cases (expr_passes tests visible (bare_expr e)) (expr_passes tests visible (bare_expr f)) passes in
        joined (alone e) (alone f) (one_sized mode visible e typed.left p.0) (one_sized mode visible f typed.right p.1)
    act_step (Act-F.Call e) mode looped visible typed passes = one_sized mode visible e typed passes
    act_step (Act-F.If e k None) mode looped visible typed passes =
        let p = and_cases (expr_passes tests visible (bare_expr e)) _ passes in
        let q = and_cases ((walk_of tests k.0).passes visible) true p.1 in
        joined (alone e ++ exprs_in k.0) [] (joined (alone e) (exprs_in k.0) (one_sized mode visible e typed.0.0 p.0) (k.1.follow mode looped visible typed.1 q.0)) no_exprs
    act_step (Act-F.If e k (Some l)) mode looped visible typed passes =
        let p = and_cases (expr_passes tests visible (bare_expr e)) _ passes in
        let q = and_cases ((walk_of tests k.0).passes visible) _ p.1 in
        joined (alone e ++ exprs_in k.0) (exprs_in l.0) (joined (alone e) (exprs_in k.0) (one_sized mode visible e typed.0.0 p.0) (k.1.follow mode looped visible typed.1 q.0))
        (l.1.follow mode looped (visible ++ (walk_of tests k.0).leaves) typed.2 q.1)
    act_step (Act-F.While e k) mode looped visible typed passes =
        let p = and_cases (expr_passes tests visible (bare_expr e)) ((walk_of tests k.0).passes visible) passes in
        joined (alone e) (exprs_in k.0) (one_sized mode visible e typed.0.0 p.0) (k.1.follow mode true visible typed.1 p.1)
    act_step (Act-F.For None e None k) mode looped visible typed passes =
        let p = and_cases true _ passes in let q = and_cases (value_passes tests (visible ++ []) (option_map bare_expr e)) _ p.1 in let r = and_cases ((walk_of tests k.0).passes (visible ++ [])) _ q.1 in
        for_sized None e None k no_exprs (test_sized mode (visible ++ []) e typed.1 q.0) no_exprs (k.1.follow mode true (visible ++ []) typed.3 r.0)
    act_step (Act-F.For None e (Some m) k) mode looped visible typed passes =
        let p = and_cases true _ passes in let q = and_cases (value_passes tests (visible ++ []) (option_map bare_expr e)) _ p.1 in let r = and_cases ((walk_of tests k.0).passes (visible ++ [])) _ q.1 in
        for_sized None e (Some m) k no_exprs (test_sized mode (visible ++ []) e typed.1 q.0) (m.1.follow mode looped _ typed.2 r.1) (k.1.follow mode true (visible ++ []) typed.3 r.0)
    act_step (Act-F.For (Some l) e None k) mode looped visible typed passes =
        let more = visible ++ (walk_of tests l.0).leaves in
        let p = and_cases ((walk_of tests l.0).passes visible) _ passes in let q = and_cases (value_passes tests more (option_map bare_expr e)) _ p.1 in let r = and_cases ((walk_of tests k.0).passes more) _ q.1 in
        for_sized (Some l) e None k (l.1.follow mode looped visible typed.0 p.0) (test_sized mode more e typed.1 q.0) no_exprs (k.1.follow mode true more typed.3 r.0)
    act_step (Act-F.For (Some l) e (Some m) k) mode looped visible typed passes =
        let more = visible ++ (walk_of tests l.0).leaves in
        let p = and_cases ((walk_of tests l.0).passes visible) _ passes in let q = and_cases (value_passes tests more (option_map bare_expr e)) _ p.1 in let r = and_cases ((walk_of tests k.0).passes more) _ q.1 in
        for_sized (Some l) e (Some m) k (l.1.follow mode looped visible typed.0 p.0) (test_sized mode more e typed.1 q.0) (m.1.follow mode looped _ typed.2 r.1) (k.1.follow mode true more typed.3 r.0)
    act_step (Act-F.Return e) mode looped visible typed passes = value_sized mode visible e typed.0 passes
    act_step Act-F.Break mode looped visible typed passes = no_exprs
    act_step Act-F.Continue mode looped visible typed passes = no_exprs
    act_step (Act-F.Check e) mode looped visible typed passes = one_sized mode visible e typed.0 passes
    act_step (Act-F.Bundle ks) mode looped visible typed passes = each ks mode looped visible typed passes

    act_out : (x : ActLayer) → out-Act Name Note (roll-Act Name Note x) ≡ x
    act_out x = search (rules, the_lemmas)

    act_by : (x : ActLayer) (y : Act-F Name Note KeptAct KeptStmt) → inner_act y ≡ x → ActFollows (roll-Act Name Note x)
    act_by x y is = record {
      follow = λ mode looped visible typed passes.
          let row = subst (λ z. act_rows globals variables result Fits z mode looped) (act_out x ∙ sym is) typed in
          let open_passes : (act_walk tests (inner_act y)).passes visible ≡ true =
          ap (λ z. (act_walk tests z).passes visible) is ∙ sym (ap (λ (w : Walked). w.passes visible) (act_walk_rolled tests x)) ∙ passes in
          subst AllSized (ap (λ z. exprs_of_act (act_exprs z)) is ∙ sym (fold-roll-Act Name Note (List NotedExpr) (List NotedExpr) exprs_of_act exprs_of_stmt x)) (act_step y mode looped visible row open_passes);
    }

    stmt_is : (s : NotedStmt) → ActFollows s.body → StmtFollows s
    stmt_is s k = record {
      follow = λ mode looped visible typed passes.
          subst AllSized (sym (fold-roll-Stmt Name Note (List NotedExpr) (List NotedExpr) exprs_of_act exprs_of_stmt (record { body = s.body; pos = s.pos; note = s.note })))
          (k.follow mode looped visible ((stmt_by_parts globals variables result s mode looped).0 typed).row
          (ap (λ (w : Walked). w.passes visible) (sym (walk_stated tests s.pos s.note s.body)) ∙ passes));
    }

    stmt_by : (x : Stmt-F Name Note NotedAct NotedStmt) (y : Stmt-F Name Note KeptAct KeptStmt) → inner_stmt y ≡ x → StmtFollows (roll-Stmt Name Note x)
    stmt_by x y is = subst (λ z. StmtFollows (roll-Stmt Name Note z)) is (stmt_is (roll-Stmt Name Note (inner_stmt y)) y.body.1)

    pub statement_sized : (s : NotedStmt) (mode : Mode) (looped : Bool) (visible : List Name) → Fits s mode looped → (walk_of tests s).passes visible ≡ true → HasOnlySized structs s
    statement_sized s mode looped visible typed passes e there =
        All-contains (IsSized structs) (exprs_in s) e ((ind-Stmt Name Note ActFollows StmtFollows act_by stmt_by s).follow mode looped visible typed passes) there

  -- ---- items

  abbrev IsSizedItem : NotedItem → Type 0
  IsSizedItem (item.Function h body) = HasOnlySized structs body
  IsSizedItem i = Unit {0}

  item_is_sized : (globals : Globals) (pragma : Mode) (i : NotedItem) → WellTypedItem globals pragma i → item_passes tests (bare_item i) ≡ true → IsSizedItem i
  item_is_sized globals pragma (item.Function h body) typed passes =
      let p = and_cases (head_passes tests (bare_head h)) ((walk_of tests body).passes (names_declared (bare_head h).params)) passes in
      statement_sized globals _ _ body _ false (names_declared (bare_head h).params) typed.1 p.1
  item_is_sized globals pragma i typed passes = tt

  items_are_sized : (globals : Globals) (pragma : Mode) (is : List NotedItem) → WellTypedItems globals pragma is → list_all (item_passes tests) (map bare_item is) ≡ true → All IsSizedItem is
  items_are_sized globals pragma [] typed passes = All-nil IsSizedItem
  items_are_sized globals pragma (i ∷ is) typed passes =
      let p = and_cases (item_passes tests (bare_item i)) _ passes in
      All-cons IsSizedItem i is (item_is_sized globals pragma i typed.0 p.0) (items_are_sized globals (pragma_after pragma (bare_item i)) is typed.1 p.1)

pub texts_allocate_sizes : (p : Typed) (j : IsJudged p) → given_tree j.named.tree ≡ true → Small j.named.tree → AllocateSizes p
texts_allocate_sizes p j given small q h body w bounded there =
    let js = map bare_item q.tree.items in
    let same : js ≡ j.named.tree.items = ap (λ (t : Tree). t.items) (sym (same_tree q p bounded) ∙ tree_named p j) in
    let all_given : list_all given_item js ≡ true = ap (λ (is : List Item). list_all given_item is) same ∙ given in
    let few = subst (λ (is : List Item). how_many is_node (flat_map marks_of_item is) < 16385) (sym same) (let n = small.nodes in omega arith) in
    let passes : items_pass (tag_tests js) js ≡ true = subst (λ (is : List Item). items_pass (tag_tests is) is ≡ true) (sym same) (tags_have_bodies j.spelled j.named j.has_form j.has_names) in
    let globals = globals_of (without_notes q.tree).items in
    let members = all_members globals Unchecked q.tree.items w.items all_given (omega arith) in
    let all : All (IsSizedItem js members) q.tree.items = items_are_sized js members globals Unchecked q.tree.items w.items passes in
    let one : HasOnlySized (structs_of js) body = All-contains (IsSizedItem js members) q.tree.items (item.Function h body) all there in
    subst (λ (s : Structs). HasOnlySized s body) (sym (layout_kept q p bounded ∙ w.layout)) one
