-- If a test passes of all that a name can mean, it passes of each name of a tree whose names are resolved.
use Rattle.std.proofs.Common.{◌≡◌, sym, ap, refl, subst, ◌∙◌, Bool, true, ◌&&◌, List, [], ◌∷◌, ◌++◌, length, map, take, append_assoc, append-nil}
use Rattle.std.specs.Prelude.{Ok, Option, Some, None, fold}
use Rattle.std.specs.List.{list_all}
use Rattle.std.proofs.Math.Seq.{take-append_seam}
use Rattle.ckc_syntax.specs.declared.tree.Name.{Name}
use Rattle.ckc_syntax.specs.declared.tree.Name.TheVariants as name
use Rattle.ckc_syntax.specs.declared.tree.TypeTree.{map-TypeTree, roll-TypeTree, fold-roll-TypeTree}
use Rattle.ckc_syntax.specs.declared.tree.Limits.{Limits-F, map-Limits, roll-Limits, fold-roll-Limits}
use Rattle.ckc_syntax.specs.declared.tree.Node.{Node-F, map-Node, roll-Node, fold-roll-Node}
use Rattle.ckc_syntax.specs.declared.tree.Expr.{fold-roll-Expr}
use Rattle.ckc_syntax.specs.declared.tree.Init.TheVariants as init
use Rattle.ckc_syntax.specs.declared.tree.Act.{Act-F, map-Act, roll-Act, fold-roll-Act}
use Rattle.ckc_syntax.specs.declared.tree.Stmt.{fold-roll-Stmt}
use Rattle.ckc_resolve.specs.declared.names.Names.{Names}
use Rattle.ckc_resolve.specs.declared.scopes.Scopes.{Scopes}
use Rattle.ckc_resolve.specs.declared.visible.Entry.{Entry}
use Rattle.ckc_resolve.specs.Spellings.{Spelling}
use Rattle.ckc_resolve.specs.Trees.{TypeTree, Item, Head, Decl, Init, Limits, Node, Expr, Act, Stmt, NamedType, NamedItem, NamedDecl, NamedInit, NamedHead, NamedLimits, NamedNode, NamedExpr, NamedAct, NamedStmt}
use Rattle.ckc_resolve.specs.Scoping.{no_scope, with_name, with_local, opened, closed, is_taken_here}
use Rattle.ckc_resolve.specs.Meanings.{meaning_of, member_of, tag_of}
use Rattle.ckc_resolve.specs.Types.{type_named}
use Rattle.ckc_resolve.specs.Expressions.{expr_named, bounds_named, maybe_named}
use Rattle.ckc_resolve.specs.Declarations.{init_named, local_named}
use Rattle.ckc_resolve.specs.Statements.{body_named}
use Rattle.ckc_resolve.specs.Heads.{name_of_member, with_member_name, member_scope, with_param, param_scope}
use Rattle.ckc_typed_fit.specs.Tests as t
use Rattle.ckc_typed_fit.specs.Tests.{Tests, type_passes, limits_pass, node_passes, expr_passes, bounds_pass, value_passes, init_passes, decl_passes, Walked, left_by, pass_in_turn, part_passes, left_by_part, act_walked, stmt_walked, walked_act, walked, names_declared, head_passes, item_passes, items_pass}
use Rattle.ckc_base.proofs.Gives.{Gives, given_from, bound}
use Rattle.ckc_typed_fit.proofs.NamedNodes as nodes
use Rattle.ckc_typed_fit.proofs.NamedNodes.{TypeOf, NamedTypeOf, TypeNamed, LimitsOf, NamedLimitsOf, NodeOf, NamedNodeOf, OfExprs, Each, Maybe, LimitsNamed, NodeNamed}
use Rattle.ckc_typed_fit.proofs.NamedActs as acts
use Rattle.ckc_typed_fit.proofs.NamedActs.{ActOf, NamedActOf, StmtsNamed, PartNamed, ActNamed, BodyNamed}
use Rattle.ckc_typed_fit.proofs.NamedItems as items
use Rattle.ckc_typed_fit.proofs.NamedItems.{DeclNamed, Declared, ParamsNamed, MembersNamed, HeadNamed, ItemNamed, ItemsNamed, local_is}

both : {a b : Bool} → a ≡ true → b ≡ true → (a && b) ≡ true
both {a} {b} p q = ap (λ x. x && b) p ∙ q

-- the names that are visible
abbrev pub names_in : Scopes → List Name
names_in scopes = map (λ (e : Entry). e.name) scopes.visible

map-append : {X Y : Type 0} (f : X → Y) (xs ys : List X) → map f (xs ++ ys) ≡ map f xs ++ map f ys
map-append f [] ys = refl
map-append f (x ∷ xs) ys = ap (λ zs. f x ∷ zs) (map-append f xs ys)

with_one : (scopes : Scopes) (s : Spelling) (n : Name) → names_in (with_name scopes s n) ≡ names_in scopes ++ n ∷ []
with_one scopes s n = map-append (λ (e : Entry). e.name) scopes.visible (record { spelling = s; name = n } ∷ [])

module _ (names : Names) (tests : Tests)
    (name_passes : (scopes : Scopes) (s : Spelling) (n : Name) → meaning_of names scopes s ≡ Some n → tests.name (names_in scopes) n ≡ true)
    (member_passes : (s : Spelling) (n : Name) → member_of names s ≡ Some n → tests.member n ≡ true)
    (tag_passes : (s : Spelling) (n : Name) → tag_of names s ≡ Some n → tests.tag n ≡ true) where
  -- ---- types

  abbrev TypePasses : TypeTree → NamedType → Type 0
  TypePasses t u = type_passes tests u ≡ true

  type_step : (x : TypeOf) (d : NamedTypeOf) → TypeNamed names TypePasses x d → t.type_parts tests (map-TypeTree Name NamedType Bool (type_passes tests) d) ≡ true
  type_step x d nodes.int = refl
  type_step x d nodes.unsigned = refl
  type_step x d nodes.char = refl
  type_step x d nodes.void = refl
  type_step x d (nodes.struct s n pos is) = tag_passes s n is
  type_step x d (nodes.raw pos h) = h
  type_step x d (nodes.one h) = h
  type_step x d (nodes.arr h) = h
  type_step x d (nodes.nt h) = h

  types_closed : (x : TypeOf) (d : NamedTypeOf) → TypeNamed names TypePasses x d → TypePasses (roll-TypeTree Spelling x) (roll-TypeTree Name d)
  types_closed x d h = fold-roll-TypeTree Name Bool (t.type_parts tests) d ∙ type_step x d h

  typed : (t : TypeTree) (u : NamedType) → type_named names t ≡ Ok u → type_passes tests u ≡ true
  typed t u is = given_from (TypePasses t) (type_named names t) u (nodes.type_holds names TypePasses types_closed t) is

  -- ---- expressions

  module _ (scopes : Scopes) where
    abbrev seen : List Name
    seen = names_in scopes

    abbrev LimitsPass : Limits → NamedLimits → Type 0
    LimitsPass l k = limits_pass tests seen k ≡ true

    abbrev NodePasses : Node → NamedNode → Type 0
    NodePasses n m = node_passes tests seen m ≡ true

    expr_passed : (a : NamedExpr) → node_passes tests seen a.node ≡ true → expr_passes tests seen a ≡ true
    expr_passed a h = fold-roll-Expr Name (Unit {0}) Bool Bool Bool t.limits_parts (t.node_parts tests seen) t.expr_parts (record { node = a.node; pos = a.pos; note = tt }) ∙ h

    abbrev limits_tests : NamedLimitsOf → Limits-F Name (Unit {0}) Bool Bool Bool
    limits_tests = map-Limits Name (Unit {0}) NamedLimits NamedNode NamedExpr Bool Bool Bool (limits_pass tests seen) (node_passes tests seen) (expr_passes tests seen)

    abbrev node_tests : NamedNodeOf → Node-F Name (Unit {0}) Bool Bool Bool
    node_tests = map-Node Name (Unit {0}) NamedLimits NamedNode NamedExpr Bool Bool Bool (limits_pass tests seen) (node_passes tests seen) (expr_passes tests seen)

    limits_step : (x : LimitsOf) (d : NamedLimitsOf) → LimitsNamed (OfExprs NodePasses) x d → t.limits_parts (limits_tests d) ≡ true
    limits_step x d (nodes.count pos h) = expr_passed _ h
    limits_step x d (nodes.byte_count pos h) = expr_passed _ h
    limits_step x d (nodes.between pos h i) = both (expr_passed _ h) (expr_passed _ i)
    limits_step x d (nodes.unknown pos) = refl

    limits_closed : (x : LimitsOf) (d : NamedLimitsOf) → LimitsNamed (OfExprs NodePasses) x d → LimitsPass (roll-Limits Spelling (Unit {0}) x) (roll-Limits Name (Unit {0}) d)
    limits_closed x d h = fold-roll-Limits Name (Unit {0}) Bool Bool Bool t.limits_parts (t.node_parts tests seen) t.expr_parts d ∙ limits_step x d h

    args_pass : (es : List Expr) (bs : List NamedExpr) → Each (OfExprs NodePasses) es bs → list_all (λ b. b) (map (expr_passes tests seen) bs) ≡ true
    args_pass es bs nodes.none = refl
    args_pass es bs (nodes.more h hs) = both (expr_passed _ h) (args_pass _ _ hs)

    node_step : (x : NodeOf) (d : NamedNodeOf) → NodeNamed names scopes LimitsPass (OfExprs NodePasses) x d → t.node_parts tests seen (node_tests d) ≡ true
    node_step x d (nodes.number n unsigned) = refl
    node_step x d (nodes.text bytes) = refl
    node_step x d nodes.null = refl
    node_step x d (nodes.name s n is) = name_passes scopes s n is
    node_step x d (nodes.un op h) = expr_passed _ h
    node_step x d (nodes.bin op h i) = both (expr_passed _ h) (expr_passed _ i)
    node_step x d (nodes.pick h g f) = both (both (expr_passed _ h) (expr_passed _ g)) (expr_passed _ f)
    node_step x d (nodes.index h i) = both (expr_passed _ h) (expr_passed _ i)
    node_step x d (nodes.dot s n pos h is) = both (expr_passed _ h) (member_passes s n is)
    node_step x d (nodes.arrow s n pos h is) = both (expr_passed _ h) (member_passes s n is)
    node_step x d (nodes.cast t u is h) = both (typed t u is) (expr_passed _ h)
    node_step x d (nodes.size t u is) = typed t u is
    node_step x d (nodes.trusted t u is h nodes.nothing) = both (typed t u is) (both (expr_passed _ h) refl)
    node_step x d (nodes.trusted t u is h (nodes.just i)) = both (typed t u is) (both (expr_passed _ h) i)
    node_step x d (nodes.tested t u is h nodes.nothing) = both (typed t u is) (both (expr_passed _ h) refl)
    node_step x d (nodes.tested t u is h (nodes.just i)) = both (typed t u is) (both (expr_passed _ h) i)
    node_step x d (nodes.call s n hs is) = both (args_pass _ _ hs) (name_passes scopes s n is)
    node_step x d (nodes.calloc t u v w is h js) = both (typed t v is) (both (expr_passed _ h) (typed u w js))

    nodes_closed : (x : NodeOf) (d : NamedNodeOf) → NodeNamed names scopes LimitsPass (OfExprs NodePasses) x d → NodePasses (roll-Node Spelling (Unit {0}) x) (roll-Node Name (Unit {0}) d)
    nodes_closed x d h = fold-roll-Node Name (Unit {0}) Bool Bool Bool t.limits_parts (t.node_parts tests seen) t.expr_parts d ∙ node_step x d h

    expr_seen : (e : Expr) (a : NamedExpr) → expr_named names scopes e ≡ Ok a → expr_passes tests seen a ≡ true
    expr_seen e a is = expr_passed a (given_from (OfExprs NodePasses e) (expr_named names scopes e) a (nodes.expr_holds names scopes LimitsPass NodePasses limits_closed nodes_closed e) is)

    value_passed : (e : Option Expr) (a : Option NamedExpr) → Maybe (OfExprs NodePasses) e a → value_passes tests seen a ≡ true
    value_passed e a nodes.nothing = refl
    value_passed e a (nodes.just h) = expr_passed _ h

    value_seen : (e : Option Expr) (a : Option NamedExpr) → maybe_named names scopes e ≡ Ok a → value_passes tests seen a ≡ true
    value_seen e a is = value_passed e a (given_from (Maybe (OfExprs NodePasses) e) (maybe_named names scopes e) a (nodes.maybe_holds names scopes LimitsPass NodePasses limits_closed nodes_closed e) is)

    bounds_passed : (l : Option Limits) (k : Option NamedLimits) → Maybe LimitsPass l k → bounds_pass tests seen k ≡ true
    bounds_passed l k nodes.nothing = refl
    bounds_passed l k (nodes.just h) = h

    bounds_seen : (l : Option Limits) (k : Option NamedLimits) → bounds_named names scopes l ≡ Ok k → bounds_pass tests seen k ≡ true
    bounds_seen l k is = bounds_passed l k (given_from (Maybe LimitsPass l) (bounds_named names scopes l) k (nodes.bounds_hold names scopes LimitsPass NodePasses limits_closed nodes_closed l) is)

    abbrev InitPasses : NamedInit → Type 0
    InitPasses j = init_passes tests seen j ≡ true

    init_seen : (i : Init) → Gives InitPasses (init_named names scopes i)
    init_seen init.Nothing = refl
    init_seen (init.One e) = bound (OfExprs NodePasses e) InitPasses _ _ (nodes.expr_holds names scopes LimitsPass NodePasses limits_closed nodes_closed e) (λ a h. expr_passed a h)
    init_seen (init.Many es) =
        bound {A = List NamedExpr} (Each (OfExprs NodePasses) es) InitPasses _ _ (nodes.exprs_hold names scopes LimitsPass NodePasses limits_closed nodes_closed es) (λ bs hs. many es bs hs)
      where
        many : (es : List Expr) (bs : List NamedExpr) → Each (OfExprs NodePasses) es bs → list_all (expr_passes tests seen) bs ≡ true
        many es bs nodes.none = refl
        many es bs (nodes.more h hs) = both (expr_passed _ h) (many _ _ hs)

  decl_seen : (within outside : Scopes) (n : Name) (d : Decl) (e : NamedDecl) → DeclNamed names within outside n d e → decl_passes tests (names_in within) (names_in outside) e ≡ true
  decl_seen within outside n d e h =
      both (typed d.ctype e.ctype h.ctype) (both (bounds_seen within d.bounds e.bounds h.bounds) (given_from (InitPasses outside) (init_named names outside d.init) e.init (init_seen outside d.init) h.init))

  -- ---- statements

  -- a statement passes where it stands, and what is visible after it is what it leaves after what was visible before
  pub record Passes (before : Scopes) (w : Walked) (after : Scopes) : Type 0 where
    pub passes : w.passes (names_in before) ≡ true
    pub leaves : List Entry
    pub visible : after.visible ≡ before.visible ++ leaves
    pub left : map (λ (e : Entry). e.name) leaves ≡ w.leaves

  behind : (before after : Scopes) (w : Walked) → Passes before w after → names_in after ≡ names_in before ++ w.leaves
  behind before after w h = ap (λ es. map (λ (e : Entry). e.name) es) h.visible ∙ map-append (λ (e : Entry). e.name) before.visible h.leaves ∙ ap (λ ns. names_in before ++ ns) h.left

  still : (scopes : Scopes) (w : Walked) → w.passes (names_in scopes) ≡ true → w.leaves ≡ [] → Passes scopes w scopes
  still scopes w h e = record { passes = h; leaves = []; visible = sym (append-nil scopes.visible); left = sym e }

  abbrev ActPasses : Scopes → Act → NamedAct → Scopes → Type 0
  ActPasses before a b after = Passes before (walked_act tests b) after

  abbrev StmtPasses : Scopes → NamedStmt → Scopes → Type 0
  StmtPasses before b after = Passes before (walked tests b) after

  abbrev acts_inside : NamedActOf → Act-F Name (Unit {0}) Walked Walked
  acts_inside = map-Act Name (Unit {0}) NamedAct NamedStmt Walked Walked (walked_act tests) (walked tests)

  stmt_passed : (before : Scopes) (b : NamedStmt) (after : Scopes) → Passes before (walked_act tests b.body) after → StmtPasses before b after
  stmt_passed before b after h =
      subst (λ w. Passes before w after) (sym (fold-roll-Stmt Name (Unit {0}) Walked Walked (act_walked tests) stmt_walked (record { body = b.body; pos = b.pos; note = tt }))) h

  -- statements in turn
  abbrev Turn : List NamedStmt → Walked
  Turn ts = record { leaves = left_by (map (walked tests) ts); passes = pass_in_turn (map (walked tests) ts) }

  followed : (before between after : Scopes) (v w whole : Walked) → Passes before v between → Passes between w after
      → whole.leaves ≡ v.leaves ++ w.leaves → ((visible : List Name) → v.passes visible ≡ true → w.passes (visible ++ v.leaves) ≡ true → whole.passes visible ≡ true) → Passes before whole after
  followed before between after v w whole p q leaves passes = record {
    passes = passes (names_in before) p.passes (subst (λ ns. w.passes ns ≡ true) (behind before between v p) q.passes);
    leaves = p.leaves ++ q.leaves;
    visible = q.visible ∙ ap (λ es. es ++ q.leaves) p.visible ∙ append_assoc before.visible p.leaves q.leaves;
    left = map-append (λ (e : Entry). e.name) p.leaves q.leaves ∙ ap (λ ns. ns ++ map (λ (e : Entry). e.name) q.leaves) p.left ∙ ap (λ ns. v.leaves ++ ns) q.left ∙ sym leaves;
  }

  turn_passes : (before : Scopes) (ss : List Stmt) (ts : List NamedStmt) (after : Scopes) → StmtsNamed ActPasses before ss ts after → Passes before (Turn ts) after
  turn_passes before ss ts after acts.none = still before (Turn []) refl refl
  turn_passes before ss ts after (acts.more {between = between} {t = t} {ss = more} {ts = us} h hs) =
      followed before between after (walked tests t) (Turn us) (Turn (t ∷ us)) (stmt_passed before t between h) (turn_passes between more us after hs) refl (λ visible p q. both p q)

  -- what stood in a scope of its own
  within : (before inner : Scopes) (v w : Walked) → Passes (opened before) v inner → w.leaves ≡ [] → ((visible : List Name) → v.passes visible ≡ true → w.passes visible ≡ true) → Passes before w (closed before inner)
  within before inner v w h e step = record {
    passes = step (names_in before) h.passes;
    leaves = [];
    visible = ap (λ es. take (length before.visible) es) h.visible ∙ take-append_seam before.visible h.leaves ∙ sym (append-nil before.visible);
    left = sym e;
  }

  abbrev walked_part : Option NamedStmt → Option Walked
  walked_part None = None
  walked_part (Some b) = Some (walked tests b)

  abbrev Part : Option NamedStmt → Walked
  Part b = record { leaves = left_by_part (walked_part b); passes = part_passes (walked_part b) }

  part_passed : (before : Scopes) (a : Option Stmt) (b : Option NamedStmt) (after : Scopes) → PartNamed ActPasses before a b after → Passes before (Part b) after
  part_passed before a b after acts.nothing = still before (Part None) refl refl
  part_passed before a b after (acts.just {t = t} h) = stmt_passed _ t _ h

  with_expr : (before after : Scopes) (w : Walked) (e : Expr) (a : NamedExpr) → expr_named names before e ≡ Ok a → Passes before w after
      → Passes before (record { leaves = w.leaves; passes = λ visible. expr_passes tests visible a && w.passes visible }) after
  with_expr before after w e a is h = record { passes = both (expr_seen before e a is) h.passes; leaves = h.leaves; visible = h.visible; left = h.left }

  -- a statement and then a part
  abbrev Both : NamedStmt → Option NamedStmt → Walked
  Both t other = record { leaves = (walked tests t).leaves ++ (Part other).leaves; passes = λ visible. (walked tests t).passes visible && (Part other).passes (visible ++ (walked tests t).leaves) }

  In : {w : Walked} {after : Scopes} (before inner : Scopes) → after ≡ closed before inner → Passes before w (closed before inner) → Passes before w after
  In {w} before inner is h = subst (λ (z : Scopes). Passes before w z) (sym is) h

  for_passed : (begun between inner before : Scopes) (first : Option NamedStmt) (e : Option Expr) (a : Option NamedExpr) (step : Option NamedStmt) (body : NamedStmt)
      → Passes (opened before) (Part first) begun → maybe_named names begun e ≡ Ok a → StmtPasses begun body between → Passes between (Part step) inner
      → Passes before (record {
        leaves = [];
        passes = λ visible. (Part first).passes visible && (value_passes tests (visible ++ (Part first).leaves) a
            && ((walked tests body).passes (visible ++ (Part first).leaves) && (Part step).passes ((visible ++ (Part first).leaves) ++ (walked tests body).leaves)));
      }) (closed before inner)
  for_passed begun between inner before first e a step body f is b s =
      let Rest : Walked = record {
        leaves = (walked tests body).leaves ++ (Part step).leaves;
        passes = λ visible. value_passes tests visible a && ((walked tests body).passes visible && (Part step).passes (visible ++ (walked tests body).leaves));
      } in
      let tail : Passes begun (record { leaves = Rest.leaves; passes = λ visible. (walked tests body).passes visible && (Part step).passes (visible ++ (walked tests body).leaves) }) inner =
      followed begun between inner (walked tests body) (Part step) _ b s refl (λ visible p q. both p q) in
      let rest : Passes begun Rest inner = record { passes = both (value_seen begun e a is) tail.passes; leaves = tail.leaves; visible = tail.visible; left = tail.left } in
      let All : Walked = record { leaves = (Part first).leaves ++ Rest.leaves; passes = λ visible. (Part first).passes visible && Rest.passes (visible ++ (Part first).leaves) } in
      within before inner All _ (followed (opened before) begun inner (Part first) Rest All f rest refl (λ visible p q. both p q)) refl (λ visible p. p)

  act_step : (before : Scopes) (x : ActOf) (d : NamedActOf) (after : Scopes) → ActNamed names ActPasses before x d after → Passes before (act_walked tests (acts_inside d)) after
  act_step before x d after (acts.block {inner = inner} {ts = ts} m hs is) =
      In before inner is (within before inner (Turn ts) _ (turn_passes _ _ ts _ hs) refl (λ visible p. p))
  act_step before x d after acts.empty = still before _ refl refl
  act_step before x d after (acts.local c e is) =
      let h = given_from (Declared (DeclNamed names (with_local before c.name) before (name.Local before.next) c) (is_taken_here before c.name) (with_local before c.name)) (local_named names before c) (e, after) (local_is names before c) is in
      let one : names_in (with_local before c.name) ≡ names_in before ++ e.name ∷ [] = with_one before c.name (name.Local before.next) ∙ ap (λ n. names_in before ++ n ∷ []) (sym h.declared.named) in
      record {
        passes = subst (λ ns. decl_passes tests ns (names_in before) e ≡ true) one (decl_seen (with_local before c.name) before (name.Local before.next) c e h.declared);
        leaves = record { spelling = c.name; name = name.Local before.next } ∷ [];
        visible = ap (λ (s : Scopes). s.visible) h.behind;
        left = ap (λ n. n ∷ []) (sym h.declared.named);
      }
  act_step before x d after (acts.assign e f a b h i) = still before _ (both (expr_seen before e a h) (expr_seen before f b i)) refl
  act_step before x d after (acts.call e a h) = still before _ (expr_seen before e a h) refl
  act_step before x d after (acts.choice {t = t} e a h i acts.nothing) =
      with_expr before after (Both t None) e a h (followed before after after (walked tests t) (Part None) (Both t None) (stmt_passed before t after i) (part_passed after None None after acts.nothing) refl (λ visible p q. both p q))
  act_step before x d after (acts.choice {between = between} {t = t} e a h i (acts.just {s = o} {t = u} g)) =
      with_expr before after (Both t (Some u)) e a h
      (followed before between after (walked tests t) (Part (Some u)) (Both t (Some u)) (stmt_passed before t between i) (part_passed between (Some o) (Some u) after (acts.just g)) refl (λ visible p q. both p q))
  act_step before x d after (acts.while {t = t} e a h i) = with_expr before after (walked tests t) e a h (stmt_passed before t after i)
  act_step before x d after (acts.for {between = between} {t = t} e a acts.nothing h i acts.nothing is) =
      In before between is (for_passed (opened before) between between before None e a None t (part_passed (opened before) None None (opened before) acts.nothing) h (stmt_passed (opened before) t between i) (part_passed between None None between acts.nothing))
  act_step before x d after (acts.for {between = between} {inner = inner} {t = t} e a acts.nothing h i (acts.just {s = o} {t = u} g) is) =
      In before inner is (for_passed (opened before) between inner before None e a (Some u) t (part_passed (opened before) None None (opened before) acts.nothing) h (stmt_passed (opened before) t between i)
      (part_passed between (Some o) (Some u) inner (acts.just g)))
  act_step before x d after (acts.for {begun = begun} {between = between} {t = t} e a (acts.just {s = o} {t = u} f) h i acts.nothing is) =
      In before between is (for_passed begun between between before (Some u) e a None t (part_passed (opened before) (Some o) (Some u) begun (acts.just f)) h (stmt_passed begun t between i) (part_passed between None None between acts.nothing))
  act_step before x d after (acts.for {begun = begun} {between = between} {inner = inner} {t = t} e a (acts.just {s = o} {t = u} f) h i (acts.just {s = p} {t = v} g) is) =
      In before inner is (for_passed begun between inner before (Some u) e a (Some v) t (part_passed (opened before) (Some o) (Some u) begun (acts.just f)) h (stmt_passed begun t between i)
      (part_passed between (Some p) (Some v) inner (acts.just g)))
  act_step before x d after (acts.returns e a h) = still before _ (value_seen before e a h) refl
  act_step before x d after acts.breaks = still before _ refl refl
  act_step before x d after acts.continues = still before _ refl refl
  act_step before x d after (acts.check e a h) = still before _ (expr_seen before e a h) refl
  act_step before x d after (acts.bundle {ts = ts} hs) = turn_passes _ _ ts _ hs

  acts_closed : (before : Scopes) (x : ActOf) (d : NamedActOf) (after : Scopes) → ActNamed names ActPasses before x d after → ActPasses before (roll-Act Spelling (Unit {0}) x) (roll-Act Name (Unit {0}) d) after
  acts_closed before x d after h = subst (λ w. Passes before w after) (sym (fold-roll-Act Name (Unit {0}) Walked Walked (act_walked tests) stmt_walked d)) (act_step before x d after h)

  body_passed : (before : Scopes) (a : Act) (b : NamedAct) (after : Scopes) → BodyNamed ActPasses before a b after → (walked_act tests b).passes (names_in before) ≡ true
  body_passed before a b after (acts.outermost {ts = ts} m is js hs) =
      subst (λ (z : NamedAct). (walked_act tests z).passes (names_in before) ≡ true) js
      (subst (λ (w : Walked). w.passes (names_in before) ≡ true) (sym (fold-roll-Act Name (Unit {0}) Walked Walked (act_walked tests) stmt_walked (Act-F.Block m ts))) (turn_passes _ _ ts _ hs).passes)
  body_passed before a b after (acts.other h) = h.passes

  body_seen : (scopes : Scopes) (s : Stmt) (b : NamedStmt) (after : Scopes) → body_named names s scopes ≡ Ok (b, after) → (walked tests b).passes (names_in scopes) ≡ true
  body_seen scopes s b after is =
      subst (λ (w : Walked). w.passes (names_in scopes) ≡ true) (sym (fold-roll-Stmt Name (Unit {0}) Walked Walked (act_walked tests) stmt_walked (record { body = b.body; pos = b.pos; note = tt })))
      (body_passed scopes s.body b.body after
      (given_from (λ (p : NamedStmt × Scopes). BodyNamed ActPasses scopes s.body p.0.body p.1) (body_named names s scopes) (b, after) (acts.body_holds names ActPasses acts_closed s scopes) is))

  -- ---- heads and items

  -- what is visible after parameters is what was visible before them and their names
  params_behind : (all before : Scopes) (ds : List Decl) (es : List NamedDecl) (after : Scopes) → ParamsNamed names all before ds es after
      → (names_in after ≡ names_in before ++ names_declared es) × (fold with_param before ds ≡ after)
  params_behind all before ds es after items.no_params = (sym (append-nil (names_in before)), refl)
  params_behind all before ds es after (items.param {d = d} {e = e} {es = rest} h new hs) =
      let p = params_behind all (with_local before d.name) _ _ _ hs in
      let one : names_in (with_local before d.name) ≡ names_in before ++ e.name ∷ [] = with_one before d.name (name.Local before.next) ∙ ap (λ n. names_in before ++ n ∷ []) (sym h.named) in
      (p.0 ∙ ap (λ ns. ns ++ names_declared rest) one ∙ append_assoc (names_in before) (e.name ∷ []) (names_declared rest), p.1)

  params_seen : (all before : Scopes) (ds : List Decl) (es : List NamedDecl) (after : Scopes) → ParamsNamed names all before ds es after
      → list_all (decl_passes tests (names_in all) (names_in all)) es ≡ true
  params_seen all before ds es after items.no_params = refl
  params_seen all before ds es after (items.param {d = d} {e = e} h new hs) = both (decl_seen all all _ d e h) (params_seen _ _ _ _ _ hs)

  members_behind : (all : Scopes) (earlier : List Spelling) (before : Scopes) (ds : List Decl) (es : List NamedDecl) → MembersNamed names all earlier ds es
      → names_in (fold (with_member_name names) before ds) ≡ names_in before ++ names_declared es
  members_behind all earlier before ds es items.no_members = sym (append-nil (names_in before))
  members_behind all earlier before ds es (items.member {d = d} {e = e} {es = rest} h new hs) =
      let one : names_in (with_member_name names before d) ≡ names_in before ++ e.name ∷ [] = with_one before d.name (name_of_member names d.name) ∙ ap (λ n. names_in before ++ n ∷ []) (sym h.named) in
      members_behind all _ (with_member_name names before d) _ _ hs ∙ ap (λ ns. ns ++ names_declared rest) one ∙ append_assoc (names_in before) (e.name ∷ []) (names_declared rest)

  members_seen : (all : Scopes) (earlier : List Spelling) (ds : List Decl) (es : List NamedDecl) → MembersNamed names all earlier ds es
      → list_all (decl_passes tests (names_in all) (names_in all)) es ≡ true
  members_seen all earlier ds es items.no_members = refl
  members_seen all earlier ds es (items.member {d = d} {e = e} h new hs) = both (decl_seen all all _ d e h) (members_seen _ _ _ _ hs)

  head_seen : (h : Head) (g : NamedHead) (after : Scopes) → HeadNamed names h g after → (head_passes tests g ≡ true) × (names_in after ≡ names_declared g.params)
  head_seen h g after is =
      let p = params_behind (param_scope h.params) no_scope h.params g.params after is.params in
      let all : names_in (param_scope h.params) ≡ names_declared g.params = ap (λ (s : Scopes). names_in s) p.1 ∙ p.0 in (
        both (typed h.result g.result is.result) (both
            (subst (λ ns. list_all (decl_passes tests ns ns) g.params ≡ true) all (params_seen _ _ _ _ _ is.params))
            (subst (λ ns. bounds_pass tests ns g.bounds ≡ true) all (bounds_seen (param_scope h.params) h.bounds g.bounds is.bounds))),
        p.0,
      )

  item_seen : (all : List Item) (before : Names) (i : Item) (j : NamedItem) → ItemNamed names all before i j → item_passes tests j ≡ true
  item_seen all before i j (items.directive d) = refl
  item_seen all before i j (items.tag s pos) = refl
  item_seen all before i j (items.struct {ds = ds} {es = es} s pos hs) =
      subst (λ ns. list_all (decl_passes tests ns ns) es ≡ true) (members_behind (member_scope names ds) [] no_scope ds es hs) (members_seen _ _ _ _ hs)
  item_seen all before i j (items.static {d = d} {e = e} h new) = decl_seen no_scope no_scope _ d e h
  item_seen all before i j (items.proto {h = h} {g = g} is there) = (head_seen h g _ is).0
  item_seen all before i j (items.function {h = h} {g = g} {s = s} {t = b} {after = after} is new made) =
      let p = head_seen h g _ is in
      both p.0 (subst (λ ns. (walked tests b).passes ns ≡ true) p.1 (body_seen after s b _ made))

  pub items_seen : (all : List Item) (before : Names) (is : List Item) (js : List NamedItem) → ItemsNamed names all before is js → items_pass tests js ≡ true
  items_seen all before is js items.none = refl
  items_seen all before is js (items.more h hs) = both (item_seen _ _ _ _ h) (items_seen _ _ _ _ hs)
