-- A tree keeps its form if its names are resolved: calls stand in the same places, and so do the parts of bundles, of
-- `for` and of structures.
use Rattle.std.proofs.Common.{◌≡◌, ◌∙◌, sym, ap, refl, suc, Bool, true, false, ◌&&◌, ◌||◌, nat_le, List, ◌∷◌, length, map, rules}
use Rattle.std.specs.Prelude.{Ok, if◌then◌else◌, Option, None, Some}
use Rattle.std.specs.List.{list_all}
use Rattle.ckc_syntax.specs.Inside.{all_have, inside_each, inside_if}
use Rattle.ckc_syntax.specs.declared.tree.Name.{Name}
use Rattle.ckc_syntax.specs.declared.tree.Name.TheVariants as name
use Rattle.ckc_syntax.specs.declared.tree.Init.TheVariants as init
use Rattle.ckc_syntax.specs.declared.tree.TreeOp.{TreeOp}
use Rattle.ckc_syntax.specs.declared.tree.NamedText.{NamedText}
use Rattle.ckc_syntax.specs.declared.tree.Limits.{Limits-F, map-Limits, roll-Limits, fold-roll-Limits}
use Rattle.ckc_syntax.specs.declared.tree.Node as trees
use Rattle.ckc_syntax.specs.declared.tree.Node.{Node-F, map-Node, roll-Node, fold-Node, fold-roll-Node}
use Rattle.ckc_syntax.specs.declared.tree.Expr.{fold-roll-Expr}
use Rattle.ckc_syntax.specs.declared.tree.Act as trees_of_acts
use Rattle.ckc_syntax.specs.declared.tree.Act.{Act-F, map-Act, roll-Act, fold-Act, fold-roll-Act}
use Rattle.ckc_syntax.specs.declared.tree.Stmt.{fold-roll-Stmt}
use Rattle.ckc_resolve.specs.declared.names.Names.{Names}
use Rattle.ckc_resolve.specs.declared.scopes.Scopes.{Scopes}
use Rattle.ckc_resolve.specs.Spellings.{Spelling}
use Rattle.ckc_resolve.specs.Trees.{Tree, Item, Head, Decl, Init, Limits, Node, Expr, Act, Stmt, NamedLimits, NamedNode, NamedExpr, NamedInit, NamedDecl, NamedHead, NamedAct, NamedStmt, NamedItem}
use Rattle.ckc_resolve.specs.Scoping.{names_of, no_names, with_local, is_taken_here, opened}
use Rattle.ckc_resolve.specs.Heads.{param_scope}
use Rattle.ckc_resolve.specs.Expressions.{expr_named, bounds_named, maybe_named}
use Rattle.ckc_resolve.specs.Declarations.{init_named, local_named}
use Rattle.ckc_resolve.specs.Statements.{body_named}
use Rattle.ckc_resolve.specs.Phase.{text_named}
use Rattle.ckc_typed_welltyped.specs.Productions.{Form, no_call, limits_formed, is_set, node_formed, expr_formed, limits_form, expr_form, placed_bounds, placed_value, placed_init, placed_start, placed_decl, placed_local, Given, begins, steps, placed_act, given_in, placed_stmt, placed_head, placed_item, with_calls, spoken_tree}
use Rattle.ckc_base.proofs.Gives.{Gives, given_from, bound}
use Rattle.ckc_typed_fit.proofs.NamedNodes as nodes
use Rattle.ckc_typed_fit.proofs.NamedNodes.{LimitsOf, NamedLimitsOf, NodeOf, NamedNodeOf, OfExprs, Each, Maybe, LimitsNamed, NodeNamed}
use Rattle.ckc_typed_fit.proofs.NamedActs as acts
use Rattle.ckc_typed_fit.proofs.NamedActs.{ActOf, NamedActOf, StmtsNamed, ActNamed, BodyNamed}
use Rattle.ckc_typed_fit.proofs.NamedItems as items
use Rattle.ckc_typed_fit.proofs.NamedItems.{DeclNamed, Declared, ParamsNamed, MembersNamed, HeadNamed, ItemNamed, ItemsNamed, local_is, text_is}

both : {a b c d : Bool} → a ≡ c → b ≡ d → (a && b) ≡ (c && d)
both {a} {b} {c} {d} p q = ap (λ x. x && b) p ∙ ap (λ x. c && x) q

-- ---- expressions

abbrev form_of_node : {N A : Type 0} → trees.Node N A → Form
form_of_node {N} {A} = fold-Node N A Bool Form Form limits_formed node_formed expr_formed

abbrev SameNode : Node → NamedNode → Type 0
SameNode n m = form_of_node m ≡ form_of_node n

abbrev SameLimits : Limits → NamedLimits → Type 0
SameLimits l k = limits_form k ≡ limits_form l

form : (e : Expr) (a : NamedExpr) → SameNode e.node a.node → expr_form a ≡ expr_form e
form e a h =
    fold-roll-Expr Name (Unit {0}) Bool Form Form limits_formed node_formed expr_formed (record { node = a.node; pos = a.pos; note = tt })
    ∙ h ∙ sym (fold-roll-Expr Spelling (Unit {0}) Bool Form Form limits_formed node_formed expr_formed (record { node = e.node; pos = e.pos; note = tt }))

inner : (e : Expr) (a : NamedExpr) → SameNode e.node a.node → (expr_form a).inner ≡ (expr_form e).inner
inner e a h = ap (λ (f : Form). f.inner) (form e a h)

right : (e : Expr) (a : NamedExpr) → SameNode e.node a.node → (expr_form a).right ≡ (expr_form e).right
right e a h = ap (λ (f : Form). f.right) (form e a h)

abbrev limits_forms : LimitsOf → Limits-F Spelling (Unit {0}) Bool Form Form
limits_forms = map-Limits Spelling (Unit {0}) Limits Node Expr Bool Form Form limits_form form_of_node expr_form

abbrev named_limits_forms : NamedLimitsOf → Limits-F Name (Unit {0}) Bool Form Form
named_limits_forms = map-Limits Name (Unit {0}) NamedLimits NamedNode NamedExpr Bool Form Form limits_form form_of_node expr_form

limits_parts : (x : LimitsOf) (d : NamedLimitsOf) → LimitsNamed (OfExprs SameNode) x d → limits_formed (named_limits_forms d) ≡ limits_formed (limits_forms x)
limits_parts x d (nodes.count pos h) = inner _ _ h
limits_parts x d (nodes.byte_count pos h) = inner _ _ h
limits_parts x d (nodes.between pos h i) = both (inner _ _ h) (inner _ _ i)
limits_parts x d (nodes.unknown pos) = refl

limits_closed : (x : LimitsOf) (d : NamedLimitsOf) → LimitsNamed (OfExprs SameNode) x d → SameLimits (roll-Limits Spelling (Unit {0}) x) (roll-Limits Name (Unit {0}) d)
limits_closed x d h =
    fold-roll-Limits Name (Unit {0}) Bool Form Form limits_formed node_formed expr_formed d ∙ limits_parts x d h
    ∙ sym (fold-roll-Limits Spelling (Unit {0}) Bool Form Form limits_formed node_formed expr_formed x)

abbrev node_forms : NodeOf → Node-F Spelling (Unit {0}) Bool Form Form
node_forms = map-Node Spelling (Unit {0}) Limits Node Expr Bool Form Form limits_form form_of_node expr_form

abbrev named_node_forms : NamedNodeOf → Node-F Name (Unit {0}) Bool Form Form
named_node_forms = map-Node Name (Unit {0}) NamedLimits NamedNode NamedExpr Bool Form Form limits_form form_of_node expr_form

abbrev all_inner : List Form → Bool
all_inner = inside_each all_have (λ (f : Form). f.inner)

arguments : (es : List Expr) (bs : List NamedExpr) → Each (OfExprs SameNode) es bs → all_inner (map expr_form bs) ≡ all_inner (map expr_form es)
arguments es bs nodes.none = refl
arguments es bs (nodes.more h hs) = both (inner _ _ h) (arguments _ _ hs)

elements : (es : List Expr) (bs : List NamedExpr) → Each (OfExprs SameNode) es bs
    → inside_each all_have (λ (b : NamedExpr). (expr_form b).inner) bs ≡ inside_each all_have (λ (e : Expr). (expr_form e).inner) es
elements es bs nodes.none = refl
elements es bs (nodes.more h hs) = both (inner _ _ h) (elements _ _ hs)

operands : (o : TreeOp) (f g h k : Form) → f ≡ h → g ≡ k
    → no_call (f.inner && (if is_set o then g.right else g.inner)) ≡ no_call (h.inner && (if is_set o then k.right else k.inner))
operands o f g h k p q =
    ap (λ (z : Form). no_call (z.inner && (if is_set o then g.right else g.inner))) p ∙ ap (λ (z : Form). no_call (h.inner && (if is_set o then z.right else z.inner))) q

module _ (names : Names) where
  module _ (scopes : Scopes) where
    node_parts : (x : NodeOf) (d : NamedNodeOf) → NodeNamed names scopes SameLimits (OfExprs SameNode) x d → node_formed (named_node_forms d) ≡ node_formed (node_forms x)
    node_parts x d (nodes.number n unsigned) = refl
    node_parts x d (nodes.text bytes) = refl
    node_parts x d nodes.null = refl
    node_parts x d (nodes.name s n is) = refl
    node_parts x d (nodes.un op h) = ap no_call (inner _ _ h)
    node_parts x d (nodes.bin op h i) = operands op _ _ _ _ (form _ _ h) (form _ _ i)
    node_parts x d (nodes.pick h g f) = ap no_call (both (both (inner _ _ h) (inner _ _ g)) (inner _ _ f))
    node_parts x d (nodes.index h i) = ap no_call (both (inner _ _ h) (inner _ _ i))
    node_parts x d (nodes.dot s n pos h is) = ap no_call (inner _ _ h)
    node_parts x d (nodes.arrow s n pos h is) = ap no_call (inner _ _ h)
    node_parts x d (nodes.cast t u is h) = ap no_call (inner _ _ h)
    node_parts x d (nodes.size t u is) = refl
    node_parts x d (nodes.trusted t u is h nodes.nothing) = ap no_call (both (inner _ _ h) refl)
    node_parts x d (nodes.trusted t u is h (nodes.just i)) = ap no_call (both (inner _ _ h) i)
    node_parts x d (nodes.tested t u is h nodes.nothing) = ap no_call (both (inner _ _ h) refl)
    node_parts x d (nodes.tested t u is h (nodes.just i)) = ap no_call (both (inner _ _ h) i)
    node_parts x d (nodes.call s n hs is) = ap (λ b. record { inner = b; right = b; call = b }) (arguments _ _ hs)
    node_parts x d (nodes.calloc t u v w is h js) = ap (λ b. record { inner = false; right = b; call = b }) (inner _ _ h)

    nodes_closed : (x : NodeOf) (d : NamedNodeOf) → NodeNamed names scopes SameLimits (OfExprs SameNode) x d → SameNode (roll-Node Spelling (Unit {0}) x) (roll-Node Name (Unit {0}) d)
    nodes_closed x d h =
        fold-roll-Node Name (Unit {0}) Bool Form Form limits_formed node_formed expr_formed d ∙ node_parts x d h
        ∙ sym (fold-roll-Node Spelling (Unit {0}) Bool Form Form limits_formed node_formed expr_formed x)

    expr_kept : (e : Expr) (a : NamedExpr) → expr_named names scopes e ≡ Ok a → SameNode e.node a.node
    expr_kept e a is = given_from (OfExprs SameNode e) (expr_named names scopes e) a (nodes.expr_holds names scopes SameLimits SameNode limits_closed nodes_closed e) is

    value_is : (e : Option Expr) (a : Option NamedExpr) → Maybe (OfExprs SameNode) e a → placed_value with_calls a ≡ placed_value with_calls e
    value_is e a nodes.nothing = refl
    value_is e a (nodes.just h) = inner _ _ h

    value_kept : (e : Option Expr) (a : Option NamedExpr) → maybe_named names scopes e ≡ Ok a → placed_value with_calls a ≡ placed_value with_calls e
    value_kept e a is = value_is e a (given_from (Maybe (OfExprs SameNode) e) (maybe_named names scopes e) a (nodes.maybe_holds names scopes SameLimits SameNode limits_closed nodes_closed e) is)

    bounds_are : (l : Option Limits) (k : Option NamedLimits) → Maybe SameLimits l k → placed_bounds with_calls k ≡ placed_bounds with_calls l
    bounds_are l k nodes.nothing = refl
    bounds_are l k (nodes.just h) = h

    bounds_kept : (l : Option Limits) (k : Option NamedLimits) → bounds_named names scopes l ≡ Ok k → placed_bounds with_calls k ≡ placed_bounds with_calls l
    bounds_kept l k is = bounds_are l k (given_from (Maybe SameLimits l) (bounds_named names scopes l) k (nodes.bounds_hold names scopes SameLimits SameNode limits_closed nodes_closed l) is)

    -- an initialiser of either kind
    record SameInit (i : Init) (j : NamedInit) : Type 0 where
      inner : placed_init with_calls j ≡ placed_init with_calls i
      right : placed_start with_calls j ≡ placed_start with_calls i

    init_kept : (i : Init) → Gives (SameInit i) (init_named names scopes i)
    init_kept init.Nothing = record { inner = refl; right = refl }
    init_kept (init.One e) =
        bound (OfExprs SameNode e) (SameInit (init.One e)) _ _ (nodes.expr_holds names scopes SameLimits SameNode limits_closed nodes_closed e) (λ a h. record { inner = inner e a h; right = right e a h })
    init_kept (init.Many es) =
        bound {A = List NamedExpr} (Each (OfExprs SameNode) es) (SameInit (init.Many es)) _ _ (nodes.exprs_hold names scopes SameLimits SameNode limits_closed nodes_closed es)
        (λ bs hs. record { inner = elements es bs hs; right = refl })

  record SameDecl (d : Decl) (e : NamedDecl) : Type 0 where
    plain : placed_decl with_calls e ≡ placed_decl with_calls d
    local : placed_local with_calls e ≡ placed_local with_calls d

  decl_kept : (within outside : Scopes) (n : Name) (d : Decl) (e : NamedDecl) → DeclNamed names within outside n d e → SameDecl d e
  decl_kept within outside n d e h =
      let b = bounds_kept within d.bounds e.bounds h.bounds in
      let i = given_from (SameInit outside d.init) (init_named names outside d.init) e.init (init_kept outside d.init) h.init in
      record { plain = both b i.inner; local = both b i.right }

  -- ---- statements

  abbrev given_of : {N A : Type 0} → trees_of_acts.Act N A → Given
  given_of {N} {A} = fold-Act N A Given Given (placed_act with_calls) given_in

  abbrev SameAct : Scopes → Act → NamedAct → Scopes → Type 0
  SameAct before a b after = given_of b ≡ given_of a

  stmt_is : (s : Stmt) (t : NamedStmt) → given_of t.body ≡ given_of s.body → placed_stmt with_calls t ≡ placed_stmt with_calls s
  stmt_is s t e =
      fold-roll-Stmt Name (Unit {0}) Given Given (placed_act with_calls) given_in (record { body = t.body; pos = t.pos; note = tt })
      ∙ e ∙ sym (fold-roll-Stmt Spelling (Unit {0}) Given Given (placed_act with_calls) given_in (record { body = s.body; pos = s.pos; note = tt }))

  stmts_are : (before : Scopes) (ss : List Stmt) (ts : List NamedStmt) (after : Scopes) → StmtsNamed SameAct before ss ts after → map (placed_stmt with_calls) ts ≡ map (placed_stmt with_calls) ss
  stmts_are before ss ts after acts.none = refl
  stmts_are before ss ts after (acts.more {s = s} {t = t} {ss = more} {ts = rest} h hs) = ap (λ g. g ∷ map (placed_stmt with_calls) rest) (stmt_is s t h) ∙ ap (λ gs. placed_stmt with_calls s ∷ gs) (stmts_are _ more rest _ hs)

  abbrev tests_inside : ActOf → Act-F Spelling (Unit {0}) Given Given
  tests_inside = map-Act Spelling (Unit {0}) Act Stmt Given Given given_of (placed_stmt with_calls)

  abbrev named_tests_inside : NamedActOf → Act-F Name (Unit {0}) Given Given
  named_tests_inside = map-Act Name (Unit {0}) NamedAct NamedStmt Given Given given_of (placed_stmt with_calls)

  branches : (a : NamedExpr) (e : Expr) (g h : Given) (o : Option Given) → (expr_form a).inner ≡ (expr_form e).inner → g ≡ h → placed_act with_calls (Act-F.If a g o) ≡ placed_act with_calls (Act-F.If e h o)
  branches a e g h o p q =
      ap (λ (z : Given). placed_act with_calls (Act-F.If a z o)) q
      ∙ ap (λ b. record (placed_act with_calls (Act-F.If e h o)) { fine = (b && h.fine) && inside_if all_have (λ (s : Given). s.fine) o }) p

  turns : (a : Option NamedExpr) (e : Option Expr) (l m : Option Given) (g : Given) → placed_value with_calls a ≡ placed_value with_calls e
      → placed_act with_calls (Act-F.For l a m g) ≡ placed_act with_calls (Act-F.For l e m g)
  turns a e l m g p = ap (λ b. record (placed_act with_calls (Act-F.For l e m g)) { fine = begins l && (b && (steps m && g.fine)) }) p

  -- a statement without others in it, that is no assignment and no declaration
  abbrev alone : Bool → Given
  alone fine = record { fine = fine; nested = true; assigns = false; declares = false; jumps = false }

  act_parts : (before : Scopes) (x : ActOf) (d : NamedActOf) (after : Scopes) → ActNamed names SameAct before x d after → placed_act with_calls (named_tests_inside d) ≡ placed_act with_calls (tests_inside x)
  act_parts before x d after (acts.block m hs is) = ap (λ gs. placed_act {N = Name} {A = Unit {0}} with_calls (Act-F.Block m gs)) (stmts_are _ _ _ _ hs)
  act_parts before x d after acts.empty = refl
  act_parts before x d after (acts.local c e is) =
      let h = given_from (Declared (DeclNamed names (with_local before c.name) before (name.Local before.next) c) (is_taken_here before c.name) (with_local before c.name)) (local_named names before c) (e, after) (local_is names before c) is in
      ap (λ b. record { fine = b; nested = true; assigns = false; declares = true; jumps = false }) (decl_kept (with_local before c.name) before (name.Local before.next) c e h.declared).local
  act_parts before x d after (acts.assign e f a b h i) =
      ap (λ z. record { fine = z; nested = true; assigns = true; declares = false; jumps = false }) (both (inner e a (expr_kept before e a h)) (right f b (expr_kept before f b i)))
  act_parts before x d after (acts.call e a h) = ap alone (ap (λ (f : Form). f.call) (form e a (expr_kept before e a h)))
  act_parts before x d after (acts.choice {s = s} {t = t} e a h i acts.nothing) = branches a e (placed_stmt with_calls t) (placed_stmt with_calls s) None (inner e a (expr_kept before e a h)) (stmt_is s t i)
  act_parts before x d after (acts.choice {s = s} {t = t} e a h i (acts.just {s = o} {t = u} g)) =
      branches a e (placed_stmt with_calls t) (placed_stmt with_calls s) (Some (placed_stmt with_calls u)) (inner e a (expr_kept before e a h)) (stmt_is s t i) ∙ ap (λ z. placed_act with_calls (Act-F.If e (placed_stmt with_calls s) (Some z))) (stmt_is o u g)
  act_parts before x d after (acts.while {s = s} {t = t} e a h i) =
      ap (λ z. placed_act with_calls (Act-F.While a z)) (stmt_is s t i)
      ∙ ap (λ b. record (placed_act with_calls (Act-F.While e (placed_stmt with_calls s))) { fine = b && (placed_stmt with_calls s).fine }) (inner e a (expr_kept before e a h))
  act_parts before x d after (acts.for {s = s} {t = t} e a acts.nothing h i acts.nothing is) =
      turns a e None None (placed_stmt with_calls t) (value_kept (opened before) e a h) ∙ ap (λ z. placed_act with_calls (Act-F.For None e None z)) (stmt_is s t i)
  act_parts before x d after (acts.for {s = s} {t = t} e a acts.nothing h i (acts.just {s = o} {t = u} g) is) =
      turns a e None (Some (placed_stmt with_calls u)) (placed_stmt with_calls t) (value_kept (opened before) e a h) ∙ ap (λ z. placed_act with_calls (Act-F.For None e (Some z) (placed_stmt with_calls t))) (stmt_is o u g)
      ∙ ap (λ z. placed_act with_calls (Act-F.For None e (Some (placed_stmt with_calls o)) z)) (stmt_is s t i)
  act_parts before x d after (acts.for {begun = begun} {s = s} {t = t} e a (acts.just {s = o} {t = u} f) h i acts.nothing is) =
      turns a e (Some (placed_stmt with_calls u)) None (placed_stmt with_calls t) (value_kept begun e a h) ∙ ap (λ z. placed_act with_calls (Act-F.For (Some z) e None (placed_stmt with_calls t))) (stmt_is o u f)
      ∙ ap (λ z. placed_act with_calls (Act-F.For (Some (placed_stmt with_calls o)) e None z)) (stmt_is s t i)
  act_parts before x d after (acts.for {begun = begun} {s = s} {t = t} e a (acts.just {s = o} {t = u} f) h i (acts.just {s = p} {t = v} g) is) =
      turns a e (Some (placed_stmt with_calls u)) (Some (placed_stmt with_calls v)) (placed_stmt with_calls t) (value_kept begun e a h)
      ∙ ap (λ z. placed_act with_calls (Act-F.For (Some z) e (Some (placed_stmt with_calls v)) (placed_stmt with_calls t))) (stmt_is o u f)
      ∙ ap (λ z. placed_act with_calls (Act-F.For (Some (placed_stmt with_calls o)) e (Some z) (placed_stmt with_calls t))) (stmt_is p v g)
      ∙ ap (λ z. placed_act with_calls (Act-F.For (Some (placed_stmt with_calls o)) e (Some (placed_stmt with_calls p)) z)) (stmt_is s t i)
  act_parts before x d after (acts.returns e a h) = ap alone (value_kept before e a h)
  act_parts before x d after acts.breaks = refl
  act_parts before x d after acts.continues = refl
  act_parts before x d after (acts.check e a h) = ap alone (inner e a (expr_kept before e a h))
  act_parts before x d after (acts.bundle hs) = ap (λ gs. placed_act {N = Name} {A = Unit {0}} with_calls (Act-F.Bundle gs)) (stmts_are _ _ _ _ hs)

  closed_up : (x : ActOf) (d : NamedActOf) → placed_act with_calls (named_tests_inside d) ≡ placed_act with_calls (tests_inside x) → given_of (roll-Act Name (Unit {0}) d) ≡ given_of (roll-Act Spelling (Unit {0}) x)
  closed_up x d h = fold-roll-Act Name (Unit {0}) Given Given (placed_act with_calls) given_in d ∙ h ∙ sym (fold-roll-Act Spelling (Unit {0}) Given Given (placed_act with_calls) given_in x)

  acts_closed : (before : Scopes) (x : ActOf) (d : NamedActOf) (after : Scopes) → ActNamed names SameAct before x d after → SameAct before (roll-Act Spelling (Unit {0}) x) (roll-Act Name (Unit {0}) d) after
  acts_closed before x d after h = closed_up x d (act_parts before x d after h)

  body_is : (before : Scopes) (a : Act) (b : NamedAct) (after : Scopes) → BodyNamed SameAct before a b after → given_of b ≡ given_of a
  body_is before a b after (acts.outermost {ss = ss} {ts = ts} m is js hs) =
      ap (λ (z : NamedAct). given_of z) (sym js) ∙ closed_up (Act-F.Block m ss) (Act-F.Block m ts) (ap (λ gs. placed_act {N = Name} {A = Unit {0}} with_calls (Act-F.Block m gs)) (stmts_are _ _ _ _ hs)) ∙ ap (λ (z : Act). given_of z) is
  body_is before a b after (acts.other h) = h

  body_kept : (scopes : Scopes) (s : Stmt) (t : NamedStmt) (behind : Scopes) → body_named names s scopes ≡ Ok (t, behind) → placed_stmt with_calls t ≡ placed_stmt with_calls s
  body_kept scopes s t behind is =
      stmt_is s t (body_is scopes s.body t.body behind
      (given_from (λ (p : NamedStmt × Scopes). BodyNamed SameAct scopes s.body p.0.body p.1) (body_named names s scopes) (t, behind) (acts.body_holds names SameAct acts_closed s scopes) is))

  -- ---- items

  params_kept : (all before : Scopes) (ds : List Decl) (es : List NamedDecl) (behind : Scopes) → ParamsNamed names all before ds es behind → list_all (placed_decl with_calls) es ≡ list_all (placed_decl with_calls) ds
  params_kept all before ds es behind items.no_params = refl
  params_kept all before ds es behind (items.param {d = d} {e = e} h new hs) = both (decl_kept _ _ _ d e h).plain (params_kept _ _ _ _ _ hs)

  members_kept : (all : Scopes) (before : List Spelling) (ds : List Decl) (es : List NamedDecl) → MembersNamed names all before ds es → list_all (placed_decl with_calls) es ≡ list_all (placed_decl with_calls) ds
  members_kept all before ds es items.no_members = refl
  members_kept all before ds es (items.member {d = d} {e = e} h new hs) = both (decl_kept _ _ _ d e h).plain (members_kept _ _ _ _ hs)

  as_many : (all : Scopes) (before : List Spelling) (ds : List Decl) (es : List NamedDecl) → MembersNamed names all before ds es → length es ≡ length ds
  as_many all before ds es items.no_members = refl
  as_many all before ds es (items.member h new hs) = ap suc (as_many _ _ _ _ hs)

  head_kept : (h : Head) (g : NamedHead) (behind : Scopes) → HeadNamed names h g behind → placed_head with_calls g ≡ placed_head with_calls h
  head_kept h g behind is = both (params_kept _ _ _ _ _ is.params) (bounds_kept (param_scope h.params) h.bounds g.bounds is.bounds)

  item_kept : (all : List Item) (before : Names) (i : Item) (j : NamedItem) → ItemNamed names all before i j → placed_item with_calls j ≡ placed_item with_calls i
  item_kept all before i j (items.directive d) = refl
  item_kept all before i j (items.tag s pos) = refl
  item_kept all before i j (items.struct s pos hs) = both (ap (nat_le 1) (as_many _ _ _ _ hs)) (members_kept _ _ _ _ hs)
  item_kept all before i j (items.static {d = d} {e = e} h new) = (decl_kept _ _ _ d e h).plain
  item_kept all before i j (items.proto {h = h} {g = g} is there) = head_kept h g _ is
  item_kept all before i j (items.function {h = h} {g = g} {s = s} {t = t} is new made) = both (head_kept h g _ is) (ap (λ (x : Given). x.fine && x.nested) (body_kept _ s t _ made))

  items_kept : (all : List Item) (before : Names) (is : List Item) (js : List NamedItem) → ItemsNamed names all before is js → list_all (placed_item with_calls) js ≡ list_all (placed_item with_calls) is
  items_kept all before is js items.none = refl
  items_kept all before is js (items.more h hs) = both (item_kept _ _ _ _ h) (items_kept _ _ _ _ hs)

pub form_kept : (tree : Tree) (n : NamedText) → text_named tree ≡ Ok n → spoken_tree n.tree ≡ spoken_tree tree
form_kept tree n e = items_kept (names_of tree) tree.items no_names tree.items n.tree.items (text_is tree n e).items
