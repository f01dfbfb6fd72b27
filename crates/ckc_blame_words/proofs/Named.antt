-- Literals stay as they are if names are resolved.
use Rattle.std.proofs.Common.{◌≡◌, ◌∙◌, sym, ap, refl, Bool, true, ◌&&◌, List, map}
use Rattle.std.specs.Prelude.{Ok, Option}
use Rattle.std.specs.List.{list_all}
use Rattle.ckc_syntax.specs.Inside.{all_have, inside_if, inside_each}
use Rattle.ckc_syntax.specs.declared.tree.Name.{Name}
use Rattle.ckc_syntax.specs.declared.tree.Name.TheVariants as name
use Rattle.ckc_syntax.specs.declared.tree.Init.TheVariants as init
use Rattle.ckc_syntax.specs.declared.tree.NamedText.{NamedText}
use Rattle.ckc_syntax.specs.declared.tree.Limits.{Limits-F, map-Limits, roll-Limits, fold-roll-Limits}
use Rattle.ckc_syntax.specs.declared.tree.Node as trees
use Rattle.ckc_syntax.specs.declared.tree.Node.{Node-F, map-Node, roll-Node, fold-Node, fold-roll-Node}
use Rattle.ckc_syntax.specs.declared.tree.Expr.{fold-roll-Expr}
use Rattle.ckc_syntax.specs.declared.tree.Act as trees_of_acts
use Rattle.ckc_syntax.specs.declared.tree.Act.{Act-F, map-Act, roll-Act, fold-Act, fold-roll-Act}
use Rattle.ckc_syntax.specs.declared.tree.Stmt.{fold-roll-Stmt}
use Rattle.ckc_resolve.specs.declared.names.Names.{Names}
use Rattle.ckc_resolve.specs.declared.scopes.Scopes.{Scopes}
use Rattle.ckc_resolve.specs.Spellings.{Spelling}
use Rattle.ckc_resolve.specs.Trees.{Tree, Item, Head, Decl, Init, Limits, Node, Expr, Act, Stmt, NamedLimits, NamedNode, NamedExpr, NamedInit, NamedDecl, NamedHead, NamedAct, NamedStmt, NamedItem}
use Rattle.ckc_resolve.specs.Scoping.{names_of, no_names, with_local, is_taken_here, opened}
use Rattle.ckc_resolve.specs.Heads.{param_scope}
use Rattle.ckc_resolve.specs.Expressions.{expr_named, bounds_named, maybe_named}
use Rattle.ckc_resolve.specs.Declarations.{init_named, local_named}
use Rattle.ckc_resolve.specs.Statements.{body_named}
use Rattle.ckc_resolve.specs.Phase.{text_named}
use Rattle.ckc_base.proofs.Gives.{Gives, given_from, bound}
use Rattle.ckc_typed_fit.proofs.NamedNodes as nodes
use Rattle.ckc_typed_fit.proofs.NamedNodes.{LimitsOf, NamedLimitsOf, NodeOf, NamedNodeOf, OfExprs, Each, Maybe, LimitsNamed, NodeNamed}
use Rattle.ckc_typed_fit.proofs.NamedActs as acts
use Rattle.ckc_typed_fit.proofs.NamedActs.{ActOf, NamedActOf, StmtsNamed, PartNamed, ActNamed, BodyNamed}
use Rattle.ckc_typed_fit.proofs.NamedItems as items
use Rattle.ckc_typed_fit.proofs.NamedItems.{DeclNamed, Declared, ParamsNamed, MembersNamed, HeadNamed, ItemNamed, ItemsNamed, local_is, text_is}
use Rattle.ckc_blame_words.specs.Literals.{limits_by_parts, node_by_parts, expr_by_parts, limits_have_words, expr_has_words, init_has_words, decl_has_words, act_by_parts, stmt_by_parts, stmt_has_words, head_has_words, item_has_words, tree_has_words}

both : {a b c d : Bool} → a ≡ c → b ≡ d → (a && b) ≡ (c && d)
both {a} {b} {c} {d} p q = ap (λ x. x && b) p ∙ ap (λ x. c && x) q

all_of : (a b c d e f g h : Bool) → a ≡ e → b ≡ f → c ≡ g → d ≡ h → (((a && b) && c) && d) ≡ (((e && f) && g) && h)
all_of a b c d e f g h p q r s = both (both (both p q) r) s

-- ---- expressions

abbrev node_has_words : {N A : Type 0} → trees.Node N A → Bool
node_has_words {N} {A} = fold-Node N A Bool Bool Bool limits_by_parts node_by_parts expr_by_parts

abbrev SameNode : Node → NamedNode → Type 0
SameNode n m = node_has_words m ≡ node_has_words n

abbrev SameLimits : Limits → NamedLimits → Type 0
SameLimits l k = limits_have_words k ≡ limits_have_words l

of_node : (e : Expr) (a : NamedExpr) → SameNode e.node a.node → expr_has_words a ≡ expr_has_words e
of_node e a h =
    fold-roll-Expr Name (Unit {0}) Bool Bool Bool limits_by_parts node_by_parts expr_by_parts (record { node = a.node; pos = a.pos; note = tt })
    ∙ h ∙ sym (fold-roll-Expr Spelling (Unit {0}) Bool Bool Bool limits_by_parts node_by_parts expr_by_parts (record { node = e.node; pos = e.pos; note = tt }))

abbrev limits_inside : LimitsOf → Limits-F Spelling (Unit {0}) Bool Bool Bool
limits_inside = map-Limits Spelling (Unit {0}) Limits Node Expr Bool Bool Bool limits_have_words node_has_words expr_has_words

abbrev named_limits_inside : NamedLimitsOf → Limits-F Name (Unit {0}) Bool Bool Bool
named_limits_inside = map-Limits Name (Unit {0}) NamedLimits NamedNode NamedExpr Bool Bool Bool limits_have_words node_has_words expr_has_words

limits_same : (x : LimitsOf) (d : NamedLimitsOf) → LimitsNamed (OfExprs SameNode) x d → limits_by_parts (named_limits_inside d) ≡ limits_by_parts (limits_inside x)
limits_same x d (nodes.count pos h) = of_node _ _ h
limits_same x d (nodes.byte_count pos h) = of_node _ _ h
limits_same x d (nodes.between pos h i) = both (of_node _ _ h) (of_node _ _ i)
limits_same x d (nodes.unknown pos) = refl

limits_closed : (x : LimitsOf) (d : NamedLimitsOf) → LimitsNamed (OfExprs SameNode) x d → SameLimits (roll-Limits Spelling (Unit {0}) x) (roll-Limits Name (Unit {0}) d)
limits_closed x d h =
    fold-roll-Limits Name (Unit {0}) Bool Bool Bool limits_by_parts node_by_parts expr_by_parts d ∙ limits_same x d h
    ∙ sym (fold-roll-Limits Spelling (Unit {0}) Bool Bool Bool limits_by_parts node_by_parts expr_by_parts x)

abbrev node_inside : NodeOf → Node-F Spelling (Unit {0}) Bool Bool Bool
node_inside = map-Node Spelling (Unit {0}) Limits Node Expr Bool Bool Bool limits_have_words node_has_words expr_has_words

abbrev named_node_inside : NamedNodeOf → Node-F Name (Unit {0}) Bool Bool Bool
named_node_inside = map-Node Name (Unit {0}) NamedLimits NamedNode NamedExpr Bool Bool Bool limits_have_words node_has_words expr_has_words

exprs_same : (es : List Expr) (bs : List NamedExpr) → Each (OfExprs SameNode) es bs → inside_each all_have expr_has_words bs ≡ inside_each all_have expr_has_words es
exprs_same es bs nodes.none = refl
exprs_same es bs (nodes.more h hs) = both (of_node _ _ h) (exprs_same _ _ hs)

-- the arguments of a call
args_same : (es : List Expr) (bs : List NamedExpr) → Each (OfExprs SameNode) es bs
    → inside_each all_have (λ (b : Bool). b) (map expr_has_words bs) ≡ inside_each all_have (λ (b : Bool). b) (map expr_has_words es)
args_same es bs nodes.none = refl
args_same es bs (nodes.more h hs) = both (of_node _ _ h) (args_same _ _ hs)

module _ (names : Names) where
  module _ (scopes : Scopes) where
    node_same : (x : NodeOf) (d : NamedNodeOf) → NodeNamed names scopes SameLimits (OfExprs SameNode) x d → node_by_parts (named_node_inside d) ≡ node_by_parts (node_inside x)
    node_same x d (nodes.number n unsigned) = refl
    node_same x d (nodes.text bytes) = refl
    node_same x d nodes.null = refl
    node_same x d (nodes.name s n is) = refl
    node_same x d (nodes.un op h) = of_node _ _ h
    node_same x d (nodes.bin op h i) = both (of_node _ _ h) (of_node _ _ i)
    node_same x d (nodes.pick h g f) = both (both (of_node _ _ h) (of_node _ _ g)) (of_node _ _ f)
    node_same x d (nodes.index h i) = both (of_node _ _ h) (of_node _ _ i)
    node_same x d (nodes.dot s n pos h is) = of_node _ _ h
    node_same x d (nodes.arrow s n pos h is) = of_node _ _ h
    node_same x d (nodes.cast t u is h) = of_node _ _ h
    node_same x d (nodes.size t u is) = refl
    node_same x d (nodes.trusted t u is h nodes.nothing) = both (of_node _ _ h) refl
    node_same x d (nodes.trusted t u is h (nodes.just i)) = both (of_node _ _ h) i
    node_same x d (nodes.tested t u is h nodes.nothing) = both (of_node _ _ h) refl
    node_same x d (nodes.tested t u is h (nodes.just i)) = both (of_node _ _ h) i
    node_same x d (nodes.call s n hs is) = args_same _ _ hs
    node_same x d (nodes.calloc t u v w is h js) = of_node _ _ h

    nodes_closed : (x : NodeOf) (d : NamedNodeOf) → NodeNamed names scopes SameLimits (OfExprs SameNode) x d → SameNode (roll-Node Spelling (Unit {0}) x) (roll-Node Name (Unit {0}) d)
    nodes_closed x d h =
        fold-roll-Node Name (Unit {0}) Bool Bool Bool limits_by_parts node_by_parts expr_by_parts d ∙ node_same x d h
        ∙ sym (fold-roll-Node Spelling (Unit {0}) Bool Bool Bool limits_by_parts node_by_parts expr_by_parts x)

    expr_kept : (e : Expr) (a : NamedExpr) → expr_named names scopes e ≡ Ok a → expr_has_words a ≡ expr_has_words e
    expr_kept e a is = of_node e a (given_from (OfExprs SameNode e) (expr_named names scopes e) a (nodes.expr_holds names scopes SameLimits SameNode limits_closed nodes_closed e) is)

    value_is : (e : Option Expr) (a : Option NamedExpr) → Maybe (OfExprs SameNode) e a → inside_if all_have expr_has_words a ≡ inside_if all_have expr_has_words e
    value_is e a nodes.nothing = refl
    value_is e a (nodes.just h) = of_node _ _ h

    value_kept : (e : Option Expr) (a : Option NamedExpr) → maybe_named names scopes e ≡ Ok a → inside_if all_have expr_has_words a ≡ inside_if all_have expr_has_words e
    value_kept e a is = value_is e a (given_from (Maybe (OfExprs SameNode) e) (maybe_named names scopes e) a (nodes.maybe_holds names scopes SameLimits SameNode limits_closed nodes_closed e) is)

    bounds_are : (l : Option Limits) (k : Option NamedLimits) → Maybe SameLimits l k → inside_if all_have limits_have_words k ≡ inside_if all_have limits_have_words l
    bounds_are l k nodes.nothing = refl
    bounds_are l k (nodes.just h) = h

    bounds_kept : (l : Option Limits) (k : Option NamedLimits) → bounds_named names scopes l ≡ Ok k → inside_if all_have limits_have_words k ≡ inside_if all_have limits_have_words l
    bounds_kept l k is = bounds_are l k (given_from (Maybe SameLimits l) (bounds_named names scopes l) k (nodes.bounds_hold names scopes SameLimits SameNode limits_closed nodes_closed l) is)

    abbrev SameInit : Init → NamedInit → Type 0
    SameInit i j = init_has_words j ≡ init_has_words i

    init_kept : (i : Init) → Gives (SameInit i) (init_named names scopes i)
    init_kept init.Nothing = refl
    init_kept (init.One e) =
        bound (OfExprs SameNode e) (SameInit (init.One e)) _ _ (nodes.expr_holds names scopes SameLimits SameNode limits_closed nodes_closed e) (λ a h. of_node e a h)
    init_kept (init.Many es) =
        bound {A = List NamedExpr} (Each (OfExprs SameNode) es) (SameInit (init.Many es)) _ _ (nodes.exprs_hold names scopes SameLimits SameNode limits_closed nodes_closed es)
        (λ bs hs. exprs_same es bs hs)

  decl_kept : (within outside : Scopes) (n : Name) (d : Decl) (e : NamedDecl) → DeclNamed names within outside n d e → decl_has_words e ≡ decl_has_words d
  decl_kept within outside n d e h =
      both (bounds_kept within d.bounds e.bounds h.bounds) (given_from (SameInit outside d.init) (init_named names outside d.init) e.init (init_kept outside d.init) h.init)

  -- ---- statements

  abbrev act_has_words : {N A : Type 0} → trees_of_acts.Act N A → Bool
  act_has_words {N} {A} = fold-Act N A Bool Bool act_by_parts stmt_by_parts

  abbrev SameAct : Scopes → Act → NamedAct → Scopes → Type 0
  SameAct before a b after = act_has_words b ≡ act_has_words a

  stmt_is : (s : Stmt) (t : NamedStmt) → act_has_words t.body ≡ act_has_words s.body → stmt_has_words t ≡ stmt_has_words s
  stmt_is s t e =
      fold-roll-Stmt Name (Unit {0}) Bool Bool act_by_parts stmt_by_parts (record { body = t.body; pos = t.pos; note = tt })
      ∙ e ∙ sym (fold-roll-Stmt Spelling (Unit {0}) Bool Bool act_by_parts stmt_by_parts (record { body = s.body; pos = s.pos; note = tt }))

  stmts_are : (before : Scopes) (ss : List Stmt) (ts : List NamedStmt) (after : Scopes) → StmtsNamed SameAct before ss ts after
      → inside_each all_have (λ (b : Bool). b) (map stmt_has_words ts) ≡ inside_each all_have (λ (b : Bool). b) (map stmt_has_words ss)
  stmts_are before ss ts after acts.none = refl
  stmts_are before ss ts after (acts.more {s = s} {t = t} {ss = more} {ts = rest} h hs) = both (stmt_is s t h) (stmts_are _ more rest _ hs)

  abbrev inside : ActOf → Act-F Spelling (Unit {0}) Bool Bool
  inside = map-Act Spelling (Unit {0}) Act Stmt Bool Bool act_has_words stmt_has_words

  abbrev named_inside : NamedActOf → Act-F Name (Unit {0}) Bool Bool
  named_inside = map-Act Name (Unit {0}) NamedAct NamedStmt Bool Bool act_has_words stmt_has_words

  act_same : (before : Scopes) (x : ActOf) (d : NamedActOf) (after : Scopes) → ActNamed names SameAct before x d after → act_by_parts (named_inside d) ≡ act_by_parts (inside x)
  act_same before x d after (acts.block m hs is) = stmts_are _ _ _ _ hs
  act_same before x d after acts.empty = refl
  act_same before x d after (acts.local c e is) =
      let h = given_from (Declared (DeclNamed names (with_local before c.name) before (name.Local before.next) c) (is_taken_here before c.name) (with_local before c.name))
      (local_named names before c) (e, after) (local_is names before c) is in
      decl_kept (with_local before c.name) before (name.Local before.next) c e h.declared
  act_same before x d after (acts.assign e f a b h i) = both (expr_kept before e a h) (expr_kept before f b i)
  act_same before x d after (acts.call e a h) = expr_kept before e a h
  act_same before x d after (acts.choice {s = s} {t = t} e a h i acts.nothing) = both (both (expr_kept before e a h) (stmt_is s t i)) refl
  act_same before x d after (acts.choice {s = s} {t = t} e a h i (acts.just {s = o} {t = u} g)) = both (both (expr_kept before e a h) (stmt_is s t i)) (stmt_is o u g)
  act_same before x d after (acts.while {s = s} {t = t} e a h i) = both (expr_kept before e a h) (stmt_is s t i)
  act_same before x d after (acts.for {s = s} {t = t} e a acts.nothing h i acts.nothing is) =
      all_of true _ true _ true _ true _ refl (value_kept (opened before) e a h) refl (stmt_is s t i)
  act_same before x d after (acts.for {s = s} {t = t} e a acts.nothing h i (acts.just {s = o} {t = u} g) is) =
      all_of true _ _ _ true _ _ _ refl (value_kept (opened before) e a h) (stmt_is o u g) (stmt_is s t i)
  act_same before x d after (acts.for {begun = begun} {s = s} {t = t} e a (acts.just {s = o} {t = u} f) h i acts.nothing is) =
      all_of _ _ true _ _ _ true _ (stmt_is o u f) (value_kept begun e a h) refl (stmt_is s t i)
  act_same before x d after (acts.for {begun = begun} {s = s} {t = t} e a (acts.just {s = o} {t = u} f) h i (acts.just {s = p} {t = v} g) is) =
      all_of _ _ _ _ _ _ _ _ (stmt_is o u f) (value_kept begun e a h) (stmt_is p v g) (stmt_is s t i)
  act_same before x d after (acts.returns e a h) = value_kept before e a h
  act_same before x d after acts.breaks = refl
  act_same before x d after acts.continues = refl
  act_same before x d after (acts.check e a h) = expr_kept before e a h
  act_same before x d after (acts.bundle hs) = stmts_are _ _ _ _ hs

  closed_up : (x : ActOf) (d : NamedActOf) → act_by_parts (named_inside d) ≡ act_by_parts (inside x) → act_has_words (roll-Act Name (Unit {0}) d) ≡ act_has_words (roll-Act Spelling (Unit {0}) x)
  closed_up x d h = fold-roll-Act Name (Unit {0}) Bool Bool act_by_parts stmt_by_parts d ∙ h ∙ sym (fold-roll-Act Spelling (Unit {0}) Bool Bool act_by_parts stmt_by_parts x)

  acts_closed : (before : Scopes) (x : ActOf) (d : NamedActOf) (after : Scopes) → ActNamed names SameAct before x d after → SameAct before (roll-Act Spelling (Unit {0}) x) (roll-Act Name (Unit {0}) d) after
  acts_closed before x d after h = closed_up x d (act_same before x d after h)

  body_is : (before : Scopes) (a : Act) (b : NamedAct) (after : Scopes) → BodyNamed SameAct before a b after → act_has_words b ≡ act_has_words a
  body_is before a b after (acts.outermost {ss = ss} {ts = ts} m is js hs) =
      ap (λ (z : NamedAct). act_has_words z) (sym js) ∙ closed_up (Act-F.Block m ss) (Act-F.Block m ts) (stmts_are _ _ _ _ hs) ∙ ap (λ (z : Act). act_has_words z) is
  body_is before a b after (acts.other h) = h

  body_kept : (scopes : Scopes) (s : Stmt) (t : NamedStmt) (after : Scopes) → body_named names s scopes ≡ Ok (t, after) → stmt_has_words t ≡ stmt_has_words s
  body_kept scopes s t after is =
      stmt_is s t (body_is scopes s.body t.body after
      (given_from (λ (p : NamedStmt × Scopes). BodyNamed SameAct scopes s.body p.0.body p.1) (body_named names s scopes) (t, after) (acts.body_holds names SameAct acts_closed s scopes) is))

  -- ---- items

  params_kept : (all before : Scopes) (ds : List Decl) (es : List NamedDecl) (after : Scopes) → ParamsNamed names all before ds es after → list_all decl_has_words es ≡ list_all decl_has_words ds
  params_kept all before ds es after items.no_params = refl
  params_kept all before ds es after (items.param {d = d} {e = e} h new hs) = both (decl_kept _ _ _ d e h) (params_kept _ _ _ _ _ hs)

  members_kept : (all : Scopes) (before : List Spelling) (ds : List Decl) (es : List NamedDecl) → MembersNamed names all before ds es
      → inside_each all_have decl_has_words es ≡ inside_each all_have decl_has_words ds
  members_kept all before ds es items.no_members = refl
  members_kept all before ds es (items.member {d = d} {e = e} h new hs) = both (decl_kept _ _ _ d e h) (members_kept _ _ _ _ hs)

  head_kept : (h : Head) (g : NamedHead) (after : Scopes) → HeadNamed names h g after → head_has_words g ≡ head_has_words h
  head_kept h g after is = both (params_kept _ _ _ _ _ is.params) (bounds_kept (param_scope h.params) h.bounds g.bounds is.bounds)

  item_kept : (all : List Item) (before : Names) (i : Item) (j : NamedItem) → ItemNamed names all before i j → item_has_words j ≡ item_has_words i
  item_kept all before i j (items.directive d) = refl
  item_kept all before i j (items.tag s pos) = refl
  item_kept all before i j (items.struct s pos hs) = members_kept _ _ _ _ hs
  item_kept all before i j (items.static {d = d} {e = e} h new) = decl_kept _ _ _ d e h
  item_kept all before i j (items.proto {h = h} {g = g} is there) = head_kept h g _ is
  item_kept all before i j (items.function {h = h} {g = g} {s = s} {t = t} is new made) = both (head_kept h g _ is) (body_kept _ s t _ made)

  items_kept : (all : List Item) (before : Names) (is : List Item) (js : List NamedItem) → ItemsNamed names all before is js → list_all item_has_words js ≡ list_all item_has_words is
  items_kept all before is js items.none = refl
  items_kept all before is js (items.more h hs) = both (item_kept _ _ _ _ h) (items_kept _ _ _ _ hs)

pub names_keep_words : (tree : Tree) (n : NamedText) → text_named tree ≡ Ok n → tree_has_words n.tree ≡ tree_has_words tree
names_keep_words tree n e = items_kept (names_of tree) tree.items no_names tree.items n.tree.items (text_is tree n e).items
