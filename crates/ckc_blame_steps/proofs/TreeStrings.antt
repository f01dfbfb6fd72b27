-- The string literals of a tree whose literals are words and strings of bytes.
use Rattle.std.proofs.Common.{◌≡◌, ◌∙◌, sym, ap, subst, refl, ℕ, Bool, true, false, ◌&&◌, List, [], ◌∷◌, ◌++◌, map}
use Rattle.std.specs.Prelude.{All, Option, Some, None}
use Rattle.std.specs.List.{list_all, flat_map}
use Rattle.std.proofs.lemmas.List.Elements.{All-nil, All-cons, All-append}
use Rattle.ckc_syntax.specs.Inside.{all_have, listed, inside_if, inside_each, inside_limits}
use Rattle.ckc_syntax.specs.declared.tree.Name.{Name}
use Rattle.ckc_syntax.specs.declared.tree.Init.TheVariants as init
use Rattle.ckc_syntax.specs.declared.tree.Item.TheVariants as item
use Rattle.ckc_syntax.specs.declared.tree.Limits.{Limits-F, map-Limits, ind-Limits, roll-Limits, fold-roll-Limits}
use Rattle.ckc_syntax.specs.declared.tree.Node.{Node-F, map-Node, roll-Node, out-Node, fold-Node, fold-roll-Node, fold_out-Node}
use Rattle.ckc_syntax.specs.declared.tree.Expr.{Expr-F, map-Expr, ind-Expr, roll-Expr, fold-roll-Expr}
use Rattle.ckc_syntax.specs.declared.tree.Act.{Act-F, map-Act, roll-Act, fold-Act, fold-roll-Act}
use Rattle.ckc_syntax.specs.declared.tree.Stmt.{Stmt-F, map-Stmt, ind-Stmt, roll-Stmt, fold-roll-Stmt}
use Rattle.ckc_typed.specs.declared.typed.Note.{Note}
use Rattle.ckc_typed.specs.Declarations.{is_plain, string_in, string_in_form}
use Rattle.ckc_typed.specs.Statics.{Strings, node_strings, expr_strings, strings_of_limits, strings_of_expr, strings_of_bounds, strings_of_value, strings_of_init, strings_of_decl, act_strings, stmt_strings, strings_of_stmt, strings_of_head, strings_of_item}
use Rattle.ckc_typed.specs.Trees.{NotedLimits, NotedNode, NotedExpr, NotedLayer, NotedInit, NotedDecl, NotedHead, NotedItem, NotedAct, NotedStmt}
use Rattle.ckc_blame_words.specs.Literals.{are_bytes, limits_by_parts, node_by_parts, expr_by_parts, limits_have_words, expr_has_words, init_has_words, decl_has_words, act_by_parts, stmt_by_parts, stmt_has_words, head_has_words, item_has_words}

abbrev pub HasBytes : List ℕ → Type 0
HasBytes s = are_bytes s ≡ true

abbrev pub HaveBytes : Strings → Type 0
HaveBytes ss = All HasBytes ss

no_strings : HaveBytes []
no_strings = All-nil HasBytes

joined : (ss ts : Strings) → HaveBytes ss → HaveBytes ts → HaveBytes (ss ++ ts)
joined ss ts h g = All-append HasBytes ss ts h g

first_of : (a b : Bool) → (a && b) ≡ true → a ≡ true
first_of true b e = refl
first_of false b e = e

second_of : (a b : Bool) → (a && b) ≡ true → b ≡ true
second_of true b e = e
second_of false b e = absurd cc

-- ---- expressions

abbrev LimitsLayer : Type 0
LimitsLayer = Limits-F Name Note NotedLimits NotedNode NotedExpr

abbrev ExprLayer : Type 0
ExprLayer = Expr-F Name Note NotedLimits NotedNode NotedExpr

abbrev node_has_words : NotedNode → Bool
node_has_words = fold-Node Name Note Bool Bool Bool limits_by_parts node_by_parts expr_by_parts

abbrev strings_of_node : NotedNode → Strings
strings_of_node = fold-Node Name Note Strings Strings Strings (inside_limits listed (λ e. e)) node_strings expr_strings

abbrev limits_inside : LimitsLayer → Limits-F Name Note Bool Bool Bool
limits_inside = map-Limits Name Note NotedLimits NotedNode NotedExpr Bool Bool Bool limits_have_words node_has_words expr_has_words

abbrev node_inside : NotedLayer → Node-F Name Note Bool Bool Bool
node_inside = map-Node Name Note NotedLimits NotedNode NotedExpr Bool Bool Bool limits_have_words node_has_words expr_has_words

abbrev limits_strings : LimitsLayer → Limits-F Name Note Strings Strings Strings
limits_strings = map-Limits Name Note NotedLimits NotedNode NotedExpr Strings Strings Strings strings_of_limits strings_of_node strings_of_expr

abbrev node_parts : NotedLayer → Node-F Name Note Strings Strings Strings
node_parts = map-Node Name Note NotedLimits NotedNode NotedExpr Strings Strings Strings strings_of_limits strings_of_node strings_of_expr

record LimitsFollow (l : NotedLimits) : Type 0 where
  follow : limits_have_words l ≡ true → HaveBytes (strings_of_limits l)

record NodeFollows (n : NotedNode) : Type 0 where
  follow : node_has_words n ≡ true → HaveBytes (strings_of_node n)

record ExprFollows (e : NotedExpr) : Type 0 where
  follow : expr_has_words e ≡ true → HaveBytes (strings_of_expr e)

abbrev KeptLimits : Type 0
KeptLimits = (l : NotedLimits) × LimitsFollow l

abbrev KeptNode : Type 0
KeptNode = (n : NotedNode) × NodeFollows n

abbrev KeptExpr : Type 0
KeptExpr = (e : NotedExpr) × ExprFollows e

abbrev inner_limits : Limits-F Name Note KeptLimits KeptNode KeptExpr → LimitsLayer
inner_limits = map-Limits Name Note KeptLimits KeptNode KeptExpr NotedLimits NotedNode NotedExpr (λ e. e.0) (λ e. e.0) (λ e. e.0)

abbrev inner_node : Node-F Name Note KeptLimits KeptNode KeptExpr → NotedLayer
inner_node = map-Node Name Note KeptLimits KeptNode KeptExpr NotedLimits NotedNode NotedExpr (λ e. e.0) (λ e. e.0) (λ e. e.0)

abbrev inner_expr : Expr-F Name Note KeptLimits KeptNode KeptExpr → ExprLayer
inner_expr = map-Expr Name Note KeptLimits KeptNode KeptExpr NotedLimits NotedNode NotedExpr (λ e. e.0) (λ e. e.0) (λ e. e.0)

abbrev firsts : List KeptExpr → List NotedExpr
firsts ks = map (λ (k : KeptExpr). k.0) ks

args_step : (ks : List KeptExpr) → inside_each all_have (λ (b : Bool). b) (map expr_has_words (firsts ks)) ≡ true → HaveBytes (inside_each listed (λ (ss : Strings). ss) (map strings_of_expr (firsts ks)))
args_step [] h = no_strings
args_step (k ∷ ks) h = joined (strings_of_expr k.0) _ (k.1.follow (first_of _ _ h)) (args_step ks (second_of _ _ h))

limits_step : (y : Limits-F Name Note KeptLimits KeptNode KeptExpr) → limits_by_parts (limits_inside (inner_limits y)) ≡ true → HaveBytes (inside_limits listed (λ (ss : Strings). ss) (limits_strings (inner_limits y)))
limits_step (Limits-F.Count k at) h = k.1.follow h
limits_step (Limits-F.ByteCount k at) h = k.1.follow h
limits_step (Limits-F.Between k j at) h = joined (strings_of_expr k.0) (strings_of_expr j.0) (k.1.follow (first_of _ _ h)) (j.1.follow (second_of _ _ h))
limits_step (Limits-F.Unknown at) h = no_strings

two : (k j : KeptExpr) → (expr_has_words k.0 && expr_has_words j.0) ≡ true → HaveBytes (strings_of_expr k.0 ++ strings_of_expr j.0)
two k j h = joined (strings_of_expr k.0) (strings_of_expr j.0) (k.1.follow (first_of _ _ h)) (j.1.follow (second_of _ _ h))

node_step : (y : Node-F Name Note KeptLimits KeptNode KeptExpr) → node_by_parts (node_inside (inner_node y)) ≡ true → HaveBytes (node_strings (node_parts (inner_node y)))
node_step (Node-F.Number n u) h = no_strings
node_step (Node-F.Text bytes) h = All-cons HasBytes bytes [] h no_strings
node_step Node-F.Null h = no_strings
node_step (Node-F.Name n) h = no_strings
node_step (Node-F.Un o k) h = k.1.follow h
node_step (Node-F.Bin o k j) h = two k j h
node_step (Node-F.Pick k j i) h = joined (strings_of_expr k.0 ++ strings_of_expr j.0) (strings_of_expr i.0) (two k j (first_of _ _ h)) (i.1.follow (second_of _ _ h))
node_step (Node-F.Index k j) h = two k j h
node_step (Node-F.Dot k n at) h = k.1.follow h
node_step (Node-F.Arrow k n at) h = k.1.follow h
node_step (Node-F.Cast t k) h = k.1.follow h
node_step (Node-F.Size t) h = no_strings
node_step (Node-F.Trusted t k None) h = joined (strings_of_expr k.0) [] (k.1.follow (first_of _ true h)) no_strings
node_step (Node-F.Trusted t k (Some l)) h = joined (strings_of_expr k.0) (strings_of_limits l.0) (k.1.follow (first_of _ _ h)) (l.1.follow (second_of _ _ h))
node_step (Node-F.Tested t k None) h = joined (strings_of_expr k.0) [] (k.1.follow (first_of _ true h)) no_strings
node_step (Node-F.Tested t k (Some l)) h = joined (strings_of_expr k.0) (strings_of_limits l.0) (k.1.follow (first_of _ _ h)) (l.1.follow (second_of _ _ h))
node_step (Node-F.Call n ks) h = args_step ks h
node_step (Node-F.Calloc t k u) h = k.1.follow h

limits_by : (x : LimitsLayer) (y : Limits-F Name Note KeptLimits KeptNode KeptExpr) → inner_limits y ≡ x → LimitsFollow (roll-Limits Name Note x)
limits_by x y is = record {
  follow = λ h.
      let m = limits_step y (ap (λ z. limits_by_parts (limits_inside z)) is ∙ sym (fold-roll-Limits Name Note Bool Bool Bool limits_by_parts node_by_parts expr_by_parts x) ∙ h) in
      subst HaveBytes (ap (λ z. inside_limits listed (λ (ss : Strings). ss) (limits_strings z)) is ∙ sym (fold-roll-Limits Name Note Strings Strings Strings (inside_limits listed (λ e. e)) node_strings expr_strings x)) m;
}

node_by : (x : NotedLayer) (y : Node-F Name Note KeptLimits KeptNode KeptExpr) → inner_node y ≡ x → NodeFollows (roll-Node Name Note x)
node_by x y is = record {
  follow = λ h.
      let m = node_step y (ap (λ z. node_by_parts (node_inside z)) is ∙ sym (fold-roll-Node Name Note Bool Bool Bool limits_by_parts node_by_parts expr_by_parts x) ∙ h) in
      subst HaveBytes (ap (λ z. node_strings (node_parts z)) is ∙ sym (fold-roll-Node Name Note Strings Strings Strings (inside_limits listed (λ e. e)) node_strings expr_strings x)) m;
}

-- an expression has what its node has
node_is : (e : NotedExpr) → expr_has_words e ≡ true → node_has_words e.node ≡ true
node_is e h = sym (fold-roll-Expr Name Note Bool Bool Bool limits_by_parts node_by_parts expr_by_parts (record { node = e.node; pos = e.pos; note = e.note })) ∙ h

expr_is : (e : NotedExpr) → NodeFollows e.node → ExprFollows e
expr_is e k = record {
  follow = λ h.
      subst HaveBytes (sym (fold-roll-Expr Name Note Strings Strings Strings (inside_limits listed (λ e. e)) node_strings expr_strings (record { node = e.node; pos = e.pos; note = e.note })))
      (k.follow (node_is e h));
}

expr_by : (x : ExprLayer) (y : Expr-F Name Note KeptLimits KeptNode KeptExpr) → inner_expr y ≡ x → ExprFollows (roll-Expr Name Note x)
expr_by x y is = subst (λ z. ExprFollows (roll-Expr Name Note z)) is (expr_is (roll-Expr Name Note (inner_expr y)) y.node.1)

expr_bytes : (e : NotedExpr) → expr_has_words e ≡ true → HaveBytes (strings_of_expr e)
expr_bytes e = (ind-Expr Name Note LimitsFollow NodeFollows ExprFollows limits_by node_by expr_by e).follow

-- a string literal
form_bytes : (x : NotedLayer) (bytes : List ℕ) → node_by_parts (node_inside x) ≡ true → string_in_form x ≡ Some bytes → HasBytes bytes
form_bytes (Node-F.Text s) bytes h e = let same : s ≡ bytes = cc in subst HasBytes same h
form_bytes (Node-F.Number n u) bytes h e = absurd cc
form_bytes Node-F.Null bytes h e = absurd cc
form_bytes (Node-F.Name n) bytes h e = absurd cc
form_bytes (Node-F.Un o k) bytes h e = absurd cc
form_bytes (Node-F.Bin o k j) bytes h e = absurd cc
form_bytes (Node-F.Pick k j i) bytes h e = absurd cc
form_bytes (Node-F.Index k j) bytes h e = absurd cc
form_bytes (Node-F.Dot k n at) bytes h e = absurd cc
form_bytes (Node-F.Arrow k n at) bytes h e = absurd cc
form_bytes (Node-F.Cast t k) bytes h e = absurd cc
form_bytes (Node-F.Size t) bytes h e = absurd cc
form_bytes (Node-F.Trusted t k l) bytes h e = absurd cc
form_bytes (Node-F.Tested t k l) bytes h e = absurd cc
form_bytes (Node-F.Call n ks) bytes h e = absurd cc
form_bytes (Node-F.Calloc t k u) bytes h e = absurd cc

pub string_bytes : (e : NotedExpr) (bytes : List ℕ) → expr_has_words e ≡ true → string_in e ≡ Some bytes → HasBytes bytes
string_bytes e bytes h is =
    form_bytes (out-Node Name Note e.node) bytes (sym (fold_out-Node Name Note Bool Bool Bool limits_by_parts node_by_parts expr_by_parts e.node) ∙ node_is e h) is

-- ---- declarations

exprs_bytes : (es : List NotedExpr) → inside_each all_have expr_has_words es ≡ true → HaveBytes (flat_map strings_of_expr es)
exprs_bytes [] h = no_strings
exprs_bytes (e ∷ es) h = joined (strings_of_expr e) (flat_map strings_of_expr es) (expr_bytes e (first_of _ _ h)) (exprs_bytes es (second_of _ _ h))

value_bytes : (o : Option NotedExpr) → inside_if all_have expr_has_words o ≡ true → HaveBytes (strings_of_value o)
value_bytes None h = no_strings
value_bytes (Some e) h = expr_bytes e h

init_bytes : (plain : Bool) (i : NotedInit) → init_has_words i ≡ true → HaveBytes (strings_of_init plain i)
init_bytes plain init.Nothing h = no_strings
init_bytes true (init.One e) h = expr_bytes e h
init_bytes false (init.One e) h = no_strings
init_bytes plain (init.Many es) h = exprs_bytes es h

limits_bytes : (l : NotedLimits) → limits_have_words l ≡ true → HaveBytes (strings_of_limits l)
limits_bytes l h = (ind-Limits Name Note LimitsFollow NodeFollows ExprFollows limits_by node_by expr_by l).follow h

bounds_bytes : (o : Option NotedLimits) → inside_if all_have limits_have_words o ≡ true → HaveBytes (strings_of_bounds o)
bounds_bytes None h = no_strings
bounds_bytes (Some l) h = limits_bytes l h

decl_bytes : (d : NotedDecl) → decl_has_words d ≡ true → HaveBytes (strings_of_decl d)
decl_bytes d h =
    joined (strings_of_bounds d.bounds) (strings_of_init (is_plain d.length) d.init) (bounds_bytes d.bounds (first_of _ _ h))
    (init_bytes (is_plain d.length) d.init (second_of (inside_if all_have limits_have_words d.bounds) (init_has_words d.init) h))

-- ---- statements

abbrev ActLayer : Type 0
ActLayer = Act-F Name Note NotedAct NotedStmt

abbrev act_has_words : NotedAct → Bool
act_has_words = fold-Act Name Note Bool Bool act_by_parts stmt_by_parts

abbrev strings_of_act : NotedAct → Strings
strings_of_act = fold-Act Name Note Strings Strings act_strings stmt_strings

record ActFollows (a : NotedAct) : Type 0 where
  follow : act_has_words a ≡ true → HaveBytes (strings_of_act a)

record StmtFollows (s : NotedStmt) : Type 0 where
  follow : stmt_has_words s ≡ true → HaveBytes (strings_of_stmt s)

abbrev KeptAct : Type 0
KeptAct = (a : NotedAct) × ActFollows a

abbrev KeptStmt : Type 0
KeptStmt = (s : NotedStmt) × StmtFollows s

abbrev inner_act : Act-F Name Note KeptAct KeptStmt → ActLayer
inner_act = map-Act Name Note KeptAct KeptStmt NotedAct NotedStmt (λ e. e.0) (λ e. e.0)

abbrev inner_stmt : Stmt-F Name Note KeptAct KeptStmt → Stmt-F Name Note NotedAct NotedStmt
inner_stmt = map-Stmt Name Note KeptAct KeptStmt NotedAct NotedStmt (λ e. e.0) (λ e. e.0)

abbrev act_inside : ActLayer → Act-F Name Note Bool Bool
act_inside = map-Act Name Note NotedAct NotedStmt Bool Bool act_has_words stmt_has_words

abbrev act_parts : ActLayer → Act-F Name Note Strings Strings
act_parts = map-Act Name Note NotedAct NotedStmt Strings Strings strings_of_act strings_of_stmt

stmts_step : (ks : List KeptStmt) → inside_each all_have (λ (b : Bool). b) (map stmt_has_words (map (λ (k : KeptStmt). k.0) ks)) ≡ true
    → HaveBytes (inside_each listed (λ (ss : Strings). ss) (map strings_of_stmt (map (λ (k : KeptStmt). k.0) ks)))
stmts_step [] h = no_strings
stmts_step (k ∷ ks) h = joined (strings_of_stmt k.0) _ (k.1.follow (first_of _ _ h)) (stmts_step ks (second_of _ _ h))

-- the parts of a `for`
for_joined : (a b c d : Strings) → HaveBytes a → HaveBytes b → HaveBytes c → HaveBytes d → HaveBytes (((a ++ b) ++ c) ++ d)
for_joined a b c d h i j k = joined ((a ++ b) ++ c) d (joined (a ++ b) c (joined a b h i) j) k

act_step : (y : Act-F Name Note KeptAct KeptStmt) → act_by_parts (act_inside (inner_act y)) ≡ true → HaveBytes (act_strings (act_parts (inner_act y)))
act_step (Act-F.Block m ks) h = stmts_step ks h
act_step Act-F.Empty h = no_strings
act_step (Act-F.Local d) h = decl_bytes d h
act_step (Act-F.Assign e f) h = joined (strings_of_expr e) (strings_of_expr f) (expr_bytes e (first_of _ _ h)) (expr_bytes f (second_of _ _ h))
act_step (Act-F.Call e) h = expr_bytes e h
act_step (Act-F.If e k None) h =
    joined (strings_of_expr e ++ strings_of_stmt k.0) []
    (joined (strings_of_expr e) (strings_of_stmt k.0) (expr_bytes e (first_of _ _ (first_of _ true h))) (k.1.follow (second_of _ _ (first_of _ true h)))) no_strings
act_step (Act-F.If e k (Some l)) h =
    joined (strings_of_expr e ++ strings_of_stmt k.0) (strings_of_stmt l.0)
    (joined (strings_of_expr e) (strings_of_stmt k.0) (expr_bytes e (first_of _ _ (first_of _ _ h))) (k.1.follow (second_of _ _ (first_of _ _ h)))) (l.1.follow (second_of _ _ h))
act_step (Act-F.While e k) h = joined (strings_of_expr e) (strings_of_stmt k.0) (expr_bytes e (first_of _ _ h)) (k.1.follow (second_of _ _ h))
act_step (Act-F.For None e None k) h =
    for_joined [] (strings_of_value e) [] (strings_of_stmt k.0) no_strings (value_bytes e (first_of _ true (first_of _ _ h))) no_strings (k.1.follow (second_of _ _ h))
act_step (Act-F.For None e (Some m) k) h =
    for_joined [] (strings_of_value e) (strings_of_stmt m.0) (strings_of_stmt k.0) no_strings (value_bytes e (first_of _ _ (first_of _ _ h))) (m.1.follow (second_of _ _ (first_of _ _ h)))
    (k.1.follow (second_of _ _ h))
act_step (Act-F.For (Some l) e None k) h =
    for_joined (strings_of_stmt l.0) (strings_of_value e) [] (strings_of_stmt k.0) (l.1.follow (first_of _ _ (first_of _ true (first_of _ _ h))))
    (value_bytes e (second_of _ _ (first_of _ true (first_of _ _ h)))) no_strings (k.1.follow (second_of _ _ h))
act_step (Act-F.For (Some l) e (Some m) k) h =
    for_joined (strings_of_stmt l.0) (strings_of_value e) (strings_of_stmt m.0) (strings_of_stmt k.0) (l.1.follow (first_of _ _ (first_of _ _ (first_of _ _ h))))
    (value_bytes e (second_of _ _ (first_of _ _ (first_of _ _ h)))) (m.1.follow (second_of _ _ (first_of _ _ h))) (k.1.follow (second_of _ _ h))
act_step (Act-F.Return e) h = value_bytes e h
act_step Act-F.Break h = no_strings
act_step Act-F.Continue h = no_strings
act_step (Act-F.Check e) h = expr_bytes e h
act_step (Act-F.Bundle ks) h = stmts_step ks h

act_by : (x : ActLayer) (y : Act-F Name Note KeptAct KeptStmt) → inner_act y ≡ x → ActFollows (roll-Act Name Note x)
act_by x y is = record {
  follow = λ h.
      let made = act_step y (ap (λ z. act_by_parts (act_inside z)) is ∙ sym (fold-roll-Act Name Note Bool Bool act_by_parts stmt_by_parts x) ∙ h) in
      subst HaveBytes (ap (λ z. act_strings (act_parts z)) is ∙ sym (fold-roll-Act Name Note Strings Strings act_strings stmt_strings x)) made;
}

stmt_is : (s : NotedStmt) → ActFollows s.body → StmtFollows s
stmt_is s k = record {
  follow = λ h.
      let body : act_has_words s.body ≡ true =
      sym (fold-roll-Stmt Name Note Bool Bool act_by_parts stmt_by_parts (record { body = s.body; pos = s.pos; note = s.note })) ∙ h in
      subst HaveBytes (sym (fold-roll-Stmt Name Note Strings Strings act_strings stmt_strings (record { body = s.body; pos = s.pos; note = s.note }))) (k.follow body);
}

stmt_by : (x : Stmt-F Name Note NotedAct NotedStmt) (y : Stmt-F Name Note KeptAct KeptStmt) → inner_stmt y ≡ x → StmtFollows (roll-Stmt Name Note x)
stmt_by x y is = subst (λ z. StmtFollows (roll-Stmt Name Note z)) is (stmt_is (roll-Stmt Name Note (inner_stmt y)) y.body.1)

stmt_bytes : (s : NotedStmt) → stmt_has_words s ≡ true → HaveBytes (strings_of_stmt s)
stmt_bytes s = (ind-Stmt Name Note ActFollows StmtFollows act_by stmt_by s).follow

-- ---- items

params_bytes : (ds : List NotedDecl) → list_all decl_has_words ds ≡ true → HaveBytes (flat_map strings_of_decl ds)
params_bytes [] h = no_strings
params_bytes (d ∷ ds) h = joined (strings_of_decl d) (flat_map strings_of_decl ds) (decl_bytes d (first_of _ _ h)) (params_bytes ds (second_of (decl_has_words d) (list_all decl_has_words ds) h))

members_bytes : (ds : List NotedDecl) → inside_each all_have decl_has_words ds ≡ true → HaveBytes (inside_each listed strings_of_decl ds)
members_bytes [] h = no_strings
members_bytes (d ∷ ds) h = joined (strings_of_decl d) (inside_each listed strings_of_decl ds) (decl_bytes d (first_of _ _ h)) (members_bytes ds (second_of (decl_has_words d) (inside_each all_have decl_has_words ds) h))

head_bytes : (g : NotedHead) → head_has_words g ≡ true → HaveBytes (strings_of_head g)
head_bytes g h =
    joined (flat_map strings_of_decl g.params) (strings_of_bounds g.bounds) (params_bytes g.params (first_of _ _ h))
    (bounds_bytes g.bounds (second_of (list_all decl_has_words g.params) (inside_if all_have limits_have_words g.bounds) h))

item_bytes : (i : NotedItem) → item_has_words i ≡ true → HaveBytes (strings_of_item i)
item_bytes (item.Directive d) h = no_strings
item_bytes (item.Tag n at) h = no_strings
item_bytes (item.Struct n members at) h = members_bytes members h
item_bytes (item.Static d) h = decl_bytes d h
item_bytes (item.Proto g) h = head_bytes g h
item_bytes (item.Function g body) h =
    joined (strings_of_head g) (strings_of_stmt body) (head_bytes g (first_of _ _ h)) (stmt_bytes body (second_of (head_has_words g) (stmt_has_words body) h))

pub items_bytes : (is : List NotedItem) → list_all item_has_words is ≡ true → HaveBytes (flat_map strings_of_item is)
items_bytes [] h = no_strings
items_bytes (i ∷ is) h = joined (strings_of_item i) (flat_map strings_of_item is) (item_bytes i (first_of _ _ h)) (items_bytes is (second_of (item_has_words i) (list_all item_has_words is) h))
