-- Expressions and statements with notes, whose literals are words.
use Rattle.std.proofs.Common.{◌≡◌, ◌∙◌, sym, ap, subst, refl, ◌<◌, ◌^◌, ℕ, Bool, true, false, ◌&&◌, List, [], ◌∷◌, ◌++◌, map, arith}
use Rattle.std.specs.Prelude.{All, Option, Some, None}
use Rattle.std.proofs.lemmas.Bool.Decides.{nat_tests}
use Rattle.std.proofs.lemmas.List.Elements.{All-nil, All-cons, All-append, All-contains}
use Rattle.ckc_syntax.specs.Inside.{all_have, listed, inside_if, inside_each, inside_init}
use Rattle.ckc_syntax.specs.declared.tree.Name.{Name}
use Rattle.ckc_syntax.specs.declared.tree.Init.TheVariants as init
use Rattle.ckc_syntax.specs.declared.tree.Limits.{Limits-F, map-Limits, roll-Limits, every-Limits, every_made-Limits, fold-roll-Limits}
use Rattle.ckc_syntax.specs.declared.tree.Node.{Node-F, map-Node, roll-Node, out-Node, fold-Node, every-Node, every_made-Node, fold-roll-Node, fold_out-Node}
use Rattle.ckc_syntax.specs.declared.tree.Expr.{Expr-F, map-Expr, ind-Expr, roll-Expr, every_made-Expr, fold-roll-Expr}
use Rattle.ckc_syntax.specs.declared.tree.Act.{Act-F, map-Act, roll-Act, fold-Act, fold-roll-Act}
use Rattle.ckc_syntax.specs.declared.tree.Stmt.{Stmt-F, map-Stmt, ind-Stmt, roll-Stmt, fold-roll-Stmt}
use Rattle.ckc_typed.specs.declared.typed.Note.{Note}
use Rattle.ckc_typed.specs.Trees.{NotedLimits, NotedNode, NotedExpr, NotedLayer, NotedInit, NotedAct, NotedStmt}
use Rattle.ckc_typed_welltyped.specs.Expressions.{AnyLimits, AnyNode}
use Rattle.ckc_blame_sound.specs.Words.{IsWordLiteral, HasWord, HasWords, exprs_of_act, exprs_of_stmt, exprs_in, HasOnlyWords}
use Rattle.ckc_blame_words.specs.Literals.{is_word, limits_by_parts, node_by_parts, expr_by_parts, limits_have_words, expr_has_words, init_has_words, act_by_parts, stmt_by_parts, stmt_has_words}

first_of : (a b : Bool) → (a && b) ≡ true → a ≡ true
first_of true b e = refl
first_of false b e = e

pub second_of : (a b : Bool) → (a && b) ≡ true → b ≡ true
second_of true b e = e
second_of false b e = absurd cc

-- ---- expressions

abbrev LimitsLayer : Type 0
LimitsLayer = Limits-F Name Note NotedLimits NotedNode NotedExpr

abbrev ExprLayer : Type 0
ExprLayer = Expr-F Name Note NotedLimits NotedNode NotedExpr

abbrev node_has_words : NotedNode → Bool
node_has_words = fold-Node Name Note Bool Bool Bool limits_by_parts node_by_parts expr_by_parts

abbrev limits_inside : LimitsLayer → Limits-F Name Note Bool Bool Bool
limits_inside = map-Limits Name Note NotedLimits NotedNode NotedExpr Bool Bool Bool limits_have_words node_has_words expr_has_words

abbrev node_inside : NotedLayer → Node-F Name Note Bool Bool Bool
node_inside = map-Node Name Note NotedLimits NotedNode NotedExpr Bool Bool Bool limits_have_words node_has_words expr_has_words

word_of : (n : ℕ) → is_word n ≡ true → n < 2 ^ 32
word_of n h = grind (arith, nat_tests)

literal : (x : NotedLayer) → node_by_parts (node_inside x) ≡ true → IsWordLiteral x
literal (Node-F.Number n unsigned) h = word_of n h
literal x h = tt

layer_word : (n : NotedNode) → node_has_words n ≡ true → IsWordLiteral (out-Node Name Note n)
layer_word n h = literal (out-Node Name Note n) (sym (fold_out-Node Name Note Bool Bool Bool limits_by_parts node_by_parts expr_by_parts n) ∙ h)

abbrev EachLimits : NotedLimits → Type 0
EachLimits = every-Limits Name Note AnyLimits AnyNode HasWord

abbrev EachNode : NotedNode → Type 0
EachNode = every-Node Name Note AnyLimits AnyNode HasWord

record LimitsFollow (l : NotedLimits) : Type 0 where
  follow : limits_have_words l ≡ true → EachLimits l

record NodeFollows (n : NotedNode) : Type 0 where
  follow : node_has_words n ≡ true → EachNode n

record ExprFollows (e : NotedExpr) : Type 0 where
  follow : expr_has_words e ≡ true → HasWords e

abbrev KeptLimits : Type 0
KeptLimits = (l : NotedLimits) × LimitsFollow l

abbrev KeptNode : Type 0
KeptNode = (n : NotedNode) × NodeFollows n

abbrev KeptExpr : Type 0
KeptExpr = (e : NotedExpr) × ExprFollows e

abbrev FitLimits : Type 0
FitLimits = (l : NotedLimits) × EachLimits l

abbrev FitNode : Type 0
FitNode = (n : NotedNode) × EachNode n

abbrev FitExpr : Type 0
FitExpr = (e : NotedExpr) × HasWords e

abbrev inner_limits : Limits-F Name Note KeptLimits KeptNode KeptExpr → LimitsLayer
inner_limits = map-Limits Name Note KeptLimits KeptNode KeptExpr NotedLimits NotedNode NotedExpr (λ e. e.0) (λ e. e.0) (λ e. e.0)

abbrev inner_node : Node-F Name Note KeptLimits KeptNode KeptExpr → NotedLayer
inner_node = map-Node Name Note KeptLimits KeptNode KeptExpr NotedLimits NotedNode NotedExpr (λ e. e.0) (λ e. e.0) (λ e. e.0)

abbrev inner_expr : Expr-F Name Note KeptLimits KeptNode KeptExpr → ExprLayer
inner_expr = map-Expr Name Note KeptLimits KeptNode KeptExpr NotedLimits NotedNode NotedExpr (λ e. e.0) (λ e. e.0) (λ e. e.0)

abbrev limits_of_fit : Limits-F Name Note FitLimits FitNode FitExpr → LimitsLayer
limits_of_fit = map-Limits Name Note FitLimits FitNode FitExpr NotedLimits NotedNode NotedExpr (λ e. e.0) (λ e. e.0) (λ e. e.0)

abbrev node_of_fit : Node-F Name Note FitLimits FitNode FitExpr → NotedLayer
node_of_fit = map-Node Name Note FitLimits FitNode FitExpr NotedLimits NotedNode NotedExpr (λ e. e.0) (λ e. e.0) (λ e. e.0)

abbrev MadeLimits : LimitsLayer → Type 0
MadeLimits x = (z : Limits-F Name Note FitLimits FitNode FitExpr) × (limits_of_fit z ≡ x)

abbrev MadeNode : NotedLayer → Type 0
MadeNode x = (z : Node-F Name Note FitLimits FitNode FitExpr) × (node_of_fit z ≡ x)

abbrev one : (k : KeptExpr) → expr_has_words k.0 ≡ true → FitExpr
one k h = (k.0, k.1.follow h)

abbrev bounds : (l : KeptLimits) → limits_have_words l.0 ≡ true → FitLimits
bounds l h = (l.0, l.1.follow h)

abbrev firsts : List KeptExpr → List NotedExpr
firsts ks = map (λ (k : KeptExpr). k.0) ks

args_step : (ks : List KeptExpr) → inside_each all_have (λ (b : Bool). b) (map expr_has_words (firsts ks)) ≡ true
    → (zs : List FitExpr) × (map (λ (e : FitExpr). e.0) zs ≡ firsts ks)
args_step [] h = ([], refl)
args_step (k ∷ ks) h = let r = args_step ks (second_of _ _ h) in (one k (first_of _ _ h) ∷ r.0, ap (λ es. k.0 ∷ es) r.1)

limits_step : (y : Limits-F Name Note KeptLimits KeptNode KeptExpr) → limits_by_parts (limits_inside (inner_limits y)) ≡ true → MadeLimits (inner_limits y)
limits_step (Limits-F.Count k at) h = (Limits-F.Count (one k h) at, refl)
limits_step (Limits-F.ByteCount k at) h = (Limits-F.ByteCount (one k h) at, refl)
limits_step (Limits-F.Between k j at) h = (Limits-F.Between (one k (first_of _ _ h)) (one j (second_of _ _ h)) at, refl)
limits_step (Limits-F.Unknown at) h = (Limits-F.Unknown at, refl)

node_step : (y : Node-F Name Note KeptLimits KeptNode KeptExpr) → node_by_parts (node_inside (inner_node y)) ≡ true → MadeNode (inner_node y)
node_step (Node-F.Number n u) h = (Node-F.Number n u, refl)
node_step (Node-F.Text bytes) h = (Node-F.Text bytes, refl)
node_step Node-F.Null h = (Node-F.Null, refl)
node_step (Node-F.Name n) h = (Node-F.Name n, refl)
node_step (Node-F.Un o k) h = (Node-F.Un o (one k h), refl)
node_step (Node-F.Bin o k j) h = (Node-F.Bin o (one k (first_of _ _ h)) (one j (second_of _ _ h)), refl)
node_step (Node-F.Pick k j i) h =
    (Node-F.Pick (one k (first_of _ _ (first_of _ _ h))) (one j (second_of _ _ (first_of _ _ h))) (one i (second_of _ _ h)), refl)
node_step (Node-F.Index k j) h = (Node-F.Index (one k (first_of _ _ h)) (one j (second_of _ _ h)), refl)
node_step (Node-F.Dot k n at) h = (Node-F.Dot (one k h) n at, refl)
node_step (Node-F.Arrow k n at) h = (Node-F.Arrow (one k h) n at, refl)
node_step (Node-F.Cast t k) h = (Node-F.Cast t (one k h), refl)
node_step (Node-F.Size t) h = (Node-F.Size t, refl)
node_step (Node-F.Trusted t k None) h = (Node-F.Trusted t (one k (first_of _ true h)) None, refl)
node_step (Node-F.Trusted t k (Some l)) h = (Node-F.Trusted t (one k (first_of _ _ h)) (Some (bounds l (second_of _ _ h))), refl)
node_step (Node-F.Tested t k None) h = (Node-F.Tested t (one k (first_of _ true h)) None, refl)
node_step (Node-F.Tested t k (Some l)) h = (Node-F.Tested t (one k (first_of _ _ h)) (Some (bounds l (second_of _ _ h))), refl)
node_step (Node-F.Call n ks) h = let r = args_step ks h in (Node-F.Call n r.0, ap (λ es. Node-F.Call n es) r.1)
node_step (Node-F.Calloc t k u) h = (Node-F.Calloc t (one k h) u, refl)

limits_by : (x : LimitsLayer) (y : Limits-F Name Note KeptLimits KeptNode KeptExpr) → inner_limits y ≡ x → LimitsFollow (roll-Limits Name Note x)
limits_by x y is = record {
  follow = λ h.
      let m = limits_step y (ap (λ z. limits_by_parts (limits_inside z)) is ∙ sym (fold-roll-Limits Name Note Bool Bool Bool limits_by_parts node_by_parts expr_by_parts x) ∙ h) in
      subst (λ z. EachLimits (roll-Limits Name Note z)) is (every_made-Limits Name Note AnyLimits AnyNode HasWord (inner_limits y) m.0 m.1 tt);
}

node_by : (x : NotedLayer) (y : Node-F Name Note KeptLimits KeptNode KeptExpr) → inner_node y ≡ x → NodeFollows (roll-Node Name Note x)
node_by x y is = record {
  follow = λ h.
      let m = node_step y (ap (λ z. node_by_parts (node_inside z)) is ∙ sym (fold-roll-Node Name Note Bool Bool Bool limits_by_parts node_by_parts expr_by_parts x) ∙ h) in
      subst (λ z. EachNode (roll-Node Name Note z)) is (every_made-Node Name Note AnyLimits AnyNode HasWord (inner_node y) m.0 m.1 tt);
}

expr_is : (e : NotedExpr) → NodeFollows e.node → ExprFollows e
expr_is e k = record {
  follow = λ h.
      let node : node_has_words e.node ≡ true =
      sym (fold-roll-Expr Name Note Bool Bool Bool limits_by_parts node_by_parts expr_by_parts (record { node = e.node; pos = e.pos; note = e.note })) ∙ h in
      every_made-Expr Name Note AnyLimits AnyNode HasWord (record { node = e.node; pos = e.pos; note = e.note })
      (record { node = (e.node, k.follow node); pos = e.pos; note = e.note }) refl (layer_word e.node node);
}

expr_by : (x : ExprLayer) (y : Expr-F Name Note KeptLimits KeptNode KeptExpr) → inner_expr y ≡ x → ExprFollows (roll-Expr Name Note x)
expr_by x y is = subst (λ z. ExprFollows (roll-Expr Name Note z)) is (expr_is (roll-Expr Name Note (inner_expr y)) y.node.1)

expr_words : (e : NotedExpr) → expr_has_words e ≡ true → HasWords e
expr_words e = (ind-Expr Name Note LimitsFollow NodeFollows ExprFollows limits_by node_by expr_by e).follow

-- ---- statements

abbrev AllWords : List NotedExpr → Type 0
AllWords es = All HasWords es

just : (e : NotedExpr) → expr_has_words e ≡ true → AllWords (e ∷ [])
just e h = All-cons HasWords e [] (expr_words e h) (All-nil HasWords)

joined : (es fs : List NotedExpr) → AllWords es → AllWords fs → AllWords (es ++ fs)
joined es fs h k = All-append HasWords es fs h k

abbrev alone : NotedExpr → List NotedExpr
alone e = e ∷ []

exprs_words : (es : List NotedExpr) → inside_each all_have expr_has_words es ≡ true → AllWords (inside_each listed alone es)
exprs_words [] h = All-nil HasWords
exprs_words (e ∷ es) h = joined (alone e) (inside_each listed alone es) (just e (first_of _ _ h)) (exprs_words es (second_of _ _ h))

init_words : (i : NotedInit) → init_has_words i ≡ true → AllWords (inside_init listed alone i)
init_words init.Nothing h = All-nil HasWords
init_words (init.One e) h = just e h
init_words (init.Many es) h = exprs_words es h

value_words : (o : Option NotedExpr) → inside_if all_have expr_has_words o ≡ true → AllWords (inside_if listed alone o)
value_words None h = All-nil HasWords
value_words (Some e) h = just e h

abbrev ActLayer : Type 0
ActLayer = Act-F Name Note NotedAct NotedStmt

abbrev act_has_words : NotedAct → Bool
act_has_words = fold-Act Name Note Bool Bool act_by_parts stmt_by_parts

abbrev exprs_in_act : NotedAct → List NotedExpr
exprs_in_act = fold-Act Name Note (List NotedExpr) (List NotedExpr) exprs_of_act exprs_of_stmt

record ActFollows (a : NotedAct) : Type 0 where
  follow : act_has_words a ≡ true → AllWords (exprs_in_act a)

record StmtFollows (s : NotedStmt) : Type 0 where
  follow : stmt_has_words s ≡ true → AllWords (exprs_in s)

abbrev KeptAct : Type 0
KeptAct = (a : NotedAct) × ActFollows a

abbrev KeptStmt : Type 0
KeptStmt = (s : NotedStmt) × StmtFollows s

abbrev inner_act : Act-F Name Note KeptAct KeptStmt → ActLayer
inner_act = map-Act Name Note KeptAct KeptStmt NotedAct NotedStmt (λ e. e.0) (λ e. e.0)

abbrev inner_stmt : Stmt-F Name Note KeptAct KeptStmt → Stmt-F Name Note NotedAct NotedStmt
inner_stmt = map-Stmt Name Note KeptAct KeptStmt NotedAct NotedStmt (λ e. e.0) (λ e. e.0)

abbrev act_inside : ActLayer → Act-F Name Note Bool Bool
act_inside = map-Act Name Note NotedAct NotedStmt Bool Bool act_has_words stmt_has_words

abbrev act_exprs : ActLayer → Act-F Name Note (List NotedExpr) (List NotedExpr)
act_exprs = map-Act Name Note NotedAct NotedStmt (List NotedExpr) (List NotedExpr) exprs_in_act exprs_in

stmts_step : (ks : List KeptStmt) → inside_each all_have (λ (b : Bool). b) (map stmt_has_words (map (λ (k : KeptStmt). k.0) ks)) ≡ true
    → AllWords (inside_each listed (λ (es : List NotedExpr). es) (map exprs_in (map (λ (k : KeptStmt). k.0) ks)))
stmts_step [] h = All-nil HasWords
stmts_step (k ∷ ks) h = joined _ _ (k.1.follow (first_of _ _ h)) (stmts_step ks (second_of _ _ h))

no_exprs : AllWords []
no_exprs = All-nil HasWords

-- the parts of a `for`, in the order in which they run
for_joined : (es fs gs hs : List NotedExpr) → AllWords es → AllWords fs → AllWords gs → AllWords hs → AllWords (es ++ (fs ++ (gs ++ hs)))
for_joined es fs gs hs h i j k = joined es (fs ++ (gs ++ hs)) h (joined fs (gs ++ hs) i (joined gs hs j k))

act_step : (y : Act-F Name Note KeptAct KeptStmt) → act_by_parts (act_inside (inner_act y)) ≡ true → AllWords (exprs_of_act (act_exprs (inner_act y)))
act_step (Act-F.Block m ks) h = stmts_step ks h
act_step Act-F.Empty h = no_exprs
act_step (Act-F.Local d) h = init_words d.init (second_of _ _ h)
act_step (Act-F.Assign e f) h = joined (alone e) (alone f) (just e (first_of _ _ h)) (just f (second_of _ _ h))
act_step (Act-F.Call e) h = just e h
act_step (Act-F.If e k None) h =
    joined (alone e ++ exprs_in k.0) [] (joined (alone e) (exprs_in k.0) (just e (first_of _ _ (first_of _ true h))) (k.1.follow (second_of _ _ (first_of _ true h)))) no_exprs
act_step (Act-F.If e k (Some l)) h =
    joined (alone e ++ exprs_in k.0) (exprs_in l.0) (joined (alone e) (exprs_in k.0) (just e (first_of _ _ (first_of _ _ h))) (k.1.follow (second_of _ _ (first_of _ _ h))))
    (l.1.follow (second_of _ _ h))
act_step (Act-F.While e k) h = joined (alone e) (exprs_in k.0) (just e (first_of _ _ h)) (k.1.follow (second_of _ _ h))
act_step (Act-F.For None e None k) h =
    for_joined [] _ (exprs_in k.0) [] no_exprs (value_words e (first_of _ true (first_of _ _ h))) (k.1.follow (second_of _ _ h)) no_exprs
act_step (Act-F.For None e (Some m) k) h =
    for_joined [] _ (exprs_in k.0) (exprs_in m.0) no_exprs (value_words e (first_of _ _ (first_of _ _ h))) (k.1.follow (second_of _ _ h)) (m.1.follow (second_of _ _ (first_of _ _ h)))
act_step (Act-F.For (Some l) e None k) h =
    for_joined (exprs_in l.0) _ (exprs_in k.0) [] (l.1.follow (first_of _ _ (first_of _ true (first_of _ _ h)))) (value_words e (second_of _ _ (first_of _ true (first_of _ _ h))))
    (k.1.follow (second_of _ _ h)) no_exprs
act_step (Act-F.For (Some l) e (Some m) k) h =
    for_joined (exprs_in l.0) _ (exprs_in k.0) (exprs_in m.0) (l.1.follow (first_of _ _ (first_of _ _ (first_of _ _ h)))) (value_words e (second_of _ _ (first_of _ _ (first_of _ _ h))))
    (k.1.follow (second_of _ _ h)) (m.1.follow (second_of _ _ (first_of _ _ h)))
act_step (Act-F.Return e) h = value_words e h
act_step Act-F.Break h = no_exprs
act_step Act-F.Continue h = no_exprs
act_step (Act-F.Check e) h = just e h
act_step (Act-F.Bundle ks) h = stmts_step ks h

act_by : (x : ActLayer) (y : Act-F Name Note KeptAct KeptStmt) → inner_act y ≡ x → ActFollows (roll-Act Name Note x)
act_by x y is = record {
  follow = λ h.
      let made = act_step y (ap (λ z. act_by_parts (act_inside z)) is ∙ sym (fold-roll-Act Name Note Bool Bool act_by_parts stmt_by_parts x) ∙ h) in
      subst AllWords (ap (λ z. exprs_of_act (act_exprs z)) is ∙ sym (fold-roll-Act Name Note (List NotedExpr) (List NotedExpr) exprs_of_act exprs_of_stmt x)) made;
}

stmt_is : (s : NotedStmt) → ActFollows s.body → StmtFollows s
stmt_is s k = record {
  follow = λ h.
      let body : act_has_words s.body ≡ true =
      sym (fold-roll-Stmt Name Note Bool Bool act_by_parts stmt_by_parts (record { body = s.body; pos = s.pos; note = s.note })) ∙ h in
      subst AllWords (sym (fold-roll-Stmt Name Note (List NotedExpr) (List NotedExpr) exprs_of_act exprs_of_stmt (record { body = s.body; pos = s.pos; note = s.note })))
      (k.follow body);
}

stmt_by : (x : Stmt-F Name Note NotedAct NotedStmt) (y : Stmt-F Name Note KeptAct KeptStmt) → inner_stmt y ≡ x → StmtFollows (roll-Stmt Name Note x)
stmt_by x y is = subst (λ z. StmtFollows (roll-Stmt Name Note z)) is (stmt_is (roll-Stmt Name Note (inner_stmt y)) y.body.1)

pub stmt_words : (s : NotedStmt) → stmt_has_words s ≡ true → HasOnlyWords s
stmt_words s h e there = All-contains HasWords (exprs_in s) e ((ind-Stmt Name Note ActFollows StmtFollows act_by stmt_by s).follow h) there
