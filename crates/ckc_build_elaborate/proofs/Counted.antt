-- As many string literals are counted in a text as make blocks.
use Rattle.std.proofs.Common.{◌≡◌, Bool, true, false, List, [], ◌∷◌, ◌++◌, map, length, refl, sym, ap, ◌∙◌}
use Rattle.std.specs.Prelude.{Option, Some, None}
use Rattle.std.specs.List.{flat_map}
use Rattle.ckc_base.specs.Lists.{concatenation}
use Rattle.ckc_syntax.specs.declared.tree.Name.{Name}
use Rattle.ckc_syntax.specs.declared.tree.Init.TheVariants as init
use Rattle.ckc_syntax.specs.declared.tree.Item.TheVariants as item
use Rattle.ckc_syntax.specs.declared.tree.Act.{Act-F, fold-Act, map-Act, roll-Act, fold-roll-Act}
use Rattle.ckc_syntax.specs.declared.tree.Stmt.{roll-Stmt, fold-roll-Stmt}
use Rattle.ckc_typed.specs.declared.typed.Note.{Note}
use Rattle.ckc_typed.specs.Trees.{NotedLimits, NotedInit, NotedDecl, NotedExpr, NotedAct, NotedStmt, NotedHead, NotedItem}
use Rattle.ckc_typed.specs.Declarations.{is_plain}
use Rattle.ckc_typed.specs.Statics.{Strings, strings_of_expr, strings_of_bounds, strings_of_value, strings_of_init, strings_of_decl, act_strings, stmt_strings, strings_of_stmt, strings_of_head, strings_of_item}
use Rattle.ckc_typed.proofs.ActLayers as kept
use Rattle.ckc_typed.proofs.ActLayers.{ActSteps, ActProperty, KeptActLayer, KeptStmtLayer, inner_act, inner_stmt, act_made, stmt_made, each_stmt}
use Rattle.ckc_build_values.specs.Expressions as values
use Rattle.ckc_build_values.proofs.Counted.{both, third, limits_counted, expr_counted}
use Rattle.ckc_build_elaborate.specs.Literals.{literals_of_value, literals_of_bounds, literals_of_init, literals_of_decl, literals_of_decls}
use Rattle.ckc_build_elaborate.specs.code.Statements.{all_literals}
use Rattle.ckc_build_elaborate.specs.Statements.{ActPart, Part, act_parts, stmt_parts, part_of}
use Rattle.ckc_build_elaborate.specs.Functions.{literals_of_head, literals_of_item}

pub exprs : (es : List NotedExpr) → values.all_literals (map values.part_of es) ≡ length (flat_map strings_of_expr es)
exprs [] = refl
exprs (e ∷ es) = both (strings_of_expr e) (flat_map strings_of_expr es) _ _ (expr_counted e) (exprs es)

pub bounds : (l : Option NotedLimits) → literals_of_bounds l ≡ length (strings_of_bounds l)
bounds None = refl
bounds (Some l) = limits_counted l

pub value : (e : Option NotedExpr) → literals_of_value e ≡ length (strings_of_value e)
value None = refl
value (Some e) = expr_counted e

pub start : (plain : Bool) (i : NotedInit) → literals_of_init plain i ≡ length (strings_of_init plain i)
start plain init.Nothing = refl
start true (init.One e) = expr_counted e
start false (init.One e) = refl
start plain (init.Many es) = exprs es

pub decl : (d : NotedDecl) → literals_of_decl d ≡ length (strings_of_decl d)
decl d = both (strings_of_bounds d.bounds) (strings_of_init (is_plain d.length) d.init) _ _ (bounds d.bounds) (start (is_plain d.length) d.init)

pub decls : (ds : List NotedDecl) → literals_of_decls ds ≡ length (flat_map strings_of_decl ds)
decls [] = refl
decls (d ∷ ds) = both (strings_of_decl d) (flat_map strings_of_decl ds) _ _ (decl d) (decls ds)

-- ---- statements

abbrev strings_of_act : NotedAct → Strings
strings_of_act = fold-Act Name Note Strings Strings act_strings stmt_strings

abbrev counting : ActSteps ActPart Part
counting = record { act = act_parts; stmt = stmt_parts }

abbrev counted : ActProperty ActPart Part
counted = record { act = λ a q. q.literals ≡ length (strings_of_act a); stmt = λ s q. q.literals ≡ length (strings_of_stmt s) }

abbrev KeptStmt : Type 0
KeptStmt = kept.KeptStmt counting counted

abbrev held_act : KeptActLayer counting counted → Act-F Name Note Strings Strings
held_act y = map-Act Name Note NotedAct NotedStmt Strings Strings strings_of_act strings_of_stmt (inner_act counting counted y)

each : (ks : List KeptStmt) → all_literals (map part_of (map (λ (k : KeptStmt). k.0) ks)) ≡ length (concatenation (map strings_of_stmt (map (λ (k : KeptStmt). k.0) ks)))
each [] = refl
each (k ∷ ks) = both (strings_of_stmt k.0) _ _ _ k.1 (each ks)

act_step : (y : KeptActLayer counting counted) → (act_made counting counted y).literals ≡ length (act_strings (held_act y))
act_step (Act-F.Block m ks) = each ks
act_step Act-F.Empty = refl
act_step (Act-F.Local d) = decl d
act_step (Act-F.Assign e f) = both (strings_of_expr e) (strings_of_expr f) _ _ (expr_counted e) (expr_counted f)
act_step (Act-F.Call e) = expr_counted e
act_step (Act-F.If e k None) = third (strings_of_expr e) (strings_of_stmt k.0) [] _ _ _ (expr_counted e) k.1 refl
act_step (Act-F.If e k (Some l)) = third (strings_of_expr e) (strings_of_stmt k.0) (strings_of_stmt l.0) _ _ _ (expr_counted e) k.1 l.1
act_step (Act-F.While e k) = both (strings_of_expr e) (strings_of_stmt k.0) _ _ (expr_counted e) k.1
act_step (Act-F.For None e None k) = both ([] ++ strings_of_value e ++ []) (strings_of_stmt k.0) _ _ (third [] (strings_of_value e) [] _ _ _ refl (value e) refl) k.1
act_step (Act-F.For None e (Some m) k) = both ([] ++ strings_of_value e ++ strings_of_stmt m.0) (strings_of_stmt k.0) _ _ (third [] (strings_of_value e) (strings_of_stmt m.0) _ _ _ refl (value e) m.1) k.1
act_step (Act-F.For (Some l) e None k) = both (strings_of_stmt l.0 ++ strings_of_value e ++ []) (strings_of_stmt k.0) _ _ (third (strings_of_stmt l.0) (strings_of_value e) [] _ _ _ l.1 (value e) refl) k.1
act_step (Act-F.For (Some l) e (Some m) k) = both (strings_of_stmt l.0 ++ strings_of_value e ++ strings_of_stmt m.0) (strings_of_stmt k.0) _ _ (third (strings_of_stmt l.0) (strings_of_value e) (strings_of_stmt m.0) _ _ _ l.1 (value e) m.1) k.1
act_step (Act-F.Return e) = value e
act_step Act-F.Break = refl
act_step Act-F.Continue = refl
act_step (Act-F.Check e) = expr_counted e
act_step (Act-F.Bundle ks) = each ks

-- the same, of the literals of the whole layer
act_all : (y : KeptActLayer counting counted) → (act_made counting counted y).literals ≡ length (strings_of_act (roll-Act Name Note (inner_act counting counted y)))
act_all y = act_step y ∙ ap length (sym (fold-roll-Act Name Note Strings Strings act_strings stmt_strings (inner_act counting counted y)))

stmt_all : (y : KeptStmtLayer counting counted) → (stmt_made counting counted y).literals ≡ length (strings_of_stmt (roll-Stmt Name Note (inner_stmt counting counted y)))
stmt_all y = y.body.1 ∙ ap length (sym (fold-roll-Stmt Name Note Strings Strings act_strings stmt_strings (inner_stmt counting counted y)))

pub stmt : (s : NotedStmt) → (part_of s).literals ≡ length (strings_of_stmt s)
stmt = each_stmt counting counted act_all stmt_all

pub head : (h : NotedHead) → literals_of_head h ≡ length (strings_of_head h)
head h = both (flat_map strings_of_decl h.params) (strings_of_bounds h.bounds) _ _ (decls h.params) (bounds h.bounds)

pub item_counted : (i : NotedItem) → literals_of_item i ≡ length (strings_of_item i)
item_counted (item.Directive d) = refl
item_counted (item.Tag n at) = refl
item_counted (item.Struct n members at) = decls members
item_counted (item.Static d) = decl d
item_counted (item.Proto h) = head h
item_counted (item.Function h body) = both (strings_of_head h) (strings_of_stmt body) _ _ (head h) (stmt body)
