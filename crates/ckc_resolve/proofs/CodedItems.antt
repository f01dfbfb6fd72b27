-- Each error of the names has one of their codes: declarations, statements, items and the whole text.
use Rattle.std.proofs.Common.{◌≡◌, ◌∙◌, sym, ap, subst, List, [], ◌||◌}
use Rattle.std.specs.Prelude.{Some, None}
use Rattle.std.specs.List.{list_any}
use Rattle.ckc_base.proofs.Codes
use Rattle.ckc_base.specs.declared.places.Refusal.{Refusal}
use Rattle.ckc_base.specs.Outcomes.{Outcome}
use Rattle.ckc_base.specs.Places.{start}
use Rattle.ckc_syntax.specs.declared.tree.Name.{Name}
use Rattle.ckc_syntax.specs.declared.tree.Name.TheVariants as name
use Rattle.ckc_syntax.specs.declared.tree.Init.TheVariants as init
use Rattle.ckc_syntax.specs.declared.tree.Item.TheVariants as item
use Rattle.ckc_syntax.specs.declared.tree.NamedText.{NamedText}
use Rattle.ckc_syntax.specs.declared.tree.Act.{Act-F, map-Act, ind-Act, roll-Act, out-Act, fold-roll-Act}
use Rattle.ckc_syntax.specs.declared.tree.Stmt.{Stmt-F, map-Stmt, ind-Stmt, roll-Stmt, fold-roll-Stmt}
use Rattle.ckc_resolve.specs.declared.names.Names.{Names}
use Rattle.ckc_resolve.specs.declared.scopes.Scopes.{Scopes}
use Rattle.ckc_resolve.specs.Codes.{IsCode}
use Rattle.ckc_resolve.specs.Spellings.{Spelling, is_among, with_spelling, number_of}
use Rattle.ckc_resolve.specs.Trees.{Tree, Item, Head, Decl, Init, Act, Stmt, NamedDecl, NamedAct, NamedStmt, NamedItem}
use Rattle.ckc_resolve.specs.Scoping.{names_of, no_names, no_scope, opened, with_local, is_taken_here}
use Rattle.ckc_resolve.specs.Declarations.{init_named, decl_named, local_named}
use Rattle.ckc_resolve.specs.Statements.{OfAct, OfStmt, act_parts, stmt_parts, act_named, stmt_named, body_parts, body_named}
use Rattle.ckc_resolve.specs.Heads.{name_of_member, member_scope, member_named, struct_named, param_scope, param_named, head_named}
use Rattle.ckc_resolve.specs.Items.{name_of_tag, first_head, is_same, is_taken_static, is_taken_function, item_named, item_in_turn, all_named}
use Rattle.ckc_resolve.specs.Main.{is_main, name_of_main}
use Rattle.ckc_resolve.specs.Phase.{text_named, naming}
use Rattle.ckc_resolve.proofs.Coded.{HasCode, taken, tested, third_code, last_code}
use Rattle.ckc_resolve.proofs.CodedNodes.{type_codes, expr_codes, exprs_codes, bounds_codes, maybe_codes}

module _ (names : Names) where
  init_codes : (scopes : Scopes) (i : Init) → HasCode (init_named names scopes i)
  init_codes scopes init.Nothing = tt
  init_codes scopes (init.One e) = Codes.bound IsCode _ _ (expr_codes names scopes e) (λ a. tt)
  init_codes scopes (init.Many es) = Codes.bound IsCode _ _ (exprs_codes names scopes es) (λ all. tt)

  decl_codes : (within outside : Scopes) (n : Name) (d : Decl) → HasCode (decl_named names within outside n d)
  decl_codes within outside n d =
      Codes.bound IsCode _ _ (type_codes names d.ctype) (λ t. Codes.bound IsCode _ _ (bounds_codes names within d.bounds) (λ b. Codes.bound IsCode _ _ (init_codes outside d.init) (λ i. tt)))

  local_codes : (scopes : Scopes) (d : Decl) → HasCode (local_named names scopes d)
  local_codes scopes d =
      Codes.bound IsCode {B = NamedDecl × Scopes} _ _ (decl_codes (with_local scopes d.name) scopes (name.Local scopes.next) d) (λ e. taken (is_taken_here scopes d.name) d.pos (e, with_local scopes d.name))

  abbrev ActCoded : Act → Type 0
  ActCoded a = (scopes : Scopes) → HasCode (act_named names a scopes)

  abbrev StmtCoded : Stmt → Type 0
  StmtCoded s = (scopes : Scopes) → HasCode (stmt_named names s scopes)

  abbrev KeptAct : Type 0
  KeptAct = (a : Act) × ActCoded a

  abbrev KeptStmt : Type 0
  KeptStmt = (s : Stmt) × StmtCoded s

  abbrev inner_act : Act-F Spelling (Unit {0}) KeptAct KeptStmt → Act-F Spelling (Unit {0}) Act Stmt
  inner_act = map-Act Spelling (Unit {0}) KeptAct KeptStmt Act Stmt (λ e. e.0) (λ e. e.0)

  abbrev inner_stmt : Stmt-F Spelling (Unit {0}) KeptAct KeptStmt → Stmt-F Spelling (Unit {0}) Act Stmt
  inner_stmt = map-Stmt Spelling (Unit {0}) KeptAct KeptStmt Act Stmt (λ e. e.0) (λ e. e.0)

  abbrev act_inside : Act-F Spelling (Unit {0}) Act Stmt → Act-F Spelling (Unit {0}) OfAct OfStmt
  act_inside = map-Act Spelling (Unit {0}) Act Stmt OfAct OfStmt (act_named names) (stmt_named names)

  abbrev stmt_inside : Stmt-F Spelling (Unit {0}) Act Stmt → Stmt-F Spelling (Unit {0}) OfAct OfStmt
  stmt_inside = map-Stmt Spelling (Unit {0}) Act Stmt OfAct OfStmt (act_named names) (stmt_named names)

  act_step : (y : Act-F Spelling (Unit {0}) KeptAct KeptStmt) (scopes : Scopes) → HasCode (act_parts names (act_inside (inner_act y)) scopes)
  act_step (Act-F.Block mode ks) scopes = Codes.bound IsCode _ _ (Codes.turned_parts IsCode (stmt_named names) ks (opened scopes)) (λ p. tt)
  act_step Act-F.Empty scopes = tt
  act_step (Act-F.Local d) scopes = Codes.bound IsCode _ _ (local_codes scopes d) (λ p. tt)
  act_step (Act-F.Assign e f) scopes = Codes.bound IsCode _ _ (expr_codes names scopes e) (λ a. Codes.bound IsCode _ _ (expr_codes names scopes f) (λ b. tt))
  act_step (Act-F.Call e) scopes = Codes.bound IsCode _ _ (expr_codes names scopes e) (λ a. tt)
  act_step (Act-F.If e k None) scopes = Codes.bound IsCode _ _ (expr_codes names scopes e) (λ a. Codes.bound IsCode _ _ (k.1 scopes) (λ p. tt))
  act_step (Act-F.If e k (Some j)) scopes = Codes.bound IsCode _ _ (expr_codes names scopes e) (λ a. Codes.bound IsCode _ _ (k.1 scopes) (λ p. Codes.bound IsCode _ _ (Codes.bound IsCode _ _ (j.1 p.1) (λ q. tt)) (λ q. tt)))
  act_step (Act-F.While e k) scopes = Codes.bound IsCode _ _ (expr_codes names scopes e) (λ a. Codes.bound IsCode _ _ (k.1 scopes) (λ p. tt))
  act_step (Act-F.For None e None k) scopes = Codes.bound IsCode _ _ (maybe_codes names (opened scopes) e) (λ a. Codes.bound IsCode _ _ (k.1 (opened scopes)) (λ q. tt))
  act_step (Act-F.For None e (Some j) k) scopes =
      Codes.bound IsCode _ _ (maybe_codes names (opened scopes) e) (λ a. Codes.bound IsCode _ _ (k.1 (opened scopes)) (λ q. Codes.bound IsCode _ _ (Codes.bound IsCode _ _ (j.1 q.1) (λ r. tt)) (λ r. tt)))
  act_step (Act-F.For (Some i) e None k) scopes =
      Codes.bound IsCode _ _ (Codes.bound IsCode _ _ (i.1 (opened scopes)) (λ p. tt)) (λ p. Codes.bound IsCode _ _ (maybe_codes names p.1 e) (λ a. Codes.bound IsCode _ _ (k.1 p.1) (λ q. tt)))
  act_step (Act-F.For (Some i) e (Some j) k) scopes =
      Codes.bound IsCode _ _ (Codes.bound IsCode _ _ (i.1 (opened scopes)) (λ p. tt)) (λ p. Codes.bound IsCode _ _ (maybe_codes names p.1 e) (λ a. Codes.bound IsCode _ _ (k.1 p.1) (λ q. Codes.bound IsCode _ _ (Codes.bound IsCode _ _ (j.1 q.1) (λ r. tt)) (λ r. tt))))
  act_step (Act-F.Return e) scopes = Codes.bound IsCode _ _ (maybe_codes names scopes e) (λ a. tt)
  act_step Act-F.Break scopes = tt
  act_step Act-F.Continue scopes = tt
  act_step (Act-F.Check e) scopes = Codes.bound IsCode _ _ (expr_codes names scopes e) (λ a. tt)
  act_step (Act-F.Bundle ks) scopes = Codes.bound IsCode _ _ (Codes.turned_parts IsCode (stmt_named names) ks scopes) (λ p. tt)

  act_by : (x : Act-F Spelling (Unit {0}) Act Stmt) (y : Act-F Spelling (Unit {0}) KeptAct KeptStmt) → inner_act y ≡ x → ActCoded (roll-Act Spelling (Unit {0}) x)
  act_by x y is scopes =
      subst (λ (o : Outcome (NamedAct × Scopes)). HasCode o)
      (sym (ap (λ f. f scopes) (fold-roll-Act Spelling (Unit {0}) OfAct OfStmt (act_parts names) stmt_parts x) ∙ ap (λ z. act_parts names (act_inside z) scopes) (sym is)))
      (act_step y scopes)

  stmt_by : (x : Stmt-F Spelling (Unit {0}) Act Stmt) (y : Stmt-F Spelling (Unit {0}) KeptAct KeptStmt) → inner_stmt y ≡ x → StmtCoded (roll-Stmt Spelling (Unit {0}) x)
  stmt_by x y is scopes =
      subst (λ (o : Outcome (NamedStmt × Scopes)). HasCode o)
      (sym (ap (λ f. f scopes) (fold-roll-Stmt Spelling (Unit {0}) OfAct OfStmt (act_parts names) stmt_parts x) ∙ ap (λ z. stmt_parts (stmt_inside z) scopes) (sym is)))
      (Codes.bound IsCode _ _ (y.body.1 scopes) (λ p. tt))

  act_codes : (a : Act) (scopes : Scopes) → HasCode (act_named names a scopes)
  act_codes = ind-Act Spelling (Unit {0}) ActCoded StmtCoded act_by stmt_by

  stmt_codes : (s : Stmt) (scopes : Scopes) → HasCode (stmt_named names s scopes)
  stmt_codes = ind-Stmt Spelling (Unit {0}) ActCoded StmtCoded act_by stmt_by

  layer_codes : (x : Act-F Spelling (Unit {0}) Act Stmt) (a : Act) (scopes : Scopes) → HasCode (body_parts names x a scopes)
  layer_codes (Act-F.Block mode ss) a scopes = Codes.bound IsCode _ _ (Codes.turned IsCode (stmt_named names) stmt_codes ss scopes) (λ p. tt)
  layer_codes Act-F.Empty a scopes = act_codes a scopes
  layer_codes (Act-F.Local d) a scopes = act_codes a scopes
  layer_codes (Act-F.Assign e f) a scopes = act_codes a scopes
  layer_codes (Act-F.Call e) a scopes = act_codes a scopes
  layer_codes (Act-F.If e s t) a scopes = act_codes a scopes
  layer_codes (Act-F.While e s) a scopes = act_codes a scopes
  layer_codes (Act-F.For first e step body) a scopes = act_codes a scopes
  layer_codes (Act-F.Return e) a scopes = act_codes a scopes
  layer_codes Act-F.Break a scopes = act_codes a scopes
  layer_codes Act-F.Continue a scopes = act_codes a scopes
  layer_codes (Act-F.Check e) a scopes = act_codes a scopes
  layer_codes (Act-F.Bundle ss) a scopes = act_codes a scopes

  body_codes : (s : Stmt) (scopes : Scopes) → HasCode (body_named names s scopes)
  body_codes s scopes = Codes.bound IsCode _ _ (layer_codes (out-Act Spelling (Unit {0}) s.body) s.body scopes) (λ p. tt)

  member_codes : (all : Scopes) (d : Decl) (before : List Spelling) → HasCode (member_named names all d before)
  member_codes all d before =
      Codes.bound IsCode {B = NamedDecl × List Spelling} _ _ (decl_codes all all (name_of_member names d.name) d) (λ e. taken (is_among before d.name) d.pos (e, with_spelling before d.name))

  struct_codes : (ds : List Decl) → HasCode (struct_named names ds)
  struct_codes ds = Codes.bound IsCode _ _ (Codes.turned IsCode (member_named names (member_scope names ds)) (member_codes (member_scope names ds)) ds []) (λ p. tt)

  param_codes : (all : Scopes) (d : Decl) (before : Scopes) → HasCode (param_named names all d before)
  param_codes all d before =
      Codes.bound IsCode {B = NamedDecl × Scopes} _ _ (decl_codes all all (name.Local before.next) d) (λ e. taken (is_taken_here before d.name) d.pos (e, with_local before d.name))

  head_codes : (h : Head) → HasCode (head_named names h)
  head_codes h =
      Codes.bound IsCode _ _ (type_codes names h.result) (λ t. Codes.bound IsCode _ _ (Codes.turned IsCode (param_named names (param_scope h.params)) (param_codes (param_scope h.params)) h.params no_scope) (λ p.
      Codes.bound IsCode _ _ (bounds_codes names (param_scope h.params) h.bounds) (λ b. tt)))

  item_codes : (all : List Item) (before : Names) (i : Item) → HasCode (item_named names all before i)
  item_codes all before (item.Directive d) = tt
  item_codes all before (item.Tag s pos) = tt
  item_codes all before (item.Struct s members pos) = Codes.bound IsCode {B = NamedItem} _ _ (struct_codes members) (λ ds. taken (is_among before.structs s) pos (item.Struct (name_of_tag names s) ds pos))
  item_codes all before (item.Static d) =
      Codes.bound IsCode {B = NamedItem} _ _ (decl_codes no_scope no_scope (name.Static (number_of names.statics d.name)) d) (λ e. taken (is_taken_static before d.name) d.pos (item.Static e))
  item_codes all before (item.Proto h) =
      Codes.bound IsCode {B = NamedItem} _ _ (head_codes h) (λ p. Codes.bound IsCode {B = NamedItem} _ _ (taken (is_taken_function before h.name) h.pos p.0) (λ g. tested (is_same h (first_head h.name all)) h.pos (item.Proto g) last_code))
  item_codes all before (item.Function h body) =
      Codes.bound IsCode {B = NamedItem} _ _ (head_codes h) (λ p. Codes.bound IsCode {B = NamedItem} _ _ (taken (is_taken_function before h.name || is_among before.defined h.name) h.pos p.0) (λ g.
      Codes.bound IsCode {B = NamedItem} _ _ (body_codes body p.1) (λ b. tt)))

  turn_codes : (all : List Item) (i : Item) (before : Names) → HasCode (item_in_turn names all i before)
  turn_codes all i before = Codes.bound IsCode _ _ (item_codes all before i) (λ j. tt)

  all_codes : (all : List Item) → HasCode (all_named names all)
  all_codes all = Codes.bound IsCode _ _ (Codes.turned IsCode (item_in_turn names all) (turn_codes all) all no_names) (λ p. tt)

text_codes : (tree : Tree) → HasCode (text_named tree)
text_codes tree = Codes.bound IsCode {B = NamedText} _ _ (all_codes (names_of tree) tree.items) (λ items. Codes.bound IsCode {B = NamedText} _ _ (tested (list_any is_main tree.items) start (number_of (names_of tree).functions name_of_main) third_code) (λ main. tt))

pub refused_codes : (tree : Tree) (r : Refusal) → naming.Refuses tree r → IsCode r.code
refused_codes tree r refuses = Codes.code_of IsCode (text_named tree) r (text_codes tree) refuses
