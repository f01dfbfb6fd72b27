-- Which codes the refusals of declarations, statements, items and whole texts have.
use Rattle.std.proofs.Common.{◌≡◌, ℕ, Bool, true, false, if◌then◌else◌, List, [], ◌∷◌, map, sym, ap, subst, ◌∙◌}
use Rattle.std.specs.Prelude.{Option, Some, None, Ok, Err, not, nat_lt, ◌&&◌}
use Rattle.std.specs.Option.{option_map}
use Rattle.ckc_base.proofs.Codes
use Rattle.ckc_base.specs.declared.places.Pos.{Pos}
use Rattle.ckc_base.specs.declared.places.Refusal.{Refusal}
use Rattle.ckc_base.specs.declared.arithmetic.Mode.{Mode}
use Rattle.ckc_base.specs.declared.arithmetic.Mode.TheVariants.{Checked, Unchecked}
use Rattle.ckc_base.specs.Places.{start}
use Rattle.ckc_base.specs.Outcomes.{Outcome, unless}
use Rattle.ckc_types.specs.declared.types.CType.{CType}
use Rattle.ckc_syntax.specs.declared.tree.Name.{Name}
use Rattle.ckc_syntax.specs.declared.tree.NamedText.{NamedText}
use Rattle.ckc_syntax.specs.declared.tree.Init.TheVariants as init
use Rattle.ckc_syntax.specs.declared.tree.Item.TheVariants as item
use Rattle.ckc_syntax.specs.declared.tree.Act.{Act-F, map-Act, roll-Act, fold-roll-Act}
use Rattle.ckc_syntax.specs.declared.tree.Stmt.{Stmt-F, map-Stmt, ind-Stmt, roll-Stmt, fold-roll-Stmt}
use Rattle.ckc_typed.specs.declared.environment.Globals.{Globals}
use Rattle.ckc_typed.specs.declared.environment.Variable.{Variable}
use Rattle.ckc_typed.specs.Codes.{bad_operands, bad_conversion, bad_target, no_loop, no_initialiser, late_statics}
use Rattle.ckc_typed.specs.Trees.{Item, Head, Decl, Init, Act, Stmt, Expr, NotedItem, NotedDecl, NotedInit, NotedExpr, NotedStmt}
use Rattle.ckc_typed.specs.Types.{is_void, is_scalar, type_written}
use Rattle.ckc_typed.specs.Conversions.{converts}
use Rattle.ckc_typed.specs.declared.typed.StaticObject.{StaticObject}
use Rattle.ckc_types.specs.declared.types.Structs.{Structs}
use Rattle.ckc_base.specs.MemoryMap.{data_start, statics_end}
use Rattle.ckc_typed.specs.Statics.{blocks, placed, end_of_blocks}
use Rattle.ckc_typed.specs.Environment.{params_of, variables_of, variable_declared}
use Rattle.ckc_typed.specs.Expressions.{expr_typed, exprs_typed, bounds_typed, value_typed}
use Rattle.ckc_typed.specs.Declarations.{init_typed, parts_typed, judged, fault_unless, is_scalar_declared, start_fault, is_plain, bare_fault, local_fault, static_fault, bare_typed, bares_typed, local_typed, static_typed}
use Rattle.ckc_typed.specs.Statements.{OfAct, OfStmt, body_mode, act_parts, stmt_parts, act_typed, stmt_typed, all_in, part_in, is_target, is_result, target_fits, scalar_fits, scalar_there_fits, result_fits, loop_fits}
use Rattle.ckc_typed.specs.Texts.{is_result_type, result_allowed, head_typed, item_typed, items_typed, globals_of, laid_out, named_typed}
use Rattle.ckc_typed.specs.Walk.{head_mode, pragma_after}
use Rattle.ckc_typed.specs.Layouts.{structs_of}
use Rattle.ckc_typing.specs.Phase.{IsTypeCode}
use Rattle.ckc_typing.proofs.Coded.{Coded, is_206, is_401, is_402, is_403, is_406, is_407, expr_coded, exprs_coded, bounds_coded, value_coded}

-- a fault of a declaration, if there is one, has such a code
abbrev CodedFault : Option ℕ → Type 0
CodedFault None = Unit {0}
CodedFault (Some code) = IsTypeCode code

judged_coded : (f : Option ℕ) (d : NotedDecl) → CodedFault f → Coded (judged f d)
judged_coded None d c = tt
judged_coded (Some code) d c = c

unless_coded : (b : Bool) (code : ℕ) → IsTypeCode code → CodedFault (fault_unless b code)
unless_coded true code c = tt
unless_coded false code c = c

in_choice : (b : Bool) (f g : Option ℕ) → CodedFault f → CodedFault g → CodedFault (if b then f else g)
in_choice true f g c d = c
in_choice false f g c d = d

start_coded : (t : CType) (i : NotedInit) → CodedFault (start_fault t i)
start_coded t init.Nothing = unless_coded _ no_initialiser is_407
start_coded t (init.One e) = unless_coded _ bad_conversion is_402
start_coded t (init.Many es) = is_401

scalar_coded : (at : Pos) (e : NotedExpr) → Coded (scalar_fits at e)
scalar_coded at e =
    Codes.kept IsTypeCode {A = Unit {0}} (not (is_scalar e.note.ctype)) (if is_void e.note.ctype then bad_conversion else bad_operands) at (Ok tt) (by (is_void e.note.ctype)) tt
  where
    by : (v : Bool) → IsTypeCode (if v then bad_conversion else bad_operands)
    by true = is_402
    by false = is_401

module _ (globals : Globals) (variables : List Variable) (mode : Mode) where
  init_coded : (i : Init) → Coded (init_typed globals variables mode i)
  init_coded init.Nothing = tt
  init_coded (init.One e) = Codes.bound IsTypeCode (expr_typed globals variables mode e) _ (expr_coded globals variables mode e) (λ a. tt)
  init_coded (init.Many es) = Codes.bound IsTypeCode (exprs_typed globals variables mode es) _ (exprs_coded globals variables mode es) (λ all. tt)

  parts_coded : (d : Decl) → Coded (parts_typed globals variables mode d)
  parts_coded d = Codes.bound IsTypeCode (bounds_typed globals variables mode d.bounds) _ (bounds_coded globals variables mode d.bounds) (λ l. Codes.bound IsTypeCode (init_typed globals variables mode d.init) _ (init_coded d.init) (λ i. tt))

  bare_coded : (d : Decl) → Coded (bare_typed globals variables mode d)
  bare_coded d = Codes.bound IsTypeCode (parts_typed globals variables mode d) _ (parts_coded d) (λ n. judged_coded (bare_fault n) n (unless_coded _ bad_operands is_401))

  pub bares_coded : (ds : List Decl) → Coded (bares_typed globals variables mode ds)
  bares_coded = Codes.listed IsTypeCode (bare_typed globals variables mode) bare_coded

  pub local_coded : (d : Decl) → Coded (local_typed globals variables mode d)
  local_coded d =
      Codes.bound IsTypeCode (parts_typed globals variables mode d) _ (parts_coded d) (λ n. judged_coded (local_fault n) n
      (in_choice (is_scalar_declared n && is_plain n.length) (start_fault (type_written n.ctype) n.init) (Some bad_operands) (start_coded (type_written n.ctype) n.init) is_401))

static_coded : (globals : Globals) (mode : Mode) (d : Decl) → Coded (static_typed globals mode d)
static_coded globals mode d =
    Codes.bound IsTypeCode (parts_typed globals [] mode d) _ (parts_coded globals [] mode d) (λ n. judged_coded (static_fault globals.structs n) n (unless_coded _ bad_operands is_401))

module _ (globals : Globals) (variables : List Variable) (result : CType) where
  abbrev ActCoded : Act → Type 0
  ActCoded a = (mode : Mode) (looped : Bool) (at : Pos) → Coded (act_typed globals variables result a mode looped at)

  abbrev StmtCoded : Stmt → Type 0
  StmtCoded s = (mode : Mode) (looped : Bool) → Coded (stmt_typed globals variables result s mode looped)

  abbrev KeptAct : Type 0
  KeptAct = (a : Act) × ActCoded a

  abbrev KeptStmt : Type 0
  KeptStmt = (s : Stmt) × StmtCoded s

  abbrev inner_act : Act-F Name (Unit {0}) KeptAct KeptStmt → Act-F Name (Unit {0}) Act Stmt
  inner_act = map-Act Name (Unit {0}) KeptAct KeptStmt Act Stmt (λ e. e.0) (λ e. e.0)

  abbrev inner_stmt : Stmt-F Name (Unit {0}) KeptAct KeptStmt → Stmt-F Name (Unit {0}) Act Stmt
  inner_stmt = map-Stmt Name (Unit {0}) KeptAct KeptStmt Act Stmt (λ e. e.0) (λ e. e.0)

  abbrev judged_act : Act-F Name (Unit {0}) Act Stmt → Act-F Name (Unit {0}) OfAct OfStmt
  judged_act = map-Act Name (Unit {0}) Act Stmt OfAct OfStmt (act_typed globals variables result) (stmt_typed globals variables result)

  abbrev judged_stmt : Stmt-F Name (Unit {0}) Act Stmt → Stmt-F Name (Unit {0}) OfAct OfStmt
  judged_stmt = map-Stmt Name (Unit {0}) Act Stmt OfAct OfStmt (act_typed globals variables result) (stmt_typed globals variables result)

  kept_all : (ks : List KeptStmt) (mode : Mode) (looped : Bool) → Coded (all_in mode looped (map (stmt_typed globals variables result) (map (λ (k : KeptStmt). k.0) ks)))
  kept_all [] mode looped = tt
  kept_all (k ∷ ks) mode looped =
      Codes.bound IsTypeCode (stmt_typed globals variables result k.0 mode looped) _ (k.1 mode looped)
      (λ a. Codes.bound IsTypeCode (all_in mode looped (map (stmt_typed globals variables result) (map (λ (k : KeptStmt). k.0) ks))) _ (kept_all ks mode looped) (λ rest. tt))

  abbrev part_of : Option KeptStmt → Mode → Bool → Outcome (Option NotedStmt)
  part_of s mode looped = part_in mode looped (option_map (stmt_typed globals variables result) (option_map (λ (k : KeptStmt). k.0) s))

  kept_part : (s : Option KeptStmt) (mode : Mode) (looped : Bool) → Coded (part_of s mode looped)
  kept_part None mode looped = tt
  kept_part (Some k) mode looped = Codes.bound IsTypeCode (stmt_typed globals variables result k.0 mode looped) _ (k.1 mode looped) (λ a. tt)

  of_expr : (mode : Mode) (e : Expr) → Coded (expr_typed globals variables mode e)
  of_expr mode e = expr_coded globals variables mode e

  of_value : (mode : Mode) (e : Option Expr) → Coded (value_typed globals variables mode e)
  of_value mode e = value_coded globals variables mode e

  there_coded : (at : Pos) (e : Option NotedExpr) → Coded (scalar_there_fits at e)
  there_coded at None = tt
  there_coded at (Some e) = scalar_coded at e

  target_coded : (at : Pos) (e f : NotedExpr) → Coded (target_fits globals variables at e f)
  target_coded at e f =
      Codes.kept IsTypeCode {A = Unit {0}} (not (converts e.note.ctype f)) bad_conversion at (unless (not (is_target globals variables e f)) bad_target at (Ok tt)) is_402
      (Codes.kept IsTypeCode {A = Unit {0}} (not (is_target globals variables e f)) bad_target at (Ok tt) is_403 tt)

  result_coded : (at : Pos) (e : Option NotedExpr) → Coded (result_fits result at e)
  result_coded at e = Codes.kept IsTypeCode {A = Unit {0}} (not (is_result result e)) bad_conversion at (Ok tt) is_402 tt

  loop_coded : (looped : Bool) (at : Pos) → Coded (loop_fits looped at)
  loop_coded looped at = Codes.kept IsTypeCode {A = Unit {0}} (not looped) no_loop at (Ok tt) is_406 tt

  act_step : (y : Act-F Name (Unit {0}) KeptAct KeptStmt) (mode : Mode) (looped : Bool) (at : Pos) → Coded (act_parts globals variables result (judged_act (inner_act y)) mode looped at)
  act_step (Act-F.Block m ks) mode looped at = Codes.bound IsTypeCode _ _ (kept_all ks _ looped) (λ all. tt)
  act_step Act-F.Empty mode looped at = tt
  act_step (Act-F.Local d) mode looped at = Codes.bound IsTypeCode (local_typed globals variables mode d) _ (local_coded globals variables mode d) (λ n. tt)
  act_step (Act-F.Assign e f) mode looped at =
      Codes.bound IsTypeCode (expr_typed globals variables mode e) _ (of_expr mode e) (λ a. Codes.bound IsTypeCode (expr_typed globals variables mode f) _ (of_expr mode f) (λ b.
      Codes.bound IsTypeCode (target_fits globals variables at a b) _ (target_coded at a b) (λ u. tt)))
  act_step (Act-F.Call e) mode looped at = Codes.bound IsTypeCode (expr_typed globals variables mode e) _ (of_expr mode e) (λ a. tt)
  act_step (Act-F.If e k None) mode looped at =
      Codes.bound IsTypeCode (expr_typed globals variables mode e) _ (of_expr mode e) (λ a. Codes.bound IsTypeCode (stmt_typed globals variables result k.0 mode looped) _ (k.1 mode looped) (λ s.
      Codes.bound IsTypeCode (scalar_fits at a) _ (scalar_coded at a) (λ u. tt)))
  act_step (Act-F.If e k (Some l)) mode looped at =
      Codes.bound IsTypeCode (expr_typed globals variables mode e) _ (of_expr mode e) (λ a. Codes.bound IsTypeCode (stmt_typed globals variables result k.0 mode looped) _ (k.1 mode looped) (λ s.
      Codes.bound IsTypeCode (part_of (Some l) mode looped) _ (kept_part (Some l) mode looped) (λ t. Codes.bound IsTypeCode (scalar_fits at a) _ (scalar_coded at a) (λ u. tt))))
  act_step (Act-F.While e k) mode looped at =
      Codes.bound IsTypeCode (expr_typed globals variables mode e) _ (of_expr mode e) (λ a. Codes.bound IsTypeCode (stmt_typed globals variables result k.0 mode true) _ (k.1 mode true) (λ s.
      Codes.bound IsTypeCode (scalar_fits at a) _ (scalar_coded at a) (λ u. tt)))
  act_step (Act-F.For None e None k) mode looped at =
      Codes.bound IsTypeCode (value_typed globals variables mode e) _ (of_value mode e) (λ a.
      Codes.bound IsTypeCode (stmt_typed globals variables result k.0 mode true) _ (k.1 mode true) (λ b.
      Codes.bound IsTypeCode (scalar_there_fits at a) _ (there_coded at a) (λ u. tt)))
  act_step (Act-F.For None e (Some m) k) mode looped at =
      Codes.bound IsTypeCode (value_typed globals variables mode e) _ (of_value mode e) (λ a.
      Codes.bound IsTypeCode (stmt_typed globals variables result k.0 mode true) _ (k.1 mode true) (λ b.
      Codes.bound IsTypeCode (part_of (Some m) mode looped) _ (kept_part (Some m) mode looped) (λ t. Codes.bound IsTypeCode (scalar_there_fits at a) _ (there_coded at a) (λ u. tt))))
  act_step (Act-F.For (Some l) e None k) mode looped at =
      Codes.bound IsTypeCode (part_of (Some l) mode looped) _ (kept_part (Some l) mode looped) (λ s. Codes.bound IsTypeCode (value_typed globals variables mode e) _ (of_value mode e) (λ a.
      Codes.bound IsTypeCode (stmt_typed globals variables result k.0 mode true) _ (k.1 mode true) (λ b.
      Codes.bound IsTypeCode (scalar_there_fits at a) _ (there_coded at a) (λ u. tt))))
  act_step (Act-F.For (Some l) e (Some m) k) mode looped at =
      Codes.bound IsTypeCode (part_of (Some l) mode looped) _ (kept_part (Some l) mode looped) (λ s. Codes.bound IsTypeCode (value_typed globals variables mode e) _ (of_value mode e) (λ a.
      Codes.bound IsTypeCode (stmt_typed globals variables result k.0 mode true) _ (k.1 mode true) (λ b.
      Codes.bound IsTypeCode (part_of (Some m) mode looped) _ (kept_part (Some m) mode looped) (λ t. Codes.bound IsTypeCode (scalar_there_fits at a) _ (there_coded at a) (λ u. tt)))))
  act_step (Act-F.Return e) mode looped at =
      Codes.bound IsTypeCode (value_typed globals variables mode e) _ (of_value mode e) (λ a. Codes.bound IsTypeCode (result_fits result at a) _ (result_coded at a) (λ u. tt))
  act_step Act-F.Break mode looped at = Codes.bound IsTypeCode (loop_fits looped at) _ (loop_coded looped at) (λ u. tt)
  act_step Act-F.Continue mode looped at = Codes.bound IsTypeCode (loop_fits looped at) _ (loop_coded looped at) (λ u. tt)
  act_step (Act-F.Check e) mode looped at =
      Codes.bound IsTypeCode (expr_typed globals variables mode e) _ (of_expr mode e) (λ a. Codes.bound IsTypeCode (scalar_fits at a) _ (scalar_coded at a) (λ u. tt))
  act_step (Act-F.Bundle ks) mode looped at = Codes.bound IsTypeCode _ _ (kept_all ks mode looped) (λ all. tt)

  act_by : (x : Act-F Name (Unit {0}) Act Stmt) (y : Act-F Name (Unit {0}) KeptAct KeptStmt) → inner_act y ≡ x → ActCoded (roll-Act Name (Unit {0}) x)
  act_by x y is mode looped at =
      subst Coded
      (ap (λ z. act_parts globals variables result (judged_act z) mode looped at) is ∙ ap (λ f. f mode looped at) (sym (fold-roll-Act Name (Unit {0}) OfAct OfStmt (act_parts globals variables result) stmt_parts x)))
      (act_step y mode looped at)

  stmt_by : (x : Stmt-F Name (Unit {0}) Act Stmt) (y : Stmt-F Name (Unit {0}) KeptAct KeptStmt) → inner_stmt y ≡ x → StmtCoded (roll-Stmt Name (Unit {0}) x)
  stmt_by x y is mode looped =
      subst Coded
      (ap (λ z. stmt_parts (judged_stmt z) mode looped) is ∙ ap (λ f. f mode looped) (sym (fold-roll-Stmt Name (Unit {0}) OfAct OfStmt (act_parts globals variables result) stmt_parts x)))
      (y.body.1 mode looped y.pos)

  stmt_coded : (s : Stmt) (mode : Mode) (looped : Bool) → Coded (stmt_typed globals variables result s mode looped)
  stmt_coded = ind-Stmt Name (Unit {0}) ActCoded StmtCoded act_by stmt_by

head_coded : (globals : Globals) (pragma : Mode) (h : Head) → Coded (head_typed globals pragma h)
head_coded globals pragma h =
    Codes.bound IsTypeCode (bares_typed globals (params_of Checked h) (head_mode pragma h) h.params) _ (bares_coded globals (params_of Checked h) (head_mode pragma h) h.params) (λ ps.
    Codes.bound IsTypeCode (bounds_typed globals (params_of Checked h) (head_mode pragma h) h.bounds) _ (bounds_coded globals (params_of Checked h) (head_mode pragma h) h.bounds) (λ l.
    Codes.bound IsTypeCode (result_allowed h) _ (Codes.kept IsTypeCode {A = Unit {0}} (not (is_result_type (type_written h.result))) bad_operands h.pos (Ok tt) is_401 tt) (λ u. tt)))

item_coded : (globals : Globals) (pragma : Mode) (i : Item) → Coded (item_typed globals pragma i)
item_coded globals pragma (item.Directive d) = tt
item_coded globals pragma (item.Tag n at) = tt
item_coded globals pragma (item.Struct n members at) =
    Codes.bound IsTypeCode (bares_typed globals (map variable_declared members) pragma members) _ (bares_coded globals (map variable_declared members) pragma members) (λ ms. tt)
item_coded globals pragma (item.Static d) = Codes.bound IsTypeCode (static_typed globals pragma d) _ (static_coded globals pragma d) (λ n. tt)
item_coded globals pragma (item.Proto h) = Codes.bound IsTypeCode (head_typed globals pragma h) _ (head_coded globals pragma h) (λ g. tt)
item_coded globals pragma (item.Function h body) =
    Codes.bound IsTypeCode (head_typed globals pragma h) _ (head_coded globals pragma h) (λ g.
    Codes.bound IsTypeCode (stmt_typed globals (variables_of (body_mode (head_mode pragma h) body) h body) (type_written h.result) body (head_mode pragma h) false) _ (stmt_coded globals (variables_of (body_mode (head_mode pragma h) body) h body) (type_written h.result) body (head_mode pragma h) false) (λ b. tt))

items_coded : (globals : Globals) (pragma : Mode) (items : List Item) → Coded (items_typed globals pragma items)
items_coded globals pragma [] = tt
items_coded globals pragma (i ∷ rest) =
    Codes.bound IsTypeCode (item_typed globals pragma i) _ (item_coded globals pragma i) (λ n. Codes.bound IsTypeCode (items_typed globals (pragma_after pragma i) rest) _ (items_coded globals (pragma_after pragma i) rest) (λ ns. tt))

laid_coded : (structs : Structs) (items : List NotedItem) → Coded (laid_out structs items)
laid_coded structs items =
    Codes.kept IsTypeCode {A = List StaticObject} (nat_lt statics_end (end_of_blocks structs data_start (blocks structs items))) late_statics start
    (Ok (placed structs data_start (blocks structs items))) is_206 tt

text_coded : (t : NamedText) → Coded (named_typed t)
text_coded t =
    Codes.bound IsTypeCode (items_typed (globals_of t.tree.items) Unchecked t.tree.items) _ (items_coded (globals_of t.tree.items) Unchecked t.tree.items) (λ items.
    Codes.bound IsTypeCode (laid_out (structs_of t.tree.items) items) _ (laid_coded (structs_of t.tree.items) items) (λ statics. tt))

pub codes : (t : NamedText) (r : Refusal) → named_typed t ≡ Err r → IsTypeCode r.code
codes t r e = Codes.code_of IsTypeCode (named_typed t) r (text_coded t) e
