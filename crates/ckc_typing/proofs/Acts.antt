-- What statements become, by their parts.
use Rattle.std.proofs.Common.{◌≡◌, Bool, true, List, Option, Ok, rules, ap, sym, ◌∙◌}
use Rattle.std.specs.Option.{option_map}
use Rattle.ckc_base.specs.declared.places.Pos.{Pos}
use Rattle.ckc_base.specs.declared.arithmetic.Mode.{Mode}
use Rattle.ckc_types.specs.declared.types.CType.{CType}
use Rattle.ckc_syntax.specs.declared.tree.Act.{the_lemmas}
use Rattle.ckc_syntax.specs.declared.tree.Act.TheVariants as act
use Rattle.ckc_typed.specs.declared.environment.Globals.{Globals}
use Rattle.ckc_typed.specs.declared.environment.Variable.{Variable}
use Rattle.ckc_base.specs.Outcomes.{Outcome, bind}
use Rattle.ckc_typed.specs.Trees.{Act, Stmt, Expr, Decl, NotedStmt, NotedExpr, NotedDecl}
use Rattle.ckc_typed.specs.Expressions.{expr_typed, value_typed}
use Rattle.ckc_typed.specs.Declarations.{local_typed}
use Rattle.ckc_typed.specs.Statements.{act_typed, stmt_typed, part_in, stated, target_fits, scalar_fits, scalar_there_fits}

pub same_expr : (globals : Globals) (mode : Mode) (variables seen : List Variable) (e f : Expr) → seen ≡ variables → f ≡ e → expr_typed globals variables mode e ≡ expr_typed globals seen mode f
same_expr globals mode variables seen e f p q = ap (λ vs. expr_typed globals vs mode e) (sym p) ∙ ap (λ g. expr_typed globals seen mode g) (sym q)

module _ (globals : Globals) (variables : List Variable) (result : CType) (mode : Mode) (looped : Bool) (pos : Pos) where
  abbrev pub becomes : Act → Outcome NotedStmt
  becomes a = act_typed globals variables result a mode looped pos

  abbrev pub declared : NotedDecl → Outcome NotedStmt
  declared n = Ok (stated mode pos (act.Local n))

  pub local_is : (d : Decl) → becomes (act.Local d) ≡ bind (local_typed globals variables mode d) declared
  local_is d = search (rules, the_lemmas)

  abbrev pub assigned : NotedExpr → NotedExpr → Outcome NotedStmt
  assigned a b = bind (target_fits globals variables pos a b) (λ u. Ok (stated mode pos (act.Assign a b)))

  abbrev pub assigned_of : Expr → NotedExpr → Outcome NotedStmt
  assigned_of f a = bind (expr_typed globals variables mode f) (assigned a)

  pub assign_is : (e f : Expr) → becomes (act.Assign e f) ≡ bind (expr_typed globals variables mode e) (assigned_of f)
  assign_is e f = search (rules, the_lemmas)

  abbrev pub called : NotedExpr → Outcome NotedStmt
  called a = Ok (stated mode pos (act.Call a))

  pub call_is : (e : Expr) → becomes (act.Call e) ≡ bind (expr_typed globals variables mode e) called
  call_is e = search (rules, the_lemmas)

  abbrev pub chosen : NotedExpr → NotedStmt → Option NotedStmt → Outcome NotedStmt
  chosen a s t = bind (scalar_fits pos a) (λ u. Ok (stated mode pos (act.If a s t)))

  abbrev pub chosen_else : Option Stmt → NotedExpr → NotedStmt → Outcome NotedStmt
  chosen_else t a s = bind (part_in mode looped (option_map (stmt_typed globals variables result) t)) (chosen a s)

  abbrev pub chosen_of : Stmt → Option Stmt → NotedExpr → Outcome NotedStmt
  chosen_of s t a = bind (stmt_typed globals variables result s mode looped) (chosen_else t a)

  pub if_is : (e : Expr) (s : Stmt) (t : Option Stmt) → becomes (act.If e s t) ≡ bind (expr_typed globals variables mode e) (chosen_of s t)
  if_is e s t = search (rules, the_lemmas)

  abbrev pub repeated : NotedExpr → NotedStmt → Outcome NotedStmt
  repeated a s = bind (scalar_fits pos a) (λ u. Ok (stated mode pos (act.While a s)))

  abbrev pub repeated_of : Stmt → NotedExpr → Outcome NotedStmt
  repeated_of s a = bind (stmt_typed globals variables result s mode true) (repeated a)

  pub while_is : (e : Expr) (s : Stmt) → becomes (act.While e s) ≡ bind (expr_typed globals variables mode e) (repeated_of s)
  while_is e s = search (rules, the_lemmas)

  abbrev pub counted : Option NotedStmt → Option NotedExpr → NotedStmt → Option NotedStmt → Outcome NotedStmt
  counted start a body step = bind (scalar_there_fits pos a) (λ u. Ok (stated mode pos (act.For start a step body)))

  abbrev pub counted_step : Option Stmt → Option NotedStmt → Option NotedExpr → NotedStmt → Outcome NotedStmt
  counted_step t start a body = bind (part_in mode looped (option_map (stmt_typed globals variables result) t)) (counted start a body)

  abbrev pub counted_body : Option Stmt → Stmt → Option NotedStmt → Option NotedExpr → Outcome NotedStmt
  counted_body t u start a = bind (stmt_typed globals variables result u mode true) (counted_step t start a)

  abbrev pub counted_of : Option Expr → Option Stmt → Stmt → Option NotedStmt → Outcome NotedStmt
  counted_of e t u start = bind (value_typed globals variables mode e) (counted_body t u start)

  pub for_is : (s : Option Stmt) (e : Option Expr) (t : Option Stmt) (u : Stmt) → becomes (act.For s e t u) ≡ bind (part_in mode looped (option_map (stmt_typed globals variables result) s)) (counted_of e t u)
  for_is s e t u = search (rules, the_lemmas)

  abbrev pub tested : NotedExpr → Outcome NotedStmt
  tested a = bind (scalar_fits pos a) (λ u. Ok (stated mode pos (act.Check a)))

  pub check_is : (e : Expr) → becomes (act.Check e) ≡ bind (expr_typed globals variables mode e) tested
  check_is e = search (rules, the_lemmas)
