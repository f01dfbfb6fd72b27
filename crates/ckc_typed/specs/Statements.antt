-- Statements with the type `void` and their mode noted, and their first fault (ISO C11, 6.8; Checked C specification
-- 0.9, section 3, on checked scopes). The parts of a statement are judged from left to right, and then itself; in a
-- `for` the step comes after the body.
use Rattle.std.specs.Prelude.{Bool, true, false, not, ◌&&◌, ◌||◌, if◌then◌else◌, List, map, Option, None, Some, is_some, unwrap_or, Ok}
use Rattle.std.specs.Option.{option_map}
use Rattle.ckc_base.specs.declared.places.Pos.{Pos}
use Rattle.ckc_base.specs.declared.arithmetic.Mode.{Mode}
use Rattle.ckc_types.specs.declared.types.CType.{CType}
use Rattle.ckc_types.specs.declared.types.CType.TheVariants as ctype
use Rattle.ckc_syntax.specs.declared.tree.Name.{Name}
use Rattle.ckc_syntax.specs.declared.tree.Name.TheVariants as name
use Rattle.ckc_syntax.specs.declared.tree.Node.{Node-F, out-Node}
use Rattle.ckc_syntax.specs.declared.tree.Act.{Act-F, out-Act, fold-Act}
use Rattle.ckc_syntax.specs.declared.tree.Act.TheVariants as act
use Rattle.ckc_syntax.specs.declared.tree.Stmt as statements
use Rattle.ckc_syntax.specs.declared.tree.Stmt.{Stmt-F, fold-Stmt}
use Rattle.ckc_typed.specs.Codes.{bad_operands, bad_conversion, bad_target, no_loop}
use Rattle.ckc_typed.specs.declared.environment.Globals.{Globals}
use Rattle.ckc_typed.specs.declared.environment.Variable.{Variable}
use Rattle.ckc_typed.specs.declared.typed.Note.{Note}
use Rattle.ckc_typed.specs.declared.typed.Range.TheVariants.{Missing}
use Rattle.ckc_base.specs.Outcomes.{Outcome, bind, unless, in_order, if_there}
use Rattle.ckc_typed.specs.Trees.{Act, Stmt, NotedAct, NotedStmt, NotedExpr}
use Rattle.ckc_typed.specs.Types.{is_void, is_scalar}
use Rattle.ckc_typed.specs.Environment.{variable_named}
use Rattle.ckc_typed.specs.Conversions.{converts}
use Rattle.ckc_typed.specs.Expressions.{expr_typed, value_typed, is_object, is_placed}
use Rattle.ckc_typed.specs.Declarations.{local_typed}

-- a statement with the type `void` and the mode of its scope noted
abbrev pub stated : Mode → Pos → NotedAct → NotedStmt
stated mode pos a = record { body = a; pos = pos; note = record { ctype = ctype.Void; mode = mode; range = Missing } }

-- whether a node is the name of a parameter or local
abbrev pub is_variable_form : {A L M E : Type 0} → List Variable → Node-F Name A L M E → Bool
is_variable_form variables (Node-F.Name n) = is_some (variable_named variables n)
is_variable_form variables _ = false

-- whether a name means a function of the source file
abbrev pub is_function_name : Name → Bool
is_function_name (name.Function k) = true
is_function_name _ = false

-- whether a node is a call of a function of the source file
abbrev pub is_call_form : {A L M E : Type 0} → Node-F Name A L M E → Bool
is_call_form (Node-F.Call n es) = is_function_name n
is_call_form _ = false

-- A named target is a local, or an object of file scope that is no array.
abbrev pub is_named : Globals → List Variable → NotedExpr → Bool
is_named globals variables e = is_variable_form variables (out-Node Name Note e.node) || is_object globals e

-- a call of a function of the text
abbrev pub is_text_call : NotedExpr → Bool
is_text_call e = is_call_form (out-Node Name Note e.node)

-- A target is a local, or what has an address, and a scalar. If the right side calls a function of the text, it is a
-- local or an object by its name.
abbrev pub is_target : Globals → List Variable → NotedExpr → NotedExpr → Bool
is_target globals variables e f = is_scalar e.note.ctype && (is_named globals variables e || (is_placed e && not (is_text_call f)))

-- E402: the right side does not convert. E403: what is no target.
abbrev pub target_fits : Globals → List Variable → Pos → NotedExpr → NotedExpr → Outcome (Unit {0})
target_fits globals variables pos e f = unless (not (converts e.note.ctype f)) bad_conversion pos (unless (not (is_target globals variables e f)) bad_target pos (Ok tt))

-- E401: the condition is no scalar, but E402 if it is the value of a call that gives none.
abbrev pub scalar_fits : Pos → NotedExpr → Outcome (Unit {0})
scalar_fits pos e = unless (not (is_scalar e.note.ctype)) (if is_void e.note.ctype then bad_conversion else bad_operands) pos (Ok tt)

-- the same of a condition that may be left out
abbrev pub scalar_there_fits : Pos → Option NotedExpr → Outcome (Unit {0})
scalar_there_fits pos None = Ok tt
scalar_there_fits pos (Some e) = scalar_fits pos e

-- A function of type `void` returns no value, and every other one returns one that converts to the type of its result.
abbrev pub is_result : CType → Option NotedExpr → Bool
is_result result None = is_void result
is_result result (Some e) = converts result e

-- E402: not what the function returns
abbrev pub result_fits : CType → Pos → Option NotedExpr → Outcome (Unit {0})
result_fits result pos e = unless (not (is_result result e)) bad_conversion pos (Ok tt)

-- E406: `break` or `continue` outside a loop
abbrev pub loop_fits : Bool → Pos → Outcome (Unit {0})
loop_fits looped pos = unless (not looped) no_loop pos (Ok tt)

-- A statement is judged in the mode of its scope, and in a loop or outside.
abbrev pub OfStmt : Type 0
OfStmt = Mode → Bool → Outcome NotedStmt

-- the same of what a statement does, at a place
abbrev pub OfAct : Type 0
OfAct = Mode → Bool → Pos → Outcome NotedStmt

-- statements with the types in them noted, in order, or their first error
abbrev pub all_in : Mode → Bool → List OfStmt → Outcome (List NotedStmt)
all_in mode looped ss = in_order (map (λ s. s mode looped) ss)

-- the same of a statement that there may be
abbrev pub part_in : Mode → Bool → Option OfStmt → Outcome (Option NotedStmt)
part_in mode looped s = if_there (option_map (λ t. t mode looped) s)

-- A block has its own mode, or that of the scope around it.
abbrev pub act_parts : Globals → List Variable → CType → Act-F Name (Unit {0}) OfAct OfStmt → OfAct
act_parts globals variables result (Act-F.Block m ss) mode looped pos = bind (all_in (unwrap_or m mode) looped ss) (λ all. Ok (stated (unwrap_or m mode) pos (act.Block m all)))
act_parts globals variables result Act-F.Empty mode looped pos = Ok (stated mode pos act.Empty)
act_parts globals variables result (Act-F.Local d) mode looped pos = bind (local_typed globals variables mode d) (λ n. Ok (stated mode pos (act.Local n)))
act_parts globals variables result (Act-F.Assign e f) mode looped pos =
    bind (expr_typed globals variables mode e) (λ a. bind (expr_typed globals variables mode f) (λ b. bind (target_fits globals variables pos a b) (λ u. Ok (stated mode pos (act.Assign a b)))))
act_parts globals variables result (Act-F.Call e) mode looped pos = bind (expr_typed globals variables mode e) (λ a. Ok (stated mode pos (act.Call a)))
act_parts globals variables result (Act-F.If e s t) mode looped pos =
    bind (expr_typed globals variables mode e) (λ a. bind (s mode looped) (λ chosen. bind (part_in mode looped t) (λ other. bind (scalar_fits pos a) (λ u. Ok (stated mode pos (act.If a chosen other))))))
act_parts globals variables result (Act-F.While e s) mode looped pos =
    bind (expr_typed globals variables mode e) (λ a. bind (s mode true) (λ body. bind (scalar_fits pos a) (λ u. Ok (stated mode pos (act.While a body)))))
act_parts globals variables result (Act-F.For s e t u) mode looped pos =
    bind (part_in mode looped s) (λ start. bind (value_typed globals variables mode e) (λ a. bind (u mode true) (λ body. bind (part_in mode looped t) (λ step.
    bind (scalar_there_fits pos a) (λ v. Ok (stated mode pos (act.For start a step body)))))))
act_parts globals variables result (Act-F.Return e) mode looped pos = bind (value_typed globals variables mode e) (λ a. bind (result_fits result pos a) (λ u. Ok (stated mode pos (act.Return a))))
act_parts globals variables result Act-F.Break mode looped pos = bind (loop_fits looped pos) (λ u. Ok (stated mode pos act.Break))
act_parts globals variables result Act-F.Continue mode looped pos = bind (loop_fits looped pos) (λ u. Ok (stated mode pos act.Continue))
act_parts globals variables result (Act-F.Check e) mode looped pos = bind (expr_typed globals variables mode e) (λ a. bind (scalar_fits pos a) (λ u. Ok (stated mode pos (act.Check a))))
act_parts globals variables result (Act-F.Bundle ss) mode looped pos = bind (all_in mode looped ss) (λ all. Ok (stated mode pos (act.Bundle all)))

-- the mode that a block has of its own
abbrev pub own_mode : {A B S : Type 0} → Act-F Name A B S → Option Mode
own_mode (Act-F.Block m ss) = m
own_mode _ = None

-- the mode of the body of a function, by that of its head
abbrev pub body_mode : {A : Type 0} → Mode → statements.Stmt Name A → Mode
body_mode {A} mode s = unwrap_or (own_mode (out-Act Name A s.body)) mode

-- A statement is judged by what it does, at its place.
abbrev pub stmt_parts : Stmt-F Name (Unit {0}) OfAct OfStmt → OfStmt
stmt_parts s mode looped = s.body mode looped s.pos

abbrev pub act_typed : Globals → List Variable → CType → Act → OfAct
act_typed globals variables result = fold-Act Name (Unit {0}) OfAct OfStmt (act_parts globals variables result) stmt_parts

-- a statement with the types in it noted, or its first error
abbrev pub stmt_typed : Globals → List Variable → CType → Stmt → OfStmt
stmt_typed globals variables result = fold-Stmt Name (Unit {0}) OfAct OfStmt (act_parts globals variables result) stmt_parts
