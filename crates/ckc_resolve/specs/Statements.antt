-- Statements with their names replaced by what they mean, and what is visible after them.
use Rattle.std.specs.Prelude.{List, Ok, Option, Some, None, map}
use Rattle.ckc_syntax.specs.declared.tree.Act.{Act-F, fold-Act, out-Act}
use Rattle.ckc_syntax.specs.declared.tree.Act.TheVariants as act
use Rattle.ckc_syntax.specs.declared.tree.Stmt.{Stmt-F, fold-Stmt}
use Rattle.ckc_resolve.specs.declared.names.Names.{Names}
use Rattle.ckc_resolve.specs.declared.scopes.Scopes.{Scopes}
use Rattle.ckc_base.specs.Outcomes.{Outcome, bind, in_turn}
use Rattle.ckc_resolve.specs.Spellings.{Spelling}
use Rattle.ckc_resolve.specs.Trees.{Stmt, Act, NamedStmt, NamedAct}
use Rattle.ckc_resolve.specs.Scoping.{opened, closed}
use Rattle.ckc_resolve.specs.Expressions.{expr_named, maybe_named}
use Rattle.ckc_resolve.specs.Declarations.{local_named}

-- from what is visible before to the statement and what is visible after it
abbrev pub OfAct : Type 0
OfAct = Scopes → Outcome (NamedAct × Scopes)

-- the same of a statement with its place
abbrev pub OfStmt : Type 0
OfStmt = Scopes → Outcome (NamedStmt × Scopes)

-- the same of a statement that may be left out, as after `else`
abbrev pub part_in : Option OfStmt → Scopes → Outcome (Option NamedStmt × Scopes)
part_in None scopes = Ok (None, scopes)
part_in (Some s) scopes = bind (s scopes) (λ p. Ok (Some p.0, p.1))

-- A block and a `for` make a scope of their own. The step of a `for` is judged after its body.
abbrev pub act_parts : Names → Act-F Spelling (Unit {0}) OfAct OfStmt → OfAct
act_parts names (Act-F.Block mode ss) scopes = bind (in_turn ss (opened scopes)) (λ p. Ok (act.Block mode p.0, closed scopes p.1))
act_parts names Act-F.Empty scopes = Ok (act.Empty, scopes)
act_parts names (Act-F.Local d) scopes = bind (local_named names scopes d) (λ p. Ok (act.Local p.0, p.1))
act_parts names (Act-F.Assign e f) scopes = bind (expr_named names scopes e) (λ a. bind (expr_named names scopes f) (λ b. Ok (act.Assign a b, scopes)))
act_parts names (Act-F.Call e) scopes = bind (expr_named names scopes e) (λ a. Ok (act.Call a, scopes))
act_parts names (Act-F.If e s t) scopes = bind (expr_named names scopes e) (λ a. bind (s scopes) (λ p. bind (part_in t p.1) (λ q. Ok (act.If a p.0 q.0, q.1))))
act_parts names (Act-F.While e s) scopes = bind (expr_named names scopes e) (λ a. bind (s scopes) (λ p. Ok (act.While a p.0, p.1)))
act_parts names (Act-F.For first e step body) scopes =
    bind (part_in first (opened scopes)) (λ p. bind (maybe_named names p.1 e) (λ a. bind (body p.1) (λ q. bind (part_in step q.1) (λ r.
    Ok (act.For p.0 a r.0 q.0, closed scopes r.1)))))
act_parts names (Act-F.Return e) scopes = bind (maybe_named names scopes e) (λ a. Ok (act.Return a, scopes))
act_parts names Act-F.Break scopes = Ok (act.Break, scopes)
act_parts names Act-F.Continue scopes = Ok (act.Continue, scopes)
act_parts names (Act-F.Check e) scopes = bind (expr_named names scopes e) (λ a. Ok (act.Check a, scopes))
act_parts names (Act-F.Bundle ss) scopes = bind (in_turn ss scopes) (λ p. Ok (act.Bundle p.0, p.1))

-- a statement at its place, by what its parts become
abbrev pub stmt_parts : Stmt-F Spelling (Unit {0}) OfAct OfStmt → OfStmt
stmt_parts s scopes = bind (s.body scopes) (λ p. Ok (record { body = p.0; pos = s.pos; note = tt }, p.1))

-- a statement without its place, with its names replaced, and what is visible after it
abbrev pub act_named : Names → Act → OfAct
act_named names = fold-Act Spelling (Unit {0}) OfAct OfStmt (act_parts names) stmt_parts

-- a statement at its place, with its names replaced, and what is visible after it
abbrev pub stmt_named : Names → Stmt → OfStmt
stmt_named names = fold-Stmt Spelling (Unit {0}) OfAct OfStmt (act_parts names) stmt_parts

-- each statement sees what the ones before it declare
abbrev pub stmts_named : Names → List Stmt → Scopes → Outcome (List NamedStmt × Scopes)
stmts_named names ss = in_turn (map (stmt_named names) ss)

abbrev pub part_named : Names → Option Stmt → Scopes → Outcome (Option NamedStmt × Scopes)
part_named names None scopes = Ok (None, scopes)
part_named names (Some s) scopes = bind (stmt_named names s scopes) (λ p. Ok (Some p.0, p.1))

-- The outermost block of a body has the scope of the parameters.
abbrev pub body_parts : Names → Act-F Spelling (Unit {0}) Act Stmt → Act → Scopes → Outcome (NamedAct × Scopes)
body_parts names (Act-F.Block mode ss) whole scopes = bind (stmts_named names ss scopes) (λ p. Ok (act.Block mode p.0, p.1))
body_parts names layer whole scopes = act_named names whole scopes

-- the body of a function with its names replaced, without its place
abbrev pub body_act_named : Names → Act → Scopes → Outcome (NamedAct × Scopes)
body_act_named names a scopes = body_parts names (out-Act Spelling (Unit {0}) a) a scopes

-- the body of a function with its names replaced
abbrev pub body_named : Names → Stmt → Scopes → Outcome (NamedStmt × Scopes)
body_named names s scopes = bind (body_act_named names s.body scopes) (λ p. Ok (record { body = p.0; pos = s.pos; note = tt }, p.1))
