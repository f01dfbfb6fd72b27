-- What a statement becomes, by what its parts become.
use Rattle.std.proofs.Common.{◌≡◌, ap, sym, ◌∙◌}
use Rattle.std.specs.Prelude.{Ok, Option, None, Some}
use Rattle.ckc_syntax.specs.declared.tree.Act.{Act-F, map-Act, roll-Act, fold-roll-Act}
use Rattle.ckc_syntax.specs.declared.tree.Act.TheVariants as act
use Rattle.ckc_syntax.specs.declared.tree.Stmt.{fold-roll-Stmt}
use Rattle.ckc_base.specs.Outcomes.{bind}
use Rattle.ckc_resolve.specs.declared.names.Names.{Names}
use Rattle.ckc_resolve.specs.declared.scopes.Scopes.{Scopes}
use Rattle.ckc_resolve.specs.Spellings.{Spelling}
use Rattle.ckc_resolve.specs.Trees.{Expr, Act, Stmt}
use Rattle.ckc_resolve.specs.Scoping.{opened, closed}
use Rattle.ckc_resolve.specs.Expressions.{expr_named, maybe_named}
use Rattle.ckc_resolve.specs.Statements.{OfAct, OfStmt, act_parts, stmt_parts, act_named, stmt_named, part_named}

pub act_by : (names : Names) (a : Act) (scopes : Scopes) (x : Act-F Spelling (Unit {0}) Act Stmt) → a ≡ roll-Act Spelling (Unit {0}) x
    → act_named names a scopes ≡ act_parts names (map-Act Spelling (Unit {0}) Act Stmt OfAct OfStmt (act_named names) (stmt_named names) x) scopes
act_by names a scopes x is =
    ap (λ b. act_named names b scopes) is ∙ ap (λ f. f scopes) (fold-roll-Act Spelling (Unit {0}) OfAct OfStmt (act_parts names) stmt_parts x)

pub stmt_by : (names : Names) (s : Stmt) (scopes : Scopes) → stmt_named names s scopes ≡ bind (act_named names s.body scopes) (λ p. Ok (record { body = p.0; pos = s.pos; note = tt }, p.1))
stmt_by names s scopes =
    ap (λ f. f scopes) (fold-roll-Stmt Spelling (Unit {0}) OfAct OfStmt (act_parts names) stmt_parts (record { body = s.body; pos = s.pos; note = s.note }))

-- an `if` with its other branch or without, and a `for` with its first and its last part or without
pub if_by : (names : Names) (a : Act) (scopes : Scopes) (e : Expr) (s : Stmt) (t : Option Stmt) → a ≡ act.If e s t
    → act_named names a scopes ≡ bind (expr_named names scopes e) (λ x. bind (stmt_named names s scopes) (λ p. bind (part_named names t p.1) (λ q. Ok (act.If x p.0 q.0, q.1))))
if_by names a scopes e s None is = act_by names a scopes (Act-F.If e s None) (is ∙ sym (act.rolls-If e s None))
if_by names a scopes e s (Some t) is = act_by names a scopes (Act-F.If e s (Some t)) (is ∙ sym (act.rolls-If e s (Some t)))

pub for_by : (names : Names) (a : Act) (scopes : Scopes) (first : Option Stmt) (e : Option Expr) (step : Option Stmt) (body : Stmt) → a ≡ act.For first e step body
    → act_named names a scopes ≡ bind (part_named names first (opened scopes)) (λ p. bind (maybe_named names p.1 e) (λ x. bind (stmt_named names body p.1) (λ q. bind (part_named names step q.1) (λ r.
    Ok (act.For p.0 x r.0 q.0, closed scopes r.1)))))
for_by names a scopes None e None body is = act_by names a scopes (Act-F.For None e None body) (is ∙ sym (act.rolls-For None e None body))
for_by names a scopes None e (Some t) body is = act_by names a scopes (Act-F.For None e (Some t) body) (is ∙ sym (act.rolls-For None e (Some t) body))
for_by names a scopes (Some s) e None body is = act_by names a scopes (Act-F.For (Some s) e None body) (is ∙ sym (act.rolls-For (Some s) e None body))
for_by names a scopes (Some s) e (Some t) body is = act_by names a scopes (Act-F.For (Some s) e (Some t) body) (is ∙ sym (act.rolls-For (Some s) e (Some t) body))
