use Rattle.std.proofs.Common.{◌≡◌, ◌∙◌, false, List, Ok, ap, sym}
use Rattle.std.proofs.lemmas.Result.{err_from_is_err_and}
use Rattle.ckc_base.specs.declared.arithmetic.Mode.{Mode}
use Rattle.ckc_types.specs.declared.types.CType.{CType}
use Rattle.ckc_syntax.specs.declared.tree.Item.TheVariants as item
use Rattle.ckc_typed.specs.declared.environment.Globals.{Globals}
use Rattle.ckc_typed.specs.declared.environment.Variable.{Variable}
use Rattle.ckc_base.specs.Outcomes.{Outcome, bind}
use Rattle.ckc_typed.specs.Trees.{Head, Stmt, NotedHead, NotedStmt, NotedItem}
use Rattle.ckc_typed.specs.Types.{type_written}
use Rattle.ckc_typed.specs.Environment.{variables_of}
use Rattle.ckc_typed.specs.Statements.{body_mode, stmt_typed}
use Rattle.ckc_typed.specs.Texts.{head_typed, function_typed}
use Rattle.ckc_typed.specs.Walk.{head_mode}
use Rattle.ckc_base.proofs.Chains.{fails, goes}
use Rattle.ckc_typing.proofs.items.typed_function.Goals as goal

-- the body, after the head
abbrev body_typed : Globals → Mode → Head → Stmt → Outcome NotedStmt
body_typed globals pragma h body = stmt_typed globals (variables_of (body_mode (head_mode pragma h) body) h body) (type_written h.result) body (head_mode pragma h) false

abbrev made : NotedHead → NotedStmt → Outcome NotedItem
made g b = Ok (item.Function g b)

after_head : (globals : Globals) (pragma : Mode) (h : Head) (body : Stmt) (g : NotedHead) → head_typed globals pragma h ≡ Ok g → function_typed globals pragma h body ≡ bind (body_typed globals pragma h body) (made g)
after_head globals pragma h body g q = ap (λ o. bind o (λ a. bind (body_typed globals pragma h body) (made a))) q

same_body : (globals : Globals) (vs ws : List Variable) (t u : CType) (s : Stmt) (m n : Mode) → ws ≡ vs → u ≡ t → n ≡ m → stmt_typed globals vs t s m false ≡ stmt_typed globals ws u s n false
same_body globals vs ws t u s m n p q r = ap (λ z. stmt_typed globals z t s m false) (sym p) ∙ ap (λ z. stmt_typed globals ws z s m false) (sym q) ∙ ap (λ z. stmt_typed globals ws u s z false) (sym r)

pub returns-in_err-typed : goal.returns-in_err-typed
returns-in_err-typed c =
    let p = err_from_is_err_and c.from_residual-in_err-typed.result c.from_residual-in_err-typed.ensures.1 in
    fails _ _ (made c.in_ok-head.head) (function_typed c.args.globals.now c.args.pragma c.args.h.now c.args.body.now) c.from_residual-in_err-typed.result p.0 c.in_err-typed.field-0.0
    (after_head c.args.globals.now c.args.pragma c.args.h.now c.args.body.now c.in_ok-head.head c.in_ok-head.ensures)
    (same_body c.args.globals.now _ _ _ _ c.args.body.now _ _ c.in_ok-frame.ensures.variables c.in_ok-frame.ensures.result_type c.head_mode.ensures) p.1 p.2 c.in_err-typed.ensures

pub returns : goal.returns
returns c =
    goes _ _ (made c.in_ok-head.head) (function_typed c.args.globals.now c.args.pragma c.args.h.now c.args.body.now) _
    (after_head c.args.globals.now c.args.pragma c.args.h.now c.args.body.now c.in_ok-head.head c.in_ok-head.ensures)
    (same_body c.args.globals.now _ _ _ _ c.args.body.now _ _ c.in_ok-frame.ensures.variables c.in_ok-frame.ensures.result_type c.head_mode.ensures) c.in_ok-typed.ensures
