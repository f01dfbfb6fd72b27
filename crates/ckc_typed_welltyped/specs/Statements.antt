-- Statements that are well typed (ISO C11, 6.8; Checked C specification 0.9, section 3, on checked scopes), in the mode
-- of their scope, and in a loop or outside.
use Rattle.std.specs.Prelude.{◌≡◌, ◌⊎◌, Bool, true, false, List, unwrap_or, IfSome}
use Rattle.std.specs.List.{AllByRecursion}
use Rattle.ckc_base.specs.declared.arithmetic.Mode.{Mode}
use Rattle.ckc_types.specs.declared.types.CType.{CType}
use Rattle.ckc_types.specs.declared.types.CType.TheVariants as ctype
use Rattle.ckc_syntax.specs.declared.tree.Name.{Name}
use Rattle.ckc_syntax.specs.declared.tree.Act.{Act-F, out-Act, rec-Act}
use Rattle.ckc_syntax.specs.declared.tree.Stmt.{Stmt-F, rec-Stmt}
use Rattle.ckc_typed.specs.declared.environment.Globals.{Globals}
use Rattle.ckc_typed.specs.declared.environment.Variable.{Variable}
use Rattle.ckc_typed.specs.declared.typed.Note.{Note}
use Rattle.ckc_typed.specs.declared.typed.Range.TheVariants.{Missing}
use Rattle.ckc_typed.specs.Trees.{NotedAct, NotedStmt, NotedExpr}
use Rattle.ckc_typed.specs.Types.{is_scalar}
use Rattle.ckc_typed.specs.Conversions.{converts}
use Rattle.ckc_typed.specs.Expressions.{is_placed}
use Rattle.ckc_typed.specs.Statements.{is_named, is_text_call, is_result}
use Rattle.ckc_typed_welltyped.specs.Expressions.{WellTypedExpr}
use Rattle.ckc_typed_welltyped.specs.Declarations.{WellTypedLocal}

-- A target is a scalar: a local or an object of file scope by its name, or an element or a member. What a function of
-- the text returns goes to a name alone.
abbrev pub IsTarget : Globals → List Variable → NotedExpr → NotedExpr → Type 0
IsTarget globals variables e f = (is_scalar e.note.ctype ≡ true) × ((is_named globals variables e ≡ true) ⊎ ((is_placed e ≡ true) × (is_text_call f ≡ false)))

-- the two sides of an assignment
pub record IsAssignment (globals : Globals) (variables : List Variable) (mode : Mode) (e f : NotedExpr) : Type 0 where
  pub left : WellTypedExpr globals variables mode e
  pub right : WellTypedExpr globals variables mode f
  pub converted : converts e.note.ctype f ≡ true
  pub target : IsTarget globals variables e f

-- a condition is a scalar
abbrev pub IsCondition : Globals → List Variable → Mode → NotedExpr → Type 0
IsCondition globals variables mode e = WellTypedExpr globals variables mode e × (is_scalar e.note.ctype ≡ true)

-- what is said of a statement in the mode of its scope, and in a loop or outside
abbrev pub Rule : Type 1
Rule = Mode → Bool → Type 0

-- A row for each kind of statement, where `fit` says of a statement in it that it is well typed. A block has its own
-- mode, or that of the scope around it.
abbrev pub act_rows : Globals → List Variable → CType → {X X' : Type 0} → (X' → Rule) → Act-F Name Note X X' → Rule
act_rows globals variables result fit (Act-F.Block m ss) mode looped = AllByRecursion (λ s. fit s (unwrap_or m mode) looped) ss
act_rows globals variables result fit Act-F.Empty mode looped = Unit {0}
act_rows globals variables result fit (Act-F.Local d) mode looped = WellTypedLocal globals variables mode d
act_rows globals variables result fit (Act-F.Assign e f) mode looped = IsAssignment globals variables mode e f
act_rows globals variables result fit (Act-F.Call e) mode looped = WellTypedExpr globals variables mode e
act_rows globals variables result fit (Act-F.If e s t) mode looped = IsCondition globals variables mode e × fit s mode looped × IfSome t (λ u. fit u mode looped)
act_rows globals variables result fit (Act-F.While e s) mode looped = IsCondition globals variables mode e × fit s mode true
act_rows globals variables result fit (Act-F.For s e t u) mode looped =
    IfSome s (λ v. fit v mode looped) × IfSome e (IsCondition globals variables mode) × IfSome t (λ v. fit v mode looped) × fit u mode true
act_rows globals variables result fit (Act-F.Return e) mode looped = IfSome e (WellTypedExpr globals variables mode) × (is_result result e ≡ true)
act_rows globals variables result fit Act-F.Break mode looped = looped ≡ true
act_rows globals variables result fit Act-F.Continue mode looped = looped ≡ true
act_rows globals variables result fit (Act-F.Check e) mode looped = IsCondition globals variables mode e
act_rows globals variables result fit (Act-F.Bundle ss) mode looped = AllByRecursion (λ s. fit s mode looped) ss

-- the mode of a statement in a scope: a block may have its own
abbrev pub mode_in_form : {X X' : Type 0} → Mode → Act-F Name Note X X' → Mode
mode_in_form mode (Act-F.Block m ss) = unwrap_or m mode
mode_in_form mode _ = mode

abbrev pub mode_in : Mode → NotedAct → Mode
mode_in mode a = mode_in_form mode (out-Act Name Note a)

-- the note of a statement: the type `void`, its mode, and no range
abbrev pub note_in : Mode → NotedAct → Note
note_in mode a = record { ctype = ctype.Void; mode = mode_in mode a; range = Missing }

abbrev pub act_rule : Globals → List Variable → CType → (X X' : Type 0) → (X → NotedAct) → (X' → NotedStmt) → (X → Rule) → (X' → Rule) → Act-F Name Note X X' → Rule
act_rule globals variables result X X' whole_act whole act fit = act_rows globals variables result fit

abbrev pub stmt_rule : (X X' : Type 0) → (X → NotedAct) → (X' → NotedStmt) → (X → Rule) → (X' → Rule) → Stmt-F Name Note X X' → Rule
stmt_rule X X' whole_act whole act fit s mode looped = act s.body mode looped × (s.note ≡ note_in mode (whole_act s.body))

-- the statements of a function with such a result
abbrev pub WellTypedAct : Globals → List Variable → CType → NotedAct → Rule
WellTypedAct globals variables result = rec-Act Name Note Rule Rule (act_rule globals variables result) stmt_rule

abbrev pub WellTypedStmt : Globals → List Variable → CType → NotedStmt → Rule
WellTypedStmt globals variables result = rec-Stmt Name Note Rule Rule (act_rule globals variables result) stmt_rule
