-- Well typed expressions and statements by their direct parts.
use Rattle.std.specs.Prelude.{◌≡◌, Bool, List, IfSome}
use Rattle.std.specs.List.{AllByRecursion}
use Rattle.ckc_base.specs.declared.arithmetic.Mode.{Mode}
use Rattle.ckc_types.specs.declared.types.CType.{CType}
use Rattle.ckc_syntax.specs.declared.tree.Name.{Name}
use Rattle.ckc_syntax.specs.declared.tree.Limits.{Limits-F}
use Rattle.ckc_syntax.specs.declared.tree.Node.{Node-F, out-Node}
use Rattle.ckc_syntax.specs.declared.tree.Expr.{out-Expr}
use Rattle.ckc_syntax.specs.declared.tree.Act.{out-Act}
use Rattle.ckc_typed.specs.declared.environment.Globals.{Globals}
use Rattle.ckc_typed.specs.declared.environment.Variable.{Variable}
use Rattle.ckc_typed.specs.declared.typed.Note.{Note}
use Rattle.ckc_typed.specs.Trees.{NotedLimits, NotedNode, NotedExpr, NotedStmt, NotedLayer}
use Rattle.ckc_typed_welltyped.specs.Expressions.{IsNoted, WellTypedExpr, WellTypedLimits}
use Rattle.ckc_typed_welltyped.specs.Statements.{act_rows, note_in, WellTypedStmt}

abbrev pub LimitsLayer : Type 0
LimitsLayer = Limits-F Name Note NotedLimits NotedNode NotedExpr

abbrev pub LimitsParts : Globals → List Variable → Mode → LimitsLayer → Type 0
LimitsParts globals variables mode (Limits-F.Count e at) = WellTypedExpr globals variables mode e
LimitsParts globals variables mode (Limits-F.ByteCount e at) = WellTypedExpr globals variables mode e
LimitsParts globals variables mode (Limits-F.Between e f at) = WellTypedExpr globals variables mode e × WellTypedExpr globals variables mode f
LimitsParts globals variables mode (Limits-F.Unknown at) = Unit {0}

abbrev pub NodeParts : Globals → List Variable → Mode → NotedLayer → Type 0
NodeParts globals variables mode (Node-F.Number n unsigned) = Unit {0}
NodeParts globals variables mode (Node-F.Text bytes) = Unit {0}
NodeParts globals variables mode Node-F.Null = Unit {0}
NodeParts globals variables mode (Node-F.Name n) = Unit {0}
NodeParts globals variables mode (Node-F.Un o e) = WellTypedExpr globals variables mode e
NodeParts globals variables mode (Node-F.Bin o e f) = WellTypedExpr globals variables mode e × WellTypedExpr globals variables mode f
NodeParts globals variables mode (Node-F.Pick e f g) = WellTypedExpr globals variables mode e × WellTypedExpr globals variables mode f × WellTypedExpr globals variables mode g
NodeParts globals variables mode (Node-F.Index e f) = WellTypedExpr globals variables mode e × WellTypedExpr globals variables mode f
NodeParts globals variables mode (Node-F.Dot e n at) = WellTypedExpr globals variables mode e
NodeParts globals variables mode (Node-F.Arrow e n at) = WellTypedExpr globals variables mode e
NodeParts globals variables mode (Node-F.Cast w e) = WellTypedExpr globals variables mode e
NodeParts globals variables mode (Node-F.Size w) = Unit {0}
NodeParts globals variables mode (Node-F.Trusted w e l) = WellTypedExpr globals variables mode e × IfSome l (WellTypedLimits globals variables mode)
NodeParts globals variables mode (Node-F.Tested w e l) = WellTypedExpr globals variables mode e × IfSome l (WellTypedLimits globals variables mode)
NodeParts globals variables mode (Node-F.Call n es) = AllByRecursion (WellTypedExpr globals variables mode) es
NodeParts globals variables mode (Node-F.Calloc w e u) = WellTypedExpr globals variables mode e

-- An expression has its row, and its direct parts are well typed.
pub record ExprByParts (globals : Globals) (variables : List Variable) (mode : Mode) (e : NotedExpr) : Type 0 where
  pub noted : IsNoted globals variables mode (out-Expr Name Note e)
  pub parts : NodeParts globals variables mode (out-Node Name Note e.node)

-- A statement has its row, in which its direct parts are well typed, and its note.
pub record StmtByParts (globals : Globals) (variables : List Variable) (result : CType) (s : NotedStmt) (mode : Mode) (looped : Bool) : Type 0 where
  pub row : act_rows globals variables result (WellTypedStmt globals variables result) (out-Act Name Note s.body) mode looped
  pub noted : s.note ≡ note_in mode s.body
