-- The expressions of code of a mode: in checked code there is no unchecked pointer and no `_Assume_bounds_cast`, and in
-- unchecked code addresses are unchecked pointers.
use Rattle.std.specs.Prelude.{◌≡◌, false, IfSome}
use Rattle.std.specs.List.{AllByRecursion}
use Rattle.ckc_base.specs.declared.arithmetic.Mode.{Mode}
use Rattle.ckc_base.specs.declared.arithmetic.Mode.TheVariants.{Checked, Unchecked}
use Rattle.ckc_syntax.specs.declared.tree.Name.{Name}
use Rattle.ckc_syntax.specs.declared.tree.Init.TheVariants as init
use Rattle.ckc_syntax.specs.declared.tree.Act.{Act-F, out-Act}
use Rattle.ckc_syntax.specs.declared.tree.Node.{out-Node}
use Rattle.ckc_syntax.specs.declared.tree.Expr.{Expr-F, every-Expr}
use Rattle.ckc_typed.specs.declared.typed.Note.{Note}
use Rattle.ckc_typed.specs.Raw.{has_raw}
use Rattle.ckc_typed.specs.Trees.{NotedLimits, NotedNode, NotedExpr, NotedInit, NotedAct, NotedStmt}
use Rattle.ckc_typed_welltyped.specs.Expressions.{AnyLimits, AnyNode}
use Rattle.ckc_source.specs.Code.{Code, Assign, Bundle, Get, Put, Call, If, Loop, Return, Check}
use Rattle.ckc_blame_sound.specs.Safe.{is_assumed}
use Rattle.ckc_blame_given.specs.ckc_blame_pointers.specs.Covered.{IsRawAddress}

-- In checked code, an expression has a type with no unchecked pointer in it, and is no `_Assume_bounds_cast`; in unchecked
-- code, an address is an unchecked pointer.
pub record IsPartOfMode (m : Mode) (e : Expr-F Name Note NotedLimits NotedNode NotedExpr) : Type 0 where
  pub type : m ≡ Checked → has_raw e.note.ctype ≡ false
  pub node : m ≡ Checked → is_assumed (out-Node Name Note e.node) ≡ false
  pub address : m ≡ Unchecked → IsRawAddress e.note.ctype (out-Node Name Note e.node)

-- this of an expression and each expression in it, however deep
abbrev pub IsOfMode : Mode → NotedExpr → Type 0
IsOfMode m = every-Expr Name Note AnyLimits AnyNode (IsPartOfMode m)

-- this of an initialiser
abbrev pub IsInitOfMode : Mode → NotedInit → Type 0
IsInitOfMode m init.Nothing = Unit {0}
IsInitOfMode m (init.One e) = IsOfMode m e
IsInitOfMode m (init.Many es) = Unit {0}

-- this of the two sides of an assignment
abbrev pub AreSidesOfMode : Mode → Act-F Name Note NotedAct NotedStmt → Type 0
AreSidesOfMode m (Act-F.Assign e f) = IsOfMode m e × IsOfMode m f
AreSidesOfMode m a = Unit {0}

-- this of the expressions of a statement that is a step by itself
abbrev pub IsActOfMode : Mode → Act-F Name Note NotedAct NotedStmt → Type 0
IsActOfMode m (Act-F.Local d) = IsInitOfMode m d.init
IsActOfMode m (Act-F.Call e) = IsOfMode m e
IsActOfMode m (Act-F.Return e) = IfSome e (IsOfMode m)
IsActOfMode m (Act-F.Check e) = IsOfMode m e
IsActOfMode m (Act-F.Bundle ss) = AllByRecursion (λ (st : NotedStmt). AreSidesOfMode m (out-Act Name Note st.body)) ss
IsActOfMode m a = AreSidesOfMode m a

-- the same of a statement
abbrev pub IsStmtOfMode : Mode → NotedStmt → Type 0
IsStmtOfMode m st = IsActOfMode m (out-Act Name Note st.body)

-- the mode of the first step of some code
abbrev pub mode_of : Code → Mode
mode_of (Assign spot target right rest) = spot.mode
mode_of (Bundle spot assigns rest) = spot.mode
mode_of (Get spot target rest) = spot.mode
mode_of (Put spot target e rest) = spot.mode
mode_of (Call spot target callee es rest) = spot.mode
mode_of (If spot e one two rest) = spot.mode
mode_of (Loop spot e body step rest) = spot.mode
mode_of (Return spot e rest) = spot.mode
mode_of (Check spot e rest) = spot.mode
mode_of code = Unchecked
