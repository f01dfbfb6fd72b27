-- Programs as plain data: what the trees of the code are seen as, and what the meaning is said of.
use Rattle.std.specs.Prelude.{ℕ, List, [], ◌∷◌, map, Bool, Option}
use Rattle.ckc_base.specs.declared.arithmetic.Width.{Width}
use Rattle.ckc_base.specs.declared.places.Pos.{Pos}
use Rattle.ckc_source.specs.declared.expr.Integer.{Integer}
use Rattle.ckc_source.specs.declared.expr.Operation.{Operation}
use Rattle.ckc_source.specs.declared.expr.Access.{Access}
use Rattle.ckc_source.specs.declared.expr.Shift.{Shift}
use Rattle.ckc_source.specs.declared.expr.Pointee.{Pointee}
use Rattle.ckc_source.specs.declared.expr.Limits.{Limits}
use Rattle.ckc_source.specs.declared.expr.Count.{Count}
use Rattle.ckc_source.specs.declared.expr.ExprTree.{ExprTree, ExprTree-F, fold-ExprTree}
use Rattle.ckc_source.specs.declared.stmt.Spot.{Spot}
use Rattle.ckc_source.specs.declared.stmt.Kept.{Kept}
use Rattle.ckc_source.specs.declared.stmt.TargetTree.{TargetTree}
use Rattle.ckc_source.specs.declared.stmt.TargetTree.TheVariants as target
use Rattle.ckc_source.specs.declared.stmt.RightTree.{RightTree}
use Rattle.ckc_source.specs.declared.stmt.RightTree.TheVariants as right
use Rattle.ckc_source.specs.declared.stmt.Assign as assigns
use Rattle.ckc_source.specs.declared.stmt.StmtTree.{StmtTree, StmtTree-F, fold-StmtTree}
use Rattle.ckc_source.specs.declared.program.Object.{Object}
use Rattle.ckc_source.specs.declared.program.Shape.{Shape}
use Rattle.ckc_source.specs.declared.program.Interface.{Interface}
use Rattle.ckc_source.specs.declared.program.FunctionTree.{FunctionTree}
use Rattle.ckc_source.specs.declared.program.Program as programs

-- an expression, with the checks that it makes and the places at which they stop
pub data Expr : Type 0 where
  Number : (number : ℕ) → Expr
  Local : (local : ℕ) → Expr
  Limited : (local : ℕ) (limits : Limits) → Expr
  Array : (at bytes : ℕ) → Expr
  Load : (width : Width) (access : Access) (pointer index : Expr) → Expr
  Member : (to : Pointee) (count : Count) (access : Access) (pointer index : Expr) → Expr
  Address : (bytes : ℕ) (access : Access) (pointer index : Expr) → Expr
  Moved : (shift : Shift) (pointer index : Expr) → Expr
  Added : (shift : Shift) (index pointer : Expr) → Expr
  Binary : (operation : Operation) (is_signed : Bool) (at : Pos) (left right : Expr) → Expr
  And : (left right : Expr) → Expr
  Or : (left right : Expr) → Expr
  Choice : (condition one two : Expr) → Expr
  Narrow : (value : Expr) → Expr
  Bare : (pointer : Expr) → Expr
  Tested : (size : ℕ) (form : Integer) (at : Pos) (pointer count : Expr) → Expr
  Trusted : (to : Pointee) (form : Integer) (pointer count : Expr) → Expr

-- what an assignment writes: nothing, a local, or memory through a pointer at an index
pub data Target : Type 0 where
  Nothing : Target
  Variable : (local : ℕ) (width : Width) → Target
  Memory : (width : Width) (access : Access) (pointer index : Expr) → Target

-- what is assigned: the value of an expression, or a new block of `calloc`
pub data Right : Type 0 where
  Value : (value : Expr) → Right
  Fresh : (to : Pointee) (count : Expr) → Right

-- Statements, each with those that come after it; End is the end of a list.
pub data Code : Type 0 where
  End : Code
  Assign : (spot : Spot) (target : Target) (right : Right) (rest : Code) → Code
  Bundle : (spot : Spot) (assigns : List (Target × Right)) (rest : Code) → Code
  Get : (spot : Spot) (target : Target) (rest : Code) → Code
  Put : (spot : Spot) (target : Target) (value : Expr) (rest : Code) → Code
  Call : (spot : Spot) (target : Option Kept) (callee : ℕ) (arguments : List Expr) (rest : Code) → Code
  If : (spot : Spot) (condition : Expr) (one two rest : Code) → Code
  Loop : (spot : Spot) (condition : Expr) (body step rest : Code) → Code
  Break : (rest : Code) → Code
  Continue : (rest : Code) → Code
  Return : (spot : Spot) (value : Expr) (rest : Code) → Code
  Check : (spot : Spot) (value : Expr) (rest : Code) → Code

-- ---- the trees as plain data

abbrev pub expr_form : ExprTree-F Expr → Expr
expr_form (ExprTree-F.Number n) = Number n
expr_form (ExprTree-F.Local x) = Local x
expr_form (ExprTree-F.Limited x limits) = Limited x limits
expr_form (ExprTree-F.Array at bytes) = Array at bytes
expr_form (ExprTree-F.Load width access p i) = Load width access p i
expr_form (ExprTree-F.Member to count access p i) = Member to count access p i
expr_form (ExprTree-F.Address bytes access p i) = Address bytes access p i
expr_form (ExprTree-F.Moved shift p i) = Moved shift p i
expr_form (ExprTree-F.Added shift i p) = Added shift i p
expr_form (ExprTree-F.Binary op is_signed at a b) = Binary op is_signed at a b
expr_form (ExprTree-F.And a b) = And a b
expr_form (ExprTree-F.Or a b) = Or a b
expr_form (ExprTree-F.Choice c a b) = Choice c a b
expr_form (ExprTree-F.Narrow e) = Narrow e
expr_form (ExprTree-F.Bare p) = Bare p
expr_form (ExprTree-F.Tested size form at p k) = Tested size form at p k
expr_form (ExprTree-F.Trusted to form p k) = Trusted to form p k

-- an expression as plain data
abbrev pub expr_of : ExprTree → Expr
expr_of = fold-ExprTree Expr expr_form

abbrev pub target_of : TargetTree → Target
target_of target.Nothing = Nothing
target_of (target.Local x width) = Variable x width
target_of (target.Memory width access p i) = Memory width access (expr_of p) (expr_of i)

abbrev pub right_of : RightTree → Right
right_of (right.Value e) = Value (expr_of e)
right_of (right.Fresh to e) = Fresh to (expr_of e)

abbrev pub assign_of : assigns.Assign → Target × Right
assign_of a = (target_of a.target, right_of a.right)

-- statements in front of others, one after another
abbrev pub chained : List (Code → Code) → Code → Code
chained [] rest = rest
chained (f ∷ fs) rest = f (chained fs rest)

abbrev pub stmt_form : StmtTree-F (Code → Code) → Code → Code
stmt_form (StmtTree-F.Assign spot a) rest = Assign spot (target_of a.target) (right_of a.right) rest
stmt_form (StmtTree-F.Bundle spot assigns) rest = Bundle spot (map assign_of assigns) rest
stmt_form (StmtTree-F.Get spot t) rest = Get spot (target_of t) rest
stmt_form (StmtTree-F.Put spot t e) rest = Put spot (target_of t) (expr_of e) rest
stmt_form (StmtTree-F.Call spot target callee es) rest = Call spot target callee (map expr_of es) rest
stmt_form (StmtTree-F.If spot e one two) rest = If spot (expr_of e) (chained one End) (chained two End) rest
stmt_form (StmtTree-F.Loop spot e body step) rest = Loop spot (expr_of e) (chained body End) (chained step End) rest
stmt_form StmtTree-F.Break rest = Break rest
stmt_form StmtTree-F.Continue rest = Continue rest
stmt_form (StmtTree-F.Return spot e) rest = Return spot (expr_of e) rest
stmt_form (StmtTree-F.Check spot e) rest = Check spot (expr_of e) rest

-- a statement in front of others
abbrev pub stmt_of : StmtTree → Code → Code
stmt_of = fold-StmtTree (Code → Code) stmt_form

-- a list of statements
abbrev pub code_of : List StmtTree → Code
code_of statements = chained (map stmt_of statements) End

-- A function: where falling off its end stands, how many parameters and locals it has, its body, the limits of its
-- result, and the interfaces that are read when it is entered.
pub record Function : Type 0 where
  pub end : Spot
  pub params : ℕ
  pub locals : ℕ
  pub body : Code
  pub result : Option Limits
  pub interfaces : List Interface

abbrev pub function_of : FunctionTree → Function
function_of f = record { end = f.end; params = f.params; locals = f.locals; body = code_of f.body; result = f.result; interfaces = f.interfaces }

-- A program: its objects, its structures, its functions, and the number of `main`.
pub record Program : Type 0 where
  pub objects : List Object
  pub shapes : List Shape
  pub functions : List Function
  pub main : ℕ

abbrev pub program_of : programs.Program → Program
program_of p = record { objects = p.objects; shapes = p.shapes; functions = map function_of p.functions; main = p.main }
