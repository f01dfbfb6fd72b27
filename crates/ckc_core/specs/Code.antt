-- Core code as plain data: what the trees of the code are seen as, and what its meaning is said of.
use Rattle.std.specs.Prelude.{ℕ, List, [], ◌∷◌, map, Bool, Option}
use Rattle.ckc_base.specs.declared.arithmetic.BinOp.{BinOp}
use Rattle.ckc_base.specs.declared.arithmetic.Width.{Width}
use Rattle.ckc_base.specs.declared.places.Pos.{Pos}
use Rattle.ckc_base.specs.declared.runtime_checks.Check.{Check as CheckName}
use Rattle.ckc_core.specs.declared.code.CoreExpr.{CoreExpr, CoreExpr-F, fold-CoreExpr}
use Rattle.ckc_core.specs.declared.code.CoreStmt.{CoreStmt, CoreStmt-F, fold-CoreStmt}
use Rattle.ckc_core.specs.declared.code.CoreFunc.{CoreFunc}
use Rattle.ckc_core.specs.declared.code.Core.{Core}

-- Expressions: a number, a local, a load, a binary operation, and the high word of a product.
pub data Expr : Type 0 where
  Const : (number : ℕ) → Expr
  Local : (local : ℕ) → Expr
  Load : (width : Width) (address : Expr) → Expr
  Bin : (op : BinOp) (left right : Expr) → Expr
  High : (is_signed : Bool) (left right : Expr) → Expr

-- Statements, each with those that come after it; End is the end of a list.
pub data Code : Type 0 where
  End : Code
  Set : (local : ℕ) (value : Expr) (rest : Code) → Code
  Store : (width : Width) (address value : Expr) (rest : Code) → Code
  Check : (check : CheckName) (at : Pos) (value : Expr) (rest : Code) → Code
  Call : (target : Option ℕ) (callee : ℕ) (arguments : List Expr) (at : Pos) (rest : Code) → Code
  Get : (local : ℕ) (rest : Code) → Code
  Put : (value : Expr) (rest : Code) → Code
  Alloc : (local : ℕ) (count : Expr) (size : ℕ) (rest : Code) → Code
  If : (condition : Expr) (one two rest : Code) → Code
  Loop : (body step rest : Code) → Code
  Break : (rest : Code) → Code
  Continue : (rest : Code) → Code
  Return : (value : Expr) (rest : Code) → Code

abbrev pub expr_form : CoreExpr-F Expr → Expr
expr_form (CoreExpr-F.Const n) = Const n
expr_form (CoreExpr-F.Local x) = Local x
expr_form (CoreExpr-F.Load width a) = Load width a
expr_form (CoreExpr-F.Bin op a b) = Bin op a b
expr_form (CoreExpr-F.High is_signed a b) = High is_signed a b

-- an expression as plain data
abbrev pub expr_of : CoreExpr → Expr
expr_of = fold-CoreExpr Expr expr_form

-- statements in front of others, one after another
abbrev pub chained : List (Code → Code) → Code → Code
chained [] rest = rest
chained (f ∷ fs) rest = f (chained fs rest)

abbrev pub stmt_form : CoreStmt-F (Code → Code) → Code → Code
stmt_form (CoreStmt-F.Set x e) rest = Set x (expr_of e) rest
stmt_form (CoreStmt-F.Store width a v) rest = Store width (expr_of a) (expr_of v) rest
stmt_form (CoreStmt-F.Check check at e) rest = Check check at (expr_of e) rest
stmt_form (CoreStmt-F.Call target callee es at) rest = Call target callee (map expr_of es) at rest
stmt_form (CoreStmt-F.Get x) rest = Get x rest
stmt_form (CoreStmt-F.Put e) rest = Put (expr_of e) rest
stmt_form (CoreStmt-F.Alloc x e size) rest = Alloc x (expr_of e) size rest
stmt_form (CoreStmt-F.If e one two) rest = If (expr_of e) (chained one End) (chained two End) rest
stmt_form (CoreStmt-F.Loop body step) rest = Loop (chained body End) (chained step End) rest
stmt_form CoreStmt-F.Break rest = Break rest
stmt_form CoreStmt-F.Continue rest = Continue rest
stmt_form (CoreStmt-F.Return e) rest = Return (expr_of e) rest

-- a statement in front of others
abbrev pub stmt_of : CoreStmt → Code → Code
stmt_of = fold-CoreStmt (Code → Code) stmt_form

-- a list of statements
abbrev pub code_of : List CoreStmt → Code
code_of statements = chained (map stmt_of statements) End

-- A function: the numbers of its parameters and of its locals, and its body.
pub record Function : Type 0 where
  pub params : ℕ
  pub locals : ℕ
  pub body : Code

abbrev pub function_of : CoreFunc → Function
function_of f = record { params = f.params; locals = f.locals; body = code_of f.body }

-- A program: the first bytes of the data region, its functions, and the number of `main`.
pub record Program : Type 0 where
  pub initial : List ℕ
  pub functions : List Function
  pub main : ℕ

abbrev pub program_of : Core → Program
program_of c = record { initial = c.initial; functions = map function_of c.funcs; main = c.main }
