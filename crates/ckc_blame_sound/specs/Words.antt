-- Expressions, statements and texts whose literals are words.
use Rattle.std.specs.Prelude.{◌<◌, ◌^◌, List, [], ◌∷◌, IfSome}
use Rattle.std.specs.List.{AllByRecursion, Contains}
use Rattle.ckc_syntax.specs.Inside.{listed, inside_init, inside_run}
use Rattle.ckc_syntax.specs.declared.tree.Name.{Name}
use Rattle.ckc_syntax.specs.declared.tree.Item.TheVariants as item
use Rattle.ckc_syntax.specs.declared.tree.Init.TheVariants as init
use Rattle.ckc_syntax.specs.declared.tree.Act.{Act-F, out-Act}
use Rattle.ckc_syntax.specs.declared.tree.Stmt.{Stmt-F, fold-Stmt}
use Rattle.ckc_syntax.specs.declared.tree.Node.{Node-F, out-Node}
use Rattle.ckc_syntax.specs.declared.tree.Expr.{Expr-F, every-Expr}
use Rattle.ckc_typed.specs.declared.typed.Note.{Note}
use Rattle.ckc_typed.specs.declared.typed.Typed.{Typed}
use Rattle.ckc_typed.specs.Trees.{NotedLimits, NotedNode, NotedExpr, NotedLayer, NotedInit, NotedDecl, NotedHead, NotedAct, NotedStmt}
use Rattle.ckc_typed_welltyped.specs.Expressions.{AnyLimits, AnyNode}
use Rattle.ckc_bounds.specs.Phase.{bounding}

-- A literal number is a word.
abbrev pub IsWordLiteral : NotedLayer → Type 0
IsWordLiteral (Node-F.Number n unsigned) = n < 2 ^ 32
IsWordLiteral _ = Unit {0}

-- that of an expression, if it is one
abbrev pub HasWord : Expr-F Name Note NotedLimits NotedNode NotedExpr → Type 0
HasWord e = IsWordLiteral (out-Node Name Note e.node)

-- Each literal number in an expression, however deep, is a word.
abbrev pub HasWords : NotedExpr → Type 0
HasWords = every-Expr Name Note AnyLimits AnyNode HasWord

-- the same of an initialiser
abbrev pub HasWordsInit : NotedInit → Type 0
HasWordsInit init.Nothing = Unit {0}
HasWordsInit (init.One e) = HasWords e
HasWordsInit (init.Many es) = Unit {0}

-- the same of the two sides of an assignment
abbrev pub HasWordsSides : Act-F Name Note NotedAct NotedStmt → Type 0
HasWordsSides (Act-F.Assign e f) = HasWords e × HasWords f
HasWordsSides a = Unit {0}

-- The expressions of a statement that is a step by itself have only words as literals: the two sides of an assignment
-- and of each one in a bundle, the initialiser of a local that is declared, what is returned, a call, and what is
-- checked.
abbrev pub HasWordsAct : Act-F Name Note NotedAct NotedStmt → Type 0
HasWordsAct (Act-F.Local d) = HasWordsInit d.init
HasWordsAct (Act-F.Call e) = HasWords e
HasWordsAct (Act-F.Return e) = IfSome e HasWords
HasWordsAct (Act-F.Check e) = HasWords e
HasWordsAct (Act-F.Bundle ss) = AllByRecursion (λ (st : NotedStmt). HasWordsSides (out-Act Name Note st.body)) ss
HasWordsAct a = HasWordsSides a

-- the expressions in what a statement does, from those in the statements in it
abbrev pub exprs_of_act : Act-F Name Note (List NotedExpr) (List NotedExpr) → List NotedExpr
exprs_of_act = inside_run listed (λ e. e ∷ []) (λ (d : NotedDecl). inside_init listed (λ e. e ∷ []) d.init) (λ es. es)

-- those of a statement are those in what it does
abbrev pub exprs_of_stmt : Stmt-F Name Note (List NotedExpr) (List NotedExpr) → List NotedExpr
exprs_of_stmt s = s.body

-- The expressions in a statement, and in each statement in it, however deep: both sides of an assignment, the
-- initialiser of a local, what is returned, a call that is a statement, and conditions.
abbrev pub exprs_in : NotedStmt → List NotedExpr
exprs_in = fold-Stmt Name Note (List NotedExpr) (List NotedExpr) exprs_of_act exprs_of_stmt

-- Each literal number in them is a word.
abbrev pub HasOnlyWords : NotedStmt → Type 0
HasOnlyWords st = (e : NotedExpr) → Contains (exprs_in st) e → HasWords e

-- The bodies of the functions of a judged text had only words as literals before they were judged.
abbrev pub HaveWords : Typed → Type 0
HaveWords p =
    (q : Typed) (h : NotedHead) (body : NotedStmt) → bounding.Makes q p → Contains q.tree.items (item.Function h body)
    → HasOnlyWords body
