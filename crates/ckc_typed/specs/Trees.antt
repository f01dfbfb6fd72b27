-- The trees whose names are what they mean, without notes and with them.
use Rattle.ckc_syntax.specs.declared.tree.Name.{Name}
use Rattle.ckc_syntax.specs.declared.tree.Item as items
use Rattle.ckc_syntax.specs.declared.tree.Head as heads
use Rattle.ckc_syntax.specs.declared.tree.Decl as decls
use Rattle.ckc_syntax.specs.declared.tree.Init as inits
use Rattle.ckc_syntax.specs.declared.tree.Limits as limits
use Rattle.ckc_syntax.specs.declared.tree.Expr as exprs
use Rattle.ckc_syntax.specs.declared.tree.Node as nodes
use Rattle.ckc_syntax.specs.declared.tree.Stmt as statements
use Rattle.ckc_syntax.specs.declared.tree.Act as acts
pub use Rattle.ckc_syntax.specs.Trees.{NamedTypeTree as TypeTree, NamedTree as Tree, NamedItem as Item, NamedHead as Head, NamedDecl as Decl, NamedInit as Init, NamedLimits as Limits, NamedExpr as Expr, NamedNode as Node, NamedStmt as Stmt, NamedAct as Act}
use Rattle.ckc_syntax.specs.Placeless.{NodeLayer}
use Rattle.ckc_typed.specs.declared.typed.Note.{Note}

-- an item of a source file, with notes
abbrev pub NotedItem : Type 0
NotedItem = items.Item Name Note

-- the head of a function, with notes
abbrev pub NotedHead : Type 0
NotedHead = heads.Head Name Note

-- a declaration, with notes
abbrev pub NotedDecl : Type 0
NotedDecl = decls.Decl Name Note

-- an initialiser, with notes
abbrev pub NotedInit : Type 0
NotedInit = inits.Init Name Note

-- bounds, with notes
abbrev pub NotedLimits : Type 0
NotedLimits = limits.Limits Name Note

-- an expression, with notes
abbrev pub NotedExpr : Type 0
NotedExpr = exprs.Expr Name Note

-- a node of an expression, with notes
abbrev pub NotedNode : Type 0
NotedNode = nodes.Node Name Note

-- a statement, with notes
abbrev pub NotedStmt : Type 0
NotedStmt = statements.Stmt Name Note

-- what a statement does, with notes
abbrev pub NotedAct : Type 0
NotedAct = acts.Act Name Note

-- what stands in one node of an expression with notes, with its parts
abbrev pub NotedLayer : Type 0
NotedLayer = NodeLayer Name Note
