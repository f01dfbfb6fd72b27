-- The trees whose names are spellings, and those whose names are what they mean.
pub use Rattle.ckc_syntax.specs.Trees.{Tree, Item, Head, TypeTree, Decl, Init, Limits, Expr, Node, Stmt, Act}
pub use Rattle.ckc_syntax.specs.Trees.{NamedTree, NamedItem, NamedHead, NamedTypeTree as NamedType, NamedDecl, NamedInit, NamedLimits, NamedExpr, NamedNode, NamedStmt, NamedAct}
