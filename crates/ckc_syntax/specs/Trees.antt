-- The trees of a text: those whose names are spellings, and those whose names are what they mean. Nothing is noted in
-- either.
use Rattle.std.specs.Prelude.{ℕ, List}
use Rattle.ckc_syntax.specs.declared.tree.Name.{Name}
use Rattle.ckc_syntax.specs.declared.tree.Tree as trees
use Rattle.ckc_syntax.specs.declared.tree.Item as items
use Rattle.ckc_syntax.specs.declared.tree.Head as heads
use Rattle.ckc_syntax.specs.declared.tree.TypeTree as types
use Rattle.ckc_syntax.specs.declared.tree.Decl as decls
use Rattle.ckc_syntax.specs.declared.tree.Init as inits
use Rattle.ckc_syntax.specs.declared.tree.Limits as limits
use Rattle.ckc_syntax.specs.declared.tree.Expr as exprs
use Rattle.ckc_syntax.specs.declared.tree.Node as nodes
use Rattle.ckc_syntax.specs.declared.tree.Stmt as statements
use Rattle.ckc_syntax.specs.declared.tree.Act as acts

-- a name as the text spells it
abbrev pub Spelling : Type 0
Spelling = List ℕ

abbrev pub Tree : Type 0
Tree = trees.Tree Spelling (Unit {0})

-- an item of a text: a directive, a tag, a structure, an object, a prototype or a function
abbrev pub Item : Type 0
Item = items.Item Spelling (Unit {0})

-- the head of a function
abbrev pub Head : Type 0
Head = heads.Head Spelling (Unit {0})

-- a type
abbrev pub TypeTree : Type 0
TypeTree = types.TypeTree Spelling

-- a declared object, member, parameter or local
abbrev pub Decl : Type 0
Decl = decls.Decl Spelling (Unit {0})

-- what a declared object begins as
abbrev pub Init : Type 0
Init = inits.Init Spelling (Unit {0})

-- bounds: `count(e)`, `byte_count(e)`, `bounds(e, f)` or `bounds(unknown)`
abbrev pub Limits : Type 0
Limits = limits.Limits Spelling (Unit {0})

-- an expression with its place
abbrev pub Expr : Type 0
Expr = exprs.Expr Spelling (Unit {0})

-- what an expression is: a literal, a name, an operator with its operands, and so on
abbrev pub Node : Type 0
Node = nodes.Node Spelling (Unit {0})

-- a statement with its place
abbrev pub Stmt : Type 0
Stmt = statements.Stmt Spelling (Unit {0})

-- what a statement is: an assignment, an `if`, a block, and so on
abbrev pub Act : Type 0
Act = acts.Act Spelling (Unit {0})

abbrev pub NamedTree : Type 0
NamedTree = trees.Tree Name (Unit {0})

abbrev pub NamedItem : Type 0
NamedItem = items.Item Name (Unit {0})

abbrev pub NamedHead : Type 0
NamedHead = heads.Head Name (Unit {0})

abbrev pub NamedTypeTree : Type 0
NamedTypeTree = types.TypeTree Name

abbrev pub NamedDecl : Type 0
NamedDecl = decls.Decl Name (Unit {0})

abbrev pub NamedInit : Type 0
NamedInit = inits.Init Name (Unit {0})

abbrev pub NamedLimits : Type 0
NamedLimits = limits.Limits Name (Unit {0})

abbrev pub NamedExpr : Type 0
NamedExpr = exprs.Expr Name (Unit {0})

abbrev pub NamedNode : Type 0
NamedNode = nodes.Node Name (Unit {0})

abbrev pub NamedStmt : Type 0
NamedStmt = statements.Stmt Name (Unit {0})

abbrev pub NamedAct : Type 0
NamedAct = acts.Act Name (Unit {0})
