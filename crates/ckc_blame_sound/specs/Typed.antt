-- Expressions that have been judged, with their types.
use Rattle.std.specs.Prelude.{◌≡◌, ◌<◌, ◌^◌, ℕ, true, Option, Some, IfSome}
use Rattle.std.specs.List.{AllByRecursion}
use Rattle.ckc_base.specs.declared.arithmetic.Mode.{Mode}
use Rattle.ckc_types.specs.declared.types.CType.{CType}
use Rattle.ckc_types.specs.declared.types.Structs.{Structs}
use Rattle.ckc_syntax.specs.declared.tree.Name.{Name}
use Rattle.ckc_syntax.specs.declared.tree.Name.TheVariants as name
use Rattle.ckc_syntax.specs.declared.tree.Init.TheVariants as init
use Rattle.ckc_syntax.specs.declared.tree.Node.{Node-F, out-Node}
use Rattle.ckc_syntax.specs.declared.tree.Act.{Act-F, out-Act}
use Rattle.ckc_syntax.specs.declared.tree.Expr.{Expr-F, every-Expr}
use Rattle.ckc_typed.specs.declared.environment.Globals.{Globals}
use Rattle.ckc_typed.specs.declared.typed.Note.{Note}
use Rattle.ckc_typed.specs.declared.typed.Range.TheVariants.{Missing}
use Rattle.ckc_typed.specs.Constants.{size_of}
use Rattle.ckc_typed.specs.Environment.{type_of_name}
use Rattle.ckc_typed.specs.Trees.{NotedLimits, NotedNode, NotedExpr, NotedLayer, NotedInit, NotedAct, NotedStmt}
use Rattle.ckc_typed.specs.Types.{type_written, is_integer}
use Rattle.ckc_typed_welltyped.specs.Expressions.{AnyLimits, AnyNode, HasType}
use Rattle.ckc_bounds.specs.ckc_bounds_points.specs.declared.frame.Local.{Local}
use Rattle.ckc_bounds.specs.ckc_bounds_points.specs.Frames.{local_at}
use Rattle.ckc_blame_sound.specs.Settings.{Setting}

-- The number of a literal, and the size of a type, is a word.
abbrev pub IsWordNode : Structs → NotedLayer → Type 0
IsWordNode structs (Node-F.Number n unsigned) = n < 2 ^ 32
IsWordNode structs (Node-F.Size w) = size_of structs (type_written w) < 2 ^ 32
IsWordNode structs _ = Unit {0}

-- A node has the type of its row, in some mode, and its number is a word; an integer has no range.
pub record IsRow (globals : Globals) (s : Setting) (n : NotedLayer) (note : Note) : Type 0 where
  pub mode : Mode
  pub row : HasType globals s.variables mode n note.ctype
  pub bare : is_integer note.ctype ≡ true → note.range ≡ Missing
  pub word : IsWordNode s.frame.structs n

-- the row of an expression
abbrev pub HasRow : Globals → Setting → Expr-F Name Note NotedLimits NotedNode NotedExpr → Type 0
HasRow globals s e = IsRow globals s (out-Node Name Note e.node) e.note

-- An expression and each expression in it, however deep, has its row.
abbrev pub IsTyped : Globals → Setting → NotedExpr → Type 0
IsTyped globals s = every-Expr Name Note AnyLimits AnyNode (HasRow globals s)

-- the same of one that may be left out
abbrev pub IsTypedIf : Globals → Setting → Option NotedExpr → Type 0
IsTypedIf globals s e = IfSome e (IsTyped globals s)

-- The frame that a function is judged by has the structures of its text, and its locals have their declared types.
pub record Agrees (globals : Globals) (s : Setting) : Type 0 where
  pub structs : s.frame.structs ≡ s.text.layout
  pub locals : (k : ℕ) (l : Local) (t : CType) → local_at s.frame k ≡ Some l
      → type_of_name globals s.variables (name.Local k) ≡ Some t → l.ctype ≡ t

-- An initialiser of a local is typed. No local has a list in braces.
abbrev pub IsTypedInit : Globals → Setting → NotedInit → Type 0
IsTypedInit globals s init.Nothing = Unit {0}
IsTypedInit globals s (init.One e) = IsTyped globals s e
IsTypedInit globals s (init.Many es) = ⊥

-- The two sides of an assignment are typed.
abbrev pub AreTypedSides : Globals → Setting → Act-F Name Note NotedAct NotedStmt → Type 0
AreTypedSides globals s (Act-F.Assign e f) = IsTyped globals s e × IsTyped globals s f
AreTypedSides globals s a = Unit {0}

-- The expressions of a statement that is a step by itself are typed: the two sides of an assignment and of each one in
-- a bundle, the initialiser of a local, which has its type, what is returned, a call, and what is checked.
abbrev pub IsTypedAct : Globals → Setting → Act-F Name Note NotedAct NotedStmt → Type 0
IsTypedAct globals s (Act-F.Local d) =
    IsTypedInit globals s d.init
    × ((k : ℕ) (l : Local) → d.name ≡ name.Local k → local_at s.frame k ≡ Some l → l.ctype ≡ type_written d.ctype)
IsTypedAct globals s (Act-F.Call e) = IsTyped globals s e
IsTypedAct globals s (Act-F.Return e) = IsTypedIf globals s e
IsTypedAct globals s (Act-F.Check e) = IsTyped globals s e
IsTypedAct globals s (Act-F.Bundle ss) =
    AllByRecursion (λ (st : NotedStmt). AreTypedSides globals s (out-Act Name Note st.body)) ss
IsTypedAct globals s a = AreTypedSides globals s a

-- the same of a statement
abbrev pub IsTypedStmt : Globals → Setting → NotedStmt → Type 0
IsTypedStmt globals s st = IsTypedAct globals s (out-Act Name Note st.body)
