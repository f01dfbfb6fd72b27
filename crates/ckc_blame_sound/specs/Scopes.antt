-- What a statement names and declares, and the locals in scope where it stands.
use Rattle.std.specs.Prelude.{◌≡◌, ℕ, ◌<◌, false, List, length, Option, IfSome}
use Rattle.std.specs.List.{Contains}
use Rattle.ckc_syntax.specs.declared.tree.Name.{Name}
use Rattle.ckc_syntax.specs.declared.tree.Name.TheVariants as name
use Rattle.ckc_syntax.specs.declared.tree.Node.{Node-F, out-Node}
use Rattle.ckc_syntax.specs.declared.tree.Expr.{Expr-F, every-Expr}
use Rattle.ckc_typed.specs.declared.typed.Note.{Note}
use Rattle.ckc_typed.specs.Trees.{NotedLimits, NotedNode, NotedDecl, NotedExpr, NotedLayer, NotedStmt}
use Rattle.ckc_typed_welltyped.specs.Expressions.{AnyLimits, AnyNode}
use Rattle.ckc_typed_welltyped.specs.Noteless.{bare_expr}
use Rattle.ckc_bounds.specs.ckc_bounds_points.specs.Frames.{local_at}
use Rattle.ckc_bounds.specs.ckc_bounds_points.specs.Flow.{in_bounds_of}
use Rattle.ckc_bounds.specs.ckc_bounds_statements.specs.Paths.{path}
use Rattle.ckc_blame_sound.specs.Settings.{Setting}
use Rattle.ckc_blame_sound.specs.Words.{exprs_in}

-- The local that a name means is among some.
abbrev pub IsAmong : List ℕ → Name → Type 0
IsAmong seen (name.Local k) = Contains seen k
IsAmong seen n = Unit {0}

-- the same of a node that is a name
abbrev pub NamesAmong : List ℕ → NotedLayer → Type 0
NamesAmong seen (Node-F.Name n) = IsAmong seen n
NamesAmong seen n = Unit {0}

-- the same of the node of an expression
abbrev pub HasAmong : List ℕ → Expr-F Name Note NotedLimits NotedNode NotedExpr → Type 0
HasAmong seen e = NamesAmong seen (out-Node Name Note e.node)

-- Each local that an expression names, however deep, is among some, also in the bounds of a cast.
abbrev pub NamesSeen : List ℕ → NotedExpr → Type 0
NamesSeen seen = every-Expr Name Note AnyLimits AnyNode (HasAmong seen)

-- The same whatever is noted in the expression, as after it is judged.
abbrev pub NamesOnly : List ℕ → NotedExpr → Type 0
NamesOnly seen e = (f : NotedExpr) → bare_expr f ≡ bare_expr e → NamesSeen seen f

-- The local k is new if some are in scope: it is a variable of the function, it is none of these, and their bounds do not
-- name it.
pub record IsNewLocal (s : Setting) (seen : List ℕ) (k : ℕ) : Type 0 where
  pub there : k < length s.variables
  pub other : Contains seen k → ⊥
  pub unnamed : (j : ℕ) → Contains seen j → in_bounds_of k (local_at s.frame j) ≡ false

-- A statement stands in the scope of some locals, which are variables of the function: its expressions name only these,
-- and each local that it declares is new.
pub record StandsInScope (s : Setting) (st : NotedStmt) (seen : List ℕ) : Type 0 where
  pub names : (e : NotedExpr) → Contains (exprs_in st) e → NamesOnly seen e
  pub known : (k : ℕ) → Contains seen k → k < length s.variables
  pub new : (d : NotedDecl) (k : ℕ) → Contains (path st).declared d → d.name ≡ name.Local k → IsNewLocal s seen k

-- The same of a condition that may be left out.
pub record IsTestInScope (s : Setting) (e : Option NotedExpr) (seen : List ℕ) : Type 0 where
  pub names : IfSome e (NamesOnly seen)
  pub known : (k : ℕ) → Contains seen k → k < length s.variables
