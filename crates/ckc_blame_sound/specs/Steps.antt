-- A step of a program and the statement that it comes from, as that is judged.
use Rattle.std.specs.Prelude.{◌≡◌, ℕ, Bool, true, false, [], ◌∷◌, Option, Ok}
use Rattle.std.specs.List.{All}
use Rattle.ckc_base.specs.declared.arithmetic.Mode.{Mode}
use Rattle.ckc_syntax.specs.declared.tree.Name.{Name}
use Rattle.ckc_syntax.specs.declared.tree.Act.{Act-F, out-Act}
use Rattle.ckc_typed.specs.declared.typed.Note.{Note}
use Rattle.ckc_typed.specs.Statics.{strings_of_stmt, strings_of_value}
use Rattle.ckc_typed.specs.Trees.{NotedAct, NotedExpr, NotedStmt}
use Rattle.ckc_bounds.specs.ckc_bounds_statements.specs.Paths.{Here, path, maybe_judged, maybe_side}
use Rattle.ckc_source.specs.Code.{Expr, Code}
use Rattle.ckc_build_elaborate.specs.Statements.{stmt_elaborated}
use Rattle.ckc_build_elaborate.specs.Steps.{condition}
use Rattle.ckc_blame_sound.specs.Settings.{Setting, AreStrings}
use Rattle.ckc_blame_sound.specs.Values.{NamesIntegers}
use Rattle.ckc_blame_sound.specs.Points.{GoesTo}
use Rattle.ckc_blame_sound.specs.Bodies.{IsInBody, IsTestInBody, IsNextFresh}
use Rattle.ckc_blame_sound.specs.Few.{HasRoom, nodes_in, nodes_of_value}
use Rattle.ckc_blame_sound.specs.Scopes.{StandsInScope, IsTestInScope}

-- a statement that is a step by itself: no block, no `if` and no loop
abbrev pub is_simple : Act-F Name Note NotedAct NotedStmt → Bool
is_simple (Act-F.Local d) = true
is_simple (Act-F.Assign e f) = true
is_simple (Act-F.Call e) = true
is_simple (Act-F.Return e) = true
is_simple (Act-F.Check e) = true
is_simple (Act-F.Bundle ss) = true
is_simple a = false

-- A statement of the function is judged at a point, and not only counted, and each fact there names the number zero and
-- integer locals alone; it stands in the scope of the locals there, there is room for its fresh variables, and its string
-- literals have static objects; what becomes of it is this one step, and control goes from there to another point.
pub record IsStep (s : Setting) (here : Here) (step : Code → Code) (there : Here) : Type 0 where
  pub before : NotedStmt
  pub after : NotedStmt
  pub literals : ℕ
  pub behind : Here
  pub simple : is_simple (out-Act Name Note before.body) ≡ true
  pub inside : IsInBody s before
  pub scope : StandsInScope s before here.seen
  pub fresh : IsNextFresh s here.next
  pub counting : here.counting ≡ false
  pub named : All (NamesIntegers s.frame) here.at.facts.list
  pub judged : (path before).judged s.frame s.head here ≡ Ok (after, behind)
  pub room : HasRoom s here.next (nodes_in before)
  pub becomes : stmt_elaborated s.text s.variables s.result literals after ≡ step ∷ []
  pub goes : GoesTo s.frame behind there
  pub strings : AreStrings s literals (strings_of_stmt after)

-- A condition of a statement of a mode in the function is judged at such a point, with room for its fresh variables and
-- static objects for its string literals, and becomes this expression; if it is true control is at a second point, and if
-- it is false at a third. One that is left out is true.
pub record IsCondition (s : Setting) (mode : Mode) (here : Here) (e : Expr) (yes no : Here) : Type 0 where
  pub before : Option NotedExpr
  pub after : Option NotedExpr
  pub literals : ℕ
  pub behind : Here
  pub inside : IsTestInBody s mode before
  pub scope : IsTestInScope s before here.seen
  pub fresh : IsNextFresh s here.next
  pub counting : here.counting ≡ false
  pub named : All (NamesIntegers s.frame) here.at.facts.list
  pub judged : maybe_judged s.frame before here ≡ Ok (after, behind)
  pub room : HasRoom s here.next (nodes_of_value before)
  pub becomes : e ≡ condition s.text s.variables literals after
  pub true_side : yes ≡ record behind { at = maybe_side s.frame true after behind.at }
  pub false_side : no ≡ record behind { at = maybe_side s.frame false after behind.at }
  pub strings : AreStrings s literals (strings_of_value after)
