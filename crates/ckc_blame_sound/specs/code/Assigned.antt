-- Assignments and declarations of locals, as they are judged.
use Rattle.std.specs.Prelude.{◌≡◌, ℕ, Some, Ok}
use Rattle.ckc_base.specs.declared.places.Pos.{Pos}
use Rattle.ckc_syntax.specs.declared.tree.Name.TheVariants as name
use Rattle.ckc_syntax.specs.declared.tree.Init.TheVariants as init
use Rattle.ckc_syntax.specs.declared.tree.Act.TheVariants as act
use Rattle.ckc_typed.specs.declared.environment.Globals.{Globals}
use Rattle.ckc_typed.specs.declared.typed.Note.{Note}
use Rattle.ckc_typed.specs.Trees.{NotedDecl, NotedExpr, NotedInit}
use Rattle.ckc_typed.specs.Types.{type_written}
use Rattle.ckc_bounds.specs.ckc_bounds_points.specs.declared.frame.Local.{Local}
use Rattle.ckc_bounds.specs.ckc_bounds_points.specs.Frames.{local_at}
use Rattle.ckc_bounds.specs.ckc_bounds_stores.specs.Targets.{local_of}
use Rattle.ckc_bounds.specs.ckc_bounds_statements.specs.Paths.{Here, stated, assign_judged, local_judged}
use Rattle.ckc_source.specs.Code.{Expr, Number}
use Rattle.ckc_build_values.specs.Expressions.{expr_elaborated}
use Rattle.ckc_blame_sound.specs.Settings.{Setting}
use Rattle.ckc_blame_sound.specs.Typed.{IsTyped}

-- The assignment to the local k, which is declared as l, is judged at a point: its right side becomes `value`, and the next
-- point is after it.
pub record IsAssignment (globals : Globals) (s : Setting) (here : Here) (k : ℕ) (l : Local) (value : NotedExpr) (there : Here) : Type 0 where
  pub pos : Pos
  pub note : Note
  pub target : NotedExpr
  pub right : NotedExpr
  pub place : NotedExpr
  pub typed_target : IsTyped globals s target
  pub typed_right : IsTyped globals s right
  pub names : local_of target ≡ Some k
  pub local : local_at s.frame k ≡ Some l
  pub judged : assign_judged s.frame s.head pos note target right here ≡ Ok (stated pos note (act.Assign place value), there)

-- The declaration of the local k is judged at a point: its initialiser becomes `first`, and the next point is after it.
pub record IsDeclaration (globals : Globals) (s : Setting) (here : Here) (k : ℕ) (l : Local) (first : NotedInit) (there : Here) : Type 0 where
  pub pos : Pos
  pub note : Note
  pub decl : NotedDecl
  pub names : decl.name ≡ name.Local k
  pub local : local_at s.frame k ≡ Some l
  pub typed_local : l.ctype ≡ type_written decl.ctype
  pub typed_init : (e : NotedExpr) → decl.init ≡ init.One e → IsTyped globals s e
  pub judged : local_judged s.frame pos note decl here ≡ Ok (stated pos note (act.Local (record decl { init = first })), there)

-- What a local begins with is 0 if nothing is written, and else the value of the initialiser.
abbrev pub Begins : Setting → ℕ → NotedInit → Expr → Type 0
Begins s literals init.Nothing e = e ≡ Number 0
Begins s literals (init.One f) e = e ≡ expr_elaborated s.text s.variables literals f
Begins s literals (init.Many fs) e = ⊥
