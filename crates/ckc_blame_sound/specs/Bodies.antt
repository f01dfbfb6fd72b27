-- What stands in the body of a function before it is judged, and the numbers of fresh variables there.
use Rattle.std.specs.Prelude.{◌≡◌, ℕ, ◌<◌, ◌≤◌, ◌^◌, Bool, true, false, length, Option, Some, IfSome}
use Rattle.std.specs.List.{Contains}
use Rattle.ckc_base.specs.declared.arithmetic.Mode.{Mode}
use Rattle.ckc_syntax.specs.declared.tree.Name.TheVariants as name
use Rattle.ckc_typed.specs.declared.environment.Globals.{Globals}
use Rattle.ckc_typed.specs.declared.typed.Typed.{Typed}
use Rattle.ckc_typed.specs.Environment.{variable_declared}
use Rattle.ckc_typed.specs.Texts.{globals_of}
use Rattle.ckc_typed.specs.Trees.{NotedDecl, NotedExpr, NotedStmt}
use Rattle.ckc_typed.specs.Types.{is_integer}
use Rattle.ckc_typed_welltyped.specs.Noteless.{without_notes}
use Rattle.ckc_typed_welltyped.specs.Productions.{given_stmt, callless_value}
use Rattle.ckc_typed_welltyped.specs.Statements as rows
use Rattle.ckc_typed_welltyped.specs.Statements.{WellTypedStmt}
use Rattle.ckc_bounds.specs.ckc_bounds_points.specs.declared.frame.Frame.{Frame}
use Rattle.ckc_bounds.specs.ckc_bounds_points.specs.declared.frame.Local.{Local}
use Rattle.ckc_bounds.specs.ckc_bounds_points.specs.Frames.{local_at}
use Rattle.ckc_bounds.specs.ckc_bounds_statements.specs.Paths.{path}
use Rattle.ckc_blame_sound.specs.Settings.{Setting}
use Rattle.ckc_blame_sound.specs.Words.{HasWords, HasOnlyWords, HaveWords}
use Rattle.ckc_blame_sound.specs.Safe.{IsSafe, HasOnlySafe, AreSafe}
use Rattle.ckc_blame_sound.specs.Given.{AreGiven}
use Rattle.ckc_blame_sound.specs.Sized.{HasOnlySized, AllocateSizes}

-- what a whole text declares
abbrev pub globals_of_text : Typed → Globals
globals_of_text p = globals_of (without_notes p.tree).items

-- A statement may stand in the body of a function, before it is judged: it is well typed among the variables of the
-- function, and declares no others and no parameter; its literals are words, its expressions safe, and what it allocates
-- has sizes, if those of the text are so, and the grammar gives it if it gives the bodies of the text.
pub record IsInBody (s : Setting) (st : NotedStmt) : Type 0 where
  pub mode : Mode
  pub looped : Bool
  pub typed : WellTypedStmt (globals_of_text s.text) s.variables s.result st mode looped
  pub known : (d : NotedDecl) → Contains (path st).declared d → Contains s.variables (variable_declared d)
  pub words : HaveWords s.text → HasOnlyWords st
  pub safe : AreSafe s.text → HasOnlySafe st
  pub late : (d : NotedDecl) (k : ℕ) → Contains (path st).declared d → d.name ≡ name.Local k → length s.head.params ≤ k
  pub given : AreGiven s.text → (given_stmt st).fine ≡ true
  pub sized : AllocateSizes s.text → HasOnlySized s.text.layout st

-- A condition may stand there, in a statement of a mode: if it is not left out it is a well typed scalar, its literals
-- are words and it is safe if those of the text are, and it has no call if the grammar gives the bodies of the text.
pub record IsTestInBody (s : Setting) (mode : Mode) (e : Option NotedExpr) : Type 0 where
  pub typed : IfSome e (rows.IsCondition (globals_of_text s.text) s.variables mode)
  pub words : HaveWords s.text → IfSome e HasWords
  pub safe : AreSafe s.text → IfSome e IsSafe
  pub given : AreGiven s.text → callless_value e ≡ true

-- The next fresh variable has a number after those of the variables of the function, and a word.
abbrev pub IsNextFresh : Setting → ℕ → Type 0
IsNextFresh s n = length s.variables < 2 ^ 32 → (length s.variables ≤ n) × (n < 2 ^ 32)

-- The locals from a number on are no integers, so their variables are fresh ones.
abbrev pub AreFresh : Frame → ℕ → Type 0
AreFresh frame fresh = (k : ℕ) (l : Local) → fresh ≤ k → local_at frame k ≡ Some l → is_integer l.ctype ≡ false
