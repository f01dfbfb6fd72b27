-- The names that are visible at a point of a function, and statements whose names are visible there.
use Rattle.std.specs.Prelude.{◌≡◌, ℕ, ◌<◌, true, false, List, [], ◌∷◌, ◌++◌, length}
use Rattle.std.specs.List.{list_any, Contains}
use Rattle.std.specs.Option.{option_map}
use Rattle.ckc_syntax.specs.declared.tree.Name.{Name}
use Rattle.ckc_syntax.specs.declared.tree.Name.TheVariants as name
use Rattle.ckc_typed.specs.Environment.{same_name}
use Rattle.ckc_typed.specs.Trees.{NotedDecl, NotedStmt}
use Rattle.ckc_typed_welltyped.specs.Noteless.{bare_limits, bare_stmt, without_notes}
use Rattle.ckc_resolve.specs.Trees.{NamedItem}
use Rattle.ckc_typed_fit.specs.Tests.{Tests, Walked, bounds_pass, walked}
use Rattle.ckc_typed_fit.specs.Visible.{is_visible, is_declared_member}
use Rattle.ckc_blame_sound.specs.ckc_bounds_points.specs.Frames.{local_at}
use Rattle.ckc_blame_sound.specs.ckc_bounds_points.specs.Flow.{in_bounds_of}
use Rattle.ckc_blame_sound.specs.ckc_bounds_statements.specs.Paths.{path}
use Rattle.ckc_blame_sound.specs.Settings.{Setting}
use Rattle.ckc_blame_sound.specs.ckc_bounds.specs.Frames.{name_seen}

-- what is asked of the names in a text with these items: each is visible where it stands
abbrev pub tests_of : List NamedItem → Tests
tests_of items = record { name = is_visible items; member = is_declared_member items; tag = λ n. true }

-- the items of the text of a function, without notes
abbrev pub items_of : Setting → List NamedItem
items_of s = (without_notes s.text.tree).items

-- the names that a statement leaves visible, and whether its own are visible if some are
abbrev pub scope_of : List NamedItem → NotedStmt → Walked
scope_of items st = walked (tests_of items) (bare_stmt st)

-- The local k is among some names.
abbrev pub HasLocal : List Name → ℕ → Type 0
HasLocal visible k = list_any (same_name (name.Local k)) visible ≡ true

-- Where some names are visible and some locals are in scope: the locals among these names are in scope, each local in
-- scope is a variable of the function and one of those that are declared so far, and so are the locals that its bounds
-- name.
pub record IsScope (s : Setting) (visible : List Name) (past : List ℕ) (seen : List ℕ) : Type 0 where
  pub sees : (k : ℕ) → HasLocal visible k → Contains seen k
  pub few : (j : ℕ) → Contains seen j → j < length s.variables
  pub declared : (j : ℕ) → Contains seen j → Contains past j
  pub bounds : (j k : ℕ) → Contains seen j → (Contains past k → ⊥) → in_bounds_of k (local_at s.frame j) ≡ false

-- The bounds that the frame has of the local that is declared name no other locals than the declaration does, whatever
-- is visible there.
abbrev pub HasOwnBounds : Setting → NotedDecl → Type 0
HasOwnBounds s d =
    (k j : ℕ) (visible : List Name) → d.name ≡ name.Local k → HasLocal visible k
    → bounds_pass (tests_of (items_of s)) visible (option_map bare_limits d.bounds) ≡ true
    → in_bounds_of j (local_at s.frame k) ≡ true → HasLocal visible j

-- the numbers that are declared after some and some more declarations
abbrev pub with_declared : List ℕ → List NotedDecl → List ℕ
with_declared past [] = past
with_declared past (d ∷ ds) = with_declared (past ++ name_seen d) ds

-- what is declared are locals with numbers below a count, each one that was not declared before it
abbrev pub AreNew : ℕ → List ℕ → List NotedDecl → Type 0
AreNew count past [] = Unit {0}
AreNew count past (d ∷ ds) = ((k : ℕ) × (d.name ≡ name.Local k) × (k < count) × (Contains past k → ⊥)) × AreNew count (past ++ name_seen d) ds

-- What is declared are variables of the function, each declared once.
pub record AreNext (s : Setting) (past : List ℕ) (ds : List NotedDecl) : Type 0 where
  pub numbers : AreNew (length s.variables) past ds
  pub own : (d : NotedDecl) → Contains ds d → HasOwnBounds s d

-- The names in a statement are visible where it stands, and the locals that it declares are new.
pub record IsScoped (s : Setting) (st : NotedStmt) (seen : List ℕ) : Type 0 where
  pub visible : List Name
  pub past : List ℕ
  pub scope : IsScope s visible past seen
  pub passes : (scope_of (items_of s) st).passes visible ≡ true
  pub declares : AreNext s past (path st).declared
