-- What is written to locals, and what is known of it.
use Rattle.std.specs.Prelude.{◌≡◌, ℕ, ◌<◌, ◌^◌, true, false, List, [], ◌∷◌, length, Option, None, Some}
use Rattle.ckc_types.specs.declared.types.CType.{CType}
use Rattle.ckc_linear.specs.declared.forms.Form.{Form}
use Rattle.ckc_syntax.specs.declared.tree.Init.TheVariants as init
use Rattle.ckc_syntax.specs.declared.tree.Name.TheVariants as name
use Rattle.ckc_typed.specs.Trees.{NotedDecl, NotedExpr, NotedInit, NotedStmt}
use Rattle.ckc_typed.specs.Types.{is_char, is_pointer, type_written}
use Rattle.ckc_blame_sound.specs.ckc_bounds_points.specs.declared.frame.Local.{Local}
use Rattle.ckc_blame_sound.specs.ckc_bounds_points.specs.Frames.{local_at}
use Rattle.ckc_blame_sound.specs.ckc_bounds_points.specs.Shown.{Known}
use Rattle.ckc_blame_sound.specs.ckc_bounds_points.specs.Flow.{State, in_bounds}
use Rattle.ckc_blame_sound.specs.ckc_bounds_points.specs.Forms.{in_type}
use Rattle.ckc_blame_sound.specs.ckc_bounds_ranges.specs.Bundles.{is_bundle}
use Rattle.ckc_blame_sound.specs.ckc_bounds_views.specs.Views.{view}
use Rattle.ckc_blame_sound.specs.ckc_bounds_stores.specs.declared.values.Numbered.{Numbered}
use Rattle.ckc_blame_sound.specs.ckc_bounds_stores.specs.Stores.{Placed}
use Rattle.ckc_blame_sound.specs.ckc_bounds_stores.specs.Targets.{local_of}
use Rattle.ckc_blame_sound.specs.ckc_bounds_statements.specs.Paths.{Here}
use Rattle.ckc_source.specs.declared.outcome.Place.{Place}
use Rattle.ckc_source.specs.declared.outcome.Place.TheVariants as place
use Rattle.ckc_source.specs.Eval.{Store}
use Rattle.ckc_source.specs.Steps.{Write}
use Rattle.ckc_build_values.specs.Kinds.{width_of}
use Rattle.ckc_blame_sound.specs.Settings.{Setting}
use Rattle.ckc_blame_sound.specs.Values.{number_of}
use Rattle.ckc_blame_sound.specs.Valuations.{Valuation, AreFacts}
use Rattle.ckc_blame_sound.specs.GivenValues.{memory_of, IsFrom, IsUnnamed}
use Rattle.ckc_blame_sound.specs.Elements.{number_kept}

-- Assignments are judged as one: a single one, or those of a bundle.
abbrev pub AreOne : List NotedStmt → Type 0
AreOne (st ∷ []) = Unit {0}
AreOne ss = is_bundle ss ≡ true

-- An assignment is typed: a local that it assigns is one of the variables of the function, and what a `char` gets is no
-- pointer.
pub record IsFitting (s : Setting) (p : Placed) : Type 0 where
  pub below : (k : ℕ) → local_of p.target ≡ Some k → k < length s.variables
  pub bare : is_char p.target.note.ctype ≡ true → is_pointer p.right.note.ctype ≡ false

-- What is known of the word n that an expression gives to a place of type t, whatever it comes from: what an expression
-- gives to a pointer; wherever facts are true, the form of the expression in that type is the number that the place has
-- then; and what a `char` gets is no pointer.
pub record IsReceived (s : Setting) (store : Store) (v : Valuation) (at : State) (t : CType) (e : NotedExpr)
    (from : Numbered) (n : ℕ) : Type 0 where
  pub word : n < 2 ^ 32
  pub gives : IsFrom s.frame (memory_of s store t) v t e from at n
  pub form : (facts : Known) (f : Form) → AreFacts v facts → in_type facts t ((view s.frame e).form facts) ≡ Some f
      → number_of v.number f ≡ number_kept t n
  pub bare : is_char t ≡ true → is_pointer e.note.ctype ≡ false

-- An assignment writes such a word to the local k, one of the variables of the function.
pub record IsLocalWritten (s : Setting) (store : Store) (v : Valuation) (at : State) (p : Placed) (k : ℕ) (w : Write)
    : Type 0 where
  pub local : Local
  pub there : local_at s.frame k ≡ Some local
  pub below : k < length s.variables
  pub same : p.target.note.ctype ≡ local.ctype
  pub goes : w.0 ≡ place.Local k (width_of local.ctype)
  pub received : IsReceived s store v at p.target.note.ctype p.right p.from w.1

-- a place that is no local
abbrev pub IsNoLocal : Place → Type 0
IsNoLocal (place.Local k width) = ⊥
IsNoLocal _ = Unit {0}

-- An assignment to a local writes such a word to it, and another one writes to no local.
abbrev pub IsWritten : Setting → Store → Valuation → State → Placed → Option ℕ → Write → Type 0
IsWritten s store v at p (Some k) w = IsLocalWritten s store v at p k w
IsWritten s store v at p None w = IsNoLocal w.0

-- this of each assignment
unfoldable pub AreWritten : Setting → Store → Valuation → State → List Placed → List Write → Type 0
AreWritten s store v at [] [] = Unit {0}
AreWritten s store v at (p ∷ ps) (w ∷ ws) =
    IsWritten s store v at p (local_of p.target) w × AreWritten s store v at ps ws
AreWritten s store v at _ _ = ⊥

-- A local of type t begins with the word n: 0 if no initialiser is written, and else what the initialiser gives. No
-- local has a list in braces.
abbrev pub IsStart : Setting → Store → Valuation → State → CType → NotedInit → ℕ → ℕ → Type 0
IsStart s store v at t init.Nothing fresh n = n ≡ 0
IsStart s store v at t (init.One e) fresh n = IsReceived s store v at t e (record { value = 0; fresh = fresh }) n
IsStart s store v at t (init.Many es) fresh n = ⊥

-- A declaration of the local k with its type, one of the variables of the function. The bounds of no local in scope
-- name it, and neither do those of the result.
pub record IsDeclared (s : Setting) (here : Here) (d : NotedDecl) (k : ℕ) (l : Local) : Type 0 where
  pub name_is : d.name ≡ name.Local k
  pub there : local_at s.frame k ≡ Some l
  pub same : l.ctype ≡ type_written d.ctype
  pub below : k < length s.variables
  pub unnamed : IsUnnamed s here.seen k
  pub spared : in_bounds k s.head.bounds ≡ false
