-- What evaluation gives to what is assigned.
use Rattle.std.specs.Prelude.{◌≡◌, ◌≢◌, ℕ, true, false, pos, List, slice_index, Option, None, Some}
use Rattle.std.specs.List.{find, Contains}
use Rattle.ckc_linear.specs.declared.forms.Form.{Form}
use Rattle.ckc_syntax.specs.declared.tree.Init.TheVariants as init
use Rattle.ckc_types.specs.declared.types.CType.{CType}
use Rattle.ckc_typed.specs.Trees.{NotedExpr, NotedInit}
use Rattle.ckc_bounds.specs.ckc_bounds_points.specs.declared.frame.Local.{Local}
use Rattle.ckc_bounds.specs.ckc_bounds_points.specs.declared.frame.Frame.{Frame}
use Rattle.ckc_bounds.specs.ckc_bounds_points.specs.Shown.{Known}
use Rattle.ckc_bounds.specs.ckc_bounds_points.specs.Frames.{local_at}
use Rattle.ckc_bounds.specs.ckc_bounds_points.specs.Flow.{State, in_bounds_of}
use Rattle.ckc_bounds.specs.ckc_bounds_views.specs.Parts.{capped}
use Rattle.ckc_bounds.specs.ckc_bounds_views.specs.Views.{view}
use Rattle.ckc_bounds.specs.ckc_bounds_stores.specs.declared.values.Numbered.{Numbered}
use Rattle.ckc_bounds.specs.ckc_bounds_stores.specs.Values.{narrow, has_element, range_received}
use Rattle.ckc_bounds.specs.ckc_bounds_stores.specs.Stores.{Placed, received, place_of, assigns_local, initialised}
use Rattle.ckc_source.specs.Eval.{Store}
use Rattle.ckc_source.specs.Runs.{is_true}
use Rattle.ckc_source.specs.Words.{exact}
use Rattle.ckc_source.specs.declared.expr.Pointee.{Pointee}
use Rattle.ckc_build_values.specs.Kinds.{integer_of, size_behind, pointee_of}
use Rattle.ckc_blame_sound.specs.Settings.{Setting}
use Rattle.ckc_blame_sound.specs.Values.{number_of}
use Rattle.ckc_blame_sound.specs.Valuations.{Valuation, form_address, AreFacts, AreNumbersOf}
use Rattle.ckc_blame_sound.specs.Containment.{Memory, IsRanged}

-- what a pointer of a type points to, in what expressions read
abbrev pub memory_of : Setting → Store → CType → Memory
memory_of s store t = record { shapes = store.shapes; blocks = store.blocks; to = pointee_of s.text.layout t }

-- What is known of the word n that an expression gives to a place of type t: it is null if the expression is; it may be
-- read within the range of the expression; and if it is not null, fresh variables stand for numbers of their types.
pub record IsNew (frame : Frame) (m : Memory) (v : Valuation) (t : CType) (e : NotedExpr) (from : Numbered)
    (at : State) (n : ℕ) : Type 0 where
  pub null : (view frame e).null ≡ true → n ≡ 0
  pub ranged : IsRanged m v n (range_received frame t e from at) (range_received frame t e from (narrow at))
      (has_element t (view frame e).allocates)
  pub fresh : n ≢ 0 → AreNumbersOf v (capped from.fresh 1) ((view frame e).fresh at)

-- What is known of the word n that an expression gives to a pointer of type t: wherever facts are true the place of the
-- expression is its address; and what is known of a new value.
pub record IsFrom (frame : Frame) (m : Memory) (v : Valuation) (t : CType) (e : NotedExpr) (from : Numbered)
    (at : State) (n : ℕ) : Type 0 where
  pub place : (facts : Known) (f : Form) → AreFacts v facts → (view frame e).place from.value facts ≡ Some f
      → form_address v m.to.size f ≡ pos n
  pub value : IsNew frame m v t e from at n

-- What is known of the word n that an assignment gives to a local: wherever facts are true, the place of the right side
-- is its address, and the form of that in the type of the local is its number; and what is known of a new value.
pub record IsGiven (s : Setting) (store : Store) (v : Valuation) (at : State) (l : Local) (p : Placed) (n : ℕ)
    : Type 0 where
  pub ctype : p.target.note.ctype ≡ l.ctype
  pub place : (facts : Known) (f : Form) → AreFacts v facts → place_of s.frame facts p ≡ Some f
      → form_address v (size_behind s.text.layout l.ctype) f ≡ pos n
  pub form : (facts : Known) (f : Form) → AreFacts v facts → received s.frame facts p ≡ Some f
      → number_of v.number f ≡ exact (integer_of l.ctype) n
  pub value : IsNew s.frame (memory_of s store l.ctype) v l.ctype p.right p.from at n

-- A local gets what an assignment gives, and keeps its value if there is none.
abbrev pub IsAssigned : Setting → Store → Valuation → State → Option Placed → Option Local → ℕ → ℕ → Type 0
IsAssigned s store v at None l old new = new ≡ old
IsAssigned s store v at (Some p) (Some l) old new = IsGiven s store v at l p new
IsAssigned s store v at (Some p) None old new = Unit {0}

-- Each local gets what the first assignment to it gives, and the others keep their values; the second store is the one
-- after that.
abbrev pub AreAssigned : Setting → Store → Store → Valuation → State → List Placed → Type 0
AreAssigned s before after v at ps =
    (k : ℕ) → IsAssigned s after v at (find (assigns_local k) ps) (local_at s.frame k)
    (slice_index before.locals k) (slice_index after.locals k)

-- Each range that is true in a store is true in another one.
abbrev pub StayTrue : Store → Store → Type 0
StayTrue before after = (to : Pointee) (n low high : ℕ) → is_true before.shapes before.blocks to n low high ≡ true
    → is_true after.shapes after.blocks to n low high ≡ true

-- The other locals keep their values, if one is declared.
abbrev pub OthersStay : List ℕ → List ℕ → ℕ → Type 0
OthersStay before after k = (j : ℕ) → j ≢ k → slice_index after j ≡ slice_index before j

-- The word n that a local begins with is 0 if no initialiser is written, and else what the initialiser gives, which is
-- contained in the bounds of the local k.
abbrev pub IsBegun : Setting → Store → Valuation → State → ℕ → Local → NotedInit → ℕ → ℕ → Type 0
IsBegun s store v at k l init.Nothing fresh n = n ≡ 0
IsBegun s store v at k l (init.One e) fresh n =
    IsFrom s.frame (memory_of s store l.ctype) v l.ctype e (record { value = 0; fresh = fresh }) at n
    × (initialised s.frame k e fresh at ≡ true)
IsBegun s store v at k l (init.Many es) fresh n = ⊥

-- The bounds of no local in scope name the local k.
abbrev pub IsUnnamed : Setting → List ℕ → ℕ → Type 0
IsUnnamed s seen k = (j : ℕ) → Contains seen j → in_bounds_of k (local_at s.frame j) ≡ false
