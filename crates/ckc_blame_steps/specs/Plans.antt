-- What assignments that are judged at a point become, and what it is to plan them.
use Rattle.std.specs.Prelude.{◌≡◌, ℕ, ◌+◌, ◌<◌, ◌^◌, true, List, [], ◌∷◌, ◌++◌, length, Option, None, Some, Ok}
use Rattle.ckc_base.specs.declared.arithmetic.Mode.{Mode}
use Rattle.ckc_types.specs.declared.types.CType.{CType}
use Rattle.ckc_syntax.specs.declared.tree.Name.{Name}
use Rattle.ckc_syntax.specs.declared.tree.Node.{Node-F, out-Node}
use Rattle.ckc_syntax.specs.declared.tree.Act.{Act-F, out-Act}
use Rattle.ckc_typed.specs.declared.typed.Note.{Note}
use Rattle.ckc_typed.specs.declared.environment.Globals.{Globals}
use Rattle.ckc_typed.specs.declared.typed.Typed.{Typed}
use Rattle.ckc_typed.specs.Conversions.{converts}
use Rattle.ckc_typed.specs.Statics.{strings_of_expr}
use Rattle.ckc_typed.specs.Trees.{NotedAct, NotedExpr, NotedLayer, NotedStmt}
use Rattle.ckc_blame_sound.specs.ckc_bounds_views.specs.Parts.{capped, fresh_behind}
use Rattle.ckc_blame_sound.specs.ckc_bounds_views.specs.Views.{view}
use Rattle.ckc_blame_sound.specs.ckc_bounds_statements.specs.Paths.{Here}
use Rattle.ckc_blame_sound.specs.ckc_bounds_stores.specs.declared.values.Numbered.{Numbered}
use Rattle.ckc_blame_sound.specs.ckc_bounds_stores.specs.Stores.{Placed}
use Rattle.ckc_source.specs.declared.program.Shape.{Shape}
use Rattle.ckc_source.specs.Blocks.{Block}
use Rattle.ckc_source.specs.Code.{Target, Right, Code, Function}
use Rattle.ckc_source.specs.States.{State}
use Rattle.ckc_source.specs.Steps.{Drawn, Planned, drawn, store_of}
use Rattle.ckc_build_elaborate.specs.Shapes.{shapes_elaborated}
use Rattle.ckc_build_elaborate.specs.Steps.{target_of, right_of, is_terminated}
use Rattle.ckc_blame_sound.specs.Bodies.{AreFresh}
use Rattle.ckc_blame_sound.specs.Points.{HoldsAt}
use Rattle.ckc_blame_sound.specs.Settings.{Setting, AreStrings, IsFunction}
use Rattle.ckc_blame_sound.specs.Steps.{IsStep}
use Rattle.ckc_blame_sound.specs.Slots.{AreFilled}
use Rattle.ckc_blame_sound.specs.Valuations.{Valuation, IsValuationOf}
use Rattle.ckc_blame_sound.specs.Typed.{IsTyped}
use Rattle.ckc_blame_sound.specs.JudgedTexts.{globals_in}
use Rattle.ckc_blame_given.specs.ckc_blame_pointers.specs.Covered.{IsSoundStore, IsCovered}
use Rattle.ckc_blame_given.specs.ckc_blame_pointers.specs.Owed.{Comes}
use Rattle.ckc_blame_given.specs.Gives.{Continues}
use Rattle.ckc_blame_given.specs.Planned.{ArePlanned}
use Rattle.ckc_blame_given.specs.Written.{IsReceived}
use Rattle.ckc_blame_given.specs.Together.{AreIn}
use Rattle.ckc_blame_steps.specs.Granted.{HasRoom, HasPlaces}

-- ---- what assignments become

-- An assignment becomes a target and a right side, whose string literals are the static objects from two numbers on.
pub record BecomesSides (s : Setting) (e f : NotedExpr) (a : Target × Right) : Type 0 where
  pub first : ℕ
  pub second : ℕ
  pub target : a.0 ≡ target_of s.text s.variables first e
  pub right : a.1 ≡ right_of s.text s.variables second (is_terminated e.note.ctype) f
  pub target_strings : AreStrings s first (strings_of_expr e)
  pub right_strings : AreStrings s second (strings_of_expr f)

abbrev pub BecomesPart : Setting → Act-F Name Note NotedAct NotedStmt → (Target × Right) → Type 0
BecomesPart s (Act-F.Assign e f) a = BecomesSides s e f a
BecomesPart s x a = ⊥

-- this of each of some assignments
unfoldable pub BecomeParts : Setting → List NotedStmt → List (Target × Right) → Type 0
BecomeParts s [] [] = Unit {0}
BecomeParts s (st ∷ sts) (a ∷ others) = BecomesPart s (out-Act Name Note st.body) a × BecomeParts s sts others
BecomeParts s _ _ = ⊥

-- ---- states in which a step is planned

-- A point holds of a state whose blocks are sound and whose pointers may be read.
pub record IsAt (s : Setting) (shapes : List Shape) (entry : List ℕ) (here : Here) (b : State) : Type 0 where
  pub holds : HoldsAt s (store_of shapes b) entry here
  pub ready : IsSoundStore s (store_of shapes b) b.next
  pub filled : AreFilled s.text (store_of shapes b)

-- A state is another one with more blocks.
pub record HasMore (b c : State) : Type 0 where
  pub more : List Block
  pub blocks : c.blocks ≡ b.blocks ++ more
  pub same : c ≡ record b { blocks = c.blocks; next = c.next }

-- ---- what is drawn and planned

-- A word goes to a place of type t under a valuation that continues another one, and under each that continues that past
-- the numbers of the expression.
pub record IsDrawnOn (s : Setting) (shapes : List Shape) (here : Here) (t : CType) (e : NotedExpr) (from : Numbered)
    (before : Valuation) (d : Drawn) : Type 0 where
  pub after : Valuation
  pub values : IsValuationOf s d.state.frame.locals after
  pub continues : Continues from.value from.fresh before after
  pub received : (later : Valuation) → IsValuationOf s d.state.frame.locals later
      → Continues (capped from.value (view s.frame e).values) (fresh_behind (view s.frame e) from.fresh here.at) after
      later
      → IsReceived s (store_of shapes d.state) later here.at t e from d.number

-- A right side gives a word to a place of type t, in a state that has perhaps more blocks, whatever is known of the
-- numbers before those of the expression.
pub record IsDrawn (s : Setting) (shapes : List Shape) (entry : List ℕ) (here : Here) (b : State) (t : CType)
    (e : NotedExpr) (d : Drawn) : Type 0 where
  pub grown : HasMore b d.state
  pub at : IsAt s shapes entry here d.state
  pub gives : (from : Numbered) (before : Valuation) → HasRoom s.frame here.at from.value from.fresh e
      → AreFresh s.frame from.fresh → IsValuationOf s d.state.frame.locals before
      → IsDrawnOn s shapes here t e from before d

-- What assignments are going to write is planned under one valuation, in a state that has perhaps more blocks.
pub record IsSoundPlan (s : Setting) (shapes : List Shape) (entry : List ℕ) (here : Here) (b : State)
    (ps : List Placed) (value fresh : ℕ) (before : Valuation) (plan : Planned) : Type 0 where
  pub grown : HasMore b plan.state
  pub at : IsAt s shapes entry here plan.state
  pub after : Valuation
  pub values : IsValuationOf s plan.state.frame.locals after
  pub continues : Continues value fresh before after
  pub planned : ArePlanned s (store_of shapes plan.state) (store_of shapes plan.state) after here.at ps plan.writes
  pub lies : AreIn s plan.state.frame.locals ps plan.writes

-- ---- what is granted of `calloc`

-- what a `calloc` counts
abbrev pub counted_in : NotedLayer → Option NotedExpr
counted_in (Node-F.Calloc w n u) = Some n
counted_in node = None

-- Each `calloc` on a right side gives a null pointer or a new block, which have the range that it is judged to have.
abbrev pub AllocationsDraw : Mode → Globals → Setting → List Shape → List ℕ → Here → Type 0
AllocationsDraw m globals s shapes entry here =
    (b : State) → IsAt s shapes entry here b → (t : CType) (f g n : NotedExpr)
    (fresh literals : ℕ) → counted_in (out-Node Name Note g.node) ≡ Some n → IsTyped globals s f → converts t f ≡ true
    → HasPlaces s t → (view s.frame f).judged fresh here.at ≡ Ok g
    → fresh + length ((view s.frame g).fresh here.at) < 2 ^ 32 → AreFresh s.frame fresh
    → IsCovered m s (store_of shapes b) here.seen n → AreStrings s literals (strings_of_expr n)
    → Comes m (IsDrawn s shapes entry here b t g)
    (drawn shapes b (right_of s.text s.variables literals (is_terminated t) g))

-- this at each step of a text
abbrev pub AllocateSoundly : Typed → Type 0
AllocateSoundly p =
    (m : Mode) (s : Setting) (f : Function) (here there : Here) (step : Code → Code) (entry : List ℕ)
    → IsFunction p s f → IsStep s here step there → AllocationsDraw m (globals_in p) s (shapes_elaborated p.layout) entry here
