-- What is asked of returns, and of the places that keep results.
use Rattle.std.specs.Prelude.{◌≡◌, ℕ, ◌<◌, ◌^◌, List, slice_set, Option, None, Some}
use Rattle.ckc_base.specs.Memory.{kept_part}
use Rattle.ckc_base.specs.declared.arithmetic.Mode.{Mode}
use Rattle.ckc_base.specs.declared.arithmetic.Width.{Width}
use Rattle.ckc_linear.specs.declared.forms.Form.{Form}
use Rattle.ckc_syntax.specs.declared.tree.Name.{Name}
use Rattle.ckc_syntax.specs.declared.tree.Act.{Act-F, out-Act}
use Rattle.ckc_syntax.specs.declared.tree.Init.TheVariants as init
use Rattle.ckc_types.specs.declared.types.CType.{CType}
use Rattle.ckc_types.specs.declared.types.CType.TheVariants as ctype
use Rattle.ckc_typed.specs.declared.typed.Note.{Note}
use Rattle.ckc_typed.specs.declared.typed.Typed.{Typed}
use Rattle.ckc_typed.specs.Trees.{NotedAct, NotedExpr, NotedInit, NotedStmt}
use Rattle.ckc_typed.specs.Types.{type_written}
use Rattle.ckc_blame_sound.specs.ckc_bounds_points.specs.declared.frame.Bounds.TheVariants as bounds
use Rattle.ckc_blame_sound.specs.ckc_bounds_points.specs.Flow.{State as Point}
use Rattle.ckc_blame_sound.specs.ckc_bounds_points.specs.Shown.{Known}
use Rattle.ckc_blame_sound.specs.ckc_bounds_views.specs.Views.{view}
use Rattle.ckc_blame_sound.specs.ckc_bounds_statements.specs.Paths.{Here}
use Rattle.ckc_blame_sound.specs.ckc_bounds_stores.specs.declared.values.Numbered.{Numbered}
use Rattle.ckc_source.specs.declared.expr.Limits.{Limits}
use Rattle.ckc_source.specs.declared.stmt.Kept.{Kept}
use Rattle.ckc_source.specs.declared.stmt.Kept.TheVariants as kept
use Rattle.ckc_source.specs.declared.stmt.Spot.{Spot}
use Rattle.ckc_source.specs.Blocks.{Block, stored}
use Rattle.ckc_source.specs.Code.{Expr, Function, Call}
use Rattle.ckc_source.specs.Eval.{Store}
use Rattle.ckc_source.specs.States as states
use Rattle.ckc_build_elaborate.specs.Shapes.{shapes_elaborated}
use Rattle.ckc_build_values.specs.Expressions.{expr_elaborated}
use Rattle.ckc_blame_sound.specs.Settings.{Setting, IsFunction}
use Rattle.ckc_blame_sound.specs.Valuations.{Valuation, IsValuationOf}
use Rattle.ckc_blame_sound.specs.Points.{HoldsAt}
use Rattle.ckc_blame_sound.specs.Steps.{IsStep}
use Rattle.ckc_blame_sound.specs.Calls.{store_in}
use Rattle.ckc_blame_sound.specs.Slots.{AreFilled}
use Rattle.ckc_blame_sound.specs.Cells.{AreSound}
use Rattle.ckc_blame_sound.specs.GivenValues.{memory_of, IsFrom}
use Rattle.ckc_blame_control.specs.Kept.{KeepRanges}
use Rattle.ckc_blame_steps.specs.Arguments.{GivesWord}

-- ---- what is returned

-- what a statement returns
abbrev pub returned_by_act : Act-F Name Note NotedAct NotedStmt → Option NotedExpr
returned_by_act (Act-F.Return e) = e
returned_by_act a = None

abbrev pub returned_by : NotedStmt → Option NotedExpr
returned_by st = returned_by_act (out-Act Name Note st.body)

-- What is returned gives a word, if there is something. The second expression is what judging makes of the first.
abbrev pub GivesWordIf : Mode → Setting → Store → Point → ℕ → Option NotedExpr → Option NotedExpr → Numbered → Type 0
GivesWordIf m s store at k (Some e) (Some f) from =
    GivesWord m s store at e (expr_elaborated s.text s.variables k f) from
GivesWordIf m s store at k _ _ from = Unit {0}

-- The bounds of each result that a program reads are known to the judgement.
abbrev pub ResultsAreKnown : Typed → Type 0
ResultsAreKnown p =
    (s : Setting) (f : Function) (limits : Limits) → IsFunction p s f → f.result ≡ Some limits
    → (low : Form) × (high : Form) × (s.head.bounds ≡ bounds.Known low high)

-- ---- what keeps a result

-- the expression whose value a statement keeps or drops, and the type of the place that keeps it
abbrev pub value_of_init : NotedInit → Option NotedExpr
value_of_init (init.One e) = Some e
value_of_init i = None

abbrev pub value_of_act : Act-F Name Note NotedAct NotedStmt → Option NotedExpr
value_of_act (Act-F.Assign e f) = Some f
value_of_act (Act-F.Call e) = Some e
value_of_act (Act-F.Local d) = value_of_init d.init
value_of_act a = None

abbrev pub value_of : NotedStmt → Option NotedExpr
value_of st = value_of_act (out-Act Name Note st.body)

-- the type of the place that keeps it; if nothing does, that of the value
abbrev pub type_of_act : Act-F Name Note NotedAct NotedStmt → CType
type_of_act (Act-F.Assign e f) = e.note.ctype
type_of_act (Act-F.Call e) = e.note.ctype
type_of_act (Act-F.Local d) = type_written d.ctype
type_of_act a = ctype.Void

abbrev pub type_of : NotedStmt → CType
type_of st = type_of_act (out-Act Name Note st.body)

-- What is known of the word n that a call gives to a place of type t at a point, under a valuation of the locals: what
-- an expression gives to a pointer, and that it has no form.
pub record IsResultGiven (s : Setting) (store : Store) (v : Valuation) (here : Here) (t : CType) (e : NotedExpr)
    (n : ℕ) : Type 0 where
  pub values : IsValuationOf s store.locals v
  pub word : n < 2 ^ 32
  pub from : IsFrom s.frame (memory_of s store t) v t e (record { value = 0; fresh = here.next }) here.at n
  pub form : (facts : Known) → (view s.frame e).form facts ≡ None

-- the locals of a call after a result is kept
abbrev pub kept_in : Option Kept → ℕ → states.Frame → states.Frame
kept_in (Some (kept.Local x width)) n frame =
    record frame { locals = slice_set frame.locals x (kept_part width n) }
kept_in _ n frame = frame

-- A call of a step at a point that holds gives such a word.
pub record IsResultOf (p : Typed) (blocks : List Block) (frame : states.Frame) (s : Setting) (here there : Here)
    (spot : Spot) (target : Option Kept) (number : ℕ) (es : List Expr) (n : ℕ) : Type 0 where
  pub step : IsStep s here (Call spot target number es) there
  pub holds : HoldsAt s (store_in p blocks frame) frame.entry here
  pub call : NotedExpr
  pub is : value_of step.before ≡ Some call
  pub valuation : Valuation
  pub given : IsResultGiven s (store_in p blocks frame) valuation here (type_of step.before) call n

-- The point after each such step holds once the result is kept.
abbrev pub ResultsLeadOn : Typed → Type 0
ResultsLeadOn p =
    (blocks : List Block) (frame : states.Frame) (s : Setting) (here there : Here) (spot : Spot) (target : Option Kept)
    (number : ℕ) (es : List Expr) (n next : ℕ) → IsFunction p s frame.function → AreSound p blocks next
    → IsResultOf p blocks frame s here there spot target number es n
    → HoldsAt s (store_in p blocks (kept_in target n frame)) frame.entry there

-- A result is written to memory: no block moves, and each checked pointer in memory may be read.
pub record IsKeptInMemory (p : Typed) (blocks : List Block) (frame : states.Frame) (next a n : ℕ) (width : Width)
    : Type 0 where
  pub after : List Block
  pub written : stored width a n blocks ≡ Some after
  pub ranges : KeepRanges (shapes_elaborated p.layout) blocks after
  pub sound : AreSound p after next
  pub filled : AreFilled p (store_in p after frame)

-- Each result that goes to a static object is so.
abbrev pub ObjectsKeepResults : Typed → Type 0
ObjectsKeepResults p =
    (blocks : List Block) (frame : states.Frame) (s : Setting) (here there : Here) (spot : Spot) (a : ℕ) (width : Width)
    (number : ℕ) (es : List Expr) (n next : ℕ) → IsFunction p s frame.function → AreSound p blocks next
    → AreFilled p (store_in p blocks frame)
    → IsResultOf p blocks frame s here there spot (Some (kept.Static a width)) number es n
    → IsKeptInMemory p blocks frame next a n width
