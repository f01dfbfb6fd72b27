-- The active call and those that wait, as they were judged.
use Rattle.std.specs.Prelude.{◌≡◌, ℕ, List, [], ◌∷◌, map, slice_get, pos, Option, None, Some}
use Rattle.ckc_linear.specs.declared.forms.Base.TheVariants as base
use Rattle.ckc_syntax.specs.declared.tree.Name.{Name}
use Rattle.ckc_syntax.specs.declared.tree.Name.TheVariants as name
use Rattle.ckc_syntax.specs.declared.tree.Init.TheVariants as init
use Rattle.ckc_syntax.specs.declared.tree.Node.{Node-F, out-Node}
use Rattle.ckc_syntax.specs.declared.tree.Act.{Act-F, out-Act}
use Rattle.ckc_typed.specs.declared.typed.Note.{Note}
use Rattle.ckc_typed.specs.declared.typed.Typed.{Typed}
use Rattle.ckc_typed.specs.Trees.{NotedAct, NotedExpr, NotedInit, NotedLayer, NotedStmt}
use Rattle.ckc_bounds.specs.ckc_bounds_points.specs.declared.frame.Frame.{Frame}
use Rattle.ckc_bounds.specs.ckc_bounds_points.specs.declared.frame.HeadBounds.{HeadBounds}
use Rattle.ckc_bounds.specs.ckc_bounds_views.specs.Fresh.{all_fresh}
use Rattle.ckc_bounds.specs.ckc_bounds_views.specs.Parts.{View, capped}
use Rattle.ckc_bounds.specs.ckc_bounds_views.specs.Places.{values_after}
use Rattle.ckc_bounds.specs.ckc_bounds_views.specs.Views.{view}
use Rattle.ckc_bounds.specs.ckc_bounds_statements.specs.Paths.{Here}
use Rattle.ckc_source.specs.declared.stmt.Spot.{Spot}
use Rattle.ckc_source.specs.Blocks.{Block}
use Rattle.ckc_source.specs.Code.{Expr, Call, Function}
use Rattle.ckc_source.specs.Eval.{Store}
use Rattle.ckc_source.specs.States as states
use Rattle.ckc_source.specs.States.{Caller}
use Rattle.ckc_build_elaborate.specs.Functions.{functions_elaborated}
use Rattle.ckc_build_elaborate.specs.Shapes.{shapes_elaborated}
use Rattle.ckc_blame_sound.specs.Settings.{Setting, IsFunction}
use Rattle.ckc_blame_sound.specs.Valuations.{Valuation, IsValuationOf, AreNumbersOf}
use Rattle.ckc_blame_sound.specs.Arguments.{AreArguments}
use Rattle.ckc_blame_sound.specs.Points.{HoldsAt}
use Rattle.ckc_blame_sound.specs.Steps.{IsStep}
use Rattle.ckc_blame_sound.specs.Judged.{Exits, JudgedWork}

-- what the expressions of a call read
abbrev pub store_in : Typed → List Block → states.Frame → Store
store_in p blocks frame = record { shapes = shapes_elaborated p.layout; blocks = blocks; locals = frame.locals }

-- The active call runs a function of the text, what comes next is judged, and the point where it stands holds.
pub record Stands (p : Typed) (blocks : List Block) (frame : states.Frame) (s : Setting) : Type 0 where
  pub function : IsFunction p s frame.function
  pub exits : Exits
  pub work : JudgedWork s frame.work exits
  pub holds : HoldsAt s (store_in p blocks frame) frame.entry exits.ends

-- ---- the arguments of a call

abbrev pub arguments_of_node : NotedLayer → List NotedExpr
arguments_of_node (Node-F.Call n es) = es
arguments_of_node _ = []

abbrev pub arguments_of_expr : NotedExpr → List NotedExpr
arguments_of_expr e = arguments_of_node (out-Node Name Note e.node)

abbrev pub arguments_of_init : NotedInit → List NotedExpr
arguments_of_init (init.One e) = arguments_of_expr e
arguments_of_init _ = []

abbrev pub arguments_of_act : Act-F Name Note NotedAct NotedStmt → List NotedExpr
arguments_of_act (Act-F.Assign e f) = arguments_of_expr f
arguments_of_act (Act-F.Call e) = arguments_of_expr e
arguments_of_act (Act-F.Local d) = arguments_of_init d.init
arguments_of_act _ = []

-- the arguments of the call that a statement is
abbrev pub arguments_of : NotedStmt → List NotedExpr
arguments_of s = arguments_of_act (out-Act Name Note s.body)

-- ---- the head of the function that is called

abbrev pub head_by_name : Frame → Name → Option HeadBounds
head_by_name frame (name.Function k) = slice_get frame.heads k
head_by_name frame n = None

abbrev pub head_of_node : Frame → NotedLayer → Option HeadBounds
head_of_node frame (Node-F.Call n es) = head_by_name frame n
head_of_node frame _ = None

abbrev pub head_of_expr : Frame → NotedExpr → Option HeadBounds
head_of_expr frame e = head_of_node frame (out-Node Name Note e.node)

abbrev pub head_of_init : Frame → NotedInit → Option HeadBounds
head_of_init frame (init.One e) = head_of_expr frame e
head_of_init frame _ = None

abbrev pub head_of_act : Frame → Act-F Name Note NotedAct NotedStmt → Option HeadBounds
head_of_act frame (Act-F.Assign e f) = head_of_expr frame f
head_of_act frame (Act-F.Call e) = head_of_expr frame e
head_of_act frame (Act-F.Local d) = head_of_init frame d.init
head_of_act frame _ = None

-- the head that the call that a statement is is judged by
abbrev pub head_of : Frame → NotedStmt → Option HeadBounds
head_of frame s = head_of_act frame (out-Act Name Note s.body)

-- The arguments of a call stand for what the parameters of another function are entered with, under a valuation of the
-- locals at the point of the call. The fresh variables in them stand for numbers of their types, and the value of the
-- call itself, which is numbered after those in its arguments, for the word n.
pub record ArePassed (s called : Setting) (at : Here) (locals entry : List ℕ) (es : List View) (n : ℕ) : Type 0 where
  pub valuation : Valuation
  pub values : IsValuationOf s locals valuation
  pub arguments : AreArguments s.text.layout valuation at.at.facts called.head.params entry 0 0 es
  pub numbers : AreNumbersOf valuation (capped at.next 1) (all_fresh es at.at)
  pub own : valuation.address (Some (base.Value (values_after 0 es))) ≡ pos n

-- ---- calls that wait

-- A call waits for another one, which was entered with these values: the point of the step that called it holds, what
-- comes after that step is judged, and that was judged by the head of the function that was called; the arguments there
-- stand for these values, whatever word the call will give.
pub record Waits (p : Typed) (blocks : List Block) (caller : Caller) (s called : Setting) (callee : Function)
    (entry : List ℕ) : Type 0 where
  pub function : IsFunction p s caller.frame.function
  pub spot : Spot
  pub number : ℕ
  pub arguments : List Expr
  pub at : Here
  pub exits : Exits
  pub call : IsStep s at (Call spot caller.target number arguments) exits.ends
  pub calls : slice_get (functions_elaborated p) number ≡ Some callee
  pub work : JudgedWork s caller.frame.work exits
  pub holds : HoldsAt s (store_in p blocks caller.frame) caller.frame.entry at
  pub head : head_of s.frame call.before ≡ Some called.head
  pub passed : (n : ℕ)
      → ArePassed s called at caller.frame.locals entry (map (view s.frame) (arguments_of call.before)) n

-- Each call that waits does so for the one in front of it.
unfoldable pub AreWaiting : Typed → List Block → List Caller → Setting → Function → List ℕ → Type 0
AreWaiting p blocks [] called callee entry = Unit {0}
AreWaiting p blocks (caller ∷ callers) called callee entry =
    (s : Setting) × Waits p blocks caller s called callee entry
    × AreWaiting p blocks callers s caller.frame.function caller.frame.entry
