-- Statements: what is judged on the way through them, and what is known after them (Checked C specification 0.9,
-- section 3, on the checking of bounds; ISO C11, 6.8).
use Rattle.std.specs.Prelude.{ℕ, Bool, true, false, not, ◌==◌, ◌||◌, if◌then◌else◌, pos, List, [], ◌∷◌, ◌++◌, map, take, length, Option, None, Some, Ok}
use Rattle.ckc_base.specs.declared.places.Pos.{Pos}
use Rattle.ckc_base.specs.declared.arithmetic.Mode.{Mode}
use Rattle.ckc_base.specs.Outcomes.{Outcome, bind, unless, refused, in_turn}
use Rattle.ckc_types.specs.declared.types.CType.{CType}
use Rattle.ckc_linear.specs.declared.forms.Form.{Form}
use Rattle.ckc_syntax.specs.Inside.{listed, one_has, inside_if, inside_init, inside_act, inside_run}
use Rattle.ckc_syntax.specs.declared.tree.Name.{Name}
use Rattle.ckc_syntax.specs.declared.tree.Name.TheVariants as name
use Rattle.ckc_syntax.specs.declared.tree.Init.TheVariants as init
use Rattle.ckc_syntax.specs.declared.tree.Node.{Node-F, out-Node}
use Rattle.ckc_syntax.specs.declared.tree.Act.{Act-F, fold-Act}
use Rattle.ckc_syntax.specs.declared.tree.Act.TheVariants as act
use Rattle.ckc_syntax.specs.declared.tree.Stmt.{Stmt-F, fold-Stmt}
use Rattle.ckc_typed.specs.declared.typed.Note.{Note}
use Rattle.ckc_typed.specs.Trees.{NotedAct, NotedStmt, NotedExpr, NotedDecl, NotedInit}
use Rattle.ckc_typed.specs.Types.{type_written}
use Rattle.ckc_bounds_points.specs.declared.frame.Bounds.{Bounds}
use Rattle.ckc_bounds_points.specs.declared.frame.Bounds.TheVariants as bounds
use Rattle.ckc_bounds_points.specs.declared.frame.HeadBounds.{HeadBounds}
use Rattle.ckc_bounds_points.specs.declared.frame.Frame.{Frame}
use Rattle.ckc_bounds_points.specs.Shown.{Known}
use Rattle.ckc_bounds_points.specs.Flow.{State, less, assigned, joined, unreached}
use Rattle.ckc_bounds_points.specs.Forms.{constant_form, in_type}
use Rattle.ckc_bounds_views.specs.Parts.{fresh_behind}
use Rattle.ckc_bounds_points.specs.Codes.{not_contained, bad_bundle}
use Rattle.ckc_bounds_views.specs.Views.{view}
use Rattle.ckc_bounds_ranges.specs.Bundles.{is_bundle}
use Rattle.ckc_bounds_stores.specs.Stores.{stores_of, stored, passed, initialised, returned}
use Rattle.ckc_bounds_statements.specs.DeclBounds.{bounds_there}

-- Where a walk through a function stands: the locals in scope, in order, the point, and the number of the next fresh
-- variable. A first walk is only counting these: it leaves expressions as they are, and passes over what is wrong.
pub record Here : Type 0 where
  pub seen : List ℕ
  pub at : State
  pub next : ℕ
  pub counting : Bool

-- an expression with the ranges of its pointers noted, or its first error; the first walk leaves it as it is
abbrev pub expr_judged : Frame → NotedExpr → Here → Outcome NotedExpr
expr_judged frame e here = if here.counting then Ok e else (view frame e).judged here.next here.at

-- the same, and where the walk stands after it
unfoldable pub value_judged : Frame → NotedExpr → Here → Outcome (NotedExpr × Here)
value_judged frame e here =
    bind (expr_judged frame e here) (λ f. Ok (f, record here { next = fresh_behind (view frame e) here.next here.at }))

-- the same of each expression of a list
abbrev pub values_judged : Frame → List NotedExpr → Here → Outcome (List NotedExpr × Here)
values_judged frame es = in_turn (map (value_judged frame) es)

-- the same of an expression that there may be
abbrev pub maybe_judged : Frame → Option NotedExpr → Here → Outcome (Option NotedExpr × Here)
maybe_judged frame None here = Ok (None, here)
maybe_judged frame (Some e) here = bind (value_judged frame e here) (λ p. Ok (Some p.0, p.1))

-- the same of an initialiser
abbrev pub init_judged : Frame → NotedInit → Here → Outcome (NotedInit × Here)
init_judged frame init.Nothing here = Ok (init.Nothing, here)
init_judged frame (init.One e) here = bind (value_judged frame e here) (λ p. Ok (init.One p.0, p.1))
init_judged frame (init.Many es) here = bind (values_judged frame es here) (λ p. Ok (init.Many p.0, p.1))

-- the point on a side of a condition
unfoldable pub side_of : Frame → Bool → NotedExpr → State → State
side_of frame side e at = (view frame e).side side at

-- A condition that is left out is true.
abbrev pub maybe_side : Frame → Bool → Option NotedExpr → State → State
maybe_side frame side None at = at
maybe_side frame side (Some e) at = side_of frame side e at

-- the local that a name means, as a list of at most one
abbrev pub local_in : Name → List ℕ
local_in (name.Local k) = k ∷ []
local_in _ = []

-- the same of a node of an expression
abbrev pub local_in_node : {A L M E : Type 0} → Node-F Name A L M E → List ℕ
local_in_node (Node-F.Name n) = local_in n
local_in_node _ = []

-- the local that an assignment to an expression assigns
abbrev pub target_in : NotedExpr → List ℕ
target_in e = local_in_node (out-Node Name Note e.node)

-- whether the bounds of a local contain its initialiser, if one is written
abbrev pub starts_within : Frame → Name → NotedInit → ℕ → Here → Bool
starts_within frame (name.Local k) (init.One e) first here = here.counting || initialised frame k e first here.at
starts_within frame _ _ first here = true

-- the form of a value that is converted to a type
unfoldable pub value_form : Frame → CType → NotedExpr → Known → Option Form
value_form frame t e facts = in_type facts t ((view frame e).form facts)

-- the form of what an integer begins with: if nothing is written, of 0
abbrev pub start_form : Frame → CType → NotedInit → Known → Option Form
start_form frame t init.Nothing facts = Some (constant_form (pos 0))
start_form frame t (init.One e) facts = value_form frame t e facts
start_form frame t (init.Many es) facts = None

-- the point after a local has got the value that it begins with
abbrev pub started : Frame → Name → CType → NotedInit → State → State
started frame (name.Local k) t i at = assigned frame k (start_form frame t i at.facts) at
started frame _ t i at = at

-- A declaration is an assignment, and what follows sees the local.
abbrev pub declared_here : Frame → NotedDecl → NotedInit → Here → Here
declared_here frame d i here =
    record here { seen = here.seen ++ local_in d.name; at = started frame d.name (type_written d.ctype) i here.at }

-- the declared bounds, or E603; the first walk passes over them
abbrev pub bounds_judged : Frame → NotedDecl → Here → Outcome Bounds
bounds_judged frame d here = if here.counting then Ok bounds.Unknown else bounds_there frame d

-- A declaration owes the form of its bounds (E603), its initialiser, and that its bounds contain that (E602 at its name).
abbrev pub decl_judged : Frame → NotedDecl → Here → Outcome (NotedDecl × Here)
decl_judged frame d here =
    bind (bounds_judged frame d here) (λ b. bind (init_judged frame d.init here) (λ p.
    unless (not (starts_within frame d.name p.0 here.next p.1)) not_contained d.pos
    (Ok (record d { init = p.0 }, declared_here frame d p.0 p.1))))

-- a statement at a place, with a note
abbrev pub stated : Pos → Note → NotedAct → NotedStmt
stated at note a = record { body = a; pos = at; note = note }

-- an assignment with the ranges in its two sides noted, or its first error
abbrev pub sides_judged : Frame → Pos → Note → NotedExpr → NotedExpr → Here → Outcome (NotedStmt × Here)
sides_judged frame at note e f here =
    bind (value_judged frame e here) (λ p. bind (value_judged frame f p.1) (λ q. Ok (stated at note (act.Assign p.0 q.0), q.1)))

-- the point after assignments that are judged as one, or their first error; the first walk tells none
abbrev pub stores_judged : Frame → HeadBounds → List NotedStmt → ℕ → Here → Outcome State
stores_judged frame head ss first here =
    if here.counting then Ok (passed frame (stores_of ss) first here.at)
    else stored frame head.bounds here.seen (stores_of ss) first here.at

-- after assignments that are judged as one, of which the first expression has the given first fresh variable
abbrev pub behind_stores : Frame → HeadBounds → List NotedStmt → ℕ → Here → Outcome Here
behind_stores frame head ss first here = bind (stores_judged frame head ss first here) (λ at. Ok (record here { at = at }))

-- an assignment: its two sides, and then what it owes
abbrev pub assign_judged : Frame → HeadBounds → Pos → Note → NotedExpr → NotedExpr → Here → Outcome (NotedStmt × Here)
assign_judged frame head at note e f here =
    bind (sides_judged frame at note e f here) (λ p. bind (behind_stores frame head (p.0 ∷ []) here.next p.1) (λ h. Ok (p.0, h)))

-- a call that is a statement
abbrev pub call_judged : Frame → Pos → Note → NotedExpr → Here → Outcome (NotedStmt × Here)
call_judged frame at note e here = bind (value_judged frame e here) (λ p. Ok (stated at note (act.Call p.0), p.1))

-- After `_Dynamic_check(e)` the condition e is true.
abbrev pub check_judged : Frame → Pos → Note → NotedExpr → Here → Outcome (NotedStmt × Here)
check_judged frame at note e here =
    bind (value_judged frame e here) (λ p. Ok (stated at note (act.Check p.0), record p.1 { at = side_of frame true p.0 p.1.at }))

-- What stands after `return`, `break` and `continue` cannot be reached.
abbrev pub gone : Frame → Here → Here
gone frame here = record here { at = unreached frame }

-- whether the bounds of the result contain the value that is returned, if there is one
abbrev pub is_returned : Frame → HeadBounds → Option NotedExpr → ℕ → Here → Bool
is_returned frame head None first here = true
is_returned frame head (Some e) first here = here.counting || returned frame head e first here.at

-- A returned value is contained in the bounds of the result (E602 at `return`).
abbrev pub return_judged : Frame → HeadBounds → Pos → Note → Option NotedExpr → Here → Outcome (NotedStmt × Here)
return_judged frame head at note e here =
    bind (maybe_judged frame e here) (λ p. unless (not (is_returned frame head p.0 here.next p.1)) not_contained at (Ok (stated at note (act.Return p.0), gone frame p.1)))

-- What is said of a statement:
-- - the locals that it declares anywhere in it, and whether an expression in it may need a fresh variable;
-- - the locals that it assigns, a declaration being an assignment;
-- - whether a `break` in it leaves the loop around it, and whether a `continue` goes on with that, by its text;
-- - what it becomes as a part of the bundle at a place: an assignment, whose sides are judged;
-- - what it becomes, and what is known after it.
pub record Path : Type 0 where
  pub declared : List NotedDecl
  pub may_need : Frame → Bool
  pub assigned : List ℕ
  pub breaks : Bool
  pub continues : Bool
  pub part : Frame → Pos → Here → Outcome (NotedStmt × Here)
  pub judged : Frame → HeadBounds → Here → Outcome (NotedStmt × Here)

-- the same of what a statement does, if it stands at a place and has a note
pub record ActPath : Type 0 where
  pub declared : List NotedDecl
  pub may_need : Frame → Bool
  pub assigned : List ℕ
  pub breaks : Bool
  pub continues : Bool
  pub part : Frame → Pos → Pos → Note → Here → Outcome (NotedStmt × Here)
  pub judged : Frame → HeadBounds → Pos → Note → Here → Outcome (NotedStmt × Here)

-- what a statement does, with what is said of the statements in it
abbrev pub ActOfPaths : Type 0
ActOfPaths = Act-F Name Note ActPath Path

-- the locals that are declared anywhere in what a statement does
abbrev pub act_declared : ActOfPaths → List NotedDecl
act_declared = inside_run listed (λ e. []) (λ d. d ∷ []) (λ (s : Path). s.declared)

-- whether an expression may need a fresh variable
unfoldable pub needs_expr : Frame → NotedExpr → Bool
needs_expr frame e = not ((view frame e).most_fresh == 0)

-- whether an expression in what a statement does may need a fresh variable
abbrev pub act_needs : ActOfPaths → Frame → Bool
act_needs a frame = inside_run one_has (needs_expr frame) (λ (d : NotedDecl). inside_init one_has (needs_expr frame) d.init) (λ (s : Path). s.may_need frame) a

-- the locals that what a statement does assigns; a declaration is an assignment
abbrev pub act_assigned : ActOfPaths → List ℕ
act_assigned (Act-F.Assign e f) = target_in e
act_assigned a = inside_run listed (λ e. []) (λ (d : NotedDecl). local_in d.name) (λ (s : Path). s.assigned) a

-- The `break` and the `continue` of a loop stay in that loop.
abbrev pub act_breaks : ActOfPaths → Bool
act_breaks (Act-F.While e s) = false
act_breaks (Act-F.For s e t u) = false
act_breaks Act-F.Break = true
act_breaks a = inside_act one_has (λ e. false) (λ d. false) (λ (s : Path). s.breaks) a

-- whether a `continue` in what a statement does goes on with the loop around it
abbrev pub act_continues : ActOfPaths → Bool
act_continues (Act-F.While e s) = false
act_continues (Act-F.For s e t u) = false
act_continues Act-F.Continue = true
act_continues a = inside_act one_has (λ e. false) (λ d. false) (λ (s : Path). s.continues) a

-- What is no assignment makes no bundle.
abbrev pub act_part : ActOfPaths → Frame → Pos → Pos → Note → Here → Outcome (NotedStmt × Here)
act_part (Act-F.Assign e f) frame bundle at note here = sides_judged frame at note e f here
act_part _ frame bundle at note here = refused bad_bundle bundle

-- the assignments of a bundle, in order
unfoldable pub parts_judged : Frame → Pos → List Path → Here → Outcome (List NotedStmt × Here)
parts_judged frame bundle ss = in_turn (map (λ s. s.part frame bundle) ss)

-- whether statements have the form of a bundle; the first walk does not ask
abbrev pub is_good : Here → List NotedStmt → Bool
is_good here ss = here.counting || is_bundle ss

-- The assignments of a bundle are judged, then its form (E607), and then what they owe together.
unfoldable pub bundle_judged : Frame → HeadBounds → Pos → Note → List Path → Here → Outcome (NotedStmt × Here)
bundle_judged frame head at note ss here =
    bind (parts_judged frame at ss here) (λ p. unless (not (is_good p.1 p.0)) bad_bundle at
    (bind (behind_stores frame head p.0 here.next p.1) (λ h. Ok (stated at note (act.Bundle p.0), h))))

-- the statements of a block, in order, or their first error
unfoldable pub all_judged : Frame → HeadBounds → List Path → Here → Outcome (List NotedStmt × Here)
all_judged frame head ss = in_turn (map (λ s. s.judged frame head) ss)

-- the same of a statement that there may be
abbrev pub part_judged : Frame → HeadBounds → Option Path → Here → Outcome (Option NotedStmt × Here)
part_judged frame head None here = Ok (None, here)
part_judged frame head (Some s) here = bind (s.judged frame head here) (λ p. Ok (Some p.0, p.1))

-- What was declared since then goes out of scope.
abbrev pub closed : ℕ → Here → Here
closed most here = record here { seen = take most here.seen }

-- a block, whose locals are out of scope after it
abbrev pub block_judged : Frame → HeadBounds → Pos → Note → Option Mode → List Path → Here → Outcome (NotedStmt × Here)
block_judged frame head at note m ss here =
    bind (all_judged frame head ss here) (λ p. Ok (stated at note (act.Block m p.0), closed (length here.seen) p.1))

-- a condition, and the point where it is false
pub record Branch : Type 0 where
  pub condition : NotedExpr
  pub other : State

-- the same of a condition that may be left out, and the point that a `continue` leads to
pub record Start : Type 0 where
  pub condition : Option NotedExpr
  pub other : State
  pub step : Option State

-- After a loop that a `break` leaves nothing is known of its condition.
abbrev pub other_side : Frame → Bool → NotedExpr → State → State
other_side frame true e at = at
other_side frame false e at = side_of frame false e at

-- the same of a condition that may be left out
abbrev pub maybe_other : Frame → Bool → Option NotedExpr → State → State
maybe_other frame left None at = at
maybe_other frame left (Some e) at = other_side frame left e at

-- A condition is judged, and what comes next is on its true side.
abbrev pub branched : Frame → Bool → NotedExpr → Here → Outcome (Branch × Here)
branched frame left e here =
    bind (value_judged frame e here) (λ p. Ok (record { condition = p.0; other = other_side frame left p.0 p.1.at }, record p.1 { at = side_of frame true p.0 p.1.at }))

-- The two branches begin on the two sides of the condition. After the `if` holds what holds in both ends.
abbrev pub if_judged : Frame → HeadBounds → Pos → Note → NotedExpr → Path → Option Path → Here → Outcome (NotedStmt × Here)
if_judged frame head at note e s t here =
    bind (branched frame false e here) (λ p. bind (s.judged frame head p.1) (λ q. bind (part_judged frame head t (record q.1 { at = p.0.other })) (λ r.
    Ok (stated at note (act.If p.0.condition q.0 r.0), record r.1 { at = joined q.1.at r.1.at }))))

-- the head of a loop that assigns these locals
abbrev pub loop_head : Frame → List ℕ → Here → Here
loop_head frame ks here = record here { at = less frame ks here.at }

-- a `while`, whose condition is judged at the head of the loop, before its body
abbrev pub while_judged : Frame → HeadBounds → Pos → Note → NotedExpr → Path → Here → Outcome (NotedStmt × Here)
while_judged frame head at note e s here =
    bind (branched frame s.breaks e (loop_head frame s.assigned here)) (λ p. bind (s.judged frame head p.1) (λ q.
    Ok (stated at note (act.While p.0.condition q.0), record q.1 { at = p.0.other })))

-- the point that a `continue` leads to, if there is one
abbrev pub maybe_point : Bool → State → Option State
maybe_point true at = Some at
maybe_point false at = None

-- from the head of a `for` on
abbrev pub for_started : Frame → Bool → Bool → Option NotedExpr → Here → Outcome (Start × Here)
for_started frame left continued e here =
    bind (maybe_judged frame e here) (λ p.
    Ok (record { condition = p.0; other = maybe_other frame left p.0 p.1.at; step = maybe_point continued p.1.at }, record p.1 { at = maybe_side frame true p.0 p.1.at }))

-- The step has what the end of the body has, or what the head has if a `continue` leads to it.
abbrev pub to_step : Option State → Here → Here
to_step None here = here
to_step (Some at) here = record here { at = at }

-- a `for`: its begin, its condition at the head of the loop, its body, and then its step
abbrev pub for_judged : Frame → HeadBounds → Pos → Note → Option Path → Option NotedExpr → Option Path → Path → Here → Outcome (NotedStmt × Here)
for_judged frame head at note s e t u here =
    bind (part_judged frame head s here) (λ p. bind (for_started frame u.breaks u.continues e (loop_head frame (u.assigned ++ inside_if listed (λ (v : Path). v.assigned) t) p.1)) (λ q.
    bind (u.judged frame head q.1) (λ r. bind (part_judged frame head t (to_step q.0.step r.1)) (λ v.
    Ok (stated at note (act.For p.0 q.0.condition v.0 r.0), closed (length here.seen) (record v.1 { at = q.0.other }))))))

-- a declaration that is a statement
abbrev pub local_judged : Frame → Pos → Note → NotedDecl → Here → Outcome (NotedStmt × Here)
local_judged frame at note d here = bind (decl_judged frame d here) (λ p. Ok (stated at note (act.Local p.0), p.1))

-- what a statement becomes and where the walk stands after it, by what the statement does
abbrev pub act_judged : ActOfPaths → Frame → HeadBounds → Pos → Note → Here → Outcome (NotedStmt × Here)
act_judged (Act-F.Block m ss) frame head at note here = block_judged frame head at note m ss here
act_judged Act-F.Empty frame head at note here = Ok (stated at note act.Empty, here)
act_judged (Act-F.Local d) frame head at note here = local_judged frame at note d here
act_judged (Act-F.Assign e f) frame head at note here = assign_judged frame head at note e f here
act_judged (Act-F.Call e) frame head at note here = call_judged frame at note e here
act_judged (Act-F.If e s t) frame head at note here = if_judged frame head at note e s t here
act_judged (Act-F.While e s) frame head at note here = while_judged frame head at note e s here
act_judged (Act-F.For s e t u) frame head at note here = for_judged frame head at note s e t u here
act_judged (Act-F.Return e) frame head at note here = return_judged frame head at note e here
act_judged Act-F.Break frame head at note here = Ok (stated at note act.Break, gone frame here)
act_judged Act-F.Continue frame head at note here = Ok (stated at note act.Continue, gone frame here)
act_judged (Act-F.Check e) frame head at note here = check_judged frame at note e here
act_judged (Act-F.Bundle ss) frame head at note here = bundle_judged frame head at note ss here

-- what is said of what a statement does, from what is said of the statements in it
abbrev pub act_path : ActOfPaths → ActPath
act_path a = record {
  declared = act_declared a;
  may_need = act_needs a;
  assigned = act_assigned a;
  breaks = act_breaks a;
  continues = act_continues a;
  part = act_part a;
  judged = act_judged a;
}

-- What is said of a statement is what is said of what it does, at its place and with its note.
abbrev pub stmt_path : Stmt-F Name Note ActPath Path → Path
stmt_path s = record {
  declared = s.body.declared;
  may_need = s.body.may_need;
  assigned = s.body.assigned;
  breaks = s.body.breaks;
  continues = s.body.continues;
  part = λ frame bundle. s.body.part frame bundle s.pos s.note;
  judged = λ frame head. s.body.judged frame head s.pos s.note;
}

abbrev pub path_of_act : NotedAct → ActPath
path_of_act = fold-Act Name Note ActPath Path act_path stmt_path

-- what is said of a statement of a function
abbrev pub path : NotedStmt → Path
path = fold-Stmt Name Note ActPath Path act_path stmt_path
