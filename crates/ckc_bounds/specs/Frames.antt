-- The frames of the functions of a text.
use Rattle.std.specs.Prelude.{ℕ, ◌-◌, Bool, true, false, if◌then◌else◌, List, [], ◌++◌, flat_map, length, replicate, Ok, Err}
use Rattle.ckc_base.specs.declared.arithmetic.Mode.TheVariants.{Checked}
use Rattle.ckc_base.specs.Outcomes.{Outcome}
use Rattle.ckc_types.specs.declared.types.Structs.{Structs}
use Rattle.ckc_typed.specs.declared.typed.StaticObject.{StaticObject}
use Rattle.ckc_typed.specs.Interfaces.{seen_params}
use Rattle.ckc_typed.specs.Trees.{NotedDecl, NotedHead, NotedStmt, NotedItem}
use Rattle.ckc_bounds_points.specs.declared.frame.Local.{Local}
use Rattle.ckc_bounds_points.specs.declared.frame.HeadBounds.{HeadBounds}
use Rattle.ckc_bounds_points.specs.declared.frame.Frame.{Frame}
use Rattle.ckc_bounds_points.specs.Flow.{entry}
pub use Rattle.ckc_bounds.specs.Declarations.{nameless}
use Rattle.ckc_bounds.specs.Declarations.{few_of, few_of_few, with_locals, types_in, all_made, head_bounds, heads_from, objects_of}
use Rattle.ckc_bounds_statements.specs.Paths.{Here, local_in, path}

-- the structures and the objects alone
abbrev pub structs_frame : Structs → List StaticObject → Frame
structs_frame structs statics = record { structs = structs; statics = statics; objects = []; heads = []; locals = few_of []; few = few_of_few [] }

-- what holds for a whole text
abbrev pub text_frame : Structs → List StaticObject → List NotedItem → Frame
text_frame structs statics items = record (structs_frame structs statics) {
  objects = objects_of (structs_frame structs statics) items;
  heads = heads_from (structs_frame structs statics) [] items;
}

-- the declarations of the parameters and of the other locals of a function, as its body sees them
abbrev pub all_of : NotedHead → NotedStmt → List NotedDecl
all_of h body = seen_params body.note.mode h ++ (path body).declared

-- the local that a parameter is, as a list of at most one
abbrev pub name_seen : NotedDecl → List ℕ
name_seen d = local_in d.name

-- Where a walk through a function begins in a frame, with the number of the first fresh variable: the parameters are in
-- scope.
abbrev pub begin_in : Frame → Bool → NotedHead → ℕ → Here
begin_in frame counting h n = record { seen = flat_map name_seen h.params; at = entry frame; next = n; counting = counting }

-- how many fresh variables a walk needed that began with the number n
abbrev pub needed_from : ℕ → Outcome (NotedStmt × Here) → ℕ
needed_from n (Ok p) = p.1.next - n
needed_from n (Err r) = 0

-- how many fresh variables the first walk through a function needs
abbrev pub counted : Frame → HeadBounds → NotedHead → NotedStmt → ℕ → ℕ
counted frame head h body n = needed_from n ((path body).judged frame head (begin_in frame true h n))

-- How many fresh variables a function needs, in a frame of its parameters and locals: a first walk through it counts them,
-- in which chains are no longer than these allow. If no expression may need one, there is nothing to count.
abbrev pub fresh_needed : Frame → HeadBounds → NotedHead → NotedStmt → ℕ → ℕ
fresh_needed frame head h body n =
    if (path body).may_need frame then counted frame head h body n else 0

-- A frame with n fresh variables after its locals. Of the type of one something is known where its own expression is
-- judged, and nowhere else.
abbrev pub with_nameless : ℕ → Frame → Frame
with_nameless n frame = with_locals frame (frame.locals ++ replicate n nameless)

-- The types that declared bounds are judged by: parameters have those that callers see, so that they have the same bounds
-- in each body.
abbrev pub types_frame : Frame → NotedHead → NotedStmt → Frame
types_frame frame h body = types_in frame (seen_params Checked h ++ (path body).declared)

-- the frame of a function with its parameters and locals, without fresh variables
abbrev pub locals_frame : Frame → NotedHead → NotedStmt → Frame
locals_frame frame h body = with_locals frame (all_made (types_frame frame h body) true (all_of h body))

-- the number of the first fresh variable
abbrev pub first_fresh : NotedHead → NotedStmt → ℕ
first_fresh h body = length (all_of h body)

-- The frame of a function, by what its head says: its parameters and locals, then its fresh variables.
abbrev pub frame_by : Frame → HeadBounds → NotedHead → NotedStmt → Frame
frame_by frame head h body =
    with_nameless (fresh_needed (locals_frame frame h body) head h body (first_fresh h body)) (locals_frame frame h body)

-- the frame of a function: its parameters and locals, then its fresh variables
abbrev pub function_frame : Frame → NotedHead → NotedStmt → Frame
function_frame frame h body = frame_by frame (head_bounds frame h) h body

-- where the walk through a function begins
abbrev pub begin_of : Frame → NotedHead → NotedStmt → Here
begin_of frame h body = begin_in (function_frame frame h body) false h (first_fresh h body)
