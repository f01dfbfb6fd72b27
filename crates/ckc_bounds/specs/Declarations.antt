-- What declarations say of bounds to the expressions of a text.
use Rattle.std.specs.Prelude.{ℕ, zero, suc, ◌<◌, ◌≤◌, ◌==◌, Bool, true, false, if◌then◌else◌, List, [], ◌∷◌, ◌++◌, map, length, replicate, slice_set, Option, None, Some, Ok, Err}
use Rattle.std.proofs.Common.{zero-le, suc-le-suc}
use Rattle.ckc_base.specs.declared.arithmetic.Mode.TheVariants.{Checked}
use Rattle.ckc_base.specs.Outcomes.{Outcome, bind, unless}
use Rattle.ckc_types.specs.declared.types.CType.{CType}
use Rattle.ckc_types.specs.declared.types.CType.TheVariants as ctype
use Rattle.ckc_syntax.specs.declared.tree.Name.{Name}
use Rattle.ckc_syntax.specs.declared.tree.Name.TheVariants as name
use Rattle.ckc_syntax.specs.declared.tree.Length.TheVariants as lengths
use Rattle.ckc_syntax.specs.declared.tree.Item.TheVariants as item
use Rattle.ckc_syntax.specs.declared.tree.Limits.{Limits-F, out-Limits}
use Rattle.ckc_typed.specs.declared.typed.Note.{Note}
use Rattle.ckc_typed.specs.Trees.{NotedDecl, NotedHead, NotedItem, NotedLimits}
use Rattle.ckc_typed.specs.Interfaces.{is_interface, seen, seen_params}
use Rattle.ckc_typed.specs.Types.{type_written}
use Rattle.ckc_bounds_points.specs.declared.frame.Bounds.{Bounds}
use Rattle.ckc_bounds_points.specs.declared.frame.Bounds.TheVariants as bounds
use Rattle.ckc_bounds_points.specs.declared.frame.Local.{Local}
use Rattle.ckc_bounds_points.specs.declared.frame.HeadBounds.{HeadBounds}
use Rattle.ckc_bounds_points.specs.declared.frame.Frame.{Frame}
use Rattle.ckc_bounds_declared.specs.declared.limits.Holder.{Holder}
use Rattle.ckc_bounds_declared.specs.declared.limits.Holder.TheVariants as holder
use Rattle.ckc_bounds_declared.specs.Written.{bounds_declared, place_of_limits}
use Rattle.ckc_bounds_points.specs.Codes.{bad_limits}
use Rattle.ckc_bounds_statements.specs.DeclBounds.{decl_bounds, bounds_there}

-- what the members of the structure that a name means are to their bounds
abbrev pub member_holder : Name → Holder
member_holder (name.Tag k) = holder.Member k
member_holder _ = holder.Static

-- the bounds of the result of a function, or E603
abbrev pub result_bounds : Frame → NotedHead → Outcome Bounds
result_bounds frame h = bounds_declared frame holder.Result (type_written h.result) lengths.Plain h.bounds

-- Parts are judged from the first to the last.
abbrev pub each : {A : Type 0} → List (Outcome A) → Outcome (Unit {0})
each [] = Ok tt
each (o ∷ os) = bind o (λ a. each os)

-- whether bounds are `bounds(unknown)`
abbrev pub are_unknown_form : {A L M E : Type 0} → Limits-F Name A L M E → Bool
are_unknown_form (Limits-F.Unknown at) = true
are_unknown_form _ = false

-- the bounds of an interface, which are not `bounds(unknown)`, or E603
abbrev pub interface_bounds : Frame → NotedDecl → Option NotedLimits → Outcome Bounds
interface_bounds frame d None = bounds_there frame d
interface_bounds frame d (Some l) = unless (are_unknown_form (out-Limits Name Note l)) bad_limits (place_of_limits l) (bounds_there frame d)

-- the bounds of a parameter, or E603; an interface has those that checked code sees
abbrev pub param_bounds : Frame → NotedDecl → Outcome Bounds
param_bounds frame d = if is_interface d then interface_bounds frame (seen Checked d) d.bounds else bounds_there frame d

-- E603 of parameters, and of the result
abbrev pub head_judged : Frame → NotedHead → Outcome Bounds
head_judged frame h = bind (each (map (param_bounds frame) h.params)) (λ u. result_bounds frame h)

-- Bounds that are refused are unknown to what is judged before them.
abbrev pub known_or_not : Outcome Bounds → Bounds
known_or_not (Ok b) = b
known_or_not (Err r) = bounds.Unknown

-- a variable of whose bounds nothing is known
abbrev pub bare : CType → Local
bare t = record { ctype = t; bounds = bounds.Unknown }

-- a local by its type alone, or with its bounds
abbrev pub local_made : Frame → Bool → ℕ → NotedDecl → Local
local_made frame false k d = bare (type_written d.ctype)
local_made frame true k d = record { ctype = type_written d.ctype; bounds = known_or_not (decl_bounds frame (holder.Local k) d) }

-- a variable that has a number, and of which nothing else is known
abbrev pub nameless : Local
nameless = bare ctype.Void

-- A declaration puts its local at the number that its name has.
abbrev pub with_local : Frame → Bool → List Local → Name → NotedDecl → List Local
with_local frame bounded ls (name.Local k) d = slice_set ls k (local_made frame bounded k d)
with_local frame bounded ls _ d = ls

-- some locals after those that are declared are put among them
abbrev pub with_all : Frame → Bool → List Local → List NotedDecl → List Local
with_all frame bounded ls [] = ls
with_all frame bounded ls (d ∷ ds) = with_all frame bounded (with_local frame bounded ls d.name d) ds

-- The locals that are declared, as many as there are declarations, each at its number, wherever it stands in the text.
abbrev pub all_made : Frame → Bool → List NotedDecl → List Local
all_made frame bounded ds = with_all frame bounded (replicate (length ds) nameless) ds

-- the first of some locals, at most so many
abbrev pub first_of : ℕ → List Local → List Local
first_of zero ls = []
first_of (suc n) [] = []
first_of (suc n) (l ∷ ls) = l ∷ first_of n ls

-- The first n locals are at most n.
first_of_short : (n : ℕ) (ls : List Local) → length (first_of n ls) ≤ n
first_of_short zero ls = zero-le
first_of_short (suc n) [] = zero-le
first_of_short (suc n) (l ∷ ls) = suc-le-suc (first_of_short n ls)

-- The variables of a frame are fewer than 1,024, as in each function that keeps the limits of a text. What is beyond is
-- cut off.
unfoldable pub few_of : List Local → List Local
few_of ls = first_of 1023 ls

-- What is left of the locals is fewer than 1,024.
pub few_of_few : (ls : List Local) → length (few_of ls) < 1024
unfolding few_of
few_of_few ls = suc-le-suc (first_of_short 1023 ls)

-- a frame with these locals in place of its own
abbrev pub with_locals : Frame → List Local → Frame
with_locals frame ls = record frame { locals = few_of ls; few = few_of_few ls }

-- the types of what is declared
abbrev pub types_in : Frame → List NotedDecl → Frame
types_in frame ds = with_locals frame (all_made frame false ds)

-- The bounds of locals name one another, so that the types of all of them are known first.
abbrev pub declared_in : Frame → List NotedDecl → List Local
declared_in frame ds = all_made (types_in frame ds) true ds

-- the structures and objects with the parameters of a function as the locals, by their types alone
abbrev pub params_frame : Frame → NotedHead → Frame
params_frame frame h = types_in frame (seen_params Checked h)

-- A head is judged with its parameters as the locals, as its function's callers see them.
abbrev pub head_bounds : Frame → NotedHead → HeadBounds
head_bounds frame h = record {
  params = declared_in frame (seen_params Checked h);
  interfaces = map is_interface h.params;
  result = type_written h.result;
  bounds = known_or_not (result_bounds (params_frame frame h) h);
}

-- whether a name means the function with the number n
abbrev pub is_function_at : Name → ℕ → Bool
is_function_at (name.Function k) n = k == n
is_function_at _ n = false

-- Functions are numbered in the order in which their first heads stand. The other heads of a function are the same.
abbrev pub with_head : Frame → List HeadBounds → NotedHead → List HeadBounds
with_head frame heads h = if is_function_at h.name (length heads) then heads ++ head_bounds frame h ∷ [] else heads

-- the heads that are known after an item of the source file
abbrev pub with_item : Frame → List HeadBounds → NotedItem → List HeadBounds
with_item frame heads (item.Proto h) = with_head frame heads h
with_item frame heads (item.Function h body) = with_head frame heads h
with_item frame heads _ = heads

-- the heads of functions by their numbers, after some that are known
abbrev pub heads_from : Frame → List HeadBounds → List NotedItem → List HeadBounds
heads_from frame heads [] = heads
heads_from frame heads (i ∷ is) = heads_from frame (with_item frame heads i) is

-- the bounds of an object of file scope, if some are written
abbrev pub object_bounds_in : Frame → NotedDecl → Option NotedLimits → Option Bounds
object_bounds_in frame d None = None
object_bounds_in frame d (Some l) = Some (known_or_not (decl_bounds frame holder.Static d))

-- the bounds that are written at an object of file scope
abbrev pub object_bounds : Frame → NotedDecl → Option Bounds
object_bounds frame d = object_bounds_in frame d d.bounds

-- the bounds of the objects of file scope from an item on, by those of the objects after it
abbrev pub with_object : Frame → NotedItem → List (Option Bounds) → List (Option Bounds)
with_object frame (item.Static d) rest = object_bounds frame d ∷ rest
with_object frame _ rest = rest

-- the objects of file scope in the order of the text, as they are numbered
abbrev pub objects_of : Frame → List NotedItem → List (Option Bounds)
objects_of frame [] = []
objects_of frame (i ∷ is) = with_object frame i (objects_of frame is)
