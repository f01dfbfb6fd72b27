-- What an assignment may change: a local, a member of a structure, or other memory, and which bounds a pointer has there.
use Rattle.std.specs.Prelude.{ℕ, Option, None, Some, slice_get, unwrap_or}
use Rattle.ckc_types.specs.declared.types.CType.{CType}
use Rattle.ckc_types.specs.declared.types.MemberBounds.{MemberBounds}
use Rattle.ckc_types.specs.declared.types.MemberBounds.TheVariants as written
use Rattle.ckc_linear.specs.declared.forms.Base.TheVariants as base
use Rattle.ckc_linear.specs.declared.forms.Form.{Form}
use Rattle.ckc_syntax.specs.declared.tree.Name.{Name}
use Rattle.ckc_syntax.specs.declared.tree.Name.TheVariants as name
use Rattle.ckc_syntax.specs.declared.tree.Node.{Node-F, out-Node}
use Rattle.ckc_typed.specs.declared.typed.Note.{Note}
use Rattle.ckc_typed.specs.Trees.{NotedExpr, NotedLayer}
use Rattle.ckc_bounds_points.specs.declared.frame.Bounds.{Bounds}
use Rattle.ckc_bounds_points.specs.declared.frame.Bounds.TheVariants as bounds
use Rattle.ckc_bounds_points.specs.declared.frame.Frame.{Frame}
use Rattle.ckc_bounds_points.specs.Forms.{base_form}
use Rattle.ckc_bounds_declared.specs.Written.{bounds_by_type}
use Rattle.ckc_bounds_views.specs.declared.variables.Member.{Member}
use Rattle.ckc_bounds_views.specs.Parts.{capped}
use Rattle.ckc_bounds_views.specs.Fresh.{member_bounds}
use Rattle.ckc_bounds_views.specs.Views.{view}

-- the local that a name means
abbrev pub local_named : Name → Option ℕ
local_named (name.Local k) = Some k
local_named _ = None

-- the local that a node of an expression is
abbrev pub local_in : NotedLayer → Option ℕ
local_in (Node-F.Name n) = local_named n
local_in _ = None

-- the local that an expression is
abbrev pub local_of : NotedExpr → Option ℕ
local_of e = local_in (out-Node Name Note e.node)

-- In the bounds of a member, member m of the same structure is variable m + 1.
abbrev pub member_variable : ℕ → ℕ
member_variable m = capped m 1

-- the bounds of a member from its own value up to a form
abbrev pub counted : Form → Bounds
counted k = bounds.Known (base_form (base.Value 0)) k

-- The bounds of a member, from its value, the base `Value 0`: if none are written those of its type, and else as many
-- elements as are written.
abbrev pub bounds_by_member : CType → MemberBounds → Bounds
bounds_by_member t written.Nothing = bounds_by_type (base.Value 0) t
bounds_by_member t written.Unknown = bounds.Unknown
bounds_by_member t written.NoForm = bounds.Unknown
bounds_by_member t (written.Fixed c) = counted (record { base = Some (base.Value 0); var = 0; add = c })
bounds_by_member t (written.Named m c) = counted (record { base = Some (base.Value 0); var = member_variable m; add = c })

-- the bounds that are written at an object, if there is such an object and it has some
abbrev pub written_there : Option (Option Bounds) → Option Bounds
written_there (Some (Some b)) = Some b
written_there _ = None

-- the bounds that are written at the object of file scope that a name means
abbrev pub object_named : Frame → Name → Option Bounds
object_named frame (name.Static k) = written_there (slice_get frame.objects k)
object_named frame _ = None

-- the bounds that are written at the object of file scope that an expression is
abbrev pub written_in : Frame → NotedLayer → Option Bounds
written_in frame (Node-F.Name n) = object_named frame n
written_in frame _ = None

-- the bounds of a pointer in memory, by the member that it is, if it is one
abbrev pub bounds_by : Frame → NotedExpr → Option Member → Bounds
bounds_by frame e (Some m) = bounds_by_member e.note.ctype (member_bounds frame.structs m)
bounds_by frame e None =
    unwrap_or (written_in frame (out-Node Name Note e.node)) (bounds_by_type (base.Value 0) e.note.ctype)

-- The bounds of a pointer in memory, from its value, the base `Value 0`: a member and an object of file scope have those
-- that are declared, and every other place has those of its type. What is no checked pointer has unknown ones.
abbrev pub memory_bounds : Frame → NotedExpr → Bounds
memory_bounds frame e = bounds_by frame e (view frame e).member
