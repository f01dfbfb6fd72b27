-- The judgement of expressions: the range of each pointer is noted, or the first fault found, parts first.
use Rattle.std.specs.Prelude.{ℕ, ◌==◌, Bool, true, false, not, ◌&&◌, ◌||◌, if◌then◌else◌, Option, None, Some, List, [], ◌∷◌, slice_get, Ok, Err}
use Rattle.ckc_base.specs.declared.places.Pos.{Pos}
use Rattle.ckc_types.specs.declared.types.Kind.{Kind}
use Rattle.ckc_types.specs.declared.types.Kind.TheVariants as kind
use Rattle.ckc_types.specs.declared.types.CType.{CType}
use Rattle.ckc_types.specs.declared.types.Structs.{Structs}
use Rattle.ckc_syntax.specs.declared.tree.Name.{Name}
use Rattle.ckc_syntax.specs.declared.tree.Name.TheVariants as name
use Rattle.ckc_syntax.specs.declared.tree.TreeOp.{TreeOp}
use Rattle.ckc_syntax.specs.declared.tree.TreeOp.TheVariants as op
use Rattle.ckc_syntax.specs.declared.tree.Limits.{Limits-F}
use Rattle.ckc_syntax.specs.declared.tree.Limits.TheVariants as limits
use Rattle.ckc_syntax.specs.declared.tree.Node.{Node-F}
use Rattle.ckc_syntax.specs.declared.tree.Node.TheVariants as node
use Rattle.ckc_typed.specs.declared.environment.Constant.{Constant}
use Rattle.ckc_typed.specs.declared.typed.Note.{Note}
use Rattle.ckc_typed.specs.declared.typed.Range.{Range}
use Rattle.ckc_typed.specs.declared.typed.Range.TheVariants as range
use Rattle.ckc_typed.specs.Types.{is_integer, is_pointer, kind_of, element_of}
use Rattle.ckc_typed.specs.Constants.{size_of, value_of}
use Rattle.ckc_typed.specs.Amounts.{is_multiple}
use Rattle.ckc_typed.specs.Operands.{is_raw_kind}
use Rattle.ckc_bounds_points.specs.declared.frame.Bounds.{Bounds}
use Rattle.ckc_bounds_points.specs.declared.frame.Local.{Local}
use Rattle.ckc_bounds_points.specs.declared.frame.HeadBounds.{HeadBounds}
use Rattle.ckc_bounds_points.specs.declared.frame.Frame.{Frame}
use Rattle.ckc_bounds_points.specs.Shown.{Known}
use Rattle.ckc_bounds_points.specs.Flow.{State}
use Rattle.ckc_bounds_ranges.specs.declared.replacements.BaseBy.{BaseBy}
use Rattle.ckc_bounds_ranges.specs.declared.replacements.VariableBy.{VariableBy}
use Rattle.ckc_bounds_ranges.specs.Replaced.{replaced_bounds}
use Rattle.ckc_bounds_points.specs.Codes.{unknown_bounds, not_contained, bad_limits, bounds_address}
use Rattle.ckc_bounds_views.specs.declared.variables.Member.{Member}
use Rattle.ckc_base.specs.declared.places.Refusal.{Refusal}
use Rattle.ckc_base.specs.Outcomes.{Outcome, bind, unless, refused}
use Rattle.ckc_typed.specs.Trees.{NotedLimits, NotedNode, NotedExpr}
use Rattle.ckc_bounds_ranges.specs.Contained.{extended, is_contained}
use Rattle.ckc_bounds_ranges.specs.Members.{has_no_address}
use Rattle.ckc_bounds_views.specs.Parts.{LimitsView, View, NodeView, NodeOfViews, LimitsOfViews, capped, fresh_behind}
use Rattle.ckc_bounds_views.specs.Conditions.{right_point}
use Rattle.ckc_bounds_views.specs.Fresh.{member_of_node, with_types}
use Rattle.ckc_bounds_views.specs.Arguments.{bases_by, variables_by}
use Rattle.ckc_bounds_views.specs.Ranges.{pointer_range}

-- whether a constant is a multiple of the size of an element
abbrev pub is_multiple_of : ℕ → Option Constant → Bool
is_multiple_of size None = false
is_multiple_of size (Some c) = is_multiple (value_of c) size

-- A cast counts an integer, and in bytes a multiple of the size of an element, unless that is 1.
abbrev pub counts_elements : View → Bool
counts_elements e = is_integer e.ctype

-- whether the limits `byte_count(e)` of a bounds cast count whole elements of a size
abbrev pub counts_bytes : ℕ → View → Bool
counts_bytes size e = is_integer e.ctype && ((size == 1) || is_multiple_of size e.number)

-- the limits of a bounds cast with the ranges in them noted, or their first error; E603 if they have no such form
abbrev pub limits_judged : LimitsOfViews → ℕ → ℕ → State → Outcome NotedLimits
limits_judged (Limits-F.Count e pos) size fresh at =
    bind (e.judged fresh at) (λ a. unless (not (counts_elements e)) bad_limits pos (Ok (limits.Count a pos)))
limits_judged (Limits-F.ByteCount e pos) size fresh at =
    bind (e.judged fresh at) (λ a. unless (not (counts_bytes size e)) bad_limits pos (Ok (limits.ByteCount a pos)))
limits_judged (Limits-F.Between e f pos) size fresh at =
    bind (e.judged fresh at) (λ a. bind (f.judged (fresh_behind e fresh at) at) (λ b. refused bad_limits pos))
limits_judged (Limits-F.Unknown pos) size fresh at = refused bad_limits pos

-- the same of limits that there may be
abbrev pub there_judged : Option LimitsView → ℕ → ℕ → State → Outcome (Option NotedLimits)
there_judged None size fresh at = Ok None
there_judged (Some l) size fresh at = bind (l.judged size fresh at) (λ k. Ok (Some k))

-- the arguments of a call with the ranges in them noted, or their first error
abbrev pub all_judged : List View → ℕ → State → Outcome (List NotedExpr)
all_judged [] fresh at = Ok []
all_judged (e ∷ es) fresh at =
    bind (e.judged fresh at) (λ a. bind (all_judged es (fresh_behind e fresh at) at) (λ rest. Ok (a ∷ rest)))

-- the operand of a unary operator with the ranges in it noted, or its first error
abbrev pub unary_judged : TreeOp → View → ℕ → State → Outcome NotedExpr
unary_judged op.Address e fresh at = e.operand fresh at
unary_judged _ e fresh at = e.judged fresh at

-- a node with the ranges in its parts noted
abbrev pub node_judged : Frame → NodeOfViews → CType → ℕ → State → Outcome NotedNode
node_judged frame (Node-F.Number n unsigned) t fresh at = Ok (node.Number n unsigned)
node_judged frame (Node-F.Text bytes) t fresh at = Ok (node.Text bytes)
node_judged frame Node-F.Null t fresh at = Ok node.Null
node_judged frame (Node-F.Name n) t fresh at = Ok (node.Name n)
node_judged frame (Node-F.Un o e) t fresh at = bind (unary_judged o e fresh at) (λ a. Ok (node.Un o a))
node_judged frame (Node-F.Bin o e f) t fresh at =
    bind (e.judged fresh at) (λ a. bind (f.judged (fresh_behind e fresh at) (right_point o e at)) (λ b. Ok (node.Bin o a b)))
node_judged frame (Node-F.Pick e f g) t fresh at =
    bind (e.judged fresh at) (λ a. bind (f.judged (fresh_behind e fresh at) at) (λ b.
    bind (g.judged (fresh_behind f (fresh_behind e fresh at) at) at) (λ c. Ok (node.Pick a b c))))
node_judged frame (Node-F.Index e f) t fresh at =
    bind (e.judged fresh at) (λ a. bind (f.judged (fresh_behind e fresh at) at) (λ b. Ok (node.Index a b)))
node_judged frame (Node-F.Dot e n spot) t fresh at = bind (e.judged fresh at) (λ a. Ok (node.Dot a n spot))
node_judged frame (Node-F.Arrow e n spot) t fresh at = bind (e.judged fresh at) (λ a. Ok (node.Arrow a n spot))
node_judged frame (Node-F.Cast w e) t fresh at = bind (e.judged fresh at) (λ a. Ok (node.Cast w a))
node_judged frame (Node-F.Size w) t fresh at = Ok (node.Size w)
node_judged frame (Node-F.Trusted w e l) t fresh at =
    bind (e.judged fresh at) (λ a. bind (there_judged l (size_of frame.structs (element_of t)) (fresh_behind e fresh at) at) (λ k. Ok (node.Trusted w a k)))
node_judged frame (Node-F.Tested w e l) t fresh at =
    bind (e.judged fresh at) (λ a. bind (there_judged l (size_of frame.structs (element_of t)) (fresh_behind e fresh at) at) (λ k. Ok (node.Tested w a k)))
node_judged frame (Node-F.Call n es) t fresh at = bind (all_judged es fresh at) (λ args. Ok (node.Call n args))
node_judged frame (Node-F.Calloc w e x) t fresh at = bind (e.judged fresh at) (λ a. Ok (node.Calloc w a x))

-- whether a pointer is an `_Array_ptr` or an `_Nt_array_ptr`
abbrev pub is_counted_kind : Option Kind → Bool
is_counted_kind (Some kind.Arr) = true
is_counted_kind (Some kind.Nt) = true
is_counted_kind _ = false

-- whether a pointer has no known range
abbrev pub is_missing : Range → Bool
is_missing range.Missing = true
is_missing _ = false

-- the error with this code at this place, if a condition holds
abbrev pub fault_if : Bool → ℕ → Pos → Option Refusal
fault_if broken code pos = if broken then Some (record { code = code; pos = pos }) else None

-- E601: through an `_Array_ptr` or an `_Nt_array_ptr` with unknown bounds
abbrev pub access_fault : View → Pos → ℕ → State → Option Refusal
access_fault e pos fresh at =
    fault_if (is_counted_kind (kind_of e.ctype) && is_missing (e.range 0 fresh at)) unknown_bounds pos

-- whether bounds are written at an object of file scope
abbrev pub is_declared_object : Option (Option Bounds) → Bool
is_declared_object (Some (Some b)) = true
is_declared_object _ = false

-- whether an expression is a member whose address is not taken
abbrev pub member_has_none : Structs → Option Member → Bool
member_has_none structs None = false
member_has_none structs (Some m) = has_no_address structs m.tag m.number

-- a member that takes part in bounds or has declared bounds, and an object with declared bounds
abbrev pub has_none_of_node : Frame → NodeOfViews → Bool
has_none_of_node frame (Node-F.Name (name.Static k)) = is_declared_object (slice_get frame.objects k)
has_none_of_node frame n = member_has_none frame.structs (member_of_node n)

-- the facts with what also holds of the range of a new value, if it has one
abbrev pub extended_by : Range → Range → Bool → Known → Known
extended_by (range.Known l u) (range.Known k before) allocated facts = extended (record { low = l; high = u }) before allocated facts
extended_by _ _ allocated facts = facts

-- What is known where a new value is judged that is to be contained: beside the facts of the point the ranges of the types
-- of its fresh variables, and that its range is in order without widening, has at most 16,777,216 elements, and one of an
-- allocation.
abbrev pub facts_for : View → ℕ → ℕ → Bool → State → Known
facts_for e first fresh allocated at =
    extended_by (e.range first fresh at) (e.range first fresh (record at { widened = [] })) allocated (with_types (capped fresh 1) (e.fresh at) at.facts)

-- whether bounds contain a value, once what they name is replaced
abbrev pub contained_in : Bounds → Bool → Range → Known → (Known → List BaseBy) → (Known → List VariableBy) → Bool
contained_in b null r facts bases variables = is_contained facts b null r (replaced_bounds (bases facts) (variables facts) b)

-- whether an argument goes to an interface as the unchecked pointer that it is, which is not judged
abbrev pub is_owed : Option Bool → View → Bool
is_owed (Some true) e = is_raw_kind (kind_of e.ctype)
is_owed _ e = false

-- A parameter's bounds, with the arguments in place of the parameters, lie in the range of its argument.
abbrev pub is_argument : Option Local → View → ℕ → ℕ → State → (Known → List BaseBy) → (Known → List VariableBy) → Bool
is_argument None e first fresh at bases variables = true
is_argument (Some p) e first fresh at bases variables =
    contained_in p.bounds e.null (e.range first fresh at) (facts_for e first fresh false at) bases variables

-- E602 at the first argument that is judged and is not contained in the bounds of its parameter
abbrev pub arguments_fault : (Known → List BaseBy) → (Known → List VariableBy) → HeadBounds → ℕ → List View → ℕ → ℕ → State → Option Refusal
arguments_fault bases variables h n [] first fresh at = None
arguments_fault bases variables h n (e ∷ es) first fresh at =
    if is_owed (slice_get h.interfaces n) e || is_argument (slice_get h.params n) e first fresh at bases variables
    then arguments_fault bases variables h (capped n 1) es (capped first e.values) (fresh_behind e fresh at) at
    else Some (record { code = not_contained; pos = e.pos })

-- E602 at the first argument of a call that is not contained, by what the head of the function says
abbrev pub head_fault : Option HeadBounds → List View → ℕ → State → Option Refusal
head_fault None es fresh at = None
head_fault (Some h) es fresh at =
    arguments_fault (λ facts. bases_by h.params 0 0 facts es) (λ facts. variables_by h.params 0 facts es) h 0 es 0 fresh at

-- E602: the first argument that is not contained
abbrev pub call_fault : Frame → Name → List View → ℕ → State → Option Refusal
call_fault frame (name.Function k) es fresh at = head_fault (slice_get frame.heads k) es fresh at
call_fault frame _ es fresh at = None

-- the error of a unary operator itself: E601 of `*`, E606 of `&`
abbrev pub unary_fault : TreeOp → View → Pos → ℕ → State → Option Refusal
unary_fault op.Deref e pos fresh at = access_fault e pos fresh at
unary_fault op.Address e pos fresh at = fault_if e.no_address bounds_address pos
unary_fault _ e pos fresh at = None

-- the fault of a node itself
abbrev pub fault_of_node : Frame → NodeOfViews → Pos → ℕ → State → Option Refusal
fault_of_node frame (Node-F.Un o e) pos fresh at = unary_fault o e pos fresh at
fault_of_node frame (Node-F.Index e f) pos fresh at = access_fault e pos fresh at
fault_of_node frame (Node-F.Arrow e n spot) pos fresh at = access_fault e pos fresh at
fault_of_node frame (Node-F.Tested w e l) pos fresh at = access_fault e pos fresh at
fault_of_node frame (Node-F.Call n es) pos fresh at = call_fault frame n es fresh at
fault_of_node frame _ pos fresh at = None

-- In `&*p` and `&p[k]` there is no access.
abbrev pub operand_fault_of_node : Frame → NodeOfViews → Pos → ℕ → State → Option Refusal
operand_fault_of_node frame (Node-F.Un op.Deref e) pos fresh at = None
operand_fault_of_node frame (Node-F.Index e f) pos fresh at = None
operand_fault_of_node frame n pos fresh at = fault_of_node frame n pos fresh at

-- an outcome, unless there is an error
abbrev pub by_fault : {A : Type 0} → Option Refusal → Outcome A → Outcome A
by_fault None o = o
by_fault (Some r) o = Err r

-- What is no pointer keeps its note.
abbrev pub noted_range : Note → Range → Note
noted_range note r = if is_pointer note.ctype then record note { range = r } else note

-- an expression with its own range noted
abbrev pub expr_made : Pos → Note → Range → NotedNode → NotedExpr
expr_made pos note r n = record { node = n; pos = pos; note = noted_range note r }

-- an expression with the range of each pointer in it noted, or its first error
abbrev pub expr_judged : NodeView → Pos → Note → ℕ → State → Outcome NotedExpr
expr_judged n pos note fresh at =
    bind (n.judged note.ctype fresh at) (λ m. by_fault (n.fault pos fresh at) (Ok (expr_made pos note (pointer_range note.ctype n 0 fresh at) m)))

-- the same of the operand of `&`, where `*` and `[` are no access
abbrev pub operand_judged : NodeView → Pos → Note → ℕ → State → Outcome NotedExpr
operand_judged n pos note fresh at =
    bind (n.judged note.ctype fresh at) (λ m. by_fault (n.operand_fault pos fresh at) (Ok (expr_made pos note (pointer_range note.ctype n 0 fresh at) m)))
