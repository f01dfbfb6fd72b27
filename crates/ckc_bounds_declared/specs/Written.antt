-- Declared bounds (Checked C specification 0.9, section 3.1): which forms they may have, and what they stand for.
use Rattle.std.specs.Prelude.{ℕ, ◌+◌, ◌-◌, ◌^◌, ◌==◌, nat_lt, Bool, true, false, ◌&&◌, if◌then◌else◌, ℤ, pos, Option, None, Some, is_none, slice_get, Ok}
use Rattle.std.specs.List.{list_any}
use Rattle.ckc_base.specs.declared.places.Pos.{Pos}
use Rattle.ckc_base.specs.Outcomes.{Outcome, there_or}
use Rattle.ckc_types.specs.declared.types.Kind.{Kind}
use Rattle.ckc_types.specs.declared.types.Kind.TheVariants as kind
use Rattle.ckc_types.specs.declared.types.CType.{CType, CType-F, out-CType}
use Rattle.ckc_types.specs.declared.types.Structs.{Structs}
use Rattle.ckc_types.specs.Layout.{members_of}
use Rattle.ckc_linear.specs.declared.forms.Base.{Base}
use Rattle.ckc_linear.specs.declared.forms.Base.TheVariants as base
use Rattle.ckc_linear.specs.declared.forms.Form.{Form}
use Rattle.ckc_syntax.specs.declared.tree.Name.{Name}
use Rattle.ckc_syntax.specs.declared.tree.Name.TheVariants as name
use Rattle.ckc_syntax.specs.declared.tree.TreeOp.{TreeOp}
use Rattle.ckc_syntax.specs.declared.tree.TreeOp.TheVariants as op
use Rattle.ckc_syntax.specs.declared.tree.Length.{Length}
use Rattle.ckc_syntax.specs.declared.tree.Limits.{Limits-F, out-Limits}
use Rattle.ckc_syntax.specs.declared.tree.Node.{Node-F, out-Node}
use Rattle.ckc_typed.specs.declared.environment.Amount.{Amount}
use Rattle.ckc_typed.specs.declared.typed.Note.{Note}
use Rattle.ckc_typed.specs.declared.typed.StaticObject.{StaticObject}
use Rattle.ckc_typed.specs.Trees.{NotedLimits, NotedNode, NotedExpr, NotedLayer}
use Rattle.ckc_typed.specs.Types.{is_integer, element_of, kind_of, same_type}
use Rattle.ckc_typed.specs.Environment.{kind_of_array}
use Rattle.ckc_typed.specs.Constants.{size_of}
use Rattle.ckc_typed.specs.Amounts.{variable_in, number_in, negative, fixed, sum_amount, amount}
use Rattle.ckc_typed.specs.Operands.{same_element}
use Rattle.ckc_bounds_points.specs.declared.frame.Bounds.{Bounds}
use Rattle.ckc_bounds_points.specs.declared.frame.Bounds.TheVariants as bounds
use Rattle.ckc_bounds_points.specs.declared.frame.Local.{Local}
use Rattle.ckc_bounds_points.specs.declared.frame.Frame.{Frame}
use Rattle.ckc_bounds_declared.specs.declared.limits.Holder.{Holder}
use Rattle.ckc_bounds_declared.specs.declared.limits.Holder.TheVariants as holder
use Rattle.ckc_bounds_declared.specs.declared.limits.Pieces.{Pieces}
use Rattle.ckc_bounds_points.specs.Shown.{is_within}
use Rattle.ckc_bounds_points.specs.Codes.{bad_limits}
use Rattle.ckc_bounds_points.specs.Frames.{local_at, variable}
use Rattle.ckc_bounds_points.specs.Forms.{constant_form, moved_form, sum_of_forms, base_form, elements}

-- What bounds start from that name no other pointer: the local itself, and for what is no local its value.
abbrev pub own : Holder → Base
own (holder.Local k) = base.Local k
own holder.Result = base.Value 0
own holder.Static = base.Value 0
own (holder.Member tag) = base.Value 0

-- whether the structure has an integer member m
abbrev pub is_integer_member : Structs → ℕ → ℕ → Bool
is_integer_member structs tag m = list_any (λ s. (s.name == m) && is_integer s.ctype) (members_of structs tag)

-- a member of the structure: in the bounds of members, member m is variable m + 1
abbrev pub member_variable : Structs → ℕ → Name → Option Form
member_variable structs tag (name.Member m) =
    if is_integer_member structs tag m && nat_lt m (2 ^ 32 - 1) then Some (record { base = None; var = m + 1; add = pos 0 }) else None
member_variable structs tag _ = None

-- The variables of declared bounds are integer locals, integer members of the structure, and for an object none. Of a
-- result they are parameters, since nothing else is seen there.
abbrev pub variable_for : Frame → Holder → Name → Option Form
variable_for frame (holder.Local k) n = variable frame n
variable_for frame holder.Result n = variable frame n
variable_for frame holder.Static n = None
variable_for frame (holder.Member tag) n = member_variable frame.structs tag n

-- a variable and a constant, or the constant alone, as a form
abbrev pub amount_with : Frame → Holder → Option Name → ℤ → Option Form
amount_with frame h None c = Some (constant_form c)
amount_with frame h (Some n) c = moved_form (variable_for frame h n) c

-- An amount: a constant, a variable, or a variable and a constant, which is within 16,777,216 either way.
abbrev pub amount_form : Frame → Holder → Option Amount → Option Form
amount_form frame h None = None
amount_form frame h (Some a) = if is_within (2 ^ 24) a.number then amount_with frame h a.variable a.number else None

-- from the value itself so many elements up
abbrev pub counted : Base → Option Form → Option Bounds
counted b None = None
counted b (Some f) = Some (bounds.Known (base_form b) (record f { base = Some b }))

-- whether a pointer is of a checked kind
abbrev pub is_checked : Option Kind → Bool
is_checked (Some kind.One) = true
is_checked (Some kind.Arr) = true
is_checked (Some kind.Nt) = true
is_checked _ = false

-- the place of a local that is a checked pointer to the same type as t
abbrev pub local_base : CType → ℕ → Option Local → Option Form
local_base t k None = None
local_base t k (Some l) = if is_checked (kind_of l.ctype) && same_element t l.ctype then Some (base_form (base.Local k)) else None

-- whether a type, by its outermost part, is a pointer to the type u
abbrev pub is_element_in : CType-F CType → CType → Bool
is_element_in (CType-F.Pointer k t) u = same_type t u
is_element_in _ u = false

-- whether a pointer points to a type
abbrev pub is_element : CType → CType → Bool
is_element t u = is_element_in (out-CType t) u

-- the place of a static checked array whose elements are of the type that t points to
abbrev pub array_base : CType → ℕ → Option StaticObject → Option Form
array_base t k None = None
array_base t k (Some o) = if is_checked o.array && is_element t o.element then Some (base_form (base.Array k)) else None

-- a local checked pointer or a static checked array with the element type of t
abbrev pub named_base : Frame → CType → Name → Option Form
named_base frame t (name.Local k) = local_base t k (local_at frame k)
named_base frame t (name.Static k) = array_base t k (slice_get frame.statics k)
named_base frame t _ = None

-- the pointer and the amount of an end of bounds, if the pointer is a name
abbrev pub named_pieces : Option Name → Option Amount → Option Pieces
named_pieces None by = None
named_pieces (Some n) by = Some (record { name = n; by = by })

-- the amount in `p - c`, by the number -c
abbrev pub negative_amount : Option ℤ → Option Amount
negative_amount None = None
negative_amount (Some c) = Some (fixed c)

-- the pointer and the amount of `p + k`, `p - c`, `p + x + k` and `p + x - c`
abbrev pub sum_pieces : Structs → TreeOp → NotedLayer → NotedExpr → Option Pieces
sum_pieces structs op.Add (Node-F.Name n) k = Some (record { name = n; by = amount structs k })
sum_pieces structs op.Sub (Node-F.Name n) k = Some (record { name = n; by = negative_amount (negative (number_in structs k)) })
sum_pieces structs op.Add (Node-F.Bin op.Add p x) k = named_pieces (variable_in p) (sum_amount structs op.Add x k)
sum_pieces structs op.Sub (Node-F.Bin op.Add p x) k = named_pieces (variable_in p) (sum_amount structs op.Sub x k)
sum_pieces structs _ _ k = None

-- the pointer and the amount of an end of `bounds(f, g)`
abbrev pub node_pieces : Structs → NotedLayer → Option Pieces
node_pieces structs (Node-F.Name n) = Some (record { name = n; by = Some (fixed (pos 0)) })
node_pieces structs (Node-F.Bin o e k) = sum_pieces structs o (out-Node Name Note e.node) k
node_pieces structs _ = None

-- the form of an end of `bounds(f, g)`, by its pointer and its amount
abbrev pub bound_with : Frame → Holder → CType → Option Pieces → Option Form
bound_with frame h t None = None
bound_with frame h t (Some p) = sum_of_forms (named_base frame t p.name) (amount_form frame h p.by)

-- An end of `bounds(f, g)`: a pointer, a pointer and an amount, or a pointer less a constant. `p + n - 1` and `p + n + 1`
-- are p and the amount after it, as they are spelled.
abbrev pub bound : Frame → Holder → CType → NotedExpr → Option Form
bound frame h t e = bound_with frame h t (node_pieces frame.structs (out-Node Name Note e.node))

-- known bounds from one end up to another, if both have a form
abbrev pub known_between : Option Form → Option Form → Option Bounds
known_between (Some f) (Some g) = Some (bounds.Known f g)
known_between (Some f) None = None
known_between None g = None

-- `bounds(f, g)` is for locals, parameters and results alone.
abbrev pub takes_ends : Holder → Bool
takes_ends (holder.Local k) = true
takes_ends holder.Result = true
takes_ends holder.Static = false
takes_ends (holder.Member tag) = false

-- the bounds that are written, if they have one of the forms that they may have
abbrev pub bounds_written : Frame → Holder → CType → Limits-F Name Note NotedLimits NotedNode NotedExpr → Option Bounds
bounds_written frame h t (Limits-F.Count e at) = counted (own h) (amount_form frame h (amount frame.structs e))
bounds_written frame h t (Limits-F.ByteCount e at) =
    counted (own h) (elements (size_of frame.structs (element_of t)) (amount_form frame h (amount frame.structs e)))
bounds_written frame h t (Limits-F.Between e f at) =
    if takes_ends h then known_between (bound frame h t e) (bound frame h t f) else None
bounds_written frame h t (Limits-F.Unknown at) = Some bounds.Unknown

-- whether a pointer of the kind may have bounds
abbrev pub takes_bounds_kind : Option Kind → Bool
takes_bounds_kind (Some kind.Arr) = true
takes_bounds_kind (Some kind.Nt) = true
takes_bounds_kind _ = false

-- Only what is an `_Array_ptr` or an `_Nt_array_ptr`, and no array, may have bounds.
abbrev pub takes_bounds : CType → Length → Bool
takes_bounds t length = takes_bounds_kind (kind_of t) && is_none (kind_of_array length)

-- the bounds of a pointer with none written, by its kind
abbrev pub bounds_of_kind : Base → Option Kind → Bounds
bounds_of_kind b (Some kind.One) = bounds.Known (base_form b) (record { base = Some b; var = 0; add = pos 1 })
bounds_of_kind b (Some kind.Nt) = bounds.Known (base_form b) (base_form b)
bounds_of_kind b _ = bounds.Unknown

-- If none are written: a `_Ptr` is `count(1)`, an `_Nt_array_ptr` is `count(0)`, else they are unknown.
abbrev pub bounds_by_type : Base → CType → Bounds
bounds_by_type b t = bounds_of_kind b (kind_of t)

-- the place of the first token of bounds, by their form
abbrev pub place_in : {A L M E : Type 0} → Limits-F Name A L M E → Pos
place_in (Limits-F.Count e at) = at
place_in (Limits-F.ByteCount e at) = at
place_in (Limits-F.Between e f at) = at
place_in (Limits-F.Unknown at) = at

-- the place of the first token of bounds
abbrev pub place_of_limits : NotedLimits → Pos
place_of_limits l = place_in (out-Limits Name Note l)

-- the bounds that are written, if the declared type may have some
abbrev pub bounds_taken : Frame → Holder → CType → Length → NotedLimits → Option Bounds
bounds_taken frame h t length l =
    if takes_bounds t length then bounds_written frame h t (out-Limits Name Note l) else None

-- What a declaration's bounds are, or E603 at their first token if they have no such form: `count(n + 1)` is
-- (p, p + n + 1), and `count(n * 2)` is refused.
abbrev pub bounds_declared : Frame → Holder → CType → Length → Option NotedLimits → Outcome Bounds
bounds_declared frame h t length None = Ok (bounds_by_type (own h) t)
bounds_declared frame h t length (Some l) = there_or bad_limits (place_of_limits l) (bounds_taken frame h t length l)
