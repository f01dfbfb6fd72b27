-- The bounds of pointers in memory lie from their own values.
use Rattle.std.proofs.Common.{◌≡◌, sym, subst, refl, ℕ, zero, suc, List, [], ◌∷◌}
use Rattle.std.specs.Prelude.{Bool, true, false, if◌then◌else◌, Option, Some, None, slice_get, unwrap_or, IfSome}
use Rattle.ckc_base.proofs.Gives.{Gives}
use Rattle.ckc_types.specs.declared.types.CType.{CType}
use Rattle.ckc_types.specs.declared.types.Structs.{Structs}
use Rattle.ckc_types.specs.declared.types.Kind.{Kind}
use Rattle.ckc_types.specs.declared.types.Kind.TheVariants as kind
use Rattle.ckc_types.specs.declared.types.MemberBounds.{MemberBounds}
use Rattle.ckc_types.specs.declared.types.MemberBounds.TheVariants as written
use Rattle.ckc_linear.specs.declared.forms.Base.TheVariants as base
use Rattle.ckc_linear.specs.declared.forms.Form.{Form}
use Rattle.ckc_syntax.specs.declared.tree.Item.TheVariants as item
use Rattle.ckc_syntax.specs.declared.tree.Length.{Length}
use Rattle.ckc_syntax.specs.declared.tree.Limits.{Limits-F, out-Limits}
use Rattle.ckc_syntax.specs.declared.tree.Name.{Name}
use Rattle.ckc_syntax.specs.declared.tree.Name.TheVariants as name
use Rattle.ckc_syntax.specs.declared.tree.Node.{Node-F, out-Node}
use Rattle.ckc_typed.specs.declared.typed.Note.{Note}
use Rattle.ckc_typed.specs.declared.typed.Typed.{Typed}
use Rattle.ckc_typed.specs.Amounts.{amount}
use Rattle.ckc_typed.specs.Constants.{size_of}
use Rattle.ckc_typed.specs.Trees.{NotedDecl, NotedHead, NotedStmt, NotedItem, NotedLimits, NotedNode, NotedExpr, NotedLayer}
use Rattle.ckc_typed.specs.Types.{element_of, kind_of, type_written}
use Rattle.ckc_blame_sound.specs.ckc_bounds_points.specs.declared.frame.Bounds.{Bounds}
use Rattle.ckc_blame_sound.specs.ckc_bounds_points.specs.declared.frame.Bounds.TheVariants as bounds
use Rattle.ckc_blame_sound.specs.ckc_bounds_points.specs.declared.frame.Frame.{Frame}
use Rattle.ckc_blame_sound.specs.ckc_bounds_points.specs.Codes.{bad_limits}
use Rattle.ckc_blame_sound.specs.ckc_bounds_points.specs.Forms.{elements}
use Rattle.ckc_blame_sound.specs.ckc_bounds_declared.specs.declared.limits.Holder.TheVariants as holder
use Rattle.ckc_blame_sound.specs.ckc_bounds_declared.specs.Written.{amount_form, counted, bounds_written, takes_bounds, bounds_of_kind, bounds_by_type, place_of_limits, bounds_declared}
use Rattle.ckc_blame_sound.specs.ckc_bounds_stores.specs.Targets.{bounds_by_member, written_there, object_named, written_in, bounds_by, memory_bounds}
use Rattle.ckc_blame_sound.specs.ckc_bounds_views.specs.declared.variables.Member.{Member}
use Rattle.ckc_blame_sound.specs.ckc_bounds_views.specs.Fresh.{member_bounds}
use Rattle.ckc_blame_sound.specs.ckc_bounds_views.specs.Views.{view}
use Rattle.ckc_blame_sound.specs.ckc_bounds.specs.Declarations.{object_bounds, object_bounds_in, objects_of}
use Rattle.ckc_blame_sound.specs.ckc_bounds.specs.Frames.{structs_frame}
use Rattle.ckc_source.specs.Code.{Function}
use Rattle.ckc_source.specs.declared.expr.Count.{Count}
use Rattle.ckc_build_values.specs.Kinds.{count_of_kind}
use Rattle.ckc_build_values.specs.Members.{count_by}
use Rattle.ckc_blame_sound.specs.Settings.{Setting, IsFunction, setting_of}
use Rattle.ckc_blame_sound.specs.Memory.{AreOwn}
use Rattle.ckc_blame_declared.proofs.Ends.{there_is}
use Rattle.ckc_blame_declared.proofs.Locals.{known}

-- known bounds are such
abbrev IsOwn : Bounds → Type 0
IsOwn bounds.Unknown = Unit {0}
IsOwn (bounds.Known low high) = AreOwn low high

own_kind : (k : Option Kind) → IsOwn (bounds_of_kind (base.Value 0) k)
own_kind (Some kind.One) = record { begins = refl; ends = refl }
own_kind (Some kind.Nt) = record { begins = refl; ends = refl }
own_kind (Some kind.Raw) = tt
own_kind (Some kind.Arr) = tt
own_kind None = tt

own_member : (t : CType) (b : MemberBounds) → IsOwn (bounds_by_member t b)
own_member t written.Nothing = own_kind (kind_of t)
own_member t written.Unknown = tt
own_member t written.NoForm = tt
own_member t (written.Fixed c) = record { begins = refl; ends = refl }
own_member t (written.Named m c) = record { begins = refl; ends = refl }

own_counted : (o : Option Form) → IfSome (counted (base.Value 0) o) IsOwn
own_counted None = tt
own_counted (Some f) = record { begins = refl; ends = refl }

own_written : (frame : Frame) (t : CType) (l : Limits-F Name Note NotedLimits NotedNode NotedExpr) → IfSome (bounds_written frame holder.Static t l) IsOwn
own_written frame t (Limits-F.Count e at) = own_counted (amount_form frame holder.Static (amount frame.structs e))
own_written frame t (Limits-F.ByteCount e at) = own_counted (elements (size_of frame.structs (element_of t)) (amount_form frame holder.Static (amount frame.structs e)))
own_written frame t (Limits-F.Between e f at) = tt
own_written frame t (Limits-F.Unknown at) = tt

own_declared : (frame : Frame) (t : CType) (length : Length) (l : Option NotedLimits) → Gives IsOwn (bounds_declared frame holder.Static t length l)
own_declared frame t length None = own_kind (kind_of t)
own_declared frame t length (Some l) = there_is IsOwn bad_limits (place_of_limits l) _ (by (takes_bounds t length))
  where
    by : (b : Bool) → IfSome (if b then bounds_written frame holder.Static t (out-Limits Name Note l) else None) IsOwn
    by true = own_written frame t (out-Limits Name Note l)
    by false = tt

own_object : (frame : Frame) (d : NotedDecl) → IfSome (object_bounds frame d) IsOwn
own_object frame d = by d.bounds
  where
    by : (o : Option NotedLimits) → IfSome (object_bounds_in frame d o) IsOwn
    by None = tt
    by (Some l) = known IsOwn tt _ (own_declared frame (type_written d.ctype) d.length d.bounds)

-- ---- objects

-- the bounds that are written at an object are such, if some are
abbrev IsOwnIf : Option (Option Bounds) → Type 0
IsOwnIf o = IfSome (written_there o) IsOwn

own_there : (o : Option Bounds) → IfSome o IsOwn → IsOwnIf (Some o)
own_there None h = tt
own_there (Some b) h = h

own_objects : (frame : Frame) (is : List NotedItem) (k : ℕ) → IsOwnIf (slice_get (objects_of frame is) k)
own_objects frame [] k = tt
own_objects frame (item.Static d ∷ is) zero = own_there (object_bounds frame d) (own_object frame d)
own_objects frame (item.Static d ∷ is) (suc k) = own_objects frame is k
own_objects frame (item.Directive d ∷ is) k = own_objects frame is k
own_objects frame (item.Tag n at ∷ is) k = own_objects frame is k
own_objects frame (item.Struct n ms at ∷ is) k = own_objects frame is k
own_objects frame (item.Proto h ∷ is) k = own_objects frame is k
own_objects frame (item.Function h body ∷ is) k = own_objects frame is k

module _ (frame : Frame) (objects : (k : ℕ) → IsOwnIf (slice_get frame.objects k)) where
  own_name : (n : Name) → IfSome (object_named frame n) IsOwn
  own_name (name.Static k) = objects k
  own_name (name.Local k) = tt
  own_name (name.Function k) = tt
  own_name (name.Tag k) = tt
  own_name (name.Member k) = tt
  own_name name.Getchar = tt
  own_name name.Putchar = tt

  own_layer : (x : NotedLayer) → IfSome (written_in frame x) IsOwn
  own_layer (Node-F.Name n) = own_name n
  own_layer x = tt

  own_or : (o : Option Bounds) (b : Bounds) → IfSome o IsOwn → IsOwn b → IsOwn (unwrap_or o b)
  own_or None b h g = g
  own_or (Some c) b h g = h

  own_place : (e : NotedExpr) (m : Option Member) → IsOwn (bounds_by frame e m)
  own_place e (Some m) = own_member e.note.ctype (member_bounds frame.structs m)
  own_place e None = own_or (written_in frame (out-Node Name Note e.node)) (bounds_by_type (base.Value 0) e.note.ctype) (own_layer (out-Node Name Note e.node)) (own_kind (kind_of e.note.ctype))

  own_memory : (e : NotedExpr) (low high : Form) → memory_bounds frame e ≡ bounds.Known low high → AreOwn low high
  own_memory e low high is = subst IsOwn is (own_place e (view frame e).member)

abbrev Owns : Setting → Type 0
Owns s = (e : NotedExpr) (low high : Form) → memory_bounds s.frame e ≡ bounds.Known low high → AreOwn low high

setting_owns : (p : Typed) (h : NotedHead) (body : NotedStmt) → Owns (setting_of p h body)
unfolding setting_of
setting_owns p h body = own_memory (setting_of p h body).frame (own_objects (structs_frame p.layout p.statics) p.tree.items)

pub memory_bounds_are_own : (p : Typed) (s : Setting) (f : Function) (e : NotedExpr) (low high : Form) → IsFunction p s f → memory_bounds s.frame e ≡ bounds.Known low high → AreOwn low high
memory_bounds_are_own p s f e low high is k = subst Owns (sym is.judged) (setting_owns p is.head is.body) e low high k

-- ---- what a program counts

abbrev AreKnown : Bounds → Type 0
AreKnown b = (low : Form) × (high : Form) × (b ≡ bounds.Known low high)

counted_kind : (k : Option Kind) (count : Count) → count_of_kind k ≡ Some count → AreKnown (bounds_of_kind (base.Value 0) k)
counted_kind (Some kind.One) count e = (_, _, refl)
counted_kind (Some kind.Nt) count e = (_, _, refl)
counted_kind (Some kind.Raw) count e = absurd cc
counted_kind (Some kind.Arr) count e = absurd cc
counted_kind None count e = absurd cc

pub counted_members_have_bounds : (structs : Structs) (tag : ℕ) (t : CType) (b : MemberBounds) (count : Count) → count_by structs tag t b ≡ Some count
    → (low : Form) × (high : Form) × (bounds_by_member t b ≡ bounds.Known low high)
counted_members_have_bounds structs tag t written.Nothing count e = counted_kind (kind_of t) count e
counted_members_have_bounds structs tag t written.Unknown count e = absurd cc
counted_members_have_bounds structs tag t written.NoForm count e = absurd cc
counted_members_have_bounds structs tag t (written.Fixed c) count e = (_, _, refl)
counted_members_have_bounds structs tag t (written.Named m c) count e = (_, _, refl)
