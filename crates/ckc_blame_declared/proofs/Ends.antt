-- The ends of bounds that are declared: what they lie from, and what they count.
use Rattle.std.proofs.Common.{◌≡◌, sym, subst, refl, inl, inr, arith, ℕ, zero, suc}
use Rattle.std.specs.Prelude.{◌⊎◌, ◌+◌, ◌^◌, ◌==◌, Bool, true, false, ◌&&◌, if◌then◌else◌, ℤ, pos, ◌+ℤ◌, int_div, Option, Some, None, is_none, slice_get, IfSome}
use Rattle.std.proofs.lemmas.Bool.{and_parts}
use Rattle.ckc_base.specs.declared.places.Pos.{Pos}
use Rattle.ckc_base.specs.Outcomes.{there_or}
use Rattle.ckc_base.proofs.Gives.{Gives}
use Rattle.ckc_types.specs.declared.types.Kind.{Kind}
use Rattle.ckc_types.specs.declared.types.Kind.TheVariants as kind
use Rattle.ckc_types.specs.declared.types.CType.{CType, CType-F, out-CType}
use Rattle.ckc_linear.specs.declared.forms.Base.{Base}
use Rattle.ckc_linear.specs.declared.forms.Base.TheVariants as base
use Rattle.ckc_linear.specs.declared.forms.Form.{Form}
use Rattle.ckc_syntax.specs.declared.tree.Name.{Name}
use Rattle.ckc_syntax.specs.declared.tree.Name.TheVariants as name
use Rattle.ckc_syntax.specs.declared.tree.Length.{Length}
use Rattle.ckc_syntax.specs.declared.tree.Limits.{Limits-F, out-Limits}
use Rattle.ckc_syntax.specs.declared.tree.Node.{out-Node}
use Rattle.ckc_typed.specs.declared.environment.Amount.{Amount}
use Rattle.ckc_typed.specs.declared.typed.Note.{Note}
use Rattle.ckc_typed.specs.declared.typed.StaticObject.{StaticObject}
use Rattle.ckc_typed.specs.Amounts.{amount, is_multiple}
use Rattle.ckc_typed.specs.Constants.{size_of}
use Rattle.ckc_typed.specs.Environment.{kind_of_array}
use Rattle.ckc_typed.specs.Operands.{same_element}
use Rattle.ckc_typed.specs.Trees.{NotedLimits, NotedNode, NotedExpr}
use Rattle.ckc_typed.specs.Types.{is_integer, is_pointer, is_pointer_form, element_of, kind_in, kind_of, same_type}
use Rattle.ckc_blame_sound.specs.ckc_bounds_points.specs.declared.frame.Bounds.{Bounds}
use Rattle.ckc_blame_sound.specs.ckc_bounds_points.specs.declared.frame.Bounds.TheVariants as bounds
use Rattle.ckc_blame_sound.specs.ckc_bounds_points.specs.declared.frame.Local.{Local}
use Rattle.ckc_blame_sound.specs.ckc_bounds_points.specs.declared.frame.Frame.{Frame}
use Rattle.ckc_blame_sound.specs.ckc_bounds_points.specs.Codes.{bad_limits}
use Rattle.ckc_blame_sound.specs.ckc_bounds_points.specs.Forms.{is_small, constant_form, moved_form, sum_of_forms, base_form, elements_of, elements}
use Rattle.ckc_blame_sound.specs.ckc_bounds_points.specs.Frames.{local_at, variable_of, variable}
use Rattle.ckc_blame_sound.specs.ckc_bounds_points.specs.Shown.{is_within}
use Rattle.ckc_blame_sound.specs.ckc_bounds_declared.specs.declared.limits.Holder.{Holder}
use Rattle.ckc_blame_sound.specs.ckc_bounds_declared.specs.declared.limits.Holder.TheVariants as holder
use Rattle.ckc_blame_sound.specs.ckc_bounds_declared.specs.Written.{own, variable_for, amount_with, amount_form, counted, is_checked, local_base, is_element, array_base, named_base, bound_with, bound, node_pieces, known_between, takes_ends, bounds_written, takes_bounds_kind, takes_bounds, bounds_of_kind, bounds_by_type, place_of_limits, bounds_taken, bounds_declared}
use Rattle.ckc_blame_sound.proofs.Same.{same_equal}

-- A local of a frame is a pointer to the elements of a type.
pub record IsLike (frame : Frame) (t : CType) (k : ℕ) : Type 0 where
  pub local : Local
  pub there : local_at frame k ≡ Some local
  pub pointer : is_pointer local.ctype ≡ true
  pub same : element_of t ≡ element_of local.ctype

-- What an end lies from: what has the bounds, such a local, or a static array.
abbrev pub IsFrom : Frame → Holder → CType → Option Base → Type 0
IsFrom frame h t b = (b ≡ Some (own h)) ⊎ (((k : ℕ) × (b ≡ Some (base.Local k)) × IsLike frame t k) ⊎ ((k : ℕ) × (b ≡ Some (base.Array k))))

-- A variable is the number zero or an integer local.
abbrev pub IsInteger : Frame → ℕ → Type 0
IsInteger frame zero = Unit {0}
IsInteger frame (suc k) = (l : Local) × (local_at frame k ≡ Some l) × (is_integer l.ctype ≡ true)

pub record IsEnd (frame : Frame) (h : Holder) (t : CType) (f : Form) : Type 0 where
  pub base : IsFrom frame h t f.base
  pub variable : IsInteger frame f.var

-- Known bounds of a type: it is a pointer, and both ends are such.
pub record IsKnown (frame : Frame) (h : Holder) (t : CType) (low high : Form) : Type 0 where
  pub pointer : is_pointer t ≡ true
  pub begins : IsEnd frame h t low
  pub ends : IsEnd frame h t high

abbrev pub AreKnown : Frame → Holder → CType → Bounds → Type 0
AreKnown frame h t bounds.Unknown = Unit {0}
AreKnown frame h t (bounds.Known low high) = IsKnown frame h t low high

-- ---- amounts

-- The variable of a form is an integer.
abbrev IsAmount : Frame → Form → Type 0
IsAmount frame f = IsInteger frame f.var

moved_is : (frame : Frame) (o : Option Form) (c : ℤ) → IfSome o (IsAmount frame) → IfSome (moved_form o c) (IsAmount frame)
moved_is frame None c h = tt
moved_is frame (Some f) c h = by (is_small f.add && is_small c)
  where
    by : (b : Bool) → IfSome (if b then Some (record f { add = f.add +ℤ c }) else None) (IsAmount frame)
    by true = h
    by false = tt

suc_is : (n : ℕ) → suc n ≡ n + 1
suc_is n = omega arith

variable_is : (frame : Frame) (k : ℕ) (o : Option Local) → local_at frame k ≡ o → IfSome (variable_of k o) (IsAmount frame)
variable_is frame k None e = tt
variable_is frame k (Some l) e = by (is_integer l.ctype) refl
  where
    by : (b : Bool) → is_integer l.ctype ≡ b → IfSome (if b then Some (record { base = None; var = k + 1; add = pos 0 }) else None) (IsAmount frame)
    by true is = subst (IsInteger frame) (suc_is k) (l, e, is)
    by false is = tt

named_is : (frame : Frame) (n : Name) → IfSome (variable frame n) (IsAmount frame)
named_is frame (name.Local k) = variable_is frame k (local_at frame k) refl
named_is frame (name.Static k) = tt
named_is frame (name.Function k) = tt
named_is frame (name.Tag k) = tt
named_is frame (name.Member k) = tt
named_is frame name.Getchar = tt
named_is frame name.Putchar = tt

variable_for_is : (frame : Frame) (h : Holder) (n : Name) → takes_ends h ≡ true → IfSome (variable_for frame h n) (IsAmount frame)
variable_for_is frame (holder.Local k) n e = named_is frame n
variable_for_is frame holder.Result n e = named_is frame n
variable_for_is frame holder.Static n e = tt
variable_for_is frame (holder.Member tag) n e = absurd cc

with_is : (frame : Frame) (h : Holder) (n : Option Name) (c : ℤ) → takes_ends h ≡ true → IfSome (amount_with frame h n c) (IsAmount frame)
with_is frame h None c e = tt
with_is frame h (Some n) c e = moved_is frame (variable_for frame h n) c (variable_for_is frame h n e)

amount_is : (frame : Frame) (h : Holder) (a : Option Amount) → takes_ends h ≡ true → IfSome (amount_form frame h a) (IsAmount frame)
amount_is frame h None e = tt
amount_is frame h (Some a) e = by (is_within (2 ^ 24) a.number)
  where
    by : (b : Bool) → IfSome (if b then amount_with frame h a.variable a.number else None) (IsAmount frame)
    by true = with_is frame h a.variable a.number e
    by false = tt

elements_is : (frame : Frame) (size : ℕ) (o : Option Form) → IfSome o (IsAmount frame) → IfSome (elements size o) (IsAmount frame)
elements_is frame size None h = tt
elements_is frame size (Some f) h = by (size == 1)
  where
    scaled : (b : Bool) → IfSome (if b then Some (constant_form (int_div f.add (pos size))) else None) (IsAmount frame)
    scaled true = tt
    scaled false = tt

    by : (b : Bool) → IfSome (if b then Some f else elements_of size f) (IsAmount frame)
    by true = h
    by false = scaled ((f.var == 0) && is_multiple f.add size)

-- ---- ends

-- a place without a variable
record IsPlace (frame : Frame) (h : Holder) (t : CType) (f : Form) : Type 0 where
  pub base : IsFrom frame h t f.base
  pub still : f.var ≡ 0

local_is : (frame : Frame) (h : Holder) (t : CType) (k : ℕ) (o : Option Local) → local_at frame k ≡ o → IfSome (local_base t k o) (IsPlace frame h t)
local_is frame h t k None e = tt
local_is frame h t k (Some l) e = by (is_checked (kind_of l.ctype)) (same_element t l.ctype) refl
  where
    like : same_element t l.ctype ≡ true → IsLike frame t k
    like s =
        let p = and_parts (is_pointer t) (is_pointer l.ctype && same_type (element_of t) (element_of l.ctype)) s in
        let q = and_parts (is_pointer l.ctype) (same_type (element_of t) (element_of l.ctype)) p.1 in
        record { local = l; there = e; pointer = q.0; same = same_equal (element_of t) (element_of l.ctype) q.1 }

    by : (b c : Bool) → same_element t l.ctype ≡ c → IfSome (if b && c then Some (base_form (base.Local k)) else None) (IsPlace frame h t)
    by true true s = record { base = inr (inl (k, refl, like s)); still = refl }
    by true false s = tt
    by false c s = tt

array_is : (frame : Frame) (h : Holder) (t : CType) (k : ℕ) (o : Option StaticObject) → IfSome (array_base t k o) (IsPlace frame h t)
array_is frame h t k None = tt
array_is frame h t k (Some o) = by (is_checked o.array && is_element t o.element)
  where
    by : (b : Bool) → IfSome (if b then Some (base_form (base.Array k)) else None) (IsPlace frame h t)
    by true = record { base = inr (inr (k, refl)); still = refl }
    by false = tt

base_is : (frame : Frame) (h : Holder) (t : CType) (n : Name) → IfSome (named_base frame t n) (IsPlace frame h t)
base_is frame h t (name.Local k) = local_is frame h t k (local_at frame k) refl
base_is frame h t (name.Static k) = array_is frame h t k (slice_get frame.statics k)
base_is frame h t (name.Function k) = tt
base_is frame h t (name.Tag k) = tt
base_is frame h t (name.Member k) = tt
base_is frame h t name.Getchar = tt
base_is frame h t name.Putchar = tt

sum_is : (frame : Frame) (h : Holder) (t : CType) (o p : Option Form) → IfSome o (IsPlace frame h t) → IfSome p (IsAmount frame) → IfSome (sum_of_forms o p) (IsEnd frame h t)
sum_is frame h t None p g i = tt
sum_is frame h t (Some f) None g i = tt
sum_is frame h t (Some f) (Some a) g i = by (a.var == 0) (f.var == 0)
  where
    still : IsInteger frame f.var
    still = subst (IsInteger frame) (sym g.still) tt

    small : (b : Bool) (e : Form) → IsEnd frame h t e → IfSome (if b then Some (record e { add = e.add +ℤ a.add }) else None) (IsEnd frame h t)
    small true e w = record { base = w.base; variable = w.variable }
    small false e w = tt

    by : (b c : Bool) → IfSome (if b then moved_form (Some f) a.add else (if c then moved_form (Some (record f { var = a.var })) a.add else None)) (IsEnd frame h t)
    by true c = small (is_small f.add && is_small a.add) f (record { base = g.base; variable = still })
    by false true = small (is_small f.add && is_small a.add) (record f { var = a.var }) (record { base = g.base; variable = i })
    by false false = tt

bound_is : (frame : Frame) (h : Holder) (t : CType) (p : _) → takes_ends h ≡ true → IfSome (bound_with frame h t p) (IsEnd frame h t)
bound_is frame h t None e = tt
bound_is frame h t (Some p) e = sum_is frame h t (named_base frame t p.name) (amount_form frame h p.by) (base_is frame h t p.name) (amount_is frame h p.by e)

own_is : (frame : Frame) (h : Holder) (t : CType) (c : ℤ) → IsEnd frame h t (record { base = Some (own h); var = 0; add = c })
own_is frame h t c = record { base = inl refl; variable = tt }

counted_is : (frame : Frame) (h : Holder) (t : CType) (o : Option Form) → is_pointer t ≡ true → IfSome o (IsAmount frame) → IfSome (counted (own h) o) (AreKnown frame h t)
counted_is frame h t None e i = tt
counted_is frame h t (Some f) e i = record { pointer = e; begins = own_is frame h t (pos 0); ends = record { base = inl refl; variable = i } }

between_is : (frame : Frame) (h : Holder) (t : CType) (o p : Option Form) → is_pointer t ≡ true → IfSome o (IsEnd frame h t) → IfSome p (IsEnd frame h t)
    → IfSome (known_between o p) (AreKnown frame h t)
between_is frame h t None p e i j = tt
between_is frame h t (Some f) None e i j = tt
between_is frame h t (Some f) (Some g) e i j = record { pointer = e; begins = i; ends = j }

written_is : (frame : Frame) (h : Holder) (t : CType) (l : Limits-F Name Note NotedLimits NotedNode NotedExpr) → takes_ends h ≡ true → is_pointer t ≡ true
    → IfSome (bounds_written frame h t l) (AreKnown frame h t)
written_is frame h t (Limits-F.Count e at) i p = counted_is frame h t (amount_form frame h (amount frame.structs e)) p (amount_is frame h (amount frame.structs e) i)
written_is frame h t (Limits-F.ByteCount e at) i p =
    let size = size_of frame.structs (element_of t) in
    counted_is frame h t (elements size (amount_form frame h (amount frame.structs e))) p
    (elements_is frame size (amount_form frame h (amount frame.structs e)) (amount_is frame h (amount frame.structs e) i))
written_is frame h t (Limits-F.Between e f at) i p = by (takes_ends h)
  where
    by : (b : Bool) → IfSome (if b then known_between (bound frame h t e) (bound frame h t f) else None) (AreKnown frame h t)
    by true =
        between_is frame h t (bound frame h t e) (bound frame h t f) p (bound_is frame h t (node_pieces frame.structs (out-Node Name Note e.node)) i)
        (bound_is frame h t (node_pieces frame.structs (out-Node Name Note f.node)) i)
    by false = tt
written_is frame h t (Limits-F.Unknown at) i p = tt

-- ---- the bounds of a declaration

kind_in_pointer : (f : CType-F CType) (k : Kind) → kind_in f ≡ Some k → is_pointer_form f ≡ true
kind_in_pointer (CType-F.Pointer k t) j e = refl
kind_in_pointer CType-F.Int j e = absurd cc
kind_in_pointer CType-F.Unsigned j e = absurd cc
kind_in_pointer CType-F.Char j e = absurd cc
kind_in_pointer CType-F.Void j e = absurd cc
kind_in_pointer (CType-F.Struct tag) j e = absurd cc

kind_is : (t : CType) (o : Option Kind) (b : Bool) → kind_of t ≡ o → (takes_bounds_kind o && b) ≡ true → is_pointer t ≡ true
kind_is t (Some k) b e f = kind_in_pointer (out-CType t) k e
kind_is t None b e f = absurd cc

taken_pointer : (t : CType) (length : Length) → takes_bounds t length ≡ true → is_pointer t ≡ true
taken_pointer t length e = kind_is t (kind_of t) (is_none (kind_of_array length)) refl e

by_type_is : (frame : Frame) (h : Holder) (t : CType) → AreKnown frame h t (bounds_by_type (own h) t)
by_type_is frame h t = by (kind_of t) refl
  where
    by : (o : Option Kind) → kind_of t ≡ o → AreKnown frame h t (bounds_of_kind (own h) o)
    by (Some kind.One) e = record { pointer = kind_in_pointer (out-CType t) kind.One e; begins = own_is frame h t (pos 0); ends = own_is frame h t (pos 1) }
    by (Some kind.Nt) e = record { pointer = kind_in_pointer (out-CType t) kind.Nt e; begins = own_is frame h t (pos 0); ends = own_is frame h t (pos 0) }
    by (Some kind.Raw) e = tt
    by (Some kind.Arr) e = tt
    by None e = tt

pub there_is : (P : Bounds → Type 0) (code : ℕ) (at : Pos) (o : Option Bounds) → IfSome o P → Gives P (there_or code at o)
there_is P code at None h = tt
there_is P code at (Some b) h = h

-- the bounds of a local or a result, if they are known
pub declared_is : (frame : Frame) (h : Holder) (t : CType) (length : Length) (l : Option NotedLimits) → takes_ends h ≡ true → Gives (AreKnown frame h t) (bounds_declared frame h t length l)
declared_is frame h t length None e = by_type_is frame h t
declared_is frame h t length (Some l) e = there_is (AreKnown frame h t) bad_limits (place_of_limits l) (bounds_taken frame h t length l) (by (takes_bounds t length) refl)
  where
    by : (b : Bool) → takes_bounds t length ≡ b → IfSome (if b then bounds_written frame h t (out-Limits Name Note l) else None) (AreKnown frame h t)
    by true is = written_is frame h t (out-Limits Name Note l) e (taken_pointer t length is)
    by false is = tt
