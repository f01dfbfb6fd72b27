-- The constants in declared bounds are at most 2^24 either way.
use Rattle.std.proofs.Common.{◌≡◌, refl, sym, subst, arith, ℕ, suc, ◌+◌, ◌-◌, div-le_self, Bool, true, false}
use Rattle.std.specs.Prelude.{◌^◌, ◌==◌, nat_lt, ◌&&◌, if◌then◌else◌, ℤ, pos, negsuc, neg_ℤ, ◌≤ℤ◌, ◌+ℤ◌, int_le, int_div, Option, None, Some, Ok, IfSome, slice_get}
use Rattle.std.proofs.lemmas.Int.{ints}
use Rattle.ckc_base.specs.declared.places.Pos.{Pos}
use Rattle.ckc_base.specs.Outcomes.{there_or}
use Rattle.ckc_types.specs.declared.types.CType.{CType}
use Rattle.ckc_types.specs.declared.types.Kind.{Kind}
use Rattle.ckc_types.specs.declared.types.Kind.TheVariants as kind
use Rattle.ckc_types.specs.declared.types.Structs.{Structs}
use Rattle.ckc_linear.specs.declared.forms.Base.{Base}
use Rattle.ckc_linear.specs.declared.forms.Base.TheVariants as base
use Rattle.ckc_linear.specs.declared.forms.Form.{Form}
use Rattle.ckc_syntax.specs.declared.tree.Name.{Name}
use Rattle.ckc_syntax.specs.declared.tree.Name.TheVariants as name
use Rattle.ckc_syntax.specs.declared.tree.Length.{Length}
use Rattle.ckc_syntax.specs.declared.tree.Limits.{Limits-F, out-Limits}
use Rattle.ckc_syntax.specs.declared.tree.Node.{out-Node}
use Rattle.ckc_typed.specs.declared.environment.Amount.{Amount}
use Rattle.ckc_typed.specs.declared.typed.Note.{Note}
use Rattle.ckc_typed.specs.declared.typed.StaticObject.{StaticObject}
use Rattle.ckc_typed.specs.Amounts.{amount, is_multiple}
use Rattle.ckc_typed.specs.Constants.{size_of}
use Rattle.ckc_typed.specs.Operands.{same_element}
use Rattle.ckc_typed.specs.Trees.{NotedLimits, NotedNode, NotedExpr}
use Rattle.ckc_typed.specs.Types.{is_integer, kind_of, element_of}
use Rattle.ckc_checks_operands.specs.Compilable.{IsSmall}
use Rattle.ckc_blame_steps.specs.ckc_bounds_points.specs.declared.frame.Bounds.{Bounds}
use Rattle.ckc_blame_steps.specs.ckc_bounds_points.specs.declared.frame.Bounds.TheVariants as bounds
use Rattle.ckc_blame_steps.specs.ckc_bounds_points.specs.declared.frame.Frame.{Frame}
use Rattle.ckc_blame_steps.specs.ckc_bounds_points.specs.declared.frame.Local.{Local}
use Rattle.ckc_blame_steps.specs.ckc_bounds_points.specs.Codes.{bad_limits}
use Rattle.ckc_blame_steps.specs.ckc_bounds_points.specs.Forms.{is_small, constant_form, moved_form, sum_of_forms, base_form, elements_of, elements}
use Rattle.ckc_blame_steps.specs.ckc_bounds_points.specs.Frames.{local_at, variable_of, variable}
use Rattle.ckc_blame_steps.specs.ckc_bounds_points.specs.Shown.{is_within}
use Rattle.ckc_blame_steps.specs.ckc_bounds.specs.ckc_bounds_declared.specs.declared.limits.Holder.{Holder}
use Rattle.ckc_blame_steps.specs.ckc_bounds.specs.ckc_bounds_declared.specs.declared.limits.Holder.TheVariants as holder
use Rattle.ckc_blame_steps.specs.ckc_bounds.specs.ckc_bounds_declared.specs.Written.{own, is_integer_member, member_variable, variable_for, amount_with, amount_form, counted, is_checked, local_base, is_element, array_base, named_base, bound_with, bound, node_pieces, known_between, takes_ends, bounds_written, takes_bounds, bounds_of_kind, bounds_by_type, place_of_limits, bounds_taken, bounds_declared}

-- a number at most 2^24 either way
abbrev pub IsClose : ℤ → Type 0
IsClose c = (neg_ℤ (pos (2 ^ 24)) ≤ℤ c) × (c ≤ℤ pos (2 ^ 24))

-- bounds with such numbers
abbrev pub AreClose : Bounds → Type 0
AreClose bounds.Unknown = Unit {0}
AreClose (bounds.Known f g) = IsClose f.add × IsClose g.add

-- ---- numbers

zero_close : IsClose (pos 0)
zero_close = (omega (arith, ints), omega (arith, ints))

one_close : IsClose (pos 1)
one_close = (omega (arith, ints), omega (arith, ints))

-- such a number fits in a word
pub small_of_close : (c : ℤ) → IsClose c → IsSmall c
small_of_close c h = let l = h.0 in let u = h.1 in (omega (arith, ints, l), omega (arith, ints, u))

-- and so does the next one
pub next_small : (c : ℤ) → IsClose c → IsSmall (c +ℤ pos 1)
next_small c h = let l = h.0 in let u = h.1 in (omega (arith, ints, l), omega (arith, ints, u))

least : (x y : ℤ) → int_le x y ≡ true → x ≤ℤ y
least x y e = grind (arith, ints)

both : (a b : Bool) → (a && b) ≡ true → (a ≡ true) × (b ≡ true)
both true b e = (refl, e)
both false b e = absurd cc

pub within_close : (c : ℤ) → is_within (2 ^ 24) c ≡ true → IsClose c
within_close c e =
    let b = both (int_le (neg_ℤ (pos (2 ^ 24))) c) (int_le c (pos (2 ^ 24))) e in
    (least (neg_ℤ (pos (2 ^ 24))) c b.0, least c (pos (2 ^ 24)) b.1)

-- a quotient is no larger
pub quotient_close : (c : ℤ) (size : ℕ) → IsClose c → IsClose (int_div c (pos size))
quotient_close (pos n) size h = let u = h.1 in let less = div-le_self n size in (omega (arith, ints), omega (arith, ints, less, u))
quotient_close (negsuc n) size h = let l = h.0 in let less = div-le_self (suc n) size in (omega (arith, ints, less, l), omega (arith, ints))

zero_plus : (c : ℤ) → pos 0 +ℤ c ≡ c
zero_plus c = omega (arith, ints)

after_zero : (a c : ℤ) → a ≡ pos 0 → IsClose c → IsClose (a +ℤ c)
after_zero a c z h = subst (λ x. IsClose (x +ℤ c)) (sym z) (subst IsClose (sym (zero_plus c)) h)

-- ---- amounts

abbrev HasClose : Form → Type 0
HasClose f = IsClose f.add

-- a form without a number
abbrev IsBare : Form → Type 0
IsBare f = f.add ≡ pos 0

moved_is : (o : Option Form) (c : ℤ) → IfSome o IsBare → IsClose c → IfSome (moved_form o c) HasClose
moved_is None c z h = tt
moved_is (Some f) c z h = by (is_small f.add && is_small c)
  where
    by : (b : Bool) → IfSome (if b then Some (record f { add = f.add +ℤ c }) else None) HasClose
    by true = after_zero f.add c z h
    by false = tt

local_variable_is : (k : ℕ) (o : Option Local) → IfSome (variable_of k o) IsBare
local_variable_is k None = tt
local_variable_is k (Some l) = by (is_integer l.ctype)
  where
    by : (b : Bool) → IfSome (if b then Some (record { base = None; var = k + 1; add = pos 0 }) else None) IsBare
    by true = refl
    by false = tt

named_is : (frame : Frame) (n : Name) → IfSome (variable frame n) IsBare
named_is frame (name.Local k) = local_variable_is k (local_at frame k)
named_is frame (name.Static k) = tt
named_is frame (name.Function k) = tt
named_is frame (name.Tag k) = tt
named_is frame (name.Member k) = tt
named_is frame name.Getchar = tt
named_is frame name.Putchar = tt

member_is : (structs : Structs) (tag : ℕ) (n : Name) → IfSome (member_variable structs tag n) IsBare
member_is structs tag (name.Member m) = by (is_integer_member structs tag m && nat_lt m (2 ^ 32 - 1))
  where
    by : (b : Bool) → IfSome (if b then Some (record { base = None; var = m + 1; add = pos 0 }) else None) IsBare
    by true = refl
    by false = tt
member_is structs tag (name.Local k) = tt
member_is structs tag (name.Static k) = tt
member_is structs tag (name.Function k) = tt
member_is structs tag (name.Tag k) = tt
member_is structs tag name.Getchar = tt
member_is structs tag name.Putchar = tt

variable_is : (frame : Frame) (h : Holder) (n : Name) → IfSome (variable_for frame h n) IsBare
variable_is frame (holder.Local k) n = named_is frame n
variable_is frame holder.Result n = named_is frame n
variable_is frame holder.Static n = tt
variable_is frame (holder.Member tag) n = member_is frame.structs tag n

with_is : (frame : Frame) (h : Holder) (n : Option Name) (c : ℤ) → IsClose c → IfSome (amount_with frame h n c) HasClose
with_is frame h None c w = w
with_is frame h (Some n) c w = moved_is (variable_for frame h n) c (variable_is frame h n) w

amount_is : (frame : Frame) (h : Holder) (a : Option Amount) → IfSome (amount_form frame h a) HasClose
amount_is frame h None = tt
amount_is frame h (Some a) = by (is_within (2 ^ 24) a.number) refl
  where
    by : (b : Bool) → is_within (2 ^ 24) a.number ≡ b → IfSome (if b then amount_with frame h a.variable a.number else None) HasClose
    by true e = with_is frame h a.variable a.number (within_close a.number e)
    by false e = tt

elements_is : (size : ℕ) (o : Option Form) → IfSome o HasClose → IfSome (elements size o) HasClose
elements_is size None h = tt
elements_is size (Some f) h = by (size == 1)
  where
    scaled : (b : Bool) → IfSome (if b then Some (constant_form (int_div f.add (pos size))) else None) HasClose
    scaled true = quotient_close f.add size h
    scaled false = tt

    by : (b : Bool) → IfSome (if b then Some f else elements_of size f) HasClose
    by true = h
    by false = scaled ((f.var == 0) && is_multiple f.add size)

-- ---- ends

local_is : (t : CType) (k : ℕ) (o : Option Local) → IfSome (local_base t k o) IsBare
local_is t k None = tt
local_is t k (Some l) = by (is_checked (kind_of l.ctype) && same_element t l.ctype)
  where
    by : (b : Bool) → IfSome (if b then Some (base_form (base.Local k)) else None) IsBare
    by true = refl
    by false = tt

array_is : (t : CType) (k : ℕ) (o : Option StaticObject) → IfSome (array_base t k o) IsBare
array_is t k None = tt
array_is t k (Some o) = by (is_checked o.array && is_element t o.element)
  where
    by : (b : Bool) → IfSome (if b then Some (base_form (base.Array k)) else None) IsBare
    by true = refl
    by false = tt

base_is : (frame : Frame) (t : CType) (n : Name) → IfSome (named_base frame t n) IsBare
base_is frame t (name.Local k) = local_is t k (local_at frame k)
base_is frame t (name.Static k) = array_is t k (slice_get frame.statics k)
base_is frame t (name.Function k) = tt
base_is frame t (name.Tag k) = tt
base_is frame t (name.Member k) = tt
base_is frame t name.Getchar = tt
base_is frame t name.Putchar = tt

sum_is : (o p : Option Form) → IfSome o IsBare → IfSome p HasClose → IfSome (sum_of_forms o p) HasClose
sum_is None p z h = tt
sum_is (Some f) None z h = tt
sum_is (Some f) (Some a) z h = by (a.var == 0) (f.var == 0)
  where
    sum : (b : Bool) (e : Form) → IsBare e → IfSome (if b then Some (record e { add = e.add +ℤ a.add }) else None) HasClose
    sum true e w = after_zero e.add a.add w h
    sum false e w = tt

    by : (b c : Bool) → IfSome (if b then moved_form (Some f) a.add else (if c then moved_form (Some (record f { var = a.var })) a.add else None)) HasClose
    by true c = sum (is_small f.add && is_small a.add) f z
    by false true = sum (is_small f.add && is_small a.add) (record f { var = a.var }) z
    by false false = tt

pieces_are : (frame : Frame) (h : Holder) (t : CType) (p : _) → IfSome (bound_with frame h t p) HasClose
pieces_are frame h t None = tt
pieces_are frame h t (Some p) = sum_is (named_base frame t p.name) (amount_form frame h p.by) (base_is frame t p.name) (amount_is frame h p.by)

bound_is : (frame : Frame) (h : Holder) (t : CType) (e : NotedExpr) → IfSome (bound frame h t e) HasClose
bound_is frame h t e = pieces_are frame h t (node_pieces frame.structs (out-Node Name Note e.node))

-- ---- bounds

counted_are : (b : Base) (o : Option Form) → IfSome o HasClose → IfSome (counted b o) AreClose
counted_are b None h = tt
counted_are b (Some f) h = (zero_close, h)

between_are : (o p : Option Form) → IfSome o HasClose → IfSome p HasClose → IfSome (known_between o p) AreClose
between_are None p h g = tt
between_are (Some e) None h g = tt
between_are (Some e) (Some f) h g = (h, g)

written_are : (frame : Frame) (h : Holder) (t : CType) (l : Limits-F Name Note NotedLimits NotedNode NotedExpr) → IfSome (bounds_written frame h t l) AreClose
written_are frame h t (Limits-F.Count e at) = counted_are (own h) (amount_form frame h (amount frame.structs e)) (amount_is frame h (amount frame.structs e))
written_are frame h t (Limits-F.ByteCount e at) =
    let size = size_of frame.structs (element_of t) in
    counted_are (own h) (elements size (amount_form frame h (amount frame.structs e)))
    (elements_is size (amount_form frame h (amount frame.structs e)) (amount_is frame h (amount frame.structs e)))
written_are frame h t (Limits-F.Between e f at) = by (takes_ends h)
  where
    by : (b : Bool) → IfSome (if b then known_between (bound frame h t e) (bound frame h t f) else None) AreClose
    by true = between_are (bound frame h t e) (bound frame h t f) (bound_is frame h t e) (bound_is frame h t f)
    by false = tt
written_are frame h t (Limits-F.Unknown at) = tt

by_type_are : (b : Base) (t : CType) → AreClose (bounds_by_type b t)
by_type_are b t = by (kind_of t)
  where
    by : (o : Option Kind) → AreClose (bounds_of_kind b o)
    by (Some kind.One) = (zero_close, one_close)
    by (Some kind.Nt) = (zero_close, zero_close)
    by (Some kind.Raw) = tt
    by (Some kind.Arr) = tt
    by None = tt

some_close : (o : Option Bounds) (b : Bounds) → IfSome o AreClose → o ≡ Some b → AreClose b
some_close None b h e = absurd cc
some_close (Some a) b h e = let same : a ≡ b = cc in subst AreClose same h

-- the bounds that are written
pub written_close : (frame : Frame) (h : Holder) (t : CType) (l : Limits-F Name Note NotedLimits NotedNode NotedExpr) (b : Bounds) → bounds_written frame h t l ≡ Some b → AreClose b
written_close frame h t l b e = some_close (bounds_written frame h t l) b (written_are frame h t l) e

taken_are : (frame : Frame) (h : Holder) (t : CType) (n : Length) (l : NotedLimits) → IfSome (bounds_taken frame h t n l) AreClose
taken_are frame h t n l = by (takes_bounds t n)
  where
    by : (b : Bool) → IfSome (if b then bounds_written frame h t (out-Limits Name Note l) else None) AreClose
    by true = written_are frame h t (out-Limits Name Note l)
    by false = tt

there_some : (at : Pos) (o : Option Bounds) (b : Bounds) → there_or bad_limits at o ≡ Ok b → o ≡ Some b
there_some at None b e = absurd cc
there_some at (Some a) b e = let same : a ≡ b = cc in cc

-- the bounds that a declaration has
pub declared_close : (frame : Frame) (h : Holder) (t : CType) (n : Length) (l : Option NotedLimits) (b : Bounds) → bounds_declared frame h t n l ≡ Ok b → AreClose b
declared_close frame h t n None b e = let same : bounds_by_type (own h) t ≡ b = cc in subst AreClose same (by_type_are (own h) t)
declared_close frame h t n (Some l) b e =
    some_close (bounds_taken frame h t n l) b (taken_are frame h t n l) (there_some (place_of_limits l) (bounds_taken frame h t n l) b e)
