-- What is known of the names of a function, and what ranges and the rows of the table of types say.
use Rattle.std.proofs.Common.{◌≡◌, ◌⊎◌, ◌∙◌, inl, refl, sym, ap, ℕ, ◌+◌, ◌<◌, Bool, true, false, List, length}
use Rattle.std.specs.Prelude as prelude
use Rattle.std.specs.Prelude.{◌==◌, not, ◌&&◌, ◌||◌, if◌then◌else◌, Option, Some, None, is_some}
use Rattle.std.proofs.lemmas.Bool.{and_parts, eq-eqb, eqb-true}
use Rattle.ckc_base.specs.declared.arithmetic.Mode.{Mode}
use Rattle.ckc_base.specs.declared.places.Pos.{Pos}
use Rattle.ckc_types.specs.declared.types.Kind.{Kind}
use Rattle.ckc_types.specs.declared.types.Kind.TheVariants as kind
use Rattle.ckc_linear.specs.declared.forms.Base.TheVariants as base
use Rattle.ckc_types.specs.declared.types.CType.{CType, CType-F, out-CType, fold_out-CType, map-CType}
use Rattle.ckc_types.specs.declared.types.CType.TheVariants as ctype
use Rattle.ckc_syntax.specs.declared.tree.Name.{Name}
use Rattle.ckc_syntax.specs.declared.tree.Name.TheVariants as name
use Rattle.ckc_typed.specs.declared.environment.Globals.{Globals}
use Rattle.ckc_typed.specs.declared.typed.Range.{Range}
use Rattle.ckc_typed.specs.declared.typed.Range.TheVariants as range
use Rattle.ckc_typed.specs.Declarations.{is_checked_kind}
use Rattle.ckc_typed.specs.Constants.{size_of}
use Rattle.ckc_typed.specs.Conversions.{is_terminated_kind, limits_fit_kind}
use Rattle.ckc_typed.specs.Environment.{object_named, type_of_name, variable_named}
use Rattle.ckc_typed.specs.Expressions.{is_no_array, is_object_form, is_placed_form, number_type}
use Rattle.ckc_typed.specs.Layouts.{member_number}
use Rattle.ckc_typed.specs.Operands.{is_moved, is_raw_kind, is_cast, target_type, dot_type, choice_type, arithmetic_type, index_type, same_element}
use Rattle.ckc_typed.specs.Raw.{is_raw, raw_in_form, has_raw}
use Rattle.ckc_syntax.specs.declared.tree.TreeOp.TheVariants as op
use Rattle.ckc_syntax.specs.declared.tree.Node.{Node-F}
use Rattle.ckc_typed.specs.declared.typed.Note.{Note}
use Rattle.ckc_typed.specs.declared.typed.Typed.{Typed}
use Rattle.ckc_typed.specs.Trees.{NotedExpr, NotedLayer, NotedLimits, NotedNode}
use Rattle.ckc_typed.specs.Types.{is_integer, is_object_type, is_pointer, is_pointer_form, is_void, is_scalar, kind_of, kind_in, element_of, same_type}
use Rattle.ckc_typed_welltyped.specs.Expressions.{HasType}
use Rattle.ckc_build_forms.specs.ckc_blame_steps.specs.ckc_bounds_points.specs.Forms.{base_form}
use Rattle.ckc_build_forms.specs.ckc_blame_steps.specs.ckc_bounds_ranges.specs.Rows.{range_of_local}
use Rattle.ckc_build_forms.specs.ckc_blame_steps.specs.ckc_bounds_views.specs.declared.variables.Own.{Own}
use Rattle.ckc_build_forms.specs.ckc_blame_steps.specs.ckc_bounds_views.specs.Fresh.{member_in}
use Rattle.ckc_build_forms.specs.ckc_blame_steps.specs.ckc_bounds_views.specs.Judged.{fault_if, is_missing, noted_range}
use Rattle.ckc_build_forms.specs.ckc_blame_steps.specs.ckc_bounds_views.specs.Ranges.{range_of_name, range_of_member, range_by_type}
use Rattle.ckc_source.specs.declared.expr.Base.TheVariants as ends
use Rattle.ckc_source.specs.declared.expr.Count.{Count}
use Rattle.ckc_source.specs.declared.expr.Count.TheVariants as count
use Rattle.ckc_source.specs.Code.{Program}
use Rattle.ckc_build_values.specs.Kinds.{count_of_kind, tag_of, width_of}
use Rattle.ckc_build_values.specs.Members.{count_of_member, offset_of}
use Rattle.ckc_build_forms.specs.ckc_blame_steps.specs.ckc_blame_sound.specs.Cells.{IsPart}
use Rattle.ckc_build_forms.specs.ckc_blame_steps.specs.ckc_blame_sound.specs.Limited.{IsCountPart}
use Rattle.ckc_build_values.specs.Expressions.{local_in}
use Rattle.ckc_build_values.specs.Places.{object_place}
use Rattle.ckc_blame_pointers.proofs.Scalars.{pointer_scalar}
use Rattle.ckc_build_values.specs.Ends.{base_at}
use Rattle.ckc_build_values.specs.Names.{address_of, array_of, bytes_of, count_of_static}
use Rattle.ckc_build_forms.specs.ckc_blame_steps.specs.ckc_blame_sound.specs.Settings.{IsString, Setting}
use Rattle.ckc_build_forms.specs.ckc_blame_steps.specs.ckc_blame_sound.proofs.Same.{same_equal}
use Rattle.ckc_source_causes.specs.Layouts.{HasElementsAt, NamesElements}
use Rattle.ckc_source_causes.specs.Ranges.{GivesOne, GivesRange}
use Rattle.ckc_source_causes.specs.WellFormed.{IsWellFormedExpr, LiesInObject}
use Rattle.ckc_build_wellformed.proofs.Layouts.{layout_of, whole}
use Rattle.ckc_build_wellformed.proofs.Nodes.{is_there_form}
use Rattle.ckc_build_wellformed.proofs.Parts.{IsFixed, PlaceFormed, different, unlike, int_kind, unsigned_kind, integer_kind, kind_pointer, arithmetic_kind, moved_no_one}

-- ---- names

-- the number of elements of a `_Ptr`
abbrev pub one_element : Option Count
one_element = Some (count.Fixed (prelude.pos 1))

-- What is known of an object of file scope with a type: what is no array is one element of the type, and if it is an integer or a
-- pointer it lies in the program; an array is of a kind that is no `_Ptr`, and has elements of its type; and of a pointer the program
-- has the number of elements where its range is known, which of a `_Ptr` is one.
pub record KnowsStatic (s : Setting) (g : Program) (t : CType) (k : ℕ) : Type 0 where
  pub there : array_of s.text k ≡ None → HasElementsAt g t false (address_of s.text k) 1
  pub room : array_of s.text k ≡ None → is_scalar t ≡ true → LiesInObject g (width_of t) (address_of s.text k)
  pub fixed : array_of s.text k ≡ None → (n : Count) → count_of_static s.text t (name.Static k) ≡ Some n → (is_pointer t ≡ true) × IsFixed n
  pub array : (j : Kind) → array_of s.text k ≡ Some j → (kind_of t ≡ Some j) × (j ≡ kind.One → ⊥)
  pub elements : (j : Kind) → array_of s.text k ≡ Some j
      → NamesElements g (layout_of s.text.layout) (element_of t) (is_terminated_kind (Some j)) (address_of s.text k) (bytes_of s.text k)
  pub single : array_of s.text k ≡ None → kind_of t ≡ Some kind.One → count_of_static s.text t (name.Static k) ≡ one_element
  pub ranged : array_of s.text k ≡ None → count_of_static s.text t (name.Static k) ≡ None → (own : ℕ) (widened : List ℕ)
      → is_missing (range_of_name s.frame (name.Static k) t own widened) ≡ true

-- The same of a member, which is an integer or a pointer; its structure has a size.
pub record KnowsMember (s : Setting) (u t : CType) (n : Name) : Type 0 where
  pub scalar : is_scalar t ≡ true
  pub sized : 0 < size_of s.text.layout u
  pub part : IsPart s.text.layout u (offset_of s.text.layout (tag_of u) (member_number n)) (width_of t)
  pub counted : (c : Count) → count_of_member s.text.layout (tag_of u) n ≡ Some c → (is_pointer t ≡ true) × IsCountPart s.text.layout u c
  pub single : kind_of t ≡ Some kind.One → count_of_member s.text.layout (tag_of u) n ≡ one_element
  pub ranged : count_of_member s.text.layout (tag_of u) n ≡ None → (own : Own) → is_missing (range_of_member s.frame.structs t (member_in n (out-CType u)) own) ≡ true

-- the range from a local to one element behind it, or further
abbrev pub range_past : ℕ → ℕ → Range
range_past k more = range.Known (base_form (base.Local k)) (record { base = Some (base.Local k); var = 0; add = prelude.pos (1 + more) })

-- What is known of the names of a function.
pub record Knows (globals : Globals) (s : Setting) (g : Program) : Type 0 where
  pub statics : (k : ℕ) (t : CType) → type_of_name globals s.variables (name.Static k) ≡ Some t → KnowsStatic s g t k
  pub members : (u t : CType) (n : Name) → dot_type globals.structs u n ≡ Some t → KnowsMember s u t n
  pub structures : (u t : CType) (n : Name) → dot_type globals.structs u n ≡ Some t → (e : NotedLayer) (mode : Mode) → HasType globals s.variables mode e u → is_there_form e ≡ true
  pub singles : (k : ℕ) (t : CType) → type_of_name globals s.variables (name.Static k) ≡ Some t
      → (is_some (variable_named s.variables (name.Static k)) || is_no_array (object_named globals (name.Static k))) ≡ true → array_of s.text k ≡ None
  pub objects : (n : Name) → is_no_array (object_named globals n) ≡ true → (k : ℕ) × (n ≡ name.Static k)
  pub targets : (n : Name) → (is_some (variable_named s.variables n) || is_no_array (object_named globals n)) ≡ true
      → ((k : ℕ) × (n ≡ name.Local k)) ⊎ ((k : ℕ) × (n ≡ name.Static k))
  pub ones : (k : ℕ) (t : CType) → type_of_name globals s.variables (name.Local k) ≡ Some t → kind_of t ≡ Some kind.One → (widened : List ℕ) → (more : ℕ) × (range_of_local s.frame k widened ≡ range_past k more)
  pub strings : (bytes : List ℕ) (k : ℕ) → IsString s bytes k → NamesElements g (layout_of s.text.layout) ctype.Char true (address_of s.text k) (length bytes)

-- ---- ranges

-- a range that is not missing is the one behind a choice
pub chosen : (b : Bool) (x : Range) → is_missing (if b then x else range.Missing) ≡ false → is_missing x ≡ false
chosen true x h = h
chosen false x h = unlike h

pub not_chosen : (b : Bool) (x : Range) → is_missing (if b then range.Missing else x) ≡ false → is_missing x ≡ false
not_chosen true x h = unlike h
not_chosen false x h = h

pub behind : (b : Bool) (x : Range) → is_missing x ≡ true → is_missing (if b then x else range.Missing) ≡ true
behind true x h = h
behind false x h = refl

pub noted_type : (a : Note) (r : Range) → (noted_range a r).ctype ≡ a.ctype
noted_type a r = by (is_pointer a.ctype)
  where
    by : (b : Bool) → (if b then record a { range = r } else a).ctype ≡ a.ctype
    by true = refl
    by false = refl

pub none_is : {A X : Type 0} {a : A} → ◌≡◌ {A = Option A} None (Some a) → X
none_is e = absurd cc

pub some_same : {A : Type 0} {x y : A} → ◌≡◌ {A = Option A} (Some x) (Some y) → x ≡ y
some_same e = cc

pub no_fault : (b : Bool) (code : ℕ) (pos : Pos) → fault_if b code pos ≡ None → b ≡ false
no_fault true code pos h = absurd cc
no_fault false code pos h = refl

pub counted_there : (a m : Bool) → a ≡ true → (a && m) ≡ false → m ≡ false
counted_there true m h e = e
counted_there false m h e = different h

-- a type without unchecked pointers is no unchecked pointer
pub no_raw_kind : (t : CType) → has_raw t ≡ false → is_pointer t ≡ true → is_checked_kind (kind_of t) ≡ true
no_raw_kind t h p = by (out-CType t) (sym (fold_out-CType Bool raw_in_form t) ∙ h) p
  where
    pointer : (k : Kind) (b : Bool) → (is_raw k || b) ≡ false → is_checked_kind (Some k) ≡ true
    pointer kind.Raw b e = absurd cc
    pointer kind.One b e = refl
    pointer kind.Arr b e = refl
    pointer kind.Nt b e = refl

    by : (x : CType-F CType) → raw_in_form (map-CType CType Bool has_raw x) ≡ false → is_pointer_form x ≡ true → is_checked_kind (kind_in x) ≡ true
    by (CType-F.Pointer k u) e q = pointer k (has_raw u) e
    by CType-F.Int e q = absurd cc
    by CType-F.Unsigned e q = absurd cc
    by CType-F.Char e q = absurd cc
    by CType-F.Void e q = absurd cc
    by (CType-F.Struct tag) e q = absurd cc

-- ---- what rows say

pub zero : (n : ℕ) → ((n == 0) || false) ≡ true → n ≡ 0
zero n h = by (n == 0) refl h
  where
    by : (b : Bool) → (n == 0) ≡ b → (b || false) ≡ true → n ≡ 0
    by true e f = eqb-true n 0 e
    by false e f = different f

pub number_kind : (u : Bool) (t : CType) → t ≡ number_type u → kind_of t ≡ None
number_kind true t is = ap kind_of is ∙ unsigned_kind
number_kind false t is = ap kind_of is ∙ int_kind

pub checked_pointer : (t : CType) → is_checked_kind (kind_of t) ≡ true → is_pointer t ≡ true
checked_pointer t h = by (kind_of t) refl h
  where
    by : (k : Option Kind) → kind_of t ≡ k → is_checked_kind k ≡ true → is_pointer t ≡ true
    by (Some k) is c = kind_pointer t k is
    by None is c = different c

pub if_true : (b : Bool) (x : Range) → b ≡ true → (if b then x else range.Missing) ≡ x
if_true true x h = refl
if_true false x h = different h

pub count_missing : (c : Option Kind) (own : ℕ) → count_of_kind c ≡ None → is_missing (range_by_type c own) ≡ true
count_missing (Some kind.Raw) own h = refl
count_missing (Some kind.One) own h = absurd cc
count_missing (Some kind.Arr) own h = refl
count_missing (Some kind.Nt) own h = absurd cc
count_missing None own h = refl

pub one_counts : (t : CType) → kind_of t ≡ Some kind.One → count_of_kind (kind_of t) ≡ one_element
one_counts t is = ap count_of_kind is

pub target_pointer : (t r : CType) → target_type t ≡ Some r → is_pointer t ≡ true
target_pointer t r h = by (is_pointer t) refl (not (is_void (element_of t))) h
  where
    by : (b : Bool) → is_pointer t ≡ b → (c : Bool) → (if b && c then Some (element_of t) else None) ≡ Some r → is_pointer t ≡ true
    by true e c x = e
    by false e c x = absurd cc

-- what `*` and `[` give is an element
pub target_element : (t r : CType) → target_type t ≡ Some r → r ≡ element_of t
target_element t r h = by (is_pointer t && not (is_void (element_of t))) h
  where
    by : (b : Bool) → (if b then Some (element_of t) else None) ≡ Some r → r ≡ element_of t
    by true x = sym (some_same x)
    by false x = none_is x

pub index_element : (t u r : CType) → index_type t u ≡ Some r → r ≡ element_of t
index_element t u r h = by (is_moved t && is_integer u) h
  where
    by : (b : Bool) → (if b then Some (element_of t) else None) ≡ Some r → r ≡ element_of t
    by true x = sym (some_same x)
    by false x = none_is x

-- a `_Ptr` has no index
pub index_no_one : {X : Type 0} (t u r : CType) → index_type t u ≡ Some r → kind_of t ≡ Some kind.One → X
index_no_one t u r h one = by (is_moved t && is_integer u) refl h
  where
    by : {X : Type 0} (b : Bool) → (is_moved t && is_integer u) ≡ b → (if b then Some (element_of t) else None) ≡ Some r → X
    by true m x = moved_no_one t (and_parts (is_moved t) (is_integer u) m).0 one
    by false m x = none_is x

-- pointers to one type
pub elements_same : (t u : CType) → same_element t u ≡ true → element_of t ≡ element_of u
elements_same t u h = same_equal (element_of t) (element_of u) (and_parts (is_pointer u) (same_type (element_of t) (element_of u)) (and_parts (is_pointer t) (is_pointer u && same_type (element_of t) (element_of u)) h).1).1

-- a `_Ptr` is cast without limits
pub no_counted : {X : Type 0} (t : CType) → (is_object_type t && limits_fit_kind (kind_of t) true) ≡ true → kind_of t ≡ Some kind.One → X
no_counted t h one = different (sym (ap (λ k. limits_fit_kind k true) one) ∙ (and_parts (is_object_type t) (limits_fit_kind (kind_of t) true) h).1)

pub if_first : (b : Bool) (x y : Range) → b ≡ true → is_missing (if b then x else y) ≡ false → is_missing x ≡ false
if_first true x y h m = m
if_first false x y h m = different h

pub if_second : (b : Bool) (x y : Range) → b ≡ false → is_missing (if b then x else y) ≡ false → is_missing y ≡ false
if_second true x y h m = unlike h
if_second false x y h m = m

pub choice_kind : (t u r v : CType) → choice_type t u r ≡ Some v → kind_of v ≡ None
choice_kind t u r v h = by (is_scalar t) h
  where
    by : (b : Bool) → (if b then arithmetic_type u r else None) ≡ Some v → kind_of v ≡ None
    by true e = arithmetic_kind u r v e
    by false e = none_is e

pub cast_kind : (t u : CType) (m : Bool) → is_cast t u m ≡ true → is_checked_kind (kind_of t) ≡ false
cast_kind t u m h = by (is_integer t) refl (kind_of t) refl (and_parts (is_object_type t) ((is_integer t && is_integer u) || (is_raw_kind (kind_of t) && (is_pointer u || m))) h).1
  where
    by : (b : Bool) → is_integer t ≡ b → (k : Option Kind) → kind_of t ≡ k → ((b && is_integer u) || (is_raw_kind k && (is_pointer u || m))) ≡ true → is_checked_kind k ≡ false
    by true e k is q = ap is_checked_kind (sym is ∙ integer_kind t e)
    by false e (Some kind.Raw) is q = refl
    by false e (Some kind.One) is q = different q
    by false e (Some kind.Arr) is q = different q
    by false e (Some kind.Nt) is q = different q
    by false e None is q = refl

-- ---- names by their form

-- an object of file scope that is named is no array
abbrev pub IsSingle : Typed → NotedLayer → Type 0
IsSingle p (Node-F.Name (name.Static k)) = array_of p k ≡ None
IsSingle p x = Unit {0}

-- what has the type of a structure is no array
pub struct_single : (globals : Globals) (s : Setting) (g : Program) (knows : Knows globals s g) (mode : Mode) (x : NotedLayer) (u : CType) → HasType globals s.variables mode x u → is_scalar u ≡ false → IsSingle s.text x
struct_single globals s g knows mode (Node-F.Name (name.Static k)) u row bare = by (array_of s.text k) refl
  where
    by : (o : Option Kind) → array_of s.text k ≡ o → o ≡ None
    by None is = refl
    by (Some j) is = unlike (sym (pointer_scalar u (kind_pointer u j ((knows.statics k u row).array j is).0)) ∙ bare)
struct_single globals s g knows mode x u row bare = tt

pub object_formed : (g : Program) (s : Setting) (Safe : Type 0) (j : ℕ) (t : CType) (pos : Pos) → KnowsStatic s g t j → array_of s.text j ≡ None
    → PlaceFormed g s.text.layout Safe t (object_place s.text t pos j)
object_formed g s Safe j t pos h single = record {
  access = (t, refl, h.there single, whole s.text.layout t);
  pointer = tt;
  index = tt;
  near = inl refl;
  checked = λ safe e. absurd cc;
}

pub local_formed : (g : Program) (s : Setting) (u : CType) (j : ℕ) (r : Range) → IsWellFormedExpr g (layout_of s.text.layout) (local_in s.text s.variables u j r)
local_formed g s u j (range.Known low high) = tt
local_formed g s u j range.Missing = tt
local_formed g s u j range.Any = tt

pub local_gives : (g : Program) (s : Setting) (u : CType) (j : ℕ) (r : Range) → is_missing r ≡ false → (r ≡ range.Any → ⊥)
    → GivesRange g (layout_of s.text.layout) (element_of u) (is_terminated_kind (kind_of u)) (local_in s.text s.variables u j r)
local_gives g s u j (range.Known low high) m n = record { element = refl; size = refl; ends = λ e. e }
local_gives g s u j range.Missing m n = unlike m
local_gives g s u j range.Any m n = absurd (n refl)

pub local_one : (s : Setting) (u : CType) (j more : ℕ) → GivesOne (local_in s.text s.variables u j (range_past j more))
local_one s u j more = record { lower_base = own; lower_variable = refl; lower_add = refl; upper_base = own; upper_variable = refl; upper_add = (more, refl) }
  where
    own : base_at s.text j (Some (base.Local j)) ≡ ends.Own
    own = ap (λ b. if b then ends.Own else ends.Local j) (eq-eqb j j refl)

-- what has an address is no array
pub address_single : (globals : Globals) (s : Setting) (g : Program) (knows : Knows globals s g) (mode : Mode) (x : NotedLayer) (t : CType) → HasType globals s.variables mode x t
    → (is_object_form globals x || is_placed_form x) ≡ true → IsSingle s.text x
address_single globals s g knows mode (Node-F.Name (name.Static k)) t row h = knows.singles k t row (by (is_some (variable_named s.variables (name.Static k))) (is_no_array (object_named globals (name.Static k))) h)
  where
    by : (a b : Bool) → (b || false) ≡ true → (a || b) ≡ true
    by true b e = refl
    by false true e = refl
    by false false e = different e
address_single globals s g knows mode x t row h = tt

abbrev named_there : Name → Bool
named_there m = is_there_form {A = Note} {L = NotedLimits} {M = NotedNode} {E = NotedExpr} (Node-F.Name m)

pub address_there : (globals : Globals) (s : Setting) (g : Program) (knows : Knows globals s g) (x : NotedLayer) → (is_object_form globals x || is_placed_form x) ≡ true → is_there_form x ≡ true
address_there globals s g knows (Node-F.Name n) h = let o = knows.objects n (by (is_no_array (object_named globals n)) h) in ap named_there o.1
  where
    by : (b : Bool) → (b || false) ≡ true → b ≡ true
    by true e = refl
    by false e = different e
address_there globals s g knows (Node-F.Un op.Deref e) h = refl
address_there globals s g knows (Node-F.Index e f) h = refl
address_there globals s g knows (Node-F.Dot e n at) h = refl
address_there globals s g knows (Node-F.Arrow e n at) h = refl
address_there globals s g knows x h = different h
