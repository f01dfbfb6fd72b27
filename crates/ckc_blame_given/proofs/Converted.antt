-- Which conversion of a value to a type it is.
use Rattle.std.proofs.Common.{◌≡◌, ⊎_elim, refl, sym, ap, subst, ◌∙◌, ℕ, List, rules}
use Rattle.std.specs.Prelude.{Bool, true, false, ◌&&◌, ◌||◌, if◌then◌else◌, Option, None, Some}
use Rattle.std.proofs.lemmas.Bool.{and_parts}
use Rattle.ckc_base.specs.declared.arithmetic.Mode.{Mode}
use Rattle.ckc_base.specs.declared.arithmetic.Mode.TheVariants.{Checked, Unchecked}
use Rattle.ckc_linear.specs.declared.forms.Form.{Form}
use Rattle.ckc_types.specs.declared.types.Kind.{Kind}
use Rattle.ckc_types.specs.declared.types.Kind.TheVariants as kind
use Rattle.ckc_types.specs.declared.types.CType.{CType, the_lemmas as ctype_lemmas}
use Rattle.ckc_types.specs.declared.types.CType.TheVariants as ctype
use Rattle.ckc_types.specs.declared.types.Structs.{Structs}
use Rattle.ckc_syntax.specs.declared.tree.Name.{Name}
use Rattle.ckc_syntax.specs.declared.tree.Node.{Node-F, out-Node}
use Rattle.ckc_typed.specs.declared.environment.Globals.{Globals}
use Rattle.ckc_typed.specs.declared.environment.Variable.{Variable}
use Rattle.ckc_typed.specs.declared.typed.Note.{Note}
use Rattle.ckc_typed.specs.Conversions.{is_null, is_null_form, is_string, is_allocation, kind_converts, kinds_allow, is_terminated_kind, takes_string, takes_allocation, takes_pointer, converts}
use Rattle.ckc_typed.specs.Expressions.{number_type, string_type}
use Rattle.ckc_typed.specs.Operands.{same_element}
use Rattle.ckc_typed.specs.Trees.{NotedExpr, NotedLayer}
use Rattle.ckc_typed.specs.Types.{is_integer, is_pointer, is_char, element_of, kind_of, same_type}
use Rattle.ckc_typed_welltyped.specs.Expressions.{HasType}
use Rattle.ckc_blame_sound.specs.ckc_bounds_points.specs.declared.frame.Frame.{Frame}
use Rattle.ckc_blame_sound.specs.ckc_bounds_points.specs.Shown.{Known}
use Rattle.ckc_blame_sound.specs.ckc_bounds_views.specs.Parts.{View}
use Rattle.ckc_blame_sound.specs.ckc_bounds_views.specs.Places.{pointer_place}
use Rattle.ckc_blame_sound.specs.ckc_bounds_views.specs.Views.{node_view, view}
use Rattle.ckc_build_values.specs.Kinds.{pointee_of, size_behind}
use Rattle.ckc_blame_sound.proofs.Facts.{one_of}
use Rattle.ckc_blame_sound.proofs.Same.{same_equal}
use Rattle.ckc_blame_pointers.proofs.Strings.{char_type, checked_string, ends_in, raw_string, string_row}
use Rattle.ckc_blame_given.proofs.Looser.{IsLooser}
use Rattle.ckc_blame_given.proofs.Views.{viewed_layer, view_is}

-- A value is an integer that becomes one, null that becomes a pointer, a string literal that becomes a null-terminated
-- pointer, or a pointer that becomes one to the same elements. Null has no place.
pub data Becomes (t : CType) (e : NotedExpr) : Type 0 where
  Integers : (to : is_integer t ≡ true) (from : is_integer e.note.ctype ≡ true) → Becomes t e
  Null : (to : is_pointer t ≡ true) (null : is_null e ≡ true) (bare : (frame : Frame) (first : ℕ) (facts : Known) → (view frame e).place first facts ≡ None) → Becomes t e
  Literal : (to : is_pointer t ≡ true) (string : is_string e ≡ true) (ends : kind_of t ≡ Some kind.Nt) (element : element_of t ≡ element_of e.note.ctype) → Becomes t e
  Pointers : (to : is_pointer t ≡ true) (element : element_of t ≡ element_of e.note.ctype) (terminated : is_terminated_kind (kind_of t) ≡ true → is_terminated_kind (kind_of e.note.ctype) ≡ true) → Becomes t e

kinds_keep : (j k : Kind) → kind_converts j k ≡ true → is_terminated_kind (Some k) ≡ true → is_terminated_kind (Some j) ≡ true
kinds_keep kind.Nt k a b = refl
kinds_keep kind.Raw kind.Nt a b = absurd cc
kinds_keep kind.One kind.Nt a b = absurd cc
kinds_keep kind.Arr kind.Nt a b = absurd cc
kinds_keep j kind.Raw a b = absurd cc
kinds_keep j kind.One a b = absurd cc
kinds_keep j kind.Arr a b = absurd cc

pub allowed_keep : (j k : Option Kind) → kinds_allow kind_converts j k ≡ true → is_terminated_kind k ≡ true → is_terminated_kind j ≡ true
allowed_keep (Some j) (Some k) a b = kinds_keep j k a b
allowed_keep None k a b = absurd cc
allowed_keep (Some j) None a b = absurd cc

-- what literals point to
pub string_element : (mode : Mode) → element_of (string_type mode) ≡ ctype.Char
string_element Checked = checked_string.element
string_element Unchecked = (raw_string (string_type Unchecked) refl).element

module _ (globals : Globals) (variables : List Variable) (t : CType) (e : NotedExpr) (mode : Mode) (row : HasType globals variables mode (out-Node Name Note e.node) e.note.ctype) where
  string_is : is_string e ≡ true → e.note.ctype ≡ string_type mode
  string_is s = string_row globals variables mode (out-Node Name Note e.node) e.note.ctype s row

  integer_bare : (unsigned : Bool) → is_pointer (number_type unsigned) ≡ false
  integer_bare true = search (rules, ctype_lemmas)
  integer_bare false = search (rules, ctype_lemmas)

  null_bare : is_null e ≡ true → (frame : Frame) (first : ℕ) (facts : Known) → (view frame e).place first facts ≡ None
  null_bare null frame first facts = ap (λ (v : View). v.place first facts) (view_is frame e) ∙ by (out-Node Name Note e.node) null row
    where
      by : (n : NotedLayer) → is_null_form n ≡ true → HasType globals variables mode n e.note.ctype → pointer_place e.note.ctype (node_view frame (viewed_layer frame n)) first facts ≡ None
      by Node-F.Null s r = either (is_pointer e.note.ctype)
        where
          either : (b : Bool) → ◌≡◌ {A = Option Form} (if b then None else None) None
          either true = refl
          either false = refl
      by (Node-F.Number n u) s r = rw (ap is_pointer r ∙ integer_bare u) refl
      by (Node-F.Text bytes) s r = absurd cc
      by (Node-F.Name n) s r = absurd cc
      by (Node-F.Un o a) s r = absurd cc
      by (Node-F.Bin o a b) s r = absurd cc
      by (Node-F.Pick a b d) s r = absurd cc
      by (Node-F.Index a b) s r = absurd cc
      by (Node-F.Dot a m at) s r = absurd cc
      by (Node-F.Arrow a m at) s r = absurd cc
      by (Node-F.Cast w a) s r = absurd cc
      by (Node-F.Size w) s r = absurd cc
      by (Node-F.Trusted w a l) s r = absurd cc
      by (Node-F.Tested w a l) s r = absurd cc
      by (Node-F.Call n es) s r = absurd cc
      by (Node-F.Calloc w n u) s r = absurd cc

  from_string : is_pointer t ≡ true → takes_string t e ≡ true → Becomes t e
  from_string to h =
      let p = and_parts (is_string e) (is_terminated_kind (kind_of t) && is_char (element_of t)) h in
      let q = and_parts (is_terminated_kind (kind_of t)) (is_char (element_of t)) p.1 in
      Literal to p.0 (ends_in (kind_of t) q.0) (char_type (element_of t) q.1 ∙ sym (ap element_of (string_is p.0) ∙ string_element mode))

  from_pointer : is_pointer t ≡ true → takes_pointer kind_converts t e ≡ true → Becomes t e
  from_pointer to h =
      let p = and_parts (same_element t e.note.ctype) (kinds_allow kind_converts (kind_of e.note.ctype) (kind_of t)) h in
      let q = and_parts (is_pointer t) (is_pointer e.note.ctype && same_type (element_of t) (element_of e.note.ctype)) p.0 in
      let r = and_parts (is_pointer e.note.ctype) (same_type (element_of t) (element_of e.note.ctype)) q.1 in
      Pointers to (same_equal (element_of t) (element_of e.note.ctype) r.1) (allowed_keep (kind_of e.note.ctype) (kind_of t) p.1)

  no_allocation : is_allocation e ≡ false → takes_allocation t e ≡ false
  no_allocation h = ap (λ b. b && same_element t e.note.ctype) h

  pub becomes : converts t e ≡ true → is_allocation e ≡ false → Becomes t e
  becomes h whole = ⊎_elim
      (λ i. let p = and_parts (is_integer t) (is_integer e.note.ctype) i in Integers p.0 p.1)
      (λ i. let p = and_parts (is_pointer t) (is_null e || (takes_string t e || (takes_allocation t e || takes_pointer kind_converts t e))) i in ⊎_elim
      (λ n. Null p.0 n (null_bare n))
      (λ n. ⊎_elim
      (λ s. from_string p.0 s)
      (λ a. from_pointer p.0 (subst (λ b. (b || takes_pointer kind_converts t e) ≡ true) (no_allocation whole) a))
      (one_of (takes_string t e) (takes_allocation t e || takes_pointer kind_converts t e) n))
      (one_of (is_null e) (takes_string t e || (takes_allocation t e || takes_pointer kind_converts t e)) p.1))
      (one_of (is_integer t && is_integer e.note.ctype) (is_pointer t && (is_null e || (takes_string t e || (takes_allocation t e || takes_pointer kind_converts t e)))) h)

element_size : (structs : Structs) (t u : CType) → element_of t ≡ element_of u → size_behind structs t ≡ size_behind structs u
element_size structs t u same = rw same refl

-- a pointer to the same elements
pub element_looser : (structs : Structs) (t u : CType) → element_of t ≡ element_of u → (is_terminated_kind (kind_of t) ≡ true → is_terminated_kind (kind_of u) ≡ true)
    → IsLooser (pointee_of structs u) (pointee_of structs t)
element_looser structs t u same ends = record { element = same; size = element_size structs t u same; terminated = ends }

-- a pointer to the same elements, if a terminator ends them
pub ending_looser : (structs : Structs) (t u : CType) → element_of t ≡ element_of u → IsLooser (record (pointee_of structs u) { terminated = true }) (pointee_of structs t)
ending_looser structs t u same = record { element = same; size = element_size structs t u same; terminated = λ ends. refl }
