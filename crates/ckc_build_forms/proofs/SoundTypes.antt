-- The elements of each `_Array_ptr` and `_Nt_array_ptr` in the types of typed expressions have a size.
use Rattle.std.proofs.Common.{◌≡◌, ◌∙◌, sym, ap, subst, refl, rules, arith, ℕ, ◌<◌, Bool, true, false, List}
use Rattle.std.specs.Prelude.{◌&&◌, ◌||◌, not, nat_lt, if◌then◌else◌, Option, Some, None, is_some}
use Rattle.std.proofs.lemmas.Bool.{ltb-true}
use Rattle.ckc_base.specs.declared.arithmetic.Mode.{Mode}
use Rattle.ckc_base.specs.declared.arithmetic.Mode.TheVariants.{Checked, Unchecked}
use Rattle.ckc_types.specs.declared.types.CType.{CType, CType-F, out-CType, map-CType, fold-CType, ind-CType, fold-roll-CType, fold_out-CType, the_lemmas}
use Rattle.ckc_types.specs.declared.types.CType.TheVariants as ctype
use Rattle.ckc_types.specs.declared.types.Kind.{Kind}
use Rattle.ckc_types.specs.declared.types.Kind.TheVariants as kind
use Rattle.ckc_types.specs.declared.types.Structs.{Structs}
use Rattle.ckc_syntax.specs.declared.tree.Name.{Name}
use Rattle.ckc_syntax.specs.declared.tree.TreeOp.{TreeOp}
use Rattle.ckc_syntax.specs.declared.tree.TreeOp.TheVariants as op
use Rattle.ckc_syntax.specs.declared.tree.Node.{Node-F, map-Node, out-Node, roll-Node, the_lemmas as node_lemmas}
use Rattle.ckc_syntax.specs.declared.tree.Expr.{Expr-F, map-Expr, ind-Expr, roll-Expr, every_here-Expr}
use Rattle.ckc_typed.specs.declared.environment.Globals.{Globals}
use Rattle.ckc_typed.specs.declared.environment.Signature.{Signature}
use Rattle.ckc_typed.specs.declared.environment.Variable.{Variable}
use Rattle.ckc_typed.specs.Constants.{size_of}
use Rattle.ckc_typed.specs.Environment.{member_type, signature_named, type_of_name}
use Rattle.ckc_typed.specs.Expressions.{string_type, address_kind, has_address, is_object_form, is_placed_form, is_target_op}
use Rattle.ckc_typed.specs.Operands.{promoted, common, arithmetic_type, shift_type, both_type, sum_type, distance_type, difference_type, comparison_type, is_compared, member_in, binary_type, is_moved, is_moved_kind, same_element, target_type, index_type}
use Rattle.ckc_typed.specs.Trees.{NotedLimits, NotedNode, NotedExpr, NotedLayer, TypeTree}
use Rattle.ckc_typed.specs.declared.typed.Note.{Note}
use Rattle.ckc_typed.specs.Conversions.{is_null}
use Rattle.ckc_typed.specs.Texts.{is_result_type}
use Rattle.ckc_typed.specs.Types.{type_written, is_integer, is_integer_form, is_pointer, is_pointer_form, is_scalar, is_unsigned, is_void, is_void_form, kind_in, kind_of, element_in, element_of, pointer_parts, object_parts, integer_object, is_object_type}
use Rattle.ckc_typed_welltyped.specs.Expressions.{AnyLimits, AnyNode, HasType, unary_row}
use Rattle.ckc_blame_steps.specs.ckc_bounds_views.specs.Judged.{is_counted_kind}
use Rattle.ckc_blame_steps.specs.ckc_blame_sound.specs.Settings.{Setting}
use Rattle.ckc_blame_steps.specs.ckc_blame_sound.specs.Typed.{HasRow}
use Rattle.ckc_blame_steps.specs.ckc_blame_sound.proofs.Every.{ExprLayer, EachNode, EachExpr, NodeParts, node_hold, inside}
use Rattle.ckc_blame_steps.specs.ckc_blame_walk.proofs.Sizes.{sized}

-- whether each structure in a type has a size and only a `_Ptr` points to `void`, and whether the type is `void`
pub record Sound : Type 0 where
  pub sound : Bool
  pub void : Bool

abbrev pub pointer_sound : Kind → Sound → Sound
pointer_sound kind.One f = record { sound = f.sound; void = false }
pointer_sound _ f = record { sound = f.sound && not f.void; void = false }

pub pointer_out : (k : Kind) (t : CType) → out-CType (ctype.Pointer k t) ≡ CType-F.Pointer k t
pointer_out k t = search (rules, the_lemmas)

pub int_out : out-CType ctype.Int ≡ CType-F.Int
int_out = search (rules, the_lemmas)

object_int : is_object_type ctype.Int ≡ true
object_int = ap is_some (fold_out-CType (Option Bool) object_parts ctype.Int ∙ ap (λ x. object_parts (map-CType CType (Option Bool) integer_object x)) int_out)

-- the type `int` may be that of a result
pub int_result : is_result_type ctype.Int ≡ true
int_result =
    ap (λ b. is_void ctype.Int || (is_scalar ctype.Int && b)) object_int
    ∙ ap (λ x. is_void_form x || ((is_integer_form x || is_pointer_form x) && true)) int_out

pub unsigned_out : out-CType ctype.Unsigned ≡ CType-F.Unsigned
unsigned_out = search (rules, the_lemmas)

pub char_out : out-CType ctype.Char ≡ CType-F.Char
char_out = search (rules, the_lemmas)

pub void_out : out-CType ctype.Void ≡ CType-F.Void
void_out = search (rules, the_lemmas)

pub both : (a b : Bool) → (a && b) ≡ true → (a ≡ true) × (b ≡ true)
both true b e = (refl, e)
both false b e = absurd cc

module _ (structs : Structs) where
  abbrev pub parts_sound : CType-F Sound → Sound
  parts_sound CType-F.Int = record { sound = true; void = false }
  parts_sound CType-F.Unsigned = record { sound = true; void = false }
  parts_sound CType-F.Char = record { sound = true; void = false }
  parts_sound CType-F.Void = record { sound = true; void = true }
  parts_sound (CType-F.Struct tag) = record { sound = nat_lt 0 (sized structs (CType-F.Struct tag)); void = false }
  parts_sound (CType-F.Pointer k f) = pointer_sound k f

  abbrev pub soundness : CType → Sound
  soundness = fold-CType Sound parts_sound

  abbrev pub IsSound : CType → Type 0
  IsSound t = (soundness t).sound ≡ true

  -- each structure in the type, however deep, has a size
  abbrev pub parts_tagged : CType-F Bool → Bool
  parts_tagged (CType-F.Struct tag) = nat_lt 0 (sized structs (CType-F.Struct tag))
  parts_tagged (CType-F.Pointer k b) = b
  parts_tagged _ = true

  abbrev pub tagged : CType → Bool
  tagged = fold-CType Bool parts_tagged

  -- What names mean among globals and variables has such types, and is not `void`; so are members, which are scalars, and
  -- results, which may be `void`.
  pub record AreSound (globals : Globals) (variables : List Variable) : Type 0 where
    pub names : (n : Name) (t : CType) → type_of_name globals variables n ≡ Some t → IsSound t × (is_void t ≡ false)
    pub members : (tag : ℕ) (n : Name) (t : CType) → member_type globals.structs tag n ≡ Some t → IsSound t × (is_scalar t ≡ true)
    pub results : (n : Name) (s : Signature) → signature_named globals n ≡ Some s → IsSound s.result

  -- each structure in a type that a node writes has a size
  abbrev pub WritesTagged : NotedLayer → Type 0
  WritesTagged (Node-F.Cast w e) = tagged (type_written w) ≡ true
  WritesTagged (Node-F.Trusted w e l) = tagged (type_written w) ≡ true
  WritesTagged (Node-F.Tested w e l) = tagged (type_written w) ≡ true
  WritesTagged (Node-F.Calloc w e u) = tagged (type_written w) ≡ true
  WritesTagged n = Unit {0}

  abbrev sound_in : CType-F CType → CType-F Sound
  sound_in = map-CType CType Sound soundness

  sound_out : (t : CType) → soundness t ≡ parts_sound (sound_in (out-CType t))
  sound_out t = fold_out-CType Sound parts_sound t

  pub sound_pointer : (k : Kind) (t : CType) → soundness (ctype.Pointer k t) ≡ pointer_sound k (soundness t)
  sound_pointer k t = sound_out (ctype.Pointer k t) ∙ ap (λ x. parts_sound (sound_in x)) (pointer_out k t)

  pub sound_int : IsSound ctype.Int
  sound_int = ap (λ (f : Sound). f.sound) (sound_out ctype.Int ∙ ap (λ x. parts_sound (sound_in x)) int_out)

  sound_unsigned : IsSound ctype.Unsigned
  sound_unsigned = ap (λ (f : Sound). f.sound) (sound_out ctype.Unsigned ∙ ap (λ x. parts_sound (sound_in x)) unsigned_out)

  char_sound : soundness ctype.Char ≡ record { sound = true; void = false }
  char_sound = sound_out ctype.Char ∙ ap (λ x. parts_sound (sound_in x)) char_out

  pub sound_void : IsSound ctype.Void
  sound_void = ap (λ (f : Sound). f.sound) (sound_out ctype.Void ∙ ap (λ x. parts_sound (sound_in x)) void_out)

  void_form_sound : (x : CType-F CType) → is_void_form x ≡ true → (parts_sound (sound_in x)).sound ≡ true
  void_form_sound CType-F.Void e = refl
  void_form_sound CType-F.Int e = refl
  void_form_sound CType-F.Unsigned e = refl
  void_form_sound CType-F.Char e = refl
  void_form_sound (CType-F.Struct tag) e = absurd cc
  void_form_sound (CType-F.Pointer k t) e = absurd cc

  pub void_sound : (t : CType) → is_void t ≡ true → IsSound t
  void_sound t e = ap (λ (f : Sound). f.sound) (sound_out t) ∙ void_form_sound (out-CType t) e

  void_flag : (x : CType-F CType) → (parts_sound (sound_in x)).void ≡ is_void_form x
  void_flag CType-F.Int = refl
  void_flag CType-F.Unsigned = refl
  void_flag CType-F.Char = refl
  void_flag CType-F.Void = refl
  void_flag (CType-F.Struct tag) = refl
  void_flag (CType-F.Pointer kind.Raw t) = refl
  void_flag (CType-F.Pointer kind.One t) = refl
  void_flag (CType-F.Pointer kind.Arr t) = refl
  void_flag (CType-F.Pointer kind.Nt t) = refl

  pub void_is : (t : CType) → (soundness t).void ≡ is_void t
  void_is t = ap (λ (f : Sound). f.void) (sound_out t) ∙ void_flag (out-CType t)

  -- a sound type that is not `void` has a size
  sized_form : (x : CType-F CType) → (parts_sound (sound_in x)).sound ≡ true → is_void_form x ≡ false → 0 < sized structs x
  sized_form CType-F.Int e v = omega arith
  sized_form CType-F.Unsigned e v = omega arith
  sized_form CType-F.Char e v = omega arith
  sized_form CType-F.Void e v = absurd cc
  sized_form (CType-F.Struct tag) e v = ltb-true 0 (sized structs (CType-F.Struct tag)) e
  sized_form (CType-F.Pointer k t) e v = omega arith

  pub sound_sized : (t : CType) → IsSound t → is_void t ≡ false → 0 < size_of structs t
  sound_sized t e v = sized_form (out-CType t) (sym (ap (λ (f : Sound). f.sound) (sound_out t)) ∙ e) v

  no_void : (b : Bool) → not b ≡ true → b ≡ false
  no_void true e = absurd cc
  no_void false e = refl

  solid : (t : CType) → ((soundness t).sound && not (soundness t).void) ≡ true → IsSound t × (is_void t ≡ false)
  solid t e = let p = both (soundness t).sound (not (soundness t).void) e in (p.0, sym (void_is t) ∙ no_void (soundness t).void p.1)

  element_form : (x : CType-F CType) → (parts_sound (sound_in x)).sound ≡ true → IsSound (element_in x)
  element_form (CType-F.Pointer kind.Nt t) f = (solid t f).0
  element_form (CType-F.Pointer kind.Arr t) f = (solid t f).0
  element_form (CType-F.Pointer kind.Raw t) f = (solid t f).0
  element_form (CType-F.Pointer kind.One t) f = f
  element_form CType-F.Int f = sound_void
  element_form CType-F.Unsigned f = sound_void
  element_form CType-F.Char f = sound_void
  element_form CType-F.Void f = sound_void
  element_form (CType-F.Struct tag) f = sound_void

  pub sound_element : (t : CType) → IsSound t → IsSound (element_of t)
  sound_element t f = element_form (out-CType t) (sym (ap (λ (f : Sound). f.sound) (sound_out t)) ∙ f)

  moved_form : (x : CType-F CType) → (parts_sound (sound_in x)).sound ≡ true → is_moved_kind (kind_in x) ≡ true → is_void (element_in x) ≡ false
  moved_form (CType-F.Pointer kind.Nt t) f e = (solid t f).1
  moved_form (CType-F.Pointer kind.Arr t) f e = (solid t f).1
  moved_form (CType-F.Pointer kind.Raw t) f e = (solid t f).1
  moved_form (CType-F.Pointer kind.One t) f e = absurd cc
  moved_form CType-F.Int f e = absurd cc
  moved_form CType-F.Unsigned f e = absurd cc
  moved_form CType-F.Char f e = absurd cc
  moved_form CType-F.Void f e = absurd cc
  moved_form (CType-F.Struct tag) f e = absurd cc

  -- what a pointer that arithmetic moves points to is not `void`
  pub moved_solid : (t : CType) → IsSound t → is_moved t ≡ true → is_void (element_of t) ≡ false
  moved_solid t f e = moved_form (out-CType t) (sym (ap (λ (f : Sound). f.sound) (sound_out t)) ∙ f) e

  counted_moves : (k : Option Kind) → is_counted_kind k ≡ true → is_moved_kind k ≡ true
  counted_moves (Some kind.Arr) e = refl
  counted_moves (Some kind.Nt) e = refl
  counted_moves (Some kind.Raw) e = absurd cc
  counted_moves (Some kind.One) e = absurd cc
  counted_moves None e = absurd cc

  -- what a counted pointer points to has a size
  pub counted_sized : (t : CType) → IsSound t → is_counted_kind (kind_of t) ≡ true → 0 < size_of structs (element_of t)
  counted_sized t f e = sound_sized (element_of t) (sound_element t f) (moved_solid t f (counted_moves (kind_of t) e))

  -- ---- types of objects

  abbrev objects_in : CType-F CType → CType-F (Option Bool)
  objects_in = map-CType CType (Option Bool) integer_object

  abbrev tags_in : CType-F CType → CType-F Bool
  tags_in = map-CType CType Bool tagged

  abbrev ObjectSound : CType → Type 0
  ObjectSound t = (b : Bool) → integer_object t ≡ Some b → tagged t ≡ true → soundness t ≡ record { sound = true; void = false }

  abbrev Kept : Type 0
  Kept = (t : CType) × ObjectSound t

  abbrev inner : CType-F Kept → CType-F CType
  inner = map-CType Kept CType (λ e. e.0)

  pointer_object : (k : Kind) (o : Option Bool) (f : Sound) → ((c : Bool) → o ≡ Some c → f ≡ record { sound = true; void = false }) → (b : Bool) → pointer_parts k o ≡ Some b
      → pointer_sound k f ≡ record { sound = true; void = false }
  pointer_object kind.Nt (Some c) f h b e = ap (pointer_sound kind.Nt) (h c refl)
  pointer_object kind.Raw (Some c) f h b e = ap (pointer_sound kind.Raw) (h c refl)
  pointer_object kind.One (Some c) f h b e = ap (pointer_sound kind.One) (h c refl)
  pointer_object kind.Arr (Some c) f h b e = ap (pointer_sound kind.Arr) (h c refl)
  pointer_object kind.Nt None f h b e = absurd cc
  pointer_object kind.Raw None f h b e = absurd cc
  pointer_object kind.One None f h b e = absurd cc
  pointer_object kind.Arr None f h b e = absurd cc

  struct_is : (c : Bool) → c ≡ true → ◌≡◌ {A = Sound} (record { sound = c; void = false }) (record { sound = true; void = false })
  struct_is c h = ap (λ (d : Bool). record { sound = d; void = false }) h

  object_step : (y : CType-F Kept) (b : Bool) → object_parts (objects_in (inner y)) ≡ Some b → parts_tagged (tags_in (inner y)) ≡ true
      → parts_sound (sound_in (inner y)) ≡ record { sound = true; void = false }
  object_step CType-F.Int b e h = refl
  object_step CType-F.Unsigned b e h = refl
  object_step CType-F.Char b e h = refl
  object_step CType-F.Void b e h = absurd cc
  object_step (CType-F.Struct tag) b e h = struct_is (nat_lt 0 (sized structs (CType-F.Struct tag))) h
  object_step (CType-F.Pointer k u) b e h = pointer_object k (integer_object u.0) (soundness u.0) (λ c is. u.1 c is h) b e

  objects_sound : (t : CType) → ObjectSound t
  objects_sound = ind-CType ObjectSound (λ x y is b e h.
      fold-roll-CType Sound parts_sound x
      ∙ subst (λ z. object_parts (objects_in z) ≡ Some b → parts_tagged (tags_in z) ≡ true → parts_sound (sound_in z) ≡ record { sound = true; void = false }) is (object_step y b)
      (sym (fold-roll-CType (Option Bool) object_parts x) ∙ e) (sym (fold-roll-CType Bool parts_tagged x) ∙ h))

  object_all : (t : CType) → is_object_type t ≡ true → tagged t ≡ true → soundness t ≡ record { sound = true; void = false }
  object_all t h g = by (integer_object t) refl h
    where
      by : (o : Option Bool) → integer_object t ≡ o → is_some o ≡ true → soundness t ≡ record { sound = true; void = false }
      by (Some b) e i = objects_sound t b e g
      by None e i = absurd cc

  -- a type of objects in which each structure has a size is sound, and has one
  pub object_sound : (t : CType) → is_object_type t ≡ true → tagged t ≡ true → IsSound t
  object_sound t h g = ap (λ (f : Sound). f.sound) (object_all t h g)

  pub object_solid : (t : CType) → is_object_type t ≡ true → tagged t ≡ true → is_void t ≡ false
  object_solid t h g = sym (void_is t) ∙ ap (λ (f : Sound). f.void) (object_all t h g)

  pub object_sized : (t : CType) → is_object_type t ≡ true → tagged t ≡ true → 0 < size_of structs t
  object_sized t h g = sound_sized t (object_sound t h g) (object_solid t h g)

  -- so is a counted pointer to it
  pub array_sound : (k : Kind) (t : CType) → is_object_type t ≡ true → tagged t ≡ true → IsSound (ctype.Pointer k t)
  array_sound k t h g = ap (λ (f : Sound). f.sound) (sound_pointer k t ∙ ap (pointer_sound k) (object_all t h g) ∙ whole k)
    where
      whole : (j : Kind) → pointer_sound j (record { sound = true; void = false }) ≡ record { sound = true; void = false }
      whole kind.Raw = refl
      whole kind.One = refl
      whole kind.Arr = refl
      whole kind.Nt = refl

  pub tagged_pointer : (k : Kind) (t : CType) → tagged (ctype.Pointer k t) ≡ tagged t
  tagged_pointer k t = fold_out-CType Bool parts_tagged (ctype.Pointer k t) ∙ ap (λ x. parts_tagged (map-CType CType Bool tagged x)) (pointer_out k t)

  tagged_void : tagged ctype.Void ≡ true
  tagged_void = fold_out-CType Bool parts_tagged ctype.Void ∙ ap (λ x. parts_tagged (map-CType CType Bool tagged x)) void_out

  element_tagged : (x : CType-F CType) → parts_tagged (map-CType CType Bool tagged x) ≡ true → tagged (element_in x) ≡ true
  element_tagged (CType-F.Pointer k t) e = e
  element_tagged CType-F.Int e = tagged_void
  element_tagged CType-F.Unsigned e = tagged_void
  element_tagged CType-F.Char e = tagged_void
  element_tagged CType-F.Void e = tagged_void
  element_tagged (CType-F.Struct tag) e = tagged_void

  -- so is what a pointer to such a type points to
  pub tagged_element : (t : CType) → tagged t ≡ true → tagged (element_of t) ≡ true
  tagged_element t e = element_tagged (out-CType t) (sym (fold_out-CType Bool parts_tagged t) ∙ e)

  -- ---- rows

  abbrev SoundIf : Option CType → Type 0
  SoundIf o = (t : CType) → o ≡ Some t → IsSound t

  some_sound : (u : CType) → IsSound u → SoundIf (Some u)
  some_sound u f t e = subst IsSound (one t e) f
    where
      one : (t : CType) → Some u ≡ Some t → u ≡ t
      one t e = cc

  none_sound : SoundIf None
  none_sound t e = absurd cc

  either : (b : Bool) (o p : Option CType) → SoundIf o → SoundIf p → SoundIf (if b then o else p)
  either true o p f g = f
  either false o p f g = g

  choose : (b : Bool) (u : CType) → IsSound u → SoundIf (if b then Some u else None)
  choose b u f = either b (Some u) None (some_sound u f) none_sound

  word_sound : (b : Bool) → IsSound (if b then ctype.Unsigned else ctype.Int)
  word_sound true = sound_unsigned
  word_sound false = sound_int

  arithmetic_sound : (t u : CType) → SoundIf (arithmetic_type t u)
  arithmetic_sound t u = choose (is_integer t && is_integer u) (common t u) (word_sound (is_unsigned t || is_unsigned u))

  shift_sound : (t u : CType) → SoundIf (shift_type t u)
  shift_sound t u = choose (is_integer t && is_integer u) (promoted t) (word_sound (is_unsigned t))

  both_sound : (t u : CType) → SoundIf (both_type t u)
  both_sound t u = choose (is_scalar t && is_scalar u) ctype.Int sound_int

  comparison_sound : (t : CType) (m : Bool) (u : CType) (n : Bool) → SoundIf (comparison_type t m u n)
  comparison_sound t m u n = choose (is_compared t m u n) ctype.Int sound_int

  sum_sound : (t u : CType) → IsSound t → IsSound u → SoundIf (sum_type t u)
  sum_sound t u f g =
      either (is_moved t && is_integer u) (Some t) (if is_integer t && is_moved u then Some u else arithmetic_type t u) (some_sound t f)
      (either (is_integer t && is_moved u) (Some u) (arithmetic_type t u) (some_sound u g) (arithmetic_sound t u))

  difference_sound : (t u : CType) → IsSound t → SoundIf (difference_type t u)
  difference_sound t u f =
      either (is_moved t && is_integer u) (Some t) (if is_pointer t then distance_type t u else arithmetic_type t u) (some_sound t f)
      (either (is_pointer t) (distance_type t u) (arithmetic_type t u) (choose (same_element t u && not (is_void (element_of t))) ctype.Int sound_int) (arithmetic_sound t u))

  binary_sound : (o : TreeOp) (t : CType) (m : Bool) (u : CType) (n : Bool) → IsSound t → IsSound u → SoundIf (binary_type o t m u n)
  binary_sound op.OrElse t m u n f g = both_sound t u
  binary_sound op.AndThen t m u n f g = both_sound t u
  binary_sound op.Or t m u n f g = arithmetic_sound t u
  binary_sound op.Xor t m u n f g = arithmetic_sound t u
  binary_sound op.And t m u n f g = arithmetic_sound t u
  binary_sound op.Eq t m u n f g = comparison_sound t m u n
  binary_sound op.Ne t m u n f g = comparison_sound t m u n
  binary_sound op.Lt t m u n f g = comparison_sound t m u n
  binary_sound op.Le t m u n f g = comparison_sound t m u n
  binary_sound op.Gt t m u n f g = comparison_sound t m u n
  binary_sound op.Ge t m u n f g = comparison_sound t m u n
  binary_sound op.Shl t m u n f g = shift_sound t u
  binary_sound op.Shr t m u n f g = shift_sound t u
  binary_sound op.Add t m u n f g = sum_sound t u f g
  binary_sound op.Sub t m u n f g = difference_sound t u f
  binary_sound op.Mul t m u n f g = arithmetic_sound t u
  binary_sound op.Div t m u n f g = arithmetic_sound t u
  binary_sound op.Rem t m u n f g = arithmetic_sound t u
  binary_sound o t m u n f g = none_sound

  pub joined_flags : (a b : Bool) → a ≡ true → b ≡ false → (a && not b) ≡ true
  joined_flags true false e f = refl
  joined_flags true true e f = absurd cc
  joined_flags false b e f = absurd cc

  address_sound : (mode : Mode) (t : CType) → IsSound t → is_void t ≡ false → IsSound (ctype.Pointer (address_kind mode) t)
  address_sound Checked t f v = ap (λ (g : Sound). g.sound) (sound_pointer kind.Arr t) ∙ joined_flags (soundness t).sound (soundness t).void f (void_is t ∙ v)
  address_sound Unchecked t f v = ap (λ (g : Sound). g.sound) (sound_pointer kind.Raw t) ∙ joined_flags (soundness t).sound (soundness t).void f (void_is t ∙ v)

  string_sound : (mode : Mode) → IsSound (string_type mode)
  string_sound Checked = ap (λ (g : Sound). g.sound) (sound_pointer kind.Nt ctype.Char ∙ ap (pointer_sound kind.Nt) char_sound)
  string_sound Unchecked = ap (λ (g : Sound). g.sound) (sound_pointer kind.Raw ctype.Char ∙ ap (pointer_sound kind.Raw) char_sound)

  -- what a row gives if a condition holds
  guarded : (b : Bool) (u t : CType) → (if b then Some u else None) ≡ Some t → (b ≡ true) × (u ≡ t)
  guarded true u t e = (refl, one e)
    where
      one : Some u ≡ Some t → u ≡ t
      one f = cc
  guarded false u t e = absurd cc

  unlike : (b : Bool) → not b ≡ true → b ≡ false
  unlike = no_void

  module _ (globals : Globals) where
    -- whether a node has an address
    abbrev pub places : NotedLayer → Bool
    places x = is_object_form globals x || is_placed_form x

    -- a type of a node is sound, and is not `void` if the node has an address
    abbrev pub Meets : NotedLayer → CType → Type 0
    Meets x t = IsSound t × (places x ≡ true → is_void t ≡ false)

    -- the types of the parts that a type is made of are so
    abbrev pub PartsMeet : NotedLayer → Type 0
    PartsMeet (Node-F.Un o e) = Meets (out-Node Name Note e.node) e.note.ctype
    PartsMeet (Node-F.Bin o e f) = IsSound e.note.ctype × IsSound f.note.ctype
    PartsMeet (Node-F.Index e f) = IsSound e.note.ctype
    PartsMeet n = Unit {0}

    module _ (variables : List Variable) (a : AreSound globals variables) (mode : Mode) where
      address_row : (e : NotedExpr) → Meets (out-Node Name Note e.node) e.note.ctype → SoundIf (unary_row globals mode op.Address e)
      address_row e f t h =
          let g = guarded (has_address globals e) (ctype.Pointer (address_kind mode) e.note.ctype) t h in
          subst IsSound g.1 (address_sound mode e.note.ctype f.0 (f.1 g.0))

      unary_sound : (o : TreeOp) (e : NotedExpr) → Meets (out-Node Name Note e.node) e.note.ctype → SoundIf (unary_row globals mode o e)
      unary_sound op.Address e f = address_row e f
      unary_sound op.Minus e f = choose (is_integer e.note.ctype) (promoted e.note.ctype) (word_sound (is_unsigned e.note.ctype))
      unary_sound op.Plus e f = choose (is_integer e.note.ctype) (promoted e.note.ctype) (word_sound (is_unsigned e.note.ctype))
      unary_sound op.Flip e f = choose (is_integer e.note.ctype) (promoted e.note.ctype) (word_sound (is_unsigned e.note.ctype))
      unary_sound op.Not e f = choose (is_scalar e.note.ctype) ctype.Int sound_int
      unary_sound op.Deref e f = choose (is_pointer e.note.ctype && not (is_void (element_of e.note.ctype))) (element_of e.note.ctype) (sound_element e.note.ctype f.0)
      unary_sound o e f = none_sound

      target_solid : (u t : CType) → target_type u ≡ Some t → is_void t ≡ false
      target_solid u t h =
          let g = guarded (is_pointer u && not (is_void (element_of u))) (element_of u) t h in
          subst (λ x. is_void x ≡ false) g.1 (unlike (is_void (element_of u)) (both (is_pointer u) (not (is_void (element_of u))) g.0).1)

      index_solid : (u v t : CType) → IsSound u → index_type u v ≡ Some t → is_void t ≡ false
      index_solid u v t f h =
          let g = guarded (is_moved u && is_integer v) (element_of u) t h in
          subst (λ x. is_void x ≡ false) g.1 (moved_solid u f (both (is_moved u) (is_integer v) g.0).0)

      scalar_solid : (f : CType-F CType) → (is_integer_form f || is_pointer_form f) ≡ true → is_void_form f ≡ false
      scalar_solid CType-F.Int e = refl
      scalar_solid CType-F.Unsigned e = refl
      scalar_solid CType-F.Char e = refl
      scalar_solid CType-F.Void e = absurd cc
      scalar_solid (CType-F.Struct tag) e = absurd cc
      scalar_solid (CType-F.Pointer k t) e = refl

      member_sound : (n : Name) (x : CType-F CType) (t : CType) → member_in globals.structs n x ≡ Some t → IsSound t × (is_void t ≡ false)
      member_sound n (CType-F.Struct tag) t h = let m = a.members tag n t h in (m.0, scalar_solid (out-CType t) m.1)
      member_sound n CType-F.Int t h = absurd cc
      member_sound n CType-F.Unsigned t h = absurd cc
      member_sound n CType-F.Char t h = absurd cc
      member_sound n CType-F.Void t h = absurd cc
      member_sound n (CType-F.Pointer k u) t h = absurd cc

      unary_placed : (o : TreeOp) (e : NotedExpr) (t : CType) → unary_row globals mode o e ≡ Some t → is_target_op o ≡ true → is_void t ≡ false
      unary_placed op.Deref e t h p = target_solid e.note.ctype t h
      unary_placed op.Address e t h p = absurd cc
      unary_placed op.Minus e t h p = absurd cc
      unary_placed op.Plus e t h p = absurd cc
      unary_placed op.Flip e t h p = absurd cc
      unary_placed op.Not e t h p = absurd cc
      unary_placed o e t h p = absurd cc

      written : (w : TypeTree) (t : CType) → tagged (type_written w) ≡ true → is_object_type (type_written w) ≡ true → t ≡ type_written w → IsSound t
      written w t g o is = subst IsSound (sym is) (object_sound (type_written w) o g)

      row_sound : (x : NotedLayer) (t : CType) → PartsMeet x → WritesTagged x → HasType globals variables mode x t → IsSound t
      row_sound (Node-F.Number n unsigned) t p w h = subst IsSound (sym h) (word_sound unsigned)
      row_sound (Node-F.Text bytes) t p w h = subst IsSound (sym h) (string_sound mode)
      row_sound Node-F.Null t p w h = subst IsSound (sym h) (ap (λ (g : Sound). g.sound) (sound_pointer kind.One ctype.Void) ∙ sound_void)
      row_sound (Node-F.Name n) t p w h = (a.names n t h).0
      row_sound (Node-F.Un o e) t p w h = unary_sound o e p t h
      row_sound (Node-F.Bin o e f) t p w h = binary_sound o e.note.ctype (is_null e) f.note.ctype (is_null f) p.0 p.1 t h
      row_sound (Node-F.Pick e f g) t p w h = either (is_scalar e.note.ctype) (arithmetic_type f.note.ctype g.note.ctype) None (arithmetic_sound f.note.ctype g.note.ctype) none_sound t h
      row_sound (Node-F.Index e f) t p w h = choose (is_moved e.note.ctype && is_integer f.note.ctype) (element_of e.note.ctype) (sound_element e.note.ctype p) t h
      row_sound (Node-F.Dot e n at) t p w h = (member_sound n (out-CType e.note.ctype) t h).0
      row_sound (Node-F.Arrow e n at) t p w h = (member_sound n (out-CType (element_of e.note.ctype)) t h).0
      row_sound (Node-F.Cast v e) t p w h = written v t w (both (is_object_type (type_written v)) _ h.0).0 h.1
      row_sound (Node-F.Size v) t p w h = choose (is_object_type (type_written v)) ctype.Unsigned sound_unsigned t h
      row_sound (Node-F.Trusted v e l) t p w h = written v t w (both (is_object_type (type_written v)) _ h.0).0 h.2
      row_sound (Node-F.Tested v e l) t p w h = written v t w (both (is_object_type (type_written v)) _ h.0).0 h.2
      row_sound (Node-F.Call n es) t p w h = subst IsSound (sym h.3) (a.results n h.0 h.1)
      row_sound (Node-F.Calloc v e u) t p w h = subst IsSound (sym h.pointer) (array_sound kind.Arr (type_written v) h.object w)

      row_solid : (x : NotedLayer) (t : CType) → PartsMeet x → HasType globals variables mode x t → places x ≡ true → is_void t ≡ false
      row_solid (Node-F.Name n) t p h e = (a.names n t h).1
      row_solid (Node-F.Un o k) t p h e = unary_placed o k t h e
      row_solid (Node-F.Index k j) t p h e = index_solid k.note.ctype j.note.ctype t p h
      row_solid (Node-F.Dot k n at) t p h e = (member_sound n (out-CType k.note.ctype) t h).1
      row_solid (Node-F.Arrow k n at) t p h e = (member_sound n (out-CType (element_of k.note.ctype)) t h).1
      row_solid (Node-F.Number n u) t p h e = absurd cc
      row_solid (Node-F.Text bytes) t p h e = absurd cc
      row_solid Node-F.Null t p h e = absurd cc
      row_solid (Node-F.Bin o k j) t p h e = absurd cc
      row_solid (Node-F.Pick k j i) t p h e = absurd cc
      row_solid (Node-F.Cast v k) t p h e = absurd cc
      row_solid (Node-F.Size v) t p h e = absurd cc
      row_solid (Node-F.Trusted v k l) t p h e = absurd cc
      row_solid (Node-F.Tested v k l) t p h e = absurd cc
      row_solid (Node-F.Call n es) t p h e = absurd cc
      row_solid (Node-F.Calloc v k u) t p h e = absurd cc

      pub row_meets : (x : NotedLayer) (t : CType) → PartsMeet x → WritesTagged x → HasType globals variables mode x t → Meets x t
      row_meets x t p w h = (row_sound x t p w h, row_solid x t p h)

  -- ---- expressions

  -- an expression has its row, and each structure in a type that it writes has a size
  abbrev pub HasSizes : Globals → Setting → ExprLayer → Type 0
  HasSizes globals s e = HasRow globals s e × WritesTagged (out-Node Name Note e.node)

  module _ (globals : Globals) (s : Setting) (a : AreSound globals s.variables) where
    record NodeSound (n : NotedNode) : Type 0 where
      pub parts : EachNode (HasSizes globals s) n → PartsMeet globals (out-Node Name Note n)

    record ExprSound (e : NotedExpr) : Type 0 where
      pub meets : EachExpr (HasSizes globals s) e → Meets globals (out-Node Name Note e.node) e.note.ctype

    abbrev AnyLimit : NotedLimits → Type 0
    AnyLimit l = Unit {0}

    abbrev KeptLimits : Type 0
    KeptLimits = (l : NotedLimits) × AnyLimit l

    abbrev KeptNode : Type 0
    KeptNode = (n : NotedNode) × NodeSound n

    abbrev KeptExpr : Type 0
    KeptExpr = (e : NotedExpr) × ExprSound e

    abbrev inner_node : Node-F Name Note KeptLimits KeptNode KeptExpr → NotedLayer
    inner_node = map-Node Name Note KeptLimits KeptNode KeptExpr NotedLimits NotedNode NotedExpr (λ e. e.0) (λ e. e.0) (λ e. e.0)

    abbrev inner_expr : Expr-F Name Note KeptLimits KeptNode KeptExpr → Expr-F Name Note NotedLimits NotedNode NotedExpr
    inner_expr = map-Expr Name Note KeptLimits KeptNode KeptExpr NotedLimits NotedNode NotedExpr (λ e. e.0) (λ e. e.0) (λ e. e.0)

    node_back : (x : NotedLayer) → out-Node Name Note (roll-Node Name Note x) ≡ x
    node_back x = search (rules, node_lemmas)

    node_step : (y : Node-F Name Note KeptLimits KeptNode KeptExpr) → NodeParts (HasSizes globals s) (inner_node y) → PartsMeet globals (inner_node y)
    node_step (Node-F.Un o k) w = k.1.meets w
    node_step (Node-F.Bin o k j) w = ((k.1.meets w.0).0, (j.1.meets w.1).0)
    node_step (Node-F.Index k j) w = (k.1.meets w.0).0
    node_step y w = tt

    node_by : (x : NotedLayer) (y : Node-F Name Note KeptLimits KeptNode KeptExpr) → inner_node y ≡ x → NodeSound (roll-Node Name Note x)
    node_by x y is = record {
      parts = λ w. subst (PartsMeet globals) (sym (node_back x))
          (subst (λ z. NodeParts (HasSizes globals s) z → PartsMeet globals z) is (node_step y) (node_hold (HasSizes globals s) x w));
    }

    expr_is : (e : NotedExpr) → NodeSound e.node → ExprSound e
    expr_is e h = record {
      meets = λ w. (let row = every_here-Expr Name Note AnyLimits AnyNode (HasSizes globals s) e w in
          row_meets globals s.variables a row.0.mode (out-Node Name Note e.node) e.note.ctype (h.parts (inside (HasSizes globals s) e w)) row.1 row.0.row);
    }

    expr_by : (x : Expr-F Name Note NotedLimits NotedNode NotedExpr) (y : Expr-F Name Note KeptLimits KeptNode KeptExpr) → inner_expr y ≡ x → ExprSound (roll-Expr Name Note x)
    expr_by x y is = subst (λ z. ExprSound (roll-Expr Name Note z)) is (expr_is (roll-Expr Name Note (inner_expr y)) y.node.1)

    exprs_sound : (e : NotedExpr) → ExprSound e
    exprs_sound = ind-Expr Name Note AnyLimit NodeSound ExprSound (λ x y is. tt) node_by expr_by

    -- the type of an expression is sound
    pub typed_sound : (e : NotedExpr) → EachExpr (HasSizes globals s) e → IsSound e.note.ctype
    typed_sound e w = ((exprs_sound e).meets w).0
