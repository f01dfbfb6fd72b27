-- What static objects begin with: there is room for it, null-terminated ones end with zero, and what is no integer begins
-- as zeros.
use Rattle.std.proofs.Common.{◌≡◌, ℕ, zero, suc, ◌+◌, ◌-◌, ◌*◌, ◌<◌, ◌≤◌, Bool, true, false, List, [], ◌∷◌, ◌++◌, length, map, Option, None, refl, sym, ap, subst, ◌∙◌, length-append, arith}
use Rattle.std.proofs.Math.Nat.{mul-le-mul_left, mul-le-mul_right}
use Rattle.std.specs.Option.{option_map_or}
use Rattle.std.specs.Prelude.{◌&&◌, ◌||◌, if◌then◌else◌, take, is_some, unwrap_or}
use Rattle.std.specs.Int.{w32, to_le_bytes}
use Rattle.std.specs.List.{All, AllByRecursion, flat_map}
use Rattle.std.proofs.lemmas.Bool.{eqb-true}
use Rattle.std.proofs.lemmas.List.Elements.{All-nil, All-cons, All-append}
use Rattle.ckc_base.specs.declared.arithmetic.Mode.{Mode}
use Rattle.ckc_types.specs.declared.types.CType.{CType, CType-F, out-CType, the_lemmas}
use Rattle.ckc_types.specs.declared.types.CType.TheVariants as ctype
use Rattle.ckc_types.specs.declared.types.Structs.{Structs}
use Rattle.ckc_types.specs.Layout.{size_by_form}
use Rattle.ckc_syntax.specs.declared.tree.Name.{Name}
use Rattle.ckc_syntax.specs.declared.tree.Init.TheVariants as init
use Rattle.ckc_syntax.specs.declared.tree.Item.TheVariants as item
use Rattle.ckc_syntax.specs.declared.tree.Length.{Length}
use Rattle.ckc_syntax.specs.declared.tree.Length.TheVariants as lengths
use Rattle.ckc_syntax.specs.declared.tree.Limits.{fold-Limits}
use Rattle.ckc_syntax.specs.declared.tree.Node.{Node-F, map-Node, out-Node, fold_out-Node}
use Rattle.ckc_syntax.specs.declared.tree.Expr.{fold_out-Expr}
use Rattle.ckc_typed.specs.declared.environment.Constant.{Constant}
use Rattle.ckc_typed.specs.declared.environment.Globals.{Globals}
use Rattle.ckc_typed.specs.declared.typed.Note.{Note}
use Rattle.ckc_typed.specs.declared.typed.StaticObject.{StaticObject}
use Rattle.ckc_typed.specs.Trees.{NotedItem, NotedDecl, NotedInit, NotedLimits, NotedNode, NotedExpr, NotedLayer}
use Rattle.ckc_typed.specs.Types.{type_written, is_integer, is_pointer, is_char, is_integer_form, is_pointer_form, is_char_form}
use Rattle.ckc_typed.specs.Environment.{kind_of_array}
use Rattle.ckc_typed.specs.Constants.{constant, constant_of_node, size_of, is_laid_out_form, limits_constant, node_constant, expr_constant}
use Rattle.ckc_typed.specs.Conversions.{is_null_form, is_null}
use Rattle.ckc_typed.specs.Declarations.{is_plain, string_in, string_in_form, is_start, kept_zero, is_element_for}
use Rattle.ckc_typed.specs.Statics.{bytes_of, bytes_of_one, initial_bytes, is_terminated, object_of, objects_of_item, object_of_string, strings_of_item, blocks}
use Rattle.ckc_typed.specs.Walk.{pragma_after}
use Rattle.ckc_typed_welltyped.specs.Noteless.{bare_item}
use Rattle.ckc_typed_welltyped.specs.Declarations.{StartsStatic, WellTypedStatic}
use Rattle.ckc_typed_welltyped.specs.Texts.{WellTypedItem, WellTypedItems}

-- ---- zeros

-- the bytes are zeros
abbrev pub AreZeros : List ℕ → Type 0
AreZeros [] = Unit {0}
AreZeros (b ∷ bytes) = (b ≡ 0) × AreZeros bytes

zeros_joined : (a b : List ℕ) → AreZeros a → AreZeros b → AreZeros (a ++ b)
zeros_joined [] b p q = q
zeros_joined (x ∷ a) b p q = (p.0, zeros_joined a b p.1 q)

zeros_taken : (n : ℕ) (a : List ℕ) → AreZeros a → AreZeros (take n a)
zeros_taken zero a p = tt
zeros_taken (suc n) [] p = tt
zeros_taken (suc n) (x ∷ a) p = (p.0, zeros_taken n a p.1)

-- ---- what is known of the first bytes of an object, wherever it lies

pub record IsBegun (structs : Structs) (o : StaticObject) : Type 0 where
  pub fits : length o.initial ≤ size_of structs o.element * o.count
  pub some : 0 < o.count
  pub integers : o.terminated ≡ true → is_integer o.element ≡ true
  pub ended : o.terminated ≡ true → length o.initial ≤ size_of structs o.element * (o.count - 1)
  pub zeros : is_integer o.element ≡ false → AreZeros o.initial

both : (a b : Bool) → (a && b) ≡ true → (a ≡ true) × (b ≡ true)
both true b e = (refl, e)
both false b e = absurd cc

-- neither side holds if each has a part that does not
neither : (a b : Bool) → ((a && false) || (b && false)) ≡ true → ⊥
neither true true e = cc
neither true false e = cc
neither false true e = cc
neither false false e = cc

taken_most : (n : ℕ) (bytes : List ℕ) → length (take n bytes) ≤ n
taken_most zero bytes = omega arith
taken_most (suc n) [] = omega arith
taken_most (suc n) (b ∷ bytes) = omega (arith, taken_most n bytes)

abbrev width : CType → ℕ
width t = if is_char t then 1 else 4

module _ (structs : Structs) where
  -- ---- sizes

  abbrev form_size : CType-F CType → ℕ
  form_size x = if is_laid_out_form structs x then size_by_form structs x else 0

  scalar_size : (x : CType-F CType) → (is_integer_form x || is_pointer_form x) ≡ true → (if is_char_form x then 1 else 4) ≤ form_size x
  scalar_size CType-F.Int h = omega arith
  scalar_size CType-F.Unsigned h = omega arith
  scalar_size CType-F.Char h = omega arith
  scalar_size CType-F.Void h = absurd cc
  scalar_size (CType-F.Struct tag) h = absurd cc
  scalar_size (CType-F.Pointer k t) h = omega arith

  pub char_size : (x : CType-F CType) → is_char_form x ≡ true → (1 ≤ form_size x) × (is_integer_form x ≡ true)
  char_size CType-F.Char h = (omega arith, refl)
  char_size CType-F.Int h = absurd cc
  char_size CType-F.Unsigned h = absurd cc
  char_size CType-F.Void h = absurd cc
  char_size (CType-F.Struct tag) h = absurd cc
  char_size (CType-F.Pointer k t) h = absurd cc

  -- ---- constants

  abbrev held_node : NotedLayer → Node-F Name Note (Unit {0}) (Option Constant) (Option Constant)
  held_node = map-Node Name Note NotedLimits NotedNode NotedExpr (Unit {0}) (Option Constant) (Option Constant) (fold-Limits Name Note (Unit {0}) (Option Constant) (Option Constant) limits_constant (node_constant structs) expr_constant) (constant_of_node structs) (constant structs)

  constant_is : (e : NotedExpr) → constant structs e ≡ node_constant structs (held_node (out-Node Name Note e.node))
  constant_is e =
      fold_out-Expr Name Note (Unit {0}) (Option Constant) (Option Constant) limits_constant (node_constant structs) expr_constant e
      ∙ fold_out-Node Name Note (Unit {0}) (Option Constant) (Option Constant) limits_constant (node_constant structs) expr_constant e.node

  -- a constant and null are no strings
  no_string_by : (t : CType) (x : NotedLayer) (c : Option Constant) → c ≡ node_constant structs (held_node x)
      → ((is_integer t && is_some c) || (is_pointer t && is_null_form x)) ≡ true → string_in_form x ≡ None
  no_string_by t (Node-F.Text bytes) c e h = absurd (neither (is_integer t) (is_pointer t) (subst (λ d. ((is_integer t && is_some d) || (is_pointer t && false)) ≡ true) e h))
  no_string_by t x c e h = refl

  no_string : (t : CType) (e : NotedExpr) → is_start structs t e ≡ true → string_in e ≡ None
  no_string t e h = no_string_by t (out-Node Name Note e.node) (constant structs e) (constant_is e) h

  abbrev word_in : Option Constant → ℕ
  word_in c = option_map_or (λ (c : Constant). c.word) c 0

  null_word : (x : NotedLayer) → is_null_form x ≡ true → word_in (node_constant structs (held_node x)) ≡ 0
  null_word Node-F.Null h = refl
  null_word (Node-F.Number n unsigned) h = eqb-true n 0 h
  null_word x h = absurd cc

  zero_word : AreZeros (to_le_bytes w32 0)
  zero_word = (refl, (refl, (refl, (refl, tt))))

  -- what begins as null begins with zeros
  null_zeros : (t : CType) (e : NotedExpr) → is_integer t ≡ false → is_start structs t e ≡ true → AreZeros (bytes_of structs t e)
  null_zeros t e i h =
      zeros_taken (width t) _
      (subst (λ n. AreZeros (to_le_bytes w32 n)) (sym (ap word_in (constant_is e) ∙ null_word (out-Node Name Note e.node) (null (is_integer t) (is_pointer t) i h))) zero_word)
    where
      null : (a b : Bool) → a ≡ false → ((a && is_some (constant structs e)) || (b && is_null e)) ≡ true → is_null e ≡ true
      null false true i h = h
      null false false i h = absurd cc
      null true b i h = absurd cc

  one_most : (t : CType) (e : NotedExpr) → length (bytes_of structs t e) ≤ width t
  one_most t e = taken_most (width t) _

  many_most : (t : CType) (es : List NotedExpr) → length (flat_map (bytes_of structs t) es) ≤ width t * length es
  many_most t [] = omega arith
  many_most t (e ∷ es) = rw (length-append (bytes_of structs t e) (flat_map (bytes_of structs t) es)) (omega (arith, one_most t e, many_most t es))

  many_zeros : (t : CType) (es : List NotedExpr) → is_integer t ≡ false → AllByRecursion (λ e. is_start structs t e ≡ true) es → AreZeros (flat_map (bytes_of structs t) es)
  many_zeros t [] i h = tt
  many_zeros t (e ∷ es) i h = zeros_joined (bytes_of structs t e) (flat_map (bytes_of structs t) es) (null_zeros t e i h.0) (many_zeros t es i h.1)

  -- ---- initialisers

  start_room : (t : CType) (plain : Bool) (room : ℕ) (i : NotedInit) → StartsStatic structs t plain room i → (plain ≡ true → 1 ≤ room)
      → length (initial_bytes structs t i) ≤ size_of structs t * room
  start_room t plain room init.Nothing s one = omega arith
  start_room t true room (init.One e) s one =
      let small : width t ≤ size_of structs t = scalar_size (out-CType t) s.0 in
      let whole : size_of structs t * 1 ≤ size_of structs t * room = mul-le-mul_left (size_of structs t) (one refl) in
      subst (λ s. length (bytes_of_one structs t e s) ≤ size_of structs t * room) (sym (no_string t e s.1)) (omega (arith, one_most t e))
  start_room t false room (init.One e) s one =
      let few = s.fits in
      let wide : 1 * room ≤ size_of structs t * room = mul-le-mul_right room (char_size (out-CType t) s.char).0 in
      subst (λ o. length (bytes_of_one structs t e o) ≤ size_of structs t * room) (sym s.spelled) (omega arith)
  start_room t plain room (init.Many es) s one =
      let wide : width t * length es ≤ size_of structs t * length es = mul-le-mul_right (length es) (scalar_size (out-CType t) s.scalar) in
      let many : size_of structs t * length es ≤ size_of structs t * room = mul-le-mul_left (size_of structs t) s.fits in
      omega (arith, many_most t es)

  start_zeros : (t : CType) (plain : Bool) (room : ℕ) (i : NotedInit) → StartsStatic structs t plain room i → is_integer t ≡ false
      → AreZeros (initial_bytes structs t i)
  start_zeros t plain room init.Nothing s n = tt
  start_zeros t true room (init.One e) s n = subst (λ o. AreZeros (bytes_of_one structs t e o)) (sym (no_string t e s.1)) (null_zeros t e n s.1)
  start_zeros t false room (init.One e) s n = let y = (char_size (out-CType t) s.char).1 in absurd cc
  start_zeros t plain room (init.Many es) s n = many_zeros t es n s.starts

  -- ---- declarations

  whole : (n : ℕ) → n - 0 ≡ n
  whole n = omega arith

  length_begun : (t : CType) (l : Length) (n : ℕ) (i : NotedInit) → 1 ≤ n → is_element_for l t ≡ true → StartsStatic structs t (is_plain l) (n - kept_zero l) i
      → IsBegun structs (record { at = 0; element = t; array = kind_of_array l; count = n; terminated = is_terminated l; initial = initial_bytes structs t i })
  length_begun t lengths.Plain n i one element starts =
      let room = start_room t true (n - 0) i starts (λ e. omega arith) in
      record {
        fits = subst (λ k. length (initial_bytes structs t i) ≤ size_of structs t * k) (whole n) room;
        some = one;
        integers = λ e. absurd cc;
        ended = λ e. absurd cc;
        zeros = λ e. start_zeros t true (n - 0) i starts e;
      }
  length_begun t (lengths.Raw m pos) n i one element starts =
      let room = start_room t false (n - 0) i starts (λ e. absurd cc) in
      record {
        fits = subst (λ k. length (initial_bytes structs t i) ≤ size_of structs t * k) (whole n) room;
        some = one;
        integers = λ e. absurd cc;
        ended = λ e. absurd cc;
        zeros = λ e. start_zeros t false (n - 0) i starts e;
      }
  length_begun t (lengths.Checked m) n i one element starts =
      let room = start_room t false (n - 0) i starts (λ e. absurd cc) in
      record {
        fits = subst (λ k. length (initial_bytes structs t i) ≤ size_of structs t * k) (whole n) room;
        some = one;
        integers = λ e. absurd cc;
        ended = λ e. absurd cc;
        zeros = λ e. start_zeros t false (n - 0) i starts e;
      }
  length_begun t (lengths.Nt m) n i one element starts =
      let room = start_room t false (n - 1) i starts (λ e. absurd cc) in
      let less : size_of structs t * (n - 1) ≤ size_of structs t * n = mul-le-mul_left (size_of structs t) (omega arith) in
      record {
        fits = omega arith;
        some = one;
        integers = λ e. element;
        ended = λ e. room;
        zeros = λ e. start_zeros t false (n - 1) i starts e;
      }

-- ---- the objects of a text

static_begun : (globals : Globals) (pragma : Mode) (d : NotedDecl) → WellTypedStatic globals pragma d → IsBegun globals.structs (object_of globals.structs d)
static_begun globals pragma d w =
    subst (λ n. IsBegun globals.structs (record { at = 0; element = type_written d.ctype; array = kind_of_array d.length; count = n; terminated = is_terminated d.length; initial = initial_bytes globals.structs (type_written d.ctype) d.init }))
    (sym (ap (λ o. unwrap_or o 0) w.counted))
    (length_begun globals.structs (type_written d.ctype) d.length w.count d.init w.some w.element w.starts)

string_begun : (structs : Structs) (bytes : List ℕ) → IsBegun structs (object_of_string bytes)
string_begun structs bytes =
    let char = char_size structs (out-CType ctype.Char) (simp (the_lemmas) refl) in
    let one : 1 ≤ size_of structs ctype.Char = char.0 in
    let less : 1 * length bytes ≤ size_of structs ctype.Char * length bytes = mul-le-mul_right (length bytes) one in
    let more : size_of structs ctype.Char * length bytes ≤ size_of structs ctype.Char * (length bytes + 1) = mul-le-mul_left (size_of structs ctype.Char) (omega arith) in
    let same : length bytes + 1 - 1 ≡ length bytes = omega arith in
    record {
      fits = omega arith;
      some = omega arith;
      integers = λ e. char.1;
      ended = λ e. subst (λ n. length bytes ≤ size_of structs ctype.Char * n) (sym same) (omega arith);
      zeros = λ e. absurd (let y = char.1 in cc);
    }

strings_begun : (structs : Structs) (ss : List (List ℕ)) → All (IsBegun structs) (map object_of_string ss)
strings_begun structs [] = All-nil (IsBegun structs)
strings_begun structs (s ∷ ss) = All-cons (IsBegun structs) (object_of_string s) (map object_of_string ss) (string_begun structs s) (strings_begun structs ss)

items_begun : (globals : Globals) (pragma : Mode) (items : List NotedItem) → WellTypedItems globals pragma items
    → All (IsBegun globals.structs) (flat_map (objects_of_item globals.structs) items)
items_begun globals pragma [] w = All-nil (IsBegun globals.structs)
items_begun globals pragma (i ∷ rest) w =
    All-append (IsBegun globals.structs) (objects_of_item globals.structs i) _ (one i w.0) (items_begun globals (pragma_after pragma (bare_item i)) rest w.1)
  where
    one : (i : NotedItem) → WellTypedItem globals pragma i → All (IsBegun globals.structs) (objects_of_item globals.structs i)
    one (item.Static d) w = All-cons (IsBegun globals.structs) (object_of globals.structs d) [] (static_begun globals pragma d w) (All-nil (IsBegun globals.structs))
    one (item.Directive d) w = All-nil (IsBegun globals.structs)
    one (item.Tag n at) w = All-nil (IsBegun globals.structs)
    one (item.Struct n ms at) w = All-nil (IsBegun globals.structs)
    one (item.Proto h) w = All-nil (IsBegun globals.structs)
    one (item.Function h body) w = All-nil (IsBegun globals.structs)

pub blocks_begun : (globals : Globals) (pragma : Mode) (items : List NotedItem) → WellTypedItems globals pragma items
    → All (IsBegun globals.structs) (blocks globals.structs items)
blocks_begun globals pragma items w =
    All-append (IsBegun globals.structs) (flat_map (objects_of_item globals.structs) items) (map object_of_string (flat_map strings_of_item items))
    (items_begun globals pragma items w) (strings_begun globals.structs (flat_map strings_of_item items))
