-- Each static object of a typed text has room for the bytes that it begins with.
use Rattle.std.proofs.Common.{◌≡◌, ◌≤◌, ℕ, zero, suc, ◌+◌, ◌*◌, ◌-◌, Bool, true, false, List, [], ◌∷◌, length, map, Option, None, Some, refl, sym, subst, ◌∙◌, length-append, arith}
use Rattle.std.proofs.Math.Nat.{mul-le-mul_left, mul-le-mul_right}
use Rattle.std.specs.Prelude.{Ok, nat_le, not, ◌&&◌, ◌||◌, if◌then◌else◌, take, is_some, unwrap_or}
use Rattle.std.specs.List.{flat_map}
use Rattle.std.proofs.lemmas.Bool.Decides.{nat_tests}
use Rattle.std.proofs.lemmas.List.Elements.{All-nil, All-cons, All-append}
use Rattle.ckc_base.specs.declared.arithmetic.Mode.{Mode}
use Rattle.ckc_base.specs.declared.arithmetic.Mode.TheVariants.{Unchecked}
use Rattle.ckc_types.specs.declared.types.CType.{CType, CType-F, out-CType, the_lemmas}
use Rattle.ckc_types.specs.declared.types.CType.TheVariants as ctype
use Rattle.ckc_types.specs.declared.types.Structs.{Structs}
use Rattle.ckc_types.specs.Layout.{size_by_form}
use Rattle.ckc_syntax.specs.declared.tree.Name.{Name}
use Rattle.ckc_syntax.specs.declared.tree.NamedText.{NamedText}
use Rattle.ckc_syntax.specs.declared.tree.Init.TheVariants as init
use Rattle.ckc_syntax.specs.declared.tree.Item.TheVariants as item
use Rattle.ckc_syntax.specs.declared.tree.Node.{Node-F, map-Node, out-Node, fold_out-Node}
use Rattle.ckc_syntax.specs.declared.tree.Expr.{fold_out-Expr}
use Rattle.ckc_syntax.specs.declared.tree.Limits.{fold-Limits}
use Rattle.ckc_typed.specs.declared.environment.Constant.{Constant}
use Rattle.ckc_typed.specs.declared.environment.Globals.{Globals}
use Rattle.ckc_typed.specs.declared.typed.Note.{Note}
use Rattle.ckc_typed.specs.declared.typed.StaticObject.{StaticObject}
use Rattle.ckc_typed.specs.declared.typed.Typed.{Typed}
use Rattle.ckc_typed.specs.Codes.{bad_operands}
use Rattle.ckc_typed.specs.Trees.{Item, Decl, NotedItem, NotedDecl, NotedInit, NotedLimits, NotedNode, NotedExpr, NotedLayer}
use Rattle.ckc_typed.specs.Types.{type_written, is_integer, is_pointer, is_scalar, is_char, is_integer_form, is_pointer_form, is_char_form}
use Rattle.ckc_typed.specs.Environment.{variables_of, variable_declared}
use Rattle.ckc_typed.specs.Constants.{constant, constant_of_node, size_of, is_laid_out_form, limits_constant, node_constant, expr_constant}
use Rattle.ckc_typed.specs.Conversions.{is_null_form}
use Rattle.ckc_typed.specs.Declarations.{is_plain, string_in, string_in_form, string_fits, is_start, init_fits, count_of, count_fits, kept_zero, fault_unless, is_element_declared, static_fault, judged, parts_typed, static_typed, bares_typed}
use Rattle.ckc_typed.specs.Statements.{body_mode, stmt_typed}
use Rattle.ckc_base.specs.MemoryMap.{data_start}
use Rattle.ckc_typed.specs.Statics.{bytes_of, bytes_of_one, initial_bytes, object_of, objects_of_item, object_of_string, strings_of_item, blocks, placed, begin_behind, end_of_block}
use Rattle.ckc_typed.specs.Texts.{globals_of, head_typed, item_typed, items_typed, named_typed}
use Rattle.ckc_typed.specs.Walk.{head_mode, pragma_after}
use Rattle.ckc_typing.specs.Objects.{HasRoom, HaveRoom}
use Rattle.ckc_base.proofs.Outcomes.{made_of, ok_same}
use Rattle.ckc_typing.proofs.Objects.{laid}

false_is_true : false ≡ true → ⊥
false_is_true e = cc

both : (a b : Bool) → (a && b) ≡ true → (a ≡ true) × (b ≡ true)
both true b e = (refl, e)
both false b e = absurd (false_is_true e)

-- neither side holds if each has a part that does not
neither : (a b : Bool) → ((a && false) || (b && false)) ≡ true → ⊥
neither true true e = cc
neither true false e = cc
neither false true e = cc
neither false false e = cc

taken_most : (n : ℕ) (bytes : List ℕ) → length (take n bytes) ≤ n
taken_most zero bytes = omega arith
taken_most (suc n) [] = omega arith
taken_most (suc n) (b ∷ bytes) = omega (arith, taken_most n bytes)

abbrev width : CType → ℕ
width t = if is_char t then 1 else 4

module _ (structs : Structs) where
  -- ---- sizes

  abbrev form_size : CType-F CType → ℕ
  form_size x = if is_laid_out_form structs x then size_by_form structs x else 0

  scalar_size : (x : CType-F CType) → (is_integer_form x || is_pointer_form x) ≡ true → (if is_char_form x then 1 else 4) ≤ form_size x
  scalar_size CType-F.Int h = omega arith
  scalar_size CType-F.Unsigned h = omega arith
  scalar_size CType-F.Char h = omega arith
  scalar_size CType-F.Void h = absurd (false_is_true h)
  scalar_size (CType-F.Struct tag) h = absurd (false_is_true h)
  scalar_size (CType-F.Pointer k t) h = omega arith

  char_size : (x : CType-F CType) → is_char_form x ≡ true → 1 ≤ form_size x
  char_size CType-F.Char h = omega arith
  char_size CType-F.Int h = absurd (false_is_true h)
  char_size CType-F.Unsigned h = absurd (false_is_true h)
  char_size CType-F.Void h = absurd (false_is_true h)
  char_size (CType-F.Struct tag) h = absurd (false_is_true h)
  char_size (CType-F.Pointer k t) h = absurd (false_is_true h)

  -- ---- constants

  abbrev held_node : NotedLayer → Node-F Name Note (Unit {0}) (Option Constant) (Option Constant)
  held_node = map-Node Name Note NotedLimits NotedNode NotedExpr (Unit {0}) (Option Constant) (Option Constant) (fold-Limits Name Note (Unit {0}) (Option Constant) (Option Constant) limits_constant (node_constant structs) expr_constant) (constant_of_node structs) (constant structs)

  constant_is : (e : NotedExpr) → constant structs e ≡ node_constant structs (held_node (out-Node Name Note e.node))
  constant_is e =
      fold_out-Expr Name Note (Unit {0}) (Option Constant) (Option Constant) limits_constant (node_constant structs) expr_constant e
      ∙ fold_out-Node Name Note (Unit {0}) (Option Constant) (Option Constant) limits_constant (node_constant structs) expr_constant e.node

  -- a constant and null are no strings
  no_string_by : (t : CType) (x : NotedLayer) (c : Option Constant) → c ≡ node_constant structs (held_node x)
      → ((is_integer t && is_some c) || (is_pointer t && is_null_form x)) ≡ true → string_in_form x ≡ None
  no_string_by t (Node-F.Text bytes) c e h = absurd (neither (is_integer t) (is_pointer t) (subst (λ d. ((is_integer t && is_some d) || (is_pointer t && false)) ≡ true) e h))
  no_string_by t x c e h = refl

  no_string : (t : CType) (e : NotedExpr) → is_start structs t e ≡ true → string_in e ≡ None
  no_string t e h = no_string_by t (out-Node Name Note e.node) (constant structs e) (constant_is e) h

  one_most : (t : CType) (e : NotedExpr) → length (bytes_of structs t e) ≤ width t
  one_most t e = taken_most (width t) _

  many_most : (t : CType) (es : List NotedExpr) → length (flat_map (bytes_of structs t) es) ≤ width t * length es
  many_most t [] = omega arith
  many_most t (e ∷ es) = rw (length-append (bytes_of structs t e) (flat_map (bytes_of structs t) es)) (omega (arith, one_most t e, many_most t es))

  -- ---- initialisers

  string_room : (t : CType) (room : ℕ) (e : NotedExpr) (s : Option (List ℕ)) → string_fits t room s ≡ true → length (bytes_of_one structs t e s) ≤ size_of structs t * room
  string_room t room e None h = absurd (false_is_true h)
  string_room t room e (Some bytes) h =
      let b = both (is_char t) (nat_le (length bytes) room) h in
      let n : length bytes ≤ room = grind (arith, nat_tests, b.1) in
      let s : 1 * room ≤ size_of structs t * room = mul-le-mul_right room (char_size (out-CType t) b.0) in
      omega arith

  init_room : (t : CType) (plain : Bool) (count room : ℕ) (i : NotedInit) → 1 ≤ count → room ≤ count → init_fits structs t plain room i ≡ true
      → length (initial_bytes structs t i) ≤ size_of structs t * count
  init_room t plain count room init.Nothing one less h = omega arith
  init_room t true count room (init.One e) one less h =
      let b = both (is_scalar t) (is_start structs t e) h in
      let small : width t ≤ size_of structs t = scalar_size (out-CType t) b.0 in
      let whole : size_of structs t * 1 ≤ size_of structs t * count = mul-le-mul_left (size_of structs t) one in
      subst (λ s. length (bytes_of_one structs t e s) ≤ size_of structs t * count) (sym (no_string t e b.1)) (omega (arith, one_most t e))
  init_room t false count room (init.One e) one less h =
      let most : size_of structs t * room ≤ size_of structs t * count = mul-le-mul_left (size_of structs t) less in
      omega (arith, string_room t room e (string_in e) h)
  init_room t plain count room (init.Many es) one less h =
      let p = both (not plain) _ h in
      let b = both (is_scalar t) _ p.1 in
      let c = both (nat_le (length es) room) _ b.1 in
      let n : length es ≤ count = grind (arith, nat_tests, c.0) in
      let wide : width t * length es ≤ size_of structs t * length es = mul-le-mul_right (length es) (scalar_size (out-CType t) b.0) in
      let many : size_of structs t * length es ≤ size_of structs t * count = mul-le-mul_left (size_of structs t) n in
      omega (arith, many_most t es)

  -- ---- declarations

  kept_rule : (holds : Bool) (code : ℕ) → fault_unless holds code ≡ None → holds ≡ true
  kept_rule true code e = refl
  kept_rule false code e = cc

  counted_room : (d : NotedDecl) (count : Option ℕ) → count_fits structs d count ≡ true
      → length (initial_bytes structs (type_written d.ctype) d.init) ≤ size_of structs (type_written d.ctype) * unwrap_or count 0
  counted_room d None h = absurd (false_is_true h)
  counted_room d (Some n) h =
      let b = both (nat_le 1 n) _ h in
      let one : 1 ≤ n = grind (arith, nat_tests, b.0) in
      init_room (type_written d.ctype) (is_plain d.length) n (n - kept_zero d.length) d.init one (omega arith) b.1

  decl_room : (d : NotedDecl) → static_fault structs d ≡ None → HasRoom structs (object_of structs d)
  decl_room d h = counted_room d (count_of d) (both (is_element_declared d) _ (kept_rule _ bad_operands h)).1

  -- a string has a byte less than its block
  string_room_of : (s : List ℕ) → HasRoom structs (object_of_string s)
  string_room_of s =
      let one : 1 ≤ size_of structs ctype.Char = char_size (out-CType ctype.Char) (simp (the_lemmas) refl) in
      let whole : 1 * (length s + 1) ≤ size_of structs ctype.Char * (length s + 1) = mul-le-mul_right (length s + 1) one in
      omega arith

  strings_room : (ss : List (List ℕ)) → HaveRoom structs (map object_of_string ss)
  strings_room [] = All-nil _
  strings_room (s ∷ ss) = All-cons (HasRoom structs) (object_of_string s) (map object_of_string ss) (string_room_of s) (strings_room ss)

  placed_room : (os : List StaticObject) (end : ℕ) → HaveRoom structs os → HaveRoom structs (placed structs end os)
  placed_room [] end h = All-nil _
  placed_room (o ∷ os) end h =
      All-cons (HasRoom structs) (record o { at = begin_behind end }) (placed structs (end_of_block structs end o) os) (h 0 o (omega arith))
      (placed_room os (end_of_block structs end o) (λ k d l. h (suc k) d (omega arith)))

no_fault : (f : Option ℕ) (d r : NotedDecl) → judged f d ≡ Ok r → (f ≡ None) × (d ≡ r)
no_fault None d r e = (refl, ok_same d r e)
no_fault (Some code) d r e = cc

module _ (globals : Globals) where
  abbrev Roomy : NotedItem → Type 0
  Roomy j = HaveRoom globals.structs (objects_of_item globals.structs j)

  static_room : (pragma : Mode) (d : Decl) (n : NotedDecl) → static_typed globals pragma d ≡ Ok n → HasRoom globals.structs (object_of globals.structs n)
  static_room pragma d n e =
      let a = made_of (parts_typed globals [] pragma d) _ n e in
      let b = no_fault (static_fault globals.structs a.0) a.0 n a.2 in
      subst (λ x. HasRoom globals.structs (object_of globals.structs x)) b.1 (decl_room globals.structs a.0 b.0)

  item_room : (pragma : Mode) (i : Item) (j : NotedItem) → item_typed globals pragma i ≡ Ok j → Roomy j
  item_room pragma (item.Directive d) j e = subst Roomy (ok_same (item.Directive d) j e) (All-nil _)
  item_room pragma (item.Tag t at) j e = subst Roomy (ok_same (item.Tag t at) j e) (All-nil _)
  item_room pragma (item.Struct t ms at) j e =
      let a = made_of (bares_typed globals (map variable_declared ms) pragma ms) _ j e in
      subst Roomy (ok_same (item.Struct t a.0 at) j a.2) (All-nil _)
  item_room pragma (item.Static d) j e =
      let a = made_of (static_typed globals pragma d) _ j e in
      subst Roomy (ok_same (item.Static a.0) j a.2)
      (All-cons (HasRoom globals.structs) (object_of globals.structs a.0) [] (static_room pragma d a.0 a.1) (All-nil _))
  item_room pragma (item.Proto h) j e =
      let a = made_of (head_typed globals pragma h) _ j e in
      subst Roomy (ok_same (item.Proto a.0) j a.2) (All-nil _)
  item_room pragma (item.Function h body) j e =
      let a = made_of (head_typed globals pragma h) _ j e in
      let b = made_of (stmt_typed globals (variables_of (body_mode (head_mode pragma h) body) h body) (type_written h.result) body (head_mode pragma h) false) _ j a.2 in
      subst Roomy (ok_same (item.Function a.0 b.0) j b.2) (All-nil _)

  items_room : (pragma : Mode) (items : List Item) (js : List NotedItem) → items_typed globals pragma items ≡ Ok js → HaveRoom globals.structs (flat_map (objects_of_item globals.structs) js)
  items_room pragma [] js e = subst (λ l. HaveRoom globals.structs (flat_map (objects_of_item globals.structs) l)) (ok_same [] js e) (All-nil _)
  items_room pragma (i ∷ rest) js e =
      let a = made_of (item_typed globals pragma i) _ js e in
      let b = made_of (items_typed globals (pragma_after pragma i) rest) _ js a.2 in
      subst (λ l. HaveRoom globals.structs (flat_map (objects_of_item globals.structs) l)) (ok_same (a.0 ∷ b.0) js b.2)
      (All-append (HasRoom globals.structs) (objects_of_item globals.structs a.0) _ (item_room pragma i a.0 a.1) (items_room (pragma_after pragma i) rest b.0 b.1))

pub have_room : (t : NamedText) (p : Typed) → named_typed t ≡ Ok p → HaveRoom p.layout p.statics
have_room t p e =
    let l = laid t p e in
    let items : HaveRoom p.layout (flat_map (objects_of_item p.layout) p.tree.items) =
    subst (λ s. HaveRoom s (flat_map (objects_of_item s) p.tree.items)) (sym l.layout) (items_room (globals_of t.tree.items) Unchecked t.tree.items p.tree.items l.typed) in
    let all : HaveRoom p.layout (blocks p.layout p.tree.items) =
    All-append (HasRoom p.layout) (flat_map (objects_of_item p.layout) p.tree.items) _ items (strings_room p.layout (flat_map strings_of_item p.tree.items)) in
    subst (HaveRoom p.layout) (sym l.placed_blocks) (placed_room p.layout (blocks p.layout p.tree.items) data_start all)
