-- What an expression of a judged text means has the form.
use Rattle.std.proofs.Common.{◌≡◌, ◌∙◌, inl, refl, sym, ap, subst, rules, arith, ℕ, ◌+◌, ◌<◌, ◌≤◌, Bool, true, false, length}
use Rattle.std.specs.Prelude.{◌^◌, ◌||◌, Option, Some, None, IfSome, is_some}
use Rattle.std.proofs.lemmas.Bool.{and_parts}
use Rattle.ckc_base.specs.declared.places.Pos.{Pos}
use Rattle.ckc_base.specs.MemoryMap.{statics_end}
use Rattle.ckc_types.specs.declared.types.Kind.{Kind}
use Rattle.ckc_types.specs.declared.types.Kind.TheVariants as kind
use Rattle.ckc_types.specs.declared.types.CType.{CType, CType-F, out-CType}
use Rattle.ckc_types.specs.declared.types.Structs.{Structs}
use Rattle.ckc_linear.specs.declared.forms.Form.{Form}
use Rattle.ckc_syntax.specs.declared.tree.Name.{Name}
use Rattle.ckc_syntax.specs.declared.tree.Name.TheVariants as name
use Rattle.ckc_syntax.specs.declared.tree.TreeOp.{TreeOp}
use Rattle.ckc_syntax.specs.declared.tree.TreeOp.TheVariants as op
use Rattle.ckc_syntax.specs.declared.tree.Limits.{Limits-F, map-Limits, roll-Limits, fold-roll-Limits}
use Rattle.ckc_syntax.specs.declared.tree.Node.{Node-F, map-Node, out-Node, roll-Node, fold-roll-Node, the_lemmas}
use Rattle.ckc_syntax.specs.declared.tree.Expr.{Expr-F, map-Expr, ind-Expr, roll-Expr, fold-roll-Expr, every_here-Expr}
use Rattle.ckc_syntax_limits.specs.Depth.{depth_of_expr}
use Rattle.ckc_typed.specs.declared.environment.Globals.{Globals}
use Rattle.ckc_typed.specs.declared.typed.Note.{Note}
use Rattle.ckc_typed.specs.declared.typed.Range.{Range}
use Rattle.ckc_typed.specs.declared.typed.Range.TheVariants as range
use Rattle.ckc_typed.specs.declared.typed.Typed.{Typed}
use Rattle.ckc_typed.specs.Constants.{size_of}
use Rattle.ckc_typed.specs.Conversions.{is_bounds_cast, limits_fit_kind}
use Rattle.ckc_typed.specs.Environment.{type_of_name, member_type}
use Rattle.ckc_typed.specs.Operands.{binary_type, index_type, dot_type, member_in, is_moved, is_moved_kind}
use Rattle.ckc_typed.specs.Trees.{NotedLimits, NotedNode, NotedExpr, NotedLayer}
use Rattle.ckc_typed.specs.Types.{type_written, is_pointer, is_pointer_form, is_integer_form, is_scalar, is_object_type, kind_of, kind_in, element_of}
use Rattle.ckc_typed_welltyped.specs.Expressions.{AnyLimits, AnyNode}
use Rattle.ckc_source.specs.declared.expr.Integer.TheVariants as integer
use Rattle.ckc_source.specs.Code.{Expr, Number, Array, Choice, Tested, Trusted}
use Rattle.ckc_checks_operands.specs.Compilable.{IsCount, IsTestedSize}
use Rattle.ckc_build_values.specs.Kinds.{integer_of, count_of_kind, size_behind, pointee_of, tag_of, tag_in}
use Rattle.ckc_build_values.specs.Ends.{limits_at}
use Rattle.ckc_build_values.specs.Members.{count_of_member}
use Rattle.ckc_build_values.specs.Names.{address_of, array_of, bytes_of, count_of_static}
use Rattle.ckc_build_values.specs.Operators.{outside, cast, unary, of_operands, is_signed_at}
use Rattle.ckc_build_values.specs.Places.{Place, object_place, name_place, nowhere, element_place, target_place, member_place, read_at, address_at}
use Rattle.ckc_build_values.specs.Expressions.{local_in, static_in, named, Part, NodePart, LimitsPart, limits_parts, node_parts, expr_parts, form_if, part_of, part_of_node, part_of_limits, expr_elaborated, place_elaborated}
use Rattle.ckc_blame_steps.specs.ckc_blame_sound.specs.Settings.{Setting}
use Rattle.ckc_blame_steps.specs.ckc_blame_sound.specs.Typed.{IsRow}
use Rattle.ckc_blame_steps.specs.ckc_blame_sound.proofs.Every.{LimitsLayer, ExprLayer, EachLimits, EachNode, EachExpr, LimitsParts, NodeParts, limits_hold, node_hold, inside, each_follows}
use Rattle.ckc_blame_steps.proofs.ObjectTypes.{element_is_object}
use Rattle.ckc_build_forms.proofs.Forms.{LimitsForm, ExprForm}
use Rattle.ckc_build_forms.proofs.FormsOfParts.{Means, PlaceMeans, IsLow, IsNear, number_means, zero_means, size_fits, array_means, choice_means, trusted_means, tested_means, tested_size, element_means, target_means, element_low, member_means, member_near, member_low, nowhere_means, nowhere_low, address_means, read_means, cast_means, unary_means, add_means, index_moves, sum_means, difference_means, other_means, elements_form, arrow_low}
use Rattle.ckc_build_forms.proofs.RangesNoted.{IsRangeOf, NamesRange, HasItsRange}
use Rattle.ckc_build_forms.proofs.SmallAmounts.{kind_count}
use Rattle.ckc_build_forms.proofs.SoundTypes.{IsSound, AreSound, WritesTagged, HasSizes, typed_sound, tagged, object_sized, tagged_element}

-- a string literal is no longer than the objects of a text
abbrev pub IsShortNode : NotedLayer → Type 0
IsShortNode (Node-F.Text bytes) = length bytes ≤ 4194304
IsShortNode n = Unit {0}

abbrev pub HasShort : ExprLayer → Type 0
HasShort e = IsShortNode (out-Node Name Note e.node)

-- what is known of each expression in one that has been judged
abbrev pub IsFitting : Globals → Setting → Structs → ExprLayer → Type 0
IsFitting globals s structs e = HasSizes structs globals s e × HasItsRange s.frame e × HasShort e

-- an expression fits and is not deep
pub record Good (p : Typed) (globals : Globals) (s : Setting) (e : NotedExpr) : Type 0 where
  pub fit : EachExpr (IsFitting globals s p.layout) e
  pub deep : depth_of_expr e ≤ 64

-- what is known of the text and of the names in it
pub record IsReady (p : Typed) (globals : Globals) (s : Setting) : Type 0 where
  pub sound : AreSound p.layout globals s.variables
  pub locals : (k : ℕ) (t : CType) → type_of_name globals s.variables (name.Local k) ≡ Some t → k < length s.variables
  pub limits : (t : CType) (k : ℕ) (low high : Form) → IsRangeOf s.frame k (range.Known low high) → LimitsForm (length s.variables) (limits_at p s.variables t k low high)
  pub counts : (t : CType) (k : ℕ) → IfSome (count_of_static p t (name.Static k)) IsCount
  pub members : (tag : ℕ) (m : Name) → IfSome (count_of_member p.layout tag m) IsCount
  pub addresses : (k : ℕ) → address_of p k ≤ statics_end
  pub arrays : (k : ℕ) → address_of p k + bytes_of p k ≤ statics_end
  pub structs : globals.structs ≡ p.layout

-- ---- what rows say

different : {X : Type 0} → false ≡ true → X
different e = absurd cc

single_moved : {X : Type 0} (t : CType) → is_moved t ≡ true → kind_of t ≡ Some kind.One → X
single_moved t m is = different (sym (ap is_moved_kind is) ∙ m)

struct_by : (structs : Structs) (n : Name) (t : CType) (f : CType-F CType) → member_in structs n f ≡ Some t
    → ((is_integer_form f || is_pointer_form f) ≡ true → ⊥) × (member_type structs (tag_in f) n ≡ Some t)
struct_by structs n t (CType-F.Struct tag) e = ((λ s. different s), e)
struct_by structs n t CType-F.Int e = absurd cc
struct_by structs n t CType-F.Unsigned e = absurd cc
struct_by structs n t CType-F.Char e = absurd cc
struct_by structs n t CType-F.Void e = absurd cc
struct_by structs n t (CType-F.Pointer k u) e = absurd cc

fitted_pointer : (f : CType-F CType) (b : Bool) → limits_fit_kind (kind_in f) b ≡ true → is_pointer_form f ≡ true
fitted_pointer (CType-F.Pointer k u) b e = refl
fitted_pointer CType-F.Int b e = absurd cc
fitted_pointer CType-F.Unsigned b e = absurd cc
fitted_pointer CType-F.Char b e = absurd cc
fitted_pointer CType-F.Void b e = absurd cc
fitted_pointer (CType-F.Struct tag) b e = absurd cc

module _ (p : Typed) (globals : Globals) (s : Setting) (ready : IsReady p globals s) where
  abbrev n : ℕ
  n = length s.variables

  abbrev Fit : ExprLayer → Type 0
  Fit = IsFitting globals s p.layout

  -- what is known of a node with its note
  record NodeFits (x : NotedLayer) (a : Note) : Type 0 where
    pub row : IsRow globals s x a
    pub tagged : WritesTagged p.layout x
    pub range : NamesRange s.frame x a.range
    pub short : IsShortNode x

  -- what a node, or an expression, means has the form
  record Holds (v : Expr) (q : Place) (t : CType) (a : Expr) : Type 0 where
    pub value : Means n v
    pub place : PlaceMeans n q
    pub low : IsLow q
    pub near : IsNear q t
    pub address : Means n a

  abbrev NodeClaims : NodePart → Note → Pos → ℕ → Type 0
  NodeClaims q a at k = Holds (q.value a at p s.variables k) (q.place a at p s.variables k) a.ctype (q.address a at p s.variables k)

  abbrev ExprClaims : NotedExpr → ℕ → Type 0
  ExprClaims e k = Holds ((part_of e).value p s.variables k) ((part_of e).place p s.variables k) e.note.ctype ((part_of e).address p s.variables k)

  record LimitsHold (l : NotedLimits) : Type 0 where
    pub holds : EachLimits Fit l → (size k : ℕ) → size < 2 ^ 32 → ExprForm n ((part_of_limits l).elements size p s.variables k)

  record NodeHolds (x : NotedNode) : Type 0 where
    pub holds : EachNode Fit x → (a : Note) (at : Pos) → NodeFits (out-Node Name Note x) a → (k : ℕ) → NodeClaims (part_of_node x) a at k

  record ExprHolds (e : NotedExpr) : Type 0 where
    pub holds : EachExpr Fit e → (k : ℕ) → ExprClaims e k
    pub parted : (part_of e).ctype ≡ e.note.ctype

  abbrev KeptLimits : Type 0
  KeptLimits = (l : NotedLimits) × LimitsHold l

  abbrev KeptNode : Type 0
  KeptNode = (x : NotedNode) × NodeHolds x

  abbrev KeptExpr : Type 0
  KeptExpr = (e : NotedExpr) × ExprHolds e

  abbrev inner_limits : Limits-F Name Note KeptLimits KeptNode KeptExpr → LimitsLayer
  inner_limits = map-Limits Name Note KeptLimits KeptNode KeptExpr NotedLimits NotedNode NotedExpr (λ e. e.0) (λ e. e.0) (λ e. e.0)

  abbrev inner_node : Node-F Name Note KeptLimits KeptNode KeptExpr → NotedLayer
  inner_node = map-Node Name Note KeptLimits KeptNode KeptExpr NotedLimits NotedNode NotedExpr (λ e. e.0) (λ e. e.0) (λ e. e.0)

  abbrev inner_expr : Expr-F Name Note KeptLimits KeptNode KeptExpr → ExprLayer
  inner_expr = map-Expr Name Note KeptLimits KeptNode KeptExpr NotedLimits NotedNode NotedExpr (λ e. e.0) (λ e. e.0) (λ e. e.0)

  abbrev part_limits : LimitsLayer → Limits-F Name Note LimitsPart NodePart Part
  part_limits = map-Limits Name Note NotedLimits NotedNode NotedExpr LimitsPart NodePart Part part_of_limits part_of_node part_of

  abbrev part_node : NotedLayer → Node-F Name Note LimitsPart NodePart Part
  part_node = map-Node Name Note NotedLimits NotedNode NotedExpr LimitsPart NodePart Part part_of_limits part_of_node part_of

  -- ---- the parts of a node

  has_sizes : (e : NotedExpr) → EachExpr Fit e → EachExpr (HasSizes p.layout globals s) e
  has_sizes e w = each_follows Fit Fit (HasSizes p.layout globals s) (λ x a b. a.0) e w w

  sound_there : (e : KeptExpr) → EachExpr Fit e.0 → IsSound p.layout (part_of e.0).ctype
  sound_there e w = subst (IsSound p.layout) (sym e.1.parted) (typed_sound p.layout globals s ready.sound e.0 (has_sizes e.0 w))

  -- what has a value alone
  bare_holds : (a : Note) (at : Pos) (v : Expr) → Means n v → Holds v (nowhere at) a.ctype (address_at p.layout a.ctype (nowhere at))
  bare_holds a at v m = record {
    value = m;
    place = nowhere_means n p.layout at;
    low = nowhere_low n p.layout at;
    near = inl refl;
    address = address_means n p.layout a.ctype (nowhere at) (nowhere_means n p.layout at) (nowhere_low n p.layout at) (inl refl);
  }

  -- what lies at a place
  there_holds : (a : Note) (v : Expr) (q : Place) → Means n v → PlaceMeans n q → IsLow q → IsNear q a.ctype → Holds v q a.ctype (address_at p.layout a.ctype q)
  there_holds a v q m h low near = record { value = m; place = h; low = low; near = near; address = address_means n p.layout a.ctype q h low near }

  -- ---- names

  local_means : (t : CType) (k : ℕ) (r : Range) → k < n → IsRangeOf s.frame k r → Means n (local_in p s.variables t k r)
  local_means t k (range.Known l u) h is = let f = ready.limits t k l u is in record { form = (h, f); range = f; ranged = λ e. f }
  local_means t k range.Missing h is = record { form = h; range = tt; ranged = λ e. different e }
  local_means t k range.Any h is = record { form = h; range = tt; ranged = λ e. different e }

  pub address_fits : (k : ℕ) → address_of p k < 2 ^ 32
  address_fits k = let h = ready.addresses k in omega (arith, h)

  object_means : (t : CType) (at : Pos) (k : ℕ) → PlaceMeans n (object_place p t at k)
  object_means t at k = record { access = (size_fits p.layout t, omega arith, tt); pointer = address_fits k; index = omega arith }

  static_means : (t : CType) (at : Pos) (k : ℕ) (array : Option Kind) → Means n (static_in p t at k array)
  static_means t at k None = read_means n p.layout t (count_of_static p t (name.Static k)) (object_place p t at k) (ready.counts t k) (object_means t at k)
  static_means t at k (Some kind.Raw) = number_means n (address_of p k) (address_fits k)
  static_means t at k (Some kind.One) = number_means n (address_of p k) (address_fits k)
  static_means t at k (Some kind.Arr) = array_means n (address_of p k) (bytes_of p k) (let h = ready.arrays k in omega (arith, h))
  static_means t at k (Some kind.Nt) = array_means n (address_of p k) (bytes_of p k) (let h = ready.arrays k in omega (arith, h))

  name_holds : (m : Name) (a : Note) (at : Pos) → NodeFits (Node-F.Name m) a → Holds (named p s.variables a at m) (name_place p a.ctype at m) a.ctype (address_at p.layout a.ctype (name_place p a.ctype at m))
  name_holds (name.Local k) a at f = bare_holds a at (local_in p s.variables a.ctype k a.range) (local_means a.ctype k a.range (ready.locals k a.ctype f.row.row) f.range)
  name_holds (name.Static k) a at f =
      there_holds a (static_in p a.ctype at k (array_of p k)) (object_place p a.ctype at k) (static_means a.ctype at k (array_of p k)) (object_means a.ctype at k)
      (λ e. (address_of p k, refl, ready.addresses k)) (inl refl)
  name_holds m a at f = bare_holds a at outside (zero_means n)

  -- ---- bounds casts

  tested_there : (w : _) (l : Option NotedLimits) → tagged p.layout (type_written w) ≡ true → is_bounds_cast (type_written w) l ≡ true → IsTestedSize (size_behind p.layout (type_written w))
  tested_there w l g row =
      let both = and_parts (is_object_type (type_written w)) (limits_fit_kind (kind_of (type_written w)) (is_some l)) row in
      let pointer : is_pointer (type_written w) ≡ true = fitted_pointer (out-CType (type_written w)) (is_some l) both.1 in
      tested_size n p.layout (element_of (type_written w))
      (object_sized p.layout (element_of (type_written w)) (element_is_object (type_written w) both.0 pointer) (tagged_element p.layout (type_written w) g))

  -- ---- operators

  binary_holds : (o : TreeOp) (e f : KeptExpr) (a : Note) (at : Pos) (v w : Expr) (m l : Bool) → EachExpr Fit e.0 → EachExpr Fit f.0
      → binary_type o e.0.note.ctype m f.0.note.ctype l ≡ Some a.ctype → Means n v → Means n w
      → Means n (of_operands p.layout o (part_of e.0).ctype (part_of f.0).ctype at v w)
  binary_holds o e f a at v w m l x y row g h =
      by o (subst (λ t. binary_type o t m (part_of f.0).ctype l ≡ Some a.ctype) (sym e.1.parted) (subst (λ t. binary_type o e.0.note.ctype m t l ≡ Some a.ctype) (sym f.1.parted) row))
    where
      by : (o : TreeOp) → binary_type o (part_of e.0).ctype m (part_of f.0).ctype l ≡ Some a.ctype → Means n (of_operands p.layout o (part_of e.0).ctype (part_of f.0).ctype at v w)
      by op.Add r = sum_means n p.layout (part_of e.0).ctype (part_of f.0).ctype a.ctype at v w r (sound_there e x) (sound_there f y) g h
      by op.Sub r = difference_means n p.layout (part_of e.0).ctype (part_of f.0).ctype a.ctype at v w r (sound_there e x) g h
      by o r = other_means n p.layout o (is_signed_at o (part_of e.0).ctype (part_of f.0).ctype) at v w g h

  -- ---- nodes

  member_scalar : (m : Name) (t : CType) (x : CType-F CType) → member_in globals.structs m x ≡ Some t → is_scalar t ≡ true
  member_scalar m t (CType-F.Struct tag) e = (ready.sound.members tag m t e).1
  member_scalar m t CType-F.Int e = absurd cc
  member_scalar m t CType-F.Unsigned e = absurd cc
  member_scalar m t CType-F.Char e = absurd cc
  member_scalar m t CType-F.Void e = absurd cc
  member_scalar m t (CType-F.Pointer k u) e = absurd cc

  node_step : (y : Node-F Name Note KeptLimits KeptNode KeptExpr) → NodeParts Fit (inner_node y) → (a : Note) (at : Pos) → NodeFits (inner_node y) a → (k : ℕ)
      → NodeClaims (node_parts (part_node (inner_node y))) a at k
  node_step (Node-F.Number m u) w a at f k = bare_holds a at (Number m) (number_means n m f.row.word)
  node_step (Node-F.Text bytes) w a at f k =
      bare_holds a at (Array (address_of p k) (length bytes)) (array_means n (address_of p k) (length bytes) (let h = ready.addresses k in let g = f.short in omega (arith, h, g)))
  node_step Node-F.Null w a at f k = bare_holds a at (Number 0) (zero_means n)
  node_step (Node-F.Name m) w a at f k = name_holds m a at f
  node_step (Node-F.Un op.Deref e) w a at f k =
      let h = e.1.holds w k in
      let v = (part_of e.0).value p s.variables k in
      let q = target_place p.layout (part_of e.0).ctype at v in
      let m = target_means n p.layout (part_of e.0).ctype at v (sound_there e w) h.value in
      record {
        value = read_means n p.layout a.ctype (count_of_kind (kind_of a.ctype)) q (kind_count (kind_of a.ctype)) m;
        place = m;
        low = element_low n p.layout (part_of e.0).ctype at integer.Int v (Number 0);
        near = inl refl;
        address = h.value;
      }
  node_step (Node-F.Un op.Address e) w a at f k = bare_holds a at ((part_of e.0).address p s.variables k) (e.1.holds w k).address
  node_step (Node-F.Un o e) w a at f k =
      bare_holds a at (unary o at ((part_of e.0).value p s.variables k)) (unary_means n o at ((part_of e.0).value p s.variables k) (e.1.holds w k).value)
  node_step (Node-F.Bin o e g) w a at f k =
      let j = k + (part_of e.0).literals in
      bare_holds a at (of_operands p.layout o (part_of e.0).ctype (part_of g.0).ctype at ((part_of e.0).value p s.variables k) ((part_of g.0).value p s.variables j))
      (binary_holds o e g a at ((part_of e.0).value p s.variables k) ((part_of g.0).value p s.variables j) _ _ w.0 w.1 f.row.row (e.1.holds w.0 k).value (g.1.holds w.1 j).value)
  node_step (Node-F.Pick e g i) w a at f k =
      let j = k + (part_of e.0).literals in
      let l = k + (part_of e.0).literals + (part_of g.0).literals in
      bare_holds a at (Choice ((part_of e.0).value p s.variables k) ((part_of g.0).value p s.variables j) ((part_of i.0).value p s.variables l))
      (choice_means n ((part_of e.0).value p s.variables k) ((part_of g.0).value p s.variables j) ((part_of i.0).value p s.variables l)
      (e.1.holds w.0 k).value (g.1.holds w.1 j).value (i.1.holds w.2 l).value)
  node_step (Node-F.Index e g) w a at f k =
      let j = k + (part_of e.0).literals in
      let t = (part_of e.0).ctype in
      let u = (part_of g.0).ctype in
      let v = (part_of e.0).value p s.variables k in
      let x = (part_of g.0).value p s.variables j in
      let left = (e.1.holds w.0 k).value in
      let right = (g.1.holds w.1 j).value in
      let row : index_type t u ≡ Some a.ctype =
      subst (λ z. index_type z u ≡ Some a.ctype) (sym e.1.parted) (subst (λ z. index_type e.0.note.ctype z ≡ Some a.ctype) (sym g.1.parted) f.row.row) in
      let moves = index_moves n p.layout t u a.ctype row in
      let q = element_place p.layout t at (integer_of u) v x in
      let m = element_means n p.layout t at (integer_of u) v x (sound_there e w.0) (λ is. single_moved t moves.0 is) left right.form in
      record {
        value = read_means n p.layout a.ctype (count_of_kind (kind_of a.ctype)) q (kind_count (kind_of a.ctype)) m;
        place = m;
        low = element_low n p.layout t at (integer_of u) v x;
        near = inl refl;
        address = add_means n p.layout t u at v x (sound_there e w.0) (sound_there g w.1) (λ e. moves.0) moves.1 left right;
      }
  node_step (Node-F.Dot e m spot) w a at f k =
      let h = e.1.holds w k in
      let tag = tag_of (part_of e.0).ctype in
      let inner = (part_of e.0).place p s.variables k in
      let q = member_place p.layout tag m inner in
      let row : dot_type p.layout e.0.note.ctype m ≡ Some a.ctype = subst (λ z. dot_type z e.0.note.ctype m ≡ Some a.ctype) ready.structs f.row.row in
      let struct = struct_by p.layout m a.ctype (out-CType e.0.note.ctype) row in
      let scalar : is_scalar a.ctype ≡ true = member_scalar m a.ctype (out-CType e.0.note.ctype) f.row.row in
      let near : IsNear q a.ctype = member_near n p.layout tag m inner e.0.note.ctype a.ctype scalar struct.0 h.near in
      let place = member_means n p.layout tag m inner a.ctype near h.place in
      there_holds a (read_at p.layout a.ctype (count_of_member p.layout tag m) q) q (read_means n p.layout a.ctype (count_of_member p.layout tag m) q (ready.members tag m) place) place
      (member_low n p.layout tag m inner h.low) near
  node_step (Node-F.Arrow e m spot) w a at f k =
      let h = e.1.holds w k in
      let t = (part_of e.0).ctype in
      let v = (part_of e.0).value p s.variables k in
      let tag = tag_of (element_of t) in
      let q = member_place p.layout tag m (target_place p.layout t at v) in
      let row : dot_type p.layout (element_of e.0.note.ctype) m ≡ Some a.ctype = subst (λ z. dot_type z (element_of e.0.note.ctype) m ≡ Some a.ctype) ready.structs f.row.row in
      let struct = struct_by p.layout m a.ctype (out-CType (element_of e.0.note.ctype)) row in
      let scalar : is_scalar a.ctype ≡ true = member_scalar m a.ctype (out-CType (element_of e.0.note.ctype)) f.row.row in
      let near : IsNear q a.ctype = member_near n p.layout tag m (target_place p.layout t at v) (element_of e.0.note.ctype) a.ctype scalar struct.0 (inl refl) in
      let place = member_means n p.layout tag m (target_place p.layout t at v) a.ctype near (target_means n p.layout t at v (sound_there e w) h.value) in
      there_holds a (read_at p.layout a.ctype (count_of_member p.layout tag m) q) q (read_means n p.layout a.ctype (count_of_member p.layout tag m) q (ready.members tag m) place) place
      (arrow_low n p.layout tag m t at v) near
  node_step (Node-F.Cast x e) w a at f k =
      bare_holds a at (cast (type_written x) (part_of e.0).ctype ((part_of e.0).value p s.variables k))
      (cast_means n (type_written x) (part_of e.0).ctype ((part_of e.0).value p s.variables k) (e.1.holds w k).value)
  node_step (Node-F.Size x) w a at f k = bare_holds a at (Number (size_of p.layout (type_written x))) (number_means n (size_of p.layout (type_written x)) (size_fits p.layout (type_written x)))
  node_step (Node-F.Trusted x e None) w a at f k =
      bare_holds a at (Trusted (pointee_of p.layout (type_written x)) (form_if None) ((part_of e.0).value p s.variables k) (Number 1))
      (trusted_means n (pointee_of p.layout (type_written x)) (form_if None) ((part_of e.0).value p s.variables k) (Number 1)
      (size_fits p.layout (element_of (type_written x))) (e.1.holds w.0 k).value (omega arith))
  node_step (Node-F.Trusted x e (Some l)) w a at f k =
      let j = k + (part_of e.0).literals in
      let size = size_behind p.layout (type_written x) in
      let v = (part_of e.0).value p s.variables k in
      let c = (part_of_limits l.0).elements size p s.variables j in
      bare_holds a at (Trusted (pointee_of p.layout (type_written x)) (part_of_limits l.0).form v c)
      (trusted_means n (pointee_of p.layout (type_written x)) (part_of_limits l.0).form v c (size_fits p.layout (element_of (type_written x)))
      (e.1.holds w.0 k).value (l.1.holds w.1 size j (size_fits p.layout (element_of (type_written x)))))
  node_step (Node-F.Tested x e None) w a at f k =
      bare_holds a at (Tested (size_behind p.layout (type_written x)) (form_if None) at ((part_of e.0).value p s.variables k) (Number 1))
      (tested_means n (size_behind p.layout (type_written x)) (form_if None) at ((part_of e.0).value p s.variables k) (Number 1)
      (tested_there x None f.tagged f.row.row.0) (e.1.holds w.0 k).value (omega arith))
  node_step (Node-F.Tested x e (Some l)) w a at f k =
      let j = k + (part_of e.0).literals in
      let size = size_behind p.layout (type_written x) in
      let v = (part_of e.0).value p s.variables k in
      let c = (part_of_limits l.0).elements size p s.variables j in
      bare_holds a at (Tested size (part_of_limits l.0).form at v c)
      (tested_means n size (part_of_limits l.0).form at v c (tested_there x (Some l.0) f.tagged f.row.row.0) (e.1.holds w.0 k).value (l.1.holds w.1 size j (size_fits p.layout (element_of (type_written x)))))
  node_step (Node-F.Call m es) w a at f k = bare_holds a at outside (zero_means n)
  node_step (Node-F.Calloc x e u) w a at f k = bare_holds a at outside (zero_means n)

  limits_step : (y : Limits-F Name Note KeptLimits KeptNode KeptExpr) → LimitsParts Fit (inner_limits y) → (size k : ℕ) → size < 2 ^ 32
      → ExprForm n ((limits_parts (part_limits (inner_limits y))).elements size p s.variables k)
  limits_step (Limits-F.Count e at) w size k small = (e.1.holds w k).value.form
  limits_step (Limits-F.ByteCount e at) w size k small = elements_form n size (part_of e.0).ctype at ((part_of e.0).value p s.variables k) small (e.1.holds w k).value.form
  limits_step (Limits-F.Between e g at) w size k small = omega arith
  limits_step (Limits-F.Unknown at) w size k small = omega arith

  limits_by : (x : LimitsLayer) (y : Limits-F Name Note KeptLimits KeptNode KeptExpr) → inner_limits y ≡ x → LimitsHold (roll-Limits Name Note x)
  limits_by x y is = record {
    holds = λ w size k small.
        subst (λ (q : LimitsPart). ExprForm n (q.elements size p s.variables k))
        (sym (fold-roll-Limits Name Note LimitsPart NodePart Part limits_parts node_parts expr_parts x ∙ ap (λ z. limits_parts (part_limits z)) (sym is)))
        (limits_step y (subst (LimitsParts Fit) (sym is) (limits_hold Fit x w)) size k small);
  }

  node_out : (x : NotedLayer) → out-Node Name Note (roll-Node Name Note x) ≡ x
  node_out x = search (rules, the_lemmas)

  node_by : (x : NotedLayer) (y : Node-F Name Note KeptLimits KeptNode KeptExpr) → inner_node y ≡ x → NodeHolds (roll-Node Name Note x)
  node_by x y is = record {
    holds = λ w a at f k.
        subst (λ (q : NodePart). NodeClaims q a at k)
        (sym (fold-roll-Node Name Note LimitsPart NodePart Part limits_parts node_parts expr_parts x ∙ ap (λ z. node_parts (part_node z)) (sym is)))
        (node_step y (subst (NodeParts Fit) (sym is) (node_hold Fit x w)) a at (subst (λ z. NodeFits z a) (node_out x ∙ sym is) f) k);
  }

  -- ---- expressions

  expr_is : (e : NotedExpr) → NodeHolds e.node → ExprHolds e
  expr_is e h =
      let made = fold-roll-Expr Name Note LimitsPart NodePart Part limits_parts node_parts expr_parts (record { node = e.node; pos = e.pos; note = e.note }) in
      record {
        holds = λ w k. (let here = every_here-Expr Name Note AnyLimits AnyNode Fit e w in
            subst (λ (q : Part). Holds (q.value p s.variables k) (q.place p s.variables k) e.note.ctype (q.address p s.variables k)) (sym made)
            (h.holds (inside Fit e w) e.note e.pos (record { row = here.0.0; tagged = here.0.1; range = here.1; short = here.2 }) k));
        parted = ap (λ (q : Part). q.ctype) made;
      }

  expr_by : (x : ExprLayer) (y : Expr-F Name Note KeptLimits KeptNode KeptExpr) → inner_expr y ≡ x → ExprHolds (roll-Expr Name Note x)
  expr_by x y is = subst (λ z. ExprHolds (roll-Expr Name Note z)) is (expr_is (roll-Expr Name Note (inner_expr y)) y.node.1)

  expr_holds : (e : NotedExpr) → ExprHolds e
  expr_holds = ind-Expr Name Note LimitsHold NodeHolds ExprHolds limits_by node_by expr_by

  pub value_form : (e : NotedExpr) → EachExpr Fit e → (k : ℕ) → ExprForm n (expr_elaborated p s.variables k e)
  value_form e w k = ((expr_holds e).holds w k).value.form

  pub place_form : (e : NotedExpr) → EachExpr Fit e → (k : ℕ) → PlaceMeans n (place_elaborated p s.variables k e)
  place_form e w k = ((expr_holds e).holds w k).place
