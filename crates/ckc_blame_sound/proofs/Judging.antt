-- Judging keeps what is typed: it notes the ranges of pointers, and leaves all else as it is.
use Rattle.std.proofs.Common.{◌≡◌, refl, sym, ap, subst, ◌∙◌, ℕ, Bool, true, false, List, [], ◌∷◌, map, rules}
use Rattle.std.specs.Prelude.{◌&&◌, ◌||◌, not, if◌then◌else◌, Option, None, Some, is_some, Ok, Err}
use Rattle.ckc_base.specs.declared.places.Pos.{Pos}
use Rattle.ckc_base.specs.declared.places.Refusal.{Refusal}
use Rattle.ckc_base.specs.declared.arithmetic.Mode.{Mode}
use Rattle.ckc_base.specs.Outcomes.{Outcome, bind, unless}
use Rattle.ckc_types.specs.declared.types.Kind.{Kind}
use Rattle.ckc_types.specs.declared.types.CType.{CType}
use Rattle.ckc_types.specs.declared.types.CType.TheVariants as ctype
use Rattle.ckc_syntax.specs.declared.tree.Name.{Name}
use Rattle.ckc_syntax.specs.declared.tree.TreeOp.{TreeOp}
use Rattle.ckc_syntax.specs.declared.tree.TreeOp.TheVariants as op
use Rattle.ckc_syntax.specs.declared.tree.Limits.{Limits-F, map-Limits, out-Limits, roll-Limits, fold-roll-Limits, every-Limits, every_held-Limits, every_made-Limits}
use Rattle.ckc_syntax.specs.declared.tree.Limits.TheVariants as limits
use Rattle.ckc_syntax.specs.declared.tree.Node.{Node-F, map-Node, out-Node, roll-Node, fold-roll-Node, every-Node, every_held-Node, every_made-Node, the_lemmas}
use Rattle.ckc_syntax.specs.declared.tree.Node.TheVariants as node
use Rattle.ckc_syntax.specs.declared.tree.Expr.{Expr-F, map-Expr, ind-Expr, roll-Expr, fold-roll-Expr, every_here-Expr, every_held-Expr, every_made-Expr}
use Rattle.ckc_typed.specs.declared.environment.Globals.{Globals}
use Rattle.ckc_typed.specs.declared.environment.Parameter.{Parameter}
use Rattle.ckc_typed.specs.declared.typed.Note.{Note}
use Rattle.ckc_typed.specs.declared.typed.Range.{Range}
use Rattle.ckc_typed.specs.declared.typed.Range.TheVariants as range
use Rattle.ckc_typed.specs.Conversions.{is_null, is_unchecked_pointer, is_null_form, is_string, is_string_form, is_allocation, is_allocation_form, kind_converts, kind_is_tested, kinds_allow, is_terminated_kind, takes_string, takes_allocation, takes_pointer, pointer_takes, converts, is_tested, is_trusted, is_bounds_cast, limits_fit_kind}
use Rattle.ckc_typed.specs.Expressions.{is_checked_mode, takes, address_kind, has_address, is_object, is_object_form, is_placed, is_placed_form}
use Rattle.ckc_typed.specs.Operands.{unary_type, binary_type, choice_type, index_type, dot_type, arrow_type, is_cast, same_element, is_raw_kind}
use Rattle.ckc_typed.specs.Trees.{NotedLimits, NotedNode, NotedExpr, NotedLayer}
use Rattle.ckc_typed.specs.Types.{type_written, is_integer, is_pointer, is_char, is_object_type, kind_of, element_of}
use Rattle.ckc_typed_welltyped.specs.Expressions.{AnyLimits, AnyNode, HasType, unary_row, AreArguments, IsAllocation}
use Rattle.ckc_typed_welltyped.proofs.Nodes.{node_of, node_rolled, limits_of, limits_rolled}
use Rattle.ckc_bounds.specs.ckc_bounds_points.specs.Flow.{State}
use Rattle.ckc_bounds.specs.ckc_bounds_points.specs.Codes.{bad_limits}
use Rattle.ckc_bounds.specs.ckc_bounds_views.specs.Parts.{LimitsView, View, NodeView}
use Rattle.ckc_bounds.specs.ckc_bounds_views.specs.Judged.{counts_elements, counts_bytes, limits_judged, all_judged, node_judged, unary_judged, by_fault, noted_range, expr_made}
use Rattle.ckc_bounds.specs.ckc_bounds_views.specs.Ranges.{pointer_range}
use Rattle.ckc_bounds.specs.ckc_bounds_views.specs.Views.{limits_view, node_view, expr_view, view_of_limits, view_of_node, view}
use Rattle.ckc_blame_sound.specs.Settings.{Setting}
use Rattle.ckc_blame_sound.specs.Typed.{IsWordNode, IsRow, HasRow, IsTyped}
use Rattle.ckc_blame_sound.proofs.Types.{no_pointer}

-- what is made is so
abbrev pub Gives : {A : Type 0} → (A → Type 0) → Outcome A → Type 0
Gives P (Ok a) = P a
Gives P (Err r) = Unit {0}

pub bound : {A B : Type 0} (P : A → Type 0) (Q : B → Type 0) (o : Outcome A) (h : A → Outcome B) → Gives P o → ((a : A) → P a → Gives Q (h a)) → Gives Q (bind o h)
bound P Q (Ok a) h p next = next a p
bound P Q (Err r) h p next = tt

kept : {A : Type 0} (P : A → Type 0) (b : Bool) (code : ℕ) (at : Pos) (o : Outcome A) → Gives P o → Gives P (unless b code at o)
kept P true code at o h = tt
kept P false code at o h = h

faulted : {A : Type 0} (P : A → Type 0) (r : Option Refusal) (o : Outcome A) → Gives P o → Gives P (by_fault r o)
faulted P None o h = h
faulted P (Some r) o h = tt

-- ---- what the rows read of an expression

abbrev Bare : Type 0
Bare = Node-F Name Note (Unit {0}) (Unit {0}) (Unit {0})

-- a node without its parts
abbrev pub outline : NotedLayer → Bare
outline (Node-F.Call n es) = Node-F.Call n []
outline n = map-Node Name Note NotedLimits NotedNode NotedExpr (Unit {0}) (Unit {0}) (Unit {0}) (λ l. tt) (λ n. tt) (λ e. tt) n

null_outline : (n : NotedLayer) → is_null_form n ≡ is_null_form (outline n)
null_outline Node-F.Null = refl
null_outline n = refl

string_outline : (n : NotedLayer) → is_string_form n ≡ is_string_form (outline n)
string_outline (Node-F.Text bytes) = refl
string_outline n = refl

allocation_outline : (n : NotedLayer) → is_allocation_form n ≡ is_allocation_form (outline n)
allocation_outline (Node-F.Calloc w e u) = refl
allocation_outline n = refl

object_outline : (globals : Globals) (n : NotedLayer) → is_object_form globals n ≡ is_object_form globals (outline n)
object_outline globals (Node-F.Name n) = refl
object_outline globals n = refl

placed_outline : (n : NotedLayer) → is_placed_form n ≡ is_placed_form (outline n)
placed_outline (Node-F.Un o e) = refl
placed_outline n = refl

-- One expression is of the type and has the outline of another.
pub record IsAlike (e f : NotedExpr) : Type 0 where
  pub ctype : f.note.ctype ≡ e.note.ctype
  pub outline_is : outline (out-Node Name Note f.node) ≡ outline (out-Node Name Note e.node)

module _ (e f : NotedExpr) (a : IsAlike e f) where
  null_same : is_null f ≡ is_null e
  null_same = null_outline (out-Node Name Note f.node) ∙ ap is_null_form a.outline_is ∙ sym (null_outline (out-Node Name Note e.node))

  string_same : is_string f ≡ is_string e
  string_same = string_outline (out-Node Name Note f.node) ∙ ap is_string_form a.outline_is ∙ sym (string_outline (out-Node Name Note e.node))

  allocation_same : is_allocation f ≡ is_allocation e
  allocation_same = allocation_outline (out-Node Name Note f.node) ∙ ap is_allocation_form a.outline_is ∙ sym (allocation_outline (out-Node Name Note e.node))

  address_same : (globals : Globals) → has_address globals f ≡ has_address globals e
  address_same globals =
      let o : is_object globals f ≡ is_object globals e =
      object_outline globals (out-Node Name Note f.node) ∙ ap (is_object_form globals) a.outline_is ∙ sym (object_outline globals (out-Node Name Note e.node)) in
      let p : is_placed f ≡ is_placed e =
      placed_outline (out-Node Name Note f.node) ∙ ap is_placed_form a.outline_is ∙ sym (placed_outline (out-Node Name Note e.node)) in
      ap (λ b. b || is_placed f) o ∙ ap (λ b. is_object globals e || b) p

  string_taken : (t : CType) → takes_string t f ≡ takes_string t e
  string_taken t = ap (λ b. b && (is_terminated_kind (kind_of t) && is_char (element_of t))) string_same

  allocation_taken : (t : CType) → takes_allocation t f ≡ takes_allocation t e
  allocation_taken t = ap (λ b. b && same_element t f.note.ctype) allocation_same ∙ ap (λ u. is_allocation e && same_element t u) a.ctype

  pointer_taken : (allowed : Kind → Kind → Bool) (t : CType) → pointer_takes allowed t f ≡ pointer_takes allowed t e
  pointer_taken allowed t =
      ap (λ b. b || (takes_string t f || (takes_allocation t f || takes_pointer allowed t f))) null_same
      ∙ ap (λ b. is_null e || (b || (takes_allocation t f || takes_pointer allowed t f))) (string_taken t)
      ∙ ap (λ b. is_null e || (takes_string t e || (b || takes_pointer allowed t f))) (allocation_taken t)
      ∙ ap (λ u. is_null e || (takes_string t e || (takes_allocation t e || (same_element t u && kinds_allow allowed (kind_of u) (kind_of t))))) a.ctype

  converts_same : (t : CType) → converts t f ≡ converts t e
  converts_same t =
      ap (λ u. (is_integer t && is_integer u) || (is_pointer t && pointer_takes kind_converts t f)) a.ctype
      ∙ ap (λ b. (is_integer t && is_integer e.note.ctype) || (is_pointer t && b)) (pointer_taken kind_converts t)

  takes_same : (mode : Mode) (p : Parameter) → takes mode p f ≡ takes mode p e
  takes_same mode p =
      ap (λ b. b && not (p.is_interface && (is_checked_mode mode && is_unchecked_pointer f))) (converts_same p.ctype)
      ∙ ap (λ u. converts p.ctype e && not (p.is_interface && (is_checked_mode mode && is_raw_kind (kind_of u)))) a.ctype

  tested_same : (t : CType) → is_tested t f ≡ is_tested t e
  tested_same t = ap (λ b. is_pointer t && b) (pointer_taken kind_is_tested t)

-- ---- the induction

module _ (globals : Globals) (s : Setting) where
  abbrev TypedLimits : NotedLimits → Type 0
  TypedLimits = every-Limits Name Note AnyLimits AnyNode (HasRow globals s)

  abbrev TypedNode : NotedNode → Type 0
  TypedNode = every-Node Name Note AnyLimits AnyNode (HasRow globals s)

  -- what an expression, bounds and a node become
  pub record IsGood (e f : NotedExpr) : Type 0 where
    pub alike : IsAlike e f
    pub typed : IsTyped globals s f

  abbrev IsGoodNode : NotedLayer → NotedNode → Type 0
  IsGoodNode n m =
      TypedNode m × (outline (out-Node Name Note m) ≡ outline n)
      × ((mode : Mode) (t : CType) → HasType globals s.variables mode n t → HasType globals s.variables mode (out-Node Name Note m) t)
      × (IsWordNode s.frame.structs n → IsWordNode s.frame.structs (out-Node Name Note m))

  record LimitsHold (l : NotedLimits) : Type 0 where
    pub judged : TypedLimits l → (size fresh : ℕ) (at : State) → Gives TypedLimits ((view_of_limits s.frame l).judged size fresh at)

  record NodeHolds (n : NotedNode) : Type 0 where
    pub judged : TypedNode n → (t : CType) (fresh : ℕ) (at : State) → Gives (IsGoodNode (out-Node Name Note n)) ((view_of_node s.frame n).judged t fresh at)

  pub record ExprHolds (e : NotedExpr) : Type 0 where
    pub judged : IsTyped globals s e → (fresh : ℕ) (at : State) → Gives (IsGood e) ((view s.frame e).judged fresh at)
    pub operand : IsTyped globals s e → (fresh : ℕ) (at : State) → Gives (IsGood e) ((view s.frame e).operand fresh at)

  abbrev KeptLimits : Type 0
  KeptLimits = (l : NotedLimits) × LimitsHold l

  abbrev KeptNode : Type 0
  KeptNode = (n : NotedNode) × NodeHolds n

  abbrev KeptExpr : Type 0
  KeptExpr = (e : NotedExpr) × ExprHolds e

  abbrev FitLimits : Type 0
  FitLimits = (l : NotedLimits) × TypedLimits l

  abbrev FitNode : Type 0
  FitNode = (n : NotedNode) × TypedNode n

  abbrev FitExpr : Type 0
  FitExpr = (e : NotedExpr) × IsTyped globals s e

  abbrev LimitsLayer : Type 0
  LimitsLayer = Limits-F Name Note NotedLimits NotedNode NotedExpr

  abbrev inner_limits : Limits-F Name Note KeptLimits KeptNode KeptExpr → LimitsLayer
  inner_limits = map-Limits Name Note KeptLimits KeptNode KeptExpr NotedLimits NotedNode NotedExpr (λ e. e.0) (λ e. e.0) (λ e. e.0)

  abbrev inner_node : Node-F Name Note KeptLimits KeptNode KeptExpr → NotedLayer
  inner_node = map-Node Name Note KeptLimits KeptNode KeptExpr NotedLimits NotedNode NotedExpr (λ e. e.0) (λ e. e.0) (λ e. e.0)

  abbrev inner_expr : Expr-F Name Note KeptLimits KeptNode KeptExpr → Expr-F Name Note NotedLimits NotedNode NotedExpr
  inner_expr = map-Expr Name Note KeptLimits KeptNode KeptExpr NotedLimits NotedNode NotedExpr (λ e. e.0) (λ e. e.0) (λ e. e.0)

  abbrev bare_limits : Limits-F Name Note FitLimits FitNode FitExpr → LimitsLayer
  bare_limits = map-Limits Name Note FitLimits FitNode FitExpr NotedLimits NotedNode NotedExpr (λ e. e.0) (λ e. e.0) (λ e. e.0)

  abbrev bare_node : Node-F Name Note FitLimits FitNode FitExpr → NotedLayer
  bare_node = map-Node Name Note FitLimits FitNode FitExpr NotedLimits NotedNode NotedExpr (λ e. e.0) (λ e. e.0) (λ e. e.0)

  abbrev viewed_limits : LimitsLayer → Limits-F Name Note LimitsView NodeView View
  viewed_limits = map-Limits Name Note NotedLimits NotedNode NotedExpr LimitsView NodeView View (view_of_limits s.frame) (view_of_node s.frame) (view s.frame)

  abbrev viewed_node : NotedLayer → Node-F Name Note LimitsView NodeView View
  viewed_node = map-Node Name Note NotedLimits NotedNode NotedExpr LimitsView NodeView View (view_of_limits s.frame) (view_of_node s.frame) (view s.frame)

  abbrev viewed_expr : Expr-F Name Note NotedLimits NotedNode NotedExpr → Expr-F Name Note LimitsView NodeView View
  viewed_expr = map-Expr Name Note NotedLimits NotedNode NotedExpr LimitsView NodeView View (view_of_limits s.frame) (view_of_node s.frame) (view s.frame)

  node_out : (x : NotedLayer) → out-Node Name Note (roll-Node Name Note x) ≡ x
  node_out x = search (rules, the_lemmas)

  limits_out : (x : LimitsLayer) → out-Limits Name Note (roll-Limits Name Note x) ≡ x
  limits_out x = search (rules, the_lemmas)

  -- ---- what has typed parts is typed

  limits_typed : (z : Limits-F Name Note FitLimits FitNode FitExpr) → TypedLimits (limits_of (bare_limits z))
  limits_typed z = subst TypedLimits (limits_rolled (bare_limits z)) (every_made-Limits Name Note AnyLimits AnyNode (HasRow globals s) (bare_limits z) z refl tt)

  node_typed : (z : Node-F Name Note FitLimits FitNode FitExpr) → TypedNode (node_of (bare_node z))
  node_typed z = subst TypedNode (node_rolled (bare_node z)) (every_made-Node Name Note AnyLimits AnyNode (HasRow globals s) (bare_node z) z refl tt)

  node_is : (x : NotedLayer) → out-Node Name Note (node_of x) ≡ x
  node_is x = ap (out-Node Name Note) (sym (node_rolled x)) ∙ node_out x

  -- ---- the parts of what is typed are typed

  abbrev LimitsParts : LimitsLayer → Type 0
  LimitsParts (Limits-F.Count e at) = IsTyped globals s e
  LimitsParts (Limits-F.ByteCount e at) = IsTyped globals s e
  LimitsParts (Limits-F.Between e f at) = IsTyped globals s e × IsTyped globals s f
  LimitsParts (Limits-F.Unknown at) = Unit {0}

  abbrev AllTyped : List NotedExpr → Type 0
  AllTyped [] = Unit {0}
  AllTyped (e ∷ es) = IsTyped globals s e × AllTyped es

  abbrev LimitsTypedIf : Option NotedLimits → Type 0
  LimitsTypedIf None = Unit {0}
  LimitsTypedIf (Some l) = TypedLimits l

  abbrev NodeParts : NotedLayer → Type 0
  NodeParts (Node-F.Un o e) = IsTyped globals s e
  NodeParts (Node-F.Bin o e f) = IsTyped globals s e × IsTyped globals s f
  NodeParts (Node-F.Pick e f g) = IsTyped globals s e × IsTyped globals s f × IsTyped globals s g
  NodeParts (Node-F.Index e f) = IsTyped globals s e × IsTyped globals s f
  NodeParts (Node-F.Dot e n at) = IsTyped globals s e
  NodeParts (Node-F.Arrow e n at) = IsTyped globals s e
  NodeParts (Node-F.Cast w e) = IsTyped globals s e
  NodeParts (Node-F.Trusted w e l) = IsTyped globals s e × LimitsTypedIf l
  NodeParts (Node-F.Tested w e l) = IsTyped globals s e × LimitsTypedIf l
  NodeParts (Node-F.Call n es) = AllTyped es
  NodeParts (Node-F.Calloc w e u) = IsTyped globals s e
  NodeParts n = Unit {0}

  limits_parts_of : (z : Limits-F Name Note FitLimits FitNode FitExpr) → LimitsParts (bare_limits z)
  limits_parts_of (Limits-F.Count e at) = e.1
  limits_parts_of (Limits-F.ByteCount e at) = e.1
  limits_parts_of (Limits-F.Between e f at) = (e.1, f.1)
  limits_parts_of (Limits-F.Unknown at) = tt

  all_typed : (zs : List FitExpr) → AllTyped (map (λ (e : FitExpr). e.0) zs)
  all_typed [] = tt
  all_typed (z ∷ zs) = (z.1, all_typed zs)

  node_parts_of : (z : Node-F Name Note FitLimits FitNode FitExpr) → NodeParts (bare_node z)
  node_parts_of (Node-F.Un o e) = e.1
  node_parts_of (Node-F.Bin o e f) = (e.1, f.1)
  node_parts_of (Node-F.Pick e f g) = (e.1, f.1, g.1)
  node_parts_of (Node-F.Index e f) = (e.1, f.1)
  node_parts_of (Node-F.Dot e n at) = e.1
  node_parts_of (Node-F.Arrow e n at) = e.1
  node_parts_of (Node-F.Cast w e) = e.1
  node_parts_of (Node-F.Trusted w e None) = (e.1, tt)
  node_parts_of (Node-F.Trusted w e (Some l)) = (e.1, l.1)
  node_parts_of (Node-F.Tested w e None) = (e.1, tt)
  node_parts_of (Node-F.Tested w e (Some l)) = (e.1, l.1)
  node_parts_of (Node-F.Call n es) = all_typed es
  node_parts_of (Node-F.Calloc w e u) = e.1
  node_parts_of z = tt

  limits_hold : (x : LimitsLayer) → TypedLimits (roll-Limits Name Note x) → LimitsParts x
  limits_hold x w =
      let h = every_held-Limits Name Note AnyLimits AnyNode (HasRow globals s) (roll-Limits Name Note x) w in
      subst LimitsParts (limits_out x) (subst LimitsParts h.1 (limits_parts_of h.0))

  node_hold : (x : NotedLayer) → TypedNode (roll-Node Name Note x) → NodeParts x
  node_hold x w =
      let h = every_held-Node Name Note AnyLimits AnyNode (HasRow globals s) (roll-Node Name Note x) w in
      subst NodeParts (node_out x) (subst NodeParts h.1 (node_parts_of h.0))

  -- ---- a node

  made : (n : NotedLayer) (z : Node-F Name Note FitLimits FitNode FitExpr) → outline (bare_node z) ≡ outline n
      → ((mode : Mode) (t : CType) → HasType globals s.variables mode n t → HasType globals s.variables mode (bare_node z) t)
      → (IsWordNode s.frame.structs n → IsWordNode s.frame.structs (bare_node z)) → IsGoodNode n (node_of (bare_node z))
  made n z same row word = (
    node_typed z,
    ap outline (node_is (bare_node z)) ∙ same,
    λ mode t h. subst (λ x. HasType globals s.variables mode x t) (sym (node_is (bare_node z))) (row mode t h),
    λ h. subst (IsWordNode s.frame.structs) (sym (node_is (bare_node z))) (word h),
  )

  unary_same : (o : TreeOp) (e f : NotedExpr) → IsAlike e f → (mode : Mode) (t : CType) → unary_row globals mode o e ≡ Some t → unary_row globals mode o f ≡ Some t
  unary_same op.Address e f a mode t h =
      subst (λ (b : Bool). ◌≡◌ {A = Option CType} (if b then Some (ctype.Pointer (address_kind mode) f.note.ctype) else None) (Some t)) (sym (address_same e f a globals))
      (subst (λ u. ◌≡◌ {A = Option CType} (if has_address globals e then Some (ctype.Pointer (address_kind mode) u) else None) (Some t)) (sym a.ctype) h)
  unary_same o e f a mode t h = subst (λ u. unary_type o u ≡ Some t) (sym a.ctype) h

  binary_same : (o : TreeOp) (e f g h : NotedExpr) → IsAlike e g → IsAlike f h
      → binary_type o g.note.ctype (is_null g) h.note.ctype (is_null h) ≡ binary_type o e.note.ctype (is_null e) f.note.ctype (is_null f)
  binary_same o e f g h a b =
      ap (λ t. binary_type o t (is_null g) h.note.ctype (is_null h)) a.ctype ∙ ap (λ m. binary_type o e.note.ctype m h.note.ctype (is_null h)) (null_same e g a)
      ∙ ap (λ u. binary_type o e.note.ctype (is_null e) u (is_null h)) b.ctype ∙ ap (λ n. binary_type o e.note.ctype (is_null e) f.note.ctype n) (null_same f h b)

  operand_step : (o : TreeOp) (k : KeptExpr) → IsTyped globals s k.0 → (fresh : ℕ) (at : State) → Gives (IsGood k.0) (unary_judged o (view s.frame k.0) fresh at)
  operand_step op.Address k w fresh at = k.1.operand w fresh at
  operand_step o k w fresh at = k.1.judged w fresh at

  abbrev AllGood : List KeptExpr → List NotedExpr → Type 0
  AllGood [] [] = Unit {0}
  AllGood (k ∷ ks) (e ∷ es) = IsGood k.0 e × AllGood ks es
  AllGood ks es = ⊥

  abbrev firsts : List KeptExpr → List NotedExpr
  firsts ks = map (λ (k : KeptExpr). k.0) ks

  arguments_step : (ks : List KeptExpr) → AllTyped (firsts ks) → (fresh : ℕ) (at : State) → Gives (AllGood ks) (all_judged (map (view s.frame) (firsts ks)) fresh at)
  arguments_step [] w fresh at = tt
  arguments_step (k ∷ ks) w fresh at = bound (IsGood k.0) (AllGood (k ∷ ks)) _ _ (k.1.judged w.0 fresh at) (λ a g. bound (AllGood ks) (AllGood (k ∷ ks)) _ _ (arguments_step ks w.1 _ at) (λ rest h. (g, h)))

  arguments_fit : (ks : List KeptExpr) (es : List NotedExpr) → AllGood ks es → (zs : List FitExpr) × (map (λ (e : FitExpr). e.0) zs ≡ es)
  arguments_fit [] [] g = ([], refl)
  arguments_fit [] (e ∷ es) g = absurd g
  arguments_fit (k ∷ ks) [] g = absurd g
  arguments_fit (k ∷ ks) (e ∷ es) g = let r = arguments_fit ks es g.1 in ((e, g.0.typed) ∷ r.0, ap (λ xs. e ∷ xs) r.1)

  arguments_same : (mode : Mode) (ps : List Parameter) (ks : List KeptExpr) (es : List NotedExpr) → AllGood ks es → AreArguments mode ps (firsts ks) → AreArguments mode ps es
  arguments_same mode [] [] [] g h = tt
  arguments_same mode [] [] (e ∷ es) g h = absurd g
  arguments_same mode [] (k ∷ ks) es g h = absurd h
  arguments_same mode (p ∷ ps) [] es g h = absurd h
  arguments_same mode (p ∷ ps) (k ∷ ks) [] g h = absurd g
  arguments_same mode (p ∷ ps) (k ∷ ks) (e ∷ es) g h = (takes_same k.0 e g.0.alike mode p ∙ h.0, arguments_same mode ps ks es g.1 h.1)

  call_step : (n : Name) (ks : List KeptExpr) (es : List NotedExpr) → AllGood ks es → IsGoodNode (Node-F.Call n (firsts ks)) (node.Call n es)
  call_step n ks es g =
      let r = arguments_fit ks es g in
      subst (λ xs. IsGoodNode (Node-F.Call n (firsts ks)) (node.Call n xs)) r.1
      (made (Node-F.Call n (firsts ks)) (Node-F.Call n r.0) refl
      (λ mode t h. (h.0, h.1, subst (AreArguments mode h.0.params) (sym r.1) (arguments_same mode h.0.params ks es g h.2), h.3)) (λ h. h))

  allocation_same' : (t u r : CType) (e f : NotedExpr) → IsAlike e f → IsAllocation t e u r → IsAllocation t f u r
  allocation_same' t u r e f a h = record { object = h.object; same = h.same; counted = ap is_integer a.ctype ∙ h.counted; pointer = h.pointer }

  tested_row : (w : _) (e f : NotedExpr) → IsAlike e f → (l m : Option NotedLimits) → is_some m ≡ is_some l → (t : CType)
      → (is_bounds_cast (type_written w) l ≡ true) × (is_tested (type_written w) e ≡ true) × (t ≡ type_written w)
      → (is_bounds_cast (type_written w) m ≡ true) × (is_tested (type_written w) f ≡ true) × (t ≡ type_written w)
  tested_row w e f a l m some t h = (
    subst (λ (b : Bool). (is_object_type (type_written w) && limits_fit_kind (kind_of (type_written w)) b) ≡ true) (sym some) h.0,
    tested_same e f a (type_written w) ∙ h.1,
    h.2,
  )

  trusted_row : (w : _) (e f : NotedExpr) → IsAlike e f → (l m : Option NotedLimits) → is_some m ≡ is_some l → (t : CType)
      → (is_bounds_cast (type_written w) l ≡ true) × (is_trusted (type_written w) e ≡ true) × (t ≡ type_written w)
      → (is_bounds_cast (type_written w) m ≡ true) × (is_trusted (type_written w) f ≡ true) × (t ≡ type_written w)
  trusted_row w e f a l m some t h = (
    subst (λ (b : Bool). (is_object_type (type_written w) && limits_fit_kind (kind_of (type_written w)) b) ≡ true) (sym some) h.0,
    ap (same_element (type_written w)) a.ctype ∙ h.1,
    h.2,
  )

  abbrev Judges : Node-F Name Note KeptLimits KeptNode KeptExpr → CType → ℕ → State → Type 0
  Judges y t fresh at = Gives (IsGoodNode (inner_node y)) (node_judged s.frame (viewed_node (inner_node y)) t fresh at)

  some_limits : (P : NotedNode → Type 0) (l : KeptLimits) → TypedLimits l.0 → (size fresh : ℕ) (at : State) (h : Option NotedLimits → Outcome NotedNode)
      → ((m : NotedLimits) → TypedLimits m → Gives P (h (Some m))) → Gives P (bind (bind ((view_of_limits s.frame l.0).judged size fresh at) (λ k. Ok (Some k))) h)
  some_limits P l w size fresh at h next = by ((view_of_limits s.frame l.0).judged size fresh at) (l.1.judged w size fresh at)
    where
      by : (o : Outcome NotedLimits) → Gives TypedLimits o → Gives P (bind (bind o (λ k. Ok (Some k))) h)
      by (Ok m) g = next m g
      by (Err r) g = tt

  node_step : (y : Node-F Name Note KeptLimits KeptNode KeptExpr) → NodeParts (inner_node y) → (t : CType) (fresh : ℕ) (at : State) → Judges y t fresh at
  node_step (Node-F.Number n u) w t fresh at = made (Node-F.Number n u) (Node-F.Number n u) refl (λ mode t h. h) (λ h. h)
  node_step (Node-F.Text bytes) w t fresh at = made (Node-F.Text bytes) (Node-F.Text bytes) refl (λ mode t h. h) (λ h. h)
  node_step Node-F.Null w t fresh at = made Node-F.Null Node-F.Null refl (λ mode t h. h) (λ h. h)
  node_step (Node-F.Name n) w t fresh at = made (Node-F.Name n) (Node-F.Name n) refl (λ mode t h. h) (λ h. h)
  node_step (Node-F.Size x) w t fresh at = made (Node-F.Size x) (Node-F.Size x) refl (λ mode t h. h) (λ h. h)
  node_step (Node-F.Un o k) w t fresh at =
      bound (IsGood k.0) (IsGoodNode (Node-F.Un o k.0)) _ _ (operand_step o k w fresh at)
      (λ a g. made (Node-F.Un o k.0) (Node-F.Un o (a, g.typed)) refl (λ mode t h. unary_same o k.0 a g.alike mode t h) (λ h. h))
  node_step (Node-F.Bin o k j) w t fresh at =
      bound (IsGood k.0) (IsGoodNode (Node-F.Bin o k.0 j.0)) _ _ (k.1.judged w.0 fresh at) (λ a g.
      bound (IsGood j.0) (IsGoodNode (Node-F.Bin o k.0 j.0)) _ _ (j.1.judged w.1 _ _) (λ b i.
      made (Node-F.Bin o k.0 j.0) (Node-F.Bin o (a, g.typed) (b, i.typed)) refl (λ mode t h. binary_same o k.0 j.0 a b g.alike i.alike ∙ h) (λ h. h)))
  node_step (Node-F.Pick k j i) w t fresh at =
      bound (IsGood k.0) (IsGoodNode (Node-F.Pick k.0 j.0 i.0)) _ _ (k.1.judged w.0 fresh at) (λ a f.
      bound (IsGood j.0) (IsGoodNode (Node-F.Pick k.0 j.0 i.0)) _ _ (j.1.judged w.1 _ at) (λ b g.
      bound (IsGood i.0) (IsGoodNode (Node-F.Pick k.0 j.0 i.0)) _ _ (i.1.judged w.2 _ at) (λ c l.
      made (Node-F.Pick k.0 j.0 i.0) (Node-F.Pick (a, f.typed) (b, g.typed) (c, l.typed)) refl
      (λ mode t h.
      ap (λ x. choice_type x b.note.ctype c.note.ctype) f.alike.ctype ∙ ap (λ x. choice_type k.0.note.ctype x c.note.ctype) g.alike.ctype
      ∙ ap (λ x. choice_type k.0.note.ctype j.0.note.ctype x) l.alike.ctype ∙ h) (λ h. h))))
  node_step (Node-F.Index k j) w t fresh at =
      bound (IsGood k.0) (IsGoodNode (Node-F.Index k.0 j.0)) _ _ (k.1.judged w.0 fresh at) (λ a g.
      bound (IsGood j.0) (IsGoodNode (Node-F.Index k.0 j.0)) _ _ (j.1.judged w.1 _ at) (λ b i.
      made (Node-F.Index k.0 j.0) (Node-F.Index (a, g.typed) (b, i.typed)) refl
      (λ mode t h. ap (λ x. index_type x b.note.ctype) g.alike.ctype ∙ ap (λ x. index_type k.0.note.ctype x) i.alike.ctype ∙ h) (λ h. h)))
  node_step (Node-F.Dot k n spot) w t fresh at =
      bound (IsGood k.0) (IsGoodNode (Node-F.Dot k.0 n spot)) _ _ (k.1.judged w fresh at) (λ a g.
      made (Node-F.Dot k.0 n spot) (Node-F.Dot (a, g.typed) n spot) refl (λ mode t h. ap (λ x. dot_type globals.structs x n) g.alike.ctype ∙ h) (λ h. h))
  node_step (Node-F.Arrow k n spot) w t fresh at =
      bound (IsGood k.0) (IsGoodNode (Node-F.Arrow k.0 n spot)) _ _ (k.1.judged w fresh at) (λ a g.
      made (Node-F.Arrow k.0 n spot) (Node-F.Arrow (a, g.typed) n spot) refl (λ mode t h. ap (λ x. arrow_type globals.structs x n) g.alike.ctype ∙ h) (λ h. h))
  node_step (Node-F.Cast x k) w t fresh at =
      bound (IsGood k.0) (IsGoodNode (Node-F.Cast x k.0)) _ _ (k.1.judged w fresh at) (λ a g.
      made (Node-F.Cast x k.0) (Node-F.Cast x (a, g.typed)) refl
      (λ mode t h. (ap (λ u. is_cast (type_written x) u (is_null a)) g.alike.ctype ∙ ap (λ m. is_cast (type_written x) k.0.note.ctype m) (null_same k.0 a g.alike) ∙ h.0, h.1)) (λ h. h))
  node_step (Node-F.Trusted x k None) w t fresh at =
      bound (IsGood k.0) (IsGoodNode (Node-F.Trusted x k.0 None)) _ _ (k.1.judged w.0 fresh at) (λ a g.
      made (Node-F.Trusted x k.0 None) (Node-F.Trusted x (a, g.typed) None) refl (λ mode t h. trusted_row x k.0 a g.alike None None refl t h) (λ h. h))
  node_step (Node-F.Trusted x k (Some l)) w t fresh at =
      bound (IsGood k.0) (IsGoodNode (Node-F.Trusted x k.0 (Some l.0))) _ _ (k.1.judged w.0 fresh at) (λ a g.
      some_limits (IsGoodNode (Node-F.Trusted x k.0 (Some l.0))) l w.1 _ _ at (λ m. Ok (node.Trusted x a m)) (λ m i.
      made (Node-F.Trusted x k.0 (Some l.0)) (Node-F.Trusted x (a, g.typed) (Some (m, i))) refl (λ mode t h. trusted_row x k.0 a g.alike (Some l.0) (Some m) refl t h) (λ h. h)))
  node_step (Node-F.Tested x k None) w t fresh at =
      bound (IsGood k.0) (IsGoodNode (Node-F.Tested x k.0 None)) _ _ (k.1.judged w.0 fresh at) (λ a g.
      made (Node-F.Tested x k.0 None) (Node-F.Tested x (a, g.typed) None) refl (λ mode t h. tested_row x k.0 a g.alike None None refl t h) (λ h. h))
  node_step (Node-F.Tested x k (Some l)) w t fresh at =
      bound (IsGood k.0) (IsGoodNode (Node-F.Tested x k.0 (Some l.0))) _ _ (k.1.judged w.0 fresh at) (λ a g.
      some_limits (IsGoodNode (Node-F.Tested x k.0 (Some l.0))) l w.1 _ _ at (λ m. Ok (node.Tested x a m)) (λ m i.
      made (Node-F.Tested x k.0 (Some l.0)) (Node-F.Tested x (a, g.typed) (Some (m, i))) refl (λ mode t h. tested_row x k.0 a g.alike (Some l.0) (Some m) refl t h) (λ h. h)))
  node_step (Node-F.Call n ks) w t fresh at = bound (AllGood ks) (IsGoodNode (Node-F.Call n (firsts ks))) _ _ (arguments_step ks w fresh at) (λ es g. call_step n ks es g)
  node_step (Node-F.Calloc x k u) w t fresh at =
      bound (IsGood k.0) (IsGoodNode (Node-F.Calloc x k.0 u)) _ _ (k.1.judged w fresh at) (λ a g.
      made (Node-F.Calloc x k.0 u) (Node-F.Calloc x (a, g.typed) u) refl (λ mode t h. allocation_same' (type_written x) (type_written u) t k.0 a g.alike h) (λ h. h))

  limits_step : (y : Limits-F Name Note KeptLimits KeptNode KeptExpr) → LimitsParts (inner_limits y) → (size fresh : ℕ) (at : State)
      → Gives TypedLimits (limits_judged (viewed_limits (inner_limits y)) size fresh at)
  limits_step (Limits-F.Count k pos) w size fresh at =
      bound (IsGood k.0) TypedLimits _ _ (k.1.judged w fresh at) (λ a g. kept TypedLimits (not (counts_elements (view s.frame k.0))) bad_limits pos (Ok (limits.Count a pos)) (limits_typed (Limits-F.Count (a, g.typed) pos)))
  limits_step (Limits-F.ByteCount k pos) w size fresh at =
      bound (IsGood k.0) TypedLimits _ _ (k.1.judged w fresh at) (λ a g. kept TypedLimits (not (counts_bytes size (view s.frame k.0))) bad_limits pos (Ok (limits.ByteCount a pos)) (limits_typed (Limits-F.ByteCount (a, g.typed) pos)))
  limits_step (Limits-F.Between k j pos) w size fresh at = bound (IsGood k.0) TypedLimits _ _ (k.1.judged w.0 fresh at) (λ a g. bound (IsGood j.0) TypedLimits _ _ (j.1.judged w.1 _ at) (λ b h. tt))
  limits_step (Limits-F.Unknown pos) w size fresh at = tt

  limits_by : (x : LimitsLayer) (y : Limits-F Name Note KeptLimits KeptNode KeptExpr) → inner_limits y ≡ x → LimitsHold (roll-Limits Name Note x)
  limits_by x y is = record {
    judged = λ w size fresh at.
        subst (λ (v : LimitsView). Gives TypedLimits (v.judged size fresh at))
        (sym (fold-roll-Limits Name Note LimitsView NodeView View limits_view (node_view s.frame) expr_view x ∙ ap (λ z. limits_view (viewed_limits z)) (sym is)))
        (limits_step y (subst LimitsParts (sym is) (limits_hold x w)) size fresh at);
  }

  node_by : (x : NotedLayer) (y : Node-F Name Note KeptLimits KeptNode KeptExpr) → inner_node y ≡ x → NodeHolds (roll-Node Name Note x)
  node_by x y is = record {
    judged = λ w t fresh at.
        subst (λ z. Gives (IsGoodNode z) ((view_of_node s.frame (roll-Node Name Note x)).judged t fresh at)) (is ∙ sym (node_out x))
        (subst (λ (v : NodeView). Gives (IsGoodNode (inner_node y)) (v.judged t fresh at))
        (sym (fold-roll-Node Name Note LimitsView NodeView View limits_view (node_view s.frame) expr_view x ∙ ap (λ z. node_view s.frame (viewed_node z)) (sym is)))
        (node_step y (subst NodeParts (sym is) (node_hold x w)) t fresh at));
  }

  -- ---- an expression

  kept_range : (note : Note) (r : Range) → (is_integer note.ctype ≡ true → note.range ≡ range.Missing) → (b : Bool) → is_pointer note.ctype ≡ b
      → ((if b then record note { range = r } else note).ctype ≡ note.ctype) × (is_integer note.ctype ≡ true → (if b then record note { range = r } else note).range ≡ range.Missing)
  kept_range note r bare true p = (refl, λ i. let q : is_pointer note.ctype ≡ false = no_pointer note.ctype i in absurd (cc))
  kept_range note r bare false p = (refl, bare)

  expr_good : (e : NotedExpr) → IsTyped globals s e → (r : Range) (m : NotedNode) → IsGoodNode (out-Node Name Note e.node) m → IsGood e (expr_made e.pos e.note r m)
  expr_good e w r m g =
      let row : IsRow globals s (out-Node Name Note e.node) e.note = every_here-Expr Name Note AnyLimits AnyNode (HasRow globals s) e w in
      let k = kept_range e.note r row.bare (is_pointer e.note.ctype) refl in
      let there : IsRow globals s (out-Node Name Note m) (noted_range e.note r) = record {
        mode = row.mode;
        row = subst (λ t. HasType globals s.variables row.mode (out-Node Name Note m) t) (sym k.0) (g.2 row.mode e.note.ctype row.row);
        bare = λ i. k.1 (subst (λ t. is_integer t ≡ true) k.0 i);
        word = g.3 row.word;
      } in
      record {
        alike = record { ctype = k.0; outline_is = g.1 };
        typed = every_made-Expr Name Note AnyLimits AnyNode (HasRow globals s) (record { node = m; pos = e.pos; note = noted_range e.note r }) (record { node = (m, g.0); pos = e.pos; note = noted_range e.note r }) refl there;
      }

  inside : (e : NotedExpr) → IsTyped globals s e → TypedNode e.node
  inside e w =
      let h = every_held-Expr Name Note AnyLimits AnyNode (HasRow globals s) e w in
      subst TypedNode (ap (λ (d : Expr-F Name Note NotedLimits NotedNode NotedExpr). d.node) h.1) h.0.node.1

  expr_by : (x : Expr-F Name Note NotedLimits NotedNode NotedExpr) (y : Expr-F Name Note KeptLimits KeptNode KeptExpr) → inner_expr y ≡ x → ExprHolds (roll-Expr Name Note x)
  expr_by x y is =
      let e = roll-Expr Name Note x in
      let viewed = sym (fold-roll-Expr Name Note LimitsView NodeView View limits_view (node_view s.frame) expr_view x ∙ ap (λ z. expr_view (viewed_expr z)) (sym is)) in
      let rolled : roll-Expr Name Note (inner_expr y) ≡ e = ap (roll-Expr Name Note) is in
      record {
        judged = λ w fresh at.
            let v : IsTyped globals s (roll-Expr Name Note (inner_expr y)) = subst (IsTyped globals s) (sym rolled) w in
            subst (λ (q : View). Gives (IsGood e) (q.judged fresh at)) viewed
            (subst (λ f. Gives (IsGood f) ((expr_view (viewed_expr (inner_expr y))).judged fresh at)) rolled
            (bound (IsGoodNode (out-Node Name Note y.node.0)) (IsGood (roll-Expr Name Note (inner_expr y))) _ _ (y.node.1.judged (inside (roll-Expr Name Note (inner_expr y)) v) y.note.ctype fresh at)
            (λ m g. faulted (IsGood (roll-Expr Name Note (inner_expr y))) _ (Ok (expr_made y.pos y.note (pointer_range y.note.ctype (view_of_node s.frame y.node.0) 0 fresh at) m))
            (expr_good (roll-Expr Name Note (inner_expr y)) v (pointer_range y.note.ctype (view_of_node s.frame y.node.0) 0 fresh at) m g))));
        operand = λ w fresh at.
            let v : IsTyped globals s (roll-Expr Name Note (inner_expr y)) = subst (IsTyped globals s) (sym rolled) w in
            subst (λ (q : View). Gives (IsGood e) (q.operand fresh at)) viewed
            (subst (λ f. Gives (IsGood f) ((expr_view (viewed_expr (inner_expr y))).operand fresh at)) rolled
            (bound (IsGoodNode (out-Node Name Note y.node.0)) (IsGood (roll-Expr Name Note (inner_expr y))) _ _ (y.node.1.judged (inside (roll-Expr Name Note (inner_expr y)) v) y.note.ctype fresh at)
            (λ m g. faulted (IsGood (roll-Expr Name Note (inner_expr y))) _ (Ok (expr_made y.pos y.note (pointer_range y.note.ctype (view_of_node s.frame y.node.0) 0 fresh at) m))
            (expr_good (roll-Expr Name Note (inner_expr y)) v (pointer_range y.note.ctype (view_of_node s.frame y.node.0) 0 fresh at) m g))));
      }

  pub expr_judged : (e : NotedExpr) → ExprHolds e
  expr_judged = ind-Expr Name Note LimitsHold NodeHolds ExprHolds limits_by node_by expr_by

  -- what an expression becomes is typed, and is of its type
  pub judged_typed : (e f : NotedExpr) (fresh : ℕ) (at : State) → IsTyped globals s e → (view s.frame e).judged fresh at ≡ Ok f → IsTyped globals s f × (f.note.ctype ≡ e.note.ctype)
  judged_typed e f fresh at w is = by ((view s.frame e).judged fresh at) is ((expr_judged e).judged w fresh at)
    where
      by : (o : Outcome NotedExpr) → o ≡ Ok f → Gives (IsGood e) o → IsTyped globals s f × (f.note.ctype ≡ e.note.ctype)
      by (Ok g) is h =
          let same : g ≡ f = cc in
          (subst (IsTyped globals s) same h.typed, subst (λ x. x.note.ctype ≡ e.note.ctype) same h.alike.ctype)
      by (Err r) is h = absurd (cc)
