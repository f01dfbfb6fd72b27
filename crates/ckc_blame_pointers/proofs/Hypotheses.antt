-- What is carried through an induction over expressions, and the claims of the parts of a node.
use Rattle.std.proofs.Common.{◌≡◌, inl, inr, refl, sym, ap, ◌∙◌, ℕ, ◌+◌, Bool, true, false, List, ◌++◌, ◌⊎◌}
use Rattle.std.specs.Prelude.{◌==◌, ◌<◌, ◌^◌, not, length, ◌+ℤ◌, if◌then◌else◌, Option, None, Some, Ok}
use Rattle.ckc_base.specs.declared.arithmetic.Mode.{Mode}
use Rattle.ckc_base.specs.declared.arithmetic.Mode.TheVariants.{Checked, Unchecked}
use Rattle.ckc_base.specs.declared.places.Pos.{Pos}
use Rattle.ckc_types.specs.declared.types.CType.{CType, CType-F, out-CType}
use Rattle.ckc_syntax.specs.declared.tree.Name.{Name}
use Rattle.ckc_syntax.specs.declared.tree.TreeOp.TheVariants as op
use Rattle.ckc_syntax.specs.declared.tree.Limits.{Limits-F, map-Limits, out-Limits}
use Rattle.ckc_syntax.specs.declared.tree.Node.{Node-F, map-Node, out-Node}
use Rattle.ckc_syntax.specs.declared.tree.Expr.{Expr-F, map-Expr, every_here-Expr}
use Rattle.ckc_typed.specs.declared.environment.Globals.{Globals}
use Rattle.ckc_typed.specs.declared.typed.Note.{Note}
use Rattle.ckc_typed.specs.Operands.{is_raw_kind}
use Rattle.ckc_typed.specs.Trees.{NotedLimits, NotedNode, NotedExpr, NotedLayer}
use Rattle.ckc_typed.specs.Statics.{strings_of_expr}
use Rattle.ckc_typed.specs.Types.{is_pointer, is_scalar, kind_of}
use Rattle.ckc_typed_welltyped.specs.Expressions.{AnyLimits, AnyNode}
use Rattle.ckc_typed_welltyped.specs.Parts.{LimitsLayer}
use Rattle.ckc_blame_sound.specs.ckc_bounds_points.specs.Flow.{State}
use Rattle.ckc_blame_sound.specs.ckc_bounds_views.specs.Parts.{LimitsView, NodeView, View, NodeOfViews, fresh_behind}
use Rattle.ckc_blame_sound.specs.ckc_bounds_views.specs.Ranges.{pointer_range}
use Rattle.ckc_blame_sound.specs.ckc_bounds_views.specs.Views.{node_view, expr_view, view_of_limits, view_of_node, view}
use Rattle.ckc_blame_sound.specs.ckc_bounds_statements.specs.Paths.{Here, side_of}
use Rattle.ckc_source.specs.declared.outcome.Value.{Value}
use Rattle.ckc_source.specs.Code.{Expr}
use Rattle.ckc_source.specs.Eval.{Store, evaluated}
use Rattle.ckc_source.specs.Words.{exact}
use Rattle.ckc_build_values.specs.Kinds.{integer_of, size_behind}
use Rattle.ckc_build_values.specs.Places.{Place}
use Rattle.ckc_build_values.specs.Expressions.{Part, NodePart, LimitsPart, part_of, part_of_node, part_of_limits}
use Rattle.ckc_blame_sound.specs.Settings.{Setting, AreStrings}
use Rattle.ckc_blame_sound.specs.Values.{AreTrue}
use Rattle.ckc_blame_sound.specs.Points.{HoldsAt}
use Rattle.ckc_blame_sound.specs.Typed.{IsRow, HasRow, IsTyped, Agrees}
use Rattle.ckc_blame_sound.proofs.Exprs as numbers
use Rattle.ckc_blame_sound.proofs.Holding.{form_exact, form_exact_in, side_told}
use Rattle.ckc_blame_sound.specs.Bodies.{AreFresh}
use Rattle.ckc_blame_pointers.specs.Covered.{DeclareLocals, IsSoundStore, IsAddressed, IsAddressedRaw, IsStructureNode, IsCoveredNode, IsUncheckedNode, IsCoveredExpr, AreCovered, IsRawAddress}
use Rattle.ckc_blame_pointers.specs.Meant.{IsNotStuck}
use Rattle.ckc_blame_pointers.specs.Owed.{Runs}
use Rattle.ckc_blame_pointers.proofs.Claims.{holds_on}
use Rattle.ckc_blame_sound.proofs.Known.{form_known}
use Rattle.ckc_blame_pointers.proofs.Inside.{EveryNode}
use Rattle.ckc_blame_pointers.proofs.Nodes.{node_fresh, NodeClaims}
use Rattle.ckc_blame_pointers.proofs.Binary.{ExprClaims}
use Rattle.ckc_blame_pointers.proofs.Sums.{IsIndex, fresh_on}
use Rattle.ckc_blame_pointers.proofs.Later.{next_more}
use Rattle.ckc_blame_pointers.proofs.Addresses.{IsAddressType}
use Rattle.ckc_blame_pointers.proofs.Reach.{IsStructurePlace, element_at}
use Rattle.ckc_blame_pointers.proofs.Strings.{strings_of_node, first_strings, later_strings}
use Rattle.ckc_types.specs.declared.types.Kind.{Kind}

-- ---- rows

-- what is of checked code alone
pub only : {X Y : Type 0} → X ⊎ (Y × ⊥) → X
only (inl x) = x
only (inr y) = absurd y.1

-- what is of unchecked code alone
pub unchecked_alone : {X Y : Type 0} → ⊥ ⊎ (X × Y) → X
unchecked_alone (inl x) = absurd x
unchecked_alone (inr y) = y.0

-- and what is of none
pub none_of : {X : Type 0} → ⊥ ⊎ (X × ⊥) → ⊥
none_of (inl x) = x
none_of (inr y) = y.1

pub some_if : (b : Bool) (t r : CType) → ◌≡◌ {A = Option CType} (if b then Some t else None) (Some r) → t ≡ r
some_if true t r e = cc
some_if false t r e = absurd (cc)

-- There is no unchecked pointer in checked code.
pub not_raw : (m : Mode) (b : Bool) → m ≡ Checked → (b ≡ true → m ≡ Unchecked) → b ≡ false
not_raw m true checked raw = let other : m ≡ Unchecked = raw refl in absurd (cc)
not_raw m false checked raw = refl

-- ---- what is carried

module _ (m : Mode) (globals : Globals) (s : Setting) (agrees : Agrees globals s) (declares : DeclareLocals s) (store : Store) (entry : List ℕ) (next : ℕ) (ready : IsSoundStore s store next) where
  -- the nodes of a type that are covered in the mode
  abbrev pub IsNode : List ℕ → CType → NotedLayer → Type 0
  IsNode seen t x = IsCoveredNode s store seen t x ⊎ ((m ≡ Unchecked) × IsUncheckedNode s store t x)

  -- and those that `&` gives the address of
  abbrev pub HasAddress : CType → NotedLayer → Type 0
  HasAddress t x = IsAddressed s t x ⊎ ((m ≡ Unchecked) × IsAddressedRaw s t x)

  -- where a structure is, if it is reached through no unchecked pointer
  abbrev pub HoldsPlace : CType → Option Kind → Place → Type 0
  HoldsPlace t behind q = (is_raw_kind behind ≡ true → m ≡ Unchecked) × (is_raw_kind behind ≡ false → Runs m (element_at store q) → IsStructurePlace store t q)

  pub record NodeHolds (n : NotedNode) : Type 0 where
    pub claims : (note : Note) (place : Pos) → IsRow globals s (out-Node Name Note n) note → EveryNode (HasRow globals s) n
        → (here : Here) → EveryNode (IsCoveredExpr m s store here.seen) n → IsNode here.seen note.ctype (out-Node Name Note n) → (is_raw_kind (kind_of note.ctype) ≡ true → m ≡ Unchecked) → (m ≡ Unchecked → IsRawAddress note.ctype (out-Node Name Note n)) → is_scalar note.ctype ≡ true
        → (h : HoldsAt s store entry here) (fresh : ℕ) → fresh + length (node_fresh note.ctype (view_of_node s.frame n) here.at) < 2 ^ 32 → AreFresh s.frame fresh → (view_of_node s.frame n).judged note.ctype fresh here.at ≡ Ok n
        → (view_of_node s.frame n).fault place fresh here.at ≡ None
        → (is_pointer note.ctype ≡ true → note.range ≡ pointer_range note.ctype (view_of_node s.frame n) 0 fresh here.at)
        → (k : ℕ) → AreStrings s k (strings_of_node n) → Runs m (evaluated store ((part_of_node n).value note place s.text s.variables k))
        → IsNotStuck (NodeClaims s store entry here h note.ctype (view_of_node s.frame n)) (evaluated store ((part_of_node n).value note place s.text s.variables k))
    -- the address of such a place
    pub address : (note : Note) (place : Pos) → IsRow globals s (out-Node Name Note n) note → EveryNode (HasRow globals s) n
        → (here : Here) → EveryNode (IsCoveredExpr m s store here.seen) n → IsNode here.seen note.ctype (out-Node Name Note n) → HasAddress note.ctype (out-Node Name Note n)
        → (h : HoldsAt s store entry here) (fresh : ℕ) → fresh + length ((view_of_node s.frame n).fresh here.at) < 2 ^ 32 → AreFresh s.frame fresh → (view_of_node s.frame n).judged note.ctype fresh here.at ≡ Ok n → (view_of_node s.frame n).operand_fault place fresh here.at ≡ None → (view_of_node s.frame n).no_address ≡ false
        → (r : CType) → IsAddressType r note.ctype → (is_raw_kind (kind_of r) ≡ false → m ≡ Checked)
        → (k : ℕ) → AreStrings s k (strings_of_node n) → Runs m (evaluated store ((part_of_node n).address note place s.text s.variables k))
        → IsNotStuck (NodeClaims s store entry here h r (node_view s.frame (Node-F.Un op.Address (expr_view (record { node = view_of_node s.frame n; pos = place; note = note })))))
        (evaluated store ((part_of_node n).address note place s.text s.variables k))
    -- the place of a structure
    pub place : (note : Note) (place : Pos) → IsRow globals s (out-Node Name Note n) note → EveryNode (HasRow globals s) n
        → (here : Here) → EveryNode (IsCoveredExpr m s store here.seen) n → IsNode here.seen note.ctype (out-Node Name Note n) → IsStructureNode (out-Node Name Note n) → (tag : ℕ) → out-CType note.ctype ≡ CType-F.Struct tag
        → (h : HoldsAt s store entry here) (fresh : ℕ) → fresh + length ((view_of_node s.frame n).fresh here.at) < 2 ^ 32 → AreFresh s.frame fresh → (view_of_node s.frame n).judged note.ctype fresh here.at ≡ Ok n
        → (view_of_node s.frame n).fault place fresh here.at ≡ None → (k : ℕ) → AreStrings s k (strings_of_node n) → HoldsPlace note.ctype (view_of_node s.frame n).behind ((part_of_node n).place note place s.text s.variables k)

  pub record ExprHolds (e : NotedExpr) : Type 0 where
    pub claims : IsTyped globals s e → (here : Here) → AreCovered m s store here.seen e → is_scalar e.note.ctype ≡ true → HoldsAt s store entry here → (fresh : ℕ) → fresh + length ((view s.frame e).fresh here.at) < 2 ^ 32 → AreFresh s.frame fresh → (view s.frame e).judged fresh here.at ≡ Ok e
        → (k : ℕ) → AreStrings s k (strings_of_expr e) → Runs m (evaluated store ((part_of e).value s.text s.variables k)) → IsNotStuck (ExprClaims s store entry here e) (evaluated store ((part_of e).value s.text s.variables k))
    pub address : IsTyped globals s e → (here : Here) → AreCovered m s store here.seen e → HasAddress e.note.ctype (out-Node Name Note e.node) → (h : HoldsAt s store entry here) (fresh : ℕ) → fresh + length ((view s.frame e).fresh here.at) < 2 ^ 32 → AreFresh s.frame fresh
        → (view s.frame e).operand fresh here.at ≡ Ok e → (view s.frame e).no_address ≡ false → (r : CType) → IsAddressType r e.note.ctype → (is_raw_kind (kind_of r) ≡ false → m ≡ Checked)
        → (k : ℕ) → AreStrings s k (strings_of_expr e) → Runs m (evaluated store ((part_of e).address s.text s.variables k))
        → IsNotStuck (NodeClaims s store entry here h r (node_view s.frame (Node-F.Un op.Address (view s.frame e)))) (evaluated store ((part_of e).address s.text s.variables k))
    pub place : IsTyped globals s e → (here : Here) → AreCovered m s store here.seen e → IsStructureNode (out-Node Name Note e.node) → (tag : ℕ) → out-CType e.note.ctype ≡ CType-F.Struct tag → (h : HoldsAt s store entry here) (fresh : ℕ)
        → fresh + length ((view s.frame e).fresh here.at) < 2 ^ 32 → AreFresh s.frame fresh → (view s.frame e).judged fresh here.at ≡ Ok e → (k : ℕ) → AreStrings s k (strings_of_expr e) → HoldsPlace e.note.ctype (view s.frame e).behind ((part_of e).place s.text s.variables k)

  -- the expressions of limits
  abbrev pub PartsHold : LimitsLayer → Type 0
  PartsHold (Limits-F.Count e spot) = ExprHolds e
  PartsHold (Limits-F.ByteCount e spot) = ExprHolds e
  PartsHold (Limits-F.Between e f spot) = ExprHolds e × ExprHolds f
  PartsHold (Limits-F.Unknown spot) = Unit {0}

  abbrev pub LimitsHold : NotedLimits → Type 0
  LimitsHold l = PartsHold (out-Limits Name Note l)

  abbrev pub KeptLimits : Type 0
  KeptLimits = (l : NotedLimits) × LimitsHold l

  abbrev pub KeptNode : Type 0
  KeptNode = (n : NotedNode) × NodeHolds n

  abbrev pub KeptExpr : Type 0
  KeptExpr = (e : NotedExpr) × ExprHolds e

  abbrev pub inner_node : Node-F Name Note KeptLimits KeptNode KeptExpr → NotedLayer
  inner_node = map-Node Name Note KeptLimits KeptNode KeptExpr NotedLimits NotedNode NotedExpr (λ e. e.0) (λ e. e.0) (λ e. e.0)

  abbrev pub inner_limits : Limits-F Name Note KeptLimits KeptNode KeptExpr → Limits-F Name Note NotedLimits NotedNode NotedExpr
  inner_limits = map-Limits Name Note KeptLimits KeptNode KeptExpr NotedLimits NotedNode NotedExpr (λ e. e.0) (λ e. e.0) (λ e. e.0)

  abbrev pub inner_expr : Expr-F Name Note KeptLimits KeptNode KeptExpr → Expr-F Name Note NotedLimits NotedNode NotedExpr
  inner_expr = map-Expr Name Note KeptLimits KeptNode KeptExpr NotedLimits NotedNode NotedExpr (λ e. e.0) (λ e. e.0) (λ e. e.0)

  abbrev pub viewed_node : NotedLayer → NodeOfViews
  viewed_node = map-Node Name Note NotedLimits NotedNode NotedExpr LimitsView NodeView View (view_of_limits s.frame) (view_of_node s.frame) (view s.frame)

  abbrev pub viewed_expr : Expr-F Name Note NotedLimits NotedNode NotedExpr → Expr-F Name Note LimitsView NodeView View
  viewed_expr = map-Expr Name Note NotedLimits NotedNode NotedExpr LimitsView NodeView View (view_of_limits s.frame) (view_of_node s.frame) (view s.frame)

  abbrev pub part_node : NotedLayer → Node-F Name Note LimitsPart NodePart Part
  part_node = map-Node Name Note NotedLimits NotedNode NotedExpr LimitsPart NodePart Part part_of_limits part_of_node part_of

  abbrev pub viewed_limits : LimitsLayer → Limits-F Name Note LimitsView NodeView View
  viewed_limits = map-Limits Name Note NotedLimits NotedNode NotedExpr LimitsView NodeView View (view_of_limits s.frame) (view_of_node s.frame) (view s.frame)

  abbrev pub part_limits : LimitsLayer → Limits-F Name Note LimitsPart NodePart Part
  part_limits = map-Limits Name Note NotedLimits NotedNode NotedExpr LimitsPart NodePart Part part_of_limits part_of_node part_of

  abbrev pub part_expr : Expr-F Name Note NotedLimits NotedNode NotedExpr → Expr-F Name Note LimitsPart NodePart Part
  part_expr = map-Expr Name Note NotedLimits NotedNode NotedExpr LimitsPart NodePart Part part_of_limits part_of_node part_of

  pub viewed_type : (e : NotedExpr) → (view s.frame e).ctype ≡ e.note.ctype
  viewed_type e = (numbers.expr_holds globals s agrees e).viewed

  pub parted_type : (e : NotedExpr) → (part_of e).ctype ≡ e.note.ctype
  parted_type e = (numbers.expr_holds globals s agrees e).parted

  -- ---- a part at a point

  module _ (here : Here) (h : HoldsAt s store entry here) (e : NotedExpr) (typed : IsTyped globals s e) (k : ℕ) (x : Value) (is : evaluated store ((part_of e).value s.text s.variables k) ≡ Ok x) where
    -- its form is what it comes to
    pub index_of : IsIndex s store entry here (exact (integer_of e.note.ctype) x.number) (view s.frame e).form
    index_of v fits facts (inl same) g there =
        let at_point : (view s.frame e).form here.at.facts ≡ Some g = ap (view s.frame e).form (sym same) ∙ there in
        (form_exact globals s agrees e k store x typed h.words is here.at.facts g h.facts at_point).number ∙ ap (λ n. n +ℤ g.add) (sym (fits g.var (form_known s.frame e here.at.facts g at_point)))
    index_of v fits facts (inr told) g there = form_exact_in globals s agrees e k store x typed h.words is v.numbers fits facts told g there

    facts_told : (b : Bool) → (x.number == 0) ≡ not b → AreTrue s.frame store.locals ((view s.frame e).side b here.at).facts
    unfolding side_of
    facts_told b side = side_told globals s agrees e k store x typed h.words is here.at b h.facts side

    -- the point on the side that it comes to holds
    pub point_of : ExprClaims s store entry here e x → (b : Bool) → (x.number == 0) ≡ not b → HoldsAt s store entry (record here { at = (view s.frame e).side b here.at })
    point_of c b side = holds_on s store entry here ((view s.frame e).side b here.at) h (c.sides b side) (facts_told b side)

  -- ---- a node

  module _ (here : Here) (h : HoldsAt s store entry here) where
    pub are_on : (e : NotedExpr) (fresh : ℕ) → fresh + length ((view s.frame e).fresh here.at) < 2 ^ 32 → AreFresh s.frame fresh → AreFresh s.frame (fresh_behind (view s.frame e) fresh here.at)
    are_on e fresh little are = fresh_on s store entry here h fresh (fresh_behind (view s.frame e) fresh here.at) (next_more fresh ((view s.frame e).fresh here.at) little) are

    -- what is said of an expression alone
    pub covered_here : (e : NotedExpr) → AreCovered m s store here.seen e → IsCoveredExpr m s store here.seen (record { node = e.node; pos = e.pos; note = e.note })
    covered_here e c = every_here-Expr Name Note AnyLimits AnyNode (IsCoveredExpr m s store here.seen) e c

    pub covered_few : (e : NotedExpr) → AreCovered m s store here.seen e → (view s.frame e).values + 1 < 2 ^ 32
    covered_few e c = (covered_here e c).few

    pub covered_sized : (e : NotedExpr) → AreCovered m s store here.seen e → size_behind s.text.layout e.note.ctype < 2 ^ 32
    covered_sized e c = (covered_here e c).sized

    -- An unchecked pointer is in unchecked code.
    pub raw_mode : (e : NotedExpr) → AreCovered m s store here.seen e → is_raw_kind (kind_of (view s.frame e).ctype) ≡ true → m ≡ Unchecked
    raw_mode e c raw = (covered_here e c).checked (sym (ap is_raw_kind (ap kind_of (viewed_type e))) ∙ raw)

    module _ (e f : KeptExpr) (typed : IsTyped globals s e.0 × IsTyped globals s f.0) (covered : AreCovered m s store here.seen e.0 × AreCovered m s store here.seen f.0) (scalars : (is_scalar e.0.note.ctype ≡ true) × (is_scalar f.0.note.ctype ≡ true)) (fresh : ℕ)
        (little : fresh + length ((view s.frame e.0).fresh here.at) < 2 ^ 32) (are : AreFresh s.frame fresh) (k : ℕ) (strings : AreStrings s k (strings_of_expr e.0 ++ strings_of_expr f.0)) where
      abbrev pub v : Expr
      v = (part_of e.0).value s.text s.variables k

      abbrev pub w : Expr
      w = (part_of f.0).value s.text s.variables (k + (part_of e.0).literals)

      abbrev pub IsLeft : Type 0
      IsLeft = (view s.frame e.0).judged fresh here.at ≡ Ok e.0

      abbrev pub IsRight : State → Type 0
      IsRight at = (view s.frame f.0).judged (fresh_behind (view s.frame e.0) fresh here.at) at ≡ Ok f.0

      pub left_claims : IsLeft → Runs m (evaluated store v) → IsNotStuck (ExprClaims s store entry here e.0) (evaluated store v)
      left_claims is runs = e.1.claims typed.0 here covered.0 scalars.0 h fresh little are is k (first_strings s e.0 (strings_of_expr f.0) k strings) runs

      -- where there is room for the fresh variables of the right operand
      abbrev pub HasRight : State → Type 0
      HasRight at = fresh_behind (view s.frame e.0) fresh here.at + length ((view s.frame f.0).fresh at) < 2 ^ 32

      pub right_claims : (at : State) → HasRight at → IsRight at → HoldsAt s store entry (record here { at = at }) → Runs m (evaluated store w) → IsNotStuck (ExprClaims s store entry (record here { at = at }) f.0) (evaluated store w)
      right_claims at room is holds runs = f.1.claims typed.1 (record here { at = at }) covered.1 scalars.1 holds (fresh_behind (view s.frame e.0) fresh here.at) room (are_on e.0 fresh little are) is (k + (part_of e.0).literals) (later_strings s e.0 (strings_of_expr f.0) k strings) runs
