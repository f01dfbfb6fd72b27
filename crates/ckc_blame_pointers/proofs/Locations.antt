-- The place and the address of each node that has one, from the claims of its parts.
use Rattle.std.proofs.Common.{⊎_elim, ◌≡◌, inl, inr, refl, sym, ap, subst, ◌∙◌, ℕ, ◌+◌, Bool, true, false, List}
use Rattle.std.specs.Prelude.{◌<◌, ◌^◌, ◌&&◌, not, length, if◌then◌else◌, None, Some, Ok, Option}
use Rattle.ckc_base.specs.declared.arithmetic.Mode.{Mode}
use Rattle.ckc_base.specs.declared.arithmetic.Mode.TheVariants.{Checked, Unchecked}
use Rattle.ckc_base.specs.declared.places.Pos.{Pos}
use Rattle.ckc_types.specs.declared.types.CType.{CType, CType-F, out-CType}
use Rattle.ckc_syntax.specs.declared.tree.Name.{Name}
use Rattle.ckc_syntax.specs.declared.tree.Name.TheVariants as name
use Rattle.ckc_syntax.specs.declared.tree.TreeOp.TheVariants as op
use Rattle.ckc_syntax.specs.declared.tree.Limits.{Limits-F}
use Rattle.ckc_syntax.specs.declared.tree.Node.{Node-F, out-Node}
use Rattle.ckc_typed.specs.declared.environment.Globals.{Globals}
use Rattle.ckc_typed.specs.declared.typed.Note.{Note}
use Rattle.ckc_typed.specs.declared.typed.Range.TheVariants as range
use Rattle.ckc_typed.specs.Operands.{is_raw_kind, is_moved, arithmetic_type, binary_type}
use Rattle.ckc_typed.specs.Trees.{NotedNode, NotedExpr, NotedLayer}
use Rattle.ckc_typed.specs.Types.{is_integer, is_pointer, is_void, is_scalar, kind_of, element_of}
use Rattle.ckc_typed_welltyped.specs.Parts.{LimitsLayer}
use Rattle.ckc_typed_welltyped.proofs.Nodes.{node_of}
use Rattle.ckc_blame_sound.specs.ckc_bounds_views.specs.Parts.{LimitsView, NodeView, View, NodeOfViews, fresh_behind}
use Rattle.ckc_blame_sound.specs.ckc_bounds_views.specs.Judged.{is_counted_kind, has_none_of_node, fault_of_node, operand_fault_of_node, node_judged}
use Rattle.ckc_blame_sound.specs.ckc_bounds_views.specs.Ranges.{range_of_one}
use Rattle.ckc_blame_sound.specs.ckc_bounds_views.specs.Views.{node_view, expr_view, view}
use Rattle.ckc_blame_sound.specs.ckc_bounds_statements.specs.Paths.{Here}
use Rattle.ckc_source.specs.Code.{Expr}
use Rattle.ckc_source.specs.Eval.{Store, evaluated}
use Rattle.ckc_build_values.specs.Kinds.{integer_of, tag_of}
use Rattle.ckc_build_values.specs.Places.{Place, element_place, target_place, member_place, address_at}
use Rattle.ckc_build_values.specs.Expressions.{node_address, node_place, Part, NodePart, LimitsPart, part_of}
use Rattle.ckc_build_values.specs.Operators.{of_operands}
use Rattle.ckc_blame_sound.specs.Settings.{Setting, AreStrings}
use Rattle.ckc_blame_sound.specs.Points.{HoldsAt}
use Rattle.ckc_blame_sound.specs.Typed.{IsRow, HasRow, Agrees}
use Rattle.ckc_blame_sound.specs.Bodies.{AreFresh}
use Rattle.ckc_blame_pointers.specs.Covered.{DeclareLocals, IsSoundStore, IsElement, IsSingle, IsStaticInteger, IsStaticArray, IsStaticPointer, IsStaticBounded, IsStructureTarget, IsPointerTarget, IsStructureElement, IsStructureNode, IsRaw, IsRawPlace, IsScalarMember, IsCoveredExpr, IsDot, IsThrough}
use Rattle.ckc_blame_pointers.specs.Meant.{IsNotStuck}
use Rattle.ckc_blame_pointers.specs.Owed.{Runs}
use Rattle.ckc_blame_pointers.proofs.Claims.{weaker}
use Rattle.ckc_blame_pointers.proofs.Inside.{PartsEvery, one_part, two_parts}
use Rattle.ckc_blame_pointers.proofs.Nodes.{NodeClaims}
use Rattle.ckc_blame_pointers.proofs.Binary.{ExprClaims}
use Rattle.ckc_blame_pointers.proofs.Sums.{sum_claims}
use Rattle.ckc_blame_pointers.proofs.Later.{left_room, right_room}
use Rattle.ckc_blame_pointers.proofs.Unwidened.{fresh_same}
use Rattle.ckc_blame_pointers.proofs.Elements.{ranged_pointer}
use Rattle.ckc_blame_pointers.proofs.Addresses.{target_claims, index_claims, IsAddressType}
use Rattle.ckc_blame_pointers.proofs.Through.{target_structure, element_structure}
use Rattle.ckc_blame_pointers.proofs.Reach.{IsStructurePlace, element_at}
use Rattle.ckc_blame_pointers.proofs.Free.{free_there}
use Rattle.ckc_blame_pointers.proofs.Singles.{address_node, member_claims, object_claims}
use Rattle.ckc_blame_pointers.proofs.Dots.{object_structure}
use Rattle.ckc_blame_pointers.proofs.Scalars.{integer_scalar, moved_pointer, pointer_scalar, through_scalar, no_structure, true_if, target_scalar, index_scalar}
use Rattle.std.proofs.lemmas.Bool.{and_parts}
use Rattle.ckc_blame_pointers.proofs.Strings.{strings_in_node}
use Rattle.ckc_blame_pointers.proofs.Hypotheses as hypotheses
use Rattle.ckc_blame_pointers.proofs.Hypotheses.{only, none_of, some_if, not_raw}
use Rattle.ckc_blame_pointers.proofs.RawNames.{raw_address_claims}
use Rattle.ckc_blame_pointers.proofs.Runs.{gives_meant, operands_run, address_runs, pointer_runs, reached_run}
use Rattle.ckc_blame_pointers.proofs.Structures.{IsStructureAt}
use Rattle.ckc_types.specs.declared.types.Kind.{Kind}

module _ (m : Mode) (globals : Globals) (s : Setting) (agrees : Agrees globals s) (declares : DeclareLocals s) (store : Store) (entry : List ℕ) (next : ℕ) (ready : IsSoundStore s store next) where
  abbrev NodeHolds : NotedNode → Type 0
  NodeHolds = hypotheses.NodeHolds m globals s agrees declares store entry next ready

  abbrev ExprHolds : NotedExpr → Type 0
  ExprHolds = hypotheses.ExprHolds m globals s agrees declares store entry next ready

  abbrev PartsHold : LimitsLayer → Type 0
  PartsHold = hypotheses.PartsHold m globals s agrees declares store entry next ready

  abbrev KeptLimits : Type 0
  KeptLimits = hypotheses.KeptLimits m globals s agrees declares store entry next ready

  abbrev KeptNode : Type 0
  KeptNode = hypotheses.KeptNode m globals s agrees declares store entry next ready

  abbrev KeptExpr : Type 0
  KeptExpr = hypotheses.KeptExpr m globals s agrees declares store entry next ready

  abbrev IsNode : List ℕ → CType → NotedLayer → Type 0
  IsNode = hypotheses.IsNode m globals s agrees declares store entry next ready

  abbrev HoldsPlace : CType → Option Kind → Place → Type 0
  HoldsPlace = hypotheses.HoldsPlace m globals s agrees declares store entry next ready

  abbrev HasAddress : CType → NotedLayer → Type 0
  HasAddress = hypotheses.HasAddress m globals s agrees declares store entry next ready

  abbrev inner_node : Node-F Name Note KeptLimits KeptNode KeptExpr → NotedLayer
  inner_node = hypotheses.inner_node m globals s agrees declares store entry next ready

  abbrev viewed_node : NotedLayer → NodeOfViews
  viewed_node = hypotheses.viewed_node m globals s agrees declares store entry next ready

  abbrev viewed_limits : LimitsLayer → Limits-F Name Note LimitsView NodeView View
  viewed_limits = hypotheses.viewed_limits m globals s agrees declares store entry next ready

  abbrev part_node : NotedLayer → Node-F Name Note LimitsPart NodePart Part
  part_node = hypotheses.part_node m globals s agrees declares store entry next ready

  abbrev part_limits : LimitsLayer → Limits-F Name Note LimitsPart NodePart Part
  part_limits = hypotheses.part_limits m globals s agrees declares store entry next ready

  viewed_type : (e : NotedExpr) → (view s.frame e).ctype ≡ e.note.ctype
  viewed_type = hypotheses.viewed_type m globals s agrees declares store entry next ready

  parted_type : (e : NotedExpr) → (part_of e).ctype ≡ e.note.ctype
  parted_type = hypotheses.parted_type m globals s agrees declares store entry next ready

  module _ (here : Here) (h : HoldsAt s store entry here) where
    -- ---- the place of a structure

    pub place_step : (y : Node-F Name Note KeptLimits KeptNode KeptExpr) (note : Note) (place : Pos) → IsRow globals s (inner_node y) note → PartsEvery (HasRow globals s) (inner_node y)
        → PartsEvery (IsCoveredExpr m s store here.seen) (inner_node y) → IsNode here.seen note.ctype (inner_node y) → IsStructureNode (inner_node y) → (tag : ℕ) → out-CType note.ctype ≡ CType-F.Struct tag
        → (fresh : ℕ) → fresh + length ((node_view s.frame (viewed_node (inner_node y))).fresh here.at) < 2 ^ 32 → AreFresh s.frame fresh → node_judged s.frame (viewed_node (inner_node y)) note.ctype fresh here.at ≡ Ok (node_of (inner_node y))
        → fault_of_node s.frame (viewed_node (inner_node y)) place fresh here.at ≡ None → (k : ℕ) → AreStrings s k (strings_in_node (inner_node y)) → HoldsPlace note.ctype (node_view s.frame (viewed_node (inner_node y))).behind (node_place (part_node (inner_node y)) note place s.text s.variables k)
    place_step (Node-F.Name (name.Static j)) note place row typed covered node structure tag struct fresh little are judged fault k strings = (
      λ raw. absurd (cc),
      λ bare runs.
          ⊎_elim (λ (c : IsStaticInteger s note.ctype j). absurd (no_structure note.ctype (integer_scalar note.ctype c.integer) tag struct))
          (λ c. ⊎_elim (λ (c : IsStaticArray s note.ctype j). absurd (no_structure note.ctype (pointer_scalar note.ctype c.pointer) tag struct))
          (λ c. ⊎_elim (λ (c : IsStaticPointer s store note.ctype j). absurd (no_structure note.ctype (pointer_scalar note.ctype c.pointer) tag struct))
          (λ c. ⊎_elim (λ (c : IsStaticBounded s store note.ctype j). absurd (no_structure note.ctype (pointer_scalar note.ctype c.pointer) tag struct))
          (λ c. object_structure s store next ready note.ctype j c place) c) c) c) (only node),
    )
    place_step (Node-F.Un op.Deref e) note place row typed covered node structure tag struct fresh little are judged fault k strings = (
      λ raw. hypotheses.raw_mode m globals s agrees declares store entry next ready here h e.0 covered raw,
      λ bare runs.
          subst (λ u. IsStructurePlace store u (target_place s.text.layout (part_of e.0).ctype place v)) is
          (subst (λ t. IsStructurePlace store (element_of e.0.note.ctype) (target_place s.text.layout t place v)) (sym (parted_type e.0))
          (⊎_elim (λ c. ⊎_elim (λ (n : IsElement e.0). none n.integer) (λ c. ⊎_elim (λ (n : IsSingle s e.0). none n.integer)
          (λ c. ⊎_elim (λ n. there (pointer_runs m store (target_place s.text.layout (part_of e.0).ctype place v) runs) n) (λ (n : IsPointerTarget s store e.0). no_pointer_there n.pointer) c) c) c)
          (λ c. let raw : is_raw_kind (kind_of e.0.note.ctype) ≡ false = sym (ap is_raw_kind (ap kind_of (viewed_type e.0))) ∙ bare in let other : is_raw_kind (kind_of e.0.note.ctype) ≡ true = c.1 in absurd (cc)) node)),
    )
      where
        v : Expr
        v = (part_of e.0).value s.text s.variables k

        is : element_of e.0.note.ctype ≡ note.ctype
        is = some_if (is_pointer e.0.note.ctype && not (is_void (element_of e.0.note.ctype))) (element_of e.0.note.ctype) note.ctype row.row

        no_pointer_there : is_pointer (element_of e.0.note.ctype) ≡ true → IsStructurePlace store (element_of e.0.note.ctype) (target_place s.text.layout e.0.note.ctype place v)
        no_pointer_there i = absurd (no_structure note.ctype (pointer_scalar note.ctype (ap is_pointer (sym is) ∙ i)) tag struct)

        none : is_integer (element_of e.0.note.ctype) ≡ true → IsStructurePlace store (element_of e.0.note.ctype) (target_place s.text.layout e.0.note.ctype place v)
        none i = absurd (no_structure note.ctype (integer_scalar note.ctype (ap is_integer (sym is) ∙ i)) tag struct)

        there : Runs m (evaluated store v) → IsStructureTarget s e.0 → IsStructurePlace store (element_of e.0.note.ctype) (target_place s.text.layout e.0.note.ctype place v)
        there runs n =
            target_structure s store entry next ready here h e.0 fresh (hypotheses.covered_few m globals s agrees declares store entry next ready here h e.0 covered) little are v
            (e.1.claims typed here covered (target_scalar e.0 note.ctype row.row) h fresh little are (one_part (λ a. Node-F.Un op.Deref a) (λ a b e. cc) _ e.0 judged) k strings runs)
            (λ counted. ranged_pointer s store entry next ready here h e.0 fresh (hypotheses.covered_few m globals s agrees declares store entry next ready here h e.0 covered) little are place (ap is_counted_kind (ap kind_of (viewed_type e.0)) ∙ counted) fault) n.tag n.struct n.through place
    place_step (Node-F.Index e f) note place row typed covered node structure tag struct fresh little are judged fault k strings = (
      λ raw. hypotheses.raw_mode m globals s agrees declares store entry next ready here h e.0 covered.0 raw,
      λ bare runs.
          subst (λ u. IsStructurePlace store u (element_place s.text.layout (part_of e.0).ctype place (integer_of (part_of f.0).ctype) v w)) is
          (subst (λ t. Runs m (element_at store (element_place s.text.layout t place (integer_of (part_of f.0).ctype) v w)) → IsStructurePlace store (element_of e.0.note.ctype) (element_place s.text.layout t place (integer_of (part_of f.0).ctype) v w))
          (sym (parted_type e.0))
          (λ runs. ⊎_elim (λ c. ⊎_elim (λ (n : IsElement e.0). absurd (no_structure note.ctype (integer_scalar note.ctype (ap is_integer (sym is) ∙ n.integer)) tag struct))
          (λ c. ⊎_elim (λ n. record { begins = refl; there = reached_run m store (IsStructureAt store.blocks (element_of e.0.note.ctype)) (element_place s.text.layout e.0.note.ctype place (integer_of (part_of f.0).ctype) v w) runs (λ a b. (there a b n).there) })
          (λ n. absurd (no_structure note.ctype (pointer_scalar note.ctype (ap is_pointer (sym is) ∙ n.0.pointer)) tag struct)) c) c)
          (λ c. let raw : is_raw_kind (kind_of e.0.note.ctype) ≡ false = sym (ap is_raw_kind (ap kind_of (viewed_type e.0))) ∙ bare in let other : is_raw_kind (kind_of e.0.note.ctype) ≡ true = c.1 in absurd (cc)) node) runs),
    )
      where
        first : fresh + length ((view s.frame e.0).fresh here.at) < 2 ^ 32
        first = left_room fresh ((view s.frame e.0).fresh here.at) ((view s.frame f.0).fresh here.at) little

        v : Expr
        v = (part_of e.0).value s.text s.variables k

        w : Expr
        w = (part_of f.0).value s.text s.variables (k + (part_of e.0).literals)

        is : element_of e.0.note.ctype ≡ note.ctype
        is = some_if (is_moved e.0.note.ctype && is_integer f.0.note.ctype) (element_of e.0.note.ctype) note.ctype row.row

        parts : ((view s.frame e.0).judged fresh here.at ≡ Ok e.0) × ((view s.frame f.0).judged (fresh_behind (view s.frame e.0) fresh here.at) here.at ≡ Ok f.0)
        parts = two_parts (λ a b. Node-F.Index a b) (λ a b c d e. (cc, cc)) _ _ e.0 f.0 judged

        scalars : (is_scalar e.0.note.ctype ≡ true) × (is_scalar f.0.note.ctype ≡ true)
        scalars = index_scalar e.0.note.ctype f.0.note.ctype note.ctype row.row

        there : Runs m (evaluated store v) → Runs m (evaluated store w) → IsStructureElement e.0 → IsStructurePlace store (element_of e.0.note.ctype) (element_place s.text.layout e.0.note.ctype place (integer_of (part_of f.0).ctype) v w)
        there a b n =
            element_structure s store entry next ready here h e.0 fresh (hypotheses.covered_few m globals s agrees declares store entry next ready here h e.0 covered.0) first are v
            (hypotheses.left_claims m globals s agrees declares store entry next ready here h e f typed covered scalars fresh first are k strings parts.0 a)
            (λ counted. ranged_pointer s store entry next ready here h e.0 fresh (hypotheses.covered_few m globals s agrees declares store entry next ready here h e.0 covered.0) first are place (ap is_counted_kind (ap kind_of (viewed_type e.0)) ∙ counted) fault) n.tag n.struct n.array place
            (integer_of (part_of f.0).ctype) w (ExprClaims s store entry here f.0)
            (hypotheses.right_claims m globals s agrees declares store entry next ready here h e f typed covered scalars fresh first are k strings here.at (right_room fresh ((view s.frame e.0).fresh here.at) ((view s.frame f.0).fresh here.at) little) parts.1 h b)
    place_step y note place row typed covered node structure tag struct fresh little are judged fault k strings = absurd structure

    -- ---- the address of a place

    -- A pointer through which a structure is reached is no unchecked one.
    through_checked : (t : CType) → IsThrough s t → is_raw_kind (kind_of t) ≡ false
    through_checked t (inl array) = ap is_raw_kind array
    through_checked t (inr one) = ap is_raw_kind one.0

    -- an address of what another type points to
    address_of_target : (r t u : CType) → t ≡ u → IsAddressType r t → IsAddressType r u
    address_of_target r t u same type = subst (IsAddressType r) same type

    -- what is in unchecked memory has a place as `*p` and `p[e]` have
    raw_structure : (x : NotedLayer) → IsRawPlace x → IsStructureNode x
    raw_structure (Node-F.Un op.Deref e) c = tt
    raw_structure (Node-F.Index e f) c = tt
    raw_structure x c = absurd c

    pub address_step : (y : Node-F Name Note KeptLimits KeptNode KeptExpr) (note : Note) (place : Pos) → IsRow globals s (inner_node y) note → PartsEvery (HasRow globals s) (inner_node y)
        → PartsEvery (IsCoveredExpr m s store here.seen) (inner_node y) → IsNode here.seen note.ctype (inner_node y) → HasAddress note.ctype (inner_node y)
        → (fresh : ℕ) → fresh + length ((node_view s.frame (viewed_node (inner_node y))).fresh here.at) < 2 ^ 32 → AreFresh s.frame fresh → node_judged s.frame (viewed_node (inner_node y)) note.ctype fresh here.at ≡ Ok (node_of (inner_node y))
        → operand_fault_of_node s.frame (viewed_node (inner_node y)) place fresh here.at ≡ None → has_none_of_node s.frame (viewed_node (inner_node y)) ≡ false → (r : CType) → IsAddressType r note.ctype → (is_raw_kind (kind_of r) ≡ false → m ≡ Checked)
        → (k : ℕ) → AreStrings s k (strings_in_node (inner_node y)) → Runs m (evaluated store (node_address (part_node (inner_node y)) note place s.text s.variables k))
        → IsNotStuck (NodeClaims s store entry here h r (node_view s.frame (Node-F.Un op.Address (expr_view (record { node = node_view s.frame (viewed_node (inner_node y)); pos = place; note = note })))))
        (evaluated store (node_address (part_node (inner_node y)) note place s.text s.variables k))
    address_step (Node-F.Un op.Deref e) note place row typed covered node addressed fresh little are judged fault free r type kept k strings runs =
        weaker (evaluated store ((part_of e.0).value s.text s.variables k)) (e.1.claims typed here covered (target_scalar e.0 note.ctype row.row) h fresh little are (one_part (λ a. Node-F.Un op.Deref a) (λ a b e. cc) _ e.0 judged) k strings runs)
        (λ x there c. target_claims s store entry here h e.0 note place r (address_of_target r note.ctype (element_of e.0.note.ctype) (sym is) type)
        (λ checked. not_raw m (is_raw_kind (kind_of e.0.note.ctype)) (kept checked) (hypotheses.covered_here m globals s agrees declares store entry next ready here h e.0 covered).checked) x c)
      where
        is : element_of e.0.note.ctype ≡ note.ctype
        is = some_if (is_pointer e.0.note.ctype && not (is_void (element_of e.0.note.ctype))) (element_of e.0.note.ctype) note.ctype row.row
    address_step (Node-F.Index e f) note place row typed covered node addressed fresh little are judged fault free r type kept k strings runs =
        subst (λ t. Of t (part_of f.0).ctype) (sym (parted_type e.0)) (subst (λ u. Of e.0.note.ctype u) (sym (parted_type f.0)) there) runs
      where
        first : fresh + length ((view s.frame e.0).fresh here.at) < 2 ^ 32
        first = left_room fresh ((view s.frame e.0).fresh here.at) ((view s.frame f.0).fresh here.at) little

        v : Expr
        v = (part_of e.0).value s.text s.variables k

        w : Expr
        w = (part_of f.0).value s.text s.variables (k + (part_of e.0).literals)

        made : NodeView
        made = node_view s.frame (Node-F.Un op.Address (expr_view (record { node = node_view s.frame (Node-F.Index (view s.frame e.0) (view s.frame f.0)); pos = place; note = note })))

        Of : CType → CType → Type 0
        Of t u = Runs m (evaluated store (of_operands s.text.layout op.Add t u place v w)) → IsNotStuck (NodeClaims s store entry here h r made) (evaluated store (of_operands s.text.layout op.Add t u place v w))

        moved : (is_moved e.0.note.ctype && is_integer f.0.note.ctype) ≡ true
        moved = true_if (is_moved e.0.note.ctype && is_integer f.0.note.ctype) (element_of e.0.note.ctype) note.ctype row.row

        is : element_of e.0.note.ctype ≡ note.ctype
        is = some_if (is_moved e.0.note.ctype && is_integer f.0.note.ctype) (element_of e.0.note.ctype) note.ctype row.row

        scalars : (is_scalar e.0.note.ctype ≡ true) × (is_scalar f.0.note.ctype ≡ true)
        scalars = index_scalar e.0.note.ctype f.0.note.ctype note.ctype row.row

        parts : ((view s.frame e.0).judged fresh here.at ≡ Ok e.0) × ((view s.frame f.0).judged (fresh_behind (view s.frame e.0) fresh here.at) here.at ≡ Ok f.0)
        parts = two_parts (λ a b. Node-F.Index a b) (λ a b c d e. (cc, cc)) _ _ e.0 f.0 judged

        sum_row : binary_type op.Add e.0.note.ctype false f.0.note.ctype false ≡ Some e.0.note.ctype
        sum_row = ap (λ b. if b then Some e.0.note.ctype else (if is_integer e.0.note.ctype && is_moved f.0.note.ctype then Some f.0.note.ctype else arithmetic_type e.0.note.ctype f.0.note.ctype)) moved

        there : Of e.0.note.ctype f.0.note.ctype
        there runs =
            operands_run m store s.text.layout (NodeClaims s store entry here h r made) e.0.note.ctype f.0.note.ctype place v w op.Add false false e.0.note.ctype refl sum_row runs
            (λ a b. weaker (evaluated store (of_operands s.text.layout op.Add e.0.note.ctype f.0.note.ctype place v w))
            (sum_claims s store entry here h e.0 f.0 e.0.note.ctype place v w (hypotheses.left_claims m globals s agrees declares store entry next ready here h e f typed covered scalars fresh first are k strings parts.0 a)
            (hypotheses.right_claims m globals s agrees declares store entry next ready here h e f typed covered scalars fresh first are k strings here.at (right_room fresh ((view s.frame e.0).fresh here.at) ((view s.frame f.0).fresh here.at) little) parts.1 h b) (viewed_type e.0)
            (λ x is. hypotheses.index_of m globals s agrees declares store entry next ready here h e.0 typed.0 k x is) (λ x is. hypotheses.index_of m globals s agrees declares store entry next ready here h f.0 typed.1 (k + (part_of e.0).literals) x is) sum_row)
            (λ x there c. index_claims s store entry here h e.0 note place r (address_of_target r note.ctype (element_of e.0.note.ctype) (sym is) type) f.0
            (moved_pointer e.0.note.ctype (and_parts (is_moved e.0.note.ctype) (is_integer f.0.note.ctype) moved).0) (viewed_type e.0) x c))
    address_step (Node-F.Name (name.Static j)) note place row typed covered node addressed fresh little are judged fault free r type kept k strings runs =
        object_claims s store entry next ready here h note.ctype r type (node_view s.frame (Node-F.Un op.Address (expr_view (record { node = node_view s.frame (Node-F.Name (name.Static j)); pos = place; note = note }))))
        (address_node s here note place r (node_view s.frame (Node-F.Name (name.Static j))) (λ widened. refl) (λ own first fresh at. refl) (λ first facts. refl)) j (only addressed)
    address_step (Node-F.Arrow e n spot) note place row typed covered node addressed fresh little are judged fault free r type kept k strings runs =
        subst Of (sym (parted_type e.0)) (⊎_elim checked unchecked addressed) runs
      where
        v : Expr
        v = (part_of e.0).value s.text s.variables k

        made : NodeView
        made = node_view s.frame (Node-F.Un op.Address (expr_view (record { node = node_view s.frame (Node-F.Arrow (view s.frame e.0) n spot); pos = place; note = note })))

        At : CType → Expr
        At t = address_at s.text.layout note.ctype (member_place s.text.layout (tag_of (element_of t)) n (target_place s.text.layout t place v))

        Of : CType → Type 0
        Of t = Runs m (evaluated store (At t)) → IsNotStuck (NodeClaims s store entry here h r made) (evaluated store (At t))

        inner : Runs m (evaluated store (At e.0.note.ctype)) → Runs m (evaluated store v)
        inner runs =
            pointer_runs m store (target_place s.text.layout e.0.note.ctype place v)
            (address_runs m store s.text.layout note.ctype (tag_of (element_of e.0.note.ctype)) n (target_place s.text.layout e.0.note.ctype place v) runs)

        checked : IsScalarMember s (element_of e.0.note.ctype) note.ctype n × IsThrough s e.0.note.ctype → Of e.0.note.ctype
        checked addressed runs =
            member_claims s store entry next ready here h note.ctype r type made
            (address_node s here note place r (node_view s.frame (Node-F.Arrow (view s.frame e.0) n spot)) (fresh_same s.frame e.0 here.at)
            (λ own first fresh at. ap (λ b. if b then range.Missing else range_of_one own.value) (ap is_raw_kind (ap kind_of (viewed_type e.0)) ∙ through_checked e.0.note.ctype addressed.1)) (λ first facts. refl))
            (element_of e.0.note.ctype) n addressed.0 (free_there s agrees.structs (element_of e.0.note.ctype) note.ctype n addressed.0 (element_of (view s.frame e.0).ctype) (ap element_of (viewed_type e.0)) free) (target_place s.text.layout e.0.note.ctype place v)
            (target_structure s store entry next ready here h e.0 fresh (hypotheses.covered_few m globals s agrees declares store entry next ready here h e.0 covered) little are v
            (e.1.claims typed here covered (through_scalar s e.0.note.ctype addressed.1) h fresh little are (one_part (λ a. Node-F.Arrow a n spot) (λ a b e. cc) _ e.0 judged) k strings (inner runs))
            (λ counted. ranged_pointer s store entry next ready here h e.0 fresh (hypotheses.covered_few m globals s agrees declares store entry next ready here h e.0 covered) little are place (ap is_counted_kind (ap kind_of (viewed_type e.0)) ∙ counted) fault) addressed.0.tag addressed.0.struct addressed.1 place)

        unchecked : (m ≡ Unchecked) × (IsRaw e.0 × IsScalarMember s (element_of e.0.note.ctype) note.ctype n) → Of e.0.note.ctype
        unchecked addressed runs =
            gives_meant m (NodeClaims s store entry here h r made) (evaluated store (At e.0.note.ctype)) addressed.0
            (raw_address_claims s store entry here h note place note.ctype r type (node_view s.frame (Node-F.Arrow (view s.frame e.0) n spot)) (fresh_same s.frame e.0 here.at)
            (λ own first fresh at. ap (λ b. if b then range.Missing else range_of_one own.value) (ap is_raw_kind (ap kind_of (viewed_type e.0)) ∙ addressed.1.0)) (λ first facts. refl)
            (member_place s.text.layout (tag_of (element_of e.0.note.ctype)) n (target_place s.text.layout e.0.note.ctype place v))) runs
    address_step (Node-F.Dot e n spot) note place row typed covered node addressed fresh little are judged fault free r type kept k strings runs =
        subst Of (sym (parted_type e.0)) (by_kind (is_raw_kind (view s.frame e.0).behind) refl (only addressed)) runs
      where
        made : NodeView
        made = node_view s.frame (Node-F.Un op.Address (expr_view (record { node = node_view s.frame (Node-F.Dot (view s.frame e.0) n spot); pos = place; note = note })))

        At : CType → Expr
        At t = address_at s.text.layout note.ctype (member_place s.text.layout (tag_of t) n ((part_of e.0).place s.text s.variables k))

        Of : CType → Type 0
        Of t = Runs m (evaluated store (At t)) → IsNotStuck (NodeClaims s store entry here h r made) (evaluated store (At t))

        operand : IsStructureNode (out-Node Name Note e.0.node)
        operand = ⊎_elim (λ (n : IsDot s store e.0 n note.ctype). n.operand) (λ u. raw_structure (out-Node Name Note e.0.node) u.1.0) node

        place_there : IsScalarMember s e.0.note.ctype note.ctype n → HoldsPlace e.0.note.ctype (view s.frame e.0).behind ((part_of e.0).place s.text s.variables k)
        place_there member = e.1.place typed here covered operand member.tag member.struct h fresh little are (one_part (λ a. Node-F.Dot a n spot) (λ a b e. cc) _ e.0 judged) k strings

        by_kind : (b : Bool) → is_raw_kind (view s.frame e.0).behind ≡ b → IsScalarMember s e.0.note.ctype note.ctype n → Of e.0.note.ctype
        by_kind true raw member runs =
            gives_meant m (NodeClaims s store entry here h r made) (evaluated store (At e.0.note.ctype)) ((place_there member).0 raw)
            (raw_address_claims s store entry here h note place note.ctype r type (node_view s.frame (Node-F.Dot (view s.frame e.0) n spot)) (fresh_same s.frame e.0 here.at)
            (λ own first fresh at. ap (λ b. if b then range.Missing else range_of_one own.value) raw) (λ first facts. refl)
            (member_place s.text.layout (tag_of e.0.note.ctype) n ((part_of e.0).place s.text s.variables k))) runs
        by_kind false bare member runs =
            member_claims s store entry next ready here h note.ctype r type made
            (address_node s here note place r (node_view s.frame (Node-F.Dot (view s.frame e.0) n spot)) (fresh_same s.frame e.0 here.at)
            (λ own first fresh at. ap (λ b. if b then range.Missing else range_of_one own.value) bare) (λ first facts. refl))
            e.0.note.ctype n member (free_there s agrees.structs e.0.note.ctype note.ctype n member (view s.frame e.0).ctype (viewed_type e.0) free) ((part_of e.0).place s.text s.variables k)
            ((place_there member).1 bare
            (address_runs m store s.text.layout note.ctype (tag_of e.0.note.ctype) n ((part_of e.0).place s.text s.variables k) runs))
    address_step y note place row typed covered node addressed fresh little are judged fault free r type kept k strings runs = absurd (none_of addressed)
