-- The claims of each node that is covered, from those of its parts.
use Rattle.std.proofs.Common.{⊎_elim, ◌≡◌, [], inl, inr, refl, sym, ap, subst, ◌∙◌, ℕ, ◌+◌, Bool, true, false, List, ◌++◌, append_assoc, ◌⊎◌}
use Rattle.std.specs.Prelude.{◌<◌, ◌^◌, ◌&&◌, not, length, if◌then◌else◌, None, Some, Ok}
use Rattle.ckc_base.specs.declared.arithmetic.Mode.{Mode}
use Rattle.ckc_base.specs.declared.arithmetic.Mode.TheVariants.{Checked, Unchecked}
use Rattle.ckc_base.specs.declared.places.Pos.{Pos}
use Rattle.ckc_types.specs.declared.types.Kind.TheVariants as kind
use Rattle.ckc_types.specs.declared.types.CType.{CType}
use Rattle.ckc_types.specs.declared.types.CType.TheVariants as ctype
use Rattle.ckc_syntax.specs.declared.tree.Name.{Name}
use Rattle.ckc_syntax.specs.declared.tree.Name.TheVariants as name
use Rattle.ckc_syntax.specs.declared.tree.TreeOp.{TreeOp}
use Rattle.ckc_syntax.specs.declared.tree.TreeOp.TheVariants as op
use Rattle.ckc_syntax.specs.declared.tree.Limits.{Limits-F}
use Rattle.ckc_syntax.specs.declared.tree.Node.{Node-F}
use Rattle.ckc_typed.specs.declared.environment.Globals.{Globals}
use Rattle.ckc_typed.specs.declared.typed.Note.{Note}
use Rattle.ckc_typed.specs.declared.typed.Range.TheVariants as range
use Rattle.ckc_typed.specs.Constants.{size_of}
use Rattle.ckc_typed.specs.Conversions.{is_null, is_tested, is_terminated_kind}
use Rattle.ckc_typed.specs.Operands.{is_raw_kind, is_moved, same_element}
use Rattle.ckc_typed.specs.Expressions.{address_kind, has_address}
use Rattle.ckc_typed.specs.Trees.{NotedNode, NotedExpr, NotedLayer}
use Rattle.ckc_typed.specs.Statics.{Strings, strings_of_limits, strings_of_expr}
use Rattle.ckc_typed.specs.Types.{type_written, is_integer, is_pointer, is_void, is_scalar, kind_of, element_of}
use Rattle.ckc_typed_welltyped.specs.Parts.{LimitsLayer}
use Rattle.ckc_typed_welltyped.proofs.Nodes.{node_of}
use Rattle.ckc_blame_sound.specs.ckc_bounds_points.specs.Flow.{State}
use Rattle.ckc_blame_sound.specs.ckc_bounds_ranges.specs.Rows.{range_of_local}
use Rattle.ckc_blame_sound.specs.ckc_bounds_views.specs.Parts.{LimitsView, NodeView, View, NodeOfViews, fresh_behind}
use Rattle.ckc_blame_sound.specs.ckc_bounds_views.specs.Conditions.{right_point, widening, widening_side}
use Rattle.ckc_blame_sound.specs.ckc_bounds_views.specs.Judged.{is_counted_kind, fault_if, fault_of_node, node_judged, there_judged}
use Rattle.ckc_blame_sound.specs.ckc_bounds_views.specs.Fresh.{own_fresh}
use Rattle.ckc_blame_sound.specs.ckc_bounds_views.specs.Ranges.{pointer_range, range_by_type}
use Rattle.ckc_blame_sound.specs.ckc_bounds_views.specs.Views.{node_view, view_of_limits, view}
use Rattle.ckc_blame_sound.specs.ckc_bounds_statements.specs.Paths.{Here}
use Rattle.ckc_source.specs.declared.outcome.Value.{Value}
use Rattle.ckc_source.specs.declared.expr.Integer.{Integer}
use Rattle.ckc_source.specs.declared.expr.Integer.TheVariants.{Int}
use Rattle.ckc_source.specs.Code.{Expr, Number, Tested, Trusted}
use Rattle.ckc_source.specs.Eval.{Store, evaluated, operates, tests, trusts}
use Rattle.ckc_source.specs.Words.{exact}
use Rattle.ckc_typed.specs.Layouts.{member_number}
use Rattle.ckc_build_values.specs.Kinds.{integer_of, width_of, size_behind, count_of_kind, tag_of, pointee_of}
use Rattle.ckc_build_values.specs.Members.{offset_of, count_of_member}
use Rattle.ckc_build_values.specs.Places.{Place, element_place, target_place, member_place, read_at}
use Rattle.ckc_build_values.specs.Expressions.{Part, NodePart, LimitsPart, local_in, node_value, part_of}
use Rattle.ckc_build_values.specs.Operators.{cast, of_operands}
use Rattle.ckc_blame_sound.specs.Settings.{Setting, AreStrings}
use Rattle.ckc_blame_sound.specs.Points.{HoldsAt}
use Rattle.ckc_blame_sound.specs.Typed.{IsRow, HasRow, IsTyped, Agrees}
use Rattle.ckc_blame_sound.proofs.Types.{sign_row, IsWide, number_wide, size_wide}
use Rattle.ckc_blame_sound.specs.Bodies.{AreFresh}
use Rattle.ckc_blame_pointers.specs.Covered.{DeclareLocals, DeclareOnes, IsSoundStore, IsElement, IsSingle, IsArrow, IsPointerArrow, IsStaticStructure, IsStructureTarget, IsPointerTarget, IsStructureElement, IsRaw, IsIntegerMember, IsPointerMember, IsCoveredExpr, AreCovered, IsInScope, IsDot, IsRawAddress}
use Rattle.ckc_blame_pointers.specs.Meant.{IsNotStuck}
use Rattle.ckc_blame_pointers.specs.Owed.{Runs, IfGives}
use Rattle.ckc_blame_pointers.proofs.Claims.{nothing_read}
use Rattle.ckc_blame_pointers.proofs.Inside.{PartsEvery, one_part, two_parts, three_parts, limits_every, tested_parts, trusted_parts}
use Rattle.ckc_blame_pointers.proofs.Nodes.{node_fresh, NodeClaims}
use Rattle.ckc_blame_pointers.proofs.Binary.{ExprClaims, other_claims, unequal_claims, and_claims, or_claims}
use Rattle.ckc_blame_pointers.proofs.Sums.{sum_claims, difference_claims}
use Rattle.ckc_blame_pointers.proofs.Later.{next_both, left_room, right_room, parts_room}
use Rattle.ckc_blame_pointers.proofs.Unwidened.{fresh_same, right_fresh_is}
use Rattle.ckc_blame_pointers.proofs.Elements.{IsRanged, ranged_pointer, target_aims, element_aims, element_claims, narrow_there, counted_checked}
use Rattle.ckc_blame_pointers.proofs.Loads.{integer_part, no_count}
use Rattle.ckc_blame_sound.specs.Cells.{IsPart}
use Rattle.ckc_blame_pointers.proofs.Addresses.{address_row}
use Rattle.ckc_blame_pointers.proofs.Rows.{counted_pointer}
use Rattle.ckc_blame_pointers.proofs.Arrows.{arrow_node}
use Rattle.ckc_blame_pointers.proofs.Held.{held_claims, IsMemberNode}
use Rattle.ckc_blame_pointers.proofs.Through.{target_reached, element_reached, target_structure}
use Rattle.ckc_blame_pointers.proofs.ReadThrough.{read_claims}
use Rattle.ckc_blame_pointers.proofs.Casts.{one_claims, no_limits}
use Rattle.ckc_blame_pointers.proofs.Bytes.{amount_claims}
use Rattle.ckc_blame_pointers.proofs.Operands.{tested_pointer, operand_scalar, operand_testable}
use Rattle.ckc_blame_pointers.proofs.Reach.{IsStructurePlace}
use Rattle.ckc_blame_pointers.proofs.Pointees.{pointee_claims}
use Rattle.ckc_blame_sound.specs.ckc_bounds_points.specs.Codes.{bounds_address}
use Rattle.ckc_blame_pointers.proofs.Dots.{dot_node, integer_held}
use Rattle.ckc_blame_pointers.proofs.Scalars.{integer_scalar, pointer_scalar, kind_scalar, through_scalar, through_bare, no_structure, true_if, target_scalar, index_scalar, binary_scalar, choice_scalar, cast_scalar, null_scalar, same_scalar}
use Rattle.std.proofs.lemmas.Bool.{and_parts}
use Rattle.ckc_blame_pointers.proofs.Members.{member_behind}
use Rattle.ckc_blame_pointers.proofs.Single.{single_claims}
use Rattle.ckc_blame_pointers.proofs.Statics.{static_claims}
use Rattle.ckc_blame_pointers.proofs.Arrays.{array_claims}
use Rattle.ckc_blame_pointers.proofs.Pointers.{pointer_claims, bounded_claims}
use Rattle.ckc_blame_pointers.proofs.Strings.{strings_in_node, first_strings, later_strings}
use Rattle.ckc_blame_pointers.proofs.Leaves.{number_claims, size_claims, null_claims, local_claims, minus_claims, plus_claims, flip_claims, not_claims, cast_claims, choice_claims}
use Rattle.ckc_blame_pointers.proofs.Hypotheses as hypotheses
use Rattle.ckc_source.specs.declared.expr.Operation.TheVariants as operation
use Rattle.ckc_blame_sound.specs.ckc_bounds_views.specs.declared.variables.Own.{Own}
use Rattle.ckc_blame_sound.specs.ckc_bounds_points.specs.Shown.{Known}
use Rattle.ckc_blame_pointers.proofs.Hypotheses.{only, none_of, unchecked_alone, some_if, not_raw}
use Rattle.ckc_blame_pointers.proofs.RawCasts.{raw_type, raw_cast_claims}
use Rattle.ckc_blame_pointers.proofs.RawNames.{text_claims}
use Rattle.ckc_blame_pointers.proofs.RawReads.{raw_integer, raw_pointer, raw_member}
use Rattle.ckc_blame_pointers.proofs.Runs.{gives_meant, runs_first, both_meant, is_logical, binary_left, and_left, and_right, or_left, or_right, choice_first, choice_second, choice_third, cast_runs, operands_run, read_place, member_runs, pointer_runs, place_run}
use Rattle.ckc_blame_pointers.proofs.Trusted.{trusted_one, trusted_amount}
use Rattle.ckc_blame_pointers.proofs.Truths.{either}
use Rattle.ckc_blame_pointers.proofs.BoundsCasts as casts

module _ (m : Mode) (globals : Globals) (s : Setting) (agrees : Agrees globals s) (declares : DeclareLocals s) (store : Store) (entry : List ℕ) (next : ℕ) (ready : IsSoundStore s store next) where
  abbrev NodeHolds : NotedNode → Type 0
  NodeHolds = hypotheses.NodeHolds m globals s agrees declares store entry next ready

  abbrev ExprHolds : NotedExpr → Type 0
  ExprHolds = hypotheses.ExprHolds m globals s agrees declares store entry next ready

  abbrev PartsHold : LimitsLayer → Type 0
  PartsHold = hypotheses.PartsHold m globals s agrees declares store entry next ready

  abbrev KeptLimits : Type 0
  KeptLimits = hypotheses.KeptLimits m globals s agrees declares store entry next ready

  abbrev KeptNode : Type 0
  KeptNode = hypotheses.KeptNode m globals s agrees declares store entry next ready

  abbrev KeptExpr : Type 0
  KeptExpr = hypotheses.KeptExpr m globals s agrees declares store entry next ready

  abbrev IsNode : List ℕ → CType → NotedLayer → Type 0
  IsNode = hypotheses.IsNode m globals s agrees declares store entry next ready

  abbrev HasAddress : CType → NotedLayer → Type 0
  HasAddress = hypotheses.HasAddress m globals s agrees declares store entry next ready

  abbrev inner_node : Node-F Name Note KeptLimits KeptNode KeptExpr → NotedLayer
  inner_node = hypotheses.inner_node m globals s agrees declares store entry next ready

  abbrev viewed_node : NotedLayer → NodeOfViews
  viewed_node = hypotheses.viewed_node m globals s agrees declares store entry next ready

  abbrev viewed_limits : LimitsLayer → Limits-F Name Note LimitsView NodeView View
  viewed_limits = hypotheses.viewed_limits m globals s agrees declares store entry next ready

  abbrev part_node : NotedLayer → Node-F Name Note LimitsPart NodePart Part
  part_node = hypotheses.part_node m globals s agrees declares store entry next ready

  abbrev part_limits : LimitsLayer → Limits-F Name Note LimitsPart NodePart Part
  part_limits = hypotheses.part_limits m globals s agrees declares store entry next ready

  viewed_type : (e : NotedExpr) → (view s.frame e).ctype ≡ e.note.ctype
  viewed_type = hypotheses.viewed_type m globals s agrees declares store entry next ready

  parted_type : (e : NotedExpr) → (part_of e).ctype ≡ e.note.ctype
  parted_type = hypotheses.parted_type m globals s agrees declares store entry next ready

  -- ---- a node

  module _ (here : Here) (h : HoldsAt s store entry here) where
    abbrev Made : NotedLayer → Note → Pos → ℕ → Type 0
    Made x note place k = IsNotStuck (NodeClaims s store entry here h note.ctype (node_view s.frame (viewed_node x))) (evaluated store (node_value (part_node x) note place s.text s.variables k))

    module _ (e f : KeptExpr) (typed : IsTyped globals s e.0 × IsTyped globals s f.0) (covered : AreCovered m s store here.seen e.0 × AreCovered m s store here.seen f.0) (scalars : (is_scalar e.0.note.ctype ≡ true) × (is_scalar f.0.note.ctype ≡ true)) (fresh : ℕ)
        (little : fresh + length ((view s.frame e.0).fresh here.at) < 2 ^ 32) (are : AreFresh s.frame fresh) (k : ℕ) (strings : AreStrings s k (strings_of_expr e.0 ++ strings_of_expr f.0)) (note : Note) (place : Pos)
        (left : (view s.frame e.0).judged fresh here.at ≡ Ok e.0) where
      abbrev left_value : Expr
      left_value = (part_of e.0).value s.text s.variables k

      abbrev right_value : Expr
      right_value = (part_of f.0).value s.text s.variables (k + (part_of e.0).literals)

      left_claims : Runs m (evaluated store left_value) → IsNotStuck (ExprClaims s store entry here e.0) (evaluated store left_value)
      left_claims = hypotheses.left_claims m globals s agrees declares store entry next ready here h e f typed covered scalars fresh little are k strings left

      -- the right operand at a point
      abbrev IsRight : State → Type 0
      IsRight at = (view s.frame f.0).judged (fresh_behind (view s.frame e.0) fresh here.at) at ≡ Ok f.0

      abbrev HasRight : State → Type 0
      HasRight at = fresh_behind (view s.frame e.0) fresh here.at + length ((view s.frame f.0).fresh at) < 2 ^ 32

      right_claims : (at : State) → HasRight at → IsRight at → HoldsAt s store entry (record here { at = at }) → Runs m (evaluated store right_value) → IsNotStuck (ExprClaims s store entry (record here { at = at }) f.0) (evaluated store right_value)
      right_claims = hypotheses.right_claims m globals s agrees declares store entry next ready here h e f typed covered scalars fresh little are k strings

      abbrev Of : TreeOp → Type 0
      Of o = Runs m (evaluated store (of_operands s.text.layout o e.0.note.ctype f.0.note.ctype place left_value right_value))
          → IsNotStuck (NodeClaims s store entry here h note.ctype (node_view s.frame (Node-F.Bin o (view s.frame e.0) (view s.frame f.0)))) (evaluated store (of_operands s.text.layout o e.0.note.ctype f.0.note.ctype place left_value right_value))

      -- an operator that evaluates both operands, wherever they run
      by_both : (o : TreeOp) → is_logical o ≡ false → IsRow globals s (Node-F.Bin o e.0 f.0) note → (Runs m (evaluated store left_value) → Runs m (evaluated store right_value)
          → IsNotStuck (NodeClaims s store entry here h note.ctype (node_view s.frame (Node-F.Bin o (view s.frame e.0) (view s.frame f.0)))) (evaluated store (of_operands s.text.layout o e.0.note.ctype f.0.note.ctype place left_value right_value))) → Of o
      by_both o both row next runs =
          operands_run m store s.text.layout (NodeClaims s store entry here h note.ctype (node_view s.frame (Node-F.Bin o (view s.frame e.0) (view s.frame f.0)))) e.0.note.ctype f.0.note.ctype place left_value right_value o (is_null e.0) (is_null f.0) note.ctype both row.row runs next

      binary_step : (o : TreeOp) → IsRow globals s (Node-F.Bin o e.0 f.0) note → size_behind s.text.layout e.0.note.ctype < 2 ^ 32
          → HasRight (right_point o (view s.frame e.0) here.at) → IsRight (right_point o (view s.frame e.0) here.at) → Of o
      binary_step op.AndThen row sized room right runs =
          and_claims s store entry here h s.text.layout e.0 f.0 note.ctype place left_value right_value (left_claims (and_left m store left_value right_value runs)) (is_null e.0) (is_null f.0)
          (λ x is c b side. hypotheses.point_of m globals s agrees declares store entry next ready here h e.0 typed.0 k x is c b side) row.row (λ x is some there. right_claims _ room right there (and_right m store left_value right_value x is some runs))
      binary_step op.OrElse row sized room right runs =
          or_claims s store entry here h s.text.layout e.0 f.0 note.ctype place left_value right_value (left_claims (or_left m store left_value right_value runs)) (is_null e.0) (is_null f.0)
          (λ x is c b side. hypotheses.point_of m globals s agrees declares store entry next ready here h e.0 typed.0 k x is c b side) row.row (λ x is none there. right_claims _ room right there (or_right m store left_value right_value x is none runs))
      binary_step op.Ne row sized room right runs =
          by_both op.Ne refl row (λ a b. unequal_claims s store entry here h s.text.layout e.0 f.0 note.ctype place left_value right_value (left_claims a) (is_null e.0) (is_null f.0) row.row (right_claims here.at room right h b)) runs
      binary_step op.Add row sized room right runs =
          by_both op.Add refl row (λ a b. sum_claims s store entry here h e.0 f.0 note.ctype place left_value right_value (left_claims a) (right_claims here.at room right h b) (viewed_type e.0)
          (λ x is. hypotheses.index_of m globals s agrees declares store entry next ready here h e.0 typed.0 k x is) (λ x is. hypotheses.index_of m globals s agrees declares store entry next ready here h f.0 typed.1 (k + (part_of e.0).literals) x is) row.row) runs
      binary_step op.Sub row sized room right runs =
          by_both op.Sub refl row (λ a b. difference_claims s store entry here h e.0 f.0 note.ctype place left_value right_value (left_claims a) (right_claims here.at room right h b) (viewed_type e.0)
          (λ x is. hypotheses.index_of m globals s agrees declares store entry next ready here h e.0 typed.0 k x is) (λ x is. hypotheses.index_of m globals s agrees declares store entry next ready here h f.0 typed.1 (k + (part_of e.0).literals) x is) sized row.row) runs
      binary_step o row sized room right runs =
          by_both o refl row (λ a b. other_claims s store entry here h s.text.layout e.0 f.0 note.ctype place left_value right_value (left_claims a) (is_null e.0) (is_null f.0) o refl refl row.row (right_claims here.at room right h b)) runs

    -- what no fault says
    unbroken : (b : Bool) (code : ℕ) (spot : Pos) → fault_if b code spot ≡ None → b ≡ false
    unbroken true code spot e = absurd (cc)
    unbroken false code spot e = refl

    -- ---- what is read in unchecked code, of which nothing is known but what is read

    -- through an unchecked pointer
    raw_read : (t p : CType) → is_scalar t ≡ true → is_raw_kind (kind_of p) ≡ true → (n : NodeView) → n.stands_alone ≡ true → n.null ≡ false → ((first : ℕ) (facts : Known) → n.place t first facts ≡ None)
        → ((widened : List ℕ) → n.fresh (record here.at { widened = widened }) ≡ n.fresh here.at)
        → ((own : Own) (first fresh : ℕ) (widened : List ℕ) → n.range t own first fresh (record here.at { widened = widened }) ≡ range_by_type (kind_of t) own.value)
        → n.behind ≡ kind_of p → n.is_zero ≡ false → ((b : Bool) → n.side b here.at ≡ widening_side s.frame n.behind (n.target 0) b here.at)
        → (q : Place) → IfGives (NodeClaims s store entry here h t n) (evaluated store (read_at s.text.layout t (count_of_kind (kind_of t)) q))
    raw_read t p scalar raw n alone known nowhere kept ranged behind some same q = ⊎_elim number pointer (either (is_integer t) (is_pointer t) scalar)
      where
        bare : is_terminated_kind (kind_of p) ≡ false
        bare = (raw_type p (element_of p) raw refl).bare

        number : is_integer t ≡ true → IfGives (NodeClaims s store entry here h t n) (evaluated store (read_at s.text.layout t (count_of_kind (kind_of t)) q))
        number i =
            subst (λ o. IfGives (NodeClaims s store entry here h t n) (evaluated store (read_at s.text.layout t o q))) (sym (no_count t i))
            (raw_integer s store entry next ready here h t i n known some same (ap is_terminated_kind behind ∙ bare) q)

        pointer : is_pointer t ≡ true → IfGives (NodeClaims s store entry here h t n) (evaluated store (read_at s.text.layout t (count_of_kind (kind_of t)) q))
        pointer i = raw_pointer s store entry next ready here h t p i bare n alone known nowhere kept ranged behind some same q

    -- in a structure
    raw_part : (u t : CType) (n : Name) → IsIntegerMember s u t n ⊎ IsPointerMember s store u t n → (made : NodeView) → made.null ≡ false → made.is_zero ≡ false
        → ((b : Bool) → made.side b here.at ≡ widening_side s.frame made.behind (made.target 0) b here.at) → is_terminated_kind made.behind ≡ false
        → ((c : IsPointerMember s store u t n) → IsMemberNode s here t (record { tag = c.tag; number = c.number }) made) → (q : Place)
        → IfGives (NodeClaims s store entry here h t made) (evaluated store (read_at s.text.layout t (count_of_member s.text.layout (tag_of u) n) (member_place s.text.layout (tag_of u) n q)))
    raw_part u t n (inl c) made known some same bare node q =
        subst (λ o. IfGives (NodeClaims s store entry here h t made) (evaluated store (read_at s.text.layout t o (member_place s.text.layout (tag_of u) n q)))) (sym c.bare)
        (raw_integer s store entry next ready here h t c.integer made known some same bare (member_place s.text.layout (tag_of u) n q))
    raw_part u t n (inr c) made known some same bare node q = raw_member s store entry next ready here h u t n c made (node c) q

    -- ---- each node

    pub node_step : (y : Node-F Name Note KeptLimits KeptNode KeptExpr) (note : Note) (place : Pos) → IsRow globals s (inner_node y) note → PartsEvery (HasRow globals s) (inner_node y)
        → PartsEvery (IsCoveredExpr m s store here.seen) (inner_node y) → IsNode here.seen note.ctype (inner_node y) → (is_raw_kind (kind_of note.ctype) ≡ true → m ≡ Unchecked) → (m ≡ Unchecked → IsRawAddress note.ctype (inner_node y)) → is_scalar note.ctype ≡ true
        → (fresh : ℕ) → fresh + length (node_fresh note.ctype (node_view s.frame (viewed_node (inner_node y))) here.at) < 2 ^ 32 → AreFresh s.frame fresh → fault_of_node s.frame (viewed_node (inner_node y)) place fresh here.at ≡ None → node_judged s.frame (viewed_node (inner_node y)) note.ctype fresh here.at ≡ Ok (node_of (inner_node y))
        → (is_pointer note.ctype ≡ true → note.range ≡ pointer_range note.ctype (node_view s.frame (viewed_node (inner_node y))) 0 fresh here.at)
        → (k : ℕ) → AreStrings s k (strings_in_node (inner_node y)) → Runs m (evaluated store (node_value (part_node (inner_node y)) note place s.text s.variables k)) → Made (inner_node y) note place k
    node_step (Node-F.Number n uns) note place row typed covered node checked address scalar fresh little are fault judged noted k strings runs =
        let wide : IsWide note.ctype uns = subst (λ t. IsWide t uns) (sym row.row) (number_wide uns) in
        number_claims s store entry here h n uns note.ctype wide.integer wide.wide row.word
    node_step (Node-F.Size w) note place row typed covered node checked address scalar fresh little are fault judged noted k strings runs =
        let wide : IsWide note.ctype true = size_wide (type_written w) note.ctype row.row in
        size_claims s store entry here h w (size_of s.text.layout (type_written w)) note.ctype wide.integer wide.wide (subst (λ structs. size_of structs (type_written w) < 2 ^ 32) agrees.structs row.word)
    node_step (Node-F.Text bytes) note place row typed covered node checked address scalar fresh little are fault judged noted k strings runs =
        text_claims s store entry next ready here h row.mode note.ctype bytes k row.row strings.0
    node_step Node-F.Null note place row typed covered node checked address scalar fresh little are fault judged noted k strings runs = null_claims s store entry here h note.ctype
    node_step (Node-F.Name (name.Local j)) note place row typed covered node checked address scalar fresh little are fault judged noted k strings runs =
        subst (λ t. IsNotStuck (NodeClaims s store entry here h t (node_view s.frame (Node-F.Name (name.Local j)))) (evaluated store (local_in s.text s.variables t j note.range))) same
        (local_claims s store entry here h globals agrees declares j scope note.range (λ i. row.bare (subst (λ t. is_integer t ≡ true) same i)) (λ p. noted_is (subst (λ t. is_pointer t ≡ true) same p)))
      where
        scope : IsInScope s here.seen j
        scope = only node

        same : scope.local.ctype ≡ note.ctype
        same = agrees.locals j scope.local note.ctype scope.there row.row

        noted_is : is_pointer note.ctype ≡ true → note.range ≡ range_of_local s.frame j here.at.widened
        noted_is p = noted p ∙ ap (λ b. if b then range_of_local s.frame j here.at.widened else range.Missing) p
    node_step (Node-F.Name (name.Static j)) note place row typed covered node checked address scalar fresh little are fault judged noted k strings runs =
        ⊎_elim (λ c. static_claims s store entry next ready here h note.ctype j c place) (λ c. ⊎_elim (λ c. array_claims s store entry next ready here h note.ctype j c place)
        (λ c. ⊎_elim (λ c. pointer_claims s store entry next ready here h note.ctype j c place)
        (λ c. ⊎_elim (λ c. bounded_claims s store entry next ready here h note.ctype j c place) (λ (c : IsStaticStructure s note.ctype j). absurd (no_structure note.ctype scalar c.tag c.struct)) c) c) c) (only node)
    node_step (Node-F.Un op.Minus e) note place row typed covered node checked address scalar fresh little are fault judged noted k strings runs =
        minus_claims s store entry here h e.0 note.ctype place ((part_of e.0).value s.text s.variables k)
        (e.1.claims typed here covered (integer_scalar e.0.note.ctype (sign_row e.0.note.ctype note.ctype row.row).0) h fresh little are (one_part (λ a. Node-F.Un op.Minus a) (λ a b e. cc) _ e.0 judged) k strings (runs_first m (evaluated store ((part_of e.0).value s.text s.variables k)) (λ y. operates operation.Sub true place 0 y.number) runs)) row.row
    node_step (Node-F.Un op.Plus e) note place row typed covered node checked address scalar fresh little are fault judged noted k strings runs =
        plus_claims s store entry here h e.0 note.ctype place ((part_of e.0).value s.text s.variables k)
        (e.1.claims typed here covered (integer_scalar e.0.note.ctype (sign_row e.0.note.ctype note.ctype row.row).0) h fresh little are (one_part (λ a. Node-F.Un op.Plus a) (λ a b e. cc) _ e.0 judged) k strings runs) row.row
    node_step (Node-F.Un op.Flip e) note place row typed covered node checked address scalar fresh little are fault judged noted k strings runs =
        flip_claims s store entry here h e.0 note.ctype place ((part_of e.0).value s.text s.variables k)
        (e.1.claims typed here covered (integer_scalar e.0.note.ctype (sign_row e.0.note.ctype note.ctype row.row).0) h fresh little are (one_part (λ a. Node-F.Un op.Flip a) (λ a b e. cc) _ e.0 judged) k strings (binary_left m store operation.Xor true place ((part_of e.0).value s.text s.variables k) (Number 0xFFFFFFFF) runs)) row.row
    node_step (Node-F.Un op.Not e) note place row typed covered node checked address scalar fresh little are fault judged noted k strings runs =
        not_claims s store entry here h e.0 note.ctype place ((part_of e.0).value s.text s.variables k)
        (e.1.claims typed here covered (true_if (is_scalar e.0.note.ctype) ctype.Int note.ctype row.row) h fresh little are (one_part (λ a. Node-F.Un op.Not a) (λ a b e. cc) _ e.0 judged) k strings (binary_left m store operation.Eq true place ((part_of e.0).value s.text s.variables k) (Number 0) runs)) row.row
    node_step (Node-F.Bin o e f) note place row typed covered node checked address scalar fresh little are fault judged noted k strings runs =
        let parts = two_parts (λ a b. Node-F.Bin o a b) (λ a b c d e. (cc, cc)) _ _ e.0 f.0 judged in
        subst (λ t. Of t (part_of f.0).ctype) (sym (parted_type e.0)) (subst (λ u. Of e.0.note.ctype u) (sym (parted_type f.0))
        (binary_step e f typed covered (binary_scalar e.0.note.ctype f.0.note.ctype note.ctype o (is_null e.0) (is_null f.0) (null_scalar globals s e.0 typed.0) (null_scalar globals s f.0 typed.1) row.row) fresh (left_room fresh ((view s.frame e.0).fresh here.at) _ little) are k strings note place parts.0 o row (hypotheses.covered_sized m globals s agrees declares store entry next ready here h e.0 covered.0)
        (subst (λ us. fresh_behind (view s.frame e.0) fresh here.at + length us < 2 ^ 32) (right_fresh_is s.frame o (view s.frame e.0) f.0 here.at) (right_room fresh ((view s.frame e.0).fresh here.at) _ little)) parts.1)) runs
      where
        At : CType → CType → Expr
        At t u = of_operands s.text.layout o t u place ((part_of e.0).value s.text s.variables k) ((part_of f.0).value s.text s.variables (k + (part_of e.0).literals))

        Of : CType → CType → Type 0
        Of t u = Runs m (evaluated store (At t u)) → IsNotStuck (NodeClaims s store entry here h note.ctype (node_view s.frame (Node-F.Bin o (view s.frame e.0) (view s.frame f.0)))) (evaluated store (At t u))
    node_step (Node-F.Pick e f g) note place row typed covered node checked address scalar fresh little are fault judged noted k strings runs =
        choice_claims s store entry here h e.0 f.0 g.0 note.ctype u v w (e.1.claims typed.0 here covered.0 scalars.0 h fresh first are parts.0 k (first_strings s e.0 rest k joined) (choice_first m store u v w runs))
        (λ x is some. f.1.claims typed.1 here covered.1 scalars.1 h (fresh_behind (view s.frame e.0) fresh here.at) second (hypotheses.are_on m globals s agrees declares store entry next ready here h e.0 fresh first are) parts.1 (k + (part_of e.0).literals)
        (first_strings s f.0 (strings_of_expr g.0) (k + (part_of e.0).literals) behind) (choice_second m store u v w x is some runs))
        (λ x is none. g.1.claims typed.2 here covered.2 scalars.2 h (fresh_behind (view s.frame f.0) (fresh_behind (view s.frame e.0) fresh here.at) here.at) third (hypotheses.are_on m globals s agrees declares store entry next ready here h f.0 _ second (hypotheses.are_on m globals s agrees declares store entry next ready here h e.0 fresh first are)) parts.2
        (k + (part_of e.0).literals + (part_of f.0).literals) (later_strings s f.0 (strings_of_expr g.0) (k + (part_of e.0).literals) behind) (choice_third m store u v w x is none runs)) row.row
      where
        u : Expr
        u = (part_of e.0).value s.text s.variables k

        v : Expr
        v = (part_of f.0).value s.text s.variables (k + (part_of e.0).literals)

        w : Expr
        w = (part_of g.0).value s.text s.variables (k + (part_of e.0).literals + (part_of f.0).literals)

        rest : Strings
        rest = strings_of_expr f.0 ++ strings_of_expr g.0

        joined : AreStrings s k (strings_of_expr e.0 ++ rest)
        joined = subst (λ xs. AreStrings s k xs) (append_assoc (strings_of_expr e.0) (strings_of_expr f.0) (strings_of_expr g.0)) strings

        behind : AreStrings s (k + (part_of e.0).literals) rest
        behind = later_strings s e.0 rest k joined

        parts : ((view s.frame e.0).judged fresh here.at ≡ Ok e.0) × ((view s.frame f.0).judged (fresh_behind (view s.frame e.0) fresh here.at) here.at ≡ Ok f.0)
            × ((view s.frame g.0).judged (fresh_behind (view s.frame f.0) (fresh_behind (view s.frame e.0) fresh here.at) here.at) here.at ≡ Ok g.0)
        parts = three_parts _ _ _ e.0 f.0 g.0 judged

        scalars : (is_scalar e.0.note.ctype ≡ true) × (is_scalar f.0.note.ctype ≡ true) × (is_scalar g.0.note.ctype ≡ true)
        scalars = choice_scalar e.0.note.ctype f.0.note.ctype g.0.note.ctype note.ctype row.row

        both : fresh + length ((view s.frame e.0).fresh here.at ++ (view s.frame f.0).fresh here.at) < 2 ^ 32
        both = left_room fresh ((view s.frame e.0).fresh here.at ++ (view s.frame f.0).fresh here.at) ((view s.frame g.0).fresh here.at) little

        first : fresh + length ((view s.frame e.0).fresh here.at) < 2 ^ 32
        first = left_room fresh ((view s.frame e.0).fresh here.at) ((view s.frame f.0).fresh here.at) both

        second : fresh_behind (view s.frame e.0) fresh here.at + length ((view s.frame f.0).fresh here.at) < 2 ^ 32
        second = right_room fresh ((view s.frame e.0).fresh here.at) ((view s.frame f.0).fresh here.at) both

        third : fresh_behind (view s.frame f.0) (fresh_behind (view s.frame e.0) fresh here.at) here.at + length ((view s.frame g.0).fresh here.at) < 2 ^ 32
        third = subst (λ n. n + length ((view s.frame g.0).fresh here.at) < 2 ^ 32) (sym (next_both fresh ((view s.frame e.0).fresh here.at) ((view s.frame f.0).fresh here.at) both))
            (right_room fresh ((view s.frame e.0).fresh here.at ++ (view s.frame f.0).fresh here.at) ((view s.frame g.0).fresh here.at) little)
    node_step (Node-F.Cast w e) note place row typed covered node checked address scalar fresh little are fault judged noted k strings runs = by (is_raw_kind (kind_of note.ctype)) refl
      where
        made : NodeView
        made = node_view s.frame (Node-F.Cast w (view s.frame e.0))

        v : Expr
        v = (part_of e.0).value s.text s.variables k

        inside : IsNotStuck (ExprClaims s store entry here e.0) (evaluated store v)
        inside =
            e.1.claims typed here covered (cast_scalar (type_written w) e.0.note.ctype (is_null e.0) (null_scalar globals s e.0 typed) row.row.0) h fresh little are (one_part (λ a. Node-F.Cast w a) (λ a b e. cc) _ e.0 judged) k strings
            (cast_runs m store (type_written w) (part_of e.0).ctype v runs)

        by : (raw : Bool) → is_raw_kind (kind_of note.ctype) ≡ raw → Made (Node-F.Cast w e.0) note place k
        by true raw =
            subst (λ u. IsNotStuck (NodeClaims s store entry here h note.ctype made) (evaluated store (cast (type_written w) u v))) (sym (parted_type e.0))
            (subst (λ t. IsNotStuck (NodeClaims s store entry here h note.ctype made) (evaluated store (cast t e.0.note.ctype v))) row.row.1 (raw_cast_claims s store entry here h e.0 note.ctype w v (viewed_type e.0) raw inside))
        by false checked = cast_claims s store entry here h e.0 note.ctype place v inside w (type_written w) (part_of e.0).ctype (is_null e.0) row.row.1 checked row.row.0
    node_step (Node-F.Un op.Deref e) note place row typed covered node checked address scalar fresh little are fault judged noted k strings runs =
        subst (λ t. Of t (part_of e.0).ctype) is (subst (λ u. Of (element_of e.0.note.ctype) u) (sym (parted_type e.0)) (λ runs. ⊎_elim (checked_target (inside (inner runs))) (λ c. unchecked c.0 c.1 runs) node)) runs
      where
        is : element_of e.0.note.ctype ≡ note.ctype
        is = some_if (is_pointer e.0.note.ctype && not (is_void (element_of e.0.note.ctype))) (element_of e.0.note.ctype) note.ctype row.row

        made : NodeView
        made = node_view s.frame (Node-F.Un op.Deref (view s.frame e.0))

        v : Expr
        v = (part_of e.0).value s.text s.variables k

        At : CType → CType → Expr
        At t u = read_at s.text.layout t (count_of_kind (kind_of t)) (target_place s.text.layout u place v)

        Read : Type 0
        Read = IsNotStuck (NodeClaims s store entry here h (element_of e.0.note.ctype) made) (evaluated store (At (element_of e.0.note.ctype) e.0.note.ctype))

        Of : CType → CType → Type 0
        Of t u = Runs m (evaluated store (At t u)) → IsNotStuck (NodeClaims s store entry here h t made) (evaluated store (At t u))

        inner : Runs m (evaluated store (At (element_of e.0.note.ctype) e.0.note.ctype)) → Runs m (evaluated store v)
        inner runs =
            pointer_runs m store (target_place s.text.layout e.0.note.ctype place v)
            (read_place m store s.text.layout (element_of e.0.note.ctype) (count_of_kind (kind_of (element_of e.0.note.ctype))) (target_place s.text.layout e.0.note.ctype place v) runs)

        inside : Runs m (evaluated store v) → IsNotStuck (ExprClaims s store entry here e.0) (evaluated store v)
        inside runs = e.1.claims typed here covered (target_scalar e.0 note.ctype row.row) h fresh little are (one_part (λ a. Node-F.Un op.Deref a) (λ a b e. cc) _ e.0 judged) k strings runs

        unchecked : m ≡ Unchecked → IsRaw e.0 → Of (element_of e.0.note.ctype) e.0.note.ctype
        unchecked mode raw runs =
            gives_meant m (NodeClaims s store entry here h (element_of e.0.note.ctype) made) (evaluated store (At (element_of e.0.note.ctype) e.0.note.ctype)) mode
            (raw_read (element_of e.0.note.ctype) e.0.note.ctype (ap is_scalar is ∙ scalar) raw made refl refl (λ first facts. refl) (fresh_same s.frame e.0 here.at) (λ own first fresh widened. refl) (ap kind_of (viewed_type e.0)) refl (λ b. refl)
            (target_place s.text.layout e.0.note.ctype place v)) runs

        checked_target : IsNotStuck (ExprClaims s store entry here e.0) (evaluated store v) → IsElement e.0 ⊎ (IsSingle s e.0 ⊎ (IsStructureTarget s e.0 ⊎ IsPointerTarget s store e.0)) → Read
        checked_target left = ⊎_elim several (⊎_elim single (⊎_elim structure pointer))
          where
            few : (view s.frame e.0).values + 1 < 2 ^ 32
            few = hypotheses.covered_few m globals s agrees declares store entry next ready here h e.0 covered

            structure : IsStructureTarget s e.0 → Read
            structure node = absurd (no_structure (element_of e.0.note.ctype) (ap is_scalar is ∙ scalar) node.tag node.struct)

            pointer : IsPointerTarget s store e.0 → Read
            pointer node =
                pointee_claims s store entry next ready here h e.0.note.ctype node.pointer (through_bare s e.0.note.ctype node.through) node.free node.filled made
                refl refl (λ first facts. refl) (fresh_same s.frame e.0 here.at) (λ own first fresh widened. refl) (ap kind_of (viewed_type e.0)) refl (λ b. refl)
                (target_place s.text.layout e.0.note.ctype place v) refl
                (target_reached s store entry next ready here h e.0 fresh few little are v left
                (λ counted. ranged_pointer s store entry next ready here h e.0 fresh few little are place (ap is_counted_kind (ap kind_of (viewed_type e.0)) ∙ counted) fault) _
                (λ bare m low high a true_there reached. (m, low, high, true_there, reached)) node.through place)

            single : IsSingle s e.0 → Read
            single node =
                subst (λ x. IsNotStuck (NodeClaims s store entry here h (element_of e.0.note.ctype) made) (evaluated store x))
                (sym (ap (λ o. read_at s.text.layout (element_of e.0.note.ctype) o (target_place s.text.layout e.0.note.ctype place v)) (no_count (element_of e.0.note.ctype) node.integer)))
                (single_claims s store entry next ready here h e.0 node.single node.declared place v left 0 (element_of e.0.note.ctype)
                (integer_part s.text.layout (element_of e.0.note.ctype) node.integer) node.integer made
                refl refl (λ b. refl) (ap (λ q. widening s.frame q ((view s.frame e.0).place 0 here.at.facts) here.at) (ap kind_of (viewed_type e.0) ∙ node.single)))

            several : IsElement e.0 → Read
            several node =
                read_claims globals s agrees declares store entry next ready here h (Node-F.Un op.Deref (view s.frame e.0)) e.0 (viewed_type e.0) node place Int v (Number 0) (λ x. Unit {0})
                left tt few fresh little are fault
                refl refl (λ b. refl) (ap kind_of (viewed_type e.0)) (λ x c j there a at f target. target_aims s store entry next ready here h e.0 fresh few little are x c j there a at f target)
    node_step (Node-F.Un op.Address e) note place row typed covered node checked address scalar fresh little are fault judged noted k strings runs =
        e.1.address typed here covered node h fresh little are (one_part (λ a. Node-F.Un op.Address a) (λ a b e. cc) _ e.0 judged) (unbroken (view s.frame e.0).no_address bounds_address place fault) note.ctype
        (address_row row.mode e.0.note.ctype note.ctype (some_if (has_address globals e.0) (ctype.Pointer (address_kind row.mode) e.0.note.ctype) note.ctype row.row)) (λ bare. kept m refl bare) k strings runs
      where
        -- An address that is no unchecked pointer is in checked code.
        kept : (q : Mode) → m ≡ q → is_raw_kind (kind_of note.ctype) ≡ false → m ≡ Checked
        kept Checked is bare = is
        kept Unchecked is bare = let raw : is_raw_kind (kind_of note.ctype) ≡ true = address is in absurd (cc)
    node_step (Node-F.Index e f) note place row typed covered node checked address scalar fresh little are fault judged noted k strings runs =
        subst (λ t. Of t (part_of e.0).ctype (part_of f.0).ctype) is (subst (λ u. Of (element_of e.0.note.ctype) u (part_of f.0).ctype) (sym (parted_type e.0)) (subst (λ q. Of (element_of e.0.note.ctype) e.0.note.ctype q) (sym (parted_type f.0))
        (λ runs. ⊎_elim (λ c. place_run m store s.text.layout (NodeClaims s store entry here h (element_of e.0.note.ctype) made) (element_of e.0.note.ctype) (count_of_kind (kind_of (element_of e.0.note.ctype))) there runs
        (λ a b. checked_element (left a) (right b) c)) (λ c. unchecked c.0 c.1 runs) node))) runs
      where
        parts : ((view s.frame e.0).judged fresh here.at ≡ Ok e.0) × ((view s.frame f.0).judged (fresh_behind (view s.frame e.0) fresh here.at) here.at ≡ Ok f.0)
        parts = two_parts (λ a b. Node-F.Index a b) (λ a b c d e. (cc, cc)) _ _ e.0 f.0 judged

        first : fresh + length ((view s.frame e.0).fresh here.at) < 2 ^ 32
        first = left_room fresh ((view s.frame e.0).fresh here.at) ((view s.frame f.0).fresh here.at) little

        scalars : (is_scalar e.0.note.ctype ≡ true) × (is_scalar f.0.note.ctype ≡ true)
        scalars = index_scalar e.0.note.ctype f.0.note.ctype note.ctype row.row

        is : element_of e.0.note.ctype ≡ note.ctype
        is = some_if (is_moved e.0.note.ctype && is_integer f.0.note.ctype) (element_of e.0.note.ctype) note.ctype row.row

        made : NodeView
        made = node_view s.frame (Node-F.Index (view s.frame e.0) (view s.frame f.0))

        v : Expr
        v = (part_of e.0).value s.text s.variables k

        w : Expr
        w = (part_of f.0).value s.text s.variables (k + (part_of e.0).literals)

        there : Place
        there = element_place s.text.layout e.0.note.ctype place (integer_of f.0.note.ctype) v w

        At : CType → CType → CType → Expr
        At t u q = read_at s.text.layout t (count_of_kind (kind_of t)) (element_place s.text.layout u place (integer_of q) v w)

        Of : CType → CType → CType → Type 0
        Of t u q = Runs m (evaluated store (At t u q)) → IsNotStuck (NodeClaims s store entry here h t made) (evaluated store (At t u q))

        Read : Type 0
        Read = IsNotStuck (NodeClaims s store entry here h (element_of e.0.note.ctype) made) (evaluated store (At (element_of e.0.note.ctype) e.0.note.ctype f.0.note.ctype))

        left : Runs m (evaluated store v) → IsNotStuck (ExprClaims s store entry here e.0) (evaluated store v)
        left runs = hypotheses.left_claims m globals s agrees declares store entry next ready here h e f typed covered scalars fresh first are k strings parts.0 runs

        right : Runs m (evaluated store w) → IsNotStuck (ExprClaims s store entry here f.0) (evaluated store w)
        right runs = hypotheses.right_claims m globals s agrees declares store entry next ready here h e f typed covered scalars fresh first are k strings here.at (right_room fresh ((view s.frame e.0).fresh here.at) ((view s.frame f.0).fresh here.at) little) parts.1 h runs

        kept : (widened : List ℕ) → (view s.frame e.0).fresh (record here.at { widened = widened }) ++ (view s.frame f.0).fresh (record here.at { widened = widened }) ≡ (view s.frame e.0).fresh here.at ++ (view s.frame f.0).fresh here.at
        kept widened = ap (λ us. us ++ (view s.frame f.0).fresh (record here.at { widened = widened })) (fresh_same s.frame e.0 here.at widened) ∙ ap (λ us. (view s.frame e.0).fresh here.at ++ us) (fresh_same s.frame f.0 here.at widened)

        unchecked : m ≡ Unchecked → IsRaw e.0 → Of (element_of e.0.note.ctype) e.0.note.ctype f.0.note.ctype
        unchecked mode raw runs =
            gives_meant m (NodeClaims s store entry here h (element_of e.0.note.ctype) made) (evaluated store (At (element_of e.0.note.ctype) e.0.note.ctype f.0.note.ctype)) mode
            (raw_read (element_of e.0.note.ctype) e.0.note.ctype (ap is_scalar is ∙ scalar) raw made refl refl (λ first facts. refl) kept (λ own first fresh widened. refl) (ap kind_of (viewed_type e.0)) refl (λ b. refl) there) runs

        checked_element : IsNotStuck (ExprClaims s store entry here e.0) (evaluated store v) → IsNotStuck (ExprClaims s store entry here f.0) (evaluated store w)
            → IsElement e.0 ⊎ (IsStructureElement e.0 ⊎ (IsPointerTarget s store e.0 × (kind_of e.0.note.ctype ≡ Some kind.Arr))) → Read
        checked_element a b = ⊎_elim several (⊎_elim structure pointer)
          where
            few : (view s.frame e.0).values + 1 < 2 ^ 32
            few = hypotheses.covered_few m globals s agrees declares store entry next ready here h e.0 covered.0

            several : IsElement e.0 → Read
            several node =
                read_claims globals s agrees declares store entry next ready here h (Node-F.Index (view s.frame e.0) (view s.frame f.0)) e.0 (viewed_type e.0) node place (integer_of f.0.note.ctype) v w (ExprClaims s store entry here f.0)
                a b few fresh first are fault refl refl (λ b. refl) (ap kind_of (viewed_type e.0))
                (λ x c j there n at g target. element_aims s store entry next ready here h e.0 fresh few first are x c (exact (integer_of f.0.note.ctype) j.number) (view s.frame f.0).form
                (hypotheses.index_of m globals s agrees declares store entry next ready here h f.0 typed.1 (k + (part_of e.0).literals) j there) n at (is_raw_kind (kind_of (view s.frame e.0).ctype))
                (ap is_raw_kind (ap kind_of (viewed_type e.0)) ∙ counted_checked (kind_of e.0.note.ctype) node.counted) g target)

            structure : IsStructureElement e.0 → Read
            structure node = absurd (no_structure (element_of e.0.note.ctype) (ap is_scalar is ∙ scalar) node.tag node.struct)

            pointer : IsPointerTarget s store e.0 × (kind_of e.0.note.ctype ≡ Some kind.Arr) → Read
            pointer node =
                pointee_claims s store entry next ready here h e.0.note.ctype node.0.pointer (through_bare s e.0.note.ctype node.0.through) node.0.free node.0.filled made
                refl refl (λ first facts. refl) kept (λ own first fresh widened. refl) (ap kind_of (viewed_type e.0)) refl (λ b. refl) there refl
                (element_reached s store entry next ready here h e.0 fresh few first are v a
                (λ counted. ranged_pointer s store entry next ready here h e.0 fresh few first are place (ap is_counted_kind (ap kind_of (viewed_type e.0)) ∙ counted) fault) _
                (λ bare m low high n true_there reached. (m, low, high, true_there, reached)) node.1 place (integer_of f.0.note.ctype) w (ExprClaims s store entry here f.0) b)
    node_step (Node-F.Arrow e n spot) note place row typed covered node checked address scalar fresh little are fault judged noted k strings runs =
        subst Of (sym (parted_type e.0)) (λ runs. ⊎_elim (⊎_elim (number (inner runs)) (pointer runs)) (λ c. unchecked c.0 c.1 runs) node) runs
      where
        made : NodeView
        made = node_view s.frame (Node-F.Arrow (view s.frame e.0) n spot)

        room : fresh + length ((view s.frame e.0).fresh here.at) < 2 ^ 32
        room = parts_room fresh ((view s.frame e.0).fresh here.at) (own_fresh note.ctype made here.at.facts) little

        few : (view s.frame e.0).values + 1 < 2 ^ 32
        few = hypotheses.covered_few m globals s agrees declares store entry next ready here h e.0 covered

        v : Expr
        v = (part_of e.0).value s.text s.variables k

        tag : ℕ
        tag = tag_of (element_of e.0.note.ctype)

        At : CType → Expr
        At u = read_at s.text.layout note.ctype (count_of_member s.text.layout (tag_of (element_of u)) n) (member_place s.text.layout (tag_of (element_of u)) n (target_place s.text.layout u place v))

        Of : CType → Type 0
        Of u = Runs m (evaluated store (At u)) → IsNotStuck (NodeClaims s store entry here h note.ctype made) (evaluated store (At u))

        Read : Type 0
        Read = IsNotStuck (NodeClaims s store entry here h note.ctype made) (evaluated store (At e.0.note.ctype))

        Loaded : Type 0
        Loaded = IsNotStuck (NodeClaims s store entry here h note.ctype made) (evaluated store (read_at s.text.layout note.ctype None (member_place s.text.layout tag n (target_place s.text.layout e.0.note.ctype place v))))

        inner : Runs m (evaluated store (At e.0.note.ctype)) → Runs m (evaluated store v)
        inner runs =
            pointer_runs m store (target_place s.text.layout e.0.note.ctype place v)
            (member_runs m store s.text.layout note.ctype (count_of_member s.text.layout tag n) tag n (target_place s.text.layout e.0.note.ctype place v) runs)

        inside : is_scalar e.0.note.ctype ≡ true → Runs m (evaluated store v) → IsNotStuck (ExprClaims s store entry here e.0) (evaluated store v)
        inside pointer runs = e.1.claims typed here covered pointer h fresh room are (one_part (λ a. Node-F.Arrow a n spot) (λ a b e. cc) _ e.0 judged) k strings runs

        ranged : is_counted_kind (kind_of e.0.note.ctype) ≡ true → (x : Value) → ExprClaims s store entry here e.0 x → IsRanged s store entry next ready here h e.0 fresh few room are x
        ranged counted = ranged_pointer s store entry next ready here h e.0 fresh few room are place (ap is_counted_kind (ap kind_of (viewed_type e.0)) ∙ counted) fault

        part : IsArrow s e.0 n note.ctype → IsPart s.text.layout (element_of e.0.note.ctype) (0 + offset_of s.text.layout tag (member_number n)) (width_of note.ctype)
        part node = member_behind s.text.layout (element_of e.0.note.ctype) n note.ctype node.member.number node.member.named node.member.there

        single : Runs m (evaluated store v) → IsArrow s e.0 n note.ctype → (kind_of e.0.note.ctype ≡ Some kind.One) × DeclareOnes s → Loaded
        single runs node one =
            single_claims s store entry next ready here h e.0 one.0 one.1 place v (inside (kind_scalar e.0.note.ctype kind.One one.0) runs) (0 + offset_of s.text.layout tag (member_number n)) note.ctype (part node) node.member.integer made refl refl (λ b. refl) refl

        several : Runs m (evaluated store v) → IsArrow s e.0 n note.ctype → is_counted_kind (kind_of e.0.note.ctype) ≡ true → Loaded
        several runs node counted =
            let left = inside (pointer_scalar e.0.note.ctype (counted_pointer e.0.note.ctype counted)) runs in
            element_claims s store entry next ready here h e.0 fresh few room are place Int v (Number 0) (λ x. Unit {0}) left tt counted (ranged counted)
            (0 + offset_of s.text.layout tag (member_number n)) note.ctype (part node) node.member.integer made refl refl (λ b. refl)
            (narrow_there s store entry next ready here h e.0 fresh few room are place Int v (Number 0) (λ x. Unit {0}) left tt counted (ranged counted)
            (0 + offset_of s.text.layout tag (member_number n)) note.ctype (part node) made refl)

        number : Runs m (evaluated store v) → IsArrow s e.0 n note.ctype → Read
        number runs node =
            subst (λ x. IsNotStuck (NodeClaims s store entry here h note.ctype made) (evaluated store x))
            (sym (ap (λ o. read_at s.text.layout note.ctype o (member_place s.text.layout tag n (target_place s.text.layout e.0.note.ctype place v))) node.member.bare)) (⊎_elim (several runs node) (single runs node) node.through)

        pointer : Runs m (evaluated store (At e.0.note.ctype)) → IsPointerArrow s store e.0 n note.ctype → Read
        pointer runs node =
            held_claims s store entry next ready here h (element_of e.0.note.ctype) note.ctype n node.member made (arrow_node s store here e.0 n spot note.ctype node.member (viewed_type e.0)) (target_place s.text.layout e.0.note.ctype place v)
            (target_structure s store entry next ready here h e.0 fresh few room are v (inside (through_scalar s e.0.note.ctype node.through) (inner runs)) ranged node.member.tag node.member.struct node.through place)

        unchecked : m ≡ Unchecked → IsIntegerMember s (element_of e.0.note.ctype) note.ctype n ⊎ IsPointerMember s store (element_of e.0.note.ctype) note.ctype n → Of e.0.note.ctype
        unchecked mode c runs =
            gives_meant m (NodeClaims s store entry here h note.ctype made) (evaluated store (At e.0.note.ctype)) mode
            (raw_part (element_of e.0.note.ctype) note.ctype n c made refl refl (λ b. refl) refl (λ c. arrow_node s store here e.0 n spot note.ctype c (viewed_type e.0)) (target_place s.text.layout e.0.note.ctype place v)) runs
    node_step (Node-F.Dot e n spot) note place row typed covered node checked address scalar fresh little are fault judged noted k strings runs = subst Of (sym (parted_type e.0)) (by_mode m refl) runs
      where
        made : NodeView
        made = node_view s.frame (Node-F.Dot (view s.frame e.0) n spot)

        there : Place
        there = (part_of e.0).place s.text s.variables k

        At : CType → Expr
        At u = read_at s.text.layout note.ctype (count_of_member s.text.layout (tag_of u) n) (member_place s.text.layout (tag_of u) n there)

        Of : CType → Type 0
        Of u = Runs m (evaluated store (At u)) → IsNotStuck (NodeClaims s store entry here h note.ctype made) (evaluated store (At u))

        held : IsDot s store e.0 n note.ctype → hypotheses.HoldsPlace m globals s agrees declares store entry next ready e.0.note.ctype (view s.frame e.0).behind there
        held node =
            e.1.place typed here covered node.operand node.tag node.struct h fresh (parts_room fresh ((view s.frame e.0).fresh here.at) (own_fresh note.ctype made here.at.facts) little) are (one_part (λ a. Node-F.Dot a n spot) (λ a b e. cc) _ e.0 judged) k strings

        -- in checked code, in a structure that is reached through no unchecked pointer
        checked_member : m ≡ Checked → IsDot s store e.0 n note.ctype → Of e.0.note.ctype
        checked_member mode node runs =
            ⊎_elim (λ member. integer_held s store entry next ready here h e.0.note.ctype note.ctype n member made refl refl refl (λ b. nothing_read s store entry (λ facts. None) b here.at) there place_there)
            (λ member. held_claims s store entry next ready here h e.0.note.ctype note.ctype n member made (dot_node s store here e.0 n spot note.ctype member (viewed_type e.0)) there place_there) node.member
          where
            place_there : IsStructurePlace store e.0.note.ctype there
            place_there = (held node).1 (not_raw m (is_raw_kind (view s.frame e.0).behind) mode (held node).0) (member_runs m store s.text.layout note.ctype (count_of_member s.text.layout (tag_of e.0.note.ctype) n) (tag_of e.0.note.ctype) n there runs)

        unchecked : m ≡ Unchecked → IsIntegerMember s e.0.note.ctype note.ctype n ⊎ IsPointerMember s store e.0.note.ctype note.ctype n → Of e.0.note.ctype
        unchecked mode c runs =
            gives_meant m (NodeClaims s store entry here h note.ctype made) (evaluated store (At e.0.note.ctype)) mode
            (raw_part e.0.note.ctype note.ctype n c made refl refl (λ b. refl) refl (λ c. dot_node s store here e.0 n spot note.ctype c (viewed_type e.0)) there) runs

        by_mode : (q : Mode) → m ≡ q → Of e.0.note.ctype
        by_mode Checked is = checked_member is (⊎_elim (λ c. c) (λ c. let other : m ≡ Unchecked = c.0 in absurd (cc)) node)
        by_mode Unchecked is = unchecked is (⊎_elim (λ (c : IsDot s store e.0 n note.ctype). c.member) (λ c. c.1.1) node)
    node_step (Node-F.Tested x e None) note place row typed covered node checked address scalar fresh little are fault judged noted k strings runs =
        subst (λ t. IsNotStuck (NodeClaims s store entry here h note.ctype (node_view s.frame (Node-F.Tested x (view s.frame e.0) None))) (evaluated store (Tested (size_behind s.text.layout t) Int place v (Number 1)))) row.row.2
        (one_claims s store entry here h x e.0 note.ctype (tested_pointer note.ctype e.0 tested) place v
        (e.1.claims typed here covered (operand_scalar m globals s store here note.ctype e.0 typed covered tested) h fresh first are left k inside (runs_first m (evaluated store v) (λ y. tests (size_behind s.text.layout (type_written x)) Int place y 1) runs))
        (operand_testable m globals s store here note.ctype e.0 typed covered tested agrees entry next ready h (only node) place fresh first are viewed_type fault k inside))
      where
        v : Expr
        v = (part_of e.0).value s.text s.variables k

        first : fresh + length ((view s.frame e.0).fresh here.at) < 2 ^ 32
        first = left_room fresh ((view s.frame e.0).fresh here.at) [] (parts_room fresh ((view s.frame e.0).fresh here.at ++ []) None little)

        left : (view s.frame e.0).judged fresh here.at ≡ Ok e.0
        left = (tested_parts x ((view s.frame e.0).judged fresh here.at) (Ok None) e.0 None judged).0

        tested : is_tested note.ctype e.0 ≡ true
        tested = subst (λ t. is_tested t e.0 ≡ true) (sym row.row.2) row.row.1

        inside : AreStrings s k (strings_of_expr e.0)
        inside = first_strings s e.0 [] k strings
    node_step (Node-F.Tested x e (Some l)) note place row typed covered node checked address scalar fresh little are fault judged noted k strings runs =
        casts.amount_step m globals s agrees declares store entry next ready here h x e.0 l note.ctype row.row.2 (limits_every (HasRow globals s) l.0 typed.1) (limits_every (IsCoveredExpr m s store here.seen) l.0 covered.1) fresh both are parts.1
        (k + (part_of e.0).literals) (later_strings s e.0 (strings_of_limits l.0) k strings) Goal
        (λ f u same counted w integer right index z inner is runs.
        both_meant m (NodeClaims s store entry here h note.ctype (made u)) (evaluated store v) (evaluated store z) (λ y c. tests (size_behind s.text.layout note.ctype) (integer_of f.note.ctype) place y c.number) runs
        (λ a b. amount_claims s store entry here h x e.0 note.ctype (tested_pointer note.ctype e.0 tested) place v
        (e.1.claims typed.0 here covered.0 (operand_scalar m globals s store here note.ctype e.0 typed.0 covered.0 tested) h fresh first are parts.0 k inside a)
        (operand_testable m globals s store here note.ctype e.0 typed.0 covered.0 tested agrees entry next ready h (only node) place fresh first are viewed_type fault k inside)
        f u same counted w integer (right (inner b)) index (no_limits (type_written x) note.ctype row.row.2 row.row.0) z is)) runs
      where
        v : Expr
        v = (part_of e.0).value s.text s.variables k

        made : LimitsView → NodeView
        made u = node_view s.frame (Node-F.Tested x (view s.frame e.0) (Some u))

        Goal : CType → LimitsView → Integer → Expr → Type 0
        Goal t u form z =
            Runs m (evaluated store (Tested (size_behind s.text.layout t) form place v z)) → IsNotStuck (NodeClaims s store entry here h note.ctype (made u)) (evaluated store (Tested (size_behind s.text.layout t) form place v z))

        both : fresh + length ((view s.frame e.0).fresh here.at ++ (view_of_limits s.frame l.0).fresh here.at) < 2 ^ 32
        both = parts_room fresh ((view s.frame e.0).fresh here.at ++ (view_of_limits s.frame l.0).fresh here.at) (own_fresh note.ctype (made (view_of_limits s.frame l.0)) here.at.facts) little

        first : fresh + length ((view s.frame e.0).fresh here.at) < 2 ^ 32
        first = left_room fresh ((view s.frame e.0).fresh here.at) ((view_of_limits s.frame l.0).fresh here.at) both

        parts : ((view s.frame e.0).judged fresh here.at ≡ Ok e.0) × (there_judged (Some (view_of_limits s.frame l.0)) (size_of s.frame.structs (element_of note.ctype)) (fresh_behind (view s.frame e.0) fresh here.at) here.at ≡ Ok (Some l.0))
        parts = tested_parts x _ _ e.0 (Some l.0) judged

        tested : is_tested note.ctype e.0 ≡ true
        tested = subst (λ t. is_tested t e.0 ≡ true) (sym row.row.2) row.row.1

        inside : AreStrings s k (strings_of_expr e.0)
        inside = first_strings s e.0 (strings_of_limits l.0) k strings
    node_step (Node-F.Trusted x e None) note place row typed covered node checked address scalar fresh little are fault judged noted k strings runs =
        subst (λ t. Runs m (evaluated store (At t)) → IsNotStuck (NodeClaims s store entry here h note.ctype made) (evaluated store (At t))) row.row.2
        (λ runs. gives_meant m (NodeClaims s store entry here h note.ctype made) (evaluated store (At note.ctype)) (unchecked_alone node) (trusted_one s store entry here h x e.0 note.ctype (and_parts (is_pointer note.ctype) _ same).0 v
        (e.1.claims typed here covered (same_scalar note.ctype e.0.note.ctype same).1 h fresh first are left k (first_strings s e.0 [] k strings) (runs_first m (evaluated store v) (λ y. trusts store (pointee_of s.text.layout note.ctype) Int y.number 1) runs))) runs) runs
      where
        v : Expr
        v = (part_of e.0).value s.text s.variables k

        made : NodeView
        made = node_view s.frame (Node-F.Trusted x (view s.frame e.0) None)

        At : CType → Expr
        At t = Trusted (pointee_of s.text.layout t) Int v (Number 1)

        first : fresh + length ((view s.frame e.0).fresh here.at) < 2 ^ 32
        first = left_room fresh ((view s.frame e.0).fresh here.at) [] (parts_room fresh ((view s.frame e.0).fresh here.at ++ []) None little)

        left : (view s.frame e.0).judged fresh here.at ≡ Ok e.0
        left = (trusted_parts x ((view s.frame e.0).judged fresh here.at) (Ok None) e.0 None judged).0

        same : same_element note.ctype e.0.note.ctype ≡ true
        same = subst (λ t. same_element t e.0.note.ctype ≡ true) (sym row.row.2) row.row.1
    node_step (Node-F.Trusted x e (Some l)) note place row typed covered node checked address scalar fresh little are fault judged noted k strings runs =
        casts.amount_step m globals s agrees declares store entry next ready here h x e.0 l note.ctype row.row.2 (limits_every (HasRow globals s) l.0 typed.1) (limits_every (IsCoveredExpr m s store here.seen) l.0 covered.1) fresh both are parts.1
        (k + (part_of e.0).literals) (later_strings s e.0 (strings_of_limits l.0) k strings) Goal
        (λ f u alike counted w integer right index z inner is runs.
        both_meant m (NodeClaims s store entry here h note.ctype (made u)) (evaluated store v) (evaluated store z) (λ y c. trusts store (pointee_of s.text.layout note.ctype) (integer_of f.note.ctype) y.number c.number) runs
        (λ a b. gives_meant m (NodeClaims s store entry here h note.ctype (made u)) (evaluated store (Trusted (pointee_of s.text.layout note.ctype) (integer_of f.note.ctype) v z)) (unchecked_alone node)
        (trusted_amount s store entry here h x e.0 note.ctype (and_parts (is_pointer note.ctype) _ same).0 v
        (e.1.claims typed.0 here covered.0 (same_scalar note.ctype e.0.note.ctype same).1 h fresh first are parts.0 k (first_strings s e.0 (strings_of_limits l.0) k strings) a)
        f u alike counted w integer (right (inner b)) index (no_limits (type_written x) note.ctype row.row.2 row.row.0) z is) runs)) runs
      where
        v : Expr
        v = (part_of e.0).value s.text s.variables k

        made : LimitsView → NodeView
        made u = node_view s.frame (Node-F.Trusted x (view s.frame e.0) (Some u))

        Goal : CType → LimitsView → Integer → Expr → Type 0
        Goal t u form z =
            Runs m (evaluated store (Trusted (pointee_of s.text.layout t) form v z)) → IsNotStuck (NodeClaims s store entry here h note.ctype (made u)) (evaluated store (Trusted (pointee_of s.text.layout t) form v z))

        both : fresh + length ((view s.frame e.0).fresh here.at ++ (view_of_limits s.frame l.0).fresh here.at) < 2 ^ 32
        both = parts_room fresh ((view s.frame e.0).fresh here.at ++ (view_of_limits s.frame l.0).fresh here.at) (own_fresh note.ctype (made (view_of_limits s.frame l.0)) here.at.facts) little

        first : fresh + length ((view s.frame e.0).fresh here.at) < 2 ^ 32
        first = left_room fresh ((view s.frame e.0).fresh here.at) ((view_of_limits s.frame l.0).fresh here.at) both

        parts : ((view s.frame e.0).judged fresh here.at ≡ Ok e.0) × (there_judged (Some (view_of_limits s.frame l.0)) (size_of s.frame.structs (element_of note.ctype)) (fresh_behind (view s.frame e.0) fresh here.at) here.at ≡ Ok (Some l.0))
        parts = trusted_parts x _ _ e.0 (Some l.0) judged

        same : same_element note.ctype e.0.note.ctype ≡ true
        same = subst (λ t. same_element t e.0.note.ctype ≡ true) (sym row.row.2) row.row.1
    node_step y note place row typed covered node checked address scalar fresh little are fault judged noted k strings runs = absurd (none_of node)
