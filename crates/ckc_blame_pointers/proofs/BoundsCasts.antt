-- The limits of a bounds cast count an amount, in elements, by their expression.
use Rattle.std.proofs.Common.{◌≡◌, inl, refl, sym, ap, subst, ◌∙◌, ℕ, ◌+◌, true, List, ◌++◌}
use Rattle.std.specs.Prelude.{◌<◌, ◌^◌, length, Some, Ok}
use Rattle.ckc_base.specs.declared.arithmetic.Mode.{Mode}
use Rattle.ckc_types.specs.declared.types.CType.{CType}
use Rattle.ckc_syntax.specs.declared.tree.Name.{Name}
use Rattle.ckc_syntax.specs.declared.tree.Limits.{Limits-F, out-Limits, fold_out-Limits}
use Rattle.ckc_syntax.specs.declared.tree.Node.{Node-F}
use Rattle.ckc_typed.specs.declared.environment.Globals.{Globals}
use Rattle.ckc_typed.specs.declared.typed.Note.{Note}
use Rattle.ckc_typed.specs.Constants.{size_of}
use Rattle.ckc_typed.specs.Trees.{NotedNode, NotedExpr, NotedLayer, TypeTree}
use Rattle.ckc_typed.specs.Statics.{strings_of_limits, strings_of_expr}
use Rattle.ckc_typed.specs.Types.{type_written, is_integer, element_of}
use Rattle.ckc_typed_welltyped.specs.Parts.{LimitsLayer}
use Rattle.ckc_typed_welltyped.proofs.Nodes.{limits_of}
use Rattle.ckc_blame_sound.specs.ckc_bounds_points.specs.Codes.{bad_limits}
use Rattle.ckc_blame_sound.specs.ckc_bounds_views.specs.Parts.{LimitsView, NodeView, View, NodeOfViews, fresh_behind}
use Rattle.ckc_blame_sound.specs.ckc_bounds_views.specs.Judged.{counts_bytes, there_judged}
use Rattle.ckc_blame_sound.specs.ckc_bounds_views.specs.Views.{limits_view, node_view, expr_view, view_of_limits, view}
use Rattle.ckc_blame_sound.specs.ckc_bounds_statements.specs.Paths.{Here}
use Rattle.ckc_source.specs.declared.outcome.Value.{Value}
use Rattle.ckc_source.specs.declared.expr.Integer.{Integer}
use Rattle.ckc_source.specs.Code.{Expr}
use Rattle.ckc_source.specs.Eval.{Store, evaluated}
use Rattle.ckc_source.specs.Words.{exact}
use Rattle.ckc_build_values.specs.Kinds.{integer_of, size_behind}
use Rattle.ckc_build_values.specs.Expressions.{Part, NodePart, LimitsPart, limits_parts, node_parts, expr_parts, part_of, part_of_limits}
use Rattle.ckc_build_values.specs.Operators.{elements_in}
use Rattle.ckc_blame_sound.specs.Settings.{Setting, AreStrings}
use Rattle.ckc_blame_sound.specs.Points.{HoldsAt}
use Rattle.ckc_blame_sound.specs.Typed.{HasRow, IsTyped, Agrees}
use Rattle.ckc_blame_sound.specs.Bodies.{AreFresh}
use Rattle.ckc_blame_pointers.specs.Covered.{DeclareLocals, IsSoundStore, IsCoveredExpr, AreCovered}
use Rattle.ckc_blame_pointers.specs.Meant.{IsNotStuck}
use Rattle.ckc_blame_pointers.specs.Owed.{Runs}
use Rattle.ckc_blame_pointers.proofs.Inside.{LimitsEvery, limits_layer, not_false, limits_part, no_ends, no_amount, some_there}
use Rattle.ckc_blame_pointers.proofs.Binary.{ExprClaims}
use Rattle.ckc_blame_pointers.proofs.Sums.{IsIndex}
use Rattle.ckc_blame_pointers.proofs.Later.{left_room, right_room}
use Rattle.ckc_blame_pointers.proofs.Unwidened.{fresh_same}
use Rattle.ckc_blame_pointers.proofs.Bytes.{IsAmount, bytes_amount}
use Rattle.ckc_blame_pointers.proofs.Scalars.{integer_scalar}
use Rattle.std.proofs.lemmas.Bool.{and_parts}
use Rattle.ckc_blame_pointers.proofs.Strings.{strings_in_limits, limits_strings_are}
use Rattle.ckc_blame_pointers.proofs.Hypotheses as hypotheses
use Rattle.ckc_blame_pointers.proofs.Runs.{elements_run}

module _ (m : Mode) (globals : Globals) (s : Setting) (agrees : Agrees globals s) (declares : DeclareLocals s) (store : Store) (entry : List ℕ) (next : ℕ) (ready : IsSoundStore s store next) where
  abbrev NodeHolds : NotedNode → Type 0
  NodeHolds = hypotheses.NodeHolds m globals s agrees declares store entry next ready

  abbrev ExprHolds : NotedExpr → Type 0
  ExprHolds = hypotheses.ExprHolds m globals s agrees declares store entry next ready

  abbrev PartsHold : LimitsLayer → Type 0
  PartsHold = hypotheses.PartsHold m globals s agrees declares store entry next ready

  abbrev KeptLimits : Type 0
  KeptLimits = hypotheses.KeptLimits m globals s agrees declares store entry next ready

  abbrev KeptNode : Type 0
  KeptNode = hypotheses.KeptNode m globals s agrees declares store entry next ready

  abbrev KeptExpr : Type 0
  KeptExpr = hypotheses.KeptExpr m globals s agrees declares store entry next ready

  abbrev IsNode : List ℕ → CType → NotedLayer → Type 0
  IsNode = hypotheses.IsNode m globals s agrees declares store entry next ready

  abbrev HasAddress : CType → NotedLayer → Type 0
  HasAddress = hypotheses.HasAddress m globals s agrees declares store entry next ready

  abbrev inner_node : Node-F Name Note KeptLimits KeptNode KeptExpr → NotedLayer
  inner_node = hypotheses.inner_node m globals s agrees declares store entry next ready

  abbrev viewed_node : NotedLayer → NodeOfViews
  viewed_node = hypotheses.viewed_node m globals s agrees declares store entry next ready

  abbrev viewed_limits : LimitsLayer → Limits-F Name Note LimitsView NodeView View
  viewed_limits = hypotheses.viewed_limits m globals s agrees declares store entry next ready

  abbrev part_node : NotedLayer → Node-F Name Note LimitsPart NodePart Part
  part_node = hypotheses.part_node m globals s agrees declares store entry next ready

  abbrev part_limits : LimitsLayer → Limits-F Name Note LimitsPart NodePart Part
  part_limits = hypotheses.part_limits m globals s agrees declares store entry next ready

  viewed_type : (e : NotedExpr) → (view s.frame e).ctype ≡ e.note.ctype
  viewed_type = hypotheses.viewed_type m globals s agrees declares store entry next ready

  parted_type : (e : NotedExpr) → (part_of e).ctype ≡ e.note.ctype
  parted_type = hypotheses.parted_type m globals s agrees declares store entry next ready

  module _ (here : Here) (h : HoldsAt s store entry here) (x : TypeTree) (e : NotedExpr) (l : KeptLimits) (t : CType) (same_type : t ≡ type_written x) where
    -- what is told of the amount that limits count, in elements
    abbrev IsTold : (CType → LimitsView → Integer → Expr → Type 0) → Type 0
    IsTold Goal = (f : NotedExpr) (v : LimitsView) → ((widened : List ℕ) → v.fresh (record here.at { widened = widened }) ≡ v.fresh here.at) → v.counted ≡ Some f.note.ctype → (w : Expr) → is_integer f.note.ctype ≡ true
        → (Runs m (evaluated store w) → IsNotStuck (ExprClaims s store entry here f) (evaluated store w))
        → ((c : Value) → evaluated store w ≡ Ok c → IsIndex s store entry here (exact (integer_of f.note.ctype) c.number) (view s.frame f).form)
        → (u : Expr) → (Runs m (evaluated store u) → Runs m (evaluated store w)) → IsAmount s here t f v w u → Goal t v (integer_of f.note.ctype) u

    abbrev size : ℕ
    size = size_of s.frame.structs (element_of t)

    pub amount_step : LimitsEvery (HasRow globals s) (out-Limits Name Note l.0) → LimitsEvery (IsCoveredExpr m s store here.seen) (out-Limits Name Note l.0) → (fresh : ℕ)
        → fresh + length ((view s.frame e).fresh here.at ++ (view_of_limits s.frame l.0).fresh here.at) < 2 ^ 32 → AreFresh s.frame fresh
        → there_judged (Some (view_of_limits s.frame l.0)) size (fresh_behind (view s.frame e) fresh here.at) here.at ≡ Ok (Some l.0) → (k : ℕ) → AreStrings s k (strings_of_limits l.0)
        → (Goal : CType → LimitsView → Integer → Expr → Type 0) → IsTold Goal
        → Goal (type_written x) (view_of_limits s.frame l.0) (part_of_limits l.0).form ((part_of_limits l.0).elements (size_behind s.text.layout (type_written x)) s.text s.variables k)
    amount_step typed covered fresh little are judged k strings Goal told =
        subst (λ v. At v (part_of_limits l.0)) (sym view_is) (subst (λ q. At (limits_view (viewed_limits layer)) q) (sym part_is)
        (by layer (limits_layer l.0 layer refl) l.1 typed covered
        (subst (λ (v : LimitsView). fresh + length ((view s.frame e).fresh here.at ++ v.fresh here.at) < 2 ^ 32) view_is little)
        (some_there _ l.0 (subst (λ v. there_judged (Some v) size (fresh_behind (view s.frame e) fresh here.at) here.at ≡ Ok (Some l.0)) view_is judged))
        (subst (λ xs. AreStrings s k xs) (limits_strings_are l.0) strings)))
      where
        layer : LimitsLayer
        layer = out-Limits Name Note l.0

        view_is : view_of_limits s.frame l.0 ≡ limits_view (viewed_limits layer)
        view_is = fold_out-Limits Name Note LimitsView NodeView View limits_view (node_view s.frame) expr_view l.0

        part_is : part_of_limits l.0 ≡ limits_parts (part_limits layer)
        part_is = fold_out-Limits Name Note LimitsPart NodePart Part limits_parts node_parts expr_parts l.0

        At : LimitsView → LimitsPart → Type 0
        At v q = Goal (type_written x) v q.form (q.elements (size_behind s.text.layout (type_written x)) s.text s.variables k)

        -- as many elements as an expression says
        by_count : (f : NotedExpr) → ExprHolds f → IsTyped globals s f → AreCovered m s store here.seen f → (v : LimitsView) → ((widened : List ℕ) → v.fresh (record here.at { widened = widened }) ≡ v.fresh here.at)
            → v.fresh here.at ≡ (view s.frame f).fresh here.at → v.counted ≡ Some f.note.ctype → fresh + length ((view s.frame e).fresh here.at ++ v.fresh here.at) < 2 ^ 32
            → (view s.frame f).judged (fresh_behind (view s.frame e) fresh here.at) here.at ≡ Ok f → is_integer (view s.frame f).ctype ≡ true → AreStrings s k (strings_of_expr f)
            → (w : CType → CType → Expr) → ((t u : CType) → Runs m (evaluated store (w t u)) → Runs m (evaluated store ((part_of f).value s.text s.variables k)))
            → (is_integer f.note.ctype ≡ true → IsAmount s here t f v ((part_of f).value s.text s.variables k) (w t f.note.ctype)) → Goal (type_written x) v (integer_of (part_of f).ctype) (w (type_written x) (part_of f).ctype)
        by_count f held rows covers v same needs counted little right whole within w inner amount =
            subst (λ t. Goal t v (integer_of (part_of f).ctype) (w t (part_of f).ctype)) same_type
            (subst (λ u. Goal t v (integer_of u) (w t u)) (sym (parted_type f))
            (told f v same counted ((part_of f).value s.text s.variables k) integer
            (λ runs. held.claims rows here covers (integer_scalar f.note.ctype integer) h (fresh_behind (view s.frame e) fresh here.at) second (hypotheses.are_on m globals s agrees declares store entry next ready here h e fresh first are) right k within runs)
            (λ c there. hypotheses.index_of m globals s agrees declares store entry next ready here h f rows k c there) (w t f.note.ctype) (inner t f.note.ctype) (amount integer)))
          where
            integer : is_integer f.note.ctype ≡ true
            integer = sym (ap is_integer (viewed_type f)) ∙ whole

            first : fresh + length ((view s.frame e).fresh here.at) < 2 ^ 32
            first = left_room fresh ((view s.frame e).fresh here.at) (v.fresh here.at) little

            second : fresh_behind (view s.frame e) fresh here.at + length ((view s.frame f).fresh here.at) < 2 ^ 32
            second = subst (λ us. fresh_behind (view s.frame e) fresh here.at + length us < 2 ^ 32) needs (right_room fresh ((view s.frame e).fresh here.at) (v.fresh here.at) little)

        by : (z : LimitsLayer) → l.0 ≡ limits_of z → PartsHold z → LimitsEvery (HasRow globals s) z → LimitsEvery (IsCoveredExpr m s store here.seen) z
            → fresh + length ((view s.frame e).fresh here.at ++ (limits_view (viewed_limits z)).fresh here.at) < 2 ^ 32
            → (limits_view (viewed_limits z)).judged size (fresh_behind (view s.frame e) fresh here.at) here.at ≡ Ok l.0
            → AreStrings s k (strings_in_limits z) → At (limits_view (viewed_limits z)) (limits_parts (part_limits z))
        by (Limits-F.Count f spot) is held rows covers little judged within =
            let right = limits_part (λ a. Limits-F.Count a spot) (λ a b e. cc) _ _ _ spot f (judged ∙ ap Ok is) in
            by_count f held rows covers (limits_view (viewed_limits (Limits-F.Count f spot))) (fresh_same s.frame f here.at) refl (ap Some (viewed_type f)) little right.0
            (not_false (is_integer (view s.frame f).ctype) right.1) within (λ t u. (part_of f).value s.text s.variables k) (λ t u runs. runs) (λ integer. inl (refl, refl))
        by (Limits-F.ByteCount f spot) is held rows covers little judged within =
            let right = limits_part (λ a. Limits-F.ByteCount a spot) (λ a b e. cc) _ _ _ spot f (judged ∙ ap Ok is) in
            let bytes = not_false (counts_bytes size (view s.frame f)) right.1 in
            by_count f held rows covers (limits_view (viewed_limits (Limits-F.ByteCount f spot))) (fresh_same s.frame f here.at) refl (ap Some (viewed_type f)) little right.0
            (and_parts (is_integer (view s.frame f).ctype) _ bytes).0 within (λ t u. elements_in (size_behind s.text.layout t) u spot ((part_of f).value s.text s.variables k))
            (λ t u runs. elements_run m store (size_behind s.text.layout t) u spot ((part_of f).value s.text s.variables k) runs) (λ integer. bytes_amount s here t f spot ((part_of f).value s.text s.variables k) agrees.structs integer bytes)
        by (Limits-F.Between f g spot) is held rows covers little judged within =
            absurd (no_ends ((view s.frame f).judged (fresh_behind (view s.frame e) fresh here.at) here.at) ((view s.frame g).judged (fresh_behind (view s.frame f) (fresh_behind (view s.frame e) fresh here.at) here.at) here.at) bad_limits spot l.0 judged)
        by (Limits-F.Unknown spot) is held rows covers little judged within = absurd (no_amount bad_limits spot l.0 judged)
