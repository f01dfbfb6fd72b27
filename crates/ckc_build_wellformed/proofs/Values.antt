-- What an expression becomes by judging means a well formed expression of the program, and a pointer of a checked kind with
-- a range gives one: by induction over the expression before it is judged.
use Rattle.std.proofs.Common.{◌≡◌, ◌∙◌, inl, inr, refl, sym, ap, subst, ℕ, suc, ◌+◌, Bool, true, false, List, [], ◌∷◌, ◌++◌, append_assoc, map, length}
use Rattle.std.specs.Prelude.{if◌then◌else◌, Option, Some, None, Ok, Err}
use Rattle.std.proofs.lemmas.Bool.{and_parts}
use Rattle.ckc_base.specs.declared.arithmetic.Mode.{Mode}
use Rattle.ckc_base.specs.declared.arithmetic.Mode.TheVariants.{Checked, Unchecked}
use Rattle.ckc_base.specs.declared.places.Refusal.{Refusal}
use Rattle.ckc_base.specs.Outcomes.{Outcome, bind}
use Rattle.ckc_types.specs.declared.types.Kind.{Kind}
use Rattle.ckc_types.specs.declared.types.Kind.TheVariants as kind
use Rattle.ckc_types.specs.declared.types.CType.{CType}
use Rattle.ckc_types.specs.declared.types.CType.TheVariants as ctype
use Rattle.ckc_syntax.specs.Inside.{inside_limits, listed}
use Rattle.ckc_syntax.specs.declared.tree.Name.{Name}
use Rattle.ckc_syntax.specs.declared.tree.Name.TheVariants as name
use Rattle.ckc_syntax.specs.declared.tree.TreeOp.{TreeOp}
use Rattle.ckc_syntax.specs.declared.tree.TreeOp.TheVariants as op
use Rattle.ckc_syntax.specs.declared.tree.Limits.{Limits-F, map-Limits, roll-Limits, fold-roll-Limits}
use Rattle.ckc_syntax.specs.declared.tree.Limits.TheVariants as limits
use Rattle.ckc_syntax.specs.declared.tree.Node.{Node-F, map-Node, out-Node, roll-Node, fold-roll-Node}
use Rattle.ckc_syntax.specs.declared.tree.Node.TheVariants as node
use Rattle.ckc_syntax.specs.declared.tree.Expr.{Expr-F, map-Expr, ind-Expr, roll-Expr, fold-roll-Expr, every_here-Expr}
use Rattle.ckc_typed.specs.declared.environment.Globals.{Globals}
use Rattle.ckc_typed.specs.declared.environment.Variable.{Variable}
use Rattle.ckc_typed.specs.declared.typed.Note.{Note}
use Rattle.ckc_typed.specs.declared.typed.Range.{Range}
use Rattle.ckc_typed.specs.declared.typed.Typed.{Typed}
use Rattle.ckc_typed.specs.Constants.{size_of}
use Rattle.ckc_typed.specs.Conversions.{is_null, is_terminated_kind}
use Rattle.ckc_typed.specs.Declarations.{is_checked_kind}
use Rattle.ckc_typed.specs.Statics.{Strings, expr_strings, node_strings, strings_of_expr, strings_of_limits}
use Rattle.ckc_typed.specs.Expressions.{string_type}
use Rattle.ckc_typed.specs.Trees.{NotedLimits, NotedNode, NotedExpr, NotedLayer}
use Rattle.ckc_typed.specs.Types.{type_written, is_integer, is_pointer, is_scalar, kind_of}
use Rattle.ckc_typed_welltyped.specs.Expressions.{AnyLimits, AnyNode, HasType}
use Rattle.ckc_typed_welltyped.proofs.Nodes.{node_out, limits_of, limits_rolled}
use Rattle.ckc_build_forms.specs.ckc_blame_steps.specs.ckc_bounds_points.specs.declared.frame.Frame.{Frame}
use Rattle.ckc_build_forms.specs.ckc_blame_steps.specs.ckc_bounds_points.specs.Codes.{bad_limits}
use Rattle.ckc_build_forms.specs.ckc_blame_steps.specs.ckc_bounds_points.specs.Flow.{State}
use Rattle.ckc_build_forms.specs.ckc_blame_steps.specs.ckc_bounds_views.specs.declared.variables.Own.{Own}
use Rattle.ckc_build_forms.specs.ckc_blame_steps.specs.ckc_bounds_views.specs.Parts.{LimitsView, View, NodeView, fresh_behind}
use Rattle.ckc_build_forms.specs.ckc_blame_steps.specs.ckc_bounds_views.specs.Conditions.{right_point}
use Rattle.ckc_build_forms.specs.ckc_blame_steps.specs.ckc_bounds_views.specs.Judged.{counts_elements, counts_bytes, limits_judged, all_judged, node_judged, by_fault, noted_range, expr_made}
use Rattle.ckc_build_forms.specs.ckc_blame_steps.specs.ckc_bounds_views.specs.Ranges.{pointer_range}
use Rattle.ckc_build_forms.specs.ckc_blame_steps.specs.ckc_bounds_views.specs.Views.{limits_view, node_view, expr_view, view_of_limits, view_of_node, view}
use Rattle.ckc_source.specs.declared.expr.Integer.{Integer}
use Rattle.ckc_source.specs.Code.{Expr, Number, Array, Choice, Tested, Trusted, Program}
use Rattle.ckc_build_values.specs.Kinds.{size_behind, pointee_of}
use Rattle.ckc_build_values.specs.Names.{address_of}
use Rattle.ckc_build_values.specs.Operators.{outside, cast, unary, of_operands}
use Rattle.ckc_build_values.specs.Places.{Place}
use Rattle.ckc_build_values.specs.Expressions.{Part, NodePart, LimitsPart, limits_parts, node_parts, expr_parts, form_if, part_of, part_of_node, part_of_limits}
use Rattle.ckc_build_forms.specs.ckc_blame_steps.specs.ckc_blame_sound.specs.Settings.{AreStrings, Setting}
use Rattle.ckc_build_forms.specs.ckc_blame_steps.specs.ckc_blame_sound.proofs.Every.{LimitsLayer, ExprLayer, EachLimits, EachNode, EachExpr, LimitsParts, NodeParts, AllEach, limits_hold, node_hold, inside}
use Rattle.ckc_build_forms.specs.ckc_blame_steps.specs.ckc_blame_sound.proofs.Judging.{Gives, bound}
use Rattle.ckc_source_causes.specs.Layouts.{Layout, NamesElements}
use Rattle.ckc_source_causes.specs.Ranges.{GivesRange}
use Rattle.ckc_source_causes.specs.WellFormed.{IsWellFormedExpr}
use Rattle.ckc_build_wellformed.proofs.Layouts.{layout_of}
use Rattle.ckc_build_wellformed.proofs.Ranges.{weaker_names}
use Rattle.ckc_build_wellformed.proofs.Nodes.{IsPlainFor, no_plain}
use Rattle.ckc_blame_pointers.proofs.Scalars.{integer_scalar, same_scalar, binary_scalar, choice_scalar, cast_scalar}
use Rattle.ckc_blame_pointers.proofs.Strings.{IsStringType, checked_string, expr_strings_are, raw_string, strings_in_limits, strings_of_node}
use Rattle.ckc_build_forms.proofs.StatementParts.{if_kept}
use Rattle.ckc_build_wellformed.proofs.Parts.{different, size_kind, unary_kind, other_kind, PlaceFormed, cast_formed, unary_formed, operands_formed, elements_formed}
use Rattle.ckc_build_wellformed.proofs.Scalars.{IsValue, IsValued, AreValued, arguments_valued, tested, unary_scalar}
use Rattle.ckc_build_wellformed.proofs.Claims as claims
use Rattle.ckc_build_wellformed.proofs.Known.{Knows, no_counted, noted_type, zero, number_kind, choice_kind, cast_kind}

module _ (globals : Globals) (s : Setting) (g : Program) (mode : Mode) (knows : Knows globals s g) where
  abbrev p : Typed
  p = s.text

  abbrev vs : List Variable
  vs = s.variables

  abbrev frame : Frame
  frame = s.frame

  abbrev L : Layout
  L = layout_of s.text.layout

  abbrev F : Expr → Type 0
  F = IsWellFormedExpr g L

  abbrev Q : CType → Place → Type 0
  Q = PlaceFormed g p.layout (mode ≡ Checked)

  -- the static objects from a number on are those of string literals
  abbrev S : ℕ → Strings → Type 0
  S k ss = AreStrings s k ss

  abbrev IsPart : ExprLayer → Type 0
  IsPart = claims.IsPart globals s g mode knows

  abbrev Holds : Type 0 → CType → (ℕ → ℕ → Range) → Expr → Type 0
  Holds = claims.Holds globals s g mode knows

  abbrev Reached : CType → (Own → ℕ → ℕ → Range) → Expr → Type 0
  Reached = claims.Reached globals s g mode knows

  abbrev AllFormed : List NotedExpr → Type 0
  AllFormed = claims.AllFormed globals s g mode knows

  abbrev MadeBy : View → NotedExpr → State → NotedExpr → Type 0
  MadeBy = claims.MadeBy globals s g mode knows

  abbrev Made : NotedExpr → State → NotedExpr → Type 0
  Made = claims.Made globals s g mode knows

  abbrev OperandBy : View → NotedExpr → State → NotedExpr → Type 0
  OperandBy = claims.OperandBy globals s g mode knows

  abbrev MadeOperand : NotedExpr → State → NotedExpr → Type 0
  MadeOperand = claims.MadeOperand globals s g mode knows

  abbrev Noted : CType → Range → Note → Type 0
  Noted = claims.Noted globals s g mode knows

  abbrev JudgedBy : NodeView → NotedLayer → CType → ℕ → State → NotedNode → Type 0
  JudgedBy = claims.JudgedBy globals s g mode knows

  abbrev Judged : NotedLayer → CType → ℕ → State → NotedNode → Type 0
  Judged = claims.Judged globals s g mode knows

  abbrev V : NotedLayer → NodeView
  V = claims.V globals s g mode knows

  abbrev R : NotedLayer → CType → State → ℕ → ℕ → Range
  R = claims.R globals s g mode knows

  abbrev viewed_limits : LimitsLayer → Limits-F Name Note LimitsView NodeView View
  viewed_limits = claims.viewed_limits globals s g mode knows

  abbrev viewed_node : NotedLayer → Node-F Name Note LimitsView NodeView View
  viewed_node = claims.viewed_node globals s g mode knows

  abbrev viewed_expr : ExprLayer → Expr-F Name Note LimitsView NodeView View
  viewed_expr = claims.viewed_expr globals s g mode knows

  abbrev part_limits : LimitsLayer → Limits-F Name Note LimitsPart NodePart Part
  part_limits = claims.part_limits globals s g mode knows

  record LimitsHold (l : NotedLimits) : Type 0 where
    pub judged : EachLimits IsPart l → (size fresh : ℕ) (at : State)
        → Gives (λ (m : NotedLimits). (n k : ℕ) → S k (strings_of_limits m) → F ((part_of_limits m).elements n p vs k)) ((view_of_limits frame l).judged size fresh at)

  record NodeHolds (n : NotedNode) : Type 0 where
    pub judged : EachNode IsPart n → (t : CType) → HasType globals vs mode (out-Node Name Note n) t → (fresh : ℕ) (at : State)
        → Gives (JudgedBy (view_of_node frame n) (out-Node Name Note n) t fresh at) ((view_of_node frame n).judged t fresh at)

  pub record ExprHolds (e : NotedExpr) : Type 0 where
    pub judged : EachExpr IsPart e → (fresh : ℕ) (at : State) → Gives (Made e at) ((view frame e).judged fresh at)
    pub operand : EachExpr IsPart e → (fresh : ℕ) (at : State) → Gives (MadeOperand e at) ((view frame e).operand fresh at)

  abbrev KeptLimits : Type 0
  KeptLimits = (l : NotedLimits) × LimitsHold l

  abbrev KeptNode : Type 0
  KeptNode = (n : NotedNode) × NodeHolds n

  abbrev KeptExpr : Type 0
  KeptExpr = (e : NotedExpr) × ExprHolds e

  abbrev inner_limits : Limits-F Name Note KeptLimits KeptNode KeptExpr → LimitsLayer
  inner_limits = map-Limits Name Note KeptLimits KeptNode KeptExpr NotedLimits NotedNode NotedExpr (λ e. e.0) (λ e. e.0) (λ e. e.0)

  abbrev inner_node : Node-F Name Note KeptLimits KeptNode KeptExpr → NotedLayer
  inner_node = map-Node Name Note KeptLimits KeptNode KeptExpr NotedLimits NotedNode NotedExpr (λ e. e.0) (λ e. e.0) (λ e. e.0)

  abbrev inner_expr : Expr-F Name Note KeptLimits KeptNode KeptExpr → ExprLayer
  inner_expr = map-Expr Name Note KeptLimits KeptNode KeptExpr NotedLimits NotedNode NotedExpr (λ e. e.0) (λ e. e.0) (λ e. e.0)

  -- ---- rows

  both_scalar : (o : TreeOp) (e i : NotedExpr) (t : CType) → EachExpr IsPart e → EachExpr IsPart i → HasType globals vs mode (Node-F.Bin o e i) t → (is_scalar e.note.ctype ≡ true) × (is_scalar i.note.ctype ≡ true)
  both_scalar o e i t w x row = binary_scalar e.note.ctype i.note.ctype t o (is_null e) (is_null i) (claims.null_of globals s g mode knows e w) (claims.null_of globals s g mode knows i x) row

  -- ---- nodes

  abbrev firsts : List KeptExpr → List NotedExpr
  firsts ks = map (λ (k : KeptExpr). k.0) ks

  -- as many arguments, each of them well formed
  abbrev Arguments : List NotedExpr → List NotedExpr → Type 0
  Arguments es fs = AllFormed fs × (length fs ≡ length es)

  arguments_step : (ks : List KeptExpr) → AllEach IsPart (firsts ks) → AreValued (firsts ks) → (fresh : ℕ) (at : State) → Gives (Arguments (firsts ks)) (all_judged (map (view frame) (firsts ks)) fresh at)
  arguments_step [] w v fresh at = (tt, refl)
  arguments_step (k ∷ ks) w v fresh at =
      bound (Made k.0 at) (Arguments (firsts (k ∷ ks))) _ _ (k.1.judged w.0 fresh at) (λ f h.
      bound (Arguments (firsts ks)) (Arguments (firsts (k ∷ ks))) _ _ (arguments_step ks w.1 v.1 _ at) (λ fs i. (((λ n str. (h.value n str).formed v.0), i.0), ap suc i.1)))

  abbrev Step : NotedLayer → CType → ℕ → State → Type 0
  Step x t fresh at = Gives (Judged x t fresh at) (node_judged frame (viewed_node x) t fresh at)

  abbrev Elements : NotedLimits → Type 0
  Elements m = (n k : ℕ) → S k (strings_of_limits m) → F ((part_of_limits m).elements n p vs k)

  -- bounds of a cast that there are
  some_limits : (P : NotedNode → Type 0) (l : KeptLimits) → EachLimits IsPart l.0 → (size fresh : ℕ) (at : State) (h : Option NotedLimits → Outcome NotedNode)
      → ((m : NotedLimits) → Elements m → Gives P (h (Some m))) → Gives P (bind (bind ((view_of_limits frame l.0).judged size fresh at) (λ k. Ok (Some k))) h)
  some_limits P l w size fresh at h next = by ((view_of_limits frame l.0).judged size fresh at) (l.1.judged w size fresh at)
    where
      by : (o : Outcome NotedLimits) → Gives Elements o → Gives P (bind (bind o (λ k. Ok (Some k))) h)
      by (Ok m) x = next m x
      by (Err r) x = tt

  -- ---- literals and casts

  number_null : (n : ℕ) (v : CType) → IsPlainFor {A = Note} {L = NotedLimits} {M = NotedNode} {E = NotedExpr} (Node-F.Number n false) v → n ≡ 0
  number_null n v (inl h) = zero n h
  number_null n v (inr h) = different h.0

  text_given : (bytes : List ℕ) (k : ℕ) (v : CType) → IsPlainFor {A = Note} {L = NotedLimits} {M = NotedNode} {E = NotedExpr} (Node-F.Text bytes) v
      → NamesElements g L ctype.Char true (address_of p k) (length bytes) → NamesElements g L v true (address_of p k) (length bytes)
  text_given bytes k v (inl h) there = different h
  text_given bytes k v (inr h) there = subst (λ u. NamesElements g L u true (address_of p k) (length bytes)) (sym h.1) there

  text_holds : (bytes : List ℕ) (t : CType) (at : State) (k : ℕ) → HasType globals vs mode (Node-F.Text bytes) t → NamesElements g L ctype.Char true (address_of p k) (length bytes)
      → Holds (IsValue (Node-F.Text bytes) t) t (R (Node-F.Text bytes) t at) (Array (address_of p k) (length bytes))
  text_holds bytes t at k row there = by mode row
    where
      formed : F (Array (address_of p k) (length bytes))
      formed = (ctype.Char, weaker_names g L ctype.Char true (address_of p k) (length bytes) there)

      nt_one : {X : Type 0} → ◌≡◌ {A = Option Kind} (Some kind.Nt) (Some kind.One) → X
      nt_one e = absurd cc

      by : (m : Mode) → t ≡ string_type m → Holds (IsValue (Node-F.Text bytes) t) t (R (Node-F.Text bytes) t at) (Array (address_of p k) (length bytes))
      by Checked is =
          let typed : IsStringType t = subst IsStringType (sym is) checked_string in
          claims.always globals s g mode knows t (R (Node-F.Text bytes) t at) (Array (address_of p k) (length bytes)) (λ v. formed)
          (subst (λ u. NamesElements g L u (is_terminated_kind (kind_of t)) (address_of p k) (length bytes)) (sym typed.element)
          (subst (λ z. NamesElements g L ctype.Char (is_terminated_kind z) (address_of p k) (length bytes)) (sym typed.kind_is) there))
          (λ one. nt_one (sym typed.kind_is ∙ one))
      by Unchecked is = claims.unchecked globals s g mode knows t (R (Node-F.Text bytes) t at) (Array (address_of p k) (length bytes)) (λ v. formed) (ap is_checked_kind (raw_string t is).kind_is)

  -- a bounds cast that is trusted, with so many elements
  trusted_holds : {V : Type 0} (t w : CType) (r : ℕ → ℕ → Range) (form : Integer) (v n : Expr) → t ≡ w → F v → F n → (kind_of w ≡ Some kind.One → n ≡ Number 1)
      → Holds V t r (Trusted (pointee_of p.layout w) form v n)
  trusted_holds {V} t w r form v n is h i one =
      subst (λ u. Holds V u r (Trusted (pointee_of p.layout w) form v n)) (sym is)
      (claims.always globals s g mode knows w r (Trusted (pointee_of p.layout w) form v n) (λ x. (h, i)) (record { element = refl; size = refl; ends = λ e. e }) one)

  three : (f j q : NotedExpr) (k : ℕ) → S k ((strings_of_expr f ++ strings_of_expr j) ++ strings_of_expr q)
      → S k (strings_of_expr f) × S (k + (part_of f).literals) (strings_of_expr j) × S (k + (part_of f).literals + (part_of j).literals) (strings_of_expr q)
  three f j q k str =
      let rest = claims.two globals s g mode knows f (strings_of_expr j ++ strings_of_expr q) k (subst (S k) (append_assoc (strings_of_expr f) (strings_of_expr j) (strings_of_expr q)) str) in
      let last = claims.two globals s g mode knows j (strings_of_expr q) (k + (part_of f).literals) rest.1 in
      (rest.0, last.0, last.1)

  node_step : (y : Node-F Name Note KeptLimits KeptNode KeptExpr) → NodeParts IsPart (inner_node y) → (t : CType) → HasType globals vs mode (inner_node y) t → (fresh : ℕ) (at : State) → Step (inner_node y) t fresh at
  node_step (Node-F.Number n u) w t row fresh at =
      claims.only globals s g mode knows (Node-F.Number n u) (Node-F.Number n u) t fresh at (refl, refl) tt refl (λ a pos noted fine k str. claims.no_kind globals s g mode knows t (R (Node-F.Number n u) t at) (Number n) (λ v. tt) (number_kind u t row)) (λ v h a pos k str. number_null n v h)
  node_step (Node-F.Text bytes) w t row fresh at =
      claims.only globals s g mode knows (Node-F.Text bytes) (Node-F.Text bytes) t fresh at (refl, refl) tt refl (λ a pos noted fine k str. text_holds bytes t at k row (knows.strings bytes k str.0)) (λ v h a pos k str. text_given bytes k v h (knows.strings bytes k str.0))
  node_step Node-F.Null w t row fresh at = claims.only globals s g mode knows Node-F.Null Node-F.Null t fresh at (refl, refl) tt refl (λ a pos noted fine k str. claims.always globals s g mode knows t (R Node-F.Null t at) (Number 0) (λ v. tt) refl (λ one. refl)) (λ v h a pos k str. refl)
  node_step (Node-F.Name (name.Local j)) w t row fresh at = claims.only globals s g mode knows (Node-F.Name (name.Local j)) (Node-F.Name (name.Local j)) t fresh at (refl, refl) tt refl (claims.local_holds globals s g mode knows j t fresh at row) (λ v h. no_plain h)
  node_step (Node-F.Name (name.Static j)) w t row fresh at = claims.made globals s g mode knows (Node-F.Name (name.Static j)) (Node-F.Name (name.Static j)) t fresh at (refl, refl) tt (claims.static_claims globals s g mode knows j t fresh at row)
  node_step (Node-F.Name n) w t row fresh at = claims.only globals s g mode knows (Node-F.Name n) (Node-F.Name n) t fresh at (refl, refl) tt refl (λ a pos noted fine k str. claims.always globals s g mode knows t (R (Node-F.Name n) t at) outside (λ v. tt) refl (λ one. refl)) (λ v h. no_plain h)
  node_step (Node-F.Un op.Deref e) w t row fresh at =
      bound (Made e.0 at) (Judged (Node-F.Un op.Deref e.0) t fresh at) _ _ (e.1.judged w fresh at) (λ f h.
      claims.made globals s g mode knows (Node-F.Un op.Deref e.0) (Node-F.Un op.Deref f) t fresh at (refl, refl) tt (claims.deref_claims globals s g mode knows e.0 f t fresh at w row h))
  node_step (Node-F.Un op.Address e) w t row fresh at =
      bound (MadeOperand e.0 at) (Judged (Node-F.Un op.Address e.0) t fresh at) _ _ (e.1.operand w fresh at) (λ f h.
      claims.only globals s g mode knows (Node-F.Un op.Address e.0) (Node-F.Un op.Address f) t fresh at (refl, refl) tt refl (claims.address_holds globals s g mode knows e.0 f t fresh at w row h) (λ v x. no_plain x))
  node_step (Node-F.Un o e) w t row fresh at =
      bound (Made e.0 at) (Judged (Node-F.Un o e.0) t fresh at) _ _ (e.1.judged w fresh at) (λ f h.
      claims.only globals s g mode knows (Node-F.Un o e.0) (Node-F.Un o f) t fresh at (refl, refl) tt refl
      (λ a pos noted fine k str. claims.no_kind globals s g mode knows t (R (Node-F.Un o e.0) t at) (unary o pos ((part_of f).value p vs k)) (λ v. unary_formed g p.layout o pos ((part_of f).value p vs k) ((h.value k str).formed (inr (unary_scalar o e.0.note.ctype t row)))) (unary_kind o e.0.note.ctype t row (λ x. absurd cc)))
      (λ v x. no_plain x))
  node_step (Node-F.Bin op.Add e i) w t row fresh at =
      bound (Made e.0 at) (Judged (Node-F.Bin op.Add e.0 i.0) t fresh at) _ _ (e.1.judged w.0 fresh at) (λ f h.
      bound (Made i.0 at) (Judged (Node-F.Bin op.Add e.0 i.0) t fresh at) _ _ (i.1.judged w.1 (fresh_behind (view frame e.0) fresh at) at) (λ j d.
      claims.only globals s g mode knows (Node-F.Bin op.Add e.0 i.0) (Node-F.Bin op.Add f j) t fresh at (refl, refl) tt refl (λ a pos noted fine k str. claims.add_holds globals s g mode knows e.0 f i.0 j t fresh at pos k h d str (both_scalar op.Add e.0 i.0 t w.0 w.1 row) row) (λ v x. no_plain x)))
  node_step (Node-F.Bin op.Sub e i) w t row fresh at =
      bound (Made e.0 at) (Judged (Node-F.Bin op.Sub e.0 i.0) t fresh at) _ _ (e.1.judged w.0 fresh at) (λ f h.
      bound (Made i.0 at) (Judged (Node-F.Bin op.Sub e.0 i.0) t fresh at) _ _ (i.1.judged w.1 (fresh_behind (view frame e.0) fresh at) at) (λ j d.
      claims.only globals s g mode knows (Node-F.Bin op.Sub e.0 i.0) (Node-F.Bin op.Sub f j) t fresh at (refl, refl) tt refl (λ a pos noted fine k str. claims.sub_holds globals s g mode knows e.0 f i.0 j t fresh at pos k h d str (both_scalar op.Sub e.0 i.0 t w.0 w.1 row) row) (λ v x. no_plain x)))
  node_step (Node-F.Bin o e i) w t row fresh at =
      bound (Made e.0 at) (Judged (Node-F.Bin o e.0 i.0) t fresh at) _ _ (e.1.judged w.0 fresh at) (λ f h.
      bound (Made i.0 (right_point o (view frame e.0) at)) (Judged (Node-F.Bin o e.0 i.0) t fresh at) _ _ (i.1.judged w.1 (fresh_behind (view frame e.0) fresh at) (right_point o (view frame e.0) at)) (λ j d.
      claims.only globals s g mode knows (Node-F.Bin o e.0 i.0) (Node-F.Bin o f j) t fresh at (refl, refl) tt refl
      (λ a pos noted fine k str. claims.no_kind globals s g mode knows t (R (Node-F.Bin o e.0 i.0) t at) (of_operands p.layout o (part_of f).ctype (part_of j).ctype pos ((part_of f).value p vs k) ((part_of j).value p vs (k + (part_of f).literals)))
      (λ v. (let both = both_scalar o e.0 i.0 t w.0 w.1 row in
      let apart = claims.two globals s g mode knows f (strings_of_expr j) k str in
      operands_formed g p.layout o (part_of f).ctype (part_of j).ctype pos ((part_of f).value p vs k) ((part_of j).value p vs (k + (part_of f).literals)) ((h.value k apart.0).formed (inr both.0))
      ((d.value (k + (part_of f).literals) apart.1).formed (inr both.1))))
      (other_kind o e.0.note.ctype (is_null e.0) i.0.note.ctype (is_null i.0) t (λ x. x) row)) (λ v x. no_plain x)))
  node_step (Node-F.Pick e i o) w t row fresh at =
      bound (Made e.0 at) (Judged (Node-F.Pick e.0 i.0 o.0) t fresh at) _ _ (e.1.judged w.0 fresh at) (λ f h.
      bound (Made i.0 at) (Judged (Node-F.Pick e.0 i.0 o.0) t fresh at) _ _ (i.1.judged w.1 _ at) (λ j d.
      bound (Made o.0 at) (Judged (Node-F.Pick e.0 i.0 o.0) t fresh at) _ _ (o.1.judged w.2 _ at) (λ q c.
      claims.only globals s g mode knows (Node-F.Pick e.0 i.0 o.0) (Node-F.Pick f j q) t fresh at (refl, refl) tt refl
      (λ a pos noted fine k str. claims.no_kind globals s g mode knows t (R (Node-F.Pick e.0 i.0 o.0) t at)
      (Choice ((part_of f).value p vs k) ((part_of j).value p vs (k + (part_of f).literals)) ((part_of q).value p vs (k + (part_of f).literals + (part_of j).literals)))
      (λ v. (let all = choice_scalar e.0.note.ctype i.0.note.ctype o.0.note.ctype t row in
      let apart = three f j q k str in (
        (h.value k apart.0).formed (inr all.0),
        (d.value (k + (part_of f).literals) apart.1).formed (inr all.1),
        (c.value (k + (part_of f).literals + (part_of j).literals) apart.2).formed (inr all.2),
      ))) (choice_kind e.0.note.ctype i.0.note.ctype o.0.note.ctype t row))
      (λ v x. no_plain x))))
  node_step (Node-F.Index e i) w t row fresh at =
      bound (Made e.0 at) (Judged (Node-F.Index e.0 i.0) t fresh at) _ _ (e.1.judged w.0 fresh at) (λ f h.
      bound (Made i.0 at) (Judged (Node-F.Index e.0 i.0) t fresh at) _ _ (i.1.judged w.1 _ at) (λ j d.
      claims.made globals s g mode knows (Node-F.Index e.0 i.0) (Node-F.Index f j) t fresh at (refl, refl) tt (claims.index_claims globals s g mode knows e.0 f i.0 j t fresh at w.0 row h d)))
  node_step (Node-F.Dot e n spot) w t row fresh at =
      bound (Made e.0 at) (Judged (Node-F.Dot e.0 n spot) t fresh at) _ _ (e.1.judged w fresh at) (λ f h.
      claims.made globals s g mode knows (Node-F.Dot e.0 n spot) (Node-F.Dot f n spot) t fresh at (refl, refl) tt (claims.dot_claims globals s g mode knows e.0 f n spot t fresh at w row h))
  node_step (Node-F.Arrow e n spot) w t row fresh at =
      bound (Made e.0 at) (Judged (Node-F.Arrow e.0 n spot) t fresh at) _ _ (e.1.judged w fresh at) (λ f h.
      claims.made globals s g mode knows (Node-F.Arrow e.0 n spot) (Node-F.Arrow f n spot) t fresh at (refl, refl) tt (claims.arrow_claims globals s g mode knows e.0 f n spot t fresh at w row h))
  node_step (Node-F.Cast x e) w t row fresh at =
      bound (Made e.0 at) (Judged (Node-F.Cast x e.0) t fresh at) _ _ (e.1.judged w fresh at) (λ f h.
      claims.only globals s g mode knows (Node-F.Cast x e.0) (Node-F.Cast x f) t fresh at (refl, refl) tt refl
      (λ a pos noted fine k str. claims.unchecked globals s g mode knows t (R (Node-F.Cast x e.0) t at) (cast (type_written x) (part_of f).ctype ((part_of f).value p vs k))
      (λ v. cast_formed g p.layout (type_written x) (part_of f).ctype ((part_of f).value p vs k) ((h.value k str).formed (inr (cast_scalar (type_written x) e.0.note.ctype (is_null e.0) (claims.null_of globals s g mode knows e.0 w) row.0)))) (ap (λ u. is_checked_kind (kind_of u)) row.1 ∙ cast_kind (type_written x) e.0.note.ctype (is_null e.0) row.0))
      (λ v x. no_plain x))
  node_step (Node-F.Size x) w t row fresh at =
      claims.only globals s g mode knows (Node-F.Size x) (Node-F.Size x) t fresh at (refl, refl) tt refl
      (λ a pos noted fine k str. claims.no_kind globals s g mode knows t (R (Node-F.Size x) t at) (Number (size_of p.layout (type_written x))) (λ v. tt) (size_kind (type_written x) t row)) (λ v x. no_plain x)
  node_step (Node-F.Trusted x e None) w t row fresh at =
      bound (Made e.0 at) (Judged (Node-F.Trusted x e.0 None) t fresh at) _ _ (e.1.judged w.0 fresh at) (λ f h.
      claims.only globals s g mode knows (Node-F.Trusted x e.0 None) (Node-F.Trusted x f None) t fresh at (refl, refl) tt refl
      (λ a pos noted fine k str. trusted_holds t (type_written x) (R (Node-F.Trusted x e.0 None) t at) (form_if None) ((part_of f).value p vs k) (Number 1) row.2
      ((h.value k (claims.two globals s g mode knows f [] k str).0).formed (inr (same_scalar (type_written x) e.0.note.ctype row.1).1)) tt (λ one. refl)) (λ v z. no_plain z))
  node_step (Node-F.Trusted x e (Some l)) w t row fresh at =
      bound (Made e.0 at) (Judged (Node-F.Trusted x e.0 (Some l.0)) t fresh at) _ _ (e.1.judged w.0 fresh at) (λ f h.
      some_limits (Judged (Node-F.Trusted x e.0 (Some l.0)) t fresh at) l w.1 _ _ at (λ m. Ok (node.Trusted x f m)) (λ m q.
      claims.only globals s g mode knows (Node-F.Trusted x e.0 (Some l.0)) (Node-F.Trusted x f (Some m)) t fresh at (refl, refl) tt refl
      (λ a pos noted fine k str. (let apart = claims.two globals s g mode knows f (strings_of_limits m) k str in
      trusted_holds t (type_written x) (R (Node-F.Trusted x e.0 (Some l.0)) t at) (part_of_limits m).form ((part_of f).value p vs k)
      ((part_of_limits m).elements (size_behind p.layout (type_written x)) p vs (k + (part_of f).literals)) row.2
      ((h.value k apart.0).formed (inr (same_scalar (type_written x) e.0.note.ctype row.1).1)) (q (size_behind p.layout (type_written x)) (k + (part_of f).literals) apart.1) (λ one. no_counted (type_written x) row.0 one))) (λ v z. no_plain z)))
  node_step (Node-F.Tested x e None) w t row fresh at =
      bound (Made e.0 at) (Judged (Node-F.Tested x e.0 None) t fresh at) _ _ (e.1.judged w.0 fresh at) (λ f h.
      claims.only globals s g mode knows (Node-F.Tested x e.0 None) (Node-F.Tested x f None) t fresh at (refl, refl) tt refl
      (λ a pos noted fine k str. claims.tested_holds globals s g mode knows e.0 f pos fresh at k h (claims.two globals s g mode knows f [] k str).0 fine t (type_written x) (R (Node-F.Tested x e.0 None) t at) (form_if None) pos (Number 1) row.2 row.1 (tested (type_written x) e.0 row.1) (λ v. tt) (λ one. refl))
      (λ v z. no_plain z))
  node_step (Node-F.Tested x e (Some l)) w t row fresh at =
      bound (Made e.0 at) (Judged (Node-F.Tested x e.0 (Some l.0)) t fresh at) _ _ (e.1.judged w.0 fresh at) (λ f h.
      some_limits (Judged (Node-F.Tested x e.0 (Some l.0)) t fresh at) l w.1 _ _ at (λ m. Ok (node.Tested x f m)) (λ m q.
      claims.only globals s g mode knows (Node-F.Tested x e.0 (Some l.0)) (Node-F.Tested x f (Some m)) t fresh at (refl, refl) tt refl
      (λ a pos noted fine k str. (let apart = claims.two globals s g mode knows f (strings_of_limits m) k str in
      claims.tested_holds globals s g mode knows e.0 f pos fresh at k h apart.0 fine t (type_written x) (R (Node-F.Tested x e.0 (Some l.0)) t at) (part_of_limits m).form pos
      ((part_of_limits m).elements (size_behind p.layout (type_written x)) p vs (k + (part_of f).literals)) row.2 row.1 (tested (type_written x) e.0 row.1)
      (λ v. q (size_behind p.layout (type_written x)) (k + (part_of f).literals) apart.1) (λ one. no_counted (type_written x) row.0 one)))
      (λ v z. no_plain z)))
  node_step (Node-F.Call n es) w t row fresh at =
      bound (Arguments (firsts es)) (Judged (inner_node (Node-F.Call n es)) t fresh at) _ _ (arguments_step es w (arguments_valued mode row.0.params (firsts es) row.2) fresh at) (λ fs h.
      claims.only globals s g mode knows (inner_node (Node-F.Call n es)) (Node-F.Call n fs) t fresh at (refl, ap (λ m. Some (n, m)) h.1) h.0 refl (λ a pos noted fine k str. claims.always globals s g mode knows t (R (inner_node (Node-F.Call n es)) t at) outside (λ v. tt) refl (λ one. refl)) (λ v x. no_plain x))
  node_step (Node-F.Calloc x e u) w t row fresh at =
      bound (Made e.0 at) (Judged (Node-F.Calloc x e.0 u) t fresh at) _ _ (e.1.judged w fresh at) (λ f h.
      claims.only globals s g mode knows (Node-F.Calloc x e.0 u) (Node-F.Calloc x f u) t fresh at (refl, refl) (λ k str. (h.value k str).formed (inr (integer_scalar e.0.note.ctype row.counted))) refl
      (λ a pos noted fine k str. claims.always globals s g mode knows t (R (Node-F.Calloc x e.0 u) t at) outside (λ v. tt) refl (λ one. refl)) (λ v z a pos k str. refl))

  -- ---- bounds of casts

  counted : (e : NotedExpr) → is_integer (view frame e).ctype ≡ true → IsValued e
  counted e h = inr (integer_scalar e.note.ctype (ap is_integer (sym (claims.view_type globals s g mode knows e)) ∙ h))

  limits_made : (y : LimitsLayer) → ((n k : ℕ) → S k (strings_in_limits y) → F ((limits_parts (part_limits y)).elements n p vs k)) → Elements (limits_of y)
  limits_made y h n k str =
      subst (λ (q : LimitsPart). F (q.elements n p vs k))
      (sym (ap part_of_limits (sym (limits_rolled y)) ∙ fold-roll-Limits Name Note LimitsPart NodePart Part limits_parts node_parts expr_parts y))
      (h n k (subst (S k) (ap strings_of_limits (sym (limits_rolled y)) ∙ fold-roll-Limits Name Note Strings Strings Strings (inside_limits listed (λ e. e)) node_strings expr_strings y) str))

  limits_step : (y : Limits-F Name Note KeptLimits KeptNode KeptExpr) → LimitsParts IsPart (inner_limits y) → (size fresh : ℕ) (at : State)
      → Gives Elements (limits_judged (viewed_limits (inner_limits y)) size fresh at)
  limits_step (Limits-F.Count e pos) w size fresh at =
      bound (Made e.0 at) Elements _ _ (e.1.judged w fresh at) (λ f h.
      if_kept Elements (counts_elements (view frame e.0)) bad_limits pos (Ok (limits.Count f pos)) (λ c. limits_made (Limits-F.Count f pos) (λ n k str. (h.value k str).formed (counted e.0 c))))
  limits_step (Limits-F.ByteCount e pos) w size fresh at =
      bound (Made e.0 at) Elements _ _ (e.1.judged w fresh at) (λ f h.
      if_kept Elements (counts_bytes size (view frame e.0)) bad_limits pos (Ok (limits.ByteCount f pos))
      (λ c. limits_made (Limits-F.ByteCount f pos) (λ n k str. elements_formed g p.layout n (part_of f).ctype pos ((part_of f).value p vs k)
      ((h.value k str).formed (counted e.0 (and_parts (is_integer (view frame e.0).ctype) _ c).0)))))
  limits_step (Limits-F.Between e i pos) w size fresh at = bound (Made e.0 at) Elements _ _ (e.1.judged w.0 fresh at) (λ f h. bound (Made i.0 at) Elements _ _ (i.1.judged w.1 _ at) (λ j d. tt))
  limits_step (Limits-F.Unknown pos) w size fresh at = tt

  limits_by : (x : LimitsLayer) (y : Limits-F Name Note KeptLimits KeptNode KeptExpr) → inner_limits y ≡ x → LimitsHold (roll-Limits Name Note x)
  limits_by x y is = record {
    judged = λ w size fresh at.
        subst (λ (q : LimitsView). Gives Elements (q.judged size fresh at))
        (sym (fold-roll-Limits Name Note LimitsView NodeView View limits_view (node_view frame) expr_view x ∙ ap (λ z. limits_view (viewed_limits z)) (sym is)))
        (limits_step y (subst (LimitsParts IsPart) (sym is) (limits_hold IsPart x w)) size fresh at);
  }

  node_by : (x : NotedLayer) (y : Node-F Name Note KeptLimits KeptNode KeptExpr) → inner_node y ≡ x → NodeHolds (roll-Node Name Note x)
  node_by x y is = record {
    judged = λ w t row fresh at.
        let P : NodeView → NotedLayer → Type 0 = λ q z. Gives (JudgedBy q z t fresh at) (q.judged t fresh at) in
        subst (P (view_of_node frame (roll-Node Name Note x))) (is ∙ sym (node_out x))
        (subst (λ q. P q (inner_node y)) (sym (fold-roll-Node Name Note LimitsView NodeView View limits_view (node_view frame) expr_view x ∙ ap (λ z. node_view frame (viewed_node z)) (sym is)))
        (node_step y (subst (NodeParts IsPart) (sym is) (node_hold IsPart x w)) t (subst (λ z. HasType globals vs mode z t) (node_out x ∙ sym is) row) fresh at));
  }

  -- ---- expressions

  not_faulted : {A : Type 0} (P : A → Type 0) (r : Option Refusal) (a : A) → (r ≡ None → P a) → Gives P (by_fault r (Ok a))
  not_faulted P None a h = h refl
  not_faulted P (Some r) a h = tt

  noted_is : (a : Note) (r : Range) → Noted a.ctype r (noted_range a r)
  noted_is a r = record { ctype = noted_type a r; range = λ h. by (is_pointer a.ctype) h }
    where
      by : (b : Bool) → b ≡ true → (if b then record a { range = r } else a).range ≡ r
      by true h = refl
      by false h = different h

  expr_is : (e : NotedExpr) → NodeHolds e.node → ExprHolds e
  expr_is e h =
      let W : View = expr_view (viewed_expr (record { node = e.node; pos = e.pos; note = e.note })) in
      let seen : view frame e ≡ W = fold-roll-Expr Name Note LimitsView NodeView View limits_view (node_view frame) expr_view (record { node = e.node; pos = e.pos; note = e.note }) in
      let N : NodeView = view_of_node frame e.node in
      let X : NotedLayer = out-Node Name Note e.node in
      let parted : (r : Range) (m : NotedNode) → part_of (expr_made e.pos e.note r m) ≡ expr_parts (record { node = part_of_node m; pos = e.pos; note = noted_range e.note r }) =
      λ r m. fold-roll-Expr Name Note LimitsPart NodePart Part limits_parts node_parts expr_parts (record { node = m; pos = e.pos; note = noted_range e.note r }) in
      let inner : (r : Range) (m : NotedNode) (k : ℕ) → S k (strings_of_expr (expr_made e.pos e.note r m)) → S k (strings_of_node m) =
      λ r m k str. subst (S k) (expr_strings_are (record { node = m; pos = e.pos; note = noted_range e.note r })) str in
      record {
        judged = λ w fresh at.
            let r : Range = pointer_range e.note.ctype N 0 fresh at in
            let a : Note = noted_range e.note r in
            subst (λ (q : View). Gives (MadeBy q e at) (q.judged fresh at)) (sym seen)
            (bound (JudgedBy N X e.note.ctype fresh at) (MadeBy W e at) _ _
            (h.judged (inside IsPart e w) e.note.ctype (every_here-Expr Name Note AnyLimits AnyNode IsPart e w).row fresh at) (λ m c.
            not_faulted (MadeBy W e at) (N.fault e.pos fresh at) (expr_made e.pos e.note r m) (λ fine. record {
              type = ap (λ (q : Part). q.ctype) (parted r m) ∙ noted_type e.note r;
              value = λ k str. subst (λ (q : Part). Holds (IsValued e) e.note.ctype (λ first next. W.range first next at) (q.value p vs k)) (sym (parted r m)) (c.claims.value a e.pos (noted_is e.note r) fine k (inner r m k str));
              plain = λ u it k str. subst (λ (q : Part). GivesRange g L u true (q.value p vs k)) (sym (parted r m)) (c.claims.plain u it a e.pos k (inner r m k str));
              place = λ it single k str. subst (λ (q : Part). Q e.note.ctype (q.place p vs k)) (sym (parted r m)) (c.claims.place it single a e.pos (noted_type e.note r) fine k (inner r m k str));
              same = c.same;
              parts = c.parts;
            })));
        operand = λ w fresh at.
            let r : Range = pointer_range e.note.ctype N 0 fresh at in
            let a : Note = noted_range e.note r in
            subst (λ (q : View). Gives (OperandBy q e at) (q.operand fresh at)) (sym seen)
            (bound (JudgedBy N X e.note.ctype fresh at) (OperandBy W e at) _ _
            (h.judged (inside IsPart e w) e.note.ctype (every_here-Expr Name Note AnyLimits AnyNode IsPart e w).row fresh at) (λ m c.
            not_faulted (OperandBy W e at) (N.operand_fault e.pos fresh at) (expr_made e.pos e.note r m) (λ fine. record {
              address = λ it single k str. subst (λ (q : Part). Reached e.note.ctype (λ own first next. W.address own first next at) (q.address p vs k)) (sym (parted r m)) (c.claims.address it single a e.pos (noted_type e.note r) fine k (inner r m k str));
            })));
      }

  expr_by : (x : ExprLayer) (y : Expr-F Name Note KeptLimits KeptNode KeptExpr) → inner_expr y ≡ x → ExprHolds (roll-Expr Name Note x)
  expr_by x y is = subst (λ z. ExprHolds (roll-Expr Name Note z)) is (expr_is (roll-Expr Name Note (inner_expr y)) y.node.1)

  pub expr_holds : (e : NotedExpr) → ExprHolds e
  expr_holds = ind-Expr Name Note LimitsHold NodeHolds ExprHolds limits_by node_by expr_by

  -- what an expression becomes
  pub judged_made : (e f : NotedExpr) (fresh : ℕ) (at : State) → EachExpr IsPart e → (view frame e).judged fresh at ≡ Ok f → Made e at f
  judged_made e f fresh at w is = by ((view frame e).judged fresh at) is ((expr_holds e).judged w fresh at)
    where
      by : (o : Outcome NotedExpr) → o ≡ Ok f → Gives (Made e at) o → Made e at f
      by (Ok z) q h = let same : z ≡ f = cc in subst (Made e at) same h
      by (Err r) q h = absurd cc
