-- What is said of what an expression becomes by judging: it means a well formed expression of the program, and a pointer of a
-- checked kind with a range gives one. Names, elements, members, addresses and sums.
use Rattle.std.proofs.Common.{◌≡◌, ◌⊎◌, ◌∙◌, inl, inr, refl, sym, ap, subst, ℕ, ◌+◌, Bool, true, false, List, [], ◌∷◌, ◌++◌}
use Rattle.std.specs.Prelude.{◌&&◌, if◌then◌else◌, Option, Some, None}
use Rattle.std.proofs.lemmas.Bool.{and_parts}
use Rattle.ckc_base.specs.declared.arithmetic.Mode.{Mode}
use Rattle.ckc_base.specs.declared.arithmetic.Mode.TheVariants.{Checked, Unchecked}
use Rattle.ckc_base.specs.declared.places.Pos.{Pos}
use Rattle.ckc_types.specs.declared.types.Kind.{Kind}
use Rattle.ckc_types.specs.declared.types.Kind.TheVariants as kind
use Rattle.ckc_types.specs.declared.types.CType.{CType, out-CType}
use Rattle.ckc_types.specs.declared.types.CType.TheVariants as ctype
use Rattle.ckc_syntax.specs.declared.tree.Name.{Name}
use Rattle.ckc_syntax.specs.declared.tree.Name.TheVariants as name
use Rattle.ckc_syntax.specs.declared.tree.TreeOp.{TreeOp}
use Rattle.ckc_syntax.specs.declared.tree.TreeOp.TheVariants as op
use Rattle.ckc_syntax.specs.declared.tree.Limits.{Limits-F, map-Limits}
use Rattle.ckc_syntax.specs.declared.tree.Node.{Node-F, map-Node, out-Node, fold-roll-Node}
use Rattle.ckc_syntax.specs.declared.tree.Expr.{Expr-F, map-Expr, fold-roll-Expr, every_here-Expr}
use Rattle.ckc_typed.specs.declared.environment.Globals.{Globals}
use Rattle.ckc_typed.specs.declared.environment.Variable.{Variable}
use Rattle.ckc_typed.specs.declared.typed.Note.{Note}
use Rattle.ckc_typed.specs.declared.typed.Range.{Range}
use Rattle.ckc_typed.specs.declared.typed.Range.TheVariants as range
use Rattle.ckc_typed.specs.declared.typed.Typed.{Typed}
use Rattle.ckc_typed.specs.Conversions.{is_null, is_tested, pointer_takes, kinds_allow, kind_is_tested, is_terminated_kind}
use Rattle.ckc_typed.specs.Declarations.{is_checked_kind}
use Rattle.ckc_typed.specs.Statics.{Strings, strings_of_expr}
use Rattle.ckc_typed.specs.Expressions.{address_kind, has_address}
use Rattle.ckc_typed.specs.Operands.{is_raw_kind, same_element}
use Rattle.ckc_typed.specs.Raw.{has_raw}
use Rattle.ckc_typed.specs.Trees.{NotedLimits, NotedNode, NotedExpr, NotedLayer}
use Rattle.ckc_typed.specs.Types.{is_pointer, is_scalar, kind_of, element_in, element_of}
use Rattle.ckc_typed_welltyped.specs.Expressions.{AnyLimits, AnyNode, HasType}
use Rattle.ckc_typed_welltyped.proofs.Nodes.{node_of, node_rolled, node_out}
use Rattle.ckc_build_forms.specs.ckc_blame_steps.specs.ckc_bounds_points.specs.declared.frame.Frame.{Frame}
use Rattle.ckc_build_forms.specs.ckc_blame_steps.specs.ckc_bounds_points.specs.Codes.{unknown_bounds}
use Rattle.ckc_build_forms.specs.ckc_blame_steps.specs.ckc_bounds_points.specs.Flow.{State}
use Rattle.ckc_build_forms.specs.ckc_blame_steps.specs.ckc_bounds_ranges.specs.Rows.{range_of_local}
use Rattle.ckc_build_forms.specs.ckc_blame_steps.specs.ckc_bounds_views.specs.declared.variables.Own.{Own}
use Rattle.ckc_build_forms.specs.ckc_blame_steps.specs.ckc_bounds_views.specs.Fresh.{member_in}
use Rattle.ckc_build_forms.specs.ckc_blame_steps.specs.ckc_bounds_views.specs.Parts.{LimitsView, View, NodeView, capped, fresh_behind}
use Rattle.ckc_build_forms.specs.ckc_blame_steps.specs.ckc_bounds_views.specs.Judged.{access_fault, is_counted_kind, is_missing}
use Rattle.ckc_build_forms.specs.ckc_blame_steps.specs.ckc_bounds_views.specs.Ranges.{pointer_range, range_of_name, range_of_member, range_of_operand, range_by_type, own_numbers}
use Rattle.ckc_build_forms.specs.ckc_blame_steps.specs.ckc_bounds_views.specs.Views.{limits_view, node_view, expr_view, view_of_limits, view_of_node, view}
use Rattle.ckc_source.specs.declared.expr.Count.{Count}
use Rattle.ckc_source.specs.declared.expr.Integer.{Integer}
use Rattle.ckc_source.specs.declared.expr.Integer.TheVariants as integer
use Rattle.ckc_source.specs.Code.{Expr, Number, Array, Tested, Program}
use Rattle.ckc_build_values.specs.Kinds.{integer_of, count_of_kind, size_behind, tag_of}
use Rattle.ckc_build_values.specs.Members.{count_of_member}
use Rattle.ckc_build_values.specs.Names.{address_of, array_of, bytes_of, count_of_static}
use Rattle.ckc_build_values.specs.Operators.{of_operands}
use Rattle.ckc_build_values.specs.Places.{Place, address_at, object_place, element_place, target_place, member_place, read_at}
use Rattle.ckc_build_values.specs.Expressions.{local_in, static_in, Part, NodePart, LimitsPart, limits_parts, node_parts, expr_parts, part_of, part_of_node, part_of_limits}
use Rattle.ckc_build_forms.specs.ckc_blame_steps.specs.ckc_blame_sound.specs.Settings.{AreStrings, Setting}
use Rattle.ckc_build_forms.specs.ckc_blame_steps.specs.ckc_blame_sound.proofs.Every.{LimitsLayer, ExprLayer, EachExpr}
use Rattle.ckc_source_causes.specs.Layouts.{Layout, NamesElements}
use Rattle.ckc_source_causes.specs.Ranges.{GivesOne, GivesRange}
use Rattle.ckc_source_causes.specs.WellFormed.{IsWellFormedExpr}
use Rattle.ckc_build_wellformed.proofs.Layouts.{layout_of}
use Rattle.ckc_build_wellformed.proofs.Ranges.{Leads, narrower, weaker, weaker_names}
use Rattle.ckc_build_wellformed.proofs.Nodes.{IsPlainFor, no_any, no_plain, is_there_form, is_there, name_in, call_in}
use Rattle.ckc_blame_pointers.proofs.Scalars.{pointer_scalar, index_scalar}
use Rattle.ckc_blame_pointers.proofs.Strings.{first_strings, later_strings, node_strings_are, strings_in_node, strings_of_node}
use Rattle.ckc_build_wellformed.proofs.Parts.{different, unlike, kind_fixed, kind_pointer, pointer_kind, pointer_out, sum_is, difference_is, index_given, index_pointer, HasCount, PlaceFormed, address_formed, address_gives, read_formed, element_formed, member_formed, fixed_count, member_count, operands_formed}
use Rattle.ckc_build_wellformed.proofs.Scalars.{IsValue, IsValued, arrow_pointer, null_scalar, struct_bare, taken_for, there_scalar}
use Rattle.ckc_build_wellformed.proofs.Structures.{dot_struct}
use Rattle.ckc_build_wellformed.proofs.Known.{Knows, KnowsMember, KnowsStatic, IsSingle, address_single, behind, elements_same, index_element, index_no_one, local_one, one_element, struct_single, object_formed, local_formed, local_gives, address_there, target_element, chosen, not_chosen, none_is, some_same, no_fault, counted_there, no_raw_kind, checked_pointer, if_true, count_missing, one_counts, target_pointer, if_first, if_second}

module _ (globals : Globals) (s : Setting) (g : Program) (mode : Mode) (knows : Knows globals s g) where
  abbrev pub p : Typed
  p = s.text

  abbrev pub vs : List Variable
  vs = s.variables

  abbrev pub frame : Frame
  frame = s.frame

  abbrev pub L : Layout
  L = layout_of s.text.layout

  abbrev pub F : Expr → Type 0
  F = IsWellFormedExpr g L

  -- The value of a pointer of a type gives a range of elements to which it points.
  abbrev pub Ranged : CType → Expr → Type 0
  Ranged t v = GivesRange g L (element_of t) (is_terminated_kind (kind_of t)) v

  -- the mode of checked code
  abbrev Safe : Type 0
  Safe = mode ≡ Checked

  abbrev pub Q : CType → Place → Type 0
  Q = PlaceFormed g p.layout Safe

  -- the static objects from a number on are those of string literals
  abbrev pub S : ℕ → Strings → Type 0
  S k ss = AreStrings s k ss

  -- what is known of each expression before it is judged
  pub record IsPart (x : ExprLayer) : Type 0 where
    pub row : HasType globals vs mode (out-Node Name Note x.node) x.note.ctype
    pub safe : mode ≡ Checked → has_raw x.note.ctype ≡ false

  -- The value of an expression of a type whose range is one of these: it is well formed where it is asked for, and gives a
  -- range if it is a checked pointer with a range; if it is a `_Ptr`, that of one element.
  pub record Holds (Asked : Type 0) (t : CType) (ranges : ℕ → ℕ → Range) (v : Expr) : Type 0 where
    pub formed : Asked → F v
    pub ranged : is_checked_kind (kind_of t) ≡ true → (first fresh : ℕ) → is_missing (ranges first fresh) ≡ false → Ranged t v
    pub single : kind_of t ≡ Some kind.One → Ranged t v × GivesOne v

  -- the same of an address of what has a type
  pub record Reached (t : CType) (ranges : Own → ℕ → ℕ → Range) (a : Expr) : Type 0 where
    pub formed : F a
    pub ranged : mode ≡ Checked → (own : Own) (first fresh : ℕ) → is_missing (ranges own first fresh) ≡ false → GivesRange g L t false a

  -- the arguments of a call are well formed, and so is the count of a new block
  abbrev pub AllFormed : List NotedExpr → Type 0
  AllFormed [] = Unit {0}
  AllFormed (e ∷ es) = ((k : ℕ) → S k (strings_of_expr e) → F ((part_of e).value p vs k)) × AllFormed es

  abbrev pub PartsFormed : NotedLayer → Type 0
  PartsFormed (Node-F.Call n es) = AllFormed es
  PartsFormed (Node-F.Calloc w e u) = (k : ℕ) → S k (strings_of_expr e) → F ((part_of e).value p vs k)
  PartsFormed x = Unit {0}

  -- a node has the name of another one, and calls what that calls
  abbrev pub IsSame : NotedLayer → NotedLayer → Type 0
  IsSame x y = (name_in y ≡ name_in x) × (call_in y ≡ call_in x)

  -- what an expression becomes, by what is said of it
  pub record MadeBy (w : View) (e : NotedExpr) (at : State) (f : NotedExpr) : Type 0 where
    pub type : (part_of f).ctype ≡ e.note.ctype
    pub value : (k : ℕ) → S k (strings_of_expr f) → Holds (IsValued e) e.note.ctype (λ first fresh. w.range first fresh at) ((part_of f).value p vs k)
    pub plain : (t : CType) → IsPlainFor (out-Node Name Note e.node) t → (k : ℕ) → S k (strings_of_expr f) → GivesRange g L t true ((part_of f).value p vs k)
    pub place : is_there e ≡ true → IsSingle p (out-Node Name Note e.node) → (k : ℕ) → S k (strings_of_expr f) → Q e.note.ctype ((part_of f).place p vs k)
    pub same : IsSame (out-Node Name Note e.node) (out-Node Name Note f.node)
    pub parts : PartsFormed (out-Node Name Note f.node)

  abbrev pub Made : NotedExpr → State → NotedExpr → Type 0
  Made e at f = MadeBy (view frame e) e at f

  -- what the operand of `&` becomes
  pub record OperandBy (w : View) (e : NotedExpr) (at : State) (f : NotedExpr) : Type 0 where
    pub address : is_there e ≡ true → IsSingle p (out-Node Name Note e.node) → (k : ℕ) → S k (strings_of_expr f)
        → Reached e.note.ctype (λ own first fresh. w.address own first fresh at) ((part_of f).address p vs k)

  abbrev pub MadeOperand : NotedExpr → State → NotedExpr → Type 0
  MadeOperand e at f = OperandBy (view frame e) e at f

  -- the note of what is judged
  pub record Noted (t : CType) (r : Range) (a : Note) : Type 0 where
    pub ctype : a.ctype ≡ t
    pub range : is_pointer t ≡ true → a.range ≡ r

  -- what a node becomes that has these string literals, by what is said of it
  pub record Claims (w : NodeView) (x : NotedLayer) (t : CType) (fresh : ℕ) (at : State) (q : NodePart) (ss : Strings) : Type 0 where
    pub value : (a : Note) (pos : Pos) → Noted t (pointer_range t w 0 fresh at) a → w.fault pos fresh at ≡ None → (k : ℕ) → S k ss
        → Holds (IsValue x t) t (λ first next. pointer_range t w first next at) (q.value a pos p vs k)
    pub plain : (u : CType) → IsPlainFor x u → (a : Note) (pos : Pos) (k : ℕ) → S k ss → GivesRange g L u true (q.value a pos p vs k)
    pub place : is_there_form x ≡ true → IsSingle p x → (a : Note) (pos : Pos) → a.ctype ≡ t → w.fault pos fresh at ≡ None → (k : ℕ) → S k ss → Q t (q.place a pos p vs k)
    pub address : is_there_form x ≡ true → IsSingle p x → (a : Note) (pos : Pos) → a.ctype ≡ t → w.operand_fault pos fresh at ≡ None → (k : ℕ) → S k ss
        → Reached t (λ own first next. w.address own first next at) (q.address a pos p vs k)

  pub record JudgedBy (w : NodeView) (x : NotedLayer) (t : CType) (fresh : ℕ) (at : State) (m : NotedNode) : Type 0 where
    pub claims : Claims w x t fresh at (part_of_node m) (strings_of_node m)
    pub same : IsSame x (out-Node Name Note m)
    pub parts : PartsFormed (out-Node Name Note m)

  abbrev pub viewed_limits : LimitsLayer → Limits-F Name Note LimitsView NodeView View
  viewed_limits = map-Limits Name Note NotedLimits NotedNode NotedExpr LimitsView NodeView View (view_of_limits frame) (view_of_node frame) (view frame)

  abbrev pub viewed_node : NotedLayer → Node-F Name Note LimitsView NodeView View
  viewed_node = map-Node Name Note NotedLimits NotedNode NotedExpr LimitsView NodeView View (view_of_limits frame) (view_of_node frame) (view frame)

  abbrev pub viewed_expr : ExprLayer → Expr-F Name Note LimitsView NodeView View
  viewed_expr = map-Expr Name Note NotedLimits NotedNode NotedExpr LimitsView NodeView View (view_of_limits frame) (view_of_node frame) (view frame)

  abbrev pub part_limits : LimitsLayer → Limits-F Name Note LimitsPart NodePart Part
  part_limits = map-Limits Name Note NotedLimits NotedNode NotedExpr LimitsPart NodePart Part part_of_limits part_of_node part_of

  abbrev part_node : NotedLayer → Node-F Name Note LimitsPart NodePart Part
  part_node = map-Node Name Note NotedLimits NotedNode NotedExpr LimitsPart NodePart Part part_of_limits part_of_node part_of

  -- ---- what is said of an expression, by its layer

  pub view_type : (e : NotedExpr) → (view frame e).ctype ≡ e.note.ctype
  view_type e = ap (λ (q : View). q.ctype) (fold-roll-Expr Name Note LimitsView NodeView View limits_view (node_view frame) expr_view (record { node = e.node; pos = e.pos; note = e.note }))

  abbrev pub V : NotedLayer → NodeView
  V x = node_view frame (viewed_node x)

  abbrev pub Judged : NotedLayer → CType → ℕ → State → NotedNode → Type 0
  Judged x t fresh at m = JudgedBy (V x) x t fresh at m

  node_is : (y : NotedLayer) → out-Node Name Note (node_of y) ≡ y
  node_is y = ap (out-Node Name Note) (sym (node_rolled y)) ∙ node_out y

  pub made : (x y : NotedLayer) (t : CType) (fresh : ℕ) (at : State) → IsSame x y → PartsFormed y → Claims (V x) x t fresh at (node_parts (part_node y)) (strings_in_node y) → Judged x t fresh at (node_of y)
  made x y t fresh at same parts h = record {
    claims =
        subst (λ ss. Claims (V x) x t fresh at (part_of_node (node_of y)) ss) (sym (ap strings_of_node (sym (node_rolled y)) ∙ node_strings_are y))
        (subst (λ q. Claims (V x) x t fresh at q (strings_in_node y))
        (sym (ap part_of_node (sym (node_rolled y)) ∙ fold-roll-Node Name Note LimitsPart NodePart Part limits_parts node_parts expr_parts y)) h);
    same = subst (λ z. IsSame x z) (sym (node_is y)) same;
    parts = subst PartsFormed (sym (node_is y)) parts;
  }

  -- the string literals of two parts
  pub two : (f : NotedExpr) (ss : Strings) (k : ℕ) → S k (strings_of_expr f ++ ss) → S k (strings_of_expr f) × S (k + (part_of f).literals) ss
  two f ss k a = (first_strings s f ss k a, later_strings s f ss k a)

  -- ---- values

  -- of what is no checked pointer
  pub unchecked : {V : Type 0} (t : CType) (r : ℕ → ℕ → Range) (v : Expr) → (V → F v) → is_checked_kind (kind_of t) ≡ false → Holds V t r v
  unchecked t r v h off = record {
    formed = h;
    ranged = λ c first fresh m. unlike (sym c ∙ off);
    single = λ is. unlike (sym (ap is_checked_kind is) ∙ off);
  }

  pub no_kind : {V : Type 0} (t : CType) (r : ℕ → ℕ → Range) (v : Expr) → (V → F v) → kind_of t ≡ None → Holds V t r v
  no_kind t r v h off = unchecked t r v h (ap is_checked_kind off)

  -- of what gives a range in any case
  pub always : {V : Type 0} (t : CType) (r : ℕ → ℕ → Range) (v : Expr) → (V → F v) → Ranged t v → (kind_of t ≡ Some kind.One → GivesOne v) → Holds V t r v
  always t r v h give one = record { formed = h; ranged = λ c first fresh m. give; single = λ is. (give, one is) }

  -- of what is read with a number of elements, if it is known
  read_holds : {V : Type 0} (t : CType) (r : ℕ → ℕ → Range) (c : Option Count) (q : Place) → Q t q → (V → is_scalar t ≡ true)
      → ((n : Count) → c ≡ Some n → (is_pointer t ≡ true) × HasCount g p.layout t q n)
      → (is_checked_kind (kind_of t) ≡ true → c ≡ None → (first fresh : ℕ) → is_missing (r first fresh) ≡ true) → (kind_of t ≡ Some kind.One → c ≡ one_element) → Holds V t r (read_at p.layout t c q)
  read_holds t r (Some c) q h scalar counts missing single =
      always t r (read_at p.layout t (Some c) q) (λ v. read_formed g p.layout Safe t (Some c) q h (scalar v) counts) (record { element = refl; size = refl; ends = λ e. e }) (λ is. some_same (single is))
  read_holds t r None q h scalar counts missing single = record {
    formed = λ v. read_formed g p.layout Safe t None q h (scalar v) counts;
    ranged = λ c first fresh m. unlike (sym (missing c refl first fresh) ∙ m);
    single = λ is. none_is (single is);
  }

  row_of : (e : NotedExpr) → EachExpr IsPart e → HasType globals vs mode (out-Node Name Note e.node) e.note.ctype
  row_of e w = (every_here-Expr Name Note AnyLimits AnyNode IsPart e w).row

  pub null_of : (e : NotedExpr) → EachExpr IsPart e → is_null e ≡ true → is_scalar e.note.ctype ≡ true
  null_of e w h = null_scalar globals vs mode (out-Node Name Note e.node) e.note.ctype (row_of e w) h

  -- ---- accesses

  ranged_there : (e : NotedExpr) (pos : Pos) (fresh : ℕ) (at : State) → access_fault (view frame e) pos fresh at ≡ None → is_counted_kind (kind_of e.note.ctype) ≡ true
      → is_missing ((view frame e).range 0 fresh at) ≡ false
  ranged_there e pos fresh at fine counted =
      counted_there (is_counted_kind (kind_of (view frame e).ctype)) (is_missing ((view frame e).range 0 fresh at)) (ap (λ t. is_counted_kind (kind_of t)) (view_type e) ∙ counted)
      (no_fault (is_counted_kind (kind_of (view frame e).ctype) && is_missing ((view frame e).range 0 fresh at)) unknown_bounds pos fine)

  -- an access through an expression that is not refused, with an index
  leads : (e f : NotedExpr) (pos : Pos) (fresh : ℕ) (at : State) (k : ℕ) (i : Expr) → Made e at f → S k (strings_of_expr f) → access_fault (view frame e) pos fresh at ≡ None
      → (kind_of e.note.ctype ≡ Some kind.One → i ≡ Number 0) → Leads g L (kind_of e.note.ctype) (element_of e.note.ctype) ((part_of f).value p vs k) i
  leads e f pos fresh at k i h str fine first = record {
    one = λ is. (let o = (h.value k str).single is in (weaker g L (element_of e.note.ctype) (is_terminated_kind (kind_of e.note.ctype)) ((part_of f).value p vs k) o.0, o.1, first is));
    array = λ is. subst (λ b. GivesRange g L (element_of e.note.ctype) b ((part_of f).value p vs k)) (ap is_terminated_kind is) (there (ap is_checked_kind is) (ap is_counted_kind is));
    terminated = λ is. subst (λ b. GivesRange g L (element_of e.note.ctype) b ((part_of f).value p vs k)) (ap is_terminated_kind is) (there (ap is_checked_kind is) (ap is_counted_kind is));
  }
    where
      there : is_checked_kind (kind_of e.note.ctype) ≡ true → is_counted_kind (kind_of e.note.ctype) ≡ true → Ranged e.note.ctype ((part_of f).value p vs k)
      there c counted = (h.value k str).ranged c 0 fresh (ranged_there e pos fresh at fine counted)

  -- ---- what is tested gives a range

  module _ (e f : NotedExpr) (pos : Pos) (fresh : ℕ) (at : State) (k : ℕ) (h : Made e at f) (str : S k (strings_of_expr f)) (fine : access_fault (view frame e) pos fresh at ≡ None) where
    abbrev Given : Bool → Type 0
    Given b = GivesRange g L (element_of e.note.ctype) b ((part_of f).value p vs k)

    lesser : (b c : Bool) → (b ≡ false) ⊎ (c ≡ true) → Given c → Given b
    lesser b c (inl is) give = subst Given (sym is) (weaker g L (element_of e.note.ctype) c ((part_of f).value p vs k) give)
    lesser b c (inr is) give = narrower g L (element_of e.note.ctype) b ((part_of f).value p vs k) (subst Given is give)

    several : (c d : Kind) → kind_of e.note.ctype ≡ Some c → is_counted_kind (Some c) ≡ true → is_checked_kind (Some c) ≡ true
        → (is_terminated_kind (Some d) ≡ false) ⊎ (is_terminated_kind (Some c) ≡ true) → Given (is_terminated_kind (Some d))
    several c d is counted checked ends =
        lesser (is_terminated_kind (Some d)) (is_terminated_kind (Some c)) ends
        (subst (λ z. Given (is_terminated_kind z)) is
        ((h.value k str).ranged (ap is_checked_kind is ∙ checked) 0 fresh (ranged_there e pos fresh at fine (ap is_counted_kind is ∙ counted))))

    tried : (c d : Option Kind) → kind_of e.note.ctype ≡ c → kinds_allow kind_is_tested c d ≡ true → Given (is_terminated_kind d)
    tried (Some kind.Raw) (Some j) is q = different q
    tried (Some kind.One) (Some kind.Raw) is q = different q
    tried (Some kind.One) (Some kind.One) is q = lesser false (is_terminated_kind (kind_of e.note.ctype)) (inl refl) ((h.value k str).single is).0
    tried (Some kind.One) (Some kind.Arr) is q = lesser false (is_terminated_kind (kind_of e.note.ctype)) (inl refl) ((h.value k str).single is).0
    tried (Some kind.One) (Some kind.Nt) is q = different q
    tried (Some kind.Arr) (Some kind.Raw) is q = different q
    tried (Some kind.Arr) (Some kind.One) is q = several kind.Arr kind.One is refl refl (inl refl)
    tried (Some kind.Arr) (Some kind.Arr) is q = several kind.Arr kind.Arr is refl refl (inl refl)
    tried (Some kind.Arr) (Some kind.Nt) is q = different q
    tried (Some kind.Nt) (Some kind.Raw) is q = different q
    tried (Some kind.Nt) (Some kind.One) is q = several kind.Nt kind.One is refl refl (inl refl)
    tried (Some kind.Nt) (Some kind.Arr) is q = several kind.Nt kind.Arr is refl refl (inl refl)
    tried (Some kind.Nt) (Some kind.Nt) is q = several kind.Nt kind.Nt is refl refl (inr refl)
    tried None d is q = different q
    tried (Some c) None is q = different q

    tested_by : (t : CType) → is_tested t e ≡ true → Ranged t ((part_of f).value p vs k)
    tested_by t row = elim (taken_for kind_is_tested t e (and_parts (is_pointer t) (pointer_takes kind_is_tested t e) row).1) [
      | inl plain ↦ narrower g L (element_of t) (is_terminated_kind (kind_of t)) ((part_of f).value p vs k) (h.plain (element_of t) plain k str)
      | inr same ↦ (let both = and_parts (same_element t e.note.ctype) (kinds_allow kind_is_tested (kind_of e.note.ctype) (kind_of t)) same in
          subst (λ u. GivesRange g L u (is_terminated_kind (kind_of t)) ((part_of f).value p vs k)) (sym (elements_same t e.note.ctype both.0))
          (tried (kind_of e.note.ctype) (kind_of t) refl both.1))
    ]

    -- a bounds cast that tests them, with so many elements
    pub tested_holds : {V : Type 0} (t : CType) (w : CType) (r : ℕ → ℕ → Range) (form : Integer) (spot : Pos) (n : Expr) → t ≡ w → is_tested w e ≡ true → IsValued e → (V → F n) → (kind_of w ≡ Some kind.One → n ≡ Number 1)
        → Holds V t r (Tested (size_behind p.layout w) form spot ((part_of f).value p vs k) n)
    tested_holds {V} t w r form spot n is row valued formed one =
        let v = (part_of f).value p vs k in
        let give = tested_by w row in
        subst (λ u. Holds V u r (Tested (size_behind p.layout w) form spot v n)) (sym is)
        (always w r (Tested (size_behind p.layout w) form spot v n)
        (λ x. ((element_of w, weaker g L (element_of w) (is_terminated_kind (kind_of w)) v give), (h.value k str).formed valued, formed x)) (refl, give) one)

  -- ---- what is plain

  abbrev pub R : NotedLayer → CType → State → ℕ → ℕ → Range
  R x t at first next = pointer_range t (V x) first next at

  abbrev Kept : NotedLayer → CType → ℕ → State → NodePart → Strings → Type 0
  Kept x t fresh at q ss =
      (a : Note) (pos : Pos) → Noted t (pointer_range t (V x) 0 fresh at) a → (V x).fault pos fresh at ≡ None → (k : ℕ) → S k ss → Holds (IsValue x t) t (R x t at) (q.value a pos p vs k)

  -- a node without a place
  pub only : (x y : NotedLayer) (t : CType) (fresh : ℕ) (at : State) → IsSame x y → PartsFormed y → is_there_form x ≡ false → Kept x t fresh at (node_parts (part_node y)) (strings_in_node y)
      → ((u : CType) → IsPlainFor x u → (a : Note) (pos : Pos) (k : ℕ) → S k (strings_in_node y) → GivesRange g L u true ((node_parts (part_node y)).value a pos p vs k)) → Judged x t fresh at (node_of y)
  only x y t fresh at same parts none value plain =
      made x y t fresh at same parts (record { value = value; plain = plain; place = λ h single. different (sym none ∙ h); address = λ h. different (sym none ∙ h) })

  -- ---- names

  pub local_holds : (j : ℕ) (t : CType) (fresh : ℕ) (at : State) → HasType globals vs mode (Node-F.Name (name.Local j)) t → Kept (Node-F.Name (name.Local j)) t fresh at (node_parts (part_node (Node-F.Name (name.Local j)))) []
  local_holds j t fresh at row a pos noted fine k str =
      let r : Range = range_of_local frame j at.widened in
      let range : is_pointer t ≡ true → r ≡ a.range = λ it. sym (noted.range it ∙ if_true (is_pointer t) r it) in
      let known : is_checked_kind (kind_of t) ≡ true → is_missing r ≡ false → Ranged t (local_in p vs a.ctype j a.range) =
      λ c m. subst (λ u. Ranged u (local_in p vs a.ctype j a.range)) noted.ctype
      (subst (λ x. Ranged a.ctype (local_in p vs a.ctype j x)) (range (checked_pointer t c)) (local_gives g s a.ctype j r m (no_any frame j at.widened))) in
      record {
        formed = λ v. local_formed g s a.ctype j a.range;
        ranged = λ c first next m. known c (chosen (is_pointer t) r m);
        single = λ is. (let one = knows.ones j t row is at.widened in (
          known (ap is_checked_kind is) (ap is_missing one.1),
          subst (λ x. GivesOne (local_in p vs a.ctype j x)) (sym one.1 ∙ range (kind_pointer t kind.One is)) (local_one s a.ctype j one.0),
        ));
      }

  -- a named array
  array_holds : (j : ℕ) (t : CType) (at : State) (d : Kind) → KnowsStatic s g t j → array_of p j ≡ Some d
      → Holds (IsValue (Node-F.Name (name.Static j)) t) t (R (Node-F.Name (name.Static j)) t at) (Array (address_of p j) (bytes_of p j))
  array_holds j t at d h is =
      let kinds = h.array d is in
      always t (R (Node-F.Name (name.Static j)) t at) (Array (address_of p j) (bytes_of p j))
      (λ v. (element_of t, weaker_names g L (element_of t) (is_terminated_kind (Some d)) (address_of p j) (bytes_of p j) (h.elements d is)))
      (subst (λ o. NamesElements g L (element_of t) (is_terminated_kind o) (address_of p j) (bytes_of p j)) (sym kinds.0) (h.elements d is))
      (λ one. absurd (kinds.1 (some_same (sym kinds.0 ∙ one))))

  -- the address of a place
  place_reached : (t : CType) (r : Own → ℕ → ℕ → Range) (q : Place) → Q t q → Reached t r (address_at p.layout t q)
  place_reached t r q h = record { formed = address_formed g p.layout Safe t q h; ranged = λ safe own first next m. address_gives g p.layout Safe t q h safe }

  static_by : (j : ℕ) (t : CType) (at : State) (pos : Pos) → KnowsStatic s g t j → (o : Option Kind) → array_of p j ≡ o
      → Holds (IsValue (Node-F.Name (name.Static j)) t) t (R (Node-F.Name (name.Static j)) t at) (static_in p t pos j o)
  static_by j t at pos h None is =
      let q = object_formed g s Safe j t pos h is in
      read_holds t (R (Node-F.Name (name.Static j)) t at) (count_of_static p t (name.Static j)) (object_place p t pos j) q (λ v. there_scalar (Node-F.Name (name.Static j)) t refl v)
      (λ n e. (let c = h.fixed is n e in (c.0, fixed_count g p.layout Safe t (object_place p t pos j) n q c.1)))
      (λ c none first next. behind (is_pointer t) (range_of_name frame (name.Static j) t (own_numbers (V (Node-F.Name (name.Static j))) first next at).value at.widened)
      (h.ranged is none (own_numbers (V (Node-F.Name (name.Static j))) first next at).value at.widened))
      (λ one. h.single is one)
  static_by j t at pos h (Some kind.Raw) is = unchecked t (R (Node-F.Name (name.Static j)) t at) (Number (address_of p j)) (λ v. tt) (ap is_checked_kind (h.array kind.Raw is).0)
  static_by j t at pos h (Some kind.One) is = absurd ((h.array kind.One is).1 refl)
  static_by j t at pos h (Some kind.Arr) is = array_holds j t at kind.Arr h is
  static_by j t at pos h (Some kind.Nt) is = array_holds j t at kind.Nt h is

  pub static_claims : (j : ℕ) (t : CType) (fresh : ℕ) (at : State) → HasType globals vs mode (Node-F.Name (name.Static j)) t
      → Claims (V (Node-F.Name (name.Static j))) (Node-F.Name (name.Static j)) t fresh at (node_parts (part_node (Node-F.Name (name.Static j)))) []
  static_claims j t fresh at row =
      let h = knows.statics j t row in
      record {
        value = λ a pos noted fine k str.
            subst (λ u. Holds (IsValue (Node-F.Name (name.Static j)) t) t (R (Node-F.Name (name.Static j)) t at) (static_in p u pos j (array_of p j))) (sym noted.ctype) (static_by j t at pos h (array_of p j) refl);
        plain = λ u e. no_plain e;
        place = λ there single a pos is fine k str. subst (λ u. Q t (object_place p u pos j)) (sym is) (object_formed g s Safe j t pos h single);
        address = λ there single a pos is fine k str.
            subst (λ u. Reached t (λ own first next. (V (Node-F.Name (name.Static j))).address own first next at) (address_at p.layout u (object_place p u pos j))) (sym is)
            (place_reached t (λ own first next. (V (Node-F.Name (name.Static j))).address own first next at) (object_place p t pos j) (object_formed g s Safe j t pos h single));
      }

  -- ---- what is read through a pointer

  element_holds : {V : Type 0} (t u : CType) (r : ℕ → ℕ → Range) (q : Place) → u ≡ t → Q t q → (V → is_scalar t ≡ true)
      → ((first next : ℕ) → (own : ℕ) × (r first next ≡ (if is_pointer t then range_by_type (kind_of t) own else range.Missing))) → Holds V t r (read_at p.layout u (count_of_kind (kind_of u)) q)
  element_holds {V} t u r q is h scalar ranges =
      subst (λ z. Holds V t r (read_at p.layout z (count_of_kind (kind_of z)) q)) (sym is)
      (read_holds t r (count_of_kind (kind_of t)) q h scalar (λ n e. (let c = kind_fixed t n e in (c.0, fixed_count g p.layout Safe t q n h c.1)))
      (λ c none first next. (let one = ranges first next in
      ap is_missing one.1 ∙ behind (is_pointer t) (range_by_type (kind_of t) one.0) (count_missing (kind_of t) one.0 none)))
      (λ one. one_counts t one))

  safe_kind : (e : NotedExpr) → EachExpr IsPart e → is_pointer e.note.ctype ≡ true → mode ≡ Checked → is_checked_kind (kind_of e.note.ctype) ≡ true
  safe_kind e w pointer checked = no_raw_kind e.note.ctype ((every_here-Expr Name Note AnyLimits AnyNode IsPart e w).safe checked) pointer

  -- what a pointer points to is a place
  element_at : (e f : NotedExpr) (form : Integer) (i : Expr) (pos : Pos) (fresh : ℕ) (at : State) (k : ℕ) → EachExpr IsPart e → is_pointer e.note.ctype ≡ true → Made e at f → S k (strings_of_expr f)
      → access_fault (view frame e) pos fresh at ≡ None → (kind_of e.note.ctype ≡ Some kind.One → i ≡ Number 0) → F i
      → Q (element_of e.note.ctype) (element_place p.layout (part_of f).ctype pos form ((part_of f).value p vs k) i)
  element_at e f form i pos fresh at k w pointer h str fine first formed =
      subst (λ t. Q (element_of e.note.ctype) (element_place p.layout t pos form ((part_of f).value p vs k) i)) (sym h.type)
      (element_formed g p.layout Safe e.note.ctype pos form ((part_of f).value p vs k) i (leads e f pos fresh at k i h str fine first)
      ((h.value k str).formed (inr (pointer_scalar e.note.ctype pointer))) formed (safe_kind e w pointer))

  target_formed : (e f : NotedExpr) (pos : Pos) (fresh : ℕ) (at : State) (k : ℕ) → EachExpr IsPart e → is_pointer e.note.ctype ≡ true → Made e at f → S k (strings_of_expr f)
      → access_fault (view frame e) pos fresh at ≡ None → Q (element_of e.note.ctype) (target_place p.layout (part_of f).ctype pos ((part_of f).value p vs k))
  target_formed e f pos fresh at k w pointer h str fine = element_at e f integer.Int (Number 0) pos fresh at k w pointer h str fine (λ is. refl) tt

  pub deref_claims : (e f : NotedExpr) (t : CType) (fresh : ℕ) (at : State) → EachExpr IsPart e → HasType globals vs mode (Node-F.Un op.Deref e) t → Made e at f
      → Claims (V (Node-F.Un op.Deref e)) (Node-F.Un op.Deref e) t fresh at (node_parts (part_node (Node-F.Un op.Deref f))) (strings_of_expr f)
  deref_claims e f t fresh at w row h = record {
    value = λ a pos noted fine k str.
        element_holds t a.ctype (R (Node-F.Un op.Deref e) t at) (target_place p.layout (part_of f).ctype pos ((part_of f).value p vs k)) noted.ctype (placed pos fine k str)
        (λ v. there_scalar (Node-F.Un op.Deref e) t refl v) (λ first next. ((own_numbers (V (Node-F.Un op.Deref e)) first next at).value, refl));
    plain = λ u x. no_plain x;
    place = λ there single a pos is fine k str. placed pos fine k str;
    address = λ there single a pos is fine k str. record {
      formed = (h.value k str).formed (inr (pointer_scalar e.note.ctype pointer));
      ranged = λ m own first next r.
          subst (λ u. GivesRange g L u false ((part_of f).value p vs k)) (sym element)
          (weaker g L (element_of e.note.ctype) (is_terminated_kind (kind_of e.note.ctype)) ((part_of f).value p vs k) ((h.value k str).ranged (safe_kind e w pointer m) first next r));
    };
  }
    where
      pointer : is_pointer e.note.ctype ≡ true
      pointer = target_pointer e.note.ctype t row

      element : t ≡ element_of e.note.ctype
      element = target_element e.note.ctype t row

      placed : (pos : Pos) → access_fault (view frame e) pos fresh at ≡ None → (k : ℕ) → S k (strings_of_expr f) → Q t (target_place p.layout (part_of f).ctype pos ((part_of f).value p vs k))
      placed pos fine k str = subst (λ u. Q u (target_place p.layout (part_of f).ctype pos ((part_of f).value p vs k))) (sym element) (target_formed e f pos fresh at k w pointer h str fine)

  pub index_claims : (e f i j : NotedExpr) (t : CType) (fresh : ℕ) (at : State) → EachExpr IsPart e → HasType globals vs mode (Node-F.Index e i) t → Made e at f → Made i at j
      → Claims (V (Node-F.Index e i)) (Node-F.Index e i) t fresh at (node_parts (part_node (Node-F.Index f j))) (strings_of_expr f ++ strings_of_expr j)
  index_claims e f i j t fresh at w row h d = record {
    value = λ a pos noted fine k str.
        element_holds t a.ctype (R (Node-F.Index e i) t at)
        (element_place p.layout (part_of f).ctype pos (integer_of (part_of j).ctype) ((part_of f).value p vs k) ((part_of j).value p vs (k + (part_of f).literals))) noted.ctype (placed pos fine k str)
        (λ v. there_scalar (Node-F.Index e i) t refl v) (λ first next. ((own_numbers (V (Node-F.Index e i)) first next at).value, refl));
    plain = λ u x. no_plain x;
    place = λ there single a pos is fine k str. placed pos fine k str;
    address = λ there single a pos is fine k str. (let v = (part_of f).value p vs k in let x = (part_of j).value p vs (k + (part_of f).literals) in let both = two f (strings_of_expr j) k str in record {
      formed = operands_formed g p.layout op.Add (part_of f).ctype (part_of j).ctype pos v x ((h.value k both.0).formed (inr scalars.0)) ((d.value (k + (part_of f).literals) both.1).formed (inr scalars.1));
      ranged = λ m own first next r.
          subst (λ u. GivesRange g L u false (of_operands p.layout op.Add (part_of f).ctype (part_of j).ctype pos v x)) (sym element)
          (subst (λ z. GivesRange g L (element_of e.note.ctype) false (of_operands p.layout op.Add z (part_of j).ctype pos v x)) (sym h.type)
          (subst (λ z. GivesRange g L (element_of e.note.ctype) false (of_operands p.layout op.Add e.note.ctype z pos v x)) (sym d.type)
          (index_given g p.layout e.note.ctype i.note.ctype t v x pos row (safe_kind e w pointer m) false
          (weaker g L (element_of e.note.ctype) (is_terminated_kind (kind_of e.note.ctype)) v
          ((h.value k both.0).ranged (safe_kind e w pointer m) first next (not_chosen (is_raw_kind (kind_of (view frame e).ctype)) ((view frame e).range first next at) r))))));
    });
  }
    where
      scalars : (is_scalar e.note.ctype ≡ true) × (is_scalar i.note.ctype ≡ true)
      scalars = index_scalar e.note.ctype i.note.ctype t row

      pointer : is_pointer e.note.ctype ≡ true
      pointer = index_pointer e.note.ctype i.note.ctype t row

      element : t ≡ element_of e.note.ctype
      element = index_element e.note.ctype i.note.ctype t row

      placed : (pos : Pos) → access_fault (view frame e) pos fresh at ≡ None → (k : ℕ) → S k (strings_of_expr f ++ strings_of_expr j)
          → Q t (element_place p.layout (part_of f).ctype pos (integer_of (part_of j).ctype) ((part_of f).value p vs k) ((part_of j).value p vs (k + (part_of f).literals)))
      placed pos fine k str =
          let both = two f (strings_of_expr j) k str in
          subst (λ u. Q u (element_place p.layout (part_of f).ctype pos (integer_of (part_of j).ctype) ((part_of f).value p vs k) ((part_of j).value p vs (k + (part_of f).literals)))) (sym element)
          (element_at e f (integer_of (part_of j).ctype) ((part_of j).value p vs (k + (part_of f).literals)) pos fresh at k w pointer h both.0 fine (λ is. index_no_one e.note.ctype i.note.ctype t row is)
          ((d.value (k + (part_of f).literals) both.1).formed (inr scalars.1)))

  -- ---- members

  member_at : (u t : CType) (n : Name) (q : Place) → KnowsMember s u t n → Q u q → Q t (member_place p.layout (tag_of u) n q)
  member_at u t n q knows h = member_formed g p.layout Safe u t (tag_of u) n q h knows.sized knows.scalar knows.part

  member_holds : {W : Type 0} (u t v : CType) (n : Name) (r : ℕ → ℕ → Range) (q : Place) (c : CType) → c ≡ u → v ≡ t → KnowsMember s u t n → Q u q → is_scalar u ≡ false
      → ((first next : ℕ) → (own : Own) × (r first next ≡ (if is_pointer t then range_of_member frame.structs t (member_in n (out-CType u)) own else range.Missing)))
      → Holds W t r (read_at p.layout v (count_of_member p.layout (tag_of c) n) (member_place p.layout (tag_of c) n q))
  member_holds {W} u t v n r q c is same knows h bare ranges =
      subst (λ z. Holds W t r (read_at p.layout v (count_of_member p.layout (tag_of z) n) (member_place p.layout (tag_of z) n q))) (sym is)
      (subst (λ z. Holds W t r (read_at p.layout z (count_of_member p.layout (tag_of u) n) (member_place p.layout (tag_of u) n q))) (sym same)
      (read_holds t r (count_of_member p.layout (tag_of u) n) (member_place p.layout (tag_of u) n q) (member_at u t n q knows h) (λ x. knows.scalar)
      (λ m e. (let b = knows.counted m e in (b.0, member_count g p.layout Safe u t (tag_of u) n q m h knows.sized bare knows.scalar knows.part b.1)))
      (λ checked none first next. (let one = ranges first next in
      ap is_missing one.1 ∙ behind (is_pointer t) (range_of_member frame.structs t (member_in n (out-CType u)) one.0) (knows.ranged none one.0)))
      (λ one. knows.single one)))

  -- what is noted of the type and the place of a member
  noted_member : (t v : CType) (r : Own → ℕ → ℕ → Range) (q : Place) → v ≡ t → Q t q → Reached t r (address_at p.layout v q)
  noted_member t v r q is h = subst (λ u. Reached t r (address_at p.layout u q)) (sym is) (place_reached t r q h)

  pub dot_claims : (e f : NotedExpr) (n : Name) (spot : Pos) (t : CType) (fresh : ℕ) (at : State) → EachExpr IsPart e → HasType globals vs mode (Node-F.Dot e n spot) t → Made e at f
      → Claims (V (Node-F.Dot e n spot)) (Node-F.Dot e n spot) t fresh at (node_parts (part_node (Node-F.Dot f n spot))) (strings_of_expr f)
  dot_claims e f n spot t fresh at w row h = record {
    value = λ a pos noted fine k str.
        member_holds e.note.ctype t a.ctype n (R (Node-F.Dot e n spot) t at) ((part_of f).place p vs k) (part_of f).ctype h.type noted.ctype known (h.place there single k str) bare
        (λ first next. (let own = own_numbers (V (Node-F.Dot e n spot)) first next at in
        (own, ap (λ u. if is_pointer t then range_of_member frame.structs t (member_in n (out-CType u)) own else range.Missing) (view_type e))));
    plain = λ u x. no_plain x;
    place = λ it u a pos is fine k str. placed k str;
    address = λ it u a pos is fine k str. noted_member t a.ctype (λ own first next. (V (Node-F.Dot e n spot)).address own first next at) (member_place p.layout (tag_of (part_of f).ctype) n ((part_of f).place p vs k)) is (placed k str);
  }
    where
      known : KnowsMember s e.note.ctype t n
      known = knows.members e.note.ctype t n row

      there : is_there e ≡ true
      there = knows.structures e.note.ctype t n row (out-Node Name Note e.node) mode (row_of e w)

      bare : is_scalar e.note.ctype ≡ false
      bare = struct_bare e.note.ctype (dot_struct globals.structs e.note.ctype t n row)

      single : IsSingle p (out-Node Name Note e.node)
      single = struct_single globals s g knows mode (out-Node Name Note e.node) e.note.ctype (row_of e w) bare

      placed : (k : ℕ) → S k (strings_of_expr f) → Q t (member_place p.layout (tag_of (part_of f).ctype) n ((part_of f).place p vs k))
      placed k str =
          subst (λ z. Q t (member_place p.layout (tag_of z) n ((part_of f).place p vs k))) (sym h.type)
          (member_at e.note.ctype t n ((part_of f).place p vs k) known (h.place there single k str))

  pub arrow_claims : (e f : NotedExpr) (n : Name) (spot : Pos) (t : CType) (fresh : ℕ) (at : State) → EachExpr IsPart e → HasType globals vs mode (Node-F.Arrow e n spot) t → Made e at f
      → Claims (V (Node-F.Arrow e n spot)) (Node-F.Arrow e n spot) t fresh at (node_parts (part_node (Node-F.Arrow f n spot))) (strings_of_expr f)
  arrow_claims e f n spot t fresh at w row h = record {
    value = λ a pos noted fine k str.
        member_holds (element_of e.note.ctype) t a.ctype n (R (Node-F.Arrow e n spot) t at) (target_place p.layout (part_of f).ctype pos ((part_of f).value p vs k))
        (element_of (part_of f).ctype) (ap element_of h.type) noted.ctype known (target_formed e f pos fresh at k w pointer h str fine) bare
        (λ first next. (let own = own_numbers (V (Node-F.Arrow e n spot)) first next at in
        (own, ap (λ u. if is_pointer t then range_of_member frame.structs t (member_in n (out-CType (element_of u))) own else range.Missing) (view_type e))));
    plain = λ u x. no_plain x;
    place = λ it u a pos is fine k str. placed pos fine k str;
    address = λ it u a pos is fine k str.
        noted_member t a.ctype (λ own first next. (V (Node-F.Arrow e n spot)).address own first next at)
        (member_place p.layout (tag_of (element_of (part_of f).ctype)) n (target_place p.layout (part_of f).ctype pos ((part_of f).value p vs k))) is (placed pos fine k str);
  }
    where
      known : KnowsMember s (element_of e.note.ctype) t n
      known = knows.members (element_of e.note.ctype) t n row

      pointer : is_pointer e.note.ctype ≡ true
      pointer = arrow_pointer globals.structs e.note.ctype t n row

      bare : is_scalar (element_of e.note.ctype) ≡ false
      bare = struct_bare (element_of e.note.ctype) (dot_struct globals.structs (element_of e.note.ctype) t n row)

      placed : (pos : Pos) → access_fault (view frame e) pos fresh at ≡ None → (k : ℕ) → S k (strings_of_expr f)
          → Q t (member_place p.layout (tag_of (element_of (part_of f).ctype)) n (target_place p.layout (part_of f).ctype pos ((part_of f).value p vs k)))
      placed pos fine k str =
          subst (λ z. Q t (member_place p.layout (tag_of (element_of z)) n (target_place p.layout (part_of f).ctype pos ((part_of f).value p vs k)))) (sym h.type)
          (member_at (element_of e.note.ctype) t n (target_place p.layout (part_of f).ctype pos ((part_of f).value p vs k)) known (target_formed e f pos fresh at k w pointer h str fine))

  -- ---- addresses

  pub address_holds : (e f : NotedExpr) (t : CType) (fresh : ℕ) (at : State) → EachExpr IsPart e → HasType globals vs mode (Node-F.Un op.Address e) t → MadeOperand e at f
      → Kept (Node-F.Un op.Address e) t fresh at (node_parts (part_node (Node-F.Un op.Address f))) (strings_of_expr f)
  address_holds e f t fresh at w row h a pos noted fine k str = by (has_address globals e) refl row
    where
      arr_one : {X : Type 0} → ◌≡◌ {A = Option Kind} (Some kind.Arr) (Some kind.One) → X
      arr_one e = absurd cc

      raw_one : {X : Type 0} → ◌≡◌ {A = Option Kind} (Some kind.Raw) (Some kind.One) → X
      raw_one e = absurd cc

      of_mode : (m : Mode) → mode ≡ m → t ≡ ctype.Pointer (address_kind m) e.note.ctype → Reached e.note.ctype (λ own first next. (view frame e).address own first next at) ((part_of f).address p vs k)
          → Holds (IsValue (Node-F.Un op.Address e) t) t (R (Node-F.Un op.Address e) t at) ((part_of f).address p vs k)
      of_mode Checked is type r = record {
        formed = λ v. r.formed;
        ranged = λ c first next m.
            subst (λ u. GivesRange g L u (is_terminated_kind (kind_of t)) ((part_of f).address p vs k)) (sym (ap element_of type ∙ ap element_in (pointer_out kind.Arr e.note.ctype)))
            (subst (λ z. GivesRange g L e.note.ctype (is_terminated_kind z) ((part_of f).address p vs k)) (sym (ap kind_of type ∙ pointer_kind kind.Arr e.note.ctype))
            (r.ranged is (own_numbers (V (Node-F.Un op.Address e)) first next at) first next (chosen (is_pointer t) ((view frame e).address (own_numbers (V (Node-F.Un op.Address e)) first next at) first next at) m)));
        single = λ one. arr_one (sym (ap kind_of type ∙ pointer_kind kind.Arr e.note.ctype) ∙ one);
      }
      of_mode Unchecked is type r = record {
        formed = λ v. r.formed;
        ranged = λ c first next m. different (sym (ap is_checked_kind (ap kind_of type ∙ pointer_kind kind.Raw e.note.ctype)) ∙ c);
        single = λ one. raw_one (sym (ap kind_of type ∙ pointer_kind kind.Raw e.note.ctype) ∙ one);
      }

      by : (b : Bool) → has_address globals e ≡ b → (if b then Some (ctype.Pointer (address_kind mode) e.note.ctype) else None) ≡ Some t
          → Holds (IsValue (Node-F.Un op.Address e) t) t (R (Node-F.Un op.Address e) t at) ((part_of f).address p vs k)
      by true is q =
          of_mode mode refl (sym (some_same q))
          (h.address (address_there globals s g knows (out-Node Name Note e.node) is) (address_single globals s g knows mode (out-Node Name Note e.node) e.note.ctype (row_of e w) is) k str)
      by false is q = none_is q

  -- ---- sums

  module _ (e f i j : NotedExpr) (t : CType) (fresh : ℕ) (at : State) (pos : Pos) (k : ℕ) (h : Made e at f) (d : Made i at j) (str : S k (strings_of_expr f ++ strings_of_expr j))
      (scalars : (is_scalar e.note.ctype ≡ true) × (is_scalar i.note.ctype ≡ true)) where
    abbrev pub v : Expr
    v = (part_of f).value p vs k

    abbrev pub z : Expr
    z = (part_of j).value p vs (k + (part_of f).literals)

    abbrev pub typed : (o : TreeOp) → Expr
    typed o = of_operands p.layout o (part_of f).ctype (part_of j).ctype pos v z

    abbrev Moves : Expr → Type 0
    Moves x = GivesRange g L (element_of t) (is_terminated_kind (kind_of t)) x

    left_holds : Holds (IsValued e) e.note.ctype (λ first fresh. (view frame e).range first fresh at) v
    left_holds = h.value k (two f (strings_of_expr j) k str).0

    right_holds : Holds (IsValued i) i.note.ctype (λ first fresh. (view frame i).range first fresh at) z
    right_holds = d.value (k + (part_of f).literals) (two f (strings_of_expr j) k str).1

    as_noted : (o : TreeOp) → Moves (of_operands p.layout o e.note.ctype i.note.ctype pos v z) → Moves (typed o)
    as_noted o give =
        subst (λ u. Moves (of_operands p.layout o u (part_of j).ctype pos v z)) (sym h.type) (subst (λ u. Moves (of_operands p.layout o e.note.ctype u pos v z)) (sym d.type) give)

    pub formed : (o : TreeOp) → F (typed o)
    formed o = operands_formed g p.layout o (part_of f).ctype (part_of j).ctype pos v z (left_holds.formed (inr scalars.0)) (right_holds.formed (inr scalars.1))

    abbrev Inner : ℕ → ℕ → Range
    Inner first next = range_of_operand (view frame e) (view frame i) first next at

    pub inner : (first next : ℕ) → is_missing (if is_pointer t then (if is_raw_kind (kind_of t) then range.Missing else Inner first next) else range.Missing) ≡ false → is_missing (Inner first next) ≡ false
    inner first next m = not_chosen (is_raw_kind (kind_of t)) (Inner first next) (chosen (is_pointer t) (if is_raw_kind (kind_of t) then range.Missing else Inner first next) m)

    from_left : is_checked_kind (kind_of t) ≡ true → (first next : ℕ) → is_missing (Inner first next) ≡ false → is_pointer e.note.ctype ≡ true → t ≡ e.note.ctype → Moves v
    from_left c first next m q same =
        subst (λ u. Ranged u v) (sym same)
        (left_holds.ranged (ap (λ u. is_checked_kind (kind_of u)) (sym same) ∙ c) first next
        (if_first (is_pointer (view frame e).ctype) ((view frame e).range first next at) ((view frame i).range (capped first (view frame e).values) (fresh_behind (view frame e) next at) at) (ap is_pointer (view_type e) ∙ q) m))

    from_right : is_checked_kind (kind_of t) ≡ true → (first next : ℕ) → is_missing (Inner first next) ≡ false → is_pointer e.note.ctype ≡ false → t ≡ i.note.ctype → Moves z
    from_right c first next m q same =
        subst (λ u. Ranged u z) (sym same)
        (right_holds.ranged (ap (λ u. is_checked_kind (kind_of u)) (sym same) ∙ c) (capped first (view frame e).values) (fresh_behind (view frame e) next at)
        (if_second (is_pointer (view frame e).ctype) ((view frame e).range first next at) ((view frame i).range (capped first (view frame e).values) (fresh_behind (view frame e) next at) at) (ap is_pointer (view_type e) ∙ q) m))

    pub add_holds : HasType globals vs mode (Node-F.Bin op.Add e i) t → Holds (IsValue (Node-F.Bin op.Add e i) t) t (R (Node-F.Bin op.Add e i) t at) (typed op.Add)
    add_holds row =
        let sum = sum_is g p.layout e.note.ctype i.note.ctype t v z pos row in
        record {
          formed = λ v. formed op.Add;
          ranged = λ c first next m. as_noted op.Add (sum.given (is_terminated_kind (kind_of t)) c (from_left c first next (inner first next m)) (from_right c first next (inner first next m)));
          single = λ one. absurd (sum.no_one one);
        }

    pub sub_holds : HasType globals vs mode (Node-F.Bin op.Sub e i) t → Holds (IsValue (Node-F.Bin op.Sub e i) t) t (R (Node-F.Bin op.Sub e i) t at) (typed op.Sub)
    sub_holds row =
        let difference = difference_is g p.layout e.note.ctype i.note.ctype t v z pos row in
        record {
          formed = λ v. formed op.Sub;
          ranged = λ c first next m. as_noted op.Sub (difference.given (is_terminated_kind (kind_of t)) c (from_left c first next (inner first next m)));
          single = λ one. absurd (difference.no_one one);
        }
