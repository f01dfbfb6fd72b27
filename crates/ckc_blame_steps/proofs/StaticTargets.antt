-- The bounds and the range of a static pointer that is named.
use Rattle.std.proofs.Common.{◌≡◌, ◌∙◌, sym, ap, subst, rules, ℕ}
use Rattle.std.specs.Prelude.{ℤ, if◌then◌else◌, Option, Some, None, is_some, slice_get, unwrap_or}
use Rattle.ckc_types.specs.declared.types.CType.{CType}
use Rattle.ckc_types.specs.declared.types.Kind.{Kind}
use Rattle.ckc_types.specs.declared.types.Kind.TheVariants as kind
use Rattle.ckc_types.specs.declared.types.Structs.{Structs}
use Rattle.ckc_linear.specs.declared.forms.Base.TheVariants as base
use Rattle.ckc_syntax.specs.declared.tree.Name.{Name}
use Rattle.ckc_syntax.specs.declared.tree.Name.TheVariants as name
use Rattle.ckc_syntax.specs.declared.tree.Node.{Node-F, out-Node, roll-Node, fold-roll-Node, the_lemmas}
use Rattle.ckc_syntax.specs.declared.tree.Expr.{Expr-F, fold-roll-Expr}
use Rattle.ckc_typed.specs.declared.environment.Amount.{Amount}
use Rattle.ckc_typed.specs.declared.typed.Note.{Note}
use Rattle.ckc_typed.specs.Amounts.{amount_of_limits}
use Rattle.ckc_typed.specs.Environment.{used}
use Rattle.ckc_typed.specs.Trees.{NotedLimits, NotedNode, NotedExpr, NotedLayer}
use Rattle.ckc_typed.specs.Types.{kind_of}
use Rattle.ckc_blame_sound.specs.ckc_bounds_points.specs.declared.frame.Bounds.{Bounds}
use Rattle.ckc_blame_sound.specs.ckc_bounds_points.specs.declared.frame.Frame.{Frame}
use Rattle.ckc_blame_sound.specs.ckc_bounds_declared.specs.Written.{bounds_by_type}
use Rattle.ckc_blame_sound.specs.ckc_bounds_stores.specs.Targets.{written_in, bounds_by, memory_bounds}
use Rattle.ckc_blame_sound.specs.ckc_bounds_views.specs.Parts.{LimitsView, NodeView, View}
use Rattle.ckc_typed.specs.declared.typed.Range.{Range}
use Rattle.ckc_blame_sound.specs.ckc_bounds_ranges.specs.Rows.{range_of_array}
use Rattle.ckc_blame_sound.specs.ckc_bounds_views.specs.Ranges.{range_of_object, range_of_static}
use Rattle.ckc_blame_sound.specs.ckc_bounds_views.specs.Views.{limits_view, node_view, expr_view, view_of_node, view}
use Rattle.ckc_source.specs.declared.expr.Count.{Count}
use Rattle.ckc_source.specs.declared.expr.Count.TheVariants as count
use Rattle.ckc_build_values.specs.Kinds.{count_of_kind, size_behind}
use Rattle.ckc_build_values.specs.Names.{count_declared, count_of_static, fixed_by, fixed_count, limits_declared}
use Rattle.ckc_blame_sound.specs.Settings.{Setting}
use Rattle.ckc_blame_sound.specs.Elements.{AreCounted}
use Rattle.ckc_blame_steps.specs.Statics.{IsStatic, bounds_counted, range_counted, bounds_of_static}

-- ---- a name is no member

node_whole : (m : NotedNode) → roll-Node Name Note (out-Node Name Note m) ≡ m
node_whole m = search (rules, the_lemmas)

pub no_member : (frame : Frame) (e : NotedExpr) (n : Name) → out-Node Name Note e.node ≡ Node-F.Name n → (view frame e).member ≡ None
no_member frame e n is =
    let S : Expr-F Name Note NotedLimits NotedNode NotedExpr = record { node = e.node; pos = e.pos; note = e.note } in
    ap (λ (v : View). v.member) (fold-roll-Expr Name Note LimitsView NodeView View limits_view (node_view frame) expr_view S)
    ∙ ap (λ (m : NotedNode). (view_of_node frame m).member) (sym (node_whole e.node) ∙ ap (roll-Node Name Note) is)
    ∙ ap (λ (v : NodeView). v.member) (fold-roll-Node Name Note LimitsView NodeView View limits_view (node_view frame) expr_view (Node-F.Name n))

-- ---- constants

-- a count is a constant
abbrev IsConstant : Option Count → Type 0
IsConstant (Some (count.Member offset form add)) = ⊥
IsConstant _ = Unit {0}

constant_kind : (k : Option Kind) → IsConstant (count_of_kind k)
constant_kind (Some kind.One) = tt
constant_kind (Some kind.Nt) = tt
constant_kind (Some kind.Raw) = tt
constant_kind (Some kind.Arr) = tt
constant_kind None = tt

constant_by : (n : Option Name) (c : ℤ) → IsConstant (fixed_by n c)
constant_by None c = tt
constant_by (Some n) c = tt

constant_amount : (a : Option Amount) → IsConstant (fixed_count a)
constant_amount (Some a) = constant_by a.variable a.number
constant_amount None = tt

constant_count : (structs : Structs) (t : CType) (l : Option NotedLimits) → IsConstant (count_declared structs t l)
constant_count structs t None = constant_kind (kind_of t)
constant_count structs t (Some l) = constant_amount (amount_of_limits structs (size_behind structs t) l)

counted_by : (b : Bounds) (n : Count) → IsConstant (Some n) → b ≡ bounds_counted (Some n) → AreCounted b n
counted_by b (count.Fixed c) w e = e
counted_by b (count.Member offset form add) w e = absurd w

module _ (s : Setting) (t : CType) (k : ℕ) (w : IsStatic s t k) (single : w.object.array ≡ None) where
  element : w.object.element ≡ t
  element = sym (w.type ∙ ap (used w.object.element) single)

  target : (e : NotedExpr) → out-Node Name Note e.node ≡ Node-F.Name (name.Static k) → e.note.ctype ≡ t → memory_bounds s.frame e ≡ bounds_of_static s t k
  target e is c =
      ap (λ m. bounds_by s.frame e m) (no_member s.frame e (name.Static k) is)
      ∙ ap (λ (x : NotedLayer). unwrap_or (written_in s.frame x) (bounds_by_type (base.Value 0) e.note.ctype)) is
      ∙ ap (λ u. bounds_of_static s u k) c

  bounds : bounds_of_static s t k ≡ bounds_counted (count_of_static s.text t (name.Static k))
  bounds = subst (λ u. bounds_of_static s u k ≡ bounds_counted (count_of_static s.text u (name.Static k))) element w.bounds

  pub counts : (n : Count) (e : NotedExpr) → out-Node Name Note e.node ≡ Node-F.Name (name.Static k) → e.note.ctype ≡ t → count_of_static s.text t (name.Static k) ≡ Some n → AreCounted (memory_bounds s.frame e) n
  counts n e is c f =
      counted_by (memory_bounds s.frame e) n (subst IsConstant f (constant_count s.text.layout t (limits_declared s.text (name.Static k)))) (target e is c ∙ bounds ∙ ap bounds_counted f)

  pub ranges : (own : ℕ) → range_of_static s.frame k (slice_get s.frame.statics k) t own ≡ range_counted own (count_of_static s.text t (name.Static k))
  ranges own =
      ap (λ o. range_of_static s.frame k o t own) w.judged ∙ no_array
      ∙ subst (λ u. range_of u ≡ range_counted own (count_of_static s.text u (name.Static k))) element (w.range own)
    where
      range_of : CType → Range
      range_of u = range_of_object (slice_get s.frame.objects k) u own

      no_array : range_of_static s.frame k (Some w.object) t own ≡ range_of t
      no_array = ap (λ (o : Option Kind). if is_some o then range_of_array k w.object else range_of t) single

pub statics_counts : (s : Setting) (t : CType) (k : ℕ) (n : Count) (e : NotedExpr) (w : IsStatic s t k) → w.object.array ≡ None → out-Node Name Note e.node ≡ Node-F.Name (name.Static k) → e.note.ctype ≡ t
    → count_of_static s.text t (name.Static k) ≡ Some n → AreCounted (memory_bounds s.frame e) n
statics_counts s t k n e w single = counts s t k w single n e

pub statics_ranges : (s : Setting) (t : CType) (k own : ℕ) (w : IsStatic s t k) → w.object.array ≡ None
    → range_of_static s.frame k (slice_get s.frame.statics k) t own ≡ range_counted own (count_of_static s.text t (name.Static k))
statics_ranges s t k own w single = ranges s t k w single own
