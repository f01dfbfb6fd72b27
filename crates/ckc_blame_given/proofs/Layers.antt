-- What is said of an expression by what is said of the parts of its node.
use Rattle.std.proofs.Common.{◌≡◌, sym, ap, subst, ◌∙◌, rules}
use Rattle.ckc_syntax.specs.declared.tree.Name.{Name}
use Rattle.ckc_syntax.specs.declared.tree.Node.{Node-F, map-Node, out-Node, roll-Node, fold-roll-Node, every_held-Node, the_lemmas}
use Rattle.ckc_syntax.specs.declared.tree.Limits.{every-Limits}
use Rattle.ckc_syntax.specs.declared.tree.Expr.{Expr-F, fold-roll-Expr}
use Rattle.ckc_typed.specs.declared.typed.Note.{Note}
use Rattle.ckc_typed.specs.Statics.{strings_of_expr}
use Rattle.ckc_typed.specs.Trees.{NotedLimits, NotedNode, NotedExpr, NotedLayer}
use Rattle.ckc_typed_welltyped.specs.Expressions.{AnyLimits, AnyNode}
use Rattle.ckc_blame_sound.specs.ckc_bounds_points.specs.declared.frame.Frame.{Frame}
use Rattle.ckc_blame_sound.specs.ckc_bounds_ranges.specs.Bundles.{Mention, NodeOfMentions, limits_mention, node_mention, expr_mention, mention_of_limits, mention_of_node, mention}
use Rattle.ckc_blame_sound.specs.ckc_bounds_views.specs.Parts.{LimitsView, NodeView, View, NodeOfViews}
use Rattle.ckc_blame_sound.specs.ckc_bounds_views.specs.Views.{limits_view, node_view, expr_view, view_of_limits, view_of_node, view}
use Rattle.ckc_build_values.specs.Expressions.{Part, NodePart, LimitsPart, limits_parts, node_parts, expr_parts, part_of, part_of_node, part_of_limits}
use Rattle.ckc_blame_pointers.proofs.Inside.{Every, EveryNode, node_every}
use Rattle.ckc_blame_pointers.proofs.Strings.{strings_of_node, strings_in_node, expr_strings_are, node_strings_are}

pub node_whole : (n : NotedNode) → roll-Node Name Note (out-Node Name Note n) ≡ n
node_whole n = search (rules, the_lemmas)

-- ---- views

abbrev pub viewed : Frame → NotedLayer → NodeOfViews
viewed frame = map-Node Name Note NotedLimits NotedNode NotedExpr LimitsView NodeView View (view_of_limits frame) (view_of_node frame) (view frame)

-- the view of an expression by that of its layer
abbrev pub view_by : Frame → NotedExpr → NotedLayer → View
view_by frame e x = expr_view (record { node = node_view frame (viewed frame x); pos = e.pos; note = e.note })

pub view_is : (frame : Frame) (e : NotedExpr) → view frame e ≡ view_by frame e (out-Node Name Note e.node)
view_is frame e =
    fold-roll-Expr Name Note LimitsView NodeView View limits_view (node_view frame) expr_view (record { node = e.node; pos = e.pos; note = e.note })
    ∙ ap (λ n. expr_view (record { node = n; pos = e.pos; note = e.note })) node_is
  where
    node_is : view_of_node frame e.node ≡ node_view frame (viewed frame (out-Node Name Note e.node))
    node_is =
        ap (view_of_node frame) (sym (node_whole e.node)) ∙ fold-roll-Node Name Note LimitsView NodeView View limits_view (node_view frame) expr_view (out-Node Name Note e.node)

-- ---- what it becomes

abbrev pub parted : NotedLayer → Node-F Name Note LimitsPart NodePart Part
parted = map-Node Name Note NotedLimits NotedNode NotedExpr LimitsPart NodePart Part part_of_limits part_of_node part_of

abbrev pub part_by : NotedExpr → NotedLayer → Part
part_by e x = expr_parts (record { node = node_parts (parted x); pos = e.pos; note = e.note })

pub part_is : (e : NotedExpr) → part_of e ≡ part_by e (out-Node Name Note e.node)
part_is e =
    fold-roll-Expr Name Note LimitsPart NodePart Part limits_parts node_parts expr_parts (record { node = e.node; pos = e.pos; note = e.note })
    ∙ ap (λ n. expr_parts (record { node = n; pos = e.pos; note = e.note })) node_is
  where
    node_is : part_of_node e.node ≡ node_parts (parted (out-Node Name Note e.node))
    node_is =
        ap part_of_node (sym (node_whole e.node)) ∙ fold-roll-Node Name Note LimitsPart NodePart Part limits_parts node_parts expr_parts (out-Node Name Note e.node)

-- ---- the string literals in it

pub strings_are : (e : NotedExpr) → strings_of_expr e ≡ strings_in_node (out-Node Name Note e.node)
strings_are e =
    expr_strings_are (record { node = e.node; pos = e.pos; note = e.note }) ∙ ap strings_of_node (sym (node_whole e.node)) ∙ node_strings_are (out-Node Name Note e.node)

-- ---- which targets it names

abbrev pub mentioned : NotedLayer → NodeOfMentions
mentioned = map-Node Name Note NotedLimits NotedNode NotedExpr _ Mention Mention mention_of_limits mention_of_node mention

pub mention_is : (e : NotedExpr) → mention e ≡ node_mention (mentioned (out-Node Name Note e.node))
mention_is e =
    fold-roll-Expr Name Note _ Mention Mention limits_mention node_mention expr_mention (record { node = e.node; pos = e.pos; note = e.note })
    ∙ ap mention_of_node (sym (node_whole e.node)) ∙ fold-roll-Node Name Note _ Mention Mention limits_mention node_mention expr_mention (out-Node Name Note e.node)

-- ---- the structure of a member

module _ (P : Expr-F Name Note NotedLimits NotedNode NotedExpr → Type 0) where
  abbrev pub DotEvery : NotedLayer → Type 0
  DotEvery (Node-F.Dot e n at) = Every P e
  DotEvery x = Unit {0}

  abbrev FitLimits : Type 0
  FitLimits = (l : NotedLimits) × every-Limits Name Note AnyLimits AnyNode P l

  abbrev FitNode : Type 0
  FitNode = (n : NotedNode) × EveryNode P n

  abbrev FitExpr : Type 0
  FitExpr = (e : NotedExpr) × Every P e

  dot_of : (z : Node-F Name Note FitLimits FitNode FitExpr) → DotEvery (map-Node Name Note FitLimits FitNode FitExpr NotedLimits NotedNode NotedExpr (λ e. e.0) (λ e. e.0) (λ e. e.0) z)
  dot_of (Node-F.Dot e n at) = e.1
  dot_of z = tt

  -- the rule holds of it too
  pub dot_every : (e : NotedExpr) → Every P e → DotEvery (out-Node Name Note e.node)
  dot_every e w =
      let h = every_held-Node Name Note AnyLimits AnyNode P e.node (node_every P e w) in
      subst DotEvery h.1 (dot_of h.0)
