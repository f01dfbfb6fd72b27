-- Amounts in bounds with notes and without.
use Rattle.std.proofs.Common.{◌≡◌, ◌∙◌, sym, ap, refl, ℕ, ℤ, rules}
use Rattle.std.specs.Prelude.{Option, Some, None}
use Rattle.ckc_types.specs.declared.types.MemberBounds.TheVariants as bounds
use Rattle.ckc_syntax.specs.declared.tree.Name.{Name}
use Rattle.ckc_syntax.specs.declared.tree.Name.TheVariants as name
use Rattle.ckc_syntax.specs.declared.tree.Limits.{Limits-F, map-Limits, out-Limits, roll-Limits, fold_out-Limits, the_lemmas as limits_lemmas}
use Rattle.ckc_syntax.specs.declared.tree.Node.{Node-F, map-Node, out-Node, roll-Node, fold_out-Node, the_lemmas as node_lemmas}
use Rattle.ckc_syntax.specs.declared.tree.Expr.{fold-roll-Expr}
use Rattle.ckc_typed.specs.declared.environment.Amount.{Amount}
use Rattle.ckc_typed.specs.declared.typed.Note.{Note}
use Rattle.ckc_typed.specs.Trees.{Expr, Limits, Node, NotedLimits, NotedNode, NotedExpr, NotedLayer}
use Rattle.ckc_typed.specs.Amounts.{variable_in_form, variable_in, moved}
use Rattle.ckc_typed.specs.Layouts.{counted_by, counted}
use Rattle.ckc_typed_welltyped.specs.Noteless.{limits_noteless, node_noteless, limits_bared, node_bared, expr_bared, BareLimits, BareNode, BareExpr, bare_limits, bare_node, bare_expr}
use Rattle.ckc_blame_sound.proofs.Every.{LimitsLayer}

-- ---- without notes

abbrev pub BareLimitsLayer : Type 0
BareLimitsLayer = Limits-F Name (Unit {0}) Limits Node Expr

abbrev pub BareNodeLayer : Type 0
BareNodeLayer = Node-F Name (Unit {0}) Limits Node Expr

abbrev pub limits_made : LimitsLayer → BareLimitsLayer
limits_made x = limits_noteless (map-Limits Name Note NotedLimits NotedNode NotedExpr (BareLimits Name) (BareNode Name) (BareExpr Name) bare_limits bare_node bare_expr x)

abbrev pub node_made : NotedLayer → BareNodeLayer
node_made x = node_noteless (map-Node Name Note NotedLimits NotedNode NotedExpr (BareLimits Name) (BareNode Name) (BareExpr Name) bare_limits bare_node bare_expr x)

limits_back : (x : BareLimitsLayer) → out-Limits Name (Unit {0}) (roll-Limits Name (Unit {0}) x) ≡ x
limits_back x = search (rules, limits_lemmas)

node_back : (x : BareNodeLayer) → out-Node Name (Unit {0}) (roll-Node Name (Unit {0}) x) ≡ x
node_back x = search (rules, node_lemmas)

pub limits_out : (l : NotedLimits) → out-Limits Name (Unit {0}) (bare_limits l) ≡ limits_made (out-Limits Name Note l)
limits_out l =
    ap (out-Limits Name (Unit {0})) (fold_out-Limits Name Note (BareLimits Name) (BareNode Name) (BareExpr Name) limits_bared node_bared expr_bared l)
    ∙ limits_back (limits_made (out-Limits Name Note l))

node_out : (n : NotedNode) → out-Node Name (Unit {0}) (bare_node n) ≡ node_made (out-Node Name Note n)
node_out n =
    ap (out-Node Name (Unit {0})) (fold_out-Node Name Note (BareLimits Name) (BareNode Name) (BareExpr Name) limits_bared node_bared expr_bared n)
    ∙ node_back (node_made (out-Node Name Note n))

expr_is : (e : NotedExpr) → bare_expr e ≡ record { node = bare_node e.node; pos = e.pos; note = tt }
expr_is e = fold-roll-Expr Name Note (BareLimits Name) (BareNode Name) (BareExpr Name) limits_bared node_bared expr_bared (record { node = e.node; pos = e.pos; note = e.note })

pub layer_is : (e : NotedExpr) → out-Node Name (Unit {0}) (bare_expr e).node ≡ node_made (out-Node Name Note e.node)
layer_is e = ap (λ (x : Expr). out-Node Name (Unit {0}) x.node) (expr_is e) ∙ node_out e.node

variable_form : (x : NotedLayer) → variable_in_form (node_made x) ≡ variable_in_form x
variable_form (Node-F.Name n) = refl
variable_form x = refl

pub variable_bare : (e : NotedExpr) → variable_in (bare_expr e) ≡ variable_in e
variable_bare e = ap variable_in_form (layer_is e) ∙ variable_form (out-Node Name Note e.node)

-- ---- amounts

pub moved_is : (v : Option Name) (c : Option ℤ) (a : Amount) → moved v c ≡ Some a → a.variable ≡ v
moved_is (Some n) (Some c) a e = let same : record { variable = Some n; number = c } ≡ a = cc in sym (ap (λ (x : Amount). x.variable) same)
moved_is (Some n) None a e = absurd cc
moved_is None c a e = absurd cc

-- an amount whose variable is a member
pub counted_is : (o : Option Amount) (k : ℕ) (c : ℤ) → counted o ≡ bounds.Named k c → (a : Amount) × (o ≡ Some a) × (a.variable ≡ Some (name.Member k))
counted_is (Some a) k c e = (a, refl, by a.variable e)
  where
    by : (v : Option Name) → counted_by v a.number ≡ bounds.Named k c → v ≡ Some (name.Member k)
    by (Some (name.Member m)) f = let same : m ≡ k = cc in ap (λ j. Some (name.Member j)) same
    by None f = absurd cc
    by (Some n) f = absurd cc
counted_is None k c e = absurd cc
