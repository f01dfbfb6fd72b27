-- As many string literals are counted in an expression as make blocks.
use Rattle.std.proofs.Common.{◌≡◌, ℕ, ◌+◌, List, [], ◌∷◌, ◌++◌, map, length, length-append, refl, sym, ap, ◌∙◌, arith}
use Rattle.std.specs.Prelude.{Some, None}
use Rattle.ckc_base.specs.Lists.{concatenation}
use Rattle.ckc_syntax.specs.declared.tree.Name.{Name}
use Rattle.ckc_syntax.specs.declared.tree.Limits.{Limits-F, map-Limits, roll-Limits, fold-roll-Limits}
use Rattle.ckc_syntax.specs.declared.tree.Node.{Node-F, fold-Node, map-Node, roll-Node, fold-roll-Node}
use Rattle.ckc_syntax.specs.declared.tree.Expr.{roll-Expr, fold-roll-Expr}
use Rattle.ckc_syntax.proofs.Layers as kept
use Rattle.ckc_syntax.proofs.Layers.{Steps, Property, LimitsLayer, NodeLayer, ExprLayer, inner_limits, inner_node, inner_expr, limits_made, node_made, expr_made, each_limits, each_expr}
use Rattle.ckc_typed.specs.declared.typed.Note.{Note}
use Rattle.ckc_typed.specs.Trees.{NotedLimits, NotedNode, NotedExpr}
use Rattle.ckc_syntax.specs.Inside.{listed, inside_limits}
use Rattle.ckc_typed.specs.Statics.{Strings, node_strings, expr_strings, strings_of_limits, strings_of_expr}
use Rattle.ckc_build_values.specs.Expressions.{Part, NodePart, LimitsPart, limits_parts, node_parts, expr_parts, all_literals, part_of, literals_of, literals_of_limits}

abbrev counting : Steps Name Note LimitsPart NodePart Part
counting = record { limits = limits_parts; node = node_parts; expr = expr_parts }

abbrev strings_of_node : NotedNode → Strings
strings_of_node = fold-Node Name Note Strings Strings Strings (inside_limits listed (λ e. e)) node_strings expr_strings

abbrev counted : Property Name Note LimitsPart NodePart Part
counted = record {
  limits = λ l q. q.literals ≡ length (strings_of_limits l);
  node = λ n q. q.literals ≡ length (strings_of_node n);
  expr = λ e q. q.literals ≡ length (strings_of_expr e);
}

abbrev KeptExpr : Type 0
KeptExpr = kept.KeptExpr counting counted

abbrev held_limits : LimitsLayer counting counted → Limits-F Name Note Strings Strings Strings
held_limits y = map-Limits Name Note NotedLimits NotedNode NotedExpr Strings Strings Strings strings_of_limits strings_of_node strings_of_expr (inner_limits counting counted y)

abbrev held_node : NodeLayer counting counted → Node-F Name Note Strings Strings Strings
held_node y = map-Node Name Note NotedLimits NotedNode NotedExpr Strings Strings Strings strings_of_limits strings_of_node strings_of_expr (inner_node counting counted y)

pub both : (a b : Strings) (n m : ℕ) → n ≡ length a → m ≡ length b → n + m ≡ length (a ++ b)
both a b n m p q = omega (arith, length-append a b)

pub third : (a b c : Strings) (n m k : ℕ) → n ≡ length a → m ≡ length b → k ≡ length c → n + m + k ≡ length (a ++ b ++ c)
third a b c n m k p q r = both (a ++ b) c (n + m) k (both a b n m p q) r

each : (ks : List KeptExpr) → all_literals (map part_of (map (λ (k : KeptExpr). k.0) ks)) ≡ length (concatenation (map strings_of_expr (map (λ (k : KeptExpr). k.0) ks)))
each [] = refl
each (k ∷ ks) = both (strings_of_expr k.0) _ _ _ k.1 (each ks)

limits_step : (y : LimitsLayer counting counted) → (limits_made counting counted y).literals ≡ length (inside_limits listed (λ e. e) (held_limits y))
limits_step (Limits-F.Count k at) = k.1
limits_step (Limits-F.ByteCount k at) = k.1
limits_step (Limits-F.Between k j at) = both (strings_of_expr k.0) (strings_of_expr j.0) _ _ k.1 j.1
limits_step (Limits-F.Unknown at) = refl

node_step : (y : NodeLayer counting counted) → (node_made counting counted y).literals ≡ length (node_strings (held_node y))
node_step (Node-F.Number n u) = refl
node_step (Node-F.Text s) = refl
node_step Node-F.Null = refl
node_step (Node-F.Name n) = refl
node_step (Node-F.Un o k) = k.1
node_step (Node-F.Bin o k j) = both (strings_of_expr k.0) (strings_of_expr j.0) _ _ k.1 j.1
node_step (Node-F.Pick k j i) = third (strings_of_expr k.0) (strings_of_expr j.0) (strings_of_expr i.0) _ _ _ k.1 j.1 i.1
node_step (Node-F.Index k j) = both (strings_of_expr k.0) (strings_of_expr j.0) _ _ k.1 j.1
node_step (Node-F.Dot k n at) = k.1
node_step (Node-F.Arrow k n at) = k.1
node_step (Node-F.Cast w k) = k.1
node_step (Node-F.Size w) = refl
node_step (Node-F.Trusted w k None) = both (strings_of_expr k.0) [] _ _ k.1 refl
node_step (Node-F.Trusted w k (Some l)) = both (strings_of_expr k.0) _ _ _ k.1 l.1
node_step (Node-F.Tested w k None) = both (strings_of_expr k.0) [] _ _ k.1 refl
node_step (Node-F.Tested w k (Some l)) = both (strings_of_expr k.0) _ _ _ k.1 l.1
node_step (Node-F.Call n ks) = each ks
node_step (Node-F.Calloc w k x) = k.1

-- the same, of the literals of the whole layer
limits_all : (y : LimitsLayer counting counted) → (limits_made counting counted y).literals ≡ length (strings_of_limits (roll-Limits Name Note (inner_limits counting counted y)))
limits_all y = limits_step y ∙ ap length (sym (fold-roll-Limits Name Note Strings Strings Strings (inside_limits listed (λ e. e)) node_strings expr_strings (inner_limits counting counted y)))

node_all : (y : NodeLayer counting counted) → (node_made counting counted y).literals ≡ length (strings_of_node (roll-Node Name Note (inner_node counting counted y)))
node_all y = node_step y ∙ ap length (sym (fold-roll-Node Name Note Strings Strings Strings (inside_limits listed (λ e. e)) node_strings expr_strings (inner_node counting counted y)))

expr_all : (y : ExprLayer counting counted) → (expr_made counting counted y).literals ≡ length (strings_of_expr (roll-Expr Name Note (inner_expr counting counted y)))
expr_all y = y.node.1 ∙ ap length (sym (fold-roll-Expr Name Note Strings Strings Strings (inside_limits listed (λ e. e)) node_strings expr_strings (inner_expr counting counted y)))

pub limits_counted : (l : NotedLimits) → literals_of_limits l ≡ length (strings_of_limits l)
limits_counted = each_limits counting counted limits_all node_all expr_all

pub expr_counted : (e : NotedExpr) → literals_of e ≡ length (strings_of_expr e)
expr_counted = each_expr counting counted limits_all node_all expr_all
