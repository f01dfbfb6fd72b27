-- What an expression means, by what its parts mean.
use Rattle.std.proofs.Common.{◌≡◌, ◌+◌, ℕ, refl, sym, ap, ◌∙◌, subst}
use Rattle.std.specs.Prelude.{Result, List}
use Rattle.std.specs.Result.{IfOk}
use Rattle.ckc_base.specs.declared.places.Pos.{Pos}
use Rattle.ckc_types.specs.declared.types.Structs.{Structs}
use Rattle.ckc_syntax.specs.declared.tree.Name.{Name}
use Rattle.ckc_syntax.specs.declared.tree.TreeOp.{TreeOp}
use Rattle.ckc_syntax.specs.declared.tree.TreeOp.TheVariants as op
use Rattle.ckc_syntax.specs.declared.tree.Node.{Node-F, map-Node, roll-Node, fold-roll-Node}
use Rattle.ckc_syntax.specs.declared.tree.Node.TheVariants as node
use Rattle.ckc_syntax.specs.declared.tree.Expr.{fold-roll-Expr}
use Rattle.ckc_typed.specs.declared.environment.Variable.{Variable}
use Rattle.ckc_typed.specs.declared.typed.Note.{Note}
use Rattle.ckc_typed.specs.declared.typed.Typed.{Typed}
use Rattle.ckc_typed.specs.Trees.{NotedLimits, NotedNode, NotedExpr}
use Rattle.ckc_source.specs.declared.expr.ExprTree.{ExprTree, ExprTree-F, fold-roll-ExprTree}
use Rattle.ckc_source.specs.declared.expr.ExprTree.TheVariants as made
use Rattle.ckc_source.specs.Code.{Expr, expr_of, expr_form}
use Rattle.ckc_build_values.specs.Operators.{of_operands}
use Rattle.ckc_build_values.specs.Expressions.{Part, NodePart, LimitsPart, limits_parts, node_parts, expr_parts, part_of, part_of_node, part_of_limits, literals_of}

pub expr_part : (e : NotedExpr) → part_of e ≡ expr_parts (record { node = part_of_node e.node; pos = e.pos; note = e.note })
expr_part e = fold-roll-Expr Name Note LimitsPart NodePart Part limits_parts node_parts expr_parts (record { node = e.node; pos = e.pos; note = e.note })

pub ctype_part : (e : NotedExpr) → (part_of e).ctype ≡ e.note.ctype
ctype_part e = ap (λ w. w.ctype) (expr_part e)

pub node_part : (n : NotedNode) (x : Node-F Name Note NotedLimits NotedNode NotedExpr) → n ≡ roll-Node Name Note x
    → part_of_node n ≡ node_parts (map-Node Name Note NotedLimits NotedNode NotedExpr LimitsPart NodePart Part part_of_limits part_of_node part_of x)
node_part n x is = ap part_of_node is ∙ fold-roll-Node Name Note LimitsPart NodePart Part limits_parts node_parts expr_parts x

-- Two operands, the second of which has its literals after those of the first; the code reads each operand anew
-- for its value, its literals and its type.
module _ {E : Type 0} (p : Typed) (locals : List Variable) (k : ℕ) (n : NotedNode) (a : Note) (at : Pos) (layout : Structs)
    (e e1 e2 e3 f f1 f2 : NotedExpr) (left right : Expr) (second : ℕ) (r : Result ExprTree E)
    (laid : layout ≡ p.layout) (is1 : e1 ≡ e) (is2 : e2 ≡ e) (is3 : e3 ≡ e) (if1 : f1 ≡ f) (if2 : f2 ≡ f)
    (one : left ≡ (part_of e1).value p locals k) (behind : second ≡ k + literals_of e2) (two : right ≡ (part_of f1).value p locals second) where
  abbrev joined : TreeOp → Expr
  joined o = of_operands p.layout o (part_of e).ctype (part_of f).ctype at ((part_of e).value p locals k) ((part_of f).value p locals (k + literals_of e))

  of_parts : (o : TreeOp) → joined o ≡ of_operands layout o e3.note.ctype f2.note.ctype at left right
  of_parts o = rw (ctype_part e, ctype_part f, one, two, behind, laid, is1, is2, is3, if1, if2) refl

  pub binary_value : (o : TreeOp) → n ≡ node.Bin o e f → IfOk r (λ t. expr_of t ≡ of_operands layout o e3.note.ctype f2.note.ctype at left right) → IfOk r (λ t. expr_of t ≡ (part_of_node n).value a at p locals k)
  binary_value o is h =
      subst (λ v. IfOk r (λ t. expr_of t ≡ v)) (sym (ap (λ w. w.value a at p locals k) (node_part n (Node-F.Bin o e f) (is ∙ sym (node.rolls-Bin o e f))) ∙ of_parts o)) h

  pub index_address : n ≡ node.Index e f → IfOk r (λ t. expr_of t ≡ of_operands layout op.Add e3.note.ctype f2.note.ctype at left right) → IfOk r (λ t. expr_of t ≡ (part_of_node n).address a at p locals k)
  index_address is h =
      subst (λ v. IfOk r (λ t. expr_of t ≡ v)) (sym (ap (λ w. w.address a at p locals k) (node_part n (Node-F.Index e f) (is ∙ sym (node.rolls-Index e f))) ∙ of_parts op.Add)) h

module _ (p : Typed) (locals : List Variable) (k : ℕ) (n : NotedNode) (a : Note) (at : Pos) where
  pub pick_value : (e e1 e2 f f1 f2 g g1 : NotedExpr) (test one two : ExprTree) (second third : ℕ) → n ≡ node.Pick e f g
      → e1 ≡ e → e2 ≡ e → f1 ≡ f → f2 ≡ f → g1 ≡ g
      → expr_of test ≡ (part_of e1).value p locals k → second ≡ k + literals_of e2 → expr_of one ≡ (part_of f1).value p locals second
      → third ≡ second + literals_of f2 → expr_of two ≡ (part_of g1).value p locals third
      → expr_of (made.Choice test one two) ≡ (part_of_node n).value a at p locals k
  pick_value e e1 e2 f f1 f2 g g1 test one two second third is is1 is2 if1 if2 ig1 x behind y after z =
      ap expr_of (sym (made.rolls-Choice test one two)) ∙ fold-roll-ExprTree Expr expr_form (ExprTree-F.Choice test one two)
      ∙ rw (x, y, z, after, behind, is1, is2, if1, if2, ig1) refl
      ∙ sym (ap (λ w. w.value a at p locals k) (node_part n (Node-F.Pick e f g) (is ∙ sym (node.rolls-Pick e f g))))
