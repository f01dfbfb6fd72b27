use Rattle.std.proofs.Common.{◌≡◌, ℕ, ◌*◌, ◌≤◌, sym, subst}
use Rattle.ckc_syntax_limits.specs.Marks.{marks_of_stmt}
use Rattle.ckc_checks_operands.specs.Compilable.{code_nodes}
use Rattle.ckc_build_elaborate.specs.Statements.{alone, stmt_elaborated}
use Rattle.ckc_build_sizes.proofs.Marked.{is_marked}
use Rattle.ckc_build_forms.proofs.NodesOfStatements.{stmt_small}
use Rattle.ckc_build_forms.proofs.laws.statements_have_few_nodes.Goals as goal

pub returns : goal.returns
returns c = λ p locals result k s.
    subst (λ n. code_nodes (alone (stmt_elaborated p locals result k s)) ≤ 6 * n) (sym (is_marked (marks_of_stmt s))) (stmt_small p locals result k s)
