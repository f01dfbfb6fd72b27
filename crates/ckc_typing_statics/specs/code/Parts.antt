-- The string literals that the parts of statements and expressions hold.
use Rattle.std.specs.Prelude.{[], Option, None, Some}
use Rattle.ckc_syntax.specs.declared.tree.Name.{Name}
use Rattle.ckc_syntax.specs.declared.tree.Node.{fold-Node}
use Rattle.ckc_syntax.specs.declared.tree.Act.{fold-Act}
use Rattle.ckc_typed.specs.declared.typed.Note.{Note}
use Rattle.ckc_typed.specs.Trees.{NotedNode, NotedAct, NotedStmt}
use Rattle.ckc_syntax.specs.Inside.{listed, inside_limits}
use Rattle.ckc_typed.specs.Statics.{Strings, node_strings, expr_strings, act_strings, stmt_strings, strings_of_stmt}

-- the strings that a node holds
abbrev pub strings_of_node : NotedNode → Strings
strings_of_node = fold-Node Name Note Strings Strings Strings (inside_limits listed (λ e. e)) node_strings expr_strings

abbrev pub strings_of_act : NotedAct → Strings
strings_of_act = fold-Act Name Note Strings Strings act_strings stmt_strings

abbrev pub strings_of_part : Option NotedStmt → Strings
strings_of_part None = []
strings_of_part (Some s) = strings_of_stmt s
