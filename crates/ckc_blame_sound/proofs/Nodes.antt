-- The nodes of a statement, by its direct parts.
use Rattle.std.proofs.Common.{◌≡◌, sym, ap, ◌∙◌, ℕ, ◌+◌, List, ◌∷◌}
use Rattle.ckc_base.specs.declared.places.Pos.{Pos}
use Rattle.ckc_syntax.specs.declared.tree.Name.{Name}
use Rattle.ckc_syntax.specs.declared.tree.Act.{Act-F, map-Act, roll-Act, fold-roll-Act}
use Rattle.ckc_syntax.specs.declared.tree.Stmt.{fold-roll-Stmt}
use Rattle.ckc_syntax_limits.specs.Marks.{Mark, node as mark, is_node, act_marks, stmt_marks, marks_of_act, marks_of_stmt}
use Rattle.ckc_typed.specs.declared.typed.Note.{Note}
use Rattle.ckc_typed.specs.Trees.{NotedAct, NotedStmt}
use Rattle.ckc_bounds.specs.ckc_bounds_statements.specs.Paths.{stated}
use Rattle.ckc_blame_sound.specs.Few.{nodes_in}
use Rattle.ckc_blame_sound.proofs.Tallies.{tally, is_tally}

abbrev Layer : Type 0
Layer = Act-F Name Note NotedAct NotedStmt

abbrev pub marks_inside : Layer → Act-F Name Note (List Mark) (List Mark)
marks_inside = map-Act Name Note NotedAct NotedStmt (List Mark) (List Mark) marks_of_act marks_of_stmt

-- the nodes of a statement are those of what it does, and one more
pub nodes_rolled : (at : Pos) (note : Note) (x : Layer) (a : NotedAct) → roll-Act Name Note x ≡ a → nodes_in (stated at note a) ≡ 1 + tally is_node (act_marks (marks_inside x))
nodes_rolled at note x a rolls =
    is_tally is_node (marks_of_stmt (stated at note a))
    ∙ ap (tally is_node) (fold-roll-Stmt Name Note (List Mark) (List Mark) act_marks stmt_marks (record { body = a; pos = at; note = note })
    ∙ ap (λ ms. mark ∷ ms) (ap marks_of_act (sym rolls) ∙ fold-roll-Act Name Note (List Mark) (List Mark) act_marks stmt_marks x))
