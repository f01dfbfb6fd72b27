-- Texts that are wholly checked.
use Rattle.std.specs.Prelude.{Bool, true, false, ◌&&◌, IsTrue, Option}
use Rattle.ckc_base.specs.declared.arithmetic.Mode.{Mode}
use Rattle.ckc_base.specs.declared.arithmetic.Mode.TheVariants.{Checked, Unchecked}
use Rattle.ckc_syntax.specs.Inside.{all_have, inside_each, inside_if, inside_act, inside_item}
use Rattle.ckc_syntax.specs.declared.tree.Name.{Name}
use Rattle.ckc_syntax.specs.declared.tree.Act.{Act-F, fold-Act}
use Rattle.ckc_syntax.specs.declared.tree.Stmt.{Stmt-F, fold-Stmt}
use Rattle.ckc_typed.specs.declared.typed.Note.{Note}
use Rattle.ckc_typed.specs.declared.typed.Typed.{Typed}
use Rattle.ckc_typed.specs.Trees.{NotedAct, NotedStmt, NotedItem}

-- whether a mode is Checked
abbrev pub is_checked : Mode → Bool
is_checked Checked = true
is_checked Unchecked = false

-- whether each statement inside a statement has mode Checked
abbrev pub act_checked : Act-F Name Note Bool Bool → Bool
act_checked = inside_act all_have (λ e. true) (λ d. true) (λ s. s)

-- whether a statement has mode Checked, and each inside it
abbrev pub stmt_checked : Stmt-F Name Note Bool Bool → Bool
stmt_checked s = is_checked s.note.mode && s.body

-- whether each statement inside a statement has mode Checked, however deep it stands
abbrev pub checked_act : NotedAct → Bool
checked_act = fold-Act Name Note Bool Bool act_checked stmt_checked

-- whether a statement has mode Checked, and each inside it, however deep it stands
abbrev pub checked_stmt : NotedStmt → Bool
checked_stmt = fold-Stmt Name Note Bool Bool act_checked stmt_checked

-- the same of a statement that there may be
abbrev pub checked_part : Option NotedStmt → Bool
checked_part = inside_if all_have checked_stmt

-- whether each statement of an item has mode Checked
abbrev pub checked_item : NotedItem → Bool
checked_item = inside_item all_have (λ d. true) (λ h. true) checked_stmt

-- whether each statement of a text has mode Checked
abbrev pub checked_text : Typed → Bool
checked_text p = inside_each all_have checked_item p.tree.items

-- A text is wholly checked if no statement of it has mode Unchecked.
abbrev pub WhollyChecked : Typed → Type 0
WhollyChecked p = IsTrue (checked_text p)
