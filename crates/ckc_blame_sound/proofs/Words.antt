-- The expressions in a statement, by its direct parts.
use Rattle.std.proofs.Common.{◌≡◌, sym, ap, ◌∙◌, List, rules}
use Rattle.ckc_base.specs.declared.places.Pos.{Pos}
use Rattle.ckc_syntax.specs.declared.tree.Name.{Name}
use Rattle.ckc_syntax.specs.declared.tree.Act.{Act-F, map-Act, fold-Act, out-Act, roll-Act, fold-roll-Act, the_lemmas}
use Rattle.ckc_syntax.specs.declared.tree.Stmt.{fold-roll-Stmt}
use Rattle.ckc_typed.specs.declared.typed.Note.{Note}
use Rattle.ckc_typed.specs.Trees.{NotedAct, NotedExpr, NotedStmt}
use Rattle.ckc_blame_sound.specs.Words.{exprs_of_act, exprs_of_stmt, exprs_in}

abbrev Layer : Type 0
Layer = Act-F Name Note NotedAct NotedStmt

abbrev exprs_in_act : NotedAct → List NotedExpr
exprs_in_act = fold-Act Name Note (List NotedExpr) (List NotedExpr) exprs_of_act exprs_of_stmt

-- what a statement does, with the expressions in the statements in it
abbrev pub exprs_inside : Layer → Act-F Name Note (List NotedExpr) (List NotedExpr)
exprs_inside = map-Act Name Note NotedAct NotedStmt (List NotedExpr) (List NotedExpr) exprs_in_act exprs_in

pub act_back : (a : NotedAct) → roll-Act Name Note (out-Act Name Note a) ≡ a
act_back a = search (rules, the_lemmas)

pub exprs_rolled : (at : Pos) (note : Note) (x : Layer) → exprs_in (record { body = roll-Act Name Note x; pos = at; note = note }) ≡ exprs_of_act (exprs_inside x)
exprs_rolled at note x =
    fold-roll-Stmt Name Note (List NotedExpr) (List NotedExpr) exprs_of_act exprs_of_stmt (record { body = roll-Act Name Note x; pos = at; note = note })
    ∙ fold-roll-Act Name Note (List NotedExpr) (List NotedExpr) exprs_of_act exprs_of_stmt x

pub exprs_are : (st : NotedStmt) → exprs_in st ≡ exprs_of_act (exprs_inside (out-Act Name Note st.body))
exprs_are st =
    ap (λ (a : NotedAct). exprs_in (record { body = a; pos = st.pos; note = st.note })) (sym (act_back st.body))
    ∙ exprs_rolled st.pos st.note (out-Act Name Note st.body)
