-- What the grammar gives of a statement, by its direct parts.
use Rattle.std.proofs.Common.{◌≡◌, sym, ap, ◌∙◌, rules}
use Rattle.ckc_base.specs.declared.places.Pos.{Pos}
use Rattle.ckc_syntax.specs.declared.tree.Name.{Name}
use Rattle.ckc_syntax.specs.declared.tree.Act.{Act-F, map-Act, fold-Act, out-Act, roll-Act, fold-roll-Act, the_lemmas}
use Rattle.ckc_syntax.specs.declared.tree.Stmt.{fold-roll-Stmt}
use Rattle.ckc_typed.specs.declared.typed.Note.{Note}
use Rattle.ckc_typed.specs.Trees.{NotedAct, NotedStmt}
use Rattle.ckc_typed_welltyped.specs.Productions.{Given, given_act, given_in, given_stmt}

abbrev Layer : Type 0
Layer = Act-F Name Note NotedAct NotedStmt

abbrev given_of : NotedAct → Given
given_of = fold-Act Name Note Given Given given_act given_in

-- what a statement does, with what is given of the statements in it
abbrev pub given_inside : Layer → Act-F Name Note Given Given
given_inside = map-Act Name Note NotedAct NotedStmt Given Given given_of given_stmt

act_back : (a : NotedAct) → roll-Act Name Note (out-Act Name Note a) ≡ a
act_back a = search (rules, the_lemmas)

pub given_rolled : (at : Pos) (note : Note) (x : Layer) → given_stmt (record { body = roll-Act Name Note x; pos = at; note = note }) ≡ given_act (given_inside x)
given_rolled at note x =
    fold-roll-Stmt Name Note Given Given given_act given_in (record { body = roll-Act Name Note x; pos = at; note = note })
    ∙ fold-roll-Act Name Note Given Given given_act given_in x

pub given_are : (st : NotedStmt) → given_stmt st ≡ given_act (given_inside (out-Act Name Note st.body))
given_are st =
    ap (λ (a : NotedAct). given_stmt (record { body = a; pos = st.pos; note = st.note })) (sym (act_back st.body))
    ∙ given_rolled st.pos st.note (out-Act Name Note st.body)
