-- Induction on statements by layers: what each layer has whose statements have it, all have. A property speaks of a
-- tree and of its value by a fold.
use Rattle.std.proofs.Common.{◌≡◌, sym, subst}
use Rattle.ckc_syntax.specs.declared.tree.Name.{Name}
use Rattle.ckc_syntax.specs.declared.tree.Act.{Act-F, map-Act, roll-Act, fold-Act, fold-roll-Act}
use Rattle.ckc_syntax.specs.declared.tree.Stmt.{Stmt-F, map-Stmt, ind-Stmt, roll-Stmt, fold-Stmt, fold-roll-Stmt}
use Rattle.ckc_typed.specs.declared.typed.Note.{Note}
use Rattle.ckc_typed.specs.Trees.{NotedAct, NotedStmt}

-- the steps of a fold
pub record ActSteps (A S : Type 0) : Type 0 where
  pub act : Act-F Name Note A S → A
  pub stmt : Stmt-F Name Note A S → S

pub record ActProperty (A S : Type 0) : Type 1 where
  pub act : NotedAct → A → Type 0
  pub stmt : NotedStmt → S → Type 0

module _ {A S : Type 0} (steps : ActSteps A S) (has : ActProperty A S) where
  abbrev act_value : NotedAct → A
  act_value = fold-Act Name Note A S steps.act steps.stmt

  abbrev stmt_value : NotedStmt → S
  stmt_value = fold-Stmt Name Note A S steps.act steps.stmt

  -- a tree that has the property
  abbrev pub KeptAct : Type 0
  KeptAct = (a : NotedAct) × has.act a (act_value a)

  abbrev pub KeptStmt : Type 0
  KeptStmt = (s : NotedStmt) × has.stmt s (stmt_value s)

  -- a layer whose statements have it, the same layer alone, and with the values of its statements
  abbrev pub KeptActLayer : Type 0
  KeptActLayer = Act-F Name Note KeptAct KeptStmt

  abbrev pub KeptStmtLayer : Type 0
  KeptStmtLayer = Stmt-F Name Note KeptAct KeptStmt

  abbrev pub inner_act : KeptActLayer → Act-F Name Note NotedAct NotedStmt
  inner_act = map-Act Name Note KeptAct KeptStmt NotedAct NotedStmt (λ k. k.0) (λ k. k.0)

  abbrev pub inner_stmt : KeptStmtLayer → Stmt-F Name Note NotedAct NotedStmt
  inner_stmt = map-Stmt Name Note KeptAct KeptStmt NotedAct NotedStmt (λ k. k.0) (λ k. k.0)

  abbrev valued_act : Act-F Name Note NotedAct NotedStmt → Act-F Name Note A S
  valued_act = map-Act Name Note NotedAct NotedStmt A S act_value stmt_value

  abbrev valued_stmt : Stmt-F Name Note NotedAct NotedStmt → Stmt-F Name Note A S
  valued_stmt = map-Stmt Name Note NotedAct NotedStmt A S act_value stmt_value

  -- the value of a layer
  abbrev pub act_made : KeptActLayer → A
  act_made y = steps.act (valued_act (inner_act y))

  abbrev pub stmt_made : KeptStmtLayer → S
  stmt_made y = steps.stmt (valued_stmt (inner_stmt y))

  module _ (act_step : (y : KeptActLayer) → has.act (roll-Act Name Note (inner_act y)) (act_made y))
      (stmt_step : (y : KeptStmtLayer) → has.stmt (roll-Stmt Name Note (inner_stmt y)) (stmt_made y)) where
    act_by : (x : Act-F Name Note NotedAct NotedStmt) (y : KeptActLayer) → inner_act y ≡ x → has.act (roll-Act Name Note x) (act_value (roll-Act Name Note x))
    act_by x y is =
        subst (has.act (roll-Act Name Note x)) (sym (fold-roll-Act Name Note A S steps.act steps.stmt x))
        (subst (λ z. has.act (roll-Act Name Note z) (steps.act (valued_act z))) is (act_step y))

    stmt_by : (x : Stmt-F Name Note NotedAct NotedStmt) (y : KeptStmtLayer) → inner_stmt y ≡ x → has.stmt (roll-Stmt Name Note x) (stmt_value (roll-Stmt Name Note x))
    stmt_by x y is =
        subst (has.stmt (roll-Stmt Name Note x)) (sym (fold-roll-Stmt Name Note A S steps.act steps.stmt x))
        (subst (λ z. has.stmt (roll-Stmt Name Note z) (steps.stmt (valued_stmt z))) is (stmt_step y))

    pub each_stmt : (s : NotedStmt) → has.stmt s (stmt_value s)
    each_stmt = ind-Stmt Name Note (λ a. has.act a (act_value a)) (λ s. has.stmt s (stmt_value s)) act_by stmt_by
