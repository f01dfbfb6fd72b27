-- The locals of well typed statements have types of scalars.
use Rattle.std.proofs.Common.{◌≡◌, ◌∙◌, sym, ap, subst, rules, Bool, true, List, [], ◌∷◌, ◌++◌, map}
use Rattle.std.specs.Prelude.{All, Option, Some, None, unwrap_or}
use Rattle.std.specs.List.{AllByRecursion}
use Rattle.std.proofs.lemmas.List.Elements.{All-nil, All-cons, All-append}
use Rattle.ckc_base.specs.declared.arithmetic.Mode.{Mode}
use Rattle.ckc_types.specs.declared.types.CType.{CType}
use Rattle.ckc_syntax.specs.declared.tree.Name.{Name}
use Rattle.ckc_syntax.specs.declared.tree.Act.{Act-F, map-Act, out-Act, roll-Act, fold-roll-Act, the_lemmas}
use Rattle.ckc_syntax.specs.declared.tree.Stmt.{Stmt-F, map-Stmt, ind-Stmt, roll-Stmt, fold-roll-Stmt}
use Rattle.ckc_syntax.specs.Inside.{listed, inside_each, inside_if}
use Rattle.ckc_typed.specs.declared.environment.Globals.{Globals}
use Rattle.ckc_typed.specs.declared.environment.Variable.{Variable}
use Rattle.ckc_typed.specs.declared.typed.Note.{Note}
use Rattle.ckc_typed.specs.Environment.{variable_declared, act_variables, stmt_variables, locals_of, locals_of_act}
use Rattle.ckc_typed.specs.Trees.{NotedAct, NotedStmt, NotedExpr}
use Rattle.ckc_typed.specs.Types.{is_scalar_type}
use Rattle.ckc_typed_welltyped.specs.Statements.{act_rows, WellTypedStmt}
use Rattle.ckc_typed_welltyped.proofs.ByParts.{stmt_by_parts}

abbrev pub IsScalarVariable : Variable → Type 0
IsScalarVariable v = is_scalar_type v.ctype ≡ true

abbrev pub HaveScalarTypes : List Variable → Type 0
HaveScalarTypes vs = All IsScalarVariable vs

pub no_variables : HaveScalarTypes []
no_variables = All-nil IsScalarVariable

pub joined : (vs ws : List Variable) → HaveScalarTypes vs → HaveScalarTypes ws → HaveScalarTypes (vs ++ ws)
joined vs ws h g = All-append IsScalarVariable vs ws h g

module _ (globals : Globals) (variables : List Variable) (result : CType) where
  abbrev Fits : NotedStmt → Mode → Bool → Type 0
  Fits s mode looped = WellTypedStmt globals variables result s mode looped

  abbrev Layer : Type 0
  Layer = Act-F Name Note NotedAct NotedStmt

  act_out : (x : Layer) → out-Act Name Note (roll-Act Name Note x) ≡ x
  act_out x = search (rules, the_lemmas)

  record ActDeclares (a : NotedAct) : Type 0 where
    scalars : (mode : Mode) (looped : Bool) → act_rows globals variables result Fits (out-Act Name Note a) mode looped → HaveScalarTypes (locals_of_act a)

  record StmtDeclares (s : NotedStmt) : Type 0 where
    scalars : (mode : Mode) (looped : Bool) → Fits s mode looped → HaveScalarTypes (locals_of s)

  abbrev KeptAct : Type 0
  KeptAct = (a : NotedAct) × ActDeclares a

  abbrev KeptStmt : Type 0
  KeptStmt = (s : NotedStmt) × StmtDeclares s

  abbrev inner_act : Act-F Name Note KeptAct KeptStmt → Layer
  inner_act = map-Act Name Note KeptAct KeptStmt NotedAct NotedStmt (λ e. e.0) (λ e. e.0)

  abbrev inner_stmt : Stmt-F Name Note KeptAct KeptStmt → Stmt-F Name Note NotedAct NotedStmt
  inner_stmt = map-Stmt Name Note KeptAct KeptStmt NotedAct NotedStmt (λ e. e.0) (λ e. e.0)

  abbrev variables_in : Layer → Act-F Name Note (List Variable) (List Variable)
  variables_in = map-Act Name Note NotedAct NotedStmt (List Variable) (List Variable) locals_of_act locals_of

  abbrev firsts : List KeptStmt → List NotedStmt
  firsts ks = map (λ (k : KeptStmt). k.0) ks

  each : (ks : List KeptStmt) (mode : Mode) (looped : Bool) → AllByRecursion (λ (s : NotedStmt). Fits s mode looped) (firsts ks)
      → HaveScalarTypes (inside_each listed (λ vs. vs) (map (λ (s : NotedStmt). locals_of s) (firsts ks)))
  each [] mode looped h = no_variables
  each (k ∷ ks) mode looped h = joined (locals_of k.0) _ (k.1.scalars mode looped h.0) (each ks mode looped h.1)

  silent : (e : Option NotedExpr) → HaveScalarTypes (inside_if listed (λ (f : NotedExpr). []) e)
  silent None = no_variables
  silent (Some e) = no_variables

  in_for : (e : Option NotedExpr) (vs us ws : List Variable) → HaveScalarTypes vs → HaveScalarTypes us → HaveScalarTypes ws
      → HaveScalarTypes (((vs ++ inside_if listed (λ (f : NotedExpr). []) e) ++ us) ++ ws)
  in_for e vs us ws f g h =
      let one = joined vs (inside_if listed (λ (f : NotedExpr). []) e) f (silent e) in
      joined ((vs ++ inside_if listed (λ (f : NotedExpr). []) e) ++ us) ws (joined (vs ++ inside_if listed (λ (f : NotedExpr). []) e) us one g) h

  act_step : (y : Act-F Name Note KeptAct KeptStmt) (mode : Mode) (looped : Bool) → act_rows globals variables result Fits (inner_act y) mode looped → HaveScalarTypes (act_variables (variables_in (inner_act y)))
  act_step (Act-F.Block m ks) mode looped h = each ks (unwrap_or m mode) looped h
  act_step Act-F.Empty mode looped h = no_variables
  act_step (Act-F.Local d) mode looped h = All-cons IsScalarVariable (variable_declared d) [] h.scalar no_variables
  act_step (Act-F.Assign e f) mode looped h = no_variables
  act_step (Act-F.Call e) mode looped h = no_variables
  act_step (Act-F.If e k None) mode looped h = joined (locals_of k.0) [] (k.1.scalars mode looped h.1) no_variables
  act_step (Act-F.If e k (Some l)) mode looped h = joined (locals_of k.0) (locals_of l.0) (k.1.scalars mode looped h.1) (l.1.scalars mode looped h.2)
  act_step (Act-F.While e k) mode looped h = k.1.scalars mode true h.1
  act_step (Act-F.For None e None k) mode looped h = in_for e [] [] (locals_of k.0) no_variables no_variables (k.1.scalars mode true h.3)
  act_step (Act-F.For None e (Some j) k) mode looped h = in_for e [] (locals_of j.0) (locals_of k.0) no_variables (j.1.scalars mode looped h.2) (k.1.scalars mode true h.3)
  act_step (Act-F.For (Some l) e None k) mode looped h = in_for e (locals_of l.0) [] (locals_of k.0) (l.1.scalars mode looped h.0) no_variables (k.1.scalars mode true h.3)
  act_step (Act-F.For (Some l) e (Some j) k) mode looped h =
      in_for e (locals_of l.0) (locals_of j.0) (locals_of k.0) (l.1.scalars mode looped h.0) (j.1.scalars mode looped h.2) (k.1.scalars mode true h.3)
  act_step (Act-F.Return e) mode looped h = silent e
  act_step Act-F.Break mode looped h = no_variables
  act_step Act-F.Continue mode looped h = no_variables
  act_step (Act-F.Check e) mode looped h = no_variables
  act_step (Act-F.Bundle ks) mode looped h = each ks mode looped h

  act_by : (x : Layer) (y : Act-F Name Note KeptAct KeptStmt) → inner_act y ≡ x → ActDeclares (roll-Act Name Note x)
  act_by x y is = record {
    scalars = λ mode looped h.
        let row = subst (λ z. act_rows globals variables result Fits z mode looped) (act_out x ∙ sym is) h in
        subst HaveScalarTypes (ap (λ z. act_variables (variables_in z)) is ∙ sym (fold-roll-Act Name Note (List Variable) (List Variable) act_variables stmt_variables x)) (act_step y mode looped row);
  }

  stmt_is : (s : NotedStmt) → ActDeclares s.body → StmtDeclares s
  stmt_is s k = record {
    scalars = λ mode looped h.
        subst HaveScalarTypes (sym (fold-roll-Stmt Name Note (List Variable) (List Variable) act_variables stmt_variables (record { body = s.body; pos = s.pos; note = s.note })))
        (k.scalars mode looped ((stmt_by_parts globals variables result s mode looped).0 h).row);
  }

  stmt_by : (x : Stmt-F Name Note NotedAct NotedStmt) (y : Stmt-F Name Note KeptAct KeptStmt) → inner_stmt y ≡ x → StmtDeclares (roll-Stmt Name Note x)
  stmt_by x y is = subst (λ z. StmtDeclares (roll-Stmt Name Note z)) is (stmt_is (roll-Stmt Name Note (inner_stmt y)) y.body.1)

  pub statement_scalars : (s : NotedStmt) (mode : Mode) (looped : Bool) → Fits s mode looped → HaveScalarTypes (locals_of s)
  statement_scalars s mode looped h = (ind-Stmt Name Note ActDeclares StmtDeclares act_by stmt_by s).scalars mode looped h
