-- What a statement becomes has at most six nodes for each node of the text.
use Rattle.std.proofs.Common.{◌≡◌, ℕ, ◌+◌, ◌*◌, ◌≤◌, List, [], ◌∷◌, ◌++◌, map, refl, sym, ap, subst, arith}
use Rattle.std.specs.Prelude.{false, Option, Some, None}
use Rattle.ckc_base.specs.Lists.{concatenation}
use Rattle.ckc_base.specs.declared.places.Pos.{Pos}
use Rattle.ckc_base.specs.declared.arithmetic.Mode.{Mode}
use Rattle.ckc_types.specs.declared.types.CType.{CType}
use Rattle.ckc_syntax.specs.declared.tree.Name.{Name}
use Rattle.ckc_syntax.specs.declared.tree.Act.{Act-F, map-Act, roll-Act, fold-roll-Act}
use Rattle.ckc_syntax.specs.declared.tree.Stmt.{Stmt-F, map-Stmt, ind-Stmt, roll-Stmt, fold-roll-Stmt}
use Rattle.ckc_syntax_limits.specs.Marks.{Mark, act_marks, stmt_marks, marks_of_expr, marks_of_value, marks_of_act, marks_of_stmt}
use Rattle.ckc_typed.specs.declared.environment.Variable.{Variable}
use Rattle.ckc_typed.specs.declared.typed.Note.{Note}
use Rattle.ckc_typed.specs.declared.typed.Typed.{Typed}
use Rattle.ckc_typed.specs.Trees.{NotedExpr, NotedAct, NotedStmt}
use Rattle.ckc_source.specs.declared.stmt.Spot.{Spot}
use Rattle.ckc_source.specs.Code.{Target, Right, Code, End, chained}
use Rattle.ckc_checks_operands.specs.Compilable.{assigns_nodes, code_nodes}
use Rattle.ckc_build_values.specs.Expressions.{literals_of, expr_elaborated}
use Rattle.ckc_build_elaborate.specs.Literals.{literals_of_value}
use Rattle.ckc_build_elaborate.specs.Steps.{spot, nowhere, destination_of, is_terminated}
use Rattle.ckc_build_elaborate.specs.Statements.{ActPart, Part, act_parts, stmt_parts, part_of, part_of_act, one, alone, code_if, literals_if, all_code, all_assigns, turns}
use Rattle.ckc_build_sizes.proofs.Marked.{marked, marked-append}
use Rattle.ckc_build_forms.proofs.NodesOfValues.{value_small}
use Rattle.ckc_build_forms.proofs.NodesOfSteps.{target_small, right_small, assigned_most, declared_most, returned_most, condition_most}

pub chained-append : (fs gs : List (Code → Code)) (rest : Code) → chained (fs ++ gs) rest ≡ chained fs (chained gs rest)
chained-append [] gs rest = refl
chained-append (f ∷ fs) gs rest = ap f (chained-append fs gs rest)

assigns-append : (xs ys : List (Target × Right)) → assigns_nodes (xs ++ ys) ≡ assigns_nodes xs + assigns_nodes ys
assigns-append [] ys = omega arith
assigns-append (x ∷ xs) ys = omega (arith, assigns-append xs ys)

-- ---- statements, by their marks

abbrev CodeFits : ℕ → (Typed → List Variable → CType → ℕ → List (Code → Code)) → Type 0
CodeFits m code = (p : Typed) (locals : List Variable) (result : CType) (k : ℕ) (rest : Code) →
    code_nodes (chained (code p locals result k) rest) ≤ 6 * m + code_nodes rest

abbrev AssignsFit : ℕ → (Typed → List Variable → ℕ → List (Target × Right)) → Type 0
AssignsFit m assigns = (p : Typed) (locals : List Variable) (k : ℕ) → assigns_nodes (assigns p locals k) ≤ 6 * m

abbrev StmtFits : List Mark → Part → Type 0
StmtFits ms q = CodeFits (marked ms) q.code × AssignsFit (marked ms) q.assigns

-- a statement is a node, which its act has beside its own
abbrev ActFits : List Mark → ActPart → Type 0
ActFits ms q = ((at : Pos) (mode : Mode) → CodeFits (1 + marked ms) (q.code at mode)) × AssignsFit (1 + marked ms) q.assigns

abbrev ActSmall : NotedAct → Type 0
ActSmall a = ActFits (marks_of_act a) (part_of_act a)

abbrev StmtSmall : NotedStmt → Type 0
StmtSmall s = StmtFits (marks_of_stmt s) (part_of s)

abbrev KeptAct : Type 0
KeptAct = (a : NotedAct) × ActSmall a

abbrev KeptStmt : Type 0
KeptStmt = (s : NotedStmt) × StmtSmall s

abbrev inner_act : Act-F Name Note KeptAct KeptStmt → Act-F Name Note NotedAct NotedStmt
inner_act = map-Act Name Note KeptAct KeptStmt NotedAct NotedStmt (λ k. k.0) (λ k. k.0)

abbrev inner_stmt : Stmt-F Name Note KeptAct KeptStmt → Stmt-F Name Note NotedAct NotedStmt
inner_stmt = map-Stmt Name Note KeptAct KeptStmt NotedAct NotedStmt (λ k. k.0) (λ k. k.0)

abbrev part_act : Act-F Name Note NotedAct NotedStmt → Act-F Name Note ActPart Part
part_act = map-Act Name Note NotedAct NotedStmt ActPart Part part_of_act part_of

abbrev part_stmt : Stmt-F Name Note NotedAct NotedStmt → Stmt-F Name Note ActPart Part
part_stmt = map-Stmt Name Note NotedAct NotedStmt ActPart Part part_of_act part_of

abbrev Marks : Type 0
Marks = List Mark

abbrev held_act : Act-F Name Note NotedAct NotedStmt → Act-F Name Note Marks Marks
held_act = map-Act Name Note NotedAct NotedStmt Marks Marks marks_of_act marks_of_stmt

abbrev held_stmt : Stmt-F Name Note NotedAct NotedStmt → Stmt-F Name Note Marks Marks
held_stmt = map-Stmt Name Note NotedAct NotedStmt Marks Marks marks_of_act marks_of_stmt

-- ---- lists of statements

abbrev inner : List KeptStmt → List NotedStmt
inner ks = map (λ (k : KeptStmt). k.0) ks

all_fit : (ks : List KeptStmt) → CodeFits (marked (concatenation (map marks_of_stmt (inner ks)))) (all_code (map part_of (inner ks)))
all_fit [] p locals result k rest = omega arith
all_fit (s ∷ ks) p locals result k rest =
    let here = (part_of s.0).code p locals result k in
    let j = k + (part_of s.0).literals in
    let behind = all_code (map part_of (inner ks)) p locals result j in
    omega (
      arith,
      ap code_nodes (chained-append here behind rest),
      s.1.0 p locals result k (chained behind rest),
      all_fit ks p locals result j rest,
      marked-append (marks_of_stmt s.0) (concatenation (map marks_of_stmt (inner ks))),
    )

all_assign : (ks : List KeptStmt) → AssignsFit (marked (concatenation (map marks_of_stmt (inner ks)))) (all_assigns (map part_of (inner ks)))
all_assign [] p locals k = omega arith
all_assign (s ∷ ks) p locals k =
    let j = k + (part_of s.0).literals in
    omega (
      arith,
      assigns-append ((part_of s.0).assigns p locals k) (all_assigns (map part_of (inner ks)) p locals j),
      s.1.1 p locals k,
      all_assign ks p locals j,
      marked-append (marks_of_stmt s.0) (concatenation (map marks_of_stmt (inner ks))),
    )

-- ---- statements with parts, some of which may be left out

abbrev PartFits : List Mark → Option Part → Type 0
PartFits ms q = CodeFits (marked ms) (code_if q)

no_part : PartFits [] None
no_part p locals result k rest = omega arith

module _ (p : Typed) (locals : List Variable) (result : CType) (s : Spot) where
  if_most : (k : ℕ) (e : NotedExpr) (ms ns : List Mark) (chosen : Part) (other : Option Part) → CodeFits (marked ms) chosen.code → PartFits ns other
      → (rest : Code) → code_nodes (Code.If s (expr_elaborated p locals k e) (alone (chosen.code p locals result (k + literals_of e))) (alone (code_if other p locals result (k + literals_of e + chosen.literals))) rest)
      ≤ 6 * (1 + marked (marks_of_expr e ++ ms ++ ns)) + code_nodes rest
  if_most k e ms ns chosen other on_chosen on_other rest =
      omega (
        arith,
        value_small p locals k e false,
        on_chosen p locals result (k + literals_of e) End,
        on_other p locals result (k + literals_of e + chosen.literals) End,
        marked-append (marks_of_expr e ++ ms) ns,
        marked-append (marks_of_expr e) ms,
      )

  for_most : (k : ℕ) (e : Option NotedExpr) (ms ns os : List Mark) (first step : Option Part) (body : Part)
      → PartFits ms first → PartFits ns step → CodeFits (marked os) body.code
      → (rest : Code) → code_nodes (chained (code_if first p locals result k ++ one (turns p locals result s (k + literals_if first) e step body)) rest)
      ≤ 6 * (1 + marked (ms ++ marks_of_value e ++ ns ++ os)) + code_nodes rest
  for_most k e ms ns os first step body on_first on_step on_body rest =
      let j = k + literals_if first in
      let loop = turns p locals result s j e step body rest in
      omega (
        arith,
        ap code_nodes (chained-append (code_if first p locals result k) (one (turns p locals result s j e step body)) rest),
        on_first p locals result k loop,
        condition_most p locals j e,
        on_step p locals result (j + literals_of_value e) End,
        on_body p locals result (j + literals_of_value e + literals_if step) End,
        marked-append (ms ++ marks_of_value e ++ ns) os,
        marked-append (ms ++ marks_of_value e) ns,
        marked-append ms (marks_of_value e),
      )

act_step : (y : Act-F Name Note KeptAct KeptStmt) → ActFits (act_marks (held_act (inner_act y))) (act_parts (part_act (inner_act y)))
act_step (Act-F.Block m ks) = ((λ at mode p locals result k rest. omega (arith, all_fit ks p locals result k rest)), (λ p locals k. omega arith))
act_step Act-F.Empty = ((λ at mode p locals result k rest. omega arith), (λ p locals k. omega arith))
act_step (Act-F.Local d) = ((λ at mode p locals result k rest. omega (arith, declared_most p locals (spot at mode) k d rest)), (λ p locals k. omega arith))
act_step (Act-F.Assign e f) = (
  (λ at mode p locals result k rest.
      omega (
        arith,
        assigned_most p locals (spot at mode) (destination_of p locals k e) (k + literals_of e) rest f,
        target_small p locals k e,
        marked-append (marks_of_expr e) (marks_of_expr f),
      )),
  (λ p locals k.
      omega (
        arith,
        target_small p locals k e,
        right_small p locals (k + literals_of e) (is_terminated e.note.ctype) f,
        marked-append (marks_of_expr e) (marks_of_expr f),
      )),
)
act_step (Act-F.Call e) = ((λ at mode p locals result k rest. omega (arith, assigned_most p locals (spot e.pos mode) nowhere k rest e)), (λ p locals k. omega arith))
act_step (Act-F.If e s None) = ((λ at mode p locals result k rest. if_most p locals result (spot at mode) k e (marks_of_stmt s.0) [] (part_of s.0) None s.1.0 no_part rest), (λ p locals k. omega arith))
act_step (Act-F.If e s (Some t)) =
    ((λ at mode p locals result k rest. if_most p locals result (spot at mode) k e (marks_of_stmt s.0) (marks_of_stmt t.0) (part_of s.0) (Some (part_of t.0)) s.1.0 t.1.0 rest), (λ p locals k. omega arith))
act_step (Act-F.While e s) = (
  (λ at mode p locals result k rest.
      omega (arith, value_small p locals k e false, s.1.0 p locals result (k + literals_of e) End, marked-append (marks_of_expr e) (marks_of_stmt s.0))),
  (λ p locals k. omega arith),
)
act_step (Act-F.For None e None s) =
    ((λ at mode p locals result k rest. for_most p locals result (spot at mode) k e [] [] (marks_of_stmt s.0) None None (part_of s.0) no_part no_part s.1.0 rest), (λ p locals k. omega arith))
act_step (Act-F.For None e (Some t) s) =
    ((λ at mode p locals result k rest. for_most p locals result (spot at mode) k e [] (marks_of_stmt t.0) (marks_of_stmt s.0) None (Some (part_of t.0)) (part_of s.0) no_part t.1.0 s.1.0 rest), (λ p locals k. omega arith))
act_step (Act-F.For (Some f) e None s) =
    ((λ at mode p locals result k rest. for_most p locals result (spot at mode) k e (marks_of_stmt f.0) [] (marks_of_stmt s.0) (Some (part_of f.0)) None (part_of s.0) f.1.0 no_part s.1.0 rest), (λ p locals k. omega arith))
act_step (Act-F.For (Some f) e (Some t) s) = (
  (λ at mode p locals result k rest.
      for_most p locals result (spot at mode) k e (marks_of_stmt f.0) (marks_of_stmt t.0) (marks_of_stmt s.0) (Some (part_of f.0)) (Some (part_of t.0)) (part_of s.0) f.1.0 t.1.0 s.1.0 rest),
  (λ p locals k. omega arith),
)
act_step (Act-F.Return e) = ((λ at mode p locals result k rest. omega (arith, returned_most p locals result k e)), (λ p locals k. omega arith))
act_step Act-F.Break = ((λ at mode p locals result k rest. omega arith), (λ p locals k. omega arith))
act_step Act-F.Continue = ((λ at mode p locals result k rest. omega arith), (λ p locals k. omega arith))
act_step (Act-F.Check e) = ((λ at mode p locals result k rest. omega (arith, value_small p locals k e false)), (λ p locals k. omega arith))
act_step (Act-F.Bundle ks) = ((λ at mode p locals result k rest. omega (arith, all_assign ks p locals k)), (λ p locals k. omega arith))

stmt_step : (y : Stmt-F Name Note KeptAct KeptStmt) → StmtFits (stmt_marks (held_stmt (inner_stmt y))) (stmt_parts (part_stmt (inner_stmt y)))
stmt_step y =
    ((λ p locals result k rest. omega (arith, y.body.1.0 y.pos y.note.mode p locals result k rest)), (λ p locals k. omega (arith, y.body.1.1 p locals k)))

carried : {A B : Type 0} (P : A → B → Type 0) {a d : A} {b e : B} → a ≡ d → b ≡ e → P d e → P a b
carried P {a} {d} {b} {e} x y h = subst (λ i. P i b) (sym x) (subst (λ j. P d j) (sym y) h)

act_by : (x : Act-F Name Note NotedAct NotedStmt) (y : Act-F Name Note KeptAct KeptStmt) → inner_act y ≡ x → ActSmall (roll-Act Name Note x)
act_by x y is =
    carried ActFits (fold-roll-Act Name Note Marks Marks act_marks stmt_marks x) (fold-roll-Act Name Note ActPart Part act_parts stmt_parts x)
    (subst (λ z. ActFits (act_marks (held_act z)) (act_parts (part_act z))) is (act_step y))

stmt_by : (x : Stmt-F Name Note NotedAct NotedStmt) (y : Stmt-F Name Note KeptAct KeptStmt) → inner_stmt y ≡ x → StmtSmall (roll-Stmt Name Note x)
stmt_by x y is =
    carried StmtFits (fold-roll-Stmt Name Note Marks Marks act_marks stmt_marks x) (fold-roll-Stmt Name Note ActPart Part act_parts stmt_parts x)
    (subst (λ z. StmtFits (stmt_marks (held_stmt z)) (stmt_parts (part_stmt z))) is (stmt_step y))

-- a statement with none after it
pub stmt_small : (p : Typed) (locals : List Variable) (result : CType) (k : ℕ) (s : NotedStmt)
    → code_nodes (alone ((part_of s).code p locals result k)) ≤ 6 * marked (marks_of_stmt s)
stmt_small p locals result k s = omega (arith, (ind-Stmt Name Note ActSmall StmtSmall act_by stmt_by s).0 p locals result k End)
