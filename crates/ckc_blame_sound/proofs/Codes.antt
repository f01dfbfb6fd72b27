-- Code of which each step has mode Checked, and what statements become that all have it.
use Rattle.std.proofs.Common.{◌≡◌, ℕ, ◌+◌, List, [], ◌∷◌, ◌++◌, sym, subst, refl}
use Rattle.std.specs.Prelude.{Bool, true, false, ◌&&◌, Option, Some, None, map}
use Rattle.ckc_base.specs.declared.arithmetic.Mode.{Mode}
use Rattle.ckc_base.specs.declared.places.Pos.{Pos}
use Rattle.ckc_syntax.specs.Inside.{all_have, inside_each, inside_if}
use Rattle.ckc_syntax.specs.declared.tree.Name.{Name}
use Rattle.ckc_syntax.specs.declared.tree.Name.TheVariants as name
use Rattle.ckc_syntax.specs.declared.tree.Init.TheVariants as init
use Rattle.ckc_syntax.specs.declared.tree.Node.{Node-F, out-Node}
use Rattle.ckc_syntax.specs.declared.tree.Act.{Act-F, map-Act, roll-Act, fold-roll-Act}
use Rattle.ckc_syntax.specs.declared.tree.Stmt.{Stmt-F, map-Stmt, ind-Stmt, roll-Stmt, fold-roll-Stmt}
use Rattle.ckc_types.specs.declared.types.CType.{CType}
use Rattle.ckc_typed.specs.declared.environment.Variable.{Variable}
use Rattle.ckc_typed.specs.declared.typed.Note.{Note}
use Rattle.ckc_typed.specs.declared.typed.Typed.{Typed}
use Rattle.ckc_typed.specs.Trees.{NotedAct, NotedExpr, NotedInit, NotedStmt}
use Rattle.ckc_typed.specs.Types.{type_written}
use Rattle.ckc_source.specs.declared.stmt.Spot.{Spot}
use Rattle.ckc_source.specs.Code.{Code, End, Assign, Bundle, Get, Put, Call, If, Loop, Break, Continue, Return, Check, chained}
use Rattle.ckc_build_values.specs.Expressions.{expr_elaborated, literals_of}
use Rattle.ckc_build_elaborate.specs.Literals.{literals_of_bounds, literals_of_value}
use Rattle.ckc_build_elaborate.specs.Steps.{condition, destination_of, nowhere, Statements, Destination, spot, assigned, assigned_form, called, started, declared, destination_for}
use Rattle.ckc_build_elaborate.specs.Statements.{Part, ActPart, act_parts, stmt_parts, part_of, part_of_act, all_code, code_if, literals_if, turns, alone}
use Rattle.ckc_blame.specs.Checked.{is_checked, act_checked, stmt_checked, checked_act, checked_stmt}

-- Each step of code has mode Checked.
unfoldable pub AreChecked : Code → Type 0
AreChecked End = Unit {0}
AreChecked (Assign spot target right rest) = (is_checked spot.mode ≡ true) × AreChecked rest
AreChecked (Bundle spot assigns rest) = (is_checked spot.mode ≡ true) × AreChecked rest
AreChecked (Get spot target rest) = (is_checked spot.mode ≡ true) × AreChecked rest
AreChecked (Put spot target e rest) = (is_checked spot.mode ≡ true) × AreChecked rest
AreChecked (Call spot target callee es rest) = (is_checked spot.mode ≡ true) × AreChecked rest
AreChecked (If spot e one two rest) = (is_checked spot.mode ≡ true) × AreChecked one × AreChecked two × AreChecked rest
AreChecked (Loop spot e body step rest) = (is_checked spot.mode ≡ true) × AreChecked body × AreChecked step × AreChecked rest
AreChecked (Break rest) = AreChecked rest
AreChecked (Continue rest) = AreChecked rest
AreChecked (Return spot e rest) = (is_checked spot.mode ≡ true) × AreChecked rest
AreChecked (Check spot e rest) = (is_checked spot.mode ≡ true) × AreChecked rest

-- A statement before code that is checked makes code that is.
abbrev pub IsStep : (Code → Code) → Type 0
IsStep f = (rest : Code) → AreChecked rest → AreChecked (f rest)

-- each of some statements does so
unfoldable pub AreSteps : Statements → Type 0
AreSteps [] = Unit {0}
AreSteps (f ∷ fs) = IsStep f × AreSteps fs

steps_append : (fs gs : Statements) → AreSteps fs → AreSteps gs → AreSteps (fs ++ gs)
unfolding AreSteps
steps_append [] gs h k = k
steps_append (f ∷ fs) gs h k = (h.0, steps_append fs gs h.1 k)

chained_checked : (fs : Statements) (rest : Code) → AreSteps fs → AreChecked rest → AreChecked (chained fs rest)
unfolding AreSteps
chained_checked [] rest h k = k
chained_checked (f ∷ fs) rest h k = h.0 (chained fs rest) (chained_checked fs rest h.1 k)

pub alone_checked : (fs : Statements) → AreSteps fs → AreChecked (alone fs)
unfolding AreChecked
alone_checked fs h = chained_checked fs End h tt

one_step : (f : Code → Code) → IsStep f → AreSteps (f ∷ [])
unfolding AreSteps
one_step f h = (h, tt)

-- ---- assignments, calls and declarations

called_step : (p : Typed) (locals : List Variable) (s : Spot) (to : Destination) (k : ℕ) (n : Name) (es : List NotedExpr) (at : Pos)
    → is_checked s.mode ≡ true → IsStep (called p locals s to k n es at)
unfolding AreChecked
called_step p locals s to k (name.Function f) es at c rest h = (c, h)
called_step p locals s to k name.Getchar es at c rest h = (c, h)
called_step p locals s to k name.Putchar es at c rest h = (c, h)
called_step p locals s to k (name.Local x) es at c rest h = (c, h)
called_step p locals s to k (name.Static x) es at c rest h = (c, h)
called_step p locals s to k (name.Tag x) es at c rest h = (c, h)
called_step p locals s to k (name.Member x) es at c rest h = (c, h)

form_step : {L M : Type 0} (p : Typed) (locals : List Variable) (s : Spot) (to : Destination) (k : ℕ) (e : NotedExpr) (node : Node-F Name Note L M NotedExpr)
    → is_checked s.mode ≡ true → IsStep (assigned_form p locals s to k e node)
unfolding AreChecked
form_step p locals s to k e (Node-F.Call n es) c rest h = called_step p locals s to k n es e.pos c rest h
form_step p locals s to k e (Node-F.Number n u) c rest h = (c, h)
form_step p locals s to k e (Node-F.Text bytes) c rest h = (c, h)
form_step p locals s to k e Node-F.Null c rest h = (c, h)
form_step p locals s to k e (Node-F.Name n) c rest h = (c, h)
form_step p locals s to k e (Node-F.Un o a) c rest h = (c, h)
form_step p locals s to k e (Node-F.Bin o a b) c rest h = (c, h)
form_step p locals s to k e (Node-F.Pick a b d) c rest h = (c, h)
form_step p locals s to k e (Node-F.Index a b) c rest h = (c, h)
form_step p locals s to k e (Node-F.Dot a m at) c rest h = (c, h)
form_step p locals s to k e (Node-F.Arrow a m at) c rest h = (c, h)
form_step p locals s to k e (Node-F.Cast t a) c rest h = (c, h)
form_step p locals s to k e (Node-F.Size t) c rest h = (c, h)
form_step p locals s to k e (Node-F.Trusted t a l) c rest h = (c, h)
form_step p locals s to k e (Node-F.Tested t a l) c rest h = (c, h)
form_step p locals s to k e (Node-F.Calloc t n u) c rest h = (c, h)

assigned_step : (p : Typed) (locals : List Variable) (s : Spot) (to : Destination) (k : ℕ) (e : NotedExpr) → is_checked s.mode ≡ true → IsStep (assigned p locals s to k e)
assigned_step p locals s to k e c = form_step p locals s to k e (out-Node Name Note e.node) c

started_step : (p : Typed) (locals : List Variable) (s : Spot) (to : Destination) (k : ℕ) (i : NotedInit) → is_checked s.mode ≡ true → IsStep (started p locals s to k i)
unfolding AreChecked
started_step p locals s to k init.Nothing c rest h = (c, h)
started_step p locals s to k (init.One e) c rest h = assigned_step p locals s to k e c rest h
started_step p locals s to k (init.Many es) c rest h = (c, h)

-- ---- statements

-- what holds of a statement, by whether it is checked and by what it becomes
abbrev ActGood : Bool → ActPart → Type 0
ActGood c part =
    c ≡ true → (at : Pos) (mode : Mode) → is_checked mode ≡ true → (p : Typed) (locals : List Variable) (result : CType) (k : ℕ)
    → AreSteps (part.code at mode p locals result k)

abbrev StmtGood : Bool → Part → Type 0
StmtGood c part = c ≡ true → (p : Typed) (locals : List Variable) (result : CType) (k : ℕ) → AreSteps (part.code p locals result k)

abbrev ActHas : NotedAct → Type 0
ActHas a = ActGood (checked_act a) (part_of_act a)

abbrev StmtHas : NotedStmt → Type 0
StmtHas s = StmtGood (checked_stmt s) (part_of s)

abbrev KeptAct : Type 0
KeptAct = (a : NotedAct) × ActHas a

abbrev KeptStmt : Type 0
KeptStmt = (s : NotedStmt) × StmtHas s

abbrev inner_act : Act-F Name Note KeptAct KeptStmt → Act-F Name Note NotedAct NotedStmt
inner_act = map-Act Name Note KeptAct KeptStmt NotedAct NotedStmt (λ k. k.0) (λ k. k.0)

abbrev inner_stmt : Stmt-F Name Note KeptAct KeptStmt → Stmt-F Name Note NotedAct NotedStmt
inner_stmt = map-Stmt Name Note KeptAct KeptStmt NotedAct NotedStmt (λ k. k.0) (λ k. k.0)

abbrev tests_act : Act-F Name Note NotedAct NotedStmt → Act-F Name Note Bool Bool
tests_act = map-Act Name Note NotedAct NotedStmt Bool Bool checked_act checked_stmt

abbrev tests_stmt : Stmt-F Name Note NotedAct NotedStmt → Stmt-F Name Note Bool Bool
tests_stmt = map-Stmt Name Note NotedAct NotedStmt Bool Bool checked_act checked_stmt

abbrev parts_act : Act-F Name Note NotedAct NotedStmt → Act-F Name Note ActPart Part
parts_act = map-Act Name Note NotedAct NotedStmt ActPart Part part_of_act part_of

abbrev parts_stmt : Stmt-F Name Note NotedAct NotedStmt → Stmt-F Name Note ActPart Part
parts_stmt = map-Stmt Name Note NotedAct NotedStmt ActPart Part part_of_act part_of

-- what is found in the condition of a `for`
abbrev condition_test : Option NotedExpr → Bool
condition_test e = inside_if all_have (λ (f : NotedExpr). true) e

-- of two tests that hold together, each holds
pub left : (a b : Bool) → a && b ≡ true → a ≡ true
left true b e = refl
left false b e = e

pub right : (a b : Bool) → a && b ≡ true → b ≡ true
right true b e = e
right false b e = cc

block_good : (ks : List KeptStmt) → inside_each all_have (λ b. b) (map checked_stmt (map (λ (k : KeptStmt). k.0) ks)) ≡ true
    → (p : Typed) (locals : List Variable) (result : CType) (k : ℕ) → AreSteps (all_code (map part_of (map (λ (k : KeptStmt). k.0) ks)) p locals result k)
unfolding AreSteps
block_good [] c p locals result k = tt
block_good (s ∷ ks) c p locals result k =
    let more : Bool = inside_each all_have (λ b. b) (map checked_stmt (map (λ (k : KeptStmt). k.0) ks)) in
    steps_append ((part_of s.0).code p locals result k) (all_code (map part_of (map (λ (k : KeptStmt). k.0) ks)) p locals result (k + (part_of s.0).literals))
    (s.1 (left (checked_stmt s.0) more c) p locals result k)
    (block_good ks (right (checked_stmt s.0) more c) p locals result (k + (part_of s.0).literals))

-- the same of a part that may be left out
abbrev PartGood : Bool → Option Part → Type 0
PartGood c part = c ≡ true → (p : Typed) (locals : List Variable) (result : CType) (k : ℕ) → AreSteps (code_if part p locals result k)

no_part : (c : Bool) → PartGood c None
unfolding AreSteps
no_part c e p locals result k = tt

if_good : (c d : Bool) (s : Part) (t : Option Part) (e : NotedExpr) → StmtGood c s → PartGood d t → true && c && d ≡ true → (sp : Spot) → is_checked sp.mode ≡ true
    → (p : Typed) (locals : List Variable) (result : CType) (k : ℕ)
    → AreSteps ((If sp (expr_elaborated p locals k e) (alone (s.code p locals result (k + literals_of e))) (alone (code_if t p locals result (k + literals_of e + s.literals)))) ∷ [])
unfolding AreSteps AreChecked
if_good c d s t e good other both sp here p locals result k = (
  (λ rest h. (
    here,
    alone_checked (s.code p locals result (k + literals_of e)) (good (left c d both) p locals result (k + literals_of e)),
    alone_checked (code_if t p locals result (k + literals_of e + s.literals)) (other (right c d both) p locals result (k + literals_of e + s.literals)),
    h,
  )),
  tt,
)

for_good : (a b c d : Bool) (s t : Option Part) (body : Part) (e : Option NotedExpr) → PartGood a s → PartGood c t → StmtGood d body → a && b && c && d ≡ true → (sp : Spot)
    → is_checked sp.mode ≡ true → (p : Typed) (locals : List Variable) (result : CType) (k : ℕ)
    → AreSteps (code_if s p locals result k ++ turns p locals result sp (k + literals_if s) e t body ∷ [])
unfolding AreSteps AreChecked
for_good a b c d s t body e first step good all sp here p locals result k =
    let l : a && b && c ≡ true = left (a && b && c) d all in
    let m : ℕ = k + literals_if s in
    steps_append (code_if s p locals result k) (turns p locals result sp m e t body ∷ [])
    (first (left a b (left (a && b) c l)) p locals result k) (
      (λ rest h. (
        here,
        alone_checked (body.code p locals result (m + literals_of_value e + literals_if t)) (good (right (a && b && c) d all) p locals result (m + literals_of_value e + literals_if t)),
        alone_checked (code_if t p locals result (m + literals_of_value e)) (step (right (a && b) c l) p locals result (m + literals_of_value e)),
        h,
      )),
      tt,
    )

act_step : (y : Act-F Name Note KeptAct KeptStmt) → ActGood (act_checked (tests_act (inner_act y))) (act_parts (parts_act (inner_act y)))
unfolding AreSteps AreChecked
act_step (Act-F.Block m ks) c at mode here p locals result k = block_good ks c p locals result k
act_step Act-F.Empty c at mode here p locals result k = tt
act_step (Act-F.Local d) c at mode here p locals result k =
    one_step (declared p locals (spot at mode) k d)
    (started_step p locals (spot at mode) (destination_for p (type_written d.ctype) d.name) (k + literals_of_bounds d.bounds) d.init here)
act_step (Act-F.Assign e f) c at mode here p locals result k =
    one_step (assigned p locals (spot at mode) (destination_of p locals k e) (k + literals_of e) f)
    (assigned_step p locals (spot at mode) (destination_of p locals k e) (k + literals_of e) f here)
act_step (Act-F.Call e) c at mode here p locals result k = one_step (assigned p locals (spot e.pos mode) nowhere k e) (assigned_step p locals (spot e.pos mode) nowhere k e here)
act_step (Act-F.If e s None) c at mode here p locals result k = if_good (checked_stmt s.0) true (part_of s.0) None e s.1 (no_part true) c (spot at mode) here p locals result k
act_step (Act-F.If e s (Some t)) c at mode here p locals result k =
    if_good (checked_stmt s.0) (checked_stmt t.0) (part_of s.0) (Some (part_of t.0)) e s.1 t.1 c (spot at mode) here p locals result k
act_step (Act-F.While e s) c at mode here p locals result k = (
  (λ rest h. (here, alone_checked ((part_of s.0).code p locals result (k + literals_of e)) (s.1 c p locals result (k + literals_of e)), tt, h)),
  tt,
)
act_step (Act-F.For None e None s) c at mode here p locals result k =
    for_good true (condition_test e) true (checked_stmt s.0) None None (part_of s.0) e (no_part true) (no_part true) s.1 c (spot at mode) here p locals result k
act_step (Act-F.For None e (Some t) s) c at mode here p locals result k =
    for_good true (condition_test e) (checked_stmt t.0) (checked_stmt s.0) None (Some (part_of t.0)) (part_of s.0) e (no_part true) t.1 s.1 c (spot at mode) here p locals result k
act_step (Act-F.For (Some f) e None s) c at mode here p locals result k =
    for_good (checked_stmt f.0) (condition_test e) true (checked_stmt s.0) (Some (part_of f.0)) None (part_of s.0) e f.1 (no_part true) s.1 c (spot at mode) here p locals result k
act_step (Act-F.For (Some f) e (Some t) s) c at mode here p locals result k =
    for_good (checked_stmt f.0) (condition_test e) (checked_stmt t.0) (checked_stmt s.0) (Some (part_of f.0)) (Some (part_of t.0)) (part_of s.0) e f.1 t.1 s.1 c (spot at mode) here p locals result k
act_step (Act-F.Return e) c at mode here p locals result k = ((λ rest h. (here, h)), tt)
act_step Act-F.Break c at mode here p locals result k = ((λ rest h. h), tt)
act_step Act-F.Continue c at mode here p locals result k = ((λ rest h. h), tt)
act_step (Act-F.Check e) c at mode here p locals result k = ((λ rest h. (here, h)), tt)
act_step (Act-F.Bundle ks) c at mode here p locals result k = ((λ rest h. (here, h)), tt)

stmt_step : (y : Stmt-F Name Note KeptAct KeptStmt) → StmtGood (stmt_checked (tests_stmt (inner_stmt y))) (stmt_parts (parts_stmt (inner_stmt y)))
stmt_step y c p locals result k =
    let mode : Mode = y.note.mode in
    y.body.1 (right (is_checked mode) (checked_act y.body.0) c) y.pos mode (left (is_checked mode) (checked_act y.body.0) c) p locals result k

carried : {A B : Type 0} (P : A → B → Type 0) {a c : A} {b d : B} → a ≡ c → b ≡ d → P c d → P a b
carried P {a} {c} {b} {d} x y h = subst (λ i. P i b) (sym x) (subst (λ j. P c j) (sym y) h)

act_by : (x : Act-F Name Note NotedAct NotedStmt) (y : Act-F Name Note KeptAct KeptStmt) → inner_act y ≡ x → ActHas (roll-Act Name Note x)
act_by x y is =
    carried ActGood (fold-roll-Act Name Note Bool Bool act_checked stmt_checked x) (fold-roll-Act Name Note ActPart Part act_parts stmt_parts x)
    (subst (λ z. ActGood (act_checked (tests_act z)) (act_parts (parts_act z))) is (act_step y))

stmt_by : (x : Stmt-F Name Note NotedAct NotedStmt) (y : Stmt-F Name Note KeptAct KeptStmt) → inner_stmt y ≡ x → StmtHas (roll-Stmt Name Note x)
stmt_by x y is =
    carried StmtGood (fold-roll-Stmt Name Note Bool Bool act_checked stmt_checked x) (fold-roll-Stmt Name Note ActPart Part act_parts stmt_parts x)
    (subst (λ z. StmtGood (stmt_checked (tests_stmt z)) (stmt_parts (parts_stmt z))) is (stmt_step y))

stmt_good : (s : NotedStmt) → StmtHas s
stmt_good = ind-Stmt Name Note ActHas StmtHas act_by stmt_by

-- the code of a statement that is checked, with none after it
pub body_checked : (p : Typed) (locals : List Variable) (result : CType) (k : ℕ) (s : NotedStmt) → checked_stmt s ≡ true
    → AreChecked (alone ((part_of s).code p locals result k))
body_checked p locals result k s c = alone_checked ((part_of s).code p locals result k) (stmt_good s c p locals result k)

-- a statement that is checked has mode Checked itself
abbrev HasMode : NotedStmt → Type 0
HasMode s = checked_stmt s ≡ true → is_checked s.note.mode ≡ true

mode_by : (x : Stmt-F Name Note NotedAct NotedStmt) (y : Stmt-F Name Note (NotedAct × Unit {0}) ((s : NotedStmt) × HasMode s)) → map-Stmt Name Note (NotedAct × Unit {0}) ((s : NotedStmt) × HasMode s) NotedAct NotedStmt (λ k. k.0) (λ k. k.0) y ≡ x → HasMode (roll-Stmt Name Note x)
mode_by x y is c =
    left (is_checked x.note.mode) (tests_stmt x).body (subst (λ b. b ≡ true) (fold-roll-Stmt Name Note Bool Bool act_checked stmt_checked x) c)

pub mode_checked : (s : NotedStmt) → HasMode s
mode_checked = ind-Stmt Name Note (λ a. Unit {0}) HasMode (λ x y is. tt) mode_by
