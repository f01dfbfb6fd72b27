-- The locals that a statement declares: in the order in which it runs, and in the order of the text.
use Rattle.std.proofs.Common.{◌≡◌, ◌∙◌, sym, ap, subst, refl, List, [], ◌∷◌, ◌++◌, map, append-nil, append_assoc}
use Rattle.std.specs.Prelude.{Option, Some, None}
use Rattle.std.specs.Option.{option_map}
use Rattle.std.specs.List.Sorted.{IsPermutation}
use Rattle.std.proofs.lemmas.List.{map-append}
use Rattle.std.proofs.lemmas.List.Sorted.{IsPermutation-refl, IsPermutation-append, IsPermutation-append_comm, IsPermutation-trans}
use Rattle.ckc_syntax.specs.declared.tree.Name.{Name}
use Rattle.ckc_syntax.specs.declared.tree.Act.{Act-F, map-Act, roll-Act, fold-roll-Act}
use Rattle.ckc_syntax.specs.declared.tree.Stmt.{Stmt-F, map-Stmt, ind-Stmt, roll-Stmt, fold-roll-Stmt}
use Rattle.ckc_syntax.specs.Inside.{listed, inside_each, inside_if}
use Rattle.ckc_typed.specs.declared.environment.Variable.{Variable}
use Rattle.ckc_typed.specs.declared.typed.Note.{Note}
use Rattle.ckc_typed.specs.Trees.{NotedAct, NotedStmt, NotedExpr, NotedDecl}
use Rattle.ckc_typed.specs.Environment.{variable_declared, act_variables, stmt_variables, locals_of, locals_of_act}
use Rattle.ckc_typed_welltyped.specs.Noteless.{BareAct, BareStmt, act_bared, stmt_bared, bare_expr, bare_act, bare_stmt}
use Rattle.ckc_bounds.specs.ckc_bounds_statements.specs.Paths.{Path, ActPath, act_declared, act_path, stmt_path, path_of_act, path}
use Rattle.ckc_blame_sound.proofs.Bares.{Layer, BareLayer, bared, rolled, placed}
use Rattle.ckc_blame_sound.proofs.KeptTrees.{two}
use Rattle.ckc_blame_sound.proofs.Numbers.{act_names, names_in, stmt_names, names_of_act}

abbrev pub names_declared : List NotedDecl → List Name
names_declared ds = map (λ (d : NotedDecl). d.name) ds

abbrev pub variables_declared : List NotedDecl → List Variable
variables_declared ds = map (λ (d : NotedDecl). variable_declared d) ds

-- what is declared, with the names and the variables of it
pub record IsDeclared (ds : List NotedDecl) (ns : List Name) (vs : List Variable) : Type 0 where
  pub names : names_declared ds ≡ ns
  pub variables : IsPermutation (variables_declared ds) vs

nothing : IsDeclared [] [] []
nothing = record { names = refl; variables = IsPermutation-refl [] }

both : (ds es : List NotedDecl) (ns ms : List Name) (vs ws : List Variable) → IsDeclared ds ns vs → IsDeclared es ms ws → IsDeclared (ds ++ es) (ns ++ ms) (vs ++ ws)
both ds es ns ms vs ws h g = record {
  names = map-append (λ (d : NotedDecl). d.name) ds es ∙ two (λ xs ys. xs ++ ys) h.names g.names;
  variables = subst (λ xs. IsPermutation xs (vs ++ ws)) (sym (map-append (λ (d : NotedDecl). variable_declared d) ds es))
      (IsPermutation-append (variables_declared ds) vs (variables_declared es) ws h.variables g.variables);
}

-- with the variables in another order
moved : (ds : List NotedDecl) (ns : List Name) (vs ws : List Variable) → IsPermutation vs ws → IsDeclared ds ns vs → IsDeclared ds ns ws
moved ds ns vs ws m h = record { names = h.names; variables = IsPermutation-trans (variables_declared ds) vs ws h.variables m }

pub record ActDeclares (a : NotedAct) : Type 0 where
  pub is : IsDeclared (path_of_act a).declared (names_of_act (bare_act a)) (locals_of_act a)
  pub same : locals_of_act (bare_act a) ≡ locals_of_act a

pub record StmtDeclares (s : NotedStmt) : Type 0 where
  pub is : IsDeclared (path s).declared (stmt_names (bare_stmt s)) (locals_of s)
  pub same : locals_of (bare_stmt s) ≡ locals_of s

abbrev KeptAct : Type 0
KeptAct = (a : NotedAct) × ActDeclares a

abbrev KeptStmt : Type 0
KeptStmt = (s : NotedStmt) × StmtDeclares s

abbrev inner_act : Act-F Name Note KeptAct KeptStmt → Layer
inner_act = map-Act Name Note KeptAct KeptStmt NotedAct NotedStmt (λ e. e.0) (λ e. e.0)

abbrev inner_stmt : Stmt-F Name Note KeptAct KeptStmt → Stmt-F Name Note NotedAct NotedStmt
inner_stmt = map-Stmt Name Note KeptAct KeptStmt NotedAct NotedStmt (λ e. e.0) (λ e. e.0)

abbrev act_inside : Layer → Act-F Name Note ActPath Path
act_inside = map-Act Name Note NotedAct NotedStmt ActPath Path path_of_act path

abbrev named : BareLayer → Act-F Name (Unit {0}) (List Name) (List Name)
named = map-Act Name (Unit {0}) (BareAct Name) (BareStmt Name) (List Name) (List Name) names_of_act stmt_names

abbrev variables_in : Layer → Act-F Name Note (List Variable) (List Variable)
variables_in = map-Act Name Note NotedAct NotedStmt (List Variable) (List Variable) locals_of_act locals_of

abbrev firsts : List KeptStmt → List NotedStmt
firsts ks = map (λ (k : KeptStmt). k.0) ks

each : (ks : List KeptStmt) → IsDeclared (inside_each listed (λ (s : Path). s.declared) (map path (firsts ks))) (inside_each listed (λ ns. ns) (map stmt_names (map bare_stmt (firsts ks)))) (inside_each listed (λ vs. vs) (map (λ (s : NotedStmt). locals_of s) (firsts ks)))
each [] = nothing
each (k ∷ ks) = both (path k.0).declared _ (stmt_names (bare_stmt k.0)) _ (locals_of k.0) _ k.1.is (each ks)

abbrev Declares : Layer → Type 0
Declares x = IsDeclared (act_declared (act_inside x)) (act_names (named (bared x))) (act_variables (variables_in x))

-- an expression that may be left out declares nothing
silent : (e : Option NotedExpr) (P : List NotedDecl → List Name → List Variable → Type 0) → P [] [] [] → P (inside_if listed (λ (f : NotedExpr). []) e) (inside_if listed (λ f. []) (option_map bare_expr e)) (inside_if listed (λ (f : NotedExpr). []) e)
silent None P h = h
silent (Some e) P h = h

-- the parts of a `for`, the step after the body, and in the text before it
in_loop : (ds es fs : List NotedDecl) (ns ms ls : List Name) (vs ws us : List Variable) → IsDeclared ds ns vs → IsDeclared es ms ws → IsDeclared fs ls us
    → IsDeclared (ds ++ ([] ++ (es ++ fs))) (ns ++ ([] ++ (ms ++ ls))) (((vs ++ []) ++ us) ++ ws)
in_loop ds es fs ns ms ls vs ws us f g h =
    let one : (vs ++ []) ++ us ≡ vs ++ us = ap (λ xs. xs ++ us) (append-nil vs) in
    let two : (vs ++ us) ++ ws ≡ vs ++ (us ++ ws) = append_assoc vs us ws in
    moved (ds ++ (es ++ fs)) (ns ++ (ms ++ ls)) (vs ++ (ws ++ us)) (((vs ++ []) ++ us) ++ ws)
    (subst (λ xs. IsPermutation (vs ++ (ws ++ us)) xs) (sym (ap (λ xs. xs ++ ws) one ∙ two))
    (IsPermutation-append vs vs (ws ++ us) (us ++ ws) (IsPermutation-refl vs) (IsPermutation-append_comm ws us)))
    (both ds (es ++ fs) ns (ms ++ ls) vs (ws ++ us) f (both es fs ms ls ws us g h))

in_for : (e : Option NotedExpr) (ds : List NotedDecl) (ns : List Name) (vs : List Variable) (es : List NotedDecl) (ms : List Name) (ws : List Variable) (fs : List NotedDecl) (ls : List Name) (us : List Variable)
    → IsDeclared ds ns vs → IsDeclared es ms ws → IsDeclared fs ls us
    → IsDeclared (ds ++ (inside_if listed (λ (g : NotedExpr). []) e ++ (es ++ fs))) (ns ++ (inside_if listed (λ g. []) (option_map bare_expr e) ++ (ms ++ ls))) (((vs ++ inside_if listed (λ (g : NotedExpr). []) e) ++ us) ++ ws)
in_for e ds ns vs es ms ws fs ls us f g h =
    silent e (λ cs bs xs. IsDeclared (ds ++ (cs ++ (es ++ fs))) (ns ++ (bs ++ (ms ++ ls))) (((vs ++ xs) ++ us) ++ ws)) (in_loop ds es fs ns ms ls vs ws us f g h)

act_step : (y : Act-F Name Note KeptAct KeptStmt) → Declares (inner_act y)
act_step (Act-F.Block m ks) = each ks
act_step Act-F.Empty = nothing
act_step (Act-F.Local d) = record { names = refl; variables = IsPermutation-refl (variable_declared d ∷ []) }
act_step (Act-F.Assign e f) = nothing
act_step (Act-F.Call e) = nothing
act_step (Act-F.If e k None) = both (path k.0).declared [] (stmt_names (bare_stmt k.0)) [] (locals_of k.0) [] k.1.is nothing
act_step (Act-F.If e k (Some j)) = both (path k.0).declared (path j.0).declared (stmt_names (bare_stmt k.0)) (stmt_names (bare_stmt j.0)) (locals_of k.0) (locals_of j.0) k.1.is j.1.is
act_step (Act-F.While e k) = k.1.is
act_step (Act-F.For None e None k) = in_for e [] [] [] (path k.0).declared (stmt_names (bare_stmt k.0)) (locals_of k.0) [] [] [] nothing k.1.is nothing
act_step (Act-F.For None e (Some j) k) =
    in_for e [] [] [] (path k.0).declared (stmt_names (bare_stmt k.0)) (locals_of k.0) (path j.0).declared (stmt_names (bare_stmt j.0)) (locals_of j.0) nothing k.1.is j.1.is
act_step (Act-F.For (Some l) e None k) =
    in_for e (path l.0).declared (stmt_names (bare_stmt l.0)) (locals_of l.0) (path k.0).declared (stmt_names (bare_stmt k.0)) (locals_of k.0) [] [] [] l.1.is k.1.is nothing
act_step (Act-F.For (Some l) e (Some j) k) =
    in_for e (path l.0).declared (stmt_names (bare_stmt l.0)) (locals_of l.0) (path k.0).declared (stmt_names (bare_stmt k.0)) (locals_of k.0)
    (path j.0).declared (stmt_names (bare_stmt j.0)) (locals_of j.0) l.1.is k.1.is j.1.is
act_step (Act-F.Return e) = silent e (λ ds ns vs. IsDeclared ds ns vs) nothing
act_step Act-F.Break = nothing
act_step Act-F.Continue = nothing
act_step (Act-F.Check e) = nothing
act_step (Act-F.Bundle ks) = each ks

-- ---- the same without notes

abbrev variables_bare : BareLayer → Act-F Name (Unit {0}) (List Variable) (List Variable)
variables_bare = map-Act Name (Unit {0}) (BareAct Name) (BareStmt Name) (List Variable) (List Variable) locals_of_act locals_of

each_same : (ks : List KeptStmt) → inside_each listed (λ vs. vs) (map (λ (s : BareStmt Name). locals_of s) (map bare_stmt (firsts ks))) ≡ inside_each listed (λ vs. vs) (map (λ (s : NotedStmt). locals_of s) (firsts ks))
each_same [] = refl
each_same (k ∷ ks) = two (λ xs ys. xs ++ ys) k.1.same (each_same ks)

silent_same : (e : Option NotedExpr) → inside_if {X = List Variable} listed (λ f. []) (option_map bare_expr e) ≡ inside_if listed (λ (f : NotedExpr). []) e
silent_same None = refl
silent_same (Some e) = refl

for_same : (e : Option NotedExpr) {vs ws us vs' ws' us' : List Variable} → vs' ≡ vs → us' ≡ us → ws' ≡ ws
    → ((vs' ++ inside_if listed (λ f. []) (option_map bare_expr e)) ++ us') ++ ws' ≡ ((vs ++ inside_if listed (λ (f : NotedExpr). []) e) ++ us) ++ ws
for_same e f g h = two (λ xs ys. xs ++ ys) (two (λ xs ys. xs ++ ys) (two (λ xs ys. xs ++ ys) f (silent_same e)) g) h

step_same : (y : Act-F Name Note KeptAct KeptStmt) → act_variables (variables_bare (bared (inner_act y))) ≡ act_variables (variables_in (inner_act y))
step_same (Act-F.Block m ks) = each_same ks
step_same Act-F.Empty = refl
step_same (Act-F.Local d) = refl
step_same (Act-F.Assign e f) = refl
step_same (Act-F.Call e) = refl
step_same (Act-F.If e k None) = ap (λ xs. xs ++ []) k.1.same
step_same (Act-F.If e k (Some j)) = two (λ xs ys. xs ++ ys) k.1.same j.1.same
step_same (Act-F.While e k) = k.1.same
step_same (Act-F.For None e None k) = for_same e {vs = []} {us = []} {vs' = []} {us' = []} refl refl k.1.same
step_same (Act-F.For None e (Some j) k) = for_same e {vs = []} {vs' = []} refl j.1.same k.1.same
step_same (Act-F.For (Some l) e None k) = for_same e {us = []} {us' = []} l.1.same refl k.1.same
step_same (Act-F.For (Some l) e (Some j) k) = for_same e l.1.same j.1.same k.1.same
step_same (Act-F.Return e) = silent_same e
step_same Act-F.Break = refl
step_same Act-F.Continue = refl
step_same (Act-F.Check e) = refl
step_same (Act-F.Bundle ks) = each_same ks

act_same : (x : Layer) → act_variables (variables_bare (bared x)) ≡ act_variables (variables_in x) → locals_of_act (bare_act (roll-Act Name Note x)) ≡ locals_of_act (roll-Act Name Note x)
act_same x h =
    ap locals_of_act (fold-roll-Act Name Note (BareAct Name) (BareStmt Name) act_bared stmt_bared x)
    ∙ fold-roll-Act Name (Unit {0}) (List Variable) (List Variable) act_variables stmt_variables (bared x) ∙ h
    ∙ sym (fold-roll-Act Name Note (List Variable) (List Variable) act_variables stmt_variables x)

stmt_same : (x : Stmt-F Name Note NotedAct NotedStmt) → locals_of_act (bare_act x.body) ≡ locals_of_act x.body → locals_of (bare_stmt (roll-Stmt Name Note x)) ≡ locals_of (roll-Stmt Name Note x)
stmt_same x h =
    ap (λ (b : BareStmt Name). locals_of b) (fold-roll-Stmt Name Note (BareAct Name) (BareStmt Name) act_bared stmt_bared x)
    ∙ fold-roll-Stmt Name (Unit {0}) (List Variable) (List Variable) act_variables stmt_variables (record { body = bare_act x.body; pos = x.pos; note = tt }) ∙ h
    ∙ sym (fold-roll-Stmt Name Note (List Variable) (List Variable) act_variables stmt_variables x)

act_by : (x : Layer) (y : Act-F Name Note KeptAct KeptStmt) → inner_act y ≡ x → ActDeclares (roll-Act Name Note x)
act_by x y is = record {
  is = subst (λ z. IsDeclared (path_of_act z).declared (names_of_act (bare_act z)) (locals_of_act z)) (ap (roll-Act Name Note) is) (here (inner_act y) (act_step y));
  same = subst (λ z. locals_of_act (bare_act z) ≡ locals_of_act z) (ap (roll-Act Name Note) is) (act_same (inner_act y) (step_same y));
}
  where
    here : (x : Layer) → Declares x → IsDeclared (path_of_act (roll-Act Name Note x)).declared (names_of_act (bare_act (roll-Act Name Note x))) (locals_of_act (roll-Act Name Note x))
    here x h =
        let paths : (path_of_act (roll-Act Name Note x)).declared ≡ act_declared (act_inside x) = ap (λ (p : ActPath). p.declared) (fold-roll-Act Name Note ActPath Path act_path stmt_path x) in
        let bares : bare_act (roll-Act Name Note x) ≡ rolled (bared x) = fold-roll-Act Name Note (BareAct Name) (BareStmt Name) act_bared stmt_bared x in
        let names : names_of_act (bare_act (roll-Act Name Note x)) ≡ act_names (named (bared x)) = ap names_of_act bares ∙ fold-roll-Act Name (Unit {0}) (List Name) (List Name) act_names names_in (bared x) in
        let variables : locals_of_act (roll-Act Name Note x) ≡ act_variables (variables_in x) = fold-roll-Act Name Note (List Variable) (List Variable) act_variables stmt_variables x in
        record {
          names = ap names_declared paths ∙ h.names ∙ sym names;
          variables = subst (λ ds. IsPermutation (variables_declared ds) (locals_of_act (roll-Act Name Note x))) (sym paths) (subst (λ vs. IsPermutation (variables_declared (act_declared (act_inside x))) vs) (sym variables) h.variables);
        }

stmt_by : (x : Stmt-F Name Note NotedAct NotedStmt) (y : Stmt-F Name Note KeptAct KeptStmt) → inner_stmt y ≡ x → StmtDeclares (roll-Stmt Name Note x)
stmt_by x y is = record {
  is = subst (λ z. IsDeclared (path z).declared (stmt_names (bare_stmt z)) (locals_of z)) (ap (roll-Stmt Name Note) is) (here (inner_stmt y) y.body.1.is);
  same = subst (λ z. locals_of (bare_stmt z) ≡ locals_of z) (ap (roll-Stmt Name Note) is) (stmt_same (inner_stmt y) y.body.1.same);
}
  where
    here : (x : Stmt-F Name Note NotedAct NotedStmt) → IsDeclared (path_of_act x.body).declared (names_of_act (bare_act x.body)) (locals_of_act x.body)
        → IsDeclared (path (roll-Stmt Name Note x)).declared (stmt_names (bare_stmt (roll-Stmt Name Note x))) (locals_of (roll-Stmt Name Note x))
    here x h =
        let paths : (path (roll-Stmt Name Note x)).declared ≡ (path_of_act x.body).declared = ap (λ (p : Path). p.declared) (fold-roll-Stmt Name Note ActPath Path act_path stmt_path x) in
        let bares : bare_stmt (roll-Stmt Name Note x) ≡ placed x.pos (bare_act x.body) = fold-roll-Stmt Name Note (BareAct Name) (BareStmt Name) act_bared stmt_bared x in
        let names : stmt_names (bare_stmt (roll-Stmt Name Note x)) ≡ names_of_act (bare_act x.body) = ap stmt_names bares ∙ fold-roll-Stmt Name (Unit {0}) (List Name) (List Name) act_names names_in (record { body = bare_act x.body; pos = x.pos; note = tt }) in
        let variables : locals_of (roll-Stmt Name Note x) ≡ locals_of_act x.body = fold-roll-Stmt Name Note (List Variable) (List Variable) act_variables stmt_variables x in
        record {
          names = ap names_declared paths ∙ h.names ∙ sym names;
          variables = subst (λ ds. IsPermutation (variables_declared ds) (locals_of (roll-Stmt Name Note x))) (sym paths) (subst (λ vs. IsPermutation (variables_declared (path_of_act x.body).declared) vs) (sym variables) h.variables);
        }

-- the locals that a statement declares
pub stmt_declares : (s : NotedStmt) → StmtDeclares s
stmt_declares = ind-Stmt Name Note ActDeclares StmtDeclares act_by stmt_by
