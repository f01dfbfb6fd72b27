-- A function of a text that keeps the limits has few locals.
use Rattle.std.proofs.Common.{◌≡◌, ◌∙◌, sym, ap, subst, refl, arith, suc, ◌<◌, ◌≤◌, List, [], ◌∷◌, ◌++◌, map, length, length-append}
use Rattle.std.specs.Prelude.{Option, None, Some}
use Rattle.std.specs.List.{Contains, flat_map}
use Rattle.std.proofs.lemmas.List.Elements.{All-from_recursion}
use Rattle.ckc_base.specs.declared.arithmetic.Mode.{Mode}
use Rattle.ckc_syntax.specs.declared.tree.Name.{Name}
use Rattle.ckc_syntax.specs.declared.tree.Item.TheVariants as item
use Rattle.ckc_syntax.specs.declared.tree.Act.{Act, Act-F, map-Act, roll-Act, fold-roll-Act}
use Rattle.ckc_syntax.specs.declared.tree.Stmt.{Stmt, Stmt-F, map-Stmt, ind-Stmt, roll-Stmt, fold-roll-Stmt}
use Rattle.ckc_syntax.specs.declared.tree.Expr as exprs
use Rattle.ckc_syntax.specs.Inside.{listed, inside_each, inside_if}
use Rattle.ckc_syntax_limits.specs.Marks.{Mark, function, is_local, act_marks, stmt_marks, marks_of_act, marks_of_stmt, marks_of_expr, marks_of_bounds, marks_of_param, marks_of_head, marks_of_item}
use Rattle.ckc_syntax_limits.specs.Small.{Small, SmallItem}
use Rattle.ckc_typed.specs.declared.environment.Variable.{Variable}
use Rattle.ckc_typed.specs.declared.typed.Typed.{Typed}
use Rattle.ckc_typed.specs.Environment.{variable_declared, act_variables, stmt_variables, locals_of, locals_of_act, variables_of}
use Rattle.ckc_typed.specs.Interfaces.{seen, seen_params}
use Rattle.ckc_typed.specs.Trees.{Decl, Head, Item, NotedDecl, NotedHead, NotedStmt}
use Rattle.ckc_typed_welltyped.specs.Noteless.{bare_decl, bare_head, bare_item, bare_stmt}
use Rattle.ckc_source.specs.Code.{Function}
use Rattle.ckc_blame_sound.specs.Settings.{Setting, IsFunction, setting_of}
use Rattle.ckc_blame_sound.specs.JudgedTexts.{IsJudged}
use Rattle.ckc_blame_sound.proofs.Functions.{item_is}
use Rattle.ckc_blame_sound.proofs.Locals.{stmt_declares}
use Rattle.ckc_blame_sound.proofs.Tallies.{tally, is_tally, tally-append}

-- variables are no more than the locals among marks
record IsFew (vs : List Variable) (ms : List Mark) : Type 0 where
  pub few : length vs ≤ tally is_local ms

none : (ms : List Mark) → IsFew [] ms
none ms = record { few = omega arith }

both : (vs ws : List Variable) (ms ns : List Mark) → IsFew vs ms → IsFew ws ns → IsFew (vs ++ ws) (ms ++ ns)
both vs ws ms ns h g =
    let a = h.few in
    let b = g.few in
    record { few = omega (arith, length-append vs ws, tally-append is_local ms ns, a, b) }

-- more marks before
behind : (vs : List Variable) (ms ns : List Mark) → IsFew vs ns → IsFew vs (ms ++ ns)
behind vs ms ns h = both [] vs ms ns (none ms) h

module _ (A : Type 0) where
  abbrev ActFew : Act Name A → Type 0
  ActFew a = IsFew (locals_of_act a) (marks_of_act a)

  abbrev StmtFew : Stmt Name A → Type 0
  StmtFew s = IsFew (locals_of s) (marks_of_stmt s)

  abbrev KeptAct : Type 0
  KeptAct = (a : Act Name A) × ActFew a

  abbrev KeptStmt : Type 0
  KeptStmt = (s : Stmt Name A) × StmtFew s

  abbrev Layer : Type 0
  Layer = Act-F Name A (Act Name A) (Stmt Name A)

  abbrev inner_act : Act-F Name A KeptAct KeptStmt → Layer
  inner_act = map-Act Name A KeptAct KeptStmt (Act Name A) (Stmt Name A) (λ e. e.0) (λ e. e.0)

  abbrev inner_stmt : Stmt-F Name A KeptAct KeptStmt → Stmt-F Name A (Act Name A) (Stmt Name A)
  inner_stmt = map-Stmt Name A KeptAct KeptStmt (Act Name A) (Stmt Name A) (λ e. e.0) (λ e. e.0)

  abbrev variables_in : Layer → Act-F Name A (List Variable) (List Variable)
  variables_in = map-Act Name A (Act Name A) (Stmt Name A) (List Variable) (List Variable) locals_of_act locals_of

  abbrev marks_in : Layer → Act-F Name A (List Mark) (List Mark)
  marks_in = map-Act Name A (Act Name A) (Stmt Name A) (List Mark) (List Mark) marks_of_act marks_of_stmt

  each : (ks : List KeptStmt) → IsFew (inside_each listed (λ vs. vs) (map (λ (s : Stmt Name A). locals_of s) (map (λ (k : KeptStmt). k.0) ks))) (inside_each listed (λ ms. ms) (map (λ (s : Stmt Name A). marks_of_stmt s) (map (λ (k : KeptStmt). k.0) ks)))
  each [] = none []
  each (k ∷ ks) = both (locals_of k.0) _ (marks_of_stmt k.0) _ k.1 (each ks)

  silent : (e : Option (exprs.Expr Name A)) → IsFew (inside_if listed (λ (f : exprs.Expr Name A). []) e) (inside_if listed (λ (f : exprs.Expr Name A). marks_of_expr f) e)
  silent None = none []
  silent (Some e) = none _

  in_for : (e : Option (exprs.Expr Name A)) (vs : List Variable) (ms : List Mark) (us : List Variable) (ns : List Mark) (ws : List Variable) (ls : List Mark) → IsFew vs ms → IsFew us ns → IsFew ws ls
      → IsFew (((vs ++ inside_if listed (λ (f : exprs.Expr Name A). []) e) ++ us) ++ ws) (((ms ++ inside_if listed (λ (f : exprs.Expr Name A). marks_of_expr f) e) ++ ns) ++ ls)
  in_for e vs ms us ns ws ls f g h =
      let one = both vs (inside_if listed (λ (f : exprs.Expr Name A). []) e) ms (inside_if listed (λ (f : exprs.Expr Name A). marks_of_expr f) e) f (silent e) in
      both ((vs ++ inside_if listed (λ (f : exprs.Expr Name A). []) e) ++ us) ws ((ms ++ inside_if listed (λ (f : exprs.Expr Name A). marks_of_expr f) e) ++ ns) ls
      (both (vs ++ inside_if listed (λ (f : exprs.Expr Name A). []) e) us (ms ++ inside_if listed (λ (f : exprs.Expr Name A). marks_of_expr f) e) ns one g) h

  act_step : (y : Act-F Name A KeptAct KeptStmt) → IsFew (act_variables (variables_in (inner_act y))) (act_marks (marks_in (inner_act y)))
  act_step (Act-F.Block m ks) = each ks
  act_step Act-F.Empty = none []
  act_step (Act-F.Local d) = record { few = omega arith }
  act_step (Act-F.Assign e f) = none _
  act_step (Act-F.Call e) = none _
  act_step (Act-F.If e k None) = both (locals_of k.0) [] (marks_of_expr e ++ marks_of_stmt k.0) [] (behind (locals_of k.0) (marks_of_expr e) (marks_of_stmt k.0) k.1) (none [])
  act_step (Act-F.If e k (Some j)) = both (locals_of k.0) (locals_of j.0) (marks_of_expr e ++ marks_of_stmt k.0) (marks_of_stmt j.0) (behind (locals_of k.0) (marks_of_expr e) (marks_of_stmt k.0) k.1) j.1
  act_step (Act-F.While e k) = behind (locals_of k.0) (marks_of_expr e) (marks_of_stmt k.0) k.1
  act_step (Act-F.For None e None k) = in_for e [] [] [] [] (locals_of k.0) (marks_of_stmt k.0) (none []) (none []) k.1
  act_step (Act-F.For None e (Some j) k) = in_for e [] [] (locals_of j.0) (marks_of_stmt j.0) (locals_of k.0) (marks_of_stmt k.0) (none []) j.1 k.1
  act_step (Act-F.For (Some l) e None k) = in_for e (locals_of l.0) (marks_of_stmt l.0) [] [] (locals_of k.0) (marks_of_stmt k.0) l.1 (none []) k.1
  act_step (Act-F.For (Some l) e (Some j) k) = in_for e (locals_of l.0) (marks_of_stmt l.0) (locals_of j.0) (marks_of_stmt j.0) (locals_of k.0) (marks_of_stmt k.0) l.1 j.1 k.1
  act_step (Act-F.Return e) = silent e
  act_step Act-F.Break = none []
  act_step Act-F.Continue = none []
  act_step (Act-F.Check e) = none _
  act_step (Act-F.Bundle ks) = each ks

  act_by : (x : Layer) (y : Act-F Name A KeptAct KeptStmt) → inner_act y ≡ x → ActFew (roll-Act Name A x)
  act_by x y is =
      subst (λ vs. IsFew vs (marks_of_act (roll-Act Name A x))) (sym (fold-roll-Act Name A (List Variable) (List Variable) act_variables stmt_variables x))
      (subst (IsFew (act_variables (variables_in x))) (sym (fold-roll-Act Name A (List Mark) (List Mark) act_marks stmt_marks x))
      (subst (λ z. IsFew (act_variables (variables_in z)) (act_marks (marks_in z))) is (act_step y)))

  stmt_is : (s : Stmt Name A) → ActFew s.body → StmtFew s
  stmt_is s h =
      let S : Stmt-F Name A (Act Name A) (Stmt Name A) = record { body = s.body; pos = s.pos; note = s.note } in
      subst (λ vs. IsFew vs (marks_of_stmt s)) (sym (fold-roll-Stmt Name A (List Variable) (List Variable) act_variables stmt_variables S))
      (subst (IsFew (locals_of_act s.body)) (sym (fold-roll-Stmt Name A (List Mark) (List Mark) act_marks stmt_marks S)) (record { few = (let b = h.few in omega (arith, b)) }))

  stmt_by : (x : Stmt-F Name A (Act Name A) (Stmt Name A)) (y : Stmt-F Name A KeptAct KeptStmt) → inner_stmt y ≡ x → StmtFew (roll-Stmt Name A x)
  stmt_by x y is = subst (λ z. StmtFew (roll-Stmt Name A z)) is (stmt_is (roll-Stmt Name A (inner_stmt y)) y.body.1)

  stmt_few : (s : Stmt Name A) → StmtFew s
  stmt_few = ind-Stmt Name A ActFew StmtFew act_by stmt_by

params_few : (ds : List Decl) → IsFew (map (λ (d : Decl). variable_declared d) ds) (flat_map (λ (d : Decl). marks_of_param d) ds)
params_few [] = none []
params_few (d ∷ ds) =
    both (variable_declared d ∷ []) (map (λ (d : Decl). variable_declared d) ds) (marks_of_param d) (flat_map (λ (d : Decl). marks_of_param d) ds) (record { few = omega arith }) (params_few ds)

bare_params : (mode : Mode) (ds : List NotedDecl) → length (map (λ (d : Decl). variable_declared d) (map bare_decl ds)) ≡ length (map (λ (d : NotedDecl). variable_declared d) (map (seen mode) ds))
bare_params mode [] = refl
bare_params mode (d ∷ ds) = ap (λ n. suc n) (bare_params mode ds)

function_few : (h : Head) (vs : List Variable) (ms : List Mark) → IsFew vs ms → IsFew (map (λ (d : Decl). variable_declared d) h.params ++ vs) (function ∷ marks_of_head h ++ ms)
function_few h vs ms g =
    let p = (params_few h.params).few in
    let b = g.few in
    record {
      few = omega (
        arith,
        length-append (map (λ (d : Decl). variable_declared d) h.params) vs,
        tally-append is_local (flat_map (λ (d : Decl). marks_of_param d) h.params ++ marks_of_bounds h.bounds) ms,
        tally-append is_local (flat_map (λ (d : Decl). marks_of_param d) h.params) (marks_of_bounds h.bounds),
        p,
        b,
      );
    }

pub few_variables : (p : Typed) (j : IsJudged p) (h : NotedHead) (body : NotedStmt) → Small j.named.tree → Contains p.tree.items (item.Function h body) → length (variables_of body.note.mode h body) ≤ 255
few_variables p j h body small c =
    let one : SmallItem (bare_item (item.Function h body)) = item_is p j (λ (i : Item). SmallItem i) (All-from_recursion (λ (i : Item). SmallItem i) j.named.tree.items small.each) (item.Function h body) c in
    let limit = one.body.locals in
    let marks = is_tally is_local (marks_of_item (bare_item (item.Function h body))) in
    let few = (function_few (bare_head h) (locals_of (bare_stmt body)) (marks_of_stmt (bare_stmt body)) (stmt_few (Unit {0}) (bare_stmt body))).few in
    let same = ap length (stmt_declares body).same in
    omega (
      arith,
      limit,
      marks,
      few,
      same,
      bare_params body.note.mode h.params,
      length-append (map (λ (d : NotedDecl). variable_declared d) (seen_params body.note.mode h)) (locals_of body),
      length-append (map (λ (d : Decl). variable_declared d) (map bare_decl h.params)) (locals_of (bare_stmt body)),
    )

pub variables_are : (p : Typed) (h : NotedHead) (body : NotedStmt) → (setting_of p h body).variables ≡ variables_of body.note.mode h body
unfolding setting_of
variables_are p h body = refl

pub few_locals : (p : Typed) (s : Setting) (f : Function) (j : IsJudged p) → Small j.named.tree → IsFunction p s f → length s.variables < 1024
few_locals p s f j small is =
    let few = few_variables p j is.head is.body small is.there in
    let same = ap (λ (r : Setting). length r.variables) is.judged ∙ ap length (variables_are p is.head is.body) in
    omega (arith, few, same)
