-- The parts of a statement in the body of a function stand there too.
use Rattle.std.proofs.Common.{◌≡◌, refl, sym, ap, subst, ◌∙◌, ℕ, ◌≤◌, Bool, true, List, [], ◌∷◌, ◌++◌, length, map, arith, rules}
use Rattle.std.specs.Prelude.{not, ◌&&◌, ◌||◌, Option, None, Some, unwrap_or, IfSome}
use Rattle.std.specs.Option.{option_map}
use Rattle.std.specs.List.{AllByRecursion, Contains}
use Rattle.std.proofs.lemmas.List.Elements.{Contains-append_left, Contains-append_right}
use Rattle.ckc_base.specs.declared.places.Pos.{Pos}
use Rattle.ckc_base.specs.declared.arithmetic.Mode.{Mode}
use Rattle.ckc_syntax.specs.Inside.{listed, all_have, inside_each, inside_if}
use Rattle.ckc_syntax.specs.declared.tree.Name.{Name}
use Rattle.ckc_syntax.specs.declared.tree.Name.TheVariants as name
use Rattle.ckc_syntax.specs.declared.tree.Act.{Act-F, map-Act, out-Act, roll-Act, fold-roll-Act, the_lemmas}
use Rattle.ckc_syntax.specs.declared.tree.Stmt.{fold-roll-Stmt}
use Rattle.ckc_typed.specs.declared.typed.Note.{Note}
use Rattle.ckc_typed.specs.Environment.{variable_declared}
use Rattle.ckc_typed.specs.Trees.{NotedAct, NotedDecl, NotedExpr, NotedStmt}
use Rattle.ckc_typed_welltyped.specs.Productions.{Given, begins, steps, callless_expr, callless_value, given_act, given_stmt}
use Rattle.ckc_typed_welltyped.specs.Statements as rows
use Rattle.ckc_typed_welltyped.specs.Statements.{act_rows, mode_in_form, WellTypedStmt}
use Rattle.ckc_typed_welltyped.specs.Parts.{StmtByParts}
use Rattle.ckc_typed_welltyped.proofs.ByParts.{stmt_by_parts}
use Rattle.ckc_blame_sound.specs.ckc_bounds_known.proofs.Reaching.{and_cases}
use Rattle.ckc_blame_sound.specs.ckc_bounds_statements.specs.Paths.{Path, ActPath, act_declared, act_path, stmt_path, path_of_act, path, stated}
use Rattle.ckc_blame_sound.specs.Settings.{Setting}
use Rattle.ckc_blame_sound.specs.Words.{HasWords, exprs_of_act, exprs_in, HaveWords}
use Rattle.ckc_blame_sound.specs.Safe.{IsSafe, AreSafe}
use Rattle.ckc_blame_sound.specs.Given.{AreGiven}
use Rattle.ckc_blame_sound.specs.Sized.{IsSized, AllocateSizes}
use Rattle.ckc_blame_sound.specs.Bodies.{globals_of_text, IsInBody, IsTestInBody}
use Rattle.ckc_blame_sound.proofs.Given.{given_inside, given_rolled}
use Rattle.ckc_blame_sound.proofs.Words.{exprs_inside, exprs_rolled}

abbrev Layer : Type 0
Layer = Act-F Name Note NotedAct NotedStmt

abbrev act_inside : Layer → Act-F Name Note ActPath Path
act_inside = map-Act Name Note NotedAct NotedStmt ActPath Path path_of_act path

declared_is : (at : Pos) (note : Note) (x : Layer) → (path (stated at note (roll-Act Name Note x))).declared ≡ act_declared (act_inside x)
declared_is at note x =
    ap (λ (p : Path). p.declared) (fold-roll-Stmt Name Note ActPath Path act_path stmt_path (record { body = roll-Act Name Note x; pos = at; note = note }))
    ∙ ap (λ (p : ActPath). p.declared) (fold-roll-Act Name Note ActPath Path act_path stmt_path x)

act_out : (x : Layer) → out-Act Name Note (roll-Act Name Note x) ≡ x
act_out x = search (rules, the_lemmas)

module _ (s : Setting) where
  -- what is so of the parts
  abbrev pub PartsInBody : Mode → Layer → Type 0
  PartsInBody mode (Act-F.Block m ss) = AllByRecursion (IsInBody s) ss
  PartsInBody mode (Act-F.If e u t) = IsTestInBody s mode (Some e) × IsInBody s u × IfSome t (IsInBody s)
  PartsInBody mode (Act-F.While e u) = IsTestInBody s mode (Some e) × IsInBody s u
  PartsInBody mode (Act-F.For u e t b) = IfSome u (IsInBody s) × IsTestInBody s mode e × IfSome t (IsInBody s) × IsInBody s b
  PartsInBody mode a = Unit {0}

  -- What is declared in a part is among the variables and no parameter, the literals of its expressions are words, they
  -- are safe, and what they allocate has sizes.
  record Own (ds : List NotedDecl) (es : List NotedExpr) : Type 0 where
    pub known : (d : NotedDecl) → Contains ds d → Contains s.variables (variable_declared d)
    pub late : (d : NotedDecl) (k : ℕ) → Contains ds d → d.name ≡ name.Local k → length s.head.params ≤ k
    pub words : HaveWords s.text → (e : NotedExpr) → Contains es e → HasWords e
    pub safe : AreSafe s.text → (e : NotedExpr) → Contains es e → IsSafe e
    pub sized : AllocateSizes s.text → (e : NotedExpr) → Contains es e → IsSized s.text.layout e

  front : (ds cs : List NotedDecl) (es fs : List NotedExpr) → Own (ds ++ cs) (es ++ fs) → Own ds es
  front ds cs es fs h = record {
    known = λ d c. h.known d (Contains-append_left ds cs d c);
    late = λ d k c. h.late d k (Contains-append_left ds cs d c);
    words = λ w e c. h.words w e (Contains-append_left es fs e c);
    safe = λ w e c. h.safe w e (Contains-append_left es fs e c);
    sized = λ w e c. h.sized w e (Contains-append_left es fs e c);
  }

  back : (ds cs : List NotedDecl) (es fs : List NotedExpr) → Own (ds ++ cs) (es ++ fs) → Own cs fs
  back ds cs es fs h = record {
    known = λ d c. h.known d (Contains-append_right ds cs d c);
    late = λ d k c. h.late d k (Contains-append_right ds cs d c);
    words = λ w e c. h.words w e (Contains-append_right es fs e c);
    safe = λ w e c. h.safe w e (Contains-append_right es fs e c);
    sized = λ w e c. h.sized w e (Contains-append_right es fs e c);
  }

  abbrev Fits : NotedStmt → Mode → Bool → Type 0
  Fits = WellTypedStmt (globals_of_text s.text) s.variables s.result

  -- the grammar gives a part, if it gives the bodies of the text
  abbrev IfGiven : Bool → Type 0
  IfGiven given = AreGiven s.text → given ≡ true

  abbrev Fine : NotedStmt → Type 0
  Fine st = IfGiven (given_stmt st).fine

  abbrev fine_if : Option NotedStmt → Bool
  fine_if u = inside_if all_have (λ (g : Given). g.fine) (option_map given_stmt u)

  own : (st : NotedStmt) (m : Mode) (l : Bool) → Fits st m l → Own (path st).declared (exprs_in st) → Fine st → IsInBody s st
  own st m l w k g = record { mode = m; looped = l; typed = w; known = k.known; words = k.words; safe = k.safe; late = k.late; given = g; sized = k.sized }

  abbrev declared_each : List NotedStmt → List NotedDecl
  declared_each ss = inside_each listed (λ (v : Path). v.declared) (map path ss)

  abbrev exprs_each : List NotedStmt → List NotedExpr
  exprs_each ss = inside_each listed (λ (es : List NotedExpr). es) (map exprs_in ss)

  abbrev fine_each : List NotedStmt → Bool
  fine_each ss = inside_each all_have (λ (g : Given). g.fine) (map given_stmt ss)

  each : (ss : List NotedStmt) (m : Mode) (l : Bool) → AllByRecursion (λ st. Fits st m l) ss → Own (declared_each ss) (exprs_each ss) → IfGiven (fine_each ss) → AllByRecursion (IsInBody s) ss
  each [] m l w k g = tt
  each (st ∷ ss) m l w k g = (
    own st m l w.0 (front (path st).declared (declared_each ss) (exprs_in st) (exprs_each ss) k) (λ h. (and_cases (given_stmt st).fine (fine_each ss) (g h)).0),
    each ss m l w.1 (back (path st).declared (declared_each ss) (exprs_in st) (exprs_each ss) k) (λ h. (and_cases (given_stmt st).fine (fine_each ss) (g h)).1),
  )

  abbrev none_in : Option NotedExpr → List NotedDecl
  none_in e = inside_if listed (λ (f : NotedExpr). []) e

  abbrev tests_in : Option NotedExpr → List NotedExpr
  tests_in e = inside_if listed (λ (f : NotedExpr). f ∷ []) e

  test : (e : Option NotedExpr) (m : Mode) → IfSome e (rows.IsCondition (globals_of_text s.text) s.variables m) → Own (none_in e) (tests_in e) → IfGiven (callless_value e) → IsTestInBody s m e
  test None m w k g = record { typed = w; words = λ h. tt; safe = λ h. tt; given = g }
  test (Some e) m w k g = record { typed = w; words = λ h. k.words h e (0, omega arith, refl); safe = λ h. k.safe h e (0, omega arith, refl); given = g }

  -- a condition, and a statement after it
  tested : (e : NotedExpr) (u : NotedStmt) (m n : Mode) (l : Bool) → rows.IsCondition (globals_of_text s.text) s.variables m e → Fits u n l → Own (path u).declared (e ∷ exprs_in u)
      → IfGiven (callless_expr e && (given_stmt u).fine) → IsTestInBody s m (Some e) × IsInBody s u
  tested e u m n l w v k g = (
    test (Some e) m w (front [] (path u).declared (e ∷ []) (exprs_in u) k) (λ h. (and_cases (callless_expr e) (given_stmt u).fine (g h)).0),
    own u n l v (back [] (path u).declared (e ∷ []) (exprs_in u) k) (λ h. (and_cases (callless_expr e) (given_stmt u).fine (g h)).1),
  )

  abbrev path_declared : Option NotedStmt → List NotedDecl
  path_declared None = []
  path_declared (Some u) = (path u).declared

  abbrev exprs_there : Option NotedStmt → List NotedExpr
  exprs_there None = []
  exprs_there (Some u) = exprs_in u

  maybe : (u : Option NotedStmt) (m : Mode) (l : Bool) → IfSome u (λ v. Fits v m l) → Own (path_declared u) (exprs_there u) → IfGiven (fine_if u) → IfSome u (IsInBody s)
  maybe None m l w k g = tt
  maybe (Some u) m l w k g = own u m l w k g

  -- what begins a `for` is given, and so is what steps it
  begins_given : (u : Option NotedStmt) → begins (option_map given_stmt u) ≡ true → fine_if u ≡ true
  begins_given None h = refl
  begins_given (Some u) h = (and_cases (given_stmt u).fine ((given_stmt u).declares || (given_stmt u).assigns) h).0

  steps_given : (u : Option NotedStmt) → steps (option_map given_stmt u) ≡ true → fine_if u ≡ true
  steps_given None h = refl
  steps_given (Some u) h = (and_cases (given_stmt u).fine (not (given_stmt u).jumps) h).0

  for_given : (u : Option NotedStmt) (e : Option NotedExpr) (t : Option NotedStmt) (b : NotedStmt)
      → (begins (option_map given_stmt u) && (callless_value e && (steps (option_map given_stmt t) && (given_stmt b).fine))) ≡ true
      → (fine_if u ≡ true) × (callless_value e ≡ true) × (fine_if t ≡ true) × ((given_stmt b).fine ≡ true)
  for_given u e t b h =
      let first = and_cases (begins (option_map given_stmt u)) (callless_value e && (steps (option_map given_stmt t) && (given_stmt b).fine)) h in
      let second = and_cases (callless_value e) (steps (option_map given_stmt t) && (given_stmt b).fine) first.1 in
      let third = and_cases (steps (option_map given_stmt t)) (given_stmt b).fine second.1 in
      (begins_given u first.0, second.0, steps_given t third.0, third.1)

  -- the parts of a `for`
  abbrev ForParts : Mode → Option NotedStmt → Option NotedExpr → Option NotedStmt → NotedStmt → Type 0
  ForParts m u e t b = IfSome u (IsInBody s) × IsTestInBody s m e × IfSome t (IsInBody s) × IsInBody s b

  for_parts : (u : Option NotedStmt) (e : Option NotedExpr) (t : Option NotedStmt) (b : NotedStmt) (m : Mode) (l : Bool) → IfSome u (λ v. Fits v m l)
      → IfSome e (rows.IsCondition (globals_of_text s.text) s.variables m) → IfSome t (λ v. Fits v m l) → Fits b m true
      → Own (path_declared u ++ (none_in e ++ ((path b).declared ++ path_declared t))) (exprs_there u ++ (tests_in e ++ (exprs_in b ++ exprs_there t)))
      → IfGiven (begins (option_map given_stmt u) && (callless_value e && (steps (option_map given_stmt t) && (given_stmt b).fine))) → ForParts m u e t b
  for_parts u e t b m l wu we wt wb k g =
      let ds : List NotedDecl = (path b).declared ++ path_declared t in
      let es : List NotedExpr = exprs_in b ++ exprs_there t in
      let rest : Own (none_in e ++ ds) (tests_in e ++ es) = back (path_declared u) (none_in e ++ ds) (exprs_there u) (tests_in e ++ es) k in
      let last : Own ds es = back (none_in e) ds (tests_in e) es rest in
      let parts_given = λ (h : AreGiven s.text). for_given u e t b (g h) in (
        maybe u m l wu (front (path_declared u) (none_in e ++ ds) (exprs_there u) (tests_in e ++ es) k) (λ h. (parts_given h).0),
        test e m we (front (none_in e) ds (tests_in e) es rest) (λ h. (parts_given h).1),
        maybe t m l wt (back (path b).declared (path_declared t) (exprs_in b) (exprs_there t) last) (λ h. (parts_given h).2),
        own b m true wb (front (path b).declared (path_declared t) (exprs_in b) (exprs_there t) last) (λ h. (parts_given h).3),
      )

  parts : (x : Layer) (m : Mode) (l : Bool) → act_rows (globals_of_text s.text) s.variables s.result Fits x m l → Own (act_declared (act_inside x)) (exprs_of_act (exprs_inside x)) → IfGiven (given_act (given_inside x)).fine
      → PartsInBody m x
  parts (Act-F.Block n ss) m l w k g = each ss (unwrap_or n m) l w k g
  parts (Act-F.If e u None) m l w k g =
      let p = tested e u m m l w.0 w.1 (front (path u).declared [] (e ∷ exprs_in u) [] k) (λ h. (and_cases (callless_expr e && (given_stmt u).fine) true (g h)).0) in
      (p.0, p.1, tt)
  parts (Act-F.If e u (Some t)) m l w k g =
      let both = λ (h : AreGiven s.text). and_cases (callless_expr e && (given_stmt u).fine) (given_stmt t).fine (g h) in
      let p = tested e u m m l w.0 w.1 (front (path u).declared (path t).declared (e ∷ exprs_in u) (exprs_in t) k) (λ h. (both h).0) in
      (p.0, p.1, own t m l w.2 (back (path u).declared (path t).declared (e ∷ exprs_in u) (exprs_in t) k) (λ h. (both h).1))
  parts (Act-F.While e u) m l w k g = tested e u m m true w.0 w.1 k g
  parts (Act-F.For None e None b) m l w k g = for_parts None e None b m l w.0 w.1 w.2 w.3 k g
  parts (Act-F.For None e (Some t) b) m l w k g = for_parts None e (Some t) b m l w.0 w.1 w.2 w.3 k g
  parts (Act-F.For (Some u) e None b) m l w k g = for_parts (Some u) e None b m l w.0 w.1 w.2 w.3 k g
  parts (Act-F.For (Some u) e (Some t) b) m l w k g = for_parts (Some u) e (Some t) b m l w.0 w.1 w.2 w.3 k g
  parts Act-F.Empty m l w k g = tt
  parts (Act-F.Local d) m l w k g = tt
  parts (Act-F.Assign e f) m l w k g = tt
  parts (Act-F.Call e) m l w k g = tt
  parts (Act-F.Return e) m l w k g = tt
  parts Act-F.Break m l w k g = tt
  parts Act-F.Continue m l w k g = tt
  parts (Act-F.Check e) m l w k g = tt
  parts (Act-F.Bundle ss) m l w k g = tt

  -- each part that is a condition stands in the mode that the statement notes
  moded : (x : Layer) (m n : Mode) → n ≡ mode_in_form m x → PartsInBody m x → PartsInBody n x
  moded (Act-F.If e u t) m n same h = subst (λ k. PartsInBody k (Act-F.If e u t)) (sym same) h
  moded (Act-F.While e u) m n same h = subst (λ k. PartsInBody k (Act-F.While e u)) (sym same) h
  moded (Act-F.For u e t b) m n same h = subst (λ k. PartsInBody k (Act-F.For u e t b)) (sym same) h
  moded (Act-F.Block o ss) m n same h = h
  moded Act-F.Empty m n same h = tt
  moded (Act-F.Local d) m n same h = tt
  moded (Act-F.Assign e f) m n same h = tt
  moded (Act-F.Call e) m n same h = tt
  moded (Act-F.Return e) m n same h = tt
  moded Act-F.Break m n same h = tt
  moded Act-F.Continue m n same h = tt
  moded (Act-F.Check e) m n same h = tt
  moded (Act-F.Bundle ss) m n same h = tt

  pub parts_inside : (at : Pos) (note : Note) (x : Layer) → IsInBody s (stated at note (roll-Act Name Note x)) → PartsInBody note.mode x
  parts_inside at note x h =
      let st : NotedStmt = stated at note (roll-Act Name Note x) in
      let p : StmtByParts (globals_of_text s.text) s.variables s.result st h.mode h.looped = (stmt_by_parts (globals_of_text s.text) s.variables s.result st h.mode h.looped).0 h.typed in
      moded x h.mode note.mode (ap (λ (n : Note). n.mode) p.noted ∙ ap (mode_in_form h.mode) (act_out x))
      (parts x h.mode h.looped
      (subst (λ y. act_rows (globals_of_text s.text) s.variables s.result Fits y h.mode h.looped) (act_out x) p.row)
      (record {
        known = subst (λ ds. (d : NotedDecl) → Contains ds d → Contains s.variables (variable_declared d)) (declared_is at note x) h.known;
        late = subst (λ ds. (d : NotedDecl) (k : ℕ) → Contains ds d → d.name ≡ name.Local k → length s.head.params ≤ k) (declared_is at note x) h.late;
        words = λ w. subst (λ es. (e : NotedExpr) → Contains es e → HasWords e) (exprs_rolled at note x) (h.words w);
        safe = λ w. subst (λ es. (e : NotedExpr) → Contains es e → IsSafe e) (exprs_rolled at note x) (h.safe w);
        sized = λ w. subst (λ es. (e : NotedExpr) → Contains es e → IsSized s.text.layout e) (exprs_rolled at note x) (h.sized w);
      })
      (λ w. subst (λ (g : Given). g.fine ≡ true) (given_rolled at note x) (h.given w)))
