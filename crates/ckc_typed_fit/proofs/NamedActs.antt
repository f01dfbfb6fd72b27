-- What holds of a statement and the one that it becomes, part by part.
use Rattle.std.proofs.Common.{◌≡◌, sym, ap, refl, subst, List, [], ◌∷◌, map, rules}
use Rattle.std.specs.Prelude.{Ok, Err, Option, Some, None}
use Rattle.ckc_base.specs.declared.arithmetic.Mode.{Mode}
use Rattle.ckc_base.specs.Outcomes.{Outcome, bind, in_turn}
use Rattle.ckc_syntax.specs.declared.tree.Name.{Name}
use Rattle.ckc_syntax.specs.declared.tree.Act.{Act-F, map-Act, ind-Act, roll-Act, out-Act, fold-roll-Act, the_lemmas}
use Rattle.ckc_syntax.specs.declared.tree.Act.TheVariants as act
use Rattle.ckc_syntax.specs.declared.tree.Stmt.{Stmt-F, map-Stmt, ind-Stmt, roll-Stmt, fold-roll-Stmt}
use Rattle.ckc_resolve.specs.declared.names.Names.{Names}
use Rattle.ckc_resolve.specs.declared.scopes.Scopes.{Scopes}
use Rattle.ckc_resolve.specs.Spellings.{Spelling}
use Rattle.ckc_resolve.specs.Trees.{Decl, Expr, Act, Stmt, NamedDecl, NamedExpr, NamedAct, NamedStmt}
use Rattle.ckc_resolve.specs.Scoping.{opened, closed}
use Rattle.ckc_resolve.specs.Declarations.{local_named}
use Rattle.ckc_resolve.specs.Expressions.{expr_named, maybe_named}
use Rattle.ckc_resolve.specs.Statements.{OfAct, OfStmt, act_parts, stmt_parts, act_named, stmt_named, stmts_named, body_parts, body_named}
use Rattle.ckc_base.proofs.Gives.{Gives, bound, through, itself}

abbrev pub ActOf : Type 0
ActOf = Act-F Spelling (Unit {0}) Act Stmt

abbrev pub NamedActOf : Type 0
NamedActOf = Act-F Name (Unit {0}) NamedAct NamedStmt

-- a claim on a statement, the one that it becomes, and what is visible before and after them
abbrev pub Claim : Type 1
Claim = Scopes → Act → NamedAct → Scopes → Type 0

-- statements, each of which sees what the ones before it declare
pub data StmtsNamed (R : Claim) : Scopes → List Stmt → List NamedStmt → Scopes → Type 0 where
  none : {scopes : Scopes} → StmtsNamed R scopes [] [] scopes
  more : {before between after : Scopes} {s : Stmt} {t : NamedStmt} {ss : List Stmt} {ts : List NamedStmt} →
      R before s.body t.body between → StmtsNamed R between ss ts after → StmtsNamed R before (s ∷ ss) (t ∷ ts) after

pub data PartNamed (R : Claim) : Scopes → Option Stmt → Option NamedStmt → Scopes → Type 0 where
  nothing : {scopes : Scopes} → PartNamed R scopes None None scopes
  just : {before after : Scopes} {s : Stmt} {t : NamedStmt} → R before s.body t.body after → PartNamed R before (Some s) (Some t) after

pub data ActNamed (names : Names) (R : Claim) : Scopes → ActOf → NamedActOf → Scopes → Type 0 where
  block : {before inner after : Scopes} {ss : List Stmt} {ts : List NamedStmt} →
      (m : Option Mode) → StmtsNamed R (opened before) ss ts inner → after ≡ closed before inner → ActNamed names R before (Act-F.Block m ss) (Act-F.Block m ts) after
  empty : {scopes : Scopes} → ActNamed names R scopes Act-F.Empty Act-F.Empty scopes
  local : {before after : Scopes} → (d : Decl) (e : NamedDecl) → local_named names before d ≡ Ok (e, after) → ActNamed names R before (Act-F.Local d) (Act-F.Local e) after
  assign : {scopes : Scopes} → (e f : Expr) (a b : NamedExpr) → expr_named names scopes e ≡ Ok a → expr_named names scopes f ≡ Ok b
      → ActNamed names R scopes (Act-F.Assign e f) (Act-F.Assign a b) scopes
  call : {scopes : Scopes} → (e : Expr) (a : NamedExpr) → expr_named names scopes e ≡ Ok a → ActNamed names R scopes (Act-F.Call e) (Act-F.Call a) scopes
  choice : {before between after : Scopes} {s : Stmt} {t : NamedStmt} {other : Option Stmt} {made : Option NamedStmt} →
      (e : Expr) (a : NamedExpr) → expr_named names before e ≡ Ok a → R before s.body t.body between → PartNamed R between other made after
      → ActNamed names R before (Act-F.If e s other) (Act-F.If a t made) after
  while : {before after : Scopes} {s : Stmt} {t : NamedStmt} →
      (e : Expr) (a : NamedExpr) → expr_named names before e ≡ Ok a → R before s.body t.body after → ActNamed names R before (Act-F.While e s) (Act-F.While a t) after
  for : {before begun between inner after : Scopes} {first step : Option Stmt} {begin next : Option NamedStmt} {s : Stmt} {t : NamedStmt} →
      (e : Option Expr) (a : Option NamedExpr) → PartNamed R (opened before) first begin begun → maybe_named names begun e ≡ Ok a → R begun s.body t.body between
      → PartNamed R between step next inner → after ≡ closed before inner → ActNamed names R before (Act-F.For first e step s) (Act-F.For begin a next t) after
  returns : {scopes : Scopes} → (e : Option Expr) (a : Option NamedExpr) → maybe_named names scopes e ≡ Ok a → ActNamed names R scopes (Act-F.Return e) (Act-F.Return a) scopes
  breaks : {scopes : Scopes} → ActNamed names R scopes Act-F.Break Act-F.Break scopes
  continues : {scopes : Scopes} → ActNamed names R scopes Act-F.Continue Act-F.Continue scopes
  check : {scopes : Scopes} → (e : Expr) (a : NamedExpr) → expr_named names scopes e ≡ Ok a → ActNamed names R scopes (Act-F.Check e) (Act-F.Check a) scopes
  bundle : {before after : Scopes} {ss : List Stmt} {ts : List NamedStmt} → StmtsNamed R before ss ts after → ActNamed names R before (Act-F.Bundle ss) (Act-F.Bundle ts) after

-- The body of a function: its outermost block makes no scope of its own.
pub data BodyNamed (R : Claim) : Scopes → Act → NamedAct → Scopes → Type 0 where
  outermost : {before after : Scopes} {whole : Act} {made : NamedAct} {ss : List Stmt} {ts : List NamedStmt} →
      (m : Option Mode) → roll-Act Spelling (Unit {0}) (Act-F.Block m ss) ≡ whole → roll-Act Name (Unit {0}) (Act-F.Block m ts) ≡ made → StmtsNamed R before ss ts after
      → BodyNamed R before whole made after
  other : {before after : Scopes} {whole : Act} {made : NamedAct} → R before whole made after → BodyNamed R before whole made after

act_back : (a : Act) → roll-Act Spelling (Unit {0}) (out-Act Spelling (Unit {0}) a) ≡ a
act_back a = search (rules, the_lemmas)

module _ (names : Names) (R : Claim)
    (closes : (before : Scopes) (x : ActOf) (d : NamedActOf) (after : Scopes) → ActNamed names R before x d after → R before (roll-Act Spelling (Unit {0}) x) (roll-Act Name (Unit {0}) d) after) where
  abbrev ActHolds : Act → Type 0
  ActHolds a = (scopes : Scopes) → Gives (λ (p : NamedAct × Scopes). R scopes a p.0 p.1) (act_named names a scopes)

  abbrev Good : Scopes → Stmt → NamedStmt × Scopes → Type 0
  Good scopes s p = R scopes s.body p.0.body p.1

  abbrev StmtHolds : Stmt → Type 0
  StmtHolds s = (scopes : Scopes) → Gives (Good scopes s) (stmt_named names s scopes)

  abbrev KeptAct : Type 0
  KeptAct = (a : Act) × ActHolds a

  abbrev KeptStmt : Type 0
  KeptStmt = (s : Stmt) × StmtHolds s

  abbrev stmt_of : KeptStmt → Stmt
  stmt_of k = k.0

  abbrev inner_act : Act-F Spelling (Unit {0}) KeptAct KeptStmt → ActOf
  inner_act = map-Act Spelling (Unit {0}) KeptAct KeptStmt Act Stmt (λ e. e.0) (λ e. e.0)

  abbrev inner_stmt : Stmt-F Spelling (Unit {0}) KeptAct KeptStmt → Stmt-F Spelling (Unit {0}) Act Stmt
  inner_stmt = map-Stmt Spelling (Unit {0}) KeptAct KeptStmt Act Stmt (λ e. e.0) (λ e. e.0)

  abbrev act_inside : ActOf → Act-F Spelling (Unit {0}) OfAct OfStmt
  act_inside = map-Act Spelling (Unit {0}) Act Stmt OfAct OfStmt (act_named names) (stmt_named names)

  abbrev stmt_inside : Stmt-F Spelling (Unit {0}) Act Stmt → Stmt-F Spelling (Unit {0}) OfAct OfStmt
  stmt_inside = map-Stmt Spelling (Unit {0}) Act Stmt OfAct OfStmt (act_named names) (stmt_named names)

  abbrev Made : Scopes → ActOf → NamedAct × Scopes → Type 0
  Made scopes x p = R scopes (roll-Act Spelling (Unit {0}) x) p.0 p.1

  made : {before after : Scopes} {x : ActOf} {d : NamedActOf} (a : NamedAct) → roll-Act Name (Unit {0}) d ≡ a → ActNamed names R before x d after → Made before x (a, after)
  made {before} {after} {x} {d} a is h = subst (λ (z : NamedAct). R before (roll-Act Spelling (Unit {0}) x) z after) is (closes before x d after h)

  expr : (scopes seen : Scopes) (e : Expr) (f : NamedExpr → Outcome (NamedAct × Scopes)) (x : ActOf) → ((a : NamedExpr) → expr_named names seen e ≡ Ok a → Gives (Made scopes x) (f a)) → Gives (Made scopes x) (bind (expr_named names seen e) f)
  expr scopes seen e f x step = bound (λ a. expr_named names seen e ≡ Ok a) (Made scopes x) _ f (itself (expr_named names seen e)) step

  maybe : (scopes seen : Scopes) (e : Option Expr) (f : Option NamedExpr → Outcome (NamedAct × Scopes)) (x : ActOf)
      → ((a : Option NamedExpr) → maybe_named names seen e ≡ Ok a → Gives (Made scopes x) (f a)) → Gives (Made scopes x) (bind (maybe_named names seen e) f)
  maybe scopes seen e f x step = bound (λ a. maybe_named names seen e ≡ Ok a) (Made scopes x) _ f (itself (maybe_named names seen e)) step

  part : (scopes seen : Scopes) (k : KeptStmt) (f : NamedStmt × Scopes → Outcome (NamedAct × Scopes)) (x : ActOf)
      → ((p : NamedStmt × Scopes) → Good seen k.0 p → Gives (Made scopes x) (f p)) → Gives (Made scopes x) (bind (stmt_named names k.0 seen) f)
  part scopes seen k f x step = bound {A = NamedStmt × Scopes} (Good seen k.0) (Made scopes x) _ f (k.1 seen) step

  some_part : (scopes seen : Scopes) (k : KeptStmt) (f : Option NamedStmt × Scopes → Outcome (NamedAct × Scopes)) (x : ActOf)
      → ((p : NamedStmt × Scopes) → Good seen k.0 p → Gives (Made scopes x) (f (Some p.0, p.1)))
      → Gives (Made scopes x) (bind (bind (stmt_named names k.0 seen) (λ p. Ok (Some p.0, p.1))) f)
  some_part scopes seen k f x step =
      through {A = NamedStmt × Scopes} {C = Option NamedStmt × Scopes} (Good seen k.0) (Made scopes x) (stmt_named names k.0 seen) (λ p. (Some p.0, p.1)) f (k.1 seen) step

  abbrev AllNamed : Scopes → List Stmt → List NamedStmt × Scopes → Type 0
  AllNamed scopes ss p = StmtsNamed R scopes ss p.0 p.1

  in_turn_hold : (ks : List KeptStmt) (scopes : Scopes) → Gives (AllNamed scopes (map stmt_of ks)) (in_turn (map (stmt_named names) (map stmt_of ks)) scopes)
  in_turn_hold [] scopes = none
  in_turn_hold (k ∷ ks) scopes =
      bound {A = NamedStmt × Scopes} {B = List NamedStmt × Scopes} (Good scopes k.0) (AllNamed scopes (map stmt_of (k ∷ ks))) _ _ (k.1 scopes) (λ p h.
      bound {A = List NamedStmt × Scopes} {B = List NamedStmt × Scopes} (AllNamed p.1 (map stmt_of ks)) (AllNamed scopes (map stmt_of (k ∷ ks))) _ _ (in_turn_hold ks p.1) (λ q g. more h g))

  act_step : (y : Act-F Spelling (Unit {0}) KeptAct KeptStmt) (scopes : Scopes) → Gives (Made scopes (inner_act y)) (act_parts names (act_inside (inner_act y)) scopes)
  act_step (Act-F.Block m ks) scopes =
      bound {A = List NamedStmt × Scopes} {B = NamedAct × Scopes} (AllNamed (opened scopes) (map stmt_of ks)) (Made scopes (inner_act (Act-F.Block m ks))) _ _ (in_turn_hold ks (opened scopes))
      (λ p h. made _ (act.rolls-Block m p.0) (block m h refl))
  act_step Act-F.Empty scopes = made _ act.rolls-Empty empty
  act_step (Act-F.Local d) scopes =
      bound {A = NamedDecl × Scopes} {B = NamedAct × Scopes} (λ p. local_named names scopes d ≡ Ok p) (Made scopes (Act-F.Local d)) _ _ (itself (local_named names scopes d))
      (λ p is. made _ (act.rolls-Local p.0) (local d p.0 is))
  act_step (Act-F.Assign e f) scopes =
      expr scopes scopes e _ (Act-F.Assign e f) (λ a h. expr scopes scopes f _ (Act-F.Assign e f) (λ b g. made _ (act.rolls-Assign a b) (assign e f a b h g)))
  act_step (Act-F.Call e) scopes = expr scopes scopes e _ (Act-F.Call e) (λ a h. made _ (act.rolls-Call a) (call e a h))
  act_step (Act-F.If e k None) scopes =
      expr scopes scopes e _ (Act-F.If e k.0 None) (λ a h. part scopes scopes k _ (Act-F.If e k.0 None) (λ p g. made _ (act.rolls-If a p.0 None) (choice e a h g nothing)))
  act_step (Act-F.If e k (Some j)) scopes =
      let x : ActOf = Act-F.If e k.0 (Some j.0) in
      expr scopes scopes e _ x (λ a h. part scopes scopes k _ x (λ p g. some_part scopes p.1 j _ x (λ q f. made _ (act.rolls-If a p.0 (Some q.0)) (choice e a h g (just f)))))
  act_step (Act-F.While e k) scopes =
      expr scopes scopes e _ (Act-F.While e k.0) (λ a h. part scopes scopes k _ (Act-F.While e k.0) (λ p g. made _ (act.rolls-While a p.0) (while e a h g)))
  act_step (Act-F.For None e None k) scopes =
      let x : ActOf = Act-F.For None e None k.0 in
      maybe scopes (opened scopes) e _ x (λ a h. part scopes (opened scopes) k _ x (λ q g. made _ (act.rolls-For None a None q.0) (for e a nothing h g nothing refl)))
  act_step (Act-F.For None e (Some j) k) scopes =
      let x : ActOf = Act-F.For None e (Some j.0) k.0 in
      maybe scopes (opened scopes) e _ x (λ a h. part scopes (opened scopes) k _ x (λ q g. some_part scopes q.1 j _ x (λ r f.
      made _ (act.rolls-For None a (Some r.0) q.0) (for e a nothing h g (just f) refl))))
  act_step (Act-F.For (Some i) e None k) scopes =
      let x : ActOf = Act-F.For (Some i.0) e None k.0 in
      some_part scopes (opened scopes) i _ x (λ p b. maybe scopes p.1 e _ x (λ a h. part scopes p.1 k _ x (λ q g. made _ (act.rolls-For (Some p.0) a None q.0) (for e a (just b) h g nothing refl))))
  act_step (Act-F.For (Some i) e (Some j) k) scopes =
      let x : ActOf = Act-F.For (Some i.0) e (Some j.0) k.0 in
      some_part scopes (opened scopes) i _ x (λ p b. maybe scopes p.1 e _ x (λ a h. part scopes p.1 k _ x (λ q g. some_part scopes q.1 j _ x (λ r f.
      made _ (act.rolls-For (Some p.0) a (Some r.0) q.0) (for e a (just b) h g (just f) refl)))))
  act_step (Act-F.Return e) scopes = maybe scopes scopes e _ (Act-F.Return e) (λ a h. made _ (act.rolls-Return a) (returns e a h))
  act_step Act-F.Break scopes = made _ act.rolls-Break breaks
  act_step Act-F.Continue scopes = made _ act.rolls-Continue continues
  act_step (Act-F.Check e) scopes = expr scopes scopes e _ (Act-F.Check e) (λ a h. made _ (act.rolls-Check a) (check e a h))
  act_step (Act-F.Bundle ks) scopes =
      bound {A = List NamedStmt × Scopes} {B = NamedAct × Scopes} (AllNamed scopes (map stmt_of ks)) (Made scopes (inner_act (Act-F.Bundle ks))) _ _ (in_turn_hold ks scopes)
      (λ p h. made _ (act.rolls-Bundle p.0) (bundle h))

  act_by : (x : ActOf) (y : Act-F Spelling (Unit {0}) KeptAct KeptStmt) → inner_act y ≡ x → ActHolds (roll-Act Spelling (Unit {0}) x)
  act_by x y is scopes =
      subst (λ (o : Outcome (NamedAct × Scopes)). Gives (Made scopes x) o)
      (sym (ap (λ f. f scopes) (fold-roll-Act Spelling (Unit {0}) OfAct OfStmt (act_parts names) stmt_parts x)))
      (subst (λ z. Gives (Made scopes z) (act_parts names (act_inside z) scopes)) is (act_step y scopes))

  stmt_by : (x : Stmt-F Spelling (Unit {0}) Act Stmt) (y : Stmt-F Spelling (Unit {0}) KeptAct KeptStmt) → inner_stmt y ≡ x → StmtHolds (roll-Stmt Spelling (Unit {0}) x)
  stmt_by x y is scopes =
      let step : Gives (Good scopes (roll-Stmt Spelling (Unit {0}) (inner_stmt y))) (stmt_parts (stmt_inside (inner_stmt y)) scopes) =
      bound {A = NamedAct × Scopes} {B = NamedStmt × Scopes} (λ p. R scopes y.body.0 p.0 p.1) (Good scopes (roll-Stmt Spelling (Unit {0}) (inner_stmt y))) _ _ (y.body.1 scopes) (λ p h. h) in
      subst (λ (o : Outcome (NamedStmt × Scopes)). Gives (Good scopes (roll-Stmt Spelling (Unit {0}) x)) o)
      (sym (ap (λ f. f scopes) (fold-roll-Stmt Spelling (Unit {0}) OfAct OfStmt (act_parts names) stmt_parts x)))
      (subst (λ z. Gives (Good scopes (roll-Stmt Spelling (Unit {0}) z)) (stmt_parts (stmt_inside z) scopes)) is step)

  act_holds : (a : Act) → ActHolds a
  act_holds = ind-Act Spelling (Unit {0}) ActHolds StmtHolds act_by stmt_by

  stmt_holds : (s : Stmt) → StmtHolds s
  stmt_holds = ind-Stmt Spelling (Unit {0}) ActHolds StmtHolds act_by stmt_by

  stmts_hold : (ss : List Stmt) (scopes : Scopes) → Gives (AllNamed scopes ss) (stmts_named names ss scopes)
  stmts_hold [] scopes = none
  stmts_hold (s ∷ ss) scopes =
      bound {A = NamedStmt × Scopes} {B = List NamedStmt × Scopes} (Good scopes s) (AllNamed scopes (s ∷ ss)) _ _ (stmt_holds s scopes) (λ p h.
      bound {A = List NamedStmt × Scopes} {B = List NamedStmt × Scopes} (AllNamed p.1 ss) (AllNamed scopes (s ∷ ss)) _ _ (stmts_hold ss p.1) (λ q g. more h g))

  -- ---- the body of a function

  abbrev IsBody : Scopes → Act → NamedAct × Scopes → Type 0
  IsBody scopes a p = BodyNamed R scopes a p.0 p.1

  as_part : (a : Act) (scopes : Scopes) → Gives (IsBody scopes a) (act_named names a scopes)
  as_part a scopes = bound_to (act_named names a scopes) (act_holds a scopes)
    where
      bound_to : (o : Outcome (NamedAct × Scopes)) → Gives (λ (p : NamedAct × Scopes). R scopes a p.0 p.1) o → Gives (IsBody scopes a) o
      bound_to (Ok p) h = other h
      bound_to (Err r) h = tt

  layer_holds : (x : ActOf) (a : Act) → roll-Act Spelling (Unit {0}) x ≡ a → (scopes : Scopes) → Gives (IsBody scopes a) (body_parts names x a scopes)
  layer_holds (Act-F.Block m ss) a is scopes =
      bound {A = List NamedStmt × Scopes} {B = NamedAct × Scopes} (AllNamed scopes ss) (IsBody scopes a) _ _ (stmts_hold ss scopes) (λ p h. outermost m is (act.rolls-Block m p.0) h)
  layer_holds Act-F.Empty a is scopes = as_part a scopes
  layer_holds (Act-F.Local d) a is scopes = as_part a scopes
  layer_holds (Act-F.Assign e f) a is scopes = as_part a scopes
  layer_holds (Act-F.Call e) a is scopes = as_part a scopes
  layer_holds (Act-F.If e s t) a is scopes = as_part a scopes
  layer_holds (Act-F.While e s) a is scopes = as_part a scopes
  layer_holds (Act-F.For first e step body) a is scopes = as_part a scopes
  layer_holds (Act-F.Return e) a is scopes = as_part a scopes
  layer_holds Act-F.Break a is scopes = as_part a scopes
  layer_holds Act-F.Continue a is scopes = as_part a scopes
  layer_holds (Act-F.Check e) a is scopes = as_part a scopes
  layer_holds (Act-F.Bundle ss) a is scopes = as_part a scopes

  pub body_holds : (s : Stmt) (scopes : Scopes) → Gives (λ (p : NamedStmt × Scopes). BodyNamed R scopes s.body p.0.body p.1) (body_named names s scopes)
  body_holds s scopes =
      bound {A = NamedAct × Scopes} {B = NamedStmt × Scopes} (IsBody scopes s.body) (λ p. BodyNamed R scopes s.body p.0.body p.1) _ _ (layer_holds (out-Act Spelling (Unit {0}) s.body) s.body (act_back s.body) scopes) (λ p h. h)
