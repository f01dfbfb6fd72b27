-- What is gathered from the declarations in a statement is what is gathered from the list of them.
use Rattle.std.proofs.Common.{◌≡◌, ◌∙◌, sym, ap, refl, subst, List, [], ◌∷◌, ◌++◌, map, append-nil, append_assoc}
use Rattle.std.specs.Prelude.{Option, Some, None}
use Rattle.std.specs.List.{flat_map}
use Rattle.ckc_syntax.specs.Inside.{listed, inside_each, inside_if, inside_run}
use Rattle.ckc_syntax.specs.declared.tree.Name.{Name}
use Rattle.ckc_syntax.specs.declared.tree.Act.{Act-F, map-Act, roll-Act, fold-Act, fold-roll-Act}
use Rattle.ckc_syntax.specs.declared.tree.Stmt.{Stmt-F, map-Stmt, ind-Stmt, roll-Stmt, fold-Stmt, fold-roll-Stmt}
use Rattle.ckc_syntax.specs.Trees.{NamedDecl, NamedExpr, NamedStmt, NamedAct}
use Rattle.ckc_plain.specs.ckc_plain_barred.specs.Integers.{locals_of_stmt_parts, locals_of_stmt, locals_of_act}
use Rattle.ckc_typed_plain.proofs.FreshExprs.{ActLayer, rows, locals_inside}

pub flat_append : {A B : Type 0} (f : A → List B) (xs ys : List A) → flat_map f (xs ++ ys) ≡ flat_map f xs ++ flat_map f ys
flat_append f [] ys = refl
flat_append f (x ∷ xs) ys = ap (λ l. f x ++ l) (flat_append f xs ys) ∙ sym (append_assoc (f x) (flat_map f xs) (flat_map f ys))

module _ {X : Type 0} (G : NamedDecl → List X) where
  abbrev gather_parts : Stmt-F Name (Unit {0}) (List X) (List X) → List X
  gather_parts s = s.body

  abbrev gather_rows : Act-F Name (Unit {0}) (List X) (List X) → List X
  gather_rows = inside_run listed (λ e. []) G (λ s. s)

  abbrev pub gathered_in : NamedStmt → List X
  gathered_in = fold-Stmt Name (Unit {0}) (List X) (List X) gather_rows gather_parts

  abbrev gathered_in_act : NamedAct → List X
  gathered_in_act = fold-Act Name (Unit {0}) (List X) (List X) gather_rows gather_parts

  abbrev gathered_inside : ActLayer → Act-F Name (Unit {0}) (List X) (List X)
  gathered_inside = map-Act Name (Unit {0}) NamedAct NamedStmt (List X) (List X) gathered_in_act gathered_in

  abbrev ActHolds : NamedAct → Type 0
  ActHolds a = gathered_in_act a ≡ flat_map G (locals_of_act a)

  abbrev StmtHolds : NamedStmt → Type 0
  StmtHolds s = gathered_in s ≡ flat_map G (locals_of_stmt s)

  abbrev KeptAct : Type 0
  KeptAct = (a : NamedAct) × ActHolds a

  abbrev KeptStmt : Type 0
  KeptStmt = (s : NamedStmt) × StmtHolds s

  abbrev inner_act : Act-F Name (Unit {0}) KeptAct KeptStmt → ActLayer
  inner_act = map-Act Name (Unit {0}) KeptAct KeptStmt NamedAct NamedStmt (λ e. e.0) (λ e. e.0)

  abbrev inner_stmt : Stmt-F Name (Unit {0}) KeptAct KeptStmt → Stmt-F Name (Unit {0}) NamedAct NamedStmt
  inner_stmt = map-Stmt Name (Unit {0}) KeptAct KeptStmt NamedAct NamedStmt (λ e. e.0) (λ e. e.0)

  abbrev firsts : List KeptStmt → List NamedStmt
  firsts ks = map (λ (k : KeptStmt). k.0) ks

  two : (xs ys : List X) (ds es : List NamedDecl) → xs ≡ flat_map G ds → ys ≡ flat_map G es → xs ++ ys ≡ flat_map G (ds ++ es)
  two xs ys ds es e f = ap (λ l. l ++ ys) e ∙ ap (λ l. flat_map G ds ++ l) f ∙ sym (flat_append G ds es)

  each : (ks : List KeptStmt) → inside_each listed (λ (xs : List X). xs) (map gathered_in (firsts ks)) ≡ flat_map G (inside_each listed (λ (ds : List NamedDecl). ds) (map locals_of_stmt (firsts ks)))
  each [] = refl
  each (k ∷ ks) =
      two (gathered_in k.0) (inside_each listed (λ (xs : List X). xs) (map gathered_in (firsts ks))) (locals_of_stmt k.0) (inside_each listed (λ (ds : List NamedDecl). ds) (map locals_of_stmt (firsts ks))) k.1 (each ks)

  silent : (e : Option NamedExpr) → inside_if {X = List X} listed (λ (f : NamedExpr). []) e ≡ flat_map G (inside_if {X = List NamedDecl} listed (λ (f : NamedExpr). []) e)
  silent None = refl
  silent (Some e) = refl

  loop : (xs ys zs : List X) (bs ds es : List NamedDecl) (e : Option NamedExpr) → xs ≡ flat_map G bs → ys ≡ flat_map G ds → zs ≡ flat_map G es
      → xs ++ (inside_if listed (λ (f : NamedExpr). []) e ++ (ys ++ zs)) ≡ flat_map G (bs ++ (inside_if listed (λ (f : NamedExpr). []) e ++ (ds ++ es)))
  loop xs ys zs bs ds es e f g h =
      two xs (inside_if listed (λ (f : NamedExpr). []) e ++ (ys ++ zs)) bs (inside_if listed (λ (f : NamedExpr). []) e ++ (ds ++ es)) f
      (two (inside_if listed (λ (f : NamedExpr). []) e) (ys ++ zs) (inside_if listed (λ (f : NamedExpr). []) e) (ds ++ es) (silent e) (two ys zs ds es g h))

  act_step : (y : Act-F Name (Unit {0}) KeptAct KeptStmt) → gather_rows (gathered_inside (inner_act y)) ≡ flat_map G (rows (locals_inside (inner_act y)))
  act_step (Act-F.Block m ks) = each ks
  act_step Act-F.Empty = refl
  act_step (Act-F.Local d) = sym (append-nil (G d))
  act_step (Act-F.Assign e f) = refl
  act_step (Act-F.Call e) = refl
  act_step (Act-F.If e k None) = two (gathered_in k.0) [] (locals_of_stmt k.0) [] k.1 refl
  act_step (Act-F.If e k (Some j)) = two (gathered_in k.0) (gathered_in j.0) (locals_of_stmt k.0) (locals_of_stmt j.0) k.1 j.1
  act_step (Act-F.While e k) = k.1
  act_step (Act-F.For None e None k) = loop [] (gathered_in k.0) [] [] (locals_of_stmt k.0) [] e refl k.1 refl
  act_step (Act-F.For None e (Some j) k) = loop [] (gathered_in k.0) (gathered_in j.0) [] (locals_of_stmt k.0) (locals_of_stmt j.0) e refl k.1 j.1
  act_step (Act-F.For (Some l) e None k) = loop (gathered_in l.0) (gathered_in k.0) [] (locals_of_stmt l.0) (locals_of_stmt k.0) [] e l.1 k.1 refl
  act_step (Act-F.For (Some l) e (Some j) k) = loop (gathered_in l.0) (gathered_in k.0) (gathered_in j.0) (locals_of_stmt l.0) (locals_of_stmt k.0) (locals_of_stmt j.0) e l.1 k.1 j.1
  act_step (Act-F.Return e) = silent e
  act_step Act-F.Break = refl
  act_step Act-F.Continue = refl
  act_step (Act-F.Check e) = refl
  act_step (Act-F.Bundle ks) = each ks

  act_by : (x : ActLayer) (y : Act-F Name (Unit {0}) KeptAct KeptStmt) → inner_act y ≡ x → ActHolds (roll-Act Name (Unit {0}) x)
  act_by x y is =
      fold-roll-Act Name (Unit {0}) (List X) (List X) gather_rows gather_parts x
      ∙ subst (λ z. gather_rows (gathered_inside z) ≡ flat_map G (rows (locals_inside z))) is (act_step y)
      ∙ sym (ap (flat_map G) (fold-roll-Act Name (Unit {0}) (List NamedDecl) (List NamedDecl) rows locals_of_stmt_parts x))

  stmt_by : (x : Stmt-F Name (Unit {0}) NamedAct NamedStmt) (y : Stmt-F Name (Unit {0}) KeptAct KeptStmt) → inner_stmt y ≡ x → StmtHolds (roll-Stmt Name (Unit {0}) x)
  stmt_by x y is =
      fold-roll-Stmt Name (Unit {0}) (List X) (List X) gather_rows gather_parts x
      ∙ subst (λ z. gathered_in_act z.body ≡ flat_map G (locals_of_act z.body)) is y.body.1
      ∙ sym (ap (flat_map G) (fold-roll-Stmt Name (Unit {0}) (List NamedDecl) (List NamedDecl) rows locals_of_stmt_parts x))

  pub gathered : (s : NamedStmt) → StmtHolds s
  gathered = ind-Stmt Name (Unit {0}) ActHolds StmtHolds act_by stmt_by
