-- Statements stand in a tree where they stand in the tree without its notes.
use Rattle.std.proofs.Common.{◌≡◌, List, [], ◌∷◌, map, refl, sym, ap, subst, ◌∙◌, true, ◌&&◌}
use Rattle.std.specs.Prelude.{Some, None}
use Rattle.std.specs.List.{list_all}
use Rattle.ckc_syntax.specs.declared.tree.Act.{Act, Act-F, map-Act, roll-Act, fold-roll-Act}
use Rattle.ckc_syntax.specs.declared.tree.Stmt.{Stmt, Stmt-F, map-Stmt, ind-Stmt, roll-Stmt, fold-roll-Stmt}
use Rattle.ckc_syntax.specs.declared.tree.Item.{Item}
use Rattle.ckc_syntax.specs.declared.tree.Item.TheVariants as item
use Rattle.ckc_typed_welltyped.specs.Noteless.{BareAct, BareStmt, act_noteless, act_bared, stmt_bared, bare_act, bare_stmt, bare_item}
use Rattle.ckc_blame_nested.specs.Nested.{Nesting, nesting_by, nesting_in, nesting_of_act, nesting_of}
use Rattle.ckc_blame_nested.proofs.Items.{is_nested}

module _ (N A : Type 0) where
  abbrev ActSame : Act N A → Type 0
  ActSame a = nesting_of_act (bare_act a) ≡ nesting_of_act a

  abbrev StmtSame : Stmt N A → Type 0
  StmtSame s = nesting_of (bare_stmt s) ≡ nesting_of s

  abbrev KeptAct : Type 0
  KeptAct = (a : Act N A) × ActSame a

  abbrev KeptStmt : Type 0
  KeptStmt = (s : Stmt N A) × StmtSame s

  abbrev inner_act : Act-F N A KeptAct KeptStmt → Act-F N A (Act N A) (Stmt N A)
  inner_act = map-Act N A KeptAct KeptStmt (Act N A) (Stmt N A) (λ e. e.0) (λ e. e.0)

  abbrev inner_stmt : Stmt-F N A KeptAct KeptStmt → Stmt-F N A (Act N A) (Stmt N A)
  inner_stmt = map-Stmt N A KeptAct KeptStmt (Act N A) (Stmt N A) (λ e. e.0) (λ e. e.0)

  abbrev bared : Act-F N A (Act N A) (Stmt N A) → Act-F N (Unit {0}) (BareAct N) (BareStmt N)
  bared x = act_noteless (map-Act N A (Act N A) (Stmt N A) (BareAct N) (BareStmt N) bare_act bare_stmt x)

  abbrev inside : Act-F N A (Act N A) (Stmt N A) → Act-F N A Nesting Nesting
  inside = map-Act N A (Act N A) (Stmt N A) Nesting Nesting nesting_of_act nesting_of

  abbrev bare_inside : Act-F N (Unit {0}) (BareAct N) (BareStmt N) → Act-F N (Unit {0}) Nesting Nesting
  bare_inside = map-Act N (Unit {0}) (BareAct N) (BareStmt N) Nesting Nesting nesting_of_act nesting_of

  stmts_same : (ks : List KeptStmt) → map nesting_of (map bare_stmt (map (λ (k : KeptStmt). k.0) ks)) ≡ map nesting_of (map (λ (k : KeptStmt). k.0) ks)
  stmts_same [] = refl
  stmts_same (k ∷ ks) = ap (λ x. x ∷ map nesting_of (map bare_stmt (map (λ (k : KeptStmt). k.0) ks))) k.1 ∙ ap (λ xs. nesting_of k.0 ∷ xs) (stmts_same ks)

  act_same : (y : Act-F N A KeptAct KeptStmt) → nesting_by (bare_inside (bared (inner_act y))) ≡ nesting_by (inside (inner_act y))
  act_same (Act-F.Block m ks) = ap (λ xs. nesting_by {N = N} {A = A} (Act-F.Block m xs)) (stmts_same ks)
  act_same Act-F.Empty = refl
  act_same (Act-F.Local d) = refl
  act_same (Act-F.Assign e f) = refl
  act_same (Act-F.Call e) = refl
  act_same (Act-F.If e k None) = ap (λ x. nesting_by (Act-F.If e x None)) k.1
  act_same (Act-F.If e k (Some l)) =
      ap (λ x. nesting_by (Act-F.If e x (Some (nesting_of (bare_stmt l.0))))) k.1 ∙ ap (λ x. nesting_by (Act-F.If e (nesting_of k.0) (Some x))) l.1
  act_same (Act-F.While e k) = ap (λ x. nesting_by (Act-F.While e x)) k.1
  act_same (Act-F.For None e None k) = ap (λ x. nesting_by (Act-F.For None e None x)) k.1
  act_same (Act-F.For None e (Some m) k) =
      ap (λ x. nesting_by (Act-F.For None e (Some x) (nesting_of (bare_stmt k.0)))) m.1 ∙ ap (λ x. nesting_by (Act-F.For None e (Some (nesting_of m.0)) x)) k.1
  act_same (Act-F.For (Some l) e None k) =
      ap (λ x. nesting_by (Act-F.For (Some x) e None (nesting_of (bare_stmt k.0)))) l.1 ∙ ap (λ x. nesting_by (Act-F.For (Some (nesting_of l.0)) e None x)) k.1
  act_same (Act-F.For (Some l) e (Some m) k) =
      ap (λ x. nesting_by (Act-F.For (Some x) e (Some (nesting_of (bare_stmt m.0))) (nesting_of (bare_stmt k.0)))) l.1
      ∙ ap (λ x. nesting_by (Act-F.For (Some (nesting_of l.0)) e (Some x) (nesting_of (bare_stmt k.0)))) m.1
      ∙ ap (λ x. nesting_by (Act-F.For (Some (nesting_of l.0)) e (Some (nesting_of m.0)) x)) k.1
  act_same (Act-F.Return e) = refl
  act_same Act-F.Break = refl
  act_same Act-F.Continue = refl
  act_same (Act-F.Check e) = refl
  act_same (Act-F.Bundle ks) = ap (λ xs. nesting_by {N = N} {A = A} (Act-F.Bundle xs)) (stmts_same ks)

  act_by : (x : Act-F N A (Act N A) (Stmt N A)) (y : Act-F N A KeptAct KeptStmt) → inner_act y ≡ x → ActSame (roll-Act N A x)
  act_by x y is =
      ap (λ (z : BareAct N). nesting_of_act z) (fold-roll-Act N A (BareAct N) (BareStmt N) act_bared stmt_bared x)
      ∙ fold-roll-Act N (Unit {0}) Nesting Nesting nesting_by nesting_in (bared x)
      ∙ subst (λ z. nesting_by (bare_inside (bared z)) ≡ nesting_by (inside z)) is (act_same y)
      ∙ sym (fold-roll-Act N A Nesting Nesting nesting_by nesting_in x)

  stmt_is : (s : Stmt N A) → ActSame s.body → StmtSame s
  stmt_is s same =
      ap (λ (z : BareStmt N). nesting_of z) (fold-roll-Stmt N A (BareAct N) (BareStmt N) act_bared stmt_bared (record { body = s.body; pos = s.pos; note = s.note }))
      ∙ fold-roll-Stmt N (Unit {0}) Nesting Nesting nesting_by nesting_in (record { body = bare_act s.body; pos = s.pos; note = tt })
      ∙ same ∙ sym (fold-roll-Stmt N A Nesting Nesting nesting_by nesting_in (record { body = s.body; pos = s.pos; note = s.note }))

  stmt_by : (x : Stmt-F N A (Act N A) (Stmt N A)) (y : Stmt-F N A KeptAct KeptStmt) → inner_stmt y ≡ x → StmtSame (roll-Stmt N A x)
  stmt_by x y is = subst (λ z. StmtSame (roll-Stmt N A z)) is (stmt_is (roll-Stmt N A (inner_stmt y)) y.body.1)

  stmt_kept : (s : Stmt N A) → nesting_of (bare_stmt s) ≡ nesting_of s
  stmt_kept = ind-Stmt N A ActSame StmtSame act_by stmt_by

  item_kept : (i : Item N A) → is_nested (bare_item i) ≡ is_nested i
  item_kept (item.Directive d) = refl
  item_kept (item.Tag n at) = refl
  item_kept (item.Struct n members at) = refl
  item_kept (item.Static d) = refl
  item_kept (item.Proto h) = refl
  item_kept (item.Function h body) = ap (λ (x : Nesting). x.fine) (stmt_kept body)

  pub items_kept : (is : List (Item N A)) → list_all is_nested (map bare_item is) ≡ list_all is_nested is
  items_kept [] = refl
  items_kept (i ∷ is) = ap (λ b. b && list_all is_nested (map bare_item is)) (item_kept i) ∙ ap (λ b. is_nested i && b) (items_kept is)
