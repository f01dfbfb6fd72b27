-- In a tree whose statements stand as the grammar lets them each statement stands where it may.
use Rattle.std.proofs.Common.{◌≡◌, ◌∙◌, sym, ap, refl, subst, Bool, true, false, ◌&&◌, ◌||◌, List, [], ◌∷◌, map}
use Rattle.std.specs.Prelude.{Option, Some, None, not}
use Rattle.std.specs.List.{list_all}
use Rattle.ckc_syntax.specs.Inside.{all_have, one_has, inside_each, inside_if}
use Rattle.ckc_syntax.specs.declared.tree.Act.{Act, Act-F, map-Act, ind-Act, roll-Act, fold-Act, fold-roll-Act}
use Rattle.ckc_syntax.specs.declared.tree.Expr.{Expr}
use Rattle.ckc_syntax.specs.declared.tree.Item.{Item}
use Rattle.ckc_syntax.specs.declared.tree.Item.TheVariants as item
use Rattle.ckc_syntax.specs.declared.tree.Stmt.{Stmt, Stmt-F, map-Stmt, ind-Stmt, roll-Stmt, fold-roll-Stmt}
use Rattle.ckc_typed_welltyped.specs.Productions as given
use Rattle.ckc_typed_welltyped.specs.Productions.{Places, Given, placed_value, placed_act, given_in, placed_stmt, placed_head, placed_body, placed_item}
use Rattle.ckc_blame_nested.specs.Nested.{Nesting, is_branch, begins, steps, nesting_by, nesting_in, nesting_of_act, nesting_of, AreNested}
use Rattle.ckc_blame_nested.proofs.Items.{is_nested, nested_all}

both : (a b : Bool) → a ≡ true → b ≡ true → (a && b) ≡ true
both a b e f = ap (λ c. c && b) e ∙ f

parts_of : (a b : Bool) → (a && b) ≡ true → (a ≡ true) × (b ≡ true)
parts_of true b e = (refl, e)
parts_of false b e = absurd cc

-- what is said of a statement in both ways
record Agrees (n : Nesting) (g : Given) : Type 0 where
  pub declares : n.declares ≡ g.declares
  pub jumps : n.jumps ≡ g.jumps
  pub fine : g.fine ≡ true → g.nested ≡ true → n.fine ≡ true
  pub begun : (g.declares || g.assigns) ≡ true → g.jumps ≡ false

branch_agrees : (n : Nesting) (g : Given) → Agrees n g → g.fine ≡ true → given.is_branch g ≡ true → is_branch n ≡ true
branch_agrees n g a f b =
    let p = parts_of g.nested (not g.declares) b in
    both n.fine (not n.declares) (a.fine f p.0) (ap not a.declares ∙ p.1)

begin_agrees : (n : Nesting) (g : Given) → Agrees n g → given.begins (Some g) ≡ true → g.nested ≡ true → begins (Some n) ≡ true
begin_agrees n g a b w =
    let p = parts_of g.fine (g.declares || g.assigns) b in
    both n.fine (not n.jumps) (a.fine p.0 w) (ap not (a.jumps ∙ a.begun p.1))

step_agrees : (n : Nesting) (g : Given) → Agrees n g → given.steps (Some g) ≡ true → given.is_branch g ≡ true → steps (Some n) ≡ true
step_agrees n g a s b =
    let p = parts_of g.fine (not g.jumps) s in
    both (is_branch n) (not n.jumps) (branch_agrees n g a p.0 b) (ap not a.jumps ∙ p.1)

module _ {N A : Type 0} (p : Places N A) where
  abbrev given_of : Act N A → Given
  given_of = fold-Act N A Given Given (placed_act p) given_in

  abbrev ActAgrees : Act N A → Type 0
  ActAgrees a = Agrees (nesting_of_act a) (given_of a)

  abbrev StmtAgrees : Stmt N A → Type 0
  StmtAgrees s = Agrees (nesting_of s) (placed_stmt p s)

  abbrev KeptAct : Type 0
  KeptAct = (a : Act N A) × ActAgrees a

  abbrev KeptStmt : Type 0
  KeptStmt = (s : Stmt N A) × StmtAgrees s

  abbrev inner_act : Act-F N A KeptAct KeptStmt → Act-F N A (Act N A) (Stmt N A)
  inner_act = map-Act N A KeptAct KeptStmt (Act N A) (Stmt N A) (λ e. e.0) (λ e. e.0)

  abbrev inner_stmt : Stmt-F N A KeptAct KeptStmt → Stmt-F N A (Act N A) (Stmt N A)
  inner_stmt = map-Stmt N A KeptAct KeptStmt (Act N A) (Stmt N A) (λ e. e.0) (λ e. e.0)

  abbrev nested_inside : Act-F N A (Act N A) (Stmt N A) → Act-F N A Nesting Nesting
  nested_inside = map-Act N A (Act N A) (Stmt N A) Nesting Nesting nesting_of_act nesting_of

  abbrev given_inside : Act-F N A (Act N A) (Stmt N A) → Act-F N A Given Given
  given_inside = map-Act N A (Act N A) (Stmt N A) Given Given given_of (placed_stmt p)

  abbrev firsts : List KeptStmt → List (Stmt N A)
  firsts ks = map (λ (k : KeptStmt). k.0) ks

  each_jumps : (ks : List KeptStmt) → inside_each one_has (λ (n : Nesting). n.jumps) (map nesting_of (firsts ks)) ≡ inside_each one_has (λ (g : Given). g.jumps) (map (placed_stmt p) (firsts ks))
  each_jumps [] = refl
  each_jumps (k ∷ ks) =
      ap (λ b. b || inside_each one_has (λ (n : Nesting). n.jumps) (map nesting_of (firsts ks))) k.1.jumps
      ∙ ap (λ b. (placed_stmt p k.0).jumps || b) (each_jumps ks)

  each_fine : (ks : List KeptStmt) → inside_each all_have (λ (g : Given). g.fine) (map (placed_stmt p) (firsts ks)) ≡ true → inside_each all_have (λ (g : Given). g.nested) (map (placed_stmt p) (firsts ks)) ≡ true
      → inside_each all_have (λ (n : Nesting). n.fine) (map nesting_of (firsts ks)) ≡ true
  each_fine [] f n = refl
  each_fine (k ∷ ks) f n =
      let fs = parts_of (placed_stmt p k.0).fine (inside_each all_have (λ (g : Given). g.fine) (map (placed_stmt p) (firsts ks))) f in
      let ns = parts_of (placed_stmt p k.0).nested (inside_each all_have (λ (g : Given). g.nested) (map (placed_stmt p) (firsts ks))) n in
      both _ _ (k.1.fine fs.0 ns.0) (each_fine ks fs.1 ns.1)

  act_step : (y : Act-F N A KeptAct KeptStmt) → Agrees (nesting_by (nested_inside (inner_act y))) (placed_act p (given_inside (inner_act y)))
  act_step (Act-F.Block m ks) = record { declares = refl; jumps = each_jumps ks; fine = each_fine ks; begun = λ e. absurd (cc) }
  act_step Act-F.Empty = record { declares = refl; jumps = refl; fine = λ f n. refl; begun = λ e. absurd (cc) }
  act_step (Act-F.Local d) = record { declares = refl; jumps = refl; fine = λ f n. refl; begun = λ e. refl }
  act_step (Act-F.Assign e f) = record { declares = refl; jumps = refl; fine = λ g n. refl; begun = λ e. refl }
  act_step (Act-F.Call e) = record { declares = refl; jumps = refl; fine = λ f n. refl; begun = λ e. absurd (cc) }
  act_step (Act-F.If e k None) = record {
    declares = refl;
    jumps = ap (λ b. b || false) k.1.jumps;
    fine = λ f n.
        let fs = parts_of (p.inner e && (placed_stmt p k.0).fine) true f in
        both _ _ (branch_agrees (nesting_of k.0) (placed_stmt p k.0) k.1 (parts_of (p.inner e) (placed_stmt p k.0).fine fs.0).1 (parts_of (given.is_branch (placed_stmt p k.0)) true n).0) refl;
    begun = λ e. absurd (cc);
  }
  act_step (Act-F.If e k (Some j)) = record {
    declares = refl;
    jumps = ap (λ b. b || (nesting_of j.0).jumps) k.1.jumps ∙ ap (λ b. (placed_stmt p k.0).jumps || b) j.1.jumps;
    fine = λ f n.
        let fs = parts_of (p.inner e && (placed_stmt p k.0).fine) (placed_stmt p j.0).fine f in
        let ns = parts_of (given.is_branch (placed_stmt p k.0)) (given.is_branch (placed_stmt p j.0)) n in
        both _ _ (branch_agrees (nesting_of k.0) (placed_stmt p k.0) k.1 (parts_of (p.inner e) (placed_stmt p k.0).fine fs.0).1 ns.0)
        (branch_agrees (nesting_of j.0) (placed_stmt p j.0) j.1 fs.1 ns.1);
    begun = λ e. absurd (cc);
  }
  act_step (Act-F.While e k) = record {
    declares = refl;
    jumps = refl;
    fine = λ f n. branch_agrees (nesting_of k.0) (placed_stmt p k.0) k.1 (parts_of (p.inner e) (placed_stmt p k.0).fine f).1 n;
    begun = λ e. absurd (cc);
  }
  act_step (Act-F.For None e None k) = record {
    declares = refl;
    jumps = refl;
    fine = λ f n.
        let fs = parts_of (placed_value p e) (placed_stmt p k.0).fine f in
        branch_agrees (nesting_of k.0) (placed_stmt p k.0) k.1 fs.1 n;
    begun = λ e. absurd (cc);
  }
  act_step (Act-F.For None e (Some j) k) = record {
    declares = refl;
    jumps = refl;
    fine = λ f n.
        let fs = parts_of (placed_value p e) (given.steps (Some (placed_stmt p j.0)) && (placed_stmt p k.0).fine) f in
        let gs = parts_of (given.steps (Some (placed_stmt p j.0))) (placed_stmt p k.0).fine fs.1 in
        let ns = parts_of (given.is_branch (placed_stmt p j.0)) (given.is_branch (placed_stmt p k.0)) n in
        both _ _ (step_agrees (nesting_of j.0) (placed_stmt p j.0) j.1 gs.0 ns.0) (branch_agrees (nesting_of k.0) (placed_stmt p k.0) k.1 gs.1 ns.1);
    begun = λ e. absurd (cc);
  }
  act_step (Act-F.For (Some l) e None k) = record {
    declares = refl;
    jumps = refl;
    fine = λ f n.
        let fs = parts_of (given.begins (Some (placed_stmt p l.0))) (placed_value p e && (placed_stmt p k.0).fine) f in
        let gs = parts_of (placed_value p e) (placed_stmt p k.0).fine fs.1 in
        let ns = parts_of (placed_stmt p l.0).nested (given.is_branch (placed_stmt p k.0)) n in
        both _ _ (begin_agrees (nesting_of l.0) (placed_stmt p l.0) l.1 fs.0 ns.0) (branch_agrees (nesting_of k.0) (placed_stmt p k.0) k.1 gs.1 ns.1);
    begun = λ e. absurd (cc);
  }
  act_step (Act-F.For (Some l) e (Some j) k) = record {
    declares = refl;
    jumps = refl;
    fine = λ f n.
        let fs = parts_of (given.begins (Some (placed_stmt p l.0))) (placed_value p e && (given.steps (Some (placed_stmt p j.0)) && (placed_stmt p k.0).fine)) f in
        let gs = parts_of (placed_value p e) (given.steps (Some (placed_stmt p j.0)) && (placed_stmt p k.0).fine) fs.1 in
        let hs = parts_of (given.steps (Some (placed_stmt p j.0))) (placed_stmt p k.0).fine gs.1 in
        let ns = parts_of (placed_stmt p l.0).nested (given.is_branch (placed_stmt p j.0) && given.is_branch (placed_stmt p k.0)) n in
        let ms = parts_of (given.is_branch (placed_stmt p j.0)) (given.is_branch (placed_stmt p k.0)) ns.1 in
        both _ _ (begin_agrees (nesting_of l.0) (placed_stmt p l.0) l.1 fs.0 ns.0)
        (both _ _ (step_agrees (nesting_of j.0) (placed_stmt p j.0) j.1 hs.0 ms.0) (branch_agrees (nesting_of k.0) (placed_stmt p k.0) k.1 hs.1 ms.1));
    begun = λ e. absurd (cc);
  }
  act_step (Act-F.Return e) = record { declares = refl; jumps = refl; fine = λ f n. refl; begun = λ e. absurd (cc) }
  act_step Act-F.Break = record { declares = refl; jumps = refl; fine = λ f n. refl; begun = λ e. absurd (cc) }
  act_step Act-F.Continue = record { declares = refl; jumps = refl; fine = λ f n. refl; begun = λ e. absurd (cc) }
  act_step (Act-F.Check e) = record { declares = refl; jumps = refl; fine = λ f n. refl; begun = λ e. absurd (cc) }
  act_step (Act-F.Bundle ks) = record { declares = refl; jumps = each_jumps ks; fine = λ f n. refl; begun = λ e. absurd (cc) }

  act_by : (x : Act-F N A (Act N A) (Stmt N A)) (y : Act-F N A KeptAct KeptStmt) → inner_act y ≡ x → ActAgrees (roll-Act N A x)
  act_by x y is =
      subst (λ n. Agrees n (given_of (roll-Act N A x))) (sym (fold-roll-Act N A Nesting Nesting nesting_by nesting_in x))
      (subst (λ g. Agrees (nesting_by (nested_inside x)) g) (sym (fold-roll-Act N A Given Given (placed_act p) given_in x))
      (subst (λ z. Agrees (nesting_by (nested_inside z)) (placed_act p (given_inside z))) is (act_step y)))

  stmt_by : (x : Stmt-F N A (Act N A) (Stmt N A)) (y : Stmt-F N A KeptAct KeptStmt) → inner_stmt y ≡ x → StmtAgrees (roll-Stmt N A x)
  stmt_by x y is =
      subst (λ z. StmtAgrees (roll-Stmt N A z)) is
      (subst (λ n. Agrees n (placed_stmt p (roll-Stmt N A (inner_stmt y)))) (sym (fold-roll-Stmt N A Nesting Nesting nesting_by nesting_in (inner_stmt y)))
      (subst (λ g. Agrees (nesting_of_act y.body.0) g) (sym (fold-roll-Stmt N A Given Given (placed_act p) given_in (inner_stmt y))) y.body.1))

  stmt_agrees : (s : Stmt N A) → StmtAgrees s
  stmt_agrees = ind-Stmt N A ActAgrees StmtAgrees act_by stmt_by

  item_agrees : (i : Item N A) → placed_item p i ≡ true → is_nested i ≡ true
  item_agrees (item.Directive d) h = refl
  item_agrees (item.Tag n at) h = refl
  item_agrees (item.Struct n members at) h = refl
  item_agrees (item.Static d) h = refl
  item_agrees (item.Proto g) h = refl
  item_agrees (item.Function g body) h =
      let b = parts_of (placed_stmt p body).fine (placed_stmt p body).nested (parts_of (placed_head p g) (placed_body p body) h).1 in
      (stmt_agrees body).fine b.0 b.1

  pub items_agree : (is : List (Item N A)) → list_all (placed_item p) is ≡ true → list_all is_nested is ≡ true
  items_agree [] h = refl
  items_agree (i ∷ is) h = let hs = parts_of (placed_item p i) (list_all (placed_item p) is) h in both _ _ (item_agrees i hs.0) (items_agree is hs.1)
