-- What statements with parts mean, by what their parts mean.
use Rattle.std.proofs.Common.{◌≡◌, ℕ, ◌+◌, List, [], ◌∷◌, ◌++◌, map, ap, sym, ◌∙◌, rules}
use Rattle.std.specs.Prelude.{Option, Result, Ok, Err, IfOk}
use Rattle.std.specs.Option.{option_map}
use Rattle.ckc_types.specs.declared.types.CType.{CType}
use Rattle.ckc_syntax.specs.declared.tree.Act.{the_lemmas}
use Rattle.ckc_syntax.specs.declared.tree.Act.TheVariants as act
use Rattle.ckc_typed.specs.declared.environment.Variable.{Variable}
use Rattle.ckc_typed.specs.declared.typed.Typed.{Typed}
use Rattle.ckc_typed.specs.Trees.{NotedDecl, NotedExpr, NotedAct, NotedStmt}
use Rattle.ckc_source.specs.declared.expr.ExprTree.{ExprTree}
use Rattle.ckc_source.specs.declared.stmt.Assign.{Assign}
use Rattle.ckc_source.specs.declared.stmt.Spot.{Spot}
use Rattle.ckc_source.specs.declared.stmt.StmtTree.{StmtTree, the_lemmas as tree_lemmas}
use Rattle.ckc_source.specs.declared.stmt.StmtTree.TheVariants as tree
use Rattle.ckc_source.specs.Code.{Expr, Code, Target, Right, Bundle, If, Loop, expr_of, stmt_of, assign_of}
use Rattle.ckc_build_values.specs.Expressions.{expr_elaborated, literals_of}
use Rattle.ckc_build_elaborate.specs.Literals.{literals_of_value}
use Rattle.ckc_build_elaborate.specs.Steps.{Statements, condition, declared, assigned, destination_of}
use Rattle.ckc_build_elaborate.specs.Statements.{one, alone, part_of, part_of_act, all_assigns, code_if, literals_if, turns, stmt_elaborated}

pub goes : {E : Type 0} (r : Result (List StmtTree) E) (x y : Statements) → x ≡ y → IfOk r (λ all. map stmt_of all ≡ x) → IfOk r (λ all. map stmt_of all ≡ y)
goes (Ok all) x y e h = h ∙ e
goes (Err f) x y e h = tt

same_three : {A B C D : Type 0} (f : A → B → C → D) {a a' : A} {b b' : B} {c c' : C} → a ≡ a' → b ≡ b' → c ≡ c' → f a b c ≡ f a' b' c'
same_three f {a} {a'} {b} {b'} {c} {c'} p q r = ap (λ x. f x b c) p ∙ ap (λ y. f a' y c) q ∙ ap (λ z. f a' b' z) r

-- ---- the trees that are made

module _ (s : Spot) (test : ExprTree) (first second : List StmtTree) where
  tree_if : stmt_of (tree.If s test first second) ≡ (λ rest. If s (expr_of test) (alone (map stmt_of first)) (alone (map stmt_of second)) rest)
  tree_if = search (rules, tree_lemmas)

  tree_loop : stmt_of (tree.Loop s test first second) ≡ (λ rest. Loop s (expr_of test) (alone (map stmt_of first)) (alone (map stmt_of second)) rest)
  tree_loop = search (rules, tree_lemmas)

tree_bundle : (s : Spot) (made : List Assign) → stmt_of (tree.Bundle s made) ≡ (λ rest. Bundle s (map assign_of made) rest)
tree_bundle s made = search (rules, tree_lemmas)

-- ---- what they mean

module _ (p : Typed) (locals : List Variable) (gives : CType) (s : Spot) (k : ℕ) where
  abbrev means : ℕ → NotedStmt → Statements
  means n b = stmt_elaborated p locals gives n b

  abbrev means_if_there : ℕ → Option NotedStmt → Statements
  means_if_there n t = code_if (option_map part_of t) p locals gives n

  abbrev at_place : NotedAct → Statements
  at_place a = (part_of_act a).code s.at s.mode p locals gives k

  abbrev as_if : Expr → Statements → Statements → Statements
  as_if e x y = one (If s e (alone x) (alone y))

  abbrev as_loop : Expr → Statements → Statements → Code → Code
  as_loop e x y = Loop s e (alone x) (alone y)

  act_if : (e : NotedExpr) (b : NotedStmt) (t : Option NotedStmt) → at_place (act.If e b t) ≡ as_if (expr_elaborated p locals k e) (means (k + literals_of e) b) (means_if_there (k + literals_of e + (part_of b).literals) t)
  act_if e b t = search (rules, the_lemmas)

  act_while : (e : NotedExpr) (b : NotedStmt) → at_place (act.While e b) ≡ one (as_loop (expr_elaborated p locals k e) (means (k + literals_of e) b) [])
  act_while e b = search (rules, the_lemmas)

  act_for : (f : Option NotedStmt) (e : Option NotedExpr) (t : Option NotedStmt) (b : NotedStmt) → at_place (act.For f e t b) ≡ means_if_there k f ++ one (turns p locals gives s (k + literals_if (option_map part_of f)) e (option_map part_of t) (part_of b))
  act_for f e t b = search (rules, the_lemmas)

  act_local : (d : NotedDecl) → at_place (act.Local d) ≡ one (declared p locals s k d)
  act_local d = search (rules, the_lemmas)

  act_assign : (e f : NotedExpr) → at_place (act.Assign e f) ≡ one (assigned p locals s (destination_of p locals k e) (k + literals_of e) f)
  act_assign e f = search (rules, the_lemmas)

  act_bundle : (ss : List NotedStmt) → at_place (act.Bundle ss) ≡ one (λ rest. Bundle s (all_assigns (map part_of ss) p locals k) rest)
  act_bundle ss = search (rules, the_lemmas)

  pub declares : (body : NotedAct) (made : StmtTree) (d : NotedDecl) → body ≡ act.Local d → stmt_of made ≡ declared p locals s k d → stmt_of made ∷ [] ≡ at_place body
  declares body made d is x = ap one x ∙ sym (act_local d) ∙ ap at_place (sym is)

  pub assigns_one : (body : NotedAct) (made : StmtTree) (e f : NotedExpr) → body ≡ act.Assign e f → stmt_of made ≡ assigned p locals s (destination_of p locals k e) (k + literals_of e) f → stmt_of made ∷ [] ≡ at_place body
  assigns_one body made e f is x = ap one x ∙ sym (act_assign e f) ∙ ap at_place (sym is)

  pub assigns_many : (body : NotedAct) (made : List Assign) (ss : List NotedStmt) → body ≡ act.Bundle ss → map assign_of made ≡ all_assigns (map part_of ss) p locals k → stmt_of (tree.Bundle s made) ∷ [] ≡ at_place body
  assigns_many body made ss is x =
      ap one (tree_bundle s made ∙ ap (λ (all : List (Target × Right)). λ rest. Bundle s all rest) x) ∙ sym (act_bundle ss) ∙ ap at_place (sym is)

  module _ (body : NotedAct) (test : ExprTree) (first second : List StmtTree) (n m : ℕ) where
    pub branches : (e : NotedExpr) (b : NotedStmt) (t : Option NotedStmt) → body ≡ act.If e b t → expr_of test ≡ expr_elaborated p locals k e → n ≡ k + literals_of e → map stmt_of first ≡ means n b → m ≡ n + (part_of b).literals → map stmt_of second ≡ means_if_there m t → stmt_of (tree.If s test first second) ∷ [] ≡ at_place body
    branches e b t is x en y em z =
        ap (λ f. f ∷ []) (tree_if s test first second)
        ∙ same_three as_if x (y ∙ ap (λ j. means j b) en) (z ∙ ap (λ j. means_if_there j t) (em ∙ ap (λ j. j + (part_of b).literals) en))
        ∙ sym (act_if e b t) ∙ ap at_place (sym is)

    pub repeats : (e : NotedExpr) (b : NotedStmt) → body ≡ act.While e b → expr_of test ≡ expr_elaborated p locals k e → n ≡ k + literals_of e → map stmt_of first ≡ means n b → second ≡ [] → stmt_of (tree.Loop s test first second) ∷ [] ≡ at_place body
    repeats e b is x en y z =
        ap (λ f. f ∷ []) (tree_loop s test first second)
        ∙ ap one (same_three as_loop x (y ∙ ap (λ j. means j b) en) (ap (map stmt_of) z)) ∙ sym (act_while e b) ∙ ap at_place (sym is)

    pub turned : (e : Option NotedExpr) (t : Option NotedStmt) (b : NotedStmt) → expr_of test ≡ condition p locals k e → n ≡ k + literals_of_value e → map stmt_of second ≡ means_if_there n t → m ≡ n + literals_if (option_map part_of t) → map stmt_of first ≡ means m b → stmt_of (tree.Loop s test first second) ≡ turns p locals gives s k e (option_map part_of t) (part_of b)
    turned e t b x en z em y =
        tree_loop s test first second
        ∙ same_three as_loop x (y ∙ ap (λ j. means j b) (em ∙ ap (λ j. j + literals_if (option_map part_of t)) en)) (z ∙ ap (λ j. means_if_there j t) en)

  pub counts : (body : NotedAct) (begin : List StmtTree) (loop : StmtTree) (n : ℕ) (f : Option NotedStmt) (e : Option NotedExpr) (t : Option NotedStmt) (b : NotedStmt) → body ≡ act.For f e t b → map stmt_of begin ≡ means_if_there k f → n ≡ k + literals_if (option_map part_of f) → stmt_of loop ≡ turns p locals gives s n e (option_map part_of t) (part_of b) → map stmt_of begin ++ stmt_of loop ∷ [] ≡ at_place body
  counts body begin loop n f e t b is w en x =
      ap (λ g. map stmt_of begin ++ g ∷ []) (x ∙ ap (λ j. turns p locals gives s j e (option_map part_of t) (part_of b)) en)
      ∙ ap (λ g. g ++ one (turns p locals gives s (k + literals_if (option_map part_of f)) e (option_map part_of t) (part_of b))) w
      ∙ sym (act_for f e t b) ∙ ap at_place (sym is)
