-- Laws of counting.
use Rattle.std.proofs.Common.{rules, refl, ◌≡◌, ◌<◌, ◌+◌, ℕ, suc, length, List, [], ◌∷◌, ◌++◌, get_or, drop, ap, sym, ◌∙◌, drop-cons, add-one}
use Rattle.std.specs.Prelude.{flat_map, map, Option, None, Some, option_map}
use Rattle.ckc_base.specs.Lists.{concatenation, or_empty}
use Rattle.ckc_base.specs.declared.arithmetic.Mode.{Mode}
use Rattle.ckc_syntax_limits.specs.declared.tally.Tally.{Tally}
use Rattle.ckc_syntax_limits.specs.Marks.{Mark, marks_of_limits, marks_of_bounds, marks_of_value, marks_of_part, marks_of_node, marks_of_expr, marks_of_act, marks_of_stmt}
use Rattle.ckc_syntax_limits.specs.code.Tally.{counted, tallied}
use Rattle.ckc_syntax.specs.declared.tree.Node.{the_lemmas as expr_lemmas}
use Rattle.ckc_syntax.specs.declared.tree.Node.TheVariants as nodes
use Rattle.ckc_syntax.specs.declared.tree.Expr.{Expr}
use Rattle.ckc_base.specs.declared.places.Pos.{Pos}
use Rattle.ckc_syntax.specs.declared.tree.Limits.{Limits}
use Rattle.ckc_syntax.specs.declared.tree.Limits.TheVariants as limits
use Rattle.ckc_syntax.specs.declared.tree.TypeTree.{TypeTree}
use Rattle.ckc_syntax.specs.declared.tree.TreeOp.{TreeOp}
use Rattle.ckc_syntax.specs.declared.tree.Stmt.{Stmt, the_lemmas as stmt_lemmas}
use Rattle.ckc_syntax.specs.declared.tree.Act.TheVariants as act

pub tallied_append : (t : Tally) (xs ys : List Mark) → tallied t (xs ++ ys) ≡ tallied (tallied t xs) ys
tallied_append t [] ys = refl
tallied_append t (x ∷ xs) ys = tallied_append (counted t x) xs ys

-- one turn of a loop over parts
pub tallied_turn : {X : Type 0} (f : X → List Mark) (t : Tally) (xs : List X) (i : ℕ) (x : X) → i < length xs → x ≡ get_or xs i x →
    tallied t (flat_map f (drop i xs)) ≡ tallied (tallied t (f x)) (flat_map f (drop (i + 1) xs))
tallied_turn f t xs i x h e = rw (add-one, drop-cons xs i x) (ap (λ y. tallied t (f y ++ flat_map f (drop (suc i) xs))) (sym e) ∙ tallied_append t (f x) (flat_map f (drop (suc i) xs)))

-- four parts one after another
pub four_tallied : (t a b c d : Tally) (p v q m : List Mark) → a ≡ tallied t p → b ≡ tallied a v → c ≡ tallied b q → d ≡ tallied c m → d ≡ tallied t (p ++ v ++ q ++ m)
four_tallied t a b c d p v q m e f g h =
    h ∙ ap (λ x. tallied x m) (g ∙ ap (λ x. tallied x q) (f ∙ ap (λ x. tallied x v) e))
    ∙ sym (tallied_append t (p ++ v ++ q) m ∙ ap (λ x. tallied x m) (tallied_append t (p ++ v) q ∙ ap (λ x. tallied x q) (tallied_append t p v)))

joined_is : {X : Type 0} (f : X → List Mark) (xs : List X) → concatenation (map f xs) ≡ flat_map f xs
joined_is f [] = refl
joined_is f (x ∷ xs) = ap (λ ys. f x ++ ys) (joined_is f xs)

joined_of_call : {N A : Type 0} (n : N) (es : List (Expr N A)) → marks_of_node (nodes.Call n es) ≡ concatenation (map marks_of_expr es)
joined_of_call n es = search (rules, expr_lemmas)

pub marks_of_call : {N A : Type 0} (n : N) (es : List (Expr N A)) → marks_of_node (nodes.Call n es) ≡ flat_map marks_of_expr es
marks_of_call n es = joined_of_call n es ∙ joined_is marks_of_expr es

joined_of_block : {N A : Type 0} (m : Option Mode) (ss : List (Stmt N A)) → marks_of_act (act.Block m ss) ≡ concatenation (map marks_of_stmt ss)
joined_of_block m ss = search (rules, stmt_lemmas)

pub marks_of_block : {N A : Type 0} (m : Option Mode) (ss : List (Stmt N A)) → marks_of_act (act.Block m ss) ≡ flat_map marks_of_stmt ss
marks_of_block m ss = joined_of_block m ss ∙ joined_is marks_of_stmt ss

joined_of_bundle : {N A : Type 0} (ss : List (Stmt N A)) → marks_of_act (act.Bundle ss) ≡ concatenation (map marks_of_stmt ss)
joined_of_bundle ss = search (rules, stmt_lemmas)

pub marks_of_bundle : {N A : Type 0} (ss : List (Stmt N A)) → marks_of_act (act.Bundle ss) ≡ flat_map marks_of_stmt ss
marks_of_bundle ss = joined_of_bundle ss ∙ joined_is marks_of_stmt ss

-- the parts of the nodes that have several
pub marks_of_between : {N A : Type 0} (e f : Expr N A) (pos : Pos) → marks_of_limits (limits.Between e f pos) ≡ marks_of_expr e ++ marks_of_expr f
marks_of_between e f pos = search (rules, expr_lemmas)

pub marks_of_bin : {N A : Type 0} (op : TreeOp) (e f : Expr N A) → marks_of_node (nodes.Bin op e f) ≡ marks_of_expr e ++ marks_of_expr f
marks_of_bin op e f = search (rules, expr_lemmas)

pub marks_of_index : {N A : Type 0} (e f : Expr N A) → marks_of_node (nodes.Index e f) ≡ marks_of_expr e ++ marks_of_expr f
marks_of_index e f = search (rules, expr_lemmas)

pub marks_of_pick : {N A : Type 0} (e f g : Expr N A) → marks_of_node (nodes.Pick e f g) ≡ marks_of_expr e ++ marks_of_expr f ++ marks_of_expr g
marks_of_pick e f g = search (rules, expr_lemmas)

bounds_is : {N A : Type 0} (l : Option (Limits N A)) → or_empty (option_map marks_of_limits l) ≡ marks_of_bounds l
bounds_is None = refl
bounds_is (Some l) = refl

held_of_trusted : {N A : Type 0} (t : TypeTree N) (e : Expr N A) (l : Option (Limits N A)) → marks_of_node (nodes.Trusted t e l) ≡ marks_of_expr e ++ or_empty (option_map marks_of_limits l)
held_of_trusted t e l = search (rules, expr_lemmas)

pub marks_of_trusted : {N A : Type 0} (t : TypeTree N) (e : Expr N A) (l : Option (Limits N A)) → marks_of_node (nodes.Trusted t e l) ≡ marks_of_expr e ++ marks_of_bounds l
marks_of_trusted t e l = rw (held_of_trusted, bounds_is) refl

held_of_tested : {N A : Type 0} (t : TypeTree N) (e : Expr N A) (l : Option (Limits N A)) → marks_of_node (nodes.Tested t e l) ≡ marks_of_expr e ++ or_empty (option_map marks_of_limits l)
held_of_tested t e l = search (rules, expr_lemmas)

pub marks_of_tested : {N A : Type 0} (t : TypeTree N) (e : Expr N A) (l : Option (Limits N A)) → marks_of_node (nodes.Tested t e l) ≡ marks_of_expr e ++ marks_of_bounds l
marks_of_tested t e l = rw (held_of_tested, bounds_is) refl

held_is : {N A : Type 0} (s : Option (Stmt N A)) → or_empty (option_map marks_of_stmt s) ≡ marks_of_part s
held_is None = refl
held_is (Some s) = refl

held_of_if : {N A : Type 0} (e : Expr N A) (s : Stmt N A) (t : Option (Stmt N A)) → marks_of_act (act.If e s t) ≡ marks_of_expr e ++ marks_of_stmt s ++ or_empty (option_map marks_of_stmt t)
held_of_if e s t = search (rules, stmt_lemmas)

pub marks_of_if : {N A : Type 0} (e : Expr N A) (s : Stmt N A) (t : Option (Stmt N A)) → marks_of_act (act.If e s t) ≡ marks_of_expr e ++ marks_of_stmt s ++ marks_of_part t
marks_of_if e s t = rw (held_of_if, held_is) refl

pub marks_of_while : {N A : Type 0} (e : Expr N A) (s : Stmt N A) → marks_of_act (act.While e s) ≡ marks_of_expr e ++ marks_of_stmt s
marks_of_while e s = search (rules, stmt_lemmas)

held_of_for : {N A : Type 0} (s : Option (Stmt N A)) (e : Option (Expr N A)) (t : Option (Stmt N A)) (b : Stmt N A) →
    marks_of_act (act.For s e t b) ≡ or_empty (option_map marks_of_stmt s) ++ marks_of_value e ++ or_empty (option_map marks_of_stmt t) ++ marks_of_stmt b
held_of_for s e t b = search (rules, stmt_lemmas)

pub marks_of_for : {N A : Type 0} (s : Option (Stmt N A)) (e : Option (Expr N A)) (t : Option (Stmt N A)) (b : Stmt N A) →
    marks_of_act (act.For s e t b) ≡ marks_of_part s ++ marks_of_value e ++ marks_of_part t ++ marks_of_stmt b
marks_of_for s e t b = rw (held_of_for, held_is s, held_is t) refl

pub marks_of_assign : {N A : Type 0} (e f : Expr N A) → marks_of_act (act.Assign e f) ≡ marks_of_expr e ++ marks_of_expr f
marks_of_assign e f = search (rules, stmt_lemmas)
