-- Equations for the depth of lists of parts.
use Rattle.std.proofs.Common.{rules, arith, refl, subst, Bool, true, false, IsTrue, ◌↔◌, ◌≤◌, ◌≡◌, ◌<◌, ◌+◌, map, ℕ, suc, length, List, get_or, drop, max, ap, sym, ◌∙◌, drop-cons, add-one}
use Rattle.ckc_syntax.specs.declared.tree.Node.{the_lemmas as expr_lemmas}
use Rattle.ckc_syntax.specs.declared.tree.Node.TheVariants as node
use Rattle.ckc_syntax.specs.declared.tree.Expr.{Expr}
use Rattle.ckc_syntax.specs.declared.tree.Stmt.{Stmt, the_lemmas as stmt_lemmas}
use Rattle.ckc_syntax.specs.declared.tree.Act.TheVariants as act
use Rattle.ckc_base.specs.declared.arithmetic.Mode.{Mode}
use Rattle.std.specs.Prelude.{Option}
use Rattle.ckc_syntax.proofs.Insides.{each_found}
use Rattle.ckc_syntax.specs.Inside.{highest, inside_each}
use Rattle.ckc_syntax_limits.specs.Depth.{depth_of_node, depth_of_expr, depth_of_act, depth_of_stmt}

call_depths : {N A : Type 0} (n : N) (es : List (Expr N A)) → depth_of_node (node.Call n es) ≡ inside_each highest (λ d. d) (map depth_of_expr es)
call_depths n es = search (rules, expr_lemmas)

pub depth_of_call : {N A : Type 0} (n : N) (es : List (Expr N A)) → depth_of_node (node.Call n es) ≡ inside_each highest depth_of_expr es
depth_of_call n es = call_depths n es ∙ each_found highest (λ d. d) depth_of_expr es

block_depths : {N A : Type 0} (m : Option Mode) (ss : List (Stmt N A)) → depth_of_act (act.Block m ss) ≡ inside_each highest (λ d. d) (map depth_of_stmt ss)
block_depths m ss = search (rules, stmt_lemmas)

pub depth_of_block : {N A : Type 0} (m : Option Mode) (ss : List (Stmt N A)) → depth_of_act (act.Block m ss) ≡ inside_each highest depth_of_stmt ss
depth_of_block m ss = block_depths m ss ∙ each_found highest (λ d. d) depth_of_stmt ss

bundle_depths : {N A : Type 0} (ss : List (Stmt N A)) → depth_of_act (act.Bundle ss) ≡ inside_each highest (λ d. d) (map depth_of_stmt ss)
bundle_depths ss = search (rules, stmt_lemmas)

pub depth_of_bundle : {N A : Type 0} (ss : List (Stmt N A)) → depth_of_act (act.Bundle ss) ≡ inside_each highest depth_of_stmt ss
depth_of_bundle ss = bundle_depths ss ∙ each_found highest (λ d. d) depth_of_stmt ss

-- One turn of a loop over parts. What is left is shallow exactly when the whole is.
module _ {X : Type 0} (f : X → ℕ) where
  pub greatest_turn : (xs : List X) (i : ℕ) (x : X) → i < length xs → x ≡ get_or xs i x → inside_each highest f (drop i xs) ≡ max (f x) (inside_each highest f (drop (i + 1) xs))
  greatest_turn xs i x h e = rw (add-one, drop-cons xs i x) (ap (λ y. max (f y) (inside_each highest f (drop (suc i) xs))) (sym e))

module _ {X : Type 0} (f : X → ℕ) (xs : List X) (i : ℕ) (x : X) (left : ℕ) (here : i < length xs) (is : x ≡ get_or xs i x)
    (kept : (inside_each highest f xs ≤ left) ↔ (inside_each highest f (drop i xs) ≤ left)) where
  pub turned : (IsTrue true → f x ≤ left) × (f x ≤ left → IsTrue true) → (inside_each highest f xs ≤ left) ↔ (inside_each highest f (drop (i + 1) xs) ≤ left)
  turned h =
      let e = greatest_turn f xs i x here is in
      let d : f x ≤ left = h.0 refl in (
        λ w. let v : inside_each highest f (drop i xs) ≤ left = kept.0 w in omega arith,
        λ w. kept.1 (omega arith),
      )

  pub stopped : (IsTrue false → f x ≤ left) × (f x ≤ left → IsTrue false) → (IsTrue false → inside_each highest f xs ≤ left) × (inside_each highest f xs ≤ left → IsTrue false)
  stopped h =
      let e = greatest_turn f xs i x here is in
      (λ w. cc, λ w. let v : inside_each highest f (drop i xs) ≤ left = kept.0 w in h.1 (omega arith))

pub within_along : (r : Bool) (d e left : ℕ) → d ≡ e → (IsTrue r → e ≤ left) × (e ≤ left → IsTrue r) → (IsTrue r → d ≤ left) × (d ≤ left → IsTrue r)
within_along r d e left p h = subst (λ y. (IsTrue r → y ≤ left) × (y ≤ left → IsTrue r)) (sym p) h
