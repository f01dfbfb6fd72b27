-- What a list of parts has.
use Rattle.std.proofs.Common.{rules, ◌≡◌, Bool, true, List, [], ◌∷◌, map, Option, refl, ◌∙◌}
use Rattle.ckc_base.specs.declared.arithmetic.Mode.{Mode}
use Rattle.ckc_syntax.specs.Inside.{all_have, inside_each}
use Rattle.ckc_syntax.specs.declared.tree.Stmt.{the_lemmas as stmt_lemmas}
use Rattle.ckc_syntax.specs.declared.tree.Act.TheVariants as act
use Rattle.ckc_syntax.proofs.Insides.{each_found}
use Rattle.ckc_typed.specs.Trees.{NotedStmt}
use Rattle.ckc_blame.specs.Checked.{checked_act, checked_stmt}

-- parts in which nothing stands
pub nothing_inside : {X : Type 0} (xs : List X) → inside_each all_have (λ (_ : X). true) xs ≡ true
nothing_inside [] = refl
nothing_inside (x ∷ xs) = nothing_inside xs

block_parts : (m : Option Mode) (ss : List NotedStmt) → checked_act (act.Block m ss) ≡ inside_each all_have (λ b. b) (map checked_stmt ss)
block_parts m ss = search (rules, stmt_lemmas)

pub checked_block : (m : Option Mode) (ss : List NotedStmt) → checked_act (act.Block m ss) ≡ inside_each all_have checked_stmt ss
checked_block m ss = block_parts m ss ∙ each_found all_have (λ b. b) checked_stmt ss

bundle_parts : (ss : List NotedStmt) → checked_act (act.Bundle ss) ≡ inside_each all_have (λ b. b) (map checked_stmt ss)
bundle_parts ss = search (rules, stmt_lemmas)

pub checked_bundle : (ss : List NotedStmt) → checked_act (act.Bundle ss) ≡ inside_each all_have checked_stmt ss
checked_bundle ss = bundle_parts ss ∙ each_found all_have (λ b. b) checked_stmt ss
