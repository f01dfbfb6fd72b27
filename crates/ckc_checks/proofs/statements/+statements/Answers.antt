use Rattle.std.proofs.Common.{◌≡◌, ℕ, suc, ◌-◌, ◌<◌, ◌≤◌, List, ◌∷◌, length, drop, drop-cons, slice_index_or, map, rules, sym, ◌∙◌, ap, arith}
use Rattle.std.specs.Prelude.{Option}
use Rattle.ckc_core.specs.Code as core
use Rattle.ckc_core.specs.Code.{Code}
use Rattle.ckc_core.specs.declared.code.CoreStmt as core_stmt
use Rattle.ckc_core.specs.declared.code.CoreStmt.{CoreStmt}
use Rattle.ckc_base.specs.declared.places.Pos.{Pos}
use Rattle.ckc_source.specs.declared.stmt.StmtTree as tree
use Rattle.ckc_source.specs.declared.stmt.StmtTree.{StmtTree}
use Rattle.ckc_source.specs.declared.stmt.Assign.{Assign}
use Rattle.ckc_source.specs.declared.stmt.Kept.{Kept}
use Rattle.ckc_source.specs.declared.stmt.Spot.{Spot}
use Rattle.ckc_source.specs.declared.stmt.TargetTree.{TargetTree}
use Rattle.ckc_source.specs.declared.expr.ExprTree.{ExprTree}
use Rattle.ckc_source.specs.Code as source
use Rattle.ckc_checks_follow.specs.code.Inserted.{right_assigned, bundle_code, statements}
use Rattle.ckc_checks.specs.code.Building.{behind, get_code, put_code, call_code, branch_code, loop_code, return_code, check_code}
use Rattle.ckc_checks.proofs.statements.+statements.Goals as goal

-- One more statement, the one at i - 1, stands in front of those from i on.
turned : (t i : ℕ) (stmts : List StmtTree) (s : StmtTree) (f : Code → Code) (next now : Code) → 0 < i → i ≤ length stmts → s ≡ slice_index_or stmts (i - 1) s
    → ((rest : source.Code) → statements t (source.stmt_of s rest) ≡ f (statements t rest))
    → next ≡ statements t (source.code_of (drop i stmts)) → now ≡ f next
    → record { within : i - 1 ≤ length stmts; built : now ≡ statements t (source.code_of (drop (i - 1) stmts)) }
turned t i stmts s f next now some within is by before after =
    let e : i ≡ suc (i - 1) = omega arith in
    record {
      within = omega arith;
      built =
          after ∙ ap f (before ∙ ap (λ k. statements t (source.code_of (drop k stmts))) e) ∙ sym (by (source.code_of (drop (suc (i - 1)) stmts)))
          ∙ ap (λ l. statements t (source.code_of l)) (ap (λ x. x ∷ drop (suc (i - 1)) stmts) is ∙ sym (drop-cons stmts (i - 1) s (omega arith)));
    }

-- what a statement in front of others is
assigns : (t : ℕ) (spot : Spot) (a : Assign) (rest : source.Code) → statements t (source.stmt_of (tree.Assign spot a) rest) ≡ right_assigned (source.target_of a.target) (source.right_of a.right) t (statements t rest)
assigns t spot a rest = search (rules, tree.the_lemmas)

bundles : (t : ℕ) (spot : Spot) (all : List Assign) (rest : source.Code) → statements t (source.stmt_of (tree.Bundle spot all) rest) ≡ bundle_code (map source.assign_of all) t (statements t rest)
bundles t spot all rest = search (rules, tree.the_lemmas)

gets : (t : ℕ) (spot : Spot) (to : TargetTree) (rest : source.Code) → statements t (source.stmt_of (tree.Get spot to) rest) ≡ get_code (source.target_of to) t (statements t rest)
gets t spot to rest = search (rules, tree.the_lemmas)

puts : (t : ℕ) (spot : Spot) (to : TargetTree) (e : ExprTree) (rest : source.Code) → statements t (source.stmt_of (tree.Put spot to e) rest) ≡ put_code (source.target_of to) (source.expr_of e) t (statements t rest)
puts t spot to e rest = search (rules, tree.the_lemmas)

calls : (t : ℕ) (spot : Spot) (to : Option Kept) (callee : ℕ) (es : List ExprTree) (rest : source.Code) → statements t (source.stmt_of (tree.Call spot to callee es) rest) ≡ call_code to callee (map source.expr_of es) spot.at t (statements t rest)
calls t spot to callee es rest = search (rules, tree.the_lemmas)

breaks : (t : ℕ) (rest : source.Code) → statements t (source.stmt_of tree.Break rest) ≡ core.Break (statements t rest)
breaks t rest = search (rules, tree.the_lemmas)

continues : (t : ℕ) (rest : source.Code) → statements t (source.stmt_of tree.Continue rest) ≡ core.Continue (statements t rest)
continues t rest = search (rules, tree.the_lemmas)

leaves : (t : ℕ) (spot : Spot) (e : ExprTree) (rest : source.Code) → statements t (source.stmt_of (tree.Return spot e) rest) ≡ return_code (source.expr_of e) t (statements t rest)
leaves t spot e rest = search (rules, tree.the_lemmas)

checks : (t : ℕ) (spot : Spot) (e : ExprTree) (rest : source.Code) → statements t (source.stmt_of (tree.Check spot e) rest) ≡ check_code spot.at (source.expr_of e) t (statements t rest)
checks t spot e rest = search (rules, tree.the_lemmas)

branches : (t : ℕ) (spot : Spot) (e : ExprTree) (one two : List StmtTree) (rest : source.Code) → statements t (source.stmt_of (tree.If spot e one two) rest)
    ≡ branch_code (source.expr_of e) t (statements t (source.code_of one)) (statements t (source.code_of two)) (statements t rest)
branches t spot e one two rest = search (rules, tree.the_lemmas)

loops : (t : ℕ) (spot : Spot) (e : ExprTree) (one two : List StmtTree) (rest : source.Code) → statements t (source.stmt_of (tree.Loop spot e one two) rest)
    ≡ loop_code (source.expr_of e) t (statements t (source.code_of one)) (statements t (source.code_of two)) (statements t rest)
loops t spot e one two rest = search (rules, tree.the_lemmas)

-- two lists of statements whose code stands in the code of one
module _ (t : ℕ) (form : source.Expr → ℕ → Code → Code → Code → Code) (rest : Code) where
  pub with_two : (e e2 : ExprTree) (one two : List CoreStmt) (p p2 q q2 : List StmtTree) → e2 ≡ e → p2 ≡ p → behind one ≡ statements t (source.code_of p2)
      → q2 ≡ q → behind two ≡ statements t (source.code_of q2)
      → form (source.expr_of e2) t (behind one) (behind two) rest ≡ form (source.expr_of e) t (statements t (source.code_of p)) (statements t (source.code_of q)) rest
  with_two e e2 one two p p2 q q2 same is_p code_one is_q code_two = cc

break_put : (rest : Code) → core.stmt_of core_stmt.Break rest ≡ core.Break rest
break_put rest = search (rules, core_stmt.the_lemmas)

continue_put : (rest : Code) → core.stmt_of core_stmt.Continue rest ≡ core.Continue rest
continue_put rest = search (rules, core_stmt.the_lemmas)

pub loop-i-preserved-in-Continue-1 : goal.loop-i-preserved-in-Continue-1
loop-i-preserved-in-Continue-1 t c =
    turned c.args.t c.loop-i.i c.args.stmts.now c.index-stmts-i.result (right_assigned (source.target_of c.in-Assign.a.target) (source.right_of c.in-Assign.a.right) c.args.t) _ _ c.loop-i-test.true c.loop-i.invariant.within c.index-stmts-i.is
    (λ rest. ap (λ s. statements c.args.t (source.stmt_of s rest)) c.in-Assign.is ∙ assigns c.args.t c.in-Assign.field-0 c.in-Assign.a rest) c.loop-i.invariant.built
    (c.in_ok-assign-in-Assign.ensures ∙ ap (λ a. right_assigned (source.target_of a.target) (source.right_of a.right) c.args.t (behind c.loop-i.code)) c.get.ensures)

pub loop-i-preserved-in-Continue-branch-2 : goal.loop-i-preserved-in-Continue-branch-2
loop-i-preserved-in-Continue-branch-2 t c =
    turned c.args.t c.loop-i.i c.args.stmts.now c.index-stmts-i.result (bundle_code (map source.assign_of c.in-Bundle.all) c.args.t) _ _ c.loop-i-test.true c.loop-i.invariant.within c.index-stmts-i.is
    (λ rest. ap (λ s. statements c.args.t (source.stmt_of s rest)) c.in-Bundle.is ∙ bundles c.args.t c.in-Bundle.field-0 c.in-Bundle.all rest) c.loop-i.invariant.built
    (c.in_ok-bundle-in-Bundle.ensures ∙ ap (λ all. bundle_code (map source.assign_of all) c.args.t (behind c.loop-i.code)) c.as_slice.ensures)

pub loop-i-preserved-in-Continue-branch-3 : goal.loop-i-preserved-in-Continue-branch-3
loop-i-preserved-in-Continue-branch-3 t c =
    turned c.args.t c.loop-i.i c.args.stmts.now c.index-stmts-i.result (get_code (source.target_of c.in-Get.target) c.args.t) _ _ c.loop-i-test.true c.loop-i.invariant.within c.index-stmts-i.is
    (λ rest. ap (λ s. statements c.args.t (source.stmt_of s rest)) c.in-Get.is ∙ gets c.args.t c.in-Get.field-0 c.in-Get.target rest) c.loop-i.invariant.built
    (c.in_ok-get-in-Get.ensures ∙ ap (λ to. get_code (source.target_of to) c.args.t (behind c.loop-i.code)) c.get-in-Get.ensures)

pub loop-i-preserved-in-Continue-branch-4 : goal.loop-i-preserved-in-Continue-branch-4
loop-i-preserved-in-Continue-branch-4 t c =
    turned c.args.t c.loop-i.i c.args.stmts.now c.index-stmts-i.result (put_code (source.target_of c.in-Put.target) (source.expr_of c.in-Put.e) c.args.t) _ _ c.loop-i-test.true c.loop-i.invariant.within c.index-stmts-i.is
    (λ rest. ap (λ s. statements c.args.t (source.stmt_of s rest)) c.in-Put.is ∙ puts c.args.t c.in-Put.field-0 c.in-Put.target c.in-Put.e rest) c.loop-i.invariant.built
    (c.in_ok-put-in-Put.ensures ∙ ap (λ to. put_code (source.target_of to) (source.expr_of c.get-in-Put-2.result.now) c.args.t (behind c.loop-i.code)) c.get-in-Put.ensures
    ∙ ap (λ e. put_code (source.target_of c.in-Put.target) (source.expr_of e) c.args.t (behind c.loop-i.code)) c.get-in-Put-2.ensures)

pub loop-i-preserved-in-Continue-branch-5 : goal.loop-i-preserved-in-Continue-branch-5
loop-i-preserved-in-Continue-branch-5 t c =
    turned c.args.t c.loop-i.i c.args.stmts.now c.index-stmts-i.result (call_code c.in-Call.target c.in-Call.callee (map source.expr_of c.in-Call.es) c.in-Call.spot.at c.args.t) _ _ c.loop-i-test.true c.loop-i.invariant.within c.index-stmts-i.is
    (λ rest. ap (λ s. statements c.args.t (source.stmt_of s rest)) c.in-Call.is ∙ calls c.args.t c.in-Call.spot c.in-Call.target c.in-Call.callee c.in-Call.es rest) c.loop-i.invariant.built
    (c.in_ok-call-in-Call.ensures ∙ ap (λ es. call_code c.in-Call.target c.in-Call.callee (map source.expr_of es) c.in-Call.spot.at c.args.t (behind c.loop-i.code)) c.as_slice-in-Call.ensures)

pub loop-i-preserved-in-Continue-branch-12 : goal.loop-i-preserved-in-Continue-branch-12
loop-i-preserved-in-Continue-branch-12 t c =
    turned c.args.t c.loop-i.i c.args.stmts.now c.index-stmts-i.result (core.Break) _ _ c.loop-i-test.true c.loop-i.invariant.within c.index-stmts-i.is
    (λ rest. ap (λ s. statements c.args.t (source.stmt_of s rest)) c.in-Break.is ∙ breaks c.args.t rest) c.loop-i.invariant.built
    (c.in_ok-front-in-Break.ensures ∙ break_put (behind c.loop-i.code))

pub loop-i-preserved-in-Continue-branch-13 : goal.loop-i-preserved-in-Continue-branch-13
loop-i-preserved-in-Continue-branch-13 t c =
    turned c.args.t c.loop-i.i c.args.stmts.now c.index-stmts-i.result (core.Continue) _ _ c.loop-i-test.true c.loop-i.invariant.within c.index-stmts-i.is
    (λ rest. ap (λ s. statements c.args.t (source.stmt_of s rest)) c.in-Continue.is ∙ continues c.args.t rest) c.loop-i.invariant.built
    (c.in_ok-front-in-Continue.ensures ∙ continue_put (behind c.loop-i.code))

pub loop-i-preserved-in-Continue-branch-14 : goal.loop-i-preserved-in-Continue-branch-14
loop-i-preserved-in-Continue-branch-14 t c =
    turned c.args.t c.loop-i.i c.args.stmts.now c.index-stmts-i.result (return_code (source.expr_of c.in-Return.e) c.args.t) _ _ c.loop-i-test.true c.loop-i.invariant.within c.index-stmts-i.is
    (λ rest. ap (λ s. statements c.args.t (source.stmt_of s rest)) c.in-Return.is ∙ leaves c.args.t c.in-Return.field-0 c.in-Return.e rest) c.loop-i.invariant.built
    (c.in_ok-leave-in-Return.ensures ∙ ap (λ e. return_code (source.expr_of e) c.args.t (behind c.loop-i.code)) c.get-in-Return.ensures)

pub loop-i-preserved : goal.loop-i-preserved
loop-i-preserved t c =
    turned c.args.t c.loop-i.i c.args.stmts.now c.index-stmts-i.result (check_code c.in-Check.spot.at (source.expr_of c.in-Check.e) c.args.t) _ _ c.loop-i-test.true c.loop-i.invariant.within c.index-stmts-i.is
    (λ rest. ap (λ s. statements c.args.t (source.stmt_of s rest)) c.in-Check.is ∙ checks c.args.t c.in-Check.spot c.in-Check.e rest) c.loop-i.invariant.built
    (c.in_ok-check-in-Check.ensures ∙ ap (λ e. check_code c.in-Check.spot.at (source.expr_of e) c.args.t (behind c.loop-i.code)) c.get-in-Check.ensures)

pub loop-i-preserved-in-Continue-branch-8 : goal.loop-i-preserved-in-Continue-branch-8
loop-i-preserved-in-Continue-branch-8 t c =
    turned c.args.t c.loop-i.i c.args.stmts.now c.index-stmts-i.result (branch_code (source.expr_of c.in-If.e) c.args.t (statements c.args.t (source.code_of c.in-If.one)) (statements c.args.t (source.code_of c.in-If.two))) _ _ c.loop-i-test.true c.loop-i.invariant.within c.index-stmts-i.is
    (λ rest. ap (λ s. statements c.args.t (source.stmt_of s rest)) c.in-If.is ∙ branches c.args.t c.in-If.field-0 c.in-If.e c.in-If.one c.in-If.two rest) c.loop-i.invariant.built
    (c.in_ok-branch-in-If.ensures ∙ with_two c.args.t branch_code (behind c.loop-i.code) _ _ _ _ _ _ _ _ c.get-in-If.ensures c.as_slice-in-If.ensures c.in_ok-statements-in-If.ensures c.as_slice-in-If-2.ensures c.in_ok-statements-in-If-2.ensures)

pub loop-i-preserved-in-Continue-branch-11 : goal.loop-i-preserved-in-Continue-branch-11
loop-i-preserved-in-Continue-branch-11 t c =
    turned c.args.t c.loop-i.i c.args.stmts.now c.index-stmts-i.result (loop_code (source.expr_of c.in-Loop.e) c.args.t (statements c.args.t (source.code_of c.in-Loop.body)) (statements c.args.t (source.code_of c.in-Loop.step))) _ _ c.loop-i-test.true c.loop-i.invariant.within c.index-stmts-i.is
    (λ rest. ap (λ s. statements c.args.t (source.stmt_of s rest)) c.in-Loop.is ∙ loops c.args.t c.in-Loop.field-0 c.in-Loop.e c.in-Loop.body c.in-Loop.step rest) c.loop-i.invariant.built
    (c.in_ok-turn-in-Loop.ensures ∙ with_two c.args.t loop_code (behind c.loop-i.code) _ _ _ _ _ _ _ _ c.get-in-Loop.ensures c.as_slice-in-Loop.ensures c.in_ok-statements-in-Loop.ensures c.as_slice-in-Loop-2.ensures c.in_ok-statements-in-Loop-2.ensures)
