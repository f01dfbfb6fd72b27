use Rattle.std.proofs.Common.{◌+◌, refl, sym, ap, ◌∙◌, true, false, not, Some, map, drop}
use Rattle.ckc_core.specs.declared.code.CoreStmt.TheVariants as stmt
use Rattle.ckc_core.specs.Code.{Code, Set, Store, Check, Call, Get, Put, Alloc, If, Loop, expr_of, code_of}
use Rattle.ckc_tac.specs.declared.code.TacOp.TheVariants as op
use Rattle.ckc_lower.specs.code.Terms.{base_of, term_of}
use Rattle.ckc_lower.specs.code.Built.{with_op, with_value, with_values, registers_of, stored, stores_at, used, compares, checked_test, join_of, targets_of}
use Rattle.ckc_lower.proofs.Onward.{IsKeptFrom, go_on, set-of, store-of, check-of, call-of, get-of, put-of, alloc-of, if-of, loop-of, if-built, loop-built}
use Rattle.ckc_lower.proofs.builder.Builder.+code.Goals.{in-Set+in_ok-value-in-Set, in-Store+in_ok-store-in-Store, in-Check+in_ok-check-in-Check, in-Call+in_ok-call-in-Call, in-Get+in_ok-op-in-Get, in-Put+in_ok-put-in-Put, in-Alloc+in_ok-allocate-in-Alloc, in-If+in_ok-join-in-If+in_ok-code-in-If+in_ok-code-in-If-2, in-Loop+in_ok-head-in-Loop+in_ok-here-in-Loop+in_ok-code-in-Loop+in_ok-code-in-Loop-2}
use Rattle.ckc_lower.proofs.builder.Builder.+code.Goals as goal

pub loop-i-preserved : goal.loop-i-preserved
loop-i-preserved t c =
    let rest : Code = code_of (drop (c.loop-i.i + 1) c.args.stmts.now) in
    let go = go_on c.args.locals c.args.stmts.now c.args.exit c.args.loop_at _ c.loop-i.i c.loop-i.fresh c.loop-i.self
    c.index-stmts-i.result c.loop-i-test.true c.index-stmts-i.is c.loop-i.invariant.limits c.loop-i.invariant.built c.match-s.fresh c.match-s.self in
    let done : IsKeptFrom c.args.locals c.args.stmts.now c.args.exit c.args.loop_at _ (c.loop-i.i + 1) c.match-s.fresh c.match-s.self = elim c.match-s.branch [
      | in-Set+in_ok-value-in-Set w ↦ go (stmt.Set w.in-Set.x w.in-Set.e) w.in-Set.is (Set w.in-Set.x (expr_of w.in-Set.e) rest) (set-of w.in-Set.x w.in-Set.e rest) false (with_value (expr_of w.in-Set.e) (Some w.in-Set.x) c.args.locals c.loop-i.self) (λ k. k.1) refl
          w.fresh-is (w.self-is ∙ w.in_ok-value-in-Set.ensures)
      | in-Store+in_ok-store-in-Store w ↦ go (stmt.Store w.in-Store.width w.in-Store.a w.in-Store.e) w.in-Store.is (Store w.in-Store.width (expr_of w.in-Store.a) (expr_of w.in-Store.e) rest) (store-of w.in-Store.width w.in-Store.a w.in-Store.e rest) false (stored c.args.locals (base_of (term_of (expr_of w.in-Store.a))) (term_of (expr_of w.in-Store.e)) (stores_at w.in-Store.width (expr_of w.in-Store.a)) c.loop-i.self) (λ k. k.2) refl
          w.fresh-is (w.self-is ∙ w.in_ok-store-in-Store.ensures)
      | in-Check+in_ok-check-in-Check w ↦ go (stmt.Check w.in-Check.check w.in-Check.at w.in-Check.e) w.in-Check.is (Check w.in-Check.check w.in-Check.at (expr_of w.in-Check.e) rest) (check-of w.in-Check.check w.in-Check.at w.in-Check.e rest) false (compares c.args.locals (checked_test (expr_of w.in-Check.e)) (op.Check w.in-Check.check w.in-Check.at) c.loop-i.self) (λ k. k.1) refl
          w.fresh-is (w.self-is ∙ w.in_ok-check-in-Check.ensures)
      | in-Call+in_ok-call-in-Call w ↦
          let es = w.as_slice.result.now in
          go (stmt.Call w.in-Call.target w.in-Call.callee w.in-Call.es w.in-Call.at) w.in-Call.is (Call w.in-Call.target w.in-Call.callee (map expr_of es) w.in-Call.at rest)
          (call-of w.in-Call.target w.in-Call.callee w.in-Call.es w.in-Call.at rest ∙ ap (λ es. Call w.in-Call.target w.in-Call.callee (map expr_of es) w.in-Call.at rest) (sym w.as_slice.ensures))
          false (with_op (with_values (map expr_of es) c.args.locals c.loop-i.self) (op.Call w.in-Call.target w.in-Call.callee (registers_of (map expr_of es) c.args.locals) w.in-Call.at)) (λ k. k.2) refl
          w.fresh-is (w.self-is ∙ w.in_ok-call-in-Call.ensures)
      | in-Get+in_ok-op-in-Get w ↦ go (stmt.Get w.in-Get.x) w.in-Get.is (Get w.in-Get.x rest) (get-of w.in-Get.x rest) false (with_op c.loop-i.self (op.Get w.in-Get.x)) (λ k. k) refl
          w.fresh-is (w.self-is ∙ w.in_ok-op-in-Get.ensures)
      | in-Put+in_ok-put-in-Put w ↦ go (stmt.Put w.in-Put.e) w.in-Put.is (Put (expr_of w.in-Put.e) rest) (put-of w.in-Put.e rest) false (used c.args.locals (expr_of w.in-Put.e) op.Put c.loop-i.self) (λ k. k.1) refl
          w.fresh-is (w.self-is ∙ w.in_ok-put-in-Put.ensures)
      | in-Alloc+in_ok-allocate-in-Alloc w ↦ go (stmt.Alloc w.in-Alloc.x w.in-Alloc.e w.in-Alloc.size) w.in-Alloc.is (Alloc w.in-Alloc.x (expr_of w.in-Alloc.e) w.in-Alloc.size rest) (alloc-of w.in-Alloc.x w.in-Alloc.e w.in-Alloc.size rest) false (used c.args.locals (expr_of w.in-Alloc.e) (λ r. op.Alloc w.in-Alloc.x r w.in-Alloc.size) c.loop-i.self) (λ k. k.1) refl
          w.fresh-is (w.self-is ∙ w.in_ok-allocate-in-Alloc.ensures)
      | in-If+in_ok-join-in-If+in_ok-code-in-If+in_ok-code-in-If-2 w ↦
          let e = expr_of w.in-If.e in
          let one = w.as_slice-one.result.now in
          let two = w.as_slice-two.result.now in
          go (stmt.If w.in-If.e w.in-If.one w.in-If.two) w.in-If.is (If e (code_of one) (code_of two) rest)
          (if-of w.in-If.e w.in-If.one w.in-If.two rest ∙ ap (λ x. If e (code_of x) (code_of w.in-If.two) rest) (sym w.as_slice-one.ensures)
          ∙ ap (λ x. If e (code_of one) (code_of x) rest) (sym w.as_slice-two.ensures))
          true w.code-in-If.new.self (λ k. k.3)
          (if-built c.args.locals c.loop-i.fresh e (code_of one) (code_of two) rest c.args.exit c.args.loop_at c.loop-i.self w.fork.new.self w.code.new.self w.code-in-If.new.self w.in_ok-join-in-If.join
          (w.in_ok-join-in-If.ensures.join ∙ ap (λ x. join_of (code_of one) (code_of two) (code_of x) c.args.exit c.args.loop_at c.loop-i.self) w.after-rest.ensures) w.in_ok-join-in-If.ensures.built w.in_ok-code-in-If.ensures w.in_ok-code-in-If-2.ensures)
          w.fresh-is w.self-is
      | in-Loop+in_ok-head-in-Loop+in_ok-here-in-Loop+in_ok-code-in-Loop+in_ok-code-in-Loop-2 w ↦
          let body = w.as_slice-body.result.now in
          let step = w.as_slice-step.result.now in
          go (stmt.Loop w.in-Loop.body w.in-Loop.step) w.in-Loop.is (Loop (code_of body) (code_of step) rest)
          (loop-of w.in-Loop.body w.in-Loop.step rest ∙ ap (λ x. Loop (code_of x) (code_of w.in-Loop.step) rest) (sym w.as_slice-body.ensures)
          ∙ ap (λ x. Loop (code_of body) (code_of x) rest) (sym w.as_slice-step.ensures))
          true w.code-in-Loop-2.new.self (λ k. k.2)
          (loop-built c.args.locals c.loop-i.fresh _ (code_of body) (code_of step) rest c.args.exit c.args.loop_at c.loop-i.self w.enter.new.self w.code-in-Loop.new.self w.code-in-Loop-2.new.self
          w.in_ok-head-in-Loop.head w.in_ok-here-in-Loop.here w.in_ok-head-in-Loop.ensures.built w.in_ok-head-in-Loop.ensures.head
          (w.in_ok-here-in-Loop.ensures ∙ ap (λ x. targets_of (code_of body) (code_of step) (code_of x) c.args.exit c.args.loop_at w.in_ok-head-in-Loop.head) w.after-rest-in-Loop.ensures)
          (ap not w.is_passing-first.ensures) w.in_ok-code-in-Loop.ensures w.in_ok-code-in-Loop-2.ensures)
          w.fresh-is w.self-is
    ] in
    record { limits = done.limits; built = done.built_so }
