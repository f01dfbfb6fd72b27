use Rattle.std.proofs.Common.{sym, ◌∙◌, arith}
use Rattle.ckc_syntax.specs.code.SameParts.{same_expr}
use Rattle.ckc_syntax.proofs.SameLists.{unlike, stops, goes_on, ends}
use Rattle.ckc_syntax.proofs.same.+same.Goals as goal

pub same_exprs-returns-then-es-fs : goal.same_exprs-returns-then-es-fs
same_exprs-returns-then-es-fs t c = sym (unlike same_expr _ _ c.if-es-fs.true)

pub same_exprs-returns-then-not-same_expr : goal.same_exprs-returns-then-not-same_expr
same_exprs-returns-then-not-same_expr t c =
    sym (c.loop-i.invariant ∙ stops same_expr _ _ c.loop-i.i c.index-es-i.result c.index-fs-i.result
    c.loop-i-test.true (omega arith) c.index-es-i.is c.index-fs-i.is (sym c.same_expr.ensures ∙ c.if-not-same_expr.true))

pub same_exprs-loop-i-preserved : goal.same_exprs-loop-i-preserved
same_exprs-loop-i-preserved t c =
    c.loop-i.invariant ∙ goes_on same_expr _ _ c.loop-i.i c.index-es-i.result c.index-fs-i.result
    c.loop-i-test.true (omega arith) c.index-es-i.is c.index-fs-i.is (sym c.same_expr.ensures ∙ c.if-not-same_expr.false)

pub same_exprs-returns : goal.same_exprs-returns
same_exprs-returns t c = sym (c.loop-i.invariant ∙ ends same_expr _ _ c.loop-i.i c.if-es-fs.false c.loop-i-test.false)
