use Rattle.std.proofs.Common.{sym, ◌∙◌, arith}
use Rattle.ckc_syntax.specs.code.SameParts.{same_decl}
use Rattle.ckc_syntax.proofs.SameLists.{unlike, stops, goes_on, ends}
use Rattle.ckc_syntax.proofs.same.same_decls.Goals as goal

pub returns-then-ds-es : goal.returns-then-ds-es
returns-then-ds-es c = sym (unlike same_decl _ _ c.if-ds-es.true)

pub returns-then-not-same_decl : goal.returns-then-not-same_decl
returns-then-not-same_decl c =
    sym (c.loop-i.invariant ∙ stops same_decl _ _ c.loop-i.i c.index-ds-i.result c.index-es-i.result
    c.loop-i-test.true (omega arith) c.index-ds-i.is c.index-es-i.is (sym c.same_decl.ensures ∙ c.if-not-same_decl.true))

pub loop-i-preserved : goal.loop-i-preserved
loop-i-preserved c =
    c.loop-i.invariant ∙ goes_on same_decl _ _ c.loop-i.i c.index-ds-i.result c.index-es-i.result
    c.loop-i-test.true (omega arith) c.index-ds-i.is c.index-es-i.is (sym c.same_decl.ensures ∙ c.if-not-same_decl.false)

pub returns : goal.returns
returns c = sym (c.loop-i.invariant ∙ ends same_decl _ _ c.loop-i.i c.if-ds-es.false c.loop-i-test.false)
