use Rattle.std.proofs.Common.{◌∙◌, sym, arith}
use Rattle.ckc_asm.proofs.Cutting.{place_hash, place_blank, place_end}
use Rattle.ckc_asm.proofs.spots.words_of.Goals as goal

pub returns-then-is_hash : goal.returns-then-is_hash
returns-then-is_hash c = place_hash _ _ _ c.loop-at-test.true (sym c.is_hash.ensures ∙ c.if-is_hash.true) c.loop-at.invariant.words

pub loop-at-preserved-then-is_blank : goal.loop-at-preserved-then-is_blank
loop-at-preserved-then-is_blank c = record {
  within = omega arith;
  words = place_blank _ _ _ c.loop-at-test.true (sym c.is_hash.ensures ∙ c.if-is_hash.false) (sym c.is_blank.ensures ∙ c.if-is_blank.true) c.loop-at.invariant.words;
}

pub returns : goal.returns
returns c = place_end _ _ _ c.loop-at-test.false c.loop-at.invariant.words
