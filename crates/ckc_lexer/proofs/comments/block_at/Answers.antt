use Rattle.ckc_lexer.proofs.CommentFronts.{closed_longest}
use Rattle.ckc_lexer.proofs.comments.block_at.Goals as goal

pub returns-then-text-len-eq47 : goal.returns-then-text-len-eq47
returns-then-text-len-eq47 c =
    let i = c.loop-len.invariant in
    closed_longest c.args.text.now c.loop-len.len i.behind c.loop-len-test.true c.requires.star i.no_end c.if-text-len-eq42.true c.if-text-len-eq47.true
