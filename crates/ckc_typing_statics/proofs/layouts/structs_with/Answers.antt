use Rattle.std.specs.Option.{option_copied}
use Rattle.ckc_typed.specs.Layouts.{tag_count}
use Rattle.ckc_typing_statics.specs.code.Shapes.{member_by}
use Rattle.ckc_typing_statics.proofs.Shapes.{put_turn}
use Rattle.ckc_typing_statics.proofs.layouts.structs_with.Goals as goal

pub loop-i-preserved : goal.loop-i-preserved
loop-i-preserved c =
    put_turn (member_by (option_copied c.args.known)) c.args.items.now (tag_count c.args.items.now) c.loop-i.i c.index-items-count.result _ _ c.loop-i-test.true c.index-items-count.is c.loop-i.invariant c.in_ok-put_item.ensures
