use Rattle.ckc_resolve.proofs.StaticItems.{static_item}
use Rattle.ckc_resolve.proofs.items.named_item.Goals as goal

pub returns-in-Static : goal.returns-in-Static
returns-in-Static c =
    static_item c.named_static.result c.args.names.now c.args.all.now c.args.before.now c.args.item.now c.in-Static.decl c.get.result.now c.in-Static.is c.get.ensures c.named_static.ensures
