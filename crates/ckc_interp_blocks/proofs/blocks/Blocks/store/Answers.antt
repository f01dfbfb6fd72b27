use Rattle.std.proofs.Common.{arith}
use Rattle.ckc_interp_blocks.proofs.Found.{held_has, held_stores, held_apart}
use Rattle.ckc_interp_blocks.proofs.blocks.Blocks.store.Goals as goal

pub store-requires : goal.store-requires
store-requires c =
    let h = c.in-Some.ensures in
    held_has c.args.width c.args.a c.args.self.now.blocks.items c.args.self.now.next c.args.self.now.apart c.in-Some.i h.1
    c.index_mut.result.now (let k = h.0 in omega arith) c.index_mut.ensures.value

pub invariant_of-self : goal.invariant_of-self
invariant_of-self c =
    let h = c.in-Some.ensures in
    record {
      apart = held_apart c.args.width c.args.a c.args.self.now.blocks.items c.args.self.now.next c.args.self.now.apart c.in-Some.i h.1
          c.index_mut.result.now (let k = h.0 in omega arith) c.index_mut.ensures.value c.args.n c.store.new.self c.store.ensures;
      below = c.args.self.now.below;
    }

pub returns-in-Some-clause-stored : goal.returns-in-Some-clause-stored
returns-in-Some-clause-stored c =
    let h = c.in-Some.ensures in
    held_stores c.args.width c.args.a c.args.self.now.blocks.items c.args.self.now.next c.args.self.now.apart c.in-Some.i h.1
    c.index_mut.result.now (let k = h.0 in omega arith) c.index_mut.ensures.value c.args.n c.store.new.self c.store.ensures
