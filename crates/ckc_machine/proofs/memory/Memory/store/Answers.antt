use Rattle.ckc_rv.specs.Effects.{store_bytes}
use Rattle.ckc_machine.specs.Memories.{memory_of}
use Rattle.ckc_machine.proofs.Held.{put_is_stored, store_within}
use Rattle.ckc_machine.proofs.memory.Memory.store.Goals as goal

pub returns-clause-bytes : goal.returns-clause-bytes
returns-clause-bytes c =
    put_is_stored (memory_of c.args.self.now) (memory_of c.put_word.new.self) (store_bytes c.args.op) c.args.a c.own_word-word.result c.args.value c.with_part.result
    (store_within c.args.op c.args.a c.requires.aligned) c.own_word-word.ensures c.with_part.ensures c.put_word.ensures.changed
