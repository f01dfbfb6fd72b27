use Rattle.std.proofs.Common.{◌≡◌, ◌<◌, ◌+◌, ◌*◌, ℕ, get_or, ◌∙◌, arith}
use Rattle.ckc_machine.specs.Bytes.{byte_of}
use Rattle.ckc_machine.proofs.Held.{byte_behind, filled_more, filled_all}
use Rattle.ckc_machine.proofs.memory.fill.Goals as goal

pub loop-i-preserved : goal.loop-i-preserved
loop-i-preserved c =
    let words = c.loop-i.region.words.items in
    let bytes = c.args.bytes.now in
    let i = c.loop-i.i in
    let here : (r : ℕ) → r < 4 → byte_of c.first_word.result r ≡ get_or bytes (4 * i + r) 0 = λ r h. c.first_word.ensures r h ∙ byte_behind bytes (4 * i) r in
    record {
      filled = filled_more words c.put.new.self.words.items bytes i c.first_word.result c.put.ensures.here c.put.ensures.others c.loop-i.invariant.filled here;
      zero = λ j h. c.put.ensures.others j (omega arith) ∙ c.loop-i.invariant.zero j (omega arith);
    }

pub returns : goal.returns
returns c = filled_all c.loop-i.region.words.items c.args.bytes.now c.loop-i.i (omega arith) c.loop-i.invariant.filled c.loop-i.invariant.zero
